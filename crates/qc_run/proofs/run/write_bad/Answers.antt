use Rattle.std.proofs.Common.{◌++◌, codes, decimal, refl, ◌≡◌, ◌∙◌}
use Rattle.qc_run.specs.Ending.{script_line}
use Rattle.qc_run.proofs.OutsideLemmas.{appends_more}
use Rattle.qc_run.proofs.run.write_bad.Goals as goal

pub returns-clause-ok : goal.returns-clause-ok
returns-clause-ok g c =
    let digits : c.as_bytes.result.now ≡ decimal c.args.line = c.as_bytes.ensures.value ∙ c.format.ensures.text in
    appends_more _ _ _ (codes "script line ") (decimal c.args.line ++ codes "\n") (script_line c.args.line) refl c.in_ok-write_all.ensures.ok
    (appends_more _ _ _ (decimal c.args.line) (codes "\n") (decimal c.args.line ++ codes "\n") refl (rw digits at c.in_ok-write_all-2.ensures.ok) c.in_ok-write_all-3.ensures.ok)

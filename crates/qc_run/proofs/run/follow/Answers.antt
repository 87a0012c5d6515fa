use Rattle.std.proofs.Common.{◌≢◌, sym, ◌∙◌}
use Rattle.qc_run.specs.declared.run.Status.TheVariants as status
use Rattle.qc_run.proofs.EndingLemmas.{named_long, named_refused}
use Rattle.qc_run.proofs.run.follow.Goals as goal

pub returns-then-bytes-gt-SCRIPT_LIMIT-clause-bad_script :
    goal.returns-then-bytes-gt-SCRIPT_LIMIT-clause-bad_script
returns-then-bytes-gt-SCRIPT_LIMIT-clause-bad_script g c is =
    let other : c.end_bad.result ≢ status.WriteFault = λ e. cc in
    named_long c.args.bytes.now _ _ c.if-bytes-gt-SCRIPT_LIMIT.true (c.end_bad.ensures.written other)

pub returns-clause-bad_script : goal.returns-clause-bad_script
returns-clause-bad_script g c is =
    let other : c.end_refused.result ≢ status.WriteFault = λ e. cc in
    named_refused c.args.bytes.now c.in-Err.why _ _ c.if-bytes-gt-SCRIPT_LIMIT.false c.in-Err.ensures.refusal (sym (c.end_refused.ensures.status other) ∙ is) (c.end_refused.ensures.written other)

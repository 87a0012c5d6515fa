use Rattle.std.proofs.Common.{rules, ◌≡◌, sym, ◌∙◌, subst}
use Rattle.std.specs.List.{All}
use Rattle.qc_text.specs.OneText.{IsInRange}
use Rattle.qc_text.specs.TraceText.{trace_text}
use Rattle.qc_text.proofs.TraceBack.{trace_back}
use Rattle.qc_text.proofs.trace.trace_text.Goals as goal

pub returns-clause-one : goal.returns-clause-one
unfolding trace_text
returns-clause-one c plain other range' plain' e =
    let text : c.extend_from_slice.new.self.items ≡ trace_text c.args.trace.now = search rules in
    let range = subst (All IsInRange) c.as_slice.ensures c.in_ok-out.ensures.in_range in
    trace_back other c.args.trace.now range' range plain' plain (sym e ∙ text)

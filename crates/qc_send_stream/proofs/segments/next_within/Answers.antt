use Rattle.std.proofs.Common.{◌∙◌, sym, refl}
use Rattle.std.proofs.lemmas.Bool.{le-leb, lt-leb}
use Rattle.qc_send_stream.specs.Segments.{end_by, next_within}
use Rattle.qc_send_stream.proofs.Past.{past_some, past_none}
use Rattle.qc_send_stream.proofs.segments.next_within.Goals as goal

pub returns-in_default : goal.returns-in_default
unfolding next_within end_by
returns-in_default c = rw (past_none c.args.start c.args.segments.now.entries (sym (c.range.ensures.between tt) ∙ c.in_default.ensures.steps.0)) refl

pub returns-then-at-end : goal.returns-then-at-end
unfolding next_within end_by
returns-then-at-end c =
    rw (past_some c.args.start c.args.segments.now.entries _ c.next.new.self (sym (c.range.ensures.between tt) ∙ c.in-Some.ensures.steps), le-leb c.in-Some.at.now c.args.end c.if-at-end.true) refl

pub returns-else-at-end : goal.returns-else-at-end
unfolding next_within end_by
returns-else-at-end c =
    rw (past_some c.args.start c.args.segments.now.entries _ c.next.new.self (sym (c.range.ensures.between tt) ∙ c.in-Some.ensures.steps), lt-leb c.in-Some.at.now c.args.end c.if-at-end.false) refl

use Rattle.std.proofs.Common.{◌∙◌}
use Rattle.qc_streams.proofs.Told.{all_are, one_told}
use Rattle.qc_streams.proofs.state.StreamsState.tell_all.Goals as goal

pub loop-first-preserved : goal.loop-first-preserved
loop-first-preserved c =
    one_told c.args.below c.in-Some.first c.loop-first.self c.pop.new.self c.tell_writable.new.self c.in-Some.ensures.first
    c.in-Some.ensures.gone c.tell_writable.ensures ∙ c.loop-first.invariant

pub returns : goal.returns
returns c =
    all_are c.args.below c.loop-first.self c.pop.new.self c.in_default.ensures.first c.in_default.ensures.gone ∙ c.loop-first.invariant

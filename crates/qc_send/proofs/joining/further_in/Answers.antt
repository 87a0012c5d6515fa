use Rattle.std.proofs.Common.{ℕ, subst}
use Rattle.qc_state.specs.View.{ideal}
use Rattle.qc_send.specs.Joining.{HasIn}
use Rattle.qc_send.proofs.Joins.{further_is}
use Rattle.qc_send.proofs.joining.further_in.Goals as goal

-- what the limits make of it
pub returns : goal.returns
returns g c =
    further_is _ c.args.now (ideal g.U.Random.Rng.stream c.args.core.now) c.args.batch.now c.args.space _ _ c.limit-limit.result _ c.requires.full c.requires.more c.begins_behind-begins.ensures c.if-not-begins.false
    c.is_small-small.ensures c.if-small.false c.limit-limit.ensures
    (subst (λ (n : ℕ). HasIn c.args.batch.now.closing c.args.now n (ideal g.U.Random.Rng.stream c.args.core.now) c.args.space) c.next_segment-left.ensures (c.in_ok-some.ensures.has c.if-not-some.false)) c.further_by.ensures

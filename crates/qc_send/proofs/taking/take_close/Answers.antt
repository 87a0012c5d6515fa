use Rattle.qc_state.specs.View.{ideal}
use Rattle.qc_send.proofs.ClosingFrames.{reason_kept, close_pushed, ack_by}
use Rattle.qc_send.proofs.Takes.{close_taken, closes_so}
use Rattle.qc_send.proofs.taking.take_close.Goals as goal

-- the ACK, where there is something to acknowledge and room for it, and the close
pub returns-clause-frames : goal.returns-clause-frames
returns-clause-frames g c =
    closes_so _ (ideal g.U.Random.Rng.stream c.args.core.now) _ _ c.kept_reason.result.now c.in_ok-frames.frames _
    (ack_by _ _ _ _ _ _ c.saturating_sub-most.ensures c.in_ok-frames.ensures.frames)
    (reason_kept (ideal g.U.Random.Rng.stream c.args.core.now) _ _ _ _ _ _ c.in_ok-frames.ensures.leads c.room_left-left.ensures c.kept_reason.ensures)
    (close_pushed (ideal g.U.Random.Rng.stream c.args.core.now) _ _ _ _ _ _ c.in_ok-frames.ensures.leads c.in_ok-close.ensures c.in_ok-push.ensures.ok)

-- the close leaves all that waits
pub returns-clause-leads : goal.returns-clause-leads
returns-clause-leads g c =
    close_taken (ideal g.U.Random.Rng.stream c.args.core.now) _ _ c.kept_reason.result.now c.in_ok-frames.frames _ c.in_ok-frames.ensures.leads
    (close_pushed (ideal g.U.Random.Rng.stream c.args.core.now) _ _ _ _ _ _ c.in_ok-frames.ensures.leads c.in_ok-close.ensures c.in_ok-push.ensures.ok)

use Rattle.std.proofs.Common.{◌≡◌, length}
use Rattle.std.specs.List.{list_any}
use Rattle.qc_frame.specs.Payload.{items_of}
use Rattle.qc_state.specs.Receiving.{is_eliciting_item}
use Rattle.qc_admit.proofs.payloads.elicits.Given as goal

-- what is left decides
abbrev pub invariant-loop-read : goal.invariant-loop-read
invariant-loop-read l = list_any is_eliciting_item (items_of l.frames) ≡ list_any is_eliciting_item (items_of l.fn.payload)

-- the frames that are left are ever fewer
abbrev pub decreases-loop-read : goal.decreases-loop-read
decreases-loop-read l = length (items_of l.frames)

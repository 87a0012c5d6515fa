use Rattle.std.proofs.Common.{◌≡◌}
use Rattle.std.specs.List.{list_any}
use Rattle.qc_frame.specs.Payload.{items_of}
use Rattle.qc_state.specs.Receiving.{is_close_item}
use Rattle.qc_admit.proofs.payloads.holds_close.Given as goal

-- what is left decides
abbrev pub invariant-loop-item : goal.invariant-loop-item
invariant-loop-item l = list_any is_close_item (items_of l.item-iterator) ≡ list_any is_close_item (items_of l.payload)

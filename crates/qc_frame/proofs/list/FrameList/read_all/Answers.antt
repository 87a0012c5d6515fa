use Rattle.std.proofs.Common.{◌≡◌, ℕ, Result, subst, List, ◌∷◌, ◌++◌, map, Ok, Err, sym, ap, ◌∙◌}
use Rattle.std.specs.Borrow.{Bor}
use Rattle.qc_frame.specs.declared.fault.InvalidFrame.{InvalidFrame}
use Rattle.qc_frame.specs.declared.frames.TypedOf.{TypedOf}
use Rattle.qc_frame.specs.Payload.{Item, items_of, item_view, untyped}
use Rattle.qc_frame.proofs.Items.{fault_last}
use Rattle.qc_frame.proofs.list.FrameList.read_all.Goals as goal

pub returns-in-Err : goal.returns-in-Err
returns-in-Err c =
    let there : items_of c.loop-item.item-iterator ≡ Err c.in-Err.invalid ∷ items_of c.next.new.self = subst (λ (x : Result (TypedOf (Bor (List ℕ))) InvalidFrame). items_of c.loop-item.item-iterator ≡ item_view x ∷ items_of c.next.new.self) c.in-Err.is c.in-Some.ensures.steps in
    let last = fault_last c.loop-item.item-iterator c.in-Err.invalid (items_of c.next.new.self) there in
    sym c.loop-item.invariant ∙ ap (λ (is : List Item). map Ok c.loop-item.list ++ map untyped is) (there ∙ ap (λ (is : List Item). Err c.in-Err.invalid ∷ is) last)

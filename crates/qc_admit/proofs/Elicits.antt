-- Whether a payload elicits an acknowledgement, behind a run of PADDING.
use Rattle.std.proofs.Common.{◌≡◌, ℕ, zero, suc, List, [], ◌∷◌, ◌++◌, replicate, refl, ap, sym, ◌∙◌, Bool, true, false, Result, Ok, Err}
use Rattle.std.specs.Prelude.{◌||◌}
use Rattle.std.specs.List.{list_any}
use Rattle.std.specs.Borrow.{Bor}
use Rattle.qc_frame.specs.Frame.{borrowed}
use Rattle.qc_frame.specs.FrameSpelling.{elicits}
use Rattle.qc_frame.specs.Payload.{Item, items_of, item_view, padding_item}
use Rattle.qc_frame.specs.declared.fault.InvalidFrame.{InvalidFrame}
use Rattle.qc_frame.specs.declared.frames.TypedOf.{TypedOf}
use Rattle.qc_state.specs.Receiving.{is_eliciting_item}

-- PADDING elicits nothing
any_padding : (n : ℕ) (items : List Item) → list_any is_eliciting_item (replicate n padding_item ++ items) ≡ list_any is_eliciting_item items
unfolding elicits
any_padding zero items = refl
any_padding (suc n) items = any_padding n items

-- what is left behind a run of PADDING
any_skipped : (n : ℕ) (old new : List ℕ) (target : Bool) → items_of old ≡ replicate n padding_item ++ items_of new → list_any is_eliciting_item (items_of old) ≡ target → list_any is_eliciting_item (items_of new) ≡ target
any_skipped n old new target is h = sym (ap (list_any is_eliciting_item) is ∙ any_padding n (items_of new)) ∙ h

-- nothing is left
pub none_elicits : (n : ℕ) (old new : List ℕ) (target : Bool) → items_of old ≡ replicate n padding_item ++ items_of new → items_of new ≡ [] → list_any is_eliciting_item (items_of old) ≡ target → false ≡ target
none_elicits n old new target is none h = ap (list_any is_eliciting_item) (sym none) ∙ any_skipped n old new target is h

-- bytes that are no frame are left
pub fault_elicits : (n : ℕ) (old new rest : List ℕ) (item : Result (TypedOf (Bor (List ℕ))) InvalidFrame) (fault : InvalidFrame) (target : Bool) → items_of old ≡ replicate n padding_item ++ items_of new →
    items_of new ≡ item_view item ∷ items_of rest → item ≡ Err fault → list_any is_eliciting_item (items_of old) ≡ target → list_any is_eliciting_item (items_of rest) ≡ target
fault_elicits n old new rest item fault target is steps e h =
    ap (λ (x : Result (TypedOf (Bor (List ℕ))) InvalidFrame). list_any is_eliciting_item (item_view x ∷ items_of rest)) (sym e) ∙ ap (list_any is_eliciting_item) (sym steps) ∙ any_skipped n old new target is h

-- a frame is left
frame_by : (n : ℕ) (old new rest : List ℕ) (item : Result (TypedOf (Bor (List ℕ))) InvalidFrame) (read : TypedOf (Bor (List ℕ))) (target : Bool) → items_of old ≡ replicate n padding_item ++ items_of new →
    items_of new ≡ item_view item ∷ items_of rest → item ≡ Ok read → list_any is_eliciting_item (items_of old) ≡ target → (elicits (borrowed read.frame) || list_any is_eliciting_item (items_of rest)) ≡ target
frame_by n old new rest item read target is steps e h =
    ap (λ (x : Result (TypedOf (Bor (List ℕ))) InvalidFrame). list_any is_eliciting_item (item_view x ∷ items_of rest)) (sym e) ∙ ap (list_any is_eliciting_item) (sym steps) ∙ any_skipped n old new target is h

-- and it elicits
pub one_elicits : (n : ℕ) (old new rest : List ℕ) (item : Result (TypedOf (Bor (List ℕ))) InvalidFrame) (read : TypedOf (Bor (List ℕ))) (target asks : Bool) → items_of old ≡ replicate n padding_item ++ items_of new →
    items_of new ≡ item_view item ∷ items_of rest → item ≡ Ok read → asks ≡ elicits (borrowed read.frame) → asks ≡ true → list_any is_eliciting_item (items_of old) ≡ target → true ≡ target
one_elicits n old new rest item read target asks is steps e is_asks does h =
    ap (λ (x : Bool). x || list_any is_eliciting_item (items_of rest)) (sym does ∙ is_asks) ∙ frame_by n old new rest item read target is steps e h

-- or doesn't
pub other_elicits : (n : ℕ) (old new rest : List ℕ) (item : Result (TypedOf (Bor (List ℕ))) InvalidFrame) (read : TypedOf (Bor (List ℕ))) (target asks : Bool) → items_of old ≡ replicate n padding_item ++ items_of new →
    items_of new ≡ item_view item ∷ items_of rest → item ≡ Ok read → asks ≡ elicits (borrowed read.frame) → asks ≡ false → list_any is_eliciting_item (items_of old) ≡ target → list_any is_eliciting_item (items_of rest) ≡ target
other_elicits n old new rest item read target asks is steps e is_asks does_not h =
    ap (λ (x : Bool). x || list_any is_eliciting_item (items_of rest)) (sym does_not ∙ is_asks) ∙ frame_by n old new rest item read target is steps e h

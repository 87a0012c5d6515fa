-- The frames that are left of a payload fit their fields, where all of its frames do.
use Rattle.std.proofs.Common.{◌≡◌, ℕ, zero, suc, List, ◌∷◌, ◌++◌, replicate, ap, ◌∙◌, subst, Result, Ok}
use Rattle.std.proofs.lemmas.List.Elements.{All-head, All-tail}
use Rattle.std.specs.Prelude.{IfOk}
use Rattle.std.specs.Borrow.{Bor}
use Rattle.std.specs.List.{All}
use Rattle.qc_admit.specs.Items.{NextIs}
use Rattle.qc_frame.specs.Frame.{borrowed, typed}
use Rattle.qc_frame.specs.FrameFits.{Fits}
use Rattle.qc_frame.specs.Payload.{Item, items_of, item_view, padding_item}
use Rattle.qc_frame.specs.declared.fault.InvalidFrame.{InvalidFrame}
use Rattle.qc_frame.specs.declared.frames.TypedOf.{TypedOf}

-- an item that is a frame fits its fields
abbrev pub FitsItem : Item → Type 0
FitsItem item = IfOk item (λ read. Fits read.frame)

-- each one does
abbrev pub ItemsFit : List Item → Type 0
ItemsFit items = All (λ item. IfOk item (λ read. Fits read.frame)) items

-- behind PADDING
behind_padding : (n : ℕ) (items : List Item) → ItemsFit (replicate n padding_item ++ items) → ItemsFit items
behind_padding zero items h = h
behind_padding (suc n) items h = behind_padding n items (All-tail FitsItem padding_item (replicate n padding_item ++ items) h)

-- behind a run of it that was skipped
skipped_fit : (n : ℕ) (old new : List ℕ) → items_of old ≡ replicate n padding_item ++ items_of new → ItemsFit (items_of old) → ItemsFit (items_of new)
skipped_fit n old new is h = behind_padding n (items_of new) (subst ItemsFit is h)

-- the next one does
pub next_fits : (n : ℕ) (old mid : List ℕ) (rest : List Item) (item : Result (TypedOf (Bor (List ℕ))) InvalidFrame) (read : TypedOf (Bor (List ℕ))) →
    items_of old ≡ replicate n padding_item ++ items_of mid → items_of mid ≡ item_view item ∷ rest → item ≡ Ok read → ItemsFit (items_of old) → Fits (borrowed read.frame)
next_fits n old mid rest item read skipped steps is h =
    All-head FitsItem (Ok (typed read)) rest (subst ItemsFit (steps ∙ ap (λ (x : Result (TypedOf (Bor (List ℕ))) InvalidFrame). item_view x ∷ rest) is) (skipped_fit n old mid skipped h))

-- those behind it
pub rest_fit : (item : Item) (rest old : List Item) → NextIs item rest old → ItemsFit old → ItemsFit rest
rest_fit item rest old next h = All-tail FitsItem item rest (behind_padding next.0 (item ∷ rest) (subst ItemsFit next.1 h))

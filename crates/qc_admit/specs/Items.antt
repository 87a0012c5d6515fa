-- The items of a payload that are left, behind a run of PADDING.
use Rattle.std.specs.Prelude.{◌≡◌, ℕ, List, ◌∷◌, ◌++◌, replicate, Err}
use Rattle.qc_admit.specs.declared.behind.Left.{Left}
use Rattle.qc_admit.specs.declared.behind.Left.TheVariants.{End, Fault}
use Rattle.qc_frame.specs.Payload.{Item, padding_item}

-- behind PADDING, which does nothing, this item is the next one, and these are behind it
abbrev pub NextIs : (item : Item) → (rest items : List Item) → Type 0
NextIs item rest items = (n : ℕ) × (items ≡ replicate n padding_item ++ item ∷ rest)

-- why no frame is the next one: there is nothing but PADDING, or bytes that are no frame
abbrev pub IsLeft : Left → List Item → Type 0
IsLeft End items = (n : ℕ) × (items ≡ replicate n padding_item)
IsLeft (Fault fault) items = (rest : List Item) × NextIs (Err fault) rest items

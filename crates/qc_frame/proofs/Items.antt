-- The items of a payload, one by one
use Rattle.std.proofs.Common.{◌≡◌, ℕ, zero, suc, ◌<◌, ◌≤◌, List, [], ◌∷◌, length, Result, Ok, Err, MatchResult, refl, ap, sym, ◌∙◌, arith}
use Rattle.std.specs.Borrow.{Bor}
use Rattle.qc_frame.specs.Frame.{TypedValue, typed}
use Rattle.qc_frame.specs.FrameReading.{frame_at}
use Rattle.qc_frame.specs.Payload.{Item, item_and, item_view, items_within, items_of}
use Rattle.qc_frame.specs.declared.fault.InvalidFrame.{InvalidFrame}
use Rattle.qc_frame.specs.declared.frames.TypedOf.{TypedOf}
use Rattle.qc_frame.proofs.FrontFrame.{frame_shorter}

-- the others are the same by any two functions that agree on shorter bytes
same_and : (v : Result (TypedValue × List ℕ) InvalidFrame) (g h : List ℕ → List Item) → ((f : TypedValue) (z : List ℕ) → v ≡ Ok (f, z) → g z ≡ h z) → item_and v g ≡ item_and v h
same_and (Ok x) g h same = ap (λ (is : List Item). Ok x.0 ∷ is) (same x.0 x.1 refl)
same_and (Err e) g h same = refl

-- any bound that is long enough gives the same items
enough : (m n : ℕ) (a : List ℕ) → length a ≤ m → length a ≤ n → items_within m a ≡ items_within n a
enough zero zero a g h = refl
enough zero (suc n) [] g h = refl
enough zero (suc n) (b ∷ a) g h = absurd (omega arith)
enough (suc m) zero [] g h = refl
enough (suc m) zero (b ∷ a) g h = absurd (omega arith)
enough (suc m) (suc n) [] g h = refl
enough (suc m) (suc n) (b ∷ a) g h =
    same_and (frame_at (b ∷ a)) (items_within m) (items_within n)
    (λ f z e. let less : length z < length (b ∷ a) = frame_shorter (b ∷ a) f z e in enough m n z (omega arith) (omega arith))

pub items_none : (a : List ℕ) → length a ≡ 0 → items_of a ≡ []
unfolding items_of
items_none [] none = refl
items_none (b ∷ a) none = absurd (omega arith)

pub items_frame : (a : List ℕ) (f : TypedValue) (z : List ℕ) → 0 < length a → frame_at a ≡ Ok (f, z) → items_of a ≡ Ok f ∷ items_of z
unfolding items_of
items_frame [] f z some e = absurd (omega arith)
items_frame (b ∷ a) f z some e =
    let less : length z < length (b ∷ a) = frame_shorter (b ∷ a) f z e in
    ap (λ v. item_and v (items_within (length a))) e ∙ ap (λ (is : List Item). Ok f ∷ is) (enough (length a) (length z) z (omega arith) (omega arith))

pub items_fault : (a : List ℕ) (e : InvalidFrame) → 0 < length a → frame_at a ≡ Err e → items_of a ≡ Err e ∷ []
unfolding items_of
items_fault [] f some e = absurd (omega arith)
items_fault (b ∷ a) f some e = ap (λ v. item_and v (items_within (length a))) e

-- an item that was read, and those that are read from the bytes behind it
pub items_item : (a : List ℕ) (item : Result (TypedOf (Bor (List ℕ))) InvalidFrame) (z : List ℕ) → 0 < length a
    → MatchResult item (λ read. frame_at a ≡ Ok (typed read, z)) (λ invalid. (frame_at a ≡ Err invalid) × (z ≡ []))
    → items_of a ≡ item_view item ∷ items_of z
items_item a (Ok read) z some e = items_frame a (typed read) z some e
items_item a (Err invalid) z some e =
    items_fault a invalid some e.0 ∙ ap (λ (is : List Item). Err invalid ∷ is) (sym (items_none z (ap length e.1)))

ends_at : (v : Result (TypedValue × List ℕ) InvalidFrame) (others : List ℕ → List Item) (e : InvalidFrame) (rest : List Item) → item_and v others ≡ Err e ∷ rest → rest ≡ []
ends_at (Ok x) others e rest is = cc
ends_at (Err f) others e rest is = cc

-- nothing follows a fault
pub fault_last : (a : List ℕ) (e : InvalidFrame) (rest : List Item) → items_of a ≡ Err e ∷ rest → rest ≡ []
unfolding items_of
fault_last [] e rest is = cc
fault_last (b ∷ a) e rest is = ends_at (frame_at (b ∷ a)) (items_within (length a)) e rest is

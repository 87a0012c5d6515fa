-- Room for a datagram
use Rattle.std.proofs.Common.{◌≡◌, ◌∙◌, ap, sym, ℕ, zero, suc, ◌+◌, ◌-◌, ◌<◌, ◌≤◌, inl, inr, List, [], ◌∷◌, ◌++◌, Bool, true, false, if◌then◌else◌, length, drop, get_or, add-one, arith, refl, Option, None, Some}
use Rattle.std.proofs.lemmas.Bool.{false≢true, cases_lt, lt-leb, le-leb}
use Rattle.std.specs.Prelude.{IfNone, nat_le, option_to_list}
use Rattle.std.specs.List.{filter}
use lib.Dec.{leb}
use Rattle.qc_datagrams.specs.Queue.{first, fits, has_room, no_longer_than, rest, total, weight, with_room}

pub room_of_none : (limit : ℕ) (d : List ℕ) (ds : List (List ℕ)) → length ds ≡ 0 → has_room limit d ds ≡ true
unfolding has_room
room_of_none limit d [] none = refl
room_of_none limit d (x ∷ xs) none = absurd (omega arith)

pub room_of_some : (limit : ℕ) (d : List ℕ) (ds : List (List ℕ)) → 0 < length ds → has_room limit d ds ≡ fits limit d ds
unfolding has_room
room_of_some limit d [] some = absurd (omega arith)
room_of_some limit d (x ∷ xs) some = refl

pub total_none : (ds : List (List ℕ)) → length ds ≡ 0 → total ds ≡ 0
unfolding total
total_none [] none = refl
total_none (x ∷ xs) none = absurd (omega arith)

pub room_there : (limit : ℕ) (d : List ℕ) (ds : List (List ℕ)) → has_room limit d ds ≡ true → with_room limit d ds ≡ ds
unfolding with_room
room_there limit d [] room = refl
room_there limit d (x ∷ xs) room = rw room refl

pub room_missing : (limit : ℕ) (d : List ℕ) (ds : List (List ℕ)) → has_room limit d ds ≡ false → with_room limit d (drop 1 ds) ≡ with_room limit d ds
unfolding with_room has_room
room_missing limit d [] room = refl
room_missing limit d (x ∷ xs) room = rw room refl

pub room_missing_some : (limit : ℕ) (d : List ℕ) (ds : List (List ℕ)) → has_room limit d ds ≡ false → 0 < length ds
unfolding has_room
room_missing_some limit d [] room = absurd (false≢true (sym room))
room_missing_some limit d (x ∷ xs) room = omega arith

pub total_push : (ds : List (List ℕ)) (d : List ℕ) → total (ds ++ d ∷ []) ≡ total ds + weight d
unfolding total
total_push [] d = omega arith
total_push (x ∷ xs) d = omega (arith, total_push xs d)

pub total_first : (d : List ℕ) (ds es : List (List ℕ)) → es ≡ d ∷ ds → total es ≡ weight d + total ds
unfolding total
total_first d ds es e = ap total e

pub fits_with : (limit b w : ℕ) (d : List ℕ) (ds : List (List ℕ)) → 0 < length ds → b ≡ total ds → w ≡ weight d → w ≤ limit
    → leb b (limit - w) ≡ has_room limit d ds
unfolding has_room fits
fits_with limit b w d [] some e f within = absurd (omega arith)
fits_with limit b w d (x ∷ xs) some e f within = elim (cases_lt limit (total (x ∷ xs) + weight d)) [
  | inl less ↦ rw (lt-leb b (limit - w) (omega arith), lt-leb (total (x ∷ xs) + weight d) limit less) refl
  | inr more ↦ rw (le-leb b (limit - w) (omega arith), le-leb (total (x ∷ xs) + weight d) limit more) refl
]

pub fits_without : (limit w : ℕ) (d : List ℕ) (ds : List (List ℕ)) → 0 < length ds → w ≡ weight d → limit < w → leb w limit ≡ has_room limit d ds
unfolding has_room fits
fits_without limit w d [] some f past = absurd (omega arith)
fits_without limit w d (x ∷ xs) some f past = rw (lt-leb w limit past, lt-leb (total (x ∷ xs) + weight d) limit (omega arith)) refl

pub popped_first : (d : Option (List ℕ)) (ds es : List (List ℕ)) → ds ≡ option_to_list d ++ es → IfNone d (ds ≡ []) → option_to_list d ≡ first ds
unfolding first
popped_first (Some d) ds es is none = sym (ap first is)
popped_first None ds es is none = sym (ap first none)

pub popped_rest : (d : Option (List ℕ)) (ds es : List (List ℕ)) → ds ≡ option_to_list d ++ es → IfNone d (ds ≡ []) → es ≡ rest ds
unfolding rest
popped_rest (Some d) ds es is none = sym (ap rest is)
popped_rest None ds es is none = sym is ∙ none ∙ sym (ap rest none)

-- what stays counts no more
pub total_within : (most : ℕ) (ds : List (List ℕ)) → total (no_longer_than most ds) ≤ total ds
unfolding total no_longer_than
total_within most [] = omega arith
total_within most (d ∷ ds) = by (nat_le (length d) most) (total_within most ds)
  where
    by : (t : Bool) → total (filter (λ d. nat_le (length d) most) ds) ≤ total ds
        → total (if t then d ∷ filter (λ d. nat_le (length d) most) ds else filter (λ d. nat_le (length d) most) ds) ≤ weight d + total ds
    by true less = omega (arith, less)
    by false less = omega (arith, less)

total_suc : (ds : List (List ℕ)) (place : ℕ) (d : List ℕ) → d ≡ get_or ds place d → place < length ds → weight d + total (drop (suc place) ds) ≡ total (drop place ds)
unfolding total
total_suc [] place d is within = absurd (omega arith)
total_suc (x ∷ ds) zero d is within = ap (λ (e : List ℕ). weight e + total ds) is
total_suc (x ∷ ds) (suc place) d is within = total_suc ds place d is (omega arith)

-- the datagram at a place, and those behind it
pub total_next : (ds : List (List ℕ)) (place : ℕ) (d : List ℕ) → d ≡ get_or ds place d → place < length ds
    → weight d + total (drop (place + 1) ds) ≡ total (drop place ds)
total_next ds place d is within = rw add-one (total_suc ds place d is within)

-- behind all there is none
pub total_past : (ds : List (List ℕ)) (place : ℕ) → length ds ≤ place → total (drop place ds) ≡ 0
unfolding total
total_past [] zero past = refl
total_past [] (suc place) past = refl
total_past (x ∷ ds) zero past = absurd (omega arith)
total_past (x ∷ ds) (suc place) past = total_past ds place (omega arith)

-- Streams that take turns: those of the highest priority first, and within one priority in the order of their turns
use Rattle.std.specs.Prelude.{ℕ, ℤ, List, [], ◌∷◌, Option, None, Some}
use Rattle.std.specs.BTreeMap.{insert_entry, is_at}
use Rattle.std.specs.Map.{remove_entry}
use Rattle.std.specs.declared.cmp.Ordering.{Ordering}
use Rattle.std.specs.Ordering.{nat_cmp, int_cmp, ordering_then}

-- two places: the lesser rank first, and within one rank the lesser turn
abbrev pub place_cmp : ℤ × ℕ → ℤ × ℕ → Ordering
place_cmp x y = ordering_then (int_cmp x.0 y.0) (nat_cmp x.1 y.1)

-- a stream takes a place
abbrev pub with_place : ℤ × ℕ → ℕ → List ((ℤ × ℕ) × ℕ) → List ((ℤ × ℕ) × ℕ)
with_place place id ready = insert_entry place_cmp ready place id

-- a place is given up
abbrev pub without_place : ℤ × ℕ → List ((ℤ × ℕ) × ℕ) → List ((ℤ × ℕ) × ℕ)
without_place place ready = remove_entry (is_at (place_cmp place)) ready

-- whose turn it is
abbrev pub next_turn : List ((ℤ × ℕ) × ℕ) → Option ℕ
next_turn [] = None
next_turn (x ∷ xs) = Some x.1

-- Marks in their order, and how many more have a place
use Rattle.std.specs.Prelude.{ℕ, ◌+◌, ◌-◌, nat_lt, if◌then◌else◌, List, [], ◌∷◌, ◌++◌, drop, Option, None, Some}

-- Marks, and places for more
pub record MarkList : Type 0 where
  -- those that stand, the oldest first
  pub ids : List ℕ
  -- how many more have a place
  pub free : ℕ

-- no mark, and no place
unfoldable pub no_marks : MarkList
no_marks = record { ids = []; free = 0 }

-- one more place
unfoldable pub place_added : MarkList → MarkList
place_added m = record m { free = m.free + 1 }

-- one place less
unfoldable pub place_dropped : MarkList → MarkList
place_dropped m = record m { free = m.free - 1 }

-- a mark takes a place, where there is one
unfoldable pub marked : ℕ → MarkList → MarkList
marked id m = record m {
  ids = if nat_lt 0 m.free then m.ids ++ (id ∷ []) else m.ids;
  free = m.free - 1;
}

-- the oldest mark
abbrev pub first_mark : List ℕ → Option ℕ
first_mark [] = None
first_mark (x ∷ xs) = Some x

-- how many places a mark gives back that is taken off
abbrev pub given_back : List ℕ → ℕ
given_back [] = 0
given_back (x ∷ xs) = 1

-- the oldest mark is taken off, and gives its place back
unfoldable pub unmarked : MarkList → MarkList
unmarked m = record m { ids = drop 1 m.ids; free = m.free + given_back m.ids }

-- Streams of a set, in ascending order
use Rattle.std.specs.Prelude.{ℕ, List, [], ◌∷◌, Option, None, Some}
use Rattle.std.specs.BTreeMap.{is_at}
use Rattle.std.specs.BTreeSet.{insert_key}
use Rattle.std.specs.Set.{remove_key}
use Rattle.std.specs.Ordering.{nat_cmp}

-- a stream comes in
abbrev pub with_id : ℕ → List ℕ → List ℕ
with_id id ids = insert_key nat_cmp ids id

-- a stream leaves
abbrev pub without_id : ℕ → List ℕ → List ℕ
without_id id ids = remove_key (is_at (nat_cmp id)) ids

-- the least
abbrev pub first_id : List ℕ → Option ℕ
first_id [] = None
first_id (x ∷ xs) = Some x

-- What a source of bytes gives and a sink takes, where they tell it, and when their counts of faults rose.
use Rattle.std.specs.Prelude.{◌≡◌, ◌≢◌, ℕ, ◌<◌, ◌≤◌, List, [], ◌++◌, length, take, Option, Some}

-- bytes that were told stay what they were
pub record Keeps (before after : Option (List ℕ)) : Type 0 where
  pub told : (all : List ℕ) → before ≡ Some all → after ≡ Some all

-- bytes that were told gain these at their end
pub record Appends (before after : Option (List ℕ)) (bytes : List ℕ) : Type 0 where
  pub told : (all : List ℕ) → before ≡ Some all → after ≡ Some (all ++ bytes)

-- bytes that were told gain a front of these at their end
pub record AppendsPart (before after : Option (List ℕ)) (bytes : List ℕ) : Type 0 where
  pub count : ℕ
  pub inside : count ≤ length bytes
  pub taken : Appends before after (take count bytes)

-- bytes that were told begin with these, and lose them
pub record Gives (before after : Option (List ℕ)) (bytes : List ℕ) : Type 0 where
  pub told : (all : List ℕ) → before ≡ Some all → (rest : List ℕ) × (all ≡ bytes ++ rest) × (after ≡ Some rest)

-- no byte that was told is left
pub record IsAtEnd (left : Option (List ℕ)) : Type 0 where
  pub told : (all : List ℕ) → left ≡ Some all → all ≡ []

-- a count of faults rose in a call: it is greater afterwards, or stands at the greatest u64
abbrev pub Rose : ℕ → ℕ → Type 0
Rose before after = after ≢ 18446744073709551615 → before < after

-- bytes that were told begin with those by which a list grew, and lose them
pub record GivesMore (before after : Option (List ℕ)) (old new : List ℕ) : Type 0 where
  pub part : List ℕ
  pub grown : new ≡ old ++ part
  pub given : Gives before after part

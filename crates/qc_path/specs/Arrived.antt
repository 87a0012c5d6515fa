-- Which packet numbers came (RFC 9000, section 12.3): those at most 128 below the greatest are remembered.
use Rattle.std.specs.Prelude.{◌≡◌, ℕ, zero, suc, ◌+◌, ◌-◌, ◌%◌, ◌==◌, Bool, true, false, not, ◌&&◌, ◌||◌, nat_lt, if◌then◌else◌, List, ◌∷◌, length, replicate, slice_index, slice_set, Option, Some, None, max}
use Rattle.std.specs.List.{list_any, list_all}

-- how many numbers are remembered: the greatest one, and 128 below it
abbrev pub remembered : ℕ
remembered = 129

-- the greatest number, and for each remainder by that count the number with it that came last; where none came, one without it
pub record Window : Type 0 where
  pub greatest : Option ℕ
  pub slots : List ℕ

-- nothing came; no slot holds a number with its own remainder
abbrev pub nothing_came : Window
nothing_came = record { greatest = None; slots = 1 ∷ replicate (remembered - 1) 0 }

-- greater than the greatest number, if there is one
abbrev pub exceeds : Option ℕ → ℕ → Bool
exceeds None n = true
exceeds (Some greatest) n = nat_lt greatest n

-- came, and is remembered
unfoldable pub has_come : Window → ℕ → Bool
has_come w n = slice_index w.slots (n % remembered) == n

-- A number that came counts once; the window remembers 128 below the greatest (RFC 9000, section 12.3). Greater than all
-- that came, or not come and at most 128 below the greatest
unfoldable pub is_new : Window → ℕ → Bool
is_new w n = exceeds w.greatest n || (exceeds w.greatest (n + remembered) && not (has_come w n))

-- the greatest number with one more
abbrev pub greatest_with : Option ℕ → ℕ → Option ℕ
greatest_with None n = Some n
greatest_with (Some greatest) n = Some (max greatest n)

-- a number comes
unfoldable pub arrived : ℕ → Window → Window
arrived n w = if is_new w n then record { greatest = greatest_with w.greatest n; slots = slice_set w.slots (n % remembered) n } else w

-- the lowest number that is remembered, come or not
abbrev pub lowest : Option ℕ → ℕ
lowest None = 0
lowest (Some greatest) = greatest - (remembered - 1)

-- one of `count` numbers from a lowest one on hasn't come
abbrev pub missing_from : Window → (low : ℕ) → ℕ → Bool
missing_from w low zero = false
missing_from w low (suc count) = not (has_come w low) || missing_from w (suc low) count

-- one of the numbers from `low` up to, but without, `high` is remembered not to have come
unfoldable pub some_missing : Window → (low high : ℕ) → Bool
some_missing w low high = missing_from w (max low (lowest w.greatest)) (high - max low (lowest w.greatest))

-- ---- what the window stands for: all numbers that ever came

-- the number is one of those that came
abbrev pub is_among : List ℕ → ℕ → Bool
is_among came n = list_any (λ x. x == n) came

-- the number is new: it exceeds all that came, or never came and lies at most 128 below the greatest
abbrev pub is_new_among : List ℕ → ℕ → Bool
is_new_among came n = list_all (λ x. nat_lt x n) came || (list_all (λ x. nat_lt x (n + remembered)) came && not (is_among came n))

-- the window knows the greatest number that came, and of each one at most 128 below it whether it came
pub record Remembers (came : List ℕ) (w : Window) : Type 0 where
  pub size : length w.slots ≡ remembered
  pub greatest : (n : ℕ) → list_all (λ x. nat_lt x n) came ≡ exceeds w.greatest n
  pub known : (n : ℕ) → exceeds w.greatest (n + remembered) ≡ true → has_come w n ≡ is_among came n

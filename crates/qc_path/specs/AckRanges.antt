-- The numbers to acknowledge, as ranges from low to high: one more, and those from a number on.
use Rattle.std.specs.Prelude.{ℕ, ◌+◌, nat_lt, nat_le, ◌==◌, if◌then◌else◌, List, [], ◌∷◌}
use Rattle.qc_base.specs.declared.range_set.NumberRange.{NumberRange}

-- a range whose last number is n - 1, with n; where the next range begins right behind n, the two become one
abbrev pub raised_to : ℕ → NumberRange → List NumberRange → List NumberRange
raised_to n r [] = record { first = r.first; last = n } ∷ []
raised_to n r (q ∷ qs) =
    if q.first == n + 1 then record { first = r.first; last = q.last } ∷ qs
    else record { first = r.first; last = n } ∷ q ∷ qs

-- normal ranges, with n
abbrev pub with_number : ℕ → List NumberRange → List NumberRange
with_number n [] = record { first = n; last = n } ∷ []
with_number n (r ∷ rs) =
    if nat_lt (r.last + 1) n then r ∷ with_number n rs
    else if n == r.last + 1 then raised_to n r rs
    else if nat_le r.first n then r ∷ rs
    else if n + 1 == r.first then record { first = n; last = r.last } ∷ rs
    else record { first = n; last = n } ∷ r ∷ rs

-- normal ranges, without the numbers below n
abbrev pub from_number : ℕ → List NumberRange → List NumberRange
from_number n [] = []
from_number n (r ∷ rs) =
    if nat_lt r.last n then from_number n rs
    else if nat_lt r.first n then record { first = n; last = r.last } ∷ rs
    else r ∷ rs

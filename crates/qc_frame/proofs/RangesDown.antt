-- The ranges that an ACK acknowledges, one by one
use Rattle.std.proofs.Common.{◌≡◌, ℕ, ◌+◌, ◌-◌, List, [], ◌∷◌, None, Some, refl}
use Rattle.qc_base.specs.Reading.{varint_of}
use Rattle.qc_frame.specs.AckRanges.{ranges_down}
use Rattle.qc_frame.specs.FrameSpelling.{numbers_of}
use Rattle.qc_frame.proofs.Numbers.{number_none, numbers_of_next}

none_left : (bytes : List ℕ) → varint_of bytes ≡ None → numbers_of bytes ≡ []
unfolding numbers_of
none_left bytes is = number_none _ bytes is

pub no_range : (largest : ℕ) (bytes : List ℕ) → varint_of bytes ≡ None → ranges_down largest (numbers_of bytes) ≡ []
no_range largest bytes is = rw (none_left bytes is) refl

-- the last range
pub last_range : (largest len first : ℕ) (bytes rest : List ℕ) → varint_of bytes ≡ Some (len, rest) → varint_of rest ≡ None → first ≡ largest - len
    → ranges_down largest (numbers_of bytes) ≡ record { first = first; last = largest } ∷ ranges_down first (numbers_of rest)
last_range largest len first bytes rest is none down = rw (numbers_of_next len bytes rest is, none_left rest none, down) refl

-- a range, and others below it
pub next_range : (largest len gap first below : ℕ) (bytes rest behind : List ℕ) → varint_of bytes ≡ Some (len, rest) → varint_of rest ≡ Some (gap, behind)
    → first ≡ largest - len → below ≡ first - (gap + 2)
    → ranges_down largest (numbers_of bytes) ≡ record { first = first; last = largest } ∷ ranges_down below (numbers_of behind)
next_range largest len gap first below bytes rest behind is next down under =
    rw (numbers_of_next len bytes rest is, numbers_of_next gap rest behind next, under, down) refl

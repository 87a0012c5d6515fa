-- The packet numbers that an ACK acknowledges (RFC 9000, section 19.3.1)
use Rattle.std.specs.Prelude.{◌≡◌, ℕ, ◌+◌, ◌-◌, ◌<◌, List, [], ◌∷◌, ◌++◌, length, reverse}
use Rattle.std.specs.List.{flat_map}
use Rattle.qc_base.specs.declared.range_set.NumberRange.{NumberRange}
use Rattle.qc_base.specs.RangeSet.{Member}
use Rattle.qc_base.specs.Varint.{IsNumber, varint}
use Rattle.qc_frame.specs.Frame.{AckValue}
use Rattle.qc_frame.specs.FrameFits.{RangesFit}
use Rattle.qc_frame.specs.FrameSpelling.{numbers_of}

-- the numbers from a greatest one down to that which lies so many below it
abbrev pub range_down : (largest len : ℕ) → NumberRange
range_down largest len = record { first = largest - len; last = largest }

-- a range that ends at the largest number, by its length, and those below it, by a gap and a length each:
-- between two ranges lie gap + 1 numbers
abbrev pub ranges_down : ℕ → List ℕ → List NumberRange
ranges_down largest [] = []
ranges_down largest (len ∷ []) = range_down largest len ∷ []
ranges_down largest (len ∷ gap ∷ others) = range_down largest len ∷ ranges_down (largest - len - (gap + 2)) others

-- the ranges that an ACK acknowledges, from the greatest down
abbrev pub ranges_of : AckValue → List NumberRange
ranges_of ack = ranges_down ack.largest (numbers_of ack.additional)

-- the ACK acknowledges the packet with this number
abbrev pub Acknowledges : AckValue → ℕ → Type 0
Acknowledges ack n = Member n (ranges_of ack)

-- the numbers that say a range below others: the gap between it and the next one, if there is one, and its length
abbrev pub range_numbers : NumberRange → List NumberRange → List ℕ
range_numbers range [] = (range.last - range.first) ∷ []
range_numbers range (above ∷ ranges) = (above.first - range.last - 2) ∷ (range.last - range.first) ∷ []

-- the numbers that say ranges, which are given from the lowest up and said from the greatest down
abbrev pub numbers_up : List NumberRange → List ℕ
numbers_up [] = []
numbers_up (range ∷ ranges) = numbers_up ranges ++ range_numbers range ranges

-- there are numbers, and each is a packet number, which lies below 2^62 (RFC 9000, section 12.3)
abbrev pub ArePackets : List NumberRange → Type 0
ArePackets ranges = (0 < length ranges) × ((n : ℕ) → Member n ranges → IsNumber n)

-- a largest number, and the bytes behind it in an ACK, say exactly these ranges, which are given from the lowest up,
-- with each number in its shortest form
pub record SaysSet (largest : ℕ) (additional : List ℕ) (ranges : List NumberRange) : Type 0 where
  pub small : IsNumber largest
  pub fits : RangesFit largest (numbers_of additional)
  pub said : ranges_down largest (numbers_of additional) ≡ reverse ranges
  pub shortest : additional ≡ flat_map varint (numbers_of additional)

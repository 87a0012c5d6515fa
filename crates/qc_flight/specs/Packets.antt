-- Packets in flight, as a list of numbers and packets in ascending order of number
use Rattle.std.specs.Prelude.{◌≡◌, ℕ, suc, ◌+◌, ◌-◌, ◌<◌, ◌≤◌, ◌==◌, Bool, false, not, ◌&&◌, ◌||◌, nat_lt, nat_le, if◌then◌else◌, cond, List, [], ◌∷◌, filter, sum_by, Option, Some, None, min}
use Rattle.std.specs.List.{list_any}
use Rattle.qc_base.specs.RangeSet.{Normal}
use Rattle.qc_base.specs.declared.range_set.NumberRange.{NumberRange}
use Rattle.qc_flight.specs.declared.sent.SentPacket.{SentPacket}
use Rattle.qc_flight.specs.declared.counts.Counts.{Counts}

-- a packet and its number
abbrev pub Entry : Type 0
Entry = ℕ × SentPacket

-- every number is above this one
abbrev pub AllAbove : ℕ → List Entry → Type 0
AllAbove n [] = Unit {0}
AllAbove n (e ∷ es) = (n < e.0) × AllAbove n es

-- every number is below this one
abbrev pub AllBelow : ℕ → List Entry → Type 0
AllBelow n [] = Unit {0}
AllBelow n (e ∷ es) = (e.0 < n) × AllBelow n es

-- each number is below all that follow
abbrev pub Ascending : List Entry → Type 0
Ascending [] = Unit {0}
Ascending (e ∷ es) = AllAbove e.0 es × Ascending es

-- A range of an ACK names the numbers from its smallest to its largest, both included (RFC 9000, section 19.3.1).
abbrev pub is_within : ℕ → NumberRange → Bool
is_within n range = nat_le range.first n && nat_le n range.last

-- An ACK acknowledges the numbers of each of its ranges, and no others (RFC 9000, section 19.3).
unfoldable pub is_in : List NumberRange → ℕ → Bool
is_in ranges n = list_any (is_within n) ranges

-- the packet's number is one of those that an ACK names
abbrev pub is_acked : List NumberRange → Entry → Bool
is_acked ranges e = is_in ranges e.0

-- A packet is lost if it was sent before a packet that is acknowledged, so that its number is below the greatest one
-- acknowledged, and is a threshold of packets below that one, or was sent a delay ago or longer (RFC 9002, section 6.1).
unfoldable pub is_lost : (largest threshold now delay : ℕ) → Entry → Bool
is_lost largest threshold now delay e = nat_lt e.0 largest && (nat_le (e.0 + threshold) largest || nat_le delay (now - e.1.at))

-- the packets that pass a test, and the others
unfoldable pub those : (Entry → Bool) → List Entry → List Entry
those p es = filter p es

-- the packets that don't pass a test
unfoldable pub others : (Entry → Bool) → List Entry → List Entry
others p es = filter (λ e. not (p e)) es

-- Bytes in flight are those of the packets that elicit an acknowledgement or hold PADDING, and are neither acknowledged nor
-- lost (RFC 9002, section 2 and appendix B.2). Here: the bytes of a packet that counts so.
abbrev pub counted_bytes : Entry → ℕ
counted_bytes e = cond e.1.counted e.1.size 0

-- one for a packet that asks for an acknowledgement: one with a frame besides ACK, PADDING and CONNECTION_CLOSE (RFC 9002,
-- section 2)
abbrev pub eliciting_one : Entry → ℕ
eliciting_one e = cond e.1.ack_eliciting 1 0

-- one for a packet that counts as in flight
abbrev pub counted_one : Entry → ℕ
counted_one e = cond e.1.counted 1 0

-- the bytes of those that count as in flight
unfoldable pub bytes_of : List Entry → ℕ
bytes_of es = sum_by counted_bytes es

-- how many ask for an acknowledgement
unfoldable pub eliciting_of : List Entry → ℕ
eliciting_of es = sum_by eliciting_one es

-- how many count as in flight
unfoldable pub counted_of : List Entry → ℕ
counted_of es = sum_by counted_one es

-- the three sums
unfoldable pub counts_of : List Entry → Counts
counts_of es = record { bytes = bytes_of es; eliciting = eliciting_of es; counted = counted_of es }

-- one of the packets has this number
abbrev pub has_number : ℕ → List Entry → Bool
has_number n es = list_any (λ e. e.0 == n) es

-- the first packet, if there is one
abbrev pub first_of : List Entry → Option SentPacket
first_of [] = None
first_of (e ∷ es) = Some e.1

-- the earliest time at which one was sent, not later than one that is known
abbrev pub earlier_of : Option ℕ → ℕ → Option ℕ
earlier_of None time = Some time
earlier_of (Some known) time = Some (min known time)

-- the earliest of a time that is known, if one is, and those at which these were sent
abbrev pub earliest_from : Option ℕ → List Entry → Option ℕ
earliest_from known [] = known
earliest_from known (e ∷ es) = earliest_from (earlier_of known e.1.at) es

-- the earliest time at which one was sent
abbrev pub earliest_of : List Entry → Option ℕ
earliest_of es = earliest_from None es

-- the number is below a limit
abbrev pub is_below : ℕ → Entry → Bool
is_below limit e = nat_lt e.0 limit

-- each size fits 64 bits
abbrev pub AllFit : List Entry → Type 0
AllFit [] = Unit {0}
AllFit (e ∷ es) = (e.1.size ≤ 18446744073709551615) × AllFit es

-- what a flight keeps of its packets
pub record IsCounted (es : List Entry) (counts : Counts) : Type 0 where
  pub order : Ascending es
  pub fit : AllFit es
  pub sums : counts ≡ counts_of es

-- how many packets at the front have a number up to a limit
abbrev pub up_to : ℕ → List Entry → ℕ
up_to limit [] = 0
up_to limit (e ∷ es) = if nat_le e.0 limit then suc (up_to limit es) else 0

-- ---- walking along

-- two tests say the same of packets above a number
pub record Agree (n : ℕ) (p q : Entry → Bool) : Type 0 where
  pub above : (e : Entry) → n < e.0 → p e ≡ q e

-- no packet above a number passes
pub record PassesUpTo (limit : ℕ) (p : Entry → Bool) : Type 0 where
  pub none : (e : Entry) → limit < e.0 → p e ≡ false

-- packets put in front of others one by one
abbrev pub onto : List Entry → (es : List Entry) → List Entry
onto [] es = es
onto (k ∷ ks) es = onto ks (k ∷ es)

-- two tests say the same of these packets
abbrev pub AgreeOn : List Entry → (Entry → Bool) → (Entry → Bool) → Type 0
AgreeOn [] p q = Unit {0}
AgreeOn (e ∷ es) p q = (p e ≡ q e) × AgreeOn es p q

-- ---- counting along

-- one packet more, and one less
unfoldable pub counts_with : Counts → SentPacket → Counts
counts_with c p = record { bytes = c.bytes + cond p.counted p.size 0; eliciting = c.eliciting + cond p.ack_eliciting 1 0; counted = c.counted + cond p.counted 1 0 }

-- the counts with one packet less
unfoldable pub counts_less : Counts → SentPacket → Counts
counts_less c p = record { bytes = c.bytes - cond p.counted p.size 0; eliciting = c.eliciting - cond p.ack_eliciting 1 0; counted = c.counted - cond p.counted 1 0 }

-- these packets less
unfoldable pub counts_minus : Counts → List Entry → Counts
counts_minus c es = record { bytes = c.bytes - bytes_of es; eliciting = c.eliciting - eliciting_of es; counted = c.counted - counted_of es }

-- ---- ranges that are passed

-- from a number on, the ranges that are left say the same as all of them
pub record Skips (number : ℕ) (before after : List NumberRange) : Type 0 where
  pub same : (n : ℕ) → number ≤ n → is_in before n ≡ is_in after n
  pub normal : Normal after

-- the first range ends at a number or later
abbrev pub Reaches : ℕ → List NumberRange → Type 0
Reaches number [] = Unit {0}
Reaches number (range ∷ ranges) = number ≤ range.last

-- What a packet makes of the sizes of a transmit's datagrams.
use Rattle.std.proofs.Common.{◌≡◌, ℕ, ◌+◌, ◌-◌, ◌<◌, ◌≤◌, Bool, true, false, ◌||◌, ◌&&◌, not, ◌==◌, nat_lt, nat_le, if◌then◌else◌, refl, arith}
use Rattle.std.proofs.lemmas.Bool.Decides.{nat_tests}
use Rattle.qc_state.specs.declared.form.Form.{Form}
use Rattle.qc_state.specs.declared.transmit.Batch.{Batch}
use Rattle.qc_state.specs.Forms.{is_one_rtt}
use Rattle.qc_state.specs.Batches.{batch_begun, batch_grown, batch_opened, is_closed_up, is_whole, next_segment, takes_another}

-- ---- tests

first_of_both : (a b : Bool) → (a && b) ≡ true → a ≡ true
first_of_both true b h = refl
first_of_both false b h = cc

second_of_both : (a b : Bool) → (a && b) ≡ true → b ≡ true
second_of_both true b h = h
second_of_both false b h = cc

turned : (a : Bool) → not a ≡ true → a ≡ false
turned true h = cc
turned false h = refl

-- ---- a packet that opens a datagram

-- what it makes of the batch
pub record OpensSo (form : Form) (n : ℕ) (b c : Batch) : Type 0 where
  pub first : b.made ≡ 0 → c.made ≡ 1
  pub more : 0 < b.made → 1 < c.made
  pub some : 0 < c.made
  pub segment : c.segment ≡ next_segment b
  pub filled : c.filled ≡ n
  pub within : n ≤ c.capacity
  pub capacity : c.capacity ≤ next_segment b
  pub short : c.short ≡ is_one_rtt form

pub opens_so : (form : Form) (number n padding : ℕ) (fills nearly probes : Bool) (b : Batch) → (batch_opened true probes b).capacity ≤ 65527 → (batch_opened true probes b).filled + n ≤ (batch_opened true probes b).capacity →
    OpensSo form n b (batch_grown form number n padding fills nearly (batch_opened true probes b))
unfolding batch_opened batch_grown
opens_so form number n padding fills nearly true b small fits =
    record { first = λ none. omega (arith, none); more = λ some. omega (arith, some); some = omega arith; segment = refl; filled = omega (arith, small, fits); within = omega (arith, fits); capacity = omega arith; short = refl }
opens_so form number n padding fills nearly false b small fits =
    record { first = λ none. omega (arith, none); more = λ some. omega (arith, some); some = omega arith; segment = refl; filled = omega (arith, small, fits); within = omega (arith, fits); capacity = omega arith; short = refl }

-- ---- a packet that joins one

pub record JoinsSo (form : Form) (n : ℕ) (b c : Batch) : Type 0 where
  pub made : c.made ≡ b.made
  pub segment : c.segment ≡ b.segment
  pub capacity : c.capacity ≡ b.capacity
  pub filled : c.filled ≡ b.filled + n
  pub within : b.filled + n ≤ b.capacity
  pub short : c.short ≡ (b.short || is_one_rtt form)

pub joins_so : (form : Form) (number n padding : ℕ) (fills nearly probes : Bool) (b : Batch) → (batch_opened false probes b).capacity ≤ 65527 → (batch_opened false probes b).filled + n ≤ (batch_opened false probes b).capacity →
    JoinsSo form n b (batch_grown form number n padding fills nearly (batch_opened false probes b))
unfolding batch_opened batch_grown
joins_so form number n padding fills nearly probes b small fits = record { made = refl; segment = refl; capacity = refl; filled = omega (arith, small, fits); within = fits; short = refl }

-- no packet joins a datagram with a short header in it, nor where there is none
pub joins_behind : (b : Batch) → takes_another b ≡ true → (0 < b.made) × (b.short ≡ false)
joins_behind b h =
    let some : nat_lt 0 b.made ≡ true = first_of_both (nat_lt 0 b.made) (not b.short && nat_le 103 (b.capacity - b.filled)) h in
    (grind (arith, nat_tests), turned b.short (first_of_both (not b.short) (nat_le 103 (b.capacity - b.filled)) (second_of_both (nat_lt 0 b.made) (not b.short && nat_le 103 (b.capacity - b.filled)) h)))

-- behind a datagram another one is begun only where it has the size of the first
pub whole_size : (b : Batch) → (is_whole b && is_closed_up b) ≡ true → 0 < b.made → b.filled ≡ next_segment b
whole_size b h some =
    let whole : is_whole b ≡ true = first_of_both (is_whole b) (is_closed_up b) h in
    let is : (b.filled == next_segment b) ≡ true = by_none (b.made == 0) refl whole in
    grind (arith, nat_tests)
  where
    by_none : (none : Bool) → (b.made == 0) ≡ none → (none || (b.filled == next_segment b)) ≡ true → (b.filled == next_segment b) ≡ true
    by_none true e x = absurd (let zero : b.made ≡ 0 = grind (arith, nat_tests) in omega (arith, zero, some))
    by_none false e x = x

-- the size of the first is that of the others
pub segment_first : (b : Batch) → b.made ≡ 1 → next_segment b ≡ b.filled
segment_first b one = by_one (b.made == 1) refl
  where
    by_one : (is : Bool) → (b.made == 1) ≡ is → (if is then b.filled else b.segment) ≡ b.filled
    by_one true e = refl
    by_one false e = absurd (let other : b.made ≡ 1 → ⊥ = λ is. grind (arith, nat_tests) in other one)

pub segment_later : (b : Batch) → 1 < b.made → next_segment b ≡ b.segment
segment_later b many = by_one (b.made == 1) refl
  where
    by_one : (is : Bool) → (b.made == 1) ≡ is → (if is then b.filled else b.segment) ≡ b.segment
    by_one true e = absurd (let one : b.made ≡ 1 = grind (arith, nat_tests) in omega (arith, one, many))
    by_one false e = refl

-- ---- no datagram is so large that a Length field of two bytes can't tell it

pub record IsSmall (b : Batch) : Type 0 where
  pub segment : b.segment ≤ 16383
  pub filled : b.filled ≤ 16383
  pub capacity : b.capacity ≤ 16383

pub begun_small : (closing pads : Bool) (most segment least : ℕ) → segment ≤ 16383 → IsSmall (batch_begun closing pads most segment least)
begun_small closing pads most segment least few = record { segment = few; filled = omega arith; capacity = omega arith }

next_small : (b : Batch) → IsSmall b → next_segment b ≤ 16383
next_small b small = by_one (b.made == 1)
  where
    by_one : (is : Bool) → (if is then b.filled else b.segment) ≤ 16383
    by_one true = small.filled
    by_one false = small.segment

pub opened_small : (form : Form) (n : ℕ) (b c : Batch) → IsSmall b → OpensSo form n b c → IsSmall c
opened_small form n b c small so =
    let most : next_segment b ≤ 16383 = next_small b small in
    record { segment = omega (arith, so.segment, most); filled = omega (arith, so.filled, so.within, so.capacity, most); capacity = omega (arith, so.capacity, most) }

pub joined_small : (form : Form) (n : ℕ) (b c : Batch) → IsSmall b → JoinsSo form n b c → IsSmall c
joined_small form n b c small so =
    record { segment = omega (arith, so.segment, small.segment); filled = omega (arith, so.filled, so.within, small.capacity); capacity = omega (arith, so.capacity, small.capacity) }

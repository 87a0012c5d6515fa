-- Where a packet may begin, its builder takes it: there are keys, and no limit of the builder stands.
use Rattle.std.proofs.Common.{◌≡◌, ℕ, ◌+◌, ◌-◌, ◌≤◌, length, length-append, refl, ap, ◌∙◌, Bool, true, false, ◌&&◌, ◌||◌, if◌then◌else◌, Option, Some, None, is_some, IsSome, nat_le, nat_lt, ◌<◌, ◌^◌, arith}
use Rattle.std.specs.Prelude.{min}
use Rattle.std.proofs.lemmas.Bool.Decides.{nat_tests}
use Rattle.std.specs.Option.{option_map}
use Rattle.qc_header.specs.declared.header.Header.{Header}
use Rattle.qc_header.specs.HeaderSpelling.{header_spelling, header_number, initial_spelling, short_spelling, long_start}
use Rattle.qc_packet.specs.Building.{dst_cid_of, is_initial, is_short, kill_of, lacks_room, max_size_of, min_size_of}
use Rattle.qc_packet.specs.declared.slot.Kill.TheVariants.{KeyLimit, NumberLimit, TokenRoom}
use Rattle.qc_state.specs.declared.form.Form.{Form}
use Rattle.qc_state.specs.declared.form.Form.TheVariants.{Initial, Handshake, Early, OneRtt}
use Rattle.qc_state.specs.declared.keys.KeyGroup.{KeyGroup}
use Rattle.qc_state.specs.declared.keys.KeyUse.{KeyUse}
use Rattle.qc_state.specs.Forms.{number_space}
use Rattle.qc_state.specs.Keys.{has_keys_for, header_key, packet_key, reaches_limit, usage_of}
use Rattle.qc_state.specs.Numbers.{next_number, acked_number}
use Rattle.qc_state.specs.Sending.{header_in, slot_with, room_of}
use Rattle.qc_state.specs.Types.{Types}
use Rattle.qc_state.specs.View.{View}

-- what is computed of something is there where it is
some_map : {A B : Type 0} (f : A → B) (o : Option A) → is_some o ≡ true → IsSome (option_map f o)
some_map f None h = cc
some_map f (Some x) h = refl

-- a key that may seal one packet more has sealed fewer than it may
pub fresh_use : (usage : KeyUse) → reaches_limit 0 (Some usage) ≡ false → usage.sealed < usage.limit
fresh_use usage h = below_limit usage.sealed usage.limit h
  where
    below_limit : (sealed limit : ℕ) → nat_le limit (sealed + 0) ≡ false → sealed < limit
    below_limit sealed limit e = grind (arith, nat_tests)

module _ {H P : Type 0} where
  -- where there are keys, there is one that masks, one that seals, and how far that one is used
  pub keyed_header : (v : KeyGroup H P) (form : Form) → has_keys_for v form ≡ true → IsSome (header_key v form)
  unfolding has_keys_for header_key
  keyed_header v Initial h = some_map _ v.initial h
  keyed_header v Handshake h = some_map _ v.handshake h
  keyed_header v Early h = cc
  keyed_header v OneRtt h = some_map _ v.«data» h

  pub keyed_packet : (v : KeyGroup H P) (form : Form) → has_keys_for v form ≡ true → IsSome (packet_key v form)
  unfolding has_keys_for packet_key
  keyed_packet v Initial h = some_map _ v.initial h
  keyed_packet v Handshake h = some_map _ v.handshake h
  keyed_packet v Early h = cc
  keyed_packet v OneRtt h = some_map _ v.«data» h

  pub keyed_usage : (v : KeyGroup H P) (form : Form) → has_keys_for v form ≡ true → IsSome (usage_of v form)
  unfolding has_keys_for usage_of
  keyed_usage v Initial h = some_map _ v.initial h
  keyed_usage v Handshake h = some_map _ v.handshake h
  keyed_usage v Early h = cc
  keyed_usage v OneRtt h = some_map _ v.«data» h

-- where no cause holds, a packet can be begun
no_cause : (key number room : Bool) → key ≡ false → number ≡ false → room ≡ false → (if key then Some KeyLimit else (if number then Some NumberLimit else (if room then Some TokenRoom else None))) ≡ None
no_cause true number room k n r = cc
no_cause false true room k n r = cc
no_cause false false true k n r = cc
no_cause false false false k n r = refl

-- neither of two tests holds
both_fail : (a b : Bool) → a ≡ false → b ≡ false → (a || b) ≡ false
both_fail true b x y = cc
both_fail false b x y = y

-- a test of numbers that fails
not_le : (m n : ℕ) → n < m → nat_le m n ≡ false
not_le m n h = grind (arith, nat_tests)

not_lt : (m n : ℕ) → n ≤ m → nat_lt m n ≡ false
not_lt m n h = grind (arith, nat_tests)

-- a long header's packet may fill a datagram that has no more bytes than its Length can say
long_by : (capacity : ℕ) (b : Bool) (n : ℕ) → capacity ≤ 16383 → b ≡ false → (if b then capacity - 16 else min (capacity - 16) (n + 16367)) ≡ capacity - 16
long_by capacity true n most h = cc
long_by capacity false n most h = omega (arith, most)

long_size : (capacity : ℕ) (h : Header) → capacity ≤ 16383 → is_short h ≡ false → max_size_of 0 h capacity ≡ capacity - 16
unfolding max_size_of
long_size capacity h most long = long_by capacity (is_short h) _ most long

-- so it is of any packet
pub most_size : (left : ℕ) (h : Header) → left ≤ 16383 → max_size_of 0 h left ≡ left - 16
unfolding max_size_of
most_size left h few = by_form (is_short h) _
  where
    by_form : (b : Bool) (n : ℕ) → (if b then left - 16 else min (left - 16) (n + 16367)) ≡ left - 16
    by_form true n = refl
    by_form false n = omega (arith, few)

-- and it has the room for its sample, for its frames, and for what is asked of it
pub sample_fits : (left : ℕ) (h : Header) → left ≤ 16383 → min_size_of 0 h + 16 ≤ left → min_size_of 0 h ≤ max_size_of 0 h left
sample_fits left h few room = omega (arith, most_size left h few, room)

pub frames_fit : (left bytes : ℕ) (h : Header) → left ≤ 16383 → length (header_spelling h 0) + bytes + 16 ≤ left → length (header_spelling h 0) + bytes ≤ max_size_of 0 h left
frames_fit left bytes h few room = omega (arith, most_size left h few, room)

pub asked_fits : (left least : ℕ) (h : Header) → left ≤ 16383 → min_size_of 0 h + 16 ≤ left → least ≤ left → least ≤ max_size_of 0 h left + 16
asked_fits left least h few room small = omega (arith, most_size left h few, room, small)

-- a packet whose header leaves room for 25 bytes needs no more than a datagram has
least_fits : (capacity : ℕ) (h : Header) → length (header_spelling h 0) + 41 ≤ capacity → length (dst_cid_of h) ≤ length (header_spelling h 0) → min_size_of 0 h + 16 ≤ capacity
unfolding min_size_of
least_fits capacity h short dst = omega (arith, short, dst)

-- a header that leaves room for 25 bytes and the tag lacks none
wide_enough : (capacity : ℕ) (h : Header) → capacity ≤ 16383 → is_short h ≡ false → length (header_spelling h 0) + 41 ≤ capacity → length (dst_cid_of h) ≤ length (header_spelling h 0) → lacks_room 0 h capacity ≡ false
unfolding lacks_room
wide_enough capacity h most long short dst =
    let size : max_size_of 0 h capacity ≡ capacity - 16 = long_size capacity h most long in
    let least : min_size_of 0 h + 16 ≤ capacity = least_fits capacity h short dst in
    both_fail _ _ (not_lt (max_size_of 0 h capacity) (min_size_of 0 h) (omega (arith, size, least)))
    (not_lt (max_size_of 0 h capacity - (0 + length (header_spelling h 0))) 25 (omega (arith, size, short)))

module _ {t : Types} where
  -- a header in each space has its destination form
  pub dst_within : (s : View t) (form : Form) → length (dst_cid_of (header_in s form)) ≤ length (header_spelling (header_in s form) 0)
  unfolding header_spelling initial_spelling short_spelling long_start
  dst_within s Initial = simp length-append (omega arith)
  dst_within s Handshake = simp length-append (omega arith)
  dst_within s Early = simp length-append (omega arith)
  dst_within s OneRtt = simp length-append (omega arith)

  -- where there is room for 25 bytes in a packet, it needs no more than a datagram has
  pub least_wide : (capacity : ℕ) (s : View t) (form : Form) → 25 ≤ room_of capacity s form → min_size_of 0 (header_in s form) + 16 ≤ capacity
  unfolding room_of
  least_wide capacity s form wide = least_fits capacity (header_in s form) (omega (arith, wide)) (dst_within s form)

  -- and its token leaves room for frames
  roomy : (capacity : ℕ) (s : View t) (form : Form) → capacity ≤ 16383 → length (header_spelling (header_in s form) 0) + 41 ≤ capacity → (is_initial (header_in s form) && lacks_room 0 (header_in s form) capacity) ≡ false
  roomy capacity s Initial most short = wide_enough capacity (header_in s Initial) most refl short (dst_within s Initial)
  roomy capacity s Handshake most short = refl
  roomy capacity s Early most short = refl
  roomy capacity s OneRtt most short = refl

  -- so it can be begun, where its key may seal one more and its number can be spelled
  pub no_kill : (capacity : ℕ) (s : View t) (form : Form) (usage : KeyUse) → capacity ≤ 16383 → usage.sealed < usage.limit → next_number s.numbers (number_space form) < 2 ^ 62 - 1 → next_number s.numbers (number_space form) - acked_number s.numbers (number_space form) < 2 ^ 31 → 25 ≤ room_of capacity s form →
      kill_of (slot_with s form usage) (header_in s form) 0 capacity ≡ None
  unfolding kill_of room_of
  no_kill capacity s form usage most fresh low near wide =
      no_cause _ _ _ (not_le usage.limit usage.sealed fresh)
      (both_fail _ _ (not_le 4611686018427387903 (next_number s.numbers (number_space form)) low) (not_le (acked_number s.numbers (number_space form) + 2147483648) (next_number s.numbers (number_space form)) (omega arith)))
      (roomy capacity s form most (omega (arith, wide)))

  -- the header of each form has a number
  number_by : (s : View t) (form : Form) → IsSome (header_number (header_in s form))
  number_by s Initial = refl
  number_by s Handshake = refl
  number_by s Early = refl
  number_by s OneRtt = refl

  -- it has a number
  pub header_has_number : (s : View t) (form : Form) (h : Header) → h ≡ header_in s form → IsSome (header_number h)
  header_has_number s form h e = ap (λ (x : Header). is_some (header_number x)) e ∙ number_by s form

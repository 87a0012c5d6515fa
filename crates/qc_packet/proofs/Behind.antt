-- The sizes of a packet that begins anywhere in its buffer, by those of one that begins it.
use Rattle.std.specs.Prelude.{Bool, true, false, ◌&&◌, ◌||◌, Some, None, min, nat_lt, nat_le, if◌then◌else◌}
use Rattle.std.proofs.Common.{◌≡◌, ℕ, ◌+◌, ◌-◌, ◌<◌, ◌≤◌, ap, ◌∙◌, arith, length-append}
use Rattle.std.proofs.lemmas.Bool.Decides.{nat_tests}
use Rattle.qc_header.specs.declared.header.Header.{Header}
use Rattle.qc_header.specs.declared.header.Header.TheVariants.{Initial, Long, Retry, Short, VersionNegotiate}
use Rattle.qc_header.specs.HeaderSpelling.{header_spelling, initial_spelling, short_spelling, long_start, length_and_number}
use Rattle.qc_header.proofs.WrittenHeaders.{length-number_bytes}
use Rattle.qc_packet.specs.Building.{header_len, pn_len, is_short, is_initial, min_size_of, max_size_of, lacks_room, kill_of}
use Rattle.qc_packet.specs.declared.slot.Slot.{Slot}
use Rattle.qc_packet.specs.declared.slot.Kill.TheVariants.{KeyLimit, NumberLimit, TokenRoom}

-- a header is longer than its number
pub longer_header : (h : Header) → pn_len h < header_len h
unfolding header_spelling initial_spelling short_spelling long_start length_and_number
longer_header (Initial h) = simp length-append (omega (arith, length-number_bytes h.number))
longer_header (Long ty dst_cid src_cid number version) = simp length-append (omega (arith, length-number_bytes number))
longer_header (Retry dst_cid src_cid version) = simp length-append (omega arith)
longer_header (Short spin key_phase dst_cid number) = simp length-append (omega (arith, length-number_bytes number))
longer_header (VersionNegotiate random src_cid dst_cid) = simp length-append (omega arith)

-- the size that a packet has at the least
pub least_behind : (start : ℕ) (h : Header) → min_size_of start h ≡ start + min_size_of 0 h
unfolding min_size_of
least_behind start h = omega arith

-- and the one that it has at the most, by how many bytes are left in its buffer
pub most_behind : (start : ℕ) (h : Header) (capacity : ℕ) → 16 ≤ capacity → max_size_of start h (start + capacity) ≡ start + max_size_of 0 h capacity
unfolding max_size_of
most_behind start h capacity tag =
    elim (is_short h) as (λ b. (if b then start + capacity - 16 else min (start + capacity - 16) (start + header_len h - pn_len h + 16367))
    ≡ start + (if b then capacity - 16 else min (capacity - 16) (0 + header_len h - pn_len h + 16367))) [
      | true ↦ omega arith
      | false ↦ omega (arith, longer_header h)
    ]

-- the most that a packet may have leaves room for its tag
pub most_below : (start : ℕ) (h : Header) (capacity : ℕ) → max_size_of start h capacity ≤ capacity - 16
unfolding max_size_of
most_below start h capacity =
    elim (is_short h) as (λ b. (if b then capacity - 16 else min (capacity - 16) (start + header_len h - pn_len h + 16367)) ≤ capacity - 16) [ true ↦ omega arith | false ↦ omega arith ]

-- below 2^14 bytes it is all but the tag: the Length field says as much
pub most_is : (h : Header) (capacity : ℕ) → 16 ≤ capacity → capacity ≤ 16383 → max_size_of 0 h capacity + 16 ≡ capacity
unfolding max_size_of
most_is h capacity tag small =
    elim (is_short h) as (λ b. (if b then capacity - 16 else min (capacity - 16) (0 + header_len h - pn_len h + 16367)) + 16 ≡ capacity) [ true ↦ omega arith | false ↦ omega arith ]

-- what a packet always needs is more than nothing, and so there is room for a tag where there is room for that
pub tag_fits : (h : Header) (capacity : ℕ) → min_size_of 0 h ≤ max_size_of 0 h capacity → 16 ≤ capacity
unfolding min_size_of
tag_fits h capacity sized = omega (arith, most_below 0 h capacity)

lt_behind : (start a b : ℕ) → nat_lt (start + a) (start + b) ≡ nat_lt a b
lt_behind start a b = grind (arith, nat_tests)

-- whether frames have room is asked of the packet alone
pub room_behind : (start : ℕ) (h : Header) (capacity : ℕ) → 16 ≤ capacity → lacks_room start h (start + capacity) ≡ lacks_room 0 h capacity
unfolding lacks_room
room_behind start h capacity tag =
    let most : max_size_of start h (start + capacity) ≡ start + max_size_of 0 h capacity = most_behind start h capacity tag in
    let short : nat_lt (max_size_of start h (start + capacity)) (min_size_of start h) ≡ nat_lt (max_size_of 0 h capacity) (min_size_of 0 h) =
    ap (λ (n : ℕ). nat_lt n (min_size_of start h)) most
    ∙ ap (λ (n : ℕ). nat_lt (start + max_size_of 0 h capacity) n) (least_behind start h) ∙ lt_behind start (max_size_of 0 h capacity) (min_size_of 0 h) in
    let left : max_size_of start h (start + capacity) - (start + header_len h) ≡ max_size_of 0 h capacity - (0 + header_len h) = omega arith in
    ap (λ (b : Bool). b || nat_lt (max_size_of start h (start + capacity) - (start + header_len h)) 25) short
    ∙ ap (λ (n : ℕ). nat_lt (max_size_of 0 h capacity) (min_size_of 0 h) || nat_lt n 25) left

-- and so is why it can't be begun
pub kill_behind : (slot : Slot) (h : Header) (start capacity : ℕ) → 16 ≤ capacity → kill_of slot h start (start + capacity) ≡ kill_of slot h 0 capacity
unfolding kill_of
kill_behind slot h start capacity tag =
    ap (λ (b : Bool). if nat_le slot.limit slot.sealed then Some KeyLimit
    else (if nat_le 4611686018427387903 slot.number || nat_le (slot.largest_acked + 2147483648) slot.number then Some NumberLimit
    else (if is_initial h && b then Some TokenRoom else None))) (room_behind start h capacity tag)

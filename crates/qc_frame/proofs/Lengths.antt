-- How long the spellings of frames are
use Rattle.std.proofs.Common.{◌≡◌, ℕ, ◌+◌, ◌-◌, ◌*◌, ◌/◌, ◌%◌, ◌<◌, ◌≤◌, Bool, true, false, cond, List, [], ◌∷◌, length, take, nat_lt, Option, None, Some, unwrap_or, refl, sym, ap, ◌∙◌, arith, lit<}
use Rattle.std.specs.List.{flat_map}
use Rattle.std.proofs.lemmas.Bool.Decides.{nat_tests}
use Rattle.std.proofs.lemmas.List.{length-append, length-take-le}
use Rattle.qc_base.specs.Varint.{varint, spelled, one, two, four, eight}
use Rattle.qc_frame.specs.AckRanges.{ranges_down, ranges_of}
use Rattle.qc_frame.specs.Frame.{FrameValue, AckValue}
use Rattle.qc_frame.specs.FrameFits.{RangesFit, MoreRangesFit}
use Rattle.qc_frame.specs.FrameSpelling.{spelling, ack_spelling, ack_type, ecn_spelling, numbers_of}
use Rattle.qc_frame.specs.Sizes.{IsLongestReason}
use Rattle.qc_frame.specs.declared.frames.FrameOf.TheVariants as frames
use Rattle.qc_frame.specs.declared.frames.EcnCounts.{EcnCounts}
use Rattle.qc_frame.specs.declared.frames.NewConnectionId.{NewConnectionId}

less : (n m : ℕ) → n < m → nat_lt n m ≡ true
less n m h = grind (arith, nat_tests)

one_of : (n m : ℕ) (a b c : Bool) → length (cond a (spelled one n) (cond b (spelled two n) (cond c (spelled four n) (spelled eight m)))) ≤ 8
one_of n m true b c = omega arith
one_of n m false true c = omega arith
one_of n m false false true = omega arith
one_of n m false false false = omega arith

-- a number has at most eight bytes
pub varint_size_max : (n : ℕ) → length (varint n) ≤ 8
unfolding varint
varint_size_max n = one_of n (n % 4611686018427387904) (nat_lt n 64) (nat_lt n 16384) (nat_lt n 1073741824)

not_less : (n m : ℕ) → m ≤ n → nat_lt n m ≡ false
not_less n m h = grind (arith, nat_tests)

-- a number of 2^30 or more has eight
pub varint_size_longest : (n : ℕ) → 1073741824 ≤ n → length (varint n) ≡ 8
unfolding varint
varint_size_longest n h = rw (not_less n 64 (omega arith), not_less n 16384 (omega arith), not_less n 1073741824 h) refl

-- a type below 64 has one byte
pub length_type : (ty : ℕ) → ty < 64 → length (varint ty) ≡ 1
unfolding varint
length_type ty h = rw (less ty 64 h) refl

pub length-crypto : (offset : ℕ) (body : List ℕ) → length (spelling (frames.Crypto offset body)) ≡ 1 + length (varint offset) + length (varint (length body)) + length body
unfolding spelling
length-crypto offset body = let ty = length_type 6 (lit< tt) in simp length-append (omega (arith, ty))

pub length-connection_close : (code : ℕ) (ty : Option ℕ) (reason : List ℕ)
    → length (spelling (frames.ConnectionClose code ty reason)) ≡ 1 + length (varint code) + length (varint (unwrap_or ty 0)) + length (varint (length reason)) + length reason
unfolding spelling
length-connection_close code ty reason = let one_byte = length_type 28 (lit< tt) in simp length-append (omega (arith, one_byte))

pub length-application_close : (code : ℕ) (reason : List ℕ)
    → length (spelling (frames.ApplicationClose code reason)) ≡ 1 + length (varint code) + length (varint (length reason)) + length reason
unfolding spelling
length-application_close code reason = let ty = length_type 29 (lit< tt) in simp length-append (omega (arith, ty))

pub length-new_connection_id : (new : NewConnectionId)
    → length (spelling (frames.NewConnectionId new)) ≡ 2 + length (varint new.sequence) + length (varint new.retire_prior_to) + length new.id + length new.reset_token
unfolding spelling
length-new_connection_id new = let ty = length_type 24 (lit< tt) in simp length-append (omega (arith, ty))

pub length-retire_connection_id : (sequence : ℕ) → length (spelling (frames.RetireConnectionId sequence)) ≡ 1 + length (varint sequence)
unfolding spelling
length-retire_connection_id sequence = let ty = length_type 25 (lit< tt) in simp length-append (omega (arith, ty))

pub length-datagram : (body : List ℕ) → length (spelling (frames.Datagram body)) ≡ 1 + length (varint (length body)) + length body
unfolding spelling
length-datagram body = let ty = length_type 49 (lit< tt) in simp length-append (omega (arith, ty))

-- numbers have at most eight bytes each
length-numbers : (ns : List ℕ) → length (flat_map varint ns) ≤ 8 * length ns
length-numbers [] = omega arith
length-numbers (n ∷ ns) = omega (arith, length-append (varint n) (flat_map varint ns), varint_size_max n, length-numbers ns)

-- further ranges, one below the other, have two numbers each
more_numbers : (smallest largest : ℕ) (ns : List ℕ) → MoreRangesFit smallest ns → (len : ℕ) → length ns + 2 ≡ 2 * length (ranges_down largest (len ∷ ns))
more_numbers smallest largest [] fits len = omega arith
more_numbers smallest largest (gap ∷ []) fits len = absurd fits
more_numbers smallest largest (gap ∷ next ∷ ns) fits len =
    omega (arith, more_numbers (smallest - (gap + 2) - next) (largest - len - (gap + 2)) ns fits.2 next)

-- and the first one has one
range_numbers_two : (largest : ℕ) (ns : List ℕ) → RangesFit largest ns → length ns + 1 ≡ 2 * length (ranges_down largest ns)
range_numbers_two largest [] fits = absurd fits
range_numbers_two largest (len ∷ ns) fits = omega (arith, more_numbers (largest - len) largest ns fits.1 len)

length-ack : (ack : AckValue) → length (spelling (frames.Ack ack))
    ≡ length (varint (ack_type ack.ecn)) + length (varint ack.largest) + length (varint ack.delay) + length (varint (length (numbers_of ack.additional) / 2))
    + length (flat_map varint (numbers_of ack.additional)) + length (ecn_spelling ack.ecn)
unfolding spelling ack_spelling
length-ack ack = simp length-append (omega arith)

ack_type_size : (ecn : Option EcnCounts) → length (varint (ack_type ecn)) ≡ 1
ack_type_size None = length_type 2 (lit< tt)
ack_type_size (Some counts) = length_type 3 (lit< tt)

-- an ACK has at most 33 bytes, 16 more a further range, and its counts
pub ack_size_max : (ack : AckValue) → RangesFit ack.largest (numbers_of ack.additional)
    → length (spelling (frames.Ack ack)) ≤ 33 + 16 * (length (ranges_of ack) - 1) + length (ecn_spelling ack.ecn)
ack_size_max ack fits =
    omega (
      arith,
      length-ack ack,
      ack_type_size ack.ecn,
      varint_size_max ack.largest,
      varint_size_max ack.delay,
      varint_size_max (length (numbers_of ack.additional) / 2),
      length-numbers (numbers_of ack.additional),
      range_numbers_two ack.largest (numbers_of ack.additional) fits,
    )

-- three counts have at most 24 bytes
pub counts_size_max : (counts : EcnCounts) → length (ecn_spelling (Some counts)) ≤ 24
counts_size_max counts =
    simp length-append (omega (arith, varint_size_max counts.ect0, varint_size_max counts.ect1, varint_size_max counts.ce))

-- the longest front of a reason, for a frame that has `head` bytes before its count
pub is_longest : (close : List ℕ → FrameValue) (head : ℕ) (reason : List ℕ) (room kept : ℕ)
    → ((r : List ℕ) → length (spelling (close r)) ≡ head + length (varint (length r)) + length r)
    → kept ≤ length reason → (head + length (varint 0) ≤ room → head + length (varint kept) + kept ≤ room) → (room < head + length (varint 0) → kept ≡ 0)
    → ((n : ℕ) → n ≤ length reason → head + length (varint n) + n ≤ room → n ≤ kept)
    → IsLongestReason close reason room (take kept reason)
is_longest close head reason room kept size within fits nothing longest =
    let has : length (take kept reason) ≡ kept = length-take-le kept reason within in
    let whole : length (spelling (close (take kept reason))) ≡ head + length (varint kept) + kept = size (take kept reason) ∙ ap (λ (n : ℕ). head + length (varint n) + n) has in
    record {
      front = ap (λ (n : ℕ). take n reason) (sym has);
      fits = λ h. let none = size [] in let all = fits (omega arith) in omega arith;
      nothing = λ h. let none = size [] in let kept_none = nothing (omega arith) in rw kept_none refl;
      longest = λ n less h.
          let has_n : length (take n reason) ≡ n = length-take-le n reason less in
          let part : length (spelling (close (take n reason))) ≡ head + length (varint n) + n = size (take n reason) ∙ ap (λ (m : ℕ). head + length (varint m) + m) has_n in
          let most = longest n less (omega arith) in
          omega arith;
    }

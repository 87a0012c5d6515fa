-- How long frames are that are measured and not written
use Rattle.std.proofs.Common.{◌≡◌, ℕ, ◌+◌, ◌-◌, ◌%◌, ◌<◌, ◌≤◌, Bool, true, false, cond, List, ◌++◌, length, min, nat_lt, replicate, Some, ap, arith}
use Rattle.std.specs.Int.{byte_len}
use Rattle.std.specs.List.{flat_map}
use Rattle.std.proofs.lemmas.Bool.Decides.{nat_tests}
use Rattle.std.proofs.lemmas.Grind.{flat_map-append}
use Rattle.std.proofs.lemmas.List.{length-append, length-replicate}
use Rattle.qc_base.specs.Grammar.{IsBytes}
use Rattle.qc_base.specs.Reading.{varint_of}
use Rattle.qc_base.specs.Varint.{Form, one, two, four, eight, width, limit, spelled, varint}
use Rattle.qc_base.proofs.Varints.{found_varint, is_form}
use Rattle.qc_frame.proofs.Lengths.{varint_size_max}
use Rattle.qc_frame.proofs.Numbers.{number_next}
use Rattle.qc_frame.proofs.Padded.{zeros}
use Rattle.qc_frame.specs.Frame.{FrameValue}
use Rattle.qc_frame.specs.FrameSpelling.{frames_spelling, numbers_within}
use Rattle.qc_frame.specs.declared.frames.FrameOf.TheVariants.{Padding}

less : (n m : ℕ) → n < m → nat_lt n m ≡ true
less n m h = grind (arith, nat_tests)

most_two : (n m : ℕ) (a b : Bool) → length (cond a (spelled one n) (cond true (spelled two n) (cond b (spelled four n) (spelled eight m)))) ≤ 2
most_two n m true b = omega arith
most_two n m false b = omega arith

most_four : (n m : ℕ) (a b : Bool) → length (cond a (spelled one n) (cond b (spelled two n) (cond true (spelled four n) (spelled eight m)))) ≤ 4
most_four n m true b = omega arith
most_four n m false true = omega arith
most_four n m false false = omega arith

-- the shortest form is no longer than any that the number has
no_longer : (f : Form) (n : ℕ) → n < limit f → length (varint n) ≤ byte_len (width f)
unfolding varint
no_longer one n h = rw (less n 64 h) (omega arith)
no_longer two n h = rw (less n 16384 h) (most_two n (n % 4611686018427387904) (nat_lt n 64) (nat_lt n 1073741824))
no_longer four n h = rw (less n 1073741824 h) (most_four n (n % 4611686018427387904) (nat_lt n 64) (nat_lt n 16384))
no_longer eight n h = varint_size_max n

-- a number that is read has at least the bytes of its shortest form
pub shortest_within : (a : List ℕ) (n : ℕ) (z : List ℕ) → IsBytes a → varint_of a ≡ Some (n, z) → length (varint n) + length z ≤ length a
shortest_within a n z bytes is =
    let w = found_varint.takes a n z bytes is in
    let all = ap length w.2 in
    omega (arith, no_longer w.0 n w.1, (is_form w.0).size n, all, length-append (spelled w.0 n) z)

-- what was measured and what is to come are together the same before and after one number
pub measured_next : (most i n len size : ℕ) (bytes rest : List ℕ) (all : ℕ) → i < most → varint_of bytes ≡ Some (n, rest) → size ≡ length (varint n)
    → len + length (flat_map varint (numbers_within (most - i) bytes)) ≡ all
    → len + size + length (flat_map varint (numbers_within (most - (i + 1)) rest)) ≡ all
measured_next most i n len size bytes rest all h is e sum =
    let next = ap (λ (ns : List ℕ). length (flat_map varint ns)) (number_next most i n bytes rest h is) in
    omega (arith, e, sum, next, length-append (varint n) (flat_map varint (numbers_within (most - (i + 1)) rest)))

-- and PADDING frames behind them, a byte each
pub padded_len : (fs : List FrameValue) (n : ℕ)
    → min (min (length (frames_spelling fs)) 18446744073709551615 + n) 18446744073709551615 ≡ min (length (frames_spelling (fs ++ replicate n Padding))) 18446744073709551615
padded_len fs n = rw (flat_map-append, zeros n, length-append, length-replicate) (omega arith)

-- A packet with its fixed bit flipped is read as the one with the bit set, by a reader that takes both (RFC 9287): no reader
-- but the test of the bit itself looks at it, and header protection leaves it.
use Rattle.std.specs.Prelude.{bit_xor, nat_lt}
use Rattle.std.specs.List.{list_any}
use Rattle.std.specs.Int.{w32}
use Rattle.std.specs.Int.Bits.{xor_zero_r}
use Rattle.std.proofs.Common.{◌≡◌, ℕ, zero, suc, ◌+◌, ◌-◌, ◌*◌, ◌/◌, ◌%◌, ◌^◌, ◌<◌, ◌≤◌, ◌==◌, ◌&&◌, not, cond, Bool, true, false, List, [], ◌∷◌, ◌++◌, length, take, drop, Option, None, Some, Result, Ok, Err, inr, refl, sym, ap, subst, ◌∙◌, arith}
use Rattle.std.proofs.lemmas.Bool.Decides.{nat_tests}
use Rattle.std.proofs.lemmas.Nat.{xor_block, xor_lt}
use Rattle.qc_base.specs.Mask.{first_byte, first_changes, masked, masked_by, unmasked, unmasked_by, sample_at, number_len_in}
use Rattle.qc_base.specs.Reading.{read_on, or_fault, give, word_of}
use Rattle.qc_base.proofs.Exact.{two_steps}
use Rattle.qc_header.specs.declared.protected.PacketDecodeError.{PacketDecodeError}
use Rattle.qc_header.specs.declared.protected.PacketDecodeError.TheVariants.{InvalidHeader, UnsupportedVersion}
use Rattle.qc_header.specs.declared.protected.ProtectedHeader.{ProtectedHeader}
use Rattle.qc_header.specs.declared.protected.ProtectedHeader.TheVariants.{VersionNegotiate}
use Rattle.qc_header.specs.HeaderReading.{Heading, HeaderReader, id_of, typed_at, long_at, short_at, header_at, packet_at, piece_at}
use Rattle.qc_header.specs.Piece.{Piece, is_protected}
use Rattle.qc_header.proofs.FrontHeader.{behind_ids}
use Rattle.qc_header.proofs.FrontPiece.{header_ends}
use Rattle.qc_header.proofs.ReadHeaders.{fixed_let}
use Rattle.qc_header.proofs.Readings.{went_on}
use Rattle.qc_header.specs.Unprotected.{IsCut, unprotected, header_end}
use Rattle.qc_header.specs.declared.header.Header.{Header}
use Rattle.qc_header.specs.ReadBack.{Finishes}
use Rattle.qc_header.proofs.Cuts.{unprotected_is, end_protected}
use Rattle.qc_packet.specs.PacketSpelling.{with_flip}

-- bytes with the fixed bit of the first taken away, which has it
abbrev pub flipped : List ℕ → List ℕ
flipped bytes = with_flip true bytes

-- ---- a byte with the bit, and without it

same_kind : (b : ℕ) → b / 64 % 2 ≡ 1 → nat_lt (b - 64) 128 ≡ nat_lt b 128
same_kind b f =
    elim (nat_lt b 128) as (λ t. nat_lt b 128 ≡ t → nat_lt (b - 64) 128 ≡ t) [
      | true ↦ λ e. grind (arith, nat_tests)
      | false ↦ λ e. let high : 128 ≤ b = grind (arith, nat_tests) in let still : 128 ≤ b - 64 = omega arith in grind (arith, nat_tests)
    ] refl

same_type : (b : ℕ) → b / 64 % 2 ≡ 1 → (b - 64) / 16 % 4 ≡ b / 16 % 4
same_type b f = omega arith

same_spin : (b : ℕ) → b / 64 % 2 ≡ 1 → (b - 64) / 32 % 2 ≡ b / 32 % 2
same_spin b f = omega arith

pub same_phase : (b : ℕ) → b / 64 % 2 ≡ 1 → (b - 64) / 4 % 2 ≡ b / 4 % 2
same_phase b f = omega arith

pub same_tag : (b : ℕ) → b / 64 % 2 ≡ 1 → (b - 64) % 4 ≡ b % 4
same_tag b f = omega arith

-- a change of lower bits leaves it
changed : (b c : ℕ) → c < 64 → bit_xor b c ≡ b / 64 * 64 + bit_xor (b % 64) c
changed b c small =
    let whole : b / 64 * 2 ^ 6 + b % 64 ≡ b = omega arith in
    let blocks : bit_xor (b / 64 * 2 ^ 6 + b % 64) (0 * 2 ^ 6 + c) ≡ bit_xor (b / 64) 0 * 2 ^ 6 + bit_xor (b % 64) c = xor_block 6 (b / 64) 0 (b % 64) c (omega arith) (omega arith) in
    let change : 0 * 2 ^ 6 + c ≡ c = omega arith in
    let top : bit_xor (b / 64) 0 ≡ b / 64 = xor_zero_r (b / 64) in
    sym (ap (λ (v : ℕ). bit_xor v (0 * 2 ^ 6 + c)) whole ∙ ap (λ (v : ℕ). bit_xor b v) change) ∙ blocks ∙ omega (arith, top)

few_changes : (b m : ℕ) → first_changes b m < 64
few_changes b m = elim (nat_lt b 128) as (λ t. cond t (m % 32) (m % 16) < 64) [ true ↦ omega arith | false ↦ omega arith ]

change_flips : (b c : ℕ) → c < 64 → b / 64 % 2 ≡ 1 → bit_xor (b - 64) c ≡ bit_xor b c - 64
change_flips b c small f =
    let low : (b - 64) % 64 ≡ b % 64 = omega arith in
    let high : (b - 64) / 64 * 64 ≡ b / 64 * 64 - 64 = omega arith in
    let one : bit_xor (b - 64) c ≡ (b - 64) / 64 * 64 + bit_xor ((b - 64) % 64) c = changed (b - 64) c small in
    let same : bit_xor ((b - 64) % 64) c ≡ bit_xor (b % 64) c = ap (λ (v : ℕ). bit_xor v c) low in
    let two : bit_xor b c ≡ b / 64 * 64 + bit_xor (b % 64) c = changed b c small in
    let some : 64 ≤ b / 64 * 64 = omega arith in
    omega arith

bit_stays : (b c : ℕ) → c < 64 → b / 64 % 2 ≡ 1 → bit_xor b c / 64 % 2 ≡ 1
bit_stays b c small f =
    let two : bit_xor b c ≡ b / 64 * 64 + bit_xor (b % 64) c = changed b c small in
    let low : bit_xor (b % 64) c < 2 ^ 6 = xor_lt 6 (b % 64) c (omega arith) (omega arith) in
    omega arith

first_flips : (b m : ℕ) → b / 64 % 2 ≡ 1 → bit_xor (b - 64) (first_changes (b - 64) m) ≡ bit_xor b (first_changes b m) - 64
first_flips b m f = rw (same_kind b f) (change_flips b (first_changes b m) (few_changes b m) f)

first_stays : (b m : ℕ) → b / 64 % 2 ≡ 1 → bit_xor b (first_changes b m) / 64 % 2 ≡ 1
first_stays b m f = bit_stays b (first_changes b m) (few_changes b m) f

-- ---- header protection

pub mask_flips : (mask_of : List ℕ → List ℕ) (pn : ℕ) (bytes : List ℕ) → 1 ≤ pn → first_byte bytes / 64 % 2 ≡ 1 → masked mask_of pn (flipped bytes) ≡ flipped (masked mask_of pn bytes)
unfolding masked masked_by sample_at
mask_flips mask_of zero bytes some f = absurd (omega arith)
mask_flips mask_of (suc q) [] some f = absurd (omega arith)
mask_flips mask_of (suc q) (b ∷ rest) some f =
    let next : suc q + 4 ≡ suc (q + 4) = omega arith in
    rw (next, first_flips b (first_byte (mask_of (take 16 (drop (q + 4) rest)))) f, same_tag b f) refl

pub masked_stays : (mask_of : List ℕ → List ℕ) (pn : ℕ) (bytes : List ℕ) → 1 ≤ pn → first_byte bytes / 64 % 2 ≡ 1 → first_byte (masked mask_of pn bytes) / 64 % 2 ≡ 1
unfolding masked masked_by
masked_stays mask_of zero bytes some f = absurd (omega arith)
masked_stays mask_of (suc q) [] some f = absurd (omega arith)
masked_stays mask_of (suc q) (b ∷ rest) some f = first_stays b (first_byte (mask_of (sample_at (suc q) (b ∷ rest)))) f

pub unmask_flips : (mask_of : List ℕ → List ℕ) (pn : ℕ) (bytes : List ℕ) → 1 ≤ pn → first_byte bytes / 64 % 2 ≡ 1 → unmasked mask_of pn (flipped bytes) ≡ flipped (unmasked mask_of pn bytes)
unfolding unmasked unmasked_by sample_at
unmask_flips mask_of zero bytes some f = absurd (omega arith)
unmask_flips mask_of (suc q) [] some f = absurd (omega arith)
unmask_flips mask_of (suc q) (b ∷ rest) some f =
    let next : suc q + 4 ≡ suc (q + 4) = omega arith in
    let m : ℕ = first_byte (mask_of (take 16 (drop (q + 4) rest))) in
    rw (next, first_flips b m f, same_tag (bit_xor b (first_changes b m)) (first_stays b m f)) refl

pub unmasked_stays : (mask_of : List ℕ → List ℕ) (pn : ℕ) (bytes : List ℕ) → 1 ≤ pn → first_byte bytes / 64 % 2 ≡ 1 → first_byte (unmasked mask_of pn bytes) / 64 % 2 ≡ 1
unfolding unmasked unmasked_by
unmasked_stays mask_of zero bytes some f = absurd (omega arith)
unmasked_stays mask_of (suc q) [] some f = absurd (omega arith)
unmasked_stays mask_of (suc q) (b ∷ rest) some f = first_stays b (first_byte (mask_of (sample_at (suc q) (b ∷ rest)))) f

-- ---- bytes behind the first

pub append_flips : (xs ys : List ℕ) → first_byte xs / 64 % 2 ≡ 1 → flipped xs ++ ys ≡ flipped (xs ++ ys)
append_flips [] ys f = absurd (omega arith)
append_flips (x ∷ xs) ys f = refl

pub append_first : (xs ys : List ℕ) → first_byte xs / 64 % 2 ≡ 1 → first_byte (xs ++ ys) / 64 % 2 ≡ 1
append_first [] ys f = absurd (omega arith)
append_first (x ∷ xs) ys f = f

pub flipped_len : (xs : List ℕ) → first_byte xs / 64 % 2 ≡ 1 → length (flipped xs) ≡ length xs
flipped_len [] f = absurd (omega arith)
flipped_len (x ∷ xs) f = refl

pub flipped_tag : (xs : List ℕ) → first_byte xs / 64 % 2 ≡ 1 → number_len_in (flipped xs) ≡ number_len_in xs
flipped_tag xs f = rw (same_tag (first_byte xs) f) refl

pub drop_flips : (n : ℕ) (xs : List ℕ) → 1 ≤ n → drop n (flipped xs) ≡ drop n xs
drop_flips zero xs some = absurd (omega arith)
drop_flips (suc n) [] some = elim n as (λ k. drop {A = ℕ} k [] ≡ []) [ zero ↦ refl | suc k ↦ refl ]
drop_flips (suc n) (x ∷ xs) some = refl

pub take_flips : (n : ℕ) (xs : List ℕ) → 1 ≤ n → first_byte xs / 64 % 2 ≡ 1 → take n (flipped xs) ≡ flipped (take n xs)
take_flips zero xs some f = absurd (omega arith)
take_flips (suc n) [] some f = absurd (omega arith)
take_flips (suc n) (x ∷ xs) some f = refl

-- ---- reading

-- whether a reading gave a protected header
abbrev gives_protected : Result (Heading × List ℕ) PacketDecodeError → Bool
gives_protected (Ok x) = is_protected x.0.0
gives_protected (Err e) = false

no_negotiation : (random : ℕ) (src dst a : List ℕ) (h : Heading) (z : List ℕ) → is_protected h.0 ≡ true
    → let l : Result (Heading × List ℕ) PacketDecodeError = Ok ((VersionNegotiate random src dst, None), a) in l ≡ Ok (h, z) → ⊥
no_negotiation random src dst a h z protected e =
    let same : false ≡ is_protected h.0 = ap (λ (r : Result (Heading × List ℕ) PacketDecodeError). gives_protected r) e in
    cc

module _ (size : ℕ) (versions : List ℕ) where
  typed_flips : (b v : ℕ) (dst src a : List ℕ) (h : Heading) (z : List ℕ) → b / 64 % 2 ≡ 1 → typed_at size b dst src v a ≡ Ok (h, z) → typed_at size (b - 64) dst src v a ≡ Ok (h, z)
  unfolding typed_at
  typed_flips b v dst src a h z f e = rw (same_type b f) e

  known_flips : (b v : ℕ) (dst src a : List ℕ) (h : Heading) (z : List ℕ) (unknown : Bool) → b / 64 % 2 ≡ 1
      → cond unknown (Err (UnsupportedVersion src dst v)) (typed_at size b dst src v a) ≡ Ok (h, z)
      → cond unknown (Err (UnsupportedVersion src dst v)) (typed_at size (b - 64) dst src v a) ≡ Ok (h, z)
  known_flips b v dst src a h z true f e = e
  known_flips b v dst src a h z false f e = typed_flips b v dst src a h z f e

  abbrev behind_by : (zero_version : Bool) → ℕ → ℕ → List ℕ → List ℕ → HeaderReader
  behind_by zero_version first v dst src a =
      cond zero_version (give (VersionNegotiate (first % 128) src dst, None))
      (λ a. cond (not (list_any (λ u. u == v) versions)) (Err (UnsupportedVersion src dst v)) (typed_at size first dst src v a)) a

  ids_flip : (b v : ℕ) (dst src a : List ℕ) (h : Heading) (z : List ℕ) (zero_version : Bool) → b / 64 % 2 ≡ 1 → is_protected h.0 ≡ true
      → behind_by zero_version b v dst src a ≡ Ok (h, z) → behind_by zero_version (b - 64) v dst src a ≡ Ok (h, z)
  ids_flip b v dst src a h z true f protected e = absurd (no_negotiation (b % 128) src dst a h z protected e)
  ids_flip b v dst src a h z false f protected e = known_flips b v dst src a h z (not (list_any (λ u. u == v) versions)) f e

  abbrev from_src : ℕ → ℕ → List ℕ → HeaderReader
  from_src b v dst = λ a. read_on (or_fault InvalidHeader id_of a) (λ src. behind_ids size versions b v dst src)

  abbrev from_dst : ℕ → ℕ → HeaderReader
  from_dst b v = λ a. read_on (or_fault InvalidHeader id_of a) (λ dst. from_src b v dst)

  long_flips : (b : ℕ) (a : List ℕ) (h : Heading) (z : List ℕ) → b / 64 % 2 ≡ 1 → is_protected h.0 ≡ true
      → long_at size versions b a ≡ Ok (h, z) → long_at size versions (b - 64) a ≡ Ok (h, z)
  unfolding long_at
  long_flips b a h z f protected e =
      let w = two_steps (or_fault InvalidHeader (word_of w32) a) (from_dst b) h z e in
      let x = two_steps (or_fault InvalidHeader id_of w.1) (from_src b w.0) h z w.3 in
      let y = two_steps (or_fault InvalidHeader id_of x.1) (behind_ids size versions b w.0 x.0) h z x.3 in
      ap (λ (r : Result (ℕ × List ℕ) PacketDecodeError). read_on r (from_dst (b - 64))) w.2
      ∙ (ap (λ (r : Result (List ℕ × List ℕ) PacketDecodeError). read_on r (from_src (b - 64) w.0)) x.2
      ∙ (ap (λ (r : Result (List ℕ × List ℕ) PacketDecodeError). read_on r (behind_ids size versions (b - 64) w.0 x.0)) y.2
      ∙ ids_flip b w.0 x.0 y.0 y.1 h z (w.0 == 0) f protected y.3))

short_flips : (k b : ℕ) (a : List ℕ) (h : Heading) (z : List ℕ) → b / 64 % 2 ≡ 1 → short_at k b a ≡ Ok (h, z) → short_at k (b - 64) a ≡ Ok (h, z)
unfolding short_at
short_flips k b a h z f e = rw (same_spin b f) e

header_flips : (size k : ℕ) (versions : List ℕ) (b : ℕ) (a : List ℕ) (h : Heading) (z : List ℕ) → b / 64 % 2 ≡ 1 → is_protected h.0 ≡ true
    → header_at size k versions true (b ∷ a) ≡ Ok (h, z) → header_at size k versions true ((b - 64) ∷ a) ≡ Ok (h, z)
unfolding header_at
header_flips size k versions b a h z f protected e =
    let r = went_on (b / 64 % 2 == 0 && not true) InvalidHeader (cond (nat_lt b 128) (short_at k b) (long_at size versions b) a) (h, z) e in
    let both : (t : Bool) → cond t (short_at k b) (long_at size versions b) a ≡ Ok (h, z) → cond t (short_at k (b - 64)) (long_at size versions (b - 64)) a ≡ Ok (h, z) =
    λ t. elim t as (λ t. cond t (short_at k b) (long_at size versions b) a ≡ Ok (h, z) → cond t (short_at k (b - 64)) (long_at size versions (b - 64)) a ≡ Ok (h, z)) [
      | true ↦ λ s. short_flips k b a h z f s
      | false ↦ λ s. long_flips size versions b a h z f protected s
    ] in
    rw (fixed_let (b - 64) true (inr refl), same_kind b f) (both (nat_lt b 128) r.1)

-- the piece that was read, its first byte without the bit
abbrev pub flipped_piece : Piece → Piece
flipped_piece p = record p { bytes = flipped p.bytes }

piece_of : (x : Piece × List ℕ) (p : Piece) (z : List ℕ) → let l : Result (Piece × List ℕ) PacketDecodeError = Ok x in l ≡ Ok (p, z) → x ≡ (p, z)
piece_of x p z e = ap (λ (r : Result (Piece × List ℕ) PacketDecodeError). first_of r x) e where
  first_of : Result (Piece × List ℕ) PacketDecodeError → Piece × List ℕ → Piece × List ℕ
  first_of (Ok x) d = x
  first_of (Err e) d = d

abbrev whole_piece : List ℕ → ProtectedHeader → ℕ → Piece × List ℕ
whole_piece a h left = (record { header = h; pn_offset = length a - left; bytes = a }, [])

abbrev cut_piece : List ℕ → ProtectedHeader → ℕ → ℕ → Piece × List ℕ
cut_piece a h left n =
    (record { header = h; pn_offset = length a - left; bytes = take (length a - left + n) a }, drop (length a - left + n) a)

packet_flips : (b : ℕ) (a : List ℕ) (h : ProtectedHeader) (o : Option ℕ) (left : ℕ) (p : Piece) (z : List ℕ) → b / 64 % 2 ≡ 1 → left < length (b ∷ a)
    → packet_at (b ∷ a) h o left ≡ Ok (p, z) → (packet_at ((b - 64) ∷ a) h o left ≡ Ok (flipped_piece p, z)) × (h ≡ p.header)
packet_flips b a h None left p z f less e =
    let same : whole_piece (b ∷ a) h left ≡ (p, z) = piece_of (whole_piece (b ∷ a) h left) p z e in (
      subst (λ (x : Piece × List ℕ). packet_at ((b - 64) ∷ a) h None left ≡ Ok (flipped_piece x.0, x.1)) same refl,
      ap (λ (x : Piece × List ℕ). x.0.header) same,
    )
packet_flips b a h (Some n) left p z f less e =
    let w = went_on (nat_lt left n) InvalidHeader (Ok (cut_piece (b ∷ a) h left n)) (p, z) e in
    let same : cut_piece (b ∷ a) h left n ≡ (p, z) = piece_of (cut_piece (b ∷ a) h left n) p z w.1 in
    let some : 1 ≤ length (b ∷ a) - left + n = omega arith in
    let front : take (length (b ∷ a) - left + n) ((b - 64) ∷ a) ≡ flipped (take (length (b ∷ a) - left + n) (b ∷ a)) = take_flips (length (b ∷ a) - left + n) (b ∷ a) some f in
    let behind : drop (length (b ∷ a) - left + n) ((b - 64) ∷ a) ≡ drop (length (b ∷ a) - left + n) (b ∷ a) = drop_flips (length (b ∷ a) - left + n) (b ∷ a) some in (
      rw w.0 (subst (λ (x : Piece × List ℕ). ◌≡◌ {A = Result (Piece × List ℕ) PacketDecodeError} (Ok (cut_piece ((b - 64) ∷ a) h left n)) (Ok (flipped_piece x.0, x.1))) same (rw (front, behind) refl)),
      ap (λ (x : Piece × List ℕ). x.0.header) same,
    )

piece_flips : (k : ℕ) (versions : List ℕ) (b : ℕ) (a : List ℕ) (p : Piece) (z : List ℕ) → b / 64 % 2 ≡ 1 → is_protected p.header ≡ true
    → piece_at k versions true (b ∷ a) ≡ Ok (p, z) → piece_at k versions true ((b - 64) ∷ a) ≡ Ok (flipped_piece p, z)
unfolding piece_at
piece_flips k versions b a p z f protected e =
    let w = two_steps (header_at (length (b ∷ a)) k versions true (b ∷ a)) (λ heading rest. packet_at (b ∷ a) heading.0 heading.1 (length rest)) p z e in
    let ends = header_ends k versions true (length (b ∷ a)) (b ∷ a) w.0 w.1 w.2 in
    let packet = packet_flips b a w.0.0 w.0.1 (length w.1) p z f ends.1 w.3 in
    let kind : is_protected w.0.0 ≡ true = ap (λ (h : ProtectedHeader). is_protected h) packet.1 ∙ protected in
    ap (λ (r : Result (Heading × List ℕ) PacketDecodeError). read_on r (λ heading rest. packet_at ((b - 64) ∷ a) heading.0 heading.1 (length rest))) (header_flips (length (b ∷ a)) k versions b a w.0 w.1 f kind w.2)
    ∙ packet.0

-- a packet that is read is read with its fixed bit flipped too
pub reads_flipped : (k : ℕ) (versions bytes : List ℕ) (p : Piece) (rest : List ℕ) → first_byte bytes / 64 % 2 ≡ 1 → is_protected p.header ≡ true
    → piece_at k versions true bytes ≡ Ok (p, rest) → piece_at k versions true (flipped bytes) ≡ Ok (flipped_piece p, rest)
reads_flipped k versions [] p rest f protected e = absurd (omega arith)
reads_flipped k versions (b ∷ bytes) p rest f protected e = piece_flips k versions b bytes p rest f protected e

-- ---- what comes out of it

-- the bytes up to the end of the number, and those behind
record EndsAt (pn : ℕ) (bytes spelling behind : List ℕ) : Type 0 where
  pub header : take (pn + number_len_in bytes) bytes ≡ spelling
  pub payload : drop (pn + number_len_in bytes) bytes ≡ behind

ends_flip : (pn : ℕ) (bytes header payload : List ℕ) → 1 ≤ pn → first_byte bytes / 64 % 2 ≡ 1 → EndsAt pn bytes header payload → EndsAt pn (flipped bytes) (flipped header) payload
ends_flip pn bytes header payload some f e =
    let len : pn + number_len_in (flipped bytes) ≡ pn + number_len_in bytes = ap (λ (n : ℕ). pn + n) (flipped_tag bytes f) in
    record {
      header = ap (λ (n : ℕ). take n (flipped bytes)) len ∙ take_flips (pn + number_len_in bytes) bytes (omega arith) f ∙ ap (λ (x : List ℕ). flipped x) e.header;
      payload = ap (λ (n : ℕ). drop n (flipped bytes)) len ∙ drop_flips (pn + number_len_in bytes) bytes (omega arith) ∙ e.payload;
    }

finishes_at : (mask_of : List ℕ → List ℕ) (p : Piece) (h : Header) (spelling behind : List ℕ) → is_protected p.header ≡ true → Finishes mask_of p h spelling behind
    → EndsAt p.pn_offset (unmasked mask_of p.pn_offset p.bytes) spelling behind
finishes_at mask_of p h spelling behind protected fin =
    let bytes : unprotected mask_of p ≡ unmasked mask_of p.pn_offset p.bytes = unprotected_is mask_of p protected in
    let end : header_end p (unprotected mask_of p) ≡ p.pn_offset + number_len_in (unmasked mask_of p.pn_offset p.bytes) = end_protected p (unprotected mask_of p) protected ∙ ap (λ (x : List ℕ). p.pn_offset + number_len_in x) bytes in
    record {
      header = sym (ap (λ (n : ℕ). take n (unprotected mask_of p)) end ∙ ap (λ (x : List ℕ). take (p.pn_offset + number_len_in (unmasked mask_of p.pn_offset p.bytes)) x) bytes) ∙ fin.header_data;
      payload = sym (ap (λ (n : ℕ). drop n (unprotected mask_of p)) end ∙ ap (λ (x : List ℕ). drop (p.pn_offset + number_len_in (unmasked mask_of p.pn_offset p.bytes)) x) bytes) ∙ fin.payload;
    }

-- once its mask is off, header and payload come back, and the header's bytes are without the bit
pub record FinishesFlipped (mask_of : List ℕ → List ℕ) (p : Piece) (spelling behind : List ℕ) : Type 0 where
  pub whole : IsCut (flipped_piece p) → ⊥
  pub header_data : take (header_end (flipped_piece p) (unprotected mask_of (flipped_piece p))) (unprotected mask_of (flipped_piece p)) ≡ flipped spelling
  pub payload : drop (header_end (flipped_piece p) (unprotected mask_of (flipped_piece p))) (unprotected mask_of (flipped_piece p)) ≡ behind

pub finishes_flipped : (mask_of : List ℕ → List ℕ) (p : Piece) (h : Header) (spelling behind : List ℕ) → 1 ≤ p.pn_offset → is_protected p.header ≡ true → first_byte p.bytes / 64 % 2 ≡ 1
    → Finishes mask_of p h spelling behind → FinishesFlipped mask_of p spelling behind
finishes_flipped mask_of p h spelling behind some protected f fin =
    let pn : ℕ = p.pn_offset in
    let bytes : unprotected mask_of (flipped_piece p) ≡ flipped (unmasked mask_of pn p.bytes) = unprotected_is mask_of (flipped_piece p) protected ∙ unmask_flips mask_of pn p.bytes some f in
    let end : header_end (flipped_piece p) (unprotected mask_of (flipped_piece p)) ≡ pn + number_len_in (flipped (unmasked mask_of pn p.bytes)) =
    end_protected (flipped_piece p) (unprotected mask_of (flipped_piece p)) protected ∙ ap (λ (x : List ℕ). pn + number_len_in x) bytes in
    let ends : EndsAt pn (flipped (unmasked mask_of pn p.bytes)) (flipped spelling) behind =
    ends_flip pn (unmasked mask_of pn p.bytes) spelling behind some (unmasked_stays mask_of pn p.bytes some f) (finishes_at mask_of p h spelling behind protected fin) in
    record {
      whole = λ cut. fin.whole (cut.0, omega (arith, cut.1, flipped_len p.bytes f));
      header_data = ap (λ (n : ℕ). take n (unprotected mask_of (flipped_piece p))) end ∙ ap (λ (x : List ℕ). take (pn + number_len_in (flipped (unmasked mask_of pn p.bytes))) x) bytes ∙ ends.header;
      payload = ap (λ (n : ℕ). drop n (unprotected mask_of (flipped_piece p))) end ∙ ap (λ (x : List ℕ). drop (pn + number_len_in (flipped (unmasked mask_of pn p.bytes))) x) bytes ∙ ends.payload;
    }

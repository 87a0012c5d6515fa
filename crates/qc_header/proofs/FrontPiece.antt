-- The packet at the front of a datagram is what the grammar says, and so is the fault where there is none
use Rattle.std.proofs.Common.{◌≡◌, ℕ, ◌+◌, ◌-◌, ◌/◌, ◌%◌, ◌<◌, ◌≤◌, ◌==◌, ◌&&◌, inl, inr, not, cond, Bool, true, false, List, [], ◌∷◌, ◌++◌, length, take, drop, nat_lt, Option, None, Some, Result, Ok, Err, refl, sym, ap, ◌∙◌, subst, arith, length-append, append-nil}
use Rattle.std.proofs.lemmas.Bool.Decides.{nat_tests}
use Rattle.std.proofs.lemmas.Grind.{common_steps}
use Rattle.std.proofs.lemmas.List.{length-drop, length-take-le, take-append-drop}
use Rattle.std.proofs.Math.Seq.{take-append_seam, drop-append_seam}
use Rattle.qc_base.specs.Grammar.{IsBytes}
use Rattle.qc_base.specs.Reading.{read_on, or_fault, byte_of}
use Rattle.qc_base.proofs.Exact.{Ends, ends_bytes, ends_both, ends_length, two_steps, found_byte}
use Rattle.qc_base.proofs.Front.{same_second}
use Rattle.qc_header.specs.declared.protected.PacketDecodeError.{PacketDecodeError}
use Rattle.qc_header.specs.declared.protected.PacketDecodeError.TheVariants.{InvalidHeader}
use Rattle.qc_header.specs.declared.protected.ProtectedHeader.{ProtectedHeader}
use Rattle.qc_header.specs.HeaderReading.{Heading, HeaderReader, long_at, short_at, header_at, packet_at, piece_at}
use Rattle.qc_header.specs.HeaderGrammar.{IsFixed, HeaderAt, PieceAt}
use Rattle.qc_header.specs.HeaderGrammar as grammar
use Rattle.qc_header.specs.Piece.{Piece}
use Rattle.qc_header.proofs.Readings.{went_on, was_some}
use Rattle.qc_header.proofs.ReadHeaders.{fixed_let}
use Rattle.qc_header.proofs.FrontHeader.{either, short_exact, long_exact}

-- ---- the first byte

pub fixed_seen : (first : ℕ) (grease b : Bool) → grease ≡ b → (first / 64 % 2 == 0 && not grease) ≡ false → IsFixed grease first
fixed_seen first grease true g e = inr g
fixed_seen first grease false g e =
    let unset : (first / 64 % 2 == 0 && true) ≡ false = subst (λ (b : Bool). (first / 64 % 2 == 0 && not b) ≡ false) g e in
    let test : (first / 64 % 2 == 0) ≡ false = grind (arith, common_steps) in
    inl (grind (arith, nat_tests))

module _ (k : ℕ) (versions : List ℕ) (grease : Bool) (size : ℕ) where
  abbrev pub behind_first : ℕ → HeaderReader
  behind_first first = λ a. cond (first / 64 % 2 == 0 && not grease) (Err InvalidHeader) (cond (nat_lt first 128) (short_at k first) (long_at size versions first) a)

  pub header_takes : (a : List ℕ) (h : Heading) (z : List ℕ) → IsBytes a → header_at size k versions grease a ≡ Ok (h, z)
      → HeaderAt k versions grease size h a z
  unfolding header_at
  header_takes a h z bytes e =
      let w = two_steps (or_fault InvalidHeader byte_of a) behind_first h z e in
      let some = was_some (byte_of a) (w.0, w.1) InvalidHeader w.2 in
      let byte = found_byte.takes a w.0 w.1 bytes some in
      let behind = ends_bytes a w.1 (found_byte.ends a w.0 w.1 some) bytes in
      let r = went_on (w.0 / 64 % 2 == 0 && not grease) InvalidHeader (cond (nat_lt w.0 128) (short_at k w.0) (long_at size versions w.0) w.1) (h, z) w.3 in
      let fixed = fixed_seen w.0 grease grease refl r.0 in
      elim (either (nat_lt w.0 128) (short_at k w.0) (long_at size versions w.0) w.1 (h, z) r.1) [
        | inl q ↦ let t = q.0 in grammar.is_short w.0 w.1 byte fixed (grind (arith, nat_tests)) ((short_exact k w.0).takes w.1 h z behind q.1)
        | inr q ↦ let t = q.0 in grammar.is_long w.0 w.1 byte fixed (grind (arith, nat_tests)) ((long_exact size versions w.0).takes w.1 h z behind q.1)
      ]

  pub header_again : (a : List ℕ) (h : Heading) (z : List ℕ) → HeaderAt k versions grease size h a z → header_at size k versions grease a ≡ Ok (h, z)
  unfolding header_at
  header_again a h z (grammar.is_short first b byte fixed low s) =
      let short : nat_lt first 128 ≡ true = grind (arith, nat_tests) in
      rw (byte, fixed_let first grease fixed, short) ((short_exact k first).again b h z s)
  header_again a h z (grammar.is_long first b byte fixed high s) =
      let long : nat_lt first 128 ≡ false = grind (arith, nat_tests) in
      rw (byte, fixed_let first grease fixed, long) ((long_exact size versions first).again b h z s)

  byte_shorter : (a : List ℕ) (b : ℕ) (z : List ℕ) → byte_of a ≡ Some (b, z) → length z < length a
  byte_shorter [] b z e = cc
  byte_shorter (c ∷ a) b z e = omega (arith, ap length (same_second (c, a) (b, z) e))

  -- a header has at least one byte, and what is behind it is the end of the datagram
  pub header_ends : (a : List ℕ) (h : Heading) (z : List ℕ) → header_at size k versions grease a ≡ Ok (h, z) → Ends a z × (length z < length a)
  unfolding header_at
  header_ends a h z e =
      let w = two_steps (or_fault InvalidHeader byte_of a) behind_first h z e in
      let some = was_some (byte_of a) (w.0, w.1) InvalidHeader w.2 in
      let r = went_on (w.0 / 64 % 2 == 0 && not grease) InvalidHeader (cond (nat_lt w.0 128) (short_at k w.0) (long_at size versions w.0) w.1) (h, z) w.3 in
      let front = found_byte.ends a w.0 w.1 some in
      let less = byte_shorter a w.0 w.1 some in
      elim (either (nat_lt w.0 128) (short_at k w.0) (long_at size versions w.0) w.1 (h, z) r.1) [
        | inl q ↦ let behind = (short_exact k w.0).ends w.1 h z q.1 in (ends_both a w.1 z front behind, omega (arith, less, ends_length w.1 z behind))
        | inr q ↦ let behind = (long_exact size versions w.0).ends w.1 h z q.1 in (ends_both a w.1 z front behind, omega (arith, less, ends_length w.1 z behind))
      ]

-- ---- packets

from_ok : {E X : Type 0} → Result X E → X → X
from_ok (Ok x) d = x
from_ok (Err e) d = d

same_ok : {E X : Type 0} (x y : X) → let l : Result X E = Ok x in l ≡ Ok y → x ≡ y
unfolding from_ok
same_ok {E} {X} x y e = ap (λ (r : Result X E). from_ok r x) e

same_piece : (p : Piece) (m : ℕ) (x u z : List ℕ) → m ≡ p.pn_offset → x ≡ p.bytes → u ≡ z
    → let l : Result (Piece × List ℕ) PacketDecodeError = Ok (record { header = p.header; pn_offset = m; bytes = x }, u) in l ≡ Ok (p, z)
same_piece p m x u z e d c = rw (e, d, c) refl

abbrev cut_piece : List ℕ → ProtectedHeader → ℕ → ℕ → Piece × List ℕ
cut_piece a h left n =
    (record { header = h; pn_offset = length a - left; bytes = take (length a - left + n) a }, drop (length a - left + n) a)

module _ (k : ℕ) (versions : List ℕ) (grease : Bool) where
  packet_takes : (a : List ℕ) (h : ProtectedHeader) (o : Option ℕ) (b : List ℕ) (p : Piece) (z : List ℕ) → length b ≤ length a
      → HeaderAt k versions grease (length a) (h, o) a b → packet_at a h o (length b) ≡ Ok (p, z) → PieceAt k versions grease p a z
  packet_takes a h None b p z fits at e =
      let whole : Piece × List ℕ = (record { header = h; pn_offset = length a - length b; bytes = a }, []) in
      subst (λ (x : Piece × List ℕ). PieceAt k versions grease x.0 a x.1) (same_ok {E = PacketDecodeError} whole (p, z) e)
      (grammar.ends_last b at (omega arith) refl refl)
  packet_takes a h (Some n) b p z fits at e =
      let end = length a - length b + n in
      let w = went_on (nat_lt (length b) n) InvalidHeader (Ok (cut_piece a h (length b) n)) (p, z) e in
      let t = w.0 in
      let room : n ≤ length b = grind (arith, nat_tests) in
      subst (λ (x : Piece × List ℕ). PieceAt k versions grease x.0 a x.1) (same_ok {E = PacketDecodeError} (cut_piece a h (length b) n) (p, z) w.1)
      (grammar.ends_by_length n b at (omega arith) (sym (take-append-drop end a)) (length-take-le end a (omega arith)))

  pub piece_takes : (a : List ℕ) (p : Piece) (z : List ℕ) → IsBytes a → piece_at k versions grease a ≡ Ok (p, z) → PieceAt k versions grease p a z
  unfolding piece_at
  piece_takes a p z bytes e =
      let w = two_steps (header_at (length a) k versions grease a) (λ heading rest. packet_at a heading.0 heading.1 (length rest)) p z e in
      let ends = header_ends k versions grease (length a) a w.0 w.1 w.2 in
      packet_takes a w.0.0 w.0.1 w.1 p z (omega (arith, ends.1)) (header_takes k versions grease (length a) a w.0 w.1 bytes w.2) w.3

  counted_again : (a : List ℕ) (p : Piece) (n left : ℕ) (z : List ℕ) → p.pn_offset + left ≡ length a → a ≡ p.bytes ++ z → length p.bytes ≡ p.pn_offset + n
      → packet_at a p.header (Some n) left ≡ Ok (p, z)
  counted_again a p n left z off parts size =
      let all : length a ≡ length p.bytes + length z = ap length parts ∙ length-append p.bytes z in
      let room : nat_lt left n ≡ false = let enough : n ≤ left = omega arith in grind (arith, nat_tests) in
      let end : length a - left + n ≡ length p.bytes = omega arith in
      let front : take (length a - left + n) a ≡ p.bytes = rw (end, parts) (take-append_seam p.bytes z) in
      let behind : drop (length a - left + n) a ≡ z = rw (end, parts) (drop-append_seam p.bytes z) in
      rw room (same_piece p (length a - left) (take (length a - left + n) a) (drop (length a - left + n) a) z (omega arith) front behind)

  pub piece_again : (a : List ℕ) (p : Piece) (z : List ℕ) → PieceAt k versions grease p a z → piece_at k versions grease a ≡ Ok (p, z)
  unfolding piece_at
  piece_again a p z (grammar.ends_last b at off whole none) =
      ap (λ v. read_on v (λ heading rest. packet_at a heading.0 heading.1 (length rest))) (header_again k versions grease (length a) a (p.header, None) b at)
      ∙ same_piece p (length a - length b) a [] z (omega arith) (sym whole) (sym none)
  piece_again a p z (grammar.ends_by_length n b at off parts size) =
      ap (λ v. read_on v (λ heading rest. packet_at a heading.0 heading.1 (length rest))) (header_again k versions grease (length a) a (p.header, Some n) b at)
      ∙ counted_again a p n (length b) z off parts size

  packet_ends : (a : List ℕ) (h : ProtectedHeader) (o : Option ℕ) (b : List ℕ) (p : Piece) (z : List ℕ) → length b < length a
      → packet_at a h o (length b) ≡ Ok (p, z) → Ends a z × (length z < length a)
  packet_ends a h None b p z less e =
      let whole : Piece × List ℕ = (record { header = h; pn_offset = length a - length b; bytes = a }, []) in
      subst (λ (x : Piece × List ℕ). Ends a x.1 × (length x.1 < length a)) (same_ok {E = PacketDecodeError} whole (p, z) e) ((a, sym (append-nil a)), omega arith)
  packet_ends a h (Some n) b p z less e =
      let end = length a - length b + n in
      let w = went_on (nat_lt (length b) n) InvalidHeader (Ok (cut_piece a h (length b) n)) (p, z) e in
      subst (λ (x : Piece × List ℕ). Ends a x.1 × (length x.1 < length a)) (same_ok {E = PacketDecodeError} (cut_piece a h (length b) n) (p, z) w.1)
      ((take end a, sym (take-append-drop end a)), omega (arith, length-drop end a))

  -- a packet has at least one byte, and what is behind it is the end of the datagram
  pub piece_ends : (a : List ℕ) (p : Piece) (z : List ℕ) → piece_at k versions grease a ≡ Ok (p, z) → Ends a z × (length z < length a)
  unfolding piece_at
  piece_ends a p z e =
      let w = two_steps (header_at (length a) k versions grease a) (λ heading rest. packet_at a heading.0 heading.1 (length rest)) p z e in
      packet_ends a w.0.0 w.0.1 w.1 p z (header_ends k versions grease (length a) a w.0 w.1 w.2).1 w.3

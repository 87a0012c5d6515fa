-- Why bytes begin with no packet
use Rattle.std.proofs.Common.{◌≡◌, ◌≢◌, ℕ, ◌/◌, ◌%◌, ◌<◌, ◌==◌, ◌&&◌, ◌-◌, ◌+◌, ◌⊎◌, inl, inr, not, cond, Bool, true, false, List, length, take, drop, nat_lt, Option, None, Some, Result, Ok, Err, refl, sym, ap, ◌∙◌, subst, arith}
use Rattle.std.proofs.lemmas.Bool.Decides.{nat_tests}
use Rattle.std.specs.Option.{ok_or}
use Rattle.std.specs.List.{list_any}
use Rattle.std.specs.Int.{w32}
use Rattle.qc_base.specs.declared.side.LongType.{LongType}
use Rattle.qc_base.specs.declared.side.LongType.TheVariants.{Handshake, ZeroRtt}
use Rattle.qc_base.specs.Grammar.{IsBytes, Word}
use Rattle.qc_base.specs.Reading.{Reader, read_on, give, left_at, or_fault, byte_of, bytes_of, word_of, varint_of}
use Rattle.qc_base.proofs.Exact.{ends_bytes, found_byte}
use Rattle.qc_base.proofs.Words.{found_word, word_32}
use Rattle.qc_header.specs.declared.protected.PacketDecodeError.{PacketDecodeError}
use Rattle.qc_header.specs.declared.protected.PacketDecodeError.TheVariants.{InvalidHeader, UnsupportedVersion, OutOfMemory}
use Rattle.qc_header.specs.declared.protected.ProtectedHeader.{ProtectedHeader}
use Rattle.qc_header.specs.declared.protected.ProtectedHeader.TheVariants.{Initial, Long, Retry, Short, VersionNegotiate}
use Rattle.qc_header.specs.HeaderReading.{Heading, id_of, initial_at, numbered_at, typed_at, long_at, short_at, header_at, packet_at, piece_at}
use Rattle.qc_header.specs.HeaderGrammar.{Id, IsUnknown, Because, NoPieceAt}
use Rattle.qc_header.specs.Known.{IsKnown}
use Rattle.qc_header.specs.Piece.{Piece}
use Rattle.qc_header.proofs.Readings.{was_some}
use Rattle.qc_header.proofs.ReadHeaders.{fixed_let}
use Rattle.qc_header.proofs.FrontHeader.{found_id, behind_ids}
use Rattle.qc_header.proofs.FrontPiece.{fixed_seen, behind_first, piece_again, piece_takes}

from_err : {E X : Type 0} → Result X E → E → E
from_err (Ok x) d = d
from_err (Err e) d = e

same_err : {E X : Type 0} (d e : E) → let l : Result X E = Err d in l ≡ Err e → d ≡ e
unfolding from_err
same_err {E} {X} d e is = ap (λ (r : Result X E). from_err r d) is

fault_steps : {E X Y : Type 0} (v : Result (X × List ℕ) E) (k : X → Reader E Y) (e : E) → read_on v k ≡ Err e
    → (v ≡ Err e) ⊎ ((x : X) × (b : List ℕ) × (v ≡ Ok (x, b)) × (k x b ≡ Err e))
fault_steps {Y = Y} (Err d) k e is = inl (ap Err (same_err {X = Y × List ℕ} d e is))
fault_steps (Ok x) k e is = inr (x.0, x.1, refl, is)

refused_or : {E A : Type 0} (test : Bool) (d : E) (v : Result A E) (e : E) → cond test (Err d) v ≡ Err e → ((test ≡ true) × (d ≡ e)) ⊎ ((test ≡ false) × (v ≡ Err e))
refused_or {A = A} true d v e is = inl (refl, same_err {X = A} d e is)
refused_or false d v e is = inr (refl, is)

choice : {E X : Type 0} (test : Bool) (r s : Reader E X) (a : List ℕ) (e : E) → cond test r s a ≡ Err e
    → ((test ≡ true) × (r a ≡ Err e)) ⊎ ((test ≡ false) × (s a ≡ Err e))
choice true r s a e is = inl (refl, is)
choice false r s a e is = inr (refl, is)

-- ---- readers whose only fault is InvalidHeader

record OnlyInvalid {X : Type 0} (r : Reader PacketDecodeError X) : Type 0 where
  pub only : (a : List ℕ) (e : PacketDecodeError) → r a ≡ Err e → InvalidHeader ≡ e

cut_only : {A : Type 0} (v : Option A) (e : PacketDecodeError) → ok_or v InvalidHeader ≡ Err e → InvalidHeader ≡ e
cut_only {A} None e is = same_err {X = A} InvalidHeader e is
cut_only (Some x) e is = cc

only_field : {X : Type 0} (read : List ℕ → Option (X × List ℕ)) → OnlyInvalid (or_fault InvalidHeader read)
only_field read = record { only = λ a e is. cut_only (read a) e is }

only_then : {X Y : Type 0} {r : Reader PacketDecodeError X} {k : X → Reader PacketDecodeError Y} → OnlyInvalid r → ((x : X) → OnlyInvalid (k x))
    → OnlyInvalid (λ a. read_on (r a) k)
only_then {r = r} {k = k} s t = record {
  only = λ a e is. elim (fault_steps (r a) k e is) [
    | inl q ↦ s.only a e q
    | inr w ↦ (t w.0).only w.1 e w.3
  ];
}

only_give : {X : Type 0} (x : X) → OnlyInvalid (give x)
only_give x = record { only = λ a e is. cc }

only_left : OnlyInvalid left_at
only_left = record { only = λ a e is. cc }

only_if : {X : Type 0} (test : Bool) (r s : Reader PacketDecodeError X) → OnlyInvalid r → OnlyInvalid s → OnlyInvalid (cond test r s)
only_if true r s f g = f
only_if false r s f g = g

initial_only : (size : ℕ) (dst src : List ℕ) (v : ℕ) → OnlyInvalid (initial_at size dst src v)
unfolding initial_at
initial_only size dst src v =
    only_then (only_field varint_of) (λ len.
    only_then only_left (λ left.
    only_then (only_field (bytes_of len)) (λ token.
    only_then (only_field varint_of) (λ n.
    only_give (Initial dst src (size - left) len v, Some n)))))

numbered_only : (ty : LongType) (dst src : List ℕ) (v : ℕ) → OnlyInvalid (numbered_at ty dst src v)
unfolding numbered_at
numbered_only ty dst src v = only_then (only_field varint_of) (λ n. only_give (Long ty dst src v, Some n))

short_only : (k first : ℕ) → OnlyInvalid (short_at k first)
unfolding short_at
short_only k first = only_then (only_field (bytes_of k)) (λ dst. only_give (Short (first / 32 % 2 == 1) dst, None))

typed_only : (size first : ℕ) (dst src : List ℕ) (v : ℕ) → OnlyInvalid (typed_at size first dst src v)
unfolding typed_at
typed_only size first dst src v =
    let retry = only_give {X = Heading} (Retry dst src v, None) in
    let third = only_if (first / 16 % 4 == 2) (numbered_at Handshake dst src v) (give (Retry dst src v, None)) (numbered_only Handshake dst src v) retry in
    let second = only_if (first / 16 % 4 == 1) (numbered_at ZeroRtt dst src v) (cond (first / 16 % 4 == 2) (numbered_at Handshake dst src v) (give (Retry dst src v, None))) (numbered_only ZeroRtt dst src v) third in
    only_if (first / 16 % 4 == 0) (initial_at size dst src v) (cond (first / 16 % 4 == 1) (numbered_at ZeroRtt dst src v) (cond (first / 16 % 4 == 2) (numbered_at Handshake dst src v) (give (Retry dst src v, None)))) (initial_only size dst src v) second

packet_only : (a : List ℕ) (h : ProtectedHeader) (o : Option ℕ) (left : ℕ) (e : PacketDecodeError) → packet_at a h o left ≡ Err e → InvalidHeader ≡ e
packet_only a h None left e is = cc
packet_only a h (Some n) left e is =
    let piece : Piece × List ℕ = (record { header = h; pn_offset = length a - left; bytes = take (length a - left + n) a }, drop (length a - left + n) a) in
    elim (refused_or (nat_lt left n) InvalidHeader (Ok piece) e is) [
      | inl q ↦ q.1
      | inr q ↦ let no : Ok piece ≡ Err e = q.1 in cc
    ]

-- ---- a version that isn't known

not_both : (b : Bool) → not b ≡ true → b ≡ true → ⊥
not_both true n y = cc
not_both false n y = cc

not_zero : (v : ℕ) (b : Bool) → (v == 0) ≡ b → v ≢ 0 → (v == 0) ≡ false
not_zero v true e some = absurd (some (grind (arith, nat_tests)))
not_zero v false e some = e

not_listed : (v : ℕ) (versions : List ℕ) (b : Bool) → list_any (λ u. u == v) versions ≡ b → 0 < v → (IsKnown v versions → ⊥) → list_any (λ u. u == v) versions ≡ false
not_listed v versions true e some unknown = absurd (unknown (record { some = some; listed = e }))
not_listed v versions false e some unknown = e

positive : (v : ℕ) → v ≢ 0 → 0 < v
positive v some = let test = not_zero v (v == 0) refl some in grind (arith, nat_tests)

-- what a fault says, but for InvalidHeader, which says nothing yet
abbrev Why : List ℕ → Bool → List ℕ → PacketDecodeError → Type 0
Why versions grease a (UnsupportedVersion src dst v) = IsUnknown versions grease src dst v a
Why versions grease a InvalidHeader = Unit {0}
Why versions grease a OutOfMemory = ⊥

module _ (k : ℕ) (versions : List ℕ) (grease : Bool) where
  invalid : (a : List ℕ) (e : PacketDecodeError) → InvalidHeader ≡ e → Why versions grease a e
  invalid a e is = subst (λ (f : PacketDecodeError). Why versions grease a f) is tt

  ids_why : (size first v : ℕ) (dst src a z : List ℕ) (e : PacketDecodeError) → (v ≢ 0 → (IsKnown v versions → ⊥) → IsUnknown versions grease src dst v a)
      → behind_ids size versions first v dst src z ≡ Err e → Why versions grease a e
  ids_why size first v dst src a z e unknown is =
      elim (choice (v == 0) (give (VersionNegotiate (first % 128) src dst, None)) (λ a. cond (not (list_any (λ u. u == v) versions)) (Err (UnsupportedVersion src dst v)) (typed_at size first dst src v a)) z e is) [
        | inl q ↦ invalid a e ((only_give {X = Heading} (VersionNegotiate (first % 128) src dst, None)).only z e q.1)
        | inr q ↦ elim (refused_or (not (list_any (λ u. u == v) versions)) (UnsupportedVersion src dst v) (typed_at size first dst src v z) e q.1) [
          | inl p ↦
              let t = q.0 in
              let some : v ≢ 0 = λ zero. let same : (v == 0) ≡ true = rw zero refl in cc in
              subst (λ (f : PacketDecodeError). Why versions grease a f) p.1
              (unknown some (λ known. not_both (list_any (λ u. u == v) versions) p.0 known.listed))
          | inr p ↦ invalid a e ((typed_only size first dst src v).only z e p.1)
        ]
      ]

  long_why : (size first : ℕ) (a b : List ℕ) (e : PacketDecodeError) → IsBytes b → ((v : ℕ) (dst src c d z : List ℕ) → Word w32 v b c → Id dst c d → Id src d z → v ≢ 0 → (IsKnown v versions → ⊥) → IsUnknown versions grease src dst v a)
      → long_at size versions first b ≡ Err e → Why versions grease a e
  unfolding long_at
  long_why size first a b e bytes unknown is =
      elim (fault_steps (or_fault InvalidHeader (word_of w32) b) (λ v c. read_on (or_fault InvalidHeader id_of c) (λ dst d. read_on (or_fault InvalidHeader id_of d) (λ src. behind_ids size versions first v dst src))) e is) [
        | inl q ↦ invalid a e (cut_only (word_of w32 b) e q)
        | inr w ↦
            let version = was_some (word_of w32 b) (w.0, w.1) InvalidHeader w.2 in
            let c_bytes = ends_bytes b w.1 ((found_word w32 word_32).ends b w.0 w.1 version) bytes in
            elim (fault_steps (or_fault InvalidHeader id_of w.1) (λ dst d. read_on (or_fault InvalidHeader id_of d) (λ src. behind_ids size versions first w.0 dst src)) e w.3) [
              | inl q ↦ invalid a e (cut_only (id_of w.1) e q)
              | inr x ↦
                  let dst_id = was_some (id_of w.1) (x.0, x.1) InvalidHeader x.2 in
                  let d_bytes = ends_bytes w.1 x.1 (found_id.ends w.1 x.0 x.1 dst_id) c_bytes in
                  elim (fault_steps (or_fault InvalidHeader id_of x.1) (λ src. behind_ids size versions first w.0 x.0 src) e x.3) [
                    | inl q ↦ invalid a e (cut_only (id_of x.1) e q)
                    | inr y ↦
                        let src_id = was_some (id_of x.1) (y.0, y.1) InvalidHeader y.2 in
                        ids_why size first w.0 x.0 y.0 a y.1 e
                        (unknown w.0 x.0 y.0 w.1 x.1 y.1 ((found_word w32 word_32).takes b w.0 w.1 bytes version) (found_id.takes w.1 x.0 x.1 c_bytes dst_id) (found_id.takes x.1 y.0 y.1 d_bytes src_id))
                        y.3
                  ]
            ]
      ]

  header_why : (size : ℕ) (a : List ℕ) (e : PacketDecodeError) → IsBytes a → header_at size k versions grease a ≡ Err e → Why versions grease a e
  unfolding header_at
  header_why size a e bytes is =
      elim (fault_steps (or_fault InvalidHeader byte_of a) (behind_first k versions grease size) e is) [
        | inl q ↦ invalid a e (cut_only (byte_of a) e q)
        | inr w ↦
            let some = was_some (byte_of a) (w.0, w.1) InvalidHeader w.2 in
            let byte = found_byte.takes a w.0 w.1 bytes some in
            let behind = ends_bytes a w.1 (found_byte.ends a w.0 w.1 some) bytes in
            elim (refused_or (w.0 / 64 % 2 == 0 && not grease) InvalidHeader (cond (nat_lt w.0 128) (short_at k w.0) (long_at size versions w.0) w.1) e w.3) [
              | inl q ↦ invalid a e q.1
              | inr r ↦ elim (choice (nat_lt w.0 128) (short_at k w.0) (long_at size versions w.0) w.1 e r.1) [
                | inl q ↦ invalid a e ((short_only k w.0).only w.1 e q.1)
                | inr q ↦
                    let t = q.0 in
                    long_why size w.0 a w.1 e behind
                    (λ v dst src c d z version dst_id src_id named unknown. record {
                      first = w.0;
                      behind_first = w.1;
                      behind_version = c;
                      behind_dst = d;
                      behind_src = z;
                      first_byte = byte;
                      long = grind (arith, nat_tests);
                      fixed = fixed_seen w.0 grease grease refl r.0;
                      spelled = version;
                      dst = dst_id;
                      src = src_id;
                      named = named;
                      unknown = unknown;
                    })
                    q.1
              ]
            ]
      ]

  piece_why : (a : List ℕ) (e : PacketDecodeError) → IsBytes a → piece_at k versions grease a ≡ Err e → Why versions grease a e
  unfolding piece_at
  piece_why a e bytes is =
      elim (fault_steps (header_at (length a) k versions grease a) (λ heading rest. packet_at a heading.0 heading.1 (length rest)) e is) [
        | inl q ↦ header_why (length a) a e bytes q
        | inr w ↦ invalid a e (packet_only a w.0.0 w.0.1 (length w.1) e w.3)
      ]

  long_unknown : (size first v : ℕ) (dst src b c d z : List ℕ) → Word w32 v b c → Id dst c d → Id src d z → (v == 0) ≡ false → list_any (λ u. u == v) versions ≡ false
      → long_at size versions first b ≡ Err (UnsupportedVersion src dst v)
  unfolding long_at
  long_unknown size first v dst src b c d z version dst_id src_id named unlisted =
      rw ((found_word w32 word_32).again b v c version, found_id.again c dst d dst_id, found_id.again d src z src_id, named, unlisted) refl

  header_unknown : (size : ℕ) (a dst src : List ℕ) (v : ℕ) → IsUnknown versions grease src dst v a → header_at size k versions grease a ≡ Err (UnsupportedVersion src dst v)
  unfolding header_at
  header_unknown size a dst src v u =
      let high = u.long in
      let long : nat_lt u.first 128 ≡ false = grind (arith, nat_tests) in
      rw (u.first_byte, fixed_let u.first grease u.fixed, long)
      (long_unknown size u.first v dst src u.behind_first u.behind_version u.behind_dst u.behind_src u.spelled u.dst u.src
      (not_zero v (v == 0) refl u.named) (not_listed v versions (list_any (λ u. u == v) versions) refl (positive v u.named) u.unknown))

  piece_unknown : (a dst src : List ℕ) (v : ℕ) → IsUnknown versions grease src dst v a → piece_at k versions grease a ≡ Err (UnsupportedVersion src dst v)
  unfolding piece_at
  piece_unknown a dst src v u =
      ap (λ r. read_on r (λ heading rest. packet_at a heading.0 heading.1 (length rest))) (header_unknown (length a) a dst src v u)

  because_of : (e : PacketDecodeError) (a : List ℕ) → IsBytes a → piece_at k versions grease a ≡ Err e → Because versions grease a e
  because_of (UnsupportedVersion src dst v) a bytes is = piece_why a (UnsupportedVersion src dst v) bytes is
  because_of InvalidHeader a bytes is = λ src dst v u. let other = piece_unknown a dst src v u in cc
  because_of OutOfMemory a bytes is = piece_why a OutOfMemory bytes is

  pub piece_none : (a : List ℕ) (e : PacketDecodeError) → IsBytes a → piece_at k versions grease a ≡ Err e → NoPieceAt k versions grease a e
  piece_none a e bytes is = record {
    none = λ p z s. let there = piece_again k versions grease a p z s in cc;
    because = because_of e a bytes is;
  }

  one_fault : (d e : PacketDecodeError) (a : List ℕ) → IsBytes a → piece_at k versions grease a ≡ Err d → Because versions grease a e → d ≡ e
  one_fault d (UnsupportedVersion src dst v) a bytes is why =
      same_err {X = Piece × List ℕ} d (UnsupportedVersion src dst v) (sym is ∙ piece_unknown a dst src v why)
  one_fault InvalidHeader InvalidHeader a bytes is why = refl
  one_fault (UnsupportedVersion src dst v) InvalidHeader a bytes is why = absurd (why src dst v (piece_why a (UnsupportedVersion src dst v) bytes is))
  one_fault OutOfMemory InvalidHeader a bytes is why = absurd (piece_why a OutOfMemory bytes is)
  one_fault d OutOfMemory a bytes is why = absurd why

  one_reading : (v : Result (Piece × List ℕ) PacketDecodeError) (e : PacketDecodeError) (a : List ℕ) → IsBytes a → piece_at k versions grease a ≡ v
      → NoPieceAt k versions grease a e → piece_at k versions grease a ≡ Err e
  one_reading (Ok x) e a bytes is none = absurd (none.none x.0 x.1 (piece_takes k versions grease a x.0 x.1 bytes is))
  one_reading (Err d) e a bytes is none = is ∙ ap Err (one_fault d e a bytes is none.because)

  pub none_again : (a : List ℕ) (e : PacketDecodeError) → IsBytes a → NoPieceAt k versions grease a e → piece_at k versions grease a ≡ Err e
  none_again a e bytes none = one_reading (piece_at k versions grease a) e a bytes refl none

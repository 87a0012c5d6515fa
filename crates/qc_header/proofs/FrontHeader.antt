-- The header at the front of a datagram is what the grammar says
use Rattle.std.proofs.Common.{◌≡◌, ℕ, ◌-◌, ◌/◌, ◌%◌, ◌<◌, ◌≤◌, ◌==◌, ◌⊎◌, inl, inr, not, cond, Bool, true, false, List, ◌∷◌, nat_lt, None, Some, Result, Ok, Err, refl, arith}
use Rattle.std.proofs.lemmas.Bool.Decides.{nat_tests}
use Rattle.std.specs.List.{list_any}
use Rattle.std.specs.Int.{w32}
use Rattle.qc_base.specs.declared.side.LongType.{LongType}
use Rattle.qc_base.specs.declared.side.LongType.TheVariants.{Handshake, ZeroRtt}
use Rattle.qc_base.specs.Grammar.{IsBytes}
use Rattle.qc_base.specs.Reading.{Reader, give, byte_of, bytes_of}
use Rattle.qc_base.proofs.Front.{bytes_take}
use Rattle.qc_base.proofs.Exact.{Exact, Found, Ends, ends_both, exact_then, exact_or, exact_left, exact_give, found_bytes, found_byte}
use Rattle.qc_base.proofs.Varints.{found_varint}
use Rattle.qc_base.proofs.Words.{found_word, word_32}
use Rattle.qc_header.specs.declared.protected.PacketDecodeError.{PacketDecodeError}
use Rattle.qc_header.specs.declared.protected.PacketDecodeError.TheVariants.{InvalidHeader, UnsupportedVersion}
use Rattle.qc_header.specs.declared.protected.ProtectedHeader.TheVariants.{Initial, Long, Retry, Short, VersionNegotiate}
use Rattle.qc_header.specs.HeaderReading.{Heading, HeaderReader, id_of, initial_at, numbered_at, typed_at, long_at, short_at}
use Rattle.qc_header.specs.HeaderGrammar.{Id, InitialFields, NumberedFields, TypeFields, LongFields, ShortFields}
use Rattle.qc_header.specs.HeaderGrammar as grammar
use Rattle.qc_header.specs.Known.{IsKnown}
use Rattle.qc_header.proofs.Readings.{id_steps, went_on}

-- ---- fields

id_takes : (a x z : List ℕ) → IsBytes a → id_of a ≡ Some (x, z) → Id x a z
unfolding id_of
id_takes a x z h e =
    let w = id_steps (byte_of a) x z e in
    let few : nat_lt 20 w.0 ≡ false = w.3 in
    (w.0, w.1, found_byte.takes a w.0 w.1 h w.2, (grind (arith, nat_tests), bytes_take w.0 w.1 x z w.4))

id_begins : (len : ℕ) (b x z : List ℕ) → len ≤ 20 → bytes_of len b ≡ Some (x, z) → id_of (len ∷ b) ≡ Some (x, z)
unfolding id_of
id_begins len b x z fits e =
    let few : nat_lt 20 len ≡ false = grind (arith, nat_tests) in
    rw few e

id_ends : (a x z : List ℕ) → id_of a ≡ Some (x, z) → Ends a z
unfolding id_of
id_ends a x z e =
    let w = id_steps (byte_of a) x z e in
    ends_both a w.1 z (found_byte.ends a w.0 w.1 w.2) ((found_bytes w.0).ends w.1 x z w.4)

pub found_id : Found id_of Id
found_id = record {
  takes = id_takes;
  again = λ a x z s. rw s.2 (id_begins s.0 s.1 x z s.3.0 ((found_bytes s.0).again s.1 x z s.3.1));
  ends = id_ends;
}

initial_exact : (size : ℕ) (dst src : List ℕ) (v : ℕ) → Exact (initial_at size dst src v) (InitialFields size dst src v)
unfolding initial_at
initial_exact size dst src v =
    exact_then (exact_or InvalidHeader found_varint) (λ len.
    exact_then exact_left (λ left.
    exact_then (exact_or InvalidHeader (found_bytes len)) (λ token.
    exact_then (exact_or InvalidHeader found_varint) (λ n.
    exact_give (Initial dst src (size - left) len v, Some n)))))

numbered_exact : (ty : LongType) (dst src : List ℕ) (v : ℕ) → Exact (numbered_at ty dst src v) (NumberedFields ty dst src v)
unfolding numbered_at
numbered_exact ty dst src v =
    exact_then (exact_or InvalidHeader found_varint) (λ n. exact_give (Long ty dst src v, Some n))

pub short_exact : (k first : ℕ) → Exact (short_at k first) (ShortFields k first)
unfolding short_at
short_exact k first =
    exact_then (exact_or InvalidHeader (found_bytes k)) (λ dst. exact_give (Short (first / 32 % 2 == 1) dst, None))

-- ---- a choice of two readers

pub either : {E X : Type 0} (test : Bool) (r s : Reader E X) (a : List ℕ) (x : X × List ℕ) → cond test r s a ≡ Ok x
    → ((test ≡ true) × (r a ≡ Ok x)) ⊎ ((test ≡ false) × (s a ≡ Ok x))
either true r s a x e = inl (refl, e)
either false r s a x e = inr (refl, e)

-- ---- what stands behind the ids of a long header

abbrev pub behind_ids : ℕ → List ℕ → ℕ → ℕ → List ℕ → List ℕ → HeaderReader
behind_ids size versions first v dst src a =
    cond (v == 0) (give (VersionNegotiate (first % 128) src dst, None))
    (λ a. cond (not (list_any (λ u. u == v) versions)) (Err (UnsupportedVersion src dst v)) (typed_at size first dst src v a)) a

module _ (size : ℕ) (versions : List ℕ) (first v : ℕ) (dst src : List ℕ) where
  typed_takes : (a : List ℕ) (h : Heading) (z : List ℕ) → IsBytes a → IsKnown v versions → typed_at size first dst src v a ≡ Ok (h, z)
      → TypeFields size versions first v dst src h a z
  unfolding typed_at
  typed_takes a h z bytes known e =
      elim (either (first / 16 % 4 == 0) (initial_at size dst src v) (cond (first / 16 % 4 == 1) (numbered_at ZeroRtt dst src v) (cond (first / 16 % 4 == 2) (numbered_at Handshake dst src v) (give (Retry dst src v, None)))) a (h, z) e) [
        | inl q ↦ let t = q.0 in grammar.is_initial known (grind (arith, nat_tests)) ((initial_exact size dst src v).takes a h z bytes q.1)
        | inr p ↦ elim (either (first / 16 % 4 == 1) (numbered_at ZeroRtt dst src v) (cond (first / 16 % 4 == 2) (numbered_at Handshake dst src v) (give (Retry dst src v, None))) a (h, z) p.1) [
          | inl q ↦ let t = q.0 in grammar.is_0rtt known (grind (arith, nat_tests)) ((numbered_exact ZeroRtt dst src v).takes a h z bytes q.1)
          | inr o ↦ elim (either (first / 16 % 4 == 2) (numbered_at Handshake dst src v) (give (Retry dst src v, None)) a (h, z) o.1) [
            | inl q ↦ let t = q.0 in grammar.is_handshake known (grind (arith, nat_tests)) ((numbered_exact Handshake dst src v).takes a h z bytes q.1)
            | inr q ↦
                let t0 = p.0 in
                let t1 = o.0 in
                let t2 = q.0 in
                grammar.is_retry known (grind (arith, nat_tests)) ((exact_give {X = Heading} (Retry dst src v, None)).takes a h z bytes q.1)
          ]
        ]
      ]

  is_listed : (b : Bool) → not b ≡ false → b ≡ true
  is_listed true e = refl
  is_listed false e = cc

  ids_takes : (a : List ℕ) (h : Heading) (z : List ℕ) → IsBytes a → behind_ids size versions first v dst src a ≡ Ok (h, z)
      → TypeFields size versions first v dst src h a z
  ids_takes a h z bytes e =
      elim (either (v == 0) (give (VersionNegotiate (first % 128) src dst, None)) (λ a. cond (not (list_any (λ u. u == v) versions)) (Err (UnsupportedVersion src dst v)) (typed_at size first dst src v a)) a (h, z) e) [
        | inl q ↦ let t = q.0 in grammar.is_version_negotiation (grind (arith, nat_tests)) ((exact_give {X = Heading} (VersionNegotiate (first % 128) src dst, None)).takes a h z bytes q.1)
        | inr q ↦
            let w = went_on (not (list_any (λ u. u == v) versions)) (UnsupportedVersion src dst v) (typed_at size first dst src v a) (h, z) q.1 in
            let t = q.0 in
            let some : 0 < v = grind (arith, nat_tests) in
            typed_takes a h z bytes (record { some = some; listed = is_listed (list_any (λ u. u == v) versions) w.0 }) w.1
      ]

  known_passes : (a : List ℕ) (r : Result (Heading × List ℕ) PacketDecodeError) → IsKnown v versions → typed_at size first dst src v a ≡ r
      → behind_ids size versions first v dst src a ≡ r
  known_passes a r known e =
      let named : (v == 0) ≡ false = let some = known.some in grind (arith, nat_tests) in
      let listed : list_any (λ u. u == v) versions ≡ true = known.listed in
      rw (named, listed) e

  ids_again : (a : List ℕ) (h : Heading) (z : List ℕ) → TypeFields size versions first v dst src h a z
      → behind_ids size versions first v dst src a ≡ Ok (h, z)
  unfolding typed_at
  ids_again a h z (grammar.is_version_negotiation zero s) = rw zero ((exact_give {E = PacketDecodeError} {X = Heading} (VersionNegotiate (first % 128) src dst, None)).again a h z s)
  ids_again a h z (grammar.is_initial known ty s) = known_passes a (Ok (h, z)) known (rw ty ((initial_exact size dst src v).again a h z s))
  ids_again a h z (grammar.is_0rtt known ty s) = known_passes a (Ok (h, z)) known (rw ty ((numbered_exact ZeroRtt dst src v).again a h z s))
  ids_again a h z (grammar.is_handshake known ty s) = known_passes a (Ok (h, z)) known (rw ty ((numbered_exact Handshake dst src v).again a h z s))
  ids_again a h z (grammar.is_retry known ty s) = known_passes a (Ok (h, z)) known (rw ty ((exact_give {E = PacketDecodeError} {X = Heading} (Retry dst src v, None)).again a h z s))

  ends_if : (test : Bool) (r s : HeaderReader) → ((a : List ℕ) (h : Heading) (z : List ℕ) → r a ≡ Ok (h, z) → Ends a z)
      → ((a : List ℕ) (h : Heading) (z : List ℕ) → s a ≡ Ok (h, z) → Ends a z)
      → (a : List ℕ) (h : Heading) (z : List ℕ) → cond test r s a ≡ Ok (h, z) → Ends a z
  ends_if true r s f g = f
  ends_if false r s f g = g

  typed_ends : (a : List ℕ) (h : Heading) (z : List ℕ) → typed_at size first dst src v a ≡ Ok (h, z) → Ends a z
  unfolding typed_at
  typed_ends =
      ends_if (first / 16 % 4 == 0) (initial_at size dst src v) (cond (first / 16 % 4 == 1) (numbered_at ZeroRtt dst src v) (cond (first / 16 % 4 == 2) (numbered_at Handshake dst src v) (give (Retry dst src v, None)))) (initial_exact size dst src v).ends
      (ends_if (first / 16 % 4 == 1) (numbered_at ZeroRtt dst src v) (cond (first / 16 % 4 == 2) (numbered_at Handshake dst src v) (give (Retry dst src v, None))) (numbered_exact ZeroRtt dst src v).ends
      (ends_if (first / 16 % 4 == 2) (numbered_at Handshake dst src v) (give (Retry dst src v, None)) (numbered_exact Handshake dst src v).ends
      (exact_give {X = Heading} (Retry dst src v, None)).ends))

  ids_end : (a : List ℕ) (h : Heading) (z : List ℕ) → behind_ids size versions first v dst src a ≡ Ok (h, z) → Ends a z
  ids_end =
      ends_if (v == 0) (give (VersionNegotiate (first % 128) src dst, None)) (λ a. cond (not (list_any (λ u. u == v) versions)) (Err (UnsupportedVersion src dst v)) (typed_at size first dst src v a)) (exact_give {X = Heading} (VersionNegotiate (first % 128) src dst, None)).ends
      (λ a h z e. typed_ends a h z (went_on (not (list_any (λ u. u == v) versions)) (UnsupportedVersion src dst v) (typed_at size first dst src v a) (h, z) e).1)

  ids_exact : Exact (behind_ids size versions first v dst src) (TypeFields size versions first v dst src)
  ids_exact = record { takes = ids_takes; again = ids_again; ends = ids_end }

-- ---- behind the first byte

pub long_exact : (size : ℕ) (versions : List ℕ) (first : ℕ) → Exact (long_at size versions first) (LongFields size versions first)
unfolding long_at
long_exact size versions first =
    exact_then (exact_or InvalidHeader (found_word w32 word_32)) (λ v.
    exact_then (exact_or InvalidHeader found_id) (λ dst.
    exact_then (exact_or InvalidHeader found_id) (λ src.
    ids_exact size versions first v dst src)))

-- What a reader lets through
use Rattle.std.proofs.Common.{◌≡◌, ℕ, ◌+◌, ◌-◌, ◌/◌, ◌%◌, ◌<◌, ◌≤◌, ◌^◌, ◌==◌, ◌&&◌, ◌⊎◌, inl, inr, not, cond, Bool, true, false, List, ◌∷◌, length, take, drop, nat_lt, Option, None, Some, Result, Ok, Err, option_and_then, refl, ap, subst, arith}
use Rattle.std.proofs.lemmas.Bool.Decides.{nat_tests}
use Rattle.std.proofs.lemmas.Grind.{common_steps}
use Rattle.std.specs.Option.{ok_or}
use Rattle.std.specs.List.{list_any}
use Rattle.std.specs.Int.{w32}
use Rattle.qc_base.specs.declared.side.LongType.{LongType}
use Rattle.qc_base.specs.declared.side.LongType.TheVariants.{Handshake, ZeroRtt}
use Rattle.qc_base.specs.Varint.{one, two, four, eight}
use Rattle.qc_base.specs.Grammar.{Spelling, IsBytes, Varint}
use Rattle.qc_base.specs.Reading.{Reader, read_on, give, left_at, or_fault, byte_of, bytes_of, word_of, varint_of}
use Rattle.qc_base.proofs.Front.{bytes_take}
use Rattle.qc_base.proofs.Exact.{Exact, ends_bytes, ends_both, two_steps, exact_or, exact_left, found_bytes, found_byte, same_value, same_rest}
use Rattle.qc_base.proofs.Varints.{found_varint}
use Rattle.qc_base.proofs.Words.{found_word, word_32}
use Rattle.qc_header.specs.declared.protected.PacketDecodeError.{PacketDecodeError}
use Rattle.qc_header.specs.declared.protected.PacketDecodeError.TheVariants.{InvalidHeader, UnsupportedVersion}
use Rattle.qc_header.specs.declared.protected.ProtectedHeader.{ProtectedHeader}
use Rattle.qc_header.specs.declared.protected.ProtectedHeader.TheVariants.{Initial, Long, Retry, Short, VersionNegotiate}
use Rattle.qc_header.specs.HeaderReading.{id_of, initial_at, numbered_at, typed_at, long_at, short_at, header_at, packet_at, piece_at}
use Rattle.qc_header.specs.Piece.{Piece}
use Rattle.qc_header.specs.Known.{IsKnown}
use Rattle.qc_header.specs.ReadBack.{AreIds}

-- ---- readers whose values have a property

pub record Lets {E X : Type 0} (r : Reader E X) (P : X → Type 0) : Type 0 where
  pub through : (a : List ℕ) (x : X) (z : List ℕ) → IsBytes a → r a ≡ Ok (x, z) → P x × IsBytes z

lets_exact : {E X : Type 0} {r : Reader E X} {S : Spelling X} {P : X → Type 0} → Exact r S → ((a : List ℕ) (x : X) (z : List ℕ) → S x a z → P x) → Lets r P
lets_exact s p = record { through = λ a x z h e. (p a x z (s.takes a x z h e), ends_bytes a z (s.ends a x z e) h) }

lets_then : {E X Y : Type 0} {r : Reader E X} {k : X → Reader E Y} {P : X → Type 0} {Q : Y → Type 0}
    → Lets r P → ((x : X) → P x → Lets (k x) Q) → Lets (λ a. read_on (r a) k) Q
lets_then {r = r} {k = k} s t = record {
  through = λ a y z h e.
      let w = two_steps (r a) k y z e in
      let x = s.through a w.0 w.1 h w.2 in
      (t w.0 x.0).through w.1 y z x.1 w.3;
}

lets_give : {E X : Type 0} {P : X → Type 0} (x : X) → P x → Lets {E = E} (give x) P
lets_give {P = P} x p = record {
  through = λ a y z h e. (
    subst P (same_value (give x a) (x, a) (y, z) refl e) p,
    subst (λ (l : List ℕ). IsBytes l) (same_rest (give x a) (x, a) (y, z) refl e) h,
  );
}

pub went_on : {E A : Type 0} (test : Bool) (e : E) (v : Result A E) (x : A) → cond test (Err e) v ≡ Ok x → (test ≡ false) × (v ≡ Ok x)
went_on true e v x is = cc
went_on false e v x is = (refl, is)

lets_refuse : {E X : Type 0} {r : Reader E X} {P : X → Type 0} (test : Bool) (e : E) → (test ≡ false → Lets r P) → Lets (λ a. cond test (Err e) (r a)) P
lets_refuse {r = r} test e s = record {
  through = λ a x z h is. let w = went_on test e (r a) (x, z) is in (s w.0).through a x z h w.1;
}

lets_if : {E X : Type 0} {r s : Reader E X} {P : X → Type 0} (test : Bool) → (test ≡ true → Lets r P) → (test ≡ false → Lets s P) → Lets (cond test r s) P
lets_if true f g = f refl
lets_if false f g = g refl

-- ---- fields

varint_small : (a : List ℕ) (n : ℕ) (z : List ℕ) → Varint n a z → n < 2 ^ 62
varint_small a n z (one, less, e) = omega arith
varint_small a n z (two, less, e) = omega arith
varint_small a n z (four, less, e) = omega arith
varint_small a n z (eight, less, e) = omega arith

not_long : (test : Bool) (v : Option (List ℕ × List ℕ)) (x : List ℕ × List ℕ) → cond test None v ≡ Some x → (test ≡ false) × (v ≡ Some x)
not_long true v x e = cc
not_long false v x e = (refl, e)

pub id_steps : (v : Option (ℕ × List ℕ)) (x z : List ℕ) → option_and_then (λ p. cond (nat_lt 20 p.0) None (bytes_of p.0 p.1)) v ≡ Some (x, z)
    → (n : ℕ) × (b : List ℕ) × (v ≡ Some (n, b)) × (nat_lt 20 n ≡ false) × (bytes_of n b ≡ Some (x, z))
id_steps None x z e = cc
id_steps (Some p) x z e = let w = not_long (nat_lt 20 p.0) (bytes_of p.0 p.1) (x, z) e in (p.0, p.1, refl, w.0, w.1)

pub was_some : {E A : Type 0} (v : Option A) (x : A) (e : E) → ok_or v e ≡ Ok x → v ≡ Some x
was_some None x e is = cc
was_some (Some y) x e is = cc

lets_id : {E : Type 0} (e : E) → Lets (or_fault e id_of) (λ id. length id ≤ 20)
unfolding id_of
lets_id e = record {
  through = λ a x z h is.
      let w = id_steps (byte_of a) x z (was_some (id_of a) (x, z) e is) in
      let t = bytes_take w.0 w.1 x z w.4 in
      let few : nat_lt 20 w.0 ≡ false = w.3 in
      (grind (arith, nat_tests), ends_bytes a z (ends_both a w.1 z (found_byte.ends a w.0 w.1 w.2) ((found_bytes w.0).ends w.1 x z w.4)) h);
}

lets_varint : {E : Type 0} (e : E) → Lets (or_fault e varint_of) (λ n. n < 2 ^ 62)
lets_varint e = lets_exact (exact_or e found_varint) varint_small

lets_version : {E : Type 0} (e : E) → Lets (or_fault e (word_of w32)) (λ v. v < 2 ^ 32)
lets_version e = lets_exact (exact_or e (found_word w32 word_32)) (λ a v z s. s.0)

first_small : (a : List ℕ) (b : ℕ) (z : List ℕ) → IsBytes a → a ≡ b ∷ z → b < 256
first_small a b z h e = let bytes : IsBytes (b ∷ z) = subst (λ (l : List ℕ). IsBytes l) e h in bytes 0

lets_byte : {E : Type 0} (e : E) → Lets (or_fault e byte_of) (λ b. b < 256)
lets_byte e = record {
  through = λ a b z h is.
      let some = was_some (byte_of a) (b, z) e is in
      let whole = found_byte.takes a b z h some in
      (first_small a b z h whole, ends_bytes a z (found_byte.ends a b z some) h);
}

lets_bytes : {E : Type 0} (e : E) (n : ℕ) → Lets (or_fault e (bytes_of n)) (λ x. length x ≡ n)
lets_bytes e n = lets_exact (exact_or e (found_bytes n)) (λ a x z s. s.0)

lets_left : {E : Type 0} → Lets {E = E} left_at (λ n. n ≡ n)
lets_left = lets_exact exact_left (λ a n z s. refl)

-- ---- headers

-- what is readable of a header that a reader with these arguments made
abbrev pub IsOf : ℕ → List ℕ → Bool → ProtectedHeader → Type 0
IsOf k versions grease (Initial dst src token_start token_len v) = AreIds dst src × (v < 2 ^ 32) × IsKnown v versions × (token_len < 2 ^ 62)
IsOf k versions grease (Long ty dst src v) = AreIds dst src × (v < 2 ^ 32) × IsKnown v versions
IsOf k versions grease (Retry dst src v) = AreIds dst src × (v < 2 ^ 32) × IsKnown v versions
IsOf k versions grease (Short spin dst) = length dst ≡ k
IsOf k versions grease (VersionNegotiate random src dst) = AreIds dst src × (random < 128) × ((64 ≤ random) ⊎ (grease ≡ true))

abbrev LetsOf : ℕ → List ℕ → Bool → Reader PacketDecodeError (ProtectedHeader × Option ℕ) → Type 0
LetsOf k versions grease r = Lets r (λ x. IsOf k versions grease x.0)

module _ (k : ℕ) (versions : List ℕ) (grease : Bool) where
  initial_lets : (size v : ℕ) (dst src : List ℕ) → AreIds dst src → v < 2 ^ 32 → IsKnown v versions → LetsOf k versions grease (initial_at size dst src v)
  unfolding initial_at
  initial_lets size v dst src ids fits known =
      lets_then (lets_varint InvalidHeader) (λ len small.
      lets_then lets_left (λ left _.
      lets_then (lets_bytes InvalidHeader len) (λ token _.
      lets_then (lets_varint InvalidHeader) (λ n _.
      lets_give (Initial dst src (size - left) len v, Some n) (ids, fits, known, small)))))

  numbered_lets : (ty : LongType) (v : ℕ) (dst src : List ℕ) → AreIds dst src → v < 2 ^ 32 → IsKnown v versions → LetsOf k versions grease (numbered_at ty dst src v)
  unfolding numbered_at
  numbered_lets ty v dst src ids fits known =
      lets_then (lets_varint InvalidHeader) (λ n _. lets_give (Long ty dst src v, Some n) (ids, fits, known))

  typed_lets : (size first v : ℕ) (dst src : List ℕ) → AreIds dst src → v < 2 ^ 32 → IsKnown v versions → LetsOf k versions grease (typed_at size first dst src v)
  unfolding typed_at
  typed_lets size first v dst src ids fits known =
      lets_if (first / 16 % 4 == 0) (λ _. initial_lets size v dst src ids fits known) (λ _.
      lets_if (first / 16 % 4 == 1) (λ _. numbered_lets ZeroRtt v dst src ids fits known) (λ _.
      lets_if (first / 16 % 4 == 2) (λ _. numbered_lets Handshake v dst src ids fits known) (λ _.
      lets_give (Retry dst src v, None) (ids, fits, known))))

  is_listed : (b : Bool) → not b ≡ false → b ≡ true
  is_listed true e = refl
  is_listed false e = cc

  known_version : (v : ℕ) → v == 0 ≡ false → not (list_any (λ u. u == v) versions) ≡ false → IsKnown v versions
  known_version v some listed = record {
    some = grind (arith, nat_tests);
    listed = is_listed (list_any (λ u. u == v) versions) listed;
  }

  long_lets : (size first : ℕ) → (64 ≤ first % 128) ⊎ (grease ≡ true) → LetsOf k versions grease (long_at size versions first)
  unfolding long_at
  long_lets size first fixed =
      lets_then (lets_version InvalidHeader) (λ v fits.
      lets_then (lets_id InvalidHeader) (λ dst dst_fits.
      lets_then (lets_id InvalidHeader) (λ src src_fits.
      let ids : AreIds dst src = record { dst = dst_fits; src = src_fits } in
      lets_if (v == 0)
      (λ _. lets_give (VersionNegotiate (first % 128) src dst, None) (ids, omega arith, fixed))
      (λ some.
      lets_refuse (not (list_any (λ u. u == v) versions)) (UnsupportedVersion src dst v) (λ listed.
      typed_lets size first v dst src ids fits (known_version v some listed))))))

  short_lets : (first : ℕ) → LetsOf k versions grease (short_at k first)
  unfolding short_at
  short_lets first = lets_then (lets_bytes InvalidHeader k) (λ dst size. lets_give (Short (first / 32 % 2 == 1) dst, None) size)

  fixed_seen : (first : ℕ) (b : Bool) → grease ≡ b → (first / 64 % 2 == 0 && not grease) ≡ false → (64 ≤ first % 128) ⊎ (grease ≡ true)
  fixed_seen first true g e = inr g
  fixed_seen first false g e =
      let unset : (first / 64 % 2 == 0 && true) ≡ false = subst (λ (b : Bool). (first / 64 % 2 == 0 && not b) ≡ false) g e in
      let test : (first / 64 % 2 == 0) ≡ false = grind (arith, common_steps) in
      let odd : first / 64 % 2 ≡ 1 = grind (arith, nat_tests) in
      inl (omega arith)

  header_lets : (size : ℕ) → LetsOf k versions grease (header_at size k versions grease)
  unfolding header_at
  header_lets size =
      lets_then (lets_byte InvalidHeader) (λ first _.
      lets_refuse (first / 64 % 2 == 0 && not grease) InvalidHeader (λ fixed.
      lets_if (nat_lt first 128) (λ _. short_lets first) (λ _. long_lets size first (fixed_seen first grease refl fixed))))

-- ---- pieces

header_in : Result (Piece × List ℕ) PacketDecodeError → ProtectedHeader → ProtectedHeader
header_in (Ok p) other = p.0.header
header_in (Err e) other = other

packet_header : (datagram : List ℕ) (h : ProtectedHeader) (payload_len : Option ℕ) (left : ℕ) (p : Piece) (z : List ℕ)
    → packet_at datagram h payload_len left ≡ Ok (p, z) → h ≡ p.header
unfolding header_in
packet_header datagram h None left p z e = ap (λ r. header_in r h) e
packet_header datagram h (Some n) left p z e =
    let end = length datagram - left + n in
    let w = went_on (nat_lt left n) InvalidHeader (Ok (record { header = h; pn_offset = length datagram - left; bytes = take end datagram }, drop end datagram)) (p, z) e in
    ap (λ r. header_in r h) w.1

pub piece_lets : (k : ℕ) (versions : List ℕ) (grease : Bool) (datagram : List ℕ) (p : Piece) (z : List ℕ) → IsBytes datagram
    → piece_at k versions grease datagram ≡ Ok (p, z) → IsOf k versions grease p.header
unfolding piece_at
piece_lets k versions grease datagram p z bytes e =
    let w = two_steps (header_at (length datagram) k versions grease datagram) (λ heading rest. packet_at datagram heading.0 heading.1 (length rest)) p z e in
    let lets = (header_lets k versions grease (length datagram)).through datagram w.0 w.1 bytes w.2 in
    subst (λ (h : ProtectedHeader). IsOf k versions grease h) (packet_header datagram w.0.0 w.0.1 (length w.1) p z w.3) lets.0

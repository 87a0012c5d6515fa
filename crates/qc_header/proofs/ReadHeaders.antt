-- A header that was written is read, whatever mask is over it and whatever comes behind it
use Rattle.std.proofs.Common.{◌≡◌, ℕ, ◌+◌, ◌-◌, ◌/◌, ◌%◌, ◌^◌, ◌<◌, ◌≤◌, ◌==◌, ◌&&◌, ◌⊎◌, not, inl, inr, cond, Bool, true, false, List, [], ◌∷◌, ◌++◌, length, take, drop, nat_lt, None, Some, Ok, refl, arith, lit≤, lit<}
use Rattle.std.proofs.lemmas.Bool.{and_right}
use Rattle.std.proofs.lemmas.Bool.Decides.{nat_tests}
use Rattle.std.specs.List.{list_any}
use Rattle.std.specs.Int.{w16, w32, to_be_bytes}
use Rattle.qc_base.specs.declared.side.LongType.{LongType}
use Rattle.qc_base.specs.declared.side.LongType.TheVariants.{Handshake, ZeroRtt}
use Rattle.qc_base.specs.Varint.{varint, two}
use Rattle.qc_base.specs.Reading.{word_of, varint_of}
use Rattle.qc_base.proofs.Front.{bytes_again}
use Rattle.qc_base.proofs.Words.{found_word, word_32}
use Rattle.qc_base.proofs.Varints.{found_varint, varint_spelled}
use Rattle.qc_header.specs.declared.protected.ProtectedHeader.TheVariants.{Initial, Long, Retry, Short, VersionNegotiate}
use Rattle.qc_header.specs.HeaderReading.{id_of, initial_at, numbered_at, typed_at, long_at, short_at, header_at, piece_at}
use Rattle.qc_header.specs.HeaderSpelling.{id_field}

-- ---- fields

id_reads : (id z : List ℕ) → length id ≤ 20 → id_of (id_field id ++ z) ≡ Some (id, z)
unfolding id_of
id_reads id z fits =
    let few : nat_lt 20 (length id) ≡ false = grind (arith, nat_tests) in
    rw few (bytes_again (length id) id z refl)

version_reads : (v : ℕ) (z : List ℕ) → v < 2 ^ 32 → word_of w32 (to_be_bytes w32 v ++ z) ≡ Some (v, z)
version_reads v z fits = (found_word w32 word_32).again (to_be_bytes w32 v ++ z) v z (fits, refl)

varint_reads : (n : ℕ) (z : List ℕ) → n < 2 ^ 62 → varint_of (varint n ++ z) ≡ Some (n, z)
varint_reads n z fits = found_varint.again (varint n ++ z) n z (varint_spelled n z fits)

-- the Length field, which has the form of two bytes whatever its value
length_reads : (n : ℕ) (z : List ℕ) → n < 2 ^ 14 → varint_of (to_be_bytes w16 (0x4000 + n) ++ z) ≡ Some (n, z)
length_reads n z fits = found_varint.again (to_be_bytes w16 (0x4000 + n) ++ z) n z (two, fits, refl)

-- ---- long headers

numbered_reads : (ty : LongType) (dst src : List ℕ) (v n : ℕ) (z : List ℕ) → n < 2 ^ 14
    → numbered_at ty dst src v (to_be_bytes w16 (0x4000 + n) ++ z) ≡ Ok ((Long ty dst src v, Some n), z)
unfolding numbered_at
numbered_reads ty dst src v n z fits = rw (length_reads n z fits) refl

initial_reads : (size : ℕ) (dst src : List ℕ) (v n : ℕ) (token z : List ℕ) → length token < 2 ^ 62 → n < 2 ^ 14
    → initial_at size dst src v (varint (length token) ++ (token ++ (to_be_bytes w16 (0x4000 + n) ++ z)))
    ≡ Ok ((Initial dst src (size - length (token ++ (to_be_bytes w16 (0x4000 + n) ++ z))) (length token) v, Some n), z)
unfolding initial_at
initial_reads size dst src v n token z some fits =
    rw (
      varint_reads (length token) (token ++ (to_be_bytes w16 (0x4000 + n) ++ z)) some,
      bytes_again (length token) token (to_be_bytes w16 (0x4000 + n) ++ z) refl,
      length_reads n z fits,
    ) refl

-- the ids, behind a version that is known
long_reads : (size first v : ℕ) (versions dst src z : List ℕ) → v < 2 ^ 32 → v == 0 ≡ false → list_any (λ u. u == v) versions ≡ true
    → length dst ≤ 20 → length src ≤ 20
    → long_at size versions first (to_be_bytes w32 v ++ (id_field dst ++ (id_field src ++ z))) ≡ typed_at size first dst src v z
unfolding long_at
long_reads size first v versions dst src z fits some known dst_fits src_fits =
    rw (version_reads v (id_field dst ++ (id_field src ++ z)) fits, id_reads dst (id_field src ++ z) dst_fits, id_reads src z src_fits, some, known) refl

-- a first byte of a long header with the fixed bit: its high four bits are 12 to 15
long_first : (size k first kind : ℕ) (versions z : List ℕ) (grease : Bool) → first / 16 ≡ kind → 12 ≤ kind → kind ≤ 15
    → header_at size k versions grease (first ∷ z) ≡ long_at size versions first z
unfolding header_at
long_first size k first kind versions z grease e low high =
    let long : nat_lt first 128 ≡ false = grind (arith, nat_tests) in
    let fixed : first / 64 % 2 ≡ 1 = omega arith in
    rw (fixed, long) refl

-- Version Negotiation, whose version is 0; its fixed bit may be unset where the reader lets it
zero_reads : (size first : ℕ) (versions dst src z : List ℕ) → length dst ≤ 20 → length src ≤ 20
    → long_at size versions first (to_be_bytes w32 0 ++ (id_field dst ++ (id_field src ++ z))) ≡ Ok ((VersionNegotiate (first % 128) src dst, None), z)
unfolding long_at
zero_reads size first versions dst src z dst_fits src_fits =
    rw (version_reads 0 (id_field dst ++ (id_field src ++ z)) (lit< tt), id_reads dst (id_field src ++ z) dst_fits, id_reads src z src_fits) refl

pub fixed_let : (first : ℕ) (grease : Bool) → (first / 64 % 2 ≡ 1) ⊎ (grease ≡ true) → (first / 64 % 2 == 0 && not grease) ≡ false
fixed_let first grease (inl fixed) = rw fixed refl
fixed_let first grease (inr greased) = rw greased (and_right (first / 64 % 2 == 0) false refl)

pub zero_first : (size k first : ℕ) (versions z : List ℕ) (grease : Bool) → 128 ≤ first → (first / 64 % 2 ≡ 1) ⊎ (grease ≡ true)
    → header_at size k versions grease (first ∷ z) ≡ long_at size versions first z
unfolding header_at
zero_first size k first versions z grease high fixed =
    let long : nat_lt first 128 ≡ false = grind (arith, nat_tests) in
    rw (fixed_let first grease fixed, long) refl

-- ---- what comes of it

pub retry_piece : (k first v : ℕ) (versions dst src w : List ℕ) (grease : Bool)
    → first / 16 ≡ 15 → v < 2 ^ 32 → v == 0 ≡ false → list_any (λ u. u == v) versions ≡ true → length dst ≤ 20 → length src ≤ 20
    → let datagram = first ∷ (to_be_bytes w32 v ++ (id_field dst ++ (id_field src ++ w))) in
    piece_at k versions grease datagram ≡ Ok (record { header = Retry dst src v; pn_offset = length datagram - length w; bytes = datagram }, [])
unfolding piece_at typed_at
retry_piece k first v versions dst src w grease kind fits some known dst_fits src_fits =
    let datagram = first ∷ (to_be_bytes w32 v ++ (id_field dst ++ (id_field src ++ w))) in
    rw (
      long_first (length datagram) k first 15 versions (to_be_bytes w32 v ++ (id_field dst ++ (id_field src ++ w))) grease kind (lit≤ tt) (lit≤ tt),
      long_reads (length datagram) first v versions dst src w fits some known dst_fits src_fits,
      kind,
    ) refl

pub negotiation_piece : (k first : ℕ) (versions dst src w : List ℕ) (grease : Bool)
    → 128 ≤ first → (first / 64 % 2 ≡ 1) ⊎ (grease ≡ true) → length dst ≤ 20 → length src ≤ 20
    → let datagram = first ∷ (to_be_bytes w32 0 ++ (id_field dst ++ (id_field src ++ w))) in
    piece_at k versions grease datagram
    ≡ Ok (record { header = VersionNegotiate (first % 128) src dst; pn_offset = length datagram - length w; bytes = datagram }, [])
unfolding piece_at
negotiation_piece k first versions dst src w grease high fixed dst_fits src_fits =
    let datagram = first ∷ (to_be_bytes w32 0 ++ (id_field dst ++ (id_field src ++ w))) in
    rw (
      zero_first (length datagram) k first versions (to_be_bytes w32 0 ++ (id_field dst ++ (id_field src ++ w))) grease high fixed,
      zero_reads (length datagram) first versions dst src w dst_fits src_fits,
    ) refl

pub initial_piece : (k first v n : ℕ) (versions dst src token w : List ℕ) (grease : Bool)
    → first / 16 ≡ 12 → v < 2 ^ 32 → v == 0 ≡ false → list_any (λ u. u == v) versions ≡ true → length dst ≤ 20 → length src ≤ 20
    → length token < 2 ^ 62 → n < 2 ^ 14 → n ≤ length w
    → let datagram = first ∷ (to_be_bytes w32 v ++ (id_field dst ++ (id_field src ++ (varint (length token) ++ (token ++ (to_be_bytes w16 (0x4000 + n) ++ w)))))) in
    piece_at k versions grease datagram
    ≡ Ok (
      record {
        header = Initial dst src (length datagram - length (token ++ (to_be_bytes w16 (0x4000 + n) ++ w))) (length token) v;
        pn_offset = length datagram - length w;
        bytes = take (length datagram - length w + n) datagram;
      },
      drop (length datagram - length w + n) datagram,
    )
unfolding piece_at typed_at
initial_piece k first v n versions dst src token w grease kind fits some known dst_fits src_fits token_fits n_fits room =
    let behind_ids = varint (length token) ++ (token ++ (to_be_bytes w16 (0x4000 + n) ++ w)) in
    let datagram = first ∷ (to_be_bytes w32 v ++ (id_field dst ++ (id_field src ++ behind_ids))) in
    let within : nat_lt (length w) n ≡ false = grind (arith, nat_tests) in
    rw (
      long_first (length datagram) k first 12 versions (to_be_bytes w32 v ++ (id_field dst ++ (id_field src ++ behind_ids))) grease kind (lit≤ tt) (lit≤ tt),
      long_reads (length datagram) first v versions dst src behind_ids fits some known dst_fits src_fits,
      kind,
      initial_reads (length datagram) dst src v n token w token_fits n_fits,
      within,
    ) refl

-- the type of a 0-RTT or Handshake packet, by the high four bits of its first byte
abbrev pub kind_of : LongType → ℕ
kind_of ZeroRtt = 13
kind_of Handshake = 14

numbered_typed : (size first : ℕ) (ty : LongType) (dst src : List ℕ) (v : ℕ) (z : List ℕ) → first / 16 ≡ kind_of ty
    → typed_at size first dst src v z ≡ numbered_at ty dst src v z
unfolding typed_at
numbered_typed size first ZeroRtt dst src v z kind = rw kind refl
numbered_typed size first Handshake dst src v z kind = rw kind refl

kind_long : (ty : LongType) → (12 ≤ kind_of ty) × (kind_of ty ≤ 15)
kind_long ZeroRtt = (lit≤ tt, lit≤ tt)
kind_long Handshake = (lit≤ tt, lit≤ tt)

pub numbered_piece : (k first v n : ℕ) (ty : LongType) (versions dst src w : List ℕ) (grease : Bool)
    → first / 16 ≡ kind_of ty → v < 2 ^ 32 → v == 0 ≡ false → list_any (λ u. u == v) versions ≡ true → length dst ≤ 20 → length src ≤ 20
    → n < 2 ^ 14 → n ≤ length w
    → let datagram = first ∷ (to_be_bytes w32 v ++ (id_field dst ++ (id_field src ++ (to_be_bytes w16 (0x4000 + n) ++ w)))) in
    piece_at k versions grease datagram
    ≡ Ok (record { header = Long ty dst src v; pn_offset = length datagram - length w; bytes = take (length datagram - length w + n) datagram }, drop (length datagram - length w + n) datagram)
unfolding piece_at
numbered_piece k first v n ty versions dst src w grease kind fits some known dst_fits src_fits n_fits room =
    let behind_ids = to_be_bytes w16 (0x4000 + n) ++ w in
    let datagram = first ∷ (to_be_bytes w32 v ++ (id_field dst ++ (id_field src ++ behind_ids))) in
    let within : nat_lt (length w) n ≡ false = grind (arith, nat_tests) in
    rw (
      long_first (length datagram) k first (kind_of ty) versions (to_be_bytes w32 v ++ (id_field dst ++ (id_field src ++ behind_ids))) grease kind (kind_long ty).0 (kind_long ty).1,
      long_reads (length datagram) first v versions dst src behind_ids fits some known dst_fits src_fits,
      numbered_typed (length datagram) first ty dst src v behind_ids kind,
      numbered_reads ty dst src v n w n_fits,
      within,
    ) refl

-- a short header, whose high three bits are 2 and the spin bit
pub short_piece : (k first : ℕ) (spin : Bool) (versions dst w : List ℕ) (grease : Bool)
    → first / 32 ≡ 2 + cond spin 1 0 → length dst ≡ k
    → let datagram = first ∷ (dst ++ w) in
    piece_at k versions grease datagram ≡ Ok (record { header = Short spin dst; pn_offset = length datagram - length w; bytes = datagram }, [])
unfolding piece_at header_at short_at
short_piece k first true versions dst w grease kind size =
    let short : nat_lt first 128 ≡ true = grind (arith, nat_tests) in
    let fixed : first / 64 % 2 ≡ 1 = omega arith in
    rw (fixed, short, bytes_again k dst w size, kind) refl
short_piece k first false versions dst w grease kind size =
    let short : nat_lt first 128 ≡ true = grind (arith, nat_tests) in
    let fixed : first / 64 % 2 ≡ 1 = omega arith in
    rw (fixed, short, bytes_again k dst w size, kind) refl

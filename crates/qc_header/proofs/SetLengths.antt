-- A Length field that is set is the spelling's own
use Rattle.std.proofs.Common.{◌≡◌, ℕ, ◌+◌, ◌-◌, ◌≤◌, Bool, true, false, List, ◌∷◌, ◌++◌, length, drop, nat_lt, Option, Some, None, option_and_then, refl, ap, sym, ◌∙◌, arith, append_assoc, length-append}
use Rattle.std.proofs.Math.Seq.{take-append_seam, drop-append_seam, drop-append-add}
use Rattle.std.proofs.lemmas.Bool.Decides.{nat_tests}
use Rattle.std.specs.Int.{w16, w32, to_be_bytes}
use Rattle.std.specs.Option.{option_map}
use Rattle.qc_base.specs.declared.packet_number.PacketNumber.{PacketNumber}
use Rattle.qc_base.specs.declared.side.LongType.{LongType}
use Rattle.qc_base.specs.declared.side.LongType.TheVariants.{Handshake, ZeroRtt}
use Rattle.qc_base.specs.Mask.{first_byte}
use Rattle.qc_base.specs.PacketNumber.{number_len, number_bytes}
use Rattle.qc_base.specs.Varint.{varint}
use Rattle.qc_header.specs.declared.encode.PartialEncode.{PartialEncode}
use Rattle.qc_header.specs.declared.header.Header.{Header}
use Rattle.qc_header.specs.declared.header.Header.TheVariants.{Initial, Long, Retry, Short, VersionNegotiate}
use Rattle.qc_header.specs.declared.header.InitialHeader.{InitialHeader}
use Rattle.qc_base.specs.Spelling.{bit}
use Rattle.qc_header.specs.HeaderSpelling.{header_spelling, header_number, initial_spelling, short_spelling, long_start, length_and_number, id_field, number_tag, long_first}
use Rattle.qc_header.specs.SetLength.{length_before, length_place, length_over, with_length, begun_by, IsPlaceOf}
use Rattle.qc_header.proofs.WrittenHeaders.{length-number_bytes, tag_small}

-- ---- any bytes

-- two bytes are put over two bytes
over : (n was place : ℕ) (before behind : List ℕ) → place ≡ length before
    → length_over n (before ++ (to_be_bytes w16 (0x4000 + was) ++ behind)) (Some place) ≡ before ++ (to_be_bytes w16 (0x4000 + n) ++ behind)
over n was place before behind e =
    rw (
      e,
      take-append_seam before (to_be_bytes w16 (0x4000 + was) ++ behind),
      drop-append-add before (to_be_bytes w16 (0x4000 + was) ++ behind) 2,
    ) (append_assoc before (to_be_bytes w16 (0x4000 + n)) behind)

placed : (p : PartialEncode) (header : List ℕ) (pn_len : ℕ) → nat_lt (first_byte header) 128 ≡ false → p.header_len ≤ length header
    → pn_len + 3 ≤ p.header_len → length_before p header pn_len ≡ Some (p.start + (p.header_len - pn_len - 2))
placed p header pn_len long whole room =
    let all : nat_lt (length header) p.header_len ≡ false = grind (arith, nat_tests) in
    let behind : nat_lt p.header_len (pn_len + 3) ≡ false = grind (arith, nat_tests) in
    rw (long, all, behind) refl

-- a header with a Length field, whose first byte, fields and number are these
sized : (p : PartialEncode) (first was n : ℕ) (before front number behind : List ℕ) → nat_lt first 128 ≡ false
    → p.start ≡ length before → p.header_len ≡ 3 + length front + length number → p.pn_len ≡ Some (length number)
    → with_length p n (before ++ ((first ∷ (front ++ (to_be_bytes w16 (0x4000 + was) ++ number))) ++ behind))
    ≡ before ++ ((first ∷ (front ++ (to_be_bytes w16 (0x4000 + n) ++ number))) ++ behind)
unfolding with_length length_place
sized p first was n before front number behind long start size pn_len =
    let header : List ℕ = (first ∷ (front ++ (to_be_bytes w16 (0x4000 + was) ++ number))) ++ behind in
    let here : drop p.start (before ++ header) ≡ header = rw start (drop-append_seam before header) in
    let whole : p.header_len ≤ length header =
    omega (
      arith,
      length-append (front ++ (to_be_bytes w16 (0x4000 + was) ++ number)) behind,
      length-append front (to_be_bytes w16 (0x4000 + was) ++ number),
    ) in
    let place = placed p header (length number) long whole (omega arith) in
    let before_field : List ℕ = before ++ (first ∷ front) in
    let seam : p.start + (p.header_len - length number - 2) ≡ length before_field = omega (arith, length-append before (first ∷ front)) in
    let apart : before ++ header ≡ before_field ++ (to_be_bytes w16 (0x4000 + was) ++ (number ++ behind)) = simp append_assoc in
    let joined : before_field ++ (to_be_bytes w16 (0x4000 + n) ++ (number ++ behind))
    ≡ before ++ ((first ∷ (front ++ (to_be_bytes w16 (0x4000 + n) ++ number))) ++ behind) = simp append_assoc in
    rw (pn_len, here, place, apart, over n was (p.start + (p.header_len - length number - 2)) before_field (number ++ behind) seam) joined

short_none : (p : PartialEncode) (header : List ℕ) (pn_len : Option ℕ) → nat_lt (first_byte header) 128 ≡ true
    → option_and_then (length_before p header) pn_len ≡ None
short_none p header None short = refl
short_none p header (Some pn_len) short = rw short refl

-- a short header has none
unsized : (p : PartialEncode) (n : ℕ) (before header : List ℕ) → nat_lt (first_byte header) 128 ≡ true → p.start ≡ length before
    → with_length p n (before ++ header) ≡ before ++ header
unfolding with_length length_place
unsized p n before header short start =
    let here : drop p.start (before ++ header) ≡ header = rw start (drop-append_seam before header) in
    rw (here, short_none p header p.pn_len short) refl

-- nor has a header without a number
unnumbered : (p : PartialEncode) (n : ℕ) (bytes : List ℕ) → p.pn_len ≡ None → with_length p n bytes ≡ bytes
unfolding with_length length_place
unnumbered p n bytes none = rw none refl

-- ---- the forms with a Length field

record IsSized (h : Header) (first : ℕ) (front number : List ℕ) : Type 0 where
  shape : (n : ℕ) → header_spelling h n ≡ first ∷ (front ++ (to_be_bytes w16 (0x4000 + n) ++ number))
  long : nat_lt first 128 ≡ false
  len : option_map number_len (header_number h) ≡ Some (length number)

sets : (p : PartialEncode) (h : Header) (first was n begun : ℕ) (before front number behind : List ℕ) → IsSized h first front number → IsPlaceOf p before h
    → nat_lt begun 128 ≡ nat_lt (first_byte (header_spelling h 0)) 128
    → with_length p n (before ++ (begun_by begun (header_spelling h was) ++ behind)) ≡ before ++ (begun_by begun (header_spelling h n) ++ behind)
sets p h first was n begun before front number behind s place alike =
    let long : nat_lt begun 128 ≡ false = alike ∙ ap (λ (l : List ℕ). nat_lt (first_byte l) 128) (s.shape 0) ∙ s.long in
    let size : p.header_len ≡ 3 + length front + length number =
    omega (arith, place.header_len, ap length (s.shape 0), length-append front (to_be_bytes w16 0x4000 ++ number)) in
    rw (s.shape was, s.shape n) (sized p begun was n before front number behind long place.start size (place.pn_len ∙ s.len))

initial_fields : InitialHeader → List ℕ
initial_fields h = to_be_bytes w32 h.version ++ (id_field h.dst_cid ++ (id_field h.src_cid ++ (varint (length h.token) ++ h.token)))

initial_sized : (h : InitialHeader) → IsSized (Initial h) (0xc0 + number_tag h.number) (initial_fields h) (number_bytes h.number)
unfolding header_spelling initial_spelling long_start length_and_number initial_fields
initial_sized h =
    let tag = tag_small h.number in record {
      shape = λ n. simp append_assoc;
      long = grind (arith, nat_tests);
      len = ap Some (sym (length-number_bytes h.number));
    }

long_fields : List ℕ → List ℕ → ℕ → List ℕ
long_fields dst src v = to_be_bytes w32 v ++ (id_field dst ++ id_field src)

long_byte_long : (ty : LongType) (number : PacketNumber) → nat_lt (long_first ty + number_tag number) 128 ≡ false
long_byte_long ZeroRtt number = let tag = tag_small number in grind (arith, nat_tests)
long_byte_long Handshake number = let tag = tag_small number in grind (arith, nat_tests)

long_sized : (ty : LongType) (dst src : List ℕ) (number : PacketNumber) (v : ℕ)
    → IsSized (Long ty dst src number v) (long_first ty + number_tag number) (long_fields dst src v) (number_bytes number)
unfolding header_spelling long_start length_and_number long_fields
long_sized ty dst src number v = record {
  shape = λ n. simp append_assoc;
  long = long_byte_long ty number;
  len = ap Some (sym (length-number_bytes number));
}

-- ---- all forms

bits_short : (spin key_phase : Bool) (number : PacketNumber) → nat_lt (0x40 + bit spin 0x20 + bit key_phase 0x04 + number_tag number) 128 ≡ true
bits_short true true number = let tag = tag_small number in grind (arith, nat_tests)
bits_short true false number = let tag = tag_small number in grind (arith, nat_tests)
bits_short false true number = let tag = tag_small number in grind (arith, nat_tests)
bits_short false false number = let tag = tag_small number in grind (arith, nat_tests)

short_first : (spin key_phase : Bool) (dst : List ℕ) (number : PacketNumber) → nat_lt (first_byte (header_spelling (Short spin key_phase dst number) 0)) 128 ≡ true
unfolding header_spelling short_spelling
short_first spin key_phase dst number = bits_short spin key_phase number

in_place : (p : PartialEncode) (h : Header) (was n begun : ℕ) (before behind : List ℕ) → IsPlaceOf p before h
    → nat_lt begun 128 ≡ nat_lt (first_byte (header_spelling h 0)) 128
    → with_length p n (before ++ (begun_by begun (header_spelling h was) ++ behind)) ≡ before ++ (begun_by begun (header_spelling h n) ++ behind)
unfolding header_spelling short_spelling
in_place p (Initial h) was n begun before behind place alike =
    sets p (Initial h) (0xc0 + number_tag h.number) was n begun before (initial_fields h) (number_bytes h.number) behind (initial_sized h) place alike
in_place p (Long ty dst src number v) was n begun before behind place alike =
    sets p (Long ty dst src number v) (long_first ty + number_tag number) was n begun before (long_fields dst src v) (number_bytes number) behind
    (long_sized ty dst src number v) place alike
in_place p (Short spin key_phase dst number) was n begun before behind place alike =
    unsized p n before (begun_by begun (header_spelling (Short spin key_phase dst number) was) ++ behind)
    (alike ∙ short_first spin key_phase dst number) place.start
in_place p (Retry dst src v) was n begun before behind place alike =
    unnumbered p n (before ++ (begun_by begun (header_spelling (Retry dst src v) was) ++ behind)) place.pn_len
in_place p (VersionNegotiate random src dst) was n begun before behind place alike =
    unnumbered p n (before ++ (begun_by begun (header_spelling (VersionNegotiate random src dst) was) ++ behind)) place.pn_len

pub begun_is_set : (p : PartialEncode) (h : Header) (was n begun : ℕ) (before behind : List ℕ) → IsPlaceOf p before h
    → nat_lt begun 128 ≡ nat_lt (first_byte (header_spelling h 0)) 128
    → with_length p n (before ++ begun_by begun (header_spelling h was) ++ behind) ≡ before ++ begun_by begun (header_spelling h n) ++ behind
begun_is_set p h was n begun before behind place alike =
    rw (append_assoc before (begun_by begun (header_spelling h was)) behind, append_assoc before (begun_by begun (header_spelling h n)) behind)
    (in_place p h was n begun before behind place alike)

-- a header begins with its own first byte, which its Length field doesn't change
begins : (h : Header) (n : ℕ) → begun_by (first_byte (header_spelling h 0)) (header_spelling h n) ≡ header_spelling h n
unfolding header_spelling initial_spelling long_start short_spelling
begins (Initial h) n = refl
begins (Long ty dst src number v) n = refl
begins (Short spin key_phase dst number) n = refl
begins (Retry dst src v) n = refl
begins (VersionNegotiate random src dst) n = refl

pub length_is_set : (p : PartialEncode) (h : Header) (was n : ℕ) (before behind : List ℕ) → IsPlaceOf p before h
    → with_length p n (before ++ header_spelling h was ++ behind) ≡ before ++ header_spelling h n ++ behind
length_is_set p h was n before behind place =
    rw (← begins h was, ← begins h n) (begun_is_set p h was n (first_byte (header_spelling h 0)) before behind place refl)

-- A packet that a builder began, finished: its Length field, its seal and its mask.
use Rattle.std.specs.Prelude.{Bool, true, false, Option, Some, None, max, min, nat_lt, replicate}
use Rattle.std.specs.Option.{option_map}
use Rattle.std.proofs.Common.{◌≡◌, ℕ, ◌+◌, ◌-◌, ◌<◌, ◌≤◌, List, [], ◌∷◌, ◌++◌, length, take, drop, refl, sym, ap, ◌∙◌, arith, append_assoc, length-append}
use Rattle.std.proofs.lemmas.List.{length-replicate, length-drop, replicate-append-replicate, take_at}
use Rattle.qc_base.specs.Mask.{first_byte, masked}
use Rattle.qc_base.specs.PacketNumber.{number_len}
use Rattle.qc_base.specs.declared.packet_number.PacketNumber.{PacketNumber}
use Rattle.qc_base.specs.declared.packet_number.PacketNumber.TheVariants.{U8, U16, U24, U32}
use Rattle.std.proofs.lemmas.Bool.Decides.{nat_tests}
use Rattle.qc_base.specs.declared.side.LongType.TheVariants.{Handshake, ZeroRtt}
use Rattle.qc_crypto.specs.Sealing.{sealed_in_place}
use Rattle.qc_header.specs.declared.header.Header.{Header}
use Rattle.qc_header.specs.declared.header.Header.TheVariants.{Initial, Long, Retry, Short, VersionNegotiate}
use Rattle.qc_base.specs.Spelling.{bit}
use Rattle.qc_header.specs.HeaderSpelling.{header_spelling, header_number, initial_spelling, short_spelling, long_start, length_and_number, number_tag}
use Rattle.qc_packet.specs.Building.{header_len, pn_len, is_short, IsReady, IsOf}
use Rattle.qc_packet.specs.declared.builder.PacketBuilder.{PacketBuilder}
use Rattle.qc_packet.specs.PacketSpelling.{len_of, protected_len, header_bytes, with_flip, sealed_packet}
use Rattle.qc_packet.proofs.Flips.{fixed_bit}
use Rattle.qc_packet.proofs.Sealed.{sealed_full}

-- the Length field changes no other byte of a header
pub same_first : (h : Header) (n : ℕ) → first_byte (header_spelling h n) ≡ first_byte (header_spelling h 0)
unfolding header_spelling initial_spelling short_spelling long_start
same_first (Initial h) n = refl
same_first (Long ty dst_cid src_cid number version) n = refl
same_first (Retry dst_cid src_cid version) n = refl
same_first (Short spin key_phase dst_cid number) n = refl
same_first (VersionNegotiate random src_cid dst_cid) n = refl

same_field_len : (n : ℕ) (number : PacketNumber) → length (length_and_number n number) ≡ length (length_and_number 0 number)
unfolding length_and_number
same_field_len n number = refl

pub same_len : (h : Header) (n : ℕ) → length (header_spelling h n) ≡ header_len h
unfolding header_spelling initial_spelling
same_len (Initial h) n = simp length-append (omega (arith, same_field_len n h.number))
same_len (Long ty dst_cid src_cid number version) n = simp length-append (omega (arith, same_field_len n number))
same_len (Retry dst_cid src_cid version) n = refl
same_len (Short spin key_phase dst_cid number) n = refl
same_len (VersionNegotiate random src_cid dst_cid) n = refl

-- a header's form shows in its first byte, with the fixed bit flipped too
long_form : (x : ℕ) → 192 ≤ x → nat_lt (x - 64) 128 ≡ nat_lt x 128
long_form x h = grind (arith, nat_tests)

short_form : (x : ℕ) → x < 128 → nat_lt (x - 64) 128 ≡ nat_lt x 128
short_form x h = grind (arith, nat_tests)

pub tag_small : (number : PacketNumber) → number_tag number < 4
tag_small (U8 n) = omega arith
tag_small (U16 n) = omega arith
tag_small (U24 n) = omega arith
tag_small (U32 n) = omega arith

pub bit_small : (b : Bool) (n : ℕ) → bit b n ≤ n
bit_small true n = omega arith
bit_small false n = omega arith

pub same_form : (h : Header) → 1 ≤ pn_len h → nat_lt (first_byte (header_spelling h 0) - 64) 128 ≡ nat_lt (first_byte (header_spelling h 0)) 128
unfolding header_spelling initial_spelling short_spelling long_start
same_form (Initial h) _ = long_form (192 + number_tag h.number) (omega arith)
same_form (Long ZeroRtt dst_cid src_cid number version) _ = long_form (208 + number_tag number) (omega arith)
same_form (Long Handshake dst_cid src_cid number version) _ = long_form (224 + number_tag number) (omega arith)
same_form (Retry dst_cid src_cid version) e = absurd (omega arith)
same_form (Short spin key_phase dst_cid number) _ =
    short_form (64 + bit spin 32 + bit key_phase 4 + number_tag number) (omega (arith, tag_small number, bit_small spin 32, bit_small key_phase 4))
same_form (VersionNegotiate random src_cid dst_cid) e = absurd (omega arith)

filled : (bytes : List ℕ) → 1 ≤ first_byte bytes → 1 ≤ length bytes
filled [] h = h
filled (b ∷ bytes) h = omega arith

-- a flipped header is as long
pub flip_len : (flip : Bool) (h : Header) (n : ℕ) → length (with_flip flip (header_spelling h n)) ≡ header_len h
flip_len false h n = same_len h n
flip_len true h n = omega (arith, same_len h n, length-drop 1 (header_spelling h n), filled (header_spelling h n) (omega (arith, fixed_bit h n)))

-- a number's length, where there is one
pub some_len : (number : Option PacketNumber) (n : ℕ) → n ≡ len_of number → 1 ≤ n → Some n ≡ option_map number_len number
some_len None n e h = absurd (omega arith)
some_len (Some number) n e h = ap (λ (k : ℕ). Some k) e

-- a short header has no Length field, and that of a long one holds all below 2^14
pub field_held : (h : Header) (n : ℕ) → (is_short h ≡ false → n ≤ 16383) → header_spelling h (min n 16383) ≡ header_spelling h n
unfolding header_spelling
field_held (Initial h) n small = let same : min n 16383 ≡ n = omega (arith, small refl) in rw same refl
field_held (Long ty dst_cid src_cid number version) n small = let same : min n 16383 ≡ n = omega (arith, small refl) in rw same refl
field_held (Retry dst_cid src_cid version) n small = refl
field_held (Short spin key_phase dst_cid number) n small = refl
field_held (VersionNegotiate random src_cid dst_cid) n small = refl

-- a packet whose header is complete, sealed in place and masked
pub sealed_and_masked : (mask : List ℕ → List ℕ) (seal : ℕ → List ℕ → List ℕ → List ℕ) (flip : Bool) (h : Header) (number field len at : ℕ) (plain packet out : List ℕ)
    → len ≡ header_len h → at ≡ header_len h - pn_len h → header_spelling h field ≡ header_bytes h plain
    → packet ≡ with_flip flip (header_spelling h field) ++ (plain ++ replicate 16 0) → out ≡ masked mask at (sealed_in_place seal number packet len)
    → out ≡ sealed_packet mask seal flip h number plain
unfolding sealed_packet
sealed_and_masked mask seal flip h number field len at plain packet out is_len is_at is_field is_packet is_out =
    let hb : List ℕ = with_flip flip (header_bytes h plain) in
    let spelled : with_flip flip (header_spelling h field) ≡ hb = ap (λ (x : List ℕ). with_flip flip x) is_field in
    let whole : packet ≡ (hb ++ plain) ++ replicate 16 0 = is_packet ∙ ap (λ (x : List ℕ). x ++ (plain ++ replicate 16 0)) spelled ∙ sym (append_assoc hb plain (replicate 16 0)) in
    let size : len ≡ length hb = is_len ∙ sym (flip_len flip h (protected_len h plain)) in
    let inner : sealed_in_place seal number packet len ≡ hb ++ seal number hb plain = ap (λ (x : List ℕ). sealed_in_place seal number x len) whole ∙ sealed_full seal number hb plain 16 len refl size in
    let place : at ≡ length (header_bytes h plain) - len_of (header_number h) = is_at ∙ ap (λ (n : ℕ). n - len_of (header_number h)) (sym (same_len h (protected_len h plain))) in
    is_out ∙ ap (λ (x : List ℕ). masked mask at x) inner ∙ ap (λ (n : ℕ). masked mask n (hb ++ seal number hb plain)) place

-- zeros behind a packet are its padding and the room for its tag
pub room_behind : (before hb plain : List ℕ) (pad n : ℕ) → n ≡ pad + 16 → (before ++ (hb ++ plain)) ++ replicate n 0 ≡ before ++ (hb ++ ((plain ++ replicate pad 0) ++ replicate 16 0))
room_behind before hb plain pad n e =
    let zeros : replicate (pad + 16) 0 ≡ replicate pad 0 ++ replicate 16 0 = sym (replicate-append-replicate {A = ℕ} pad 16 0) in
    rw (e, zeros, append_assoc before (hb ++ plain) (replicate pad 0 ++ replicate 16 0), append_assoc hb plain (replicate pad 0 ++ replicate 16 0), append_assoc plain (replicate pad 0) (replicate 16 0)) refl

-- the Length field that a builder writes
pub field_written : (b : PacketBuilder) (h : Header) (flip : Bool) (before plain old : List ℕ) (behind : ℕ) → IsReady b (length old) → IsOf b h → b.start ≡ length before
    → old ≡ before ++ (with_flip flip (header_spelling h 0) ++ plain) → behind ≡ max (length old) b.min_size + 16 + b.pn_len - (b.start + b.header_len)
    → header_spelling h (min behind 16383) ≡ header_bytes h (plain ++ replicate (b.min_size - length old) 0)
field_written b h flip before plain old behind ready is_of start is_old is_behind =
    let sizes : length old ≡ length before + (header_len h + length plain) = ap length is_old ∙ length-append before (with_flip flip (header_spelling h 0) ++ plain) ∙ omega (arith, length-append (with_flip flip (header_spelling h 0)) plain, flip_len flip h 0) in
    let padded : length (plain ++ replicate (b.min_size - length old) 0) ≡ length plain + (b.min_size - length old) = length-append plain (replicate (b.min_size - length old) 0) ∙ omega (arith, length-replicate {A = ℕ} (b.min_size - length old) 0) in
    let value : behind ≡ protected_len h (plain ++ replicate (b.min_size - length old) 0) = omega (arith, is_of.header, is_of.number, ready.begun) in
    let small : is_short h ≡ false → behind ≤ 16383 = λ e. omega (arith, ready.sound.length_field (is_of.short ∙ e), ready.sizes, ready.room, ready.begun, ready.sound.first) in
    field_held h behind small ∙ ap (λ (n : ℕ). header_spelling h n) value

-- a buffer whose bytes were all changed in place
pub all_changed : (bytes items : List ℕ) (n : ℕ) → length bytes ≡ length items → n ≡ length items → take n (bytes ++ drop (length bytes) items) ≡ bytes
all_changed bytes items n same all = take_at bytes (drop (length bytes) items) n (same ∙ sym all)

-- what is in a buffer once it was filled up
pub filled_up : (flip : Bool) (h : Header) (before plain old new : List ℕ) (min_size end n pad : ℕ) → old ≡ before ++ (with_flip flip (header_spelling h 0) ++ plain) → new ≡ old ++ replicate n 0
    → end ≡ max (length old) min_size + 16 → n ≡ end - length old → pad ≡ min_size - length old
    → new ≡ before ++ (with_flip flip (header_spelling h 0) ++ ((plain ++ replicate pad 0) ++ replicate 16 0))
filled_up flip h before plain old new min_size end n pad is_old is_new is_end is_n is_pad =
    is_new ∙ ap (λ (x : List ℕ). x ++ replicate n 0) is_old ∙ room_behind before (with_flip flip (header_spelling h 0)) plain pad n (omega arith)

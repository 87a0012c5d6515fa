-- Written headers of 0-RTT, Handshake and 1-RTT packets, under a mask, are read; and their fields come back
use Rattle.std.proofs.Common.{◌≡◌, ℕ, ◌+◌, ◌-◌, ◌/◌, ◌%◌, ◌^◌, ◌<◌, ◌==◌, suc, cond, Bool, true, false, List, ◌∷◌, ◌++◌, length, drop, Ok, refl, ap, ◌∙◌, arith, append_assoc, length-append, [], take, sym}
use Rattle.std.proofs.Math.Seq.{drop-append_seam}
use Rattle.std.specs.Int.{w16, w32, to_be_bytes}
use Rattle.qc_base.specs.declared.packet_number.PacketNumber.{PacketNumber}
use Rattle.qc_base.specs.declared.side.LongType.{LongType}
use Rattle.qc_base.specs.declared.side.LongType.TheVariants.{Handshake, ZeroRtt}
use Rattle.qc_base.specs.Mask.{first_byte}
use Rattle.qc_base.specs.PacketNumber.{number_len, number_bytes}
use Rattle.qc_header.specs.declared.header.Header.TheVariants as written
use Rattle.qc_header.specs.declared.protected.ProtectedHeader.TheVariants as readable
use Rattle.qc_header.specs.HeaderReading.{piece_at}
use Rattle.qc_base.specs.Spelling.{bit}
use Rattle.qc_header.specs.HeaderSpelling.{header_spelling, short_spelling, long_start, length_and_number, id_field, number_tag, long_first}
use Rattle.qc_header.specs.Unprotected.{header_from, number_from}
use Rattle.qc_header.specs.Known.{IsKnown}
use Rattle.qc_header.specs.ReadBack.{FitsItsForm, IsWritable, number_place, protected_packet}
use Rattle.qc_header.proofs.ReadHeaders.{numbered_piece, short_piece, kind_of}
use Rattle.qc_header.proofs.WrittenHeaders.{cut_front, cut_rest, long_kind, short_kind, mask_at, masked_first, masked_rest, masked_parts, length-number_bytes, tag_small, version_some, behind_number, number_back, same_place}

-- ---- 0-RTT and Handshake packets

abbrev pub long_front : List ℕ → List ℕ → ℕ → ℕ → List ℕ
long_front dst src v n = to_be_bytes w32 v ++ (id_field dst ++ (id_field src ++ to_be_bytes w16 (0x4000 + n)))

pub long_shape : (ty : LongType) (dst src : List ℕ) (number : PacketNumber) (v n : ℕ)
    → header_spelling (written.Long ty dst src number v) n ≡ (long_first ty + number_tag number) ∷ (long_front dst src v n ++ number_bytes number)
unfolding header_spelling long_start length_and_number
long_shape ty dst src number v n = simp append_assoc

pub long_place : (ty : LongType) (dst src : List ℕ) (number : PacketNumber) (v n : ℕ)
    → number_place (written.Long ty dst src number v) n ≡ suc (length (long_front dst src v n))
long_place ty dst src number v n =
    omega (arith, ap length (long_shape ty dst src number v n), length-append (long_front dst src v n) (number_bytes number), length-number_bytes number)

long_whole : (ty : LongType) (dst src : List ℕ) (number : PacketNumber) (v n : ℕ) (payload : List ℕ)
    → header_spelling (written.Long ty dst src number v) n ++ payload ≡ (long_first ty + number_tag number) ∷ (long_front dst src v n ++ (number_bytes number ++ payload))
long_whole ty dst src number v n payload =
    rw (long_shape ty dst src number v n, append_assoc (long_front dst src v n) (number_bytes number) payload) refl

long_packet : (mask_of : List ℕ → List ℕ) (ty : LongType) (dst src : List ℕ) (number : PacketNumber) (v n : ℕ) (payload : List ℕ)
    → (mask : List ℕ) × (protected_packet mask_of (written.Long ty dst src number v) n payload
    ≡ masked_first (long_first ty + number_tag number) mask ∷ (long_front dst src v n ++ masked_rest (long_first ty + number_tag number) mask (number_bytes number ++ payload)))
long_packet mask_of ty dst src number v n payload =
    let first = long_first ty + number_tag number in
    let z = number_bytes number ++ payload in (
      mask_at mask_of (suc (length (long_front dst src v n))) (first ∷ (long_front dst src v n ++ z)),
      rw (long_place ty dst src number v n, long_whole ty dst src number v n payload) (masked_parts mask_of (length (long_front dst src v n)) first (long_front dst src v n) z refl),
    )

long_apart : (dst src : List ℕ) (v n : ℕ) (z rest : List ℕ) → (long_front dst src v n ++ z) ++ rest
    ≡ to_be_bytes w32 v ++ (id_field dst ++ (id_field src ++ (to_be_bytes w16 (0x4000 + n) ++ (z ++ rest))))
long_apart dst src v n z rest = simp append_assoc

long_byte : (ty : LongType) (number : PacketNumber) (mask : List ℕ) → masked_first (long_first ty + number_tag number) mask / 16 ≡ kind_of ty
long_byte ZeroRtt number mask =
    let tag = tag_small number in
    let kind : (0xd0 + number_tag number) / 16 ≡ 13 = omega arith in
    long_kind (0xd0 + number_tag number) (first_byte mask) (omega arith) ∙ kind
long_byte Handshake number mask =
    let tag = tag_small number in
    let kind : (0xe0 + number_tag number) / 16 ≡ 14 = omega arith in
    long_kind (0xe0 + number_tag number) (first_byte mask) (omega arith) ∙ kind

long_found : (k n first v : ℕ) (ty : LongType) (versions dst src z rest : List ℕ) (grease : Bool) (number : PacketNumber) → first / 16 ≡ kind_of ty
    → IsWritable dst src number v → IsKnown v versions → n < 2 ^ 14 → n ≡ length z
    → piece_at k versions grease ((first ∷ (long_front dst src v n ++ z)) ++ rest)
    ≡ Ok (
      record {
        header = readable.Long ty dst src v;
        pn_offset = number_place (written.Long ty dst src number v) n;
        bytes = first ∷ (long_front dst src v n ++ z);
      },
      rest,
    )
long_found k n first v ty versions dst src z rest grease number kind writable known n_fits size =
    let w = z ++ rest in
    let found = numbered_piece k first v n ty versions dst src w grease kind writable.version
    (version_some v known.some) known.listed writable.dst writable.src n_fits (omega (arith, length-append z rest)) in
    let apart = long_apart dst src v n z rest in
    let datagram : List ℕ = first ∷ (to_be_bytes w32 v ++ (id_field dst ++ (id_field src ++ (to_be_bytes w16 (0x4000 + n) ++ w)))) in
    let all : length datagram ≡ suc (length (long_front dst src v n)) + length z + length rest =
    omega (arith, ap length apart, length-append (long_front dst src v n ++ z) rest, length-append (long_front dst src v n) z) in
    let behind = length-append z rest in
    let pn_offset : length datagram - length w ≡ number_place (written.Long ty dst src number v) n = omega (arith, long_place ty dst src number v n) in
    let end : length datagram - length w + n ≡ length (first ∷ (long_front dst src v n ++ z)) = omega (arith, length-append (long_front dst src v n) z) in
    let split : datagram ≡ (first ∷ (long_front dst src v n ++ z)) ++ rest = ap (λ (l : List ℕ). first ∷ l) (sym apart) in
    ap (λ (l : List ℕ). piece_at k versions grease (first ∷ l)) apart ∙ found
    ∙ same_place (readable.Long ty dst src v) (readable.Long ty dst src v) (length datagram - length w) (number_place (written.Long ty dst src number v) n)
    (take (length datagram - length w + n) datagram) (first ∷ (long_front dst src v n ++ z)) (drop (length datagram - length w + n) datagram) rest
    refl pn_offset
    (cut_front (first ∷ (long_front dst src v n ++ z)) rest datagram (length datagram - length w + n) split end)
    (cut_rest (first ∷ (long_front dst src v n ++ z)) rest datagram (length datagram - length w + n) split end)

pub long_is_read : (mask_of : List ℕ → List ℕ) (k n v : ℕ) (ty : LongType) (versions dst src : List ℕ) (grease : Bool) (number : PacketNumber) (payload rest : List ℕ)
    → IsWritable dst src number v → IsKnown v versions → n < 2 ^ 14 → n ≡ number_len number + length payload
    → piece_at k versions grease (protected_packet mask_of (written.Long ty dst src number v) n payload ++ rest)
    ≡ Ok (
      record {
        header = readable.Long ty dst src v;
        pn_offset = number_place (written.Long ty dst src number v) n;
        bytes = protected_packet mask_of (written.Long ty dst src number v) n payload;
      },
      rest,
    )
long_is_read mask_of k n v ty versions dst src grease number payload rest writable known n_fits size =
    let packet = long_packet mask_of ty dst src number v n payload in
    let first = masked_first (long_first ty + number_tag number) packet.0 in
    let z = masked_rest (long_first ty + number_tag number) packet.0 (number_bytes number ++ payload) in
    rw packet.1
    (long_found k n first v ty versions dst src z rest grease number (long_byte ty number packet.0) writable known n_fits
    (size ∙ behind_number number payload (long_first ty + number_tag number) packet.0))

long_number : (ty : LongType) (dst src : List ℕ) (number : PacketNumber) (v n : ℕ)
    → drop (number_place (written.Long ty dst src number v) n) (header_spelling (written.Long ty dst src number v) n) ≡ number_bytes number
long_number ty dst src number v n =
    let before : List ℕ = (long_first ty + number_tag number) ∷ long_front dst src v n in
    let shape : header_spelling (written.Long ty dst src number v) n ≡ before ++ number_bytes number = long_shape ty dst src number v n in
    let pn_offset : number_place (written.Long ty dst src number v) n ≡ length before = long_place ty dst src number v n in
    rw (pn_offset, shape, drop-append_seam before (number_bytes number)) refl

pub long_comes_back : (ty : LongType) (dst src : List ℕ) (number : PacketNumber) (v n : ℕ) → FitsItsForm number
    → header_from (readable.Long ty dst src v) (number_place (written.Long ty dst src number v) n) (header_spelling (written.Long ty dst src number v) n)
    ≡ written.Long ty dst src number v
long_comes_back ty dst src number v n fits =
    let back = ap number_from (long_number ty dst src number v n) ∙ number_back number fits in
    rw back refl

-- ---- 1-RTT packets

abbrev pub short_byte : Bool → Bool → PacketNumber → ℕ
short_byte spin key_phase number = 0x40 + bit spin 0x20 + bit key_phase 0x04 + number_tag number

pub short_shape : (spin key_phase : Bool) (dst : List ℕ) (number : PacketNumber) (n : ℕ)
    → header_spelling (written.Short spin key_phase dst number) n ≡ short_byte spin key_phase number ∷ (dst ++ number_bytes number)
unfolding header_spelling short_spelling
short_shape spin key_phase dst number n = refl

pub short_place : (spin key_phase : Bool) (dst : List ℕ) (number : PacketNumber) (n : ℕ) → number_place (written.Short spin key_phase dst number) n ≡ suc (length dst)
short_place spin key_phase dst number n =
    omega (arith, ap length (short_shape spin key_phase dst number n), length-append dst (number_bytes number), length-number_bytes number)

short_packet : (mask_of : List ℕ → List ℕ) (spin key_phase : Bool) (dst : List ℕ) (number : PacketNumber) (n : ℕ) (payload : List ℕ)
    → (mask : List ℕ) × (protected_packet mask_of (written.Short spin key_phase dst number) n payload
    ≡ masked_first (short_byte spin key_phase number) mask ∷ (dst ++ masked_rest (short_byte spin key_phase number) mask (number_bytes number ++ payload)))
short_packet mask_of spin key_phase dst number n payload =
    let first = short_byte spin key_phase number in
    let z = number_bytes number ++ payload in
    let whole : header_spelling (written.Short spin key_phase dst number) n ++ payload ≡ first ∷ (dst ++ z) =
    rw (short_shape spin key_phase dst number n, append_assoc dst (number_bytes number) payload) refl in (
      mask_at mask_of (suc (length dst)) (first ∷ (dst ++ z)),
      rw (short_place spin key_phase dst number n, whole) (masked_parts mask_of (length dst) first dst z refl),
    )

short_high : (spin key_phase : Bool) (number : PacketNumber) → (short_byte spin key_phase number < 128) × (short_byte spin key_phase number / 32 ≡ 2 + cond spin 1 0)
short_high true true number = let tag = tag_small number in (omega arith, omega arith)
short_high true false number = let tag = tag_small number in (omega arith, omega arith)
short_high false true number = let tag = tag_small number in (omega arith, omega arith)
short_high false false number = let tag = tag_small number in (omega arith, omega arith)

pub short_is_read : (mask_of : List ℕ → List ℕ) (k n : ℕ) (versions dst : List ℕ) (grease spin key_phase : Bool) (number : PacketNumber) (payload : List ℕ) → length dst ≡ k
    → piece_at k versions grease (protected_packet mask_of (written.Short spin key_phase dst number) n payload)
    ≡ Ok (
      record {
        header = readable.Short spin dst;
        pn_offset = number_place (written.Short spin key_phase dst number) n;
        bytes = protected_packet mask_of (written.Short spin key_phase dst number) n payload;
      },
      [],
    )
short_is_read mask_of k n versions dst grease spin key_phase number payload size =
    let packet = short_packet mask_of spin key_phase dst number n payload in
    let high = short_high spin key_phase number in
    let first = masked_first (short_byte spin key_phase number) packet.0 in
    let w = masked_rest (short_byte spin key_phase number) packet.0 (number_bytes number ++ payload) in
    let kind = short_kind (short_byte spin key_phase number) (first_byte packet.0) high.0 ∙ high.1 in
    let found = short_piece k first spin versions dst w grease kind size in
    let datagram : List ℕ = first ∷ (dst ++ w) in
    let pn_offset : length datagram - length w ≡ number_place (written.Short spin key_phase dst number) n =
    omega (arith, short_place spin key_phase dst number n, length-append dst w) in
    rw packet.1
    (found ∙ same_place (readable.Short spin dst) (readable.Short spin dst) (length datagram - length w) (number_place (written.Short spin key_phase dst number) n)
    datagram datagram [] [] refl pn_offset refl refl)

short_number : (spin key_phase : Bool) (dst : List ℕ) (number : PacketNumber) (n : ℕ)
    → drop (number_place (written.Short spin key_phase dst number) n) (header_spelling (written.Short spin key_phase dst number) n) ≡ number_bytes number
short_number spin key_phase dst number n =
    let before : List ℕ = short_byte spin key_phase number ∷ dst in
    let shape : header_spelling (written.Short spin key_phase dst number) n ≡ before ++ number_bytes number = short_shape spin key_phase dst number n in
    let pn_offset : number_place (written.Short spin key_phase dst number) n ≡ length before = short_place spin key_phase dst number n in
    rw (pn_offset, shape, drop-append_seam before (number_bytes number)) refl

short_phase : (spin key_phase : Bool) (number : PacketNumber) → (short_byte spin key_phase number / 4 % 2 == 1) ≡ key_phase
short_phase true true number = let tag = tag_small number in let e : short_byte true true number / 4 % 2 ≡ 1 = omega arith in rw e refl
short_phase true false number = let tag = tag_small number in let e : short_byte true false number / 4 % 2 ≡ 0 = omega arith in rw e refl
short_phase false true number = let tag = tag_small number in let e : short_byte false true number / 4 % 2 ≡ 1 = omega arith in rw e refl
short_phase false false number = let tag = tag_small number in let e : short_byte false false number / 4 % 2 ≡ 0 = omega arith in rw e refl

pub short_comes_back : (spin key_phase : Bool) (dst : List ℕ) (number : PacketNumber) (n : ℕ) → FitsItsForm number
    → header_from (readable.Short spin dst) (number_place (written.Short spin key_phase dst number) n) (header_spelling (written.Short spin key_phase dst number) n)
    ≡ written.Short spin key_phase dst number
short_comes_back spin key_phase dst number n fits =
    let back = ap number_from (short_number spin key_phase dst number n) ∙ number_back number fits in
    let phase = ap first_byte (short_shape spin key_phase dst number n) in
    rw (back, phase, short_phase spin key_phase number) refl

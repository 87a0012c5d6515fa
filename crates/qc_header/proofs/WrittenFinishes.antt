-- Of a written packet that is protected, header and payload come back once its mask is off
use Rattle.std.proofs.Common.{◌≡◌, ℕ, ◌+◌, ◌%◌, ◌≤◌, Bool, true, false, List, length, refl, ◌∙◌, sym, arith}
use Rattle.qc_base.specs.declared.packet_number.PacketNumber.{PacketNumber}
use Rattle.qc_base.specs.declared.side.LongType.{LongType}
use Rattle.qc_base.specs.declared.side.LongType.TheVariants.{Handshake, ZeroRtt}
use Rattle.qc_base.specs.PacketNumber.{number_len, number_bytes}
use Rattle.qc_header.specs.declared.header.Header.TheVariants as written
use Rattle.qc_header.specs.declared.header.InitialHeader.{InitialHeader}
use Rattle.qc_header.specs.declared.protected.ProtectedHeader.TheVariants as readable
use Rattle.qc_base.specs.Spelling.{bit}
use Rattle.qc_header.specs.HeaderSpelling.{header_spelling, number_tag, long_first}
use Rattle.qc_header.specs.Piece.{is_protected}
use Rattle.qc_header.specs.ReadBack.{FitsItsForm, Finishes, token_place, number_place, protected_packet}
use Rattle.qc_header.proofs.Finished.{tag_tells, protected_finishes}
use Rattle.qc_header.proofs.WrittenHeaders.{initial_front, initial_shape, initial_place, initial_comes_back, length-number_bytes}
use Rattle.qc_header.proofs.WrittenNumbered.{long_front, long_shape, long_place, long_comes_back, short_byte, short_shape, short_place, short_comes_back}

pub initial_finishes : (mask_of : List ℕ → List ℕ) (h : InitialHeader) (n : ℕ) (payload : List ℕ)
    → FitsItsForm h.number → 20 ≤ number_len h.number + length payload
    → Finishes mask_of (record {
      header = readable.Initial h.dst_cid h.src_cid (token_place h) (length h.token) h.version;
      pn_offset = number_place (written.Initial h) n;
      bytes = protected_packet mask_of (written.Initial h) n payload;
    }) (written.Initial h) (header_spelling (written.Initial h) n) payload
initial_finishes mask_of h n payload fits some =
    let size = length-number_bytes h.number in
    protected_finishes mask_of (readable.Initial h.dst_cid h.src_cid (token_place h) (length h.token) h.version) (written.Initial h) n
    (0xc0 + number_tag h.number) (initial_front h n) (number_bytes h.number) payload refl (initial_shape h n) (initial_place h n)
    (tag_tells 0xc0 h.number refl ∙ sym size) (omega arith) (initial_comes_back h n fits)

long_tag : (ty : LongType) → long_first ty % 4 ≡ 0
long_tag ZeroRtt = refl
long_tag Handshake = refl

long_kind : (ty : LongType) (dst src : List ℕ) (v : ℕ) → is_protected (readable.Long ty dst src v) ≡ true
long_kind ZeroRtt dst src v = refl
long_kind Handshake dst src v = refl

pub long_finishes : (mask_of : List ℕ → List ℕ) (ty : LongType) (dst src : List ℕ) (number : PacketNumber) (v n : ℕ) (payload : List ℕ)
    → FitsItsForm number → 20 ≤ number_len number + length payload
    → Finishes mask_of (record {
      header = readable.Long ty dst src v;
      pn_offset = number_place (written.Long ty dst src number v) n;
      bytes = protected_packet mask_of (written.Long ty dst src number v) n payload;
    }) (written.Long ty dst src number v) (header_spelling (written.Long ty dst src number v) n) payload
long_finishes mask_of ty dst src number v n payload fits some =
    let size = length-number_bytes number in
    protected_finishes mask_of (readable.Long ty dst src v) (written.Long ty dst src number v) n
    (long_first ty + number_tag number) (long_front dst src v n) (number_bytes number) payload (long_kind ty dst src v)
    (long_shape ty dst src number v n) (long_place ty dst src number v n)
    (tag_tells (long_first ty) number (long_tag ty) ∙ sym size) (omega arith) (long_comes_back ty dst src number v n fits)

short_tag : (spin key_phase : Bool) → (0x40 + bit spin 0x20 + bit key_phase 0x04) % 4 ≡ 0
short_tag true true = refl
short_tag true false = refl
short_tag false true = refl
short_tag false false = refl

pub short_finishes : (mask_of : List ℕ → List ℕ) (spin key_phase : Bool) (dst : List ℕ) (number : PacketNumber) (n : ℕ) (payload : List ℕ)
    → FitsItsForm number → 20 ≤ number_len number + length payload
    → Finishes mask_of (record {
      header = readable.Short spin dst;
      pn_offset = number_place (written.Short spin key_phase dst number) n;
      bytes = protected_packet mask_of (written.Short spin key_phase dst number) n payload;
    }) (written.Short spin key_phase dst number) (header_spelling (written.Short spin key_phase dst number) n) payload
short_finishes mask_of spin key_phase dst number n payload fits some =
    let size = length-number_bytes number in
    protected_finishes mask_of (readable.Short spin dst) (written.Short spin key_phase dst number) n
    (short_byte spin key_phase number) dst (number_bytes number) payload refl
    (short_shape spin key_phase dst number n) (short_place spin key_phase dst number n)
    (tag_tells (0x40 + bit spin 0x20 + bit key_phase 0x04) number (short_tag spin key_phase) ∙ sym size) (omega arith)
    (short_comes_back spin key_phase dst number n fits)

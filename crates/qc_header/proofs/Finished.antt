-- What is made of a packet once its header protection is off
use Rattle.std.proofs.Common.{◌≡◌, ℕ, ◌+◌, ◌%◌, ◌≤◌, suc, true, List, ◌∷◌, ◌++◌, length, take, drop, refl, ap, ◌∙◌, arith, append_assoc, length-append}
use Rattle.std.proofs.Math.Seq.{take-append_seam, drop-append_seam}
use Rattle.qc_base.specs.declared.packet_number.PacketNumber.{PacketNumber}
use Rattle.qc_base.specs.declared.packet_number.PacketNumber.TheVariants.{U8, U16, U24, U32}
use Rattle.qc_base.specs.Mask.{unmasked, masked, first_byte}
use Rattle.qc_base.specs.PacketNumber.{number_len}
use Rattle.qc_base.proofs.Masks.{length-mask_over}
use Rattle.qc_base.proofs.MaskLaws.{mask_comes_off}
use Rattle.qc_header.specs.declared.header.Header.{Header}
use Rattle.qc_header.specs.declared.protected.ProtectedHeader.{ProtectedHeader}
use Rattle.qc_header.specs.HeaderSpelling.{header_spelling, number_tag}
use Rattle.qc_header.specs.Unprotected.{unprotected, header_end, header_from}
use Rattle.qc_header.specs.Piece.{Piece, is_protected}
use Rattle.qc_header.specs.ReadBack.{Finishes, number_place, protected_packet}
use Rattle.qc_header.proofs.Cuts.{unprotected_is, end_protected}
use Rattle.qc_header.proofs.WrittenHeaders.{mask_at, masked_first, masked_rest, masked_parts}

-- a first byte tells the number's length
pub tag_tells : (base : ℕ) (number : PacketNumber) → base % 4 ≡ 0 → (base + number_tag number) % 4 + 1 ≡ number_len number
tag_tells base (U8 n) e = omega arith
tag_tells base (U16 n) e = omega arith
tag_tells base (U24 n) e = omega arith
tag_tells base (U32 n) e = omega arith

-- a mask changes no length
length-protected : (mask_of : List ℕ → List ℕ) (h : Header) (n first : ℕ) (front number payload : List ℕ)
    → header_spelling h n ≡ first ∷ (front ++ number) → number_place h n ≡ suc (length front)
    → length (protected_packet mask_of h n payload) ≡ suc (length front) + length number + length payload
length-protected mask_of h n first front number payload shape pn_offset =
    let z = number ++ payload in
    let whole : header_spelling h n ++ payload ≡ first ∷ (front ++ z) = rw (shape, append_assoc front number payload) refl in
    let mask = mask_at mask_of (suc (length front)) (first ∷ (front ++ z)) in
    let parts : protected_packet mask_of h n payload ≡ masked_first first mask ∷ (front ++ masked_rest first mask z) =
    rw (pn_offset, whole) (masked_parts mask_of (length front) first front z refl) in
    omega (
      arith,
      ap length parts,
      length-append front (masked_rest first mask z),
      length-mask_over z (take (first % 4 + 1) (drop 1 mask)),
      length-append number payload,
    )

-- a protected header whose first byte, fields and number are these
pub protected_finishes : (mask_of : List ℕ → List ℕ) (r : ProtectedHeader) (h : Header) (n first : ℕ) (front number payload : List ℕ)
    → is_protected r ≡ true → header_spelling h n ≡ first ∷ (front ++ number) → number_place h n ≡ suc (length front)
    → first % 4 + 1 ≡ length number → 20 ≤ length number + length payload → header_from r (number_place h n) (header_spelling h n) ≡ h
    → Finishes mask_of (record { header = r; pn_offset = number_place h n; bytes = protected_packet mask_of h n payload }) h (header_spelling h n) payload
protected_finishes mask_of r h n first front number payload kind shape pn_offset tag some back =
    let p : Piece = record { header = r; pn_offset = number_place h n; bytes = protected_packet mask_of h n payload } in
    let spelling = header_spelling h n in
    let size : length spelling ≡ suc (length front) + length number = omega (arith, ap length shape, length-append front number) in
    let off : unmasked mask_of (number_place h n) (masked mask_of (number_place h n) (spelling ++ payload)) ≡ spelling ++ payload =
    mask_comes_off mask_of (number_place h n) (spelling ++ payload) (omega arith) (omega (arith, length-append spelling payload)) in
    let open_bytes : unprotected mask_of p ≡ spelling ++ payload = unprotected_is mask_of p kind ∙ off in
    let begins : first_byte (spelling ++ payload) ≡ first = rw shape refl in
    let ends : header_end p (spelling ++ payload) ≡ length spelling =
    end_protected p (spelling ++ payload) kind ∙ omega (arith, begins) in
    let len = length-protected mask_of h n first front number payload shape pn_offset in
    record {
      whole = λ cut. omega (arith, cut.1);
      header_data = rw (open_bytes, ends, take-append_seam spelling payload) refl;
      payload = rw (open_bytes, ends, drop-append_seam spelling payload) refl;
      header = back;
    }

-- Packets that are written, filled up and sealed in one buffer.
use Rattle.std.proofs.Common.{◌≡◌, ℕ, ◌+◌, ◌-◌, ◌<◌, ◌≤◌, List, ◌++◌, length, take, replicate, refl, ap, ◌∙◌, append_assoc, arith, length-append}
use Rattle.std.proofs.Math.Seq.{take-append_seam, drop-append_seam}
use Rattle.std.proofs.lemmas.List.{take_all, length-replicate}
use Rattle.std.proofs.lemmas.Grind.{flat_map-append}
use Rattle.qc_crypto.specs.Sealing.{sealed_in_place}
use Rattle.qc_frame.specs.Frame.{FrameValue}
use Rattle.qc_frame.specs.FrameSpelling.{spelling, frames_spelling}
use Rattle.qc_frame.specs.declared.frames.FrameOf.TheVariants.{Padding}
use Rattle.qc_frame.proofs.Padded.{zeros}
use Rattle.qc_base.specs.Mask.{masked}
use Rattle.qc_header.specs.declared.header.Header.{Header}
use Rattle.qc_header.specs.HeaderSpelling.{header_spelling, header_number}
use Rattle.qc_packet.specs.PacketSpelling.{len_of, sealed_packet, packet_spelling}

-- a resize to more bytes fills up
pub filled : (bytes : List ℕ) (end : ℕ) → length bytes ≤ end → take end bytes ++ replicate (end - length bytes) 0 ≡ bytes ++ replicate (end - length bytes) 0
filled bytes end h = rw (take_all end bytes h) refl

-- zeros behind frames are so many PADDING frames more
pub padded_bytes : (hb : List ℕ) (fs : List FrameValue) (n : ℕ) → (hb ++ frames_spelling fs) ++ replicate n 0 ≡ hb ++ frames_spelling (fs ++ replicate n Padding)
padded_bytes hb fs n = rw (flat_map-append spelling fs (replicate n Padding), zeros n, append_assoc) refl

-- a header, a payload and room for the tag are sealed in place
pub sealed_full : (seal : ℕ → List ℕ → List ℕ → List ℕ) (number : ℕ) (hb p : List ℕ) (n len : ℕ) → n ≡ 16 → len ≡ length hb →
    sealed_in_place seal number ((hb ++ p) ++ replicate n 0) len ≡ hb ++ seal number hb p
unfolding sealed_in_place
sealed_full seal number hb p n len room at =
    let z : List ℕ = replicate n 0 in
    let size : length z ≡ n = length-replicate {A = ℕ} n 0 in
    let total : length (hb ++ (p ++ z)) - 16 - length hb ≡ length p = simp length-append (omega arith) in
    rw (append_assoc, at, take-append_seam hb (p ++ z), drop-append_seam hb (p ++ z), total, take-append_seam p z) refl

-- a packet that is written, filled up, sealed and masked is spelled
pub sealed_all : (mask : List ℕ → List ℕ) (seal : ℕ → List ℕ → List ℕ → List ℕ) (h : Header) (number : ℕ) (p : List ℕ) (size field len at : ℕ) (plain full out : List ℕ) →
    plain ≡ header_spelling h field ++ p → full ≡ plain ++ replicate (size - length plain) 0 → out ≡ masked mask at (sealed_in_place seal number full len) →
    len ≡ length (header_spelling h field) → length plain ≡ size - 16 → len + 20 ≤ size → len_of (header_number h) < len → at ≡ len - len_of (header_number h) → field ≡ size - at →
    out ≡ packet_spelling mask seal h number p
unfolding sealed_packet
sealed_all mask seal h number p size field len at plain full out is_plain is_full is_out is_len ends room behind is_at is_field =
    let sizes : length plain ≡ length (header_spelling h field) + length p = ap length is_plain ∙ length-append (header_spelling h field) p in
    let left : size - length plain ≡ 16 = omega arith in
    let value : field ≡ len_of (header_number h) + length p + 16 = omega arith in
    let place : at ≡ length (header_spelling h field) - len_of (header_number h) = omega arith in
    let bytes : full ≡ (header_spelling h field ++ p) ++ replicate (size - length plain) 0 = is_full ∙ ap (λ (x : List ℕ). x ++ replicate (size - length plain) 0) is_plain in
    let inner : sealed_in_place seal number full len ≡ header_spelling h field ++ seal number (header_spelling h field) p = ap (λ (x : List ℕ). sealed_in_place seal number x len) bytes ∙ sealed_full seal number (header_spelling h field) p (size - length plain) len left is_len in
    let all : out ≡ masked mask (length (header_spelling h field) - len_of (header_number h)) (header_spelling h field ++ seal number (header_spelling h field) p) = is_out ∙ ap (λ (x : List ℕ). masked mask at x) inner ∙ ap (λ (x : ℕ). masked mask x (header_spelling h field ++ seal number (header_spelling h field) p)) place in
    all ∙ ap (λ (x : ℕ). masked mask (length (header_spelling h x) - len_of (header_number h)) (header_spelling h x ++ seal number (header_spelling h x) p)) value

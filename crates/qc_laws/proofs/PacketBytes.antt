-- The bytes of sealed packets: how many there are, how those of a transmit are cut into datagrams, and that the headers of this end are read.
use Rattle.std.proofs.Common.{◌≡◌, ℕ, zero, suc, ◌+◌, ◌*◌, ◌-◌, ◌<◌, ◌≤◌, ◌%◌, Bool, true, false, List, [], ◌∷◌, ◌++◌, length, take, drop, refl, ap, sym, ◌∙◌, subst, append-nil, length-append, arith, if◌then◌else◌, nat_lt, Some}
use Rattle.std.proofs.Math.Seq.{take-append_seam, drop-append_seam}
use Rattle.std.proofs.lemmas.List.{take_all, drop_all, take-append-drop}
use Rattle.qc_base.specs.Mask.{first_byte, first_over, masked, masked_by, mask_over, number_len_in, number_over, sample_at}
use Rattle.qc_base.proofs.Masks.{length-mask_over}
use Rattle.qc_base.specs.PacketNumber.{number_len, number_of}
use Rattle.qc_base.specs.declared.packet_number.PacketNumber.{PacketNumber}
use Rattle.qc_base.specs.declared.packet_number.PacketNumber.TheVariants.{U8, U16, U24, U32}
use Rattle.qc_header.specs.ReadBack.{FitsItsForm}
use Rattle.qc_header.specs.declared.header.Header.{Header}
use Rattle.qc_packet.specs.Building.{header_len}
use Rattle.qc_packet.specs.PacketSpelling.{header_bytes, protected_len, sealed_packet, with_flip}
use Rattle.qc_packet.proofs.Finishes.{flip_len}
use Rattle.qc_laws.specs.SealLaws.{all_of, cut_within, datagrams_of}

-- ---- how many bytes a packet has

-- a mask leaves their number
first_over_length : (bytes : List ℕ) (m : ℕ) → length (first_over bytes m) ≡ length bytes
first_over_length [] m = refl
first_over_length (b ∷ bytes) m = refl

number_over_length : (place len : ℕ) (mask packet : List ℕ) → length (number_over place len mask packet) ≡ length packet
number_over_length place len mask packet =
    length-append (take place packet) (mask_over (drop place packet) (take len (drop 1 mask)))
    ∙ ap (λ (n : ℕ). length (take place packet) + n) (length-mask_over (drop place packet) (take len (drop 1 mask)))
    ∙ sym (length-append (take place packet) (drop place packet)) ∙ ap length (take-append-drop place packet)

masked_length : (mask : List ℕ → List ℕ) (place : ℕ) (packet : List ℕ) → length (masked mask place packet) ≡ length packet
unfolding masked masked_by
masked_length mask place packet =
    let bytes : List ℕ = mask (sample_at place packet) in
    number_over_length place (number_len_in packet) bytes (first_over packet (first_byte bytes)) ∙ first_over_length packet (first_byte bytes)

-- a packet has those of its header, its payload and its tag
pub sealed_size : (mask : List ℕ → List ℕ) (seal : ℕ → List ℕ → List ℕ → List ℕ) (flip : Bool) (h : Header) (number : ℕ) (plain : List ℕ) → ((header : List ℕ) → length (seal number header plain) ≡ length plain + 16) →
    length (sealed_packet mask seal flip h number plain) ≡ header_len h + length plain + 16
unfolding sealed_packet
sealed_size mask seal flip h number plain size =
    let hb : List ℕ = with_flip flip (header_bytes h plain) in
    let first : length hb ≡ header_len h = flip_len flip h (protected_len h plain) in
    let more : length (seal number hb plain) ≡ length plain + 16 = size hb in
    masked_length mask _ (hb ++ seal number hb plain) ∙ length-append hb (seal number hb plain) ∙ omega arith

-- ---- numbers

-- a number that is spelled fits its form
pub number_fits : (n largest : ℕ) → FitsItsForm (number_of n largest)
unfolding number_of
number_fits n largest = by_range (nat_lt (2 * (n - largest)) 0x100) (nat_lt (2 * (n - largest)) 0x10000) (nat_lt (2 * (n - largest)) 0x1000000)
  where
    by_range : (a b c : Bool) → FitsItsForm (if a then U8 (n % 0x100) else if b then U16 (n % 0x10000) else if c then U24 (n % 0x1000000) else U32 (n % 0x100000000))
    by_range true b c = omega arith
    by_range false true c = omega arith
    by_range false false true = omega arith
    by_range false false false = omega arith

-- it has a byte at least, and 4 at most
pub number_some : (number : PacketNumber) → 1 ≤ number_len number
number_some (U8 n) = omega arith
number_some (U16 n) = omega arith
number_some (U24 n) = omega arith
number_some (U32 n) = omega arith

pub number_most : (number : PacketNumber) → number_len number ≤ 4
number_most (U8 n) = omega arith
number_most (U16 n) = omega arith
number_most (U24 n) = omega arith
number_most (U32 n) = omega arith

-- ---- datagrams

-- each of these has a byte, and so many, but the last, which may have fewer
abbrev pub AreCut : (size : ℕ) → List (List ℕ) → Type 0
AreCut size [] = Unit {0}
AreCut size (d ∷ []) = (0 < length d) × (length d ≤ size)
AreCut size (d ∷ e ∷ ds) = (0 < length d) × (length d ≡ size) × AreCut size (e ∷ ds)

cut_none : (most size : ℕ) → cut_within most size [] ≡ []
unfolding cut_within
cut_none zero size = refl
cut_none (suc most) size = refl

cut_first : (most size : ℕ) (bytes : List ℕ) → 0 < length bytes → cut_within (suc most) size bytes ≡ take size bytes ∷ cut_within most size (drop size bytes)
unfolding cut_within
cut_first most size [] some = absurd (omega (arith, some))
cut_first most size (b ∷ bytes) some = refl

-- one that has so many bytes, with others behind it
cut_one : (most size : ℕ) (d rest : List ℕ) → 0 < length d → length d ≡ size → cut_within (suc most) size (d ++ rest) ≡ d ∷ cut_within most size rest
cut_one most size d rest some full =
    subst (λ (n : ℕ). cut_within (suc most) n (d ++ rest) ≡ d ∷ cut_within most n rest) full
    (cut_first most (length d) (d ++ rest) (omega (arith, some, length-append d rest))
    ∙ ap (λ (x : List ℕ). x ∷ cut_within most (length d) (drop (length d) (d ++ rest))) (take-append_seam d rest)
    ∙ ap (λ (x : List ℕ). d ∷ cut_within most (length d) x) (drop-append_seam d rest))

-- the last one
cut_last : (most size : ℕ) (d : List ℕ) → 0 < length d → length d ≤ size → cut_within (suc most) size d ≡ d ∷ []
cut_last most size d some few =
    cut_first most size d some ∙ ap (λ (x : List ℕ). x ∷ cut_within most size (drop size d)) (take_all size d few)
    ∙ ap (λ (x : List ℕ). d ∷ cut_within most size x) (drop_all size d few) ∙ ap (λ (xs : List (List ℕ)). d ∷ xs) (cut_none most size)

-- so they are cut apart
pub cut_apart : (most size : ℕ) (ds : List (List ℕ)) → AreCut size ds → length (all_of ds) ≤ most → cut_within most size (all_of ds) ≡ ds
cut_apart most size [] cut few = cut_none most size
cut_apart zero size (d ∷ []) cut few = let some : 0 < length d = cut.0 in absurd (omega (arith, few, some, length-append d []))
cut_apart (suc most) size (d ∷ []) cut few = ap (λ (x : List ℕ). cut_within (suc most) size x) (append-nil d) ∙ cut_last most size d cut.0 cut.1
cut_apart zero size (d ∷ e ∷ ds) cut few = let some : 0 < length d = cut.0 in absurd (omega (arith, few, some, length-append d (all_of (e ∷ ds))))
cut_apart (suc most) size (d ∷ e ∷ ds) cut few =
    let some : 0 < length d = cut.0 in
    cut_one most size d (all_of (e ∷ ds)) cut.0 cut.1
    ∙ ap (λ (xs : List (List ℕ)). d ∷ xs) (cut_apart most size (e ∷ ds) cut.2 (omega (arith, few, some, length-append d (all_of (e ∷ ds)))))

pub datagrams_apart : (size : ℕ) (ds : List (List ℕ)) → AreCut size ds → datagrams_of (Some size) (all_of ds) ≡ ds
datagrams_apart size ds cut = cut_apart (length (all_of ds)) size ds cut (omega arith)

-- Written headers, under a mask, are read; and their fields come back
use Rattle.std.proofs.Common.{◌≡◌, ℕ, ◌+◌, ◌-◌, ◌*◌, ◌/◌, ◌%◌, ◌^◌, ◌<◌, ◌≤◌, ◌==◌, suc, Bool, true, false, List, ◌∷◌, ◌++◌, length, take, drop, nat_lt, bit_xor, Result, Ok, refl, ap, ◌∙◌, arith, append_assoc, length-append, lit<, sym}
use Rattle.std.proofs.Math.Nat.{mod-eq_of_lt}
use Rattle.std.proofs.lemmas.Bool.Decides.{nat_tests}
use Rattle.std.proofs.lemmas.Nat.{xor_shr}
use Rattle.std.proofs.Math.Seq.{take-append_seam, drop-append_seam}
use Rattle.std.specs.Int.Bits.{xor_zero_r}
use Rattle.std.specs.Int.{w16, w32, to_be_bytes}
use Rattle.qc_base.specs.declared.packet_number.PacketNumber.{PacketNumber}
use Rattle.qc_base.specs.declared.packet_number.PacketNumber.TheVariants.{U8, U16, U24, U32}
use Rattle.qc_base.specs.Mask.{first_byte, first_changes, mask_over, masked, masked_by, sample_at}
use Rattle.qc_base.specs.PacketNumber.{number_len, number_bytes}
use Rattle.qc_base.specs.Varint.{varint}
use Rattle.qc_base.proofs.Masks.{length-mask_over}
use Rattle.qc_header.specs.declared.header.Header.TheVariants as written
use Rattle.qc_header.specs.declared.header.InitialHeader.{InitialHeader}
use Rattle.qc_header.specs.declared.protected.PacketDecodeError.{PacketDecodeError}
use Rattle.qc_header.specs.declared.protected.ProtectedHeader.{ProtectedHeader}
use Rattle.qc_header.specs.declared.protected.ProtectedHeader.TheVariants as readable
use Rattle.qc_header.specs.HeaderReading.{piece_at}
use Rattle.qc_header.specs.HeaderSpelling.{header_spelling, initial_spelling, long_start, length_and_number, id_field, number_tag}
use Rattle.qc_header.specs.Unprotected.{header_from, number_from}
use Rattle.qc_header.specs.Known.{IsKnown}
use Rattle.qc_header.specs.Piece.{Piece}
use Rattle.qc_header.specs.ReadBack.{FitsItsForm, IsWritable, token_place, number_place, protected_packet}
use Rattle.qc_header.proofs.ReadHeaders.{initial_piece}

-- ---- masks

-- a long header's high four bits are not masked, and a short one's high three
pub long_kind : (first m : ℕ) → 128 ≤ first → bit_xor first (first_changes first m) / 16 ≡ first / 16
long_kind first m long =
    let is_long : nat_lt first 128 ≡ false = grind (arith, nat_tests) in
    let low : m % 16 / 16 ≡ 0 = omega arith in
    rw (is_long, xor_shr first (m % 16) 4, low, xor_zero_r (first / 16)) refl

pub short_kind : (first m : ℕ) → first < 128 → bit_xor first (first_changes first m) / 32 ≡ first / 32
short_kind first m short =
    let is_short : nat_lt first 128 ≡ true = grind (arith, nat_tests) in
    let low : m % 32 / 32 ≡ 0 = omega arith in
    rw (is_short, xor_shr first (m % 32) 5, low, xor_zero_r (first / 32)) refl

-- the mask that a packet gets, and what it makes of the first byte and of the bytes from the number on
abbrev pub mask_at : (List ℕ → List ℕ) → ℕ → List ℕ → List ℕ
mask_at mask_of pn_offset packet = mask_of (sample_at pn_offset packet)

abbrev pub masked_first : ℕ → List ℕ → ℕ
masked_first first mask = bit_xor first (first_changes first (first_byte mask))

abbrev pub masked_rest : ℕ → List ℕ → List ℕ → List ℕ
masked_rest first mask z = mask_over z (take (first % 4 + 1) (drop 1 mask))

pub masked_parts : (mask_of : List ℕ → List ℕ) (q first : ℕ) (front z : List ℕ) → length front ≡ q
    → masked mask_of (suc q) (first ∷ (front ++ z))
    ≡ masked_first first (mask_at mask_of (suc q) (first ∷ (front ++ z))) ∷ (front ++ masked_rest first (mask_at mask_of (suc q) (first ∷ (front ++ z))) z)
unfolding masked masked_by
masked_parts mask_of q first front z size = rw (← size, take-append_seam front z, drop-append_seam front z) refl

-- ---- numbers

pub length-number_bytes : (number : PacketNumber) → length (number_bytes number) ≡ number_len number
unfolding number_bytes
length-number_bytes (U8 n) = refl
length-number_bytes (U16 n) = refl
length-number_bytes (U24 n) = refl
length-number_bytes (U32 n) = refl

-- ---- Initial packets

abbrev pub initial_front : InitialHeader → ℕ → List ℕ
initial_front h n = to_be_bytes w32 h.version ++ (id_field h.dst_cid ++ (id_field h.src_cid ++ (varint (length h.token) ++ (h.token ++ to_be_bytes w16 (0x4000 + n)))))

pub initial_shape : (h : InitialHeader) (n : ℕ) → header_spelling (written.Initial h) n ≡ (0xc0 + number_tag h.number) ∷ (initial_front h n ++ number_bytes h.number)
unfolding header_spelling initial_spelling long_start length_and_number
initial_shape h n = simp append_assoc

length-initial_spelling : (h : InitialHeader) (n : ℕ) → length (header_spelling (written.Initial h) n) ≡ suc (length (initial_front h n)) + number_len h.number
length-initial_spelling h n =
    omega (arith, ap length (initial_shape h n), length-append (initial_front h n) (number_bytes h.number), length-number_bytes h.number)

pub initial_place : (h : InitialHeader) (n : ℕ) → number_place (written.Initial h) n ≡ suc (length (initial_front h n))
initial_place h n = omega (arith, length-initial_spelling h n)

initial_whole : (h : InitialHeader) (n : ℕ) (payload : List ℕ) → header_spelling (written.Initial h) n ++ payload
    ≡ (0xc0 + number_tag h.number) ∷ (initial_front h n ++ (number_bytes h.number ++ payload))
initial_whole h n payload = rw (initial_shape h n, append_assoc (initial_front h n) (number_bytes h.number) payload) refl

-- the same bytes, with all that comes behind the Length field
initial_apart : (h : InitialHeader) (n : ℕ) (z rest : List ℕ) → (initial_front h n ++ z) ++ rest
    ≡ to_be_bytes w32 h.version ++ (id_field h.dst_cid ++ (id_field h.src_cid ++ (varint (length h.token) ++ (h.token ++ (to_be_bytes w16 (0x4000 + n) ++ (z ++ rest))))))
initial_apart h n z rest = simp append_assoc

length-initial_front : (h : InitialHeader) (n : ℕ) → length (initial_front h n) ≡ 6 + length h.dst_cid + length h.src_cid + length (varint (length h.token)) + length h.token + 2
length-initial_front h n =
    omega (
      arith,
      length-append h.dst_cid (id_field h.src_cid ++ (varint (length h.token) ++ (h.token ++ to_be_bytes w16 (0x4000 + n)))),
      length-append h.src_cid (varint (length h.token) ++ (h.token ++ to_be_bytes w16 (0x4000 + n))),
      length-append (varint (length h.token)) (h.token ++ to_be_bytes w16 (0x4000 + n)),
      length-append h.token (to_be_bytes w16 (0x4000 + n)),
    )

pub tag_small : (number : PacketNumber) → number_tag number < 4
tag_small (U8 n) = lit< tt
tag_small (U16 n) = lit< tt
tag_small (U24 n) = lit< tt
tag_small (U32 n) = lit< tt

pub version_some : (v : ℕ) → 0 < v → v == 0 ≡ false
version_some v some = grind (arith, nat_tests)

-- an Initial packet under a mask: its first byte and what comes from the number on
initial_packet : (mask_of : List ℕ → List ℕ) (h : InitialHeader) (n : ℕ) (payload : List ℕ)
    → (mask : List ℕ) × (protected_packet mask_of (written.Initial h) n payload
    ≡ masked_first (0xc0 + number_tag h.number) mask ∷ (initial_front h n ++ masked_rest (0xc0 + number_tag h.number) mask (number_bytes h.number ++ payload)))
initial_packet mask_of h n payload =
    let first = 0xc0 + number_tag h.number in
    let z = number_bytes h.number ++ payload in (
      mask_at mask_of (suc (length (initial_front h n))) (first ∷ (initial_front h n ++ z)),
      rw (initial_place h n, initial_whole h n payload) (masked_parts mask_of (length (initial_front h n)) first (initial_front h n) z refl),
    )

abbrev pub read_at : ProtectedHeader → ℕ → List ℕ → List ℕ → Result (Piece × List ℕ) PacketDecodeError
read_at header pn_offset bytes rest = Ok (record { header = header; pn_offset = pn_offset; bytes = bytes }, rest)

pub same_place : (header header' : ProtectedHeader) (pn_offset pn_offset' : ℕ) (bytes bytes' rest rest' : List ℕ)
    → header ≡ header' → pn_offset ≡ pn_offset' → bytes ≡ bytes' → rest ≡ rest'
    → read_at header pn_offset bytes rest ≡ read_at header' pn_offset' bytes' rest'
same_place header header' pn_offset pn_offset' bytes bytes' rest rest' a b c d = rw (a, b, c, d) refl

-- where a packet ends that another may follow
pub cut_front : (front rest datagram : List ℕ) (end : ℕ) → datagram ≡ front ++ rest → end ≡ length front → take end datagram ≡ front
cut_front front rest datagram end e size = rw (e, size) (take-append_seam front rest)

pub cut_rest : (front rest datagram : List ℕ) (end : ℕ) → datagram ≡ front ++ rest → end ≡ length front → drop end datagram ≡ rest
cut_rest front rest datagram end e size = rw (e, size) (drop-append_seam front rest)

same_token : (h : InitialHeader) (start start' : ℕ) → start ≡ start'
    → readable.Initial h.dst_cid h.src_cid start (length h.token) h.version ≡ readable.Initial h.dst_cid h.src_cid start' (length h.token) h.version
same_token h start start' e = rw e refl

-- a datagram that begins so is read
initial_found : (k n first : ℕ) (versions z rest : List ℕ) (grease : Bool) (h : InitialHeader) → first / 16 ≡ 12
    → IsWritable h.dst_cid h.src_cid h.number h.version → length h.token < 2 ^ 62 → IsKnown h.version versions → n < 2 ^ 14 → n ≡ length z
    → piece_at k versions grease ((first ∷ (initial_front h n ++ z)) ++ rest)
    ≡ Ok (
      record {
        header = readable.Initial h.dst_cid h.src_cid (token_place h) (length h.token) h.version;
        pn_offset = number_place (written.Initial h) n;
        bytes = first ∷ (initial_front h n ++ z);
      },
      rest,
    )
initial_found k n first versions z rest grease h kind writable token_fits known n_fits size =
    let w = z ++ rest in
    let found = initial_piece k first h.version n versions h.dst_cid h.src_cid h.token w grease kind writable.version
    (version_some h.version known.some) known.listed writable.dst writable.src token_fits n_fits (omega (arith, length-append z rest)) in
    let apart = initial_apart h n z rest in
    let datagram : List ℕ = first ∷ (to_be_bytes w32 h.version ++ (id_field h.dst_cid ++ (id_field h.src_cid ++ (varint (length h.token) ++ (h.token ++ (to_be_bytes w16 (0x4000 + n) ++ w)))))) in
    let all : length datagram ≡ suc (length (initial_front h n)) + length z + length rest =
    omega (arith, ap length apart, length-append (initial_front h n ++ z) rest, length-append (initial_front h n) z) in
    let front = length-initial_front h n in
    let behind = length-append z rest in
    let token : length datagram - length (h.token ++ (to_be_bytes w16 (0x4000 + n) ++ w)) ≡ token_place h =
    omega (arith, length-append h.token (to_be_bytes w16 (0x4000 + n) ++ w)) in
    let pn_offset : length datagram - length w ≡ number_place (written.Initial h) n = omega (arith, initial_place h n) in
    let end : length datagram - length w + n ≡ length (first ∷ (initial_front h n ++ z)) = omega (arith, length-append (initial_front h n) z) in
    let split : datagram ≡ (first ∷ (initial_front h n ++ z)) ++ rest = ap (λ (l : List ℕ). first ∷ l) (sym apart) in
    ap (λ (l : List ℕ). piece_at k versions grease (first ∷ l)) apart ∙ found
    ∙ same_place (readable.Initial h.dst_cid h.src_cid (length datagram - length (h.token ++ (to_be_bytes w16 (0x4000 + n) ++ w))) (length h.token) h.version)
    (readable.Initial h.dst_cid h.src_cid (token_place h) (length h.token) h.version)
    (length datagram - length w) (number_place (written.Initial h) n)
    (take (length datagram - length w + n) datagram) (first ∷ (initial_front h n ++ z)) (drop (length datagram - length w + n) datagram) rest
    (same_token h _ _ token) pn_offset
    (cut_front (first ∷ (initial_front h n ++ z)) rest datagram (length datagram - length w + n) split end)
    (cut_rest (first ∷ (initial_front h n ++ z)) rest datagram (length datagram - length w + n) split end)

initial_kind : (number : PacketNumber) (mask : List ℕ) → masked_first (0xc0 + number_tag number) mask / 16 ≡ 12
initial_kind number mask =
    let tag = tag_small number in
    let kind : (0xc0 + number_tag number) / 16 ≡ 12 = omega arith in
    long_kind (0xc0 + number_tag number) (first_byte mask) (omega arith) ∙ kind

pub behind_number : (number : PacketNumber) (payload : List ℕ) (first : ℕ) (mask : List ℕ)
    → number_len number + length payload ≡ length (masked_rest first mask (number_bytes number ++ payload))
behind_number number payload first mask =
    omega (
      arith,
      length-mask_over (number_bytes number ++ payload) (take (first % 4 + 1) (drop 1 mask)),
      length-append (number_bytes number) payload,
      length-number_bytes number,
    )

pub initial_is_read : (mask_of : List ℕ → List ℕ) (k n : ℕ) (versions : List ℕ) (grease : Bool) (h : InitialHeader) (payload rest : List ℕ)
    → IsWritable h.dst_cid h.src_cid h.number h.version → length h.token < 2 ^ 62 → IsKnown h.version versions
    → n < 2 ^ 14 → n ≡ number_len h.number + length payload
    → piece_at k versions grease (protected_packet mask_of (written.Initial h) n payload ++ rest)
    ≡ Ok (
      record {
        header = readable.Initial h.dst_cid h.src_cid (token_place h) (length h.token) h.version;
        pn_offset = number_place (written.Initial h) n;
        bytes = protected_packet mask_of (written.Initial h) n payload;
      },
      rest,
    )
initial_is_read mask_of k n versions grease h payload rest writable token_fits known n_fits size =
    let packet = initial_packet mask_of h n payload in
    let first = masked_first (0xc0 + number_tag h.number) packet.0 in
    let z = masked_rest (0xc0 + number_tag h.number) packet.0 (number_bytes h.number ++ payload) in
    rw packet.1
    (initial_found k n first versions z rest grease h (initial_kind h.number packet.0) writable token_fits known n_fits
    (size ∙ behind_number h.number payload (0xc0 + number_tag h.number) packet.0))

-- ---- what was written comes back

pub number_back : (number : PacketNumber) → FitsItsForm number → number_from (number_bytes number) ≡ number
unfolding number_bytes
number_back (U8 n) fits = ap U8 (mod-eq_of_lt fits)
number_back (U16 n) fits = let e : 256 * (n / 256 % 256) + n % 256 ≡ n = omega arith in ap U16 e
number_back (U24 n) fits = let e : 65536 * (n / 65536 % 256) + 256 * (n / 256 % 256) + n % 256 ≡ n = omega arith in ap U24 e
number_back (U32 n) fits = let e : 16777216 * (n / 16777216 % 256) + 65536 * (n / 65536 % 256) + 256 * (n / 256 % 256) + n % 256 ≡ n = omega arith in ap U32 e

initial_token : (h : InitialHeader) (n : ℕ) → take (length h.token) (drop (token_place h) (header_spelling (written.Initial h) n)) ≡ h.token
initial_token h n =
    let before : List ℕ = (0xc0 + number_tag h.number) ∷ (to_be_bytes w32 h.version ++ (id_field h.dst_cid ++ (id_field h.src_cid ++ varint (length h.token)))) in
    let behind : List ℕ = to_be_bytes w16 (0x4000 + n) ++ number_bytes h.number in
    let shape : header_spelling (written.Initial h) n ≡ before ++ (h.token ++ behind) = initial_shape h n ∙ simp append_assoc in
    let pn_offset : token_place h ≡ length before =
    omega (arith, length-append h.dst_cid (id_field h.src_cid ++ varint (length h.token)), length-append h.src_cid (varint (length h.token))) in
    rw (shape, pn_offset, drop-append_seam before (h.token ++ behind), take-append_seam h.token behind) refl

initial_number : (h : InitialHeader) (n : ℕ) → drop (number_place (written.Initial h) n) (header_spelling (written.Initial h) n) ≡ number_bytes h.number
initial_number h n =
    let before : List ℕ = (0xc0 + number_tag h.number) ∷ initial_front h n in
    let shape : header_spelling (written.Initial h) n ≡ before ++ number_bytes h.number = initial_shape h n in
    let pn_offset : number_place (written.Initial h) n ≡ length before = initial_place h n in
    rw (pn_offset, shape, drop-append_seam before (number_bytes h.number)) refl

pub initial_comes_back : (h : InitialHeader) (n : ℕ) → FitsItsForm h.number
    → header_from (readable.Initial h.dst_cid h.src_cid (token_place h) (length h.token) h.version) (number_place (written.Initial h) n) (header_spelling (written.Initial h) n)
    ≡ written.Initial h
initial_comes_back h n fits =
    let token = initial_token h n in
    let number = ap number_from (initial_number h n) ∙ number_back h.number fits in
    ap written.Initial (rw (token, number) refl)

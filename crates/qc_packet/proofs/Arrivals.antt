-- A packet that was sealed comes back to its receiver.
use Rattle.std.proofs.Common.{◌≡◌, ℕ, ◌+◌, ◌/◌, ◌%◌, ◌<◌, ◌≤◌, ◌^◌, Bool, true, false, List, [], length, refl, ap, ◌∙◌, arith, ◌⊎◌, inl, inr, min, Option, Some, None, zero, suc, ◌-◌, ◌∷◌, ◌++◌, sym, subst, length-append, Result, Ok}
use Rattle.std.proofs.lemmas.Bool.Decides.{nat_tests}
use Rattle.qc_base.specs.Mask.{first_byte, masked}
use Rattle.qc_base.specs.PacketNumber.{number_window, number_low, IsNearest, IsInWindow}
use Rattle.qc_base.specs.Spelling.{bit}
use Rattle.qc_base.specs.Time.{plus}
use Rattle.qc_base.specs.declared.packet_number.PacketNumber.{PacketNumber}
use Rattle.qc_base.specs.declared.packet_number.PacketNumber.TheVariants.{U8, U16, U24, U32}
use Rattle.qc_base.specs.declared.side.LongType.TheVariants.{Handshake, ZeroRtt}
use Rattle.qc_base.proofs.Windows.{nearest_by}
use Rattle.qc_crypto.specs.Mates.{Sealing, Opening, OpensItsPackets}
use Rattle.qc_header.specs.declared.finish.Packet.{Packet}
use Rattle.qc_header.specs.declared.header.Header.{Header}
use Rattle.qc_header.specs.declared.header.Header.TheVariants.{Initial, Long, Retry, Short, VersionNegotiate}
use Rattle.qc_header.specs.HeaderSpelling.{header_spelling, header_number, initial_spelling, short_spelling, long_start, number_tag, length_and_number}
use Rattle.qc_header.specs.Piece.{Piece, is_protected}
use Rattle.qc_header.specs.Unprotected.{IsCut, header_from}
use Rattle.qc_header.specs.RoundTrip.{IsCounted, ComesBack, packet_of, readable_of, sent_piece}
use Rattle.qc_header.proofs.RoundTrips.{header_is_read}
use Rattle.std.specs.Option.{option_copied}
use Rattle.qc_packet.specs.declared.decrypt.OpenKeys.{OpenKeys}
use Rattle.qc_packet.specs.Arrival.{CanArrive, sealed_piece, IsSealed, Arrives, IsInReach, HasKey, arrival_answer, SealedAs, bytes_as, coalesced, AllCanArrive, pieces_as}
use Rattle.qc_packet.specs.Building.{is_short, pn_len}
use Rattle.qc_packet.specs.OpenedPacket.{IsNumberOf, key_named, reserved_bits, opening_answer, opened_by, opened_payload}
use Rattle.qc_packet.specs.PacketSpelling.{header_bytes, protected_len, sealed_packet, len_of, with_flip}
use Rattle.qc_packet.specs.Unprotected.{is_cut, IsUnprotected}
use Rattle.qc_rings.specs.Keyed.{Keyed}
use Rattle.qc_packet.proofs.Finishes.{tag_small, bit_small}
use Rattle.qc_header.specs.ReadBack.{Finishes, number_place, token_place}
use Rattle.qc_header.specs.HeaderReading.{piece_at}
use Rattle.qc_header.specs.HeaderGrammar.{DatagramItem}
use Rattle.qc_header.specs.Pieces.{pieces_and, pieces_within, pieces_of}
use Rattle.qc_header.specs.declared.protected.PacketDecodeError.{PacketDecodeError}
use Rattle.qc_header.proofs.FrontPiece.{piece_ends}
use Rattle.qc_header.proofs.WrittenHeaders.{length-number_bytes}
use Rattle.qc_packet.proofs.Greased.{flipped, flipped_piece, same_phase, drop_flips, append_flips, append_first, mask_flips, masked_stays, reads_flipped, FinishesFlipped, finishes_flipped}

-- the Length field that was written counts number and sealed payload
counted : (h : Header) (sealed plain rest : List ℕ) → length sealed ≡ length plain + 16 → 1 ≤ pn_len h → 20 ≤ protected_len h plain
    → (is_short h ≡ false → protected_len h plain < 2 ^ 14) → (is_short h ≡ true → rest ≡ []) → IsCounted h (protected_len h plain) sealed rest
counted (Initial h) sealed plain rest size some sample field last = (omega arith, sample, field refl)
counted (Long ty dst_cid src_cid number version) sealed plain rest size some sample field last = (omega arith, sample, field refl)
counted (Short spin key_phase dst_cid number) sealed plain rest size some sample field last = (omega arith, last refl)
counted (Retry dst_cid src_cid version) sealed plain rest size some sample field last = absurd (omega arith)
counted (VersionNegotiate random src_cid dst_cid) sealed plain rest size some sample field last = absurd (omega arith)

-- the two spellings of a packet are one, whatever payload is behind its header
same_spelling : (mask : List ℕ → List ℕ) (h : Header) (plain sealed : List ℕ) → 1 ≤ pn_len h
    → masked mask (length (header_bytes h plain) - len_of (header_number h)) (header_bytes h plain ++ sealed) ≡ packet_of mask h (protected_len h plain) sealed
same_spelling mask (Initial h) plain sealed some = refl
same_spelling mask (Long ty dst_cid src_cid low version) plain sealed some = refl
same_spelling mask (Short spin key_phase dst_cid low) plain sealed some = refl
same_spelling mask (Retry dst_cid src_cid version) plain sealed some = absurd (omega arith)
same_spelling mask (VersionNegotiate random src_cid dst_cid) plain sealed some = absurd (omega arith)

same_place : (h : Header) (plain : List ℕ) → 1 ≤ pn_len h → number_place h (protected_len h plain) ≡ length (header_bytes h plain) - len_of (header_number h)
same_place (Initial h) plain some = refl
same_place (Long ty dst_cid src_cid low version) plain some = refl
same_place (Short spin key_phase dst_cid low) plain some = refl
same_place (Retry dst_cid src_cid version) plain some = absurd (omega arith)
same_place (VersionNegotiate random src_cid dst_cid) plain some = absurd (omega arith)

-- a packet that is not too short isn't told as cut
not_cut : (p : Piece) → (IsCut p → ⊥) → is_cut p ≡ false
not_cut p whole = elim (is_protected p.header) as (λ b. is_protected p.header ≡ b → is_cut p ≡ false) [
  | false ↦ λ e. rw e refl
  | true ↦ λ e. grind (arith, nat_tests, e, whole)
] refl

plain_arrives : (mask : List ℕ → List ℕ) (seal : Sealing) (k : ℕ) (versions : List ℕ) (grease : Bool) (h : Header) (number : ℕ) (plain rest : List ℕ)
    → length (seal number (header_bytes h plain) plain) ≡ length plain + 16 → CanArrive k versions grease false h plain rest → Arrives mask seal k versions grease false h number plain rest
unfolding sealed_packet
plain_arrives mask seal k versions grease h number plain rest size can =
    let sealed : List ℕ = seal number (header_bytes h plain) plain in
    let same : sealed_piece mask seal false h number plain ≡ sent_piece mask h (protected_len h plain) sealed =
    ap (λ (bytes : List ℕ). record { header = readable_of h; pn_offset = number_place h (protected_len h plain); bytes = bytes }) (same_spelling mask h plain sealed can.numbered) in
    let back : ComesBack mask k (protected_len h plain) versions grease h sealed rest =
    header_is_read mask k (protected_len h plain) versions grease h sealed rest can.readable (counted h sealed plain rest size can.numbered can.sample can.length_field can.last) in
    let fin : Finishes mask (sealed_piece mask seal false h number plain) h (header_bytes h plain) sealed = subst (λ (x : Piece). Finishes mask x h (header_bytes h plain) sealed) (sym same) back.finishes in
    record {
      read = rw (same_spelling mask h plain sealed can.numbered) back.read;
      whole = not_cut (sealed_piece mask seal false h number plain) fin.whole;
      unprotected = λ p is. record {
        header = is.header ∙ ap (λ (bytes : List ℕ). header_from (readable_of h) (number_place h (protected_len h plain)) bytes) (is.header_data ∙ fin.header_data) ∙ fin.header;
        header_data = is.header_data ∙ fin.header_data;
        payload = is.payload ∙ fin.payload;
      };
    }

-- ---- with its fixed bit flipped

fixed_set : (h : Header) (n : ℕ) → 1 ≤ pn_len h → first_byte (header_spelling h n) / 64 % 2 ≡ 1
unfolding header_spelling initial_spelling short_spelling long_start
fixed_set (Initial h) n some = omega (arith, tag_small h.number)
fixed_set (Long ZeroRtt dst_cid src_cid low version) n some = omega (arith, tag_small low)
fixed_set (Long Handshake dst_cid src_cid low version) n some = omega (arith, tag_small low)
fixed_set (Short spin key_phase dst_cid low) n some = omega (arith, tag_small low, bit_small spin 32, bit_small key_phase 4)
fixed_set (Retry dst_cid src_cid version) n some = absurd (omega arith)
fixed_set (VersionNegotiate random src_cid dst_cid) n some = absurd (omega arith)

protected_form : (h : Header) → 1 ≤ pn_len h → is_protected (readable_of h) ≡ true
protected_form (Initial h) some = refl
protected_form (Long ZeroRtt dst_cid src_cid low version) some = refl
protected_form (Long Handshake dst_cid src_cid low version) some = refl
protected_form (Short spin key_phase dst_cid low) some = refl
protected_form (Retry dst_cid src_cid version) some = absurd (omega arith)
protected_form (VersionNegotiate random src_cid dst_cid) some = absurd (omega arith)

number_behind : (h : Header) (n : ℕ) → 1 ≤ pn_len h → 1 ≤ length (header_spelling h n) - len_of (header_number h)
unfolding header_spelling initial_spelling short_spelling long_start length_and_number
number_behind (Initial h) n some = simp length-append (omega (arith, length-number_bytes h.number))
number_behind (Long ty dst_cid src_cid low version) n some = simp length-append (omega (arith, length-number_bytes low))
number_behind (Short spin key_phase dst_cid low) n some = simp length-append (omega (arith, length-number_bytes low))
number_behind (Retry dst_cid src_cid version) n some = absurd (omega arith)
number_behind (VersionNegotiate random src_cid dst_cid) n some = absurd (omega arith)

-- the fixed bit tells nothing of a header whose form is known
same_header : (h : Header) (pn : ℕ) (bytes : List ℕ) → 1 ≤ pn → first_byte bytes / 64 % 2 ≡ 1 → header_from (readable_of h) pn (flipped bytes) ≡ header_from (readable_of h) pn bytes
same_header (Initial h) pn bytes some f = rw (drop_flips pn bytes some, drop_flips (token_place h) bytes (omega arith)) refl
same_header (Long ty dst_cid src_cid low version) pn bytes some f = rw (drop_flips pn bytes some) refl
same_header (Short spin key_phase dst_cid low) pn bytes some f = rw (drop_flips pn bytes some, same_phase (first_byte bytes) f) refl
same_header (Retry dst_cid src_cid version) pn bytes some f = refl
same_header (VersionNegotiate random src_cid dst_cid) pn bytes some f = refl

flipped_arrives : (mask : List ℕ → List ℕ) (seal : Sealing) (k : ℕ) (versions : List ℕ) (h : Header) (number : ℕ) (plain rest : List ℕ)
    → length (seal number (flipped (header_bytes h plain)) plain) ≡ length plain + 16 → CanArrive k versions true true h plain rest → Arrives mask seal k versions true true h number plain rest
unfolding sealed_packet
flipped_arrives mask seal k versions h number plain rest size can =
    let hb : List ℕ = header_bytes h plain in
    let sealed : List ℕ = seal number (flipped hb) plain in
    let sent : Piece = sent_piece mask h (protected_len h plain) sealed in
    let pn : ℕ = length hb - len_of (header_number h) in
    let behind : 1 ≤ pn = number_behind h (protected_len h plain) can.numbered in
    let fixed : first_byte hb / 64 % 2 ≡ 1 = fixed_set h (protected_len h plain) can.numbered in
    let before : first_byte (hb ++ sealed) / 64 % 2 ≡ 1 = append_first hb sealed fixed in
    let spelled : masked mask pn (hb ++ sealed) ≡ sent.bytes = same_spelling mask h plain sealed can.numbered in
    let bytes : sealed_packet mask seal true h number plain ≡ flipped sent.bytes =
    ap (λ (x : List ℕ). masked mask pn x) (append_flips hb sealed fixed) ∙ mask_flips mask pn (hb ++ sealed) behind before ∙ ap (λ (x : List ℕ). flipped x) spelled in
    let first : first_byte sent.bytes / 64 % 2 ≡ 1 = subst (λ (x : List ℕ). first_byte x / 64 % 2 ≡ 1) spelled (masked_stays mask pn (hb ++ sealed) behind before) in
    let same : sealed_piece mask seal true h number plain ≡ flipped_piece sent = ap (λ (x : List ℕ). record { header = readable_of h; pn_offset = number_place h (protected_len h plain); bytes = x }) bytes in
    let place : 1 ≤ number_place h (protected_len h plain) = rw (same_place h plain can.numbered) behind in
    let back : ComesBack mask k (protected_len h plain) versions true h sealed rest =
    header_is_read mask k (protected_len h plain) versions true h sealed rest can.readable (counted h sealed plain rest size can.numbered can.sample can.length_field can.last) in
    let fin : FinishesFlipped mask sent hb sealed = finishes_flipped mask sent h hb sealed place (protected_form h can.numbered) first back.finishes in
    let read : piece_at k versions true (flipped sent.bytes ++ rest) ≡ Ok (flipped_piece sent, rest) =
    rw (append_flips sent.bytes rest first) (reads_flipped k versions (sent.bytes ++ rest) sent rest (append_first sent.bytes rest first) (protected_form h can.numbered) back.read) in
    record {
      read = ap (λ (x : List ℕ). piece_at k versions true (x ++ rest)) bytes ∙ read ∙ ap (λ (x : Piece). Ok (x, rest)) (sym same);
      whole = ap (λ (x : Piece). is_cut x) same ∙ not_cut (flipped_piece sent) fin.whole;
      unprotected = λ p is0.
          let is : IsUnprotected mask (flipped_piece sent) p = subst (λ (x : Piece). IsUnprotected mask x p) same is0 in
          record {
            header = is.header ∙ ap (λ (x : List ℕ). header_from (readable_of h) (number_place h (protected_len h plain)) x) (is.header_data ∙ fin.header_data) ∙ same_header h (number_place h (protected_len h plain)) hb place fixed ∙ back.finishes.header;
            header_data = is.header_data ∙ fin.header_data;
            payload = is.payload ∙ fin.payload;
          };
    }

pub arrives : (mask : List ℕ → List ℕ) (seal : Sealing) (k : ℕ) (versions : List ℕ) (grease flip : Bool) (h : Header) (number : ℕ) (plain rest : List ℕ)
    → ((header : List ℕ) → length (seal number header plain) ≡ length plain + 16) → CanArrive k versions grease flip h plain rest → Arrives mask seal k versions grease flip h number plain rest
arrives mask seal k versions grease false h number plain rest size can = plain_arrives mask seal k versions grease h number plain rest (size (header_bytes h plain)) can
arrives mask seal k versions grease true h number plain rest size can =
    let greased : grease ≡ true = can.greased refl in
    let can' : CanArrive k versions true true h plain rest = subst (λ (g : Bool). CanArrive k versions g true h plain rest) greased can in
    subst (λ (g : Bool). Arrives mask seal k versions g true h number plain rest) (sym greased) (flipped_arrives mask seal k versions h number plain rest (size (flipped (header_bytes h plain))) can')

-- ---- with others in its datagram

longer : (mask : List ℕ → List ℕ) (seal : Sealing) (k : ℕ) (versions : List ℕ) (grease flip : Bool) (h : Header) (number : ℕ) (plain rest : List ℕ) → Arrives mask seal k versions grease flip h number plain rest
    → length rest < length (sealed_packet mask seal flip h number plain ++ rest)
longer mask seal k versions grease flip h number plain rest a =
    (piece_ends k versions grease (sealed_packet mask seal flip h number plain ++ rest) (sealed_piece mask seal flip h number plain) rest a.read).1

next_piece : (most k : ℕ) (versions : List ℕ) (grease : Bool) (bytes rest : List ℕ) (p : Piece) → piece_at k versions grease bytes ≡ Ok (p, rest) → length rest < length bytes → length bytes ≤ suc most
    → (length rest ≤ most) × (pieces_within (suc most) k versions grease bytes ≡ Ok p ∷ pieces_within most k versions grease rest)
next_piece most k versions grease [] rest p e less few = absurd (omega arith)
next_piece most k versions grease (b ∷ bytes) rest p e less few =
    (omega arith, ap (λ (r : Result (Piece × List ℕ) PacketDecodeError). pieces_and r (pieces_within most k versions grease)) e)

none_within : (most k : ℕ) (versions : List ℕ) (grease : Bool) → pieces_within most k versions grease [] ≡ []
none_within zero k versions grease = refl
none_within (suc most) k versions grease = refl

cut_within : {P : Type 0} (seal : P → Sealing) (k : ℕ) (versions : List ℕ) (grease : Bool) (ss : List (SealedAs P)) (most : ℕ)
    → ((key : P) (number : ℕ) (header plain : List ℕ) → length (seal key number header plain) ≡ length plain + 16)
    → AllCanArrive seal k versions grease ss → length (coalesced seal ss) ≤ most → pieces_within most k versions grease (coalesced seal ss) ≡ pieces_as seal ss
cut_within seal k versions grease [] most size can few = none_within most k versions grease
cut_within {P} seal k versions grease (s ∷ ss) zero size can few =
    let a : Arrives s.mask (seal s.sealer) k versions grease s.flip s.header s.number s.plain (coalesced seal ss) = arrives s.mask (seal s.sealer) k versions grease s.flip s.header s.number s.plain (coalesced seal ss) (λ header. size s.sealer s.number header s.plain) can.0 in
    absurd (omega (arith, longer s.mask (seal s.sealer) k versions grease s.flip s.header s.number s.plain (coalesced seal ss) a))
cut_within {P} seal k versions grease (s ∷ ss) (suc most) size can few =
    let a : Arrives s.mask (seal s.sealer) k versions grease s.flip s.header s.number s.plain (coalesced seal ss) = arrives s.mask (seal s.sealer) k versions grease s.flip s.header s.number s.plain (coalesced seal ss) (λ header. size s.sealer s.number header s.plain) can.0 in
    let n = next_piece most k versions grease (bytes_as seal s ++ coalesced seal ss) (coalesced seal ss) (sealed_piece s.mask (seal s.sealer) s.flip s.header s.number s.plain) a.read
    (longer s.mask (seal s.sealer) k versions grease s.flip s.header s.number s.plain (coalesced seal ss) a) few in
    n.1 ∙ ap (λ (x : List DatagramItem). Ok (sealed_piece s.mask (seal s.sealer) s.flip s.header s.number s.plain) ∷ x) (cut_within seal k versions grease ss most size can.1 n.0)

-- a datagram of packets is cut into these
pub cut_back : {P : Type 0} (seal : P → Sealing) (k : ℕ) (versions : List ℕ) (grease : Bool) (ss : List (SealedAs P))
    → ((key : P) (number : ℕ) (header plain : List ℕ) → length (seal key number header plain) ≡ length plain + 16)
    → AllCanArrive seal k versions grease ss → pieces_of k versions grease (coalesced seal ss) ≡ pieces_as seal ss
unfolding pieces_of
cut_back {P} seal k versions grease ss size can = cut_within seal k versions grease ss (length (coalesced seal ss)) size can (omega arith)

-- ---- its number

window_some : (number : PacketNumber) → 0 < number_window number
window_some (U8 n) = omega arith
window_some (U16 n) = omega arith
window_some (U24 n) = omega arith
window_some (U32 n) = omega arith

-- a number within half a window of the expected one is the nearest with its low bytes
near_enough : (w low expected n : ℕ) → 0 < w → n % w ≡ low → n < 2 ^ 62 → IsInWindow w expected n → IsNearest w low expected n
near_enough w low expected n some same small within =
    nearest_by w low expected (min expected 4611686018427387903) n refl some same small (inl (omega arith)) (inl (omega arith))

pub number_arrives : (low : Option PacketNumber) (rx number : ℕ) → IsInReach low rx number → IsNumberOf low rx number
number_arrives None rx number reach = reach
number_arrives (Some low) rx number reach = near_enough (number_window low) (number_low low) (plus rx 1) number (window_some low) reach.0 reach.1 reach.2

-- ---- its payload

payload_opens : (seal : Sealing) (opening : Opening) (flip : Bool) (h : Header) (number : ℕ) (plain : List ℕ) (p : Packet) → OpensItsPackets seal opening → IsSealed seal flip h number plain p
    → opening number p.header_data p.payload.items ≡ Some plain
payload_opens seal opening flip h number plain p mates is = rw (is.header_data, is.payload) (mates.same number (with_flip flip (header_bytes h plain)) plain)

by_named : {P : Type 0} (opening : P → Opening) (key : P) (named : Option P) (number : ℕ) (header sealed plain : List ℕ) → named ≡ Some key
    → opening key number header sealed ≡ Some plain → opened_by opening named number header sealed ≡ Some plain
unfolding opened_by
by_named opening key named number header sealed plain is opens = rw is opens

pub opened_as : {P : Type 0} (opening : P → Opening) (opener : P) (seal : Sealing) (flip : Bool) (h : Header) (number : ℕ) (plain : List ℕ) (p : Packet) (keys : OpenKeys P)
    → OpensItsPackets seal (opening opener) → IsSealed seal flip h number plain p → HasKey keys h number opener → opened_payload opening p keys number ≡ Some plain
opened_as opening opener seal flip h number plain p keys mates is has =
    by_named opening opener (key_named p.header (option_copied keys.plain) (option_copied keys.early) (option_copied keys.ring) number) number p.header_data p.payload.items plain
    (rw is.header has) (payload_opens seal (opening opener) flip h number plain p mates is)

-- ---- what is answered

bit_of : (b : Bool) (n : ℕ) → (bit b n ≡ 0) ⊎ (bit b n ≡ n)
bit_of true n = inr refl
bit_of false n = inl refl

short_reserved : (s k t : ℕ) → t < 4 → (s ≡ 0) ⊎ (s ≡ 32) → (k ≡ 0) ⊎ (k ≡ 4) → (64 + s + k + t) / 8 % 4 ≡ 0
short_reserved s k t small (inl a) (inl b) = omega arith
short_reserved s k t small (inl a) (inr b) = omega arith
short_reserved s k t small (inr a) (inl b) = omega arith
short_reserved s k t small (inr a) (inr b) = omega arith

short_unset : (s k t : ℕ) → t < 4 → (s ≡ 0) ⊎ (s ≡ 32) → (k ≡ 0) ⊎ (k ≡ 4) → (64 + s + k + t - 64) / 8 % 4 ≡ 0
short_unset s k t small (inl a) (inl b) = omega arith
short_unset s k t small (inl a) (inr b) = omega arith
short_unset s k t small (inr a) (inl b) = omega arith
short_unset s k t small (inr a) (inr b) = omega arith

-- a header of a form with a number is written without reserved bits
none_reserved : (h : Header) (n rx number : ℕ) → IsNumberOf (header_number h) rx number → reserved_bits h (first_byte (header_spelling h n)) ≡ 0
unfolding header_spelling initial_spelling short_spelling long_start
none_reserved (Initial h) n rx number is = omega (arith, tag_small h.number)
none_reserved (Long ZeroRtt dst_cid src_cid low version) n rx number is = omega (arith, tag_small low)
none_reserved (Long Handshake dst_cid src_cid low version) n rx number is = omega (arith, tag_small low)
none_reserved (Short spin key_phase dst_cid low) n rx number is = short_reserved (bit spin 32) (bit key_phase 4) (number_tag low) (tag_small low) (bit_of spin 32) (bit_of key_phase 4)
none_reserved (Retry dst_cid src_cid version) n rx number is = absurd is
none_reserved (VersionNegotiate random src_cid dst_cid) n rx number is = absurd is

answered : {P : Type 0} (h : Header) (first : ℕ) (ring : Option (Keyed P)) (rx number : ℕ) → reserved_bits h first ≡ 0 → opening_answer h first ring rx number true ≡ arrival_answer h ring rx number
unfolding opening_answer
answered h first ring rx number none = rw none refl

flip_reserves : (flip : Bool) (h : Header) (n rx number : ℕ) → IsNumberOf (header_number h) rx number → reserved_bits h (first_byte (with_flip flip (header_spelling h n))) ≡ 0
unfolding header_spelling initial_spelling short_spelling long_start
flip_reserves false h n rx number is = none_reserved h n rx number is
flip_reserves true (Initial h) n rx number is = omega (arith, tag_small h.number)
flip_reserves true (Long ZeroRtt dst_cid src_cid low version) n rx number is = omega (arith, tag_small low)
flip_reserves true (Long Handshake dst_cid src_cid low version) n rx number is = omega (arith, tag_small low)
flip_reserves true (Short spin key_phase dst_cid low) n rx number is = short_unset (bit spin 32) (bit key_phase 4) (number_tag low) (tag_small low) (bit_of spin 32) (bit_of key_phase 4)
flip_reserves true (Retry dst_cid src_cid version) n rx number is = absurd is
flip_reserves true (VersionNegotiate random src_cid dst_cid) n rx number is = absurd is

pub is_taken : {P : Type 0} (seal : Sealing) (flip : Bool) (h : Header) (number rx : ℕ) (plain : List ℕ) (p : Packet) (ring : Option (Keyed P)) → IsNumberOf (header_number h) rx number
    → IsSealed seal flip h number plain p → opening_answer p.header (first_byte p.header_data) ring rx number true ≡ arrival_answer h ring rx number
is_taken seal flip h number rx plain p ring told is =
    rw (is.header, is.header_data) (answered h (first_byte (with_flip flip (header_bytes h plain))) ring rx number (flip_reserves flip h (protected_len h plain) rx number told))

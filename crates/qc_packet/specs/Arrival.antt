-- What a receiver makes of a packet that was sealed (RFC 9001, sections 5.3 to 5.5).
use Rattle.std.specs.Prelude.{◌≡◌, ℕ, ◌%◌, ◌<◌, ◌≤◌, ◌^◌, Bool, true, false, List, [], ◌∷◌, ◌++◌, Option, Some, None, Result, Ok, Err, if◌then◌else◌}
use Rattle.std.specs.Option.{option_copied}
use Rattle.qc_base.specs.Time.{plus}
use Rattle.qc_base.specs.PacketNumber.{number_window, number_low, IsInWindow}
use Rattle.qc_base.specs.declared.packet_number.PacketNumber.{PacketNumber}
use Rattle.qc_crypto.specs.Mates.{Sealing}
use Rattle.qc_header.specs.declared.finish.Packet.{Packet}
use Rattle.qc_header.specs.declared.header.Header.{Header}
use Rattle.qc_header.specs.HeaderReading.{piece_at}
use Rattle.qc_header.specs.Piece.{Piece}
use Rattle.qc_header.specs.HeaderGrammar.{DatagramItem}
use Rattle.qc_header.specs.ReadBack.{number_place}
use Rattle.qc_header.specs.RoundTrip.{IsReadable, readable_of}
use Rattle.qc_packet.specs.declared.decrypt.DecryptPacketResult.{DecryptPacketResult}
use Rattle.qc_packet.specs.declared.decrypt.OpenError.{OpenError}
use Rattle.qc_packet.specs.declared.decrypt.OpenError.TheVariants.{KeyUpdate}
use Rattle.qc_packet.specs.declared.decrypt.OpenKeys.{OpenKeys}
use Rattle.qc_packet.specs.Building.{is_short, pn_len}
use Rattle.qc_packet.specs.OpenedPacket.{key_named, which_in, is_bad_update, result_of}
use Rattle.qc_packet.specs.PacketSpelling.{header_bytes, protected_len, sealed_packet, with_flip}
use Rattle.qc_packet.specs.Unprotected.{is_cut, IsUnprotected}
use Rattle.qc_rings.specs.Keyed.{Keyed}

-- A packet with this header and plain payload, and these bytes behind it, can be told apart by a receiver: its fixed
-- bit is flipped only for one that takes it so; the header is one that it reads and has a number; number and payload
-- have enough bytes for a sample; a Length field has room for them; and a short header is the last of its datagram.
pub record CanArrive (local_cid_len : ℕ) (versions : List ℕ) (grease_quic_bit flip : Bool) (h : Header) (plain rest : List ℕ) : Type 0 where
  pub greased : flip ≡ true → grease_quic_bit ≡ true
  pub readable : IsReadable local_cid_len versions grease_quic_bit h
  pub numbered : 1 ≤ pn_len h
  pub sample : 20 ≤ protected_len h plain
  pub length_field : is_short h ≡ false → protected_len h plain < 2 ^ 14
  pub last : is_short h ≡ true → rest ≡ []

-- the first piece of a datagram that begins with the packet
abbrev pub sealed_piece : (List ℕ → List ℕ) → Sealing → Bool → Header → ℕ → List ℕ → Piece
sealed_piece mask seal flip h number plain = record {
  header = readable_of h;
  pn_offset = number_place h (protected_len h plain);
  bytes = sealed_packet mask seal flip h number plain;
}

-- a packet without header protection that is the one sealed with this header, number and plain payload
pub record IsSealed (seal : Sealing) (flip : Bool) (h : Header) (number : ℕ) (plain : List ℕ) (p : Packet) : Type 0 where
  pub header : p.header ≡ h
  pub header_data : p.header_data ≡ with_flip flip (header_bytes h plain)
  pub payload : p.payload.items ≡ seal number (with_flip flip (header_bytes h plain)) plain

-- the packet is read at the front of its datagram, is not too short for a sample, and is itself once its mask is off
pub record Arrives (mask : List ℕ → List ℕ) (seal : Sealing) (local_cid_len : ℕ) (versions : List ℕ) (grease_quic_bit flip : Bool) (h : Header) (number : ℕ) (plain rest : List ℕ) : Type 0 where
  pub read : piece_at local_cid_len versions grease_quic_bit (sealed_packet mask seal flip h number plain ++ rest) ≡ Ok (sealed_piece mask seal flip h number plain, rest)
  pub whole : is_cut (sealed_piece mask seal flip h number plain) ≡ false
  pub unprotected : (p : Packet) → IsUnprotected mask (sealed_piece mask seal flip h number plain) p → IsSealed seal flip h number plain p

-- a packet as its sealer has it: the mask of its header key, its packet key, whether its fixed bit is flipped, its header,
-- number and plain payload
pub record SealedAs (P : Type 0) : Type 0 where
  pub mask : List ℕ → List ℕ
  pub sealer : P
  pub flip : Bool
  pub header : Header
  pub number : ℕ
  pub plain : List ℕ

-- its bytes
abbrev pub bytes_as : {P : Type 0} → (P → Sealing) → SealedAs P → List ℕ
bytes_as seal s = sealed_packet s.mask (seal s.sealer) s.flip s.header s.number s.plain

-- the bytes of a datagram of packets, nothing between or behind them (RFC 9000, section 12.2)
abbrev pub coalesced : {P : Type 0} → (P → Sealing) → List (SealedAs P) → List ℕ
coalesced seal [] = []
coalesced seal (s ∷ ss) = bytes_as seal s ++ coalesced seal ss

-- each packet of a datagram can be told apart, with the packets behind it
abbrev pub AllCanArrive : {P : Type 0} → (P → Sealing) → ℕ → List ℕ → Bool → List (SealedAs P) → Type 0
AllCanArrive seal local_cid_len versions grease_quic_bit [] = Unit {0}
AllCanArrive seal local_cid_len versions grease_quic_bit (s ∷ ss) =
    CanArrive local_cid_len versions grease_quic_bit s.flip s.header s.plain (coalesced seal ss) × AllCanArrive seal local_cid_len versions grease_quic_bit ss

-- what a receiver finds in the datagram: the pieces of its packets
abbrev pub pieces_as : {P : Type 0} → (P → Sealing) → List (SealedAs P) → List DatagramItem
pieces_as seal [] = []
pieces_as seal (s ∷ ss) = Ok (sealed_piece s.mask (seal s.sealer) s.flip s.header s.number s.plain) ∷ pieces_as seal ss

-- a header's low bytes are those of this number, which lies within half a window of the one after rx, the greatest
-- received before
abbrev pub IsInReach : Option PacketNumber → (rx number : ℕ) → Type 0
IsInReach None rx number = ⊥
IsInReach (Some low) rx number =
    (number % number_window low ≡ number_low low) × (number < 2 ^ 62) × IsInWindow (number_window low) (plus rx 1) number

-- the receiver has this key for the packet
abbrev pub HasKey : {P : Type 0} → OpenKeys P → Header → ℕ → P → Type 0
HasKey keys h number key = key_named h (option_copied keys.plain) (option_copied keys.early) (option_copied keys.ring) number ≡ Some key

-- what is answered once it was opened
abbrev pub arrival_answer : {P : Type 0} → Header → Option (Keyed P) → (rx number : ℕ) → Result (Option DecryptPacketResult) OpenError
arrival_answer h ring rx number =
    if is_bad_update (which_in h ring number) ring rx number then Err KeyUpdate else Ok (Some (result_of (which_in h ring number) ring number))

-- Taking the protection off a packet that came (RFC 9001, sections 5.3, 5.4 and 5.5). Initial, Handshake and 1-RTT packets are
-- opened, 0-RTT packets are not taken so far, and those without a number have no protection. A 1-RTT packet names its keys by its key phase and number: those of this end's epoch,
-- those of the one before while they are kept, or those of the next one (sections 6.3 and 6.5).
use Rattle.std.specs.Prelude.{ℕ, ◌+◌, ◌==◌, Bool, false, nat_lt, if◌then◌else◌, List, [], length, take, drop, Option, None, Some}
use Rattle.qc_base.specs.Mask.{first_byte}
use Rattle.qc_base.specs.Time.{plus}
use Rattle.qc_base.specs.declared.packet_number.PacketNumber.{PacketNumber}
use Rattle.qc_base.specs.declared.side.LongType.TheVariants as long
use Rattle.qc_header.specs.declared.header.Header.{Header}
use Rattle.qc_header.specs.declared.header.Header.TheVariants as header
use Rattle.qc_header.specs.declared.protected.ProtectedHeader.{ProtectedHeader}
use Rattle.qc_header.specs.declared.protected.ProtectedHeader.TheVariants.{Initial, Long, Retry, Short, VersionNegotiate}
use Rattle.qc_header.specs.HeaderSpelling.{header_number}
use Rattle.qc_header.specs.Piece.{Piece}
use Rattle.qc_header.specs.Unprotected.{unprotected, header_end, header_from}
use Rattle.qc_packet.specs.OpenedPacket.{is_bad_update, key_named, opened_by as opened_under_key, reserved_bits, which_in}
use Rattle.qc_crypto.specs.Mates.{Opening as OpeningFunction}
use Rattle.qc_rings.specs.Keyed.{Keyed}
use Rattle.qc_rings.specs.declared.which.Which.{Which}
use Rattle.qc_state.specs.declared.form.Form.{Form}
use Rattle.qc_state.specs.declared.form.Form.TheVariants as form
use Rattle.qc_state.specs.declared.opening.Opening.{Opening}
use Rattle.qc_state.specs.declared.opening.Opening.TheVariants.{Unreadable, Unopened, Reserved, Untimely, Opened}
use Rattle.qc_state.specs.Expansion.{expanded}
use Rattle.qc_state.specs.Forms.{number_space}
use Rattle.qc_state.specs.Keys.{opening_key, ring_of, unmasking_key}
use Rattle.qc_state.specs.Numbers.{received_number}
use Rattle.qc_state.specs.Types.{Types, Meaning}
use Rattle.qc_state.specs.View.{View}

-- the form of a packet with this header, if it is one that is opened so far
abbrev pub opened_form : ProtectedHeader → Option Form
opened_form (Initial dst_cid src_cid token_start token_len version) = Some form.Initial
opened_form (Long long.Handshake dst_cid src_cid version) = Some form.Handshake
opened_form (Long long.ZeroRtt dst_cid src_cid version) = None
opened_form (Retry dst_cid src_cid version) = None
opened_form (Short spin dst_cid) = Some form.OneRtt
opened_form (VersionNegotiate random src_cid dst_cid) = None

-- the source id of a long header
abbrev pub source_of : Header → List ℕ
source_of (header.Initial h) = h.src_cid
source_of (header.Long ty dst_cid src_cid number version) = src_cid
source_of (header.Retry dst_cid src_cid version) = src_cid
source_of (header.Short spin key_phase dst_cid number) = []
source_of (header.VersionNegotiate random src_cid dst_cid) = src_cid

-- the spin bit of a header; only short headers have one (RFC 9000, section 17.4)
abbrev pub spin_of : Header → Bool
spin_of (header.Initial h) = false
spin_of (header.Long ty dst_cid src_cid number version) = false
spin_of (header.Retry dst_cid src_cid version) = false
spin_of (header.Short spin key_phase dst_cid number) = spin
spin_of (header.VersionNegotiate random src_cid dst_cid) = false

-- the token of a header; only Initial headers have one
abbrev pub token_of : Header → List ℕ
token_of (header.Initial h) = h.token
token_of (header.Long ty dst_cid src_cid number version) = []
token_of (header.Retry dst_cid src_cid version) = []
token_of (header.Short spin key_phase dst_cid number) = []
token_of (header.VersionNegotiate random src_cid dst_cid) = []

-- the whole number of a packet whose header has a number: the one that is nearest to the number behind the greatest one
-- that was accepted
abbrev pub whole_number : Option PacketNumber → ℕ → ℕ
whole_number None rx = 0
whole_number (Some number) rx = expanded number (plus rx 1)

-- what its key made of the payload, where the key opens it: these keys of the ring, if it is a 1-RTT packet, by which its sender may have made
-- an update that it wasn't allowed to make. Its reserved bits are looked at first (RFC 9000, section 17.2; RFC 9001, section 6.2)
abbrev pub judged : Header → ℕ → List ℕ → Option Which → (bad : Bool) → Option (List ℕ) → Opening
judged header number header_data which bad None = Unopened
judged header number header_data which bad (Some payload) =
    if reserved_bits header (first_byte header_data) == 0
    then (if bad then Untimely number else Opened (source_of header) (token_of header) (spin_of header) which number payload)
    else Reserved number

module _ {P : Type 0} where
  -- an unmasked packet with this number under the key that it names
  abbrev pub opened_numbered : (opening : P → OpeningFunction) → (plain : Option P) → (ring : Option (Keyed P)) → (rx number : ℕ) → Header → (header_data sealed : List ℕ) → Opening
  opened_numbered opening plain ring rx number header header_data sealed =
      judged header number header_data (which_in header ring number) (is_bad_update (which_in header ring number) ring rx number)
      (opened_under_key opening (key_named header plain None ring number) number header_data sealed)

  -- an unmasked packet under the keys of the peer that it may name, its form's own one or one of the ring: its header, the header's
  -- bytes, and the bytes behind it. An update is one that its sender wasn't allowed to make where the packet's number isn't above all that were
  -- accepted, or this end didn't answer the one before yet (RFC 9001, sections 6.2 and 6.4).
  unfoldable pub opened_by : (opening : P → OpeningFunction) → (plain : Option P) → (ring : Option (Keyed P)) → (rx : ℕ) → Header → (header_data sealed : List ℕ) → Opening
  opened_by opening plain ring rx header header_data sealed = opened_numbered opening plain ring rx (whole_number (header_number header) rx) header header_data sealed

  -- a packet whose mask was taken off
  abbrev pub unmasked_under : (opening : P → OpeningFunction) → Option P → Option (Keyed P) → (rx : ℕ) → Piece → (bytes : List ℕ) → Opening
  unmasked_under opening plain ring rx p bytes =
      opened_by opening plain ring rx (header_from p.header p.pn_offset (take (header_end p bytes) bytes)) (take (header_end p bytes) bytes) (drop (header_end p bytes) bytes)

module _ {H P : Type 0} where
  -- a packet under the peer's keys; the mask is made of the sample behind its number
  unfoldable pub opened_under : (mask : H → List ℕ → List ℕ) → (opening : P → OpeningFunction) → H → Option P → Option (Keyed P) → (rx : ℕ) → Piece → Opening
  opened_under mask opening key plain ring rx p =
      if nat_lt (length p.bytes) (p.pn_offset + 20) then Unreadable else unmasked_under opening plain ring rx p (unprotected (mask key) p)

  -- a packet under the keys of its form, if there are any
  abbrev pub opened_in : (mask : H → List ℕ → List ℕ) → (opening : P → OpeningFunction) → Option H → Option P → Option (Keyed P) → (rx : ℕ) → Piece → Opening
  opened_in mask opening None plain ring rx p = Unreadable
  opened_in mask opening (Some key) plain ring rx p = opened_under mask opening key plain ring rx p

module _ {t : Types} where
  -- a packet of this form
  abbrev pub opened_at : Meaning t → View t → Option Form → Piece → Opening
  opened_at m s None p = Unreadable
  opened_at m s (Some f) p = opened_in m.mask m.opening (unmasking_key s.keys f) (opening_key s.keys f) (ring_of s.keys) (received_number s.numbers (number_space f)) p

  -- what comes of taking the protection off a packet: the keys are those of its form
  unfoldable pub opening_of : Meaning t → View t → Piece → Opening
  opening_of m s p = opened_at m s (opened_form p.header) p

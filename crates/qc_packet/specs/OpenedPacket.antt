-- Opening a packet whose header protection was taken off (RFC 9001, sections 5.5 and 6).
use Rattle.std.specs.Prelude.{ℕ, ◌/◌, ◌%◌, Bool, true, false, ◌&&◌, ◌||◌, List, Option, Some, None, Result, Ok, Err, nat_le, ◌==◌, if◌then◌else◌}
use Rattle.qc_base.specs.Time.{plus}
use Rattle.qc_base.specs.PacketNumber.{IsNearest, number_window, number_low}
use Rattle.qc_base.specs.declared.packet_number.PacketNumber.{PacketNumber}
use Rattle.qc_base.specs.declared.side.LongType.TheVariants.{Handshake, ZeroRtt}
use Rattle.qc_crypto.specs.Mates.{Opening}
use Rattle.qc_crypto.specs.declared.keys.KeyPair.{KeyPair}
use Rattle.std.specs.Option.{option_copied}
use Rattle.qc_header.specs.declared.finish.Packet.{Packet}
use Rattle.qc_packet.specs.declared.decrypt.OpenKeys.{OpenKeys}
use Rattle.qc_header.specs.declared.header.Header.{Header}
use Rattle.qc_header.specs.declared.header.Header.TheVariants.{Initial, Long, Retry, Short, VersionNegotiate}
use Rattle.qc_packet.specs.declared.decrypt.DecryptPacketResult.{DecryptPacketResult}
use Rattle.qc_packet.specs.declared.decrypt.OpenError.{OpenError}
use Rattle.qc_packet.specs.declared.decrypt.OpenError.TheVariants.{Unopened, Reserved, KeyUpdate}
use Rattle.qc_rings.specs.declared.which.Which.{Which}
use Rattle.qc_rings.specs.declared.which.Which.TheVariants.{Current, Next}
use Rattle.qc_rings.specs.Ring.{is_open, which_named}
use Rattle.qc_rings.specs.Keyed.{Keyed, key_of}

-- the full number of a packet, where rx is the greatest number received before: the one nearest to rx + 1
-- that ends in the bytes that the header has, or to 2^64 - 1 where rx + 1 is more (RFC 9000, appendix A.3)
abbrev pub IsNumberOf : Option PacketNumber → (rx number : ℕ) → Type 0
IsNumberOf None rx number = ⊥
IsNumberOf (Some low) rx number = IsNearest (number_window low) (number_low low) (plus rx 1) number

-- the key for what the peer sends, of a pair
abbrev pub remote_of : {P : Type 0} → Option (KeyPair P) → Option P
remote_of None = None
remote_of (Some keys) = Some keys.remote

-- the key of a ring that a phase and a number name
abbrev pub ring_key : {P : Type 0} → Option (Keyed P) → Bool → ℕ → Option P
ring_key None phase number = None
ring_key (Some k) phase number = remote_of (key_of k (which_named k.ring phase number))

-- The key that a packet names: an Initial or Handshake packet that of its space, a 0-RTT packet the early
-- key, and a 1-RTT packet one of the ring, by its phase and number.
unfoldable pub key_named : {P : Type 0} → Header → (plain early : Option P) → Option (Keyed P) → ℕ → Option P
key_named (Initial h) plain early ring number = plain
key_named (Long Handshake dst_cid src_cid low version) plain early ring number = plain
key_named (Long ZeroRtt dst_cid src_cid low version) plain early ring number = early
key_named (Short spin phase dst_cid low) plain early ring number = ring_key ring phase number
key_named (Retry dst_cid src_cid version) plain early ring number = None
key_named (VersionNegotiate random src_cid dst_cid) plain early ring number = None

-- what a key opens of a payload behind this header; no key opens nothing
unfoldable pub opened_by : {P : Type 0} → (P → Opening) → Option P → Opening
opened_by opening None number header sealed = None
opened_by opening (Some key) number header sealed = opening key number header sealed

-- what the key that a packet names makes of its payload, where that key opens it
abbrev pub opened_payload : {P : Type 0} → (P → Opening) → Packet → OpenKeys P → ℕ → Option (List ℕ)
opened_payload opening p keys number =
    opened_by opening (key_named p.header (option_copied keys.plain) (option_copied keys.early) (option_copied keys.ring) number) number p.header_data p.payload.items

-- the payload afterwards: opened, or as it was
abbrev pub payload_after : List ℕ → Option (List ℕ) → List ℕ
payload_after sealed None = sealed
payload_after sealed (Some plain) = plain

-- the reserved bits of a first byte without header protection (RFC 9000, sections 17.2 and 17.3.1)
abbrev pub reserved_bits : Header → ℕ → ℕ
reserved_bits (Short spin phase dst_cid low) first = first / 8 % 4
reserved_bits _ first = first / 4 % 4

-- which keys of the ring a packet names, where it is a 1-RTT packet
abbrev pub which_in : {P : Type 0} → Header → Option (Keyed P) → ℕ → Option Which
which_in (Short spin phase dst_cid low) (Some k) number = Some (which_named k.ring phase number)
which_in _ ring number = None

-- whether it names the next ones: its sender updated its keys
abbrev pub are_next : Option Which → Bool
are_next (Some Next) = true
are_next _ = false

-- whether it names the current ones
abbrev pub are_current : Option Which → Bool
are_current (Some Current) = true
are_current _ = false

-- whether the ring keeps previous keys without a floor
abbrev pub is_floor_missing : {P : Type 0} → Option (Keyed P) → Bool
is_floor_missing None = false
is_floor_missing (Some k) = is_open k.ring.kept

-- whether the last update of the peer's isn't answered yet
abbrev pub is_unanswered : {P : Type 0} → Option (Keyed P) → Bool
is_unanswered None = false
is_unanswered (Some k) = k.ring.unanswered

-- whether an update is one that the peer wasn't allowed to make: with a number that isn't above all received,
-- or before its last update was answered (RFC 9001, sections 6.2 and 6.4)
abbrev pub is_bad_update : {P : Type 0} → Option Which → Option (Keyed P) → (rx number : ℕ) → Bool
is_bad_update which ring rx number = are_next which && (nat_le number rx || is_unanswered ring)

-- what is told of a packet that these keys of the ring opened, if it is a 1-RTT packet: the peer answers an
-- update of this end's where the current ones did and the previous ones have no floor
abbrev pub result_of : {P : Type 0} → Option Which → Option (Keyed P) → ℕ → DecryptPacketResult
result_of which ring number =
    record {
      number = number;
      outgoing_key_update_acked = are_current which && is_floor_missing ring;
      incoming_key_update = are_next which;
    }

-- the answer for a packet with this header and first byte, which its key opened or didn't; the first row that holds
unfoldable pub opening_answer : {P : Type 0} → Header → ℕ → Option (Keyed P) → (rx number : ℕ) → Bool → Result (Option DecryptPacketResult) OpenError
opening_answer h first ring rx number opened =
    let which = which_in h ring number in
    if opened then
    (if reserved_bits h first == 0 then
    (if is_bad_update which ring rx number then Err KeyUpdate else Ok (Some (result_of which ring number)))
    else Err Reserved)
    else Err Unopened

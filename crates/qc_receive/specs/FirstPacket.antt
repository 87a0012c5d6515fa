-- A server's first packet that its endpoint opened.
use Rattle.std.specs.Prelude.{◌≡◌, ℕ, ◌+◌, ◌^◌, ◌<◌, ◌≤◌, true, if◌then◌else◌, List, length, Option, None, is_none}
use Rattle.std.specs.declared.net.SocketAddr.{SocketAddr}
use Rattle.qc_header.specs.declared.finish.InitialPacket.{InitialPacket}
use Rattle.qc_state.specs.declared.coming.Coming.{Coming}
use Rattle.qc_state.specs.declared.life.ConnectionError.{ConnectionError}
use Rattle.qc_state.specs.declared.transmit.TheConstants.{DATAGRAM_SIZE}
use Rattle.qc_state.specs.Life.{is_handshake}
use Rattle.qc_state.specs.Paths.{same_address}
use Rattle.qc_state.specs.Receiving.{opened_first}
use Rattle.qc_state.specs.Setup.{is_first_awaited}
use Rattle.qc_state.specs.Types.{Types, Meaning}
use Rattle.qc_state.specs.View.{View, Held, At}

-- how many bytes a datagram had: an opened packet's header and payload, the tag of 16 bytes that its payload was sealed with (RFC
-- 9001, section 5.3), and what is behind the packet
abbrev pub size_of : InitialPacket → (behind : List ℕ) → ℕ
size_of p behind = length p.header_data + length p.payload.items + 16 + length behind

module _ {t : Types} where
  -- the reason for the end that was given between two views: none where one stood before
  abbrev pub reason_between : View t → View t → Option ConnectionError
  reason_between before after = if is_none before.life.reason then after.life.reason else None

  -- the reason for the end that a server's first packet gives
  abbrev pub first_reason : Meaning t → Coming → (source token : List ℕ) → (number : ℕ) → (payload : List ℕ) → At t → Option ConnectionError
  first_reason m coming source token number payload a = reason_between a.state (opened_first m coming source token number payload a).state

-- A packet may be the first one of a server that waits for it: the handshake goes on, it comes from the path's address, it has this
-- version and the ids that the server was made with, its number can be one (RFC 9000, section 12.3), and its datagram is long
-- enough for a first one (RFC 9000, section 14.1).
pub record IsFirstPacket {t : Types} {R : Type 0} (c : Held t R) (remote : SocketAddr) (packet_number : ℕ) (p : InitialPacket) (behind : List ℕ) : Type 0 where
  pub awaited : is_first_awaited c.setup ≡ true
  pub shakes : is_handshake c.life.state ≡ true
  pub path : same_address c.paths.current.remote remote ≡ true
  pub version : p.header.version ≡ c.setup.fixed.version
  pub destination : p.header.dst_cid ≡ c.setup.fixed.first_cid
  pub source : p.header.src_cid ≡ c.paths.current.remote_cid
  pub numbered : packet_number < 2 ^ 62
  pub long : DATAGRAM_SIZE ≤ size_of p behind

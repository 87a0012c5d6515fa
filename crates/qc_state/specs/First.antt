-- The first view of a connection: of a client, and of a server.
use Rattle.std.specs.Prelude.{ℕ, Bool, true, false, if◌then◌else◌, List, [], length, Option, Some, None}
use Rattle.rand_core.specs.Stream.{Stream}
use Rattle.std.specs.declared.net.IpAddr.{IpAddr}
use Rattle.qc_assembler.specs.Assembly.{nothing}
use Rattle.qc_cids.specs.Cids.{first_ids}
use Rattle.qc_ids.specs.LocalCids.{first_local_cids}
use Rattle.qc_base.specs.declared.side.Side.{Side}
use Rattle.qc_base.specs.declared.side.Side.TheVariants.{Client, Server}
use Rattle.qc_state.specs.declared.keys.SpaceKeys.{SpaceKeys}
use Rattle.qc_state.specs.Keys.{first_keys, new_keys}
use Rattle.qc_path.specs.Acks.{no_marks}
use Rattle.qc_path.specs.Filter.{first_skips}
use Rattle.qc_state.specs.declared.life.State.TheVariants.{Handshake}
use Rattle.qc_state.specs.declared.paths.Paths.{Paths}
use Rattle.qc_state.specs.Paths.{new_path, only_path}
use Rattle.qc_state.specs.declared.setup.Fixed.{Fixed}
use Rattle.qc_state.specs.declared.waiting.SpaceWaiting.{SpaceWaiting}
use Rattle.qc_state.specs.Draws.{word, key_phase_of, spins_of, filter_words, words_left}
use Rattle.qc_state.specs.Numbers.{no_numbers}
use Rattle.qc_state.specs.Setup.{idle_limit_of}
use Rattle.qc_state.specs.Timers.{no_timers}
use Rattle.qc_state.specs.Tokens.{first_tokens}
use Rattle.qc_state.specs.declared.tokens.Issuer.{Issuer}
use Rattle.qc_state.specs.Types.{Types, Meaning}
use Rattle.qc_path.specs.declared.controller.Controller.{Ghosts as Control}
use Rattle.qc_recovery.specs.Calls.{begun_recovery}
use Rattle.qc_recovery.specs.Paths.{begun_path}
use Rattle.qc_recovery.specs.TransportValues.{TransportValues}
use Rattle.qc_recovery.specs.declared.path.PathData.{PathData}
use Rattle.qc_send_stream.specs.Buffer.{bytes_written, nothing as nothing_written}
use Rattle.qc_state.specs.View.{View}
use Rattle.qc_datagrams.specs.Datagrams.{new_datagrams}
use Rattle.qc_streams.specs.Streams.{new_streams}
use Rattle.qc_streams.specs.declared.state.StreamsState.{StreamsState}
use Rattle.std.specs.declared.net.SocketAddr.{SocketAddr}

-- what doesn't change of a connection
abbrev pub fixed_of : Side → (version : ℕ) → (local_cid first_cid : List ℕ) → (cid_lifetime : Option ℕ) → (preferred : Bool) → Option IpAddr → TransportValues → (grease_quic_bit : Bool) → (words : Stream)
    → Fixed
fixed_of side version local_cid first_cid cid_lifetime preferred local_ip transport grease_quic_bit words = record {
  side = side;
  version = version;
  local_cid = local_cid;
  first_cid = first_cid;
  cid_lifetime = cid_lifetime;
  issued = if preferred then 2 else 1;
  local_ip = local_ip;
  idle_limit = idle_limit_of transport.max_idle_timeout;
  crypto_buffer_size = transport.crypto_buffer_size;
  grease_quic_bit = grease_quic_bit;
  spins = spins_of transport.allow_spin words;
  key_phase_size = key_phase_of words;
  segmentation = transport.enable_segmentation_offload;
  pads = transport.pad_to_mtu;
}

-- a space in which nothing waits but these CRYPTO bytes, and so many NEW_TOKENs
abbrev pub something_waits : List ℕ → (tokens : ℕ) → SpaceWaiting
something_waits crypto tokens = record { done = false; ping = false; crypto = bytes_written crypto nothing_written; tokens = tokens; acks = record { ranges = []; marks = no_marks }; marks = None; probes = 0 }

-- a space in which nothing waits but these CRYPTO bytes
abbrev pub nothing_waits : List ℕ → SpaceWaiting
nothing_waits crypto = something_waits crypto 0

-- a configuration, by which larger datagrams are looked for as it says, or not at all
abbrev pub allowed_by : (allow_mtud : Bool) → TransportValues → TransportValues
allowed_by allow_mtud transport = record transport { mtu_discovery_config = if allow_mtud then transport.mtu_discovery_config else None }

-- what loss recovery keeps of a path that begins at a time, with this controller
abbrev pub first_path : {C : Type 0} → Control C → TransportValues → C → (time : ℕ) → PathData C
first_path m transport congestion time = begun_path m time transport congestion true None

-- no stream is open, and the peer may open as many as the configuration says, with its windows
abbrev pub first_streams : Side → TransportValues → StreamsState
first_streams side transport =
    new_streams side transport.max_concurrent_uni_streams transport.max_concurrent_bidi_streams transport.receive_window transport.stream_receive_window transport.send_window transport.send_fairness

module _ {t : Types} where
  -- a connection that was just made at this time: it has the keys of the Initial space, nothing waits but what its session wrote, from
  -- the start of that space's CRYPTO stream, and so many NEW_TOKENs, which this makes, and it has drawn of these random words
  abbrev pub just_made : SpaceKeys t.H t.P → t.S → (hello token : List ℕ) → (words : Stream) → Fixed → Paths t.C → Option (Issuer t.K t.T) → (tokens : ℕ) → TransportValues → ℕ → View t
  just_made keys session hello token words fixed paths issuer tokens transport time = record {
    numbers = record {
      spaces = record { initial = no_numbers time; handshake = no_numbers time; application = no_numbers time };
      filter = first_skips (word (filter_words transport.allow_spin words));
      opened = false;
    };
    keys = first_keys keys;
    life = record { state = Handshake; reason = None; ready = false; connected = false; heard = []; lost = None; notices = []; drained = false; close = None };
    paths = paths;
    timers = no_timers time;
    waiting = record {
      spaces = record {
        initial = nothing_waits hello;
        handshake = nothing_waits [];
        application = something_waits [] tokens;
      };
      close_owed = false;
      bundled = None;
    };
    setup = record { fixed = fixed; peer = None; token = None; initial_token = token; retry_cid = None; drawn = record { spin = false; flip = false }; random = words_left transport.allow_spin words };
    lower = record {
      session = session;
      ids = first_ids paths.current.remote_cid (first_local_cids (length fixed.local_cid) fixed.cid_lifetime time fixed.issued);
      crypto = record { initial = nothing; handshake = nothing; application = nothing };
      recovery = begun_recovery transport;
      streams = first_streams fixed.side transport;
      datagrams = new_datagrams transport.datagram_receive_buffer_size transport.datagram_send_buffer_size;
    };
    issuer = issuer;
  }

  -- a client that was just made: its keys are those of the destination id of its first packets, which packets to the server carry
  -- until the server chooses one, its hello waits, and its Initial packets carry this token (RFC 9000, section 8.1)
  unfoldable pub first_view : Meaning t → t.S → (words : Stream) → Fixed → SocketAddr → (first_cid token : List ℕ) → TransportValues → t.C → ℕ → View t
  first_view m session words fixed remote first_cid token transport congestion time =
      just_made (new_keys m.seal_limit m.failure_limit (m.initial session first_cid Client)) (m.after_write session) (m.writes session) token words fixed
      (only_path (new_path remote first_cid true (first_path m.control transport congestion time)) None) None 0 transport time

  -- a server that was just made: its keys are those of the destination id of the client's first packets, it knows the client's id, it makes
  -- these tokens, some of which wait where the client's address is validated, and it waits for the first packet
  unfoldable pub server_view : Meaning t → t.S → (words : Stream) → Fixed → SocketAddr → (remote_cid : List ℕ) → (validated : Bool) → Issuer t.K t.T → TransportValues → t.C → ℕ → View t
  server_view m session words fixed remote remote_cid validated issuer transport congestion time =
      just_made (new_keys m.seal_limit m.failure_limit (m.initial session fixed.first_cid Server)) session [] [] words fixed
      (only_path (new_path remote remote_cid validated (first_path m.control transport congestion time)) (Some remote_cid)) (Some issuer) (first_tokens validated issuer) transport time

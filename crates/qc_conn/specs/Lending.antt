-- The streams of a connection that are lent to the application, and its core with the datagrams.
use Rattle.std.specs.Borrow.{Lends, MutBor, Fml, RattleType}
use Rattle.qc_conn.specs.Parts.{SuiteParts, types_of}
use Rattle.qc_conn.specs.Seen.{Seen, with_core, with_streams}
use Rattle.qc_conn.specs.contracts.connection.Connection.{the_row}
use Rattle.qc_core.specs.contracts.state.Core as core_contract
use Rattle.qc_state.specs.View.{Held}
use Rattle.qc_streams.specs.declared.state.StreamsState.{StreamsState}
use Rattle.qc_streams.specs.contracts.state.StreamsState as streams_contract

-- a connection's type, as the logic knows it
abbrev pub connection_row : SuiteParts → RattleType
connection_row p =
    the_row p.suite p.session p.control p.random p.token_key p.time p.header_key p.packet_key p.handshake_data p.peer_identity p.controller p.token_aead
    p.session_calls p.mask_calls p.packet_calls p.control_calls p.controller_calls p.random_calls p.token_calls p.aead_calls p.time_calls

-- The connection ends with the streams that are the last behind the reference, and with their mark that it has failed; all else of it is as
-- it was
abbrev pub LendsStreams : (p : SuiteParts) → MutBor (Seen (types_of p) p.random.Denot) → MutBor StreamsState → Fml
LendsStreams p s r = Lends (connection_row p) streams_contract.the_row s r (with_streams s.now)

-- a core's type, as the logic knows it
abbrev pub core_row : SuiteParts → RattleType
core_row p =
    core_contract.the_row p.suite p.session p.control p.random p.token_key p.time p.header_key p.packet_key p.handshake_data p.peer_identity p.controller p.token_aead
    p.session_calls p.mask_calls p.packet_calls p.control_calls p.controller_calls p.random_calls p.token_calls p.aead_calls p.time_calls

-- The connection ends with the core that is the last behind the reference, and with the mark of that core's streams that it has failed; how many
-- steps were given of it is as it was
abbrev pub LendsCore : (p : SuiteParts) → MutBor (Seen (types_of p) p.random.Denot) → MutBor (Held (types_of p) p.random.Denot) → Fml
LendsCore p s r = Lends (connection_row p) (core_row p) s r (with_core s.now)

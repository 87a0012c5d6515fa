use Rattle.qc_conn.proofs.NewEnds.{server_ends, server_last, server_told}
use Rattle.qc_conn.proofs.Marks.{new_mark}
use Rattle.qc_conn.proofs.NewLaws.{server_acks, server_kept, server_new, server_streams, server_timer, server_unposted, server_used}
use Rattle.qc_conn.proofs.NewIds.{server_new_ids}
use Rattle.qc_conn.proofs.NewKeys.{server_own_keys, server_space_keys, server_spared}
use Rattle.std.proofs.Common.{refl}
use Rattle.qc_conn.proofs.RunsPlain.{server_plain}
use Rattle.qc_state.specs.View.{ideal}
use Rattle.qc_conn.proofs.connection.Connection.new_server.Goals as goal

-- its address is that of the setup
pub returns-clause-plain : goal.returns-clause-plain
returns-clause-plain g c plain = server_plain g.U.Random.Rng.stream _ _ _ _ c.args.setup.remote c.args.setup.remote_cid c.args.setup.validated _ _ _ c.args.now c.in_ok-core.core c.in_ok-core.ensures plain

-- nothing waits to be told
pub returns-clause-told : goal.returns-clause-told
returns-clause-told g c = server_told g.U.Random.Rng.stream _ _ _ _ c.args.setup.remote c.args.setup.remote_cid c.args.setup.validated _ _ _ c.args.now c.in_ok-core.core c.in_ok-core.ensures

-- its life is open
pub returns-clause-ends : goal.returns-clause-ends
returns-clause-ends g c = server_ends g.U.Random.Rng.stream _ _ _ _ c.args.setup.remote c.args.setup.remote_cid c.args.setup.validated _ _ _ c.args.now c.in_ok-core.core c.in_ok-core.ensures

-- it has no 1-RTT keys
pub returns-clause-last : goal.returns-clause-last
returns-clause-last g c = server_last g.U.Random.Rng.stream _ _ _ _ c.args.setup.remote c.args.setup.remote_cid c.args.setup.validated _ _ _ c.args.now c.in_ok-core.core c.in_ok-core.ensures

-- what its session wrote waits
pub returns-clause-crypto : goal.returns-clause-crypto
returns-clause-crypto g c = server_kept g.U.Random.Rng.stream _ _ _ _ c.args.setup.remote c.args.setup.remote_cid c.args.setup.validated _ _ _ c.args.now c.in_ok-core.core c.in_ok-core.ensures

-- nothing is in flight
pub returns-clause-timer : goal.returns-clause-timer
returns-clause-timer g c = server_timer g.U.Random.Rng.stream _ _ _ _ c.args.setup.remote c.args.setup.remote_cid c.args.setup.validated _ _ _ c.args.now c.in_ok-core.core c.in_ok-core.ensures

-- no ACK is held back
pub returns-clause-held : goal.returns-clause-held
returns-clause-held g c = server_acks g.U.Random.Rng.stream _ _ _ _ c.args.setup.remote c.args.setup.remote_cid c.args.setup.validated _ _ _ c.args.now c.in_ok-core.core c.in_ok-core.ensures

-- nothing came of any CRYPTO stream
pub returns-clause-unread : goal.returns-clause-unread
returns-clause-unread g c = server_streams g.U.Random.Rng.stream _ _ _ _ c.args.setup.remote c.args.setup.remote_cid c.args.setup.validated _ _ _ c.args.now c.in_ok-core.core c.in_ok-core.ensures

-- no stream was opened
pub returns-clause-streams : goal.returns-clause-streams
returns-clause-streams g c = server_new g.U.Random.Rng.stream _ _ _ _ c.args.setup.remote c.args.setup.remote_cid c.args.setup.validated _ _ _ c.args.now c.in_ok-core.core c.in_ok-core.ensures

-- no datagram came
pub returns-clause-datagrams : goal.returns-clause-datagrams
returns-clause-datagrams g c = server_unposted g.U.Random.Rng.stream _ _ _ _ c.args.setup.remote c.args.setup.remote_cid c.args.setup.validated _ _ _ c.args.now c.in_ok-core.core c.in_ok-core.ensures

-- packets carry the one id of the peer that is known
pub returns-clause-ids : goal.returns-clause-ids
returns-clause-ids g c = server_used g.U.Random.Rng.stream _ _ _ _ c.args.setup.remote c.args.setup.remote_cid c.args.setup.validated _ _ _ c.args.now c.in_ok-core.core c.in_ok-core.ensures

-- it hasn't failed
pub returns-clause-alive : goal.returns-clause-alive
returns-clause-alive g c = new_mark (ideal g.U.Random.Rng.stream c.in_ok-core.core) (server_new g.U.Random.Rng.stream _ _ _ _ c.args.setup.remote c.args.setup.remote_cid c.args.setup.validated _ _ _ c.args.now c.in_ok-core.core c.in_ok-core.ensures)

-- its ids are new
pub returns-clause-new_ids : goal.returns-clause-new_ids
returns-clause-new_ids g c = server_new_ids g.U.Random.Rng.stream _ _ _ _ c.args.setup.remote c.args.setup.remote_cid c.args.setup.validated _ _ _ c.args.now c.in_ok-core.core c.in_ok-core.ensures

-- its Initial keys are those of the destination id of the client's first packets
pub returns-clause-space_keys : goal.returns-clause-space_keys
returns-clause-space_keys g c = server_space_keys g.U.Random.Rng.stream _ _ _ _ c.args.setup.remote c.args.setup.remote_cid c.args.setup.validated _ _ _ c.args.now c.in_ok-core.core c.in_ok-core.ensures refl

-- which are its session's own
pub returns-clause-own_keys : goal.returns-clause-own_keys
returns-clause-own_keys g c =
    server_own_keys g.U.Random.Rng.stream _ g.U.Session.Session c.args.setup.session _ _ c.args.setup.remote c.args.setup.remote_cid c.args.setup.validated _ _ _ c.args.now c.in_ok-core.core c.in_ok-core.ensures refl
    (g.met.U.Session.Session.fresh_sound c.args.setup.session c.requires.fresh) (g.met.U.Session.Session.fresh_changes c.args.setup.session c.requires.fresh)

-- and have sealed nothing
pub returns-clause-spared : goal.returns-clause-spared
returns-clause-spared g c = server_spared g.U.Random.Rng.stream _ _ _ _ c.args.setup.remote c.args.setup.remote_cid c.args.setup.validated _ _ _ c.args.now c.in_ok-core.core c.in_ok-core.ensures

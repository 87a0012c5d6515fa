use Rattle.qc_conn.proofs.NewEnds.{first_ends, first_last, first_told}
use Rattle.qc_conn.proofs.Marks.{new_mark}
use Rattle.qc_conn.proofs.NewLaws.{first_acks, first_kept, first_new, first_streams, first_timer, first_unposted, first_used}
use Rattle.qc_conn.proofs.NewIds.{first_new_ids}
use Rattle.qc_conn.proofs.NewKeys.{first_own_keys, first_space_keys, first_spared}
use Rattle.std.proofs.Common.{refl}
use Rattle.qc_conn.proofs.RunsPlain.{first_plain}
use Rattle.qc_state.specs.View.{ideal}
use Rattle.qc_conn.proofs.connection.Connection.new_client.Goals as goal

-- its address is that of the setup
pub returns-clause-plain : goal.returns-clause-plain
returns-clause-plain g c plain = first_plain g.U.Random.Rng.stream _ _ _ _ c.args.setup.remote c.args.setup.first_cid _ _ _ c.args.now c.in_ok-core.core c.in_ok-core.ensures.made c.in_ok-core.ensures.hello plain

-- nothing waits to be told
pub returns-clause-told : goal.returns-clause-told
returns-clause-told g c = first_told g.U.Random.Rng.stream _ _ _ _ c.args.setup.remote c.args.setup.first_cid _ _ _ c.args.now c.in_ok-core.core c.in_ok-core.ensures.made

-- its life is open
pub returns-clause-ends : goal.returns-clause-ends
returns-clause-ends g c = first_ends g.U.Random.Rng.stream _ _ _ _ c.args.setup.remote c.args.setup.first_cid _ _ _ c.args.now c.in_ok-core.core c.in_ok-core.ensures.made

-- it has no 1-RTT keys
pub returns-clause-last : goal.returns-clause-last
returns-clause-last g c = first_last g.U.Random.Rng.stream _ _ _ _ c.args.setup.remote c.args.setup.first_cid _ _ _ c.args.now c.in_ok-core.core c.in_ok-core.ensures.made

-- what its session wrote waits
pub returns-clause-crypto : goal.returns-clause-crypto
returns-clause-crypto g c = first_kept g.U.Random.Rng.stream _ _ _ _ c.args.setup.remote c.args.setup.first_cid _ _ _ c.args.now c.in_ok-core.core c.in_ok-core.ensures.made

-- nothing is in flight
pub returns-clause-timer : goal.returns-clause-timer
returns-clause-timer g c = first_timer g.U.Random.Rng.stream _ _ _ _ c.args.setup.remote c.args.setup.first_cid _ _ _ c.args.now c.in_ok-core.core c.in_ok-core.ensures.made

-- no ACK is held back
pub returns-clause-held : goal.returns-clause-held
returns-clause-held g c = first_acks g.U.Random.Rng.stream _ _ _ _ c.args.setup.remote c.args.setup.first_cid _ _ _ c.args.now c.in_ok-core.core c.in_ok-core.ensures.made

-- nothing came of any CRYPTO stream
pub returns-clause-unread : goal.returns-clause-unread
returns-clause-unread g c = first_streams g.U.Random.Rng.stream _ _ _ _ c.args.setup.remote c.args.setup.first_cid _ _ _ c.args.now c.in_ok-core.core c.in_ok-core.ensures.made

-- no stream was opened
pub returns-clause-streams : goal.returns-clause-streams
returns-clause-streams g c = first_new g.U.Random.Rng.stream _ _ _ _ c.args.setup.remote c.args.setup.first_cid _ _ _ c.args.now c.in_ok-core.core c.in_ok-core.ensures.made

-- no datagram came
pub returns-clause-datagrams : goal.returns-clause-datagrams
returns-clause-datagrams g c = first_unposted g.U.Random.Rng.stream _ _ _ _ c.args.setup.remote c.args.setup.first_cid _ _ _ c.args.now c.in_ok-core.core c.in_ok-core.ensures.made

-- packets carry the one id of the peer that is known
pub returns-clause-ids : goal.returns-clause-ids
returns-clause-ids g c = first_used g.U.Random.Rng.stream _ _ _ _ c.args.setup.remote c.args.setup.first_cid _ _ _ c.args.now c.in_ok-core.core c.in_ok-core.ensures.made

-- it hasn't failed
pub returns-clause-alive : goal.returns-clause-alive
returns-clause-alive g c = new_mark (ideal g.U.Random.Rng.stream c.in_ok-core.core) (first_new g.U.Random.Rng.stream _ _ _ _ c.args.setup.remote c.args.setup.first_cid _ _ _ c.args.now c.in_ok-core.core c.in_ok-core.ensures.made)

-- its ids are new
pub returns-clause-new_ids : goal.returns-clause-new_ids
returns-clause-new_ids g c = first_new_ids g.U.Random.Rng.stream _ _ _ _ c.args.setup.remote c.args.setup.first_cid _ _ _ c.args.now c.in_ok-core.core c.in_ok-core.ensures.made

-- its Initial keys are those of the destination id of its first packets
pub returns-clause-space_keys : goal.returns-clause-space_keys
returns-clause-space_keys g c = first_space_keys g.U.Random.Rng.stream _ _ _ _ c.args.setup.remote c.args.setup.first_cid _ _ _ c.args.now c.in_ok-core.core c.in_ok-core.ensures.made refl refl

-- which are its session's own
pub returns-clause-own_keys : goal.returns-clause-own_keys
returns-clause-own_keys g c =
    let session = c.args.setup.session in
    let sound = g.met.U.Session.Session.fresh_sound session c.requires.fresh in
    first_own_keys g.U.Random.Rng.stream _ g.U.Session.Session session _ _ c.args.setup.remote c.args.setup.first_cid _ _ _ c.args.now c.in_ok-core.core c.in_ok-core.ensures.made refl refl (g.met.U.Session.Session.fresh_changes session c.requires.fresh)
    (g.met.U.Session.Session.hello_no_keys session c.requires.fresh c.requires.client) (g.met.U.Session.Session.changes_write session sound) (g.met.U.Session.Session.sound_write session sound)
    (g.met.U.Session.Session.initial_write session c.args.setup.first_cid _ sound)

-- and have sealed nothing
pub returns-clause-spared : goal.returns-clause-spared
returns-clause-spared g c = first_spared g.U.Random.Rng.stream _ _ _ _ c.args.setup.remote c.args.setup.first_cid _ _ _ c.args.now c.in_ok-core.core c.in_ok-core.ensures.made

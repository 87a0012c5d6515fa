use Rattle.qc_admit.proofs.Writes.{leads_first, leads_on, leads_last, falls}
use Rattle.qc_state.specs.Tokens.{token_with}
use Rattle.qc_state.specs.Types.{meaning}
use Rattle.qc_state.specs.View.{held}
use Rattle.qc_admit.proofs.handshake.written.Goals as goal

-- nothing was written yet
pub loop-init : goal.loop-init
loop-init g c = leads_first (meaning g.U.Session.Session g.U.Session.HeaderKey.HeaderMask g.U.Session.PacketKey.PacketKey g.U.Control.Controller.Controller (token_with g.U.TokenKey.Aead.AeadKey.sealed g.U.TokenKey.HandshakeTokenKey.derived g.U.Time.TimeSource.time_of)) (held g.U.Random.Rng.stream c.args.core.now c.args.did.now)

-- nothing is left
pub returns-then-not-branch : goal.returns-then-not-branch
returns-then-not-branch g c =
    leads_last (meaning g.U.Session.Session g.U.Session.HeaderKey.HeaderMask g.U.Session.PacketKey.PacketKey g.U.Control.Controller.Controller (token_with g.U.TokenKey.Aead.AeadKey.sealed g.U.TokenKey.HandshakeTokenKey.derived g.U.Time.TimeSource.time_of)) (held g.U.Random.Rng.stream c.loop.core c.args.did.now)
    (held g.U.Random.Rng.stream c.write_once.new.core c.args.did.now) (held g.U.Random.Rng.stream c.args.core.now c.args.did.now) c.in_ok-write_once.field-0 c.if-not-branch.true c.in_ok-write_once.ensures c.loop.invariant

-- the session wrote once more
pub loop-smaller : goal.loop-smaller
loop-smaller g c =
    falls (meaning g.U.Session.Session g.U.Session.HeaderKey.HeaderMask g.U.Session.PacketKey.PacketKey g.U.Control.Controller.Controller (token_with g.U.TokenKey.Aead.AeadKey.sealed g.U.TokenKey.HandshakeTokenKey.derived g.U.Time.TimeSource.time_of)) (held g.U.Random.Rng.stream c.loop.core c.args.did.now)
    (held g.U.Random.Rng.stream c.write_once.new.core c.args.did.now) c.in_ok-write_once.field-0 c.if-not-branch.false c.in_ok-write_once.ensures

pub loop-preserved : goal.loop-preserved
loop-preserved g c =
    leads_on (meaning g.U.Session.Session g.U.Session.HeaderKey.HeaderMask g.U.Session.PacketKey.PacketKey g.U.Control.Controller.Controller (token_with g.U.TokenKey.Aead.AeadKey.sealed g.U.TokenKey.HandshakeTokenKey.derived g.U.Time.TimeSource.time_of)) (held g.U.Random.Rng.stream c.loop.core c.args.did.now)
    (held g.U.Random.Rng.stream c.write_once.new.core c.args.did.now) (held g.U.Random.Rng.stream c.args.core.now c.args.did.now) c.in_ok-write_once.field-0 c.if-not-branch.false c.in_ok-write_once.ensures c.loop.invariant

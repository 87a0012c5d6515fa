-- Behind a timeout none of these timers is left that has come.
use Rattle.std.proofs.Common.{◌≡◌, false}
use Rattle.qc_state.specs.Timers.{has_come}
use Rattle.qc_state.specs.Tokens.{token_with}
use Rattle.qc_state.specs.Types.{meaning}
use Rattle.qc_state.proofs.Expired.{cids_later, idle_later, close_later, keys_later, paced_later, held_later}
use Rattle.qc_core.proofs.Expiring.{behind_timeout}
use Rattle.qc_core.proofs.state.Core.handle_timeout.Goals as goal

pub returns-clause-idle : goal.returns-clause-idle
returns-clause-idle g c =
    let m = (meaning g.U.Session.Session g.U.Session.HeaderKey.HeaderMask g.U.Session.PacketKey.PacketKey g.U.Control.Controller.Controller (token_with g.U.TokenKey.Aead.AeadKey.sealed g.U.TokenKey.HandshakeTokenKey.derived g.U.Time.TimeSource.time_of)) in
    behind_timeout m c.args.now c.expire.result (λ x. has_come x.state.timers.idle c.args.now ≡ false) _ _ c.expire.ensures (λ alive. idle_later m c.args.now _ alive)

pub returns-clause-close : goal.returns-clause-close
returns-clause-close g c =
    let m = (meaning g.U.Session.Session g.U.Session.HeaderKey.HeaderMask g.U.Session.PacketKey.PacketKey g.U.Control.Controller.Controller (token_with g.U.TokenKey.Aead.AeadKey.sealed g.U.TokenKey.HandshakeTokenKey.derived g.U.Time.TimeSource.time_of)) in
    behind_timeout m c.args.now c.expire.result (λ x. has_come x.state.timers.close c.args.now ≡ false) _ _ c.expire.ensures (λ alive. close_later m c.args.now _ alive)

pub returns-clause-keys : goal.returns-clause-keys
returns-clause-keys g c =
    let m = (meaning g.U.Session.Session g.U.Session.HeaderKey.HeaderMask g.U.Session.PacketKey.PacketKey g.U.Control.Controller.Controller (token_with g.U.TokenKey.Aead.AeadKey.sealed g.U.TokenKey.HandshakeTokenKey.derived g.U.Time.TimeSource.time_of)) in
    behind_timeout m c.args.now c.expire.result (λ x. has_come x.state.timers.key_discard c.args.now ≡ false) _ _ c.expire.ensures (λ alive. keys_later m c.args.now _ alive)

pub returns-clause-paced : goal.returns-clause-paced
returns-clause-paced g c =
    let m = (meaning g.U.Session.Session g.U.Session.HeaderKey.HeaderMask g.U.Session.PacketKey.PacketKey g.U.Control.Controller.Controller (token_with g.U.TokenKey.Aead.AeadKey.sealed g.U.TokenKey.HandshakeTokenKey.derived g.U.Time.TimeSource.time_of)) in
    behind_timeout m c.args.now c.expire.result (λ x. has_come x.state.timers.pacing c.args.now ≡ false) _ _ c.expire.ensures (λ alive. paced_later m c.args.now _ alive)

pub returns-clause-ids : goal.returns-clause-ids
returns-clause-ids g c =
    let m = (meaning g.U.Session.Session g.U.Session.HeaderKey.HeaderMask g.U.Session.PacketKey.PacketKey g.U.Control.Controller.Controller (token_with g.U.TokenKey.Aead.AeadKey.sealed g.U.TokenKey.HandshakeTokenKey.derived g.U.Time.TimeSource.time_of)) in
    behind_timeout m c.args.now c.expire.result (λ x. has_come x.state.timers.push_new_cid c.args.now ≡ false) _ _ c.expire.ensures (λ alive. cids_later m c.args.now _ alive)

pub returns-clause-ack : goal.returns-clause-ack
returns-clause-ack g c =
    let m = (meaning g.U.Session.Session g.U.Session.HeaderKey.HeaderMask g.U.Session.PacketKey.PacketKey g.U.Control.Controller.Controller (token_with g.U.TokenKey.Aead.AeadKey.sealed g.U.TokenKey.HandshakeTokenKey.derived g.U.Time.TimeSource.time_of)) in
    behind_timeout m c.args.now c.expire.result (λ x. has_come x.state.timers.max_ack_delay c.args.now ≡ false) _ _ c.expire.ensures (λ alive. held_later m c.args.now _ alive)

use Rattle.std.proofs.Common.{◌≡◌, ◌==◌, refl, subst, length}
use Rattle.std.specs.Prelude.{not, IfOk}
use Rattle.qc_frame.specs.Frame.{ack_map}
use Rattle.qc_recovery.specs.Steps.{After}
use Rattle.qc_core.proofs.Acknowledges.{settled_held, settled_parts}
use Rattle.qc_state.specs.Tokens.{token_with}
use Rattle.qc_state.specs.Types.{meaning}
use Rattle.qc_core.proofs.state.Core.do_ack.Goals as goal

-- some are newly acknowledged, where one is
pub returns-clause-newly : goal.returns-clause-newly
returns-clause-newly g c =
    let settled = settled_held (meaning g.U.Session.Session g.U.Session.HeaderKey.HeaderMask g.U.Session.PacketKey.PacketKey g.U.Control.Controller.Controller (token_with g.U.TokenKey.Aead.AeadKey.sealed g.U.TokenKey.HandshakeTokenKey.derived g.U.Time.TimeSource.time_of)) g.U.Random.Rng.stream c.args.self.now _ c.args.now c.args.space (ack_map (λ bytes. bytes.now) c.args.ack.now) _ _ _ _ _ _
    c.self.view_is c.is_blocked-blocked.ensures c.shows_validated.ensures c.around-around.ensures c.next-next.ensures c.began-began.ensures c.in_ok-settled.ensures.after in
    subst (λ (x : After g.row.U-Control-Controller.Denot). IfOk c.settle_in.result (λ newly. newly ≡ not (length x.acked == 0))) settled c.settle_in.ensures.newly

-- what was acknowledged and what was lost
pub returns-clause-leads : goal.returns-clause-leads
returns-clause-leads g c =
    let settled = settled_held (meaning g.U.Session.Session g.U.Session.HeaderKey.HeaderMask g.U.Session.PacketKey.PacketKey g.U.Control.Controller.Controller (token_with g.U.TokenKey.Aead.AeadKey.sealed g.U.TokenKey.HandshakeTokenKey.derived g.U.Time.TimeSource.time_of)) g.U.Random.Rng.stream c.args.self.now _ c.args.now c.args.space (ack_map (λ bytes. bytes.now) c.args.ack.now) _ _ _ _ _ _
    c.self.view_is c.is_blocked-blocked.ensures c.shows_validated.ensures c.around-around.ensures c.next-next.ensures c.began-began.ensures c.in_ok-settled.ensures.after in
    settled_parts (meaning g.U.Session.Session g.U.Session.HeaderKey.HeaderMask g.U.Session.PacketKey.PacketKey g.U.Control.Controller.Controller (token_with g.U.TokenKey.Aead.AeadKey.sealed g.U.TokenKey.HandshakeTokenKey.derived g.U.Time.TimeSource.time_of)) g.U.Random.Rng.stream c.settle_in.result c.args.self.now _ c.args.now c.args.space (ack_map (λ bytes. bytes.now) c.args.ack.now) _ _ _ _ _ _ _ _ _ _
    c.self.view_is settled refl c.in_ok-settled.ensures.lower c.in_ok-settle.ensures c.in_ok-settle-2.ensures c.current_mtu-before.ensures c.shrink.ensures c.acked.ensures c.settle_in.ensures.numbers c.settle_in.ensures.waiting

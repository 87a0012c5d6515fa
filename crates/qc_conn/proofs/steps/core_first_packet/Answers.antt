use Rattle.qc_receive.specs.Cutting.{rest_of}
use Rattle.qc_receive.specs.FirstPacket.{first_reason, size_of}
use Rattle.qc_state.specs.Receiving.{first_packet_after}
use Rattle.qc_state.specs.Tokens.{token_with}
use Rattle.qc_state.specs.Types.{meaning}
use Rattle.qc_conn.proofs.Firsts.{told_leads, told_answer}
use Rattle.qc_conn.proofs.steps.core_first_packet.Goals as goal

pub returns-clause-answer : goal.returns-clause-answer
returns-clause-answer g c =
    let p = c.args.packet in
    told_answer (first_reason (meaning g.U.Session.Session g.U.Session.HeaderKey.HeaderMask g.U.Session.PacketKey.PacketKey g.U.Control.Controller.Controller (token_with g.U.TokenKey.Aead.AeadKey.sealed g.U.TokenKey.HandshakeTokenKey.derived g.U.Time.TimeSource.time_of)) c.args.coming.now p.header.src_cid p.header.token c.args.number p.payload.items) _ _ c.args.coming.now.time _ _ c.clock.ensures c.new-did.ensures c.in_ok-why.ensures.answer

pub returns-clause-leads : goal.returns-clause-leads
returns-clause-leads g c =
    let p = c.args.packet in
    let behind = rest_of c.args.behind in
    told_leads (first_packet_after (meaning g.U.Session.Session g.U.Session.HeaderKey.HeaderMask g.U.Session.PacketKey.PacketKey g.U.Control.Controller.Controller (token_with g.U.TokenKey.Aead.AeadKey.sealed g.U.TokenKey.HandshakeTokenKey.derived g.U.Time.TimeSource.time_of)) c.args.coming.now p.header.src_cid p.header.token c.args.number p.payload.items behind (size_of p behind)) _ _ _ c.args.coming.now.time _ c.first_packet.new.did c.clock.ensures c.new-did.ensures
    c.in_ok-why.ensures.leads

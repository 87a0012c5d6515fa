use Rattle.std.proofs.Common.{◌∙◌}
use Rattle.qc_receive.specs.Cutting.{rest_of}
use Rattle.qc_receive.specs.FirstPacket.{size_of}
use Rattle.qc_receive.proofs.Handed.{first_packet_is, sum_most}
use Rattle.qc_receive.proofs.events.first_packet.Goals as goal

pub returns-clause-leads : goal.returns-clause-leads
returns-clause-leads g c =
    let behind = rest_of c.args.behind in
    first_packet_is _ c.args.coming.now c.cutting_of-cutting.result c.args.packet.header.src_cid c.args.packet.header.token c.args.number c.args.packet.payload.items c.in-Ok.payload c.args.behind c.opened_len-len.result (size_of c.args.packet behind) _ _ _ _ _ c.cutting_of-cutting.ensures.cuts c.in-Ok.ensures.ok
    (c.opened_len-len.ensures ∙ sum_most _ _ _) c.is_blocked-blocked.ensures c.in_ok-why.ensures.leads c.in_ok-others.ensures c.counted.ensures

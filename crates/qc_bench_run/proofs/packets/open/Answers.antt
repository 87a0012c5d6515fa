use Rattle.std.proofs.Common.{◌∙◌, refl, None, Some, arith}
use Rattle.qc_bench_run.proofs.PassingLemmas.{opens_to_number}
use Rattle.qc_bench_run.proofs.packets.open.Goals as goal

pub returns : goal.returns
returns g c sealer plain mates first is =
    c.number_told.ensures
    ∙ opens_to_number g.P.PacketKey.opening (g.P.PacketKey.seal sealer) (record { plain = None; early = None; ring = Some c.args.ring }) c.args.ring.now c.args.number c.saturating_sub-rx.result plain c.args.packet.now _
    (omega arith) (omega arith) refl first mates is c.decrypt_packet_body-answer.ensures.answer

use Rattle.std.proofs.Common.{◌∙◌, arith}
use Rattle.qc_bench_run.proofs.SealingLemmas.{sealed_opens, not_refused}
use Rattle.qc_bench_run.proofs.keys.pass.Goals as goal

pub returns : goal.returns
returns g c =
    let opens = sealed_opens (g.P.PacketKey.seal c.args.sealer.now) (g.P.PacketKey.opening c.args.opener.now) c.args.number 13 c.args.packet.now _ c.requires.mates (omega (arith, c.requires.size)) c.encrypt.ensures in
    absurd (not_refused (g.P.PacketKey.opening c.args.opener.now) c.args.number _ _ _ _ _ opens c.split_at.ensures.front (c.in_ok-payload.ensures ∙ c.split_at.ensures.back) c.in-Err.ensures.refused)

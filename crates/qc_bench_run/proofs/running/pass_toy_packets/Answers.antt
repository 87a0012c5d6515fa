use Rattle.std.proofs.Common.{ap, ◌∙◌}
use Rattle.qc_toy.specs.Settings.{default_settings}
use Rattle.qc_toy.specs.SessionLaws.{packets_mate}
use Rattle.qc_toy.specs.declared.key_bytes.Level.TheVariants.{Data}
use Rattle.qc_bench_run.proofs.running.pass_toy_packets.Goals as goal

pub pass_packets-requires-clause-mates : goal.pass_packets-requires-clause-mates
pass_packets-requires-clause-mates c =
    let one = ap (λ k. k.packet.local.bytes) c.of_level-sealer.ensures in
    let other = ap (λ k. k.current.remote.bytes) c.new-ring.ensures ∙ ap (λ k. k.remote.bytes) c.keys.ensures in
    rw (one, other) (packets_mate default_settings default_settings _ Data 0).opens.forth

use Rattle.std.proofs.Common.{◌∙◌, ◌<◌, ◌^◌, ap, length, arith}
use Rattle.qc_rings.specs.Parties.{Parties, parties_log}
use Rattle.qc_rings.proofs.Mirrors.{source_log}
use Rattle.qc_rings.proofs.ends.run_pair.Goals as goal

-- the log with keys is the log without
pub returns : goal.returns
returns g c =
    let few : length c.args.events.now < 2 ^ 64 = omega arith in
    let same = source_log g.P.PacketKey.seal g.P.PacketKey.opening (g.K.KeySource.keys_of c.args.source.now) c.args.events.now
    (g.met.K.KeySource.mates c.args.source.now) (g.met.K.KeySource.apart c.args.source.now) few in
    c.in_ok-outcomes.ensures
    ∙ ap (λ (t : Parties g.row.P.Denot). parties_log g.P.PacketKey.seal g.P.PacketKey.opening (g.K.KeySource.keys_of c.args.source.now) c.args.events.now t) c.new-ends.ensures
    ∙ same

use Rattle.std.proofs.Common.{◌<◌, length, arith}
use Rattle.qc_flight.proofs.Ranges.{in_first}
use Rattle.qc_flight.proofs.loss_rules.begins.Goals as goal

pub returns : goal.returns
returns c =
    let within : c.args.place < length c.args.ranges.now = omega arith in
    in_first _ _ _ _ within c.requires.normal c.requires.reaches

use Rattle.std.proofs.Common.{◌∙◌, ap}
use Rattle.qc_flight.specs.Packets.{counted_of}
use Rattle.qc_flight.proofs.Sums.{sums_are}
use Rattle.qc_flight.proofs.flight.Flight.counted.Goals as goal

pub returns : goal.returns
returns c = (sums_are _ _ c.self.invariant).2 ∙ ap counted_of c.self.view_is

use Rattle.std.proofs.Common.{◌∙◌, ap}
use Rattle.qc_flight.specs.Packets.{eliciting_of}
use Rattle.qc_flight.proofs.Sums.{sums_are}
use Rattle.qc_flight.proofs.flight.Flight.eliciting.Goals as goal

pub returns : goal.returns
returns c = (sums_are _ _ c.self.invariant).1 ∙ ap eliciting_of c.self.view_is

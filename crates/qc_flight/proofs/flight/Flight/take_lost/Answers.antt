use Rattle.qc_flight.proofs.Ranges.{none_lost_above}
use Rattle.qc_flight.proofs.flight.Flight.take_lost.Goals as goal

pub take_passing-requires-clause-limit : goal.take_passing-requires-clause-limit
take_passing-requires-clause-limit c = none_lost_above _ _ _ _

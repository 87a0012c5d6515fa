use Rattle.std.proofs.Common.{ap}
use Rattle.qc_send_stream.specs.Segments.{is_lost}
use Rattle.qc_send_stream.proofs.ends.is_lost.Goals as goal

pub returns-in-Some : goal.returns-in-Some
unfolding is_lost
returns-in-Some c = ap is_lost c.in-Some.ensures.value

pub returns-in-None : goal.returns-in-None
unfolding is_lost
returns-in-None c = ap is_lost c.in-None.ensures.value

-- What becomes of the packets of a space
use Rattle.std.specs.Prelude.{List, ◌++◌}
use Rattle.qc_flight.specs.Packets.{Entry}
use Rattle.qc_recovery.specs.Steps.{SpaceAfter}

-- the packets that a call on a space acknowledged, those that it took for lost, and those that are still in flight
abbrev pub all_of : {C : Type 0} → SpaceAfter C → List Entry
all_of q = q.acked ++ (q.lost ++ q.space.flight)

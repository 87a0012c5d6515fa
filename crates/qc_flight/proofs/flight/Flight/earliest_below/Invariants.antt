use Rattle.std.proofs.Common.{◌≡◌, ◌-◌, ◌≤◌, drop}
use Rattle.qc_flight.specs.Packets.{earliest_from, earliest_of, is_below, those}
use Rattle.qc_flight.proofs.flight.Flight.earliest_below.Given as goal

abbrev pub invariant-loop-place : goal.invariant-loop-place
invariant-loop-place l = (l.place ≤ l.self-inside.packets.len) × (earliest_from l.earliest (those (is_below l.limit) (drop l.place l.self-inside.packets.items)) ≡ earliest_of (those (is_below l.limit) l.self-inside.packets.items))

abbrev pub decreases-loop-place : goal.decreases-loop-place
decreases-loop-place l = l.self-inside.packets.len - l.place

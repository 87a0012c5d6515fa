use Rattle.std.proofs.Common.{◌≡◌, ◌-◌, ◌≤◌}
use Rattle.qc_streams.specs.Streams.{made, fresh_peer}
use Rattle.qc_streams.specs.Queues.{places_made}
use Rattle.qc_streams.proofs.state.StreamsState.open_lower.Given as goal

abbrev pub invariant-loop-count : goal.invariant-loop-count
invariant-loop-count l =
    (l.count ≤ l.missing) × (l.self ≡ record l.fn.self { records = made l.id l.first l.count (fresh_peer l.dir l.fn.self) l.fn.self.records; waiting = places_made l.count l.fn.self.waiting })

abbrev pub decreases-loop-count : goal.decreases-loop-count
decreases-loop-count l = l.missing - l.count

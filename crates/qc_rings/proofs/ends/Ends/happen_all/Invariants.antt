use Rattle.std.proofs.Common.{◌≡◌, ◌++◌, drop}
use Rattle.qc_rings.specs.Parties.{parties_log}
use Rattle.qc_rings.proofs.ends.Ends.happen_all.Given as goal

-- What came of the events so far, and what will come of the rest, are what comes of all.
abbrev pub invariant-loop-event : goal.invariant-loop-event
invariant-loop-event g l =
    l.outcomes.items ++ parties_log g.P.PacketKey.seal g.P.PacketKey.opening (g.K.KeySource.keys_of l.source) (drop l.event-index l.events) l.self
    ≡ parties_log g.P.PacketKey.seal g.P.PacketKey.opening (g.K.KeySource.keys_of l.source) l.events l.fn.self

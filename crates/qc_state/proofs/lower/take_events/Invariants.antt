use Rattle.std.proofs.Common.{◌≡◌, length, ◌++◌}
use Rattle.std.specs.Prelude.{map}
use Rattle.qc_streams.specs.Waits.{after}
use Rattle.qc_state.specs.Streams.{asked_for, events_of}
use Rattle.qc_state.specs.declared.events.Event.TheVariants.{Stream}
use Rattle.qc_state.proofs.lower.take_events.Given as goal

-- what was told and what waits still is what was told before and what waited; asked until none waits, the streams are what they would have been
abbrev pub invariant-loop-event : goal.invariant-loop-event
invariant-loop-event l =
    (l.events ++ map Stream (events_of l.streams) ≡ l.fn.events ++ map Stream (events_of l.fn.streams))
    × (after (asked_for (length (events_of l.streams))) l.streams ≡ after (asked_for (length (events_of l.fn.streams))) l.fn.streams)

-- fewer and fewer wait
abbrev pub decreases-loop-event : goal.decreases-loop-event
decreases-loop-event l = length (events_of l.streams)

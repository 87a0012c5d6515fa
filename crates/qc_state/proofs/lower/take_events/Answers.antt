use Rattle.std.proofs.Common.{sym}
use Rattle.qc_state.proofs.StreamEvents.{all_told, fewer_left, left_same, none_left, told_more}
use Rattle.qc_state.proofs.lower.take_events.Goals as goal

-- none waits any more
pub returns-in-None-clause-events : goal.returns-in-None-clause-events
returns-in-None-clause-events c = all_told c.loop-event.streams c.args.streams.now c.args.events.now c.loop-event.events (sym c.in-None.ensures.event) c.loop-event.invariant.0

pub returns-in-None-clause-told : goal.returns-in-None-clause-told
returns-in-None-clause-told c = none_left c.loop-event.streams c.poll.new.self _ (sym c.in-None.ensures.event) c.in-None.ensures.told c.loop-event.invariant.1

-- one was told
pub loop-event-smaller : goal.loop-event-smaller
loop-event-smaller c = fewer_left c.loop-event.streams c.poll.new.self c.in-Some.event (sym c.in-Some.ensures.event) c.in-Some.ensures.told

pub loop-event-preserved : goal.loop-event-preserved
loop-event-preserved c = (
  told_more c.loop-event.streams c.poll.new.self c.args.streams.now c.in-Some.event c.args.events.now c.loop-event.events _ (sym c.in-Some.ensures.event) c.in-Some.ensures.told c.in_ok-push_stream-in-Some.ensures.ok c.loop-event.invariant.0,
  left_same c.loop-event.streams c.poll.new.self _ c.in-Some.event (sym c.in-Some.ensures.event) c.in-Some.ensures.told c.loop-event.invariant.1,
)

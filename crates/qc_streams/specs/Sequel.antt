-- What is to be done for a stream once it was changed: the same as `settled`, of one look at it
use Rattle.std.specs.Prelude.{ℕ, ◌+◌, Bool, true, if◌then◌else◌, Option, None, Some}
use Rattle.qc_turns.specs.Marks.{marked}
use Rattle.qc_streams.specs.declared.sequel.Sequel.{Sequel}
use Rattle.qc_streams.specs.declared.sequel.Sequel.TheVariants.{Leaves, Lingers, Marks, Nothing}
use Rattle.qc_streams.specs.declared.state.StreamsState.{StreamsState}
use Rattle.qc_streams.specs.declared.stream.Stream.{Stream}
use Rattle.qc_streams.specs.Blocked.{without_blocked}
use Rattle.qc_streams.specs.Stream.{is_over}
use Rattle.qc_streams.specs.Streams.{lingering, released}
use Rattle.qc_streams.specs.Counts.{saturated}
use Rattle.qc_streams.specs.Queues.{owes_stop, queue_one, with_mark}

-- a stream that was changed is marked, unless it has ended
unfoldable pub looked_at : Stream → Stream
looked_at st = if is_over st then st else with_mark true st

-- the same, with its change
unfoldable pub settling : (Stream → Stream) → Stream → Stream
settling f st = looked_at (f st)

-- what is to be done then: a stream that has ended leaves, or stays for its STOP_SENDING, and the mark of one that had none is put
-- behind the others
unfoldable pub sequel_of : Stream → Sequel
sequel_of st = if is_over st then (if owes_stop st.receiving then Lingers else Leaves) else if st.marked then Nothing else Marks

-- the same, nothing where there is no stream
abbrev pub sequel_at : Option Stream → Sequel
sequel_at None = Nothing
sequel_at (Some st) = sequel_of st

-- that is done
abbrev pub followed : Sequel → ℕ → StreamsState → StreamsState
followed Leaves id s = released id s
followed Lingers id s = lingering id s
followed Marks id s = record s { waiting = record s.waiting { marks = marked id s.waiting.marks } }
followed Nothing id s = s

-- a stream that was written on waits from this moment on, where so many turns were given, and is marked
unfoldable pub queueing : ℕ → (Stream → Stream) → Stream → Stream
queueing turns f st = with_mark true (queue_one turns (f st))

-- a stream was written on and marked: without credit it doesn't wait for the connection any more, the number of a place that was put by
-- for it is taken, and the mark of one that had none is put behind the others
abbrev pub write_followed : (credit numbered idle : Bool) → (id : ℕ) → StreamsState → StreamsState
write_followed credit numbered idle id s = record s {
  blocked = if credit then s.blocked else without_blocked id s.blocked;
  waiting = record s.waiting {
    marks = if idle then marked id s.waiting.marks else s.waiting.marks;
    turns = if numbered then saturated (s.waiting.turns + 1) else s.waiting.turns;
  };
}

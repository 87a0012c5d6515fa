-- What a step may do to streams and to what waits of them: a statement about both that each of these keeps, every step keeps
use Rattle.std.proofs.Common.{◌≡◌, ℕ, false, List, [], ◌∷◌, None}
use Rattle.qc_streams.specs.declared.state.StreamsState.{StreamsState}
use Rattle.qc_streams.specs.declared.stream.Stream.{Stream}
use Rattle.qc_streams.specs.declared.waiting.Dues.{Dues}
use Rattle.qc_streams.specs.declared.waiting.Waiting.{Waiting}
use Rattle.qc_turns.specs.Ids.{without_id}
use Rattle.qc_streams.specs.Lending.{AllRecords}
use Rattle.qc_streams.specs.StreamBytes.{turned}
use Rattle.qc_streams.specs.Records.{changed, record_of, with_new}
use Rattle.qc_streams.specs.Stops.{StopCodes}
use Rattle.qc_streams.specs.Streams.{released}
use Rattle.qc_streams.specs.Queues.{dues_at, dues_of, filed, new_waiting, place_made, queued, touched}

-- a change that leaves a stream's mark as it was, its turn, and the place that is put by for it
pub record Stays (f : Stream → Stream) : Type 0 where
  pub mark : (st : Stream) → (f st).marked ≡ st.marked
  pub turn : (st : Stream) → (f st).turn ≡ st.turn
  pub due : (st : Stream) → (f st).due ≡ st.due

-- one that leaves what it owes as it was, but for what `d` makes of that
pub record Owes (d : Dues → Dues) (f : Stream → Stream) : Type 0 where
  pub stays : Stays f
  pub dues : (st : Stream) → dues_of (f st) ≡ d (dues_of st)

-- what is owed, without one kind of frame
abbrev pub no_reset : Dues → Dues
no_reset d = record d { reset = false }

abbrev pub no_stop : Dues → Dues
no_stop d = record d { stop = false }

abbrev pub no_credit : Dues → Dues
no_credit d = record d { credit = false }

-- a change of a stream's bytes alone
pub record OwesBytes (f : Stream → Stream) : Type 0 where
  pub stays : Stays f
  pub reset : (st : Stream) → (dues_of (f st)).reset ≡ (dues_of st).reset
  pub stop : (st : Stream) → (dues_of (f st)).stop ≡ (dues_of st).stop
  pub credit : (st : Stream) → (dues_of (f st)).credit ≡ (dues_of st).credit

-- a stream that owes nothing yet
pub record Fresh (st : Stream) : Type 0 where
  pub mark : st.marked ≡ false
  pub turn : st.turn ≡ None
  pub due : st.due ≡ None
  pub dues : dues_of st ≡ dues_at None

-- a statement of a state's streams and of what waits of them
abbrev pub On : (AllRecords → Waiting → Type 0) → StreamsState → Type 0
On P s = P s.records s.waiting

-- the stream with an id becomes f of it
abbrev pub changed_in : (Stream → Stream) → ℕ → StreamsState → StreamsState
changed_in f id s = record s { records = changed f id s.records }

-- the statement is kept
pub record Keeps (P : AllRecords → Waiting → Type 0) : Type 0 where
  -- it holds at the start
  pub nothing : P [] new_waiting
  -- a stream changes that owes what it owed
  pub quiet : (f : Stream → Stream) → Owes (λ d. d) f → (id : ℕ) (all : AllRecords) (w : Waiting) → P all w → P (changed f id all) w
  -- a stream changes, and is marked
  pub looked : (f : Stream → Stream) → Stays f → (id : ℕ) (s : StreamsState) → On P s → On P (touched id (changed_in f id s))
  -- a stream changes, waits from then on, and is marked
  pub queued : (f : Stream → Stream) → Stays f → (id : ℕ) (s : StreamsState) → On P s → On P (touched id (queued id (changed_in f id s)))
  -- a stream changes, and leaves
  pub gone : (f : Stream → Stream) → Stays f → (id : ℕ) (s : StreamsState) → On P s → On P (released id (changed_in f id s))
  -- a stream is opened
  pub comes : (id : ℕ) (st : Stream) → Fresh st → (all : AllRecords) (w : Waiting) → record_of id all ≡ None → P all w → P (with_new id st all) (place_made w)
  -- the oldest mark is taken off
  pub filed : (id : ℕ) (ids : List ℕ) (s : StreamsState) → s.waiting.marks.ids ≡ id ∷ ids → On P s → On P (filed id s)
  -- a frame of a stream is sealed
  pub reset : (f : Stream → Stream) → Owes no_reset f → (id : ℕ) (all : AllRecords) (w : Waiting) → P all w
      → P (changed f id all) (record w { resets = without_id id w.resets })
  pub stop : (f : Stream → Stream) → Owes no_stop f → (id : ℕ) (all : AllRecords) (w : Waiting) → P all w
      → P (changed f id all) (record w { stops = without_id id w.stops })
  pub credit : (f : Stream → Stream) → Owes no_credit f → (id : ℕ) (all : AllRecords) (w : Waiting) → P all w
      → P (changed f id all) (record w { credits = without_id id w.credits })
  -- bytes of a stream are sealed
  pub part : (f : Stream → Stream) → OwesBytes f → (id : ℕ) (s : StreamsState) → On P s → On P (turned id (changed_in f id s))
  -- a STOP_SENDING of a stream that has gone waits, or waits no more
  pub gone_stops : (codes : StopCodes) (all : AllRecords) (w : Waiting) → P all w → P all (record w { gone_stops = codes })

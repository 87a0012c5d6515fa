-- What waits to be sent for single streams, and whose turn it is
use Rattle.std.specs.Prelude.{ℕ, ℤ, neg_ℤ, zero, suc, pos, ◌+◌, Bool, true, false, not, ◌&&◌, ◌||◌, if◌then◌else◌, List, [], ◌∷◌, Option, None, Some, is_some}
use Rattle.qc_recv.specs.declared.recv.Recv.{Recv}
use Rattle.qc_send_stream.specs.declared.send.SendPart.{SendPart}
use Rattle.qc_send_stream.specs.Sending.{has_more, reset_owed}
use Rattle.qc_turns.specs.Marks.{no_marks, place_added, place_dropped, marked, unmarked}
use Rattle.qc_turns.specs.Ids.{first_id, with_id, without_id}
use Rattle.qc_turns.specs.Ready.{with_place, without_place}
use Rattle.qc_streams.specs.declared.stream.Stream.{Stream}
use Rattle.qc_streams.specs.declared.waiting.Dues.{Dues}
use Rattle.qc_streams.specs.declared.waiting.Waiting.{Waiting}
use Rattle.qc_streams.specs.declared.state.StreamsState.{StreamsState}
use Rattle.qc_streams.specs.Counts.{saturated}
use Rattle.qc_streams.specs.Records.{record_of, changed}

-- nothing waits
unfoldable pub new_waiting : Waiting
new_waiting = record { marks = no_marks; resets = []; stops = []; gone_stops = []; credits = []; ready = []; turns = 0 }

-- a stream that is opened has a place for its mark
unfoldable pub place_made : Waiting → Waiting
place_made w = record w { marks = place_added w.marks }

-- so many are opened
unfoldable pub places_made : ℕ → Waiting → Waiting
places_made zero w = w
places_made (suc k) w = place_made (places_made k w)

-- the place of a stream that leaves
unfoldable pub place_left : Waiting → Waiting
place_left w = record w { marks = place_dropped w.marks }

-- whether a RESET_STREAM waits
abbrev pub owes_reset : Option SendPart → Bool
owes_reset None = false
owes_reset (Some p) = is_some (reset_owed p)

-- whether bytes wait, or the end
abbrev pub owes_data : Option SendPart → Bool
owes_data None = false
owes_data (Some p) = has_more p

-- whether a STOP_SENDING waits
abbrev pub owes_stop : Option Recv → Bool
owes_stop None = false
owes_stop (Some r) = r.stop_waits

-- whether a MAX_STREAM_DATA waits
abbrev pub owes_credit : Option Recv → Bool
owes_credit None = false
owes_credit (Some r) = r.credit_waits

-- what waits of a stream
unfoldable pub dues_of : Stream → Dues
dues_of st = record {
  reset = owes_reset st.sending;
  stop = owes_stop st.receiving;
  credit = owes_credit st.receiving;
  bytes = owes_data st.sending;
}

-- nothing waits of a stream that isn't there
abbrev pub dues_at : Option Stream → Dues
dues_at None = record { reset = false; stop = false; credit = false; bytes = false }
dues_at (Some st) = dues_of st

-- a stream's mark
unfoldable pub with_mark : Bool → Stream → Stream
with_mark marked st = record st { marked = marked }

-- a stream's place among those that have bytes to send; none is put by for it any more
unfoldable pub with_turn : Option (ℤ × ℕ) → Stream → Stream
with_turn turn st = record st { turn = turn; due = None }

-- whether there is a stream that isn't marked
abbrev pub is_idle : Option Stream → Bool
is_idle None = false
is_idle (Some st) = not st.marked

-- what a stream owes is to be looked at: it is marked, unless it is
unfoldable pub touched : ℕ → StreamsState → StreamsState
touched id s = record s {
  records = changed (with_mark true) id s.records;
  waiting = record s.waiting { marks = if is_idle (record_of id s.records) then marked id s.waiting.marks else s.waiting.marks };
}

-- the place of a stream
abbrev pub turn_at : Option Stream → Option (ℤ × ℕ)
turn_at None = None
turn_at (Some st) = st.turn

-- the place that is put by for a stream
abbrev pub due_at : Option Stream → Option (ℤ × ℕ)
due_at None = None
due_at (Some st) = st.due

-- a place that is put by, or where there is none another
abbrev pub or_next : Option (ℤ × ℕ) → ℤ × ℕ → ℤ × ℕ
or_next None next = next
or_next (Some place) next = place

-- the priority of a stream
abbrev pub priority_at : Option Stream → ℤ
priority_at None = pos 0
priority_at (Some st) = st.priority

-- a stream gives its place up
abbrev pub left_from : Option (ℤ × ℕ) → ℕ → StreamsState → StreamsState
left_from None id s = s
left_from (Some place) id s = record s {
  records = changed (with_turn None) id s.records;
  waiting = record s.waiting { ready = without_place place s.waiting.ready };
}

-- a stream gives its place up, where it has one
unfoldable pub left : ℕ → StreamsState → StreamsState
left id s = left_from (turn_at (record_of id s.records)) id s

-- a stream takes a place
unfoldable pub entered : ℤ × ℕ → ℕ → StreamsState → StreamsState
entered place id s = record s {
  records = changed (with_turn (Some place)) id s.records;
  waiting = record s.waiting { ready = with_place place id s.waiting.ready; turns = saturated (s.waiting.turns + 1) };
}

-- the place behind all others of a stream's priority
unfoldable pub next_place : ℕ → StreamsState → ℤ × ℕ
next_place id s = (neg_ℤ (priority_at (record_of id s.records)), s.waiting.turns)

-- the place that is put by for a stream whose bytes wait, or its end: as long as it has neither a place nor one that is put by, the
-- next one
abbrev pub due_next : Bool → Option (ℤ × ℕ) → Option (ℤ × ℕ) → ℤ × ℕ → Option (ℤ × ℕ)
due_next true None None next = Some next
due_next true None (Some place) next = Some place
due_next true (Some turn) due next = due
due_next false turn due next = None

-- a stream began to wait, where so many turns were given: its place is put by, with the priority of that moment
unfoldable pub queue_one : ℕ → Stream → Stream
queue_one turns st = record st { due = due_next (dues_of st).bytes st.turn st.due (neg_ℤ st.priority, turns) }

-- whether that takes a number
abbrev pub takes_number : Option Stream → Bool
takes_number None = false
takes_number (Some st) = (dues_of st).bytes && (not (is_some st.turn) && not (is_some st.due))

-- the stream with an id began to wait: its first turn is that of this moment, and not of that when it is looked at
unfoldable pub queued : ℕ → StreamsState → StreamsState
queued id s = record s {
  records = changed (queue_one s.waiting.turns) id s.records;
  waiting = record s.waiting { turns = if takes_number (record_of id s.records) then saturated (s.waiting.turns + 1) else s.waiting.turns };
}

-- a stream has a place exactly where bytes wait, or the end: the one that was put by, or the next one
abbrev pub turn_filed : Bool → Option (ℤ × ℕ) → ℕ → StreamsState → StreamsState
turn_filed true None id s = entered (or_next (due_at (record_of id s.records)) (next_place id s)) id s
turn_filed true (Some place) id s = s
turn_filed false turn id s = left id s

-- a stream is in a set exactly where it owes
abbrev pub put_if : Bool → ℕ → List ℕ → List ℕ
put_if owes id ids = if owes then with_id id ids else without_id id ids

-- a stream is in each set exactly where it owes
unfoldable pub sets_filed : Dues → ℕ → Waiting → Waiting
sets_filed d id w = record w { resets = put_if d.reset id w.resets; stops = put_if d.stop id w.stops; credits = put_if d.credit id w.credits }

-- whether a frame without bytes waits of a stream
abbrev pub owes_frames : Dues → Bool
owes_frames d = d.reset || (d.stop || d.credit)

-- whether a stream is in one of the sets
abbrev pub has_some : Waiting → Bool
has_some w = is_some (first_id w.resets) || (is_some (first_id w.stops) || is_some (first_id w.credits))

-- the oldest mark, which is a stream's, is taken off
unfoldable pub mark_off : ℕ → StreamsState → StreamsState
mark_off id s = record s {
  records = changed (with_mark false) id s.records;
  waiting = record s.waiting {
    marks = if is_some (record_of id s.records) then unmarked s.waiting.marks else place_dropped (unmarked s.waiting.marks);
  };
}

-- what a stream owes is put where it waits
unfoldable pub placed : ℕ → StreamsState → StreamsState
placed id s =
    let d : Dues = dues_at (record_of id s.records) in
    turn_filed d.bytes (turn_at (record_of id s.records)) id (record s { waiting = sets_filed d id s.waiting })

-- the same of the stream that was marked first
unfoldable pub filed : ℕ → StreamsState → StreamsState
filed id s = placed id (mark_off id s)

-- all marks are taken off, one after the other
unfoldable pub all_filed : List ℕ → StreamsState → StreamsState
all_filed [] s = s
all_filed (id ∷ ids) s = all_filed ids (filed id s)

-- what a stream is that was looked at: it takes a place where it has none and bytes wait, or the end, and gives up the one that it has
-- where neither does
abbrev pub filed_turn : Bool → Option (ℤ × ℕ) → ℤ × ℕ → Stream → Stream
filed_turn true None next st = with_turn (Some next) st
filed_turn true (Some place) next st = st
filed_turn false None next st = st
filed_turn false (Some place) next st = with_turn None st

-- the same of a stream where so many turns were given, which loses its mark
unfoldable pub file_one : ℕ → Stream → Stream
file_one turns st = filed_turn (dues_of st).bytes st.turn (or_next st.due (neg_ℤ st.priority, turns)) (with_mark false st)

-- the place that a stream takes, where so many turns were given: the one that was put by, or that behind all others of its priority
abbrev pub place_behind : ℕ → Option Stream → ℤ × ℕ
place_behind turns found = or_next (due_at found) (neg_ℤ (priority_at found), turns)

-- a stream takes the next place where it has none, and gives up the one that it has, by whether bytes wait, or the end
abbrev pub turn_moved : Bool → Option (ℤ × ℕ) → ℤ × ℕ → ℕ → Waiting → Waiting
turn_moved true None next id w = record w { ready = with_place next id w.ready; turns = saturated (w.turns + 1) }
turn_moved true (Some place) next id w = w
turn_moved false None next id w = w
turn_moved false (Some place) next id w = record w { ready = without_place place w.ready }

-- the oldest mark is taken off; its place goes with its stream
abbrev pub mark_taken : Bool → Waiting → Waiting
mark_taken known w = record w { marks = if known then unmarked w.marks else place_dropped (unmarked w.marks) }

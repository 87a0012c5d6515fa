-- What is counted on all streams together, and the events that wait: what the parts of steps leave of them
use Rattle.std.proofs.Common.{◌≡◌, ◌∙◌, ℕ, ◌+◌, Bool, true, false, cond, nat_lt, List, [], ◌∷◌, ◌++◌, Option, None, Some, is_some, arith, refl}
use Rattle.std.specs.Prelude.{ℤ}
use Rattle.qc_base.specs.declared.varint.VarInt.{VarInt}
use Rattle.qc_recv.specs.Owed.{stop_lost}
use Rattle.qc_send_stream.specs.declared.fault.WriteError.{WriteError}
use Rattle.qc_send_stream.specs.declared.fault.WriteError.TheVariants.{Blocked, ClosedStream, Stopped as WriteStopped, OutOfMemory}
use Rattle.qc_send_stream.specs.declared.send.SendPart.{SendPart}
use Rattle.qc_send_stream.specs.Sending.{was_blocked}
use Rattle.qc_streams.specs.declared.control.Control.{Control}
use Rattle.qc_streams.specs.declared.control.Control.TheVariants.{Reset, Stop, MaxData, MaxStreamData, MaxStreams}
use Rattle.qc_streams.specs.declared.events.StreamEvent.{StreamEvent}
use Rattle.qc_streams.specs.declared.events.StreamEvent.TheVariants.{Writable}
use Rattle.qc_streams.specs.declared.parts.StreamPart.{StreamPart}
use Rattle.qc_streams.specs.declared.state.StreamsState.{StreamsState}
use Rattle.qc_streams.specs.declared.stream.Stream.{Stream}
use Rattle.qc_streams.specs.Blocked.{BlockedIds, is_below}
use Rattle.qc_streams.specs.Calls.{if_known, sends, write_refused}
use Rattle.qc_streams.specs.Control.{control_acked, control_lost, control_sealed, stop_again}
use Rattle.qc_streams.specs.Credit.{credit_lost, credit_sealed}
use Rattle.qc_streams.specs.Events.{EventQueue, event_placed, given_up_if, place_given_up, place_put_by, put_by_if}
use Rattle.qc_streams.specs.Finishing.{finished_now, says_finished, times_finished}
use Rattle.qc_streams.specs.Owed.{max_data_lost, max_data_sealed, max_streams_lost, max_streams_sealed}
use Rattle.qc_streams.specs.StreamBytes.{place_again, sealed_part, turned}
use Rattle.qc_streams.specs.Records.{changed, record_of}
use Rattle.qc_streams.specs.Stops.{with_stop}
use Rattle.qc_streams.specs.Stream.{has_ended, with_receiving, with_sending}
use Rattle.qc_streams.specs.Streams.{dir_of, forgotten, fresh_peer, is_peer_unopened, left_over, lingering, met, opened_with, released, removed, settled, stops_later}
use Rattle.qc_streams.specs.Queues.{all_filed, dues_at, entered, filed, left, left_from, mark_off, placed, queued, touched, turn_at, turn_filed}
use Rattle.qc_streams.specs.Writable.{all_told, credit_at, has_place_at, has_room, held_up, needs_place_at, passed, place_reserved, told_first, writables_told}

-- a state counts what another does, and the same events wait
pub record Beside (s t : StreamsState) : Type 0 where
  pub outgoing : t.outgoing ≡ s.outgoing
  pub received : t.incoming.received ≡ s.incoming.received
  pub events : t.events.items ≡ s.events.items

here : (s : StreamsState) → Beside s s
here s = record { outgoing = refl; received = refl; events = refl }

pub beside_then : (s t u : StreamsState) → Beside s t → Beside t u → Beside s u
beside_then s t u first then = record {
  outgoing = then.outgoing ∙ first.outgoing;
  received = then.received ∙ first.received;
  events = then.events ∙ first.events;
}

left_from_beside : (turn : Option (ℤ × ℕ)) (id : ℕ) (s : StreamsState) → Beside s (left_from turn id s)
left_from_beside None id s = record { outgoing = refl; received = refl; events = refl }
left_from_beside (Some place) id s = record { outgoing = refl; received = refl; events = refl }

pub left_beside : (id : ℕ) (s : StreamsState) → Beside s (left id s)
unfolding left
left_beside id s = left_from_beside (turn_at (record_of id s.records)) id s

pub released_beside : (id : ℕ) (s : StreamsState) → Beside s (released id s)
unfolding released removed forgotten
released_beside id s =
    let h = left_beside id (forgotten id s) in record {
      outgoing = h.outgoing;
      received = h.received;
      events = h.events;
    }

pub settled_beside : (id : ℕ) (s : StreamsState) → Beside s (settled id s)
unfolding settled lingering touched
settled_beside id s = by (has_ended (record_of id s.records)) (stops_later (record_of id s.records))
  where
    by : (b c : Bool) → Beside s (cond b (cond c (lingering id s) (released id s)) (touched id s))
    by true true = record { outgoing = refl; received = refl; events = refl }
    by true false = released_beside id s
    by false c = record { outgoing = refl; received = refl; events = refl }

pub left_over_beside : (id : ℕ) (s : StreamsState) → Beside s (left_over id s)
unfolding left_over
left_over_beside id s = by (has_ended (record_of id s.records))
  where
    by : (b : Bool) → Beside s (cond b (released id s) s)
    by true = released_beside id s
    by false = here s

pub met_beside : (f : Stream → Stream) (id : ℕ) (s : StreamsState) → Beside s (met f id s)
unfolding met opened_with
met_beside f id s = by (is_peer_unopened id s)
  where
    by : (b : Bool) → Beside s (cond b (opened_with id (f (fresh_peer (dir_of id) s)) s) (record s { records = changed f id s.records }))
    by true = record { outgoing = refl; received = refl; events = refl }
    by false = record { outgoing = refl; received = refl; events = refl }

turn_filed_beside : (owes : Bool) (turn : Option (ℤ × ℕ)) (id : ℕ) (s : StreamsState) → Beside s (turn_filed owes turn id s)
unfolding entered
turn_filed_beside true None id s = record { outgoing = refl; received = refl; events = refl }
turn_filed_beside true (Some place) id s = here s
turn_filed_beside false turn id s = left_beside id s

filed_beside : (id : ℕ) (s : StreamsState) → Beside s (filed id s)
unfolding filed placed mark_off
filed_beside id s =
    let h = turn_filed_beside _ _ id _ in record {
      outgoing = h.outgoing;
      received = h.received;
      events = h.events;
    }

pub all_filed_beside : (ids : List ℕ) (s : StreamsState) → Beside s (all_filed ids s)
unfolding all_filed
all_filed_beside [] s = here s
all_filed_beside (id ∷ ids) s = beside_then s (filed id s) _ (filed_beside id s) (all_filed_beside ids (filed id s))

turned_beside : (id : ℕ) (s : StreamsState) → Beside s (turned id s)
unfolding turned entered
turned_beside id s = by (dues_at (record_of id s.records)).bytes (left_beside id s)
  where
    by : (b : Bool) → Beside s (left id s) → Beside s (cond b (entered (place_again id (left id s)) id (left id s)) (left id s))
    by true h = record { outgoing = h.outgoing; received = h.received; events = h.events }
    by false h = h

reserved_items : (needs : Bool) (q : EventQueue) → (put_by_if needs q).items ≡ q.items
unfolding place_put_by
reserved_items true q = refl
reserved_items false q = refl

released_items : (has : Bool) (q : EventQueue) → (given_up_if has q).items ≡ q.items
unfolding place_given_up
released_items true q = refl
released_items false q = refl

pub sends_beside : (f : SendPart → SendPart) (id : ℕ) (s : StreamsState) → Beside s (sends f id s)
unfolding sends touched queued passed
sends_beside f id s = record { outgoing = refl; received = refl; events = released_items (has_place_at (record_of id s.records)) s.events }

pub refused_beside : (e : WriteError) (id : ℕ) (s : StreamsState) → Beside s (write_refused e id s)
unfolding write_refused held_up
refused_beside Blocked id s = by s.closed
  where
    by : (b : Bool)
        → Beside s (cond b s (place_reserved (needs_place_at (record_of id s.records)) (held_up (credit_at (record_of id s.records)) id (record s { records = changed (with_sending (if_known was_blocked)) id s.records }))))
    by true = here s
    by false = record {
      outgoing = refl;
      received = refl;
      events = reserved_items (needs_place_at (record_of id s.records)) s.events;
    }
refused_beside ClosedStream id s = here s
refused_beside (WriteStopped code) id s = here s
refused_beside OutOfMemory id s = here s

pub sealed_beside : (c : Control) (s : StreamsState) → Beside s (control_sealed c s)
unfolding control_sealed max_data_sealed max_streams_sealed credit_sealed
sealed_beside (Reset id code size) s = record { outgoing = refl; received = refl; events = refl }
sealed_beside (Stop id code) s =
    let h = left_over_beside id _ in record {
      outgoing = h.outgoing;
      received = h.received;
      events = h.events;
    }
sealed_beside (MaxData limit) s = record { outgoing = refl; received = refl; events = refl }
sealed_beside (MaxStreamData id limit) s = record { outgoing = refl; received = refl; events = refl }
sealed_beside (MaxStreams dir limit) s = record { outgoing = refl; received = refl; events = refl }

again_beside : (id : ℕ) (code : VarInt) (s : StreamsState) → Beside s (stop_again id code s)
unfolding stop_again touched
again_beside id code s = by (is_some (record_of id s.records))
  where
    by : (b : Bool) → Beside s (cond b (touched id (record s { records = changed (with_receiving stop_lost) id s.records }))
        (record s { waiting = record s.waiting { gone_stops = with_stop id code s.waiting.gone_stops } }))
    by true = record { outgoing = refl; received = refl; events = refl }
    by false = record { outgoing = refl; received = refl; events = refl }

pub lost_beside : (c : Control) (s : StreamsState) → Beside s (control_lost c s)
unfolding control_lost max_data_lost max_streams_lost touched credit_lost
lost_beside (Reset id code size) s = record { outgoing = refl; received = refl; events = refl }
lost_beside (Stop id code) s = again_beside id code s
lost_beside (MaxData limit) s = record { outgoing = refl; received = refl; events = refl }
lost_beside (MaxStreamData id limit) s = record { outgoing = refl; received = refl; events = refl }
lost_beside (MaxStreams dir limit) s = record { outgoing = refl; received = refl; events = refl }

pub acked_beside : (c : Control) (s : StreamsState) → Beside s (control_acked c s)
unfolding control_acked
acked_beside (Reset id code size) s =
    let h = settled_beside id _ in record {
      outgoing = h.outgoing;
      received = h.received;
      events = h.events;
    }
acked_beside (Stop id code) s = here s
acked_beside (MaxData limit) s = here s
acked_beside (MaxStreamData id limit) s = here s
acked_beside (MaxStreams dir limit) s = here s

pub part_beside : (d : StreamPart) (s : StreamsState) → Beside s (sealed_part d s)
unfolding sealed_part
part_beside d s =
    let h = turned_beside d.id _ in record {
      outgoing = h.outgoing;
      received = h.received;
      events = h.events;
    }

-- ---- that streams can be written on again is told

-- a state counts what another does, and as often it waits to be told that a stream is finished
pub record Telling (s t : StreamsState) : Type 0 where
  pub outgoing : t.outgoing ≡ s.outgoing
  pub received : t.incoming.received ≡ s.incoming.received
  pub finished : (id : ℕ) → times_finished id t.events.items ≡ times_finished id s.events.items

no_telling : (s : StreamsState) → Telling s s
no_telling s = record { outgoing = refl; received = refl; finished = λ id. refl }

telling_then : (s t u : StreamsState) → Telling s t → Telling t u → Telling s u
telling_then s t u first then = record {
  outgoing = then.outgoing ∙ first.outgoing;
  received = then.received ∙ first.received;
  finished = λ id. then.finished id ∙ first.finished id;
}

-- an event that is put behind others
pub one_more : (id : ℕ) (es : List StreamEvent) (e : StreamEvent) → times_finished id (es ++ e ∷ []) ≡ times_finished id es + finished_now id (Some e)
unfolding times_finished finished_now
one_more id [] e = omega arith
one_more id (x ∷ es) e = let rest = one_more id es e in omega (arith, rest)

says_writable : (id j : ℕ) → finished_now id (Some (Writable j)) ≡ 0
unfolding finished_now says_finished
says_writable id j = refl

placed_times : (id j : ℕ) (q : EventQueue) → times_finished id (event_placed (Writable j) q).items ≡ times_finished id q.items
unfolding event_placed
placed_times id j q = by (nat_lt 0 q.places)
  where
    by : (b : Bool) → times_finished id (cond b (q.items ++ Writable j ∷ []) q.items) ≡ times_finished id q.items
    by true = omega (arith, one_more id q.items (Writable j), says_writable id j)
    by false = refl

first_telling : (x : ℕ × ℕ) (xs : BlockedIds) (s : StreamsState) → Telling s (told_first x xs s)
first_telling x xs s = record { outgoing = refl; received = refl; finished = λ id. placed_times id x.1 s.events }

all_telling : (below : Option ℕ) (ids : BlockedIds) (s : StreamsState) → Telling s (all_told below ids s)
unfolding all_told
all_telling below [] s = no_telling s
all_telling below (x ∷ xs) s = by (is_below below x.1) (all_telling below xs (told_first x xs s))
  where
    by : (b : Bool) → Telling (told_first x xs s) (all_told below xs (told_first x xs s)) → Telling s (cond b (all_told below xs (told_first x xs s)) s)
    by true rest = telling_then s (told_first x xs s) (all_told below xs (told_first x xs s)) (first_telling x xs s) rest
    by false rest = no_telling s

pub told_telling : (below : Option ℕ) (s : StreamsState) → Telling s (writables_told below s)
unfolding writables_told
told_telling below s = by (has_room s)
  where
    by : (b : Bool) → Telling s (cond b (all_told below s.blocked s) s)
    by true = all_telling below s.blocked s
    by false = no_telling s

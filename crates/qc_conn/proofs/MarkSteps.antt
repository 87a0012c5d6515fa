-- Each step of the streams leaves the mark that the connection has failed, but the one that sets it.
use Rattle.std.proofs.Common.{◌≡◌, ◌∙◌, ℕ, Bool, true, false, cond, ◌||◌, List, [], ◌∷◌, Option, None, Some, is_some, refl}
use Rattle.std.specs.Prelude.{ℤ}
use Rattle.std.specs.List.{list_any}
use Rattle.qc_base.specs.declared.side.Dir.{Dir}
use Rattle.qc_base.specs.declared.side.Dir.TheVariants.{Bi, Uni}
use Rattle.qc_base.specs.declared.varint.VarInt.{VarInt}
use Rattle.qc_recv.specs.declared.recv.Recv.{Recv}
use Rattle.qc_recv.specs.Owed.{stop_lost}
use Rattle.qc_recv.specs.Receiving.{reset_asked, reset_taken, stop_asked, stream_taken}
use Rattle.qc_send_stream.specs.declared.fault.WriteError.{WriteError}
use Rattle.qc_send_stream.specs.declared.fault.WriteError.TheVariants.{Blocked, ClosedStream, Stopped as WriteStopped, OutOfMemory}
use Rattle.qc_send_stream.specs.Sending.{was_blocked, was_reset}
use Rattle.qc_streams.specs.declared.control.Control.{Control}
use Rattle.qc_streams.specs.declared.control.Control.TheVariants.{Reset, Stop, MaxData, MaxStreamData, MaxStreams}
use Rattle.qc_streams.specs.declared.events.StreamEvent.TheVariants.{Finished as FinishedEvent}
use Rattle.qc_streams.specs.declared.parts.StreamPart.{StreamPart}
use Rattle.qc_streams.specs.declared.state.PeerLimits.{PeerLimits}
use Rattle.qc_streams.specs.declared.state.StreamsState.{StreamsState}
use Rattle.qc_streams.specs.declared.stream.Stream.{Stream}
use Rattle.qc_streams.specs.Blocked.{BlockedIds, is_below}
use Rattle.qc_streams.specs.Calls.{after_read, gives, if_known, reading_begun, resets, sends, write_refused, wrote}
use Rattle.qc_streams.specs.Control.{control_acked, control_lost, control_sealed, stop_again}
use Rattle.qc_streams.specs.Credit.{outgoing_raised}
use Rattle.qc_streams.specs.Early.{early_refused}
use Rattle.qc_streams.specs.Events.{first_dropped}
use Rattle.qc_streams.specs.Frames.{comes, limit_came, reset_came, stop_came, stream_came, stream_limit_came, streams_limit_came}
use Rattle.qc_streams.specs.Owed.{max_data_lost, max_data_sealed, max_streams_lost, max_streams_sealed, polled, told_opened}
use Rattle.qc_streams.specs.StreamBytes.{bytes_acked, bytes_gone, bytes_lost, bytes_taken, place_again, sealed_part, turned}
use Rattle.qc_streams.specs.Records.{changed, record_of}
use Rattle.qc_streams.specs.Settings.{max_concurrent_set, priority_set, receive_window_set, send_window_set}
use Rattle.qc_streams.specs.Stops.{with_stop}
use Rattle.qc_streams.specs.Stream.{has_ended, limit_taken, stop_taken, with_receiving, with_sending}
use Rattle.qc_streams.specs.Streams.{accepted_one, counted, dir_of, forgotten, fresh_peer, is_peer_unopened, left_over, limits_set, lingering, met, opened_own, opened_with, released, removed, settled, stops_later, told_if}
use Rattle.qc_streams.specs.Queues.{all_filed, dues_at, entered, filed, left, left_from, mark_off, placed, queued, touched, turn_at, turn_filed}
use Rattle.qc_streams.specs.Waits.{Step, LimitsKnown, EarlyRefused, Closed, Failed, Opened, Accepted, Wrote, Refused, Finished, WasReset, Began, Read, Stopped, ResetAsked, PrioritySet, SendWindowSet, ReceiveWindowSet, ConcurrentSet, Polled, StreamCame, ResetCame, StopCame, StreamLimitCame, StreamsLimitCame, LimitCame, MarksFiled, ControlSealed, ControlLost, ControlAcked, PartSealed, BytesLost, BytesAcked, after, after_step}
use Rattle.qc_streams.specs.Writable.{all_told, credit_at, has_room, held_up, needs_place_at, passed, place_reserved, told_first, watched, writables_told}

-- ---- parts of steps

-- it is told that streams can be written on again
all_told_mark : (below : Option ℕ) (ids : BlockedIds) (s : StreamsState) → (all_told below ids s).failed ≡ s.failed
unfolding all_told
all_told_mark below [] s = refl
all_told_mark below (x ∷ xs) s = by (is_below below x.1) (all_told_mark below xs (told_first x xs s))
  where
    by : (b : Bool) → (all_told below xs (told_first x xs s)).failed ≡ s.failed → (cond b (all_told below xs (told_first x xs s)) s).failed ≡ s.failed
    by true rest = rest
    by false rest = refl

told_mark : (below : Option ℕ) (s : StreamsState) → (writables_told below s).failed ≡ s.failed
unfolding writables_told
told_mark below s = by (has_room s)
  where
    by : (b : Bool) → (cond b (all_told below s.blocked s) s).failed ≡ s.failed
    by true = all_told_mark below s.blocked s
    by false = refl

-- turns, and streams that leave
left_from_mark : (turn : Option (ℤ × ℕ)) (id : ℕ) (s : StreamsState) → (left_from turn id s).failed ≡ s.failed
left_from_mark None id s = refl
left_from_mark (Some place) id s = refl

left_mark : (id : ℕ) (s : StreamsState) → (left id s).failed ≡ s.failed
unfolding left
left_mark id s = left_from_mark (turn_at (record_of id s.records)) id s

released_mark : (id : ℕ) (s : StreamsState) → (released id s).failed ≡ s.failed
unfolding released removed forgotten
released_mark id s = left_mark id (forgotten id s)

settled_mark : (id : ℕ) (s : StreamsState) → (settled id s).failed ≡ s.failed
unfolding settled lingering touched
settled_mark id s = by (has_ended (record_of id s.records)) (stops_later (record_of id s.records))
  where
    by : (b c : Bool) → (cond b (cond c (lingering id s) (released id s)) (touched id s)).failed ≡ s.failed
    by true true = refl
    by true false = released_mark id s
    by false c = refl

left_over_mark : (id : ℕ) (s : StreamsState) → (left_over id s).failed ≡ s.failed
unfolding left_over
left_over_mark id s = by (has_ended (record_of id s.records))
  where
    by : (b : Bool) → (cond b (released id s) s).failed ≡ s.failed
    by true = released_mark id s
    by false = refl

turn_filed_mark : (owes : Bool) (turn : Option (ℤ × ℕ)) (id : ℕ) (s : StreamsState) → (turn_filed owes turn id s).failed ≡ s.failed
unfolding entered
turn_filed_mark true None id s = refl
turn_filed_mark true (Some place) id s = refl
turn_filed_mark false turn id s = left_mark id s

filed_mark : (id : ℕ) (s : StreamsState) → (filed id s).failed ≡ s.failed
unfolding filed placed mark_off
filed_mark id s = turn_filed_mark _ _ id _

all_filed_mark : (ids : List ℕ) (s : StreamsState) → (all_filed ids s).failed ≡ s.failed
unfolding all_filed
all_filed_mark [] s = refl
all_filed_mark (id ∷ ids) s = all_filed_mark ids (filed id s) ∙ filed_mark id s

turned_mark : (id : ℕ) (s : StreamsState) → (turned id s).failed ≡ s.failed
unfolding turned entered
turned_mark id s = by (dues_at (record_of id s.records)).bytes (left_mark id s)
  where
    by : (b : Bool) → (left id s).failed ≡ s.failed → (cond b (entered (place_again id (left id s)) id (left id s)) (left id s)).failed ≡ s.failed
    by true h = h
    by false h = h

-- frames that come
met_mark : (f : Stream → Stream) (id : ℕ) (s : StreamsState) → (met f id s).failed ≡ s.failed
unfolding met opened_with
met_mark f id s = by (is_peer_unopened id s)
  where
    by : (b : Bool) → (cond b (opened_with id (f (fresh_peer (dir_of id) s)) s) (record s { records = changed f id s.records })).failed ≡ s.failed
    by true = refl
    by false = refl

comes_mark : (g : Recv → Recv) (id : ℕ) (s : StreamsState) → (comes g id s).failed ≡ s.failed
unfolding comes counted
comes_mark g id s = settled_mark id _ ∙ met_mark (with_receiving g) id s

-- calls
gives_mark : (g : Recv → Recv) (id : ℕ) (s : StreamsState) → (gives g id s).failed ≡ s.failed
unfolding gives counted
gives_mark g id s = settled_mark id _

refused_mark : (e : WriteError) (id : ℕ) (s : StreamsState) → (write_refused e id s).failed ≡ s.failed
unfolding write_refused held_up
refused_mark Blocked id s = by s.closed
  where
    by : (b : Bool)
        → (cond b s (place_reserved (needs_place_at (record_of id s.records)) (held_up (credit_at (record_of id s.records)) id (record s { records = changed (with_sending (if_known was_blocked)) id s.records })))).failed ≡ s.failed
    by true = refl
    by false = refl
refused_mark ClosedStream id s = refl
refused_mark (WriteStopped code) id s = refl
refused_mark OutOfMemory id s = refl

polled_mark : (s : StreamsState) → (polled s).failed ≡ s.failed
unfolding polled told_opened
polled_mark s = by s.peer.bi.tells s.peer.uni.tells
  where
    by : (b c : Bool) → (cond b (told_opened Bi s) (cond c (told_opened Uni s) (record s { events = first_dropped s.events }))).failed ≡ s.failed
    by true c = refl
    by false true = refl
    by false false = refl

-- frames that are sealed, lost and acknowledged
sealed_mark : (c : Control) (s : StreamsState) → (control_sealed c s).failed ≡ s.failed
unfolding control_sealed max_data_sealed max_streams_sealed
sealed_mark (Reset id code size) s = refl
sealed_mark (Stop id code) s = left_over_mark id _
sealed_mark (MaxData limit) s = refl
sealed_mark (MaxStreamData id limit) s = refl
sealed_mark (MaxStreams dir limit) s = refl

again_mark : (id : ℕ) (code : VarInt) (s : StreamsState) → (stop_again id code s).failed ≡ s.failed
unfolding stop_again touched
again_mark id code s = by (is_some (record_of id s.records))
  where
    by : (b : Bool) → (cond b (touched id (record s { records = changed (with_receiving stop_lost) id s.records }))
        (record s { waiting = record s.waiting { gone_stops = with_stop id code s.waiting.gone_stops } })).failed ≡ s.failed
    by true = refl
    by false = refl

lost_mark : (c : Control) (s : StreamsState) → (control_lost c s).failed ≡ s.failed
unfolding control_lost max_data_lost max_streams_lost touched
lost_mark (Reset id code size) s = refl
lost_mark (Stop id code) s = again_mark id code s
lost_mark (MaxData limit) s = refl
lost_mark (MaxStreamData id limit) s = refl
lost_mark (MaxStreams dir limit) s = refl

acked_mark : (c : Control) (s : StreamsState) → (control_acked c s).failed ≡ s.failed
unfolding control_acked
acked_mark (Reset id code size) s = settled_mark id _
acked_mark (Stop id code) s = refl
acked_mark (MaxData limit) s = refl
acked_mark (MaxStreamData id limit) s = refl
acked_mark (MaxStreams dir limit) s = refl

part_mark : (d : StreamPart) (s : StreamsState) → (sealed_part d s).failed ≡ s.failed
unfolding sealed_part
part_mark d s = turned_mark d.id _

-- settings
pub concurrent_mark : (dir : Dir) (n : ℕ) (s : StreamsState) → (max_concurrent_set dir n s).failed ≡ s.failed
unfolding max_concurrent_set
concurrent_mark dir n s = refl

pub send_window_mark : (n : ℕ) (s : StreamsState) → (send_window_set n s).failed ≡ s.failed
unfolding send_window_set
send_window_mark n s = told_mark None (record s { send_window = n })

pub receive_window_mark : (n : ℕ) (s : StreamsState) → (receive_window_set n s).failed ≡ s.failed
unfolding receive_window_set
receive_window_mark n s = refl

-- ---- steps

-- whether a step marks the connection as failed
abbrev pub is_failing : Step → Bool
is_failing Failed = true
is_failing _ = false

pub step_mark : (x : Step) (s : StreamsState) → is_failing x ≡ false → (after_step x s).failed ≡ s.failed
unfolding after_step early_refused opened_own reading_begun accepted_one priority_set resets sends passed wrote queued touched stream_came reset_came stop_came stream_limit_came watched streams_limit_came limit_came bytes_lost bytes_acked bytes_gone bytes_taken told_if limits_set
step_mark (LimitsKnown p) s h = told_mark None _
step_mark EarlyRefused s h = refl
step_mark Closed s h = refl
step_mark Failed s h = absurd cc
step_mark (Opened dir) s h = refl
step_mark (Accepted dir) s h = refl
step_mark (Wrote id n chunk) s h = refl
step_mark (Refused e id) s h = refused_mark e id s
step_mark (Finished id) s h = refl
step_mark (WasReset code id) s h = told_mark None (sends (was_reset code) id s)
step_mark (Began ordered id) s h = refl
step_mark (Read ordered result id) s h = gives_mark (after_read ordered result) id s
step_mark (Stopped code id) s h = gives_mark (stop_asked code) id s
step_mark (ResetAsked id) s h = gives_mark reset_asked id s
step_mark (PrioritySet priority id) s h = refl
step_mark (SendWindowSet n) s h = send_window_mark n s
step_mark (ReceiveWindowSet n) s h = receive_window_mark n s
step_mark (ConcurrentSet dir n) s h = concurrent_mark dir n s
step_mark Polled s h = polled_mark s
step_mark (StreamCame id o bs last) s h = comes_mark (stream_taken o bs last) id s
step_mark (ResetCame id code size) s h = comes_mark (reset_taken code size) id s
step_mark (StopCame id code) s h = met_mark (with_sending (stop_taken code)) id s
step_mark (StreamLimitCame id limit) s h = told_mark None (watched id (met (with_sending (limit_taken limit)) id s)) ∙ met_mark (with_sending (limit_taken limit)) id s
step_mark (StreamsLimitCame dir n) s h = refl
step_mark (LimitCame n) s h = told_mark None (record s { outgoing = outgoing_raised n s.outgoing })
step_mark MarksFiled s h = all_filed_mark s.waiting.marks.ids s
step_mark (ControlSealed c) s h = sealed_mark c s
step_mark (ControlLost c) s h = lost_mark c s
step_mark (ControlAcked c) s h = acked_mark c s
step_mark (PartSealed d) s h = part_mark d s
step_mark (BytesLost id start stop last) s h = refl
step_mark (BytesAcked id start stop last) s h =
    told_mark None _ ∙ told_mark (Some id) (bytes_gone id start stop last s) ∙ settled_mark id (bytes_taken id start stop last s)

-- so do steps one after the other
pub neither : (b c : Bool) → (b || c) ≡ false → (b ≡ false) × (c ≡ false)
neither true c h = absurd cc
neither false c h = (refl, h)

pub either_none : (b c : Bool) → b ≡ false → c ≡ false → (b || c) ≡ false
either_none true c h k = cc
either_none false c h k = k

pub steps_mark : (xs : List Step) (s : StreamsState) → list_any is_failing xs ≡ false → (after xs s).failed ≡ s.failed
unfolding after
steps_mark [] s h = refl
steps_mark (x ∷ xs) s h =
    let none = neither (is_failing x) (list_any is_failing xs) h in
    steps_mark xs (after_step x s) none.1 ∙ step_mark x s none.0

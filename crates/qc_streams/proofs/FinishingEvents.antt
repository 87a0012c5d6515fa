-- That a stream is finished is told once: how often each step tells it, or has it told
use Rattle.std.proofs.Common.{◌≡◌, ◌∙◌, ℕ, ◌+◌, ◌==◌, Bool, true, false, cond, nat_lt, drop, List, [], ◌∷◌, None, Some, ap, arith, refl}
use Rattle.std.proofs.lemmas.Bool.{false≢true}
use Rattle.qc_base.specs.declared.side.Dir.TheVariants.{Bi, Uni}
use Rattle.qc_recv.specs.Receiving.{reset_taken, stream_taken}
use Rattle.qc_send_stream.specs.Sending.{finished, was_reset}
use Rattle.qc_streams.specs.declared.events.StreamEvent.{StreamEvent}
use Rattle.qc_streams.specs.declared.events.StreamEvent.TheVariants.{Opened as OpenedEvent, Available, Readable, Stopped as StoppedEvent, Finished as FinishedEvent}
use Rattle.qc_streams.specs.declared.state.StreamsState.{StreamsState}
use Rattle.qc_streams.specs.Calls.{gives, reading_begun, resets, sends, wrote}
use Rattle.qc_streams.specs.Carried.{keeps_streams}
use Rattle.qc_streams.specs.Counts.{by_dir, dir_put, own_raised}
use Rattle.qc_streams.specs.Events.{event_added, first_dropped, first_event}
use Rattle.qc_streams.specs.Finishing.{finished_now, says_finished, times_finished, with_told}
use Rattle.qc_streams.specs.Frames.{comes, limit_came, reads_more, reset_came, stop_came, stream_came, stream_limit_came, streams_limit_came}
use Rattle.qc_streams.specs.Owed.{next_event, polled, told_opened}
use Rattle.qc_streams.specs.StreamBytes.{bytes_acked, bytes_gone, bytes_lost, bytes_taken, finishes}
use Rattle.qc_streams.specs.Settings.{max_concurrent_set, priority_set, receive_window_set, send_window_set}
use Rattle.qc_streams.specs.Stream.{limit_taken, stop_taken, stops_at, with_receiving, with_sending}
use Rattle.qc_streams.specs.Streams.{accepted_one, counted, limits_set, met, opened_own, target, told_if}
use Rattle.qc_streams.specs.Queues.{queued, touched}
use Rattle.qc_streams.specs.Waits.{Step, LimitsKnown, EarlyRefused, Closed, Failed, Opened, Accepted, Wrote, Refused, Finished, WasReset, Began, Read, Stopped, ResetAsked, PrioritySet, SendWindowSet, ReceiveWindowSet, ConcurrentSet, Polled, StreamCame, ResetCame, StopCame, StreamLimitCame, StreamsLimitCame, LimitCame, MarksFiled, ControlSealed, ControlLost, ControlAcked, PartSealed, BytesLost, BytesAcked, after_step}
use Rattle.qc_streams.specs.Writable.{passed, watched, writables_told}
use Rattle.qc_streams.proofs.Beside.{acked_beside, all_filed_beside, lost_beside, met_beside, one_more, part_beside, refused_beside, sealed_beside, sends_beside, settled_beside, told_telling}

-- how often a step has it told of the stream with an id: where its bytes are acknowledged, and with them all of it
unfoldable pub tells : ℕ → Step → StreamsState → ℕ
tells id (BytesAcked j start stop last) s = cond (finishes j start stop last s) (cond (j == id) 1 0) 0
tells id x s = 0

-- ---- events that are put behind others

says_none : (id : ℕ) (e : StreamEvent) → says_finished id e ≡ false → finished_now id (Some e) ≡ 0
unfolding finished_now
says_none id e other = rw other refl

same_times : (id : ℕ) (s t : StreamsState) → t.events.items ≡ s.events.items → times_finished id t.events.items ≡ times_finished id s.events.items
same_times id s t same = ap (λ (es : List StreamEvent). times_finished id es) same

told_none : (id : ℕ) (b : Bool) (e : StreamEvent) (s t : StreamsState) → says_finished id e ≡ false → t.events.items ≡ s.events.items
    → times_finished id (told_if b e t).events.items ≡ times_finished id s.events.items
unfolding told_if event_added
told_none id false e s t other same = same_times id s t same
told_none id true e s t other same = omega (arith, one_more id t.events.items e, says_none id e other, same_times id s t same)

says_one : (id j : ℕ) → finished_now id (Some (FinishedEvent j)) ≡ cond (j == id) 1 0
unfolding finished_now says_finished
says_one id j = refl

told_one : (id j : ℕ) (b : Bool) (s t : StreamsState) → times_finished id t.events.items ≡ times_finished id s.events.items
    → times_finished id (told_if b (FinishedEvent j) t).events.items ≡ times_finished id s.events.items + cond b (cond (j == id) 1 0) 0
unfolding told_if event_added
told_one id j false s t same = omega (arith, same)
told_one id j true s t same = omega (arith, one_more id t.events.items (FinishedEvent j), says_one id j, same)

-- ---- an event is told

first_times : (id : ℕ) (es : List StreamEvent) → finished_now id (first_event es) + times_finished id (drop 1 es) ≡ times_finished id es
unfolding finished_now times_finished
first_times id [] = omega arith
first_times id (e ∷ es) = refl

polled_times : (id : ℕ) (s : StreamsState) → finished_now id (next_event s) + times_finished id (polled s).events.items ≡ times_finished id s.events.items
unfolding polled next_event told_opened first_dropped finished_now says_finished
polled_times id s = by s.peer.bi.tells s.peer.uni.tells
  where
    by : (b c : Bool)
        → finished_now id (cond b (Some (OpenedEvent Bi)) (cond c (Some (OpenedEvent Uni)) (first_event s.events.items)))
        + times_finished id (cond b (told_opened Bi s) (cond c (told_opened Uni s) (record s { events = first_dropped s.events }))).events.items
        ≡ times_finished id s.events.items
    by true c = omega arith
    by false true = omega arith
    by false false = first_times id s.events.items

-- ---- each step

-- how often it is told then, and waits to be told
pub after_times : (id : ℕ) (x : Step) (s : StreamsState) (n : ℕ) → keeps_streams x ≡ true
    → with_told id x s n + times_finished id (after_step x s).events.items ≡ n + times_finished id s.events.items + tells id x s
unfolding keeps_streams with_told tells after_step says_finished limits_set opened_own accepted_one wrote resets sends queued passed touched gives comes counted reading_begun priority_set send_window_set receive_window_set max_concurrent_set stream_came reset_came stop_came stream_limit_came watched streams_limit_came limit_came bytes_lost bytes_acked bytes_gone bytes_taken
after_times id EarlyRefused s n keeps = absurd (false≢true keeps)
after_times id Polled s n keeps = let told = polled_times id s in omega (arith, told)
after_times id (Refused e j) s n keeps = let same = same_times id s (after_step (Refused e j) s) (refused_beside e j s).events in omega (arith, same)
after_times id (Read ordered result j) s n keeps = let same = same_times id s (after_step (Read ordered result j) s) (settled_beside j _).events in omega (arith, same)
after_times id (Stopped code j) s n keeps = let same = same_times id s (after_step (Stopped code j) s) (settled_beside j _).events in omega (arith, same)
after_times id (ResetAsked j) s n keeps = let same = same_times id s (after_step (ResetAsked j) s) (settled_beside j _).events in omega (arith, same)
after_times id (StreamCame j o bs last) s n keeps =
    let same = told_none id (reads_more j s) (Readable j) s (comes (stream_taken o bs last) j s) refl ((settled_beside j _).events ∙ (met_beside (with_receiving (stream_taken o bs last)) j s).events) in omega (arith, same)
after_times id (ResetCame j code size) s n keeps =
    let same = told_none id (reads_more j s) (Readable j) s (comes (reset_taken code size) j s) refl ((settled_beside j _).events ∙ (met_beside (with_receiving (reset_taken code size)) j s).events) in omega (arith, same)
after_times id (StopCame j code) s n keeps =
    let same = told_none id (stops_at (target j s)) (StoppedEvent j code) s (met (with_sending (stop_taken code)) j s) refl (met_beside (with_sending (stop_taken code)) j s).events in omega (arith, same)
after_times id (StreamLimitCame j limit) s n keeps =
    let same = same_times id s (met (with_sending (limit_taken limit)) j s) (met_beside (with_sending (limit_taken limit)) j s).events in
    let told = (told_telling None (watched j (met (with_sending (limit_taken limit)) j s))).finished id in omega (arith, same, told)
after_times id (StreamsLimitCame dir most) s n keeps = let same = told_none id (nat_lt (by_dir dir s.own).limit most) (Available dir) s (record s { own = dir_put dir (own_raised most (by_dir dir s.own)) s.own }) refl refl in omega (arith, same)
after_times id MarksFiled s n keeps = let same = same_times id s (after_step MarksFiled s) (all_filed_beside s.waiting.marks.ids s).events in omega (arith, same)
after_times id (ControlSealed c) s n keeps = let same = same_times id s (after_step (ControlSealed c) s) (sealed_beside c s).events in omega (arith, same)
after_times id (ControlLost c) s n keeps = let same = same_times id s (after_step (ControlLost c) s) (lost_beside c s).events in omega (arith, same)
after_times id (ControlAcked c) s n keeps = let same = same_times id s (after_step (ControlAcked c) s) (acked_beside c s).events in omega (arith, same)
after_times id (PartSealed d) s n keeps = let same = same_times id s (after_step (PartSealed d) s) (part_beside d s).events in omega (arith, same)
after_times id (BytesAcked j start stop last) s n keeps =
    let gone : StreamsState = bytes_gone j start stop last s in
    let same = (told_telling (Some j) gone).finished id ∙ same_times id s gone (settled_beside j _).events in
    let told = told_one id j (finishes j start stop last s) s (writables_told (Some j) gone) same in
    let more = (told_telling None (told_if (finishes j start stop last s) (FinishedEvent j) (writables_told (Some j) gone))).finished id in omega (arith, told, more)
after_times id (LimitsKnown p) s n keeps =
    let same : times_finished id (after_step (LimitsKnown p) s).events.items ≡ times_finished id s.events.items = (told_telling None _).finished id in omega (arith, same)
after_times id Closed s n keeps = omega arith
after_times id Failed s n keeps = omega arith
after_times id (Opened dir) s n keeps = omega arith
after_times id (Accepted dir) s n keeps = omega arith
after_times id (Wrote j count chunk) s n keeps = omega arith
after_times id (Finished j) s n keeps = let same = same_times id s (sends finished j s) (sends_beside finished j s).events in omega (arith, same)
after_times id (WasReset code j) s n keeps =
    let same = same_times id s (sends (was_reset code) j s) (sends_beside (was_reset code) j s).events in
    let told = (told_telling None (sends (was_reset code) j s)).finished id in omega (arith, same, told)
after_times id (Began ordered j) s n keeps = omega arith
after_times id (PrioritySet priority j) s n keeps = omega arith
after_times id (SendWindowSet most) s n keeps =
    let same : times_finished id (after_step (SendWindowSet most) s).events.items ≡ times_finished id s.events.items = (told_telling None _).finished id in omega (arith, same)
after_times id (ReceiveWindowSet most) s n keeps = omega arith
after_times id (ConcurrentSet dir most) s n keeps = omega arith
after_times id (LimitCame most) s n keeps =
    let same : times_finished id (after_step (LimitCame most) s).events.items ≡ times_finished id s.events.items = (told_telling None _).finished id in omega (arith, same)
after_times id (BytesLost j start stop last) s n keeps = omega arith

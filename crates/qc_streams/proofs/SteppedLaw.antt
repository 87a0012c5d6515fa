-- Each step makes of the stream with an id what is said of it
use Rattle.std.proofs.Common.{◌≡◌, ℕ, Bool, true, false, cond, List, take, Option, None, Some, is_some, inl, inr, ap, sym, subst, refl}
use Rattle.std.specs.Prelude.{ℤ, ◌⊎◌}
use Rattle.qc_base.specs.declared.side.Dir.{Dir}
use Rattle.qc_base.specs.declared.side.Dir.TheVariants.{Bi, Uni}
use Rattle.qc_base.specs.declared.varint.VarInt.{VarInt}
use Rattle.qc_recv.specs.declared.recv.Recv.{Recv}
use Rattle.qc_recv.specs.Owed.{credit_lost as side_credit_lost, credit_sealed as side_credit_sealed, stop_lost, stop_sealed}
use Rattle.qc_recv.specs.Receiving.{opened, reset_asked, reset_taken, stop_asked, stream_taken}
use Rattle.qc_send_stream.specs.declared.fault.WriteError.{WriteError}
use Rattle.qc_send_stream.specs.declared.fault.WriteError.TheVariants.{Blocked, ClosedStream, Stopped as WriteStopped, OutOfMemory}
use Rattle.qc_send_stream.specs.declared.send.SendPart.{SendPart}
use Rattle.qc_send_stream.specs.Sending.{finished, is_done, limit_raised, part_acked, part_lost, part_sealed, part_written, reset_acked, reset_lost, reset_sealed, unblocked, was_blocked, was_reset, was_stopped}
use Rattle.qc_streams.specs.declared.control.Control.{Control}
use Rattle.qc_streams.specs.declared.control.Control.TheVariants.{Reset, Stop, MaxData, MaxStreamData, MaxStreams}
use Rattle.qc_streams.specs.declared.events.StreamEvent.TheVariants.{Finished as FinishedEvent}
use Rattle.qc_streams.specs.declared.parts.StreamPart.{StreamPart}
use Rattle.qc_streams.specs.declared.state.StreamsState.{StreamsState}
use Rattle.qc_streams.specs.declared.stream.Stream.{Stream}
use Rattle.qc_streams.specs.Calls.{after_read, gives, if_known, reading_begun, resets, sends, write_refused, wrote}
use Rattle.qc_streams.specs.Carried.{keeps_streams}
use Rattle.qc_streams.specs.Control.{control_acked, control_lost, control_sealed, stop_again}
use Rattle.qc_streams.specs.Counts.{own_raised}
use Rattle.qc_streams.specs.Credit.{outgoing_raised, outgoing_written}
use Rattle.qc_streams.specs.Early.{early_refused}
use Rattle.qc_streams.specs.Events.{first_dropped}
use Rattle.qc_streams.specs.Frames.{comes, limit_came, reset_came, stop_came, stream_came, stream_limit_came, streams_limit_came}
use Rattle.qc_streams.specs.Lending.{AllRecords}
use Rattle.qc_streams.specs.Owed.{max_data_lost, max_data_sealed, max_streams_lost, max_streams_sealed, polled, told_opened}
use Rattle.qc_streams.specs.StreamBytes.{bytes_acked, bytes_gone, bytes_lost, bytes_taken, finishes, part_end, sealed_part, turned}
use Rattle.qc_streams.specs.Records.{changed, on_some, record_of}
use Rattle.qc_streams.specs.Sends.{was_taken}
use Rattle.qc_streams.specs.Settings.{max_concurrent_set, priority_set, receive_window_set, send_window_set, with_priority}
use Rattle.qc_turns.specs.Ids.{without_id}
use Rattle.qc_streams.specs.Stops.{with_stop, without_stop}
use Rattle.qc_streams.specs.Stream.{limit_taken, stop_taken, totals_at, with_receiving, with_sending}
use Rattle.qc_streams.specs.Streams.{accepted_one, counted, left_over, limits_set, met, next_accepted, settled, told_if}
use Rattle.qc_streams.specs.Queues.{queued, touched}
use Rattle.qc_streams.specs.Waits.{Step, LimitsKnown, EarlyRefused, Closed, Failed, Opened, Accepted, Wrote, Refused, Finished, WasReset, Began, Read, Stopped, ResetAsked, PrioritySet, SendWindowSet, ReceiveWindowSet, ConcurrentSet, Polled, StreamCame, ResetCame, StopCame, StreamLimitCame, StreamsLimitCame, LimitCame, MarksFiled, ControlSealed, ControlLost, ControlAcked, PartSealed, BytesLost, BytesAcked, after_step}
use Rattle.qc_streams.specs.Writable.{credit_at, has_place_at, held_up, needs_place_at, passed, place_released, place_reserved, watched, writables_told}
use Rattle.qc_streams.proofs.Keyed.{Ascends}
use Rattle.qc_streams.proofs.StepAt.{Anew, Gone, SendsAlike, SteppedAt, Steps, came_to, sent_to}
use Rattle.qc_streams.proofs.SteppedAt.{Follows, Later, all_filed_follows, ascends_changed, follows_same, follows_then, later_at, later_changed, later_same, left_over_follows, noted_follows, settled_follows, told_follows, touched_follows, turned_follows}
use Rattle.qc_streams.proofs.WaitSteps.{Holds}
use Rattle.qc_streams.proofs.SteppedOpened.{met_on, met_order, opened_on}
use Rattle.qc_streams.proofs.Stepped.{ChangesNone, ChangesReceiving, ChangesSending, alike_self, keeps_on, makes_alike, makes_receiving, receives, rests_alike, rests_receiving, sends_on, still_on}
use Rattle.qc_streams.proofs.StepKinds.{accepted_none, asked_receives, began_receives, bytes_acked_sends, bytes_lost_sends, credit_acked_none, credit_lost_receives, credit_sealed_receives, data_acked_none, data_lost_none, data_sealed_none, finished_sends, limit_none, part_sends, priority_none, read_receives, refused_none, reset_acked_sends, reset_lost_sends, reset_receives, reset_sealed_sends, reset_sends, stop_acked_none, stop_lost_receives, stop_none, stop_sealed_receives, stopped_receives, stream_receives, streams_acked_none, streams_lost_none, streams_sealed_none, wrote_sends}

-- ---- changes that leave the sides, or all but what isn't told of

taken-receiving : (st : Stream) → (was_taken st).receiving ≡ st.receiving
unfolding was_taken
taken-receiving st = refl

taken-sending : (st : Stream) → (was_taken st).sending ≡ st.sending
unfolding was_taken
taken-sending st = refl

priority-receiving : (priority : ℤ) (st : Stream) → (with_priority priority st).receiving ≡ st.receiving
unfolding with_priority
priority-receiving priority st = refl

priority-sending : (priority : ℤ) (st : Stream) → (with_priority priority st).sending ≡ st.sending
unfolding with_priority
priority-sending priority st = refl

blocked_alike : (p : SendPart) → SendsAlike p (was_blocked p)
unfolding was_blocked
blocked_alike p = record { buffer = refl; end = refl; reset = refl }

unblocked_alike : (p : SendPart) → SendsAlike p (unblocked p)
unfolding unblocked
unblocked_alike p = record { buffer = refl; end = refl; reset = refl }

stopped_alike : (code : VarInt) (p : SendPart) → SendsAlike p (was_stopped code p)
unfolding was_stopped
stopped_alike code p = record { buffer = refl; end = refl; reset = refl }

raised_alike : (limit : ℕ) (p : SendPart) → SendsAlike p (limit_raised limit p)
unfolding limit_raised
raised_alike limit p = record { buffer = refl; end = refl; reset = refl }

unless_done : (b : Bool) (g : SendPart → SendPart) (p : SendPart) → SendsAlike p (g p) → SendsAlike p (cond b p (g p))
unless_done true g p alike = alike_self p
unless_done false g p alike = alike

stop_alike : (code : VarInt) (p : SendPart) → SendsAlike p (stop_taken code p)
unfolding stop_taken
stop_alike code p = unless_done (is_done p) (was_stopped code) p (stopped_alike code p)

limit_alike : (limit : ℕ) (p : SendPart) → SendsAlike p (limit_taken limit p)
unfolding limit_taken
limit_alike limit p = unless_done (is_done p) (limit_raised limit) p (raised_alike limit p)

-- ---- what follows on a change

-- on a state with the streams of another
after_order : (s t u : StreamsState) → t.records ≡ s.records → Ascends s.records → Follows t u → (id : ℕ) → Later (record_of id s.records) (record_of id u.records)
after_order s t u is order f id = (follows_then s t u (follows_same s t is) f).later order id

none_changed : (f : Stream → Stream) (j : ℕ) (all : AllRecords) (o : Option Stream) → record_of j all ≡ o → is_some o ≡ false → on_some f j o all ≡ all
none_changed f j all None is none = refl
none_changed f j all (Some st) is none = absurd (cc)

again_later : (id j : ℕ) (code : VarInt) (s : StreamsState) → Ascends s.records
    → Later (record_of id (changed (with_receiving stop_lost) j s.records)) (record_of id (stop_again j code s).records)
unfolding stop_again
again_later id j code s order = by (is_some (record_of j s.records)) refl
  where
    by : (b : Bool) → is_some (record_of j s.records) ≡ b
        → Later (record_of id (changed (with_receiving stop_lost) j s.records))
        (record_of id (cond b (touched j (record s { records = changed (with_receiving stop_lost) j s.records }))
        (record s { waiting = record s.waiting { gone_stops = with_stop j code s.waiting.gone_stops } })).records)
    by true is =
        (touched_follows j (record s { records = changed (with_receiving stop_lost) j s.records })).later
        (ascends_changed (with_receiving stop_lost) j s.records order) id
    by false is =
        later_same (record_of id (changed (with_receiving stop_lost) j s.records)) (record_of id s.records)
        (ap (λ (all : AllRecords). record_of id all) (sym (none_changed (with_receiving stop_lost) j s.records (record_of j s.records) refl is)))

-- a write that was blocked is noted, but where the connection is closed
abbrev noted : Bool → ℕ → StreamsState → StreamsState
noted b j s = cond b s (place_reserved (needs_place_at (record_of j s.records)) (held_up (credit_at (record_of j s.records)) j (record s { records = changed (with_sending (if_known was_blocked)) j s.records })))

refused_later : (id j : ℕ) (s : StreamsState)
    → Later (record_of id s.records) (record_of id (write_refused Blocked j s).records)
    ⊎ Later (record_of id (changed (with_sending (if_known was_blocked)) j s.records)) (record_of id (write_refused Blocked j s).records)
unfolding write_refused held_up
refused_later id j s = by s.closed
  where
    by : (b : Bool) → Later (record_of id s.records) (record_of id (noted b j s).records)
        ⊎ Later (record_of id (changed (with_sending (if_known was_blocked)) j s.records)) (record_of id (noted b j s).records)
    by true = inl (later_at (record_of id s.records))
    by false = inr (later_at (record_of id (changed (with_sending (if_known was_blocked)) j s.records)))

-- the streams are those that there were
polled_records : (s : StreamsState) → (polled s).records ≡ s.records
unfolding polled told_opened
polled_records s = by s.peer.bi.tells s.peer.uni.tells
  where
    by : (b c : Bool) → (cond b (told_opened Bi s) (cond c (told_opened Uni s) (record s { events = first_dropped s.events }))).records ≡ s.records
    by true c = refl
    by false true = refl
    by false false = refl

-- ---- each step

polled_none : ChangesNone Polled
unfolding came_to sent_to
polled_none = record { came = λ id r. refl; sent = λ id p. refl }

filed_none : ChangesNone MarksFiled
unfolding came_to sent_to
filed_none = record { came = λ id r. refl; sent = λ id p. refl }

module _ (id : ℕ) (s : StreamsState) (holds : Holds s) where
  sends_after : (x : Step) (j : ℕ) (g : SendPart → SendPart) (t u : StreamsState) → ChangesSending j x g → t.records ≡ changed (with_sending g) j s.records
      → Follows t u → (after_step x s).records ≡ u.records → SteppedAt id x s
  sends_after x j g t u c is follows after =
      sends_on id j x s g c
      (subst (λ (all : AllRecords). Later (record_of id (changed (with_sending g) j s.records)) (record_of id all)) (sym after)
      (after_order (record s { records = changed (with_sending g) j s.records }) t u is (ascends_changed (with_sending g) j s.records holds.order) follows id))

  receives_after : (x : Step) (j : ℕ) (g : Recv → Recv) (t u : StreamsState) → ChangesReceiving j x g → t.records ≡ changed (with_receiving g) j s.records
      → Follows t u → (after_step x s).records ≡ u.records → SteppedAt id x s
  receives_after x j g t u c is follows after =
      receives id j x s g c
      (subst (λ (all : AllRecords). Later (record_of id (changed (with_receiving g) j s.records)) (record_of id all)) (sym after)
      (after_order (record s { records = changed (with_receiving g) j s.records }) t u is (ascends_changed (with_receiving g) j s.records holds.order) follows id))

  -- the application writes, finishes or resets
  wrote_at : (j n : ℕ) (chunk : List ℕ) → SteppedAt id (Wrote j n chunk) s
  unfolding after_step wrote passed
  wrote_at j n chunk =
      let t : StreamsState = passed j (record s {
        records = changed (with_sending (if_known (part_written (take n chunk)))) j s.records;
        outgoing = outgoing_written n s.outgoing;
      }) in
      sends_after (Wrote j n chunk) j (if_known (part_written (take n chunk))) t (touched j (queued j t)) (wrote_sends j n chunk) refl (noted_follows j t) refl

  sends_at : (x : Step) (j : ℕ) (g : SendPart → SendPart) → ChangesSending j x (if_known g) → (after_step x s).records ≡ (sends g j s).records → SteppedAt id x s
  unfolding sends passed
  sends_at x j g c is =
      let t : StreamsState = passed j (record s { records = changed (with_sending (if_known g)) j s.records }) in
      sends_after x j (if_known g) t (touched j (queued j t)) c refl (noted_follows j t) is

  -- it reads, stops or asks
  gives_at : (x : Step) (j : ℕ) (g : Recv → Recv) → ChangesReceiving j x g → (after_step x s).records ≡ (gives g j s).records → SteppedAt id x s
  unfolding gives counted
  gives_at x j g c is =
      let t : StreamsState = counted (totals_at j s.records) j (record s { records = changed (with_receiving g) j s.records }) in
      receives_after x j g t (settled j t) c refl (settled_follows j t) is

  -- a frame with bytes or an end comes
  comes_at : (x : Step) (j : ℕ) (g : Recv → Recv) → ChangesReceiving j x g → (after_step x s).records ≡ (comes g j s).records → SteppedAt id x s
  unfolding comes counted
  comes_at x j g c is =
      let t : StreamsState = counted (totals_at j s.records) j (met (with_receiving g) j s) in
      met_on id j x s (with_receiving g) (makes_receiving id j x g c) (rests_receiving id j x g c)
      (subst (λ (all : AllRecords). Later (record_of id (met (with_receiving g) j s).records) (record_of id all)) (sym is)
      (after_order (met (with_receiving g) j s) t (settled j t) refl (met_order (with_receiving g) j s holds.order) (settled_follows j t) id))

  meets_at : (x : Step) (j : ℕ) (g : SendPart → SendPart) → ChangesNone x → ((p : SendPart) → SendsAlike p (g p))
      → (after_step x s).records ≡ (met (with_sending g) j s).records → SteppedAt id x s
  meets_at x j g c alike is =
      met_on id j x s (with_sending g) (λ same. makes_alike id j x g c alike) (λ apart. rests_alike id j x c)
      (later_same (record_of id (met (with_sending g) j s).records) (record_of id (after_step x s).records) (ap (λ (all : AllRecords). record_of id all) is))

  still_at : (x : Step) → ChangesNone x → (after_step x s).records ≡ s.records → SteppedAt id x s
  still_at x c is =
      still_on id id x s c (later_same (record_of id s.records) (record_of id (after_step x s).records) (ap (λ (all : AllRecords). record_of id all) is))

  -- no side changes, and it is told that streams can be written on again
  told_at : (x : Step) (t : StreamsState) → ChangesNone x → t.records ≡ s.records → (after_step x s).records ≡ (writables_told None t).records → SteppedAt id x s
  told_at x t c is after =
      still_on id id x s c
      (subst (λ (all : AllRecords). Later (record_of id s.records) (record_of id all)) (sym after)
      (after_order s t (writables_told None t) is holds.order (told_follows None t) id))

  reset_at : (code : VarInt) (j : ℕ) → SteppedAt id (WasReset code j) s
  unfolding after_step resets sends passed
  reset_at code j =
      let t : StreamsState = passed j (record s { records = changed (with_sending (if_known (was_reset code))) j s.records }) in
      let u : StreamsState = place_released (has_place_at (record_of j s.records)) (touched j (queued j t)) in
      sends_after (WasReset code j) j (if_known (was_reset code)) t (writables_told None u) (reset_sends code j) refl
      (follows_then t u (writables_told None u) (follows_then t (touched j (queued j t)) u (noted_follows j t) (follows_same (touched j (queued j t)) u refl))
      (told_follows None u)) refl

  limit_at : (j limit : ℕ) → SteppedAt id (StreamLimitCame j limit) s
  unfolding after_step stream_limit_came watched
  limit_at j limit =
      let m : StreamsState = met (with_sending (limit_taken limit)) j s in
      let t : StreamsState = watched j m in
      met_on id j (StreamLimitCame j limit) s (with_sending (limit_taken limit))
      (λ same. makes_alike id j (StreamLimitCame j limit) (limit_taken limit) (limit_none j limit) (limit_alike limit))
      (λ apart. rests_alike id j (StreamLimitCame j limit) (limit_none j limit))
      (after_order m t (writables_told None t) refl (met_order (with_sending (limit_taken limit)) j s holds.order) (told_follows None t) id)

  refused_at : (e : WriteError) (j : ℕ) → SteppedAt id (Refused e j) s
  unfolding after_step write_refused
  refused_at Blocked j = by (refused_later id j s)
    where
      by : Later (record_of id s.records) (record_of id (write_refused Blocked j s).records)
          ⊎ Later (record_of id (changed (with_sending (if_known was_blocked)) j s.records)) (record_of id (write_refused Blocked j s).records)
          → SteppedAt id (Refused Blocked j) s
      by (inl later) = still_on id id (Refused Blocked j) s (refused_none Blocked j) later
      by (inr later) = keeps_on id j (Refused Blocked j) s (if_known was_blocked) (refused_none Blocked j) (λ p. unless_done (is_done p) was_blocked p (blocked_alike p)) later
  refused_at ClosedStream j = still_on id id (Refused ClosedStream j) s (refused_none ClosedStream j) (later_at _)
  refused_at (WriteStopped code) j = still_on id id (Refused (WriteStopped code) j) s (refused_none (WriteStopped code) j) (later_at _)
  refused_at OutOfMemory j = still_on id id (Refused OutOfMemory j) s (refused_none OutOfMemory j) (later_at _)

  polled_at : SteppedAt id Polled s
  unfolding after_step
  polled_at = still_at Polled polled_none (polled_records s)

  accepted_at : (dir : Dir) → SteppedAt id (Accepted dir) s
  unfolding after_step accepted_one
  accepted_at dir =
      still_on id id (Accepted dir) s (accepted_none dir) (later_changed was_taken taken-receiving taken-sending id (next_accepted dir s) s.records)

  priority_at : (priority : ℤ) (j : ℕ) → SteppedAt id (PrioritySet priority j) s
  unfolding after_step priority_set
  priority_at priority j =
      still_on id id (PrioritySet priority j) s (priority_none priority j)
      (later_changed (with_priority priority) (priority-receiving priority) (priority-sending priority) id j s.records)

  began_at : (ordered : Bool) (j : ℕ) → SteppedAt id (Began ordered j) s
  unfolding after_step reading_begun
  began_at ordered j = receives id j (Began ordered j) s (opened ordered) (began_receives ordered j) (later_at _)

  filed_at : SteppedAt id MarksFiled s
  unfolding after_step
  filed_at = still_on id id MarksFiled s filed_none ((all_filed_follows s.waiting.marks.ids s).later holds.order id)

  sealed_at : (c : Control) → SteppedAt id (ControlSealed c) s
  unfolding after_step control_sealed max_data_sealed max_streams_sealed
  sealed_at (Reset j code size) = sends_on id j (ControlSealed (Reset j code size)) s reset_sealed (reset_sealed_sends j code size) (later_at _)
  sealed_at (Stop j code) =
      let t : StreamsState = record s {
        records = changed (with_receiving stop_sealed) j s.records;
        waiting = record s.waiting { stops = without_id j s.waiting.stops; gone_stops = without_stop j s.waiting.gone_stops };
      } in
      receives_after (ControlSealed (Stop j code)) j stop_sealed t (left_over j t) (stop_sealed_receives j code) refl (left_over_follows j t) refl
  sealed_at (MaxData limit) = still_on id id (ControlSealed (MaxData limit)) s (data_sealed_none limit) (later_at _)
  sealed_at (MaxStreamData j limit) = receives id j (ControlSealed (MaxStreamData j limit)) s side_credit_sealed (credit_sealed_receives j limit) (later_at _)
  sealed_at (MaxStreams dir limit) = still_on id id (ControlSealed (MaxStreams dir limit)) s (streams_sealed_none dir limit) (later_at _)

  lost_at : (c : Control) → SteppedAt id (ControlLost c) s
  unfolding after_step control_lost max_data_lost max_streams_lost
  lost_at (Reset j code size) =
      let t : StreamsState = record s { records = changed (with_sending reset_lost) j s.records } in
      sends_after (ControlLost (Reset j code size)) j reset_lost t (touched j t) (reset_lost_sends j code size) refl (touched_follows j t) refl
  lost_at (Stop j code) = receives id j (ControlLost (Stop j code)) s stop_lost (stop_lost_receives j code) (again_later id j code s holds.order)
  lost_at (MaxData limit) = still_on id id (ControlLost (MaxData limit)) s (data_lost_none limit) (later_at _)
  lost_at (MaxStreamData j limit) =
      let t : StreamsState = record s { records = changed (with_receiving side_credit_lost) j s.records } in
      receives_after (ControlLost (MaxStreamData j limit)) j side_credit_lost t (touched j t) (credit_lost_receives j limit) refl (touched_follows j t) refl
  lost_at (MaxStreams dir limit) = still_on id id (ControlLost (MaxStreams dir limit)) s (streams_lost_none dir limit) (later_at _)

  acked_at : (c : Control) → SteppedAt id (ControlAcked c) s
  unfolding after_step control_acked
  acked_at (Reset j code size) =
      let t : StreamsState = record s { records = changed (with_sending reset_acked) j s.records } in
      sends_after (ControlAcked (Reset j code size)) j reset_acked t (settled j t) (reset_acked_sends j code size) refl (settled_follows j t) refl
  acked_at (Stop j code) = still_on id id (ControlAcked (Stop j code)) s (stop_acked_none j code) (later_at _)
  acked_at (MaxData limit) = still_on id id (ControlAcked (MaxData limit)) s (data_acked_none limit) (later_at _)
  acked_at (MaxStreamData j limit) = still_on id id (ControlAcked (MaxStreamData j limit)) s (credit_acked_none j limit) (later_at _)
  acked_at (MaxStreams dir limit) = still_on id id (ControlAcked (MaxStreams dir limit)) s (streams_acked_none dir limit) (later_at _)

  part_at : (d : StreamPart) → SteppedAt id (PartSealed d) s
  unfolding after_step sealed_part
  part_at d =
      let t : StreamsState = record s { records = changed (with_sending (part_sealed d.part.offset (part_end d.part) d.part.last)) d.id s.records } in
      sends_after (PartSealed d) d.id (part_sealed d.part.offset (part_end d.part) d.part.last) t (turned d.id t) (part_sends d) refl (turned_follows d.id t) refl

  bytes_lost_at : (j start stop : ℕ) (last : Bool) → SteppedAt id (BytesLost j start stop last) s
  unfolding after_step bytes_lost
  bytes_lost_at j start stop last =
      let t : StreamsState = record s { records = changed (with_sending (part_lost start stop last)) j s.records } in
      sends_after (BytesLost j start stop last) j (part_lost start stop last) t (touched j (queued j t)) (bytes_lost_sends j start stop last) refl (noted_follows j t) refl

  bytes_acked_at : (j start stop : ℕ) (last : Bool) → SteppedAt id (BytesAcked j start stop last) s
  unfolding after_step bytes_acked bytes_gone bytes_taken told_if
  bytes_acked_at j start stop last =
      let t : StreamsState = record s { records = changed (with_sending (part_acked start stop last)) j s.records } in
      let a : StreamsState = writables_told (Some j) (settled j t) in
      let b : StreamsState = told_if (finishes j start stop last s) (FinishedEvent j) a in
      sends_after (BytesAcked j start stop last) j (part_acked start stop last) t (writables_told None b) (bytes_acked_sends j start stop last) refl
      (follows_then t (settled j t) (writables_told None b) (settled_follows j t)
      (follows_then (settled j t) a (writables_told None b) (told_follows (Some j) (settled j t))
      (follows_then a b (writables_told None b) (follows_same a b refl) (told_follows None b)))) refl

pub steps : Steps
unfolding keeps_streams after_step came_to sent_to limits_set early_refused send_window_set receive_window_set max_concurrent_set stream_came reset_came stop_came stream_limit_came watched streams_limit_came limit_came told_if
steps id (LimitsKnown p) s can holds =
    told_at id s holds (LimitsKnown p)
    (record s {
      limits = p;
      outgoing = outgoing_raised p.all_data s.outgoing;
      own = record { bi = own_raised p.bidi_streams s.own.bi; uni = own_raised p.uni_streams s.own.uni };
    }) (record { came = λ i r. refl; sent = λ i p. refl }) refl refl
steps id EarlyRefused s can holds = Gone refl (Anew refl)
steps id Closed s can holds = still_at id s holds Closed (record { came = λ i r. refl; sent = λ i p. refl }) refl
steps id Failed s can holds = still_at id s holds Failed (record { came = λ i r. refl; sent = λ i p. refl }) refl
steps id (Opened dir) s can holds = opened_on id dir s holds
steps id (Accepted dir) s can holds = accepted_at id s holds dir
steps id (Wrote j n chunk) s can holds = wrote_at id s holds j n chunk
steps id (Refused e j) s can holds = refused_at id s holds e j
steps id (Finished j) s can holds = sends_at id s holds (Finished j) j finished (finished_sends j) refl
steps id (WasReset code j) s can holds = reset_at id s holds code j
steps id (Began ordered j) s can holds = began_at id s holds ordered j
steps id (Read ordered result j) s can holds = gives_at id s holds (Read ordered result j) j (after_read ordered result) (read_receives ordered result j) refl
steps id (Stopped code j) s can holds = gives_at id s holds (Stopped code j) j (stop_asked code) (stopped_receives code j) refl
steps id (ResetAsked j) s can holds = gives_at id s holds (ResetAsked j) j reset_asked (asked_receives j) refl
steps id (PrioritySet priority j) s can holds = priority_at id s holds priority j
steps id (SendWindowSet n) s can holds = told_at id s holds (SendWindowSet n) (record s { send_window = n }) (record { came = λ i r. refl; sent = λ i p. refl }) refl refl
steps id (ReceiveWindowSet n) s can holds = still_at id s holds (ReceiveWindowSet n) (record { came = λ i r. refl; sent = λ i p. refl }) refl
steps id (ConcurrentSet dir n) s can holds = still_at id s holds (ConcurrentSet dir n) (record { came = λ i r. refl; sent = λ i p. refl }) refl
steps id Polled s can holds = polled_at id s holds
steps id (StreamCame j o bs last) s can holds = comes_at id s holds (StreamCame j o bs last) j (stream_taken o bs last) (stream_receives j o bs last) refl
steps id (ResetCame j code size) s can holds = comes_at id s holds (ResetCame j code size) j (reset_taken code size) (reset_receives j code size) refl
steps id (StopCame j code) s can holds = meets_at id s holds (StopCame j code) j (stop_taken code) (stop_none j code) (stop_alike code) refl
steps id (StreamLimitCame j limit) s can holds = limit_at id s holds j limit
steps id (StreamsLimitCame dir n) s can holds = still_at id s holds (StreamsLimitCame dir n) (record { came = λ i r. refl; sent = λ i p. refl }) refl
steps id (LimitCame n) s can holds = told_at id s holds (LimitCame n) (record s { outgoing = outgoing_raised n s.outgoing }) (record { came = λ i r. refl; sent = λ i p. refl }) refl refl
steps id MarksFiled s can holds = filed_at id s holds
steps id (ControlSealed c) s can holds = sealed_at id s holds c
steps id (ControlLost c) s can holds = lost_at id s holds c
steps id (ControlAcked c) s can holds = acked_at id s holds c
steps id (PartSealed d) s can holds = part_at id s holds d
steps id (BytesLost j start stop last) s can holds = bytes_lost_at id s holds j start stop last
steps id (BytesAcked j start stop last) s can holds = bytes_acked_at id s holds j start stop last

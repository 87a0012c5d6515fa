-- Whatever happens, a place is put by for each stream on which a write was blocked, and what gives credit queues at once what it lets be told
use Rattle.std.proofs.Common.{◌≡◌, ◌∙◌, ℕ, ◌+◌, ◌-◌, ◌≤◌, Bool, true, false, cond, not, ◌&&◌, ◌||◌, nat_le, nat_lt, List, [], ◌∷◌, ◌++◌, take, min, Option, None, Some, is_some, option_map, nat_cmp, ap, sym, subst, arith, refl, append-nil, append_assoc}
use Rattle.std.specs.BTreeMap.{is_at}
use Rattle.std.proofs.lemmas.Bool.{false≢true, lt-leb, lt-ltb}
use Rattle.qc_base.specs.declared.side.Dir.TheVariants.{Bi, Uni}
use Rattle.qc_base.specs.declared.side.Side.{Side}
use Rattle.qc_base.specs.declared.varint.VarInt.{VarInt}
use Rattle.qc_recv.specs.declared.recv.Recv.{Recv}
use Rattle.qc_recv.specs.Owed.{credit_lost as side_credit_lost, credit_sealed as side_credit_sealed, stop_lost, stop_sealed}
use Rattle.qc_recv.specs.Receiving.{opened, reset_asked, reset_taken, stop_asked, stream_taken}
use Rattle.qc_send_stream.specs.declared.fault.WriteError.{WriteError}
use Rattle.qc_send_stream.specs.declared.fault.WriteError.TheVariants.{Blocked, ClosedStream, Stopped as WriteStopped, OutOfMemory}
use Rattle.qc_send_stream.specs.declared.send.SendPart.{SendPart}
use Rattle.qc_send_stream.specs.Sending.{finished, is_closed, is_done, part_acked, part_lost, part_sealed, part_written, reset_acked, reset_lost, reset_sealed, unblocked, was_blocked, was_reset}
use Rattle.qc_streams.specs.declared.control.Control.{Control}
use Rattle.qc_streams.specs.declared.control.Control.TheVariants.{Reset, Stop, MaxData, MaxStreamData, MaxStreams}
use Rattle.qc_streams.specs.declared.events.StreamEvent.{StreamEvent}
use Rattle.qc_streams.specs.declared.events.StreamEvent.TheVariants.{Available, Finished as FinishedEvent, Readable, Stopped as StoppedEvent, Writable}
use Rattle.qc_streams.specs.declared.parts.StreamPart.{StreamPart}
use Rattle.qc_streams.specs.declared.state.PeerLimits.{PeerLimits}
use Rattle.qc_streams.specs.declared.state.StreamsState.{StreamsState}
use Rattle.qc_streams.specs.declared.stream.Stream.{Stream}
use Rattle.qc_streams.specs.Blocked.{BlockedIds, is_below}
use Rattle.qc_streams.specs.Calls.{after_read, gives, if_known, reading_begun, resets, sends, write_refused, wrote}
use Rattle.qc_streams.specs.Control.{control_acked, control_lost, control_sealed, stop_again}
use Rattle.qc_streams.specs.Counts.{by_dir, dir_put, own_raised}
use Rattle.qc_streams.specs.Credit.{budget, outgoing_raised, outgoing_written}
use Rattle.qc_streams.specs.Early.{early_refused}
use Rattle.qc_streams.specs.Events.{EventQueue, event_added, event_placed, first_dropped, given_up_if, no_events, place_given_up, place_put_by, put_by_if}
use Rattle.qc_streams.specs.Frames.{comes, limit_came, reads_more, reset_came, stop_came, stream_came, stream_limit_came, streams_limit_came}
use Rattle.qc_streams.specs.Kept.{kept_in}
use Rattle.qc_streams.specs.Lending.{AllRecords}
use Rattle.qc_streams.specs.Owed.{max_data_lost, max_data_sealed, max_streams_lost, max_streams_sealed, polled, told_opened}
use Rattle.qc_streams.specs.StreamBytes.{bytes_acked, bytes_gone, bytes_lost, bytes_taken, finishes, part_end, sealed_part}
use Rattle.qc_streams.specs.Records.{changed, on_some, record_of}
use Rattle.qc_streams.specs.Sends.{was_taken}
use Rattle.qc_streams.specs.Settings.{max_concurrent_set, priority_set, receive_window_set, send_window_set, with_priority}
use Rattle.qc_streams.specs.Stops.{with_stop}
use Rattle.qc_streams.specs.Stream.{limit_taken, stop_taken, stops_at, with_receiving, with_sending}
use Rattle.qc_streams.specs.Streams.{accepted_one, counted, limits_set, met, new_streams, next_accepted, opened_own, target, told_if}
use Rattle.qc_streams.specs.Queues.{all_filed, queued, touched}
use Rattle.qc_streams.specs.Waits.{ArePossible, BlockedHavePlaces, CreditIsToldAtOnce, EventsWaitInOrder, GoesOn, IsPossible, QueuesBehind, Step, TakesByte, LimitsKnown, EarlyRefused, Closed, Failed, Opened, Accepted, Wrote, Refused, Finished, WasReset, Began, Read, Stopped, ResetAsked, PrioritySet, SendWindowSet, ReceiveWindowSet, ConcurrentSet, Polled, StreamCame, ResetCame, StopCame, StreamLimitCame, StreamsLimitCame, LimitCame, MarksFiled, ControlSealed, ControlLost, ControlAcked, PartSealed, BytesLost, BytesAcked, after, after_step, gives_credit, placed_count, waits_at}
use Rattle.qc_streams.specs.Writable.{all_told, awaits, awaits_at, credit_at, has_credit, has_place, has_place_at, has_room, held_up, needs_place, needs_place_at, passed, place_reserved, told_first, watched, writables_told}
use Rattle.qc_streams.proofs.Keyed.{own_key}
use Rattle.qc_streams.proofs.Placed.{Rests, acked_same, all_filed_rests, count_set, counts_at, left_over_rests, limit_same, lost_same, met_rests, noted_rests, opened_own_rests, received_same, reset_acked_same, reset_lost_same, reset_sealed_same, rests_changed, rests_same, rests_then, sealed_same, settled_rests, side_same, stop_same, touched_rests, turned_rests, written_same}
use Rattle.qc_streams.proofs.WaitLaw.{after_ok, limit_ok, limits_same, nothing, own_ok, same_ok, sends_ok, step_ok, told_first_ok, told_if_ok, told_ok}
use Rattle.qc_streams.proofs.WaitSides.{acked_alike, finished-closed, reset-closed, reset_credit, side_alike}
use Rattle.qc_streams.proofs.WaitSteps.{Holds, settled_ok}
use Rattle.qc_streams.proofs.Waits.{done_closed}

-- there is a place for each
abbrev Roomy : StreamsState → Type 0
Roomy s = placed_count s.records ≤ s.events.places

rests : (s t : StreamsState) → Rests s t → Roomy s → Roomy t
rests s t r h = omega (arith, r.count, h, ap (λ (q : EventQueue). q.places) r.events)

-- ---- the queue of events

told_places : (tells : Bool) (e : StreamEvent) (s : StreamsState) → (told_if tells e s).events.places ≡ s.events.places
unfolding told_if event_added
told_places true e s = refl
told_places false e s = refl

told_roomy : (tells : Bool) (e : StreamEvent) (s : StreamsState) → Roomy s → Roomy (told_if tells e s)
unfolding told_if
told_roomy tells e s h = omega (arith, h, told_places tells e s)

put_places : (needs : Bool) (q : EventQueue) → (put_by_if needs q).places ≡ q.places + cond needs 1 0
unfolding place_put_by
put_places true q = refl
put_places false q = omega arith

given_places : (has : Bool) (q : EventQueue) → (given_up_if has q).places ≡ q.places - cond has 1 0
unfolding place_given_up
given_places true q = refl
given_places false q = omega arith

placed_places : (e : StreamEvent) (q : EventQueue) → (event_placed e q).places ≡ q.places - 1
unfolding event_placed
placed_places e q = refl

-- ---- a stream changes

changed-in : (f : Stream → Stream) (id : ℕ) (all : AllRecords) (o : Option Stream) → record_of id all ≡ o
    → placed_count (on_some f id o all) + counts_at o ≡ placed_count all + counts_at (option_map f o)
changed-in f id all None is = refl
changed-in f id all (Some st) is = count_set id all st (f st) is

changed_count : (f : Stream → Stream) (id : ℕ) (all : AllRecords)
    → placed_count (changed f id all) + counts_at (record_of id all) ≡ placed_count all + counts_at (option_map f (record_of id all))
changed_count f id all = changed-in f id all (record_of id all) refl

-- ---- a write is blocked

or-needs : (blocked closed : Bool) → not closed ≡ ((blocked && not closed) || not (blocked || closed))
or-needs true true = refl
or-needs true false = refl
or-needs false true = refl
or-needs false false = refl

closed-needs : (blocked closed : Bool) → closed ≡ true → (blocked && not closed) ≡ ((blocked && not closed) || not (blocked || closed))
closed-needs true true is = refl
closed-needs true false is = absurd (cc)
closed-needs false true is = refl
closed-needs false false is = absurd (cc)

blocked-not : (p : SendPart) → has_place (Some (was_blocked p)) ≡ not (is_closed p)
unfolding was_blocked is_closed
blocked-not p = refl

block-part : (d : Bool) (p : SendPart) → is_done p ≡ d → has_place (Some (cond d p (was_blocked p))) ≡ (has_place (Some p) || needs_place (Some p))
block-part true p is = closed-needs p.blocked (is_closed p) (done_closed p is)
block-part false p is = blocked-not p ∙ or-needs p.blocked (is_closed p)

block-of : (o : Option SendPart) → has_place (option_map (if_known was_blocked) o) ≡ (has_place o || needs_place o)
block-of None = refl
block-of (Some p) = block-part (is_done p) p refl

block-at : (o : Option Stream) → has_place_at (option_map (with_sending (if_known was_blocked)) o) ≡ (has_place_at o || needs_place_at o)
unfolding with_sending
block-at None = refl
block-at (Some st) = block-of st.sending

either : (a b : Bool) → cond (a || b) 1 0 ≤ cond a 1 0 + cond b 1 0
either true true = omega arith
either true false = omega arith
either false true = omega arith
either false false = omega arith

block_counts : (o : Option Stream) → counts_at (option_map (with_sending (if_known was_blocked)) o) ≤ counts_at o + cond (needs_place_at o) 1 0
block_counts o =
    subst (λ (b : Bool). cond b 1 0 ≤ counts_at o + cond (needs_place_at o) 1 0) (sym (block-at o)) (either (has_place_at o) (needs_place_at o))

refused_roomy : (e : WriteError) (id : ℕ) (s : StreamsState) → Roomy s → Roomy (write_refused e id s)
unfolding write_refused held_up
refused_roomy Blocked id s h = by s.closed
  where
    by : (b : Bool)
        → Roomy (cond b s (place_reserved (needs_place_at (record_of id s.records)) (held_up (credit_at (record_of id s.records)) id (record s { records = changed (with_sending (if_known was_blocked)) id s.records }))))
    by true = h
    by false =
        omega (
          arith,
          h,
          changed_count (with_sending (if_known was_blocked)) id s.records,
          block_counts (record_of id s.records),
          put_places (needs_place_at (record_of id s.records)) s.events,
        )
refused_roomy ClosedStream id s h = h
refused_roomy (WriteStopped code) id s h = h
refused_roomy OutOfMemory id s h = h

-- ---- a stream is finished or reset

closed-not : (blocked closed : Bool) → closed ≡ true → (blocked && not closed) ≡ false
closed-not true true is = refl
closed-not true false is = absurd (cc)
closed-not false closed is = refl

close-part : (g : SendPart → SendPart) → ((p : SendPart) → is_closed (g p) ≡ true) → (d : Bool) (p : SendPart) → is_done p ≡ d
    → has_place (Some (cond d p (g p))) ≡ false
close-part g closes true p is = closed-not p.blocked (is_closed p) (done_closed p is)
close-part g closes false p is = closed-not (g p).blocked (is_closed (g p)) (closes p)

close-of : (g : SendPart → SendPart) → ((p : SendPart) → is_closed (g p) ≡ true) → (o : Option SendPart) → has_place (option_map (if_known g) o) ≡ false
close-of g closes None = refl
close-of g closes (Some p) = close-part g closes (is_done p) p refl

close-at : (g : SendPart → SendPart) → ((p : SendPart) → is_closed (g p) ≡ true) → (o : Option Stream)
    → has_place_at (option_map (with_sending (if_known g)) o) ≡ false
unfolding with_sending
close-at g closes None = refl
close-at g closes (Some st) = close-of g closes st.sending

close_counts : (g : SendPart → SendPart) → ((p : SendPart) → is_closed (g p) ≡ true) → (o : Option Stream)
    → counts_at (option_map (with_sending (if_known g)) o) ≡ 0
close_counts g closes o = ap {B = ℕ} (λ (b : Bool). cond b 1 0) (close-at g closes o)

sends_roomy : (g : SendPart → SendPart) → ((p : SendPart) → is_closed (g p) ≡ true) → (id : ℕ) (s : StreamsState) → Roomy s → Roomy (sends g id s)
unfolding sends passed
sends_roomy g closes id s h =
    let has : Bool = has_place_at (record_of id s.records) in
    let t : StreamsState = passed id (record s { records = changed (with_sending (if_known g)) id s.records }) in
    let u : StreamsState = touched id (queued id t) in
    let r : Rests t u = noted_rests id t in
    let fewer : placed_count (sends g id s).records ≤ placed_count (changed (with_sending (if_known g)) id s.records) = r.count in
    let left : (sends g id s).events.places ≡ s.events.places - counts_at (record_of id s.records) =
    given_places has u.events ∙ ap (λ (q : EventQueue). q.places - cond has 1 0) r.events in
    omega (arith, h, changed_count (with_sending (if_known g)) id s.records, close_counts g closes (record_of id s.records), left, fewer)

-- ---- it is told that streams can be written on again

credit-place : (blocked closed used : Bool) → (blocked && not (closed || used)) ≡ true → (blocked && not closed) ≡ true
credit-place true true used is = absurd (cc)
credit-place true false used is = refl
credit-place false closed used is = absurd (cc)

part-place : (o : Option SendPart) → awaits o ≡ true → has_place o ≡ true
unfolding has_credit
part-place None is = absurd (cc)
part-place (Some p) is = credit-place p.blocked (is_closed p) (nat_le p.limit p.buffer.written) is

waits-place : (o : Option Stream) → awaits_at o ≡ true → has_place_at o ≡ true
waits-place None is = absurd (cc)
waits-place (Some st) is = part-place st.sending is

first-waits : (b : Bool) (n : ℕ) (o : Option ℕ) → b ≡ true → is_some (cond b (Some n) o) ≡ true
first-waits true n o is = refl
first-waits false n o is = absurd (cc)

first_has : (x : ℕ × ℕ) (xs : BlockedIds) (s : StreamsState) → s.blocked ≡ x ∷ xs → Holds s → has_place_at (record_of x.0 s.records) ≡ true
first_has x xs s is h =
    waits-place (record_of x.0 s.records)
    (sym (h.waits x.0) ∙ ap (λ (ids : BlockedIds). waits_at x.0 ids) is ∙ first-waits (is_at (nat_cmp x.0) x.0) x.1 _ (own_key x.0))

none-of : (o : Option SendPart) → has_place (option_map unblocked o) ≡ false
unfolding unblocked
none-of None = refl
none-of (Some p) = refl

none-at : (o : Option Stream) → has_place_at (option_map (with_sending unblocked) o) ≡ false
unfolding with_sending
none-at None = refl
none-at (Some st) = none-of st.sending

told_first_roomy : (x : ℕ × ℕ) (xs : BlockedIds) (s : StreamsState) → s.blocked ≡ x ∷ xs → Holds s → Roomy s → Roomy (told_first x xs s)
told_first_roomy x xs s is holds h =
    omega (
      arith,
      h,
      changed_count (with_sending unblocked) x.0 s.records,
      placed_places (Writable x.1) s.events,
      ap {B = ℕ} (λ (b : Bool). cond b 1 0) (first_has x xs s is holds),
      ap {B = ℕ} (λ (b : Bool). cond b 1 0) (none-at (record_of x.0 s.records)),
    )

all_told_roomy : (below : Option ℕ) (ids : BlockedIds) (s : StreamsState) → s.blocked ≡ ids → Holds s → Roomy s → Roomy (all_told below ids s)
unfolding all_told
all_told_roomy below [] s is holds h = h
all_told_roomy below (x ∷ xs) s is holds h =
    by (is_below below x.1) (all_told_roomy below xs (told_first x xs s) refl (told_first_ok x xs s is holds) (told_first_roomy x xs s is holds h))
  where
    by : (b : Bool) → Roomy (all_told below xs (told_first x xs s)) → Roomy (cond b (all_told below xs (told_first x xs s)) s)
    by true then = then
    by false then = h

writables_roomy : (below : Option ℕ) (s : StreamsState) → Holds s → Roomy s → Roomy (writables_told below s)
unfolding writables_told
writables_roomy below s holds h = by (has_room s)
  where
    by : (b : Bool) → Roomy (cond b (all_told below s.blocked s) s)
    by true = all_told_roomy below s.blocked s refl holds h
    by false = h

-- ---- the other steps

wrote_rests : (id n : ℕ) (chunk : List ℕ) (s : StreamsState) → Rests s (wrote id n chunk s)
unfolding wrote passed
wrote_rests id n chunk s =
    rests_then s _ (wrote id n chunk s)
    (rests_changed (with_sending (if_known (part_written (take n chunk)))) (side_same (if_known (part_written (take n chunk))) (written_same (take n chunk))) id s
    (passed id (record s {
      records = changed (with_sending (if_known (part_written (take n chunk)))) id s.records;
      outgoing = outgoing_written n s.outgoing;
    })) refl refl)
    (noted_rests id _)

gives_rests : (f : Recv → Recv) (id : ℕ) (s : StreamsState) → Rests s (gives f id s)
unfolding gives counted
gives_rests f id s = rests_then s _ (gives f id s) (rests_changed (with_receiving f) (received_same f) id s _ refl refl) (settled_rests id _)

comes_rests : (f : Recv → Recv) (id : ℕ) (s : StreamsState) → Rests s (comes f id s)
unfolding comes counted
comes_rests f id s =
    rests_then s (met (with_receiving f) id s) (comes f id s) (met_rests (with_receiving f) (received_same f) id s)
    (rests_then (met (with_receiving f) id s) _ (comes f id s) (rests_same (met (with_receiving f) id s) _ refl refl) (settled_rests id _))

polled_roomy : (s : StreamsState) → Roomy s → Roomy (polled s)
unfolding polled told_opened first_dropped
polled_roomy s h = by s.peer.bi.tells s.peer.uni.tells
  where
    by : (b c : Bool) → Roomy (cond b (told_opened Bi s) (cond c (told_opened Uni s) (record s { events = first_dropped s.events })))
    by true c = h
    by false true = h
    by false false = h

sealed_rests : (c : Control) (s : StreamsState) → Rests s (control_sealed c s)
unfolding control_sealed max_data_sealed max_streams_sealed
sealed_rests (Reset id code size) s = rests_changed (with_sending reset_sealed) (side_same reset_sealed reset_sealed_same) id s _ refl refl
sealed_rests (Stop id code) s = rests_then s _ _ (rests_changed (with_receiving stop_sealed) (received_same stop_sealed) id s _ refl refl) (left_over_rests id _)
sealed_rests (MaxData limit) s = rests_same s _ refl refl
sealed_rests (MaxStreamData id limit) s = rests_changed (with_receiving side_credit_sealed) (received_same side_credit_sealed) id s _ refl refl
sealed_rests (MaxStreams dir limit) s = rests_same s _ refl refl

again_rests : (id : ℕ) (code : VarInt) (s : StreamsState) → Rests s (stop_again id code s)
unfolding stop_again
again_rests id code s = by (is_some (record_of id s.records))
  where
    by : (b : Bool) → Rests s (cond b (touched id (record s { records = changed (with_receiving stop_lost) id s.records }))
        (record s { waiting = record s.waiting { gone_stops = with_stop id code s.waiting.gone_stops } }))
    by true = rests_then s _ _ (rests_changed (with_receiving stop_lost) (received_same stop_lost) id s _ refl refl) (touched_rests id _)
    by false = rests_same s _ refl refl

lost_rests : (c : Control) (s : StreamsState) → Rests s (control_lost c s)
unfolding control_lost max_data_lost max_streams_lost
lost_rests (Reset id code size) s = rests_then s _ _ (rests_changed (with_sending reset_lost) (side_same reset_lost reset_lost_same) id s _ refl refl) (touched_rests id _)
lost_rests (Stop id code) s = again_rests id code s
lost_rests (MaxData limit) s = rests_same s _ refl refl
lost_rests (MaxStreamData id limit) s =
    rests_then s _ _ (rests_changed (with_receiving side_credit_lost) (received_same side_credit_lost) id s _ refl refl) (touched_rests id _)
lost_rests (MaxStreams dir limit) s = rests_same s _ refl refl

acked_rests : (c : Control) (s : StreamsState) → Rests s (control_acked c s)
unfolding control_acked
acked_rests (Reset id code size) s = rests_then s _ _ (rests_changed (with_sending reset_acked) (side_same reset_acked reset_acked_same) id s _ refl refl) (settled_rests id _)
acked_rests (Stop id code) s = rests_same s s refl refl
acked_rests (MaxData limit) s = rests_same s s refl refl
acked_rests (MaxStreamData id limit) s = rests_same s s refl refl
acked_rests (MaxStreams dir limit) s = rests_same s s refl refl

part_rests : (d : StreamPart) (s : StreamsState) → Rests s (sealed_part d s)
unfolding sealed_part
part_rests d s =
    rests_then s _ _
    (rests_changed (with_sending (part_sealed d.part.offset (part_end d.part) d.part.last))
    (side_same (part_sealed d.part.offset (part_end d.part) d.part.last) (sealed_same d.part.offset (part_end d.part) d.part.last)) d.id s _ refl refl)
    (turned_rests d.id _)

lost_bytes_rests : (id start stop : ℕ) (last : Bool) (s : StreamsState) → Rests s (bytes_lost id start stop last s)
unfolding bytes_lost
lost_bytes_rests id start stop last s =
    rests_then s _ _
    (rests_changed (with_sending (part_lost start stop last)) (side_same (part_lost start stop last) (lost_same start stop last)) id s _ refl refl)
    (noted_rests id _)

gone_rests : (id start stop : ℕ) (last : Bool) (s : StreamsState) → Rests s (bytes_gone id start stop last s)
unfolding bytes_gone bytes_taken
gone_rests id start stop last s =
    rests_then s _ _
    (rests_changed (with_sending (part_acked start stop last)) (side_same (part_acked start stop last) (acked_same start stop last)) id s _ refl refl)
    (settled_rests id _)

gone_ok : (id start stop : ℕ) (last : Bool) (s : StreamsState) → Holds s → Holds (bytes_gone id start stop last s)
unfolding bytes_gone bytes_taken
gone_ok id start stop last s h = settled_ok id _ (same_ok _ (side_alike _ (acked_alike start stop last)) id s h)

limit_rests : (id limit : ℕ) (s : StreamsState) → Rests s (watched id (met (with_sending (limit_taken limit)) id s))
unfolding watched
limit_rests id limit s =
    rests_then s (met (with_sending (limit_taken limit)) id s) _ (met_rests (with_sending (limit_taken limit)) (side_same (limit_taken limit) (limit_same limit)) id s)
    (rests_same (met (with_sending (limit_taken limit)) id s) _ refl refl)

known_ok : (p : PeerLimits) (s : StreamsState) → Holds s
    → Holds (record s {
      limits = p;
      outgoing = outgoing_raised p.all_data s.outgoing;
      own = record { bi = own_raised p.bidi_streams s.own.bi; uni = own_raised p.uni_streams s.own.uni };
    })
known_ok p s h =
    own_ok (record { bi = own_raised p.bidi_streams s.own.bi; uni = own_raised p.uni_streams s.own.uni })
    (record s { limits = p; outgoing = outgoing_raised p.all_data s.outgoing }) (limits_same p.bidi_streams p.uni_streams s.own) h

step_roomy : (x : Step) (s : StreamsState) → IsPossible x → Holds s → Roomy s → Roomy (after_step x s)
unfolding after_step IsPossible reading_begun limits_set resets early_refused no_events placed_count send_window_set receive_window_set max_concurrent_set accepted_one was_taken priority_set with_priority stream_came reset_came stop_came stream_limit_came streams_limit_came limit_came bytes_acked
step_roomy (LimitsKnown p) s can holds h = writables_roomy None _ (known_ok p s holds) h
step_roomy EarlyRefused s can holds h = omega arith
step_roomy Closed s can holds h = h
step_roomy Failed s can holds h = h
step_roomy (Opened dir) s can holds h = rests s (opened_own dir s) (opened_own_rests dir s) h
step_roomy (Accepted dir) s can holds h = rests s (accepted_one dir s) (rests_changed was_taken (λ st. refl) (next_accepted dir s) s (accepted_one dir s) refl refl) h
step_roomy (Wrote id n chunk) s can holds h = rests s (wrote id n chunk s) (wrote_rests id n chunk s) h
step_roomy (Refused e id) s can holds h = refused_roomy e id s h
step_roomy (Finished id) s can holds h = sends_roomy finished finished-closed id s h
step_roomy (WasReset code id) s can holds h =
    writables_roomy None (sends (was_reset code) id s) (sends_ok (was_reset code) (reset_credit code) id s holds) (sends_roomy (was_reset code) (reset-closed code) id s h)
step_roomy (Began ordered id) s can holds h =
    rests s (reading_begun ordered id s) (rests_changed (with_receiving (opened ordered)) (received_same (opened ordered)) id s (reading_begun ordered id s) refl refl) h
step_roomy (Read ordered result id) s can holds h = rests s _ (gives_rests (after_read ordered result) id s) h
step_roomy (Stopped code id) s can holds h = rests s _ (gives_rests (stop_asked code) id s) h
step_roomy (ResetAsked id) s can holds h = rests s _ (gives_rests reset_asked id s) h
step_roomy (PrioritySet priority id) s can holds h =
    rests s (priority_set priority id s) (rests_changed (with_priority priority) (λ st. refl) id s (priority_set priority id s) refl refl) h
step_roomy (SendWindowSet n) s can holds h = writables_roomy None (record s { send_window = n }) holds h
step_roomy (ReceiveWindowSet n) s can holds h = h
step_roomy (ConcurrentSet dir n) s can holds h = h
step_roomy Polled s can holds h = polled_roomy s h
step_roomy (StreamCame id o bs last) s can holds h = told_roomy _ _ _ (rests s (comes (stream_taken o bs last) id s) (comes_rests (stream_taken o bs last) id s) h)
step_roomy (ResetCame id code size) s can holds h = told_roomy _ _ _ (rests s (comes (reset_taken code size) id s) (comes_rests (reset_taken code size) id s) h)
step_roomy (StopCame id code) s can holds h =
    told_roomy _ _ _
    (rests s (met (with_sending (stop_taken code)) id s) (met_rests (with_sending (stop_taken code)) (side_same (stop_taken code) (stop_same code)) id s) h)
step_roomy (StreamLimitCame id limit) s can holds h =
    writables_roomy None _ (limit_ok id limit s can holds) (rests s (watched id (met (with_sending (limit_taken limit)) id s)) (limit_rests id limit s) h)
step_roomy (StreamsLimitCame dir n) s can holds h = told_roomy _ _ _ h
step_roomy (LimitCame n) s can holds h = writables_roomy None (record s { outgoing = outgoing_raised n s.outgoing }) holds h
step_roomy MarksFiled s can holds h = rests s (all_filed s.waiting.marks.ids s) (all_filed_rests s.waiting.marks.ids s) h
step_roomy (ControlSealed c) s can holds h = rests s (control_sealed c s) (sealed_rests c s) h
step_roomy (ControlLost c) s can holds h = rests s (control_lost c s) (lost_rests c s) h
step_roomy (ControlAcked c) s can holds h = rests s (control_acked c s) (acked_rests c s) h
step_roomy (PartSealed d) s can holds h = rests s (sealed_part d s) (part_rests d s) h
step_roomy (BytesLost id start stop last) s can holds h = rests s (bytes_lost id start stop last s) (lost_bytes_rests id start stop last s) h
step_roomy (BytesAcked id start stop last) s can holds h =
    let t : StreamsState = bytes_gone id start stop last s in
    let ok : Holds (writables_told (Some id) (bytes_gone id start stop last s)) = told_ok (Some id) t (gone_ok id start stop last s holds) in
    writables_roomy None _ (told_if_ok _ _ _ ok)
    (told_roomy _ _ _ (writables_roomy (Some id) t (gone_ok id start stop last s holds) (rests s t (gone_rests id start stop last s) h)))

after_roomy : (xs : List Step) (s : StreamsState) → ArePossible xs → Holds s → Roomy s → Roomy (after xs s)
unfolding after ArePossible
after_roomy [] s can holds h = h
after_roomy (x ∷ xs) s can holds h = after_roomy xs (after_step x s) can.1 (step_ok x s can.0 holds) (step_roomy x s can.0 holds h)

pub blocked_have_places : (side : Side) (uni bi window stream_window send_window : ℕ) (fair : Bool) (xs : List Step) → ArePossible xs
    → BlockedHavePlaces (new_streams side uni bi window stream_window send_window fair) xs
unfolding BlockedHavePlaces new_streams no_events placed_count
blocked_have_places side uni bi window stream_window send_window fair xs can =
    after_roomy xs (new_streams side uni bi window stream_window send_window fair) can (nothing _) (omega arith)

-- ---- what gives credit queues at once what it lets be told

all_gone : (ids : BlockedIds) (s : StreamsState) → s.blocked ≡ ids → (all_told None ids s).blocked ≡ []
unfolding all_told
all_gone [] s is = is
all_gone (x ∷ xs) s is = all_gone xs (told_first x xs s) refl

gone-by : (b : Bool) (s : StreamsState) → has_room s ≡ b → has_room (cond b (all_told None s.blocked s) s) ≡ true
    → (cond b (all_told None s.blocked s) s).blocked ≡ []
gone-by true s is room = all_gone s.blocked s refl
gone-by false s is room = absurd (false≢true (sym is ∙ room))

told_gone : (s : StreamsState) → has_room (writables_told None s) ≡ true → (writables_told None s).blocked ≡ []
unfolding writables_told
told_gone s room = gone-by (has_room s) s refl room

step_gone : (x : Step) (s : StreamsState) → gives_credit x ≡ true → has_room (after_step x s) ≡ true → (after_step x s).blocked ≡ []
unfolding after_step limits_set resets send_window_set stream_limit_came limit_came bytes_acked
step_gone (LimitsKnown p) s is room = told_gone _ room
step_gone EarlyRefused s is room = absurd (cc)
step_gone Closed s is room = absurd (cc)
step_gone Failed s is room = absurd (cc)
step_gone (Opened dir) s is room = absurd (cc)
step_gone (Accepted dir) s is room = absurd (cc)
step_gone (Wrote id n chunk) s is room = absurd (cc)
step_gone (Refused e id) s is room = absurd (cc)
step_gone (Finished id) s is room = absurd (cc)
step_gone (WasReset code id) s is room = told_gone _ room
step_gone (Began ordered id) s is room = absurd (cc)
step_gone (Read ordered result id) s is room = absurd (cc)
step_gone (Stopped code id) s is room = absurd (cc)
step_gone (ResetAsked id) s is room = absurd (cc)
step_gone (PrioritySet priority id) s is room = absurd (cc)
step_gone (SendWindowSet n) s is room = told_gone _ room
step_gone (ReceiveWindowSet n) s is room = absurd (cc)
step_gone (ConcurrentSet dir n) s is room = absurd (cc)
step_gone Polled s is room = absurd (cc)
step_gone (StreamCame id o bs last) s is room = absurd (cc)
step_gone (ResetCame id code size) s is room = absurd (cc)
step_gone (StopCame id code) s is room = absurd (cc)
step_gone (StreamLimitCame id limit) s is room = told_gone _ room
step_gone (StreamsLimitCame dir n) s is room = absurd (cc)
step_gone (LimitCame n) s is room = told_gone _ room
step_gone MarksFiled s is room = absurd (cc)
step_gone (ControlSealed c) s is room = absurd (cc)
step_gone (ControlLost c) s is room = absurd (cc)
step_gone (ControlAcked c) s is room = absurd (cc)
step_gone (PartSealed d) s is room = absurd (cc)
step_gone (BytesLost id start stop last) s is room = absurd (cc)
step_gone (BytesAcked id start stop last) s is room = told_gone _ room

-- where the connection takes a byte it has room
takes_room : (s : StreamsState) → TakesByte s → has_room s ≡ true
unfolding has_room budget
takes_room s takes =
    ap (λ (b : Bool). not b && nat_lt 0 (min (s.outgoing.limit - s.outgoing.written) (s.send_window - kept_in s.records))) takes.unclosed
    ∙ lt-ltb 0 (min (s.outgoing.limit - s.outgoing.written) (s.send_window - kept_in s.records)) (omega (arith, takes.credit, takes.room))

-- a sending side that goes on waits to be told so
goes_awaits : (p : SendPart) → GoesOn p → awaits (Some p) ≡ true
unfolding has_credit
goes_awaits p goes =
    ap (λ (b : Bool). b && not (is_closed p || nat_le p.limit p.buffer.written)) goes.blocked
    ∙ (ap (λ (b : Bool). not (b || nat_le p.limit p.buffer.written)) goes.unclosed ∙ ap not (lt-leb p.limit p.buffer.written goes.credit))

pub credit_is_told_at_once : (side : Side) (uni bi window stream_window send_window : ℕ) (fair : Bool) (xs : List Step) → ArePossible xs
    → CreditIsToldAtOnce (new_streams side uni bi window stream_window send_window fair) xs
unfolding CreditIsToldAtOnce new_streams
credit_is_told_at_once side uni bi window stream_window send_window fair xs can x possible gives takes id st p is sends goes =
    let s : StreamsState = after xs (new_streams side uni bi window stream_window send_window fair) in
    let holds : Holds s = after_ok xs (new_streams side uni bi window stream_window send_window fair) can (nothing _) in
    let none : awaits_at (record_of id (after_step x s).records) ≡ false =
    sym ((step_ok x s possible holds).waits id) ∙ ap (λ (ids : BlockedIds). waits_at id ids) (step_gone x s gives (takes_room (after_step x s) takes)) in
    false≢true (sym none ∙ (ap awaits_at is ∙ (ap awaits sends ∙ goes_awaits p goes)))

-- ---- events wait in the order of their causes

none_more : (s t : StreamsState) → t.events.items ≡ s.events.items → QueuesBehind s t
none_more s t is = ([], is ∙ sym (append-nil s.events.items))

rests_more : (s t : StreamsState) → Rests s t → QueuesBehind s t
rests_more s t r = none_more s t (ap (λ (q : EventQueue). q.items) r.events)

then_more : (s t u : StreamsState) → QueuesBehind s t → QueuesBehind t u → QueuesBehind s u
then_more s t u m n = (m.0 ++ n.0, n.1 ∙ ap (λ (l : List StreamEvent). l ++ n.0) m.1 ∙ append_assoc s.events.items m.0 n.0)

told_more : (tells : Bool) (e : StreamEvent) (s : StreamsState) → QueuesBehind s (told_if tells e s)
unfolding told_if event_added
told_more true e s = (e ∷ [], refl)
told_more false e s = none_more s s refl

put_items : (needs : Bool) (q : EventQueue) → (put_by_if needs q).items ≡ q.items
unfolding place_put_by
put_items true q = refl
put_items false q = refl

given_items : (has : Bool) (q : EventQueue) → (given_up_if has q).items ≡ q.items
unfolding place_given_up
given_items true q = refl
given_items false q = refl

refused_more : (e : WriteError) (id : ℕ) (s : StreamsState) → QueuesBehind s (write_refused e id s)
unfolding write_refused held_up
refused_more Blocked id s = by s.closed
  where
    by : (b : Bool)
        → QueuesBehind s (cond b s (place_reserved (needs_place_at (record_of id s.records)) (held_up (credit_at (record_of id s.records)) id (record s { records = changed (with_sending (if_known was_blocked)) id s.records }))))
    by true = none_more s s refl
    by false =
        none_more s
        (place_reserved (needs_place_at (record_of id s.records)) (held_up (credit_at (record_of id s.records)) id (record s { records = changed (with_sending (if_known was_blocked)) id s.records })))
        (put_items (needs_place_at (record_of id s.records)) s.events)
refused_more ClosedStream id s = none_more s s refl
refused_more (WriteStopped code) id s = none_more s s refl
refused_more OutOfMemory id s = none_more s s refl

sends_more : (g : SendPart → SendPart) (id : ℕ) (s : StreamsState) → QueuesBehind s (sends g id s)
unfolding sends passed
sends_more g id s =
    let t : StreamsState = passed id (record s { records = changed (with_sending (if_known g)) id s.records }) in
    none_more s (sends g id s)
    (given_items (has_place_at (record_of id s.records)) (touched id (queued id t)).events ∙ ap (λ (q : EventQueue). q.items) (noted_rests id t).events)

told_first_more : (x : ℕ × ℕ) (xs : BlockedIds) (s : StreamsState) → QueuesBehind s (told_first x xs s)
unfolding event_placed
told_first_more x xs s = by (nat_lt 0 s.events.places) refl
  where
    by : (b : Bool) → nat_lt 0 s.events.places ≡ b → QueuesBehind s (told_first x xs s)
    by true is = (Writable x.1 ∷ [], ap (λ (b : Bool). cond b (s.events.items ++ (Writable x.1 ∷ [])) s.events.items) is)
    by false is = none_more s (told_first x xs s) (ap (λ (b : Bool). cond b (s.events.items ++ (Writable x.1 ∷ [])) s.events.items) is)

all_told_more : (below : Option ℕ) (ids : BlockedIds) (s : StreamsState) → QueuesBehind s (all_told below ids s)
unfolding all_told
all_told_more below [] s = none_more s s refl
all_told_more below (x ∷ xs) s = by (is_below below x.1) (all_told_more below xs (told_first x xs s))
  where
    by : (b : Bool) → QueuesBehind (told_first x xs s) (all_told below xs (told_first x xs s)) → QueuesBehind s (cond b (all_told below xs (told_first x xs s)) s)
    by true rest = then_more s (told_first x xs s) (all_told below xs (told_first x xs s)) (told_first_more x xs s) rest
    by false rest = none_more s s refl

writables_more : (below : Option ℕ) (s : StreamsState) → QueuesBehind s (writables_told below s)
unfolding writables_told
writables_more below s = by (has_room s)
  where
    by : (b : Bool) → QueuesBehind s (cond b (all_told below s.blocked s) s)
    by true = all_told_more below s.blocked s
    by false = none_more s s refl

-- the same of a state whose events are those of another
writables_behind : (below : Option ℕ) (s t : StreamsState) → QueuesBehind s t → QueuesBehind s (writables_told below t)
writables_behind below s t m = then_more s t (writables_told below t) m (writables_more below t)

acked_more : (id start stop : ℕ) (last : Bool) (s : StreamsState) → QueuesBehind s (bytes_acked id start stop last s)
unfolding bytes_acked
acked_more id start stop last s =
    let t : StreamsState = writables_told (Some id) (bytes_gone id start stop last s) in
    writables_behind None s (told_if (finishes id start stop last s) (FinishedEvent id) t)
    (then_more s t (told_if (finishes id start stop last s) (FinishedEvent id) t)
    (writables_behind (Some id) s (bytes_gone id start stop last s) (rests_more s (bytes_gone id start stop last s) (gone_rests id start stop last s)))
    (told_more (finishes id start stop last s) (FinishedEvent id) t))

pub events_wait_in_order : EventsWaitInOrder
unfolding EventsWaitInOrder after_step reading_begun limits_set resets send_window_set receive_window_set max_concurrent_set accepted_one was_taken priority_set with_priority stream_came reset_came stop_came stream_limit_came streams_limit_came limit_came
events_wait_in_order (LimitsKnown p) s is =
    let t : StreamsState = record s {
      limits = p;
      outgoing = outgoing_raised p.all_data s.outgoing;
      own = record { bi = own_raised p.bidi_streams s.own.bi; uni = own_raised p.uni_streams s.own.uni };
    } in
    writables_behind None s t (none_more s t refl)
events_wait_in_order EarlyRefused s is = absurd (cc)
events_wait_in_order Closed s is = none_more s (after_step Closed s) refl
events_wait_in_order Failed s is = none_more s (after_step Failed s) refl
events_wait_in_order (Opened dir) s is = rests_more s (opened_own dir s) (opened_own_rests dir s)
events_wait_in_order (Accepted dir) s is = none_more s (after_step (Accepted dir) s) refl
events_wait_in_order (Wrote id n chunk) s is = rests_more s (wrote id n chunk s) (wrote_rests id n chunk s)
events_wait_in_order (Refused e id) s is = refused_more e id s
events_wait_in_order (Finished id) s is = sends_more finished id s
events_wait_in_order (WasReset code id) s is = writables_behind None s (sends (was_reset code) id s) (sends_more (was_reset code) id s)
events_wait_in_order (Began ordered id) s is = none_more s (after_step (Began ordered id) s) refl
events_wait_in_order (Read ordered result id) s is = rests_more s (gives (after_read ordered result) id s) (gives_rests (after_read ordered result) id s)
events_wait_in_order (Stopped code id) s is = rests_more s (gives (stop_asked code) id s) (gives_rests (stop_asked code) id s)
events_wait_in_order (ResetAsked id) s is = rests_more s (gives reset_asked id s) (gives_rests reset_asked id s)
events_wait_in_order (PrioritySet priority id) s is = none_more s (after_step (PrioritySet priority id) s) refl
events_wait_in_order (SendWindowSet n) s is = writables_behind None s (record s { send_window = n }) (none_more s (record s { send_window = n }) refl)
events_wait_in_order (ReceiveWindowSet n) s is = none_more s (after_step (ReceiveWindowSet n) s) refl
events_wait_in_order (ConcurrentSet dir n) s is = none_more s (after_step (ConcurrentSet dir n) s) refl
events_wait_in_order Polled s is = absurd (cc)
events_wait_in_order (StreamCame id o bs last) s is =
    then_more s (comes (stream_taken o bs last) id s) (after_step (StreamCame id o bs last) s) (rests_more s (comes (stream_taken o bs last) id s) (comes_rests (stream_taken o bs last) id s))
    (told_more (reads_more id s) (Readable id) (comes (stream_taken o bs last) id s))
events_wait_in_order (ResetCame id code size) s is =
    then_more s (comes (reset_taken code size) id s) (after_step (ResetCame id code size) s) (rests_more s (comes (reset_taken code size) id s) (comes_rests (reset_taken code size) id s))
    (told_more (reads_more id s) (Readable id) (comes (reset_taken code size) id s))
events_wait_in_order (StopCame id code) s is =
    let t : StreamsState = met (with_sending (stop_taken code)) id s in
    then_more s t (after_step (StopCame id code) s) (rests_more s t (met_rests (with_sending (stop_taken code)) (side_same (stop_taken code) (stop_same code)) id s))
    (told_more (stops_at (target id s)) (StoppedEvent id code) t)
events_wait_in_order (StreamLimitCame id limit) s is =
    writables_behind None s (watched id (met (with_sending (limit_taken limit)) id s)) (rests_more s (watched id (met (with_sending (limit_taken limit)) id s)) (limit_rests id limit s))
events_wait_in_order (StreamsLimitCame dir n) s is =
    let t : StreamsState = record s { own = dir_put dir (own_raised n (by_dir dir s.own)) s.own } in
    then_more s t (after_step (StreamsLimitCame dir n) s) (none_more s t refl) (told_more (nat_lt (by_dir dir s.own).limit n) (Available dir) t)
events_wait_in_order (LimitCame n) s is = writables_behind None s (record s { outgoing = outgoing_raised n s.outgoing }) (none_more s (record s { outgoing = outgoing_raised n s.outgoing }) refl)
events_wait_in_order MarksFiled s is = rests_more s (all_filed s.waiting.marks.ids s) (all_filed_rests s.waiting.marks.ids s)
events_wait_in_order (ControlSealed c) s is = rests_more s (control_sealed c s) (sealed_rests c s)
events_wait_in_order (ControlLost c) s is = rests_more s (control_lost c s) (lost_rests c s)
events_wait_in_order (ControlAcked c) s is = rests_more s (control_acked c s) (acked_rests c s)
events_wait_in_order (PartSealed d) s is = rests_more s (sealed_part d s) (part_rests d s)
events_wait_in_order (BytesLost id start stop last) s is = rests_more s (bytes_lost id start stop last s) (lost_bytes_rests id start stop last s)
events_wait_in_order (BytesAcked id start stop last) s is = acked_more id start stop last s

-- What is sent and what comes stays within the credit, whatever happens
use Rattle.std.proofs.Common.{◌≡◌, ℕ, ◌-◌, ◌^◌, ◌<◌, ◌≤◌, Bool, true, false, cond, min, List, [], ◌∷◌, length, take, Option, None, Some, is_some, Result, Ok, Err, subst, arith, refl}
use Rattle.std.specs.Prelude.{ℤ}
use Rattle.std.specs.Option.{option_map}
use Rattle.std.proofs.lemmas.List.{length-take}
use Rattle.qc_base.specs.declared.side.Dir.{Dir}
use Rattle.qc_base.specs.declared.side.Dir.TheVariants.{Bi, Uni}
use Rattle.qc_base.specs.declared.side.Side.{Side}
use Rattle.qc_base.specs.declared.varint.VarInt.{VarInt}
use Rattle.qc_recv.specs.declared.recv.Chunk.{Chunk}
use Rattle.qc_recv.specs.declared.recv.Recv.{Recv}
use Rattle.qc_recv.specs.Owed.{credit_lost as side_credit_lost, credit_sealed as side_credit_sealed, stop_lost, stop_sealed}
use Rattle.qc_recv.specs.Receiving.{chunk_given, end_told, given, opened, reset_asked, reset_refusal, reset_taken, stop_asked, stream_refusal, stream_taken}
use Rattle.qc_send_stream.specs.Buffer.{bytes_written}
use Rattle.qc_send_stream.specs.declared.fault.WriteError.{WriteError}
use Rattle.qc_send_stream.specs.declared.fault.WriteError.TheVariants.{Blocked, ClosedStream, Stopped as WriteStopped, OutOfMemory}
use Rattle.qc_send_stream.specs.declared.send.SendPart.{SendPart}
use Rattle.qc_send_stream.specs.Sending.{finished, is_done, part_acked, part_lost, part_sealed, part_written, reset_acked, reset_lost, reset_sealed, takes, unblocked, was_blocked, was_reset}
use Rattle.qc_streams.specs.declared.control.Control.{Control}
use Rattle.qc_streams.specs.declared.control.Control.TheVariants.{Reset, Stop, MaxData, MaxStreamData, MaxStreams}
use Rattle.qc_streams.specs.declared.counts.ByDir.{ByDir}
use Rattle.qc_streams.specs.declared.counts.OwnStreams.{OwnStreams}
use Rattle.qc_streams.specs.declared.counts.PeerStreams.{PeerStreams}
use Rattle.qc_streams.specs.declared.credit.Incoming.{Incoming}
use Rattle.qc_streams.specs.declared.credit.Outgoing.{Outgoing}
use Rattle.qc_streams.specs.declared.fault.ReadFault.{ReadFault}
use Rattle.qc_streams.specs.declared.fault.ReadFault.TheVariants.{ClosedStream as ReadClosed, IllegalOrderedRead, Reset as WasResetTo, Blocked as ReadBlocked, OutOfMemory as ReadMemory}
use Rattle.qc_streams.specs.declared.parts.StreamPart.{StreamPart}
use Rattle.qc_streams.specs.declared.state.PeerLimits.{PeerLimits}
use Rattle.qc_streams.specs.declared.state.StreamsState.{StreamsState}
use Rattle.qc_streams.specs.declared.stream.Stream.{Stream}
use Rattle.qc_streams.specs.Calls.{after_read, count_taken, if_known, known, known_at, known_of, reading_begun, resets, send_room, sends, write_refused, wrote}
use Rattle.qc_streams.specs.Control.{control_acked, control_lost, control_sealed, stop_again}
use Rattle.qc_streams.specs.Counts.{accepted, at_most, by_dir, dir_put, saturated, opening_told, own_raised, places_lost, places_sealed}
use Rattle.qc_streams.specs.Credit.{budget, credit_lost, credit_sealed, credit_value, incoming_credit, new_incoming, new_outgoing, outgoing_raised, outgoing_written, room, window_set, with_window}
use Rattle.qc_streams.specs.Early.{credit_anew, early_refused, places_anew}
use Rattle.qc_streams.specs.Events.{first_dropped}
use Rattle.qc_streams.specs.Frames.{limit_came, reset_came, stop_came, stream_came, stream_limit_came, streams_limit_came}
use Rattle.qc_streams.specs.Owed.{max_data_lost, max_data_sealed, max_streams_lost, max_streams_sealed, polled, told_opened}
use Rattle.qc_streams.specs.StreamBytes.{bytes_acked, bytes_gone, bytes_lost, bytes_taken, part_end, sealed_part}
use Rattle.qc_streams.specs.Records.{changed, record_of}
use Rattle.qc_streams.specs.Sends.{was_taken}
use Rattle.qc_streams.specs.Settings.{concurrent_set, max_concurrent_set, priority_set, receive_window_set, send_window_set, with_concurrent, with_priority}
use Rattle.qc_streams.specs.Stops.{with_stop}
use Rattle.qc_streams.specs.Stream.{limit_taken, stop_taken, with_receiving, with_sending}
use Rattle.qc_streams.specs.Streams.{accepted_one, limits_set, new_streams, next_accepted, no_own, no_peer, told_if}
use Rattle.qc_streams.specs.Queues.{queued, touched}
use Rattle.qc_streams.specs.Waits.{Step, LimitsKnown, EarlyRefused, Closed, Failed, Opened, Accepted, Wrote, Refused, Finished, WasReset, Began, Read, Stopped, ResetAsked, PrioritySet, SendWindowSet, ReceiveWindowSet, ConcurrentSet, Polled, StreamCame, ResetCame, StopCame, StreamLimitCame, StreamsLimitCame, LimitCame, MarksFiled, ControlSealed, ControlLost, ControlAcked, PartSealed, BytesLost, BytesAcked, after, after_step}
use Rattle.qc_streams.specs.Within.{AreTaken, CreditIsKept, IsTaken, SendsWithin, StaysWithin}
use Rattle.qc_streams.specs.Writable.{all_told, credit_at, has_room, held_up, needs_place_at, passed, place_reserved, told_first, watched, writables_told}
use Rattle.qc_streams.specs.Blocked.{BlockedIds, is_below}
use Rattle.qc_streams.proofs.WithinSides.{Good, blocked_good, credit_lost_good, credit_sealed_good, finished_good, good_at, good_changed_at, known_good, limit_good, opened_good, part_acked_good, part_lost_good, part_sealed_good, read_good, receiving_good, reset_acked_good, reset_asked_good, reset_good, reset_lost_good, reset_sealed_good, sending_good, stop_asked_good, stop_good, stop_lost_good, stop_sealed_good, unblocked_good}
use Rattle.qc_streams.proofs.WithinSteps.{Fits, IncomingFits, OwnFits, PeerFits, all_filed_fits, changed_fits, comes_fits, gives_fits, left_over_fits, met_fits, opened_own_fits, put_own, put_peer, queued_fits, sent_below, settled_fits, touched_fits, turned_fits, with_own, with_peer}
use Rattle.qc_streams.proofs.WithinTaken.{reset_can, stream_can}

-- ---- a write that takes no more than it may

least : (n wanted left most : ℕ) → n ≤ min wanted (min left most) → (n ≤ left) × (n ≤ most)
least n wanted left most fits = (omega (arith, fits), omega (arith, fits))

written_within : (n : ℕ) (chunk : List ℕ) (most : ℕ) (p : SendPart) → n ≤ takes (length chunk) most p → SendsWithin (Some p)
    → SendsWithin (Some (part_written (take n chunk) p))
unfolding takes part_written bytes_written
written_within n chunk most p fits h = omega (arith, fits, h, length-take n chunk)

part_by : (b : Bool) (n : ℕ) (chunk : List ℕ) (most : ℕ) (p : SendPart) → n ≤ count_taken (length chunk) most (cond b None (Some p)) → SendsWithin (Some p)
    → SendsWithin (Some (cond b p (part_written (take n chunk) p)))
part_by true n chunk most p fits h = h
part_by false n chunk most p fits h = written_within n chunk most p fits h

part_within : (n : ℕ) (chunk : List ℕ) (most : ℕ) (o : Option SendPart) → n ≤ count_taken (length chunk) most (known o) → SendsWithin o
    → SendsWithin (option_map (if_known (part_written (take n chunk))) o)
part_within n chunk most None fits h = h
part_within n chunk most (Some p) fits h = part_by (is_done p) n chunk most p fits h

stream_within : (n : ℕ) (chunk : List ℕ) (most : ℕ) (st : Stream) → n ≤ count_taken (length chunk) most (known st.sending) → Good st
    → Good (with_sending (if_known (part_written (take n chunk))) st)
unfolding with_sending
stream_within n chunk most st fits g = (part_within n chunk most st.sending fits g.0, g.1)

no_more : (wanted most n : ℕ) (o : Option SendPart) → n ≤ count_taken wanted most o → n ≤ most
unfolding takes
no_more wanted most n None fits = omega (arith, fits)
no_more wanted most n (Some p) fits = (least n wanted (p.limit - p.buffer.written) most fits).1

more_within : (n room : ℕ) (out : Outgoing) → n ≤ budget room out → out.written ≤ out.limit → (outgoing_written n out).written ≤ (outgoing_written n out).limit
unfolding budget outgoing_written saturated
more_within n room out fits h = omega (arith, fits, h)

wrote_fits : (id n : ℕ) (chunk : List ℕ) (s : StreamsState) → n ≤ count_taken (length chunk) (budget (send_room s) s.outgoing) (known_at id s) → Fits s
    → Fits (wrote id n chunk s)
unfolding wrote passed known_at
wrote_fits id n chunk s fits h =
    let t : StreamsState = passed id (record s {
      records = changed (with_sending (if_known (part_written (take n chunk)))) id s.records;
      outgoing = outgoing_written n s.outgoing;
    }) in
    touched_fits id (queued id t) (queued_fits id t
    (record {
      good =
          good_changed_at (with_sending (if_known (part_written (take n chunk)))) id s.records
          (λ st is g. stream_within n chunk (budget (send_room s) s.outgoing) st
          (subst (λ (o : Option Stream). n ≤ count_taken (length chunk) (budget (send_room s) s.outgoing) (known_of o)) is fits) g) h.good;
      incoming = h.incoming;
      sent = more_within n (send_room s) s.outgoing (no_more (length chunk) (budget (send_room s) s.outgoing) n (known_at id s) fits) h.sent;
      own = h.own;
      peer = h.peer;
      small = h.small;
    }))

-- ---- the application's other calls

sends_fits : (g : SendPart → SendPart) → ((p : SendPart) → SendsWithin (Some p) → SendsWithin (Some (g p))) → (id : ℕ) (s : StreamsState) → Fits s
    → Fits (sends g id s)
unfolding sends passed
sends_fits g keeps id s h =
    touched_fits id _
    (queued_fits id (passed id (record s { records = changed (with_sending (if_known g)) id s.records }))
    (changed_fits (with_sending (if_known g)) (sending_good (if_known g) (known_good g keeps)) id s h))

refused_fits : (e : WriteError) (id : ℕ) (s : StreamsState) → Fits s → Fits (write_refused e id s)
unfolding write_refused held_up
refused_fits Blocked id s h = by s.closed
  where
    by : (b : Bool)
        → Fits (cond b s (place_reserved (needs_place_at (record_of id s.records)) (held_up (credit_at (record_of id s.records)) id (record s { records = changed (with_sending (if_known was_blocked)) id s.records }))))
    by true = h
    by false = changed_fits (with_sending (if_known was_blocked)) (sending_good (if_known was_blocked) (known_good was_blocked blocked_good)) id s h
refused_fits ClosedStream id s h = h
refused_fits (WriteStopped code) id s h = h
refused_fits OutOfMemory id s h = h

told_same : (b : Bool) (r : Recv) → (cond b (end_told r) r).greatest ≡ r.greatest
unfolding end_told
told_same true r = refl
told_same false r = refl

asked_same : (r : Recv) → (reset_asked r).greatest ≡ r.greatest
unfolding reset_asked
asked_same r = told_same (is_some r.reset) r

stop_same : (code : VarInt) (r : Recv) → (stop_asked code r).greatest ≡ r.greatest
unfolding stop_asked
stop_same code r = refl

read_same : (ordered : Bool) (result : Result (Option Chunk) ReadFault) (r : Recv) → (after_read ordered result r).greatest ≡ r.greatest
unfolding chunk_given given end_told opened
read_same ordered (Ok (Some c)) r = refl
read_same ordered (Ok None) r = refl
read_same ordered (Err (WasResetTo code)) r = refl
read_same ordered (Err ReadBlocked) r = refl
read_same ordered (Err ReadMemory) r = refl
read_same ordered (Err ReadClosed) r = refl
read_same ordered (Err IllegalOrderedRead) r = refl

taken_good : (st : Stream) → Good st → Good (was_taken st)
unfolding was_taken
taken_good st g = g

priority_good : (priority : ℤ) (st : Stream) → Good st → Good (with_priority priority st)
unfolding with_priority
priority_good priority st g = g

all_told_fits : (below : Option ℕ) (ids : BlockedIds) (s : StreamsState) → Fits s → Fits (all_told below ids s)
unfolding all_told
all_told_fits below [] s h = h
all_told_fits below (x ∷ xs) s h =
    by (is_below below x.1)
    (all_told_fits below xs (told_first x xs s) (changed_fits (with_sending unblocked) (sending_good unblocked unblocked_good) x.0 s h))
  where
    by : (b : Bool) → Fits (all_told below xs (told_first x xs s)) → Fits (cond b (all_told below xs (told_first x xs s)) s)
    by true then = then
    by false then = h

writables_fits : (below : Option ℕ) (s : StreamsState) → Fits s → Fits (writables_told below s)
unfolding writables_told
writables_fits below s h = by (has_room s)
  where
    by : (b : Bool) → Fits (cond b (all_told below s.blocked s) s)
    by true = all_told_fits below s.blocked s h
    by false = h

-- ---- the connection's credit

with_incoming : (c : Incoming) (s : StreamsState) → IncomingFits c → Fits s → Fits (record s { incoming = c })
with_incoming c s i h = record { good = h.good; incoming = i; sent = h.sent; own = h.own; peer = h.peer; small = h.small }

set_fits : (window : ℕ) (c : Incoming) → IncomingFits c → IncomingFits (window_set window c)
unfolding window_set with_window incoming_credit saturated
set_fits window c i = record { came = omega (arith, i.came); announced = omega (arith, i.announced); first = omega (arith, i.first) }

anew_fits : (c : Incoming) → IncomingFits c → IncomingFits (credit_anew c)
unfolding credit_anew incoming_credit saturated
anew_fits c i = record { came = omega arith; announced = omega (arith, i.first); first = i.first }

sealed_fits : (c : Incoming) → IncomingFits c → IncomingFits (credit_sealed c)
unfolding credit_sealed credit_value incoming_credit
sealed_fits c i = record { came = i.came; announced = omega arith; first = i.first }

lost_fits : (c : Incoming) → IncomingFits c → IncomingFits (credit_lost c)
unfolding credit_lost incoming_credit
lost_fits c i = record { came = i.came; announced = i.announced; first = i.first }

raised_fits : (n : ℕ) (s : StreamsState) → Fits s → Fits (record s { outgoing = outgoing_raised n s.outgoing })
unfolding outgoing_raised
raised_fits n s h = record { good = h.good; incoming = h.incoming; sent = omega (arith, h.sent); own = h.own; peer = h.peer; small = h.small }

-- ---- numbers of streams

own_raised_fits : (n : ℕ) (k : OwnStreams) → OwnFits k → OwnFits (own_raised n k)
unfolding own_raised at_most
own_raised_fits n k h = record { opened = omega (arith, h.opened, h.most); most = omega arith }

both_raised : (m n : ℕ) (own : ByDir OwnStreams) → ((dir : Dir) → OwnFits (by_dir dir own)) → (dir : Dir)
    → OwnFits (by_dir dir (let x : ByDir OwnStreams = record { bi = own_raised m own.bi; uni = own_raised n own.uni } in x))
both_raised m n own h Bi = own_raised_fits m own.bi (h Bi)
both_raised m n own h Uni = own_raised_fits n own.uni (h Uni)

limits_fits : (p : PeerLimits) (s : StreamsState) → Fits s → Fits (limits_set p s)
unfolding limits_set
limits_fits p s h =
    writables_fits None _
    (with_own (record { bi = own_raised p.bidi_streams s.own.bi; uni = own_raised p.uni_streams s.own.uni })
    (record s { limits = p; outgoing = outgoing_raised p.all_data s.outgoing }) (both_raised p.bidi_streams p.uni_streams s.own h.own)
    (raised_fits p.all_data s h))

accepted_fits : (k : PeerStreams) → PeerFits k → PeerFits (accepted k)
unfolding accepted
accepted_fits k h = record { opened = h.opened; announced = h.announced; first = h.first; most = h.most }

told_fits : (k : PeerStreams) → PeerFits k → PeerFits (opening_told k)
unfolding opening_told
told_fits k h = record { opened = h.opened; announced = h.announced; first = h.first; most = h.most }

places_sealed_fits : (k : PeerStreams) → PeerFits k → PeerFits (places_sealed k)
unfolding places_sealed
places_sealed_fits k h = record { opened = h.opened; announced = omega arith; first = h.first; most = h.most }

places_lost_fits : (k : PeerStreams) → PeerFits k → PeerFits (places_lost k)
unfolding places_lost
places_lost_fits k h = record { opened = h.opened; announced = h.announced; first = h.first; most = h.most }

concurrent_fits : (n : ℕ) (k : PeerStreams) → PeerFits k → PeerFits (concurrent_set n k)
unfolding concurrent_set with_concurrent at_most saturated
concurrent_fits n k h = record {
  opened = omega (arith, h.opened, h.most);
  announced = omega (arith, h.announced, h.most);
  first = omega (arith, h.first, h.most);
  most = omega arith;
}

anew : (k : PeerStreams) → PeerFits k → PeerFits (places_anew k)
unfolding places_anew
anew k h = record { opened = omega arith; announced = h.first; first = h.first; most = h.most }

both_anew : (peer : ByDir PeerStreams) → ((dir : Dir) → PeerFits (by_dir dir peer)) → (dir : Dir)
    → PeerFits (by_dir dir (let x : ByDir PeerStreams = record { bi = places_anew peer.bi; uni = places_anew peer.uni } in x))
both_anew peer h Bi = anew peer.bi (h Bi)
both_anew peer h Uni = anew peer.uni (h Uni)

-- those of one direction change
peer_fits : (f : PeerStreams → PeerStreams) → ((k : PeerStreams) → PeerFits k → PeerFits (f k)) → (dir : Dir) (s : StreamsState) → Fits s
    → Fits (record s { peer = dir_put dir (f (by_dir dir s.peer)) s.peer })
peer_fits f keeps dir s h =
    with_peer (dir_put dir (f (by_dir dir s.peer)) s.peer) s
    (put_peer dir (f (by_dir dir s.peer)) s.peer (keeps (by_dir dir s.peer) (h.peer dir)) h.peer) h

none_own : (limit : ℕ) → OwnFits (no_own limit)
unfolding no_own at_most
none_own limit = record { opened = omega arith; most = omega arith }

none_peer : (limit : ℕ) → PeerFits (no_peer limit)
unfolding no_peer at_most
none_peer limit = record { opened = omega arith; announced = omega arith; first = omega arith; most = omega arith }

both_none : (dir : Dir) → OwnFits (by_dir dir (let x : ByDir OwnStreams = record { bi = no_own 0; uni = no_own 0 } in x))
both_none Bi = none_own 0
both_none Uni = none_own 0

both_new : (bi uni : ℕ) (dir : Dir) → PeerFits (by_dir dir (let x : ByDir PeerStreams = record { bi = no_peer bi; uni = no_peer uni } in x))
both_new bi uni Bi = none_peer bi
both_new bi uni Uni = none_peer uni

none_fits : (s : StreamsState) → Fits s → Fits (early_refused s)
unfolding early_refused new_outgoing
none_fits s h = record {
  good = tt;
  incoming = anew_fits s.incoming h.incoming;
  sent = omega arith;
  own = both_none;
  peer = both_anew s.peer h.peer;
  small = h.small;
}

polled_fits : (s : StreamsState) → Fits s → Fits (polled s)
unfolding polled told_opened
polled_fits s h = by s.peer.bi.tells s.peer.uni.tells
  where
    by : (b c : Bool) → Fits (cond b (told_opened Bi s) (cond c (told_opened Uni s) (record s { events = first_dropped s.events })))
    by true c = peer_fits opening_told told_fits Bi s h
    by false true = peer_fits opening_told told_fits Uni s h
    by false false = h

-- ---- what is sent, and what becomes of it

control_fits : (c : Control) (s : StreamsState) → Fits s → Fits (control_sealed c s)
unfolding control_sealed max_data_sealed max_streams_sealed
control_fits (Reset id code size) s h = changed_fits (with_sending reset_sealed) (sending_good reset_sealed reset_sealed_good) id s h
control_fits (Stop id code) s h = left_over_fits id _ (changed_fits (with_receiving stop_sealed) (receiving_good stop_sealed stop_sealed_good) id s h)
control_fits (MaxData limit) s h = with_incoming (credit_sealed s.incoming) s (sealed_fits s.incoming h.incoming) h
control_fits (MaxStreamData id limit) s h = changed_fits (with_receiving side_credit_sealed) (receiving_good side_credit_sealed credit_sealed_good) id s h
control_fits (MaxStreams dir limit) s h = peer_fits places_sealed places_sealed_fits dir s h

again_fits : (id : ℕ) (code : VarInt) (s : StreamsState) → Fits s → Fits (stop_again id code s)
unfolding stop_again
again_fits id code s h = by (is_some (record_of id s.records))
  where
    by : (b : Bool) → Fits (cond b (touched id (record s { records = changed (with_receiving stop_lost) id s.records }))
        (record s { waiting = record s.waiting { gone_stops = with_stop id code s.waiting.gone_stops } }))
    by true = touched_fits id _ (changed_fits (with_receiving stop_lost) (receiving_good stop_lost stop_lost_good) id s h)
    by false = h

control_lost_fits : (c : Control) (s : StreamsState) → Fits s → Fits (control_lost c s)
unfolding control_lost max_data_lost max_streams_lost
control_lost_fits (Reset id code size) s h = touched_fits id _ (changed_fits (with_sending reset_lost) (sending_good reset_lost reset_lost_good) id s h)
control_lost_fits (Stop id code) s h = again_fits id code s h
control_lost_fits (MaxData limit) s h = with_incoming (credit_lost s.incoming) s (lost_fits s.incoming h.incoming) h
control_lost_fits (MaxStreamData id limit) s h =
    touched_fits id _ (changed_fits (with_receiving side_credit_lost) (receiving_good side_credit_lost credit_lost_good) id s h)
control_lost_fits (MaxStreams dir limit) s h = peer_fits places_lost places_lost_fits dir s h

control_acked_fits : (c : Control) (s : StreamsState) → Fits s → Fits (control_acked c s)
unfolding control_acked
control_acked_fits (Reset id code size) s h = settled_fits id _ (changed_fits (with_sending reset_acked) (sending_good reset_acked reset_acked_good) id s h)
control_acked_fits (Stop id code) s h = h
control_acked_fits (MaxData limit) s h = h
control_acked_fits (MaxStreamData id limit) s h = h
control_acked_fits (MaxStreams dir limit) s h = h

part_fits : (d : StreamPart) (s : StreamsState) → Fits s → Fits (sealed_part d s)
unfolding sealed_part
part_fits d s h =
    turned_fits d.id _
    (changed_fits (with_sending (part_sealed d.part.offset (part_end d.part) d.part.last))
    (sending_good _ (part_sealed_good d.part.offset (part_end d.part) d.part.last)) d.id s h)

-- ---- each step, and all of them

step_fits : (x : Step) (s : StreamsState) → IsTaken x s → Fits s → Fits (after_step x s)
unfolding after_step IsTaken reading_begun resets send_window_set receive_window_set max_concurrent_set accepted_one priority_set stream_came reset_came stop_came stream_limit_came watched streams_limit_came limit_came bytes_lost bytes_acked bytes_gone bytes_taken told_if
step_fits (LimitsKnown p) s can h = limits_fits p s h
step_fits EarlyRefused s can h = none_fits s h
step_fits Closed s can h = h
step_fits Failed s can h = h
step_fits (Opened dir) s can h = opened_own_fits dir s can h
step_fits (Accepted dir) s can h =
    peer_fits accepted accepted_fits dir (record s { records = changed was_taken (next_accepted dir s) s.records })
    (changed_fits was_taken taken_good (next_accepted dir s) s h)
step_fits (Wrote id n chunk) s can h = wrote_fits id n chunk s can h
step_fits (Refused e id) s can h = refused_fits e id s h
step_fits (Finished id) s can h = sends_fits finished finished_good id s h
step_fits (WasReset code id) s can h = writables_fits None _ (sends_fits (was_reset code) (reset_good code) id s h)
step_fits (Began ordered id) s can h = changed_fits (with_receiving (opened ordered)) (receiving_good (opened ordered) (opened_good ordered)) id s h
step_fits (Read ordered result id) s can h = gives_fits (after_read ordered result) (read_good ordered result) (read_same ordered result) id s h
step_fits (Stopped code id) s can h = gives_fits (stop_asked code) (stop_asked_good code) (stop_same code) id s h
step_fits (ResetAsked id) s can h = gives_fits reset_asked reset_asked_good asked_same id s h
step_fits (PrioritySet priority id) s can h = changed_fits (with_priority priority) (priority_good priority) id s h
step_fits (SendWindowSet n) s can h = writables_fits None _ h
step_fits (ReceiveWindowSet n) s can h = with_incoming (window_set n s.incoming) s (set_fits n s.incoming h.incoming) h
step_fits (ConcurrentSet dir n) s can h = peer_fits (concurrent_set n) (concurrent_fits n) dir s h
step_fits Polled s can h = polled_fits s h
step_fits (StreamCame id o bs last) s can h =
    comes_fits (stream_taken o bs last) (stream_refusal o bs last (room s.incoming)) id s (λ r none. stream_can o bs last (room s.incoming) r none) can h
step_fits (ResetCame id code size) s can h =
    comes_fits (reset_taken code size) (reset_refusal size (room s.incoming)) id s (λ r none. reset_can code size (room s.incoming) r none) can h
step_fits (StopCame id code) s can h = met_fits (with_sending (stop_taken code)) (sending_good (stop_taken code) (stop_good code)) id s (sent_below id s can) h
step_fits (StreamLimitCame id limit) s can h =
    writables_fits None _ (met_fits (with_sending (limit_taken limit)) (sending_good (limit_taken limit) (limit_good limit)) id s (sent_below id s can) h)
step_fits (StreamsLimitCame dir n) s can h =
    with_own (dir_put dir (own_raised n (by_dir dir s.own)) s.own) s
    (put_own dir (own_raised n (by_dir dir s.own)) s.own (own_raised_fits n (by_dir dir s.own) (h.own dir)) h.own) h
step_fits (LimitCame n) s can h = writables_fits None _ (raised_fits n s h)
step_fits MarksFiled s can h = all_filed_fits s.waiting.marks.ids s h
step_fits (ControlSealed c) s can h = control_fits c s h
step_fits (ControlLost c) s can h = control_lost_fits c s h
step_fits (ControlAcked c) s can h = control_acked_fits c s h
step_fits (PartSealed d) s can h = part_fits d s h
step_fits (BytesLost id start stop last) s can h =
    touched_fits id _
    (queued_fits id _ (changed_fits (with_sending (part_lost start stop last)) (sending_good _ (part_lost_good start stop last)) id s h))
step_fits (BytesAcked id start stop last) s can h =
    writables_fits None _
    (writables_fits (Some id) (bytes_gone id start stop last s)
    (settled_fits id _ (changed_fits (with_sending (part_acked start stop last)) (sending_good _ (part_acked_good start stop last)) id s h)))

after_fits : (xs : List Step) (s : StreamsState) → AreTaken xs s → Fits s → Fits (after xs s)
unfolding after AreTaken
after_fits [] s can h = h
after_fits (x ∷ xs) s can h = after_fits xs (after_step x s) can.1 (step_fits x s can.0 h)

new_fits : (side : Side) (uni bi window stream_window send_window : ℕ) (fair : Bool) → window < 2 ^ 64 → stream_window < 2 ^ 64
    → Fits (new_streams side uni bi window stream_window send_window fair)
unfolding new_streams new_incoming new_outgoing incoming_credit saturated
new_fits side uni bi window stream_window send_window fair fits small = record {
  good = tt;
  incoming = record { came = omega arith; announced = omega (arith, fits); first = omega (arith, fits) };
  sent = omega arith;
  own = both_none;
  peer = both_new bi uni;
  small = small;
}

stays : (s : StreamsState) → Fits s → StaysWithin s
stays s h = record {
  streams = λ id. good_at id s.records h.good;
  sent = h.sent;
  came = h.incoming.came;
  announced = h.incoming.announced;
  own = λ dir. (h.own dir).opened;
  peer = λ dir. (h.peer dir).opened;
  told = λ dir. (h.peer dir).announced;
}

pub credit_is_kept : (side : Side) (uni bi window stream_window send_window : ℕ) (fair : Bool) (xs : List Step) → window < 2 ^ 64 → stream_window < 2 ^ 64
    → CreditIsKept (new_streams side uni bi window stream_window send_window fair) xs
unfolding CreditIsKept
credit_is_kept side uni bi window stream_window send_window fair xs fits small can =
    stays _ (after_fits xs (new_streams side uni bi window stream_window send_window fair) can
    (new_fits side uni bi window stream_window send_window fair fits small))

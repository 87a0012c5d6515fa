-- Whatever happens, exactly those streams wait on which a write was blocked and that have credit
use Rattle.std.proofs.Common.{◌≡◌, ◌∙◌, ℕ, ◌/◌, ◌<◌, ◌^◌, Bool, true, false, cond, ◌&&◌, nat_lt, List, [], ◌∷◌, take, Option, None, Some, is_some, ap, subst, refl}
use Rattle.std.specs.BTreeMap.{is_at}
use Rattle.std.specs.Ordering.{nat_cmp}
use Rattle.std.specs.Prelude.{ℤ}
use Rattle.qc_base.specs.declared.side.Dir.{Dir}
use Rattle.qc_base.specs.declared.side.Dir.TheVariants.{Bi, Uni}
use Rattle.qc_base.specs.declared.side.Side.{Side}
use Rattle.qc_base.specs.declared.varint.VarInt.{VarInt}
use Rattle.qc_recv.specs.declared.recv.Recv.{Recv}
use Rattle.qc_recv.specs.Owed.{credit_lost as side_credit_lost, credit_sealed as side_credit_sealed, stop_lost, stop_sealed}
use Rattle.qc_recv.specs.Receiving.{opened, reset_asked, reset_taken, stop_asked, stream_taken}
use Rattle.qc_send_stream.specs.declared.fault.WriteError.{WriteError}
use Rattle.qc_send_stream.specs.declared.fault.WriteError.TheVariants.{Blocked, ClosedStream, Stopped as WriteStopped, OutOfMemory}
use Rattle.qc_send_stream.specs.declared.send.SendPart.{SendPart}
use Rattle.qc_send_stream.specs.Sending.{finished, is_done, limit_raised, new_sending, part_written, reset_acked, reset_lost, reset_sealed, part_lost, unblocked, was_blocked, was_reset}
use Rattle.qc_streams.specs.declared.control.Control.{Control}
use Rattle.qc_streams.specs.declared.control.Control.TheVariants.{Reset, Stop, MaxData, MaxStreamData, MaxStreams}
use Rattle.qc_streams.specs.declared.counts.ByDir.{ByDir}
use Rattle.qc_streams.specs.declared.counts.OwnStreams.{OwnStreams}
use Rattle.qc_streams.specs.declared.counts.PeerStreams.{PeerStreams}
use Rattle.qc_streams.specs.declared.events.StreamEvent.{StreamEvent}
use Rattle.qc_streams.specs.declared.parts.StreamPart.{StreamPart}
use Rattle.qc_streams.specs.declared.state.StreamsState.{StreamsState}
use Rattle.qc_streams.specs.declared.stream.Stream.{Stream}
use Rattle.qc_streams.specs.Blocked.{BlockedIds, is_below, without_blocked}
use Rattle.qc_streams.specs.Calls.{after_read, gives, if_known, reading_begun, resets, sends, write_refused, wrote}
use Rattle.qc_streams.specs.Control.{control_acked, control_lost, control_sealed, stop_again}
use Rattle.qc_streams.specs.Credit.{outgoing_raised, outgoing_written}
use Rattle.qc_streams.specs.Counts.{accepted, by_dir, dir_put, opening_told, own_raised, places_lost, places_sealed}
use Rattle.qc_streams.specs.Early.{early_refused}
use Rattle.qc_streams.specs.Events.{first_dropped}
use Rattle.qc_streams.specs.Frames.{comes, limit_came, reset_came, stop_came, stream_came, stream_limit_came, streams_limit_came}
use Rattle.qc_streams.specs.Owed.{max_data_lost, max_data_sealed, max_streams_lost, max_streams_sealed, polled, told_opened}
use Rattle.qc_streams.specs.StreamBytes.{bytes_acked, bytes_gone, bytes_lost, bytes_taken, part_end, place_again, sealed_part, turned}
use Rattle.qc_streams.specs.Records.{changed, record_of}
use Rattle.qc_streams.specs.Sends.{was_taken}
use Rattle.qc_streams.specs.Settings.{concurrent_set, max_concurrent_set, priority_set, receive_window_set, send_window_set, with_priority}
use Rattle.qc_streams.specs.Stops.{with_stop}
use Rattle.qc_streams.specs.Stream.{fresh_stream, limit_taken, stop_taken, with_receiving, with_sending}
use Rattle.qc_streams.specs.Streams.{accepted_one, counted, dir_of, fresh_peer, is_own, is_peer_unopened, limits_set, met, new_streams, next_accepted, opened_with, told_if}
use Rattle.qc_streams.specs.Queues.{all_filed, dues_at, entered, filed, left, mark_off, placed, queued, touched, turn_filed, with_mark, with_turn}
use Rattle.qc_streams.specs.Waits.{ArePossible, IsPossible, Step, LimitsKnown, EarlyRefused, Closed, Failed, Opened, Accepted, Wrote, Refused, Finished, WasReset, Began, Read, Stopped, ResetAsked, PrioritySet, SendWindowSet, ReceiveWindowSet, ConcurrentSet, Polled, StreamCame, ResetCame, StopCame, StreamLimitCame, StreamsLimitCame, LimitCame, MarksFiled, ControlSealed, ControlLost, ControlAcked, PartSealed, BytesLost, BytesAcked, WaitWhereBlocked, after, after_step}
use Rattle.qc_streams.specs.Writable.{all_told, awaits, awaits_at, credit_at, has_credit, has_room, held_up, needs_place_at, passed, place_reserved, told_first, watched, writables_told}
use Rattle.qc_streams.proofs.Keyed.{own_key}
use Rattle.qc_streams.proofs.WaitOpened.{met_ok, opened_own_ok, opened_with_ok}
use Rattle.qc_streams.proofs.WaitSides.{acked_alike, finished_credit, lost_alike, reset_acked_alike, reset_credit, reset_lost_alike, reset_sealed_alike, sealed_alike, side_alike, side_credit, side_limit, side_told, stop_alike, written_credit}
use Rattle.qc_streams.proofs.WaitSteps.{Holds, accepted_same, concurrent_same, left_ok, left_over_ok, lost_same, opened_same, put_same, queued_ok, sealed_same, settled_ok, told_same, touched_ok, was_opened}
use Rattle.qc_streams.proofs.Waits.{Sound, alike, blocked_still, pass, raise, told, watch, watch-in, weaken}

-- ---- streams that change, and wait as before

pub same_ok : (f : Stream → Stream) → ((st : Stream) → awaits (f st).sending ≡ awaits st.sending) → (id : ℕ) (s : StreamsState) → Holds s
    → Holds (record s { records = changed f id s.records })
same_ok f same id s h = alike f same (was_opened s.side s.own s.peer) id s.records s.blocked h

received_alike : (f : Recv → Recv) (st : Stream) → awaits (with_receiving f st).sending ≡ awaits st.sending
unfolding with_receiving
received_alike f st = refl

pub told_if_ok : (tells : Bool) (e : StreamEvent) (s : StreamsState) → Holds s → Holds (told_if tells e s)
unfolding told_if
told_if_ok tells e s h = h

-- ---- limits and numbers of streams

own_same : (side : Side) (own own' : ByDir OwnStreams) (peer : ByDir PeerStreams) → ((d : Dir) → (by_dir d own').opened ≡ (by_dir d own).opened)
    → (j : ℕ) → was_opened side own peer j ≡ true → was_opened side own' peer j ≡ true
own_same side own own' peer same j is =
    ap (λ (n : ℕ). cond (is_own side j) (nat_lt (j / 4) n) (nat_lt (j / 4) (by_dir (dir_of j) peer).opened)) (same (dir_of j)) ∙ is

pub own_ok : (own' : ByDir OwnStreams) (s : StreamsState) → ((d : Dir) → (by_dir d own').opened ≡ (by_dir d s.own).opened) → Holds s
    → Holds (record s { own = own' })
own_ok own' s same h =
    raise (was_opened s.side s.own s.peer) (was_opened s.side own' s.peer) s.records s.blocked (own_same s.side s.own own' s.peer same) h

peer_ok : (peer' : ByDir PeerStreams) (s : StreamsState) → ((d : Dir) → (by_dir d peer').opened ≡ (by_dir d s.peer).opened) → Holds s
    → Holds (record s { peer = peer' })
peer_ok peer' s same h =
    raise (was_opened s.side s.own s.peer) (was_opened s.side s.own peer') s.records s.blocked (opened_same s.side s.own s.peer peer' same) h

raised_same : (n : ℕ) (k : OwnStreams) → (own_raised n k).opened ≡ k.opened
unfolding own_raised
raised_same n k = refl

own_put : (n : ℕ) (e : Dir) (own : ByDir OwnStreams) (d : Dir) → (by_dir d (dir_put e (own_raised n (by_dir e own)) own)).opened ≡ (by_dir d own).opened
own_put n Bi own Bi = raised_same n own.bi
own_put n Bi own Uni = refl
own_put n Uni own Bi = refl
own_put n Uni own Uni = raised_same n own.uni

pub limits_same : (m n : ℕ) (own : ByDir OwnStreams) (d : Dir)
    → (by_dir d (let x : ByDir OwnStreams = record { bi = own_raised m own.bi; uni = own_raised n own.uni } in x)).opened ≡ (by_dir d own).opened
limits_same m n own Bi = raised_same m own.bi
limits_same m n own Uni = raised_same n own.uni

-- ---- the application's calls

accepted_ok : (dir : Dir) (s : StreamsState) → Holds s → Holds (accepted_one dir s)
unfolding accepted_one was_taken
accepted_ok dir s h =
    peer_ok (dir_put dir (accepted (by_dir dir s.peer)) s.peer) (record s { records = changed was_taken (next_accepted dir s) s.records })
    (put_same accepted accepted_same dir s.peer) (same_ok was_taken (λ st. refl) (next_accepted dir s) s h)

pass_ok : (g : SendPart → SendPart) → ((p : SendPart) → has_credit (g p) ≡ true → awaits (Some (g p)) ≡ awaits (Some p)) → (id : ℕ) (s : StreamsState) → Holds s
    → Holds (touched id (queued id (passed id (record s { records = changed (with_sending (if_known g)) id s.records }))))
unfolding passed
pass_ok g same id s h =
    touched_ok id _
    (queued_ok id (passed id (record s { records = changed (with_sending (if_known g)) id s.records }))
    (pass (with_sending (if_known g)) (side_credit g same) (was_opened s.side s.own s.peer) id s.records s.blocked h))

pub sends_ok : (g : SendPart → SendPart) → ((p : SendPart) → has_credit (g p) ≡ true → awaits (Some (g p)) ≡ awaits (Some p)) → (id : ℕ) (s : StreamsState) → Holds s
    → Holds (sends g id s)
unfolding sends
sends_ok g same id s h = pass_ok g same id s h

wrote_ok : (id n : ℕ) (chunk : List ℕ) (s : StreamsState) → Holds s → Holds (wrote id n chunk s)
unfolding wrote passed
wrote_ok id n chunk s h =
    touched_ok id _
    (queued_ok id (passed id (record s {
      records = changed (with_sending (if_known (part_written (take n chunk)))) id s.records;
      outgoing = outgoing_written n s.outgoing;
    }))
    (pass (with_sending (if_known (part_written _))) (side_credit (part_written _) (written_credit _)) (was_opened s.side s.own s.peer) id s.records s.blocked h))

refused_ok : (e : WriteError) (id : ℕ) (s : StreamsState) → Holds s → Holds (write_refused e id s)
unfolding write_refused held_up
refused_ok Blocked id s h = by s.closed (blocked_still (was_opened s.side s.own s.peer) id s.records s.blocked h)
  where
    by : (b : Bool) → Holds (held_up (credit_at (record_of id s.records)) id (record s { records = changed (with_sending (if_known was_blocked)) id s.records }))
        → Holds (cond b s (place_reserved (needs_place_at (record_of id s.records)) (held_up (credit_at (record_of id s.records)) id (record s { records = changed (with_sending (if_known was_blocked)) id s.records }))))
    by true then = h
    by false then = then
refused_ok ClosedStream id s h = h
refused_ok (WriteStopped code) id s h = h
refused_ok OutOfMemory id s h = h

gives_ok : (f : Recv → Recv) (id : ℕ) (s : StreamsState) → Holds s → Holds (gives f id s)
unfolding gives counted
gives_ok f id s h = settled_ok id _ (same_ok (with_receiving f) (received_alike f) id s h)

priority_ok : (priority : ℤ) (id : ℕ) (s : StreamsState) → Holds s → Holds (priority_set priority id s)
unfolding priority_set with_priority
priority_ok priority id s h = same_ok (with_priority priority) (λ st. refl) id s h

-- one of those that wait is the first of them, and all others stay
first-gone : (b : Bool) (x : ℕ × ℕ) (xs rest : BlockedIds) → b ≡ true → cond b xs rest ≡ xs
first-gone true x xs rest is = refl
first-gone false x xs rest is = absurd (cc)

pub told_first_ok : (x : ℕ × ℕ) (xs : BlockedIds) (s : StreamsState) → s.blocked ≡ x ∷ xs → Holds s → Holds (told_first x xs s)
told_first_ok x xs s is h =
    subst (λ (ids : BlockedIds). Sound (was_opened s.side s.own s.peer) (changed (with_sending unblocked) x.0 s.records) ids)
    (ap (λ (ids : BlockedIds). without_blocked x.0 ids) is ∙ first-gone (is_at (nat_cmp x.0) x.0) x xs _ (own_key x.0))
    (told (with_sending unblocked) side_told (was_opened s.side s.own s.peer) x.0 s.records s.blocked h)

all_told_ok : (below : Option ℕ) (ids : BlockedIds) (s : StreamsState) → s.blocked ≡ ids → Holds s → Holds (all_told below ids s)
unfolding all_told
all_told_ok below [] s is h = h
all_told_ok below (x ∷ xs) s is h = by (is_below below x.1) (all_told_ok below xs (told_first x xs s) refl (told_first_ok x xs s is h))
  where
    by : (b : Bool) → Holds (all_told below xs (told_first x xs s)) → Holds (cond b (all_told below xs (told_first x xs s)) s)
    by true then = then
    by false then = h

pub told_ok : (below : Option ℕ) (s : StreamsState) → Holds s → Holds (writables_told below s)
unfolding writables_told
told_ok below s h = by (has_room s)
  where
    by : (b : Bool) → Holds (cond b (all_told below s.blocked s) s)
    by true = all_told_ok below s.blocked s refl h
    by false = h

opening_ok : (dir : Dir) (s : StreamsState) → Holds s → Holds (told_opened dir s)
unfolding told_opened
opening_ok dir s h = peer_ok (dir_put dir (opening_told (by_dir dir s.peer)) s.peer) s (put_same opening_told told_same dir s.peer) h

polled_ok : (s : StreamsState) → Holds s → Holds (polled s)
unfolding polled
polled_ok s h = by s.peer.bi.tells s.peer.uni.tells
  where
    by : (b c : Bool) → Holds (cond b (told_opened Bi s) (cond c (told_opened Uni s) (record s { events = first_dropped s.events })))
    by true c = opening_ok Bi s h
    by false true = opening_ok Uni s h
    by false false = h

-- ---- frames that come

comes_ok : (f : Recv → Recv) (id : ℕ) (s : StreamsState) → id < 2 ^ 62 → Holds s → Holds (comes f id s)
unfolding comes counted
comes_ok f id s fits h = settled_ok id _ (met_ok (with_receiving f) (received_alike f) id s fits h)

watched_ok : (id : ℕ) (s : StreamsState) → Holds s → Holds (watched id s)
unfolding watched
watched_ok id s h =
    watch-in (awaits_at (record_of id s.records)) (was_opened s.side s.own s.peer) id s.records s.blocked
    (weaken id (was_opened s.side s.own s.peer) s.records s.blocked h) refl (λ is. h.waits id ∙ is)

limit-fresh : (d : Bool) (limit : ℕ) (p : SendPart) → p.blocked ≡ false → awaits (Some (cond d p (limit_raised limit p))) ≡ false
unfolding limit_raised
limit-fresh true limit p is = ap (λ (b : Bool). b && has_credit p) is
limit-fresh false limit p is = ap (λ (b : Bool). b && has_credit (limit_raised limit p)) is

limit_waits : (limit : ℕ) (dir : Dir) (s : StreamsState) → awaits (with_sending (limit_taken limit) (fresh_peer dir s)).sending ≡ false
unfolding fresh_stream new_sending with_sending limit_taken
limit_waits limit Bi s = limit-fresh (is_done (new_sending s.limits.peer_bidi_data)) limit (new_sending s.limits.peer_bidi_data) refl
limit_waits limit Uni s = refl

pub limit_ok : (id limit : ℕ) (s : StreamsState) → id < 2 ^ 62 → Holds s → Holds (watched id (met (with_sending (limit_taken limit)) id s))
unfolding met watched
limit_ok id limit s fits h = by (is_peer_unopened id s) refl
  where
    by : (b : Bool) → is_peer_unopened id s ≡ b
        → Holds (watched id (cond b (opened_with id (with_sending (limit_taken limit) (fresh_peer (dir_of id) s)) s)
        (record s { records = changed (with_sending (limit_taken limit)) id s.records })))
    by true is =
        watched_ok id (opened_with id (with_sending (limit_taken limit) (fresh_peer (dir_of id) s)) s)
        (opened_with_ok id (with_sending (limit_taken limit) (fresh_peer (dir_of id) s)) s is fits (limit_waits limit (dir_of id) s) h)
    by false is = watch (with_sending (limit_taken limit)) (side_limit limit) (was_opened s.side s.own s.peer) id s.records s.blocked h

-- ---- what is sent, and what becomes of it

entered_ok : (place : ℤ × ℕ) (id : ℕ) (s : StreamsState) → Holds s → Holds (entered place id s)
unfolding entered with_turn
entered_ok place id s h = same_ok (with_turn (Some place)) (λ st. refl) id s h

turn_ok : (owes : Bool) (turn : Option (ℤ × ℕ)) (id : ℕ) (s : StreamsState) → Holds s → Holds (turn_filed owes turn id s)
turn_ok true None id s h = entered_ok _ id s h
turn_ok true (Some place) id s h = h
turn_ok false turn id s h = left_ok id s h

filed_ok : (id : ℕ) (s : StreamsState) → Holds s → Holds (filed id s)
unfolding filed placed mark_off with_mark
filed_ok id s h = turn_ok _ _ id _ (same_ok (with_mark false) (λ st. refl) id s h)

all_filed_ok : (ids : List ℕ) (s : StreamsState) → Holds s → Holds (all_filed ids s)
unfolding all_filed
all_filed_ok [] s h = h
all_filed_ok (id ∷ ids) s h = all_filed_ok ids (filed id s) (filed_ok id s h)

turned_ok : (id : ℕ) (s : StreamsState) → Holds s → Holds (turned id s)
unfolding turned
turned_ok id s h = by (dues_at (record_of id s.records)).bytes
  where
    by : (b : Bool) → Holds (cond b (entered (place_again id (left id s)) id (left id s)) (left id s))
    by true = entered_ok _ id (left id s) (left_ok id s h)
    by false = left_ok id s h

part_ok : (d : StreamPart) (s : StreamsState) → Holds s → Holds (sealed_part d s)
unfolding sealed_part
part_ok d s h = turned_ok d.id _ (same_ok _ (side_alike _ (sealed_alike d.part.offset (part_end d.part) d.part.last)) d.id s h)

sealed_ok : (c : Control) (s : StreamsState) → Holds s → Holds (control_sealed c s)
unfolding control_sealed max_data_sealed max_streams_sealed
sealed_ok (Reset id code size) s h = same_ok (with_sending reset_sealed) (side_alike reset_sealed reset_sealed_alike) id s h
sealed_ok (Stop id code) s h = left_over_ok id _ (same_ok (with_receiving stop_sealed) (received_alike stop_sealed) id s h)
sealed_ok (MaxData limit) s h = h
sealed_ok (MaxStreamData id limit) s h = same_ok (with_receiving side_credit_sealed) (received_alike side_credit_sealed) id s h
sealed_ok (MaxStreams dir limit) s h = peer_ok (dir_put dir (places_sealed (by_dir dir s.peer)) s.peer) s (put_same places_sealed sealed_same dir s.peer) h

again_ok : (id : ℕ) (code : VarInt) (s : StreamsState) → Holds s → Holds (stop_again id code s)
unfolding stop_again
again_ok id code s h = by (is_some (record_of id s.records)) (touched_ok id _ (same_ok (with_receiving stop_lost) (received_alike stop_lost) id s h))
  where
    by : (b : Bool) → Holds (touched id (record s { records = changed (with_receiving stop_lost) id s.records }))
        → Holds (cond b (touched id (record s { records = changed (with_receiving stop_lost) id s.records }))
        (record s { waiting = record s.waiting { gone_stops = with_stop id code s.waiting.gone_stops } }))
    by true then = then
    by false then = h

lost_ok : (c : Control) (s : StreamsState) → Holds s → Holds (control_lost c s)
unfolding control_lost max_data_lost max_streams_lost
lost_ok (Reset id code size) s h = touched_ok id _ (same_ok (with_sending reset_lost) (side_alike reset_lost reset_lost_alike) id s h)
lost_ok (Stop id code) s h = again_ok id code s h
lost_ok (MaxData limit) s h = h
lost_ok (MaxStreamData id limit) s h = touched_ok id _ (same_ok (with_receiving side_credit_lost) (received_alike side_credit_lost) id s h)
lost_ok (MaxStreams dir limit) s h = peer_ok (dir_put dir (places_lost (by_dir dir s.peer)) s.peer) s (put_same places_lost lost_same dir s.peer) h

acked_ok : (c : Control) (s : StreamsState) → Holds s → Holds (control_acked c s)
unfolding control_acked
acked_ok (Reset id code size) s h = settled_ok id _ (same_ok (with_sending reset_acked) (side_alike reset_acked reset_acked_alike) id s h)
acked_ok (Stop id code) s h = h
acked_ok (MaxData limit) s h = h
acked_ok (MaxStreamData id limit) s h = h
acked_ok (MaxStreams dir limit) s h = h

-- ---- each step, and all of them

none_known : (opened : ℕ → Bool) (j : ℕ) → (let no : Bool = false in no) ≡ true → opened j ≡ true
none_known opened j is = absurd (cc)

pub nothing : (opened : ℕ → Bool) → Sound opened [] []
nothing opened = record { waits = λ j. refl; set = tt; order = tt; known = λ j is. none_known opened j is }

pub step_ok : (x : Step) (s : StreamsState) → IsPossible x → Holds s → Holds (after_step x s)
unfolding after_step IsPossible reading_begun limits_set resets early_refused send_window_set receive_window_set max_concurrent_set stream_came reset_came stop_came stream_limit_came streams_limit_came limit_came bytes_lost bytes_acked bytes_gone bytes_taken
step_ok (LimitsKnown p) s can h =
    told_ok None _
    (own_ok (record { bi = own_raised p.bidi_streams s.own.bi; uni = own_raised p.uni_streams s.own.uni })
    (record s { limits = p; outgoing = outgoing_raised p.all_data s.outgoing }) (limits_same p.bidi_streams p.uni_streams s.own) h)
step_ok EarlyRefused s can h = nothing _
step_ok Closed s can h = h
step_ok Failed s can h = h
step_ok (Opened dir) s can h = opened_own_ok dir s h
step_ok (Accepted dir) s can h = accepted_ok dir s h
step_ok (Wrote id n chunk) s can h = wrote_ok id n chunk s h
step_ok (Refused e id) s can h = refused_ok e id s h
step_ok (Finished id) s can h = sends_ok finished finished_credit id s h
step_ok (WasReset code id) s can h = told_ok None _ (sends_ok (was_reset code) (reset_credit code) id s h)
step_ok (Began ordered id) s can h = same_ok (with_receiving (opened ordered)) (received_alike (opened ordered)) id s h
step_ok (Read ordered result id) s can h = gives_ok (after_read ordered result) id s h
step_ok (Stopped code id) s can h = gives_ok (stop_asked code) id s h
step_ok (ResetAsked id) s can h = gives_ok reset_asked id s h
step_ok (PrioritySet priority id) s can h = priority_ok priority id s h
step_ok (SendWindowSet n) s can h = told_ok None _ h
step_ok (ReceiveWindowSet n) s can h = h
step_ok (ConcurrentSet dir n) s can h =
    peer_ok (dir_put dir (concurrent_set n (by_dir dir s.peer)) s.peer) s (put_same (concurrent_set n) (concurrent_same n) dir s.peer) h
step_ok Polled s can h = polled_ok s h
step_ok (StreamCame id o bs last) s can h = told_if_ok _ _ _ (comes_ok (stream_taken o bs last) id s can h)
step_ok (ResetCame id code size) s can h = told_if_ok _ _ _ (comes_ok (reset_taken code size) id s can h)
step_ok (StopCame id code) s can h = told_if_ok _ _ _ (met_ok (with_sending (stop_taken code)) (side_alike (stop_taken code) (stop_alike code)) id s can h)
step_ok (StreamLimitCame id limit) s can h = told_ok None _ (limit_ok id limit s can h)
step_ok (StreamsLimitCame dir n) s can h =
    told_if_ok _ _ _ (own_ok (dir_put dir (own_raised n (by_dir dir s.own)) s.own) s (own_put n dir s.own) h)
step_ok (LimitCame n) s can h = told_ok None _ h
step_ok MarksFiled s can h = all_filed_ok s.waiting.marks.ids s h
step_ok (ControlSealed c) s can h = sealed_ok c s h
step_ok (ControlLost c) s can h = lost_ok c s h
step_ok (ControlAcked c) s can h = acked_ok c s h
step_ok (PartSealed d) s can h = part_ok d s h
step_ok (BytesLost id start stop last) s can h =
    touched_ok id _ (queued_ok id _ (same_ok (with_sending (part_lost start stop last)) (side_alike _ (lost_alike start stop last)) id s h))
step_ok (BytesAcked id start stop last) s can h =
    told_ok None _ (told_if_ok _ _ _ (told_ok (Some id) _ (settled_ok id _ (same_ok _ (side_alike _ (acked_alike start stop last)) id s h))))

pub after_ok : (xs : List Step) (s : StreamsState) → ArePossible xs → Holds s → Holds (after xs s)
unfolding after ArePossible
after_ok [] s can h = h
after_ok (x ∷ xs) s can h = after_ok xs (after_step x s) can.1 (step_ok x s can.0 h)

pub wait_where_blocked : (side : Side) (uni bi window stream_window send_window : ℕ) (fair : Bool) (xs : List Step) → ArePossible xs
    → WaitWhereBlocked (new_streams side uni bi window stream_window send_window fair) xs
unfolding WaitWhereBlocked new_streams
wait_where_blocked side uni bi window stream_window send_window fair xs can id =
    (after_ok xs (new_streams side uni bi window stream_window send_window fair) can (nothing _)).waits id

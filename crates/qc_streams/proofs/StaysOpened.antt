-- A stream that was opened stays so, but where the server refused early data
use Rattle.std.proofs.Common.{◌≡◌, ◌∙◌, ℕ, ◌/◌, ◌^◌, ◌<◌, ◌≤◌, Bool, true, false, cond, not, ◌||◌, nat_lt, List, [], ◌∷◌, Option, None, Some, is_some, sym, subst, arith, refl}
use Rattle.std.proofs.lemmas.Bool.Decides.{nat_tests}
use Rattle.std.specs.Prelude.{ℤ}
use Rattle.qc_base.specs.declared.side.Dir.{Dir}
use Rattle.qc_base.specs.declared.side.Dir.TheVariants.{Bi, Uni}
use Rattle.qc_base.specs.declared.side.Side.{Side}
use Rattle.qc_base.specs.declared.varint.VarInt.{VarInt}
use Rattle.qc_recv.specs.declared.recv.Recv.{Recv}
use Rattle.qc_recv.specs.Owed.{stop_lost}
use Rattle.qc_recv.specs.Receiving.{reset_asked, reset_taken, stop_asked, stream_taken}
use Rattle.qc_send_stream.specs.declared.fault.WriteError.{WriteError}
use Rattle.qc_send_stream.specs.declared.fault.WriteError.TheVariants.{Blocked, ClosedStream, Stopped as WriteStopped, OutOfMemory}
use Rattle.qc_send_stream.specs.Sending.{was_blocked, was_reset}
use Rattle.qc_streams.specs.declared.control.Control.{Control}
use Rattle.qc_streams.specs.declared.control.Control.TheVariants.{Reset, Stop, MaxData, MaxStreamData, MaxStreams}
use Rattle.qc_streams.specs.declared.counts.ByDir.{ByDir}
use Rattle.qc_streams.specs.declared.counts.OwnStreams.{OwnStreams}
use Rattle.qc_streams.specs.declared.counts.PeerStreams.{PeerStreams}
use Rattle.qc_streams.specs.declared.events.StreamEvent.TheVariants.{Finished as FinishedEvent}
use Rattle.qc_streams.specs.declared.parts.StreamPart.{StreamPart}
use Rattle.qc_streams.specs.declared.state.PeerLimits.{PeerLimits}
use Rattle.qc_streams.specs.declared.state.StreamsState.{StreamsState}
use Rattle.qc_streams.specs.declared.stream.Stream.{Stream}
use Rattle.qc_streams.specs.Calls.{after_read, gives, if_known, reading_begun, resets, sends, write_refused, wrote}
use Rattle.qc_streams.specs.Carried.{keeps_streams}
use Rattle.qc_streams.specs.Control.{control_acked, control_lost, control_sealed, stop_again}
use Rattle.qc_streams.specs.Counts.{accepted, at_most, by_dir, dir_put, opening_told, own_opened, own_raised, peer_opened, place_freed, places_lost, places_sealed}
use Rattle.qc_streams.specs.Events.{first_dropped}
use Rattle.qc_streams.specs.Frames.{comes, limit_came, reset_came, stop_came, stream_came, stream_limit_came, streams_limit_came}
use Rattle.qc_streams.specs.Owed.{max_data_lost, max_data_sealed, max_streams_lost, max_streams_sealed, polled, told_opened}
use Rattle.qc_streams.specs.StreamBytes.{bytes_acked, bytes_gone, bytes_lost, bytes_taken, finishes, place_again, sealed_part, turned}
use Rattle.qc_streams.specs.Records.{changed, record_of}
use Rattle.qc_streams.specs.Settings.{concurrent_set, max_concurrent_set, priority_set, receive_window_set, send_window_set}
use Rattle.qc_streams.specs.Stops.{with_stop}
use Rattle.qc_streams.specs.Stream.{has_ended, is_freed, stop_taken, limit_taken, with_receiving, with_sending}
use Rattle.qc_streams.specs.Streams.{accepted_one, counted, dir_of, forgotten, fresh_peer, is_own, is_peer_unopened, left_over, limits_set, lingering, met, opened_own, opened_with, released, removed, settled, stops_later, told_if}
use Rattle.qc_streams.specs.Queues.{all_filed, dues_at, entered, filed, left, left_from, mark_off, placed, queued, sets_filed, touched, turn_at, turn_filed}
use Rattle.qc_streams.specs.Waits.{IsPossible, Step, LimitsKnown, EarlyRefused, Closed, Failed, Opened, Accepted, Wrote, Refused, Finished, WasReset, Began, Read, Stopped, ResetAsked, PrioritySet, SendWindowSet, ReceiveWindowSet, ConcurrentSet, Polled, StreamCame, ResetCame, StopCame, StreamLimitCame, StreamsLimitCame, LimitCame, MarksFiled, ControlSealed, ControlLost, ControlAcked, PartSealed, BytesLost, BytesAcked, after_step}
use Rattle.qc_streams.specs.Writable.{all_told, credit_at, has_room, held_up, needs_place_at, passed, place_reserved, told_first, watched, writables_told}
use Rattle.qc_streams.specs.Blocked.{BlockedIds, is_below}
use Rattle.qc_streams.specs.Credit.{outgoing_raised}
use Rattle.qc_streams.proofs.StepAt.{StaysOpened}
use Rattle.qc_streams.proofs.WaitOpened.{and-then, reaches}
use Rattle.qc_streams.proofs.WaitSteps.{accepted_same, concurrent_same, freed_same, lost_same, sealed_same, told_same, was_opened}

-- as many streams were opened, or more
pub record More (s t : StreamsState) : Type 0 where
  pub side : t.side ≡ s.side
  pub own : (dir : Dir) → (by_dir dir s.own).opened ≤ (by_dir dir t.own).opened
  pub peer : (dir : Dir) → (by_dir dir s.peer).opened ≤ (by_dir dir t.peer).opened

-- the same numbers
pub same : (s t : StreamsState) → t.side ≡ s.side → t.own ≡ s.own → t.peer ≡ s.peer → More s t
same s t side own peer = record {
  side = side;
  own = λ dir. subst (λ (o : ByDir OwnStreams). (by_dir dir s.own).opened ≤ (by_dir dir o).opened) (sym own) (omega arith);
  peer = λ dir. subst (λ (p : ByDir PeerStreams). (by_dir dir s.peer).opened ≤ (by_dir dir p).opened) (sym peer) (omega arith);
}

pub then : (s t u : StreamsState) → More s t → More t u → More s u
then s t u m n = record {
  side = n.side ∙ m.side;
  own = λ dir. omega (arith, m.own dir, n.own dir);
  peer = λ dir. omega (arith, m.peer dir, n.peer dir);
}

-- what was opened stays opened
less_more : (n a b : ℕ) → a ≤ b → nat_lt n a ≡ true → nat_lt n b ≡ true
less_more n a b up is = grind (arith, nat_tests)

opened_more : (b : Bool) (id : ℕ) (s t : StreamsState) → More s t
    → cond b (nat_lt (id / 4) (by_dir (dir_of id) s.own).opened) (nat_lt (id / 4) (by_dir (dir_of id) s.peer).opened) ≡ true
    → cond b (nat_lt (id / 4) (by_dir (dir_of id) t.own).opened) (nat_lt (id / 4) (by_dir (dir_of id) t.peer).opened) ≡ true
opened_more true id s t m is = less_more (id / 4) _ _ (m.own (dir_of id)) is
opened_more false id s t m is = less_more (id / 4) _ _ (m.peer (dir_of id)) is

pub opened_then : (id : ℕ) (s t : StreamsState) → More s t → was_opened s.side s.own s.peer id ≡ true → was_opened t.side t.own t.peer id ≡ true
opened_then id s t m is =
    subst (λ (side : Side). was_opened side t.own t.peer id ≡ true) (sym m.side) (opened_more (is_own s.side id) id s t m is)

-- ---- streams of one direction change

own_put : (e : Dir) (k : OwnStreams) (s : StreamsState) → (by_dir e s.own).opened ≤ k.opened → More s (record s { own = dir_put e k s.own })
own_put e k s up = record { side = refl; own = by e up; peer = λ dir. omega arith }
  where
    by : (d : Dir) → (by_dir d s.own).opened ≤ k.opened → (dir : Dir) → (by_dir dir s.own).opened ≤ (by_dir dir (dir_put d k s.own)).opened
    by Bi up Bi = up
    by Bi up Uni = omega arith
    by Uni up Bi = omega arith
    by Uni up Uni = up

peer_put : (e : Dir) (k : PeerStreams) (s : StreamsState) → (by_dir e s.peer).opened ≤ k.opened → More s (record s { peer = dir_put e k s.peer })
peer_put e k s up = record { side = refl; own = λ dir. omega arith; peer = by e up }
  where
    by : (d : Dir) → (by_dir d s.peer).opened ≤ k.opened → (dir : Dir) → (by_dir dir s.peer).opened ≤ (by_dir dir (dir_put d k s.peer)).opened
    by Bi up Bi = up
    by Bi up Uni = omega arith
    by Uni up Bi = omega arith
    by Uni up Uni = up

peer_same : (f : PeerStreams → PeerStreams) → ((k : PeerStreams) → (f k).opened ≡ k.opened) → (e : Dir) (s : StreamsState)
    → More s (record s { peer = dir_put e (f (by_dir e s.peer)) s.peer })
peer_same f still e s = peer_put e (f (by_dir e s.peer)) s (omega (arith, still (by_dir e s.peer)))

raised_same : (n : ℕ) (k : OwnStreams) → (own_raised n k).opened ≡ k.opened
unfolding own_raised
raised_same n k = refl

-- it is told that streams can be written on again
all_told_more : (below : Option ℕ) (ids : BlockedIds) (s : StreamsState) → More s (all_told below ids s)
unfolding all_told
all_told_more below [] s = same s s refl refl refl
all_told_more below (x ∷ xs) s = by (is_below below x.1) (all_told_more below xs (told_first x xs s))
  where
    by : (b : Bool) → More (told_first x xs s) (all_told below xs (told_first x xs s)) → More s (cond b (all_told below xs (told_first x xs s)) s)
    by true rest = then s (told_first x xs s) _ (same s (told_first x xs s) refl refl refl) rest
    by false rest = same s s refl refl refl

told_more : (below : Option ℕ) (s t : StreamsState) → More s t → More s (writables_told below t)
unfolding writables_told
told_more below s t m = by (has_room t)
  where
    by : (b : Bool) → More s (cond b (all_told below t.blocked t) t)
    by true = then s t _ m (all_told_more below t.blocked t)
    by false = m

limits_more : (p : PeerLimits) (s : StreamsState) → More s (limits_set p s)
unfolding limits_set
limits_more p s = told_more None s _ (record { side = refl; own = by; peer = λ dir. omega arith })
  where
    by : (dir : Dir) → (by_dir dir s.own).opened
        ≤ (by_dir dir (let x : ByDir OwnStreams = record { bi = own_raised p.bidi_streams s.own.bi; uni = own_raised p.uni_streams s.own.uni } in x)).opened
    by Bi = omega (arith, raised_same p.bidi_streams s.own.bi)
    by Uni = omega (arith, raised_same p.uni_streams s.own.uni)

-- ---- marks, turns, and streams that leave

left_from_more : (turn : Option (ℤ × ℕ)) (id : ℕ) (s : StreamsState) → More s (left_from turn id s)
left_from_more None id s = same s s refl refl refl
left_from_more (Some place) id s = same s _ refl refl refl

left_more : (id : ℕ) (s : StreamsState) → More s (left id s)
unfolding left
left_more id s = left_from_more (turn_at (record_of id s.records)) id s

removed_more : (id : ℕ) (s : StreamsState) → More s (removed id s)
unfolding removed
removed_more id s =
    then s (record s { peer = freed (is_own s.side id || is_freed (record_of id s.records)) }) (removed id s)
    (by (is_own s.side id || is_freed (record_of id s.records)))
    (same (record s { peer = freed (is_own s.side id || is_freed (record_of id s.records)) }) _ refl refl refl)
  where
    freed : Bool → ByDir PeerStreams
    freed b = cond b s.peer (dir_put (dir_of id) (place_freed (by_dir (dir_of id) s.peer)) s.peer)

    by : (b : Bool) → More s (record s { peer = freed b })
    by true = same s s refl refl refl
    by false = peer_same place_freed freed_same (dir_of id) s

released_more : (id : ℕ) (s : StreamsState) → More s (released id s)
unfolding released forgotten
released_more id s =
    then s (left id (forgotten id s)) (removed id (left id (forgotten id s)))
    (then s (forgotten id s) (left id (forgotten id s)) (same s (forgotten id s) refl refl refl) (left_more id (forgotten id s)))
    (removed_more id (left id (forgotten id s)))

touched_more : (id : ℕ) (s : StreamsState) → More s (touched id s)
unfolding touched
touched_more id s = same s _ refl refl refl

lingering_more : (id : ℕ) (s : StreamsState) → More s (lingering id s)
unfolding lingering touched
lingering_more id s =
    then s (record s { peer = freed (is_own s.side id || is_freed (record_of id s.records)) }) (lingering id s)
    (by (is_own s.side id || is_freed (record_of id s.records)))
    (same (record s { peer = freed (is_own s.side id || is_freed (record_of id s.records)) }) _ refl refl refl)
  where
    freed : Bool → ByDir PeerStreams
    freed b = cond b s.peer (dir_put (dir_of id) (place_freed (by_dir (dir_of id) s.peer)) s.peer)

    by : (b : Bool) → More s (record s { peer = freed b })
    by true = same s s refl refl refl
    by false = peer_same place_freed freed_same (dir_of id) s

pub settled_more : (id : ℕ) (s : StreamsState) → More s (settled id s)
unfolding settled
settled_more id s = by (has_ended (record_of id s.records)) (stops_later (record_of id s.records))
  where
    by : (b c : Bool) → More s (cond b (cond c (lingering id s) (released id s)) (touched id s))
    by true true = lingering_more id s
    by true false = released_more id s
    by false c = touched_more id s

left_over_more : (id : ℕ) (s : StreamsState) → More s (left_over id s)
unfolding left_over
left_over_more id s = by (has_ended (record_of id s.records))
  where
    by : (b : Bool) → More s (cond b (released id s) s)
    by true = released_more id s
    by false = same s s refl refl refl

turn_filed_more : (owes : Bool) (turn : Option (ℤ × ℕ)) (id : ℕ) (s : StreamsState) → More s (turn_filed owes turn id s)
unfolding entered
turn_filed_more true None id s = same s _ refl refl refl
turn_filed_more true (Some place) id s = same s s refl refl refl
turn_filed_more false turn id s = left_more id s

placed_more : (id : ℕ) (s : StreamsState) → More s (placed id s)
unfolding placed
placed_more id s =
    let t : StreamsState = record s { waiting = sets_filed (dues_at (record_of id s.records)) id s.waiting } in
    then s t (placed id s) (same s t refl refl refl)
    (turn_filed_more (dues_at (record_of id s.records)).bytes (turn_at (record_of id s.records)) id t)

filed_more : (id : ℕ) (s : StreamsState) → More s (filed id s)
unfolding filed mark_off
filed_more id s = then s (mark_off id s) (placed id (mark_off id s)) (same s (mark_off id s) refl refl refl) (placed_more id (mark_off id s))

all_filed_more : (ids : List ℕ) (s : StreamsState) → More s (all_filed ids s)
unfolding all_filed
all_filed_more [] s = same s s refl refl refl
all_filed_more (id ∷ ids) s = then s (filed id s) (all_filed ids (filed id s)) (filed_more id s) (all_filed_more ids (filed id s))

turned_more : (id : ℕ) (s : StreamsState) → More s (turned id s)
unfolding turned entered
turned_more id s = by (dues_at (record_of id s.records)).bytes
  where
    by : (b : Bool) → More s (cond b (entered (place_again id (left id s)) id (left id s)) (left id s))
    by true = then s (left id s) _ (left_more id s) (same (left id s) _ refl refl refl)
    by false = left_more id s

-- ---- streams are opened

opened_own_more : (dir : Dir) (s : StreamsState) → More s (opened_own dir s)
unfolding opened_own own_opened
opened_own_more dir s =
    then s (record s { own = dir_put dir (own_opened (by_dir dir s.own)) s.own }) (opened_own dir s)
    (own_put dir (own_opened (by_dir dir s.own)) s (omega arith))
    (same (record s { own = dir_put dir (own_opened (by_dir dir s.own)) s.own }) _ refl refl refl)

peer_more : (id : ℕ) (k : PeerStreams) → k.opened ≤ id / 4 → id < 2 ^ 62 → k.opened ≤ (peer_opened (id / 4) k).opened
unfolding peer_opened at_most
peer_more id k below fits = omega (arith, below, fits)

opened_with_more : (id : ℕ) (st : Stream) (s : StreamsState) → is_peer_unopened id s ≡ true → id < 2 ^ 62 → More s (opened_with id st s)
unfolding opened_with is_peer_unopened
opened_with_more id st s new fits =
    then s (record s { peer = dir_put (dir_of id) (peer_opened (id / 4) (by_dir (dir_of id) s.peer)) s.peer }) (opened_with id st s)
    (peer_put (dir_of id) (peer_opened (id / 4) (by_dir (dir_of id) s.peer)) s
    (peer_more id (by_dir (dir_of id) s.peer) (reaches (by_dir (dir_of id) s.peer).opened (id / 4) (and-then (not (is_own s.side id)) _ new)) fits))
    (same (record s { peer = dir_put (dir_of id) (peer_opened (id / 4) (by_dir (dir_of id) s.peer)) s.peer }) _ refl refl refl)

met_more : (f : Stream → Stream) (id : ℕ) (s : StreamsState) → id < 2 ^ 62 → More s (met f id s)
unfolding met
met_more f id s fits = by (is_peer_unopened id s) refl
  where
    by : (b : Bool) → is_peer_unopened id s ≡ b → More s (cond b (opened_with id (f (fresh_peer (dir_of id) s)) s) (record s { records = changed f id s.records }))
    by true new = opened_with_more id (f (fresh_peer (dir_of id) s)) s new fits
    by false old = same s _ refl refl refl

pub comes_more : (g : Recv → Recv) (id : ℕ) (s : StreamsState) → id < 2 ^ 62 → More s (comes g id s)
unfolding comes counted
comes_more g id s fits =
    then s (met (with_receiving g) id s) (comes g id s) (met_more (with_receiving g) id s fits)
    (then (met (with_receiving g) id s) _ (comes g id s) (same (met (with_receiving g) id s) _ refl refl refl) (settled_more id _))

-- ---- each step

gives_more : (g : Recv → Recv) (id : ℕ) (s : StreamsState) → More s (gives g id s)
unfolding gives counted
gives_more g id s = then s _ (gives g id s) (same s _ refl refl refl) (settled_more id _)

refused_more : (e : WriteError) (id : ℕ) (s : StreamsState) → More s (write_refused e id s)
unfolding write_refused held_up
refused_more Blocked id s = by s.closed
  where
    by : (b : Bool)
        → More s (cond b s (place_reserved (needs_place_at (record_of id s.records)) (held_up (credit_at (record_of id s.records)) id (record s { records = changed (with_sending (if_known was_blocked)) id s.records }))))
    by true = same s s refl refl refl
    by false = same s _ refl refl refl
refused_more ClosedStream id s = same s s refl refl refl
refused_more (WriteStopped code) id s = same s s refl refl refl
refused_more OutOfMemory id s = same s s refl refl refl

polled_more : (s : StreamsState) → More s (polled s)
unfolding polled told_opened
polled_more s = by s.peer.bi.tells s.peer.uni.tells
  where
    by : (b c : Bool) → More s (cond b (told_opened Bi s) (cond c (told_opened Uni s) (record s { events = first_dropped s.events })))
    by true c = peer_same opening_told told_same Bi s
    by false true = peer_same opening_told told_same Uni s
    by false false = same s _ refl refl refl

sealed_more : (c : Control) (s : StreamsState) → More s (control_sealed c s)
unfolding control_sealed max_data_sealed max_streams_sealed
sealed_more (Reset id code size) s = same s _ refl refl refl
sealed_more (Stop id code) s = then s _ _ (same s _ refl refl refl) (left_over_more id _)
sealed_more (MaxData limit) s = same s _ refl refl refl
sealed_more (MaxStreamData id limit) s = same s _ refl refl refl
sealed_more (MaxStreams dir limit) s = peer_same places_sealed sealed_same dir s

again_more : (id : ℕ) (code : VarInt) (s : StreamsState) → More s (stop_again id code s)
unfolding stop_again touched
again_more id code s = by (is_some (record_of id s.records))
  where
    by : (b : Bool) → More s (cond b (touched id (record s { records = changed (with_receiving stop_lost) id s.records }))
        (record s { waiting = record s.waiting { gone_stops = with_stop id code s.waiting.gone_stops } }))
    by true = same s _ refl refl refl
    by false = same s _ refl refl refl

lost_more : (c : Control) (s : StreamsState) → More s (control_lost c s)
unfolding control_lost max_data_lost max_streams_lost touched
lost_more (Reset id code size) s = same s _ refl refl refl
lost_more (Stop id code) s = again_more id code s
lost_more (MaxData limit) s = same s _ refl refl refl
lost_more (MaxStreamData id limit) s = same s _ refl refl refl
lost_more (MaxStreams dir limit) s = peer_same places_lost lost_same dir s

acked_more : (c : Control) (s : StreamsState) → More s (control_acked c s)
unfolding control_acked
acked_more (Reset id code size) s = then s _ _ (same s _ refl refl refl) (settled_more id _)
acked_more (Stop id code) s = same s s refl refl refl
acked_more (MaxData limit) s = same s s refl refl refl
acked_more (MaxStreamData id limit) s = same s s refl refl refl
acked_more (MaxStreams dir limit) s = same s s refl refl refl

part_more : (d : StreamPart) (s : StreamsState) → More s (sealed_part d s)
unfolding sealed_part
part_more d s = then s _ _ (same s _ refl refl refl) (turned_more d.id _)

step_more : (x : Step) (s : StreamsState) → IsPossible x → keeps_streams x ≡ true → More s (after_step x s)
unfolding after_step IsPossible keeps_streams reading_begun send_window_set receive_window_set max_concurrent_set accepted_one priority_set resets sends passed wrote queued touched stream_came reset_came stop_came stream_limit_came watched streams_limit_came limit_came bytes_lost bytes_acked bytes_gone bytes_taken told_if
step_more (LimitsKnown p) s can keeps = limits_more p s
step_more EarlyRefused s can keeps = absurd (cc)
step_more Closed s can keeps = same s _ refl refl refl
step_more Failed s can keeps = same s _ refl refl refl
step_more (Opened dir) s can keeps = opened_own_more dir s
step_more (Accepted dir) s can keeps =
    then s (record s { peer = dir_put dir (accepted (by_dir dir s.peer)) s.peer }) _ (peer_same accepted accepted_same dir s)
    (same (record s { peer = dir_put dir (accepted (by_dir dir s.peer)) s.peer }) _ refl refl refl)
step_more (Wrote id n chunk) s can keeps = same s _ refl refl refl
step_more (Refused e id) s can keeps = refused_more e id s
step_more (Finished id) s can keeps = same s _ refl refl refl
step_more (WasReset code id) s can keeps = told_more None s (sends (was_reset code) id s) (same s _ refl refl refl)
step_more (Began ordered id) s can keeps = same s _ refl refl refl
step_more (Read ordered result id) s can keeps = gives_more (after_read ordered result) id s
step_more (Stopped code id) s can keeps = gives_more (stop_asked code) id s
step_more (ResetAsked id) s can keeps = gives_more reset_asked id s
step_more (PrioritySet priority id) s can keeps = same s _ refl refl refl
step_more (SendWindowSet n) s can keeps = told_more None s _ (same s (record s { send_window = n }) refl refl refl)
step_more (ReceiveWindowSet n) s can keeps = same s _ refl refl refl
step_more (ConcurrentSet dir n) s can keeps = peer_same (concurrent_set n) (concurrent_same n) dir s
step_more Polled s can keeps = polled_more s
step_more (StreamCame id o bs last) s can keeps = then s _ _ (comes_more (stream_taken o bs last) id s can) (same _ _ refl refl refl)
step_more (ResetCame id code size) s can keeps = then s _ _ (comes_more (reset_taken code size) id s can) (same _ _ refl refl refl)
step_more (StopCame id code) s can keeps = then s _ _ (met_more (with_sending (stop_taken code)) id s can) (same _ _ refl refl refl)
step_more (StreamLimitCame id limit) s can keeps =
    told_more None s (watched id (met (with_sending (limit_taken limit)) id s))
    (then s (met (with_sending (limit_taken limit)) id s) _ (met_more (with_sending (limit_taken limit)) id s can) (same _ _ refl refl refl))
step_more (StreamsLimitCame dir n) s can keeps =
    then s (record s { own = dir_put dir (own_raised n (by_dir dir s.own)) s.own }) _
    (own_put dir (own_raised n (by_dir dir s.own)) s (omega (arith, raised_same n (by_dir dir s.own))))
    (same (record s { own = dir_put dir (own_raised n (by_dir dir s.own)) s.own }) _ refl refl refl)
step_more (LimitCame n) s can keeps = told_more None s _ (same s (record s { outgoing = outgoing_raised n s.outgoing }) refl refl refl)
step_more MarksFiled s can keeps = all_filed_more s.waiting.marks.ids s
step_more (ControlSealed c) s can keeps = sealed_more c s
step_more (ControlLost c) s can keeps = lost_more c s
step_more (ControlAcked c) s can keeps = acked_more c s
step_more (PartSealed d) s can keeps = part_more d s
step_more (BytesLost id start stop last) s can keeps = same s _ refl refl refl
step_more (BytesAcked id start stop last) s can keeps =
    let t : StreamsState = bytes_gone id start stop last s in
    let u : StreamsState = writables_told (Some id) t in
    told_more None s (told_if (finishes id start stop last s) (FinishedEvent id) u)
    (then s u (told_if (finishes id start stop last s) (FinishedEvent id) u)
    (told_more (Some id) s t (then s _ t (same s (bytes_taken id start stop last s) refl refl refl) (settled_more id _)))
    (same u (told_if (finishes id start stop last s) (FinishedEvent id) u) refl refl refl))

pub stays_opened : StaysOpened
stays_opened id x s can keeps is = opened_then id s (after_step x s) (step_more x s can keeps) is

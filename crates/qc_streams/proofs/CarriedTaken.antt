-- What was read of a stream in order are the first of the bytes that came on it: what is known of a step that a call takes
use Rattle.std.proofs.Common.{◌≡◌, ◌∙◌, ℕ, ◌+◌, ◌/◌, ◌^◌, ◌<◌, Bool, true, false, cond, not, ◌&&◌, ◌||◌, nat_le, nat_lt, List, length, Option, None, Some, is_some, Ok, ap, sym, subst, arith, refl}
use Rattle.std.specs.Prelude.{ℤ}
use Rattle.std.specs.Option.{option_map}
use Rattle.std.proofs.lemmas.Bool.Decides.{nat_tests}
use Rattle.qc_base.specs.declared.side.Dir.{Dir}
use Rattle.qc_base.specs.declared.side.Dir.TheVariants.{Bi, Uni}
use Rattle.qc_recv.specs.declared.fault.Refusal.{Refusal as SideRefusal}
use Rattle.qc_recv.specs.declared.fault.Refusal.TheVariants.{FinalSize, FlowControl}
use Rattle.qc_recv.specs.declared.recv.Chunk.{Chunk}
use Rattle.qc_recv.specs.declared.recv.Recv.{Recv}
use Rattle.qc_recv.specs.Receiving.{above_credit, breaks_size, end_refusal, first_row as first_side_row, is_ended, new_receiving, stream_refusal, stream_taken}
use Rattle.qc_streams.specs.declared.fault.Refusal.{Refusal}
use Rattle.qc_streams.specs.declared.fault.Refusal.TheVariants.{Limit, Side, State}
use Rattle.qc_streams.specs.declared.state.StreamsState.{StreamsState}
use Rattle.qc_streams.specs.declared.stream.Stream.{Stream}
use Rattle.qc_streams.specs.Calls.{IsRead, IsReadOf, receiving_at, receiving_of}
use Rattle.qc_streams.specs.Carried.{IsAnswered}
use Rattle.qc_streams.specs.Counts.{by_dir, dir_put, place_freed}
use Rattle.qc_streams.specs.Credit.{room}
use Rattle.qc_streams.specs.Frames.{bars_receiving, comes, receive_bar, receive_refusal, stream_came}
use Rattle.qc_streams.specs.Records.{changed, record_of}
use Rattle.qc_streams.specs.Refusals.{first_row, or_else}
use Rattle.qc_streams.specs.Stream.{fresh_stream, has_ended, is_freed, refusal_at, side_refusal, with_receiving}
use Rattle.qc_streams.specs.Streams.{counted, dir_of, forgotten, fresh_peer, is_own, is_own_unopened, is_past_limit, is_peer_unopened, is_uni, lingering, lower_opened, met, opened_with, released, removed, settled, stops_later, target, told_if}
use Rattle.qc_streams.specs.Queues.{left, left_from, touched, turn_at}
use Rattle.qc_streams.specs.Waits.{IsPossible, Step, Read, StreamCame, after_step}
use Rattle.qc_streams.specs.Within.{IsTaken}
use Rattle.qc_streams.proofs.CarriedSide.{IsFine}
use Rattle.qc_streams.proofs.Keyed.{new_here, same_id}
use Rattle.qc_streams.proofs.WaitOpened.{opened_with_ok, peer_waits}
use Rattle.qc_streams.proofs.WaitSteps.{Holds, freed_same, opened_same, put_same, was_opened}

-- whether the stream with an id was opened
abbrev pub HasOpened : ℕ → StreamsState → Type 0
HasOpened id s = was_opened s.side s.own s.peer id ≡ true

-- whether it was not
abbrev pub IsUnopened : ℕ → StreamsState → Type 0
IsUnopened id s = was_opened s.side s.own s.peer id ≡ false

-- ---- a STREAM frame that isn't refused

bar_and_side : (a : Option Refusal) (o : Option SideRefusal) → or_else a (option_map Side o) ≡ None → (a ≡ None) × (o ≡ None)
bar_and_side None None is = (refl, refl)
bar_and_side None (Some x) is = absurd (cc)
bar_and_side (Some x) o is = absurd (cc)

no_bar : (a b : Bool) → cond a (Some State) (cond b (Some Limit) None) ≡ None → a ≡ false
no_bar true b is = absurd (cc)
no_bar false b is = refl

not_barred : (id : ℕ) (s : StreamsState) → receive_bar id s ≡ None → bars_receiving id s ≡ false
unfolding receive_bar first_row
not_barred id s is = no_bar (bars_receiving id s) (is_past_limit id s) is

-- the peer may open the stream that it names, where that wasn't opened
peer_new : (id : ℕ) (s : StreamsState) → IsUnopened id s → receive_bar id s ≡ None → is_peer_unopened id s ≡ true
unfolding bars_receiving is_own_unopened is_peer_unopened
peer_new id s unopened bar =
    by (is_own s.side id) (is_uni id) (id / 4) (by_dir (dir_of id) s.own).opened (by_dir (dir_of id) s.peer).opened unopened (not_barred id s bar)
  where
    by : (b u : Bool) (i m n : ℕ) → cond b (nat_lt i m) (nat_lt i n) ≡ false → (b && (u || nat_le m i)) ≡ false → (not b && nat_le n i) ≡ true
    by true true i m n x y = absurd (cc)
    by true false i m n x y = grind (arith, nat_tests)
    by false u i m n x y = grind (arith, nat_tests)

peer_old : (id : ℕ) (s : StreamsState) → HasOpened id s → is_peer_unopened id s ≡ false
unfolding is_peer_unopened
peer_old id s opened = by (is_own s.side id) (id / 4) (by_dir (dir_of id) s.own).opened (by_dir (dir_of id) s.peer).opened opened
  where
    by : (b : Bool) (i m n : ℕ) → cond b (nat_lt i m) (nat_lt i n) ≡ true → (not b && nat_le n i) ≡ false
    by true i m n x = refl
    by false i m n x = grind (arith, nat_tests)

-- its end lies below the greatest offset there is
first_no : (a b c : Bool) (x y z : SideRefusal) → cond a (Some x) (cond b (Some y) (cond c (Some z) None)) ≡ None → a ≡ false
first_no true b c x y z is = absurd (cc)
first_no false b c x y z is = refl

end_below : (end : ℕ) (last : Bool) (n : ℕ) (r : Recv) → end_refusal end last n r ≡ None → end < 2 ^ 62
unfolding end_refusal first_side_row
end_below end last n r is =
    by end (first_no (nat_le (2 ^ 62) end) (breaks_size end last r) (above_credit end n r) FlowControl FinalSize FlowControl is)
  where
    by : (end : ℕ) → nat_le (2 ^ 62) end ≡ false → end < 2 ^ 62
    by end is = grind (arith, nat_tests)

stream_below : (o : ℕ) (bs : List ℕ) (last : Bool) (n : ℕ) (r : Recv) → stream_refusal o bs last n r ≡ None → is_ended r ≡ false → o + length bs < 2 ^ 62
unfolding stream_refusal
stream_below o bs last n r is goes = end_below (o + length bs) last n r (by (is_ended r) (end_refusal (o + length bs) last n r) _ goes is)
  where
    by : (b : Bool) (x rest : Option SideRefusal) → b ≡ false → cond b None (cond (is_some x) x rest) ≡ None → x ≡ None
    by true x rest goes is = absurd (cc)
    by false None rest goes is = refl
    by false (Some y) rest goes is = absurd (cc)

-- ---- a step is fine for the side that it changes

-- that side is the one of the stream that a frame meets, and the one that is read
fine : (id : ℕ) (x : Step) (s : StreamsState) (st : Stream) (r : Recv) → (receive_bar id s ≡ None → target id s ≡ Some st) → st.receiving ≡ Some r
    → ((most : ℕ) (ordered : Bool) (c : Chunk) → IsReadOf most ordered (receiving_at id s) (Ok (Some c)) → IsRead most ordered r (Ok (Some c)))
    → IsTaken x s → IsAnswered x s → IsFine id x r
unfolding IsTaken IsAnswered receive_refusal
fine id (StreamCame j o bs last) s st r meets side reads takes answers = λ same goes.
    let both = bar_and_side (receive_bar id s) (refusal_at (stream_refusal o bs last (room s.incoming)) (target id s))
    (subst (λ (i : ℕ). receive_refusal (stream_refusal o bs last (room s.incoming)) i s ≡ None) (same_id j id same) takes) in
    stream_below o bs last (room s.incoming) r
    (ap (λ (p : Option Recv). side_refusal (stream_refusal o bs last (room s.incoming)) p) (sym side)
    ∙ ap (λ (p : Option Stream). refusal_at (stream_refusal o bs last (room s.incoming)) p) (sym (meets both.0)) ∙ both.1) goes
fine id (Read ordered (Ok (Some c)) j) s st r meets side reads takes answers = λ same.
    (answers.0, reads answers.0 ordered c (subst (λ (i : ℕ). IsReadOf answers.0 ordered (receiving_at i s) (Ok (Some c))) (same_id j id same) answers.1))
fine id x s st r meets side reads takes answers = tt

-- a stream that stands
pub fine_stood : (id : ℕ) (x : Step) (s : StreamsState) (st : Stream) (r : Recv) → HasOpened id s → record_of id s.records ≡ Some st
    → st.receiving ≡ Some r → IsTaken x s → IsAnswered x s → IsFine id x r
unfolding target receiving_at IsReadOf
fine_stood id x s st r opened is side takes answers =
    fine id x s st r
    (λ bar. ap (λ (b : Bool). cond b (Some (fresh_peer (dir_of id) s)) (record_of id s.records)) (peer_old id s opened) ∙ is)
    side
    (λ most ordered c answer.
    subst (λ (p : Option Recv). IsReadOf most ordered p (Ok (Some c))) (ap (λ (p : Option Stream). receiving_of p) is ∙ side) answer)
    takes answers

-- one that a frame opens
fresh_side : (dir : Dir) (s : StreamsState) → (fresh_peer dir s).receiving ≡ Some (new_receiving s.stream_window)
unfolding fresh_stream
fresh_side Bi s = refl
fresh_side Uni s = refl

pub no_chunk : (most : ℕ) (ordered : Bool) (c : Chunk) → IsReadOf most ordered None (Ok (Some c)) → ⊥
unfolding IsReadOf
no_chunk most ordered c is = cc

pub fine_fresh : (id : ℕ) (x : Step) (s : StreamsState) → IsUnopened id s → record_of id s.records ≡ None
    → IsTaken x s → IsAnswered x s → IsFine id x (new_receiving s.stream_window)
unfolding target receiving_at
fine_fresh id x s unopened is takes answers =
    fine id x s (fresh_peer (dir_of id) s) (new_receiving s.stream_window)
    (λ bar. ap (λ (b : Bool). cond b (Some (fresh_peer (dir_of id) s)) (record_of id s.records)) (peer_new id s unopened bar))
    (fresh_side (dir_of id) s)
    (λ most ordered c answer.
    absurd (no_chunk most ordered c
    (subst (λ (p : Option Recv). IsReadOf most ordered p (Ok (Some c))) (ap (λ (p : Option Stream). receiving_of p) is) answer)))
    takes answers

-- ---- a stream that a frame opens was opened then

removed_opened : (id : ℕ) (s : StreamsState) → HasOpened id s → HasOpened id (removed id s)
unfolding removed
removed_opened id s is = by (is_own s.side id || is_freed (record_of id s.records))
  where
    by : (b : Bool) → was_opened s.side s.own (cond b s.peer (dir_put (dir_of id) (place_freed (by_dir (dir_of id) s.peer)) s.peer)) id ≡ true
    by true = is
    by false = opened_same s.side s.own s.peer _ (put_same place_freed freed_same (dir_of id) s.peer) id is

left_opened : (turn : Option (ℤ × ℕ)) (id : ℕ) (s : StreamsState) → HasOpened id s → HasOpened id (left_from turn id s)
left_opened None id s is = is
left_opened (Some place) id s is = is

lingering_opened : (id : ℕ) (s : StreamsState) → HasOpened id s → HasOpened id (lingering id s)
unfolding lingering touched
lingering_opened id s is = by (is_own s.side id || is_freed (record_of id s.records))
  where
    by : (b : Bool) → was_opened s.side s.own (cond b s.peer (dir_put (dir_of id) (place_freed (by_dir (dir_of id) s.peer)) s.peer)) id ≡ true
    by true = is
    by false = opened_same s.side s.own s.peer _ (put_same place_freed freed_same (dir_of id) s.peer) id is

settled_opened : (id : ℕ) (s : StreamsState) → HasOpened id s → HasOpened id (settled id s)
unfolding settled released forgotten left touched
settled_opened id s is = by (has_ended (record_of id s.records)) (stops_later (record_of id s.records))
  where
    by : (b c : Bool) → HasOpened id (cond b (cond c (lingering id s) (released id s)) (touched id s))
    by true true = lingering_opened id s is
    by true false = removed_opened id (left id (forgotten id s)) (left_opened (turn_at (record_of id s.records)) id (forgotten id s) is)
    by false c = is

met_opened : (f : Recv → Recv) (id : ℕ) (s : StreamsState) → is_peer_unopened id s ≡ true → id < 2 ^ 62 → Holds s → HasOpened id (met (with_receiving f) id s)
unfolding met opened_with with_receiving
met_opened f id s new fits h = by (is_peer_unopened id s) new
  where
    first : Stream
    first = with_receiving f (fresh_peer (dir_of id) s)

    by : (b : Bool) → b ≡ true
        → HasOpened id (cond b (opened_with id (with_receiving f (fresh_peer (dir_of id) s)) s)
        (record s { records = changed (with_receiving f) id s.records }))
    by true is =
        (opened_with_ok id first s new fits (peer_waits (dir_of id) s) h).known id
        (ap (λ (o : Option Stream). is_some o) (new_here id (lower_opened id s) first))
    by false is = absurd (cc)

pub came_opened : (id o : ℕ) (bs : List ℕ) (last : Bool) (s : StreamsState) → IsPossible (StreamCame id o bs last) → IsTaken (StreamCame id o bs last) s
    → Holds s → IsUnopened id s → HasOpened id (after_step (StreamCame id o bs last) s)
unfolding IsPossible IsTaken receive_refusal after_step stream_came told_if comes counted
came_opened id o bs last s can takes h unopened =
    let bar = (bar_and_side (receive_bar id s) (refusal_at (stream_refusal o bs last (room s.incoming)) (target id s)) takes).0 in
    settled_opened id _ (met_opened (stream_taken o bs last) id s (peer_new id s unopened bar) can h)

-- What is sent and what comes stays within the credit: what the parts of steps leave of that
use Rattle.std.proofs.Common.{◌≡◌, ◌∙◌, ℕ, zero, suc, ◌+◌, ◌-◌, ◌/◌, ◌^◌, ◌<◌, ◌≤◌, Bool, true, false, cond, not, ◌&&◌, ◌||◌, nat_le, nat_lt, max, List, [], ◌∷◌, Option, None, Some, ap, sym, subst, arith, refl}
use Rattle.std.proofs.lemmas.Bool.Decides.{nat_tests}
use Rattle.std.specs.Prelude.{ℤ}
use Rattle.std.specs.Option.{option_map}
use Rattle.qc_base.specs.declared.side.Dir.{Dir}
use Rattle.qc_base.specs.declared.side.Dir.TheVariants.{Bi, Uni}
use Rattle.qc_recv.specs.declared.fault.Refusal.{Refusal as SideRefusal}
use Rattle.qc_recv.specs.declared.recv.Recv.{Recv}
use Rattle.qc_recv.specs.Receiving.{new_receiving}
use Rattle.qc_streams.specs.declared.counts.ByDir.{ByDir}
use Rattle.qc_streams.specs.declared.counts.OwnStreams.{OwnStreams}
use Rattle.qc_streams.specs.declared.counts.PeerStreams.{PeerStreams}
use Rattle.qc_streams.specs.declared.credit.Incoming.{Incoming}
use Rattle.qc_streams.specs.declared.credit.Outgoing.{Outgoing}
use Rattle.qc_streams.specs.declared.fault.Refusal.{Refusal}
use Rattle.qc_streams.specs.declared.fault.Refusal.TheVariants.{Limit, Side, State}
use Rattle.qc_streams.specs.declared.state.StreamsState.{StreamsState}
use Rattle.qc_streams.specs.declared.stream.Stream.{Stream}
use Rattle.qc_streams.specs.declared.stream.Totals.{Totals}
use Rattle.qc_streams.specs.Calls.{gives}
use Rattle.qc_streams.specs.Counts.{at_most, by_dir, dir_put, saturated, own_opened, peer_opened, place_freed, with_place}
use Rattle.qc_streams.specs.Credit.{incoming_credit, room, tallied, with_totals}
use Rattle.qc_streams.specs.Frames.{bars_receiving, bars_sending, comes, receive_bar, receive_refusal, send_refusal}
use Rattle.qc_streams.specs.Lending.{AllRecords}
use Rattle.qc_streams.specs.StreamBytes.{place_again, turned}
use Rattle.qc_streams.specs.Records.{changed, record_of, without}
use Rattle.qc_streams.specs.Refusals.{first_row, or_else}
use Rattle.qc_streams.specs.Stream.{fresh_stream, has_ended, is_freed, refusal_at, side_refusal, totals_at, totals_if, totals_of, with_freed, with_receiving}
use Rattle.qc_streams.specs.Streams.{counted, dir_of, forgotten, fresh_own, fresh_peer, is_own, is_past_limit, is_peer_unopened, left_over, lingering, lower_opened, made, may_open, met, opened_own, opened_with, released, removed, settled, stops_later, target}
use Rattle.qc_streams.specs.Queues.{all_filed, dues_at, entered, filed, left, left_from, mark_off, placed, queue_one, queued, touched, turn_at, turn_filed, with_mark, with_turn}
use Rattle.qc_streams.specs.Within.{TakesWithin}
use Rattle.qc_streams.proofs.Keyed.{new_here}
use Rattle.qc_streams.proofs.Waits.{here}
use Rattle.qc_streams.proofs.WithinSides.{AllGood, Good, good_changed, good_changed_at, good_gone, good_new, own_good, peer_good, receiving_good}
use Rattle.qc_streams.proofs.WithinTaken.{CanBe}

-- the connection's credit for what comes holds
pub record IncomingFits (c : Incoming) : Type 0 where
  pub came : c.received ≤ incoming_credit c
  pub announced : c.announced ≤ incoming_credit c
  pub first : c.first ≤ max c.reached (saturated c.window)

-- this end's streams of a direction
pub record OwnFits (k : OwnStreams) : Type 0 where
  pub opened : k.opened ≤ k.limit
  pub most : k.limit ≤ 2 ^ 60

-- the peer's
pub record PeerFits (k : PeerStreams) : Type 0 where
  pub opened : k.opened ≤ k.limit
  pub announced : k.announced ≤ k.limit
  pub first : k.first ≤ k.limit
  pub most : k.limit ≤ 2 ^ 60

-- all of it holds, where a stream's window has 64 bits
pub record Fit (window : ℕ) (all : AllRecords) (c : Incoming) (out : Outgoing) (ours : ByDir OwnStreams) (theirs : ByDir PeerStreams) : Type 0 where
  pub good : AllGood all
  pub incoming : IncomingFits c
  pub sent : out.written ≤ out.limit
  pub own : (dir : Dir) → OwnFits (by_dir dir ours)
  pub peer : (dir : Dir) → PeerFits (by_dir dir theirs)
  pub small : window < 2 ^ 64

abbrev pub Fits : StreamsState → Type 0
Fits s = Fit s.stream_window s.records s.incoming s.outgoing s.own s.peer

-- with other streams
pub with_all : (all : AllRecords) (s : StreamsState) → AllGood all → Fits s → Fits (record s { records = all })
with_all all s g h = record { good = g; incoming = h.incoming; sent = h.sent; own = h.own; peer = h.peer; small = h.small }

-- with other numbers of streams
pub with_own : (own : ByDir OwnStreams) (s : StreamsState) → ((dir : Dir) → OwnFits (by_dir dir own)) → Fits s → Fits (record s { own = own })
with_own own s o h = record { good = h.good; incoming = h.incoming; sent = h.sent; own = o; peer = h.peer; small = h.small }

pub with_peer : (peer : ByDir PeerStreams) (s : StreamsState) → ((dir : Dir) → PeerFits (by_dir dir peer)) → Fits s → Fits (record s { peer = peer })
with_peer peer s p h = record { good = h.good; incoming = h.incoming; sent = h.sent; own = h.own; peer = p; small = h.small }

-- those of one direction change
pub put_own : (e : Dir) (k : OwnStreams) (own : ByDir OwnStreams) → OwnFits k → ((dir : Dir) → OwnFits (by_dir dir own)) → (dir : Dir)
    → OwnFits (by_dir dir (dir_put e k own))
put_own Bi k own new old Bi = new
put_own Bi k own new old Uni = old Uni
put_own Uni k own new old Bi = old Bi
put_own Uni k own new old Uni = new

pub put_peer : (e : Dir) (k : PeerStreams) (peer : ByDir PeerStreams) → PeerFits k → ((dir : Dir) → PeerFits (by_dir dir peer)) → (dir : Dir)
    → PeerFits (by_dir dir (dir_put e k peer))
put_peer Bi k peer new old Bi = new
put_peer Bi k peer new old Uni = old Uni
put_peer Uni k peer new old Bi = old Bi
put_peer Uni k peer new old Uni = new

-- a stream changes
pub changed_fits : (f : Stream → Stream) → ((st : Stream) → Good st → Good (f st)) → (id : ℕ) (s : StreamsState) → Fits s
    → Fits (record s { records = changed f id s.records })
changed_fits f keeps id s h = with_all (changed f id s.records) s (good_changed f keeps id s.records h.good) h

-- ---- marks, turns, and streams that leave

mark_good : (b : Bool) (st : Stream) → Good st → Good (with_mark b st)
unfolding with_mark
mark_good b st g = g

turn_good : (turn : Option (ℤ × ℕ)) (st : Stream) → Good st → Good (with_turn turn st)
unfolding with_turn
turn_good turn st g = g

pub touched_fits : (id : ℕ) (s : StreamsState) → Fits s → Fits (touched id s)
unfolding touched
touched_fits id s h = changed_fits (with_mark true) (mark_good true) id s h

left_from_fits : (turn : Option (ℤ × ℕ)) (id : ℕ) (s : StreamsState) → Fits s → Fits (left_from turn id s)
left_from_fits None id s h = h
left_from_fits (Some place) id s h = changed_fits (with_turn None) (turn_good None) id s h

left_fits : (id : ℕ) (s : StreamsState) → Fits s → Fits (left id s)
unfolding left
left_fits id s h = left_from_fits (turn_at (record_of id s.records)) id s h

-- a stream began to wait
queue_good : (n : ℕ) (st : Stream) → Good st → Good (queue_one n st)
unfolding queue_one
queue_good n st g = g

pub queued_fits : (id : ℕ) (s : StreamsState) → Fits s → Fits (queued id s)
unfolding queued
queued_fits id s h = changed_fits (queue_one s.waiting.turns) (queue_good s.waiting.turns) id s h

entered_fits : (place : ℤ × ℕ) (id : ℕ) (s : StreamsState) → Fits s → Fits (entered place id s)
unfolding entered
entered_fits place id s h = changed_fits (with_turn (Some place)) (turn_good (Some place)) id s h

freed_fits : (k : PeerStreams) → PeerFits k → PeerFits (place_freed k)
unfolding place_freed with_place at_most saturated
freed_fits k h = record {
  opened = omega (arith, h.opened, h.most);
  announced = omega (arith, h.announced, h.most);
  first = omega (arith, h.first, h.most);
  most = omega arith;
}

removed_fits : (id : ℕ) (s : StreamsState) → Fits s → Fits (removed id s)
unfolding removed
removed_fits id s h =
    with_all (without id s.records) (record s { peer = freed (is_own s.side id || is_freed (record_of id s.records)) }) (good_gone id s.records h.good)
    (with_peer (freed (is_own s.side id || is_freed (record_of id s.records))) s (by (is_own s.side id || is_freed (record_of id s.records))) h)
  where
    freed : Bool → ByDir PeerStreams
    freed b = cond b s.peer (dir_put (dir_of id) (place_freed (by_dir (dir_of id) s.peer)) s.peer)

    by : (b : Bool) (dir : Dir) → PeerFits (by_dir dir (freed b))
    by true dir = h.peer dir
    by false dir = put_peer (dir_of id) (place_freed (by_dir (dir_of id) s.peer)) s.peer (freed_fits (by_dir (dir_of id) s.peer) (h.peer (dir_of id))) h.peer dir

released_fits : (id : ℕ) (s : StreamsState) → Fits s → Fits (released id s)
unfolding released forgotten
released_fits id s h = removed_fits id (left id (forgotten id s)) (left_fits id (forgotten id s) h)

freed_good : (st : Stream) → Good st → Good (with_freed st)
unfolding with_freed
freed_good st h = h

lingering_fits : (id : ℕ) (s : StreamsState) → Fits s → Fits (lingering id s)
unfolding lingering
lingering_fits id s h =
    touched_fits id _
    (changed_fits with_freed freed_good id (record s { peer = freed (is_own s.side id || is_freed (record_of id s.records)) })
    (with_peer (freed (is_own s.side id || is_freed (record_of id s.records))) s (by (is_own s.side id || is_freed (record_of id s.records))) h))
  where
    freed : Bool → ByDir PeerStreams
    freed b = cond b s.peer (dir_put (dir_of id) (place_freed (by_dir (dir_of id) s.peer)) s.peer)

    by : (b : Bool) (dir : Dir) → PeerFits (by_dir dir (freed b))
    by true dir = h.peer dir
    by false dir = put_peer (dir_of id) (place_freed (by_dir (dir_of id) s.peer)) s.peer (freed_fits (by_dir (dir_of id) s.peer) (h.peer (dir_of id))) h.peer dir

pub settled_fits : (id : ℕ) (s : StreamsState) → Fits s → Fits (settled id s)
unfolding settled
settled_fits id s h = by (has_ended (record_of id s.records)) (stops_later (record_of id s.records))
  where
    by : (b c : Bool) → Fits (cond b (cond c (lingering id s) (released id s)) (touched id s))
    by true true = lingering_fits id s h
    by true false = released_fits id s h
    by false c = touched_fits id s h

pub left_over_fits : (id : ℕ) (s : StreamsState) → Fits s → Fits (left_over id s)
unfolding left_over
left_over_fits id s h = by (has_ended (record_of id s.records))
  where
    by : (b : Bool) → Fits (cond b (released id s) s)
    by true = released_fits id s h
    by false = h

turn_fits : (owes : Bool) (turn : Option (ℤ × ℕ)) (id : ℕ) (s : StreamsState) → Fits s → Fits (turn_filed owes turn id s)
turn_fits true None id s h = entered_fits _ id s h
turn_fits true (Some place) id s h = h
turn_fits false turn id s h = left_fits id s h

filed_fits : (id : ℕ) (s : StreamsState) → Fits s → Fits (filed id s)
unfolding filed placed mark_off
filed_fits id s h = turn_fits _ _ id _ (changed_fits (with_mark false) (mark_good false) id s h)

pub all_filed_fits : (ids : List ℕ) (s : StreamsState) → Fits s → Fits (all_filed ids s)
unfolding all_filed
all_filed_fits [] s h = h
all_filed_fits (id ∷ ids) s h = all_filed_fits ids (filed id s) (filed_fits id s h)

pub turned_fits : (id : ℕ) (s : StreamsState) → Fits s → Fits (turned id s)
unfolding turned
turned_fits id s h = by (dues_at (record_of id s.records)).bytes
  where
    by : (b : Bool) → Fits (cond b (entered (place_again id (left id s)) id (left id s)) (left id s))
    by true = entered_fits _ id (left id s) (left_fits id s h)
    by false = left_fits id s h

-- ---- streams are opened

made_good : (id from n : ℕ) (st : Stream) → Good st → (all : AllRecords) → AllGood all → AllGood (made id from n st all)
unfolding made
made_good id from zero st new all g = g
made_good id from (suc n) st new all g = good_new _ st (made id from n st all) new (made_good id from n st new all g)

one_more : (k : OwnStreams) → k.opened < k.limit → OwnFits k → OwnFits (own_opened k)
unfolding own_opened
one_more k less h = record { opened = omega (arith, less); most = h.most }

below : (n m : ℕ) → nat_lt n m ≡ true → n < m
below n m is = grind (arith, nat_tests)

and-then : (b c : Bool) → (b && c) ≡ true → c ≡ true
and-then true c is = is
and-then false c is = absurd (cc)

pub opened_own_fits : (dir : Dir) (s : StreamsState) → may_open dir s ≡ true → Fits s → Fits (opened_own dir s)
unfolding opened_own may_open
opened_own_fits dir s may h =
    with_all _ (record s { own = dir_put dir (own_opened (by_dir dir s.own)) s.own })
    (good_new _ (fresh_own dir s) s.records (own_good dir s h.small) h.good)
    (with_own (dir_put dir (own_opened (by_dir dir s.own)) s.own) s
    (put_own dir (own_opened (by_dir dir s.own)) s.own
    (one_more (by_dir dir s.own) (below _ _ (and-then (not s.closed) _ may)) (h.own dir)) h.own) h)

-- whether a stream that the peer opens lies within its limit
within_limit : (own : Bool) (limit opened index : ℕ) → (not own && nat_le limit index) ≡ false → (not own && nat_le opened index) ≡ true → index < limit
within_limit true limit opened index is new = absurd (cc)
within_limit false limit opened index is new = grind (arith, nat_tests)

peer_more : (index : ℕ) (k : PeerStreams) → index < k.limit → PeerFits k → PeerFits (peer_opened index k)
unfolding peer_opened at_most
peer_more index k less h = record { opened = omega (arith, less, h.most); announced = h.announced; first = h.first; most = h.most }

opened_with_fits : (id : ℕ) (st : Stream) (s : StreamsState) → is_past_limit id s ≡ false → is_peer_unopened id s ≡ true → Good st → Fits s
    → Fits (opened_with id st s)
unfolding opened_with lower_opened is_past_limit is_peer_unopened
opened_with_fits id st s past unopened new h =
    let k = by_dir (dir_of id) s.peer in
    with_all _ (record s { peer = dir_put (dir_of id) (peer_opened (id / 4) (by_dir (dir_of id) s.peer)) s.peer })
    (good_new id st _ new (made_good id _ _ (fresh_peer (dir_of id) s) (peer_good (dir_of id) s h.small) s.records h.good))
    (with_peer (dir_put (dir_of id) (peer_opened (id / 4) (by_dir (dir_of id) s.peer)) s.peer) s
    (put_peer (dir_of id) (peer_opened (id / 4) k) s.peer
    (peer_more (id / 4) k (within_limit (is_own s.side id) k.limit k.opened (id / 4) past unopened) (h.peer (dir_of id))) h.peer) h)

pub met_fits : (f : Stream → Stream) → ((st : Stream) → Good st → Good (f st)) → (id : ℕ) (s : StreamsState) → is_past_limit id s ≡ false → Fits s
    → Fits (met f id s)
unfolding met
met_fits f keeps id s past h = by (is_peer_unopened id s) refl
  where
    by : (b : Bool) → is_peer_unopened id s ≡ b → Fits (cond b (opened_with id (f (fresh_peer (dir_of id) s)) s) (record s { records = changed f id s.records }))
    by true is = opened_with_fits id (f (fresh_peer (dir_of id) s)) s past is (keeps (fresh_peer (dir_of id) s) (peer_good (dir_of id) s h.small)) h
    by false is = changed_fits f keeps id s h

-- ---- what comes counts for the connection

tallied_fits : (before after : Totals) (c : Incoming) → c.received + (after.received - before.received) ≤ incoming_credit c → IncomingFits c
    → IncomingFits (tallied before after c)
unfolding tallied with_totals incoming_credit saturated
tallied_fits before after c fits h =
    record { came = omega (arith, fits, h.came); announced = omega (arith, h.announced); first = h.first }

counted_fits : (before : Totals) (id : ℕ) (s : StreamsState) → (totals_at id s.records).received - before.received ≤ room s.incoming → Fits s
    → Fits (counted before id s)
unfolding counted room
counted_fits before id s fits h = record {
  good = h.good;
  incoming = tallied_fits before (totals_at id s.records) s.incoming (omega (arith, fits, h.incoming.came)) h.incoming;
  sent = h.sent;
  own = h.own;
  peer = h.peer;
  small = h.small;
}

-- what a receiving side counts after a change that brings no more than there is room for
side_more : (g : Recv → Recv) (room : ℕ) (o : Option Recv) → ((r : Recv) → o ≡ Some r → (g r).greatest - r.greatest ≤ room)
    → (totals_of (option_map g o)).received - (totals_of o).received ≤ room
side_more g room None fits = omega arith
side_more g room (Some r) fits = fits r refl

-- the receiving side of a stream
abbrev pub side_at : Option Stream → Option Recv
side_at None = None
side_at (Some st) = st.receiving

stream_more : (g : Recv → Recv) (room : ℕ) (o : Option Stream) → ((r : Recv) → side_at o ≡ Some r → (g r).greatest - r.greatest ≤ room)
    → (totals_if (option_map (with_receiving g) o)).received - (totals_if o).received ≤ room
unfolding with_receiving
stream_more g room None fits = omega arith
stream_more g room (Some st) fits = side_more g room st.receiving fits

changed_more : (g : Recv → Recv) (room id : ℕ) (all : AllRecords) → ((r : Recv) → side_at (record_of id all) ≡ Some r → (g r).greatest - r.greatest ≤ room)
    → (totals_at id (changed (with_receiving g) id all)).received - (totals_at id all).received ≤ room
unfolding totals_at
changed_more g room id all fits =
    subst (λ (o : Option Stream). (totals_if o).received - (totals_if (record_of id all)).received ≤ room) (sym (here (with_receiving g) id all))
    (stream_more g room (record_of id all) fits)

-- the application changes a receiving side, on which nothing comes with it
pub gives_fits : (g : Recv → Recv) → ((r : Recv) → TakesWithin (Some r) → TakesWithin (Some (g r))) → ((r : Recv) → (g r).greatest ≡ r.greatest) → (id : ℕ)
    (s : StreamsState) → Fits s → Fits (gives g id s)
unfolding gives
gives_fits g keeps same id s h =
    settled_fits id _
    (counted_fits (totals_at id s.records) id (record s { records = changed (with_receiving g) id s.records })
    (changed_more g (room s.incoming) id s.records (λ r is. omega (arith, same r)))
    (changed_fits (with_receiving g) (receiving_good g keeps) id s h))

-- ---- a frame that isn't refused

or_else_none : (a b : Option Refusal) → or_else a b ≡ None → b ≡ None
or_else_none None b is = is
or_else_none (Some x) b is = absurd (cc)

side_none : (o : Option SideRefusal) → option_map Side o ≡ None → o ≡ None
side_none None is = refl
side_none (Some x) is = absurd (cc)

of_side : (f : Recv → Option SideRefusal) (o : Option Stream) → refusal_at f o ≡ None → (r : Recv) → side_at o ≡ Some r → f r ≡ None
of_side f None none r is = absurd (cc)
of_side f (Some st) none r is = sym (ap (λ (x : Option Recv). side_refusal f x) is) ∙ none

pub not_refused : (f : Recv → Option SideRefusal) (id : ℕ) (s : StreamsState) → receive_refusal f id s ≡ None → refusal_at f (target id s) ≡ None
unfolding receive_refusal
not_refused f id s is = side_none (refusal_at f (target id s)) (or_else_none (receive_bar id s) _ is)

first_none : (a b : Option Refusal) → or_else a b ≡ None → a ≡ None
first_none None b is = refl
first_none (Some x) b is = absurd (cc)

second_row : (a b : Bool) (x y : Refusal) → cond a (Some x) (cond b (Some y) None) ≡ None → b ≡ false
second_row true b x y is = absurd (cc)
second_row false true x y is = absurd (cc)
second_row false false x y is = refl

came_below : (f : Recv → Option SideRefusal) (id : ℕ) (s : StreamsState) → receive_refusal f id s ≡ None → is_past_limit id s ≡ false
unfolding receive_refusal receive_bar first_row
came_below f id s is = second_row (bars_receiving id s) (is_past_limit id s) State Limit (first_none (receive_bar id s) _ is)

pub sent_below : (id : ℕ) (s : StreamsState) → send_refusal id s ≡ None → is_past_limit id s ≡ false
unfolding send_refusal first_row
sent_below id s is = second_row (bars_sending id s) (is_past_limit id s) State Limit is

takes_at : (g : Recv → Recv) (o : Option Recv) → ((r : Recv) → o ≡ Some r → TakesWithin (Some r) → TakesWithin (Some (g r))) → TakesWithin o
    → TakesWithin (option_map g o)
takes_at g None keeps h = h
takes_at g (Some r) keeps h = keeps r refl h

good_at_side : (g : Recv → Recv) (st : Stream) → ((r : Recv) → st.receiving ≡ Some r → TakesWithin (Some r) → TakesWithin (Some (g r))) → Good st
    → Good (with_receiving g st)
unfolding with_receiving
good_at_side g st keeps h = (h.0, takes_at g st.receiving keeps h.1)

pub fresh_none : (dir : Dir) (s : StreamsState) → (totals_if (Some (fresh_peer dir s))).received ≡ 0
unfolding fresh_stream new_receiving
fresh_none Bi s = refl
fresh_none Uni s = refl

opened_more : (n before room : ℕ) → n - 0 ≤ room → n - before ≤ room
opened_more n before room fits = omega (arith, fits)

pub opened_here : (id : ℕ) (st : Stream) (s : StreamsState) → record_of id (opened_with id st s).records ≡ Some st
unfolding opened_with
opened_here id st s = new_here id (lower_opened id s) st

opened_totals : (id : ℕ) (st : Stream) (s : StreamsState) → totals_at id (opened_with id st s).records ≡ totals_if (Some st)
unfolding totals_at
opened_totals id st s = ap (λ (o : Option Stream). totals_if o) (opened_here id st s)

came_opened : (g : Recv → Recv) (before : Totals) (id : ℕ) (s : StreamsState) → is_past_limit id s ≡ false → is_peer_unopened id s ≡ true
    → ((r : Recv) → side_at (Some (fresh_peer (dir_of id) s)) ≡ Some r → CanBe (g r) (room s.incoming) r) → Fits s
    → Fits (counted before id (opened_with id (with_receiving g (fresh_peer (dir_of id) s)) s))
unfolding opened_with
came_opened g before id s past new can h =
    let st : Stream = with_receiving g (fresh_peer (dir_of id) s) in
    counted_fits before id (opened_with id st s)
    (subst (λ (t : Totals). t.received - before.received ≤ room s.incoming) (sym (opened_totals id st s))
    (opened_more (totals_if (Some st)).received before.received (room s.incoming)
    (subst (λ (n : ℕ). (totals_if (Some st)).received - n ≤ room s.incoming) (fresh_none (dir_of id) s)
    (stream_more g (room s.incoming) (Some (fresh_peer (dir_of id) s)) (λ r is. (can r is).fits)))))
    (opened_with_fits id st s past new (good_at_side g (fresh_peer (dir_of id) s) (λ r is. (can r is).within) (peer_good (dir_of id) s h.small)) h)

came_changed : (g : Recv → Recv) (id : ℕ) (s : StreamsState) → ((r : Recv) → side_at (record_of id s.records) ≡ Some r → CanBe (g r) (room s.incoming) r)
    → Fits s → Fits (counted (totals_at id s.records) id (record s { records = changed (with_receiving g) id s.records }))
came_changed g id s can h =
    counted_fits (totals_at id s.records) id (record s { records = changed (with_receiving g) id s.records })
    (changed_more g (room s.incoming) id s.records (λ r is. (can r is).fits))
    (with_all (changed (with_receiving g) id s.records) s
    (good_changed_at (with_receiving g) id s.records
    (λ st is. good_at_side g st (λ r side. (can r (ap (λ (o : Option Stream). side_at o) is ∙ side)).within)) h.good) h)

-- the stream that a frame meets
abbrev met_by : Bool → ℕ → StreamsState → Option Stream
met_by b id s = cond b (Some (fresh_peer (dir_of id) s)) (record_of id s.records)

of_target : (f : Recv → Option SideRefusal) (id : ℕ) (s : StreamsState) → refusal_at f (target id s) ≡ None
    → refusal_at f (met_by (is_peer_unopened id s) id s) ≡ None
unfolding target
of_target f id s is = is

pub comes_fits : (g : Recv → Recv) (f : Recv → Option SideRefusal) (id : ℕ) (s : StreamsState) → ((r : Recv) → f r ≡ None → CanBe (g r) (room s.incoming) r)
    → receive_refusal f id s ≡ None → Fits s → Fits (comes g id s)
unfolding comes met
comes_fits g f id s can none h = settled_fits id _ (by (is_peer_unopened id s) refl (of_target f id s (not_refused f id s none)))
  where
    by : (b : Bool) → is_peer_unopened id s ≡ b → refusal_at f (met_by b id s) ≡ None
        → Fits (counted (totals_at id s.records) id (cond b (opened_with id (with_receiving g (fresh_peer (dir_of id) s)) s)
        (record s { records = changed (with_receiving g) id s.records })))
    by true new is =
        came_opened g (totals_at id s.records) id s (came_below f id s none) new (λ r side. can r (of_side f (Some (fresh_peer (dir_of id) s)) is r side)) h
    by false new is = came_changed g id s (λ r side. can r (of_side f (record_of id s.records) is r side)) h

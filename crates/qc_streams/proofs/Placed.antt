-- A place is put by for each stream on which a write was blocked: what each step leaves of that
use Rattle.std.proofs.Common.{◌≡◌, ◌∙◌, ℕ, ℤ, zero, suc, ◌+◌, ◌≤◌, Bool, true, false, cond, not, ◌&&◌, ◌||◌, List, [], ◌∷◌, Option, None, Some, is_some, option_map, unwrap_or, Ordering, Less, Equal, Greater, nat_cmp, ap, sym, subst, arith, refl}
use Rattle.std.specs.BTreeMap.{is_at}
use Rattle.std.specs.Map.{values_of}
use Rattle.std.specs.Ordering.{match_ordering}
use Rattle.std.proofs.lemmas.List.Sums.{sum_by-cons}
use Rattle.std.proofs.lemmas.Map.Entries.{sum_by-remove_entry, sum_by-set_value}
use Rattle.qc_base.specs.declared.side.Dir.{Dir}
use Rattle.qc_base.specs.declared.side.Dir.TheVariants.{Bi, Uni}
use Rattle.qc_base.specs.declared.varint.VarInt.{VarInt}
use Rattle.qc_recv.specs.declared.recv.Recv.{Recv}
use Rattle.qc_send_stream.specs.declared.send.SendPart.{SendPart}
use Rattle.qc_send_stream.specs.Sending.{acked_standing, is_closed, is_done, limit_raised, lost_standing, new_sending, part_acked, part_lost, part_sealed, part_written, reset_acked, reset_lost, reset_sealed, sealed_standing, was_stopped}
use Rattle.qc_streams.specs.declared.state.StreamsState.{StreamsState}
use Rattle.qc_streams.specs.declared.stream.Stream.{Stream}
use Rattle.qc_streams.specs.Calls.{if_known}
use Rattle.qc_streams.specs.Lending.{AllRecords}
use Rattle.qc_streams.specs.StreamBytes.{place_again, turned}
use Rattle.qc_streams.specs.Records.{changed, on_some, record_of, with_new, with_record, without}
use Rattle.qc_streams.specs.Stream.{fresh_stream, has_ended, limit_taken, stop_taken, with_freed, with_receiving, with_sending}
use Rattle.qc_streams.specs.Streams.{dir_of, forgotten, fresh_own, fresh_peer, is_peer_unopened, left_over, lingering, lower_opened, lower_unopened, made, met, next_own, opened_own, opened_with, released, removed, settled, stops_later}
use Rattle.qc_streams.specs.Queues.{all_filed, dues_at, entered, filed, left, left_from, mark_off, placed, queue_one, queued, sets_filed, touched, turn_at, turn_filed, with_mark, with_turn}
use Rattle.qc_streams.specs.Waits.{placed_count}
use Rattle.qc_streams.specs.Writable.{has_place, has_place_at}
use Rattle.qc_streams.specs.Counts.{by_dir}
use Rattle.qc_streams.proofs.WaitIds.{nth}
use Rattle.qc_streams.proofs.WaitSides.{end_some, reset_some}

-- ---- how many streams have a place

-- one that has a place counts
abbrev pub counts : Stream → ℕ
counts st = cond (has_place st.sending) 1 0

abbrev pub counts_at : Option Stream → ℕ
counts_at o = cond (has_place_at o) 1 0

at_counts : (o : Option Stream) → unwrap_or (option_map counts o) 0 ≡ counts_at o
at_counts None = refl
at_counts (Some st) = refl

pub count_set : (id : ℕ) (all : AllRecords) (st new : Stream) → record_of id all ≡ Some st
    → placed_count (with_record id new all) + counts st ≡ placed_count all + counts new
unfolding placed_count
count_set id all st new is = sum_by-set_value counts (is_at (nat_cmp id)) all st new is

pub count_gone : (id : ℕ) (all : AllRecords) → placed_count (without id all) + counts_at (record_of id all) ≡ placed_count all
unfolding placed_count
count_gone id all = omega (arith, sum_by-remove_entry counts (is_at (nat_cmp id)) all, at_counts (record_of id all))

count_cons : (e : ℕ × Stream) (es : AllRecords) → placed_count (e ∷ es) ≡ counts e.1 + placed_count es
unfolding placed_count
count_cons e es = sum_by-cons counts e.1 (values_of es)

count_new_step : (r : Ordering) (id : ℕ) (e : ℕ × Stream) (es rest : AllRecords) (st : Stream) → placed_count rest ≤ placed_count es + counts st
    → placed_count (match_ordering r ((id, st) ∷ e ∷ es) ((e.0, st) ∷ es) (e ∷ rest)) ≤ placed_count (e ∷ es) + counts st
count_new_step Less id e es rest st then = omega (arith, count_cons (id, st) (e ∷ es))
count_new_step Equal id e es rest st then = omega (arith, count_cons (e.0, st) es, count_cons e es)
count_new_step Greater id e es rest st then = omega (arith, count_cons e es, count_cons e rest, then)

count_new : (id : ℕ) (st : Stream) (all : AllRecords) → placed_count (with_new id st all) ≤ placed_count all + counts st
count_new id st [] = omega (arith, count_cons (id, st) [])
count_new id st (e ∷ es) = count_new_step (nat_cmp id e.0) id e es (with_new id st es) st (count_new id st es)

-- ---- a stream changes

alike-in : (f : Stream → Stream) → ((st : Stream) → has_place (f st).sending ≡ has_place st.sending) → (id : ℕ) (all : AllRecords) (o : Option Stream)
    → record_of id all ≡ o → placed_count (on_some f id o all) ≡ placed_count all
alike-in f same id all None is = refl
alike-in f same id all (Some st) is =
    omega (arith, count_set id all st (f st) is, ap {B = ℕ} (λ (b : Bool). cond b 1 0) (same st))

-- one that has a place as before
pub alike : (f : Stream → Stream) → ((st : Stream) → has_place (f st).sending ≡ has_place st.sending) → (id : ℕ) (all : AllRecords)
    → placed_count (changed f id all) ≡ placed_count all
alike f same id all = alike-in f same id all (record_of id all) refl

-- ---- what leaves the events as they are, and makes no stream wait

pub record Rests (s t : StreamsState) : Type 0 where
  pub events : t.events ≡ s.events
  pub count : placed_count t.records ≤ placed_count s.records

pub rests_same : (s t : StreamsState) → t.events ≡ s.events → t.records ≡ s.records → Rests s t
rests_same s t events is = record { events = events; count = subst (λ (all : AllRecords). placed_count all ≤ placed_count s.records) (sym is) (omega arith) }

pub rests_then : (s t u : StreamsState) → Rests s t → Rests t u → Rests s u
rests_then s t u m n = record { events = n.events ∙ m.events; count = omega (arith, m.count, n.count) }

pub rests_changed : (f : Stream → Stream) → ((st : Stream) → has_place (f st).sending ≡ has_place st.sending) → (id : ℕ) (s t : StreamsState)
    → t.events ≡ s.events → t.records ≡ changed f id s.records → Rests s t
rests_changed f same id s t events is = record {
  events = events;
  count = subst (λ (all : AllRecords). placed_count all ≤ placed_count s.records) (sym is) (omega (arith, alike f same id s.records));
}

pub touched_rests : (id : ℕ) (s : StreamsState) → Rests s (touched id s)
unfolding touched with_mark
touched_rests id s = rests_changed (with_mark true) (λ st. refl) id s _ refl refl

pub queued_rests : (id : ℕ) (s : StreamsState) → Rests s (queued id s)
unfolding queued queue_one
queued_rests id s = rests_changed (queue_one s.waiting.turns) (λ st. refl) id s _ refl refl

pub noted_rests : (id : ℕ) (s : StreamsState) → Rests s (touched id (queued id s))
noted_rests id s = rests_then s (queued id s) (touched id (queued id s)) (queued_rests id s) (touched_rests id (queued id s))

left_from_rests : (turn : Option (ℤ × ℕ)) (id : ℕ) (s : StreamsState) → Rests s (left_from turn id s)
unfolding with_turn
left_from_rests None id s = rests_same s s refl refl
left_from_rests (Some place) id s = rests_changed (with_turn None) (λ st. refl) id s _ refl refl

left_rests : (id : ℕ) (s : StreamsState) → Rests s (left id s)
unfolding left
left_rests id s = left_from_rests (turn_at (record_of id s.records)) id s

entered_rests : (place : ℤ × ℕ) (id : ℕ) (s : StreamsState) → Rests s (entered place id s)
unfolding entered with_turn
entered_rests place id s = rests_changed (with_turn (Some place)) (λ st. refl) id s _ refl refl

removed_rests : (id : ℕ) (s : StreamsState) → Rests s (removed id s)
unfolding removed
removed_rests id s = record { events = refl; count = omega (arith, count_gone id s.records) }

released_rests : (id : ℕ) (s : StreamsState) → Rests s (released id s)
unfolding released forgotten
released_rests id s =
    rests_then s (left id (forgotten id s)) (removed id (left id (forgotten id s)))
    (rests_then s (forgotten id s) (left id (forgotten id s)) (rests_same s (forgotten id s) refl refl) (left_rests id (forgotten id s)))
    (removed_rests id (left id (forgotten id s)))

lingering_rests : (id : ℕ) (s : StreamsState) → Rests s (lingering id s)
unfolding lingering with_freed
lingering_rests id s = rests_then s _ (lingering id s) (rests_changed with_freed (λ st. refl) id s _ refl refl) (touched_rests id _)

pub settled_rests : (id : ℕ) (s : StreamsState) → Rests s (settled id s)
unfolding settled
settled_rests id s = by (has_ended (record_of id s.records)) (stops_later (record_of id s.records))
  where
    by : (b c : Bool) → Rests s (cond b (cond c (lingering id s) (released id s)) (touched id s))
    by true true = lingering_rests id s
    by true false = released_rests id s
    by false c = touched_rests id s

pub left_over_rests : (id : ℕ) (s : StreamsState) → Rests s (left_over id s)
unfolding left_over
left_over_rests id s = by (has_ended (record_of id s.records))
  where
    by : (b : Bool) → Rests s (cond b (released id s) s)
    by true = released_rests id s
    by false = rests_same s s refl refl

turn_filed_rests : (owes : Bool) (turn : Option (ℤ × ℕ)) (id : ℕ) (s : StreamsState) → Rests s (turn_filed owes turn id s)
turn_filed_rests true None id s = entered_rests _ id s
turn_filed_rests true (Some place) id s = rests_same s s refl refl
turn_filed_rests false turn id s = left_rests id s

placed_rests : (id : ℕ) (s : StreamsState) → Rests s (placed id s)
unfolding placed
placed_rests id s =
    let t : StreamsState = record s { waiting = sets_filed (dues_at (record_of id s.records)) id s.waiting } in
    rests_then s t (placed id s) (rests_same s t refl refl)
    (turn_filed_rests (dues_at (record_of id s.records)).bytes (turn_at (record_of id s.records)) id t)

mark_off_rests : (id : ℕ) (s : StreamsState) → Rests s (mark_off id s)
unfolding mark_off with_mark
mark_off_rests id s = rests_changed (with_mark false) (λ st. refl) id s _ refl refl

filed_rests : (id : ℕ) (s : StreamsState) → Rests s (filed id s)
unfolding filed
filed_rests id s = rests_then s (mark_off id s) (placed id (mark_off id s)) (mark_off_rests id s) (placed_rests id (mark_off id s))

pub all_filed_rests : (ids : List ℕ) (s : StreamsState) → Rests s (all_filed ids s)
unfolding all_filed
all_filed_rests [] s = rests_same s s refl refl
all_filed_rests (id ∷ ids) s = rests_then s (filed id s) (all_filed ids (filed id s)) (filed_rests id s) (all_filed_rests ids (filed id s))

pub turned_rests : (id : ℕ) (s : StreamsState) → Rests s (turned id s)
unfolding turned
turned_rests id s = by (dues_at (record_of id s.records)).bytes
  where
    by : (b : Bool) → Rests s (cond b (entered (place_again id (left id s)) id (left id s)) (left id s))
    by true = rests_then s (left id s) _ (left_rests id s) (entered_rests _ id (left id s))
    by false = left_rests id s

-- ---- streams are opened

own_fresh : (dir : Dir) (s : StreamsState) → has_place (fresh_own dir s).sending ≡ false
unfolding fresh_stream new_sending
own_fresh Bi s = refl
own_fresh Uni s = refl

pub peer_fresh : (dir : Dir) (s : StreamsState) → has_place (fresh_peer dir s).sending ≡ false
unfolding fresh_stream new_sending
peer_fresh Bi s = refl
peer_fresh Uni s = refl

new_rests : (id : ℕ) (st : Stream) (all : AllRecords) → has_place st.sending ≡ false → placed_count (with_new id st all) ≤ placed_count all
new_rests id st all none = omega (arith, count_new id st all, ap {B = ℕ} (λ (b : Bool). cond b 1 0) none)

made_rests : (id from n : ℕ) (st : Stream) (all : AllRecords) → has_place st.sending ≡ false → placed_count (made id from n st all) ≤ placed_count all
unfolding made
made_rests id from zero st all none = omega arith
made_rests id from (suc n) st all none =
    omega (arith, new_rests (nth id (from + n)) st (made id from n st all) none, made_rests id from n st all none)

pub opened_own_rests : (dir : Dir) (s : StreamsState) → Rests s (opened_own dir s)
unfolding opened_own
opened_own_rests dir s = record { events = refl; count = new_rests (next_own dir s) (fresh_own dir s) s.records (own_fresh dir s) }

opened_with_rests : (id : ℕ) (st : Stream) (s : StreamsState) → has_place st.sending ≡ false → Rests s (opened_with id st s)
unfolding opened_with lower_opened
opened_with_rests id st s none =
    let from : ℕ = (by_dir (dir_of id) s.peer).opened in
    let lower : AllRecords = made id (by_dir (dir_of id) s.peer).opened (lower_unopened id s) (fresh_peer (dir_of id) s) s.records in
    record {
      events = refl;
      count = omega (arith, new_rests id st lower none, made_rests id from (lower_unopened id s) (fresh_peer (dir_of id) s) s.records (peer_fresh (dir_of id) s));
    }

pub met_rests : (f : Stream → Stream) → ((st : Stream) → has_place (f st).sending ≡ has_place st.sending) → (id : ℕ) (s : StreamsState) → Rests s (met f id s)
unfolding met
met_rests f same id s = by (is_peer_unopened id s)
  where
    by : (b : Bool) → Rests s (cond b (opened_with id (f (fresh_peer (dir_of id) s)) s) (record s { records = changed f id s.records }))
    by true = opened_with_rests id (f (fresh_peer (dir_of id) s)) s (same (fresh_peer (dir_of id) s) ∙ peer_fresh (dir_of id) s)
    by false = rests_changed f same id s _ refl refl

-- ---- sides that change

pub received_same : (f : Recv → Recv) (st : Stream) → has_place (with_receiving f st).sending ≡ has_place st.sending
unfolding with_receiving
received_same f st = refl

option_same : (g : SendPart → SendPart) → ((p : SendPart) → has_place (Some (g p)) ≡ has_place (Some p)) → (o : Option SendPart)
    → has_place (option_map g o) ≡ has_place o
option_same g same None = refl
option_same g same (Some p) = same p

pub side_same : (g : SendPart → SendPart) → ((p : SendPart) → has_place (Some (g p)) ≡ has_place (Some p)) → (st : Stream)
    → has_place (with_sending g st).sending ≡ has_place st.sending
unfolding with_sending
side_same g same st = option_same g same st.sending

pub sealed_same : (start stop : ℕ) (last : Bool) (p : SendPart) → has_place (Some (part_sealed start stop last p)) ≡ has_place (Some p)
unfolding part_sealed is_closed
sealed_same start stop last p = ap (λ (b : Bool). p.blocked && not (b || is_some p.reset)) (end_some sealed_standing last p.end)

pub acked_same : (start stop : ℕ) (last : Bool) (p : SendPart) → has_place (Some (part_acked start stop last p)) ≡ has_place (Some p)
unfolding part_acked is_closed
acked_same start stop last p = ap (λ (b : Bool). p.blocked && not (b || is_some p.reset)) (end_some acked_standing last p.end)

pub lost_same : (start stop : ℕ) (last : Bool) (p : SendPart) → has_place (Some (part_lost start stop last p)) ≡ has_place (Some p)
unfolding part_lost is_closed
lost_same start stop last p = ap (λ (b : Bool). p.blocked && not (b || is_some p.reset)) (end_some lost_standing last p.end)

pub reset_sealed_same : (p : SendPart) → has_place (Some (reset_sealed p)) ≡ has_place (Some p)
unfolding reset_sealed is_closed
reset_sealed_same p = ap (λ (b : Bool). p.blocked && not (is_some p.end || b)) (reset_some sealed_standing p.reset)

pub reset_acked_same : (p : SendPart) → has_place (Some (reset_acked p)) ≡ has_place (Some p)
unfolding reset_acked is_closed
reset_acked_same p = ap (λ (b : Bool). p.blocked && not (is_some p.end || b)) (reset_some acked_standing p.reset)

pub reset_lost_same : (p : SendPart) → has_place (Some (reset_lost p)) ≡ has_place (Some p)
unfolding reset_lost is_closed
reset_lost_same p = ap (λ (b : Bool). p.blocked && not (is_some p.end || b)) (reset_some lost_standing p.reset)

unless_same : (g : SendPart → SendPart) → ((p : SendPart) → has_place (Some (g p)) ≡ has_place (Some p)) → (d : Bool) (p : SendPart)
    → has_place (Some (cond d p (g p))) ≡ has_place (Some p)
unless_same g same true p = refl
unless_same g same false p = same p

stopped-same : (code : VarInt) (p : SendPart) → has_place (Some (was_stopped code p)) ≡ has_place (Some p)
unfolding was_stopped is_closed
stopped-same code p = refl

pub stop_same : (code : VarInt) (p : SendPart) → has_place (Some (stop_taken code p)) ≡ has_place (Some p)
unfolding stop_taken
stop_same code p = unless_same (was_stopped code) (stopped-same code) (is_done p) p

raised-same : (limit : ℕ) (p : SendPart) → has_place (Some (limit_raised limit p)) ≡ has_place (Some p)
unfolding limit_raised is_closed
raised-same limit p = refl

pub limit_same : (limit : ℕ) (p : SendPart) → has_place (Some (limit_taken limit p)) ≡ has_place (Some p)
unfolding limit_taken
limit_same limit p = unless_same (limit_raised limit) (raised-same limit) (is_done p) p

written-same : (bs : List ℕ) (p : SendPart) → has_place (Some (part_written bs p)) ≡ has_place (Some p)
unfolding part_written is_closed
written-same bs p = refl

pub written_same : (bs : List ℕ) (p : SendPart) → has_place (Some (if_known (part_written bs) p)) ≡ has_place (Some p)
written_same bs p = unless_same (part_written bs) (written-same bs) (is_done p) p

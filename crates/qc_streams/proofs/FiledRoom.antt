-- A stream that is marked stands among the marks, and there are as many free places as streams without a mark: each kind of step keeps that
use Rattle.std.proofs.Common.{◌≡◌, ◌∙◌, ℕ, ℤ, ◌+◌, ◌-◌, ◌<◌, ◌≤◌, ◌==◌, Bool, true, false, cond, not, ◌||◌, List, [], ◌∷◌, ◌++◌, drop, Option, None, Some, is_some, option_map, unwrap_or, Ordering, Less, Equal, Greater, nat_cmp, is_eq, ap, sym, subst, lt-ltb, arith, refl}
use Rattle.std.specs.BTreeMap.{is_at}
use Rattle.std.specs.Map.{values_of}
use Rattle.std.specs.Ordering.{match_ordering}
use Rattle.std.proofs.lemmas.Bool.{false≢true, or_left, or_right}
use Rattle.std.proofs.lemmas.Bool.Decides.{nat_tests}
use Rattle.std.proofs.lemmas.List.Folds.{list_any-append}
use Rattle.std.proofs.lemmas.List.Sums.{sum_by-cons}
use Rattle.std.proofs.lemmas.Map.Entries.{sum_by-remove_entry, sum_by-set_value}
use Rattle.qc_turns.specs.Marks.{MarkList, given_back, marked, no_marks as no_mark_list, place_added, place_dropped, unmarked}
use Rattle.qc_streams.specs.declared.state.StreamsState.{StreamsState}
use Rattle.qc_streams.specs.declared.stream.Stream.{Stream}
use Rattle.qc_streams.specs.declared.waiting.Waiting.{Waiting}
use Rattle.qc_streams.specs.Filed.{is_among, is_marked, unmarked_count}
use Rattle.qc_streams.specs.Lending.{AllRecords}
use Rattle.qc_streams.specs.StreamBytes.{place_again, turned}
use Rattle.qc_streams.specs.Records.{changed, on_some, record_of, with_new, with_record, without}
use Rattle.qc_streams.specs.Streams.{forgotten, released, removed}
use Rattle.qc_streams.specs.Queues.{all_filed, dues_at, entered, filed, is_idle, left, left_from, mark_off, due_at, new_waiting, next_place, or_next, place_left, place_made, placed, queue_one, queued, sets_filed, touched, turn_at, turn_filed, with_mark, with_turn}
use Rattle.qc_streams.proofs.Keeps.{Fresh, Keeps, On, changed_in}
use Rattle.qc_streams.proofs.Keyed.{Ascends, ascends_gone, ascends_new, ascends_set, gone_here, gone_other, new_here, new_other, same_id, set_alike, set_here, set_other}
use Rattle.qc_streams.proofs.MarksOff.{filed_ids}

-- every marked stream stands among the marks, and there are as many free places as streams without a mark
pub record HasRoom (all : AllRecords) (w : Waiting) : Type 0 where
  pub marks : (j : ℕ) → is_marked (record_of j all) ≡ true → is_among j w.marks.ids ≡ true
  pub room : unmarked_count all ≤ w.marks.free
  pub order : Ascends all

-- it speaks of the marks alone
same_marks : (all : AllRecords) (w v : Waiting) → v.marks ≡ w.marks → HasRoom all w → HasRoom all v
same_marks all w v same h = record {
  marks = λ j is. ap (λ (m : MarkList). is_among j m.ids) same ∙ h.marks j is;
  room = subst (λ (m : MarkList). unmarked_count all ≤ m.free) (sym same) h.room;
  order = h.order;
}

-- ---- how many streams aren't marked

-- one that isn't marked counts
abbrev counts : Stream → ℕ
counts st = cond (not st.marked) 1 0

counts_as : (st : Stream) (b : Bool) → st.marked ≡ b → counts st ≡ cond (not b) 1 0
counts_as st b is = ap {B = ℕ} (λ (b : Bool). cond (not b) 1 0) is

idle_counts : (o : Option Stream) → unwrap_or (option_map counts o) 0 ≡ cond (is_idle o) 1 0
idle_counts None = refl
idle_counts (Some st) = refl

count_set : (id : ℕ) (all : AllRecords) (st new : Stream) → record_of id all ≡ Some st
    → unmarked_count (with_record id new all) + counts st ≡ unmarked_count all + counts new
unfolding unmarked_count
count_set id all st new is = sum_by-set_value counts (is_at (nat_cmp id)) all st new is

count_gone : (id : ℕ) (all : AllRecords) → unmarked_count (without id all) + cond (is_idle (record_of id all)) 1 0 ≡ unmarked_count all
unfolding unmarked_count
count_gone id all = omega (arith, sum_by-remove_entry counts (is_at (nat_cmp id)) all, idle_counts (record_of id all))

count_cons : (e : ℕ × Stream) (es : AllRecords) → unmarked_count (e ∷ es) ≡ counts e.1 + unmarked_count es
unfolding unmarked_count
count_cons e es = sum_by-cons counts e.1 (values_of es)

count_new_step : (r : Ordering) (id : ℕ) (e : ℕ × Stream) (es rest : AllRecords) (st : Stream) → cond (is_eq r) (Some e.1) (record_of id es) ≡ None
    → (record_of id es ≡ None → unmarked_count rest ≡ unmarked_count es + counts st)
    → unmarked_count (match_ordering r ((id, st) ∷ e ∷ es) ((e.0, st) ∷ es) (e ∷ rest)) ≡ unmarked_count (e ∷ es) + counts st
count_new_step Less id e es rest st none then = omega (arith, count_cons (id, st) (e ∷ es))
count_new_step Equal id e es rest st none then = absurd (cc)
count_new_step Greater id e es rest st none then = omega (arith, count_cons e es, count_cons e rest, then none)

count_new : (id : ℕ) (st : Stream) (all : AllRecords) → record_of id all ≡ None → unmarked_count (with_new id st all) ≡ unmarked_count all + counts st
count_new id st [] none = omega (arith, count_cons (id, st) [])
count_new id st (e ∷ es) none = count_new_step (nat_cmp id e.0) id e es (with_new id st es) st none (λ there. count_new id st es there)

-- ---- which ids are among the marks

other_id : (id j : ℕ) → (id == j) ≡ false → is_at (nat_cmp j) id ≡ false
other_id id j apart = grind (arith, nat_tests)

own_id : (id : ℕ) → is_at (nat_cmp id) id ≡ true
own_id id = grind (arith, nat_tests)

-- where a statement holds of one id and of every other, it holds of each
each : (P : ℕ → Type 0) (id : ℕ) → P id → ((j : ℕ) → (id == j) ≡ false → P j) → (j : ℕ) → P j
each P id here other j = by (id == j) refl
  where
    by : (b : Bool) → (id == j) ≡ b → P j
    by true is = subst P (same_id id j is) here
    by false is = other j is

among_more : (j : ℕ) (xs ys : List ℕ) → is_among j xs ≡ true → is_among j (xs ++ ys) ≡ true
among_more j xs ys is = list_any-append (is_at (nat_cmp j)) xs ys ∙ or_left (is_among j xs) (is_among j ys) is

among_last : (id : ℕ) (xs : List ℕ) → is_among id (xs ++ (id ∷ [])) ≡ true
among_last id xs =
    list_any-append (is_at (nat_cmp id)) xs (id ∷ [])
    ∙ or_right (is_among id xs) (is_among id (id ∷ [])) (or_left (is_at (nat_cmp id) id) false (own_id id))

-- every id but the first stands among those that follow it
among_rest : (id : ℕ) (ids l : List ℕ) → l ≡ id ∷ ids → (j : ℕ) → (id == j) ≡ false → is_among j l ≡ true → is_among j (drop 1 l) ≡ true
among_rest id ids l is j apart there =
    ap (λ (l : List ℕ). is_among j (drop 1 l)) is
    ∙ sym (ap (λ (b : Bool). b || is_among j ids) (other_id id j apart)) ∙ ap (λ (l : List ℕ). is_among j l) (sym is) ∙ there

-- no stream that isn't marked has to stand among the marks
unneeded : (o p : Option Stream) (P : Type 0) → o ≡ p → is_marked p ≡ false → is_marked o ≡ true → P
unneeded o p P same not is = absurd (false≢true (sym not ∙ ap (λ (o : Option Stream). is_marked o) (sym same) ∙ is))

-- ---- a stream changes, and its mark stays

kept_set : (id : ℕ) (all : AllRecords) (w : Waiting) (st new : Stream) → record_of id all ≡ Some st → new.marked ≡ st.marked → HasRoom all w
    → HasRoom (with_record id new all) w
kept_set id all w st new is same h = record {
  marks = λ j there. h.marks j (sym (set_alike (λ (o : Option Stream). is_marked o) id j all st new is same) ∙ there);
  room = omega (arith, h.room, count_set id all st new is, counts_as new st.marked same);
  order = ascends_set id all new h.order;
}

kept-in : (f : Stream → Stream) → ((st : Stream) → (f st).marked ≡ st.marked) → (id : ℕ) (all : AllRecords) (w : Waiting) (o : Option Stream)
    → record_of id all ≡ o → HasRoom all w → HasRoom (on_some f id o all) w
kept-in f same id all w None is h = h
kept-in f same id all w (Some st) is h = kept_set id all w st (f st) is (same st) h

kept : (f : Stream → Stream) → ((st : Stream) → (f st).marked ≡ st.marked) → (id : ℕ) (all : AllRecords) (w : Waiting)
    → HasRoom all w → HasRoom (changed f id all) w
kept f same id all w h = kept-in f same id all w (record_of id all) refl h

-- ---- a stream is marked

takes : (id : ℕ) (m : MarkList) → 0 < m.free → (marked id m).ids ≡ m.ids ++ (id ∷ [])
unfolding marked
takes id m some = ap (λ (b : Bool). cond b (m.ids ++ (id ∷ [])) m.ids) (lt-ltb 0 m.free some)

touched-some : (b : Bool) (id : ℕ) (all : AllRecords) (w : Waiting) (st : Stream) → record_of id all ≡ Some st → st.marked ≡ b → HasRoom all w
    → HasRoom (with_record id (with_mark true st) all) (record w { marks = cond (not b) (marked id w.marks) w.marks })
unfolding with_mark marked
touched-some true id all w st is now h =
    same_marks (with_record id (with_mark true st) all) w _ refl (kept_set id all w st (with_mark true st) is (sym now) h)
touched-some false id all w st is now h =
    let one : unmarked_count (with_record id (with_mark true st) all) + 1 ≡ unmarked_count all =
    omega (arith, count_set id all st (with_mark true st) is, counts_as st false now) in
    let free : 0 < w.marks.free = omega (arith, h.room, one) in
    record {
      marks =
          each (λ (j : ℕ). is_marked (record_of j (with_record id (with_mark true st) all)) ≡ true → is_among j (marked id w.marks).ids ≡ true) id
          (λ there. ap (λ (l : List ℕ). is_among id l) (takes id w.marks free) ∙ among_last id w.marks.ids)
          (λ j apart there. ap (λ (l : List ℕ). is_among j l) (takes id w.marks free)
          ∙ among_more j w.marks.ids (id ∷ [])
          (h.marks j (ap (λ (o : Option Stream). is_marked o) (sym (set_other id j all (with_mark true st) apart)) ∙ there)));
      room = omega (arith, h.room, one);
      order = ascends_set id all (with_mark true st) h.order;
    }

touched-in : (id : ℕ) (all : AllRecords) (w : Waiting) (o : Option Stream) → record_of id all ≡ o → HasRoom all w
    → HasRoom (on_some (with_mark true) id o all) (record w { marks = cond (is_idle o) (marked id w.marks) w.marks })
touched-in id all w None is h = same_marks all w (record w { marks = w.marks }) refl h
touched-in id all w (Some st) is h = touched-some st.marked id all w st is refl h

touched_room : (id : ℕ) (s : StreamsState) → On HasRoom s → On HasRoom (touched id s)
unfolding touched
touched_room id s h = touched-in id s.records s.waiting (record_of id s.records) refl h

-- a stream began to wait
queued_room : (id : ℕ) (s : StreamsState) → On HasRoom s → On HasRoom (queued id s)
unfolding queued queue_one
queued_room id s h =
    same_marks (changed (queue_one s.waiting.turns) id s.records) s.waiting (queued id s).waiting refl
    (kept (queue_one s.waiting.turns) (λ st. refl) id s.records s.waiting h)

-- ---- a stream takes a turn, or gives it up

left-from : (turn : Option (ℤ × ℕ)) (id : ℕ) (s : StreamsState) → On HasRoom s → On HasRoom (left_from turn id s)
unfolding with_turn
left-from None id s h = h
left-from (Some place) id s h =
    same_marks (changed (with_turn None) id s.records) s.waiting (left_from (Some place) id s).waiting refl
    (kept (with_turn None) (λ st. refl) id s.records s.waiting h)

left_room : (id : ℕ) (s : StreamsState) → On HasRoom s → On HasRoom (left id s)
unfolding left
left_room id s h = left-from (turn_at (record_of id s.records)) id s h

entered_room : (place : ℤ × ℕ) (id : ℕ) (s : StreamsState) → On HasRoom s → On HasRoom (entered place id s)
unfolding entered with_turn
entered_room place id s h =
    same_marks (changed (with_turn (Some place)) id s.records) s.waiting (entered place id s).waiting refl
    (kept (with_turn (Some place)) (λ st. refl) id s.records s.waiting h)

turned_room : (id : ℕ) (s : StreamsState) → On HasRoom s → On HasRoom (turned id s)
unfolding turned
turned_room id s h = by (dues_at (record_of id s.records)).bytes
  where
    by : (b : Bool) → On HasRoom (cond b (entered (place_again id (left id s)) id (left id s)) (left id s))
    by true = entered_room (place_again id (left id s)) id (left id s) (left_room id s h)
    by false = left_room id s h

turn-filed : (owes : Bool) (turn : Option (ℤ × ℕ)) (id : ℕ) (s : StreamsState) → On HasRoom s → On HasRoom (turn_filed owes turn id s)
turn-filed true None id s h = entered_room (or_next (due_at (record_of id s.records)) (next_place id s)) id s h
turn-filed true (Some place) id s h = h
turn-filed false turn id s h = left_room id s h

placed_room : (id : ℕ) (s : StreamsState) → On HasRoom s → On HasRoom (placed id s)
unfolding placed sets_filed
placed_room id s h =
    let w : Waiting = sets_filed (dues_at (record_of id s.records)) id s.waiting in
    turn-filed (dues_at (record_of id s.records)).bytes (turn_at (record_of id s.records)) id (record s { waiting = w })
    (same_marks s.records s.waiting w refl h)

-- ---- a stream leaves, and its place with it where it isn't marked

less_place : (w : Waiting) (b : Bool) → ((cond b (place_left w) w).marks.ids ≡ w.marks.ids) × ((cond b (place_left w) w).marks.free ≡ w.marks.free - cond b 1 0)
unfolding place_left place_dropped
less_place w true = (refl, refl)
less_place w false = (refl, omega arith)

removed_room : (id : ℕ) (s : StreamsState) → On HasRoom s → On HasRoom (removed id s)
unfolding removed
removed_room id s h = record {
  marks = λ j there. ap (λ (l : List ℕ). is_among j l) (less_place s.waiting (is_idle (record_of id s.records))).0 ∙ h.marks j (before j there);
  room = omega (arith, h.room, count_gone id s.records, (less_place s.waiting (is_idle (record_of id s.records))).1);
  order = ascends_gone id s.records h.order;
}
  where
    before : (j : ℕ) → is_marked (record_of j (without id s.records)) ≡ true → is_marked (record_of j s.records) ≡ true
    before =
        each (λ (j : ℕ). is_marked (record_of j (without id s.records)) ≡ true → is_marked (record_of j s.records) ≡ true) id
        (λ there. unneeded (record_of id (without id s.records)) None _ (gone_here id s.records h.order) refl there)
        (λ j apart there. ap (λ (o : Option Stream). is_marked o) (sym (gone_other id j s.records apart)) ∙ there)

released_room : (id : ℕ) (s : StreamsState) → On HasRoom s → On HasRoom (released id s)
unfolding released forgotten sets_filed
released_room id s h =
    removed_room id (left id (forgotten id s)) (left_room id (forgotten id s) (same_marks s.records s.waiting (forgotten id s).waiting refl h))

-- ---- a stream comes

comes_room : (id : ℕ) (st : Stream) → Fresh st → (all : AllRecords) (w : Waiting) → record_of id all ≡ None → HasRoom all w
    → HasRoom (with_new id st all) (place_made w)
unfolding place_made place_added
comes_room id st fresh all w none h = record {
  marks =
      each (λ (j : ℕ). is_marked (record_of j (with_new id st all)) ≡ true → is_among j w.marks.ids ≡ true) id
      (λ there. unneeded (record_of id (with_new id st all)) (Some st) _ (new_here id all st) fresh.mark there)
      (λ j apart there. h.marks j (ap (λ (o : Option Stream). is_marked o) (sym (new_other id j all st apart)) ∙ there));
  room = omega (arith, h.room, count_new id st all none, counts_as st false fresh.mark);
  order = ascends_new id all st h.order;
}

-- ---- the oldest mark is taken off

off-in : (id : ℕ) (ids : List ℕ) (all : AllRecords) (w : Waiting) (o : Option Stream) → record_of id all ≡ o → w.marks.ids ≡ id ∷ ids → HasRoom all w
    → HasRoom (on_some (with_mark false) id o all) (record w { marks = cond (is_some o) (unmarked w.marks) (place_dropped (unmarked w.marks)) })
unfolding with_mark unmarked place_dropped
off-in id ids all w None is first h = record {
  marks =
      each (λ (j : ℕ). is_marked (record_of j all) ≡ true → is_among j (drop 1 w.marks.ids) ≡ true) id
      (λ there. unneeded (record_of id all) None _ is refl there)
      (λ j apart there. among_rest id ids w.marks.ids first j apart (h.marks j there));
  room = omega (arith, h.room, ap (λ (l : List ℕ). given_back l) first);
  order = h.order;
}
off-in id ids all w (Some st) is first h = record {
  marks =
      each (λ (j : ℕ). is_marked (record_of j (with_record id (with_mark false st) all)) ≡ true → is_among j (drop 1 w.marks.ids) ≡ true) id
      (λ there. unneeded (record_of id (with_record id (with_mark false st) all)) (Some (with_mark false st)) _
      (set_here id all st (with_mark false st) is) refl there)
      (λ j apart there. among_rest id ids w.marks.ids first j apart
      (h.marks j (ap (λ (o : Option Stream). is_marked o) (sym (set_other id j all (with_mark false st) apart)) ∙ there)));
  room = omega (arith, h.room, ap (λ (l : List ℕ). given_back l) first, count_set id all st (with_mark false st) is);
  order = ascends_set id all (with_mark false st) h.order;
}

filed_room : (id : ℕ) (ids : List ℕ) (s : StreamsState) → s.waiting.marks.ids ≡ id ∷ ids → On HasRoom s → On HasRoom (filed id s)
unfolding filed mark_off
filed_room id ids s first h = placed_room id (mark_off id s) (off-in id ids s.records s.waiting (record_of id s.records) refl first h)

-- no stream is open at the start
nothing_room : HasRoom [] new_waiting
unfolding new_waiting no_mark_list unmarked_count
nothing_room = record { marks = λ j is. absurd (false≢true is); room = omega arith; order = tt }

-- each kind of step keeps it
pub room : Keeps HasRoom
room = record {
  nothing = nothing_room;
  quiet = λ f owes id all w h. kept f owes.stays.mark id all w h;
  looked = λ f stays id s h. touched_room id (changed_in f id s) (kept f stays.mark id s.records s.waiting h);
  queued = λ f stays id s h. touched_room id (queued id (changed_in f id s))
      (queued_room id (changed_in f id s) (kept f stays.mark id s.records s.waiting h));
  gone = λ f stays id s h. released_room id (changed_in f id s) (kept f stays.mark id s.records s.waiting h);
  comes = comes_room;
  filed = filed_room;
  reset = λ f owes id all w h. same_marks (changed f id all) w _ refl (kept f owes.stays.mark id all w h);
  stop = λ f owes id all w h. same_marks (changed f id all) w _ refl (kept f owes.stays.mark id all w h);
  credit = λ f owes id all w h. same_marks (changed f id all) w _ refl (kept f owes.stays.mark id all w h);
  part = λ f owes id s h. turned_room id (changed_in f id s) (kept f owes.stays.mark id s.records s.waiting h);
  gone_stops = λ codes all w h. same_marks all w _ refl h;
}

-- once all marks are taken off, none is left
pub no_marks : (ids : List ℕ) (s : StreamsState) → s.waiting.marks.ids ≡ ids → (all_filed ids s).waiting.marks.ids ≡ []
unfolding all_filed
no_marks [] s is = is
no_marks (id ∷ ids) s is = no_marks ids (filed id s) (filed_ids id s ∙ ap (λ (l : List ℕ). drop 1 l) is)

-- Streams without a mark are in each set exactly where they owe that frame, and have a turn exactly where their bytes wait, or their end
use Rattle.std.proofs.Common.{◌≡◌, ◌∙◌, ℕ, ◌==◌, Bool, true, false, cond, List, [], ◌∷◌, Option, None, Some, is_some, ap, sym, subst, refl}
use Rattle.std.specs.Prelude.{ℤ}
use Rattle.std.specs.Option.{option_map}
use Rattle.std.proofs.lemmas.Bool.{false≢true}
use Rattle.qc_turns.specs.Ids.{without_id}
use Rattle.qc_streams.specs.declared.state.StreamsState.{StreamsState}
use Rattle.qc_streams.specs.declared.stream.Stream.{Stream}
use Rattle.qc_streams.specs.declared.waiting.Dues.{Dues}
use Rattle.qc_streams.specs.declared.waiting.Waiting.{Waiting}
use Rattle.qc_streams.specs.Filed.{IsExact, is_marked}
use Rattle.qc_streams.specs.Lending.{AllRecords}
use Rattle.qc_streams.specs.StreamBytes.{place_again, turned}
use Rattle.qc_streams.specs.Records.{changed, record_of, with_new, without}
use Rattle.qc_streams.specs.Stops.{StopCodes}
use Rattle.qc_streams.specs.Streams.{forgotten, released, removed}
use Rattle.qc_streams.specs.Queues.{dues_at, entered, filed, is_idle, left, mark_off, new_waiting, place_left, place_made, placed, queue_one, queued, sets_filed, touched, turn_at, turn_filed, with_mark}
use Rattle.qc_streams.proofs.FiledIds.{AllAscend, Beside, InSets, Others, Sets, TurnOnly, entered_only, entered_turn, left_only, left_turn, none_changes, none_moves, one_changed, one_gone, one_new, one_then, put, put_here, same_turn, sets_beside, sets_here, sets_of, stays, turn_then}
use Rattle.qc_streams.proofs.Keeps.{Fresh, Keeps, On, Owes, OwesBytes, Stays, changed_in, no_credit, no_reset, no_stop}
use Rattle.qc_streams.proofs.Keyed.{Ascends, gone_here, new_here, same_id}
use Rattle.qc_streams.proofs.Sequels.{changed_twice}
use Rattle.qc_streams.proofs.Waits.{here}

-- the ids of each set ascend, and of each stream without a mark, and of each id without a stream: it is in each set exactly where it owes
-- that frame, and has a turn exactly where its bytes wait, or its end
pub record SetsFit (all : AllRecords) (w : Waiting) : Type 0 where
  pub order : Ascends all
  pub sets : AllAscend (sets_of w)
  pub exact : (j : ℕ) → is_marked (record_of j all) ≡ false → IsExact j (record_of j all) w

-- a statement of a stream, as long as it has no mark
abbrev Idle : (Option Stream → Type 0) → Option Stream → Type 0
Idle P o = is_marked o ≡ false → P o

-- all other streams are as they were, in the records and in the sets, and it holds of this one
one_fits : (id : ℕ) (all all' : AllRecords) (w w' : Waiting) → Others id all all' → Beside id (sets_of w) (sets_of w')
    → Idle (λ o. IsExact id o w') (record_of id all') → SetsFit all w → SetsFit all' w'
one_fits id all all' w w' others beside one h = record {
  order = others.order h.order;
  sets = record {
    resets = beside.resets.ascends h.sets.resets;
    stops = beside.stops.ascends h.sets.stops;
    credits = beside.credits.ascends h.sets.credits;
  };
  exact = λ j. by j (id == j) refl;
}
  where
    other : (j : ℕ) → (id == j) ≡ false → Idle (λ o. IsExact j o w') (record_of j all)
    other j apart idle = let e : IsExact j (record_of j all) w = h.exact j idle in record {
      resets = beside.resets.apart j apart ∙ e.resets;
      stops = beside.stops.apart j apart ∙ e.stops;
      credits = beside.credits.apart j apart ∙ e.credits;
      turn = e.turn;
    }

    by : (j : ℕ) (b : Bool) → (id == j) ≡ b → Idle (λ o. IsExact j o w') (record_of j all')
    by j true is = subst (λ (k : ℕ). Idle (λ o. IsExact k o w') (record_of k all')) (same_id id j is) one
    by j false is = subst (Idle (λ o. IsExact j o w')) (sym (others.apart j is)) (other j is)

-- what is known of a stream, in two parts
in_sets : (id : ℕ) (o : Option Stream) (w : Waiting) → IsExact id o w → InSets id (dues_at o) (sets_of w)
in_sets id o w e = record { resets = e.resets; stops = e.stops; credits = e.credits }

exact_of : (id : ℕ) (o : Option Stream) (w : Waiting) → InSets id (dues_at o) (sets_of w) → is_some (turn_at o) ≡ (dues_at o).bytes → IsExact id o w
exact_of id o w i turn = record { resets = i.resets; stops = i.stops; credits = i.credits; turn = turn }

dues_in : (id : ℕ) (d d' : Dues) (x : Sets) → d' ≡ d → InSets id d x → InSets id d' x
dues_in id d d' x is i = subst (λ (e : Dues). InSets id e x) (sym is) i

-- the three sets stay
same_sets : (all : AllRecords) (w w' : Waiting) → sets_of w' ≡ sets_of w → SetsFit all w → SetsFit all w'
same_sets all w w' same h =
    one_fits 0 all all w w' (none_changes 0 all) (subst (λ (x : Sets). Beside 0 (sets_of w) x) (sym same) (none_moves 0 (sets_of w)))
    (λ idle. let e : IsExact 0 (record_of 0 all) w = h.exact 0 idle in
    exact_of 0 (record_of 0 all) w'
    (subst (λ (x : Sets). InSets 0 (dues_at (record_of 0 all)) x) (sym same) (in_sets 0 (record_of 0 all) w e)) e.turn) h

-- ---- a stream changes, and it is known what it owes

mark_stays : (f : Stream → Stream) → Stays f → (o : Option Stream) → is_marked (option_map f o) ≡ is_marked o
mark_stays f k None = refl
mark_stays f k (Some st) = k.mark st

turn_stays : (f : Stream → Stream) → Stays f → (o : Option Stream) → turn_at (option_map f o) ≡ turn_at o
turn_stays f k None = refl
turn_stays f k (Some st) = k.turn st

owes_at : (d : Dues → Dues) (f : Stream → Stream) → Owes d f → d (dues_at None) ≡ dues_at None
    → (o : Option Stream) → dues_at (option_map f o) ≡ d (dues_at o)
owes_at d f k none None = sym none
owes_at d f k none (Some st) = k.dues st

owes_fits : (d : Dues → Dues) (f : Stream → Stream) → Owes d f → d (dues_at None) ≡ dues_at None → ((e : Dues) → (d e).bytes ≡ e.bytes)
    → (id : ℕ) (all : AllRecords) (w w' : Waiting) → Beside id (sets_of w) (sets_of w')
    → (AllAscend (sets_of w) → (e : Dues) → InSets id e (sets_of w) → InSets id (d e) (sets_of w')) → SetsFit all w → SetsFit (changed f id all) w'
owes_fits d f k none bytes id all w w' beside sets h =
    one_fits id all (changed f id all) w w' (one_changed f id all) beside
    (subst (Idle (λ o. IsExact id o w')) (sym (here f id all)) (by (record_of id all) (h.exact id))) h
  where
    by : (o : Option Stream) → Idle (λ x. IsExact id x w) o → Idle (λ x. IsExact id x w') (option_map f o)
    by o one idle =
        let e : IsExact id o w = one (sym (mark_stays f k.stays o) ∙ idle) in
        let same : dues_at (option_map f o) ≡ d (dues_at o) = owes_at d f k none o in
        exact_of id (option_map f o) w'
        (dues_in id (d (dues_at o)) (dues_at (option_map f o)) (sets_of w') same (sets h.sets (dues_at o) (in_sets id o w e)))
        (ap (λ (t : Option (ℤ × ℕ)). is_some t) (turn_stays f k.stays o) ∙ e.turn ∙ sym (bytes (dues_at o)) ∙ sym (ap (λ (x : Dues). x.bytes) same))

quiet_fits : (f : Stream → Stream) → Owes (λ d. d) f → (id : ℕ) (all : AllRecords) (w : Waiting) → SetsFit all w → SetsFit (changed f id all) w
quiet_fits f k id all w h = owes_fits (λ d. d) f k refl (λ e. refl) id all w w (none_moves id (sets_of w)) (λ asc e i. i) h

reset_fits : (f : Stream → Stream) → Owes no_reset f → (id : ℕ) (all : AllRecords) (w : Waiting) → SetsFit all w
    → SetsFit (changed f id all) (record w { resets = without_id id w.resets })
reset_fits f k id all w h =
    owes_fits no_reset f k refl (λ e. refl) id all w (record w { resets = without_id id w.resets })
    (record { resets = put false id w.resets; stops = stays id w.stops; credits = stays id w.credits })
    (λ asc e i. record { resets = put_here false id w.resets asc.resets; stops = i.stops; credits = i.credits }) h

stop_fits : (f : Stream → Stream) → Owes no_stop f → (id : ℕ) (all : AllRecords) (w : Waiting) → SetsFit all w
    → SetsFit (changed f id all) (record w { stops = without_id id w.stops })
stop_fits f k id all w h =
    owes_fits no_stop f k refl (λ e. refl) id all w (record w { stops = without_id id w.stops })
    (record { resets = stays id w.resets; stops = put false id w.stops; credits = stays id w.credits })
    (λ asc e i. record { resets = i.resets; stops = put_here false id w.stops asc.stops; credits = i.credits }) h

credit_fits : (f : Stream → Stream) → Owes no_credit f → (id : ℕ) (all : AllRecords) (w : Waiting) → SetsFit all w
    → SetsFit (changed f id all) (record w { credits = without_id id w.credits })
credit_fits f k id all w h =
    owes_fits no_credit f k refl (λ e. refl) id all w (record w { credits = without_id id w.credits })
    (record { resets = stays id w.resets; stops = stays id w.stops; credits = put false id w.credits })
    (λ asc e i. record { resets = i.resets; stops = i.stops; credits = put_here false id w.credits asc.credits }) h

-- ---- a stream is filed, or had its turn

-- it is in the sets where it owes, and has its turn
turn_fits : (id : ℕ) (all : AllRecords) (w : Waiting) (s s' : StreamsState) → Others id all s.records → Beside id (sets_of w) (sets_of s.waiting)
    → Idle (λ o. InSets id (dues_at o) (sets_of s.waiting)) (record_of id s.records) → TurnOnly id s s'
    → is_some (turn_at (record_of id s'.records)) ≡ (dues_at (record_of id s.records)).bytes → SetsFit all w → On SetsFit s'
turn_fits id all w s s' others beside sets t turn h =
    one_fits id all s'.records w s'.waiting (one_then id all s.records s'.records others t.others)
    (subst (λ (x : Sets). Beside id (sets_of w) x) (sym t.sets) beside)
    (λ idle. exact_of id (record_of id s'.records) s'.waiting
    (dues_in id (dues_at (record_of id s.records)) (dues_at (record_of id s'.records)) (sets_of s'.waiting) t.dues
    (subst (λ (x : Sets). InSets id (dues_at (record_of id s.records)) x) (sym t.sets) (sets (sym t.mark ∙ idle))))
    (turn ∙ sym (ap (λ (d : Dues). d.bytes) t.dues))) h

filed_only : (owes : Bool) (turn : Option (ℤ × ℕ)) (id : ℕ) (s : StreamsState) → TurnOnly id s (turn_filed owes turn id s)
filed_only true None id s = entered_only _ id s
filed_only true (Some place) id s = same_turn id s
filed_only false turn id s = left_only id s

filed_turn : (owes : Bool) (turn : Option (ℤ × ℕ)) (id : ℕ) (s : StreamsState) → (dues_at (record_of id s.records)).bytes ≡ owes
    → turn_at (record_of id s.records) ≡ turn → is_some (turn_at (record_of id (turn_filed owes turn id s).records)) ≡ owes
filed_turn true None id s owes has = entered_turn _ id s owes
filed_turn true (Some place) id s owes has = ap (λ (t : Option (ℤ × ℕ)). is_some t) has
filed_turn false turn id s owes has = ap (λ (t : Option (ℤ × ℕ)). is_some t) (left_turn id s)

placed_fits : (id : ℕ) (all : AllRecords) (s : StreamsState) → Others id all s.records → SetsFit all s.waiting → On SetsFit (placed id s)
unfolding placed
placed_fits id all s others h =
    let d : Dues = dues_at (record_of id s.records) in
    let turn : Option (ℤ × ℕ) = turn_at (record_of id s.records) in
    let now : StreamsState = record s { waiting = sets_filed d id s.waiting } in
    turn_fits id all s.waiting now (turn_filed d.bytes turn id now) others (sets_beside d id s.waiting) (λ idle. sets_here d id s.waiting h.sets)
    (filed_only d.bytes turn id now) (filed_turn d.bytes turn id now refl refl) h

filed_fits : (id : ℕ) (ids : List ℕ) (s : StreamsState) → s.waiting.marks.ids ≡ id ∷ ids → On SetsFit s → On SetsFit (filed id s)
unfolding filed mark_off
filed_fits id ids s is h =
    placed_fits id s.records (mark_off id s) (one_changed (with_mark false) id s.records)
    (same_sets s.records s.waiting (mark_off id s).waiting refl h)

turned_fits : (id : ℕ) (all : AllRecords) (s : StreamsState) → Others id all s.records
    → Idle (λ o. InSets id (dues_at o) (sets_of s.waiting)) (record_of id s.records) → SetsFit all s.waiting → On SetsFit (turned id s)
unfolding turned
turned_fits id all s others sets h = by (dues_at (record_of id s.records)).bytes refl
  where
    fits : (s' : StreamsState) → TurnOnly id s s' → is_some (turn_at (record_of id s'.records)) ≡ (dues_at (record_of id s.records)).bytes → On SetsFit s'
    fits s' t turn = turn_fits id all s.waiting s s' others (none_moves id (sets_of s.waiting)) sets t turn h

    by : (b : Bool) → (dues_at (record_of id s.records)).bytes ≡ b
        → On SetsFit (cond b (entered (place_again id (left id s)) id (left id s)) (left id s))
    by true is =
        let next : ℤ × ℕ = place_again id (left id s) in
        fits (entered next id (left id s)) (turn_then id s (left id s) (entered next id (left id s)) (left_only id s) (entered_only next id (left id s)))
        (entered_turn next id (left id s) (ap (λ (d : Dues). d.bytes) (left_only id s).dues ∙ is) ∙ sym is)
    by false is = fits (left id s) (left_only id s) (ap (λ (t : Option (ℤ × ℕ)). is_some t) (left_turn id s) ∙ sym is)

part_fits : (f : Stream → Stream) → OwesBytes f → (id : ℕ) (s : StreamsState) → On SetsFit s → On SetsFit (turned id (changed_in f id s))
part_fits f k id s h =
    turned_fits id s.records (changed_in f id s) (one_changed f id s.records)
    (subst (Idle (λ o. InSets id (dues_at o) (sets_of s.waiting))) (sym (here f id s.records)) (by (record_of id s.records) (h.exact id))) h
  where
    by : (o : Option Stream) → Idle (λ x. IsExact id x s.waiting) o → Idle (λ x. InSets id (dues_at x) (sets_of s.waiting)) (option_map f o)
    by None one idle = in_sets id None s.waiting (one idle)
    by (Some st) one idle =
        let e : IsExact id (Some st) s.waiting = one (sym (k.stays.mark st) ∙ idle) in
        record { resets = e.resets ∙ sym (k.reset st); stops = e.stops ∙ sym (k.stop st); credits = e.credits ∙ sym (k.credit st) }

-- ---- a stream is looked at, leaves or comes

marked_fits : (f : Stream → Stream) (id : ℕ) (all : AllRecords) (w : Waiting) → SetsFit all w → SetsFit (changed (with_mark true) id (changed f id all)) w
unfolding with_mark
marked_fits f id all w h =
    let all' : AllRecords = changed (with_mark true) id (changed f id all) in
    one_fits id all all' w w
    (one_then id all (changed f id all) all' (one_changed f id all) (one_changed (with_mark true) id (changed f id all)))
    (none_moves id (sets_of w))
    (subst (Idle (λ o. IsExact id o w))
    (sym (here (with_mark true) id (changed f id all) ∙ ap (λ (o : Option Stream). option_map (with_mark true) o) (here f id all)))
    (by (record_of id all) (h.exact id))) h
  where
    by : (o : Option Stream) → Idle (λ x. IsExact id x w) o → Idle (λ x. IsExact id x w) (option_map (with_mark true) (option_map f o))
    by None one = one
    by (Some st) one = λ idle. absurd (false≢true (sym idle))

looked_fits : (f : Stream → Stream) → Stays f → (id : ℕ) (s : StreamsState) → On SetsFit s → On SetsFit (touched id (changed_in f id s))
unfolding touched
looked_fits f k id s h =
    same_sets (changed (with_mark true) id (changed f id s.records)) s.waiting (touched id (changed_in f id s)).waiting refl
    (marked_fits f id s.records s.waiting h)

-- a stream began to wait
queued_fits : (f : Stream → Stream) → Stays f → (id : ℕ) (s : StreamsState) → On SetsFit s → On SetsFit (touched id (queued id (changed_in f id s)))
unfolding touched queued
queued_fits f k id s h =
    let q : Stream → Stream = queue_one s.waiting.turns in
    same_sets (changed (with_mark true) id (changed q id (changed f id s.records))) s.waiting (touched id (queued id (changed_in f id s))).waiting refl
    (subst (λ (all : AllRecords). SetsFit (changed (with_mark true) id all) s.waiting) (sym (changed_twice f q id s.records))
    (marked_fits (λ st. q (f st)) id s.records s.waiting h))

removed_fits : (id : ℕ) (all : AllRecords) (w : Waiting) (s : StreamsState) → Others id all s.records → Beside id (sets_of w) (sets_of s.waiting)
    → InSets id (dues_at None) (sets_of s.waiting) → SetsFit all w → On SetsFit (removed id s)
unfolding removed place_left
removed_fits id all w s others beside sets h = by (is_idle (record_of id s.records))
    (one_fits id all (without id s.records) w s.waiting (one_then id all s.records (without id s.records) others (one_gone id s.records)) beside
    (subst (Idle (λ o. IsExact id o s.waiting)) (sym (gone_here id s.records (others.order h.order))) (λ idle. exact_of id None s.waiting sets refl)) h)
  where
    by : (b : Bool) → SetsFit (without id s.records) s.waiting → SetsFit (without id s.records) (cond b (place_left s.waiting) s.waiting)
    by true then = same_sets (without id s.records) s.waiting (place_left s.waiting) refl then
    by false then = then

gone_fits : (f : Stream → Stream) → Stays f → (id : ℕ) (s : StreamsState) → On SetsFit s → On SetsFit (released id (changed_in f id s))
unfolding released forgotten
gone_fits f k id s h =
    let now : StreamsState = forgotten id (changed_in f id s) in
    let t : TurnOnly id now (left id now) = left_only id now in
    removed_fits id s.records s.waiting (left id now)
    (one_then id s.records now.records (left id now).records (one_changed f id s.records) t.others)
    (subst (λ (x : Sets). Beside id (sets_of s.waiting) x) (sym t.sets) (sets_beside (dues_at None) id s.waiting))
    (subst (λ (x : Sets). InSets id (dues_at None) x) (sym t.sets) (sets_here (dues_at None) id s.waiting h.sets)) h

comes_fits : (id : ℕ) (st : Stream) → Fresh st → (all : AllRecords) (w : Waiting) → record_of id all ≡ None → SetsFit all w
    → SetsFit (with_new id st all) (place_made w)
unfolding place_made
comes_fits id st fresh all w none h =
    let before : IsExact id None w = subst (Idle (λ o. IsExact id o w)) none (h.exact id) refl in
    same_sets (with_new id st all) w (place_made w) refl
    (one_fits id all (with_new id st all) w w (one_new id st all) (none_moves id (sets_of w))
    (subst (Idle (λ o. IsExact id o w)) (sym (new_here id all st))
    (λ idle. exact_of id (Some st) w (dues_in id (dues_at None) (dues_at (Some st)) (sets_of w) fresh.dues (in_sets id None w before))
    (ap (λ (t : Option (ℤ × ℕ)). is_some t) fresh.turn ∙ sym (ap (λ (d : Dues). d.bytes) fresh.dues)))) h)

-- ---- all of it

nothing_fits : SetsFit [] new_waiting
unfolding new_waiting
nothing_fits = record {
  order = tt;
  sets = record { resets = tt; stops = tt; credits = tt };
  exact = λ j idle. record { resets = refl; stops = refl; credits = refl; turn = refl };
}

codes_fit : (codes : StopCodes) (all : AllRecords) (w : Waiting) → SetsFit all w → SetsFit all (record w { gone_stops = codes })
codes_fit codes all w h = same_sets all w (record w { gone_stops = codes }) refl h

-- each kind of step keeps it
pub filed_sets : Keeps SetsFit
filed_sets = record {
  nothing = nothing_fits;
  quiet = quiet_fits;
  looked = looked_fits;
  queued = queued_fits;
  gone = gone_fits;
  comes = comes_fits;
  filed = filed_fits;
  reset = reset_fits;
  stop = stop_fits;
  credit = credit_fits;
  part = part_fits;
  gone_stops = codes_fit;
}

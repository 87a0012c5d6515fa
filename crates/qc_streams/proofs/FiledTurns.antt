-- A place is a stream's turn exactly where the stream stands at it: every kind of step keeps that, as long as turns are counted
use Rattle.std.proofs.Common.{◌≡◌, ◌∙◌, ℕ, ℤ, ◌+◌, ◌-◌, ◌^◌, ◌<◌, ◌≤◌, ◌⊎◌, inl, inr, min, Bool, true, false, cond, List, [], Option, None, Some, is_some, ap, sym, subst, arith, refl}
use Rattle.std.specs.Option.{option_map}
use Rattle.std.proofs.lemmas.Bool.{false≢true}
use Rattle.qc_turns.specs.Ready.{place_cmp, with_place, without_place}
use Rattle.qc_streams.specs.declared.state.StreamsState.{StreamsState}
use Rattle.qc_streams.specs.declared.stream.Stream.{Stream}
use Rattle.qc_streams.specs.declared.waiting.Waiting.{Waiting}
use Rattle.qc_streams.specs.Counts.{saturated}
use Rattle.qc_streams.specs.Filed.{turn_of}
use Rattle.qc_streams.specs.Lending.{AllRecords}
use Rattle.qc_streams.specs.StreamBytes.{place_again, turned}
use Rattle.qc_streams.specs.Records.{changed, record_of, with_new, without}
use Rattle.qc_streams.specs.Streams.{forgotten, released, removed}
use Rattle.qc_streams.specs.Queues.{due_at, dues_at, entered, filed, is_idle, left, left_from, mark_off, new_waiting, next_place, or_next, place_left, place_made, placed, queue_one, queued, sets_filed, takes_number, touched, turn_at, turn_filed, with_mark, with_turn}
use Rattle.qc_streams.proofs.FiledPlaces.{Agree, Claims, Once, came, claims_entered, claims_left, claims_queued, claims_same, due_alike, either, gone_here, gone_other, new_claims, new_here, new_other, new_turn, once_gone, once_new, order_changed, place_exact, place_tied, turn_alike, turn_none, turn_other, turn_some, went, without_claims, without_turn}
use Rattle.qc_streams.proofs.Keeps.{Fresh, Keeps, On, Stays, changed_in}
use Rattle.qc_streams.proofs.Keyed.{Ascends, ascends_gone, ascends_new}
use Rattle.qc_streams.proofs.Waits.{here}

-- Places and turns: no place comes twice, all places were given before, a place is a stream's turn exactly where the stream stands at it,
-- and no number of a turn, or of a place that is put by, is that of another stream
pub record InTurn (all : AllRecords) (w : Waiting) : Type 0 where
  pub order : Ascends all
  pub once : Once place_cmp w.ready
  pub below : (place : ℤ × ℕ) → is_some (turn_of place w.ready) ≡ true → place.1 < w.turns
  pub stands : (id : ℕ) (place : ℤ × ℕ) → turn_of place w.ready ≡ Some id → turn_at (record_of id all) ≡ Some place
  pub takes : (id : ℕ) (place : ℤ × ℕ) → turn_at (record_of id all) ≡ Some place → turn_of place w.ready ≡ Some id
  pub fewer : (id : ℕ) (place : ℤ × ℕ) → Claims (record_of id all) place → place.1 < w.turns
  pub apart : (id j : ℕ) (p q : ℤ × ℕ) → Claims (record_of id all) p → Claims (record_of j all) q → p.1 ≡ q.1 → id ≡ j

-- that holds as long as turns are counted
abbrev pub TurnsFit : AllRecords → Waiting → Type 0
TurnsFit all w = w.turns < 2 ^ 64 - 1 → InTurn all w

-- ---- turns and places stay as they were

-- streams and places may change otherwise, if every stream's turn stays, and none claims another number
kept : (all all' : AllRecords) (w w' : Waiting) → (Ascends all → Ascends all')
    → (Ascends all → (j : ℕ) → turn_at (record_of j all') ≡ turn_at (record_of j all))
    → (Ascends all → (j : ℕ) (q : ℤ × ℕ) → Claims (record_of j all') q → Claims (record_of j all) q) → w'.ready ≡ w.ready → w'.turns ≡ w.turns
    → TurnsFit all w → TurnsFit all' w'
kept all all' w w' order same back ready turns h fewer =
    let i : InTurn all w = h (subst (λ (n : ℕ). n < 2 ^ 64 - 1) turns fewer) in
    record {
      order = order i.order;
      once = subst (λ (r : List ((ℤ × ℕ) × ℕ)). Once place_cmp r) (sym ready) i.once;
      below = λ place there. subst (λ (n : ℕ). place.1 < n) (sym turns)
          (i.below place (ap (λ (r : List ((ℤ × ℕ) × ℕ)). is_some (turn_of place r)) (sym ready) ∙ there));
      stands = λ id place is. same i.order id ∙ i.stands id place (ap (λ (r : List ((ℤ × ℕ) × ℕ)). turn_of place r) (sym ready) ∙ is);
      takes = λ id place is. ap (λ (r : List ((ℤ × ℕ) × ℕ)). turn_of place r) ready ∙ i.takes id place (sym (same i.order id) ∙ is);
      fewer = λ id place claim. subst (λ (n : ℕ). place.1 < n) (sym turns) (i.fewer id place (back i.order id place claim));
      apart = λ id j p q a b is. i.apart id j p q (back i.order id p a) (back i.order j q b) is;
    }

-- a stream changes whose turn stays, and the place that is put by for it
alike : (f : Stream → Stream) → ((st : Stream) → (f st).turn ≡ st.turn) → ((st : Stream) → (f st).due ≡ st.due) → (id : ℕ) (all : AllRecords)
    (w w' : Waiting) → w'.ready ≡ w.ready → w'.turns ≡ w.turns → TurnsFit all w → TurnsFit (changed f id all) w'
alike f same due id all w w' ready turns =
    kept all (changed f id all) w w' (order_changed f id all) (λ order j. turn_alike f same id j all)
    (λ order j q. claims_same (record_of j all) (record_of j (changed f id all)) q (turn_alike f same id j all) (due_alike f due id j all)) ready turns

-- ---- a stream takes a place

-- where the count of turns stands below the limit, it has gone up by one
below_limit : (n m : ℕ) → min (n + 1) m < m → (min (n + 1) m ≡ n + 1) × (n < m)
below_limit n m fewer = (omega (arith, fewer), omega (arith, fewer))

counted : (n : ℕ) → saturated (n + 1) < 2 ^ 64 - 1 → (saturated (n + 1) ≡ n + 1) × (n < 2 ^ 64 - 1)
unfolding saturated
counted n fewer = below_limit n (2 ^ 64 - 1) fewer

free-in : (o : Option ℕ) → (is_some o ≡ true → ⊥) → o ≡ None
free-in None never = refl
free-in (Some id) never = absurd (never refl)

found : (o : Option ℕ) → is_some o ≡ true → (j : ℕ) × (o ≡ Some j)
found None is = absurd (false≢true is)
found (Some j) is = (j, refl)

-- the number of a place is claimed by one stream alone, if by any, and isn't above those that were given
pub record Own (place : ℤ × ℕ) (id : ℕ) (all : AllRecords) (w : Waiting) : Type 0 where
  pub most : place.1 ≤ w.turns
  pub alone : (j : ℕ) (q : ℤ × ℕ) → Claims (record_of j all) q → q.1 ≡ place.1 → j ≡ id

-- so is the next one
own_next : (place : ℤ × ℕ) (id : ℕ) (all : AllRecords) (w : Waiting) → place.1 ≡ w.turns → InTurn all w → Own place id all w
own_next place id all w next i = record {
  most = omega (arith, next);
  alone = λ j q claim is. (let less : q.1 < w.turns = i.fewer j q claim in absurd (omega (arith, less, next, is)));
}

-- and the one that is put by for a stream
own_due : (place : ℤ × ℕ) (id : ℕ) (all : AllRecords) (w : Waiting) → due_at (record_of id all) ≡ Some place → InTurn all w → Own place id all w
own_due place id all w due i = record {
  most = (let less : place.1 < w.turns = i.fewer id place (inr due) in omega (arith, less));
  alone = λ j q claim is. i.apart j id q place claim (inr due) is;
}

-- nobody stands at a place that its stream alone claims, where that has no turn
free : (place : ℤ × ℕ) (id : ℕ) (all : AllRecords) (w : Waiting) → Own place id all w → turn_at (record_of id all) ≡ None → InTurn all w
    → turn_of place w.ready ≡ None
free place id all w own none i =
    free-in (turn_of place w.ready)
    (λ there.
    let at : (j : ℕ) × (turn_of place w.ready ≡ Some j) = found (turn_of place w.ready) there in
    let turn : turn_at (record_of at.0 all) ≡ Some place = i.stands at.0 place at.1 in
    let same : at.0 ≡ id = own.alone at.0 place (inl turn) refl in
    let no : None ≡ Some place = sym none ∙ subst (λ (k : ℕ). turn_at (record_of k all) ≡ Some place) same turn in
    absurd (cc))

-- a stream without a turn takes a place that it alone claims
enters : (place : ℤ × ℕ) (id : ℕ) (all : AllRecords) (w : Waiting) → Own place id all w → turn_at (record_of id all) ≡ None → is_some (record_of id all) ≡ true
    → saturated (w.turns + 1) ≡ w.turns + 1 → InTurn all w
    → InTurn (changed (with_turn (Some place)) id all) (record w { ready = with_place place id w.ready; turns = saturated (w.turns + 1) })
enters place id all w own none known more i = record {
  order = order_changed (with_turn (Some place)) id all i.order;
  once = once_new place_cmp place_tied place_exact place w.ready id (free place id all w own none i) i.once;
  below = λ q there. below q there (either place_cmp place_tied place_exact place q);
  stands = agree.stands;
  takes = agree.takes;
  fewer = λ j q claim. fewer j q (claims_entered place id j all q claim);
  apart = λ j k p q a b is. one j k p q is (claims_entered place id j all p a) (claims_entered place id k all q b);
}
  where
    agree : Agree (λ (j : ℕ). turn_at (record_of j (changed (with_turn (Some place)) id all))) (λ (q : ℤ × ℕ). turn_of q (with_place place id w.ready))
    agree =
        came id place (λ (j : ℕ). turn_at (record_of j all)) (λ (j : ℕ). turn_at (record_of j (changed (with_turn (Some place)) id all)))
        (λ (q : ℤ × ℕ). turn_of q w.ready) (λ (q : ℤ × ℕ). turn_of q (with_place place id w.ready)) (either place_cmp place_tied place_exact place)
        (record {
          turns = λ j apart. turn_other (with_turn (Some place)) id j all apart;
          places = λ q apart. new_other place_cmp place_tied place_exact place q w.ready id apart;
        })
        none
        (ap (λ (o : Option Stream). turn_at o) (here (with_turn (Some place)) id all) ∙ turn_some (Some place) (record_of id all) known)
        (free place id all w own none i)
        (new_here place_cmp place_tied place_exact place w.ready id)
        (record { stands = i.stands; takes = i.takes })

    below : (q : ℤ × ℕ) → is_some (turn_of q (with_place place id w.ready)) ≡ true → (place ≡ q) ⊎ (place ≡ q → ⊥) → q.1 < saturated (w.turns + 1)
    below q there (inl same) =
        let at_end : q.1 ≡ place.1 = ap (λ (p : ℤ × ℕ). p.1) (sym same) in
        omega (arith, at_end, own.most, more)
    below q there (inr apart) =
        let less : q.1 < w.turns =
        i.below q (ap (λ (o : Option ℕ). is_some o) (sym (new_other place_cmp place_tied place_exact place q w.ready id apart)) ∙ there) in
        omega (arith, less, more)

    fewer : (j : ℕ) (q : ℤ × ℕ) → ((id ≡ j) × (place ≡ q)) ⊎ Claims (record_of j all) q → q.1 < saturated (w.turns + 1)
    fewer j q (inl new) =
        let at_end : q.1 ≡ place.1 = ap (λ (p : ℤ × ℕ). p.1) (sym new.1) in
        omega (arith, at_end, own.most, more)
    fewer j q (inr claim) = let less : q.1 < w.turns = i.fewer j q claim in omega (arith, less, more)

    one : (j k : ℕ) (p q : ℤ × ℕ) → p.1 ≡ q.1 → ((id ≡ j) × (place ≡ p)) ⊎ Claims (record_of j all) p → ((id ≡ k) × (place ≡ q)) ⊎ Claims (record_of k all) q → j ≡ k
    one j k p q is (inl new) (inl also) = sym new.0 ∙ also.0
    one j k p q is (inl new) (inr claim) = sym new.0 ∙ sym (own.alone k q claim (sym is ∙ ap (λ (x : ℤ × ℕ). x.1) (sym new.1)))
    one j k p q is (inr claim) (inl new) = own.alone j p claim (is ∙ ap (λ (x : ℤ × ℕ). x.1) (sym new.1)) ∙ new.0
    one j k p q is (inr claim) (inr also) = i.apart j k p q claim also is

entered_ok : (place : ℤ × ℕ) (id : ℕ) (s : StreamsState) → (InTurn s.records s.waiting → Own place id s.records s.waiting)
    → turn_at (record_of id s.records) ≡ None → is_some (record_of id s.records) ≡ true → On TurnsFit s → On TurnsFit (entered place id s)
unfolding entered
entered_ok place id s own none known h fewer =
    let more : (saturated (s.waiting.turns + 1) ≡ s.waiting.turns + 1) × (s.waiting.turns < 2 ^ 64 - 1) = counted s.waiting.turns fewer in
    enters place id s.records s.waiting (own (h more.1)) none known more.0 (h more.1)

-- ---- a stream began to wait

waits : (id : ℕ) (all : AllRecords) (w w' : Waiting) → w'.ready ≡ w.ready → w.turns ≤ w'.turns → (takes_number (record_of id all) ≡ true → w.turns < w'.turns)
    → InTurn all w → InTurn (changed (queue_one w.turns) id all) w'
unfolding queue_one
waits id all w w' ready most number i = record {
  order = order_changed (queue_one w.turns) id all i.order;
  once = subst (λ (r : List ((ℤ × ℕ) × ℕ)). Once place_cmp r) (sym ready) i.once;
  below = λ place there.
      (let less : place.1 < w.turns = i.below place (ap (λ (r : List ((ℤ × ℕ) × ℕ)). is_some (turn_of place r)) (sym ready) ∙ there) in omega (arith, less, most));
  stands = λ j place is. same j ∙ i.stands j place (ap (λ (r : List ((ℤ × ℕ) × ℕ)). turn_of place r) (sym ready) ∙ is);
  takes = λ j place is. ap (λ (r : List ((ℤ × ℕ) × ℕ)). turn_of place r) ready ∙ i.takes j place (sym (same j) ∙ is);
  fewer = λ j q claim. fewer j q (claims_queued w.turns id j all q claim);
  apart = λ j k p q a b is. one j k p q is (claims_queued w.turns id j all p a) (claims_queued w.turns id k all q b);
}
  where
    same : (j : ℕ) → turn_at (record_of j (changed (queue_one w.turns) id all)) ≡ turn_at (record_of j all)
    same j = turn_alike (queue_one w.turns) (λ st. refl) id j all

    fewer : (j : ℕ) (q : ℤ × ℕ) → ((id ≡ j) × (q.1 ≡ w.turns) × (takes_number (record_of id all) ≡ true)) ⊎ Claims (record_of j all) q → q.1 < w'.turns
    fewer j q (inl new) = let less : w.turns < w'.turns = number new.2 in omega (arith, less, new.1)
    fewer j q (inr claim) = let less : q.1 < w.turns = i.fewer j q claim in omega (arith, less, most)

    one : (j k : ℕ) (p q : ℤ × ℕ) → p.1 ≡ q.1 → ((id ≡ j) × (p.1 ≡ w.turns) × (takes_number (record_of id all) ≡ true)) ⊎ Claims (record_of j all) p
        → ((id ≡ k) × (q.1 ≡ w.turns) × (takes_number (record_of id all) ≡ true)) ⊎ Claims (record_of k all) q → j ≡ k
    one j k p q is (inl new) (inl also) = sym new.0 ∙ also.0
    one j k p q is (inl new) (inr claim) = let less : q.1 < w.turns = i.fewer k q claim in absurd (omega (arith, less, new.1, is))
    one j k p q is (inr claim) (inl new) = let less : p.1 < w.turns = i.fewer j p claim in absurd (omega (arith, less, new.1, is))
    one j k p q is (inr claim) (inr also) = i.apart j k p q claim also is

queued-in : (b : Bool) (id : ℕ) (s : StreamsState) → takes_number (record_of id s.records) ≡ b → On TurnsFit s
    → TurnsFit (changed (queue_one s.waiting.turns) id s.records) (record s.waiting { turns = cond b (saturated (s.waiting.turns + 1)) s.waiting.turns })
queued-in true id s is h fewer =
    let more : (saturated (s.waiting.turns + 1) ≡ s.waiting.turns + 1) × (s.waiting.turns < 2 ^ 64 - 1) = counted s.waiting.turns fewer in
    waits id s.records s.waiting (record s.waiting { turns = saturated (s.waiting.turns + 1) }) refl (omega (arith, more.0)) (λ takes. omega (arith, more.0)) (h more.1)
queued-in false id s is h fewer =
    waits id s.records s.waiting s.waiting refl (omega arith) (λ takes. absurd (false≢true (sym is ∙ takes))) (h fewer)

queued_ok : (id : ℕ) (s : StreamsState) → On TurnsFit s → On TurnsFit (queued id s)
unfolding queued
queued_ok id s h = queued-in (takes_number (record_of id s.records)) id s refl h

-- ---- a stream gives its place up

leaves : (place : ℤ × ℕ) (id : ℕ) (all : AllRecords) (w : Waiting) → turn_at (record_of id all) ≡ Some place → InTurn all w
    → InTurn (changed (with_turn None) id all) (record w { ready = without_place place w.ready })
leaves place id all w has i = record {
  order = order_changed (with_turn None) id all i.order;
  once = once_gone place_cmp place_tied place_exact place w.ready i.once;
  below = λ q there. below q there (either place_cmp place_tied place_exact place q);
  stands = agree.stands;
  takes = agree.takes;
  fewer = λ j q claim. i.fewer j q (claims_left id j all q claim);
  apart = λ j k p q a b is. i.apart j k p q (claims_left id j all p a) (claims_left id k all q b) is;
}
  where
    agree : Agree (λ (j : ℕ). turn_at (record_of j (changed (with_turn None) id all))) (λ (q : ℤ × ℕ). turn_of q (without_place place w.ready))
    agree =
        went id place (λ (j : ℕ). turn_at (record_of j all)) (λ (j : ℕ). turn_at (record_of j (changed (with_turn None) id all)))
        (λ (q : ℤ × ℕ). turn_of q w.ready) (λ (q : ℤ × ℕ). turn_of q (without_place place w.ready)) (either place_cmp place_tied place_exact place)
        (record {
          turns = λ j apart. turn_other (with_turn None) id j all apart;
          places = λ q apart. gone_other place_cmp place_tied place_exact place q w.ready apart;
        })
        has
        (ap (λ (o : Option Stream). turn_at o) (here (with_turn None) id all) ∙ turn_none (record_of id all))
        (gone_here place_cmp place_tied place_exact place w.ready i.once)
        (record { stands = i.stands; takes = i.takes })

    below : (q : ℤ × ℕ) → is_some (turn_of q (without_place place w.ready)) ≡ true → (place ≡ q) ⊎ (place ≡ q → ⊥) → q.1 < w.turns
    below q there (inl same) =
        absurd (false≢true (ap (λ (o : Option ℕ). is_some o) (sym (gone_here place_cmp place_tied place_exact place w.ready i.once))
        ∙ ap (λ (p : ℤ × ℕ). is_some (turn_of p (without_place place w.ready))) same ∙ there))
    below q there (inr apart) =
        i.below q (ap (λ (o : Option ℕ). is_some o) (sym (gone_other place_cmp place_tied place_exact place q w.ready apart)) ∙ there)

left_from_ok : (turn : Option (ℤ × ℕ)) (id : ℕ) (s : StreamsState) → turn_at (record_of id s.records) ≡ turn → On TurnsFit s → On TurnsFit (left_from turn id s)
left_from_ok None id s is h = h
left_from_ok (Some place) id s is h = λ fewer. leaves place id s.records s.waiting is (h fewer)

left_ok : (id : ℕ) (s : StreamsState) → On TurnsFit s → On TurnsFit (left id s)
unfolding left
left_ok id s h = left_from_ok (turn_at (record_of id s.records)) id s refl h

left-from-none : (turn : Option (ℤ × ℕ)) (id : ℕ) (s : StreamsState) → turn_at (record_of id s.records) ≡ turn
    → turn_at (record_of id (left_from turn id s).records) ≡ None
left-from-none None id s is = is
left-from-none (Some place) id s is = ap (λ (o : Option Stream). turn_at o) (here (with_turn None) id s.records) ∙ turn_none (record_of id s.records)

-- it has no turn then
left_none : (id : ℕ) (s : StreamsState) → turn_at (record_of id (left id s).records) ≡ None
unfolding left
left_none id s = left-from-none (turn_at (record_of id s.records)) id s refl

some-map : (f : Stream → Stream) (o : Option Stream) → is_some (option_map f o) ≡ is_some o
some-map f None = refl
some-map f (Some st) = refl

left-from-known : (turn : Option (ℤ × ℕ)) (id : ℕ) (s : StreamsState) → is_some (record_of id (left_from turn id s).records) ≡ is_some (record_of id s.records)
left-from-known None id s = refl
left-from-known (Some place) id s =
    ap (λ (o : Option Stream). is_some o) (here (with_turn None) id s.records) ∙ some-map (with_turn None) (record_of id s.records)

-- and is there as before
left_known : (id : ℕ) (s : StreamsState) → is_some (record_of id (left id s).records) ≡ is_some (record_of id s.records)
unfolding left
left_known id s = left-from-known (turn_at (record_of id s.records)) id s

-- ---- the kinds of steps

-- a stream that owes bytes is there
known : (o : Option Stream) → (dues_at o).bytes ≡ true → is_some o ≡ true
known None is = absurd (false≢true is)
known (Some st) is = refl

-- the place that is put by for a stream, or the next one, is its own
own_place : (id : ℕ) (s : StreamsState) → InTurn s.records s.waiting
    → Own (or_next (due_at (record_of id s.records)) (next_place id s)) id s.records s.waiting
unfolding next_place
own_place id s i = by (due_at (record_of id s.records)) refl
  where
    by : (due : Option (ℤ × ℕ)) → due_at (record_of id s.records) ≡ due → Own (or_next due (next_place id s)) id s.records s.waiting
    by None is = own_next (next_place id s) id s.records s.waiting refl i
    by (Some place) is = own_due place id s.records s.waiting is i

turn_ok : (owes : Bool) (turn : Option (ℤ × ℕ)) (id : ℕ) (s : StreamsState) → turn_at (record_of id s.records) ≡ turn
    → (owes ≡ true → is_some (record_of id s.records) ≡ true) → On TurnsFit s → On TurnsFit (turn_filed owes turn id s)
unfolding next_place
turn_ok true None id s is there h = entered_ok (or_next (due_at (record_of id s.records)) (next_place id s)) id s (own_place id s) is (there refl) h
turn_ok true (Some place) id s is there h = h
turn_ok false turn id s is there h = left_ok id s h

placed_ok : (id : ℕ) (s : StreamsState) → On TurnsFit s → On TurnsFit (placed id s)
unfolding placed sets_filed
placed_ok id s h =
    turn_ok (dues_at (record_of id s.records)).bytes (turn_at (record_of id s.records)) id
    (record s { waiting = sets_filed (dues_at (record_of id s.records)) id s.waiting }) refl (known (record_of id s.records))
    (kept s.records s.records s.waiting (sets_filed (dues_at (record_of id s.records)) id s.waiting) (λ order. order) (λ order j. refl)
    (λ order j q claim. claim) refl refl h)

mark_off_ok : (id : ℕ) (s : StreamsState) → On TurnsFit s → On TurnsFit (mark_off id s)
unfolding mark_off with_mark
mark_off_ok id s h = alike (with_mark false) (λ st. refl) (λ st. refl) id s.records s.waiting _ refl refl h

filed_ok : (id : ℕ) (s : StreamsState) → On TurnsFit s → On TurnsFit (filed id s)
unfolding filed
filed_ok id s h = placed_ok id (mark_off id s) (mark_off_ok id s h)

-- where a stream goes on that has more, that is the next place too
again-turn : (fair : Bool) (x y : ℤ × ℕ) (n : ℕ) → x.1 ≡ n → y.1 ≡ n → (cond fair x y).1 ≡ n
again-turn true x y n left right = left
again-turn false x y n left right = right

again_next : (id : ℕ) (s : StreamsState) → (place_again id s).1 ≡ s.waiting.turns
unfolding place_again next_place
again_next id s = again-turn s.fair _ _ s.waiting.turns refl refl

turned_ok : (id : ℕ) (s : StreamsState) → On TurnsFit s → On TurnsFit (turned id s)
unfolding turned
turned_ok id s h = by (dues_at (record_of id s.records)).bytes refl
  where
    by : (b : Bool) → (dues_at (record_of id s.records)).bytes ≡ b → On TurnsFit (cond b (entered (place_again id (left id s)) id (left id s)) (left id s))
    by true is =
        entered_ok (place_again id (left id s)) id (left id s)
        (λ i. own_next (place_again id (left id s)) id (left id s).records (left id s).waiting (again_next id (left id s)) i) (left_none id s)
        (left_known id s ∙ known (record_of id s.records) is) (left_ok id s h)
    by false is = left_ok id s h

touched_ok : (id : ℕ) (s : StreamsState) → On TurnsFit s → On TurnsFit (touched id s)
unfolding touched with_mark
touched_ok id s h = alike (with_mark true) (λ st. refl) (λ st. refl) id s.records s.waiting _ refl refl h

removed-in : (b : Bool) (id : ℕ) (all : AllRecords) (w : Waiting) → turn_at (record_of id all) ≡ None → TurnsFit all w
    → TurnsFit (without id all) (cond b (place_left w) w)
unfolding place_left
removed-in true id all w none h = kept all (without id all) w (place_left w) (ascends_gone id all) (without_turn id all none) (without_claims id all) refl refl h
removed-in false id all w none h = kept all (without id all) w w (ascends_gone id all) (without_turn id all none) (without_claims id all) refl refl h

removed_ok : (id : ℕ) (s : StreamsState) → turn_at (record_of id s.records) ≡ None → On TurnsFit s → On TurnsFit (removed id s)
unfolding removed
removed_ok id s none h = removed-in (is_idle (record_of id s.records)) id s.records s.waiting none h

forgotten_ok : (id : ℕ) (s : StreamsState) → On TurnsFit s → On TurnsFit (forgotten id s)
unfolding forgotten sets_filed
forgotten_ok id s h =
    kept s.records s.records s.waiting (sets_filed (dues_at None) id s.waiting) (λ order. order) (λ order j. refl) (λ order j q claim. claim) refl refl h

released_ok : (id : ℕ) (s : StreamsState) → On TurnsFit s → On TurnsFit (released id s)
unfolding released
released_ok id s h =
    removed_ok id (left id (forgotten id s)) (left_none id (forgotten id s)) (left_ok id (forgotten id s) (forgotten_ok id s h))

changed_ok : (f : Stream → Stream) → Stays f → (id : ℕ) (s : StreamsState) → On TurnsFit s → On TurnsFit (changed_in f id s)
changed_ok f stays id s h = alike f stays.turn stays.due id s.records s.waiting s.waiting refl refl h

comes_ok : (id : ℕ) (st : Stream) → Fresh st → (all : AllRecords) (w : Waiting) → record_of id all ≡ None → TurnsFit all w
    → TurnsFit (with_new id st all) (place_made w)
unfolding place_made
comes_ok id st fresh all w absent h =
    kept all (with_new id st all) w (place_made w) (ascends_new id all st) (λ order j. new_turn id st all fresh.turn absent j)
    (λ order j q claim. new_claims id st all fresh.turn fresh.due j q claim) refl refl h

none-claimed : (place : ℤ × ℕ) → Claims None place → ⊥
none-claimed place (inl is) = absurd (cc)
none-claimed place (inr is) = absurd (cc)

nothing_ok : TurnsFit [] new_waiting
unfolding new_waiting
nothing_ok fewer = record {
  order = tt;
  once = tt;
  below = λ place there. absurd (false≢true there);
  stands = λ id place is. absurd (cc);
  takes = λ id place is. absurd (cc);
  fewer = λ id place claim. absurd (none-claimed place claim);
  apart = λ id j p q a b is. absurd (none-claimed p a);
}

-- each kind keeps it
pub filed_turns : Keeps TurnsFit
filed_turns = record {
  nothing = nothing_ok;
  quiet = λ f owes id all w h. alike f owes.stays.turn owes.stays.due id all w w refl refl h;
  looked = λ f stays id s h. touched_ok id (changed_in f id s) (changed_ok f stays id s h);
  queued = λ f stays id s h. touched_ok id (queued id (changed_in f id s)) (queued_ok id (changed_in f id s) (changed_ok f stays id s h));
  gone = λ f stays id s h. released_ok id (changed_in f id s) (changed_ok f stays id s h);
  comes = comes_ok;
  filed = λ id ids s is h. filed_ok id s h;
  reset = λ f owes id all w h. alike f owes.stays.turn owes.stays.due id all w _ refl refl h;
  stop = λ f owes id all w h. alike f owes.stays.turn owes.stays.due id all w _ refl refl h;
  credit = λ f owes id all w h. alike f owes.stays.turn owes.stays.due id all w _ refl refl h;
  part = λ f owes id s h. turned_ok id (changed_in f id s) (changed_ok f owes.stays id s h);
  gone_stops = λ codes all w h. kept all all w _ (λ order. order) (λ order j. refl) (λ order j q claim. claim) refl refl h;
}

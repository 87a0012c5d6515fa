-- What a change of one stream leaves of all others: which ids are in the sets, which streams there are, and whose turn it is
use Rattle.std.proofs.Common.{◌≡◌, ◌∙◌, ℕ, ◌==◌, Bool, true, false, cond, ◌||◌, List, [], ◌∷◌, Option, None, Some, is_some, ap, sym, subst, refl}
use Rattle.std.specs.Prelude.{ℤ}
use Rattle.std.specs.declared.cmp.Ordering.{Ordering}
use Rattle.std.specs.declared.cmp.Ordering.TheVariants.{Less, Equal, Greater}
use Rattle.std.specs.BTreeMap.{insert_entry, is_at}
use Rattle.std.specs.Map.{remove_entry}
use Rattle.std.specs.Option.{option_map}
use Rattle.std.specs.Ordering.{nat_cmp, match_ordering}
use Rattle.std.proofs.lemmas.Bool.{false≢true}
use Rattle.qc_turns.specs.Ids.{with_id, without_id}
use Rattle.qc_streams.specs.declared.state.StreamsState.{StreamsState}
use Rattle.qc_streams.specs.declared.stream.Stream.{Stream}
use Rattle.qc_streams.specs.declared.waiting.Dues.{Dues}
use Rattle.qc_streams.specs.declared.waiting.Waiting.{Waiting}
use Rattle.qc_streams.specs.Filed.{is_among, is_marked}
use Rattle.qc_streams.specs.Lending.{AllRecords}
use Rattle.qc_streams.specs.Records.{changed, on_some, record_of, with_new, without}
use Rattle.qc_streams.specs.Queues.{dues_at, dues_of, entered, left, left_from, put_if, sets_filed, turn_at, with_turn}
use Rattle.qc_streams.proofs.Keyed.{Ascends, ascends_gone, ascends_new, ascends_set, found, gone_here, gone_other, new_here, new_other, set_other}
use Rattle.qc_streams.proofs.Waits.{here}

-- ---- one set of ids

-- the set as a map that has nothing under its ids
abbrev pub as_map : List ℕ → List (ℕ × Unit {0})
as_map [] = []
as_map (x ∷ xs) = (x, tt) ∷ as_map xs

-- the ids ascend
abbrev pub Ascending : List ℕ → Type 0
Ascending ids = Ascends (as_map ids)

among_is : (id : ℕ) (ids : List ℕ) → is_among id ids ≡ is_some (found id (as_map ids))
among_is id [] = refl
among_is id (x ∷ xs) = by (is_at (nat_cmp id) x) (among_is id xs)
  where
    by : (b : Bool) → is_among id xs ≡ is_some (found id (as_map xs)) → (b || is_among id xs) ≡ is_some (cond b (Some tt) (found id (as_map xs)))
    by true then = refl
    by false then = then

with_is : (id : ℕ) (ids : List ℕ) → as_map (with_id id ids) ≡ insert_entry nat_cmp (as_map ids) id tt
with_is id [] = refl
with_is id (x ∷ xs) = by (nat_cmp id x) (with_is id xs)
  where
    by : (r : Ordering) → as_map (with_id id xs) ≡ insert_entry nat_cmp (as_map xs) id tt
        → as_map (match_ordering r (id ∷ x ∷ xs) (x ∷ xs) (x ∷ with_id id xs))
        ≡ match_ordering r ((id, tt) ∷ (x, tt) ∷ as_map xs) ((x, tt) ∷ as_map xs) ((x, tt) ∷ insert_entry nat_cmp (as_map xs) id tt)
    by Less then = refl
    by Equal then = refl
    by Greater then = ap (λ (es : List (ℕ × Unit {0})). (x, tt) ∷ es) then

without_is : (id : ℕ) (ids : List ℕ) → as_map (without_id id ids) ≡ remove_entry (is_at (nat_cmp id)) (as_map ids)
without_is id [] = refl
without_is id (x ∷ xs) = by (is_at (nat_cmp id) x) (without_is id xs)
  where
    by : (b : Bool) → as_map (without_id id xs) ≡ remove_entry (is_at (nat_cmp id)) (as_map xs)
        → as_map (cond b xs (x ∷ without_id id xs)) ≡ cond b (as_map xs) ((x, tt) ∷ remove_entry (is_at (nat_cmp id)) (as_map xs))
    by true then = refl
    by false then = ap (λ (es : List (ℕ × Unit {0})). (x, tt) ∷ es) then

seen : (j : ℕ) (ids : List ℕ) (es : List (ℕ × Unit {0})) → as_map ids ≡ es → is_among j ids ≡ is_some (found j es)
seen j ids es is = among_is j ids ∙ ap (λ (l : List (ℕ × Unit {0})). is_some (found j l)) is

-- an id that is put where it owes is there exactly where it owes
pub put_here : (owes : Bool) (id : ℕ) (ids : List ℕ) → Ascending ids → is_among id (put_if owes id ids) ≡ owes
put_here true id ids asc = seen id (with_id id ids) _ (with_is id ids) ∙ ap (λ (o : Option (Unit {0})). is_some o) (new_here id (as_map ids) tt)
put_here false id ids asc = seen id (without_id id ids) _ (without_is id ids) ∙ ap (λ (o : Option (Unit {0})). is_some o) (gone_here id (as_map ids) asc)

-- one id alone comes in or leaves
pub record Moved (id : ℕ) (ids ids' : List ℕ) : Type 0 where
  pub ascends : Ascending ids → Ascending ids'
  pub apart : (j : ℕ) → (id == j) ≡ false → is_among j ids' ≡ is_among j ids

pub stays : (id : ℕ) (ids : List ℕ) → Moved id ids ids
stays id ids = record { ascends = λ asc. asc; apart = λ j apart. refl }

moved : (id : ℕ) (ids ids' : List ℕ) (es : List (ℕ × Unit {0})) → as_map ids' ≡ es → (Ascending ids → Ascends es)
    → ((j : ℕ) → (id == j) ≡ false → found j es ≡ found j (as_map ids)) → Moved id ids ids'
moved id ids ids' es is order other = record {
  ascends = λ asc. subst (λ (l : List (ℕ × Unit {0})). Ascends l) (sym is) (order asc);
  apart = λ j apart. seen j ids' es is ∙ ap (λ (o : Option (Unit {0})). is_some o) (other j apart) ∙ sym (among_is j ids);
}

pub put : (owes : Bool) (id : ℕ) (ids : List ℕ) → Moved id ids (put_if owes id ids)
put true id ids = moved id ids (with_id id ids) _ (with_is id ids) (ascends_new id (as_map ids) tt) (λ j apart. new_other id j (as_map ids) tt apart)
put false id ids = moved id ids (without_id id ids) _ (without_is id ids) (ascends_gone id (as_map ids)) (λ j apart. gone_other id j (as_map ids) apart)

-- ---- the three sets

pub record Sets : Type 0 where
  pub resets : List ℕ
  pub stops : List ℕ
  pub credits : List ℕ

abbrev pub sets_of : Waiting → Sets
sets_of w = record { resets = w.resets; stops = w.stops; credits = w.credits }

-- the ids of each set ascend
pub record AllAscend (x : Sets) : Type 0 where
  pub resets : Ascending x.resets
  pub stops : Ascending x.stops
  pub credits : Ascending x.credits

-- a stream is in each set exactly where that is owed
pub record InSets (id : ℕ) (d : Dues) (x : Sets) : Type 0 where
  pub resets : is_among id x.resets ≡ d.reset
  pub stops : is_among id x.stops ≡ d.stop
  pub credits : is_among id x.credits ≡ d.credit

-- any other stream is in each set exactly where it was
pub record Beside (id : ℕ) (x y : Sets) : Type 0 where
  pub resets : Moved id x.resets y.resets
  pub stops : Moved id x.stops y.stops
  pub credits : Moved id x.credits y.credits

pub none_moves : (id : ℕ) (x : Sets) → Beside id x x
none_moves id x = record { resets = stays id x.resets; stops = stays id x.stops; credits = stays id x.credits }

pub sets_beside : (d : Dues) (id : ℕ) (w : Waiting) → Beside id (sets_of w) (sets_of (sets_filed d id w))
unfolding sets_filed
sets_beside d id w = record { resets = put d.reset id w.resets; stops = put d.stop id w.stops; credits = put d.credit id w.credits }

pub sets_here : (d : Dues) (id : ℕ) (w : Waiting) → AllAscend (sets_of w) → InSets id d (sets_of (sets_filed d id w))
unfolding sets_filed
sets_here d id w asc = record {
  resets = put_here d.reset id w.resets asc.resets;
  stops = put_here d.stop id w.stops asc.stops;
  credits = put_here d.credit id w.credits asc.credits;
}

-- ---- all streams but one

-- the others are as they were
pub record Others (id : ℕ) (all all' : AllRecords) : Type 0 where
  pub order : Ascends all → Ascends all'
  pub apart : (j : ℕ) → (id == j) ≡ false → record_of j all' ≡ record_of j all

pub none_changes : (id : ℕ) (all : AllRecords) → Others id all all
none_changes id all = record { order = λ asc. asc; apart = λ j apart. refl }

pub one_then : (id : ℕ) (all all' all'' : AllRecords) → Others id all all' → Others id all' all'' → Others id all all''
one_then id all all' all'' x y = record { order = λ asc. y.order (x.order asc); apart = λ j apart. y.apart j apart ∙ x.apart j apart }

pub one_changed : (f : Stream → Stream) (id : ℕ) (all : AllRecords) → Others id all (changed f id all)
one_changed f id all = by (record_of id all)
  where
    by : (o : Option Stream) → Others id all (on_some f id o all)
    by None = none_changes id all
    by (Some st) = record { order = ascends_set id all (f st); apart = λ j apart. set_other id j all (f st) apart }

pub one_new : (id : ℕ) (st : Stream) (all : AllRecords) → Others id all (with_new id st all)
one_new id st all = record { order = ascends_new id all st; apart = λ j apart. new_other id j all st apart }

pub one_gone : (id : ℕ) (all : AllRecords) → Others id all (without id all)
one_gone id all = record { order = ascends_gone id all; apart = λ j apart. gone_other id j all apart }

-- ---- the turn of one stream

-- a state is another but for the turn of one stream
pub record TurnOnly (id : ℕ) (s s' : StreamsState) : Type 0 where
  pub others : Others id s.records s'.records
  pub sets : sets_of s'.waiting ≡ sets_of s.waiting
  pub mark : is_marked (record_of id s'.records) ≡ is_marked (record_of id s.records)
  pub dues : dues_at (record_of id s'.records) ≡ dues_at (record_of id s.records)

pub same_turn : (id : ℕ) (s : StreamsState) → TurnOnly id s s
same_turn id s = record { others = none_changes id s.records; sets = refl; mark = refl; dues = refl }

pub turn_then : (id : ℕ) (s s' s'' : StreamsState) → TurnOnly id s s' → TurnOnly id s' s'' → TurnOnly id s s''
turn_then id s s' s'' x y = record {
  others = one_then id s.records s'.records s''.records x.others y.others;
  sets = y.sets ∙ x.sets;
  mark = y.mark ∙ x.mark;
  dues = y.dues ∙ x.dues;
}

turn_set : (turn : Option (ℤ × ℕ)) (ready : List ((ℤ × ℕ) × ℕ)) (turns id : ℕ) (s : StreamsState)
    → TurnOnly id s (record s { records = changed (with_turn turn) id s.records; waiting = record s.waiting { ready = ready; turns = turns } })
unfolding with_turn dues_of
turn_set turn ready turns id s = record {
  others = one_changed (with_turn turn) id s.records;
  sets = refl;
  mark = ap (λ (o : Option Stream). is_marked o) (here (with_turn turn) id s.records) ∙ mark (record_of id s.records);
  dues = ap (λ (o : Option Stream). dues_at o) (here (with_turn turn) id s.records) ∙ dues (record_of id s.records);
}
  where
    mark : (o : Option Stream) → is_marked (option_map (with_turn turn) o) ≡ is_marked o
    mark None = refl
    mark (Some st) = refl

    dues : (o : Option Stream) → dues_at (option_map (with_turn turn) o) ≡ dues_at o
    dues None = refl
    dues (Some st) = refl

pub left_only : (id : ℕ) (s : StreamsState) → TurnOnly id s (left id s)
unfolding left
left_only id s = by (turn_at (record_of id s.records))
  where
    by : (turn : Option (ℤ × ℕ)) → TurnOnly id s (left_from turn id s)
    by None = same_turn id s
    by (Some place) = turn_set None _ s.waiting.turns id s

pub entered_only : (place : ℤ × ℕ) (id : ℕ) (s : StreamsState) → TurnOnly id s (entered place id s)
unfolding entered
entered_only place id s = turn_set (Some place) _ _ id s

-- it has no turn then
pub left_turn : (id : ℕ) (s : StreamsState) → turn_at (record_of id (left id s).records) ≡ None
unfolding left with_turn
left_turn id s = by (turn_at (record_of id s.records)) refl
  where
    none : (o : Option Stream) → turn_at (option_map (with_turn None) o) ≡ None
    none None = refl
    none (Some st) = refl

    by : (turn : Option (ℤ × ℕ)) → turn_at (record_of id s.records) ≡ turn → turn_at (record_of id (left_from turn id s).records) ≡ None
    by None is = is
    by (Some place) is = ap (λ (o : Option Stream). turn_at o) (here (with_turn None) id s.records) ∙ none (record_of id s.records)

-- it has one then, where its bytes wait
pub entered_turn : (place : ℤ × ℕ) (id : ℕ) (s : StreamsState) → (dues_at (record_of id s.records)).bytes ≡ true
    → is_some (turn_at (record_of id (entered place id s).records)) ≡ true
unfolding entered with_turn
entered_turn place id s wait =
    ap (λ (o : Option Stream). is_some (turn_at o)) (here (with_turn (Some place)) id s.records) ∙ by (record_of id s.records) wait
  where
    by : (o : Option Stream) → (dues_at o).bytes ≡ true → is_some (turn_at (option_map (with_turn (Some place)) o)) ≡ true
    by None wait = absurd (false≢true wait)
    by (Some st) wait = refl

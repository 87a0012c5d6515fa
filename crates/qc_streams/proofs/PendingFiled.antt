-- What taking marks off leaves: what each stream owes, and what is owed besides
use Rattle.std.proofs.Common.{◌≡◌, ◌∙◌, ℕ, ℤ, ◌+◌, ◌-◌, ◌^◌, ◌<◌, min, Bool, true, false, List, [], ◌∷◌, Option, None, Some, arith, refl}
use Rattle.qc_streams.specs.declared.state.StreamsState.{StreamsState}
use Rattle.qc_streams.specs.declared.stream.Stream.{Stream}
use Rattle.qc_streams.specs.declared.waiting.Dues.{Dues}
use Rattle.qc_streams.specs.declared.waiting.Waiting.{Waiting}
use Rattle.qc_streams.specs.Counts.{saturated}
use Rattle.qc_streams.specs.Lending.{AllRecords}
use Rattle.qc_streams.specs.Queues.{all_filed, due_at, dues_at, dues_of, entered, filed, left, left_from, mark_off, next_place, or_next, placed, sets_filed, turn_at, turn_filed, with_mark, with_turn}
use Rattle.qc_streams.specs.Records.{changed, on_some, record_of}
use Rattle.qc_streams.proofs.Keyed.{set_alike}

-- one state owes what another does, and gave no fewer turns
pub record OwesAlike (s t : StreamsState) : Type 0 where
  pub dues : (j : ℕ) → dues_at (record_of j t.records) ≡ dues_at (record_of j s.records)
  pub gone : t.waiting.gone_stops ≡ s.waiting.gone_stops
  pub incoming : t.incoming ≡ s.incoming
  pub peer : t.peer ≡ s.peer
  pub turns : t.waiting.turns < 2 ^ 64 - 1 → s.waiting.turns < 2 ^ 64 - 1

alike_same : (s : StreamsState) → OwesAlike s s
alike_same s = record { dues = λ j. refl; gone = refl; incoming = refl; peer = refl; turns = λ fewer. fewer }

alike_then : (s t u : StreamsState) → OwesAlike s t → OwesAlike t u → OwesAlike s u
alike_then s t u x y = record {
  dues = λ j. y.dues j ∙ x.dues j;
  gone = y.gone ∙ x.gone;
  incoming = y.incoming ∙ x.incoming;
  peer = y.peer ∙ x.peer;
  turns = λ fewer. x.turns (y.turns fewer);
}

dues-in : (f : Stream → Stream) → ((st : Stream) → dues_of (f st) ≡ dues_of st) → (id j : ℕ) (all : AllRecords) (o : Option Stream) → record_of id all ≡ o
    → dues_at (record_of j (on_some f id o all)) ≡ dues_at (record_of j all)
dues-in f keeps id j all None is = refl
dues-in f keeps id j all (Some st) is = set_alike (λ (o : Option Stream). dues_at o) id j all st (f st) is (keeps st)

changes : (f : Stream → Stream) → ((st : Stream) → dues_of (f st) ≡ dues_of st) → (id : ℕ) (s : StreamsState) (w : Waiting)
    → w.gone_stops ≡ s.waiting.gone_stops → (w.turns < 2 ^ 64 - 1 → s.waiting.turns < 2 ^ 64 - 1)
    → OwesAlike s (record s { records = changed f id s.records; waiting = w })
changes f keeps id s w gone turns = record {
  dues = λ j. dues-in f keeps id j s.records (record_of id s.records) refl;
  gone = gone;
  incoming = refl;
  peer = refl;
  turns = turns;
}

mark_keeps : (b : Bool) (st : Stream) → dues_of (with_mark b st) ≡ dues_of st
unfolding dues_of with_mark
mark_keeps b st = refl

turn_keeps : (turn : Option (ℤ × ℕ)) (st : Stream) → dues_of (with_turn turn st) ≡ dues_of st
unfolding dues_of with_turn
turn_keeps turn st = refl

mark_off_alike : (id : ℕ) (s : StreamsState) → OwesAlike s (mark_off id s)
unfolding mark_off
mark_off_alike id s = changes (with_mark false) (mark_keeps false) id s _ refl (λ fewer. fewer)

sets_alike : (d : Dues) (id : ℕ) (s : StreamsState) → OwesAlike s (record s { waiting = sets_filed d id s.waiting })
unfolding sets_filed
sets_alike d id s = record { dues = λ j. refl; gone = refl; incoming = refl; peer = refl; turns = λ fewer. fewer }

below_limit : (n m : ℕ) → min (n + 1) m < m → n < m
below_limit n m fewer = omega (arith, fewer)

fewer_before : (n : ℕ) → saturated (n + 1) < 2 ^ 64 - 1 → n < 2 ^ 64 - 1
unfolding saturated
fewer_before n fewer = below_limit n (2 ^ 64 - 1) fewer

entered_alike : (place : ℤ × ℕ) (id : ℕ) (s : StreamsState) → OwesAlike s (entered place id s)
unfolding entered
entered_alike place id s = changes (with_turn (Some place)) (turn_keeps (Some place)) id s _ refl (fewer_before s.waiting.turns)

left_from_alike : (turn : Option (ℤ × ℕ)) (id : ℕ) (s : StreamsState) → OwesAlike s (left_from turn id s)
left_from_alike None id s = alike_same s
left_from_alike (Some place) id s = changes (with_turn None) (turn_keeps None) id s _ refl (λ fewer. fewer)

left_alike : (id : ℕ) (s : StreamsState) → OwesAlike s (left id s)
unfolding left
left_alike id s = left_from_alike (turn_at (record_of id s.records)) id s

turn_alike : (owes : Bool) (turn : Option (ℤ × ℕ)) (id : ℕ) (s : StreamsState) → OwesAlike s (turn_filed owes turn id s)
turn_alike true None id s = entered_alike (or_next (due_at (record_of id s.records)) (next_place id s)) id s
turn_alike true (Some place) id s = alike_same s
turn_alike false turn id s = left_alike id s

placed_alike : (id : ℕ) (s : StreamsState) → OwesAlike s (placed id s)
unfolding placed
placed_alike id s =
    let d : Dues = dues_at (record_of id s.records) in
    let t : StreamsState = record s { waiting = sets_filed d id s.waiting } in
    alike_then s t (turn_filed d.bytes (turn_at (record_of id s.records)) id t) (sets_alike d id s) (turn_alike d.bytes (turn_at (record_of id s.records)) id t)

filed_alike : (id : ℕ) (s : StreamsState) → OwesAlike s (filed id s)
unfolding filed
filed_alike id s = alike_then s (mark_off id s) (placed id (mark_off id s)) (mark_off_alike id s) (placed_alike id (mark_off id s))

pub all_filed_alike : (ids : List ℕ) (s : StreamsState) → OwesAlike s (all_filed ids s)
unfolding all_filed
all_filed_alike [] s = alike_same s
all_filed_alike (id ∷ ids) s = alike_then s (filed id s) (all_filed ids (filed id s)) (filed_alike id s) (all_filed_alike ids (filed id s))

-- What a stream owes is put where it waits by one look at it
use Rattle.std.proofs.Common.{◌≡◌, ◌∙◌, ℕ, Bool, true, false, Option, None, Some, is_some, ap, subst, refl}
use Rattle.std.specs.Prelude.{ℤ, neg_ℤ}
use Rattle.std.specs.BTreeMap.{is_at}
use Rattle.std.specs.Ordering.{nat_cmp}
use Rattle.qc_streams.specs.declared.state.StreamsState.{StreamsState}
use Rattle.qc_streams.specs.declared.stream.Stream.{Stream}
use Rattle.qc_streams.specs.declared.waiting.Waiting.{Waiting}
use Rattle.qc_streams.specs.Lending.{AllRecords}
use Rattle.qc_streams.specs.Records.{changed, on_some, record_of, with_record}
use Rattle.qc_streams.specs.Queues.{due_at, dues_at, dues_of, entered, file_one, filed, filed_turn, left, left_from, mark_off, mark_taken, next_place, or_next, place_behind, placed, priority_at, sets_filed, turn_at, turn_filed, turn_moved, with_mark, with_turn}
use Rattle.qc_streams.proofs.Keyed.{set_here}
use Rattle.qc_streams.proofs.Sequels.{set_twice}

-- the state, with these records and what waits
unfoldable pub with_both : AllRecords → Waiting → StreamsState → StreamsState
with_both all w s = record s { records = all; waiting = w }

-- `placed` of a stream that is known
placed_at : Option Stream → ℕ → StreamsState → StreamsState
placed_at o id s = turn_filed (dues_at o).bytes (turn_at o) id (record s { waiting = sets_filed (dues_at o) id s.waiting })

placed_is : (o : Option Stream) (id : ℕ) (s : StreamsState) → record_of id s.records ≡ o → placed id s ≡ placed_at o id s
unfolding placed placed_at
placed_is o id s is = subst (λ (x : Option Stream). placed id s ≡ placed_at x id s) is refl

-- a place is taken
pub entered_is : (w : Stream) (place : ℤ × ℕ) (id : ℕ) (s : StreamsState) → record_of id s.records ≡ Some w
    → entered place id s ≡ with_both (with_record id (with_turn (Some place) w) s.records) (turn_moved true None place id s.waiting) s
unfolding entered with_both
entered_is w place id s is =
    ap (λ (o : Option Stream). with_both (on_some (with_turn (Some place)) id o s.records) (turn_moved true None place id s.waiting) s) is

-- a place is given up
pub left_is : (w : Stream) (place : ℤ × ℕ) (id : ℕ) (s : StreamsState) → record_of id s.records ≡ Some w → w.turn ≡ Some place
    → left id s ≡ with_both (with_record id (with_turn None w) s.records) (turn_moved false (Some place) place id s.waiting) s
unfolding left with_both
left_is w place id s is has =
    ap (λ (o : Option Stream). left_from (turn_at o) id s) is
    ∙ ap (λ (t : Option (ℤ × ℕ)). left_from t id s) has
    ∙ ap (λ (o : Option Stream). with_both (on_some (with_turn None) id o s.records) (turn_moved false (Some place) place id s.waiting) s) is

-- no place is given up
pub kept_out : (w : Stream) (id : ℕ) (s : StreamsState) → record_of id s.records ≡ Some w → w.turn ≡ None → left id s ≡ s
unfolding left
kept_out w id s is none =
    ap (λ (o : Option Stream). left_from (turn_at o) id s) is ∙ ap (λ (t : Option (ℤ × ℕ)). left_from t id s) none

-- where the stream `w` is found that was put in place of another, it goes on in its stead
moved : (owes : Bool) (turn : Option (ℤ × ℕ)) (w : Stream) (id : ℕ) (all : AllRecords) (wait : Waiting) (s : StreamsState) → w.turn ≡ turn
    → record_of id (with_record id w all) ≡ Some w
    → turn_filed owes turn id (with_both (with_record id w all) wait s)
    ≡ with_both (with_record id (filed_turn owes turn (or_next w.due (neg_ℤ w.priority, wait.turns)) w) all)
    (turn_moved owes turn (or_next w.due (neg_ℤ w.priority, wait.turns)) id wait) s
unfolding with_both next_place
moved true None w id all wait s has is =
    let place : ℤ × ℕ = or_next w.due (neg_ℤ w.priority, wait.turns) in
    ap (λ (o : Option Stream). entered (or_next (due_at o) (neg_ℤ (priority_at o), wait.turns)) id (with_both (with_record id w all) wait s)) is
    ∙ entered_is w place id (with_both (with_record id w all) wait s) is
    ∙ ap (λ (l : AllRecords). with_both l (turn_moved true None place id wait) s) (set_twice (is_at (nat_cmp id)) all w (with_turn (Some place) w))
moved true (Some place) w id all wait s has is = refl
moved false None w id all wait s has is = kept_out w id (with_both (with_record id w all) wait s) is has
moved false (Some place) w id all wait s has is =
    left_is w place id (with_both (with_record id w all) wait s) is has
    ∙ ap (λ (l : AllRecords). with_both l (turn_moved false (Some place) place id wait) s) (set_twice (is_at (nat_cmp id)) all w (with_turn None w))

same_dues : (st : Stream) → dues_of (with_mark false st) ≡ dues_of st
unfolding dues_of with_mark
same_dues st = refl

file_with : Option Stream → ℕ → StreamsState → StreamsState
file_with o id s =
    with_both (on_some (file_one s.waiting.turns) id o s.records)
    (turn_moved (dues_at o).bytes (turn_at o) (place_behind s.waiting.turns o) id (sets_filed (dues_at o) id (mark_taken (is_some o) s.waiting))) s

filed_as : (o : Option Stream) (id : ℕ) (s : StreamsState) → record_of id s.records ≡ o → filed id s ≡ file_with o id s
unfolding filed file_with mark_off with_both with_mark file_one sets_filed placed_at dues_of left
filed_as None id s is =
    ap (λ (o : Option Stream). placed id (with_both (on_some (with_mark false) id o s.records) (mark_taken (is_some o) s.waiting) s)) is
    ∙ placed_is None id (with_both s.records (mark_taken false s.waiting) s) is
    ∙ ap (λ (o : Option Stream). left_from (turn_at o) id (with_both s.records (sets_filed (dues_at None) id (mark_taken false s.waiting)) s)) is
filed_as (Some st) id s is =
    let here : record_of id (with_record id (with_mark false st) s.records) ≡ Some (with_mark false st) = set_here id s.records st (with_mark false st) is in
    ap (λ (o : Option Stream). placed id (with_both (on_some (with_mark false) id o s.records) (mark_taken (is_some o) s.waiting) s)) is
    ∙ placed_is (Some (with_mark false st)) id (with_both (with_record id (with_mark false st) s.records) (mark_taken true s.waiting) s) here
    ∙ moved (dues_of st).bytes st.turn (with_mark false st) id s.records (sets_filed (dues_of st) id (mark_taken true s.waiting)) s refl here

-- what a stream owes is put where it waits
pub filed_so : (id : ℕ) (s : StreamsState)
    → filed id s
    ≡ record s {
      records = changed (file_one s.waiting.turns) id s.records;
      waiting = turn_moved (dues_at (record_of id s.records)).bytes (turn_at (record_of id s.records)) (place_behind s.waiting.turns (record_of id s.records)) id
          (sets_filed (dues_at (record_of id s.records)) id (mark_taken (is_some (record_of id s.records)) s.waiting));
    }
unfolding file_with with_both
filed_so id s = filed_as (record_of id s.records) id s refl

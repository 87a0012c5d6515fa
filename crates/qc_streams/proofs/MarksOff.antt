-- Marks are taken off one after the other
use Rattle.std.proofs.Common.{◌≡◌, ◌∙◌, ℕ, ◌<◌, Bool, true, false, cond, List, [], ◌∷◌, length, drop, Option, None, Some, is_some, ap, sym, arith, refl}
use Rattle.std.specs.Prelude.{ℤ}
use Rattle.qc_turns.specs.Marks.{MarkList, first_mark, unmarked, place_dropped}
use Rattle.qc_streams.specs.declared.state.StreamsState.{StreamsState}
use Rattle.qc_streams.specs.Records.{record_of}
use Rattle.qc_streams.specs.Queues.{all_filed, dues_at, entered, filed, left, left_from, mark_off, placed, sets_filed, turn_at, turn_filed}

left_from_marks : (turn : Option (ℤ × ℕ)) (id : ℕ) (s : StreamsState) → (left_from turn id s).waiting.marks ≡ s.waiting.marks
left_from_marks None id s = refl
left_from_marks (Some place) id s = refl

left_marks : (id : ℕ) (s : StreamsState) → (left id s).waiting.marks ≡ s.waiting.marks
unfolding left
left_marks id s = left_from_marks (turn_at (record_of id s.records)) id s

turn_marks : (owes : Bool) (turn : Option (ℤ × ℕ)) (id : ℕ) (s : StreamsState) → (turn_filed owes turn id s).waiting.marks ≡ s.waiting.marks
unfolding entered
turn_marks true None id s = refl
turn_marks true (Some place) id s = refl
turn_marks false turn id s = left_marks id s

placed_marks : (id : ℕ) (s : StreamsState) → (placed id s).waiting.marks ≡ s.waiting.marks
unfolding placed sets_filed
placed_marks id s =
    turn_marks (dues_at (record_of id s.records)).bytes (turn_at (record_of id s.records)) id
    (record s { waiting = sets_filed (dues_at (record_of id s.records)) id s.waiting })

off_ids : (b : Bool) (m : MarkList) → (cond b (unmarked m) (place_dropped (unmarked m))).ids ≡ drop 1 m.ids
unfolding unmarked place_dropped
off_ids true m = refl
off_ids false m = refl

mark_off_ids : (id : ℕ) (s : StreamsState) → (mark_off id s).waiting.marks.ids ≡ drop 1 s.waiting.marks.ids
unfolding mark_off
mark_off_ids id s = off_ids (is_some (record_of id s.records)) s.waiting.marks

pub filed_ids : (id : ℕ) (s : StreamsState) → (filed id s).waiting.marks.ids ≡ drop 1 s.waiting.marks.ids
unfolding filed
filed_ids id s = ap (λ (m : MarkList). m.ids) (placed_marks id (mark_off id s)) ∙ mark_off_ids id s

first_is : (id : ℕ) (ids : List ℕ) → first_mark ids ≡ Some id → ids ≡ id ∷ drop 1 ids
first_is id [] is = absurd (cc)
first_is id (x ∷ xs) is = cc

rest_filed : (id : ℕ) (ids : List ℕ) (s : StreamsState) → all_filed (id ∷ ids) s ≡ all_filed ids (filed id s)
unfolding all_filed
rest_filed id ids s = refl

pub one_filed : (id : ℕ) (s t : StreamsState) → first_mark s.waiting.marks.ids ≡ Some id → t ≡ filed id s
    → all_filed t.waiting.marks.ids t ≡ all_filed s.waiting.marks.ids s
one_filed id s t is now =
    ap (λ (x : StreamsState). all_filed x.waiting.marks.ids x) now
    ∙ ap (λ (l : List ℕ). all_filed l (filed id s)) (filed_ids id s)
    ∙ sym (rest_filed id (drop 1 s.waiting.marks.ids) s)
    ∙ ap (λ (l : List ℕ). all_filed l s) (sym (first_is id s.waiting.marks.ids is))

pub one_less : (id : ℕ) (s t : StreamsState) → first_mark s.waiting.marks.ids ≡ Some id → t ≡ filed id s
    → length t.waiting.marks.ids < length s.waiting.marks.ids
one_less id s t is now =
    omega (
      arith,
      ap (λ (x : StreamsState). length x.waiting.marks.ids) now,
      ap (λ (l : List ℕ). length l) (filed_ids id s),
      ap (λ (l : List ℕ). length l) (first_is id s.waiting.marks.ids is),
    )

none_left : (ids : List ℕ) (s : StreamsState) → first_mark ids ≡ None → all_filed ids s ≡ s
unfolding all_filed
none_left [] s is = refl
none_left (x ∷ xs) s is = absurd (cc)

pub none_filed : (s : StreamsState) → first_mark s.waiting.marks.ids ≡ None → all_filed s.waiting.marks.ids s ≡ s
none_filed s is = none_left s.waiting.marks.ids s is

-- A place that is made and given up again
use Rattle.std.proofs.Common.{◌≡◌, ◌∙◌, ℕ, ◌+◌, ◌-◌, ap, arith}
use Rattle.qc_turns.specs.Marks.{MarkList, place_added, place_dropped}
use Rattle.qc_streams.specs.declared.state.StreamsState.{StreamsState}
use Rattle.qc_streams.specs.Lending.{AllRecords}

made_and_left : (m made now : MarkList) → made ≡ place_added m → now ≡ place_dropped made → now ≡ m
unfolding place_added place_dropped
made_and_left m made now is gone =
    let back : m.free + 1 - 1 ≡ m.free = omega arith in
    gone ∙ ap (λ (x : MarkList). place_dropped x) is ∙ ap (λ (n : ℕ). (let x : MarkList = record m { free = n } in x)) back

pub add_undone : (s : StreamsState) (r : AllRecords) (made m : MarkList) → r ≡ s.records → made ≡ place_added s.waiting.marks → m ≡ place_dropped made
    → (let t : StreamsState = record s { records = r; waiting = record s.waiting { marks = m } } in t) ≡ s
add_undone s r made m same is gone =
    ap (λ (x : AllRecords). (let t : StreamsState = record s { records = x; waiting = record s.waiting { marks = m } } in t)) same
    ∙ ap (λ (x : MarkList). (let t : StreamsState = record s { waiting = record s.waiting { marks = x } } in t)) (made_and_left s.waiting.marks made m is gone)

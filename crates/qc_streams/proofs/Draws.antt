-- A part of a stream is drawn, and its turn is passed on, by one look at it
use Rattle.std.proofs.Common.{◌≡◌, ◌∙◌, ℕ, Bool, true, false, if◌then◌else◌, Option, None, Some, ap, sym, subst, refl}
use Rattle.std.specs.Prelude.{ℤ, neg_ℤ}
use Rattle.std.specs.BTreeMap.{is_at}
use Rattle.std.specs.Ordering.{nat_cmp}
use Rattle.qc_send_stream.specs.declared.send.Part.{Part}
use Rattle.qc_streams.specs.declared.parts.Drawn.{Drawn}
use Rattle.qc_streams.specs.declared.state.StreamsState.{StreamsState}
use Rattle.qc_streams.specs.declared.stream.Stream.{Stream}
use Rattle.qc_streams.specs.declared.waiting.Waiting.{Waiting}
use Rattle.qc_streams.specs.Lending.{AllRecords}
use Rattle.qc_streams.specs.StreamBytes.{IsTurnAt, IsTurnOf, draw_one, drawn_turn, first_rank, place_after, place_again, seal_one, sealed_part, turn_left, turn_taken, turned}
use Rattle.qc_streams.specs.Records.{changed, on_some, record_of, with_record}
use Rattle.qc_streams.specs.Stream.{with_sending}
use Rattle.qc_streams.specs.Queues.{dues_at, dues_of, entered, left, next_place, priority_at, with_turn}
use Rattle.qc_streams.proofs.Filings.{entered_is, kept_out, left_is, with_both}
use Rattle.qc_streams.proofs.Keyed.{set_here}
use Rattle.qc_streams.proofs.Sequels.{set_twice}

-- a stream that has more takes another turn
turned_on : Bool → ℕ → StreamsState → StreamsState
turned_on owes id s = if owes then entered (place_again id s) id s else s

again : (owes : Bool) (v : Stream) (id : ℕ) (all : AllRecords) (wait : Waiting) (s : StreamsState)
    → record_of id (with_record id v all) ≡ Some v
    → turned_on owes id (with_both (with_record id v all) wait s)
    ≡ with_both (with_record id (if owes then with_turn (Some (place_after s.fair wait.turns v.priority)) v else v) all)
    (turn_taken owes (place_after s.fair wait.turns v.priority) id wait) s
unfolding turned_on with_both place_again next_place
again false v id all wait s here = refl
again true v id all wait s here =
    ap (λ (o : Option Stream). entered (if s.fair then (neg_ℤ (priority_at o), wait.turns) else (first_rank, wait.turns)) id (with_both (with_record id v all) wait s)) here
    ∙ entered_is v (place_after s.fair wait.turns v.priority) id (with_both (with_record id v all) wait s) here
    ∙ ap (λ (l : AllRecords). with_both l (turn_taken true (place_after s.fair wait.turns v.priority) id wait) s)
    (set_twice (is_at (nat_cmp id)) all v (with_turn (Some (place_after s.fair wait.turns v.priority)) v))

-- the place that a stream without one is given, or none
none_or : (owes : Bool) (place : ℤ × ℕ) (w : Stream) → (if owes then with_turn (Some place) w else w) ≡ drawn_turn owes None place w
none_or true place w = refl
none_or false place w = refl

other_or : (owes : Bool) (before place : ℤ × ℕ) (w : Stream)
    → (if owes then with_turn (Some place) (with_turn None w) else with_turn None w) ≡ drawn_turn owes (Some before) place w
unfolding with_turn
other_or true before place w = refl
other_or false before place w = refl

passed_on : (owes : Bool) (turn : Option (ℤ × ℕ)) (w : Stream) (id : ℕ) (all : AllRecords) (wait : Waiting) (s : StreamsState) → w.turn ≡ turn
    → ((v : Stream) → record_of id (with_record id v all) ≡ Some v)
    → turned_on owes id (left id (with_both (with_record id w all) wait s))
    ≡ with_both (with_record id (drawn_turn owes turn (place_after s.fair wait.turns w.priority) w) all)
    (turn_taken owes (place_after s.fair wait.turns w.priority) id (turn_left turn wait)) s
unfolding with_both with_turn
passed_on owes None w id all wait s has here =
    ap (λ (t : StreamsState). turned_on owes id t) (kept_out w id (with_both (with_record id w all) wait s) (here w) has)
    ∙ again owes w id all wait s (here w)
    ∙ ap (λ (x : Stream). with_both (with_record id x all) (turn_taken owes (place_after s.fair wait.turns w.priority) id wait) s)
    (none_or owes (place_after s.fair wait.turns w.priority) w)
passed_on owes (Some place) w id all wait s has here =
    ap (λ (t : StreamsState). turned_on owes id t)
    (left_is w place id (with_both (with_record id w all) wait s) (here w) has
    ∙ ap (λ (l : AllRecords). with_both l (turn_left (Some place) wait) s) (set_twice (is_at (nat_cmp id)) all w (with_turn None w)))
    ∙ again owes (with_turn None w) id all (turn_left (Some place) wait) s (here (with_turn None w))
    ∙ ap (λ (x : Stream). with_both (with_record id x all) (turn_taken owes (place_after s.fair wait.turns w.priority) id (turn_left (Some place) wait)) s)
    (other_or owes place (place_after s.fair wait.turns w.priority) w)

turned_is : (o : Option Stream) (id : ℕ) (s : StreamsState) → record_of id s.records ≡ o → turned id s ≡ turned_on (dues_at o).bytes id (left id s)
unfolding turned turned_on
turned_is o id s is = ap (λ (x : Option Stream). turned_on (dues_at x).bytes id (left id s)) is

drawn_as : (part : Part) (id : ℕ) (s : StreamsState) (st : Stream) → record_of id s.records ≡ Some st
    → sealed_part (record { id = id; part = part }) s
    ≡ with_both (with_record id (draw_one s.fair s.waiting.turns part st) s.records)
    (turn_taken (dues_of (seal_one part st)).bytes (place_after s.fair s.waiting.turns st.priority) id (turn_left st.turn s.waiting)) s
unfolding sealed_part seal_one draw_one with_both with_sending
drawn_as part id s st is =
    let w : Stream = seal_one part st in
    let here : (v : Stream) → record_of id (with_record id v s.records) ≡ Some v = (λ (v : Stream). set_here id s.records st v is) in
    ap (λ (o : Option Stream). turned id (with_both (on_some (seal_one part) id o s.records) s.waiting s)) is
    ∙ turned_is (Some w) id (with_both (with_record id w s.records) s.waiting s) (here w)
    ∙ passed_on (dues_of w).bytes st.turn w id s.records s.waiting s refl here

-- the same, by what is told of it
told_as : (d : Drawn) (id : ℕ) (s : StreamsState) (o : Option Stream) → record_of id s.records ≡ o → IsTurnAt s.fair s.waiting.turns o d
    → with_both (on_some (draw_one s.fair s.waiting.turns d.part) id o s.records) (turn_taken d.owes d.next id (turn_left d.turn s.waiting)) s
    ≡ sealed_part (record { id = id; part = d.part }) s
told_as d id s None is turn = absurd turn
told_as d id s (Some st) is turn =
    let all : AllRecords = with_record id (draw_one s.fair s.waiting.turns d.part st) s.records in
    ap (λ (b : Bool). with_both all (turn_taken b d.next id (turn_left d.turn s.waiting)) s) turn.owes
    ∙ ap (λ (p : ℤ × ℕ). with_both all (turn_taken (dues_of (seal_one d.part st)).bytes p id (turn_left d.turn s.waiting)) s) turn.next
    ∙ ap
    (λ (t : Option (ℤ × ℕ)). with_both all
    (turn_taken (dues_of (seal_one d.part st)).bytes (place_after s.fair s.waiting.turns st.priority) id (turn_left t s.waiting)) s) turn.turn
    ∙ sym (drawn_as d.part id s st is)

-- a part of a stream is drawn
pub drawn_so : (d : Drawn) (id : ℕ) (s : StreamsState) (all : AllRecords) (wait : Waiting)
    → IsTurnAt s.fair s.waiting.turns (record_of id s.records) d → all ≡ changed (draw_one s.fair s.waiting.turns d.part) id s.records
    → wait ≡ turn_taken d.owes d.next id (turn_left d.turn s.waiting)
    → (let t : StreamsState = record s { records = all; waiting = wait } in t) ≡ sealed_part (record { id = id; part = d.part }) s
unfolding with_both
drawn_so d id s all wait turn changes passes =
    ap (λ (l : AllRecords). with_both l wait s) changes
    ∙ ap (λ (w : Waiting). with_both (changed (draw_one s.fair s.waiting.turns d.part) id s.records) w s) passes
    ∙ told_as d id s (record_of id s.records) refl turn

-- what is told of a stream is told of the one under its id
pub turn_so : (fair : Bool) (turns : ℕ) (o : Option Stream) (st : Stream) (d : Drawn) → o ≡ Some st → IsTurnOf fair turns st d → IsTurnAt fair turns o d
turn_so fair turns o st d is turn = subst (λ (x : Option Stream). IsTurnAt fair turns x d) (sym is) turn

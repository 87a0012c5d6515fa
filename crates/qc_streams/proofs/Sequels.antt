-- A stream that is changed and settled by one look at it
use Rattle.std.proofs.Common.{◌≡◌, ◌∙◌, ℕ, ◌+◌, Bool, true, false, cond, if◌then◌else◌, not, ◌&&◌, List, [], ◌∷◌, take, Option, None, Some, ap, subst, refl}
use Rattle.std.specs.BTreeMap.{is_at}
use Rattle.std.specs.Map.{set_value}
use Rattle.std.specs.Option.{option_map}
use Rattle.std.specs.Ordering.{nat_cmp}
use Rattle.qc_recv.specs.declared.recv.Recv.{Recv}
use Rattle.qc_turns.specs.Marks.{marked}
use Rattle.qc_streams.specs.declared.credit.Incoming.{Incoming}
use Rattle.qc_streams.specs.declared.sequel.Sequel.TheVariants.{Leaves, Lingers, Marks, Nothing}
use Rattle.qc_streams.specs.declared.state.StreamsState.{StreamsState}
use Rattle.qc_streams.specs.declared.stream.Stream.{Stream}
use Rattle.qc_send_stream.specs.Sending.{part_acked, part_written}
use Rattle.qc_streams.specs.declared.events.StreamEvent.TheVariants.{Finished}
use Rattle.qc_streams.specs.Blocked.{without_blocked}
use Rattle.qc_streams.specs.Calls.{gives, if_known, wrote}
use Rattle.qc_streams.specs.Credit.{outgoing_written, tallied}
use Rattle.qc_streams.specs.Lending.{AllRecords}
use Rattle.qc_streams.specs.Records.{changed, on_some, record_of, with_record}
use Rattle.qc_streams.specs.Sequel.{followed, looked_at, queueing, sequel_at, sequel_of, settling, write_followed}
use Rattle.qc_streams.specs.StreamBytes.{bytes_acked, bytes_gone, bytes_taken, finished_at, finishes}
use Rattle.qc_streams.specs.Stream.{has_ended, is_over, totals_at, totals_if, with_receiving, with_sending}
use Rattle.qc_streams.specs.Streams.{counted, lingering, released, settled, stops_later, told_if}
use Rattle.qc_streams.specs.Counts.{saturated}
use Rattle.qc_streams.specs.Queues.{is_idle, owes_stop, queue_one, queued, takes_number, touched, with_mark}
use Rattle.qc_streams.specs.Writable.{credit_at, passed, writables_told}
use Rattle.qc_streams.proofs.Keyed.{set_here}

-- ---- a value that is set twice

taken : {X : Type 0} (b : Bool) (x y : X) → b ≡ true → cond b x y ≡ x
taken true x y is = refl
taken false x y is = absurd (cc)

other : {X : Type 0} (b : Bool) (x y : X) → b ≡ false → cond b x y ≡ y
other true x y is = absurd (cc)
other false x y is = refl

twice_step : {X : Type 0} (b : Bool) (test : ℕ → Bool) (e : ℕ × X) (es rest : List (ℕ × X)) (v w : X) → test e.0 ≡ b
    → set_value test rest w ≡ set_value test es w
    → set_value test (cond b ((e.0, v) ∷ es) (e ∷ rest)) w ≡ cond b ((e.0, w) ∷ es) (e ∷ set_value test es w)
twice_step true test e es rest v w at same = taken (test e.0) ((e.0, w) ∷ es) ((e.0, v) ∷ set_value test es w) at
twice_step {X = X} false test e es rest v w at same =
    other (test e.0) ((e.0, w) ∷ rest) (e ∷ set_value test rest w) at ∙ ap (λ (l : List (ℕ × X)). e ∷ l) same

pub set_twice : {X : Type 0} (test : ℕ → Bool) (es : List (ℕ × X)) (v w : X) → set_value test (set_value test es v) w ≡ set_value test es w
set_twice test [] v w = refl
set_twice test (e ∷ es) v w = twice_step (test e.0) test e es (set_value test es v) v w refl (set_twice test es v w)

-- a stream that changes twice changes once
twice_as : (f g : Stream → Stream) (id : ℕ) (all : AllRecords) (o : Option Stream) → record_of id all ≡ o
    → changed g id (on_some f id o all) ≡ on_some (λ st. g (f st)) id o all
twice_as f g id all None is = ap (λ (o : Option Stream). on_some g id o all) is
twice_as f g id all (Some st) is =
    ap (λ (o : Option Stream). on_some g id o (with_record id (f st) all)) (set_here id all st (f st) is)
    ∙ set_twice (is_at (nat_cmp id)) all (f st) (g (f st))

pub changed_twice : (f g : Stream → Stream) (id : ℕ) (all : AllRecords) → changed g id (changed f id all) ≡ changed (λ st. g (f st)) id all
changed_twice f g id all = twice_as f g id all (record_of id all) refl

-- what a stream is after a change
found_as : (f : Stream → Stream) (id : ℕ) (all : AllRecords) (o : Option Stream) → record_of id all ≡ o
    → record_of id (on_some f id o all) ≡ option_map f o
found_as f id all None is = is
found_as f id all (Some st) is = set_here id all st (f st) is

pub found_so : (f : Stream → Stream) (id : ℕ) (all : AllRecords) → record_of id (changed f id all) ≡ option_map f (record_of id all)
found_so f id all = found_as f id all (record_of id all) refl

-- ---- a stream is settled

settled_at : (o : Option Stream) → ℕ → StreamsState → StreamsState
settled_at o id s =
    if has_ended o then (if stops_later o then lingering id s else released id s)
    else record s {
      records = on_some (with_mark true) id o s.records;
      waiting = record s.waiting { marks = if is_idle o then marked id s.waiting.marks else s.waiting.marks };
    }

settled_is : (o : Option Stream) (id : ℕ) (s : StreamsState) → record_of id s.records ≡ o → settled id s ≡ settled_at o id s
unfolding settled settled_at touched
settled_is o id s is = subst (λ (x : Option Stream). settled id s ≡ settled_at x id s) is refl

with_all : AllRecords → StreamsState → StreamsState
with_all all s = record s { records = all }

by_flags : (over stops marked_before : Bool) (w : Stream) (id : ℕ) (s : StreamsState)
    → (if over then (if stops then lingering id (with_all (with_record id w s.records) s) else released id (with_all (with_record id w s.records) s))
    else record s {
      records = with_record id (with_mark true w) s.records;
      waiting = record s.waiting { marks = if not marked_before then marked id s.waiting.marks else s.waiting.marks };
    })
    ≡ followed (if over then (if stops then Lingers else Leaves) else if marked_before then Nothing else Marks) id
    (with_all (with_record id (if over then w else with_mark true w) s.records) s)
unfolding with_all
by_flags true true m w id s = refl
by_flags true false m w id s = refl
by_flags false c true w id s = refl
by_flags false c false w id s = refl

some_settled : (w st : Stream) (id : ℕ) (s : StreamsState) → record_of id s.records ≡ Some st
    → settled id (with_all (with_record id w s.records) s) ≡ followed (sequel_of w) id (with_all (with_record id (looked_at w) s.records) s)
unfolding with_all settled_at sequel_of looked_at
some_settled w st id s is =
    settled_is (Some w) id (with_all (with_record id w s.records) s) (set_here id s.records st w is)
    ∙ ap
    (λ (l : AllRecords). (if is_over w then (if owes_stop w.receiving then lingering id (with_all (with_record id w s.records) s)
    else released id (with_all (with_record id w s.records) s))
    else record s {
      records = l;
      waiting = record s.waiting { marks = if not w.marked then marked id s.waiting.marks else s.waiting.marks };
    })) (set_twice (is_at (nat_cmp id)) s.records w (with_mark true w))
    ∙ by_flags (is_over w) (owes_stop w.receiving) w.marked w id s

settled_as : (f : Stream → Stream) (id : ℕ) (s : StreamsState) (o : Option Stream) → record_of id s.records ≡ o
    → settled id (with_all (on_some f id o s.records) s)
    ≡ followed (sequel_at (option_map f o)) id (with_all (on_some (settling f) id o s.records) s)
unfolding with_all settled_at settling
settled_as f id s None is = settled_is None id s is
settled_as f id s (Some st) is = some_settled (f st) st id s is

-- a stream that is changed and settled is looked at once
pub settled_so : (f : Stream → Stream) (id : ℕ) (s : StreamsState)
    → settled id (record s { records = changed f id s.records })
    ≡ followed (sequel_at (option_map f (record_of id s.records))) id (record s { records = changed (settling f) id s.records })
unfolding with_all
settled_so f id s = settled_as f id s (record_of id s.records) refl

-- the same, with the connection's credit
pub gives_so : (f : Recv → Recv) (id : ℕ) (s : StreamsState)
    → gives f id s
    ≡ followed (sequel_at (option_map (with_receiving f) (record_of id s.records))) id (record s {
      records = changed (settling (with_receiving f)) id s.records;
      incoming = tallied (totals_at id s.records) (totals_if (option_map (with_receiving f) (record_of id s.records))) s.incoming;
    })
unfolding gives counted totals_at
gives_so f id s =
    let tally : Option Stream → Incoming = (λ (o : Option Stream). tallied (totals_if (record_of id s.records)) (totals_if o) s.incoming) in
    let at : Option Stream → StreamsState = (λ (o : Option Stream). (let t : StreamsState = record s { incoming = tally o } in t)) in
    ap (λ (o : Option Stream). settled id (record (at o) { records = changed (with_receiving f) id s.records })) (found_so (with_receiving f) id s.records)
    ∙ settled_so (with_receiving f) id (at (option_map (with_receiving f) (record_of id s.records)))

-- ---- a stream is marked

touched_at : (o : Option Stream) → ℕ → StreamsState → StreamsState
touched_at o id s = record s {
  records = on_some (with_mark true) id o s.records;
  waiting = record s.waiting { marks = if is_idle o then marked id s.waiting.marks else s.waiting.marks };
}

touched_is : (o : Option Stream) (id : ℕ) (s : StreamsState) → record_of id s.records ≡ o → touched id s ≡ touched_at o id s
unfolding touched_at touched
touched_is o id s is = subst (λ (x : Option Stream). touched id s ≡ touched_at x id s) is refl

queued_at : (o : Option Stream) → ℕ → StreamsState → StreamsState
queued_at o id s = record s {
  records = on_some (queue_one s.waiting.turns) id o s.records;
  waiting = record s.waiting { turns = if takes_number o then saturated (s.waiting.turns + 1) else s.waiting.turns };
}

queued_is : (o : Option Stream) (id : ℕ) (s : StreamsState) → record_of id s.records ≡ o → queued id s ≡ queued_at o id s
unfolding queued_at queued
queued_is o id s is = subst (λ (x : Option Stream). queued id s ≡ queued_at x id s) is refl

-- a stream that is changed, waits from then on, and is marked
noted_with : (Stream → Stream) → ℕ → Option Stream → StreamsState → StreamsState
noted_with f id o s = record s {
  records = on_some (queueing s.waiting.turns f) id o s.records;
  waiting = record s.waiting {
    marks = if is_idle (option_map f o) then marked id s.waiting.marks else s.waiting.marks;
    turns = if takes_number (option_map f o) then saturated (s.waiting.turns + 1) else s.waiting.turns;
  };
}

noted_as : (f : Stream → Stream) (id : ℕ) (s : StreamsState) (o : Option Stream) → record_of id s.records ≡ o
    → touched id (queued id (with_all (on_some f id o s.records) s)) ≡ noted_with f id o s
unfolding with_all touched_at queued_at noted_with queueing queue_one
noted_as f id s None is = ap (λ (t : StreamsState). touched id t) (queued_is None id s is) ∙ touched_is None id s is
noted_as f id s (Some st) is =
    let n : ℕ = s.waiting.turns in
    let w : Stream = f st in
    let v : Stream = queue_one n w in
    let turns : ℕ = (if takes_number (Some w) then saturated (n + 1) else n) in
    let after : AllRecords → StreamsState = (λ (l : AllRecords). (let t : StreamsState = record s { records = l; waiting = record s.waiting { turns = turns } } in t)) in
    ap (λ (t : StreamsState). touched id t)
    (queued_is (Some w) id (with_all (with_record id w s.records) s) (set_here id s.records st w is)
    ∙ ap (λ (l : AllRecords). after l) (set_twice (is_at (nat_cmp id)) s.records w v))
    ∙ touched_is (Some v) id (after (with_record id v s.records)) (set_here id s.records st v is)
    ∙ ap
    (λ (l : AllRecords). (let t : StreamsState = record s {
      records = l;
      waiting = record s.waiting { marks = if not w.marked then marked id s.waiting.marks else s.waiting.marks; turns = turns };
    } in t)) (set_twice (is_at (nat_cmp id)) s.records v (with_mark true v))

noted_so : (f : Stream → Stream) (id : ℕ) (s : StreamsState)
    → touched id (queued id (with_all (changed f id s.records) s)) ≡ noted_with f id (record_of id s.records) s
noted_so f id s = noted_as f id s (record_of id s.records) refl

-- so it is written on
pub wrote_so : (id n : ℕ) (chunk : List ℕ) (s : StreamsState)
    → wrote id n chunk s
    ≡ write_followed (credit_at (option_map (with_sending (if_known (part_written (take n chunk)))) (record_of id s.records)))
    (takes_number (option_map (with_sending (if_known (part_written (take n chunk)))) (record_of id s.records)))
    (is_idle (option_map (with_sending (if_known (part_written (take n chunk)))) (record_of id s.records))) id
    (record s {
      records = changed (queueing s.waiting.turns (with_sending (if_known (part_written (take n chunk))))) id s.records;
      outgoing = outgoing_written n s.outgoing;
    })
unfolding wrote passed with_all noted_with
wrote_so id n chunk s =
    let f : Stream → Stream = with_sending (if_known (part_written (take n chunk))) in
    let at : Option Stream → StreamsState =
    (λ (o : Option Stream). (let t : StreamsState = record s {
      outgoing = outgoing_written n s.outgoing;
      blocked = if credit_at o then s.blocked else without_blocked id s.blocked;
    } in t)) in
    ap (λ (o : Option Stream). touched id (queued id (with_all (changed f id s.records) (at o)))) (found_so f id s.records)
    ∙ noted_so f id (at (option_map f (record_of id s.records)))

-- so bytes of it are acknowledged
pub acked_so : (id start stop : ℕ) (last : Bool) (s : StreamsState)
    → bytes_acked id start stop last s
    ≡ writables_told None
    (told_if
    (not (finished_at (record_of id s.records)) && finished_at (option_map (with_sending (part_acked start stop last)) (record_of id s.records)))
    (Finished id)
    (writables_told (Some id)
    (followed (sequel_at (option_map (with_sending (part_acked start stop last)) (record_of id s.records))) id
    (record s { records = changed (settling (with_sending (part_acked start stop last))) id s.records }))))
unfolding bytes_acked bytes_gone bytes_taken finishes
acked_so id start stop last s =
    let f : Stream → Stream = with_sending (part_acked start stop last) in
    ap (λ (o : Option Stream). writables_told None (told_if (not (finished_at (record_of id s.records)) && finished_at o) (Finished id)
    (writables_told (Some id) (settled id (bytes_taken id start stop last s)))))
    (found_so f id s.records)
    ∙ ap (λ (t : StreamsState). writables_told None (told_if (not (finished_at (record_of id s.records)) && finished_at (option_map f (record_of id s.records)))
    (Finished id) (writables_told (Some id) t)))
    (settled_so f id s)

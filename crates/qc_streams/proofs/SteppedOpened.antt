-- What each step makes of the stream with an id
use Rattle.std.proofs.Common.{◌≡◌, ◌∙◌, ℕ, zero, suc, ◌+◌, ◌/◌, ◌≤◌, ◌==◌, Bool, true, false, cond, not, Option, Some, inl, inr, ap, sym, subst, arith, refl}
use Rattle.std.specs.Prelude.{◌⊎◌}
use Rattle.qc_base.specs.StreamId.{stream_id}
use Rattle.qc_base.specs.declared.side.Dir.{Dir}
use Rattle.qc_streams.specs.declared.state.StreamsState.{StreamsState}
use Rattle.qc_streams.specs.declared.stream.Stream.{Stream}
use Rattle.qc_streams.specs.Counts.{by_dir}
use Rattle.qc_streams.specs.Lending.{AllRecords}
use Rattle.qc_streams.specs.Records.{changed, record_of, with_new}
use Rattle.qc_streams.specs.Streams.{dir_of, fresh_own, fresh_peer, is_own, is_peer_unopened, lower_opened, lower_unopened, made, met, next_own, opened_own, opened_with}
use Rattle.qc_streams.specs.Waits.{Step, Opened, after_step}
use Rattle.qc_streams.proofs.Keyed.{Ascends, ascends_new, new_here, new_other, same_id}
use Rattle.qc_streams.proofs.StepAt.{IsStepped, OwnOpened, PeerOpened, SteppedAt, came_to, sent_to}
use Rattle.qc_streams.proofs.SteppedAt.{Later, ascends_changed, later_at, later_same, stepped_changed, stepped_from, stepped_still}
use Rattle.qc_streams.proofs.WaitIds.{nth, nth_self}
use Rattle.qc_streams.proofs.WaitOpened.{and-then, not-less, not-own, own-count, past, peer-count, reaches}
use Rattle.qc_streams.proofs.WaitSteps.{Holds, was_opened}
use Rattle.qc_streams.proofs.Stepped.{ChangesNone, rests_alike, still_on}

-- ---- streams are opened

pub new_at : (id j : ℕ) (st : Stream) (all : AllRecords) → (j == id) ≡ true → record_of id (with_new j st all) ≡ Some st
new_at id j st all is = subst (λ (k : ℕ). record_of k (with_new j st all) ≡ Some st) (same_id j id is) (new_here j all st)

opened_none : (dir : Dir) → ChangesNone (Opened dir)
unfolding came_to sent_to
opened_none dir = record { came = λ id r. refl; sent = λ id p. refl }

pub opened_on : (id : ℕ) (dir : Dir) (s : StreamsState) → Holds s → SteppedAt id (Opened dir) s
unfolding after_step opened_own next_own
opened_on id dir s holds = by (stream_id s.side dir (by_dir dir s.own).opened == id) refl
  where
    by : (b : Bool) → (stream_id s.side dir (by_dir dir s.own).opened == id) ≡ b → SteppedAt id (Opened dir) s
    by true is =
        stepped_from id (Opened dir) s (fresh_own dir s) (fresh_own dir s) _
        (OwnOpened dir refl (subst (λ (k : ℕ). was_opened s.side s.own s.peer k ≡ false) (same_id _ id is)
        (own-count s.side dir s.own s.peer (by_dir dir s.own).opened ∙ not-less (by_dir dir s.own).opened)))
        (rests_alike id id (Opened dir) (opened_none dir) (fresh_own dir s))
        (new_at id (stream_id s.side dir (by_dir dir s.own).opened) (fresh_own dir s) s.records is) (later_at _)
    by false is =
        still_on id id (Opened dir) s (opened_none dir)
        (later_same (record_of id s.records) _ (new_other (stream_id s.side dir (by_dir dir s.own).opened) id s.records (fresh_own dir s) is))

-- of those that are made at once
made_at : (j from n id : ℕ) (st : Stream) (all : AllRecords)
    → (record_of id (made j from n st all) ≡ record_of id all) ⊎ ((i : ℕ) × (nth j (from + i) ≡ id) × (record_of id (made j from n st all) ≡ Some st))
unfolding made
made_at j from zero id st all = inl refl
made_at j from (suc n) id st all = by (nth j (from + n) == id) refl (made_at j from n id st all)
  where
    by : (b : Bool) → (nth j (from + n) == id) ≡ b
        → (record_of id (made j from n st all) ≡ record_of id all) ⊎ ((i : ℕ) × (nth j (from + i) ≡ id) × (record_of id (made j from n st all) ≡ Some st))
        → (record_of id (with_new (nth j (from + n)) st (made j from n st all)) ≡ record_of id all)
        ⊎ ((i : ℕ) × (nth j (from + i) ≡ id) × (record_of id (with_new (nth j (from + n)) st (made j from n st all)) ≡ Some st))
    by true is rest = inr (n, same_id (nth j (from + n)) id is, new_at id (nth j (from + n)) st (made j from n st all) is)
    by false is (inl same) = inl (new_other (nth j (from + n)) id (made j from n st all) st is ∙ same)
    by false is (inr new) = inr (new.0, new.1, new_other (nth j (from + n)) id (made j from n st all) st is ∙ new.2)

made_order : (j from n : ℕ) (st : Stream) (all : AllRecords) → Ascends all → Ascends (made j from n st all)
unfolding made
made_order j from zero st all order = order
made_order j from (suc n) st all order = ascends_new (nth j (from + n)) (made j from n st all) st (made_order j from n st all order)

opened_with_order : (j : ℕ) (st : Stream) (s : StreamsState) → Ascends s.records → Ascends (opened_with j st s).records
unfolding opened_with lower_opened
opened_with_order j st s order = ascends_new j _ st (made_order j _ _ (fresh_peer (dir_of j) s) s.records order)

pub met_order : (f : Stream → Stream) (j : ℕ) (s : StreamsState) → Ascends s.records → Ascends (met f j s).records
unfolding met
met_order f j s order = by (is_peer_unopened j s)
  where
    by : (b : Bool) → Ascends (cond b (opened_with j (f (fresh_peer (dir_of j) s)) s) (record s { records = changed f j s.records })).records
    by true = opened_with_order j (f (fresh_peer (dir_of j) s)) s order
    by false = ascends_changed f j s.records order

was_not_peer : (j : ℕ) (s : StreamsState) → is_peer_unopened j s ≡ true → is_own s.side j ≡ false
unfolding is_peer_unopened
was_not_peer j s new = not-own (is_own s.side j) _ new

pub was_not_opened : (j : ℕ) (s : StreamsState) → is_peer_unopened j s ≡ true → was_opened s.side s.own s.peer j ≡ false
unfolding is_peer_unopened
was_not_opened j s new =
    let other : is_own s.side j ≡ false = not-own (is_own s.side j) _ new in
    let below : (by_dir (dir_of j) s.peer).opened ≤ j / 4 = reaches (by_dir (dir_of j) s.peer).opened (j / 4) (and-then (not (is_own s.side j)) _ new) in
    ap (λ (k : ℕ). was_opened s.side s.own s.peer k) (sym (nth_self j)) ∙ peer-count s.side s.own s.peer j (j / 4) other
    ∙ past (j / 4) (by_dir (dir_of j) s.peer).opened below

lower_not_opened : (j i : ℕ) (s : StreamsState) → is_peer_unopened j s ≡ true
    → was_opened s.side s.own s.peer (nth j ((by_dir (dir_of j) s.peer).opened + i)) ≡ false
lower_not_opened j i s new =
    let from : ℕ = (by_dir (dir_of j) s.peer).opened in
    peer-count s.side s.own s.peer j (from + i) (was_not_peer j s new) ∙ past (from + i) from (omega arith)

-- a frame names a stream
module _ (id j : ℕ) (x : Step) (s : StreamsState) (f : Stream → Stream) (makes : (j == id) ≡ true → (st : Stream) → IsStepped id x st (f st))
    (rests : (j == id) ≡ false → (st : Stream) → IsStepped id x st st) where
  lower_on : (j == id) ≡ false → is_peer_unopened j s ≡ true → (o : Option Stream) → o ≡ record_of id (lower_opened j s)
      → Later o (record_of id (after_step x s).records) → SteppedAt id x s
  unfolding lower_opened
  lower_on apart new o is later =
      by (made_at j (by_dir (dir_of j) s.peer).opened (lower_unopened j s) id (fresh_peer (dir_of j) s) s.records)
    where
      by : (record_of id (made j (by_dir (dir_of j) s.peer).opened (lower_unopened j s) (fresh_peer (dir_of j) s) s.records) ≡ record_of id s.records)
          ⊎ ((i : ℕ) × (nth j ((by_dir (dir_of j) s.peer).opened + i) ≡ id)
          × (record_of id (made j (by_dir (dir_of j) s.peer).opened (lower_unopened j s) (fresh_peer (dir_of j) s) s.records) ≡ Some (fresh_peer (dir_of j) s)))
          → SteppedAt id x s
      by (inl same) = stepped_still id x s (rests apart) (subst (λ (y : Option Stream). Later y (record_of id (after_step x s).records)) (is ∙ same) later)
      by (inr made) =
          stepped_from id x s (fresh_peer (dir_of j) s) (fresh_peer (dir_of j) s) o
          (PeerOpened (dir_of j) refl (subst (λ (k : ℕ). was_opened s.side s.own s.peer k ≡ false) made.1 (lower_not_opened j made.0 s new)))
          (rests apart (fresh_peer (dir_of j) s)) (is ∙ made.2) later

  opened_with_on : is_peer_unopened j s ≡ true → Later (record_of id (opened_with j (f (fresh_peer (dir_of j) s)) s).records) (record_of id (after_step x s).records)
      → SteppedAt id x s
  unfolding opened_with
  opened_with_on new later = by (j == id) refl
    where
      by : (b : Bool) → (j == id) ≡ b → SteppedAt id x s
      by true is =
          stepped_from id x s (fresh_peer (dir_of j) s) (f (fresh_peer (dir_of j) s)) _
          (PeerOpened (dir_of j) refl (subst (λ (k : ℕ). was_opened s.side s.own s.peer k ≡ false) (same_id j id is) (was_not_opened j s new)))
          (makes is (fresh_peer (dir_of j) s)) (new_at id j (f (fresh_peer (dir_of j) s)) (lower_opened j s) is) later
      by false is = lower_on is new _ (new_other j id (lower_opened j s) (f (fresh_peer (dir_of j) s)) is) later

  pub met_on : Later (record_of id (met f j s).records) (record_of id (after_step x s).records) → SteppedAt id x s
  unfolding met
  met_on later = by (is_peer_unopened j s) refl later
    where
      by : (b : Bool) → is_peer_unopened j s ≡ b
          → Later (record_of id (cond b (opened_with j (f (fresh_peer (dir_of j) s)) s) (record s { records = changed f j s.records })).records)
          (record_of id (after_step x s).records) → SteppedAt id x s
      by true new after = opened_with_on new after
      by false old after = stepped_changed id j x s f makes rests after

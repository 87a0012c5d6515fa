-- Whatever happens, and in whatever order a stream is read, no byte of it is given twice, and each that is given is the first that came at
-- its offset
use Rattle.std.proofs.Common.{◌≡◌, ◌∙◌, ℕ, ◌≤◌, ◌==◌, Bool, true, false, cond, List, [], ◌∷◌, ◌++◌, length, drop, Option, None, Some, is_some, Ok, ap, sym, subst, refl, arith}
use Rattle.std.proofs.lemmas.Bool.{false≢true}
use Rattle.std.proofs.lemmas.List.Elements.{All-append, All-nil}
use Rattle.qc_base.specs.declared.side.Side.{Side}
use Rattle.qc_assembler.specs.Assembly.{add, run, was_read}
use Rattle.qc_recv.specs.declared.recv.Chunk.{Chunk}
use Rattle.qc_recv.specs.declared.recv.Recv.{Recv}
use Rattle.qc_recv.specs.Receiving.{new_receiving, opened, GivesChunk}
use Rattle.qc_streams.specs.declared.state.StreamsState.{StreamsState}
use Rattle.qc_streams.specs.declared.stream.Stream.{Stream}
use Rattle.qc_streams.specs.Calls.{IsRead, IsReadOf, receiving_at, receiving_of}
use Rattle.qc_streams.specs.Carried.{AreAnswered, GivesEachOnce, IsAnswered, came_on, given_on, keeps_streams, times, with_came, with_given}
use Rattle.qc_streams.specs.Early.{early_refused}
use Rattle.qc_streams.specs.Streams.{new_streams}
use Rattle.qc_streams.specs.Waits.{ArePossible, IsPossible, Step, EarlyRefused, Read, StreamCame, after, after_step}
use Rattle.qc_streams.specs.Within.{AreTaken, IsTaken}
use Rattle.qc_streams.proofs.CarriedCame.{open_live}
use Rattle.qc_streams.proofs.CarriedOffsets.{AreFound, Ascends, ascends_add, ascends_none, found_added, value_at}
use Rattle.qc_streams.proofs.CarriedOnce.{Keeping, WhileLive, chunk_found, fresh_keeps, given_keeps, side_once}
use Rattle.qc_streams.proofs.CarriedRead.{answer_at, mapped, own_side, peer_side, some_not_none, unopened_before}
use Rattle.qc_streams.proofs.CarriedSide.{IsFine}
use Rattle.qc_streams.proofs.CarriedTaken.{IsUnopened, came_opened, fine_fresh, fine_stood, no_chunk}
use Rattle.qc_streams.proofs.StepAt.{ComesFrom, Stood, OwnOpened, PeerOpened, SteppedAt, Gone, There, Steps, StaysOpened, came_to}
use Rattle.qc_streams.proofs.WaitLaw.{nothing, step_ok}
use Rattle.qc_streams.proofs.WaitSteps.{Holds, was_opened}
use Rattle.qc_streams.proofs.Waits.{unopened}
use Rattle.qc_streams.proofs.Keyed.{same_id}

-- What was given is among the bytes that came, and none of it twice
record Given (all bytes : List (ℕ × ℕ)) : Type 0 where
  ascends : Ascends 0 all
  once : (o : ℕ) → times o bytes ≤ 1
  found : AreFound all bytes

-- The same of a stream; of one that wasn't opened there are none; and a receiving side that may give more keeps those that were not read
record Carries (id : ℕ) (s : StreamsState) (all bytes : List (ℕ × ℕ)) : Type 0 where
  sound : Given all bytes
  none : IsUnopened id s → (all ≡ []) × (bytes ≡ [])
  side : (r : Recv) → receiving_at id s ≡ Some r → WhileLive all bytes r

-- ---- what was given stays among what came, and none of it twice

at_most_one : (t : Bool) → cond t 1 0 ≤ 1
at_most_one true = omega arith
at_most_one false = omega arith

-- a chunk is given
given_more : (most : ℕ) (ordered : Bool) (c : Chunk) (all bytes : List (ℕ × ℕ)) (r : Recv) → GivesChunk most (opened ordered r) c
    → Keeping all bytes r.assembler → Given all bytes → Given all (bytes ++ run c.offset c.bytes)
unfolding opened
given_more most ordered c all bytes r gives h g =
    let then = given_keeps most ordered c all bytes r gives h in record {
      ascends = g.ascends;
      once = λ o. subst (λ (n : ℕ). n ≤ 1) (sym (then.count o)) (at_most_one (was_read o _));
      found = All-append (λ (e : ℕ × ℕ). value_at e.0 all ≡ Some e.1) bytes (run c.offset c.bytes) g.found
          (chunk_found c.offset c.bytes (drop (length c.bytes) r.assembler.came) all bytes r.assembler gives.first h);
    }

chunk_given_once : (b ordered : Bool) (id most : ℕ) (c : Chunk) (s : StreamsState) (all bytes : List (ℕ × ℕ))
    → (b ≡ true → IsReadOf most ordered (receiving_at id s) (Ok (Some c))) → Carries id s all bytes
    → Given all (cond b (bytes ++ run c.offset c.bytes) bytes)
unfolding IsReadOf IsRead
chunk_given_once false ordered id most c s all bytes answer h = h.sound
chunk_given_once true ordered id most c s all bytes answer h = by (receiving_at id s) refl (answer refl)
  where
    by : (p : Option Recv) → receiving_at id s ≡ p → IsReadOf most ordered p (Ok (Some c)) → Given all (bytes ++ run c.offset c.bytes)
    by None is answer = absurd (no_chunk most ordered c answer)
    by (Some r) is answer = given_more most ordered c all bytes r answer.2 (h.side r is (open_live ordered r answer.0 answer.1)) h.sound

came_more : (b : Bool) (o : ℕ) (bs : List ℕ) (all bytes : List (ℕ × ℕ)) → Given all bytes → Given (cond b (add o bs all) all) bytes
came_more true o bs all bytes g = record {
  ascends = ascends_add 0 o bs all (omega arith) g.ascends;
  once = g.once;
  found = found_added o bs all bytes g.ascends g.found;
}
came_more false o bs all bytes g = g

sound_then : (id : ℕ) (x : Step) (s : StreamsState) (all bytes : List (ℕ × ℕ)) → IsAnswered x s → keeps_streams x ≡ true
    → Carries id s all bytes → Given (with_came id x all) (with_given id x bytes)
unfolding IsAnswered keeps_streams with_came with_given
sound_then id EarlyRefused s all bytes answers keeps h = absurd (cc)
sound_then id (StreamCame j o bs last) s all bytes answers keeps h = came_more (j == id) o bs all bytes h.sound
sound_then id (Read ordered (Ok (Some c)) j) s all bytes answers keeps h =
    chunk_given_once (j == id) ordered id answers.0 c s all bytes
    (λ same. answer_at id j answers.0 ordered (Ok (Some c)) s (receiving_at id s) same refl answers.1) h
sound_then id x s all bytes answers keeps h = h.sound

-- ---- nothing comes on a stream that isn't opened, and nothing is given of it

-- there are none of either
abbrev AreNone : List (ℕ × ℕ) → List (ℕ × ℕ) → Type 0
AreNone all bytes = (all ≡ []) × (bytes ≡ [])

none_given : (b : Bool) (id most : ℕ) (ordered : Bool) (c : Chunk) (s : StreamsState) (all bytes : List (ℕ × ℕ)) → receiving_at id s ≡ None
    → (b ≡ true → IsReadOf most ordered (receiving_at id s) (Ok (Some c))) → AreNone all bytes → AreNone all (cond b (bytes ++ run c.offset c.bytes) bytes)
none_given true id most ordered c s all bytes is answer h =
    absurd (no_chunk most ordered c (subst (λ (p : Option Recv). IsReadOf most ordered p (Ok (Some c))) is (answer refl)))
none_given false id most ordered c s all bytes is answer h = h

none_came : (b : Bool) (o : ℕ) (bs : List ℕ) (all bytes : List (ℕ × ℕ)) → (b ≡ true → ⊥) → AreNone all bytes → AreNone (cond b (add o bs all) all) bytes
none_came true o bs all bytes not_here h = absurd (not_here refl)
none_came false o bs all bytes not_here h = h

-- a step leaves a stream unopened that is so after it
none_left : (id : ℕ) (x : Step) (s : StreamsState) (all bytes : List (ℕ × ℕ)) → IsPossible x → IsTaken x s → IsAnswered x s
    → keeps_streams x ≡ true → Holds s → IsUnopened id s → IsUnopened id (after_step x s)
    → AreNone all bytes → AreNone (with_came id x all) (with_given id x bytes)
unfolding IsAnswered keeps_streams with_came with_given receiving_at
none_left id EarlyRefused s all bytes can takes answers keeps h before then are = absurd (cc)
none_left id (StreamCame j o bs last) s all bytes can takes answers keeps h before then are = none_came (j == id) o bs all bytes not_here are
  where
    not_here : (j == id) ≡ true → ⊥
    not_here same =
        subst (λ (i : ℕ). IsUnopened i s → IsUnopened i (after_step (StreamCame j o bs last) s) → ⊥) (same_id j id same)
        (λ before then. false≢true (sym then ∙ came_opened j o bs last s can takes h before)) before then
none_left id (Read ordered (Ok (Some c)) j) s all bytes can takes answers keeps h before then are =
    none_given (j == id) id answers.0 ordered c s all bytes
    (ap (λ (p : Option Stream). receiving_of p) (unopened (was_opened s.side s.own s.peer) id s.records s.blocked h before))
    (λ same. answer_at id j answers.0 ordered (Ok (Some c)) s (receiving_at id s) same refl answers.1) are
none_left id x s all bytes can takes answers keeps h before then are = are

-- ---- the receiving side

-- what holds of a side before a step, and that the step is fine for it
record Before (id : ℕ) (x : Step) (all bytes : List (ℕ × ℕ)) (r : Recv) : Type 0 where
  fine : IsFine id x r
  live : WhileLive all bytes r

fresh_before : (id : ℕ) (x : Step) (s : StreamsState) (all bytes : List (ℕ × ℕ)) (r : Recv) → IsTaken x s → IsAnswered x s → Holds s
    → Carries id s all bytes → IsUnopened id s → r ≡ new_receiving s.stream_window → Before id x all bytes r
fresh_before id x s all bytes r takes answers h c before is =
    subst (λ (q : Recv). Before id x all bytes q) (sym is) (record {
      fine = fine_fresh id x s before (unopened (was_opened s.side s.own s.peer) id s.records s.blocked h before) takes answers;
      live = λ live.
          subst (λ (v : List (ℕ × ℕ)). Keeping all v (new_receiving s.stream_window).assembler) (sym (c.none before).1)
          (subst (λ (w : List (ℕ × ℕ)). Keeping w [] (new_receiving s.stream_window).assembler) (sym (c.none before).0) (fresh_keeps s.stream_window));
    })

came_before : (id : ℕ) (x : Step) (s : StreamsState) (all bytes : List (ℕ × ℕ)) (st : Stream) (r : Recv) → IsTaken x s → IsAnswered x s → Holds s
    → Carries id s all bytes → ComesFrom id s st → st.receiving ≡ Some r → Before id x all bytes r
unfolding receiving_at
came_before id x s all bytes st r takes answers h c (Stood is) side = record {
  fine = fine_stood id x s st r (h.known id (ap (λ (o : Option Stream). is_some o) is)) is side takes answers;
  live = c.side r (ap (λ (o : Option Stream). receiving_of o) is ∙ side);
}
came_before id x s all bytes st r takes answers h c (OwnOpened dir is before) side =
    fresh_before id x s all bytes r takes answers h c before (own_side dir s r (ap (λ (t : Stream). t.receiving) (sym is) ∙ side))
came_before id x s all bytes st r takes answers h c (PeerOpened dir is before) side =
    fresh_before id x s all bytes r takes answers h c before (peer_side dir s r (ap (λ (t : Stream). t.receiving) (sym is) ∙ side))

side_then : (id : ℕ) (x : Step) (s : StreamsState) (all bytes : List (ℕ × ℕ)) (q : Recv) → IsTaken x s → IsAnswered x s → keeps_streams x ≡ true
    → Holds s → Carries id s all bytes → SteppedAt id x s → receiving_at id (after_step x s) ≡ Some q
    → WhileLive (with_came id x all) (with_given id x bytes) q
unfolding receiving_at
side_then id x s all bytes q takes answers keeps h c (Gone gone why) is =
    absurd (some_not_none (receiving_at id (after_step x s)) q (ap (λ (o : Option Stream). receiving_of o) gone) is)
side_then id x s all bytes q takes answers keeps h c (There st then from stepped there) is =
    let found = mapped (came_to id x) st.receiving q (sym stepped.receiving ∙ sym (ap (λ (o : Option Stream). receiving_of o) there) ∙ is) in
    let before = came_before id x s all bytes st found.0 takes answers h c from found.1 in
    subst (λ (r : Recv). WhileLive (with_came id x all) (with_given id x bytes) r) found.2
    (side_once id x all bytes found.0 before.fine keeps c.sound.ascends before.live)

-- ---- one step

-- nothing came, and nothing was given
none_sound : Given [] []
none_sound = record {
  ascends = ascends_none 0;
  once = λ o. omega arith;
  found = All-nil (λ (e : ℕ × ℕ). value_at e.0 [] ≡ Some e.1);
}

-- where the server refuses early data, all is as at the start
early : (id : ℕ) (s : StreamsState) → Carries id (early_refused s) [] []
unfolding early_refused receiving_at
early id s = record { sound = none_sound; none = λ is. (refl, refl); side = λ r is. absurd (some_not_none None r refl is) }

start : (id : ℕ) (side : Side) (uni bi window stream_window send_window : ℕ) (fair : Bool)
    → Carries id (new_streams side uni bi window stream_window send_window fair) [] []
unfolding new_streams receiving_at
start id side uni bi window stream_window send_window fair =
    record { sound = none_sound; none = λ is. (refl, refl); side = λ r is. absurd (some_not_none None r refl is) }

-- ---- all steps

module _ (steps : Steps) (stays : StaysOpened) where
  kept : (id : ℕ) (x : Step) (s : StreamsState) (all bytes : List (ℕ × ℕ)) → IsPossible x → IsTaken x s → IsAnswered x s
      → keeps_streams x ≡ true → Holds s → Carries id s all bytes → Carries id (after_step x s) (with_came id x all) (with_given id x bytes)
  kept id x s all bytes can takes answers keeps h c = record {
    sound = sound_then id x s all bytes answers keeps c;
    none = λ then.
        let before : IsUnopened id s = unopened_before steps stays id x s can keeps then in
        none_left id x s all bytes can takes answers keeps h before then (c.none before);
    side = λ q is. side_then id x s all bytes q takes answers keeps h c (steps id x s can h) is;
  }

  carries_step : (id : ℕ) (x : Step) (s : StreamsState) (all bytes : List (ℕ × ℕ)) → IsPossible x → IsTaken x s → IsAnswered x s
      → Holds s → Carries id s all bytes → Carries id (after_step x s) (with_came id x all) (with_given id x bytes)
  unfolding after_step with_came with_given keeps_streams
  carries_step id EarlyRefused s all bytes can takes answers h c = early id s
  carries_step id x s all bytes can takes answers h c = kept id x s all bytes can takes answers refl h c

  carries : (id : ℕ) (xs : List Step) (s : StreamsState) (all bytes : List (ℕ × ℕ)) → ArePossible xs → AreTaken xs s → AreAnswered xs s
      → Holds s → Carries id s all bytes → Carries id (after xs s) (came_on id xs all) (given_on id xs bytes)
  unfolding after came_on given_on ArePossible AreTaken AreAnswered
  carries id [] s all bytes can takes answers h c = c
  carries id (x ∷ xs) s all bytes can takes answers h c =
      carries id xs (after_step x s) (with_came id x all) (with_given id x bytes) can.1 takes.1 answers.1 (step_ok x s can.0 h)
      (carries_step id x s all bytes can.0 takes.0 answers.0 h c)

  -- No byte of a stream is given twice, and each that is given is the first that came at its offset
  pub gives_once : (side : Side) (uni bi window stream_window send_window : ℕ) (fair : Bool) (xs : List Step)
      → GivesEachOnce (new_streams side uni bi window stream_window send_window fair) xs
  unfolding GivesEachOnce new_streams
  gives_once side uni bi window stream_window send_window fair xs = λ can takes answers id.
      let s = new_streams side uni bi window stream_window send_window fair in
      let c = carries id xs s [] [] can takes answers (nothing _) (start id side uni bi window stream_window send_window fair) in record {
        once = c.sound.once;
        came = c.sound.found;
      }

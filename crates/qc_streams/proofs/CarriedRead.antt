-- Whatever happens, what was read of a stream in order are the first of the bytes that came on it, and its end is told once
use Rattle.std.proofs.Common.{◌≡◌, ◌∙◌, ℕ, suc, ◌==◌, Bool, true, false, cond, not, ◌||◌, List, [], ◌∷◌, ◌++◌, length, take, drop, Option, None, Some, is_some, Result, Ok, ap, sym, subst, refl}
use Rattle.std.specs.List.{list_all}
use Rattle.std.specs.Option.{option_map}
use Rattle.std.proofs.lemmas.Bool.{and_parts, false≢true}
use Rattle.qc_base.specs.declared.side.Dir.{Dir}
use Rattle.qc_base.specs.declared.side.Dir.TheVariants.{Bi, Uni}
use Rattle.qc_base.specs.declared.side.Side.{Side}
use Rattle.qc_assembler.specs.Assembly.{add, run}
use Rattle.qc_recv.specs.declared.recv.Chunk.{Chunk}
use Rattle.qc_recv.specs.declared.recv.Recv.{Recv}
use Rattle.qc_recv.specs.Receiving.{is_at_end, match_size, new_receiving}
use Rattle.qc_streams.specs.declared.fault.ReadFault.{ReadFault}
use Rattle.qc_streams.specs.declared.state.StreamsState.{StreamsState}
use Rattle.qc_streams.specs.declared.stream.Stream.{Stream}
use Rattle.qc_streams.specs.Calls.{IsRead, IsReadOf, receiving_at, receiving_of}
use Rattle.qc_streams.specs.Carried.{AreAnswered, IsAnswered, ReadsWhatCame, came_on, keeps_order, keeps_streams, read_on, size_of, with_came, with_read}
use Rattle.qc_streams.specs.Early.{early_refused}
use Rattle.qc_streams.specs.Stream.{fresh_stream}
use Rattle.qc_streams.specs.Streams.{fresh_own, fresh_peer, new_streams}
use Rattle.qc_streams.specs.Waits.{ArePossible, IsPossible, Step, EarlyRefused, Read, StreamCame, after, after_step}
use Rattle.qc_streams.specs.Within.{AreTaken, IsTaken}
use Rattle.qc_streams.proofs.CarriedCame.{SideHolds, chunk_prefix, fresh_holds, open_live, prefix_came}
use Rattle.qc_streams.proofs.CarriedSide.{IsFine, WhileLive, side_ok}
use Rattle.qc_streams.proofs.CarriedTaken.{IsUnopened, came_opened, fine_fresh, fine_stood, no_chunk}
use Rattle.qc_streams.proofs.StepAt.{ComesFrom, Stood, OwnOpened, PeerOpened, SteppedAt, Gone, There, Steps, StaysOpened, came_to}
use Rattle.qc_streams.proofs.WaitLaw.{nothing, step_ok}
use Rattle.qc_streams.proofs.WaitSteps.{Holds, was_opened}
use Rattle.qc_streams.proofs.Waits.{unopened}
use Rattle.qc_streams.proofs.Keyed.{same_id}

-- What was read are the first of the bytes that came; of a stream that wasn't opened there are none; and a receiving side that may
-- give more holds those that were not read
record Carries (id : ℕ) (s : StreamsState) (all : List (ℕ × ℕ)) (read : List ℕ) : Type 0 where
  rest : List (ℕ × ℕ)
  prefix : all ≡ run 0 read ++ rest
  none : IsUnopened id s → (all ≡ []) × (read ≡ [])
  side : (r : Recv) → receiving_at id s ≡ Some r → WhileLive all read r

-- what the answer to a read of the stream with an id says of its receiving side
pub answer_at : (id j most : ℕ) (ordered : Bool) (result : Result (Option Chunk) ReadFault) (s : StreamsState) (p : Option Recv) → (j == id) ≡ true
    → receiving_at id s ≡ p → IsReadOf most ordered (receiving_at j s) result → IsReadOf most ordered p result
answer_at id j most ordered result s p same is answer =
    subst (λ (q : Option Recv). IsReadOf most ordered q result) (ap (λ (i : ℕ). receiving_at i s) (same_id j id same) ∙ is) answer

pub some_not_none : (p : Option Recv) (r : Recv) → p ≡ None → p ≡ Some r → ⊥
some_not_none p r none is = cc

-- ---- what was read stays the first of what came

-- it is the first of that
abbrev Begins : List (ℕ × ℕ) → List ℕ → Type 0
Begins all read = (w : List (ℕ × ℕ)) × (all ≡ run 0 read ++ w)

chunk_begins : (b ordered : Bool) (id most : ℕ) (c : Chunk) (s : StreamsState) (all : List (ℕ × ℕ)) (read : List ℕ) → (not b || ordered) ≡ true
    → (b ≡ true → IsReadOf most ordered (receiving_at id s) (Ok (Some c))) → Carries id s all read → Begins all (cond b (read ++ c.bytes) read)
unfolding IsReadOf IsRead
chunk_begins false ordered id most c s all read order answer h = (h.rest, h.prefix)
chunk_begins true false id most c s all read order answer h = absurd (cc)
chunk_begins true true id most c s all read order answer h = by (receiving_at id s) refl (answer refl)
  where
    by : (p : Option Recv) → receiving_at id s ≡ p → IsReadOf most true p (Ok (Some c)) → Begins all (read ++ c.bytes)
    by None is answer = absurd (no_chunk most true c answer)
    by (Some r) is answer =
        let k : SideHolds all read r = h.side r is (open_live true r answer.0 answer.1) in
        (drop (length c.bytes) k.rest, chunk_prefix most c all read r k answer.2)

came_begins : (b : Bool) (o : ℕ) (bs : List ℕ) (all : List (ℕ × ℕ)) (read : List ℕ) → Begins all read → Begins (cond b (add o bs all) all) read
came_begins true o bs all read h =
    let more = prefix_came o bs read h.0 in
    (more.0, ap (λ (w : List (ℕ × ℕ)). add o bs w) h.1 ∙ more.1)
came_begins false o bs all read h = h

begins : (id : ℕ) (x : Step) (s : StreamsState) (all : List (ℕ × ℕ)) (read : List ℕ) → IsAnswered x s → keeps_order id x ≡ true → keeps_streams x ≡ true
    → Carries id s all read → Begins (with_came id x all) (with_read id x read)
unfolding IsAnswered keeps_order keeps_streams with_came with_read
begins id EarlyRefused s all read answers order keeps h = absurd (cc)
begins id (StreamCame j o bs last) s all read answers order keeps h = came_begins (j == id) o bs all read (h.rest, h.prefix)
begins id (Read ordered (Ok (Some c)) j) s all read answers order keeps h =
    chunk_begins (j == id) ordered id answers.0 c s all read order
    (λ same. answer_at id j answers.0 ordered (Ok (Some c)) s (receiving_at id s) same refl answers.1) h
begins id x s all read answers order keeps h = (h.rest, h.prefix)

-- ---- nothing comes on a stream that isn't opened, and nothing is read of it

-- there are none of either
abbrev AreNone : List (ℕ × ℕ) → List ℕ → Type 0
AreNone all read = (all ≡ []) × (read ≡ [])

none_read : (b : Bool) (id most : ℕ) (ordered : Bool) (c : Chunk) (s : StreamsState) (all : List (ℕ × ℕ)) (read : List ℕ) → receiving_at id s ≡ None
    → (b ≡ true → IsReadOf most ordered (receiving_at id s) (Ok (Some c))) → AreNone all read → AreNone all (cond b (read ++ c.bytes) read)
none_read true id most ordered c s all read is answer h =
    absurd (no_chunk most ordered c (subst (λ (p : Option Recv). IsReadOf most ordered p (Ok (Some c))) is (answer refl)))
none_read false id most ordered c s all read is answer h = h

none_came : (b : Bool) (o : ℕ) (bs : List ℕ) (all : List (ℕ × ℕ)) (read : List ℕ) → (b ≡ true → ⊥) → AreNone all read → AreNone (cond b (add o bs all) all) read
none_came true o bs all read not_here h = absurd (not_here refl)
none_came false o bs all read not_here h = h

-- a step leaves a stream unopened that is so after it
none_left : (id : ℕ) (x : Step) (s : StreamsState) (all : List (ℕ × ℕ)) (read : List ℕ) → IsPossible x → IsTaken x s → IsAnswered x s
    → keeps_streams x ≡ true → Holds s → IsUnopened id s → IsUnopened id (after_step x s)
    → AreNone all read → AreNone (with_came id x all) (with_read id x read)
unfolding IsAnswered keeps_streams with_came with_read receiving_at
none_left id EarlyRefused s all read can takes answers keeps h before then are = absurd (cc)
none_left id (StreamCame j o bs last) s all read can takes answers keeps h before then are = none_came (j == id) o bs all read not_here are
  where
    not_here : (j == id) ≡ true → ⊥
    not_here same =
        subst (λ (i : ℕ). IsUnopened i s → IsUnopened i (after_step (StreamCame j o bs last) s) → ⊥) (same_id j id same)
        (λ before then. false≢true (sym then ∙ came_opened j o bs last s can takes h before)) before then
none_left id (Read ordered (Ok (Some c)) j) s all read can takes answers keeps h before then are =
    none_read (j == id) id answers.0 ordered c s all read
    (ap (λ (p : Option Stream). receiving_of p) (unopened (was_opened s.side s.own s.peer) id s.records s.blocked h before))
    (λ same. answer_at id j answers.0 ordered (Ok (Some c)) s (receiving_at id s) same refl answers.1) are
none_left id x s all read can takes answers keeps h before then are = are

-- ---- the receiving side

pub own_side : (dir : Dir) (s : StreamsState) (r : Recv) → (fresh_own dir s).receiving ≡ Some r → r ≡ new_receiving s.stream_window
unfolding fresh_stream
own_side Bi s r is = cc
own_side Uni s r is = absurd (cc)

pub peer_side : (dir : Dir) (s : StreamsState) (r : Recv) → (fresh_peer dir s).receiving ≡ Some r → r ≡ new_receiving s.stream_window
unfolding fresh_stream
peer_side Bi s r is = cc
peer_side Uni s r is = cc

-- what holds of a side before a step, and that the step is fine for it
record Before (id : ℕ) (x : Step) (all : List (ℕ × ℕ)) (read : List ℕ) (r : Recv) : Type 0 where
  fine : IsFine id x r
  live : WhileLive all read r

fresh_before : (id : ℕ) (x : Step) (s : StreamsState) (all : List (ℕ × ℕ)) (read : List ℕ) (r : Recv) → IsTaken x s → IsAnswered x s → Holds s
    → Carries id s all read → IsUnopened id s → r ≡ new_receiving s.stream_window → Before id x all read r
fresh_before id x s all read r takes answers h c before is =
    subst (λ (q : Recv). Before id x all read q) (sym is) (record {
      fine = fine_fresh id x s before (unopened (was_opened s.side s.own s.peer) id s.records s.blocked h before) takes answers;
      live = λ live.
          subst (λ (bs : List ℕ). SideHolds all bs (new_receiving s.stream_window)) (sym (c.none before).1)
          (subst (λ (w : List (ℕ × ℕ)). SideHolds w [] (new_receiving s.stream_window)) (sym (c.none before).0) (fresh_holds s.stream_window));
    })

came_before : (id : ℕ) (x : Step) (s : StreamsState) (all : List (ℕ × ℕ)) (read : List ℕ) (st : Stream) (r : Recv) → IsTaken x s → IsAnswered x s → Holds s
    → Carries id s all read → ComesFrom id s st → st.receiving ≡ Some r → Before id x all read r
unfolding receiving_at
came_before id x s all read st r takes answers h c (Stood is) side = record {
  fine = fine_stood id x s st r (h.known id (ap (λ (o : Option Stream). is_some o) is)) is side takes answers;
  live = c.side r (ap (λ (o : Option Stream). receiving_of o) is ∙ side);
}
came_before id x s all read st r takes answers h c (OwnOpened dir is before) side =
    fresh_before id x s all read r takes answers h c before (own_side dir s r (ap (λ (t : Stream). t.receiving) (sym is) ∙ side))
came_before id x s all read st r takes answers h c (PeerOpened dir is before) side =
    fresh_before id x s all read r takes answers h c before (peer_side dir s r (ap (λ (t : Stream). t.receiving) (sym is) ∙ side))

pub mapped : (f : Recv → Recv) (p : Option Recv) (q : Recv) → option_map f p ≡ Some q → (r : Recv) × (p ≡ Some r) × (f r ≡ q)
mapped f None q is = absurd (cc)
mapped f (Some r) q is = (r, refl, cc)

side_then : (id : ℕ) (x : Step) (s : StreamsState) (all : List (ℕ × ℕ)) (read : List ℕ) (q : Recv) → IsTaken x s → IsAnswered x s → keeps_order id x ≡ true
    → keeps_streams x ≡ true → Holds s → Carries id s all read → SteppedAt id x s → receiving_at id (after_step x s) ≡ Some q
    → WhileLive (with_came id x all) (with_read id x read) q
unfolding receiving_at
side_then id x s all read q takes answers order keeps h c (Gone gone why) is =
    absurd (some_not_none (receiving_at id (after_step x s)) q (ap (λ (o : Option Stream). receiving_of o) gone) is)
side_then id x s all read q takes answers order keeps h c (There st then from stepped there) is =
    let found = mapped (came_to id x) st.receiving q (sym stepped.receiving ∙ sym (ap (λ (o : Option Stream). receiving_of o) there) ∙ is) in
    let before = came_before id x s all read st found.0 takes answers h c from found.1 in
    subst (λ (r : Recv). WhileLive (with_came id x all) (with_read id x read) r) found.2 (side_ok id x all read found.0 before.fine order keeps before.live)

-- ---- one step

-- where the server refuses early data, all is as at the start
early : (id : ℕ) (s : StreamsState) → Carries id (early_refused s) [] []
unfolding early_refused receiving_at run
early id s = record { rest = []; prefix = refl; none = λ is. (refl, refl); side = λ r is. absurd (some_not_none None r refl is) }

start : (id : ℕ) (side : Side) (uni bi window stream_window send_window : ℕ) (fair : Bool)
    → Carries id (new_streams side uni bi window stream_window send_window fair) [] []
unfolding new_streams receiving_at run
start id side uni bi window stream_window send_window fair =
    record { rest = []; prefix = refl; none = λ is. (refl, refl); side = λ r is. absurd (some_not_none None r refl is) }

-- ---- what it says of what was read

take_run : (o : ℕ) (bs : List ℕ) (w : List (ℕ × ℕ)) → take (length bs) (run o bs ++ w) ≡ run o bs
unfolding run
take_run o [] w = refl
take_run o (b ∷ bs) w = ap (λ (v : List (ℕ × ℕ)). (o, b) ∷ v) (take_run (suc o) bs w)

size_matches : (o : Option ℕ) (n m : ℕ) → match_size o n ≡ true → n ≡ m → o ≡ Some m
size_matches None n m is e = absurd (cc)
size_matches (Some k) n m is e = ap (λ (i : ℕ). let p : Option ℕ = Some i in p) (same_id k n is ∙ e)

-- where the end may be told, all was read
all_read : (id most : ℕ) (s : StreamsState) (all : List (ℕ × ℕ)) (read : List ℕ) → Carries id s all read → IsReadOf most true (receiving_at id s) (Ok None)
    → size_of (receiving_at id s) ≡ Some (length read)
unfolding IsReadOf IsRead is_at_end
all_read id most s all read c answer = by (receiving_at id s) refl answer
  where
    by : (p : Option Recv) → receiving_at id s ≡ p → IsReadOf most true p (Ok None) → size_of p ≡ Some (length read)
    by None is answer = absurd (cc)
    by (Some r) is answer = size_matches r.size r.read (length read) answer.3 (c.side r is (open_live true r answer.0 answer.1)).count

-- ---- all steps

module _ (steps : Steps) (stays : StaysOpened) where
  pub unopened_before : (id : ℕ) (x : Step) (s : StreamsState) → IsPossible x → keeps_streams x ≡ true → IsUnopened id (after_step x s) → IsUnopened id s
  unopened_before id x s can keeps then = by (was_opened s.side s.own s.peer id) refl
    where
      by : (b : Bool) → was_opened s.side s.own s.peer id ≡ b → b ≡ false
      by true is = absurd (false≢true (sym then ∙ stays id x s can keeps is))
      by false is = refl

  kept : (id : ℕ) (x : Step) (s : StreamsState) (all : List (ℕ × ℕ)) (read : List ℕ) → IsPossible x → IsTaken x s → IsAnswered x s → keeps_order id x ≡ true
      → keeps_streams x ≡ true → Holds s → Carries id s all read → Carries id (after_step x s) (with_came id x all) (with_read id x read)
  kept id x s all read can takes answers order keeps h c =
      let first = begins id x s all read answers order keeps c in record {
        rest = first.0;
        prefix = first.1;
        none = λ then.
            none_left id x s all read can takes answers keeps h (unopened_before id x s can keeps then) then (c.none (unopened_before id x s can keeps then));
        side = λ q is. side_then id x s all read q takes answers order keeps h c (steps id x s can h) is;
      }

  carries_step : (id : ℕ) (x : Step) (s : StreamsState) (all : List (ℕ × ℕ)) (read : List ℕ) → IsPossible x → IsTaken x s → IsAnswered x s
      → keeps_order id x ≡ true → Holds s → Carries id s all read → Carries id (after_step x s) (with_came id x all) (with_read id x read)
  unfolding after_step with_came with_read keeps_streams
  carries_step id EarlyRefused s all read can takes answers order h c = early id s
  carries_step id x s all read can takes answers order h c = kept id x s all read can takes answers order refl h c

  carries : (id : ℕ) (xs : List Step) (s : StreamsState) (all : List (ℕ × ℕ)) (read : List ℕ) → ArePossible xs → AreTaken xs s → AreAnswered xs s
      → list_all (λ x. keeps_order id x) xs ≡ true → Holds s → Carries id s all read → Carries id (after xs s) (came_on id xs all) (read_on id xs read)
  unfolding after came_on read_on ArePossible AreTaken AreAnswered
  carries id [] s all read can takes answers order h c = c
  carries id (x ∷ xs) s all read can takes answers order h c =
      let both = and_parts (keeps_order id x) (list_all (λ y. keeps_order id y) xs) order in
      carries id xs (after_step x s) (with_came id x all) (with_read id x read) can.1 takes.1 answers.1 both.1 (step_ok x s can.0 h)
      (carries_step id x s all read can.0 takes.0 answers.0 both.0 h c)

  -- What was read of a stream in order are the first of the bytes that came on it
  pub reads_came : (side : Side) (uni bi window stream_window send_window : ℕ) (fair : Bool) (xs : List Step)
      → ReadsWhatCame (new_streams side uni bi window stream_window send_window fair) xs
  unfolding ReadsWhatCame new_streams
  reads_came side uni bi window stream_window send_window fair xs = λ can takes answers id order.
      let s = new_streams side uni bi window stream_window send_window fair in
      let c = carries id xs s [] [] can takes answers order (nothing _) (start id side uni bi window stream_window send_window fair) in record {
        bytes = ap (λ (w : List (ℕ × ℕ)). take (length (read_on id xs [])) w) c.prefix ∙ take_run 0 (read_on id xs []) c.rest;
        end = λ most answer. all_read id most (after xs s) (came_on id xs []) (read_on id xs []) c answer;
      }

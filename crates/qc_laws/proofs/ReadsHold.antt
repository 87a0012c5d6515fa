-- Over a run from new streams on, what is read of a stream are the first of the bytes that came on it; and all stay within their credit.
use Rattle.std.proofs.Common.{◌≡◌, ◌⊎◌, inl, inr, ℕ, ◌+◌, ◌<◌, ◌^◌, List, [], ◌∷◌, ◌++◌, length, take, refl, ap, sym, ◌∙◌, subst, Bool, true, false, Option, Some, None, append_assoc, append-nil, arith}
use Rattle.std.specs.Prelude.{Result, Ok, Err, ◌==◌, ◌||◌}
use Rattle.std.specs.List.{list_any, list_all}
use Rattle.qc_assembler.specs.Assembly.{run}
use Rattle.qc_base.specs.declared.side.Side.{Side}
use Rattle.qc_recovery.specs.TransportValues.{TransportValues}
use Rattle.qc_recv.specs.declared.recv.Chunk.{Chunk}
use Rattle.qc_recv.specs.declared.recv.Recv.{Recv}
use Rattle.qc_streams.specs.declared.fault.ReadFault.{ReadFault}
use Rattle.qc_streams.specs.declared.fault.ReadFault.TheVariants as fault
use Rattle.qc_streams.specs.declared.state.StreamsState.{StreamsState}
use Rattle.qc_streams.specs.Calls.{IsRead, IsReadOf, receiving_at}
use Rattle.qc_streams.specs.Carried.{ReadsWhatCame, came_on, read_on, size_of, EndIsToldOnce, IsAnswered, TellsNothing, keeps_streams}
use Rattle.qc_streams.specs.Carried as carried
use Rattle.qc_streams.specs.Steps.{AllMay}
use Rattle.qc_streams.specs.Streams.{new_streams}
use Rattle.qc_streams.specs.Waits.{Step, after, EarlyRefused, Read, after_step}
use Rattle.qc_streams.specs.Within.{CreditIsKept, StaysWithin}
use Rattle.qc_streams.proofs.CarriedLaw.{reads_what_came, end_is_told_once}
use Rattle.qc_streams.proofs.StepsLaw.{after_append, may_answered, may_append, may_possible, may_taken}
use Rattle.qc_streams.proofs.WaitLaw.{nothing}
use Rattle.qc_streams.proofs.WaitSteps.{Holds}
use Rattle.qc_streams.proofs.WithinLaw.{credit_is_kept}
use Rattle.qc_state.specs.declared.input.Input.{Input}
use Rattle.qc_state.specs.declared.input.Input.TheVariants as input
use Rattle.qc_state.specs.declared.trace.Answer.{Answer}
use Rattle.qc_state.specs.declared.trace.Answer.TheVariants as answer
use Rattle.qc_state.specs.declared.trace.Step.{Step as TraceStep}
use Rattle.qc_state.specs.First.{first_streams}
use Rattle.qc_state.specs.Moves.{is_call, lower_move, state_move}
use Rattle.qc_state.specs.Run.{IsAllowed, IsStep, Run, answer_of, began, time_of}
use Rattle.qc_state.specs.Sending.{Choice}
use Rattle.qc_state.specs.Streams.{read_answer, call_answer, calls_of, had_memory}
use Rattle.qc_state.specs.Types.{Types, Meaning}
use Rattle.qc_state.specs.View.{View}
use Rattle.qc_laws.specs.ReadLaws.{EachEnd, EndIs, HasNewStreams, ReadsCame, ReadsTrace, TellsEnd, came_in, given_in, read_in, ClosedIs, EachClosed, ends_by, ends_in}
use Rattle.qc_laws.specs.StreamsLaws.{AreMade, FoldsStreams, MakesCall, MakesFrame, NoneOf, given_to_streams, is_came, is_other, with_steps, is_streams_call}
use Rattle.qc_laws.proofs.ReadEnds.{end_given, size_told, tells_end}
use Rattle.qc_laws.proofs.ReadSteps.{TakenOf, calls_ordered, calls_read, taken_of, none_back, or_first, or_rest}
use Rattle.qc_laws.proofs.StreamsFold.{run_folds, step_over}
use Rattle.qc_laws.proofs.StreamsMade.{made_append, none_append}
use Rattle.std.proofs.lemmas.Bool.Decides.{nat_tests}
use Rattle.qc_laws.proofs.HarmlessTests.{both}
use Rattle.qc_state.specs.declared.trace.Refusal.TheVariants as refusal

given_append : (calls more : List (Input × TraceStep)) → given_in (calls ++ more) ≡ given_in calls ++ given_in more
given_append [] more = refl
given_append (call ∷ calls) more =
    let now : List (List ℕ) = given_to_streams call.1.did in
    ap (λ (bodies : List (List ℕ)). now ++ bodies) (given_append calls more) ∙ sym (append_assoc now (given_in calls) (given_in more))

-- a read that answers that the end was read
ended_none : (read : Result (Option Chunk) ReadFault) → read_answer read ≡ answer.Ended → read ≡ Ok None
ended_none (Ok (Some c)) h = cc
ended_none (Ok None) h = refl
ended_none (Err fault.ClosedStream) h = cc
ended_none (Err fault.IllegalOrderedRead) h = cc
ended_none (Err (fault.Reset code)) h = cc
ended_none (Err fault.Blocked) h = cc
ended_none (Err fault.OutOfMemory) h = cc

-- one that tells nothing, and didn't want memory
closed_answer_of : (read : Result (Option Chunk) ReadFault) → TellsNothing read → had_memory read → read_answer read ≡ answer.Error refusal.ClosedStream
unfolding TellsNothing
closed_answer_of (Ok o) told memory = absurd told
closed_answer_of (Err fault.ClosedStream) told memory = refl
closed_answer_of (Err fault.IllegalOrderedRead) told memory = absurd told
closed_answer_of (Err (fault.Reset code)) told memory = absurd told
closed_answer_of (Err fault.Blocked) told memory = absurd told
closed_answer_of (Err fault.OutOfMemory) told memory = absurd memory

-- ---- where the end was told

-- among these steps one tells it
record TellsIt (id : ℕ) (steps : List Step) : Type 0 where
  pub front : List Step
  pub rest : List Step
  pub are : steps ≡ front ++ Read true (Ok None) id ∷ rest

same_id : (a b : ℕ) → (a == b) ≡ true → a ≡ b
same_id a b h = grind (arith, nat_tests)

-- an input that answers so makes such a step
call_tells : (id : ℕ) (i : Input) (a : Answer) (made : List Step) (read : Result (Option Chunk) ReadFault) (s : StreamsState) → made ≡ calls_of i read s → (is_streams_call i ≡ true → a ≡ call_answer i read s) → ends_by id i a ≡ true →
    made ≡ Read true (Ok None) id ∷ []
call_tells id (input.Read time j max) answer.Ended made read s makes answers h =
    makes ∙ ap (λ (r : Result (Option Chunk) ReadFault). Read true r j ∷ []) (ended_none read (sym (answers refl))) ∙ ap (λ (k : ℕ). Read true (Ok None) k ∷ []) (same_id j id h)
call_tells id (input.Read time j max) _ made read s makes answers h = cc
call_tells id _ a made read s makes answers h = cc

or_either : (a b : Bool) → (a || b) ≡ true → (a ≡ true) ⊎ (b ≡ true)
or_either true b h = inl refl
or_either false b h = inr h

calls_tell : (id : ℕ) (calls : List (Input × TraceStep)) (steps : List Step) (s : StreamsState) → AreMade is_call MakesCall calls steps s → ends_in id calls ≡ true → TellsIt id steps
calls_tell id [] steps s h e = cc
calls_tell id (call ∷ calls) steps s h e = by (λ later. calls_tell id calls h.2 (after h.1 (after h.0 s)) h.6 later) (or_either (ends_by id call.0 call.1.answer) (ends_in id calls) e)
  where
    by : (ends_in id calls ≡ true → TellsIt id h.2) → (ends_by id call.0 call.1.answer ≡ true) ⊎ (ends_in id calls ≡ true) → TellsIt id steps
    by others (inl now) =
        let does : MakesCall call h.1 (after h.0 s) = h.5 in
        let is : h.1 ≡ Read true (Ok None) id ∷ [] = call_tells id call.0 call.1.answer h.1 does.read (after h.0 s) does.makes does.answers now in
        record { front = h.0; rest = h.2; are = h.3 ∙ ap (λ (xs : List Step). h.0 ++ (xs ++ h.2)) is }
    by others (inr later) =
        let more : TellsIt id h.2 = others later in
        record {
          front = h.0 ++ (h.1 ++ more.front);
          rest = more.rest;
          are = h.3 ∙ ap (λ (xs : List Step). h.0 ++ (h.1 ++ xs)) more.are ∙ ap (λ (xs : List Step). h.0 ++ xs) (sym (append_assoc h.1 more.front (Read true (Ok None) id ∷ more.rest)))
              ∙ sym (append_assoc h.0 (h.1 ++ more.front) (Read true (Ok None) id ∷ more.rest));
        }

may_front : (xs ys : List Step) (s : StreamsState) → AllMay (xs ++ ys) s → AllMay xs s
unfolding AllMay
may_front [] ys s may = tt
may_front (x ∷ xs) ys s may = (may.0, may_front xs ys (after_step x s) may.1)

may_back : (xs ys : List Step) (s : StreamsState) → AllMay (xs ++ ys) s → AllMay ys (after xs s)
unfolding AllMay after
may_back [] ys s may = may
may_back (x ∷ xs) ys s may = may_back xs ys (after_step x s) may.1

-- no step refuses early data
stays_on : (x : Step) → is_other x ≡ false → keeps_streams x ≡ true
unfolding keeps_streams
stays_on EarlyRefused h = cc
stays_on _ h = refl

pub all_stay : (xs : List Step) → NoneOf is_other xs → list_all keeps_streams xs ≡ true
all_stay [] h = refl
all_stay (x ∷ xs) h = both (keeps_streams x) (list_all keeps_streams xs) (stays_on x (or_first (is_other x) (list_any is_other xs) h)) (all_stay xs (or_rest (is_other x) (list_any is_other xs) h))

-- ---- steps of the streams, over calls with their steps

pub record Reached (calls : List (Input × TraceStep)) (s s' : StreamsState) : Type 0 where
  pub steps : List Step
  pub may : AllMay steps s
  pub leads : s' ≡ after steps s
  pub handed : AreMade is_came MakesFrame (given_in calls) steps s
  pub called : AreMade is_call MakesCall calls steps s
  pub only : NoneOf is_other steps

pub reached_here : (s s' : StreamsState) → s' ≡ s → Reached [] s s'
unfolding AllMay after
reached_here s s' is = record { steps = []; may = tt; leads = is; handed = refl; called = refl; only = refl }

pub reached_next : (calls more : List (Input × TraceStep)) (u v w : StreamsState) → Reached calls u v → Reached more v w → Reached (calls ++ more) u w
reached_next calls more u v w g h = record {
  steps = g.steps ++ h.steps;
  may = may_append g.steps h.steps u g.may (subst (λ (x : StreamsState). AllMay h.steps x) g.leads h.may);
  leads = h.leads ∙ ap (λ (x : StreamsState). after h.steps x) g.leads ∙ sym (after_append g.steps h.steps u);
  handed = subst (λ (bodies : List (List ℕ)). AreMade is_came MakesFrame bodies (g.steps ++ h.steps) u) (sym (given_append calls more))
      (made_append is_came MakesFrame (given_in calls) (given_in more) g.steps h.steps u g.handed (subst (λ (x : StreamsState). AreMade is_came MakesFrame (given_in more) h.steps x) g.leads h.handed));
  called = made_append is_call MakesCall calls more g.steps h.steps u g.called (subst (λ (x : StreamsState). AreMade is_call MakesCall more h.steps x) g.leads h.called);
  only = none_append is_other g.steps h.steps g.only h.only;
}

module _ {t : Types} where
  -- those of an input
  pub step_reached : (m : Meaning t) (k : ℕ) (s : View t) (i : Input) (x : TraceStep) (s' : View t) → IsStep m k s i x s' → Reached ((i, x) ∷ []) s.lower.streams s'.lower.streams
  step_reached m k s i x s' h =
      let o = step_over m k s i x s' h in
      record {
        steps = o.steps;
        may = o.are.may;
        leads = o.leads;
        handed = subst (λ (bodies : List (List ℕ)). AreMade is_came MakesFrame bodies o.steps s.lower.streams) (sym (append-nil (given_to_streams x.did))) o.are.handed;
        called = o.are.called;
        only = o.are.only;
      }

-- ---- from new streams on

pub new_sound : (side : Side) (transport : TransportValues) → Holds (first_streams side transport)
unfolding new_streams
new_sound side transport = nothing _

new_none : (side : Side) (transport : TransportValues) (id : ℕ) → receiving_at id (first_streams side transport) ≡ None
unfolding new_streams receiving_at
new_none side transport id = refl

module _ (side : Side) (transport : TransportValues) where
  abbrev New : StreamsState
  New = first_streams side transport

  steps_read : (calls : List (Input × TraceStep)) (s : StreamsState) (r : Reached calls New s) (id : ℕ) → carried.ReadsCame id New r.steps
  unfolding ReadsWhatCame
  steps_read calls s r id =
      reads_what_came side _ _ _ _ _ _ r.steps (may_possible r.steps New r.may) (may_taken r.steps New r.may) (may_answered r.steps New r.may) id (calls_ordered id calls r.steps New r.called)

  same_read : (calls : List (Input × TraceStep)) (s : StreamsState) (r : Reached calls New s) (id : ℕ) → read_on id r.steps [] ≡ read_in id calls
  same_read calls s r id = calls_read id calls r.steps New [] r.called r.only

  -- where the end was told to the application, a step told it
  end_by : (calls : List (Input × TraceStep)) (s : StreamsState) (r : Reached calls New s) (id max n : ℕ) (p : Option Recv) → receiving_at id (after r.steps New) ≡ p → IsReadOf max true p (Ok None) → size_of p ≡ Some n →
      list_any (tells_end id n) r.steps ≡ true
  unfolding IsReadOf IsRead
  end_by calls s r id max n None is answer size = cc
  end_by calls s r id max n (Some q) is answer size = size_told id n r.steps New q r.may (new_sound side transport) (new_none side transport id) is answer.1 size

  end_told : (calls : List (Input × TraceStep)) (s : StreamsState) (r : Reached calls New s) (id max : ℕ) (read : Result (Option Chunk) ReadFault) → IsReadOf max true (receiving_at id s) read → read ≡ Ok None →
      TellsEnd id (length (read_in id calls)) (given_in calls)
  end_told calls s r id max read answers is =
      let t : StreamsState = after r.steps New in
      let n : ℕ = length (read_on id r.steps []) in
      let none : IsReadOf max true (receiving_at id t) (Ok None) = subst (λ (x : StreamsState). IsReadOf max true (receiving_at id x) (Ok None)) r.leads (subst (λ (x : Result (Option Chunk) ReadFault). IsReadOf max true (receiving_at id s) x) is answers) in
      let told : list_any (tells_end id n) r.steps ≡ true = end_by calls s r id max n (receiving_at id t) refl none ((steps_read calls s r id).end max none) in
      subst (λ (k : ℕ). TellsEnd id k (given_in calls)) (ap (λ (bs : List ℕ). length bs) (same_read calls s r id)) (end_given id n (given_in calls) r.steps New r.handed told)

  -- once the end was told, a read answers that the stream is closed
  closed_by : (calls : List (Input × TraceStep)) (s : StreamsState) (r : Reached calls New s) (id max : ℕ) (read : Result (Option Chunk) ReadFault) → TellsIt id r.steps → IsReadOf max true (receiving_at id s) read → TellsNothing read
  unfolding AllMay after EndIsToldOnce IsAnswered
  closed_by calls s r id max read told answers =
      let x : Step = Read true (Ok None) id in
      let t : StreamsState = after told.front New in
      let may : AllMay (told.front ++ x ∷ told.rest) New = subst (λ (xs : List Step). AllMay xs New) told.are r.may in
      let behind : AllMay (x ∷ told.rest) t = may_back told.front (x ∷ told.rest) New may in
      let first : (most : ℕ) × IsReadOf most true (receiving_at id t) (Ok None) = behind.0.answered in
      let rest : AllMay told.rest (after_step x t) = behind.1 in
      let none : NoneOf is_other (told.front ++ x ∷ told.rest) = subst (λ (xs : List Step). NoneOf is_other xs) told.are r.only in
      let stay : NoneOf is_other told.rest = or_rest (is_other x) (list_any is_other told.rest) (none_back is_other told.front (x ∷ told.rest) none) in
      let there : s ≡ after told.rest (after_step x t) = r.leads ∙ ap (λ (xs : List Step). after xs New) told.are ∙ after_append told.front (x ∷ told.rest) New in
      end_is_told_once side _ _ _ _ _ _ told.front (may_possible told.front New (may_front told.front (x ∷ told.rest) New may)) id first.0 max true true told.rest first.1 (may_possible told.rest (after_step x t) rest) (all_stay told.rest stay) read
      (subst (λ (y : StreamsState). IsReadOf max true (receiving_at id y) read) there answers)

  module _ {t : Types} (m : Meaning t) where
    closed_is : (before : List (Input × TraceStep)) (s : View t) → Reached before New s.lower.streams → (i : Input) (x : TraceStep) (choice : Choice) → IsAllowed m i choice (began s (time_of i)) → x.answer ≡ answer_of m i choice (began s (time_of i)) →
        ClosedIs i x.answer before
    unfolding IsAllowed answer_of began state_move lower_move
    closed_is before s r (input.Read time id max) x choice may answers = λ ended.
        answers ∙ closed_answer_of choice.read (closed_by before s.lower.streams r id max choice.read (calls_tell id before r.steps New r.called ended) may.0) may.1
    closed_is before s r _ x choice may answers = tt

    end_is : (before : List (Input × TraceStep)) (s : View t) → Reached before New s.lower.streams → (i : Input) (x : TraceStep) (choice : Choice) → IsAllowed m i choice (began s (time_of i)) → x.answer ≡ answer_of m i choice (began s (time_of i)) →
        (a : Answer) → x.answer ≡ a → EndIs i a before
    unfolding IsAllowed answer_of began state_move lower_move
    end_is before s r (input.Read time id max) x choice may answers answer.Ended is = end_told before s.lower.streams r id max choice.read may.0 (ended_none choice.read (sym answers ∙ is))
    end_is before s r (input.Read time id max) x choice may answers _ is = tt
    end_is before s r _ x choice may answers a is = tt

    reads_from : (k : ℕ) (before : List (Input × TraceStep)) (s : View t) (is : List Input) (xs : List TraceStep) (s' : View t) → Reached before New s.lower.streams → Run m k s is xs s' →
        EachEnd before (with_steps is xs) × EachClosed before (with_steps is xs) × Reached (before ++ with_steps is xs) New s'.lower.streams
    unfolding Run
    reads_from k before s [] [] s' r goes =
        (tt, tt, subst (λ (calls : List (Input × TraceStep)). Reached calls New s'.lower.streams) (sym (append-nil before)) (subst (λ (v : View t). Reached before New v.lower.streams) (sym goes) r))
    reads_from k before s (i ∷ is) (x ∷ xs) s' r goes =
        let h = goes.1 in
        let mid : View t = goes.0 in
        let more : Reached (before ++ (i, x) ∷ []) New mid.lower.streams = reached_next before ((i, x) ∷ []) New s.lower.streams mid.lower.streams r (step_reached m k s i x mid h) in
        let rest = reads_from (k + 1) (before ++ (i, x) ∷ []) mid is xs s' more goes.2 in (
          (end_is before s r i x h.choice h.allowed h.answer x.answer refl, rest.0),
          (closed_is before s r i x h.choice h.allowed h.answer, rest.1),
          subst (λ (calls : List (Input × TraceStep)). Reached calls New s'.lower.streams) (append_assoc before ((i, x) ∷ []) (with_steps is xs)) rest.2,
        )
    reads_from k before s [] (x ∷ xs) s' r goes = absurd goes
    reads_from k before s (i ∷ is) [] s' r goes = absurd goes

  -- what was read, said of all calls
  came_of : (calls : List (Input × TraceStep)) (s : StreamsState) → EachEnd [] calls → EachClosed [] calls → Reached calls New s → ReadsCame calls
  came_of calls s ends once r =
      let k : TakenOf (given_in calls) r.steps = taken_of (given_in calls) r.steps New r.handed r.only in
      record {
        taken = k.taken;
        among = k.are;
        reads = λ id. subst (λ (bs : List ℕ). take (length bs) (came_in id k.taken []) ≡ run 0 bs) (same_read calls s r id)
            (subst (λ (c : List (ℕ × ℕ)). take (length (read_on id r.steps [])) c ≡ run 0 (read_on id r.steps [])) (k.came id []) (steps_read calls s r id).bytes);
        ends = ends;
        once = once;
      }

-- ---- runs

module _ {t : Types} where
  pub run_reads : (m : Meaning t) (k : ℕ) (s : View t) (is : List Input) (xs : List TraceStep) (s' : View t) → Run m k s is xs s' → HasNewStreams s → ReadsTrace is xs
  unfolding ReadsTrace
  run_reads m k s is xs s' r new =
      let all = reads_from new.0 new.1 m k [] s is xs s' (reached_here (first_streams new.0 new.1) s.lower.streams new.2) r in
      came_of new.0 new.1 (with_steps is xs) s'.lower.streams all.0 all.1 all.2

  pub run_within : (side : Side) (transport : TransportValues) (m : Meaning t) (k : ℕ) (s : View t) (is : List Input) (xs : List TraceStep) (s' : View t) → Run m k s is xs s' → s.lower.streams ≡ first_streams side transport →
      transport.receive_window < 2 ^ 64 → transport.stream_receive_window < 2 ^ 64 → StaysWithin s'.lower.streams
  unfolding CreditIsKept
  run_within side transport m k s is xs s' r new window stream_window =
      let f : FoldsStreams is xs s s' = run_folds m k s is xs s' r in
      let leads : s'.lower.streams ≡ after f.steps (first_streams side transport) = f.leads ∙ ap (λ (x : StreamsState). after f.steps x) new in
      let may : AllMay f.steps (first_streams side transport) = subst (λ (x : StreamsState). AllMay f.steps x) new f.may in
      subst (λ (x : StreamsState). StaysWithin x) (sym leads) (credit_is_kept side _ _ _ _ _ _ f.steps window stream_window (may_taken f.steps (first_streams side transport) may))

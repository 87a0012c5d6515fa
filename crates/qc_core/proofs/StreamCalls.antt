-- The application's calls on the streams are moves of the connection, one a step of theirs; and the reason of the end is told behind their
-- events.
use Rattle.std.proofs.Common.{◌≡◌, ℕ, List, [], ◌∷◌, refl, ap, sym, ◌∙◌, subst, true, Option, None, Result, Err}
use Rattle.rand_core.specs.Stream.{Stream}
use Rattle.qc_recv.specs.declared.recv.Chunk.{Chunk}
use Rattle.qc_state.specs.declared.events.Event.{Event}
use Rattle.qc_state.specs.declared.input.Input.{Input}
use Rattle.qc_state.specs.declared.input.Input.TheVariants as input
use Rattle.qc_state.specs.declared.trace.Answer.{Answer}
use Rattle.qc_state.specs.Life.{lost_event}
use Rattle.qc_state.specs.Lower.{streams_stepped}
use Rattle.qc_state.specs.Moves.{Call, ReportStream, deeds_move, keys_move, life_move, lower_move, move_to, numbers_move, paths_move, setup_move, state_move, timers_move, waiting_move}
use Rattle.qc_state.specs.Polls.{stream_first}
use Rattle.qc_state.specs.Run.{called_all}
use Rattle.qc_state.specs.Streams.{MayRead, call_answer, calls_of, had_memory, read_answer}
use Rattle.qc_state.specs.Types.{Types}
use Rattle.qc_state.specs.View.{At, Held, View, at, ideal}
use Rattle.qc_streams.specs.Calls.{IsReadOf, after_read, gives, receiving_at}
use Rattle.qc_streams.specs.Owed.{next_event}
use Rattle.qc_streams.specs.declared.events.StreamEvent.{StreamEvent}
use Rattle.qc_streams.specs.declared.fault.ReadFault.{ReadFault}
use Rattle.qc_streams.specs.declared.fault.ReadFault.TheVariants as fault
use Rattle.qc_streams.specs.declared.state.StreamsState.{StreamsState}
use Rattle.qc_streams.specs.Waits.{Step, after, after_step}
use Rattle.qc_core.specs.StreamCalls.{Answers, CallsStreams}

-- what a read answers
pub read_answers : (time id max : ℕ) (read : Result (Option Chunk) ReadFault) (s s' : StreamsState) (answer : Answer) →
    IsReadOf max true (receiving_at id s) read → had_memory read → s' ≡ gives (after_read true read) id s → answer ≡ read_answer read → Answers (input.Read time id max) s s' answer
unfolding after after_step
read_answers time id max read s s' answer may memory leads answers = record { read = read; may = (may, memory); leads = leads; answers = answers }

-- what any other call does: what a read answers isn't asked
pub answers : (i : Input) (s s' : StreamsState) (answer : Answer) → MayRead i (Err fault.Blocked) s → s' ≡ after (calls_of i (Err fault.Blocked) s) s → answer ≡ call_answer i (Err fault.Blocked) s → Answers i s s' answer
answers i s s' answer may leads is = record { read = Err fault.Blocked; may = may; leads = leads; answers = is }

module _ {t : Types} where
  -- calls change the streams alone
  stepped : (xs : List Step) (a : At t) → (called_all xs a).state ≡ record a.state { lower = streams_stepped xs a.state.lower }
  unfolding streams_stepped after move_to state_move deeds_move keys_move life_move lower_move numbers_move paths_move setup_move timers_move waiting_move
  stepped [] a = refl
  stepped (x ∷ xs) a = stepped xs (move_to (Call x) a)

  -- a call of the view's streams
  pub calls_streams : (i : Input) (s s' : View t) (answer : Answer) → Answers i s.lower.streams s'.lower.streams answer → s' ≡ record s { lower = record s.lower { streams = s'.lower.streams } } → CallsStreams i s s' answer
  unfolding streams_stepped
  calls_streams i s s' answer h alone = record {
    read = h.read;
    may = h.may;
    leads = alone ∙ ap (λ (x : StreamsState). record s { lower = record s.lower { streams = x } }) h.leads ∙ sym (stepped (calls_of i h.read s.lower.streams) (at s []));
    answers = h.answers;
  }

module _ {t : Types} {R : Type 0} (stream : R → Stream) where
  -- so it is of a core, where only its streams were lent to the call
  pub core_calls : (i : Input) (v w : Held t R) (x : StreamsState) (answer : Answer) → w ≡ v → Answers i w.lower.streams x answer → CallsStreams i (ideal stream v) (ideal stream (record w { lower = record w.lower { streams = x } })) answer
  core_calls i v w x answer same h =
      subst (λ (y : Held t R). CallsStreams i (ideal stream y) (ideal stream (record w { lower = record w.lower { streams = x } })) answer) same
      (calls_streams i (ideal stream w) (ideal stream (record w { lower = record w.lower { streams = x } })) answer h refl)

module _ {t : Types} where
  -- where the streams have no event, the reason of the end is first
  pub lost_first : (s mid : View t) (told : Option StreamEvent) (event : Option Event) → told ≡ next_event s.lower.streams → told ≡ None → mid ≡ state_move ReportStream s → event ≡ lost_event mid.life →
      event ≡ stream_first (next_event s.lower.streams) (lost_event s.life)
  unfolding state_move life_move
  lost_first s mid told event is none leads lost =
      lost ∙ ap (λ (v : View t). lost_event v.life) leads ∙ sym (ap (λ (e : Option StreamEvent). stream_first e (lost_event s.life)) (sym is ∙ none))

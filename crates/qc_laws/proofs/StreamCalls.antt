-- What holds of each call of the streams that may be made holds of the inputs that make them; and what is told of a frame that the
-- streams are handed is its gift, or nothing.
use Rattle.std.proofs.Common.{◌≡◌, ℕ, List, [], ◌∷◌, refl, Bool, true, false, Option, Some, None, if◌then◌else◌, arith}
use Rattle.std.specs.Prelude.{not, is_some, Result}
use Rattle.std.specs.declared.net.SocketAddr.{SocketAddr}
use Rattle.qc_frame.specs.Frame.{FrameValue}
use Rattle.qc_frame.specs.FrameSpelling.{spelling}
use Rattle.qc_recv.specs.declared.recv.Chunk.{Chunk}
use Rattle.qc_send_stream.specs.declared.fault.WriteError.{WriteError}
use Rattle.qc_streams.specs.declared.fault.ReadFault.{ReadFault}
use Rattle.qc_streams.specs.declared.state.StreamsState.{StreamsState}
use Rattle.qc_streams.specs.Calls.{bars_reset, closed_to, finish_refusal, known_at, receiving_at, write_refusal}
use Rattle.qc_streams.specs.Carried.{IsAnswered}
use Rattle.qc_streams.specs.Counts.{by_dir, has_accepted}
use Rattle.qc_streams.specs.Steps.{IsSealedSo, MayStep}
use Rattle.qc_streams.specs.Streams.{may_open}
use Rattle.qc_streams.specs.Waits as streams
use Rattle.qc_streams.specs.Waits.{IsPossible, after, after_step}
use Rattle.qc_streams.specs.Within.{IsTaken}
use Rattle.qc_state.specs.declared.deeds.Did.{Did}
use Rattle.qc_state.specs.declared.deeds.Did.TheVariants as did
use Rattle.qc_state.specs.declared.deeds.Layer.TheVariants as layer
use Rattle.qc_state.specs.declared.input.Input.{Input}
use Rattle.qc_state.specs.declared.input.Input.TheVariants as input
use Rattle.qc_state.specs.declared.life.Life.{Life}
use Rattle.qc_state.specs.Life.{datagram_heard, retirement_told, token_learned, token_told}
use Rattle.qc_state.specs.Lower.{streams_stepped}
use Rattle.qc_state.specs.Moves.{Call, MayMove, is_call, lower_move, move_to, state_move, told_to_streams}
use Rattle.qc_state.specs.Run.{called_all}
use Rattle.qc_state.specs.Streams.{MayRead, calls_of, count_written, is_given_to_streams, unless, write_steps}
use Rattle.qc_state.specs.Types.{Types}
use Rattle.qc_state.specs.View.{At}

-- ---- frames

-- what holds of no deed, and of a gift to the streams, holds of what is told of a frame that they are handed
pub handed_told : (P : List Did → Type 0) (frame : FrameValue) → P [] → ((body : List ℕ) → P (did.Gave layer.Streams body ∷ [])) → P (told_to_streams frame)
handed_told P frame none gave = told_by (is_given_to_streams frame)
  where
    told_by : (b : Bool) → P (if b then did.Gave layer.Streams (spelling frame) ∷ [] else [])
    told_by true = gave (spelling frame)
    told_by false = none

-- that a datagram came changes nothing else of a life than what waits of datagrams
pub heard_state : (b : Bool) (v : Life) → (datagram_heard b v).state ≡ v.state
unfolding datagram_heard
heard_state true v = refl
heard_state false v = refl

-- nor does it that a token of the peer's is told to the endpoint, where one came with an id, or that the peer retired an id of this end
pub named_state : (o : Option (List ℕ)) (v : Life) (remote : SocketAddr) → (token_told v remote o).state ≡ v.state
unfolding token_learned
named_state None v remote = refl
named_state (Some token) v remote = refl

pub retired_state : (b : Bool) (v : Life) (time n : ℕ) (more : Bool) → (if b then retirement_told v time n more else v).state ≡ v.state
unfolding retirement_told
retired_state true v time n more = refl
retired_state false v time n more = refl

-- ---- calls

-- each of these steps is a call that may be made, as its turn comes
abbrev pub AreCalls : List streams.Step → StreamsState → Type 0
AreCalls [] s = Unit {0}
AreCalls (x ∷ xs) s = ((is_call x ≡ true) × MayStep x s) × AreCalls xs (after_step x s)

unless_calls : (refused : Bool) (x : streams.Step) (s : StreamsState) → is_call x ≡ true → (refused ≡ false → MayStep x s) → AreCalls (unless refused x) s
unless_calls true x s call may = tt
unless_calls false x s call may = ((call, may refl), tt)

not_refused : (b : Bool) → not b ≡ false → b ≡ true
not_refused true h = refl
not_refused false h = cc

write_calls : (o : Option WriteError) (id : ℕ) (body : List ℕ) (s : StreamsState) → AreCalls (write_steps o id (count_written id body s) body) s
unfolding IsPossible IsTaken IsAnswered IsSealedSo count_written
write_calls None id body s = ((refl, record { possible = tt; taken = omega arith; answered = tt; sealed = tt }), tt)
write_calls (Some e) id body s = ((refl, record { possible = tt; taken = tt; answered = tt; sealed = tt }), tt)

-- so it is with those of an input
pub calls_may : (i : Input) (read : Result (Option Chunk) ReadFault) (s : StreamsState) → MayRead i read s → AreCalls (calls_of i read s) s
unfolding IsPossible IsTaken IsAnswered IsSealedSo
calls_may (input.Open time dir) read s h =
    unless_calls (not (may_open dir s)) (streams.Opened dir) s refl (λ e. record { possible = tt; taken = not_refused (may_open dir s) e; answered = tt; sealed = tt })
calls_may (input.Accept time dir) read s h = unless_calls (has_accepted (by_dir dir s.peer)) (streams.Accepted dir) s refl (λ e. record { possible = tt; taken = tt; answered = tt; sealed = tt })
calls_may (input.Write time id body) read s h = write_calls (write_refusal id s) id body s
calls_may (input.Finish time id) read s h = unless_calls (is_some (finish_refusal (known_at id s))) (streams.Finished id) s refl (λ e. record { possible = tt; taken = tt; answered = tt; sealed = tt })
calls_may (input.ResetSend time id code) read s h = unless_calls (bars_reset (known_at id s)) (streams.WasReset code id) s refl (λ e. record { possible = tt; taken = tt; answered = tt; sealed = tt })
calls_may (input.StopRecv time id code) read s h = unless_calls (closed_to (receiving_at id s)) (streams.Stopped code id) s refl (λ e. record { possible = tt; taken = tt; answered = tt; sealed = tt })
calls_may (input.Read time id max) read s h = ((refl, record { possible = tt; taken = tt; answered = (max, h.0); sealed = tt }), tt)
calls_may (input.MaxStreams time dir count) read s h = ((refl, record { possible = tt; taken = tt; answered = tt; sealed = tt }), tt)
calls_may (input.SendWindow time size) read s h = ((refl, record { possible = tt; taken = tt; answered = tt; sealed = tt }), tt)
calls_may (input.ReceiveWindow time size) read s h = ((refl, record { possible = tt; taken = tt; answered = tt; sealed = tt }), tt)
calls_may _ read s h = tt

-- what holds of no move, of two moves one after the other, and of each call of the streams, where it may be made, holds of the calls that
-- an input makes
module _ {t : Types} (R : At t → At t → Type 0) (here : (a : At t) → R a a) (next : (a b c : At t) → R a b → R b c → R a c)
    (call : (x : streams.Step) (a : At t) → MayMove (Call x) a.state → R a (move_to (Call x) a)) where
  called_holds : (xs : List streams.Step) (a : At t) → AreCalls xs a.state.lower.streams → R a (called_all xs a)
  unfolding MayMove move_to state_move lower_move streams_stepped after
  called_holds [] a may = here a
  called_holds (x ∷ xs) a may = let b : At t = move_to (Call x) a in next a b _ (call x a may.0) (called_holds xs b may.1)

  pub called_input : (i : Input) (read : Result (Option Chunk) ReadFault) (a : At t) → MayRead i read a.state.lower.streams → R a (called_all (calls_of i read a.state.lower.streams) a)
  called_input i read a may = called_holds (calls_of i read a.state.lower.streams) a (calls_may i read a.state.lower.streams may)

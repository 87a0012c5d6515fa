-- What the application's calls make of the streams, and what they answer. Of a read it is free how many of the bytes that can be read it gives.
use Rattle.std.specs.Prelude.{◌≡◌, [], Option, Result}
use Rattle.qc_recv.specs.declared.recv.Chunk.{Chunk}
use Rattle.qc_state.specs.declared.input.Input.{Input}
use Rattle.qc_state.specs.declared.trace.Answer.{Answer}
use Rattle.qc_state.specs.Run.{called_all}
use Rattle.qc_state.specs.Streams.{MayRead, call_answer, calls_of}
use Rattle.qc_state.specs.Types.{Types}
use Rattle.qc_state.specs.View.{View, at}
use Rattle.qc_streams.specs.declared.fault.ReadFault.{ReadFault}
use Rattle.qc_streams.specs.declared.state.StreamsState.{StreamsState}
use Rattle.qc_streams.specs.Waits.{after}

-- what an input makes of the streams by its call of theirs, and its answer
pub record Answers (i : Input) (s s' : StreamsState) (answer : Answer) : Type 0 where
  pub read : Result (Option Chunk) ReadFault
  pub may : MayRead i read s
  pub leads : s' ≡ after (calls_of i read s) s
  pub answers : answer ≡ call_answer i read s

module _ {t : Types} where
  -- so it is of the view, where it changes the streams alone
  pub record CallsStreams (i : Input) (s s' : View t) (answer : Answer) : Type 0 where
    pub read : Result (Option Chunk) ReadFault
    pub may : MayRead i read s.lower.streams
    pub leads : s' ≡ (called_all (calls_of i read s.lower.streams) (at s [])).state
    pub answers : answer ≡ call_answer i read s.lower.streams

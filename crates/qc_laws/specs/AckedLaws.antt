-- Laws over whole runs, said of the frames of streams that are acknowledged (RFC 9000, sections 3.1 and 13.3).
use Rattle.std.specs.Prelude.{◌≡◌, Bool, true, false, List, [], ◌∷◌, ◌++◌, filter}
use Rattle.qc_flight.specs.Packets.{Entry}
use Rattle.qc_streams.specs.Waits.{Step, BytesAcked, ControlAcked}
use Rattle.qc_state.specs.declared.input.Input.{Input}
use Rattle.qc_state.specs.declared.trace.Step.{Step as TraceStep}
use Rattle.qc_state.specs.Headline.{deeds_of}
use Rattle.qc_state.specs.StreamFrames.{acked_steps}
use Rattle.qc_state.specs.Types.{Types, Meaning}
use Rattle.qc_state.specs.View.{View}
use Rattle.qc_laws.specs.RecoveryLaws.{Capped, Dropped, Fired, Probed, RecoveryStep, Recovers, Sent, Settled, Spent, Told}
use Rattle.qc_laws.specs.StreamsLaws.{FoldsStreams}

-- whether a step of the streams is that a frame which was sealed is acknowledged
abbrev pub is_acked : Step → Bool
is_acked (ControlAcked c) = true
is_acked (BytesAcked id start end last) = true
is_acked _ = false

module _ {C : Type 0} where
  -- the packets that steps of loss recovery acknowledged, in order, of whatever space
  abbrev pub all_acked : List (RecoveryStep C) → List Entry
  all_acked [] = []
  all_acked (Settled space ack after ∷ xs) = after.acked ++ all_acked xs
  all_acked (Sent space number packet ∷ xs) = all_acked xs
  all_acked (Fired after ∷ xs) = all_acked xs
  all_acked (Dropped space ∷ xs) = all_acked xs
  all_acked (Spent tokens ∷ xs) = all_acked xs
  all_acked (Told control ∷ xs) = all_acked xs
  all_acked (Capped size ∷ xs) = all_acked xs
  all_acked (Probed time number ∷ xs) = all_acked xs

module _ {t : Types} where
  -- From one view to another, over inputs whose trace is this, loss recovery and the streams made steps. Those with which frames of streams are
  -- acknowledged are the ones of the frames in the packets that recovery acknowledged, in order, none left out and none made up. And such a
  -- packet was sealed with these frames, where it wasn't in flight before, and an ACK in an admitted packet acknowledges its number, as
  -- recovery's steps say.
  pub record AcksFrames (m : Meaning t) (is : List Input) (xs : List TraceStep) (s s' : View t) : Type 0 where
    pub recovers : Recovers m (deeds_of xs) s s'
    pub streams : FoldsStreams is xs s s'
    pub acked : filter is_acked streams.steps ≡ acked_steps (all_acked recovers.steps)

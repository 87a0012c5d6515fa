-- What a frame leaves of its packet and of a connection that stands so, what the frames of a packet have made so far, and the reason that a
-- close gives.
use Rattle.std.specs.Prelude.{Bool, true, false, Option, None, Some}
use Rattle.qc_admit.specs.declared.behind.Behind.{Behind}
use Rattle.qc_admit.specs.declared.behind.Behind.TheVariants.{Goes, Closes, Ends}
use Rattle.qc_frame.specs.Frame.{FrameValue}
use Rattle.qc_frame.specs.declared.frames.FrameOf.TheVariants as frames
use Rattle.qc_state.specs.declared.life.ConnectionError.{ConnectionError}
use Rattle.qc_state.specs.declared.life.ConnectionError.TheVariants as lost
use Rattle.qc_state.specs.Receiving as receiving
use Rattle.qc_state.specs.Types.{Types}
use Rattle.qc_state.specs.View.{At}

-- the reason for the end that a close gives, and none of another frame
abbrev pub close_reason : FrameValue → Option ConnectionError
close_reason (frames.ConnectionClose code type reason) = Some (lost.ConnectionClosed (record { error_code = code; frame_type = type; reason = reason }))
close_reason (frames.ApplicationClose code reason) = Some (lost.ApplicationClosed (record { error_code = code; reason = reason }))
close_reason _ = None

module _ {t : Types} where
  -- what a frame leaves
  abbrev pub left_by : Behind → At t → receiving.Behind t
  left_by Goes a = receiving.Goes a
  left_by (Closes why) a = receiving.Closes why a
  left_by Ends a = receiving.Ends a

  -- what the frames made so far: those behind them are next, and this was the last close, or one of them ended the packet
  abbrev pub course_of : (goes : Bool) → Option ConnectionError → At t → receiving.Course t
  course_of true close a = receiving.Reads close a
  course_of false close a = receiving.Ended a

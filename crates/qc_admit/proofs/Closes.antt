-- A close does what its kind does, for the reason that it gives.
use Rattle.std.proofs.Common.{◌≡◌, ◌∙◌, Some, Result, Ok, Err}
use Rattle.std.specs.Prelude.{IfOk}
use Rattle.std.specs.declared.alloc.AllocError.{AllocError}
use Rattle.qc_base.specs.declared.side.SpaceId.{SpaceId}
use Rattle.qc_frame.specs.Frame.{FrameValue}
use Rattle.qc_frame.specs.declared.frames.FrameOf.TheVariants as frames
use Rattle.qc_state.specs.declared.coming.Coming.{Coming}
use Rattle.qc_state.specs.declared.life.ConnectionError.{ConnectionError}
use Rattle.qc_state.specs.Receiving.{applied_after, close_after}
use Rattle.qc_state.specs.Types.{Types, Meaning}
use Rattle.qc_state.specs.View.{At}
use Rattle.qc_admit.specs.Behind.{close_reason, left_by}
use Rattle.qc_admit.specs.declared.behind.Behind.{Behind}

module _ {t : Types} where
  closes : (m : Meaning t) (coming : Coming) (id : SpaceId) (frame : FrameValue) (why : ConnectionError) (a : At t) → close_reason frame ≡ Some why → close_after coming id frame why a ≡ applied_after m coming id frame a
  unfolding applied_after
  closes m coming id (frames.ConnectionClose code type reason) why a is = cc
  closes m coming id (frames.ApplicationClose code reason) why a is = cc
  closes m coming id frames.Padding why a is = cc
  closes m coming id frames.Ping why a is = cc
  closes m coming id (frames.Ack ack) why a is = cc
  closes m coming id (frames.ResetStream stream code size) why a is = cc
  closes m coming id (frames.StopSending stream code) why a is = cc
  closes m coming id (frames.Crypto offset body) why a is = cc
  closes m coming id (frames.NewToken token) why a is = cc
  closes m coming id (frames.Stream stream offset fin body) why a is = cc
  closes m coming id (frames.MaxData limit) why a is = cc
  closes m coming id (frames.MaxStreamData stream limit) why a is = cc
  closes m coming id (frames.MaxStreams dir count) why a is = cc
  closes m coming id (frames.DataBlocked limit) why a is = cc
  closes m coming id (frames.StreamDataBlocked stream limit) why a is = cc
  closes m coming id (frames.StreamsBlocked dir limit) why a is = cc
  closes m coming id (frames.NewConnectionId cid) why a is = cc
  closes m coming id (frames.RetireConnectionId sequence) why a is = cc
  closes m coming id (frames.PathChallenge token) why a is = cc
  closes m coming id (frames.PathResponse token) why a is = cc
  closes m coming id frames.HandshakeDone why a is = cc
  closes m coming id (frames.Datagram body) why a is = cc

  -- so it is with what is left of its packet
  pub closed_so : (m : Meaning t) (r : Result Behind AllocError) (coming : Coming) (id : SpaceId) (frame : FrameValue) (why : ConnectionError) (a b : At t) → close_reason frame ≡ Some why →
      IfOk r (λ behind. left_by behind b ≡ close_after coming id frame why a) → IfOk r (λ behind. left_by behind b ≡ applied_after m coming id frame a)
  closed_so m (Ok behind) coming id frame why a b is h = h ∙ closes m coming id frame why a is
  closed_so m (Err e) coming id frame why a b is h = tt

use Rattle.std.proofs.Common.{ℕ, List}
use Rattle.qc_frame.specs.Frame.{FrameValue}
use Rattle.qc_state.specs.declared.waiting.SpaceWaiting.{SpaceWaiting}
use Rattle.qc_state.specs.Taking.{TakesCrypto}
use Rattle.qc_state.proofs.taking.take_crypto.Given as goal

-- what is taken from here on is taken behind what was taken
abbrev pub invariant-loop-left : goal.invariant-loop-left
invariant-loop-left l = (w : SpaceWaiting) → (gs : List FrameValue) → (n : ℕ) → TakesCrypto l.left l.space w l.frames gs n → TakesCrypto l.room l.fn.space w l.fn.frames gs n

abbrev pub decreases-loop-left : goal.decreases-loop-left
decreases-loop-left l = l.left

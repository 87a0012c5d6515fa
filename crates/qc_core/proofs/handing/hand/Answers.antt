use Rattle.std.proofs.Common.{subst, sym}
use Rattle.qc_frame.specs.FrameFits.{Fits}
use Rattle.qc_core.proofs.handing.hand.Goals as goal

-- the frame with bytes of its own has the same value
pub hand-requires : goal.hand-requires
hand-requires g c = subst Fits (sym c.in_ok-frame.ensures) c.requires

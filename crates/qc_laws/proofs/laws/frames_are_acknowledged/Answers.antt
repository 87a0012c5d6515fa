use Rattle.qc_laws.proofs.FramesAcked.{run_acks_frames}
use Rattle.qc_laws.proofs.laws.frames_are_acknowledged.Goals as goal

pub returns : goal.returns
returns g c s last k is xs run ends = run_acks_frames _ k s is xs last run ends

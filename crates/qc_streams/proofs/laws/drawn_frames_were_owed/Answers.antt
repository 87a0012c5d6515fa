use Rattle.qc_streams.proofs.StepsLaw.{next_owes}
use Rattle.qc_streams.proofs.laws.drawn_frames_were_owed.Goals as goal

pub returns : goal.returns
returns c = next_owes

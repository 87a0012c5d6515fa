use Rattle.qc_laws.proofs.PieceLaws.{step_tells}
use Rattle.qc_laws.proofs.laws.steps_tell.Goals as goal

pub returns : goal.returns
returns g c s s' k coming bytes x step = step_tells _ k s coming bytes x s' step

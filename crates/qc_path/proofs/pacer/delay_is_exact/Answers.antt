use Rattle.qc_path.proofs.Paces.{delay_enough, delay_needed}
use Rattle.qc_path.proofs.pacer.delay_is_exact.Goals as goal

pub returns-clause-enough : goal.returns-clause-enough
returns-clause-enough c = delay_enough

pub returns-clause-needed : goal.returns-clause-needed
returns-clause-needed c = delay_needed

use Rattle.qc_rings.proofs.StepLaws.{seal_law, update_law, deliver_law, discard_law}
use Rattle.qc_rings.proofs.laws.ends_stay_in_step.Goals as goal

pub returns-clause-seal : goal.returns-clause-seal
returns-clause-seal c = seal_law

pub returns-clause-update : goal.returns-clause-update
returns-clause-update c = update_law

pub returns-clause-deliver : goal.returns-clause-deliver
returns-clause-deliver c = deliver_law

pub returns-clause-discard : goal.returns-clause-discard
returns-clause-discard c = discard_law

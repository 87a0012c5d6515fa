use Rattle.qc_rings.proofs.StepLaws.{open_law, ack_law, rise_law, hear_law}
use Rattle.qc_rings.proofs.laws.ends_stay_in_step_by_parts.Goals as goal

pub returns-clause-open : goal.returns-clause-open
returns-clause-open c = open_law

pub returns-clause-acknowledge : goal.returns-clause-acknowledge
returns-clause-acknowledge c = ack_law

pub returns-clause-rise : goal.returns-clause-rise
returns-clause-rise c = rise_law

pub returns-clause-hear : goal.returns-clause-hear
returns-clause-hear c = hear_law

use Rattle.qc_recovery.proofs.Named.{acked_acknowledged, acked_most, acked_named}
use Rattle.qc_recovery.proofs.laws.acked_numbers_are_acknowledged.Goals as goal

pub returns-clause-named : goal.returns-clause-named
returns-clause-named g c = acked_named g.C.Controller

pub returns-clause-acknowledged : goal.returns-clause-acknowledged
returns-clause-acknowledged g c = acked_acknowledged g.C.Controller

pub returns-clause-most : goal.returns-clause-most
returns-clause-most g c = λ now id next began ack around r p n fits. acked_most g.C.Controller now id next began ack around r p n (c.ranges_lie_apart.ensures.within ack fits)

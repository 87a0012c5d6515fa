use Rattle.qc_laws.proofs.OwnInputs.{own_given, own_pieces}
use Rattle.qc_laws.proofs.laws.datagrams_alone_tell.Goals as goal

pub returns-clause-pieces : goal.returns-clause-pieces
returns-clause-pieces g c s s' k i x none step = own_pieces _ k s i x s' none step

pub returns-clause-given : goal.returns-clause-given
returns-clause-given g c s s' k i x none step = own_given _ k s i x s' none step

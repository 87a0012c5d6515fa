use Rattle.qc_laws.proofs.FieldsKept.{run_fields}
use Rattle.qc_laws.proofs.SealRuns.{run_seals_answers, transmits_seal}
use Rattle.qc_laws.proofs.laws.datagrams_are_sealed.Goals as goal

pub returns-clause-transmit : goal.returns-clause-transmit
returns-clause-transmit g c time asked a b sent bytes h = transmits_seal _ g.met.U.Session.PacketKey.PacketKey.sealed_length time asked a b sent bytes h

pub returns-clause-run : goal.returns-clause-run
returns-clause-run g c s last k is xs run = run_seals_answers _ g.met.U.Session.PacketKey.PacketKey.sealed_length k s is xs last run

pub returns-clause-fields : goal.returns-clause-fields
returns-clause-fields g c s last k is xs run = run_fields _ k s is xs last run

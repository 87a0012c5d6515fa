use Rattle.qc_send.proofs.Loops.{filled_dies, filled_full, leaves_fewer, outcome_is, take_few}
use Rattle.qc_send.proofs.Sends.{up_filled, up_outcome}
use Rattle.qc_send.proofs.sending.datagram_in.Goals as goal

-- the connection ends
pub returns-in-Some-clause-next : goal.returns-in-Some-clause-next
returns-in-Some-clause-next g c = filled_dies _ _ _ _ _ c.in-Some.dying c.in-Some.is c.in_ok-dies.ensures.ends

pub returns-in-Some-clause-sends : goal.returns-in-Some-clause-sends
returns-in-Some-clause-sends g c = up_filled _ _ _ c.in-Some.dying _ _ c.in-Some.is c.in_ok-dies.ensures.sends

-- the datagram is full
pub find_further-requires : goal.find_further-requires
find_further-requires g c = filled_full _ _ _ _ _ c.in-None.is c.in_ok-dies.ensures.ends

pub returns-clause-next : goal.returns-clause-next
returns-clause-next g c = outcome_is _ _ _ _ _ c.in_ok-found.found _ c.in-None.is c.in_ok-dies.ensures.ends c.in_ok-found.ensures c.outcome_of.ensures

pub returns-clause-sends : goal.returns-clause-sends
returns-clause-sends g c = up_outcome _ _ _ c.in_ok-found.found _ _ _ c.in-None.is c.outcome_of.ensures c.in_ok-dies.ensures.sends

pub returns-clause-falls : goal.returns-clause-falls
returns-clause-falls g c =
    leaves_fewer c.args.batch.now c.fill.new.batch c.in_ok-found.found _ c.outcome_of.ensures (c.in_ok-dies.ensures.made c.in-None.is) c.in_ok-dies.ensures.most (take_few _ _ _ _ _ c.requires.takes)

use Rattle.std.proofs.Common.{refl, ◌∙◌}
use Rattle.qc_send.proofs.Loops.{falls_joins, made_full, made_joins, next_dies, next_full, next_joins}
use Rattle.qc_send.proofs.Sends.{sends_join, sends_none, up_ends, up_full, up_join, up_joins, up_none}
use Rattle.qc_send.proofs.sending.fill.Goals as goal

-- none was sealed so far
pub loop-next-init : goal.loop-next-init
loop-next-init g c = record { sends = sends_none _ _ _; takes = c.requires.takes; made = refl; most = refl; full = c.requires.full }

-- another one joins
pub loop-next-smaller : goal.loop-next-smaller
loop-next-smaller g c = falls_joins c.loop-next.space c.in-Joins.later _ c.in-Joins.is c.in_ok-next.ensures.falls

pub loop-next-preserved : goal.loop-next-preserved
loop-next-preserved g c = record {
  sends = sends_join _ _ _ _ _ c.loop-next.invariant.sends (up_joins _ _ _ c.in-Joins.later _ _ c.in-Joins.is c.in_ok-next.ensures.sends);
  takes = next_joins _ _ _ _ _ c.in-Joins.later c.in-Joins.is c.in_ok-next.ensures.next;
  made = made_joins _ _ _ c.in-Joins.later c.in-Joins.is c.in_ok-next.ensures.made ∙ c.loop-next.invariant.made;
  most = c.in_ok-next.ensures.most ∙ c.loop-next.invariant.most;
  full = c.in_ok-next.ensures.full;
}

-- none does
pub returns-in-Full-clause-sends : goal.returns-in-Full-clause-sends
returns-in-Full-clause-sends g c = up_none _ _ _ _ (sends_join _ _ _ _ _ c.loop-next.invariant.sends (up_full _ _ _ _ _ c.in-Full.is c.in_ok-next.ensures.sends))

pub returns-in-Full-clause-ends : goal.returns-in-Full-clause-ends
returns-in-Full-clause-ends g c = next_full _ _ _ _ _ c.in-Full.is c.in_ok-next.ensures.next

pub returns-in-Full-clause-made : goal.returns-in-Full-clause-made
returns-in-Full-clause-made g c = λ e. made_full _ _ _ c.in-Full.is c.in_ok-next.ensures.made ∙ c.loop-next.invariant.made

pub returns-in-Full-clause-most : goal.returns-in-Full-clause-most
returns-in-Full-clause-most g c = c.in_ok-next.ensures.most ∙ c.loop-next.invariant.most

-- or it can't begin
pub returns-in-Dies-clause-sends : goal.returns-in-Dies-clause-sends
returns-in-Dies-clause-sends g c = up_join _ _ _ _ _ _ c.loop-next.invariant.sends (up_ends _ _ _ c.in-Dies.dying _ _ c.in-Dies.is c.in_ok-next.ensures.sends)

pub returns-in-Dies-clause-ends : goal.returns-in-Dies-clause-ends
returns-in-Dies-clause-ends g c = next_dies _ _ _ _ _ c.in-Dies.dying c.in-Dies.is c.in_ok-next.ensures.next

pub returns-in-Dies-clause-most : goal.returns-in-Dies-clause-most
returns-in-Dies-clause-most g c = c.in_ok-next.ensures.most ∙ c.loop-next.invariant.most

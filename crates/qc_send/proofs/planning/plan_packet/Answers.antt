use Rattle.qc_state.specs.View.{ideal}
use Rattle.qc_send.proofs.Planned.{planned_least, planned_next}
use Rattle.qc_send.proofs.planning.plan_packet.Goals as goal

-- by what is known behind the packet
pub returns-clause-next : goal.returns-clause-next
returns-clause-next g c = planned_next c.args.now (ideal g.U.Random.Rng.stream c.args.core.now) _ _ c.in_ok-next.next c.planned-behind.ensures c.in_ok-next.ensures

pub returns-clause-least : goal.returns-clause-least
returns-clause-least g c = planned_least _ _ c.in_ok-next.next _ _ c.planned-behind.ensures c.least_by-least.ensures

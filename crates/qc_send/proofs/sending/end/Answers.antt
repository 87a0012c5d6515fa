use Rattle.std.proofs.Common.{refl}
use Rattle.qc_state.specs.View.{held}
use Rattle.qc_send.proofs.Transmits.{leaves_end}
use Rattle.qc_send.proofs.sending.end.Goals as goal

-- what a transmit does once, where the pacer holds another datagram back or doesn't
pub returns-clause-leads : goal.returns-clause-leads
returns-clause-leads g c = leaves_end _ c.args.now c.args.batch.now _ c.args.paced (held g.U.Random.Rng.stream c.args.core.now c.args.did.now) _ _ c.hold_if.ensures refl c.in_ok-finish.ensures

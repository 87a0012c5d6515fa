use Rattle.qc_state.specs.Setup.{ideal_setup}
use Rattle.qc_state.specs.View.{ideal}
use Rattle.qc_send.proofs.Headers.{header_is}
use Rattle.qc_send.proofs.sealing.header.Goals as goal

-- the header, by its spin bit and its token
pub returns : goal.returns
unfolding ideal_setup
returns g c = header_is (ideal g.U.Random.Rng.stream c.args.core.now) c.args.form c.spin.result c.in_ok-token.token c.header_with.result c.spin.ensures c.in_ok-token.ensures c.header_with.ensures

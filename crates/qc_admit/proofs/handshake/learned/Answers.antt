use Rattle.std.proofs.Common.{refl}
use Rattle.qc_state.specs.Setup.{ideal_setup}
use Rattle.qc_state.specs.View.{held}
use Rattle.qc_admit.proofs.Established.{known_by, unknown_by}
use Rattle.qc_admit.proofs.handshake.learned.Goals as goal

-- the peer's parameters name the ids of this connection
pub returns-then-fits-clause-goes : goal.returns-then-fits-clause-goes
unfolding ideal_setup
returns-then-fits-clause-goes g c fits others =
    known_by c.args.now c.args.answer c.in-Ok-Some.field-0 c.in-Ok-Some.parameters _ c.ids_fit-fits.result (held g.U.Random.Rng.stream c.args.core.now c.args.did.now) _ _ others c.in-Ok-Some.is c.in-Ok-Some.field-0-is c.ids_fit-fits.ensures c.if-fits.true refl c.in_ok-tell_token-in-Ok-Some.ensures c.in_ok-learn_with-in-Ok-Some.ensures

-- they name others
pub returns-in_ok-stopped-in-Ok-Some-clause-ends : goal.returns-in_ok-stopped-in-Ok-Some-clause-ends
unfolding ideal_setup
returns-in_ok-stopped-in-Ok-Some-clause-ends g c ends others =
    unknown_by c.args.now c.args.answer c.in-Ok-Some.field-0 c.in-Ok-Some.parameters _ c.ids_fit-fits.result _ (held g.U.Random.Rng.stream c.args.core.now c.args.did.now) _ _ others c.in-Ok-Some.is c.in-Ok-Some.field-0-is c.ids_fit-fits.ensures c.if-fits.false refl c.in_ok-tell_token-in-Ok-Some.ensures
    c.error_at-error.ensures.code c.error_at-error.ensures.frame c.in_ok-stopped-in-Ok-Some.ensures

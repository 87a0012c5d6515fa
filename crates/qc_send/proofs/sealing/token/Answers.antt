use Rattle.qc_send.proofs.Headers.{token_is}
use Rattle.qc_send.proofs.sealing.token.Goals as goal

-- the token that each Initial packet carries
pub returns-in-Initial : goal.returns-in-Initial
returns-in-Initial g c = token_is g.U.Random.Rng.stream c.args.core.now _ c.args.form c.clone.result c.core.view_is c.in-Initial.is c.clone.ensures.cases

use Rattle.std.proofs.Common.{arith}
use Rattle.qc_token.proofs.TokenLaws.{found_payload}
use Rattle.qc_token.proofs.reading.read_payload.Goals as goal

pub returns-clause-found : goal.returns-clause-found
returns-clause-found c = found_payload c.args.bytes.now c.read_all.result (λ i. omega (arith, c.type_inv.bytes i)) c.read_all.ensures

-- What was read is what the grammar has.
use Rattle.std.proofs.Common.{arith, sym, subst}
use Rattle.qc_params.specs.ParametersReading.{IsReading}
use Rattle.qc_params.proofs.ReadingLaws.{read_is}
use Rattle.qc_params.proofs.params.TransportParameters.read.Goals as goal

pub returns-clause-reading : goal.returns-clause-reading
returns-clause-reading c =
    subst (λ r. IsReading c.args.side c.args.bytes.now r) (sym c.read_parameters.ensures.exact) (read_is c.args.side c.args.bytes.now (λ i. omega (arith, c.type_inv.bytes i)))

use Rattle.std.proofs.Common.{arith}
use Rattle.qc_frame.proofs.Shortest.{shortest_within}
use Rattle.qc_frame.proofs.measure.read_number.Goals as goal

pub returns-in-Ok-clause-within : goal.returns-in-Ok-clause-within
returns-in-Ok-clause-within c =
    shortest_within _ _ _ (λ i. omega (arith, c.type_inv.bytes i)) c.in-Ok.ensures.exact

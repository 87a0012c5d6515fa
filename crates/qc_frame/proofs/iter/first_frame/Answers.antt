use Rattle.std.proofs.Common.{arith}
use Rattle.qc_frame.specs.Frame.{typed}
use Rattle.qc_frame.proofs.FrontFrame.{gives_found, gives_only, gives_refused}
use Rattle.qc_frame.proofs.PayloadFits.{gives_fits}
use Rattle.qc_frame.proofs.iter.first_frame.Goals as goal

pub returns-clause-found : goal.returns-clause-found
returns-clause-found c = gives_found (λ x. (typed x.0, x.1.now)) c.read_frame.result c.args.bytes.now (λ i. omega (arith, c.type_inv.bytes i)) c.read_frame.ensures

pub returns-clause-only : goal.returns-clause-only
returns-clause-only c = gives_only (λ x. (typed x.0, x.1.now)) c.read_frame.result c.args.bytes.now c.read_frame.ensures

pub returns-clause-refused : goal.returns-clause-refused
returns-clause-refused c = gives_refused (λ x. (typed x.0, x.1.now)) c.read_frame.result c.args.bytes.now (λ i. omega (arith, c.type_inv.bytes i)) c.read_frame.ensures

pub returns-clause-fits : goal.returns-clause-fits
returns-clause-fits c size = gives_fits (λ x. (typed x.0, x.1.now)) c.read_frame.result c.args.bytes.now (λ i. omega (arith, c.type_inv.bytes i)) size c.read_frame.ensures

use Rattle.std.proofs.Common.{arith}
use Rattle.qc_frame.proofs.PayloadFits.{items_fit}
use Rattle.qc_frame.proofs.Payloads.{items_meet, items_only}
use Rattle.qc_frame.proofs.iter.Iter.new.Goals as goal

pub returns-then-is_empty-clause-grammar : goal.returns-then-is_empty-clause-grammar
returns-then-is_empty-clause-grammar c = items_meet c.args.payload.now (λ i. omega (arith, c.type_inv.payload i))

pub returns-clause-grammar : goal.returns-clause-grammar
returns-clause-grammar c = items_meet c.args.payload.now (λ i. omega (arith, c.type_inv.payload i))

pub returns-then-is_empty-clause-only : goal.returns-then-is_empty-clause-only
returns-then-is_empty-clause-only c items meets = items_only items c.args.payload.now (λ i. omega (arith, c.type_inv.payload i)) meets

pub returns-clause-only : goal.returns-clause-only
returns-clause-only c items meets = items_only items c.args.payload.now (λ i. omega (arith, c.type_inv.payload i)) meets

pub returns-then-is_empty-clause-fits : goal.returns-then-is_empty-clause-fits
returns-then-is_empty-clause-fits c size = items_fit c.args.payload.now (λ i. omega (arith, c.type_inv.payload i)) size

pub returns-clause-fits : goal.returns-clause-fits
returns-clause-fits c size = items_fit c.args.payload.now (λ i. omega (arith, c.type_inv.payload i)) size

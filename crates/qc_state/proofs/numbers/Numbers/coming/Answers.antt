use Rattle.qc_state.proofs.Skipping.{coming_told}
use Rattle.qc_state.proofs.numbers.Numbers.coming.Goals as goal

-- the number that the filter gives
pub returns-in-Data-clause-value : goal.returns-in-Data-clause-value
returns-in-Data-clause-value c = rw c.in-Data.is (coming_told c.args.self.now _ c.peek.ensures.value)

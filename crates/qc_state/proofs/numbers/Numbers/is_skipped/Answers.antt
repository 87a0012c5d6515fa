use Rattle.qc_state.proofs.Skipping.{skipped_told}
use Rattle.qc_state.proofs.numbers.Numbers.is_skipped.Goals as goal

-- the filter gives another number
pub returns-in-Data : goal.returns-in-Data
returns-in-Data c = rw c.in-Data.is (skipped_told c.args.self.now _ c.peek.ensures.value)

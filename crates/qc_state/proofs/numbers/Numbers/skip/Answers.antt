use Rattle.qc_state.proofs.Skipping.{drawn_told, skip_told}
use Rattle.qc_state.proofs.numbers.Numbers.skip.Goals as goal

-- the number is skipped, and a word was drawn
pub returns-clause-value : goal.returns-clause-value
returns-clause-value g c = skip_told c.args.self.now _ _ _ c.requires c.allocate-self.ensures.value c.allocate-self.ensures.after

pub returns-clause-drawn : goal.returns-clause-drawn
returns-clause-drawn g c = drawn_told c.args.self.now _ _ c.requires c.allocate-self.ensures.drawn

use Rattle.std.proofs.Common.{true, false, sym, ◌∙◌}
use Rattle.qc_state.proofs.AckLemmas.{first_given}
use Rattle.qc_state.proofs.taking.is_ack_first.Goals as goal

-- one is given where none may be bundled
pub returns-then-gives-clause-value : goal.returns-then-gives-clause-value
returns-then-gives-clause-value c = first_given c.from_nanos.result c.args.acks.now true c.may_acknowledge-may.result (sym c.if-gives.true ∙ c.gives.ensures) c.may_acknowledge-may.ensures.value

pub returns-else-gives-clause-value : goal.returns-else-gives-clause-value
returns-else-gives-clause-value c = c.if-gives.false ∙ first_given c.from_nanos.result c.args.acks.now false c.may_acknowledge-may.result (sym c.if-gives.false ∙ c.gives.ensures) c.may_acknowledge-may.ensures.value

use Rattle.std.proofs.Common.{ap, not, refl, true, false, sym, ◌∙◌}
use Rattle.qc_state.proofs.AckLemmas.{last_given}
use Rattle.qc_state.proofs.taking.is_ack_last.Goals as goal

-- one is given, and wouldn't be if none might be bundled
pub returns-then-gives-clause-value : goal.returns-then-gives-clause-value
returns-then-gives-clause-value c =
    last_given c.args.now c.args.bundled c.args.acks.now false true c.may_acknowledge-may.result (sym c.if-not-first.true ∙ c.gives-first.ensures) (sym c.if-gives.true ∙ c.gives.ensures) c.may_acknowledge-may.ensures.value

pub returns-else-gives-clause-value : goal.returns-else-gives-clause-value
returns-else-gives-clause-value c =
    c.if-gives.false
    ∙ last_given c.args.now c.args.bundled c.args.acks.now false false c.may_acknowledge-may.result (sym c.if-not-first.true ∙ c.gives-first.ensures) (sym c.if-gives.false ∙ c.gives.ensures) c.may_acknowledge-may.ensures.value

pub returns-else-not-first-clause-value : goal.returns-else-not-first-clause-value
returns-else-not-first-clause-value c =
    ap not c.if-not-first.false
    ∙ last_given c.args.now c.args.bundled c.args.acks.now true _ c.may_acknowledge-may.result (sym c.if-not-first.false ∙ c.gives-first.ensures) refl c.may_acknowledge-may.ensures.value

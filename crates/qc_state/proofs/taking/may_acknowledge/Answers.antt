use Rattle.std.proofs.Common.{arith, ◌∙◌, sym, subst}
use Rattle.qc_base.specs.RangeSet.{Normal}
use Rattle.std.proofs.lemmas.Bool.Decides.{nat_tests}
use Rattle.qc_state.proofs.AckLemmas.{packets_by}
use Rattle.qc_state.proofs.taking.may_acknowledge.Goals as goal

-- a greatest number below 2^62 bounds all others
pub returns-clause-packets : goal.returns-clause-packets
returns-clause-packets c small =
    packets_by c.args.acks.now.ranges c.as_slice-ranges.result.now (c.as_slice-ranges.ensures.ranges ∙ c.ranges-2.ensures) (subst Normal (sym c.as_slice-ranges.ensures.ranges) c.as_slice-ranges.ensures.normal) (sym c.if-is_empty.ensures) (grind (arith, nat_tests, small))

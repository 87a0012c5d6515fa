use Rattle.std.proofs.Common.{◌∙◌, ℕ, List, ap, arith}
use Rattle.std.specs.Map.{set_value}
use Rattle.std.specs.BTreeMap.{is_at}
use Rattle.std.specs.Ordering.{nat_cmp}
use Rattle.qc_assembler.proofs.FirstPart.{first_held, first_left, first_there}
use Rattle.qc_assembler.proofs.front.advance_first.Goals as goal

pub unreachable-requires : goal.unreachable-requires
unreachable-requires c = first_there c.args.end c.args.held c.args.parts.now.entries c.requires.first c.in_default.ensures.value

pub advance-requires : goal.advance-requires
advance-requires c = omega (arith, first_held c.args.end c.args.held c.in-Some.part.now c.args.parts.now.entries c.requires.first c.in-Some.ensures.value)

pub returns : goal.returns
returns c =
    (c.get_mut.follows.holds c.advance.new.self).0
    ∙ ap (λ (p : List ℕ). set_value (is_at (nat_cmp c.args.end)) c.args.parts.now.entries p) c.advance.ensures
    ∙ first_left c.args.end c.args.held c.args.count c.in-Some.part.now c.args.parts.now.entries c.requires.first c.in-Some.ensures.value

use Rattle.std.proofs.Common.{◌∙◌, ℕ, List, ap, arith}
use Rattle.std.specs.Map.{set_value}
use Rattle.std.specs.BTreeMap.{is_at}
use Rattle.std.specs.Ordering.{nat_cmp}
use Rattle.qc_assembler.proofs.Outcomes.{on_ok_map, on_err_map, if_ok_map}
use Rattle.qc_assembler.proofs.FirstPart.{first_held, first_front, first_left, first_same, first_there}
use Rattle.qc_assembler.proofs.front.cut_first.Goals as goal

pub split_to-requires : goal.split_to-requires
split_to-requires c = omega (arith, first_held c.args.end c.args.held c.in-Some.part.now c.args.parts.now.entries c.requires.first c.in-Some.ensures.value)

pub unreachable-requires : goal.unreachable-requires
unreachable-requires c = first_there c.args.end c.args.held c.args.parts.now.entries c.requires.first c.in_default.ensures.value

pub returns-clause-front : goal.returns-clause-front
returns-clause-front c =
    if_ok_map c.split_to.result _ _ c.split_to.ensures.front
    (λ b e. e ∙ first_front c.args.end c.args.held c.args.count c.in-Some.part.now c.args.parts.now.entries c.requires.first c.in-Some.ensures.value)

pub returns-clause-left : goal.returns-clause-left
returns-clause-left c =
    on_ok_map c.split_to.result _ _ c.split_to.ensures.rest
    (λ e. (c.get_mut.follows.holds c.split_to.new.self).0
    ∙ ap (λ (p : List ℕ). set_value (is_at (nat_cmp c.args.end)) c.args.parts.now.entries p) e
    ∙ first_left c.args.end c.args.held c.args.count c.in-Some.part.now c.args.parts.now.entries c.requires.first c.in-Some.ensures.value)

pub returns-clause-err : goal.returns-clause-err
returns-clause-err c =
    on_err_map c.split_to.result _ _ c.split_to.ensures.err
    (λ e. (c.get_mut.follows.holds c.split_to.new.self).0
    ∙ ap (λ (p : List ℕ). set_value (is_at (nat_cmp c.args.end)) c.args.parts.now.entries p) e
    ∙ first_same c.args.end c.args.held c.in-Some.part.now c.args.parts.now.entries c.requires.first c.in-Some.ensures.value)

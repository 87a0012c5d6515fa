use Rattle.std.proofs.Common.{◌≡◌, ◌∙◌, ℕ, List, ap, take, ◌-◌, arith}
use Rattle.std.specs.List.{slice_range}
use Rattle.qc_assembler.proofs.FirstPart.{first_held, first_front, first_there}
use Rattle.qc_assembler.proofs.Outcomes.{if_ok_map}
use Rattle.qc_assembler.proofs.front.copy_first.Goals as goal

pub unreachable-requires : goal.unreachable-requires
unreachable-requires c = first_there c.args.end c.args.held c.args.parts.now.entries c.requires.first c.in_default.ensures.value

pub slice-requires-clause-in_bounds : goal.slice-requires-clause-in_bounds
slice-requires-clause-in_bounds c = omega (arith, first_held c.args.end c.args.held c.in-Some.part.now c.args.parts.now.entries c.requires.first c.in-Some.ensures.value)

front_slice : (n : ℕ) (p : List ℕ) → slice_range p 0 n ≡ take n p
front_slice n p = let e : n - 0 ≡ n = omega arith in ap (λ (i : ℕ). take i p) e

pub returns : goal.returns
returns c =
    if_ok_map c.slice.result _ _ c.slice.ensures.ok
    (λ b e. e ∙ front_slice c.args.count c.in-Some.part.now
    ∙ first_front c.args.end c.args.held c.args.count c.in-Some.part.now c.args.parts.now.entries c.requires.first c.in-Some.ensures.value)

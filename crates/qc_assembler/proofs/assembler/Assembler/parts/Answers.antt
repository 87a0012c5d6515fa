use Rattle.std.proofs.Common.{◌∙◌, ℕ, List, ap, sym}
use Rattle.qc_assembler.specs.Assembly.{Assembly, part_count}
use Rattle.qc_assembler.specs.Ahead.{assembled}
use Rattle.qc_assembler.specs.Parts.{flat}
use Rattle.qc_assembler.proofs.FrontPart.{alone_part, is_absent, tree_sound, with_none}
use Rattle.qc_assembler.proofs.assembler.Assembler.parts.Goals as goal

pub part_count-requires : goal.part_count-requires
part_count-requires c =
    (tree_sound c.self.inside.read c.self.inside.joined c.self.inside.ahead.entries c.self.inside.front c.self.inside.parts.entries (is_absent c.self.inside.front c.if-is_none.ensures) c.self.invariant).kept

pub returns-then-is_none : goal.returns-then-is_none
unfolding assembled
returns-then-is_none c =
    c.part_count.ensures
    ∙ ap (λ (l : List (ℕ × List ℕ)). part_count (flat l)) (sym (with_none c.self.inside.read c.self.inside.front c.self.inside.parts.entries (is_absent c.self.inside.front c.if-is_none.ensures)))
    ∙ ap (λ (a : Assembly). part_count a.came) c.self.view_is

pub returns : goal.returns
unfolding assembled
returns c =
    alone_part c.self.inside.read c.self.inside.front c.self.inside.parts.entries c.if-is_none.ensures c.self.invariant.alone
    ∙ ap (λ (a : Assembly). part_count a.came) c.self.view_is

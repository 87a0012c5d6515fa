use Rattle.std.proofs.Common.{[], None, refl}
use Rattle.qc_assembler.specs.Assembly.{nothing}
use Rattle.qc_assembler.specs.Parts.{flat, Apart, joints, IsKept}
use Rattle.qc_assembler.specs.Ahead.{AreRanges, AllUnread, IsSound, listed, assembled}
use Rattle.qc_assembler.specs.Waiting.{entries_with}
use Rattle.qc_assembler.proofs.FrontPart.{tree_whole}
use Rattle.qc_assembler.proofs.assembler.Assembler.new.Goals as goal

none_kept : IsKept [] 0
unfolding Apart joints
none_kept = record { apart = tt; count = refl }

none_sound : IsSound 0 [] [] 0
unfolding AreRanges AllUnread flat
none_sound = record { kept = none_kept; ascending = tt; unread = tt }

pub invariant_of-result : goal.invariant_of-result
invariant_of-result c = rw (c.new.ensures.empty, c.new-2.ensures.empty, c.new-3.ensures) (tree_whole 0 0 [] None [] refl none_sound)

pub returns : goal.returns
unfolding nothing assembled flat listed entries_with
returns c = rw (c.new.ensures.empty, c.new-2.ensures.empty, c.new-3.ensures) refl

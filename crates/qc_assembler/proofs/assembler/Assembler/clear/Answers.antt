use Rattle.std.proofs.Common.{[], None, refl}
use Rattle.qc_assembler.specs.Assembly.{discarded}
use Rattle.qc_assembler.specs.Parts.{flat, Apart, joints, IsKept}
use Rattle.qc_assembler.specs.Ahead.{AllUnread, assembled}
use Rattle.qc_assembler.specs.Waiting.{entries_with}
use Rattle.qc_assembler.proofs.FrontPart.{tree_whole}
use Rattle.qc_assembler.proofs.assembler.Assembler.clear.Goals as goal

none_kept : IsKept [] 0
unfolding Apart joints
none_kept = record { apart = tt; count = refl }

pub invariant_of-self : goal.invariant_of-self
unfolding AllUnread flat
invariant_of-self c =
    rw (c.clear.ensures, c.clear-2.ensures.empty)
    (tree_whole c.self.inside.read 0 c.self.inside.ahead.entries None [] refl (record { kept = none_kept; ascending = c.self.invariant.sound.ascending; unread = tt }))

pub returns : goal.returns
unfolding assembled discarded flat entries_with
returns c = rw (c.clear.ensures, c.clear-2.ensures.empty, ← c.self.view_is) refl

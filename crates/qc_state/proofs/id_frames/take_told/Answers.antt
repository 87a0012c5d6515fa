use Rattle.std.proofs.Common.{◌≡◌, ◌∙◌, ℕ, ◌-◌, ◌≤◌, Some, sym, subst, arith}
use Rattle.qc_cids.specs.Cids.{next_told}
use Rattle.qc_frame.specs.FrameFits.{Fits}
use Rattle.qc_frame.specs.declared.frames.FrameOf.TheVariants as frames
use Rattle.qc_state.proofs.IdsTaken.{takes_no_cid, told_fits, told_size, told_taken}
use Rattle.qc_state.proofs.id_frames.take_told.Goals as goal
use Rattle.qc_state.specs.Taking.{TakesIds}

pub loop-new-init : goal.loop-new-init
loop-new-init c = takes_no_cid c.args.room c.args.ids.now c.args.frames.now

-- its numbers have room in their fields
pub told_len-len-requires : goal.told_len-len-requires
told_len-len-requires c = told_fits c.loop-new.ids c.in-Some.new (sym c.next_told.ensures ∙ c.in-Some.is) (omega arith) (omega arith)

-- it has a byte at least
pub loop-new-smaller : goal.loop-new-smaller
loop-new-smaller c =
    let fits : Fits (frames.NewConnectionId c.in-Some.new) = told_fits c.loop-new.ids c.in-Some.new (sym c.next_told.ensures ∙ c.in-Some.is) (omega arith) (omega arith) in
    omega (arith, c.told_len-len.ensures.value, told_size c.in-Some.new fits, c.if-left-len.false)

-- one frame more was taken
pub loop-new-preserved : goal.loop-new-preserved
loop-new-preserved c =
    let is : next_told c.loop-new.ids ≡ Some c.in-Some.new = sym c.next_told.ensures ∙ c.in-Some.is in
    let fits : Fits (frames.NewConnectionId c.in-Some.new) = told_fits c.loop-new.ids c.in-Some.new is (omega arith) (omega arith) in
    subst (λ (n : ℕ). TakesIds c.args.room c.args.ids.now c.told.new.self c.args.frames.now c.push.new.self (c.loop-new.left - n)) (sym c.told_len-len.ensures.value)
    (told_taken c.args.room c.loop-new.left c.args.ids.now c.loop-new.ids c.told.new.self c.args.frames.now c.loop-new.frames c.push.new.self c.in-Some.new c.loop-new.invariant is
    fits (subst (λ (n : ℕ). n ≤ c.loop-new.left) c.told_len-len.ensures.value (omega (arith, c.if-left-len.false))) c.told.ensures c.in_ok-push.ensures.ok)

use Rattle.std.proofs.Common.{◌≡◌, ◌∙◌, ℕ, ◌+◌, ◌-◌, ap, length, refl, sym, subst, arith}
use Rattle.qc_cids.specs.Cids.{next_told}
use Rattle.qc_cids.specs.declared.connection_ids.ConnectionIds.{ConnectionIds}
use Rattle.qc_frame.specs.FrameSpelling.{spelling}
use Rattle.qc_frame.specs.declared.frames.FrameOf.TheVariants as frames
use Rattle.qc_state.proofs.IdsTaken.{retired_size, retired_taken, takes_no_cid, told_stays}
use Rattle.qc_state.proofs.id_frames.take_retired.Goals as goal
use Rattle.qc_state.specs.Taking.{TakesIds}

pub loop-sequence-init : goal.loop-sequence-init
loop-sequence-init c = record { takes = takes_no_cid c.args.room c.args.ids.now c.args.frames.now; rest = refl }

-- one frame more was taken
pub loop-sequence-preserved : goal.loop-sequence-preserved
loop-sequence-preserved c =
    let size : length (spelling (frames.RetireConnectionId c.in-Some.sequence)) ≡ 1 + c.varint_size-len.result = omega (arith, retired_size c.in-Some.sequence, c.varint_size-len.ensures.size) in
    record {
      takes = subst (λ (n : ℕ). TakesIds c.args.room c.args.ids.now c.retirement_told.new.self c.args.frames.now c.push.new.self (c.loop-sequence.left - n)) size
          (retired_taken c.args.room c.loop-sequence.left c.args.ids.now c.loop-sequence.ids c.retirement_told.new.self c.args.frames.now c.loop-sequence.frames c.push.new.self c.in-Some.sequence c.loop-sequence.invariant.takes
          (sym c.next_retired.ensures ∙ c.in-Some.is) (omega (arith, size, c.if-left-len.false)) c.retirement_told.ensures c.in_ok-push.ensures.ok);
      rest = ap (λ (d : ConnectionIds). next_told d) c.retirement_told.ensures ∙ told_stays c.in-Some.sequence c.loop-sequence.ids ∙ c.loop-sequence.invariant.rest;
    }

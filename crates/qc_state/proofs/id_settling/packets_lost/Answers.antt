use Rattle.std.proofs.Common.{◌∙◌, ◌+◌, ◌<◌, ◌≤◌, ap, sym, length, drop, arith}
use Rattle.qc_state.proofs.IdsSettled.{packets_more, packets_none}
use Rattle.qc_state.proofs.id_settling.packets_lost.Goals as goal
use Rattle.qc_state.specs.Ids.{lost_ids}
use Rattle.qc_cids.specs.Steps.{after}
use Rattle.qc_cids.specs.declared.connection_ids.ConnectionIds.{ConnectionIds}

-- one packet more
pub loop-place-preserved : goal.loop-place-preserved
loop-place-preserved c =
    let within : c.loop-place.place < length c.args.lost.now = omega arith in (
      omega arith,
      ap (λ (x : ConnectionIds). after (lost_ids (drop (c.loop-place.place + 1) c.args.lost.now)) x) c.in_ok-frames_lost.ensures
          ∙ packets_more c.args.lost.now c.loop-place.place c.entry-entry.result.now c.loop-place.ids c.entry-entry.ensures within ∙ c.loop-place.invariant.1,
    )

-- no packet is left
pub returns : goal.returns
returns c =
    let all : length c.args.lost.now ≤ c.loop-place.place = omega arith in
    sym (packets_none c.args.lost.now c.loop-place.place c.loop-place.ids all) ∙ c.loop-place.invariant.1

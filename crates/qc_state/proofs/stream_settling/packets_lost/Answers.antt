use Rattle.std.proofs.Common.{◌∙◌, ◌+◌, ◌<◌, ◌≤◌, ap, sym, length, drop, arith}
use Rattle.qc_state.proofs.StreamsSettled.{lost_more, lost_none}
use Rattle.qc_state.proofs.stream_settling.packets_lost.Goals as goal
use Rattle.qc_state.specs.StreamFrames.{lost_steps}
use Rattle.qc_streams.specs.Waits.{after}
use Rattle.qc_streams.specs.declared.state.StreamsState.{StreamsState}

-- one packet more
pub loop-place-preserved : goal.loop-place-preserved
loop-place-preserved c =
    let within : c.loop-place.place < length c.args.lost.now = omega arith in (
      omega arith,
      ap (λ (x : StreamsState). after (lost_steps (drop (c.loop-place.place + 1) c.args.lost.now)) x) c.in_ok-packet_lost.ensures
          ∙ lost_more c.args.lost.now c.loop-place.place c.entry-entry.result.now c.loop-place.streams c.entry-entry.ensures within ∙ c.loop-place.invariant.1,
    )

-- no packet is left
pub returns : goal.returns
returns c =
    let all : length c.args.lost.now ≤ c.loop-place.place = omega arith in
    sym (lost_none c.args.lost.now c.loop-place.place c.loop-place.streams all) ∙ c.loop-place.invariant.1

use Rattle.std.proofs.Common.{sym, subst, ◌∙◌, List}
use Rattle.qc_streams.specs.Steps.{AllMay}
use Rattle.qc_streams.specs.Waits.{Step}
use Rattle.qc_state.proofs.Taken.{offered_numbers, parts_drawn, parts_issued, parts_leads, parts_next, parts_oldest, parts_steps, same_acks, same_numbers, without_parts, taken_full, taken_part}
use Rattle.qc_state.proofs.taking.take.Goals as goal

-- the marks leave the numbers to acknowledge
pub take_ack-requires : goal.take_ack-requires
take_ack-requires g c = same_acks c.args.space.now c.take_marks.new.space c.is_ack_first-first.result c.in_ok-count.ensures.rest c.is_ack_first-first.ensures.packets

-- so do the ACK in front, the CRYPTO bytes and the frames behind them
pub take_ack-requires-2 : goal.take_ack-requires-2
take_ack-requires-2 g c =
    offered_numbers c.args.in_data _ c.in_ok-left.left c.take_crypto.new.space c.take_offered.new.space c.is_ack_last-last.result c.in_ok-left.ensures.takes
    (same_numbers c.args.now _ _ c.in_ok-len.len c.in_ok-rest.rest c.is_ack_first-first.result c.is_ack_last-last.result c.args.space.now c.take_marks.new.space c.take_ack.new.space c.take_crypto.new.space _ _ _
    c.in_ok-count.ensures.rest c.in_ok-len.ensures c.in_ok-rest.ensures.takes c.is_ack_last-last.ensures.packets)

-- the parts, one after the other, leave what all frames leave
pub returns-clause-rest : goal.returns-clause-rest
returns-clause-rest g c =
    without_parts c.args.now _ _ c.in_ok-rest.rest c.in_ok-left.left c.in_ok-len.len c.in_ok-take_ack.field-0 c.is_ack_first-first.result c.is_ack_last-last.result c.args.in_data c.args.space.now _ _ _ _ _ _ _ _ _ _ c.args.lower.now _
    c.new-frames.ensures c.in_ok-count.ensures.frames c.in_ok-count.ensures.rest c.in_ok-len.ensures c.in_ok-rest.ensures.takes c.in_ok-left.ensures.takes c.in_ok-take_ack.ensures

-- they are what may be taken
pub returns-clause-frames : goal.returns-clause-frames
returns-clause-frames g c =
    taken_part c.args.now c.args.room c.in_ok-count.count c.saturating_sub-room.result c.front_room-most.result c.saturating_sub.result c.in_ok-rest.rest c.in_ok-left.left c.in_ok-len.len c.in_ok-take_ack.field-0 c.args.bundled c.is_ack_first-first.result
    c.is_ack_last-last.result c.args.space.now _ _ _ _ c.args.in_data _ _ _ _ _ _ c.args.lower.now _ c.is_ack_first-first.ensures.value c.is_ack_last-last.ensures.value c.new-frames.ensures c.in_ok-count.ensures.frames c.in_ok-count.ensures.rest
    c.in_ok-count.ensures.count c.saturating_sub-room.ensures c.front_room-most.ensures.few (λ e. c.front_room-most.ensures.owed (c.is_ack_owed-owed.ensures ∙ e)) c.in_ok-len.ensures c.saturating_sub.ensures c.in_ok-rest.ensures.takes c.in_ok-left.ensures.takes c.in_ok-take_ack.ensures

-- the steps of the streams are those of the frames of theirs among them
pub returns-clause-may : goal.returns-clause-may
returns-clause-may g c =
    subst (λ (xs : List Step). AllMay xs c.args.lower.now.streams)
    (sym (parts_steps c.args.now _ _ c.in_ok-rest.rest c.in_ok-left.left c.in_ok-len.len c.in_ok-take_ack.field-0 c.is_ack_first-first.result c.is_ack_last-last.result c.args.in_data c.args.space.now _ _ _ _ _ _ _ _ _ _ c.args.lower.now _
    c.new-frames.ensures c.in_ok-count.ensures.frames c.in_ok-len.ensures c.in_ok-rest.ensures.takes c.in_ok-left.ensures.takes c.in_ok-take_ack.ensures)) c.in_ok-left.ensures.takes.may

-- and so it is with the datagrams
pub returns-clause-oldest : goal.returns-clause-oldest
returns-clause-oldest g c =
    parts_oldest c.args.now _ _ c.in_ok-rest.rest c.in_ok-left.left c.in_ok-len.len c.in_ok-take_ack.field-0 c.is_ack_first-first.result c.is_ack_last-last.result c.args.in_data c.args.space.now _ _ _ _ _ _ _ _ _ _ c.args.lower.now _
    c.new-frames.ensures c.in_ok-count.ensures.frames c.in_ok-len.ensures c.in_ok-rest.ensures.takes c.in_ok-left.ensures.takes c.in_ok-take_ack.ensures

-- and with the ids
pub returns-clause-next : goal.returns-clause-next
returns-clause-next g c =
    parts_next c.args.now _ _ c.in_ok-rest.rest c.in_ok-left.left c.in_ok-len.len c.in_ok-take_ack.field-0 c.is_ack_first-first.result c.is_ack_last-last.result c.args.in_data c.args.space.now _ _ _ _ _ _ _ _ _ _ c.args.lower.now _
    c.new-frames.ensures c.in_ok-count.ensures.frames c.in_ok-len.ensures c.in_ok-rest.ensures.takes c.in_ok-left.ensures.takes c.in_ok-take_ack.ensures

-- the tokens are made as their turn comes
pub returns-clause-issued : goal.returns-clause-issued
returns-clause-issued g c =
    parts_issued _ c.args.ip (g.R.Rng.stream c.args.random.now) c.args.now _ _ c.in_ok-rest.rest c.in_ok-left.left c.in_ok-len.len c.in_ok-take_ack.field-0 c.is_ack_first-first.result c.is_ack_last-last.result c.args.in_data
    c.args.space.now _ _ _ _ _ _ _ _ _ _ c.args.lower.now _
    c.new-frames.ensures c.in_ok-count.ensures.frames c.in_ok-count.ensures.rest c.in_ok-len.ensures c.in_ok-rest.ensures.takes c.in_ok-left.ensures.takes c.in_ok-take_ack.ensures

-- and no others
pub returns-clause-drawn : goal.returns-clause-drawn
returns-clause-drawn g c =
    parts_drawn (g.R.Rng.stream c.args.random.now) _ c.args.now _ _ c.in_ok-rest.rest c.in_ok-left.left c.in_ok-len.len c.in_ok-take_ack.field-0 c.is_ack_first-first.result c.is_ack_last-last.result c.args.in_data
    c.args.space.now _ _ _ _ _ _ _ _ _ _ c.args.lower.now _
    c.new-frames.ensures c.in_ok-count.ensures.frames c.in_ok-len.ensures c.in_ok-rest.ensures.takes c.in_ok-left.ensures.takes c.in_ok-take_ack.ensures

-- which leads to what all frames lead to
pub returns-clause-leads : goal.returns-clause-leads
returns-clause-leads g c =
    parts_leads c.args.now _ _ c.in_ok-rest.rest c.in_ok-left.left c.in_ok-len.len c.in_ok-take_ack.field-0 c.is_ack_first-first.result c.is_ack_last-last.result c.args.in_data c.args.space.now _ _ _ _ _ _ _ _ _ _ c.args.lower.now _
    c.new-frames.ensures c.in_ok-count.ensures.frames c.in_ok-len.ensures c.in_ok-rest.ensures.takes c.in_ok-left.ensures.takes c.in_ok-take_ack.ensures

-- what they leave has no room
pub returns-clause-full : goal.returns-clause-full
returns-clause-full g c =
    taken_full c.args.now c.args.room c.in_ok-count.count c.saturating_sub-room.result c.front_room-most.result c.saturating_sub.result c.in_ok-rest.rest c.in_ok-left.left c.in_ok-len.len c.in_ok-take_ack.field-0 c.is_ack_first-first.result
    c.is_ack_last-last.result c.args.in_data c.args.space.now c.take_marks.new.space c.take_ack.new.space c.take_crypto.new.space _ _ _ _ _ _ _ c.args.lower.now c.take_offered.new.lower c.new-frames.ensures c.in_ok-count.ensures.frames c.in_ok-count.ensures.rest
    c.in_ok-count.ensures.count c.saturating_sub-room.ensures c.in_ok-len.ensures c.saturating_sub.ensures c.in_ok-rest.ensures.takes c.in_ok-rest.ensures.full c.in_ok-left.ensures.takes c.in_ok-left.ensures.full c.in_ok-take_ack.ensures

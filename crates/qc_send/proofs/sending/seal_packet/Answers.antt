use Rattle.std.proofs.Common.{ap, arith, refl, ◌∙◌}
use Rattle.qc_state.specs.Forms.{number_space}
use Rattle.qc_state.specs.Numbers.{next_number}
use Rattle.qc_state.specs.Sending.{going}
use Rattle.qc_state.specs.View.{held, ideal}
use Rattle.qc_send.proofs.Begins.{begun_is, loud_fresh, loud_keyed, loud_low, loud_near, loud_wide}
use Rattle.qc_send.proofs.Fits.{now_fits}
use Rattle.qc_send.proofs.Follows.{follows_taken}
use Rattle.qc_send.proofs.Loops.{packet_made, packet_most, packet_total}
use Rattle.qc_send.proofs.Seals.{least_small, left_small, room_taken, seals_taken}
use Rattle.qc_send.proofs.sending.seal_packet.Goals as goal

-- the number is near enough to the greatest acknowledged one
pub seal-requires-clause-near : goal.seal-requires-clause-near
seal-requires-clause-near g c =
    loud_near c.args.opens _ c.args.now c.args.batch.now (held g.U.Random.Rng.stream c.args.core.now c.args.did.now) (ideal g.U.Random.Rng.stream c.begin.new.core) (ideal g.U.Random.Rng.stream c.take.new.core) c.args.form c.in_ok-frames.frames c.requires.begins c.in_ok-begin.ensures.leads c.in_ok-frames.ensures.leads

-- it isn't the greatest of all
pub seal-requires-clause-low : goal.seal-requires-clause-low
seal-requires-clause-low g c =
    loud_low c.args.opens _ c.args.now c.args.batch.now (held g.U.Random.Rng.stream c.args.core.now c.args.did.now) (ideal g.U.Random.Rng.stream c.begin.new.core) (ideal g.U.Random.Rng.stream c.take.new.core) c.args.form c.in_ok-frames.frames c.requires.begins c.in_ok-begin.ensures.leads c.in_ok-frames.ensures.leads

-- there are keys for it
pub seal-requires-clause-keyed : goal.seal-requires-clause-keyed
seal-requires-clause-keyed g c =
    loud_keyed c.args.opens _ c.args.now c.args.batch.now (held g.U.Random.Rng.stream c.args.core.now c.args.did.now) (ideal g.U.Random.Rng.stream c.begin.new.core) (ideal g.U.Random.Rng.stream c.take.new.core) c.args.form c.in_ok-frames.frames c.requires.begins c.in_ok-begin.ensures.leads c.in_ok-frames.ensures.leads

-- and its key may seal one more
pub seal-requires-clause-fresh : goal.seal-requires-clause-fresh
seal-requires-clause-fresh g c =
    loud_fresh c.args.opens _ c.args.now c.args.batch.now (held g.U.Random.Rng.stream c.args.core.now c.args.did.now) (ideal g.U.Random.Rng.stream c.begin.new.core) (ideal g.U.Random.Rng.stream c.take.new.core) c.args.form c.in_ok-frames.frames c.requires.begins c.in_ok-begin.ensures.leads c.in_ok-frames.ensures.leads

-- the room is as it was
pub plan_packet-requires-clause-room : goal.plan_packet-requires-clause-room
plan_packet-requires-clause-room g c = room_taken _ _ _ (ideal g.U.Random.Rng.stream c.begin.new.core) (ideal g.U.Random.Rng.stream c.take.new.core) c.args.form c.in_ok-frames.frames c.frame_room-room.ensures.value c.left-left.ensures c.in_ok-frames.ensures.leads

pub seal-requires-clause-room : goal.seal-requires-clause-room
seal-requires-clause-room g c = room_taken _ _ _ (ideal g.U.Random.Rng.stream c.begin.new.core) (ideal g.U.Random.Rng.stream c.take.new.core) c.args.form c.in_ok-frames.frames c.frame_room-room.ensures.value refl c.in_ok-frames.ensures.leads

-- there is enough of it for a close, and for the frames that were taken
pub plan_packet-requires-clause-wide : goal.plan_packet-requires-clause-wide
plan_packet-requires-clause-wide g c =
    (loud_wide c.args.opens _ c.args.now _ _ c.args.batch.now c.begin.new.batch (held g.U.Random.Rng.stream c.args.core.now c.args.did.now) (ideal g.U.Random.Rng.stream c.begin.new.core) c.args.form c.requires.begins c.requires.roomy c.in_ok-begin.ensures.leads c.in_ok-begin.ensures.batch c.left-left.ensures c.frame_room-room.ensures.value
    c.frame_room-room.ensures.wide)

pub seal-requires-clause-wide : goal.seal-requires-clause-wide
seal-requires-clause-wide g c =
    (loud_wide c.args.opens _ c.args.now _ _ c.args.batch.now c.begin.new.batch (held g.U.Random.Rng.stream c.args.core.now c.args.did.now) (ideal g.U.Random.Rng.stream c.begin.new.core) c.args.form c.requires.begins c.requires.roomy c.in_ok-begin.ensures.leads c.in_ok-begin.ensures.batch c.left-left.ensures c.frame_room-room.ensures.value
    c.frame_room-room.ensures.wide)

pub plan_packet-requires-clause-within : goal.plan_packet-requires-clause-within
plan_packet-requires-clause-within g c = omega (arith, c.frame_room-room.ensures.within, c.left-left.ensures)

pub plan_packet-requires-clause-fits : goal.plan_packet-requires-clause-fits
plan_packet-requires-clause-fits g c =
    now_fits c.begin.new.batch.closing _ c.args.now (ideal g.U.Random.Rng.stream c.begin.new.core) (number_space c.args.form) _ c.in_ok-frames.frames c.in_ok-frames.ensures.frames
    (loud_wide c.args.opens _ c.args.now _ _ c.args.batch.now c.begin.new.batch (held g.U.Random.Rng.stream c.args.core.now c.args.did.now) (ideal g.U.Random.Rng.stream c.begin.new.core) c.args.form c.requires.begins c.requires.roomy c.in_ok-begin.ensures.leads c.in_ok-begin.ensures.batch c.left-left.ensures c.frame_room-room.ensures.value
    c.frame_room-room.ensures.wide)

pub seal-requires-clause-fits : goal.seal-requires-clause-fits
seal-requires-clause-fits g c =
    now_fits c.begin.new.batch.closing _ c.args.now (ideal g.U.Random.Rng.stream c.begin.new.core) (number_space c.args.form) _ c.in_ok-frames.frames c.in_ok-frames.ensures.frames
    (loud_wide c.args.opens _ c.args.now _ _ c.args.batch.now c.begin.new.batch (held g.U.Random.Rng.stream c.args.core.now c.args.did.now) (ideal g.U.Random.Rng.stream c.begin.new.core) c.args.form c.requires.begins c.requires.roomy c.in_ok-begin.ensures.leads c.in_ok-begin.ensures.batch c.left-left.ensures c.frame_room-room.ensures.value
    c.frame_room-room.ensures.wide)

-- no datagram has many bytes, and the packet has room in its own
pub plan_packet-requires-clause-most : goal.plan_packet-requires-clause-most
plan_packet-requires-clause-most g c =
    left_small c.begin.new.batch (number_space c.args.form) (begun_is c.args.opens _ c.args.now (ideal g.U.Random.Rng.stream c.args.core.now) c.args.batch.now c.begin.new.batch c.args.form c.requires.begins c.requires.roomy c.in_ok-begin.ensures.batch)

pub seal-requires-clause-most : goal.seal-requires-clause-most
seal-requires-clause-most g c =
    omega (arith, c.left-left.ensures, left_small c.begin.new.batch (number_space c.args.form) (begun_is c.args.opens _ c.args.now (ideal g.U.Random.Rng.stream c.args.core.now) c.args.batch.now c.begin.new.batch c.args.form c.requires.begins c.requires.roomy c.in_ok-begin.ensures.batch))

pub seal-requires-clause-small : goal.seal-requires-clause-small
seal-requires-clause-small g c =
    least_small c.in_ok-plan.plan.next c.begin.new.batch (ideal g.U.Random.Rng.stream c.take.new.core) c.args.form _ _ _ c.in_ok-frames.frames (begun_is c.args.opens _ c.args.now (ideal g.U.Random.Rng.stream c.args.core.now) c.args.batch.now c.begin.new.batch c.args.form c.requires.begins c.requires.roomy c.in_ok-begin.ensures.batch)
    c.left-left.ensures c.in_ok-plan.ensures.least

-- what was begun, taken, planned, sealed and counted is one packet
pub returns-clause-sends : goal.returns-clause-sends
returns-clause-sends g c =
    seals_taken c.args.opens _ c.is_probe_due-probes.result c.is_key_nearly_used_up-nearly.result c.in_ok-sealed.sealed.fills c.in_ok-sealed.sealed.counts _ c.args.now c.args.form (going (held g.U.Random.Rng.stream c.args.core.now c.args.did.now) c.args.batch.now c.args.buf.now.items)
    (ideal g.U.Random.Rng.stream c.begin.new.core) (ideal g.U.Random.Rng.stream c.take.new.core) _ _ c.begin.new.batch _ _ c.in_ok-plan.plan.next _ _ c.in_ok-plan.plan.least _ c.in_ok-sealed.sealed.size c.in_ok-sealed.sealed.padding c.in_ok-frames.frames
    refl c.is_probe_due-probes.ensures c.is_key_nearly_used_up-nearly.ensures c.requires.begins c.requires.roomy c.in_ok-begin.ensures.leads c.in_ok-begin.ensures.batch c.left-left.ensures c.frame_room-room.ensures.value
    (loud_wide c.args.opens _ c.args.now _ _ c.args.batch.now c.begin.new.batch (held g.U.Random.Rng.stream c.args.core.now c.args.did.now) (ideal g.U.Random.Rng.stream c.begin.new.core) c.args.form c.requires.begins c.requires.roomy c.in_ok-begin.ensures.leads c.in_ok-begin.ensures.batch c.left-left.ensures c.frame_room-room.ensures.value
    c.frame_room-room.ensures.wide)
    (c.next_number-number.ensures ∙ ap (λ id. next_number c.begin.new.core.numbers id) c.space.ensures) c.in_ok-frames.ensures.frames c.in_ok-frames.ensures.full c.in_ok-frames.ensures.probes c.in_ok-frames.ensures.leads c.in_ok-plan.ensures.least
    c.in_ok-sealed.ensures.leads c.in_ok-sealed.ensures.bytes c.in_ok-sealed.ensures.size c.in_ok-sealed.ensures.padding c.in_ok-sealed.ensures.fills c.in_ok-sealed.ensures.counts c.fly_after.ensures c.grow.ensures

-- what was thought to follow it follows it
pub returns-clause-next : goal.returns-clause-next
returns-clause-next g c =
    (follows_taken c.args.opens _ c.is_key_nearly_used_up-nearly.result c.in_ok-sealed.sealed.fills c.in_ok-sealed.sealed.counts _ c.args.now c.args.form (held g.U.Random.Rng.stream c.args.core.now c.args.did.now)
    (ideal g.U.Random.Rng.stream c.begin.new.core) (ideal g.U.Random.Rng.stream c.take.new.core) _ _ c.args.batch.now c.begin.new.batch _ c.in_ok-plan.plan.next _ _ c.in_ok-plan.plan.least _ c.in_ok-sealed.sealed.size c.in_ok-sealed.sealed.padding c.in_ok-frames.frames
    c.requires.begins c.requires.roomy c.in_ok-begin.ensures.leads c.in_ok-begin.ensures.batch c.left-left.ensures c.frame_room-room.ensures.value
    (loud_wide c.args.opens _ c.args.now _ _ c.args.batch.now c.begin.new.batch (held g.U.Random.Rng.stream c.args.core.now c.args.did.now) (ideal g.U.Random.Rng.stream c.begin.new.core) c.args.form c.requires.begins c.requires.roomy c.in_ok-begin.ensures.leads c.in_ok-begin.ensures.batch c.left-left.ensures c.frame_room-room.ensures.value
    c.frame_room-room.ensures.wide)
    (c.next_number-number.ensures ∙ ap (λ id. next_number c.begin.new.core.numbers id) c.space.ensures) c.in_ok-frames.ensures.frames c.in_ok-frames.ensures.leads c.in_ok-plan.ensures.next c.in_ok-plan.ensures.least
    c.in_ok-sealed.ensures.leads c.in_ok-sealed.ensures.size c.in_ok-sealed.ensures.padding c.in_ok-sealed.ensures.fills c.fly_after.ensures c.grow.ensures).0

pub returns-clause-falls : goal.returns-clause-falls
returns-clause-falls g c =
    (follows_taken c.args.opens _ c.is_key_nearly_used_up-nearly.result c.in_ok-sealed.sealed.fills c.in_ok-sealed.sealed.counts _ c.args.now c.args.form (held g.U.Random.Rng.stream c.args.core.now c.args.did.now)
    (ideal g.U.Random.Rng.stream c.begin.new.core) (ideal g.U.Random.Rng.stream c.take.new.core) _ _ c.args.batch.now c.begin.new.batch _ c.in_ok-plan.plan.next _ _ c.in_ok-plan.plan.least _ c.in_ok-sealed.sealed.size c.in_ok-sealed.sealed.padding c.in_ok-frames.frames
    c.requires.begins c.requires.roomy c.in_ok-begin.ensures.leads c.in_ok-begin.ensures.batch c.left-left.ensures c.frame_room-room.ensures.value
    (loud_wide c.args.opens _ c.args.now _ _ c.args.batch.now c.begin.new.batch (held g.U.Random.Rng.stream c.args.core.now c.args.did.now) (ideal g.U.Random.Rng.stream c.begin.new.core) c.args.form c.requires.begins c.requires.roomy c.in_ok-begin.ensures.leads c.in_ok-begin.ensures.batch c.left-left.ensures c.frame_room-room.ensures.value
    c.frame_room-room.ensures.wide)
    (c.next_number-number.ensures ∙ ap (λ id. next_number c.begin.new.core.numbers id) c.space.ensures) c.in_ok-frames.ensures.frames c.in_ok-frames.ensures.leads c.in_ok-plan.ensures.next c.in_ok-plan.ensures.least
    c.in_ok-sealed.ensures.leads c.in_ok-sealed.ensures.size c.in_ok-sealed.ensures.padding c.in_ok-sealed.ensures.fills c.fly_after.ensures c.grow.ensures).1

-- so many datagrams were begun, and may be, and they have as many bytes as the buffer
pub returns-clause-made : goal.returns-clause-made
returns-clause-made g c =
    packet_made c.args.opens _ _ _ c.args.now (ideal g.U.Random.Rng.stream c.args.core.now) c.args.form c.args.batch.now c.begin.new.batch _ _ _ _ c.requires.begins c.requires.roomy c.in_ok-begin.ensures.batch c.grow.ensures

pub returns-clause-most : goal.returns-clause-most
returns-clause-most g c = packet_most c.args.opens _ _ (ideal g.U.Random.Rng.stream c.args.core.now) c.args.form c.args.batch.now c.begin.new.batch _ _ _ _ c.in_ok-begin.ensures.batch c.grow.ensures

pub returns-clause-full : goal.returns-clause-full
returns-clause-full g c =
    packet_total c.args.opens _ _ (ideal g.U.Random.Rng.stream c.args.core.now) c.args.form c.args.batch.now c.begin.new.batch _ _ _ _ _ _ c.in_ok-begin.ensures.batch c.grow.ensures c.requires.full
    (omega (arith, c.in_ok-sealed.ensures.full, c.in_ok-sealed.ensures.size)) c.in_ok-sealed.ensures.long

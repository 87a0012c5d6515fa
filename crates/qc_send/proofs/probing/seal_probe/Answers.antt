use Rattle.std.proofs.Common.{ap, arith, refl, sym, ◌∷◌, [], ◌∙◌}
use Rattle.qc_frame.specs.declared.frames.FrameOf.TheVariants.{Ping}
use Rattle.qc_state.specs.Sending.{sent_size}
use Rattle.qc_state.specs.declared.form.Form.TheVariants.{OneRtt}
use Rattle.qc_state.specs.View.{held, ideal}
use Rattle.qc_send.proofs.Probings.{ping_fits, probe_begins, probe_fresh, probe_full, probe_held, probe_keyed, probe_leads, probe_low, probe_marked, probe_near, probe_seals_so, probe_spelled_so}
use Rattle.qc_send.proofs.Seals.{room_taken}
use Rattle.qc_send.proofs.probing.seal_probe.Goals as goal

-- the number of the packet can be spelled
pub seal-requires-clause-near : goal.seal-requires-clause-near
seal-requires-clause-near g c =
    probe_near _ c.args.now c.args.quiet c.args.batch.now (held g.U.Random.Rng.stream c.args.core.now c.args.did.now) (ideal g.U.Random.Rng.stream c.begin_packet.new.core) _ c.requires.fresh
    (probe_begins _ c.args.now c.args.quiet c.args.batch.now (held g.U.Random.Rng.stream c.args.core.now c.args.did.now) _ _ _ _ refl c.hold.ensures c.do_ask.ensures c.in_ok-begin_packet.ensures) c.in_ok-frames.ensures.leads

pub seal-requires-clause-low : goal.seal-requires-clause-low
seal-requires-clause-low g c =
    probe_low _ c.args.now c.args.quiet c.args.batch.now (held g.U.Random.Rng.stream c.args.core.now c.args.did.now) (ideal g.U.Random.Rng.stream c.begin_packet.new.core) _ c.requires.fresh
    (probe_begins _ c.args.now c.args.quiet c.args.batch.now (held g.U.Random.Rng.stream c.args.core.now c.args.did.now) _ _ _ _ refl c.hold.ensures c.do_ask.ensures c.in_ok-begin_packet.ensures) c.in_ok-frames.ensures.leads

-- there are keys for it, which may seal one more
pub seal-requires-clause-keyed : goal.seal-requires-clause-keyed
seal-requires-clause-keyed g c =
    probe_keyed _ c.args.now c.args.size c.args.quiet c.args.batch.now (held g.U.Random.Rng.stream c.args.core.now c.args.did.now) (ideal g.U.Random.Rng.stream c.begin_packet.new.core) _ c.requires.may
    (probe_begins _ c.args.now c.args.quiet c.args.batch.now (held g.U.Random.Rng.stream c.args.core.now c.args.did.now) _ _ _ _ refl c.hold.ensures c.do_ask.ensures c.in_ok-begin_packet.ensures) c.in_ok-frames.ensures.leads

pub seal-requires-clause-fresh : goal.seal-requires-clause-fresh
seal-requires-clause-fresh g c =
    probe_fresh _ c.args.now c.args.quiet c.args.batch.now (held g.U.Random.Rng.stream c.args.core.now c.args.did.now) (ideal g.U.Random.Rng.stream c.begin_packet.new.core) _ c.requires.fresh
    (probe_begins _ c.args.now c.args.quiet c.args.batch.now (held g.U.Random.Rng.stream c.args.core.now c.args.did.now) _ _ _ _ refl c.hold.ensures c.do_ask.ensures c.in_ok-begin_packet.ensures) c.in_ok-frames.ensures.leads

-- the room is as it was, enough for the PING
pub seal-requires-clause-room : goal.seal-requires-clause-room
seal-requires-clause-room g c = room_taken _ _ _ (ideal g.U.Random.Rng.stream c.begin_packet.new.core) (ideal g.U.Random.Rng.stream c.do_take_ping.new.self) OneRtt (Ping ∷ []) c.frame_room-room.ensures.value refl c.in_ok-frames.ensures.leads

pub seal-requires-clause-wide : goal.seal-requires-clause-wide
seal-requires-clause-wide g c = c.frame_room-room.ensures.wide refl (omega (arith, (probe_held _ c.args.now c.args.size (ideal g.U.Random.Rng.stream c.args.core.now) c.args.batch.now c.args.quiet c.requires.may).0))

pub seal-requires-clause-fits : goal.seal-requires-clause-fits
seal-requires-clause-fits g c = ping_fits c.in_ok-frames.frames _ c.in_ok-frames.ensures.frames (c.frame_room-room.ensures.wide refl (omega (arith, (probe_held _ c.args.now c.args.size (ideal g.U.Random.Rng.stream c.args.core.now) c.args.batch.now c.args.quiet c.requires.may).0)))

-- no probe has many bytes
pub seal-requires-clause-most : goal.seal-requires-clause-most
seal-requires-clause-most g c = (probe_held _ c.args.now c.args.size (ideal g.U.Random.Rng.stream c.args.core.now) c.args.batch.now c.args.quiet c.requires.may).1

-- what was begun, taken, sealed and marked is a probe
pub returns-clause-leads : goal.returns-clause-leads
returns-clause-leads g c =
    probe_leads _ c.args.now c.args.size _ c.args.quiet c.is_key_nearly_used_up-nearly.result c.args.batch.now (held g.U.Random.Rng.stream c.args.core.now c.args.did.now) (held g.U.Random.Rng.stream c.fly_after.new.self c.seal.new.did) (ideal g.U.Random.Rng.stream c.begin_packet.new.core) _ _
    (probe_begins _ c.args.now c.args.quiet c.args.batch.now (held g.U.Random.Rng.stream c.args.core.now c.args.did.now) _ _ _ _ refl c.hold.ensures c.do_ask.ensures c.in_ok-begin_packet.ensures)
    (probe_seals_so _ c.args.now c.args.size _ c.in_ok-sealed.sealed.size c.in_ok-sealed.sealed.counts c.args.did.now (ideal g.U.Random.Rng.stream c.begin_packet.new.core) (ideal g.U.Random.Rng.stream c.do_take_ping.new.self) _ _ c.in_ok-frames.frames c.in_ok-frames.ensures.frames c.frame_room-room.ensures.value
    (c.frame_room-room.ensures.wide refl (omega (arith, (probe_held _ c.args.now c.args.size (ideal g.U.Random.Rng.stream c.args.core.now) c.args.batch.now c.args.quiet c.requires.may).0))) c.in_ok-frames.ensures.leads c.in_ok-sealed.ensures.leads c.in_ok-sealed.ensures.size c.in_ok-sealed.ensures.counts c.fly_after.ensures)
    c.next_number-number.ensures (probe_marked c.args.now _ c.args.size c.args.quiet (held g.U.Random.Rng.stream c.fly_after.new.self c.seal.new.did) _ c.do_probe.ensures) c.is_key_nearly_used_up-nearly.ensures c.in_ok-spare.ensures

-- its bytes are all that is in the buffer
pub returns-clause-bytes : goal.returns-clause-bytes
returns-clause-bytes g c =
    probe_spelled_so _ c.args.now c.args.size _ c.args.quiet c.args.batch.now (held g.U.Random.Rng.stream c.args.core.now c.args.did.now) (ideal g.U.Random.Rng.stream c.begin_packet.new.core) (ideal g.U.Random.Rng.stream c.do_take_ping.new.self) _ _ c.in_ok-frames.frames c.in_ok-frames.ensures.frames
    (probe_begins _ c.args.now c.args.quiet c.args.batch.now (held g.U.Random.Rng.stream c.args.core.now c.args.did.now) _ _ _ _ refl c.hold.ensures c.do_ask.ensures c.in_ok-begin_packet.ensures)
    c.frame_room-room.ensures.value (c.frame_room-room.ensures.wide refl (omega (arith, (probe_held _ c.args.now c.args.size (ideal g.U.Random.Rng.stream c.args.core.now) c.args.batch.now c.args.quiet c.requires.may).0))) c.in_ok-frames.ensures.leads c.requires.empty c.in_ok-sealed.ensures.bytes

pub returns-clause-sent : goal.returns-clause-sent
returns-clause-sent g c = c.probe_to-to.ensures

pub returns-clause-size : goal.returns-clause-size
returns-clause-size g c =
    probe_full c.args.size _ (ideal g.U.Random.Rng.stream c.begin_packet.new.core) (ideal g.U.Random.Rng.stream c.do_take_ping.new.self) _ _ c.in_ok-frames.frames c.in_ok-frames.ensures.frames c.frame_room-room.ensures.value (c.frame_room-room.ensures.wide refl (omega (arith, (probe_held _ c.args.now c.args.size (ideal g.U.Random.Rng.stream c.args.core.now) c.args.batch.now c.args.quiet c.requires.may).0))) c.in_ok-frames.ensures.leads c.requires.empty c.in_ok-sealed.ensures.full
    ∙ sym (ap sent_size c.probe_to-to.ensures)

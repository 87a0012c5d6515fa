use Rattle.std.proofs.Common.{ap}
use Rattle.std.specs.Option.{option_copied}
use Rattle.qc_send.proofs.Built.{asked_fits, frames_fit, sample_fits}
use Rattle.qc_send.proofs.Headers.{header_key_there, packet_key_there, slot_there}
use Rattle.qc_send.proofs.sealing.seal_with.Goals as goal

-- the space has keys
pub unreachable-requires : goal.unreachable-requires
unreachable-requires g c = header_key_there g.U.Random.Rng.stream c.args.core.now _ c.args.form _ c.core.view_is c.requires.keyed c.header_key.ensures (ap option_copied c.in-None.is)

pub unreachable-requires-in-None-packet_key : goal.unreachable-requires-in-None-packet_key
unreachable-requires-in-None-packet_key g c =
    packet_key_there g.U.Random.Rng.stream c.args.core.now _ c.args.form _ c.core.view_is c.requires.keyed c.packet_key.ensures (ap option_copied c.in-None-packet_key.is)

-- and so a slot
pub unreachable-requires-in-None-slot : goal.unreachable-requires-in-None-slot
unreachable-requires-in-None-slot g c = slot_there g.U.Random.Rng.stream c.args.core.now c.args.form c.slot.result c.requires.keyed c.slot.ensures c.in-None-slot.is

-- its Length stays short
pub seal_padded-requires-clause-sized : goal.seal_padded-requires-clause-sized
seal_padded-requires-clause-sized g c = sample_fits c.args.left c.args.header.now c.requires.most c.requires.sized

pub seal_padded-requires-clause-room : goal.seal_padded-requires-clause-room
seal_padded-requires-clause-room g c = frames_fit c.args.left _ c.args.header.now c.requires.most c.requires.room

pub seal_padded-requires-clause-least : goal.seal_padded-requires-clause-least
seal_padded-requires-clause-least g c = asked_fits c.args.left c.args.least c.args.header.now c.requires.most c.requires.sized c.requires.small

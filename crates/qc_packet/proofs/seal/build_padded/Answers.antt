use Rattle.std.specs.List.{list_any}
use Rattle.std.proofs.Common.{Bool, length, arith}
use Rattle.qc_frame.specs.FrameSpelling.{elicits}
use Rattle.qc_packet.specs.declared.slot.Slot.{Slot}
use Rattle.qc_packet.proofs.Full.{full_bytes, full_padding, full_size}
use Rattle.qc_packet.proofs.seal.build_padded.Goals as goal

-- behind what stood in the buffer the packet is sealed, with its padding
pub returns-clause-bytes : goal.returns-clause-bytes
returns-clause-bytes g c =
    let s : Slot = c.args.slot.now in
    let asks : Bool = list_any elicits c.args.frames.now in
    full_bytes s.flip s.space s.number c.args.header.now c.args.capacity asks c.args.frames.now c.args.least c.args.buf.now.items c.begin_padded.new.buf.items c.in_ok-builder.builder
    c.in_ok-builder.ensures.builder c.in_ok-builder.ensures.bytes c.in_ok-builder.ensures.ready c.requires.sized c.requires.least
    (g.H.HeaderMask.mask_of c.args.header_key.now) (g.P.PacketKey.seal c.args.packet_key.now) c.finish.new.buf.items c.requires.numbered c.in_ok-finish.ensures.packet

-- and has its size
pub returns-clause-full : goal.returns-clause-full
returns-clause-full g c =
    let s : Slot = c.args.slot.now in
    let asks : Bool = list_any elicits c.args.frames.now in
    full_size s.flip s.space s.number c.args.header.now c.args.capacity asks c.args.frames.now c.args.least c.args.buf.now.items c.begin_padded.new.buf.items c.in_ok-builder.builder
    c.in_ok-builder.ensures.builder c.in_ok-builder.ensures.bytes c.in_ok-builder.ensures.ready c.requires.sized c.requires.least (length c.finish.new.buf.items) c.in_ok-finish.ensures.end

pub returns-clause-padding : goal.returns-clause-padding
returns-clause-padding g c =
    let s : Slot = c.args.slot.now in
    let asks : Bool = list_any elicits c.args.frames.now in
    let pad =
    full_padding s.flip s.space s.number c.args.header.now c.args.capacity asks c.args.frames.now c.args.least c.args.buf.now.items c.begin_padded.new.buf.items c.in_ok-builder.builder
    c.in_ok-builder.ensures.builder c.in_ok-builder.ensures.bytes c.in_ok-builder.ensures.ready c.requires.sized c.requires.least in
    omega (arith, c.saturating_sub-padding.ensures, c.len.ensures, pad)

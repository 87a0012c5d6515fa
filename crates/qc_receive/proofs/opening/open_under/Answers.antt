use Rattle.qc_receive.proofs.Opens.{under_told}
use Rattle.qc_receive.proofs.opening.open_under.Goals as goal

-- the packet without its mask
pub returns-in-Some-packet : goal.returns-in-Some-packet
returns-in-Some-packet g c =
    under_told g.H.HeaderMask.mask_of g.P.PacketKey.opening c.args.key.now _ _ c.args.rx c.args.partial c.in_ok-unprotect_header.field-0 c.in-Some.told c.in-Some-packet.packet _ c.open_packet.result
    c.requires.form c.in_ok-unprotect_header.ensures.told c.in-Some.is c.in-Some-packet.is c.in_ok-unprotect_header.ensures.packet c.in-Some-packet.packet-is c.open_packet.ensures

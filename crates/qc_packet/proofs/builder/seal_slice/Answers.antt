use Rattle.std.proofs.Common.{◌++◌, ◌-◌, replicate, arith}
use Rattle.qc_packet.proofs.Finishes.{sealed_and_masked}
use Rattle.qc_packet.proofs.builder.seal_slice.Goals as goal

-- the header is completed, then sealed and masked
pub returns : goal.returns
returns g c flip h plain is_of field is =
    sealed_and_masked (g.H.HeaderMask.mask_of c.args.header_key.now) (g.P.PacketKey.seal c.args.packet_key.now) flip h c.args.builder.now.exact_number c.args.length_field
    c.args.builder.now.header_len (c.args.builder.now.header_len - c.args.builder.now.pn_len) plain c.set_length_field.new.packet c.protect.new.packet
    is_of.header (omega (arith, is_of.header, is_of.number)) field
    (c.set_length_field.ensures flip h (plain ++ replicate 16 0) is_of.header is_of.number (omega (arith, is_of.number, is_of.numbered)) is) c.protect.ensures

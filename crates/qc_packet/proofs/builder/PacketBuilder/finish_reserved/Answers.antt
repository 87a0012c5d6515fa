use Rattle.std.proofs.Common.{◌≡◌, ℕ, ◌+◌, ◌-◌, ◌++◌, length, replicate, refl, ap, ◌∙◌, arith}
use Rattle.qc_header.specs.HeaderSpelling.{header_spelling}
use Rattle.qc_packet.proofs.Finishes.{all_changed, filled_up, field_written}
use Rattle.qc_packet.proofs.builder.PacketBuilder.finish_reserved.Goals as goal

-- the packet stands in the buffer, padding and room for the tag behind it, and is sealed there
pub returns-clause-packet : goal.returns-clause-packet
returns-clause-packet g c before flip h plain start is_of is =
    let pad : ℕ = c.args.self.min_size - length c.args.buf.now.items in
    let same : length c.seal_behind.new.bytes ≡ length c.fill.new.buf.items = omega (arith, ap length c.as_mut_slice.ensures.value) in
    let all : c.fill.new.buf.len ≡ length c.fill.new.buf.items = omega (arith, c.as_mut_slice.ensures.len, ap length c.as_mut_slice.ensures.value) in
    all_changed c.seal_behind.new.bytes c.fill.new.buf.items c.fill.new.buf.len same all
    ∙ c.seal_behind.ensures before flip h (plain ++ replicate pad 0) start is_of
    (ap (λ (n : ℕ). header_spelling h n) c.min-length_field.ensures ∙ field_written c.args.self h flip before plain c.args.buf.now.items (c.max-end.result + 16 + c.args.self.pn_len - (c.args.self.start + c.args.self.header_len)) c.requires.ready is_of start is (omega arith))
    (c.as_mut_slice.ensures.value ∙ filled_up flip h before plain c.args.buf.now.items c.fill.new.buf.items c.args.self.min_size (c.max-end.result + 16) (c.max-end.result + 16 - length c.args.buf.now.items) pad is c.fill.ensures.bytes (omega arith) refl refl)

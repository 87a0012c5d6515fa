use Rattle.std.proofs.Common.{◌≡◌, ℕ, ◌+◌, ◌∙◌, List, length, sym, ap, arith, length-append}
use Rattle.qc_packet.specs.PacketSpelling.{with_flip}
use Rattle.qc_packet.proofs.Finishes.{flip_len}
use Rattle.qc_packet.proofs.Full.{begun_sound}
use Rattle.qc_header.specs.HeaderSpelling.{header_spelling}
use Rattle.qc_packet.proofs.builder.begin.Goals as goal

-- the sizes leave room for what sealing adds
pub returns-clause-sound : goal.returns-clause-sound
returns-clause-sound c some =
    let s = begun_sound c.args.space c.args.number c.args.header.now c.len-start.result c.args.capacity c.args.datagram_start c.args.ack_eliciting (omega arith) some in
    record {
      numbered = omega (arith, s.numbered, c.number_len.ensures.value);
      first = omega (arith, s.first, c.number_len.ensures.value, c.encoded_len.ensures.len 0);
      sample = omega (arith, s.sample, c.min_size.ensures, c.number_len.ensures.value, c.encoded_len.ensures.len 0);
      tag = omega (arith, s.tag, c.max_size.ensures);
      length_field = λ e. omega (arith, s.length_field (sym c.has_short_header.ensures ∙ e), c.max_size.ensures, c.number_len.ensures.value, c.encoded_len.ensures.len 0);
    }

-- the header is all that was written
pub returns-clause-begun : goal.returns-clause-begun
returns-clause-begun c =
    let sizes : length c.put_header.new.buf.items ≡ length c.args.buf.now.items + length (with_flip c.args.flip (header_spelling c.args.header.now 0)) =
    ap (λ (x : List ℕ). length x) c.in_ok-put_header.ensures.ok ∙ length-append c.args.buf.now.items (with_flip c.args.flip (header_spelling c.args.header.now 0)) in
    omega (arith, sizes, flip_len c.args.flip c.args.header.now 0, c.encoded_len.ensures.len 0, c.len-start.ensures)

use Rattle.std.proofs.Common.{◌≡◌, ℕ, is_some, subst, arith}
use Rattle.std.specs.Option.{option_copied}
use Rattle.qc_base.specs.Mask.{first_byte}
use Rattle.qc_header.specs.HeaderSpelling.{header_number}
use Rattle.qc_packet.specs.OpenedPacket.{opened_payload, payload_after, opening_answer}
use Rattle.qc_packet.proofs.OpenedLemmas.{one_number, is_expanded}
use Rattle.qc_packet.proofs.decrypt.decrypt_packet_body.Goals as goal

-- the number that was expanded is the only one
pub returns-clause-answer : goal.returns-clause-answer
returns-clause-answer g c number h =
    subst (λ (n : ℕ). c.decrypt_numbered.result ≡ opening_answer c.args.packet.now.header (first_byte c.args.packet.now.header_data) (option_copied c.args.keys.now.ring) c.args.rx n (is_some (opened_payload g.P.PacketKey.opening c.args.packet.now c.args.keys.now n)))
    (one_number (header_number c.args.packet.now.header) c.args.rx c.expand-number.result number (is_expanded (header_number c.args.packet.now.header) c.number.result c.in-Some.low c.args.rx c.saturating_add.result c.expand-number.result c.number.ensures c.in-Some.is (omega (arith, c.saturating_add.ensures)) c.expand-number.ensures.nearest) h) c.decrypt_numbered.ensures.answer

pub returns-clause-payload : goal.returns-clause-payload
returns-clause-payload g c number h =
    subst (λ (n : ℕ). c.decrypt_numbered.new.packet.payload.items ≡ payload_after c.args.packet.now.payload.items (opened_payload g.P.PacketKey.opening c.args.packet.now c.args.keys.now n))
    (one_number (header_number c.args.packet.now.header) c.args.rx c.expand-number.result number (is_expanded (header_number c.args.packet.now.header) c.number.result c.in-Some.low c.args.rx c.saturating_add.result c.expand-number.result c.number.ensures c.in-Some.is (omega (arith, c.saturating_add.ensures)) c.expand-number.ensures.nearest) h) c.decrypt_numbered.ensures.payload

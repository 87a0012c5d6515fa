use Rattle.std.proofs.Common.{[]}
use Rattle.std.specs.Option.{option_map_or}
use Rattle.qc_header.proofs.Datagrams.{gives_found, gives_only, gives_none}
use Rattle.qc_header.proofs.partial_decode.PartialDecode.new.Goals as goal

pub returns-clause-found : goal.returns-clause-found
returns-clause-found c = gives_found (λ r. (r.0, option_map_or (λ b. b.items) r.1 [])) c.args.local_cid_len c.args.versions.now c.args.grease_quic_bit c.args.bytes.items c.first_piece.result c.first_piece.ensures.octets c.first_piece.ensures.exact

pub returns-clause-only : goal.returns-clause-only
returns-clause-only c = gives_only (λ r. (r.0, option_map_or (λ b. b.items) r.1 [])) c.args.local_cid_len c.args.versions.now c.args.grease_quic_bit c.args.bytes.items c.first_piece.result c.first_piece.ensures.exact c.first_piece.ensures.fault

pub returns-clause-refused : goal.returns-clause-refused
returns-clause-refused c = gives_none (λ r. (r.0, option_map_or (λ b. b.items) r.1 [])) c.args.local_cid_len c.args.versions.now c.args.grease_quic_bit c.args.bytes.items c.first_piece.result c.first_piece.ensures.octets c.first_piece.ensures.fault

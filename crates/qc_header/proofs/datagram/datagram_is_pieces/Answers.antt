use Rattle.qc_header.proofs.Datagrams.{pieces_meet, pieces_only}
use Rattle.qc_header.proofs.datagram.datagram_is_pieces.Goals as goal

pub returns : goal.returns
returns c = record { pieces = pieces_meet; only = λ k versions grease items bytes. pieces_only k versions grease items bytes }

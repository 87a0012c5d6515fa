-- Datagrams (RFC 9000, section 12.2): packets, one after the other, to the end or the first bytes that begin with none
use Rattle.std.specs.Prelude.{ℕ, zero, suc, List, [], ◌∷◌, length, Bool, Result, Ok, Err}
use Rattle.qc_header.specs.declared.protected.PacketDecodeError.{PacketDecodeError}
use Rattle.qc_header.specs.HeaderGrammar.{DatagramItem}
use Rattle.qc_header.specs.HeaderReading.{piece_at}
use Rattle.qc_header.specs.Piece.{Piece}

-- an item, and behind a packet what others makes of the bytes that are left
abbrev pub pieces_and : Result (Piece × List ℕ) PacketDecodeError → (List ℕ → List DatagramItem) → List DatagramItem
pieces_and (Ok piece) others = Ok piece.0 ∷ others piece.1
pieces_and (Err fault) others = Err fault ∷ []

-- the first items, at most so many
abbrev pub pieces_within : ℕ → (local_cid_len : ℕ) → List ℕ → Bool → List ℕ → List DatagramItem
pieces_within zero local_cid_len versions grease_quic_bit bytes = []
pieces_within (suc most) local_cid_len versions grease_quic_bit [] = []
pieces_within (suc most) local_cid_len versions grease_quic_bit (b ∷ bytes) =
    pieces_and (piece_at local_cid_len versions grease_quic_bit (b ∷ bytes)) (pieces_within most local_cid_len versions grease_quic_bit)

-- A datagram is cut into its packets up to the first bytes that begin with none (RFC 9000, section 12.2). The packets of a
-- datagram, which has no more of them than bytes, and the fault that ends it, if one does
unfoldable pub pieces_of : ℕ → List ℕ → Bool → List ℕ → List DatagramItem
pieces_of local_cid_len versions grease_quic_bit bytes = pieces_within (length bytes) local_cid_len versions grease_quic_bit bytes

-- How datagrams are cut into packets.
use Rattle.std.specs.Prelude.{◌≡◌, ℕ, List, [], ◌∷◌, length, Option, Some, None, Result}
use Rattle.bytes.specs.declared.unique.BytesMut.{BytesMut}
use Rattle.std.specs.Global.{Global}
use Rattle.qc_receive.specs.declared.receiving.Cutting.{Cutting}
use Rattle.qc_header.specs.HeaderGrammar.{DatagramItem}
use Rattle.qc_header.specs.HeaderReading.{piece_at}
use Rattle.qc_header.specs.Piece.{Piece}
use Rattle.qc_header.specs.Pieces.{pieces_of}
use Rattle.qc_header.specs.declared.protected.PacketDecodeError.{PacketDecodeError}
use Rattle.qc_state.specs.Types.{Types}
use Rattle.qc_state.specs.View.{View}

-- the datagrams of a connection are cut so
pub record Cuts {t : Types} (s : View t) (c : Cutting) : Type 0 where
  pub len : c.local_cid_len ≡ length s.setup.fixed.local_cid
  pub version : c.version ≡ s.setup.fixed.version
  pub grease : c.grease_quic_bit ≡ s.setup.fixed.grease_quic_bit

-- the first packet, and what is behind it
abbrev pub front_of : Cutting → List ℕ → Result (Piece × List ℕ) PacketDecodeError
front_of c bytes = piece_at c.local_cid_len (c.version ∷ []) c.grease_quic_bit bytes

-- what is behind it, as bytes
abbrev pub rest_of : Option (BytesMut Global) → List ℕ
rest_of None = []
rest_of (Some bytes) = bytes.items

-- the packets behind it
abbrev pub others_of : Cutting → Option (BytesMut Global) → List DatagramItem
others_of c rest = pieces_of c.local_cid_len (c.version ∷ []) c.grease_quic_bit (rest_of rest)

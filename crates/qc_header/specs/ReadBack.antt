-- Headers that can be written, and what is read of them
use Rattle.std.specs.Prelude.{ℕ, ◌+◌, ◌-◌, ◌<◌, ◌≤◌, ◌^◌, ◌≡◌, List, ◌++◌, length, take, drop}
use Rattle.std.specs.Option.{option_map_or}
use Rattle.qc_base.specs.declared.packet_number.PacketNumber.{PacketNumber}
use Rattle.qc_base.specs.declared.packet_number.PacketNumber.TheVariants.{U8, U16, U24, U32}
use Rattle.qc_base.specs.Mask.{masked}
use Rattle.qc_base.specs.PacketNumber.{number_len}
use Rattle.qc_base.specs.Varint.{varint}
use Rattle.qc_header.specs.declared.header.Header.{Header}
use Rattle.qc_header.specs.declared.header.InitialHeader.{InitialHeader}
use Rattle.qc_header.specs.HeaderSpelling.{header_spelling, header_number}
use Rattle.qc_header.specs.Unprotected.{IsCut, unprotected, header_end, header_from}
use Rattle.qc_header.specs.Piece.{Piece}

-- the number's low bytes have as many bytes as its form says
abbrev pub FitsItsForm : PacketNumber → Type 0
FitsItsForm (U8 n) = n < 0x100
FitsItsForm (U16 n) = n < 0x10000
FitsItsForm (U24 n) = n < 0x1000000
FitsItsForm (U32 n) = n < 0x100000000

-- what a header's fields hold in code
pub record IsWritable (dst_cid src_cid : List ℕ) (of_packet : PacketNumber) (of_quic : ℕ) : Type 0 where
  pub dst : length dst_cid ≤ 20
  pub src : length src_cid ≤ 20
  pub number : FitsItsForm of_packet
  pub version : of_quic < 2 ^ 32

-- ids that a long header can hold
pub record AreIds (dst_cid src_cid : List ℕ) : Type 0 where
  pub dst : length dst_cid ≤ 20
  pub src : length src_cid ≤ 20

-- where the token of an Initial packet begins
abbrev pub token_place : InitialHeader → ℕ
token_place h = 7 + length h.dst_cid + length h.src_cid + length (varint (length h.token))

-- where a header's number begins
abbrev pub number_place : Header → ℕ → ℕ
number_place header length_field =
    length (header_spelling header length_field) - option_map_or number_len (header_number header) 0

-- a packet of this header and this sealed payload, under the mask that mask_of makes of it
abbrev pub protected_packet : (List ℕ → List ℕ) → Header → ℕ → List ℕ → List ℕ
protected_packet mask_of header length_field payload =
    masked mask_of (number_place header length_field) (header_spelling header length_field ++ payload)

-- what is made of a packet once its header protection is off: this header, of these bytes, and what is behind them
pub record Finishes (mask_of : List ℕ → List ℕ) (packet : Piece) (of_packet : Header) (spelling behind : List ℕ) : Type 0 where
  pub whole : IsCut packet → ⊥
  pub header_data : take (header_end packet (unprotected mask_of packet)) (unprotected mask_of packet) ≡ spelling
  pub payload : drop (header_end packet (unprotected mask_of packet)) (unprotected mask_of packet) ≡ behind
  pub header : header_from packet.header packet.pn_offset spelling ≡ of_packet

-- The packets that are built and opened.
use Rattle.std.specs.Prelude.{ℕ, ◌-◌, false, List, ◌∷◌, Option, None, Some, Result, Ok, Err, replicate, codes}
use Rattle.qc_base.specs.declared.packet_number.PacketNumber.TheVariants.{U32}
use Rattle.qc_header.specs.declared.header.Header.{Header}
use Rattle.qc_header.specs.declared.header.Header.TheVariants.{Short}
use Rattle.qc_packet.specs.declared.decrypt.DecryptPacketResult.{DecryptPacketResult}
use Rattle.qc_packet.specs.declared.decrypt.OpenError.{OpenError}

-- the header of a 1-RTT packet of the first epoch with this number, which is spelled by 4 bytes
abbrev pub passing_header : ℕ → Header
passing_header number = Short false false (codes "receiver") (U32 number)

-- the payload of a packet of so many bytes: a PING, and zeros as its padding
abbrev pub passing_payload : ℕ → List ℕ
passing_payload size = 1 ∷ replicate (size - 30) 0

-- the full number of a packet that was opened
abbrev pub number_in : Result (Option DecryptPacketResult) OpenError → Option ℕ
number_in (Ok (Some told)) = Some told.number
number_in (Ok None) = None
number_in (Err cause) = None

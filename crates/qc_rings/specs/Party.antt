-- One of two ends with its keys and the bytes of what it sealed.
use Rattle.std.specs.Prelude.{ℕ, List, Option}
use Rattle.qc_rings.specs.declared.sealed_packet.SealedPacket.{SealedPacket}
use Rattle.qc_rings.specs.Keyed.{Keyed}

-- an end with keys
pub record Party (P : Type 0) : Type 0 where
  -- its ring with the keys
  pub keys : Keyed P
  -- every packet that it ever sealed, in their order
  pub sent : List SealedPacket
  -- the greatest number that it opened
  pub greatest : Option ℕ

-- When the keys of two ends belong together (RFC 9001, sections 5 and 6).
use Rattle.std.specs.Prelude.{◌≡◌, ◌≢◌, ℕ, ◌<◌, ◌^◌, List, Option, Some, None}
use Rattle.qc_crypto.specs.declared.keys.KeyPair.{KeyPair}
use Rattle.qc_crypto.specs.declared.keys.Keys.{Keys}

-- A sealing function takes a packet number, a header and a plain payload, and gives the sealed payload.
abbrev pub Sealing : Type 0
Sealing = ℕ → List ℕ → List ℕ → List ℕ

-- An opening function takes a packet number, a header and a sealed payload, and gives the plain one.
abbrev pub Opening : Type 0
Opening = ℕ → List ℕ → List ℕ → Option (List ℕ)

-- What the one key seals, the other opens to the same bytes with the same number.
pub record OpensItsPackets (seal : Sealing) (opening : Opening) : Type 0 where
  pub same : (number : ℕ) (header plain : List ℕ) → opening number header (seal number header plain) ≡ Some plain

-- What the one key seals, the other opens with no other number. Numbers are those that 64 bits hold;
-- packet numbers lie below 2^62. A real cipher keeps this up to chance alone.
pub record OpensNoOtherNumber (seal : Sealing) (opening : Opening) : Type 0 where
  pub other : (number wrong : ℕ) (header plain : List ℕ) → number < 2 ^ 64 → wrong < 2 ^ 64 → wrong ≢ number → opening wrong header (seal number header plain) ≡ None

-- What the one key seals, the other opens with no number.
pub record OpensNoPackets (seal : Sealing) (opening : Opening) : Type 0 where
  pub none : (number wrong : ℕ) (header plain : List ℕ) → opening wrong header (seal number header plain) ≡ None

-- Two ends open what each other seals.
pub record OpenEachOther {P : Type 0} (seal : P → Sealing) (opening : P → Opening) (one other : KeyPair P) : Type 0 where
  pub forth : OpensItsPackets (seal one.local) (opening other.remote)
  pub back : OpensItsPackets (seal other.local) (opening one.remote)

-- Two ends' packet keys are mates if each end opens what the other seals, and with no other number.
pub record ArePacketMates {P : Type 0} (seal : P → Sealing) (opening : P → Opening) (one other : KeyPair P) : Type 0 where
  pub opens : OpenEachOther seal opening one other
  pub forth : OpensNoOtherNumber (seal one.local) (opening other.remote)
  pub back : OpensNoOtherNumber (seal other.local) (opening one.remote)

-- Two ends' packet keys are apart if neither opens anything that the other seals.
pub record ArePacketsApart {P : Type 0} (seal : P → Sealing) (opening : P → Opening) (one other : KeyPair P) : Type 0 where
  pub forth : OpensNoPackets (seal one.local) (opening other.remote)
  pub back : OpensNoPackets (seal other.local) (opening one.remote)

-- Two ends' header keys are mates if each masks what it sends as the other unmasks it.
pub record AreHeaderMates {H : Type 0} (mask : H → List ℕ → List ℕ) (one other : KeyPair H) : Type 0 where
  pub forth : (sample : List ℕ) → mask one.local sample ≡ mask other.remote sample
  pub back : (sample : List ℕ) → mask other.local sample ≡ mask one.remote sample

-- Two ends read what each other sends: each takes off the other's mask, and opens what it seals.
pub record ReadEachOther {H P : Type 0} (mask : H → List ℕ → List ℕ) (seal : P → Sealing) (opening : P → Opening) (one other : Keys H P) : Type 0 where
  pub header : AreHeaderMates mask one.header other.header
  pub packet : OpenEachOther seal opening one.packet other.packet

-- Both kinds of key of two ends are mates.
pub record AreMates {H P : Type 0} (mask : H → List ℕ → List ℕ) (seal : P → Sealing) (opening : P → Opening) (one other : Keys H P) : Type 0 where
  pub header : AreHeaderMates mask one.header other.header
  pub packet : ArePacketMates seal opening one.packet other.packet

-- The early keys of two ends, each a header key and a packet key, are mates if the one end opens what
-- the other seals, with no other number, and masks alike.
pub record AreEarlyMates {H P : Type 0} (mask : H → List ℕ → List ℕ) (seal : P → Sealing) (opening : P → Opening) (one other : H × P) : Type 0 where
  pub header : (sample : List ℕ) → mask one.0 sample ≡ mask other.0 sample
  pub packet : OpensItsPackets (seal one.1) (opening other.1)
  pub number : OpensNoOtherNumber (seal one.1) (opening other.1)

-- Two ends with keys: what each event makes of them, by sealing and opening real bytes. An end keeps the
-- greatest number that it opened in place of all, and a packet carries that one.
use Rattle.std.specs.Prelude.{ℕ, Bool, false, List, [], ◌∷◌, ◌++◌, length, Option, Some, None, is_some, max, if◌then◌else◌, slice_get}
use Rattle.qc_base.specs.Time.{plus}
use Rattle.qc_base.specs.declared.side.Side.{Side}
use Rattle.qc_base.specs.declared.side.Side.TheVariants.{Client, Server}
use Rattle.qc_crypto.specs.Mates.{Sealing, Opening}
use Rattle.qc_crypto.specs.declared.keys.KeyPair.{KeyPair}
use Rattle.qc_rings.specs.declared.sealed_packet.SealedPacket.{SealedPacket}
use Rattle.qc_rings.specs.declared.which.Which.{Which}
use Rattle.qc_rings.specs.declared.which.Which.TheVariants.{Current, Previous, Next}
use Rattle.qc_rings.specs.declared.pair.RingEvent.{RingEvent}
use Rattle.qc_rings.specs.declared.pair.RingEvent.TheVariants.{Seal, Update, Deliver, Discard}
use Rattle.qc_rings.specs.declared.pair.PairOutcome.{PairOutcome}
use Rattle.qc_rings.specs.declared.pair.PairOutcome.TheVariants.{Sealed, Updated, Opened, Old, Discarded, Nothing}
use Rattle.qc_rings.specs.TwoRings.{other}
use Rattle.qc_rings.specs.Ring.{phase_of, which_named, may_update, after_update, has_floor}
use Rattle.qc_rings.specs.Keyed.{Keyed, first_keyed, key_of, keyed_opened, keyed_sealed, keyed_acked, keyed_updated, keyed_discarded}
use Rattle.qc_rings.specs.Party.{Party}

-- an end that begins, with its keys by epoch
abbrev pub first_party : {P : Type 0} → (ℕ → KeyPair P) → Party P
first_party keys = record { keys = first_keyed (keys 0) (keys 1); sent = []; greatest = None }

-- the packet that an end seals next
unfoldable pub next_packet : {P : Type 0} → (P → Sealing) → Party P → SealedPacket
next_packet seal t =
    record {
      number = length t.sent;
      epoch = t.keys.ring.epoch;
      greatest = t.greatest;
      bytes = seal t.keys.current.local (length t.sent) [] [];
    }

-- an end that sealed its next packet
unfoldable pub party_sealed : {P : Type 0} → (P → Sealing) → Party P → Party P
party_sealed seal t =
    record { keys = keyed_sealed t.keys (length t.sent); sent = t.sent ++ next_packet seal t ∷ []; greatest = t.greatest }

-- an end that began a new epoch, if it may
unfoldable pub party_updated : {P : Type 0} → (ℕ → KeyPair P) → Party P → Party P
party_updated keys t = record t { keys = keyed_updated t.keys (keys (plus t.keys.ring.epoch 2)) }

-- what comes of it: the new epoch, if one began
abbrev pub updated_outcome : {P : Type 0} → Party P → PairOutcome
updated_outcome t = if may_update t.keys.ring then Updated (after_update t.keys.ring).epoch else Nothing

-- an end that dropped its previous keys, if they have a floor
unfoldable pub party_discarded : {P : Type 0} → Party P → Party P
party_discarded t = record t { keys = keyed_discarded t.keys }

-- what comes of it: whether it dropped any
abbrev pub discarded_outcome : {P : Type 0} → Party P → PairOutcome
discarded_outcome t = if has_floor t.keys.ring.kept then Discarded else Nothing

-- whether a key opens a packet
unfoldable pub opens_with : Opening → SealedPacket → Bool
opens_with opening q = is_some (opening q.number [] q.bytes)

-- whether these keys, if they are there, open a packet of the other end's
abbrev pub opened_by : {P : Type 0} → (P → Opening) → Option (KeyPair P) → SealedPacket → Bool
opened_by opening None q = false
opened_by opening (Some keys) q = opens_with (opening keys.remote) q

-- the keys that a packet names at this end
abbrev pub names : {P : Type 0} → Party P → SealedPacket → Which
names t q = which_named t.keys.ring (phase_of q.epoch) q.number

-- whether an end opens a packet
unfoldable pub party_opens : {P : Type 0} → (P → Opening) → Party P → SealedPacket → Bool
party_opens opening t q = opened_by opening (key_of t.keys (names t q)) q

-- the keys of the epoch after the next, where the next keys opened a packet
abbrev pub fresh_keys : {P : Type 0} → (ℕ → KeyPair P) → ℕ → Which → Option (KeyPair P)
fresh_keys keys epoch Previous = None
fresh_keys keys epoch Current = None
fresh_keys keys epoch Next = Some (keys (plus epoch 2))

-- a ring whose packet of this number, if it is one, was acknowledged
abbrev pub keyed_acked_by : {P : Type 0} → Keyed P → Option ℕ → Keyed P
keyed_acked_by k None = k
keyed_acked_by k (Some number) = keyed_acked k number

-- the greater of a number and what may be another
abbrev pub greatest_with : Option ℕ → ℕ → ℕ
greatest_with None number = number
greatest_with (Some other) number = max other number

-- an end that opened a packet by these keys
unfoldable pub party_opened : {P : Type 0} → (ℕ → KeyPair P) → Party P → Which → SealedPacket → Party P
party_opened keys t which q =
    record t {
      keys = keyed_acked_by (keyed_opened t.keys which q.number (fresh_keys keys t.keys.ring.epoch which)) q.greatest;
      greatest = Some (greatest_with t.greatest q.number);
    }

-- an end that a packet reached
unfoldable pub party_given : {P : Type 0} → (P → Opening) → (ℕ → KeyPair P) → Party P → Option SealedPacket → Party P
party_given opening keys t None = t
party_given opening keys t (Some q) = if party_opens opening t q then party_opened keys t (names t q) q else t

-- what comes of it: whether there was a packet, and whether it opened
abbrev pub given_outcome : {P : Type 0} → (P → Opening) → Party P → Option SealedPacket → PairOutcome
given_outcome opening t None = Nothing
given_outcome opening t (Some q) = if party_opens opening t q then Opened else Old

-- both ends
pub record Parties (P : Type 0) : Type 0 where
  pub client : Party P
  pub server : Party P

-- both in epoch 0
abbrev pub first_parties : {P : Type 0} → (Side → ℕ → KeyPair P) → Parties P
first_parties keys = record { client = first_party (keys Client); server = first_party (keys Server) }

-- the end on this side
abbrev pub party_of : {P : Type 0} → Parties P → Side → Party P
party_of t Client = t.client
party_of t Server = t.server

-- both ends, the one on this side replaced
abbrev pub with_party : {P : Type 0} → Parties P → Side → Party P → Parties P
with_party t Client p = record t { client = p }
with_party t Server p = record t { server = p }

-- the packet of a sealer that is counted so, from 0
abbrev pub bytes_at : {P : Type 0} → Parties P → Side → ℕ → Option SealedPacket
bytes_at t from index = slice_get (party_of t from).sent index

-- both ends after an event
unfoldable pub parties_after : {P : Type 0} → (P → Sealing) → (P → Opening) → (Side → ℕ → KeyPair P) → Parties P → RingEvent → Parties P
parties_after seal opening keys t (Seal from) = with_party t from (party_sealed seal (party_of t from))
parties_after seal opening keys t (Update from) = with_party t from (party_updated (keys from) (party_of t from))
parties_after seal opening keys t (Deliver from index) =
    with_party t (other from) (party_given opening (keys (other from)) (party_of t (other from)) (bytes_at t from index))
parties_after seal opening keys t (Discard at) = with_party t at (party_discarded (party_of t at))

-- what comes of an event
unfoldable pub parties_outcome : {P : Type 0} → (P → Opening) → Parties P → RingEvent → PairOutcome
parties_outcome opening t (Seal from) = Sealed (length (party_of t from).sent) (party_of t from).keys.ring.epoch
parties_outcome opening t (Update from) = updated_outcome (party_of t from)
parties_outcome opening t (Deliver from index) = given_outcome opening (party_of t (other from)) (bytes_at t from index)
parties_outcome opening t (Discard at) = discarded_outcome (party_of t at)

-- what comes of each of a list of events
abbrev pub parties_log : {P : Type 0} → (P → Sealing) → (P → Opening) → (Side → ℕ → KeyPair P) → List RingEvent → Parties P → List PairOutcome
parties_log seal opening keys [] t = []
parties_log seal opening keys (v ∷ vs) t =
    parties_outcome opening t v ∷ parties_log seal opening keys vs (parties_after seal opening keys t v)

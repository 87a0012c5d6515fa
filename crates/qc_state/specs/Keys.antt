-- The keys of a connection (RFC 9001, sections 4, 6 and 6.6).
use Rattle.std.specs.Prelude.{ℕ, ◌+◌, ◌-◌, ◌==◌, nat_le, nat_lt, Bool, false, Option, Some, None, is_some, if◌then◌else◌}
use Rattle.std.specs.Option.{option_map}
use Rattle.qc_base.specs.declared.side.SpaceId.{SpaceId}
use Rattle.qc_base.specs.declared.side.SpaceId.TheVariants.{Initial, Handshake, «Data»}
use Rattle.qc_crypto.specs.declared.keys.KeyPair.{KeyPair}
use Rattle.qc_crypto.specs.declared.keys.Keys.{Keys}
use Rattle.qc_base.specs.Time.{plus}
use Rattle.qc_packet.specs.OpenedPacket.{is_floor_missing}
use Rattle.qc_rings.specs.Keyed.{Keyed, first_keyed, keyed_acked, keyed_discarded, keyed_opened, keyed_sealed, keyed_updated}
use Rattle.qc_rings.specs.Ring.{may_update, phase_of}
use Rattle.qc_rings.specs.declared.which.Which.{Which}
use Rattle.qc_rings.specs.declared.which.Which.TheVariants.{Current, Next, Previous}
use Rattle.qc_state.specs.declared.form.Form.{Form}
use Rattle.qc_state.specs.declared.form.Form.TheVariants as form
use Rattle.qc_state.specs.declared.keys.Fresh.{Fresh}
use Rattle.qc_state.specs.declared.keys.KeyGroup.{KeyGroup}
use Rattle.qc_state.specs.declared.keys.KeyUse.{KeyUse}
use Rattle.qc_state.specs.declared.keys.OneRttKeys.{OneRttKeys}
use Rattle.qc_state.specs.declared.keys.SpaceKeys.{SpaceKeys}

-- A key seals no more packets than it may; failures have a limit (RFC 9001, section 6.6). With so many packets more, a key has sealed as many as it
-- may
abbrev pub reaches_limit : (more : ℕ) → Option KeyUse → Bool
reaches_limit more None = false
reaches_limit more (Some usage) = nat_le usage.limit (usage.sealed + more)

-- more packets didn't open than a key lets pass
abbrev pub exceeds_limit : (failures : ℕ) → Option ℕ → Bool
exceeds_limit failures None = false
exceeds_limit failures (Some limit) = nat_lt limit failures

-- the keys that a session gave with a write: those of the Handshake space, or the 1-RTT keys, or none
pub data NewKeys (H P : Type 0) : Type 0 where
  NoKeys : NewKeys H P
  HandshakeKeys : (keys : SpaceKeys H P) → NewKeys H P
  DataKeys : (keys : OneRttKeys H P) → NewKeys H P

module _ {P : Type 0} where
  -- what a ring takes with it into a new epoch: these keys of the epoch behind that, and the limits of the key that seals in the new one (RFC
  -- 9001, sections 6.1 and 6.6)
  abbrev pub fresh_with : (seals failures : P → ℕ) → Keyed P → KeyPair P → Fresh P
  fresh_with seals failures ring keys = record { keys = keys; confidentiality_limit = seals ring.next.local; integrity_limit = failures ring.next.local }

  -- the keys that are taken along
  abbrev pub fresh_keys : Option (Fresh P) → Option (KeyPair P)
  fresh_keys None = None
  fresh_keys (Some fresh) = Some fresh.keys

  -- whether a packet that these keys of the ring open sets a floor: of the next keys, as it begins a new epoch; of the current ones, where previous ones
  -- have none (RFC 9001, section 6.5)
  abbrev pub sets_floor : Which → Option (Fresh P) → Option (Keyed P) → Bool
  sets_floor Next fresh ring = is_some fresh
  sets_floor Current fresh ring = is_floor_missing ring
  sets_floor Previous fresh ring = false

module _ {H P : Type 0} where
  -- a connection that was just made has the keys of its Initial space
  abbrev pub first_keys : SpaceKeys H P → KeyGroup H P
  first_keys k = record { initial = Some k; handshake = None; «data» = None; highest = Initial; failures = 0 }

  -- one more packet sealed, where there are keys
  unfoldable pub count_one : Option (SpaceKeys H P) → Option (SpaceKeys H P)
  count_one None = None
  count_one (Some k) = Some (record k { sealed = plus k.sealed 1 })

  -- a packet of this number sealed under the 1-RTT keys of their epoch, where there are any
  unfoldable pub ring_used : ℕ → Option (OneRttKeys H P) → Option (OneRttKeys H P)
  ring_used n None = None
  ring_used n (Some k) = Some (record k { ring = keyed_sealed k.ring n })

  -- these keys stand in the place of those of the Initial space, where it has keys still; nothing was sealed under them (RFC 9001, section 5.2)
  unfoldable pub initial_renewed : KeyGroup H P → SpaceKeys H P → KeyGroup H P
  initial_renewed v keys = record v { initial = option_map (λ (k : SpaceKeys H P). keys) v.initial }

  -- a packet of this form and number was sealed; no key for 0-RTT is there so far
  unfoldable pub key_used : KeyGroup H P → Form → ℕ → KeyGroup H P
  key_used v form.Initial n = record v { initial = count_one v.initial }
  key_used v form.Handshake n = record v { handshake = count_one v.handshake }
  key_used v form.Early n = v
  key_used v form.OneRtt n = record v { «data» = ring_used n v.«data» }

  -- a packet didn't open
  unfoldable pub failure_counted : KeyGroup H P → KeyGroup H P
  failure_counted v = record v { failures = plus v.failures 1 }

  -- the form in which packets of a space are sealed now. Early keys will have a row of their own behind that of Handshake: in the space
  -- that 0-RTT and 1-RTT share, packets are 0-RTT while there are early keys and no 1-RTT keys (RFC 9001, section 4.9.3).
  unfoldable pub form_in : KeyGroup H P → SpaceId → Form
  form_in v Initial = form.Initial
  form_in v Handshake = form.Handshake
  form_in v «Data» = form.OneRtt

  -- the keys of the Initial or the Handshake form; 1-RTT keys stand in their ring, and none for 0-RTT are there so far
  unfoldable pub plain_keys : KeyGroup H P → Form → Option (SpaceKeys H P)
  plain_keys v form.Initial = v.initial
  plain_keys v form.Handshake = v.handshake
  plain_keys v form.Early = None
  plain_keys v form.OneRtt = None

  -- there are keys for packets of this form; so far never for 0-RTT
  unfoldable pub has_keys_for : KeyGroup H P → Form → Bool
  has_keys_for v form.Initial = is_some v.initial
  has_keys_for v form.Handshake = is_some v.handshake
  has_keys_for v form.Early = false
  has_keys_for v form.OneRtt = is_some v.«data»

  -- the space has keys: those for the form in which its packets are sealed now
  unfoldable pub has_keys : KeyGroup H P → SpaceId → Bool
  has_keys v id = has_keys_for v (form_in v id)

  -- the key that masks this end's packets of this form
  unfoldable pub header_key : KeyGroup H P → Form → Option H
  header_key v form.Initial = option_map (λ (k : SpaceKeys H P). k.keys.header.local) v.initial
  header_key v form.Handshake = option_map (λ (k : SpaceKeys H P). k.keys.header.local) v.handshake
  header_key v form.Early = None
  header_key v form.OneRtt = option_map (λ (k : OneRttKeys H P). k.header.local) v.«data»

  -- the key that seals them: of 1-RTT keys that of their epoch
  unfoldable pub packet_key : KeyGroup H P → Form → Option P
  packet_key v form.Initial = option_map (λ (k : SpaceKeys H P). k.keys.packet.local) v.initial
  packet_key v form.Handshake = option_map (λ (k : SpaceKeys H P). k.keys.packet.local) v.handshake
  packet_key v form.Early = None
  packet_key v form.OneRtt = option_map (λ (k : OneRttKeys H P). k.ring.current.local) v.«data»

  -- the epoch of the key that seals 1-RTT packets
  abbrev pub epoch_with : Option (OneRttKeys H P) → ℕ
  epoch_with None = 0
  epoch_with (Some k) = k.ring.ring.epoch

  -- the epoch of the key that seals packets of this form: 0 outside of 1-RTT
  unfoldable pub epoch_in : KeyGroup H P → Form → ℕ
  epoch_in v form.Initial = 0
  epoch_in v form.Handshake = 0
  epoch_in v form.Early = 0
  epoch_in v form.OneRtt = epoch_with v.«data»

  -- the key that takes the mask off the peer's packets of this form
  unfoldable pub unmasking_key : KeyGroup H P → Form → Option H
  unmasking_key v form.Initial = option_map (λ (k : SpaceKeys H P). k.keys.header.remote) v.initial
  unmasking_key v form.Handshake = option_map (λ (k : SpaceKeys H P). k.keys.header.remote) v.handshake
  unmasking_key v form.Early = None
  unmasking_key v form.OneRtt = option_map (λ (k : OneRttKeys H P). k.header.remote) v.«data»

  -- the key that opens the peer's packets of this form, but for 1-RTT, whose keys stand in their ring
  unfoldable pub opening_key : KeyGroup H P → Form → Option P
  opening_key v form = option_map (λ (k : SpaceKeys H P). k.keys.packet.remote) (plain_keys v form)

  -- the ring of the 1-RTT keys
  unfoldable pub ring_of : KeyGroup H P → Option (Keyed P)
  ring_of v = option_map (λ (k : OneRttKeys H P). k.ring) v.«data»

  -- the key phase bit of packets under 1-RTT keys, which is that of the keys' epoch (RFC 9001, section 6)
  abbrev pub phase_with : Option (OneRttKeys H P) → Bool
  phase_with None = false
  phase_with (Some k) = phase_of k.ring.ring.epoch

  -- that of this end's 1-RTT packets
  unfoldable pub phase_now : KeyGroup H P → Bool
  phase_now v = phase_with v.«data»

  -- keys under which nothing was sealed yet, with the limits of the sealing key
  abbrev pub new_keys : (seals failures : P → ℕ) → Keys H P → SpaceKeys H P
  new_keys seals failures keys = record { keys = keys; sealed = 0; confidentiality_limit = seals keys.packet.local; integrity_limit = failures keys.packet.local }

  -- 1-RTT keys with this ring, with the limits of the key that seals in its epoch
  abbrev pub epoch_keys : (seals failures : P → ℕ) → (header : KeyPair H) → (ring : Keyed P) → OneRttKeys H P
  epoch_keys seals failures header ring = record {
    header = header;
    ring = ring;
    confidentiality_limit = seals ring.current.local;
    integrity_limit = failures ring.current.local;
  }

  -- 1-RTT keys of the first epoch with those of the next, under which nothing was sealed yet, with the limits of the sealing key
  abbrev pub new_ring : (seals failures : P → ℕ) → Keys H P → (next : KeyPair P) → OneRttKeys H P
  new_ring seals failures keys next = epoch_keys seals failures keys.header (first_keyed keys.packet next)

  -- what 1-RTT keys take along, where there are any, and keys of the epoch behind the next one
  abbrev pub fresh_for : (seals failures : P → ℕ) → Option (OneRttKeys H P) → Option (KeyPair P) → Option (Fresh P)
  fresh_for seals failures (Some k) (Some keys) = Some (fresh_with seals failures k.ring keys)
  fresh_for seals failures _ _ = None

  -- 1-RTT keys whose ring is this one from now on: in a new epoch they have the limits of that epoch's key
  abbrev pub with_ring : OneRttKeys H P → Option (Fresh P) → Keyed P → OneRttKeys H P
  with_ring k None ring = record k { ring = ring }
  with_ring k (Some fresh) ring = record { header = k.header; ring = ring; confidentiality_limit = fresh.confidentiality_limit; integrity_limit = fresh.integrity_limit }

  -- A packet of this number was opened by these keys of the ring, where there is one: the next ones begin a new epoch, and the current ones set
  -- the floor of previous ones that have none (RFC 9001, sections 6.2 and 6.5). The header keys stay (section 6).
  unfoldable pub ring_opened : Which → ℕ → Option (Fresh P) → Option (OneRttKeys H P) → Option (OneRttKeys H P)
  ring_opened which n fresh None = None
  ring_opened which n fresh (Some k) = Some (with_ring k fresh (keyed_opened k.ring which n (fresh_keys fresh)))

  unfoldable pub key_opened : KeyGroup H P → Which → ℕ → Option (Fresh P) → KeyGroup H P
  key_opened v which n fresh = record v { «data» = ring_opened which n fresh v.«data» }

  -- a packet of this space was acknowledged: a 1-RTT one, where its number is of this epoch, allows an update of the keys (RFC 9001, section 6.1)
  unfoldable pub ring_acked : ℕ → Option (OneRttKeys H P) → Option (OneRttKeys H P)
  ring_acked n None = None
  ring_acked n (Some k) = Some (record k { ring = keyed_acked k.ring n })

  unfoldable pub key_acked : KeyGroup H P → SpaceId → ℕ → KeyGroup H P
  key_acked v Initial n = v
  key_acked v Handshake n = v
  key_acked v «Data» n = record v { «data» = ring_acked n v.«data» }

  -- a new epoch may begin: no keys of the one before are kept, and a packet of this one was acknowledged (RFC 9001, sections 6.1 and 6.5)
  abbrev pub ring_may_update : Option (OneRttKeys H P) → Bool
  ring_may_update None = false
  ring_may_update (Some k) = may_update k.ring.ring

  -- this end begins a new epoch (RFC 9001, section 6.1)
  unfoldable pub ring_updated : Option (Fresh P) → Option (OneRttKeys H P) → Option (OneRttKeys H P)
  ring_updated (Some fresh) (Some k) = Some (with_ring k (Some fresh) (keyed_updated k.ring fresh.keys))
  ring_updated _ keys = keys

  unfoldable pub key_updated : KeyGroup H P → Option (Fresh P) → KeyGroup H P
  key_updated v fresh = record v { «data» = ring_updated fresh v.«data» }

  -- the keys of the epoch before are dropped, where they have a floor (RFC 9001, section 6.5)
  unfoldable pub ring_discarded : Option (OneRttKeys H P) → Option (OneRttKeys H P)
  ring_discarded None = None
  ring_discarded (Some k) = Some (record k { ring = keyed_discarded k.ring })

  unfoldable pub key_discarded : KeyGroup H P → KeyGroup H P
  key_discarded v = record v { «data» = ring_discarded v.«data» }

  -- how many packets 1-RTT keys seal before this end tries to update them: the first ones so many as are given, others 10,000 fewer than they
  -- may (RFC 9001, section 6.6)
  abbrev pub phase_size : (first : ℕ) → OneRttKeys H P → ℕ
  phase_size first k = if k.ring.ring.epoch == 0 then first else k.confidentiality_limit - 10000

  -- 1-RTT keys have sealed as many
  abbrev pub is_phase_full : (first : ℕ) → Option (OneRttKeys H P) → Bool
  is_phase_full first None = false
  is_phase_full first (Some k) = nat_le (phase_size first k) k.ring.count

  -- how many packets a sealing key has sealed, and how many it may (RFC 9001, section 6.6)
  abbrev pub plain_usage : SpaceKeys H P → KeyUse
  plain_usage k = record { sealed = k.sealed; limit = k.confidentiality_limit }

  -- the same of 1-RTT keys: what counts is the key of their epoch
  abbrev pub ring_usage : OneRttKeys H P → KeyUse
  ring_usage k = record { sealed = k.ring.count; limit = k.confidentiality_limit }

  -- the same of the key that seals packets of this form
  unfoldable pub usage_of : KeyGroup H P → Form → Option KeyUse
  usage_of v form.Initial = option_map plain_usage v.initial
  usage_of v form.Handshake = option_map plain_usage v.handshake
  usage_of v form.Early = None
  usage_of v form.OneRtt = option_map ring_usage v.«data»

  -- how many packets of the peer may fail to open, by a sealing key
  abbrev pub plain_integrity : SpaceKeys H P → ℕ
  plain_integrity k = k.integrity_limit

  -- the same of 1-RTT keys
  abbrev pub ring_integrity : OneRttKeys H P → ℕ
  ring_integrity k = k.integrity_limit

  -- the same of the sealing key of a space
  unfoldable pub integrity_limit_of : KeyGroup H P → SpaceId → Option ℕ
  integrity_limit_of v Initial = option_map plain_integrity v.initial
  integrity_limit_of v Handshake = option_map plain_integrity v.handshake
  integrity_limit_of v «Data» = option_map ring_integrity v.«data»

  -- more packets of the peer didn't open than the key of the highest space lets pass
  unfoldable pub fails_too_often : KeyGroup H P → Bool
  fails_too_often v = exceeds_limit v.failures (integrity_limit_of v v.highest)

  -- the session gave these keys with a write: their space is the highest from then on
  unfoldable pub keys_given : KeyGroup H P → NewKeys H P → KeyGroup H P
  keys_given v NoKeys = v
  keys_given v (HandshakeKeys k) = record v { handshake = Some k; highest = Handshake }
  keys_given v (DataKeys k) = record v { «data» = Some k; highest = «Data» }

  -- the keys of a space are dropped (RFC 9001, section 4.9)
  unfoldable pub keys_dropped : KeyGroup H P → SpaceId → KeyGroup H P
  keys_dropped v Initial = record v { initial = None }
  keys_dropped v Handshake = record v { handshake = None }
  keys_dropped v «Data» = record v { «data» = None }

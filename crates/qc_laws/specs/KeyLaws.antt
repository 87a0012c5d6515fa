-- Laws over whole runs, said of the keys (RFC 9001, section 6.6).
use Rattle.std.specs.Prelude.{◌≡◌, ◌≢◌, ◌≤◌, ◌<◌, ℕ, ◌+◌, min, ◌&&◌, true, false, List, [], ◌∷◌, ◌++◌, Option, Some, None, IfSome, if◌then◌else◌}
use Rattle.qc_base.specs.declared.side.SpaceId.{SpaceId}
use Rattle.qc_base.specs.declared.side.SpaceId.TheVariants.{Initial, Handshake}
use Rattle.qc_base.specs.declared.transport_error.TransportError.{TransportError}
use Rattle.qc_frame.specs.Frame.{FrameValue}
use Rattle.qc_state.specs.declared.deeds.Did.{Did}
use Rattle.qc_state.specs.declared.deeds.Did.TheVariants as did
use Rattle.qc_state.specs.declared.deeds.Quiet.TheVariants.{Killed}
use Rattle.qc_state.specs.declared.form.Form.{Form}
use Rattle.qc_state.specs.declared.input.Input.{Input}
use Rattle.qc_state.specs.declared.input.Input.TheVariants as input
use Rattle.qc_state.specs.declared.keys.KeyGroup.{KeyGroup}
use Rattle.qc_state.specs.declared.keys.KeyUse.{KeyUse}
use Rattle.qc_state.specs.declared.keys.SpaceKeys.{SpaceKeys}
use Rattle.qc_state.specs.declared.life.Close.TheVariants as close
use Rattle.qc_state.specs.declared.life.ConnectionError.{ConnectionError}
use Rattle.qc_state.specs.declared.life.ConnectionError.TheVariants as lost
use Rattle.qc_state.specs.declared.life.State.TheVariants.{Closed}
use Rattle.qc_state.specs.declared.trace.Step.{Step}
use Rattle.qc_state.specs.Forms.{is_early, number_space}
use Rattle.qc_state.specs.Keys.{epoch_in, usage_of}
use Rattle.qc_state.specs.Life.{is_drained, is_open}
use Rattle.qc_state.specs.Run.{IsStep}
use Rattle.qc_state.specs.Spaces.{is_space}
use Rattle.qc_state.specs.Types.{Types, Meaning}
use Rattle.qc_state.specs.View.{View}
use Rattle.qc_laws.specs.ReasonLaws.{reason_deeds}
use Rattle.qc_laws.specs.RetryLaws.{is_taken}

-- a sealing key has sealed no more packets than it may
abbrev pub IsWithinLimit : Option KeyUse → Type 0
IsWithinLimit usage = IfSome usage (λ (u : KeyUse). u.sealed ≤ u.limit)

module _ {H P : Type 0} where
  -- So it is with the keys of each form; of 1-RTT keys with those of their epoch. As the epoch never falls, and each begins with nothing sealed, the
  -- key of no epoch seals more.
  abbrev pub KeysHold : KeyGroup H P → Type 0
  KeysHold v = (form : Form) → IsWithinLimit (usage_of v form)

-- ---- what they count

-- How many packets of this space were sealed since its keys began, behind these deeds, where so many were before them. A Retry that is taken begins the
-- Initial keys anew (RFC 9001, section 5.2).
abbrev pub counted_behind : SpaceId → (count : ℕ) → List Did → ℕ
counted_behind id count [] = count
counted_behind id count (did.Sealed space number epoch early fs ∷ ds) = counted_behind id (if is_space id space then count + 1 else count) ds
counted_behind id count (did.Piece space number v ∷ ds) = counted_behind id (if is_space Initial id && is_taken v then 0 else count) ds
counted_behind id count (_ ∷ ds) = counted_behind id count ds

module _ {H P : Type 0} where
  -- these keys, if there are any, sealed so many packets, as far as 64 bits hold the count
  abbrev pub HaveSealed : ℕ → Option (SpaceKeys H P) → Type 0
  HaveSealed count keys = IfSome keys (λ (k : SpaceKeys H P). k.sealed ≡ min count 18446744073709551615)

  -- so many packets were sealed under the Initial and the Handshake keys; of the Handshake space none before it had keys
  pub record CountPackets (initials handshakes : ℕ) (v : KeyGroup H P) : Type 0 where
    pub initial : HaveSealed initials v.initial
    pub handshake : HaveSealed handshakes v.handshake
    pub fresh : v.highest ≡ Initial → (handshakes ≡ 0) × (v.handshake ≡ None)

  -- they count on over these deeds
  abbrev pub CountsBehind : List Did → KeyGroup H P → KeyGroup H P → Type 0
  CountsBehind ds v v' = (initials handshakes : ℕ) → CountPackets initials handshakes v → CountPackets (counted_behind Initial initials ds) (counted_behind Handshake handshakes ds) v'

-- ---- what their limits bring about

-- AEAD_LIMIT_REACHED (RFC 9000, section 20.1), without the type of a frame
abbrev pub limit_reached : TransportError
limit_reached = record { code = 0x0f; frame = None }

-- a key that has sealed a packet may seal two more
abbrev pub IsSpared : Option KeyUse → Type 0
IsSpared usage = IfSome usage (λ (u : KeyUse). 1 ≤ u.sealed → u.sealed + 2 ≤ u.limit)

-- a key may seal at most one more, where its limit has 64 bits
abbrev pub IsNearLimit : Option KeyUse → Type 0
IsNearLimit None = ⊥
IsNearLimit (Some u) = u.limit ≤ 18446744073709551615 → u.limit ≤ u.sealed + 1

-- the reason for the end is AEAD_LIMIT_REACHED where a key has sealed as many packets as it may, and there alone
abbrev pub IsLimitReason : ConnectionError → Option KeyUse → Type 0
IsLimitReason why None = ⊥
IsLimitReason why (Some u) = (u.limit ≤ u.sealed → why ≡ lost.TransportError limit_reached) × (u.sealed < u.limit → why ≢ lost.TransportError limit_reached)

module _ {t : Types} where
  -- while the connection is open, each of its keys that has sealed a packet may seal two more
  abbrev pub SparesKeys : View t → Type 0
  SparesKeys s = is_open s.life.state ≡ true → (form : Form) → IsSpared (usage_of s.keys form)

  -- These deeds end with a packet of this form, right behind which this end closes with AEAD_LIMIT_REACHED. It is the reason, unless one was given before.
  pub record ClosesBehind (form : Form) (ds : List Did) (s s' : View t) : Type 0 where
    pub closed : s'.life.state ≡ Closed
    pub close : s'.life.close ≡ Some (close.Connection (record { error_code = limit_reached.code; frame_type = limit_reached.frame; reason = [] }))
    pub before : List Did
    pub number : ℕ
    pub frames : List FrameValue
    pub deeds : ds ≡ before ++ did.Sealed (number_space form) number (epoch_in s'.keys form) (is_early form) frames ∷ did.Rose 2 ∷ reason_deeds s.life.reason (lost.TransportError limit_reached)

  -- These deeds end with the end of the connection, as a packet of this form was about to begin: for AEAD_LIMIT_REACHED, if its key may seal none more. It
  -- is the reason, unless one was given before.
  pub record EndsBefore (form : Form) (ds : List Did) (s s' : View t) : Type 0 where
    pub why : ConnectionError
    pub limit : IsLimitReason why (usage_of s'.keys form)
    pub before : List Did
    pub deeds : ds ≡ before ++ did.Rose 4 ∷ (reason_deeds s.life.reason why ++ did.Quiet Killed ∷ [])

  -- From one view to another by a transmit with these deeds. Where a key has sealed a packet by then, and may seal at most one more, the last thing that
  -- the transmit of an open connection did was to seal with this key, and to close. One packet is left then, for the close, to each key that may seal
  -- two at all. A transmit ends the connection at once only as a packet was about to begin. And no transmit closes otherwise, nor gives the reason: only
  -- where some key may seal at most one more.
  pub record LimitsEnd (ds : List Did) (s s' : View t) : Type 0 where
    pub closes : is_open s.life.state ≡ true → (form : Form) → IfSome (usage_of s'.keys form) (λ (u : KeyUse). 1 ≤ u.sealed → u.limit ≤ u.sealed + 1 → ClosesBehind form ds s s')
    pub left : is_open s.life.state ≡ true → (form : Form) → IfSome (usage_of s'.keys form) (λ (u : KeyUse). 2 ≤ u.limit → u.sealed < u.limit)
    pub ends : is_drained s.life.state ≡ false → is_drained s'.life.state ≡ true → (form : Form) × EndsBefore form ds s s'
    pub only : is_open s.life.state ≡ true → s'.life.state ≡ Closed → (form : Form) × IsNearLimit (usage_of s'.keys form)
    pub caused : (before behind : List Did) (error : TransportError) → ds ≡ before ++ did.Lost (lost.TransportError error) ∷ behind → error.code ≡ limit_reached.code → (form : Form) × IsNearLimit (usage_of s'.keys form)

  -- so it is where the input is a transmit
  abbrev pub LimitsEndIn : Input → List Did → (s s' : View t) → Type 0
  LimitsEndIn (input.Transmit time max) ds s s' = LimitsEnd ds s s'
  LimitsEndIn _ ds s s' = Unit {0}

  -- and with each step of a run
  unfoldable pub EachLimitEnds : Meaning t → ℕ → View t → List Input → List Step → View t → Type 0
  EachLimitEnds m k s (i ∷ is) (x ∷ xs) s' = (mid : View t) × IsStep m k s i x mid × LimitsEndIn i x.did s mid × EachLimitEnds m (k + 1) mid is xs s'
  EachLimitEnds m k s is xs s' = Unit {0}

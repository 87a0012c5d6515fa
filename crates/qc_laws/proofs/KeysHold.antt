-- Over a run no key seals more packets than it may.
use Rattle.std.proofs.Common.{◌≡◌, ℕ, ◌+◌, ◌≤◌, List, [], ◌∷◌, sym, subst, false, Option, Some, None, arith}
use Rattle.std.proofs.lemmas.Bool.Decides.{nat_tests}
use Rattle.std.specs.Prelude.{nat_le}
use Rattle.std.specs.Option.{option_map}
use Rattle.qc_base.specs.Time.{plus}
use Rattle.qc_frame.specs.Frame.{FrameValue}
use Rattle.qc_rings.specs.Keyed.{keyed_sealed}
use Rattle.qc_state.specs.declared.form.Form.{Form}
use Rattle.qc_state.specs.declared.form.Form.TheVariants as form
use Rattle.qc_state.specs.declared.input.Input.{Input}
use Rattle.qc_state.specs.declared.input.Input.TheVariants as input
use Rattle.qc_state.specs.declared.keys.KeyGroup.{KeyGroup}
use Rattle.qc_state.specs.declared.keys.KeyUse.{KeyUse}
use Rattle.qc_state.specs.declared.keys.OneRttKeys.{OneRttKeys}
use Rattle.qc_state.specs.declared.keys.SpaceKeys.{SpaceKeys}
use Rattle.qc_state.specs.declared.trace.Step.{Step}
use Rattle.qc_state.specs.Forms.{number_space}
use Rattle.qc_laws.specs.KeyLaws.{IsWithinLimit, KeysHold}
use Rattle.qc_state.specs.Keys.{count_one, key_used, plain_usage, reaches_limit, ring_usage, ring_used, usage_of}
use Rattle.qc_state.specs.Moves.{Seal, Take, keys_move, move_to, state_move}
use Rattle.qc_state.specs.Numbers.{next_number}
use Rattle.qc_state.specs.Run.{IsAllowed, IsStep, Run, began, called, input_after, reported, step_after, time_of}
use Rattle.qc_state.specs.Sending.{MayTransmit, packet_size, transmit_after, Choice}
use Rattle.qc_state.specs.Types.{Types, Meaning}
use Rattle.qc_state.specs.View.{View, At}
use Rattle.qc_state.proofs.Transmitted.{IsSealable, holds_transmit}
use Rattle.qc_laws.proofs.KeyUses.{KeepsUses, input_uses, move_uses, sending_unsealing, uses_here, uses_next}

-- a key that may seal one packet more has sealed no more than it may behind it
once_more : (sealed limit : ℕ) → nat_le limit (sealed + 0) ≡ false → plus sealed 1 ≤ limit
once_more sealed limit e = grind (arith, nat_tests)

module _ {H P : Type 0} where
  counted_within : (o : Option (SpaceKeys H P)) → reaches_limit 0 (option_map plain_usage o) ≡ false → IsWithinLimit (option_map plain_usage (count_one o))
  unfolding count_one
  counted_within None h = tt
  counted_within (Some k) h = once_more k.sealed k.confidentiality_limit h

  ring_within : (n : ℕ) (o : Option (OneRttKeys H P)) → reaches_limit 0 (option_map ring_usage o) ≡ false → IsWithinLimit (option_map ring_usage (ring_used n o))
  unfolding ring_used keyed_sealed
  ring_within n None h = tt
  ring_within n (Some k) h = once_more k.ring.count k.confidentiality_limit h

  -- a packet that is sealed counts under its key alone
  sealed_hold : (v : KeyGroup H P) (form : Form) (n : ℕ) → reaches_limit 0 (usage_of v form) ≡ false → KeysHold v → (other : Form) → IsWithinLimit (usage_of (key_used v form n) other)
  unfolding key_used usage_of
  sealed_hold v form.Initial n fresh h form.Initial = counted_within v.initial fresh
  sealed_hold v form.Initial n fresh h form.Handshake = h form.Handshake
  sealed_hold v form.Initial n fresh h form.Early = tt
  sealed_hold v form.Initial n fresh h form.OneRtt = h form.OneRtt
  sealed_hold v form.Handshake n fresh h form.Initial = h form.Initial
  sealed_hold v form.Handshake n fresh h form.Handshake = counted_within v.handshake fresh
  sealed_hold v form.Handshake n fresh h form.Early = tt
  sealed_hold v form.Handshake n fresh h form.OneRtt = h form.OneRtt
  sealed_hold v form.Early n fresh h other = h other
  sealed_hold v form.OneRtt n fresh h form.Initial = h form.Initial
  sealed_hold v form.OneRtt n fresh h form.Handshake = h form.Handshake
  sealed_hold v form.OneRtt n fresh h form.Early = tt
  sealed_hold v form.OneRtt n fresh h form.OneRtt = ring_within n v.«data» fresh

-- one under which nothing was sealed is within its limit
abbrev Within : KeyUse → Type 0
Within u = u.sealed ≤ u.limit

none_within : (limit : ℕ) → Within (record { sealed = 0; limit = limit })
none_within limit = omega arith

module _ {t : Types} where
  abbrev Keeps : At t → At t → Type 0
  Keeps a b = KeepsUses Within a b

  -- a packet is taken and sealed
  packet_keeps : (time : ℕ) (form : Form) (fs : List FrameValue) (a : At t) → IsSealable time a.state form fs →
      Keeps a (move_to (Seal time form (next_number a.state.numbers (number_space form)) (packet_size a.state form fs) fs) (move_to (Take (number_space form) fs) a))
  unfolding move_to state_move keys_move
  packet_keeps time form fs a may = λ h. sealed_hold a.state.keys form (next_number a.state.numbers (number_space form)) may.fresh h

  -- a transmit
  transmit_keeps : (m : Meaning t) (time asked : ℕ) (choice : Choice) (a : At t) → MayTransmit m time asked choice a → Keeps a (transmit_after m time asked choice a)
  transmit_keeps m time asked choice a may =
      holds_transmit Keeps (uses_here Within none_within) (uses_next Within none_within) (λ x r d k. move_uses Within none_within x d (sending_unsealing x d.state r k)) (λ at_time id fs d k. packet_keeps at_time id fs d k) m time asked choice a may

  -- each input
  input_keeps : (m : Meaning t) (i : Input) (choice : Choice) (a : At t) → IsAllowed m i choice a → Keeps a (input_after m i choice a)
  unfolding IsAllowed input_after
  input_keeps m (input.Transmit time max) choice a may = transmit_keeps m time max choice a may
  input_keeps m i choice a may = input_uses Within none_within m i choice a tt may

  -- a step
  step_keeps : (m : Meaning t) (k : ℕ) (s : View t) (i : Input) (x : Step) (s' : View t) → IsStep m k s i x s' → KeysHold s.keys → KeysHold s'.keys
  unfolding called began step_after reported state_move keys_move
  step_keeps m k s i x s' h kept = subst KeysHold (sym h.keys) (input_keeps m i h.choice (began s (time_of i)) h.allowed kept)

  -- a run, one step after the other
  pub run_keys_hold : (m : Meaning t) (k : ℕ) (s : View t) (is : List Input) (xs : List Step) (s' : View t) → Run m k s is xs s' → KeysHold s.keys → KeysHold s'.keys
  unfolding Run
  run_keys_hold m k s [] [] s' r h = subst (λ (v : View t). KeysHold v.keys) (sym r) h
  run_keys_hold m k s (i ∷ is) (x ∷ xs) s' r h = run_keys_hold m (k + 1) r.0 is xs s' r.2 (step_keeps m k s i x r.0 r.1 h)
  run_keys_hold m k s [] (x ∷ xs) s' r h = absurd r
  run_keys_hold m k s (i ∷ is) [] s' r h = absurd r

-- What holds of how far a key is used, where nothing was sealed under it, holds of each key of a connection, over whatever seals no packet.
use Rattle.std.proofs.Common.{◌≡◌, ℕ, sym, subst, Bool, true, false, Option, Some, None, if◌then◌else◌}
use Rattle.std.specs.Prelude.{IfSome}
use Rattle.std.specs.Option.{option_map}
use Rattle.qc_base.specs.declared.side.SpaceId.{SpaceId}
use Rattle.qc_base.specs.declared.side.SpaceId.TheVariants.{Initial, Handshake, «Data»}
use Rattle.qc_rings.specs.Keyed.{keyed_acked, keyed_discarded, keyed_in, keyed_opened, keyed_updated}
use Rattle.qc_rings.specs.Ring.{after_discard, after_update, has_floor, may_update}
use Rattle.qc_rings.specs.declared.which.Which.{Which}
use Rattle.qc_rings.specs.declared.which.Which.TheVariants.{Current, Next, Previous}
use Rattle.qc_state.specs.declared.keys.Fresh.{Fresh}
use Rattle.qc_state.specs.declared.form.Form.{Form}
use Rattle.qc_state.specs.declared.form.Form.TheVariants as form
use Rattle.qc_state.specs.declared.input.Input.{Input}
use Rattle.qc_state.specs.declared.input.Input.TheVariants as input
use Rattle.qc_state.specs.declared.keys.KeyGroup.{KeyGroup}
use Rattle.qc_state.specs.declared.keys.KeyUse.{KeyUse}
use Rattle.qc_state.specs.declared.keys.OneRttKeys.{OneRttKeys}
use Rattle.qc_state.specs.declared.keys.SpaceKeys.{SpaceKeys}
use Rattle.qc_state.specs.declared.life.Close.{Close}
use Rattle.qc_state.specs.Keys.{NewKeys, NoKeys, HandshakeKeys, DataKeys, failure_counted, key_acked, key_discarded, key_opened, key_updated, keys_dropped, keys_given, plain_usage, ring_acked, ring_discarded, ring_may_update, ring_opened, ring_updated, ring_usage, usage_of, with_ring, initial_renewed}
use Rattle.qc_state.specs.Life.{is_open}
use Rattle.qc_state.specs.Moves.{Move, Ack, Ask, Discard, Fail, Forget, Seal, Shut, Unseal, Update, Write, keys_move, move_to, state_move, MayMove, Call, Post, Issue, Renew}
use Rattle.qc_state.specs.Run.{IsAllowed, close_after, input_after, datagram_limit}
use Rattle.qc_state.specs.Sending.{Choice}
use Rattle.qc_state.specs.Types.{Types, Meaning}
use Rattle.qc_state.specs.View.{View, At}
use Rattle.qc_state.proofs.Expired.{IsTimed, holds_timeout}
use Rattle.qc_state.proofs.ReceivedMoves.{AreUnused, FreshFits, IsReceived}
use Rattle.qc_laws.proofs.Receives.{holds_datagram}
use Rattle.qc_state.proofs.Transmitted.{IsSending}
use Rattle.qc_state.proofs.Updates.{holds_updated}
use Rattle.qc_laws.proofs.StreamCalls.{called_input}
use Rattle.qc_datagrams.specs.Steps as datagrams

-- each key of these is used so
abbrev pub AreUsedSo : {H P : Type 0} → (Q : KeyUse → Type 0) → KeyGroup H P → Type 0
AreUsedSo Q v = (form : Form) → IfSome (usage_of v form) Q

none_sealed : (Q : KeyUse → Type 0) (unused : (limit : ℕ) → Q (record { sealed = 0; limit = limit })) (sealed limit : ℕ) → sealed ≡ 0 → Q (record { sealed = sealed; limit = limit })
none_sealed Q unused sealed limit e = subst (λ (n : ℕ). Q (record { sealed = n; limit = limit })) (sym e) (unused limit)

module _ {H P : Type 0} (Q : KeyUse → Type 0) (unused : (limit : ℕ) → Q (record { sealed = 0; limit = limit })) where
  -- keys that are dropped seal no more
  dropped_hold : (v : KeyGroup H P) (id : SpaceId) → AreUsedSo Q v → AreUsedSo Q (keys_dropped v id)
  unfolding keys_dropped usage_of
  dropped_hold v Initial h form.Initial = tt
  dropped_hold v Initial h form.Handshake = h form.Handshake
  dropped_hold v Initial h form.Early = tt
  dropped_hold v Initial h form.OneRtt = h form.OneRtt
  dropped_hold v Handshake h form.Initial = h form.Initial
  dropped_hold v Handshake h form.Handshake = tt
  dropped_hold v Handshake h form.Early = tt
  dropped_hold v Handshake h form.OneRtt = h form.OneRtt
  dropped_hold v Data h form.Initial = h form.Initial
  dropped_hold v Data h form.Handshake = h form.Handshake
  dropped_hold v Data h form.Early = tt
  dropped_hold v Data h form.OneRtt = tt

  -- keys that are given have sealed none
  given_hold : (v : KeyGroup H P) (keys : NewKeys H P) → AreUnused keys → AreUsedSo Q v → AreUsedSo Q (keys_given v keys)
  unfolding keys_given usage_of
  given_hold v NoKeys e h other = h other
  given_hold v (HandshakeKeys k) e h form.Initial = h form.Initial
  given_hold v (HandshakeKeys k) e h form.Handshake = none_sealed Q unused k.sealed k.confidentiality_limit e
  given_hold v (HandshakeKeys k) e h form.Early = tt
  given_hold v (HandshakeKeys k) e h form.OneRtt = h form.OneRtt
  given_hold v (DataKeys k) e h form.Initial = h form.Initial
  given_hold v (DataKeys k) e h form.Handshake = h form.Handshake
  given_hold v (DataKeys k) e h form.Early = tt
  given_hold v (DataKeys k) e h form.OneRtt = none_sealed Q unused k.ring.count k.confidentiality_limit e

  -- nor have those of an Initial space that begins anew, where it has keys still
  renewed_within : (o : Option (SpaceKeys H P)) (keys : SpaceKeys H P) → keys.sealed ≡ 0 → IfSome (option_map plain_usage (option_map (λ (k : SpaceKeys H P). keys) o)) Q
  renewed_within None keys e = tt
  renewed_within (Some k) keys e = none_sealed Q unused keys.sealed keys.confidentiality_limit e

  renewed_hold : (v : KeyGroup H P) (keys : SpaceKeys H P) → keys.sealed ≡ 0 → AreUsedSo Q v → AreUsedSo Q (initial_renewed v keys)
  unfolding initial_renewed usage_of
  renewed_hold v keys e h form.Initial = renewed_within v.initial keys e
  renewed_hold v keys e h form.Handshake = h form.Handshake
  renewed_hold v keys e h form.Early = tt
  renewed_hold v keys e h form.OneRtt = h form.OneRtt

  -- a packet that didn't open changes none
  failed_hold : (v : KeyGroup H P) → AreUsedSo Q v → AreUsedSo Q (failure_counted v)
  unfolding failure_counted usage_of
  failed_hold v h form.Initial = h form.Initial
  failed_hold v h form.Handshake = h form.Handshake
  failed_hold v h form.Early = tt
  failed_hold v h form.OneRtt = h form.OneRtt

  -- a ring's count stays, or a new epoch begins, in which nothing was sealed
  ring_opened_within : (which : Which) (n : ℕ) (fresh : Option (Fresh P)) (o : Option (OneRttKeys H P)) → FreshFits which fresh → IfSome (option_map ring_usage o) Q → IfSome (option_map ring_usage (ring_opened which n fresh o)) Q
  unfolding ring_opened keyed_opened
  ring_opened_within which n fresh None fits h = tt
  ring_opened_within Next n None (Some k) fits h = h
  ring_opened_within Next n (Some fresh) (Some k) fits h = unused fresh.confidentiality_limit
  ring_opened_within Current n None (Some k) fits h = h
  ring_opened_within Previous n None (Some k) fits h = h
  ring_opened_within Current n (Some fresh) (Some k) fits h = absurd fits
  ring_opened_within Previous n (Some fresh) (Some k) fits h = absurd fits

  ring_acked_within : (n : ℕ) (o : Option (OneRttKeys H P)) → IfSome (option_map ring_usage o) Q → IfSome (option_map ring_usage (ring_acked n o)) Q
  unfolding ring_acked keyed_acked
  ring_acked_within n None h = tt
  ring_acked_within n (Some k) h = h

  ring_discarded_within : (o : Option (OneRttKeys H P)) → IfSome (option_map ring_usage o) Q → IfSome (option_map ring_usage (ring_discarded o)) Q
  unfolding ring_discarded keyed_discarded
  ring_discarded_within None h = tt
  ring_discarded_within (Some k) h = floor_by (has_floor k.ring.ring.kept)
    where
      floor_by : (b : Bool) → IfSome (Some (ring_usage (record k { ring = if b then record k.ring { ring = after_discard k.ring.ring; previous = None } else k.ring }))) Q
      floor_by true = h
      floor_by false = h

  ring_updated_within : (fresh : Option (Fresh P)) (o : Option (OneRttKeys H P)) → ring_may_update o ≡ true → IfSome (option_map ring_usage o) Q → IfSome (option_map ring_usage (ring_updated fresh o)) Q
  unfolding ring_updated keyed_updated
  ring_updated_within None o may h = h
  ring_updated_within (Some fresh) None may h = tt
  ring_updated_within (Some fresh) (Some k) may h = updated_by (may_update k.ring.ring) may
    where
      updated_by : (b : Bool) → b ≡ true → IfSome (Some (ring_usage (with_ring k (Some fresh) (if b then keyed_in (after_update k.ring.ring) k.ring fresh.keys else k.ring)))) Q
      updated_by true e = unused fresh.confidentiality_limit
      updated_by false e = cc

  -- the 1-RTT keys are others, of which it holds too
  data_hold : (v : KeyGroup H P) (o : Option (OneRttKeys H P)) → IfSome (option_map ring_usage o) Q → AreUsedSo Q v → AreUsedSo Q (record v { «data» = o })
  unfolding usage_of
  data_hold v o within h form.Initial = h form.Initial
  data_hold v o within h form.Handshake = h form.Handshake
  data_hold v o within h form.Early = tt
  data_hold v o within h form.OneRtt = within

  opened_hold : (v : KeyGroup H P) (which : Which) (n : ℕ) (fresh : Option (Fresh P)) → FreshFits which fresh → AreUsedSo Q v → AreUsedSo Q (key_opened v which n fresh)
  unfolding key_opened usage_of
  opened_hold v which n fresh fits h = data_hold v (ring_opened which n fresh v.«data») (ring_opened_within which n fresh v.«data» fits (h form.OneRtt)) h

  acked_hold : (v : KeyGroup H P) (id : SpaceId) (n : ℕ) → AreUsedSo Q v → AreUsedSo Q (key_acked v id n)
  unfolding key_acked usage_of
  acked_hold v Initial n h = h
  acked_hold v Handshake n h = h
  acked_hold v Data n h = data_hold v (ring_acked n v.«data») (ring_acked_within n v.«data» (h form.OneRtt)) h

  updated_hold : (v : KeyGroup H P) (fresh : Option (Fresh P)) → ring_may_update v.«data» ≡ true → AreUsedSo Q v → AreUsedSo Q (key_updated v fresh)
  unfolding key_updated usage_of
  updated_hold v fresh may h = data_hold v (ring_updated fresh v.«data») (ring_updated_within fresh v.«data» may (h form.OneRtt)) h

  discarded_hold : (v : KeyGroup H P) → AreUsedSo Q v → AreUsedSo Q (key_discarded v)
  unfolding key_discarded usage_of
  discarded_hold v h = data_hold v (ring_discarded v.«data») (ring_discarded_within v.«data» (h form.OneRtt)) h

-- an input that is no transmit
abbrev pub IsUntransmitted : Input → Type 0
IsUntransmitted (input.Transmit time max) = ⊥
IsUntransmitted _ = Unit {0}

module _ {t : Types} where
  -- a move that seals nothing, under a view; keys that are given have sealed none
  abbrev pub IsUnsealing : Move t → View t → Type 0
  IsUnsealing (Seal time form n size fs) s = ⊥
  IsUnsealing (Write bytes keys session) s = AreUnused keys
  IsUnsealing (Renew time cid token keys) s = keys.sealed ≡ 0
  IsUnsealing (Unseal time n which fresh session) s = FreshFits which fresh
  IsUnsealing (Update fresh session) s = ring_may_update s.keys.«data» ≡ true
  IsUnsealing _ s = Unit {0}

  -- what is received, and what a timer does, seals nothing
  received_unsealing : (x : Move t) (s : View t) → IsReceived x → IsUnsealing x s
  received_unsealing (Write bytes keys session) s r = r
  received_unsealing (Renew time cid token keys) s r = r
  received_unsealing (Unseal time n which fresh session) s r = r
  received_unsealing (Update fresh session) s r = absurd r
  received_unsealing (Seal time form n size fs) s r = absurd r
  received_unsealing _ s r = tt

  timed_unsealing : (x : Move t) (s : View t) → IsTimed x → IsUnsealing x s
  timed_unsealing (Write bytes keys session) s r = absurd r
  timed_unsealing (Unseal time n which fresh session) s r = absurd r
  timed_unsealing (Update fresh session) s r = absurd r
  timed_unsealing (Renew time cid token keys) s r = absurd r
  timed_unsealing (Seal time form n size fs) s r = absurd r
  timed_unsealing _ s r = tt

  -- nor does what a transmit does beside its packets
  pub sending_unsealing : (x : Move t) (s : View t) → IsSending x → MayMove x s → IsUnsealing x s
  unfolding MayMove
  sending_unsealing (Write bytes keys session) s r k = absurd r
  sending_unsealing (Unseal time n which fresh session) s r k = absurd r
  sending_unsealing (Update fresh session) s r k = k.1
  sending_unsealing (Renew time cid token keys) s r k = absurd r
  sending_unsealing (Seal time form n size fs) s r k = absurd r
  sending_unsealing _ s r k = tt

  update_unsealing : (s : View t) (fresh : Option (Fresh t.P)) (session : t.S) → MayMove (Update fresh session) s → ring_may_update s.keys.«data» ≡ true
  unfolding MayMove
  update_unsealing s fresh session k = k.1

  -- what holds of the keys at one moment holds at another
  abbrev pub KeepsUses : (Q : KeyUse → Type 0) → At t → At t → Type 0
  KeepsUses Q a b = AreUsedSo Q a.state.keys → AreUsedSo Q b.state.keys

module _ {t : Types} (Q : KeyUse → Type 0) (unused : (limit : ℕ) → Q (record { sealed = 0; limit = limit })) where
  pub uses_here : (a : At t) → KeepsUses Q a a
  uses_here a = λ h. h

  pub uses_next : (a b c : At t) → KeepsUses Q a b → KeepsUses Q b c → KeepsUses Q a c
  uses_next a b c g k = λ h. k (g h)

  -- over each move
  pub move_uses : (x : Move t) (a : At t) → IsUnsealing x a.state → KeepsUses Q a (move_to x a)
  unfolding move_to state_move keys_move
  move_uses (Seal time form n size fs) a leaves = absurd leaves
  move_uses (Forget id) a leaves = λ h. dropped_hold Q unused a.state.keys id h
  move_uses Fail a leaves = λ h. failed_hold Q unused a.state.keys h
  move_uses (Renew time cid token keys) a leaves = λ h. renewed_hold Q unused a.state.keys keys leaves h
  move_uses (Unseal time n which fresh session) a leaves = λ h. opened_hold Q unused a.state.keys which n fresh leaves h
  move_uses (Ack id n r) a leaves = λ h. acked_hold Q unused a.state.keys id n h
  move_uses (Update fresh session) a leaves = λ h. updated_hold Q unused a.state.keys fresh leaves h
  move_uses Discard a leaves = λ h. discarded_hold Q unused a.state.keys h
  move_uses (Write bytes keys session) a leaves = λ h. given_hold Q unused a.state.keys keys leaves h
  move_uses _ a leaves = λ h. h

  -- the application closes, or has closed before
  closed_uses : (time : ℕ) (close : Close) (a : At t) (b : Bool) → KeepsUses Q a (if b then move_to (Shut time close) a else a)
  closed_uses time close a true = move_uses (Shut time close) a tt
  closed_uses time close a false = uses_here a

  -- each input but a transmit
  pub input_uses : (m : Meaning t) (i : Input) (choice : Choice) (a : At t) → IsUntransmitted i → IsAllowed m i choice a → KeepsUses Q a (input_after m i choice a)
  unfolding IsAllowed input_after close_after
  input_uses m (input.Datagram time remote ecn bytes) choice a plain may =
      holds_datagram (KeepsUses Q) uses_here uses_next (λ x r d k. move_uses x d (received_unsealing x d.state r)) m (record { time = time; remote = remote; mark = ecn }) bytes a
  input_uses m (input.Timeout time) choice a plain may = holds_timeout (KeepsUses Q) uses_here uses_next (λ x r d k. move_uses x d (timed_unsealing x d.state r)) m time a
  input_uses m (input.Transmit time max) choice a plain may = absurd plain
  input_uses m (input.Close time code reason) choice a plain may = closed_uses time _ a (is_open a.state.life.state)
  input_uses m (input.Ping time) choice a plain may = move_uses (Ask a.state.keys.highest) a tt
  input_uses m (input.Update time) choice a plain may = holds_updated m (KeepsUses Q) uses_here (λ d k. move_uses (Update _ _) d (update_unsealing d.state _ _ k)) a
  input_uses m (input.SendDatagram time body) choice a plain may = move_uses (Post (datagrams.Sent (datagram_limit a.state) true body)) a tt
  input_uses m (input.RecvDatagram time) choice a plain may = move_uses (Post datagrams.Taken) a tt
  input_uses m (input.Identifiers time given) choice a plain may = move_uses (Issue time given) a tt
  input_uses m i choice a plain may = called_input (KeepsUses Q) uses_here uses_next (λ x d k. move_uses (Call x) d tt) i choice.read a may

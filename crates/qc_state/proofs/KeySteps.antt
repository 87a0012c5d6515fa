-- What the steps of the ring leave of the keys: those of Initial and Handshake packets, which space is the highest one, and whether there are 1-RTT
-- keys; and what the timer of old keys leaves of the timers.
use Rattle.std.proofs.Common.{◌≡◌, refl, ap, sym, ◌∙◌, Bool, true, false, Option, Some, None, if◌then◌else◌}
use Rattle.std.specs.Prelude.{ℕ, is_some}
use Rattle.std.specs.Option.{option_map}
use Rattle.qc_base.specs.declared.side.SpaceId.{SpaceId}
use Rattle.qc_base.specs.declared.side.SpaceId.TheVariants.{Initial, Handshake, «Data»}
use Rattle.qc_rings.specs.declared.which.Which.{Which}
use Rattle.qc_state.specs.declared.form.Form.{Form}
use Rattle.qc_state.specs.declared.form.Form.TheVariants as form
use Rattle.qc_state.specs.declared.keys.Fresh.{Fresh}
use Rattle.qc_state.specs.declared.keys.KeyGroup.{KeyGroup}
use Rattle.qc_state.specs.declared.keys.OneRttKeys.{OneRttKeys}
use Rattle.qc_state.specs.declared.keys.SpaceKeys.{SpaceKeys}
use Rattle.qc_state.specs.declared.timers.Timers.{Timers}
use Rattle.qc_state.specs.Keys.{form_in, has_keys, has_keys_for, key_acked, key_discarded, key_opened, key_updated, ring_acked, ring_discarded, ring_opened, ring_updated, initial_renewed}
use Rattle.qc_state.specs.Timers.{timers_keeping}

module _ {H P : Type 0} where
  -- from some keys to others that differ in their ring alone
  pub record RingMoves (v w : KeyGroup H P) : Type 0 where
    pub initial : w.initial ≡ v.initial
    pub handshake : w.handshake ≡ v.handshake
    pub highest : w.highest ≡ v.highest
    pub there : is_some w.«data» ≡ is_some v.«data»

  pub no_ring_moves : (v w : KeyGroup H P) → w ≡ v → RingMoves v w
  no_ring_moves v w is = record {
    initial = ap (λ (k : KeyGroup H P). k.initial) is;
    handshake = ap (λ (k : KeyGroup H P). k.handshake) is;
    highest = ap (λ (k : KeyGroup H P). k.highest) is;
    there = ap (λ (k : KeyGroup H P). is_some k.«data») is;
  }

  -- each step does
  opened_there : (which : Which) (n : ℕ) (fresh : Option (Fresh P)) (o : Option (OneRttKeys H P)) → is_some (ring_opened which n fresh o) ≡ is_some o
  unfolding ring_opened
  opened_there which n fresh None = refl
  opened_there which n fresh (Some k) = refl

  acked_there : (n : ℕ) (o : Option (OneRttKeys H P)) → is_some (ring_acked n o) ≡ is_some o
  unfolding ring_acked
  acked_there n None = refl
  acked_there n (Some k) = refl

  discarded_there : (o : Option (OneRttKeys H P)) → is_some (ring_discarded o) ≡ is_some o
  unfolding ring_discarded
  discarded_there None = refl
  discarded_there (Some k) = refl

  pub opened_moves : (v : KeyGroup H P) (which : Which) (n : ℕ) (fresh : Option (Fresh P)) → RingMoves v (key_opened v which n fresh)
  unfolding key_opened
  opened_moves v which n fresh = record { initial = refl; handshake = refl; highest = refl; there = opened_there which n fresh v.«data» }

  pub acked_moves : (v : KeyGroup H P) (id : SpaceId) (n : ℕ) → RingMoves v (key_acked v id n)
  unfolding key_acked
  acked_moves v Initial n = record { initial = refl; handshake = refl; highest = refl; there = refl }
  acked_moves v Handshake n = record { initial = refl; handshake = refl; highest = refl; there = refl }
  acked_moves v «Data» n = record { initial = refl; handshake = refl; highest = refl; there = acked_there n v.«data» }

  updated_there : (fresh : Option (Fresh P)) (o : Option (OneRttKeys H P)) → is_some (ring_updated fresh o) ≡ is_some o
  unfolding ring_updated
  updated_there None o = refl
  updated_there (Some fresh) None = refl
  updated_there (Some fresh) (Some k) = refl

  pub updated_moves : (v : KeyGroup H P) (fresh : Option (Fresh P)) → RingMoves v (key_updated v fresh)
  unfolding key_updated
  updated_moves v fresh = record { initial = refl; handshake = refl; highest = refl; there = updated_there fresh v.«data» }

  pub discarded_moves : (v : KeyGroup H P) → RingMoves v (key_discarded v)
  unfolding key_discarded
  discarded_moves v = record { initial = refl; handshake = refl; highest = refl; there = discarded_there v.«data» }

  -- keys that stand in the place of those of the Initial space
  pub still_some : (o : Option (SpaceKeys H P)) (keys : SpaceKeys H P) → is_some (option_map (λ (k : SpaceKeys H P). keys) o) ≡ is_some o
  still_some None keys = refl
  still_some (Some k) keys = refl

  pub renewed_keys : (v : KeyGroup H P) (keys : SpaceKeys H P) (id : SpaceId) → has_keys (initial_renewed v keys) id ≡ has_keys v id
  unfolding initial_renewed has_keys has_keys_for form_in
  renewed_keys v keys Initial = still_some v.initial keys
  renewed_keys v keys Handshake = refl
  renewed_keys v keys «Data» = refl

  pub renewed_highest : (v : KeyGroup H P) (keys : SpaceKeys H P) → (initial_renewed v keys).highest ≡ v.highest
  unfolding initial_renewed
  renewed_highest v keys = refl

  -- so there are keys for the same forms, and in the same spaces
  pub same_keys_for : (v w : KeyGroup H P) → RingMoves v w → (f : Form) → has_keys_for w f ≡ has_keys_for v f
  unfolding has_keys_for
  same_keys_for v w h form.Initial = ap (λ (k : Option (SpaceKeys H P)). is_some k) h.initial
  same_keys_for v w h form.Handshake = ap (λ (k : Option (SpaceKeys H P)). is_some k) h.handshake
  same_keys_for v w h form.Early = refl
  same_keys_for v w h form.OneRtt = h.there

  pub same_keys : (v w : KeyGroup H P) → RingMoves v w → (id : SpaceId) → has_keys w id ≡ has_keys v id
  unfolding has_keys form_in
  same_keys v w h Initial = same_keys_for v w h form.Initial
  same_keys v w h Handshake = same_keys_for v w h form.Handshake
  same_keys v w h «Data» = same_keys_for v w h form.OneRtt

  -- where there are no 1-RTT keys there are none afterwards
  pub still_no_ring : (v w : KeyGroup H P) → RingMoves v w → v.«data» ≡ None → w.«data» ≡ None
  still_no_ring v w h none = none_by w.«data» (h.there ∙ ap (λ (k : Option (OneRttKeys H P)). is_some k) none)
    where
      none_by : (k : Option (OneRttKeys H P)) → is_some k ≡ false → k ≡ None
      none_by None e = refl
      none_by (Some k) e = cc

-- what the timer of old keys leaves is the same where it is set, or isn't
pub keeping_same : {A : Type 0} (f : Timers → A) → (b : Bool) (v : Timers) (probe time : ℕ) → ((w : Timers) (p n : ℕ) → f (timers_keeping w p n) ≡ f w) → f (if b then timers_keeping v probe time else v) ≡ f v
keeping_same f true v probe time same = same v probe time
keeping_same f false v probe time same = refl

-- An update of this end's keys, which it makes where it may.
use Rattle.std.proofs.Common.{◌≡◌, [], refl, ap, ◌∙◌, Bool, true, false, Option, Some, None, IsSome, if◌then◌else◌}
use Rattle.std.specs.Prelude.{◌&&◌}
use Rattle.qc_base.specs.Time.{plus}
use Rattle.qc_rings.specs.Keyed.{keyed_in, keyed_updated}
use Rattle.qc_rings.specs.Ring.{after_update, may_update}
use Rattle.qc_state.specs.declared.form.Form.TheVariants as form
use Rattle.qc_state.specs.declared.keys.Fresh.{Fresh}
use Rattle.qc_state.specs.declared.keys.OneRttKeys.{OneRttKeys}
use Rattle.qc_state.specs.Keys.{epoch_in, epoch_with, key_updated, ring_may_update, ring_updated}
use Rattle.qc_state.specs.Life.{is_established}
use Rattle.qc_state.specs.Moves.{MayMove, Update, keys_move, move_to, state_move}
use Rattle.qc_state.specs.Types.{Types, Meaning}
use Rattle.qc_state.specs.Updating.{fresh_now, may_update_now, updated_after}
use Rattle.qc_state.specs.View.{View, At, at}

-- of two tests that hold each does
both_hold : (a b : Bool) → (a && b) ≡ true → (a ≡ true) × (b ≡ true)
both_hold true b h = (refl, h)
both_hold false b h = cc

module _ {t : Types} where
  -- where this end may update its keys, the move may be made
  may_move : (m : Meaning t) (a : At t) → may_update_now a.state ≡ true → MayMove (Update (fresh_now m a.state) (m.after_next a.state.lower.session)) a.state
  unfolding may_update_now MayMove
  may_move m a h = both_hold (is_established a.state.life.state) (ring_may_update a.state.keys.«data») h

-- what holds of no move, and of an update that may be made, holds of one that is made where it may be
module _ {t : Types} (m : Meaning t) (R : At t → At t → Type 0) (here : (a : At t) → R a a)
    (update : (a : At t) → MayMove (Update (fresh_now m a.state) (m.after_next a.state.lower.session)) a.state → R a (move_to (Update (fresh_now m a.state) (m.after_next a.state.lower.session)) a)) where
  updated_by : (a : At t) (b : Bool) → may_update_now a.state ≡ b → R a (if b then move_to (Update (fresh_now m a.state) (m.after_next a.state.lower.session)) a else a)
  updated_by a true h = update a (may_move m a h)
  updated_by a false h = here a

  -- this end updates its keys, where it may
  pub holds_updated : (a : At t) → R a (updated_after m a)
  unfolding updated_after
  holds_updated a = updated_by a (may_update_now a.state) refl

-- the epoch rises by one, where the session gives keys
module _ {H P : Type 0} where
  ring_rises : (fresh : Option (Fresh P)) (o : Option (OneRttKeys H P)) → ring_may_update o ≡ true → IsSome fresh → epoch_with (ring_updated fresh o) ≡ plus (epoch_with o) 1
  unfolding ring_updated keyed_updated after_update
  ring_rises None o may some = absurd cc
  ring_rises (Some fresh) None may some = absurd cc
  ring_rises (Some fresh) (Some k) may some = risen_by (may_update k.ring.ring) may
    where
      risen_by : (b : Bool) → b ≡ true → (if b then keyed_in (after_update k.ring.ring) k.ring fresh.keys else k.ring).ring.epoch ≡ plus k.ring.ring.epoch 1
      risen_by true e = refl
      risen_by false e = absurd cc

module _ {t : Types} where
  pub updated_rises : (m : Meaning t) (s s' : View t) → s' ≡ (updated_after m (at s [])).state → may_update_now s ≡ true → IsSome (fresh_now m s) → epoch_in s'.keys form.OneRtt ≡ plus (epoch_in s.keys form.OneRtt) 1
  unfolding updated_after may_update_now move_to state_move keys_move key_updated epoch_in
  updated_rises m s s' is may some =
      let a : At t = at s [] in
      ap (λ (v : View t). epoch_with v.keys.«data») (is ∙ ap (λ (b : Bool). (if b then move_to (Update (fresh_now m s) (m.after_next s.lower.session)) a else a).state) may)
      ∙ ring_rises (fresh_now m s) s.keys.«data» (both_hold (is_established s.life.state) (ring_may_update s.keys.«data») may).1 some

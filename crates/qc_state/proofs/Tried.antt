-- A packet that is about to begin: what the update that is tried for it makes of a connection, and what it leaves.
use Rattle.std.proofs.Common.{◌≡◌, List, [], refl, ap, sym, Bool, true, false, Option, Some, None, if◌then◌else◌}
use Rattle.qc_state.specs.declared.deeds.Did.{Did}
use Rattle.qc_state.specs.declared.form.Form.{Form}
use Rattle.qc_state.specs.declared.form.Form.TheVariants as form
use Rattle.qc_state.specs.declared.keys.Fresh.{Fresh}
use Rattle.qc_state.specs.declared.keys.KeyGroup.{KeyGroup}
use Rattle.qc_state.specs.declared.keys.OneRttKeys.{OneRttKeys}
use Rattle.qc_state.specs.Keys.{has_keys_for, key_updated, ring_updated}
use Rattle.qc_state.specs.Lower.{session_asked}
use Rattle.qc_state.specs.Moves.{MayMove, Update, deeds_move, keys_move, lower_move, move_to, numbers_move, life_move, paths_move, setup_move, state_move, timers_move, waiting_move}
use Rattle.qc_state.specs.Types.{Types, Meaning}
use Rattle.qc_state.specs.Updating.{fresh_now, is_worn_in, may_update_now, tried_after, tried_view, updated_after}
use Rattle.qc_state.specs.View.{View, At, at}
use Rattle.qc_state.proofs.Updates.{holds_updated}

-- what holds of no move, and of an update that may be made, holds of one that is tried
module _ {t : Types} (m : Meaning t) (R : At t → At t → Type 0) (here : (a : At t) → R a a)
    (update : (a : At t) → MayMove (Update (fresh_now m a.state) (m.after_next a.state.lower.session)) a.state → R a (move_to (Update (fresh_now m a.state) (m.after_next a.state.lower.session)) a)) where
  tried_by : (a : At t) (b : Bool) → R a (if b then updated_after m a else a)
  tried_by a true = holds_updated m R here update a
  tried_by a false = here a

  -- or tries it for a packet
  pub holds_tried : (f : Form) (a : At t) → R a (tried_after m f a)
  unfolding tried_after
  holds_tried f a = tried_by a (is_worn_in a.state f)

module _ {H P : Type 0} where
  -- there are keys for the same forms behind it
  ring_there : (fresh : Option (Fresh P)) (k : Option (OneRttKeys H P)) (v : KeyGroup H P) → v.«data» ≡ k → (g : Form) → has_keys_for (record v { «data» = ring_updated fresh k }) g ≡ has_keys_for v g
  unfolding has_keys_for ring_updated
  ring_there fresh k v is form.Initial = refl
  ring_there fresh k v is form.Handshake = refl
  ring_there fresh k v is form.Early = refl
  ring_there None k v is form.OneRtt = ap (λ (o : Option (OneRttKeys H P)). has_keys_for (record v { «data» = o }) form.OneRtt) (sym is)
  ring_there (Some fresh) None v is form.OneRtt = ap (λ (o : Option (OneRttKeys H P)). has_keys_for (record v { «data» = o }) form.OneRtt) (sym is)
  ring_there (Some fresh) (Some k) v is form.OneRtt = ap (λ (o : Option (OneRttKeys H P)). has_keys_for (record v { «data» = o }) form.OneRtt) (sym is)

module _ {t : Types} where
  -- the view is the same, whichever deeds there were before
  same_by : (m : Meaning t) (s : View t) (ds es : List Did) (b c : Bool) →
      (if b then (if c then move_to (Update (fresh_now m s) (m.after_next s.lower.session)) (at s ds) else at s ds) else at s ds).state
      ≡ (if b then (if c then move_to (Update (fresh_now m s) (m.after_next s.lower.session)) (at s es) else at s es) else at s es).state
  unfolding move_to
  same_by m s ds es true true = refl
  same_by m s ds es true false = refl
  same_by m s ds es false c = refl

  pub tried_same : (m : Meaning t) (f : Form) (a : At t) → (tried_after m f a).state ≡ tried_view m a.state f
  unfolding tried_view tried_after updated_after
  tried_same m f a = same_by m a.state a.did [] (is_worn_in a.state f) (may_update_now a.state)

  -- nothing is told of it
  untold_by : (m : Meaning t) (a : At t) (b c : Bool) → (if b then (if c then move_to (Update (fresh_now m a.state) (m.after_next a.state.lower.session)) a else a) else a).did ≡ a.did
  unfolding move_to deeds_move
  untold_by m a true true = refl
  untold_by m a true false = refl
  untold_by m a false c = refl

  pub tried_did : (m : Meaning t) (f : Form) (a : At t) → (tried_after m f a).did ≡ a.did
  unfolding tried_after updated_after
  tried_did m f a = untold_by m a (is_worn_in a.state f) (may_update_now a.state)

  -- What it leaves: all groups but the keys and the session stay.
  pub record IsKeptBut (s s' : View t) : Type 0 where
    pub numbers : s'.numbers ≡ s.numbers
    pub life : s'.life ≡ s.life
    pub paths : s'.paths ≡ s.paths
    pub timers : s'.timers ≡ s.timers
    pub waiting : s'.waiting ≡ s.waiting
    pub setup : s'.setup ≡ s.setup
    pub lower : s'.lower ≡ record s.lower { session = s'.lower.session }

  kept_by : (m : Meaning t) (a : At t) (b c : Bool) → IsKeptBut a.state (if b then (if c then move_to (Update (fresh_now m a.state) (m.after_next a.state.lower.session)) a else a) else a).state
  unfolding move_to state_move numbers_move life_move paths_move timers_move waiting_move setup_move lower_move session_asked
  kept_by m a true true = record { numbers = refl; life = refl; paths = refl; timers = refl; waiting = refl; setup = refl; lower = refl }
  kept_by m a true false = record { numbers = refl; life = refl; paths = refl; timers = refl; waiting = refl; setup = refl; lower = refl }
  kept_by m a false c = record { numbers = refl; life = refl; paths = refl; timers = refl; waiting = refl; setup = refl; lower = refl }

  pub tried_keeps : (m : Meaning t) (f : Form) (a : At t) → IsKeptBut a.state (tried_after m f a).state
  unfolding tried_after updated_after
  tried_keeps m f a = kept_by m a (is_worn_in a.state f) (may_update_now a.state)

  -- and there are keys for the same forms
  keyed_by : (m : Meaning t) (g : Form) (a : At t) (b c : Bool) → has_keys_for (if b then (if c then move_to (Update (fresh_now m a.state) (m.after_next a.state.lower.session)) a else a) else a).state.keys g ≡ has_keys_for a.state.keys g
  unfolding move_to state_move keys_move key_updated
  keyed_by m g a true true = ring_there (fresh_now m a.state) a.state.keys.«data» a.state.keys refl g
  keyed_by m g a true false = refl
  keyed_by m g a false c = refl

  pub tried_keyed : (m : Meaning t) (f g : Form) (a : At t) → has_keys_for (tried_after m f a).state.keys g ≡ has_keys_for a.state.keys g
  unfolding tried_after updated_after
  tried_keyed m f g a = keyed_by m g a (is_worn_in a.state f) (may_update_now a.state)

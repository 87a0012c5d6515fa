-- What a packet that is begun leaves: a number may be skipped before it.
use Rattle.std.proofs.Common.{◌≡◌, List, [], refl, ap, Bool, true, false, if◌then◌else◌}
use Rattle.qc_base.specs.declared.side.SpaceId.{SpaceId}
use Rattle.qc_base.specs.declared.side.SpaceId.TheVariants.{Initial, Handshake, «Data»}
use Rattle.qc_state.specs.declared.deeds.Did.{Did}
use Rattle.qc_state.specs.declared.numbers.Numbers.{Numbers}
use Rattle.qc_state.specs.Moves.{Begin, Skip, MayMove, deeds_move, keys_move, life_move, move_to, state_move}
use Rattle.qc_state.specs.Numbers.{is_skipped}
use Rattle.qc_state.specs.Sending.{begun_after, begun_view, skipped_after}
use Rattle.qc_state.specs.Types.{Types}
use Rattle.qc_state.specs.View.{View, At, at}

-- only 1-RTT packets have numbers that are skipped
skipped_data : (v : Numbers) (id : SpaceId) → is_skipped v id ≡ true → is_skipped v «Data» ≡ true
unfolding is_skipped
skipped_data v Initial h = cc
skipped_data v Handshake h = cc
skipped_data v Data h = h

module _ {t : Types} where
  -- the view is the same, whichever deeds there were before
  skipped_by : (s : View t) (ds es : List Did) (b : Bool) → (if b then move_to Skip (at s ds) else at s ds).state ≡ (if b then move_to Skip (at s es) else at s es).state
  unfolding move_to
  skipped_by s ds es true = refl
  skipped_by s ds es false = refl

  pub begun_same : (id : SpaceId) (opens : Bool) (a : At t) → (begun_after id opens a).state ≡ begun_view a.state id opens
  unfolding begun_view begun_after skipped_after move_to deeds_move
  begun_same id opens a = ap (λ (v : View t). state_move (Begin id opens) v) (skipped_by a.state a.did [] (is_skipped a.state.numbers id))

  -- the keys and the life stay
  skipped_keys : (a : At t) (b : Bool) → (if b then move_to Skip a else a).state.keys ≡ a.state.keys
  unfolding move_to state_move keys_move
  skipped_keys a true = refl
  skipped_keys a false = refl

  pub begun_keys : (id : SpaceId) (opens : Bool) (a : At t) → (begun_after id opens a).state.keys ≡ a.state.keys
  unfolding begun_after skipped_after move_to state_move keys_move
  begun_keys id opens a = skipped_keys a (is_skipped a.state.numbers id)

  skipped_life : (a : At t) (b : Bool) → (if b then move_to Skip a else a).state.life ≡ a.state.life
  unfolding move_to state_move life_move
  skipped_life a true = refl
  skipped_life a false = refl

  pub begun_life : (id : SpaceId) (opens : Bool) (a : At t) → (begun_after id opens a).state.life ≡ a.state.life
  unfolding begun_after skipped_after move_to state_move life_move
  begun_life id opens a = skipped_life a (is_skipped a.state.numbers id)

-- what holds of no move, of two moves one after the other, and of each of its moves, holds of a packet that is begun
module _ {t : Types} (R : At t → At t → Type 0) (here : (a : At t) → R a a) (next : (a b c : At t) → R a b → R b c → R a c) where
  skip_by : (id : SpaceId) (a : At t) (b : Bool) → is_skipped a.state.numbers id ≡ b → ((c : At t) → MayMove Skip c.state → R c (move_to Skip c)) → R a (if b then move_to Skip a else a)
  unfolding MayMove
  skip_by id a true h skip = skip a (skipped_data a.state.numbers id h)
  skip_by id a false h skip = here a

  pub holds_begun : (id : SpaceId) (opens : Bool) (a : At t) → ((c : At t) → R c (move_to (Begin id opens) c)) → ((c : At t) → MayMove Skip c.state → R c (move_to Skip c)) → R a (begun_after id opens a)
  unfolding begun_after skipped_after
  holds_begun id opens a begin skip =
      let b : At t = if is_skipped a.state.numbers id then move_to Skip a else a in next a b _ (skip_by id a (is_skipped a.state.numbers id) refl skip) (begin b)

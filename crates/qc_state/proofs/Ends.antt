-- What holds of the moves by which this end leaves a space, sets its loss timer, or closes, holds of the ways in which it does so.
use Rattle.std.proofs.Common.{◌≡◌, ℕ, ◌<◌, refl, Bool, true, false, None, if◌then◌else◌}
use Rattle.std.specs.Prelude.{is_none}
use Rattle.qc_base.specs.declared.side.Side.{Side}
use Rattle.qc_base.specs.declared.side.SpaceId.{SpaceId}
use Rattle.qc_base.specs.declared.side.SpaceId.TheVariants.{Initial}
use Rattle.qc_base.specs.declared.transport_error.TransportError.{TransportError}
use Rattle.qc_state.specs.declared.life.ConnectionError.{ConnectionError}
use Rattle.qc_state.specs.declared.life.ConnectionError.TheVariants as lost
use Rattle.qc_state.specs.Life.{is_open, rank_of}
use Rattle.qc_state.specs.Moves.{Move, Arm, Forget, Give, Shut, MayMove, armed_after, armed_with, move_to}
use Rattle.qc_state.specs.Paths.{is_blocked}
use Rattle.qc_state.specs.Recovering.{loss_time}
use Rattle.qc_state.specs.Sending.{drops_initial, initial_left}
use Rattle.qc_state.specs.Stopping.{given_after, stopped_after}
use Rattle.qc_state.specs.Types.{Types}
use Rattle.qc_state.specs.View.{At}
use Rattle.qc_state.proofs.ReceivedMoves.{IsEnding, close_for}
use Rattle.qc_state.proofs.Telling.{open_rank, is_none_none}

-- what holds of no move and of two moves one after the other, and of the moves made here, holds of giving a reason, and of closing
module _ {t : Types} (R : At t → At t → Type 0) (here : (a : At t) → R a a) (next : (a b c : At t) → R a b → R b c → R a c) where
  give_if : (why : ConnectionError) (a : At t) (b : Bool) → is_none a.state.life.reason ≡ b → (a.state.life.reason ≡ None → R a (move_to (Give why) a)) → R a (if b then move_to (Give why) a else a)
  give_if why a true h give = give (is_none_none a.state.life.reason h)
  give_if why a false h give = here a

  -- a reason is given, unless one was given before
  pub given_by : (why : ConnectionError) (a : At t) → (a.state.life.reason ≡ None → R a (move_to (Give why) a)) → R a (given_after why a)
  unfolding given_after
  given_by why a give = give_if why a _ refl give

  shut_if : (time : ℕ) (error : TransportError) (a : At t) (b : Bool) → is_open a.state.life.state ≡ b →
      let c : At t = move_to (Shut time (close_for error)) a in
      (rank_of a.state.life.state < 2 → R a c) → (c.state.life.reason ≡ None → R c (move_to (Give (lost.TransportError error)) c)) → R a (if b then given_after (lost.TransportError error) c else a)
  shut_if time error a true h shut give = let c : At t = move_to (Shut time (close_for error)) a in next a c _ (shut (open_rank a.state.life.state h)) (given_by (lost.TransportError error) c give)
  shut_if time error a false h shut give = here a

  -- this end closes for an error, and gives it as the reason
  pub stopped_by : (time : ℕ) (error : TransportError) (a : At t) →
      let c : At t = move_to (Shut time (close_for error)) a in
      (rank_of a.state.life.state < 2 → R a c) → (c.state.life.reason ≡ None → R c (move_to (Give (lost.TransportError error)) c)) → R a (stopped_after time error a)
  unfolding stopped_after
  stopped_by time error a shut give = shut_if time error a _ refl shut give

-- so where it holds of each move of the kinds by which this end leaves a space, sets its loss timer, or closes
module _ {t : Types} (R : At t → At t → Type 0) (here : (a : At t) → R a a) (next : (a b c : At t) → R a b → R b c → R a c)
    (move : (x : Move t) → IsEnding x → (a : At t) → MayMove x a.state → R a (move_to x a)) where
  pub holds_given : (why : ConnectionError) (a : At t) → R a (given_after why a)
  unfolding MayMove
  holds_given why a = given_by R here next why a (λ none. move (Give why) tt a none)

  pub holds_stopped : (time : ℕ) (error : TransportError) (a : At t) → R a (stopped_after time error a)
  unfolding MayMove
  holds_stopped time error a =
      let c : At t = move_to (Shut time (close_for error)) a in
      stopped_by R here next time error a (λ low. move (Shut time (close_for error)) tt a low) (λ none. move (Give (lost.TransportError error)) tt c none)

  -- the loss timer is set anew
  pub holds_armed : (blocked : Bool) (time : ℕ) (a : At t) → R a (armed_with blocked time a)
  unfolding armed_with MayMove
  holds_armed blocked time a = move (Arm (loss_time a.state blocked time)) tt a (record { blocked = blocked; time = time; set = refl })

  -- so it is as the path stands
  pub holds_armed_now : (time : ℕ) (a : At t) → R a (armed_after time a)
  unfolding armed_after
  holds_armed_now time a = holds_armed (is_blocked a.state.paths) time a

  -- the Initial keys are dropped, or not
  initial_by : (blocked : Bool) (time : ℕ) (a : At t) (b : Bool) → R a (if b then armed_with blocked time (move_to (Forget Initial) a) else a)
  unfolding MayMove
  initial_by blocked time a true = let b : At t = move_to (Forget Initial) a in next a b _ (move (Forget Initial) tt a tt) (holds_armed blocked time b)
  initial_by blocked time a false = here a

  pub holds_initial : (side : Side) (blocked : Bool) (time : ℕ) (space : SpaceId) (a : At t) → R a (initial_left side blocked time space a)
  unfolding initial_left
  holds_initial side blocked time space a = initial_by blocked time a (drops_initial side a.state space)

-- What holds of each move by which the handshake goes on behind the frames of a packet, holds of that.
use Rattle.std.proofs.Common.{◌≡◌, ℕ, ◌<◌, List, length, refl, ap, sym, ◌∙◌, subst, Bool, true, false, Option, Some, None, if◌then◌else◌, arith}
use Rattle.std.specs.Prelude.{zero, suc, ◌-◌, ◌==◌, ◌&&◌, Result, Ok, Err}
use Rattle.qc_base.specs.declared.transport_error.TransportError.{TransportError}
use Rattle.qc_base.specs.declared.side.Side.{Side}
use Rattle.qc_base.specs.declared.side.Side.TheVariants.{Client, Server}
use Rattle.qc_base.specs.declared.side.SpaceId.{SpaceId}
use Rattle.qc_base.specs.declared.side.SpaceId.TheVariants.{Initial, Handshake, «Data»}
use Rattle.qc_params.specs.declared.params.TransportParameters.{TransportParameters}
use Rattle.qc_crypto.specs.declared.keys.KeyPair.{KeyPair}
use Rattle.qc_crypto.specs.declared.keys.Keys.{Keys}
use Rattle.qc_state.specs.declared.life.ConnectionError.TheVariants as lost
use Rattle.qc_state.specs.declared.life.State.{State}
use Rattle.qc_state.specs.declared.life.State.TheVariants as state
use Rattle.qc_state.specs.declared.lower.Lower.{Lower}
use Rattle.qc_state.specs.Life.{rank_of, is_handshake, token_learned, identifiers_wanted}
use Rattle.qc_state.specs.Moves.{Move, Arm, Forget, Give, Shut, Write, Token, Learn, Want, Confirm, Establish, move_to, state_move, life_move, lower_move, paths_move, setup_move, MayMove, AreNext, armed_after, armed_with}
use Rattle.qc_state.specs.Ids.{active_limit}
use Rattle.qc_state.specs.Lower.{flight_dropped, ids_stepped, limits_learned, streams_stepped}
use Rattle.qc_state.specs.Paths.{is_blocked}
use Rattle.qc_state.specs.Progress.{keys_behind, ring_with, session_behind, is_written, write_after, writes_after, written_after, ids_fit, ids_fit_for, token_after, learned_with, parameters_and, is_end, ended_after, progress_after, learned_after, over_after}
use Rattle.qc_state.specs.Recovering.{loss_time}
use Rattle.qc_state.specs.Stopping.{missing_parameters, parameter_error, stopped_after}
use Rattle.qc_state.specs.Types.{Types, Meaning}
use Rattle.qc_state.specs.View.{At}
use Rattle.qc_state.proofs.Ends.{stopped_by}
use Rattle.qc_state.proofs.PacketMoves.{Breaks, IsOver, IsProgress, Missing, Unfit, Unreadable}
use Rattle.qc_state.proofs.ReceivedMoves.{close_for}

-- while the handshake goes on the rank is the least
handshake_rank : (s : State) → is_handshake s ≡ true → rank_of s < 1
handshake_rank state.Handshake h = omega arith
handshake_rank state.Established h = cc
handshake_rank state.Closed h = cc
handshake_rank state.Draining h = cc
handshake_rank state.Drained h = cc

-- of two tests that hold each holds
both_hold : (a b : Bool) → (a && b) ≡ true → (a ≡ true) × (b ≡ true)
both_hold true b h = (refl, h)
both_hold false b h = cc

-- the keys that a write gives are those of the space behind the highest one
ring_next : {t : Types} (m : Meaning t) (keys : Keys t.H t.P) (next : Option (KeyPair t.P)) → AreNext (ring_with m keys next) Handshake
ring_next m keys None = tt
ring_next m keys (Some next) = refl

behind_next : {t : Types} (m : Meaning t) (highest : SpaceId) (keys : Option (Keys t.H t.P)) (session : t.S) → AreNext (keys_behind m highest keys session) highest
behind_next m highest None session = tt
behind_next m Initial (Some k) session = refl
behind_next m Handshake (Some k) session = ring_next m k (m.next_keys session)
behind_next m Data (Some k) session = tt

module _ {t : Types} where
  -- a token that is told leaves the life where it stands, and the layers below
  token_state : (side : Side) (token : Option (List ℕ)) (a : At t) → (token_after side token a).state.life.state ≡ a.state.life.state
  unfolding move_to state_move life_move token_learned
  token_state Client (Some token) a = refl
  token_state Client None a = refl
  token_state Server token a = refl

  token_lower : (side : Side) (token : Option (List ℕ)) (a : At t) → (token_after side token a).state.lower ≡ a.state.lower
  unfolding move_to state_move lower_move
  token_lower Client (Some token) a = refl
  token_lower Client None a = refl
  token_lower Server token a = refl

  -- nor does it change which ids fit
  fits_still : (side : Side) (token : List ℕ) (p : TransportParameters) (a : At t) → ids_fit_for side (move_to (Token token) a).state p ≡ ids_fit_for side a.state p
  unfolding move_to state_move setup_move paths_move
  fits_still Client token p a = refl
  fits_still Server token p a = refl

  token_fits : (side : Side) (token : Option (List ℕ)) (p : TransportParameters) (a : At t) → ids_fit (token_after side token a).state p ≡ ids_fit a.state p
  unfolding ids_fit move_to state_move setup_move paths_move
  token_fits Client (Some token) p a = fits_still a.state.setup.fixed.side token p a
  token_fits Client None p a = refl
  token_fits Server token p a = refl

  wanted_state : (time count : ℕ) (a : At t) (b : Bool) → (if b then a else move_to (Want time count) a).state.life.state ≡ a.state.life.state
  unfolding move_to state_move life_move identifiers_wanted
  wanted_state time count a true = refl
  wanted_state time count a false = refl

  wanted_session : (time count : ℕ) (a : At t) (b : Bool) → (if b then a else move_to (Want time count) a).state.lower.session ≡ a.state.lower.session
  unfolding move_to state_move lower_move ids_stepped
  wanted_session time count a true = refl
  wanted_session time count a false = refl

  -- and so do parameters that count
  known_session : (time : ℕ) (p : TransportParameters) (a : At t) → (learned_with time p a).state.lower.session ≡ a.state.lower.session
  unfolding learned_with move_to state_move lower_move limits_learned streams_stepped ids_stepped
  known_session time p a = wanted_session time (active_limit (Some p) - a.state.lower.ids.local.issued) (move_to (Learn p) a) (length a.state.setup.fixed.local_cid == 0)

  known_state : (time : ℕ) (p : TransportParameters) (a : At t) → (learned_with time p a).state.life.state ≡ a.state.life.state
  unfolding learned_with move_to state_move life_move
  known_state time p a = wanted_state time (active_limit (Some p) - a.state.lower.ids.local.issued) (move_to (Learn p) a) (length a.state.setup.fixed.local_cid == 0)

-- what holds of no move, of two moves one after the other, and of each move by which the handshake goes on behind the frames of a packet
-- of this space, where it may be made
module _ {t : Types} (m : Meaning t) (time : ℕ) (space : SpaceId) (R : At t → At t → Type 0) (here : (a : At t) → R a a) (next : (a b c : At t) → R a b → R b c → R a c)
    (move : (x : Move t) (a : At t) → IsProgress m time space x a.state → MayMove x a.state → R a (move_to x a)) where
  -- this end closes for an error of the peer's parameters
  stopped : (error : TransportError) (a : At t) → Breaks m a.state error → R a (stopped_after time error a)
  unfolding MayMove move_to
  stopped error a breaks =
      let b : At t = move_to (Shut time (close_for error)) a in
      stopped_by R here next time error a (λ low. move (Shut time (close_for error)) a (record { same = refl; error = error; closes = refl; cause = breaks }) low)
      (λ none. move (Give (lost.TransportError error)) b (record { error = error; reason = refl; before = a.state; closed = refl; cause = breaks }) none)

  armed : (a : At t) → R a (armed_after time a)
  unfolding armed_after armed_with MayMove
  armed a = move (Arm (loss_time a.state (is_blocked a.state.paths) time)) a refl (record { blocked = is_blocked a.state.paths; time = time; set = refl })

  -- the session writes once
  holds_write : (a : At t) → R a (write_after m a)
  unfolding write_after MayMove
  holds_write a =
      let session : t.S = a.state.lower.session in
      let highest : SpaceId = a.state.keys.highest in
      let keys : Option (Keys t.H t.P) = m.write_keys session in
      move (Write (m.writes session) (keys_behind m highest keys (m.after_write session)) (session_behind m highest keys (m.after_write session))) a (record { written = refl; given = refl; behind = refl }) (behind_next m highest keys (m.after_write session))

  -- it writes once and more, or not at all
  writes_by : (n : ℕ) (a : At t) (b : Bool) → R (write_after m a) (writes_after n m (write_after m a)) → R a (if b then a else writes_after n m (write_after m a))
  writes_by n a true h = here a
  writes_by n a false h = next a (write_after m a) _ (holds_write a) h

  -- it writes at most so many times
  holds_writes : (n : ℕ) (a : At t) → R a (writes_after n m a)
  holds_writes zero a = here a
  holds_writes (suc n) a = writes_by n a (is_written m a.state.lower.session) (holds_writes n (write_after m a))

  -- it writes until nothing is left
  holds_written : (a : At t) → R a (written_after m a)
  unfolding written_after
  holds_written a = holds_writes (m.left a.state.lower.session) a

  -- a client is told a server's token, where there is one
  holds_token : (side : Side) (p : TransportParameters) (token : Option (List ℕ)) (a : At t) → m.parameters a.state.lower.session ≡ Ok (Some p) → p.stateless_reset_token ≡ token → R a (token_after side token a)
  unfolding MayMove
  holds_token Client p (Some token) a known held = move (Token token) a (record { parameters = p; known = known; held = held }) tt
  holds_token Client p None a known held = here a
  holds_token Server p token a known held = here a

  -- identifiers are wanted, or not
  wanted_by : (count : ℕ) (a : At t) (b : Bool) → R a (if b then a else move_to (Want time count) a)
  unfolding MayMove
  wanted_by count a true = here a
  wanted_by count a false = move (Want time count) a refl tt

  -- the peer's parameters count
  holds_known : (p : TransportParameters) (a : At t) → m.parameters a.state.lower.session ≡ Ok (Some p) → R a (learned_with time p a)
  unfolding learned_with MayMove
  holds_known p a known =
      let b : At t = move_to (Learn p) a in
      next a b _ (move (Learn p) a known tt) (wanted_by (active_limit (Some p) - a.state.lower.ids.local.issued) b (length a.state.setup.fixed.local_cid == 0))

  -- parameters whose ids fit are known, and others stop the packet
  fit_by : (p : TransportParameters) (others : At t → At t) (a : At t) (b : Bool) → m.parameters a.state.lower.session ≡ Ok (Some p) → ids_fit a.state p ≡ b → R (learned_with time p a) (others (learned_with time p a)) →
      R a (if b then others (learned_with time p a) else stopped_after time parameter_error a)
  fit_by p others a true known fits h = next a (learned_with time p a) _ (holds_known p a known) h
  fit_by p others a false known fits h = stopped parameter_error a (Unfit p known fits refl)

  -- the peer's parameters, as the session has read them
  holds_parameters : (r : Result (Option TransportParameters) TransportError) (others : At t → At t) (a : At t) → m.parameters a.state.lower.session ≡ r →
      ((p : TransportParameters) → let b : At t = learned_with time p (token_after a.state.setup.fixed.side p.stateless_reset_token a) in R b (others b)) → R a (parameters_and time r others a)
  holds_parameters (Err error) others a known h = stopped error a (Unreadable known)
  holds_parameters (Ok None) others a known h = stopped missing_parameters a (Missing known refl)
  holds_parameters (Ok (Some p)) others a known h =
      let b : At t = token_after a.state.setup.fixed.side p.stateless_reset_token a in
      let known_now : m.parameters b.state.lower.session ≡ Ok (Some p) =
      subst (λ (l : Lower t.S). m.parameters l.session ≡ Ok (Some p)) (sym (token_lower a.state.setup.fixed.side p.stateless_reset_token a)) known in
      next a b _ (holds_token a.state.setup.fixed.side p p.stateless_reset_token a known refl) (fit_by p others b (ids_fit a.state p) known_now (token_fits a.state.setup.fixed.side p.stateless_reset_token p a) (h p))

  -- a server reads the client's, or not
  learned_by : (a : At t) (b : Bool) → R a (if b then parameters_and time (m.parameters a.state.lower.session) (λ c. c) a else a)
  learned_by a true = holds_parameters (m.parameters a.state.lower.session) (λ c. c) a refl (λ p. here (learned_with time p (token_after a.state.setup.fixed.side p.stateless_reset_token a)))
  learned_by a false = here a

  holds_learned : (before : SpaceId) (a : At t) → R a (learned_after m time before a)
  unfolding learned_after
  holds_learned before a = learned_by a _

  -- the handshake is over
  over_then : (a b : At t) → b.state.life.state ≡ a.state.life.state → b.state.lower.session ≡ a.state.lower.session → IsOver m space a.state → IsOver m space b.state
  over_then a b life session over =
      (subst (λ (s : State). is_handshake s ≡ true) (sym life) over.0, subst (λ (s : t.S). is_end space (m.handshaking s) ≡ true) (sym session) over.1)

  holds_over : (side : Side) (a : At t) → a.state.setup.fixed.side ≡ side → IsOver m space a.state → R a (over_after m time side a)
  unfolding MayMove armed_after armed_with move_to state_move life_move lower_move setup_move flight_dropped
  holds_over Client a is over = holds_parameters (m.parameters a.state.lower.session) (move_to Establish) a refl
      (λ p. let b : At t = token_after a.state.setup.fixed.side p.stateless_reset_token a in
      let c : At t = learned_with time p b in
      let life : c.state.life.state ≡ a.state.life.state = known_state time p b ∙ token_state a.state.setup.fixed.side p.stateless_reset_token a in
      let session : c.state.lower.session ≡ a.state.lower.session = known_session time p b ∙ ap (λ (l : Lower t.S). l.session) (token_lower a.state.setup.fixed.side p.stateless_reset_token a) in
      move Establish c (over_then a c life session over) (subst (λ (s : State). rank_of s < 1) (sym life) (handshake_rank a.state.life.state over.0)))
  holds_over Server a is over =
      let b : At t = move_to Confirm a in
      let c : At t = move_to (Forget Handshake) b in
      let d : At t = armed_after time c in
      next a b _ (move Confirm a (is, over) tt)
      (next b c _ (move (Forget Handshake) b (refl, is, over_then a b refl refl over) tt)
      (next c d _ (armed c) (move Establish d (over_then a d refl refl over) (handshake_rank a.state.life.state over.0))))

  -- the handshake has ended, or goes on
  ended_by : (a : At t) (b : Bool) → (is_handshake a.state.life.state && is_end space (m.handshaking a.state.lower.session)) ≡ b → R a (if b then over_after m time a.state.setup.fixed.side a else a)
  ended_by a true h = holds_over a.state.setup.fixed.side a refl (both_hold (is_handshake a.state.life.state) (is_end space (m.handshaking a.state.lower.session)) h)
  ended_by a false h = here a

  -- the handshake goes on behind the frames of a packet
  pub holds_progress : (a : At t) → R a (progress_after m time space a)
  unfolding progress_after ended_after
  holds_progress a =
      let b : At t = written_after m a in
      let c : At t = learned_after m time a.state.keys.highest b in
      next a b _ (holds_written a) (next b c _ (holds_learned a.state.keys.highest b) (ended_by c _ refl))

-- Laws over whole runs, said of how a connection ends (RFC 9000, section 10).
use Rattle.std.specs.Prelude.{◌≡◌, ◌≤◌, ◌<◌, Bool, true, false, None, is_some}
use Rattle.qc_state.specs.declared.life.State.{State}
use Rattle.qc_state.specs.declared.timers.Timers.{Timers}
use Rattle.qc_state.specs.Life.{is_drained, is_open, rank_of}
use Rattle.qc_state.specs.Types.{Types}
use Rattle.qc_state.specs.View.{View}

-- no timer stands
pub record NoTimer (v : Timers) : Type 0 where
  pub loss_detection : v.loss_detection ≡ None
  pub idle : v.idle ≡ None
  pub close : v.close ≡ None
  pub key_discard : v.key_discard ≡ None
  pub path_validation : v.path_validation ≡ None
  pub keep_alive : v.keep_alive ≡ None
  pub pacing : v.pacing ≡ None
  pub push_new_cid : v.push_new_cid ≡ None
  pub max_ack_delay : v.max_ack_delay ≡ None

-- A connection of which an end has closed comes to its end: while it is closed, or drains, the close timer stands; once it has
-- drained, no timer does. And a close is owed only where an end has closed.
pub record EndHolds (life : State) (timers : Timers) (close_owed : Bool) : Type 0 where
  pub closing : 2 ≤ rank_of life → rank_of life < 4 → is_some timers.close ≡ true
  pub ended : is_drained life ≡ true → NoTimer timers
  pub owed : close_owed ≡ true → is_open life ≡ false

module _ {t : Types} where
  -- so of a view
  abbrev pub Ends : View t → Type 0
  Ends s = EndHolds s.life.state s.timers s.waiting.close_owed

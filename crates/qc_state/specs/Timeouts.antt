-- What the timers do that have come, each in its turn (RFC 9000, sections 5.1.2, 10.1, 10.2 and 13.2.1; RFC 9001, section 6.5; RFC 9002,
-- section 6.2).
use Rattle.std.specs.Prelude.{ℕ, if◌then◌else◌}
use Rattle.qc_state.specs.declared.life.ConnectionError.TheVariants.{TimedOut}
use Rattle.qc_state.specs.declared.life.State.TheVariants.{Drained}
use Rattle.qc_cids.specs.Cids.{asks_anew}
use Rattle.qc_state.specs.Life.{is_drained, is_open}
use Rattle.qc_state.specs.Moves.{Discard, Fire, Outlive, Pace, Raise, Release, Want, armed_after, move_to}
use Rattle.qc_state.specs.Recovering.{fired_by}
use Rattle.qc_state.specs.Stopping.{killed_after}
use Rattle.qc_state.specs.Timers.{has_come}
use Rattle.qc_state.specs.Types.{Types, Meaning}
use Rattle.qc_state.specs.View.{At}

module _ {t : Types} where
  -- so many ids are wanted, while the connection is open
  abbrev pub wanted_anew : (time count : ℕ) → At t → At t
  wanted_anew time count a = if is_open a.state.life.state then move_to (Want time count) a else a

  -- packets were in flight for so long that some are lost, or probes are due; the timer is set anew
  unfoldable pub loss_expired : Meaning t → (time : ℕ) → At t → At t
  loss_expired m time a = if has_come a.state.timers.loss_detection time then armed_after time (move_to (Fire (fired_by m time a.state)) a) else a

  -- the peer gave no sign for too long: the connection ends without a word
  unfoldable pub idle_expired : (time : ℕ) → At t → At t
  idle_expired time a = if has_come a.state.timers.idle time then killed_after TimedOut a else a

  -- a connection that closed has waited long enough for its peer: it ends
  unfoldable pub close_expired : (time : ℕ) → At t → At t
  close_expired time a = if has_come a.state.timers.close time then move_to (Raise Drained) a else a

  -- keys of the epoch before were kept for long enough once they had a floor: they are dropped (RFC 9001, section 6.5)
  unfoldable pub keys_expired : (time : ℕ) → At t → At t
  keys_expired time a = if has_come a.state.timers.key_discard time then move_to Discard a else a

  -- the pacer held a datagram back for long enough: it may go, by a transmit
  unfoldable pub pacing_expired : (time : ℕ) → At t → At t
  pacing_expired time a = if has_come a.state.timers.pacing time then move_to Pace a else a

  -- ids of this end have grown old: the peer is asked to retire them, and others are wanted in their place, unless the connection is over
  -- (RFC 9000, section 5.1.2)
  unfoldable pub ids_expired : (time : ℕ) → At t → At t
  ids_expired time a = if has_come a.state.timers.push_new_cid time then wanted_anew time (asks_anew a.state.lower.ids) (move_to Outlive a) else a

  -- an ACK was held back for as long as it may be
  unfoldable pub ack_expired : (time : ℕ) → At t → At t
  ack_expired time a = if has_come a.state.timers.max_ack_delay time then move_to Release a else a

  -- the timers that have come at this time, one after the other; in a connection that has ended none is left
  unfoldable pub timeout_after : Meaning t → (time : ℕ) → At t → At t
  timeout_after m time a = if is_drained a.state.life.state then a else ack_expired time (ids_expired time (pacing_expired time (keys_expired time (close_expired time (idle_expired time (loss_expired m time a))))))

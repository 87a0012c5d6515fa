-- The timers of a connection (RFC 9000, sections 5.1.1, 8.2.4, 10.1, 10.2 and 13.2.1; RFC 9001, section 6.5; RFC 9002, sections
-- 6.2 and 7.7). Times are nanoseconds.
use Rattle.std.specs.Prelude.{ℕ, Bool, max, true, false, ◌||◌, nat_le, if◌then◌else◌, Option, Some, None, is_none}
use Rattle.qc_base.specs.Time.{plus, times}
use Rattle.qc_state.specs.declared.timers.Timers.{Timers}

-- the timers of a connection that begins at this time: none is set, and the first packet that is sealed and elicits an
-- acknowledgement sets the idle timer
abbrev pub no_timers : (time : ℕ) → Timers
no_timers time = record {
  loss_detection = None;
  idle = None;
  close = None;
  key_discard = None;
  path_validation = None;
  keep_alive = None;
  pacing = None;
  push_new_cid = None;
  max_ack_delay = None;
  sets_idle = true;
  greatest = time;
}

-- whether a timer has come at this time: it is set, to this time or an earlier one
abbrev pub has_come : Option ℕ → (time : ℕ) → Bool
has_come None time = false
has_come (Some at) time = nat_le at time

-- the earlier of two times, where there is one
abbrev pub least : Option ℕ → Option ℕ → Option ℕ
least None b = b
least (Some a) None = Some a
least (Some a) (Some b) = if nat_le a b then Some a else Some b

-- Idle: the lesser limit, and three probe timeouts at least (RFC 9000, section 10.1). When a connection ends that is idle from now on: its own limit
-- or three probe timeouts, the longer one; without a limit nothing changes
abbrev pub idle_from : (limit before : Option ℕ) → (probe time : ℕ) → Option ℕ
idle_from None before probe time = before
idle_from (Some limit) before probe time = Some (plus time (max limit (times probe 3)))

-- a packet that elicits an acknowledgement was sealed at this time, in a space with this probe timeout
unfoldable pub timers_sealed : Timers → (limit : Option ℕ) → (probe time : ℕ) → Timers
timers_sealed v limit probe time = record v {
  idle = if v.sets_idle then idle_from limit v.idle probe time else v.idle;
  sets_idle = false;
}

-- a packet of the peer was accepted at this time, in a space with this probe timeout: the connection isn't idle, and the next
-- packet that is sealed and elicits an acknowledgement sets the timer anew (RFC 9000, section 10.1)
unfoldable pub timers_accepted : Timers → (limit : Option ℕ) → (probe time : ℕ) → Timers
timers_accepted v limit probe time = record v { idle = idle_from limit v.idle probe time; sets_idle = true }

-- the loss timer is set to a time, or stopped
unfoldable pub timers_armed : Timers → Option ℕ → Timers
timers_armed v time = record v { loss_detection = time }

-- for how long an ACK is held back at most: 25 ms (RFC 9000, section 18.2)
abbrev pub ack_delay_most : ℕ
ack_delay_most = 25000000

-- a packet of the peer was accepted at this time, whose ACK is held back, or isn't
unfoldable pub timers_holding : Timers → (holds : Bool) → (time : ℕ) → Timers
timers_holding v holds time = if holds then record v { max_ack_delay = Some (plus time ack_delay_most) } else v

-- a packet was sealed, with an ACK or without one: with one, none is held back any more
unfoldable pub timers_acking : Timers → (acks : Bool) → Timers
timers_acking v acks = if acks then record v { max_ack_delay = None } else v

-- the datagram that the pacer held back may go
unfoldable pub timers_paced : Timers → Timers
timers_paced v = record v { pacing = None }

-- the pacer holds a datagram back until a time
unfoldable pub timers_held : Timers → (until : Option ℕ) → Timers
timers_held v until = record v { pacing = until }

-- the ACK that was held back is owed at last
unfoldable pub timers_released : Timers → Timers
timers_released v = record v { max_ack_delay = None }

-- ids of this end were given at this time, the oldest of which grow old at `oldest`: the timer is set to that, unless it is set and hasn't
-- come
unfoldable pub timers_issued : Timers → (oldest : Option ℕ) → (time : ℕ) → Timers
timers_issued v oldest time = record v { push_new_cid = if is_none v.push_new_cid || has_come v.push_new_cid time then oldest else v.push_new_cid }

-- ids of this end have grown old
unfoldable pub timers_outlived : Timers → Timers
timers_outlived v = record v { push_new_cid = None }

-- the keys of the epoch before got a floor at this time: with one they are kept for three probe timeouts (RFC 9001, section 6.5)
unfoldable pub timers_keeping : Timers → (probe time : ℕ) → Timers
timers_keeping v probe time = record v { key_discard = Some (plus time (times probe 3)) }

-- they were kept for as long as that
unfoldable pub timers_discarded : Timers → Timers
timers_discarded v = record v { key_discard = None }

-- every timer is stopped
unfoldable pub timers_stopped : Timers → Timers
timers_stopped v = record v {
  loss_detection = None;
  idle = None;
  close = None;
  key_discard = None;
  path_validation = None;
  keep_alive = None;
  pacing = None;
  push_new_cid = None;
  max_ack_delay = None;
}

-- the connection closes at this time: every timer is stopped, and the close lasts for three probe timeouts (RFC 9000,
-- section 10.2)
unfoldable pub timers_closing : Timers → (probe time : ℕ) → Timers
timers_closing v probe time = record v {
  loss_detection = None;
  idle = None;
  close = Some (plus time (times probe 3));
  key_discard = None;
  path_validation = None;
  keep_alive = None;
  pacing = None;
  push_new_cid = None;
  max_ack_delay = None;
}

-- the connection is told a time: the greatest one never falls
unfoldable pub clock_set : Timers → ℕ → Timers
clock_set v time = record v { greatest = max v.greatest time }

-- the least time of the nine that is set
unfoldable pub next_timeout : Timers → Option ℕ
next_timeout v =
    let life : Option ℕ = least (least v.loss_detection v.idle) v.close in
    let upkeep : Option ℕ = least (least v.key_discard v.path_validation) v.keep_alive in
    let sending : Option ℕ = least (least v.pacing v.push_new_cid) v.max_ack_delay in
    least (least life upkeep) sending

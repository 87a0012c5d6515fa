-- What a congestion controller is told of packets that are lost (RFC 9002, sections 7.3.2 and 7.6)
use Rattle.std.specs.Prelude.{ℕ, Bool, false, not, if◌then◌else◌, List, [], ◌∷◌, ◌++◌, length, sum_by, unwrap_or}
use Rattle.std.specs.List.{list_any}
use Rattle.qc_base.specs.declared.range_set.NumberRange.{NumberRange}
use Rattle.qc_base.specs.declared.side.SpaceId.{SpaceId}
use Rattle.qc_flight.specs.Packets.{Entry, those}
use Rattle.qc_path.specs.Arrived.{exceeds}
use Rattle.qc_path.specs.Mtu.{Mtu}
use Rattle.qc_path.specs.declared.controller.Controller.{Ghosts as Control}
use Rattle.qc_recovery.specs.Acking.{acked_of, ecn_shown, held, is_persistent_in, space_acked}
use Rattle.qc_recovery.specs.Losses.{is_probe_in}
use Rattle.qc_recovery.specs.Steps.{path_acked, path_lost}
use Rattle.qc_recovery.specs.declared.calls.AckValues.{AckValues}
use Rattle.qc_recovery.specs.declared.calls.Around.{Around}
use Rattle.qc_recovery.specs.declared.calls.Fired.{Fired}
use Rattle.qc_recovery.specs.declared.calls.Fired.TheVariants as fired
use Rattle.qc_recovery.specs.declared.calls.Occasion.{Occasion}
use Rattle.qc_recovery.specs.declared.ecn.EcnVerdict.{EcnVerdict}
use Rattle.qc_recovery.specs.declared.ecn.EcnVerdict.TheVariants as ecn
use Rattle.qc_recovery.specs.declared.limits.Limits.{Limits}
use Rattle.qc_recovery.specs.declared.path.PathData.{PathData}
use Rattle.qc_recovery.specs.declared.space.SpaceRecovery.{SpaceRecovery}

-- a congestion event, as a controller is told of it
pub record CongestionEvent : Type 0 where
  pub at : ℕ  -- when its packet was sent
  pub persistent : Bool  -- whether it shows a persistent congestion
  pub bytes : ℕ  -- the bytes that are lost

-- a controller that writes down the congestion events that it is told of
abbrev pub recorder : Control (List CongestionEvent)
recorder = record {
  after_sent = λ log now bytes number. log;
  after_ack = λ log now sent bytes limited rtt. log;
  after_acks = λ log now in_flight limited largest. log;
  after_congestion = λ log now sent persistent bytes. log ++ (record { at = sent; persistent = persistent; bytes = bytes }) ∷ [];
  after_resize = λ log mtu. log;
  window_of = λ log. 0;
}

-- a packet that isn't the MTU probe in flight
abbrev pub is_no_probe : SpaceId → Mtu → Entry → Bool
is_no_probe space m e = not (is_probe_in space m e)

-- when the last of these packets was sent
abbrev pub last_sent : ℕ → List Entry → ℕ
last_sent at [] = at
last_sent at (e ∷ es) = last_sent e.1.at es

-- Packets that are lost at once are one congestion event where one of them counted as in flight, else none: with all their
-- bytes, at the time when the one with the greatest number was sent.
unfoldable pub loss_events : Bool → List Entry → List CongestionEvent
loss_events persistent lost =
    if list_any (λ e. e.1.counted) lost then record { at = last_sent 0 lost; persistent = persistent; bytes = held (sum_by (λ e. e.1.size) lost) } ∷ []
    else []

-- a rise of the count of CE is a congestion event in which no bytes are lost (RFC 9002, section 7.1)
abbrev pub mark_events : ℕ → EcnVerdict → List CongestionEvent
mark_events at ecn.Congested = record { at = at; persistent = false; bytes = 0 } ∷ []
mark_events at _ = []

-- the event of the marks that the counts of an ACK show, which newly acknowledges so many packets
unfoldable pub marks_told : Occasion → AckValues → Bool → ℕ → SpaceRecovery → PathData (List CongestionEvent) → List CongestionEvent
marks_told o a raises acked s p = mark_events (unwrap_or s.kept_at o.began) (ecn_shown p.sending_ecn raises s.counts a.ecn acked)

-- the path once the packets that an ACK acknowledges were told
unfoldable pub acks_written : Occasion → AckValues → List NumberRange → Around → SpaceRecovery → PathData (List CongestionEvent) → PathData (List CongestionEvent)
acks_written o a ranges around s p = path_acked recorder o a around (exceeds s.greatest a.largest) (acked_of ranges s) (space_acked a.largest ranges s) p

-- the event of the packets that an ACK shows to be lost, the MTU probe aside
unfoldable pub losses_of_ack : Limits → Occasion → Around → List Entry → PathData (List CongestionEvent) → List CongestionEvent
losses_of_ack l o around lost p = loss_events (is_persistent_in l o.space around.max_ack_delay lost p) (those (is_no_probe o.space p.mtud) lost)

-- the events of the packets that the loss timer shows to be lost as it fires, the MTU probe aside; a probe timeout is none (RFC
-- 9002, section 6.2.1)
unfoldable pub events_fired : Mtu → Fired → List CongestionEvent
events_fired m (fired.Lost id lost) = loss_events false (those (is_no_probe id m) lost)
events_fired m (fired.Probe id count) = []
events_fired m fired.Nothing = []

-- the events of an ACK that newly acknowledges packets: that of those which it shows to be lost, and then that of its marks
unfoldable pub events_acked : Limits → Occasion → AckValues → List NumberRange → Around → List Entry → SpaceRecovery → PathData (List CongestionEvent) → List CongestionEvent
events_acked l o a ranges around lost s p =
    let q : PathData (List CongestionEvent) = acks_written o a ranges around s p in
    losses_of_ack l o around lost q ++ marks_told o a (exceeds s.greatest a.largest) (length (acked_of ranges s)) (space_acked a.largest ranges s) (path_lost recorder l o around lost q)

-- What an ACK does (RFC 9002, sections 5 to 7, appendix A.7; ECN: RFC 9000, section 13.4)
use Rattle.std.specs.Prelude.{ℕ, ◌+◌, ◌-◌, ◌^◌, ◌==◌, Bool, false, not, ◌&&◌, ◌||◌, nat_lt, if◌then◌else◌, List, [], ◌∷◌, length, slice_get, Option, Some, None, is_none, unwrap_or, min, max}
use Rattle.qc_base.specs.Time.{plus, times}
use Rattle.qc_base.specs.declared.range_set.NumberRange.{NumberRange}
use Rattle.qc_base.specs.declared.side.SpaceId.{SpaceId}
use Rattle.qc_frame.specs.declared.frames.EcnCounts.{EcnCounts}
use Rattle.qc_flight.specs.Packets.{Entry, earliest_of, is_acked, is_below, is_lost, others, those}
use Rattle.qc_path.specs.Arrived.{exceeds}
use Rattle.qc_path.specs.Mtu.{is_probe, mtu_acked, mtu_burst, mtu_probe_lost}
use Rattle.qc_path.specs.RoundTrips.{sampled}
use Rattle.qc_path.specs.declared.controller.Controller.{Ghosts as Control}
use Rattle.qc_recovery.specs.Losses.{burst_ended, burst_with, congestion_span, is_data, is_in_burst, marks_span, persists, report_of, start_after}
use Rattle.qc_recovery.specs.declared.burst.Burst.{Burst}
use Rattle.qc_recovery.specs.declared.calls.Around.{Around}
use Rattle.qc_recovery.specs.declared.ecn.EcnVerdict.{EcnVerdict}
use Rattle.qc_recovery.specs.declared.ecn.EcnVerdict.TheVariants as ecn
use Rattle.qc_recovery.specs.declared.limits.Limits.{Limits}
use Rattle.qc_recovery.specs.declared.losses.LossReport.{LossReport}
use Rattle.qc_recovery.specs.declared.path.PathData.{PathData}
use Rattle.qc_recovery.specs.declared.space.SpaceRecovery.{SpaceRecovery}

-- bytes in flight, held at 2^64 - 1
abbrev pub held : ℕ → ℕ
held bytes = min bytes 18446744073709551615

-- the greatest of packets in ascending order
abbrev pub greatest_entry : List Entry → Option Entry
greatest_entry es = slice_get es (length es - 1)

-- when a packet was sent, where it has this number
abbrev pub sent_at : ℕ → Option Entry → Option ℕ → Option ℕ
sent_at number None kept = kept
sent_at number (Some e) kept = if e.0 == number then Some e.1.at else kept

-- The greatest number acknowledged in a space never falls (RFC 9002, appendix A.7); the time at which its packet was sent is
-- kept where that is newly acknowledged.
unfoldable pub raised : ℕ → List Entry → SpaceRecovery → SpaceRecovery
raised largest acked s =
    if exceeds s.greatest largest then record s { greatest = Some largest; kept_at = sent_at largest (greatest_entry acked) s.kept_at } else s

-- the greatest number acknowledged, with that of an ACK
abbrev pub limit_with : Option ℕ → ℕ → ℕ
limit_with None largest = largest
limit_with (Some greatest) largest = max greatest largest

-- the packets in flight that an ACK names
unfoldable pub acked_of : List NumberRange → SpaceRecovery → List Entry
acked_of ranges s = those (is_acked ranges) s.flight

-- Each packet is acknowledged or lost once (RFC 9002, section 2). The space that an ACK leaves, before loss is looked for
unfoldable pub space_acked : ℕ → List NumberRange → SpaceRecovery → SpaceRecovery
space_acked largest ranges s = raised largest (acked_of ranges s) (record s { flight = others (is_acked ranges) s.flight })

-- When the next packet is lost for its age: the delay after the earliest packet that is below the greatest one acknowledged
-- was sent (RFC 9002, section 6.1.2).
abbrev pub time_of_loss : ℕ → Option ℕ → Option ℕ
time_of_loss delay None = None
time_of_loss delay (Some at) = Some (plus at delay)

-- the packets that are lost
unfoldable pub lost_of : Limits → (now delay largest : ℕ) → SpaceRecovery → List Entry
lost_of l now delay largest s = those (is_lost largest l.packet_threshold now delay) s.flight

-- the space without the packets that are lost, and when the next one will be lost for its age
unfoldable pub space_less : Limits → (now delay largest : ℕ) → SpaceRecovery → SpaceRecovery
space_less l now delay largest s =
    let rest : List Entry = others (is_lost largest l.packet_threshold now delay) s.flight in
    record s { flight = rest; loss_time = time_of_loss delay (earliest_of (those (is_below largest) rest)) }

-- For how long the peer held an ACK back: what it says, in units of 2^exponent microseconds, and no more than the most that it
-- announced; nothing for Initial and Handshake packets, whose ACKs aren't held back (RFC 9002, section 5.3).
unfoldable pub held_back : SpaceId → Around → ℕ → ℕ
held_back space around delay =
    if is_data space then min around.max_ack_delay (times (times delay (2 ^ min around.ack_delay_exponent 63)) 1000) else 0

-- Persistent congestion is established only for packets sent after the path's first sample (RFC 9002, section 7.6.2): its
-- space and the number that was next there are noted, and stay.
abbrev pub first_noted : Option (SpaceId × ℕ) → SpaceId → ℕ → Option (SpaceId × ℕ)
first_noted None space next = Some (space, next)
first_noted (Some sample) space next = Some sample

-- ---- ECN

-- Counts that can't be: one falls, or that of ECT(1), a mark that is never sent, rises, or the two others together rise by
-- less than the packets that are newly acknowledged (RFC 9000, section 13.4.2.1).
unfoldable pub are_bad : (old new : EcnCounts) → ℕ → Bool
are_bad old new acked =
    nat_lt new.ect0 old.ect0 || not (new.ect1 == old.ect1) || nat_lt new.ce old.ce || nat_lt ((new.ect0 - old.ect0) + (new.ce - old.ce)) acked

-- What the counts of an ACK show. They are looked at where it raises the greatest number acknowledged: ACKs may come out of
-- order, and such a one never ends marking (RFC 9000, section 13.4.2.1). Counts that can't be, of an ACK that newly
-- acknowledges packets, end it; a rise of the count of CE is congestion (RFC 9002, section 7.1).
abbrev pub counts_show : Bool → (old new : EcnCounts) → ℕ → EcnVerdict
counts_show raises old new acked =
    if not raises then ecn.Unread
    else if not (acked == 0) && are_bad old new acked then ecn.Bad
    else if nat_lt old.ce new.ce then ecn.Congested
    else ecn.Good

-- The same for counts that may be missing: an ACK that newly acknowledges packets, all of which were marked, and has none
-- ends marking (RFC 9000, section 13.4.2.1).
abbrev pub counts_or_none_show : Bool → EcnCounts → Option EcnCounts → ℕ → EcnVerdict
counts_or_none_show raises old None acked = if acked == 0 then ecn.Unread else ecn.Missing
counts_or_none_show raises old (Some new) acked = counts_show raises old new acked

-- what an ACK shows on a path whose packets carry a mark, or no longer do
unfoldable pub ecn_shown : (marking raises : Bool) → EcnCounts → Option EcnCounts → ℕ → EcnVerdict
ecn_shown marking raises old new acked = if marking then counts_or_none_show raises old new acked else ecn.Unread

-- no packet came with a mark
abbrev pub no_counts : EcnCounts
no_counts = record { ect0 = 0; ect1 = 0; ce = 0 }

-- the counts that are kept of an ACK: none where they can't be, else the new ones where they were looked at
abbrev pub counts_kept : EcnVerdict → EcnCounts → Option EcnCounts → EcnCounts
counts_kept ecn.Bad old new = no_counts
counts_kept ecn.Good old new = unwrap_or new old
counts_kept ecn.Congested old new = unwrap_or new old
counts_kept _ old new = old

module _ {C : Type 0} where
  -- ---- acknowledged packets

  -- the search for a larger datagram is told; where a probe passed, so is the controller
  unfoldable pub size_told : Control C → ℕ → SpaceId → Entry → PathData C → PathData C
  size_told m now space e p =
      if is_data space then record p {
        mtud = mtu_acked now e.0 e.1.size p.mtud;
        congestion = if is_probe e.0 p.mtud then m.after_resize p.congestion (mtu_acked now e.0 e.1.size p.mtud).current else p.congestion;
      } else p

  -- The controller is told of an acknowledged packet that elicits an ACK (RFC 9002, appendix B.5), unless the path is being
  -- validated: then its window doesn't grow.
  unfoldable pub ack_told : Control C → ℕ → Bool → Entry → PathData C → PathData C
  ack_told m now limited e p =
      if e.1.ack_eliciting && is_none p.challenge then record p { congestion = m.after_ack p.congestion now e.1.at e.1.size limited p.rtt } else p

  -- these acknowledged packets are told, one after the other
  abbrev pub acks_told : Control C → ℕ → SpaceId → Bool → List Entry → PathData C → PathData C
  acks_told m now space limited [] p = p
  acks_told m now space limited (e ∷ es) p = acks_told m now space limited es (ack_told m now limited e (size_told m now space e p))

  -- the controller is told that all packets of an ACK were
  unfoldable pub end_told : Control C → (now in_flight : ℕ) → Bool → Option ℕ → PathData C → PathData C
  end_told m now in_flight limited largest p = record p { congestion = m.after_acks p.congestion now in_flight limited largest }

  -- A sample is the time since the greatest packet acknowledged was sent (RFC 9002, section 5.1).
  unfoldable pub sample_taken : ℕ → SpaceId → (next delay at : ℕ) → PathData C → PathData C
  sample_taken now space next delay at p = record p { rtt = sampled delay (now - at) p.rtt; first_sample = first_noted p.first_sample space next }

  -- ---- lost packets

  -- the search is told of a burst, by its smallest size; where that shows a black hole, the controller is told the size that
  -- is left
  unfoldable pub hole_told : Control C → ℕ → Option Burst → PathData C → PathData C
  hole_told m now None p = p
  hole_told m now (Some b) p = record p {
    mtud = mtu_burst now b.smallest b.last p.mtud;
    congestion = if nat_lt (mtu_burst now b.smallest b.last p.mtud).current p.mtud.current then m.after_resize p.congestion (mtu_burst now b.smallest b.last p.mtud).current else p.congestion;
  }

  -- the search is told of the bursts of these lost packets, one after the other; `burst` is the one that goes on
  abbrev pub bursts_from : Control C → ℕ → Option Burst → List Entry → PathData C → PathData C
  bursts_from m now burst [] p = hole_told m now burst p
  bursts_from m now burst (e ∷ es) p = bursts_from m now (Some (burst_with burst e.0 e.1.size)) es (hole_told m now (burst_ended burst e.0) p)

  -- the search is told of the bursts of packets lost at once
  unfoldable pub bursts_told : Control C → ℕ → SpaceId → List Entry → PathData C → PathData C
  bursts_told m now space lost p = bursts_from m now None (those (is_in_burst space p.mtud) lost) p

  -- The controller is told of the packets lost at once, where one of them counted as in flight: losing packets that count
  -- is a sign of congestion (RFC 9002, sections 7 and 7.3.2).
  unfoldable pub event_told : Control C → ℕ → Bool → LossReport → PathData C → PathData C
  event_told m now persistent r p =
      if r.counted then record p { congestion = m.after_congestion p.congestion now r.at persistent r.bytes } else p

  -- The search is told that its probe is lost. Such a loss is no sign of congestion (RFC 9000, section 14.4).
  unfoldable pub probe_told : ℕ → LossReport → PathData C → PathData C
  probe_told now r p = if r.probe then record p { mtud = mtu_probe_lost now p.mtud } else p

  -- all this is told of packets lost at once: the bursts, the controller's event, and the probe
  unfoldable pub losses_told : Control C → ℕ → SpaceId → Bool → List Entry → PathData C → PathData C
  losses_told m now space persistent lost p =
      let report : LossReport = report_of space p.mtud lost in
      probe_told now report (event_told m now persistent report (bursts_told m now space lost p))

  -- an ACK shows a persistent congestion by the packets that it shows to be lost
  unfoldable pub is_persistent_in : Limits → SpaceId → ℕ → List Entry → PathData C → Bool
  is_persistent_in l space max_ack_delay lost p =
      persists (marks_span space p.mtud) (congestion_span l p.rtt max_ack_delay) (start_after space p.first_sample) lost

  -- ---- ECN

  -- what the marks show is told: marking ends, or the controller learns of congestion
  unfoldable pub ecn_told : Control C → (now at : ℕ) → EcnVerdict → PathData C → PathData C
  ecn_told m now at ecn.Missing p = record p { sending_ecn = false }
  ecn_told m now at ecn.Bad p = record p { sending_ecn = false }
  ecn_told m now at ecn.Congested p = record p { congestion = m.after_congestion p.congestion now at false 0 }
  ecn_told m now at _ p = p

-- Packets lost at once: what the controller and the search for a larger datagram are told of them, and persistent
-- congestion (RFC 9002, sections 6.1 and 7.6; RFC 8899, section 4.3)
use Rattle.std.specs.Prelude.{ℕ, ◌+◌, ◌-◌, ◌/◌, ◌==◌, Bool, true, false, not, ◌&&◌, ◌||◌, nat_lt, nat_le, if◌then◌else◌, List, [], ◌∷◌, Option, Some, None, min, max}
use Rattle.qc_base.specs.Time.{plus, times}
use Rattle.qc_base.specs.declared.side.SpaceId.{SpaceId}
use Rattle.qc_base.specs.declared.side.SpaceId.TheVariants.{Initial, Handshake, Data}
use Rattle.qc_flight.specs.Packets.{Entry}
use Rattle.qc_path.specs.Mtu.{Mtu, is_probe}
use Rattle.qc_path.specs.RoundTrips.{Rtt, cautious, probe_base}
use Rattle.qc_recovery.specs.declared.burst.Burst.{Burst}
use Rattle.qc_recovery.specs.declared.losses.LossReport.{LossReport}
use Rattle.qc_recovery.specs.declared.limits.Limits.{Limits}

-- the space of 0-RTT and 1-RTT packets
abbrev pub is_data : SpaceId → Bool
is_data Data = true
is_data _ = false

-- the order of the spaces
abbrev pub rank : SpaceId → ℕ
rank Initial = 0
rank Handshake = 1
rank Data = 2

-- How long ago a packet has to be sent to be lost: a part of the greater of the smoothed and the latest round trip time, and
-- at least the granularity of timers, 1 ms (RFC 9002, section 6.1.2).
unfoldable pub loss_delay : Limits → Rtt → ℕ
loss_delay l rtt = max (times (cautious rtt) l.time_numerator / max l.time_denominator 1) 1000000

-- the packet is the MTU probe in flight; only a packet of the Data space can be
abbrev pub is_probe_in : SpaceId → Mtu → Entry → Bool
is_probe_in space m e = is_data space && is_probe e.0 m

-- one more packet is lost: a probe is noted alone
unfoldable pub report_with : SpaceId → Mtu → Entry → LossReport → LossReport
report_with space m e r =
    if is_probe_in space m e then record r { probe = true }
    else record r { bytes = plus r.bytes e.1.size; counted = r.counted || e.1.counted; at = e.1.at }

-- these packets are lost too, one after the other
abbrev pub report_from : SpaceId → Mtu → LossReport → List Entry → LossReport
report_from space m r [] = r
report_from space m r (e ∷ es) = report_from space m (report_with space m e r) es

-- no packet is lost
unfoldable pub no_report : LossReport
no_report = record { bytes = 0; counted = false; at = 0; probe = false }

-- of packets lost at once, probes aside: their bytes, whether one counted as in flight, and when the greatest one was sent
unfoldable pub report_of : SpaceId → Mtu → List Entry → LossReport
report_of space m es = report_from space m no_report es

-- ---- bursts

-- A burst is a run of lost packets with consecutive numbers. Packets of the Data space alone make one, and no MTU probe: a
-- probe's loss says nothing of the size in use (RFC 8899, sections 3 and 4.3).
abbrev pub is_in_burst : SpaceId → Mtu → Entry → Bool
is_in_burst space m e = is_data space && not (is_probe e.0 m)

-- a burst that begins with a packet of this number and size
abbrev pub burst_begun : (number size : ℕ) → Burst
burst_begun number size = record { smallest = size; last = number }

-- the burst that ends before a lost packet, whose number isn't the next one
abbrev pub burst_ended : Option Burst → ℕ → Option Burst
burst_ended None number = None
burst_ended (Some b) number = if number == b.last + 1 then None else Some b

-- the burst that a lost packet goes on with, or that it begins
abbrev pub burst_with : Option Burst → (number size : ℕ) → Burst
burst_with None number size = burst_begun number size
burst_with (Some b) number size = if number == b.last + 1 then record { smallest = min b.smallest size; last = number } else burst_begun number size

-- ---- persistent congestion

-- a packet that elicits an ACK and is no MTU probe
abbrev pub marks_span : SpaceId → Mtu → Entry → Bool
marks_span space m e = e.1.ack_eliciting && not (is_probe_in space m e)

-- the least number of a space that is after the path's first sample: one of a later space than the sample's, or of the
-- same space and above the number that was next there
abbrev pub start_by : Bool → (same : Bool) → ℕ → Option ℕ
start_by true same next = Some 0
start_by false true next = Some (plus next 1)
start_by false false next = None

-- the same for a sample that may not have been taken
abbrev pub start_after : SpaceId → Option (SpaceId × ℕ) → Option ℕ
start_after space None = None
start_after space (Some sample) = start_by (nat_lt (rank sample.0) (rank space)) (rank sample.0 == rank space) sample.1

-- the number may be the first of a persistent congestion
abbrev pub may_start : Option ℕ → ℕ → Bool
may_start None n = false
may_start (Some least) n = nat_le least n

-- from a packet that was sent at a time and has the number before them, lost numbers run on without a gap to one that
-- elicits an ACK and was sent more than a span later
abbrev pub reaches : (Entry → Bool) → (span from before : ℕ) → List Entry → Bool
reaches marks span from before [] = false
reaches marks span from before (e ∷ es) =
    (e.0 == before + 1) && ((marks e && nat_lt span (e.1.at - from)) || reaches marks span from e.0 es)

-- Congestion is persistent where two packets that elicit an ACK are lost, the time between their sending exceeds a span, no
-- packet between them is acknowledged, and a sample was taken before the first of them was sent (RFC 9002, section 7.6.2).
-- Here: one of the packets lost is such a first one.
abbrev pub persists : (Entry → Bool) → ℕ → Option ℕ → List Entry → Bool
persists marks span start [] = false
persists marks span start (e ∷ es) = (marks e && may_start start e.0 && reaches marks span e.1.at e.0 es) || persists marks span start es

-- ---- the same, in one pass that keeps the earliest time of a run

-- the times of a run go on only where no number is missing
abbrev pub run_on : Bool → Option ℕ → Option ℕ
run_on true from = from
run_on false from = None

-- the earliest time of the run, where this packet may be its first
abbrev pub earlier_start : Bool → Option ℕ → ℕ → Option ℕ
earlier_start false from time = from
earlier_start true None time = Some time
earlier_start true (Some from) time = Some (min from time)

-- the time is more than a span after the earliest one, if there is one
abbrev pub is_far : ℕ → Option ℕ → ℕ → Bool
is_far span None time = false
is_far span (Some from) time = nat_lt span (time - from)

-- in one pass, `before` the number before these packets and `from` the earliest time of the run that ends there: a run
-- reaches over a span
abbrev pub scans : (Entry → Bool) → ℕ → Option ℕ → ℕ → Option ℕ → List Entry → Bool
scans marks span start before from [] = false
scans marks span start before from (e ∷ es) =
    (marks e && is_far span (run_on (e.0 == before + 1) from) e.1.at)
    || scans marks span start e.0 (earlier_start (marks e && may_start start e.0) (run_on (e.0 == before + 1) from) e.1.at) es

-- That span is the probe timeout of the Data space, with the time for which the peer may hold an ACK back in every space, times
-- a threshold (RFC 9002, section 7.6.1).
unfoldable pub congestion_span : Limits → Rtt → ℕ → ℕ
congestion_span l rtt max_ack_delay = times (plus (probe_base rtt) max_ack_delay) l.persistent

-- What a controller is told of packets that are lost
use Rattle.std.proofs.Common.{◌≡◌, ℕ, ◌+◌, ◌≤◌, Bool, true, false, not, ◌||◌, List, [], ◌∷◌, ◌++◌, append-nil, append_assoc, filter, sum_by, refl, sym, ◌∙◌, ap, arith, Option, None, Some}
use Rattle.std.specs.Prelude.{if◌then◌else◌, length, unwrap_or, ◌==◌}
use Rattle.std.specs.List.{list_any}
use Rattle.std.proofs.lemmas.List.Sums.{sum_by-cons}
use Rattle.qc_base.specs.declared.range_set.NumberRange.{NumberRange}
use Rattle.qc_base.specs.declared.side.SpaceId.{SpaceId}
use Rattle.qc_base.specs.Time.{plus}
use Rattle.qc_flight.specs.Packets.{Entry, those}
use Rattle.qc_path.specs.Arrived.{exceeds}
use Rattle.qc_path.specs.Mtu.{Mtu}
use Rattle.qc_recovery.specs.Acking.{ack_told, acked_of, acks_told, bursts_from, bursts_told, ecn_shown, ecn_told, end_told, event_told, held, hole_told, is_persistent_in, limit_with, losses_told, lost_of, probe_told, sample_taken, size_told, space_acked, space_less}
use Rattle.qc_recovery.specs.Losses.{burst_ended, burst_with, is_in_burst, is_probe_in, loss_delay, no_report, report_from, report_of, report_with}
use Rattle.qc_recovery.specs.Steps.{SpaceAfter, ack_after, loss_first, losses_found, marks_read, occasion, path_acked, path_lost, probe_fired, probe_line, sampled_if, space_after, space_of, space_timed, timeout_after, timeout_by}
use Rattle.qc_recovery.specs.Told.{CongestionEvent, acks_written, events_acked, events_fired, is_no_probe, last_sent, loss_events, losses_of_ack, mark_events, marks_told, recorder}
use Rattle.qc_recovery.specs.declared.burst.Burst.{Burst}
use Rattle.qc_recovery.specs.declared.calls.AckValues.{AckValues}
use Rattle.qc_recovery.specs.declared.calls.Around.{Around}
use Rattle.qc_recovery.specs.declared.calls.Occasion.{Occasion}
use Rattle.qc_recovery.specs.declared.ecn.EcnVerdict.{EcnVerdict}
use Rattle.qc_recovery.specs.declared.ecn.EcnVerdict.TheVariants as ecn
use Rattle.qc_recovery.specs.declared.limits.Limits.{Limits}
use Rattle.qc_recovery.specs.declared.losses.LossReport.{LossReport}
use Rattle.qc_recovery.specs.declared.path.PathData.{PathData}
use Rattle.qc_recovery.specs.declared.recovery.Recovery.{Recovery}
use Rattle.qc_recovery.specs.declared.space.SpaceRecovery.{SpaceRecovery}
use Rattle.qc_recovery.proofs.Bursts.{filter_leaves, filter_takes}

-- ---- the report in one pass

-- a report of packets, from what was known before them
record Reports (bytes : ℕ) (counted : Bool) (at : ℕ) (es : List Entry) (r : LossReport) : Type 0 where
  bytes_are : r.bytes ≡ held (bytes + sum_by (λ (e : Entry). e.1.size) es)
  counted_is : r.counted ≡ (counted || list_any (λ (e : Entry). e.1.counted) es)
  at_is : r.at ≡ last_sent at es

held_here : (n : ℕ) → n ≤ 18446744073709551615 → n ≡ held (n + 0)
held_here n le = omega arith

held_zero : (n : ℕ) → held (0 + n) ≡ held n
held_zero n = omega arith

held_more : (a b c : ℕ) → held (plus a b + c) ≡ held (a + (b + c))
held_more a b c = omega arith

plus_held : (a b : ℕ) → plus a b ≤ 18446744073709551615
plus_held a b = omega arith

or_none : (b : Bool) → b ≡ (b || false)
or_none true = refl
or_none false = refl

or_more : (a b c : Bool) → ((a || b) || c) ≡ (a || (b || c))
or_more true b c = refl
or_more false b c = refl

report_probe : (space : SpaceId) (m : Mtu) (e : Entry) (r : LossReport) → is_probe_in space m e ≡ true → report_with space m e r ≡ record r { probe = true }
unfolding report_with
report_probe space m e r is = rw is refl

report_other : (space : SpaceId) (m : Mtu) (e : Entry) (r : LossReport) → is_probe_in space m e ≡ false → report_with space m e r ≡ record r { bytes = plus r.bytes e.1.size; counted = r.counted || e.1.counted; at = e.1.at }
unfolding report_with
report_other space m e r is = rw is refl

one_more : (bytes : ℕ) (counted : Bool) (at : ℕ) (e : Entry) (es : List Entry) (q : LossReport) → Reports (plus bytes e.1.size) (counted || e.1.counted) e.1.at es q → Reports bytes counted at (e ∷ es) q
one_more bytes counted at e es q h = record {
  bytes_are = h.bytes_are ∙ held_more bytes e.1.size (sum_by (λ (e : Entry). e.1.size) es) ∙ ap (λ (n : ℕ). held (bytes + n)) (sym (sum_by-cons (λ (e : Entry). e.1.size) e es));
  counted_is = h.counted_is ∙ or_more counted e.1.counted (list_any (λ (e : Entry). e.1.counted) es);
  at_is = h.at_is;
}

reports_by : (space : SpaceId) (m : Mtu) (r : LossReport) (e : Entry) (es : List Entry) (b : Bool) → is_probe_in space m e ≡ b → r.bytes ≤ 18446744073709551615
    → ((q : LossReport) → q.bytes ≤ 18446744073709551615 → Reports q.bytes q.counted q.at (filter (is_no_probe space m) es) (report_from space m q es))
    → Reports r.bytes r.counted r.at (filter (is_no_probe space m) (e ∷ es)) (report_from space m (report_with space m e r) es)
reports_by space m r e es true is le more =
    rw (filter_leaves (is_no_probe space m) e es (ap not is), report_probe space m e r is) (more (record r { probe = true }) le)
reports_by space m r e es false is le more =
    rw (filter_takes (is_no_probe space m) e es (ap not is), report_other space m e r is)
    (one_more r.bytes r.counted r.at e _ _ (more (record r { bytes = plus r.bytes e.1.size; counted = r.counted || e.1.counted; at = e.1.at }) (plus_held r.bytes e.1.size)))

reports : (space : SpaceId) (m : Mtu) (es : List Entry) (r : LossReport) → r.bytes ≤ 18446744073709551615 → Reports r.bytes r.counted r.at (filter (is_no_probe space m) es) (report_from space m r es)
reports space m [] r le = record { bytes_are = held_here r.bytes le; counted_is = or_none r.counted; at_is = refl }
reports space m (e ∷ es) r le = reports_by space m r e es (is_probe_in space m e) refl le (λ q small. reports space m es q small)

reports_all : (space : SpaceId) (m : Mtu) (es : List Entry) → Reports 0 false 0 (those (is_no_probe space m) es) (report_of space m es)
unfolding report_of no_report those
reports_all space m es = reports space m es no_report (omega arith)

-- ---- what leaves the log as it is

abbrev Log : Type 0
Log = List CongestionEvent

either_log : (b : Bool) (x y : PathData Log) (log : Log) → x.congestion ≡ log → y.congestion ≡ log → (if b then x else y).congestion ≡ log
either_log true x y log h k = h
either_log false x y log h k = k

same_log : (b : Bool) (log : Log) → (if b then log else log) ≡ log
same_log true log = refl
same_log false log = refl

hole_keeps : (now : ℕ) (burst : Option Burst) (p : PathData Log) → (hole_told recorder now burst p).congestion ≡ p.congestion
unfolding hole_told
hole_keeps now None p = refl
hole_keeps now (Some b) p = same_log _ p.congestion

bursts_from_keep : (now : ℕ) (burst : Option Burst) (es : List Entry) (p : PathData Log) → (bursts_from recorder now burst es p).congestion ≡ p.congestion
bursts_from_keep now burst [] p = hole_keeps now burst p
bursts_from_keep now burst (e ∷ es) p = bursts_from_keep now (Some (burst_with burst e.0 e.1.size)) es (hole_told recorder now (burst_ended burst e.0) p) ∙ hole_keeps now (burst_ended burst e.0) p

bursts_keep : (now : ℕ) (space : SpaceId) (lost : List Entry) (p : PathData Log) → (bursts_told recorder now space lost p).congestion ≡ p.congestion
unfolding bursts_told
bursts_keep now space lost p = bursts_from_keep now None (those (is_in_burst space p.mtud) lost) p

probe_keeps : (now : ℕ) (r : LossReport) (p : PathData Log) → (probe_told now r p).congestion ≡ p.congestion
unfolding probe_told
probe_keeps now r p = either_log r.probe _ p p.congestion refl refl

size_keeps : (now : ℕ) (space : SpaceId) (e : Entry) (p : PathData Log) → (size_told recorder now space e p).congestion ≡ p.congestion
unfolding size_told
size_keeps now space e p = either_log _ _ p p.congestion (same_log _ p.congestion) refl

ack_keeps : (now : ℕ) (limited : Bool) (e : Entry) (p : PathData Log) → (ack_told recorder now limited e p).congestion ≡ p.congestion
unfolding ack_told
ack_keeps now limited e p = either_log _ _ p p.congestion refl refl

acks_keep : (now : ℕ) (space : SpaceId) (limited : Bool) (es : List Entry) (p : PathData Log) → (acks_told recorder now space limited es p).congestion ≡ p.congestion
acks_keep now space limited [] p = refl
acks_keep now space limited (e ∷ es) p = acks_keep now space limited es _ ∙ (ack_keeps now limited e _ ∙ size_keeps now space e p)

sample_keeps : (b : Bool) (o : Occasion) (delay at : ℕ) (p : PathData Log) → (sampled_if b o delay at p).congestion ≡ p.congestion
unfolding sample_taken
sample_keeps true o delay at p = refl
sample_keeps false o delay at p = refl

acked_keeps : (o : Occasion) (a : AckValues) (around : Around) (raises : Bool) (acked : List Entry) (s : SpaceRecovery) (p : PathData Log) → (path_acked recorder o a around raises acked s p).congestion ≡ p.congestion
unfolding path_acked end_told
acked_keeps o a around raises acked s p = sample_keeps _ o _ _ _ ∙ acks_keep o.time o.space around.app_limited acked p

-- ---- what is written down

event_of : (r : LossReport) (persistent : Bool) → Log
event_of r persistent = if r.counted then (record { at = r.at; persistent = persistent; bytes = r.bytes }) ∷ [] else []

event_by : (b persistent : Bool) (now : ℕ) (r : LossReport) (p : PathData Log) → (if b then record p { congestion = p.congestion ++ (record { at = r.at; persistent = persistent; bytes = r.bytes }) ∷ [] } else p).congestion ≡ p.congestion ++ (if b then (record { at = r.at; persistent = persistent; bytes = r.bytes }) ∷ [] else [])
event_by true persistent now r p = refl
event_by false persistent now r p = sym (append-nil p.congestion)

event_written : (now : ℕ) (persistent : Bool) (r : LossReport) (p : PathData Log) → (event_told recorder now persistent r p).congestion ≡ p.congestion ++ event_of r persistent
unfolding event_told event_of
event_written now persistent r p = event_by r.counted persistent now r p

events_are : (persistent : Bool) (es : List Entry) (r : LossReport) → Reports 0 false 0 es r → event_of r persistent ≡ loss_events persistent es
unfolding event_of loss_events
events_are persistent es r h = rw (h.bytes_are ∙ held_zero (sum_by (λ (e : Entry). e.1.size) es), h.counted_is, h.at_is) refl

pub losses_written : (now : ℕ) (space : SpaceId) (persistent : Bool) (lost : List Entry) (p : PathData Log) → (losses_told recorder now space persistent lost p).congestion ≡ p.congestion ++ loss_events persistent (those (is_no_probe space p.mtud) lost)
unfolding losses_told
losses_written now space persistent lost p =
    probe_keeps now (report_of space p.mtud lost) _
    ∙ event_written now persistent (report_of space p.mtud lost) (bursts_told recorder now space lost p)
    ∙ ap (λ (log : Log). log ++ event_of (report_of space p.mtud lost) persistent) (bursts_keep now space lost p)
    ∙ ap (λ (log : Log). p.congestion ++ log) (events_are persistent _ _ (reports_all space p.mtud lost))

marks_written : (now at : ℕ) (verdict : EcnVerdict) (p : PathData Log) → (ecn_told recorder now at verdict p).congestion ≡ p.congestion ++ mark_events at verdict
unfolding ecn_told
marks_written now at ecn.Unread p = sym (append-nil p.congestion)
marks_written now at ecn.Missing p = sym (append-nil p.congestion)
marks_written now at ecn.Bad p = sym (append-nil p.congestion)
marks_written now at ecn.Good p = sym (append-nil p.congestion)
marks_written now at ecn.Congested p = refl

pub timer_tells : (l : Limits) (now : ℕ) (id : SpaceId) (s : SpaceRecovery) (p : PathData Log) → (space_timed recorder l now id s p).path.congestion ≡ p.congestion ++ loss_events false (those (is_no_probe id p.mtud) (space_timed recorder l now id s p).lost)
unfolding space_timed
timer_tells l now id s p = losses_written now id false _ p

if_false : (b : Bool) (x y : SpaceAfter Log) → b ≡ false → (if b then x else y) ≡ y
if_false b x y is = rw is refl

if_true : (b : Bool) (x y : SpaceAfter Log) → b ≡ true → (if b then x else y) ≡ x
if_true b x y is = rw is refl

found_tells : (l : Limits) (o : Occasion) (a : AckValues) (around : Around) (raises : Bool) (largest : ℕ) (acked : List Entry) (s : SpaceRecovery) (p : PathData Log)
    → (losses_found recorder l o a around raises largest acked s p).path.congestion ≡ p.congestion ++ (losses_of_ack l o around (losses_found recorder l o a around raises largest acked s p).lost p ++ marks_told o a raises (length acked) s (path_lost recorder l o around (losses_found recorder l o a around raises largest acked s p).lost p))
unfolding losses_found marks_read space_less path_lost losses_of_ack marks_told
found_tells l o a around raises largest acked s p =
    let lost : List Entry = lost_of l o.time (loss_delay l p.rtt) largest s in
    let persistent : Bool = is_persistent_in l o.space around.max_ack_delay lost p in
    let q : PathData Log = path_lost recorder l o around lost p in
    let at : ℕ = unwrap_or s.kept_at o.began in
    let verdict : EcnVerdict = ecn_shown q.sending_ecn raises s.counts a.ecn (length acked) in
    marks_written o.time at verdict q
    ∙ ap (λ (log : Log). log ++ mark_events at verdict) (losses_written o.time o.space persistent lost p)
    ∙ append_assoc p.congestion (loss_events persistent (those (is_no_probe o.space p.mtud) lost)) (mark_events at verdict)

pub ack_tells : (l : Limits) (o : Occasion) (a : AckValues) (ranges : List NumberRange) (around : Around) (s : SpaceRecovery) (p : PathData Log) → (length (acked_of ranges s) == 0) ≡ false
    → (space_after recorder l o a ranges around s p).path.congestion ≡ p.congestion ++ (losses_of_ack l o around (space_after recorder l o a ranges around s p).lost (acks_written o a ranges around s p) ++ marks_told o a (exceeds s.greatest a.largest) (length (acked_of ranges s)) (space_acked a.largest ranges s) (path_lost recorder l o around (space_after recorder l o a ranges around s p).lost (acks_written o a ranges around s p)))
unfolding space_after acks_written
ack_tells l o a ranges around s p some =
    let raises : Bool = exceeds s.greatest a.largest in
    let t : PathData Log = path_acked recorder o a around raises (acked_of ranges s) (space_acked a.largest ranges s) p in
    let q : SpaceAfter Log = losses_found recorder l o a around raises (limit_with s.greatest a.largest) (acked_of ranges s) (space_acked a.largest ranges s) t in
    let told : Log = losses_of_ack l o around q.lost t ++ marks_told o a raises (length (acked_of ranges s)) (space_acked a.largest ranges s) (path_lost recorder l o around q.lost t) in
    rw (if_false (length (acked_of ranges s) == 0) _ _ some)
    (found_tells l o a around raises (limit_with s.greatest a.largest) (acked_of ranges s) (space_acked a.largest ranges s) t
    ∙ ap (λ (log : Log). log ++ told) (acked_keeps o a around raises (acked_of ranges s) (space_acked a.largest ranges s) p))

pub nothing_tells : (l : Limits) (o : Occasion) (a : AckValues) (ranges : List NumberRange) (around : Around) (s : SpaceRecovery) (p : PathData Log) → (length (acked_of ranges s) == 0) ≡ true
    → (space_after recorder l o a ranges around s p).path.congestion ≡ p.congestion ++ marks_told o a (exceeds s.greatest a.largest) 0 (space_acked a.largest ranges s) p
unfolding space_after marks_read marks_told
nothing_tells l o a ranges around s p none = rw (if_true (length (acked_of ranges s) == 0) _ _ none) (marks_written o.time _ _ p)

-- ---- the same of the calls, over all spaces

probe_tells : (due : Option (ℕ × SpaceId)) (r : Recovery) (p : PathData Log) → (probe_fired due r p).path.congestion ≡ p.congestion ++ events_fired p.mtud (probe_fired due r p).fired
unfolding events_fired
probe_tells None r p = sym (append-nil p.congestion)
probe_tells (Some due) r p = sym (append-nil p.congestion)

timeout_tells_by : (now : ℕ) (around : Around) (loss : Option (ℕ × SpaceId)) (r : Recovery) (p : PathData Log) → (timeout_by recorder now around loss r p).path.congestion ≡ p.congestion ++ events_fired p.mtud (timeout_by recorder now around loss r p).fired
unfolding events_fired
timeout_tells_by now around None r p = probe_tells (probe_line now around p.rtt r) r p
timeout_tells_by now around (Some loss) r p = timer_tells r.limits now loss.1 (space_of loss.1 r) p

pub timeout_tells : (now : ℕ) (around : Around) (r : Recovery) (p : PathData Log) → (timeout_after recorder now around r p).path.congestion ≡ p.congestion ++ events_fired p.mtud (timeout_after recorder now around r p).fired
unfolding timeout_after
timeout_tells now around r p = timeout_tells_by now around (loss_first r) r p

pub call_tells : (now : ℕ) (id : SpaceId) (next began : ℕ) (a : AckValues) (ranges : List NumberRange) (around : Around) (r : Recovery) (p : PathData Log) → (length (acked_of ranges (space_of id r)) == 0) ≡ false
    → (ack_after recorder now id next began a ranges around r p).path.congestion ≡ p.congestion ++ events_acked r.limits (occasion now id next began r) a ranges around (ack_after recorder now id next began a ranges around r p).lost (space_of id r) p
unfolding ack_after events_acked
call_tells now id next began a ranges around r p some = ack_tells r.limits (occasion now id next began r) a ranges around (space_of id r) p some

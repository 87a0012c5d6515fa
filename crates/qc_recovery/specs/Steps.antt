-- What recovery's calls leave (RFC 9002, appendix A)
use Rattle.std.specs.Prelude.{ℕ, ◌+◌, ◌^◌, ◌==◌, Bool, true, false, not, ◌&&◌, nat_lt, if◌then◌else◌, List, [], ◌∷◌, ◌++◌, length, Option, Some, None, unwrap_or, is_some, min}
use Rattle.std.specs.List.{list_any}
use Rattle.qc_base.specs.Time.{plus, times}
use Rattle.qc_base.specs.declared.range_set.NumberRange.{NumberRange}
use Rattle.qc_base.specs.declared.side.SpaceId.{SpaceId}
use Rattle.qc_base.specs.declared.side.SpaceId.TheVariants.{Initial, Handshake, Data}
use Rattle.qc_flight.specs.Packets.{Entry, bytes_of, counted_of, eliciting_of}
use Rattle.qc_flight.specs.declared.sent.SentPacket.{SentPacket}
use Rattle.qc_path.specs.Arrived.{exceeds}
use Rattle.qc_path.specs.Mtu.{mtu_forgotten}
use Rattle.qc_path.specs.RoundTrips.{Rtt, probe_base}
use Rattle.qc_path.specs.declared.controller.Controller.{Ghosts as Control}
use Rattle.qc_recovery.specs.Acking.{acked_of, acks_told, counts_kept, ecn_shown, ecn_told, end_told, held, held_back, is_persistent_in, limit_with, losses_told, lost_of, no_counts, sample_taken, space_acked, space_less}
use Rattle.qc_recovery.specs.Losses.{is_data, loss_delay}
use Rattle.qc_recovery.specs.declared.calls.AckValues.{AckValues}
use Rattle.qc_recovery.specs.declared.calls.Around.{Around}
use Rattle.qc_recovery.specs.declared.calls.Fired.{Fired}
use Rattle.qc_recovery.specs.declared.calls.Fired.TheVariants as fired
use Rattle.qc_recovery.specs.declared.calls.Occasion.{Occasion}
use Rattle.qc_recovery.specs.declared.limits.Limits.{Limits}
use Rattle.qc_recovery.specs.declared.path.PathData.{PathData}
use Rattle.qc_recovery.specs.declared.recovery.Recovery.{Recovery}
use Rattle.qc_recovery.specs.declared.space.SpaceRecovery.{SpaceRecovery}

-- ---- spaces

-- what is kept of a space
abbrev pub space_of : SpaceId → Recovery → SpaceRecovery
space_of Initial r = r.initial
space_of Handshake r = r.handshake
space_of Data r = r.application

-- a space is put in its place
abbrev pub with_space : SpaceId → SpaceRecovery → Recovery → Recovery
with_space Initial s r = record r { initial = s }
with_space Handshake s r = record r { handshake = s }
with_space Data s r = record r { application = s }

-- the bytes in flight of a space
abbrev pub space_bytes : SpaceRecovery → ℕ
space_bytes s = held (bytes_of s.flight)

-- the bytes in flight of the two other spaces
abbrev pub other_bytes : SpaceId → Recovery → ℕ
other_bytes Initial r = plus (space_bytes r.handshake) (space_bytes r.application)
other_bytes Handshake r = plus (space_bytes r.initial) (space_bytes r.application)
other_bytes Data r = plus (space_bytes r.initial) (space_bytes r.handshake)

-- the bytes in flight of all spaces, held at 2^64 - 1
unfoldable pub all_bytes : Recovery → ℕ
all_bytes r = held (bytes_of r.initial.flight + bytes_of r.handshake.flight + bytes_of r.application.flight)

-- ---- sending

-- a space in which nothing was sent or acknowledged
unfoldable pub no_space : SpaceRecovery
no_space = record { flight = []; greatest = None; kept_at = None; eliciting_at = None; loss_time = None; counts = no_counts }

-- a space with one packet more in flight
unfoldable pub space_sent : ℕ → SentPacket → SpaceRecovery → SpaceRecovery
space_sent number packet s =
    record s { flight = s.flight ++ (number, packet) ∷ []; eliciting_at = if packet.ack_eliciting then Some packet.at else s.eliciting_at }

-- a packet is in flight
unfoldable pub sent_after : SpaceId → ℕ → SentPacket → Recovery → Recovery
sent_after id number packet r = with_space id (space_sent number packet (space_of id r)) r

-- ---- probes

-- the earlier of two times with their spaces; on a tie the first one
abbrev pub sooner : Option (ℕ × SpaceId) → Option (ℕ × SpaceId) → Option (ℕ × SpaceId)
sooner None b = b
sooner (Some a) None = Some a
sooner (Some a) (Some b) = if nat_lt b.0 a.0 then Some b else Some a

-- A probe timeout is doubled each time that it expires without an answer (RFC 9002, section 6.2.1); here at most 16 times.
unfoldable pub backed_off : (duration count : ℕ) → ℕ
backed_off duration count = times duration (2 ^ min count 16)

-- The probe timeout of a space: the smoothed round trip time and four times its variation, 1 ms at least, and in Data the time
-- for which the peer may hold its ACK back (RFC 9002, section 6.2.1).
unfoldable pub probe_timeout : SpaceId → Around → Rtt → ℕ
probe_timeout id around rtt = plus (probe_base rtt) (if is_data id then around.max_ack_delay else 0)

-- a time, if there is one, with its space
abbrev pub timed : SpaceId → Option ℕ → Option (ℕ × SpaceId)
timed id None = None
timed id (Some time) = Some (time, id)

-- a time, if there is one, and a duration after it
abbrev pub later_by : ℕ → Option ℕ → Option ℕ
later_by duration None = None
later_by duration (Some time) = Some (plus time duration)

-- A space with packets that count as in flight is probed a probe timeout after its last packet that elicits an ACK was sent
-- (RFC 9002, section 6.2.1 and appendix A.8).
unfoldable pub probe_in : SpaceId → Around → Rtt → ℕ → SpaceRecovery → Option (ℕ × SpaceId)
probe_in id around rtt count s =
    if counted_of s.flight == 0 then None
    else timed id (later_by (backed_off (probe_timeout id around rtt) count) s.eliciting_at)

-- The earliest of these. Data counts only after the handshake is over: before it the peer may not be able to acknowledge
-- (RFC 9002, section 6.2.1).
unfoldable pub probe_first : Around → Rtt → Recovery → Option (ℕ × SpaceId)
probe_first around rtt r =
    sooner (sooner (probe_in Initial around rtt r.count r.initial) (probe_in Handshake around rtt r.count r.handshake))
    (if around.handshake_over then probe_in Data around rtt r.count r.application else None)

-- the space of the Handshake packets
abbrev pub is_handshake : SpaceId → Bool
is_handshake Handshake = true
is_handshake _ = false

-- A client that has nothing to be acknowledged and whose address may not be validated probes, lest both ends wait: in Handshake
-- where that is its highest space, else in Initial, from now on (RFC 9002, section 6.2.2.1). Without keys there is no probe.
unfoldable pub probe_of_nothing : ℕ → Around → Rtt → Recovery → Option (ℕ × SpaceId)
probe_of_nothing now around rtt r =
    if is_handshake around.highest then (if around.handshake_keys then Some (plus now (backed_off (probe_base rtt) r.count), Handshake) else None)
    else (if around.initial_keys then Some (plus now (backed_off (probe_base rtt) r.count), Initial) else None)

-- nothing that elicits an ACK is in flight
unfoldable pub is_quiet : Recovery → Bool
is_quiet r = (eliciting_of r.initial.flight == 0) && (eliciting_of r.handshake.flight == 0) && (eliciting_of r.application.flight == 0)

-- the earliest time at which a packet is lost for its age, and its space
unfoldable pub loss_first : Recovery → Option (ℕ × SpaceId)
loss_first r =
    sooner (sooner (timed Initial r.initial.loss_time) (timed Handshake r.handshake.loss_time)) (timed Data r.application.loss_time)

-- The lines behind the first, in their order: a blocked end can't send a probe; an end with nothing to be acknowledged, whose
-- address the peer has validated, has nothing to probe for; without such a validation it probes; else the earliest probe
-- timeout counts (RFC 9002, sections 6.2.1 and 6.2.2.1, appendix A.8).
unfoldable pub probe_line : ℕ → Around → Rtt → Recovery → Option (ℕ × SpaceId)
probe_line now around rtt r =
    if around.blocked then None
    else if is_quiet r && around.peer_validated then None
    else if is_quiet r then probe_of_nothing now around rtt r
    else probe_first around rtt r

-- the first one that is there
abbrev pub first_that_holds : Option (ℕ × SpaceId) → Option (ℕ × SpaceId) → Option (ℕ × SpaceId)
first_that_holds None b = b
first_that_holds (Some a) b = Some a

-- the time without its space
abbrev pub time_of : Option (ℕ × SpaceId) → Option ℕ
time_of None = None
time_of (Some a) = Some a.0

-- The time of the loss timer: the earliest loss time where there is one, else that of the first line which holds (RFC 9002,
-- appendix A.8).
unfoldable pub armed_at : ℕ → Around → Rtt → Recovery → Option ℕ
armed_at now around rtt r = time_of (first_that_holds (loss_first r) (probe_line now around rtt r))

-- the peer sent an ACK in the space
abbrev pub was_acknowledged : SpaceId → Recovery → Bool
was_acknowledged id r = is_some (space_of id r).greatest

-- one of these elicits an ACK
abbrev pub has_eliciting : List Entry → Bool
has_eliciting es = list_any (λ e. e.1.ack_eliciting) es

-- A space whose keys are dropped has nothing in flight any more, and none of its times counts (RFC 9002, section 6.4 and
-- appendix A.11).
unfoldable pub space_dropped : SpaceRecovery → SpaceRecovery
space_dropped s = record s { flight = []; eliciting_at = None; loss_time = None }

-- what a call on one space leaves
pub record SpaceAfter (C : Type 0) : Type 0 where
  pub space : SpaceRecovery
  pub path : PathData C
  pub acked : List Entry
  pub lost : List Entry

-- these four values as what a call on one space leaves
abbrev pub space_with : {C : Type 0} → SpaceRecovery → PathData C → (acked lost : List Entry) → SpaceAfter C
space_with s p acked lost = record { space = s; path = p; acked = acked; lost = lost }

-- what a call leaves
pub record After (C : Type 0) : Type 0 where
  pub recovery : Recovery
  pub path : PathData C
  pub acked : List Entry
  pub lost : List Entry

-- these four values as what a call leaves
abbrev pub after_with : {C : Type 0} → Recovery → PathData C → (acked lost : List Entry) → After C
after_with r p acked lost = record { recovery = r; path = p; acked = acked; lost = lost }

-- what the timer leaves
pub record FiredAfter (C : Type 0) : Type 0 where
  pub recovery : Recovery
  pub path : PathData C
  pub fired : Fired

-- these three values as what the timer leaves
abbrev pub fired_with : {C : Type 0} → Recovery → PathData C → Fired → FiredAfter C
fired_with r p f = record { recovery = r; path = p; fired = f }

-- How often the timer fired without an answer: an acknowledgement ends that, unless this end doesn't know whether the peer has
-- validated its address (RFC 9002, section 6.2.1).
abbrev pub count_after : Around → List Entry → ℕ → ℕ
count_after around acked count = if around.peer_validated && not (length acked == 0) then 0 else count

-- an ACK in a space
abbrev pub occasion : ℕ → SpaceId → (next began : ℕ) → Recovery → Occasion
occasion now id next began r = record { time = now; space = id; next = next; began = began; others = other_bytes id r }

-- Two probes are due where something may be lost, so that one lost datagram costs no further timeout; else one (RFC 9002,
-- section 6.2.4).
abbrev pub probes_of : Recovery → ℕ
probes_of r = if is_quiet r then 1 else 2

module _ {C : Type 0} where
  -- ---- an ACK

  -- a sample is taken, where one is to be
  abbrev pub sampled_if : Bool → Occasion → (delay at : ℕ) → PathData C → PathData C
  sampled_if true o delay at p = sample_taken o.time o.space o.next delay at p
  sampled_if false o delay at p = p

  -- the path is told of the packets acknowledged, and takes a sample where the ACK raises the greatest number and one of
  -- the packets elicits an ACK
  unfoldable pub path_acked : Control C → Occasion → AckValues → Around → Bool → List Entry → SpaceRecovery → PathData C → PathData C
  path_acked m o a around raises acked s p =
      sampled_if (raises && has_eliciting acked) o (held_back o.space around a.delay) (unwrap_or s.kept_at o.began)
      (end_told m o.time (plus o.others (space_bytes s)) around.app_limited s.greatest (acks_told m o.time o.space around.app_limited acked p))

  -- the path is told of the packets that an ACK shows to be lost
  unfoldable pub path_lost : Control C → Limits → Occasion → Around → List Entry → PathData C → PathData C
  path_lost m l o around lost p = losses_told m o.time o.space (is_persistent_in l o.space around.max_ack_delay lost p) lost p

  -- the counts of the ACK are looked at
  unfoldable pub marks_read : Control C → Occasion → AckValues → Bool → (acked lost : List Entry) → SpaceRecovery → PathData C → SpaceAfter C
  marks_read m o a raises acked lost s p =
      space_with (record s { counts = counts_kept (ecn_shown p.sending_ecn raises s.counts a.ecn (length acked)) s.counts a.ecn })
      (ecn_told m o.time (unwrap_or s.kept_at o.began) (ecn_shown p.sending_ecn raises s.counts a.ecn (length acked)) p) acked lost

  -- loss is looked for below the greatest number acknowledged
  unfoldable pub losses_found : Control C → Limits → Occasion → AckValues → Around → Bool → ℕ → List Entry → SpaceRecovery → PathData C → SpaceAfter C
  losses_found m l o a around raises largest acked s p =
      marks_read m o a raises acked (lost_of l o.time (loss_delay l p.rtt) largest s) (space_less l o.time (loss_delay l p.rtt) largest s)
      (path_lost m l o around (lost_of l o.time (loss_delay l p.rtt) largest s) p)

  -- An ACK that newly acknowledges nothing only raises the greatest number, and its counts are looked at. Else the packets
  -- that it acknowledges are told, loss is looked for, and then the counts are looked at (RFC 9002, appendix A.7).
  unfoldable pub space_after : Control C → Limits → Occasion → AckValues → List NumberRange → Around → SpaceRecovery → PathData C → SpaceAfter C
  space_after m l o a ranges around s p =
      if length (acked_of ranges s) == 0 then marks_read m o a (exceeds s.greatest a.largest) [] [] (space_acked a.largest ranges s) p
      else losses_found m l o a around (exceeds s.greatest a.largest) (limit_with s.greatest a.largest) (acked_of ranges s) (space_acked a.largest ranges s)
      (path_acked m o a around (exceeds s.greatest a.largest) (acked_of ranges s) (space_acked a.largest ranges s) p)

  -- the space put back among the others, and the count
  abbrev pub placed : SpaceId → Recovery → SpaceAfter C → After C
  placed id r q = after_with (with_space id q.space r) q.path q.acked q.lost

  -- the count falls where that call acknowledged a packet
  abbrev pub counted : Around → After C → After C
  counted around a = record a { recovery = record a.recovery { count = count_after around a.acked a.recovery.count } }

  -- what an ACK leaves
  unfoldable pub ack_after : Control C → ℕ → SpaceId → (next began : ℕ) → AckValues → List NumberRange → Around → Recovery → PathData C → After C
  ack_after m now id next began a ranges around r p =
      counted around (placed id r (space_after m r.limits (occasion now id next began r) a ranges around (space_of id r) p))

  -- ---- the timer

  -- packets of a space are lost for their age
  unfoldable pub space_timed : Control C → Limits → ℕ → SpaceId → SpaceRecovery → PathData C → SpaceAfter C
  space_timed m l now id s p =
      space_with (space_less l now (loss_delay l p.rtt) (unwrap_or s.greatest 0) s)
      (losses_told m now id false (lost_of l now (loss_delay l p.rtt) (unwrap_or s.greatest 0) s) p)
      [] (lost_of l now (loss_delay l p.rtt) (unwrap_or s.greatest 0) s)

  -- the timer found these packets lost
  abbrev pub losses_fired : SpaceId → Recovery → SpaceAfter C → FiredAfter C
  losses_fired id r q = fired_with (with_space id q.space r) q.path (fired.Lost id q.lost)

  -- the timer makes probes due, where a line behind the first holds
  abbrev pub probe_fired : Option (ℕ × SpaceId) → Recovery → PathData C → FiredAfter C
  probe_fired None r p = fired_with r p fired.Nothing
  probe_fired (Some due) r p = fired_with (record r { count = plus r.count 1 }) p (fired.Probe due.1 (probes_of r))

  -- the earliest loss time counts first, else the lines behind it
  abbrev pub timeout_by : Control C → ℕ → Around → Option (ℕ × SpaceId) → Recovery → PathData C → FiredAfter C
  timeout_by m now around None r p = probe_fired (probe_line now around p.rtt r) r p
  timeout_by m now around (Some loss) r p = losses_fired loss.1 r (space_timed m r.limits now loss.1 (space_of loss.1 r) p)

  -- the timer fires: the first line that holds as it does decides
  unfoldable pub timeout_after : Control C → ℕ → Around → Recovery → PathData C → FiredAfter C
  timeout_after m now around r p = timeout_by m now around (loss_first r) r p

  -- ---- a dropped space

  -- where Data is dropped, the probe in flight is forgotten
  unfoldable pub path_dropped : SpaceId → PathData C → PathData C
  path_dropped id p = if is_data id then record p { mtud = mtu_forgotten p.mtud } else p

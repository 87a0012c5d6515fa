-- Loss recovery as the fold of its own steps: over moves, and over whole runs (RFC 9002).
use Rattle.std.specs.Prelude.{◌≡◌, ◌⊎◌, ℕ, min, ◌&&◌, Bool, true, false, if◌then◌else◌, List, [], ◌∷◌, ◌++◌, IsPermutation}
use Rattle.std.specs.List.{list_any}
use Rattle.qc_base.specs.declared.side.SpaceId.{SpaceId}
use Rattle.qc_base.specs.declared.side.SpaceId.TheVariants.{Initial}
use Rattle.qc_flight.specs.Packets.{Entry, has_number}
use Rattle.qc_flight.specs.declared.sent.SentPacket.{SentPacket}
use Rattle.qc_frame.specs.AckRanges.{Acknowledges}
use Rattle.qc_frame.specs.Frame.{AckValue, FrameValue}
use Rattle.qc_frame.specs.FrameSpelling.{elicits, spelling}
use Rattle.qc_frame.specs.declared.frames.FrameOf.TheVariants as frames
use Rattle.qc_path.specs.Mtu.{peer_known, probe_sent}
use Rattle.qc_path.specs.Pacing.{Bucket, packet_paced}
use Rattle.qc_path.specs.declared.controller.Controller.{Ghosts as Control}
use Rattle.qc_recovery.specs.Calls.{dropped_after}
use Rattle.qc_recovery.specs.Frames.{ranges_up_of, values_of}
use Rattle.qc_recovery.specs.Runs.{in_space}
use Rattle.qc_recovery.specs.Steps.{After, FiredAfter, ack_after, path_dropped, sent_after, timeout_after}
use Rattle.qc_recovery.specs.Steps as recovery
use Rattle.qc_recovery.specs.declared.calls.Around.{Around}
use Rattle.qc_recovery.specs.declared.path.PathData.{PathData}
use Rattle.qc_recovery.specs.declared.recovery.Recovery.{Recovery}
use Rattle.qc_state.specs.declared.deeds.Did.{Did}
use Rattle.qc_state.specs.declared.deeds.Did.TheVariants as did
use Rattle.qc_state.specs.declared.deeds.Layer.TheVariants as layer
use Rattle.qc_state.specs.declared.deeds.Verdict.{Verdict}
use Rattle.qc_state.specs.declared.deeds.Verdict.TheVariants as verdict
use Rattle.qc_state.specs.Flight.{counts_in_flight, flown_packet, kept_frames, metas_of}
use Rattle.qc_state.specs.Forms.{number_space}
use Rattle.qc_state.specs.Moves.{Move, Finish, Fire, Forget, Learn, Probe, Renew, Seal, Spend, is_close}
use Rattle.qc_state.specs.Sending.{path_rate}
use Rattle.qc_state.specs.Spaces.{is_space}
use Rattle.qc_state.specs.Types.{Types, Meaning}
use Rattle.qc_state.specs.View.{View}
use Rattle.qc_laws.specs.StreamLaws.{is_of}

-- ---- recovery's steps

-- what recovery keeps: of the packets, and of the path
pub record Kept (C : Type 0) : Type 0 where
  pub recovery : Recovery
  pub path : PathData C

-- a step of recovery: a packet is in flight from then on, an ACK came, the loss timer fired, the keys of a space were dropped, the pacer
-- spent tokens, the controller was told what was sent, the peer's greatest datagrams are known, or a probe of the path's size was sent; of an ACK and
-- of the timer, of the pacer and of the controller what they leave
pub data RecoveryStep (C : Type 0) : Type 0 where
  Sent : (space : SpaceId) → (number : ℕ) → (packet : SentPacket) → RecoveryStep C
  Settled : (space : SpaceId) → (ack : AckValue) → (after : After C) → RecoveryStep C
  Fired : (after : FiredAfter C) → RecoveryStep C
  Dropped : (space : SpaceId) → RecoveryStep C
  Spent : (tokens : Bucket) → RecoveryStep C
  Told : (control : C) → RecoveryStep C
  Capped : (size : ℕ) → RecoveryStep C
  Probed : (time number : ℕ) → RecoveryStep C

module _ {C : Type 0} where
  -- what a step leaves
  unfoldable pub step_after : RecoveryStep C → Kept C → Kept C
  step_after (Sent space number packet) k = record k { recovery = sent_after space number packet k.recovery }
  step_after (Settled space ack after) k = record { recovery = after.recovery; path = after.path }
  step_after (Fired after) k = record { recovery = after.recovery; path = after.path }
  step_after (Dropped space) k = record { recovery = dropped_after space k.recovery; path = path_dropped space k.path }
  step_after (Spent tokens) k = record k { path = record k.path { pacing = tokens } }
  step_after (Told control) k = record k { path = record k.path { congestion = control } }
  step_after (Capped size) k = record k { path = record k.path { mtud = peer_known size k.path.mtud } }
  step_after (Probed time number) k = record k { path = record k.path { mtud = probe_sent time number k.path.mtud } }

  -- what steps leave, one after the other
  abbrev pub steps_after : List (RecoveryStep C) → Kept C → Kept C
  steps_after [] k = k
  steps_after (x ∷ xs) k = steps_after xs (step_after x k)

  -- an ACK leaves what recovery makes of it (RFC 9002, appendix A.7), and each packet that it shows to be acknowledged has a number that it
  -- acknowledges (RFC 9000, section 19.3)
  pub record IsSettling (m : Control C) (space : SpaceId) (ack : AckValue) (after : After C) (k : Kept C) : Type 0 where
    pub now : ℕ
    pub next : ℕ
    pub began : ℕ
    pub around : Around
    pub is : after ≡ ack_after m now space next began (values_of ack) (ranges_up_of ack) around k.recovery k.path
    pub named : (n : ℕ) → has_number n after.acked ≡ true → Acknowledges ack n

  -- the loss timer leaves what recovery makes of it (RFC 9002, appendix A.9)
  pub record IsFiring (m : Control C) (after : FiredAfter C) (k : Kept C) : Type 0 where
    pub now : ℕ
    pub around : Around
    pub is : after ≡ timeout_after m now around k.recovery k.path

  -- the pacer is left with what a packet of some size leaves at the path's rate (RFC 9002, section 7.7)
  pub record IsSpent (m : Control C) (tokens : Bucket) (k : Kept C) : Type 0 where
    pub now : ℕ
    pub size : ℕ
    pub is : tokens ≡ packet_paced now (path_rate m k.path) size k.path.pacing

  -- the controller is left as it is once it is told that so many bytes were sent, the last packet with this number
  pub record IsToldSent (m : Control C) (control : C) (k : Kept C) : Type 0 where
    pub now : ℕ
    pub bytes : ℕ
    pub last : ℕ
    pub is : control ≡ m.after_sent k.path.congestion now bytes last

  -- a step may be made
  abbrev pub MayStep : Control C → RecoveryStep C → Kept C → Type 0
  MayStep m (Sent space number packet) k = Unit {0}
  MayStep m (Settled space ack after) k = IsSettling m space ack after k
  MayStep m (Fired after) k = IsFiring m after k
  MayStep m (Dropped space) k = Unit {0}
  MayStep m (Spent tokens) k = IsSpent m tokens k
  MayStep m (Told control) k = IsToldSent m control k
  MayStep m (Capped size) k = Unit {0}
  MayStep m (Probed time number) k = Unit {0}

  -- each step may be made as its turn comes
  abbrev pub AllMay : Control C → List (RecoveryStep C) → Kept C → Type 0
  AllMay m [] k = Unit {0}
  AllMay m (x ∷ xs) k = MayStep m x k × AllMay m xs (step_after x k)

  -- the packets of a space that steps put in flight, in order
  abbrev pub sent_in : SpaceId → List (RecoveryStep C) → List Entry
  sent_in id [] = []
  sent_in id (Sent space number packet ∷ xs) = in_space id space ((number, packet) ∷ []) ++ sent_in id xs
  sent_in id (Settled space ack after ∷ xs) = sent_in id xs
  sent_in id (Fired after ∷ xs) = sent_in id xs
  sent_in id (Dropped space ∷ xs) = sent_in id xs
  sent_in id (Spent tokens ∷ xs) = sent_in id xs
  sent_in id (Told control ∷ xs) = sent_in id xs
  sent_in id (Capped size ∷ xs) = sent_in id xs
  sent_in id (Probed time number ∷ xs) = sent_in id xs

module _ {C : Type 0} where
  -- the packets of a space that steps acknowledged, in order
  abbrev pub acked_in : SpaceId → List (RecoveryStep C) → List Entry
  acked_in id [] = []
  acked_in id (Settled space ack after ∷ xs) = in_space id space after.acked ++ acked_in id xs
  acked_in id (Sent space number packet ∷ xs) = acked_in id xs
  acked_in id (Fired after ∷ xs) = acked_in id xs
  acked_in id (Dropped space ∷ xs) = acked_in id xs
  acked_in id (Spent tokens ∷ xs) = acked_in id xs
  acked_in id (Told control ∷ xs) = acked_in id xs
  acked_in id (Capped size ∷ xs) = acked_in id xs
  acked_in id (Probed time number ∷ xs) = acked_in id xs

  -- the ACKs of a space by which steps settle, in order, as they are spelled
  abbrev pub acks_in : SpaceId → List (RecoveryStep C) → List (List ℕ)
  acks_in id [] = []
  acks_in id (Settled space ack after ∷ xs) = (if is_space id space then spelling (frames.Ack ack) ∷ [] else []) ++ acks_in id xs
  acks_in id (Sent space number packet ∷ xs) = acks_in id xs
  acks_in id (Fired after ∷ xs) = acks_in id xs
  acks_in id (Dropped space ∷ xs) = acks_in id xs
  acks_in id (Spent tokens ∷ xs) = acks_in id xs
  acks_in id (Told control ∷ xs) = acks_in id xs
  acks_in id (Capped size ∷ xs) = acks_in id xs
  acks_in id (Probed time number ∷ xs) = acks_in id xs

-- ---- which steps a move is

module _ {t : Types} where
  -- what recovery keeps of a connection: of the packets, and of the path in use
  abbrev pub kept : View t → Kept t.C
  kept s = record { recovery = s.lower.recovery; path = s.paths.current.kept }

  -- which of recovery's steps a move is; that of an ACK comes with the deed that tells of it
  unfoldable pub steps_of : Move t → View t → List (RecoveryStep t.C)
  steps_of (Seal time form n size fs) s = if s.waiting.close_owed then [] else Sent (number_space form) n (flown_packet time size fs) ∷ []
  steps_of (Forget id) s = Dropped id ∷ []
  steps_of (Renew time cid token keys) s = Dropped Initial ∷ []
  steps_of (Fire after) s = Fired after ∷ []
  steps_of (Spend tokens) s = Spent tokens ∷ []
  steps_of (Finish bytes control) s = Told control ∷ []
  steps_of (Learn parameters) s = Capped (min parameters.max_udp_payload_size 65527) ∷ []
  steps_of (Probe time number bytes quiet) s = Probed time number ∷ []
  steps_of _ s = []

-- ---- what is sealed is in flight

-- what is kept in flight of a packet with these frames: those that are sent again where it is lost, and which numbers an ACK
-- acknowledged; of its STREAM frames, which bytes they hold; whether it counts as in flight, and whether it elicits an ACK (RFC 9002,
-- section 2)
pub record IsKeptOf (fs : List FrameValue) (packet : SentPacket) : Type 0 where
  pub frames : packet.frames ≡ kept_frames fs
  pub streams : packet.stream_frames ≡ metas_of fs
  pub counted : packet.counted ≡ counts_in_flight fs
  pub eliciting : packet.ack_eliciting ≡ list_any elicits fs

-- a packet that was sealed is in flight, unless it holds a close
abbrev pub IsFlown : (number : ℕ) → List FrameValue → List Entry → Type 0
IsFlown n fs es = ((packet : SentPacket) × (es ≡ (n, packet) ∷ []) × IsKeptOf fs packet) ⊎ ((es ≡ []) × (list_any is_close fs ≡ true))

-- these are the packets in flight of those that deeds sealed in a space, in order
abbrev pub AreFlown : SpaceId → List Did → List Entry → Type 0
AreFlown id [] es = es ≡ []
AreFlown id (did.Sealed space n epoch early fs ∷ ds) es =
    (front : List Entry) × (rest : List Entry) × (es ≡ in_space id space front ++ rest) × IsFlown n fs front × AreFlown id ds rest
AreFlown id (_ ∷ ds) es = AreFlown id ds es

-- ---- what settles came

-- a packet that came was admitted
abbrev pub is_admitted : Verdict → Bool
is_admitted verdict.Admitted = true
is_admitted _ = false

-- what deeds give to recovery in admitted packets of a space, in order: that is, behind a packet that came and before the next one; `now`
-- says whether the packet before these deeds was such a one
abbrev pub given_to_recovery : SpaceId → (now : Bool) → List Did → List (List ℕ)
given_to_recovery id now [] = []
given_to_recovery id now (did.Piece space number v ∷ ds) = given_to_recovery id (is_admitted v && is_of id space) ds
given_to_recovery id now (did.Gave layer.Recovery body ∷ ds) = (if now then body ∷ [] else []) ++ given_to_recovery id now ds
given_to_recovery id now (_ ∷ ds) = given_to_recovery id now ds

module _ {t : Types} where
  -- From one view to another, between which these deeds were done, recovery made steps: each of them may be made as its turn comes, and
  -- what recovery keeps is what they leave. The packets that they put in flight in a space are those that the deeds sealed
  -- there, but for closes; and the ACKs by which they settle there are those that the deeds give to recovery in admitted packets of the
  -- space, in order, none left out and none made up. So whatever holds over any calls of recovery holds over these.
  pub record Recovers (m : Meaning t) (ds : List Did) (s s' : View t) : Type 0 where
    pub steps : List (RecoveryStep t.C)
    pub may : AllMay m.control steps (kept s)
    pub leads : kept s' ≡ steps_after steps (kept s)
    pub sent : (id : SpaceId) → AreFlown id ds (sent_in id steps)
    pub heard : (id : SpaceId) → acks_in id steps ≡ given_to_recovery id false ds

-- Of a space, with these packets in flight before and those behind: each that was in flight, or was sealed there since and holds no close,
-- was acknowledged, or lost, or left with the space as its keys were dropped or as a Retry had it begin anew, or is in flight, and that once.
pub record SettlesOnce (id : SpaceId) (ds : List Did) (before after : List Entry) : Type 0 where
  pub sealed : List Entry
  pub acked : List Entry
  pub lost : List Entry
  pub dropped : List Entry
  pub flown : AreFlown id ds sealed
  pub once : IsPermutation (before ++ sealed) (acked ++ (lost ++ (dropped ++ after)))

module _ {t : Types} where
  -- so it is in each space
  unfoldable pub EachSettlesOnce : List Did → View t → View t → Type 0
  EachSettlesOnce ds s s' = (id : SpaceId) → SettlesOnce id ds (recovery.space_of id s.lower.recovery).flight (recovery.space_of id s'.lower.recovery).flight

-- What a transmit may send, and what it leaves: a list of packets, each a step of what is carried along, and an ending. Which packets
-- there are, in which datagrams, and which of the waiting frames each carries, is free; all else is a function of that choice.
use Rattle.std.specs.Prelude.{is_some, option_map, ◌≡◌, ℕ, ◌+◌, ◌-◌, ◌<◌, ◌≤◌, ◌^◌, ◌==◌, ◌⊎◌, Bool, true, false, ◌||◌, ◌&&◌, not, nat_lt, nat_le, if◌then◌else◌, List, [], ◌∷◌, ◌++◌, length, replicate, Option, Some, None, Result}
use Rattle.std.specs.List.{list_any}
use Rattle.qc_base.specs.declared.ecn.EcnCodepoint.TheVariants.{Ect0}
use Rattle.qc_base.specs.declared.side.LongType.TheVariants as long
use Rattle.qc_base.specs.declared.side.Side.TheVariants.{Client, Server}
use Rattle.qc_base.specs.declared.side.SpaceId.{SpaceId}
use Rattle.qc_base.specs.declared.side.SpaceId.TheVariants.{Initial, Handshake, «Data»}
use Rattle.qc_base.specs.declared.side.Side.{Side}
use Rattle.qc_base.specs.PacketNumber.{number_of}
use Rattle.qc_base.specs.Time.{plus}
use Rattle.qc_frame.specs.Frame.{FrameValue}
use Rattle.qc_frame.specs.FrameSpelling.{elicits, frames_spelling}
use Rattle.qc_frame.specs.declared.frames.FrameOf.TheVariants as frames
use Rattle.qc_frame.specs.Sizes.{IsLongestReason}
use Rattle.qc_header.specs.HeaderSpelling.{header_spelling}
use Rattle.qc_header.specs.declared.header.Header.{Header}
use Rattle.qc_header.specs.declared.header.Header.TheVariants as header
use Rattle.qc_packet.specs.declared.slot.Slot.{Slot}
use Rattle.qc_packet.specs.Building.{min_size_of}
use Rattle.qc_packet.specs.PacketSpelling.{sealed_packet}
use Rattle.qc_path.specs.Mtu.{probe_due}
use Rattle.qc_path.specs.Pacing.{pacing_delay, packet_paced, refilled}
use Rattle.qc_path.specs.RoundTrips.{estimate}
use Rattle.qc_path.specs.declared.controller.Controller.{Ghosts as Control}
use Rattle.qc_path.specs.declared.pacer.PathRate.{PathRate}
use Rattle.qc_recovery.specs.declared.path.PathData.{PathData}
use Rattle.qc_recovery.specs.Steps.{all_bytes}
use Rattle.qc_recv.specs.declared.recv.Chunk.{Chunk}
use Rattle.qc_streams.specs.declared.fault.ReadFault.{ReadFault}
use Rattle.qc_state.specs.declared.deeds.Quiet.{Quiet}
use Rattle.qc_state.specs.declared.deeds.Quiet.TheVariants.{NothingOwed, Silent, Amplification, Congestion, Pacing, Killed}
use Rattle.qc_state.specs.declared.form.Form.{Form}
use Rattle.qc_state.specs.declared.form.Form.TheVariants as form
use Rattle.qc_state.specs.declared.keys.KeyUse.{KeyUse}
use Rattle.qc_state.specs.declared.life.Close.{Close}
use Rattle.qc_state.specs.declared.life.Close.TheVariants.{Connection, Application}
use Rattle.qc_state.specs.declared.life.ConnectionError.{ConnectionError}
use Rattle.qc_state.specs.declared.life.ConnectionError.TheVariants as lost
use Rattle.qc_state.specs.declared.life.Life.{Life}
use Rattle.qc_state.specs.declared.transmit.Batch.{Batch}
use Rattle.qc_state.specs.declared.transmit.Transmit.{Transmit}
use Rattle.qc_state.specs.declared.transmit.TheConstants.{SPARE_ROOM}
use Rattle.qc_state.specs.Forms.{number_space}
use Rattle.qc_state.specs.Keys.{form_in, has_keys, has_keys_for, header_key, packet_key, phase_now, reaches_limit, usage_of}
use Rattle.qc_state.specs.Life.{is_established, is_open, is_closed, is_drained}
use Rattle.qc_state.specs.Acks.{AckPart, IsLongAck, is_ack, is_ack_owed, may_acknowledge}
use Rattle.qc_state.specs.Allowed.{WaitAll}
use Rattle.qc_state.specs.Batches.{batch_begun, next_segment, is_last_in, is_in_order, takes_another, is_done, wanted_by, is_closed_up, IsBehind, segment_of, batch_opened, widens, batch_grown}
use Rattle.qc_state.specs.Flight.{counts_in_flight}
use Rattle.qc_state.specs.Moves.{Begin, Skip, Seal, Take, Forget, Finish, Hold, Say, Spend, move_to, armed_with, state_move, Ask, Probe}
use Rattle.qc_state.specs.Numbers.{next_number, coming_number, is_skipped, acked_number}
use Rattle.qc_state.specs.Offers.{datagram_fits, datagram_waits, offers_in, path_size, waits_in, wants_sending}
use Rattle.qc_state.specs.Paths.{is_blocked_behind, held_size, least_on}
use Rattle.qc_state.specs.Spaces.{is_space, space_of}
use Rattle.qc_state.specs.Setup.{takes_grease}
use Rattle.qc_state.specs.Stopping.{key_limit_error, killed_after, stopped_after, violation_at}
use Rattle.qc_state.specs.Updating.{tried_after, tried_view}
use Rattle.qc_state.specs.Types.{TokenMaker, Types, Meaning}
use Rattle.qc_state.specs.View.{View, At, at}

-- INTERNAL_ERROR (RFC 9000, section 20.1), without the type of a frame
abbrev pub internal_error : ConnectionError
internal_error = lost.TransportError (record { code = 1; frame = None })

-- a close with this code and type of frame, without a reason in words
abbrev pub close_frame : ℕ → Option ℕ → FrameValue
close_frame code type = frames.ConnectionClose code type []

-- a code as a close tells it: INTERNAL_ERROR in place of one that has no room in its field (RFC 9000, section 16)
abbrev pub told_code : ℕ → ℕ
told_code code = if nat_lt code (2 ^ 62) then code else 0x01

-- the type of a frame as a close tells it: 0 stands for none, and so it does for one that has no room in its field
abbrev pub told_type : Option ℕ → Option ℕ
told_type None = None
told_type (Some type) = if (type == 0) || nat_le (2 ^ 62) type then None else Some type

-- the code of an application's close, as far as it has room in its field
abbrev pub told_application_code : ℕ → ℕ
told_application_code code = if nat_lt code (2 ^ 62) then code else 0

-- the application's close with so much of its reason, in a packet of this space: before the handshake is over the peer isn't
-- told what code and reason are, only that the application closed (APPLICATION_ERROR; RFC 9000, section 10.2.3)
abbrev pub application_close : SpaceId → (code : ℕ) → (kept : List ℕ) → FrameValue
application_close Initial code kept = close_frame 0x0c None
application_close Handshake code kept = close_frame 0x0c None
application_close Data code kept = frames.ApplicationClose (told_application_code code) kept

-- the close of this end, with so much of the application's reason
abbrev pub told_close : SpaceId → (kept : List ℕ) → Option Close → FrameValue
told_close id kept None = close_frame 0x00 None
told_close id kept (Some (Connection c)) = close_frame (told_code c.error_code) (told_type c.frame_type)
told_close id kept (Some (Application c)) = application_close id c.error_code kept

-- the close that is sent: this end's own, until the peer has closed too; then one without an error (RFC 9000, section 10.2.2)
abbrev pub closing_frame : SpaceId → (kept : List ℕ) → Life → FrameValue
closing_frame id kept v = if is_closed v.state then told_close id kept v.close else close_frame 0x00 None

-- the longest front of the application's reason with which its close has at most so many bytes
abbrev pub IsKeptReason : ℕ → (kept : List ℕ) → Option Close → Type 0
IsKeptReason room kept (Some (Application c)) = IsLongestReason (frames.ApplicationClose (told_application_code c.error_code)) c.reason room kept
IsKeptReason room kept _ = kept ≡ []

-- a packet of a transmit: its form, whether a datagram begins with it, and its frames
pub record Sent : Type 0 where
  pub form : Form
  pub opens : Bool
  pub frames : List FrameValue

-- how a transmit ends: what it sealed goes, and perhaps the pacer holds a further datagram back; or it seals nothing, for this cause, but
-- perhaps a probe of the path's size, of so many bytes; or the connection ends as a packet of this form was to begin, for this reason
pub data Ending : Type 0 where
  Went : Ending
  Held : Ending
  Hushed : (quiet : Quiet) → Ending
  Probed : (quiet : Quiet) → (size : ℕ) → Ending
  Died : (form : Form) → (why : ConnectionError) → Ending

-- what is free of an input: of a transmit the packets that it seals, one behind the other, and how it ends; of a read what it answers
pub record Choice : Type 0 where
  pub packets : List Sent
  pub ending : Ending
  pub read : Result (Option Chunk) ReadFault

-- what holds back a datagram that a packet of a space would begin, on a path that isn't blocked: nothing where no frame waits there that they
-- hold back, else the window, or the pacer
abbrev pub held_in : (eager congested paced : Bool) → Option Quiet
held_in false congested paced = None
held_in true true paced = Some Congestion
held_in true false true = Some Pacing
held_in true false false = None

-- why a transmit seals nothing of what is owed, on a path that isn't blocked: the window holds back all that is owed, or the pacer what is
-- owed first. `eager` says that in each space that owes something a frame waits that they hold back, and `first` that in the first one.
abbrev pub held_by : (congested eager paced first : Bool) → Option Quiet
held_by true true paced first = Some Congestion
held_by true false paced first = None
held_by false eager true true = Some Pacing
held_by false eager true false = None
held_by false eager false first = None

-- why a transmit seals nothing, where the connection goes on: the end came before, or no space owes anything, or the path is blocked, or the
-- datagram is held back; the first of these counts
abbrev pub quiet_by : (silent owes blocked : Bool) → (held : Option Quiet) → Option Quiet
quiet_by true owes blocked held = Some Silent
quiet_by false false blocked held = Some NothingOwed
quiet_by false true true held = Some Amplification
quiet_by false true false held = held

-- where the datagrams of a transmit go that ends so
abbrev pub sent_out : Ending → Transmit → Option Transmit
sent_out Went sent = Some sent
sent_out Held sent = Some sent
sent_out (Hushed quiet) sent = None
sent_out (Probed quiet size) sent = Some (record sent { size = size; segment_size = None })
sent_out (Died form why) sent = None

-- how many of these frames are PADDING
abbrev pub padding_in : List FrameValue → ℕ
padding_in [] = 0
padding_in (frames.Padding ∷ fs) = 1 + padding_in fs
padding_in (_ ∷ fs) = padding_in fs

-- how much of so much room these frames leave, PADDING aside
abbrev pub room_beside : (room : ℕ) → List FrameValue → ℕ
room_beside room fs = room + padding_in fs - length (frames_spelling fs)

-- how far a transmit has come: the view with the deeds so far, what is known of its datagrams, and their bytes
pub record Going (t : Types) : Type 0 where
  pub now : At t
  pub batch : Batch
  pub out : List ℕ

module _ {t : Types} where
  abbrev pub going : At t → Batch → List ℕ → Going t
  going a b out = record { now = a; batch = b; out = out }

-- how many bytes a transmit gives
abbrev pub sent_size : Option Transmit → ℕ
sent_size None = 0
sent_size (Some sent) = sent.size

-- A packet number lies so far above the greatest acknowledged one that no packet can spell it, or is the greatest of all
-- (RFC 9000, sections 12.3 and 17.1): the connection ends.
abbrev pub is_past_limit : (number acked : ℕ) → Bool
is_past_limit number acked = nat_le (2 ^ 62 - 1) number || nat_le (2 ^ 31) (number - acked)

-- with a Handshake packet that an end of this side seals, or accepts, it leaves the Initial space: a client as it seals one, and a
-- server as it accepts one (RFC 9001, section 4.9.1)
abbrev pub leaves_initial : (side : Side) → (end : Side) → SpaceId → Bool
leaves_initial Client Client Handshake = true
leaves_initial Server Server Handshake = true
leaves_initial _ _ _ = false

-- whether a packet fills a datagram: a client's Initial packet does, and a server's that elicits an acknowledgement (RFC 9000,
-- section 14.1)
abbrev pub fills : Side → SpaceId → (eliciting : Bool) → Bool
fills Client Initial eliciting = true
fills Server Initial eliciting = eliciting
fills _ _ eliciting = false

-- what the pace of a path follows from: its congestion window, its round trip time, and the size of its datagrams
abbrev pub path_rate : {C : Type 0} → Control C → PathData C → PathRate
path_rate m p = record { window = m.window_of p.congestion; rtt = estimate p.rtt; mtu = p.mtud.current }

module _ {t : Types} where
  -- nothing is sent: the connection has ended, or has closed and owes no close
  unfoldable pub is_silent : View t → Bool
  is_silent s = is_drained s.life.state || (not (is_open s.life.state) && not s.waiting.close_owed)

  -- a frame waits in a space that elicits an acknowledgement
  abbrev pub wants_in : View t → SpaceId → Bool
  wants_in s id = wants_sending s id || datagram_waits id s

  -- a space with keys owes what waits there. Behind a packet of its own it owes frames that elicit an acknowledgement alone: its ACK
  -- went with that packet, or had no room, and a probe alone begins no second one. In a transmit that began with a close owed, it owes one
  -- packet that tells it.
  unfoldable pub owes_in : Batch → View t → SpaceId → Bool
  owes_in b s id = has_keys s.keys id && (if b.closing then not (is_last_in b.space id) else if is_last_in b.space id then wants_in s id else waits_in s id)

  -- a frame waits in a space that elicits an acknowledgement, and no probe is due there: what goes in the space is held back by the window
  -- and the pacer (RFC 9002, sections 7 and 7.7), which hold no probe back, nor an ACK alone
  unfoldable pub is_eager : View t → SpaceId → Bool
  is_eager s id = wants_in s id && (space_of s.waiting.spaces id).probes == 0

  -- No more is in flight than the congestion window lets, probes and ACKs alone aside (RFC 9002, sections 7 and 7.5). With so many bytes more those
  -- in flight would reach the congestion window
  unfoldable pub is_congested : Meaning t → View t → ℕ → Bool
  is_congested m s bytes = nat_le (m.control.window_of s.paths.current.kept.congestion) (plus (all_bytes s.lower.recovery) bytes)

  -- what the pace of the path in use follows from
  unfoldable pub rate_of : Meaning t → View t → PathRate
  rate_of m s = path_rate m.control s.paths.current.kept

  -- A datagram that the pacer holds back goes at its timer (RFC 9002, section 7.7). Until when so many bytes are to wait for the pacer, at a time, if
  -- they are
  unfoldable pub paced_until : Meaning t → (time : ℕ) → View t → ℕ → Option ℕ
  paced_until m time s bytes = pacing_delay (rate_of m s) bytes (refilled time (rate_of m s) s.paths.current.kept.pacing)

  -- what holds back a datagram that a packet of this space would begin: the first limit that stands, if one does
  unfoldable pub limit_in : Meaning t → (time : ℕ) → View t → Batch → SpaceId → Option Quiet
  limit_in m time s b id =
      if is_blocked_behind s.paths b.total then Some Amplification
      else held_in (is_eager s id) (is_congested m s (next_segment b)) (is_some (paced_until m time s (next_segment b)))

  -- a space is passed over: it owes nothing, or the window holds back what goes there
  unfoldable pub is_passed : Meaning t → View t → Batch → SpaceId → Bool
  is_passed m s b id = not (owes_in b s id) || (is_eager s id && is_congested m s (next_segment b))

  -- each space before this one is passed over
  unfoldable pub is_first_in_turn : Meaning t → View t → Batch → SpaceId → Bool
  is_first_in_turn m s b Initial = true
  is_first_in_turn m s b Handshake = is_passed m s b Initial
  is_first_in_turn m s b Data = is_passed m s b Initial && is_passed m s b Handshake

  -- in each space that owes something a frame waits that the window holds back
  unfoldable pub all_eager : Batch → View t → Bool
  all_eager b s =
      (not (owes_in b s Initial) || is_eager s Initial) && ((not (owes_in b s Handshake) || is_eager s Handshake) && (not (owes_in b s Data) || is_eager s Data))

  -- in the first space that owes something one waits
  unfoldable pub first_eager : Batch → View t → Bool
  first_eager b s =
      if owes_in b s Initial then is_eager s Initial
      else if owes_in b s Handshake then is_eager s Handshake
      else is_eager s Data

  -- some space owes something
  unfoldable pub owes : Batch → View t → Bool
  owes b s = owes_in b s Initial || owes_in b s Handshake || owes_in b s Data

  -- the number of the space's next packet is past the limit
  unfoldable pub is_used_up : View t → SpaceId → Bool
  is_used_up s id = is_past_limit (coming_number s.numbers id) (acked_number s.numbers id)

  -- the key for packets of this form has sealed as many as it may (RFC 9001, section 6.6)
  unfoldable pub is_key_used_up : View t → Form → Bool
  is_key_used_up s form = reaches_limit 0 (usage_of s.keys form)

  -- so it will have with two packets more
  unfoldable pub is_key_nearly_used_up : View t → Form → Bool
  is_key_nearly_used_up s form = reaches_limit 2 (usage_of s.keys form)

  -- the spin bit of the next 1-RTT packet: the path's where this connection spins, else it is drawn (RFC 9000, section 17.4)
  unfoldable pub spin_now : View t → Bool
  spin_now s = if s.setup.fixed.spins then s.paths.spin else s.setup.drawn.spin

  -- whether the fixed bit of the next packet is flipped, which is drawn where the peer takes such packets (RFC 9287)
  unfoldable pub flips_now : View t → Bool
  flips_now s = takes_grease s.setup.peer && s.setup.drawn.flip

  -- the header of the next packet, of this form (RFC 9000, sections 17.2.2 to 17.2.4 and 17.3.1); a 1-RTT packet has the
  -- key phase of its keys' epoch
  abbrev pub header_in : View t → Form → Header
  header_in s form.Initial = header.Initial (record {
    dst_cid = s.paths.current.remote_cid;
    src_cid = s.setup.fixed.local_cid;
    token = s.setup.initial_token;
    number = number_of (next_number s.numbers Initial) (acked_number s.numbers Initial);
    version = s.setup.fixed.version;
  })
  header_in s form.Handshake =
      header.Long long.Handshake s.paths.current.remote_cid s.setup.fixed.local_cid (number_of (next_number s.numbers Handshake) (acked_number s.numbers Handshake))
      s.setup.fixed.version
  header_in s form.Early =
      header.Long long.ZeroRtt s.paths.current.remote_cid s.setup.fixed.local_cid (number_of (next_number s.numbers Data) (acked_number s.numbers Data)) s.setup.fixed.version
  header_in s form.OneRtt = header.Short (spin_now s) (phase_now s.keys) s.paths.current.remote_cid (number_of (next_number s.numbers Data) (acked_number s.numbers Data))

  -- what the builder is given of the next packet, of this form: its number and how far its key is used, where there are keys
  abbrev pub slot_with : View t → Form → KeyUse → Slot
  slot_with s form usage = record {
    space = number_space form;
    number = next_number s.numbers (number_space form);
    largest_acked = acked_number s.numbers (number_space form);
    sealed = usage.sealed;
    limit = usage.limit;
    flip = flips_now s;
  }

  -- how much room for frames a packet of this form has where so many bytes are left in its datagram: behind its header, and before
  -- its tag of 16 bytes
  unfoldable pub room_of : (left : ℕ) → View t → Form → ℕ
  room_of left s form = left - 16 - length (header_spelling (header_in s form) 0)

  -- how much it has in the open datagram of a batch
  unfoldable pub room_in : Batch → View t → Form → ℕ
  room_in b s form = room_of (b.capacity - b.filled) s form

  -- the token of an Initial packet leaves no room for the greatest close without a reason, which has 25 bytes, in a datagram of the
  -- size that it fills
  unfoldable pub is_token_too_long : Batch → View t → Form → Bool
  is_token_too_long b s f = is_space (number_space f) Initial && nat_lt (room_of b.least s form.Initial) 25

  -- why the connection ends as a packet of this form is about to begin: its key has sealed as many packets as it may, or the packet
  -- numbers are used up, or its token leaves no room for frames; none, where it may begin
  unfoldable pub kill_in : Batch → View t → Form → Option ConnectionError
  kill_in b s form =
      if is_key_used_up s form then Some (lost.TransportError key_limit_error)
      else if is_used_up s (number_space form) then Some internal_error
      else if is_token_too_long b s form then Some (lost.TransportError (violation_at None))
      else None

  -- why a transmit seals nothing with this view, where the connection goes on
  unfoldable pub quiet_of : Meaning t → (time : ℕ) → View t → Batch → Option Quiet
  quiet_of m time s b =
      quiet_by (is_silent s) (owes b s) (is_blocked_behind s.paths b.total)
      (held_by (is_congested m s (next_segment b)) (all_eager b s) (is_some (paced_until m time s (next_segment b))) (first_eager b s))

  -- how many bytes a packet of this form with these frames has
  unfoldable pub packet_size : View t → Form → List FrameValue → ℕ
  packet_size s form fs = length (header_spelling (header_in s form) 0) + length (frames_spelling fs) + 16

  -- whether a packet with these frames fills up its datagram
  unfoldable pub fills_up : View t → Form → List FrameValue → Bool
  fills_up s form fs = fills s.setup.fixed.side (number_space form) (list_any elicits fs)

  -- how many bytes a packet of this form has at least, whatever it carries (RFC 9001, section 5.4.2; RFC 9000, section 10.3)
  unfoldable pub least_size : View t → Form → ℕ
  least_size s form = min_size_of 0 (header_in s form) + 16

  -- A packet with these frames has its PADDING, by the batch once it is begun: so much that it has as many bytes as each packet is to have; and no
  -- more, but as its datagram is filled up, or as that gets the size of those before it, for which at most 16 bytes lack.
  pub record IsPadded (b : Batch) (s : View t) (form : Form) (fs : List FrameValue) : Type 0 where
    pub enough : least_size s form ≤ packet_size s form fs
    pub spare :
        (padding_in fs ≡ 0) ⊎ ((packet_size s form fs ≡ least_size s form) ⊎ ((b.filled + packet_size s form fs ≡ wanted_by (b.wide || widens b form) (b.fills || fills_up s form fs) b)
        ⊎ ((1 < b.made) × (padding_in fs ≤ 16) × (b.filled + packet_size s form fs ≡ b.segment))))

  -- a packet under the local keys, its fixed bit flipped or not; none without keys
  abbrev pub sealed_with : Meaning t → Option t.H → Option t.P → (flip : Bool) → Header → ℕ → List ℕ → List ℕ
  sealed_with m (Some h) (Some p) flip header number plain = sealed_packet (m.mask h) (m.seal p) flip header number plain
  sealed_with m h p flip header number plain = []

  -- the bytes of the next packet, of this form, with these frames
  unfoldable pub packet_bytes : Meaning t → View t → Form → List FrameValue → List ℕ
  packet_bytes m s form fs = sealed_with m (header_key s.keys form) (packet_key s.keys form) (flips_now s) (header_in s form) (next_number s.numbers (number_space form)) (frames_spelling fs)

  -- an ACK, if there is something to acknowledge and it leaves 25 bytes, and the close with the reason that fits behind it
  pub data Closes (time : ℕ) (s : View t) (id : SpaceId) (room : ℕ) (fs : List FrameValue) : Type 0 where
    closing : (acks : List FrameValue) → AckPart time (space_of s.waiting.spaces id) (room - 25) acks (may_acknowledge (space_of s.waiting.spaces id).acks) →
        (kept : List ℕ) → IsKeptReason (room - length (frames_spelling acks)) kept s.life.close → fs ≡ acks ++ closing_frame id kept s.life ∷ [] → Closes time s id room fs

  -- an ACK is all that is owed in a space, and has more bytes than there is room for behind the header, with its token
  pub record LacksAckRoom (time : ℕ) (s : View t) (id : SpaceId) (room : ℕ) : Type 0 where
    pub owed : is_ack_owed (space_of s.waiting.spaces id).acks ≡ true
    pub alone : wants_in s id ≡ false
    pub long : IsLongAck time (space_of s.waiting.spaces id) room

  -- these frames hold something that the space owed as their packet was begun: one that elicits an acknowledgement, or the ACK that was
  -- owed
  unfoldable pub holds_owed : View t → SpaceId → List FrameValue → Bool
  holds_owed s id fs = list_any elicits fs || (is_ack_owed (space_of s.waiting.spaces id).acks && list_any is_ack fs)

  -- the frames of a packet of this form with so much room at a time, and PADDING behind them: in a transmit that began with a close owed,
  -- the close alone; else each waits as its turn comes, where `maker` makes the tokens
  pub data Carries (maker : TokenMaker t) (closing : Bool) (time : ℕ) (s : View t) (form : Form) (room : ℕ) (fs : List FrameValue) : Type 0 where
    a_close : closing ≡ true → (gs : List FrameValue) (n : ℕ) → Closes time s (number_space form) room gs → fs ≡ gs ++ replicate n frames.Padding → Carries maker closing time s form room fs
    what_waits : closing ≡ false → (gs : List FrameValue) (n : ℕ) → WaitAll maker time s (number_space form) gs → fs ≡ gs ++ replicate n frames.Padding → Carries maker closing time s form room fs

  -- the number that would be next in a space is skipped, where it is to be
  unfoldable pub skipped_after : SpaceId → At t → At t
  skipped_after id a = if is_skipped a.state.numbers id then move_to Skip a else a

  -- a packet is begun, which has the space's next number from now on, and its own bits; a datagram begins with it, or it joins one
  unfoldable pub begun_after : SpaceId → (opens : Bool) → At t → At t
  begun_after id opens a = move_to (Begin id opens) (skipped_after id a)

  -- the view once it is begun
  unfoldable pub begun_view : View t → SpaceId → (opens : Bool) → View t
  begun_view s id opens = (begun_after id opens (at s [])).state

  -- what is known of the datagrams then
  unfoldable pub begun_batch : View t → SpaceId → (opens : Bool) → Batch → Batch
  begun_batch s id opens b = batch_opened opens (not ((space_of s.waiting.spaces id).probes == 0)) b

  -- it is the turn of this space: the connection has not ended, and is open, but in a transmit that began with a close owed; no key before
  -- is to seal the close as its last packet; the space owes something, and stands behind that of the last packet; and as the transmit begins,
  -- each space before it is passed over
  pub record HasTurn (m : Meaning t) (s : View t) (b : Batch) (id : SpaceId) : Type 0 where
    pub alive : is_drained s.life.state ≡ false
    pub unclosed : b.closing ≡ false → is_open s.life.state ≡ true
    pub spare : b.worn ≡ false
    pub owed : owes_in b s id ≡ true
    pub order : is_in_order b.space id ≡ true
    pub first : b.made ≡ 0 → is_first_in_turn m s b id ≡ true

  -- a packet of this space may begin a datagram at a time: there may be one more, which nothing holds back; and no packet need join the one
  -- before it, unless this one is an Initial packet
  pub record MayOpen (m : Meaning t) (time : ℕ) (s : View t) (b : Batch) (id : SpaceId) : Type 0 where
    pub few : b.made < b.most
    pub free : limit_in m time s b id ≡ None
    pub further : (is_done b || is_space id Initial) ≡ true

  -- it may begin one, or joins one
  abbrev pub MayStand : Meaning t → ℕ → View t → Batch → SpaceId → (opens : Bool) → Type 0
  MayStand m time s b id true = MayOpen m time s b id
  MayStand m time s b id false = takes_another b ≡ true

  -- a packet of this form may be begun at a time: it is the turn of its space, whose packets have this form now, there is a place for it, and
  -- it can begin
  pub record MayBegin (m : Meaning t) (time : ℕ) (s : View t) (b : Batch) (form : Form) (opens : Bool) : Type 0 where
    pub turn : HasTurn m s b (number_space form)
    pub now : form ≡ form_in s.keys (number_space form)
    pub place : MayStand m time s b (number_space form) opens
    pub behind : IsBehind b opens
    pub fresh : kill_in b s form ≡ None

  -- The size of the probe that is due at a time, if one is (RFC 8899, section 3; RFC 9000, section 14.4): the one that the search for a larger
  -- datagram names, once the handshake is over, to an address that is validated.
  unfoldable pub probe_size : (time : ℕ) → View t → Option ℕ
  probe_size time s =
      if is_established s.life.state && (s.paths.current.validated && has_keys_for s.keys form.OneRtt) then option_map held_size (probe_due time s.paths.current.kept.mtud)
      else None

  -- the frames of a probe of so many bytes: a PING, and PADDING up to them
  unfoldable pub probe_frames : View t → (size : ℕ) → List FrameValue
  probe_frames s size = frames.Ping ∷ replicate (size - packet_size s form.OneRtt (frames.Ping ∷ [])) frames.Padding

  -- a probe of the path's size is sealed, of so many bytes, by a transmit that would seal nothing for this cause: nothing holds it back, and a
  -- PING is all that it takes with it of what waits
  pub record MayProbe (m : Meaning t) (time : ℕ) (s : View t) (b : Batch) (quiet : Quiet) (size : ℕ) : Type 0 where
    pub none : b.made ≡ 0
    pub cause : quiet_of m time s b ≡ Some quiet
    pub due : probe_size time s ≡ Some size

  -- the connection ends for this reason as a packet of this form was to begin: it is the turn of a space, there is a place for its packet, and that
  -- can't begin
  pub record Dies (m : Meaning t) (time : ℕ) (s : View t) (b : Batch) (form : Form) (why : ConnectionError) : Type 0 where
    pub space : SpaceId
    pub opens : Bool
    pub turn : HasTurn m s b space
    pub place : MayStand m time s b space opens
    pub now : form ≡ form_in s.keys space
    pub kill : kill_in b s form ≡ Some why

  -- so it does where a probe of the path's size is due, and can't begin
  pub record DiesProbing (m : Meaning t) (time : ℕ) (s : View t) (b : Batch) (f : Form) (why : ConnectionError) : Type 0 where
    pub quiet : Quiet
    pub size : ℕ
    pub may : MayProbe m time s b quiet size
    pub now : f ≡ form.OneRtt
    pub kill : kill_in b s f ≡ Some why

  -- such an end drops the keys of its Initial space, if it has them still
  unfoldable pub drops_initial : Side → View t → SpaceId → Bool
  drops_initial side s id = leaves_initial side s.setup.fixed.side id && has_keys s.keys Initial

  -- the Initial space is left at a time with a packet of this space, where this end is of the side that leaves it so; `blocked`
  -- says that no datagram may be begun
  unfoldable pub initial_left : Side → (blocked : Bool) → (time : ℕ) → SpaceId → At t → At t
  initial_left side blocked time id a = if drops_initial side a.state id then armed_with blocked time (move_to (Forget Initial) a) else a

  -- a packet with these frames counts as in flight; none does that is sealed while a close is owed
  unfoldable pub is_flown : View t → List FrameValue → Bool
  is_flown s fs = not s.waiting.close_owed && counts_in_flight fs

  -- a packet of so many bytes that counts as in flight takes them out of the pacer's tokens
  unfoldable pub spent_after : Meaning t → (time size : ℕ) → At t → At t
  spent_after m time size a = move_to (Spend (packet_paced time (rate_of m a.state) size a.state.paths.current.kept.pacing)) a

  -- and the loss timer is set anew behind it; the packet's own bytes block nothing yet
  abbrev pub flown_after : Meaning t → (time size : ℕ) → Bool → At t → At t
  flown_after m time size counts a = if counts then armed_with false time (spent_after m time size a) else a

  -- a packet of this form is taken and sealed: its frames wait no longer, and its number is used
  unfoldable pub sealed_in : Meaning t → ℕ → Form → List FrameValue → At t → At t
  sealed_in m time form fs a =
      flown_after m time (packet_size a.state form fs) (is_flown a.state fs) (move_to (Seal time form (next_number a.state.numbers (number_space form)) (packet_size a.state form fs) fs) (move_to (Take (number_space form) fs) a))

  -- a packet is begun, taken and sealed: the steps in their order
  unfoldable pub packet_after : Meaning t → ℕ → Sent → Going t → Going t
  packet_after m time p g =
      let begun : At t = begun_after (number_space p.form) p.opens g.now in
      going (sealed_in m time p.form p.frames begun)
      (batch_grown p.form (next_number begun.state.numbers (number_space p.form)) (packet_size begun.state p.form p.frames) (padding_in p.frames) (fills_up begun.state p.form p.frames)
      (is_key_nearly_used_up g.now.state p.form) (begun_batch g.now.state (number_space p.form) p.opens g.batch))
      (g.out ++ packet_bytes m begun.state p.form p.frames)

  -- A packet of this form is about to begin: an update of its keys is tried. What may be sent, and whether it can begin, is asked by the view
  -- behind that (RFC 9001, section 6.6).
  abbrev pub going_tried : Meaning t → Form → Going t → Going t
  going_tried m form g = going (tried_after m form g.now) g.batch g.out

  -- packets, one behind the other
  abbrev pub packets_after : Meaning t → ℕ → List Sent → Going t → Going t
  packets_after m time [] g = g
  packets_after m time (p ∷ ps) g = packets_after m time ps (packet_after m time p (going_tried m p.form g))

  -- A packet may follow at a time, by the view and the batch before it: it may be begun, and carries what it may, among it something that its
  -- space owed, unless it is the first of the transmit, and only an ACK was owed that has no room. It is full: where its frames leave 64 bytes of
  -- its room or more, PADDING aside, none is left in its space that could go with it. Where a probe was due, one of them elicits an
  -- acknowledgement (RFC 9002, section 6.2.4), unless they leave too little room for one. It has the PADDING that it is to have, in a datagram of
  -- which it takes no more than there is, and which UDP can carry.
  pub record MayFollow (m : Meaning t) (time : ℕ) (s : View t) (b : Batch) (p : Sent) : Type 0 where
    pub begins : MayBegin m time s b p.form p.opens
    pub sized : (begun_batch s (number_space p.form) p.opens b).capacity ≤ 65527
    pub carries : Carries m.token b.closing time (begun_view s (number_space p.form) p.opens) p.form
        (room_in (begun_batch s (number_space p.form) p.opens b) (begun_view s (number_space p.form) p.opens) p.form) p.frames
    pub holds : b.closing ≡ false → (holds_owed (begun_view s (number_space p.form) p.opens) (number_space p.form) p.frames ≡ true)
        ⊎ ((b.made ≡ 0) × LacksAckRoom time (begun_view s (number_space p.form) p.opens) (number_space p.form)
        (room_in (begun_batch s (number_space p.form) p.opens b) (begun_view s (number_space p.form) p.opens) p.form))
    pub full : b.closing ≡ false → SPARE_ROOM ≤ room_beside (room_in (begun_batch s (number_space p.form) p.opens b) (begun_view s (number_space p.form) p.opens) p.form) p.frames →
        offers_in (state_move (Take (number_space p.form) p.frames) (begun_view s (number_space p.form) p.opens)) (number_space p.form) ≡ false
    pub probes : b.closing ≡ false → ((space_of s.waiting.spaces (number_space p.form)).probes == 0) ≡ false →
        (list_any elicits p.frames ≡ true) ⊎ (room_beside (room_in (begun_batch s (number_space p.form) p.opens b) (begun_view s (number_space p.form) p.opens) p.form) p.frames < SPARE_ROOM)
    pub padded : IsPadded (begun_batch s (number_space p.form) p.opens b) (begun_view s (number_space p.form) p.opens) p.form p.frames
    pub fits :
        (begun_batch s (number_space p.form) p.opens b).filled + packet_size (begun_view s (number_space p.form) p.opens) p.form p.frames ≤ (begun_batch s (number_space p.form) p.opens b).capacity

  -- each of these packets may follow those before it
  abbrev pub MayAll : Meaning t → ℕ → Going t → List Sent → Type 0
  MayAll m time g [] = Unit {0}
  MayAll m time g (p ∷ ps) =
      let tried : Going t = going_tried m p.form g in
      MayFollow m time tried.now.state g.batch p × MayAll m time (packet_after m time p tried) ps

  -- what a space owes has no room in a packet that would join the open datagram: it is an ACK, or a datagram of the application
  pub record LacksRoom (time : ℕ) (b : Batch) (s : View t) (id : SpaceId) : Type 0 where
    pub wants : wants_sending s id ≡ false
    pub probes : (space_of s.waiting.spaces id).probes ≡ 0
    pub ack : is_ack_owed (space_of s.waiting.spaces id).acks ≡ true → IsLongAck time (space_of s.waiting.spaces id) (room_in b (begun_view s id false) (form_in s.keys id))
    pub datagram : datagram_fits id (room_in b (begun_view s id false) (form_in s.keys id)) s ≡ false

  -- A transmit that sealed packets may end at a time: its last datagram is filled up where it is to be; and where it has one datagram alone, and
  -- a packet would have joined that, no space behind owes anything that has room, but where it closes, or is about to.
  pub record IsEnded (time : ℕ) (s : View t) (b : Batch) : Type 0 where
    pub some : 0 < b.made
    pub filled : is_closed_up b ≡ true
    pub none : b.made ≡ 1 → b.closing ≡ false → b.worn ≡ false → is_done b ≡ false → (id : SpaceId) → is_in_order b.space id ≡ true → is_last_in b.space id ≡ false →
        (owes_in b s id ≡ false) ⊎ LacksRoom time b s id

  -- the pacer holds back a further datagram, which a packet of some space would begin
  pub record IsHeld (m : Meaning t) (time : ℕ) (s : View t) (b : Batch) : Type 0 where
    pub space : SpaceId
    pub turn : HasTurn m s b space
    pub few : b.made < b.most
    pub held : limit_in m time s b space ≡ Some Pacing

  -- how a transmit may end, by the view and the batch behind its packets: with datagrams; or without one, for the cause that there is, where no
  -- probe of the path's size is due; or with that probe; or as a packet was to begin that can't. Behind an update that was tried for it
  abbrev pub MayEnd : Meaning t → (time : ℕ) → Ending → View t → Batch → Type 0
  MayEnd m time Went s b = IsEnded time s b
  MayEnd m time Held s b = IsEnded time s b × IsHeld m time s b
  MayEnd m time (Hushed quiet) s b = (b.made ≡ 0) × (quiet_of m time s b ≡ Some quiet) × (probe_size time s ≡ None)
  MayEnd m time (Probed quiet size) s b = MayProbe m time (tried_view m s form.OneRtt) b quiet size × (kill_in b (tried_view m s form.OneRtt) form.OneRtt ≡ None)
  MayEnd m time (Died form why) s b = Dies m time (tried_view m s form) b form why ⊎ DiesProbing m time (tried_view m s form) b form why

  -- a client that sealed a Handshake packet leaves the Initial space
  abbrev pub handshake_left : ℕ → (shook : Bool) → At t → At t
  handshake_left time shook a = if shook then initial_left Client false time Handshake a else a

  -- where the key of the last packet could seal only two packets more before it, and one now, this end closes, so that the close can
  -- be that one (RFC 9001, section 6.6)
  unfoldable pub spared_after : (time : ℕ) → (nearly : Bool) → At t → At t
  spared_after time nearly a = if nearly then stopped_after time key_limit_error a else a

  -- then its bytes go to the path's address, of which the controller is told
  unfoldable pub told_sent : Meaning t → ℕ → Batch → At t → At t
  told_sent m time b a = move_to (Finish b.total (m.control.after_sent a.state.paths.current.kept.congestion time b.total b.last)) a

  -- what a transmit does once, behind its packets
  unfoldable pub finished_after : Meaning t → ℕ → Batch → At t → At t
  finished_after m time b a = told_sent m time b (spared_after time b.worn (handshake_left time b.shook a))

  -- where the pacer holds a datagram back, the connection wants to be called when it may go
  unfoldable pub held_after : Meaning t → ℕ → Quiet → Batch → At t → At t
  held_after m time Pacing b a = move_to (Hold (paced_until m time a.state (next_segment b))) a
  held_after m time NothingOwed b a = a
  held_after m time Silent b a = a
  held_after m time Amplification b a = a
  held_after m time Congestion b a = a
  held_after m time Killed b a = a

  -- the view and deeds as a probe of the path's size is begun: a PING waits, and the packet has the next number of 1-RTT packets; a probe that is
  -- due for losses stays due
  unfoldable pub probe_begun_after : Meaning t → ℕ → Quiet → Batch → At t → At t
  probe_begun_after m time quiet b a = begun_after «Data» false (move_to (Ask «Data») (held_after m time quiet b a))

  -- that probe is taken and sealed, and the search waits for it
  unfoldable pub probe_sealed : Meaning t → (time size : ℕ) → Quiet → At t → At t
  probe_sealed m time size quiet a = move_to (Probe time (next_number a.state.numbers «Data») size quiet) (sealed_in m time form.OneRtt (probe_frames a.state size) a)

  -- then this end closes, where its key is nearly used up
  unfoldable pub probed_after : Meaning t → (time size : ℕ) → Quiet → Batch → At t → At t
  probed_after m time size quiet b a =
      let begun : At t = probe_begun_after m time quiet b a in
      spared_after time (is_key_nearly_used_up begun.state form.OneRtt) (probe_sealed m time size quiet begun)

  -- the bytes of that probe
  abbrev pub probe_bytes : Meaning t → (time size : ℕ) → Quiet → Batch → At t → List ℕ
  probe_bytes m time size quiet b a =
      let begun : At t = probe_begun_after m time quiet b a in packet_bytes m begun.state form.OneRtt (probe_frames begun.state size)

  -- the bytes of a transmit that ends so, behind its packets: those of its datagrams, or of the probe; none where the connection ends
  abbrev pub bytes_out : Meaning t → ℕ → Ending → Batch → At t → (bytes : List ℕ) → List ℕ
  bytes_out m time Went b a bytes = bytes
  bytes_out m time Held b a bytes = bytes
  bytes_out m time (Hushed quiet) b a bytes = []
  bytes_out m time (Probed quiet size) b a bytes = probe_bytes m time size quiet b (tried_after m form.OneRtt a)
  bytes_out m time (Died form why) b a bytes = []

  -- how a transmit ends: where the connection ends, nothing goes
  unfoldable pub ending_after : Meaning t → ℕ → Ending → Batch → At t → At t
  ending_after m time Went b a = finished_after m time b a
  ending_after m time Held b a = finished_after m time b (held_after m time Pacing b a)
  ending_after m time (Hushed quiet) b a = move_to (Say quiet) (held_after m time quiet b a)
  ending_after m time (Probed quiet size) b a = probed_after m time size quiet b (tried_after m form.OneRtt a)
  ending_after m time (Died form why) b a = move_to (Say Killed) (killed_after why (tried_after m form a))

  -- how many datagrams a transmit may have that is asked for so many: one, where its datagrams can't stand behind each other
  abbrev pub most_of : View t → (asked : ℕ) → ℕ
  most_of s asked = if s.setup.fixed.segmentation then asked else 1

  -- what is known of the datagrams of a transmit that begins
  abbrev pub batch_from : (asked : ℕ) → View t → Batch
  batch_from asked s = batch_begun s.waiting.close_owed s.setup.fixed.pads (most_of s asked) (path_size s) (least_on s.paths.current)

  -- a transmit begins
  abbrev pub going_from : (asked : ℕ) → At t → Going t
  going_from asked a = going a (batch_from asked a.state) []

  -- what its packets leave
  unfoldable pub gone_after : Meaning t → (time asked : ℕ) → Choice → At t → Going t
  gone_after m time asked choice a = packets_after m time choice.packets (going_from asked a)

  -- what a transmit leaves with this choice
  unfoldable pub transmit_after : Meaning t → (time asked : ℕ) → Choice → At t → At t
  transmit_after m time asked choice a = ending_after m time choice.ending (gone_after m time asked choice a).batch (gone_after m time asked choice a).now

  -- which choice it may have
  unfoldable pub MayTransmit : Meaning t → (time asked : ℕ) → Choice → At t → Type 0
  MayTransmit m time asked choice a =
      MayAll m time (going_from asked a) choice.packets × MayEnd m time choice.ending (gone_after m time asked choice a).now.state (gone_after m time asked choice a).batch

  -- the bytes of its datagrams
  unfoldable pub transmit_bytes : Meaning t → (time asked : ℕ) → Choice → At t → List ℕ
  transmit_bytes m time asked choice a =
      let g : Going t = gone_after m time asked choice a in bytes_out m time choice.ending g.batch g.now g.out

  -- where these datagrams go, and how
  unfoldable pub transmit_with : View t → Batch → Transmit
  transmit_with s b = record {
    destination = s.paths.current.remote;
    ecn = if s.paths.current.kept.sending_ecn then Some Ect0 else None;
    size = b.total;
    segment_size = segment_of b;
    src_ip = s.setup.fixed.local_ip;
  }

  -- where they go, and how; none where there are none
  unfoldable pub transmit_of : Meaning t → (time asked : ℕ) → Choice → At t → Option Transmit
  transmit_of m time asked choice a = sent_out choice.ending (transmit_with a.state (gone_after m time asked choice a).batch)

  -- a packet of this form was sealed, for which an update was tried before: what it leaves is what a packet does that may follow
  pub record SendsOne (m : Meaning t) (time : ℕ) (form : Form) (g h : Going t) : Type 0 where
    pub packet : Sent
    pub same : packet.form ≡ form
    pub may : MayFollow m time g.now.state g.batch packet
    pub leads : h ≡ packet_after m time packet g

  -- packets were sealed, one behind the other
  pub record SendsAll (m : Meaning t) (time : ℕ) (g h : Going t) : Type 0 where
    pub packets : List Sent
    pub may : MayAll m time g packets
    pub leads : h ≡ packets_after m time packets g

  -- a transmit of at most so many datagrams into an empty buffer
  pub record Transmits (m : Meaning t) (time asked : ℕ) (a b : At t) (sent : Option Transmit) (buffer : List ℕ) : Type 0 where
    pub choice : Choice
    pub may : MayTransmit m time asked choice a
    pub leads : b ≡ transmit_after m time asked choice a
    pub answer : sent ≡ transmit_of m time asked choice a
    pub bytes : buffer ≡ transmit_bytes m time asked choice a
    pub full : length buffer ≡ sent_size sent

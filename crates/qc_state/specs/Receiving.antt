-- What a datagram does: its packets one after the other, each by its verdict (RFC 9000, sections 5.2, 7.2, 10.2, 12.2 to
-- 12.4 and 13.1).
use Rattle.std.specs.Prelude.{ℕ, ◌+◌, ◌-◌, ◌^◌, Bool, true, false, ◌&&◌, ◌||◌, not, nat_eq, nat_lt, nat_le, is_ok, is_none, is_some, if◌then◌else◌, List, [], ◌∷◌, length, drop, Option, Some, None, Result, Ok, Err}
use Rattle.std.specs.List.{list_any}
use Rattle.std.specs.Cmp.Lexicographic.{pointwise}
use Rattle.std.specs.declared.net.SocketAddr.{SocketAddr}
use Rattle.qc_assembler.specs.Assembly.{Assembly, inserted, part_count}
use Rattle.qc_base.specs.declared.transport_error.TransportError.{TransportError}
use Rattle.qc_base.specs.declared.side.Side.{Side}
use Rattle.qc_base.specs.declared.side.Side.TheVariants.{Client, Server}
use Rattle.qc_base.specs.declared.side.SpaceId.{SpaceId}
use Rattle.qc_base.specs.declared.side.SpaceId.TheVariants.{Initial, Handshake, «Data»}
use Rattle.qc_flight.specs.Packets.{Entry}
use Rattle.qc_frame.specs.Frame.{FrameValue, AckValue, TypedValue}
use Rattle.qc_frame.specs.FrameSpelling.{elicits, spelling}
use Rattle.qc_frame.specs.Payload.{Item, items_of}
use Rattle.qc_frame.specs.declared.frames.FrameOf.TheVariants as frames
use Rattle.qc_frame.specs.declared.frames.NewConnectionId.{NewConnectionId}
use Rattle.qc_header.specs.HeaderGrammar.{DatagramItem}
use Rattle.qc_header.specs.HeaderReading.{piece_at}
use Rattle.qc_header.specs.declared.protected.ProtectedHeader.{ProtectedHeader}
use Rattle.qc_header.specs.declared.protected.ProtectedHeader.TheVariants as protected
use Rattle.qc_header.specs.Piece.{Piece, space_of}
use Rattle.qc_header.specs.Pieces.{pieces_of}
use Rattle.qc_state.specs.declared.coming.Coming.{Coming}
use Rattle.qc_state.specs.declared.deeds.Did.TheVariants as did
use Rattle.qc_state.specs.declared.deeds.Layer.TheVariants as layer
use Rattle.qc_state.specs.declared.deeds.Verdict.{Verdict}
use Rattle.qc_state.specs.declared.deeds.Verdict.TheVariants as verdict
use Rattle.qc_state.specs.declared.life.ConnectionError.{ConnectionError}
use Rattle.qc_state.specs.declared.life.ConnectionError.TheVariants as lost
use Rattle.qc_state.specs.declared.opening.Opening.{Opening}
use Rattle.qc_state.specs.declared.opening.Signs.{Signs}
use Rattle.qc_state.specs.declared.transmit.TheConstants.{DATAGRAM_SIZE}
use Rattle.qc_state.specs.declared.opening.Opening.TheVariants.{Unreadable, Unopened, Reserved, Untimely, Opened}
use Rattle.qc_state.specs.Acks.{acknowledges_any}
use Rattle.qc_state.specs.Keys.{fails_too_often, new_keys}
use Rattle.qc_state.specs.Life.{is_open, is_over, is_handshake, is_established}
use Rattle.qc_state.specs.Ids.{insert_stop, retire_stop, switches_for}
use Rattle.qc_state.specs.Lower.{handed_stop, ready_bytes, stream_of}
use Rattle.qc_state.specs.Moves.{is_close, Forget, Expect, Enter, Fail, Renew, Accept, Fix, Hand, Hear, Insert, Retire, Switch, Ack, Come, Read, Ready, Tell, PeerClosesToo, PeerCloses, Owe, move_to, armed_after}
use Rattle.qc_state.specs.Numbers.{next_number}
use Rattle.qc_state.specs.Opening.{opening_of}
use Rattle.qc_recovery.specs.Steps.{After}
use Rattle.qc_state.specs.Paths.{is_blocked, same_address}
use Rattle.qc_state.specs.Progress.{progress_after}
use Rattle.qc_state.specs.Recovering.{settled_by}
use Rattle.qc_state.specs.Sending.{initial_left}
use Rattle.qc_state.specs.Setup.{is_first_awaited}
use Rattle.qc_state.specs.Stopping.{buffer_error, encoding_error_at, given_after, internal_error_at, key_limit_error, killed_after, stopped_after, update_error, violation_at}
use Rattle.qc_state.specs.Updating.{unsealed_after}
use Rattle.qc_state.specs.Types.{Types, Meaning}
use Rattle.qc_state.specs.Verdicts.{ids_end, retry_token, unnumbered_verdict, verdict_of}
use Rattle.qc_state.specs.View.{View, At}

-- The error with which a frame of this type stops its packet by its kind, if it does, where this end's next number is `next`:
-- an acknowledgement of a number that was never sealed; in an Initial or Handshake packet a frame of another kind than PADDING,
-- PING, ACK, CRYPTO and the closes, which may not stand there (RFC 9000, section 12.4). What stops a CRYPTO frame is told below.
abbrev pub frame_stop : (next type : ℕ) → FrameValue → Option TransportError
frame_stop next type frames.Padding = None
frame_stop next type frames.Ping = None
frame_stop next type (frames.Ack ack) = if nat_le next ack.largest then Some (violation_at None) else None
frame_stop next type (frames.Crypto offset body) = None
frame_stop next type (frames.ConnectionClose code frame_type reason) = None
frame_stop next type (frames.ApplicationClose code reason) = None
frame_stop next type _ = Some (violation_at (Some type))

-- a HANDSHAKE_DONE stops nothing at a client, and its packet at a server, which doesn't expect one (RFC 9000, section 19.20)
abbrev pub done_stop : Side → Option TransportError
done_stop Client = None
done_stop Server = Some (violation_at None)

-- a NEW_TOKEN stops its packet at a client where its token has no bytes, and always at a server, which doesn't expect one (RFC 9000, section
-- 19.7)
abbrev pub token_stop : Side → (token : List ℕ) → Option TransportError
token_stop Client [] = Some (encoding_error_at None)
token_stop Client (b ∷ token) = None
token_stop Server token = Some (violation_at None)

-- The same in a 1-RTT packet that an end of this side receives, which skipped the number `skipped` last: an ACK of that number
-- stops it too (RFC 9000, section 21.4), and frames of kinds that aren't taken so far stop it with INTERNAL_ERROR. Those about streams and
-- connection ids, and DATAGRAM, don't by their kind.
abbrev pub data_stop : Side → (next : ℕ) → (skipped : Option ℕ) → (type : ℕ) → FrameValue → Option TransportError
data_stop side next skipped type frames.Padding = None
data_stop side next skipped type frames.Ping = None
data_stop side next skipped type (frames.Ack ack) = if nat_le next ack.largest || acknowledges_any ack skipped then Some (violation_at None) else None
data_stop side next skipped type (frames.Crypto offset body) = None
data_stop side next skipped type (frames.ConnectionClose code frame_type reason) = None
data_stop side next skipped type (frames.ApplicationClose code reason) = None
data_stop side next skipped type frames.HandshakeDone = done_stop side
data_stop side next skipped type (frames.NewToken token) = token_stop side token
data_stop side next skipped type (frames.ResetStream id code size) = None
data_stop side next skipped type (frames.StopSending id code) = None
data_stop side next skipped type (frames.Stream id offset fin body) = None
data_stop side next skipped type (frames.MaxData limit) = None
data_stop side next skipped type (frames.MaxStreamData id limit) = None
data_stop side next skipped type (frames.MaxStreams dir count) = None
data_stop side next skipped type (frames.DataBlocked limit) = None
data_stop side next skipped type (frames.StreamDataBlocked id limit) = None
data_stop side next skipped type (frames.StreamsBlocked dir limit) = None
data_stop side next skipped type (frames.Datagram body) = None
data_stop side next skipped type (frames.NewConnectionId new) = None
data_stop side next skipped type (frames.RetireConnectionId sequence) = None
data_stop side next skipped type _ = Some (internal_error_at (Some type))

-- the error with which a frame stops its packet by its kind, by the packet's space: an ACK of a number that was never sent does (RFC 9000,
-- section 13.1), and so does a frame that may not stand there (section 12.4)
abbrev pub stop_in : Side → SpaceId → (next : ℕ) → (skipped : Option ℕ) → (type : ℕ) → FrameValue → Option TransportError
stop_in side Initial next skipped type frame = frame_stop next type frame
stop_in side Handshake next skipped type frame = frame_stop next type frame
stop_in side Data next skipped type frame = data_stop side next skipped type frame

-- the reason that a close of the peer's gives for the end
abbrev pub reason_of : FrameValue → Option ConnectionError
reason_of (frames.ConnectionClose code frame_type reason) = Some (lost.ConnectionClosed (record { error_code = code; frame_type = frame_type; reason = reason }))
reason_of (frames.ApplicationClose code reason) = Some (lost.ApplicationClosed (record { error_code = code; reason = reason }))
reason_of _ = None

-- whether an item of a payload is a frame that elicits an acknowledgement (RFC 9002, section 2)
abbrev pub is_eliciting_item : Item → Bool
is_eliciting_item (Ok read) = elicits read.frame
is_eliciting_item (Err fault) = false

-- the first error whose test holds
abbrev pub first_stop : List (Bool × TransportError) → Option TransportError
first_stop [] = None
first_stop (row ∷ rows) = if row.0 then Some row.1 else first_stop rows

-- whether a space lies below another one
abbrev pub is_below : SpaceId → SpaceId → Bool
is_below Initial Handshake = true
is_below Initial Data = true
is_below Handshake Data = true
is_below _ _ = false

-- whether an item of a payload is a close
abbrev pub is_close_item : Item → Bool
is_close_item (Ok read) = is_close read.frame
is_close_item (Err fault) = false

-- the space whose CRYPTO bytes are expected before the handshake is over, where this is the highest space: Initial where that
-- is the highest, else Handshake
abbrev pub expected_below : SpaceId → SpaceId
expected_below Initial = Initial
expected_below Handshake = Handshake
expected_below Data = Handshake

-- The error with which a CRYPTO frame, whose bytes end at `end`, stops its packet, if it does, where so many bytes may be kept and these
-- came of its stream: new bytes of a space that is over; bytes too far ahead of those that the session was given, or past the end
-- of any stream; too many parts kept, once these bytes are (RFC 9000, sections 7.5 and 19.6; RFC 9001, section 4.1.3). Its fields are
-- right where they stand, so the error names no type of frame.
abbrev pub crypto_stop_of : (most : ℕ) → (expected : SpaceId) → Assembly → SpaceId → (offset : ℕ) → (body : List ℕ) → Option TransportError
crypto_stop_of most expected stream id offset body =
    let end : ℕ = offset + length body in
    first_stop
    ((nat_lt stream.read end && is_below id expected, violation_at None)
    ∷ (nat_le (2 ^ 62) end || nat_lt most (end - stream.read), buffer_error)
    ∷ (nat_lt 1024 (part_count (inserted offset body stream).came), internal_error_at None)
    ∷ [])

-- what a packet with this spin bit shows, whose datagram came so
abbrev pub signs_of : Coming → (spin : Bool) → Signs
signs_of coming spin = record { mark = coming.mark; spin = spin }

-- an Initial packet with these ids
abbrev pub is_initial_with : (dst_cid src_cid : List ℕ) → ProtectedHeader → Bool
is_initial_with dst_cid src_cid (protected.Initial dst src token_start token_len version) = pointwise nat_eq dst dst_cid && pointwise nat_eq src src_cid
is_initial_with dst_cid src_cid _ = false

-- the token of a packet that opened
abbrev pub opened_token : Opening → Option (List ℕ)
opened_token Unreadable = None
opened_token Unopened = None
opened_token (Reserved number) = None
opened_token (Untimely number) = None
opened_token (Opened source token spin which number payload) = Some token

-- what a frame leaves of its packet, and of the connection
pub data Behind (t : Types) : Type 0 where
  Goes : (now : At t) → Behind t  -- the frames behind it are next
  Closes : (why : ConnectionError) → (now : At t) → Behind t  -- so they are, and it is a close with this reason
  Ends : (now : At t) → Behind t  -- it ends its packet

-- what the frames of a packet have made so far
pub data Course (t : Types) : Type 0 where
  Reads : (close : Option ConnectionError) → (now : At t) → Course t  -- the next frame is read; this was the last close, if there was one
  Ended : (now : At t) → Course t  -- one of them ended the packet

module _ {t : Types} where
  -- the peer closed, for this reason, or speaks no version that this end does: the connection drains, if it was open
  unfoldable pub left_after : (time : ℕ) → ConnectionError → At t → At t
  left_after time why a = if is_open a.state.life.state then given_after why (move_to (PeerCloses time) a) else a

  -- where packets were newly acknowledged, the loss timer is set anew
  abbrev pub rearmed_after : (time : ℕ) → (acked : List Entry) → At t → At t
  rearmed_after time [] a = a
  rearmed_after time (e ∷ es) a = armed_after time a

  -- this is what an ACK leaves of loss recovery: packets are in flight no longer, and the frames of lost ones wait again
  unfoldable pub settled_after : (time : ℕ) → SpaceId → (largest : ℕ) → After t.C → At t → At t
  settled_after time id largest after a = rearmed_after time after.acked (move_to (Ack id largest after) a)

  -- the layer of loss recovery is given an ACK of this space
  unfoldable pub acked_after : Meaning t → (time : ℕ) → SpaceId → AckValue → At t → At t
  acked_after m time id ack a =
      settled_after time id ack.largest (settled_by m time id ack a.state) (move_to (Tell (did.Gave layer.Recovery (spelling (frames.Ack ack)))) a)

  -- the server has confirmed the handshake: the Handshake keys are dropped (RFC 9001, section 4.9.2)
  unfoldable pub confirmed_after : (time : ℕ) → At t → At t
  confirmed_after time a = armed_after time (move_to (Forget Handshake) (move_to (Tell (did.Gave layer.Life (spelling frames.HandshakeDone))) a))

  -- a close of the peer's is given to the life
  unfoldable pub close_given : FrameValue → At t → At t
  close_given frame a = move_to (Tell (did.Gave layer.Life (spelling frame))) a

  -- the peer closed with this reason in a 1-RTT packet: where the connection was open, one packet that tells that it ended is
  -- owed (RFC 9000, section 10.2.2)
  unfoldable pub closed_in_data : (time : ℕ) → ConnectionError → At t → At t
  closed_in_data time why a = if is_open a.state.life.state then move_to Owe (left_after time why a) else a

  -- a close: in an Initial or Handshake packet the first one ends the packet, and the connection drains; in a 1-RTT packet the frames
  -- behind it are next, and the last close counts
  abbrev pub close_after : Coming → SpaceId → FrameValue → ConnectionError → At t → Behind t
  close_after coming Initial frame why a = Ends (left_after coming.time why (close_given frame a))
  close_after coming Handshake frame why a = Ends (left_after coming.time why (close_given frame a))
  close_after coming Data frame why a = Closes why (close_given frame a)

  -- the space whose CRYPTO bytes are expected: Data once the handshake is over
  unfoldable pub expected_space : View t → SpaceId
  expected_space s = if is_established s.life.state then «Data» else expected_below s.keys.highest

  -- the error with which a CRYPTO frame stops its packet, if it does
  unfoldable pub crypto_stop : View t → SpaceId → (offset : ℕ) → (body : List ℕ) → Option TransportError
  crypto_stop s id offset body = crypto_stop_of s.setup.fixed.crypto_buffer_size (expected_space s) (stream_of s.lower id) id offset body

  -- a frame that gives this error ends its packet, and this end closes for it; one that gives none does what it does else
  abbrev pub ended_by : (time : ℕ) → Option TransportError → (At t → Behind t) → At t → Behind t
  ended_by time (Some error) does a = Ends (stopped_after time error a)
  ended_by time None does a = does a

  -- the session answered a read: where it refused the bytes, this end closes for its error; else it is noted whether the handshake's
  -- data is ready
  abbrev pub answered_after : Coming → Result Bool TransportError → At t → Behind t
  answered_after coming (Err error) a = Ends (stopped_after coming.time error a)
  answered_after coming (Ok true) a = Goes (move_to Ready a)
  answered_after coming (Ok false) a = Goes a

  -- the session is given bytes of the space's CRYPTO stream that can be read in order, if there are any
  abbrev pub bytes_given : Meaning t → Coming → SpaceId → List ℕ → At t → Behind t
  bytes_given m coming id [] a = Goes a
  bytes_given m coming id (b ∷ bytes) a =
      answered_after coming (m.reads a.state.lower.session (b ∷ bytes))
      (move_to (Read id (length (b ∷ bytes)) (m.after_read a.state.lower.session (b ∷ bytes))) (move_to (Tell (did.Gave layer.Session (b ∷ bytes))) a))

  -- CRYPTO bytes are given in order, each once (RFC 9000, section 19.6). Bytes of the space's CRYPTO stream came: the session is given all that can
  -- be read in order from then on
  unfoldable pub kept_after : Meaning t → Coming → SpaceId → (offset : ℕ) → (body : List ℕ) → At t → Behind t
  kept_after m coming id offset body a =
      let b : At t = move_to (Come id offset body) a in
      bytes_given m coming id (ready_bytes (stream_of b.state.lower id)) b

  -- what is done with a frame that is handed on: it ends its packet where it is refused, and this end closes for the error
  abbrev pub refused_after : (time : ℕ) → Option TransportError → At t → Behind t
  refused_after time None a = Goes a
  refused_after time (Some error) a = Ends (stopped_after time error a)

  -- Frames about streams are handed to the streams, in order, and a refused one closes with its rule's code (RFC 9000, sections 19.4, 19.5 and 19.8
  -- to 19.14). The streams or the datagrams are handed a frame, refused or not
  unfoldable pub handed_after : (time : ℕ) → FrameValue → At t → Behind t
  handed_after time frame a = refused_after time (handed_stop frame a.state.lower) (move_to (Hand frame) a)

  -- a server that the peer gave an id besides that of its first packets takes it into use, where that one is in use still
  abbrev pub switched_after : Bool → At t → At t
  switched_after switches a = if switches then move_to Switch a else a

  -- the ids are handed a NEW_CONNECTION_ID, refused or not (RFC 9000, section 19.15)
  unfoldable pub inserted_after : (time : ℕ) → NewConnectionId → At t → Behind t
  inserted_after time new a =
      ended_by time (insert_stop new a.state.lower.ids) (λ b. Goes (switched_after (switches_for a.state.setup.fixed.side new a.state.lower.ids) b)) (move_to (Insert new) a)

  -- the ids are handed a RETIRE_CONNECTION_ID, refused or not (RFC 9000, section 19.16)
  unfoldable pub retired_after : (time sequence : ℕ) → At t → Behind t
  retired_after time n a = refused_after time (retire_stop n a.state.lower.ids) (move_to (Retire time n) a)

  -- a client's store is given a token of its server's (RFC 9000, section 8.1.3)
  unfoldable pub token_given : FrameValue → At t → At t
  token_given frame a = move_to (Tell (did.Gave layer.Store (spelling frame))) a

  -- What a frame does that its kind doesn't stop: a row for each kind that does something. The frames of kinds that do nothing have
  -- the last row: PADDING, PING and DATA_BLOCKED, and in this place those that stop every packet so far.
  unfoldable pub applied_after : Meaning t → Coming → SpaceId → FrameValue → At t → Behind t
  applied_after m coming id (frames.Ack ack) a = Goes (acked_after m coming.time id ack a)
  applied_after m coming id (frames.Crypto offset body) a = ended_by coming.time (crypto_stop a.state id offset body) (kept_after m coming id offset body) a
  applied_after m coming id frames.HandshakeDone a = Goes (confirmed_after coming.time a)
  applied_after m coming id (frames.NewToken token) a = Goes (token_given (frames.NewToken token) a)
  applied_after m coming id (frames.ConnectionClose code type reason) a =
      close_after coming id (frames.ConnectionClose code type reason) (lost.ConnectionClosed (record { error_code = code; frame_type = type; reason = reason })) a
  applied_after m coming id (frames.ApplicationClose code reason) a =
      close_after coming id (frames.ApplicationClose code reason) (lost.ApplicationClosed (record { error_code = code; reason = reason })) a
  applied_after m coming id (frames.ResetStream stream code size) a = handed_after coming.time (frames.ResetStream stream code size) a
  applied_after m coming id (frames.StopSending stream code) a = handed_after coming.time (frames.StopSending stream code) a
  applied_after m coming id (frames.Stream stream offset fin body) a = handed_after coming.time (frames.Stream stream offset fin body) a
  applied_after m coming id (frames.MaxData limit) a = handed_after coming.time (frames.MaxData limit) a
  applied_after m coming id (frames.MaxStreamData stream limit) a = handed_after coming.time (frames.MaxStreamData stream limit) a
  applied_after m coming id (frames.MaxStreams dir count) a = handed_after coming.time (frames.MaxStreams dir count) a
  applied_after m coming id (frames.StreamDataBlocked stream limit) a = handed_after coming.time (frames.StreamDataBlocked stream limit) a
  applied_after m coming id (frames.StreamsBlocked dir limit) a = handed_after coming.time (frames.StreamsBlocked dir limit) a
  applied_after m coming id (frames.Datagram body) a = handed_after coming.time (frames.Datagram body) a
  applied_after m coming id (frames.NewConnectionId new) a = inserted_after coming.time new a
  applied_after m coming id (frames.RetireConnectionId sequence) a = retired_after coming.time sequence a
  applied_after m coming id _ a = Goes a

  -- a frame, which stops its packet by its kind, or does what its kind does
  abbrev pub frame_after : Meaning t → Coming → SpaceId → TypedValue → At t → Behind t
  frame_after m coming id read a =
      ended_by coming.time (stop_in a.state.setup.fixed.side id (next_number a.state.numbers id) a.state.numbers.filter.last read.ty read.frame) (applied_after m coming id read.frame) a

  -- the frames so far, with one more, where this was the last close before it
  abbrev pub course_with : (close : Option ConnectionError) → Behind t → Course t
  course_with close (Goes a) = Reads close a
  course_with close (Closes why a) = Reads (Some why) a
  course_with close (Ends a) = Ended a

  -- one frame more, or bytes that are none, which stop the packet; nothing behind a frame that ended it
  abbrev pub item_after : Meaning t → Coming → SpaceId → Item → Course t → Course t
  item_after m coming id (Ok read) (Reads close a) = course_with close (frame_after m coming id read a)
  item_after m coming id (Err fault) (Reads close a) = Ended (stopped_after coming.time (encoding_error_at fault.ty) a)
  item_after m coming id item (Ended a) = Ended a

  -- Frames of an admitted packet apply in order, up to the first that stops it (RFC 9000, section 12.4). The frames of a packet, in order, up to the
  -- first stop, or the first close of an Initial or Handshake packet
  abbrev pub items_after : Meaning t → Coming → SpaceId → List Item → Course t → Course t
  items_after m coming id [] course = course
  items_after m coming id (item ∷ items) course = items_after m coming id items (item_after m coming id item course)

  -- behind the last frame, where none ended the packet: the handshake goes on, or the last close of a 1-RTT packet counts
  abbrev pub end_after : Meaning t → Coming → SpaceId → Course t → At t
  end_after m coming id (Reads None a) = progress_after m coming.time id a
  end_after m coming id (Reads (Some why) a) = closed_in_data coming.time why a
  end_after m coming id (Ended a) = a

  -- a payload: an empty one breaks a rule (RFC 9000, section 12.4)
  unfoldable pub payload_after : Meaning t → Coming → SpaceId → List ℕ → At t → At t
  payload_after m coming id [] a = stopped_after coming.time (violation_at None) a
  payload_after m coming id (b ∷ bytes) a = end_after m coming id (items_after m coming id (items_of (b ∷ bytes)) (Reads None a))

  -- the first Initial packet that a client admits fixes the id that the peer chose (RFC 9000, section 7.2)
  abbrev pub fixes_peer : SpaceId → View t → Bool
  fixes_peer Initial s = is_none s.paths.peer_cid
  fixes_peer Handshake s = false
  fixes_peer Data s = false

  unfoldable pub fixed_after : SpaceId → (source : List ℕ) → At t → At t
  fixed_after id source a = if fixes_peer id a.state then move_to (Fix source) a else a

  -- a packet is told of that changes nothing
  abbrev pub piece_told : Option SpaceId → Option ℕ → Verdict → At t → At t
  piece_told space number v a = move_to (Tell (did.Piece space number v)) a

  -- a packet that came once this end had closed: a close in it makes the connection drain, else this end's close is owed
  -- again
  unfoldable pub read_for_close : SpaceId → (number : ℕ) → (payload : List ℕ) → At t → At t
  read_for_close id number payload a =
      let b = move_to (Enter id number verdict.ReadForClose) a in
      if list_any is_close_item (items_of payload) then move_to PeerClosesToo b else move_to Owe b

  -- a packet is accepted: its number counts, it is to be acknowledged, a Handshake packet that is admitted validates the path (RFC
  -- 9000, section 8.1), and with a Handshake packet a server leaves the Initial space
  unfoldable pub accepted_after : Coming → SpaceId → (number : ℕ) → (eliciting : Bool) → (spin : Bool) → Verdict → At t → At t
  accepted_after coming id number eliciting spin v a =
      let b : At t = move_to (Accept coming.time id number eliciting (signs_of coming spin) v) a in
      initial_left Server (is_blocked b.state.paths) coming.time id b

  -- a packet that is admitted
  unfoldable pub admitted_after : Meaning t → Coming → SpaceId → (spin : Bool) → (source : List ℕ) → (number : ℕ) → (payload : List ℕ) → At t → At t
  admitted_after m coming id spin source number payload a =
      payload_after m coming id payload
      (fixed_after id source (accepted_after coming id number (list_any is_eliciting_item (items_of payload)) spin verdict.Admitted a))

  -- what a packet does that opened, by its verdict; it has no other one
  abbrev pub verdict_after : Meaning t → Coming → SpaceId → (spin : Bool) → (source : List ℕ) → (number : ℕ) → (payload : List ℕ) → Verdict → At t → At t
  verdict_after m coming id spin source number payload verdict.Seen a = piece_told (Some id) (Some number) verdict.Seen a
  verdict_after m coming id spin source number payload verdict.ReadForClose a = read_for_close id number payload a
  verdict_after m coming id spin source number payload verdict.NumberOnly a = move_to (Enter id number verdict.NumberOnly) a
  verdict_after m coming id spin source number payload verdict.AckOnly a = accepted_after coming id number false spin verdict.AckOnly a
  verdict_after m coming id spin source number payload verdict.Admitted a = admitted_after m coming id spin source number payload a
  verdict_after m coming id spin source number payload _ a = a

  -- a packet with this spin bit that opened in this space
  unfoldable pub received_after : Meaning t → Coming → SpaceId → (spin : Bool) → (source token : List ℕ) → (number : ℕ) → (payload : List ℕ) → At t → At t
  received_after m coming id spin source token number payload a = verdict_after m coming id spin source number payload (verdict_of a.state id source token number) a

  -- a packet didn't open, which is counted; once more did than the key of the highest space lets pass, the connection ends (RFC
  -- 9001, section 6.6)
  unfoldable pub failed_after : Option SpaceId → At t → At t
  failed_after space a =
      let b : At t = piece_told space None verdict.Failure (move_to Fail a) in
      if fails_too_often b.state.keys then killed_after (lost.TransportError key_limit_error) b else b

  -- A packet of a form with this space, by what came of taking its protection off. One that opened makes its step of the ring first; one with
  -- reserved bits, or with an update that its sender wasn't allowed to make, makes none, and its number doesn't count (RFC 9001, section 6.2).
  abbrev pub opening_after : Meaning t → Coming → Option SpaceId → Opening → At t → At t
  opening_after m coming space Unreadable a = piece_told space None verdict.Ignored a
  opening_after m coming space Unopened a = failed_after space a
  opening_after m coming space (Reserved number) a = stopped_after coming.time (violation_at None) (piece_told space (Some number) verdict.BadBits a)
  opening_after m coming space (Untimely number) a = stopped_after coming.time update_error (piece_told space (Some number) verdict.BadUpdate a)
  opening_after m coming (Some id) (Opened source token spin which number payload) a =
      received_after m coming id spin source token number payload (unsealed_after m coming.time which number a)
  opening_after m coming None (Opened source token spin which number payload) a = piece_told None None verdict.Ignored a

  -- A Retry with this source id and this token is taken: packets go to that id, Initial keys are made of it, under which nothing was sealed, the
  -- Initial space begins anew with the hello, but that its numbers go on, and Initial packets carry the token (RFC 9000, sections 8.1.2 and 17.2.5;
  -- RFC 9001, section 5.2). The loss timer is set anew.
  unfoldable pub renewed_after : Meaning t → (time : ℕ) → (cid token : List ℕ) → At t → At t
  renewed_after m time cid token a =
      armed_after time (move_to (Renew time cid token (new_keys m.seal_limit m.failure_limit (m.initial a.state.lower.session cid Client))) a)

  -- what a packet with this header and these bytes does that is taken, if it is a Retry
  abbrev pub retried_after : Meaning t → (time : ℕ) → ProtectedHeader → (bytes : List ℕ) → At t → At t
  retried_after m time (protected.Retry dst_cid src_cid version) bytes a = renewed_after m time src_cid (retry_token (drop (ids_end dst_cid src_cid) bytes)) a
  retried_after m time _ bytes a = a

  -- What a packet without a number does, by its verdict: a Retry that is taken; a list of versions without this end's, behind which the
  -- connection drains (RFC 9000, section 6.2); nothing else
  abbrev pub unnumbered_after : Meaning t → (time : ℕ) → Piece → Verdict → At t → At t
  unnumbered_after m time p verdict.RetryTaken a = retried_after m time p.header p.bytes a
  unnumbered_after m time p verdict.Versions a = left_after time lost.VersionMismatch (piece_told None None verdict.Versions a)
  unnumbered_after m time p _ a = piece_told None None verdict.Ignored a

  -- a packet of a form with numbers of this space, or without
  abbrev pub formed_after : Meaning t → Coming → Option SpaceId → Piece → At t → At t
  formed_after m coming None p a = unnumbered_after m coming.time p (unnumbered_verdict m a.state p) a
  formed_after m coming (Some id) p a = opening_after m coming (Some id) (opening_of m a.state p) a

  -- one packet; behind one that ended the connection, or made it drain, it is ignored
  unfoldable pub piece_after : Meaning t → Coming → Piece → At t → At t
  piece_after m coming p a =
      if is_over a.state.life.state then piece_told (space_of p.header) None verdict.Ignored a else formed_after m coming (space_of p.header) p a

  -- the packets of a datagram, up to the first bytes that begin with none
  abbrev pub pieces_after : Meaning t → Coming → List DatagramItem → At t → At t
  pieces_after m coming [] a = a
  pieces_after m coming (Err fault ∷ items) a = a
  pieces_after m coming (Ok p ∷ items) a = pieces_after m coming items (piece_after m coming p a)

  -- a datagram counts that comes from the path's address, until the connection drains
  unfoldable pub lets_in : View t → SocketAddr → Bool
  lets_in s remote = not (is_over s.life.state) && same_address s.paths.current.remote remote

  -- the packets of a datagram, cut with this end's version, the length of its ids, and its word on the fixed bit
  abbrev pub cut_of : View t → List ℕ → List DatagramItem
  cut_of s bytes = pieces_of (length s.setup.fixed.local_cid) (s.setup.fixed.version ∷ []) s.setup.fixed.grease_quic_bit bytes

  -- a datagram begins with a packet
  unfoldable pub is_readable : View t → List ℕ → Bool
  is_readable s bytes = is_ok (piece_at (length s.setup.fixed.local_cid) (s.setup.fixed.version ∷ []) s.setup.fixed.grease_quic_bit bytes)

  -- A datagram of so many bytes has come, all of which count as received on the path (RFC 9000, section 8.1). Where no datagram
  -- could be begun before it, and one can now, the loss timer is set anew.
  unfoldable pub counted_after : (time : ℕ) → (blocked : Bool) → (size : ℕ) → At t → At t
  counted_after time blocked size a =
      let b : At t = move_to (Hear size) a in
      if blocked && not (is_blocked b.state.paths) then armed_after time b else b

  -- a datagram comes: its packets count, and so do its bytes, where it comes from the path's address; one that begins with no packet is dropped, and
  -- changes nothing
  unfoldable pub heard_after : Meaning t → Coming → List ℕ → At t → At t
  heard_after m coming bytes a =
      if is_readable a.state bytes && lets_in a.state coming.remote
      then counted_after coming.time (is_blocked a.state.paths) (length bytes) (pieces_after m coming (cut_of a.state bytes) a)
      else a

  -- a packet has the form and the ids of a server's first one: an Initial packet with the destination id that the server was made
  -- with, and the client's source id
  unfoldable pub has_first_ids : View t → ProtectedHeader → Bool
  has_first_ids s header = is_initial_with s.setup.fixed.first_cid s.paths.current.remote_cid header

  -- the token of a packet that may be a server's first one: it has the form and the ids of one, it opened, and its reserved bits
  -- are 0
  unfoldable pub token_in_first : Meaning t → View t → Piece → Option (List ℕ)
  token_in_first m s p = if has_first_ids s p.header then opened_token (opening_of m s p) else None

  -- so of a datagram's first packet, if it begins with one
  abbrev pub token_in_items : Meaning t → View t → List DatagramItem → Option (List ℕ)
  token_in_items m s [] = None
  token_in_items m s (Err fault ∷ items) = None
  token_in_items m s (Ok p ∷ items) = token_in_first m s p

  -- the token of the first packet of a datagram that may be a server's first one, while the handshake goes on: it has at least 1200
  -- bytes (RFC 9000, section 14.1), and comes from the path's address
  unfoldable pub first_token : Meaning t → View t → SocketAddr → List ℕ → Option (List ℕ)
  first_token m s remote bytes =
      if is_handshake s.life.state && (nat_le DATAGRAM_SIZE (length bytes) && same_address s.paths.current.remote remote)
      then token_in_items m s (cut_of s bytes)
      else None

  -- a datagram that may be a server's first one is heard as any other from then on; all others are dropped
  abbrev pub first_after : Meaning t → Coming → List ℕ → Option (List ℕ) → At t → At t
  first_after m coming bytes None a = a
  first_after m coming bytes (Some token) a = heard_after m coming bytes (move_to (Expect token) a)

  -- a datagram comes
  unfoldable pub datagram_after : Meaning t → Coming → List ℕ → At t → At t
  datagram_after m coming bytes a =
      if is_first_awaited a.state.setup then first_after m coming bytes (first_token m a.state coming.remote bytes) a else heard_after m coming bytes a

  -- a datagram is taken: it begins with a packet, and where a server waits for its first one, it may be that
  unfoldable pub is_taken : Meaning t → View t → SocketAddr → List ℕ → Bool
  is_taken m s remote bytes = if is_first_awaited s.setup then is_some (first_token m s remote bytes) else is_readable s bytes

  -- A datagram that was cut already comes: its first packet, and the bytes behind it. Its
  -- packets count, and all of its bytes count as received on the path.
  unfoldable pub event_after : Meaning t → Coming → Piece → (behind : List ℕ) → At t → At t
  event_after m coming p behind a =
      if lets_in a.state coming.remote
      then counted_after coming.time (is_blocked a.state.paths) (length p.bytes + length behind) (pieces_after m coming (cut_of a.state behind) (piece_after m coming p a))
      else a

  -- a server's first packet, which opened with this number and payload: its token is expected from now on, and it does what a
  -- packet does that opened in the Initial space
  unfoldable pub opened_first : Meaning t → Coming → (source token : List ℕ) → (number : ℕ) → (payload : List ℕ) → At t → At t
  opened_first m coming source token number payload a =
      received_after m coming Initial false source token number payload (move_to (Expect token) a)

  -- a server's first packet, with the bytes behind it, of a datagram that has so many bytes
  unfoldable pub first_packet_after : Meaning t → Coming → (source token : List ℕ) → (number : ℕ) → (payload behind : List ℕ) → (size : ℕ) → At t → At t
  first_packet_after m coming source token number payload behind size a =
      counted_after coming.time (is_blocked a.state.paths) size (pieces_after m coming (cut_of a.state behind) (opened_first m coming source token number payload a))

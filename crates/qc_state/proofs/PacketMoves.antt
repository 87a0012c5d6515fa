-- The moves that a packet which opened makes. Each says which packet it belongs to: what it tells, settles, reads and writes, why this
-- end closes with it and for which reason the connection ends, which keys are dropped, and what the loss timer is set to, is that of
-- the packet and of the view where the move is made.
use Rattle.std.proofs.Common.{◌≡◌, ℕ, ◌⊎◌, inr, List, [], ◌∷◌, length, sym, subst, Bool, true, false, Option, Some, None}
use Rattle.std.specs.Prelude.{Ok, Err}
use Rattle.std.specs.List.{list_any}
use Rattle.qc_base.specs.declared.side.Side.TheVariants.{Client, Server}
use Rattle.qc_base.specs.declared.side.SpaceId.{SpaceId}
use Rattle.qc_base.specs.declared.side.SpaceId.TheVariants.{Initial, Handshake, «Data»}
use Rattle.qc_base.specs.declared.transport_error.TransportError.{TransportError}
use Rattle.qc_frame.specs.Frame.{AckValue, FrameValue, TypedValue}
use Rattle.qc_frame.specs.FrameSpelling.{spelling}
use Rattle.qc_frame.specs.Payload.{Item, items_of}
use Rattle.qc_frame.specs.declared.fault.InvalidFrame.{InvalidFrame}
use Rattle.qc_frame.specs.declared.frames.FrameOf.TheVariants as frames
use Rattle.qc_frame.specs.declared.frames.NewConnectionId.{NewConnectionId}
use Rattle.qc_params.specs.declared.params.TransportParameters.{TransportParameters}
use Rattle.qc_recovery.specs.Steps.{After}
use Rattle.qc_rings.specs.declared.which.Which.{Which}
use Rattle.qc_state.specs.declared.keys.Fresh.{Fresh}
use Rattle.qc_state.specs.declared.coming.Coming.{Coming}
use Rattle.qc_state.specs.declared.deeds.Did.{Did}
use Rattle.qc_state.specs.declared.deeds.Did.TheVariants as did
use Rattle.qc_state.specs.declared.deeds.Layer.{Layer}
use Rattle.qc_state.specs.declared.deeds.Layer.TheVariants as layer
use Rattle.qc_state.specs.declared.deeds.Verdict.{Verdict}
use Rattle.qc_state.specs.declared.deeds.Verdict.TheVariants as verdict
use Rattle.qc_state.specs.declared.life.Close.{Close}
use Rattle.qc_state.specs.declared.life.ConnectionError.{ConnectionError}
use Rattle.qc_state.specs.declared.life.ConnectionError.TheVariants as lost
use Rattle.qc_state.specs.Keys.{NewKeys}
use Rattle.qc_state.specs.Life.{is_handshake}
use Rattle.qc_state.specs.Ids.{insert_stop, retire_stop}
use Rattle.qc_state.specs.Lower.{handed_stop, ready_bytes, stream_of}
use Rattle.qc_state.specs.Moves.{Move, Give, Unseal, Forget, Enter, Accept, Fix, Ack, Arm, Come, Read, Write, Ready, Token, Learn, Want, Confirm, Establish, Tell, Hand, Insert, Switch, Retire, PeerClosesToo, PeerCloses, Owe, Shut, accepts, state_move}
use Rattle.qc_state.specs.Numbers.{next_number}
use Rattle.qc_state.specs.Paths.{is_blocked}
use Rattle.qc_state.specs.Progress.{ids_fit, is_end, keys_behind, session_behind}
use Rattle.qc_state.specs.Receiving.{crypto_stop, is_close_item, reason_of, signs_of, stop_in}
use Rattle.qc_state.specs.Recovering.{loss_time, settled_by}
use Rattle.qc_state.specs.Sending.{drops_initial}
use Rattle.qc_state.specs.Stopping.{encoding_error_at, missing_parameters, parameter_error, violation_at}
use Rattle.qc_state.specs.Types.{Types, Meaning}
use Rattle.qc_state.specs.Updating.{fresh_by, session_by}
use Rattle.qc_state.specs.Verdicts.{verdict_of}
use Rattle.qc_state.specs.View.{View}
use Rattle.qc_state.proofs.ReceivedMoves.{AreUnused, FreshFits, IsOfPiece, behind_unused, close_for, fresh_fits}

-- a packet that opened: how its datagram came, its space, its spin bit, which keys of the ring opened it, if it is a 1-RTT packet, and its source
-- id, token, number and payload
pub record OpenPacket : Type 0 where
  pub coming : Coming
  pub space : SpaceId
  pub spin : Bool
  pub which : Option Which
  pub source : List ℕ
  pub token : List ℕ
  pub number : ℕ
  pub payload : List ℕ

-- a frame with its type stands among the items of a payload
abbrev pub IsAmong : TypedValue → List Item → Type 0
IsAmong read [] = ⊥
IsAmong read (Ok first ∷ items) = (first ≡ read) ⊎ IsAmong read items
IsAmong read (Err fault ∷ items) = ⊥

-- behind its frames stand bytes that are none
abbrev pub EndsWith : InvalidFrame → List Item → Type 0
EndsWith fault [] = ⊥
EndsWith fault (Ok first ∷ items) = EndsWith fault items
EndsWith fault (Err other ∷ items) = other ≡ fault

-- a frame of this packet, with its type
abbrev pub IsTypedOf : OpenPacket → TypedValue → Type 0
IsTypedOf o read = IsAmong read (items_of o.payload)

-- a frame of this packet
abbrev pub IsFrameOf : OpenPacket → FrameValue → Type 0
IsFrameOf o f = (type : ℕ) × IsTypedOf o (record { ty = type; frame = f })

-- a close of the peer's in this packet gives this reason for the end
abbrev pub IsReasonOf : OpenPacket → ConnectionError → Type 0
IsReasonOf o why = (f : FrameValue) × IsFrameOf o f × (reason_of f ≡ Some why)

-- a frame of this kind is given to the layer as it is spelled
abbrev pub IsGivenTo : Layer → FrameValue → Type 0
IsGivenTo layer.Recovery (frames.Ack ack) = Unit {0}
IsGivenTo layer.Life frames.HandshakeDone = Unit {0}
IsGivenTo layer.Life (frames.ConnectionClose code type reason) = Unit {0}
IsGivenTo layer.Life (frames.ApplicationClose code reason) = Unit {0}
IsGivenTo layer.Store (frames.NewToken token) = Unit {0}
IsGivenTo _ _ = ⊥

module _ {t : Types} where
  -- what a layer is given: the session the bytes of the space's CRYPTO stream that can be read in order, another layer the spelling
  -- of one of the packet's frames
  abbrev pub IsGivenOf : OpenPacket → Layer → List ℕ → View t → Type 0
  IsGivenOf o layer.Session body s = body ≡ ready_bytes (stream_of s.lower o.space)
  IsGivenOf o to body s = (f : FrameValue) × IsFrameOf o f × IsGivenTo to f × (body ≡ spelling f)

  -- the step that the packet makes of the ring: with its number, by the keys that opened it; as it begins a new epoch, the session gives what that
  -- takes with it
  pub record IsUnsealedBy (m : Meaning t) (o : OpenPacket) (time number : ℕ) (which : Which) (fresh : Option (Fresh t.P)) (session : t.S) (s : View t) : Type 0 where
    pub same : time ≡ o.coming.time
    pub numbered : number ≡ o.number
    pub named : o.which ≡ Some which
    pub given : fresh ≡ fresh_by m which s
    pub behind : session ≡ session_by m which s.lower.session

  -- what is told: a frame that is given to a layer, or that the packet was seen before
  abbrev pub IsToldOf : OpenPacket → Did → View t → Type 0
  IsToldOf o (did.Gave to body) s = IsGivenOf o to body s
  IsToldOf o (did.Piece space number v) s = (space ≡ Some o.space) × (number ≡ Some o.number) × (v ≡ verdict.Seen) × (verdict_of s o.space o.source o.token o.number ≡ verdict.Seen)
  IsToldOf o _ s = ⊥

  -- what an acknowledgement settles is what one of the packet's ACKs does
  pub record IsSettledOf (m : Meaning t) (o : OpenPacket) (id : SpaceId) (largest : ℕ) (after : After t.C) (s : View t) : Type 0 where
    pub ack : AckValue
    pub among : IsFrameOf o (frames.Ack ack)
    pub space : id ≡ o.space
    pub greatest : largest ≡ ack.largest
    pub settled : after ≡ settled_by m o.coming.time o.space ack s

  -- what the session is given, and what it is afterwards
  pub record IsReadOf (m : Meaning t) (o : OpenPacket) (id : SpaceId) (count : ℕ) (session : t.S) (s : View t) : Type 0 where
    pub space : id ≡ o.space
    pub counted : count ≡ length (ready_bytes (stream_of s.lower o.space))
    pub behind : session ≡ m.after_read s.lower.session (ready_bytes (stream_of s.lower o.space))

  -- what the session writes, the keys that it gives, and what it is afterwards
  pub record IsWrittenBy (m : Meaning t) (bytes : List ℕ) (keys : NewKeys t.H t.P) (session : t.S) (s : View t) : Type 0 where
    pub written : bytes ≡ m.writes s.lower.session
    pub given : keys ≡ keys_behind m s.keys.highest (m.write_keys s.lower.session) (m.after_write s.lower.session)
    pub behind : session ≡ session_behind m s.keys.highest (m.write_keys s.lower.session) (m.after_write s.lower.session)

  -- the packet takes this verdict with its number
  pub record IsJudged (o : OpenPacket) (id : SpaceId) (number : ℕ) (v : Verdict) (s : View t) : Type 0 where
    pub space : id ≡ o.space
    pub same : number ≡ o.number
    pub judged : v ≡ verdict_of s o.space o.source o.token o.number

  -- the peer's parameters, as the session has read them, hold this token
  pub record IsTokenOf (m : Meaning t) (token : List ℕ) (s : View t) : Type 0 where
    pub parameters : TransportParameters
    pub known : m.parameters s.lower.session ≡ Ok (Some parameters)
    pub held : parameters.stateless_reset_token ≡ Some token

  -- ---- why this end closes

  -- the peer's parameters, as the session has read them, make this end close for this error: they can't be read, there are none, or the
  -- ids that they name aren't those of this connection
  pub data Breaks (m : Meaning t) (s : View t) (error : TransportError) : Type 0 where
    Unreadable : m.parameters s.lower.session ≡ Err error → Breaks m s error
    Missing : m.parameters s.lower.session ≡ Ok None → error ≡ missing_parameters → Breaks m s error
    Unfit : (parameters : TransportParameters) → m.parameters s.lower.session ≡ Ok (Some parameters) → ids_fit s parameters ≡ false → error ≡ parameter_error → Breaks m s error

  -- this packet makes this end close for this error: it holds no frame, or bytes that are none; one of its frames stops it by its kind,
  -- or one of CRYPTO by its bytes; the session refused bytes that it was given, and is what it is behind them; one of its frames
  -- was refused, with which the streams, the datagrams or the connection ids were just handed it; or the peer's parameters break a rule
  pub data Stops (m : Meaning t) (o : OpenPacket) (s : View t) (error : TransportError) : Type 0 where
    Empty : o.payload ≡ [] → error ≡ violation_at None → Stops m o s error
    Fault : (fault : InvalidFrame) → EndsWith fault (items_of o.payload) → error ≡ encoding_error_at fault.ty → Stops m o s error
    Kind : (read : TypedValue) → IsTypedOf o read → stop_in s.setup.fixed.side o.space (next_number s.numbers o.space) s.numbers.filter.last read.ty read.frame ≡ Some error → Stops m o s error
    Bytes : (offset : ℕ) → (body : List ℕ) → IsFrameOf o (frames.Crypto offset body) → crypto_stop s o.space offset body ≡ Some error → Stops m o s error
    Refusal : (bytes : List ℕ) → (session : t.S) → m.reads session bytes ≡ Err error → s.lower.session ≡ m.after_read session bytes → Stops m o s error
    Handed : (f : FrameValue) → IsFrameOf o f → (before : View t) → s ≡ state_move (Hand f) before → handed_stop f before.lower ≡ Some error → Stops m o s error
    Inserted : (new : NewConnectionId) → IsFrameOf o (frames.NewConnectionId new) → (before : View t) → s ≡ state_move (Insert new) before → insert_stop new before.lower.ids ≡ Some error → Stops m o s error
    Retired : (n : ℕ) → IsFrameOf o (frames.RetireConnectionId n) → (before : View t) → s ≡ state_move (Retire o.coming.time n) before → retire_stop n before.lower.ids ≡ Some error → Stops m o s error
    Parameters : Breaks m s error → Stops m o s error

  -- this end closes at this time for an error of which this holds
  pub record IsShutFor (Why : View t → TransportError → Type 0) (time at : ℕ) (close : Close) (s : View t) : Type 0 where
    pub same : at ≡ time
    pub error : TransportError
    pub closes : close ≡ close_for error
    pub cause : Why s error

  -- the reason for the end is such an error, for which this end just closed
  pub record IsErrorFor (Why : View t → TransportError → Type 0) (time : ℕ) (why : ConnectionError) (s : View t) : Type 0 where
    pub error : TransportError
    pub reason : why ≡ lost.TransportError error
    pub before : View t
    pub closed : s ≡ state_move (Shut time (close_for error)) before
    pub cause : Why before error

  -- ---- the moves

  -- the handshake is over behind a packet of this space
  abbrev pub IsOver : Meaning t → SpaceId → View t → Type 0
  IsOver m id s = (is_handshake s.life.state ≡ true) × (is_end id (m.handshaking s.lower.session) ≡ true)

  -- the loss timer is set to what it is to be
  abbrev pub IsTimer : (time : ℕ) → Option ℕ → View t → Type 0
  IsTimer time at s = at ≡ loss_time s (is_blocked s.paths) time

  -- the moves by which the handshake goes on behind the frames of a packet of this space, where it makes them
  abbrev pub IsProgress : Meaning t → (time : ℕ) → SpaceId → Move t → View t → Type 0
  IsProgress m time id (Forget space) s = (space ≡ Handshake) × (s.setup.fixed.side ≡ Server) × IsOver m id s
  IsProgress m time id (Arm at) s = IsTimer time at s
  IsProgress m time id (Write bytes keys session) s = IsWrittenBy m bytes keys session s
  IsProgress m time id (Token token) s = IsTokenOf m token s
  IsProgress m time id (Learn parameters) s = m.parameters s.lower.session ≡ Ok (Some parameters)
  IsProgress m time id (Want at count) s = at ≡ time
  IsProgress m time id Confirm s = (s.setup.fixed.side ≡ Server) × IsOver m id s
  IsProgress m time id Establish s = IsOver m id s
  IsProgress m time id (Shut at close) s = IsShutFor (Breaks m) time at close s
  IsProgress m time id (Give why) s = IsErrorFor (Breaks m) time why s
  IsProgress m time id _ s = ⊥

  -- The keys of a space are dropped: a server's of the Initial space with a Handshake packet; those of the Handshake space where a
  -- client's packet holds a HANDSHAKE_DONE, or at the end of a server's handshake.
  abbrev pub IsForgotten : Meaning t → OpenPacket → SpaceId → View t → Type 0
  IsForgotten m o Initial s = drops_initial Server s o.space ≡ true
  IsForgotten m o Handshake s =
      ((s.setup.fixed.side ≡ Client) × (o.space ≡ «Data») × IsFrameOf o frames.HandshakeDone) ⊎ ((s.setup.fixed.side ≡ Server) × IsOver m o.space s)
  IsForgotten m o Data s = ⊥

  -- a reason for the end is given: that of a close in the packet, or the error for which this end just closed
  abbrev pub IsGivenFor : Meaning t → OpenPacket → ConnectionError → View t → Type 0
  IsGivenFor m o why s = IsReasonOf o why ⊎ IsErrorFor (Stops m o) o.coming.time why s

  -- the moves that this packet makes, where it makes them
  abbrev pub IsInPacket : Meaning t → OpenPacket → Move t → View t → Type 0
  IsInPacket m o (Unseal time n which fresh session) s = IsUnsealedBy m o time n which fresh session s
  IsInPacket m o (Forget id) s = IsForgotten m o id s
  IsInPacket m o (Arm at) s = IsTimer o.coming.time at s
  IsInPacket m o (Enter id n v) s = (accepts v ≡ false) × IsJudged o id n v s
  IsInPacket m o (Accept time id n e g v) s = (time ≡ o.coming.time) × (g ≡ signs_of o.coming o.spin) × (accepts v ≡ true) × IsJudged o id n v s
  IsInPacket m o (Fix cid) s = cid ≡ o.source
  IsInPacket m o (Ack id n r) s = IsSettledOf m o id n r s
  IsInPacket m o (Come id offset bytes) s = (id ≡ o.space) × IsFrameOf o (frames.Crypto offset bytes)
  IsInPacket m o (Read id count session) s = IsReadOf m o id count session s
  IsInPacket m o Ready s = Unit {0}
  IsInPacket m o (Tell d) s = IsToldOf o d s
  IsInPacket m o (Hand f) s = IsFrameOf o f
  IsInPacket m o (Insert new) s = IsFrameOf o (frames.NewConnectionId new)
  IsInPacket m o Switch s = (new : NewConnectionId) × IsFrameOf o (frames.NewConnectionId new)
  IsInPacket m o (Retire time n) s = (time ≡ o.coming.time) × IsFrameOf o (frames.RetireConnectionId n)
  IsInPacket m o PeerClosesToo s = list_any is_close_item (items_of o.payload) ≡ true
  IsInPacket m o (PeerCloses time) s = (time ≡ o.coming.time) × ((why : ConnectionError) × IsReasonOf o why)
  IsInPacket m o Owe s = Unit {0}
  IsInPacket m o (Shut time close) s = IsShutFor (Stops m o) o.coming.time time close s
  IsInPacket m o (Give why) s = IsGivenFor m o why s
  IsInPacket m o x s = IsProgress m o.coming.time o.space x s

  -- what they are whatever the packet holds
  pub in_packet_piece : (m : Meaning t) (o : OpenPacket) (x : Move t) (s : View t) → IsInPacket m o x s → IsOfPiece x
  in_packet_piece m o (Unseal time n which fresh session) s h = subst (λ (f : Option (Fresh t.P)). FreshFits which f) (sym h.given) (fresh_fits m which s)
  in_packet_piece m o (Forget id) s h = tt
  in_packet_piece m o (Enter id n v) s h = tt
  in_packet_piece m o (Accept time id n e g v) s h = h.2
  in_packet_piece m o (Fix cid) s h = tt
  in_packet_piece m o (Ack id n r) s h = tt
  in_packet_piece m o (Arm at) s h = tt
  in_packet_piece m o (Come id offset bytes) s h = tt
  in_packet_piece m o (Read id count session) s h = tt
  in_packet_piece m o (Write bytes keys session) s h =
      subst AreUnused (sym h.given) (behind_unused m s.keys.highest (m.write_keys s.lower.session) (m.after_write s.lower.session))
  in_packet_piece m o Ready s h = tt
  in_packet_piece m o (Token token) s h = tt
  in_packet_piece m o (Learn parameters) s h = tt
  in_packet_piece m o (Want time count) s h = tt
  in_packet_piece m o Confirm s h = tt
  in_packet_piece m o Establish s h = tt
  in_packet_piece m o (Tell d) s h = tt
  in_packet_piece m o (Hand f) s h = tt
  in_packet_piece m o (Insert new) s h = tt
  in_packet_piece m o Switch s h = tt
  in_packet_piece m o (Retire time n) s h = tt
  in_packet_piece m o PeerClosesToo s h = tt
  in_packet_piece m o (PeerCloses time) s h = tt
  in_packet_piece m o Owe s h = tt
  in_packet_piece m o (Shut time close) s h = tt
  in_packet_piece m o (Give why) s h = tt
  in_packet_piece m o _ s h = absurd h

  pub progress_in_packet : (m : Meaning t) (o : OpenPacket) (x : Move t) (s : View t) → IsProgress m o.coming.time o.space x s → IsInPacket m o x s
  progress_in_packet m o (Forget Initial) s h = cc h.0
  progress_in_packet m o (Forget Handshake) s h = inr (h.1, h.2)
  progress_in_packet m o (Forget Data) s h = cc h.0
  progress_in_packet m o (Arm at) s h = h
  progress_in_packet m o (Write bytes keys session) s h = h
  progress_in_packet m o (Token token) s h = h
  progress_in_packet m o (Learn parameters) s h = h
  progress_in_packet m o (Want time count) s h = h
  progress_in_packet m o Confirm s h = h
  progress_in_packet m o Establish s h = h
  progress_in_packet m o (Shut time close) s h = record { same = h.same; error = h.error; closes = h.closes; cause = Parameters h.cause }
  progress_in_packet m o (Give why) s h = inr (record { error = h.error; reason = h.reason; before = h.before; closed = h.closed; cause = Parameters h.cause })
  progress_in_packet m o _ s h = absurd h

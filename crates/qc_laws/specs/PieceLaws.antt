-- What is told of a packet that came, and what its frames give to the layers (RFC 9000, sections 12.3, 12.4, 13.1 and 19.6).
use Rattle.std.specs.Prelude.{◌≡◌, ◌⊎◌, ℕ, ◌+◌, Bool, if◌then◌else◌, List, [], ◌∷◌, ◌++◌, length, Option, Some, None, Result, Ok, Err}
use Rattle.std.specs.List.{list_any}
use Rattle.qc_assembler.specs.Assembly.{Assembly, inserted}
use Rattle.qc_base.specs.declared.side.SpaceId.{SpaceId}
use Rattle.qc_base.specs.declared.side.SpaceId.TheVariants.{Initial, Handshake, «Data»}
use Rattle.qc_base.specs.declared.transport_error.TransportError.{TransportError}
use Rattle.qc_frame.specs.Frame.{FrameValue, TypedValue}
use Rattle.qc_frame.specs.FrameSpelling.{spelling}
use Rattle.qc_frame.specs.Payload.{Item, items_of}
use Rattle.qc_frame.specs.declared.frames.FrameOf.TheVariants as frames
use Rattle.qc_header.specs.HeaderGrammar.{DatagramItem}
use Rattle.qc_header.specs.Piece.{Piece, space_of}
use Rattle.qc_state.specs.declared.coming.Coming.{Coming}
use Rattle.qc_state.specs.declared.deeds.Did.{Did}
use Rattle.qc_state.specs.declared.deeds.Did.TheVariants as did
use Rattle.qc_state.specs.declared.deeds.Layer.TheVariants as layer
use Rattle.qc_state.specs.declared.deeds.Verdict.{Verdict}
use Rattle.qc_state.specs.declared.deeds.Verdict.TheVariants as verdict
use Rattle.qc_state.specs.declared.input.Input.{Input}
use Rattle.qc_state.specs.declared.input.Input.TheVariants as input
use Rattle.qc_state.specs.declared.opening.Opening.{Opening}
use Rattle.qc_state.specs.declared.opening.Opening.TheVariants.{Unreadable, Unopened, Reserved, Untimely, Opened}
use Rattle.qc_state.specs.declared.trace.Step.{Step}
use Rattle.qc_state.specs.Life.{is_over}
use Rattle.qc_state.specs.Ids.{insert_stop, retire_stop, switches_for}
use Rattle.qc_state.specs.Lower.{handed_stop, ready_bytes, stream_of}
use Rattle.qc_state.specs.Moves.{Ack, Come, Expect, Forget, Hand, Insert, Read, Retire, Switch, move_to, state_move, told_to_streams}
use Rattle.qc_state.specs.Numbers.{next_number}
use Rattle.qc_state.specs.Opening.{opening_of}
use Rattle.qc_state.specs.Receiving.{accepted_after, crypto_stop, cut_of, fixed_after, is_eliciting_item, piece_after, pieces_after, stop_in}
use Rattle.qc_state.specs.Recovering.{settled_by}
use Rattle.qc_state.specs.Run.{IsStep, began}
use Rattle.qc_state.specs.Types.{Types, Meaning}
use Rattle.qc_state.specs.Updating.{unsealed_after}
use Rattle.qc_state.specs.Verdicts.{unnumbered_verdict, verdict_of}
use Rattle.qc_state.specs.View.{View, At, at}

-- the deeds that tell of packets which came, in order
abbrev pub pieces_in : List Did → List Did
pieces_in [] = []
pieces_in (did.Piece space number verdict ∷ ds) = did.Piece space number verdict ∷ pieces_in ds
pieces_in (did.Sealed space number epoch early frames ∷ ds) = pieces_in ds
pieces_in (did.Gave layer body ∷ ds) = pieces_in ds
pieces_in (did.Rose life ∷ ds) = pieces_in ds
pieces_in (did.Lost why ∷ ds) = pieces_in ds
pieces_in (did.Quiet why ∷ ds) = pieces_in ds

-- the deeds that tell what was given to a layer, in order
abbrev pub given_in : List Did → List Did
given_in [] = []
given_in (did.Gave layer body ∷ ds) = did.Gave layer body ∷ given_in ds
given_in (did.Piece space number verdict ∷ ds) = given_in ds
given_in (did.Sealed space number epoch early frames ∷ ds) = given_in ds
given_in (did.Rose life ∷ ds) = given_in ds
given_in (did.Lost why ∷ ds) = given_in ds
given_in (did.Quiet why ∷ ds) = given_in ds

-- what becomes of a frame of an admitted packet
pub data Outcome : Type 0 where
  Refused : Outcome  -- it isn't applied, and stops the packet
  Last : Outcome  -- it is applied, and none behind it
  Goes : Outcome  -- it is applied, and the frames behind it come next

-- an error refuses a frame
abbrev pub refused_or : Option TransportError → Outcome → Outcome
refused_or (Some error) other = Refused
refused_or None other = other

-- a frame with bytes that the session refuses is the last one
abbrev pub unless_refused : Result Bool TransportError → Outcome
unless_refused (Err error) = Last
unless_refused (Ok ready) = Goes

-- a frame that the streams, the datagrams or the ids refuse is the last one
abbrev pub unless_stopped : Option TransportError → Outcome
unless_stopped (Some error) = Last
unless_stopped None = Goes

-- a close is the last frame, but in a 1-RTT packet
abbrev pub close_outcome : SpaceId → Outcome
close_outcome Initial = Last
close_outcome Handshake = Last
close_outcome Data = Goes

-- the applied frames, where these are the ones behind the first
abbrev pub applied_with : Outcome → FrameValue → List FrameValue → List FrameValue
applied_with Refused frame others = []
applied_with Last frame others = frame ∷ []
applied_with Goes frame others = frame ∷ others

-- the session is given bytes in one call, if there are any
abbrev pub session_gift : List ℕ → List Did
session_gift [] = []
session_gift (b ∷ bytes) = did.Gave layer.Session (b ∷ bytes) ∷ []

-- what a frame gives to a layer: the session is given the bytes that can be read in order from then on, any other layer the frame as it
-- is spelled; so are the streams and the datagrams, whether they refuse it or not
abbrev pub gift_of : Assembly → FrameValue → List Did
gift_of stream (frames.Crypto offset body) = session_gift (ready_bytes (inserted offset body stream))
gift_of stream (frames.Ack ack) = did.Gave layer.Recovery (spelling (frames.Ack ack)) ∷ []
gift_of stream frames.HandshakeDone = did.Gave layer.Life (spelling frames.HandshakeDone) ∷ []
gift_of stream (frames.ConnectionClose code type reason) = did.Gave layer.Life (spelling (frames.ConnectionClose code type reason)) ∷ []
gift_of stream (frames.ApplicationClose code reason) = did.Gave layer.Life (spelling (frames.ApplicationClose code reason)) ∷ []
gift_of stream (frames.NewToken token) = did.Gave layer.Store (spelling (frames.NewToken token)) ∷ []
gift_of stream (frames.NewConnectionId new) = did.Gave layer.Ids (spelling (frames.NewConnectionId new)) ∷ []
gift_of stream (frames.RetireConnectionId sequence) = did.Gave layer.Ids (spelling (frames.RetireConnectionId sequence)) ∷ []
gift_of stream frame = told_to_streams frame

-- what is told of a packet without a number, by its verdict: a Retry that is taken, a list of versions without this end's, or one that is
-- ignored
abbrev pub unnumbered_deed : Verdict → Did
unnumbered_deed verdict.RetryTaken = did.Piece None None verdict.RetryTaken
unnumbered_deed verdict.Versions = did.Piece None None verdict.Versions
unnumbered_deed _ = did.Piece None None verdict.Ignored

module _ {t : Types} where
  -- the session is given bytes of the space's CRYPTO stream, if there are any
  abbrev pub read_behind : Meaning t → SpaceId → List ℕ → View t → View t
  read_behind m id [] s = s
  read_behind m id (b ∷ bytes) s = state_move (Read id (length (b ∷ bytes)) (m.after_read s.lower.session (b ∷ bytes))) s

  -- a server may take the peer's next id into use
  abbrev pub switched_behind : Bool → View t → View t
  switched_behind switches s = if switches then state_move Switch s else s

  -- the view behind a frame that came at a time, as far as it decides what becomes of those behind it: CRYPTO bytes came, and the session is
  -- given those that can be read; an ACK settles packets, which the streams are told; a HANDSHAKE_DONE ends the Handshake space; the ids
  -- make of a NEW_CONNECTION_ID or a RETIRE_CONNECTION_ID what it is to them; and
  -- streams and datagrams make of any other what it is to them, if it is theirs
  abbrev pub view_behind : Meaning t → (time : ℕ) → SpaceId → FrameValue → View t → View t
  view_behind m time id (frames.Crypto offset body) s = read_behind m id (ready_bytes (inserted offset body (stream_of s.lower id))) (state_move (Come id offset body) s)
  view_behind m time id (frames.Ack ack) s = state_move (Ack id ack.largest (settled_by m time id ack s)) s
  view_behind m time id frames.HandshakeDone s = state_move (Forget Handshake) s
  view_behind m time id (frames.NewConnectionId new) s = switched_behind (switches_for s.setup.fixed.side new s.lower.ids) (state_move (Insert new) s)
  view_behind m time id (frames.RetireConnectionId sequence) s = state_move (Retire time sequence) s
  view_behind m time id frame s = state_move (Hand frame) s

  -- whether the session refuses bytes
  abbrev pub read_outcome : Meaning t → t.S → List ℕ → Outcome
  read_outcome m session [] = Goes
  read_outcome m session (b ∷ bytes) = unless_refused (m.reads session (b ∷ bytes))

  -- what becomes of a frame that its kind doesn't stop
  abbrev pub kind_outcome : Meaning t → SpaceId → FrameValue → View t → Outcome
  kind_outcome m id (frames.Crypto offset body) s =
      refused_or (crypto_stop s id offset body) (read_outcome m s.lower.session (ready_bytes (inserted offset body (stream_of s.lower id))))
  kind_outcome m id (frames.ConnectionClose code type reason) s = close_outcome id
  kind_outcome m id (frames.ApplicationClose code reason) s = close_outcome id
  kind_outcome m id (frames.NewConnectionId new) s = unless_stopped (insert_stop new s.lower.ids)
  kind_outcome m id (frames.RetireConnectionId sequence) s = unless_stopped (retire_stop sequence s.lower.ids)
  kind_outcome m id frame s = unless_stopped (handed_stop frame s.lower)

  -- what becomes of a frame
  abbrev pub outcome_of : Meaning t → SpaceId → TypedValue → View t → Outcome
  outcome_of m id read s =
      refused_or (stop_in s.setup.fixed.side id (next_number s.numbers id) s.numbers.filter.last read.ty read.frame) (kind_outcome m id read.frame s)

  -- the frames of an admitted packet that are applied: those in front of the first that stops it by its kind or can't be read; but where
  -- the session refuses bytes of a frame, or streams or datagrams refuse one, that one is the last, and outside of 1-RTT packets the first close is
  abbrev pub applied_in : Meaning t → (time : ℕ) → SpaceId → List Item → View t → List FrameValue
  applied_in m time id [] s = []
  applied_in m time id (Err fault ∷ items) s = []
  applied_in m time id (Ok read ∷ items) s = applied_with (outcome_of m id read s) read.frame (applied_in m time id items (view_behind m time id read.frame s))

  -- what frames give to the layers, in order
  abbrev pub gifts_of : Meaning t → (time : ℕ) → SpaceId → List FrameValue → View t → List Did
  gifts_of m time id [] s = []
  gifts_of m time id (f ∷ fs) s = gift_of (stream_of s.lower id) f ++ gifts_of m time id fs (view_behind m time id f s)

  -- the view in which the frames of an admitted packet are read: it was accepted, and may have fixed the peer's id
  abbrev pub view_admitted : Coming → SpaceId → (spin : Bool) → (source : List ℕ) → (number : ℕ) → (payload : List ℕ) → View t → View t
  view_admitted coming id spin source number payload s =
      (fixed_after id source (accepted_after coming id number (list_any is_eliciting_item (items_of payload)) spin verdict.Admitted (at s []))).state

  -- what frames give to the layers from a view on, as far as they are applied
  abbrev pub payload_gifts : Meaning t → (time : ℕ) → SpaceId → (payload : List ℕ) → View t → List Did
  payload_gifts m time id payload s = gifts_of m time id (applied_in m time id (items_of payload) s) s

  -- what a packet of this space and payload gives to the layers: nothing, unless it is admitted
  abbrev pub gifts_by : Meaning t → Coming → SpaceId → (spin : Bool) → (source : List ℕ) → (number : ℕ) → (payload : List ℕ) → Verdict → View t → List Did
  gifts_by m coming id spin source number payload verdict.Admitted s = payload_gifts m coming.time id payload (view_admitted coming id spin source number payload s)
  gifts_by m coming id spin source number payload _ s = []

  -- what is told of a packet that came, by what came of taking its protection off, and what it gives to the layers
  abbrev pub opening_deed : View t → Option SpaceId → Opening → Did
  opening_deed s space Unreadable = did.Piece space None verdict.Ignored
  opening_deed s space Unopened = did.Piece space None verdict.Failure
  opening_deed s space (Reserved number) = did.Piece space (Some number) verdict.BadBits
  opening_deed s space (Untimely number) = did.Piece space (Some number) verdict.BadUpdate
  opening_deed s (Some id) (Opened source token spin which number payload) = did.Piece (Some id) (Some number) (verdict_of s id source token number)
  opening_deed s None (Opened source token spin which number payload) = did.Piece None None verdict.Ignored

  -- what it gives, behind the step that it makes of the ring
  abbrev pub opening_gifts : Meaning t → Coming → View t → Option SpaceId → Opening → List Did
  opening_gifts m coming s space Unreadable = []
  opening_gifts m coming s space Unopened = []
  opening_gifts m coming s space (Reserved number) = []
  opening_gifts m coming s space (Untimely number) = []
  opening_gifts m coming s (Some id) (Opened source token spin which number payload) = gifts_by m coming id spin source number payload (verdict_of s id source token number) (unsealed_after m coming.time which number (at s [])).state
  opening_gifts m coming s None (Opened source token spin which number payload) = []

  -- what is told of a packet of a form with numbers of this space, or without
  abbrev pub formed_deed : Meaning t → View t → Option SpaceId → Piece → Did
  formed_deed m s None p = unnumbered_deed (unnumbered_verdict m s p)
  formed_deed m s (Some id) p = opening_deed s (Some id) (opening_of m s p)

  abbrev pub formed_gifts : Meaning t → Coming → View t → Option SpaceId → Piece → List Did
  formed_gifts m coming s None p = []
  formed_gifts m coming s (Some id) p = opening_gifts m coming s (Some id) (opening_of m s p)

  -- the same of a packet, which is ignored once the connection is over
  abbrev pub piece_deed : Meaning t → View t → Piece → Did
  piece_deed m s p = if is_over s.life.state then did.Piece (space_of p.header) None verdict.Ignored else formed_deed m s (space_of p.header) p

  abbrev pub piece_gifts : Meaning t → Coming → View t → Piece → List Did
  piece_gifts m coming s p = if is_over s.life.state then [] else formed_gifts m coming s (space_of p.header) p

  -- From one moment to another this packet was told of, and what it gives to the layers: the first deed tells of it, no other tells of
  -- one, and what is given is what the applied frames of its payload give, if it is admitted, else nothing.
  pub record TellsPiece (d : Did) (gifts : List Did) (a b : At t) : Type 0 where
    pub others : List Did
    pub appended : b.did ≡ a.did ++ d ∷ others
    pub one : pieces_in others ≡ []
    pub given : given_in others ≡ gifts

  -- so it is with each packet of a datagram, each from where the one before it ended, up to the first bytes that begin with none
  unfoldable pub TellsPieces : Meaning t → Coming → List DatagramItem → At t → Type 0
  TellsPieces m coming [] a = Unit {0}
  TellsPieces m coming (Err fault ∷ items) a = Unit {0}
  TellsPieces m coming (Ok p ∷ items) a =
      let b : At t = piece_after m coming p a in
      TellsPiece (piece_deed m a.state p) (piece_gifts m coming a.state p) a b × TellsPieces m coming items b

  -- From one moment to another a datagram came: its packets, cut as the connection cuts them, or none where it is dropped, are told of
  -- one after the other, once the token of a server's first one is expected, if it is that; and nothing else is told.
  pub record TellsDatagram (m : Meaning t) (coming : Coming) (bytes : List ℕ) (a b : At t) : Type 0 where
    pub items : List DatagramItem
    pub cut : (items ≡ []) ⊎ (items ≡ cut_of a.state bytes)
    pub start : At t
    pub begins : (start ≡ a) ⊎ ((token : List ℕ) × (start ≡ move_to (Expect token) a))
    pub told : TellsPieces m coming items start
    pub ends : b.did ≡ (pieces_after m coming items start).did

  -- What a step tells of packets that came, and of what the layers are given: over a datagram what that does, from where the call began; over
  -- any other input nothing.
  abbrev pub TellsInput : Meaning t → View t → Input → Step → View t → Type 0
  TellsInput m s (input.Datagram time remote ecn bytes) x s' = TellsDatagram m (record { time = time; remote = remote; mark = ecn }) bytes (began s time) (at s' x.did)
  TellsInput m s i x s' = (pieces_in x.did ≡ []) × (given_in x.did ≡ [])

  -- so does each step of a run
  unfoldable pub EachTellsPieces : Meaning t → ℕ → View t → List Input → List Step → View t → Type 0
  EachTellsPieces m k s (i ∷ is) (x ∷ xs) s' = (mid : View t) × IsStep m k s i x mid × TellsInput m s i x mid × EachTellsPieces m (k + 1) mid is xs s'
  EachTellsPieces m k s is xs s' = Unit {0}

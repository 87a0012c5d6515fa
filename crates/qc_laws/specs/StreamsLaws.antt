-- The streams of the application as the fold of their own steps: over moves, and over whole runs (RFC 9000, sections 2 to 4).
use Rattle.std.specs.Prelude.{◌≡◌, ℕ, nat_le, Bool, true, false, ◌||◌, not, if◌then◌else◌, List, [], ◌∷◌, ◌++◌, length, filter, Option, Some, Result}
use Rattle.std.specs.List.{list_any}
use Rattle.qc_frame.specs.Frame.{FrameValue}
use Rattle.qc_frame.specs.FrameSpelling.{spelling}
use Rattle.qc_recv.specs.declared.recv.Chunk.{Chunk}
use Rattle.qc_streams.specs.Steps.{AllMay}
use Rattle.qc_streams.specs.Waits.{Step, BytesAcked, BytesLost, Closed, ControlAcked, ControlLost, ControlSealed, LimitCame, LimitsKnown, MarksFiled, PartSealed, Polled, ResetCame, StopCame, StreamCame, StreamLimitCame, StreamsLimitCame, after}
use Rattle.qc_streams.specs.declared.fault.ReadFault.{ReadFault}
use Rattle.qc_streams.specs.declared.state.StreamsState.{StreamsState}
use Rattle.qc_state.specs.declared.deeds.Did.{Did}
use Rattle.qc_state.specs.declared.deeds.Did.TheVariants as did
use Rattle.qc_state.specs.declared.deeds.Layer.TheVariants as layer
use Rattle.qc_state.specs.declared.input.Input.{Input}
use Rattle.qc_state.specs.declared.input.Input.TheVariants.{Close, Datagram, Ping, Update, Timeout, Transmit, SendDatagram, RecvDatagram, Identifiers}
use Rattle.qc_state.specs.declared.trace.Step.{Step as TraceStep}
use Rattle.qc_state.specs.Headline.{deeds_of, lives_in}
use Rattle.qc_state.specs.Moves.{Move, Ack, Begin, Call, Fire, Hand, Learn, PeerCloses, PeerClosesToo, Raise, ReportStream, ReportStreams, Shut, Take, is_call}
use Rattle.qc_state.specs.Offers.{begun_steps}
use Rattle.qc_state.specs.StreamFrames.{acked_steps, fired_steps, lost_steps, sealed_steps}
use Rattle.qc_state.specs.Streams.{asked_for, call_answer, calls_of, events_of, is_given_to_streams, limits_of, steps_of_frame}
use Rattle.qc_state.specs.Types.{Types}
use Rattle.qc_state.specs.View.{View}
use Rattle.qc_streams.specs.Owed.{next_event}
use Rattle.qc_streams.specs.declared.events.StreamEvent.{StreamEvent}
use Rattle.qc_state.specs.declared.events.Event.{Event}
use Rattle.qc_state.specs.declared.events.Event.TheVariants.{Stream}
use Rattle.qc_laws.specs.EventLaws.{OnlyDoneWaits}
use Rattle.qc_laws.specs.EventLaws as events

-- ---- steps of one kind

-- none of these steps is of a kind
abbrev pub NoneOf : (kind : Step → Bool) → List Step → Type 0
NoneOf kind xs = list_any kind xs ≡ false

-- Of steps that the streams make from here on, those of a kind are what these things make of the streams, in order, each as its turn comes:
-- none is left out, and none made up.
abbrev pub AreMade : {A : Type 0} → (kind : Step → Bool) → (Makes : A → List Step → StreamsState → Type 0) → List A → List Step → StreamsState → Type 0
AreMade kind Makes [] xs s = NoneOf kind xs
AreMade kind Makes (x ∷ more) xs s =
    (front : List Step) × (made : List Step) × (rest : List Step) × (xs ≡ front ++ (made ++ rest)) × NoneOf kind front × Makes x made (after front s) × AreMade kind Makes more rest (after made (after front s))

-- ---- frames that come

-- whether a step is one that a frame makes
abbrev pub is_came : Step → Bool
is_came (StreamCame id offset body last) = true
is_came (ResetCame id code size) = true
is_came (StopCame id code) = true
is_came (StreamLimitCame id limit) = true
is_came (StreamsLimitCame dir count) = true
is_came (LimitCame limit) = true
is_came _ = false

-- what deeds give to the streams, in order
abbrev pub given_to_streams : List Did → List (List ℕ)
given_to_streams [] = []
given_to_streams (did.Gave layer.Streams body ∷ ds) = body ∷ given_to_streams ds
given_to_streams (_ ∷ ds) = given_to_streams ds

-- What is given so is a frame as it is spelled, and makes these steps: one, or none where it is refused, or is a DATAGRAM, which is given
-- so as well and is none of theirs
pub record MakesFrame (body : List ℕ) (made : List Step) (s : StreamsState) : Type 0 where
  pub frame : FrameValue
  pub given : is_given_to_streams frame ≡ true
  pub spelled : body ≡ spelling frame
  pub makes : made ≡ steps_of_frame frame s

-- ---- calls of the application

-- an input is a call of the streams
abbrev pub is_streams_call : Input → Bool
is_streams_call (Datagram time remote ecn bytes) = false
is_streams_call (Timeout time) = false
is_streams_call (Transmit time max) = false
is_streams_call (Close time code reason) = false
is_streams_call (Ping time) = false
is_streams_call (Update time) = false
is_streams_call (SendDatagram time body) = false
is_streams_call (RecvDatagram time) = false
is_streams_call (Identifiers time ids) = false
is_streams_call _ = true

-- inputs, each with the step of the trace that it is
abbrev pub with_steps : List Input → List TraceStep → List (Input × TraceStep)
with_steps (i ∷ is) (x ∷ xs) = (i, x) ∷ with_steps is xs
with_steps _ _ = []

-- An input makes these steps, one at most, and where it is a call of the streams, it answers what that is answered. `read` is what a read
-- answers.
pub record MakesCall (call : Input × TraceStep) (made : List Step) (s : StreamsState) : Type 0 where
  pub read : Result (Option Chunk) ReadFault
  pub makes : made ≡ calls_of call.0 read s
  pub answers : is_streams_call call.0 ≡ true → call.1.answer ≡ call_answer call.0 read s

-- ---- the end of a connection

-- whether a step is that the connection isn't open any more
abbrev pub is_closing : Step → Bool
is_closing Closed = true
is_closing _ = false

-- where the life rises to this rank, that is so from Closed on
abbrev pub MakesClose : (rank : ℕ) → List Step → StreamsState → Type 0
MakesClose rank made s = made ≡ (if nat_le 2 rank then Closed ∷ [] else [])

-- ---- events

-- whether a step is that an event is asked for
abbrev pub is_asked : Step → Bool
is_asked Polled = true
is_asked _ = false

-- those events that are of streams, in order
abbrev pub streams_told : List Event → List StreamEvent
streams_told [] = []
streams_told (Stream event ∷ es) = event ∷ streams_told es
streams_told (_ ∷ es) = streams_told es

-- an event that is told is the next one
abbrev pub MakesEvent : StreamEvent → List Step → StreamsState → Type 0
MakesEvent event made s = (made ≡ Polled ∷ []) × (next_event s ≡ Some event)

-- ---- frames that are sealed

-- whether a step is that a frame is sealed
abbrev pub is_sealed : Step → Bool
is_sealed (ControlSealed c) = true
is_sealed (PartSealed d) = true
is_sealed _ = false

-- the frames of the packets that deeds seal, in order
abbrev pub frames_sealed : List Did → List FrameValue
frames_sealed [] = []
frames_sealed (did.Sealed space number epoch early fs ∷ ds) = fs ++ frames_sealed ds
frames_sealed (_ ∷ ds) = frames_sealed ds

-- ---- all steps

-- whether a step is that frames which were sealed are acknowledged or lost, or that streams are looked at what they owe
abbrev pub is_settled : Step → Bool
is_settled MarksFiled = true
is_settled (ControlLost c) = true
is_settled (ControlAcked c) = true
is_settled (BytesLost id start end last) = true
is_settled (BytesAcked id start end last) = true
is_settled _ = false

-- whether a step is that the peer's limits are known
abbrev pub is_learned : Step → Bool
is_learned (LimitsKnown limits) = true
is_learned _ = false

-- whether it is none of these
abbrev pub is_other : Step → Bool
is_other x = not (is_came x || (is_call x || (is_closing x || (is_asked x || (is_sealed x || (is_settled x || is_learned x))))))

module _ {t : Types} where
  -- which of the streams' own steps a move is
  unfoldable pub streams_steps : Move t → View t → List Step
  streams_steps (Take id fs) s = sealed_steps fs
  streams_steps (Begin id opens) s = begun_steps id opens s
  streams_steps (Ack id n r) s = acked_steps r.acked ++ lost_steps r.lost
  streams_steps (Fire r) s = fired_steps r.fired
  streams_steps (Hand frame) s = steps_of_frame frame s.lower.streams
  streams_steps (Call x) s = x ∷ []
  streams_steps (Learn parameters) s = LimitsKnown (limits_of parameters) ∷ []
  streams_steps (Shut time close) s = Closed ∷ []
  streams_steps (PeerCloses time) s = Closed ∷ []
  streams_steps PeerClosesToo s = Closed ∷ []
  streams_steps (Raise to) s = Closed ∷ []
  streams_steps ReportStream s = asked_for 1
  streams_steps ReportStreams s = asked_for (length (events_of s.lower.streams))
  streams_steps _ s = []

  -- From one view to another, over inputs whose trace is this, the streams made steps: each of them may be made as its turn comes, and the
  -- streams are what they leave. Those of the steps that frames make are the ones of the frames that the deeds gave to the streams; those
  -- that calls make are the ones of the inputs, which answer so; they are closed where the life rises to Closed or further; each event of
  -- theirs that is told is their next one, where only what came to pass waits; those with which frames are sealed are the ones of the
  -- frames of the packets that the deeds seal, in order, none left out and none made up; and any other step is that such frames are
  -- acknowledged or lost, that streams are looked at what they owe, or that the peer's limits are known. So whatever holds over any steps
  -- of the streams holds over these.
  pub record FoldsStreams (is : List Input) (xs : List TraceStep) (s s' : View t) : Type 0 where
    pub steps : List Step
    pub may : AllMay steps s.lower.streams
    pub leads : s'.lower.streams ≡ after steps s.lower.streams
    pub handed : AreMade is_came MakesFrame (given_to_streams (deeds_of xs)) steps s.lower.streams
    pub called : AreMade is_call MakesCall (with_steps is xs) steps s.lower.streams
    pub closed : AreMade is_closing MakesClose (lives_in (deeds_of xs)) steps s.lower.streams
    pub told : OnlyDoneWaits s.life → AreMade is_asked MakesEvent (streams_told (events.events_of xs)) steps s.lower.streams
    pub sealed : filter is_sealed steps ≡ sealed_steps (frames_sealed (deeds_of xs))
    pub only : NoneOf is_other steps

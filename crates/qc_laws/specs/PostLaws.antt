-- Laws over whole runs, said of the datagrams of the application (RFC 9221, sections 3 and 5), in words of the trace.
use Rattle.std.specs.Prelude.{◌≡◌, ◌⊎◌, ℕ, Bool, true, false, List, [], ◌∷◌, ◌++◌, Option}
use Rattle.std.specs.List.{list_all, list_any}
use Rattle.qc_datagrams.specs.Datagrams.{new_datagrams, send_refusal}
use Rattle.qc_datagrams.specs.Given.{AreInOrder}
use Rattle.qc_datagrams.specs.Steps.{Step, Sent, Shrunk, Taken, after}
use Rattle.qc_datagrams.specs.declared.datagrams.Datagrams.{Datagrams}
use Rattle.qc_frame.specs.Frame.{FrameValue}
use Rattle.qc_frame.specs.FrameSpelling.{spelling}
use Rattle.qc_frame.specs.declared.frames.FrameOf.TheVariants as frames
use Rattle.qc_state.specs.declared.events.Event.{Event}
use Rattle.qc_state.specs.declared.events.Event.TheVariants.{DatagramReceived, DatagramsUnblocked}
use Rattle.qc_state.specs.declared.input.Input.{Input}
use Rattle.qc_state.specs.declared.input.Input.TheVariants as input
use Rattle.qc_state.specs.declared.trace.Answer.{Answer}
use Rattle.qc_state.specs.declared.trace.Answer.TheVariants as answer
use Rattle.qc_state.specs.declared.trace.Step.{Step as TraceStep}
use Rattle.qc_state.specs.declared.deeds.Did.{Did}
use Rattle.qc_state.specs.declared.deeds.Did.TheVariants as did
use Rattle.qc_state.specs.declared.deeds.Layer.TheVariants as layer
use Rattle.qc_state.specs.Datagrams.{AllOldest, datagram_steps, sealed_datagrams, sent_answer, taken_answer, told_by_all}
use Rattle.qc_state.specs.Types.{Types}
use Rattle.qc_state.specs.View.{View}
use Rattle.qc_laws.specs.ReadLaws.{given_in}
use Rattle.qc_laws.specs.StreamsLaws.{frames_sealed, with_steps}

-- ---- the fold of their steps

-- the events that tell of datagrams, in order: that one came, and that there is room again
abbrev pub heard_in : List Event → List Event
heard_in [] = []
heard_in (DatagramReceived ∷ es) = DatagramReceived ∷ heard_in es
heard_in (DatagramsUnblocked ∷ es) = DatagramsUnblocked ∷ heard_in es
heard_in (_ ∷ es) = heard_in es

-- whether a step is that those are dropped which are to be sent and no longer fit
abbrev pub is_shrunk : Step → Bool
is_shrunk (Shrunk most) = true
is_shrunk _ = false

-- all of these steps are
abbrev pub AreShrunk : List Step → Type 0
AreShrunk xs = list_all is_shrunk xs ≡ true

-- none of these steps is
abbrev pub NoneShrunk : List Step → Type 0
NoneShrunk xs = list_any is_shrunk xs ≡ false

-- Deeds make these steps of them, one after the other, each as its turn comes. What is given to streams and datagrams is a frame as it is
-- spelled: a DATAGRAM frame makes that it comes, which they may refuse, and any other none. A packet that is sealed makes one step for each
-- of its DATAGRAM frames, none left out and none made up, and each of these holds the oldest datagram that is to be sent then. Any other deed
-- makes none. That those are dropped which no longer fit is told by no deed: before a deed, and behind all, there may be such steps.
abbrev pub AreOfDeeds : List Did → List Step → Datagrams → Type 0
AreOfDeeds [] made d = AreShrunk made
AreOfDeeds (did.Gave layer.Streams body ∷ ds) made d =
    (shrunk : List Step) × (frame : FrameValue) × (rest : List Step) × AreShrunk shrunk × (body ≡ spelling frame) × (made ≡ shrunk ++ (datagram_steps frame ++ rest)) × AreOfDeeds ds rest (after (datagram_steps frame) (after shrunk d))
AreOfDeeds (did.Sealed space number epoch early fs ∷ ds) made d =
    (shrunk : List Step) × (rest : List Step) × AreShrunk shrunk × (made ≡ shrunk ++ (sealed_datagrams fs ++ rest)) × AllOldest fs (after shrunk d) × AreOfDeeds ds rest (after (sealed_datagrams fs) (after shrunk d))
AreOfDeeds (_ ∷ ds) made d = AreOfDeeds ds made d

-- An input makes these steps of them: one that sends a datagram, or takes one, is that, and answers as they are then, and its deeds make
-- none; `most` is how long one may be, where the peer takes any. Any other makes those of its deeds. Only where a datagram comes, or timers do,
-- may some be dropped which no longer fit.
abbrev pub MakesPosts : Input → TraceStep → List Step → Datagrams → Type 0
MakesPosts (input.SendDatagram time body) x made d = (most : Option ℕ) × (made ≡ Sent most true body ∷ []) × (x.answer ≡ sent_answer (send_refusal most true body d)) × AreOfDeeds x.did [] d
MakesPosts (input.RecvDatagram time) x made d = (made ≡ Taken ∷ []) × (x.answer ≡ taken_answer d.incoming) × AreOfDeeds x.did [] d
MakesPosts (input.Datagram time remote ecn bytes) x made d = AreOfDeeds x.did made d
MakesPosts (input.Timeout time) x made d = AreOfDeeds x.did made d
MakesPosts _ x made d = NoneShrunk made × AreOfDeeds x.did made d

-- Steps are those of the inputs, one after the other, each as its turn comes. What the events of an input tell of datagrams is what waited
-- before, and then what its steps tell: that one came where none was queued, and that there is room again where one is sealed and another had
-- been refused before because of a full buffer.
abbrev pub ArePosts : (waited : List Event) → List (Input × TraceStep) → List Step → Datagrams → Type 0
ArePosts waited [] xs d = xs ≡ []
ArePosts waited (call ∷ calls) xs d =
    (made : List Step) × (rest : List Step) × (xs ≡ made ++ rest) × MakesPosts call.0 call.1 made d × (heard_in call.1.events ≡ waited ++ told_by_all made d) × ArePosts [] calls rest (after made d)

module _ {t : Types} where
  -- From one view to another, over inputs whose trace is this, the datagrams made these steps, and are what they leave: those of the frames
  -- that the deeds gave and of the DATAGRAM frames that they sealed, and of the inputs that send or take one, which answer so; none is left
  -- out, none made up, and each in its turn. Beside them there is only that, where a datagram or a timer comes, those are dropped which are to
  -- be sent and no longer fit. So whatever holds over any steps of the datagrams holds over these.
  pub record FoldsPosts (is : List Input) (xs : List TraceStep) (s s' : View t) : Type 0 where
    pub steps : List Step
    pub leads : s'.lower.datagrams ≡ after steps s.lower.datagrams
    pub are : ArePosts (heard_in s.life.heard) (with_steps is xs) steps s.lower.datagrams

-- ---- what is taken

-- the datagram that the answer of an input gives
abbrev pub taken_by : Input → Answer → List (List ℕ)
taken_by (input.RecvDatagram time) (answer.Datagram body) = body ∷ []
taken_by _ _ = []

-- those that the answers of inputs give, in order
abbrev pub taken_in : List (Input × TraceStep) → List (List ℕ)
taken_in [] = []
taken_in (call ∷ calls) = taken_by call.0 call.1.answer ++ taken_in calls

-- These are the datagrams of DATAGRAM frames among what was given, in order: others may have been refused
abbrev pub AreDatagrams : List (List ℕ) → List (List ℕ) → Type 0
AreDatagrams [] ds = ds ≡ []
AreDatagrams (body ∷ more) ds = ((d : List ℕ) × (rest : List (List ℕ)) × (ds ≡ d ∷ rest) × (body ≡ spelling (frames.Datagram d)) × AreDatagrams more rest) ⊎ AreDatagrams more ds

-- What is taken came: the datagrams that the answers give are some of those that came, in their order, each once
pub record TakesCame (calls : List (Input × TraceStep)) : Type 0 where
  pub came : List (List ℕ)
  pub among : AreDatagrams (given_in calls) came
  pub takes : AreInOrder (taken_in calls) came

-- so it is with inputs and their trace
unfoldable pub TakesTrace : List Input → List TraceStep → Type 0
TakesTrace is xs = TakesCame (with_steps is xs)

-- ---- what is sealed

-- the datagrams that DATAGRAM frames hold, in order
abbrev pub datagrams_in : List FrameValue → List (List ℕ)
datagrams_in [] = []
datagrams_in (frames.Datagram body ∷ fs) = body ∷ datagrams_in fs
datagrams_in (_ ∷ fs) = datagrams_in fs

-- those in the packets that inputs seal, in order
abbrev pub sealed_in : List (Input × TraceStep) → List (List ℕ)
sealed_in [] = []
sealed_in (call ∷ calls) = datagrams_in (frames_sealed call.1.did) ++ sealed_in calls

-- the datagram that an input sends, where it isn't refused
abbrev pub sent_by : Input → Answer → List (List ℕ)
sent_by (input.SendDatagram time body) answer.Done = body ∷ []
sent_by _ _ = []

-- those that inputs send, in order
abbrev pub sent_in : List (Input × TraceStep) → List (List ℕ)
sent_in [] = []
sent_in (call ∷ calls) = sent_by call.0 call.1.answer ++ sent_in calls

-- What is sealed was sent: the datagrams in DATAGRAM frames of packets that are sealed are some of those that the inputs sent, in their
-- order, each once
unfoldable pub SealsSent : List Input → List TraceStep → Type 0
SealsSent is xs = AreInOrder (sealed_in (with_steps is xs)) (sent_in (with_steps is xs))

module _ {t : Types} where
  -- the datagrams are those of a connection that was just made
  abbrev pub HasNewDatagrams : View t → Type 0
  HasNewDatagrams s = (receive : Option ℕ) × (send : ℕ) × (s.lower.datagrams ≡ new_datagrams receive send)

-- The datagrams of the application as a layer with steps of its own (RFC 9221): which frames it is handed, why it refuses one, which of its
-- own frames are sealed, and what the application's calls are answered. What a step makes of them stands with the datagrams, and is opened
-- nowhere here.
use Rattle.std.specs.Prelude.{◌≡◌, ℕ, nat_le, nat_lt, Bool, false, ◌&&◌, not, ◌==◌, if◌then◌else◌, List, [], ◌∷◌, ◌++◌, length, Option, None, Some}
use Rattle.qc_base.specs.declared.transport_error.TransportError.{TransportError}
use Rattle.qc_datagrams.specs.declared.datagrams.Datagrams.{Datagrams}
use Rattle.qc_datagrams.specs.declared.datagrams.SendRefusal.{SendRefusal}
use Rattle.qc_datagrams.specs.declared.datagrams.SendRefusal.TheVariants as send
use Rattle.qc_datagrams.specs.Datagrams.{is_refused}
use Rattle.qc_datagrams.specs.Queue.{first}
use Rattle.qc_datagrams.specs.Size.{max_size}
use Rattle.qc_datagrams.specs.Steps.{Step, Came, Sealed, Shrunk, after, after_step}
use Rattle.qc_frame.specs.Frame.{FrameValue}
use Rattle.qc_frame.specs.FrameSpelling.{spelling}
use Rattle.qc_frame.specs.declared.frames.FrameOf.TheVariants as frames
use Rattle.qc_params.specs.declared.params.TransportParameters.{TransportParameters}
use Rattle.qc_state.specs.Paths.{most_on}
use Rattle.qc_state.specs.declared.paths.Path.{Path}
use Rattle.qc_state.specs.declared.events.Event.{Event}
use Rattle.qc_state.specs.declared.events.Event.TheVariants.{DatagramReceived, DatagramsUnblocked}
use Rattle.qc_state.specs.declared.trace.Answer.{Answer}
use Rattle.qc_state.specs.declared.trace.Answer.TheVariants as answer
use Rattle.qc_state.specs.declared.trace.Refusal.TheVariants as refusal

-- the error with which the datagrams refuse a frame, if they do: none may come, or it is longer than the receive buffer (RFC 9221, section 3)
abbrev pub datagram_stop : FrameValue → Datagrams → Option TransportError
datagram_stop (frames.Datagram body) d = if is_refused body d then Some (record { code = 0x0a; frame = None }) else None
datagram_stop _ d = None

-- the steps that a frame is
abbrev pub datagram_steps : FrameValue → List Step
datagram_steps (frames.Datagram body) = Came body ∷ []
datagram_steps _ = []

-- whether that one came is to be told from then on: none was queued before it
abbrev pub tells_datagram : FrameValue → Datagrams → Bool
tells_datagram (frames.Datagram body) d = not (is_refused body d) && (length d.incoming == 0)
tells_datagram _ d = false

-- the step with which a frame is sealed, where it is a DATAGRAM
abbrev pub sealed_datagram : FrameValue → List Step
sealed_datagram (frames.Datagram body) = Sealed ∷ []
sealed_datagram _ = []

-- those of all frames of a packet, in their order
unfoldable pub sealed_datagrams : List FrameValue → List Step
sealed_datagrams [] = []
sealed_datagrams (f ∷ fs) = sealed_datagram f ++ sealed_datagrams fs

-- what is told of a step to the application: that one came where none was queued before it; and that there is room again, where one is sealed
-- and another had been refused before because of a full buffer
abbrev pub told_by : Step → Datagrams → List Event
told_by (Came body) d = if tells_datagram (frames.Datagram body) d then DatagramReceived ∷ [] else []
told_by Sealed d = if d.blocked then DatagramsUnblocked ∷ [] else []
told_by _ d = []

-- what is told of steps, each as its turn comes
unfoldable pub told_by_all : List Step → Datagrams → List Event
told_by_all [] d = []
told_by_all (x ∷ xs) d = told_by x d ++ told_by_all xs (after_step x d)

-- a frame that is a DATAGRAM is the oldest that is to be sent
abbrev pub IsOldest : FrameValue → Datagrams → Type 0
IsOldest (frames.Datagram body) d = first d.outgoing ≡ body ∷ []
IsOldest _ d = Unit {0}

-- each DATAGRAM among frames is the oldest as its turn comes: none overtakes another (RFC 9221, section 5)
unfoldable pub AllOldest : List FrameValue → Datagrams → Type 0
AllOldest [] d = Unit {0}
AllOldest (f ∷ fs) d = IsOldest f d × AllOldest fs (after (sealed_datagram f) d)

-- whether the oldest that is to be sent fits into so much room, as its frame is spelled with its length; where none is, it doesn't
abbrev pub first_fits : (room : ℕ) → List (List ℕ) → Bool
first_fits room [] = false
first_fits room (d ∷ ds) = nat_le (length (spelling (frames.Datagram d))) room

-- how long a frame may be that the peer takes, where it takes any
abbrev pub frame_size_of : Option TransportParameters → Option ℕ
frame_size_of None = None
frame_size_of (Some p) = p.max_datagram_frame_size

-- A datagram has the size that the peer takes, and a packet, at most (RFC 9221, section 3). How long one may be on a path, where the peer takes
-- any: it goes in a 1-RTT packet alone, in a datagram of that path
abbrev pub limit_on : {C : Type 0} → Path C → Option TransportParameters → Option ℕ
limit_on path peer = max_size (most_on path) (length path.remote_cid) (frame_size_of peer)

-- those that are too long for this limit are dropped
abbrev pub drops_to : Option ℕ → List Step
drops_to None = []
drops_to (Some most) = Shrunk most ∷ []

-- Where a path takes smaller datagrams than before, as behind a black hole, those of the application that are to be sent and no longer fit are
-- dropped, since a DATAGRAM isn't cut (RFC 9221, section 5; RFC 8899, section 4.3). `before` is the size that its search had found before
unfoldable pub shrunk_by : {C : Type 0} → (before : ℕ) → Path C → Option TransportParameters → List Step
shrunk_by before path peer = if nat_lt path.kept.mtud.current before then drops_to (limit_on path peer) else []

-- what is answered where one is to be sent
abbrev pub sent_answer : Option SendRefusal → Answer
sent_answer None = answer.Done
sent_answer (Some send.Disabled) = answer.Error refusal.Disabled
sent_answer (Some send.UnsupportedByPeer) = answer.Error refusal.UnsupportedByPeer
sent_answer (Some send.TooLarge) = answer.Error refusal.TooLarge
sent_answer (Some send.Blocked) = answer.Error refusal.Blocked

-- what is answered where one is taken: the oldest, where there is one
abbrev pub taken_answer : List (List ℕ) → Answer
taken_answer [] = answer.Nothing
taken_answer (d ∷ ds) = answer.Datagram d

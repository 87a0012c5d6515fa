-- Laws over whole runs, said of what is read of the streams of the application (RFC 9000, sections 2.2 and 3.2), in words of the trace.
use Rattle.std.specs.Prelude.{◌≡◌, ◌⊎◌, ℕ, ◌+◌, ◌==◌, Bool, true, false, if◌then◌else◌, List, [], ◌∷◌, ◌++◌, length, take}
use Rattle.std.specs.List.{list_any}
use Rattle.qc_assembler.specs.Assembly.{add, run}
use Rattle.qc_base.specs.declared.side.Side.{Side}
use Rattle.qc_frame.specs.Frame.{FrameValue}
use Rattle.qc_frame.specs.FrameSpelling.{spelling}
use Rattle.qc_frame.specs.declared.frames.FrameOf.TheVariants as frames
use Rattle.qc_recovery.specs.TransportValues.{TransportValues}
use Rattle.qc_state.specs.declared.input.Input.{Input}
use Rattle.qc_state.specs.declared.input.Input.TheVariants as input
use Rattle.qc_state.specs.declared.trace.Answer.{Answer}
use Rattle.qc_state.specs.declared.trace.Answer.TheVariants as answer
use Rattle.qc_state.specs.declared.trace.Refusal.TheVariants as refusal
use Rattle.qc_state.specs.declared.trace.Step.{Step as TraceStep}
use Rattle.qc_state.specs.First.{first_streams}
use Rattle.qc_state.specs.Types.{Types}
use Rattle.qc_state.specs.View.{View}
use Rattle.qc_laws.specs.StreamsLaws.{given_to_streams, with_steps}

-- ---- what is read

-- the bytes of the stream with an id that the answer of an input gives
abbrev pub read_by : ℕ → Input → Answer → List ℕ
read_by id (input.Read time stream max) (answer.Read offset body) = if stream == id then body else []
read_by id _ _ = []

-- those that the answers of inputs give, one behind the other
abbrev pub read_in : ℕ → List (Input × TraceStep) → List ℕ
read_in id [] = []
read_in id (call ∷ calls) = read_by id call.0 call.1.answer ++ read_in id calls

-- ---- what came

-- what their deeds give to the streams, in order
abbrev pub given_in : List (Input × TraceStep) → List (List ℕ)
given_in [] = []
given_in (call ∷ calls) = given_to_streams call.1.did ++ given_in calls

-- These frames are those that the streams took of what was given to them, in order: they may have refused others
abbrev pub AreTaken : List (List ℕ) → List FrameValue → Type 0
AreTaken [] fs = fs ≡ []
AreTaken (body ∷ more) fs = ((frame : FrameValue) × (rest : List FrameValue) × (fs ≡ frame ∷ rest) × (body ≡ spelling frame) × AreTaken more rest) ⊎ AreTaken more fs

-- the bytes that come on the stream with an id, each with its offset, and at each offset the first
abbrev pub came_with : ℕ → FrameValue → List (ℕ × ℕ) → List (ℕ × ℕ)
came_with id (frames.Stream stream offset fin body) came = if stream == id then add offset body came else came
came_with id _ came = came

-- the same of frames, beside those that came before
abbrev pub came_in : ℕ → List FrameValue → List (ℕ × ℕ) → List (ℕ × ℕ)
came_in id [] came = came
came_in id (frame ∷ fs) came = came_in id fs (came_with id frame came)

-- ---- the end

-- what is given is a STREAM frame of the stream with an id that tells its end: behind so many bytes
pub record IsEnd (id size : ℕ) (body : List ℕ) : Type 0 where
  pub offset : ℕ
  pub bytes : List ℕ
  pub spelled : body ≡ spelling (frames.Stream id offset true bytes)
  pub ends : offset + length bytes ≡ size

-- such a frame stands among what was given
abbrev pub TellsEnd : (id size : ℕ) → List (List ℕ) → Type 0
TellsEnd id size [] = ⊥
TellsEnd id size (body ∷ more) = IsEnd id size body ⊎ TellsEnd id size more

-- An answer says that a stream was read to its end only where a frame told its end which came before, and all bytes up to it were read:
-- those that the answers before gave
abbrev pub EndIs : Input → Answer → (before : List (Input × TraceStep)) → Type 0
EndIs (input.Read time id max) answer.Ended before = TellsEnd id (length (read_in id before)) (given_in before)
EndIs _ _ before = Unit {0}

-- so it is with each input, behind those before
abbrev pub EachEnd : (before : List (Input × TraceStep)) → List (Input × TraceStep) → Type 0
EachEnd before [] = Unit {0}
EachEnd before (call ∷ calls) = EndIs call.0 call.1.answer before × EachEnd (before ++ call ∷ []) calls

-- ---- once

-- an answer of an input says that the stream with an id was read to its end
abbrev pub ends_by : ℕ → Input → Answer → Bool
ends_by id (input.Read time stream max) answer.Ended = stream == id
ends_by id _ _ = false

-- one of them says so
abbrev pub ends_in : ℕ → List (Input × TraceStep) → Bool
ends_in id calls = list_any (λ call. ends_by id call.0 call.1.answer) calls

-- from then on a read of the stream answers that it is closed
abbrev pub ClosedIs : Input → Answer → (before : List (Input × TraceStep)) → Type 0
ClosedIs (input.Read time id max) a before = ends_in id before ≡ true → a ≡ answer.Error refusal.ClosedStream
ClosedIs _ a before = Unit {0}

-- so it is with each input, behind those before
abbrev pub EachClosed : (before : List (Input × TraceStep)) → List (Input × TraceStep) → Type 0
EachClosed before [] = Unit {0}
EachClosed before (call ∷ calls) = ClosedIs call.0 call.1.answer before × EachClosed (before ++ call ∷ []) calls

-- ---- all of it

-- What was read of each stream, one answer behind the other, are the first of the bytes that came on it, from offset 0 on, each once, and
-- at each offset the one that came first; and only where they are all up to the end of the stream an answer says so, and that once: from
-- then on the stream is closed to reads.
pub record ReadsCame (calls : List (Input × TraceStep)) : Type 0 where
  pub taken : List FrameValue
  pub among : AreTaken (given_in calls) taken
  pub reads : (id : ℕ) → take (length (read_in id calls)) (came_in id taken []) ≡ run 0 (read_in id calls)
  pub ends : EachEnd [] calls
  pub once : EachClosed [] calls

-- so it is with inputs and their trace
unfoldable pub ReadsTrace : List Input → List TraceStep → Type 0
ReadsTrace is xs = ReadsCame (with_steps is xs)

module _ {t : Types} where
  -- the streams are those of a connection that was just made
  abbrev pub HasNewStreams : View t → Type 0
  HasNewStreams s = (side : Side) × (transport : TransportValues) × (s.lower.streams ≡ first_streams side transport)

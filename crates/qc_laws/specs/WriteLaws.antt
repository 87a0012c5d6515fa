-- Laws over whole runs, said of what is sealed of the streams of the application (RFC 9000, sections 2.2 and 3.1), in words of the trace.
use Rattle.std.specs.Prelude.{◌≡◌, ℕ, ◌+◌, ◌==◌, Bool, true, false, if◌then◌else◌, List, [], ◌∷◌, ◌++◌, length, take, drop}
use Rattle.std.specs.List.{list_any}
use Rattle.qc_frame.specs.Frame.{FrameValue}
use Rattle.qc_frame.specs.declared.frames.FrameOf.TheVariants as frames
use Rattle.qc_state.specs.declared.input.Input.{Input}
use Rattle.qc_state.specs.declared.input.Input.TheVariants as input
use Rattle.qc_state.specs.declared.trace.Answer.{Answer}
use Rattle.qc_state.specs.declared.trace.Answer.TheVariants as answer
use Rattle.qc_state.specs.declared.trace.Step.{Step as TraceStep}
use Rattle.qc_laws.specs.StreamsLaws.{frames_sealed, with_steps}

-- ---- what is written

-- the bytes that an input writes on the stream with an id: the first of those that it has, as many as it answers
abbrev pub written_by : ℕ → Input → Answer → List ℕ
written_by id (input.Write time stream body) (answer.Wrote n) = if stream == id then take n body else []
written_by id _ _ = []

-- those that inputs write, one behind the other
abbrev pub written_in : ℕ → List (Input × TraceStep) → List ℕ
written_in id [] = []
written_in id (call ∷ calls) = written_by id call.0 call.1.answer ++ written_in id calls

-- an input finishes the stream with an id
abbrev pub finishes_by : ℕ → Input → Answer → Bool
finishes_by id (input.Finish time stream) answer.Done = stream == id
finishes_by id _ _ = false

-- one of them does
abbrev pub finished_in : ℕ → List (Input × TraceStep) → Bool
finished_in id calls = list_any (λ call. finishes_by id call.0 call.1.answer) calls

-- ---- what is sealed

-- A STREAM frame has the bytes that were written on its stream, from its offset on; and the end is with them only where the stream was
-- finished, and nothing more was written on it
pub record IsWritten (id offset : ℕ) (fin : Bool) (body : List ℕ) (before : List (Input × TraceStep)) : Type 0 where
  pub bytes : body ≡ take (length body) (drop offset (written_in id before))
  pub finished : fin ≡ true → finished_in id before ≡ true
  pub end : fin ≡ true → offset + length body ≡ length (written_in id before)

-- so it is with each STREAM frame of these
abbrev pub AreWritten : List FrameValue → (before : List (Input × TraceStep)) → Type 0
AreWritten [] before = Unit {0}
AreWritten (frames.Stream id offset fin body ∷ fs) before = IsWritten id offset fin body before × AreWritten fs before
AreWritten (_ ∷ fs) before = AreWritten fs before

-- so it is with the frames that each input seals, behind the inputs before it
abbrev pub EachWritten : (before : List (Input × TraceStep)) → List (Input × TraceStep) → Type 0
EachWritten before [] = Unit {0}
EachWritten before (call ∷ calls) = AreWritten (frames_sealed call.1.did) before × EachWritten (before ++ call ∷ []) calls

-- What is sealed of a stream was written: each STREAM frame in a packet that is sealed has the bytes that the inputs before it wrote on its
-- stream, in the place where they wrote them, and the end only where one of them finished the stream there
unfoldable pub SealsWritten : List Input → List TraceStep → Type 0
SealsWritten is xs = EachWritten [] (with_steps is xs)

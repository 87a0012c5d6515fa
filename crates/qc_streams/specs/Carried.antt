-- What is sent on a stream are the bytes that were written on it, and what is read are those that came (RFC 9000, section 2.2)
use Rattle.std.specs.Prelude.{◌≡◌, ℕ, ◌+◌, ◌≤◌, ◌==◌, Bool, false, true, not, ◌||◌, if◌then◌else◌, List, [], ◌∷◌, ◌++◌, length, take, drop, Option, None, Some, Result, Ok, Err}
use Rattle.std.specs.List.{All, count_by, list_all}
use Rattle.std.specs.Map.{lookup}
use Rattle.qc_assembler.specs.Assembly.{add, run}
use Rattle.qc_recv.specs.declared.recv.Chunk.{Chunk}
use Rattle.qc_recv.specs.declared.recv.Recv.{Recv}
use Rattle.qc_send_stream.specs.declared.send.Part.{Part}
use Rattle.qc_streams.specs.declared.fault.ReadFault.{ReadFault}
use Rattle.qc_streams.specs.declared.fault.ReadFault.TheVariants.{ClosedStream, OutOfMemory}
use Rattle.qc_streams.specs.declared.state.StreamsState.{StreamsState}
use Rattle.qc_streams.specs.Calls.{IsReadOf, receiving_at}
use Rattle.qc_streams.specs.StreamBytes.{IsOfferAt}
use Rattle.qc_streams.specs.Records.{record_of}
use Rattle.qc_streams.specs.Waits.{ArePossible, Step, Began, EarlyRefused, Read, StreamCame, Wrote, after, after_step}
use Rattle.qc_streams.specs.Within.{AreTaken}

-- ---- what is sent

-- the bytes that were written on a stream, one write after the other; none once the server refused early data
unfoldable pub with_written : ℕ → Step → List ℕ → List ℕ
with_written id (Wrote j n chunk) bs = if j == id then bs ++ take n chunk else bs
with_written id EarlyRefused bs = []
with_written id x bs = bs

-- the same over steps, behind those that were written before
unfoldable pub written_on : ℕ → List Step → List ℕ → List ℕ
written_on id [] bs = bs
written_on id (x ∷ xs) bs = written_on id xs (with_written id x bs)

-- A part of a stream holds the bytes that were written from its offset on, and the end only where they end
pub record HoldsWritten (written : List ℕ) (part : Part) : Type 0 where
  pub bytes : part.bytes ≡ take (length part.bytes) (drop part.offset written)
  pub end : part.last ≡ true → part.offset + length part.bytes ≡ length written

-- Whatever happened, so does each part that a stream may give next
unfoldable pub SendsWhatWasWritten : StreamsState → List Step → Type 0
SendsWhatWasWritten s xs =
    ArePossible xs → AreTaken xs s → (id most : ℕ) (part : Part) → IsOfferAt most (record_of id (after xs s).records) (Some part)
    → HoldsWritten (written_on id xs []) part

-- ---- what is read

-- the bytes that came on a stream, each with its offset, and at each offset the first
unfoldable pub with_came : ℕ → Step → List (ℕ × ℕ) → List (ℕ × ℕ)
with_came id (StreamCame j o bs last) came = if j == id then add o bs came else came
with_came id EarlyRefused came = []
with_came id x came = came

-- the same over steps, beside those that came before
unfoldable pub came_on : ℕ → List Step → List (ℕ × ℕ) → List (ℕ × ℕ)
came_on id [] came = came
came_on id (x ∷ xs) came = came_on id xs (with_came id x came)

-- the bytes that were read on it, one read after the other
unfoldable pub with_read : ℕ → Step → List ℕ → List ℕ
with_read id (Read ordered (Ok (Some c)) j) bs = if j == id then bs ++ c.bytes else bs
with_read id EarlyRefused bs = []
with_read id x bs = bs

-- the same over steps, behind those that were read before
unfoldable pub read_on : ℕ → List Step → List ℕ → List ℕ
read_on id [] bs = bs
read_on id (x ∷ xs) bs = read_on id xs (with_read id x bs)

-- A read answers what it may
unfoldable pub IsAnswered : Step → StreamsState → Type 0
IsAnswered (Read ordered result id) s = (most : ℕ) × IsReadOf most ordered (receiving_at id s) result
IsAnswered x s = Unit {0}

-- All of them do, each where the steps before it were made
unfoldable pub AreAnswered : List Step → StreamsState → Type 0
AreAnswered [] s = Unit {0}
AreAnswered (x ∷ xs) s = IsAnswered x s × AreAnswered xs (after_step x s)

-- whether a step doesn't read a stream out of order
unfoldable pub keeps_order : ℕ → Step → Bool
keeps_order id (Began ordered j) = not (j == id) || ordered
keeps_order id (Read ordered result j) = not (j == id) || ordered
keeps_order id x = true

-- The end of what comes, where it is known
abbrev pub size_of : Option Recv → Option ℕ
size_of None = None
size_of (Some r) = r.size

-- Whatever happened, what was read in order on a stream are the first of the bytes that came on it, from offset 0 on, each once; and
-- where the end may be told, they are all up to the end
pub record ReadsCame (id : ℕ) (s : StreamsState) (xs : List Step) : Type 0 where
  pub bytes : take (length (read_on id xs [])) (came_on id xs []) ≡ run 0 (read_on id xs [])
  pub end : (most : ℕ) → IsReadOf most true (receiving_at id (after xs s)) (Ok None) → size_of (receiving_at id (after xs s)) ≡ Some (length (read_on id xs []))

-- That holds of every stream that isn't read out of order
unfoldable pub ReadsWhatCame : StreamsState → List Step → Type 0
ReadsWhatCame s xs =
    ArePossible xs → AreTaken xs s → AreAnswered xs s → (id : ℕ) → list_all (λ x. keeps_order id x) xs ≡ true → ReadsCame id s xs

-- the bytes that reads of a stream gave, each with its offset, in whatever order it was read
unfoldable pub with_given : ℕ → Step → List (ℕ × ℕ) → List (ℕ × ℕ)
with_given id (Read ordered (Ok (Some c)) j) given = if j == id then given ++ run c.offset c.bytes else given
with_given id EarlyRefused given = []
with_given id x given = given

-- the same over steps, behind those that were given before
unfoldable pub given_on : ℕ → List Step → List (ℕ × ℕ) → List (ℕ × ℕ)
given_on id [] given = given
given_on id (x ∷ xs) given = given_on id xs (with_given id x given)

-- how often there is a byte at an offset
abbrev pub times : ℕ → List (ℕ × ℕ) → ℕ
times o bytes = count_by (λ e. e.0 == o) bytes

-- Whatever happened, and in whatever order a stream was read: no byte of it was given twice, and each that was given is the first that
-- came at its offset
pub record GivesOnce (id : ℕ) (xs : List Step) : Type 0 where
  pub once : (o : ℕ) → times o (given_on id xs []) ≤ 1
  pub came : All (λ e. lookup (λ k. k == e.0) (came_on id xs []) ≡ Some e.1) (given_on id xs [])

-- That holds of every stream
unfoldable pub GivesEachOnce : StreamsState → List Step → Type 0
GivesEachOnce s xs = ArePossible xs → AreTaken xs s → AreAnswered xs s → (id : ℕ) → GivesOnce id xs

-- whether early data isn't refused by a step
unfoldable pub keeps_streams : Step → Bool
keeps_streams EarlyRefused = false
keeps_streams x = true

-- A read tells nothing: the stream is closed, or memory wants
unfoldable pub TellsNothing : Result (Option Chunk) ReadFault → Type 0
TellsNothing (Err ClosedStream) = Unit {0}
TellsNothing (Err OutOfMemory) = Unit {0}
TellsNothing result = ⊥

-- Whatever happened and happens then: once the end of a stream was told, no read tells anything of it
unfoldable pub EndIsToldOnce : StreamsState → List Step → Type 0
EndIsToldOnce s xs =
    ArePossible xs → (id most again : ℕ) (ordered later : Bool) (ys : List Step) → IsReadOf most ordered (receiving_at id (after xs s)) (Ok None)
    → ArePossible ys → list_all keeps_streams ys ≡ true → (result : Result (Option Chunk) ReadFault)
    → IsReadOf again later (receiving_at id (after ys (after_step (Read ordered (Ok None) id) (after xs s)))) result → TellsNothing result

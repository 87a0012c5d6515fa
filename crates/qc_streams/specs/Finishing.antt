-- That a stream is finished is told at most once, and only where all that was written on it, and its end, were acknowledged (RFC 9000,
-- section 3.1, "Data Recvd")
use Rattle.std.specs.Prelude.{◌≡◌, ℕ, ◌+◌, ◌<◌, ◌≤◌, ◌==◌, ◌&&◌, nat_le, nat_lt, Bool, true, false, if◌then◌else◌, List, [], ◌∷◌, length, Option, None, Some}
use Rattle.qc_streams.specs.declared.events.StreamEvent.{StreamEvent}
use Rattle.qc_streams.specs.declared.events.StreamEvent.TheVariants.{Finished}
use Rattle.qc_streams.specs.declared.state.StreamsState.{StreamsState}
use Rattle.qc_streams.specs.Carried.{written_on}
use Rattle.qc_streams.specs.Owed.{next_event}
use Rattle.qc_streams.specs.Waits.{ArePossible, Step, BytesAcked, EarlyRefused, Polled, after, after_step}
use Rattle.qc_streams.specs.Within.{AreTaken}

-- whether an event says that the stream with an id is finished
unfoldable pub says_finished : ℕ → StreamEvent → Bool
says_finished id (Finished j) = j == id
says_finished id e = false

-- how often events say so
unfoldable pub times_finished : ℕ → List StreamEvent → ℕ
times_finished id [] = 0
times_finished id (e ∷ es) = (if says_finished id e then 1 else 0) + times_finished id es

-- how often an event says so that is told, where there is one
unfoldable pub finished_now : ℕ → Option StreamEvent → ℕ
finished_now id None = 0
finished_now id (Some e) = if says_finished id e then 1 else 0

-- how often it was told; never once the server refused early data, after which all streams are as new
unfoldable pub with_told : ℕ → Step → StreamsState → ℕ → ℕ
with_told id Polled s n = n + finished_now id (next_event s)
with_told id EarlyRefused s n = 0
with_told id x s n = n

-- the same over steps
unfoldable pub times_told : ℕ → List Step → StreamsState → ℕ → ℕ
times_told id [] s n = n
times_told id (x ∷ xs) s n = times_told id xs (after_step x s) (with_told id x s n)

-- whether a frame with the byte at an offset of a stream was acknowledged
unfoldable pub with_acked : (id offset : ℕ) → Step → Bool → Bool
with_acked id o (BytesAcked j start stop last) acked = if j == id && (nat_le start o && nat_lt o stop) then true else acked
with_acked id o EarlyRefused acked = false
with_acked id o x acked = acked

-- the same over steps
unfoldable pub acked_on : (id offset : ℕ) → List Step → Bool → Bool
acked_on id o [] acked = acked
acked_on id o (x ∷ xs) acked = acked_on id o xs (with_acked id o x acked)

-- whether a frame with a stream's end was
unfoldable pub with_ended : ℕ → Step → Bool → Bool
with_ended id (BytesAcked j start stop last) ended = if j == id && last then true else ended
with_ended id EarlyRefused ended = false
with_ended id x ended = ended

-- the same over steps
unfoldable pub ended_on : ℕ → List Step → Bool → Bool
ended_on id [] ended = ended
ended_on id (x ∷ xs) ended = ended_on id xs (with_ended id x ended)

-- A stream is finished once all its bytes and its end are acknowledged (RFC 9000, section 3.1). That a stream is finished
-- was told or waits to be told at most once; and where it was or does, each byte that was written on it was acknowledged,
-- and its end
pub record FinishesOnce (id : ℕ) (s : StreamsState) (xs : List Step) : Type 0 where
  pub once : times_told id xs s 0 + times_finished id (after xs s).events.items ≤ 1
  pub bytes : (o : ℕ) → 0 < times_told id xs s 0 + times_finished id (after xs s).events.items → o < length (written_on id xs []) → acked_on id o xs false ≡ true
  pub end : 0 < times_told id xs s 0 + times_finished id (after xs s).events.items → ended_on id xs false ≡ true

-- Whatever happened, that holds of every stream
unfoldable pub FinishedIsToldOnce : StreamsState → List Step → Type 0
FinishedIsToldOnce s xs = ArePossible xs → AreTaken xs s → (id : ℕ) → FinishesOnce id s xs

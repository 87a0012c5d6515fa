-- What is counted for the connection's credit, tied to what happened: the bytes of all writes and the greatest limit that came, and what
-- counts as received and the frames that came (RFC 9000, section 4.1)
use Rattle.std.specs.Prelude.{◌≡◌, ℕ, ◌+◌, ◌^◌, ◌<◌, ◌≤◌, ◌==◌, max, Bool, false, not, if◌then◌else◌, List, [], ◌∷◌, length, take, Option, None, Some}
use Rattle.qc_recv.specs.declared.recv.Recv.{Recv}
use Rattle.qc_recv.specs.Receiving.{is_ended}
use Rattle.qc_streams.specs.declared.state.StreamsState.{StreamsState}
use Rattle.qc_streams.specs.declared.stream.Stream.{Stream}
use Rattle.qc_streams.specs.Counts.{saturated}
use Rattle.qc_streams.specs.Streams.{target}
use Rattle.qc_streams.specs.Waits.{ArePossible, Step, EarlyRefused, LimitCame, LimitsKnown, ResetCame, StreamCame, Wrote, after, after_step}
use Rattle.qc_streams.specs.Within.{AreTaken}

-- how many bytes were written, on all streams; none once the server refused early data
unfoldable pub with_bytes : Step → ℕ → ℕ
with_bytes (Wrote id n chunk) k = k + length (take n chunk)
with_bytes EarlyRefused k = 0
with_bytes x k = k

-- the same over steps, behind those that were written before
unfoldable pub bytes_written : List Step → ℕ → ℕ
bytes_written [] k = k
bytes_written (x ∷ xs) k = bytes_written xs (with_bytes x k)

-- the greatest limit for all streams together that came, in parameters or in a MAX_DATA; none once the server refused early data
unfoldable pub with_limit : Step → ℕ → ℕ
with_limit (LimitsKnown p) m = max m p.all_data
with_limit (LimitCame n) m = max m n
with_limit EarlyRefused m = 0
with_limit x m = m

-- the same over steps
unfoldable pub greatest_limit : List Step → ℕ → ℕ
greatest_limit [] m = m
greatest_limit (x ∷ xs) m = greatest_limit xs (with_limit x m)

-- A limit that comes has at most 64 bits
unfoldable pub HasLimit : Step → Type 0
HasLimit (LimitsKnown p) = p.all_data < 2 ^ 64
HasLimit (LimitCame n) = n < 2 ^ 64
HasLimit x = Unit {0}

-- All of them do
unfoldable pub HaveLimits : List Step → Type 0
HaveLimits [] = Unit {0}
HaveLimits (x ∷ xs) = HasLimit x × HaveLimits xs

-- No more bytes are written, on all streams together, than the greatest limit that came (RFC 9000, section 4.1). Whatever
-- happened, the bytes of all writes are at most the greatest limit that came
unfoldable pub WritesWithin : StreamsState → List Step → Type 0
WritesWithin s xs = HaveLimits xs → AreTaken xs s → bytes_written xs 0 ≤ greatest_limit xs 0

-- ---- what came

-- whether more may come on a receiving side: there is one, and it hasn't ended
abbrev pub may_come : Option Recv → Bool
may_come None = false
may_come (Some r) = not (is_ended r)

-- the same of a stream
abbrev pub may_come_on : Option Stream → Bool
may_come_on None = false
may_come_on (Some st) = may_come st.receiving

-- the end that counts for a stream, among those of all streams; 0 where none came
unfoldable pub end_on : ℕ → List (ℕ × ℕ) → ℕ
end_on id [] = 0
end_on id (e ∷ ends) = if e.0 == id then e.1 else end_on id ends

-- an end comes on a stream: its greatest counts
unfoldable pub end_raised : (id end : ℕ) → List (ℕ × ℕ) → List (ℕ × ℕ)
end_raised id end [] = (id, end) ∷ []
end_raised id end (e ∷ ends) = if e.0 == id then (e.0, max e.1 end) ∷ ends else e ∷ end_raised id end ends

-- the greatest end that came on each stream, as long as it hasn't ended: that of a STREAM's bytes, and the final size of a RESET_STREAM;
-- none once the server refused early data
unfoldable pub with_end : Step → StreamsState → List (ℕ × ℕ) → List (ℕ × ℕ)
with_end (StreamCame id o bs last) s ends = if may_come_on (target id s) then end_raised id (o + length bs) ends else ends
with_end (ResetCame id code size) s ends = if may_come_on (target id s) then end_raised id size ends else ends
with_end EarlyRefused s ends = []
with_end x s ends = ends

-- the same over steps, beside those that came before
unfoldable pub ends_came : List Step → StreamsState → List (ℕ × ℕ) → List (ℕ × ℕ)
ends_came [] s ends = ends
ends_came (x ∷ xs) s ends = ends_came xs (after_step x s) (with_end x s ends)

-- the sum over all streams
unfoldable pub all_ends : List (ℕ × ℕ) → ℕ
all_ends [] = 0
all_ends (e ∷ ends) = e.1 + all_ends ends

-- What counts for the connection's credit is the greatest end that came on each stream, all together (RFC 9000, sections
-- 4.1 and 4.5). Whatever happened, what counts as received is the sum over all streams of the greatest end that came, which
-- stands still at 2^64 - 1
unfoldable pub CountsWhatCame : StreamsState → List Step → Type 0
CountsWhatCame s xs = ArePossible xs → AreTaken xs s → (after xs s).incoming.received ≡ saturated (all_ends (ends_came xs s []))

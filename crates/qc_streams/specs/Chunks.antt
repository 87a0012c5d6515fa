-- A write of several chunks, one behind the other (RFC 9000, section 2.2)
use Rattle.std.specs.Prelude.{◌≡◌, ℕ, suc, ◌-◌, nat_le, if◌then◌else◌, List, [], ◌∷◌, length, drop}
use Rattle.qc_send_stream.specs.declared.fault.WriteError.{WriteError}
use Rattle.qc_send_stream.specs.declared.fault.WriteError.TheVariants.{Blocked, ClosedStream, Stopped, OutOfMemory}
use Rattle.qc_streams.specs.declared.state.StreamsState.{StreamsState}
use Rattle.qc_streams.specs.Calls.{write_refused}

-- chunks of bytes
abbrev pub Chunks : Type 0
Chunks = List (List ℕ)

-- so many bytes are cut from the front of chunks
unfoldable pub cut_front : ℕ → Chunks → Chunks
cut_front n [] = []
cut_front n (c ∷ cs) = drop n c ∷ cut_front (n - length c) cs

-- how many chunks lie whole in that front
unfoldable pub whole_in : ℕ → Chunks → ℕ
whole_in n [] = 0
whole_in n (c ∷ cs) = if nat_le (length c) n then suc (whole_in (n - length c) cs) else 0

-- What a write of chunks leaves that isn't done: the chunks as they were, and all else as a write that is refused leaves it. Want of
-- memory ends the connection, and nothing is said then
unfoldable pub IsUnwritten : WriteError → Chunks → Chunks → ℕ → StreamsState → StreamsState → Type 0
IsUnwritten OutOfMemory before after id s s' = Unit {0}
IsUnwritten Blocked before after id s s' = (after ≡ before) × (s' ≡ write_refused Blocked id s)
IsUnwritten ClosedStream before after id s s' = (after ≡ before) × (s' ≡ write_refused ClosedStream id s)
IsUnwritten (Stopped code) before after id s s' = (after ≡ before) × (s' ≡ write_refused (Stopped code) id s)

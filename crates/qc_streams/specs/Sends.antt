-- How many streams this end sends on (RFC 9000, section 3.1)
use Rattle.std.specs.Prelude.{ℕ, ◌+◌, ◌-◌, Bool, true, false, not, ◌&&◌, if◌then◌else◌, Option, None, Some}
use Rattle.std.specs.List.{count_by}
use Rattle.std.specs.Map.{values_of}
use Rattle.qc_send_stream.specs.declared.send.SendPart.{SendPart}
use Rattle.qc_send_stream.specs.Sending.{is_done}
use Rattle.qc_streams.specs.declared.stream.Stream.{Stream}
use Rattle.qc_streams.specs.Counts.{saturated}
use Rattle.qc_streams.specs.Lending.{AllRecords}

-- this end opened a stream, or the application accepted it
unfoldable pub was_taken : Stream → Stream
was_taken st = record st { taken = true }

-- whether there is a sending side whose bytes and end, or whose reset, aren't all acknowledged
abbrev pub is_sending : Option SendPart → Bool
is_sending None = false
is_sending (Some p) = not (is_done p)

-- whether this end opened or accepted a stream, and sends on it
abbrev pub sends : Stream → Bool
sends st = st.taken && is_sending st.sending

-- what such a stream counts
abbrev pub sends_of : Stream → ℕ
sends_of st = if sends st then 1 else 0

-- the same, nothing where there is no stream
abbrev pub sends_at : Option Stream → ℕ
sends_at None = 0
sends_at (Some st) = sends_of st

-- how many streams this end sends on, of those that it opened or accepted
unfoldable pub sends_in : AllRecords → ℕ
sends_in all = count_by sends (values_of all)

-- such a count, where one stream counted `before` and counts `after` now
abbrev pub recounted : (count before after : ℕ) → ℕ
recounted count before after = saturated (count - before + after)

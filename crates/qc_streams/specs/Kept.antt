-- How many bytes are kept until they are acknowledged
use Rattle.std.specs.Prelude.{ℕ, Option, None, Some}
use Rattle.std.specs.List.{sum_by}
use Rattle.std.specs.Map.{values_of}
use Rattle.qc_send_stream.specs.declared.send.SendPart.{SendPart}
use Rattle.qc_send_stream.specs.Sending.{kept_count}
use Rattle.qc_streams.specs.declared.stream.Stream.{Stream}
use Rattle.qc_streams.specs.Lending.{AllRecords}

-- how many bytes a sending side keeps, none where there is no such side
abbrev pub kept_if : Option SendPart → ℕ
kept_if None = 0
kept_if (Some p) = kept_count p

-- how many a stream keeps
abbrev pub kept_of : Stream → ℕ
kept_of st = kept_if st.sending

-- how many a stream keeps, none where there is no stream
abbrev pub kept_at : Option Stream → ℕ
kept_at None = 0
kept_at (Some st) = kept_of st

-- how many all streams keep together
unfoldable pub kept_in : AllRecords → ℕ
kept_in all = sum_by kept_of (values_of all)

-- Streams that are lent for a change
use Rattle.std.specs.Prelude.{ℕ, List}
use Rattle.qc_streams.specs.declared.stream.Stream.{Stream}

-- all streams that are open, each under its id
abbrev pub AllRecords : Type 0
AllRecords = List (ℕ × Stream)

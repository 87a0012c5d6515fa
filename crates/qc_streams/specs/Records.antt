-- The streams that are open, each under its id, in ascending order
use Rattle.std.specs.Prelude.{ℕ, Option, None, Some}
use Rattle.std.specs.BTreeMap.{insert_entry, is_at}
use Rattle.std.specs.Map.{lookup, set_value, remove_entry}
use Rattle.std.specs.Ordering.{nat_cmp}
use Rattle.qc_streams.specs.declared.stream.Stream.{Stream}
use Rattle.qc_streams.specs.Lending.{AllRecords}

-- the stream with an id
abbrev pub record_of : ℕ → AllRecords → Option Stream
record_of id all = lookup (is_at (nat_cmp id)) all

-- that stream becomes another
abbrev pub with_record : ℕ → Stream → AllRecords → AllRecords
with_record id st all = set_value (is_at (nat_cmp id)) all st

-- a stream is added under an id
abbrev pub with_new : ℕ → Stream → AllRecords → AllRecords
with_new id st all = insert_entry nat_cmp all id st

-- the stream with an id leaves
abbrev pub without : ℕ → AllRecords → AllRecords
without id all = remove_entry (is_at (nat_cmp id)) all

-- where there is a stream, it becomes f of it
abbrev pub on_some : (Stream → Stream) → ℕ → Option Stream → AllRecords → AllRecords
on_some f id None all = all
on_some f id (Some st) all = with_record id (f st) all

-- the stream with an id becomes f of it, all others stay
abbrev pub changed : (Stream → Stream) → ℕ → AllRecords → AllRecords
changed f id all = on_some f id (record_of id all) all

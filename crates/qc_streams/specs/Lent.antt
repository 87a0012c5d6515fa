-- A stream that is lent for a change
use Rattle.std.specs.Prelude.{ℕ, Option}
use Rattle.std.specs.Borrow.{LendsIf, MutBor, Fml}
use Rattle.qc_streams.specs.declared.stream.Stream.{Stream}
use Rattle.qc_streams.specs.contracts.map.StreamMap.{the_row}
use Rattle.qc_streams.specs.contracts.stream.Stream as stream_contract
use Rattle.qc_streams.specs.Lending.{AllRecords}
use Rattle.qc_streams.specs.Records.{with_record}

-- the records end with the last value behind the reference under its id, and as they were where there is none
abbrev pub LendsRecord : MutBor AllRecords → ℕ → Option (MutBor Stream) → Fml
LendsRecord s id r = LendsIf the_row stream_contract.the_row s r (λ w. with_record id w s.now) s.now

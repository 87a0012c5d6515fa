-- What contracts see of a connection, and what its calls do.
use Rattle.std.specs.Prelude.{◌≡◌, ℕ, ◌+◌, ◌<◌, ◌^◌, min, Bool, List, Option}
use Rattle.qc_base.specs.declared.side.Side.{Side}
use Rattle.qc_recovery.specs.TransportValues.{TransportValues}
use Rattle.qc_laws.specs.SealLaws.{SealsGiven}
use Rattle.qc_state.specs.declared.deeds.Did.{Did}
use Rattle.qc_state.specs.declared.transmit.Transmit.{Transmit}
use Rattle.qc_state.specs.First.{first_streams}
use Rattle.qc_state.specs.Run.{began}
use Rattle.qc_state.specs.Sending.{Transmits}
use Rattle.qc_state.specs.Types.{Types, Meaning}
use Rattle.qc_state.specs.View.{View, Held, at}
use Rattle.qc_streams.specs.declared.state.StreamsState.{StreamsState}
use Rattle.qc_streams.specs.Within.{StaysWithin}

-- the state, the mark that a call met want of memory, which is that of the streams, how many steps `drive` has given of it, as far as
-- its type counts, and the name of a client's server
pub record Seen (t : Types) (R : Type 0) : Type 0 where
  pub core : Held t R
  pub failed : Bool
  pub steps : ℕ
  pub name : List ℕ

module _ {t : Types} {R : Type 0} where
  -- the same but for the streams, and with their mark
  abbrev pub with_streams : Seen t R → StreamsState → Seen t R
  with_streams s streams = record s { core = record s.core { lower = record s.core.lower { streams = streams } }; failed = streams.failed }

  -- the same with this core, and with the mark of its streams
  abbrev pub with_core : Seen t R → Held t R → Seen t R
  with_core s core = record s { core = core; failed = core.lower.streams.failed }

-- so many steps more
abbrev pub counted : (before steps : ℕ) → ℕ
counted before steps = min (before + steps) 18446744073709551615

-- a transmit of at most so many datagrams into an empty buffer, whose deeds no one keeps
pub record Sends {t : Types} (m : Meaning t) (time asked : ℕ) (s s' : View t) (sent : Option Transmit) (buffer : List ℕ) : Type 0 where
  pub deeds : List Did
  pub transmits : Transmits m time asked (began s time) (at s' deeds) sent buffer

-- what it gives is datagrams of packets that are told as sealed, by the view before the call; or nothing
pub record SendsSealed {t : Types} (m : Meaning t) (s : View t) (sent : Option Transmit) (buffer : List ℕ) : Type 0 where
  pub deeds : List Did
  pub seals : SealsGiven m s deeds sent buffer

-- flow control is kept by what became of streams that were new, with windows of 64 bits (RFC 9000, sections 4.1 and 4.6)
unfoldable pub KeepsCredit : (s s' : StreamsState) → Type 0
KeepsCredit s s' = (side : Side) (transport : TransportValues) → s ≡ first_streams side transport → transport.receive_window < 2 ^ 64 → transport.stream_receive_window < 2 ^ 64 → StaysWithin s'

-- What an endpoint hands to a connection.
use Rattle.std.specs.Prelude.{◌≡◌, ℕ, ◌<◌, Bool, false, length, IfSome, None}
use Rattle.qc_cids.specs.Cids.{give_refusal}
use Rattle.qc_cids.specs.declared.connection_ids.ConnectionIds.{ConnectionIds}
use Rattle.qc_receive.specs.Cutting.{rest_of}
use Rattle.qc_receive.specs.declared.events.ConnectionEvent.{ConnectionEvent}
use Rattle.qc_receive.specs.declared.events.ConnectionEvent.TheVariants.{Datagram, NewIdentifiers}
use Rattle.qc_state.specs.Moves.{Issue, move_to}
use Rattle.qc_state.specs.Receiving.{event_after}
use Rattle.qc_state.specs.Types.{Types, Meaning}
use Rattle.qc_state.specs.View.{At}

-- when it came
abbrev pub time_of_event : ConnectionEvent → ℕ
time_of_event (Datagram now remote ecn first_decode remaining) = now
time_of_event (NewIdentifiers ids now) = now

-- a datagram comes to an end that waits for no first one
abbrev pub IsExpected : ConnectionEvent → (awaits_first : Bool) → Type 0
IsExpected (Datagram now remote ecn first_decode remaining) awaits = awaits ≡ false
IsExpected (NewIdentifiers ids now) awaits = Unit {0}

-- what is behind a datagram's first packet has bytes, where there is anything
abbrev pub LeavesBytes : ConnectionEvent → Type 0
LeavesBytes (Datagram now remote ecn first_decode remaining) = IfSome remaining (λ b. 0 < length b.items)
LeavesBytes (NewIdentifiers ids now) = Unit {0}

-- ids are such as may be given
abbrev pub GivesRight : ConnectionEvent → ConnectionIds → Type 0
GivesRight (Datagram now remote ecn first_decode remaining) s = Unit {0}
GivesRight (NewIdentifiers ids now) s = give_refusal ids s ≡ None

-- what it does: a datagram's packets count, and its bytes; ids are given
abbrev pub handed_after : {t : Types} → Meaning t → ConnectionEvent → At t → At t
handed_after m (Datagram now remote ecn first_decode remaining) a = event_after m (record { time = now; remote = remote; mark = ecn }) first_decode (rest_of remaining) a
handed_after m (NewIdentifiers ids now) a = move_to (Issue now ids) a

-- Laws over whole runs, said of the events that are told (RFC 9000, section 10).
use Rattle.std.specs.Prelude.{◌≡◌, ℕ, ◌+◌, ◌<◌, ◌≤◌, ◌==◌, ◌&&◌, not, nat_le, Bool, true, false, if◌then◌else◌, List, [], ◌∷◌, ◌++◌, length, Option, None, is_none, is_some, option_to_list}
use Rattle.std.specs.List.{list_all}
use Rattle.qc_state.specs.declared.deeds.Did.{Did}
use Rattle.qc_state.specs.declared.deeds.Did.TheVariants.{Piece, Gave, Sealed, Rose, Lost, Quiet}
use Rattle.qc_state.specs.declared.events.EndpointEvent.{EndpointEvent}
use Rattle.qc_state.specs.declared.events.EndpointEvent.TheVariants.{ResetToken, NeedIdentifiers, RetireConnectionId, Drained}
use Rattle.qc_state.specs.declared.events.Event.{Event}
use Rattle.qc_state.specs.declared.events.Event.TheVariants.{HandshakeDataReady, Connected, Stream, ConnectionLost, DatagramReceived, DatagramsUnblocked}
use Rattle.qc_state.specs.declared.life.ConnectionError.{ConnectionError}
use Rattle.qc_state.specs.declared.life.Life.{Life}
use Rattle.qc_state.specs.declared.trace.Step.{Step}
use Rattle.qc_state.specs.Headline.{reasons_in}
use Rattle.qc_state.specs.Life.{is_drained, rank_of}

-- the reasons that events tell, in order
abbrev pub losses_in : List Event → List ConnectionError
losses_in [] = []
losses_in (HandshakeDataReady ∷ es) = losses_in es
losses_in (Connected ∷ es) = losses_in es
losses_in (Stream event ∷ es) = losses_in es
losses_in (DatagramReceived ∷ es) = losses_in es
losses_in (DatagramsUnblocked ∷ es) = losses_in es
losses_in (ConnectionLost why ∷ es) = why ∷ losses_in es

-- how many events tell that the handshake is over
abbrev pub connections_in : List Event → ℕ
connections_in [] = 0
connections_in (HandshakeDataReady ∷ es) = connections_in es
connections_in (Connected ∷ es) = connections_in es + 1
connections_in (Stream event ∷ es) = connections_in es
connections_in (DatagramReceived ∷ es) = connections_in es
connections_in (DatagramsUnblocked ∷ es) = connections_in es
connections_in (ConnectionLost why ∷ es) = connections_in es

-- how many events tell the endpoint that the connection has drained
abbrev pub ends_in : List EndpointEvent → ℕ
ends_in [] = 0
ends_in (ResetToken remote token ∷ es) = ends_in es
ends_in (NeedIdentifiers time count ∷ es) = ends_in es
ends_in (RetireConnectionId time sequence more ∷ es) = ends_in es
ends_in (Drained ∷ es) = ends_in es + 1

-- how often the life rises to this rank
abbrev pub rises_to : ℕ → List Did → ℕ
rises_to rank [] = 0
rises_to rank (Sealed space number epoch early frames ∷ ds) = rises_to rank ds
rises_to rank (Piece space number verdict ∷ ds) = rises_to rank ds
rises_to rank (Gave layer body ∷ ds) = rises_to rank ds
rises_to rank (Rose life ∷ ds) = if life == rank then rises_to rank ds + 1 else rises_to rank ds
rises_to rank (Lost why ∷ ds) = rises_to rank ds
rises_to rank (Quiet why ∷ ds) = rises_to rank ds

-- all events of a trace, in order
abbrev pub events_of : List Step → List Event
events_of [] = []
events_of (x ∷ xs) = x.events ++ events_of xs

-- and all those for the endpoint
abbrev pub endpoint_events_of : List Step → List EndpointEvent
endpoint_events_of [] = []
endpoint_events_of (x ∷ xs) = x.endpoint ++ endpoint_events_of xs

-- one, or none
abbrev pub once : Bool → ℕ
once b = if b then 1 else 0

-- what waits to be told: the reason of the end, that the handshake is over, and that the connection has drained
pub record Untold : Type 0 where
  pub lost : Option ConnectionError
  pub connected : Bool
  pub drained : Bool

-- so in a life
abbrev pub untold_of : Life → Untold
untold_of v = record { lost = v.lost; connected = v.connected; drained = v.drained }

-- nothing waits
abbrev pub all_told : Untold
all_told = record { lost = None; connected = false; drained = false }

-- whether an event tells of datagrams: that one came, or that there is room again
abbrev pub is_heard : Event → Bool
is_heard DatagramReceived = true
is_heard DatagramsUnblocked = true
is_heard _ = false

-- only what came to pass waits to be told: a loss only where a reason was given, that the handshake is over only behind the rise to
-- Established, and the end only in Drained, and not among what is told before it; and what waits of datagrams tells of them
pub record OnlyDoneWaits (v : Life) : Type 0 where
  pub lost : is_none v.reason ≡ true → v.lost ≡ None
  pub connected : rank_of v.state < 1 → v.connected ≡ false
  pub drained : rank_of v.state < 4 → v.drained ≡ false
  pub notices : ends_in v.notices ≡ 0
  pub heard : list_all is_heard v.heard ≡ true

-- a step tells what waited before it, and just what its deeds did: a loss for the reason that they gave; that the handshake is over
-- where the life rose to Established; and the end where it rose to Drained
pub record TellsDone (u : Untold) (x : Step) : Type 0 where
  pub losses : losses_in x.events ≡ option_to_list u.lost ++ reasons_in x.did
  pub connections : connections_in x.events ≡ once u.connected + rises_to 1 x.did
  pub ends : ends_in x.endpoint ≡ once u.drained + rises_to 4 x.did

-- so does each step; only before the first one may something have waited
abbrev pub EachTells : Untold → List Step → Type 0
EachTells u [] = Unit {0}
EachTells u (x ∷ xs) = TellsDone u x × EachTells all_told xs

-- from a life on, at most one loss, one end of the handshake and one end of the connection are told; none of them where it was told
-- before, or where the life had passed it
pub record TellsOnce (v : Life) (xs : List Step) : Type 0 where
  pub loss : once (is_some v.reason && is_none v.lost) + length (losses_in (events_of xs)) ≤ 1
  pub connection : once (nat_le 1 (rank_of v.state) && not v.connected) + connections_in (events_of xs) ≤ 1
  pub end : once (is_drained v.state && not v.drained) + ends_in (endpoint_events_of xs) ≤ 1

-- Events that wait, and places that are put by for events that will follow
use Rattle.std.specs.Prelude.{ℕ, ◌+◌, ◌-◌, nat_lt, Bool, if◌then◌else◌, List, [], ◌∷◌, ◌++◌, drop, Option, None, Some}
use Rattle.qc_streams.specs.declared.events.StreamEvent.{StreamEvent}

-- Events that wait, and places for more
pub record EventQueue : Type 0 where
  -- those that wait, the oldest first
  pub items : List StreamEvent
  -- how many places are put by
  pub places : ℕ

-- no event, and no place
unfoldable pub no_events : EventQueue
no_events = record { items = []; places = 0 }

-- an event waits, behind all others
unfoldable pub event_added : StreamEvent → EventQueue → EventQueue
event_added e q = record q { items = q.items ++ (e ∷ []) }

-- a place is put by
unfoldable pub place_put_by : EventQueue → EventQueue
place_put_by q = record q { places = q.places + 1 }

-- a place is given up
unfoldable pub place_given_up : EventQueue → EventQueue
place_given_up q = record q { places = q.places - 1 }

-- an event waits in a place that was put by for it, behind all others
unfoldable pub event_placed : StreamEvent → EventQueue → EventQueue
event_placed e q = record q {
  items = if nat_lt 0 q.places then q.items ++ (e ∷ []) else q.items;
  places = q.places - 1;
}

-- the oldest event
abbrev pub first_event : List StreamEvent → Option StreamEvent
first_event [] = None
first_event (e ∷ es) = Some e

-- the oldest event waits no more
unfoldable pub first_dropped : EventQueue → EventQueue
first_dropped q = record q { items = drop 1 q.items }

-- a place is put by, or given up, where it has to be
abbrev pub put_by_if : Bool → EventQueue → EventQueue
put_by_if needs q = if needs then place_put_by q else q

-- the same, where there is one
abbrev pub given_up_if : Bool → EventQueue → EventQueue
given_up_if has q = if has then place_given_up q else q

-- How a transmit finds what it begins with: these are this crate's own words, and the contract of a transmit has none of them.
use Rattle.std.specs.Prelude.{ℕ, if◌then◌else◌, Option, Some, None}
use Rattle.qc_base.specs.declared.side.SpaceId.{SpaceId}
use Rattle.qc_base.specs.declared.side.SpaceId.TheVariants.{Initial, Handshake, «Data»}
use Rattle.qc_send.specs.declared.owing.Turn.{Turn}
use Rattle.qc_send.specs.declared.owing.Turn.TheVariants.{Begins, Holds}
use Rattle.qc_state.specs.declared.deeds.Quiet.{Quiet}
use Rattle.qc_state.specs.declared.deeds.Quiet.TheVariants.{Silent, NothingOwed, Congestion}
use Rattle.qc_state.specs.declared.transmit.Batch.{Batch}
use Rattle.qc_state.specs.Sending.{is_silent, limit_in, owes_in}
use Rattle.qc_state.specs.Types.{Types, Meaning}
use Rattle.qc_state.specs.View.{View}

-- where the window holds a space back and nothing else can go, the window is the cause
abbrev pub held_turn : Turn → Turn
held_turn (Begins id) = Begins id
held_turn (Holds quiet) = Holds Congestion

-- what a space that owes something begins with, by the limit that stands there: the window lets the next spaces have a try, for which `next`
-- is what they begin with
abbrev pub turn_by : SpaceId → Option Quiet → (next : Turn) → Turn
turn_by id None next = Begins id
turn_by id (Some Congestion) next = held_turn next
turn_by id (Some quiet) next = Holds quiet

module _ {t : Types} where
  -- what a transmit begins with from a space on
  unfoldable pub turn_in : Meaning t → ℕ → View t → Batch → SpaceId → (next : Turn) → Turn
  turn_in m time s b id next = if owes_in b s id then turn_by id (limit_in m time s b id) next else next

  -- what a transmit begins with
  unfoldable pub turn_of : Meaning t → ℕ → View t → Batch → Turn
  turn_of m time s b =
      if is_silent s then Holds Silent
      else turn_in m time s b Initial (turn_in m time s b Handshake (turn_in m time s b Data (Holds NothingOwed)))

-- Any calls of recovery, one after the other, and what becomes of the packets that are sent. Each call is handed a path of its
-- own, since a connection may move to another one between two calls.
use Rattle.std.specs.Prelude.{ℕ, ◌==◌, if◌then◌else◌, List, [], ◌∷◌, ◌++◌, IsPermutation}
use Rattle.qc_base.specs.declared.range_set.NumberRange.{NumberRange}
use Rattle.qc_base.specs.declared.side.SpaceId.{SpaceId}
use Rattle.qc_flight.specs.Packets.{Entry}
use Rattle.qc_flight.specs.declared.sent.SentPacket.{SentPacket}
use Rattle.qc_path.specs.declared.controller.Controller.{Ghosts as Control}
use Rattle.qc_recovery.specs.Calls.{dropped_after}
use Rattle.qc_recovery.specs.Losses.{rank}
use Rattle.qc_recovery.specs.Steps.{ack_after, sent_after, space_of, timeout_after}
use Rattle.qc_recovery.specs.declared.calls.AckValues.{AckValues}
use Rattle.qc_recovery.specs.declared.calls.Around.{Around}
use Rattle.qc_recovery.specs.declared.calls.Fired.{Fired}
use Rattle.qc_recovery.specs.declared.calls.Fired.TheVariants as fired
use Rattle.qc_recovery.specs.declared.path.PathData.{PathData}
use Rattle.qc_recovery.specs.declared.recovery.Recovery.{Recovery}

-- a call: a packet is sent, an ACK comes, the loss timer fires, or a space is dropped
pub data Call (C : Type 0) : Type 0 where
  Send : (space : SpaceId) (number : ℕ) (packet : SentPacket) → Call C
  Acknowledge : (now : ℕ) (space : SpaceId) (next began : ℕ) (ack : AckValues) (ranges : List NumberRange) (around : Around) (path : PathData C) → Call C
  Fire : (now : ℕ) (around : Around) (path : PathData C) → Call C
  Discard : (space : SpaceId) → Call C

-- what becomes of the packets of one space
pub record Fates : Type 0 where
  pub sent : List Entry
  pub acked : List Entry
  pub lost : List Entry
  pub dropped : List Entry  -- those that left with their space

-- nothing was sent
abbrev pub no_fates : Fates
no_fates = record { sent = []; acked = []; lost = []; dropped = [] }

-- packets of a space, where that is the space in question
abbrev pub in_space : (id space : SpaceId) → List Entry → List Entry
in_space id space es = if rank space == rank id then es else []

-- the packets that the loss timer shows to be lost in a space
abbrev pub fired_lost : SpaceId → Fired → List Entry
fired_lost id (fired.Lost space es) = in_space id space es
fired_lost id (fired.Probe space count) = []
fired_lost id fired.Nothing = []

module _ {C : Type 0} where
  -- what a call leaves
  unfoldable pub call_after : Control C → Call C → Recovery → Recovery
  call_after m (Send space number packet) r = sent_after space number packet r
  call_after m (Acknowledge now space next began ack ranges around path) r = (ack_after m now space next began ack ranges around r path).recovery
  call_after m (Fire now around path) r = (timeout_after m now around r path).recovery
  call_after m (Discard space) r = dropped_after space r

  -- what a call says of the packets of a space
  unfoldable pub fates_after : Control C → SpaceId → Call C → Recovery → Fates → Fates
  fates_after m id (Send space number packet) r f = record f { sent = f.sent ++ in_space id space ((number, packet) ∷ []) }
  fates_after m id (Acknowledge now space next began ack ranges around path) r f = record f {
    acked = f.acked ++ in_space id space (ack_after m now space next began ack ranges around r path).acked;
    lost = f.lost ++ in_space id space (ack_after m now space next began ack ranges around r path).lost;
  }
  fates_after m id (Fire now around path) r f = record f { lost = f.lost ++ fired_lost id (timeout_after m now around r path).fired }
  fates_after m id (Discard space) r f = record f { dropped = f.dropped ++ in_space id space (space_of space r).flight }

  -- what calls leave
  abbrev pub calls_after : Control C → List (Call C) → Recovery → Recovery
  calls_after m [] r = r
  calls_after m (c ∷ cs) r = calls_after m cs (call_after m c r)

  -- what calls say of the packets of a space
  abbrev pub all_fates : Control C → SpaceId → List (Call C) → Recovery → Fates → Fates
  all_fates m id [] r f = f
  all_fates m id (c ∷ cs) r f = all_fates m id cs (call_after m c r) (fates_after m id c r f)

-- the packets that were sent in a space are those that were acknowledged, those that were lost, those that left with the space
-- and those in flight, each of them once
unfoldable pub AreSettledOnce : SpaceId → Recovery → Fates → Type 0
AreSettledOnce id r f = IsPermutation f.sent (f.acked ++ (f.lost ++ (f.dropped ++ (space_of id r).flight)))

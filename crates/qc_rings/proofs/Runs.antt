-- Two ends are in step at every moment of a run, and what follows for its events.
use Rattle.std.specs.Prelude.{true, false, Option, Some, None, if◌then◌else◌, take}
use Rattle.std.proofs.Common.{◌≡◌, ℕ, ◌+◌, ◌<◌, ◌≤◌, ◌^◌, List, [], ◌∷◌, length, refl, ◌∙◌, arith}
use Rattle.std.proofs.lemmas.List.{length-take}
use Rattle.qc_base.specs.declared.side.Side.{Side}
use Rattle.qc_base.specs.declared.side.Side.TheVariants.{Client, Server}
use Rattle.qc_rings.specs.declared.which.Which.{Which}
use Rattle.qc_rings.specs.declared.which.Which.TheVariants.{Current, Previous, Next}
use Rattle.qc_rings.specs.declared.pair.RingEvent.{RingEvent}
use Rattle.qc_rings.specs.declared.pair.RingEvent.TheVariants.{Seal, Update, Deliver, Discard}
use Rattle.qc_rings.specs.declared.pair.PairOutcome.TheVariants.{Opened, Old}
use Rattle.qc_rings.specs.Ring.{Ring, after_opened, after_sealed, after_acked, after_update, after_discard, may_update, is_from}
use Rattle.qc_rings.specs.TwoRings.{Packet, End, World, first_world, other, end_of, end_seals, end_sealed, end_updated, end_discarded, end_given, end_opened, after_all_acked, opens, which_of, packet_at, happens, outcome, delivered, run, Throughout, IsGoodUpdate, AreNear, UpdatesAreGood, CurrentOpens, OnlyOldFail}
use Rattle.qc_rings.specs.InStep.{FitsEnds, AreInStep}
use Rattle.qc_rings.proofs.Moves.{seal}
use Rattle.qc_rings.proofs.Steps.{all_at, first_in_step, turned, end_updated_in_step, end_given_in_step, end_discarded_in_step, update_is_good, current_opens, unopened_is_old}
use Rattle.qc_rings.proofs.StepLaws.{one_more}

-- both ends are in step, and their epochs are no later than this
pub record InStepWithin (n : ℕ) (w : World) : Type 0 where
  pub step : AreInStep w.client w.server
  pub client : w.client.ring.epoch ≤ n
  pub server : w.server.ring.epoch ≤ n

-- a world with its ends exchanged
within_turned : (n : ℕ) (w : World) → InStepWithin n w → InStepWithin n (record { client = w.server; server = w.client })
within_turned n w h = record { step = turned w.client w.server h.step; client = h.server; server = h.client }

-- how far an event moves an epoch
one_acked_epoch : (r : Ring) (n : ℕ) → (after_acked r n).epoch ≡ r.epoch
unfolding after_acked
one_acked_epoch r n = elim (is_from r.first n) as (λ t. (if t then record r { acked = true } else r).epoch ≡ r.epoch) [ true ↦ refl | false ↦ refl ]

acked_epoch : (r : Ring) (ns : List ℕ) → (after_all_acked r ns).epoch ≡ r.epoch
acked_epoch r [] = refl
acked_epoch r (n ∷ ns) = acked_epoch (after_acked r n) ns ∙ one_acked_epoch r n

opened_epoch : (r : Ring) (which : Which) (n : ℕ) → (after_opened r which n).epoch ≤ r.epoch + 1
unfolding after_opened
opened_epoch r Current n = omega arith
opened_epoch r Previous n = omega arith
opened_epoch r Next n = omega arith

end_opened_epoch : (e : End) (which : Which) (p : Packet) → (end_opened e which p).ring.epoch ≤ e.ring.epoch + 1
unfolding end_opened
end_opened_epoch e which p = omega (arith, acked_epoch (after_opened e.ring which p.number) p.carried, opened_epoch e.ring which p.number)

given_epoch : (e : End) (o : Option Packet) → (end_given e o).ring.epoch ≤ e.ring.epoch + 1
unfolding end_given
given_epoch e None = omega arith
given_epoch e (Some p) =
    elim (opens e p) as (λ t. (if t then end_opened e (which_of e p) p else e).ring.epoch ≤ e.ring.epoch + 1) [
      | true ↦ end_opened_epoch e (which_of e p) p
      | false ↦ omega arith
    ]

updated_epoch : (e : End) → (end_updated e).ring.epoch ≤ e.ring.epoch + 1
unfolding end_updated after_update
updated_epoch e =
    elim (may_update e.ring) as (λ t. (if t then record e { ring = after_update e.ring } else e).ring.epoch ≤ e.ring.epoch + 1) [
      | true ↦ omega arith
      | false ↦ omega arith
    ]

discarded_epoch : (e : End) → (end_discarded e).ring.epoch ≡ e.ring.epoch
unfolding end_discarded after_discard
discarded_epoch e = grind arith

sealed_epoch : (e : End) → (end_sealed e).ring.epoch ≡ e.ring.epoch
unfolding end_seals after_sealed
sealed_epoch e = refl

-- an event
client_moves : (n : ℕ) (w : World) (c : End) → AreInStep c w.server → c.ring.epoch ≤ n + 1 → InStepWithin n w → InStepWithin (n + 1) (record w { client = c })
client_moves n w c s e h = record { step = s; client = e; server = omega (arith, h.server) }

server_moves : (n : ℕ) (w : World) (s : End) → AreInStep s w.client → s.ring.epoch ≤ n + 1 → InStepWithin n w → InStepWithin (n + 1) (record w { server = s })
server_moves n w s t e h = record { step = turned s w.client t; client = omega (arith, h.client); server = e }

pub happens_in_step : (n : ℕ) (w : World) (v : RingEvent) → n + 1 < 2 ^ 64 → InStepWithin n w → InStepWithin (n + 1) (happens w v)
unfolding happens
happens_in_step n w (Seal Client) small h =
    client_moves n w (end_sealed w.client) (seal w.client w.server w.client.next w.client.opened (omega arith) (omega arith) h.step) (omega (arith, sealed_epoch w.client, h.client)) h
happens_in_step n w (Seal Server) small h =
    server_moves n w (end_sealed w.server) (seal w.server w.client w.server.next w.server.opened (omega arith) (omega arith) (turned w.client w.server h.step)) (omega (arith, sealed_epoch w.server, h.server)) h
happens_in_step n w (Update Client) small h =
    client_moves n w (end_updated w.client) (end_updated_in_step w.client w.server (one_more w.client.ring.epoch (omega (arith, h.client))) h.step) (omega (arith, updated_epoch w.client, h.client)) h
happens_in_step n w (Update Server) small h =
    server_moves n w (end_updated w.server) (end_updated_in_step w.server w.client (one_more w.server.ring.epoch (omega (arith, h.server))) (turned w.client w.server h.step)) (omega (arith, updated_epoch w.server, h.server)) h
happens_in_step n w (Deliver Server k) small h =
    client_moves n w (end_given w.client (packet_at w Server k)) (end_given_in_step w.client w.server k (one_more w.client.ring.epoch (omega (arith, h.client))) h.step) (omega (arith, given_epoch w.client (packet_at w Server k), h.client)) h
happens_in_step n w (Deliver Client k) small h =
    server_moves n w (end_given w.server (packet_at w Client k)) (end_given_in_step w.server w.client k (one_more w.server.ring.epoch (omega (arith, h.server))) (turned w.client w.server h.step)) (omega (arith, given_epoch w.server (packet_at w Client k), h.server)) h
happens_in_step n w (Discard Client) small h =
    client_moves n w (end_discarded w.client) (end_discarded_in_step w.client w.server h.step) (omega (arith, discarded_epoch w.client, h.client)) h
happens_in_step n w (Discard Server) small h =
    server_moves n w (end_discarded w.server) (end_discarded_in_step w.server w.client (turned w.client w.server h.step)) (omega (arith, discarded_epoch w.server, h.server)) h

-- a run
run_in_step : (vs : List RingEvent) (n : ℕ) (w : World) → n + length vs < 2 ^ 64 → InStepWithin n w → InStepWithin (n + length vs) (run vs w)
run_in_step [] n w small h = record { step = h.step; client = omega (arith, h.client); server = omega (arith, h.server) }
run_in_step (v ∷ vs) n w small h =
    let rest : InStepWithin (n + 1 + length vs) (run vs (happens w v)) = run_in_step vs (n + 1) (happens w v) (omega arith) (happens_in_step n w v (omega arith) h) in
    record { step = rest.step; client = omega (arith, rest.client); server = omega (arith, rest.server) }

pub first_within : InStepWithin 0 first_world
first_within = record { step = first_in_step; client = omega arith; server = omega arith }

pub always_in_step : (vs : List RingEvent) (n : ℕ) → length vs < 2 ^ 64 → AreInStep (run (take n vs) first_world).client (run (take n vs) first_world).server
always_in_step vs n small = (run_in_step (take n vs) 0 first_world (omega (arith, length-take n vs)) first_within).step

-- what is proved of two ends in step, of a world
pub in_step_near : (w : World) → AreInStep w.client w.server → AreNear w
in_step_near w h = record { client = h.one.near; server = h.two.near }

in_step_updates_each : (w : World) → AreInStep w.client w.server → (from : Side) (index : ℕ) (p : Packet) → packet_at w from index ≡ Some p → which_of (end_of w (other from)) p ≡ Next → opens (end_of w (other from)) p ≡ true → IsGoodUpdate (end_of w (other from)) p
in_step_updates_each w h Client k p at named opened = update_is_good w.server w.client p (all_at (FitsEnds w.client w.server) w.client.sent k p h.sent_one at) named opened (turned w.client w.server h)
in_step_updates_each w h Server k p at named opened = update_is_good w.client w.server p (all_at (FitsEnds w.server w.client) w.server.sent k p h.sent_two at) named opened h

opened_outcome : (e : End) (p : Packet) (o : Option Packet) → o ≡ Some p → opens e p ≡ true → delivered e o ≡ Opened
opened_outcome e p o at t = rw (at, t) refl

in_step_current_each : (w : World) → AreInStep w.client w.server → (from : Side) (index : ℕ) (p : Packet) → packet_at w from index ≡ Some p → p.epoch ≡ (end_of w from).ring.epoch → outcome w (Deliver from index) ≡ Opened
unfolding outcome
in_step_current_each w h Client k p at e = opened_outcome w.server p (packet_at w Client k) at (current_opens w.server w.client p (all_at (FitsEnds w.client w.server) w.client.sent k p h.sent_one at) e (turned w.client w.server h))
in_step_current_each w h Server k p at e = opened_outcome w.client p (packet_at w Server k) at (current_opens w.client w.server p (all_at (FitsEnds w.server w.client) w.server.sent k p h.sent_two at) e h)

old_outcome : (e : End) (p : Packet) (o : Option Packet) → o ≡ Some p → delivered e o ≡ Old → opens e p ≡ false
old_outcome e p o at d =
    elim (opens e p) as (λ t. opens e p ≡ t → t ≡ false) [
      | true ↦ λ t. let same : delivered e o ≡ Opened = opened_outcome e p o at t in cc
      | false ↦ λ t. refl
    ] refl

in_step_old_each : (w : World) → AreInStep w.client w.server → (from : Side) (index : ℕ) (p : Packet) → packet_at w from index ≡ Some p → outcome w (Deliver from index) ≡ Old → p.epoch < (end_of w from).ring.epoch
unfolding outcome
in_step_old_each w h Client k p at d = unopened_is_old w.server w.client p (all_at (FitsEnds w.client w.server) w.client.sent k p h.sent_one at) (old_outcome w.server p (packet_at w Client k) at d) (turned w.client w.server h)
in_step_old_each w h Server k p at d = unopened_is_old w.client w.server p (all_at (FitsEnds w.server w.client) w.server.sent k p h.sent_two at) (old_outcome w.client p (packet_at w Server k) at d) h

-- and at every moment of a run
pub always_near : (vs : List RingEvent) → length vs < 2 ^ 64 → Throughout AreNear vs
always_near vs small n = in_step_near (run (take n vs) first_world) (always_in_step vs n small)

pub always_updates : (vs : List RingEvent) → length vs < 2 ^ 64 → Throughout UpdatesAreGood vs
always_updates vs small n = record { each = in_step_updates_each (run (take n vs) first_world) (always_in_step vs n small) }

pub always_current : (vs : List RingEvent) → length vs < 2 ^ 64 → Throughout CurrentOpens vs
always_current vs small n = record { each = in_step_current_each (run (take n vs) first_world) (always_in_step vs n small) }

pub always_old : (vs : List RingEvent) → length vs < 2 ^ 64 → Throughout OnlyOldFail vs
always_old vs small n = record { each = in_step_old_each (run (take n vs) first_world) (always_in_step vs n small) }

-- The laws of two ends in step, each as it is stated.
use Rattle.std.proofs.Common.{◌≡◌, ℕ, ◌+◌, ◌<◌, ◌^◌, arith}
use Rattle.qc_base.specs.Time.{plus}
use Rattle.qc_rings.specs.InStep.{FitsEnds}
use Rattle.qc_rings.specs.PairLaws.{FirstInStep, InStepTurned, SealKeepsStep, UpdateKeepsStep, DeliverKeepsStep, DiscardKeepsStep, OpenKeepsStep, AckKeepsStep, RiseKeepsStep, HearKeepsStep, StepIsNear, StepUpdatesWell, StepOpensCurrent, StepFailsOld}
use Rattle.qc_rings.proofs.Moves.{seal, rise, hear}
use Rattle.qc_rings.proofs.Steps.{all_at, first_in_step, turned, end_updated_in_step, end_given_in_step, end_discarded_in_step, opened_in_step, acked_in_step, update_is_good, current_opens, unopened_is_old}

pub one_more : (e : ℕ) → e + 1 < 2 ^ 64 → plus e 1 ≡ e + 1
one_more e h = omega arith

pub first_law : FirstInStep
first_law = first_in_step

pub turned_law : InStepTurned
turned_law = turned

pub seal_law : SealKeepsStep
seal_law = seal

pub update_law : UpdateKeepsStep
update_law a b small h = end_updated_in_step a b (one_more a.ring.epoch small) h

pub deliver_law : DeliverKeepsStep
deliver_law a b index small h = end_given_in_step a b index (one_more a.ring.epoch small) h

pub discard_law : DiscardKeepsStep
discard_law = end_discarded_in_step

pub open_law : OpenKeepsStep
open_law a b which index p small at e h = opened_in_step a b which p (one_more a.ring.epoch small) e (all_at (FitsEnds b a) b.sent index p h.sent_two at) h

pub ack_law : AckKeepsStep
ack_law a b index p number at within h = acked_in_step a b p number within (all_at (FitsEnds b a) b.sent index p h.sent_two at) h

pub rise_law : RiseKeepsStep
rise_law = rise

pub hear_law : HearKeepsStep
hear_law = hear

pub near_law : StepIsNear
near_law a b h = h.one.near

pub updates_law : StepUpdatesWell
updates_law a b index p at named opened h = update_is_good a b p (all_at (FitsEnds b a) b.sent index p h.sent_two at) named opened h

pub current_law : StepOpensCurrent
current_law a b index p at e h = current_opens a b p (all_at (FitsEnds b a) b.sent index p h.sent_two at) e h

pub old_law : StepFailsOld
old_law a b index p at e h = unopened_is_old a b p (all_at (FitsEnds b a) b.sent index p h.sent_two at) e h

pub ruleset step_laws = (first_law, turned_law, near_law, updates_law, current_law, old_law)

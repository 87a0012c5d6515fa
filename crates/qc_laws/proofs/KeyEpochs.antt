-- The epochs of the 1-RTT keys over their steps: each step leaves the epoch, or begins the next one.
use Rattle.std.proofs.Common.{◌≡◌, ℕ, ◌≤◌, List, [], ◌∷◌, refl, ap, subst, Bool, true, false, Option, Some, None, if◌then◌else◌, arith}
use Rattle.qc_rings.specs.Keyed.{keyed_acked, keyed_discarded, keyed_opened, keyed_sealed, keyed_in, keyed_updated}
use Rattle.qc_rings.specs.Ring.{Dropped, Ring, after_acked, after_discard, after_opened, after_sealed, has_floor, is_from, after_update, may_update}
use Rattle.qc_rings.specs.declared.which.Which.{Which}
use Rattle.qc_rings.specs.declared.which.Which.TheVariants.{Current, Next, Previous}
use Rattle.qc_state.specs.declared.keys.Fresh.{Fresh}
use Rattle.qc_state.specs.declared.keys.OneRttKeys.{OneRttKeys}
use Rattle.qc_state.specs.Keys.{epoch_with, ring_acked, ring_discarded, ring_opened, ring_used, ring_updated}
use Rattle.qc_laws.specs.UpdateLaws.{Acknowledged, AllMay, Discarded, EpochsRise, Given, KeyStep, MayStep, Opened, Sealed, key_step, key_steps, sealed_by, Updated}

-- from a lower epoch on
from_lower : (low from upto : ℕ) (ps : List (ℕ × ℕ)) → low ≤ from → EpochsRise from upto ps → EpochsRise low upto ps
from_lower low from upto [] below h = omega (arith, below, h)
from_lower low from upto (p ∷ ps) below h = (omega (arith, below, h.0), h.1)

module _ {H P : Type 0} where
  -- each step leaves the epoch, or begins the next one
  sealed_epoch : (n : ℕ) (k : Option (OneRttKeys H P)) → epoch_with (ring_used n k) ≡ epoch_with k
  unfolding ring_used keyed_sealed after_sealed
  sealed_epoch n None = refl
  sealed_epoch n (Some k) = refl

  -- the next epoch lies no lower, where the epoch has its range
  opened_epoch : (which : Which) (n : ℕ) (fresh : Option (Fresh P)) (k : Option (OneRttKeys H P)) → epoch_with k ≤ 18446744073709551615 →
      epoch_with k ≤ epoch_with (ring_opened which n fresh k)
  unfolding ring_opened keyed_opened after_opened
  opened_epoch which n fresh None held = omega arith
  opened_epoch Next n None (Some k) held = omega arith
  opened_epoch Next n (Some fresh) (Some k) held = grind (arith, held)
  opened_epoch Current n None (Some k) held = omega arith
  opened_epoch Previous n None (Some k) held = omega arith
  opened_epoch Current n (Some fresh) (Some k) held = omega arith
  opened_epoch Previous n (Some fresh) (Some k) held = omega arith

  opened_held : (which : Which) (n : ℕ) (fresh : Option (Fresh P)) (k : Option (OneRttKeys H P)) → epoch_with k ≤ 18446744073709551615 →
      epoch_with (ring_opened which n fresh k) ≤ 18446744073709551615
  unfolding ring_opened keyed_opened after_opened
  opened_held which n fresh None held = omega arith
  opened_held Next n None (Some k) held = held
  opened_held Next n (Some fresh) (Some k) held = grind (arith, held)
  opened_held Current n None (Some k) held = held
  opened_held Previous n None (Some k) held = held
  opened_held Current n (Some fresh) (Some k) held = held
  opened_held Previous n (Some fresh) (Some k) held = held

  acked_epoch : (n : ℕ) (k : Option (OneRttKeys H P)) → epoch_with (ring_acked n k) ≡ epoch_with k
  unfolding ring_acked keyed_acked after_acked
  acked_epoch n None = refl
  acked_epoch n (Some k) = acked_by_test (is_from k.ring.ring.first n)
    where
      acked_by_test : (b : Bool) → (if b then record k.ring.ring { acked = true } else k.ring.ring).epoch ≡ k.ring.ring.epoch
      acked_by_test true = refl
      acked_by_test false = refl

  updated_epoch : (fresh : Option (Fresh P)) (k : Option (OneRttKeys H P)) → epoch_with k ≤ 18446744073709551615 →
      epoch_with k ≤ epoch_with (ring_updated fresh k)
  unfolding ring_updated keyed_updated after_update
  updated_epoch None k held = omega arith
  updated_epoch (Some fresh) None held = omega arith
  updated_epoch (Some fresh) (Some k) held = updated_by_test (may_update k.ring.ring)
    where
      updated_by_test : (b : Bool) → k.ring.ring.epoch ≤ (if b then keyed_in (after_update k.ring.ring) k.ring fresh.keys else k.ring).ring.epoch
      updated_by_test true = grind (arith, held)
      updated_by_test false = omega arith

  updated_held : (fresh : Option (Fresh P)) (k : Option (OneRttKeys H P)) → epoch_with k ≤ 18446744073709551615 →
      epoch_with (ring_updated fresh k) ≤ 18446744073709551615
  unfolding ring_updated keyed_updated after_update
  updated_held None k held = held
  updated_held (Some fresh) None held = omega arith
  updated_held (Some fresh) (Some k) held = held_by_test (may_update k.ring.ring)
    where
      held_by_test : (b : Bool) → (if b then keyed_in (after_update k.ring.ring) k.ring fresh.keys else k.ring).ring.epoch ≤ 18446744073709551615
      held_by_test true = grind (arith, held)
      held_by_test false = held

  discarded_epoch : (k : Option (OneRttKeys H P)) → epoch_with (ring_discarded k) ≡ epoch_with k
  unfolding ring_discarded keyed_discarded after_discard
  discarded_epoch None = refl
  discarded_epoch (Some k) = dropped_by_test (has_floor k.ring.ring.kept)
    where
      dropped_by_test : (b : Bool) → (if b then record k.ring { ring = if b then record k.ring.ring { kept = Dropped } else k.ring.ring; previous = None } else k.ring).ring.epoch ≡ k.ring.ring.epoch
      dropped_by_test true = refl
      dropped_by_test false = refl

  -- each step keeps the range
  pub step_held : (x : KeyStep H P) (k : Option (OneRttKeys H P)) → MayStep x k → epoch_with k ≤ 18446744073709551615 → epoch_with (key_step x k) ≤ 18446744073709551615
  step_held (Given keys) k may held = omega (arith, ap (λ (r : Ring). r.epoch) may.1)
  step_held (Sealed n) k may held = omega (arith, sealed_epoch n k, held)
  step_held (Opened n which fresh) k may held = opened_held which n fresh k held
  step_held (Acknowledged n) k may held = omega (arith, acked_epoch n k, held)
  step_held (Updated fresh) k may held = updated_held fresh k held
  step_held Discarded k may held = omega (arith, discarded_epoch k, held)

  pub steps_held : (xs : List (KeyStep H P)) (k : Option (OneRttKeys H P)) → AllMay xs k → epoch_with k ≤ 18446744073709551615 → epoch_with (key_steps xs k) ≤ 18446744073709551615
  steps_held [] k may held = held
  steps_held (x ∷ xs) k may held = steps_held xs (key_step x k) may.1 (step_held x k may.0 held)

  pub steps_rise : (xs : List (KeyStep H P)) (k : Option (OneRttKeys H P)) → AllMay xs k → epoch_with k ≤ 18446744073709551615 →
      EpochsRise (epoch_with k) (epoch_with (key_steps xs k)) (sealed_by xs k)
  steps_rise [] k may held = omega arith
  steps_rise (Sealed n ∷ xs) k may held =
      let more : Option (OneRttKeys H P) = ring_used n k in (
        omega arith,
        subst (λ (e : ℕ). EpochsRise e (epoch_with (key_steps xs more)) (sealed_by xs more)) (sealed_epoch n k) (steps_rise xs more may.1 (step_held (Sealed n) k may.0 held)),
      )
  steps_rise (Given keys ∷ xs) k may held =
      let none : epoch_with k ≡ 0 = ap (λ (o : Option (OneRttKeys H P)). epoch_with o) may.0.0 in
      from_lower (epoch_with k) (epoch_with (Some keys)) (epoch_with (key_steps xs (Some keys))) (sealed_by xs (Some keys))
      (omega (arith, none))
      (steps_rise xs (Some keys) may.1 (step_held (Given keys) k may.0 held))
  steps_rise (Opened n which fresh ∷ xs) k may held =
      let more : Option (OneRttKeys H P) = ring_opened which n fresh k in
      from_lower (epoch_with k) (epoch_with more) (epoch_with (key_steps xs more)) (sealed_by xs more)
      (opened_epoch which n fresh k held)
      (steps_rise xs more may.1 (opened_held which n fresh k held))
  steps_rise (Acknowledged n ∷ xs) k may held =
      let more : Option (OneRttKeys H P) = ring_acked n k in
      subst (λ (e : ℕ). EpochsRise e (epoch_with (key_steps xs more)) (sealed_by xs more)) (acked_epoch n k)
      (steps_rise xs more may.1 (step_held (Acknowledged n) k may.0 held))
  steps_rise (Updated fresh ∷ xs) k may held =
      let more : Option (OneRttKeys H P) = ring_updated fresh k in
      from_lower (epoch_with k) (epoch_with more) (epoch_with (key_steps xs more)) (sealed_by xs more)
      (updated_epoch fresh k held)
      (steps_rise xs more may.1 (updated_held fresh k held))
  steps_rise (Discarded ∷ xs) k may held =
      let more : Option (OneRttKeys H P) = ring_discarded k in
      subst (λ (e : ℕ). EpochsRise e (epoch_with (key_steps xs more)) (sealed_by xs more)) (discarded_epoch k)
      (steps_rise xs more may.1 (step_held Discarded k may.0 held))

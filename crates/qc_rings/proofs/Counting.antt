-- How an end counts, with each move.
use Rattle.std.specs.Prelude.{true, false, Option, Some, None, nat_eq, if◌then◌else◌}
use Rattle.std.proofs.Common.{◌≡◌, ℕ, ◌+◌, ◌<◌, ◌≤◌, refl, arith}
use Rattle.std.proofs.lemmas.Bool.Decides.{nat_tests}
use Rattle.qc_base.specs.Time.{plus}
use Rattle.qc_rings.specs.declared.which.Which.{Which}
use Rattle.qc_rings.specs.declared.which.Which.TheVariants.{Current, Previous, Next}
use Rattle.qc_rings.specs.Ring.{Dropped, after_opened, after_sealed, after_acked, after_update, after_discard, may_update, has_floor, is_dropped, is_from, first_with}
use Rattle.qc_rings.specs.Keyed.{key_of_epoch}
use Rattle.qc_rings.specs.TwoRings.{Packet, End, end_seals, end_updated, end_discarded, end_noted, is_of_epoch}
use Rattle.qc_rings.specs.InStep.{start_of, start, FitsEnds, AreInStep, Counts}
use Rattle.qc_rings.specs.PairLaws.{FirstCounts, SealKeepsCounts, UpdateKeepsCounts, OpenKeepsCounts, AckKeepsCounts, DiscardKeepsCounts, RiseKeepsCounts, HearKeepsCounts, NumbersReachEpochs, NamedIsOfEpoch}
use Rattle.qc_rings.proofs.Steps.{all_at, and_true}
use Rattle.qc_rings.proofs.StepLaws.{one_more}

pub first_counts : FirstCounts
first_counts = record { epochs = omega arith; used = λ e. cc }

seal_start : (first : Option ℕ) (epoch m n : ℕ) → m ≤ n → epoch ≤ start_of first m → epoch ≤ start_of (first_with first n) (n + 1)
seal_start None epoch m n h e = omega arith
seal_start (Some f) epoch m n h e = e

seal_used : (first : Option ℕ) (m n : ℕ) → m ≤ n → start_of first m < m → start_of (first_with first n) (n + 1) < n + 1
seal_used None m n h e = omega arith
seal_used (Some f) m n h e = omega arith

pub seal_counts : SealKeepsCounts
unfolding end_seals after_sealed
seal_counts e n ns h c = record { epochs = seal_start e.ring.first e.ring.epoch e.next n h c.epochs; used = λ a. seal_used e.ring.first e.next n h (c.used a) }

pub update_counts : UpdateKeepsCounts
unfolding end_updated may_update after_update
update_counts e small c =
    elim (may_update e.ring) as (λ t. may_update e.ring ≡ t → Counts (if t then record e { ring = after_update e.ring } else e)) [
      | true ↦ λ m. let used : start e < e.next = c.used (and_true (is_dropped e.ring.kept) e.ring.acked m).1 in
          let up : plus e.ring.epoch 1 ≡ e.ring.epoch + 1 = one_more e.ring.epoch small in
          record { epochs = omega (arith, c.epochs); used = λ a. cc }
      | false ↦ λ m. c
    ] refl

opened_counts : (a b : End) (which : Which) (p : Packet) → plus a.ring.epoch 1 ≡ a.ring.epoch + 1 → is_of_epoch a.ring which p.epoch ≡ true → FitsEnds b a p → AreInStep a b → Counts a → Counts (end_noted a which p.number)
unfolding after_opened
opened_counts a b Current p up e f h c = record { epochs = c.epochs; used = c.used }
opened_counts a b Previous p up e f h c = record { epochs = c.epochs; used = c.used }
opened_counts a b Next p up e f h c =
    let same : p.epoch ≡ a.ring.epoch + 1 = grind (arith, nat_tests) in
    let ahead : b.ring.epoch ≡ a.ring.epoch + 1 = omega (arith, f.past, h.two.near) in
    let used : start a < a.next = h.two.ahead_used ahead in
    record { epochs = omega (arith, c.epochs); used = λ x. cc }

pub open_counts : OpenKeepsCounts
open_counts a b which index p small at e h c = opened_counts a b which p (one_more a.ring.epoch small) e (all_at (FitsEnds b a) b.sent index p h.sent_two at) h c

from_start : (first : Option ℕ) (m n : ℕ) → is_from first n ≡ true → start_of first m ≤ n
from_start None m n e = cc
from_start (Some f) m n e = grind (arith, nat_tests)

pub ack_counts : AckKeepsCounts
unfolding after_acked
ack_counts a b index p n at within h c =
    let f : FitsEnds b a p = all_at (FitsEnds b a) b.sent index p h.sent_two at in
    elim (is_from a.ring.first n) as (λ t. is_from a.ring.first n ≡ t → Counts (record a { ring = (if t then record (a.ring) { acked = true } else a.ring) })) [
      | true ↦ λ e. let low : start a ≤ n = from_start a.ring.first a.next n e in record { epochs = c.epochs; used = λ x. omega (arith, f.exist) }
      | false ↦ λ e. c
    ] refl

pub discard_counts : DiscardKeepsCounts
unfolding end_discarded after_discard
discard_counts e c =
    elim (has_floor e.ring.kept) as (λ t. Counts (record e { ring = (if t then record (e.ring) { kept = Dropped } else e.ring) })) [
      | true ↦ record { epochs = c.epochs; used = c.used }
      | false ↦ c
    ]

rise_start : (first : Option ℕ) (epoch m n : ℕ) → m ≤ n → first ≡ None → epoch ≤ start_of first m → epoch ≤ start_of first n
rise_start None epoch m n h e l = omega arith
rise_start (Some f) epoch m n h e l = cc

rise_unused : (first : Option ℕ) (m : ℕ) → first ≡ None → start_of first m < m → ⊥
rise_unused None m e l = omega arith
rise_unused (Some f) m e l = cc

pub rise_counts : RiseKeepsCounts
rise_counts e n h none c = record { epochs = rise_start e.ring.first e.ring.epoch e.next n h none c.epochs; used = λ a. absurd (rise_unused e.ring.first e.next none (c.used a)) }

pub hear_counts : HearKeepsCounts
hear_counts e n c = record { epochs = c.epochs; used = c.used }

pub numbers_reach : NumbersReachEpochs
numbers_reach a b index p at same h c =
    let f : FitsEnds a b p = all_at (FitsEnds a b) a.sent index p h.sent_one at in
    grind (arith, f.before, c.epochs)

-- the keys of an epoch
pub named_is_of_epoch : {P : Type 0} → NamedIsOfEpoch P
unfolding key_of_epoch
named_is_of_epoch {P} k Current epoch e = rw e refl
named_is_of_epoch {P} k Next epoch e =
    let other : nat_eq epoch k.ring.epoch ≡ false = grind (arith, nat_tests) in
    rw (other, e) refl
named_is_of_epoch {P} k Previous epoch e =
    let one : nat_eq epoch k.ring.epoch ≡ false = grind (arith, nat_tests) in
    let two : nat_eq epoch (k.ring.epoch + 1) ≡ false = grind (arith, nat_tests) in
    rw (one, two, e) refl

pub ruleset counting_laws = (seal_counts, update_counts, open_counts, ack_counts, discard_counts, rise_counts, hear_counts, numbers_reach)

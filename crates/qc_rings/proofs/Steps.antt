-- Each event keeps two ends in step.
use Rattle.std.specs.Prelude.{Bool, true, false, not, max, Option, Some, None, nat_eq, nat_lt, slice_get, ◌&&◌, if◌then◌else◌}
use Rattle.std.proofs.Common.{◌≡◌, ℕ, zero, suc, ◌+◌, ◌<◌, ◌≤◌, ◌⊎◌, inl, inr, List, [], ◌∷◌, refl, sym, ap, subst, ◌∙◌, arith, All}
use Rattle.std.proofs.lemmas.Bool.Decides.{nat_tests}
use Rattle.std.proofs.lemmas.List.Elements.{All-head, All-tail, All-nil}
use Rattle.qc_base.specs.Time.{plus}
use Rattle.qc_rings.specs.declared.which.Which.{Which}
use Rattle.qc_rings.specs.declared.which.Which.TheVariants.{Current, Previous, Next}
use Rattle.qc_rings.specs.Ring.{Ring, Kept, Dropped, Open, Below, is_from, is_dropped, may_update, has_floor, after_acked, after_discard, phase_of, same_phase, serves, which_named}
use Rattle.qc_rings.specs.TwoRings.{Packet, End, bound, first_end, end_updated, end_discarded, end_given, end_noted, end_opened, end_acked, after_all_acked, is_of_epoch, which_of, opens, IsGoodUpdate}
use Rattle.qc_rings.specs.InStep.{start_of, floor_bound, FitsEnds, Keeps, AreInStep}
use Rattle.qc_rings.specs.Ring.{is_open}
use Rattle.qc_rings.proofs.Moves.{updated, update, drop, current, previous, next, flagged, flag}

-- an element of a list of which a fact holds
pub all_at : {X : Type 0} (P : X → Type 0) (xs : List X) (k : ℕ) (x : X) → All P xs → slice_get xs k ≡ Some x → P x
all_at P [] k x h e = cc
all_at P (y ∷ xs) zero x h e = let same : y ≡ x = cc in subst P same (All-head P y xs h)
all_at P (y ∷ xs) (suc k) x h e = all_at P xs k x (All-tail P y xs h) e

-- two ends that begin are in step
pub first_in_step : AreInStep first_end first_end
first_in_step =
    record {
      sent_one = All-nil (FitsEnds first_end first_end);
      sent_two = All-nil (FitsEnds first_end first_end);
      one = keeps;
      two = keeps;
    }
  where
    keeps : Keeps first_end first_end
    keeps = grind arith

-- an update
pub and_true : (b c : Bool) → b && c ≡ true → (b ≡ true) × (c ≡ true)
and_true true true e = (refl, refl)
and_true true false e = cc
and_true false c e = cc

dropped_by : (k : Kept) → is_dropped k ≡ true → k ≡ Dropped
dropped_by Dropped e = refl
dropped_by Open e = cc
dropped_by (Below f) e = cc

pub end_updated_in_step : (a b : End) → plus a.ring.epoch 1 ≡ a.ring.epoch + 1 → AreInStep a b → AreInStep (end_updated a) b
unfolding end_updated may_update
end_updated_in_step a b r h =
    elim (may_update a.ring) as (λ t. may_update a.ring ≡ t → AreInStep (if t then updated a else a) b) [
      | true ↦ λ e. let two = and_true (is_dropped a.ring.kept) a.ring.acked e in update a b r (dropped_by a.ring.kept two.0) two.1 h
      | false ↦ λ e. h
    ] refl

-- a discard
floor_closes : (k : Kept) → has_floor k ≡ true → is_open k ≡ false
floor_closes Dropped e = cc
floor_closes Open e = cc
floor_closes (Below f) e = refl

pub end_discarded_in_step : (a b : End) → AreInStep a b → AreInStep (end_discarded a) b
unfolding end_discarded after_discard
end_discarded_in_step a b h =
    elim (has_floor a.ring.kept) as (λ t. has_floor a.ring.kept ≡ t → AreInStep (record a { ring = (if t then record (a.ring) { kept = Dropped } else a.ring) }) b) [
      | true ↦ λ e. drop a b (floor_closes a.ring.kept e) h
      | false ↦ λ e. h
    ] refl

-- an acknowledgement changes nothing, or sets the mark by a number of this epoch
from_first : (first : Option ℕ) (m n : ℕ) → is_from first n ≡ true → start_of first m < n + 1
from_first None m n e = cc
from_first (Some f) m n e = grind (arith, nat_tests)

record IsNoted (r s : Ring) (m n : ℕ) : Type 0 where
  mark : s ≡ record r { acked = s.acked }
  why : r.acked ≡ false → s.acked ≡ true → start_of r.first m < n

one_acked : (r : Ring) (m n : ℕ) → IsNoted r (after_acked r n) m (n + 1)
unfolding after_acked
one_acked r m n =
    elim (is_from r.first n) as (λ t. is_from r.first n ≡ t → IsNoted r (if t then record r { acked = true } else r) m (n + 1)) [
      | true ↦ λ e. record { mark = refl; why = λ _ _. from_first r.first m n e }
      | false ↦ λ e. record { mark = refl; why = λ x y. cc }
    ] refl

noted_more : (r s t : Ring) (m n k : ℕ) → IsNoted r s m n → IsNoted s t m k → IsNoted r t m (max n k)
noted_more r s t m n k f g =
    record {
      mark = g.mark ∙ ap (λ (x : Ring). record x { acked = t.acked }) f.mark;
      why = λ x y. elim s.acked as (λ b. s.acked ≡ b → start_of r.first m < max n k) [
        | true ↦ λ e. omega (arith, f.why x e)
        | false ↦ λ e. let first : s.first ≡ r.first = ap (λ (x : Ring). x.first) f.mark in let w : start_of s.first m < k = g.why e y in omega (arith, subst (λ o. start_of o m < k) first w)
      ] refl;
    }

all_acked : (r : Ring) (m : ℕ) (ns : List ℕ) → IsNoted r (after_all_acked r ns) m (bound ns)
all_acked r m [] = record { mark = refl; why = λ x y. cc }
all_acked r m (n ∷ ns) = noted_more r (after_acked r n) (after_all_acked (after_acked r n) ns) m (n + 1) (bound ns) (one_acked r m n) (all_acked (after_acked r n) m ns)

-- one number of those that a packet carries
pub acked_in_step : (a b : End) (p : Packet) (n : ℕ) → n < bound p.carried → FitsEnds b a p → AreInStep a b → AreInStep (end_acked a n) b
acked_in_step a b p n h f i =
    let m : IsNoted a.ring (after_acked a.ring n) a.next (n + 1) = one_acked a.ring a.next n in
    let j : AreInStep (flagged a (after_acked a.ring n).acked) b = flag a b p (after_acked a.ring n).acked f (λ x y. omega (arith, m.why x y)) i in
    subst (λ (x : Ring). AreInStep (record a { ring = x }) b) (sym m.mark) j

-- a packet that an end opens
pub opened_in_step : (a b : End) (which : Which) (p : Packet) → plus a.ring.epoch 1 ≡ a.ring.epoch + 1 → is_of_epoch a.ring which p.epoch ≡ true → FitsEnds b a p → AreInStep a b → AreInStep (end_noted a which p.number) b
opened_in_step a b Current p r e f h = current a b p f (grind (arith, nat_tests)) h
opened_in_step a b Previous p r e f h = previous a b p f (grind (arith, nat_tests)) h
opened_in_step a b Next p r e f h = next a b p r f (grind (arith, nat_tests)) h

pub end_opened_in_step : (a b : End) (which : Which) (k : ℕ) (p : Packet) → plus a.ring.epoch 1 ≡ a.ring.epoch + 1 → is_of_epoch a.ring which p.epoch ≡ true → slice_get b.sent k ≡ Some p → AreInStep a b → AreInStep (end_opened a which p) b
unfolding end_opened
end_opened_in_step a b which k p r e at h =
    let c = end_noted a which p.number in
    let i : AreInStep c b = opened_in_step a b which p r e (all_at (FitsEnds b a) b.sent k p h.sent_two at) h in
    let n : IsNoted c.ring (after_all_acked c.ring p.carried) c.next (bound p.carried) = all_acked c.ring c.next p.carried in
    let j : AreInStep (flagged c (after_all_acked c.ring p.carried).acked) b = flag c b p (after_all_acked c.ring p.carried).acked (all_at (FitsEnds b c) b.sent k p i.sent_two at) n.why i in
    subst (λ (x : Ring). AreInStep (record c { ring = x }) b) (sym n.mark) j

pub end_given_in_step : (a b : End) (k : ℕ) → plus a.ring.epoch 1 ≡ a.ring.epoch + 1 → AreInStep a b → AreInStep (end_given a (slice_get b.sent k)) b
unfolding end_given opens
end_given_in_step a b k r h =
    elim (slice_get b.sent k) as (λ o. slice_get b.sent k ≡ o → AreInStep (end_given a o) b) [
      | None ↦ λ e. h
      | Some p ↦ λ at. elim (is_of_epoch a.ring (which_of a p) p.epoch) as (λ t. is_of_epoch a.ring (which_of a p) p.epoch ≡ t → AreInStep (if t then end_opened a (which_of a p) p else a) b) [
        | true ↦ λ e. end_opened_in_step a b (which_of a p) k p r e at h
        | false ↦ λ e. h
      ] refl
    ] refl

-- the ends exchanged
pub turned : (a b : End) → AreInStep a b → AreInStep b a
turned a b h = record { sent_one = h.sent_two; sent_two = h.sent_one; one = h.two; two = h.one }

-- which keys a packet names, by its epoch
phase_after : (e : ℕ) → phase_of (e + 1) ≡ not (phase_of e)
phase_after e = grind (arith, nat_tests)

same_as_itself : (b : Bool) → same_phase b b ≡ true
same_as_itself true = refl
same_as_itself false = refl

not_its_opposite : (b : Bool) → (same_phase (not b) b ≡ false) × (same_phase b (not b) ≡ false)
not_its_opposite true = (refl, refl)
not_its_opposite false = (refl, refl)

names_current : (r : Ring) (e n : ℕ) → e ≡ r.epoch → which_named r (phase_of e) n ≡ Current
unfolding which_named
names_current r e n h = rw (h, same_as_itself (phase_of r.epoch)) refl

names_previous : (r : Ring) (e n : ℕ) → e + 1 ≡ r.epoch → serves r.kept n ≡ true → which_named r (phase_of e) n ≡ Previous
unfolding which_named
names_previous r e n h s =
    let phase : phase_of r.epoch ≡ not (phase_of e) = ap phase_of (sym h) ∙ phase_after e in
    rw (phase, (not_its_opposite (phase_of e)).1, s) refl

names_next : (r : Ring) (e n : ℕ) → e ≡ r.epoch + 1 → serves r.kept n ≡ false → which_named r (phase_of e) n ≡ Next
unfolding which_named
names_next r e n h s = rw (h, phase_after r.epoch, (not_its_opposite (phase_of r.epoch)).0, s) refl

open_serves : (k : Kept) (n : ℕ) → is_open k ≡ true → serves k n ≡ true
open_serves Dropped n e = cc
open_serves Open n e = refl
open_serves (Below f) n e = cc

above_floor : (k : Kept) (n : ℕ) → is_open k ≡ false → floor_bound k ≤ n → serves k n ≡ false
above_floor Dropped n e h = refl
above_floor Open n e h = cc
above_floor (Below f) n e h = grind (arith, nat_tests)

same_number : (m n : ℕ) → m ≡ n → nat_eq m n ≡ true
same_number m n e = grind (arith, nat_tests)

three_cases : (x y : ℕ) → x ≤ y + 1 → y ≤ x + 1 → (x ≡ y) ⊎ ((x + 1 ≡ y) ⊎ (x ≡ y + 1))
three_cases x y h g =
    elim (nat_eq x y) as (λ t. nat_eq x y ≡ t → (x ≡ y) ⊎ ((x + 1 ≡ y) ⊎ (x ≡ y + 1))) [
      | true ↦ λ e. inl (grind (arith, nat_tests))
      | false ↦ λ e. elim (nat_lt x y) as (λ t. nat_lt x y ≡ t → (x ≡ y) ⊎ ((x + 1 ≡ y) ⊎ (x ≡ y + 1))) [
        | true ↦ λ l. inr (inl (grind (arith, nat_tests)))
        | false ↦ λ l. inr (inr (grind (arith, nat_tests)))
      ] refl
    ] refl

-- what is of its sealer's current epoch is opened
pub current_opens : (a b : End) (p : Packet) → FitsEnds b a p → p.epoch ≡ b.ring.epoch → AreInStep a b → opens a p ≡ true
unfolding opens
current_opens a b p f e h =
    elim (three_cases b.ring.epoch a.ring.epoch h.two.near h.one.near) as (λ _. is_of_epoch a.ring (which_of a p) p.epoch ≡ true) [
      | inl same ↦ rw (names_current a.ring p.epoch p.number (e ∙ same)) (same_number p.epoch a.ring.epoch (e ∙ same))
      | inr (inl ahead) ↦ let q : p.epoch + 1 ≡ a.ring.epoch = omega (arith, ahead) in rw (names_previous a.ring p.epoch p.number q (open_serves a.ring.kept p.number (h.one.ahead_open (sym ahead)))) (same_number (p.epoch + 1) a.ring.epoch q)
      | inr (inr behind) ↦ let q : p.epoch ≡ a.ring.epoch + 1 = e ∙ behind in let over : floor_bound a.ring.kept ≤ p.number = grind (arith, f.before, h.one.older, h.one.floored) in rw (names_next a.ring p.epoch p.number q (above_floor a.ring.kept p.number (h.two.ahead_floored behind) over)) (same_number p.epoch (a.ring.epoch + 1) q)
    ]

-- an update that opens a packet is one that the peer was allowed to make
pub update_is_good : (a b : End) (p : Packet) → FitsEnds b a p → which_of a p ≡ Next → opens a p ≡ true → AreInStep a b → IsGoodUpdate a p
unfolding opens
update_is_good a b p f named opened h =
    let q : is_of_epoch a.ring Next p.epoch ≡ true = subst (λ w. is_of_epoch a.ring w p.epoch ≡ true) named opened in
    let e : p.epoch ≡ a.ring.epoch + 1 = grind (arith, nat_tests) in
    let ahead : b.ring.epoch ≡ a.ring.epoch + 1 = omega (arith, f.past, h.two.near) in
    record {
      above = grind (arith, f.before, h.one.older, h.one.exist);
      answered = elim a.ring.unanswered as (λ t. a.ring.unanswered ≡ t → t ≡ false) [ true ↦ λ u. absurd (omega (arith, h.one.unanswered u, h.two.ahead_used ahead)) | false ↦ λ u. refl ] refl;
    }

-- what isn't opened is of an epoch before its sealer's
pub unopened_is_old : (a b : End) (p : Packet) → FitsEnds b a p → opens a p ≡ false → AreInStep a b → p.epoch < b.ring.epoch
unopened_is_old a b p f o h =
    elim (nat_eq p.epoch b.ring.epoch) as (λ t. nat_eq p.epoch b.ring.epoch ≡ t → p.epoch < b.ring.epoch) [
      | true ↦ λ e. let same : p.epoch ≡ b.ring.epoch = grind (arith, nat_tests) in let opened = current_opens a b p f same h in cc
      | false ↦ λ e. grind (arith, nat_tests, f.past)
    ] refl

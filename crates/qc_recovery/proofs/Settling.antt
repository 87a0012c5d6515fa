-- Each packet is acknowledged, lost or still in flight
use Rattle.std.proofs.Common.{◌≡◌, ℕ, Bool, true, false, not, List, [], ◌∷◌, ◌++◌, length, refl, sym, subst, arith}
use Rattle.std.specs.Prelude.{◌==◌, if◌then◌else◌, IsPermutation}
use Rattle.std.proofs.lemmas.Bool.Decides.{nat_tests}
use Rattle.std.proofs.lemmas.List.Sorted.{IsPermutation-append_right, IsPermutation-filter_both, IsPermutation-trans}
use Rattle.qc_base.specs.declared.range_set.NumberRange.{NumberRange}
use Rattle.qc_base.specs.declared.side.SpaceId.{SpaceId}
use Rattle.qc_flight.specs.Packets.{Entry, is_acked, is_lost, others, those}
use Rattle.qc_path.specs.Arrived.{exceeds}
use Rattle.qc_path.specs.declared.controller.Controller.{Ghosts as Control}
use Rattle.qc_recovery.specs.Acking.{acked_of, lost_of, raised, space_acked, space_less}
use Rattle.qc_recovery.specs.Settlement.{all_of}
use Rattle.qc_recovery.specs.Steps.{SpaceAfter, losses_found, marks_read, space_after, space_timed}
use Rattle.qc_recovery.specs.declared.calls.AckValues.{AckValues}
use Rattle.qc_recovery.specs.declared.calls.Around.{Around}
use Rattle.qc_recovery.specs.declared.calls.Occasion.{Occasion}
use Rattle.qc_recovery.specs.declared.limits.Limits.{Limits}
use Rattle.qc_recovery.specs.declared.path.PathData.{PathData}
use Rattle.qc_recovery.specs.declared.space.SpaceRecovery.{SpaceRecovery}

both_parts : (p : Entry → Bool) (es : List Entry) → IsPermutation es (those p es ++ others p es)
unfolding those others
both_parts p es = IsPermutation-filter_both p (λ e. not (p e)) (λ e. refl) es

either_flight : (b : Bool) (x y : SpaceRecovery) (es : List Entry) → x.flight ≡ es → y.flight ≡ es → (if b then x else y).flight ≡ es
either_flight true x y es h k = h
either_flight false x y es h k = k

raised_flight : (largest : ℕ) (acked : List Entry) (s : SpaceRecovery) → (raised largest acked s).flight ≡ s.flight
unfolding raised
raised_flight largest acked s = either_flight (exceeds s.greatest largest) _ s s.flight refl refl

acked_parts : (largest : ℕ) (ranges : List NumberRange) (s : SpaceRecovery) → IsPermutation s.flight (acked_of ranges s ++ (space_acked largest ranges s).flight)
unfolding acked_of space_acked
acked_parts largest ranges s =
    subst (λ (es : List Entry). IsPermutation s.flight (those (is_acked ranges) s.flight ++ es)) (sym (raised_flight largest (those (is_acked ranges) s.flight) (record s { flight = others (is_acked ranges) s.flight })))
    (both_parts (is_acked ranges) s.flight)

lost_parts : (l : Limits) (now delay largest : ℕ) (s : SpaceRecovery) → IsPermutation s.flight (lost_of l now delay largest s ++ (space_less l now delay largest s).flight)
unfolding lost_of space_less
lost_parts l now delay largest s = both_parts (is_lost largest l.packet_threshold now delay) s.flight

pub length_none : (es : List Entry) → (length es == 0) ≡ true → es ≡ []
length_none [] none = refl
length_none (e ∷ es) none = let zero : length (e ∷ es) ≡ 0 = grind (arith, nat_tests) in absurd (omega arith)

module _ {C : Type 0} where
  found_parts : (m : Control C) (l : Limits) (o : Occasion) (a : AckValues) (around : Around) (raises : Bool) (largest : ℕ) (acked es : List Entry) (s : SpaceRecovery) (p : PathData C) → IsPermutation es (acked ++ s.flight) → IsPermutation es (all_of (losses_found m l o a around raises largest acked s p))
  unfolding losses_found marks_read
  found_parts m l o a around raises largest acked es s p h =
      IsPermutation-trans es (acked ++ s.flight) _ h (IsPermutation-append_right acked s.flight _ (lost_parts l o.time _ largest s))

  either_parts : (b : Bool) (es : List Entry) (x y : SpaceAfter C) → (b ≡ true → IsPermutation es (all_of x)) → IsPermutation es (all_of y) → IsPermutation es (all_of (if b then x else y))
  either_parts true es x y h k = h refl
  either_parts false es x y h k = k

  marked_parts : (m : Control C) (o : Occasion) (a : AckValues) (raises : Bool) (es : List Entry) (s : SpaceRecovery) (p : PathData C) → IsPermutation es s.flight → IsPermutation es (all_of (marks_read m o a raises [] [] s p))
  unfolding marks_read
  marked_parts m o a raises es s p h = h

  pub ack_settles : (m : Control C) (l : Limits) (o : Occasion) (a : AckValues) (ranges : List NumberRange) (around : Around) (s : SpaceRecovery) (p : PathData C) → IsPermutation s.flight (all_of (space_after m l o a ranges around s p))
  unfolding space_after
  ack_settles m l o a ranges around s p =
      either_parts (length (acked_of ranges s) == 0) s.flight _ _
      (λ none. marked_parts m o a _ s.flight (space_acked a.largest ranges s) p (subst (λ (es : List Entry). IsPermutation s.flight (es ++ (space_acked a.largest ranges s).flight)) (length_none (acked_of ranges s) none) (acked_parts a.largest ranges s)))
      (found_parts m l o a around _ _ (acked_of ranges s) s.flight (space_acked a.largest ranges s) _ (acked_parts a.largest ranges s))

  pub timer_settles : (m : Control C) (l : Limits) (now : ℕ) (id : SpaceId) (s : SpaceRecovery) (p : PathData C) → IsPermutation s.flight (all_of (space_timed m l now id s p))
  unfolding space_timed
  timer_settles m l now id s p = lost_parts l now _ _ s

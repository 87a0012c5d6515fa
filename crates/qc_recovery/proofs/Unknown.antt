-- An ACK of numbers that aren't in flight
use Rattle.std.proofs.Common.{◌≡◌, ℕ, Bool, true, false, List, [], Option, None, ◌∙◌, ap, refl}
use Rattle.std.specs.Prelude.{unwrap_or}
use Rattle.qc_base.specs.declared.range_set.NumberRange.{NumberRange}
use Rattle.qc_flight.specs.Packets.{Entry, is_acked, others, those}
use Rattle.qc_frame.specs.declared.frames.EcnCounts.{EcnCounts}
use Rattle.qc_path.specs.Arrived.{exceeds}
use Rattle.qc_path.specs.declared.controller.Controller.{Ghosts as Control}
use Rattle.qc_recovery.specs.Acking.{acked_of, counts_kept, ecn_shown, ecn_told, raised, space_acked}
use Rattle.qc_recovery.specs.Steps.{marks_read, space_after, space_with}
use Rattle.qc_recovery.specs.declared.calls.AckValues.{AckValues}
use Rattle.qc_recovery.specs.declared.calls.Around.{Around}
use Rattle.qc_recovery.specs.declared.calls.Occasion.{Occasion}
use Rattle.qc_recovery.specs.declared.ecn.EcnVerdict.{EcnVerdict}
use Rattle.qc_recovery.specs.declared.ecn.EcnVerdict.TheVariants as ecn
use Rattle.qc_recovery.specs.declared.limits.Limits.{Limits}
use Rattle.qc_recovery.specs.declared.path.PathData.{PathData}
use Rattle.qc_recovery.specs.declared.space.SpaceRecovery.{SpaceRecovery}

none_acked : (ranges : List NumberRange) (s : SpaceRecovery) → those (is_acked ranges) s.flight ≡ [] → acked_of ranges s ≡ []
unfolding acked_of
none_acked ranges s none = none

space_stays : ((p : Entry → Bool) (es : List Entry) → those p es ≡ [] → others p es ≡ es) → (largest : ℕ) (ranges : List NumberRange) (s : SpaceRecovery) → those (is_acked ranges) s.flight ≡ [] → space_acked largest ranges s ≡ raised largest [] s
unfolding space_acked
space_stays stay largest ranges s none =
    ap (λ acked. raised largest acked (record s { flight = others (is_acked ranges) s.flight })) (none_acked ranges s none)
    ∙ ap (λ flight. raised largest [] (record s { flight = flight })) (stay (is_acked ranges) s.flight none)

pub unknown_numbers : {C : Type 0} → ((p : Entry → Bool) (es : List Entry) → those p es ≡ [] → others p es ≡ es) → (m : Control C) (l : Limits) (o : Occasion) (a : AckValues) (ranges : List NumberRange) (around : Around) (s : SpaceRecovery) (p : PathData C) → those (is_acked ranges) s.flight ≡ [] → space_after m l o a ranges around s p ≡ marks_read m o a (exceeds s.greatest a.largest) [] [] (raised a.largest [] s) p
unfolding space_after
unknown_numbers stay m l o a ranges around s p none =
    rw (none_acked ranges s none) (ap (λ t. marks_read m o a (exceeds s.greatest a.largest) [] [] t p) (space_stays stay a.largest ranges s none))

unmarked_shows : (marking raises : Bool) (old : EcnCounts) (new : Option EcnCounts) (acked : ℕ) → marking ≡ false → ecn_shown marking raises old new acked ≡ ecn.Unread
unfolding ecn_shown
unmarked_shows marking raises old new acked is = rw is refl

none_show : (marking raises : Bool) (old : EcnCounts) (new : Option EcnCounts) → new ≡ None → ecn_shown marking raises old new 0 ≡ ecn.Unread
unfolding ecn_shown
none_show true raises old new is = rw is refl
none_show false raises old new is = refl

module _ {C : Type 0} where
  nothing_shown : (m : Control C) (o : Occasion) (a : AckValues) (s : SpaceRecovery) (p : PathData C) (verdict : EcnVerdict) → verdict ≡ ecn.Unread → space_with (record s { counts = counts_kept verdict s.counts a.ecn }) (ecn_told m o.time (unwrap_or s.kept_at o.began) verdict p) [] [] ≡ space_with s p [] []
  unfolding ecn_told
  nothing_shown m o a s p verdict is = rw is refl

  pub unmarked_numbers : ((p : Entry → Bool) (es : List Entry) → those p es ≡ [] → others p es ≡ es) → (m : Control C) (l : Limits) (o : Occasion) (a : AckValues) (ranges : List NumberRange) (around : Around) (s : SpaceRecovery) (p : PathData C) → those (is_acked ranges) s.flight ≡ [] → p.sending_ecn ≡ false → space_after m l o a ranges around s p ≡ space_with (raised a.largest [] s) p [] []
  unfolding marks_read
  unmarked_numbers stay m l o a ranges around s p none off =
      unknown_numbers stay m l o a ranges around s p none
      ∙ nothing_shown m o a (raised a.largest [] s) p _ (unmarked_shows p.sending_ecn (exceeds s.greatest a.largest) (raised a.largest [] s).counts a.ecn 0 off)

  pub uncounted_numbers : ((p : Entry → Bool) (es : List Entry) → those p es ≡ [] → others p es ≡ es) → (m : Control C) (l : Limits) (o : Occasion) (a : AckValues) (ranges : List NumberRange) (around : Around) (s : SpaceRecovery) (p : PathData C) → those (is_acked ranges) s.flight ≡ [] → a.ecn ≡ None → space_after m l o a ranges around s p ≡ space_with (raised a.largest [] s) p [] []
  unfolding marks_read
  uncounted_numbers stay m l o a ranges around s p none missing =
      unknown_numbers stay m l o a ranges around s p none
      ∙ nothing_shown m o a (raised a.largest [] s) p _ (none_show p.sending_ecn (exceeds s.greatest a.largest) (raised a.largest [] s).counts a.ecn missing)

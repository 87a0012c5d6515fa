-- What an ACK settles as acknowledged has a number that it names
use Rattle.std.proofs.Common.{◌≡◌, ℕ, ◌≤◌, inl, inr, Bool, true, false, List, [], ◌∷◌, filter, reverse, refl, sym, ◌∙◌, subst, arith}
use Rattle.std.specs.Prelude.{◌==◌, ◌||◌, if◌then◌else◌, length}
use Rattle.std.specs.List.{All}
use Rattle.std.proofs.lemmas.Bool.{false≢true}
use Rattle.std.proofs.lemmas.Bool.Decides.{nat_tests}
use Rattle.std.proofs.lemmas.List.Elements.{All-head, All-tail}
use Rattle.std.proofs.lemmas.List.Sorted.{IsPermutation-reverse, list_any-IsPermutation}
use Rattle.qc_base.specs.RangeSet.{Member}
use Rattle.qc_base.specs.declared.range_set.NumberRange.{NumberRange}
use Rattle.qc_base.specs.declared.side.SpaceId.{SpaceId}
use Rattle.qc_flight.specs.Packets.{Entry, has_number, is_acked, is_in, is_within, those}
use Rattle.qc_frame.specs.AckRanges.{Acknowledges, ranges_of}
use Rattle.qc_frame.specs.Frame.{AckValue}
use Rattle.qc_path.specs.declared.controller.Controller.{Ghosts as Control}
use Rattle.qc_recovery.specs.Acking.{acked_of}
use Rattle.qc_recovery.specs.Frames.{ranges_up_of, values_of}
use Rattle.qc_recovery.specs.Steps.{SpaceAfter, ack_after, losses_found, marks_read, occasion, space_after, space_of}
use Rattle.qc_recovery.specs.declared.calls.AckValues.{AckValues}
use Rattle.qc_recovery.specs.declared.calls.Around.{Around}
use Rattle.qc_recovery.specs.declared.calls.Occasion.{Occasion}
use Rattle.qc_recovery.specs.declared.limits.Limits.{Limits}
use Rattle.qc_recovery.specs.declared.path.PathData.{PathData}
use Rattle.qc_recovery.specs.declared.recovery.Recovery.{Recovery}
use Rattle.qc_recovery.specs.declared.space.SpaceRecovery.{SpaceRecovery}
use Rattle.qc_recovery.proofs.Bursts.{filter_leaves, filter_takes}
use Rattle.qc_recovery.proofs.Settling.{length_none}

head_or : (ranges : List NumberRange) (n : ℕ) (e : Entry) (b rest : Bool) → (e.0 == n) ≡ b → is_in ranges e.0 ≡ true → (rest ≡ true → is_in ranges n ≡ true) → (b || rest) ≡ true → is_in ranges n ≡ true
head_or ranges n e true rest same named more h = let is : e.0 ≡ n = grind (arith, nat_tests) in subst (λ (k : ℕ). is_in ranges k ≡ true) is named
head_or ranges n e false rest same named more h = more h

first_or : (ranges : List NumberRange) (n : ℕ) (e : Entry) (es : List Entry) (b : Bool) → is_in ranges e.0 ≡ b → (has_number n (filter (is_acked ranges) es) ≡ true → is_in ranges n ≡ true) → has_number n (filter (is_acked ranges) (e ∷ es)) ≡ true → is_in ranges n ≡ true
first_or ranges n e es true named more h =
    head_or ranges n e (e.0 == n) (has_number n (filter (is_acked ranges) es)) refl named more
    (subst (λ (xs : List Entry). has_number n xs ≡ true) (filter_takes (is_acked ranges) e es named) h)
first_or ranges n e es false other more h = more (subst (λ (xs : List Entry). has_number n xs ≡ true) (filter_leaves (is_acked ranges) e es other) h)

named_by : (ranges : List NumberRange) (n : ℕ) (es : List Entry) → has_number n (filter (is_acked ranges) es) ≡ true → is_in ranges n ≡ true
named_by ranges n [] h = absurd (false≢true h)
named_by ranges n (e ∷ es) h = first_or ranges n e es (is_in ranges e.0) refl (named_by ranges n es) h

named_of : (ranges : List NumberRange) (n : ℕ) (s : SpaceRecovery) → has_number n (acked_of ranges s) ≡ true → is_in ranges n ≡ true
unfolding acked_of those
named_of ranges n s h = named_by ranges n s.flight h

-- in the order of the frame too
named_reversed : (ranges : List NumberRange) (n : ℕ) → is_in (reverse ranges) n ≡ true → is_in ranges n ≡ true
unfolding is_in
named_reversed ranges n h = list_any-IsPermutation (is_within n) ranges (reverse ranges) (IsPermutation-reverse ranges) ∙ h

within_of : (n : ℕ) (r : NumberRange) → is_within n r ≡ true → (r.first ≤ n) × (n ≤ r.last)
within_of n r h = (grind (arith, nat_tests), grind (arith, nat_tests))

member_by : (n : ℕ) (r : NumberRange) (rs : List NumberRange) (b : Bool) → is_within n r ≡ b → (is_in rs n ≡ true → Member n rs) → (b || is_in rs n) ≡ true → Member n (r ∷ rs)
member_by n r rs true is more found = inl (within_of n r is)
member_by n r rs false is more found = inr (more found)

member_of : (ranges : List NumberRange) (n : ℕ) → is_in ranges n ≡ true → Member n ranges
unfolding is_in
member_of [] n h = absurd (false≢true h)
member_of (r ∷ rs) n h = member_by n r rs (is_within n r) refl (member_of rs n) h

member_most : (largest : ℕ) (ranges : List NumberRange) (n : ℕ) → All (λ range. range.last ≤ largest) ranges → Member n ranges → n ≤ largest
member_most largest [] n all m = absurd m
member_most largest (r ∷ rs) n all (inl here) = let most : r.last ≤ largest = All-head (λ range. range.last ≤ largest) r rs all in omega (arith, here.1)
member_most largest (r ∷ rs) n all (inr there) = member_most largest rs n (All-tail (λ range. range.last ≤ largest) r rs all) there

module _ {C : Type 0} where
  either_acked : (b : Bool) (x y : SpaceAfter C) (es : List Entry) → (b ≡ true → x.acked ≡ es) → y.acked ≡ es → (if b then x else y).acked ≡ es
  either_acked true x y es h k = h refl
  either_acked false x y es h k = k

  -- what an ACK settles as acknowledged are the packets in flight that it names
  pub acked_are : (m : Control C) (l : Limits) (o : Occasion) (a : AckValues) (ranges : List NumberRange) (around : Around) (s : SpaceRecovery) (p : PathData C) → (space_after m l o a ranges around s p).acked ≡ acked_of ranges s
  unfolding space_after losses_found marks_read
  acked_are m l o a ranges around s p = either_acked (length (acked_of ranges s) == 0) _ _ (acked_of ranges s) (λ none. sym (length_none (acked_of ranges s) none)) refl

  pub acked_named : (m : Control C) (now : ℕ) (id : SpaceId) (next began : ℕ) (a : AckValues) (ranges : List NumberRange) (around : Around) (r : Recovery) (p : PathData C) (n : ℕ) → has_number n (ack_after m now id next began a ranges around r p).acked ≡ true → is_in ranges n ≡ true
  unfolding ack_after
  acked_named m now id next began a ranges around r p n h =
      named_of ranges n (space_of id r) (subst (λ (es : List Entry). has_number n es ≡ true) (acked_are m r.limits (occasion now id next began r) a ranges around (space_of id r) p) h)

  pub acked_acknowledged : (m : Control C) (now : ℕ) (id : SpaceId) (next began : ℕ) (ack : AckValue) (around : Around) (r : Recovery) (p : PathData C) (n : ℕ) → has_number n (ack_after m now id next began (values_of ack) (ranges_up_of ack) around r p).acked ≡ true → Acknowledges ack n
  acked_acknowledged m now id next began ack around r p n h =
      member_of (ranges_of ack) n (named_reversed (ranges_of ack) n (acked_named m now id next began (values_of ack) (ranges_up_of ack) around r p n h))

  pub acked_most : (m : Control C) (now : ℕ) (id : SpaceId) (next began : ℕ) (ack : AckValue) (around : Around) (r : Recovery) (p : PathData C) (n : ℕ) → All (λ range. range.last ≤ ack.largest) (ranges_of ack) → has_number n (ack_after m now id next began (values_of ack) (ranges_up_of ack) around r p).acked ≡ true → n ≤ ack.largest
  acked_most m now id next began ack around r p n all h = member_most ack.largest (ranges_of ack) n all (acked_acknowledged m now id next began ack around r p n h)

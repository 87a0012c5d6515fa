-- An ACK is owed behind packets that elicit one, or its timer was set.
use Rattle.std.proofs.Common.{◌≡◌, ℕ, ◌+◌, ◌-◌, ◌≤◌, Bool, true, false, ◌⊎◌, inl, inr, ◌||◌, List, [], ◌∷◌, length, drop, length-drop, refl, sym, ap, subst, arith}
use Rattle.std.proofs.lemmas.Bool.Decides.{nat_tests}
use Rattle.std.specs.Prelude.{◌==◌, if◌then◌else◌, nat_le, nat_lt}
use Rattle.qc_base.specs.declared.range_set.NumberRange.{NumberRange}
use Rattle.qc_base.specs.Time.{plus}
use Rattle.qc_path.specs.AckCalls.{AckCall, AckHistory, Came, Confirmed, Expired, IsAckDue, OwesAck, Went, all_called, called, elicited_with, no_calls}
use Rattle.qc_path.specs.AckRanges.{raised_to, with_number}
use Rattle.qc_path.specs.Acks.{AckMarks, PendingValues, acks_confirmed, acks_received, counted_in, greatest_noted, is_clear, is_due, makes_owed, marks_expired, marks_received, marks_sent, no_marks, owed_with, owes_ack, sets_delay}
use Rattle.qc_path.specs.Arrived.{Window, exceeds}
use Rattle.qc_path.specs.declared.pending_acks.Arrival.{Arrival}

-- the marks agree with what was told, and the ACK is owed by them
record Keeps (marks : AckMarks) (elicited : ℕ) (timed : Bool) : Type 0 where
  counted : 1 ≤ elicited → 1 ≤ marks.eliciting
  told : marks.delay_set ≡ timed
  first : 1 ≤ elicited → (marks.owed || timed) ≡ true
  second : 2 ≤ elicited → marks.owed ≡ true

-- what the marks hold once a packet came
owed_is : (seen : Window) (p : Arrival) (m : AckMarks) → (marks_received true seen p m).owed ≡ owed_with true seen p m
unfolding marks_received
owed_is seen p m = refl

set_is : (seen : Window) (p : Arrival) (m : AckMarks) → (marks_received true seen p m).delay_set ≡ (m.delay_set || sets_delay true seen p m)
unfolding marks_received
set_is seen p m = refl

-- how many came that elicit an ACK, by the choices that are made
count_by : (p : Arrival) (m : AckMarks) (eliciting above : Bool) → p.ack_eliciting ≡ eliciting → exceeds m.greatest p.number ≡ above → (counted_in p (greatest_noted p m)).eliciting ≡ (if p.ack_eliciting then plus m.eliciting 1 else m.eliciting)
unfolding counted_in greatest_noted
count_by p m true true e g = rw (e, g) refl
count_by p m true false e g = rw (e, g) refl
count_by p m false true e g = rw (e, g) refl
count_by p m false false e g = rw (e, g) refl

count_is : (seen : Window) (p : Arrival) (m : AckMarks) → (marks_received true seen p m).eliciting ≡ (if p.ack_eliciting then plus m.eliciting 1 else m.eliciting)
unfolding marks_received
count_is seen p m = count_by p m p.ack_eliciting (exceeds m.greatest p.number) refl refl

-- a packet that elicits none changes neither
quiet : (seen : Window) (p : Arrival) (m : AckMarks) (elicited : ℕ) (timed : Bool) → p.ack_eliciting ≡ false → Keeps m elicited timed → Keeps (marks_received true seen p m) elicited (timed || sets_delay true seen p m)
unfolding owed_with makes_owed sets_delay
quiet seen p m elicited timed e k = record {
  counted = λ h. rw (count_is seen p m, e) (k.counted h);
  told = rw (set_is seen p m, k.told) refl;
  first = λ h. rw (owed_is seen p m) (grind (arith, k.first h));
  second = λ h. rw (owed_is seen p m) (grind (arith, k.second h));
}

-- one that elicits an ACK makes it owed, or sets the timer, where it wasn't set
loud : (seen : Window) (p : Arrival) (m : AckMarks) (elicited : ℕ) (timed : Bool) → p.ack_eliciting ≡ true → Keeps m elicited timed → Keeps (marks_received true seen p m) (elicited + 1) (timed || sets_delay true seen p m)
unfolding owed_with makes_owed is_due sets_delay
loud seen p m elicited timed e k = record {
  counted = λ h. rw (count_is seen p m, e) (omega arith);
  told = rw (set_is seen p m, k.told) refl;
  first = λ h. rw (owed_is seen p m) (grind (arith, k.told, e));
  second = λ h. let one : 1 ≤ m.eliciting = k.counted (omega arith) in let some : nat_le 1 m.eliciting ≡ true = grind (arith, nat_tests) in rw (owed_is seen p m) (grind (arith, e, some));
}

keeps_arrival : (seen : Window) (p : Arrival) (m : AckMarks) (elicited : ℕ) (timed eliciting : Bool) → p.ack_eliciting ≡ eliciting → Keeps m elicited timed → Keeps (marks_received true seen p m) (elicited_with p elicited) (timed || sets_delay true seen p m)
keeps_arrival seen p m elicited timed true e k =
    let more : elicited_with p elicited ≡ elicited + 1 = ap (λ b. if b then elicited + 1 else elicited) e in
    let P : ℕ → Type 0 = λ n. Keeps (marks_received true seen p m) n (timed || sets_delay true seen p m) in
    subst P (sym more) (loud seen p m elicited timed e k)
keeps_arrival seen p m elicited timed false e k =
    let same : elicited_with p elicited ≡ elicited = ap (λ b. if b then elicited + 1 else elicited) e in
    let P : ℕ → Type 0 = λ n. Keeps (marks_received true seen p m) n (timed || sets_delay true seen p m) in
    subst P (sym same) (quiet seen p m elicited timed e k)

keeps_sent : (m : AckMarks) → Keeps (marks_sent m) 0 false
unfolding marks_sent
keeps_sent m = record { counted = λ h. absurd (omega arith); told = refl; first = λ h. absurd (omega arith); second = λ h. absurd (omega arith) }

keeps_expired : (empty : Bool) (m : AckMarks) (elicited : ℕ) (timed : Bool) → Keeps m elicited timed → Keeps (marks_expired empty m) elicited timed
unfolding marks_expired
keeps_expired empty m elicited timed k = record {
  counted = k.counted;
  told = k.told;
  first = λ h. grind (arith, k.first h);
  second = λ h. grind (arith, k.second h);
}

keeps_none : Keeps no_marks 0 false
unfolding no_marks
keeps_none = record { counted = λ h. absurd (omega arith); told = refl; first = λ h. absurd (omega arith); second = λ h. absurd (omega arith) }

keeps_call : (call : AckCall) (h : AckHistory) → Keeps h.pending.marks h.elicited h.timed → Keeps (called call h).pending.marks (called call h).elicited (called call h).timed
unfolding called acks_received acks_confirmed
keeps_call (Came seen p) h k = keeps_arrival seen p h.pending.marks h.elicited h.timed p.ack_eliciting refl k
keeps_call Went h k = keeps_sent h.pending.marks
keeps_call Expired h k = keeps_expired (length h.pending.ranges == 0) h.pending.marks h.elicited h.timed k
keeps_call (Confirmed largest) h k = k

keeps_calls : (calls : List AckCall) (h : AckHistory) → Keeps h.pending.marks h.elicited h.timed → Keeps (all_called calls h).pending.marks (all_called calls h).elicited (all_called calls h).timed
keeps_calls [] h k = k
keeps_calls (call ∷ calls) h k = keeps_calls calls (called call h) (keeps_call call h k)

-- what is owed by the marks is owed, where there is anything to acknowledge
owes_by : (p : PendingValues) → p.marks.owed ≡ true → OwesAck p
unfolding owes_ack
owes_by p owed some = rw (owed, some) refl

either_due : (p : PendingValues) (owed timed : Bool) → p.marks.owed ≡ owed → (owed || timed) ≡ true → OwesAck p ⊎ (timed ≡ true)
either_due p true timed e due = inl (owes_by p e)
either_due p false timed e due = inr due

due_by : (h : AckHistory) → Keeps h.pending.marks h.elicited h.timed → IsAckDue h
due_by h k = record {
  first = λ some. either_due h.pending h.pending.marks.owed h.timed refl (k.first some);
  second = λ more. owes_by h.pending (k.second more);
}

keeps_first : Keeps no_calls.pending.marks no_calls.elicited no_calls.timed
unfolding no_calls
keeps_first = keeps_none

pub all_due : (calls : List AckCall) → IsAckDue (all_called calls no_calls)
all_due calls = due_by (all_called calls no_calls) (keeps_calls calls no_calls keeps_first)

-- ranges with a number have one at least
cons_if : (b : Bool) (xs ys : List NumberRange) → 1 ≤ length xs → 1 ≤ length ys → 1 ≤ length (if b then xs else ys)
cons_if true xs ys a b = a
cons_if false xs ys a b = b

raised_some : (n : ℕ) (r : NumberRange) (rs : List NumberRange) → 1 ≤ length (raised_to n r rs)
raised_some n r [] = omega arith
raised_some n r (q ∷ qs) = cons_if (q.first == n + 1) _ _ (omega arith) (omega arith)

some_with : (n : ℕ) (rs : List NumberRange) → 1 ≤ length (with_number n rs)
some_with n [] = omega arith
some_with n (r ∷ rs) =
    cons_if (nat_lt (r.last + 1) n) _ _ (omega arith)
    (cons_if (n == r.last + 1) _ _ (raised_some n r rs) (cons_if (nat_le r.first n) _ _ (omega arith) (cons_if (n + 1 == r.first) _ _ (omega arith) (omega arith))))

-- so something is to be acknowledged once a packet came
pub arrival_left : (in_data : Bool) (seen : Window) (p : Arrival) (v : PendingValues) → is_clear (acks_received in_data seen p v) ≡ false
unfolding acks_received
arrival_left in_data seen p v =
    let all : List NumberRange = with_number p.number v.ranges in
    let some : 1 ≤ length all = some_with p.number v.ranges in
    let kept : 1 ≤ length (drop (length all - 64) all) = rw length-drop (omega arith) in
    grind (arith, nat_tests, kept)

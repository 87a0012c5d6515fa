-- A window remembers what came.
use Rattle.std.proofs.Common.{◌≡◌, ℕ, suc, ◌+◌, ◌-◌, ◌%◌, ◌<◌, ◌≤◌, Bool, true, false, not, ◌&&◌, ◌||◌, List, [], ◌∷◌, length, get_or, set, replicate, Option, Some, None, refl, ◌∙◌, ap, subst, add-one, length-set, get_or-set_same, get_or-set_other, inl, inr, arith}
use Rattle.std.proofs.lemmas.Bool.Decides.{nat_tests, eqb_tells}
use Rattle.std.proofs.lemmas.List.{get_or-replicate}
use Rattle.std.specs.Prelude.{◌==◌, ◌≢◌, if◌then◌else◌, nat_lt, slice_index, slice_set}
use Rattle.std.specs.List.{list_all}
use Rattle.qc_path.specs.Arrived.{Window, Remembers, arrived, exceeds, greatest_with, has_come, is_among, is_new, is_new_among, missing_from}

-- a number that isn't missing leaves the rest to be looked at
pub missing_step : (w : Window) (n high : ℕ) → n < high → has_come w n ≡ true → missing_from w (n + 1) (high - (n + 1)) ≡ missing_from w n (high - n)
missing_step w n high below here =
    let more : high - n ≡ suc (high - suc n) = omega arith in
    rw (add-one, more, here) refl

pub missing_here : (w : Window) (n high : ℕ) → n < high → has_come w n ≡ false → missing_from w n (high - n) ≡ true
missing_here w n high below here =
    let more : high - n ≡ suc (high - suc n) = omega arith in
    rw (more, here) refl

pub missing_end : (w : Window) (n high : ℕ) → high ≤ n → missing_from w n (high - n) ≡ false
missing_end w n high above =
    let none : high - n ≡ 0 = omega arith in
    rw none refl

pub none_came : (w : Window) → length w.slots ≡ 129 → w.greatest ≡ None → ((n : ℕ) → (slice_index w.slots (n % 129) == n) ≡ false) → Remembers [] w
unfolding has_come
none_came w size none free = record { size = size; greatest = λ n. rw none refl; known = λ n near. free n }

-- what exceeds all that came is none of it
none_above : (came : List ℕ) (n : ℕ) → list_all (λ x. nat_lt x n) came ≡ true → is_among came n ≡ false
none_above [] n above = refl
none_above (x ∷ came) n above = grind (arith, nat_tests, none_above came n)

-- one test among three that agrees where it counts
agree_where : (a b c d : Bool) → (b ≡ true → c ≡ d) → (a || (b && not c)) ≡ (a || (b && not d))
agree_where a true c d same = ap (λ x. a || not x) (same refl)
agree_where a false c d same = refl

pub new_among : (came : List ℕ) (w : Window) (n : ℕ) → Remembers came w → is_new w n ≡ is_new_among came n
unfolding is_new
new_among came w n r = rw (r.greatest n, r.greatest (n + 129)) (agree_where _ _ _ _ (r.known n))

exceeds_with : (g : Option ℕ) (n k : ℕ) → (nat_lt n k && exceeds g k) ≡ exceeds (greatest_with g n) k
exceeds_with None n k = grind (arith, nat_tests)
exceeds_with (Some g) n k = grind (arith, nat_tests)

exceeds_up : (g : Option ℕ) (a b : ℕ) → a ≤ b → exceeds g a ≡ true → exceeds g b ≡ true
exceeds_up None a b le yes_ = refl
exceeds_up (Some g) a b le yes_ = grind (arith, nat_tests)

old_below : (g : Option ℕ) (n k : ℕ) → exceeds g n ≡ false → (nat_lt n k && exceeds g k) ≡ exceeds g k
old_below None n k old = absurd (cc)
old_below (Some g) n k old = grind (arith, nat_tests)

-- the slot of a number that was put in
same_slot : (slots : List ℕ) (n k : ℕ) → length slots ≡ 129 → k ≡ n → (slice_index (slice_set slots (n % 129) n) (k % 129) == k) ≡ true
same_slot slots n k size e = let at : get_or (set slots (n % 129) n) (n % 129) 0 ≡ n = get_or-set_same slots (n % 129) n 0 (omega arith) in grind (arith, nat_tests)

other_slot : (slots : List ℕ) (n k : ℕ) → k % 129 ≢ n % 129 → (slice_index (slice_set slots (n % 129) n) (k % 129) == k) ≡ (slice_index slots (k % 129) == k)
other_slot slots n k apart = ap (λ x. x == k) (get_or-set_other slots (n % 129) (k % 129) n 0 apart)

taken_slot : (slots : List ℕ) (n k : ℕ) → length slots ≡ 129 → k % 129 ≡ n % 129 → k ≢ n → (slice_index (slice_set slots (n % 129) n) (k % 129) == k) ≡ false
taken_slot slots n k size e apart = let at : get_or (set slots (n % 129) n) (n % 129) 0 ≡ n = get_or-set_same slots (n % 129) n 0 (omega arith) in rw (e, at) (grind (arith, nat_tests))

-- two numbers with one remainder are a window apart
far_apart : (n k : ℕ) → k % 129 ≡ n % 129 → k ≢ n → n < k + 129 → n + 129 ≤ k
far_apart n k e apart near = omega arith

-- a new number isn't more than 128 below the greatest
new_near : (w : Window) (n : ℕ) → is_new w n ≡ true → exceeds w.greatest (n + 129) ≡ true
unfolding is_new
new_near w n new = grind (arith, nat_tests, exceeds_up w.greatest n (n + 129) (omega arith))

-- what the window says of a number, once a new one is in it
new_known : (came : List ℕ) (w : Window) (n k : ℕ) → Remembers came w → is_new w n ≡ true → n < k + 129 → exceeds w.greatest (k + 129) ≡ true → (slice_index (slice_set w.slots (n % 129) n) (k % 129) == k) ≡ ((n == k) || is_among came k)
unfolding has_come
new_known came w n k r new near recent =
    elim (eqb_tells k n) [
      | inl e ↦ rw (same_slot w.slots n k r.size e.1) (grind (arith, nat_tests))
      | inr apart ↦ elim (eqb_tells (k % 129) (n % 129)) [
        | inl same ↦
            let far : n + 129 ≤ k = far_apart n k same.1 apart.1 near in
            let above : list_all (λ x. nat_lt x k) came ≡ true = r.greatest k ∙ exceeds_up w.greatest (n + 129) k far (new_near w n new) in
            let none : is_among came k ≡ false = none_above came k above in
            rw (taken_slot w.slots n k r.size same.1 apart.1, none) (grind (arith, nat_tests))
        | inr other ↦ rw (other_slot w.slots n k other.1) (r.known k recent ∙ grind (arith, nat_tests))
      ]
    ]

-- a new number leaves the window with one more
new_kept : (came : List ℕ) (w : Window) (n : ℕ) → Remembers came w → is_new w n ≡ true → Remembers (n ∷ came) (record { greatest = greatest_with w.greatest n; slots = slice_set w.slots (n % 129) n })
unfolding has_come
new_kept came w n r new = record {
  size = length-set w.slots (n % 129) n ∙ r.size;
  greatest = λ k. ap (λ b. nat_lt n k && b) (r.greatest k) ∙ exceeds_with w.greatest n k;
  known = λ k near.
      let both : (nat_lt n (k + 129) && exceeds w.greatest (k + 129)) ≡ true = exceeds_with w.greatest n (k + 129) ∙ near in
      new_known came w n k r new (grind (arith, nat_tests)) (grind (arith, nat_tests));
}

-- a number that isn't new, and lies at most 128 below the greatest, came
old_came : (w : Window) (n : ℕ) → is_new w n ≡ false → exceeds w.greatest (n + 129) ≡ true → has_come w n ≡ true
unfolding is_new
old_came w n old recent = grind (arith, nat_tests)

old_exceeds : (w : Window) (n : ℕ) → is_new w n ≡ false → exceeds w.greatest n ≡ false
unfolding is_new
old_exceeds w n old = grind (arith, nat_tests)

-- what the window says of a number, once another that isn't new came
old_known : (came : List ℕ) (w : Window) (n k : ℕ) → Remembers came w → is_new w n ≡ false → exceeds w.greatest (k + 129) ≡ true → has_come w k ≡ ((n == k) || is_among came k)
old_known came w n k r old recent =
    elim (eqb_tells n k) [
      | inl e ↦ rw (e.0) (let P : ℕ → Type 0 = λ x. exceeds w.greatest (x + 129) ≡ true → has_come w x ≡ true in subst P e.1 (old_came w n old) recent)
      | inr apart ↦ rw (apart.0) (r.known k recent)
    ]

-- and another one leaves it as it is
old_kept : (came : List ℕ) (w : Window) (n : ℕ) → Remembers came w → is_new w n ≡ false → Remembers (n ∷ came) w
old_kept came w n r old = record {
  size = r.size;
  greatest = λ k. ap (λ b. nat_lt n k && b) (r.greatest k) ∙ old_below w.greatest n k (old_exceeds w n old);
  known = λ k near. old_known came w n k r old near;
}

more_by : (came : List ℕ) (w : Window) (n : ℕ) (b : Bool) → is_new w n ≡ b → Remembers came w → Remembers (n ∷ came) (if b then record { greatest = greatest_with w.greatest n; slots = slice_set w.slots (n % 129) n } else w)
more_by came w n true new r = new_kept came w n r new
more_by came w n false new r = old_kept came w n r new

pub one_more : (came : List ℕ) (w : Window) (n : ℕ) → Remembers came w → Remembers (n ∷ came) (arrived n w)
unfolding arrived
one_more came w n r = more_by came w n (is_new w n) refl r

-- no number stands in the slot of its remainder, where one stands in the first and zeros elsewhere
pub nothing_stands : (n : ℕ) → (slice_index (set (replicate 129 0) 0 1) (n % 129) == n) ≡ false
nothing_stands n =
    elim (eqb_tells (n % 129) 0) [
      | inl e ↦ rw (e.1) (grind (arith, nat_tests))
      | inr other ↦
          let zeros : slice_index (set (replicate 129 0) 0 1) (n % 129) ≡ 0 = get_or-set_other (replicate 129 0) 0 (n % 129) 1 0 (other.1) ∙ get_or-replicate 129 (n % 129) 0 0 (omega arith) in
          rw zeros (grind (arith, nat_tests))
    ]

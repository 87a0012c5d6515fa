-- Members of ranges: at a place, at the end, and of a part
use Rattle.std.proofs.Common.{◌≡◌, ℕ, ◌+◌, ◌<◌, ◌≤◌, suc, zero, inl, inr, List, [], ◌∷◌, length, get_or, set, drop, arith, subst}
use Rattle.std.proofs.Math.Seq.{drop-cons}
use Rattle.std.proofs.lemmas.Bool.{cases_order}
use Rattle.std.specs.List.{remove}
use Rattle.qc_base.specs.declared.range_set.NumberRange.{NumberRange}
use Rattle.qc_base.specs.RangeSet.{Member, Normal, KeepsFrom, EndsBelow}
use Rattle.qc_base.proofs.AddedRanges.{nowhere, member_beyond}

pub member_at : (n : ℕ) (ranges : List NumberRange) (place : ℕ) → place < length ranges
    → (get_or ranges place nowhere).first ≤ n → n ≤ (get_or ranges place nowhere).last → Member n ranges
member_at n [] place fits low high = let none : ⊥ = omega arith in absurd none
member_at n (range ∷ ranges) zero fits low high = inl (low, high)
member_at n (range ∷ ranges) (suc place) fits low high = inr (member_at n ranges place (omega arith) low high)

-- what is in the ranges from a place on, but not in the one there, is in those behind it
member_of_rest : (n : ℕ) (range : NumberRange) (ranges : List NumberRange) → ((range.first ≤ n) × (n ≤ range.last) → ⊥) → Member n (range ∷ ranges) → Member n ranges
member_of_rest n range ranges not_here (inl here) = absurd (not_here here)
member_of_rest n range ranges not_here (inr there) = there

pub member_behind : (n : ℕ) (ranges : List NumberRange) (place : ℕ) → place < length ranges
    → (((get_or ranges place nowhere).first ≤ n) × (n ≤ (get_or ranges place nowhere).last) → ⊥)
    → Member n (drop place ranges) → Member n (drop (suc place) ranges)
member_behind n ranges place fits not_here member =
    member_of_rest n (get_or ranges place nowhere) (drop (suc place) ranges) not_here
    (subst (λ (l : List NumberRange). Member n l) (drop-cons ranges place nowhere fits) member)

pub normal_drop : (count : ℕ) (ranges : List NumberRange) → Normal ranges → Normal (drop count ranges)
normal_drop zero ranges normal = normal
normal_drop (suc count) [] normal = normal
normal_drop (suc count) (range ∷ ranges) normal = normal_drop count ranges normal.2

-- the highest range has the greatest number
pub last_member : (ranges : List NumberRange) (place : ℕ) → suc place ≡ length ranges → Normal ranges → Member (get_or ranges place nowhere).last ranges
last_member [] place e normal = let none : ⊥ = omega arith in absurd none
last_member (range ∷ []) zero e normal = inl (normal.0, omega arith)
last_member (range ∷ []) (suc place) e normal = let none : ⊥ = omega arith in absurd none
last_member (range ∷ next ∷ ranges) zero e normal = let none : ⊥ = omega arith in absurd none
last_member (range ∷ next ∷ ranges) (suc place) e normal = inr (last_member (next ∷ ranges) place (omega arith) normal.2)

pub last_greatest : (ranges : List NumberRange) (place k : ℕ) → suc place ≡ length ranges → Normal ranges → Member k ranges
    → k ≤ (get_or ranges place nowhere).last
last_greatest [] place k e normal member = absurd member
last_greatest (range ∷ []) zero k e normal (inl here) = here.1
last_greatest (range ∷ []) zero k e normal (inr there) = absurd there
last_greatest (range ∷ []) (suc place) k e normal member = let none : ⊥ = omega arith in absurd none
last_greatest (range ∷ next ∷ ranges) zero k e normal member = let none : ⊥ = omega arith in absurd none
last_greatest (range ∷ next ∷ ranges) (suc place) k e normal (inl here) =
    let below : next.last ≤ (get_or (next ∷ ranges) place nowhere).last =
    last_greatest (next ∷ ranges) place next.last (omega arith) normal.2 (inl (normal.2.0, omega arith)) in
    let apart : range.last + 1 < next.first = normal.1 in
    let order : next.first ≤ next.last = normal.2.0 in
    omega arith
last_greatest (range ∷ next ∷ ranges) (suc place) k e normal (inr there) = last_greatest (next ∷ ranges) place k (omega arith) normal.2 there

-- ---- numbers below n taken out

not_less : (m n : ℕ) → (m < n → ⊥) → n ≤ m
not_less m n no_less = elim (cases_order m n) [
  | inl e ↦ omega arith
  | inr (inl less) ↦ absurd (no_less less)
  | inr (inr more) ↦ omega arith
]

pub tail_normal : (ranges : List NumberRange) → Normal ranges → Normal (remove ranges 0)
tail_normal [] normal = normal
tail_normal (range ∷ ranges) normal = normal.2

pub tail_kept : (n k : ℕ) (ranges : List NumberRange) → EndsBelow n ranges → n ≤ k → Member k ranges → Member k (remove ranges 0)
tail_kept n k [] below from member = absurd member
tail_kept n k (range ∷ ranges) below from (inl here) = let none : ⊥ = omega arith in absurd none
tail_kept n k (range ∷ ranges) below from (inr there) = there

pub tail_had : (k : ℕ) (ranges : List NumberRange) → Member k (remove ranges 0) → Member k ranges
tail_had k [] member = member
tail_had k (range ∷ ranges) member = inr member

-- ranges of which none lies below n, and the lowest begins at n or above
pub all_from : (n k : ℕ) (ranges : List NumberRange) → Normal ranges → 0 < length ranges → n ≤ (get_or ranges 0 nowhere).first → Member k ranges → n ≤ k
all_from n k [] normal some low member = absurd member
all_from n k (range ∷ ranges) normal some low (inl here) = omega arith
all_from n k (range ∷ ranges) normal some low (inr there) =
    let order : range.first ≤ range.last = normal.0 in
    let far : range.last + 1 < k = member_beyond range.last k ranges normal.1 normal.2 there in omega arith

-- the lowest begins below n, and ends there or above
pub cut_normal : (n : ℕ) (ranges : List NumberRange) → Normal ranges → (EndsBelow n ranges → ⊥) → Normal (set ranges 0 (record { first = n; last = (get_or ranges 0 nowhere).last }))
cut_normal n [] normal not_below = normal
cut_normal n (range ∷ ranges) normal not_below = (not_less range.last n not_below, normal.1, normal.2)

pub cut_kept : (n k : ℕ) (ranges : List NumberRange) → n ≤ k → Member k ranges → Member k (set ranges 0 (record { first = n; last = (get_or ranges 0 nowhere).last }))
cut_kept n k [] from member = absurd member
cut_kept n k (range ∷ ranges) from (inl here) = inl (from, here.1)
cut_kept n k (range ∷ ranges) from (inr there) = inr there

pub cut_had : (n k : ℕ) (ranges : List NumberRange) → (get_or ranges 0 nowhere).first < n → Member k (set ranges 0 (record { first = n; last = (get_or ranges 0 nowhere).last })) → Member k ranges
cut_had n k [] low member = member
cut_had n k (range ∷ ranges) low (inl here) = inl (omega arith)
cut_had n k (range ∷ ranges) low (inr there) = inr there

pub cut_from : (n k : ℕ) (ranges : List NumberRange) → Normal ranges → (EndsBelow n ranges → ⊥) → Member k (set ranges 0 (record { first = n; last = (get_or ranges 0 nowhere).last })) → n ≤ k
cut_from n k [] normal not_below member = absurd member
cut_from n k (range ∷ ranges) normal not_below (inl here) = here.0
cut_from n k (range ∷ ranges) normal not_below (inr there) =
    let high : n ≤ range.last = not_less range.last n not_below in
    let far : range.last + 1 < k = member_beyond range.last k ranges normal.1 normal.2 there in omega arith

no_member : (k : ℕ) (ranges : List NumberRange) → length ranges ≡ 0 → Member k ranges → ⊥
no_member k [] e member = member
no_member k (range ∷ ranges) e member = omega arith

pub keeps : (n : ℕ) (old now : List NumberRange) → Normal now → ((k : ℕ) → n ≤ k → Member k old → Member k now) → ((k : ℕ) → Member k now → Member k old)
    → ((k : ℕ) → Member k now → n ≤ k) → KeepsFrom n old now
keeps n old now normal kept had from = record { normal = normal; numbers = λ k. ((λ member. (had k member, from k member)), (λ was. kept k was.1 was.0)) }

pub keeps_none : (n : ℕ) (old now : List NumberRange) → Normal now → ((k : ℕ) → n ≤ k → Member k old → Member k now) → ((k : ℕ) → Member k now → Member k old)
    → length now ≡ 0 → KeepsFrom n old now
keeps_none n old now normal kept had none = keeps n old now normal kept had (λ k member. absurd (no_member k now none member))

pub keeps_all : (n : ℕ) (old now : List NumberRange) → Normal now → ((k : ℕ) → n ≤ k → Member k old → Member k now) → ((k : ℕ) → Member k now → Member k old)
    → 0 < length now → n ≤ (get_or now 0 nowhere).first → KeepsFrom n old now
keeps_all n old now normal kept had some low = keeps n old now normal kept had (λ k member. all_from n k now normal some low member)

pub keeps_cut : (n : ℕ) (old now : List NumberRange) → Normal now → ((k : ℕ) → n ≤ k → Member k old → Member k now) → ((k : ℕ) → Member k now → Member k old)
    → (EndsBelow n now → ⊥) → (get_or now 0 nowhere).first < n
    → KeepsFrom n old (set now 0 (record { first = n; last = (get_or now 0 nowhere).last }))
keeps_cut n old now normal kept had not_below low =
    keeps n old _ (cut_normal n now normal not_below)
    (λ k from member. cut_kept n k now from (kept k from member))
    (λ k member. had k (cut_had n k now low member))
    (λ k member. cut_from n k now normal not_below member)

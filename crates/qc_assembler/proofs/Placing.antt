-- A part that is placed among those that are kept
use Rattle.std.proofs.Common.{◌≡◌, ◌∙◌, ap, sym, ℕ, ◌+◌, ◌-◌, ◌<◌, ◌≤◌, suc, inl, inr, List, [], ◌∷◌, ◌++◌, Bool, true, false, cond, length, drop, arith, refl, subst, zero-add, add-zero, Option, Some}
use Rattle.std.proofs.lemmas.Bool.{cases_order, cases_lt, lt-ltb, le-ltb, eq-eqb, ne_eqb}
use Rattle.std.specs.Map.{remove_entry}
use Rattle.std.specs.BTreeMap.{is_at, insert_entry}
use Rattle.std.specs.Ordering.{nat_cmp}
use Rattle.std.specs.Prelude.{◌==◌}
use Rattle.qc_assembler.specs.Assembly.{run, add, runs_from, part_count}
use Rattle.qc_assembler.specs.Parts.{flat, Apart, starts_at, one, joints, first_past, undone, ends_at, part_begins, HasRoom}
use Rattle.qc_assembler.proofs.Adding.{Beyond, add_front, add_past_run, add_within}

insert_less : (n : ℕ) (bs : List ℕ) (e : ℕ × List ℕ) (es : List (ℕ × List ℕ)) → n < e.0 → insert_entry nat_cmp (e ∷ es) n bs ≡ (n, bs) ∷ e ∷ es
insert_less n bs e es less = rw (lt-ltb n e.0 less) refl

insert_more : (n : ℕ) (bs : List ℕ) (e : ℕ × List ℕ) (es : List (ℕ × List ℕ)) → e.0 < n → insert_entry nat_cmp (e ∷ es) n bs ≡ e ∷ insert_entry nat_cmp es n bs
insert_more n bs e es more = rw (le-ltb n e.0 (omega arith), ne_eqb n e.0 (λ q. omega arith)) refl

remove_here : (n : ℕ) (e : ℕ × List ℕ) (es : List (ℕ × List ℕ)) → e.0 ≡ n → remove_entry (is_at (nat_cmp n)) (e ∷ es) ≡ es
remove_here n e es q = rw (le-ltb n e.0 (omega arith), eq-eqb n e.0 (sym q)) refl

remove_later : (n : ℕ) (e : ℕ × List ℕ) (es : List (ℕ × List ℕ)) → e.0 < n → remove_entry (is_at (nat_cmp n)) (e ∷ es) ≡ e ∷ remove_entry (is_at (nat_cmp n)) es
remove_later n e es more = rw (le-ltb n e.0 (omega arith), ne_eqb n e.0 (λ q. omega arith)) refl

pub first_here : (o : ℕ) (e : ℕ × List ℕ) (es : List (ℕ × List ℕ)) → o < e.0 → first_past o (e ∷ es) ≡ Some (e.0, length e.1)
unfolding first_past
first_here o e es less = rw (lt-ltb o e.0 less) refl

pub first_later : (o : ℕ) (e : ℕ × List ℕ) (es : List (ℕ × List ℕ)) → e.0 ≤ o → first_past o (e ∷ es) ≡ first_past o es
unfolding first_past
first_later o e es more = rw (le-ltb o e.0 more) refl

-- room before the first part, and before a later one
room_here : (o n : ℕ) (e : ℕ × List ℕ) (es : List (ℕ × List ℕ)) → o < e.0 → HasRoom n (first_past o (e ∷ es)) → n + length e.1 ≤ e.0
unfolding HasRoom
room_here o n e es less room = subst (λ (p : Option (ℕ × ℕ)). HasRoom n p) (first_here o e es less) room

room_later : (o n : ℕ) (e : ℕ × List ℕ) (es : List (ℕ × List ℕ)) → e.0 ≤ o → HasRoom n (first_past o (e ∷ es)) → HasRoom n (first_past o es)
room_later o n e es more room = subst (λ (p : Option (ℕ × ℕ)). HasRoom n p) (first_later o e es more) room

beyond_run : (lo s : ℕ) (p : List ℕ) (rest : List (ℕ × ℕ)) → 0 < length p → lo ≤ s → Beyond lo (run s p ++ rest)
unfolding run
beyond_run lo s [] rest some low = absurd (omega arith)
beyond_run lo s (q ∷ p) rest some low = low

pub beyond_flat : (lo : ℕ) (es : List (ℕ × List ℕ)) → Apart lo es → Beyond lo (flat es)
unfolding flat Apart
beyond_flat lo [] apart = tt
beyond_flat lo (e ∷ es) apart =
    let some : 0 < length e.1 = apart.0 in
    let low : lo + length e.1 ≤ e.0 = apart.1 in
    beyond_run lo (e.0 - length e.1) e.1 (flat es) some (omega arith)

pub insert_flat : (lo o n : ℕ) (bs : List ℕ) (es : List (ℕ × List ℕ)) → Apart lo es → 0 < length bs → lo ≤ o → n ≡ o + length bs → HasRoom n (first_past o es)
    → flat (insert_entry nat_cmp es n bs) ≡ add o bs (flat es)
unfolding flat Apart
insert_flat lo o n bs [] apart some low end room =
    let e : n - length bs ≡ o = omega arith in
    ap (λ i. run i bs ++ []) e ∙ sym (add_front o bs [] tt)
insert_flat lo o n bs (e ∷ es) apart some low end room = elim (cases_lt o e.0) [
  | inl less ↦
      let here : n + length e.1 ≤ e.0 = room_here o n e es less room in
      let full : 0 < length e.1 = apart.0 in
      let start : n - length bs ≡ o = omega arith in
      ap flat (insert_less n bs e es (omega arith)) ∙ ap (λ i. run i bs ++ (run (e.0 - length e.1) e.1 ++ flat es)) start
      ∙ sym (add_front o bs (flat (e ∷ es)) (beyond_run (o + length bs) (e.0 - length e.1) e.1 (flat es) full (omega arith)))
  | inr more ↦
      let under : lo + length e.1 ≤ e.0 = apart.1 in
      ap flat (insert_more n bs e es (omega arith))
      ∙ ap (λ w. run (e.0 - length e.1) e.1 ++ w) (insert_flat e.0 o n bs es apart.2 some more end (room_later o n e es more room))
      ∙ sym (add_past_run (e.0 - length e.1) o e.1 bs (flat es) (omega arith))
]

pub insert_apart : (lo o n : ℕ) (bs : List ℕ) (es : List (ℕ × List ℕ)) → Apart lo es → 0 < length bs → lo ≤ o → n ≡ o + length bs → HasRoom n (first_past o es)
    → Apart lo (insert_entry nat_cmp es n bs)
unfolding Apart
insert_apart lo o n bs [] apart some low end room = (some, omega arith, tt)
insert_apart lo o n bs (e ∷ es) apart some low end room = elim (cases_lt o e.0) [
  | inl less ↦
      let here : n + length e.1 ≤ e.0 = room_here o n e es less room in
      let full : 0 < length e.1 = apart.0 in
      subst (λ (l : List (ℕ × List ℕ)). Apart lo l) (sym (insert_less n bs e es (omega arith))) (some, omega arith, (full, here, apart.2))
  | inr more ↦
      subst (λ (l : List (ℕ × List ℕ)). Apart lo l) (sym (insert_more n bs e es (omega arith)))
      (apart.0, apart.1, insert_apart e.0 o n bs es apart.2 some more end (room_later o n e es more room))
]

pub insert_undone : (lo o n : ℕ) (bs : List ℕ) (es : List (ℕ × List ℕ)) → Apart lo es → 0 < length bs → lo ≤ o → n ≡ o + length bs → HasRoom n (first_past o es)
    → remove_entry (is_at (nat_cmp n)) (insert_entry nat_cmp es n bs) ≡ es
unfolding Apart
insert_undone lo o n bs [] apart some low end room = remove_here n (n, bs) [] refl
insert_undone lo o n bs (e ∷ es) apart some low end room = elim (cases_lt o e.0) [
  | inl less ↦
      let here : n + length e.1 ≤ e.0 = room_here o n e es less room in
      let full : 0 < length e.1 = apart.0 in
      ap (λ (l : List (ℕ × List ℕ)). remove_entry (is_at (nat_cmp n)) l) (insert_less n bs e es (omega arith)) ∙ remove_here n (n, bs) (e ∷ es) refl
  | inr more ↦
      ap (λ (l : List (ℕ × List ℕ)). remove_entry (is_at (nat_cmp n)) l) (insert_more n bs e es (omega arith))
      ∙ remove_later n e (insert_entry nat_cmp es n bs) (omega arith)
      ∙ ap (λ (l : List (ℕ × List ℕ)). e ∷ l) (insert_undone e.0 o n bs es apart.2 some more end (room_later o n e es more room))
]

-- ---- how many parts join

none_ends : (lo o : ℕ) (es : List (ℕ × List ℕ)) → Apart lo es → o ≤ lo → ends_at o es ≡ false
unfolding Apart ends_at
none_ends lo o [] apart low = refl
none_ends lo o (e ∷ es) apart low =
    let full : 0 < length e.1 = apart.0 in
    let under : lo + length e.1 ≤ e.0 = apart.1 in
    rw (lt-ltb o e.0 (omega arith)) (none_ends e.0 o es apart.2 (omega arith))

ends_more : (lo o : ℕ) (e : ℕ × List ℕ) (es : List (ℕ × List ℕ)) → Apart lo (e ∷ es) → e.0 ≤ o
    → one (ends_at o (e ∷ es)) ≡ one (o == e.0) + one (ends_at o es)
unfolding Apart one ends_at
ends_more lo o e es apart more = elim (cases_order o e.0) [
  | inl same ↦ rw (le-ltb o e.0 more, eq-eqb o e.0 same, none_ends e.0 o es apart.2 (omega arith)) refl
  | inr (inl less) ↦ absurd (omega arith)
  | inr (inr above) ↦ rw (le-ltb o e.0 more, ne_eqb o e.0 (λ q. omega arith)) (sym (zero-add (one (ends_at o es))))
]

starts_insert : (k o n : ℕ) (bs : List ℕ) (es : List (ℕ × List ℕ)) → Apart k es → 0 < length bs → k ≤ o → n ≡ o + length bs → HasRoom n (first_past o es)
    → one (starts_at k (insert_entry nat_cmp es n bs)) ≡ one (starts_at k es) + one (o == k)
unfolding Apart one starts_at
starts_insert k o n bs [] apart some low end room =
    let e : n - length bs ≡ o = omega arith in
    rw e (sym (zero-add (one (o == k))))
starts_insert k o n bs (f ∷ fs) apart some low end room = elim (cases_lt o f.0) [
  | inl less ↦
      let here : n + length f.1 ≤ f.0 = room_here o n f fs less room in
      let e : n - length bs ≡ o = omega arith in
      ap (λ (l : List (ℕ × List ℕ)). one (starts_at k l)) (insert_less n bs f fs (omega arith))
      ∙ rw (e, ne_eqb (f.0 - length f.1) k (λ q. omega arith)) (sym (zero-add (one (o == k))))
  | inr more ↦
      let full : 0 < length f.1 = apart.0 in
      let under : k + length f.1 ≤ f.0 = apart.1 in
      ap (λ (l : List (ℕ × List ℕ)). one (starts_at k l)) (insert_more n bs f fs (omega arith))
      ∙ rw (ne_eqb o k (λ q. omega arith)) (sym (add-zero (one (f.0 - length f.1 == k))))
]

pub insert_joints : (lo o n : ℕ) (bs : List ℕ) (es : List (ℕ × List ℕ)) → Apart lo es → 0 < length bs → lo ≤ o → n ≡ o + length bs → HasRoom n (first_past o es)
    → joints (insert_entry nat_cmp es n bs) ≡ joints es + one (ends_at o es) + one (part_begins n (first_past o es))
unfolding Apart joints one starts_at first_past ends_at part_begins HasRoom
insert_joints lo o n bs [] apart some low end room = refl
insert_joints lo o n bs (e ∷ es) apart some low end room = elim (cases_lt o e.0) [
  | inl less ↦
      let here : n + length e.1 ≤ e.0 = room_here o n e es less room in
      let none : ends_at o (e ∷ es) ≡ false = rw (lt-ltb o e.0 less) (none_ends e.0 o es apart.2 (omega arith)) in
      let begins : part_begins n (first_past o (e ∷ es)) ≡ (e.0 - length e.1 == n) = ap (λ (p : Option (ℕ × ℕ)). part_begins n p) (first_here o e es less) in
      ap joints (insert_less n bs e es (omega arith)) ∙ rw (none, begins) (omega arith)
  | inr more ↦
      let later = insert_joints e.0 o n bs es apart.2 some more end (room_later o n e es more room) in
      let ends = ends_more lo o e es apart more in
      let starts = starts_insert e.0 o n bs es apart.2 some more end (room_later o n e es more room) in
      let begins : part_begins n (first_past o (e ∷ es)) ≡ part_begins n (first_past o es) = ap (λ (p : Option (ℕ × ℕ)). part_begins n p) (first_later o e es more) in
      ap joints (insert_more n bs e es (omega arith)) ∙ rw (begins, ends) (omega (arith, later, starts))
]

pub joints_few : (es : List (ℕ × List ℕ)) → joints es ≤ length es
unfolding joints one
joints_few [] = omega arith
joints_few (e ∷ es) = omega (arith, joints_few es, cond_few (starts_at e.0 es))
  where
    cond_few : (b : Bool) → cond b 1 0 ≤ 1
    cond_few true = omega arith
    cond_few false = omega arith

-- ---- undoing, and bytes that are there

pub undone_push : (ks : List ℕ) (k : ℕ) (es : List (ℕ × List ℕ)) → undone (ks ++ k ∷ []) es ≡ undone ks (remove_entry (is_at (nat_cmp k)) es)
unfolding undone
undone_push [] k es = refl
undone_push (x ∷ ks) k es = ap (λ (l : List (ℕ × List ℕ)). remove_entry (is_at (nat_cmp x)) l) (undone_push ks k es)

pub same_place : (a b e l : ℕ) → (let p : Option (ℕ × ℕ) = Some (a, b) in p) ≡ Some (e, l) → (a ≡ e) × (b ≡ l)
same_place a b e l q = let same : (a, b) ≡ (e, l) = cc in (ap (λ (p : ℕ × ℕ). p.0) same, ap (λ (p : ℕ × ℕ). p.1) same)

pub trim_flat : (lo o m e l : ℕ) (bs : List ℕ) (es : List (ℕ × List ℕ)) → Apart lo es → first_past o es ≡ Some (e, l) → e ≤ o + l → o + m ≤ e → m ≤ length bs
    → add o bs (flat es) ≡ add (o + m) (drop m bs) (flat es)
unfolding flat Apart first_past
trim_flat lo o m e l bs [] apart found low high fits = cc
trim_flat lo o m e l bs (x ∷ xs) apart found low high fits = elim (cases_lt o x.0) [
  | inl less ↦
      let same = same_place x.0 (length x.1) e l (sym (first_here o x xs less) ∙ found) in
      let end : x.0 ≡ e = same.0 in
      let long : length x.1 ≡ l = same.1 in
      let under : lo + length x.1 ≤ x.0 = apart.1 in
      add_within o (x.0 - length x.1) m bs x.1 (flat xs) (omega arith) (omega arith) fits
  | inr more ↦
      let under : lo + length x.1 ≤ x.0 = apart.1 in
      let later = trim_flat x.0 o m e l bs xs apart.2 (sym (first_later o x xs more) ∙ found) low high fits in
      add_past_run (x.0 - length x.1) o x.1 bs (flat xs) (omega arith) ∙ ap (λ w. run (x.0 - length x.1) x.1 ++ w) later
      ∙ sym (add_past_run (x.0 - length x.1) (o + m) x.1 (drop m bs) (flat xs) (omega arith))
]

-- a part behind o holds bytes, ends behind o and doesn't begin below 0
pub past_bounds : (lo o e l : ℕ) (es : List (ℕ × List ℕ)) → Apart lo es → first_past o es ≡ Some (e, l) → (o < e) × (l ≤ e) × (0 < l)
unfolding Apart first_past
past_bounds lo o e l [] apart found = absurd (let no : ⊥ = cc in no)
past_bounds lo o e l (x ∷ xs) apart found = elim (cases_lt o x.0) [
  | inl less ↦
      let same = same_place x.0 (length x.1) e l (sym (first_here o x xs less) ∙ found) in
      let end : x.0 ≡ e = same.0 in
      let long : length x.1 ≡ l = same.1 in
      let full : 0 < length x.1 = apart.0 in
      let under : lo + length x.1 ≤ x.0 = apart.1 in
      (omega arith, omega arith, omega arith)
  | inr more ↦ past_bounds x.0 o e l xs apart.2 (sym (first_later o x xs more) ∙ found)
]

pub undone_none : (ks : List ℕ) (es : List (ℕ × List ℕ)) → length ks ≡ 0 → undone ks es ≡ es
unfolding undone
undone_none [] es none = refl
undone_none (k ∷ ks) es none = absurd (omega arith)

-- ---- how many parts there are

runs_on : (k : ℕ) (p : List ℕ) (rest : List (ℕ × ℕ)) → runs_from k (run k p ++ rest) ≡ runs_from (k + length p) rest
unfolding runs_from run
runs_on k [] rest = let e : k ≡ k + 0 = omega arith in ap (λ i. runs_from i rest) e
runs_on k (q ∷ p) rest =
    let e : suc k + length p ≡ k + suc (length p) = omega arith in
    rw (eq-eqb k k refl, runs_on (suc k) p rest, e) (zero-add (runs_from (k + suc (length p)) rest))

runs_run : (k s : ℕ) (p : List ℕ) (rest : List (ℕ × ℕ)) → 0 < length p → runs_from k (run s p ++ rest) ≡ cond (s == k) 0 1 + runs_from (s + length p) rest
unfolding runs_from run
runs_run k s [] rest some = absurd (omega arith)
runs_run k s (q ∷ p) rest some =
    let e : suc s + length p ≡ s + suc (length p) = omega arith in
    rw (runs_on (suc s) p rest, e) refl

runs_parts : (k lo : ℕ) (es : List (ℕ × List ℕ)) → Apart lo es → runs_from k (flat es) + one (starts_at k es) + joints es ≡ length es
unfolding Apart flat runs_from starts_at joints one
runs_parts k lo [] apart = refl
runs_parts k lo (e ∷ es) apart =
    let full : 0 < length e.1 = apart.0 in
    let under : lo + length e.1 ≤ e.0 = apart.1 in
    let end : e.0 - length e.1 + length e.1 ≡ e.0 = omega arith in
    let here = runs_run k (e.0 - length e.1) e.1 (flat es) full in
    let later = runs_parts e.0 e.0 es apart.2 in
    rw (here, end) (by (e.0 - length e.1 == k) (runs_from e.0 (flat es)) (one (starts_at e.0 es)) (joints es) (length es) later)
  where
    by : (b : Bool) (r s j n : ℕ) → r + s + j ≡ n → cond b 0 1 + r + cond b 1 0 + (s + j) ≡ suc n
    by true r s j n e = omega arith
    by false r s j n e = omega arith

-- parts and joints together are as many as are kept
pub parts_counted : (es : List (ℕ × List ℕ)) → Apart 0 es → part_count (flat es) + joints es ≡ length es
unfolding Apart flat joints part_count run
parts_counted [] apart = refl
parts_counted ((n, []) ∷ es) apart = absurd (omega (arith, apart.0))
parts_counted ((n, q ∷ p) ∷ es) apart =
    let under : suc (length p) ≤ n = omega (arith, apart.1) in
    let end : suc (n - suc (length p)) + length p ≡ n = omega arith in
    rw (runs_on (suc (n - suc (length p))) p (flat es), end) (omega (arith, runs_parts n n es apart.2))

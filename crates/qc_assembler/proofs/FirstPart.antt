-- The first part, of which bytes are read
use Rattle.std.proofs.Common.{◌≡◌, ◌∙◌, ap, sym, ℕ, ◌+◌, ◌-◌, ◌<◌, ◌≤◌, suc, zero, List, [], ◌∷◌, ◌++◌, true, length, take, drop, arith, refl, subst, Option, None, Some}
use Rattle.std.proofs.lemmas.Bool.{false≢true, le-ltb, eq-eqb}
use Rattle.std.specs.List.{slice_get}
use Rattle.std.specs.Map.{lookup, set_value}
use Rattle.std.specs.BTreeMap.{is_at}
use Rattle.std.specs.Ordering.{nat_cmp}
use Rattle.std.proofs.Common.{length-drop}
use Rattle.std.proofs.Math.Seq.{take-length}
use Rattle.std.proofs.lemmas.List.{length-take-le}
use Rattle.qc_assembler.specs.Assembly.{run, has_bytes, first_offset, chunk_offset, chunk_bytes, IsFirst}
use Rattle.qc_assembler.specs.Parts.{flat, Apart, starts_at, one, joints, first_part, front_bytes, without_front, first_begin, first_length, IsKept}
use Rattle.qc_assembler.proofs.Placing.{same_place}

pub first_at : (es : List (ℕ × List ℕ)) (e : ℕ × List ℕ) → slice_get es 0 ≡ Some e → first_part es ≡ Some (e.0, length e.1)
unfolding first_part
first_at [] e found = absurd (let no : ⊥ = cc in no)
first_at (x ∷ xs) e found = let same : x ≡ e = cc in ap (λ (p : ℕ × List ℕ). Some (p.0, length p.1)) same

pub first_absent : (es : List (ℕ × List ℕ)) → (0 < length es → ⊥) → first_part es ≡ None
unfolding first_part
first_absent [] none = refl
first_absent (x ∷ xs) none = absurd (none (omega arith))

-- the value under the first key
found_first : (end : ℕ) (x : ℕ × List ℕ) (xs : List (ℕ × List ℕ)) → x.0 ≡ end → lookup (is_at (nat_cmp end)) (x ∷ xs) ≡ Some x.1
found_first end x xs e = rw (le-ltb end x.0 (omega arith), eq-eqb end x.0 (sym e)) refl

set_first : (end : ℕ) (x : ℕ × List ℕ) (xs : List (ℕ × List ℕ)) (q : List ℕ) → x.0 ≡ end → set_value (is_at (nat_cmp end)) (x ∷ xs) q ≡ (x.0, q) ∷ xs
set_first end x xs q e = rw (le-ltb end x.0 (omega arith), eq-eqb end x.0 (sym e)) refl

same_value : (a b : List ℕ) → (let p : Option (List ℕ) = Some a in p) ≡ Some b → a ≡ b
same_value a b q = cc

pub first_held : (end held : ℕ) (p : List ℕ) (es : List (ℕ × List ℕ)) → first_part es ≡ Some (end, held) → Some p ≡ lookup (is_at (nat_cmp end)) es → length p ≡ held
unfolding first_part
first_held end held p [] first found = absurd (let no : ⊥ = cc in no)
first_held end held p (x ∷ xs) first found =
    let same = same_place x.0 (length x.1) end held first in
    let value = same_value p x.1 (found ∙ found_first end x xs same.0) in
    ap length value ∙ same.1

pub first_front : (end held n : ℕ) (p : List ℕ) (es : List (ℕ × List ℕ)) → first_part es ≡ Some (end, held) → Some p ≡ lookup (is_at (nat_cmp end)) es → take n p ≡ front_bytes n es
unfolding first_part front_bytes
first_front end held n p [] first found = absurd (let no : ⊥ = cc in no)
first_front end held n p (x ∷ xs) first found =
    let same = same_place x.0 (length x.1) end held first in
    ap (λ (l : List ℕ). take n l) (same_value p x.1 (found ∙ found_first end x xs same.0))

pub first_left : (end held n : ℕ) (p : List ℕ) (es : List (ℕ × List ℕ)) → first_part es ≡ Some (end, held) → Some p ≡ lookup (is_at (nat_cmp end)) es
    → set_value (is_at (nat_cmp end)) es (drop n p) ≡ without_front n es
unfolding first_part without_front
first_left end held n p [] first found = absurd (let no : ⊥ = cc in no)
first_left end held n p (x ∷ xs) first found =
    let same = same_place x.0 (length x.1) end held first in
    set_first end x xs (drop n p) same.0
    ∙ ap (λ (l : List ℕ). (let r : List (ℕ × List ℕ) = (x.0, drop n l) ∷ xs in r)) (same_value p x.1 (found ∙ found_first end x xs same.0))

pub first_same : (end held : ℕ) (p : List ℕ) (es : List (ℕ × List ℕ)) → first_part es ≡ Some (end, held) → Some p ≡ lookup (is_at (nat_cmp end)) es
    → set_value (is_at (nat_cmp end)) es p ≡ es
unfolding first_part
first_same end held p [] first found = absurd (let no : ⊥ = cc in no)
first_same end held p (x ∷ xs) first found =
    let same = same_place x.0 (length x.1) end held first in
    set_first end x xs p same.0
    ∙ ap (λ (l : List ℕ). (let r : List (ℕ × List ℕ) = (x.0, l) ∷ xs in r)) (same_value p x.1 (found ∙ found_first end x xs same.0))

pub first_there : (end held : ℕ) (es : List (ℕ × List ℕ)) → first_part es ≡ Some (end, held) → None ≡ lookup (is_at (nat_cmp end)) es → ⊥
unfolding first_part
first_there end held [] first found = cc
first_there end held (x ∷ xs) first found =
    let same = same_place x.0 (length x.1) end held first in
    let no : None ≡ Some x.1 = found ∙ found_first end x xs same.0 in
    cc

-- ---- taking it

pub first_bounds : (lo end held : ℕ) (es : List (ℕ × List ℕ)) → Apart lo es → first_part es ≡ Some (end, held) → (held ≤ end) × (0 < held)
unfolding first_part Apart
first_bounds lo end held [] apart first = absurd (let no : ⊥ = cc in no)
first_bounds lo end held (x ∷ xs) apart first =
    let same = same_place x.0 (length x.1) end held first in
    let e : x.0 ≡ end = same.0 in
    let l : length x.1 ≡ held = same.1 in
    let full : 0 < length x.1 = apart.0 in
    let under : lo + length x.1 ≤ x.0 = apart.1 in
    (omega arith, omega arith)

drop_run : (s n : ℕ) (p : List ℕ) (rest : List (ℕ × ℕ)) → n ≤ length p → run s p ++ rest ≡ run s (take n p) ++ (run (s + n) (drop n p) ++ rest)
unfolding run
drop_run s zero p rest fits = let e : s ≡ s + 0 = omega arith in ap (λ i. run i p ++ rest) e
drop_run s (suc n) [] rest fits = absurd (omega arith)
drop_run s (suc n) (q ∷ p) rest fits =
    let e : suc s + n ≡ s + suc n = omega arith in
    ap (λ (w : List (ℕ × ℕ)). (s, q) ∷ w)
    (drop_run (suc s) n p rest (omega arith) ∙ ap (λ i. run (suc s) (take n p) ++ (run i (drop n p) ++ rest)) e)

pub drop_all : (s : ℕ) (p : List ℕ) (rest : List (ℕ × ℕ)) → drop (length p) (run s p ++ rest) ≡ rest
unfolding run
drop_all s [] rest = refl
drop_all s (q ∷ p) rest = drop_all (suc s) p rest

has_run : (s : ℕ) (p : List ℕ) (rest : List (ℕ × ℕ)) → 0 < length p → has_bytes (run s p ++ rest) ≡ true
unfolding run has_bytes
has_run s [] rest some = absurd (omega arith)
has_run s (q ∷ p) rest some = refl

offset_run : (s : ℕ) (p : List ℕ) (rest : List (ℕ × ℕ)) → 0 < length p → first_offset (run s p ++ rest) ≡ Some s
unfolding run first_offset
offset_run s [] rest some = absurd (omega arith)
offset_run s (q ∷ p) rest some = refl

pub front_length : (n end held : ℕ) (es : List (ℕ × List ℕ)) → first_part es ≡ Some (end, held) → n ≤ held → length (front_bytes n es) ≡ n
unfolding first_part front_bytes
front_length n end held [] first fits = absurd (let no : ⊥ = cc in no)
front_length n end held (x ∷ xs) first fits =
    let same = same_place x.0 (length x.1) end held first in
    let l : length x.1 ≡ held = same.1 in
    length-take-le n x.1 (omega arith)

-- the bytes of the first part, and what is behind them
split_front : (n end held : ℕ) (es : List (ℕ × List ℕ)) → Apart 0 es → first_part es ≡ Some (end, held) → n ≤ held
    → flat es ≡ run (end - held) (front_bytes n es) ++ flat (without_front n es)
unfolding first_part flat front_bytes without_front Apart
split_front n end held [] apart first fits = absurd (let no : ⊥ = cc in no)
split_front n end held (x ∷ xs) apart first fits =
    let same = same_place x.0 (length x.1) end held first in
    let e : x.0 ≡ end = same.0 in
    let l : length x.1 ≡ held = same.1 in
    let under : 0 + length x.1 ≤ x.0 = apart.1 in
    let long : length (drop n x.1) ≡ length x.1 - n = length-drop n x.1 in
    let s : x.0 - length x.1 ≡ end - held = omega arith in
    let t : x.0 - length x.1 + n ≡ x.0 - length (drop n x.1) = omega arith in
    drop_run (x.0 - length x.1) n x.1 (flat xs) (omega arith)
    ∙ ap (λ (i : ℕ). run (x.0 - length x.1) (take n x.1) ++ (run i (drop n x.1) ++ flat xs)) t
    ∙ ap (λ (i : ℕ). run i (take n x.1) ++ (run (x.0 - length (drop n x.1)) (drop n x.1) ++ flat xs)) s

pub left_front : (n end held : ℕ) (es : List (ℕ × List ℕ)) → Apart 0 es → first_part es ≡ Some (end, held) → n ≤ held
    → flat (without_front n es) ≡ drop (length (front_bytes n es)) (flat es)
left_front n end held es apart first fits =
    sym (ap (λ (w : List (ℕ × ℕ)). drop (length (front_bytes n es)) w) (split_front n end held es apart first fits)
    ∙ drop_all (end - held) (front_bytes n es) (flat (without_front n es)))

pub front_some : (most n end held : ℕ) (es : List (ℕ × List ℕ)) → Apart 0 es → first_part es ≡ Some (end, held) → n ≤ held → n ≤ most → (0 < most → 0 < n)
    → IsFirst most (flat es) (Some (end - held, front_bytes n es))
unfolding first_part chunk_offset chunk_bytes flat
front_some most n end held [] apart first fits few some = absurd (let no : ⊥ = cc in no)
front_some most n end held (x ∷ xs) apart first fits few some =
    let bounds = first_bounds 0 end held (x ∷ xs) apart first in
    let same = same_place x.0 (length x.1) end held first in
    let e : x.0 ≡ end = same.0 in
    let l : length x.1 ≡ held = same.1 in
    let s : x.0 - length x.1 ≡ end - held = omega arith in
    let long = front_length n end held (x ∷ xs) first fits in
    record {
      given = sym (has_run (x.0 - length x.1) x.1 (flat xs) (omega arith));
      within = omega arith;
      some = λ _ h. let more : 0 < n = some h in omega arith;
      first = split_front n end held (x ∷ xs) apart first fits
          ∙ ap (λ (w : List (ℕ × ℕ)). run (end - held) (front_bytes n (x ∷ xs)) ++ w) (left_front n end held (x ∷ xs) apart first fits);
      place = offset_run (x.0 - length x.1) x.1 (flat xs) (omega arith) ∙ ap (λ (i : ℕ). Some i) s;
    }

pub front_none : (most : ℕ) (es : List (ℕ × List ℕ)) → first_part es ≡ None → IsFirst most (flat es) None
unfolding first_part chunk_offset chunk_bytes flat has_bytes first_offset run
front_none most [] first = record { given = refl; within = omega arith; some = λ h _. absurd (false≢true h); first = refl; place = refl }
front_none most (x ∷ xs) first = absurd (let no : ⊥ = cc in no)

-- without the whole first part
pub left_whole : (end held : ℕ) (p : List ℕ) (es left : List (ℕ × List ℕ)) → es ≡ (end, p) ∷ left → first_part es ≡ Some (end, held)
    → flat left ≡ drop held (flat es)
unfolding first_part flat
left_whole end held p es left split first =
    let at : first_part ((end, p) ∷ left) ≡ Some (end, held) = ap first_part (sym split) ∙ first in
    let same = same_place end (length p) end held at in
    rw (split, ← same.1) (sym (drop_all (end - length p) p (flat left)))

pub whole_bytes : (end held : ℕ) (p : List ℕ) (es left : List (ℕ × List ℕ)) → es ≡ (end, p) ∷ left → first_part es ≡ Some (end, held) → p ≡ front_bytes held es
unfolding first_part front_bytes
whole_bytes end held p es left split first =
    let at : first_part ((end, p) ∷ left) ≡ Some (end, held) = ap first_part (sym split) ∙ first in
    let same = same_place end (length p) end held at in
    rw (split, ← same.1) (sym (take-length p))

pub kept_left : (end j : ℕ) (p : List ℕ) (es left : List (ℕ × List ℕ)) → es ≡ (end, p) ∷ left → IsKept es j
    → Apart 0 left × (j ≡ one (starts_at end left) + joints left)
unfolding Apart joints
kept_left end j p es left split kept =
    let apart : Apart 0 ((end, p) ∷ left) = subst (λ (l : List (ℕ × List ℕ)). Apart 0 l) split kept.apart in
    (lower end left apart.2, kept.count ∙ ap joints split)
  where
    lower : (lo : ℕ) (es : List (ℕ × List ℕ)) → Apart lo es → Apart 0 es
    lower lo [] apart = tt
    lower lo (x ∷ xs) apart = (apart.0, omega (arith, apart.1), apart.2)

pub kept_cut : (n end held j : ℕ) (es : List (ℕ × List ℕ)) → first_part es ≡ Some (end, held) → n < held → IsKept es j → IsKept (without_front n es) j
unfolding first_part without_front Apart joints
kept_cut n end held j [] first less kept = absurd (let no : ⊥ = cc in no)
kept_cut n end held j (x ∷ xs) first less kept =
    let same = same_place x.0 (length x.1) end held first in
    let l : length x.1 ≡ held = same.1 in
    let long : length (drop n x.1) ≡ length x.1 - n = length-drop n x.1 in
    let under : 0 + length x.1 ≤ x.0 = kept.apart.1 in
    record { apart = (omega arith, omega arith, kept.apart.2); count = kept.count }

pub whole_behind : (end j : ℕ) (p : List ℕ) (es left : List (ℕ × List ℕ)) → es ≡ (end, p) ∷ left → IsKept es j → Apart end left
unfolding Apart
whole_behind end j p es left split kept =
    let apart : Apart 0 ((end, p) ∷ left) = subst (λ (l : List (ℕ × List ℕ)). Apart 0 l) split kept.apart in
    apart.2

pub cut_behind : (n end held : ℕ) (es : List (ℕ × List ℕ)) → first_part es ≡ Some (end, held) → n < held → Apart 0 es → Apart (end - held + n) (without_front n es)
unfolding first_part without_front Apart
cut_behind n end held [] first less apart = absurd (let no : ⊥ = cc in no)
cut_behind n end held (x ∷ xs) first less apart =
    let same = same_place x.0 (length x.1) end held first in
    let e : x.0 ≡ end = same.0 in
    let l : length x.1 ≡ held = same.1 in
    let long : length (drop n x.1) ≡ length x.1 - n = length-drop n x.1 in
    let under : 0 + length x.1 ≤ x.0 = apart.1 in
    (omega arith, omega arith, apart.2)

pub first_sizes : (end held : ℕ) (es : List (ℕ × List ℕ)) → first_part es ≡ Some (end, held) → (first_begin es ≡ end - held) × (first_length es ≡ held)
unfolding first_part first_begin first_length
first_sizes end held [] first = absurd (let no : ⊥ = cc in no)
first_sizes end held (x ∷ xs) first =
    let same = same_place x.0 (length x.1) end held first in
    let e : x.0 ≡ end = same.0 in
    let l : length x.1 ≡ held = same.1 in
    (omega arith, l)

pub no_first : (es : List (ℕ × List ℕ)) → first_part es ≡ None → (es ≡ []) × (first_length es ≡ 0)
unfolding first_part first_length
no_first [] first = (refl, refl)
no_first (x ∷ xs) first = absurd (let no : ⊥ = cc in no)

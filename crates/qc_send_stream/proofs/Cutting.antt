-- A segment is cut at an offset
use Rattle.std.proofs.Common.{◌≡◌, ◌∙◌, ap, sym, ℕ, ◌+◌, ◌-◌, ◌<◌, ◌≤◌, suc, zero, ◌⊎◌, inl, inr, List, [], ◌∷◌, ◌++◌, Bool, true, length, take, drop, arith, refl, subst, Option, None, Some, length-drop}
use Rattle.std.proofs.lemmas.Bool.{cases_order, cases_lt, lt-ltb, le-ltb, eq-eqb, ne_eqb}
use Rattle.std.proofs.lemmas.List.{length-take-le}
use Rattle.std.specs.Map.{lookup, set_value}
use Rattle.std.specs.BTreeMap.{is_at, insert_entry}
use Rattle.std.specs.Ordering.{nat_cmp}
use Rattle.qc_send_stream.specs.declared.segments.Segment.{Segment}
use Rattle.qc_send_stream.specs.Buffer.{Kept, row}
use Rattle.qc_send_stream.specs.Segments.{begin, flat, Apart, EndBy, CutAt, among, Listed, first_behind, front_of, straddling, split, changed_at, without_front, Holds}

pub behind_first : (o : ℕ) (e : ℕ × Segment) (es : List (ℕ × Segment)) → o < e.0 → first_behind o (e ∷ es) ≡ Some e
unfolding first_behind
behind_first o e es less = rw (lt-ltb o e.0 less) refl

pub behind_next : (o : ℕ) (e : ℕ × Segment) (es : List (ℕ × Segment)) → e.0 ≤ o → first_behind o (e ∷ es) ≡ first_behind o es
unfolding first_behind
behind_next o e es more = rw (le-ltb o e.0 more) refl

pub same_entry : (x e : ℕ × Segment) → (let p : Option (ℕ × Segment) = Some x in p) ≡ Some e → x ≡ e
same_entry x e q = cc

-- a segment behind o holds bytes, ends behind o and doesn't begin below 0
pub behind_bounds : (lo o : ℕ) (e : ℕ × Segment) (es : List (ℕ × Segment)) → Apart lo es → first_behind o es ≡ Some e → (o < e.0) × (length e.1.bytes ≤ e.0) × (0 < length e.1.bytes)
unfolding Apart first_behind
behind_bounds lo o e [] apart found = absurd (let no : ⊥ = cc in no)
behind_bounds lo o e (x ∷ xs) apart found = elim (cases_lt o x.0) [
  | inl less ↦
      let same : x ≡ e = same_entry x e (sym (behind_first o x xs less) ∙ found) in
      let under : lo + length x.1.bytes ≤ x.0 = apart.1 in
      subst (λ (p : ℕ × Segment). (o < p.0) × (length p.1.bytes ≤ p.0) × (0 < length p.1.bytes)) same (less, omega arith, apart.0)
  | inr more ↦ behind_bounds x.0 o e xs apart.2 (sym (behind_next o x xs more) ∙ found)
]

pub insert_less : {X : Type 0} (n : ℕ) (v : X) (e : ℕ × X) (es : List (ℕ × X)) → n < e.0 → insert_entry nat_cmp (e ∷ es) n v ≡ (n, v) ∷ e ∷ es
insert_less n v e es less = rw (lt-ltb n e.0 less) refl

pub insert_more : {X : Type 0} (n : ℕ) (v : X) (e : ℕ × X) (es : List (ℕ × X)) → e.0 < n → insert_entry nat_cmp (e ∷ es) n v ≡ e ∷ insert_entry nat_cmp es n v
insert_more n v e es more = rw (le-ltb n e.0 (omega arith), ne_eqb n e.0 (λ q. omega arith)) refl

pub find_here : (k : ℕ) (x : ℕ × Segment) (xs : List (ℕ × Segment)) → k ≡ x.0 → lookup (is_at (nat_cmp k)) (x ∷ xs) ≡ Some x.1
find_here k x xs e = rw (le-ltb k x.0 (omega arith), eq-eqb k x.0 e) refl

pub find_other : (k : ℕ) (x : ℕ × Segment) (xs : List (ℕ × Segment)) → (k ≡ x.0 → ⊥) → lookup (is_at (nat_cmp k)) (x ∷ xs) ≡ lookup (is_at (nat_cmp k)) xs
find_other k x xs other = elim (cases_order k x.0) [
  | inl e ↦ absurd (other e)
  | inr (inl less) ↦ rw (lt-ltb k x.0 less) refl
  | inr (inr more) ↦ rw (le-ltb k x.0 (omega arith), ne_eqb k x.0 other) refl
]

set_here : (k : ℕ) (v : Segment) (x : ℕ × Segment) (xs : List (ℕ × Segment)) → k ≡ x.0 → set_value (is_at (nat_cmp k)) (x ∷ xs) v ≡ (x.0, v) ∷ xs
set_here k v x xs e = rw (le-ltb k x.0 (omega arith), eq-eqb k x.0 e) refl

set_other : (k : ℕ) (v : Segment) (x : ℕ × Segment) (xs : List (ℕ × Segment)) → (k ≡ x.0 → ⊥) → set_value (is_at (nat_cmp k)) (x ∷ xs) v ≡ x ∷ set_value (is_at (nat_cmp k)) xs v
set_other k v x xs other = elim (cases_order k x.0) [
  | inl e ↦ absurd (other e)
  | inr (inl less) ↦ rw (lt-ltb k x.0 less) refl
  | inr (inr more) ↦ rw (le-ltb k x.0 (omega arith), ne_eqb k x.0 other) refl
]

pub change_here : (k : ℕ) (f : Segment → Segment) (x : ℕ × Segment) (xs : List (ℕ × Segment)) → k ≡ x.0 → changed_at k f (x ∷ xs) ≡ (x.0, f x.1) ∷ xs
unfolding changed_at
change_here k f x xs e = rw (eq-eqb k x.0 e) refl

pub change_other : (k : ℕ) (f : Segment → Segment) (x : ℕ × Segment) (xs : List (ℕ × Segment)) → (k ≡ x.0 → ⊥) → changed_at k f (x ∷ xs) ≡ x ∷ changed_at k f xs
unfolding changed_at
change_other k f x xs other = rw (ne_eqb k x.0 other) refl

pub same_segment : (a b : Segment) → (let p : Option Segment = Some a in p) ≡ Some b → a ≡ b
same_segment a b q = cc

pub same_key : (k n : ℕ) → (k ≡ n) ⊎ (k ≡ n → ⊥)
same_key k n = elim (cases_order k n) [
  | inl e ↦ inl e
  | inr (inl less) ↦ inr (λ e. omega arith)
  | inr (inr more) ↦ inr (λ e. omega arith)
]

-- a value that is written back at its key
pub set_changed : (k : ℕ) (f : Segment → Segment) (s : Segment) (es : List (ℕ × Segment)) → Some s ≡ lookup (is_at (nat_cmp k)) es
    → set_value (is_at (nat_cmp k)) es (f s) ≡ changed_at k f es
unfolding changed_at
set_changed k f s [] found = refl
set_changed k f s (x ∷ xs) found = elim (same_key k x.0) [
  | inl e ↦
      let same : s ≡ x.1 = same_segment s x.1 (found ∙ find_here k x xs e) in
      set_here k (f s) x xs e ∙ ap (λ (v : Segment). (let r : List (ℕ × Segment) = (x.0, f v) ∷ xs in r)) same ∙ sym (change_here k f x xs e)
  | inr other ↦
      set_other k (f s) x xs other ∙ ap (λ (l : List (ℕ × Segment)). x ∷ l) (set_changed k f s xs (found ∙ find_other k x xs other))
      ∙ sym (change_other k f x xs other)
]

pub none_changed : (k : ℕ) (f : Segment → Segment) (es : List (ℕ × Segment)) → None ≡ lookup (is_at (nat_cmp k)) es → changed_at k f es ≡ es
unfolding changed_at
none_changed k f [] found = refl
none_changed k f (x ∷ xs) found = elim (same_key k x.0) [
  | inl e ↦
      let no : None ≡ Some x.1 = found ∙ find_here k x xs e in
      absurd (let bad : ⊥ = cc in bad)
  | inr other ↦ change_other k f x xs other ∙ ap (λ (l : List (ℕ × Segment)). x ∷ l) (none_changed k f xs (found ∙ find_other k x xs other))
]

pub held : (n k : ℕ) (s : Segment) (es : List (ℕ × Segment)) → Some s ≡ lookup (is_at (nat_cmp k)) es → Holds n (lookup (is_at (nat_cmp k)) es) → n ≤ length s.bytes
unfolding Holds
held n k s es found holds = subst (λ (p : Option Segment). Holds n p) (sym found) holds

-- ---- the cut

pub split_here : (o : ℕ) (e : ℕ × Segment) (es : List (ℕ × Segment)) → o < e.0 → begin e < o
    → split o (e ∷ es) ≡ (o, record { bytes = take (o - begin e) e.1.bytes; lost = e.1.lost }) ∷ (e.0, record { bytes = drop (o - begin e) e.1.bytes; lost = e.1.lost }) ∷ es
unfolding split
split_here o e es less inside = rw (lt-ltb o e.0 less, lt-ltb (begin e) o inside) refl

pub split_whole : (o : ℕ) (e : ℕ × Segment) (es : List (ℕ × Segment)) → o < e.0 → o ≤ begin e → split o (e ∷ es) ≡ e ∷ es
unfolding split
split_whole o e es less before = rw (lt-ltb o e.0 less, le-ltb (begin e) o before) refl

pub split_later : (o : ℕ) (e : ℕ × Segment) (es : List (ℕ × Segment)) → e.0 ≤ o → split o (e ∷ es) ≡ e ∷ split o es
unfolding split
split_later o e es more = rw (le-ltb o e.0 more) refl

pub front_here_of : (o : ℕ) (es : List (ℕ × Segment)) (e : ℕ × Segment) → first_behind o es ≡ Some e → begin e < o
    → straddling o es ≡ Some (e.0, take (o - begin e) e.1.bytes, e.1.lost)
unfolding straddling front_of
front_here_of o es e found inside = ap (λ (p : Option (ℕ × Segment)). front_of o p) found ∙ rw (lt-ltb (begin e) o inside) refl

pub front_whole_of : (o : ℕ) (es : List (ℕ × Segment)) (e : ℕ × Segment) → first_behind o es ≡ Some e → o ≤ begin e → straddling o es ≡ None
unfolding straddling front_of
front_whole_of o es e found before = ap (λ (p : Option (ℕ × Segment)). front_of o p) found ∙ rw (le-ltb (begin e) o before) refl

front_here : (o : ℕ) (e : ℕ × Segment) (es : List (ℕ × Segment)) → o < e.0 → begin e < o
    → straddling o (e ∷ es) ≡ Some (e.0, take (o - begin e) e.1.bytes, e.1.lost)
unfolding straddling front_of
front_here o e es less inside = ap (λ (p : Option (ℕ × Segment)). front_of o p) (behind_first o e es less) ∙ rw (lt-ltb (begin e) o inside) refl

front_whole : (o : ℕ) (e : ℕ × Segment) (es : List (ℕ × Segment)) → o < e.0 → o ≤ begin e → straddling o (e ∷ es) ≡ None
unfolding straddling front_of
front_whole o e es less before = ap (λ (p : Option (ℕ × Segment)). front_of o p) (behind_first o e es less) ∙ rw (le-ltb (begin e) o before) refl

front_later : (o : ℕ) (e : ℕ × Segment) (es : List (ℕ × Segment)) → e.0 ≤ o → straddling o (e ∷ es) ≡ straddling o es
unfolding straddling
front_later o e es more = ap (λ (p : Option (ℕ × Segment)). front_of o p) (behind_next o e es more)

same_front : (a b : ℕ × List ℕ × Bool) → (let p : Option (ℕ × List ℕ × Bool) = Some a in p) ≡ Some b → a ≡ b
same_front a b q = cc

some_front : (a : ℕ × List ℕ × Bool) → (let p : Option (ℕ × List ℕ × Bool) = Some a in p) ≡ None → ⊥
some_front a q = cc

no_front : (a : ℕ × List ℕ × Bool) → (let p : Option (ℕ × List ℕ × Bool) = None in p) ≡ Some a → ⊥
no_front a q = cc

pub split_none : (o : ℕ) (es : List (ℕ × Segment)) → straddling o es ≡ None → split o es ≡ es
unfolding split
split_none o [] none = refl
split_none o (e ∷ es) none = elim (cases_lt o e.0) [
  | inl less ↦ elim (cases_lt (begin e) o) [
    | inl inside ↦
        absurd (some_front (e.0, take (o - begin e) e.1.bytes, e.1.lost) (sym (front_here o e es less inside) ∙ none))
    | inr before ↦ split_whole o e es less before
  ]
  | inr more ↦ split_later o e es more ∙ ap (λ (l : List (ℕ × Segment)). e ∷ l) (split_none o es (sym (front_later o e es more) ∙ none))
]

-- the front as a segment of its own
abbrev pub front_segment : ℕ × List ℕ × Bool → Segment
front_segment f = record { bytes = f.1; lost = f.2 }

-- the cut lies above lo, and the segment ends behind it
front_bounds : (lo o : ℕ) (f : ℕ × List ℕ × Bool) (es : List (ℕ × Segment)) → Apart lo es → straddling o es ≡ Some f → (o < f.0) × (lo < o)
unfolding Apart straddling front_of first_behind begin
front_bounds lo o f [] apart found = absurd (let no : ⊥ = cc in no)
front_bounds lo o f (e ∷ es) apart found = elim (cases_lt o e.0) [
  | inl less ↦ elim (cases_lt (begin e) o) [
    | inl inside ↦
        let same = same_front (e.0, take (o - begin e) e.1.bytes, e.1.lost) f (sym (front_here o e es less inside) ∙ found) in
        let under : lo + length e.1.bytes ≤ e.0 = apart.1 in
        subst (λ (p : ℕ × List ℕ × Bool). (o < p.0) × (lo < o)) same (less, omega arith)
    | inr before ↦
        absurd (no_front f (sym (front_whole o e es less before) ∙ found))
  ]
  | inr more ↦
      let rest = front_bounds e.0 o f es apart.2 (sym (front_later o e es more) ∙ found) in
      let under : lo + length e.1.bytes ≤ e.0 = apart.1 in
      (rest.0, omega (arith, rest.1))
]

pub split_done : (lo o : ℕ) (f : ℕ × List ℕ × Bool) (es : List (ℕ × Segment)) → Apart lo es → straddling o es ≡ Some f
    → Holds (length f.1) (lookup (is_at (nat_cmp f.0)) (insert_entry nat_cmp es o (front_segment f)))
    × (changed_at f.0 (without_front (length f.1)) (insert_entry nat_cmp es o (front_segment f)) ≡ split o es)
unfolding Apart straddling front_of first_behind Holds begin without_front
split_done lo o f [] apart found = absurd (let no : ⊥ = cc in no)
split_done lo o f (e ∷ es) apart found = elim (cases_lt o e.0) [
  | inl less ↦ elim (cases_lt (begin e) o) [
    | inl inside ↦
        let same = same_front (e.0, take (o - begin e) e.1.bytes, e.1.lost) f (sym (front_here o e es less inside) ∙ found) in
        let under : lo + length e.1.bytes ≤ e.0 = apart.1 in
        let long : length (take (o - begin e) e.1.bytes) ≡ o - begin e = length-take-le (o - begin e) e.1.bytes (omega arith) in
        subst
        (λ (p : ℕ × List ℕ × Bool). Holds (length p.1) (lookup (is_at (nat_cmp p.0)) (insert_entry nat_cmp (e ∷ es) o (front_segment p)))
        × (changed_at p.0 (without_front (length p.1)) (insert_entry nat_cmp (e ∷ es) o (front_segment p)) ≡ split o (e ∷ es)))
        same
        (here o e es less inside long (omega arith))
    | inr before ↦
        absurd (no_front f (sym (front_whole o e es less before) ∙ found))
  ]
  | inr more ↦
      let rest = split_done e.0 o f es apart.2 (sym (front_later o e es more) ∙ found) in
      let far = front_bounds e.0 o f es apart.2 (sym (front_later o e es more) ∙ found) in (
        later_holds o f e es far.1 far.0 rest.0,
        later_split o f e es far.1 far.0 rest.1,
      )
]
  where
    here : (o : ℕ) (e : ℕ × Segment) (es : List (ℕ × Segment)) → o < e.0 → begin e < o → length (take (o - begin e) e.1.bytes) ≡ o - begin e → o - begin e ≤ length e.1.bytes
        → Holds (length (take (o - begin e) e.1.bytes)) (lookup (is_at (nat_cmp e.0)) (insert_entry nat_cmp (e ∷ es) o (front_segment (e.0, take (o - begin e) e.1.bytes, e.1.lost))))
        × (changed_at e.0 (without_front (length (take (o - begin e) e.1.bytes))) (insert_entry nat_cmp (e ∷ es) o (front_segment (e.0, take (o - begin e) e.1.bytes, e.1.lost))) ≡ split o (e ∷ es))
    here o e es less inside long fits =
        let s : Segment = front_segment (e.0, take (o - begin e) e.1.bytes, e.1.lost) in
        let all = insert_less o s e es less in
        let other : e.0 ≡ o → ⊥ = λ q. omega arith in
        let found : lookup (is_at (nat_cmp e.0)) (insert_entry nat_cmp (e ∷ es) o s) ≡ Some e.1 =
        ap (λ (l : List (ℕ × Segment)). lookup (is_at (nat_cmp e.0)) l) all ∙ find_other e.0 (o, s) (e ∷ es) other ∙ find_here e.0 e es refl in
        let room : length (take (o - begin e) e.1.bytes) ≤ length e.1.bytes = omega arith in (
          subst (λ (p : Option Segment). Holds (length (take (o - begin e) e.1.bytes)) p) (sym found) room,
          ap (λ (l : List (ℕ × Segment)). changed_at e.0 (without_front (length (take (o - begin e) e.1.bytes))) l) all
              ∙ change_other e.0 (without_front (length (take (o - begin e) e.1.bytes))) (o, s) (e ∷ es) other
              ∙ ap (λ (l : List (ℕ × Segment)). (o, s) ∷ l) (change_here e.0 (without_front (length (take (o - begin e) e.1.bytes))) e es refl)
              ∙ ap (λ (i : ℕ). (let r : List (ℕ × Segment) = (o, s) ∷ (e.0, record { bytes = drop i e.1.bytes; lost = e.1.lost }) ∷ es in r)) long
              ∙ sym (split_here o e es less inside),
        )

    later_holds : (o : ℕ) (f : ℕ × List ℕ × Bool) (e : ℕ × Segment) (es : List (ℕ × Segment)) → e.0 < o → o < f.0
        → Holds (length f.1) (lookup (is_at (nat_cmp f.0)) (insert_entry nat_cmp es o (front_segment f)))
        → Holds (length f.1) (lookup (is_at (nat_cmp f.0)) (insert_entry nat_cmp (e ∷ es) o (front_segment f)))
    later_holds o f e es more far holds =
        subst (λ (p : Option Segment). Holds (length f.1) p)
        (sym (ap (λ (l : List (ℕ × Segment)). lookup (is_at (nat_cmp f.0)) l) (insert_more o (front_segment f) e es more)
        ∙ find_other f.0 e (insert_entry nat_cmp es o (front_segment f)) (λ q. omega arith)))
        holds

    later_split : (o : ℕ) (f : ℕ × List ℕ × Bool) (e : ℕ × Segment) (es : List (ℕ × Segment)) → e.0 < o → o < f.0
        → changed_at f.0 (without_front (length f.1)) (insert_entry nat_cmp es o (front_segment f)) ≡ split o es
        → changed_at f.0 (without_front (length f.1)) (insert_entry nat_cmp (e ∷ es) o (front_segment f)) ≡ split o (e ∷ es)
    later_split o f e es more far same =
        ap (λ (l : List (ℕ × Segment)). changed_at f.0 (without_front (length f.1)) l) (insert_more o (front_segment f) e es more)
        ∙ change_other f.0 (without_front (length f.1)) e (insert_entry nat_cmp es o (front_segment f)) (λ q. omega arith)
        ∙ ap (λ (l : List (ℕ × Segment)). e ∷ l) same
        ∙ sym (split_later o e es (omega arith))

-- ---- what a cut leaves

pub row_split : (l : Bool) (s n : ℕ) (p : List ℕ) (rest : List Kept) → row l s (take n p) ++ (row l (s + n) (drop n p) ++ rest) ≡ row l s p ++ rest
unfolding row
row_split l s zero p rest = let e : s + 0 ≡ s = omega arith in ap (λ (i : ℕ). row l i p ++ rest) e
row_split l s (suc n) [] rest = refl
row_split l s (suc n) (q ∷ p) rest =
    let e : s + suc n ≡ suc s + n = omega arith in
    ap (λ (w : List Kept). record { offset = s; byte = q; lost = l } ∷ w)
    (ap (λ (i : ℕ). row l (suc s) (take n p) ++ (row l i (drop n p) ++ rest)) e ∙ row_split l (suc s) n p rest)

pub split_flat : (lo o : ℕ) (es : List (ℕ × Segment)) → Apart lo es → flat (split o es) ≡ flat es
unfolding Apart flat begin split
split_flat lo o [] apart = refl
split_flat lo o (e ∷ es) apart = elim (cases_lt o e.0) [
  | inl less ↦ elim (cases_lt (begin e) o) [
    | inl inside ↦
        let under : lo + length e.1.bytes ≤ e.0 = apart.1 in
        let long : length (take (o - begin e) e.1.bytes) ≡ o - begin e = length-take-le (o - begin e) e.1.bytes (omega arith) in
        let short : length (drop (o - begin e) e.1.bytes) ≡ length e.1.bytes - (o - begin e) = length-drop (o - begin e) e.1.bytes in
        let first : o - length (take (o - begin e) e.1.bytes) ≡ begin e = omega arith in
        let second : e.0 - length (drop (o - begin e) e.1.bytes) ≡ begin e + (o - begin e) = omega arith in
        ap flat (split_here o e es less inside)
        ∙ ap (λ (i : ℕ). row e.1.lost i (take (o - begin e) e.1.bytes) ++ (row e.1.lost (e.0 - length (drop (o - begin e) e.1.bytes)) (drop (o - begin e) e.1.bytes) ++ flat es)) first
        ∙ ap (λ (i : ℕ). row e.1.lost (begin e) (take (o - begin e) e.1.bytes) ++ (row e.1.lost i (drop (o - begin e) e.1.bytes) ++ flat es)) second
        ∙ row_split e.1.lost (begin e) (o - begin e) e.1.bytes (flat es)
    | inr before ↦ ap flat (split_whole o e es less before)
  ]
  | inr more ↦ ap flat (split_later o e es more) ∙ ap (λ (w : List Kept). row e.1.lost (begin e) e.1.bytes ++ w) (split_flat e.0 o es apart.2)
]

pub split_apart : (lo o : ℕ) (es : List (ℕ × Segment)) → Apart lo es → Apart lo (split o es)
unfolding Apart begin split
split_apart lo o [] apart = tt
split_apart lo o (e ∷ es) apart = elim (cases_lt o e.0) [
  | inl less ↦ elim (cases_lt (begin e) o) [
    | inl inside ↦
        let under : lo + length e.1.bytes ≤ e.0 = apart.1 in
        let long : length (take (o - begin e) e.1.bytes) ≡ o - begin e = length-take-le (o - begin e) e.1.bytes (omega arith) in
        let short : length (drop (o - begin e) e.1.bytes) ≡ length e.1.bytes - (o - begin e) = length-drop (o - begin e) e.1.bytes in
        subst (λ (l : List (ℕ × Segment)). Apart lo l) (sym (split_here o e es less inside)) (omega arith, omega arith, (omega arith, omega arith, apart.2))
    | inr before ↦ subst (λ (l : List (ℕ × Segment)). Apart lo l) (sym (split_whole o e es less before)) apart
  ]
  | inr more ↦ subst (λ (l : List (ℕ × Segment)). Apart lo l) (sym (split_later o e es more)) (apart.0, apart.1, split_apart e.0 o es apart.2)
]

pub split_end : (n o : ℕ) (es : List (ℕ × Segment)) → EndBy n es → EndBy n (split o es)
unfolding EndBy split
split_end n o [] by = tt
split_end n o (e ∷ es) by = elim (cases_lt o e.0) [
  | inl less ↦ elim (cases_lt (begin e) o) [
    | inl inside ↦ subst (λ (l : List (ℕ × Segment)). EndBy n l) (sym (split_here o e es less inside)) (omega (arith, by.0), (by.0, by.1))
    | inr before ↦ subst (λ (l : List (ℕ × Segment)). EndBy n l) (sym (split_whole o e es less before)) by
  ]
  | inr more ↦ subst (λ (l : List (ℕ × Segment)). EndBy n l) (sym (split_later o e es more)) (by.0, split_end n o es by.1)
]

-- segments from the offset on don't lie on both sides of it
cut_far : (lo o : ℕ) (es : List (ℕ × Segment)) → Apart lo es → o ≤ lo → CutAt o es
unfolding Apart CutAt
cut_far lo o [] apart low = tt
cut_far lo o (e ∷ es) apart low =
    let under : lo + length e.1.bytes ≤ e.0 = apart.1 in
    (inr (omega arith), cut_far e.0 o es apart.2 (omega arith))

pub split_cut : (lo o : ℕ) (es : List (ℕ × Segment)) → Apart lo es → CutAt o (split o es)
unfolding Apart CutAt begin split
split_cut lo o [] apart = tt
split_cut lo o (e ∷ es) apart = elim (cases_lt o e.0) [
  | inl less ↦
      let under : lo + length e.1.bytes ≤ e.0 = apart.1 in
      elim (cases_lt (begin e) o) [
        | inl inside ↦
            let short : length (drop (o - begin e) e.1.bytes) ≡ length e.1.bytes - (o - begin e) = length-drop (o - begin e) e.1.bytes in
            subst (λ (l : List (ℕ × Segment)). CutAt o l) (sym (split_here o e es less inside)) (inl (omega arith), (inr (omega arith), cut_far e.0 o es apart.2 (omega arith)))
        | inr before ↦
            subst (λ (l : List (ℕ × Segment)). CutAt o l) (sym (split_whole o e es less before)) (inr (omega arith), cut_far e.0 o es apart.2 (omega arith))
      ]
  | inr more ↦ subst (λ (l : List (ℕ × Segment)). CutAt o l) (sym (split_later o e es more)) (inl more, split_cut e.0 o es apart.2)
]

pub split_keeps_cut : (lo o x : ℕ) (es : List (ℕ × Segment)) → Apart lo es → CutAt x es → CutAt x (split o es)
unfolding Apart CutAt begin split
split_keeps_cut lo o x [] apart cut = tt
split_keeps_cut lo o x (e ∷ es) apart cut = elim (cases_lt o e.0) [
  | inl less ↦
      let under : lo + length e.1.bytes ≤ e.0 = apart.1 in
      elim (cases_lt (begin e) o) [
        | inl inside ↦
            let long : length (take (o - begin e) e.1.bytes) ≡ o - begin e = length-take-le (o - begin e) e.1.bytes (omega arith) in
            let short : length (drop (o - begin e) e.1.bytes) ≡ length e.1.bytes - (o - begin e) = length-drop (o - begin e) e.1.bytes in
            subst (λ (l : List (ℕ × Segment)). CutAt x l) (sym (split_here o e es less inside))
            (elim cut.0 as
            (λ _. CutAt x ((o, record { bytes = take (o - begin e) e.1.bytes; lost = e.1.lost }) ∷ (e.0, record { bytes = drop (o - begin e) e.1.bytes; lost = e.1.lost }) ∷ es)) [
              | inl low ↦ (inl (omega arith), (inl low, cut.1))
              | inr high ↦ (inr (omega arith), (inr (omega arith), cut.1))
            ])
        | inr before ↦ subst (λ (l : List (ℕ × Segment)). CutAt x l) (sym (split_whole o e es less before)) cut
      ]
  | inr more ↦ subst (λ (l : List (ℕ × Segment)). CutAt x l) (sym (split_later o e es more)) (cut.0, split_keeps_cut e.0 o x es apart.2 cut.1)
]

pub split_listed : (o : ℕ) (es : List (ℕ × Segment)) (ends : List ℕ) → Listed es ends
    → ((f : ℕ × List ℕ × Bool) → straddling o es ≡ Some f → f.2 ≡ true → among o ends ≡ true) → Listed (split o es) ends
unfolding Listed split
split_listed o [] ends listed front = tt
split_listed o (e ∷ es) ends listed front = elim (cases_lt o e.0) [
  | inl less ↦ elim (cases_lt (begin e) o) [
    | inl inside ↦
        subst (λ (l : List (ℕ × Segment)). Listed l ends) (sym (split_here o e es less inside))
        (front (e.0, take (o - begin e) e.1.bytes, e.1.lost) (front_here o e es less inside), (listed.0, listed.1))
    | inr before ↦ subst (λ (l : List (ℕ × Segment)). Listed l ends) (sym (split_whole o e es less before)) listed
  ]
  | inr more ↦
      subst (λ (l : List (ℕ × Segment)). Listed l ends) (sym (split_later o e es more))
      (listed.0, split_listed o es ends listed.1 (λ f found lost. front f (front_later o e es more ∙ found) lost))
]

pub front_lost : (o : ℕ) (f : ℕ × List ℕ × Bool) (es : List (ℕ × Segment)) (ends : List ℕ) → straddling o es ≡ Some f → (f.2 ≡ true → among o ends ≡ true)
    → (g : ℕ × List ℕ × Bool) → straddling o es ≡ Some g → g.2 ≡ true → among o ends ≡ true
front_lost o f es ends found noted g there lost =
    let same = same_front g f (sym there ∙ found) in
    noted (subst (λ (p : ℕ × List ℕ × Bool). p.2 ≡ true) same lost)

-- The ends of lost segments
use Rattle.std.proofs.Common.{◌≡◌, ◌∙◌, ap, sym, ℕ, ◌+◌, ◌<◌, ◌≤◌, inl, inr, List, [], ◌∷◌, Bool, true, false, length, drop, arith, refl, Option, None, Some}
use Rattle.std.proofs.lemmas.Bool.{cases_order, cases_lt, lt-ltb, le-ltb, eq-eqb, ne_eqb, false≢true}
use Rattle.std.proofs.lemmas.List.Elements.{All-head, All-tail}
use Rattle.std.proofs.lemmas.Map.Keys.{le_from_not_gt}
use Rattle.std.specs.Prelude.{IfSome, IfNone, IsSome, is_some}
use Rattle.std.specs.List.{All, list_any, slice_get}
use Rattle.std.specs.Map.{lookup}
use Rattle.std.specs.BTreeMap.{is_at}
use Rattle.std.specs.BTreeSet.{insert_key}
use Rattle.std.specs.Ordering.{nat_cmp, is_gt}
use Rattle.qc_send_stream.specs.declared.segments.Segment.{Segment}
use Rattle.qc_send_stream.specs.Segments.{Apart, among, Extends, NoneBelow, lowest, Listed, Noted, first_behind, end_by, next_within, first_lost, is_lost}
use Rattle.qc_send_stream.proofs.Cutting.{find_here, find_other, same_key}
use Rattle.qc_send_stream.proofs.Ranges.{next_here, next_high, next_later, same_end, no_end, end_none}

among_here : (o x : ℕ) (xs : List ℕ) → o ≡ x → among o (x ∷ xs) ≡ true
unfolding among
among_here o x xs e = rw (eq-eqb o x e) refl

among_other : (o x : ℕ) (xs : List ℕ) → (o ≡ x → ⊥) → among o (x ∷ xs) ≡ among o xs
unfolding among
among_other o x xs other = rw (ne_eqb o x other) refl

key_same : (k x : ℕ) (xs : List ℕ) → k ≡ x → insert_key nat_cmp (x ∷ xs) k ≡ x ∷ xs
key_same k x xs e = rw (le-ltb k x (omega arith), eq-eqb k x e) refl

key_less : (k x : ℕ) (xs : List ℕ) → k < x → insert_key nat_cmp (x ∷ xs) k ≡ k ∷ x ∷ xs
key_less k x xs less = rw (lt-ltb k x less) refl

key_more : (k x : ℕ) (xs : List ℕ) → x < k → insert_key nat_cmp (x ∷ xs) k ≡ x ∷ insert_key nat_cmp xs k
key_more k x xs more = rw (le-ltb k x (omega arith), ne_eqb k x (λ q. omega arith)) refl

pub insert_among : (k : ℕ) (xs : List ℕ) → among k (insert_key nat_cmp xs k) ≡ true
unfolding among
insert_among k [] = among_here k k [] refl
insert_among k (x ∷ xs) = elim (cases_order k x) [
  | inl e ↦ ap (λ (l : List ℕ). among k l) (key_same k x xs e) ∙ among_here k x xs e
  | inr (inl less) ↦ ap (λ (l : List ℕ). among k l) (key_less k x xs less) ∙ among_here k k (x ∷ xs) refl
  | inr (inr more) ↦ ap (λ (l : List ℕ). among k l) (key_more k x xs more) ∙ among_other k x (insert_key nat_cmp xs k) (λ q. omega arith) ∙ insert_among k xs
]

insert_keeps : (o k : ℕ) (xs : List ℕ) → among o xs ≡ true → among o (insert_key nat_cmp xs k) ≡ true
unfolding among
insert_keeps o k [] there = absurd (false≢true there)
insert_keeps o k (x ∷ xs) there = elim (cases_order k x) [
  | inl e ↦ ap (λ (l : List ℕ). among o l) (key_same k x xs e) ∙ there
  | inr (inl less) ↦ ap (λ (l : List ℕ). among o l) (key_less k x xs less) ∙ front o k (x ∷ xs) there
  | inr (inr more) ↦ ap (λ (l : List ℕ). among o l) (key_more k x xs more) ∙ behind o k x xs there (λ h. insert_keeps o k xs h)
]
  where
    front : (o k : ℕ) (xs : List ℕ) → among o xs ≡ true → among o (k ∷ xs) ≡ true
    front o k xs there = elim (same_key o k) [ inl e ↦ among_here o k xs e | inr other ↦ among_other o k xs other ∙ there ]

    behind : (o k x : ℕ) (xs : List ℕ) → among o (x ∷ xs) ≡ true → (among o xs ≡ true → among o (insert_key nat_cmp xs k) ≡ true) → among o (x ∷ insert_key nat_cmp xs k) ≡ true
    behind o k x xs there rest = elim (same_key o x) [
      | inl e ↦ among_here o x (insert_key nat_cmp xs k) e
      | inr other ↦ among_other o x (insert_key nat_cmp xs k) other ∙ rest (sym (among_other o x xs other) ∙ there)
    ]

pub insert_extends : (k : ℕ) (xs ys : List ℕ) → ys ≡ insert_key nat_cmp xs k → Extends xs ys
unfolding Extends
insert_extends k xs ys e = λ o there. ap (λ (l : List ℕ). among o l) e ∙ insert_keeps o k xs there

pub same_extends : (xs ys : List ℕ) → ys ≡ xs → Extends xs ys
unfolding Extends
same_extends xs ys e = λ o there. ap (λ (l : List ℕ). among o l) e ∙ there

pub listed_more : (es : List (ℕ × Segment)) (old new : List ℕ) → Listed es old → Extends old new → Listed es new
unfolding Listed Extends
listed_more [] old new listed more = tt
listed_more (e ∷ es) old new listed more = ((λ q. more e.0 (listed.0 q)), listed_more es old new listed.1 more)

-- ---- the ends of a range are noted

noted_far : (start end lo : ℕ) (es : List (ℕ × Segment)) (ends : List ℕ) → Apart lo es → end ≤ lo → Noted start end es ends
unfolding Noted Apart
noted_far start end lo [] ends apart high = tt
noted_far start end lo (e ∷ es) ends apart high =
    let full : 0 < length e.1.bytes = apart.0 in
    let under : lo + length e.1.bytes ≤ e.0 = apart.1 in
    ((λ a b. absurd (omega arith)), noted_far start end e.0 es ends apart.2 (omega arith))

pub noted_none : (start : ℕ) (es : List (ℕ × Segment)) (ends : List ℕ) → Noted start start es ends
unfolding Noted
noted_none start [] ends = tt
noted_none start (e ∷ es) ends = ((λ a b. absurd (omega arith)), noted_none start es ends)

extended : (o : ℕ) (old new : List ℕ) → Extends old new → among o old ≡ true → among o new ≡ true
unfolding Extends
extended o old new more there = more o there

pub noted_step : (start from end at lo : ℕ) (es : List (ℕ × Segment)) (old new : List ℕ) → Apart lo es → next_within from end es ≡ Some at
    → Noted start from es old → Extends old new → among at new ≡ true → Noted start at es new
unfolding Noted Apart next_within end_by first_behind
noted_step start from end at lo [] old new apart found noted more there = tt
noted_step start from end at lo (e ∷ es) old new apart found noted more there = elim (cases_lt from e.0) [
  | inl less ↦ elim (cases_lt end e.0) [
    | inl high ↦ absurd (end_none at (sym (next_high from end e es less high) ∙ found))
    | inr low ↦
        let same = same_end e.0 at (sym (next_here from end e es less low) ∙ found) in
        ((λ a b. ap (λ (i : ℕ). among i new) same ∙ there), noted_far start at e.0 es new apart.2 (omega arith))
  ]
  | inr low ↦ ((λ a b. extended e.0 old new more (noted.0 a low)), noted_step start from end at e.0 es old new apart.2 (sym (next_later from end e es low) ∙ found) noted.1 more there)
]

pub noted_all : (start from end lo : ℕ) (es : List (ℕ × Segment)) (ends : List ℕ) → Apart lo es → next_within from end es ≡ None
    → Noted start from es ends → Noted start end es ends
unfolding Noted Apart
noted_all start from end lo [] ends apart none noted = tt
noted_all start from end lo (e ∷ es) ends apart none noted = elim (cases_lt from e.0) [
  | inl less ↦ elim (cases_lt end e.0) [
    | inl high ↦ ((λ a b. absurd (omega arith)), noted_far start end e.0 es ends apart.2 (omega arith))
    | inr low ↦ absurd (no_end e.0 (sym (next_here from end e es less low) ∙ none))
  ]
  | inr low ↦ ((λ a b. noted.0 a low), noted_all start from end e.0 es ends apart.2 (sym (next_later from end e es low) ∙ none) noted.1)
]

-- ---- the lowest end

pub lowest_at : (ks : List ℕ) (k : ℕ) → slice_get ks 0 ≡ Some k → lowest ks ≡ Some k
unfolding lowest
lowest_at [] k found = absurd (let no : ⊥ = cc in no)
lowest_at (x ∷ xs) k found = found

pub lowest_absent : (ks : List ℕ) → (0 < length ks → ⊥) → lowest ks ≡ None
unfolding lowest
lowest_absent [] none = refl
lowest_absent (x ∷ xs) none = absurd (none (omega arith))

pub none_below : (k : ℕ) (ks : List ℕ) → All (λ q. is_gt (nat_cmp k q) ≡ false) ks → NoneBelow k ks
unfolding NoneBelow
none_below k [] all = tt
none_below k (x ∷ xs) all =
    (le_from_not_gt k x (All-head (λ q. is_gt (nat_cmp k q) ≡ false) x xs all), none_below k xs (All-tail (λ q. is_gt (nat_cmp k q) ≡ false) x xs all))

pub popped : (r : Option ℕ) (old new : List ℕ) → IfSome r (λ k. old ≡ k ∷ new) → IfNone r (new ≡ old) → (0 < length old → IsSome r) → new ≡ drop 1 old
popped None old new some none there = none ∙ short old (λ h. false≢true (there h))
  where
    short : (l : List ℕ) → (0 < length l → ⊥) → l ≡ drop 1 l
    short [] empty = refl
    short (x ∷ xs) empty = absurd (empty (omega arith))
popped (Some k) old new some none there = sym (ap (λ (l : List ℕ). drop 1 l) some)

pub lowest_split : (ks : List ℕ) (k : ℕ) → lowest ks ≡ Some k → ks ≡ k ∷ drop 1 ks
unfolding lowest
lowest_split [] k found = absurd (end_none k found)
lowest_split (x ∷ xs) k found = ap (λ (i : ℕ). (let l : List ℕ = i ∷ xs in l)) (same_end x k found)

pub lowest_empty : (ks : List ℕ) → lowest ks ≡ None → ks ≡ []
unfolding lowest
lowest_empty [] none = refl
lowest_empty (x ∷ xs) none = absurd (no_end x none)

-- ---- the first lost segment

absent : (k lo : ℕ) (es : List (ℕ × Segment)) → Apart lo es → k ≤ lo → is_lost (lookup (is_at (nat_cmp k)) es) ≡ false
unfolding Apart is_lost
absent k lo [] apart low = refl
absent k lo (e ∷ es) apart low =
    let full : 0 < length e.1.bytes = apart.0 in
    let under : lo + length e.1.bytes ≤ e.0 = apart.1 in
    ap is_lost (find_other k e es (λ q. omega arith)) ∙ absent k e.0 es apart.2 (omega arith)

none_below_at : (o k : ℕ) (ks : List ℕ) → NoneBelow k ks → among o ks ≡ true → k ≤ o
unfolding NoneBelow among
none_below_at o k [] none there = absurd (false≢true there)
none_below_at o k (x ∷ xs) none there = elim (same_key o x) [
  | inl e ↦ omega (arith, none.0)
  | inr other ↦ none_below_at o k xs none.1 (sym (among_other o x xs other) ∙ there)
]

pub lowest_lost : (k lo : ℕ) (es : List (ℕ × Segment)) (ks : List ℕ) → Apart lo es → Listed es ks → NoneBelow k ks
    → is_lost (lookup (is_at (nat_cmp k)) es) ≡ true → first_lost es ≡ Some k
unfolding Apart Listed first_lost is_lost
lowest_lost k lo [] ks apart listed none lost = absurd (false≢true lost)
lowest_lost k lo (e ∷ es) ks apart listed none lost = by (λ l. lowest_lost k e.0 es ks apart.2 listed.1 none l) e.1.lost refl
  where
    by : (is_lost (lookup (is_at (nat_cmp k)) es) ≡ true → first_lost es ≡ Some k) → (t : Bool) → e.1.lost ≡ t → first_lost (e ∷ es) ≡ Some k
    by rest true is =
        let low : k ≤ e.0 = none_below_at e.0 k ks none (listed.0 is) in
        elim (same_key k e.0) [
          | inl same ↦ rw is (ap (λ (i : ℕ). Some i) (sym same))
          | inr other ↦
              absurd (false≢true (sym (absent k e.0 es apart.2 low) ∙ ap is_lost (sym (find_other k e es other)) ∙ lost))
        ]
    by rest false is = elim (same_key k e.0) [
      | inl same ↦ absurd (false≢true (sym is ∙ ap is_lost (sym (find_here k e es same)) ∙ lost))
      | inr other ↦ rw is (rest (ap is_lost (sym (find_other k e es other)) ∙ lost))
    ]

pub pop_listed : (k lo : ℕ) (es : List (ℕ × Segment)) (ks : List ℕ) → Apart lo es → Listed es (k ∷ ks)
    → is_lost (lookup (is_at (nat_cmp k)) es) ≡ false → Listed es ks
unfolding Apart Listed is_lost
pop_listed k lo [] ks apart listed kept = tt
pop_listed k lo (e ∷ es) ks apart listed kept = elim (same_key k e.0) [
  | inl same ↦ (
    (λ q. absurd (false≢true (sym kept ∙ ap is_lost (find_here k e es same) ∙ q))),
    pop_listed k e.0 es ks apart.2 listed.1 (absent k e.0 es apart.2 (omega arith)),
  )
  | inr other ↦ (
    (λ q. sym (among_other e.0 k ks (λ r. other (sym r))) ∙ listed.0 q),
    pop_listed k e.0 es ks apart.2 listed.1 (ap is_lost (sym (find_other k e es other)) ∙ kept),
  )
]

pub none_lost : (es : List (ℕ × Segment)) → Listed es [] → first_lost es ≡ None
unfolding Listed first_lost among
none_lost [] listed = refl
none_lost (e ∷ es) listed = by (none_lost es listed.1) e.1.lost refl
  where
    by : first_lost es ≡ None → (t : Bool) → e.1.lost ≡ t → first_lost (e ∷ es) ≡ None
    by rest true is = absurd (false≢true (listed.0 is))
    by rest false is = rw is rest

-- ---- whether one is lost

some_lost : (k : ℕ) (es : List (ℕ × Segment)) → is_lost (lookup (is_at (nat_cmp k)) es) ≡ true → is_some (first_lost es) ≡ true
unfolding first_lost is_lost
some_lost k [] lost = absurd (false≢true lost)
some_lost k (e ∷ es) lost = by (λ l. some_lost k es l) e.1.lost refl
  where
    by : (is_lost (lookup (is_at (nat_cmp k)) es) ≡ true → is_some (first_lost es) ≡ true) → (t : Bool) → e.1.lost ≡ t → is_some (first_lost (e ∷ es)) ≡ true
    by rest true is = rw is refl
    by rest false is = elim (same_key k e.0) [
      | inl same ↦ absurd (false≢true (sym is ∙ ap is_lost (sym (find_here k e es same)) ∙ lost))
      | inr other ↦ rw is (rest (ap is_lost (sym (find_other k e es other)) ∙ lost))
    ]

pub any_is_lost : (es : List (ℕ × Segment)) (ks : List ℕ) → Apart 0 es → Listed es ks
    → list_any (λ k. is_lost (lookup (is_at (nat_cmp k)) es)) ks ≡ is_some (first_lost es)
any_is_lost es [] apart listed = sym (ap (λ (o : Option ℕ). is_some o) (none_lost es listed))
any_is_lost es (k ∷ ks) apart listed = by (λ l. any_is_lost es ks apart l) (is_lost (lookup (is_at (nat_cmp k)) es)) refl
  where
    by : (Listed es ks → list_any (λ k. is_lost (lookup (is_at (nat_cmp k)) es)) ks ≡ is_some (first_lost es)) → (t : Bool)
        → is_lost (lookup (is_at (nat_cmp k)) es) ≡ t → list_any (λ k. is_lost (lookup (is_at (nat_cmp k)) es)) (k ∷ ks) ≡ is_some (first_lost es)
    by rest true is = rw is (sym (some_lost k es is))
    by rest false is = rw is (rest (pop_listed k 0 es ks apart listed is))

-- The segments of a range are marked, or taken out
use Rattle.std.proofs.Common.{◌≡◌, ◌∙◌, ap, sym, ℕ, ◌+◌, ◌<◌, ◌≤◌, suc, ◌⊎◌, inl, inr, List, [], ◌∷◌, ◌++◌, Bool, true, false, cond, length, arith, refl, subst, Option, None, Some}
use Rattle.std.proofs.lemmas.Bool.{cases_order, cases_lt, lt-ltb, le-ltb, eq-eqb, ne_eqb, le-leb, lt-leb, false≢true}
use Rattle.std.specs.Map.{remove_entry}
use Rattle.std.specs.BTreeMap.{is_at}
use Rattle.std.specs.Ordering.{nat_cmp}
use Rattle.qc_send_stream.specs.declared.segments.Segment.{Segment}
use Rattle.qc_send_stream.specs.Buffer.{Kept, row, lies_in, marked, without}
use Rattle.qc_send_stream.specs.Segments.{begin, flat, Apart, EndBy, CutAt, among, Listed, Noted, first_behind, end_by, next_within, changed_at, with_lost, is_within, stood, outside}
use Rattle.qc_send_stream.proofs.Cutting.{behind_first, behind_next, change_here, change_other}

within_yes : (start end : ℕ) (e : ℕ × Segment) → start < e.0 → e.0 ≤ end → is_within start end e ≡ true
unfolding is_within
within_yes start end e low high = rw (lt-ltb start e.0 low, le-leb e.0 end high) refl

within_low : (start end : ℕ) (e : ℕ × Segment) → e.0 ≤ start → is_within start end e ≡ false
unfolding is_within
within_low start end e low = rw (le-ltb start e.0 low) refl

within_high : (start end : ℕ) (e : ℕ × Segment) → start < e.0 → end < e.0 → is_within start end e ≡ false
unfolding is_within
within_high start end e low high = rw (lt-ltb start e.0 low, lt-leb e.0 end high) refl

pub next_here : (start end : ℕ) (e : ℕ × Segment) (es : List (ℕ × Segment)) → start < e.0 → e.0 ≤ end → next_within start end (e ∷ es) ≡ Some e.0
unfolding next_within end_by
next_here start end e es low high = ap (λ (p : Option (ℕ × Segment)). end_by end p) (behind_first start e es low) ∙ rw (le-leb e.0 end high) refl

pub next_high : (start end : ℕ) (e : ℕ × Segment) (es : List (ℕ × Segment)) → start < e.0 → end < e.0 → next_within start end (e ∷ es) ≡ None
unfolding next_within end_by
next_high start end e es low high = ap (λ (p : Option (ℕ × Segment)). end_by end p) (behind_first start e es low) ∙ rw (lt-leb e.0 end high) refl

pub next_later : (start end : ℕ) (e : ℕ × Segment) (es : List (ℕ × Segment)) → e.0 ≤ start → next_within start end (e ∷ es) ≡ next_within start end es
unfolding next_within
next_later start end e es low = ap (λ (p : Option (ℕ × Segment)). end_by end p) (behind_next start e es low)

pub same_end : (a b : ℕ) → (let p : Option ℕ = Some a in p) ≡ Some b → a ≡ b
same_end a b q = cc

pub no_end : (a : ℕ) → (let p : Option ℕ = Some a in p) ≡ None → ⊥
no_end a q = cc

pub end_none : (a : ℕ) → (let p : Option ℕ = None in p) ≡ Some a → ⊥
end_none a q = cc

pub next_bounds : (start end at : ℕ) (es : List (ℕ × Segment)) → next_within start end es ≡ Some at → (start < at) × (at ≤ end)
unfolding next_within end_by first_behind
next_bounds start end at [] found = absurd (end_none at found)
next_bounds start end at (e ∷ es) found = elim (cases_lt start e.0) [
  | inl less ↦ elim (cases_lt end e.0) [
    | inl high ↦ absurd (end_none at (sym (next_high start end e es less high) ∙ found))
    | inr low ↦
        let same = same_end e.0 at (sym (next_here start end e es less low) ∙ found) in
        (omega arith, omega arith)
  ]
  | inr more ↦ next_bounds start end at es (sym (next_later start end e es more) ∙ found)
]

-- ---- marks

stood_yes : (lost : Bool) (start end : ℕ) (e : ℕ × Segment) (es : List (ℕ × Segment)) → start < e.0 → e.0 ≤ end
    → stood lost start end (e ∷ es) ≡ (e.0, with_lost lost e.1) ∷ stood lost start end es
unfolding stood
stood_yes lost start end e es low high = rw (within_yes start end e low high) refl

stood_low : (lost : Bool) (start end : ℕ) (e : ℕ × Segment) (es : List (ℕ × Segment)) → e.0 ≤ start → stood lost start end (e ∷ es) ≡ e ∷ stood lost start end es
unfolding stood
stood_low lost start end e es low = rw (within_low start end e low) refl

stood_high : (lost : Bool) (start end : ℕ) (e : ℕ × Segment) (es : List (ℕ × Segment)) → start < e.0 → end < e.0 → stood lost start end (e ∷ es) ≡ e ∷ stood lost start end es
unfolding stood
stood_high lost start end e es low high = rw (within_high start end e low high) refl

-- where the range begins below all segments doesn't matter
stood_further : (lost : Bool) (a b end lo : ℕ) (es : List (ℕ × Segment)) → Apart lo es → a ≤ lo → b ≤ lo → stood lost a end es ≡ stood lost b end es
unfolding Apart stood
stood_further lost a b end lo [] apart first second = refl
stood_further lost a b end lo (e ∷ es) apart first second =
    let full : 0 < length e.1.bytes = apart.0 in
    let under : lo + length e.1.bytes ≤ e.0 = apart.1 in
    let rest = stood_further lost a b end e.0 es apart.2 (omega arith) (omega arith) in
    elim (cases_lt end e.0) [
      | inl high ↦ stood_high lost a end e es (omega arith) high ∙ ap (λ (l : List (ℕ × Segment)). e ∷ l) rest ∙ sym (stood_high lost b end e es (omega arith) high)
      | inr low ↦
          stood_yes lost a end e es (omega arith) low ∙ ap (λ (l : List (ℕ × Segment)). (e.0, with_lost lost e.1) ∷ l) rest
          ∙ sym (stood_yes lost b end e es (omega arith) low)
    ]

stood_beyond : (lost : Bool) (start end lo : ℕ) (es : List (ℕ × Segment)) → Apart lo es → start ≤ lo → end ≤ lo → stood lost start end es ≡ es
unfolding Apart stood
stood_beyond lost start end lo [] apart low high = refl
stood_beyond lost start end lo (e ∷ es) apart low high =
    let full : 0 < length e.1.bytes = apart.0 in
    let under : lo + length e.1.bytes ≤ e.0 = apart.1 in
    stood_high lost start end e es (omega arith) (omega arith) ∙ ap (λ (l : List (ℕ × Segment)). e ∷ l) (stood_beyond lost start end e.0 es apart.2 (omega arith) (omega arith))

pub stood_none : (lost : Bool) (start end lo : ℕ) (es : List (ℕ × Segment)) → Apart lo es → next_within start end es ≡ None → stood lost start end es ≡ es
unfolding Apart stood
stood_none lost start end lo [] apart none = refl
stood_none lost start end lo (e ∷ es) apart none = elim (cases_lt start e.0) [
  | inl less ↦ elim (cases_lt end e.0) [
    | inl high ↦ stood_high lost start end e es less high ∙ ap (λ (l : List (ℕ × Segment)). e ∷ l) (stood_beyond lost start end e.0 es apart.2 (omega arith) (omega arith))
    | inr low ↦ absurd (no_end e.0 (sym (next_here start end e es less low) ∙ none))
  ]
  | inr more ↦
      stood_low lost start end e es more
      ∙ ap (λ (l : List (ℕ × Segment)). e ∷ l) (stood_none lost start end e.0 es apart.2 (sym (next_later start end e es more) ∙ none))
]

pub stood_step : (lost : Bool) (start end at lo : ℕ) (es : List (ℕ × Segment)) → Apart lo es → next_within start end es ≡ Some at
    → stood lost at end (changed_at at (with_lost lost) es) ≡ stood lost start end es
unfolding Apart next_within end_by first_behind
stood_step lost start end at lo [] apart found = absurd (end_none at found)
stood_step lost start end at lo (e ∷ es) apart found = elim (cases_lt start e.0) [
  | inl less ↦ elim (cases_lt end e.0) [
    | inl high ↦ absurd (end_none at (sym (next_high start end e es less high) ∙ found))
    | inr low ↦
        let same = same_end e.0 at (sym (next_here start end e es less low) ∙ found) in
        ap (λ (l : List (ℕ × Segment)). stood lost at end l) (change_here at (with_lost lost) e es (sym same))
        ∙ stood_low lost at end (e.0, with_lost lost e.1) es (omega arith)
        ∙ ap (λ (l : List (ℕ × Segment)). (e.0, with_lost lost e.1) ∷ l) (stood_further lost at start end e.0 es apart.2 (omega arith) (omega arith))
        ∙ sym (stood_yes lost start end e es less low)
  ]
  | inr more ↦
      let rest = sym (next_later start end e es more) ∙ found in
      let bounds = next_bounds start end at es rest in
      let far : start < at = bounds.0 in
      ap (λ (l : List (ℕ × Segment)). stood lost at end l) (change_other at (with_lost lost) e es (λ q. omega arith))
      ∙ stood_low lost at end e (changed_at at (with_lost lost) es) (omega arith)
      ∙ ap (λ (l : List (ℕ × Segment)). e ∷ l) (stood_step lost start end at e.0 es apart.2 rest)
      ∙ sym (stood_low lost start end e es more)
]

pub changed_apart : (lost : Bool) (k lo : ℕ) (es : List (ℕ × Segment)) → Apart lo es → Apart lo (changed_at k (with_lost lost) es)
unfolding Apart with_lost changed_at
changed_apart lost k lo [] apart = tt
changed_apart lost k lo (e ∷ es) apart = elim (cases_order k e.0) [
  | inl same ↦ subst (λ (l : List (ℕ × Segment)). Apart lo l) (sym (change_here k (with_lost lost) e es same)) (apart.0, apart.1, apart.2)
  | inr (inl less) ↦
      subst (λ (l : List (ℕ × Segment)). Apart lo l) (sym (change_other k (with_lost lost) e es (λ q. omega arith))) (apart.0, apart.1, changed_apart lost k e.0 es apart.2)
  | inr (inr more) ↦
      subst (λ (l : List (ℕ × Segment)). Apart lo l) (sym (change_other k (with_lost lost) e es (λ q. omega arith))) (apart.0, apart.1, changed_apart lost k e.0 es apart.2)
]

-- a segment's mark, whatever it is
marked_entry : (P : ℕ × Segment → Type 0) (lost : Bool) (start end : ℕ) (e : ℕ × Segment) → P e → P (e.0, with_lost lost e.1) → (es : List (ℕ × Segment))
    → (m : ℕ × Segment) × (stood lost start end (e ∷ es) ≡ m ∷ stood lost start end es) × P m
marked_entry P lost start end e plain changed es = elim (cases_lt start e.0) [
  | inl less ↦ elim (cases_lt end e.0) [
    | inl high ↦ (e, stood_high lost start end e es less high, plain)
    | inr low ↦ ((e.0, with_lost lost e.1), stood_yes lost start end e es less low, changed)
  ]
  | inr more ↦ (e, stood_low lost start end e es more, plain)
]

pub stood_end : (n : ℕ) (lost : Bool) (start end : ℕ) (es : List (ℕ × Segment)) → EndBy n es → EndBy n (stood lost start end es)
unfolding EndBy stood
stood_end n lost start end [] by = tt
stood_end n lost start end (e ∷ es) by =
    let m = marked_entry (λ x. x.0 ≤ n) lost start end e by.0 by.0 es in
    subst (λ (l : List (ℕ × Segment)). EndBy n l) (sym m.1) (m.2, stood_end n lost start end es by.1)

pub stood_apart : (lost : Bool) (start end lo : ℕ) (es : List (ℕ × Segment)) → Apart lo es → Apart lo (stood lost start end es)
unfolding Apart with_lost stood
stood_apart lost start end lo [] apart = tt
stood_apart lost start end lo (e ∷ es) apart =
    let rest = stood_apart lost start end e.0 es apart.2 in
    let m = marked_entry (λ x. (x.0 ≡ e.0) × (0 < length x.1.bytes) × (lo + length x.1.bytes ≤ x.0)) lost start end e (refl, apart.0, apart.1) (refl, apart.0, apart.1) es in
    subst (λ (l : List (ℕ × Segment)). Apart lo l) (sym m.1) (m.2.1, m.2.2, subst (λ (i : ℕ). Apart i (stood lost start end es)) (sym m.2.0) rest)

pub stood_listed : (start end : ℕ) (es : List (ℕ × Segment)) (ends : List ℕ) → Listed es ends → Listed (stood false start end es) ends
unfolding Listed with_lost stood
stood_listed start end [] ends listed = tt
stood_listed start end (e ∷ es) ends listed =
    let m = marked_entry (λ x. x.1.lost ≡ true → among x.0 ends ≡ true) false start end e listed.0 (λ q. absurd (false≢true q)) es in
    subst (λ (l : List (ℕ × Segment)). Listed l ends) (sym m.1) (m.2, stood_listed start end es ends listed.1)

pub stood_noted : (start end : ℕ) (es : List (ℕ × Segment)) (ends : List ℕ) → Listed es ends → Noted start end es ends → Listed (stood true start end es) ends
unfolding Listed Noted stood
stood_noted start end [] ends listed noted = tt
stood_noted start end (e ∷ es) ends listed noted = elim (cases_lt start e.0) [
  | inl less ↦ elim (cases_lt end e.0) [
    | inl high ↦ subst (λ (l : List (ℕ × Segment)). Listed l ends) (sym (stood_high true start end e es less high)) (listed.0, stood_noted start end es ends listed.1 noted.1)
    | inr low ↦
        subst (λ (l : List (ℕ × Segment)). Listed l ends) (sym (stood_yes true start end e es less low))
        ((λ q. noted.0 less low), stood_noted start end es ends listed.1 noted.1)
  ]
  | inr more ↦ subst (λ (l : List (ℕ × Segment)). Listed l ends) (sym (stood_low true start end e es more)) (listed.0, stood_noted start end es ends listed.1 noted.1)
]

-- ---- the bytes of a range, as segments' bytes

in_yes : (start end o : ℕ) (k : Kept) → k.offset ≡ o → start ≤ o → o < end → lies_in start end k ≡ true
unfolding lies_in
in_yes start end o k at low high = rw (le-leb start k.offset (omega arith), lt-ltb k.offset end (omega arith)) refl

in_low : (start end o : ℕ) (k : Kept) → k.offset ≡ o → o < start → lies_in start end k ≡ false
unfolding lies_in
in_low start end o k at low = rw (lt-leb start k.offset (omega arith)) refl

in_high : (start end o : ℕ) (k : Kept) → k.offset ≡ o → start ≤ o → end ≤ o → lies_in start end k ≡ false
unfolding lies_in
in_high start end o k at low high = rw (le-leb start k.offset (omega arith), le-ltb k.offset end (omega arith)) refl

row_yes : (lost l : Bool) (start end s : ℕ) (p : List ℕ) (rest : List Kept) → start ≤ s → s + length p ≤ end
    → marked lost start end (row l s p ++ rest) ≡ row lost s p ++ marked lost start end rest
unfolding row marked
row_yes lost l start end s [] rest low high = refl
row_yes lost l start end s (q ∷ p) rest low high =
    rw (in_yes start end s (record { offset = s; byte = q; lost = l }) refl low (omega arith))
    (ap (λ (w : List Kept). record { offset = s; byte = q; lost = lost } ∷ w) (row_yes lost l start end (suc s) p rest (omega arith) (omega arith)))

-- a byte on one side of a range, and the bytes after it
aside : (start end s q n : ℕ) (l : Bool) → (s + suc n ≤ start) ⊎ (end ≤ s) → lies_in start end (record { offset = s; byte = q; lost = l }) ≡ false
aside start end s q n l apart = elim apart [
  | inl low ↦ in_low start end s (record { offset = s; byte = q; lost = l }) refl (omega arith)
  | inr high ↦ elim (cases_lt s start) [
    | inl low ↦ in_low start end s (record { offset = s; byte = q; lost = l }) refl low
    | inr more ↦ in_high start end s (record { offset = s; byte = q; lost = l }) refl more high
  ]
]

next : (start end s n : ℕ) → (s + suc n ≤ start) ⊎ (end ≤ s) → (suc s + n ≤ start) ⊎ (end ≤ suc s)
next start end s n apart = elim apart [ inl low ↦ inl (omega arith) | inr high ↦ inr (omega arith) ]

row_no : (lost l : Bool) (start end s : ℕ) (p : List ℕ) (rest : List Kept) → (s + length p ≤ start) ⊎ (end ≤ s)
    → marked lost start end (row l s p ++ rest) ≡ row l s p ++ marked lost start end rest
unfolding row marked
row_no lost l start end s [] rest apart = refl
row_no lost l start end s (q ∷ p) rest apart =
    rw (aside start end s q (length p) l apart)
    (ap (λ (w : List Kept). record { offset = s; byte = q; lost = l } ∷ w) (row_no lost l start end (suc s) p rest (next start end s (length p) apart)))

-- a segment that ends behind a cut begins at it or behind it
right : (o : ℕ) (e : ℕ × Segment) → o < e.0 → (e.0 ≤ o) ⊎ (o + length e.1.bytes ≤ e.0) → o ≤ begin e
unfolding begin
right o e less cut = elim cut [ inl low ↦ absurd (omega arith) | inr high ↦ omega arith ]

pub stood_flat : (lost : Bool) (start end lo : ℕ) (es : List (ℕ × Segment)) → Apart lo es → CutAt start es → CutAt end es
    → flat (stood lost start end es) ≡ marked lost start end (flat es)
unfolding Apart CutAt flat begin with_lost stood marked
stood_flat lost start end lo [] apart first last = refl
stood_flat lost start end lo (e ∷ es) apart first last =
    let full : 0 < length e.1.bytes = apart.0 in
    let under : lo + length e.1.bytes ≤ e.0 = apart.1 in
    let rest = stood_flat lost start end e.0 es apart.2 first.1 last.1 in
    elim (cases_lt start e.0) [
      | inl less ↦ elim (cases_lt end e.0) [
        | inl high ↦
            let after : (begin e + length e.1.bytes ≤ start) ⊎ (end ≤ begin e) = inr (right end e (omega arith) last.0) in
            ap flat (stood_high lost start end e es less high) ∙ ap (λ (w : List Kept). row e.1.lost (begin e) e.1.bytes ++ w) rest
            ∙ sym (row_no lost e.1.lost start end (begin e) e.1.bytes (flat es) after)
        | inr low ↦
            ap flat (stood_yes lost start end e es less low) ∙ ap (λ (w : List Kept). row lost (begin e) e.1.bytes ++ w) rest
            ∙ sym (row_yes lost e.1.lost start end (begin e) e.1.bytes (flat es) (right start e less first.0) (omega arith))
      ]
      | inr more ↦
          let before : (begin e + length e.1.bytes ≤ start) ⊎ (end ≤ begin e) = inl (omega arith) in
          ap flat (stood_low lost start end e es more) ∙ ap (λ (w : List Kept). row e.1.lost (begin e) e.1.bytes ++ w) rest
          ∙ sym (row_no lost e.1.lost start end (begin e) e.1.bytes (flat es) before)
    ]

-- ---- the same of segments that are taken out

pub out_yes : (start end : ℕ) (e : ℕ × Segment) (es : List (ℕ × Segment)) → start < e.0 → e.0 ≤ end → outside start end (e ∷ es) ≡ outside start end es
unfolding outside
out_yes start end e es low high = rw (within_yes start end e low high) refl

out_low : (start end : ℕ) (e : ℕ × Segment) (es : List (ℕ × Segment)) → e.0 ≤ start → outside start end (e ∷ es) ≡ e ∷ outside start end es
unfolding outside
out_low start end e es low = rw (within_low start end e low) refl

pub out_high : (start end : ℕ) (e : ℕ × Segment) (es : List (ℕ × Segment)) → start < e.0 → end < e.0 → outside start end (e ∷ es) ≡ e ∷ outside start end es
unfolding outside
out_high start end e es low high = rw (within_high start end e low high) refl

out_further : (a b end lo : ℕ) (es : List (ℕ × Segment)) → Apart lo es → a ≤ lo → b ≤ lo → outside a end es ≡ outside b end es
unfolding Apart outside
out_further a b end lo [] apart first second = refl
out_further a b end lo (e ∷ es) apart first second =
    let full : 0 < length e.1.bytes = apart.0 in
    let under : lo + length e.1.bytes ≤ e.0 = apart.1 in
    let rest = out_further a b end e.0 es apart.2 (omega arith) (omega arith) in
    elim (cases_lt end e.0) [
      | inl high ↦ out_high a end e es (omega arith) high ∙ ap (λ (l : List (ℕ × Segment)). e ∷ l) rest ∙ sym (out_high b end e es (omega arith) high)
      | inr low ↦ out_yes a end e es (omega arith) low ∙ rest ∙ sym (out_yes b end e es (omega arith) low)
    ]

pub out_beyond : (start end lo : ℕ) (es : List (ℕ × Segment)) → Apart lo es → start ≤ lo → end ≤ lo → outside start end es ≡ es
unfolding Apart outside
out_beyond start end lo [] apart low high = refl
out_beyond start end lo (e ∷ es) apart low high =
    let full : 0 < length e.1.bytes = apart.0 in
    let under : lo + length e.1.bytes ≤ e.0 = apart.1 in
    out_high start end e es (omega arith) (omega arith) ∙ ap (λ (l : List (ℕ × Segment)). e ∷ l) (out_beyond start end e.0 es apart.2 (omega arith) (omega arith))

pub out_none : (start end lo : ℕ) (es : List (ℕ × Segment)) → Apart lo es → next_within start end es ≡ None → outside start end es ≡ es
unfolding Apart outside
out_none start end lo [] apart none = refl
out_none start end lo (e ∷ es) apart none = elim (cases_lt start e.0) [
  | inl less ↦ elim (cases_lt end e.0) [
    | inl high ↦ out_high start end e es less high ∙ ap (λ (l : List (ℕ × Segment)). e ∷ l) (out_beyond start end e.0 es apart.2 (omega arith) (omega arith))
    | inr low ↦ absurd (no_end e.0 (sym (next_here start end e es less low) ∙ none))
  ]
  | inr more ↦
      out_low start end e es more
      ∙ ap (λ (l : List (ℕ × Segment)). e ∷ l) (out_none start end e.0 es apart.2 (sym (next_later start end e es more) ∙ none))
]

remove_here : (k : ℕ) (x : ℕ × Segment) (xs : List (ℕ × Segment)) → k ≡ x.0 → remove_entry (is_at (nat_cmp k)) (x ∷ xs) ≡ xs
remove_here k x xs e = rw (le-ltb k x.0 (omega arith), eq-eqb k x.0 e) refl

remove_later : (k : ℕ) (x : ℕ × Segment) (xs : List (ℕ × Segment)) → x.0 < k → remove_entry (is_at (nat_cmp k)) (x ∷ xs) ≡ x ∷ remove_entry (is_at (nat_cmp k)) xs
remove_later k x xs less = rw (le-ltb k x.0 (omega arith), ne_eqb k x.0 (λ e. omega arith)) refl

pub out_step : (start end at lo : ℕ) (es : List (ℕ × Segment)) → Apart lo es → next_within start end es ≡ Some at
    → outside at end (remove_entry (is_at (nat_cmp at)) es) ≡ outside start end es
unfolding Apart next_within end_by first_behind
out_step start end at lo [] apart found = absurd (end_none at found)
out_step start end at lo (e ∷ es) apart found = elim (cases_lt start e.0) [
  | inl less ↦ elim (cases_lt end e.0) [
    | inl high ↦ absurd (end_none at (sym (next_high start end e es less high) ∙ found))
    | inr low ↦
        let same = same_end e.0 at (sym (next_here start end e es less low) ∙ found) in
        ap (λ (l : List (ℕ × Segment)). outside at end l) (remove_here at e es (sym same))
        ∙ out_further at start end e.0 es apart.2 (omega arith) (omega arith)
        ∙ sym (out_yes start end e es less low)
  ]
  | inr more ↦
      let rest = sym (next_later start end e es more) ∙ found in
      let bounds = next_bounds start end at es rest in
      let far : start < at = bounds.0 in
      ap (λ (l : List (ℕ × Segment)). outside at end l) (remove_later at e es (omega arith))
      ∙ out_low at end e (remove_entry (is_at (nat_cmp at)) es) (omega arith)
      ∙ ap (λ (l : List (ℕ × Segment)). e ∷ l) (out_step start end at e.0 es apart.2 rest)
      ∙ sym (out_low start end e es more)
]

apart_lower : (lo hi : ℕ) (es : List (ℕ × Segment)) → lo ≤ hi → Apart hi es → Apart lo es
unfolding Apart
apart_lower lo hi [] low apart = tt
apart_lower lo hi (e ∷ es) low apart = (apart.0, omega (arith, apart.1), apart.2)

pub removed_apart : (k lo : ℕ) (es : List (ℕ × Segment)) → Apart lo es → Apart lo (remove_entry (is_at (nat_cmp k)) es)
unfolding Apart
removed_apart k lo [] apart = tt
removed_apart k lo (e ∷ es) apart =
    let under : lo + length e.1.bytes ≤ e.0 = apart.1 in
    elim (cases_order k e.0) [
      | inl same ↦ subst (λ (l : List (ℕ × Segment)). Apart lo l) (sym (remove_here k e es same)) (apart_lower lo e.0 es (omega arith) apart.2)
      | inr (inl less) ↦
          let one : remove_entry (is_at (nat_cmp k)) (e ∷ es) ≡ e ∷ remove_entry (is_at (nat_cmp k)) es = rw (lt-ltb k e.0 less) refl in
          subst (λ (l : List (ℕ × Segment)). Apart lo l) (sym one) (apart.0, apart.1, removed_apart k e.0 es apart.2)
      | inr (inr more) ↦
          subst (λ (l : List (ℕ × Segment)). Apart lo l) (sym (remove_later k e es more)) (apart.0, apart.1, removed_apart k e.0 es apart.2)
    ]

pub out_apart : (start end lo : ℕ) (es : List (ℕ × Segment)) → Apart lo es → Apart lo (outside start end es)
unfolding Apart outside
out_apart start end lo [] apart = tt
out_apart start end lo (e ∷ es) apart =
    let under : lo + length e.1.bytes ≤ e.0 = apart.1 in
    let rest = out_apart start end e.0 es apart.2 in
    by (is_within start end e) rest (apart_lower lo e.0 (outside start end es) (omega arith) rest)
  where
    by : (t : Bool) → Apart e.0 (outside start end es) → Apart lo (outside start end es) → Apart lo (cond t (outside start end es) (e ∷ outside start end es))
    by true near far = far
    by false near far = (apart.0, apart.1, near)

pub out_end : (n start end : ℕ) (es : List (ℕ × Segment)) → EndBy n es → EndBy n (outside start end es)
unfolding EndBy outside
out_end n start end [] all = tt
out_end n start end (e ∷ es) all = by (is_within start end e) (out_end n start end es all.1)
  where
    by : (t : Bool) → EndBy n (outside start end es) → EndBy n (cond t (outside start end es) (e ∷ outside start end es))
    by true rest = rest
    by false rest = (all.0, rest)

pub out_listed : (start end : ℕ) (es : List (ℕ × Segment)) (ends : List ℕ) → Listed es ends → Listed (outside start end es) ends
unfolding Listed outside
out_listed start end [] ends listed = tt
out_listed start end (e ∷ es) ends listed = by (is_within start end e) (out_listed start end es ends listed.1)
  where
    by : (t : Bool) → Listed (outside start end es) ends → Listed (cond t (outside start end es) (e ∷ outside start end es)) ends
    by true rest = rest
    by false rest = (listed.0, rest)

without_yes : (l : Bool) (start end s : ℕ) (p : List ℕ) (rest : List Kept) → start ≤ s → s + length p ≤ end → without start end (row l s p ++ rest) ≡ without start end rest
unfolding row without
without_yes l start end s [] rest low high = refl
without_yes l start end s (q ∷ p) rest low high =
    rw (in_yes start end s (record { offset = s; byte = q; lost = l }) refl low (omega arith)) (without_yes l start end (suc s) p rest (omega arith) (omega arith))

without_no : (l : Bool) (start end s : ℕ) (p : List ℕ) (rest : List Kept) → (s + length p ≤ start) ⊎ (end ≤ s)
    → without start end (row l s p ++ rest) ≡ row l s p ++ without start end rest
unfolding row without
without_no l start end s [] rest apart = refl
without_no l start end s (q ∷ p) rest apart =
    rw (aside start end s q (length p) l apart)
    (ap (λ (w : List Kept). record { offset = s; byte = q; lost = l } ∷ w) (without_no l start end (suc s) p rest (next start end s (length p) apart)))

pub out_flat : (start end lo : ℕ) (es : List (ℕ × Segment)) → Apart lo es → CutAt start es → CutAt end es → flat (outside start end es) ≡ without start end (flat es)
unfolding Apart CutAt flat begin outside without
out_flat start end lo [] apart first last = refl
out_flat start end lo (e ∷ es) apart first last =
    let full : 0 < length e.1.bytes = apart.0 in
    let under : lo + length e.1.bytes ≤ e.0 = apart.1 in
    let rest = out_flat start end e.0 es apart.2 first.1 last.1 in
    elim (cases_lt start e.0) [
      | inl less ↦ elim (cases_lt end e.0) [
        | inl high ↦
            let after : (begin e + length e.1.bytes ≤ start) ⊎ (end ≤ begin e) = inr (right end e (omega arith) last.0) in
            ap flat (out_high start end e es less high) ∙ ap (λ (w : List Kept). row e.1.lost (begin e) e.1.bytes ++ w) rest
            ∙ sym (without_no e.1.lost start end (begin e) e.1.bytes (flat es) after)
        | inr low ↦
            ap flat (out_yes start end e es less low) ∙ rest
            ∙ sym (without_yes e.1.lost start end (begin e) e.1.bytes (flat es) (right start e less first.0) (omega arith))
      ]
      | inr more ↦
          let before : (begin e + length e.1.bytes ≤ start) ⊎ (end ≤ begin e) = inl (omega arith) in
          ap flat (out_low start end e es more) ∙ ap (λ (w : List Kept). row e.1.lost (begin e) e.1.bytes ++ w) rest
          ∙ sym (without_no e.1.lost start end (begin e) e.1.bytes (flat es) before)
    ]

-- What is sent next is what waits first
use Rattle.std.proofs.Common.{◌≡◌, ◌∙◌, ap, sym, ℕ, ◌+◌, ◌-◌, ◌<◌, ◌≤◌, suc, inl, inr, List, [], ◌∷◌, ◌++◌, Bool, true, false, cond, length, take, drop, arith, refl, subst, Option, None, Some, length-drop}
use Rattle.std.proofs.lemmas.Bool.{cases_lt, le-leb, lt-leb, false≢true}
use Rattle.std.proofs.lemmas.List.{length-take}
use Rattle.std.specs.Prelude.{min, is_some}
use Rattle.std.specs.Map.{lookup}
use Rattle.std.specs.BTreeMap.{is_at}
use Rattle.std.specs.Ordering.{nat_cmp}
use Rattle.qc_send_stream.specs.declared.segments.Segment.{Segment}
use Rattle.qc_send_stream.specs.Buffer.{Kept, Buffer, row, has_bytes, from_lost, from_offset, waiting, first_offset, part_offset, part_bytes, IsNext}
use Rattle.qc_send_stream.specs.Segments.{begin, flat, Apart, EndBy, first_behind, first_lost, lost_front, part_from, buffered}
use Rattle.qc_send_stream.proofs.Cutting.{behind_first, behind_next, behind_bounds, find_here, find_other, same_segment, row_split}
use Rattle.qc_send_stream.proofs.Ranges.{same_end, no_end, end_none}

has_row : (l : Bool) (s : ℕ) (p : List ℕ) (rest : List Kept) → 0 < length p → has_bytes (row l s p ++ rest) ≡ true
unfolding row has_bytes
has_row l s [] rest some = absurd (omega arith)
has_row l s (q ∷ p) rest some = refl

offset_row : (l : Bool) (s : ℕ) (p : List ℕ) (rest : List Kept) → 0 < length p → first_offset (row l s p ++ rest) ≡ Some s
unfolding row first_offset
offset_row l s [] rest some = absurd (omega arith)
offset_row l s (q ∷ p) rest some = refl

drop_row : (l : Bool) (s : ℕ) (p : List ℕ) (rest : List Kept) → drop (length p) (row l s p ++ rest) ≡ rest
unfolding row
drop_row l s [] rest = refl
drop_row l s (q ∷ p) rest = drop_row l (suc s) p rest

-- a front of a row that waits first is next
next_row : (b : Buffer) (most s : ℕ) (l : Bool) (p : List ℕ) (rest : List Kept) → waiting b ≡ row l s p ++ rest → has_bytes (from_lost b.kept) ≡ l → 0 < length p
    → IsNext most b (Some (s, take most p))
unfolding part_offset part_bytes
next_row b most s l p rest waits lost some =
    let long : length (take most p) ≡ min most (length p) = length-take most p in
    let all : row l s (take most p) ++ (row l (s + most) (drop most p) ++ rest) ≡ row l s p ++ rest = row_split l s most p rest in
    let left : drop (length (take most p)) (waiting b) ≡ row l (s + most) (drop most p) ++ rest =
    ap (λ (w : List Kept). drop (length (take most p)) w) (waits ∙ sym all) ∙ drop_row l s (take most p) (row l (s + most) (drop most p) ++ rest) in
    record {
      given = sym (ap has_bytes waits ∙ has_row l s p rest some);
      within = omega arith;
      some = λ _ more. omega arith;
      first = waits ∙ sym all
          ∙ ap (λ (w : List Kept). row l s (take most p) ++ w) (sym left)
          ∙ ap (λ (t : Bool). row t s (take most p) ++ drop (length (take most p)) (waiting b)) (sym lost);
      place = ap first_offset waits ∙ offset_row l s p rest some;
    }

next_none : (b : Buffer) (most : ℕ) → waiting b ≡ [] → IsNext most b None
unfolding part_offset part_bytes row has_bytes first_offset
next_none b most waits = record {
  given = sym (ap has_bytes waits);
  within = omega arith;
  some = λ h _. absurd (false≢true (sym (ap has_bytes waits) ∙ h));
  first = refl;
  place = ap first_offset waits;
}

-- ---- lost bytes

lost_past : (s : ℕ) (p : List ℕ) (rest : List Kept) → from_lost (row false s p ++ rest) ≡ from_lost rest
unfolding row from_lost
lost_past s [] rest = refl
lost_past s (q ∷ p) rest = lost_past (suc s) p rest

lost_here : (s : ℕ) (p : List ℕ) (rest : List Kept) → 0 < length p → from_lost (row true s p ++ rest) ≡ row true s p ++ rest
unfolding row from_lost
lost_here s [] rest some = absurd (omega arith)
lost_here s (q ∷ p) rest some = refl

-- the first lost segment, and what follows it
record FirstLost (most end : ℕ) (es : List (ℕ × Segment)) : Type 0 where
  pub segment : ℕ × Segment
  pub rest : List Kept
  pub at : segment.0 ≡ end
  pub full : 0 < length segment.1.bytes
  pub fits : length segment.1.bytes ≤ segment.0
  pub found : lookup (is_at (nat_cmp end)) es ≡ Some segment.1
  pub front : lost_front most es ≡ Some (begin segment, take most segment.1.bytes)
  pub waits : from_lost (flat es) ≡ row true (begin segment) segment.1.bytes ++ rest

first_of : (most end lo : ℕ) (es : List (ℕ × Segment)) → Apart lo es → first_lost es ≡ Some end → FirstLost most end es × (lo < end)
unfolding Apart first_lost lost_front flat
first_of most end lo [] apart found = absurd (end_none end found)
first_of most end lo (e ∷ es) apart found = by (λ f. first_of most end e.0 es apart.2 f) e.1.lost refl
  where
    by : (first_lost es ≡ Some end → FirstLost most end es × (e.0 < end)) → (t : Bool) → e.1.lost ≡ t → FirstLost most end (e ∷ es) × (lo < end)
    by rest true is =
        let full : 0 < length e.1.bytes = apart.0 in
        let under : lo + length e.1.bytes ≤ e.0 = apart.1 in
        let same : e.0 ≡ end = same_end e.0 end (ap (λ (t : Bool). cond t (Some e.0) (first_lost es)) (sym is) ∙ found) in (
          record {
            segment = e;
            rest = flat es;
            at = same;
            full = full;
            fits = omega arith;
            found = find_here end e es (sym same);
            front = ap (λ (t : Bool). cond t (Some (begin e, take most e.1.bytes)) (lost_front most es)) is;
            waits = ap (λ (t : Bool). from_lost (row t (begin e) e.1.bytes ++ flat es)) is ∙ lost_here (begin e) e.1.bytes (flat es) full;
          },
          omega arith,
        )
    by rest false is =
        let full : 0 < length e.1.bytes = apart.0 in
        let under : lo + length e.1.bytes ≤ e.0 = apart.1 in
        let later = rest (ap (λ (t : Bool). cond t (Some e.0) (first_lost es)) (sym is) ∙ found) in
        let far : e.0 < end = later.1 in (
          record {
            segment = later.0.segment;
            rest = later.0.rest;
            at = later.0.at;
            full = later.0.full;
            fits = later.0.fits;
            found = find_other end e es (λ q. omega arith) ∙ later.0.found;
            front = ap (λ (t : Bool). cond t (Some (begin e, take most e.1.bytes)) (lost_front most es)) is ∙ later.0.front;
            waits = ap (λ (t : Bool). from_lost (row t (begin e) e.1.bytes ++ flat es)) is ∙ lost_past (begin e) e.1.bytes (flat es) ∙ later.0.waits;
          },
          omega arith,
        )

pub lost_there : (end : ℕ) (es : List (ℕ × Segment)) → Apart 0 es → first_lost es ≡ Some end → None ≡ lookup (is_at (nat_cmp end)) es → ⊥
lost_there end es apart found none =
    let first = first_of 0 end 0 es apart found in
    no_segment first.0.segment.1 (none ∙ first.0.found)
  where
    no_segment : (s : Segment) → (let p : Option Segment = None in p) ≡ Some s → ⊥
    no_segment s q = cc

pub lost_is : (most end : ℕ) (s : Segment) (es : List (ℕ × Segment)) → Apart 0 es → first_lost es ≡ Some end → Some s ≡ lookup (is_at (nat_cmp end)) es
    → (length s.bytes ≤ end) × (lost_front most es ≡ Some (end - length s.bytes, take most s.bytes))
unfolding begin
lost_is most end s es apart found there =
    let first = first_of most end 0 es apart found in
    let same : s ≡ first.0.segment.1 = same_segment s first.0.segment.1 (there ∙ first.0.found) in
    subst (λ (x : Segment). (length x.bytes ≤ end) × (lost_front most es ≡ Some (end - length x.bytes, take most x.bytes))) (sym same)
    (omega (arith, first.0.fits, first.0.at), first.0.front ∙ ap (λ (i : ℕ). Some (i - length first.0.segment.1.bytes, take most first.0.segment.1.bytes)) first.0.at)

pub next_lost : (written sent most end : ℕ) (es : List (ℕ × Segment)) → Apart 0 es → first_lost es ≡ Some end
    → IsNext most (buffered written sent es) (lost_front most es)
unfolding buffered waiting
next_lost written sent most end es apart found =
    let first = (first_of most end 0 es apart found).0 in
    let has : has_bytes (from_lost (flat es)) ≡ true = ap has_bytes first.waits ∙ has_row true (begin first.segment) first.segment.1.bytes first.rest first.full in
    subst (λ (p : Option (ℕ × List ℕ)). IsNext most (buffered written sent es) p) (sym first.front)
    (next_row (buffered written sent es) most (begin first.segment) true first.segment.1.bytes first.rest
    (ap (λ (t : Bool). cond t (from_lost (flat es)) (from_offset sent (flat es))) has ∙ first.waits) has first.full)

-- ---- fresh bytes

none_lost_bytes : (es : List (ℕ × Segment)) → first_lost es ≡ None → from_lost (flat es) ≡ []
unfolding first_lost flat from_lost
none_lost_bytes [] none = refl
none_lost_bytes (e ∷ es) none = by (λ n. none_lost_bytes es n) e.1.lost refl
  where
    by : (first_lost es ≡ None → from_lost (flat es) ≡ []) → (t : Bool) → e.1.lost ≡ t → from_lost (row e.1.lost (begin e) e.1.bytes ++ flat es) ≡ []
    by rest true is = absurd (no_end e.0 (ap (λ (t : Bool). cond t (Some e.0) (first_lost es)) (sym is) ∙ none))
    by rest false is =
        ap (λ (t : Bool). from_lost (row t (begin e) e.1.bytes ++ flat es)) is ∙ lost_past (begin e) e.1.bytes (flat es)
        ∙ rest (ap (λ (t : Bool). cond t (Some e.0) (first_lost es)) (sym is) ∙ none)

from_past : (o : ℕ) (l : Bool) (s : ℕ) (p : List ℕ) (rest : List Kept) → s + length p ≤ o → from_offset o (row l s p ++ rest) ≡ from_offset o rest
unfolding row from_offset
from_past o l s [] rest low = refl
from_past o l s (q ∷ p) rest low = rw (lt-leb o s (omega arith)) (from_past o l (suc s) p rest (omega arith))

from_within : (o : ℕ) (l : Bool) (s : ℕ) (p : List ℕ) (rest : List Kept) → 0 < length p → o < s + length p
    → from_offset o (row l s p ++ rest) ≡ row l (s + (o - s)) (drop (o - s) p) ++ rest
unfolding row from_offset
from_within o l s [] rest some low = absurd (omega arith)
from_within o l s (q ∷ p) rest some low = elim (cases_lt o (suc s)) [
  | inl here ↦
      let n : o - s ≡ 0 = omega arith in
      let e : s + 0 ≡ s = omega arith in
      rw (le-leb o s (omega arith), n, e) refl
  | inr later ↦
      let n : o - s ≡ suc (o - suc s) = omega arith in
      let e : s + suc (o - suc s) ≡ suc s + (o - suc s) = omega arith in
      rw (lt-leb o s (omega arith), n, e) (from_within o l (suc s) p rest (omega arith) (omega arith))
]

-- the first segment behind an offset, and what follows it
record FirstFresh (o : ℕ) (e : ℕ × Segment) (es : List (ℕ × Segment)) : Type 0 where
  pub rest : List Kept
  pub waits : from_offset o (flat es) ≡ row e.1.lost (begin e + (o - begin e)) (drop (o - begin e) e.1.bytes) ++ rest

same_found : (x e : ℕ × Segment) → (let p : Option (ℕ × Segment) = Some x in p) ≡ Some e → x ≡ e
same_found x e q = cc

no_found : (x : ℕ × Segment) → (let p : Option (ℕ × Segment) = Some x in p) ≡ None → ⊥
no_found x q = cc

none_found : (x : ℕ × Segment) → (let p : Option (ℕ × Segment) = None in p) ≡ Some x → ⊥
none_found x q = cc

fresh_of : (o lo : ℕ) (e : ℕ × Segment) (es : List (ℕ × Segment)) → Apart lo es → first_behind o es ≡ Some e → FirstFresh o e es
unfolding Apart flat first_behind begin
fresh_of o lo e [] apart found = absurd (none_found e found)
fresh_of o lo e (x ∷ xs) apart found =
    let under : lo + length x.1.bytes ≤ x.0 = apart.1 in
    elim (cases_lt o x.0) [
      | inl less ↦
          let same = same_found x e (sym (behind_first o x xs less) ∙ found) in
          subst (λ (y : ℕ × Segment). FirstFresh o y (x ∷ xs)) same
          (record { rest = flat xs; waits = from_within o x.1.lost (begin x) x.1.bytes (flat xs) apart.0 (omega arith) })
      | inr more ↦
          let later = fresh_of o x.0 e xs apart.2 (sym (behind_next o x xs more) ∙ found) in
          record { rest = later.rest; waits = from_past o x.1.lost (begin x) x.1.bytes (flat xs) (omega arith) ∙ later.waits }
    ]

fresh_none : (o lo : ℕ) (es : List (ℕ × Segment)) → Apart lo es → first_behind o es ≡ None → from_offset o (flat es) ≡ []
unfolding Apart flat from_offset begin
fresh_none o lo [] apart none = refl
fresh_none o lo (x ∷ xs) apart none =
    let under : lo + length x.1.bytes ≤ x.0 = apart.1 in
    elim (cases_lt o x.0) [
      | inl less ↦ absurd (no_found x (sym (behind_first o x xs less) ∙ none))
      | inr more ↦ from_past o x.1.lost (begin x) x.1.bytes (flat xs) (omega arith) ∙ fresh_none o x.0 xs apart.2 (sym (behind_next o x xs more) ∙ none)
    ]

-- where no segment is lost, the one behind an offset isn't
fresh_not_lost : (o : ℕ) (e : ℕ × Segment) (es : List (ℕ × Segment)) → first_lost es ≡ None → first_behind o es ≡ Some e → e.1.lost ≡ false
unfolding first_lost first_behind
fresh_not_lost o e [] none found = absurd (none_found e found)
fresh_not_lost o e (x ∷ xs) none found = by (λ n f. fresh_not_lost o e xs n f) x.1.lost refl
  where
    by : (first_lost xs ≡ None → first_behind o xs ≡ Some e → e.1.lost ≡ false) → (t : Bool) → x.1.lost ≡ t → e.1.lost ≡ false
    by rest true is = absurd (no_end x.0 (ap (λ (t : Bool). cond t (Some x.0) (first_lost xs)) (sym is) ∙ none))
    by rest false is = elim (cases_lt o x.0) [
      | inl less ↦ ap (λ (y : ℕ × Segment). y.1.lost) (sym (same_found x e (sym (behind_first o x xs less) ∙ found))) ∙ is
      | inr more ↦ rest (ap (λ (t : Bool). cond t (Some x.0) (first_lost xs)) (sym is) ∙ none) (sym (behind_next o x xs more) ∙ found)
    ]

pub part_here : (o most end : ℕ) (s : Segment) (es : List (ℕ × Segment)) → first_behind o es ≡ Some (end, s)
    → part_from o most (first_behind o es) ≡ Some (end - length s.bytes + (o - (end - length s.bytes)), take most (drop (o - (end - length s.bytes)) s.bytes))
unfolding part_from begin
part_here o most end s es found = ap (λ (p : Option (ℕ × Segment)). part_from o most p) found

pub next_fresh : (written sent most : ℕ) (es : List (ℕ × Segment)) → Apart 0 es → first_lost es ≡ None
    → IsNext most (buffered written sent es) (part_from sent most (first_behind sent es))
unfolding buffered waiting part_from begin has_bytes
next_fresh written sent most es apart none =
    by (ap (λ (w : List Kept). cond (has_bytes w) w (from_offset sent (flat es))) (none_lost_bytes es none)) (first_behind sent es) refl
  where
    by : waiting (buffered written sent es) ≡ from_offset sent (flat es) → (f : Option (ℕ × Segment)) → first_behind sent es ≡ f → IsNext most (buffered written sent es) (part_from sent most f)
    by waits None found = next_none (buffered written sent es) most (waits ∙ fresh_none sent 0 es apart found)
    by waits (Some e) found =
        let first = fresh_of sent 0 e es apart found in
        let bounds = behind_bounds 0 sent e es apart found in
        let lost : has_bytes (from_lost (flat es)) ≡ false = ap has_bytes (none_lost_bytes es none) in
        let fresh : e.1.lost ≡ false = fresh_not_lost sent e es none found in
        let long : length (drop (sent - begin e) e.1.bytes) ≡ length e.1.bytes - (sent - begin e) = length-drop (sent - begin e) e.1.bytes in
        next_row (buffered written sent es) most (begin e + (sent - begin e)) false (drop (sent - begin e) e.1.bytes) first.rest
        (waits ∙ first.waits ∙ ap (λ (t : Bool). row t (begin e + (sent - begin e)) (drop (sent - begin e) e.1.bytes) ++ first.rest) fresh) lost (omega arith)

-- ---- no byte lies behind those that were written

pub lost_fits : (w most lo : ℕ) (es : List (ℕ × Segment)) → Apart lo es → EndBy w es → part_offset (lost_front most es) + length (part_bytes (lost_front most es)) ≤ w
unfolding Apart EndBy part_offset part_bytes lost_front begin
lost_fits w most lo [] apart by = omega arith
lost_fits w most lo (e ∷ es) apart all = by (lost_fits w most e.0 es apart.2 all.1) e.1.lost
  where
    by : part_offset (lost_front most es) + length (part_bytes (lost_front most es)) ≤ w → (t : Bool)
        → part_offset (cond t (Some (begin e, take most e.1.bytes)) (lost_front most es)) + length (part_bytes (cond t (Some (begin e, take most e.1.bytes)) (lost_front most es))) ≤ w
    by rest true =
        let low : e.0 ≤ w = all.0 in
        let under : lo + length e.1.bytes ≤ e.0 = apart.1 in
        let long : length (take most e.1.bytes) ≡ min most (length e.1.bytes) = length-take most e.1.bytes in
        omega arith
    by rest false = rest

end_of : (w o : ℕ) (e : ℕ × Segment) (es : List (ℕ × Segment)) → EndBy w es → first_behind o es ≡ Some e → e.0 ≤ w
unfolding EndBy first_behind
end_of w o e [] all found = absurd (none_found e found)
end_of w o e (x ∷ xs) all found = elim (cases_lt o x.0) [
  | inl less ↦ subst (λ (y : ℕ × Segment). y.0 ≤ w) (same_found x e (sym (behind_first o x xs less) ∙ found)) all.0
  | inr more ↦ end_of w o e xs all.1 (sym (behind_next o x xs more) ∙ found)
]

pub fresh_fits : (w o most : ℕ) (es : List (ℕ × Segment)) → Apart 0 es → EndBy w es
    → part_offset (part_from o most (first_behind o es)) + length (part_bytes (part_from o most (first_behind o es))) ≤ w
unfolding part_offset part_bytes part_from begin
fresh_fits w o most es apart all = by (first_behind o es) refl
  where
    by : (f : Option (ℕ × Segment)) → first_behind o es ≡ f → part_offset (part_from o most f) + length (part_bytes (part_from o most f)) ≤ w
    by None found = omega arith
    by (Some e) found =
        let bounds = behind_bounds 0 o e es apart found in
        let low : e.0 ≤ w = end_of w o e es all found in
        let long : length (take most (drop (o - begin e) e.1.bytes)) ≡ min most (length (drop (o - begin e) e.1.bytes)) = length-take most (drop (o - begin e) e.1.bytes) in
        let short : length (drop (o - begin e) e.1.bytes) ≡ length e.1.bytes - (o - begin e) = length-drop (o - begin e) e.1.bytes in
        omega (arith, bounds)

lost_is_some : (most : ℕ) (es : List (ℕ × Segment)) → is_some (lost_front most es) ≡ is_some (first_lost es)
unfolding lost_front first_lost
lost_is_some most [] = refl
lost_is_some most (e ∷ es) = by (lost_is_some most es) e.1.lost
  where
    by : is_some (lost_front most es) ≡ is_some (first_lost es) → (t : Bool)
        → is_some (cond t (Some (begin e, take most e.1.bytes)) (lost_front most es)) ≡ is_some (cond t (Some e.0) (first_lost es))
    by rest true = refl
    by rest false = rest

-- where a segment is lost, a byte waits
pub lost_waits : (written sent end : ℕ) (es : List (ℕ × Segment)) → Apart 0 es → first_lost es ≡ Some end
    → true ≡ has_bytes (waiting (buffered written sent es))
lost_waits written sent end es apart first =
    ap (λ (o : Option ℕ). is_some o) (sym first) ∙ sym (lost_is_some 0 es) ∙ (next_lost written sent 0 end es apart first).given

from_is_some : (o most : ℕ) (found : Option (ℕ × Segment)) → is_some (part_from o most found) ≡ is_some found
unfolding part_from
from_is_some o most None = refl
from_is_some o most (Some e) = refl

-- where none is, one waits where a segment lies behind what was sent
pub fresh_waits : (written sent : ℕ) (es : List (ℕ × Segment)) → Apart 0 es → first_lost es ≡ None
    → is_some (first_behind sent es) ≡ has_bytes (waiting (buffered written sent es))
fresh_waits written sent es apart none =
    sym (from_is_some sent 0 (first_behind sent es)) ∙ (next_fresh written sent 0 es apart none).given

-- a byte waits where one is fresh, and where one is lost
pub some_waits : (written sent : ℕ) (es : List (ℕ × Segment)) (o : Option ℕ) (b : Bool) → Apart 0 es → first_lost es ≡ o → is_some (first_behind sent es) ≡ b
    → cond b true (is_some o) ≡ has_bytes (waiting (buffered written sent es))
some_waits written sent es (Some end) true apart lost fresh = lost_waits written sent end es apart lost
some_waits written sent es (Some end) false apart lost fresh = lost_waits written sent end es apart lost
some_waits written sent es None true apart lost fresh = sym fresh ∙ fresh_waits written sent es apart lost
some_waits written sent es None false apart lost fresh = sym fresh ∙ fresh_waits written sent es apart lost

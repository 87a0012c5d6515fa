-- A range that is the front of the first segment is taken out: the segment becomes shorter
use Rattle.std.proofs.Common.{◌≡◌, ◌∙◌, ap, sym, ℕ, ◌+◌, ◌-◌, ◌<◌, ◌≤◌, List, [], ◌∷◌, length, take, drop, arith, refl, subst, Option, None, Some, length-drop}
use Rattle.std.specs.Prelude.{slice_get}
use Rattle.std.specs.Map.{lookup}
use Rattle.std.specs.BTreeMap.{is_at}
use Rattle.std.specs.Ordering.{nat_cmp}
use Rattle.qc_send_stream.specs.declared.segments.Segment.{Segment}
use Rattle.qc_send_stream.specs.Buffer.{Kept, without}
use Rattle.qc_send_stream.specs.Segments.{begin, flat, Apart, EndBy, CutAt, Listed, first_segment, IsFront, split, changed_at, without_front, Holds, outside}
use Rattle.qc_send_stream.proofs.Counting.{flat_size}
use Rattle.qc_send_stream.proofs.Cutting.{change_here, find_here, split_apart, split_cut, split_flat, split_here, split_keeps_cut, split_whole}
use Rattle.qc_send_stream.proofs.Ranges.{out_beyond, out_flat, out_high, out_yes}

-- what stands in front

pub first_at : (es : List (ℕ × Segment)) (p : ℕ × Segment) → slice_get es 0 ≡ Some p → first_segment es ≡ Some (p.0, length p.1.bytes)
unfolding first_segment
first_at [] p is = absurd (let no : ⊥ = cc in no)
first_at (e ∷ es) p is = ap (λ (q : ℕ × Segment). (let o : Option (ℕ × ℕ) = Some (q.0, length q.1.bytes) in o)) (entry_same e p is)
  where
    entry_same : (e p : ℕ × Segment) → (let o : Option (ℕ × Segment) = Some e in o) ≡ Some p → e ≡ p
    entry_same e p h = cc

pub first_absent : (es : List (ℕ × Segment)) → (0 < length es → ⊥) → first_segment es ≡ None
unfolding first_segment
first_absent [] none = refl
first_absent (e ∷ es) none = absurd (none (omega arith))

pub front_is : (start end at held : ℕ) (es : List (ℕ × Segment)) → first_segment es ≡ Some (at, held) → at - start ≡ held → start < end → end < at
    → IsFront start end at es
unfolding first_segment IsFront
front_is start end at held [] found size some within = absurd (let no : ⊥ = cc in no)
front_is start end at held (e ∷ es) found size some within =
    let same = pair_same (e.0, length e.1.bytes) (at, held) found in
    let same_at : e.0 ≡ at = ap (λ (p : ℕ × ℕ). p.0) same in
    let same_held : length e.1.bytes ≡ held = ap (λ (p : ℕ × ℕ). p.1) same in
    (sym same_at, omega (arith, size, same_held), some, within)
  where
    pair_same : (p q : ℕ × ℕ) → (let o : Option (ℕ × ℕ) = Some p in o) ≡ Some q → p ≡ q
    pair_same p q h = cc

pub front_some : (start end at : ℕ) (es : List (ℕ × Segment)) → IsFront start end at es → start < end
unfolding IsFront
front_some start end at [] front = absurd front
front_some start end at (e ∷ es) front = front.2

pub front_holds : (start end at : ℕ) (es : List (ℕ × Segment)) → IsFront start end at es → Holds (end - start) (lookup (is_at (nat_cmp at)) es)
unfolding IsFront Holds
front_holds start end at [] front = absurd front
front_holds start end at (e ∷ es) front =
    let size : start + length e.1.bytes ≡ at = front.1 in
    let within : end < at = front.3 in
    subst (λ (p : Option Segment). Holds (end - start) p) (sym (find_here at e es front.0)) (omega arith)

-- without the front the segments are those that are left where the range is cut out
pub front_taken : (start end at lo : ℕ) (es : List (ℕ × Segment)) → Apart lo es → IsFront start end at es
    → changed_at at (without_front (end - start)) es ≡ outside start end (split end (split start es))
unfolding Apart IsFront begin without_front
front_taken start end at lo [] apart front = absurd front
front_taken start end at lo (e ∷ es) apart front =
    let size : start + length e.1.bytes ≡ at = front.1 in
    let some : start < end = front.2 in
    let within : end < at = front.3 in
    let same : at ≡ e.0 = front.0 in
    let begins : e.0 - length e.1.bytes ≡ start = omega arith in
    let first : split start (e ∷ es) ≡ e ∷ es = split_whole start e es (omega arith) (omega arith) in
    let second = split_here end e es (omega arith) (omega arith) in
    let front_part : Segment = record { bytes = take (end - begin e) e.1.bytes; lost = e.1.lost } in
    let rest_part : Segment = record { bytes = drop (end - begin e) e.1.bytes; lost = e.1.lost } in
    change_here at (without_front (end - start)) e es same
    ∙ ap (λ (i : ℕ). (let s : Segment = record { bytes = drop (end - i) e.1.bytes; lost = e.1.lost } in (e.0, s) ∷ es)) (sym begins)
    ∙ ap (λ (l : List (ℕ × Segment)). (e.0, rest_part) ∷ l) (sym (out_beyond start end e.0 es apart.2 (omega arith) (omega arith)))
    ∙ sym (out_high start end (e.0, rest_part) es (omega arith) (omega arith))
    ∙ sym (out_yes start end (end, front_part) ((e.0, rest_part) ∷ es) some (omega arith))
    ∙ ap (λ (l : List (ℕ × Segment)). outside start end l) (sym second)
    ∙ ap (λ (l : List (ℕ × Segment)). outside start end (split end l)) (sym first)

-- the bytes that are left where a range is cut out
pub cut_gone : (start end : ℕ) (es : List (ℕ × Segment)) → Apart 0 es → flat (outside start end (split end (split start es))) ≡ without start end (flat es)
cut_gone start end es apart =
    let once = split_apart 0 start es apart in
    out_flat start end 0 (split end (split start es)) (split_apart 0 end (split start es) once)
    (split_keeps_cut 0 end start (split start es) once (split_cut 0 start es apart)) (split_cut 0 end (split start es) once)
    ∙ ap (λ (v : List Kept). without start end v) (split_flat 0 end (split start es) once ∙ split_flat 0 start es apart)

pub front_gone : (start end at : ℕ) (es : List (ℕ × Segment)) → Apart 0 es → IsFront start end at es
    → flat (changed_at at (without_front (end - start)) es) ≡ without start end (flat es)
front_gone start end at es apart front =
    ap (λ (l : List (ℕ × Segment)). flat l) (front_taken start end at 0 es apart front) ∙ cut_gone start end es apart

pub front_size : (start end at : ℕ) (es : List (ℕ × Segment)) → IsFront start end at es
    → (end - start) + length (flat (changed_at at (without_front (end - start)) es)) ≡ length (flat es)
unfolding IsFront without_front
front_size start end at [] front = absurd front
front_size start end at (e ∷ es) front =
    let size : start + length e.1.bytes ≡ at = front.1 in
    let within : end < at = front.3 in
    let s : Segment = record { bytes = drop (end - start) e.1.bytes; lost = e.1.lost } in
    let left : length (drop (end - start) e.1.bytes) ≡ length e.1.bytes - (end - start) = length-drop (end - start) e.1.bytes in
    ap (λ (l : List (ℕ × Segment)). (end - start) + length (flat l)) (change_here at (without_front (end - start)) e es front.0)
    ∙ omega (arith, flat_size (e.0, s) es, flat_size e es)

pub front_apart : (start end at lo : ℕ) (es : List (ℕ × Segment)) → Apart lo es → IsFront start end at es → Apart lo (changed_at at (without_front (end - start)) es)
unfolding Apart IsFront without_front
front_apart start end at lo [] apart front = absurd front
front_apart start end at lo (e ∷ es) apart front =
    let size : start + length e.1.bytes ≡ at = front.1 in
    let within : end < at = front.3 in
    let under : lo + length e.1.bytes ≤ e.0 = apart.1 in
    let left : length (drop (end - start) e.1.bytes) ≡ length e.1.bytes - (end - start) = length-drop (end - start) e.1.bytes in
    subst (λ (l : List (ℕ × Segment)). Apart lo l) (sym (change_here at (without_front (end - start)) e es front.0)) (omega arith, omega arith, apart.2)

pub front_end : (n start end at : ℕ) (es : List (ℕ × Segment)) → EndBy n es → IsFront start end at es → EndBy n (changed_at at (without_front (end - start)) es)
unfolding EndBy IsFront
front_end n start end at [] by front = absurd front
front_end n start end at (e ∷ es) by front =
    subst (λ (l : List (ℕ × Segment)). EndBy n l) (sym (change_here at (without_front (end - start)) e es front.0)) (by.0, by.1)

pub front_listed : (start end at : ℕ) (es : List (ℕ × Segment)) (ends : List ℕ) → Listed es ends → IsFront start end at es
    → Listed (changed_at at (without_front (end - start)) es) ends
unfolding Listed IsFront without_front
front_listed start end at [] ends listed front = absurd front
front_listed start end at (e ∷ es) ends listed front =
    subst (λ (l : List (ℕ × Segment)). Listed l ends) (sym (change_here at (without_front (end - start)) e es front.0)) (listed.0, listed.1)

-- How many bytes are kept
use Rattle.std.proofs.Common.{◌≡◌, ◌∙◌, ap, sym, ℕ, ◌+◌, ◌<◌, ◌≤◌, suc, List, [], ◌∷◌, ◌++◌, Bool, true, false, cond, length, arith, refl, subst, None, Some, length-append, take}
use Rattle.std.proofs.lemmas.List.{length-take-le}
use Rattle.std.specs.Map.{lookup, remove_entry}
use Rattle.std.specs.BTreeMap.{is_at, insert_entry}
use Rattle.std.specs.Ordering.{nat_cmp}
use Rattle.qc_send_stream.specs.declared.segments.Segment.{Segment}
use Rattle.qc_send_stream.specs.Buffer.{Kept, Buffer, row, marked, bytes_written}
use Rattle.qc_send_stream.specs.Segments.{begin, flat, Apart, CutAt, stood, IsSound}
use Rattle.qc_send_stream.proofs.Cutting.{same_segment}
use Rattle.qc_send_stream.proofs.Ranges.{stood_flat}
use Rattle.qc_send_stream.proofs.Buffering.{flat_append, insert_last, apart_last, end_last, listed_last}

length-row : (l : Bool) (o : ℕ) (bs : List ℕ) → length (row l o bs) ≡ length bs
unfolding row
length-row l o [] = refl
length-row l o (b ∷ bs) = ap (λ (n : ℕ). suc n) (length-row l (suc o) bs)

pub length-marked : (l : Bool) (start end : ℕ) (ks : List Kept) → length (marked l start end ks) ≡ length ks
unfolding marked
length-marked l start end [] = refl
length-marked l start end (k ∷ ks) = ap (λ (n : ℕ). suc n) (length-marked l start end ks)

pub flat_size : (e : ℕ × Segment) (es : List (ℕ × Segment)) → length (flat (e ∷ es)) ≡ length e.1.bytes + length (flat es)
unfolding flat
flat_size e es =
    length-append (row e.1.lost (begin e) e.1.bytes) (flat es) ∙ ap (λ (n : ℕ). n + length (flat es)) (length-row e.1.lost (begin e) e.1.bytes)

none_size : length (flat []) ≡ 0
unfolding flat
none_size = refl

some_without : (test : ℕ → Bool) (s : Segment) (es : List (ℕ × Segment)) → lookup test es ≡ Some s
    → length s.bytes + length (flat (remove_entry test es)) ≡ length (flat es)
some_without test s [] is = absurd (cc)
some_without test s (e ∷ es) is = by (some_without test s es) (test e.0) is
  where
    by : (lookup test es ≡ Some s → length s.bytes + length (flat (remove_entry test es)) ≡ length (flat es))
        → (t : Bool) → cond t (Some e.1) (lookup test es) ≡ Some s
        → length s.bytes + length (flat (cond t es (e ∷ remove_entry test es))) ≡ length (flat (e ∷ es))
    by rest true here = omega (arith, flat_size e es, ap (λ (x : Segment). length x.bytes) (same_segment e.1 s here))
    by rest false later = omega (arith, flat_size e es, flat_size e (remove_entry test es), rest later)

none_without : (test : ℕ → Bool) (es : List (ℕ × Segment)) → lookup test es ≡ None → 0 + length (flat (remove_entry test es)) ≡ length (flat es)
none_without test [] is = omega arith
none_without test (e ∷ es) is = by (none_without test es) (test e.0) is
  where
    by : (lookup test es ≡ None → 0 + length (flat (remove_entry test es)) ≡ length (flat es))
        → (t : Bool) → cond t (Some e.1) (lookup test es) ≡ None
        → 0 + length (flat (cond t es (e ∷ remove_entry test es))) ≡ length (flat (e ∷ es))
    by rest true here = absurd (cc)
    by rest false later = omega (arith, flat_size e es, flat_size e (remove_entry test es), rest later)

-- a segment that is taken out
pub taken_out : (k : ℕ) (s : Segment) (es : List (ℕ × Segment)) → lookup (is_at (nat_cmp k)) es ≡ Some s
    → length s.bytes + length (flat (remove_entry (is_at (nat_cmp k)) es)) ≡ length (flat es)
taken_out k s es is = some_without (is_at (nat_cmp k)) s es is

-- none is
pub none_out : (k : ℕ) (es : List (ℕ × Segment)) → lookup (is_at (nat_cmp k)) es ≡ None
    → 0 + length (flat (remove_entry (is_at (nat_cmp k)) es)) ≡ length (flat es)
none_out k es is = none_without (is_at (nat_cmp k)) es is

-- a segment behind all others
pub last_size : (k : ℕ) (s : Segment) (es : List (ℕ × Segment)) → length (flat (es ++ (k, s) ∷ [])) ≡ length (flat es) + length s.bytes
last_size k s es =
    let both : length (flat es ++ flat ((k, s) ∷ [])) ≡ length (flat es) + length (flat ((k, s) ∷ [])) = length-append (flat es) (flat ((k, s) ∷ [])) in
    ap (λ (v : List Kept). length v) (flat_append es ((k, s) ∷ [])) ∙ both ∙ omega (arith, flat_size (k, s) [], none_size)

-- segments that are marked
pub stood_size : (l : Bool) (start end : ℕ) (es : List (ℕ × Segment)) → Apart 0 es → CutAt start es → CutAt end es
    → length (flat (stood l start end es)) ≡ length (flat es)
stood_size l start end es apart first last =
    ap (λ (v : List Kept). length v) (stood_flat l start end 0 es apart first last) ∙ length-marked l start end (flat es)

-- bytes that are written
pub written_size : (bs : List ℕ) (b : Buffer) → length (bytes_written bs b).kept ≡ length b.kept + length bs
unfolding bytes_written
written_size bs b =
    let both : length (b.kept ++ row false b.written bs) ≡ length b.kept + length (row false b.written bs) = length-append b.kept (row false b.written bs) in
    both ∙ ap (λ (n : ℕ). length b.kept + n) (length-row false b.written bs)

-- a part that is written
pub part_more : (n : ℕ) (bs : List ℕ) (b b' : Buffer) → n ≤ length bs → b' ≡ bytes_written (take n bs) b → length b'.kept ≡ length b.kept + n
part_more n bs b b' within is =
    ap (λ (x : Buffer). length x.kept) is ∙ written_size (take n bs) b ∙ ap (λ (i : ℕ). length b.kept + i) (length-take-le n bs within)

-- what a write keeps
pub written_sound : (w sent gone : ℕ) (bs : List ℕ) (es : List (ℕ × Segment)) (ends : List ℕ) → IsSound w sent gone es ends → 0 < length bs
    → IsSound (w + length bs) sent gone (insert_entry nat_cmp es (w + length bs) (record { bytes = bs; lost = false })) ends
written_sound w sent gone bs es ends sound some =
    let s : Segment = record { bytes = bs; lost = false } in
    subst (λ (l : List (ℕ × Segment)). IsSound (w + length bs) sent gone l ends) (sym (insert_last w (length bs) s es sound.below some))
    (record {
      apart = apart_last 0 w (length bs) s es sound.apart sound.below (omega arith) some refl;
      below = end_last w (length bs) s es sound.below;
      listed = listed_last (w + length bs) s es ends sound.listed refl;
      counted = omega (arith, sound.counted, last_size (w + length bs) s es);
    })

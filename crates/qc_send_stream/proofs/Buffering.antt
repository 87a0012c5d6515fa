-- What is written, and what is kept of it
use Rattle.std.proofs.Common.{◌≡◌, ◌∙◌, ap, sym, ℕ, ◌+◌, ◌-◌, ◌<◌, ◌≤◌, suc, List, [], ◌∷◌, ◌++◌, Bool, true, false, not, cond, length, arith, refl, subst, append_assoc}
use Rattle.std.proofs.lemmas.Bool.{false≢true}
use Rattle.std.specs.Prelude.{min}
use Rattle.std.specs.BTreeMap.{insert_entry}
use Rattle.std.specs.Ordering.{nat_cmp}
use Rattle.qc_send_stream.specs.declared.segments.Segment.{Segment}
use Rattle.qc_send_stream.specs.Buffer.{Kept, Buffer, row, lies_in, marked, without, has_bytes, bytes_written, range_acked, range_lost, range_sealed, sent_with}
use Rattle.qc_send_stream.specs.Segments.{begin, flat, Apart, EndBy, CutAt, Listed, among, buffered, stood}
use Rattle.qc_send_stream.proofs.Cutting.{insert_more}
use Rattle.qc_send_stream.proofs.Ranges.{stood_flat}

-- ---- bytes behind all others

pub insert_last : (w n : ℕ) (s : Segment) (es : List (ℕ × Segment)) → EndBy w es → 0 < n → insert_entry nat_cmp es (w + n) s ≡ es ++ (w + n, s) ∷ []
unfolding EndBy
insert_last w n s [] by some = refl
insert_last w n s (e ∷ es) by some =
    let low : e.0 ≤ w = by.0 in
    insert_more (w + n) s e es (omega arith) ∙ ap (λ (l : List (ℕ × Segment)). e ∷ l) (insert_last w n s es by.1 some)

pub flat_append : (es fs : List (ℕ × Segment)) → flat (es ++ fs) ≡ flat es ++ flat fs
unfolding flat
flat_append [] fs = refl
flat_append (e ∷ es) fs =
    ap (λ (w : List Kept). row e.1.lost (begin e) e.1.bytes ++ w) (flat_append es fs) ∙ sym (append_assoc (row e.1.lost (begin e) e.1.bytes) (flat es) (flat fs))

append_none : (v : List Kept) → v ++ [] ≡ v
append_none [] = refl
append_none (k ∷ v) = ap (λ (l : List Kept). k ∷ l) (append_none v)

pub apart_last : (lo w n : ℕ) (s : Segment) (es : List (ℕ × Segment)) → Apart lo es → EndBy w es → lo ≤ w → 0 < n → length s.bytes ≡ n → Apart lo (es ++ (w + n, s) ∷ [])
unfolding Apart EndBy
apart_last lo w n s [] apart by low some long = (omega arith, omega arith, tt)
apart_last lo w n s (e ∷ es) apart by low some long = (apart.0, apart.1, apart_last e.0 w n s es apart.2 by.1 by.0 some long)

pub end_last : (w n : ℕ) (s : Segment) (es : List (ℕ × Segment)) → EndBy w es → EndBy (w + n) (es ++ (w + n, s) ∷ [])
unfolding EndBy
end_last w n s [] by = (omega arith, tt)
end_last w n s (e ∷ es) by = (omega (arith, by.0), end_last w n s es by.1)

pub listed_last : (k : ℕ) (s : Segment) (es : List (ℕ × Segment)) (ends : List ℕ) → Listed es ends → s.lost ≡ false → Listed (es ++ (k, s) ∷ []) ends
unfolding Listed
listed_last k s [] ends listed fresh = ((λ q. absurd (false≢true (sym fresh ∙ q))), tt)
listed_last k s (e ∷ es) ends listed fresh = (listed.0, listed_last k s es ends listed.1 fresh)

pub written_bytes : (w sent : ℕ) (bs : List ℕ) (es : List (ℕ × Segment)) → EndBy w es → 0 < length bs
    → buffered (w + length bs) sent (insert_entry nat_cmp es (w + length bs) (record { bytes = bs; lost = false })) ≡ bytes_written bs (buffered w sent es)
unfolding buffered bytes_written flat begin
written_bytes w sent bs es by some =
    let s : Segment = record { bytes = bs; lost = false } in
    let start : w + length bs - length bs ≡ w = omega arith in
    ap (λ (v : List Kept). (let b : Buffer = record { written = w + length bs; sent = sent; kept = v } in b))
    (ap flat (insert_last w (length bs) s es by some) ∙ flat_append es ((w + length bs, s) ∷ [])
    ∙ ap (λ (i : ℕ). flat es ++ (row false i bs ++ [])) start
    ∙ ap (λ (v : List Kept). flat es ++ v) (append_none (row false w bs)))

pub written_none : (bs : List ℕ) (b : Buffer) → length bs ≡ 0 → b ≡ bytes_written bs b
unfolding bytes_written row
written_none [] b none =
    let e : b.written ≡ b.written + 0 = omega arith in
    ap (λ (i : ℕ). (let x : Buffer = record b { written = i } in x)) e
    ∙ ap (λ (v : List Kept). (let x : Buffer = record b { written = b.written + 0; kept = v } in x)) (sym (append_none b.kept))
written_none (q ∷ bs) b none = absurd (omega arith)

-- ---- bytes that are kept

has_row : (l : Bool) (s : ℕ) (p : List ℕ) (rest : List Kept) → 0 < length p → has_bytes (row l s p ++ rest) ≡ true
unfolding row has_bytes
has_row l s [] rest some = absurd (omega arith)
has_row l s (q ∷ p) rest some = refl

pub empty_is : (r : Bool) (es : List (ℕ × Segment)) → Apart 0 es → (r ≡ true → length es ≡ 0) → (length es ≡ 0 → r ≡ true) → r ≡ not (has_bytes (flat es))
unfolding Apart flat has_bytes
empty_is r [] apart to from = from refl
empty_is true (e ∷ es) apart to from = absurd (let none : suc (length es) ≡ 0 = to refl in omega arith)
empty_is false (e ∷ es) apart to from = ap not (sym (has_row e.1.lost (begin e) e.1.bytes (flat es) apart.0))

-- ---- ranges

unmark_row : (start end s : ℕ) (p : List ℕ) (rest : List Kept) → marked false start end (row false s p ++ rest) ≡ row false s p ++ marked false start end rest
unfolding row marked
unmark_row start end s [] rest = refl
unmark_row start end s (q ∷ p) rest =
    let k : Kept = record { offset = s; byte = q; lost = false } in
    ap (λ (x : Kept). (let l : List Kept = x ∷ marked false start end (row false (suc s) p ++ rest) in l)) (same (lies_in start end k) k)
    ∙ ap (λ (w : List Kept). (let l : List Kept = record { offset = s; byte = q; lost = false } ∷ w in l)) (unmark_row start end (suc s) p rest)
  where
    same : (t : Bool) (k : Kept) → cond t k k ≡ k
    same true k = refl
    same false k = refl

-- where no segment is lost, no byte is
pub unmark_none : (start end : ℕ) (es : List (ℕ × Segment)) (ends : List ℕ) → Listed es ends → length ends ≡ 0 → flat es ≡ marked false start end (flat es)
unfolding Listed among flat marked
unmark_none start end [] ends listed none = refl
unmark_none start end (e ∷ es) (x ∷ ends) listed none = absurd (omega arith)
unmark_none start end (e ∷ es) [] listed none = by (unmark_none start end es [] listed.1 none) e.1.lost refl
  where
    by : flat es ≡ marked false start end (flat es) → (t : Bool) → e.1.lost ≡ t
        → row e.1.lost (begin e) e.1.bytes ++ flat es ≡ marked false start end (row e.1.lost (begin e) e.1.bytes ++ flat es)
    by rest true is = absurd (false≢true (listed.0 is))
    by rest false is =
        subst (λ (t : Bool). row t (begin e) e.1.bytes ++ flat es ≡ marked false start end (row t (begin e) e.1.bytes ++ flat es)) (sym is)
        (ap (λ (w : List Kept). row false (begin e) e.1.bytes ++ w) rest ∙ sym (unmark_row start end (begin e) e.1.bytes (flat es)))

pub acked_bytes : (written sent start last : ℕ) (old new : List (ℕ × Segment)) (end : ℕ) → last ≡ min end sent → flat new ≡ without start last (flat old)
    → buffered written sent new ≡ range_acked start end (buffered written sent old)
unfolding buffered range_acked
acked_bytes written sent start last old new end cut gone =
    ap (λ (v : List Kept). (let b : Buffer = record { written = written; sent = sent; kept = v } in b))
    (gone ∙ ap (λ (i : ℕ). without start i (flat old)) cut)

pub lost_bytes : (written sent start : ℕ) (old cut : List (ℕ × Segment)) (end : ℕ) → Apart 0 cut → CutAt start cut → CutAt (min end sent) cut → flat cut ≡ flat old
    → buffered written sent (stood true start (min end sent) cut) ≡ range_lost start end (buffered written sent old)
unfolding buffered range_lost
lost_bytes written sent start old cut end apart first last same =
    ap (λ (v : List Kept). (let b : Buffer = record { written = written; sent = sent; kept = v } in b))
    (stood_flat true start (min end sent) 0 cut apart first last ∙ ap (λ (v : List Kept). marked true start (min end sent) v) same)

pub same_bytes : (written sent : ℕ) (old new : List (ℕ × Segment)) → flat new ≡ flat old → buffered written sent new ≡ buffered written sent old
unfolding buffered
same_bytes written sent old new same = ap (λ (v : List Kept). (let b : Buffer = record { written = written; sent = sent; kept = v } in b)) same

pub sealed_bytes : (written sent now start end : ℕ) (old new : List (ℕ × Segment)) → now ≡ sent_with start end sent written → flat new ≡ marked false start end (flat old)
    → buffered written now new ≡ range_sealed start end (buffered written sent old)
unfolding buffered range_sealed
sealed_bytes written sent now start end old new count same =
    ap (λ (v : List Kept). (let b : Buffer = record { written = written; sent = now; kept = v } in b)) same
    ∙ ap (λ (i : ℕ). (let b : Buffer = record { written = written; sent = i; kept = marked false start end (flat old) } in b)) count

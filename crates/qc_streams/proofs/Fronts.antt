-- Chunks whose bytes are taken one after the other
use Rattle.std.proofs.Common.{◌≡◌, ◌∙◌, ℕ, zero, suc, ◌+◌, ◌-◌, ◌<◌, ◌≤◌, min, Bool, true, false, cond, nat_le, List, [], ◌∷◌, ◌++◌, length, take, drop, map, None, Some, get_or, set, ap, sym, subst, arith, refl, append-nil, append_assoc, length-append}
use Rattle.std.specs.List.{concat}
use Rattle.std.proofs.lemmas.Bool.Decides.{nat_tests}
use Rattle.std.proofs.lemmas.List.{drop_all, drop_more, get_or-append_right, get_or-drop, get_or_default, length-drop, length-map, length-take-le, map_more, set_at, take-append-drop, take-append-le, take_all, take_more, take_at}
use Rattle.std.proofs.lemmas.List.Folds.{concat-append}
use Rattle.qc_send_stream.specs.declared.send.SendPart.{SendPart}
use Rattle.qc_send_stream.specs.Sending.{part_written, takes}
use Rattle.qc_send_stream.specs.Buffer.{Buffer, Kept, bytes_written, row}
use Rattle.qc_streams.specs.Calls.{count_taken}
use Rattle.qc_streams.specs.Chunks.{Chunks, cut_front, whole_in}

-- chunks that are taken whole
abbrev pub emptied : Chunks → Chunks
emptied cs = map (λ (c : List ℕ). (let none : List ℕ = [] in none)) cs

-- how many bytes the first chunks have
abbrev pub before : ℕ → Chunks → ℕ
before at cs = length (concat (take at cs))

cut_none : (cs : Chunks) → cut_front 0 cs ≡ cs
unfolding cut_front
cut_none [] = refl
cut_none (c ∷ cs) =
    let none : 0 - length c ≡ 0 = omega arith in
    ap (λ (n : ℕ). c ∷ cut_front n cs) none ∙ ap (λ (l : Chunks). c ∷ l) (cut_none cs)

cut_past : (done rest : Chunks) (n : ℕ) → cut_front (length (concat done) + n) (done ++ rest) ≡ emptied done ++ cut_front n rest
unfolding cut_front
cut_past [] rest n =
    let none : 0 + n ≡ n = omega arith in
    ap (λ (k : ℕ). cut_front k rest) none
cut_past (c ∷ done) rest n =
    let long : length (c ++ concat done) ≡ length c + length (concat done) = length-append c (concat done) in
    let left : length (c ++ concat done) + n - length c ≡ length (concat done) + n = omega (arith, long) in
    ap (λ (l : List ℕ). l ∷ cut_front (length (c ++ concat done) + n - length c) (done ++ rest))
    (drop_all (length (c ++ concat done) + n) c (omega (arith, long)))
    ∙ ap (λ (k : ℕ). (let none : List ℕ = [] in none) ∷ cut_front k (done ++ rest)) left
    ∙ ap (λ (l : Chunks). (let none : List ℕ = [] in none) ∷ l) (cut_past done rest n)

if_true : (b : Bool) (m n : ℕ) → b ≡ true → cond b m n ≡ m
if_true true m n is = refl
if_true false m n is = absurd (cc)

whole_past : (done rest : Chunks) (n : ℕ) → whole_in (length (concat done) + n) (done ++ rest) ≡ length done + whole_in n rest
unfolding whole_in
whole_past [] rest n =
    let none : 0 + n ≡ n = omega arith in
    let more : whole_in n rest ≡ 0 + whole_in n rest = omega arith in
    ap (λ (k : ℕ). whole_in k rest) none ∙ more
whole_past (c ∷ done) rest n =
    let long : length (c ++ concat done) ≡ length c + length (concat done) = length-append c (concat done) in
    let left : length (c ++ concat done) + n - length c ≡ length (concat done) + n = omega (arith, long) in
    let fits : nat_le (length c) (length (c ++ concat done) + n) ≡ true = grind (arith, nat_tests, long) in
    let more : suc (length done + whole_in n rest) ≡ suc (length done) + whole_in n rest = omega arith in
    if_true (nat_le (length c) (length (c ++ concat done) + n)) (suc (whole_in (length (c ++ concat done) + n - length c) (done ++ rest))) 0 fits
    ∙ ap (λ (k : ℕ). suc (whole_in k (done ++ rest))) left
    ∙ ap (λ (k : ℕ). suc k) (whole_past done rest n)
    ∙ more

take_past : (p q : List ℕ) (n : ℕ) → take (length p + n) (p ++ q) ≡ p ++ take n q
take_past [] q n =
    let none : 0 + n ≡ n = omega arith in
    ap (λ (k : ℕ). take k q) none
take_past (x ∷ p) q n =
    let next : suc (length p) + n ≡ suc (length p + n) = omega arith in
    ap (λ (k : ℕ). take k (x ∷ (p ++ q))) next ∙ ap (λ (l : List ℕ). x ∷ l) (take_past p q n)

-- writing twice
row_past : (lost : Bool) (o : ℕ) (p q : List ℕ) → row lost o (p ++ q) ≡ row lost o p ++ row lost (o + length p) q
unfolding row
row_past lost o [] q =
    let none : o ≡ o + 0 = omega arith in
    ap (λ (i : ℕ). row lost i q) none
row_past lost o (x ∷ p) q =
    let next : suc o + length p ≡ o + suc (length p) = omega arith in
    ap (λ (l : List Kept). record { offset = o; byte = x; lost = lost } ∷ l)
    (row_past lost (suc o) p q ∙ ap (λ (i : ℕ). row lost (suc o) p ++ row lost i q) next)

pub twice : (p q : List ℕ) (b : Buffer) → bytes_written q (bytes_written p b) ≡ bytes_written (p ++ q) b
unfolding bytes_written
twice p q b =
    let long : b.written + length p + length q ≡ b.written + length (p ++ q) = omega (arith, length-append p q) in
    ap (λ (i : ℕ). (let x : Buffer = record b { written = i; kept = (b.kept ++ row false b.written p) ++ row false (b.written + length p) q } in x)) long
    ∙ ap (λ (l : List Kept). (let x : Buffer = record b { written = b.written + length (p ++ q); kept = l } in x))
    (append_assoc b.kept (row false b.written p) (row false (b.written + length p) q) ∙ ap (λ (l : List Kept). b.kept ++ l) (sym (row_past false b.written p q)))

-- ---- one chunk after the other: those below `at` are taken whole

split : (old : Chunks) (at : ℕ) → take at old ++ drop at old ≡ old
split old at = take-append-drop at old

long : (old : Chunks) (at : ℕ) → at ≤ length old → length (emptied (take at old)) ≡ at
long old at within = length-map (take at old) (λ (c : List ℕ). (let none : List ℕ = [] in none)) ∙ length-take-le at old within

-- the next chunk is as it was
pub read_next : (old now : Chunks) (at : ℕ) (d : List ℕ) → at < length old → now ≡ emptied (take at old) ++ drop at old
    → get_or now at d ≡ get_or old at d
read_next old now at d more is =
    let same : at + 0 ≡ at = omega arith in
    let none : at - at ≡ 0 = omega arith in
    ap (λ (l : Chunks). get_or l at d) is
    ∙ get_or-append_right (emptied (take at old)) (drop at old) at at d (long old at (omega (arith, more))) (omega arith)
    ∙ ap (λ (i : ℕ). get_or (drop at old) i d) none
    ∙ get_or-drop at old 0 d
    ∙ ap (λ (i : ℕ). get_or old i d) same

-- it is cut
pub cut_next : (old now : Chunks) (at : ℕ) (x : List ℕ) → at < length old → now ≡ emptied (take at old) ++ drop at old
    → set now at x ≡ emptied (take at old) ++ x ∷ drop (at + 1) old
cut_next old now at x more is =
    ap (λ (l : Chunks). set l at x) (is ∙ ap (λ (l : Chunks). emptied (take at old) ++ l) (drop_more old at x more))
    ∙ set_at (emptied (take at old)) (get_or old at x) (drop (at + 1) old) x at (long old at (omega (arith, more)))

-- it is cut whole
pub all_next : (old : Chunks) (at : ℕ) (x : List ℕ) → at < length old → x ≡ []
    → emptied (take at old) ++ x ∷ drop (at + 1) old ≡ emptied (take (at + 1) old) ++ drop (at + 1) old
all_next old at x more none =
    let one : Chunks = [] in
    ap (λ (c : List ℕ). emptied (take at old) ++ c ∷ drop (at + 1) old) none
    ∙ sym (append_assoc (emptied (take at old)) ((let c : List ℕ = [] in c) ∷ one) (drop (at + 1) old))
    ∙ ap (λ (l : Chunks). l ++ drop (at + 1) old) (sym (map_more (λ (c : List ℕ). (let e : List ℕ = [] in e)) old at x more))

concat_one : (c : List ℕ) → concat (c ∷ []) ≡ c
concat_one c = append-nil c

pub concat_next : (old : Chunks) (at : ℕ) (d : List ℕ) → at < length old → concat (take (at + 1) old) ≡ concat (take at old) ++ get_or old at d
concat_next old at d more =
    ap concat (take_more old at d more) ∙ concat-append (take at old) (get_or old at d ∷ [])
    ∙ ap (λ (l : List ℕ). concat (take at old) ++ l) (concat_one (get_or old at d))

pub before_next : (old : Chunks) (at : ℕ) (d : List ℕ) → at < length old → before (at + 1) old ≡ before at old + length (get_or old at d)
before_next old at d more =
    ap (λ (l : List ℕ). length l) (concat_next old at d more) ∙ length-append (concat (take at old)) (get_or old at d)

concat_split : (old : Chunks) (at : ℕ) → concat old ≡ concat (take at old) ++ concat (drop at old)
concat_split old at = ap concat (sym (split old at)) ∙ concat-append (take at old) (drop at old)

pub before_all : (old : Chunks) (at : ℕ) → before at old ≤ length (concat old)
before_all old at =
    omega (arith, ap (λ (l : List ℕ). length l) (concat_split old at), length-append (concat (take at old)) (concat (drop at old)))

-- ---- so many bytes of the next chunk are taken, and no more

take_in : (old : Chunks) (at n : ℕ) (d : List ℕ) → at < length old → n ≤ length (get_or old at d)
    → take (before at old + n) (concat old) ≡ concat (take at old) ++ take n (get_or old at d)
take_in old at n d more fits =
    ap (λ (l : List ℕ). take (before at old + n) l) (concat_split old at)
    ∙ take_past (concat (take at old)) (concat (drop at old)) n
    ∙ ap (λ (l : Chunks). concat (take at old) ++ take n (concat l)) (drop_more old at d more)
    ∙ ap (λ (l : List ℕ). concat (take at old) ++ l) (take-append-le n (get_or old at d) (concat (drop (at + 1) old)) fits)

pub cut_in : (old : Chunks) (at n : ℕ) (d : List ℕ) → at < length old → n ≤ length (get_or old at d)
    → cut_front (before at old + n) old ≡ emptied (take at old) ++ drop n (get_or old at d) ∷ drop (at + 1) old
unfolding cut_front
cut_in old at n d more fits =
    let none : n - length (get_or old at d) ≡ 0 = omega (arith, fits) in
    ap (λ (l : Chunks). cut_front (before at old + n) l) (sym (split old at))
    ∙ cut_past (take at old) (drop at old) n
    ∙ ap (λ (l : Chunks). emptied (take at old) ++ cut_front n l) (drop_more old at d more)
    ∙ ap (λ (k : ℕ). emptied (take at old) ++ drop n (get_or old at d) ∷ cut_front k (drop (at + 1) old)) none
    ∙ ap (λ (l : Chunks). emptied (take at old) ++ drop n (get_or old at d) ∷ l) (cut_none (drop (at + 1) old))

if_false : (b : Bool) (m n : ℕ) → b ≡ false → cond b m n ≡ n
if_false true m n is = absurd (cc)
if_false false m n is = refl

pub whole_of : (old : Chunks) (at n : ℕ) (d : List ℕ) → at < length old → n < length (get_or old at d) → whole_in (before at old + n) old ≡ at
unfolding whole_in
whole_of old at n d more part =
    let lacks : nat_le (length (get_or old at d)) n ≡ false = grind (arith, nat_tests, part) in
    let same : length (take at old) + 0 ≡ at = omega (arith, length-take-le at old (omega (arith, more))) in
    ap (λ (l : Chunks). whole_in (before at old + n) l) (sym (split old at))
    ∙ whole_past (take at old) (drop at old) n
    ∙ ap (λ (l : Chunks). length (take at old) + whole_in n l) (drop_more old at d more)
    ∙ ap (λ (k : ℕ). length (take at old) + k)
    (if_false (nat_le (length (get_or old at d)) n) (suc (whole_in (n - length (get_or old at d)) (drop (at + 1) old))) 0 lacks)
    ∙ same

pub cut_at : (old : Chunks) (at : ℕ) → cut_front (before at old) old ≡ emptied (take at old) ++ drop at old
cut_at old at =
    let same : before at old ≡ before at old + 0 = omega arith in
    ap (λ (n : ℕ). cut_front n old) same
    ∙ ap (λ (l : Chunks). cut_front (before at old + 0) l) (sym (split old at))
    ∙ cut_past (take at old) (drop at old) 0
    ∙ ap (λ (l : Chunks). emptied (take at old) ++ l) (cut_none (drop at old))

pub take_front : (old : Chunks) (at : ℕ) → take (before at old) (concat old) ≡ concat (take at old)
take_front old at =
    ap (λ (l : List ℕ). take (before at old) l) (concat_split old at) ∙ take_at (concat (take at old)) (concat (drop at old)) (before at old) refl

-- ---- all chunks are taken whole

pub before_end : (old : Chunks) (at : ℕ) → length old ≤ at → before at old ≡ length (concat old)
before_end old at all = ap (λ (l : Chunks). length (concat l)) (take_all at old all)

pub whole_all : (old : Chunks) → whole_in (length (concat old)) old ≡ length old
unfolding whole_in
whole_all old =
    let same : length (concat old) ≡ length (concat old) + 0 = omega arith in
    let count : length old + 0 ≡ length old = omega arith in
    let none : Chunks = [] in
    ap (λ (n : ℕ). whole_in n old) same
    ∙ ap (λ (l : Chunks). whole_in (length (concat old) + 0) l) (sym (append-nil old))
    ∙ whole_past old none 0
    ∙ count

pub same_length : (old now : Chunks) (at : ℕ) → at ≤ length old → now ≡ emptied (take at old) ++ drop at old → length now ≡ length old
same_length old now at within is =
    let two : length (emptied (take at old) ++ drop at old) ≡ length (emptied (take at old)) + length (drop at old) =
    length-append (emptied (take at old)) (drop at old) in
    omega (arith, ap (λ (l : Chunks). length l) is, two, long old at within, length-drop at old)

pub wrote_none : (b : Buffer) → b ≡ bytes_written [] b
unfolding bytes_written row
wrote_none b =
    let none : b.written ≡ b.written + 0 = omega arith in
    ap (λ (i : ℕ). (let x : Buffer = record b { written = i } in x)) none
    ∙ ap (λ (l : List Kept). (let x : Buffer = record b { written = b.written + 0; kept = l } in x)) (sym (append-nil b.kept))

-- ---- so many bytes of the chunk at `at` are taken

pub there_in : (old now : Chunks) (at count n : ℕ) (d : List ℕ) → at < length old → now ≡ emptied (take at old) ++ drop at old → count ≡ before at old
    → n ≤ length (get_or now at d) → count + n ≤ length (concat old)
there_in old now at count n d more is begin fits =
    omega (
      arith,
      begin,
      fits,
      ap (λ (l : List ℕ). length l) (read_next old now at d more is),
      before_next old at d more,
      before_all old (at + 1),
    )

fits_in : (old now : Chunks) (at n : ℕ) (d : List ℕ) → at < length old → now ≡ emptied (take at old) ++ drop at old → n ≤ length (get_or now at d)
    → n ≤ length (get_or old at d)
fits_in old now at n d more is fits = subst (λ (c : List ℕ). n ≤ length c) (read_next old now at d more is) fits

pub rest_in : (old now : Chunks) (at count n : ℕ) (x d : List ℕ) → at < length old → now ≡ emptied (take at old) ++ drop at old → count ≡ before at old
    → n ≤ length (get_or now at d) → x ≡ drop n (get_or now at d) → set now at x ≡ cut_front (count + n) old
rest_in old now at count n x d more is begin fits cut =
    cut_next old now at x more is
    ∙ ap (λ (c : List ℕ). emptied (take at old) ++ c ∷ drop (at + 1) old) (cut ∙ ap (λ (c : List ℕ). drop n c) (read_next old now at d more is))
    ∙ sym (cut_in old at n d more (fits_in old now at n d more is fits))
    ∙ ap (λ (k : ℕ). cut_front (k + n) old) (sym begin)

pub written_in : (old now : Chunks) (at count n : ℕ) (d : List ℕ) (b b' first : Buffer) → at < length old → now ≡ emptied (take at old) ++ drop at old
    → count ≡ before at old → n ≤ length (get_or now at d) → b ≡ bytes_written (concat (take at old)) first
    → b' ≡ bytes_written (take n (get_or now at d)) b → b' ≡ bytes_written (take (count + n) (concat old)) first
written_in old now at count n d b b' first more is begin fits was then =
    then
    ∙ ap (λ (x : Buffer). bytes_written (take n (get_or now at d)) x) was
    ∙ twice (concat (take at old)) (take n (get_or now at d)) first
    ∙ ap (λ (l : List ℕ). bytes_written l first)
    (ap (λ (c : List ℕ). concat (take at old) ++ take n c) (read_next old now at d more is)
    ∙ sym (take_in old at n d more (fits_in old now at n d more is fits))
    ∙ ap (λ (k : ℕ). take (k + n) (concat old)) (sym begin))

pub whole_at : (old now : Chunks) (at count n : ℕ) (d : List ℕ) → at < length old → now ≡ emptied (take at old) ++ drop at old → count ≡ before at old
    → n < length (get_or now at d) → at ≡ whole_in (count + n) old
whole_at old now at count n d more is begin part =
    sym (whole_of old at n d more (subst (λ (c : List ℕ). n < length c) (read_next old now at d more is) part))
    ∙ ap (λ (k : ℕ). whole_in (k + n) old) (sym begin)

-- ---- the chunk at `at` is taken whole

pub count_next : (old now : Chunks) (at count n : ℕ) (d : List ℕ) → at < length old → now ≡ emptied (take at old) ++ drop at old → count ≡ before at old
    → n ≡ length (get_or now at d) → count + n ≡ before (at + 1) old
count_next old now at count n d more is begin all =
    omega (arith, begin, all, ap (λ (l : List ℕ). length l) (read_next old now at d more is), before_next old at d more)

pub chunks_next : (old now : Chunks) (at n : ℕ) (x d : List ℕ) → at < length old → now ≡ emptied (take at old) ++ drop at old
    → n ≡ length (get_or now at d) → x ≡ drop n (get_or now at d) → set now at x ≡ emptied (take (at + 1) old) ++ drop (at + 1) old
chunks_next old now at n x d more is all cut =
    cut_next old now at x more is ∙ all_next old at x more (cut ∙ drop_all n (get_or now at d) (omega (arith, all)))

pub written_next : (old now : Chunks) (at n : ℕ) (d : List ℕ) (b b' first : Buffer) → at < length old → now ≡ emptied (take at old) ++ drop at old
    → n ≡ length (get_or now at d) → b ≡ bytes_written (concat (take at old)) first
    → b' ≡ bytes_written (take n (get_or now at d)) b → b' ≡ bytes_written (concat (take (at + 1) old)) first
written_next old now at n d b b' first more is all was then =
    then
    ∙ ap (λ (x : Buffer). bytes_written (take n (get_or now at d)) x) was
    ∙ twice (concat (take at old)) (take n (get_or now at d)) first
    ∙ ap (λ (l : List ℕ). bytes_written l first)
    (ap (λ (l : List ℕ). concat (take at old) ++ l) (take_all n (get_or now at d) (omega (arith, all)) ∙ read_next old now at d more is)
    ∙ sym (concat_next old at d more))

-- ---- nothing of it is taken

pub rest_same : (old now : Chunks) (at count : ℕ) (x d : List ℕ) → at < length old → now ≡ emptied (take at old) ++ drop at old → count ≡ before at old
    → x ≡ get_or now at d → set now at x ≡ cut_front count old
rest_same old now at count x d more is begin same =
    rest_in old now at count 0 x d more is begin (omega arith) same ∙ (let none : count + 0 ≡ count = omega arith in ap (λ (k : ℕ). cut_front k old) none)

pub written_same : (old : Chunks) (at count : ℕ) (b b' first : Buffer) → count ≡ before at old → b ≡ bytes_written (concat (take at old)) first → b' ≡ b
    → b' ≡ bytes_written (take count (concat old)) first
written_same old at count b b' first begin was same =
    same ∙ was ∙ ap (λ (l : List ℕ). bytes_written l first) (sym (take_front old at) ∙ ap (λ (k : ℕ). take k (concat old)) (sym begin))

-- ---- how many bytes of it are taken

pub fits_next : (now : Chunks) (at len n left : ℕ) (d e : List ℕ) → at < length now → len ≡ length (get_or now at d) → n ≡ min len left
    → n ≤ length (get_or now at e)
fits_next now at len n left d e more is taken = omega (arith, is, taken, ap (λ (l : List ℕ). length l) (get_or_default now at d e more))

pub part_next : (now : Chunks) (at len n : ℕ) (d e : List ℕ) → at < length now → len ≡ length (get_or now at d) → n < len → n < length (get_or now at e)
part_next now at len n d e more is part = omega (arith, is, part, ap (λ (l : List ℕ). length l) (get_or_default now at d e more))

pub all_taken : (now : Chunks) (at len n left : ℕ) (d e : List ℕ) → at < length now → len ≡ length (get_or now at d) → n ≡ min len left → len ≤ n
    → n ≡ length (get_or now at e)
all_taken now at len n left d e more is taken all = omega (arith, is, taken, all, ap (λ (l : List ℕ). length l) (get_or_default now at d e more))

pub written_count : (p : List ℕ) (b first : Buffer) → b ≡ bytes_written p first → b.written ≡ first.written + length p
unfolding bytes_written
written_count p b first is = ap (λ (x : Buffer). x.written) is

-- ---- what a sending side is then

pub none_written : (n : ℕ) (bs : List ℕ) (p p' : SendPart) → bs ≡ [] → p' ≡ part_written (take n bs) p → p' ≡ p
unfolding part_written
none_written zero bs p p' none is = is ∙ ap (λ (b : Buffer). (let x : SendPart = record p { buffer = b } in x)) (sym (wrote_none p.buffer))
none_written (suc n) bs p p' none is =
    is
    ∙ ap (λ (l : List ℕ). (let x : SendPart = record p { buffer = bytes_written (take (suc n) l) p.buffer } in x)) none
    ∙ ap (λ (b : Buffer). (let x : SendPart = record p { buffer = b } in x)) (sym (wrote_none p.buffer))

pub count_of : (d : Bool) (wanted most n : ℕ) (p p' : SendPart) → d ≡ false → p' ≡ p → n ≡ min wanted (min (p'.limit - p'.buffer.written) most)
    → n ≡ count_taken wanted most (cond d None (Some p))
unfolding takes
count_of true wanted most n p p' stands same is = absurd (cc)
count_of false wanted most n p p' stands same is = is ∙ ap (λ (x : SendPart). min wanted (min (x.limit - x.buffer.written) most)) same

pub written_of : (d : Bool) (bs : List ℕ) (p p' : SendPart) (b : Buffer) → d ≡ false → p' ≡ p → b ≡ bytes_written bs p'.buffer
    → (let x : SendPart = record p' { buffer = b } in x) ≡ cond d p (part_written bs p)
unfolding part_written
written_of true bs p p' b stands same is = absurd (cc)
written_of false bs p p' b stands same is =
    ap (λ (x : Buffer). (let y : SendPart = record p' { buffer = x } in y)) is
    ∙ ap (λ (x : SendPart). (let y : SendPart = record x { buffer = bytes_written bs x.buffer } in y)) same

row_length : (lost : Bool) (o : ℕ) (bs : List ℕ) → length (row lost o bs) ≡ length bs
unfolding row
row_length lost o [] = refl
row_length lost o (x ∷ bs) = ap (λ (n : ℕ). suc n) (row_length lost (suc o) bs)

pub more_of : (n : ℕ) (bs : List ℕ) (p p' : SendPart) (b : Buffer) → n ≤ length bs → p' ≡ p → b ≡ bytes_written (take n bs) p'.buffer
    → length b.kept ≡ length p.buffer.kept + n
unfolding bytes_written
more_of n bs p p' b fits same is =
    omega (
      arith,
      ap (λ (x : Buffer). length x.kept) is,
      length-append p'.buffer.kept (row false p'.buffer.written (take n bs)),
      row_length false p'.buffer.written (take n bs),
      length-take-le n bs fits,
      ap (λ (x : SendPart). length x.buffer.kept) same,
    )

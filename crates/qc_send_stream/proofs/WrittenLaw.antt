-- What may be sent next is what was written there
use Rattle.std.proofs.Common.{◌≡◌, ◌∙◌, ap, sym, ℕ, ◌+◌, suc, zero, List, [], ◌∷◌, ◌++◌, Bool, true, false, cond, length, take, drop, arith, refl, subst, Option, None, Some, append_assoc, length-append}
use Rattle.std.specs.Prelude.{min, nat_le}
use Rattle.qc_send_stream.specs.Buffer.{Kept, Buffer, nothing, row, lies_in, marked, without, bytes_written, range_sealed, range_acked, range_lost, discarded, has_bytes, from_lost, from_offset, waiting, part_offset, part_bytes}
use Rattle.qc_send_stream.specs.Written.{Step, Wrote, Sealed, Acked, Lost, Discarded, after_step, after, wrote, all_written, SendsWhatWasWritten}

-- the byte at an offset
abbrev pub at : ℕ → List ℕ → Option ℕ
at o [] = None
at zero (x ∷ xs) = Some x
at (suc o) (x ∷ xs) = at o xs

-- each byte that is kept is the one that was written there
abbrev pub Matches : List ℕ → List Kept → Type 0
Matches all [] = Unit {0}
Matches all (k ∷ ks) = (at k.offset all ≡ Some k.byte) × Matches all ks

-- as many bytes were written as are counted, and what is kept are some of them
record Agrees (all : List ℕ) (b : Buffer) : Type 0 where
  pub count : b.written ≡ length all
  pub kept : Matches all b.kept

no_byte : (b : ℕ) → (let p : Option ℕ = None in p) ≡ Some b → ⊥
no_byte b q = cc

at_more : (o b : ℕ) (xs ys : List ℕ) → at o xs ≡ Some b → at o (xs ++ ys) ≡ Some b
at_more o b [] ys found = absurd (no_byte b found)
at_more zero b (x ∷ xs) ys found = found
at_more (suc o) b (x ∷ xs) ys found = at_more o b xs ys found

at_end : (xs : List ℕ) (b : ℕ) (ys : List ℕ) → at (length xs) (xs ++ b ∷ ys) ≡ Some b
at_end [] b ys = refl
at_end (x ∷ xs) b ys = at_end xs b ys

matches_more : (all bs : List ℕ) (ks : List Kept) → Matches all ks → Matches (all ++ bs) ks
matches_more all bs [] same = tt
matches_more all bs (k ∷ ks) same = (at_more k.offset k.byte all bs same.0, matches_more all bs ks same.1)

matches_append : (all : List ℕ) (v w : List Kept) → Matches all v → Matches all w → Matches all (v ++ w)
matches_append all [] w first second = second
matches_append all (k ∷ v) w first second = (first.0, matches_append all v w first.1 second)

matches_row : (l : Bool) (o : ℕ) (before bs : List ℕ) → o ≡ length before → Matches (before ++ bs) (row l o bs)
unfolding row
matches_row l o before [] here = tt
matches_row l o before (b ∷ bs) here =
    let long : length (before ++ b ∷ []) ≡ length before + 1 = length-append before (b ∷ []) in (
      ap (λ (i : ℕ). at i (before ++ b ∷ bs)) here ∙ at_end before b bs,
      subst (λ (l0 : List ℕ). Matches l0 (row l (suc o) bs)) (append_assoc before (b ∷ []) bs)
          (matches_row l (suc o) (before ++ b ∷ []) bs (omega arith)),
    )

matches_marked : (all : List ℕ) (l : Bool) (start end : ℕ) (ks : List Kept) → Matches all ks → Matches all (marked l start end ks)
unfolding marked
matches_marked all l start end [] same = tt
matches_marked all l start end (k ∷ ks) same = by (lies_in start end k) (matches_marked all l start end ks same.1)
  where
    by : (t : Bool) → Matches all (marked l start end ks) → Matches all (cond t (record k { lost = l }) k ∷ marked l start end ks)
    by true rest = (same.0, rest)
    by false rest = (same.0, rest)

matches_without : (all : List ℕ) (start end : ℕ) (ks : List Kept) → Matches all ks → Matches all (without start end ks)
unfolding without
matches_without all start end [] same = tt
matches_without all start end (k ∷ ks) same = by (lies_in start end k) (matches_without all start end ks same.1)
  where
    by : (t : Bool) → Matches all (without start end ks) → Matches all (cond t (without start end ks) (k ∷ without start end ks))
    by true rest = rest
    by false rest = (same.0, rest)

append_none : (p : List ℕ) → p ++ [] ≡ p
append_none [] = refl
append_none (x ∷ p) = ap (λ (l : List ℕ). x ∷ l) (append_none p)

-- a step that writes nothing
agrees_still : (all : List ℕ) (b : Buffer) → Agrees all b → Agrees (all ++ []) b
agrees_still all b same = subst (λ (l : List ℕ). Agrees l b) (sym (append_none all)) same

agrees_step : (x : Step) (all : List ℕ) (b : Buffer) → Agrees all b → Agrees (all ++ wrote x) (after_step x b)
unfolding wrote after_step bytes_written range_sealed range_acked range_lost discarded
agrees_step (Wrote bs) all b same = record {
  count = ap (λ (i : ℕ). i + length bs) same.count ∙ sym (length-append all bs);
  kept = matches_append (all ++ bs) b.kept (row false b.written bs) (matches_more all bs b.kept same.kept) (matches_row false b.written all bs same.count);
}
agrees_step (Sealed start end) all b same =
    agrees_still all (range_sealed start end b) (record { count = same.count; kept = matches_marked all false start end b.kept same.kept })
agrees_step (Acked start end) all b same =
    agrees_still all (range_acked start end b) (record { count = same.count; kept = matches_without all start (min end b.sent) b.kept same.kept })
agrees_step (Lost start end) all b same =
    agrees_still all (range_lost start end b) (record { count = same.count; kept = matches_marked all true start (min end b.sent) b.kept same.kept })
agrees_step Discarded all b same = agrees_still all (discarded b) (record { count = same.count; kept = tt })

agrees_after : (xs : List Step) (all : List ℕ) (b : Buffer) → Agrees all b → Agrees (all ++ all_written xs) (after xs b)
unfolding all_written after
agrees_after [] all b same = agrees_still all b same
agrees_after (x ∷ xs) all b same =
    subst (λ (l : List ℕ). Agrees l (after xs (after_step x b))) (append_assoc all (wrote x) (all_written xs))
    (agrees_after xs (all ++ wrote x) (after_step x b) (agrees_step x all b same))

matches_lost : (all : List ℕ) (ks : List Kept) → Matches all ks → Matches all (from_lost ks)
unfolding from_lost
matches_lost all [] same = tt
matches_lost all (k ∷ ks) same = by k.lost (matches_lost all ks same.1)
  where
    by : (t : Bool) → Matches all (from_lost ks) → Matches all (cond t (k ∷ ks) (from_lost ks))
    by true rest = same
    by false rest = rest

matches_offset : (all : List ℕ) (o : ℕ) (ks : List Kept) → Matches all ks → Matches all (from_offset o ks)
unfolding from_offset
matches_offset all o [] same = tt
matches_offset all o (k ∷ ks) same = by (nat_le o k.offset) (matches_offset all o ks same.1)
  where
    by : (t : Bool) → Matches all (from_offset o ks) → Matches all (cond t (k ∷ ks) (from_offset o ks))
    by true rest = same
    by false rest = rest

matches_waiting : (all : List ℕ) (b : Buffer) → Matches all b.kept → Matches all (waiting b)
unfolding waiting
matches_waiting all b same = by (has_bytes (from_lost b.kept)) (matches_lost all b.kept same) (matches_offset all b.sent b.kept same)
  where
    by : (t : Bool) → Matches all (from_lost b.kept) → Matches all (from_offset b.sent b.kept) → Matches all (cond t (from_lost b.kept) (from_offset b.sent b.kept))
    by true first second = first
    by false first second = second

at_drop : (o b : ℕ) (all : List ℕ) → at o all ≡ Some b → drop o all ≡ b ∷ drop (suc o) all
at_drop o b [] found = absurd (no_byte b found)
at_drop zero b (x ∷ xs) found = let same : x ≡ b = cc in ap (λ (i : ℕ). (let l : List ℕ = i ∷ xs in l)) same
at_drop (suc o) b (x ∷ xs) found = at_drop o b xs found

row_there : (l : Bool) (o : ℕ) (bs all : List ℕ) (rest : List Kept) → Matches all (row l o bs ++ rest) → bs ≡ take (length bs) (drop o all)
unfolding row
row_there l o [] all rest same = refl
row_there l o (b ∷ bs) all rest same =
    ap (λ (p : List ℕ). b ∷ p) (row_there l (suc o) bs all rest same.1)
    ∙ ap (λ (p : List ℕ). take (suc (length bs)) p) (sym (at_drop o b all same.0))

pub sends_what_was_written : (xs : List Step) → SendsWhatWasWritten xs
unfolding SendsWhatWasWritten nothing
sends_what_was_written xs = λ most part next.
    let agrees = agrees_after xs [] nothing (record { count = refl; kept = tt }) in
    let waits = matches_waiting (all_written xs) (after xs nothing) agrees.kept in
    row_there (has_bytes (from_lost (after xs nothing).kept)) (part_offset part) (part_bytes part) (all_written xs) (drop (length (part_bytes part)) (waiting (after xs nothing)))
    (subst (λ (w : List Kept). Matches (all_written xs) w) next.first waits)

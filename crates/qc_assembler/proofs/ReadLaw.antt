-- What was read and what waits are what came
use Rattle.std.proofs.Common.{◌≡◌, ◌∙◌, ap, sym, ℕ, ◌+◌, ◌-◌, ◌<◌, ◌≤◌, suc, inl, inr, List, [], ◌∷◌, ◌++◌, true, false, length, drop, arith, refl, subst, append_assoc, length-append}
use Rattle.std.proofs.lemmas.Bool.{cases_lt, lt-ltb, le-ltb, or_from, or_left}
use Rattle.std.proofs.Math.Seq.{drop-length}
use Rattle.std.specs.Prelude.{nat_lt}
use Rattle.qc_assembler.specs.Assembly.{Assembly, run, add, among, was_read, inserted, advanced, nothing}
use Rattle.qc_assembler.specs.Reads.{Step, Came, Read, after_step, after, IsRead, AreReads, all_came, all_read, ReadsWhatCame}
use Rattle.qc_assembler.proofs.Adding.{add_past_run, add_within, add_none}
use Rattle.qc_assembler.proofs.Segments.{skip_step, inserted_unread, inserted_read}

-- an assembly that was read in order only
abbrev pub in_order : ℕ → List (ℕ × ℕ) → Assembly
in_order r v = record { read = r; ahead = []; came = v }

below_read : (i r : ℕ) (v : List (ℕ × ℕ)) → i < r → was_read i (in_order r v) ≡ true
unfolding was_read among
below_read i r v less = or_left (nat_lt i r) false (lt-ltb i r less)

beyond_read : (i r : ℕ) (v : List (ℕ × ℕ)) → r ≤ i → was_read i (in_order r v) ≡ false
unfolding was_read among
beyond_read i r v more = or_from (nat_lt i r) false (le-ltb i r more) refl

-- bytes that come are kept but for those that were read
inserted_in_order : (o : ℕ) (bs p : List ℕ) (v : List (ℕ × ℕ)) → (w : List (ℕ × ℕ)) × (inserted o bs (in_order (length p) v) ≡ in_order (length p) w) × (add o bs (run 0 p ++ v) ≡ run 0 p ++ w)
inserted_in_order o bs p v = elim (cases_lt (o + length bs) (length p)) [
  | inl less ↦ (v, inserted_read o bs (in_order (length p) v) (λ i low high. below_read i (length p) v (omega arith)), all_within o bs p v (omega arith))
  | inr more ↦ elim (cases_lt o (length p)) [
    | inl front ↦
        let n : o + (length p - o) ≡ length p = omega arith in
        let low : length p - o ≤ length bs = omega arith in (
          add (length p) (drop (length p - o) bs) v,
          skip_step o (length p - o) bs (in_order (length p) v) low (λ i from to. below_read i (length p) v (omega arith))
              ∙ ap (λ (i : ℕ). inserted i (drop (length p - o) bs) (in_order (length p) v)) n
              ∙ inserted_unread (length p) (drop (length p - o) bs) (in_order (length p) v) (λ i from to. beyond_read i (length p) v from),
          add_within o 0 (length p - o) bs p v (omega arith) (omega arith) low
              ∙ ap (λ (i : ℕ). add i (drop (length p - o) bs) (run 0 p ++ v)) n
              ∙ add_past_run 0 (length p) p (drop (length p - o) bs) v (omega arith),
        )
    | inr back ↦
        (add o bs v, inserted_unread o bs (in_order (length p) v) (λ i from to. beyond_read i (length p) v (omega arith)), add_past_run 0 o p bs v (omega arith))
  ]
]
  where
    all_within : (o : ℕ) (bs p : List ℕ) (v : List (ℕ × ℕ)) → o + length bs ≤ length p → add o bs (run 0 p ++ v) ≡ run 0 p ++ v
    all_within o bs p v fits =
        add_within o 0 (length bs) bs p v (omega arith) (omega arith) (omega arith)
        ∙ ap (λ (l : List ℕ). add (o + length bs) l (run 0 p ++ v)) (drop-length bs)
        ∙ add_none (o + length bs) [] (run 0 p ++ v) refl

run_append : (s m : ℕ) (p q : List ℕ) (v : List (ℕ × ℕ)) → m ≡ s + length p → run s p ++ (run m q ++ v) ≡ run s (p ++ q) ++ v
unfolding run
run_append s m [] q v e = let here : m ≡ s = omega arith in ap (λ (i : ℕ). run i q ++ v) here
run_append s m (x ∷ p) q v e = ap (λ (w : List (ℕ × ℕ)). (s, x) ∷ w) (run_append (suc s) m p q v (omega arith))

append_none : (p : List ℕ) → p ++ [] ≡ p
append_none [] = refl
append_none (x ∷ p) = ap (λ (l : List ℕ). x ∷ l) (append_none p)

from_there : (xs : List Step) (p : List ℕ) (v : List (ℕ × ℕ)) → AreReads xs (in_order (length p) v)
    → all_came xs (run 0 p ++ v) ≡ run 0 (p ++ all_read xs) ++ (after xs (in_order (length p) v)).came
unfolding AreReads IsRead all_came all_read after after_step advanced
from_there [] p v reads = ap (λ (l : List ℕ). run 0 l ++ v) (sym (append_none p))
from_there (Came o bs ∷ xs) p v reads =
    let kept = inserted_in_order o bs p v in
    ap (λ (w : List (ℕ × ℕ)). all_came xs w) kept.2
    ∙ from_there xs p kept.0 (subst (λ (a : Assembly). AreReads xs a) kept.1 reads.1)
    ∙ ap (λ (a : Assembly). run 0 (p ++ all_read xs) ++ (after xs a).came) (sym kept.1)
from_there (Read bs ∷ xs) p v reads =
    let long : length p + length bs ≡ length (p ++ bs) = sym (length-append p bs) in
    let state : in_order (length p + length bs) (drop (length bs) v) ≡ in_order (length (p ++ bs)) (drop (length bs) v) = ap (λ (i : ℕ). in_order i (drop (length bs) v)) long in
    ap (λ (w : List (ℕ × ℕ)). all_came xs (run 0 p ++ w)) reads.0
    ∙ ap (λ (w : List (ℕ × ℕ)). all_came xs w) (run_append 0 (length p) p bs (drop (length bs) v) (omega arith))
    ∙ from_there xs (p ++ bs) (drop (length bs) v) (subst (λ (a : Assembly). AreReads xs a) state reads.1)
    ∙ ap (λ (a : Assembly). run 0 ((p ++ bs) ++ all_read xs) ++ (after xs a).came) (sym state)
    ∙ ap (λ (l : List ℕ). run 0 l ++ (after xs (in_order (length p + length bs) (drop (length bs) v))).came) (append_assoc p bs (all_read xs))

pub reads_what_came : (xs : List Step) → ReadsWhatCame xs
unfolding ReadsWhatCame nothing run
reads_what_came xs = λ reads. from_there xs [] [] reads

-- What an ordered read gives, and what it leaves
use Rattle.std.proofs.Common.{◌≡◌, ◌∙◌, ap, sym, ℕ, ◌+◌, ◌-◌, ◌<◌, List, [], ◌∷◌, ◌++◌, true, false, length, drop, arith, refl, subst, None, Some}
use Rattle.std.specs.Prelude.{◌==◌}
use Rattle.std.proofs.lemmas.Bool.{false≢true, eqb-true}
use Rattle.qc_assembler.specs.Assembly.{Assembly, run, begins_at, has_bytes, first_offset, chunk_offset, chunk_bytes, bytes_of, is_readable, IsFirst, IsFront, advanced}
use Rattle.qc_assembler.specs.Parts.{flat, Apart, starts_at}
use Rattle.qc_assembler.specs.Ahead.{listed, assembled}

begins_run : (o s : ℕ) (p : List ℕ) (rest : List (ℕ × ℕ)) → 0 < length p → begins_at o (run s p ++ rest) ≡ (s == o)
unfolding run begins_at
begins_run o s [] rest some = absurd (omega arith)
begins_run o s (q ∷ p) rest some = refl

pub starts_begins : (o : ℕ) (es : List (ℕ × List ℕ)) → Apart 0 es → starts_at o es ≡ begins_at o (flat es)
unfolding Apart starts_at flat begins_at
starts_begins o [] apart = refl
starts_begins o (e ∷ es) apart = sym (begins_run o (e.0 - length e.1) e.1 (flat es) apart.0)

begins_has : (o : ℕ) (v : List (ℕ × ℕ)) → begins_at o v ≡ true → has_bytes v ≡ true
unfolding begins_at has_bytes
begins_has o [] begins = begins
begins_has o (x ∷ xs) begins = refl

pub begins_offset : (o i : ℕ) (v : List (ℕ × ℕ)) → begins_at o v ≡ true → first_offset v ≡ Some i → i ≡ o
unfolding begins_at first_offset
begins_offset o i [] begins first = absurd (false≢true begins)
begins_offset o i (x ∷ xs) begins first = let e : x.0 ≡ i = cc in sym e ∙ eqb-true x.0 o begins

pub front_taken : (most read o : ℕ) (ranges : List (ℕ × ℕ)) (parts : List (ℕ × List ℕ)) (bs : List ℕ) → begins_at read (flat parts) ≡ true
    → IsFirst most (flat parts) (Some (o, bs)) → IsFront most (assembled read ranges parts) (Some bs)
unfolding assembled is_readable chunk_offset chunk_bytes bytes_of
front_taken most read o ranges parts bs begins first =
    let at : o ≡ read = begins_offset read o (flat parts) begins first.place in
    record {
      given = sym begins;
      within = first.within;
      some = λ h more. first.some (begins_has read (flat parts) begins) more;
      first = subst (λ (i : ℕ). flat parts ≡ run i bs ++ drop (length bs) (flat parts)) at first.first;
    }

pub front_missing : (most read : ℕ) (ranges : List (ℕ × ℕ)) (parts : List (ℕ × List ℕ)) → begins_at read (flat parts) ≡ false
    → IsFront most (assembled read ranges parts) None
unfolding assembled is_readable bytes_of run
front_missing most read ranges parts begins =
    record { given = sym begins; within = omega arith; some = λ h more. absurd (false≢true (sym begins ∙ h)); first = refl }

-- where the next byte came, something is taken
pub front_there : (most read : ℕ) (parts : List (ℕ × List ℕ)) → begins_at read (flat parts) ≡ true → IsFirst most (flat parts) None → ⊥
front_there most read parts begins first = false≢true (first.given ∙ begins_has read (flat parts) begins)

pub advance_taken : (n read : ℕ) (ranges : List (ℕ × ℕ)) (old new : List (ℕ × List ℕ)) → flat new ≡ drop n (flat old)
    → assembled (read + n) ranges new ≡ advanced n (assembled read ranges old)
unfolding assembled advanced
advance_taken n read ranges old new left =
    ap (λ (w : List (ℕ × ℕ)). (let x : Assembly = record { read = read + n; ahead = listed ranges; came = w } in x)) left

pub advance_none : (a : Assembly) → a ≡ advanced 0 a
unfolding advanced
advance_none a = let e : a.read ≡ a.read + 0 = omega arith in ap (λ (i : ℕ). (let x : Assembly = record a { read = i } in x)) e

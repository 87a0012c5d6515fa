-- What waits wasn't read
use Rattle.std.proofs.Common.{◌≡◌, ◌∙◌, ap, sym, ℕ, ◌+◌, ◌-◌, ◌<◌, ◌≤◌, suc, zero, inl, inr, List, [], ◌∷◌, ◌++◌, Bool, true, false, cond, length, drop, arith, refl, subst, Option, None, Some}
use Rattle.std.specs.Prelude.{nat_lt}
use Rattle.std.proofs.lemmas.Bool.{cases_order, cases_lt, lt-ltb, le-ltb, eq-eqb, ne_eqb, ltb-false, or_parts, false≢true}
use Rattle.qc_assembler.specs.Assembly.{Assembly, run, put, among, was_read, byte_came, inserted, note, noted}
use Rattle.qc_assembler.specs.Parts.{flat, Apart}
use Rattle.qc_assembler.specs.Ahead.{listed, AreRanges, range_past, assembled, AllUnread, HasGap}
use Rattle.qc_assembler.proofs.Segments.{listed_inside, range_bounds}

-- all bytes are at lo or above
abbrev pub AllFrom : ℕ → List (ℕ × ℕ) → Type 0
AllFrom lo [] = Unit {0}
AllFrom lo (x ∷ xs) = (lo ≤ x.0) × AllFrom lo xs

unread_put : (r : ℕ) (ahead : List ℕ) (o b : ℕ) (v : List (ℕ × ℕ)) → AllUnread r ahead v → r ≤ o → among o ahead ≡ false → AllUnread r ahead (put o b v)
unfolding AllUnread put
unread_put r ahead o b [] unread from free = (from, free, tt)
unread_put r ahead o b (x ∷ xs) unread from free = elim (cases_order o x.0) [
  | inl e ↦ rw (le-ltb o x.0 (omega arith), eq-eqb o x.0 e) unread
  | inr (inl less) ↦ rw (lt-ltb o x.0 less) (from, free, unread)
  | inr (inr more) ↦
      rw (le-ltb o x.0 (omega arith), ne_eqb o x.0 (λ e. omega arith)) (unread.0, unread.1, unread_put r ahead o b xs unread.2 from free)
]

pub unread_inserted : (o : ℕ) (bs : List ℕ) (a : Assembly) → AllUnread a.read a.ahead a.came → AllUnread a.read a.ahead (inserted o bs a).came
unfolding inserted byte_came was_read
unread_inserted o [] a unread = unread
unread_inserted o (b ∷ bs) a unread = by (was_read o a) refl (λ c next. unread_inserted (suc o) bs c next)
  where
    by : (t : Bool) → was_read o a ≡ t → ((c : Assembly) → AllUnread c.read c.ahead c.came → AllUnread c.read c.ahead (inserted (suc o) bs c).came)
        → AllUnread a.read a.ahead (inserted (suc o) bs (cond t a (record a { came = put o b a.came }))).came
    by true e later = later a unread
    by false e later =
        let parts = or_parts (nat_lt o a.read) (among o a.ahead) e in
        later (record a { came = put o b a.came }) (unread_put a.read a.ahead o b a.came unread (ltb-false o a.read parts.0) parts.1)

-- after bytes came
pub unread_after : (read o : ℕ) (ranges : List (ℕ × ℕ)) (bs : List ℕ) (old new : List (ℕ × List ℕ)) → AllUnread read (listed ranges) (flat old)
    → assembled read ranges new ≡ inserted o bs (assembled read ranges old) → AllUnread read (listed ranges) (flat new)
unfolding assembled
unread_after read o ranges bs old new unread came =
    subst (λ (v : List (ℕ × ℕ)). AllUnread read (listed ranges) v) (ap (λ (a : Assembly). a.came) (sym came)) (unread_inserted o bs (assembled read ranges old) unread)

pub unread_drop : (r n : ℕ) (ahead : List ℕ) (v : List (ℕ × ℕ)) → AllUnread r ahead v → AllUnread r ahead (drop n v)
unfolding AllUnread
unread_drop r zero ahead v unread = unread
unread_drop r (suc n) ahead [] unread = tt
unread_drop r (suc n) ahead (x ∷ xs) unread = unread_drop r n ahead xs unread.2

-- ---- bytes behind those that were read

from_run : (lo s : ℕ) (p : List ℕ) (rest : List (ℕ × ℕ)) → lo ≤ s → AllFrom lo rest → AllFrom lo (run s p ++ rest)
unfolding run
from_run lo s [] rest low far = far
from_run lo s (q ∷ p) rest low far = (low, from_run lo (suc s) p rest (omega arith) far)

from_more : (lo hi : ℕ) (v : List (ℕ × ℕ)) → lo ≤ hi → AllFrom hi v → AllFrom lo v
from_more lo hi [] less far = tt
from_more lo hi (x ∷ xs) less far = (omega (arith, far.0), from_more lo hi xs less far.1)

pub from_parts : (lo : ℕ) (es : List (ℕ × List ℕ)) → Apart lo es → AllFrom lo (flat es)
unfolding Apart flat
from_parts lo [] apart = tt
from_parts lo (e ∷ es) apart =
    let under : lo + length e.1 ≤ e.0 = apart.1 in
    from_run lo (e.0 - length e.1) e.1 (flat es) (omega arith) (from_more lo e.0 (flat es) (omega arith) (from_parts e.0 es apart.2))

pub unread_beyond_read : (r lo : ℕ) (ahead : List ℕ) (v : List (ℕ × ℕ)) → AllFrom lo v → AllUnread r ahead v → AllUnread lo ahead v
unfolding AllUnread
unread_beyond_read r lo ahead [] far unread = tt
unread_beyond_read r lo ahead (x ∷ xs) far unread = (far.0, unread.1, unread_beyond_read r lo ahead xs far.1 unread.2)

among_note : (i o : ℕ) (l : List ℕ) → o < i → among i (note o l) ≡ among i l
unfolding among note
among_note i o [] less = rw (ne_eqb i o (λ e. omega arith)) refl
among_note i o (x ∷ xs) less = elim (cases_order o x) [
  | inl e ↦ rw (le-ltb o x (omega arith), eq-eqb o x e) refl
  | inr (inl below) ↦ rw (lt-ltb o x below, ne_eqb i o (λ e. omega arith)) refl
  | inr (inr above) ↦ rw (le-ltb o x (omega arith), ne_eqb o x (λ e. omega arith), among_note i o xs less) refl
]

among_noted : (i o n : ℕ) (l : List ℕ) → o + n ≤ i → among i (noted o n l) ≡ among i l
unfolding noted
among_noted i o zero l far = refl
among_noted i o (suc n) l far = among_noted i (suc o) n (note o l) (omega arith) ∙ among_note i o l (omega arith)

pub unread_noted : (r o n : ℕ) (ahead : List ℕ) (v : List (ℕ × ℕ)) → AllFrom (o + n) v → AllUnread r ahead v → AllUnread r (noted o n ahead) v
unfolding AllUnread
unread_noted r o n ahead [] far unread = tt
unread_noted r o n ahead (x ∷ xs) far unread =
    (unread.0, among_noted x.0 o n ahead far.0 ∙ unread.1, unread_noted r o n ahead xs far.1 unread.2)

-- ---- bytes that wait lie between the ranges

unread_run : (r s i : ℕ) (ahead : List ℕ) (p : List ℕ) (rest : List (ℕ × ℕ)) → AllUnread r ahead (run s p ++ rest) → s ≤ i → i < s + length p → among i ahead ≡ false
unfolding AllUnread run
unread_run r s i ahead [] rest unread low high = absurd (omega arith)
unread_run r s i ahead (q ∷ p) rest unread low high = elim (cases_order s i) [
  | inl e ↦ subst (λ (j : ℕ). among j ahead ≡ false) e unread.1
  | inr (inl less) ↦ unread_run r (suc s) i ahead p rest unread.2 (omega arith) (omega arith)
  | inr (inr more) ↦ absurd (omega arith)
]

pub gap_at : (r s n : ℕ) (ranges : List (ℕ × ℕ)) (p : List ℕ) (rest : List (ℕ × ℕ)) → AreRanges 0 ranges → AllUnread r (listed ranges) (run s p ++ rest) → n ≡ length p → 0 < n
    → HasGap (s + n) (range_past s ranges)
unfolding HasGap
gap_at r s n ranges p rest kept unread long some = by (range_past s ranges) refl
  where
    by : (e : Option (ℕ × ℕ)) → range_past s ranges ≡ e → HasGap (s + n) e
    by None found = tt
    by (Some e) found = elim (cases_lt e.1 (s + n)) [
      | inl less ↦
          let bounds = range_bounds 0 s e ranges kept found in
          elim (cases_lt s e.1) [
            | inl ahead ↦
                absurd (false≢true (sym (unread_run r s e.1 (listed ranges) p rest unread (omega arith) (omega arith)) ∙ listed_inside 0 s e.1 e ranges kept found (omega arith) (omega arith) bounds.1))
            | inr behind ↦
                absurd (false≢true (sym (unread_run r s s (listed ranges) p rest unread (omega arith) (omega arith)) ∙ listed_inside 0 s s e ranges kept found behind (omega arith) bounds.0))
          ]
      | inr more ↦ more
    ]

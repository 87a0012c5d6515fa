-- Ascending lists of sequence numbers
use Rattle.std.proofs.Common.{◌≡◌, ◌≢◌, ℕ, ◌+◌, ◌<◌, ◌≤◌, ◌==◌, ◌&&◌, ◌^◌, ◌⊎◌, inl, inr, suc, zero, true, false, not, List, [], ◌∷◌, ◌++◌, length, get_or, Option, Some, None, nat_eq, nat_le, nat_lt, arith, refl, ap, sym, ◌∙◌}
use Rattle.std.proofs.lemmas.Bool.Decides.{nat_tests}
use Rattle.std.specs.List.{filter, list_any, remove}
use Rattle.qc_ids.specs.CidState.{EndsRise}
use Rattle.qc_ids.specs.Numbers.{Rises, numbers_on}
use Rattle.qc_ids.specs.LocalCids.{LocalCids, without, sequences, AreNext, numbers_up_to, count_between, issued_more, awaits_retirement, newly_asked, timed_out}
use Rattle.qc_ids.specs.Expiries.{expiry_of}
use Rattle.qc_ids.specs.declared.expiries.CidExpiry.{CidExpiry}
use Rattle.qc_base.specs.declared.ids.IssuedCid.{IssuedCid}

pub rises_weaken : (low low' high high' : ℕ) (ns : List ℕ) → low' ≤ low → high ≤ high' → Rises low high ns → Rises low' high' ns
rises_weaken low low' high high' [] l h r = tt
rises_weaken low low' high high' (n ∷ ns) l h r =
    let a : low ≤ n = r.0 in let b : n < high = r.1 in
    (omega arith, omega arith, rises_weaken (n + 1) (n + 1) high high' ns (omega arith) h r.2)

-- a number below all others isn't among them
pub without_below : (n low high : ℕ) (ns : List ℕ) → n < low → Rises low high ns → without n ns ≡ ns
unfolding without
without_below n low high [] l r = refl
without_below n low high (k ∷ ns) l r =
    let a : low ≤ k = r.0 in
    let differs : nat_eq k n ≡ false = grind (arith, nat_tests) in
    rw (differs, without_below n (k + 1) high ns (omega arith) r.2) refl

pub without_rises : (n low high : ℕ) (ns : List ℕ) → Rises low high ns → Rises low high (without n ns)
unfolding without
without_rises n low high [] r = tt
without_rises n low high (k ∷ ns) r =
    let rest = without_rises n (k + 1) high ns r.2 in
    (elim (nat_eq k n) as (λ b. nat_eq k n ≡ b → Rises low high (filter (λ j. not (j == n)) (k ∷ ns))) [
      | true ↦ λ e. rw e (rises_weaken (k + 1) low high high (without n ns) (let a : low ≤ k = r.0 in omega arith) (omega arith) rest)
      | false ↦ λ e. rw e (r.0, r.1, rest)
    ]) refl

at_least : (low high : ℕ) (ns : List ℕ) (i : ℕ) → Rises low high ns → i < length ns → low ≤ get_or ns i 0
at_least low high [] i r l = absurd (omega arith)
at_least low high (k ∷ ns) zero r l = r.0
at_least low high (k ∷ ns) (suc i) r l = let a : low ≤ k = r.0 in let b = at_least (k + 1) high ns i r.2 (omega arith) in omega arith

-- the place of a number, taken out
remove_at : (n i low high : ℕ) (ns : List ℕ) → Rises low high ns → i < length ns → get_or ns i 0 ≡ n → remove ns i ≡ without n ns
unfolding without
remove_at n i low high [] r l e = absurd (omega arith)
remove_at n zero low high (k ∷ ns) r l e =
    let same : nat_eq k n ≡ true = grind (arith, nat_tests) in
    rw same (sym (without_below n (k + 1) high ns (omega arith) r.2))
remove_at n (suc i) low high (k ∷ ns) r l e =
    let above : k + 1 ≤ get_or ns i 0 = at_least (k + 1) high ns i r.2 (omega arith) in
    let apart : k < n = omega arith in
    let differs : nat_eq k n ≡ false = grind (arith, nat_tests) in
    rw differs (ap (λ js. k ∷ js) (remove_at n i (k + 1) high ns r.2 (omega arith) e))

pub taken_out : (n i high : ℕ) (ns ns' : List ℕ) → Rises 0 high ns → i < length ns → get_or ns i 0 ≡ n → ns' ≡ remove ns i → ns' ≡ without n ns
taken_out n i high ns ns' r l is e = e ∙ remove_at n i 0 high ns r l is

pub not_there : (n : ℕ) (ns : List ℕ) → ((i : ℕ) → i < length ns → get_or ns i 0 ≢ n) → ns ≡ without n ns
unfolding without
not_there n [] h = refl
not_there n (k ∷ ns) h =
    let other : k ≢ n = h 0 (omega arith) in
    let differs : nat_eq k n ≡ false = grind (arith, nat_tests) in
    rw differs (ap (λ js. k ∷ js) (not_there n ns (λ i l. h (suc i) (omega arith))))

-- ---- the state of issued ids

pub rises_wide : (low high : ℕ) (ns : List ℕ) → high < 2 ^ 64 → Rises low high ns → Rises low (2 ^ 64) ns
rises_wide low high ns fits r = rises_weaken low low high (2 ^ 64) ns (omega arith) (omega arith) r

pub first_rises : (issued : ℕ) → (issued ≡ 1) ⊎ (issued ≡ 2) → Rises 0 issued (numbers_up_to issued)
first_rises issued (inl e) = rw e (omega arith, omega arith, tt)
first_rises issued (inr e) = rw e (omega arith, omega arith, (omega arith, omega arith, tt))

pub first_ends : (lifetime : Option ℕ) (now issued : ℕ) → EndsRise 0 issued (expiry_of lifetime now issued)
first_ends None now issued = omega arith
first_ends (Some t) now issued = (omega arith, omega arith)

pub rises_append : (low mid high : ℕ) (ns ms : List ℕ) → Rises low mid ns → mid ≤ high → low ≤ mid → Rises mid high ms → Rises low high (ns ++ ms)
rises_append low mid high [] ms r m l s = rises_weaken mid low high high ms l (omega arith) s
rises_append low mid high (n ∷ ns) ms r m l s =
    let b : n < mid = r.1 in
    (r.0, omega arith, rises_append (n + 1) mid high ns ms r.2 m (omega arith) s)

next_rise : (n : ℕ) (ids : List IssuedCid) → AreNext n ids → Rises n (n + length ids) (sequences ids)
next_rise n [] h = tt
next_rise n (id ∷ ids) h =
    let here : id.sequence ≡ n = h.0 in
    (omega arith, omega arith, rises_weaken (n + 1) (id.sequence + 1) (n + 1 + length ids) (n + length (id ∷ ids)) (sequences ids) (omega arith) (omega arith) (next_rise (n + 1) ids h.2))

pub next_fit : (n : ℕ) (ids : List IssuedCid) → 0 < length ids → AreNext n ids → n + length ids ≤ 4611686018427387904
next_fit n [] l h = absurd (omega arith)
next_fit n (id ∷ []) l h = let here : n < 4611686018427387904 = h.1 in omega arith
next_fit n (id ∷ next ∷ ids) l h = let rest = next_fit (n + 1) (next ∷ ids) (omega arith) h.2 in omega arith

pub more_rise : (n : ℕ) (ns : List ℕ) (ids : List IssuedCid) → AreNext n ids → Rises 0 n ns → Rises 0 (n + length ids) (ns ++ sequences ids)
more_rise n ns ids h r = rises_append 0 n (n + length ids) ns (sequences ids) r (omega arith) (omega arith) (next_rise n ids h)

ends_weaken : (low low' high high' : ℕ) (es : List CidExpiry) → low' ≤ low → high ≤ high' → EndsRise low high es → EndsRise low' high' es
ends_weaken low low' high high' [] l h r = omega arith
ends_weaken low low' high high' (e ∷ es) l h r = let a : low ≤ e.end = r.0 in (omega arith, ends_weaken e.end e.end high high' es (omega arith) h r.1)

ends_append : (low mid high : ℕ) (es fs : List CidExpiry) → EndsRise low mid es → EndsRise mid high fs → EndsRise low high (es ++ fs)
ends_append low mid high [] fs r s = ends_weaken mid low high high fs r (omega arith) s
ends_append low mid high (e ∷ es) fs r s = (r.0, ends_append e.end mid high es fs r.1 s)

new_end : (lifetime : Option ℕ) (now mid high : ℕ) → mid ≤ high → EndsRise mid high (expiry_of lifetime now high)
new_end None now mid high l = l
new_end (Some t) now mid high l = (l, omega arith)

pub more_end : (low mid high now : ℕ) (lifetime : Option ℕ) (es : List CidExpiry) → EndsRise low mid es → mid ≤ high → EndsRise low high (es ++ expiry_of lifetime now high)
more_end low mid high now lifetime es r l = ends_append low mid high es (expiry_of lifetime now high) r (new_end lifetime now mid high l)

pub tail_ends : (low high : ℕ) (e : CidExpiry) (es : List CidExpiry) → EndsRise low high (e ∷ es) → (low ≤ e.end) × EndsRise e.end high es
tail_ends low high e es r = (r.0, r.1)

pub waiting_ends : (low high : ℕ) (e : CidExpiry) (es : List CidExpiry) → EndsRise low high (e ∷ es) → EndsRise low high es
waiting_ends low high e es r = ends_weaken e.end low high high es r.0 (omega arith) r.1

-- between a number and itself lies none
pub none_between : (n : ℕ) (ns : List ℕ) → count_between n n ns ≡ 0
unfolding count_between
none_between n [] = refl
none_between n (k ∷ ns) =
    let apart : (nat_le n k && nat_lt k n) ≡ false = grind (arith, nat_tests) in
    rw (apart, none_between n ns) refl

pub issued_none : (now : ℕ) (s : LocalCids) → issued_more [] now s ≡ s
unfolding issued_more
issued_none now s = refl

pub issued_some : (ids : List IssuedCid) (now : ℕ) (s : LocalCids) → 0 < length ids
    → issued_more ids now s ≡ record s { active = s.active ++ sequences ids; issued = s.issued + length ids; expiries = s.expiries ++ expiry_of s.lifetime now (s.issued + length ids) }
unfolding issued_more
issued_some [] now s l = absurd (omega arith)
issued_some (id ∷ ids) now s l = refl

-- ---- a list of ids expires

waits : (s : LocalCids) (e : CidExpiry) (es : List CidExpiry) → s.expiries ≡ e ∷ es → list_any (λ n. nat_lt n s.retire_prior_to) s.active ≡ true
    → timed_out s ≡ record s { expiries = es; retire_prior_to = s.retire_prior_to }
unfolding timed_out awaits_retirement
waits s e es first h = rw (first, h) refl

raises : (s : LocalCids) (e : CidExpiry) (es : List CidExpiry) → s.expiries ≡ e ∷ es → list_any (λ n. nat_lt n s.retire_prior_to) s.active ≡ false
    → timed_out s ≡ record s { expiries = es; retire_prior_to = e.end }
unfolding timed_out awaits_retirement
raises s e es first h = rw (first, h) refl

pub waits_after : (s : LocalCids) (e : CidExpiry) (es : List CidExpiry) → s.expiries ≡ e ∷ es → list_any (λ n. nat_lt n s.retire_prior_to) s.active ≡ true
    → record s { expiries = es } ≡ timed_out s
waits_after s e es first h = sym (waits s e es first h)

pub waits_answer : (s : LocalCids) (e : CidExpiry) (es : List CidExpiry) → s.expiries ≡ e ∷ es → list_any (λ n. nat_lt n s.retire_prior_to) s.active ≡ true
    → 0 ≡ newly_asked s
unfolding newly_asked
waits_answer s e es first h = rw (waits s e es first h) (sym (none_between s.retire_prior_to s.active))

pub raises_after : (s : LocalCids) (e : CidExpiry) (es : List CidExpiry) → s.expiries ≡ e ∷ es → list_any (λ n. nat_lt n s.retire_prior_to) s.active ≡ false
    → record s { expiries = es; retire_prior_to = e.end } ≡ timed_out s
raises_after s e es first h = sym (raises s e es first h)

pub raises_answer : (s : LocalCids) (e : CidExpiry) (es : List CidExpiry) → s.expiries ≡ e ∷ es → list_any (λ n. nat_lt n s.retire_prior_to) s.active ≡ false
    → count_between s.retire_prior_to e.end s.active ≡ newly_asked s
unfolding newly_asked
raises_answer s e es first h = rw (raises s e es first h) refl

pub none_answer : (s : LocalCids) → s.expiries ≡ [] → 0 ≡ newly_asked s
unfolding newly_asked timed_out
none_answer s none = rw none (sym (none_between s.retire_prior_to s.active))

pub none_after : (s : LocalCids) → s.expiries ≡ [] → s ≡ timed_out s
unfolding timed_out
none_after s none = rw none refl

pub numbers_rise : (start count high : ℕ) → start + count ≤ high → Rises start high (numbers_on start count)
numbers_rise start zero high h = tt
numbers_rise start (suc count) high h = (omega arith, omega arith, numbers_rise (start + 1) count high (omega arith))

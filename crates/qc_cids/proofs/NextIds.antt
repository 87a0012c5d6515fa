-- Ids that may be given are the next ones
use Rattle.std.proofs.Common.{◌≡◌, ◌≢◌, ℕ, ◌+◌, ◌-◌, ◌<◌, ◌≤◌, true, false, Some, None, List, [], ◌∷◌, length, get_or, drop, nat_eq, nat_lt, arith, refl, ap, sym, ◌∙◌}
use Rattle.std.proofs.lemmas.Bool.Decides.{nat_tests}
use Rattle.std.proofs.lemmas.List.{drop_more, drop_all}
use Rattle.qc_base.specs.Time.{plus}
use Rattle.qc_base.specs.declared.ids.IssuedCid.{IssuedCid}
use Rattle.qc_ids.specs.LocalCids.{AreNext}
use Rattle.qc_cids.specs.declared.connection_ids.ConnectionIds.{ConnectionIds}
use Rattle.qc_cids.specs.declared.giving.GiveRefusal.TheVariants.{Sequence, IdLength}
use Rattle.qc_cids.specs.Cids.{bad_cid, give_refusal, may_give}

-- where none is bad, they have the next numbers
next_ones : (cid_len n : ℕ) (ids : List IssuedCid) → n + length ids ≤ 4611686018427387904 → bad_cid cid_len n ids ≡ None → AreNext n ids
next_ones cid_len n [] l h = tt
next_ones cid_len n (c ∷ cs) l h =
    (elim (nat_eq c.sequence n) as (λ b. nat_eq c.sequence n ≡ b → AreNext n (c ∷ cs)) [
      | false ↦ λ e. let bad = rw e at h in absurd (cc)
      | true ↦ λ e.
          let good = rw e at h in
          (elim (nat_eq (length c.id) cid_len) as (λ b. nat_eq (length c.id) cid_len ≡ b → AreNext n (c ∷ cs)) [
            | false ↦ λ d. let bad = rw d at good in absurd (cc)
            | true ↦ λ d.
                let rest = rw d at good in
                let step : plus n 1 ≡ n + 1 = omega arith in
                let is : c.sequence ≡ n = grind (arith, nat_tests) in
                (is, omega arith, next_ones cid_len (n + 1) cs (omega arith) (rw step at rest))
          ]) refl
    ]) refl

next_given : (cid_len n most : ℕ) (ids : List IssuedCid) → length ids ≤ most → most ≤ 4611686018427387904 - n → bad_cid cid_len n ids ≡ None → AreNext n ids
next_given cid_len n most [] l m h = tt
next_given cid_len n most (c ∷ cs) l m h = next_ones cid_len n (c ∷ cs) (omega arith) h

pub may_be_given : (ids : List IssuedCid) (s : ConnectionIds) → give_refusal ids s ≡ None → AreNext s.local.issued ids
unfolding give_refusal may_give
may_be_given ids s h =
    (elim (nat_lt (may_give s) (length ids)) as (λ b. nat_lt (may_give s) (length ids) ≡ b → AreNext s.local.issued ids) [
      | true ↦ λ e. let bad = rw e at h in absurd (cc)
      | false ↦ λ e.
          let good = rw e at h in
          let fits : length ids ≤ may_give s = grind (arith, nat_tests) in
          next_given s.local.cid_len s.local.issued (may_give s) ids fits (omega arith) good
    ]) refl

-- one more id is good
pub good_more : (cid_len n issued : ℕ) (ids : List IssuedCid) (i : ℕ) (c : IssuedCid) → i < length ids → c ≡ get_or ids i c → c.sequence ≡ n → length c.id ≡ cid_len
    → bad_cid cid_len n (drop i ids) ≡ bad_cid cid_len issued ids → bad_cid cid_len (plus n 1) (drop (i + 1) ids) ≡ bad_cid cid_len issued ids
good_more cid_len n issued ids i c l is number size h =
    let split : drop i ids ≡ c ∷ drop (i + 1) ids = drop_more ids i c l ∙ ap (λ y. y ∷ drop (i + 1) ids) (sym is) in
    let one : nat_eq c.sequence n ≡ true = grind (arith, nat_tests) in
    let two : nat_eq (length c.id) cid_len ≡ true = grind (arith, nat_tests) in
    rw (split, one, two) at h

pub bad_number : (cid_len n issued : ℕ) (ids : List IssuedCid) (i : ℕ) (c : IssuedCid) → i < length ids → c ≡ get_or ids i c → c.sequence ≢ n
    → bad_cid cid_len n (drop i ids) ≡ bad_cid cid_len issued ids → Some (Sequence n c.sequence) ≡ bad_cid cid_len issued ids
bad_number cid_len n issued ids i c l is number h =
    let split : drop i ids ≡ c ∷ drop (i + 1) ids = drop_more ids i c l ∙ ap (λ y. y ∷ drop (i + 1) ids) (sym is) in
    let one : nat_eq c.sequence n ≡ false = grind (arith, nat_tests) in
    rw (split, one) at h

pub bad_length : (cid_len n issued : ℕ) (ids : List IssuedCid) (i : ℕ) (c : IssuedCid) → i < length ids → c ≡ get_or ids i c → c.sequence ≡ n → length c.id ≢ cid_len
    → bad_cid cid_len n (drop i ids) ≡ bad_cid cid_len issued ids → Some (IdLength cid_len (length c.id)) ≡ bad_cid cid_len issued ids
bad_length cid_len n issued ids i c l is number size h =
    let split : drop i ids ≡ c ∷ drop (i + 1) ids = drop_more ids i c l ∙ ap (λ y. y ∷ drop (i + 1) ids) (sym is) in
    let one : nat_eq c.sequence n ≡ true = grind (arith, nat_tests) in
    let two : nat_eq (length c.id) cid_len ≡ false = grind (arith, nat_tests) in
    rw (split, one, two) at h

pub good_all : (cid_len n issued : ℕ) (ids : List IssuedCid) (i : ℕ) → length ids ≤ i → bad_cid cid_len n (drop i ids) ≡ bad_cid cid_len issued ids
    → None ≡ bad_cid cid_len issued ids
good_all cid_len n issued ids i l h = rw (drop_all i ids l) at h

-- and they are no more than are asked for
pub given_few : (ids : List IssuedCid) (s : ConnectionIds) → give_refusal ids s ≡ None → length ids ≤ s.asked
unfolding give_refusal may_give
given_few ids s h =
    (elim (nat_lt (may_give s) (length ids)) as (λ b. nat_lt (may_give s) (length ids) ≡ b → length ids ≤ s.asked) [
      | true ↦ λ e. let bad = rw e at h in absurd (cc)
      | false ↦ λ e. let fits : length ids ≤ may_give s = grind (arith, nat_tests) in omega arith
    ]) refl

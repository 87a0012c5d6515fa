use Rattle.std.proofs.Common.{◌≡◌, ◌∙◌, false, true, sym, refl, ap, subst}
use Rattle.std.specs.List.{list_any}
use Rattle.std.specs.Prelude.{nat_lt}
use Rattle.qc_ids.specs.CidState.{local_cids}
use Rattle.qc_ids.specs.LocalCids.{LocalCids, count_between, newly_asked, timed_out}
use Rattle.qc_ids.proofs.Numbers.{none_after, none_answer, waits_after, waits_answer, raises_after, raises_answer}
use Rattle.qc_ids.proofs.cid_state.CidState.on_cid_timeout.Goals as goal

pub returns-in_default-clause-answer : goal.returns-in_default-clause-answer
returns-in_default-clause-answer c = subst (λ (v : LocalCids). 0 ≡ newly_asked v) c.self.view_is (none_answer (local_cids c.self.inside) c.in_default.ensures.none)

pub returns-in_default-clause-after : goal.returns-in_default-clause-after
returns-in_default-clause-after c =
    let s = local_cids c.self.inside in
    let left : record s { expiries = c.pop.new.self } ≡ s = rw (c.in_default.ensures.unchanged, c.in_default.ensures.none) refl in
    left ∙ (none_after s c.in_default.ensures.none ∙ ap timed_out c.self.view_is)

pub returns-then-any_below-clause-answer : goal.returns-then-any_below-clause-answer
returns-then-any_below-clause-answer c =
    let s = local_cids c.self.inside in
    let waits : list_any (λ n. nat_lt n s.retire_prior_to) s.active ≡ true = sym (rw c.as_slice.ensures at c.any_below.ensures) ∙ c.if-any_below.true in
    subst (λ (v : LocalCids). 0 ≡ newly_asked v) c.self.view_is (waits_answer s c.in-Some.expiry c.pop.new.self c.in-Some.ensures.first waits)

pub returns-then-any_below-clause-after : goal.returns-then-any_below-clause-after
returns-then-any_below-clause-after c =
    let s = local_cids c.self.inside in
    let waits : list_any (λ n. nat_lt n s.retire_prior_to) s.active ≡ true = sym (rw c.as_slice.ensures at c.any_below.ensures) ∙ c.if-any_below.true in
    waits_after s c.in-Some.expiry c.pop.new.self c.in-Some.ensures.first waits ∙ ap timed_out c.self.view_is

pub returns-clause-answer : goal.returns-clause-answer
returns-clause-answer c =
    let s = local_cids c.self.inside in
    let free : list_any (λ n. nat_lt n s.retire_prior_to) s.active ≡ false = sym (rw c.as_slice.ensures at c.any_below.ensures) ∙ c.if-any_below.false in
    let counted : c.count.result ≡ count_between s.retire_prior_to c.in-Some.expiry.end s.active = rw c.as_slice-2.ensures at c.count.ensures in
    counted ∙ (raises_answer s c.in-Some.expiry c.pop.new.self c.in-Some.ensures.first free ∙ ap newly_asked c.self.view_is)

pub returns-clause-after : goal.returns-clause-after
returns-clause-after c =
    let s = local_cids c.self.inside in
    let free : list_any (λ n. nat_lt n s.retire_prior_to) s.active ≡ false = sym (rw c.as_slice.ensures at c.any_below.ensures) ∙ c.if-any_below.false in
    raises_after s c.in-Some.expiry c.pop.new.self c.in-Some.ensures.first free ∙ ap timed_out c.self.view_is

use Rattle.std.proofs.Common.{◌≡◌, ◌+◌, ◌<◌, ◌≤◌, suc, get_or, length, true, false, ap, ◌∙◌, arith, add-one, length-set}
use Rattle.qc_base.specs.declared.range_set.NumberRange.{NumberRange}
use Rattle.qc_base.proofs.AddedRanges.{nowhere, latest_all, addition, short_addition, neighbours, above_none, above_next, added_beyond, added_before, added_lowers, added_raises, added_inside, added_joins}
use Rattle.qc_base.proofs.range_set.add.Goals as goal

pub returns-then-place-len : goal.returns-then-place-len
returns-then-place-len c =
    let old = c.args.ranges.now.items in
    let all = added_beyond c.args.n old c.place_of-place.result (omega arith) c.place_of-place.ensures.below in
    let a = addition c.args.n old _ c.put.new.ranges.items true c.requires all c.put.ensures in
    record { numbers = a.0; answer = a.1 }

pub returns-then-first-n : goal.returns-then-first-n
returns-then-first-n c =
    let old = c.args.ranges.now.items in
    let first : c.range_at-first.result.first ≡ (get_or old c.place_of-place.result nowhere).first = ap (λ (r : NumberRange). r.first) c.range_at-first.ensures in
    let last : c.range_at-first.result.last ≡ (get_or old c.place_of-place.result nowhere).last = ap (λ (r : NumberRange). r.last) c.range_at-first.ensures in
    let all = added_inside c.args.n old c.place_of-place.result (omega arith) c.place_of-place.ensures.below (omega arith) (omega arith) in
    let a = short_addition c.args.n old old false c.requires all (omega arith) in
    record { numbers = a.0; answer = a.1 }

pub returns-then-first-n-eq1 : goal.returns-then-first-n-eq1
returns-then-first-n-eq1 c =
    let old = c.args.ranges.now.items in
    let first : c.range_at-first.result.first ≡ (get_or old c.place_of-place.result nowhere).first = ap (λ (r : NumberRange). r.first) c.range_at-first.ensures in
    let written = rw c.range_at-first.ensures at c.set_at.ensures in
    let all = added_lowers c.args.n old c.place_of-place.result (omega arith) c.place_of-place.ensures.below (omega arith) in
    let a = addition c.args.n old _ c.set_at.new.ranges.items true c.requires all
    (written ∙ latest_all _ (omega (arith, length-set old c.place_of-place.result (record { first = c.args.n; last = (get_or old c.place_of-place.result nowhere).last })))) in
    record { numbers = a.0; answer = a.1 }

pub returns-then-n-last : goal.returns-then-n-last
returns-then-n-last c =
    let old = c.args.ranges.now.items in
    let first : c.range_at-first.result.first ≡ (get_or old c.place_of-place.result nowhere).first = ap (λ (r : NumberRange). r.first) c.range_at-first.ensures in
    let all = added_before c.args.n old c.place_of-place.result (omega arith) c.place_of-place.ensures.below (omega arith) in
    let a = addition c.args.n old _ c.put-then-n-last.new.ranges.items true c.requires all c.put-then-n-last.ensures in
    record { numbers = a.0; answer = a.1 }

pub returns-then-next-len : goal.returns-then-next-len
returns-then-next-len c =
    let old = c.args.ranges.now.items in
    let last : c.range_at-first.result.last ≡ (get_or old c.place_of-place.result nowhere).last = ap (λ (r : NumberRange). r.last) c.range_at-first.ensures in
    let written = rw c.range_at-first.ensures at c.set_at-then-next-len.ensures in
    let touches : c.args.n ≤ (get_or old c.place_of-place.result nowhere).last + 1 = c.place_of-place.ensures.stops (omega arith) in
    let all = added_raises c.args.n old c.place_of-place.result (omega arith) c.place_of-place.ensures.below (omega arith)
    (above_none c.args.n old c.place_of-place.result (omega arith)) in
    let a = addition c.args.n old _ c.set_at-then-next-len.new.ranges.items true c.requires all
    (written ∙ latest_all _ (omega (arith, length-set old c.place_of-place.result (record { first = (get_or old c.place_of-place.result nowhere).first; last = c.args.n })))) in
    record { numbers = a.0; answer = a.1 }

pub overflow_add-n : goal.overflow_add-n
overflow_add-n c =
    let old = c.args.ranges.now.items in
    let last : c.range_at-first.result.last ≡ (get_or old c.place_of-place.result nowhere).last = ap (λ (r : NumberRange). r.last) c.range_at-first.ensures in
    let touches : c.args.n ≤ (get_or old c.place_of-place.result nowhere).last + 1 = c.place_of-place.ensures.stops (omega arith) in
    let after : c.range_at-after.result.first ≡ (get_or old (suc c.place_of-place.result) nowhere).first =
    ap (λ (r : NumberRange). r.first) (rw add-one at c.range_at-after.ensures) in
    let apart : (get_or old c.place_of-place.result nowhere).last + 1 < (get_or old (suc c.place_of-place.result) nowhere).first =
    neighbours old c.place_of-place.result c.requires (omega arith) in
    omega (arith, c.range_at-after.type_inv)

pub returns-then-after-n : goal.returns-then-after-n
returns-then-after-n c =
    let old = c.args.ranges.now.items in
    let place = c.place_of-place.result in
    let last : c.range_at-first.result.last ≡ (get_or old place nowhere).last = ap (λ (r : NumberRange). r.last) c.range_at-first.ensures in
    let touches : c.args.n ≤ (get_or old place nowhere).last + 1 = c.place_of-place.ensures.stops (omega arith) in
    let after : c.range_at-after.result.first ≡ (get_or old (suc place) nowhere).first =
    ap (λ (r : NumberRange). r.first) (rw add-one at c.range_at-after.ensures) in
    let all = added_joins c.args.n old place (omega arith) c.place_of-place.ensures.below (omega arith) (omega arith) in
    let written = rw (c.range_at-first.ensures, c.range_at-after.ensures, add-one) at c.set_at-then-after-n.ensures in
    let removed = rw (written, add-one) at c.remove.ensures.items in
    let a = addition c.args.n old _ c.remove.new.self.items true c.requires all
    (removed ∙ latest_all _ (omega (
      arith,
      ap length removed,
      ap length written,
      c.remove.ensures.len,
      length-set old place (record { first = (get_or old place nowhere).first; last = (get_or old (suc place) nowhere).last }),
    ))) in
    record { numbers = a.0; answer = a.1 }

pub returns : goal.returns
returns c =
    let old = c.args.ranges.now.items in
    let place = c.place_of-place.result in
    let last : c.range_at-first.result.last ≡ (get_or old place nowhere).last = ap (λ (r : NumberRange). r.last) c.range_at-first.ensures in
    let touches : c.args.n ≤ (get_or old place nowhere).last + 1 = c.place_of-place.ensures.stops (omega arith) in
    let after : c.range_at-after.result.first ≡ (get_or old (suc place) nowhere).first =
    ap (λ (r : NumberRange). r.first) (rw add-one at c.range_at-after.ensures) in
    let apart : (get_or old place nowhere).last + 1 < (get_or old (suc place) nowhere).first = neighbours old place c.requires (omega arith) in
    let all = added_raises c.args.n old place (omega arith) c.place_of-place.ensures.below (omega arith)
    (above_next c.args.n old place (omega arith) (omega arith)) in
    let written = rw c.range_at-first.ensures at c.set_at-2.ensures in
    let a = addition c.args.n old _ c.set_at-2.new.ranges.items true c.requires all
    (written ∙ latest_all _ (omega (arith, length-set old place (record { first = (get_or old place nowhere).first; last = c.args.n })))) in
    record { numbers = a.0; answer = a.1 }

use Rattle.std.proofs.Common.{◌∙◌, ap, sym, ℕ, List, length, drop, subst, arith}
use Rattle.qc_send_stream.specs.Segments.{Listed}
use Rattle.qc_send_stream.proofs.LostEnds.{lowest_split, lowest_empty, lowest_lost, pop_listed, none_lost}
use Rattle.qc_send_stream.proofs.ends.first_lost.Goals as goal

pub loop-end-smaller : goal.loop-end-smaller
loop-end-smaller c =
    let all = lowest_split c.loop-end.lost.keys c.in-Some.end (sym c.in-Some.ensures.value) in
    let long = ap (λ (l : List ℕ). length l) all in
    rw c.drop_lowest.ensures (omega (arith, long))

pub loop-end-preserved : goal.loop-end-preserved
loop-end-preserved c =
    let all = lowest_split c.loop-end.lost.keys c.in-Some.end (sym c.in-Some.ensures.value) in
    rw c.drop_lowest.ensures
    (pop_listed c.in-Some.end 0 c.args.segments.now.entries (drop 1 c.loop-end.lost.keys) c.requires.apart
    (subst (λ (l : List ℕ). Listed c.args.segments.now.entries l) all c.loop-end.invariant) (sym c.is_lost.ensures ∙ c.if-is_lost.false))

pub returns-then-is_lost-clause-value : goal.returns-then-is_lost-clause-value
returns-then-is_lost-clause-value c =
    sym (lowest_lost c.in-Some.end 0 c.args.segments.now.entries c.loop-end.lost.keys c.requires.apart c.loop-end.invariant c.in-Some.ensures.least (sym c.is_lost.ensures ∙ c.if-is_lost.true))

pub returns-clause-value : goal.returns-clause-value
returns-clause-value c =
    sym (none_lost c.args.segments.now.entries
    (subst (λ (l : List ℕ). Listed c.args.segments.now.entries l) (lowest_empty c.loop-end.lost.keys (sym c.in_default.ensures.value)) c.loop-end.invariant))

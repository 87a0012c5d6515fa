use Rattle.std.proofs.Common.{◌≡◌, ◌∙◌, ap, sym, ℕ, List, Bool, Option, Some, ◌-◌, length, take, arith, refl}
use Rattle.std.specs.List.{slice_range}
use Rattle.qc_send_stream.specs.Segments.{begin, front_of, straddling}
use Rattle.qc_send_stream.proofs.Past.{past_some, past_none}
use Rattle.qc_send_stream.proofs.Cutting.{behind_bounds, front_whole_of, front_here_of}
use Rattle.qc_send_stream.proofs.segments.straddling.Goals as goal

pub returns-in_default : goal.returns-in_default
unfolding straddling front_of
returns-in_default c = rw (past_none c.args.at c.args.segments.now.entries (sym (c.range.ensures.between tt) ∙ c.in_default.ensures.steps.0)) refl

pub overflow_sub-start : goal.overflow_sub-start
overflow_sub-start c =
    let found = past_some c.args.at c.args.segments.now.entries _ c.next.new.self (sym (c.range.ensures.between tt) ∙ c.in-Some.ensures.steps) in
    omega (arith, behind_bounds 0 c.args.at (c.in-Some.end.now, c.in-Some.segment.now) c.args.segments.now.entries c.requires found)

pub returns-then-at-start : goal.returns-then-at-start
unfolding begin
returns-then-at-start c =
    let found = past_some c.args.at c.args.segments.now.entries _ c.next.new.self (sym (c.range.ensures.between tt) ∙ c.in-Some.ensures.steps) in
    sym (front_whole_of c.args.at c.args.segments.now.entries (c.in-Some.end.now, c.in-Some.segment.now) found (omega arith))

pub slice-requires-clause-in_bounds : goal.slice-requires-clause-in_bounds
slice-requires-clause-in_bounds c =
    let found = past_some c.args.at c.args.segments.now.entries _ c.next.new.self (sym (c.range.ensures.between tt) ∙ c.in-Some.ensures.steps) in
    omega (arith, behind_bounds 0 c.args.at (c.in-Some.end.now, c.in-Some.segment.now) c.args.segments.now.entries c.requires found)

front_slice : (n : ℕ) (p : List ℕ) → slice_range p 0 n ≡ take n p
front_slice n p = let e : n - 0 ≡ n = omega arith in ap (λ (i : ℕ). take i p) e

pub returns : goal.returns
unfolding begin
returns c =
    let found = past_some c.args.at c.args.segments.now.entries _ c.next.new.self (sym (c.range.ensures.between tt) ∙ c.in-Some.ensures.steps) in
    let same = c.in_ok-front.ensures.ok ∙ front_slice (c.args.at - (c.in-Some.end.now - c.len.result)) c.in-Some.segment.now.bytes in
    let e : c.args.at - (c.in-Some.end.now - c.len.result) ≡ c.args.at - (c.in-Some.end.now - length c.in-Some.segment.now.bytes) = omega arith in
    ap (λ (b : List ℕ). (let r : Option (ℕ × List ℕ × Bool) = Some (c.in-Some.end.now, b, c.in-Some.segment.now.lost) in r))
    (same ∙ ap (λ (i : ℕ). take i c.in-Some.segment.now.bytes) e)
    ∙ sym (front_here_of c.args.at c.args.segments.now.entries (c.in-Some.end.now, c.in-Some.segment.now) found (omega arith))

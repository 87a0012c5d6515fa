use Rattle.std.proofs.Common.{◌≡◌, ◌∙◌, ap, sym, ℕ, List, ◌-◌, ◌+◌, length, take, drop, arith, refl, length-drop}
use Rattle.std.specs.Prelude.{min}
use Rattle.std.specs.List.{slice_range}
use Rattle.std.proofs.lemmas.List.{take_min}
use Rattle.qc_send_stream.specs.Segments.{part_from}
use Rattle.qc_send_stream.proofs.Past.{past_some, past_none}
use Rattle.qc_send_stream.proofs.Cutting.{behind_bounds}
use Rattle.qc_send_stream.proofs.Next.{part_here}
use Rattle.qc_send_stream.proofs.parts.fresh_part.Goals as goal

pub returns-in_default : goal.returns-in_default
unfolding part_from
returns-in_default c = rw (past_none c.args.sent c.args.segments.now.entries (sym (c.range.ensures.between tt) ∙ c.in_default.ensures.steps.0)) refl

pub overflow_sub-start : goal.overflow_sub-start
overflow_sub-start c =
    let found = past_some c.args.sent c.args.segments.now.entries _ c.next.new.self (sym (c.range.ensures.between tt) ∙ c.in-Some.ensures.steps) in
    omega (arith, behind_bounds 0 c.args.sent (c.in-Some.end.now, c.in-Some.segment.now) c.args.segments.now.entries c.requires found)

-- a slice that ends where its bytes are counted to
part_slice : (most skip count : ℕ) (p : List ℕ) → count ≡ min most (length p - skip) → slice_range p skip (skip + count) ≡ take most (drop skip p)
part_slice most skip count p few =
    let n : skip + count - skip ≡ count = omega arith in
    let long : length (drop skip p) ≡ length p - skip = length-drop skip p in
    ap (λ (i : ℕ). take i (drop skip p)) (n ∙ few ∙ ap (λ (i : ℕ). min most i) (sym long)) ∙ take_min most (drop skip p)

pub returns : goal.returns
returns c =
    let found = past_some c.args.sent c.args.segments.now.entries _ c.next.new.self (sym (c.range.ensures.between tt) ∙ c.in-Some.ensures.steps) in
    let few : c.min-count.result ≡ min c.args.most (length c.in-Some.segment.now.bytes - c.saturating_sub-passed.result) =
    c.min-count.ensures ∙ ap (λ (i : ℕ). min c.args.most (i - c.saturating_sub-passed.result)) c.len-2.ensures.value in
    let same = c.in_ok-bytes.ensures.ok ∙ part_slice c.args.most c.saturating_sub-passed.result c.min-count.result c.in-Some.segment.now.bytes few in
    let passed : c.saturating_sub-passed.result ≡ c.args.sent - (c.in-Some.end.now - length c.in-Some.segment.now.bytes) =
    c.saturating_sub-passed.ensures ∙ ap (λ (i : ℕ). c.args.sent - (c.in-Some.end.now - i)) c.len.ensures.value in
    rw (c.len.ensures.value, same, passed) (sym (part_here c.args.sent c.args.most c.in-Some.end.now c.in-Some.segment.now c.args.segments.now.entries found))

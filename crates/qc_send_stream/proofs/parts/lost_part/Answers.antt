use Rattle.std.proofs.Common.{◌≡◌, ◌∙◌, ap, sym, ℕ, List, ◌-◌, take, arith}
use Rattle.std.specs.Prelude.{min}
use Rattle.std.specs.List.{slice_range}
use Rattle.std.proofs.lemmas.List.{take_min}
use Rattle.qc_send_stream.proofs.Next.{lost_there, lost_is}
use Rattle.qc_send_stream.proofs.parts.lost_part.Goals as goal

pub unreachable-requires : goal.unreachable-requires
unreachable-requires c = lost_there c.args.end c.args.segments.now.entries c.requires.apart c.requires.first c.in_default.ensures.value

pub overflow_sub-start : goal.overflow_sub-start
overflow_sub-start c =
    omega (arith, (lost_is c.args.most c.args.end c.in-Some.segment.now c.args.segments.now.entries c.requires.apart c.requires.first c.in-Some.ensures.value).0)

front_slice : (n : ℕ) (p : List ℕ) → slice_range p 0 n ≡ take n p
front_slice n p = let e : n - 0 ≡ n = omega arith in ap (λ (i : ℕ). take i p) e

pub returns : goal.returns
returns c =
    let is = lost_is c.args.most c.args.end c.in-Some.segment.now c.args.segments.now.entries c.requires.apart c.requires.first c.in-Some.ensures.value in
    let same : c.in_ok-bytes.bytes ≡ take c.args.most c.in-Some.segment.now.bytes =
    c.in_ok-bytes.ensures.ok ∙ front_slice c.min.result c.in-Some.segment.now.bytes
    ∙ ap (λ (i : ℕ). take i c.in-Some.segment.now.bytes) (c.min.ensures ∙ ap (λ (i : ℕ). min c.args.most i) c.len-2.ensures.value)
    ∙ take_min c.args.most c.in-Some.segment.now.bytes in
    rw (c.len.ensures.value, same) (sym is.1)

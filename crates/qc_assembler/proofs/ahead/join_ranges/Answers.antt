use Rattle.std.proofs.Common.{◌≡◌, ◌∙◌, ℕ, ap, sym, Option, Some}
use Rattle.qc_assembler.specs.Ahead.{AreRanges, listed, range_past}
use Rattle.qc_assembler.proofs.Noting.{join, joined_at}
use Rattle.qc_assembler.proofs.ahead.join_ranges.Goals as goal
use Rattle.qc_assembler.proofs.ahead.join_ranges.Goals.{After-merge}

joins : (c : After-merge)
    → (listed (joined_at c.args.at c.in-Some-range_past.end c.in-Some.start c.args.ranges.now.entries) ≡ listed c.args.ranges.now.entries)
    × AreRanges 0 (joined_at c.args.at c.in-Some-range_past.end c.in-Some.start c.args.ranges.now.entries)
joins c =
    let found : range_past c.args.at c.args.ranges.now.entries ≡ Some (c.in-Some-range_past.end, c.args.at) =
    sym c.in-Some-range_past.ensures ∙ ap (λ (i : ℕ). (let p : Option (ℕ × ℕ) = Some (c.in-Some-range_past.end, i) in p)) c.if-next-at.true in
    join 0 c.args.at c.in-Some-range_past.end c.in-Some.start c.args.ranges.now.entries c.requires c.in-Some.ensures found

pub returns-then-next-at-clause-same : goal.returns-then-next-at-clause-same
returns-then-next-at-clause-same c = rw c.merge.ensures (joins c).0

pub returns-then-next-at-clause-ranges : goal.returns-then-next-at-clause-ranges
returns-then-next-at-clause-ranges c = rw c.merge.ensures (joins c).1

use Rattle.std.proofs.Common.{arith}
use Rattle.qc_assembler.proofs.Noting.{note_listed, note_ranges}
use Rattle.qc_assembler.proofs.ahead.note_range.Goals as goal

pub join_ranges-requires : goal.join_ranges-requires
join_ranges-requires c =
    rw c.in_ok-insert.ensures.entries (note_ranges 0 c.args.start c.args.end c.args.ranges.now.entries c.requires.ranges (omega arith) c.requires.some c.requires.gap)

pub returns-clause-noted : goal.returns-clause-noted
returns-clause-noted c =
    rw (c.join_ranges-2.ensures.same, c.join_ranges.ensures.same, c.in_ok-insert.ensures.entries)
    (note_listed 0 c.args.start c.args.end c.args.ranges.now.entries c.requires.ranges (omega arith) c.requires.some c.requires.gap)

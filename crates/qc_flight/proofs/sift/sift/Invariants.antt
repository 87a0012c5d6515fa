use Rattle.std.proofs.Common.{◌≡◌, ◌+◌, ◌≤◌}
use Rattle.qc_flight.proofs.Sifting.{Sifts}
use Rattle.qc_flight.proofs.sift.sift.Given as goal

abbrev pub invariant-loop-left : goal.invariant-loop-left
invariant-loop-left g l = Sifts (g.T.Test.passes l.fn.test) (g.T.Test.passes l.test) l.fn.row.items l.count l.row.items l.left l.buffer.items l.kept
    × (l.row.len + l.count ≡ l.fn.row.len + l.left) × (l.row.cap ≡ l.fn.row.cap) × (l.buffer.len + l.left ≡ l.count) × (l.count ≤ l.buffer.cap) × (l.kept ≤ l.buffer.len)

abbrev pub decreases-loop-left : goal.decreases-loop-left
decreases-loop-left g l = l.left

use Rattle.std.proofs.Common.{◌≡◌, ◌+◌, ◌-◌, ◌≤◌, drop}
use Rattle.qc_datagrams.specs.Queue.{total}
use Rattle.qc_datagrams.proofs.queue.count.Given as goal

abbrev pub invariant-loop-place : goal.invariant-loop-place
invariant-loop-place l = (l.place ≤ l.items.len) × (l.sum + total (drop l.place l.items.items) ≡ total l.items.items)

abbrev pub decreases-loop-place : goal.decreases-loop-place
decreases-loop-place l = l.items.len - l.place

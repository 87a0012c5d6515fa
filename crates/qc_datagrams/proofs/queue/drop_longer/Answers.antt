use Rattle.std.proofs.Common.{◌≤◌, arith}
use Rattle.qc_datagrams.specs.Queue.{no_longer_than, total}
use Rattle.qc_datagrams.proofs.Room.{total_within}
use Rattle.qc_datagrams.proofs.queue.drop_longer.Goals as goal

pub count-requires : goal.count-requires
count-requires c =
    let less : total (no_longer_than c.args.most c.args.items.now.items) ≤ total c.args.items.now.items = total_within c.args.most c.args.items.now.items in
    rw c.keep_within.ensures (omega (arith, less, c.requires))

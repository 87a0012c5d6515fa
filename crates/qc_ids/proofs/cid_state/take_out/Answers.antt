use Rattle.std.proofs.Common.{◌^◌}
use Rattle.qc_ids.proofs.Numbers.{taken_out}
use Rattle.qc_ids.proofs.cid_state.take_out.Goals as goal

pub returns-in-Some : goal.returns-in-Some
returns-in-Some c =
    let found = rw c.as_slice.ensures at c.in-Some.ensures.found in
    taken_out c.args.sequence c.in-Some.place (2 ^ 64) c.args.active.now.items c.remove.new.self.items c.requires found.0 found.1 c.remove.ensures.items

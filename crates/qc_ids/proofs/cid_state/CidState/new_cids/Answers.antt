use Rattle.std.proofs.Common.{◌≡◌, ◌+◌, ◌<◌, ◌≤◌, [], length, sym, arith}
use Rattle.std.proofs.lemmas.Grind.{common_steps}
use Rattle.std.proofs.lemmas.List.{nil_from_length}
use Rattle.qc_ids.specs.LocalCids.{AreNext}
use Rattle.qc_ids.proofs.Numbers.{issued_none, next_fit}
use Rattle.qc_ids.proofs.cid_state.CidState.new_cids.Goals as goal

pub returns-then-is_empty-clause-ok : goal.returns-then-is_empty-clause-ok
returns-then-is_empty-clause-ok c =
    let none : c.args.ids.now ≡ [] = nil_from_length c.args.ids.now (grind (arith, common_steps)) in
    rw none (sym (issued_none c.args.now c.args.self.now))

pub overflow_add-end : goal.overflow_add-end
overflow_add-end c =
    let some : 0 < length c.args.ids.now = grind (arith, common_steps) in
    let next : AreNext c.self.inside.issued c.args.ids.now = rw (← c.self.view_is) at c.requires in
    let fits : c.self.inside.issued + length c.args.ids.now ≤ 4611686018427387904 = next_fit c.self.inside.issued c.args.ids.now some next in
    omega arith

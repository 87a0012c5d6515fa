use Rattle.std.proofs.Common.{◌≡◌, ℕ, ◌<◌, List, ◌∷◌, length, ap, subst, arith}
use Rattle.std.proofs.lemmas.Bool.Decides.{nat_tests}
use Rattle.qc_frame.specs.Payload.{item_view, items_of}
use Rattle.qc_frame.proofs.Items.{items_none, items_item}
use Rattle.qc_frame.proofs.iter.IterIterator.next.Goals as goal

pub returns-then-is_empty-clause-steps : goal.returns-then-is_empty-clause-steps
returns-then-is_empty-clause-steps c =
    let none : length c.args.self.now ≡ 0 = grind (arith, nat_tests) in
    (items_none _ none, items_none _ none)

pub returns-clause-steps : goal.returns-clause-steps
returns-clause-steps c =
    let some : 0 < length c.self.inside.bytes.now = grind (arith, nat_tests) in
    subst (λ (a : List ℕ). items_of a ≡ item_view c.read_item-item.result.0 ∷ items_of c.read_item-item.result.1.now) c.self.view_is
    (items_item c.self.inside.bytes.now c.read_item-item.result.0 c.read_item-item.result.1.now some c.read_item-item.ensures)

pub returns-clause-goes : goal.returns-clause-goes
returns-clause-goes c = let step = returns-clause-steps c in record { on = λ _. (tt, tt, omega (arith, ap length step)); keeps = tt; rests = λ _. tt }

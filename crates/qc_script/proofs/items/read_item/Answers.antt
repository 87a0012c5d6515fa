use Rattle.std.proofs.Common.{arith}
use Rattle.qc_script.proofs.ItemLemmas.{not_behind}
use Rattle.qc_script.proofs.items.read_item.Goals as goal

pub returns-else-before-place : goal.returns-else-before-place
returns-else-before-place c = not_behind c.args.side c.args.before c.args.text.now c.in-Some-2.setting (rw c.in-Some-2.is at c.in_ok-setting.ensures) (omega (arith, c.place.ensures))

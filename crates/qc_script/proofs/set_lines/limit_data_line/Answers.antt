use Rattle.std.proofs.Common.{arith}
use Rattle.qc_script.proofs.SettingLemmas.{limit_data_next, no_limit_data}
use Rattle.qc_script.proofs.set_lines.limit_data_line.Goals as goal

pub returns-in-Some : goal.returns-in-Some
returns-in-Some c side = limit_data_next c.args.digits.now c.in-Some.packets c.in-Some.ensures (omega arith) side

pub returns-in-None : goal.returns-in-None
returns-in-None c = no_limit_data c.args.digits.now c.in-None.ensures

use Rattle.std.proofs.Common.{arith}
use Rattle.qc_script.proofs.SettingLemmas.{limit_handshake_next, no_limit_handshake}
use Rattle.qc_script.proofs.set_lines.limit_handshake_line.Goals as goal

pub returns-in-Some : goal.returns-in-Some
returns-in-Some c side = limit_handshake_next c.args.digits.now c.in-Some.packets c.in-Some.ensures (omega arith) side

pub returns-in-None : goal.returns-in-None
returns-in-None c = no_limit_handshake c.args.digits.now c.in-None.ensures

use Rattle.std.proofs.Common.{arith}
use Rattle.qc_base.specs.declared.side.Side.TheVariants.{Client, Server}
use Rattle.qc_script.proofs.SettingLemmas.{clock_next, no_clock}
use Rattle.qc_script.proofs.set_lines.clock_line.Goals as goal

pub returns-in-Client : goal.returns-in-Client
returns-in-Client c = rw c.in-Client.is (no_clock c.args.digits.now Client (λ seconds none e. none))

pub returns-in-Some : goal.returns-in-Some
returns-in-Some c = rw c.in-Server.is (clock_next c.args.digits.now c.in-Some.seconds Server c.in-Some.ensures (omega arith))

pub returns-in-None : goal.returns-in-None
returns-in-None c = rw c.in-Server.is (no_clock c.args.digits.now Server (λ seconds within. c.in-None.ensures seconds within))

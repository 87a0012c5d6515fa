use Rattle.std.proofs.Common.{arith}
use Rattle.qc_base.specs.declared.side.Side.TheVariants.{Client, Server}
use Rattle.qc_script.proofs.SettingLemmas.{sent_next, no_sent}
use Rattle.qc_script.proofs.set_lines.sent_line.Goals as goal

pub returns-in-Client : goal.returns-in-Client
returns-in-Client c = rw c.in-Client.is (no_sent c.args.digits.now Client (λ count none e. none))

pub returns-in-Some : goal.returns-in-Some
returns-in-Some c = rw c.in-Server.is (sent_next c.args.digits.now c.in-Some.count Server c.in-Some.ensures (omega arith))

pub returns-in-None : goal.returns-in-None
returns-in-None c = rw c.in-Server.is (no_sent c.args.digits.now Server (λ count within. c.in-None.ensures count within))

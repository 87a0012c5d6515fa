use Rattle.qc_base.specs.declared.side.Side.TheVariants.{Client, Server}
use Rattle.qc_script.proofs.SettingLemmas.{validated_next, no_validated}
use Rattle.qc_script.proofs.set_lines.validated_line.Goals as goal

pub returns-in-Client : goal.returns-in-Client
returns-in-Client c = rw c.in-Client.is (no_validated c.args.field.now Client (λ flag none e. none))

pub returns-in-Some : goal.returns-in-Some
returns-in-Some c = rw c.in-Server.is (validated_next c.args.field.now c.in-Some.validated Server c.in-Some.ensures tt)

pub returns-in-None : goal.returns-in-None
returns-in-None c = rw c.in-Server.is (no_validated c.args.field.now Server (λ flag within. c.in-None.ensures flag))

use Rattle.qc_base.specs.declared.side.Side.TheVariants.{Client, Server}
use Rattle.qc_script.proofs.SettingLemmas.{token_next, no_token}
use Rattle.qc_script.proofs.set_lines.token_line.Goals as goal

pub returns-in-Server : goal.returns-in-Server
returns-in-Server c = rw c.in-Server.is (no_token c.args.field.now Server (λ bytes none e. none))

pub returns-in-Some : goal.returns-in-Some
returns-in-Some c =
    let bytes = rw c.in-Some.is at c.in_ok-bytes-in-Client.ensures in
    rw c.in-Client.is (token_next c.args.field.now c.in-Some.bytes Client bytes.0 bytes.1)

pub returns-in-None : goal.returns-in-None
returns-in-None c = rw c.in-Client.is (no_token c.args.field.now Client (rw c.in-None.is at c.in_ok-bytes-in-Client.ensures))

use Rattle.qc_base.specs.declared.side.Side.TheVariants.{Client, Server}
use Rattle.qc_script.proofs.SettingLemmas.{orig_next, no_orig}
use Rattle.qc_script.proofs.set_lines.orig_line.Goals as goal

pub returns-in-Client : goal.returns-in-Client
returns-in-Client c = rw c.in-Client.is (no_orig c.args.field.now Client (λ id none e. none))

pub returns-in-Some : goal.returns-in-Some
returns-in-Some c =
    let id = rw c.in-Some.is at c.in_ok-id-in-Server.ensures in
    rw c.in-Server.is (orig_next c.args.field.now c.in-Some.id Server id.0 id.1)

pub returns-in-None : goal.returns-in-None
returns-in-None c = rw c.in-Server.is (no_orig c.args.field.now Server (rw c.in-None.is at c.in_ok-id-in-Server.ensures))

use Rattle.std.proofs.Common.{arith}
use Rattle.qc_script.proofs.SettingLemmas.{remote_next, no_remote, remote_bytes, remote_short, client_remote, server_remote}
use Rattle.qc_script.proofs.set_lines.remote_line.Goals as goal
use Rattle.qc_script.proofs.set_lines.remote_line.Goals.{in-Client, in-Server}

pub returns-in_default : goal.returns-in_default
returns-in_default c = no_remote c.args.field.now c.args.side (λ id h. (rw c.in_default.is at c.in_ok-id.ensures) id (remote_bytes c.args.side id h))

pub returns-then-len-least : goal.returns-then-len-least
returns-then-len-least c =
    let id = rw c.in-Some.is at c.in_ok-id.ensures in
    elim c.match-side.branch [
      | in-Client w ↦ remote_short c.args.field.now c.in-Some.id c.args.side w.in-Client.is id.0 id.1 (omega (arith, w.least-is))
      | in-Server w ↦ absurd (omega (arith, w.least-is))
    ]

pub returns : goal.returns
returns c =
    let id = rw c.in-Some.is at c.in_ok-id.ensures in
    remote_next c.args.field.now c.in-Some.id c.args.side id.0 (elim c.match-side.branch [
      | in-Client w ↦ client_remote c.args.side c.in-Some.id w.in-Client.is id.1 (omega (arith, w.least-is))
      | in-Server w ↦ server_remote c.args.side c.in-Some.id w.in-Server.is id.1
    ])

use Rattle.qc_script.proofs.SettingLemmas.{addr_next, no_addr}
use Rattle.qc_script.proofs.set_lines.addr_line.Goals as goal

pub returns-in-Some : goal.returns-in-Some
returns-in-Some c side = let address = rw c.in-Some.is at c.in_ok-address.ensures in addr_next c.args.field.now c.in-Some.address address.0 address.1 side

pub returns-in-None : goal.returns-in-None
returns-in-None c = no_addr c.args.field.now (rw c.in-None.is at c.in_ok-address.ensures)

use Rattle.qc_laws.proofs.CidUses.{run_uses}
use Rattle.qc_laws.proofs.laws.known_ids_are_used.Goals as goal

pub returns : goal.returns
returns g c s last k is xs run new = run_uses _ k s is xs last run new

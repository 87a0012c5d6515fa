use Rattle.qc_laws.proofs.HarmlessBytes.{run_harmless}
use Rattle.qc_laws.proofs.laws.harmless_bytes.Goals as goal

pub returns : goal.returns
returns g c s last k is xs run = run_harmless _ k s is xs last run

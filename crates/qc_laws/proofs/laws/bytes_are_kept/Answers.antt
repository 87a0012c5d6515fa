use Rattle.qc_laws.proofs.CryptoKept.{run_keeps_bytes}
use Rattle.qc_laws.proofs.laws.bytes_are_kept.Goals as goal

pub returns : goal.returns
returns g c s last k is xs run ends = run_keeps_bytes _ k s is xs last run ends

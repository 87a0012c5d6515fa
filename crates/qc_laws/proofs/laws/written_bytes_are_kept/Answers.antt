use Rattle.qc_laws.proofs.BytesKept.{run_keeps_written}
use Rattle.qc_laws.proofs.laws.written_bytes_are_kept.Goals as goal

pub returns : goal.returns
returns g c s last k is xs run ends new = run_keeps_written _ k s is xs last run ends new

use Rattle.qc_laws.proofs.PieceLaws.{piece_tells}
use Rattle.qc_laws.proofs.laws.packets_tell.Goals as goal

pub returns : goal.returns
returns g c a coming p = piece_tells _ coming p a

use Rattle.qc_laws.proofs.PieceLaws.{datagram_tells}
use Rattle.qc_laws.proofs.laws.datagrams_tell.Goals as goal

pub returns : goal.returns
returns g c a coming bytes = datagram_tells _ coming bytes a

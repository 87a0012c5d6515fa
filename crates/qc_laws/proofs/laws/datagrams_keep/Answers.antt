use Rattle.qc_laws.proofs.DatagramLaws.{datagram_holds}
use Rattle.qc_laws.proofs.laws.datagrams_keep.Goals as goal

pub returns : goal.returns
returns g c s coming bytes = datagram_holds _ coming bytes s

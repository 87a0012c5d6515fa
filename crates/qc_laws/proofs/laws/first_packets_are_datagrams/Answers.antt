use Rattle.qc_laws.proofs.WholeDatagrams.{first_whole}
use Rattle.qc_laws.proofs.laws.first_packets_are_datagrams.Goals as goal

pub returns : goal.returns
returns g c a coming p source token spin which number payload behind bytes e awaits is_token opens = first_whole _ coming p source token spin which number payload behind bytes a e awaits is_token opens

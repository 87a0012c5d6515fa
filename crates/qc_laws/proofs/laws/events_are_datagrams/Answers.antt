use Rattle.qc_laws.proofs.WholeDatagrams.{event_whole}
use Rattle.qc_laws.proofs.laws.events_are_datagrams.Goals as goal

pub returns : goal.returns
returns g c a coming p behind bytes e awaits = event_whole _ coming p behind bytes a e awaits

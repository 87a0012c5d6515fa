use Rattle.qc_params.proofs.RoundTrip.{reads_back}
use Rattle.qc_params.proofs.laws.parameters_written_are_read.Goals as goal

pub returns : goal.returns
returns c = reads_back

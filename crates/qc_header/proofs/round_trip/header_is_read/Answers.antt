use Rattle.qc_header.proofs.RoundTrips as law
use Rattle.qc_header.proofs.round_trip.header_is_read.Goals as goal

pub returns : goal.returns
returns c = law.header_is_read

use Rattle.qc_header.proofs.RoundTrips as law
use Rattle.qc_header.proofs.round_trip.header_comes_back.Goals as goal

pub returns : goal.returns
returns c = law.header_comes_back

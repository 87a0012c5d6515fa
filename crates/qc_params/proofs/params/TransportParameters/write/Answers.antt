-- What was written is read back.
use Rattle.qc_params.proofs.RoundTrip.{ok_reads_back}
use Rattle.qc_params.proofs.params.TransportParameters.write.Goals as goal

pub returns-clause-reads_back : goal.returns-clause-reads_back
returns-clause-reads_back c = ok_reads_back c.args.self.now _ _ c.or_cut_back.ensures.answer c.put_rows.ensures.fits

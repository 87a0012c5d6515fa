use Rattle.std.proofs.Common.{ap}
use Rattle.qc_core.proofs.Skips.{skips_data}
use Rattle.qc_send.proofs.sealing.begin_packet.Goals as goal

-- a number of 1-RTT packets is skipped
pub do_skip-requires : goal.do_skip-requires
do_skip-requires g c = skips_data _ _ c.space-space.result c.is_skipped.result (ap (λ v. v.numbers) c.core.view_is) c.is_skipped.ensures c.if-is_skipped.true

use Rattle.qc_send.proofs.Spelled.{far_is}
use Rattle.qc_send.proofs.sealing.spelled_number.Goals as goal

-- four bytes, where none tell it apart
pub returns : goal.returns
returns c = far_is c.args.number c.args.acked c.if-number-acked.false

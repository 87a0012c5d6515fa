use Rattle.qc_header.proofs.FixedBits.{header_same}
use Rattle.qc_header.proofs.fixed_bit.fixed_bit_is_not_read.Goals as goal

pub returns : goal.returns
returns c = header_same

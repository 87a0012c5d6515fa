use Rattle.std.proofs.Common.{ap}
use Rattle.qc_assembler.specs.Assembly.{Assembly}
use Rattle.qc_assembler.specs.Ahead.{assembled}
use Rattle.qc_assembler.proofs.assembler.Assembler.bytes_read.Goals as goal

pub returns : goal.returns
unfolding assembled
returns c = ap (λ (a : Assembly). a.read) c.self.view_is

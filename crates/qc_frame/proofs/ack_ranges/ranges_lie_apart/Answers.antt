use Rattle.std.proofs.Common.{arith}
use Rattle.qc_frame.specs.FrameFits.{Fits}
use Rattle.qc_frame.specs.FrameSpelling.{numbers_of}
use Rattle.qc_frame.proofs.RangesUp.{ranges_normal, ranges_within, largest_there}
use Rattle.qc_frame.proofs.ack_ranges.ranges_lie_apart.Goals as goal

pub returns-clause-apart : goal.returns-clause-apart
unfolding Fits
returns-clause-apart c ack fits = ranges_normal ack.largest (numbers_of ack.additional) fits.2

pub returns-clause-within : goal.returns-clause-within
returns-clause-within c ack fits = ranges_within ack.largest ack.largest (numbers_of ack.additional) (omega arith)

pub returns-clause-largest : goal.returns-clause-largest
unfolding Fits
returns-clause-largest c ack fits = largest_there ack.largest (numbers_of ack.additional) fits.2

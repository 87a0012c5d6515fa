use Rattle.qc_frame.proofs.Numbers.{numbers_of-varints}
use Rattle.qc_frame.proofs.ReadFits.{read_fits}
use Rattle.qc_frame.proofs.WrittenPayload.{frame_read_back, payload_read_back, payload_with_last}
use Rattle.qc_frame.proofs.laws.written_is_read.Goals as goal

pub returns-clause-frame : goal.returns-clause-frame
returns-clause-frame c f rest fits = frame_read_back f rest fits

pub returns-clause-payload : goal.returns-clause-payload
returns-clause-payload c fs fits = payload_read_back fs fits

pub returns-clause-last : goal.returns-clause-last
returns-clause-last c fs f fits last = payload_with_last fs f fits last

pub returns-clause-ranges : goal.returns-clause-ranges
returns-clause-ranges c numbers fits = numbers_of-varints numbers fits

pub returns-clause-of_read : goal.returns-clause-of_read
returns-clause-of_read c f bytes rest size s = read_fits f bytes rest size s

use Rattle.std.proofs.Common.{◌∙◌, sym}
use Rattle.qc_streams.proofs.MarksOff.{one_filed, one_less, none_filed}
use Rattle.qc_streams.proofs.state.StreamsState.file_marks.Goals as goal

pub loop-id-smaller : goal.loop-id-smaller
loop-id-smaller c = one_less c.in-Some.id c.loop-id.self c.file.new.self (sym c.in-Some.ensures) c.in_ok-file.ensures

pub loop-id-preserved : goal.loop-id-preserved
loop-id-preserved c = one_filed c.in-Some.id c.loop-id.self c.file.new.self (sym c.in-Some.ensures) c.in_ok-file.ensures ∙ c.loop-id.invariant

pub returns : goal.returns
returns c = sym (none_filed c.loop-id.self (sym c.in_default.ensures)) ∙ c.loop-id.invariant

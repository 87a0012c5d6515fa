use Rattle.std.proofs.Common.{◌≡◌, length}
use Rattle.qc_streams.specs.Queues.{all_filed}
use Rattle.qc_streams.proofs.state.StreamsState.file_marks.Given as goal

abbrev pub invariant-loop-id : goal.invariant-loop-id
invariant-loop-id l = all_filed l.self.waiting.marks.ids l.self ≡ all_filed l.fn.self.waiting.marks.ids l.fn.self

abbrev pub decreases-loop-id : goal.decreases-loop-id
decreases-loop-id l = length l.self.waiting.marks.ids

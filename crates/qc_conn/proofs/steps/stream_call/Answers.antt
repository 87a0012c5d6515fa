use Rattle.qc_conn.proofs.StreamCalls.{stream_called}
use Rattle.qc_conn.proofs.steps.stream_call.Goals as goal

pub returns : goal.returns
returns g c = stream_called _ _ _ _ _ _ _ _ c.requires.streams c.clock.ensures c.time.ensures c.requires.none c.in_ok-answer.ensures

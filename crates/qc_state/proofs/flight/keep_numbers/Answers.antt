use Rattle.qc_state.proofs.flight.keep_numbers.Goals as goal

-- a frame of the streams without bytes is kept as it is
pub returns-in-ResetStream : goal.returns-in-ResetStream
returns-in-ResetStream c = rw c.in-ResetStream.is c.push.ensures.ok

pub returns-in-StopSending : goal.returns-in-StopSending
returns-in-StopSending c = rw c.in-StopSending.is c.push-in-StopSending.ensures.ok

pub returns-in-MaxStreamData : goal.returns-in-MaxStreamData
returns-in-MaxStreamData c = rw c.in-MaxStreamData.is c.push-in-MaxStreamData.ensures.ok

pub returns-in-MaxStreams : goal.returns-in-MaxStreams
returns-in-MaxStreams c = rw c.in-MaxStreams.is c.push-in-MaxStreams.ensures.ok

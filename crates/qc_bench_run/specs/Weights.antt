-- A number that depends on every field of a frame.
use Rattle.std.specs.Prelude.{ℕ, ◌+◌, length, Option, None, Some, unwrap_or}
use Rattle.std.specs.List.{sum}
use Rattle.qc_base.specs.Spelling.{bit}
use Rattle.qc_frame.specs.Frame.{FrameValue, AckValue}
use Rattle.qc_frame.specs.declared.frames.EcnCounts.{EcnCounts}
use Rattle.qc_frame.specs.declared.frames.FrameOf.TheVariants as frames
use Rattle.qc_frame.specs.declared.frames.NewConnectionId.{NewConnectionId}

-- the sum of an ACK's counts, where there are any
abbrev pub counts_sum : Option EcnCounts → ℕ
counts_sum None = 0
counts_sum (Some counts) = counts.ect0 + counts.ect1 + counts.ce

-- of an ACK, how long its ranges are, and not what they say
abbrev pub ack_sum : AckValue → ℕ
ack_sum ack = ack.largest + ack.delay + length ack.additional + counts_sum ack.ecn

-- of an id and its token, their bytes
abbrev pub id_sum : NewConnectionId → ℕ
id_sum new = new.sequence + new.retire_prior_to + (sum new.reset_token + sum new.id)

-- the sum of a frame's numbers and of the lengths of its byte strings
unfoldable pub frame_sum : FrameValue → ℕ
frame_sum frames.Padding = 0
frame_sum frames.Ping = 0
frame_sum (frames.Ack ack) = ack_sum ack
frame_sum (frames.ResetStream id code size) = id + code + size
frame_sum (frames.StopSending id code) = id + code
frame_sum (frames.Crypto offset body) = offset + length body
frame_sum (frames.NewToken token) = length token
frame_sum (frames.Stream id offset fin body) = id + offset + bit fin 1 + length body
frame_sum (frames.MaxData limit) = limit
frame_sum (frames.MaxStreamData id offset) = id + offset
frame_sum (frames.MaxStreams dir count) = count
frame_sum (frames.DataBlocked offset) = offset
frame_sum (frames.StreamDataBlocked id offset) = id + offset
frame_sum (frames.StreamsBlocked dir limit) = limit
frame_sum (frames.NewConnectionId new) = id_sum new
frame_sum (frames.RetireConnectionId sequence) = sequence
frame_sum (frames.PathChallenge word) = word
frame_sum (frames.PathResponse word) = word
frame_sum (frames.ConnectionClose code ty reason) = code + unwrap_or ty 0 + length reason
frame_sum (frames.ApplicationClose code reason) = code + length reason
frame_sum frames.HandshakeDone = 0
frame_sum (frames.Datagram body) = length body

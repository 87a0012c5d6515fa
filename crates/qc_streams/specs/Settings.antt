-- What the application sets, and asks of a stream that it sends on
use Rattle.std.specs.Prelude.{ℕ, ℤ, ◌+◌, Bool, true, false, ◌||◌, max, Option, None, Some}
use Rattle.qc_base.specs.declared.side.Dir.{Dir}
use Rattle.qc_base.specs.declared.varint.VarInt.{VarInt}
use Rattle.qc_send_stream.specs.declared.send.SendPart.{SendPart}
use Rattle.qc_streams.specs.declared.counts.PeerStreams.{PeerStreams}
use Rattle.qc_streams.specs.declared.stream.Stream.{Stream}
use Rattle.qc_streams.specs.declared.state.StreamsState.{StreamsState}
use Rattle.qc_streams.specs.Counts.{at_most, by_dir, dir_put, saturated, owes_places}
use Rattle.qc_streams.specs.Credit.{window_set}
use Rattle.qc_streams.specs.Records.{changed}
use Rattle.qc_streams.specs.Writable.{writables_told}

-- a stream's priority
unfoldable pub with_priority : ℤ → Stream → Stream
with_priority priority st = record st { priority = priority }

-- the priority of the stream with an id is set: its next turn counts with it
unfoldable pub priority_set : ℤ → ℕ → StreamsState → StreamsState
priority_set priority id s = record s { records = changed (with_priority priority) id s.records }

-- whether the application doesn't know a sending side
abbrev pub is_unknown : Option SendPart → Bool
is_unknown None = true
is_unknown (Some p) = false

-- the code with which the peer stopped it
abbrev pub stop_code : Option SendPart → Option VarInt
stop_code None = None
stop_code (Some p) = p.stopped

-- so many bytes may be kept until they are acknowledged
unfoldable pub send_window_set : ℕ → StreamsState → StreamsState
send_window_set n s = writables_told None (record s { send_window = n })

-- so many bytes may be underway or unread, on all streams
unfoldable pub receive_window_set : ℕ → StreamsState → StreamsState
receive_window_set n s = record s { incoming = window_set n s.incoming }

-- the peer may have so many streams open at a time, and open as many more at once
unfoldable pub with_concurrent : ℕ → PeerStreams → PeerStreams
with_concurrent n k = record k { concurrent = at_most n; limit = at_most (max k.limit (saturated (k.ended + at_most n))) }

-- the same; a MAX_STREAMS waits where one is owed
unfoldable pub concurrent_set : ℕ → PeerStreams → PeerStreams
concurrent_set n k = let next : PeerStreams = with_concurrent n k in record next { waits = next.waits || owes_places next }

-- the same of a direction
unfoldable pub max_concurrent_set : Dir → ℕ → StreamsState → StreamsState
max_concurrent_set dir n s = record s { peer = dir_put dir (concurrent_set n (by_dir dir s.peer)) s.peer }

-- Flow control whatever happens: what is sent and what comes stays within the credit, and as many streams are opened as may be (RFC
-- 9000, sections 4.1 and 4.6)
use Rattle.std.specs.Prelude.{◌≡◌, ℕ, ◌≤◌, true, List, [], ◌∷◌, length, Option, None, Some}
use Rattle.qc_base.specs.declared.side.Dir.{Dir}
use Rattle.qc_recv.specs.declared.recv.Recv.{Recv}
use Rattle.qc_recv.specs.Receiving.{credit, reset_refusal, stream_refusal}
use Rattle.qc_send_stream.specs.declared.send.SendPart.{SendPart}
use Rattle.qc_streams.specs.declared.state.StreamsState.{StreamsState}
use Rattle.qc_streams.specs.declared.stream.Stream.{Stream}
use Rattle.qc_streams.specs.Calls.{count_taken, known_at, send_room}
use Rattle.qc_streams.specs.Counts.{by_dir}
use Rattle.qc_streams.specs.Credit.{budget, incoming_credit, room}
use Rattle.qc_streams.specs.Frames.{receive_refusal, send_refusal}
use Rattle.qc_streams.specs.Records.{record_of}
use Rattle.qc_streams.specs.Streams.{may_open}
use Rattle.qc_streams.specs.Waits.{Step, Opened, Wrote, StopCame, StreamCame, StreamLimitCame, ResetCame, after, after_step}

-- A step that a call takes: a write takes no more than it may, a stream is opened where one may be, and a frame that names a stream
-- isn't refused
unfoldable pub IsTaken : Step → StreamsState → Type 0
IsTaken (Wrote id n chunk) s = n ≤ count_taken (length chunk) (budget (send_room s) s.outgoing) (known_at id s)
IsTaken (Opened dir) s = may_open dir s ≡ true
IsTaken (StopCame id code) s = send_refusal id s ≡ None
IsTaken (StreamLimitCame id limit) s = send_refusal id s ≡ None
IsTaken (StreamCame id o bs last) s = receive_refusal (stream_refusal o bs last (room s.incoming)) id s ≡ None
IsTaken (ResetCame id code size) s = receive_refusal (reset_refusal size (room s.incoming)) id s ≡ None
IsTaken x s = Unit {0}

-- All of them are, each where the ones before it were
unfoldable pub AreTaken : List Step → StreamsState → Type 0
AreTaken [] s = Unit {0}
AreTaken (x ∷ xs) s = IsTaken x s × AreTaken xs (after_step x s)

-- What was written on a stream lies within the limit that the peer gave
abbrev pub SendsWithin : Option SendPart → Type 0
SendsWithin None = Unit {0}
SendsWithin (Some p) = p.buffer.written ≤ p.limit

-- What came on it, and what was announced to the peer, lies within the stream's credit
abbrev pub TakesWithin : Option Recv → Type 0
TakesWithin None = Unit {0}
TakesWithin (Some r) = (r.greatest ≤ credit r) × (r.announced ≤ credit r)

-- Flow control holds on a stream, both ways (RFC 9000, section 4.1)
abbrev pub IsWithin : Option Stream → Type 0
IsWithin None = Unit {0}
IsWithin (Some st) = SendsWithin st.sending × TakesWithin st.receiving

-- What was written and what came stays within the credit, on each stream and on all together, and so do the streams that were opened;
-- and no more was announced than what the peer may send and open
pub record StaysWithin (s : StreamsState) : Type 0 where
  -- on each stream
  pub streams : (id : ℕ) → IsWithin (record_of id s.records)
  -- what was written on all together, within the limit that the peer gave
  pub sent : s.outgoing.written ≤ s.outgoing.limit
  -- what came on all together, within the connection's credit
  pub came : s.incoming.received ≤ incoming_credit s.incoming
  -- what was announced to the peer
  pub announced : s.incoming.announced ≤ incoming_credit s.incoming
  -- how many streams this end opened, within the peer's limit
  pub own : (dir : Dir) → (by_dir dir s.own).opened ≤ (by_dir dir s.own).limit
  -- how many the peer opened, and how many it was told that it may
  pub peer : (dir : Dir) → (by_dir dir s.peer).opened ≤ (by_dir dir s.peer).limit
  pub told : (dir : Dir) → (by_dir dir s.peer).announced ≤ (by_dir dir s.peer).limit

-- Whatever happened, that holds
unfoldable pub CreditIsKept : StreamsState → List Step → Type 0
CreditIsKept s xs = AreTaken xs s → StaysWithin (after xs s)

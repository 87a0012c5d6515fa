-- Which streams wait until they can be written on again: those on which a write was blocked, and that have credit of their own
use Rattle.std.specs.Prelude.{◌≡◌, ℕ, ℤ, ◌<◌, ◌≤◌, ◌^◌, Bool, true, false, List, [], ◌∷◌, ◌++◌, Option, Some, is_some, Result}
use Rattle.std.specs.BTreeMap.{is_at}
use Rattle.std.specs.List.{count_by}
use Rattle.std.specs.Map.{lookup, values_of}
use Rattle.std.specs.Ordering.{nat_cmp}
use Rattle.qc_base.specs.declared.side.Dir.{Dir}
use Rattle.qc_base.specs.declared.varint.VarInt.{VarInt}
use Rattle.qc_recv.specs.declared.recv.Chunk.{Chunk}
use Rattle.qc_recv.specs.Receiving.{reset_asked, stop_asked}
use Rattle.qc_send_stream.specs.declared.fault.WriteError.{WriteError}
use Rattle.qc_send_stream.specs.declared.send.SendPart.{SendPart}
use Rattle.qc_send_stream.specs.Sending.{finished, is_closed}
use Rattle.qc_streams.specs.declared.control.Control.{Control}
use Rattle.qc_streams.specs.declared.events.StreamEvent.{StreamEvent}
use Rattle.qc_streams.specs.declared.fault.ReadFault.{ReadFault}
use Rattle.qc_streams.specs.declared.parts.StreamPart.{StreamPart}
use Rattle.qc_streams.specs.declared.state.PeerLimits.{PeerLimits}
use Rattle.qc_streams.specs.declared.state.StreamsState.{StreamsState}
use Rattle.qc_streams.specs.declared.stream.Stream.{Stream}
use Rattle.qc_streams.specs.Blocked.{BlockedIds}
use Rattle.qc_streams.specs.Calls.{after_read, gives, reading_begun, resets, sends, write_refused, wrote}
use Rattle.qc_streams.specs.Control.{control_acked, control_lost, control_sealed}
use Rattle.qc_streams.specs.Early.{early_refused}
use Rattle.qc_streams.specs.Frames.{limit_came, reset_came, stop_came, stream_came, stream_limit_came, streams_limit_came}
use Rattle.qc_streams.specs.Owed.{polled}
use Rattle.qc_streams.specs.StreamBytes.{bytes_acked, bytes_lost, sealed_part}
use Rattle.qc_streams.specs.Records.{record_of}
use Rattle.qc_streams.specs.Settings.{max_concurrent_set, priority_set, receive_window_set, send_window_set}
use Rattle.qc_streams.specs.Streams.{accepted_one, closed, failed, limits_set, opened_own}
use Rattle.qc_streams.specs.Queues.{all_filed}
use Rattle.qc_streams.specs.Kept.{kept_in}
use Rattle.qc_streams.specs.Writable.{awaits_at, has_place}
use Rattle.qc_streams.specs.Lending.{AllRecords}

-- what happens to the streams of a connection
pub data Step : Type 0 where
  -- the peer's limits are known
  LimitsKnown : PeerLimits → Step
  -- the server refused early data
  EarlyRefused : Step
  -- the connection is closed, or has failed
  Closed : Step
  Failed : Step
  -- a stream is opened, or accepted
  Opened : Dir → Step
  Accepted : Dir → Step
  -- so many bytes of a chunk are written, or a write is refused
  Wrote : (id count : ℕ) (chunk : List ℕ) → Step
  Refused : WriteError → ℕ → Step
  -- a stream is finished, or reset
  Finished : ℕ → Step
  WasReset : VarInt → ℕ → Step
  -- the application begins to read a stream, reads it, with that answer, stops it, or asks for its reset
  Began : Bool → ℕ → Step
  Read : Bool → Result (Option Chunk) ReadFault → ℕ → Step
  Stopped : VarInt → ℕ → Step
  ResetAsked : ℕ → Step
  -- the application sets a priority, a window or a number of streams
  PrioritySet : ℤ → ℕ → Step
  SendWindowSet : ℕ → Step
  ReceiveWindowSet : ℕ → Step
  ConcurrentSet : Dir → ℕ → Step
  -- an event is told
  Polled : Step
  -- a frame comes
  StreamCame : (id offset : ℕ) (bytes : List ℕ) (last : Bool) → Step
  ResetCame : (id : ℕ) (code : VarInt) (size : ℕ) → Step
  StopCame : ℕ → VarInt → Step
  StreamLimitCame : (id limit : ℕ) → Step
  StreamsLimitCame : Dir → ℕ → Step
  LimitCame : ℕ → Step
  -- marks are taken off
  MarksFiled : Step
  -- a frame is sealed, lost or acknowledged
  ControlSealed : Control → Step
  ControlLost : Control → Step
  ControlAcked : Control → Step
  PartSealed : StreamPart → Step
  BytesLost : (id start stop : ℕ) (last : Bool) → Step
  BytesAcked : (id start stop : ℕ) (last : Bool) → Step

-- what a step leaves
unfoldable pub after_step : Step → StreamsState → StreamsState
after_step (LimitsKnown p) s = limits_set p s
after_step EarlyRefused s = early_refused s
after_step Closed s = closed s
after_step Failed s = failed s
after_step (Opened dir) s = opened_own dir s
after_step (Accepted dir) s = accepted_one dir s
after_step (Wrote id n chunk) s = wrote id n chunk s
after_step (Refused e id) s = write_refused e id s
after_step (Finished id) s = sends finished id s
after_step (WasReset code id) s = resets code id s
after_step (Began ordered id) s = reading_begun ordered id s
after_step (Read ordered result id) s = gives (after_read ordered result) id s
after_step (Stopped code id) s = gives (stop_asked code) id s
after_step (ResetAsked id) s = gives reset_asked id s
after_step (PrioritySet priority id) s = priority_set priority id s
after_step (SendWindowSet n) s = send_window_set n s
after_step (ReceiveWindowSet n) s = receive_window_set n s
after_step (ConcurrentSet dir n) s = max_concurrent_set dir n s
after_step Polled s = polled s
after_step (StreamCame id o bs last) s = stream_came id o bs last s
after_step (ResetCame id code size) s = reset_came id code size s
after_step (StopCame id code) s = stop_came id code s
after_step (StreamLimitCame id limit) s = stream_limit_came id limit s
after_step (StreamsLimitCame dir n) s = streams_limit_came dir n s
after_step (LimitCame n) s = limit_came n s
after_step MarksFiled s = all_filed s.waiting.marks.ids s
after_step (ControlSealed c) s = control_sealed c s
after_step (ControlLost c) s = control_lost c s
after_step (ControlAcked c) s = control_acked c s
after_step (PartSealed d) s = sealed_part d s
after_step (BytesLost id start stop last) s = bytes_lost id start stop last s
after_step (BytesAcked id start stop last) s = bytes_acked id start stop last s

-- what steps leave, one after the other
unfoldable pub after : List Step → StreamsState → StreamsState
after [] s = s
after (x ∷ xs) s = after xs (after_step x s)

-- A frame names a stream that there can be
unfoldable pub IsPossible : Step → Type 0
IsPossible (StreamCame id o bs last) = id < 2 ^ 62
IsPossible (ResetCame id code size) = id < 2 ^ 62
IsPossible (StopCame id code) = id < 2 ^ 62
IsPossible (StreamLimitCame id limit) = id < 2 ^ 62
IsPossible x = Unit {0}

-- All of them do
unfoldable pub ArePossible : List Step → Type 0
ArePossible [] = Unit {0}
ArePossible (x ∷ xs) = IsPossible x × ArePossible xs

-- whether a stream is among those that wait
abbrev pub waits_at : ℕ → BlockedIds → Bool
waits_at id ids = is_some (lookup (is_at (nat_cmp id)) ids)

-- Whatever happened, exactly those streams wait on which a write was blocked since it was last told that they can be written on again,
-- and that are neither finished nor reset and have credit
unfoldable pub WaitWhereBlocked : StreamsState → List Step → Type 0
WaitWhereBlocked s xs = (id : ℕ) → waits_at id (after xs s).blocked ≡ awaits_at (record_of id (after xs s).records)

-- how many streams there are on which a write was blocked since it was last told that they can be written on again, and that are neither
-- finished nor reset
unfoldable pub placed_count : AllRecords → ℕ
placed_count all = count_by (λ st. has_place st.sending) (values_of all)

-- Whatever happened, a place is put by for the event of each of them
unfoldable pub BlockedHavePlaces : StreamsState → List Step → Type 0
BlockedHavePlaces s xs = placed_count (after xs s).records ≤ (after xs s).events.places

-- what may give credit, or room in the send window
abbrev pub gives_credit : Step → Bool
gives_credit (LimitsKnown p) = true
gives_credit (WasReset code id) = true
gives_credit (SendWindowSet n) = true
gives_credit (StreamLimitCame id limit) = true
gives_credit (LimitCame n) = true
gives_credit (BytesAcked id start stop last) = true
gives_credit x = false

-- a byte may be written on some stream, as far as the connection goes: it is open, the peer takes one more of all streams, and the send
-- window has room for it (RFC 9000, section 4.1)
pub record TakesByte (s : StreamsState) : Type 0 where
  pub unclosed : s.closed ≡ false
  pub credit : s.outgoing.written < s.outgoing.limit
  pub room : kept_in s.records < s.send_window

-- a write was blocked on a sending side, and that it can go on wasn't told since; it is neither finished nor reset, and the peer takes a
-- byte more of it
pub record GoesOn (p : SendPart) : Type 0 where
  pub blocked : p.blocked ≡ true
  pub unclosed : is_closed p ≡ false
  pub credit : p.buffer.written < p.limit

-- Whatever happened, once one of these has happened no stream waits on which a byte can be written: that is queued to be told by then
unfoldable pub CreditIsToldAtOnce : StreamsState → List Step → Type 0
CreditIsToldAtOnce s xs =
    (x : Step) → IsPossible x → gives_credit x ≡ true → TakesByte (after_step x (after xs s))
    → (id : ℕ) (st : Stream) (p : SendPart) → record_of id (after_step x (after xs s)).records ≡ Some st → st.sending ≡ Some p → GoesOn p → ⊥

-- the events of a state wait behind those of another, which still wait in their order
abbrev pub QueuesBehind : StreamsState → StreamsState → Type 0
QueuesBehind s t = (more : List StreamEvent) × (t.events.items ≡ s.events.items ++ more)

-- what takes events off their queue: that one is told, and that early data are refused
abbrev pub takes_events : Step → Bool
takes_events EarlyRefused = true
takes_events Polled = true
takes_events x = false

-- Whatever else happens queues events behind all that wait
unfoldable pub EventsWaitInOrder : Type 0
EventsWaitInOrder = (x : Step) (s : StreamsState) → takes_events x ≡ false → QueuesBehind s (after_step x s)

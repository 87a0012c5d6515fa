-- What calls and frames make of the streams of a connection, as steps: which of them there may be, and what a frame that comes is,
-- refused or not
use Rattle.std.specs.Prelude.{◌≡◌, ℕ, ◌<◌, ◌^◌, Bool, List, [], ◌∷◌, Option, None, Some}
use Rattle.qc_base.specs.declared.side.Dir.{Dir}
use Rattle.qc_base.specs.declared.varint.VarInt.{VarInt}
use Rattle.qc_recv.specs.Receiving.{reset_refusal, stream_refusal}
use Rattle.qc_streams.specs.declared.control.Control.{Control}
use Rattle.qc_streams.specs.declared.fault.Refusal.{Refusal}
use Rattle.qc_streams.specs.declared.parts.StreamPart.{StreamPart}
use Rattle.qc_streams.specs.declared.state.StreamsState.{StreamsState}
use Rattle.qc_streams.specs.Carried.{IsAnswered}
use Rattle.qc_streams.specs.Control.{credit_of, data_with, gone_stop, reset_of, stop_of, streams_with}
use Rattle.qc_streams.specs.Credit.{room}
use Rattle.qc_streams.specs.Frames.{blocked_refusal, count_refusal, receive_refusal, send_refusal}
use Rattle.qc_streams.specs.Owed.{max_data_owed, max_streams_owed}
use Rattle.qc_streams.specs.StreamBytes.{IsOfferAt}
use Rattle.qc_streams.specs.Records.{record_of}
use Rattle.qc_streams.specs.Waits.{IsPossible, Step, StreamCame, ResetCame, StopCame, StreamLimitCame, StreamsLimitCame, LimitCame, ControlSealed, PartSealed, after, after_step}
use Rattle.qc_streams.specs.Within.{IsTaken}

-- ---- what may be sealed

-- Bytes of a stream, or its end, may be sealed, whoever's turn it is (RFC 9000, sections 2.2 and 3.1): they wait to be sent, since they
-- were lost, or were written and never sealed; there is at least one byte, where bytes wait; and the end is with them only where it
-- waits and no byte stands between
pub record IsOffered (d : StreamPart) (s : StreamsState) : Type 0 where
  -- for how many bytes there was room
  pub most : ℕ
  pub some : 0 < most
  pub offers : IsOfferAt most (record_of d.id s.records) (Some d.part)

-- A frame without bytes waits: it is the RESET_STREAM, the STOP_SENDING or the MAX_STREAM_DATA that an open stream owes, the STOP_SENDING
-- of one that has gone, or the MAX_DATA or MAX_STREAMS that is owed (RFC 9000, sections 3.3, 3.5 and 4)
pub data IsOwed (c : Control) (s : StreamsState) : Type 0 where
  OwesReset : (id : ℕ) → reset_of id (record_of id s.records) ≡ Some c → IsOwed c s
  OwesStop : (id : ℕ) → stop_of id (record_of id s.records) ≡ Some c → IsOwed c s
  OwesGoneStop : gone_stop s ≡ Some c → IsOwed c s
  OwesStreamData : (id : ℕ) → credit_of id (record_of id s.records) ≡ Some c → IsOwed c s
  OwesData : data_with (max_data_owed s) ≡ Some c → IsOwed c s
  OwesStreams : (dir : Dir) → streams_with dir (max_streams_owed dir s) ≡ Some c → IsOwed c s

-- What is sealed waited
unfoldable pub IsSealedSo : Step → StreamsState → Type 0
IsSealedSo (PartSealed d) s = IsOffered d s
IsSealedSo (ControlSealed c) s = IsOwed c s
IsSealedSo x s = Unit {0}

-- ---- which steps there may be

-- A step may be: a frame names a stream that there can be and isn't refused, a write takes no more than it may, a stream is opened where
-- one may be, a read answers what it may, and what is sealed waited
pub record MayStep (x : Step) (s : StreamsState) : Type 0 where
  pub possible : IsPossible x
  pub taken : IsTaken x s
  pub answered : IsAnswered x s
  pub sealed : IsSealedSo x s

-- All of them may be, each where the ones before it were
unfoldable pub AllMay : List Step → StreamsState → Type 0
AllMay [] s = Unit {0}
AllMay (x ∷ xs) s = MayStep x s × AllMay xs (after_step x s)

-- ---- frames that come

-- A frame that comes about streams (RFC 9000, sections 19.4, 19.5 and 19.8 to 19.14), whether it is refused or not
pub data Handed : Type 0 where
  -- a STREAM: its stream, its offset, its bytes, and whether the end is with them
  Stream : (id offset : ℕ) (bytes : List ℕ) (last : Bool) → Handed
  -- a RESET_STREAM: its stream, its code and its final size
  ResetStream : (id : ℕ) (code : VarInt) (size : ℕ) → Handed
  -- a STOP_SENDING: its stream and its code
  StopSending : ℕ → VarInt → Handed
  -- a MAX_STREAM_DATA: its stream and its limit
  MaxStreamData : (id limit : ℕ) → Handed
  -- a MAX_STREAMS: its direction and its number
  MaxStreams : Dir → ℕ → Handed
  -- a MAX_DATA: its limit
  MaxData : ℕ → Handed
  -- a STREAM_DATA_BLOCKED: its stream
  StreamDataBlocked : ℕ → Handed
  -- a STREAMS_BLOCKED: its number
  StreamsBlocked : ℕ → Handed

-- why it is refused, where it is
unfoldable pub refusal_of : Handed → StreamsState → Option Refusal
refusal_of (Stream id o bs last) s = receive_refusal (stream_refusal o bs last (room s.incoming)) id s
refusal_of (ResetStream id code size) s = receive_refusal (reset_refusal size (room s.incoming)) id s
refusal_of (StopSending id code) s = send_refusal id s
refusal_of (MaxStreamData id limit) s = send_refusal id s
refusal_of (MaxStreams dir n) s = count_refusal n
refusal_of (MaxData limit) s = None
refusal_of (StreamDataBlocked id) s = blocked_refusal id s
refusal_of (StreamsBlocked n) s = count_refusal n

-- what it makes of the streams where it isn't refused
unfoldable pub came : Handed → List Step
came (Stream id o bs last) = StreamCame id o bs last ∷ []
came (ResetStream id code size) = ResetCame id code size ∷ []
came (StopSending id code) = StopCame id code ∷ []
came (MaxStreamData id limit) = StreamLimitCame id limit ∷ []
came (MaxStreams dir n) = StreamsLimitCame dir n ∷ []
came (MaxData limit) = LimitCame limit ∷ []
came (StreamDataBlocked id) = []
came (StreamsBlocked n) = []

-- nothing where it is refused
abbrev pub unless_refused : Option Refusal → List Step → List Step
unless_refused None xs = xs
unless_refused (Some refusal) xs = []

-- the steps that it is
unfoldable pub steps_of : Handed → StreamsState → List Step
steps_of f s = unless_refused (refusal_of f s) (came f)

-- what it leaves, refused or not: a refused one changes nothing
unfoldable pub handed : Handed → StreamsState → StreamsState
handed f s = after (steps_of f s) s

-- whether it names a stream that there can be
unfoldable pub NamesStream : Handed → Type 0
NamesStream (Stream id o bs last) = id < 2 ^ 62
NamesStream (ResetStream id code size) = id < 2 ^ 62
NamesStream (StopSending id code) = id < 2 ^ 62
NamesStream (MaxStreamData id limit) = id < 2 ^ 62
NamesStream f = Unit {0}

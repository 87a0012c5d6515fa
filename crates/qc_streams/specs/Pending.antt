-- Whether anything waits to be sent of the streams of a connection, those counted that are to be looked at (RFC 9000, sections 2.2, 3.1,
-- 3.3, 3.5 and 4)
use Rattle.std.specs.Prelude.{◌≡◌, ℕ, ◌-◌, ◌<◌, ◌≤◌, ◌^◌, Bool, true, false, ◌||◌, List, Option, None, Some, is_some}
use Rattle.std.specs.List.{list_any}
use Rattle.qc_streams.specs.declared.control.Control.{Control}
use Rattle.qc_streams.specs.declared.parts.StreamPart.{StreamPart}
use Rattle.qc_streams.specs.declared.state.StreamsState.{StreamsState}
use Rattle.qc_streams.specs.Control.{control_len, next_control}
use Rattle.qc_streams.specs.Queues.{dues_at, owes_frames}
use Rattle.qc_streams.specs.Records.{record_of}
use Rattle.qc_streams.specs.Steps.{IsOwed}
use Rattle.qc_streams.specs.Stops.{first_stop}
use Rattle.qc_streams.specs.StreamBytes.{IsDrawn}
use Rattle.qc_streams.specs.Waits.{Step, MarksFiled, after, after_step}

-- whether bytes of the stream with an id wait, or its end: they were lost, or were written and never sealed
abbrev pub bytes_wait : StreamsState → ℕ → Bool
bytes_wait s id = (dues_at (record_of id s.records)).bytes

-- whether it owes a RESET_STREAM
abbrev pub reset_waits : StreamsState → ℕ → Bool
reset_waits s id = (dues_at (record_of id s.records)).reset

-- whether it owes a STOP_SENDING
abbrev pub stop_waits : StreamsState → ℕ → Bool
stop_waits s id = (dues_at (record_of id s.records)).stop

-- whether it owes a MAX_STREAM_DATA
abbrev pub credit_waits : StreamsState → ℕ → Bool
credit_waits s id = (dues_at (record_of id s.records)).credit

-- whether it owes one of them
abbrev pub frames_wait : StreamsState → ℕ → Bool
frames_wait s id = owes_frames (dues_at (record_of id s.records))

-- whether a STREAM frame waits: bytes do, or an end, of a stream that has a turn, or of one that is to be looked at
unfoldable pub has_waiting : StreamsState → Bool
has_waiting s = list_any (λ e. bytes_wait s e.1) s.waiting.ready || list_any (bytes_wait s) s.waiting.marks.ids

-- whether a MAX_DATA waits, or a MAX_STREAMS
abbrev pub limits_wait : StreamsState → Bool
limits_wait s = s.incoming.waits || (s.peer.bi.waits || s.peer.uni.waits)

-- whether a frame without bytes waits: that of a limit, the STOP_SENDING of a stream that has gone, or one that an open stream owes
unfoldable pub has_control : StreamsState → Bool
has_control s =
    limits_wait s
    || (is_some (first_stop s.waiting.gone_stops)
    || (list_any (reset_waits s) s.waiting.resets
    || (list_any (stop_waits s) s.waiting.stops || (list_any (credit_waits s) s.waiting.credits || list_any (frames_wait s) s.waiting.marks.ids))))

-- ---- what that means, whatever happened

-- the streams once they were looked at, as `file_marks` leaves them
abbrev pub looked_at : StreamsState → StreamsState
looked_at s = after_step MarksFiled s

-- fewer than 2^64 - 1 turns were given, those counted that filing gives
abbrev pub CountsTurns : StreamsState → Type 0
CountsTurns s = (looked_at s).waiting.turns < 2 ^ 64 - 1

-- Where nothing waits nothing is drawn, however much room there is; and where something does it is drawn wherever there is room: a STREAM
-- frame from 20 bytes on, which are its longest head and a byte
pub record DrawsWaiting (s : StreamsState) : Type 0 where
  pub none : has_waiting s ≡ false → (room : ℕ) (d : Option StreamPart) → IsDrawn room (looked_at s) d → d ≡ None
  pub some : has_waiting s ≡ true → (room : ℕ) (d : Option StreamPart) → 20 ≤ room → IsDrawn room (looked_at s) d → is_some d ≡ true
  -- and it waits exactly where bytes of an open stream do, or its end
  pub owes : (id : ℕ) → bytes_wait s id ≡ true → has_waiting s ≡ true
  pub owed : has_waiting s ≡ true → (id : ℕ) × (bytes_wait s id ≡ true)

-- The same of frames without bytes: there is one that is drawn wherever its own spelling fits
pub record DrawsControl (s : StreamsState) : Type 0 where
  pub none : has_control s ≡ false → (room : ℕ) → next_control room (looked_at s) ≡ None
  pub some : has_control s ≡ true → (c : Control) × ((room : ℕ) → control_len c ≤ room → next_control room (looked_at s) ≡ Some c)
  -- and one waits exactly where one is owed
  pub owes : (c : Control) → IsOwed c s → has_control s ≡ true
  pub owed : has_control s ≡ true → (c : Control) × IsOwed c s

-- Whatever happened, as long as turns are counted
unfoldable pub WaitingIsDrawn : StreamsState → List Step → Type 0
WaitingIsDrawn s xs = CountsTurns (after xs s) → DrawsWaiting (after xs s)

-- Whatever happened
unfoldable pub ControlIsDrawn : StreamsState → List Step → Type 0
ControlIsDrawn s xs = DrawsControl (after xs s)

-- Why a frame is refused (RFC 9000, sections 19.4 to 19.14 and 20.1)
use Rattle.std.specs.Prelude.{◌≡◌, ℕ, Bool, List, [], ◌∷◌, if◌then◌else◌, Option, None, Some}
use Rattle.qc_recv.specs.Receiving.{code_of as side_code}
use Rattle.qc_recv.specs.declared.fault.FrameFault.{FrameFault}
use Rattle.qc_recv.specs.declared.fault.FrameFault.TheVariants.{Refused as SideRefused, OutOfMemory as SideMemory}
use Rattle.qc_streams.specs.declared.state.StreamsState.{StreamsState}
use Rattle.qc_streams.specs.declared.fault.Refusal.{Refusal}
use Rattle.qc_streams.specs.declared.fault.Refusal.TheVariants.{State, Limit, Encoding, Side}
use Rattle.qc_streams.specs.declared.fault.StreamFault.{StreamFault}
use Rattle.qc_streams.specs.declared.fault.StreamFault.TheVariants.{Refused, OutOfMemory}

-- the number of the error that the connection closes with: STREAM_STATE_ERROR, STREAM_LIMIT_ERROR, FRAME_ENCODING_ERROR, or
-- that of the receiving side
abbrev pub code_of : Refusal → ℕ
code_of State = 5
code_of Limit = 4
code_of Encoding = 7
code_of (Side x) = side_code x

-- the first refusal of a table whose row holds
unfoldable pub first_row : List (Bool × Refusal) → Option Refusal
first_row [] = None
first_row (x ∷ xs) = if x.0 then Some x.1 else first_row xs

-- a refusal, or where there is none another
abbrev pub or_else : Option Refusal → Option Refusal → Option Refusal
or_else (Some x) other = Some x
or_else None other = other

-- a frame isn't taken because of that refusal, or for want of memory
unfoldable pub IsRefusal : StreamFault → Option Refusal → Type 0
IsRefusal (Refused x) refusal = refusal ≡ Some x
IsRefusal OutOfMemory refusal = Unit {0}

-- a fault of the receiving side as one of the connection
abbrev pub fault_of : FrameFault → StreamFault
fault_of (SideRefused x) = Refused (Side x)
fault_of SideMemory = OutOfMemory

-- a refused frame changes nothing; want of memory ends the connection, and nothing is said of its streams then
unfoldable pub KeptOn : StreamFault → StreamsState → StreamsState → Type 0
KeptOn (Refused x) before after = after ≡ before
KeptOn OutOfMemory before after = Unit {0}

-- What is as before where a transmit meets want of memory.
use Rattle.std.specs.Prelude.{Bool}
use Rattle.qc_state.specs.declared.spaces.Spaces.{Spaces}
use Rattle.qc_state.specs.declared.waiting.Waiting.{Waiting}

-- in which spaces a PING waits
abbrev pub pings_of : Waiting → Spaces Bool
pings_of v = record { initial = v.spaces.initial.ping; handshake = v.spaces.handshake.ping; application = v.spaces.application.ping }

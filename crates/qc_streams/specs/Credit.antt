-- The connection's credit for what comes (RFC 9000, sections 4.1 and 19.9)
use Rattle.std.specs.Prelude.{ℕ, ◌+◌, ◌-◌, ◌/◌, ◌^◌, Bool, true, false, ◌&&◌, ◌||◌, nat_lt, nat_le, min, max}
use Rattle.qc_streams.specs.declared.credit.Incoming.{Incoming}
use Rattle.qc_streams.specs.declared.credit.Outgoing.{Outgoing}
use Rattle.qc_streams.specs.declared.stream.Totals.{Totals}
use Rattle.qc_streams.specs.Counts.{saturated}

-- nothing came
unfoldable pub new_incoming : ℕ → Incoming
new_incoming window = record { received = 0; returned = 0; window = window; reached = 0; announced = window; first = window; waits = false }

-- up to where the peer may send: what was given back, and the window; no less than before the window was last set
unfoldable pub incoming_credit : Incoming → ℕ
incoming_credit c = max c.reached (saturated (c.returned + c.window))

-- how many new bytes may come
unfoldable pub room : Incoming → ℕ
room c = incoming_credit c - c.received

-- the credit that a MAX_DATA announces: at most 2^62 - 1
unfoldable pub credit_value : Incoming → ℕ
credit_value c = min (incoming_credit c) (2 ^ 62 - 1)

-- whether the credit that can be announced exceeds what was announced by an eighth of the window, and by more than nothing
unfoldable pub incoming_owes : Incoming → Bool
incoming_owes c = nat_lt c.announced (credit_value c) && nat_le (c.window / 8) (credit_value c - c.announced)

-- a stream's bytes count as far as they are new, and those that it gives back
unfoldable pub with_totals : Totals → Totals → Incoming → Incoming
with_totals before after c = record c {
  received = saturated (c.received + (after.received - before.received));
  returned = saturated (c.returned + (after.returned - before.returned));
}

-- a frame of credit waits where one is owed
unfoldable pub tallied : Totals → Totals → Incoming → Incoming
tallied before after c =
    let next : Incoming = with_totals before after c in record next { waits = next.waits || incoming_owes next }

-- the window is set: credit that was reached stays
unfoldable pub with_window : ℕ → Incoming → Incoming
with_window window c = record c { reached = incoming_credit c; window = window }

-- the same; a frame of credit waits where one is owed
unfoldable pub window_set : ℕ → Incoming → Incoming
window_set window c = let next : Incoming = with_window window c in record next { waits = next.waits || incoming_owes next }

-- a MAX_DATA is sealed
unfoldable pub credit_sealed : Incoming → Incoming
credit_sealed c = record c { announced = credit_value c; waits = false }

-- a MAX_DATA is lost: it waits again
unfoldable pub credit_lost : Incoming → Incoming
credit_lost c = record c { waits = true }

-- nothing may be sent
unfoldable pub new_outgoing : Outgoing
new_outgoing = record { limit = 0; written = 0 }

-- the peer takes so many bytes of all streams together: a limit only rises
unfoldable pub outgoing_raised : ℕ → Outgoing → Outgoing
outgoing_raised n c = record c { limit = max c.limit n }

-- so many bytes were written
unfoldable pub outgoing_written : ℕ → Outgoing → Outgoing
outgoing_written n c = record c { written = saturated (c.written + n) }

-- how many bytes may be written: no more than the peer takes, nor than may be kept until they are acknowledged
unfoldable pub budget : ℕ → Outgoing → ℕ
budget room c = min (c.limit - c.written) room

-- Datagrams that came and datagrams that are to be sent
use Rattle.std.specs.Prelude.{ℕ, Bool, true, false, not, ◌||◌, ◌&&◌, nat_lt, if◌then◌else◌, List, [], ◌∷◌, length, Option, None, Some, is_some}
use Rattle.std.specs.Option.{unwrap_or}
use Rattle.qc_datagrams.specs.declared.datagrams.Datagrams.{Datagrams}
use Rattle.qc_datagrams.specs.declared.datagrams.SendRefusal.{SendRefusal}
use Rattle.qc_datagrams.specs.declared.datagrams.SendRefusal.TheVariants.{Disabled, UnsupportedByPeer, TooLarge, Blocked}
use Rattle.qc_datagrams.specs.Queue.{fits, no_longer_than, queued}

-- nothing came and nothing is to be sent
unfoldable pub new_datagrams : Option ℕ → ℕ → Datagrams
new_datagrams receive_buffer send_buffer =
    record { incoming = []; outgoing = []; receive_buffer = receive_buffer; send_buffer = send_buffer; blocked = false }

-- whether a DATAGRAM frame is refused: none may come, or it is longer than the receive buffer. A frame of an end that
-- announced no size, or longer than the announced one, is PROTOCOL_VIOLATION (RFC 9221, section 3)
unfoldable pub is_refused : List ℕ → Datagrams → Bool
is_refused d s = not (is_some s.receive_buffer) || nat_lt (unwrap_or s.receive_buffer 0) (length d)

-- a DATAGRAM frame is taken: where there is no room for it, a receiver may drop datagrams (RFC 9221, section 5.3), and the
-- oldest are
unfoldable pub frame_taken : List ℕ → Datagrams → Datagrams
frame_taken d s = record s { incoming = queued (unwrap_or s.receive_buffer 0) d s.incoming }

-- the first refusal of a table whose row holds
unfoldable pub first_row : List (Bool × SendRefusal) → Option SendRefusal
first_row [] = None
first_row (x ∷ xs) = if x.0 then Some x.1 else first_row xs

-- why a datagram isn't queued to be sent, the first row that holds. `most` is how long it may be,
-- where the peer takes datagrams
unfoldable pub send_refusal : Option ℕ → Bool → List ℕ → Datagrams → Option SendRefusal
send_refusal most drops d s = first_row (
    (not (is_some s.receive_buffer), Disabled)
    ∷ (not (is_some most), UnsupportedByPeer)
    ∷ (nat_lt (unwrap_or most 0) (length d), TooLarge)
    ∷ (not drops && not (fits s.send_buffer d s.outgoing), Blocked)
    ∷ [])

-- a datagram is queued to be sent: a sender may drop one in place of waiting (RFC 9221, section 5.4), and the
-- oldest are dropped for it
unfoldable pub send_queued : List ℕ → Datagrams → Datagrams
send_queued d s = record s { outgoing = queued s.send_buffer d s.outgoing }

-- that a datagram was refused because of a full buffer is remembered
unfoldable pub send_refused : SendRefusal → Datagrams → Datagrams
send_refused Blocked s = record s { blocked = true }
send_refused refusal s = s

-- that there is room again was told
unfoldable pub room_told : Datagrams → Datagrams
room_told s = record s { blocked = false }

-- datagrams to be sent that are longer than so many bytes are dropped
unfoldable pub longer_dropped : ℕ → Datagrams → Datagrams
longer_dropped most s = record s { outgoing = no_longer_than most s.outgoing }

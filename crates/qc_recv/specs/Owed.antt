-- What waits to be sent for a stream that is received (RFC 9000, sections 3.5 and 4.1)
use Rattle.std.specs.Prelude.{ℕ, ◌-◌, ◌^◌, false, not, ◌||◌, min, is_some}
use Rattle.qc_recv.specs.declared.recv.Recv.{Recv}
use Rattle.qc_recv.specs.Receiving.{credit}

-- the credit that a frame announces: at most 2^62 - 1
unfoldable pub credit_value : Recv → ℕ
credit_value r = min (credit r) (2 ^ 62 - 1)

-- a MAX_STREAM_DATA is sealed
unfoldable pub credit_sealed : Recv → Recv
credit_sealed r = record r { announced = credit_value r; credit_waits = false }

-- a MAX_STREAM_DATA is lost: it waits again while the end isn't known (RFC 9000, section 13.3)
unfoldable pub credit_lost : Recv → Recv
credit_lost r = record r { credit_waits = r.credit_waits || not (is_some r.size) }

-- a STOP_SENDING is sealed
unfoldable pub stop_sealed : Recv → Recv
stop_sealed r = record r { stop_waits = false }

-- a STOP_SENDING is lost: it waits again (RFC 9000, section 13.3)
unfoldable pub stop_lost : Recv → Recv
stop_lost r = record r { stop_waits = is_some r.stopped }

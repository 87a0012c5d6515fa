-- How long a datagram may be (RFC 9221, section 3)
use Rattle.std.specs.Prelude.{ℕ, ◌+◌, ◌-◌, min, Option, None, Some}

-- with its frame's head of at most 9 bytes a datagram fits into a packet of the path's MTU, behind a short header with the
-- connection id and 4 bytes of a number, and before a tag of 16 bytes; and into the frame size that the peer announced
unfoldable pub max_size : (mtu cid_len : ℕ) → Option ℕ → Option ℕ
max_size mtu cid_len None = None
max_size mtu cid_len (Some frame) = Some (min (mtu - (1 + 4 + 16 + 9) - cid_len) (frame - 9))

-- Datagrams that are one 1-RTT packet, which is opened where it stands.
use Rattle.std.specs.Prelude.{ℕ, ◌+◌, ◌==◌, Bool, if◌then◌else◌, List, [], take, drop, Some}
use Rattle.qc_receive.specs.declared.short.Told.{Told}
use Rattle.qc_receive.specs.declared.short.Told.TheVariants as told
use Rattle.qc_header.specs.Piece.{Piece}
use Rattle.qc_header.specs.Unprotected.{short_packet}
use Rattle.qc_header.specs.declared.header.Header.{Header}
use Rattle.qc_header.specs.declared.header.Header.TheVariants.{Short}
use Rattle.qc_header.specs.declared.short.ShortHeader.{ShortHeader}
use Rattle.qc_rings.specs.declared.which.Which.{Which}
use Rattle.qc_state.specs.declared.opening.Opening.{Opening}
use Rattle.qc_state.specs.declared.opening.Opening.TheVariants.{Unreadable, Unopened, Reserved, Untimely, Opened}

-- a datagram that is one 1-RTT packet, where ids of this end have this length
abbrev pub short_in : (local_cid_len : ℕ) → (bytes : List ℕ) → Piece
short_in local_cid_len bytes = short_packet (take local_cid_len (drop 1 bytes)) (1 + local_cid_len) bytes

-- the header of a 1-RTT packet to this id
abbrev pub header_of : ShortHeader → (dst_cid : List ℕ) → Header
header_of h dst_cid = Short h.spin h.key_phase dst_cid h.number

-- what opening it told, with its payload
abbrev pub short_told : Told → (payload : List ℕ) → Opening
short_told told.Unreadable payload = Unreadable
short_told told.Unopened payload = Unopened
short_told (told.Reserved number) payload = Reserved number
short_told (told.Untimely number) payload = Untimely number
short_told (told.Opened number spin which) payload = Opened [] [] spin (Some which) number payload

-- what is made of a 1-RTT packet to this id that these keys of the ring opened, which show an update that wasn't allowed, or don't
abbrev pub judged_short : ShortHeader → (dst_cid : List ℕ) → (number : ℕ) → Which → (bad : Bool) → (payload : List ℕ) → Opening
judged_short h dst_cid number which bad payload =
    if h.reserved_bits == 0 then (if bad then Untimely number else Opened [] [] h.spin (Some which) number payload) else Reserved number

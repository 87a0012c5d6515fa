-- Two ends that seal packets, change keys and open what reaches them (RFC 9001, section 6). An end opens
-- a packet by the epoch of the keys that the packet names; the keys themselves are left out.
use Rattle.std.specs.Prelude.{◌≡◌, ℕ, ◌+◌, ◌<◌, ◌≤◌, Bool, true, false, List, [], ◌∷◌, ◌++◌, Option, Some, None, nat_eq, if◌then◌else◌, slice_get, take, max}
use Rattle.qc_base.specs.declared.side.Side.{Side}
use Rattle.qc_base.specs.declared.side.Side.TheVariants.{Client, Server}
use Rattle.qc_rings.specs.declared.which.Which.{Which}
use Rattle.qc_rings.specs.declared.which.Which.TheVariants.{Current, Previous, Next}
use Rattle.qc_rings.specs.declared.pair.RingEvent.{RingEvent}
use Rattle.qc_rings.specs.declared.pair.RingEvent.TheVariants.{Seal, Update, Deliver, Discard}
use Rattle.qc_rings.specs.declared.pair.PairOutcome.{PairOutcome}
use Rattle.qc_rings.specs.declared.pair.PairOutcome.TheVariants.{Sealed, Updated, Opened, Old, Discarded, Nothing}
use Rattle.qc_rings.specs.Ring.{Ring, first_ring, phase_of, which_named, after_opened, after_sealed, after_acked, may_update, after_update, has_floor, after_discard}

-- a sealed packet
pub record Packet : Type 0 where
  pub number : ℕ
  pub epoch : ℕ
  -- the numbers that its sealer had opened by then, which it acknowledges
  pub carried : List ℕ

-- one end
pub record End : Type 0 where
  pub ring : Ring
  -- every packet that it ever sealed, in their order
  pub sent : List Packet
  -- the numbers of the packets that it opened
  pub opened : List ℕ
  -- the least number that it may seal next
  pub next : ℕ

-- both ends, with every packet ever sealed
pub record World : Type 0 where
  pub client : End
  pub server : End

-- an end that begins: it sealed and opened nothing
abbrev pub first_end : End
first_end = record { ring = first_ring; sent = []; opened = []; next = 0 }

-- both ends as they begin
abbrev pub first_world : World
first_world = record { client = first_end; server = first_end }

-- the other side
abbrev pub other : Side → Side
other Client = Server
other Server = Client

-- the end on this side
abbrev pub end_of : World → Side → End
end_of w Client = w.client
end_of w Server = w.server

-- both ends, the one on this side replaced
abbrev pub with_end : World → Side → End → World
with_end w Client e = record w { client = e }
with_end w Server e = record w { server = e }

-- an end seals a packet with this number, which carries these numbers
unfoldable pub end_seals : End → ℕ → List ℕ → End
end_seals e number carried =
    record {
      ring = after_sealed e.ring number;
      sent = e.sent ++ record { number = number; epoch = e.ring.epoch; carried = carried } ∷ [];
      opened = e.opened;
      next = number + 1;
    }

-- an end seals its next packet, which carries all that it opened
abbrev pub end_sealed : End → End
end_sealed e = end_seals e e.next e.opened

-- an end begins a new epoch, where it may
unfoldable pub end_updated : End → End
end_updated e = if may_update e.ring then record e { ring = after_update e.ring } else e

-- an end drops its previous keys, where they have a floor
unfoldable pub end_discarded : End → End
end_discarded e = record e { ring = after_discard e.ring }

-- whether these keys of the ring are those of an epoch
abbrev pub is_of_epoch : Ring → Which → ℕ → Bool
is_of_epoch r Previous epoch = nat_eq (epoch + 1) r.epoch
is_of_epoch r Current epoch = nat_eq epoch r.epoch
is_of_epoch r Next epoch = nat_eq epoch (r.epoch + 1)

-- the keys that a packet names at this end
abbrev pub which_of : End → Packet → Which
which_of e p = which_named e.ring (phase_of p.epoch) p.number

-- whether this end opens a packet: the keys that it names are those of its epoch
unfoldable pub opens : End → Packet → Bool
opens e p = is_of_epoch e.ring (which_of e p) p.epoch

-- the ring once these numbers were acknowledged, one by one
abbrev pub after_all_acked : Ring → List ℕ → Ring
after_all_acked r [] = r
after_all_acked r (n ∷ ns) = after_all_acked (after_acked r n) ns

-- an end that opened a packet of this number by these keys, and takes nothing as acknowledged yet
abbrev pub end_noted : End → Which → ℕ → End
end_noted e which number = record e { ring = after_opened e.ring which number; opened = e.opened ++ number ∷ [] }

-- an end whose packet of this number was acknowledged
abbrev pub end_acked : End → ℕ → End
end_acked e number = record e { ring = after_acked e.ring number }

-- an end whose next number is a greater one: 0-RTT packets have numbers of the same space, under keys of no epoch
abbrev pub end_risen : End → ℕ → End
end_risen e number = record e { next = number }

-- an end that opened a packet of this number by keys of no epoch: a server takes 0-RTT packets
abbrev pub end_heard : End → ℕ → End
end_heard e number = record e { opened = e.opened ++ number ∷ [] }

-- an end that opened a packet by these keys, and takes what it carries as acknowledged
unfoldable pub end_opened : End → Which → Packet → End
end_opened e which p =
    record e { ring = after_all_acked (after_opened e.ring which p.number) p.carried; opened = e.opened ++ p.number ∷ [] }

-- an end that a packet reached
unfoldable pub end_given : End → Option Packet → End
end_given e None = e
end_given e (Some p) = if opens e p then end_opened e (which_of e p) p else e

-- the packet of a sealer that is counted so, from 0
abbrev pub packet_at : World → Side → ℕ → Option Packet
packet_at w from index = slice_get (end_of w from).sent index

-- both ends after an event
unfoldable pub happens : World → RingEvent → World
happens w (Seal from) = with_end w from (end_sealed (end_of w from))
happens w (Update from) = with_end w from (end_updated (end_of w from))
happens w (Deliver from index) = with_end w (other from) (end_given (end_of w (other from)) (packet_at w from index))
happens w (Discard at) = with_end w at (end_discarded (end_of w at))

-- what becomes of a packet that reaches an end
abbrev pub delivered : End → Option Packet → PairOutcome
delivered e None = Nothing
delivered e (Some p) = if opens e p then Opened else Old

-- what comes of an event
unfoldable pub outcome : World → RingEvent → PairOutcome
outcome w (Seal from) = Sealed (end_of w from).next (end_of w from).ring.epoch
outcome w (Update from) =
    if may_update (end_of w from).ring then Updated (after_update (end_of w from).ring).epoch else Nothing
outcome w (Deliver from index) = delivered (end_of w (other from)) (packet_at w from index)
outcome w (Discard at) = if has_floor (end_of w at).ring.kept then Discarded else Nothing

-- both ends after a list of events
abbrev pub run : List RingEvent → World → World
run [] w = w
run (v ∷ vs) w = run vs (happens w v)

-- what comes of each of a list of events
abbrev pub log_of : List RingEvent → World → List PairOutcome
log_of [] w = []
log_of (v ∷ vs) w = outcome w v ∷ log_of vs (happens w v)

-- a fact at every moment of a run from the start
abbrev pub Throughout : (World → Type 0) → List RingEvent → Type 0
Throughout P vs = (n : ℕ) → P (run (take n vs) first_world)

-- the epochs of the ends differ by at most one
pub record AreNear (w : World) : Type 0 where
  pub client : w.client.ring.epoch ≤ w.server.ring.epoch + 1
  pub server : w.server.ring.epoch ≤ w.client.ring.epoch + 1

-- one more than the greatest of these numbers, 0 for none
abbrev pub bound : List ℕ → ℕ
bound [] = 0
bound (n ∷ ns) = max (n + 1) (bound ns)

-- Where the keys of the next epoch would open a packet, its number is above all that this end opened,
-- and the peer's last update is answered. So no update is one that the peer wasn't allowed to make.
pub record IsGoodUpdate (e : End) (p : Packet) : Type 0 where
  pub above : bound e.opened ≤ p.number
  pub answered : e.ring.unanswered ≡ false

-- the same for each packet that the other end sealed, on both sides
pub record UpdatesAreGood (w : World) : Type 0 where
  pub each : (from : Side) (index : ℕ) (p : Packet) → packet_at w from index ≡ Some p → which_of (end_of w (other from)) p ≡ Next
      → opens (end_of w (other from)) p ≡ true → IsGoodUpdate (end_of w (other from)) p

-- A packet of its sealer's current epoch is opened.
pub record CurrentOpens (w : World) : Type 0 where
  pub each : (from : Side) (index : ℕ) (p : Packet) → packet_at w from index ≡ Some p → p.epoch ≡ (end_of w from).ring.epoch
      → outcome w (Deliver from index) ≡ Opened

-- A packet that isn't opened is of an epoch before its sealer's.
pub record OnlyOldFail (w : World) : Type 0 where
  pub each : (from : Side) (index : ℕ) (p : Packet) → packet_at w from index ≡ Some p → outcome w (Deliver from index) ≡ Old
      → p.epoch < (end_of w from).ring.epoch

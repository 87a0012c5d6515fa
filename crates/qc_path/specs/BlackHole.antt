-- Bursts of losses that may show a black hole: a path that loses all packets above a size (RFC 9000, section 14.3; RFC 8899,
-- section 4.3). Sizes are bytes of UDP payload.
use Rattle.std.specs.Prelude.{◌==◌, Bool, false, ◌&&◌, ◌||◌, nat_lt, nat_le, if◌then◌else◌, Option, Some, None}
use Rattle.qc_path.specs.declared.black_hole.AckedPacket.{AckedPacket}
use Rattle.qc_path.specs.declared.black_hole.BlackHoleDetector.{BlackHoleDetector}
use Rattle.qc_path.specs.declared.black_hole.LossBurst.{LossBurst}

-- no burst counts, and nothing was acknowledged
abbrev pub no_bursts : BlackHoleDetector
no_bursts = record { first = None; second = None; third = None; acked = None }

-- a packet that was sent later than a burst, and is at least as large as its smallest: the burst shows no black hole
abbrev pub clears : AckedPacket → LossBurst → Bool
clears p b = nat_lt b.last p.number && nat_le b.smallest p.size

-- the burst, if that packet leaves it
abbrev pub uncleared : AckedPacket → Option LossBurst → Option LossBurst
uncleared p None = None
uncleared p (Some b) = if clears p b then None else Some b

-- of two packets that were acknowledged the larger one, and the later one where they are of one size
abbrev pub larger : Option AckedPacket → AckedPacket → AckedPacket
larger None p = p
larger (Some q) p = if nat_lt q.size p.size || (q.size == p.size && nat_lt q.number p.number) then p else q

-- a packet above the least size was acknowledged
unfoldable pub packet_passed : AckedPacket → BlackHoleDetector → BlackHoleDetector
packet_passed p d = record { first = uncleared p d.first; second = uncleared p d.second; third = uncleared p d.third; acked = Some (larger d.acked p) }

-- a probe was acknowledged: no burst counts any more
unfoldable pub probe_passed : AckedPacket → BlackHoleDetector → BlackHoleDetector
probe_passed p d = record { first = None; second = None; third = None; acked = Some p }

-- the packet that is kept of those acknowledged leaves nothing of a burst
abbrev pub is_cleared : Option AckedPacket → LossBurst → Bool
is_cleared None b = false
is_cleared (Some p) b = clears p b

-- a packet that was sent before a burst is told apart from no later one, and is forgotten
abbrev pub sent_later : LossBurst → Option AckedPacket → Option AckedPacket
sent_later b None = None
sent_later b (Some p) = if nat_lt b.last p.number then Some p else None

-- one burst more that counts, beside at most two; none where three count already
abbrev pub placed_burst : LossBurst → Option LossBurst → (second third : Option LossBurst) → Option AckedPacket → Option BlackHoleDetector
placed_burst b None second third acked = Some (record { first = Some b; second = second; third = third; acked = acked })
placed_burst b (Some x) None third acked = Some (record { first = Some x; second = Some b; third = third; acked = acked })
placed_burst b (Some x) (Some y) None acked = Some (record { first = Some x; second = Some y; third = Some b; acked = acked })
placed_burst b (Some x) (Some y) (Some z) acked = None

-- a burst that counts; None where it is the fourth one
abbrev pub with_burst : LossBurst → BlackHoleDetector → Option BlackHoleDetector
with_burst b d = placed_burst b d.first d.second d.third (sent_later b d.acked)

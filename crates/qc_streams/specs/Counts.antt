-- How many streams of a kind may be opened, and how many were (RFC 9000, sections 2.1 and 4.6)
use Rattle.std.specs.Prelude.{ℕ, ◌+◌, ◌-◌, ◌/◌, ◌^◌, Bool, true, false, ◌||◌, nat_lt, nat_le, min, max}
use Rattle.qc_base.specs.declared.side.Dir.{Dir}
use Rattle.qc_base.specs.declared.side.Dir.TheVariants.{Bi, Uni}
use Rattle.qc_streams.specs.declared.counts.ByDir.{ByDir}
use Rattle.qc_streams.specs.declared.counts.OwnStreams.{OwnStreams}
use Rattle.qc_streams.specs.declared.counts.PeerStreams.{PeerStreams}

-- a number of streams is held at 2^60
unfoldable pub at_most : ℕ → ℕ
at_most n = min n (2 ^ 60)

-- the value of a direction
abbrev pub by_dir : {T : Type 0} → Dir → ByDir T → T
by_dir Bi b = b.bi
by_dir Uni b = b.uni

-- another value for a direction
abbrev pub dir_put : {T : Type 0} → Dir → T → ByDir T → ByDir T
dir_put Bi x b = record b { bi = x }
dir_put Uni x b = record b { uni = x }

-- this end opened one more
unfoldable pub own_opened : OwnStreams → OwnStreams
own_opened k = record k { opened = k.opened + 1 }

-- the peer lets this end open so many: a limit only rises
unfoldable pub own_raised : ℕ → OwnStreams → OwnStreams
own_raised n k = record k { limit = at_most (max k.limit n) }

-- the peer opened all streams up to an index, which the application is to be told
unfoldable pub peer_opened : ℕ → PeerStreams → PeerStreams
peer_opened index k = record k { opened = at_most (index + 1); tells = true }

-- numbers stand still at the greatest of 64 bits
unfoldable pub saturated : ℕ → ℕ
saturated n = min n (2 ^ 64 - 1)

-- whether the places that the peer wasn't told exceed an eighth of those that may be open at a time
unfoldable pub owes_places : PeerStreams → Bool
owes_places k = nat_lt (k.concurrent / 8) (k.limit - k.announced)

-- the peer may open as many as ended, and those that may be open at a time: a limit only rises
unfoldable pub with_place : PeerStreams → PeerStreams
with_place k = record k {
  ended = saturated (k.ended + 1);
  limit = at_most (max k.limit (saturated (saturated (k.ended + 1) + k.concurrent)));
}

-- one of the peer's streams ended, which frees a place: a MAX_STREAMS waits where one is owed
unfoldable pub place_freed : PeerStreams → PeerStreams
place_freed k = let next : PeerStreams = with_place k in record next { waits = next.waits || owes_places next }

-- a MAX_STREAMS is sealed
unfoldable pub places_sealed : PeerStreams → PeerStreams
places_sealed k = record k { announced = k.limit; waits = false }

-- a MAX_STREAMS is lost: it waits again
unfoldable pub places_lost : PeerStreams → PeerStreams
places_lost k = record k { waits = true }

-- that the peer opened streams was told
unfoldable pub opening_told : PeerStreams → PeerStreams
opening_told k = record k { tells = false }

-- whether the application accepted all that the peer opened
unfoldable pub has_accepted : PeerStreams → Bool
has_accepted k = nat_le k.opened k.accepted

-- the application accepts the next one
unfoldable pub accepted : PeerStreams → PeerStreams
accepted k = record k { accepted = k.accepted + 1 }

-- Two ends are in step: one invariant over both ends and all packets ever sealed, which each event keeps.
-- It holds as well where sealers pass over numbers, and where packets carry fewer numbers.
use Rattle.std.specs.Prelude.{◌≡◌, ℕ, ◌+◌, ◌<◌, ◌≤◌, true, false, All, Option, Some, None}
use Rattle.qc_rings.specs.Ring.{is_open, Kept, Dropped, Open, Below}
use Rattle.qc_rings.specs.TwoRings.{Packet, End, bound}

-- where an epoch begins: its first number, or the next number while there is none
abbrev pub start_of : Option ℕ → ℕ → ℕ
start_of None next = next
start_of (Some first) next = first

-- where an end's current epoch begins
abbrev pub start : End → ℕ
start e = start_of e.ring.first e.next

-- one more than the floor, 0 where there is none
abbrev pub floor_bound : Kept → ℕ
floor_bound Dropped = 0
floor_bound Open = 0
floor_bound (Below floor) = floor + 1

-- What holds of a packet p whose sealer is in the given epoch, has next as its next number, begins its
-- epoch at start and keeps these keys of the epoch before. The last three numbers are the other end's.
pub record Fits (epoch next start : ℕ) (kept : Kept) (epoch' next' start' : ℕ) (p : Packet) : Type 0 where
  -- it was sealed before, in no later epoch
  pub numbered : p.number < next
  pub past : p.epoch ≤ epoch
  -- it is of the current epoch exactly where its number is at least the epoch's first
  pub here : start ≤ p.number → p.epoch ≡ epoch
  pub before : p.number < start → p.epoch < epoch
  -- it acknowledges only what the other end sealed
  pub exist : bound p.carried ≤ next'
  -- a packet of an older epoch acknowledges nothing of the other end's current epoch
  pub older : p.epoch < epoch' → bound p.carried ≤ start'
  -- where its sealer has no floor, it opened nothing of this epoch, so it acknowledges nothing of it
  pub unfloored : is_open kept ≡ true → epoch ≡ epoch' → bound p.carried ≤ start'

-- what holds of a packet that a sealed, b being the other end
abbrev pub FitsEnds : End → End → Packet → Type 0
FitsEnds a b p = Fits a.ring.epoch a.next (start a) a.ring.kept b.ring.epoch b.next (start b) p

-- what holds of an end a, b being the other one
pub record Keeps (a b : End) : Type 0 where
  -- its epoch begins at the next number or before
  pub begun : start a ≤ a.next
  -- what it opened, which its next packet will acknowledge, is as what a packet carries
  pub exist : bound a.opened ≤ b.next
  pub older : a.ring.epoch < b.ring.epoch → bound a.opened ≤ start b
  pub unfloored : is_open a.ring.kept ≡ true → a.ring.epoch ≡ b.ring.epoch → bound a.opened ≤ start b
  -- a floor is a number that it opened
  pub floored : floor_bound a.ring.kept ≤ bound a.opened
  -- it sealed nothing since an update that it hasn't answered
  pub unanswered : a.ring.unanswered ≡ true → start a ≡ a.next
  -- where a packet of its epoch was acknowledged, the other end has come to this epoch, has sealed in it
  -- and has opened in it, so it isn't without a floor
  pub acked_reached : a.ring.acked ≡ true → a.ring.epoch ≤ b.ring.epoch
  pub acked_used : a.ring.acked ≡ true → a.ring.epoch ≡ b.ring.epoch → start b < b.next
  pub acked_floored : a.ring.acked ≡ true → a.ring.epoch ≡ b.ring.epoch → is_open b.ring.kept ≡ false
  -- it is ahead by one epoch at the most
  pub near : a.ring.epoch ≤ b.ring.epoch + 1
  -- where it is ahead it has no floor yet, and the other end sealed in its epoch and opened in it
  pub ahead_open : a.ring.epoch ≡ b.ring.epoch + 1 → is_open a.ring.kept ≡ true
  pub ahead_used : a.ring.epoch ≡ b.ring.epoch + 1 → start b < b.next
  pub ahead_floored : a.ring.epoch ≡ b.ring.epoch + 1 → is_open b.ring.kept ≡ false

-- the invariant
pub record AreInStep (a b : End) : Type 0 where
  pub sent_one : All (FitsEnds a b) a.sent
  pub sent_two : All (FitsEnds b a) b.sent
  pub one : Keeps a b
  pub two : Keeps b a

-- How an end counts: its epoch is no greater than the number at which it begins, and where a packet of the epoch was acknowledged,
-- one was sealed in it. So each epoch but the first begins behind a packet of the one before, and epochs stay below the
-- greatest packet number.
pub record Counts (e : End) : Type 0 where
  pub epochs : e.ring.epoch ≤ start e
  pub used : e.ring.acked ≡ true → start e < e.next

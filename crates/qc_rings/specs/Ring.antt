-- What a key ring knows besides its keys (RFC 9001, section 6). The epoch names the keys: 0 for the
-- first 1-RTT keys of a connection, one more with each update.
use Rattle.std.specs.Prelude.{ℕ, ◌%◌, Bool, true, false, not, ◌&&◌, Option, Some, None, nat_eq, nat_lt, nat_le, if◌then◌else◌}
use Rattle.qc_base.specs.Time.{plus}
use Rattle.qc_rings.specs.declared.which.Which.{Which}
use Rattle.qc_rings.specs.declared.which.Which.TheVariants.{Current, Previous, Next}

-- what is kept of the epoch before
pub data Kept : Type 0 where
  -- no keys
  Dropped : Kept
  -- its keys, for packets of any number: none of this epoch was opened
  Open : Kept
  -- its keys, for packets with a number below the floor
  Below : (floor : ℕ) → Kept

-- a ring without its keys
pub record Ring : Type 0 where
  -- the current epoch
  pub epoch : ℕ
  -- what is kept of the epoch before
  pub kept : Kept
  -- the first number sealed in this epoch
  pub first : Option ℕ
  -- whether a packet that was sealed in this epoch was acknowledged
  pub acked : Bool
  -- whether the peer's last update isn't answered yet by a sealed packet
  pub unanswered : Bool

-- a ring that begins
abbrev pub first_ring : Ring
first_ring = record { epoch = 0; kept = Dropped; first = None; acked = false; unanswered = false }

-- the key phase bit of an epoch's packets: 0 in the first epoch, and toggled by each update
abbrev pub phase_of : ℕ → Bool
phase_of epoch = nat_eq (epoch % 2) 1

-- whether two phase bits are the same
abbrev pub same_phase : Bool → (phase : Bool) → Bool
same_phase true phase = phase
same_phase false phase = not phase

-- whether the keys of the epoch before are kept for a packet of this number
abbrev pub serves : Kept → ℕ → Bool
serves Dropped number = false
serves Open number = true
serves (Below floor) number = nat_lt number floor

-- which keys a packet of this phase and number names
unfoldable pub which_named : Ring → Bool → ℕ → Which
which_named r phase number =
    if same_phase phase (phase_of r.epoch) then Current else (if serves r.kept number then Previous else Next)

-- whether previous keys are kept without a floor
abbrev pub is_open : Kept → Bool
is_open Dropped = false
is_open Open = true
is_open (Below floor) = false

-- a packet of this epoch was opened: its number becomes the floor, where there was none
abbrev pub with_floor : Kept → ℕ → Kept
with_floor Dropped number = Dropped
with_floor Open number = Below number
with_floor (Below floor) number = Below floor

-- the ring at the start of a new epoch, in which nothing was sealed yet, with what is kept of the old one
abbrev pub new_epoch : Ring → Kept → Bool → Ring
new_epoch r kept unanswered =
    record { epoch = plus r.epoch 1; kept = kept; first = None; acked = false; unanswered = unanswered }

-- the ring once a packet of this number was opened by these of its keys; the next ones begin a new epoch,
-- to which older packets have lower numbers
unfoldable pub after_opened : Ring → Which → ℕ → Ring
after_opened r Current number = record r { kept = with_floor r.kept number }
after_opened r Previous number = r
after_opened r Next number = new_epoch r (Below number) true

-- the first of the numbers sealed, this one being the last
abbrev pub first_with : Option ℕ → ℕ → Option ℕ
first_with None number = Some number
first_with (Some first) number = Some first

-- the ring once it sealed a packet of this number
unfoldable pub after_sealed : Ring → ℕ → Ring
after_sealed r number = record r { first = first_with r.first number; unanswered = false }

-- whether this number is of this epoch, in which the first number was sealed
abbrev pub is_from : Option ℕ → ℕ → Bool
is_from None number = false
is_from (Some first) number = nat_le first number

-- the ring once its packet of this number was acknowledged
unfoldable pub after_acked : Ring → ℕ → Ring
after_acked r number = if is_from r.first number then record r { acked = true } else r

-- whether nothing is kept of the epoch before
abbrev pub is_dropped : Kept → Bool
is_dropped Dropped = true
is_dropped Open = false
is_dropped (Below floor) = false

-- Keys are updated only after an acknowledgement in their epoch (RFC 9001, section 6). Whether the end may begin a new
-- epoch: nothing is kept of the one before, and a packet of this one was acknowledged
unfoldable pub may_update : Ring → Bool
may_update r = is_dropped r.kept && r.acked

-- the ring once its end began a new epoch: old packets may have any number
unfoldable pub after_update : Ring → Ring
after_update r = new_epoch r Open false

-- whether the keys of the epoch before are kept and have a floor
abbrev pub has_floor : Kept → Bool
has_floor Dropped = false
has_floor Open = false
has_floor (Below floor) = true

-- the ring once the keys of the epoch before were dropped, which have to have a floor
unfoldable pub after_discard : Ring → Ring
after_discard r = if has_floor r.kept then record r { kept = Dropped } else r

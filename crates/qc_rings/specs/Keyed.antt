-- A key ring with its keys: each call's effect.
use Rattle.std.specs.Prelude.{ℕ, ◌+◌, nat_eq, Option, Some, None, if◌then◌else◌}
use Rattle.qc_base.specs.Time.{plus}
use Rattle.qc_crypto.specs.declared.keys.KeyPair.{KeyPair}
use Rattle.qc_rings.specs.declared.previous.PreviousKeys.{PreviousKeys}
use Rattle.qc_rings.specs.declared.which.Which.{Which}
use Rattle.qc_rings.specs.declared.which.Which.TheVariants.{Current, Previous, Next}
use Rattle.qc_rings.specs.Ring.{Ring, Kept, Dropped, Open, Below, first_ring, after_opened, after_sealed, after_acked, may_update, after_update, after_discard, has_floor}

-- a ring with its keys
pub record Keyed (P : Type 0) : Type 0 where
  -- what it knows besides its keys
  pub ring : Ring
  -- how many packets it sealed in this epoch
  pub count : ℕ
  -- the keys of this epoch
  pub current : KeyPair P
  -- the keys of the epoch to come
  pub next : KeyPair P
  -- the keys of the epoch before, where they are kept
  pub previous : Option (KeyPair P)

-- what is kept of the epoch before, by the keys that are kept with their floor
abbrev pub floor_kept : Option ℕ → Kept
floor_kept None = Open
floor_kept (Some floor) = Below floor

-- the same, where keys may be kept
abbrev pub kept_of : {P : Type 0} → Option (PreviousKeys P) → Kept
kept_of None = Dropped
kept_of (Some previous) = floor_kept previous.floor

-- the keys that are kept, if any are
abbrev pub keys_kept : {P : Type 0} → Option (PreviousKeys P) → Option (KeyPair P)
keys_kept None = None
keys_kept (Some previous) = Some previous.keys

-- a ring that begins with these keys
abbrev pub first_keyed : {P : Type 0} → (current next : KeyPair P) → Keyed P
first_keyed current next = record { ring = first_ring; count = 0; current = current; next = next; previous = None }

-- the keys that are named
abbrev pub key_of : {P : Type 0} → Keyed P → Which → Option (KeyPair P)
key_of k Previous = k.previous
key_of k Current = Some k.current
key_of k Next = Some k.next

-- the keys of this epoch, where the ring has them
unfoldable pub key_of_epoch : {P : Type 0} → Keyed P → ℕ → Option (KeyPair P)
key_of_epoch k epoch =
    if nat_eq epoch k.ring.epoch then Some k.current
    else (if nat_eq epoch (k.ring.epoch + 1) then Some k.next
    else (if nat_eq (epoch + 1) k.ring.epoch then k.previous else None))

-- the ring in a new epoch: what was next is current, and what was current is kept
abbrev pub keyed_in : {P : Type 0} → Ring → Keyed P → KeyPair P → Keyed P
keyed_in ring k fresh = record { ring = ring; count = 0; current = k.next; next = fresh; previous = Some k.current }

-- a packet of this number was opened: by the next keys, which then are the current ones, with fresh
-- ones as the next, or by others; without fresh ones the next keys stay what they are
unfoldable pub keyed_opened : {P : Type 0} → Keyed P → Which → ℕ → Option (KeyPair P) → Keyed P
keyed_opened k Next number None = k
keyed_opened k Next number (Some fresh) = keyed_in (after_opened k.ring Next number) k fresh
keyed_opened k which number fresh = record k { ring = after_opened k.ring which number }

-- a packet of this number was sealed
unfoldable pub keyed_sealed : {P : Type 0} → Keyed P → ℕ → Keyed P
keyed_sealed k number = record k { ring = after_sealed k.ring number; count = plus k.count 1 }

-- a packet of this number was acknowledged
unfoldable pub keyed_acked : {P : Type 0} → Keyed P → ℕ → Keyed P
keyed_acked k number = record k { ring = after_acked k.ring number }

-- a new epoch began, where the end may begin one, with fresh keys as the next ones
unfoldable pub keyed_updated : {P : Type 0} → Keyed P → KeyPair P → Keyed P
keyed_updated k fresh = if may_update k.ring then keyed_in (after_update k.ring) k fresh else k

-- the keys of the epoch before were dropped, where they have a floor
unfoldable pub keyed_discarded : {P : Type 0} → Keyed P → Keyed P
keyed_discarded k = if has_floor k.ring.kept then record k { ring = after_discard k.ring; previous = None } else k

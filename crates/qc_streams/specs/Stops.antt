-- STOP_SENDING frames that wait again after their streams have gone (RFC 9000, section 3.5)
use Rattle.std.specs.Prelude.{ℕ, List, [], ◌∷◌, Option, None, Some}
use Rattle.std.specs.BTreeMap.{insert_entry, is_at}
use Rattle.std.specs.Map.{remove_entry}
use Rattle.std.specs.Ordering.{nat_cmp}
use Rattle.qc_base.specs.declared.varint.VarInt.{VarInt}

-- each code under its stream's id, in ascending order
abbrev pub StopCodes : Type 0
StopCodes = List (ℕ × VarInt)

-- the one of a stream waits
abbrev pub with_stop : ℕ → VarInt → StopCodes → StopCodes
with_stop id code codes = insert_entry nat_cmp codes id code

-- the one of a stream waits no more
abbrev pub without_stop : ℕ → StopCodes → StopCodes
without_stop id codes = remove_entry (is_at (nat_cmp id)) codes

-- that of the least id
abbrev pub first_stop : StopCodes → Option (ℕ × VarInt)
first_stop [] = None
first_stop (x ∷ xs) = Some x

-- Streams that wait until they can be written on again
use Rattle.std.specs.Prelude.{ℕ, Bool, true, nat_lt, if◌then◌else◌, List, [], ◌∷◌, Option, None, Some}
use Rattle.std.specs.BTreeMap.{insert_entry, is_at}
use Rattle.std.specs.Map.{remove_entry}
use Rattle.std.specs.Ordering.{nat_cmp}
use Rattle.qc_send_stream.specs.declared.fault.WriteError.{WriteError}
use Rattle.qc_send_stream.specs.declared.fault.WriteError.TheVariants.{Blocked as WriteBlocked, ClosedStream, Stopped, OutOfMemory}

-- their ids, each under itself, in ascending order
abbrev pub BlockedIds : Type 0
BlockedIds = List (ℕ × ℕ)

-- a stream comes in
abbrev pub with_blocked : ℕ → BlockedIds → BlockedIds
with_blocked id ids = insert_entry nat_cmp ids id id

-- a stream leaves
abbrev pub without_blocked : ℕ → BlockedIds → BlockedIds
without_blocked id ids = remove_entry (is_at (nat_cmp id)) ids

-- a write was refused though the connection has credit and room: where it was blocked, its stream lacks credit of its own
abbrev pub lacking : WriteError → ℕ → BlockedIds → BlockedIds
lacking WriteBlocked id ids = without_blocked id ids
lacking ClosedStream id ids = ids
lacking (Stopped code) id ids = ids
lacking OutOfMemory id ids = ids

-- whether an id lies below another, or there is no other
abbrev pub is_below : Option ℕ → ℕ → Bool
is_below None id = true
is_below (Some n) id = nat_lt id n

-- the least of them, where it lies below that id
abbrev pub first_blocked : Option ℕ → BlockedIds → Option (ℕ × ℕ)
first_blocked below [] = None
first_blocked below (x ∷ xs) = if is_below below x.1 then Some x else None

-- without it
abbrev pub first_gone : Option ℕ → BlockedIds → BlockedIds
first_gone below [] = []
first_gone below (x ∷ xs) = if is_below below x.1 then xs else x ∷ xs

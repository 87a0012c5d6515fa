-- A packet that was sealed in its buffer, and what a mate makes of it.
use Rattle.std.proofs.Common.{◌≡◌, ℕ, ◌-◌, ◌≤◌, List, length, take, drop, None, Some}
use Rattle.std.specs.Prelude.{slice_range}
use Rattle.std.proofs.lemmas.List.{take_at, drop_at, length-take-le}
use Rattle.qc_crypto.specs.Mates.{Sealing, Opening, OpensItsPackets}
use Rattle.qc_crypto.specs.Sealing.{sealed_in_place}

-- the sealed packet, cut behind its header, opens
pub sealed_opens : (seal : Sealing) (opening : Opening) (number n : ℕ) (buf packet : List ℕ) → OpensItsPackets seal opening → n ≤ length buf → packet ≡ sealed_in_place seal number buf n
    → opening number (take n packet) (drop n packet) ≡ Some (slice_range buf n (length buf - 16))
unfolding sealed_in_place
sealed_opens seal opening number n buf packet mates long e =
    let size : length (take n buf) ≡ n = length-take-le n buf long in
    rw (e, take_at (take n buf) _ n size, drop_at (take n buf) _ n size) (mates.same number (take n buf) (slice_range buf n (length buf - 16)))

pub not_refused : (opening : Opening) (number : ℕ) (header payload front back plain : List ℕ) → opening number front back ≡ Some plain → header ≡ front → payload ≡ back
    → opening number header payload ≡ None → ⊥
not_refused opening number header payload front back plain opens same same' none = cc

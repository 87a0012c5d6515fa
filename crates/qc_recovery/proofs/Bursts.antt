-- A walk along lost packets, of which those of bursts are told
use Rattle.std.proofs.Common.{◌≡◌, ℕ, ◌+◌, ◌<◌, ◌≤◌, Bool, true, false, List, [], ◌∷◌, length, drop, get_or, filter, refl, ap}
use Rattle.qc_flight.specs.Packets.{Entry, those}
use Rattle.qc_recovery.proofs.Places.{all_left, here, nothing_left}

-- all packets of the list are left at its front
pub bursts_start : (p : Entry → Bool) (es : List Entry) → those p (drop 0 es) ≡ those p es
bursts_start p es = ap (λ xs. those p xs) (all_left es)

pub filter_takes : (p : Entry → Bool) (e : Entry) (es : List Entry) → p e ≡ true → filter p (e ∷ es) ≡ e ∷ filter p es
filter_takes p e es passes = rw passes refl

pub filter_leaves : (p : Entry → Bool) (e : Entry) (es : List Entry) → p e ≡ false → filter p (e ∷ es) ≡ filter p es
filter_leaves p e es fails = rw fails refl

-- the packet at the place comes first, if it passes
pub burst_goes_on : (p : Entry → Bool) (es : List Entry) (place : ℕ) (e : Entry) → e ≡ get_or es place e → place < length es → p e ≡ true → those p (drop place es) ≡ e ∷ those p (drop (place + 1) es)
unfolding those
burst_goes_on p es place e is within passes = rw (here es place e is within) (filter_takes p e (drop (place + 1) es) passes)

-- else it is passed over
pub burst_passes : (p : Entry → Bool) (es : List Entry) (place : ℕ) (e : Entry) → e ≡ get_or es place e → place < length es → p e ≡ false → those p (drop place es) ≡ those p (drop (place + 1) es)
unfolding those
burst_passes p es place e is within fails = rw (here es place e is within) (filter_leaves p e (drop (place + 1) es) fails)

pub bursts_end : (p : Entry → Bool) (es : List Entry) (place : ℕ) → length es ≤ place → those p (drop place es) ≡ []
unfolding those
bursts_end p es place le = rw (nothing_left es place le) refl

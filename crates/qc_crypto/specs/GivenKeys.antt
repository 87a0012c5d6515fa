-- The keys that a session's writes give.
use Rattle.std.specs.Prelude.{ℕ, zero, suc, Option, Some, None}
use Rattle.qc_base.specs.declared.side.SpaceId.{SpaceId}
use Rattle.qc_base.specs.declared.side.SpaceId.TheVariants.{Handshake, Data}

-- 1 where a write gave keys, 0 where it gave none.
abbrev pub keys_given : {K : Type 0} → Option K → ℕ
keys_given None = 0
keys_given (Some keys) = 1

-- The first keys that a session's writes give are those of the Handshake space, and the next those of
-- the Data space.
abbrev pub space_of_change : ℕ → SpaceId
space_of_change zero = Handshake
space_of_change (suc n) = Data

-- When ids that were issued expire, list by list, those issued first in front
use Rattle.std.specs.Prelude.{◌≡◌, ℕ, List, [], ◌∷◌, ◌++◌, Option, Some, None, option_to_list}
use Rattle.qc_base.specs.Time.{plus}
use Rattle.qc_ids.specs.declared.expiries.CidExpiry.{CidExpiry}

-- ids up to this number, without it, expire one lifetime after now; without a lifetime they don't
abbrev pub expiry_of : Option ℕ → (now end : ℕ) → List CidExpiry
expiry_of None now end = []
expiry_of (Some lifetime) now end = record { at = plus now lifetime; end = end } ∷ []

-- when the oldest list expires
abbrev pub oldest_time : List CidExpiry → Option ℕ
oldest_time [] = None
oldest_time (e ∷ es) = Some e.at

-- the first list stands apart, so that it takes no memory
abbrev pub expiries_of : Option CidExpiry → List CidExpiry → List CidExpiry
expiries_of oldest later = option_to_list oldest ++ later

-- no later list without an oldest one
abbrev pub HasOldest : Option CidExpiry → List CidExpiry → Type 0
HasOldest None later = later ≡ []
HasOldest (Some e) later = Unit {0}

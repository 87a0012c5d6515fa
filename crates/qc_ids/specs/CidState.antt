-- How a `CidState` holds the ids that were issued
use Rattle.std.specs.Prelude.{ℕ, ◌≤◌, List, [], ◌∷◌}
use Rattle.qc_ids.specs.declared.expiries.CidExpiry.{CidExpiry}
use Rattle.qc_ids.specs.declared.cid_state.CidState.TheInside.{Inside}
use Rattle.qc_ids.specs.LocalCids.{LocalCids}
use Rattle.qc_ids.specs.Numbers.{Rises}

-- lists that were issued later end later, from low to high
abbrev pub EndsRise : (low high : ℕ) → List CidExpiry → Type 0
EndsRise low high [] = low ≤ high
EndsRise low high (e ∷ es) = (low ≤ e.end) × EndsRise e.end high es

-- the ids that a state holds
abbrev pub local_cids : Inside → LocalCids
local_cids s = record {
  active = s.active.items;
  issued = s.issued;
  retire_prior_to = s.retire_prior_to;
  expiries = s.expiries;
  cid_len = s.cid_len;
  lifetime = s.lifetime;
}

-- active ids were issued; and no list ends below the number up to which ids are retired
pub record IsHeld (s : Inside) : Type 0 where
  pub active : Rises 0 s.issued s.active.items
  pub expiries : EndsRise s.retire_prior_to s.issued s.expiries

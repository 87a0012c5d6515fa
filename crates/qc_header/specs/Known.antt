-- The versions that a reader knows
use Rattle.std.specs.Prelude.{ℕ, ◌<◌, ◌==◌, IsTrue, List}
use Rattle.std.specs.List.{list_any}

-- the reader knows this version
pub record IsKnown (version : ℕ) (versions : List ℕ) : Type 0 where
  pub some : 0 < version
  pub listed : IsTrue (list_any (λ v. v == version) versions)

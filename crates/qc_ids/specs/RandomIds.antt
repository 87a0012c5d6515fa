-- Connection ids of random bytes
use Rattle.std.specs.Prelude.{ℕ, Option}

-- how long the ids are, and how long after their issue they are to be retired, in nanoseconds
pub record RandomIds : Type 0 where
  pub cid_len : ℕ
  pub lifetime : Option ℕ

-- ids of this length and lifetime
abbrev pub random_ids : ℕ → Option ℕ → RandomIds
random_ids cid_len lifetime = record { cid_len = cid_len; lifetime = lifetime }

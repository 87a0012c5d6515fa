-- How the offsets that were read out of order are kept: ranges, each start under its end
use Rattle.std.specs.Prelude.{◌≡◌, false, ℕ, zero, suc, ◌-◌, ◌<◌, ◌≤◌, nat_lt, if◌then◌else◌, List, [], ◌∷◌, ◌++◌, Option, None, Some}
use Rattle.qc_assembler.specs.Assembly.{Assembly, among}
use Rattle.qc_assembler.specs.Parts.{flat, IsKept}

-- n offsets in a row, the first at s
unfoldable pub row : (start count : ℕ) → List ℕ
row s zero = []
row s (suc n) = s ∷ row (suc s) n

-- the offsets of all ranges
unfoldable pub listed : List (ℕ × ℕ) → List ℕ
listed [] = []
listed (e ∷ es) = row e.1 (e.0 - e.1) ++ listed es

-- ranges that aren't empty, ascend, don't overlap and lie at lo or above
unfoldable pub AreRanges : ℕ → List (ℕ × ℕ) → Type 0
AreRanges lo [] = Unit {0}
AreRanges lo (e ∷ es) = (lo ≤ e.1) × (e.1 < e.0) × AreRanges e.0 es

-- the first range that ends behind the offset o
unfoldable pub range_past : ℕ → List (ℕ × ℕ) → Option (ℕ × ℕ)
range_past o [] = None
range_past o (e ∷ es) = if nat_lt o e.0 then Some e else range_past o es

-- what is kept, as what came and what was read
unfoldable pub assembled : ℕ → List (ℕ × ℕ) → List (ℕ × List ℕ) → Assembly
assembled read ranges parts = record { read = read; ahead = listed ranges; came = flat parts }

-- none of those bytes was read
unfoldable pub AllUnread : ℕ → List ℕ → List (ℕ × ℕ) → Type 0
AllUnread read ahead [] = Unit {0}
AllUnread read ahead (x ∷ xs) = (read ≤ x.0) × (among x.0 ahead ≡ false) × AllUnread read ahead xs

-- a range that ends at n has room before that one
unfoldable pub HasGap : ℕ → Option (ℕ × ℕ) → Type 0
HasGap n None = Unit {0}
HasGap n (Some e) = n ≤ e.1

-- What holds of all that is kept
pub record IsSound (read : ℕ) (ranges : List (ℕ × ℕ)) (parts : List (ℕ × List ℕ)) (joined : ℕ) : Type 0 where
  -- the parts and their count
  pub kept : IsKept parts joined
  -- the ranges
  pub ascending : AreRanges 0 ranges
  -- what waits wasn't read
  pub unread : AllUnread read (listed ranges) (flat parts)

-- Parts that follow one another, as their bytes in a row
use Rattle.std.specs.Prelude.{◌≡◌, ℕ, ◌+◌, ◌<◌, List, [], ◌∷◌, ◌++◌, length, Option, None, Some}
use Rattle.std.specs.List.{concat}

-- the bytes of the first part and of those behind it; none where there is no first one
unfoldable pub linked : Option (List ℕ) → List (List ℕ) → Option (List ℕ)
linked None rest = None
linked (Some p) rest = Some (p ++ concat rest)

-- each part holds bytes
unfoldable pub EachSome : List (List ℕ) → Type 0
EachSome [] = Unit {0}
EachSome (p ∷ ps) = (0 < length p) × EachSome ps

-- each part holds bytes, there is a first one where there is any, and so many bytes there are
unfoldable pub IsLinked : Option (List ℕ) → List (List ℕ) → ℕ → Type 0
IsLinked None rest len = (rest ≡ []) × (len ≡ 0)
IsLinked (Some p) rest len = (0 < length p) × EachSome rest × (len ≡ length (p ++ concat rest))

-- Bytes that come at offsets, in any order and more than once, and are read once
use Rattle.std.specs.Prelude.{◌≡◌, ℕ, zero, suc, ◌+◌, ◌<◌, ◌≤◌, Bool, true, false, IsTrue, ◌==◌, ◌||◌, nat_lt, if◌then◌else◌, List, [], ◌∷◌, ◌++◌, length, drop, Option, None, Some, is_some}
use Rattle.std.specs.Option.{option_map}

-- the bytes in a row, each with its offset, the first at o
unfoldable pub run : ℕ → List ℕ → List (ℕ × ℕ)
run o [] = []
run o (b ∷ bs) = (o, b) ∷ run (suc o) bs

-- the byte b comes at o; one that came there before stays
unfoldable pub put : (offset byte : ℕ) → List (ℕ × ℕ) → List (ℕ × ℕ)
put o b [] = (o, b) ∷ []
put o b (x ∷ xs) = if nat_lt o x.0 then (o, b) ∷ x ∷ xs else if o == x.0 then x ∷ xs else x ∷ put o b xs

-- bytes come one after the other, the first at o
unfoldable pub add : ℕ → List ℕ → List (ℕ × ℕ) → List (ℕ × ℕ)
add o [] came = came
add o (b ∷ bs) came = add (suc o) bs (put o b came)

-- how many runs follow on a byte at the offset before k: the first begins anew unless it is at k
unfoldable pub runs_from : ℕ → List (ℕ × ℕ) → ℕ
runs_from k [] = 0
runs_from k (x ∷ xs) = (if x.0 == k then 0 else 1) + runs_from (suc x.0) xs

-- how many separate parts there are: runs of offsets, each as long as it can be
unfoldable pub part_count : List (ℕ × ℕ) → ℕ
part_count [] = 0
part_count (x ∷ xs) = suc (runs_from (suc x.0) xs)

-- whether the offset o is among those
unfoldable pub among : ℕ → List ℕ → Bool
among o [] = false
among o (x ∷ xs) = o == x || among o xs

-- What came and what was read
pub record Assembly : Type 0 where
  -- every offset below was read
  pub read : ℕ
  -- the offsets from there on that were read out of order, ascending
  pub ahead : List ℕ
  -- the bytes that came and weren't read, each with its offset, ascending
  pub came : List (ℕ × ℕ)

-- nothing came
unfoldable pub nothing : Assembly
nothing = record { read = 0; ahead = []; came = [] }

-- whether the byte at the offset o was read
unfoldable pub was_read : ℕ → Assembly → Bool
was_read o a = nat_lt o a.read || among o a.ahead

-- the byte b comes at o: one that was read is passed over, and one that came there before stays
unfoldable pub byte_came : (offset byte : ℕ) → Assembly → Assembly
byte_came o b a = if was_read o a then a else record a { came = put o b a.came }

-- bytes come one after the other, the first at o
unfoldable pub inserted : ℕ → List ℕ → Assembly → Assembly
inserted o [] a = a
inserted o (b ∷ bs) a = inserted (suc o) bs (byte_came o b a)

-- n bytes are read in order
unfoldable pub advanced : ℕ → Assembly → Assembly
advanced n a = record a { read = a.read + n; came = drop n a.came }

-- the offset of the first byte that came and wasn't read
unfoldable pub first_offset : List (ℕ × ℕ) → Option ℕ
first_offset [] = None
first_offset (x ∷ xs) = Some x.0

-- whether a list of bytes begins at the offset o
unfoldable pub begins_at : ℕ → List (ℕ × ℕ) → Bool
begins_at o [] = false
begins_at o (x ∷ xs) = x.0 == o

-- whether the byte after those that were read has come
unfoldable pub is_readable : Assembly → Bool
is_readable a = begins_at a.read a.came

-- whether a byte came that wasn't read
unfoldable pub has_bytes : List (ℕ × ℕ) → Bool
has_bytes [] = false
has_bytes (x ∷ xs) = true

-- the bytes of a chunk, none where there is no chunk
unfoldable pub bytes_of : Option (List ℕ) → List ℕ
bytes_of None = []
bytes_of (Some bs) = bs

-- What an ordered read of at most so many bytes may give: how many is free
pub record IsFront (most : ℕ) (a : Assembly) (chunk : Option (List ℕ)) : Type 0 where
  -- a chunk exactly where the next byte has come
  pub given : is_some chunk ≡ is_readable a
  -- no more bytes than were asked for
  pub within : length (bytes_of chunk) ≤ most
  -- at least one, where one was asked for
  pub some : IsTrue (is_readable a) → 0 < most → 0 < length (bytes_of chunk)
  -- they are those that came first, from the next offset on
  pub first : a.came ≡ run a.read (bytes_of chunk) ++ drop (length (bytes_of chunk)) a.came

-- the offset of a chunk, 0 where there is no chunk
unfoldable pub chunk_offset : Option (ℕ × List ℕ) → ℕ
chunk_offset None = 0
chunk_offset (Some c) = c.0

-- the bytes of a chunk with its offset, none where there is no chunk
unfoldable pub chunk_bytes : Option (ℕ × List ℕ) → List ℕ
chunk_bytes None = []
chunk_bytes (Some c) = c.1

-- What an unordered read of at most so many bytes may give: how many is free
pub record IsFirst (most : ℕ) (came : List (ℕ × ℕ)) (chunk : Option (ℕ × List ℕ)) : Type 0 where
  -- a chunk exactly where a byte came that wasn't read
  pub given : is_some chunk ≡ has_bytes came
  -- no more bytes than were asked for
  pub within : length (chunk_bytes chunk) ≤ most
  -- at least one, where one was asked for
  pub some : IsTrue (has_bytes came) → 0 < most → 0 < length (chunk_bytes chunk)
  -- they are those that came first, at the lowest offsets
  pub first : came ≡ run (chunk_offset chunk) (chunk_bytes chunk) ++ drop (length (chunk_bytes chunk)) came
  -- the offset is that of the first byte
  pub place : first_offset came ≡ option_map (λ c. c.0) chunk

-- the offset o is read out of order
unfoldable pub note : ℕ → List ℕ → List ℕ
note o [] = o ∷ []
note o (x ∷ xs) = if nat_lt o x then o ∷ x ∷ xs else if o == x then x ∷ xs else x ∷ note o xs

-- n offsets from o on are read out of order
unfoldable pub noted : (offset count : ℕ) → List ℕ → List ℕ
noted o zero ahead = ahead
noted o (suc n) ahead = noted (suc o) n (note o ahead)

-- the first n bytes, whose offsets begin at o, are read out of order
unfoldable pub taken : (offset count : ℕ) → Assembly → Assembly
taken o n a = record a { ahead = noted o n a.ahead; came = drop n a.came }

-- what waits is let go
unfoldable pub discarded : Assembly → Assembly
discarded a = record a { came = [] }

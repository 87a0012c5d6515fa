-- A packet sealed in the buffer that holds it (RFC 9001, section 5.3).
use Rattle.std.specs.Prelude.{ℕ, ◌-◌, List, ◌++◌, length, take, slice_range}

-- The buffer is the header, the plain payload and 16 bytes of room for the tag. The header stays, and
-- what follows it becomes the sealed payload.
unfoldable pub sealed_in_place : (ℕ → List ℕ → List ℕ → List ℕ) → ℕ → List ℕ → ℕ → List ℕ
sealed_in_place seal number buf header_len =
    take header_len buf ++ seal number (take header_len buf) (slice_range buf header_len (length buf - 16))

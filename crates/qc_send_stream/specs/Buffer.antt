-- Bytes that are written in order, sent and sent again, until they are acknowledged (RFC 9000, sections 2.2 and 3.1)
use Rattle.std.specs.Prelude.{◌≡◌, ℕ, suc, ◌+◌, ◌<◌, ◌≤◌, Bool, true, false, IsTrue, ◌&&◌, nat_lt, nat_le, min, max, if◌then◌else◌, List, [], ◌∷◌, ◌++◌, length, drop, Option, None, Some, is_some}
use Rattle.std.specs.Option.{option_map}

-- A byte that was written and isn't acknowledged
pub record Kept : Type 0 where
  -- where it was written
  pub offset : ℕ
  -- the byte
  pub byte : ℕ
  -- whether it was lost and wasn't sent since
  pub lost : Bool

-- What was written and what became of it
pub record Buffer : Type 0 where
  -- how many bytes were written
  pub written : ℕ
  -- how many were sent at least once: bytes from there on are fresh, those below that aren't lost are in flight
  pub sent : ℕ
  -- the bytes that were written and aren't acknowledged, ascending
  pub kept : List Kept

-- nothing was written
unfoldable pub nothing : Buffer
nothing = record { written = 0; sent = 0; kept = [] }

-- bytes in a row that stand alike, the first at o
unfoldable pub row : Bool → ℕ → List ℕ → List Kept
row lost o [] = []
row lost o (b ∷ bs) = record { offset = o; byte = b; lost = lost } ∷ row lost (suc o) bs

-- whether a byte lies in the range from start up to end
unfoldable pub lies_in : (start end : ℕ) → Kept → Bool
lies_in start end k = nat_le start k.offset && nat_lt k.offset end

-- the bytes of a range are lost, or aren't any more
unfoldable pub marked : (lost : Bool) → (start end : ℕ) → List Kept → List Kept
marked lost start end [] = []
marked lost start end (k ∷ ks) = (if lies_in start end k then record k { lost = lost } else k) ∷ marked lost start end ks

-- without the bytes of a range
unfoldable pub without : (start end : ℕ) → List Kept → List Kept
without start end [] = []
without start end (k ∷ ks) = if lies_in start end k then without start end ks else k ∷ without start end ks

-- bytes are written
unfoldable pub bytes_written : List ℕ → Buffer → Buffer
bytes_written bs b = record b { written = b.written + length bs; kept = b.kept ++ row false b.written bs }

-- how many bytes were sent at least once when a range is sealed: one that begins behind them leaves a gap, and doesn't count
unfoldable pub sent_with : (start end sent written : ℕ) → ℕ
sent_with start end sent written = if nat_le start sent then max sent (min end written) else sent

-- a frame with the bytes of a range is sealed: they are in flight
unfoldable pub range_sealed : (start end : ℕ) → Buffer → Buffer
range_sealed start end b = record b { sent = sent_with start end b.sent b.written; kept = marked false start end b.kept }

-- a frame with the bytes of a range is acknowledged: those that were sent are kept no more
unfoldable pub range_acked : (start end : ℕ) → Buffer → Buffer
range_acked start end b = record b { kept = without start (min end b.sent) b.kept }

-- a frame with the bytes of a range is lost: those that were sent and aren't acknowledged wait again
unfoldable pub range_lost : (start end : ℕ) → Buffer → Buffer
range_lost start end b = record b { kept = marked true start (min end b.sent) b.kept }

-- nothing is sent any more
unfoldable pub discarded : Buffer → Buffer
discarded b = record b { kept = [] }

-- whether there is a byte
unfoldable pub has_bytes : List Kept → Bool
has_bytes [] = false
has_bytes (k ∷ ks) = true

-- from the first lost byte on
unfoldable pub from_lost : List Kept → List Kept
from_lost [] = []
from_lost (k ∷ ks) = if k.lost then k ∷ ks else from_lost ks

-- from the first byte at the offset o or behind it on
unfoldable pub from_offset : ℕ → List Kept → List Kept
from_offset o [] = []
from_offset o (k ∷ ks) = if nat_le o k.offset then k ∷ ks else from_offset o ks

-- what is to be sent next, and what follows it: a lost byte before a fresh one, the lowest of them first
unfoldable pub waiting : Buffer → List Kept
waiting b = if has_bytes (from_lost b.kept) then from_lost b.kept else from_offset b.sent b.kept

-- the offset of the first byte
unfoldable pub first_offset : List Kept → Option ℕ
first_offset [] = None
first_offset (k ∷ ks) = Some k.offset

-- the offset of a part, 0 where there is none
unfoldable pub part_offset : Option (ℕ × List ℕ) → ℕ
part_offset None = 0
part_offset (Some p) = p.0

-- the bytes of a part, none where there is none
unfoldable pub part_bytes : Option (ℕ × List ℕ) → List ℕ
part_bytes None = []
part_bytes (Some p) = p.1

-- What may be sent next, with at most so many bytes: how many is free
pub record IsNext (most : ℕ) (b : Buffer) (part : Option (ℕ × List ℕ)) : Type 0 where
  -- a part exactly where a byte is lost or fresh
  pub given : is_some part ≡ has_bytes (waiting b)
  -- no more bytes than were asked for
  pub within : length (part_bytes part) ≤ most
  -- at least one, where one was asked for
  pub some : IsTrue (has_bytes (waiting b)) → 0 < most → 0 < length (part_bytes part)
  -- they are those that wait first, in a row: all lost, or all fresh where none is lost
  pub first : waiting b ≡ row (has_bytes (from_lost b.kept)) (part_offset part) (part_bytes part) ++ drop (length (part_bytes part)) (waiting b)
  -- the offset is that of the first byte
  pub place : first_offset (waiting b) ≡ option_map (λ p. p.0) part

-- What is sent is what was written
use Rattle.std.specs.Prelude.{◌≡◌, ℕ, List, [], ◌∷◌, ◌++◌, length, take, drop, Option}
use Rattle.qc_send_stream.specs.Buffer.{Buffer, nothing, bytes_written, range_sealed, range_acked, range_lost, discarded, part_offset, part_bytes, IsNext}

-- what happens to what was written
pub data Step : Type 0 where
  -- bytes are written
  Wrote : List ℕ → Step
  -- a frame with the bytes of a range is sealed
  Sealed : (start end : ℕ) → Step
  -- it is acknowledged
  Acked : (start end : ℕ) → Step
  -- it is lost
  Lost : (start end : ℕ) → Step
  -- the bytes are let go
  Discarded : Step

-- what a step leaves
unfoldable pub after_step : Step → Buffer → Buffer
after_step (Wrote bs) b = bytes_written bs b
after_step (Sealed start end) b = range_sealed start end b
after_step (Acked start end) b = range_acked start end b
after_step (Lost start end) b = range_lost start end b
after_step Discarded b = discarded b

-- what steps leave
unfoldable pub after : List Step → Buffer → Buffer
after [] b = b
after (x ∷ xs) b = after xs (after_step x b)

-- the bytes that a step writes
unfoldable pub wrote : Step → List ℕ
wrote (Wrote bs) = bs
wrote (Sealed start end) = []
wrote (Acked start end) = []
wrote (Lost start end) = []
wrote Discarded = []

-- all bytes that were written, one write after the other
unfoldable pub all_written : List Step → List ℕ
all_written [] = []
all_written (x ∷ xs) = wrote x ++ all_written xs

-- Whatever happened, what may be sent next from an offset on are the bytes that were written there
unfoldable pub SendsWhatWasWritten : List Step → Type 0
SendsWhatWasWritten xs =
    (most : ℕ) (part : Option (ℕ × List ℕ)) → IsNext most (after xs nothing) part
    → part_bytes part ≡ take (length (part_bytes part)) (drop (part_offset part) (all_written xs))

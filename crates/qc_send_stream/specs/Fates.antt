-- What becomes of each byte that is written (RFC 9000, sections 3.1 and 13.3)
use Rattle.std.specs.Prelude.{◌≡◌, ℕ, ◌+◌, ◌≤◌, Bool, true, false, ◌&&◌, nat_le, nat_lt, ◌==◌, if◌then◌else◌, List, [], ◌∷◌, length, Option, IsSome, IfSome}
use Rattle.qc_send_stream.specs.Buffer.{Kept, nothing, IsNext}
use Rattle.qc_send_stream.specs.Written.{Step, Wrote, Sealed, Acked, Lost, Discarded, after, wrote}

-- what became of a byte
pub data Fate : Type 0 where
  -- the application didn't write it
  NotWritten : Fate
  -- it was written, and no frame with it was sealed
  NotSent : Fate
  -- a frame with it was sealed, and none was lost since
  Outstanding : Fate
  -- a frame with it was lost, and none was sealed since
  Missing : Fate
  -- a frame with it was acknowledged
  Acknowledged : Fate
  -- the stream's bytes were let go
  LetGo : Fate

-- whether the byte at o is one of a frame with the bytes from start up to end
unfoldable pub holds : (start end offset : ℕ) → Bool
holds start end o = nat_le start o && nat_lt o end

-- a frame with the byte is sealed: it is underway, whether it goes for the first time or again
unfoldable pub fate_sealed : Fate → Fate
fate_sealed NotWritten = NotWritten
fate_sealed NotSent = Outstanding
fate_sealed Outstanding = Outstanding
fate_sealed Missing = Outstanding
fate_sealed Acknowledged = Acknowledged
fate_sealed LetGo = LetGo

-- a frame with the byte is acknowledged, maybe one that counted as lost before: only a byte that was sent can be
unfoldable pub fate_acked : Fate → Fate
fate_acked NotWritten = NotWritten
fate_acked NotSent = NotSent
fate_acked Outstanding = Acknowledged
fate_acked Missing = Acknowledged
fate_acked Acknowledged = Acknowledged
fate_acked LetGo = LetGo

-- a frame with the byte is lost: the byte is to be sent again, unless another frame with it was acknowledged
unfoldable pub fate_lost : Fate → Fate
fate_lost NotWritten = NotWritten
fate_lost NotSent = NotSent
fate_lost Outstanding = Missing
fate_lost Missing = Missing
fate_lost Acknowledged = Acknowledged
fate_lost LetGo = LetGo

-- the stream's bytes are let go
unfoldable pub fate_dropped : Fate → Fate
fate_dropped NotWritten = NotWritten
fate_dropped NotSent = LetGo
fate_dropped Outstanding = LetGo
fate_dropped Missing = LetGo
fate_dropped Acknowledged = LetGo
fate_dropped LetGo = LetGo

-- the byte is written, where it wasn't
unfoldable pub fate_written : Fate → Fate
fate_written NotWritten = NotSent
fate_written NotSent = NotSent
fate_written Outstanding = Outstanding
fate_written Missing = Missing
fate_written Acknowledged = Acknowledged
fate_written LetGo = LetGo

-- what happens to a byte that is one of those a step speaks of
unfoldable pub fate_if : Bool → (Fate → Fate) → Fate → Fate
fate_if true step f = step f
fate_if false step f = f

-- the byte at o after a step, before which n bytes were written
unfoldable pub next_fate : (offset written : ℕ) → Step → Fate → Fate
next_fate o n (Wrote bs) f = fate_if (nat_lt o (n + length bs)) fate_written f
next_fate o n (Sealed start end) f = fate_if (holds start end o) fate_sealed f
next_fate o n (Acked start end) f = fate_if (holds start end o) fate_acked f
next_fate o n (Lost start end) f = fate_if (holds start end o) fate_lost f
next_fate o n Discarded f = fate_dropped f

-- the byte at o after steps, before which n bytes were written
unfoldable pub fate_from : (offset written : ℕ) → Fate → List Step → Fate
fate_from o n f [] = f
fate_from o n f (x ∷ xs) = fate_from o (n + length (wrote x)) (next_fate o n x f) xs

-- what became of the byte at o
unfoldable pub fate : ℕ → List Step → Fate
fate o xs = fate_from o 0 NotWritten xs

-- whether a byte is to be kept: it was written, and is neither acknowledged nor let go
unfoldable pub is_owed : Fate → Bool
is_owed NotWritten = false
is_owed NotSent = true
is_owed Outstanding = true
is_owed Missing = true
is_owed Acknowledged = false
is_owed LetGo = false

-- whether a byte is to be sent: it wasn't yet, or was lost since it was last sealed
unfoldable pub is_due : Fate → Bool
is_due NotWritten = false
is_due NotSent = true
is_due Outstanding = false
is_due Missing = true
is_due Acknowledged = false
is_due LetGo = false

-- whether the byte at o is kept
unfoldable pub is_kept : ℕ → List Kept → Bool
is_kept o [] = false
is_kept o (k ∷ ks) = if o == k.offset then true else is_kept o ks

-- Whatever happened, each byte that was written and isn't acknowledged is kept, unless all were let go
unfoldable pub KeepsUntilAcknowledged : List Step → Type 0
KeepsUntilAcknowledged xs = (o : ℕ) → is_owed (fate o xs) ≡ true → is_kept o (after xs nothing).kept ≡ true

-- Whatever happened, while a byte is to be sent something waits, and what is to be sent next begins there or before
unfoldable pub SendsWhatIsDue : List Step → Type 0
SendsWhatIsDue xs =
    (o most : ℕ) (part : Option (ℕ × List ℕ)) → is_due (fate o xs) ≡ true → IsNext most (after xs nothing) part
    → IsSome part × IfSome part (λ p. p.0 ≤ o)

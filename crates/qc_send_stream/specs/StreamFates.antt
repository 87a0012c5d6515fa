-- What becomes of the bytes of a stream and of its end, whatever happens to its sending side (RFC 9000, sections 3.1 and 13.3)
use Rattle.std.specs.Prelude.{◌≡◌, ℕ, ◌<◌, ◌≤◌, Bool, true, false, List, [], ◌∷◌, ◌++◌, length, Option, None, IsSome, IfSome}
use Rattle.qc_base.specs.declared.varint.VarInt.{VarInt}
use Rattle.qc_send_stream.specs.declared.send.SendPart.{SendPart}
use Rattle.qc_send_stream.specs.declared.send.Part.{Part}
use Rattle.qc_send_stream.specs.Written.{Step, Wrote, Sealed, Acked, Lost, Discarded}
use Rattle.qc_send_stream.specs.Fates.{Fate, NotWritten, NotSent, Outstanding, Missing, Acknowledged, LetGo, fate, fate_if, fate_lost, fate_sealed, fate_written, is_due, is_kept, is_owed}
use Rattle.qc_send_stream.specs.Sending.{IsOffer, finished, is_done, limit_raised, new_sending, part_acked, part_lost, part_sealed, part_written, reset_acked, reset_lost, reset_sealed, unblocked, was_blocked, was_reset, was_stopped}

-- what happens to the sending side of a stream
pub data StreamStep : Type 0 where
  -- bytes are written
  Writes : List ℕ → StreamStep
  -- a write is blocked, and that is asked for
  IsBlocked : StreamStep
  IsUnblocked : StreamStep
  -- the application finishes the stream, or resets it
  Finishes : StreamStep
  Resets : VarInt → StreamStep
  -- the peer stops the stream, or lets this end send up to there
  Stops : VarInt → StreamStep
  Raises : ℕ → StreamStep
  -- a STREAM frame with the bytes of a range, and maybe the end, is sealed, acknowledged or lost
  SealsPart : (start stop : ℕ) (last : Bool) → StreamStep
  AcksPart : (start stop : ℕ) (last : Bool) → StreamStep
  LosesPart : (start stop : ℕ) (last : Bool) → StreamStep
  -- a RESET_STREAM is sealed, acknowledged or lost
  SealsReset : StreamStep
  AcksReset : StreamStep
  LosesReset : StreamStep

-- what a step leaves
unfoldable pub after_one : StreamStep → SendPart → SendPart
after_one (Writes bs) s = part_written bs s
after_one IsBlocked s = was_blocked s
after_one IsUnblocked s = unblocked s
after_one Finishes s = finished s
after_one (Resets code) s = was_reset code s
after_one (Stops code) s = was_stopped code s
after_one (Raises limit) s = limit_raised limit s
after_one (SealsPart start stop last) s = part_sealed start stop last s
after_one (AcksPart start stop last) s = part_acked start stop last s
after_one (LosesPart start stop last) s = part_lost start stop last s
after_one SealsReset s = reset_sealed s
after_one AcksReset s = reset_acked s
after_one LosesReset s = reset_lost s

-- what steps leave
unfoldable pub after_all : List StreamStep → SendPart → SendPart
after_all [] s = s
after_all (x ∷ xs) s = after_all xs (after_one x s)

-- what a step does to the stream's bytes: a reset lets go of them
unfoldable pub on_bytes : StreamStep → List Step
on_bytes (Writes bs) = Wrote bs ∷ []
on_bytes IsBlocked = []
on_bytes IsUnblocked = []
on_bytes Finishes = []
on_bytes (Resets code) = Discarded ∷ []
on_bytes (Stops code) = []
on_bytes (Raises limit) = []
on_bytes (SealsPart start stop last) = Sealed start stop ∷ []
on_bytes (AcksPart start stop last) = Acked start stop ∷ []
on_bytes (LosesPart start stop last) = Lost start stop ∷ []
on_bytes SealsReset = []
on_bytes AcksReset = []
on_bytes LosesReset = []

-- what steps do to them
unfoldable pub all_on_bytes : List StreamStep → List Step
all_on_bytes [] = []
all_on_bytes (x ∷ xs) = on_bytes x ++ all_on_bytes xs

-- a frame with the end is acknowledged
unfoldable pub end_acknowledged : Fate → Fate
end_acknowledged NotWritten = NotWritten
end_acknowledged NotSent = Acknowledged
end_acknowledged Outstanding = Acknowledged
end_acknowledged Missing = Acknowledged
end_acknowledged Acknowledged = Acknowledged
end_acknowledged LetGo = LetGo

-- what a step does to the stream's end, which is written as the application finishes the stream
unfoldable pub on_end : StreamStep → Fate → Fate
on_end (Writes bs) f = f
on_end IsBlocked f = f
on_end IsUnblocked f = f
on_end Finishes f = fate_written f
on_end (Resets code) f = f
on_end (Stops code) f = f
on_end (Raises limit) f = f
on_end (SealsPart start stop last) f = fate_if last fate_sealed f
on_end (AcksPart start stop last) f = fate_if last end_acknowledged f
on_end (LosesPart start stop last) f = fate_if last fate_lost f
on_end SealsReset f = f
on_end AcksReset f = f
on_end LosesReset f = f

-- what becomes of the end
unfoldable pub end_from : Fate → List StreamStep → Fate
end_from f [] = f
end_from f (x ∷ xs) = end_from (on_end x f) xs

-- what became of the end
unfoldable pub end_fate : List StreamStep → Fate
end_fate xs = end_from NotWritten xs

-- Each byte that was written and isn't acknowledged is kept, unless the stream was reset
unfoldable pub KeepsBytes : ℕ → List StreamStep → Type 0
KeepsBytes limit xs = (o : ℕ) → is_owed (fate o (all_on_bytes xs)) ≡ true → is_kept o (after_all xs (new_sending limit)).buffer.kept ≡ true

-- What may be sent next of a stream that wasn't reset, while a byte is to be sent: a part that begins there or before
unfoldable pub SendsBytes : ℕ → List StreamStep → Type 0
SendsBytes limit xs =
    (o most : ℕ) (part : Option Part) → (after_all xs (new_sending limit)).reset ≡ None → is_due (fate o (all_on_bytes xs)) ≡ true
    → IsOffer most (after_all xs (new_sending limit)) part → IsSome part × IfSome part (λ p. p.offset ≤ o)

-- What may be sent next of it while the end is to be sent: a part, which has bytes or the end
unfoldable pub SendsEnd : ℕ → List StreamStep → Type 0
SendsEnd limit xs =
    (most : ℕ) (part : Option Part) → (after_all xs (new_sending limit)).reset ≡ None → is_due (end_fate xs) ≡ true → 0 < most
    → IsOffer most (after_all xs (new_sending limit)) part → IsSome part × IfSome part (λ p. length p.bytes ≡ 0 → p.last ≡ true)

-- A stream that wasn't reset is done only where each byte that was written, and the end, were acknowledged
unfoldable pub IsDoneOnce : ℕ → List StreamStep → Type 0
IsDoneOnce limit xs =
    (after_all xs (new_sending limit)).reset ≡ None → is_done (after_all xs (new_sending limit)) ≡ true
    → (end_fate xs ≡ Acknowledged) × ((o : ℕ) → is_owed (fate o (all_on_bytes xs)) ≡ false)

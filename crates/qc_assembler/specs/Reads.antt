-- Bytes that come and reads in order, one after the other
use Rattle.std.specs.Prelude.{◌≡◌, ℕ, List, [], ◌∷◌, ◌++◌, length, drop}
use Rattle.qc_assembler.specs.Assembly.{Assembly, run, add, inserted, advanced, nothing}

-- bytes come at an offset, or a read in order gives bytes
pub data Step : Type 0 where
  Came : ℕ → List ℕ → Step
  Read : List ℕ → Step

-- what a step leaves
unfoldable pub after_step : Step → Assembly → Assembly
after_step (Came o bs) a = inserted o bs a
after_step (Read bs) a = advanced (length bs) a

-- what steps leave
unfoldable pub after : List Step → Assembly → Assembly
after [] a = a
after (x ∷ xs) a = after xs (after_step x a)

-- the bytes that a read gives wait from the next offset on
unfoldable pub IsRead : Step → Assembly → Type 0
IsRead (Came o bs) a = Unit {0}
IsRead (Read bs) a = a.came ≡ run a.read bs ++ drop (length bs) a.came

-- each of the reads gives bytes that wait then
unfoldable pub AreReads : List Step → Assembly → Type 0
AreReads [] a = Unit {0}
AreReads (x ∷ xs) a = IsRead x a × AreReads xs (after_step x a)

-- all bytes that came, whether they were read or not: at each offset the first
unfoldable pub all_came : List Step → List (ℕ × ℕ) → List (ℕ × ℕ)
all_came [] v = v
all_came (Came o bs ∷ xs) v = all_came xs (add o bs v)
all_came (Read bs ∷ xs) v = all_came xs v

-- all bytes that reads gave
unfoldable pub all_read : List Step → List ℕ
all_read [] = []
all_read (Came o bs ∷ xs) = all_read xs
all_read (Read bs ∷ xs) = bs ++ all_read xs

-- What was read, from offset 0 on, and what waits are exactly what came, at each offset the first
unfoldable pub ReadsWhatCame : List Step → Type 0
ReadsWhatCame xs = AreReads xs nothing → all_came xs [] ≡ run 0 (all_read xs) ++ (after xs nothing).came

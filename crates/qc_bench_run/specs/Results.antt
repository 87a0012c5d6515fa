-- What a run of the program gives, of its words.
use Rattle.std.specs.Prelude.{◌≡◌, ℕ, ◌*◌, List, ◌++◌, codes, decimal}
use Rattle.qc_bench_run.specs.Asking.{Asks}
use Rattle.qc_bench_run.specs.declared.frames.Tally.{Tally}
use Rattle.qc_bench_run.specs.declared.job.Job.{Job}
use Rattle.qc_bench_run.specs.declared.job.Job.TheVariants.{Frames, Keys, Packets}
use Rattle.qc_bench_run.specs.declared.keys.Opened.{Opened}
use Rattle.qc_bench_run.specs.declared.outcome.Outcome.{Outcome}
use Rattle.qc_bench_run.specs.declared.outcome.Outcome.TheVariants as outcome

-- each frame was read as often as was asked for, each packet was opened, and the usage is told where no job was asked for
pub data IsOutcome (words : List (List ℕ)) : Outcome → Type 0 where
  read : (count times : ℕ) (tally : Tally) → Asks words (Frames count times) → tally.frames ≡ times * count → IsOutcome words (outcome.Read tally)
  sealed : (count : ℕ) (opened : Opened) → Asks words (Keys count) → opened.packets ≡ count → IsOutcome words (outcome.Sealed opened)
  passed : (count size : ℕ) (opened : Opened) → Asks words (Packets count size) → opened.packets ≡ count → IsOutcome words (outcome.Sealed opened)
  usage : ((job : Job) → ¬ Asks words job) → IsOutcome words outcome.Usage
  no_memory : (job : Job) → Asks words job → IsOutcome words outcome.NoMemory

-- the exit status: 0 where the work was done, 2 where the words ask for no job, 6 without memory
abbrev pub status_of : Outcome → ℕ
status_of (outcome.Read tally) = 0
status_of (outcome.Sealed opened) = 0
status_of outcome.Usage = 2
status_of outcome.NoMemory = 6

-- a line: a name and a number
abbrev pub line : List ℕ → ℕ → List ℕ
line name n = name ++ codes " " ++ decimal n ++ codes "\n"

-- what is printed: a line for each count, or the one line that says why there is none
abbrev pub outcome_text : Outcome → List ℕ
outcome_text (outcome.Read tally) = line (codes "frames") tally.frames ++ line (codes "bytes") tally.bytes ++ line (codes "weight") tally.weight
outcome_text (outcome.Sealed opened) = line (codes "packets") opened.packets ++ line (codes "sum") opened.sum
outcome_text outcome.Usage = codes "usage: qc_bench frames COUNT TIMES | qc_bench keys COUNT | qc_bench packets COUNT SIZE\n"
outcome_text outcome.NoMemory = codes "no memory\n"

-- What the words ask for.
use Rattle.std.specs.Prelude.{◌≡◌, ℕ, ◌<◌, ◌≤◌, ◌^◌, List, [], ◌∷◌, codes}
use Rattle.std.specs.Str.Parse.{IsNumeral, digits_value, without_leading_plus}
use Rattle.qc_bench_run.specs.declared.job.Job.{Job}
use Rattle.qc_bench_run.specs.declared.job.Job.TheVariants.{Frames, Keys, Packets}

-- the word spells this number in decimal digits, perhaps behind a plus
pub record IsCount (word : List ℕ) (n : ℕ) : Type 0 where
  pub numeral : IsNumeral 10 (without_leading_plus word)
  pub value : digits_value 10 (without_leading_plus word) ≡ n
  pub small : n < 2 ^ 32

-- the three words ask that `count` frames be written, and read `times` times
pub record AsksFrames (what first second : List ℕ) (count times : ℕ) : Type 0 where
  pub word : what ≡ codes "frames"
  pub frames : IsCount first count
  pub readings : IsCount second times

-- the two words ask that `count` packets be sealed and opened
pub record AsksKeys (what first : List ℕ) (count : ℕ) : Type 0 where
  pub word : what ≡ codes "keys"
  pub packets : IsCount first count

-- the three words ask that `count` packets of `size` bytes be built, sealed, unmasked and opened
pub record AsksPackets (what first second : List ℕ) (count size : ℕ) : Type 0 where
  pub word : what ≡ codes "packets"
  pub packets : IsCount first count
  pub bytes : IsCount second size
  pub least : 34 ≤ size
  pub most : size ≤ 16383

-- the words are `frames COUNT TIMES`, `keys COUNT` or `packets COUNT SIZE`
abbrev pub Asks : List (List ℕ) → Job → Type 0
Asks (word ∷ count ∷ times ∷ []) (Frames n m) = AsksFrames word count times n m
Asks (word ∷ count ∷ size ∷ []) (Packets n m) = AsksPackets word count size n m
Asks (word ∷ count ∷ []) (Keys n) = AsksKeys word count n
Asks _ _ = ⊥

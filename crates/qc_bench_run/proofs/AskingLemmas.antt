-- What two or three words ask for.
use Rattle.std.proofs.Common.{◌≡◌, ℕ, List, [], ◌∷◌, length, get_or, map, Option, Some, None, MatchOption, sym, ap, subst, arith}
use Rattle.std.specs.Prelude.{String}
use Rattle.std.specs.Global.{Global}
use Rattle.std.specs.String.{string_bytes}
use Rattle.qc_bench_run.specs.Asking.{Asks, AsksFrames, AsksKeys, AsksPackets}
use Rattle.qc_bench_run.specs.declared.job.Job.{Job}
use Rattle.qc_bench_run.specs.declared.job.Job.TheVariants.{Frames, Keys, Packets}

none_of_three : (w c t : List ℕ) → ((n m : ℕ) → ¬ AsksFrames w c t n m) → ((n m : ℕ) → ¬ AsksPackets w c t n m) → (job : Job) → Asks (w ∷ c ∷ t ∷ []) job → ⊥
none_of_three w c t h k (Frames n m) asks = h n m asks
none_of_three w c t h k (Packets n m) asks = k n m asks
none_of_three w c t h k (Keys n) asks = asks

none_of_two : (w c : List ℕ) → ((n : ℕ) → ¬ AsksKeys w c n) → (job : Job) → Asks (w ∷ c ∷ []) job → ⊥
none_of_two w c h (Frames n m) asks = asks
none_of_two w c h (Packets n m) asks = asks
none_of_two w c h (Keys n) asks = h n asks

-- frames are asked for
pub frames_asked : (w c t : List ℕ) (job : Job) → ((n : ℕ) × (m : ℕ) × (job ≡ Frames n m) × AsksFrames w c t n m) → Asks (w ∷ c ∷ t ∷ []) job
frames_asked w c t job h = subst (λ j. Asks (w ∷ c ∷ t ∷ []) j) (sym h.2) h.3

-- or packets, or neither
pub packets_asked : (w c t : List ℕ) (o : Option Job) → ((n m : ℕ) → ¬ AsksFrames w c t n m)
    → MatchOption o ((n m : ℕ) → ¬ AsksPackets w c t n m) (λ job. (n : ℕ) × (m : ℕ) × (job ≡ Packets n m) × AsksPackets w c t n m)
    → MatchOption o ((job : Job) → ¬ Asks (w ∷ c ∷ t ∷ []) job) (Asks (w ∷ c ∷ t ∷ []))
packets_asked w c t None h k = none_of_three w c t h k
packets_asked w c t (Some job) h k = subst (λ j. Asks (w ∷ c ∷ t ∷ []) j) (sym k.2) k.3

two_ask : (w c : List ℕ) (o : Option Job)
    → MatchOption o ((n : ℕ) → ¬ AsksKeys w c n) (λ job. (n : ℕ) × (job ≡ Keys n) × AsksKeys w c n)
    → MatchOption o ((job : Job) → ¬ Asks (w ∷ c ∷ []) job) (Asks (w ∷ c ∷ []))
two_ask w c None h = none_of_two w c h
two_ask w c (Some job) h = subst (λ j. Asks (w ∷ c ∷ []) j) (sym h.1) h.2

-- words that are matched one by one
three_words : (words : List (String Global)) (a b c : String Global) → length words ≡ 3 → a ≡ get_or words 0 a → b ≡ get_or words 1 b → c ≡ get_or words 2 c → words ≡ a ∷ b ∷ c ∷ []
three_words [] a b c n x y z = absurd (omega arith)
three_words (p ∷ []) a b c n x y z = absurd (omega arith)
three_words (p ∷ q ∷ []) a b c n x y z = absurd (omega arith)
three_words (p ∷ q ∷ r ∷ []) a b c n x y z = cc
three_words (p ∷ q ∷ r ∷ s ∷ rest) a b c n x y z = absurd (omega arith)

two_words : (words : List (String Global)) (a b : String Global) → length words ≡ 2 → a ≡ get_or words 0 a → b ≡ get_or words 1 b → words ≡ a ∷ b ∷ []
two_words [] a b n x y = absurd (omega arith)
two_words (p ∷ []) a b n x y = absurd (omega arith)
two_words (p ∷ q ∷ []) a b n x y = cc
two_words (p ∷ q ∷ r ∷ rest) a b n x y = absurd (omega arith)

-- texts that are matched one by one, and what they ask for
pub three_texts_ask : (words : List (String Global)) (a b c : String Global) (w v u : List ℕ) (o : Option Job)
    → length words ≡ 3 → a ≡ get_or words 0 a → b ≡ get_or words 1 b → c ≡ get_or words 2 c → w ≡ string_bytes a → v ≡ string_bytes b → u ≡ string_bytes c
    → MatchOption o ((job : Job) → ¬ Asks (w ∷ v ∷ u ∷ []) job) (Asks (w ∷ v ∷ u ∷ []))
    → MatchOption o ((job : Job) → ¬ Asks (map string_bytes words) job) (Asks (map string_bytes words))
three_texts_ask words a b c w v u o size first second third one two three h =
    let m : map (string_bytes {Z = Global}) words ≡ string_bytes a ∷ string_bytes b ∷ string_bytes c ∷ [] = ap (map (string_bytes {Z = Global})) (three_words words a b c size first second third) in
    let e : map (string_bytes {Z = Global}) words ≡ w ∷ v ∷ u ∷ [] = cc in
    rw e h

pub two_texts_ask : (words : List (String Global)) (a b : String Global) (w v : List ℕ) (o : Option Job)
    → length words ≡ 2 → a ≡ get_or words 0 a → b ≡ get_or words 1 b → w ≡ string_bytes a → v ≡ string_bytes b
    → MatchOption o ((n : ℕ) → ¬ AsksKeys w v n) (λ job. (n : ℕ) × (job ≡ Keys n) × AsksKeys w v n)
    → MatchOption o ((job : Job) → ¬ Asks (map string_bytes words) job) (Asks (map string_bytes words))
two_texts_ask words a b w v o size first second one two h =
    let m : map (string_bytes {Z = Global}) words ≡ string_bytes a ∷ string_bytes b ∷ [] = ap (map (string_bytes {Z = Global})) (two_words words a b size first second) in
    let e : map (string_bytes {Z = Global}) words ≡ w ∷ v ∷ [] = cc in
    rw e (two_ask w v o h)

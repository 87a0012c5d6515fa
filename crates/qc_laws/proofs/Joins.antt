-- Runs that follow one another are one run.
use Rattle.std.proofs.Common.{◌≡◌, ℕ, ◌+◌, List, [], ◌∷◌, ◌++◌, length, ap, subst, arith}
use Rattle.qc_state.specs.declared.input.Input.{Input}
use Rattle.qc_state.specs.declared.trace.Step.{Step}
use Rattle.qc_state.specs.Run.{IsStep, Run, placed_behind}
use Rattle.qc_state.specs.Types.{Types, Meaning}
use Rattle.qc_state.specs.View.{View}

module _ {t : Types} where
  -- a step at a later place
  step_behind : (m : Meaning t) (n k : ℕ) (s : View t) (i : Input) (x : Step) (s' : View t) → IsStep m k s i x s' → IsStep m (n + k) s i (record x { at = n + x.at }) s'
  step_behind m n k s i x s' h = record {
    choice = h.choice;
    numbers = h.numbers;
    keys = h.keys;
    life = h.life;
    paths = h.paths;
    timers = h.timers;
    waiting = h.waiting;
    setup = h.setup;
    lower = h.lower;
    issuer = h.issuer;
    forward = h.forward;
    deeds = h.deeds;
    allowed = h.allowed;
    answer = h.answer;
    events = h.events;
    endpoint = h.endpoint;
    timeout = h.timeout;
    place = ap (λ (p : ℕ). n + p) h.place;
    word = h.word;
    time = h.time;
  }

  -- a run whose steps stand at later places
  run_behind : (m : Meaning t) (n k : ℕ) (s : View t) (is : List Input) (xs : List Step) (s' : View t) → Run m k s is xs s' → Run m (n + k) s is (placed_behind n xs) s'
  unfolding Run
  run_behind m n k s [] [] s' r = r
  run_behind m n k s (i ∷ is) (x ∷ xs) s' r =
      let place : n + (k + 1) ≡ n + k + 1 = omega arith in
      (r.0, step_behind m n k s i x r.0 r.1, subst (λ (p : ℕ). Run m p r.0 is (placed_behind n xs) s') place (run_behind m n (k + 1) r.0 is xs s' r.2))
  run_behind m n k s [] (x ∷ xs) s' r = absurd r
  run_behind m n k s (i ∷ is) [] s' r = absurd r

  -- a run, and one that goes on where it ended
  run_joined : (m : Meaning t) (k : ℕ) (s mid : View t) (is js : List Input) (xs ys : List Step) (s' : View t) → Run m k s is xs mid → Run m (k + length xs) mid js ys s' → Run m k s (is ++ js) (xs ++ ys) s'
  unfolding Run
  run_joined m k s mid [] js [] ys s' a b = subst (λ (v : View t). Run m k v js ys s') a (subst (λ (p : ℕ). Run m p mid js ys s') (omega arith) b)
  run_joined m k s mid (i ∷ is) js (x ∷ xs) ys s' a b =
      let place : k + length (x ∷ xs) ≡ k + 1 + length xs = omega arith in
      (a.0, a.1, run_joined m (k + 1) a.0 mid is js xs ys s' a.2 (subst (λ (p : ℕ). Run m p mid js ys s') place b))
  run_joined m k s mid [] js (x ∷ xs) ys s' a b = absurd a
  run_joined m k s mid (i ∷ is) js [] ys s' a b = absurd a

  -- the second one counts its steps from 0
  pub runs_join : (m : Meaning t) (s mid last : View t) (is js : List Input) (xs ys : List Step) → Run m 0 s is xs mid → Run m 0 mid js ys last → Run m 0 s (is ++ js) (xs ++ placed_behind (length xs) ys) last
  runs_join m s mid last is js xs ys a b =
      let place : length xs + 0 ≡ 0 + length xs = omega arith in
      run_joined m 0 s mid is js xs (placed_behind (length xs) ys) last a (subst (λ (p : ℕ). Run m p mid js (placed_behind (length xs) ys) last) place (run_behind m (length xs) 0 mid js ys last b))

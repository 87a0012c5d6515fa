-- Over a run each step over a datagram tells what the datagram does, and any other tells of no packet that came, and of nothing that is
-- given to a layer.
use Rattle.std.proofs.Common.{ℕ, ◌+◌, List, [], ◌∷◌, refl}
use Rattle.qc_state.specs.declared.input.Input.{Input}
use Rattle.qc_state.specs.declared.input.Input.TheVariants as input
use Rattle.qc_state.specs.declared.trace.Step.{Step}
use Rattle.qc_state.specs.Run.{IsStep, Run}
use Rattle.qc_state.specs.Types.{Types, Meaning}
use Rattle.qc_state.specs.View.{View}
use Rattle.qc_laws.specs.PieceLaws.{EachTellsPieces, TellsInput}
use Rattle.qc_laws.proofs.OwnInputs.{own_given, own_pieces}
use Rattle.qc_laws.proofs.PieceLaws.{step_tells}

module _ {t : Types} where
  input_tells : (m : Meaning t) (k : ℕ) (s : View t) (i : Input) (x : Step) (s' : View t) → IsStep m k s i x s' → TellsInput m s i x s'
  input_tells m k s (input.Datagram time remote ecn bytes) x s' h = step_tells m k s (record { time = time; remote = remote; mark = ecn }) bytes x s' h
  input_tells m k s i x s' h = (own_pieces m k s i x s' refl h, own_given m k s i x s' refl h)

  pub run_each_tells : (m : Meaning t) (k : ℕ) (s : View t) (is : List Input) (xs : List Step) (s' : View t) → Run m k s is xs s' → EachTellsPieces m k s is xs s'
  unfolding Run EachTellsPieces
  run_each_tells m k s [] [] s' r = tt
  run_each_tells m k s (i ∷ is) (x ∷ xs) s' r = (r.0, r.1, input_tells m k s i x r.0 r.1, run_each_tells m (k + 1) r.0 is xs s' r.2)
  run_each_tells m k s [] (x ∷ xs) s' r = absurd r
  run_each_tells m k s (i ∷ is) [] s' r = absurd r

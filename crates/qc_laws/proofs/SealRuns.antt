-- The bytes that a transmit gives, of a run too, are the datagrams of the packets that its deeds tell.
use Rattle.std.proofs.Common.{◌≡◌, ℕ, ◌+◌, List, [], ◌∷◌, length, refl, sym, ◌∙◌, subst, Option, Some, None}
use Rattle.qc_state.specs.declared.deeds.Did.{Did}
use Rattle.qc_state.specs.declared.input.Input.{Input}
use Rattle.qc_state.specs.declared.input.Input.TheVariants as input
use Rattle.qc_state.specs.declared.trace.Answer.{Answer}
use Rattle.qc_state.specs.declared.trace.Step.{Step}
use Rattle.qc_state.specs.declared.transmit.Transmit.{Transmit}
use Rattle.qc_state.specs.Moves.{keys_move, numbers_move, paths_move, setup_move, state_move, waiting_move, life_move}
use Rattle.qc_state.specs.Run.{IsAllowed, IsStep, Run, answer_of, began, called, input_after, out_of, time_of}
use Rattle.qc_state.specs.Sending.{Choice, Transmits, transmit_after, transmit_bytes, transmit_of}
use Rattle.qc_state.specs.Types.{Types, Meaning}
use Rattle.qc_state.specs.View.{View, At}
use Rattle.qc_laws.specs.SealLaws.{EachSealsAnswer, SealsAnswer, SealsBetween, SealsGiven}
use Rattle.qc_laws.proofs.SealedDatagrams.{transmit_gives}
use Rattle.qc_laws.proofs.SealingKept.{SealsAlike, alike_here}
use Rattle.qc_state.specs.Updating.{may_update_now}

module _ {t : Types} (m : Meaning t) (size : (key : t.P) (number : ℕ) (header plain : List ℕ) → length (m.seal key number header plain) ≡ length plain + 16) where
  -- a transmit
  pub transmits_seal : (time asked : ℕ) (a b : At t) (sent : Option Transmit) (buffer : List ℕ) → Transmits m time asked a b sent buffer → SealsBetween m a.state a b sent buffer
  transmits_seal time asked a b sent buffer h = transmit_gives m size time asked h.choice a.state a b sent buffer (alike_here a.state) h.may h.leads h.answer h.bytes

  -- the call begins, which is told the time
  began_alike : (s : View t) (time : ℕ) → SealsAlike s (began s time).state
  unfolding began state_move keys_move life_move numbers_move paths_move setup_move waiting_move may_update_now
  began_alike s time = record { masks = λ f. refl; sealers = λ f. refl; epochs = λ f. refl; nexts = refl; may = refl; cid = refl; spin = refl; fixed = refl; token = refl; peer = refl; acked = λ id. refl; written = λ id. refl }

  -- so it is by the view before the call
  pub polled_seals : (time asked : ℕ) (s : View t) (b : At t) (sent : Option Transmit) (buffer : List ℕ) → Transmits m time asked (began s time) b sent buffer → SealsBetween m s (began s time) b sent buffer
  polled_seals time asked s b sent buffer h = transmit_gives m size time asked h.choice s (began s time) b sent buffer (began_alike s time) h.may h.leads h.answer h.bytes

  -- a step
  answer_sealed : (s : View t) (time most : ℕ) (ds : List Did) (sent : Option Transmit) (bytes : List ℕ) → SealsGiven m s ds sent bytes → SealsAnswer m s ds (input.Transmit time most) (out_of sent bytes)
  answer_sealed s time most ds None bytes h = tt
  answer_sealed s time most ds (Some sent) bytes h = h

  input_seals : (s : View t) (i : Input) (choice : Choice) (ds : List Did) (answer : Answer) → IsAllowed m i choice (began s (time_of i)) → ds ≡ (called m s i choice).did → answer ≡ answer_of m i choice (began s (time_of i)) → SealsAnswer m s ds i answer
  unfolding IsAllowed called input_after answer_of began
  input_seals s (input.Transmit time most) choice ds answer may is_did is_answer =
      let a : At t = began s time in
      let sent : Option Transmit = transmit_of m time most choice a in
      let bytes : List ℕ = transmit_bytes m time most choice a in
      let gives : SealsBetween m s a (transmit_after m time most choice a) sent bytes = transmit_gives m size time most choice s a (transmit_after m time most choice a) sent bytes (began_alike s time) may refl refl refl in
      subst (λ (x : Answer). SealsAnswer m s ds (input.Transmit time most) x) (sym is_answer)
      (answer_sealed s time most ds sent bytes (subst (λ (es : List Did). SealsGiven m s es sent bytes) (sym (is_did ∙ gives.appended)) gives.seals))
  input_seals s _ choice ds answer may is_did is_answer = tt

  step_seals : (k : ℕ) (s : View t) (i : Input) (x : Step) (s' : View t) → IsStep m k s i x s' → SealsAnswer m s x.did i x.answer
  step_seals k s i x s' h = input_seals s i h.choice x.did x.answer h.allowed h.deeds h.answer

  -- each step of a run
  pub run_seals_answers : (k : ℕ) (s : View t) (is : List Input) (xs : List Step) (s' : View t) → Run m k s is xs s' → EachSealsAnswer m k s is xs s'
  unfolding Run EachSealsAnswer
  run_seals_answers k s [] [] s' r = tt
  run_seals_answers k s (i ∷ is) (x ∷ xs) s' r = (r.0, r.1, step_seals k s i x r.0 r.1, run_seals_answers (k + 1) r.0 is xs s' r.2)
  run_seals_answers k s [] (x ∷ xs) s' r = absurd r
  run_seals_answers k s (i ∷ is) [] s' r = absurd r

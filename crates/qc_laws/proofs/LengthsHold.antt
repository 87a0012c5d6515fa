-- Over a run the ids that inputs give are as long as this end's first one, which stays.
use Rattle.std.proofs.Common.{◌≡◌, ℕ, ◌+◌, Bool, true, false, None, List, [], ◌∷◌, ◌++◌, length, nat_eq, nat_lt, refl, ap, ◌∙◌, subst, if◌then◌else◌, arith}
use Rattle.std.proofs.lemmas.Bool.Decides.{nat_tests}
use Rattle.std.specs.Prelude.{is_some}
use Rattle.rand_core.specs.Stream.{Stream}
use Rattle.qc_base.specs.Time.{plus}
use Rattle.qc_base.specs.declared.ids.IssuedCid.{IssuedCid}
use Rattle.qc_cids.specs.Cids.{asked_more, asks_one, bad_cid, first_ids, give_refusal, may_give, new_refusal}
use Rattle.qc_cids.specs.Steps.{Step, NewCame, RetireCame, Given, Expired, after, after_step, new_taken}
use Rattle.qc_cids.specs.declared.connection_ids.ConnectionIds.{ConnectionIds}
use Rattle.qc_frame.specs.declared.frames.NewConnectionId.{NewConnectionId}
use Rattle.qc_ids.specs.LocalCids.{LocalCids, expired, issued_more, may_retire, retired, timed_out}
use Rattle.qc_ids.specs.declared.expiries.CidExpiry.{CidExpiry}
use Rattle.qc_state.specs.declared.input.Input.{Input}
use Rattle.qc_state.specs.declared.input.Input.TheVariants as input
use Rattle.qc_state.specs.declared.setup.Setup.{Setup}
use Rattle.qc_state.specs.declared.trace.Step.{Step as TraceStep}
use Rattle.qc_state.specs.Forms.{number_space}
use Rattle.qc_state.specs.Moves.{Expect, Learn, Move, Seal, Skip, Take, lower_move, move_to, setup_move, state_move}
use Rattle.qc_state.specs.Numbers.{next_number}
use Rattle.qc_state.specs.Run.{IsAllowed, IsStep, Run, began, called, input_after, reported, time_of}
use Rattle.qc_state.specs.Run as run
use Rattle.qc_state.specs.Sending.{Choice, packet_size}
use Rattle.qc_state.specs.Setup.{packet_drawn, parameters_known, token_expected, word_drawn, retry_taken}
use Rattle.qc_state.specs.Types.{Types, Meaning}
use Rattle.qc_state.specs.View.{View, At}
use Rattle.qc_laws.specs.CidLaws.{HasNewIds, HaveLength, KeepsLength, issued_by, issued_in}
use Rattle.qc_laws.specs.IdLaws.{FoldsIds}
use Rattle.qc_laws.specs.StreamsLaws.{with_steps}
use Rattle.qc_laws.proofs.IdsFold.{run_folds_ids}
use Rattle.qc_laws.proofs.KnownMoves.{is_called, known_other}
use Rattle.qc_laws.proofs.StreamCalls.{called_input}

-- ---- the length of this end's ids stays over their steps

some_expire : (es : List CidExpiry) (s : LocalCids) → (expired es s).cid_len ≡ s.cid_len
some_expire [] s = refl
some_expire (e ∷ es) s = refl

some_given : (ids : List IssuedCid) (now : ℕ) (s : LocalCids) → (issued_more ids now s).cid_len ≡ s.cid_len
unfolding issued_more
some_given [] now s = refl
some_given (c ∷ cs) now s = refl

new_keeps : (refused : Bool) (new : NewConnectionId) (s : ConnectionIds) → (if refused then s else new_taken new s).local.cid_len ≡ s.local.cid_len
unfolding new_taken
new_keeps true new s = refl
new_keeps false new s = refl

retire_keeps : (may : Bool) (n count : ℕ) (s : ConnectionIds) → (if may then asked_more count (record s { local = retired n s.local }) else s).local.cid_len ≡ s.local.cid_len
unfolding asked_more retired
retire_keeps true n count s = refl
retire_keeps false n count s = refl

step_keeps : (x : Step) (s : ConnectionIds) → (after_step x s).local.cid_len ≡ s.local.cid_len
unfolding after_step asked_more timed_out
step_keeps (NewCame new) s = new_keeps (is_some (new_refusal new s.remote)) new s
step_keeps (RetireCame limit n) s = retire_keeps (may_retire n s.local) n (if asks_one limit n s then 1 else 0) s
step_keeps (Given ids time) s = some_given ids time s.local
step_keeps Expired s = some_expire s.local.expiries s.local
step_keeps _ s = refl

steps_keep : (xs : List Step) (s : ConnectionIds) → (after xs s).local.cid_len ≡ s.local.cid_len
unfolding after
steps_keep [] s = refl
steps_keep (x ∷ xs) s = steps_keep xs (after_step x s) ∙ step_keeps x s

-- ---- ids that may be given have it

good_ones : (size n : ℕ) (ids : List IssuedCid) → bad_cid size n ids ≡ None → HaveLength size ids
good_ones size n [] h = tt
good_ones size n (c ∷ cs) h =
    (elim (nat_eq c.sequence n) as (λ b. nat_eq c.sequence n ≡ b → HaveLength size (c ∷ cs)) [
      | false ↦ λ e. let bad = rw e at h in absurd (cc)
      | true ↦ λ e.
          let good = rw e at h in
          (elim (nat_eq (length c.id) size) as (λ b. nat_eq (length c.id) size ≡ b → HaveLength size (c ∷ cs)) [
            | false ↦ λ d. let bad = rw d at good in absurd (cc)
            | true ↦ λ d.
                let rest = rw d at good in
                let is : length c.id ≡ size = grind (arith, nat_tests) in
                (is, good_ones size (plus n 1) cs rest)
          ]) refl
    ]) refl

given_good : (ids : List IssuedCid) (s : ConnectionIds) → give_refusal ids s ≡ None → HaveLength s.local.cid_len ids
unfolding give_refusal
given_good ids s h =
    (elim (nat_lt (may_give s) (length ids)) as (λ b. nat_lt (may_give s) (length ids) ≡ b → HaveLength s.local.cid_len ids) [
      | true ↦ λ e. let bad = rw e at h in absurd (cc)
      | false ↦ λ e. let good = rw e at h in good_ones s.local.cid_len s.local.issued ids good
    ]) refl

have_append : (size : ℕ) (ids more : List IssuedCid) → HaveLength size ids → HaveLength size more → HaveLength size (ids ++ more)
have_append size [] more h g = g
have_append size (c ∷ cs) more h g = (h.0, have_append size cs more h.1 g)

module _ {t : Types} where
  -- ---- this end's first id stays

  abbrev Stays : At t → At t → Type 0
  Stays a b = b.state.setup.fixed.local_cid ≡ a.state.setup.fixed.local_cid

  stays_here : (a : At t) → Stays a a
  stays_here a = refl

  stays_next : (a b c : At t) → Stays a b → Stays b c → Stays a c
  stays_next a b c g h = h ∙ g

  state_stays : (x : Move t) (s : View t) → (state_move x s).setup.fixed.local_cid ≡ s.setup.fixed.local_cid
  unfolding state_move setup_move token_expected parameters_known word_drawn packet_drawn retry_taken
  state_stays (Expect token) s = refl
  state_stays (Learn p) s = refl
  state_stays Skip s = refl
  state_stays (Seal time form n size fs) s = refl
  state_stays _ s = refl

  move_stays : (x : Move t) (a : At t) → Stays a (move_to x a)
  unfolding move_to
  move_stays x a = state_stays x a.state

  other_stays : (m : Meaning t) (i : Input) (choice : Choice) (a : At t) → is_called i ≡ false → IsAllowed m i choice a → Stays a (input_after m i choice a)
  other_stays m i choice a uncalled may =
      known_other m Stays stays_here stays_next (λ x b known plain may_be. move_stays x b)
      (λ time form fs b may_be. move_stays (Seal time form (next_number b.state.numbers (number_space form)) (packet_size b.state form fs) fs) (move_to (Take (number_space form) fs) b) ∙ move_stays (Take (number_space form) fs) b)
      i choice a uncalled may

  input_stays : (m : Meaning t) (i : Input) (choice : Choice) (a : At t) → IsAllowed m i choice a → Stays a (input_after m i choice a)
  unfolding input_after IsAllowed move_to state_move setup_move
  input_stays m (input.Datagram time remote ecn bytes) choice a may = other_stays m (input.Datagram time remote ecn bytes) choice a refl may
  input_stays m (input.Timeout time) choice a may = other_stays m (input.Timeout time) choice a refl may
  input_stays m (input.Transmit time max) choice a may = other_stays m (input.Transmit time max) choice a refl may
  input_stays m (input.Close time code reason) choice a may = other_stays m (input.Close time code reason) choice a refl may
  input_stays m (input.Ping time) choice a may = other_stays m (input.Ping time) choice a refl may
  input_stays m (input.Update time) choice a may = other_stays m (input.Update time) choice a refl may
  input_stays m (input.SendDatagram time body) choice a may = refl
  input_stays m (input.RecvDatagram time) choice a may = refl
  input_stays m (input.Identifiers time ids) choice a may = refl
  input_stays m i choice a may = called_input Stays stays_here stays_next (λ x b may_be. refl) i choice.read a may

  -- ---- steps and runs

  step_gives : (m : Meaning t) (k : ℕ) (s : View t) (i : Input) (x : TraceStep) (s' : View t) → IsStep m k s i x s' → HaveLength s.lower.ids.local.cid_len (issued_by i)
  unfolding IsAllowed began state_move lower_move
  step_gives m k s (input.Identifiers time ids) x s' h = given_good ids s.lower.ids h.allowed
  step_gives m k s _ x s' h = tt

  step_stays : (m : Meaning t) (k : ℕ) (s : View t) (i : Input) (x : TraceStep) (s' : View t) → IsStep m k s i x s' → s'.setup.fixed.local_cid ≡ s.setup.fixed.local_cid
  unfolding called began run.step_after reported state_move setup_move
  step_stays m k s i x s' h = ap (λ (v : Setup Stream). v.fixed.local_cid) h.setup ∙ input_stays m i h.choice (began s (time_of i)) h.allowed

  step_length : (m : Meaning t) (k : ℕ) (s : View t) (i : Input) (x : TraceStep) (s' : View t) → IsStep m k s i x s' → s'.lower.ids.local.cid_len ≡ s.lower.ids.local.cid_len
  unfolding Run
  step_length m k s i x s' h =
      let folds : FoldsIds (i ∷ []) (x ∷ []) s s' = run_folds_ids m k s (i ∷ []) (x ∷ []) s' (s', h, refl) in
      ap (λ (y : ConnectionIds). y.local.cid_len) folds.leads ∙ steps_keep folds.steps s.lower.ids

  run_over : (m : Meaning t) (k : ℕ) (s : View t) (is : List Input) (xs : List TraceStep) (s' : View t) → Run m k s is xs s' →
      HaveLength s.lower.ids.local.cid_len (issued_in (with_steps is xs)) × (s'.setup.fixed.local_cid ≡ s.setup.fixed.local_cid)
  unfolding Run
  run_over m k s [] [] s' r = (tt, ap (λ (v : View t). v.setup.fixed.local_cid) r)
  run_over m k s (i ∷ is) (x ∷ xs) s' r =
      let more = run_over m (k + 1) r.0 is xs s' r.2 in
      let others : List IssuedCid = issued_in (with_steps is xs) in (
        have_append s.lower.ids.local.cid_len (issued_by i) others (step_gives m k s i x r.0 r.1) (subst (λ (n : ℕ). HaveLength n others) (step_length m k s i x r.0 r.1) more.0),
        more.1 ∙ step_stays m k s i x r.0 r.1,
      )
  run_over m k s [] (x ∷ xs) s' r = absurd r
  run_over m k s (i ∷ is) [] s' r = absurd r

  pub run_keeps_length : (m : Meaning t) (k : ℕ) (s : View t) (is : List Input) (xs : List TraceStep) (s' : View t) → Run m k s is xs s' → HasNewIds s → KeepsLength is xs s s'
  unfolding first_ids
  run_keeps_length m k s is xs s' r new =
      let over = run_over m k s is xs s' r in
      let same : s.lower.ids.local.cid_len ≡ length s.setup.fixed.local_cid = ap (λ (y : ConnectionIds). y.local.cid_len) new.ids ∙ new.size in
      record { given = subst (λ (n : ℕ). HaveLength n (issued_in (with_steps is xs))) same over.0; first = over.1 }

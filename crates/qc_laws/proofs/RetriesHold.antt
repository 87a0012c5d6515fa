-- Over a run at most one Retry is taken, and none once a packet of the server's was accepted; nor does a list of versions count then.
use Rattle.std.proofs.Common.{◌≡◌, ℕ, ◌+◌, ◌≤◌, List, [], ◌∷◌, ◌++◌, refl, ap, sym, ◌∙◌, subst, Bool, true, false, Option, None, Some, arith, append_assoc, append-nil}
use Rattle.std.specs.Prelude.{◌&&◌, ◌||◌, not, is_none}
use Rattle.qc_base.specs.declared.side.Side.TheVariants.{Client}
use Rattle.qc_base.specs.declared.side.SpaceId.{SpaceId}
use Rattle.qc_base.specs.declared.side.SpaceId.TheVariants.{Initial}
use Rattle.qc_base.specs.declared.transport_error.TransportError.{TransportError}
use Rattle.qc_state.specs.declared.coming.Coming.{Coming}
use Rattle.qc_state.specs.declared.deeds.Did.{Did}
use Rattle.qc_state.specs.declared.deeds.Did.TheVariants as did
use Rattle.qc_state.specs.declared.deeds.Verdict.{Verdict}
use Rattle.qc_state.specs.declared.deeds.Verdict.TheVariants as verdict
use Rattle.qc_state.specs.declared.input.Input.{Input}
use Rattle.qc_state.specs.declared.input.Input.TheVariants as input
use Rattle.qc_state.specs.declared.keys.SpaceKeys.{SpaceKeys}
use Rattle.qc_state.specs.declared.life.ConnectionError.TheVariants as lost
use Rattle.qc_state.specs.declared.life.State.{State}
use Rattle.qc_state.specs.declared.life.State.TheVariants as state
use Rattle.qc_state.specs.declared.opening.Signs.{Signs}
use Rattle.qc_state.specs.declared.trace.Step.{Step}
use Rattle.qc_state.specs.Headline.{deeds_of}
use Rattle.qc_state.specs.Life.{all_heard_reported, connected_reported, drained_reported, is_handshake, lost_reported, notices_reported, rank_of, ready_reported}
use Rattle.qc_state.specs.Moves.{Accept, Ack, Arm, Enter, Fix, Give, Hand, IsTold, Learn, MayMove, Move, PeerCloses, Renew, Seal, Shut, Skip, Tell, accepts, armed_after, armed_with, deeds_move, enters, is_client, is_unanswered, life_move, move_to, numbers_move, paths_move, setup_move, state_move}
use Rattle.qc_state.specs.Numbers.{number_accepted, number_acked, number_entered, number_skipped, number_used}
use Rattle.qc_state.specs.Keys.{new_keys}
use Rattle.qc_state.specs.Paths.{is_blocked, path_capped, path_kept, path_named, peer_fixed}
use Rattle.qc_state.specs.Receiving.{datagram_after, left_after, piece_told, renewed_after}
use Rattle.qc_state.specs.Recovering.{loss_time}
use Rattle.qc_state.specs.Run.{IsAllowed, IsStep, Run, began, called, input_after, reported, step_after, time_of}
use Rattle.qc_state.specs.Sending.{Choice}
use Rattle.qc_state.specs.Stopping.{stopped_after}
use Rattle.qc_state.specs.Setup.{parameters_known, retry_taken}
use Rattle.qc_state.specs.Types.{Types, Meaning}
use Rattle.qc_state.specs.View.{View, At}
use Rattle.qc_state.proofs.Ends.{stopped_by}
use Rattle.qc_state.proofs.OpenPackets.{holds_packet}
use Rattle.qc_state.proofs.PacketMoves.{IsInPacket, IsToldOf, OpenPacket}
use Rattle.qc_state.proofs.ReceivedMoves.{close_for}
use Rattle.qc_state.proofs.Telling.{kernel, move_tells, told_appends}
use Rattle.qc_laws.specs.PieceLaws.{pieces_in}
use Rattle.qc_laws.specs.RetryLaws.{RetriesFirst, TakesOneRetry, has_answered, is_answer, is_taken, is_versions, tells_retry, tells_versions}
use Rattle.qc_laws.proofs.CidMoves.{other_peer, other_retry, same_side}
use Rattle.qc_laws.proofs.InitialDeeds.{tells_rank}
use Rattle.qc_laws.proofs.Inputs.{IsOwn, holds_own}
use Rattle.qc_laws.proofs.Receives.{IsAround, IsParting, IsShunned, IsShutBy, datagram_around, left_by}
use Rattle.qc_laws.proofs.StreamCalls.{handed_told}

-- ---- truth values

pub and_parts : (a b : Bool) → (a && b) ≡ true → (a ≡ true) × (b ≡ true)
and_parts true b h = (refl, h)
and_parts false b h = absurd cc

and_none : (a b : Bool) → b ≡ false → (a && b) ≡ false
and_none true b h = h
and_none false b h = refl

not_true : (b : Bool) → not b ≡ true → b ≡ false
not_true true h = sym h
not_true false h = refl

-- what implies something that doesn't hold doesn't hold
was_false : (p q : Bool) → (p ≡ true → q ≡ true) → q ≡ false → p ≡ false
was_false true q le f = sym (le refl) ∙ f
was_false false q le f = refl

or_right : (q : Bool) → (q || true) ≡ true
or_right true = refl
or_right false = refl

or_more : (p q b : Bool) → (p ≡ true → q ≡ true) → (p || b) ≡ true → (q || b) ≡ true
or_more p q true le h = or_right q
or_more true q false le h = ap (λ (x : Bool). x || false) (le refl)
or_more false q false le h = absurd cc

or_none : (p b : Bool) → b ≡ false → (p || b) ≡ p
or_none true b h = refl
or_none false b h = h

-- ---- deeds

-- they tell of no Retry that was taken, of no list of versions that counts, and of no packet that was accepted
abbrev IsSilent : List Did → Type 0
IsSilent [] = Unit {0}
IsSilent (d ∷ ds) = ((tells_retry d || tells_versions d) ≡ false) × (is_answer d ≡ false) × IsSilent ds

unpieced_silent : (ds : List Did) → pieces_in ds ≡ [] → IsSilent ds
unpieced_silent [] h = tt
unpieced_silent (did.Piece space number v ∷ ds) h = absurd cc
unpieced_silent (did.Gave to body ∷ ds) h = (refl, refl, unpieced_silent ds h)
unpieced_silent (did.Sealed space n epoch early fs ∷ ds) h = (refl, refl, unpieced_silent ds h)
unpieced_silent (did.Rose life ∷ ds) h = (refl, refl, unpieced_silent ds h)
unpieced_silent (did.Lost why ∷ ds) h = (refl, refl, unpieced_silent ds h)
unpieced_silent (did.Quiet why ∷ ds) h = (refl, refl, unpieced_silent ds h)

untaken_first : (p b : Bool) → b ≡ false → b ≡ true → p ≡ false
untaken_first p true none h = absurd cc
untaken_first p false none h = absurd cc

silent_first : (p : Bool) (ds : List Did) → IsSilent ds → RetriesFirst p ds
silent_first p [] h = tt
silent_first p (d ∷ ds) h = (untaken_first p (tells_retry d || tells_versions d) h.0, silent_first (p || is_answer d) ds h.2)

silent_answered : (p : Bool) (ds : List Did) → IsSilent ds → has_answered p ds ≡ p
silent_answered p [] h = refl
silent_answered p (d ∷ ds) h = silent_answered (p || is_answer d) ds h.2 ∙ or_none p (is_answer d) h.1

-- a server that answered before has answered, and fewer Retries may be taken then
weaker_first : (p q : Bool) (ds : List Did) → (p ≡ true → q ≡ true) → RetriesFirst q ds → RetriesFirst p ds
weaker_first p q [] le h = tt
weaker_first p q (d ∷ ds) le h = (λ takes. was_false p q le (h.0 takes), weaker_first (p || is_answer d) (q || is_answer d) ds (or_more p q (is_answer d) le) h.1)

weaker_answered : (p q : Bool) (ds : List Did) → (p ≡ true → q ≡ true) → has_answered p ds ≡ true → has_answered q ds ≡ true
weaker_answered p q [] le h = le h
weaker_answered p q (d ∷ ds) le h = weaker_answered (p || is_answer d) (q || is_answer d) ds (or_more p q (is_answer d) le) h

first_append : (p : Bool) (xs ys : List Did) → RetriesFirst p xs → RetriesFirst (has_answered p xs) ys → RetriesFirst p (xs ++ ys)
first_append p [] ys h g = g
first_append p (d ∷ xs) ys h g = (h.0, first_append (p || is_answer d) xs ys h.1 g)

answered_append : (p : Bool) (xs ys : List Did) → has_answered p (xs ++ ys) ≡ has_answered (has_answered p xs) ys
answered_append p [] ys = refl
answered_append p (d ∷ xs) ys = answered_append (p || is_answer d) xs ys

-- deeds one behind the other, where an answer among the first is known behind them
joined_first : (p q : Bool) (xs ys : List Did) → (has_answered p xs ≡ true → q ≡ true) → RetriesFirst p xs → RetriesFirst q ys → RetriesFirst p (xs ++ ys)
joined_first p q xs ys le h g = first_append p xs ys h (weaker_first (has_answered p xs) q ys le g)

joined_answered : (p q : Bool) (xs ys : List Did) → (has_answered p xs ≡ true → q ≡ true) → has_answered p (xs ++ ys) ≡ true → has_answered q ys ≡ true
joined_answered p q xs ys le h = weaker_answered (has_answered p xs) q ys le (sym (answered_append p xs ys) ∙ h)

-- a packet whose number counts is neither
pub entered_untaken : (v : Verdict) → enters v ≡ true → is_taken v ≡ false
entered_untaken verdict.RetryTaken h = cc
entered_untaken _ h = refl

entered_numbered : (v : Verdict) → enters v ≡ true → (is_taken v || is_versions v) ≡ false
entered_numbered verdict.RetryTaken h = cc
entered_numbered verdict.Versions h = cc
entered_numbered _ h = refl

shunned_silent : (d : Did) → IsShunned d → IsSilent (d ∷ [])
shunned_silent (did.Piece space number verdict.Ignored) h = (refl, refl, tt)
shunned_silent (did.Piece space number verdict.Failure) h = (refl, refl, tt)
shunned_silent _ h = absurd h

-- ---- the state

handshake_low : (s : State) → is_handshake s ≡ true → rank_of s ≡ 0
handshake_low state.Handshake h = refl
handshake_low _ h = absurd cc

low_handshake : (s : State) → rank_of s ≤ 0 → is_handshake s ≡ true
low_handshake state.Handshake h = refl
low_handshake state.Established h = absurd (omega (arith, h))
low_handshake state.Closed h = absurd (omega (arith, h))
low_handshake state.Draining h = absurd (omega (arith, h))
low_handshake state.Drained h = absurd (omega (arith, h))

-- the moves by which the server answers
abbrev LeavesAnswer : {t : Types} → Move t → Type 0
LeavesAnswer (Fix cid) = ⊥
LeavesAnswer (Renew time cid token keys) = ⊥
LeavesAnswer (Accept time id n e g v) = ⊥
LeavesAnswer _ = Unit {0}

-- those, and the others that tell of a packet
abbrev pub IsPlain : {t : Types} → Move t → Type 0
IsPlain (Fix cid) = ⊥
IsPlain (Renew time cid token keys) = ⊥
IsPlain (Accept time id n e g v) = ⊥
IsPlain (Enter id n v) = ⊥
IsPlain (Tell d) = ⊥
IsPlain _ = Unit {0}

module _ {t : Types} where
  told_silent : (o : OpenPacket) (d : Did) (s : View t) → IsToldOf o d s → IsSilent (d ∷ [])
  told_silent o (did.Gave to body) s h = (refl, refl, tt)
  told_silent o (did.Piece space number v) s h = ((λ i. is_taken (h.2 i) || is_versions (h.2 i)), (λ i. is_taken (h.2 i) || accepts (h.2 i)), tt)
  told_silent o _ s h = absurd h

  plain_leaves : (x : Move t) → IsPlain x → LeavesAnswer x
  plain_leaves (Fix cid) h = absurd h
  plain_leaves (Renew time cid token keys) h = absurd h
  plain_leaves (Accept time id n e g v) h = absurd h
  plain_leaves _ h = tt

  pub plain_deeds : (x : Move t) (s : View t) → IsPlain x → pieces_in (deeds_move x s) ≡ []
  unfolding deeds_move
  plain_deeds (Renew time cid token keys) s h = absurd h
  plain_deeds (Accept time id n e g v) s h = absurd h
  plain_deeds (Enter id n v) s h = absurd h
  plain_deeds (Tell d) s h = absurd h
  plain_deeds (Hand frame) s h = handed_told (λ ds. pieces_in ds ≡ []) frame refl (λ body. refl)
  plain_deeds _ s h = refl

  stays_peer : (x : Move t) (s : View t) → LeavesAnswer x → (state_move x s).paths.peer_cid ≡ s.paths.peer_cid
  unfolding state_move paths_move path_named path_capped path_kept
  stays_peer (Fix cid) s h = absurd h
  stays_peer (Renew time cid token keys) s h = absurd h
  stays_peer (Learn parameters) s h = refl
  stays_peer x s h = other_peer x s tt

  stays_retry : (x : Move t) (s : View t) → LeavesAnswer x → (state_move x s).setup.retry_cid ≡ s.setup.retry_cid
  unfolding state_move setup_move parameters_known
  stays_retry (Fix cid) s h = absurd h
  stays_retry (Renew time cid token keys) s h = absurd h
  stays_retry (Learn parameters) s h = refl
  stays_retry x s h = other_retry x s tt

  stays_opened : (x : Move t) (s : View t) → LeavesAnswer x → (state_move x s).numbers.opened ≡ s.numbers.opened
  unfolding state_move numbers_move number_used number_skipped number_entered number_acked
  stays_opened (Renew time cid token keys) s h = absurd h
  stays_opened (Accept time id n e g v) s h = absurd h
  stays_opened (Seal time form n size fs) s h = refl
  stays_opened Skip s h = refl
  stays_opened (Enter id n v) s h = refl
  stays_opened (Ack id n r) s h = refl
  stays_opened _ s h = refl

  stays_handshake : (x : Move t) (s : View t) → MayMove x s → is_handshake (state_move x s).life.state ≡ true → is_handshake s.life.state ≡ true
  stays_handshake x s may h =
      let rank : rank_of s.life.state ≤ rank_of (state_move x s).life.state = tells_rank Initial (kernel Initial s) (kernel Initial (state_move x s)) (deeds_move x s) (move_tells Initial x s may) in
      let low : rank_of (state_move x s).life.state ≡ 0 = handshake_low (state_move x s).life.state h in
      low_handshake s.life.state (omega (arith, rank, low))

  -- a client that isn't answered behind such a move wasn't before
  stays_unanswered : (x : Move t) (s : View t) → MayMove x s → LeavesAnswer x → is_unanswered (state_move x s) ≡ true → is_unanswered s ≡ true
  unfolding is_unanswered
  stays_unanswered x s may leaves h =
      let p = and_parts (is_client (state_move x s).setup.fixed.side) _ h in
      let q = and_parts (is_handshake (state_move x s).life.state) _ p.1 in
      let r = and_parts (not (state_move x s).numbers.opened) _ q.1 in
      let w = and_parts (is_none (state_move x s).paths.peer_cid) (is_none (state_move x s).setup.retry_cid) r.1 in
      let side : is_client s.setup.fixed.side ≡ true = ap is_client (sym (same_side x s)) ∙ p.0 in
      let handshake : is_handshake s.life.state ≡ true = stays_handshake x s may q.0 in
      let unopened : not s.numbers.opened ≡ true = ap not (sym (stays_opened x s leaves)) ∙ r.0 in
      let peer : is_none s.paths.peer_cid ≡ true = ap is_none (sym (stays_peer x s leaves)) ∙ w.0 in
      let retry : is_none s.setup.retry_cid ≡ true = ap is_none (sym (stays_retry x s leaves)) ∙ w.1 in
      λ i. side i && (handshake i && (unopened i && (peer i && retry i)))

  -- ---- from one moment to another

  record Answers (a b : At t) : Type 0 where
    pub since : List Did
    pub appended : b.did ≡ a.did ++ since
    pub first : RetriesFirst (not (is_unanswered a.state)) since
    pub answered : has_answered (not (is_unanswered a.state)) since ≡ true → is_unanswered b.state ≡ false

  answers_here : (a : At t) → Answers a a
  answers_here a = record { since = []; appended = sym (append-nil a.did); first = tt; answered = λ e. not_true (is_unanswered a.state) e }

  answers_next : (a b c : At t) → Answers a b → Answers b c → Answers a c
  answers_next a b c g h =
      let p : Bool = not (is_unanswered a.state) in
      let q : Bool = not (is_unanswered b.state) in
      let le : has_answered p g.since ≡ true → q ≡ true = λ e. ap not (g.answered e) in
      record {
        since = g.since ++ h.since;
        appended = h.appended ∙ ap (λ (x : List Did). x ++ h.since) g.appended ∙ append_assoc a.did g.since h.since;
        first = joined_first p q g.since h.since le g.first h.first;
        answered = λ e. h.answered (joined_answered p q g.since h.since le e);
      }

  by_move : (x : Move t) (a : At t) → RetriesFirst (not (is_unanswered a.state)) (deeds_move x a.state) → (has_answered (not (is_unanswered a.state)) (deeds_move x a.state) ≡ true → is_unanswered (state_move x a.state) ≡ false) → Answers a (move_to x a)
  unfolding move_to
  by_move x a first answered = record { since = deeds_move x a.state; appended = told_appends a.did (deeds_move x a.state); first = first; answered = answered }

  silent_move : (x : Move t) (a : At t) → IsSilent (deeds_move x a.state) → (is_unanswered (state_move x a.state) ≡ true → is_unanswered a.state ≡ true) → Answers a (move_to x a)
  silent_move x a silent stays =
      let p : Bool = not (is_unanswered a.state) in
      by_move x a (silent_first p (deeds_move x a.state) silent)
      (λ e. was_false (is_unanswered (state_move x a.state)) (is_unanswered a.state) stays (not_true (is_unanswered a.state) (sym (silent_answered p (deeds_move x a.state) silent) ∙ e)))

  plain_move : (x : Move t) (a : At t) → IsPlain x → MayMove x a.state → Answers a (move_to x a)
  plain_move x a plain may =
      silent_move x a (unpieced_silent (deeds_move x a.state) (plain_deeds x a.state plain)) (λ h. stays_unanswered x a.state may (plain_leaves x plain) h)

  tell_move : (d : Did) (a : At t) → IsSilent (d ∷ []) → MayMove (Tell d) a.state → Answers a (move_to (Tell d) a)
  unfolding deeds_move
  tell_move d a silent may = silent_move (Tell d) a silent (λ h. stays_unanswered (Tell d) a.state may tt h)

  -- the peer's id is fixed
  fix_move : (cid : List ℕ) (a : At t) → Answers a (move_to (Fix cid) a)
  unfolding is_unanswered deeds_move state_move paths_move peer_fixed
  fix_move cid a =
      let s : View t = state_move (Fix cid) a.state in
      by_move (Fix cid) a tt (λ e. and_none (is_client s.setup.fixed.side) _ (and_none (is_handshake s.life.state) _ (and_none (not s.numbers.opened) _ refl)))

  -- a packet comes whose number counts
  enter_move : (id : SpaceId) (n : ℕ) (v : Verdict) (a : At t) → accepts v ≡ false → MayMove (Enter id n v) a.state → Answers a (move_to (Enter id n v) a)
  unfolding deeds_move MayMove
  enter_move id n v a none may =
      let untaken : is_taken v ≡ false = entered_untaken v may.1 in
      silent_move (Enter id n v) a (entered_numbered v may.1, (λ i. untaken i || none i), tt) (λ h. stays_unanswered (Enter id n v) a.state may tt h)

  -- it is accepted
  accept_move : (time : ℕ) (id : SpaceId) (n : ℕ) (e : Bool) (g : Signs) (v : Verdict) (a : At t) → enters v ≡ true → Answers a (move_to (Accept time id n e g v) a)
  unfolding is_unanswered deeds_move state_move numbers_move number_accepted
  accept_move time id n e g v a counts =
      let s : View t = state_move (Accept time id n e g v) a.state in
      by_move (Accept time id n e g v) a (untaken_first (not (is_unanswered a.state)) (is_taken v || is_versions v) (entered_numbered v counts), tt)
      (λ answered. and_none (is_client s.setup.fixed.side) _ (and_none (is_handshake s.life.state) _ refl))

  -- a Retry is taken
  renew_move : (time : ℕ) (cid token : List ℕ) (keys : SpaceKeys t.H t.P) (a : At t) → is_unanswered a.state ≡ true → Answers a (move_to (Renew time cid token keys) a)
  unfolding is_unanswered deeds_move state_move setup_move retry_taken
  renew_move time cid token keys a unanswered =
      let s : View t = state_move (Renew time cid token keys) a.state in
      by_move (Renew time cid token keys) a (λ taken. ap not unanswered, tt)
      (λ answered. and_none (is_client s.setup.fixed.side) _ (and_none (is_handshake s.life.state) _ (and_none (not s.numbers.opened) _ (and_none (is_none s.paths.peer_cid) _ refl))))

  -- ---- inputs

  around_move : (time : ℕ) (x : Move t) (a : At t) → IsAround time x a.state → MayMove x a.state → Answers a (move_to x a)
  around_move time (Fix cid) a h may = absurd h
  around_move time (Accept at id n e g v) a h may = absurd h
  around_move time (Enter id n v) a h may = absurd h
  around_move time (Renew at cid token keys) a h may = absurd h
  around_move time (Tell d) a h may = tell_move d a (shunned_silent d h) may
  around_move time x a h may = plain_move x a tt may

  -- this end closes for what a packet shows
  shut_behind : (time : ℕ) (d : Did) (error : TransportError) (a : At t) → IsSilent (d ∷ []) → IsTold d → Answers a (stopped_after time error (move_to (Tell d) a))
  unfolding MayMove
  shut_behind time d error a silent told =
      let b : At t = move_to (Tell d) a in
      let c : At t = move_to (Shut time (close_for error)) b in
      answers_next a b _ (tell_move d a silent told)
      (stopped_by Answers answers_here answers_next time error b (λ low. plain_move (Shut time (close_for error)) b tt low) (λ none. plain_move (Give (lost.TransportError error)) c tt none))

  shut_answers : (time : ℕ) (space : Option SpaceId) (number : ℕ) (v : Verdict) (error : TransportError) (a : At t) → IsShutBy v error → Answers a (stopped_after time error (move_to (Tell (did.Piece space (Some number) v)) a))
  shut_answers time space number verdict.BadBits error a is = shut_behind time (did.Piece space (Some number) verdict.BadBits) error a (refl, refl, tt) refl
  shut_answers time space number verdict.BadUpdate error a is = shut_behind time (did.Piece space (Some number) verdict.BadUpdate) error a (refl, refl, tt) refl
  shut_answers time space number _ error a is = absurd is

  -- a Retry that is taken
  retry_answers : (m : Meaning t) (time : ℕ) (cid token : List ℕ) (a : At t) → is_unanswered a.state ≡ true → Answers a (renewed_after m time cid token a)
  unfolding renewed_after armed_after armed_with MayMove
  retry_answers m time cid token a unanswered =
      let keys : SpaceKeys t.H t.P = new_keys m.seal_limit m.failure_limit (m.initial a.state.lower.session cid Client) in
      let b : At t = move_to (Renew time cid token keys) a in
      answers_next a b _ (renew_move time cid token keys a unanswered)
      (plain_move (Arm (loss_time b.state (is_blocked b.state.paths) time)) b tt (record { blocked = is_blocked b.state.paths; time = time; set = refl }))

  -- a list of versions that counts
  parting_move : (time : ℕ) (x : Move t) (a : At t) → IsParting time x → MayMove x a.state → Answers a (move_to x a)
  parting_move time (PeerCloses at) a h may = plain_move (PeerCloses at) a tt may
  parting_move time (Give why) a h may = plain_move (Give why) a tt may
  parting_move time _ a h may = absurd h

  versions_answer : (time : ℕ) (a : At t) → is_unanswered a.state ≡ true → Answers a (left_after time lost.VersionMismatch (piece_told None None verdict.Versions a))
  unfolding left_after deeds_move MayMove
  versions_answer time a unanswered =
      let d : Did = did.Piece None None verdict.Versions in
      let b : At t = move_to (Tell d) a in
      answers_next a b _
      (by_move (Tell d) a (λ tells. ap not unanswered, tt)
      (λ e. was_false (is_unanswered (state_move (Tell d) a.state)) (is_unanswered a.state) (λ h. stays_unanswered (Tell d) a.state refl tt h) (not_true (is_unanswered a.state) (sym (or_none (not (is_unanswered a.state)) false refl) ∙ e))))
      (left_by time Answers answers_here answers_next (λ x c h may. parting_move time x c h may) b _ refl)

  packet_move : (m : Meaning t) (o : OpenPacket) (x : Move t) (a : At t) → IsInPacket m o x a.state → MayMove x a.state → Answers a (move_to x a)
  unfolding MayMove
  packet_move m o (Fix cid) a h may = fix_move cid a
  packet_move m o (Accept time id n e g v) a h may = accept_move time id n e g v a may.1
  packet_move m o (Enter id n v) a h may = enter_move id n v a h.0 may
  packet_move m o (Renew time cid token keys) a h may = absurd h
  packet_move m o (Tell d) a h may = tell_move d a (told_silent o d a.state h) may
  packet_move m o x a h may = plain_move x a tt may

  own_move : (x : Move t) → IsOwn x → (a : At t) → MayMove x a.state → Answers a (move_to x a)
  own_move (Fix cid) r a may = absurd r
  own_move (Accept time id n e g v) r a may = absurd r
  own_move (Enter id n v) r a may = absurd r
  own_move (Renew time cid token keys) r a may = absurd r
  own_move (Tell d) r a may = absurd r
  own_move x r a may = plain_move x a tt may

  datagram_answers : (m : Meaning t) (coming : Coming) (bytes : List ℕ) (a : At t) → Answers a (datagram_after m coming bytes a)
  datagram_answers m coming bytes a =
      datagram_around m coming (λ p. Unit {0}) Answers answers_here answers_next (λ x b h may. around_move coming.time x b h may) (λ space number v error b is. shut_answers coming.time space number v error b is)
      (λ cid token b r. retry_answers m coming.time cid token b r.unanswered) (λ b r. versions_answer coming.time b r.unanswered)
      (λ p comes o b opened. holds_packet m o Answers answers_here answers_next (λ x c h may. packet_move m o x c h may) b opened.lively) bytes a (λ p among. tt)

  input_answers : (m : Meaning t) (i : Input) (choice : Choice) (a : At t) → IsAllowed m i choice a → Answers a (input_after m i choice a)
  unfolding input_after
  input_answers m (input.Datagram time remote ecn bytes) choice a may = datagram_answers m (record { time = time; remote = remote; mark = ecn }) bytes a
  input_answers m i choice a may = holds_own Answers answers_here answers_next (λ x r b may_be. own_move x r b may_be) m i choice a refl may

  -- ---- steps and runs

  began_same : (s : View t) (time : ℕ) → is_unanswered (began s time).state ≡ is_unanswered s
  unfolding is_unanswered began state_move numbers_move life_move paths_move setup_move
  began_same s time = refl

  step_ends : (m : Meaning t) (k : ℕ) (s : View t) (i : Input) (x : Step) (s' : View t) → (h : IsStep m k s i x s') → is_unanswered s' ≡ is_unanswered (called m s i h.choice).state
  unfolding is_unanswered step_after reported state_move numbers_move life_move paths_move setup_move ready_reported connected_reported all_heard_reported lost_reported notices_reported drained_reported
  step_ends m k s i x s' h =
      λ j. is_client (h.setup j).fixed.side && (is_handshake (h.life j).state && (not (h.numbers j).opened && (is_none (h.paths j).peer_cid && is_none (h.setup j).retry_cid)))

  step_takes : (m : Meaning t) (k : ℕ) (s : View t) (i : Input) (x : Step) (s' : View t) → IsStep m k s i x s' → TakesOneRetry x.did s s'
  unfolding called began
  step_takes m k s i x s' h =
      let a : At t = began s (time_of i) in
      let g : Answers a (input_after m i h.choice a) = input_answers m i h.choice a h.allowed in
      let deeds : g.since ≡ x.did = sym (h.deeds ∙ g.appended) in
      let same : is_unanswered a.state ≡ is_unanswered s = began_same s (time_of i) in
      record {
        first = subst (λ (ds : List Did). RetriesFirst (not (is_unanswered s)) ds) deeds (subst (λ (b : Bool). RetriesFirst (not b) g.since) same g.first);
        answered = λ e. step_ends m k s i x s' h ∙ g.answered ((λ j. has_answered (not (same j)) (deeds j)) ∙ e);
      }

  pub run_renews : (m : Meaning t) (k : ℕ) (s : View t) (is : List Input) (xs : List Step) (s' : View t) → Run m k s is xs s' → TakesOneRetry (deeds_of xs) s s'
  unfolding Run
  run_renews m k s [] [] s' r = record { first = tt; answered = λ e. ap is_unanswered r ∙ not_true (is_unanswered s) e }
  run_renews m k s (i ∷ is) (x ∷ xs) s' r =
      let g : TakesOneRetry x.did s r.0 = step_takes m k s i x r.0 r.1 in
      let h : TakesOneRetry (deeds_of xs) r.0 s' = run_renews m (k + 1) r.0 is xs s' r.2 in
      let p : Bool = not (is_unanswered s) in
      let q : Bool = not (is_unanswered r.0) in
      let le : has_answered p x.did ≡ true → q ≡ true = λ e. ap not (g.answered e) in
      record { first = joined_first p q x.did (deeds_of xs) le g.first h.first; answered = λ e. h.answered (joined_answered p q x.did (deeds_of xs) le e) }
  run_renews m k s [] (x ∷ xs) s' r = absurd r
  run_renews m k s (i ∷ is) [] s' r = absurd r

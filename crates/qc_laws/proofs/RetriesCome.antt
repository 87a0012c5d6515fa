-- Over a run a Retry that was taken, and a list of versions that counts, came with its inputs.
use Rattle.std.proofs.Common.{◌≡◌, ℕ, ◌+◌, inl, List, [], ◌∷◌, ◌++◌, refl, ap, sym, ◌∙◌, subst, Bool, true, false, Option, None, Some, append_assoc, append-nil}
use Rattle.std.specs.Prelude.{◌||◌}
use Rattle.std.specs.List.{list_any}
use Rattle.rand_core.specs.Stream.{Stream}
use Rattle.qc_base.specs.declared.side.Side.TheVariants.{Client}
use Rattle.qc_base.specs.declared.side.SpaceId.{SpaceId}
use Rattle.qc_base.specs.declared.transport_error.TransportError.{TransportError}
use Rattle.qc_header.specs.Piece.{Piece}
use Rattle.qc_state.specs.declared.coming.Coming.{Coming}
use Rattle.qc_state.specs.declared.deeds.Did.{Did}
use Rattle.qc_state.specs.declared.deeds.Did.TheVariants as did
use Rattle.qc_state.specs.declared.deeds.Verdict.{Verdict}
use Rattle.qc_state.specs.declared.deeds.Verdict.TheVariants as verdict
use Rattle.qc_state.specs.declared.input.Input.{Input}
use Rattle.qc_state.specs.declared.input.Input.TheVariants as input
use Rattle.qc_state.specs.declared.keys.SpaceKeys.{SpaceKeys}
use Rattle.qc_state.specs.declared.life.ConnectionError.TheVariants as lost
use Rattle.qc_state.specs.declared.setup.Fixed.{Fixed}
use Rattle.qc_state.specs.declared.setup.Setup.{Setup}
use Rattle.qc_state.specs.declared.trace.Step.{Step}
use Rattle.qc_state.specs.Headline.{deeds_of}
use Rattle.qc_state.specs.Keys.{new_keys}
use Rattle.qc_state.specs.Moves.{Accept, Arm, Enter, Expect, Fix, Give, Learn, MayMove, Move, PeerCloses, Renew, Seal, Shut, Skip, Tell, armed_after, armed_with, deeds_move, enters, move_to, setup_move, state_move}
use Rattle.qc_state.specs.Paths.{is_blocked}
use Rattle.qc_state.specs.Receiving.{cut_of, datagram_after, left_after, piece_told, renewed_after}
use Rattle.qc_state.specs.Recovering.{loss_time}
use Rattle.qc_state.specs.Run.{IsAllowed, IsStep, Run, began, called, input_after, reported, step_after, time_of}
use Rattle.qc_state.specs.Sending.{Choice}
use Rattle.qc_state.specs.Setup.{packet_drawn, parameters_known, retry_taken, token_expected, word_drawn}
use Rattle.qc_state.specs.Stopping.{stopped_after}
use Rattle.qc_state.specs.Types.{Types, Meaning}
use Rattle.qc_state.specs.View.{View, At}
use Rattle.qc_state.proofs.Ends.{stopped_by}
use Rattle.qc_state.proofs.OpenPackets.{holds_packet}
use Rattle.qc_state.proofs.PacketMoves.{IsInPacket, IsToldOf, OpenPacket}
use Rattle.qc_state.proofs.ReceivedMoves.{close_for}
use Rattle.qc_state.proofs.Telling.{told_appends}
use Rattle.qc_laws.specs.MirrorLaws.{ComesWith}
use Rattle.qc_laws.specs.PieceLaws.{pieces_in}
use Rattle.qc_laws.specs.RetryLaws.{AreOfInputs, IsRetry, ListsOthers, is_taken, is_versions, tells_retry, tells_versions}
use Rattle.qc_laws.proofs.FieldsKept.{move_fixed}
use Rattle.qc_laws.proofs.SpaceKeysHold.{IsOld, retry_stays}
use Rattle.qc_laws.proofs.Inputs.{IsOwn, holds_own}
use Rattle.qc_laws.proofs.Mirrors.{among_same, began_comes, comes_behind, comes_first, comes_later}
use Rattle.qc_laws.proofs.Receives.{IsAround, IsParting, IsPieceOf, IsShunned, IsShutBy, Parts, Renews, datagram_around, left_by}
use Rattle.qc_laws.proofs.RetriesHold.{entered_untaken, plain_deeds}

-- ---- deeds

any_append : (f : Did → Bool) (xs ys : List Did) → list_any f (xs ++ ys) ≡ (list_any f xs || list_any f ys)
any_append f [] ys = refl
any_append f (d ∷ xs) ys = any_by (f d) (any_append f xs ys)
  where
    any_by : (b : Bool) → list_any f (xs ++ ys) ≡ (list_any f xs || list_any f ys) → (b || list_any f (xs ++ ys)) ≡ ((b || list_any f xs) || list_any f ys)
    any_by true rest = refl
    any_by false rest = rest

left_none : (p q : Bool) → (p || q) ≡ false → p ≡ false
left_none true q h = h
left_none false q h = refl

right_none : (p q : Bool) → (p || q) ≡ false → q ≡ false
right_none true q h = absurd cc
right_none false q h = h

left_or : (p q : Bool) → q ≡ false → (p || q) ≡ true → p ≡ true
left_or true q none h = refl
left_or false q none h = absurd (let clash : false ≡ true = sym none ∙ h in cc)

one_none : (b : Bool) → b ≡ false → (b || false) ≡ false
one_none b e = λ i. e i || false

-- deeds that tell of neither
abbrev AreNumbered : List Did → Type 0
AreNumbered ds = (list_any tells_retry ds ≡ false) × (list_any tells_versions ds ≡ false)

unpieced_numbered : (ds : List Did) → pieces_in ds ≡ [] → AreNumbered ds
unpieced_numbered [] h = (refl, refl)
unpieced_numbered (did.Piece space number v ∷ ds) h = absurd cc
unpieced_numbered (did.Gave to body ∷ ds) h = unpieced_numbered ds h
unpieced_numbered (did.Sealed space n epoch early fs ∷ ds) h = unpieced_numbered ds h
unpieced_numbered (did.Rose life ∷ ds) h = unpieced_numbered ds h
unpieced_numbered (did.Lost why ∷ ds) h = unpieced_numbered ds h
unpieced_numbered (did.Quiet why ∷ ds) h = unpieced_numbered ds h

entered_listless : (v : Verdict) → enters v ≡ true → is_versions v ≡ false
entered_listless verdict.Versions h = cc
entered_listless _ h = refl

shunned_numbered : (d : Did) → IsShunned d → AreNumbered (d ∷ [])
shunned_numbered (did.Piece space number verdict.Ignored) h = (refl, refl)
shunned_numbered (did.Piece space number verdict.Failure) h = (refl, refl)
shunned_numbered _ h = absurd h

entered_numbered : (space : Option SpaceId) (number : Option ℕ) (v : Verdict) → enters v ≡ true → AreNumbered (did.Piece space number v ∷ [])
entered_numbered space number v counts = (one_none (is_taken v) (entered_untaken v counts), one_none (is_versions v) (entered_listless v counts))

module _ {t : Types} where
  told_numbered : (o : OpenPacket) (d : Did) (s : View t) → IsToldOf o d s → AreNumbered (d ∷ [])
  told_numbered o (did.Gave to body) s h = (refl, refl)
  told_numbered o (did.Piece space number v) s h = (one_none (is_taken v) (ap is_taken h.2), one_none (is_versions v) (ap is_versions h.2))
  told_numbered o _ s h = absurd h

  token_stays : (x : Move t) (s : View t) → IsOld x → (setup_move x s).initial_token ≡ s.setup.initial_token
  unfolding setup_move token_expected parameters_known word_drawn packet_drawn
  token_stays (Renew time cid token keys) s old = absurd old
  token_stays (Expect token) s old = refl
  token_stays (Learn parameters) s old = refl
  token_stays Skip s old = refl
  token_stays (Seal time f n size fs) s old = refl
  token_stays _ s old = refl

  -- a move that takes no Retry, and tells of neither
  abbrev IsNumbered : Move t → View t → Type 0
  IsNumbered x s = IsOld x × AreNumbered (deeds_move x s)

  packet_numbered : (m : Meaning t) (o : OpenPacket) (x : Move t) (s : View t) → IsInPacket m o x s → MayMove x s → IsNumbered x s
  unfolding deeds_move MayMove
  packet_numbered m o (Fix cid) s h may = (tt, (refl, refl))
  packet_numbered m o (Accept time id n e g v) s h may = (tt, entered_numbered (Some id) (Some n) v may.1)
  packet_numbered m o (Enter id n v) s h may = (tt, entered_numbered (Some id) (Some n) v may.1)
  packet_numbered m o (Renew time cid token keys) s h may = absurd h
  packet_numbered m o (Tell d) s h may = (tt, told_numbered o d s h)
  packet_numbered m o x s h may = (tt, unpieced_numbered (deeds_move x s) (plain_deeds x s tt))

  around_numbered : (time : ℕ) (x : Move t) (s : View t) → IsAround time x s → IsNumbered x s
  unfolding deeds_move
  around_numbered time (Fix cid) s h = absurd h
  around_numbered time (Accept at id n e g v) s h = absurd h
  around_numbered time (Enter id n v) s h = absurd h
  around_numbered time (Renew at cid token keys) s h = absurd h
  around_numbered time (Tell d) s h = (tt, shunned_numbered d h)
  around_numbered time x s h = (tt, unpieced_numbered (deeds_move x s) (plain_deeds x s tt))

  own_numbered : (x : Move t) (s : View t) → IsOwn x → IsNumbered x s
  own_numbered (Fix cid) s h = absurd h
  own_numbered (Accept at id n e g v) s h = absurd h
  own_numbered (Enter id n v) s h = absurd h
  own_numbered (Renew at cid token keys) s h = absurd h
  own_numbered (Tell d) s h = absurd h
  own_numbered x s h = (tt, unpieced_numbered (deeds_move x s) (plain_deeds x s tt))

module _ {t : Types} (m : Meaning t) (Comes : Piece → Type 0) where
  -- a Retry that came was taken, and left this
  abbrev Takes : Fixed → View t → Type 0
  Takes f s = (p : Piece) × (cid token : List ℕ) × Comes p × IsRetry m f.first_cid p cid token × (s.setup.retry_cid ≡ Some cid) × (s.setup.initial_token ≡ token)

  -- a list of versions came
  abbrev Lists : Fixed → Type 0
  Lists f = (p : Piece) × Comes p × ListsOthers f.version p

  -- ---- from one moment to another

  record Came (a b : At t) : Type 0 where
    pub since : List Did
    pub appended : b.did ≡ a.did ++ since
    pub fixed : b.state.setup.fixed ≡ a.state.setup.fixed
    pub stay : list_any tells_retry since ≡ false → (b.state.setup.retry_cid ≡ a.state.setup.retry_cid) × (b.state.setup.initial_token ≡ a.state.setup.initial_token)
    pub taken : list_any tells_retry since ≡ true → Takes a.state.setup.fixed b.state
    pub listed : list_any tells_versions since ≡ true → Lists a.state.setup.fixed

  came_here : (a : At t) → Came a a
  came_here a = record { since = []; appended = sym (append-nil a.did); fixed = refl; stay = λ e. (refl, refl); taken = λ e. absurd cc; listed = λ e. absurd cc }

  taken_by : (a b c : At t) → Came a b → (h : Came b c) → (behind : Bool) → list_any tells_retry h.since ≡ behind → (before : Bool) → (before ≡ true → Takes a.state.setup.fixed b.state) → (before || behind) ≡ true → Takes a.state.setup.fixed c.state
  taken_by a b c g h true is before was e = subst (λ (f : Fixed). Takes f c.state) g.fixed (h.taken is)
  taken_by a b c g h false is before was e =
      let w = was (left_or before false refl e) in
      let same = h.stay is in
      (w.0, w.1, w.2, w.3, w.4, same.0 ∙ w.5, same.1 ∙ w.6)

  listed_by : (a b c : At t) → Came a b → (h : Came b c) → (before : Bool) → (before ≡ true → Lists a.state.setup.fixed) → (before || list_any tells_versions h.since) ≡ true → Lists a.state.setup.fixed
  listed_by a b c g h true was e = was refl
  listed_by a b c g h false was e = subst (λ (f : Fixed). Lists f) g.fixed (h.listed e)

  came_next : (a b c : At t) → Came a b → Came b c → Came a c
  came_next a b c g h =
      let retries = any_append tells_retry g.since h.since in
      let lists = any_append tells_versions g.since h.since in
      record {
        since = g.since ++ h.since;
        appended = h.appended ∙ ap (λ (x : List Did). x ++ h.since) g.appended ∙ append_assoc a.did g.since h.since;
        fixed = h.fixed ∙ g.fixed;
        stay = λ e.
            let none = sym retries ∙ e in
            let first = g.stay (left_none (list_any tells_retry g.since) (list_any tells_retry h.since) none) in
            let then = h.stay (right_none (list_any tells_retry g.since) (list_any tells_retry h.since) none) in
            (then.0 ∙ first.0, then.1 ∙ first.1);
        taken = λ e. taken_by a b c g h (list_any tells_retry h.since) refl (list_any tells_retry g.since) g.taken (sym retries ∙ e);
        listed = λ e. listed_by a b c g h (list_any tells_versions g.since) g.listed (sym lists ∙ e);
      }

  came_move : (x : Move t) (a : At t) → IsNumbered x a.state → Came a (move_to x a)
  unfolding move_to state_move
  came_move x a h = record {
    since = deeds_move x a.state;
    appended = told_appends a.did (deeds_move x a.state);
    fixed = move_fixed x a.state;
    stay = λ e. (retry_stays m x a.state h.0, token_stays x a.state h.0);
    taken = λ e. absurd (let clash : true ≡ false = sym e ∙ h.1.0 in cc);
    listed = λ e. absurd (let clash : true ≡ false = sym e ∙ h.1.1 in cc);
  }

  -- a Retry is taken
  came_renew : (time : ℕ) (cid token : List ℕ) (keys : SpaceKeys t.H t.P) (a : At t) → Renews m Comes a.state cid token → Came a (move_to (Renew time cid token keys) a)
  unfolding move_to state_move setup_move retry_taken deeds_move
  came_renew time cid token keys a r = record {
    since = did.Piece None None verdict.RetryTaken ∷ [];
    appended = refl;
    fixed = refl;
    stay = λ e. absurd cc;
    taken = λ e. (r.piece, cid, token, r.comes, r.is, refl, refl);
    listed = λ e. absurd cc;
  }

  came_retry : (time : ℕ) (cid token : List ℕ) (a : At t) → Renews m Comes a.state cid token → Came a (renewed_after m time cid token a)
  unfolding renewed_after armed_after armed_with
  came_retry time cid token a r =
      let keys : SpaceKeys t.H t.P = new_keys m.seal_limit m.failure_limit (m.initial a.state.lower.session cid Client) in
      let b : At t = move_to (Renew time cid token keys) a in
      let arm : Move t = Arm (loss_time b.state (is_blocked b.state.paths) time) in
      came_next a b _ (came_renew time cid token keys a r) (came_move arm b (own_numbered arm b.state tt))

  -- this end closes for what a packet shows
  came_shut : (time : ℕ) (space : Option SpaceId) (number : ℕ) (v : Verdict) (error : TransportError) (a : At t) → IsShutBy v error → Came a (stopped_after time error (move_to (Tell (did.Piece space (Some number) v)) a))
  unfolding deeds_move
  came_shut time space number verdict.BadBits error a is =
      let b : At t = move_to (Tell (did.Piece space (Some number) verdict.BadBits)) a in
      let c : At t = move_to (Shut time (close_for error)) b in
      came_next a b _ (came_move (Tell (did.Piece space (Some number) verdict.BadBits)) a (tt, (refl, refl)))
      (stopped_by Came came_here came_next time error b (λ low. came_move (Shut time (close_for error)) b (tt, (refl, refl))) (λ none. came_move (Give (lost.TransportError error)) c (tt, (refl, refl))))
  came_shut time space number verdict.BadUpdate error a is =
      let b : At t = move_to (Tell (did.Piece space (Some number) verdict.BadUpdate)) a in
      let c : At t = move_to (Shut time (close_for error)) b in
      came_next a b _ (came_move (Tell (did.Piece space (Some number) verdict.BadUpdate)) a (tt, (refl, refl)))
      (stopped_by Came came_here came_next time error b (λ low. came_move (Shut time (close_for error)) b (tt, (refl, refl))) (λ none. came_move (Give (lost.TransportError error)) c (tt, (refl, refl))))
  came_shut time space number _ error a is = absurd is

  -- a list of versions that counts
  came_listed : (a : At t) → Parts Comes a.state → Came a (move_to (Tell (did.Piece None None verdict.Versions)) a)
  unfolding move_to state_move setup_move deeds_move
  came_listed a r = record {
    since = did.Piece None None verdict.Versions ∷ [];
    appended = refl;
    fixed = refl;
    stay = λ e. (refl, refl);
    taken = λ e. absurd cc;
    listed = λ e. (r.piece, r.comes, r.is);
  }

  parting_came : (time : ℕ) (x : Move t) (a : At t) → IsParting time x → Came a (move_to x a)
  unfolding deeds_move
  parting_came time (PeerCloses at) a h = came_move (PeerCloses at) a (tt, (refl, refl))
  parting_came time (Give why) a h = came_move (Give why) a (tt, (refl, refl))
  parting_came time _ a h = absurd h

  came_versions : (time : ℕ) (a : At t) → Parts Comes a.state → Came a (left_after time lost.VersionMismatch (piece_told None None verdict.Versions a))
  unfolding left_after
  came_versions time a r =
      let b : At t = move_to (Tell (did.Piece None None verdict.Versions)) a in
      came_next a b _ (came_listed a r) (left_by time Came came_here came_next (λ x c h may. parting_came time x c h) b _ refl)

  -- ---- inputs

  came_datagram : (coming : Coming) (bytes : List ℕ) (a : At t) → ((p : Piece) → IsPieceOf p (cut_of a.state bytes) → Comes p) → Came a (datagram_after m coming bytes a)
  came_datagram coming bytes a come =
      datagram_around m coming Comes Came came_here came_next (λ x b h may. came_move x b (around_numbered coming.time x b.state h)) (λ space number v error b is. came_shut coming.time space number v error b is)
      (λ cid token b r. came_retry coming.time cid token b r) (λ b r. came_versions coming.time b r)
      (λ p comes o b opened. holds_packet m o Came came_here came_next (λ x c h may. came_move x c (packet_numbered m o x c.state h may)) b opened.lively) bytes a come

  came_input : (i : Input) (choice : Choice) (a : At t) → IsAllowed m i choice a → ((p : Piece) → ComesWith a.state (i ∷ []) p → Comes p) → Came a (input_after m i choice a)
  unfolding input_after
  came_input (input.Datagram time remote ecn bytes) choice a may come =
      came_datagram (record { time = time; remote = remote; mark = ecn }) bytes a (λ p among. come p (inl (among_same m Comes p (cut_of a.state bytes) among)))
  came_input i choice a may come = holds_own Came came_here came_next (λ x own b may_be. came_move x b (own_numbered x b.state own)) m i choice a refl may

module _ {t : Types} (m : Meaning t) where
  -- ---- steps and runs

  record Over (is : List Input) (ds : List Did) (s s' : View t) : Type 0 where
    pub fixed : s'.setup.fixed ≡ s.setup.fixed
    pub of : AreOfInputs m is ds s s'

  began_setup : (s : View t) (time : ℕ) → (began s time).state.setup ≡ s.setup
  unfolding began state_move setup_move
  began_setup s time = refl

  step_over : (k : ℕ) (s : View t) (i : Input) (x : Step) (s' : View t) → IsStep m k s i x s' → Over (i ∷ []) x.did s s'
  unfolding called began step_after reported state_move setup_move
  step_over k s i x s' h =
      let a : At t = began s (time_of i) in
      let b : At t = input_after m i h.choice a in
      let g : Came m (ComesWith s (i ∷ [])) a b = came_input m (ComesWith s (i ∷ [])) i h.choice a h.allowed (λ p comes. began_comes m s (time_of i) (i ∷ []) p comes) in
      let deeds : x.did ≡ g.since = h.deeds ∙ g.appended in
      let setup : s'.setup ≡ b.state.setup = h.setup in
      let retries : list_any tells_retry x.did ≡ list_any tells_retry g.since = ap (list_any tells_retry) deeds in
      let lists : list_any tells_versions x.did ≡ list_any tells_versions g.since = ap (list_any tells_versions) deeds in
      let id : s'.setup.retry_cid ≡ b.state.setup.retry_cid = ap (λ (v : Setup Stream). v.retry_cid) setup in
      let token : s'.setup.initial_token ≡ b.state.setup.initial_token = ap (λ (v : Setup Stream). v.initial_token) setup in
      record {
        fixed = ap (λ (v : Setup Stream). v.fixed) setup ∙ g.fixed;
        of = record {
          stay = λ e. let same = g.stay (sym retries ∙ e) in (id ∙ same.0, token ∙ same.1);
          taken = λ e. let w = g.taken (sym retries ∙ e) in (w.0, w.1, w.2, w.3, w.4, id ∙ w.5, token ∙ w.6);
          listed = λ e. g.listed (sym lists ∙ e);
        };
      }

  run_taken : (s mid s' : View t) (i : Input) (is : List Input) (x : Step) (xs : List Step) → (g : Over (i ∷ []) x.did s mid) → (h : Over is (deeds_of xs) mid s') → ((p : Piece) → ComesWith mid is p → ComesWith s (i ∷ is) p) →
      (later : Bool) → list_any tells_retry (deeds_of xs) ≡ later → (now : Bool) → list_any tells_retry x.did ≡ now → (now || later) ≡ true → Takes m (ComesWith s (i ∷ is)) s.setup.fixed s'
  run_taken s mid s' i is x xs g h behind true is_later now is_now e =
      let w = h.of.taken is_later in
      (w.0, w.1, w.2, behind w.0 w.3, subst (λ (f : Fixed). IsRetry m f.first_cid w.0 w.1 w.2) g.fixed w.4, w.5, w.6)
  run_taken s mid s' i is x xs g h behind false is_later now is_now e =
      let w = g.of.taken (is_now ∙ left_or now false refl e) in
      let same = h.of.stay is_later in
      (w.0, w.1, w.2, comes_first m s i is w.0 w.3, w.4, same.0 ∙ w.5, same.1 ∙ w.6)

  run_listed : (s mid s' : View t) (i : Input) (is : List Input) (x : Step) (xs : List Step) → (g : Over (i ∷ []) x.did s mid) → (h : Over is (deeds_of xs) mid s') → ((p : Piece) → ComesWith mid is p → ComesWith s (i ∷ is) p) →
      (now : Bool) → list_any tells_versions x.did ≡ now → (now || list_any tells_versions (deeds_of xs)) ≡ true → Lists m (ComesWith s (i ∷ is)) s.setup.fixed
  run_listed s mid s' i is x xs g h behind true is_now e =
      let w = g.of.listed is_now in (w.0, comes_first m s i is w.0 w.1, w.2)
  run_listed s mid s' i is x xs g h behind false is_now e =
      let w = h.of.listed e in (w.0, behind w.0 w.1, subst (λ (f : Fixed). ListsOthers f.version w.0) g.fixed w.2)

  run_over : (k : ℕ) (s : View t) (is : List Input) (xs : List Step) (s' : View t) → Run m k s is xs s' → Over is (deeds_of xs) s s'
  unfolding Run
  run_over k s [] [] s' r = record {
    fixed = ap (λ (v : View t). v.setup.fixed) r;
    of = record { stay = λ e. (ap (λ (v : View t). v.setup.retry_cid) r, ap (λ (v : View t). v.setup.initial_token) r); taken = λ e. absurd cc; listed = λ e. absurd cc };
  }
  run_over k s (i ∷ is) (x ∷ xs) s' r =
      let mid : View t = r.0 in
      let g : Over (i ∷ []) x.did s mid = step_over k s i x mid r.1 in
      let h : Over is (deeds_of xs) mid s' = run_over (k + 1) mid is xs s' r.2 in
      let retries = any_append tells_retry x.did (deeds_of xs) in
      let lists = any_append tells_versions x.did (deeds_of xs) in
      let behind : (p : Piece) → ComesWith mid is p → ComesWith s (i ∷ is) p = λ p later. comes_behind m s i is p (comes_later m s mid g.fixed is p later) in
      record {
        fixed = h.fixed ∙ g.fixed;
        of = record {
          stay = λ e.
              let none = sym retries ∙ e in
              let first = g.of.stay (left_none (list_any tells_retry x.did) (list_any tells_retry (deeds_of xs)) none) in
              let then = h.of.stay (right_none (list_any tells_retry x.did) (list_any tells_retry (deeds_of xs)) none) in
              (then.0 ∙ first.0, then.1 ∙ first.1);
          taken = λ e. run_taken s mid s' i is x xs g h behind (list_any tells_retry (deeds_of xs)) refl (list_any tells_retry x.did) refl (sym retries ∙ e);
          listed = λ e. run_listed s mid s' i is x xs g h behind (list_any tells_versions x.did) refl (sym lists ∙ e);
        };
      }
  run_over k s [] (x ∷ xs) s' r = absurd r
  run_over k s (i ∷ is) [] s' r = absurd r

  pub run_of_inputs : (k : ℕ) (s : View t) (is : List Input) (xs : List Step) (s' : View t) → Run m k s is xs s' → AreOfInputs m is (deeds_of xs) s s'
  run_of_inputs k s is xs s' r = (run_over k s is xs s' r).of

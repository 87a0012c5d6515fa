-- Over a run from a new connection on: packets carry an id of the peer's that is known, what is told of this end's ids was issued, and the numbers
-- that are told retired lie below that of the id in use.
use Rattle.std.proofs.Common.{◌≡◌, ℕ, ◌+◌, ◌<◌, ◌≤◌, List, [], ◌∷◌, ◌++◌, length, refl, sym, ap, ◌∙◌, subst, Option, Some, None, Contains, append_assoc, append-nil, arith}
use Rattle.std.proofs.lemmas.List.Elements.{Contains-append_left, Contains-append_right}
use Rattle.rand_core.specs.Stream.{Stream}
use Rattle.qc_base.specs.declared.ids.IssuedCid.{IssuedCid}
use Rattle.qc_cids.specs.Cids.{first_ids}
use Rattle.qc_cids.specs.declared.connection_ids.ConnectionIds.{ConnectionIds}
use Rattle.qc_flight.specs.Packets.{Entry}
use Rattle.qc_frame.specs.Frame.{FrameValue}
use Rattle.qc_frame.specs.declared.frames.FrameOf.TheVariants as frames
use Rattle.qc_ids.specs.CidQueue.{active_of, active_seq_of, first_cid}
use Rattle.qc_ids.specs.declared.cid_queue.KeptCid.{KeptCid}
use Rattle.qc_params.specs.declared.params.TransportParameters.{TransportParameters}
use Rattle.qc_recovery.specs.Steps as recovery
use Rattle.qc_recovery.specs.declared.recovery.Recovery.{Recovery}
use Rattle.qc_state.specs.declared.deeds.Did.{Did}
use Rattle.qc_state.specs.declared.input.Input.{Input}
use Rattle.qc_state.specs.declared.input.Input.TheVariants as input
use Rattle.qc_state.specs.declared.keys.KeyGroup.{KeyGroup}
use Rattle.qc_state.specs.declared.life.Life.{Life}
use Rattle.qc_state.specs.declared.lower.Lower.{Lower}
use Rattle.qc_state.specs.declared.paths.Paths.{Paths}
use Rattle.qc_state.specs.declared.setup.Setup.{Setup}
use Rattle.qc_state.specs.declared.trace.Step.{Step as TraceStep}
use Rattle.qc_state.specs.Headline.{deeds_of}
use Rattle.qc_state.specs.Lower.{events_told, streams_stepped}
use Rattle.qc_state.specs.Life.{all_heard_reported, connected_reported, drained_reported, is_handshake, lost_reported, notices_reported, ready_reported}
use Rattle.qc_state.specs.Moves.{keys_move, life_move, lower_move, paths_move, setup_move, state_move}
use Rattle.qc_state.specs.Paths.{chosen_or}
use Rattle.qc_state.specs.Run.{IsStep, Run, began, called, input_after, reported, time_of}
use Rattle.qc_state.specs.Run as run
use Rattle.qc_state.specs.Types.{Types, Meaning}
use Rattle.qc_state.specs.View.{View, At}
use Rattle.qc_laws.specs.CidLaws.{AllNameBelow, Chosen, EachIssued, HasNewIds, IsPeers, TellsIssued, issued_by, issued_in, chosen_in, first_of}
use Rattle.qc_laws.specs.IdLaws.{CarriesUsed, given_to_ids}
use Rattle.qc_laws.specs.StreamsLaws.{frames_sealed, with_steps}
use Rattle.qc_laws.proofs.CidFrames.{AreTold, Carry, are_issued, more_carry, names_below}
use Rattle.qc_laws.proofs.CidMoves.{Early, Holds, HoldsAt, Once, calm_once}
use Rattle.qc_laws.proofs.CidPackets.{InputIssues, input_leads}
use Rattle.qc_laws.proofs.CidQueues.{AllIssued, Fine, Peers, more_fine}
use Rattle.qc_laws.proofs.IdsFold.{given_append}
use Rattle.qc_laws.proofs.IdsHold.{run_ids}
use Rattle.qc_laws.proofs.StreamsSealed.{frames_append}

-- the ids that inputs gave, one list of them behind another
issued_append : (xs ys : List (Input × TraceStep)) → issued_in (xs ++ ys) ≡ issued_in xs ++ issued_in ys
issued_append [] ys = refl
issued_append (x ∷ xs) ys = ap (λ (cs : List IssuedCid). issued_by x.0 ++ cs) (issued_append xs ys) ∙ sym (append_assoc (issued_by x.0) (issued_in xs) (issued_in ys))

-- one of these ids
abbrev IsOne : List (Input × TraceStep) → IssuedCid → Type 0
IsOne calls c = Contains (issued_in calls) c

one_before : (xs ys : List (Input × TraceStep)) (c : IssuedCid) → IsOne xs c → IsOne (xs ++ ys) c
one_before xs ys c h = subst (λ (cs : List IssuedCid). Contains cs c) (sym (issued_append xs ys)) (Contains-append_left (issued_in xs) (issued_in ys) c h)

all_ones : (more ids : List IssuedCid) → AllIssued (λ c. Contains (more ++ ids) c) ids
all_ones more [] = tt
all_ones more (c ∷ cs) =
    (Contains-append_right more (c ∷ cs) c (0, omega arith, refl), subst (λ (xs : List IssuedCid). AllIssued (λ d. Contains xs d) cs) (append_assoc more (c ∷ []) cs) (all_ones (more ++ c ∷ []) cs))

-- the ids that an input gives are among those that inputs gave up to it
input_issues : {t : Types} (m : Meaning t) (first : List ℕ) (given : List (List ℕ)) (before : List (Input × TraceStep)) (i : Input) (x : TraceStep) → InputIssues m first given (IsOne (before ++ (i, x) ∷ [])) i
input_issues m first given before (input.Identifiers time ids) x =
    subst (λ (cs : List IssuedCid). AllIssued (λ c. Contains cs c) ids) (sym (issued_append before ((input.Identifiers time ids, x) ∷ []) ∙ ap (λ (cs : List IssuedCid). issued_in before ++ cs) (append-nil ids))) (all_ones (issued_in before) ids)
input_issues m first given before _ x = tt

-- the id in use is known with its number
active_known : (K : ℕ → List ℕ → Type 0) (xs : List KeptCid) → Peers K xs → K (active_seq_of xs) (active_of xs)
active_known K [] h = absurd (let some = h.some in omega (arith, some))
active_known K (x ∷ xs) h = h.known.0

-- the first one is known as the one that the peer chose, if it did
first_chosen : (first : List ℕ) (chosen : Option (List ℕ)) → ((cid : List ℕ) → chosen ≡ Some cid → cid ≡ first) → first ≡ chosen_or first chosen
first_chosen first None h = refl
first_chosen first (Some cid) h = sym (h cid refl)

-- so where no Retry was taken
new_chosen : (first : List ℕ) (peer retry : Option (List ℕ)) → retry ≡ None → ((cid : List ℕ) → peer ≡ Some cid → cid ≡ first) → (cid : List ℕ) → first_of peer retry ≡ Some cid → cid ≡ first
new_chosen first None retry none chosen cid e = absurd cc
new_chosen first (Some other) retry none chosen cid e = chosen cid e

-- numbers below one that is greater, and of frames behind others
names_more : (n m : ℕ) (fs : List FrameValue) → n ≤ m → AllNameBelow n fs → AllNameBelow m fs
names_more n m [] le h = tt
names_more n m (frames.RetireConnectionId k ∷ fs) le h = let below : k < n = h.0 in (omega arith, names_more n m fs le h.1)
names_more n m (_ ∷ fs) le h = (tt, names_more n m fs le h.1)

names_append : (n : ℕ) (fs gs : List FrameValue) → AllNameBelow n fs → AllNameBelow n gs → AllNameBelow n (fs ++ gs)
names_append n [] gs h g = g
names_append n (f ∷ fs) gs h g = (h.0, names_append n fs gs h.1 g)

module _ {t : Types} (m : Meaning t) (first : List ℕ) (given : List (List ℕ)) where
  -- what holds of a view holds of one with the same ids, packets in flight, and keys, where more ids are issued
  same_holds : (I J : IssuedCid → Type 0) → ((c : IssuedCid) → I c → J c) → (s s' : View t) → s'.lower.ids ≡ s.lower.ids → s'.lower.recovery ≡ s.lower.recovery → s'.keys ≡ s.keys → s'.paths.peer_cid ≡ s.paths.peer_cid → s'.setup.retry_cid ≡ s.setup.retry_cid → s'.setup.peer ≡ s.setup.peer →
      Holds m first given I s → Holds m first given J s'
  same_holds I J more s s' ids flight keys peer retry known h = record {
    stands = record {
      fine = subst (λ (y : ConnectionIds). Fine (IsPeers first (chosen_in s') s'.setup.peer given) J y) (sym ids)
          (subst (λ (chosen : Option (List ℕ)). Fine (IsPeers first chosen s'.setup.peer given) J s.lower.ids) (λ i. first_of (sym peer i) (sym retry i))
          (subst (λ (parameters : Option TransportParameters). Fine (IsPeers first (chosen_in s) parameters given) J s.lower.ids) (sym known)
          (more_fine (IsPeers first (chosen_in s) s.setup.peer given) (IsPeers first (chosen_in s) s.setup.peer given) I J (λ n id is. is) more s.lower.ids h.stands.fine)));
      flight = λ id.
          subst (λ (y : ConnectionIds). Carry J (active_seq_of y.remote) (recovery.space_of id s'.lower.recovery).flight) (sym ids)
          (subst (λ (r : Recovery). Carry J (active_seq_of s.lower.ids.remote) (recovery.space_of id r).flight) (sym flight)
          (more_carry I J more (active_seq_of s.lower.ids.remote) (recovery.space_of id s.lower.recovery).flight (h.stands.flight id)));
    };
    early = λ none.
        let e : Early m first given I s = h.early (sym peer ∙ none) in
        record {
          handshake = ap (λ (k : KeyGroup t.H t.P). k.handshake) keys ∙ e.handshake;
          one_rtt = ap (λ (k : KeyGroup t.H t.P). k.«data») keys ∙ e.one_rtt;
          only = e.only;
          remote = ap (λ (y : ConnectionIds). y.remote) ids ∙ e.remote;
        };
  }

  -- what a step leaves
  record StepOver (before : List (Input × TraceStep)) (i : Input) (x : TraceStep) (s s' : View t) : Type 0 where
    pub holds : Holds m first given (IsOne (before ++ (i, x) ∷ [])) s'
    pub later : active_seq_of s.lower.ids.remote ≤ active_seq_of s'.lower.ids.remote
    pub told : AreTold (IsOne (before ++ (i, x) ∷ [])) (active_seq_of s'.lower.ids.remote) (frames_sealed x.did)
    pub once : Once s'

  step_over : (k : ℕ) (s : View t) (i : Input) (x : TraceStep) (s' : View t) (before : List (Input × TraceStep)) → IsStep m k s i x s' → ((body : List ℕ) → Contains (given_to_ids x.did) body → Contains given body) →
      Holds m first given (IsOne before) s → Once s → StepOver before i x s s'
  unfolding called began run.step_after reported state_move lower_move keys_move paths_move life_move setup_move events_told streams_stepped ready_reported connected_reported all_heard_reported lost_reported notices_reported drained_reported
  step_over k s i x s' before h gave start once =
      let J : IssuedCid → Type 0 = IsOne (before ++ (i, x) ∷ []) in
      let a : At t = began s (time_of i) in
      let b : At t = input_after m i h.choice a in
      let begins : HoldsAt m first given J a = record { view = same_holds (IsOne before) J (one_before before ((i, x) ∷ [])) s a.state refl refl refl refl refl refl start; sealed = tt } in
      let leads = input_leads m first given J i h.choice a (input_issues m first given before i x) h.allowed (record { client = once.client; server = once.server }) in
      let both = leads.0.holds (subst (λ (ds : List Did). (body : List ℕ) → Contains (given_to_ids ds) body → Contains given body) h.deeds gave) begins in
      let ids : s'.lower.ids ≡ b.state.lower.ids = ap (λ (l : Lower t.S). l.ids) h.lower in
      let same : active_seq_of s'.lower.ids.remote ≡ active_seq_of b.state.lower.ids.remote = ap (λ (y : ConnectionIds). active_seq_of y.remote) ids in
      let later = both.1 in
      record {
        holds = same_holds J J (λ c is. is) b.state s' ids (ap (λ (l : Lower t.S). l.recovery) h.lower) h.keys (ap (λ (p : Paths t.C). p.peer_cid) h.paths) (ap (λ (v : Setup Stream). v.retry_cid) h.setup) (ap (λ (v : Setup Stream). v.peer) h.setup) both.0.view;
        later = omega arith;
        told = subst (λ (n : ℕ). AreTold J n (frames_sealed x.did)) (sym same) (subst (λ (ds : List Did). AreTold J (active_seq_of b.state.lower.ids.remote) (frames_sealed ds)) (sym h.deeds) both.0.sealed);
        once = calm_once b.state s' (record {
          side = ap (λ (v : Setup Stream). v.fixed.side) h.setup;
          known = ap (λ (v : Setup Stream). v.peer) h.setup;
          handshake = λ e. ap is_handshake (sym (ap (λ (v : Life). v.state) h.life)) ∙ e;
          highest = λ e. sym (ap (λ (v : KeyGroup t.H t.P). v.highest) h.keys) ∙ e;
        }) leads.1;
      }

  -- what a run leaves
  pub record RunOver (before : List (Input × TraceStep)) (is : List Input) (xs : List TraceStep) (s s' : View t) : Type 0 where
    pub holds : Holds m first given (IsOne (before ++ with_steps is xs)) s'
    pub later : active_seq_of s.lower.ids.remote ≤ active_seq_of s'.lower.ids.remote
    pub issued : EachIssued before (with_steps is xs)
    pub below : AllNameBelow (active_seq_of s'.lower.ids.remote) (frames_sealed (deeds_of xs))

  pub run_over : (k : ℕ) (s : View t) (is : List Input) (xs : List TraceStep) (s' : View t) (before : List (Input × TraceStep)) → Run m k s is xs s' → ((body : List ℕ) → Contains (given_to_ids (deeds_of xs)) body → Contains given body) →
      Holds m first given (IsOne before) s → Once s → RunOver before is xs s s'
  unfolding Run
  run_over k s [] [] s' before r gave start once =
      subst (λ (v : View t). RunOver before [] [] s v) (sym r)
      (record { holds = same_holds (IsOne before) (IsOne (before ++ [])) (one_before before []) s s refl refl refl refl refl refl start; later = omega arith; issued = tt; below = tt })
  run_over k s (i ∷ is) (x ∷ xs) s' before r gave start once =
      let call : Input × TraceStep = (i, x) in
      let front : (body : List ℕ) → Contains (given_to_ids x.did) body → Contains given body =
      λ body among. gave body (subst (λ (l : List (List ℕ)). Contains l body) (sym (given_append x.did (deeds_of xs))) (Contains-append_left (given_to_ids x.did) (given_to_ids (deeds_of xs)) body among)) in
      let behind : (body : List ℕ) → Contains (given_to_ids (deeds_of xs)) body → Contains given body =
      λ body among. gave body (subst (λ (l : List (List ℕ)). Contains l body) (sym (given_append x.did (deeds_of xs))) (Contains-append_right (given_to_ids x.did) (given_to_ids (deeds_of xs)) body among)) in
      let one : StepOver before i x s r.0 = step_over k s i x r.0 before r.1 front start once in
      let more : RunOver (before ++ call ∷ []) is xs r.0 s' = run_over (k + 1) r.0 is xs s' (before ++ call ∷ []) r.2 behind one.holds one.once in
      let n : ℕ = active_seq_of r.0.lower.ids.remote in
      let last : ℕ = active_seq_of s'.lower.ids.remote in
      let first_later = one.later in
      let second_later = more.later in
      record {
        holds = subst (λ (calls : List (Input × TraceStep)). Holds m first given (IsOne calls) s') (append_assoc before (call ∷ []) (with_steps is xs)) more.holds;
        later = omega arith;
        issued = (are_issued (issued_in (before ++ call ∷ [])) n (frames_sealed x.did) one.told, more.issued);
        below = subst (λ (fs : List FrameValue). AllNameBelow last fs) (sym (frames_append x.did (deeds_of xs)))
            (names_append last (frames_sealed x.did) (frames_sealed (deeds_of xs)) (names_more n last (frames_sealed x.did) more.later (names_below (IsOne (before ++ call ∷ [])) n (frames_sealed x.did) one.told)) more.below);
      }
  run_over k s [] (x ∷ xs) s' before r gave start once = absurd r
  run_over k s (i ∷ is) [] s' before r gave start once = absurd r

module _ {t : Types} (m : Meaning t) where
  -- what holds of new ids
  new_holds : (s : View t) (given : List (List ℕ)) (I : IssuedCid → Type 0) → HasNewIds s → Holds m s.paths.current.remote_cid given I s
  unfolding first_ids
  new_holds s given I new =
      let remote : List ℕ = s.paths.current.remote_cid in
      record {
        stands = record {
          fine = subst (λ (y : ConnectionIds). Fine (IsPeers remote (chosen_in s) s.setup.peer given) I y) (sym new.ids)
              (record { peers = record { some = omega arith; grows = (omega arith, tt); known = (Chosen refl (first_chosen remote (chosen_in s) (new_chosen remote s.paths.peer_cid s.setup.retry_cid new.retry new.chosen)), tt) }; below = tt; told = tt });
          flight = λ id. subst (λ (es : List Entry). Carry I (active_seq_of s.lower.ids.remote) es) (sym (new.flight id)) tt;
        };
        early = λ none. record { handshake = new.handshake; one_rtt = new.one_rtt; only = remote; remote = ap (λ (y : ConnectionIds). y.remote) new.ids };
      }

  new_used : (s : View t) → HasNewIds s → CarriesUsed s
  unfolding first_ids
  new_used s new =
      let same : s.lower.ids.remote ≡ first_cid s.paths.current.remote_cid = ap (λ (y : ConnectionIds). y.remote) new.ids in
      record { some = subst (λ (xs : List KeptCid). 0 < length xs) (sym same) (omega arith); used = ap active_of (sym same) }

  run_holds : (k : ℕ) (s : View t) (is : List Input) (xs : List TraceStep) (s' : View t) → Run m k s is xs s' → HasNewIds s → RunOver m s.paths.current.remote_cid (given_to_ids (deeds_of xs)) [] is xs s s'
  run_holds k s is xs s' r new =
      let given : List (List ℕ) = given_to_ids (deeds_of xs) in
      run_over m s.paths.current.remote_cid given k s is xs s' [] r (λ body among. among) (new_holds s given (IsOne []) new) (record { client = λ side e. new.parameters; server = λ side e. new.parameters })

  -- the id that packets carry is known, and has the number in use
  pub run_used : (k : ℕ) (s : View t) (is : List Input) (xs : List TraceStep) (s' : View t) → Run m k s is xs s' → HasNewIds s →
      IsPeers s.paths.current.remote_cid (chosen_in s') s'.setup.peer (given_to_ids (deeds_of xs)) (active_seq_of s'.lower.ids.remote) s'.paths.current.remote_cid
  run_used k s is xs s' r new =
      let known : IsPeers s.paths.current.remote_cid (chosen_in s') s'.setup.peer (given_to_ids (deeds_of xs)) (active_seq_of s'.lower.ids.remote) (active_of s'.lower.ids.remote) =
      active_known (IsPeers s.paths.current.remote_cid (chosen_in s') s'.setup.peer (given_to_ids (deeds_of xs))) s'.lower.ids.remote (run_holds k s is xs s' r new).holds.stands.fine.peers in
      subst (λ (id : List ℕ). IsPeers s.paths.current.remote_cid (chosen_in s') s'.setup.peer (given_to_ids (deeds_of xs)) (active_seq_of s'.lower.ids.remote) id)
      (sym ((run_ids m k s is xs s' r).carried (new_used s new)).used) known

  pub run_retires : (k : ℕ) (s : View t) (is : List Input) (xs : List TraceStep) (s' : View t) → Run m k s is xs s' → HasNewIds s → AllNameBelow (active_seq_of s'.lower.ids.remote) (frames_sealed (deeds_of xs))
  run_retires k s is xs s' r new = (run_holds k s is xs s' r new).below

  pub run_tells_issued : (k : ℕ) (s : View t) (is : List Input) (xs : List TraceStep) (s' : View t) → Run m k s is xs s' → HasNewIds s → TellsIssued is xs
  unfolding TellsIssued
  run_tells_issued k s is xs s' r new = (run_holds k s is xs s' r new).issued

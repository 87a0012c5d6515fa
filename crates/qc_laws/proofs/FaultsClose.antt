-- Over a run an open connection ends right behind each packet that shows a fault of its sender's, and behind a list of versions without this end's.
use Rattle.std.proofs.Common.{◌≡◌, ℕ, ◌+◌, ◌<◌, List, [], ◌∷◌, ◌++◌, refl, ap, sym, ◌∙◌, subst, Bool, true, false, Option, None, Some, IfSome, if◌then◌else◌, append_assoc, append-nil, arith}
use Rattle.qc_base.specs.declared.side.Side.TheVariants.{Client}
use Rattle.qc_base.specs.declared.side.SpaceId.{SpaceId}
use Rattle.qc_base.specs.declared.side.SpaceId.TheVariants.{Initial}
use Rattle.qc_base.specs.declared.transport_error.TransportError.{TransportError}
use Rattle.qc_state.specs.declared.coming.Coming.{Coming}
use Rattle.qc_state.specs.declared.deeds.Did.{Did}
use Rattle.qc_state.specs.declared.deeds.Did.TheVariants as did
use Rattle.qc_state.specs.declared.deeds.Verdict.{Verdict}
use Rattle.qc_state.specs.declared.deeds.Verdict.TheVariants as verdict
use Rattle.qc_state.specs.declared.input.Input.{Input}
use Rattle.qc_state.specs.declared.input.Input.TheVariants as input
use Rattle.qc_state.specs.declared.keys.SpaceKeys.{SpaceKeys}
use Rattle.qc_state.specs.declared.life.ConnectionError.TheVariants as lost
use Rattle.qc_state.specs.declared.life.Life.{Life}
use Rattle.qc_state.specs.declared.life.State.{State}
use Rattle.qc_state.specs.declared.life.State.TheVariants as state
use Rattle.qc_state.specs.declared.trace.Step.{Step}
use Rattle.qc_state.specs.Headline.{Kernel, Tells, deeds_of, kernel_after}
use Rattle.qc_state.specs.Keys.{new_keys}
use Rattle.qc_state.specs.Life.{all_heard_reported, connected_reported, drained_reported, is_open, lost_reported, notices_reported, rank_of, ready_reported}
use Rattle.qc_state.specs.Moves.{Accept, Arm, Enter, Fix, Give, MayMove, Move, PeerCloses, Renew, Shut, Tell, armed_after, armed_with, deeds_move, enters, is_unanswered, life_move, move_to, state_move}
use Rattle.qc_state.specs.Paths.{is_blocked}
use Rattle.qc_state.specs.Receiving.{datagram_after, left_after, piece_told, renewed_after}
use Rattle.qc_state.specs.Recovering.{loss_time}
use Rattle.qc_state.specs.Run.{IsAllowed, IsStep, Run, began, called, input_after, reported, step_after, time_of}
use Rattle.qc_state.specs.Sending.{Choice}
use Rattle.qc_state.specs.Spaces.{is_space}
use Rattle.qc_state.specs.Stopping.{given_after, stopped_after}
use Rattle.qc_state.specs.Types.{Types, Meaning}
use Rattle.qc_state.specs.View.{View, At}
use Rattle.qc_state.proofs.Ends.{given_by}
use Rattle.qc_state.proofs.OpenPackets.{holds_packet}
use Rattle.qc_state.proofs.PacketMoves.{IsInPacket, IsToldOf, OpenPacket}
use Rattle.qc_state.proofs.ReceivedMoves.{close_for}
use Rattle.qc_state.proofs.Telling.{kernel, move_tells, open_rank, told_appends}
use Rattle.qc_laws.specs.PieceLaws.{pieces_in}
use Rattle.qc_laws.specs.ReasonLaws.{EndsBehind, RisesFirst, rank_behind, rises_behind}
use Rattle.qc_laws.proofs.Inputs.{IsOwn, holds_own}
use Rattle.qc_laws.proofs.Receives.{IsAround, IsShunned, IsShutBy, datagram_around}
use Rattle.qc_laws.proofs.RetriesHold.{IsPlain, plain_deeds}

-- ---- deeds

-- they tell of no packet that shows a fault
abbrev AreFaultless : List Did → Type 0
AreFaultless [] = Unit {0}
AreFaultless (did.Piece space number v ∷ ds) = (rises_behind v ≡ None) × AreFaultless ds
AreFaultless (_ ∷ ds) = AreFaultless ds

unpieced_faultless : (ds : List Did) → pieces_in ds ≡ [] → AreFaultless ds
unpieced_faultless [] h = tt
unpieced_faultless (did.Piece space number v ∷ ds) h = absurd cc
unpieced_faultless (did.Gave to body ∷ ds) h = unpieced_faultless ds h
unpieced_faultless (did.Sealed space n epoch early fs ∷ ds) h = unpieced_faultless ds h
unpieced_faultless (did.Rose life ∷ ds) h = unpieced_faultless ds h
unpieced_faultless (did.Lost why ∷ ds) h = unpieced_faultless ds h
unpieced_faultless (did.Quiet why ∷ ds) h = unpieced_faultless ds h

faultless_closes : (rank : ℕ) (ds : List Did) → AreFaultless ds → EndsBehind rank ds
faultless_closes rank [] h = tt
faultless_closes rank (did.Piece space number v ∷ ds) h = ((λ low. subst (λ (o : Option ℕ). IfSome o (λ life. RisesFirst life ds)) (sym h.0) tt), faultless_closes rank ds h.1)
faultless_closes rank (did.Gave to body ∷ ds) h = faultless_closes rank ds h
faultless_closes rank (did.Sealed space n epoch early fs ∷ ds) h = faultless_closes rank ds h
faultless_closes rank (did.Rose life ∷ ds) h = faultless_closes life ds h
faultless_closes rank (did.Lost why ∷ ds) h = faultless_closes rank ds h
faultless_closes rank (did.Quiet why ∷ ds) h = faultless_closes rank ds h

first_append : (rank : ℕ) (xs ys : List Did) → RisesFirst rank xs → RisesFirst rank (xs ++ ys)
first_append rank [] ys h = absurd h
first_append rank (did.Rose life ∷ xs) ys h = h
first_append rank (did.Piece space number v ∷ xs) ys h = absurd h
first_append rank (did.Gave to body ∷ xs) ys h = absurd h
first_append rank (did.Sealed space n epoch early fs ∷ xs) ys h = absurd h
first_append rank (did.Lost why ∷ xs) ys h = absurd h
first_append rank (did.Quiet why ∷ xs) ys h = absurd h

some_append : (o : Option ℕ) (xs ys : List Did) → IfSome o (λ life. RisesFirst life xs) → IfSome o (λ life. RisesFirst life (xs ++ ys))
some_append None xs ys h = tt
some_append (Some life) xs ys h = first_append life xs ys h

rank_append : (rank : ℕ) (xs ys : List Did) → rank_behind rank (xs ++ ys) ≡ rank_behind (rank_behind rank xs) ys
rank_append rank [] ys = refl
rank_append rank (did.Rose life ∷ xs) ys = rank_append life xs ys
rank_append rank (did.Piece space number v ∷ xs) ys = rank_append rank xs ys
rank_append rank (did.Gave to body ∷ xs) ys = rank_append rank xs ys
rank_append rank (did.Sealed space n epoch early fs ∷ xs) ys = rank_append rank xs ys
rank_append rank (did.Lost why ∷ xs) ys = rank_append rank xs ys
rank_append rank (did.Quiet why ∷ xs) ys = rank_append rank xs ys

closes_append : (rank : ℕ) (xs ys : List Did) → EndsBehind rank xs → EndsBehind (rank_behind rank xs) ys → EndsBehind rank (xs ++ ys)
closes_append rank [] ys h g = g
closes_append rank (did.Piece space number v ∷ xs) ys h g = ((λ low. some_append (rises_behind v) xs ys (h.0 low)), closes_append rank xs ys h.1 g)
closes_append rank (did.Rose life ∷ xs) ys h g = closes_append life xs ys h g
closes_append rank (did.Gave to body ∷ xs) ys h g = closes_append rank xs ys h g
closes_append rank (did.Sealed space n epoch early fs ∷ xs) ys h g = closes_append rank xs ys h g
closes_append rank (did.Lost why ∷ xs) ys h g = closes_append rank xs ys h g
closes_append rank (did.Quiet why ∷ xs) ys h g = closes_append rank xs ys h g

entered_faultless : (v : Verdict) → enters v ≡ true → rises_behind v ≡ None
entered_faultless verdict.BadBits h = absurd cc
entered_faultless verdict.BadUpdate h = absurd cc
entered_faultless verdict.Versions h = absurd cc
entered_faultless _ h = refl

shunned_faultless : (d : Did) → IsShunned d → AreFaultless (d ∷ [])
shunned_faultless (did.Piece space number verdict.Ignored) h = (refl, tt)
shunned_faultless (did.Piece space number verdict.Failure) h = (refl, tt)
shunned_faultless _ h = absurd h

-- ---- the life

sealed_rank : (k : Kernel) (n : ℕ) (b : Bool) → (if b then record k { next = n + 1 } else k).rank ≡ k.rank
sealed_rank k n true = refl
sealed_rank k n false = refl

-- the rank behind deeds that come where they may
tells_last : (id : SpaceId) (k k' : Kernel) (ds : List Did) → Tells id k ds k' → rank_behind k.rank ds ≡ k'.rank
unfolding Tells
tells_last id k k' [] h = sym h.rank
tells_last id k k' (did.Sealed space n epoch early fs ∷ ds) h =
    ap (λ (r : ℕ). rank_behind r ds) (sym (sealed_rank k n (is_space id space))) ∙ tells_last id (kernel_after id k (did.Sealed space n epoch early fs)) k' ds h.1
tells_last id k k' (did.Piece space number v ∷ ds) h = tells_last id (kernel_after id k (did.Piece space number v)) k' ds h.1
tells_last id k k' (did.Gave to body ∷ ds) h = tells_last id k k' ds h.1
tells_last id k k' (did.Rose life ∷ ds) h = tells_last id (kernel_after id k (did.Rose life)) k' ds h.1
tells_last id k k' (did.Lost why ∷ ds) h = tells_last id (kernel_after id k (did.Lost why)) k' ds h.1
tells_last id k k' (did.Quiet why ∷ ds) h = tells_last id k k' ds h.1

closed_rank : (s : State) → is_open s ≡ false → rank_of s < 2 → ⊥
closed_rank state.Handshake h low = absurd cc
closed_rank state.Established h low = absurd cc
closed_rank state.Closed h low = omega (arith, low)
closed_rank state.Draining h low = omega (arith, low)
closed_rank state.Drained h low = omega (arith, low)

module _ {t : Types} where
  told_faultless : (o : OpenPacket) (d : Did) (s : View t) → IsToldOf o d s → AreFaultless (d ∷ [])
  told_faultless o (did.Gave to body) s h = tt
  told_faultless o (did.Piece space number v) s h = (ap rises_behind h.2, tt)
  told_faultless o _ s h = absurd h

  -- ---- from one moment to another

  record Closes (a b : At t) : Type 0 where
    pub since : List Did
    pub appended : b.did ≡ a.did ++ since
    pub rank : rank_behind (rank_of a.state.life.state) since ≡ rank_of b.state.life.state
    pub closes : EndsBehind (rank_of a.state.life.state) since

  closes_here : (a : At t) → Closes a a
  closes_here a = record { since = []; appended = sym (append-nil a.did); rank = refl; closes = tt }

  closes_next : (a b c : At t) → Closes a b → Closes b c → Closes a c
  closes_next a b c g h =
      let from : ℕ = rank_of a.state.life.state in
      record {
        since = g.since ++ h.since;
        appended = h.appended ∙ ap (λ (x : List Did). x ++ h.since) g.appended ∙ append_assoc a.did g.since h.since;
        rank = rank_append from g.since h.since ∙ ap (λ (r : ℕ). rank_behind r h.since) g.rank ∙ h.rank;
        closes = closes_append from g.since h.since g.closes (subst (λ (r : ℕ). EndsBehind r h.since) (sym g.rank) h.closes);
      }

  faultless_move : (x : Move t) (a : At t) → AreFaultless (deeds_move x a.state) → MayMove x a.state → Closes a (move_to x a)
  unfolding move_to
  faultless_move x a faultless may =
      let rank : rank_behind (rank_of a.state.life.state) (deeds_move x a.state) ≡ rank_of (state_move x a.state).life.state =
      tells_last Initial (kernel Initial a.state) (kernel Initial (state_move x a.state)) (deeds_move x a.state) (move_tells Initial x a.state may) in
      record { since = deeds_move x a.state; appended = told_appends a.did (deeds_move x a.state); rank = rank; closes = faultless_closes (rank_of a.state.life.state) (deeds_move x a.state) faultless }

  plain_move : (x : Move t) (a : At t) → IsPlain x → MayMove x a.state → Closes a (move_to x a)
  plain_move x a plain may = faultless_move x a (unpieced_faultless (deeds_move x a.state) (plain_deeds x a.state plain)) may

  tell_move : (d : Did) (a : At t) → AreFaultless (d ∷ []) → MayMove (Tell d) a.state → Closes a (move_to (Tell d) a)
  unfolding deeds_move
  tell_move d a faultless may = faultless_move (Tell d) a faultless may

  around_move : (time : ℕ) (x : Move t) (a : At t) → IsAround time x a.state → MayMove x a.state → Closes a (move_to x a)
  around_move time (Fix cid) a h may = absurd h
  around_move time (Accept at id n e g v) a h may = absurd h
  around_move time (Enter id n v) a h may = absurd h
  around_move time (Renew at cid token keys) a h may = absurd h
  around_move time (Tell d) a h may = tell_move d a (shunned_faultless d h) may
  around_move time x a h may = plain_move x a tt may

  packet_move : (m : Meaning t) (o : OpenPacket) (x : Move t) (a : At t) → IsInPacket m o x a.state → MayMove x a.state → Closes a (move_to x a)
  unfolding deeds_move MayMove
  packet_move m o (Fix cid) a h may = faultless_move (Fix cid) a tt may
  packet_move m o (Accept time id n e g v) a h may = faultless_move (Accept time id n e g v) a (entered_faultless v may.1, tt) may
  packet_move m o (Enter id n v) a h may = faultless_move (Enter id n v) a (entered_faultless v may.1, tt) may
  packet_move m o (Renew time cid token keys) a h may = absurd h
  packet_move m o (Tell d) a h may = tell_move d a (told_faultless o d a.state h) may
  packet_move m o x a h may = plain_move x a tt may

  own_move : (x : Move t) → IsOwn x → (a : At t) → MayMove x a.state → Closes a (move_to x a)
  own_move (Fix cid) r a may = absurd r
  own_move (Accept time id n e g v) r a may = absurd r
  own_move (Enter id n v) r a may = absurd r
  own_move (Renew time cid token keys) r a may = absurd r
  own_move (Tell d) r a may = absurd r
  own_move x r a may = plain_move x a tt may

  -- a Retry is taken
  retry_closes : (m : Meaning t) (time : ℕ) (cid token : List ℕ) (a : At t) → is_unanswered a.state ≡ true → Closes a (renewed_after m time cid token a)
  unfolding renewed_after armed_after armed_with deeds_move MayMove
  retry_closes m time cid token a unanswered =
      let keys : SpaceKeys t.H t.P = new_keys m.seal_limit m.failure_limit (m.initial a.state.lower.session cid Client) in
      let b : At t = move_to (Renew time cid token keys) a in
      closes_next a b _ (faultless_move (Renew time cid token keys) a (refl, tt) unanswered)
      (plain_move (Arm (loss_time b.state (is_blocked b.state.paths) time)) b tt (record { blocked = is_blocked b.state.paths; time = time; set = refl }))

  -- ---- this end closes for what a packet shows

  -- the deeds behind what tells of it
  record Behind (rank : ℕ) (a b : At t) : Type 0 where
    pub is : Closes a b
    pub first : rank_of a.state.life.state < 2 → RisesFirst rank is.since

  shut_by : (time : ℕ) (error : TransportError) (a : At t) (b : Bool) → is_open a.state.life.state ≡ b → Behind 2 a (if b then given_after (lost.TransportError error) (move_to (Shut time (close_for error)) a) else a)
  unfolding deeds_move MayMove closes_next plain_move faultless_move
  shut_by time error a true opened =
      let shut : Move t = Shut time (close_for error) in
      let c : At t = move_to shut a in
      record {
        is = closes_next a c _ (plain_move shut a tt (open_rank a.state.life.state opened)) (given_by Closes closes_here closes_next (lost.TransportError error) c (λ none. plain_move (Give (lost.TransportError error)) c tt none));
        first = λ low. refl;
      }
  shut_by time error a false opened = record { is = closes_here a; first = λ low. absurd (closed_rank a.state.life.state opened low) }

  -- what tells of the packet, and these behind it
  behind_tells : (rank : ℕ) (space : Option SpaceId) (number : Option ℕ) (v : Verdict) (a c : At t) → rises_behind v ≡ Some rank → Behind rank (move_to (Tell (did.Piece space number v)) a) c → Closes a c
  unfolding move_to deeds_move state_move life_move
  behind_tells rank space number v a c ends behind = record {
    since = did.Piece space number v ∷ behind.is.since;
    appended = behind.is.appended ∙ append_assoc a.did (did.Piece space number v ∷ []) behind.is.since;
    rank = behind.is.rank;
    closes = ((λ low. subst (λ (o : Option ℕ). IfSome o (λ life. RisesFirst life behind.is.since)) (sym ends) (behind.first low)), behind.is.closes);
  }

  shut_closes : (time : ℕ) (error : TransportError) (a : At t) (space : Option SpaceId) (number : ℕ) (v : Verdict) → rises_behind v ≡ Some 2 → Closes a (stopped_after time error (move_to (Tell (did.Piece space (Some number) v)) a))
  unfolding stopped_after
  shut_closes time error a space number v ends =
      let b : At t = move_to (Tell (did.Piece space (Some number) v)) a in
      behind_tells 2 space (Some number) v a _ ends (shut_by time error b (is_open b.state.life.state) refl)

  shut_for : (time : ℕ) (space : Option SpaceId) (number : ℕ) (v : Verdict) (error : TransportError) (a : At t) → IsShutBy v error → Closes a (stopped_after time error (move_to (Tell (did.Piece space (Some number) v)) a))
  shut_for time space number verdict.BadBits error a is = shut_closes time error a space number verdict.BadBits refl
  shut_for time space number verdict.BadUpdate error a is = shut_closes time error a space number verdict.BadUpdate refl
  shut_for time space number _ error a is = absurd is

  -- a list of versions without this end's
  left_behind : (time : ℕ) (a : At t) (b : Bool) → is_open a.state.life.state ≡ b → Behind 3 a (if b then given_after lost.VersionMismatch (move_to (PeerCloses time) a) else a)
  unfolding deeds_move MayMove closes_next plain_move faultless_move
  left_behind time a true opened =
      let c : At t = move_to (PeerCloses time) a in
      let low : rank_of a.state.life.state < 2 = open_rank a.state.life.state opened in
      record {
        is = closes_next a c _ (plain_move (PeerCloses time) a tt (omega (arith, low))) (given_by Closes closes_here closes_next lost.VersionMismatch c (λ none. plain_move (Give lost.VersionMismatch) c tt none));
        first = λ low. refl;
      }
  left_behind time a false opened = record { is = closes_here a; first = λ low. absurd (closed_rank a.state.life.state opened low) }

  versions_close : (time : ℕ) (a : At t) → Closes a (left_after time lost.VersionMismatch (piece_told None None verdict.Versions a))
  unfolding left_after
  versions_close time a =
      let b : At t = move_to (Tell (did.Piece None None verdict.Versions)) a in
      behind_tells 3 None None verdict.Versions a _ refl (left_behind time b (is_open b.state.life.state) refl)

  -- ---- inputs

  datagram_closes : (m : Meaning t) (coming : Coming) (bytes : List ℕ) (a : At t) → Closes a (datagram_after m coming bytes a)
  datagram_closes m coming bytes a =
      datagram_around m coming (λ p. Unit {0}) Closes closes_here closes_next (λ x b h may. around_move coming.time x b h may) (λ space number v error b is. shut_for coming.time space number v error b is)
      (λ cid token b r. retry_closes m coming.time cid token b r.unanswered) (λ b r. versions_close coming.time b)
      (λ p comes o b opened. holds_packet m o Closes closes_here closes_next (λ x c h may. packet_move m o x c h may) b opened.lively) bytes a (λ p among. tt)

  input_closes : (m : Meaning t) (i : Input) (choice : Choice) (a : At t) → IsAllowed m i choice a → Closes a (input_after m i choice a)
  unfolding input_after
  input_closes m (input.Datagram time remote ecn bytes) choice a may = datagram_closes m (record { time = time; remote = remote; mark = ecn }) bytes a
  input_closes m i choice a may = holds_own Closes closes_here closes_next (λ x r b may_be. own_move x r b may_be) m i choice a refl may

  -- ---- steps and runs

  step_closes : (m : Meaning t) (k : ℕ) (s : View t) (i : Input) (x : Step) (s' : View t) → IsStep m k s i x s' → (rank_behind (rank_of s.life.state) x.did ≡ rank_of s'.life.state) × EndsBehind (rank_of s.life.state) x.did
  unfolding called began step_after reported state_move life_move ready_reported connected_reported all_heard_reported lost_reported notices_reported drained_reported
  step_closes m k s i x s' h =
      let a : At t = began s (time_of i) in
      let g : Closes a (input_after m i h.choice a) = input_closes m i h.choice a h.allowed in
      let deeds : g.since ≡ x.did = sym (h.deeds ∙ g.appended) in
      let life : rank_of (input_after m i h.choice a).state.life.state ≡ rank_of s'.life.state = sym (ap (λ (l : Life). rank_of l.state) h.life) in
      (subst (λ (ds : List Did). rank_behind (rank_of s.life.state) ds ≡ rank_of s'.life.state) deeds (g.rank ∙ life), subst (λ (ds : List Did). EndsBehind (rank_of s.life.state) ds) deeds g.closes)

  pub run_faults_close : (m : Meaning t) (k : ℕ) (s : View t) (is : List Input) (xs : List Step) (s' : View t) → Run m k s is xs s' → EndsBehind (rank_of s.life.state) (deeds_of xs)
  unfolding Run
  run_faults_close m k s [] [] s' r = tt
  run_faults_close m k s (i ∷ is) (x ∷ xs) s' r =
      let g = step_closes m k s i x r.0 r.1 in
      closes_append (rank_of s.life.state) x.did (deeds_of xs) g.1 (subst (λ (n : ℕ). EndsBehind n (deeds_of xs)) (sym g.0) (run_faults_close m (k + 1) r.0 is xs s' r.2))
  run_faults_close m k s [] (x ∷ xs) s' r = absurd r
  run_faults_close m k s (i ∷ is) [] s' r = absurd r

-- Over a run the reason VersionMismatch is given only behind a list of versions that lacks this end's.
use Rattle.std.proofs.Common.{◌≡◌, ◌≢◌, ℕ, ◌+◌, ◌⊎◌, inl, inr, List, [], ◌∷◌, ◌++◌, refl, ap, sym, ◌∙◌, subst, Bool, true, false, Option, None, Some, if◌then◌else◌, append_assoc, append-nil}
use Rattle.qc_base.specs.declared.side.Side.TheVariants.{Client}
use Rattle.qc_base.specs.declared.side.SpaceId.{SpaceId}
use Rattle.qc_base.specs.declared.transport_error.TransportError.{TransportError}
use Rattle.qc_frame.specs.Frame.{FrameValue}
use Rattle.qc_frame.specs.declared.frames.FrameOf.TheVariants as frames
use Rattle.qc_state.specs.declared.coming.Coming.{Coming}
use Rattle.qc_state.specs.declared.deeds.Did.{Did}
use Rattle.qc_state.specs.declared.deeds.Did.TheVariants as did
use Rattle.qc_state.specs.declared.deeds.Verdict.{Verdict}
use Rattle.qc_state.specs.declared.deeds.Verdict.TheVariants as verdict
use Rattle.qc_state.specs.declared.input.Input.{Input}
use Rattle.qc_state.specs.declared.input.Input.TheVariants as input
use Rattle.qc_state.specs.declared.life.ConnectionError.{ConnectionError}
use Rattle.qc_state.specs.declared.life.ConnectionError.TheVariants as lost
use Rattle.qc_state.specs.declared.trace.Step.{Step}
use Rattle.qc_state.specs.Keys.{new_keys}
use Rattle.qc_state.specs.Life.{is_open}
use Rattle.qc_state.specs.Moves.{Arm, Give, Hand, Move, PeerCloses, Renew, Shut, Tell, armed_after, armed_with, deeds_move, move_to}
use Rattle.qc_state.specs.Paths.{is_blocked}
use Rattle.qc_state.specs.Receiving.{datagram_after, left_after, piece_told, reason_of, renewed_after}
use Rattle.qc_state.specs.Recovering.{loss_time}
use Rattle.qc_state.specs.Run.{IsAllowed, IsStep, Ran, Run, began, called, input_after, time_of}
use Rattle.qc_state.specs.Sending.{Choice, internal_error}
use Rattle.qc_state.specs.Stopping.{given_after, key_limit_error, stopped_after, violation_at}
use Rattle.qc_state.specs.Types.{Types, Meaning}
use Rattle.qc_state.specs.View.{View, At}
use Rattle.qc_state.proofs.Ends.{given_by, stopped_by}
use Rattle.qc_state.proofs.OpenPackets.{holds_packet}
use Rattle.qc_state.proofs.PacketMoves.{IsErrorFor, IsGivenFor, IsInPacket, IsToldOf, OpenPacket, Stops}
use Rattle.qc_state.proofs.ReceivedMoves.{close_for}
use Rattle.qc_state.proofs.Telling.{told_appends}
use Rattle.qc_state.proofs.Transmitted.{IsSendingReason}
use Rattle.qc_laws.specs.RetryLaws.{EachMismatch, MismatchesBehind, is_versions}
use Rattle.qc_laws.proofs.Inputs.{IsOwn, holds_own}
use Rattle.qc_laws.proofs.Receives.{IsAround, IsShunned, datagram_around}
use Rattle.qc_laws.proofs.StreamCalls.{handed_told}

-- ---- other reasons

transport_other : (why : ConnectionError) (error : TransportError) → why ≡ lost.TransportError error → why ≢ lost.VersionMismatch
transport_other why error is same = let no : lost.TransportError error ≡ lost.VersionMismatch = sym is ∙ same in absurd cc

sending_other : (why : ConnectionError) → IsSendingReason why → why ≢ lost.VersionMismatch
sending_other why (inl is) same = transport_other why key_limit_error is same
sending_other why (inr (inl is)) same = let no : internal_error ≡ lost.VersionMismatch = sym is ∙ same in absurd cc
sending_other why (inr (inr is)) same = transport_other why (violation_at None) is same

own_other : (why : ConnectionError) → (why ≡ lost.TimedOut) ⊎ IsSendingReason why → why ≢ lost.VersionMismatch
own_other why (inl is) same = let no : lost.TimedOut ≡ lost.VersionMismatch = sym is ∙ same in absurd cc
own_other why (inr known) same = sending_other why known same

-- a close of the peer's gives another reason
closed_other : (f : FrameValue) (why : ConnectionError) → reason_of f ≡ Some why → why ≢ lost.VersionMismatch
closed_other (frames.ConnectionClose code type reason) why is same = let no : reason_of (frames.ConnectionClose code type reason) ≡ Some lost.VersionMismatch = is ∙ ap (λ (w : ConnectionError). Some w) same in absurd cc
closed_other (frames.ApplicationClose code reason) why is same = let no : reason_of (frames.ApplicationClose code reason) ≡ Some lost.VersionMismatch = is ∙ ap (λ (w : ConnectionError). Some w) same in absurd cc
closed_other _ why is same = absurd cc

-- no steps tell of one
pub none_mismatches : (xs : List Step) → xs ≡ [] → EachMismatch xs
none_mismatches xs empty = subst (λ (l : List Step). EachMismatch l) (sym empty) tt

-- ---- deeds

behind_append : (now : Bool) (xs ys : List Did) → MismatchesBehind now xs → ((later : Bool) → MismatchesBehind later ys) → MismatchesBehind now (xs ++ ys)
behind_append now [] ys h g = g now
behind_append now (did.Piece space number v ∷ xs) ys h g = behind_append (is_versions v) xs ys h g
behind_append now (did.Lost why ∷ xs) ys h g = (h.0, behind_append now xs ys h.1 g)
behind_append now (did.Gave to body ∷ xs) ys h g = behind_append now xs ys h g
behind_append now (did.Sealed space n epoch early fs ∷ xs) ys h g = behind_append now xs ys h g
behind_append now (did.Rose life ∷ xs) ys h g = behind_append now xs ys h g
behind_append now (did.Quiet why ∷ xs) ys h g = behind_append now xs ys h g

-- what is told by itself gives no such reason
abbrev IsFineDeed : Did → Type 0
IsFineDeed d = (now : Bool) → MismatchesBehind now (d ∷ [])

shunned_fine : (d : Did) → IsShunned d → IsFineDeed d
shunned_fine (did.Piece space number v) h now = tt
shunned_fine _ h now = absurd h

-- a move gives no such reason
abbrev IsFine : {t : Types} → Move t → Type 0
IsFine (Give why) = why ≢ lost.VersionMismatch
IsFine (Tell d) = IsFineDeed d
IsFine _ = Unit {0}

module _ {t : Types} where
  told_fine : (o : OpenPacket) (d : Did) (s : View t) → IsToldOf o d s → IsFineDeed d
  told_fine o (did.Gave to body) s h now = tt
  told_fine o (did.Piece space number v) s h now = tt
  told_fine o _ s h now = absurd h

  fine_deeds : (x : Move t) (s : View t) → IsFine x → (now : Bool) → MismatchesBehind now (deeds_move x s)
  unfolding deeds_move
  fine_deeds (Give why) s fine now = (λ same. absurd (fine same), tt)
  fine_deeds (Tell d) s fine now = fine now
  fine_deeds (Hand frame) s fine now = handed_told (λ ds. MismatchesBehind now ds) frame tt (λ body. tt)
  fine_deeds _ s fine now = tt

  -- ---- from one moment to another

  record Tells (a b : At t) : Type 0 where
    pub since : List Did
    pub appended : b.did ≡ a.did ++ since
    pub behind : (now : Bool) → MismatchesBehind now since

  tells_here : (a : At t) → Tells a a
  tells_here a = record { since = []; appended = sym (append-nil a.did); behind = λ now. tt }

  tells_next : (a b c : At t) → Tells a b → Tells b c → Tells a c
  tells_next a b c g h = record {
    since = g.since ++ h.since;
    appended = h.appended ∙ ap (λ (x : List Did). x ++ h.since) g.appended ∙ append_assoc a.did g.since h.since;
    behind = λ now. behind_append now g.since h.since (g.behind now) h.behind;
  }

  fine_move : (x : Move t) (a : At t) → IsFine x → Tells a (move_to x a)
  unfolding move_to
  fine_move x a fine = record { since = deeds_move x a.state; appended = told_appends a.did (deeds_move x a.state); behind = λ now. fine_deeds x a.state fine now }

  -- a Retry is taken
  retry_tells : (m : Meaning t) (time : ℕ) (cid token : List ℕ) (a : At t) → Tells a (renewed_after m time cid token a)
  unfolding renewed_after armed_after armed_with
  retry_tells m time cid token a =
      let renew : Move t = Renew time cid token (new_keys m.seal_limit m.failure_limit (m.initial a.state.lower.session cid Client)) in
      let b : At t = move_to renew a in
      tells_next a b _ (fine_move renew a tt) (fine_move (Arm (loss_time b.state (is_blocked b.state.paths) time)) b tt)

  -- this end closes for what a packet shows
  shut_tells : (time : ℕ) (space : Option SpaceId) (number : ℕ) (v : Verdict) (error : TransportError) (a : At t) → Tells a (stopped_after time error (move_to (Tell (did.Piece space (Some number) v)) a))
  shut_tells time space number v error a =
      let b : At t = move_to (Tell (did.Piece space (Some number) v)) a in
      let c : At t = move_to (Shut time (close_for error)) b in
      tells_next a b _ (fine_move (Tell (did.Piece space (Some number) v)) a (λ now. tt))
      (stopped_by Tells tells_here tells_next time error b (λ low. fine_move (Shut time (close_for error)) b tt)
      (λ none. fine_move (Give (lost.TransportError error)) c (λ same. transport_other (lost.TransportError error) error refl same)))

  -- ---- a list of versions

  -- behind it the reason may be given
  record Left (a b : At t) : Type 0 where
    pub since : List Did
    pub appended : b.did ≡ a.did ++ since
    pub more : (ds : List Did) → MismatchesBehind true ds → MismatchesBehind true (since ++ ds)

  left_here : (a : At t) → Left a a
  left_here a = record { since = []; appended = sym (append-nil a.did); more = λ ds h. h }

  left_next : (a b c : At t) → Left a b → Left b c → Left a c
  left_next a b c g h = record {
    since = g.since ++ h.since;
    appended = h.appended ∙ ap (λ (x : List Did). x ++ h.since) g.appended ∙ append_assoc a.did g.since h.since;
    more = λ ds k. subst (λ (l : List Did). MismatchesBehind true l) (sym (append_assoc g.since h.since ds)) (g.more (h.since ++ ds) (h.more ds k));
  }

  left_move : (x : Move t) (a : At t) → ((ds : List Did) → MismatchesBehind true ds → MismatchesBehind true (deeds_move x a.state ++ ds)) → Left a (move_to x a)
  unfolding move_to
  left_move x a more = record { since = deeds_move x a.state; appended = told_appends a.did (deeds_move x a.state); more = more }

  left_by : (time : ℕ) (a : At t) (b : Bool) → Left a (if b then given_after lost.VersionMismatch (move_to (PeerCloses time) a) else a)
  unfolding deeds_move
  left_by time a true =
      let b : At t = move_to (PeerCloses time) a in
      left_next a b _ (left_move (PeerCloses time) a (λ ds h. h))
      (given_by Left left_here left_next lost.VersionMismatch b (λ none. left_move (Give lost.VersionMismatch) b (λ ds h. (λ same. refl, h))))
  left_by time a false = left_here a

  versions_tells : (time : ℕ) (a : At t) → Tells a (left_after time lost.VersionMismatch (piece_told None None verdict.Versions a))
  unfolding left_after move_to deeds_move
  versions_tells time a =
      let d : Did = did.Piece None None verdict.Versions in
      let b : At t = move_to (Tell d) a in
      let left : Left b (left_after time lost.VersionMismatch b) = left_by time b (is_open b.state.life.state) in
      record {
        since = d ∷ left.since;
        appended = left.appended ∙ append_assoc a.did (d ∷ []) left.since;
        behind = λ now. subst (λ (ds : List Did). MismatchesBehind true ds) (append-nil left.since) (left.more [] tt);
      }

  -- ---- inputs

  error_other : (m : Meaning t) (o : OpenPacket) (why : ConnectionError) (s : View t) → IsErrorFor (Stops m o) o.coming.time why s → why ≢ lost.VersionMismatch
  error_other m o why s of_error = transport_other why of_error.error of_error.reason

  given_other : (m : Meaning t) (o : OpenPacket) (why : ConnectionError) (s : View t) → IsGivenFor m o why s → why ≢ lost.VersionMismatch
  given_other m o why s (inl of_peer) = closed_other of_peer.0 why of_peer.2
  given_other m o why s (inr of_error) = error_other m o why s of_error

  packet_fine : (m : Meaning t) (o : OpenPacket) (x : Move t) (s : View t) → IsInPacket m o x s → IsFine x
  packet_fine m o (Give why) s h = given_other m o why s h
  packet_fine m o (Tell d) s h = told_fine o d s h
  packet_fine m o _ s h = tt

  around_fine : (time : ℕ) (x : Move t) (s : View t) → IsAround time x s → IsFine x
  around_fine time (Give why) s h = transport_other why key_limit_error h
  around_fine time (Tell d) s h = shunned_fine d h
  around_fine time _ s h = tt

  own_fine : (x : Move t) → IsOwn x → IsFine x
  own_fine (Give why) h = own_other why h
  own_fine (Tell d) h = absurd h
  own_fine _ h = tt

  datagram_tells : (m : Meaning t) (coming : Coming) (bytes : List ℕ) (a : At t) → Tells a (datagram_after m coming bytes a)
  datagram_tells m coming bytes a =
      datagram_around m coming (λ p. Unit {0}) Tells tells_here tells_next (λ x b h may. fine_move x b (around_fine coming.time x b.state h)) (λ space number v error b is. shut_tells coming.time space number v error b)
      (λ cid token b r. retry_tells m coming.time cid token b) (λ b r. versions_tells coming.time b)
      (λ p comes o b opened. holds_packet m o Tells tells_here tells_next (λ x c h may. fine_move x c (packet_fine m o x c.state h)) b opened.lively) bytes a (λ p among. tt)

  input_tells : (m : Meaning t) (i : Input) (choice : Choice) (a : At t) → IsAllowed m i choice a → Tells a (input_after m i choice a)
  unfolding input_after
  input_tells m (input.Datagram time remote ecn bytes) choice a may = datagram_tells m (record { time = time; remote = remote; mark = ecn }) bytes a
  input_tells m i choice a may = holds_own Tells tells_here tells_next (λ x own b may_be. fine_move x b (own_fine x own)) m i choice a refl may

  -- ---- steps and runs

  step_mismatches : (m : Meaning t) (k : ℕ) (s : View t) (i : Input) (x : Step) (s' : View t) → IsStep m k s i x s' → MismatchesBehind false x.did
  unfolding called began
  step_mismatches m k s i x s' h =
      let a : At t = began s (time_of i) in
      let g : Tells a (input_after m i h.choice a) = input_tells m i h.choice a h.allowed in
      subst (λ (ds : List Did). MismatchesBehind false ds) (sym (h.deeds ∙ g.appended)) (g.behind false)

  pub run_mismatches : (m : Meaning t) (k : ℕ) (s : View t) (is : List Input) (xs : List Step) (s' : View t) → Run m k s is xs s' → EachMismatch xs
  unfolding Run
  run_mismatches m k s [] [] s' r = tt
  run_mismatches m k s (i ∷ is) (x ∷ xs) s' r = (step_mismatches m k s i x r.0 r.1, run_mismatches m (k + 1) r.0 is xs s' r.2)
  run_mismatches m k s [] (x ∷ xs) s' r = absurd r
  run_mismatches m k s (i ∷ is) [] s' r = absurd r

  pub ran_mismatches : (m : Meaning t) (k : ℕ) (s : View t) (is : List Input) (xs : List Step) → Ran m k s is xs → EachMismatch xs
  ran_mismatches m k s is xs r = run_mismatches m k s _ xs r.last r.run

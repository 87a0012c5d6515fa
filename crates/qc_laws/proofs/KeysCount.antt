-- Over a run the Initial and the Handshake keys count the packets that are sealed under them.
use Rattle.std.proofs.Common.{◌≡◌, ℕ, ◌+◌, List, [], ◌∷◌, ◌++◌, refl, ap, sym, ◌∙◌, subst, Bool, true, false, Option, None, Some, if◌then◌else◌, append_assoc, append-nil}
use Rattle.std.specs.Prelude.{◌&&◌, is_some, min, option_map}
use Rattle.qc_base.specs.declared.side.Side.TheVariants.{Client}
use Rattle.qc_base.specs.declared.side.SpaceId.{SpaceId}
use Rattle.qc_base.specs.declared.side.SpaceId.TheVariants.{Initial, Handshake, «Data»}
use Rattle.qc_base.specs.declared.transport_error.TransportError.{TransportError}
use Rattle.qc_frame.specs.Frame.{FrameValue}
use Rattle.qc_state.specs.declared.coming.Coming.{Coming}
use Rattle.qc_state.specs.declared.deeds.Did.{Did}
use Rattle.qc_state.specs.declared.deeds.Did.TheVariants as did
use Rattle.qc_state.specs.declared.deeds.Verdict.{Verdict}
use Rattle.qc_state.specs.declared.deeds.Verdict.TheVariants as verdict
use Rattle.qc_state.specs.declared.form.Form.{Form}
use Rattle.qc_state.specs.declared.form.Form.TheVariants as form
use Rattle.qc_state.specs.declared.input.Input.{Input}
use Rattle.qc_state.specs.declared.input.Input.TheVariants as input
use Rattle.qc_state.specs.declared.keys.KeyGroup.{KeyGroup}
use Rattle.qc_state.specs.declared.keys.SpaceKeys.{SpaceKeys}
use Rattle.qc_state.specs.declared.life.ConnectionError.TheVariants as lost
use Rattle.qc_state.specs.declared.trace.Step.{Step}
use Rattle.qc_state.specs.Forms.{number_space}
use Rattle.qc_state.specs.Headline.{deeds_of}
use Rattle.qc_state.specs.Keys.{DataKeys, HandshakeKeys, NewKeys, NoKeys, count_one, failure_counted, has_keys_for, initial_renewed, key_acked, key_discarded, key_opened, key_updated, key_used, keys_dropped, keys_given, new_keys}
use Rattle.qc_state.specs.Moves.{Accept, Ack, AreNext, Arm, Discard, Enter, Fail, Forget, Give, Hand, MayMove, Move, PeerCloses, Renew, Seal, Shut, Tell, Unseal, Update, Write, armed_after, armed_with, deeds_move, keys_move, move_to, state_move}
use Rattle.qc_state.specs.Paths.{is_blocked}
use Rattle.qc_state.specs.Receiving.{datagram_after, left_after, piece_told, renewed_after}
use Rattle.qc_state.specs.Recovering.{loss_time}
use Rattle.qc_state.specs.Run.{IsAllowed, IsStep, Run, began, called, input_after, reported, step_after, time_of}
use Rattle.qc_state.specs.Sending.{Choice}
use Rattle.qc_state.specs.Spaces.{is_space}
use Rattle.qc_state.specs.Stopping.{stopped_after}
use Rattle.qc_state.specs.Types.{Types, Meaning}
use Rattle.qc_state.specs.View.{View, At}
use Rattle.qc_state.proofs.Ends.{stopped_by}
use Rattle.qc_state.proofs.KeySteps.{RingMoves, acked_moves, discarded_moves, opened_moves, updated_moves}
use Rattle.qc_state.proofs.OpenPackets.{holds_packet}
use Rattle.qc_state.proofs.PacketMoves.{IsInPacket, IsToldOf, OpenPacket}
use Rattle.qc_state.proofs.ReceivedMoves.{AreUnused, behind_unused, close_for}
use Rattle.qc_state.proofs.Telling.{told_appends}
use Rattle.qc_laws.specs.KeyLaws.{CountPackets, CountsBehind, HaveSealed, counted_behind}
use Rattle.qc_laws.specs.RetryLaws.{is_taken}
use Rattle.qc_laws.proofs.Inputs.{IsOwn, holds_own}
use Rattle.qc_laws.proofs.KeyCounts.{plus_one}
use Rattle.qc_laws.proofs.Receives.{IsAround, IsParting, IsShunned, IsShutBy, datagram_around, left_by}
use Rattle.qc_laws.proofs.RetriesHold.{entered_untaken}
use Rattle.qc_laws.proofs.StreamCalls.{handed_told}

-- ---- deeds

counted_append : (id : SpaceId) (n : ℕ) (xs ys : List Did) → counted_behind id n (xs ++ ys) ≡ counted_behind id (counted_behind id n xs) ys
counted_append id n [] ys = refl
counted_append id n (did.Sealed space number epoch early fs ∷ xs) ys = counted_append id (if is_space id space then n + 1 else n) xs ys
counted_append id n (did.Piece space number v ∷ xs) ys = counted_append id (if is_space Initial id && is_taken v then 0 else n) xs ys
counted_append id n (did.Gave to body ∷ xs) ys = counted_append id n xs ys
counted_append id n (did.Rose life ∷ xs) ys = counted_append id n xs ys
counted_append id n (did.Lost why ∷ xs) ys = counted_append id n xs ys
counted_append id n (did.Quiet why ∷ xs) ys = counted_append id n xs ys

and_false : (b c : Bool) → c ≡ false → (b && c) ≡ false
and_false true c h = h
and_false false c h = refl

-- a packet that isn't a Retry which was taken
untaken_counted : (id : SpaceId) (n : ℕ) (v : Verdict) → is_taken v ≡ false → (if is_space Initial id && is_taken v then 0 else n) ≡ n
untaken_counted id n v h = ap (λ (b : Bool). if b then 0 else n) (and_false (is_space Initial id) (is_taken v) h)

-- deeds that leave the counts
abbrev LeaveCounts : List Did → Type 0
LeaveCounts ds = (id : SpaceId) (n : ℕ) → counted_behind id n ds ≡ n

shunned_leaves : (d : Did) → IsShunned d → LeaveCounts (d ∷ [])
shunned_leaves (did.Piece space number verdict.Ignored) h id n = untaken_counted id n verdict.Ignored refl
shunned_leaves (did.Piece space number verdict.Failure) h id n = untaken_counted id n verdict.Failure refl
shunned_leaves _ h id n = absurd h

-- ---- keys

module _ {H P : Type 0} where
  -- the same keys
  same_counts : (i h : ℕ) (v w : KeyGroup H P) → w.initial ≡ v.initial → w.handshake ≡ v.handshake → w.highest ≡ v.highest → CountPackets i h v → CountPackets i h w
  same_counts i h v w initial handshake highest c = record {
    initial = subst (λ (o : Option (SpaceKeys H P)). HaveSealed i o) (sym initial) c.initial;
    handshake = subst (λ (o : Option (SpaceKeys H P)). HaveSealed h o) (sym handshake) c.handshake;
    fresh = λ e. let f = c.fresh (sym highest ∙ e) in (f.0, handshake ∙ f.1);
  }

  ring_counts : (i h : ℕ) (v w : KeyGroup H P) → RingMoves v w → CountPackets i h v → CountPackets i h w
  ring_counts i h v w moves c = same_counts i h v w moves.initial moves.handshake moves.highest c

  dropped_counts : (i h : ℕ) (v : KeyGroup H P) (id : SpaceId) → CountPackets i h v → CountPackets i h (keys_dropped v id)
  unfolding keys_dropped
  dropped_counts i h v Initial c = record { initial = tt; handshake = c.handshake; fresh = c.fresh }
  dropped_counts i h v Handshake c = record { initial = c.initial; handshake = tt; fresh = λ e. ((c.fresh e).0, refl) }
  dropped_counts i h v «Data» c = record { initial = c.initial; handshake = c.handshake; fresh = c.fresh }

  given_counts : (i h : ℕ) (v : KeyGroup H P) (new : NewKeys H P) → AreNext new v.highest → AreUnused new → CountPackets i h v → CountPackets i h (keys_given v new)
  unfolding keys_given
  given_counts i h v NoKeys next unused c = c
  given_counts i h v (HandshakeKeys k) next unused c = record {
    initial = c.initial;
    handshake = unused ∙ ap (λ (n : ℕ). min n 18446744073709551615) (sym (c.fresh next).0);
    fresh = λ e. absurd cc;
  }
  given_counts i h v (DataKeys k) next unused c = record { initial = c.initial; handshake = c.handshake; fresh = λ e. absurd cc }

  one_counts : (n : ℕ) (o : Option (SpaceKeys H P)) → HaveSealed n o → HaveSealed (n + 1) (count_one o)
  unfolding count_one
  one_counts n None c = tt
  one_counts n (Some k) c = plus_one n k.sealed c

  used_counts : (i h : ℕ) (v : KeyGroup H P) (f : Form) (n : ℕ) → has_keys_for v f ≡ true → CountPackets i h v →
      CountPackets (if is_space Initial (number_space f) then i + 1 else i) (if is_space Handshake (number_space f) then h + 1 else h) (key_used v f n)
  unfolding key_used has_keys_for
  used_counts i h v form.Initial n keyed c = record { initial = one_counts i v.initial c.initial; handshake = c.handshake; fresh = c.fresh }
  used_counts i h v form.Handshake n keyed c = record { initial = c.initial; handshake = one_counts h v.handshake c.handshake; fresh = λ e. absurd (keyed_none v.handshake keyed (c.fresh e).1) }
    where
      keyed_none : (o : Option (SpaceKeys H P)) → is_some o ≡ true → o ≡ None → ⊥
      keyed_none None there none = cc
      keyed_none (Some k) there none = cc
  used_counts i h v form.Early n keyed c = record { initial = c.initial; handshake = c.handshake; fresh = c.fresh }
  used_counts i h v form.OneRtt n keyed c = record { initial = c.initial; handshake = c.handshake; fresh = c.fresh }

  failed_counts : (i h : ℕ) (v : KeyGroup H P) → CountPackets i h v → CountPackets i h (failure_counted v)
  unfolding failure_counted
  failed_counts i h v c = record { initial = c.initial; handshake = c.handshake; fresh = c.fresh }

  renewed_one : (o : Option (SpaceKeys H P)) (keys : SpaceKeys H P) → keys.sealed ≡ 0 → HaveSealed 0 (option_map (λ (k : SpaceKeys H P). keys) o)
  renewed_one None keys unused = tt
  renewed_one (Some k) keys unused = unused

  renewed_counts : (i h : ℕ) (v : KeyGroup H P) (keys : SpaceKeys H P) → keys.sealed ≡ 0 → CountPackets i h v → CountPackets 0 h (initial_renewed v keys)
  unfolding initial_renewed
  renewed_counts i h v keys unused c = record { initial = renewed_one v.initial keys unused; handshake = c.handshake; fresh = c.fresh }

  joined : (xs ys : List Did) (u v w : KeyGroup H P) → CountsBehind xs u v → CountsBehind ys v w → CountsBehind (xs ++ ys) u w
  joined xs ys u v w g h i n c =
      subst (λ (p : ℕ). CountPackets p (counted_behind Handshake n (xs ++ ys)) w) (sym (counted_append Initial i xs ys))
      (subst (λ (p : ℕ). CountPackets (counted_behind Initial (counted_behind Initial i xs) ys) p w) (sym (counted_append Handshake n xs ys)) (h (counted_behind Initial i xs) (counted_behind Handshake n xs) (g i n c)))

module _ {t : Types} where
  told_leaves : (o : OpenPacket) (d : Did) (s : View t) → IsToldOf o d s → LeaveCounts (d ∷ [])
  told_leaves o (did.Gave to body) s h id n = refl
  told_leaves o (did.Piece space number v) s h id n = untaken_counted id n v (ap is_taken h.2)
  told_leaves o _ s h id n = absurd h

  -- ---- from one moment to another

  record Counts (a b : At t) : Type 0 where
    pub since : List Did
    pub appended : b.did ≡ a.did ++ since
    pub counts : CountsBehind since a.state.keys b.state.keys

  counts_here : (a : At t) → Counts a a
  counts_here a = record { since = []; appended = sym (append-nil a.did); counts = λ i h c. c }

  counts_next : (a b c : At t) → Counts a b → Counts b c → Counts a c
  counts_next a b c g h = record {
    since = g.since ++ h.since;
    appended = h.appended ∙ ap (λ (x : List Did). x ++ h.since) g.appended ∙ append_assoc a.did g.since h.since;
    counts = joined g.since h.since a.state.keys b.state.keys c.state.keys g.counts h.counts;
  }

  -- a move that seals no packet and takes no Retry
  leaving_move : (x : Move t) (a : At t) → LeaveCounts (deeds_move x a.state) → ((i h : ℕ) → CountPackets i h a.state.keys → CountPackets i h (keys_move x a.state)) → Counts a (move_to x a)
  unfolding move_to state_move
  leaving_move x a leaves keys = record {
    since = deeds_move x a.state;
    appended = told_appends a.did (deeds_move x a.state);
    counts = λ i h c. subst (λ (p : ℕ). CountPackets p (counted_behind Handshake h (deeds_move x a.state)) (keys_move x a.state)) (sym (leaves Initial i))
        (subst (λ (p : ℕ). CountPackets i p (keys_move x a.state)) (sym (leaves Handshake h)) (keys i h c));
  }

  tell_move : (d : Did) (a : At t) → LeaveCounts (d ∷ []) → Counts a (move_to (Tell d) a)
  unfolding deeds_move keys_move
  tell_move d a leaves = leaving_move (Tell d) a leaves (λ i h c. c)

  seal_move : (time : ℕ) (f : Form) (n size : ℕ) (fs : List FrameValue) (a : At t) → has_keys_for a.state.keys f ≡ true → Counts a (move_to (Seal time f n size fs) a)
  unfolding move_to state_move keys_move deeds_move
  seal_move time f n size fs a keyed = record {
    since = deeds_move (Seal time f n size fs) a.state;
    appended = told_appends a.did (deeds_move (Seal time f n size fs) a.state);
    counts = λ i h c. used_counts i h a.state.keys f n keyed c;
  }

  -- keys that come with a write were never used
  abbrev IsUnused : Move t → Type 0
  IsUnused (Write bytes keys session) = AreUnused keys
  IsUnused (Tell d) = ⊥
  IsUnused (Renew time cid token keys) = ⊥
  IsUnused _ = Unit {0}

  counted_move : (x : Move t) (a : At t) → IsUnused x → MayMove x a.state → Counts a (move_to x a)
  unfolding deeds_move keys_move MayMove
  counted_move (Seal time f n size fs) a unused may = seal_move time f n size fs a may.3
  counted_move (Accept time id n e g v) a unused may = leaving_move (Accept time id n e g v) a (λ other count. untaken_counted other count v (entered_untaken v may.1)) (λ i h c. c)
  counted_move (Enter id n v) a unused may = leaving_move (Enter id n v) a (λ other count. untaken_counted other count v (entered_untaken v may.1)) (λ i h c. c)
  counted_move (Hand frame) a unused may = leaving_move (Hand frame) a (λ other count. handed_told (λ ds. counted_behind other count ds ≡ count) frame refl (λ body. refl)) (λ i h c. c)
  counted_move (Forget id) a unused may = leaving_move (Forget id) a (λ other count. refl) (λ i h c. dropped_counts i h a.state.keys id c)
  counted_move Fail a unused may = leaving_move Fail a (λ other count. refl) (λ i h c. failed_counts i h a.state.keys c)
  counted_move (Ack id n r) a unused may = leaving_move (Ack id n r) a (λ other count. refl) (λ i h c. ring_counts i h a.state.keys (key_acked a.state.keys id n) (acked_moves a.state.keys id n) c)
  counted_move (Unseal time n which fresh session) a unused may =
      leaving_move (Unseal time n which fresh session) a (λ other count. refl) (λ i h c. ring_counts i h a.state.keys (key_opened a.state.keys which n fresh) (opened_moves a.state.keys which n fresh) c)
  counted_move (Update fresh session) a unused may =
      leaving_move (Update fresh session) a (λ other count. refl) (λ i h c. ring_counts i h a.state.keys (key_updated a.state.keys fresh) (updated_moves a.state.keys fresh) c)
  counted_move Discard a unused may = leaving_move Discard a (λ other count. refl) (λ i h c. ring_counts i h a.state.keys (key_discarded a.state.keys) (discarded_moves a.state.keys) c)
  counted_move (Write bytes keys session) a unused may = leaving_move (Write bytes keys session) a (λ other count. refl) (λ i h c. given_counts i h a.state.keys keys may unused c)
  counted_move (Renew time cid token keys) a unused may = absurd unused
  counted_move (Tell d) a unused may = absurd unused
  counted_move x a unused may = leaving_move x a (λ other count. refl) (λ i h c. c)

  -- ---- inputs

  around_move : (time : ℕ) (x : Move t) (a : At t) → IsAround time x a.state → MayMove x a.state → Counts a (move_to x a)
  around_move time (Write bytes keys session) a h may = absurd h
  around_move time (Renew at cid token keys) a h may = absurd h
  around_move time (Tell d) a h may = tell_move d a (shunned_leaves d h)
  around_move time x a h may = counted_move x a tt may

  packet_move : (m : Meaning t) (o : OpenPacket) (x : Move t) (a : At t) → IsInPacket m o x a.state → MayMove x a.state → Counts a (move_to x a)
  packet_move m o (Write bytes keys session) a h may =
      counted_move (Write bytes keys session) a (subst (λ (k : NewKeys t.H t.P). AreUnused k) (sym h.given) (behind_unused m a.state.keys.highest (m.write_keys a.state.lower.session) (m.after_write a.state.lower.session))) may
  packet_move m o (Renew time cid token keys) a h may = absurd h
  packet_move m o (Tell d) a h may = tell_move d a (told_leaves o d a.state h)
  packet_move m o x a h may = counted_move x a tt may

  own_move : (x : Move t) → IsOwn x → (a : At t) → MayMove x a.state → Counts a (move_to x a)
  own_move (Write bytes keys session) r a may = absurd r
  own_move (Renew time cid token keys) r a may = absurd r
  own_move (Tell d) r a may = absurd r
  own_move x r a may = counted_move x a tt may

  -- a Retry is taken
  renew_move : (time : ℕ) (cid token : List ℕ) (keys : SpaceKeys t.H t.P) (a : At t) → keys.sealed ≡ 0 → Counts a (move_to (Renew time cid token keys) a)
  unfolding move_to state_move keys_move deeds_move
  renew_move time cid token keys a unused = record {
    since = did.Piece None None verdict.RetryTaken ∷ [];
    appended = refl;
    counts = λ i h c. renewed_counts i h a.state.keys keys unused c;
  }

  retry_counts : (m : Meaning t) (time : ℕ) (cid token : List ℕ) (a : At t) → Counts a (renewed_after m time cid token a)
  unfolding renewed_after armed_after armed_with deeds_move keys_move
  retry_counts m time cid token a =
      let keys : SpaceKeys t.H t.P = new_keys m.seal_limit m.failure_limit (m.initial a.state.lower.session cid Client) in
      let b : At t = move_to (Renew time cid token keys) a in
      counts_next a b _ (renew_move time cid token keys a refl) (leaving_move (Arm (loss_time b.state (is_blocked b.state.paths) time)) b (λ id n. refl) (λ i h c. c))

  -- a list of versions that counts
  parting_move : (time : ℕ) (x : Move t) (a : At t) → IsParting time x → MayMove x a.state → Counts a (move_to x a)
  parting_move time (PeerCloses at) a h may = counted_move (PeerCloses at) a tt may
  parting_move time (Give why) a h may = counted_move (Give why) a tt may
  parting_move time _ a h may = absurd h

  versions_count : (time : ℕ) (a : At t) → Counts a (left_after time lost.VersionMismatch (piece_told None None verdict.Versions a))
  unfolding left_after
  versions_count time a =
      let b : At t = move_to (Tell (did.Piece None None verdict.Versions)) a in
      counts_next a b _ (tell_move (did.Piece None None verdict.Versions) a (λ id n. untaken_counted id n verdict.Versions refl)) (left_by time Counts counts_here counts_next (λ x c h may. parting_move time x c h may) b _ refl)

  -- this end closes for what a packet shows
  shut_counts : (time : ℕ) (space : Option SpaceId) (number : ℕ) (v : Verdict) (error : TransportError) (a : At t) → is_taken v ≡ false → Counts a (stopped_after time error (move_to (Tell (did.Piece space (Some number) v)) a))
  unfolding deeds_move keys_move
  shut_counts time space number v error a untaken =
      let b : At t = move_to (Tell (did.Piece space (Some number) v)) a in
      let c : At t = move_to (Shut time (close_for error)) b in
      counts_next a b _ (tell_move (did.Piece space (Some number) v) a (λ id n. untaken_counted id n v untaken))
      (stopped_by Counts counts_here counts_next time error b (λ low. leaving_move (Shut time (close_for error)) b (λ id n. refl) (λ i h k. k)) (λ none. leaving_move (Give (lost.TransportError error)) c (λ id n. refl) (λ i h k. k)))

  shut_for : (time : ℕ) (space : Option SpaceId) (number : ℕ) (v : Verdict) (error : TransportError) (a : At t) → IsShutBy v error → Counts a (stopped_after time error (move_to (Tell (did.Piece space (Some number) v)) a))
  shut_for time space number verdict.BadBits error a is = shut_counts time space number verdict.BadBits error a refl
  shut_for time space number verdict.BadUpdate error a is = shut_counts time space number verdict.BadUpdate error a refl
  shut_for time space number _ error a is = absurd is

  datagram_counts : (m : Meaning t) (coming : Coming) (bytes : List ℕ) (a : At t) → Counts a (datagram_after m coming bytes a)
  datagram_counts m coming bytes a =
      datagram_around m coming (λ p. Unit {0}) Counts counts_here counts_next (λ x b h may. around_move coming.time x b h may) (λ space number v error b is. shut_for coming.time space number v error b is)
      (λ cid token b r. retry_counts m coming.time cid token b) (λ b r. versions_count coming.time b)
      (λ p comes o b opened. holds_packet m o Counts counts_here counts_next (λ x c h may. packet_move m o x c h may) b opened.lively) bytes a (λ p among. tt)

  input_counts : (m : Meaning t) (i : Input) (choice : Choice) (a : At t) → IsAllowed m i choice a → Counts a (input_after m i choice a)
  unfolding input_after
  input_counts m (input.Datagram time remote ecn bytes) choice a may = datagram_counts m (record { time = time; remote = remote; mark = ecn }) bytes a
  input_counts m i choice a may = holds_own Counts counts_here counts_next (λ x r b may_be. own_move x r b may_be) m i choice a refl may

  -- ---- steps and runs

  step_counts : (m : Meaning t) (k : ℕ) (s : View t) (i : Input) (x : Step) (s' : View t) → IsStep m k s i x s' → CountsBehind x.did s.keys s'.keys
  unfolding called began step_after reported state_move keys_move
  step_counts m k s i x s' h =
      let a : At t = began s (time_of i) in
      let g : Counts a (input_after m i h.choice a) = input_counts m i h.choice a h.allowed in
      subst (λ (ds : List Did). CountsBehind ds s.keys s'.keys) (sym (h.deeds ∙ g.appended)) (subst (λ (v : KeyGroup t.H t.P). CountsBehind g.since s.keys v) (sym h.keys) g.counts)

  pub run_counts : (m : Meaning t) (k : ℕ) (s : View t) (is : List Input) (xs : List Step) (s' : View t) → Run m k s is xs s' → CountsBehind (deeds_of xs) s.keys s'.keys
  unfolding Run
  run_counts m k s [] [] s' r = λ i h c. subst (λ (v : View t). CountPackets i h v.keys) (sym r) c
  run_counts m k s (i ∷ is) (x ∷ xs) s' r = joined x.did (deeds_of xs) s.keys r.0.keys s'.keys (step_counts m k s i x r.0 r.1) (run_counts m (k + 1) r.0 is xs s' r.2)
  run_counts m k s [] (x ∷ xs) s' r = absurd r
  run_counts m k s (i ∷ is) [] s' r = absurd r

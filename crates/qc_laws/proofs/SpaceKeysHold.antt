-- Over a run the Initial keys are those of the destination id of the client's first packets, or of the source id of the Retry that was taken, and the
-- Handshake keys those that the session gave as it wrote.
use Rattle.std.proofs.Common.{◌≡◌, ℕ, ◌+◌, List, [], ◌∷◌, refl, ap, sym, subst, true, Option, None, Some}
use Rattle.std.specs.Prelude.{option_map}
use Rattle.rand_core.specs.Stream.{Stream}
use Rattle.qc_base.specs.declared.side.Side.{Side}
use Rattle.qc_base.specs.declared.side.Side.TheVariants.{Client, Server}
use Rattle.qc_base.specs.declared.side.SpaceId.{SpaceId}
use Rattle.qc_base.specs.declared.side.SpaceId.TheVariants.{Initial, Handshake, «Data»}
use Rattle.qc_state.specs.declared.coming.Coming.{Coming}
use Rattle.qc_state.specs.declared.form.Form.{Form}
use Rattle.qc_state.specs.declared.form.Form.TheVariants as form
use Rattle.qc_state.specs.declared.input.Input.{Input}
use Rattle.qc_state.specs.declared.input.Input.TheVariants as input
use Rattle.qc_state.specs.declared.keys.KeyGroup.{KeyGroup}
use Rattle.qc_state.specs.declared.keys.SpaceKeys.{SpaceKeys}
use Rattle.qc_base.specs.declared.transport_error.TransportError.{TransportError}
use Rattle.qc_crypto.specs.declared.keys.KeyPair.{KeyPair}
use Rattle.qc_crypto.specs.declared.keys.Keys.{Keys}
use Rattle.qc_state.specs.declared.deeds.Did.TheVariants as did
use Rattle.qc_state.specs.declared.deeds.Verdict.{Verdict}
use Rattle.qc_state.specs.declared.life.ConnectionError.TheVariants as lost
use Rattle.qc_state.specs.declared.setup.Fixed.{Fixed}
use Rattle.qc_state.specs.declared.setup.Setup.{Setup}
use Rattle.qc_state.specs.declared.trace.Step.{Step}
use Rattle.qc_state.specs.Keys.{NewKeys, NoKeys, HandshakeKeys, DataKeys, count_one, failure_counted, initial_renewed, key_acked, key_discarded, key_opened, key_updated, key_used, keys_dropped, keys_given, new_keys}
use Rattle.qc_state.specs.Moves.{Ack, Arm, Discard, Expect, Fail, Forget, Give, Learn, Move, Renew, Seal, Shut, Skip, Tell, Unseal, Update, Write, armed_after, armed_with, is_client, is_unanswered, keys_move, move_to, setup_move, state_move}
use Rattle.qc_state.specs.Paths.{chosen_or, is_blocked}
use Rattle.qc_state.specs.Progress.{keys_behind, ring_with}
use Rattle.qc_state.specs.Receiving.{datagram_after, renewed_after}
use Rattle.qc_state.specs.Recovering.{loss_time}
use Rattle.qc_state.specs.Run.{IsAllowed, IsStep, Run, began, called, input_after, reported, step_after, time_of}
use Rattle.qc_state.specs.Sending.{Choice}
use Rattle.qc_state.specs.Setup.{packet_drawn, parameters_known, retry_taken, token_expected, word_drawn}
use Rattle.qc_state.specs.Stopping.{stopped_after}
use Rattle.qc_state.specs.Types.{Types, Meaning}
use Rattle.qc_state.specs.View.{View, At}
use Rattle.qc_state.proofs.Ends.{stopped_by}
use Rattle.qc_state.proofs.KeySteps.{RingMoves, acked_moves, discarded_moves, opened_moves, updated_moves}
use Rattle.qc_state.proofs.OpenPackets.{holds_packet}
use Rattle.qc_state.proofs.PacketMoves.{IsInPacket, OpenPacket}
use Rattle.qc_state.proofs.ReceivedMoves.{close_for}
use Rattle.qc_laws.specs.RetryLaws.{AreKeysOf, AreWritten, HasSpaceKeys}
use Rattle.qc_laws.proofs.FieldsKept.{move_fixed}
use Rattle.qc_laws.proofs.Inputs.{IsOwn, holds_own}
use Rattle.qc_laws.proofs.Receives.{IsAround, IsLeaving, datagram_around, versions_by}
use Rattle.qc_laws.proofs.RetriesHold.{and_parts}

-- every move but that with which a Retry is taken
abbrev pub IsOld : {t : Types} → Move t → Type 0
IsOld (Renew time cid token keys) = ⊥
IsOld _ = Unit {0}

around_old : {t : Types} (time : ℕ) (x : Move t) (s : View t) → IsAround time x s → IsOld x
around_old time (Renew at cid token keys) s h = absurd h
around_old time _ s h = tt

leaving_old : {t : Types} (time : ℕ) (x : Move t) → IsLeaving time x → IsOld x
leaving_old time (Renew at cid token keys) h = absurd h
leaving_old time _ h = tt

packet_old : {t : Types} (m : Meaning t) (o : OpenPacket) (x : Move t) (s : View t) → IsInPacket m o x s → IsOld x
packet_old m o (Renew time cid token keys) s h = absurd h
packet_old m o _ s h = tt

own_old : {t : Types} (x : Move t) → IsOwn x → IsOld x
own_old (Renew time cid token keys) h = absurd h
own_old _ h = tt

-- keys that come with a write are the session's, of the space behind the highest one
abbrev IsGiven : {t : Types} → Meaning t → Move t → View t → Type 0
IsGiven m (Write bytes keys session) s = keys ≡ keys_behind m s.keys.highest (m.write_keys s.lower.session) (m.after_write s.lower.session)
IsGiven m _ s = Unit {0}

around_given : {t : Types} (m : Meaning t) (time : ℕ) (x : Move t) (s : View t) → IsAround time x s → IsGiven m x s
around_given m time (Write bytes keys session) s h = absurd h
around_given m time _ s h = tt

leaving_given : {t : Types} (m : Meaning t) (time : ℕ) (x : Move t) (s : View t) → IsLeaving time x → IsGiven m x s
leaving_given m time (Write bytes keys session) s h = absurd h
leaving_given m time _ s h = tt

packet_given : {t : Types} (m : Meaning t) (o : OpenPacket) (x : Move t) (s : View t) → IsInPacket m o x s → IsGiven m x s
packet_given m o (Write bytes keys session) s h = h.given
packet_given m o _ s h = tt

own_given : {t : Types} (m : Meaning t) (x : Move t) (s : View t) → IsOwn x → IsGiven m x s
own_given m (Write bytes keys session) s h = absurd h
own_given m _ s h = tt

pub client_only : (side : Side) → is_client side ≡ true → side ≡ Client
client_only Client h = refl
client_only Server h = absurd cc

module _ {t : Types} (m : Meaning t) where
  -- ---- keys

  counted_of : (cid : List ℕ) (side : Side) (o : Option (SpaceKeys t.H t.P)) → AreKeysOf m cid side o → AreKeysOf m cid side (count_one o)
  unfolding count_one
  counted_of cid side None h = tt
  counted_of cid side (Some k) h = (h.0, h.1, record { seals = h.2.seals; failures = h.2.failures })

  used_of : (cid : List ℕ) (side : Side) (v : KeyGroup t.H t.P) (f : Form) (n : ℕ) → AreKeysOf m cid side v.initial → AreKeysOf m cid side (key_used v f n).initial
  unfolding key_used
  used_of cid side v form.Initial n h = counted_of cid side v.initial h
  used_of cid side v form.Handshake n h = h
  used_of cid side v form.Early n h = h
  used_of cid side v form.OneRtt n h = h

  dropped_of : (cid : List ℕ) (side : Side) (v : KeyGroup t.H t.P) (id : SpaceId) → AreKeysOf m cid side v.initial → AreKeysOf m cid side (keys_dropped v id).initial
  unfolding keys_dropped
  dropped_of cid side v Initial h = tt
  dropped_of cid side v Handshake h = h
  dropped_of cid side v «Data» h = h

  given_of : (cid : List ℕ) (side : Side) (v : KeyGroup t.H t.P) (new : NewKeys t.H t.P) → AreKeysOf m cid side v.initial → AreKeysOf m cid side (keys_given v new).initial
  unfolding keys_given
  given_of cid side v NoKeys h = h
  given_of cid side v (HandshakeKeys k) h = h
  given_of cid side v (DataKeys k) h = h

  ring_of : (cid : List ℕ) (side : Side) (v w : KeyGroup t.H t.P) → RingMoves v w → AreKeysOf m cid side v.initial → AreKeysOf m cid side w.initial
  ring_of cid side v w moves h = subst (λ (o : Option (SpaceKeys t.H t.P)). AreKeysOf m cid side o) (sym moves.initial) h

  keys_stay : (cid : List ℕ) (side : Side) (x : Move t) (s : View t) → IsOld x → AreKeysOf m cid side s.keys.initial → AreKeysOf m cid side (keys_move x s).initial
  unfolding keys_move failure_counted
  keys_stay cid side (Renew time id token keys) s old h = absurd old
  keys_stay cid side (Seal time f n size fs) s old h = used_of cid side s.keys f n h
  keys_stay cid side (Forget id) s old h = dropped_of cid side s.keys id h
  keys_stay cid side Fail s old h = h
  keys_stay cid side (Ack id n after) s old h = ring_of cid side s.keys (key_acked s.keys id n) (acked_moves s.keys id n) h
  keys_stay cid side (Unseal time n which fresh session) s old h = ring_of cid side s.keys (key_opened s.keys which n fresh) (opened_moves s.keys which n fresh) h
  keys_stay cid side (Update fresh session) s old h = ring_of cid side s.keys (key_updated s.keys fresh) (updated_moves s.keys fresh) h
  keys_stay cid side Discard s old h = ring_of cid side s.keys (key_discarded s.keys) (discarded_moves s.keys) h
  keys_stay cid side (Write bytes keys session) s old h = given_of cid side s.keys keys h
  keys_stay cid side _ s old h = h

  -- so of the Handshake keys
  counted_written : (o : Option (SpaceKeys t.H t.P)) → AreWritten m o → AreWritten m (count_one o)
  unfolding count_one
  counted_written None h = tt
  counted_written (Some k) h = (h.0, h.1, record { seals = h.2.seals; failures = h.2.failures })

  used_written : (v : KeyGroup t.H t.P) (f : Form) (n : ℕ) → AreWritten m v.handshake → AreWritten m (key_used v f n).handshake
  unfolding key_used
  used_written v form.Initial n h = h
  used_written v form.Handshake n h = counted_written v.handshake h
  used_written v form.Early n h = h
  used_written v form.OneRtt n h = h

  dropped_written : (v : KeyGroup t.H t.P) (id : SpaceId) → AreWritten m v.handshake → AreWritten m (keys_dropped v id).handshake
  unfolding keys_dropped
  dropped_written v Initial h = h
  dropped_written v Handshake h = tt
  dropped_written v «Data» h = h

  ring_given : (v : KeyGroup t.H t.P) (keys : Keys t.H t.P) (next : Option (KeyPair t.P)) → AreWritten m v.handshake → AreWritten m (keys_given v (ring_with m keys next)).handshake
  unfolding keys_given
  ring_given v keys None h = h
  ring_given v keys (Some next) h = h

  given_written : (v : KeyGroup t.H t.P) (highest : SpaceId) (session later : t.S) (o : Option (Keys t.H t.P)) → m.write_keys session ≡ o → AreWritten m v.handshake → AreWritten m (keys_given v (keys_behind m highest o later)).handshake
  unfolding keys_given
  given_written v highest session later None is h = h
  given_written v Initial session later (Some k) is h = (session, is, record { seals = refl; failures = refl })
  given_written v Handshake session later (Some k) is h = ring_given v k (m.next_keys later) h
  given_written v «Data» session later (Some k) is h = h

  ring_written : (v w : KeyGroup t.H t.P) → RingMoves v w → AreWritten m v.handshake → AreWritten m w.handshake
  ring_written v w moves h = subst (λ (o : Option (SpaceKeys t.H t.P)). AreWritten m o) (sym moves.handshake) h

  written_stay : (x : Move t) (s : View t) → IsOld x → IsGiven m x s → AreWritten m s.keys.handshake → AreWritten m (keys_move x s).handshake
  unfolding keys_move failure_counted
  written_stay (Renew time id token keys) s old given h = absurd old
  written_stay (Seal time f n size fs) s old given h = used_written s.keys f n h
  written_stay (Forget id) s old given h = dropped_written s.keys id h
  written_stay Fail s old given h = h
  written_stay (Ack id n after) s old given h = ring_written s.keys (key_acked s.keys id n) (acked_moves s.keys id n) h
  written_stay (Unseal time n which fresh session) s old given h = ring_written s.keys (key_opened s.keys which n fresh) (opened_moves s.keys which n fresh) h
  written_stay (Update fresh session) s old given h = ring_written s.keys (key_updated s.keys fresh) (updated_moves s.keys fresh) h
  written_stay Discard s old given h = ring_written s.keys (key_discarded s.keys) (discarded_moves s.keys) h
  written_stay (Write bytes keys session) s old given h =
      subst (λ (k : NewKeys t.H t.P). AreWritten m (keys_given s.keys k).handshake) (sym given) (given_written s.keys s.keys.highest s.lower.session (m.after_write s.lower.session) (m.write_keys s.lower.session) refl h)
  written_stay _ s old given h = h

  pub retry_stays : (x : Move t) (s : View t) → IsOld x → (setup_move x s).retry_cid ≡ s.setup.retry_cid
  unfolding setup_move token_expected parameters_known word_drawn packet_drawn
  retry_stays (Renew time cid token keys) s old = absurd old
  retry_stays (Expect token) s old = refl
  retry_stays (Learn parameters) s old = refl
  retry_stays Skip s old = refl
  retry_stays (Seal time f n size fs) s old = refl
  retry_stays _ s old = refl

  -- where the session gives keys of this id to a client, they are of it
  renewed_of : (cid : List ℕ) (session : t.S) (side : Side) (o : Option (SpaceKeys t.H t.P)) → side ≡ Client →
      AreKeysOf m cid side (option_map (λ (k : SpaceKeys t.H t.P). new_keys m.seal_limit m.failure_limit (m.initial session cid Client)) o)
  renewed_of cid session side None is = tt
  renewed_of cid session side (Some k) is = (session, ap (λ (d : Side). m.initial session cid d) (sym is), record { seals = refl; failures = refl })

  -- ---- from one moment to another

  abbrev Keeps : At t → At t → Type 0
  Keeps a b = HasSpaceKeys m a.state → HasSpaceKeys m b.state

  keeps_here : (a : At t) → Keeps a a
  keeps_here a h = h

  keeps_next : (a b c : At t) → Keeps a b → Keeps b c → Keeps a c
  keeps_next a b c g h k = h (g k)

  keeps_move : (x : Move t) (a : At t) → IsOld x → IsGiven m x a.state → Keeps a (move_to x a)
  unfolding move_to state_move
  keeps_move x a old given h =
      let s : View t = a.state in
      let stay : AreKeysOf m (chosen_or s.setup.fixed.first_cid s.setup.retry_cid) s.setup.fixed.side (keys_move x s).initial =
      keys_stay (chosen_or s.setup.fixed.first_cid s.setup.retry_cid) s.setup.fixed.side x s old h.keys in
      record {
        keys = subst (λ (f : Fixed). AreKeysOf m (chosen_or f.first_cid (setup_move x s).retry_cid) f.side (keys_move x s).initial) (sym (move_fixed x s))
            (subst (λ (o : Option (List ℕ)). AreKeysOf m (chosen_or s.setup.fixed.first_cid o) s.setup.fixed.side (keys_move x s).initial) (sym (retry_stays x s old)) stay);
        handshake = written_stay x s old given h.handshake;
      }

  -- a Retry is taken
  keeps_renew : (time : ℕ) (cid token : List ℕ) (a : At t) → is_unanswered a.state ≡ true →
      Keeps a (move_to (Renew time cid token (new_keys m.seal_limit m.failure_limit (m.initial a.state.lower.session cid Client))) a)
  unfolding is_unanswered move_to state_move setup_move retry_taken keys_move initial_renewed
  keeps_renew time cid token a unanswered h =
      let s : View t = a.state in
      record { keys = renewed_of cid s.lower.session s.setup.fixed.side s.keys.initial (client_only s.setup.fixed.side (and_parts (is_client s.setup.fixed.side) _ unanswered).0); handshake = h.handshake }

  keeps_retry : (time : ℕ) (cid token : List ℕ) (a : At t) → is_unanswered a.state ≡ true → Keeps a (renewed_after m time cid token a)
  unfolding renewed_after armed_after armed_with
  keeps_retry time cid token a unanswered =
      let b : At t = move_to (Renew time cid token (new_keys m.seal_limit m.failure_limit (m.initial a.state.lower.session cid Client))) a in
      let arm : Move t = Arm (loss_time b.state (is_blocked b.state.paths) time) in
      keeps_next a b (move_to arm b) (keeps_renew time cid token a unanswered) (keeps_move arm b tt tt)

  -- this end closes for what a packet shows
  keeps_shut : (time : ℕ) (space : Option SpaceId) (number : ℕ) (v : Verdict) (error : TransportError) (a : At t) → Keeps a (stopped_after time error (move_to (Tell (did.Piece space (Some number) v)) a))
  keeps_shut time space number v error a =
      let b : At t = move_to (Tell (did.Piece space (Some number) v)) a in
      let c : At t = move_to (Shut time (close_for error)) b in
      keeps_next a b (stopped_after time error b) (keeps_move (Tell (did.Piece space (Some number) v)) a tt tt)
      (stopped_by Keeps keeps_here keeps_next time error b (λ low. keeps_move (Shut time (close_for error)) b tt tt) (λ none. keeps_move (Give (lost.TransportError error)) c tt tt))

  -- ---- inputs, steps and runs

  keeps_datagram : (coming : Coming) (bytes : List ℕ) (a : At t) → Keeps a (datagram_after m coming bytes a)
  keeps_datagram coming bytes a =
      datagram_around m coming (λ p. Unit {0}) Keeps keeps_here keeps_next (λ x b h may. keeps_move x b (around_old coming.time x b.state h) (around_given m coming.time x b.state h)) (λ space number v error b is. keeps_shut coming.time space number v error b)
      (λ cid token b r. keeps_retry coming.time cid token b r.unanswered) (λ b r. versions_by coming.time Keeps keeps_here keeps_next (λ x c h may. keeps_move x c (leaving_old coming.time x h) (leaving_given m coming.time x c.state h)) b)
      (λ p comes o b opened. holds_packet m o Keeps keeps_here keeps_next (λ x c h may. keeps_move x c (packet_old m o x c.state h) (packet_given m o x c.state h)) b opened.lively) bytes a (λ p among. tt)

  keeps_input : (i : Input) (choice : Choice) (a : At t) → IsAllowed m i choice a → Keeps a (input_after m i choice a)
  unfolding input_after
  keeps_input (input.Datagram time remote ecn bytes) choice a may = keeps_datagram (record { time = time; remote = remote; mark = ecn }) bytes a
  keeps_input i choice a may = holds_own Keeps keeps_here keeps_next (λ x own b may_be. keeps_move x b (own_old x own) (own_given m x b.state own)) m i choice a refl may

  keeps_begun : (s : View t) (time : ℕ) → HasSpaceKeys m s → HasSpaceKeys m (began s time).state
  unfolding began state_move keys_move setup_move
  keeps_begun s time h = record { keys = h.keys; handshake = h.handshake }

  step_keeps : (k : ℕ) (s : View t) (i : Input) (x : Step) (s' : View t) → IsStep m k s i x s' → HasSpaceKeys m s → HasSpaceKeys m s'
  unfolding called step_after reported state_move keys_move setup_move
  step_keeps k s i x s' h start =
      let b : At t = input_after m i h.choice (began s (time_of i)) in
      let behind : HasSpaceKeys m b.state = keeps_input i h.choice (began s (time_of i)) h.allowed (keeps_begun s (time_of i) start) in
      record {
        keys = subst (λ (v : Setup Stream). AreKeysOf m (chosen_or v.fixed.first_cid v.retry_cid) v.fixed.side s'.keys.initial) (sym h.setup)
            (subst (λ (g : KeyGroup t.H t.P). AreKeysOf m (chosen_or b.state.setup.fixed.first_cid b.state.setup.retry_cid) b.state.setup.fixed.side g.initial) (sym h.keys) behind.keys);
        handshake = subst (λ (g : KeyGroup t.H t.P). AreWritten m g.handshake) (sym h.keys) behind.handshake;
      }

  pub run_space_keys : (k : ℕ) (s : View t) (is : List Input) (xs : List Step) (s' : View t) → Run m k s is xs s' → HasSpaceKeys m s → HasSpaceKeys m s'
  unfolding Run
  run_space_keys k s [] [] s' r start = subst (λ (v : View t). HasSpaceKeys m v) (sym r) start
  run_space_keys k s (i ∷ is) (x ∷ xs) s' r start = run_space_keys (k + 1) r.0 is xs s' r.2 (step_keeps k s i x r.0 r.1 start)
  run_space_keys k s [] (x ∷ xs) s' r start = absurd r
  run_space_keys k s (i ∷ is) [] s' r start = absurd r

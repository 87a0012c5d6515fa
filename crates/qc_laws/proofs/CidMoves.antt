-- Over the moves of a connection: the peer's ids are known, what is told of this end's ids was issued, and the numbers that are told retired lie
-- below that of the id in use.
use Rattle.std.proofs.Common.{◌≡◌, ℕ, ◌≤◌, ◌⊎◌, inl, inr, Bool, true, false, List, [], ◌∷◌, ◌++◌, Option, Some, None, refl, sym, ap, ◌∙◌, subst, arith, if◌then◌else◌, Contains, append_assoc, append-nil}
use Rattle.std.proofs.lemmas.List.Elements.{Contains-append_left, Contains-append_right}
use Rattle.std.specs.Prelude.{◌==◌, ◌&&◌, not, nat_le, is_none, IsPermutation}
use Rattle.qc_base.specs.declared.ids.IssuedCid.{IssuedCid}
use Rattle.qc_base.specs.declared.side.Side.{Side}
use Rattle.qc_base.specs.declared.side.Side.TheVariants.{Client, Server}
use Rattle.qc_base.specs.declared.side.SpaceId.{SpaceId}
use Rattle.qc_base.specs.declared.side.SpaceId.TheVariants.{Initial, Handshake, «Data»}
use Rattle.qc_cids.specs.Cids.{asks_one, next_token, token_by}
use Rattle.qc_cids.specs.Steps as cids
use Rattle.qc_cids.specs.Steps.{after, after_step}
use Rattle.qc_cids.specs.declared.connection_ids.ConnectionIds.{ConnectionIds}
use Rattle.qc_flight.specs.Packets.{Entry}
use Rattle.qc_flight.specs.declared.sent.SentPacket.{SentPacket}
use Rattle.qc_frame.specs.Frame.{FrameValue}
use Rattle.qc_frame.specs.FrameSpelling.{spelling}
use Rattle.qc_frame.specs.declared.frames.FrameOf.TheVariants as frames
use Rattle.qc_ids.specs.CidQueue.{active_seq_of, first_cid, renamed}
use Rattle.qc_ids.specs.LocalCids.{may_retire}
use Rattle.qc_ids.specs.declared.cid_queue.KeptCid.{KeptCid}
use Rattle.qc_params.specs.declared.params.PreferredAddress.{PreferredAddress}
use Rattle.qc_params.specs.declared.params.TransportParameters.{TransportParameters}
use Rattle.qc_recovery.specs.Calls.{dropped_after}
use Rattle.qc_recovery.specs.Losses.{rank}
use Rattle.qc_recovery.specs.Steps.{After, FiredAfter, space_dropped}
use Rattle.qc_recovery.specs.Steps as recovery
use Rattle.qc_recovery.specs.declared.calls.Fired.{Fired}
use Rattle.qc_recovery.specs.declared.calls.Fired.TheVariants as fired
use Rattle.qc_recovery.specs.declared.recovery.Recovery.{Recovery}
use Rattle.qc_recovery.proofs.RunsSettle.{put_flight}
use Rattle.qc_state.specs.declared.deeds.Did.{Did}
use Rattle.qc_state.specs.declared.deeds.Did.TheVariants as did
use Rattle.qc_state.specs.declared.deeds.Verdict.{Verdict}
use Rattle.qc_state.specs.declared.deeds.Verdict.TheVariants as verdict
use Rattle.qc_state.specs.declared.form.Form.{Form}
use Rattle.qc_state.specs.declared.form.Form.TheVariants as form
use Rattle.qc_state.specs.declared.life.ConnectionError.{ConnectionError}
use Rattle.qc_state.specs.declared.life.Life.{Life}
use Rattle.qc_state.specs.declared.lower.Lower.{Lower}
use Rattle.qc_state.specs.declared.keys.KeyGroup.{KeyGroup}
use Rattle.qc_state.specs.declared.paths.Paths.{Paths}
use Rattle.qc_state.specs.Datagrams.{tells_datagram}
use Rattle.qc_state.specs.Flight.{flown_packet}
use Rattle.qc_state.specs.Forms.{is_early, number_space}
use Rattle.qc_state.specs.Ids.{active_limit, again_ids, fired_ids, preferred_steps, sealed_cids}
use Rattle.qc_state.specs.Keys.{DataKeys, HandshakeKeys, NewKeys, NoKeys, count_one, epoch_in, failure_counted, key_used, keys_dropped, keys_given, ring_used, key_acked, key_discarded, key_opened, key_updated, initial_renewed}
use Rattle.qc_state.specs.Life.{data_ready, identifiers_wanted, is_handshake, life_closed, life_drained, life_established, life_raised, reason_given, token_learned}
use Rattle.qc_state.specs.Lower.{bytes_came, datagrams_stepped, flight_dropped, frame_handed, frames_sealed as frames_taken, ids_stepped, limits_learned, packet_flown, packets_settled, session_read, session_wrote, streams_closed, streams_stepped, timer_fired}
use Rattle.qc_state.specs.Moves.{Probe, Accept, Ack, Arm, Begin, Clock, Establish, Expect, Fail, Finish, Fire, Fix, Forget, Give, Hand, Hear, Insert, IsTold as MayBeTold, Issue, Learn, MayMove, Move, Outlive, PeerCloses, PeerClosesToo, Raise, ReportAllHeard, ReportConnected, ReportDrained, ReportHeard, ReportLost, ReportNotice, ReportNotices, ReportReady, Retire, Say, Seal, Shut, Skip, Spend, Switch, Take, Tell, Want, Write, deeds_move, keys_move, life_move, lower_move, move_to, paths_move, setup_move, state_move, Unseal, Discard, Update, Renew, is_unanswered, is_client}
use Rattle.qc_state.specs.Moves as moves
use Rattle.qc_state.specs.Numbers.{next_number, received_number}
use Rattle.qc_state.specs.Offers.{begun_ids, oldest_in, probe_ids, wants_sending}
use Rattle.qc_state.specs.Paths.{path_accepted, path_kept, path_named, path_received, path_sent, path_spun, peer_fixed, spun_by, path_capped}
use Rattle.qc_state.specs.Recovering.{fired_by, settled_by}
use Rattle.qc_state.specs.Sending.{packet_size}
use Rattle.qc_state.specs.Setup.{packet_drawn, parameters_known, token_expected, word_drawn, retry_taken}
use Rattle.qc_state.specs.Spaces.{is_space, space_of}
use Rattle.qc_state.specs.Types.{Types, Meaning}
use Rattle.qc_state.specs.View.{View, At}
use Rattle.qc_state.specs.Waiting.{probe_spent}
use Rattle.qc_state.proofs.Quieted.{probed_chosen, quiet_chosen}
use Rattle.qc_state.proofs.Probed.{begun_streams}
use Rattle.qc_state.proofs.Telling.{told_appends}
use Rattle.qc_state.proofs.Transmitted.{IsSealable}
use Rattle.qc_state.proofs.KeySteps.{acked_moves, discarded_moves, opened_moves, still_no_ring, updated_moves, renewed_highest}
use Rattle.qc_laws.specs.CidLaws.{Chosen, Given, IsPeers, Preferred, chosen_in, first_of}
use Rattle.qc_laws.specs.IdLaws.{given_to_ids}
use Rattle.qc_laws.specs.StreamsLaws.{frames_sealed}
use Rattle.qc_laws.proofs.CidFrames.{AreTold, Carry, again_goes, all_more, all_told, carry_append, carry_more, carry_settled, packets_go, told_append, told_kept}
use Rattle.qc_laws.proofs.CidQueues.{AllBelow, AllIssued, Fine, Goes, Peers, more_fine, steps_go}
use Rattle.qc_laws.proofs.CryptoPlaces.{FiresIn, ack_flight, ack_other, dropped_highest, fired_flight, flown_apart, flown_here, same_or, used_highest}
use Rattle.qc_laws.proofs.IdsFold.{given_append, moved_ids, steps_by}
use Rattle.qc_laws.proofs.IdsHold.{AreCalm, begun_calm, calm_steps, fired_calm, flown_ids, packets_calm, sealed_calm}
use Rattle.qc_laws.proofs.KnownMoves.{IsFiredBy, IsKnownAbout, IsSettledBy}
use Rattle.qc_laws.proofs.StreamCalls.{handed_told, heard_state, named_state, retired_state}
use Rattle.qc_laws.proofs.StreamsSealed.{frames_append}
use Rattle.qc_state.specs.declared.keys.SpaceKeys.{SpaceKeys}

-- a reason that is given leaves the state
given_state : (v : Life) (why : ConnectionError) (b : Bool) → (if b then record v { reason = Some why; lost = Some why } else v).state ≡ v.state
given_state v why true = refl
given_state v why false = refl

-- the highest space rises with keys that the session gives
given_highest : {H P : Type 0} → (v : KeyGroup H P) (keys : NewKeys H P) → (keys_given v keys).highest ≡ Initial → v.highest ≡ Initial
unfolding keys_given
given_highest v NoKeys h = h
given_highest v (HandshakeKeys k) h = cc
given_highest v (DataKeys k) h = cc

-- ---- the id that the peer chose

module _ {C : Type 0} where
  accepted_peer : (p : Paths C) (id : SpaceId) (v : Verdict) → (path_accepted p id v).peer_cid ≡ p.peer_cid
  unfolding path_accepted
  accepted_peer p Handshake verdict.Admitted = refl
  accepted_peer p _ _ = refl

  spun_greatest : (p : Paths C) (side : Side) (bit b : Bool) → (if b then record p { spin = spun_by side bit } else p).peer_cid ≡ p.peer_cid
  spun_greatest p side bit true = refl
  spun_greatest p side bit false = refl

  spun_peer : (p : Paths C) (id : SpaceId) (v : Verdict) (side : Side) (greatest bit : Bool) → (path_spun (path_accepted p id v) side greatest bit).peer_cid ≡ p.peer_cid
  unfolding path_spun
  spun_peer p id v side greatest bit = spun_greatest (path_accepted p id v) side bit greatest ∙ accepted_peer p id v

-- the moves with which the peer's ids change, or this end gets keys, and those that no input makes, or no move alone
abbrev pub IsPlain : {t : Types} → Move t → Type 0
IsPlain (Clock time) = ⊥
IsPlain (Take id fs) = ⊥
IsPlain (Seal time form n size fs) = ⊥
IsPlain (Fix cid) = ⊥
IsPlain (Renew time cid token keys) = ⊥
IsPlain (Insert new) = ⊥
IsPlain Switch = ⊥
IsPlain (Learn p) = ⊥
IsPlain (Write bytes keys session) = ⊥
IsPlain _ = Unit {0}

-- what it tells by itself, if it does, may be told so
abbrev pub IsToldSo : {t : Types} → Move t → Type 0
IsToldSo (Tell d) = MayBeTold d
IsToldSo _ = Unit {0}

pub may_tell : {t : Types} (x : Move t) (s : View t) → MayMove x s → IsToldSo x
unfolding MayMove
may_tell (Tell d) s may = may
may_tell _ s may = tt

-- it is neither that the peer chose an id nor that its parameters were read
abbrev pub IsOther : {t : Types} → Move t → Type 0
IsOther (Fix cid) = ⊥
IsOther (Renew time cid token keys) = ⊥
IsOther (Learn p) = ⊥
IsOther _ = Unit {0}

-- the fourth of these tests
unanswered_by : (a b c : Bool) (o : Option (List ℕ)) (d : Bool) → (a && (b && (c && (is_none o && d)))) ≡ true → o ≡ None
unanswered_by true true true None d h = refl
unanswered_by true true true (Some cid) d h = absurd cc
unanswered_by true true false o d h = absurd cc
unanswered_by true false c o d h = absurd cc
unanswered_by false b c o d h = absurd cc

module _ {t : Types} where
  -- the id that the peer chose stays, but for the move with which it chooses one, and so do its parameters
  pub other_peer : (x : Move t) (s : View t) → IsOther x → (state_move x s).paths.peer_cid ≡ s.paths.peer_cid
  unfolding state_move paths_move path_kept path_named path_received path_sent path_capped
  other_peer (Fix cid) s other = absurd other
  other_peer (Finish bytes control) s other = refl
  other_peer (Probe time n bytes q) s other = probed_chosen s.paths time n bytes q
  other_peer (Spend tokens) s other = refl
  other_peer (Insert new) s other = refl
  other_peer Switch s other = refl
  other_peer (Learn p) s other = absurd other
  other_peer (Accept time id n e g v) s other = spun_peer s.paths id v s.setup.fixed.side (nat_le (received_number s.numbers id) n) g.spin
  other_peer (Hear bytes) s other = refl
  other_peer (Forget id) s other = refl
  other_peer (Ack id n r) s other = refl
  other_peer (Fire r) s other = refl
  other_peer (Say q) s other = quiet_chosen s.paths q
  other_peer _ s other = refl

  other_parameters : (x : Move t) (s : View t) → IsOther x → (state_move x s).setup.peer ≡ s.setup.peer
  unfolding state_move setup_move token_expected word_drawn packet_drawn
  other_parameters (Learn p) s other = absurd other
  other_parameters (Renew time cid token keys) s other = absurd other
  other_parameters (Expect token) s other = refl
  other_parameters Skip s other = refl
  other_parameters (Seal time form n size fs) s other = refl
  other_parameters _ s other = refl

  -- so does the id that it chose with a Retry
  pub other_retry : (x : Move t) (s : View t) → IsOther x → (state_move x s).setup.retry_cid ≡ s.setup.retry_cid
  unfolding state_move setup_move token_expected word_drawn packet_drawn
  other_retry (Learn p) s other = absurd other
  other_retry (Renew time cid token keys) s other = absurd other
  other_retry (Expect token) s other = refl
  other_retry Skip s other = refl
  other_retry (Seal time form n size fs) s other = refl
  other_retry _ s other = refl

  other_chosen : (x : Move t) (s : View t) → IsOther x → chosen_in (state_move x s) ≡ chosen_in s
  other_chosen x s other = λ i. first_of (other_peer x s other i) (other_retry x s other i)

  -- a Retry is taken before the peer chose an id with a packet
  unanswered_peer : (s : View t) → is_unanswered s ≡ true → s.paths.peer_cid ≡ None
  unfolding is_unanswered
  unanswered_peer s h = unanswered_by (is_client s.setup.fixed.side) (is_handshake s.life.state) (not s.numbers.opened) s.paths.peer_cid (is_none s.setup.retry_cid) h

  abbrev flight_of : SpaceId → View t → List Entry
  flight_of id s = (recovery.space_of id s.lower.recovery).flight

module _ {t : Types} where
  -- ---- the peer's parameters are read once

  -- a client knows none while the handshake goes on, and a server none while its highest space is Initial
  pub record Once (s : View t) : Type 0 where
    pub client : s.setup.fixed.side ≡ Client → is_handshake s.life.state ≡ true → s.setup.peer ≡ None
    pub server : s.setup.fixed.side ≡ Server → s.keys.highest ≡ Initial → s.setup.peer ≡ None

  -- they stay, no handshake begins, and no space is left for the Initial one
  pub record Calm (s s' : View t) : Type 0 where
    pub side : s'.setup.fixed.side ≡ s.setup.fixed.side
    pub known : s'.setup.peer ≡ s.setup.peer
    pub handshake : is_handshake s'.life.state ≡ true → is_handshake s.life.state ≡ true
    pub highest : s'.keys.highest ≡ Initial → s.keys.highest ≡ Initial

  pub calm_here : (s : View t) → Calm s s
  calm_here s = record { side = refl; known = refl; handshake = λ h. h; highest = λ h. h }

  pub calm_next : (u v w : View t) → Calm u v → Calm v w → Calm u w
  calm_next u v w g h = record { side = h.side ∙ g.side; known = h.known ∙ g.known; handshake = λ e. g.handshake (h.handshake e); highest = λ e. g.highest (h.highest e) }

  pub calm_once : (s s' : View t) → Calm s s' → Once s → Once s'
  calm_once s s' calm h = record {
    client = λ side e. calm.known ∙ h.client (sym calm.side ∙ side) (calm.handshake e);
    server = λ side e. calm.known ∙ h.server (sym calm.side ∙ side) (calm.highest e);
  }

  pub same_side : (x : Move t) (s : View t) → (state_move x s).setup.fixed.side ≡ s.setup.fixed.side
  unfolding state_move setup_move token_expected parameters_known word_drawn packet_drawn retry_taken
  same_side (Expect token) s = refl
  same_side (Learn p) s = refl
  same_side (Renew time cid token keys) s = refl
  same_side Skip s = refl
  same_side (Seal time form n size fs) s = refl
  same_side _ s = refl

  move_handshake : (m : Meaning t) (x : Move t) (s : View t) → IsKnownAbout m x s → is_handshake (life_move x s).state ≡ true → is_handshake s.life.state ≡ true
  unfolding life_move life_closed life_drained data_ready life_established token_learned identifiers_wanted life_raised reason_given
  move_handshake m (Shut time close) s k h = cc
  move_handshake m (PeerCloses time) s k h = cc
  move_handshake m PeerClosesToo s k h = cc
  move_handshake m Establish s k h = cc
  move_handshake m (Raise to) s k h = let end : is_handshake to ≡ false = ap is_handshake k in cc
  move_handshake m (Give why) s k h = ap is_handshake (sym (given_state s.life why (is_none s.life.reason))) ∙ h
  move_handshake m (Hand frame) s k h = ap is_handshake (sym (heard_state (tells_datagram frame s.lower.datagrams) s.life)) ∙ h
  move_handshake m (Insert new) s k h = ap is_handshake (sym (named_state (token_by new s.lower.ids.remote) s.life s.paths.current.remote)) ∙ h
  move_handshake m Switch s k h = ap is_handshake (sym (named_state (next_token s.lower.ids.remote) s.life s.paths.current.remote)) ∙ h
  move_handshake m (Retire time n) s k h = ap is_handshake (sym (retired_state (may_retire n s.lower.ids.local) s.life time n (asks_one (active_limit s.setup.peer) n s.lower.ids))) ∙ h
  move_handshake m ReportReady s k h = absurd k
  move_handshake m ReportConnected s k h = absurd k
  move_handshake m ReportHeard s k h = absurd k
  move_handshake m ReportAllHeard s k h = absurd k
  move_handshake m ReportLost s k h = absurd k
  move_handshake m ReportNotice s k h = absurd k
  move_handshake m ReportNotices s k h = absurd k
  move_handshake m ReportDrained s k h = absurd k
  move_handshake m _ s k h = h

  move_highest : (m : Meaning t) (x : Move t) (s : View t) → IsKnownAbout m x s → (keys_move x s).highest ≡ Initial → s.keys.highest ≡ Initial
  unfolding keys_move failure_counted
  move_highest m (Clock time) s k h = absurd k
  move_highest m (Take id fs) s k h = absurd k
  move_highest m (Seal time form n size fs) s k h = absurd k
  move_highest m (Forget id) s k h = sym (dropped_highest s.keys id) ∙ h
  move_highest m Fail s k h = h
  move_highest m (Renew time cid token keys) s k h = sym (renewed_highest s.keys keys) ∙ h
  move_highest m (Unseal time n which fresh session) s k h = sym (opened_moves s.keys which n fresh).highest ∙ h
  move_highest m (Ack id n r) s k h = sym (acked_moves s.keys id n).highest ∙ h
  move_highest m (Update fresh session) s k h = sym (updated_moves s.keys fresh).highest ∙ h
  move_highest m Discard s k h = sym (discarded_moves s.keys).highest ∙ h
  move_highest m (Write bytes keys session) s k h = given_highest s.keys keys h
  move_highest m _ s k h = h

  pub calm_move : (m : Meaning t) (x : Move t) (s : View t) → IsKnownAbout m x s → IsOther x → Calm s (state_move x s)
  unfolding state_move
  calm_move m x s k other = record { side = same_side x s; known = other_parameters x s other; handshake = move_handshake m x s k; highest = move_highest m x s k }

  pub calm_fix : (cid : List ℕ) (s : View t) → Calm s (state_move (Fix cid) s)
  unfolding state_move setup_move life_move keys_move
  calm_fix cid s = record { side = refl; known = refl; handshake = λ h. h; highest = λ h. h }

  pub calm_renew : (time : ℕ) (cid token : List ℕ) (keys : SpaceKeys t.H t.P) (s : View t) → Calm s (state_move (Renew time cid token keys) s)
  unfolding state_move setup_move life_move keys_move retry_taken
  calm_renew time cid token keys s = record { side = refl; known = refl; handshake = λ h. h; highest = λ h. sym (renewed_highest s.keys keys) ∙ h }

  pub calm_seal : (time : ℕ) (form : Form) (fs : List FrameValue) (a : At t) → Calm a.state (move_to (Seal time form (next_number a.state.numbers (number_space form)) (packet_size a.state form fs) fs) (move_to (Take (number_space form) fs) a)).state
  unfolding move_to state_move setup_move life_move keys_move packet_drawn
  calm_seal time form fs a = record { side = refl; known = refl; handshake = λ h. h; highest = λ h. sym (used_highest a.state.keys form (next_number a.state.numbers (number_space form))) ∙ h }

module _ {t : Types} (m : Meaning t) (first : List ℕ) (given : List (List ℕ)) (I : IssuedCid → Type 0) where
  -- the peer's ids that are known, where it chose this one, or none, and its parameters are these, or none
  abbrev pub Known : Option (List ℕ) → Option TransportParameters → ℕ → List ℕ → Type 0
  Known chosen parameters = IsPeers first chosen parameters given

  -- packets in flight tell and retire what they may, in each space
  abbrev pub AllCarry : ℕ → Recovery → Type 0
  AllCarry n r = (id : SpaceId) → Carry I n (recovery.space_of id r).flight

  -- what holds of a view then
  pub record Stands (chosen : Option (List ℕ)) (parameters : Option TransportParameters) (s : View t) : Type 0 where
    pub fine : Fine (Known chosen parameters) I s.lower.ids
    pub flight : AllCarry (active_seq_of s.lower.ids.remote) s.lower.recovery

  -- it holds on, and the number in use isn't less
  pub record Stays (chosen : Option (List ℕ)) (parameters : Option TransportParameters) (s s' : View t) : Type 0 where
    pub stands : Stands chosen parameters s'
    pub later : active_seq_of s.lower.ids.remote ≤ active_seq_of s'.lower.ids.remote

  -- what was given to the ids is among these
  abbrev pub AllGiven : List Did → Type 0
  AllGiven ds = (body : List ℕ) → Contains (given_to_ids ds) body → Contains given body

  -- ids of this end that a move gives were issued
  abbrev pub GivesIssued : Move t → Type 0
  GivesIssued (Issue time ids) = AllIssued I ids
  GivesIssued _ = Unit {0}

  -- ---- recovery

  -- what an ACK settles
  ack_carries : (id : SpaceId) (r : After t.C) (s : View t) (n : ℕ) → IsSettledBy m id r s → AllCarry n s.lower.recovery → Carry I n r.lost × AllCarry n r.recovery
  unfolding settled_by
  ack_carries id r s n settled all =
      let once : IsPermutation (flight_of id s) (r.acked ++ (r.lost ++ (recovery.space_of id r.recovery).flight)) =
      subst (λ (x : After t.C). IsPermutation (flight_of id s) (x.acked ++ (x.lost ++ (recovery.space_of id x.recovery).flight))) (sym settled.is) (ack_flight m.control _ id _ _ _ _ _ s.lower.recovery s.paths.current.kept) in
      let both = carry_settled I n (flight_of id s) r.acked r.lost (recovery.space_of id r.recovery).flight once (all id) in
      (both.0, λ other. in_space other (same_or other id) both.1)
    where
      in_space : (other : SpaceId) → (other ≡ id) ⊎ (is_space other id ≡ false) → Carry I n (recovery.space_of id r.recovery).flight → Carry I n (recovery.space_of other r.recovery).flight
      in_space other (inl is) here = subst (λ (x : SpaceId). Carry I n (recovery.space_of x r.recovery).flight) (sym is) here
      in_space other (inr apart) here =
          subst (λ (es : List Entry). Carry I n es) (sym (ap (λ (x : After t.C). (recovery.space_of other x.recovery).flight) settled.is ∙ ack_other m.control _ other id _ _ _ _ _ s.lower.recovery s.paths.current.kept apart)) (all other)

  -- what the loss timer finds lost
  timer_carries : (f : Fired) (r r' : Recovery) (s : ConnectionIds) (chosen : Option (List ℕ)) (parameters : Option TransportParameters) → ((id : SpaceId) → FiresIn id r r' f) → AllCarry (active_seq_of s.remote) r → Fine (Known chosen parameters) I s →
      Goes (Known chosen parameters) I s (after (fired_ids f) s) × AllCarry (active_seq_of s.remote) r'
  timer_carries (fired.Lost space lost) r r' s chosen parameters fires all h =
      let n : ℕ = active_seq_of s.remote in
      let both = carry_settled I n (recovery.space_of space r).flight [] lost (recovery.space_of space r').flight ((fires space).0 refl) (all space) in
      (packets_go (Known chosen parameters) I lost s both.0 h, λ id. in_space id (same_or id space) both.1)
    where
      in_space : (id : SpaceId) → (id ≡ space) ⊎ (is_space id space ≡ false) → Carry I (active_seq_of s.remote) (recovery.space_of space r').flight → Carry I (active_seq_of s.remote) (recovery.space_of id r').flight
      in_space id (inl is) here = subst (λ (x : SpaceId). Carry I (active_seq_of s.remote) (recovery.space_of x r').flight) (sym is) here
      in_space id (inr apart) here = subst (λ (es : List Entry). Carry I (active_seq_of s.remote) es) (sym ((fires id).1 apart)) (all id)
  timer_carries (fired.Probe space count) r r' s chosen parameters fires all h =
      (steps_go (Known chosen parameters) I [] s tt h, λ id. subst (λ (es : List Entry). Carry I (active_seq_of s.remote) es) (sym (fires id)) (all id))
  timer_carries fired.Nothing r r' s chosen parameters fires all h = (steps_go (Known chosen parameters) I [] s tt h, λ id. subst (λ (es : List Entry). Carry I (active_seq_of s.remote) es) (sym (fires id)) (all id))

  fire_carries : (r : FiredAfter t.C) (s : View t) (chosen : Option (List ℕ)) (parameters : Option TransportParameters) → IsFiredBy m r s → Stands chosen parameters s →
      Goes (Known chosen parameters) I s.lower.ids (after (fired_ids r.fired) s.lower.ids) × AllCarry (active_seq_of s.lower.ids.remote) r.recovery
  unfolding fired_by
  fire_carries r s chosen parameters fires h =
      timer_carries r.fired s.lower.recovery r.recovery s.lower.ids chosen parameters
      (λ id. subst (λ (x : FiredAfter t.C). FiresIn id s.lower.recovery x.recovery x.fired) (sym fires.is) (fired_flight m.control id _ _ s.lower.recovery s.paths.current.kept)) h.flight h.fine

  -- a space is left
  dropped_carries : (space : SpaceId) (n : ℕ) (r : Recovery) → AllCarry n r → AllCarry n (dropped_after space r)
  unfolding dropped_after space_dropped
  dropped_carries space n r all = λ id.
      subst (λ (es : List Entry). Carry I n es) (sym (put_flight id space (record (recovery.space_of space r) { flight = []; eliciting_at = None; loss_time = None }) r)) (none_or id (rank space == rank id))
    where
      none_or : (id : SpaceId) (b : Bool) → Carry I n (if b then [] else (recovery.space_of id r).flight)
      none_or id true = tt
      none_or id false = all id

  -- a packet is in flight
  flown_carries : (owed : Bool) (l : Lower t.S) (space : SpaceId) (n number : ℕ) (packet : SentPacket) → AreTold I n packet.frames → AllCarry n l.recovery → AllCarry n (if owed then l else packet_flown l space number packet).recovery
  unfolding packet_flown
  flown_carries true l space n number packet told all = all
  flown_carries false l space n number packet told all = λ id. in_space id (same_or id space)
    where
      in_space : (id : SpaceId) → (id ≡ space) ⊎ (is_space id space ≡ false) → Carry I n (recovery.space_of id (recovery.sent_after space number packet l.recovery)).flight
      in_space id (inl is) =
          subst (λ (x : SpaceId). Carry I n (recovery.space_of x (recovery.sent_after space number packet l.recovery)).flight) (sym is)
          (subst (λ (es : List Entry). Carry I n es) (sym (flown_here space number packet l.recovery)) (carry_append I n (recovery.space_of space l.recovery).flight ((number, packet) ∷ []) (all space) (told, tt)))
      in_space id (inr apart) = subst (λ (es : List Entry). Carry I n es) (sym (flown_apart id space number packet l.recovery apart)) (all id)

  -- ---- the ids

  learned_goes : (s : ConnectionIds) (p : TransportParameters) (chosen : Option (List ℕ)) (o : Option PreferredAddress) → p.preferred_address ≡ o → Fine (Known chosen (Some p)) I s → Goes (Known chosen (Some p)) I s (after (preferred_steps o) s)
  learned_goes s p chosen None is h = steps_go (Known chosen (Some p)) I [] s tt h
  learned_goes s p chosen (Some address) is h = steps_go (Known chosen (Some p)) I (preferred_steps (Some address)) s (Preferred p address refl is refl refl, tt) h

  probe_goes : (id : SpaceId) (s : View t) (chosen : Option (List ℕ)) (parameters : Option TransportParameters) (b : Bool) → Stands chosen parameters s → Goes (Known chosen parameters) I s.lower.ids (after (if b then [] else again_ids (oldest_in s id)) s.lower.ids)
  probe_goes id s chosen parameters true h = steps_go (Known chosen parameters) I [] s.lower.ids tt h.fine
  probe_goes id s chosen parameters false h = again_goes (Known chosen parameters) I (flight_of id s) s.lower.ids (h.flight id) h.fine

  begun_goes : (id : SpaceId) (opens : Bool) (s : View t) (chosen : Option (List ℕ)) (parameters : Option TransportParameters) → Stands chosen parameters s → Goes (Known chosen parameters) I s.lower.ids (after (begun_ids id opens s) s.lower.ids)
  unfolding begun_ids probe_ids
  begun_goes id opens s chosen parameters h = begun_by ((space_of s.waiting.spaces id).probes == 0) opens
    where
      begun_by : (b o : Bool) → Goes (Known chosen parameters) I s.lower.ids (after (if b then [] else probe_ids id (if o then record s { waiting = probe_spent s.waiting id } else s)) s.lower.ids)
      begun_by true o = steps_go (Known chosen parameters) I [] s.lower.ids tt h.fine
      begun_by false true =
          let v : View t = record s { waiting = probe_spent s.waiting id } in
          probe_goes id v chosen parameters (wants_sending v id) (record { fine = h.fine; flight = h.flight })
      begun_by false false = probe_goes id s chosen parameters (wants_sending s id) h

  -- each move beside those with which a packet is taken and sealed, and that with which the peer chooses its id
  goes_by : (x : Move t) (s : View t) (chosen : Option (List ℕ)) (parameters : Option TransportParameters) → IsKnownAbout m x s → IsOther x → GivesIssued x → AllGiven (deeds_move x s) → Stands chosen parameters s → Goes (Known chosen parameters) I s.lower.ids (after (steps_by x s) s.lower.ids)
  unfolding deeds_move
  goes_by (Begin id opens) s chosen parameters k other issued gave h = begun_goes id opens s chosen parameters h
  goes_by (Ack id n r) s chosen parameters k other issued gave h = packets_go (Known chosen parameters) I r.lost s.lower.ids (ack_carries id r s (active_seq_of s.lower.ids.remote) k h.flight).0 h.fine
  goes_by (Fire r) s chosen parameters k other issued gave h = (fire_carries r s chosen parameters k h).0
  goes_by (Fix cid) s chosen parameters k other issued gave h = absurd other
  goes_by (Renew time cid token keys) s chosen parameters k other issued gave h = absurd other
  goes_by (Want time count) s chosen parameters k other issued gave h = steps_go (Known chosen parameters) I (cids.Asked count ∷ []) s.lower.ids (tt, tt) h.fine
  goes_by (Insert new) s chosen parameters k other issued gave h =
      steps_go (Known chosen parameters) I (cids.NewCame new ∷ []) s.lower.ids (Given new (gave (spelling (frames.NewConnectionId new)) (0, omega arith, refl)) refl refl, tt) h.fine
  goes_by Switch s chosen parameters k other issued gave h = steps_go (Known chosen parameters) I (cids.Switched ∷ []) s.lower.ids (tt, tt) h.fine
  goes_by (Retire time n) s chosen parameters k other issued gave h = steps_go (Known chosen parameters) I (steps_by (Retire time n) s) s.lower.ids (tt, tt) h.fine
  goes_by (Issue time ids) s chosen parameters k other issued gave h = steps_go (Known chosen parameters) I (cids.Given ids time ∷ []) s.lower.ids (issued, tt) h.fine
  goes_by Outlive s chosen parameters k other issued gave h = steps_go (Known chosen parameters) I (cids.Expired ∷ []) s.lower.ids (tt, tt) h.fine
  goes_by (Learn p) s chosen parameters k other issued gave h = absurd other
  goes_by x s chosen parameters k other issued gave h = steps_go (Known chosen parameters) I [] s.lower.ids tt h.fine

  carries_by : (x : Move t) (s : View t) (chosen : Option (List ℕ)) (parameters : Option TransportParameters) → IsKnownAbout m x s → Stands chosen parameters s → AllCarry (active_seq_of s.lower.ids.remote) (lower_move x s).recovery
  unfolding lower_move bytes_came session_read session_wrote limits_learned frame_handed streams_closed streams_stepped datagrams_stepped flight_dropped packets_settled timer_fired ids_stepped
  carries_by (Clock time) s chosen parameters k h = absurd k
  carries_by (Take id fs) s chosen parameters k h = absurd k
  carries_by (Seal time form n size fs) s chosen parameters k h = absurd k
  carries_by (Renew time cid token keys) s chosen parameters k h = dropped_carries Initial (active_seq_of s.lower.ids.remote) s.lower.recovery h.flight
  carries_by (Forget id) s chosen parameters k h = dropped_carries id (active_seq_of s.lower.ids.remote) s.lower.recovery h.flight
  carries_by (Ack id n r) s chosen parameters k h = (ack_carries id r s (active_seq_of s.lower.ids.remote) k h.flight).1
  carries_by (Fire r) s chosen parameters k h = (fire_carries r s chosen parameters k h).1
  carries_by (Begin id opens) s chosen parameters k h = subst (λ (l : Lower t.S). AllCarry (active_seq_of s.lower.ids.remote) l.recovery) (sym (begun_streams id opens s)) h.flight
  carries_by moves.ReportStream s chosen parameters k h = absurd k
  carries_by moves.ReportStreams s chosen parameters k h = absurd k
  carries_by x s chosen parameters k h = h.flight

  stays_by : (chosen : Option (List ℕ)) (parameters : Option TransportParameters) (s s' : View t) → Goes (Known chosen parameters) I s.lower.ids s'.lower.ids → AllCarry (active_seq_of s.lower.ids.remote) s'.lower.recovery → Stays chosen parameters s s'
  stays_by chosen parameters s s' goes all = record {
    stands = record { fine = goes.fine; flight = λ id. carry_more I (active_seq_of s.lower.ids.remote) (active_seq_of s'.lower.ids.remote) (flight_of id s') goes.later (all id) };
    later = goes.later;
  }

  move_stays : (x : Move t) (s : View t) (chosen : Option (List ℕ)) (parameters : Option TransportParameters) → IsKnownAbout m x s → IsOther x → GivesIssued x → AllGiven (deeds_move x s) → Stands chosen parameters s → Stays chosen parameters s (state_move x s)
  unfolding state_move
  move_stays x s chosen parameters k other issued gave h =
      stays_by chosen parameters s (state_move x s) (subst (λ (y : ConnectionIds). Goes (Known chosen parameters) I s.lower.ids y) (sym (moved_ids m x s k)) (goes_by x s chosen parameters k other issued gave h)) (carries_by x s chosen parameters k h)

  -- the peer chooses its id, where the one that packets carry has number 0, and is the only one
  fix_stays : (cid only : List ℕ) (s : View t) (chosen : Option (List ℕ)) (parameters : Option TransportParameters) → s.lower.ids.remote ≡ first_cid only → Stands chosen parameters s → Stays (Some cid) parameters s (state_move (Fix cid) s)
  unfolding state_move lower_move ids_stepped after after_step
  fix_stays cid only s chosen parameters is h =
      let same : renamed cid s.lower.ids.remote ≡ renamed cid (first_cid only) = ap (λ (xs : List KeptCid). renamed cid xs) is in
      let alike : active_seq_of (renamed cid s.lower.ids.remote) ≡ active_seq_of s.lower.ids.remote = ap active_seq_of same ∙ sym (ap active_seq_of is) in
      record {
        stands = record {
          fine = record {
            peers = subst (λ (xs : List KeptCid). Peers (Known (Some cid) parameters) xs) (sym same) (record { some = omega arith; grows = (omega arith, tt); known = (Chosen refl refl, tt) });
            below = subst (λ (n : ℕ). AllBelow n s.lower.ids.retired) (sym alike) h.fine.below;
            told = h.fine.told;
          };
          flight = λ id. subst (λ (n : ℕ). Carry I n (flight_of id s)) (sym alike) (h.flight id);
        };
        later = omega (arith, alike);
      }

  -- so it does with a Retry
  renew_stays : (time : ℕ) (cid token : List ℕ) (keys : SpaceKeys t.H t.P) (only : List ℕ) (s : View t) (chosen : Option (List ℕ)) (parameters : Option TransportParameters) → s.lower.ids.remote ≡ first_cid only → Stands chosen parameters s →
      Stays (Some cid) parameters s (state_move (Renew time cid token keys) s)
  unfolding state_move lower_move flight_dropped ids_stepped after after_step
  renew_stays time cid token keys only s chosen parameters is h =
      let same : renamed cid s.lower.ids.remote ≡ renamed cid (first_cid only) = ap (λ (xs : List KeptCid). renamed cid xs) is in
      let alike : active_seq_of (renamed cid s.lower.ids.remote) ≡ active_seq_of s.lower.ids.remote = ap active_seq_of same ∙ sym (ap active_seq_of is) in
      record {
        stands = record {
          fine = record {
            peers = subst (λ (xs : List KeptCid). Peers (Known (Some cid) parameters) xs) (sym same) (record { some = omega arith; grows = (omega arith, tt); known = (Chosen refl refl, tt) });
            below = subst (λ (n : ℕ). AllBelow n s.lower.ids.retired) (sym alike) h.fine.below;
            told = h.fine.told;
          };
          flight = subst (λ (n : ℕ). AllCarry n (dropped_after Initial s.lower.recovery)) (sym alike) (dropped_carries Initial (active_seq_of s.lower.ids.remote) s.lower.recovery h.flight);
        };
        later = omega (arith, alike);
      }

  renamed_only : (cid only : List ℕ) (xs : List KeptCid) → xs ≡ first_cid only → renamed cid xs ≡ first_cid cid
  renamed_only cid only xs is = ap (λ (ys : List KeptCid). renamed cid ys) is

  -- the peer's parameters are read, where none were known
  more_known : (chosen : Option (List ℕ)) (p : TransportParameters) (n : ℕ) (id : List ℕ) → Known chosen None n id → Known chosen (Some p) n id
  more_known chosen p n id (Chosen zero is) = Chosen zero is
  more_known chosen p n id (Preferred known address none prefers one is) = absurd cc
  more_known chosen p n id (Given new among number is) = Given new among number is

  learn_stays : (p : TransportParameters) (s : View t) (chosen : Option (List ℕ)) → IsKnownAbout m (Learn p) s → Stands chosen None s → Stays chosen (Some p) s (state_move (Learn p) s)
  unfolding state_move lower_move limits_learned streams_stepped ids_stepped
  learn_stays p s chosen k h =
      stays_by chosen (Some p) s (state_move (Learn p) s)
      (learned_goes s.lower.ids p chosen p.preferred_address refl (more_fine (Known chosen None) (Known chosen (Some p)) I I (more_known chosen p) (λ c is. is) s.lower.ids h.fine)) h.flight

  -- ---- before the peer chose its id

  -- this end has no keys but Initial ones, and the id that packets carry is the only one
  pub record Early (s : View t) : Type 0 where
    pub handshake : s.keys.handshake ≡ None
    pub one_rtt : s.keys.«data» ≡ None
    pub only : List ℕ
    pub remote : s.lower.ids.remote ≡ first_cid only

  forgot_handshake : (v : KeyGroup t.H t.P) (id : SpaceId) → v.handshake ≡ None → (keys_dropped v id).handshake ≡ None
  unfolding keys_dropped
  forgot_handshake v Initial h = h
  forgot_handshake v Handshake h = refl
  forgot_handshake v Data h = h

  forgot_one_rtt : (v : KeyGroup t.H t.P) (id : SpaceId) → v.«data» ≡ None → (keys_dropped v id).«data» ≡ None
  unfolding keys_dropped
  forgot_one_rtt v Initial h = h
  forgot_one_rtt v Handshake h = h
  forgot_one_rtt v Data h = refl

  early_handshake : (x : Move t) (s : View t) → IsPlain x → s.keys.handshake ≡ None → (keys_move x s).handshake ≡ None
  unfolding keys_move failure_counted
  early_handshake (Clock time) s plain h = absurd plain
  early_handshake (Take id fs) s plain h = absurd plain
  early_handshake (Seal time form n size fs) s plain h = absurd plain
  early_handshake (Write bytes keys session) s plain h = absurd plain
  early_handshake (Forget id) s plain h = forgot_handshake s.keys id h
  early_handshake Fail s plain h = h
  early_handshake (Renew time cid token keys) s plain h = absurd plain
  early_handshake (Unseal time n which fresh session) s plain h = (opened_moves s.keys which n fresh).handshake ∙ h
  early_handshake (Ack id n r) s plain h = (acked_moves s.keys id n).handshake ∙ h
  early_handshake (Update fresh session) s plain h = (updated_moves s.keys fresh).handshake ∙ h
  early_handshake Discard s plain h = (discarded_moves s.keys).handshake ∙ h
  early_handshake _ s plain h = h

  early_one_rtt : (x : Move t) (s : View t) → IsPlain x → s.keys.«data» ≡ None → (keys_move x s).«data» ≡ None
  unfolding keys_move failure_counted
  early_one_rtt (Clock time) s plain h = absurd plain
  early_one_rtt (Take id fs) s plain h = absurd plain
  early_one_rtt (Seal time form n size fs) s plain h = absurd plain
  early_one_rtt (Write bytes keys session) s plain h = absurd plain
  early_one_rtt (Forget id) s plain h = forgot_one_rtt s.keys id h
  early_one_rtt Fail s plain h = h
  early_one_rtt (Renew time cid token keys) s plain h = absurd plain
  early_one_rtt (Unseal time n which fresh session) s plain h = still_no_ring s.keys (key_opened s.keys which n fresh) (opened_moves s.keys which n fresh) h
  early_one_rtt (Ack id n r) s plain h = still_no_ring s.keys (key_acked s.keys id n) (acked_moves s.keys id n) h
  early_one_rtt (Update fresh session) s plain h = still_no_ring s.keys (key_updated s.keys fresh) (updated_moves s.keys fresh) h
  early_one_rtt Discard s plain h = still_no_ring s.keys (key_discarded s.keys) (discarded_moves s.keys) h
  early_one_rtt _ s plain h = h

  early_calm : (x : Move t) (s : View t) → IsPlain x → AreCalm (steps_by x s)
  early_calm (Begin id opens) s plain = begun_calm m id opens s
  early_calm (Ack id n r) s plain = packets_calm r.lost
  early_calm (Fire r) s plain = fired_calm r.fired
  early_calm (Fix cid) s plain = absurd plain
  early_calm (Renew time cid token keys) s plain = absurd plain
  early_calm (Want time count) s plain = (tt, tt)
  early_calm (Insert new) s plain = absurd plain
  early_calm Switch s plain = absurd plain
  early_calm (Retire time n) s plain = (tt, tt)
  early_calm (Issue time ids) s plain = (tt, tt)
  early_calm Outlive s plain = (tt, tt)
  early_calm (Learn p) s plain = absurd plain
  early_calm _ s plain = tt

  early_move : (x : Move t) (s : View t) → IsPlain x → IsKnownAbout m x s → Early s → Early (state_move x s)
  unfolding state_move
  early_move x s plain k h = record {
    handshake = early_handshake x s plain h.handshake;
    one_rtt = early_one_rtt x s plain h.one_rtt;
    only = h.only;
    remote = ap (λ (y : ConnectionIds). y.remote) (moved_ids m x s k) ∙ calm_steps (steps_by x s) s.lower.ids (early_calm x s plain) ∙ h.remote;
  }

  used_handshake : (v : KeyGroup t.H t.P) (form : Form) (n : ℕ) → v.handshake ≡ None → (key_used v form n).handshake ≡ None
  unfolding key_used count_one
  used_handshake v form.Initial n h = h
  used_handshake v form.Handshake n h = ap count_one h
  used_handshake v form.Early n h = h
  used_handshake v form.OneRtt n h = h

  used_one_rtt : (v : KeyGroup t.H t.P) (form : Form) (n : ℕ) → v.«data» ≡ None → (key_used v form n).«data» ≡ None
  unfolding key_used ring_used
  used_one_rtt v form.Initial n h = h
  used_one_rtt v form.Handshake n h = h
  used_one_rtt v form.Early n h = h
  used_one_rtt v form.OneRtt n h = ap (ring_used n) h

  -- ---- from one moment to another

  -- what holds of a view
  pub record Holds (s : View t) : Type 0 where
    pub stands : Stands (chosen_in s) s.setup.peer s
    pub early : s.paths.peer_cid ≡ None → Early s

  -- and of the deeds so far
  pub record HoldsAt (a : At t) : Type 0 where
    pub view : Holds a.state
    pub sealed : AreTold I (active_seq_of a.state.lower.ids.remote) (frames_sealed a.did)

  -- deeds were done, and the id that the peer chose stays
  pub record Told (a b : At t) : Type 0 where
    pub since : List Did
    pub appended : b.did ≡ a.did ++ since
    pub chosen : (cid : List ℕ) → a.state.paths.peer_cid ≡ Some cid → b.state.paths.peer_cid ≡ Some cid

  pub told_here : (a : At t) → Told a a
  told_here a = record { since = []; appended = sym (append-nil a.did); chosen = λ cid e. e }

  pub told_next : (a b c : At t) → Told a b → Told b c → Told a c
  told_next a b c g h = record {
    since = g.since ++ h.since;
    appended = h.appended ∙ ap (λ (x : List Did). x ++ h.since) g.appended ∙ append_assoc a.did g.since h.since;
    chosen = λ cid e. h.chosen cid (g.chosen cid e);
  }

  other_told : (x : Move t) (a : At t) → IsOther x → Told a (move_to x a)
  unfolding move_to
  other_told x a other = record { since = deeds_move x a.state; appended = told_appends a.did (deeds_move x a.state); chosen = λ cid e. other_peer x a.state other ∙ e }

  fixed_peer : (x : Move t) (s : View t) → MayMove x s → (cid : List ℕ) → s.paths.peer_cid ≡ Some cid → (state_move x s).paths.peer_cid ≡ Some cid
  unfolding MayMove state_move paths_move path_named path_capped path_kept
  fixed_peer (Fix other) s may cid e = absurd (let none : s.paths.peer_cid ≡ None = may in cc)
  fixed_peer (Learn p) s may cid e = e
  fixed_peer (Renew time other token keys) s may cid e = e
  fixed_peer x s may cid e = other_peer x s tt ∙ e

  pub told_move : (x : Move t) (a : At t) → MayMove x a.state → Told a (move_to x a)
  unfolding move_to
  told_move x a may = record { since = deeds_move x a.state; appended = told_appends a.did (deeds_move x a.state); chosen = fixed_peer x a.state may }

  -- what holds on, where what was given to the ids is among these
  pub record Leads (a b : At t) : Type 0 where
    pub told : Told a b
    pub holds : AllGiven b.did → HoldsAt a → HoldsAt b × (active_seq_of a.state.lower.ids.remote ≤ active_seq_of b.state.lower.ids.remote)

  pub leads_here : (a : At t) → Leads a a
  leads_here a = record { told = told_here a; holds = λ among h. (h, omega arith) }

  given_front : (ds es : List Did) → AllGiven (ds ++ es) → AllGiven ds
  given_front ds es h = λ body among. h body (subst (λ (l : List (List ℕ)). Contains l body) (sym (given_append ds es)) (Contains-append_left (given_to_ids ds) (given_to_ids es) body among))

  given_behind : (ds es : List Did) → AllGiven (ds ++ es) → AllGiven es
  given_behind ds es h = λ body among. h body (subst (λ (l : List (List ℕ)). Contains l body) (sym (given_append ds es)) (Contains-append_right (given_to_ids ds) (given_to_ids es) body among))

  given_before : (a b : At t) → Told a b → AllGiven b.did → AllGiven a.did
  given_before a b told among = given_front a.did told.since (subst (λ (es : List Did). AllGiven es) told.appended among)

  pub leads_next : (a b c : At t) → Leads a b → Leads b c → Leads a c
  leads_next a b c g h = record {
    told = told_next a b c g.told h.told;
    holds = λ gave start.
        let one = g.holds (given_before b c h.told gave) start in
        let two = h.holds gave one.0 in
        let first_later = one.1 in
        let second_later = two.1 in
        (two.0, omega arith);
  }

  -- what is told with such a move seals nothing
  told_unsealed : (d : Did) → MayBeTold d → frames_sealed (d ∷ []) ≡ []
  told_unsealed (did.Piece space number v) h = refl
  told_unsealed (did.Gave to body) h = refl
  told_unsealed _ h = absurd h

  unsealed_by : (x : Move t) (s : View t) → IsKnownAbout m x s → IsToldSo x → frames_sealed (deeds_move x s) ≡ []
  unfolding deeds_move
  unsealed_by (Take id fs) s k may = absurd k
  unsealed_by (Seal time form n size fs) s k may = absurd k
  unsealed_by (Tell d) s k may = told_unsealed d may
  unsealed_by (Hand f) s k may = handed_told (λ ds. frames_sealed ds ≡ []) f refl (λ body. refl)
  unsealed_by x s k may = refl

  -- a move
  move_leads : (x : Move t) (a : At t) → IsKnownAbout m x a.state → IsToldSo x → IsOther x → GivesIssued x → (Holds a.state → (state_move x a.state).paths.peer_cid ≡ None → Early (state_move x a.state)) → Leads a (move_to x a)
  unfolding move_to
  move_leads x a k may other issued early = record {
    told = other_told x a other;
    holds = λ among h.
        let s : View t = a.state in
        let ds : List Did = deeds_move x s in
        let same : chosen_in (state_move x s) ≡ chosen_in s = other_chosen x s other in
        let gave : AllGiven ds = given_behind a.did ds (subst (λ (es : List Did). AllGiven es) (told_appends a.did ds) among) in
        let known : (state_move x s).setup.peer ≡ s.setup.peer = other_parameters x s other in
        let stays : Stays (chosen_in s) s.setup.peer s (state_move x s) = move_stays x s (chosen_in s) s.setup.peer k other issued gave h.view.stands in
        let n : ℕ = active_seq_of (state_move x s).lower.ids.remote in (
          record {
            view = record {
              stands = subst (λ (chosen : Option (List ℕ)). Stands chosen (state_move x s).setup.peer (state_move x s)) (sym same)
                  (subst (λ (parameters : Option TransportParameters). Stands (chosen_in s) parameters (state_move x s)) (sym known) stays.stands);
              early = early h.view;
            };
            sealed = subst (λ (fs : List FrameValue). AreTold I n fs) (sym (ap frames_sealed (told_appends a.did ds) ∙ frames_append a.did ds ∙ ap (λ (fs : List FrameValue). frames_sealed a.did ++ fs) (unsealed_by x s k may)))
                (told_append I n (frames_sealed a.did) [] (all_more I (active_seq_of s.lower.ids.remote) n (frames_sealed a.did) stays.later h.sealed) tt);
          },
          stays.later,
        );
  }

  pub plain_other : (x : Move t) → IsPlain x → IsOther x
  plain_other (Fix cid) plain = absurd plain
  plain_other (Learn p) plain = absurd plain
  plain_other (Renew time cid token keys) plain = absurd plain
  plain_other _ plain = tt

  -- a plain one
  pub plain_leads : (x : Move t) (a : At t) → IsPlain x → IsKnownAbout m x a.state → IsToldSo x → GivesIssued x → Leads a (move_to x a)
  plain_leads x a plain k may issued =
      let other : IsOther x = plain_other x plain in
      move_leads x a k may other issued (λ h none. early_move x a.state plain k (h.early (sym (other_peer x a.state other) ∙ none)))

  -- and any, once the peer chose its id
  abbrev pub Later : At t → At t → Type 0
  Later a b = (cid : List ℕ) → a.state.paths.peer_cid ≡ Some cid → Leads a b

  pub later_here : (a : At t) → Later a a
  later_here a = λ cid e. leads_here a

  pub later_next : (a b c : At t) → Later a b → Later b c → Later a c
  later_next a b c g h = λ cid e. let one = g cid e in leads_next a b c one (h cid (one.told.chosen cid e))

  pub later_move : (x : Move t) (a : At t) → IsKnownAbout m x a.state → IsOther x → IsToldSo x → GivesIssued x → Later a (move_to x a)
  later_move x a k other told issued = λ cid e. move_leads x a k told other issued (λ h none. absurd (let same = other_peer x a.state other in cc))

  -- its parameters are read, where none were known
  pub later_learn : (p : TransportParameters) (a : At t) → IsKnownAbout m (Learn p) a.state → a.state.setup.peer ≡ None → Later a (move_to (Learn p) a)
  unfolding move_to state_move paths_move path_named setup_move parameters_known deeds_move path_capped path_kept
  later_learn p a k none = λ cid e. record {
    told = record { since = []; appended = sym (append-nil a.did); chosen = λ other is. is };
    holds = λ among h.
        let s : View t = a.state in
        let stays : Stays (chosen_in s) (Some p) s (state_move (Learn p) s) = learn_stays p s (chosen_in s) k (subst (λ (parameters : Option TransportParameters). Stands (chosen_in s) parameters s) none h.view.stands) in
        let n : ℕ = active_seq_of (state_move (Learn p) s).lower.ids.remote in (
          record { view = record { stands = stays.stands; early = λ unknown. absurd (let no : s.paths.peer_cid ≡ None = unknown in cc) }; sealed = all_more I (active_seq_of s.lower.ids.remote) n (frames_sealed a.did) stays.later h.sealed },
          stays.later,
        );
  }

  -- the peer chooses its id
  pub fix_leads : (cid : List ℕ) (a : At t) → a.state.paths.peer_cid ≡ None → Leads a (move_to (Fix cid) a)
  unfolding move_to MayMove deeds_move state_move paths_move peer_fixed setup_move
  fix_leads cid a none = record {
    told = told_move (Fix cid) a none;
    holds = λ among h.
        let s : View t = a.state in
        let early : Early s = h.view.early none in
        let stays : Stays (Some cid) s.setup.peer s (state_move (Fix cid) s) = fix_stays cid early.only s (chosen_in s) s.setup.peer early.remote h.view.stands in
        let n : ℕ = active_seq_of (state_move (Fix cid) s).lower.ids.remote in (
          record { view = record { stands = stays.stands; early = λ e. absurd (let no : Some cid ≡ None = e in cc) }; sealed = all_more I (active_seq_of s.lower.ids.remote) n (frames_sealed a.did) stays.later h.sealed },
          stays.later,
        );
  }

  -- so it does with a Retry
  pub renew_leads : (time : ℕ) (cid token : List ℕ) (keys : SpaceKeys t.H t.P) (a : At t) → MayMove (Renew time cid token keys) a.state → Leads a (move_to (Renew time cid token keys) a)
  unfolding move_to MayMove deeds_move state_move paths_move path_named setup_move retry_taken keys_move initial_renewed lower_move flight_dropped ids_stepped after after_step
  renew_leads time cid token keys a may = record {
    told = told_move (Renew time cid token keys) a may;
    holds = λ among h.
        let s : View t = a.state in
        let none : s.paths.peer_cid ≡ None = unanswered_peer s may in
        let early : Early s = h.view.early none in
        let behind : View t = state_move (Renew time cid token keys) s in
        let stays : Stays (Some cid) s.setup.peer s behind = renew_stays time cid token keys early.only s (chosen_in s) s.setup.peer early.remote h.view.stands in
        let n : ℕ = active_seq_of behind.lower.ids.remote in (
          record {
            view = record {
              stands = subst (λ (chosen : Option (List ℕ)). Stands chosen s.setup.peer behind) (sym (ap (λ (o : Option (List ℕ)). first_of o (Some cid)) none)) stays.stands;
              early = λ e. record { handshake = early.handshake; one_rtt = early.one_rtt; only = cid; remote = renamed_only cid early.only s.lower.ids.remote early.remote };
            };
            sealed = subst (λ (fs : List FrameValue). AreTold I n fs) (sym (frames_append a.did (did.Piece None None verdict.RetryTaken ∷ [])))
                (told_append I n (frames_sealed a.did) [] (all_more I (active_seq_of s.lower.ids.remote) n (frames_sealed a.did) stays.later h.sealed) tt);
          },
          stays.later,
        );
  }

  -- a packet is taken and sealed
  pub packet_leads : (time : ℕ) (form : Form) (fs : List FrameValue) (a : At t) → IsSealable time a.state form fs →
      Leads a (move_to (Seal time form (next_number a.state.numbers (number_space form)) (packet_size a.state form fs) fs) (move_to (Take (number_space form) fs) a))
  unfolding move_to state_move paths_move keys_move lower_move deeds_move frames_taken ids_stepped streams_stepped datagrams_stepped flown_packet setup_move packet_drawn
  packet_leads time form fs a may =
      let s : View t = a.state in
      let b : At t = move_to (Take (number_space form) fs) a in
      let number : ℕ = next_number s.numbers (number_space form) in
      let packet : SentPacket = flown_packet time (packet_size s form fs) fs in
      let c : At t = move_to (Seal time form number (packet_size s form fs) fs) b in
      let owed : Bool = b.state.waiting.close_owed in
      let same : c.state.lower.ids ≡ after (sealed_cids fs) s.lower.ids = flown_ids owed b.state.lower (number_space form) number packet in
      record {
        told = record { since = did.Sealed (number_space form) number (epoch_in s.keys form) (is_early form) fs ∷ []; appended = refl; chosen = λ cid e. e };
        holds = λ among h.
            let n : ℕ = active_seq_of s.lower.ids.remote in
            let told = all_told (Known (chosen_in s) s.setup.peer) I fs s.lower.ids may.next h.view.stands.fine in
            let goes : Goes (Known (chosen_in s) s.setup.peer) I s.lower.ids c.state.lower.ids = subst (λ (y : ConnectionIds). Goes (Known (chosen_in s) s.setup.peer) I s.lower.ids y) (sym same) told.1 in
            let stays : Stays (chosen_in s) s.setup.peer s c.state = stays_by (chosen_in s) s.setup.peer s c.state goes (flown_carries owed b.state.lower (number_space form) n number packet (told_kept I n fs told.0) h.view.stands.flight) in
            let k : ℕ = active_seq_of c.state.lower.ids.remote in (
              record {
                view = record {
                  stands = stays.stands;
                  early = λ none.
                      let early = h.view.early none in
                      record {
                        handshake = used_handshake s.keys form number early.handshake;
                        one_rtt = used_one_rtt s.keys form number early.one_rtt;
                        only = early.only;
                        remote = ap (λ (y : ConnectionIds). y.remote) same ∙ calm_steps (sealed_cids fs) s.lower.ids (sealed_calm fs) ∙ early.remote;
                      };
                };
                sealed = subst (λ (gs : List FrameValue). AreTold I k gs) (sym (frames_append a.did (did.Sealed (number_space form) number (epoch_in s.keys form) (is_early form) fs ∷ [])))
                    (told_append I k (frames_sealed a.did) (fs ++ []) (all_more I n k (frames_sealed a.did) stays.later h.sealed) (told_append I k fs [] (all_more I n k fs stays.later told.0) tt));
              },
              stays.later,
            );
      }

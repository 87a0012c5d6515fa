-- Over a run each byte that the session wrote, in a space with keys, waits, is in flight or was acknowledged, while the connection is open.
use Rattle.std.proofs.Common.{◌≡◌, ℕ, ◌+◌, ◌≤◌, ◌⊎◌, inl, inr, List, [], ◌∷◌, ◌++◌, refl, ap, sym, ◌∙◌, subst, Bool, true, false, if◌then◌else◌, append_assoc, append-nil}
use Rattle.std.specs.Prelude.{◌-◌, ◌<◌, is_none, IsPermutation}
use Rattle.std.specs.List.{list_any}
use Rattle.qc_base.specs.declared.side.SpaceId.{SpaceId}
use Rattle.qc_base.specs.declared.side.SpaceId.TheVariants.{Initial, Handshake, «Data»}
use Rattle.qc_flight.specs.Packets.{Entry}
use Rattle.qc_flight.specs.declared.sent.SentPacket.{SentPacket}
use Rattle.qc_frame.specs.Frame.{AckValue, FrameValue}
use Rattle.qc_frame.specs.FrameSpelling.{spelling}
use Rattle.qc_frame.specs.declared.frames.FrameOf.TheVariants as frames
use Rattle.qc_recovery.specs.Calls.{dropped_after}
use Rattle.qc_recovery.specs.Runs.{in_space}
use Rattle.qc_recovery.specs.Steps.{After, FiredAfter, space_dropped}
use Rattle.qc_recovery.specs.Steps as recovery
use Rattle.qc_recovery.specs.declared.recovery.Recovery.{Recovery}
use Rattle.qc_recovery.proofs.RunsSettle.{put_flight}
use Rattle.qc_send_stream.specs.Buffer.{Buffer, range_lost}
use Rattle.qc_state.specs.declared.form.Form.{Form}
use Rattle.qc_state.specs.declared.spaces.Spaces.{Spaces}
use Rattle.qc_state.specs.declared.waiting.SpaceWaiting.{SpaceWaiting}
use Rattle.qc_state.specs.declared.waiting.Waiting.{Waiting}
use Rattle.qc_laws.specs.CryptoLaws.{BytesHold, CryptoHolds, CryptoKept, KeepsBytes}
use Rattle.qc_state.specs.Flight.{flown_packet}
use Rattle.qc_state.specs.Forms.{number_space, is_early}
use Rattle.qc_state.specs.Spaces.{is_space, space_of, with_space}
use Rattle.qc_state.specs.Waiting.{ack_released, acked_in, bundle_next, bytes_again, came_in, close_begun, crypto_more, crypto_written, done_asked, frames_again, hello_again, lost_in, nothing_left, packet_came, packet_told, packets_acked, packets_lost, ping_asked, probe_spent, released, space_left, waiting_without, without_all}
use Rattle.qc_path.specs.Arrived.{arrived}
use Rattle.qc_state.specs.declared.deeds.Did.{Did}
use Rattle.qc_state.specs.declared.deeds.Did.TheVariants as did
use Rattle.qc_state.specs.declared.deeds.Layer.TheVariants as layer
use Rattle.qc_state.specs.declared.input.Input.{Input}
use Rattle.qc_state.specs.declared.keys.KeyGroup.{KeyGroup}
use Rattle.qc_state.specs.declared.keys.SpaceKeys.{SpaceKeys}
use Rattle.qc_state.specs.declared.life.Life.{Life}
use Rattle.qc_state.specs.declared.lower.Lower.{Lower}
use Rattle.qc_state.specs.declared.trace.Step.{Step}
use Rattle.qc_state.specs.Acks.{is_ack}
use Rattle.qc_laws.specs.EndLaws.{Ends}
use Rattle.qc_state.specs.Headline.{deeds_of}
use Rattle.qc_state.specs.Keys.{NewKeys, failure_counted, has_keys, keys_given, epoch_in, key_acked, key_discarded, key_opened, key_updated}
use Rattle.qc_state.specs.Life.{connected_reported, data_ready, drained_reported, identifiers_wanted, is_open, life_closed, life_drained, life_established, life_raised, lost_reported, ready_reported, reason_given, token_learned, notice_reported, notices_reported, all_heard_reported, heard_reported}
use Rattle.qc_state.specs.Lower.{bytes_came, flight_dropped, packet_flown, packets_settled, session_read, session_wrote, timer_fired, limits_learned, frame_handed, streams_closed, streams_stepped, event_told, events_told, datagrams_stepped, frames_sealed, ids_stepped}
use Rattle.qc_state.specs.Moves.{Accept, Ack, AreNext, Ask, Begin, Clock, Confirm, PeerClosesToo, Establish, Fail, Fire, Forget, Give, PeerCloses, MayMove, Move, Owe, Raise, Release, ReportConnected, ReportDrained, ReportLost, ReportReady, ReportNotice, ReportNotices, Seal, Shut, Take, Write, arrival_of, keys_move, life_move, lower_move, paths_move, state_move, waiting_move, ReportStream, ReportStreams, ReportHeard, ReportAllHeard, Hand, Insert, Switch, Retire, Unseal, Discard, Update, Renew}
use Rattle.qc_state.specs.Numbers.{next_number}
use Rattle.qc_state.specs.Numbers as numbers
use Rattle.qc_state.specs.Offers.{packet_begun}
use Rattle.qc_state.specs.Receiving.{is_below}
use Rattle.qc_state.specs.Recovering.{fired_by, settled_by}
use Rattle.qc_laws.specs.RecoveryLaws.{RecoveryStep, steps_of}
use Rattle.qc_laws.specs.RecoveryLaws as laws
use Rattle.qc_state.specs.Run.{IsStep, Run, began, called, input_after, reported, time_of}
use Rattle.qc_state.specs.Run as run
use Rattle.qc_state.specs.Sending.{packet_size}
use Rattle.qc_state.specs.Tokens.{asked_tokens}
use Rattle.qc_laws.proofs.TokensAsked.{asked_crypto}
use Rattle.qc_state.specs.Types.{Types, Meaning}
use Rattle.qc_state.specs.View.{View, At}
use Rattle.qc_laws.proofs.EndsHold.{began_ends, low_open, step_ends}
use Rattle.qc_laws.proofs.KnownMoves.{IsFiredBy, IsKnownMove, IsSettledBy}
use Rattle.qc_state.proofs.Probed.{begun_holds, begun_streams}
use Rattle.qc_state.proofs.OpenPackets.{IsUnacked}
use Rattle.qc_laws.proofs.RecoveryFold.{Covers, covers_next, covers_same, fold_from, input_part, kept_same, recovers_by}
use Rattle.qc_state.proofs.KeySteps.{acked_moves, discarded_moves, opened_moves, same_keys, updated_moves, renewed_highest, renewed_keys}
use Rattle.qc_state.proofs.Transmitted.{IsSealable}
use Rattle.qc_laws.proofs.CryptoBuffers.{More, all_lost_awaited, crypto_more_holds, crypto_more_sent, lost_grows, lost_in_more, more_here, more_next, more_same, or_left}
use Rattle.qc_laws.proofs.CryptoPlaces.{FiresIn, ack_flight, ack_other, acked_crypto, apart_lower, apart_values, bundled_spaces, came_crypto, dropped_highest, dropped_keys, failed_keys, fire_kept, fired_flight, flown_lower, given_above, given_keys, given_open, here_values, in_other, in_same, left_counts, more_bytes, narrow, none_written, not_above, put_again, put_crypto, put_other, rank_other, same_or, sealed_apart, sealed_stream, settled_bytes, settled_other, settled_stream, used_highest, used_keys, written_same}
use Rattle.qc_state.specs.Datagrams.{tells_datagram}
use Rattle.qc_laws.proofs.StreamCalls.{heard_state, named_state, retired_state}
use Rattle.qc_cids.specs.Cids.{asks_one, next_token, token_by}
use Rattle.qc_ids.specs.LocalCids.{may_retire}
use Rattle.qc_state.specs.Ids.{active_limit}

-- ---- moves

module _ {t : Types} where
  abbrev crypto_of : SpaceId → View t → Buffer
  crypto_of id s = (space_of s.waiting.spaces id).crypto

  abbrev flight_of : SpaceId → View t → List Entry
  flight_of id s = (recovery.space_of id s.lower.recovery).flight

  -- what stays of a space
  record Same (id : SpaceId) (s s' : View t) : Type 0 where
    pub more : More (crypto_of id s) (crypto_of id s')
    pub flight : flight_of id s' ≡ flight_of id s
    pub highest : s'.keys.highest ≡ s.keys.highest
    pub keys : has_keys s'.keys id ≡ true → has_keys s.keys id ≡ true
    pub opened : is_open s'.life.state ≡ true → is_open s.life.state ≡ true

  same_holds : (id : SpaceId) (before : List Entry) (s s' : View t) → Same id s s' → CryptoKept id before s → CryptoKept id (before ++ []) s'
  same_holds id before s s' same h = record {
    sent = subst (λ (n : ℕ). n ≤ (crypto_of id s').written) (sym same.more.sent) (subst (λ (n : ℕ). (crypto_of id s).sent ≤ n) (sym same.more.written) h.sent);
    above = λ e. same.more.written ∙ h.above (ap (λ (x : SpaceId). is_below x id) (sym same.highest) ∙ e);
    holds = λ o k. more_bytes before [] (crypto_of id s) (crypto_of id s') (flight_of id s) (flight_of id s') same.more same.flight (h.holds (same.opened o) (same.keys k));
  }

  -- the moves that leave the bytes, what is in flight, and the keys
  abbrev pub IsStill : Move t → Type 0
  IsStill (Clock time) = ⊥
  IsStill (Take id fs) = ⊥
  IsStill (Seal time form n size fs) = ⊥
  IsStill (Forget id) = ⊥
  IsStill (Renew time cid token keys) = ⊥
  IsStill (Ack id n after) = ⊥
  IsStill (Fire after) = ⊥
  IsStill (Write bytes keys session) = ⊥
  IsStill (Begin id opens) = ⊥
  IsStill _ = Unit {0}

  still_crypto : (x : Move t) (s : View t) (id : SpaceId) → IsStill x → (space_of (waiting_move x s).spaces id).crypto ≡ crypto_of id s
  unfolding waiting_move ping_asked packet_came came_in done_asked ack_released close_begun
  still_crypto (Ask space) s id h = put_crypto id space s.waiting.spaces (record (space_of s.waiting.spaces space) { ping = true }) refl
  still_crypto (Accept time space n e g v) s id h =
      asked_crypto id (asked_tokens space v s.issuer) (packet_came s.waiting space (arrived n (numbers.came_in s.numbers space)) (arrival_of time n e g) g.mark)
      ∙ came_crypto g.mark (with_space s.waiting.spaces space (came_in (is_space space «Data») (arrived n (numbers.came_in s.numbers space)) (arrival_of time n e g) g.mark (space_of s.waiting.spaces space))) id
      ∙ put_crypto id space s.waiting.spaces (came_in (is_space space «Data») (arrived n (numbers.came_in s.numbers space)) (arrival_of time n e g) g.mark (space_of s.waiting.spaces space)) refl
  still_crypto Confirm s id h = put_crypto id «Data» s.waiting.spaces (record (space_of s.waiting.spaces «Data») { done = true }) refl
  still_crypto Release s id h = put_crypto id «Data» s.waiting.spaces (released (space_of s.waiting.spaces «Data»)) refl
  still_crypto Owe s id h = refl
  still_crypto (Shut time close) s id h = refl
  still_crypto (Clock time) s id h = absurd h
  still_crypto (Take space fs) s id h = absurd h
  still_crypto (Seal time form n size fs) s id h = absurd h
  still_crypto (Forget space) s id h = absurd h
  still_crypto (Renew time cid token keys) s id h = absurd h
  still_crypto (Ack space n after) s id h = absurd h
  still_crypto (Fire after) s id h = absurd h
  still_crypto (Write bytes keys session) s id h = absurd h
  still_crypto (Begin space opens) s id h = absurd h
  still_crypto _ s id h = refl

  pub still_lower : (x : Move t) (s : View t) → IsStill x → (lower_move x s).recovery ≡ s.lower.recovery
  unfolding lower_move bytes_came session_read limits_learned frame_handed streams_closed streams_stepped datagrams_stepped event_told events_told frames_sealed ids_stepped
  still_lower (Clock time) s h = absurd h
  still_lower (Take space fs) s h = absurd h
  still_lower (Seal time form n size fs) s h = absurd h
  still_lower (Forget space) s h = absurd h
  still_lower (Renew time cid token keys) s h = absurd h
  still_lower (Ack space n after) s h = absurd h
  still_lower (Fire after) s h = absurd h
  still_lower (Write bytes keys session) s h = absurd h
  still_lower (Begin space opens) s h = absurd h
  still_lower _ s h = refl

  still_highest : (x : Move t) (s : View t) → IsStill x → (keys_move x s).highest ≡ s.keys.highest
  unfolding keys_move failure_counted
  still_highest (Clock time) s h = absurd h
  still_highest (Take space fs) s h = absurd h
  still_highest (Seal time form n size fs) s h = absurd h
  still_highest (Forget space) s h = absurd h
  still_highest (Renew time cid token keys) s h = absurd h
  still_highest (Ack space n after) s h = absurd h
  still_highest (Fire after) s h = absurd h
  still_highest (Write bytes keys session) s h = absurd h
  still_highest (Begin space opens) s h = absurd h
  still_highest (Unseal time n which fresh session) s h = (opened_moves s.keys which n fresh).highest
  still_highest (Update fresh session) s h = (updated_moves s.keys fresh).highest
  still_highest Discard s h = (discarded_moves s.keys).highest
  still_highest _ s h = refl

  still_keys : (x : Move t) (s : View t) (id : SpaceId) → IsStill x → has_keys (keys_move x s) id ≡ true → has_keys s.keys id ≡ true
  unfolding keys_move
  still_keys Fail s id h k = failed_keys s.keys id k
  still_keys (Clock time) s id h k = absurd h
  still_keys (Take space fs) s id h k = absurd h
  still_keys (Seal time form n size fs) s id h k = absurd h
  still_keys (Forget space) s id h k = absurd h
  still_keys (Renew time cid token keys) s id h k = absurd h
  still_keys (Ack space n after) s id h k = absurd h
  still_keys (Fire after) s id h k = absurd h
  still_keys (Write bytes keys session) s id h k = absurd h
  still_keys (Begin space opens) s id h k = absurd h
  still_keys (Unseal time n which fresh session) s id h k = sym (same_keys s.keys (key_opened s.keys which n fresh) (opened_moves s.keys which n fresh) id) ∙ k
  still_keys (Update fresh session) s id h k = sym (same_keys s.keys (key_updated s.keys fresh) (updated_moves s.keys fresh) id) ∙ k
  still_keys Discard s id h k = sym (same_keys s.keys (key_discarded s.keys) (discarded_moves s.keys) id) ∙ k
  still_keys _ s id h k = k

  -- a life that is open was open
  pub move_open : (m : Meaning t) (x : Move t) (s : View t) → IsKnownMove m x s → MayMove x s → is_open (life_move x s).state ≡ true → is_open s.life.state ≡ true
  unfolding life_move MayMove life_closed life_drained data_ready life_established token_learned identifiers_wanted life_raised reason_given ready_reported connected_reported heard_reported all_heard_reported lost_reported notice_reported notices_reported drained_reported
  move_open m (Shut time close) s k may h = cc
  move_open m (PeerCloses time) s k may h = cc
  move_open m PeerClosesToo s k may h = cc
  move_open m Establish s k may h = low_open s.life.state may
  move_open m (Raise to) s k may h = let end : is_open to ≡ false = ap is_open k in cc
  move_open m (Give why) s k may h = ap is_open (sym (given_open s.life why (is_none s.life.reason))) ∙ h
  move_open m (Hand frame) s k may h = ap is_open (sym (heard_state (tells_datagram frame s.lower.datagrams) s.life)) ∙ h
  move_open m (Insert new) s k may h = ap is_open (sym (named_state (token_by new s.lower.ids.remote) s.life s.paths.current.remote)) ∙ h
  move_open m Switch s k may h = ap is_open (sym (named_state (next_token s.lower.ids.remote) s.life s.paths.current.remote)) ∙ h
  move_open m (Retire time n) s k may h = ap is_open (sym (retired_state (may_retire n s.lower.ids.local) s.life time n (asks_one (active_limit s.setup.peer) n s.lower.ids))) ∙ h
  move_open m _ s k may h = h

  still_same : (m : Meaning t) (x : Move t) (s : View t) (id : SpaceId) → IsStill x → IsKnownMove m x s → MayMove x s → Same id s (state_move x s)
  unfolding state_move
  still_same m x s id still k may = record {
    more = more_same (crypto_of id s) (space_of (waiting_move x s).spaces id).crypto (still_crypto x s id still);
    flight = ap (λ (r : Recovery). (recovery.space_of id r).flight) (still_lower x s still);
    highest = still_highest x s still;
    keys = still_keys x s id still;
    opened = move_open m x s k may;
  }

  -- a packet is begun
  begun_crypto : (space : SpaceId) (opens : Bool) (s : View t) (id : SpaceId) → More (crypto_of id s) (space_of (packet_begun space opens s).waiting.spaces id).crypto
  unfolding probe_spent frames_again ping_asked
  begun_crypto space opens s id =
      begun_holds (λ (v : Waiting). More (crypto_of id s) (space_of v.spaces id).crypto)
      (λ w other h. more_next (crypto_of id s) (space_of w.spaces id).crypto _ h (more_same (space_of w.spaces id).crypto _ (put_crypto id other w.spaces (record (space_of w.spaces other) { probes = (space_of w.spaces other).probes - 1 }) refl)))
      (λ w other fs h. more_next (crypto_of id s) (space_of w.spaces id).crypto _ h (put_again id other w.spaces fs))
      (λ w other h. more_next (crypto_of id s) (space_of w.spaces id).crypto _ h (more_same (space_of w.spaces id).crypto _ (put_crypto id other w.spaces (record (space_of w.spaces other) { ping = true }) refl)))
      space opens s (more_here (crypto_of id s))

  begin_same : (space : SpaceId) (opens : Bool) (s : View t) (id : SpaceId) → Same id s (state_move (Begin space opens) s)
  unfolding state_move waiting_move lower_move streams_stepped keys_move life_move frames_sealed ids_stepped
  begin_same space opens s id = record { more = begun_crypto space opens s id; flight = ap (λ (l : Lower t.S). (recovery.space_of id l.recovery).flight) (begun_streams space opens s); highest = refl; keys = λ k. k; opened = λ o. o }

  -- the keys of a space are dropped
  forget_holds : (space : SpaceId) (s : View t) (id : SpaceId) (before : List Entry) → CryptoKept id before s → CryptoKept id (before ++ []) (state_move (Forget space) s)
  unfolding state_move waiting_move lower_move keys_move life_move space_left flight_dropped dropped_after frames_sealed ids_stepped
  forget_holds space s id before h =
      let counts = left_counts id space s.waiting.spaces in
      record {
        sent = subst (λ (n : ℕ). n ≤ (space_of (with_space s.waiting.spaces space (nothing_left (space_of s.waiting.spaces space))) id).crypto.written) (sym counts.1) (subst (λ (n : ℕ). (crypto_of id s).sent ≤ n) (sym counts.0) h.sent);
        above = λ e. counts.0 ∙ h.above (ap (λ (x : SpaceId). is_below x id) (sym (dropped_highest s.keys space)) ∙ e);
        holds = λ o k. let both = dropped_keys s.keys id space k in
            more_bytes before [] (crypto_of id s) _ (flight_of id s) _ (more_same (crypto_of id s) _ (ap (λ (w : SpaceWaiting). w.crypto) (put_other id space s.waiting.spaces (nothing_left (space_of s.waiting.spaces space)) both.0)))
            (put_flight id space (space_dropped (recovery.space_of space s.lower.recovery)) s.lower.recovery ∙ ap (λ (b : Bool). if b then (space_dropped (recovery.space_of space s.lower.recovery)).flight else flight_of id s) (rank_other id space both.0)) (h.holds o both.1);
      }

  -- a Retry was taken: the Initial space begins anew, and the hello waits from its first byte on
  renew_holds : (time : ℕ) (cid token : List ℕ) (keys : SpaceKeys t.H t.P) (s : View t) (id : SpaceId) (before : List Entry) → CryptoKept id before s → CryptoKept id (before ++ []) (state_move (Renew time cid token keys) s)
  unfolding state_move waiting_move lower_move keys_move life_move hello_again bytes_again flight_dropped dropped_after frames_sealed ids_stepped
  renew_holds time cid token keys s Initial before h =
      let b : Buffer = crypto_of Initial s in
      let more : More b (range_lost 0 b.sent b) = lost_grows 0 b.sent b in
      record {
        sent = subst (λ (n : ℕ). n ≤ (range_lost 0 b.sent b).written) (sym more.sent) (subst (λ (n : ℕ). b.sent ≤ n) (sym more.written) h.sent);
        above = λ e. more.written ∙ h.above (ap (λ (x : SpaceId). is_below x Initial) (sym (renewed_highest s.keys keys)) ∙ e);
        holds = λ o k. let held : BytesHold before b (flight_of Initial s) = h.holds o (sym (renewed_keys s.keys keys Initial) ∙ k) in record {
          kept = λ n low. more.kept n (held.kept n (subst (λ (m : ℕ). n < m) more.written low));
          bytes = λ n low. or_left _ _ (all_lost_awaited n b (held.kept n (subst (λ (m : ℕ). n < m) more.written low)));
        };
      }
  renew_holds time cid token keys s Handshake before h =
      same_holds Handshake before s (state_move (Renew time cid token keys) s) (record { more = more_here (crypto_of Handshake s); flight = refl; highest = renewed_highest s.keys keys; keys = λ k. sym (renewed_keys s.keys keys Handshake) ∙ k; opened = λ o. o }) h
  renew_holds time cid token keys s Data before h =
      same_holds «Data» before s (state_move (Renew time cid token keys) s) (record { more = more_here (crypto_of «Data» s); flight = refl; highest = renewed_highest s.keys keys; keys = λ k. sym (renewed_keys s.keys keys «Data») ∙ k; opened = λ o. o }) h

  -- ---- what is acknowledged and lost

  -- in the space of an ACK
  ack_here : (m : Meaning t) (n : ℕ) (after : After t.C) (s : View t) (id : SpaceId) (before : List Entry) → IsSettledBy m id after s → CryptoKept id before s → CryptoKept id (before ++ after.acked) (state_move (Ack id n after) s)
  unfolding state_move waiting_move lower_move datagrams_stepped streams_stepped keys_move life_move packets_lost packets_acked packets_settled settled_by frames_sealed ids_stepped
  ack_here m n after s id before settled h =
      let w : SpaceWaiting = acked_in (space_of s.waiting.spaces id) after.acked in
      let as_was : w.crypto ≡ crypto_of id s = acked_crypto (space_of s.waiting.spaces id) after.acked in
      let more : More (crypto_of id s) (lost_in w after.lost).crypto = subst (λ (b : Buffer). More b (lost_in w after.lost).crypto) as_was (lost_in_more w after.lost) in
      let once : IsPermutation (flight_of id s) (after.acked ++ (after.lost ++ (recovery.space_of id after.recovery).flight)) =
      subst (λ (a : After t.C). IsPermutation (flight_of id s) (a.acked ++ (a.lost ++ (recovery.space_of id a.recovery).flight))) (sym settled.is) (ack_flight m.control _ id _ _ _ _ _ s.lower.recovery s.paths.current.kept) in
      let keys = acked_moves s.keys id n in
      subst (λ (b : Buffer). CryptoHolds id (before ++ after.acked) (key_acked s.keys id n).highest (is_open s.life.state) (has_keys (key_acked s.keys id n) id) b (recovery.space_of id after.recovery).flight)
      (sym (settled_stream id s.waiting.spaces after.acked after.lost))
      (record {
        sent = subst (λ (k : ℕ). k ≤ (lost_in w after.lost).crypto.written) (sym more.sent) (subst (λ (k : ℕ). (crypto_of id s).sent ≤ k) (sym more.written) h.sent);
        above = λ e. more.written ∙ h.above (ap (λ (x : SpaceId). is_below x id) (sym keys.highest) ∙ e);
        holds = λ o k. settled_bytes before after.acked after.lost (flight_of id s) (recovery.space_of id after.recovery).flight w once
            (subst (λ (b : Buffer). BytesHold before b (flight_of id s)) (sym as_was) (h.holds o (sym (same_keys s.keys (key_acked s.keys id n) keys id) ∙ k)));
      })

  -- in another one
  ack_apart : (m : Meaning t) (space : SpaceId) (n : ℕ) (after : After t.C) (s : View t) (id : SpaceId) (before : List Entry) → IsSettledBy m space after s → is_space id space ≡ false → CryptoKept id before s → CryptoKept id (before ++ []) (state_move (Ack space n after) s)
  unfolding state_move waiting_move lower_move datagrams_stepped streams_stepped keys_move life_move packets_lost packets_acked packets_settled settled_by frames_sealed ids_stepped
  ack_apart m space n after s id before settled other h = same_holds id before s (state_move (Ack space n after) s) (record {
    more = more_same (crypto_of id s) _ (settled_other id space s.waiting.spaces after.acked after.lost other);
    flight = ap (λ (a : After t.C). (recovery.space_of id a.recovery).flight) settled.is ∙ ack_other m.control _ id space _ _ _ _ _ s.lower.recovery s.paths.current.kept other;
    highest = (acked_moves s.keys space n).highest;
    keys = λ k. sym (same_keys s.keys (key_acked s.keys space n) (acked_moves s.keys space n) id) ∙ k;
    opened = λ o. o;
  }) h

  ack_by : (m : Meaning t) (space : SpaceId) (n : ℕ) (after : After t.C) (s : View t) (id : SpaceId) (before : List Entry) → (id ≡ space) ⊎ (is_space id space ≡ false) → IsSettledBy m space after s → CryptoKept id before s →
      CryptoKept id (before ++ (in_space id space after.acked ++ [])) (state_move (Ack space n after) s)
  ack_by m space n after s id before (inl is) settled h =
      subst (λ (es : List Entry). CryptoKept id (before ++ es) (state_move (Ack space n after) s)) (sym (append-nil (in_space id space after.acked) ∙ ap (λ (x : SpaceId). in_space id x after.acked) (sym is) ∙ in_same id after.acked))
      (subst (λ (x : SpaceId). CryptoKept id (before ++ after.acked) (state_move (Ack x n after) s)) is (ack_here m n after s id before (subst (λ (x : SpaceId). IsSettledBy m x after s) (sym is) settled) h))
  ack_by m space n after s id before (inr other) settled h =
      subst (λ (es : List Entry). CryptoKept id (before ++ es) (state_move (Ack space n after) s)) (sym (append-nil (in_space id space after.acked) ∙ in_other id space after.acked other))
      (ack_apart m space n after s id before settled other h)

  fire_holds : (m : Meaning t) (after : FiredAfter t.C) (s : View t) (id : SpaceId) (before : List Entry) → IsFiredBy m after s → CryptoKept id before s → CryptoKept id (before ++ []) (state_move (Fire after) s)
  unfolding state_move waiting_move lower_move datagrams_stepped streams_stepped keys_move life_move timer_fired fired_by frames_sealed ids_stepped
  fire_holds m after s id before fires h =
      fire_kept after.fired s.waiting s.lower.recovery after.recovery s.keys.highest (is_open s.life.state) (has_keys s.keys id) id before
      (subst (λ (a : FiredAfter t.C). FiresIn id s.lower.recovery a.recovery a.fired) (sym fires.is) (fired_flight m.control id _ _ s.lower.recovery s.paths.current.kept)) h

  -- ---- what is written

  write_by : (bytes : List ℕ) (keys : NewKeys t.H t.P) (session : t.S) (s : View t) (id : SpaceId) (before : List Entry) → AreNext keys s.keys.highest → (id ≡ s.keys.highest) ⊎ (is_space id s.keys.highest ≡ false) → CryptoKept id before s →
      CryptoKept id before (state_move (Write bytes keys session) s)
  unfolding state_move waiting_move lower_move keys_move life_move crypto_written session_wrote frames_sealed ids_stepped
  write_by bytes keys session s id before next (inl is) h =
      let low : is_below s.keys.highest id ≡ false = ap (λ (x : SpaceId). is_below x id) (sym is) ∙ not_above id in
      subst (λ (b : Buffer). CryptoHolds id before (keys_given s.keys keys).highest (is_open s.life.state) (has_keys (keys_given s.keys keys) id) b (flight_of id s)) (sym (written_same id s.keys.highest s.waiting.spaces bytes is))
      (record {
        sent = crypto_more_sent (crypto_of id s) bytes h.sent;
        above = λ e. let high : is_below s.keys.highest id ≡ true = given_above s.keys keys id next e in absurd cc;
        holds = λ o k. written_or (given_keys s.keys keys id next k) low o h;
      })
    where
      written_or : (has_keys s.keys id ≡ true) ⊎ (is_below s.keys.highest id ≡ true) → is_below s.keys.highest id ≡ false → is_open s.life.state ≡ true → CryptoKept id before s → BytesHold before (crypto_more (crypto_of id s) bytes) (flight_of id s)
      written_or (inl k) low o h = crypto_more_holds (crypto_of id s) bytes before (flight_of id s) h.sent (h.holds o k)
      written_or (inr high) low o h = absurd cc
  write_by bytes keys session s id before next (inr other) h =
      subst (λ (b : Buffer). CryptoHolds id before (keys_given s.keys keys).highest (is_open s.life.state) (has_keys (keys_given s.keys keys) id) b (flight_of id s))
      (sym (ap (λ (w : SpaceWaiting). w.crypto) (put_other id s.keys.highest s.waiting.spaces (record (space_of s.waiting.spaces s.keys.highest) { crypto = crypto_more (space_of s.waiting.spaces s.keys.highest).crypto bytes }) other)))
      (record {
        sent = h.sent;
        above = λ e. h.above (given_above s.keys keys id next e);
        holds = λ o k. kept_or (given_keys s.keys keys id next k) o h;
      })
    where
      kept_or : (has_keys s.keys id ≡ true) ⊎ (is_below s.keys.highest id ≡ true) → is_open s.life.state ≡ true → CryptoKept id before s → BytesHold before (crypto_of id s) (flight_of id s)
      kept_or (inl k) o h = h.holds o k
      kept_or (inr high) o h = none_written before (crypto_of id s) (flight_of id s) (h.above high)

  -- ---- each move

  nil_kept : (id : SpaceId) (before : List Entry) (s : View t) → CryptoKept id before s → CryptoKept id (before ++ []) s
  nil_kept id before s h = subst (λ (es : List Entry). CryptoKept id es s) (sym (append-nil before)) h

  move_bytes : (m : Meaning t) (x : Move t) (s : View t) → IsKnownMove m x s → IsUnacked x → MayMove x s → (id : SpaceId) (before : List Entry) → CryptoKept id before s → CryptoKept id (before ++ laws.acked_in id (steps_of x s)) (state_move x s)
  unfolding steps_of MayMove
  move_bytes m (Clock time) s k u may id before h = absurd k
  move_bytes m (Take space fs) s k u may id before h = absurd k
  move_bytes m (Seal time form n size fs) s k u may id before h = absurd k
  move_bytes m (Forget space) s k u may id before h = forget_holds space s id before h
  move_bytes m (Renew time cid token keys) s k u may id before h = renew_holds time cid token keys s id before h
  move_bytes m (Ack space n after) s k u may id before h = absurd u
  move_bytes m (Fire after) s k u may id before h = fire_holds m after s id before k h
  move_bytes m (Begin space opens) s k u may id before h = same_holds id before s _ (begin_same space opens s id) h
  move_bytes m (Write bytes keys session) s k u may id before h = nil_kept id before (state_move (Write bytes keys session) s) (write_by bytes keys session s id before may (same_or id s.keys.highest) h)
  move_bytes m ReportReady s k u may id before h = absurd k
  move_bytes m ReportConnected s k u may id before h = absurd k
  move_bytes m ReportHeard s k u may id before h = absurd k
  move_bytes m ReportAllHeard s k u may id before h = absurd k
  move_bytes m ReportStream s k u may id before h = absurd k
  move_bytes m ReportStreams s k u may id before h = absurd k
  move_bytes m ReportLost s k u may id before h = absurd k
  move_bytes m ReportNotice s k u may id before h = absurd k
  move_bytes m ReportNotices s k u may id before h = absurd k
  move_bytes m ReportDrained s k u may id before h = absurd k
  move_bytes m x s k u may id before h = same_holds id before s _ (still_same m x s id tt k may) h

  -- ---- a packet that is taken and sealed

  seal_kept : (time n size : ℕ) (form : Form) (fs : List FrameValue) (s : View t) (id : SpaceId) (before : List Entry) → (id ≡ number_space form) ⊎ (is_space id (number_space form) ≡ false) → (is_open s.life.state ≡ true → s.waiting.close_owed ≡ false) → CryptoKept id before s →
      CryptoKept id (before ++ []) (state_move (Seal time form n size fs) (state_move (Take (number_space form) fs) s))
  unfolding state_move waiting_move lower_move streams_stepped datagrams_stepped keys_move life_move waiting_without packet_told bundle_next flown_packet frames_sealed ids_stepped
  seal_kept time n size form fs s id before (inl is) unowed h =
      let taken : Lower t.S = frames_sealed fs s.lower in
      narrow id (before ++ []) s.keys.highest _ (is_open s.life.state) (has_keys s.keys id) _ _ _ (used_highest s.keys form n) (used_keys s.keys form n id)
      (subst (λ (b : Buffer). CryptoHolds id (before ++ []) s.keys.highest (is_open s.life.state) (has_keys s.keys id) b (recovery.space_of id (if s.waiting.close_owed then taken else packet_flown taken (number_space form) n (flown_packet time size fs)).recovery).flight)
      (sym (ap (λ (v : Spaces SpaceWaiting). (space_of v id).crypto) (bundled_spaces _ _ (list_any is_ack fs))
      ∙ subst (λ (x : SpaceId). (space_of (with_space s.waiting.spaces x (without_all (space_of s.waiting.spaces x) fs)) id).crypto ≡ (without_all (space_of s.waiting.spaces id) fs).crypto) is (sealed_stream id s.waiting.spaces fs)))
      (here_values id before s.keys.highest (is_open s.life.state) (has_keys s.keys id) s.waiting.close_owed (space_of s.waiting.spaces id) (flight_of id s) _ n (flown_packet time size fs) fs refl unowed
      (λ no. flown_lower s.waiting.close_owed taken (number_space form) n (flown_packet time size fs) id no is) h))
  seal_kept time n size form fs s id before (inr other) unowed h =
      narrow id (before ++ []) s.keys.highest _ (is_open s.life.state) (has_keys s.keys id) _ _ _ (used_highest s.keys form n) (used_keys s.keys form n id)
      (apart_values id before s.keys.highest (is_open s.life.state) (has_keys s.keys id) (crypto_of id s) _ (flight_of id s) _
      (ap (λ (v : Spaces SpaceWaiting). (space_of v id).crypto) (bundled_spaces _ _ (list_any is_ack fs)) ∙ sealed_apart id (number_space form) s.waiting.spaces fs other)
      (apart_lower s.waiting.close_owed (frames_sealed fs s.lower) (number_space form) n (flown_packet time size fs) id other) h)

-- ---- inputs, steps and runs

module _ {C : Type 0} where
  acked_append : (id : SpaceId) (xs ys : List (RecoveryStep C)) → laws.acked_in id (xs ++ ys) ≡ laws.acked_in id xs ++ laws.acked_in id ys
  acked_append id [] ys = refl
  acked_append id (laws.Sent space number packet ∷ xs) ys = acked_append id xs ys
  acked_append id (laws.Settled space ack after ∷ xs) ys =
      let front : List Entry = in_space id space after.acked in
      ap (λ (es : List Entry). front ++ es) (acked_append id xs ys) ∙ sym (append_assoc front (laws.acked_in id xs) (laws.acked_in id ys))
  acked_append id (laws.Fired after ∷ xs) ys = acked_append id xs ys
  acked_append id (laws.Dropped space ∷ xs) ys = acked_append id xs ys
  acked_append id (laws.Spent tokens ∷ xs) ys = acked_append id xs ys
  acked_append id (laws.Told control ∷ xs) ys = acked_append id xs ys
  acked_append id (laws.Capped size ∷ xs) ys = acked_append id xs ys
  acked_append id (laws.Probed time n ∷ xs) ys = acked_append id xs ys

owed_acked : (C : Type 0) (id : SpaceId) (owed : Bool) (space : SpaceId) (n : ℕ) (packet : SentPacket) → laws.acked_in {C = C} id (if owed then [] else laws.Sent space n packet ∷ []) ≡ []
owed_acked C id true space n packet = refl
owed_acked C id false space n packet = refl

pub unowed_by : (opened owed : Bool) → (owed ≡ true → opened ≡ false) → opened ≡ true → owed ≡ false
unowed_by opened true h o = let shut : opened ≡ false = h refl in absurd cc
unowed_by opened false h o = refl

module _ {t : Types} where
  -- with the packets that these steps acknowledged
  abbrev Bytes : List Did → List (RecoveryStep t.C) → View t → View t → Type 0
  Bytes ds xs s s' = (id : SpaceId) (before : List Entry) → CryptoKept id before s → CryptoKept id (before ++ laws.acked_in id xs) s'

  bytes_none : (s : View t) → Bytes [] [] s s
  bytes_none s = λ id before h. nil_kept id before s h

  bytes_next : (ds es : List Did) (xs ys : List (RecoveryStep t.C)) (u v w : View t) → Bytes ds xs u v → Bytes es ys v w → Bytes (ds ++ es) (xs ++ ys) u w
  bytes_next ds es xs ys u v w g h = λ id before k. subst (λ (acked : List Entry). CryptoKept id acked w)
      (append_assoc before (laws.acked_in id xs) (laws.acked_in id ys) ∙ ap (λ (acked : List Entry). before ++ acked) (sym (acked_append id xs ys)))
      (h id (before ++ laws.acked_in id xs) (g id before k))

  ack_bytes : (m : Meaning t) (time : ℕ) (space : SpaceId) (ack : AckValue) (s : View t) →
      let after : After t.C = settled_by m time space ack s in
      Bytes (did.Gave layer.Recovery (spelling (frames.Ack ack)) ∷ []) (laws.Settled space ack after ∷ []) s (state_move (Ack space ack.largest after) s)
  ack_bytes m time space ack s = λ id before h. ack_by m space ack.largest (settled_by m time space ack s) s id before (same_or id space) (record { time = time; ack = ack; is = refl }) h

  seal_bytes : (time : ℕ) (form : Form) (fs : List FrameValue) (s : View t) → IsSealable time s form fs → Ends s →
      let n : ℕ = next_number s.numbers (number_space form) in
      let size : ℕ = packet_size s form fs in
      Bytes (did.Sealed (number_space form) n (epoch_in s.keys form) (is_early form) fs ∷ []) (if s.waiting.close_owed then [] else laws.Sent (number_space form) n (flown_packet time size fs) ∷ []) s
      (state_move (Seal time form n size fs) (state_move (Take (number_space form) fs) s))
  seal_bytes time form fs s may ends =
      let space : SpaceId = number_space form in
      let n : ℕ = next_number s.numbers space in
      let size : ℕ = packet_size s form fs in
      λ id before h. subst (λ (es : List Entry). CryptoKept id (before ++ es) (state_move (Seal time form n size fs) (state_move (Take space fs) s))) (sym (owed_acked t.C id s.waiting.close_owed space n (flown_packet time size fs)))
      (seal_kept time n size form fs s id before (same_or id space) (unowed_by (is_open s.life.state) s.waiting.close_owed ends.owed) h)

  -- over deeds, with recovery's steps
  record Keeping (m : Meaning t) (ds : List Did) (s s' : View t) : Type 0 where
    pub covers : Covers m ds s s'
    pub bytes : Bytes ds covers.steps s s'

  keeping_next : (m : Meaning t) (ds es : List Did) (u v w : View t) → Keeping m ds u v → Keeping m es v w → Keeping m (ds ++ es) u w
  unfolding covers_next
  keeping_next m ds es u v w g h = record {
    covers = covers_next m ds es u v w g.covers h.covers;
    bytes = bytes_next ds es g.covers.steps h.covers.steps u v w g.bytes h.bytes;
  }

  -- what is said of one view holds of another one with the same keys, life, streams and packets in flight
  same_view : (id : SpaceId) (acked : List Entry) (v w : View t) → w.keys.highest ≡ v.keys.highest → has_keys w.keys id ≡ has_keys v.keys id → is_open w.life.state ≡ is_open v.life.state → crypto_of id w ≡ crypto_of id v → flight_of id w ≡ flight_of id v →
      CryptoKept id acked v → CryptoKept id acked w
  same_view id acked v w highest keys opened stream flight h =
      subst (λ (b : Buffer). CryptoHolds id acked w.keys.highest (is_open w.life.state) (has_keys w.keys id) b (flight_of id w)) (sym stream)
      (subst (λ (es : List Entry). CryptoHolds id acked w.keys.highest (is_open w.life.state) (has_keys w.keys id) (crypto_of id v) es) (sym flight)
      (record { sent = h.sent; above = λ e. h.above (ap (λ (x : SpaceId). is_below x id) (sym highest) ∙ e); holds = λ o k. h.holds (sym opened ∙ o) (sym keys ∙ k) }))

  step_keeps : (m : Meaning t) (k : ℕ) (s : View t) (i : Input) (x : Step) (s' : View t) → IsStep m k s i x s' → Ends s → Keeping m x.did s s'
  unfolding called began run.step_after reported state_move lower_move events_told streams_stepped datagrams_stepped paths_move keys_move life_move waiting_move ready_reported connected_reported all_heard_reported lost_reported notice_reported notices_reported drained_reported frames_sealed ids_stepped
  step_keeps m k s i x s' h ends =
      let a : At t = began s (time_of i) in
      let b : At t = input_after m i h.choice a in
      let both = input_part m Bytes (λ y. Unit {0}) (λ y u. tt) bytes_none bytes_next (λ y v known p unacked may. move_bytes m y v known unacked may) (ack_bytes m) seal_bytes (λ y. tt) i h.choice a h.allowed (began_ends s (time_of i) ends) in
      let part = both.1 in
      subst (λ (ds : List Did). Keeping m ds s s') (sym (h.deeds ∙ part.appended)) (record {
        covers = record { steps = part.steps; fold = fold_from m part.since part.steps s a.state b.state s' refl (kept_same s' (run.step_after m s i h.choice) h.lower h.paths) part.fold; hears = part.hears };
        bytes = λ id before p. same_view id (before ++ laws.acked_in id part.steps) b.state s' (ap (λ (v : KeyGroup t.H t.P). v.highest) h.keys) (ap (λ (v : KeyGroup t.H t.P). has_keys v id) h.keys) (ap (λ (v : Life). is_open v.state) h.life)
            (ap (λ (v : Waiting). (space_of v.spaces id).crypto) h.waiting) (ap (λ (v : Lower t.S). (recovery.space_of id v.recovery).flight) h.lower)
            (part.also id before (record { sent = p.sent; above = p.above; holds = p.holds }));
      })

  run_keeps : (m : Meaning t) (k : ℕ) (s : View t) (is : List Input) (xs : List Step) (s' : View t) → Run m k s is xs s' → Ends s → Keeping m (deeds_of xs) s s'
  unfolding Run
  run_keeps m k s [] [] s' r ends = subst (λ (v : View t). Keeping m [] s v) (sym r) (record { covers = covers_same m s s refl; bytes = bytes_none s })
  run_keeps m k s (i ∷ is) (x ∷ xs) s' r ends =
      keeping_next m x.did (deeds_of xs) s r.0 s' (step_keeps m k s i x r.0 r.1 ends) (run_keeps m (k + 1) r.0 is xs s' r.2 (step_ends m k s i x r.0 r.1 ends))
  run_keeps m k s [] (x ∷ xs) s' r ends = absurd r
  run_keeps m k s (i ∷ is) [] s' r ends = absurd r

  pub run_keeps_bytes : (m : Meaning t) (k : ℕ) (s : View t) (is : List Input) (xs : List Step) (s' : View t) → Run m k s is xs s' → Ends s → KeepsBytes m (deeds_of xs) s s'
  run_keeps_bytes m k s is xs s' r ends = let kept = run_keeps m k s is xs s' r ends in record { recovers = recovers_by m (deeds_of xs) s s' kept.covers; bytes = kept.bytes }

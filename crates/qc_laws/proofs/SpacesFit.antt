-- Over a run the Initial keys stay the session's of one id, and the Handshake keys those of its Handshake space.
use Rattle.std.proofs.Common.{◌≡◌, ℕ, ◌+◌, ◌<◌, List, [], ◌∷◌, refl, sym, ap, ◌∙◌, subst, Bool, true, false, Option, Some, None, if◌then◌else◌, arith}
use Rattle.std.specs.Prelude.{option_map}
use Rattle.rand_core.specs.Stream.{Stream}
use Rattle.std.specs.declared.net.SocketAddr.{SocketAddr}
use Rattle.qc_base.specs.declared.side.Side.{Side}
use Rattle.qc_base.specs.declared.side.Side.TheVariants.{Client, Server}
use Rattle.qc_base.specs.declared.side.SpaceId.{SpaceId}
use Rattle.qc_base.specs.declared.side.SpaceId.TheVariants.{Initial, Handshake, «Data»}
use Rattle.qc_base.specs.declared.transport_error.TransportError.{TransportError}
use Rattle.qc_crypto.specs.GivenKeys as gifts
use Rattle.qc_crypto.specs.declared.keys.KeyPair.{KeyPair}
use Rattle.qc_crypto.specs.declared.keys.Keys.{Keys}
use Rattle.qc_crypto.specs.declared.session.Session.{Ghosts as SessionGhosts}
use Rattle.qc_datagrams.specs.Steps as datagrams
use Rattle.qc_frame.specs.Frame.{FrameValue}
use Rattle.qc_recovery.specs.TransportValues.{TransportValues}
use Rattle.qc_rings.specs.declared.which.Which.{Which}
use Rattle.qc_rings.specs.declared.which.Which.TheVariants.{Current, Next, Previous}
use Rattle.qc_state.specs.declared.coming.Coming.{Coming}
use Rattle.qc_state.specs.declared.deeds.Did.TheVariants as did
use Rattle.qc_state.specs.declared.deeds.Verdict.{Verdict}
use Rattle.qc_state.specs.declared.form.Form.{Form}
use Rattle.qc_state.specs.declared.form.Form.TheVariants as form
use Rattle.qc_state.specs.declared.input.Input.{Input}
use Rattle.qc_state.specs.declared.input.Input.TheVariants as input
use Rattle.qc_state.specs.declared.keys.KeyGroup.{KeyGroup}
use Rattle.qc_state.specs.declared.keys.SpaceKeys.{SpaceKeys}
use Rattle.qc_state.specs.declared.life.Close.{Close}
use Rattle.qc_state.specs.declared.life.ConnectionError.TheVariants as lost
use Rattle.qc_state.specs.declared.lower.Lower.{Lower}
use Rattle.qc_state.specs.declared.setup.Fixed.{Fixed}
use Rattle.qc_state.specs.declared.setup.Setup.{Setup}
use Rattle.qc_state.specs.declared.tokens.Issuer.{Issuer}
use Rattle.qc_state.specs.declared.trace.Step.{Step}
use Rattle.qc_state.specs.First.{first_view, server_view}
use Rattle.qc_state.specs.Flight.{flown_packet}
use Rattle.qc_state.specs.Forms.{number_space}
use Rattle.qc_state.specs.Keys.{NewKeys, NoKeys, HandshakeKeys, DataKeys, count_one, failure_counted, initial_renewed, key_acked, key_discarded, key_opened, key_updated, key_used, keys_dropped, keys_given, new_keys}
use Rattle.qc_state.specs.Life.{is_open}
use Rattle.qc_state.specs.Lower.{bytes_came, datagrams_stepped, event_told, events_told, flight_dropped, frame_handed, frames_sealed, ids_stepped, limits_learned, packet_flown, packets_settled, session_read, session_wrote, streams_closed, streams_stepped, timer_fired}
use Rattle.qc_state.specs.Moves.{Ack, Arm, Ask, Begin, Call, Come, Discard, Fail, Finish, Fire, Fix, Forget, Give, Hand, Insert, Issue, Learn, Move, Outlive, PeerCloses, PeerClosesToo, Post, Raise, Read, Renew, ReportStream, ReportStreams, Retire, Seal, Shut, Spend, Switch, Take, Tell, Unseal, Update, Want, Write, armed_after, armed_with, is_client, is_unanswered, keys_move, lower_move, move_to, setup_move, state_move}
use Rattle.qc_state.specs.Numbers.{next_number}
use Rattle.qc_state.specs.Offers.{packet_begun}
use Rattle.qc_state.specs.Paths.{chosen_or, is_blocked}
use Rattle.qc_state.specs.Progress.{keys_behind, ring_with, session_behind}
use Rattle.qc_state.specs.Receiving.{datagram_after, renewed_after}
use Rattle.qc_state.specs.Recovering.{loss_time}
use Rattle.qc_state.specs.Run.{IsAllowed, IsStep, Run, began, called, close_after, datagram_limit, input_after, reported, step_after, time_of}
use Rattle.qc_state.specs.Sending.{Choice, packet_size, spent_after, told_sent}
use Rattle.qc_state.specs.Setup.{retry_taken}
use Rattle.qc_state.specs.Stopping.{stopped_after}
use Rattle.qc_state.specs.Types.{Types, Meaning}
use Rattle.qc_state.specs.Updating.{fresh_now, session_by}
use Rattle.qc_state.specs.View.{View, At}
use Rattle.qc_state.proofs.Ends.{stopped_by}
use Rattle.qc_state.proofs.Expired.{IsTimed, holds_timeout}
use Rattle.qc_state.proofs.KeySteps.{RingMoves, acked_moves, discarded_moves, opened_moves, updated_moves}
use Rattle.qc_state.proofs.OpenPackets.{holds_packet}
use Rattle.qc_state.proofs.PacketMoves.{IsInPacket, OpenPacket}
use Rattle.qc_state.proofs.Probed.{begun_streams}
use Rattle.qc_state.proofs.ReceivedMoves.{close_for}
use Rattle.qc_state.proofs.Transmitted.{IsUntold, transmit_told}
use Rattle.qc_state.proofs.Tried.{holds_tried}
use Rattle.qc_state.proofs.Updates.{holds_updated}
use Rattle.qc_laws.specs.FitLaws.{FitHandshake, FitInitial, SpaceKeysFit}
use Rattle.qc_laws.proofs.FieldsKept.{move_fixed}
use Rattle.qc_laws.proofs.Receives.{IsAround, IsLeaving, datagram_around, versions_by}
use Rattle.qc_laws.proofs.RetriesHold.{and_parts}
use Rattle.qc_laws.proofs.SpaceKeysHold.{IsOld, client_only, retry_stays}
use Rattle.qc_laws.proofs.StreamCalls.{called_input}

module _ {t : Types} (m : Meaning t) (calls : SessionGhosts t.S t.H t.P t.D t.I) where
  -- what is asked of the session: laws of its own
  pub record KeepsSpaces : Type 0 where
    pub sound_read : (s : t.S) (bytes : List ℕ) → calls.is_sound s → calls.is_sound (m.after_read s bytes)
    pub sound_write : (s : t.S) → calls.is_sound s → calls.is_sound (m.after_write s)
    pub sound_next : (s : t.S) → calls.is_sound s → calls.is_sound (m.after_next s)
    pub changes_write : (s : t.S) → calls.is_sound s → calls.changes (m.after_write s) ≡ calls.changes s + gifts.keys_given (m.write_keys s)
    pub changes_read : (s : t.S) (bytes : List ℕ) → calls.is_sound s → calls.changes (m.after_read s bytes) ≡ calls.changes s
    pub changes_next : (s : t.S) → calls.is_sound s → calls.changes (m.after_next s) ≡ calls.changes s
    pub given_keys : (s : t.S) (keys : Keys t.H t.P) → calls.is_sound s → m.write_keys s ≡ Some keys → keys ≡ calls.space_keys (m.after_write s) (gifts.space_of_change (calls.changes s))
    pub handshake_read : (s : t.S) (bytes : List ℕ) → calls.is_sound s → 0 < calls.changes s → calls.space_keys (m.after_read s bytes) Handshake ≡ calls.space_keys s Handshake
    pub handshake_write : (s : t.S) → calls.is_sound s → 0 < calls.changes s → calls.space_keys (m.after_write s) Handshake ≡ calls.space_keys s Handshake
    pub handshake_next : (s : t.S) → calls.is_sound s → 0 < calls.changes s → calls.space_keys (m.after_next s) Handshake ≡ calls.space_keys s Handshake
    pub initial_read : (s : t.S) (bytes id : List ℕ) (side : Side) → calls.is_sound s → m.initial (m.after_read s bytes) id side ≡ m.initial s id side
    pub initial_write : (s : t.S) (id : List ℕ) (side : Side) → calls.is_sound s → m.initial (m.after_write s) id side ≡ m.initial s id side
    pub initial_next : (s : t.S) (id : List ℕ) (side : Side) → calls.is_sound s → m.initial (m.after_next s) id side ≡ m.initial s id side

  -- the same of a session, of the highest space, and of the Handshake keys alone; and the Initial keys that the session gives are these
  record Fits (initial : List ℕ → Side → Keys t.H t.P) (session : t.S) (highest : SpaceId) (k : Option (SpaceKeys t.H t.P)) : Type 0 where
    pub sound : calls.is_sound session
    pub begins : highest ≡ Initial → calls.changes session ≡ 0
    pub keys : FitHandshake m calls session k
    pub gives : (id : List ℕ) (side : Side) → m.initial session id side ≡ initial id side

  -- ---- moves

  -- Where a move changes the session, it is by a call of its own, and the keys are those that it gives. No Retry is taken by it: that is apart
  abbrev IsCall : Move t → View t → Type 0
  IsCall (Read id count session) s = (bytes : List ℕ) × (session ≡ m.after_read s.lower.session bytes)
  IsCall (Write bytes keys session) s =
      (keys ≡ keys_behind m s.keys.highest (m.write_keys s.lower.session) (m.after_write s.lower.session)) × (session ≡ session_behind m s.keys.highest (m.write_keys s.lower.session) (m.after_write s.lower.session))
  IsCall (Unseal time n which fresh session) s = session ≡ session_by m which s.lower.session
  IsCall (Update fresh session) s = session ≡ m.after_next s.lower.session
  IsCall (Renew time cid token keys) s = ⊥
  IsCall _ s = Unit {0}

  call_old : (x : Move t) (s : View t) → IsCall x s → IsOld x
  call_old (Renew time cid token keys) s h = absurd h
  call_old _ s h = tt

  around_call : (time : ℕ) (x : Move t) (s : View t) → IsAround time x s → IsCall x s
  around_call time (Read id count session) s h = absurd h
  around_call time (Write bytes keys session) s h = absurd h
  around_call time (Unseal at n which fresh session) s h = absurd h
  around_call time (Update fresh session) s h = absurd h
  around_call time (Renew at cid token keys) s h = absurd h
  around_call time _ s h = tt

  leaving_call : (time : ℕ) (x : Move t) (s : View t) → IsLeaving time x → IsCall x s
  leaving_call time (Read id count session) s h = absurd h
  leaving_call time (Write bytes keys session) s h = absurd h
  leaving_call time (Unseal at n which fresh session) s h = absurd h
  leaving_call time (Update fresh session) s h = absurd h
  leaving_call time (Renew at cid token keys) s h = absurd h
  leaving_call time _ s h = tt

  packet_call : (o : OpenPacket) (x : Move t) (s : View t) → IsInPacket m o x s → IsCall x s
  packet_call o (Read id count session) s h = (_, h.behind)
  packet_call o (Write bytes keys session) s h = (h.given, h.behind)
  packet_call o (Unseal time n which fresh session) s h = h.behind
  packet_call o (Update fresh session) s h = absurd h
  packet_call o (Renew time cid token keys) s h = absurd h
  packet_call o _ s h = tt

  timed_call : (x : Move t) (s : View t) → IsTimed x → IsCall x s
  timed_call (Read id count session) s h = absurd h
  timed_call (Write bytes keys session) s h = absurd h
  timed_call (Unseal time n which fresh session) s h = absurd h
  timed_call (Update fresh session) s h = absurd h
  timed_call (Renew time cid token keys) s h = absurd h
  timed_call _ s h = tt

  untold_call : (x : Move t) (s : View t) → IsUntold x → IsCall x s
  untold_call (Read id count session) s h = absurd h
  untold_call (Write bytes keys session) s h = absurd h
  untold_call (Unseal time n which fresh session) s h = absurd h
  untold_call (Update fresh session) s h = absurd h
  untold_call (Renew time cid token keys) s h = absurd h
  untold_call _ s h = tt

module _ {t : Types} (m : Meaning t) (calls : SessionGhosts t.S t.H t.P t.D t.I) (laws : KeepsSpaces m calls) (first : List ℕ → Side → Keys t.H t.P) where
  -- ---- the session's calls

  -- a call by which the Handshake keys stay
  moved : (s s' : t.S) (k : Option (SpaceKeys t.H t.P)) → (0 < calls.changes s → 0 < calls.changes s') → (0 < calls.changes s → calls.space_keys s' Handshake ≡ calls.space_keys s Handshake) →
      FitHandshake m calls s k → FitHandshake m calls s' k
  moved s s' None more same h = tt
  moved s s' (Some k) more same h = record { changed = more h.changed; keys = h.keys ∙ sym (same h.changed); limits = h.limits }

  read_fits : (s : t.S) (bytes : List ℕ) (high : SpaceId) (k : Option (SpaceKeys t.H t.P)) → Fits m calls first s high k → Fits m calls first (m.after_read s bytes) high k
  read_fits s bytes high k h = record {
    sound = laws.sound_read s bytes h.sound;
    begins = λ e. laws.changes_read s bytes h.sound ∙ h.begins e;
    keys = moved s (m.after_read s bytes) k (λ some. omega (arith, some, laws.changes_read s bytes h.sound)) (λ some. laws.handshake_read s bytes h.sound some) h.keys;
    gives = λ id side. laws.initial_read s bytes id side h.sound ∙ h.gives id side;
  }

  next_fits : (s : t.S) (high : SpaceId) (k : Option (SpaceKeys t.H t.P)) → Fits m calls first s high k → Fits m calls first (m.after_next s) high k
  next_fits s high k h = record {
    sound = laws.sound_next s h.sound;
    begins = λ e. laws.changes_next s h.sound ∙ h.begins e;
    keys = moved s (m.after_next s) k (λ some. omega (arith, some, laws.changes_next s h.sound)) (λ some. laws.handshake_next s h.sound some) h.keys;
    gives = λ id side. laws.initial_next s id side h.sound ∙ h.gives id side;
  }

  asked_fits : (s : t.S) (which : Which) (high : SpaceId) (k : Option (SpaceKeys t.H t.P)) → Fits m calls first s high k → Fits m calls first (session_by m which s) high k
  asked_fits s Next high k h = next_fits s high k h
  asked_fits s Current high k h = h
  asked_fits s Previous high k h = h

  -- a write that gives no keys while Initial is the highest space
  bare_fits : (s : t.S) (high : SpaceId) (k : Option (SpaceKeys t.H t.P)) → (high ≡ Initial → m.write_keys s ≡ None) → Fits m calls first s high k → Fits m calls first (m.after_write s) high k
  bare_fits s high k none h = record {
    sound = laws.sound_write s h.sound;
    begins = λ e. laws.changes_write s h.sound ∙ (λ i. h.begins e i + gifts.keys_given (none e i));
    keys = moved s (m.after_write s) k (λ some. omega (arith, some, laws.changes_write s h.sound)) (λ some. laws.handshake_write s h.sound some) h.keys;
    gives = λ id side. laws.initial_write s id side h.sound ∙ h.gives id side;
  }

  -- the one that gives the Handshake keys
  first_fits : (s : t.S) (keys : Keys t.H t.P) → calls.is_sound s → calls.changes s ≡ 0 → ((id : List ℕ) (side : Side) → m.initial s id side ≡ first id side) → m.write_keys s ≡ Some keys →
      Fits m calls first (m.after_write s) Handshake (Some (new_keys m.seal_limit m.failure_limit keys))
  first_fits s keys sound zero same written =
      let one : gifts.keys_given (m.write_keys s) ≡ 1 = ap (λ (o : Option (Keys t.H t.P)). gifts.keys_given o) written in
      record {
        sound = laws.sound_write s sound;
        begins = λ e. absurd cc;
        keys = record {
          changed = omega (arith, laws.changes_write s sound, zero, one);
          keys = laws.given_keys s keys sound written ∙ ap (λ (n : ℕ). calls.space_keys (m.after_write s) (gifts.space_of_change n)) zero;
          limits = record { seals = refl; failures = refl };
        };
        gives = λ id side. laws.initial_write s id side sound ∙ same id side;
      }

  -- the one that gives the 1-RTT keys
  ring_fits : (s : t.S) (v : KeyGroup t.H t.P) (keys : Keys t.H t.P) (next : Option (KeyPair t.P)) → v.highest ≡ Handshake → Fits m calls first s v.highest v.handshake → Fits m calls first s (keys_given v (ring_with m keys next)).highest (keys_given v (ring_with m keys next)).handshake
  unfolding keys_given
  ring_fits s v keys None high h = h
  ring_fits s v keys (Some next) high h = record { sound = h.sound; begins = λ e. absurd cc; keys = h.keys; gives = h.gives }

  not_initial : (high : SpaceId) {X : Type 0} → high ≡ Handshake → high ≡ Initial → X
  not_initial Initial is e = absurd cc
  not_initial Handshake is e = absurd cc
  not_initial «Data» is e = absurd cc

  wrote_fits : (s : t.S) (v : KeyGroup t.H t.P) (high : SpaceId) (o : Option (Keys t.H t.P)) → v.highest ≡ high → m.write_keys s ≡ o → Fits m calls first s v.highest v.handshake →
      let new : NewKeys t.H t.P = keys_behind m high o (m.after_write s) in Fits m calls first (session_behind m high o (m.after_write s)) (keys_given v new).highest (keys_given v new).handshake
  unfolding keys_given
  wrote_fits s v Initial None is none h = bare_fits s v.highest v.handshake (λ e. none) h
  wrote_fits s v Handshake None is none h = bare_fits s v.highest v.handshake (λ e. none) h
  wrote_fits s v «Data» None is none h = bare_fits s v.highest v.handshake (λ e. none) h
  wrote_fits s v Initial (Some keys) is some h = first_fits s keys h.sound (h.begins is) h.gives some
  wrote_fits s v Handshake (Some keys) is some h =
      ring_fits (m.after_next (m.after_write s)) v keys (m.next_keys (m.after_write s)) is
      (next_fits (m.after_write s) v.highest v.handshake (bare_fits s v.highest v.handshake (λ e. not_initial v.highest is e) h))
  wrote_fits s v «Data» (Some keys) is some h = bare_fits s v.highest v.handshake (λ e. absurd (let other : «Data» ≡ Initial = sym is ∙ e in cc)) h

  -- ---- steps of the keys

  counted_fits : (s : t.S) (o : Option (SpaceKeys t.H t.P)) → FitHandshake m calls s o → FitHandshake m calls s (count_one o)
  unfolding count_one
  counted_fits s None h = tt
  counted_fits s (Some k) h = record { changed = h.changed; keys = h.keys; limits = record { seals = h.limits.seals; failures = h.limits.failures } }

  used_fits : (s : t.S) (v : KeyGroup t.H t.P) (f : Form) (n : ℕ) → Fits m calls first s v.highest v.handshake → Fits m calls first s (key_used v f n).highest (key_used v f n).handshake
  unfolding key_used
  used_fits s v form.Initial n h = h
  used_fits s v form.Handshake n h = record { sound = h.sound; begins = h.begins; keys = counted_fits s v.handshake h.keys; gives = h.gives }
  used_fits s v form.Early n h = h
  used_fits s v form.OneRtt n h = h

  dropped_fits : (s : t.S) (v : KeyGroup t.H t.P) (id : SpaceId) → Fits m calls first s v.highest v.handshake → Fits m calls first s (keys_dropped v id).highest (keys_dropped v id).handshake
  unfolding keys_dropped
  dropped_fits s v Initial h = h
  dropped_fits s v Handshake h = record { sound = h.sound; begins = h.begins; keys = tt; gives = h.gives }
  dropped_fits s v «Data» h = h

  stepped_fits : (s : t.S) (v w : KeyGroup t.H t.P) → RingMoves v w → Fits m calls first s v.highest v.handshake → Fits m calls first s w.highest w.handshake
  stepped_fits s v w moves h = subst (λ (id : SpaceId). Fits m calls first s id w.handshake) (sym moves.highest) (subst (λ (o : Option (SpaceKeys t.H t.P)). Fits m calls first s v.highest o) (sym moves.handshake) h)

  same_fits : (s s' : t.S) (high : SpaceId) (k : Option (SpaceKeys t.H t.P)) → s' ≡ s → Fits m calls first s high k → Fits m calls first s' high k
  same_fits s s' high k is h = subst (λ (c : t.S). Fits m calls first c high k) (sym is) h

  -- ---- moves

  flown_session : (l : Lower t.S) (id : SpaceId) (n time size : ℕ) (fs : List FrameValue) (b : Bool) → (if b then l else packet_flown l id n (flown_packet time size fs)).session ≡ l.session
  unfolding packet_flown
  flown_session l id n time size fs true = refl
  flown_session l id n time size fs false = refl

  begun_session : (id : SpaceId) (opens : Bool) (s : View t) → (packet_begun id opens s).lower.session ≡ s.lower.session
  unfolding ids_stepped streams_stepped
  begun_session id opens s = ap (λ (l : Lower t.S). l.session) (begun_streams id opens s)

  move_fits : (x : Move t) (s : View t) → IsCall m calls x s → Fits m calls first s.lower.session s.keys.highest s.keys.handshake → Fits m calls first (lower_move x s).session (keys_move x s).highest (keys_move x s).handshake
  unfolding keys_move lower_move failure_counted bytes_came datagrams_stepped flight_dropped frame_handed frames_sealed ids_stepped limits_learned packets_settled session_read session_wrote streams_closed streams_stepped timer_fired event_told events_told
  move_fits (Read id count session) s call h = same_fits (m.after_read s.lower.session call.0) session s.keys.highest s.keys.handshake call.1 (read_fits s.lower.session call.0 s.keys.highest s.keys.handshake h)
  move_fits (Write bytes keys session) s call h =
      subst (λ (new : NewKeys t.H t.P). Fits m calls first session (keys_given s.keys new).highest (keys_given s.keys new).handshake) (sym call.0)
      (same_fits (session_behind m s.keys.highest (m.write_keys s.lower.session) (m.after_write s.lower.session)) session _ _ call.1 (wrote_fits s.lower.session s.keys s.keys.highest (m.write_keys s.lower.session) refl refl h))
  move_fits (Unseal time n which fresh session) s call h =
      same_fits (session_by m which s.lower.session) session _ _ call
      (stepped_fits (session_by m which s.lower.session) s.keys (key_opened s.keys which n fresh) (opened_moves s.keys which n fresh) (asked_fits s.lower.session which s.keys.highest s.keys.handshake h))
  move_fits (Update fresh session) s call h =
      same_fits (m.after_next s.lower.session) session _ _ call
      (stepped_fits (m.after_next s.lower.session) s.keys (key_updated s.keys fresh) (updated_moves s.keys fresh) (next_fits s.lower.session s.keys.highest s.keys.handshake h))
  move_fits (Seal time f n size fs) s call h =
      same_fits s.lower.session _ _ _ (flown_session s.lower (number_space f) n time size fs s.waiting.close_owed) (used_fits s.lower.session s.keys f n h)
  move_fits (Begin id opens) s call h = same_fits s.lower.session _ _ _ (begun_session id opens s) h
  move_fits (Forget id) s call h = dropped_fits s.lower.session s.keys id h
  move_fits (Ack id n after) s call h = stepped_fits s.lower.session s.keys (key_acked s.keys id n) (acked_moves s.keys id n) h
  move_fits Discard s call h = stepped_fits s.lower.session s.keys (key_discarded s.keys) (discarded_moves s.keys) h
  move_fits Fail s call h = h
  move_fits (Renew time cid token keys) s call h = absurd call
  move_fits (Take id fs) s call h = h
  move_fits (Fire after) s call h = h
  move_fits (Fix cid) s call h = h
  move_fits (Want time count) s call h = h
  move_fits (Insert new) s call h = h
  move_fits Switch s call h = h
  move_fits (Retire time n) s call h = h
  move_fits (Issue time given) s call h = h
  move_fits Outlive s call h = h
  move_fits (Come id offset bytes) s call h = h
  move_fits (Learn parameters) s call h = h
  move_fits (Hand frame) s call h = h
  move_fits (Call y) s call h = h
  move_fits (Post y) s call h = h
  move_fits (Shut time close) s call h = h
  move_fits (PeerCloses time) s call h = h
  move_fits PeerClosesToo s call h = h
  move_fits (Raise to) s call h = h
  move_fits ReportStream s call h = h
  move_fits ReportStreams s call h = h
  move_fits _ s call h = h

-- the Initial keys, by one session
module _ {t : Types} (m : Meaning t) (calls : SessionGhosts t.S t.H t.P t.D t.I) (session : t.S) (cid : List ℕ) (side : Side) where
  counted_initial : (o : Option (SpaceKeys t.H t.P)) → FitInitial m calls session cid side o → FitInitial m calls session cid side (count_one o)
  unfolding count_one
  counted_initial None h = tt
  counted_initial (Some k) h = (h.0, record { seals = h.1.seals; failures = h.1.failures })

  used_initial : (v : KeyGroup t.H t.P) (f : Form) (n : ℕ) → FitInitial m calls session cid side v.initial → FitInitial m calls session cid side (key_used v f n).initial
  unfolding key_used
  used_initial v form.Initial n h = counted_initial v.initial h
  used_initial v form.Handshake n h = h
  used_initial v form.Early n h = h
  used_initial v form.OneRtt n h = h

  dropped_initial : (v : KeyGroup t.H t.P) (id : SpaceId) → FitInitial m calls session cid side v.initial → FitInitial m calls session cid side (keys_dropped v id).initial
  unfolding keys_dropped
  dropped_initial v Initial h = tt
  dropped_initial v Handshake h = h
  dropped_initial v «Data» h = h

  given_initial : (v : KeyGroup t.H t.P) (new : NewKeys t.H t.P) → FitInitial m calls session cid side v.initial → FitInitial m calls session cid side (keys_given v new).initial
  unfolding keys_given
  given_initial v NoKeys h = h
  given_initial v (HandshakeKeys k) h = h
  given_initial v (DataKeys k) h = h

  stepped_initial : (v w : KeyGroup t.H t.P) → RingMoves v w → FitInitial m calls session cid side v.initial → FitInitial m calls session cid side w.initial
  stepped_initial v w moves h = subst (λ (o : Option (SpaceKeys t.H t.P)). FitInitial m calls session cid side o) (sym moves.initial) h

  move_initial : (x : Move t) (s : View t) → IsOld x → FitInitial m calls session cid side s.keys.initial → FitInitial m calls session cid side (keys_move x s).initial
  unfolding keys_move failure_counted
  move_initial (Renew time id token keys) s old h = absurd old
  move_initial (Seal time f n size fs) s old h = used_initial s.keys f n h
  move_initial (Forget id) s old h = dropped_initial s.keys id h
  move_initial Fail s old h = h
  move_initial (Ack id n after) s old h = stepped_initial s.keys (key_acked s.keys id n) (acked_moves s.keys id n) h
  move_initial (Unseal time n which fresh asked) s old h = stepped_initial s.keys (key_opened s.keys which n fresh) (opened_moves s.keys which n fresh) h
  move_initial (Update fresh asked) s old h = stepped_initial s.keys (key_updated s.keys fresh) (updated_moves s.keys fresh) h
  move_initial Discard s old h = stepped_initial s.keys (key_discarded s.keys) (discarded_moves s.keys) h
  move_initial (Write bytes keys wrote) s old h = given_initial s.keys keys h
  move_initial _ s old h = h

  -- so by another one that gives the same
  by_alike : (other : t.S) (o : Option (SpaceKeys t.H t.P)) → m.initial other cid side ≡ m.initial session cid side → FitInitial m calls session cid side o → FitInitial m calls other cid side o
  by_alike other None same h = tt
  by_alike other (Some k) same h = (h.0 ∙ sym same, h.1)

  -- where a client's session gives keys of this id anew, they are its own
  renewed_initial : (o : Option (SpaceKeys t.H t.P)) → side ≡ Client → FitInitial m calls session cid side (option_map (λ (k : SpaceKeys t.H t.P). new_keys m.seal_limit m.failure_limit (m.initial session cid Client)) o)
  renewed_initial None is = tt
  renewed_initial (Some k) is = (ap (λ (d : Side). m.initial session cid d) (sym is), record { seals = refl; failures = refl })

module _ {t : Types} (m : Meaning t) (calls : SessionGhosts t.S t.H t.P t.D t.I) (laws : KeepsSpaces m calls) where
  -- ---- from one moment to another

  abbrev Keeps : At t → At t → Type 0
  Keeps a b = SpaceKeysFit m calls a.state → SpaceKeysFit m calls b.state

  keeps_here : (a : At t) → Keeps a a
  keeps_here a h = h

  keeps_next : (a b c : At t) → Keeps a b → Keeps b c → Keeps a c
  keeps_next a b c g h k = h (g k)

  keeps_move : (x : Move t) (a : At t) → IsCall m calls x a.state → Keeps a (move_to x a)
  unfolding move_to state_move
  keeps_move x a call h =
      let s : View t = a.state in
      let old : IsOld x = call_old m calls x s call in
      let cid : List ℕ = chosen_or s.setup.fixed.first_cid s.setup.retry_cid in
      let side : Side = s.setup.fixed.side in
      let f : Fits m calls (m.initial s.lower.session) (lower_move x s).session (keys_move x s).highest (keys_move x s).handshake =
      move_fits m calls laws (m.initial s.lower.session) x s call (record { sound = h.sound; begins = h.begins; keys = h.handshake; gives = λ id end. refl }) in
      let stay : FitInitial m calls (lower_move x s).session cid side (keys_move x s).initial =
      by_alike m calls s.lower.session cid side (lower_move x s).session (keys_move x s).initial (f.gives cid side) (move_initial m calls s.lower.session cid side x s old h.initial) in
      record {
        sound = f.sound;
        begins = f.begins;
        initial = subst (λ (v : Fixed). FitInitial m calls (lower_move x s).session (chosen_or v.first_cid (setup_move x s).retry_cid) v.side (keys_move x s).initial) (sym (move_fixed x s))
            (subst (λ (o : Option (List ℕ)). FitInitial m calls (lower_move x s).session (chosen_or s.setup.fixed.first_cid o) side (keys_move x s).initial) (sym (retry_stays m x s old)) stay);
        handshake = f.keys;
      }

  -- a Retry is taken
  keeps_renew : (time : ℕ) (cid token : List ℕ) (a : At t) → is_unanswered a.state ≡ true →
      Keeps a (move_to (Renew time cid token (new_keys m.seal_limit m.failure_limit (m.initial a.state.lower.session cid Client))) a)
  unfolding is_unanswered move_to state_move setup_move retry_taken keys_move initial_renewed lower_move flight_dropped ids_stepped
  keeps_renew time cid token a unanswered h =
      let s : View t = a.state in
      record {
        sound = h.sound;
        begins = h.begins;
        initial = renewed_initial m calls s.lower.session cid s.setup.fixed.side s.keys.initial (client_only s.setup.fixed.side (and_parts (is_client s.setup.fixed.side) _ unanswered).0);
        handshake = h.handshake;
      }

  keeps_retry : (time : ℕ) (cid token : List ℕ) (a : At t) → is_unanswered a.state ≡ true → Keeps a (renewed_after m time cid token a)
  unfolding renewed_after armed_after armed_with
  keeps_retry time cid token a unanswered =
      let b : At t = move_to (Renew time cid token (new_keys m.seal_limit m.failure_limit (m.initial a.state.lower.session cid Client))) a in
      let arm : Move t = Arm (loss_time b.state (is_blocked b.state.paths) time) in
      keeps_next a b (move_to arm b) (keeps_renew time cid token a unanswered) (keeps_move arm b tt)

  -- this end closes for what a packet shows
  keeps_shut : (time : ℕ) (space : Option SpaceId) (number : ℕ) (v : Verdict) (error : TransportError) (a : At t) → Keeps a (stopped_after time error (move_to (Tell (did.Piece space (Some number) v)) a))
  keeps_shut time space number v error a =
      let b : At t = move_to (Tell (did.Piece space (Some number) v)) a in
      let c : At t = move_to (Shut time (close_for error)) b in
      keeps_next a b (stopped_after time error b) (keeps_move (Tell (did.Piece space (Some number) v)) a tt)
      (stopped_by Keeps keeps_here keeps_next time error b (λ low. keeps_move (Shut time (close_for error)) b tt) (λ none. keeps_move (Give (lost.TransportError error)) c tt))

  -- ---- inputs, steps and runs

  datagram_keeps : (coming : Coming) (bytes : List ℕ) (a : At t) → Keeps a (datagram_after m coming bytes a)
  datagram_keeps coming bytes a =
      datagram_around m coming (λ p. Unit {0}) Keeps keeps_here keeps_next (λ x b h may. keeps_move x b (around_call m calls coming.time x b.state h)) (λ space number v error b is. keeps_shut coming.time space number v error b)
      (λ cid token b r. keeps_retry coming.time cid token b r.unanswered) (λ b r. versions_by coming.time Keeps keeps_here keeps_next (λ x c h may. keeps_move x c (leaving_call m calls coming.time x c.state h)) b)
      (λ p comes o b opened. holds_packet m o Keeps keeps_here keeps_next (λ x c h may. keeps_move x c (packet_call m calls o x c.state h)) b opened.lively) bytes a (λ p among. tt)

  seal_keeps : (time : ℕ) (f : Form) (fs : List FrameValue) (a : At t) → Keeps a (move_to (Seal time f (next_number a.state.numbers (number_space f)) (packet_size a.state f fs) fs) (move_to (Take (number_space f) fs) a))
  seal_keeps time f fs a =
      let b : At t = move_to (Take (number_space f) fs) a in
      let seal : Move t = Seal time f (next_number a.state.numbers (number_space f)) (packet_size a.state f fs) fs in keeps_next a b (move_to seal b) (keeps_move (Take (number_space f) fs) a tt) (keeps_move seal b tt)

  shut_keeps : (time : ℕ) (close : Close) (a : At t) (b : Bool) → Keeps a (if b then move_to (Shut time close) a else a)
  shut_keeps time close a true = keeps_move (Shut time close) a tt
  shut_keeps time close a false = keeps_here a

  update_keeps : (a : At t) → Keeps a (move_to (Update (fresh_now m a.state) (m.after_next a.state.lower.session)) a)
  update_keeps a = keeps_move (Update (fresh_now m a.state) (m.after_next a.state.lower.session)) a refl

  input_keeps : (i : Input) (choice : Choice) (a : At t) → IsAllowed m i choice a → Keeps a (input_after m i choice a)
  unfolding IsAllowed input_after close_after spent_after told_sent
  input_keeps (input.Datagram time remote ecn bytes) choice a may = datagram_keeps (record { time = time; remote = remote; mark = ecn }) bytes a
  input_keeps (input.Timeout time) choice a may = holds_timeout Keeps keeps_here keeps_next (λ x h b may_be. keeps_move x b (timed_call m calls x b.state h)) m time a
  input_keeps (input.Transmit time max) choice a may =
      transmit_told m Keeps keeps_here keeps_next (λ x r b h. keeps_move x b (untold_call m calls x b.state r)) (λ f b. holds_tried m Keeps keeps_here (λ c h. update_keeps c) f b)
      (λ at size b. keeps_move (Spend _) b tt) (λ at batch b. keeps_move (Finish batch.total _) b tt) (λ at f fs b h. seal_keeps at f fs b) time max choice a may
  input_keeps (input.Close time code reason) choice a may = shut_keeps time _ a (is_open a.state.life.state)
  input_keeps (input.Ping time) choice a may = keeps_move (Ask a.state.keys.highest) a tt
  input_keeps (input.Update time) choice a may = holds_updated m Keeps keeps_here (λ b h. update_keeps b) a
  input_keeps (input.SendDatagram time body) choice a may = keeps_move (Post (datagrams.Sent (datagram_limit a.state) true body)) a tt
  input_keeps (input.RecvDatagram time) choice a may = keeps_move (Post datagrams.Taken) a tt
  input_keeps (input.Identifiers time given) choice a may = keeps_move (Issue time given) a tt
  input_keeps i choice a may = called_input Keeps keeps_here keeps_next (λ x b h. keeps_move (Call x) b tt) i choice.read a may

  keeps_begun : (s : View t) (time : ℕ) → SpaceKeysFit m calls s → SpaceKeysFit m calls (began s time).state
  unfolding began state_move keys_move lower_move setup_move
  keeps_begun s time h = record { sound = h.sound; begins = h.begins; initial = h.initial; handshake = h.handshake }

  -- it is said of three groups alone
  same_groups : (b s' : View t) → s'.lower.session ≡ b.lower.session → s'.keys ≡ b.keys → s'.setup ≡ b.setup → SpaceKeysFit m calls b → SpaceKeysFit m calls s'
  same_groups b s' session keys setup h = record {
    sound = subst (λ (c : t.S). calls.is_sound c) (sym session) h.sound;
    begins = λ e. ap (λ (c : t.S). calls.changes c) session ∙ h.begins (sym (ap (λ (v : KeyGroup t.H t.P). v.highest) keys) ∙ e);
    initial = subst (λ (c : t.S). FitInitial m calls c (chosen_or s'.setup.fixed.first_cid s'.setup.retry_cid) s'.setup.fixed.side s'.keys.initial) (sym session)
        (subst (λ (v : Setup Stream). FitInitial m calls b.lower.session (chosen_or v.fixed.first_cid v.retry_cid) v.fixed.side s'.keys.initial) (sym setup)
        (subst (λ (v : KeyGroup t.H t.P). FitInitial m calls b.lower.session (chosen_or b.setup.fixed.first_cid b.setup.retry_cid) b.setup.fixed.side v.initial) (sym keys) h.initial));
    handshake = subst (λ (c : t.S). FitHandshake m calls c s'.keys.handshake) (sym session) (subst (λ (v : KeyGroup t.H t.P). FitHandshake m calls b.lower.session v.handshake) (sym keys) h.handshake);
  }

  step_keeps : (k : ℕ) (s : View t) (i : Input) (x : Step) (s' : View t) → IsStep m k s i x s' → SpaceKeysFit m calls s → SpaceKeysFit m calls s'
  unfolding called step_after reported state_move keys_move lower_move setup_move event_told events_told streams_stepped
  step_keeps k s i x s' h start =
      let b : At t = input_after m i h.choice (began s (time_of i)) in
      same_groups b.state s' (ap (λ (l : Lower t.S). l.session) h.lower) h.keys h.setup (input_keeps i h.choice (began s (time_of i)) h.allowed (keeps_begun s (time_of i) start))

  pub run_spaces_fit : (k : ℕ) (s : View t) (is : List Input) (xs : List Step) (s' : View t) → Run m k s is xs s' → SpaceKeysFit m calls s → SpaceKeysFit m calls s'
  unfolding Run
  run_spaces_fit k s [] [] s' r start = subst (λ (v : View t). SpaceKeysFit m calls v) (sym r) start
  run_spaces_fit k s (i ∷ is) (x ∷ xs) s' r start = run_spaces_fit (k + 1) r.0 is xs s' r.2 (step_keeps k s i x r.0 r.1 start)
  run_spaces_fit k s [] (x ∷ xs) s' r start = absurd r
  run_spaces_fit k s (i ∷ is) [] s' r start = absurd r

-- a connection that was just made has no Handshake keys, and its session gave none
module _ {t : Types} (m : Meaning t) (calls : SessionGhosts t.S t.H t.P t.D t.I) where
  -- a client's, whose session wrote its hello
  pub client_spaces_fit : (session : t.S) (words : Stream) (fixed : Fixed) (remote : SocketAddr) (first_cid token : List ℕ) (transport : TransportValues) (congestion : t.C) (time : ℕ) → fixed.first_cid ≡ first_cid → fixed.side ≡ Client →
      calls.changes session ≡ 0 → m.write_keys session ≡ None → calls.changes (m.after_write session) ≡ calls.changes session + gifts.keys_given (m.write_keys session) → calls.is_sound (m.after_write session) →
      m.initial (m.after_write session) first_cid Client ≡ m.initial session first_cid Client →
      SpaceKeysFit m calls (first_view m session words fixed remote first_cid token transport congestion time)
  unfolding first_view
  client_spaces_fit session words fixed remote first_cid token transport congestion time cid side zero none counted sound same = record {
    sound = sound;
    begins = λ e. counted ∙ (λ i. zero i + gifts.keys_given (none i));
    initial = (sym same ∙ (λ i. m.initial (m.after_write session) (sym cid i) (sym side i)), record { seals = refl; failures = refl });
    handshake = tt;
  }

  -- a server's
  pub server_spaces_fit : (session : t.S) (words : Stream) (fixed : Fixed) (remote : SocketAddr) (remote_cid : List ℕ) (validated : Bool) (issuer : Issuer t.K t.T) (transport : TransportValues) (congestion : t.C) (time : ℕ) → fixed.side ≡ Server →
      calls.is_sound session → calls.changes session ≡ 0 → SpaceKeysFit m calls (server_view m session words fixed remote remote_cid validated issuer transport congestion time)
  unfolding server_view
  server_spaces_fit session words fixed remote remote_cid validated issuer transport congestion time side sound zero =
      record { sound = sound; begins = λ e. zero; initial = (ap (λ (d : Side). m.initial session fixed.first_cid d) (sym side), record { seals = refl; failures = refl }); handshake = tt }

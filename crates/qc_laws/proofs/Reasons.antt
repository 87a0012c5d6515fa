-- Over a run this end ends the connection with KEY_UPDATE_ERROR only for a packet whose update its sender wasn't allowed to make, or where the session
-- refuses with that code.
use Rattle.qc_state.specs.Paths.{is_blocked}
use Rattle.qc_state.specs.Keys.{new_keys}
use Rattle.qc_base.specs.declared.side.Side.TheVariants.{Client}
use Rattle.std.proofs.Common.{◌≡◌, ℕ, ◌+◌, ◌⊎◌, inl, inr, List, [], ◌∷◌, ◌++◌, refl, ap, sym, ◌∙◌, subst, false, Option, Some, None, Err, append_assoc, append-nil, arith}
use Rattle.qc_base.specs.declared.side.SpaceId.{SpaceId}
use Rattle.qc_base.specs.declared.side.SpaceId.TheVariants.{Initial, Handshake, «Data»}
use Rattle.qc_base.specs.declared.transport_error.TransportError.{TransportError}
use Rattle.qc_crypto.specs.declared.keys.Keys.{Keys}
use Rattle.qc_frame.specs.Frame.{AckValue, FrameValue}
use Rattle.qc_frame.specs.FrameSpelling.{spelling}
use Rattle.qc_frame.specs.declared.frames.FrameOf.TheVariants as frames
use Rattle.qc_rings.specs.declared.which.Which.{Which}
use Rattle.qc_rings.specs.declared.which.Which.TheVariants.{Current, Next, Previous}
use Rattle.qc_state.specs.declared.coming.Coming.{Coming}
use Rattle.qc_state.specs.declared.deeds.Did.{Did}
use Rattle.qc_state.specs.declared.deeds.Did.TheVariants as did
use Rattle.qc_state.specs.declared.deeds.Layer.TheVariants as layer
use Rattle.qc_state.specs.declared.deeds.Verdict.{Verdict}
use Rattle.qc_state.specs.declared.deeds.Verdict.TheVariants as verdict
use Rattle.qc_state.specs.declared.input.Input.{Input}
use Rattle.qc_state.specs.declared.input.Input.TheVariants as input
use Rattle.qc_state.specs.declared.life.ConnectionError.{ConnectionError}
use Rattle.qc_state.specs.declared.life.ConnectionError.TheVariants as lost
use Rattle.qc_state.specs.declared.trace.Step.{Step}
use Rattle.qc_state.specs.Life.{is_over}
use Rattle.qc_state.specs.Lower.{bytes_came, datagrams_stepped, flight_dropped, frame_handed, ids_stepped, limits_learned, packets_settled, session_read, session_wrote, streams_closed, streams_stepped}
use Rattle.qc_state.specs.Moves.{Ack, Begin, Call, Come, Fire, Fix, Forget, Give, Hand, Insert, Issue, Learn, Move, Outlive, Post, Read, ReportStream, ReportStreams, Retire, Seal, Shut, Switch, Take, Tell, Unseal, Update, Want, Write, deeds_move, lower_move, move_to, state_move, Arm, PeerCloses, Renew, armed_after, armed_with}
use Rattle.qc_state.specs.Numbers.{next_number}
use Rattle.qc_state.specs.Progress.{session_behind}
use Rattle.qc_state.specs.Receiving.{datagram_after, reason_of, renewed_after}
use Rattle.qc_state.specs.Recovering.{settled_by, loss_time}
use Rattle.qc_state.specs.Run.{IsAllowed, IsStep, Run, began, called, input_after, time_of}
use Rattle.qc_state.specs.Sending.{Choice}
use Rattle.qc_state.specs.Stopping.{encoding_error_at, key_limit_error, missing_parameters, parameter_error, stopped_after, violation_at}
use Rattle.qc_state.specs.Types.{Types, Meaning}
use Rattle.qc_state.specs.Updating.{session_by}
use Rattle.qc_state.specs.View.{View, At}
use Rattle.qc_state.proofs.Ends.{stopped_by}
use Rattle.qc_state.proofs.OpenPackets.{Finds, IsBeside, IsFound, IsUnrefused, given_ack, given_read, packet_read, packet_received}
use Rattle.qc_state.proofs.PacketMoves.{Breaks, Bytes, Empty, Fault, Handed, Inserted, IsErrorFor, IsInPacket, IsReasonOf, IsToldOf, Kind, Missing, OpenPacket, Parameters, Refusal, Retired, Stops, Unfit, Unreadable}
use Rattle.qc_state.proofs.ReceivedMoves.{IsUnread, close_for}
use Rattle.qc_state.proofs.Telling.{told_appends}
use Rattle.qc_state.proofs.Transmitted.{IsSendingReason}
use Rattle.qc_laws.specs.ReasonLaws.{BadUpdate, CausesUpdateErrors, EachCauses, GivesNext, IsCaused, IsLed, KEY_UPDATE_ERROR, Reads, RefusedBytes, RefusedParameters, SessionCall, Writes, session_after}
use Rattle.qc_laws.proofs.Inputs.{IsOwn, holds_own}
use Rattle.qc_laws.proofs.Receives.{IsAround, IsShutBy, datagram_around, IsLeaving, shunned_unread, versions_by}
use Rattle.qc_laws.proofs.StopCodes.{IsOther, crypto_other, handed_other, insert_other, is_other, retire_other, stop_other, violation_other}
use Rattle.qc_laws.proofs.StreamCalls.{handed_told}

-- ---- errors with other codes

limit_other : IsOther key_limit_error
limit_other code = let c : 0x0f ≡ 0x0e = code in omega (arith, c)

same_other : (error known : TransportError) → error ≡ known → IsOther known → IsOther error
same_other error known is other = subst (λ (e : TransportError). IsOther e) (sym is) other

-- where an error is one of another code, it isn't among those that are looked for
abbrev IsOtherReason : ConnectionError → Type 0
IsOtherReason (lost.TransportError error) = IsOther error
IsOtherReason _ = Unit {0}

other_reason : (why known : ConnectionError) → why ≡ known → IsOtherReason known → IsOtherReason why
other_reason why known is other = subst (λ (w : ConnectionError). IsOtherReason w) (sym is) other

sending_other : (why : ConnectionError) → IsSendingReason why → IsOtherReason why
sending_other why (inl is) = other_reason why (lost.TransportError key_limit_error) is limit_other
sending_other why (inr (inl is)) = other_reason why (lost.TransportError (record { code = 1; frame = None })) is (λ code. let c : 1 ≡ 0x0e = code in omega (arith, c))
sending_other why (inr (inr is)) = other_reason why (lost.TransportError (violation_at None)) is (violation_other None)

own_other : (why : ConnectionError) → (why ≡ lost.TimedOut) ⊎ IsSendingReason why → IsOtherReason why
own_other why (inl is) = other_reason why lost.TimedOut is tt
own_other why (inr known) = sending_other why known

-- a close of the peer's gives no error of this end's
peers_other : (f : FrameValue) (why : ConnectionError) → reason_of f ≡ Some why → IsOtherReason why
peers_other (frames.ConnectionClose code type reason) (lost.TransportError error) is = absurd cc
peers_other (frames.ApplicationClose code reason) (lost.TransportError error) is = absurd cc
peers_other _ (lost.TransportError error) is = absurd cc
peers_other f _ is = tt

module _ {t : Types} (m : Meaning t) where
  -- ---- calls of a session

  led_here : (session : t.S) → IsLed m session session
  led_here session = ([], refl)

  after_append : (xs ys : List SessionCall) (session : t.S) → session_after m (xs ++ ys) session ≡ session_after m ys (session_after m xs session)
  after_append [] ys session = refl
  after_append (Reads bytes ∷ xs) ys session = after_append xs ys (m.after_read session bytes)
  after_append (Writes ∷ xs) ys session = after_append xs ys (m.after_write session)
  after_append (GivesNext ∷ xs) ys session = after_append xs ys (m.after_next session)

  led_on : (from session : t.S) (ys : List SessionCall) → IsLed m from session → IsLed m from (session_after m ys session)
  led_on from session ys led = (led.0 ++ ys, ap (λ (s : t.S). session_after m ys s) led.1 ∙ sym (after_append led.0 ys from))

  led_same : (from session other : t.S) → other ≡ session → IsLed m from session → IsLed m from other
  led_same from session other is led = (led.0, is ∙ led.1)

  -- ---- deeds

  -- a reason that is given behind these deeds is caused so, if it is looked for
  abbrev GivenSo : (from : t.S) → (before : List Did) → ConnectionError → Type 0
  GivenSo from before (lost.TransportError error) = error.code ≡ KEY_UPDATE_ERROR → IsCaused m from before error
  GivenSo from before _ = Unit {0}

  abbrev AllSo : (from : t.S) → (before : List Did) → List Did → Type 0
  AllSo from before [] = Unit {0}
  AllSo from before (did.Lost why ∷ ds) = GivenSo from before why × AllSo from (before ++ did.Lost why ∷ []) ds
  AllSo from before (d ∷ ds) = AllSo from (before ++ d ∷ []) ds

  other_so : (from : t.S) (before : List Did) (why : ConnectionError) → IsOtherReason why → GivenSo from before why
  other_so from before (lost.TransportError error) other = λ code. absurd (other code)
  other_so from before _ other = tt

  so_append : (from : t.S) (before xs ys : List Did) → AllSo from before xs → AllSo from (before ++ xs) ys → AllSo from before (xs ++ ys)
  so_append from before [] ys h k = subst (λ (l : List Did). AllSo from l ys) (append-nil before) k
  so_append from before (did.Lost why ∷ xs) ys h k =
      (h.0, so_append from (before ++ did.Lost why ∷ []) xs ys h.1 (subst (λ (l : List Did). AllSo from l ys) (sym (append_assoc before (did.Lost why ∷ []) xs)) k))
  so_append from before (d ∷ xs) ys h k = so_append from (before ++ d ∷ []) xs ys h (subst (λ (l : List Did). AllSo from l ys) (sym (append_assoc before (d ∷ []) xs)) k)

  so_behind : (from : t.S) (before : List Did) (d : Did) (ds : List Did) → AllSo from before (d ∷ ds) → AllSo from (before ++ d ∷ []) ds
  so_behind from before (did.Lost why) ds h = h.1
  so_behind from before _ ds h = h

  -- one of them
  so_one : (from : t.S) (front : List Did) (ds before behind : List Did) (error : TransportError) → AllSo from front ds → ds ≡ before ++ did.Lost (lost.TransportError error) ∷ behind → error.code ≡ KEY_UPDATE_ERROR → IsCaused m from (front ++ before) error
  so_one from front ds [] behind error h is code =
      let all : AllSo from front (did.Lost (lost.TransportError error) ∷ behind) = subst (λ (l : List Did). AllSo from front l) is h in
      subst (λ (l : List Did). IsCaused m from l error) (sym (append-nil front)) (all.0 code)
  so_one from front ds (d ∷ before) behind error h is code =
      let others : List Did = before ++ did.Lost (lost.TransportError error) ∷ behind in
      let all : AllSo from front (d ∷ others) = subst (λ (l : List Did). AllSo from front l) is h in
      subst (λ (l : List Did). IsCaused m from l error) (append_assoc front (d ∷ []) before) (so_one from (front ++ d ∷ []) others before behind error (so_behind from front d others all) refl code)

  -- ---- from one moment to another

  record Since (a b : At t) : Type 0 where
    pub since : List Did
    pub appended : b.did ≡ a.did ++ since
    pub led : (from : t.S) → IsLed m from a.state.lower.session → IsLed m from b.state.lower.session
    pub so : (from : t.S) → IsLed m from a.state.lower.session → AllSo from a.did since

  since_here : (a : At t) → Since a a
  since_here a = record { since = []; appended = sym (append-nil a.did); led = λ from led. led; so = λ from led. tt }

  since_next : (a b c : At t) → Since a b → Since b c → Since a c
  since_next a b c g h = record {
    since = g.since ++ h.since;
    appended = h.appended ∙ ap (λ (x : List Did). x ++ h.since) g.appended ∙ append_assoc a.did g.since h.since;
    led = λ from led. h.led from (g.led from led);
    so = λ from led. so_append from a.did g.since h.since (g.so from led) (subst (λ (l : List Did). AllSo from l h.since) g.appended (h.so from (g.led from led)));
  }

  -- a move
  since_move : (x : Move t) (a : At t) → ((from : t.S) → IsLed m from a.state.lower.session → IsLed m from (lower_move x a.state).session)
      → ((from : t.S) → IsLed m from a.state.lower.session → AllSo from a.did (deeds_move x a.state)) → Since a (move_to x a)
  unfolding move_to state_move
  since_move x a led so = record { since = deeds_move x a.state; appended = told_appends a.did (deeds_move x a.state); led = led; so = so }

  -- one that leaves the session, and gives no reason
  still : (x : Move t) (a : At t) → (lower_move x a.state).session ≡ a.state.lower.session → ((from : t.S) → AllSo from a.did (deeds_move x a.state)) → Since a (move_to x a)
  still x a same so = since_move x a (λ from led. led_same from a.state.lower.session (lower_move x a.state).session same led) (λ from led. so from)

  -- a reason is given
  gives : (why : ConnectionError) (a : At t) → ((from : t.S) → IsLed m from a.state.lower.session → GivenSo from a.did why) → Since a (move_to (Give why) a)
  unfolding lower_move deeds_move
  gives why a so = since_move (Give why) a (λ from led. led) (λ from led. (so from led, tt))

  gives_other : (why : ConnectionError) (a : At t) → IsOtherReason why → Since a (move_to (Give why) a)
  gives_other why a other = gives why a (λ from led. other_so from a.did why other)

  shuts : (time : ℕ) (error : TransportError) (a : At t) → Since a (move_to (Shut time (close_for error)) a)
  unfolding lower_move deeds_move streams_closed streams_stepped
  shuts time error a = still (Shut time (close_for error)) a refl (λ from. tt)

  -- ---- a packet that opened

  -- what is told in it
  told_so : (o : OpenPacket) (d : Did) (s : View t) → IsToldOf o d s → (from : t.S) (before : List Did) → AllSo from before (d ∷ [])
  told_so o (did.Gave to body) s h from before = tt
  told_so o (did.Piece space number v) s h from before = tt
  told_so o _ s h from before = absurd h

  -- the session, as it writes, and as the ring rises
  wrote_led : (from session : t.S) (highest : SpaceId) (keys : Option (Keys t.H t.P)) → IsLed m from session → IsLed m from (session_behind m highest keys (m.after_write session))
  wrote_led from session Handshake (Some keys) led = led_on from session (Writes ∷ GivesNext ∷ []) led
  wrote_led from session Handshake None led = led_on from session (Writes ∷ []) led
  wrote_led from session Initial keys led = led_on from session (Writes ∷ []) led
  wrote_led from session Data keys led = led_on from session (Writes ∷ []) led

  asked_led : (from session : t.S) (which : Which) → IsLed m from session → IsLed m from (session_by m which session)
  asked_led from session Next led = led_on from session (GivesNext ∷ []) led
  asked_led from session Current led = led
  asked_led from session Previous led = led

  -- why this end closed with it, unless the session refused bytes
  broken_so : (s : View t) (error : TransportError) → Breaks m s error → (from : t.S) (before : List Did) → IsLed m from s.lower.session → error.code ≡ KEY_UPDATE_ERROR → IsCaused m from before error
  broken_so s error (Unreadable known) from before led code = RefusedParameters s.lower.session led known
  broken_so s error (Missing known is) from before led code =
      absurd (same_other error missing_parameters is (λ own. let c : 0x16d ≡ 0x0e = own in omega (arith, c)) code)
  broken_so s error (Unfit parameters known unfit is) from before led code =
      absurd (same_other error parameter_error is (λ own. let c : 0x08 ≡ 0x0e = own in omega (arith, c)) code)

  found_so : (o : OpenPacket) (s : View t) (error : TransportError) (stops : Stops m o s error) → IsFound stops → (from : t.S) (before : List Did) → IsLed m from s.lower.session → error.code ≡ KEY_UPDATE_ERROR → IsCaused m from before error
  found_so o s error (Empty none is) found from before led code = absurd (same_other error (violation_at None) is (violation_other None) code)
  found_so o s error (Fault fault ends is) found from before led code =
      absurd (same_other error (encoding_error_at fault.ty) is (λ own. let c : 0x07 ≡ 0x0e = own in omega (arith, c)) code)
  found_so o s error (Kind read among stops) found from before led code =
      absurd (is_other _ error (stop_other s.setup.fixed.side o.space (next_number s.numbers o.space) s.numbers.filter.last read.ty read.frame) stops code)
  found_so o s error (Bytes offset body among stops) found from before led code = absurd (is_other _ error (crypto_other s o.space offset body) stops code)
  found_so o s error (Refusal bytes session refused behind) found from before led code = absurd found
  found_so o s error (Handed f among first is stops) found from before led code = absurd (is_other _ error (handed_other f first.lower) stops code)
  found_so o s error (Inserted new among first is stops) found from before led code = absurd (is_other _ error (insert_other new first.lower.ids) stops code)
  found_so o s error (Retired n among first is stops) found from before led code = absurd (is_other _ error (retire_other n first.lower.ids) stops code)
  found_so o s error (Parameters breaks) found from before led code = broken_so s error breaks from before led code

  given_so : (o : OpenPacket) (why : ConnectionError) (s : View t) → IsReasonOf o why ⊎ IsErrorFor (Finds m o) o.coming.time why s → (from : t.S) (before : List Did) → IsLed m from s.lower.session → GivenSo from before why
  unfolding state_move lower_move streams_closed streams_stepped
  given_so o why s (inl of_peer) from before led = other_so from before why (peers_other of_peer.0 why of_peer.2)
  given_so o why s (inr own) from before led =
      let earlier : own.before.lower.session ≡ s.lower.session = sym (ap (λ (v : View t). v.lower.session) own.closed) in
      subst (λ (w : ConnectionError). GivenSo from before w) (sym own.reason)
      (λ code. found_so o own.before own.error own.cause.0 own.cause.1 from before (led_same from s.lower.session own.before.lower.session earlier led) code)

  -- each move but those by which the session is given bytes, and recovery an ACK
  move_since : (o : OpenPacket) (x : Move t) (a : At t) → IsInPacket m o x a.state → IsBeside x → IsUnrefused m o x a.state → Since a (move_to x a)
  unfolding lower_move deeds_move flight_dropped limits_learned frame_handed streams_closed streams_stepped datagrams_stepped ids_stepped bytes_came session_wrote
  move_since o (Read space count session) a h beside found = absurd beside
  move_since o (Ack space n after) a h beside found = absurd beside
  move_since o (Seal time form n size fs) a h beside found = absurd h
  move_since o (Take space fs) a h beside found = absurd h
  move_since o (Begin space opens) a h beside found = absurd h
  move_since o (Fire after) a h beside found = absurd h
  move_since o (Update fresh session) a h beside found = absurd h
  move_since o (Renew time cid token keys) a h beside found = absurd h
  move_since o (Call y) a h beside found = absurd h
  move_since o (Post y) a h beside found = absurd h
  move_since o ReportStream a h beside found = absurd h
  move_since o ReportStreams a h beside found = absurd h
  move_since o (Write bytes keys session) a h beside found =
      since_move (Write bytes keys session) a (λ from led. led_same from _ session h.behind (wrote_led from a.state.lower.session a.state.keys.highest (m.write_keys a.state.lower.session) led)) (λ from led. tt)
  move_since o (Unseal time n which fresh session) a h beside found =
      since_move (Unseal time n which fresh session) a (λ from led. led_same from _ session h.behind (asked_led from a.state.lower.session which led)) (λ from led. tt)
  move_since o (Tell d) a h beside found = still (Tell d) a refl (λ from. told_so o d a.state h from a.did)
  move_since o (Hand frame) a h beside found = still (Hand frame) a refl (λ from. handed_told (λ ds. AllSo from a.did ds) frame tt (λ body. tt))
  move_since o (Give why) a h beside found = gives why a (λ from led. given_so o why a.state found from a.did led)
  move_since o x a h beside found = still x a refl (λ from. tt)

  -- the session is given bytes, which it takes
  gave_since : (o : OpenPacket) (x : ℕ) (bytes : List ℕ) (a : At t) → Since a (given_read m o x bytes a)
  unfolding move_to state_move lower_move deeds_move session_read
  gave_since o x bytes a = record {
    since = did.Gave layer.Session (x ∷ bytes) ∷ [];
    appended = refl;
    led = λ from led. led_on from a.state.lower.session (Reads (x ∷ bytes) ∷ []) led;
    so = λ from led. tt;
  }

  -- where it refuses them, this end closes for its error, which is the reason
  refused_given : (o : OpenPacket) (x : ℕ) (bytes : List ℕ) (error : TransportError) (a : At t) → m.reads a.state.lower.session (x ∷ bytes) ≡ Err error →
      Since a (move_to (Give (lost.TransportError error)) (move_to (Shut o.coming.time (close_for error)) (given_read m o x bytes a)))
  unfolding move_to state_move lower_move deeds_move session_read streams_closed streams_stepped
  refused_given o x bytes error a refused =
      let gave : Did = did.Gave layer.Session (x ∷ bytes) in
      let given : Did = did.Lost (lost.TransportError error) in
      record {
        since = gave ∷ did.Rose 2 ∷ given ∷ [];
        appended = append_assoc (a.did ++ gave ∷ []) (did.Rose 2 ∷ []) (given ∷ []) ∙ append_assoc a.did (gave ∷ []) (did.Rose 2 ∷ given ∷ []);
        led = λ from led. led_on from a.state.lower.session (Reads (x ∷ bytes) ∷ []) led;
        so = λ from led. (λ code. RefusedBytes a.did a.state.lower.session (x ∷ bytes) led refused (append_assoc a.did (gave ∷ []) (did.Rose 2 ∷ [])), tt);
      }

  refused_since : (o : OpenPacket) (x : ℕ) (bytes : List ℕ) (error : TransportError) (a : At t) → m.reads a.state.lower.session (x ∷ bytes) ≡ Err error → Since a (stopped_after o.coming.time error (given_read m o x bytes a))
  refused_since o x bytes error a refused =
      let b : At t = given_read m o x bytes a in
      let c : At t = move_to (Shut o.coming.time (close_for error)) b in
      stopped_by (λ p q. Since a p → Since a q) (λ p h. h) (λ p q r g k h. k (g h)) o.coming.time error b
      (λ low. λ h. since_next a b c h (shuts o.coming.time error b)) (λ none. λ h. refused_given o x bytes error a refused) (gave_since o x bytes a)

  -- recovery is given an ACK
  acked_since : (o : OpenPacket) (ack : AckValue) (a : At t) → Since a (given_ack m o ack a)
  unfolding lower_move deeds_move packets_settled streams_stepped datagrams_stepped ids_stepped
  acked_since o ack a =
      let told : Move t = Tell (did.Gave layer.Recovery (spelling (frames.Ack ack))) in
      let b : At t = move_to told a in
      since_next a b _ (still told a refl (λ from. tt)) (still (Ack o.space ack.largest (settled_by m o.coming.time o.space ack a.state)) b refl (λ from. tt))

  packet_since : (o : OpenPacket) (a : At t) → is_over a.state.life.state ≡ false → Since a (packet_received m o a)
  packet_since o a lively =
      packet_read m o Since since_here since_next (λ x b h beside found may. move_since o x b h beside found) (λ x bytes b ready. gave_since o x bytes b)
      (λ x bytes error b ready refused. refused_since o x bytes error b refused) (λ ack b among. acked_since o ack b) a lively

  -- ---- around the packets that opened

  -- this end closes for what a packet shows
  shown_so : (v : Verdict) (space : Option SpaceId) (number : ℕ) (error : TransportError) → IsShutBy v error → (from : t.S) (before : List Did) → error.code ≡ KEY_UPDATE_ERROR →
      IsCaused m from ((before ++ did.Piece space (Some number) v ∷ []) ++ did.Rose 2 ∷ []) error
  shown_so verdict.BadBits space number error is from before code = absurd (same_other error (violation_at None) is (violation_other None) code)
  shown_so verdict.BadUpdate space number error is from before code =
      BadUpdate before space number (append_assoc before (did.Piece space (Some number) verdict.BadUpdate ∷ []) (did.Rose 2 ∷ []))
  shown_so _ space number error is from before code = absurd is

  shown_given : (time : ℕ) (space : Option SpaceId) (number : ℕ) (v : Verdict) (error : TransportError) (a : At t) → IsShutBy v error →
      let c : At t = move_to (Shut time (close_for error)) (move_to (Tell (did.Piece space (Some number) v)) a) in Since c (move_to (Give (lost.TransportError error)) c)
  unfolding move_to deeds_move
  shown_given time space number v error a is =
      gives (lost.TransportError error) (move_to (Shut time (close_for error)) (move_to (Tell (did.Piece space (Some number) v)) a)) (λ from led. λ code. shown_so v space number error is from a.did code)

  shut_since : (time : ℕ) (space : Option SpaceId) (number : ℕ) (v : Verdict) (error : TransportError) (a : At t) → IsShutBy v error → Since a (stopped_after time error (move_to (Tell (did.Piece space (Some number) v)) a))
  unfolding lower_move deeds_move
  shut_since time space number v error a is =
      let tell : Move t = Tell (did.Piece space (Some number) v) in
      let b : At t = move_to tell a in
      since_next a b _ (still tell a refl (λ from. tt))
      (stopped_by Since since_here since_next time error b (λ low. shuts time error b) (λ none. shown_given time space number v error a is))

  unread_so : (d : Did) → IsUnread d → (from : t.S) (before : List Did) → AllSo from before (d ∷ [])
  unread_so (did.Piece space number v) h from before = tt
  unread_so _ h from before = absurd h

  around_since : (time : ℕ) (x : Move t) (a : At t) → IsAround time x a.state → Since a (move_to x a)
  unfolding lower_move deeds_move streams_closed streams_stepped
  around_since time (Seal at form n size fs) a h = absurd h
  around_since time (Take space fs) a h = absurd h
  around_since time (Begin space opens) a h = absurd h
  around_since time (Come space offset bytes) a h = absurd h
  around_since time (Read space count session) a h = absurd h
  around_since time (Write bytes keys session) a h = absurd h
  around_since time (Forget space) a h = absurd h
  around_since time (Ack space n after) a h = absurd h
  around_since time (Fire after) a h = absurd h
  around_since time (Unseal at n which fresh session) a h = absurd h
  around_since time (Update fresh session) a h = absurd h
  around_since time (Renew at cid token keys) a h = absurd h
  around_since time (Learn parameters) a h = absurd h
  around_since time (Fix cid) a h = absurd h
  around_since time (Want at count) a h = absurd h
  around_since time (Insert new) a h = absurd h
  around_since time Switch a h = absurd h
  around_since time (Retire at n) a h = absurd h
  around_since time (Issue at given) a h = absurd h
  around_since time Outlive a h = absurd h
  around_since time (Hand frame) a h = absurd h
  around_since time (Call y) a h = absurd h
  around_since time (Post y) a h = absurd h
  around_since time ReportStream a h = absurd h
  around_since time ReportStreams a h = absurd h
  around_since time (Tell d) a h = still (Tell d) a refl (λ from. unread_so d (shunned_unread d h) from a.did)
  around_since time (Give why) a h = gives_other why a (other_reason why (lost.TransportError key_limit_error) h limit_other)
  around_since time x a h = still x a refl (λ from. tt)

  -- a Retry is taken
  retry_since : (time : ℕ) (cid token : List ℕ) (a : At t) → Since a (renewed_after m time cid token a)
  unfolding renewed_after armed_after armed_with lower_move deeds_move flight_dropped ids_stepped
  retry_since time cid token a =
      let renew : Move t = Renew time cid token (new_keys m.seal_limit m.failure_limit (m.initial a.state.lower.session cid Client)) in
      let b : At t = move_to renew a in
      since_next a b _ (still renew a refl (λ from. tt)) (still (Arm (loss_time b.state (is_blocked b.state.paths) time)) b refl (λ from. tt))

  -- a list of versions came without this end's
  leaving_since : (time : ℕ) (x : Move t) (a : At t) → IsLeaving time x → Since a (move_to x a)
  unfolding lower_move deeds_move streams_closed streams_stepped
  leaving_since time (Tell d) a h = still (Tell d) a refl (λ from. unread_so d (subst (λ (told : Did). IsUnread told) (sym h) tt) from a.did)
  leaving_since time (PeerCloses at) a h = still (PeerCloses at) a refl (λ from. tt)
  leaving_since time (Give why) a h = gives_other why a (other_reason why lost.VersionMismatch h tt)
  leaving_since time _ a h = absurd h

  datagram_since : (coming : Coming) (bytes : List ℕ) (a : At t) → Since a (datagram_after m coming bytes a)
  datagram_since coming bytes a =
      datagram_around m coming (λ p. Unit {0}) Since since_here since_next (λ x b h may. around_since coming.time x b h) (λ space number v error b is. shut_since coming.time space number v error b is)
      (λ cid token b r. retry_since coming.time cid token b) (λ b r. versions_by coming.time Since since_here since_next (λ x c h may. leaving_since coming.time x c h) b) (λ p comes o b opened. packet_since o b opened.lively) bytes a (λ p among. tt)

  -- ---- other inputs give no such reason

  record Quiet (a b : At t) : Type 0 where
    pub since : List Did
    pub appended : b.did ≡ a.did ++ since
    pub so : (from : t.S) → AllSo from a.did since

  quiet_here : (a : At t) → Quiet a a
  quiet_here a = record { since = []; appended = sym (append-nil a.did); so = λ from. tt }

  quiet_next : (a b c : At t) → Quiet a b → Quiet b c → Quiet a c
  quiet_next a b c g h = record {
    since = g.since ++ h.since;
    appended = h.appended ∙ ap (λ (x : List Did). x ++ h.since) g.appended ∙ append_assoc a.did g.since h.since;
    so = λ from. so_append from a.did g.since h.since (g.so from) (subst (λ (l : List Did). AllSo from l h.since) g.appended (h.so from));
  }

  quiet_move : (x : Move t) (a : At t) → ((from : t.S) → AllSo from a.did (deeds_move x a.state)) → Quiet a (move_to x a)
  unfolding move_to
  quiet_move x a so = record { since = deeds_move x a.state; appended = told_appends a.did (deeds_move x a.state); so = so }

  own_quiet : (x : Move t) → IsOwn x → (a : At t) → Quiet a (move_to x a)
  unfolding deeds_move
  own_quiet (Give why) own a = quiet_move (Give why) a (λ from. (other_so from a.did why (own_other why own), tt))
  own_quiet (Tell d) own a = absurd own
  own_quiet (Hand frame) own a = absurd own
  own_quiet x own a = quiet_move x a (λ from. tt)

  -- ---- steps and runs

  input_so : (i : Input) (choice : Choice) (s : View t) → IsAllowed m i choice (began s (time_of i)) → AllSo s.lower.session [] (input_after m i choice (began s (time_of i))).did
  unfolding began input_after state_move lower_move
  input_so (input.Datagram time remote ecn bytes) choice s may =
      let h : Since (began s time) (datagram_after m (record { time = time; remote = remote; mark = ecn }) bytes (began s time)) = datagram_since (record { time = time; remote = remote; mark = ecn }) bytes (began s time) in
      subst (λ (ds : List Did). AllSo s.lower.session [] ds) (sym h.appended) (h.so s.lower.session (led_here s.lower.session))
  input_so i choice s may =
      let h : Quiet (began s (time_of i)) (input_after m i choice (began s (time_of i))) = holds_own Quiet quiet_here quiet_next (λ x own a may_be. own_quiet x own a) m i choice (began s (time_of i)) refl may in
      subst (λ (ds : List Did). AllSo s.lower.session [] ds) (sym h.appended) (h.so s.lower.session)

  step_causes : (k : ℕ) (s : View t) (i : Input) (x : Step) (s' : View t) → IsStep m k s i x s' → CausesUpdateErrors m s.lower.session x.did
  unfolding called
  step_causes k s i x s' h before behind error is code = so_one s.lower.session [] x.did before behind error (subst (λ (ds : List Did). AllSo s.lower.session [] ds) (sym h.deeds) (input_so i h.choice s h.allowed)) is code

  pub run_causes : (k : ℕ) (s : View t) (is : List Input) (xs : List Step) (s' : View t) → Run m k s is xs s' → EachCauses m k s is xs s'
  unfolding Run EachCauses
  run_causes k s [] [] s' r = tt
  run_causes k s (i ∷ is) (x ∷ xs) s' r = (r.0, r.1, step_causes k s i x r.0 r.1, run_causes (k + 1) r.0 is xs s' r.2)
  run_causes k s [] (x ∷ xs) s' r = absurd r
  run_causes k s (i ∷ is) [] s' r = absurd r

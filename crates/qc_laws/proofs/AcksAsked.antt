-- Over each step an ACK of 1-RTT packets is asked for behind a packet that elicits one, until one is sealed; and one that is owed stays owed until
-- then.
use Rattle.qc_state.specs.Recovering.{loss_time}
use Rattle.qc_header.specs.declared.protected.ProtectedHeader.{ProtectedHeader}
use Rattle.std.proofs.Common.{◌≡◌, ◌⊎◌, inl, inr, ℕ, ◌+◌, ◌≤◌, List, [], ◌∷◌, ◌++◌, length, length-append, refl, ap, sym, ◌∙◌, subst, Bool, true, false, Option, Some, None, if◌then◌else◌, append_assoc, append-nil, arith, drop}
use Rattle.std.specs.Prelude.{◌&&◌, ◌||◌, not, nat_lt, Ok, Err}
use Rattle.std.specs.List.{list_any}
use Rattle.std.proofs.lemmas.List.Folds.{list_any-append}
use Rattle.qc_base.specs.declared.side.Side.TheVariants.{Server, Client}
use Rattle.qc_base.specs.declared.side.SpaceId.{SpaceId}
use Rattle.qc_base.specs.declared.side.SpaceId.TheVariants.{Initial, Handshake, «Data»}
use Rattle.qc_base.specs.declared.transport_error.TransportError.{TransportError}
use Rattle.qc_datagrams.specs.Steps as datagrams
use Rattle.qc_frame.specs.Frame.{FrameValue}
use Rattle.qc_frame.specs.Payload.{items_of}
use Rattle.qc_header.specs.HeaderGrammar.{DatagramItem}
use Rattle.qc_header.specs.Piece.{Piece, space_of}
use Rattle.qc_header.specs.declared.protected.ProtectedHeader.TheVariants as protected
use Rattle.qc_path.specs.Acks.{AckMarks, acks_received, marks_expired}
use Rattle.qc_path.specs.Arrived.{arrived}
use Rattle.qc_rings.specs.declared.which.Which.{Which}
use Rattle.qc_state.specs.declared.coming.Coming.{Coming}
use Rattle.qc_state.specs.declared.deeds.Did.{Did}
use Rattle.qc_state.specs.declared.deeds.Did.TheVariants as did
use Rattle.qc_state.specs.declared.deeds.Verdict.{Verdict}
use Rattle.qc_state.specs.declared.deeds.Verdict.TheVariants as verdict
use Rattle.qc_state.specs.declared.form.Form.{Form}
use Rattle.qc_state.specs.declared.input.Input.{Input}
use Rattle.qc_state.specs.declared.input.Input.TheVariants as input
use Rattle.qc_state.specs.declared.keys.Fresh.{Fresh}
use Rattle.qc_state.specs.declared.life.Close.{Close}
use Rattle.qc_state.specs.declared.life.ConnectionError.{ConnectionError}
use Rattle.qc_state.specs.declared.life.ConnectionError.TheVariants as lost
use Rattle.qc_state.specs.declared.life.State.TheVariants as state
use Rattle.qc_state.specs.declared.opening.Opening.{Opening}
use Rattle.qc_state.specs.declared.opening.Opening.TheVariants.{Unreadable, Unopened, Reserved, Untimely, Opened}
use Rattle.qc_state.specs.declared.opening.Signs.{Signs}
use Rattle.qc_state.specs.declared.trace.Step.{Step}
use Rattle.qc_state.specs.declared.waiting.Waiting.{Waiting}
use Rattle.qc_state.specs.Acks.{is_ack}
use Rattle.qc_state.specs.Forms.{is_early, number_space}
use Rattle.qc_state.specs.Headline.{is_datagram}
use Rattle.qc_state.specs.Keys.{epoch_in, fails_too_often, new_keys}
use Rattle.qc_state.specs.Life.{is_open, is_over}
use Rattle.qc_state.specs.Moves.{Accept, Arm, Ask, Begin, Call, Discard, Enter, Expect, Fail, Finish, Fire, Forget, Give, Hold, Issue, MayMove, Move, Outlive, Owe, Pace, PeerClosesToo, Post, Probe, Raise, Release, Say, Seal, Shut, Skip, Spend, Take, Tell, Unseal, Want, arrival_of, deeds_move, keys_move, move_to, numbers_move, state_move, waiting_move, told, Update, PeerCloses, Renew, armed_after, armed_with}
use Rattle.qc_state.specs.Numbers.{came_in, next_number}
use Rattle.qc_state.specs.Opening.{opening_of}
use Rattle.qc_state.specs.Paths.{is_blocked}
use Rattle.qc_state.specs.Receiving.{accepted_after, admitted_after, cut_of, datagram_after, failed_after, fixed_after, is_close_item, is_eliciting_item, opening_after, payload_after, piece_after, piece_told, pieces_after, read_for_close, received_after, signs_of, verdict_after, formed_after, left_after, renewed_after, retried_after, unnumbered_after}
use Rattle.qc_state.specs.Run.{IsAllowed, IsStep, began, called, close_after, datagram_limit, input_after, reported, step_after, time_of}
use Rattle.qc_state.specs.Sending.{Choice, packet_size}
use Rattle.qc_state.specs.Spaces.{is_space}
use Rattle.qc_state.specs.Stopping.{key_limit_error, killed_after, stopped_after, update_error, violation_at, given_after}
use Rattle.qc_state.specs.Types.{Types, Meaning}
use Rattle.qc_state.specs.Updating.{fresh_by, session_by, unsealed_after, fresh_now}
use Rattle.qc_state.specs.Verdicts.{first_row, verdict_of, ids_end, retry_token, unnumbered_verdict}
use Rattle.qc_state.specs.View.{View, At, at}
use Rattle.qc_state.specs.Waiting.{ack_released, packet_came}
use Rattle.qc_state.specs.Waiting as waiting
use Rattle.qc_state.proofs.Ends.{holds_given, holds_initial, holds_stopped}
use Rattle.qc_state.proofs.Expired.{IsTimed, holds_timeout}
use Rattle.qc_state.proofs.OpenPackets.{holds_fixed, holds_payload}
use Rattle.qc_state.proofs.PacketMoves.{IsInPacket, OpenPacket}
use Rattle.qc_state.proofs.ReceivedMoves.{IsEnding, IsOutside}
use Rattle.qc_state.proofs.Telling.{told_appends}
use Rattle.qc_state.proofs.Transmitted.{IsSending, holds_transmit}
use Rattle.qc_state.proofs.Updates.{holds_updated}
use Rattle.qc_laws.specs.AckLaws.{AsksStep, accepts_data, acks_data, asks_ack, is_asked, marks_of, one_asks, opened_payload}
use Rattle.qc_laws.specs.PieceLaws.{TellsDatagram, TellsPiece, gifts_by, opening_deed, pieces_in, formed_deed, unnumbered_deed}
use Rattle.qc_laws.specs.StreamLaws.{is_of}
use Rattle.qc_laws.proofs.AckMarks.{IsTaken, KeepsMarks, data_marks, kept_marks, or_false, received_count, received_owed, sealed_exact}
use Rattle.qc_laws.proofs.Gifts.{pieces_append}
use Rattle.qc_laws.proofs.PieceLaws.{Begins, admitted_tells, datagram_with, unsealed_verdict}
use Rattle.qc_laws.proofs.Receives.{counted_holds}
use Rattle.qc_laws.proofs.StreamCalls.{called_input}

-- ---- tests

or_assoc : (x y z : Bool) → ((x || y) || z) ≡ (x || (y || z))
or_assoc true y z = refl
or_assoc false y z = refl

and_true : (b : Bool) → (b && true) ≡ b
and_true true = refl
and_true false = refl

and_false : (b : Bool) → (b && false) ≡ false
and_false true = refl
and_false false = refl

neither : (b x y : Bool) → ((b && not x) && not y) ≡ (b && not (x || y))
neither true true y = refl
neither true false y = refl
neither false x y = refl

first_one : (x y : Bool) → x ≡ true → (x || y) ≡ true
first_one true y h = refl
first_one false y h = cc

either_one : (x y : Bool) → y ≡ true → (x || y) ≡ true
either_one true y h = refl
either_one false y h = h

-- before the handshake is over no 1-RTT packet is acknowledged without its frames
row_apart : (new closed early other : Bool) →
    first_row ((not new, verdict.Seen) ∷ (closed, verdict.ReadForClose) ∷ (early && true, verdict.NumberOnly) ∷ (early && other, verdict.AckOnly) ∷ []) verdict.Admitted ≡ verdict.AckOnly → ⊥
row_apart true true early other e = cc
row_apart true false true other e = cc
row_apart true false false other e = cc
row_apart false closed early other e = cc

-- so many packets are told of
count_told : (ds es : List Did) → length (pieces_in (told ds es)) ≡ length (pieces_in ds) + length (pieces_in es)
count_told ds es = ap (λ (l : List Did). length (pieces_in l)) (told_appends ds es) ∙ ap (λ (l : List Did). length l) (pieces_append ds es) ∙ length-append (pieces_in ds) (pieces_in es)

-- what is sealed, behind frames that were taken
asked_by : (acks : Bool) (m m' : AckMarks) → IsTaken acks m m' → nat_lt 0 m'.eliciting ≡ (nat_lt 0 m.eliciting && not (acks || false))
asked_by true m m' h = ap (λ (n : ℕ). nat_lt 0 n) (h.sent refl).0 ∙ sym (and_false (nat_lt 0 m.eliciting))
asked_by false m m' h = ap (λ (x : AckMarks). nat_lt 0 x.eliciting) (h.same refl) ∙ sym (and_true (nat_lt 0 m.eliciting))

owed_by : (acks : Bool) (m m' : AckMarks) → IsTaken acks m m' → m.owed ≡ true → (m'.owed ≡ true) ⊎ ((acks || false) ≡ true)
owed_by true m m' h o = inr refl
owed_by false m m' h o = inl (ap (λ (x : AckMarks). x.owed) (h.same refl) ∙ o)

module _ {t : Types} where
  -- ---- where nothing changes

  abbrev Still : At t → At t → Type 0
  Still a b = marks_of b.state ≡ marks_of a.state

  still_here : (a : At t) → Still a a
  still_here a = refl

  still_next : (a b c : At t) → Still a b → Still b c → Still a c
  still_next a b c g h = h ∙ g

  still : (x : Move t) (a : At t) → KeepsMarks x → Still a (move_to x a)
  unfolding move_to state_move
  still x a k = kept_marks x a.state k

  still_ending : (x : Move t) → IsEnding x → (a : At t) → MayMove x a.state → Still a (move_to x a)
  still_ending (Take id fs) e a may = absurd e
  still_ending (Seal time form n size fs) e a may = absurd e
  still_ending (Accept time id n eliciting g v) e a may = absurd e
  still_ending Release e a may = absurd e
  still_ending x e a may = still x a tt

  still_outside : (time : ℕ) (x : Move t) (a : At t) → IsOutside time x a.state → MayMove x a.state → Still a (move_to x a)
  still_outside time (Take id fs) a h may = absurd h
  still_outside time (Seal at_time form n size fs) a h may = absurd h
  still_outside time (Accept at_time id n eliciting g v) a h may = absurd h
  still_outside time Release a h may = absurd h
  still_outside time x a h may = still x a tt

  still_stopped : (time : ℕ) (error : TransportError) (a : At t) → Still a (stopped_after time error a)
  still_stopped time error a = holds_stopped Still still_here still_next still_ending time error a

  -- ---- packets that came

  -- an ACK is asked for from then on where it was before, or one of the packets asks for it; and one that was owed is owed
  record Asks (one : Bool) (a b : At t) : Type 0 where
    pub asked : is_asked b.state ≡ (is_asked a.state || one)
    pub owed : (marks_of a.state).owed ≡ true → (marks_of b.state).owed ≡ true

  asks_still : (a b : At t) → Still a b → Asks false a b
  asks_still a b h = record { asked = ap (λ (m : AckMarks). nat_lt 0 m.eliciting) h ∙ sym (or_false (is_asked a.state)); owed = λ o. ap (λ (m : AckMarks). m.owed) h ∙ o }

  asks_next : (one other : Bool) (a b c : At t) → Asks one a b → Asks other b c → Asks (one || other) a c
  asks_next one other a b c g h = record { asked = h.asked ∙ ap (λ (x : Bool). x || other) g.asked ∙ or_assoc (is_asked a.state) one other; owed = λ o. h.owed (g.owed o) }

  then_still : (one : Bool) (a b c : At t) → Asks one a b → Still b c → Asks one a c
  then_still one a b c g h = record { asked = ap (λ (m : AckMarks). nat_lt 0 m.eliciting) h ∙ g.asked; owed = λ o. ap (λ (m : AckMarks). m.owed) h ∙ g.owed o }

  still_then : (one : Bool) (a b c : At t) → Still a b → Asks one b c → Asks one a c
  still_then one a b c g h = record { asked = h.asked ∙ ap (λ (m : AckMarks). nat_lt 0 m.eliciting || one) g; owed = λ o. h.owed (ap (λ (m : AckMarks). m.owed) g ∙ o) }

  -- one that is accepted
  asks_accept : (time : ℕ) (id : SpaceId) (n : ℕ) (e : Bool) (g : Signs) (v : Verdict) (a : At t) → Asks (is_of «Data» (Some id) && e) a (move_to (Accept time id n e g v) a)
  unfolding move_to state_move waiting_move packet_came waiting.came_in acks_received
  asks_accept time Initial n e g v a = record { asked = sym (or_false (is_asked a.state)); owed = λ o. o }
  asks_accept time Handshake n e g v a = record { asked = sym (or_false (is_asked a.state)); owed = λ o. o }
  asks_accept time Data n e g v a = record {
    asked = received_count (arrived n (came_in a.state.numbers «Data»)) (arrival_of time n e g) (marks_of a.state);
    owed = received_owed true (arrived n (came_in a.state.numbers «Data»)) (arrival_of time n e g) (marks_of a.state);
  }

  -- so it is with a packet that is to be acknowledged, by what is left then
  asks_accepted : (coming : Coming) (id : SpaceId) (number : ℕ) (e spin : Bool) (v : Verdict) (a : At t) → Asks (is_of «Data» (Some id) && e) a (accepted_after coming id number e spin v a)
  unfolding accepted_after
  asks_accepted coming id number e spin v a =
      let b : At t = move_to (Accept coming.time id number e (signs_of coming spin) v) a in
      then_still (is_of «Data» (Some id) && e) a b _ (asks_accept coming.time id number e (signs_of coming spin) v a)
      (holds_initial Still still_here still_next still_ending Server (is_blocked b.state.paths) coming.time id b)

  -- the marks stay where no packet is told of
  record Unless (a b : At t) : Type 0 where
    pub fewer : length (pieces_in a.did) ≤ length (pieces_in b.did)
    pub same : length (pieces_in b.did) ≡ length (pieces_in a.did) → Still a b

  unless_here : (a : At t) → Unless a a
  unless_here a = record { fewer = omega arith; same = λ e. refl }

  unless_next : (a b c : At t) → Unless a b → Unless b c → Unless a c
  unless_next a b c g h =
      let first : length (pieces_in a.did) ≤ length (pieces_in b.did) = g.fewer in
      let second : length (pieces_in b.did) ≤ length (pieces_in c.did) = h.fewer in
      record { fewer = omega (arith, first, second); same = λ e. still_next a b c (g.same (omega (arith, first, second, e))) (h.same (omega (arith, first, second, e))) }

  unless_move : (x : Move t) (a : At t) → KeepsMarks x → Unless a (move_to x a)
  unfolding move_to
  unless_move x a k = record { fewer = let more = count_told a.did (deeds_move x a.state) in omega (arith, more); same = λ e. still x a k }

  unless_accept : (time : ℕ) (id : SpaceId) (n : ℕ) (e : Bool) (g : Signs) (v : Verdict) (a : At t) → Unless a (move_to (Accept time id n e g v) a)
  unfolding move_to deeds_move
  unless_accept time id n e g v a =
      let more : length (pieces_in (told a.did (did.Piece (Some id) (Some n) v ∷ []))) ≡ length (pieces_in a.did) + 1 = count_told a.did (did.Piece (Some id) (Some n) v ∷ []) in
      record { fewer = omega (arith, more); same = λ same. absurd (omega (arith, more, same)) }

  unless_packet : (m : Meaning t) (o : OpenPacket) (x : Move t) (a : At t) → IsInPacket m o x a.state → MayMove x a.state → Unless a (move_to x a)
  unless_packet m o (Take id fs) a h may = absurd h
  unless_packet m o (Seal time form n size fs) a h may = absurd h
  unless_packet m o Release a h may = absurd h
  unless_packet m o (Accept time id n e g v) a h may = unless_accept time id n e g v a
  unless_packet m o x a h may = unless_move x a tt

  unless_ending : (x : Move t) → IsEnding x → (a : At t) → MayMove x a.state → Unless a (move_to x a)
  unless_ending (Take id fs) h a may = absurd h
  unless_ending (Seal time form n size fs) h a may = absurd h
  unless_ending (Accept time id n e g v) h a may = absurd h
  unless_ending Release h a may = absurd h
  unless_ending x h a may = unless_move x a tt

  -- an admitted packet is told of as it is accepted, and no other one behind it: so what is left of it leaves the marks
  same_count : (number : ℕ) (id : SpaceId) (gifts : List Did) (a b c : At t) → let d : Did = did.Piece (Some id) (Some number) verdict.Admitted in
      b.did ≡ a.did ++ d ∷ [] → TellsPiece d gifts a c → length (pieces_in c.did) ≡ length (pieces_in b.did)
  same_count number id gifts a b c one h =
      let d : Did = did.Piece (Some id) (Some number) verdict.Admitted in
      ap (λ (l : List Did). length (pieces_in l)) h.appended ∙ ap (λ (l : List Did). length l) (pieces_append a.did (d ∷ h.others)) ∙ ap (λ (l : List Did). length (pieces_in a.did ++ d ∷ l)) h.one
      ∙ sym (ap (λ (l : List Did). length l) (pieces_append a.did (d ∷ []))) ∙ ap (λ (l : List Did). length (pieces_in l)) (sym one)

  asks_admitted : (m : Meaning t) (coming : Coming) (id : SpaceId) (spin : Bool) (source : List ℕ) (number : ℕ) (payload : List ℕ) (a : At t) →
      Asks (is_of «Data» (Some id) && list_any is_eliciting_item (items_of payload)) a (admitted_after m coming id spin source number payload a)
  unfolding admitted_after accepted_after move_to deeds_move
  asks_admitted m coming id spin source number payload a =
      let e : Bool = list_any is_eliciting_item (items_of payload) in
      let o : OpenPacket = record { coming = coming; space = id; spin = spin; which = None; source = source; token = []; number = number; payload = payload } in
      let b : At t = move_to (Accept coming.time id number e (signs_of coming spin) verdict.Admitted) a in
      let c : At t = accepted_after coming id number e spin verdict.Admitted a in
      let d : At t = fixed_after id source c in
      let f : At t = payload_after m coming id payload d in
      let initial : Unless b c = holds_initial Unless unless_here unless_next unless_ending Server (is_blocked b.state.paths) coming.time id b in
      let fixed : Unless c d = holds_fixed m o Unless unless_here unless_next (unless_packet m o) c in
      let read : Unless d f = holds_payload m o Unless unless_here unless_next (unless_packet m o) d in
      let whole : Unless b f = unless_next b c f initial (unless_next c d f fixed read) in
      then_still (is_of «Data» (Some id) && e) a b f (asks_accept coming.time id number e (signs_of coming spin) verdict.Admitted a)
      (whole.same (same_count number id (gifts_by m coming id spin source number payload verdict.Admitted a.state) a b f refl (admitted_tells m coming id spin source number payload a)))

  -- one in which this end looks only for a close
  still_closing : (b : At t) (close : Bool) → Still b (if close then move_to PeerClosesToo b else move_to Owe b)
  still_closing b true = still PeerClosesToo b tt
  still_closing b false = still Owe b tt

  still_read : (id : SpaceId) (number : ℕ) (payload : List ℕ) (a : At t) → Still a (read_for_close id number payload a)
  unfolding read_for_close
  still_read id number payload a =
      let b : At t = move_to (Enter id number verdict.ReadForClose) a in
      still_next a b (read_for_close id number payload a) (still (Enter id number verdict.ReadForClose) a tt) (still_closing b (list_any is_close_item (items_of payload)))

  -- one of which nothing but its number is to be acknowledged
  asks_unread : (coming : Coming) (id : SpaceId) (source token : List ℕ) (number : ℕ) (spin e : Bool) (a : At t) → verdict_of a.state id source token number ≡ verdict.AckOnly →
      Asks (is_of «Data» (Some id) && e) a (accepted_after coming id number false spin verdict.AckOnly a)
  unfolding verdict_of
  asks_unread coming Initial source token number spin e a is = asks_accepted coming Initial number false spin verdict.AckOnly a
  asks_unread coming Handshake source token number spin e a is = asks_accepted coming Handshake number false spin verdict.AckOnly a
  asks_unread coming Data source token number spin e a is = absurd (row_apart _ _ _ _ is)

  asks_verdict : (m : Meaning t) (coming : Coming) (id : SpaceId) (spin : Bool) (source token : List ℕ) (number : ℕ) (payload : List ℕ) (v : Verdict) (a : At t) → verdict_of a.state id source token number ≡ v →
      Asks (accepts_data (did.Piece (Some id) (Some number) v) && list_any is_eliciting_item (items_of payload)) a (verdict_after m coming id spin source number payload v a)
  asks_verdict m coming id spin source token number payload verdict.Ignored a is = asks_still a a refl
  asks_verdict m coming id spin source token number payload verdict.Failure a is = asks_still a a refl
  asks_verdict m coming id spin source token number payload verdict.BadBits a is = asks_still a a refl
  asks_verdict m coming id spin source token number payload verdict.BadUpdate a is = asks_still a a refl
  asks_verdict m coming id spin source token number payload verdict.RetryTaken a is = asks_still a a refl
  asks_verdict m coming id spin source token number payload verdict.Versions a is = asks_still a a refl
  asks_verdict m coming id spin source token number payload verdict.Seen a is = asks_still a _ (still (Tell (did.Piece (Some id) (Some number) verdict.Seen)) a tt)
  asks_verdict m coming id spin source token number payload verdict.ReadForClose a is = asks_still a _ (still_read id number payload a)
  asks_verdict m coming id spin source token number payload verdict.NumberOnly a is = asks_still a _ (still (Enter id number verdict.NumberOnly) a tt)
  asks_verdict m coming id spin source token number payload verdict.AckOnly a is = asks_unread coming id source token number spin (list_any is_eliciting_item (items_of payload)) a is
  asks_verdict m coming id spin source token number payload verdict.Admitted a is = asks_admitted m coming id spin source number payload a

  -- one that opened
  asks_received : (m : Meaning t) (coming : Coming) (id : SpaceId) (spin : Bool) (source token : List ℕ) (number : ℕ) (payload : List ℕ) (a : At t) →
      Asks (accepts_data (did.Piece (Some id) (Some number) (verdict_of a.state id source token number)) && list_any is_eliciting_item (items_of payload)) a (received_after m coming id spin source token number payload a)
  unfolding received_after
  asks_received m coming id spin source token number payload a = asks_verdict m coming id spin source token number payload (verdict_of a.state id source token number) a refl

  asks_opened : (m : Meaning t) (coming : Coming) (id : SpaceId) (source token : List ℕ) (spin : Bool) (which : Option Which) (number : ℕ) (payload : List ℕ) (a : At t) →
      Asks (accepts_data (did.Piece (Some id) (Some number) (verdict_of a.state id source token number)) && list_any is_eliciting_item (items_of payload)) a
      (received_after m coming id spin source token number payload (unsealed_after m coming.time which number a))
  unfolding move_to
  asks_opened m coming id source token spin None number payload a = asks_received m coming id spin source token number payload a
  asks_opened m coming id source token spin (Some which) number payload a =
      let fresh : Option (Fresh t.P) = fresh_by m which a.state in
      let session : t.S = session_by m which a.state.lower.session in
      let x : Move t = Unseal coming.time number which fresh session in
      let b : At t = move_to x a in
      let c : At t = received_after m coming id spin source token number payload b in
      let behind = asks_received m coming id spin source token number payload b in
      let same = unsealed_verdict coming.time number which fresh session a.state id source token number in
      subst (λ (v : Verdict). Asks (accepts_data (did.Piece (Some id) (Some number) v) && list_any is_eliciting_item (items_of payload)) a c) same
      (still_then (accepts_data (did.Piece (Some id) (Some number) (verdict_of b.state id source token number)) && list_any is_eliciting_item (items_of payload)) a b c (still x a tt) behind)

  -- one that didn't open
  still_given : (why : ConnectionError) (a : At t) (b : Bool) → Still a (if b then killed_after why a else a)
  unfolding killed_after
  still_given why a true = let b : At t = move_to (Raise state.Drained) a in still_next a b (killed_after why a) (still (Raise state.Drained) a tt) (holds_given Still still_here still_next still_ending why b)
  still_given why a false = refl

  still_failed : (space : Option SpaceId) (a : At t) → Still a (failed_after space a)
  unfolding failed_after
  still_failed space a =
      let d : Did = did.Piece space None verdict.Failure in
      let b : At t = move_to Fail a in
      let c : At t = move_to (Tell d) b in
      still_next a b (failed_after space a) (still Fail a tt) (still_next b c (failed_after space a) (still (Tell d) b tt) (still_given (lost.TransportError key_limit_error) c (fails_too_often c.state.keys)))

  still_refused : (time : ℕ) (d : Did) (error : TransportError) (a : At t) → Still a (stopped_after time error (move_to (Tell d) a))
  still_refused time d error a = let b : At t = move_to (Tell d) a in still_next a b (stopped_after time error b) (still (Tell d) a tt) (still_stopped time error b)

  asks_opening : (m : Meaning t) (coming : Coming) (space : Option SpaceId) (o : Opening) (a : At t) →
      Asks (accepts_data (opening_deed a.state space o) && list_any is_eliciting_item (items_of (opened_payload o))) a (opening_after m coming space o a)
  asks_opening m coming space Unreadable a = asks_still a _ (still (Tell (did.Piece space None verdict.Ignored)) a tt)
  asks_opening m coming space Unopened a = asks_still a _ (still_failed space a)
  asks_opening m coming space (Reserved number) a = asks_still a _ (still_refused coming.time (did.Piece space (Some number) verdict.BadBits) (violation_at None) a)
  asks_opening m coming space (Untimely number) a = asks_still a _ (still_refused coming.time (did.Piece space (Some number) verdict.BadUpdate) update_error a)
  asks_opening m coming (Some id) (Opened source token spin which number payload) a = asks_opened m coming id source token spin which number payload a
  asks_opening m coming None (Opened source token spin which number payload) a = asks_still a _ (still (Tell (did.Piece None None verdict.Ignored)) a tt)

  -- a Retry that is taken
  still_renewed : (m : Meaning t) (time : ℕ) (cid token : List ℕ) (a : At t) → Still a (renewed_after m time cid token a)
  unfolding renewed_after armed_after armed_with
  still_renewed m time cid token a =
      let renew : Move t = Renew time cid token (new_keys m.seal_limit m.failure_limit (m.initial a.state.lower.session cid Client)) in
      let b : At t = move_to renew a in
      let arm : Move t = Arm (loss_time b.state (is_blocked b.state.paths) time) in
      still_next a b (move_to arm b) (still renew a tt) (still arm b tt)

  still_retried : (m : Meaning t) (time : ℕ) (header : ProtectedHeader) (bytes : List ℕ) (a : At t) → Still a (retried_after m time header bytes a)
  still_retried m time (protected.Retry dst_cid src_cid version) bytes a = still_renewed m time src_cid (retry_token (drop (ids_end dst_cid src_cid) bytes)) a
  still_retried m time (protected.Initial dst_cid src_cid token_start token_len version) bytes a = refl
  still_retried m time (protected.Long ty dst_cid src_cid version) bytes a = refl
  still_retried m time (protected.Short spin dst_cid) bytes a = refl
  still_retried m time (protected.VersionNegotiate random src_cid dst_cid) bytes a = refl

  -- a list of versions without this end's
  still_left : (time : ℕ) (why : ConnectionError) (a : At t) (b : Bool) → Still a (if b then given_after why (move_to (PeerCloses time) a) else a)
  still_left time why a true =
      let b : At t = move_to (PeerCloses time) a in
      still_next a b (given_after why b) (still (PeerCloses time) a tt) (holds_given Still still_here still_next still_ending why b)
  still_left time why a false = refl

  still_listed : (time : ℕ) (a : At t) → Still a (left_after time lost.VersionMismatch (piece_told None None verdict.Versions a))
  unfolding left_after
  still_listed time a =
      let d : Did = did.Piece None None verdict.Versions in
      let b : At t = move_to (Tell d) a in
      still_next a b (left_after time lost.VersionMismatch b) (still (Tell d) a tt) (still_left time lost.VersionMismatch b (is_open b.state.life.state))

  -- a packet without a number
  asks_unnumbered : (m : Meaning t) (time : ℕ) (p : Piece) (v : Verdict) (e : Bool) (a : At t) → Asks (accepts_data (unnumbered_deed v) && e) a (unnumbered_after m time p v a)
  asks_unnumbered m time p verdict.RetryTaken e a = asks_still a _ (still_retried m time p.header p.bytes a)
  asks_unnumbered m time p verdict.Versions e a = asks_still a _ (still_listed time a)
  asks_unnumbered m time p _ e a = asks_still a _ (still (Tell (did.Piece None None verdict.Ignored)) a tt)

  asks_formed : (m : Meaning t) (coming : Coming) (space : Option SpaceId) (p : Piece) (a : At t) →
      Asks (accepts_data (formed_deed m a.state space p) && list_any is_eliciting_item (items_of (opened_payload (opening_of m a.state p)))) a (formed_after m coming space p a)
  asks_formed m coming None p a = asks_unnumbered m coming.time p (unnumbered_verdict m a.state p) (list_any is_eliciting_item (items_of (opened_payload (opening_of m a.state p)))) a
  asks_formed m coming (Some id) p a = asks_opening m coming (Some id) (opening_of m a.state p) a

  asks_by : (m : Meaning t) (coming : Coming) (space : Option SpaceId) (p : Piece) (a : At t) (b : Bool) →
      Asks (accepts_data (if b then did.Piece space None verdict.Ignored else formed_deed m a.state space p) && list_any is_eliciting_item (items_of (opened_payload (opening_of m a.state p)))) a
      (if b then piece_told space None verdict.Ignored a else formed_after m coming space p a)
  asks_by m coming space p a true = asks_still a _ (still (Tell (did.Piece space None verdict.Ignored)) a tt)
  asks_by m coming space p a false = asks_formed m coming space p a

  asks_piece : (m : Meaning t) (coming : Coming) (p : Piece) (a : At t) → Asks (asks_ack m a.state p) a (piece_after m coming p a)
  unfolding piece_after
  asks_piece m coming p a = asks_by m coming (space_of p.header) p a (is_over a.state.life.state)

  -- the packets of a datagram
  asks_pieces : (m : Meaning t) (coming : Coming) (items : List DatagramItem) (a : At t) → Asks (one_asks m coming items a) a (pieces_after m coming items a)
  asks_pieces m coming [] a = asks_still a a refl
  asks_pieces m coming (Err fault ∷ items) a = asks_still a a refl
  asks_pieces m coming (Ok p ∷ items) a =
      let b : At t = piece_after m coming p a in
      asks_next (asks_ack m a.state p) (one_asks m coming items b) a b _ (asks_piece m coming p a) (asks_pieces m coming items b)

  still_begins : (a start : At t) → Begins a start → Still a start
  still_begins a start (inl same) = ap (λ (b : At t). marks_of b.state) same
  still_begins a start (inr token) = ap (λ (b : At t). marks_of b.state) token.1 ∙ still (Expect token.0) a tt

  -- a datagram
  asks_datagram : (m : Meaning t) (coming : Coming) (bytes : List ℕ) (a : At t) →
      (told : TellsDatagram m coming bytes a (datagram_after m coming bytes a)) × Asks (one_asks m coming told.items told.start) a (datagram_after m coming bytes a)
  asks_datagram m coming bytes a =
      datagram_with m coming bytes (λ items start b c. Asks (one_asks m coming items start) b c) (λ b start begins. asks_still b start (still_begins b start begins))
      (λ b start begins blocked n.
      let items : List DatagramItem = cut_of start.state bytes in
      let c : At t = pieces_after m coming items start in
      still_then (one_asks m coming items start) b start _ (still_begins b start begins)
      (then_still (one_asks m coming items start) start c _ (asks_pieces m coming items start) (counted_holds coming.time Still still_here still_next (still_outside coming.time) blocked n c)))
      a

  -- ---- other inputs

  -- an ACK is asked for from then on where it was before, and none of 1-RTT packets was sealed; and one that was owed is owed, unless one was
  record Seals (a b : At t) : Type 0 where
    pub since : List Did
    pub appended : b.did ≡ a.did ++ since
    pub asked : is_asked b.state ≡ (is_asked a.state && not (list_any acks_data since))
    pub owed : (marks_of a.state).owed ≡ true → ((marks_of b.state).owed ≡ true) ⊎ (list_any acks_data since ≡ true)

  seals_here : (a : At t) → Seals a a
  seals_here a = record { since = []; appended = sym (append-nil a.did); asked = sym (and_true (is_asked a.state)); owed = λ o. inl o }

  seals_next : (a b c : At t) → Seals a b → Seals b c → Seals a c
  seals_next a b c g h =
      let both : list_any acks_data (g.since ++ h.since) ≡ (list_any acks_data g.since || list_any acks_data h.since) = list_any-append acks_data g.since h.since in
      record {
        since = g.since ++ h.since;
        appended = h.appended ∙ ap (λ (ds : List Did). ds ++ h.since) g.appended ∙ append_assoc a.did g.since h.since;
        asked = h.asked ∙ ap (λ (x : Bool). x && not (list_any acks_data h.since)) g.asked ∙ neither (is_asked a.state) (list_any acks_data g.since) (list_any acks_data h.since)
            ∙ ap (λ (x : Bool). is_asked a.state && not x) (sym both);
        owed = λ o. on both (g.owed o);
      }
    where
      behind : (x y z : Bool) → z ≡ (x || y) → ((marks_of c.state).owed ≡ true) ⊎ (y ≡ true) → ((marks_of c.state).owed ≡ true) ⊎ (z ≡ true)
      behind x y z is (inl o) = inl o
      behind x y z is (inr e) = inr (is ∙ either_one x y e)

      on : list_any acks_data (g.since ++ h.since) ≡ (list_any acks_data g.since || list_any acks_data h.since) → ((marks_of b.state).owed ≡ true) ⊎ (list_any acks_data g.since ≡ true) →
          ((marks_of c.state).owed ≡ true) ⊎ (list_any acks_data (g.since ++ h.since) ≡ true)
      on both (inl o) = behind (list_any acks_data g.since) (list_any acks_data h.since) (list_any acks_data (g.since ++ h.since)) both (h.owed o)
      on both (inr e) = inr (both ∙ first_one (list_any acks_data g.since) (list_any acks_data h.since) e)

  -- a move that leaves the marks and seals nothing
  seals_still : (x : Move t) (a : At t) → KeepsMarks x → list_any acks_data (deeds_move x a.state) ≡ false → Seals a (move_to x a)
  unfolding move_to state_move
  seals_still x a k none = record {
    since = deeds_move x a.state;
    appended = told_appends a.did (deeds_move x a.state);
    asked = ap (λ (m : AckMarks). nat_lt 0 m.eliciting) (kept_marks x a.state k) ∙ sym (and_true (is_asked a.state)) ∙ ap (λ (b : Bool). is_asked a.state && not b) (sym none);
    owed = λ o. inl (ap (λ (m : AckMarks). m.owed) (kept_marks x a.state k) ∙ o);
  }

  -- an ACK that was held back is owed
  seals_release : (a : At t) → Seals a (move_to Release a)
  unfolding move_to state_move waiting_move deeds_move ack_released marks_expired
  seals_release a = record { since = []; appended = sym (append-nil a.did); asked = sym (and_true (is_asked a.state)); owed = λ o. inl (first_one (marks_of a.state).owed _ o) }

  seals_timed : (x : Move t) → IsTimed x → (a : At t) → MayMove x a.state → Seals a (move_to x a)
  unfolding deeds_move
  seals_timed (Fire after) r a may = seals_still (Fire after) a tt refl
  seals_timed (Arm at_time) r a may = seals_still (Arm at_time) a tt refl
  seals_timed Discard r a may = seals_still Discard a tt refl
  seals_timed Pace r a may = seals_still Pace a tt refl
  seals_timed Release r a may = seals_release a
  seals_timed Outlive r a may = seals_still Outlive a tt refl
  seals_timed (Want time count) r a may = seals_still (Want time count) a tt refl
  seals_timed (Raise to) r a may = seals_still (Raise to) a tt refl
  seals_timed (Give why) r a may = seals_still (Give why) a tt refl
  seals_timed _ r a may = absurd r

  seals_sending : (x : Move t) → IsSending x → (a : At t) → MayMove x a.state → Seals a (move_to x a)
  unfolding deeds_move
  seals_sending (Ask id) r a may = seals_still (Ask id) a tt refl
  seals_sending (Update fresh session) r a may = seals_still (Update fresh session) a tt refl
  seals_sending (Forget id) r a may = seals_still (Forget id) a tt refl
  seals_sending (Arm at_time) r a may = seals_still (Arm at_time) a tt refl
  seals_sending (Begin id opens) r a may = seals_still (Begin id opens) a tt refl
  seals_sending Skip r a may = seals_still Skip a tt refl
  seals_sending (Shut time close) r a may = seals_still (Shut time close) a tt refl
  seals_sending (Raise to) r a may = seals_still (Raise to) a tt refl
  seals_sending (Give why) r a may = seals_still (Give why) a tt refl
  seals_sending (Spend tokens) r a may = seals_still (Spend tokens) a tt refl
  seals_sending (Hold until) r a may = seals_still (Hold until) a tt refl
  seals_sending (Finish bytes control) r a may = seals_still (Finish bytes control) a tt refl
  seals_sending (Probe time n bytes q) r a may = seals_still (Probe time n bytes q) a tt refl
  seals_sending (Say q) r a may = seals_still (Say q) a tt refl
  seals_sending _ r a may = absurd r

  -- a packet is taken and sealed
  seals_packet : (time : ℕ) (form : Form) (fs : List FrameValue) (a : At t) →
      Seals a (move_to (Seal time form (next_number a.state.numbers (number_space form)) (packet_size a.state form fs) fs) (move_to (Take (number_space form) fs) a))
  unfolding move_to state_move waiting_move numbers_move keys_move deeds_move
  seals_packet time form fs a =
      let acks : Bool = is_space (number_space form) «Data» && list_any is_ack fs in
      record {
        since = did.Sealed (number_space form) (next_number a.state.numbers (number_space form)) (epoch_in a.state.keys form) (is_early form) fs ∷ [];
        appended = refl;
        asked = asked_by acks (marks_of a.state) _ (sealed_exact (number_space form) a.state.waiting fs _ _);
        owed = owed_by acks (marks_of a.state) _ (sealed_exact (number_space form) a.state.waiting fs _ _);
      }

  seals_close : (time : ℕ) (close : Close) (a : At t) (b : Bool) → Seals a (if b then move_to (Shut time close) a else a)
  unfolding deeds_move
  seals_close time close a true = seals_still (Shut time close) a tt refl
  seals_close time close a false = seals_here a

  seals_input : (m : Meaning t) (i : Input) (choice : Choice) (a : At t) → is_datagram i ≡ false → IsAllowed m i choice a → Seals a (input_after m i choice a)
  unfolding IsAllowed input_after close_after deeds_move
  seals_input m (input.Datagram time remote ecn bytes) choice a none may = cc
  seals_input m (input.Timeout time) choice a none may = holds_timeout Seals seals_here seals_next seals_timed m time a
  seals_input m (input.Transmit time max) choice a none may = holds_transmit Seals seals_here seals_next seals_sending (λ at_time form fs b h. seals_packet at_time form fs b) m time max choice a may
  seals_input m (input.Close time code reason) choice a none may = seals_close time _ a (is_open a.state.life.state)
  seals_input m (input.Ping time) choice a none may = seals_still (Ask a.state.keys.highest) a tt refl
  seals_input m (input.Update time) choice a none may =
      holds_updated m Seals seals_here (λ b may_be. seals_still (Update (fresh_now m b.state) (m.after_next b.state.lower.session)) b tt refl) a
  seals_input m (input.SendDatagram time body) choice a none may = seals_still (Post (datagrams.Sent (datagram_limit a.state) true body)) a tt refl
  seals_input m (input.RecvDatagram time) choice a none may = seals_still (Post datagrams.Taken) a tt refl
  seals_input m (input.Identifiers time given) choice a none may = seals_still (Issue time given) a tt refl
  seals_input m i choice a none may = called_input Seals seals_here seals_next (λ x b h. seals_still (Call x) b tt refl) i choice.read a may

  -- ---- steps

  -- what a step leaves of the marks is what its call leaves
  called_marks : (m : Meaning t) (k : ℕ) (s : View t) (i : Input) (x : Step) (s' : View t) → (h : IsStep m k s i x s') → marks_of s' ≡ marks_of (called m s i h.choice).state
  unfolding step_after reported state_move waiting_move
  called_marks m k s i x s' h = ap (λ (w : Waiting). data_marks w.spaces) h.waiting

  began_marks : (s : View t) (time : ℕ) → marks_of (began s time).state ≡ marks_of s
  unfolding began state_move waiting_move
  began_marks s time = refl

  seals_step : (m : Meaning t) (k : ℕ) (s : View t) (i : Input) (x : Step) (s' : View t) → is_datagram i ≡ false → (h : IsStep m k s i x s') → Seals (began s (time_of i)) (at s' x.did)
  unfolding called began state_move waiting_move
  seals_step m k s i x s' none h =
      let sealed = seals_input m i h.choice (began s (time_of i)) none h.allowed in
      let left : marks_of s' ≡ marks_of (called m s i h.choice).state = called_marks m k s i x s' h in
      record {
        since = sealed.since;
        appended = h.deeds ∙ sealed.appended;
        asked = ap (λ (y : AckMarks). nat_lt 0 y.eliciting) left ∙ sealed.asked;
        owed = λ o. stays left (sealed.owed o);
      }
    where
      stays : {P : Type 0} {y z : AckMarks} → y ≡ z → (z.owed ≡ true) ⊎ P → (y.owed ≡ true) ⊎ P
      stays same (inl o) = inl (ap (λ (y : AckMarks). y.owed) same ∙ o)
      stays same (inr p) = inr p

  -- the deeds of such a step are those that are told
  sealed_step : (m : Meaning t) (k : ℕ) (s : View t) (i : Input) (x : Step) (s' : View t) → is_datagram i ≡ false → IsStep m k s i x s' →
      (is_asked s' ≡ (is_asked s && not (list_any acks_data x.did))) × ((marks_of s).owed ≡ true → ((marks_of s').owed ≡ true) ⊎ (list_any acks_data x.did ≡ true))
  unfolding began state_move waiting_move
  sealed_step m k s i x s' none h =
      let sealed = seals_step m k s i x s' none h in
      let deeds : x.did ≡ sealed.since = sealed.appended in
      subst (λ (ds : List Did). (is_asked s' ≡ (is_asked s && not (list_any acks_data ds))) × ((marks_of s).owed ≡ true → ((marks_of s').owed ≡ true) ⊎ (list_any acks_data ds ≡ true)))
      (sym deeds) (sealed.asked, sealed.owed)

  -- and a step over a datagram leaves what that does
  asks_over : (m : Meaning t) (k : ℕ) (s : View t) (coming : Coming) (bytes : List ℕ) (x : Step) (s' : View t) → IsStep m k s (input.Datagram coming.time coming.remote coming.mark bytes) x s' →
      (told : TellsDatagram m coming bytes (began s coming.time) (at s' x.did)) × Asks (one_asks m coming told.items told.start) (began s coming.time) (at s' x.did)
  unfolding called input_after
  asks_over m k s coming bytes x s' h =
      let both = asks_datagram m coming bytes (began s coming.time) in
      let left : marks_of s' ≡ marks_of (datagram_after m coming bytes (began s coming.time)).state = called_marks m k s (input.Datagram coming.time coming.remote coming.mark bytes) x s' h in (
        record { items = both.0.items; cut = both.0.cut; start = both.0.start; begins = both.0.begins; told = both.0.told; ends = h.deeds ∙ both.0.ends },
        then_still (one_asks m coming both.0.items both.0.start) (began s coming.time) (datagram_after m coming bytes (began s coming.time)) (at s' x.did) both.1 left,
      )

  pub asks_step : (m : Meaning t) (k : ℕ) (s : View t) (i : Input) (x : Step) (s' : View t) → IsStep m k s i x s' → AsksStep m s i x s'
  unfolding began state_move waiting_move
  asks_step m k s (input.Datagram time remote ecn bytes) x s' h =
      let over = asks_over m k s (record { time = time; remote = remote; mark = ecn }) bytes x s' h in (over.0, over.1.asked)
  asks_step m k s i x s' h = (sealed_step m k s i x s' refl h).0

  pub owes_step : (m : Meaning t) (k : ℕ) (s : View t) (i : Input) (x : Step) (s' : View t) → IsStep m k s i x s' → (marks_of s).owed ≡ true → ((marks_of s').owed ≡ true) ⊎ (list_any acks_data x.did ≡ true)
  unfolding began state_move waiting_move
  owes_step m k s (input.Datagram time remote ecn bytes) x s' h o =
      let over = asks_over m k s (record { time = time; remote = remote; mark = ecn }) bytes x s' h in inl (over.1.owed o)
  owes_step m k s i x s' h o = (sealed_step m k s i x s' refl h).1 o

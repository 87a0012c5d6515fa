-- Over the packets that come and the inputs of a connection: the peer's ids are known, what is told of this end's ids was issued, and the
-- numbers that are told retired lie below that of the id in use. Until the peer chose its id only Initial packets open, which give no ids.
use Rattle.std.proofs.Common.{◌≡◌, ℕ, zero, suc, ◌-◌, ◌≤◌, List, length, refl, sym, ap, ◌∙◌, subst, Bool, true, false, Option, Some, None, if◌then◌else◌}
use Rattle.std.specs.Prelude.{◌==◌, ◌&&◌, is_none, Result, Ok, Err}
use Rattle.std.specs.List.{list_any}
use Rattle.std.specs.Option.{option_map}
use Rattle.qc_base.specs.declared.ids.IssuedCid.{IssuedCid}
use Rattle.qc_base.specs.declared.side.LongType.TheVariants as long
use Rattle.qc_base.specs.declared.side.Side.{Side}
use Rattle.qc_base.specs.declared.side.Side.TheVariants.{Client, Server}
use Rattle.qc_base.specs.declared.side.SpaceId.{SpaceId}
use Rattle.qc_base.specs.declared.side.SpaceId.TheVariants.{Initial, Handshake, «Data»}
use Rattle.qc_base.specs.declared.transport_error.TransportError.{TransportError}
use Rattle.qc_crypto.specs.Mates.{Opening as OpeningFunction}
use Rattle.qc_frame.specs.Frame.{FrameValue}
use Rattle.qc_frame.specs.Payload.{items_of}
use Rattle.qc_frame.specs.declared.frames.NewConnectionId.{NewConnectionId}
use Rattle.qc_header.specs.declared.protected.ProtectedHeader.{ProtectedHeader}
use Rattle.qc_header.specs.declared.protected.ProtectedHeader.TheVariants as protected
use Rattle.qc_header.specs.Piece.{Piece, space_of}
use Rattle.qc_ids.specs.CidQueue.{active_seq_of}
use Rattle.qc_params.specs.declared.params.TransportParameters.{TransportParameters}
use Rattle.qc_rings.specs.Keyed.{Keyed}
use Rattle.qc_rings.specs.declared.which.Which.{Which}
use Rattle.qc_state.specs.declared.coming.Coming.{Coming}
use Rattle.qc_state.specs.declared.deeds.Did.TheVariants as did
use Rattle.qc_state.specs.declared.deeds.Verdict.{Verdict}
use Rattle.qc_state.specs.declared.deeds.Verdict.TheVariants as verdict
use Rattle.qc_state.specs.declared.form.Form.{Form}
use Rattle.qc_state.specs.declared.form.Form.TheVariants as form
use Rattle.qc_state.specs.declared.input.Input.{Input}
use Rattle.qc_state.specs.declared.input.Input.TheVariants as input
use Rattle.qc_state.specs.declared.keys.OneRttKeys.{OneRttKeys}
use Rattle.qc_state.specs.declared.keys.SpaceKeys.{SpaceKeys}
use Rattle.qc_state.specs.declared.life.Close.{Close}
use Rattle.qc_state.specs.declared.opening.Opening.TheVariants.{Unreadable, Opened}
use Rattle.qc_state.specs.Keys.{unmasking_key}
use Rattle.qc_state.specs.Forms.{number_space}
use Rattle.qc_state.specs.Ids.{active_limit, insert_stop}
use Rattle.qc_state.specs.Life.{is_handshake, is_open, life_established}
use Rattle.qc_state.specs.Moves.{Accept, Ask, Call, Clock, Confirm, Enter, Establish, Finish, Fire, Fix, Forget, Insert, Issue, Learn, MayMove, Move, Owe, PeerClosesToo, Post, Seal, Shut, Spend, Switch, Take, Tell, Token, Want, Write, armed_after, keys_move, life_move, lower_move, move_to, paths_move, setup_move, state_move, Unseal, Update, Renew}
use Rattle.qc_state.specs.Numbers.{next_number}
use Rattle.qc_state.specs.Opening.{opened_at, opened_form, opened_in, opening_of}
use Rattle.qc_state.specs.Paths.{is_blocked, peer_fixed}
use Rattle.qc_state.specs.Receiving.{accepted_after, admitted_after, datagram_after, fixed_after, fixes_peer, is_close_item, is_eliciting_item, payload_after, read_for_close, received_after, signs_of, verdict_after}
use Rattle.qc_state.specs.Progress.{ended_after, ids_fit, is_end, is_server_start, is_written, learned_after, learned_with, over_after, parameters_and, progress_after, token_after, write_after, writes_after, written_after}
use Rattle.qc_state.specs.Recovering.{fired_by}
use Rattle.qc_state.specs.Run.{IsAllowed, close_after, datagram_limit, input_after}
use Rattle.qc_state.specs.Sending.{Choice, packet_size, spent_after, told_sent}
use Rattle.qc_state.specs.Setup.{parameters_known}
use Rattle.qc_state.specs.Stopping.{missing_parameters, parameter_error, stopped_after}
use Rattle.qc_state.specs.Updating.{fresh_by, session_by, unsealed_after, fresh_now}
use Rattle.qc_state.specs.Types.{Types, Meaning}
use Rattle.qc_state.specs.Verdicts.{verdict_of}
use Rattle.qc_state.specs.View.{View, At}
use Rattle.qc_state.proofs.Tried.{holds_tried}
use Rattle.qc_state.proofs.Updates.{holds_updated}
use Rattle.qc_state.proofs.Ends.{holds_armed_now, holds_initial, holds_stopped}
use Rattle.qc_state.proofs.Expired.{IsExpiry, holds_expired}
use Rattle.qc_state.proofs.OpenPackets.{holds_packet, packet_received}
use Rattle.qc_state.proofs.PacketMoves.{OpenPacket}
use Rattle.qc_state.proofs.ReceivedMoves.{IsEnding, IsOutside}
use Rattle.qc_state.proofs.Transmitted.{IsSealable, IsSending, transmit_told, untold_sending}
use Rattle.qc_datagrams.specs.Steps as datagrams
use Rattle.qc_laws.proofs.CidMoves.{AllGiven, Calm, Early, GivesIssued, HoldsAt, IsOther, IsPlain, IsToldSo, Later, Leads, Once, Told, calm_fix, calm_here, calm_move, calm_next, calm_once, calm_seal, fix_leads, later_here, later_learn, later_move, later_next, leads_here, leads_next, may_tell, packet_leads, plain_leads, plain_other, told_here, told_move, told_next, calm_renew, renew_leads}
use Rattle.qc_laws.proofs.CidQueues.{AllIssued}
use Rattle.qc_laws.proofs.CidWalk.{IsEasy, ending_easy, ending_known, payload_walked}
use Rattle.qc_laws.proofs.KnownMoves.{IsKnownAbout, expiry_known, known_about, outside_known, sending_known}
use Rattle.qc_laws.proofs.Receives.{IsOpened, datagram_holds}
use Rattle.qc_laws.proofs.StreamCalls.{called_input}

-- ---- moves that leave the peer's ids and give no keys

-- but for a Retry that is taken
abbrev IsUnretried : {t : Types} → Move t → Type 0
IsUnretried (Renew time cid token keys) = ⊥
IsUnretried _ = Unit {0}

outside_plain : {t : Types} (time : ℕ) (x : Move t) (s : View t) → IsOutside time x s → IsUnretried x → IsPlain x
outside_plain at_time (Clock time) s h u = absurd h
outside_plain at_time (Take id fs) s h u = absurd h
outside_plain at_time (Seal time form n size fs) s h u = absurd h
outside_plain at_time (Fix cid) s h u = absurd h
outside_plain at_time (Renew time cid token keys) s h u = absurd u
outside_plain at_time (Insert new) s h u = absurd h
outside_plain at_time Switch s h u = absurd h
outside_plain at_time (Learn p) s h u = absurd h
outside_plain at_time (Write bytes keys session) s h u = absurd h
outside_plain at_time _ s h u = tt

ending_plain : {t : Types} (x : Move t) → IsEnding x → IsPlain x
ending_plain (Clock time) h = absurd h
ending_plain (Take id fs) h = absurd h
ending_plain (Seal time form n size fs) h = absurd h
ending_plain (Fix cid) h = absurd h
ending_plain (Renew time cid token keys) h = absurd h
ending_plain (Insert new) h = absurd h
ending_plain Switch h = absurd h
ending_plain (Learn p) h = absurd h
ending_plain (Write bytes keys session) h = absurd h
ending_plain _ h = tt

expiry_plain : {t : Types} (x : Move t) → IsExpiry x → IsPlain x
expiry_plain (Clock time) h = absurd h
expiry_plain (Take id fs) h = absurd h
expiry_plain (Seal time form n size fs) h = absurd h
expiry_plain (Fix cid) h = absurd h
expiry_plain (Renew time cid token keys) h = absurd h
expiry_plain (Insert new) h = absurd h
expiry_plain Switch h = absurd h
expiry_plain (Learn p) h = absurd h
expiry_plain (Write bytes keys session) h = absurd h
expiry_plain _ h = tt

sending_plain : {t : Types} (x : Move t) → IsSending x → IsPlain x
sending_plain (Clock time) h = absurd h
sending_plain (Take id fs) h = absurd h
sending_plain (Seal time form n size fs) h = absurd h
sending_plain (Fix cid) h = absurd h
sending_plain (Renew time cid token keys) h = absurd h
sending_plain (Insert new) h = absurd h
sending_plain Switch h = absurd h
sending_plain (Learn p) h = absurd h
sending_plain (Write bytes keys session) h = absurd h
sending_plain _ h = tt

-- a packet that doesn't open isn't opened under keys that aren't there
none_opens : {H P : Type 0} (mask : H → List ℕ → List ℕ) (opening : P → OpeningFunction) (key : Option H) (plain : Option P) (ring : Option (Keyed P)) (rx : ℕ) (p : Piece) → key ≡ None → opened_in mask opening key plain ring rx p ≡ Unreadable
none_opens mask opening None plain ring rx p h = refl
none_opens mask opening (Some key) plain ring rx p h = absurd cc

-- a server reads the client's parameters as it leaves the Initial space
started : (side : Side) (before after : SpaceId) → is_server_start side before after ≡ true → (side ≡ Server) × (before ≡ Initial) × (after ≡ Initial → ⊥)
started Server Initial Handshake h = (refl, refl, λ e. cc)
started Server Initial Data h = (refl, refl, λ e. cc)
started Server Initial Initial h = absurd cc
started Server Handshake after h = absurd cc
started Server Data after h = absurd cc
started Client before after h = absurd cc

-- no end is both
other_side : (side : Side) → side ≡ Client → side ≡ Server → ⊥
other_side Client h k = cc
other_side Server h k = cc

-- where a packet fixes the peer's id, it wasn't known
none_chosen : (chosen : Option (List ℕ)) → is_none chosen ≡ true → chosen ≡ None
none_chosen None h = refl
none_chosen (Some cid) h = absurd cc

unknown_peer : {t : Types} (id : SpaceId) (s : View t) → fixes_peer id s ≡ true → s.paths.peer_cid ≡ None
unknown_peer Initial s h = none_chosen s.paths.peer_cid h
unknown_peer Handshake s h = absurd cc
unknown_peer Data s h = absurd cc

module _ {t : Types} (m : Meaning t) (first : List ℕ) (given : List (List ℕ)) (I : IssuedCid → Type 0) where
  abbrev LeadsOn : At t → At t → Type 0
  LeadsOn a b = Leads m first given I a b

  here : (a : At t) → LeadsOn a a
  here a = leads_here m first given I a

  next : (a b c : At t) → LeadsOn a b → LeadsOn b c → LeadsOn a c
  next a b c g h = leads_next m first given I a b c g h

  -- ids that are given by no input are given by no move
  outside_issued : (time : ℕ) (x : Move t) (s : View t) → IsOutside time x s → GivesIssued m first given I x
  outside_issued time (Issue at ids) s h = absurd h
  outside_issued time _ s h = tt

  ending_issued : (x : Move t) → IsEnding x → GivesIssued m first given I x
  ending_issued (Issue at ids) h = absurd h
  ending_issued _ h = tt

  expiry_issued : (x : Move t) → IsExpiry x → GivesIssued m first given I x
  expiry_issued (Issue at ids) h = absurd h
  expiry_issued _ h = tt

  sending_issued : (x : Move t) → IsSending x → GivesIssued m first given I x
  sending_issued (Issue at ids) h = absurd h
  sending_issued _ h = tt

  ending : (x : Move t) → IsEnding x → (a : At t) → MayMove x a.state → LeadsOn a (move_to x a)
  ending x h a may = plain_leads m first given I x a (ending_plain x h) (ending_known m x a.state h) (may_tell x a.state may) (ending_issued x h)

  -- ---- a payload, in which the peer's id is known

  -- what holds on then; and the peer's parameters are read once
  abbrev OnceLater : At t → At t → Type 0
  OnceLater a b = Once a.state → Later m first given I a b × Once b.state

  once_here : (a : At t) → OnceLater a a
  once_here a = λ once. (later_here m first given I a, once)

  once_next : (a b c : At t) → OnceLater a b → OnceLater b c → OnceLater a c
  once_next a b c g h = λ once. let one = g once in let two = h one.1 in (later_next m first given I a b c one.0 two.0, two.1)

  once_move : (x : Move t) (a : At t) → IsKnownAbout m x a.state → IsOther x → IsToldSo x → GivesIssued m first given I x → OnceLater a (move_to x a)
  unfolding move_to
  once_move x a k other told issued = λ once. (later_move m first given I x a k other told issued, calm_once a.state (state_move x a.state) (calm_move m x a.state k other) once)

  easy_other : (x : Move t) → IsEasy x → IsOther x
  easy_other (Fix cid) h = absurd h
  easy_other (Learn p) h = absurd h
  easy_other (Renew time cid token keys) h = absurd h
  easy_other _ h = tt

  easy_told : (x : Move t) → IsEasy x → IsToldSo x
  easy_told (Tell d) h = h
  easy_told _ h = tt

  easy_issued : (x : Move t) → IsEasy x → GivesIssued m first given I x
  easy_issued (Issue time ids) h = absurd h
  easy_issued _ h = tt

  once_easy : (x : Move t) (a : At t) → IsKnownAbout m x a.state → IsEasy x → OnceLater a (move_to x a)
  once_easy x a k easy = once_move x a k (easy_other x easy) (easy_told x easy) (easy_issued x easy)

  once_ending : (x : Move t) → IsEnding x → (a : At t) → MayMove x a.state → OnceLater a (move_to x a)
  once_ending x h a may = once_easy x a (ending_known m x a.state h) (ending_easy x h)

  once_took : (new : NewConnectionId) (a : At t) → insert_stop new a.state.lower.ids ≡ None → OnceLater a (move_to (Insert new) a)
  once_took new a is = once_move (Insert new) a tt tt tt tt

  once_refused : (time : ℕ) (new : NewConnectionId) (error : TransportError) (a : At t) → insert_stop new a.state.lower.ids ≡ Some error → OnceLater a (stopped_after time error (move_to (Insert new) a))
  once_refused time new error a is = let b : At t = move_to (Insert new) a in once_next a b _ (once_move (Insert new) a tt tt tt tt) (holds_stopped OnceLater once_here once_next once_ending time error b)

  -- ---- how the handshake goes on

  -- what holds on, where no handshake begins, and no space is left for the Initial one
  record Along (a b : At t) : Type 0 where
    later : Later m first given I a b
    calm : Calm a.state b.state

  along_next : (a b c : At t) → Along a b → Along b c → Along a c
  along_next a b c g h = record { later = later_next m first given I a b c g.later h.later; calm = calm_next a.state b.state c.state g.calm h.calm }

  along_here : (a : At t) → Along a a
  along_here a = record { later = later_here m first given I a; calm = calm_here a.state }

  along_move : (x : Move t) (a : At t) → IsKnownAbout m x a.state → IsOther x → IsToldSo x → GivesIssued m first given I x → Along a (move_to x a)
  unfolding move_to
  along_move x a k other told issued = record { later = later_move m first given I x a k other told issued; calm = calm_move m x a.state k other }

  along_once : (a b : At t) → Along a b → Once a.state → Later m first given I a b × Once b.state
  along_once a b h once = (h.later, calm_once a.state b.state h.calm once)

  -- the session writes
  along_write : (a : At t) → Along a (write_after m a)
  unfolding write_after
  along_write a = along_move (Write _ _ _) a tt tt tt tt

  writes_or : (a b : At t) (done : Bool) → Along a b → Along a (if done then a else b)
  writes_or a b true h = along_here a
  writes_or a b false h = h

  along_writes : (n : ℕ) (a : At t) → Along a (writes_after n m a)
  along_writes zero a = along_here a
  along_writes (suc n) a =
      let b : At t = write_after m a in
      writes_or a (writes_after n m b) (is_written m a.state.lower.session) (along_next a b _ (along_write a) (along_writes n b))

  along_written : (a : At t) → Along a (written_after m a)
  unfolding written_after
  along_written a = along_writes (m.left a.state.lower.session) a

  -- a server's token is told
  along_token : (side : Side) (o : Option (List ℕ)) (a : At t) → Along a (token_after side o a)
  along_token Client (Some token) a = along_move (Token token) a tt tt tt tt
  along_token Client None a = along_here a
  along_token Server o a = along_here a

  token_session : (side : Side) (o : Option (List ℕ)) (a : At t) → (token_after side o a).state.lower.session ≡ a.state.lower.session
  unfolding move_to state_move lower_move
  token_session Client (Some token) a = refl
  token_session Client None a = refl
  token_session Server o a = refl

  -- the parameters are read: no handshake begins with it, no space is left for the Initial one, and the side stays
  record Learns (a b : At t) : Type 0 where
    later : Later m first given I a b
    side : b.state.setup.fixed.side ≡ a.state.setup.fixed.side
    highest : b.state.keys.highest ≡ Initial → a.state.keys.highest ≡ Initial

  wanted_along : (time count : ℕ) (a : At t) (b : Bool) → Along a (if b then a else move_to (Want time count) a)
  wanted_along time count a true = along_here a
  wanted_along time count a false = along_move (Want time count) a tt tt tt tt

  learned : (time : ℕ) (p : TransportParameters) (a : At t) → m.parameters a.state.lower.session ≡ Ok (Some p) → a.state.setup.peer ≡ None → Learns a (learned_with time p a)
  unfolding learned_with move_to state_move setup_move parameters_known keys_move
  learned time p a known none =
      let b : At t = move_to (Learn p) a in
      let more = wanted_along time (active_limit (Some p) - a.state.lower.ids.local.issued) b (length a.state.setup.fixed.local_cid == 0) in
      record { later = later_next m first given I a b _ (later_learn m first given I p a known none) more.later; side = more.calm.side; highest = λ e. more.calm.highest e }

  -- what an end makes of the parameters, or of what stops it, holds; and they are read once
  abbrev Made : At t → At t → Type 0
  Made a b = Later m first given I a b × Once b.state

  stops : (time : ℕ) (error : TransportError) (a b : At t) → Along a b → Once a.state → Made a (stopped_after time error b)
  stops time error a b h once =
      let one = along_once a b h once in
      let two = holds_stopped OnceLater once_here once_next once_ending time error b one.1 in
      (later_next m first given I a b _ one.0 two.0, two.1)

  reads_or : (time : ℕ) (p : TransportParameters) (others : At t → At t) (a : At t) (fits : Bool) → m.parameters a.state.lower.session ≡ Ok (Some p) → Once a.state → a.state.setup.peer ≡ None → ((b : At t) → Learns a b → Made b (others b)) →
      let b : At t = token_after a.state.setup.fixed.side p.stateless_reset_token a in
      Made a (if fits then others (learned_with time p b) else stopped_after time parameter_error b)
  reads_or time p others a true known once none follows =
      let b : At t = token_after a.state.setup.fixed.side p.stateless_reset_token a in
      let c : At t = learned_with time p b in
      let token : Along a b = along_token a.state.setup.fixed.side p.stateless_reset_token a in
      let same : m.parameters b.state.lower.session ≡ Ok (Some p) = ap m.parameters (token_session a.state.setup.fixed.side p.stateless_reset_token a) ∙ known in
      let learns : Learns b c = learned time p b same (token.calm.known ∙ none) in
      let later : Later m first given I a c = later_next m first given I a b c token.later learns.later in
      let behind : Made c (others c) = follows c (record { later = later; side = learns.side ∙ token.calm.side; highest = λ e. token.calm.highest (learns.highest e) }) in
      (later_next m first given I a c _ later behind.0, behind.1)
  reads_or time p others a false known once none follows =
      let b : At t = token_after a.state.setup.fixed.side p.stateless_reset_token a in
      stops time parameter_error a b (along_token a.state.setup.fixed.side p.stateless_reset_token a) once

  reads : (time : ℕ) (others : At t → At t) (a : At t) (r : Result (Option TransportParameters) TransportError) → m.parameters a.state.lower.session ≡ r → Once a.state → a.state.setup.peer ≡ None → ((b : At t) → Learns a b → Made b (others b)) →
      Made a (parameters_and time r others a)
  reads time others a (Err error) known once none follows = stops time error a a (along_here a) once
  reads time others a (Ok None) known once none follows = stops time missing_parameters a a (along_here a) once
  reads time others a (Ok (Some p)) known once none follows = reads_or time p others a (ids_fit a.state p) known once none follows

  -- a server reads them as it leaves the Initial space
  start_by : (time : ℕ) (before : SpaceId) (a : At t) (b : Bool) → is_server_start a.state.setup.fixed.side before a.state.keys.highest ≡ b → (a.state.setup.fixed.side ≡ Server → before ≡ Initial → a.state.setup.peer ≡ None) → Once a.state →
      Made a (if b then parameters_and time (m.parameters a.state.lower.session) (λ c. c) a else a)
  start_by time before a false is none once = (later_here m first given I a, once)
  start_by time before a true is none once =
      let start = started a.state.setup.fixed.side before a.state.keys.highest is in
      reads time (λ c. c) a (m.parameters a.state.lower.session) refl once (none start.0 start.1)
      (λ c learns. (
        later_here m first given I c,
        record {
          client = λ side e. absurd (other_side c.state.setup.fixed.side side (learns.side ∙ start.0));
          server = λ side e. absurd (start.2 (learns.highest e));
        },
      ))

  -- the handshake is over: a client reads them then
  over_client : (time : ℕ) (a : At t) → a.state.setup.fixed.side ≡ Client → is_handshake a.state.life.state ≡ true → Once a.state → Made a (over_after m time Client a)
  unfolding move_to state_move life_move life_established setup_move
  over_client time a is shaking once =
      reads time (move_to Establish) a (m.parameters a.state.lower.session) refl once (once.client is shaking)
      (λ b learns. (
        later_move m first given I Establish b tt tt tt tt,
        record {
          client = λ side e. absurd (let no : false ≡ true = e in cc);
          server = λ side e. absurd (other_side b.state.setup.fixed.side (learns.side ∙ is) side);
        },
      ))

  over_by : (time : ℕ) (side : Side) (a : At t) → a.state.setup.fixed.side ≡ side → is_handshake a.state.life.state ≡ true → Once a.state → Made a (over_after m time side a)
  over_by time Client a is shaking once = over_client time a is shaking once
  over_by time Server a is shaking once =
      let b : At t = move_to Confirm a in
      let c : At t = move_to (Forget Handshake) b in
      let d : At t = armed_after time c in
      once_next a b _ (once_move Confirm a tt tt tt tt) (once_next b c _ (once_move (Forget Handshake) b tt tt tt tt)
      (once_next c d _ (holds_armed_now OnceLater once_here once_next once_ending time c) (once_move Establish d tt tt tt tt))) once

  end_by : (time : ℕ) (id : SpaceId) (a : At t) (shaking over : Bool) → is_handshake a.state.life.state ≡ shaking → Once a.state → Made a (if shaking && over then over_after m time a.state.setup.fixed.side a else a)
  end_by time id a true true is once = over_by time a.state.setup.fixed.side a refl is once
  end_by time id a true false is once = (later_here m first given I a, once)
  end_by time id a false over is once = (later_here m first given I a, once)

  progress_once : (coming : Coming) (id : SpaceId) (a : At t) → OnceLater a (progress_after m coming.time id a)
  unfolding progress_after learned_after ended_after
  progress_once coming id a = λ once.
      let b : At t = written_after m a in
      let c : At t = learned_after m coming.time a.state.keys.highest b in
      let wrote : Along a b = along_written a in
      let one : Made a b = along_once a b wrote once in
      let two : Made b c = start_by coming.time a.state.keys.highest b (is_server_start b.state.setup.fixed.side a.state.keys.highest b.state.keys.highest) refl
      (λ side initial. wrote.calm.known ∙ once.server (sym wrote.calm.side ∙ side) initial) one.1 in
      let three = end_by coming.time id c (is_handshake c.state.life.state) (is_end id (m.handshaking c.state.lower.session)) refl two.1 in
      (later_next m first given I a b _ one.0 (later_next m first given I b c _ two.0 three.0), three.1)

  payload_once : (coming : Coming) (id : SpaceId) (payload : List ℕ) (a : At t) → OnceLater a (payload_after m coming id payload a)
  payload_once coming id payload a = payload_walked m OnceLater once_here once_next (λ x b k easy. once_easy x b k easy) once_took once_refused progress_once coming id payload a

  -- ---- a packet that opened, by its verdict

  fixed_by : (id : SpaceId) (source : List ℕ) (a : At t) (b : Bool) → fixes_peer id a.state ≡ b → OnceLater a (if b then move_to (Fix source) a else a)
  unfolding move_to
  fixed_by id source a true is = λ once. (λ cid e. absurd (let none : a.state.paths.peer_cid ≡ None = unknown_peer id a.state is in cc), calm_once a.state (state_move (Fix source) a.state) (calm_fix source a.state) once)
  fixed_by id source a false is = once_here a

  fixed_once : (id : SpaceId) (source : List ℕ) (a : At t) → OnceLater a (fixed_after id source a)
  unfolding fixed_after
  fixed_once id source a = fixed_by id source a (fixes_peer id a.state) refl

  accepted_once : (coming : Coming) (id : SpaceId) (number : ℕ) (eliciting spin : Bool) (v : Verdict) (a : At t) → OnceLater a (accepted_after coming id number eliciting spin v a)
  unfolding accepted_after
  accepted_once coming id number eliciting spin v a =
      let b : At t = move_to (Accept coming.time id number eliciting (signs_of coming spin) v) a in
      once_next a b _ (once_move (Accept coming.time id number eliciting (signs_of coming spin) v) a tt tt tt tt) (holds_initial OnceLater once_here once_next once_ending Server (is_blocked b.state.paths) coming.time id b)

  closing_once : (a : At t) (b : Bool) → OnceLater a (if b then move_to PeerClosesToo a else move_to Owe a)
  closing_once a true = once_move PeerClosesToo a tt tt tt tt
  closing_once a false = once_move Owe a tt tt tt tt

  verdict_once : (coming : Coming) (id : SpaceId) (spin : Bool) (source : List ℕ) (number : ℕ) (payload : List ℕ) (v : Verdict) (a : At t) → OnceLater a (verdict_after m coming id spin source number payload v a)
  unfolding read_for_close admitted_after
  verdict_once coming id spin source number payload verdict.Seen a = once_move (Tell (did.Piece (Some id) (Some number) verdict.Seen)) a tt tt refl tt
  verdict_once coming id spin source number payload verdict.ReadForClose a =
      let b : At t = move_to (Enter id number verdict.ReadForClose) a in
      once_next a b _ (once_move (Enter id number verdict.ReadForClose) a tt tt tt tt) (closing_once b (list_any is_close_item (items_of payload)))
  verdict_once coming id spin source number payload verdict.NumberOnly a = once_move (Enter id number verdict.NumberOnly) a tt tt tt tt
  verdict_once coming id spin source number payload verdict.AckOnly a = accepted_once coming id number false spin verdict.AckOnly a
  verdict_once coming id spin source number payload verdict.Admitted a =
      let e : Bool = list_any is_eliciting_item (items_of payload) in
      let b : At t = accepted_after coming id number e spin verdict.Admitted a in
      let c : At t = fixed_after id source b in
      once_next a b _ (accepted_once coming id number e spin verdict.Admitted a) (once_next b c _ (fixed_once id source b) (payload_once coming id payload c))
  verdict_once coming id spin source number payload _ a = once_here a

  -- ---- before the peer chose its id

  opened_by : (h : ProtectedHeader) (p : Piece) (s : View t) (space : SpaceId) (source token : List ℕ) (spin : Bool) (which : Option Which) (number : ℕ) (payload : List ℕ) → Early m first given I s → space_of h ≡ Some space →
      opened_at m s (opened_form h) p ≡ Opened source token spin which number payload → space ≡ Initial
  unfolding unmasking_key
  opened_by (protected.Initial dst src token_start token_len version) p s space source token spin which number payload early spaced opened = cc
  opened_by (protected.Long long.Handshake dst src version) p s space source token spin which number payload early spaced opened =
      absurd (let none : opened_at m s (Some form.Handshake) p ≡ Unreadable = none_opens m.mask m.opening (unmasking_key s.keys form.Handshake) _ _ _ p (ap (λ (k : Option (SpaceKeys t.H t.P)). option_map (λ (k : SpaceKeys t.H t.P). k.keys.header.remote) k) early.handshake) in cc)
  opened_by (protected.Short spin_bit dst) p s space source token spin which number payload early spaced opened =
      absurd (let none : opened_at m s (Some form.OneRtt) p ≡ Unreadable = none_opens m.mask m.opening (unmasking_key s.keys form.OneRtt) _ _ _ p (ap (λ (k : Option (OneRttKeys t.H t.P)). option_map (λ (k : OneRttKeys t.H t.P). k.header.remote) k) early.one_rtt) in cc)
  opened_by _ p s space source token spin which number payload early spaced opened = absurd cc

  -- a payload of an Initial packet, with which the peer chooses its id, where it hasn't
  payload_leads : (coming : Coming) (source : List ℕ) (payload : List ℕ) (chosen : Option (List ℕ)) (a : At t) → a.state.paths.peer_cid ≡ chosen → Once a.state →
      LeadsOn a (payload_after m coming Initial payload (if is_none chosen then move_to (Fix source) a else a))
  unfolding move_to state_move paths_move peer_fixed
  payload_leads coming source payload (Some cid) a is once = (payload_once coming Initial payload a once).0 cid is
  payload_leads coming source payload None a is once =
      let b : At t = move_to (Fix source) a in
      next a b _ (fix_leads m first given I source a is) ((payload_once coming Initial payload b (calm_once a.state b.state (calm_fix source a.state) once)).0 source refl)

  accepted_leads : (coming : Coming) (number : ℕ) (eliciting spin : Bool) (v : Verdict) (a : At t) → LeadsOn a (accepted_after coming Initial number eliciting spin v a)
  unfolding accepted_after
  accepted_leads coming number eliciting spin v a =
      let b : At t = move_to (Accept coming.time Initial number eliciting (signs_of coming spin) v) a in
      next a b _ (plain_leads m first given I (Accept coming.time Initial number eliciting (signs_of coming spin) v) a tt tt tt tt)
      (holds_initial LeadsOn here next ending Server (is_blocked b.state.paths) coming.time Initial b)

  closing_leads : (a : At t) (b : Bool) → LeadsOn a (if b then move_to PeerClosesToo a else move_to Owe a)
  closing_leads a true = plain_leads m first given I PeerClosesToo a tt tt tt tt
  closing_leads a false = plain_leads m first given I Owe a tt tt tt tt

  initial_leads : (coming : Coming) (spin : Bool) (source : List ℕ) (number : ℕ) (payload : List ℕ) (v : Verdict) (a : At t) → Once a.state → LeadsOn a (verdict_after m coming Initial spin source number payload v a)
  unfolding read_for_close admitted_after fixed_after
  initial_leads coming spin source number payload verdict.Seen a once = plain_leads m first given I (Tell (did.Piece (Some Initial) (Some number) verdict.Seen)) a tt tt refl tt
  initial_leads coming spin source number payload verdict.ReadForClose a once =
      let b : At t = move_to (Enter Initial number verdict.ReadForClose) a in
      next a b _ (plain_leads m first given I (Enter Initial number verdict.ReadForClose) a tt tt tt tt) (closing_leads b (list_any is_close_item (items_of payload)))
  initial_leads coming spin source number payload verdict.NumberOnly a once = plain_leads m first given I (Enter Initial number verdict.NumberOnly) a tt tt tt tt
  initial_leads coming spin source number payload verdict.AckOnly a once = accepted_leads coming number false spin verdict.AckOnly a
  initial_leads coming spin source number payload verdict.Admitted a once =
      let e : Bool = list_any is_eliciting_item (items_of payload) in
      let b : At t = accepted_after coming Initial number e spin verdict.Admitted a in
      next a b _ (accepted_leads coming number e spin verdict.Admitted a) (payload_leads coming source payload b.state.paths.peer_cid b refl (accepted_once coming Initial number e spin verdict.Admitted a once).1)
  initial_leads coming spin source number payload _ a once = here a

  -- ---- a packet that opened

  -- its step of the ring
  unsealed_leads : (time : ℕ) (which : Option Which) (number : ℕ) (a : At t) → LeadsOn a (unsealed_after m time which number a)
  unsealed_leads time None number a = here a
  unsealed_leads time (Some which) number a = plain_leads m first given I (Unseal time number which (fresh_by m which a.state) (session_by m which a.state.lower.session)) a tt tt tt tt

  unsealed_once : (time : ℕ) (which : Option Which) (number : ℕ) (a : At t) → OnceLater a (unsealed_after m time which number a)
  unsealed_once time None number a = once_here a
  unsealed_once time (Some which) number a = once_move (Unseal time number which (fresh_by m which a.state) (session_by m which a.state.lower.session)) a tt tt tt tt

  -- and what follows it
  received_holds : (p : Piece) (o : OpenPacket) (a : At t) (chosen : Option (List ℕ)) → IsOpened m o.coming a.state p o → a.state.paths.peer_cid ≡ chosen → Once a.state → AllGiven m first given I (packet_received m o a).did → HoldsAt m first given I a →
      HoldsAt m first given I (packet_received m o a) × (active_seq_of a.state.lower.ids.remote ≤ active_seq_of (packet_received m o a).state.lower.ids.remote)
  unfolding received_after opening_of
  received_holds p o a (Some cid) opened is once gave h =
      let b : At t = unsealed_after m o.coming.time o.which o.number a in
      ((once_next a b _ (unsealed_once o.coming.time o.which o.number a) (verdict_once o.coming o.space o.spin o.source o.number o.payload (verdict_of b.state o.space o.source o.token o.number) b) once).0 cid is).holds gave h
  received_holds p o a None opened is once gave h =
      let b : At t = unsealed_after m o.coming.time o.which o.number a in
      let initial : o.space ≡ Initial = opened_by p.header p a.state o.space o.source o.token o.spin o.which o.number o.payload (h.view.early is) opened.form opened.opened in
      let leads : LeadsOn a (packet_received m o a) =
      next a b _ (unsealed_leads o.coming.time o.which o.number a)
      (subst (λ (id : SpaceId). LeadsOn b (verdict_after m o.coming id o.spin o.source o.number o.payload (verdict_of b.state o.space o.source o.token o.number) b)) (sym initial)
      (initial_leads o.coming o.spin o.source o.number o.payload (verdict_of b.state o.space o.source o.token o.number) b (unsealed_once o.coming.time o.which o.number a once).1)) in
      leads.holds gave h

  -- what holds on; and the peer's parameters are read once
  abbrev pub OnceLeads : At t → At t → Type 0
  OnceLeads a b = Once a.state → LeadsOn a b × Once b.state

  received_leads : (coming : Coming) (p : Piece) (o : OpenPacket) (a : At t) → IsOpened m coming a.state p o → OnceLeads a (packet_received m o a)
  unfolding received_after
  received_leads coming p o a opened = λ once. (
    record {
      told = holds_packet m o (Told m first given I) (told_here m first given I) (told_next m first given I) (λ x b e may. told_move m first given I x b may) a opened.lively;
      holds = λ gave h. received_holds p o a a.state.paths.peer_cid (record { came = refl; form = opened.form; opened = opened.opened; lively = opened.lively }) refl once gave h;
    },
    (once_next a _ _ (unsealed_once o.coming.time o.which o.number a) (verdict_once o.coming o.space o.spin o.source o.number o.payload _ _) once).1,
  )

  -- ---- inputs

  leads_here_once : (a : At t) → OnceLeads a a
  leads_here_once a = λ once. (here a, once)

  leads_next_once : (a b c : At t) → OnceLeads a b → OnceLeads b c → OnceLeads a c
  leads_next_once a b c g h = λ once. let one = g once in let two = h one.1 in (next a b c one.0 two.0, two.1)

  plain : (x : Move t) (a : At t) → IsPlain x → IsKnownAbout m x a.state → IsToldSo x → GivesIssued m first given I x → OnceLeads a (move_to x a)
  unfolding move_to
  plain x a is k told issued = λ once. (plain_leads m first given I x a is k told issued, calm_once a.state (state_move x a.state) (calm_move m x a.state k (plain_other m first given I x is)) once)

  retried : (time : ℕ) (cid token : List ℕ) (keys : SpaceKeys t.H t.P) (a : At t) → MayMove (Renew time cid token keys) a.state → OnceLeads a (move_to (Renew time cid token keys) a)
  unfolding move_to
  retried time cid token keys a may = λ once. (renew_leads m first given I time cid token keys a may, calm_once a.state (state_move (Renew time cid token keys) a.state) (calm_renew time cid token keys a.state) once)

  outside : (time : ℕ) (x : Move t) (a : At t) → IsOutside time x a.state → MayMove x a.state → OnceLeads a (move_to x a)
  outside time (Renew at cid token keys) a h may = retried at cid token keys a may
  outside time x a h may = plain x a (outside_plain time x a.state h tt) (known_about m x a.state (outside_known m time x a.state h)) (may_tell x a.state may) (outside_issued time x a.state h)

  seal : (time : ℕ) (form : Form) (fs : List FrameValue) (a : At t) → IsSealable time a.state form fs →
      OnceLeads a (move_to (Seal time form (next_number a.state.numbers (number_space form)) (packet_size a.state form fs) fs) (move_to (Take (number_space form) fs) a))
  seal time form fs a may = λ once. (packet_leads m first given I time form fs a may, calm_once a.state _ (calm_seal time form fs a) once)

  datagram_leads : (coming : Coming) (bytes : List ℕ) (a : At t) → OnceLeads a (datagram_after m coming bytes a)
  datagram_leads coming bytes a =
      datagram_holds m coming (λ p. Unit {0}) OnceLeads leads_here_once leads_next_once (outside coming.time) (λ p comes o b opened. received_leads coming p o b opened) bytes a (λ p among. tt)

  closed_by : (time : ℕ) (kept : Close) (a : At t) (b : Bool) → OnceLeads a (if b then move_to (Shut time kept) a else a)
  closed_by time kept a true = plain (Shut time kept) a tt tt tt tt
  closed_by time kept a false = leads_here_once a

  -- ids that an input gives were issued
  abbrev pub InputIssues : Input → Type 0
  InputIssues (input.Identifiers time ids) = AllIssued I ids
  InputIssues _ = Unit {0}

  pub input_leads : (i : Input) (choice : Choice) (a : At t) → InputIssues i → IsAllowed m i choice a → OnceLeads a (input_after m i choice a)
  unfolding IsAllowed input_after close_after spent_after told_sent
  input_leads (input.Datagram time remote ecn bytes) choice a issued h = datagram_leads (record { time = time; remote = remote; mark = ecn }) bytes a
  input_leads (input.Timeout time) choice a issued h =
      holds_expired m OnceLeads leads_here_once leads_next_once (λ at_time b. plain (Fire (fired_by m at_time b.state)) b tt (record { time = at_time; is = refl }) tt tt)
      (λ x e b may. plain x b (expiry_plain x e) (known_about m x b.state (expiry_known m x b.state e)) (may_tell x b.state may) (expiry_issued x e)) time a
  input_leads (input.Transmit time max) choice a issued h =
      transmit_told m OnceLeads leads_here_once leads_next_once
      (λ x r b may. plain x b (sending_plain x (untold_sending x r)) (known_about m x b.state (sending_known m x b.state r)) (may_tell x b.state may) (sending_issued x (untold_sending x r)))
      (λ f b. holds_tried m OnceLeads leads_here_once (λ c may. plain (Update _ _) c tt tt tt tt) f b)
      (λ at_time size b. plain (Spend _) b tt (record { time = at_time; size = size; is = refl }) tt tt)
      (λ at_time batch b. plain (Finish batch.total _) b tt (record { time = at_time; bytes = batch.total; last = batch.last; is = refl }) tt tt) seal time max choice a h
  input_leads (input.Close time code reason) choice a issued h = closed_by time _ a (is_open a.state.life.state)
  input_leads (input.Ping time) choice a issued h = plain (Ask a.state.keys.highest) a tt tt tt tt
  input_leads (input.Update time) choice a issued h = holds_updated m OnceLeads leads_here_once (λ b may. plain (Update (fresh_now m b.state) (m.after_next b.state.lower.session)) b tt tt tt tt) a
  input_leads (input.SendDatagram time body) choice a issued h = plain (Post (datagrams.Sent (datagram_limit a.state) true body)) a tt tt tt tt
  input_leads (input.RecvDatagram time) choice a issued h = plain (Post datagrams.Taken) a tt tt tt tt
  input_leads (input.Identifiers time ids) choice a issued h = plain (Issue time ids) a tt tt tt issued
  input_leads i choice a issued h = called_input OnceLeads leads_here_once leads_next_once (λ x b may. plain (Call x) b tt tt tt tt) i choice.read a h

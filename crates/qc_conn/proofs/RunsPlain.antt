-- The steps of a run leave nothing out of their text.
use Rattle.std.specs.Prelude.{is_none, option_to_list}
use Rattle.std.proofs.Common.{◌≡◌, ℕ, ◌+◌, ◌-◌, ◌<◌, ◌≤◌, ◌^◌, ◌==◌, ◌||◌, Bool, true, false, if◌then◌else◌, List, [], ◌∷◌, ◌++◌, length, replicate, take, zero, suc, Option, Some, None, Result, Ok, Err, refl, sym, ap, ◌∙◌, subst, arith}
use Rattle.std.specs.Prelude.{nat_lt, nat_le}
use Rattle.std.specs.List.{All, list_any}
use Rattle.std.specs.declared.net.socket_addr.SocketAddr.{SocketAddr}
use Rattle.std.proofs.lemmas.Bool.Decides.{nat_tests}
use Rattle.std.proofs.lemmas.List.Elements.{All-nil, All-cons, All-append}
use Rattle.rand_core.specs.Stream.{Stream}
use Rattle.qc_base.specs.Varint.{IsNumber}
use Rattle.qc_base.specs.declared.ids.IssuedCid.{IssuedCid}
use Rattle.qc_base.specs.declared.side.Side.{Side}
use Rattle.qc_base.specs.declared.side.SpaceId.{SpaceId}
use Rattle.qc_base.specs.declared.side.SpaceId.TheVariants.{Initial, Handshake, «Data»}
use Rattle.qc_frame.specs.Frame.{FrameValue, AckValue}
use Rattle.qc_frame.specs.FrameFits.{Fits, TypeFits}
use Rattle.qc_flight.specs.Packets.{Entry}
use Rattle.qc_frame.specs.FrameSpelling.{spelling, frames_spelling}
use Rattle.qc_frame.specs.Sizes.{IsLongestReason}
use Rattle.qc_frame.specs.declared.frames.FrameOf.TheVariants as frames
use Rattle.qc_frame.proofs.Lengths.{length-application_close}
use Rattle.qc_cids.specs.Cids.{asks_one, next_token, token_by}
use Rattle.qc_datagrams.specs.Datagrams.{send_refusal}
use Rattle.qc_datagrams.specs.Steps as datagrams
use Rattle.qc_datagrams.specs.declared.datagrams.SendRefusal.{SendRefusal}
use Rattle.qc_datagrams.specs.declared.datagrams.SendRefusal.TheVariants as send
use Rattle.qc_ids.specs.LocalCids.{may_retire}
use Rattle.qc_recv.specs.declared.recv.Chunk.{Chunk}
use Rattle.qc_recovery.specs.TransportValues.{TransportValues}
use Rattle.qc_recovery.specs.declared.calls.Fired.{Fired}
use Rattle.qc_recovery.specs.declared.calls.Fired.TheVariants as fired
use Rattle.qc_send_stream.specs.Buffer.{bytes_written, discarded, nothing, range_lost, range_sealed}
use Rattle.qc_send_stream.specs.declared.fault.FinishError.{FinishError}
use Rattle.qc_send_stream.specs.declared.fault.FinishError.TheVariants as finish
use Rattle.qc_send_stream.specs.declared.fault.WriteError.{WriteError}
use Rattle.qc_send_stream.specs.declared.fault.WriteError.TheVariants as write
use Rattle.qc_streams.specs.Calls.{bars_reset, closed_to, finish_refusal, known_at, receiving_at, write_refusal}
use Rattle.qc_streams.specs.Counts.{by_dir, has_accepted}
use Rattle.qc_streams.specs.Streams.{may_open, next_accepted, next_own}
use Rattle.qc_streams.specs.Waits as streams
use Rattle.qc_streams.specs.declared.fault.ReadFault.{ReadFault}
use Rattle.qc_streams.specs.declared.fault.ReadFault.TheVariants as fault
use Rattle.qc_state.specs.declared.coming.Coming.{Coming}
use Rattle.qc_state.specs.Acks.{AckPart, SaysAck, is_ack, may_acknowledge}
use Rattle.qc_state.specs.declared.deeds.Did.{Did}
use Rattle.qc_state.specs.declared.deeds.Did.TheVariants as deed
use Rattle.qc_state.specs.declared.deeds.Layer.TheVariants as layer
use Rattle.qc_state.specs.declared.input.Input.{Input}
use Rattle.qc_state.specs.declared.input.Input.TheVariants as input
use Rattle.qc_state.specs.declared.life.Close.{Close}
use Rattle.qc_state.specs.declared.life.Close.TheVariants.{Connection, Application}
use Rattle.qc_state.specs.declared.events.EndpointEvent.TheVariants as endpoint
use Rattle.qc_state.specs.declared.life.ConnectionError.{ConnectionError}
use Rattle.qc_state.specs.declared.life.Life.{Life}
use Rattle.qc_state.specs.declared.life.State.TheVariants.{Drained}
use Rattle.qc_state.specs.declared.deeds.Quiet.{Quiet}
use Rattle.qc_state.specs.declared.deeds.Quiet.TheVariants.{NothingOwed, Silent, Amplification, Congestion, Pacing, Killed}
use Rattle.qc_state.specs.declared.deeds.Verdict.{Verdict}
use Rattle.qc_state.specs.declared.deeds.Verdict.TheVariants as verdict
use Rattle.qc_state.specs.declared.events.EndpointEvent.{EndpointEvent}
use Rattle.qc_state.specs.declared.form.Form.{Form}
use Rattle.qc_state.specs.declared.form.Form.TheVariants as form
use Rattle.qc_state.specs.declared.keys.KeyGroup.{KeyGroup}
use Rattle.qc_state.specs.declared.paths.Path.{Path}
use Rattle.qc_state.specs.declared.paths.Paths.{Paths}
use Rattle.qc_state.specs.declared.trace.Step.{Step}
use Rattle.qc_state.specs.declared.transmit.Batch.{Batch}
use Rattle.qc_state.specs.declared.trace.Answer.TheVariants as answer
use Rattle.qc_state.specs.declared.waiting.SpaceWaiting.{SpaceWaiting}
use Rattle.qc_state.specs.declared.waiting.Waiting.{Waiting}
use Rattle.qc_state.specs.Life.{is_closed, is_open, data_ready, datagram_heard, drained_event, identifiers_wanted, life_closed, life_drained, life_established, life_raised, reason_given, retirement_told, token_learned, token_told, notices_reported, drained_reported, lost_reported, connected_reported, ready_reported}
use Rattle.qc_state.specs.Moves.{Probe, Move, Take, Seal, Forget, Raise, Say, Give, Enter, Fail, Accept, Fix, Hear, Ack, Fire, Arm, Pace, Release, Begin, Skip, Come, Read, Write, Ready, Learn, Establish, Tell, PeerClosesToo, PeerCloses, Owe, Shut, Hand, Insert, Switch, Retire, Issue, Outlive, Call, Post, IsTold, MayMove, told, state_move, move_to, deeds_move, life_move, paths_move, waiting_move, keys_move, Expect, Confirm, Token, Want, Spend, Hold, Finish, Ask, Discard, Unseal, Update, Renew}
use Rattle.qc_state.specs.Datagrams.{sent_answer, taken_answer, tells_datagram}
use Rattle.qc_state.specs.Forms.{is_early, number_space}
use Rattle.qc_state.specs.Ids.{active_limit}
use Rattle.qc_state.specs.Keys.{epoch_in}
use Rattle.qc_state.specs.Numbers.{next_number, received_number}
use Rattle.qc_state.specs.Paths.{path_quiet, path_kept, path_named, path_sent, path_received, peer_fixed, path_accepted, path_spun, new_path, only_path, path_capped}
use Rattle.qc_state.specs.Receiving.{datagram_after, is_taken}
use Rattle.qc_state.specs.Run.{time_of, began, close_after, called_all, datagram_limit, input_after, called, reported, step_after, IsAllowed, out_of, answer_of, IsStep, Run, Ran}
use Rattle.qc_state.specs.Sending.{told_code, told_type, told_application_code, told_close, close_frame, closing_frame, IsKeptReason, Closes, packet_size, Carries, transmit_after, MayTransmit, transmit_bytes, transmit_of, transmit_with, Choice, Ending, Went, Hushed, Probed, Died, sent_out, gone_after}
use Rattle.qc_state.specs.Spaces.{space_of, with_space, is_space}
use Rattle.qc_state.specs.Streams.{calls_of, closed_answer, count_written, finish_answer, is_given_to_streams, read_answer, write_answer}
use Rattle.qc_state.specs.Timeouts.{timeout_after}
use Rattle.qc_state.specs.declared.tokens.Issuer.{Issuer}
use Rattle.qc_state.specs.Types.{TokenMaker, Types, Meaning}
use Rattle.qc_state.specs.View.{Held, View, At, ideal}
use Rattle.qc_state.specs.Polls.{endpoint_events}
use Rattle.qc_state.specs.First.{first_view, server_view}
use Rattle.qc_state.specs.declared.setup.Fixed.{Fixed}
use Rattle.qc_state.specs.Allowed.{Waits, WaitAll}
use Rattle.qc_state.specs.Offers.{packet_begun}
use Rattle.qc_state.specs.Waiting.{again, all_again, lost_in, confirmed, all_confirmed, acked_in, packets_lost, packets_acked, probes_added, probe_spent, frames_again, fired_in, ping_asked, waiting_without, close_begun, packet_told, came_in, packet_came, ack_released, bundle_next, crypto_more, crypto_written, nothing_left, space_left, without, without_all, done_asked, hello_again, bytes_again}
use Rattle.qc_state.proofs.Probed.{begun_holds, taken_space}
use Rattle.qc_state.proofs.Updates.{holds_updated}
use Rattle.qc_state.proofs.Quieted.{probed_current}
use Rattle.qc_state.proofs.Expired.{IsTimed, holds_timeout}
use Rattle.qc_state.proofs.IdsTaken.{retired_fits}
use Rattle.qc_state.proofs.ReceivedMoves.{IsReceived}
use Rattle.qc_laws.proofs.Receives.{holds_datagram}
use Rattle.qc_text.specs.OneText.{IsSpelled, IsDeedPlain, IsPlainAddress, IsAnswerPlain, IsEndpointPlain, IsPlain, IsSpaceBelowLimit, IsBelowLimit, IsPlainStart, IsTellingRun}
use Rattle.qc_text.specs.TraceText.{trace_text}
use Rattle.qc_text.proofs.TraceBack.{trace_back}
use Rattle.qc_state.proofs.Transmitted.{IsSealable, IsSending, holds_transmit}

-- ---- frames that waited

ack_spelled : (time : ℕ) (w : SpaceWaiting) (ack : AckValue) → SaysAck time w ack → IsSpelled (frames.Ack ack)
ack_spelled time w ack says =
    (says.fits, ap (λ (more : List ℕ). frames.Ack (record { largest = ack.largest; delay = ack.delay; additional = more; ecn = ack.ecn })) (sym says.shortest))

module _ {t : Types} (maker : TokenMaker t) where
  frame_spelled : (time : ℕ) (s : View t) (id : SpaceId) (f : FrameValue) → Waits maker time s id f → IsSpaceBelowLimit (space_of s.waiting.spaces id) → IsSpelled f × IsSpaceBelowLimit (without (space_of s.waiting.spaces id) f)
  unfolding Waits without Fits range_sealed
  frame_spelled time s id frames.HandshakeDone h b = ((tt, refl), b)
  frame_spelled time s id frames.Ping h b = ((tt, refl), b)
  frame_spelled time s id (frames.Ack ack) h b = (ack_spelled time (space_of s.waiting.spaces id) ack h.1, b)
  frame_spelled time s id (frames.Crypto offset body) h b =
      let within : offset + length body ≤ (space_of s.waiting.spaces id).crypto.written = h.within in
      (((omega arith, omega arith), refl), b)
  frame_spelled time s id (frames.Stream stream offset fin body) h b = ((h.2, refl), b)
  frame_spelled time s id (frames.ResetStream stream code size) h b = ((h.2, refl), b)
  frame_spelled time s id (frames.StopSending stream code) h b = ((h.2, refl), b)
  frame_spelled time s id (frames.MaxData limit) h b = ((h.2, refl), b)
  frame_spelled time s id (frames.MaxStreamData stream limit) h b = ((h.2, refl), b)
  frame_spelled time s id (frames.MaxStreams dir limit) h b = ((h.2, refl), b)
  frame_spelled time s id (frames.Datagram body) h b = ((h.2, refl), b)
  frame_spelled time s id (frames.NewToken token) h b = ((h.3, refl), b)
  frame_spelled time s id (frames.NewConnectionId new) h b = ((h.2, refl), b)
  frame_spelled time s id (frames.RetireConnectionId sequence) h b = ((retired_fits s.lower.ids sequence h.1, refl), b)
  frame_spelled time s id _ h b = absurd h

  frames_spelled : (time : ℕ) (s : View t) (id : SpaceId) (fs : List FrameValue) → WaitAll maker time s id fs → IsSpaceBelowLimit (space_of s.waiting.spaces id) →
      All IsSpelled fs × IsSpaceBelowLimit (without_all (space_of s.waiting.spaces id) fs)
  unfolding WaitAll without_all
  frames_spelled time s id [] h b = (All-nil IsSpelled, b)
  frames_spelled time s id (f ∷ fs) h b =
      let v : View t = state_move (Take id (f ∷ [])) s in
      let same : space_of v.waiting.spaces id ≡ without (space_of s.waiting.spaces id) f = taken_space id f s in
      let first = frame_spelled time s id f h.0 b in
      let others = frames_spelled time v id fs h.1 (subst IsSpaceBelowLimit (sym same) first.1) in
      (All-cons IsSpelled f fs first.0 others.0, subst (λ (w : SpaceWaiting). IsSpaceBelowLimit (without_all w fs)) same others.1)

-- a close, PADDING behind it, and the ACK in front of it
padding_spelled : (n : ℕ) → All IsSpelled (replicate n frames.Padding)
unfolding Fits
padding_spelled zero = All-nil IsSpelled
padding_spelled (suc n) = All-cons IsSpelled frames.Padding (replicate n frames.Padding) (tt, refl) (padding_spelled n)

code_fits : (code : ℕ) → IsNumber (told_code code)
code_fits code = by_test (nat_lt code (2 ^ 62)) refl
  where
    by_test : (b : Bool) → nat_lt code (2 ^ 62) ≡ b → IsNumber (if b then code else 0x01)
    by_test true h = grind (arith, nat_tests)
    by_test false h = omega arith

type_fits : (type : Option ℕ) → TypeFits (told_type type)
type_fits None = tt
type_fits (Some type) = by_test ((type == 0) || nat_le (2 ^ 62) type) refl
  where
    by_test : (b : Bool) → ((type == 0) || nat_le (2 ^ 62) type) ≡ b → TypeFits (if b then None else Some type)
    by_test true h = tt
    by_test false h = (grind (arith, nat_tests), grind (arith, nat_tests))

application_code_fits : (code : ℕ) → IsNumber (told_application_code code)
application_code_fits code = by_test (nat_lt code (2 ^ 62)) refl
  where
    by_test : (b : Bool) → nat_lt code (2 ^ 62) ≡ b → IsNumber (if b then code else 0)
    by_test true h = grind (arith, nat_tests)
    by_test false h = omega arith

-- the reason that is kept has a length that fits its field, as its close has no more bytes than there was room
reason_fits : (code : ℕ) (reason kept : List ℕ) (room : ℕ) → room < 2 ^ 62 → IsLongestReason (frames.ApplicationClose code) reason room kept → IsNumber (length kept)
reason_fits code reason kept room few k = by_test (nat_le (length (spelling (frames.ApplicationClose code []))) room) refl
  where
    by_test : (b : Bool) → nat_le (length (spelling (frames.ApplicationClose code []))) room ≡ b → IsNumber (length kept)
    by_test true h =
        let without_reason : length (spelling (frames.ApplicationClose code [])) ≤ room = grind (arith, nat_tests) in
        let fits : length (spelling (frames.ApplicationClose code kept)) ≤ room = k.fits without_reason in
        omega (arith, length-application_close code kept)
    by_test false h =
        let no_room : room < length (spelling (frames.ApplicationClose code [])) = grind (arith, nat_tests) in
        let none : length kept ≡ 0 = ap (λ (bytes : List ℕ). length bytes) (k.nothing no_room) in
        omega arith

told_spelled : (id : SpaceId) (room : ℕ) (kept : List ℕ) (c : Option Close) → room < 2 ^ 62 → IsKeptReason room kept c → IsSpelled (told_close id kept c)
unfolding Fits
told_spelled id room kept None few k = ((omega arith, tt, omega arith), refl)
told_spelled id room kept (Some (Connection c)) few k = ((code_fits c.error_code, type_fits c.frame_type, omega arith), refl)
told_spelled Initial room kept (Some (Application c)) few k = ((omega arith, tt, omega arith), refl)
told_spelled Handshake room kept (Some (Application c)) few k = ((omega arith, tt, omega arith), refl)
told_spelled Data room kept (Some (Application c)) few k = ((application_code_fits c.error_code, reason_fits (told_application_code c.error_code) c.reason kept room few k), refl)

close_spelled : (b : Bool) (id : SpaceId) (room : ℕ) (kept : List ℕ) (c : Option Close) → room < 2 ^ 62 → IsKeptReason room kept c → IsSpelled (if b then told_close id kept c else close_frame 0x00 None)
unfolding Fits
close_spelled true id room kept c few k = told_spelled id room kept c few k
close_spelled false id room kept c few k = ((omega arith, tt, omega arith), refl)

told_stays : (w : SpaceWaiting) (id : SpaceId) (kept : List ℕ) (c : Option Close) → without w (told_close id kept c) ≡ w
unfolding without
told_stays w id kept None = refl
told_stays w id kept (Some (Connection c)) = refl
told_stays w Initial kept (Some (Application c)) = refl
told_stays w Handshake kept (Some (Application c)) = refl
told_stays w Data kept (Some (Application c)) = refl

close_stays : (w : SpaceWaiting) (b : Bool) (id : SpaceId) (kept : List ℕ) (c : Option Close) → without w (if b then told_close id kept c else close_frame 0x00 None) ≡ w
unfolding without
close_stays w true id kept c = told_stays w id kept c
close_stays w false id kept c = refl

-- PADDING behind frames leaves what waits without them
padding_stays : (w : SpaceWaiting) (fs : List FrameValue) (n : ℕ) → without_all w (fs ++ replicate n frames.Padding) ≡ without_all w fs
unfolding without_all without
padding_stays w [] zero = refl
padding_stays w [] (suc n) = padding_stays w [] n
padding_stays w (f ∷ fs) n = padding_stays (without w f) fs n

-- these frames are spelled, and what waits without them lies below the limit
abbrev ArePlain : SpaceWaiting → List FrameValue → Type 0
ArePlain w fs = All IsSpelled fs × IsSpaceBelowLimit (without_all w fs)

padded_plain : (w : SpaceWaiting) (fs : List FrameValue) (n : ℕ) → ArePlain w fs → ArePlain w (fs ++ replicate n frames.Padding)
padded_plain w fs n h = (
  All-append IsSpelled fs (replicate n frames.Padding) h.0 (padding_spelled n),
  subst IsSpaceBelowLimit (sym (padding_stays w fs n)) h.1,
)

closing_plain : (w : SpaceWaiting) (id : SpaceId) (room : ℕ) (kept : List ℕ) (v : Life) → room < 2 ^ 62 → IsKeptReason room kept v.close → IsSpaceBelowLimit w → ArePlain w (closing_frame id kept v ∷ [])
unfolding without_all
closing_plain w id room kept v few k h = (
  All-cons IsSpelled (closing_frame id kept v) [] (close_spelled (is_closed v.state) id room kept v.close few k) (All-nil IsSpelled),
  subst IsSpaceBelowLimit (sym (close_stays w (is_closed v.state) id kept v.close)) h,
)

close_plain : (time : ℕ) (w : SpaceWaiting) (most : ℕ) (acks : List FrameValue) (due : Bool) (id : SpaceId) (room : ℕ) (kept : List ℕ) (v : Life) → AckPart time w most acks due → room < 2 ^ 62
    → IsKeptReason room kept v.close → IsSpaceBelowLimit w → ArePlain w (acks ++ closing_frame id kept v ∷ [])
unfolding without_all without
close_plain time w most acks true id room kept v (AckPart.one ack says short is) few k h =
    let close : List FrameValue = closing_frame id kept v ∷ [] in
    let behind = closing_plain (without w (frames.Ack ack)) id room kept v few k h in
    let both : ArePlain w (frames.Ack ack ∷ close) = (All-cons IsSpelled (frames.Ack ack) close (ack_spelled time w ack says) behind.0, behind.1) in
    subst (λ (fs : List FrameValue). ArePlain w (fs ++ close)) (sym is) both
close_plain time w most acks true id room kept v (AckPart.left_out ack says long is) few k h =
    let close : List FrameValue = closing_frame id kept v ∷ [] in
    subst (λ (fs : List FrameValue). ArePlain w (fs ++ close)) (sym is) (closing_plain w id room kept v few k h)
close_plain time w most acks false id room kept v (AckPart.none is) few k h =
    let close : List FrameValue = closing_frame id kept v ∷ [] in
    subst (λ (fs : List FrameValue). ArePlain w (fs ++ close)) (sym is) (closing_plain w id room kept v few k h)

-- ---- what receiving and sending keep

space_below : (w : Waiting) (id : SpaceId) → IsBelowLimit w → IsSpaceBelowLimit (space_of w.spaces id)
space_below w Initial h = h.0
space_below w Handshake h = h.1
space_below w Data h = h.2

-- a packet was sealed with these frames
told_below : (w : Waiting) (id : SpaceId) (fs : List FrameValue) (last : Bool) → IsBelowLimit w → IsSpaceBelowLimit (without_all (space_of w.spaces id) fs) → IsBelowLimit (packet_told (waiting_without w id fs) last)
unfolding waiting_without packet_told
told_below w Initial fs last h k = (k, h.1, h.2)
told_below w Handshake fs last h k = (h.0, k, h.2)
told_below w Data fs last h k = (h.0, h.1, k)

bundled_below : (w : Waiting) (fs : List FrameValue) (next : ℕ) → IsBelowLimit w → IsBelowLimit (bundle_next w fs next)
unfolding bundle_next
bundled_below w fs next h = by_test (list_any is_ack fs)
  where
    by_test : (b : Bool) → IsBelowLimit (if b then record w { bundled = Some next } else w)
    by_test true = h
    by_test false = h

sealed_below : (w : Waiting) (id : SpaceId) (fs : List FrameValue) (last : Bool) (next : ℕ) → IsBelowLimit w → IsSpaceBelowLimit (without_all (space_of w.spaces id) fs) → IsBelowLimit (bundle_next (packet_told (waiting_without w id fs) last) fs next)
sealed_below w id fs last next h k = bundled_below (packet_told (waiting_without w id fs) last) fs next (told_below w id fs last h k)

-- nothing waits in a space that was left
nothing_below : (w : SpaceWaiting) → IsSpaceBelowLimit w → IsSpaceBelowLimit (nothing_left w)
unfolding nothing_left discarded
nothing_below w h = h

-- another value in a space
set_below : (w : Waiting) (id : SpaceId) (x : SpaceWaiting) → (IsSpaceBelowLimit (space_of w.spaces id) → IsSpaceBelowLimit x) → IsBelowLimit w → IsBelowLimit (record w { spaces = with_space w.spaces id x })
set_below w Initial x keeps h = (keeps h.0, h.1, h.2)
set_below w Handshake x keeps h = (h.0, keeps h.1, h.2)
set_below w Data x keeps h = (h.0, h.1, keeps h.2)

-- the session's bytes come behind those that it wrote before, where the stream has room for them
more_below : (w : SpaceWaiting) (bytes : List ℕ) → IsSpaceBelowLimit w → IsSpaceBelowLimit (record w { crypto = crypto_more w.crypto bytes })
unfolding crypto_more bytes_written
more_below w bytes h = by_test (nat_lt (w.crypto.written + length bytes) (2 ^ 62)) refl
  where
    by_test : (b : Bool) → nat_lt (w.crypto.written + length bytes) (2 ^ 62) ≡ b → IsSpaceBelowLimit (record w { crypto = if b then bytes_written bytes w.crypto else w.crypto })
    by_test true e =
        let room : w.crypto.written + length bytes < 2 ^ 62 = grind (arith, nat_tests) in
        room
    by_test false e = h

-- frames that wait again are no bytes more
again_below : (w : SpaceWaiting) (f : FrameValue) → IsSpaceBelowLimit w → IsSpaceBelowLimit (again w f)
unfolding range_lost
again_below w frames.HandshakeDone h = h
again_below w (frames.Crypto offset body) h = h
again_below w _ h = h

all_again_below : (w : SpaceWaiting) (fs : List FrameValue) → IsSpaceBelowLimit w → IsSpaceBelowLimit (all_again w fs)
all_again_below w [] h = h
all_again_below w (f ∷ fs) h = all_again_below (again w f) fs (again_below w f h)

lost_below : (w : SpaceWaiting) (es : List Entry) → IsSpaceBelowLimit w → IsSpaceBelowLimit (lost_in w es)
lost_below w [] h = h
lost_below w (e ∷ es) h = lost_below (all_again w e.1.frames) es (all_again_below w e.1.frames h)

-- nor are frames that were acknowledged
confirmed_below : (w : SpaceWaiting) (f : FrameValue) → IsSpaceBelowLimit w → IsSpaceBelowLimit (confirmed w f)
confirmed_below w (frames.Ack ack) h = h
confirmed_below w _ h = h

all_confirmed_below : (w : SpaceWaiting) (fs : List FrameValue) → IsSpaceBelowLimit w → IsSpaceBelowLimit (all_confirmed w fs)
all_confirmed_below w [] h = h
all_confirmed_below w (f ∷ fs) h = all_confirmed_below (confirmed w f) fs (confirmed_below w f h)

acked_below : (w : SpaceWaiting) (es : List Entry) → IsSpaceBelowLimit w → IsSpaceBelowLimit (acked_in w es)
acked_below w [] h = h
acked_below w (e ∷ es) h = acked_below (all_confirmed w e.1.frames) es (all_confirmed_below w e.1.frames h)

-- what an acknowledgement leaves of a space
settled_below : (w : Waiting) (id : SpaceId) (acked lost : List Entry) → IsBelowLimit w → IsBelowLimit (packets_lost (packets_acked w id acked) id lost)
unfolding packets_lost packets_acked
settled_below w id acked lost h =
    let v : Waiting = packets_acked w id acked in
    set_below v id _ (lost_below (space_of v.spaces id) lost) (set_below w id _ (acked_below (space_of w.spaces id) acked) h)

-- what the loss timer leaves
fired_below : (w : Waiting) (f : Fired) → IsBelowLimit w → IsBelowLimit (fired_in w f)
unfolding packets_lost probes_added
fired_below w (fired.Lost id lost) h = set_below w id _ (lost_below (space_of w.spaces id) lost) h
fired_below w (fired.Probe id count) h = set_below w id _ (λ p. p) h
fired_below w fired.Nothing h = h

-- a packet is begun, which may spend a probe
packet_below : {t : Types} (s : View t) (id : SpaceId) (opens : Bool) → IsBelowLimit s.waiting → IsBelowLimit (packet_begun id opens s).waiting
unfolding probe_spent frames_again ping_asked
packet_below s id opens h =
    begun_holds IsBelowLimit (λ w x b. set_below w x _ (λ p. p) b) (λ w x fs b. set_below w x _ (all_again_below (space_of w.spaces x) fs) b) (λ w x b. set_below w x _ (λ p. p) b) id opens s h

one_more : (ds : List Did) (d : Did) → IsDeedPlain d → All IsDeedPlain ds → All IsDeedPlain (ds ++ d ∷ [])
one_more ds d h p = All-append IsDeedPlain ds (d ∷ []) p (All-cons IsDeedPlain d [] h (All-nil IsDeedPlain))

told_plain : (d : Did) → IsTold d → IsDeedPlain d
told_plain (deed.Piece space number verdict) h = tt
told_plain (deed.Gave layer body) h = tt
told_plain _ h = absurd h

-- a frame that the streams are handed is told of, or isn't
handed_plain : (ds : List Did) (frame : FrameValue) (b : Bool) → All IsDeedPlain ds → All IsDeedPlain (told ds (if b then deed.Gave layer.Streams (spelling frame) ∷ [] else []))
handed_plain ds frame true h = one_more ds _ tt h
handed_plain ds frame false h = h

done_plain : (b : Bool) → IsAnswerPlain (if b then answer.Done else answer.Dropped)
done_plain true = tt
done_plain false = tt

-- what a call of the streams answers
opened_plain : (b : Bool) (id : ℕ) → IsAnswerPlain (if b then answer.Opened id else answer.Nothing)
opened_plain true id = tt
opened_plain false id = tt

accepted_plain : (b : Bool) (id : ℕ) → IsAnswerPlain (if b then answer.Nothing else answer.Accepted id)
accepted_plain true id = tt
accepted_plain false id = tt

write_plain : (refusal : Option WriteError) (count : ℕ) → IsAnswerPlain (write_answer refusal count)
write_plain None count = tt
write_plain (Some write.Blocked) count = tt
write_plain (Some write.ClosedStream) count = tt
write_plain (Some (write.Stopped code)) count = tt
write_plain (Some write.OutOfMemory) count = tt

finish_plain : (refusal : Option FinishError) → IsAnswerPlain (finish_answer refusal)
finish_plain None = tt
finish_plain (Some finish.ClosedStream) = tt
finish_plain (Some (finish.Stopped code)) = tt

closed_plain : (refused : Bool) → IsAnswerPlain (closed_answer refused)
closed_plain true = tt
closed_plain false = tt

sent_plain : (refusal : Option SendRefusal) → IsAnswerPlain (sent_answer refusal)
sent_plain None = tt
sent_plain (Some send.Disabled) = tt
sent_plain (Some send.UnsupportedByPeer) = tt
sent_plain (Some send.TooLarge) = tt
sent_plain (Some send.Blocked) = tt

taken_plain : (waiting : List (List ℕ)) → IsAnswerPlain (taken_answer waiting)
taken_plain [] = tt
taken_plain (d ∷ ds) = tt

read_plain : (read : Result (Option Chunk) ReadFault) → IsAnswerPlain (read_answer read)
read_plain (Ok (Some chunk)) = tt
read_plain (Ok None) = tt
read_plain (Err fault.ClosedStream) = tt
read_plain (Err fault.IllegalOrderedRead) = tt
read_plain (Err (fault.Reset code)) = tt
read_plain (Err fault.Blocked) = tt
read_plain (Err fault.OutOfMemory) = tt

-- accepting a packet leaves the address
accepted_remote : {C : Type 0} → (p : Paths C) (id : SpaceId) (v : Verdict) → (path_accepted p id v).current.remote ≡ p.current.remote
unfolding path_accepted
accepted_remote p Handshake verdict.Admitted = refl
accepted_remote p _ _ = refl

-- so does its spin bit
spun_remote : {C : Type 0} → (p : Paths C) (side : Side) (greatest bit : Bool) → (path_spun p side greatest bit).current.remote ≡ p.current.remote
unfolding path_spun
spun_remote p side true bit = refl
spun_remote p side false bit = refl

-- and a transmit that sends nothing
quiet_remote : {C : Type 0} → (p : Paths C) (q : Quiet) → (path_quiet p q).current.remote ≡ p.current.remote
unfolding path_quiet
quiet_remote p NothingOwed = refl
quiet_remote p Silent = refl
quiet_remote p Amplification = refl
quiet_remote p Congestion = refl
quiet_remote p Pacing = refl
quiet_remote p Killed = refl

-- what waits to be reported to the endpoint leaves nothing out
abbrev AreNoticesPlain : Life → Type 0
AreNoticesPlain v = All IsEndpointPlain v.notices

same_notices : (v w : Life) → w.notices ≡ v.notices → AreNoticesPlain v → AreNoticesPlain w
same_notices v w same h = subst (All IsEndpointPlain) (sym same) h

-- a reason leaves it
given_notices : (v : Life) (why : ConnectionError) → (reason_given v why).notices ≡ v.notices
unfolding reason_given
given_notices v why = by_test (is_none v.reason)
  where
    by_test : (b : Bool) → (if b then record v { reason = Some why; lost = Some why } else v).notices ≡ v.notices
    by_test true = refl
    by_test false = refl

-- nor does what is heard of datagrams change it
heard_notices : (tells : Bool) (v : Life) → (datagram_heard tells v).notices ≡ v.notices
unfolding datagram_heard
heard_notices true v = refl
heard_notices false v = refl

-- one more that leaves nothing out
one_notice : (es : List EndpointEvent) (e : EndpointEvent) → IsEndpointPlain e → All IsEndpointPlain es → All IsEndpointPlain (es ++ e ∷ [])
one_notice es e h k = All-append IsEndpointPlain es (e ∷ []) k (All-cons IsEndpointPlain e [] h (All-nil IsEndpointPlain))

-- so a token of the peer's, where one came with an id of its
token_notices : (v : Life) (remote : SocketAddr) (o : Option (List ℕ)) → IsPlainAddress remote → AreNoticesPlain v → AreNoticesPlain (token_told v remote o)
unfolding token_learned
token_notices v remote None p k = k
token_notices v remote (Some token) p k = one_notice v.notices (endpoint.ResetToken remote token) p k

-- and an id of this end that the peer retired, where it may
retired_notices : (v : Life) (may : Bool) (time n : ℕ) (more : Bool) → AreNoticesPlain v → AreNoticesPlain (if may then retirement_told v time n more else v)
unfolding retirement_told
retired_notices v true time n more k = one_notice v.notices (endpoint.RetireConnectionId time n more) tt k
retired_notices v false time n more k = k

-- what is reported to the endpoint leaves nothing out then
drained_plain : (d : Bool) → All IsEndpointPlain (option_to_list (if d then Some endpoint.Drained else None))
drained_plain true = All-cons IsEndpointPlain endpoint.Drained [] tt (All-nil IsEndpointPlain)
drained_plain false = All-nil IsEndpointPlain

endpoint_plain : {t : Types} (s : View t) → AreNoticesPlain s.life → All IsEndpointPlain (endpoint_events s)
unfolding endpoint_events drained_event
endpoint_plain s h = All-append IsEndpointPlain s.life.notices (option_to_list (if s.life.drained then Some endpoint.Drained else None)) h (drained_plain s.life.drained)

-- the epoch of a 0-RTT packet is told as 0
early_plain : {H P : Type 0} (v : KeyGroup H P) (form : Form) → is_early form ≡ true → epoch_in v form ≡ 0
unfolding epoch_in
early_plain v form.Initial e = refl
early_plain v form.Handshake e = refl
early_plain v form.Early e = refl
early_plain v form.OneRtt e = cc

-- the room of a datagram is below 2^62 bytes
room_below : (room : ℕ) (acks : List FrameValue) → room ≤ 65527 → room - length (frames_spelling acks) < 2 ^ 62
room_below room acks small = omega (arith, small)

module _ {t : Types} where
  closes_plain : (time : ℕ) (s : View t) (id : SpaceId) (room : ℕ) (fs : List FrameValue) → room ≤ 65527 → Closes time s id room fs → IsSpaceBelowLimit (space_of s.waiting.spaces id) → ArePlain (space_of s.waiting.spaces id) fs
  closes_plain time s id room fs small (Closes.closing acks part kept is_kept is) h =
      let w : SpaceWaiting = space_of s.waiting.spaces id in
      subst (ArePlain w) (sym is) (close_plain time w (room - 25) acks (may_acknowledge w.acks) id (room - length (frames_spelling acks)) kept s.life part (room_below room acks small) is_kept h)

  carried_plain : (maker : TokenMaker t) (closing : Bool) (time : ℕ) (s : View t) (form : Form) (room : ℕ) (fs : List FrameValue) → room ≤ 65527 → Carries maker closing time s form room fs →
      IsSpaceBelowLimit (space_of s.waiting.spaces (number_space form)) → ArePlain (space_of s.waiting.spaces (number_space form)) fs
  carried_plain maker closing time s form room fs small (Carries.a_close owed gs n closes is) h =
      let w : SpaceWaiting = space_of s.waiting.spaces (number_space form) in
      subst (ArePlain w) (sym is) (padded_plain w gs n (closes_plain time s (number_space form) room gs small closes h))
  carried_plain maker closing time s form room fs small (Carries.what_waits free gs n wait is) h =
      let w : SpaceWaiting = space_of s.waiting.spaces (number_space form) in
      subst (ArePlain w) (sym is) (padded_plain w gs n (frames_spelled maker time s (number_space form) gs wait h))

  -- what receiving and sending keep, from one moment to another: the deeds leave nothing out, what waits lies below the limit, and
  -- datagrams go to the same address
  record Keeps (a b : At t) : Type 0 where
    pub deeds : IsBelowLimit a.state.waiting → All IsDeedPlain a.did → All IsDeedPlain b.did
    pub crypto : IsBelowLimit a.state.waiting → IsBelowLimit b.state.waiting
    pub path : b.state.paths.current.remote ≡ a.state.paths.current.remote
    pub notices : IsPlainAddress a.state.paths.current.remote → AreNoticesPlain a.state.life → AreNoticesPlain b.state.life

  keeps_here : (a : At t) → Keeps a a
  keeps_here a = record { deeds = λ b p. p; crypto = λ p. p; path = refl; notices = λ p k. k }

  keeps_next : (a b c : At t) → Keeps a b → Keeps b c → Keeps a c
  keeps_next a b c g h = record { deeds = λ b p. h.deeds (g.crypto b) (g.deeds b p); crypto = λ p. h.crypto (g.crypto p); path = h.path ∙ g.path; notices = λ p k. h.notices (subst IsPlainAddress (sym g.path) p) (g.notices p k) }

  keeps_move : (x : Move t) → IsReceived x → (a : At t) → MayMove x a.state → Keeps a (move_to x a)
  unfolding MayMove move_to state_move deeds_move waiting_move close_begun space_left hello_again bytes_again range_lost packet_came came_in crypto_written done_asked paths_move path_kept path_named path_received path_accepted peer_fixed life_move data_ready life_established life_drained life_closed life_raised token_learned identifiers_wanted path_capped
  keeps_move (Forget id) r a h = record { deeds = λ b p. p; crypto = set_below a.state.waiting id _ (nothing_below (space_of a.state.waiting.spaces id)); path = refl; notices = λ p k. k }
  keeps_move (Enter id n v) r a h = record { deeds = λ b. one_more a.did _ tt; crypto = λ p. p; path = refl; notices = λ p k. k }
  keeps_move (Expect token) r a h = record { deeds = λ b p. p; crypto = λ p. p; path = refl; notices = λ p k. k }
  keeps_move Fail r a h = record { deeds = λ b p. p; crypto = λ p. p; path = refl; notices = λ p k. k }
  keeps_move (Renew time cid token keys) r a h = record { deeds = λ b. one_more a.did _ tt; crypto = set_below a.state.waiting Initial (bytes_again (space_of a.state.waiting.spaces Initial)) (λ p. p); path = refl; notices = λ p k. k }
  keeps_move (Unseal time n which fresh session) r a h = record { deeds = λ b p. p; crypto = λ p. p; path = refl; notices = λ p k. k }
  keeps_move (Accept time id n e g v) r a h = record {
    deeds = λ b. one_more a.did _ tt;
    crypto = set_below a.state.waiting id _ (λ p. p);
    path = spun_remote (path_accepted a.state.paths id v) a.state.setup.fixed.side (nat_le (received_number a.state.numbers id) n) g.spin ∙ accepted_remote a.state.paths id v;
    notices = λ p k. k;
  }
  keeps_move (Fix cid) r a h = record { deeds = λ b p. p; crypto = λ p. p; path = refl; notices = λ p k. k }
  keeps_move (Hear bytes) r a h = record { deeds = λ b p. p; crypto = λ p. p; path = refl; notices = λ p k. k }
  keeps_move (Ack id n after) r a h = record { deeds = λ b p. p; crypto = settled_below a.state.waiting id after.acked after.lost; path = refl; notices = λ p k. k }
  keeps_move (Arm time) r a h = record { deeds = λ b p. p; crypto = λ p. p; path = refl; notices = λ p k. k }
  keeps_move (Come id offset bytes) r a h = record { deeds = λ b p. p; crypto = λ p. p; path = refl; notices = λ p k. k }
  keeps_move (Read id count session) r a h = record { deeds = λ b p. p; crypto = λ p. p; path = refl; notices = λ p k. k }
  keeps_move (Write bytes keys session) r a h = record { deeds = λ b p. p; crypto = set_below a.state.waiting a.state.keys.highest _ (more_below (space_of a.state.waiting.spaces a.state.keys.highest) bytes); path = refl; notices = λ p k. k }
  keeps_move Ready r a h = record { deeds = λ b p. p; crypto = λ p. p; path = refl; notices = λ p k. k }
  keeps_move (Token token) r a h = record { deeds = λ b p. p; crypto = λ p. p; path = refl; notices = λ p k. one_notice a.state.life.notices (endpoint.ResetToken a.state.paths.current.remote token) p k }
  keeps_move (Learn parameters) r a h = record { deeds = λ b p. p; crypto = λ p. p; path = refl; notices = λ p k. k }
  keeps_move (Want time count) r a h = record { deeds = λ b p. p; crypto = λ p. p; path = refl; notices = λ p k. one_notice a.state.life.notices (endpoint.NeedIdentifiers time count) tt k }
  keeps_move Confirm r a h = record { deeds = λ b p. p; crypto = set_below a.state.waiting «Data» (record (space_of a.state.waiting.spaces «Data») { done = true }) (λ p. p); path = refl; notices = λ p k. k }
  keeps_move Establish r a h = record { deeds = λ b. one_more a.did _ tt; crypto = λ p. p; path = refl; notices = λ p k. k }
  keeps_move (Tell d) r a h = record { deeds = λ b. one_more a.did d (told_plain d h); crypto = λ p. p; path = refl; notices = λ p k. k }
  keeps_move (Hand frame) r a h = record { deeds = λ b. handed_plain a.did frame (is_given_to_streams frame); crypto = λ p. p; path = refl; notices = λ p k. same_notices a.state.life (datagram_heard (tells_datagram frame a.state.lower.datagrams) a.state.life) (heard_notices (tells_datagram frame a.state.lower.datagrams) a.state.life) k }
  keeps_move (Insert new) r a h = record { deeds = λ b. one_more a.did _ tt; crypto = λ p. p; path = refl; notices = λ p k. token_notices a.state.life a.state.paths.current.remote (token_by new a.state.lower.ids.remote) p k }
  keeps_move Switch r a h = record { deeds = λ b p. p; crypto = λ p. p; path = refl; notices = λ p k. token_notices a.state.life a.state.paths.current.remote (next_token a.state.lower.ids.remote) p k }
  keeps_move (Retire time n) r a h = record {
    deeds = λ b. one_more a.did _ tt;
    crypto = λ p. p;
    path = refl;
    notices = λ p k. retired_notices a.state.life (may_retire n a.state.lower.ids.local) time n (asks_one (active_limit a.state.setup.peer) n a.state.lower.ids) k;
  }
  keeps_move PeerClosesToo r a h = record { deeds = λ b. one_more a.did _ tt; crypto = λ p. p; path = refl; notices = λ p k. k }
  keeps_move (PeerCloses time) r a h = record { deeds = λ b. one_more a.did _ tt; crypto = λ p. p; path = refl; notices = λ p k. k }
  keeps_move Owe r a h = record { deeds = λ b p. p; crypto = λ p. p; path = refl; notices = λ p k. k }
  keeps_move (Shut time close) r a h = record { deeds = λ b. one_more a.did _ tt; crypto = λ p. p; path = refl; notices = λ p k. k }
  keeps_move (Raise to) r a h = record { deeds = λ b. one_more a.did _ tt; crypto = λ p. p; path = refl; notices = λ p k. k }
  keeps_move (Give why) r a h = record { deeds = λ b. one_more a.did _ tt; crypto = λ p. p; path = refl; notices = λ p k. same_notices a.state.life (reason_given a.state.life why) (given_notices a.state.life why) k }
  keeps_move _ r a h = absurd r

  keeps_datagram : (m : Meaning t) (coming : Coming) (bytes : List ℕ) (a : At t) → Keeps a (datagram_after m coming bytes a)
  keeps_datagram m coming bytes a = holds_datagram Keeps keeps_here keeps_next keeps_move m coming bytes a

  -- what a timer does keeps the same
  keeps_timed : (x : Move t) → IsTimed x → (a : At t) → MayMove x a.state → Keeps a (move_to x a)
  unfolding MayMove move_to state_move deeds_move waiting_move ack_released paths_move path_kept life_move life_raised identifiers_wanted
  keeps_timed (Fire after) r a h = record { deeds = λ b p. p; crypto = fired_below a.state.waiting after.fired; path = refl; notices = λ p k. k }
  keeps_timed (Arm time) r a h = record { deeds = λ b p. p; crypto = λ p. p; path = refl; notices = λ p k. k }
  keeps_timed Pace r a h = record { deeds = λ b p. p; crypto = λ p. p; path = refl; notices = λ p k. k }
  keeps_timed Discard r a h = record { deeds = λ b p. p; crypto = λ p. p; path = refl; notices = λ p k. k }
  keeps_timed Release r a h = record { deeds = λ b p. p; crypto = λ p. p; path = refl; notices = λ p k. k }
  keeps_timed Outlive r a h = record { deeds = λ b p. p; crypto = λ p. p; path = refl; notices = λ p k. k }
  keeps_timed (Want time count) r a h = record { deeds = λ b p. p; crypto = λ p. p; path = refl; notices = λ p k. one_notice a.state.life.notices (endpoint.NeedIdentifiers time count) tt k }
  keeps_timed (Raise to) r a h = record { deeds = λ b. one_more a.did _ tt; crypto = λ p. p; path = refl; notices = λ p k. k }
  keeps_timed (Give why) r a h = record { deeds = λ b. one_more a.did _ tt; crypto = λ p. p; path = refl; notices = λ p k. same_notices a.state.life (reason_given a.state.life why) (given_notices a.state.life why) k }
  keeps_timed _ r a h = absurd r

  keeps_timeout : (m : Meaning t) (time : ℕ) (a : At t) → Keeps a (timeout_after m time a)
  keeps_timeout m time a = holds_timeout Keeps keeps_here keeps_next keeps_timed m time a

  -- what a transmit does keeps the same: each of its moves but those that take and seal
  keeps_sending : (x : Move t) → IsSending x → (a : At t) → MayMove x a.state → Keeps a (move_to x a)
  unfolding MayMove move_to state_move deeds_move waiting_move ping_asked close_begun space_left paths_move path_kept path_sent life_move life_closed life_raised
  keeps_sending (Ask id) r a h = record { deeds = λ b p. p; crypto = set_below a.state.waiting id _ (λ p. p); path = refl; notices = λ p k. k }
  keeps_sending (Begin id opens) r a h = record { deeds = λ b p. p; crypto = packet_below a.state id opens; path = refl; notices = λ p k. k }
  keeps_sending Skip r a h = record { deeds = λ b p. p; crypto = λ p. p; path = refl; notices = λ p k. k }
  keeps_sending (Update fresh session) r a h = record { deeds = λ b p. p; crypto = λ p. p; path = refl; notices = λ p k. k }
  keeps_sending (Arm time) r a h = record { deeds = λ b p. p; crypto = λ p. p; path = refl; notices = λ p k. k }
  keeps_sending (Forget id) r a h = record { deeds = λ b p. p; crypto = set_below a.state.waiting id _ (nothing_below (space_of a.state.waiting.spaces id)); path = refl; notices = λ p k. k }
  keeps_sending (Shut time close) r a h = record { deeds = λ b. one_more a.did _ tt; crypto = λ p. p; path = refl; notices = λ p k. k }
  keeps_sending (Raise to) r a h = record { deeds = λ b. one_more a.did _ tt; crypto = λ p. p; path = refl; notices = λ p k. k }
  keeps_sending (Give why) r a h = record { deeds = λ b. one_more a.did _ tt; crypto = λ p. p; path = refl; notices = λ p k. same_notices a.state.life (reason_given a.state.life why) (given_notices a.state.life why) k }
  keeps_sending (Spend tokens) r a h = record { deeds = λ b p. p; crypto = λ p. p; path = refl; notices = λ p k. k }
  keeps_sending (Hold until) r a h = record { deeds = λ b p. p; crypto = λ p. p; path = refl; notices = λ p k. k }
  keeps_sending (Finish bytes control) r a h = record { deeds = λ b p. p; crypto = λ p. p; path = refl; notices = λ p k. k }
  keeps_sending (Probe time n bytes q) r a h = record { deeds = λ b p. p; crypto = λ p. p; path = ap (λ (p : Path t.C). p.remote) (probed_current a.state.paths time n bytes q); notices = λ p k. k }
  keeps_sending (Say q) r a h = record { deeds = λ b. one_more a.did _ tt; crypto = λ p. p; path = quiet_remote a.state.paths q; notices = λ p k. k }
  keeps_sending _ r a h = absurd r

  -- and those, as its frames leave nothing out
  keeps_sealed : (time : ℕ) (form : Form) (fs : List FrameValue) (a : At t) → IsSealable time a.state form fs →
      Keeps a (move_to (Seal time form (next_number a.state.numbers (number_space form)) (packet_size a.state form fs) fs) (move_to (Take (number_space form) fs) a))
  unfolding move_to state_move deeds_move waiting_move keys_move paths_move life_move
  keeps_sealed time form fs a may =
      let id : SpaceId = number_space form in
      record {
        deeds = λ b. one_more a.did (deed.Sealed id (next_number a.state.numbers id) (epoch_in a.state.keys form) (is_early form) fs)
            (early_plain a.state.keys form, (carried_plain may.token may.closing time a.state form may.room fs may.small may.carries (space_below a.state.waiting id b)).0);
        crypto = λ h. sealed_below a.state.waiting id fs (is_space id a.state.keys.highest) _ h (carried_plain may.token may.closing time a.state form may.room fs may.small may.carries (space_below a.state.waiting id h)).1;
        path = refl;
        notices = λ p k. k;
      }

  keeps_transmit : (m : Meaning t) (time asked : ℕ) (choice : Choice) (a : At t) → MayTransmit m time asked choice a → Keeps a (transmit_after m time asked choice a)
  keeps_transmit m time asked choice a may = holds_transmit Keeps keeps_here keeps_next keeps_sending keeps_sealed m time asked choice a may

  -- the application closes, or has closed before
  keeps_closed : (time : ℕ) (close : Close) (a : At t) (b : Bool) → Keeps a (if b then move_to (Shut time close) a else a)
  unfolding move_to state_move deeds_move waiting_move close_begun paths_move life_move life_closed
  keeps_closed time close a true = record { deeds = λ b. one_more a.did _ tt; crypto = λ p. p; path = refl; notices = λ p k. k }
  keeps_closed time close a false = keeps_here a

  -- the application calls the streams
  keeps_call : (x : streams.Step) (a : At t) → Keeps a (move_to (Call x) a)
  unfolding move_to state_move deeds_move waiting_move paths_move life_move
  keeps_call x a = record { deeds = λ b p. p; crypto = λ p. p; path = refl; notices = λ p k. k }

  keeps_calls : (xs : List streams.Step) (a : At t) → Keeps a (called_all xs a)
  keeps_calls [] a = keeps_here a
  keeps_calls (x ∷ xs) a = keeps_next a (move_to (Call x) a) (called_all xs (move_to (Call x) a)) (keeps_call x a) (keeps_calls xs (move_to (Call x) a))

  -- a datagram of the application is sent or taken
  keeps_post : (x : datagrams.Step) (a : At t) → Keeps a (move_to (Post x) a)
  unfolding move_to state_move deeds_move waiting_move paths_move life_move
  keeps_post x a = record { deeds = λ b p. p; crypto = λ p. p; path = refl; notices = λ p k. k }

  -- ids of this end are given
  keeps_issue : (time : ℕ) (given : List IssuedCid) (a : At t) → Keeps a (move_to (Issue time given) a)
  unfolding move_to state_move deeds_move waiting_move paths_move life_move
  keeps_issue time given a = record { deeds = λ b p. p; crypto = λ p. p; path = refl; notices = λ p k. k }

  -- what an input does
  keeps_input : (m : Meaning t) (i : Input) (choice : Choice) (a : At t) → IsAllowed m i choice a → Keeps a (input_after m i choice a)
  unfolding IsAllowed input_after close_after move_to state_move deeds_move waiting_move ping_asked paths_move life_move
  keeps_input m (input.Datagram time remote ecn bytes) choice a may = keeps_datagram m (record { time = time; remote = remote; mark = ecn }) bytes a
  keeps_input m (input.Timeout time) choice a may = keeps_timeout m time a
  keeps_input m (input.Transmit time max) choice a may = keeps_transmit m time max choice a may
  keeps_input m (input.Open time dir) choice a may = keeps_calls (calls_of (input.Open time dir) choice.read a.state.lower.streams) a
  keeps_input m (input.Accept time dir) choice a may = keeps_calls (calls_of (input.Accept time dir) choice.read a.state.lower.streams) a
  keeps_input m (input.Write time id body) choice a may = keeps_calls (calls_of (input.Write time id body) choice.read a.state.lower.streams) a
  keeps_input m (input.Finish time id) choice a may = keeps_calls (calls_of (input.Finish time id) choice.read a.state.lower.streams) a
  keeps_input m (input.ResetSend time id code) choice a may = keeps_calls (calls_of (input.ResetSend time id code) choice.read a.state.lower.streams) a
  keeps_input m (input.StopRecv time id code) choice a may = keeps_calls (calls_of (input.StopRecv time id code) choice.read a.state.lower.streams) a
  keeps_input m (input.Read time id max) choice a may = keeps_calls (calls_of (input.Read time id max) choice.read a.state.lower.streams) a
  keeps_input m (input.SendDatagram time body) choice a may = keeps_post (datagrams.Sent (datagram_limit a.state) true body) a
  keeps_input m (input.RecvDatagram time) choice a may = keeps_post datagrams.Taken a
  keeps_input m (input.Close time code reason) choice a may = keeps_closed time _ a (is_open a.state.life.state)
  keeps_input m (input.Ping time) choice a may = record { deeds = λ b p. p; crypto = set_below a.state.waiting a.state.keys.highest _ (λ p. p); path = refl; notices = λ p k. k }
  keeps_input m (input.Update time) choice a may = holds_updated m Keeps keeps_here (λ b may_be. record { deeds = λ c p. p; crypto = λ p. p; path = refl; notices = λ p k. k }) a
  keeps_input m (input.MaxStreams time dir count) choice a may = keeps_calls (calls_of (input.MaxStreams time dir count) choice.read a.state.lower.streams) a
  keeps_input m (input.SendWindow time size) choice a may = keeps_calls (calls_of (input.SendWindow time size) choice.read a.state.lower.streams) a
  keeps_input m (input.ReceiveWindow time size) choice a may = keeps_calls (calls_of (input.ReceiveWindow time size) choice.read a.state.lower.streams) a
  keeps_input m (input.Identifiers time given) choice a may = keeps_issue time given a

  -- what it answers
  out_plain : (e : Ending) (s : View t) (b : Batch) (bytes : List ℕ) → IsPlainAddress s.paths.current.remote → IsAnswerPlain (out_of (sent_out e (transmit_with s b)) bytes)
  unfolding transmit_with
  out_plain Went s b bytes h = h
  out_plain Ending.Held s b bytes h = h
  out_plain (Hushed quiet) s b bytes h = tt
  out_plain (Probed quiet size) s b bytes h = h
  out_plain (Died f why) s b bytes h = tt

  answer_plain : (m : Meaning t) (i : Input) (choice : Choice) (a : At t) → IsPlainAddress a.state.paths.current.remote → IsAnswerPlain (answer_of m i choice a)
  unfolding answer_of transmit_of
  answer_plain m (input.Datagram time remote ecn bytes) choice a h = done_plain (is_taken m a.state remote bytes)
  answer_plain m (input.Timeout time) choice a h = tt
  answer_plain m (input.Transmit time max) choice a h = out_plain choice.ending a.state (gone_after m time max choice a).batch (transmit_bytes m time max choice a) h
  answer_plain m (input.Open time dir) choice a h = opened_plain (may_open dir a.state.lower.streams) (next_own dir a.state.lower.streams)
  answer_plain m (input.Accept time dir) choice a h = accepted_plain (has_accepted (by_dir dir a.state.lower.streams.peer)) (next_accepted dir a.state.lower.streams)
  answer_plain m (input.Write time id body) choice a h = write_plain (write_refusal id a.state.lower.streams) (count_written id body a.state.lower.streams)
  answer_plain m (input.Finish time id) choice a h = finish_plain (finish_refusal (known_at id a.state.lower.streams))
  answer_plain m (input.ResetSend time id code) choice a h = closed_plain (bars_reset (known_at id a.state.lower.streams))
  answer_plain m (input.StopRecv time id code) choice a h = closed_plain (closed_to (receiving_at id a.state.lower.streams))
  answer_plain m (input.Read time id max) choice a h = read_plain choice.read
  answer_plain m (input.SendDatagram time body) choice a h = sent_plain (send_refusal (datagram_limit a.state) true body a.state.lower.datagrams)
  answer_plain m (input.RecvDatagram time) choice a h = taken_plain a.state.lower.datagrams.incoming
  answer_plain m (input.Close time code reason) choice a h = tt
  answer_plain m (input.Ping time) choice a h = tt
  answer_plain m (input.Update time) choice a h = tt
  answer_plain m (input.MaxStreams time dir count) choice a h = tt
  answer_plain m (input.SendWindow time size) choice a h = tt
  answer_plain m (input.ReceiveWindow time size) choice a h = tt
  answer_plain m (input.Identifiers time given) choice a h = tt

  -- what a step does before anything is reported
  keeps_step : (m : Meaning t) (k : ℕ) (s : View t) (i : Input) (x : Step) (s' : View t) (e : IsStep m k s i x s') → Keeps (began s (time_of i)) (called m s i e.choice)
  unfolding called
  keeps_step m k s i x s' e = keeps_input m i e.choice (began s (time_of i)) e.allowed

  -- the deeds of a step
  step_deeds : (m : Meaning t) (k : ℕ) (s : View t) (i : Input) (x : Step) (s' : View t) → IsStep m k s i x s' → IsBelowLimit s.waiting → All IsDeedPlain x.did × IsBelowLimit s'.waiting
  unfolding began step_after reported state_move waiting_move
  step_deeds m k s i x s' e h =
      let there : Keeps (began s (time_of i)) (called m s i e.choice) = keeps_step m k s i x s' e in
      (subst (All IsDeedPlain) (sym e.deeds) (there.deeds h (All-nil IsDeedPlain)), subst IsBelowLimit (sym e.waiting) (there.crypto h))

  -- its answer
  step_answer : (m : Meaning t) (k : ℕ) (s : View t) (i : Input) (x : Step) (s' : View t) → IsStep m k s i x s' → IsPlainAddress s.paths.current.remote → IsAnswerPlain x.answer × IsPlainAddress s'.paths.current.remote
  unfolding began step_after reported state_move paths_move
  step_answer m k s i x s' e h =
      let same : s'.paths.current.remote ≡ s.paths.current.remote = ap (λ (p : Paths t.C). p.current.remote) e.paths ∙ (keeps_step m k s i x s' e).path in
      (subst IsAnswerPlain (sym e.answer) (answer_plain m i e.choice (began s (time_of i)) h), subst IsPlainAddress (sym same) h)

  -- what it tells the endpoint
  step_endpoint : (m : Meaning t) (k : ℕ) (s : View t) (i : Input) (x : Step) (s' : View t) → IsStep m k s i x s' → IsPlainAddress s.paths.current.remote → AreNoticesPlain s.life → All IsEndpointPlain x.endpoint × AreNoticesPlain s'.life
  unfolding began step_after reported state_move life_move notices_reported drained_reported lost_reported connected_reported ready_reported paths_move
  step_endpoint m k s i x s' e p h =
      let there : AreNoticesPlain (called m s i e.choice).state.life = (keeps_step m k s i x s' e).notices p h in
      (subst (All IsEndpointPlain) (sym e.endpoint) (endpoint_plain (called m s i e.choice).state there), subst AreNoticesPlain (sym e.life) (All-nil IsEndpointPlain))

  -- ---- runs

  run_deeds : (m : Meaning t) (k : ℕ) (s : View t) (is : List Input) (xs : List Step) (s' : View t) → Run m k s is xs s' → IsBelowLimit s.waiting → All (λ x. All IsDeedPlain x.did) xs × IsBelowLimit s'.waiting
  unfolding Run
  run_deeds m k s [] [] s' r h = (All-nil (λ (x : Step). All IsDeedPlain x.did), subst (λ (v : View t). IsBelowLimit v.waiting) (sym r) h)
  run_deeds m k s (i ∷ is) (x ∷ xs) s' r h =
      let first = step_deeds m k s i x r.0 r.1 h in
      let others = run_deeds m (k + 1) r.0 is xs s' r.2 first.1 in
      (All-cons (λ (x : Step). All IsDeedPlain x.did) x xs first.0 others.0, others.1)
  run_deeds m k s [] (x ∷ xs) s' r h = absurd r
  run_deeds m k s (i ∷ is) [] s' r h = absurd r

  run_answers : (m : Meaning t) (k : ℕ) (s : View t) (is : List Input) (xs : List Step) (s' : View t) → Run m k s is xs s' → IsPlainAddress s.paths.current.remote → All (λ x. IsAnswerPlain x.answer) xs × IsPlainAddress s'.paths.current.remote
  unfolding Run
  run_answers m k s [] [] s' r h = (All-nil (λ (x : Step). IsAnswerPlain x.answer), subst (λ (v : View t). IsPlainAddress v.paths.current.remote) (sym r) h)
  run_answers m k s (i ∷ is) (x ∷ xs) s' r h =
      let first = step_answer m k s i x r.0 r.1 h in
      let others = run_answers m (k + 1) r.0 is xs s' r.2 first.1 in
      (All-cons (λ (x : Step). IsAnswerPlain x.answer) x xs first.0 others.0, others.1)
  run_answers m k s [] (x ∷ xs) s' r h = absurd r
  run_answers m k s (i ∷ is) [] s' r h = absurd r

  run_endpoints : (m : Meaning t) (k : ℕ) (s : View t) (is : List Input) (xs : List Step) (s' : View t) → Run m k s is xs s' → IsPlainAddress s.paths.current.remote → AreNoticesPlain s.life → All (λ x. All IsEndpointPlain x.endpoint) xs × AreNoticesPlain s'.life
  unfolding Run
  run_endpoints m k s [] [] s' r p h = (All-nil (λ (x : Step). All IsEndpointPlain x.endpoint), subst (λ (v : View t). AreNoticesPlain v.life) (sym r) h)
  run_endpoints m k s (i ∷ is) (x ∷ xs) s' r p h =
      let first = step_endpoint m k s i x r.0 r.1 p h in
      let others = run_endpoints m (k + 1) r.0 is xs s' r.2 (step_answer m k s i x r.0 r.1 p).1 first.1 in
      (All-cons (λ (x : Step). All IsEndpointPlain x.endpoint) x xs first.0 others.0, others.1)
  run_endpoints m k s [] (x ∷ xs) s' r p h = absurd r
  run_endpoints m k s (i ∷ is) [] s' r p h = absurd r

  -- the steps of a run from a plain start leave nothing out
  pub run_plain : (m : Meaning t) (k : ℕ) (s : View t) (is : List Input) (xs : List Step) (s' : View t) → Run m k s is xs s' → IsPlainStart s.waiting s.paths s.life → All IsPlain xs
  run_plain m k s is xs s' r h =
      let deeds = run_deeds m k s is xs s' r h.crypto in
      let answers = run_answers m k s is xs s' r h.address in
      let ends = run_endpoints m k s is xs s' r h.address h.notices in
      λ n d l. record { did = deeds.0 n d l; answer = answers.0 n d l; endpoint = ends.0 n d l }

  -- and where it ends is a plain start again
  pub run_stays : (m : Meaning t) (k : ℕ) (s : View t) (is : List Input) (xs : List Step) (s' : View t) → Run m k s is xs s' → IsPlainStart s.waiting s.paths s.life → IsPlainStart s'.waiting s'.paths s'.life
  run_stays m k s is xs s' r h = record { crypto = (run_deeds m k s is xs s' r h.crypto).1; address = (run_answers m k s is xs s' r h.address).1; notices = (run_endpoints m k s is xs s' r h.address h.notices).1 }

  -- the same of a run over the first inputs
  pub ran_plain : (m : Meaning t) (k : ℕ) (s : View t) (is : List Input) (xs : List Step) → Ran m k s is xs → IsPlainStart s.waiting s.paths s.life → All IsPlain xs
  ran_plain m k s is xs r h = run_plain m k s (take (length xs) is) xs r.last r.run h

module _ {t : Types} {R : Type 0} where
  -- a client that was just made, and its hello
  pub first_plain : (stream : R → Stream) (m : Meaning t) (session : t.S) (words : Stream) (fixed : Fixed) (remote : SocketAddr) (first_cid token : List ℕ) (transport : TransportValues) (congestion : t.C) (time : ℕ) (v : Held t R) → ideal stream v ≡ first_view m session words fixed remote first_cid token transport congestion time
      → v.waiting.spaces.initial.crypto.written < 2 ^ 62 → IsPlainAddress remote → IsPlainStart v.waiting v.paths v.life
  unfolding first_view bytes_written nothing only_path new_path
  first_plain stream m session words fixed remote first_cid token transport congestion time v made hello plain =
      let after : v.waiting.spaces.handshake.crypto.written ≡ 0 = ap (λ (v : View t). v.waiting.spaces.handshake.crypto.written) made in
      let last : v.waiting.spaces.application.crypto.written ≡ 0 = ap (λ (v : View t). v.waiting.spaces.application.crypto.written) made in
      let path : v.paths.current.remote ≡ remote = ap (λ (v : View t). v.paths.current.remote) made in
      let none : v.life.notices ≡ [] = ap (λ (v : View t). v.life.notices) made in
      record { crypto = (hello, omega arith, omega arith); address = subst IsPlainAddress (sym path) plain; notices = subst (All IsEndpointPlain) (sym none) (All-nil IsEndpointPlain) }

  -- a server that was just made
  pub server_plain : (stream : R → Stream) (m : Meaning t) (session : t.S) (words : Stream) (fixed : Fixed) (remote : SocketAddr) (remote_cid : List ℕ) (validated : Bool) (issuer : Issuer t.K t.T) (transport : TransportValues) (congestion : t.C) (time : ℕ) (v : Held t R) → ideal stream v ≡ server_view m session words fixed remote remote_cid validated issuer transport congestion time
      → IsPlainAddress remote → IsPlainStart v.waiting v.paths v.life
  unfolding server_view bytes_written nothing only_path new_path
  server_plain stream m session words fixed remote remote_cid validated issuer transport congestion time v made plain =
      let before : v.waiting.spaces.initial.crypto.written ≡ 0 = ap (λ (v : View t). v.waiting.spaces.initial.crypto.written) made in
      let after : v.waiting.spaces.handshake.crypto.written ≡ 0 = ap (λ (v : View t). v.waiting.spaces.handshake.crypto.written) made in
      let last : v.waiting.spaces.application.crypto.written ≡ 0 = ap (λ (v : View t). v.waiting.spaces.application.crypto.written) made in
      let path : v.paths.current.remote ≡ remote = ap (λ (v : View t). v.paths.current.remote) made in
      let none : v.life.notices ≡ [] = ap (λ (v : View t). v.life.notices) made in
      record { crypto = (omega arith, omega arith, omega arith); address = subst IsPlainAddress (sym path) plain; notices = subst (All IsEndpointPlain) (sym none) (All-nil IsEndpointPlain) }

-- ---- two runs

module _ {t u : Types} where
  pub runs_differ : (m : Meaning t) (n : Meaning u) (xs ys : List Step) → IsTellingRun m xs → IsTellingRun n ys → trace_text xs ≡ trace_text ys → xs ≡ ys
  runs_differ m n xs ys p q e =
      let left = run_deeds m p.place p.first p.inputs xs p.last p.run p.crypto in
      let right = run_deeds n q.place q.first q.inputs ys q.last q.run q.crypto in
      trace_back xs ys p.in_range q.in_range (λ k d l. record { did = left.0 k d l; answer = p.addresses k d l; endpoint = p.tokens k d l }) (λ k d l. record { did = right.0 k d l; answer = q.addresses k d l; endpoint = q.tokens k d l }) e

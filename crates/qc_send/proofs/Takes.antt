-- What taking frames leaves: the header of the next packet, its size and its bytes; a close and PADDING are taken without a change.
use Rattle.std.proofs.lemmas.Bool.Decides.{nat_tests}
use Rattle.std.proofs.Common.{◌≡◌, ℕ, ◌+◌, ◌-◌, ◌<◌, nat_lt, arith, ◌⊎◌, ◌||◌, not, inl, inr, append-nil, subst, List, [], ◌∷◌, ◌++◌, length, replicate, refl, ap, sym, ◌∙◌, Bool, true, false, ◌&&◌, if◌then◌else◌, Option, Some, None}
use Rattle.std.specs.List.{list_any}
use Rattle.qc_base.specs.declared.side.SpaceId.{SpaceId}
use Rattle.qc_base.specs.declared.side.SpaceId.TheVariants.{Initial, Handshake, «Data»}
use Rattle.qc_frame.specs.Frame.{FrameValue}
use Rattle.qc_frame.specs.FrameSpelling.{elicits, frames_spelling}
use Rattle.qc_frame.specs.declared.frames.FrameOf.TheVariants.{Padding}
use Rattle.qc_state.specs.declared.form.Form.{Form}
use Rattle.qc_state.specs.declared.form.Form.TheVariants as form
use Rattle.qc_state.specs.Acks.{AckPart, is_ack, may_acknowledge}
use Rattle.qc_state.specs.Forms.{number_space}
use Rattle.qc_state.specs.Life.{is_closed, more_heard}
use Rattle.qc_state.specs.declared.life.Close.{Close}
use Rattle.qc_state.specs.declared.life.Close.TheVariants.{Connection, Application}
use Rattle.qc_header.specs.declared.header.Header.{Header}
use Rattle.qc_header.specs.HeaderSpelling.{header_spelling}
use Rattle.qc_packet.specs.Building.{padded_size}
use Rattle.qc_packet.specs.PacketSpelling.{padding_len}
use Rattle.qc_state.specs.declared.deeds.Did.{Did}
use Rattle.qc_state.specs.declared.life.Life.{Life}
use Rattle.qc_state.specs.declared.waiting.SpaceWaiting.{SpaceWaiting}
use Rattle.qc_state.specs.Keys.{header_key, packet_key}
use Rattle.qc_state.specs.Moves.{Take, Seal, state_move, move_to, numbers_move, keys_move, life_move, paths_move, timers_move, waiting_move, setup_move, lower_move, deeds_move}
use Rattle.qc_state.specs.Numbers.{next_number}
use Rattle.qc_state.specs.Setup.{takes_grease}
use Rattle.qc_state.specs.Sending.{close_frame, application_close, told_close, closing_frame, IsKeptReason, Closes, header_in, spin_now, fills_up, flips_now, holds_owed, room_of, sealed_with, packet_bytes, is_flown, flown_after, sealed_in, packet_size}
use Rattle.qc_send.specs.Filling.{padded_to, padding_to, size_to}
use Rattle.qc_state.specs.Spaces.{is_space, space_of, with_space}
use Rattle.qc_state.specs.Types.{TokenMaker, Types, Meaning}
use Rattle.qc_state.specs.View.{View, At, at}
use Rattle.qc_state.specs.Taking.{TakenPart}
use Rattle.qc_state.specs.Waiting.{waiting_without, without, without_all}
use Rattle.qc_state.specs.Acks.{is_ack_owed}
use Rattle.qc_cids.specs.Steps as ids
use Rattle.qc_datagrams.specs.Steps as posts
use Rattle.qc_state.specs.Datagrams.{AllOldest, sealed_datagrams, told_by_all}
use Rattle.qc_state.specs.Ids.{AllNext, sealed_cids}
use Rattle.qc_state.specs.Offers.{datagram_waits, wants_sending}
use Rattle.qc_state.specs.StreamFrames.{sealed_steps}
use Rattle.qc_state.proofs.DatagramSteps.{datagrams_append, datagrams_closing, datagrams_padded}
use Rattle.qc_state.proofs.IdSteps.{cids_append, cids_closing, cids_padded}
use Rattle.qc_state.proofs.Issued.{behind_append, undrawn, tokens_closing, tokens_of, tokens_padding}
use Rattle.qc_state.proofs.OffersTaken.{sealed_same}
use Rattle.qc_state.specs.Tokens.{AllIssued, behind_tokens, made_by}
use Rattle.std.specs.Net.Socket.{socket_ip}
use Rattle.qc_state.proofs.SealedSteps.{sealed_append, sealed_closing, sealed_padded}
use Rattle.qc_streams.specs.Steps.{AllMay}
use Rattle.qc_streams.specs.Waits.{Step}
use Rattle.qc_send.proofs.Waits.{without_all_append, without_padded}
use Rattle.qc_send.specs.Taking.{OwesAckAlone, TakenNow}

-- where a probe was due, a frame elicits an acknowledgement, or there is too little room for one
pub probe_answered : (probes elicits : Bool) (left : ℕ) (answers : Bool) → answers ≡ (not probes || (elicits || nat_lt left 64)) → answers ≡ true → probes ≡ true → (elicits ≡ true) ⊎ (left < 64)
probe_answered false elicits left answers is holds due = cc
probe_answered true true left answers is holds due = inl refl
probe_answered true false left answers is holds due = inr (let few : nat_lt left 64 ≡ true = sym is ∙ holds in grind (arith, nat_tests))

-- a close is sealed without leaving what waits
application_stays : (w : SpaceWaiting) (id : SpaceId) (code : ℕ) (kept : List ℕ) → without w (application_close id code kept) ≡ w
unfolding without
application_stays w Initial code kept = refl
application_stays w Handshake code kept = refl
application_stays w Data code kept = refl

close_stays : (w : SpaceWaiting) (id : SpaceId) (kept : List ℕ) (b : Bool) (c : Option Close) → without w (if b then told_close id kept c else close_frame 0x00 None) ≡ w
unfolding without
close_stays w id kept true None = refl
close_stays w id kept true (Some (Connection c)) = refl
close_stays w id kept true (Some (Application c)) = application_stays w id c.error_code kept
close_stays w id kept false c = refl

module _ {t : Types} where
  -- PADDING changes nothing of what waits
  pub take_padded : (form : Form) (least : ℕ) (fs : List FrameValue) (s : View t) → state_move (Take (number_space form) (padded_to s form least fs)) s ≡ state_move (Take (number_space form) fs) s
  unfolding state_move numbers_move keys_move life_move paths_move timers_move waiting_move setup_move lower_move waiting_without padded_to
  take_padded form least fs s =
      let gs : List FrameValue = padded_to s form least fs in
      let n : ℕ = padding_to s form least fs in
      let told : List posts.Step → Life = λ xs. more_heard (told_by_all xs s.lower.datagrams) s.life in
      let words : behind_tokens gs s.setup.random ≡ behind_tokens fs s.setup.random =
      behind_append fs (replicate n Padding) s.setup.random ∙ undrawn (replicate n Padding) (behind_tokens fs s.setup.random) (tokens_padding n) in
      λ i. record s {
        waiting = record s.waiting { spaces = with_space s.waiting.spaces (number_space form) (without_padded (space_of s.waiting.spaces (number_space form)) fs n i) };
        life = told (datagrams_padded fs n i);
        setup = record s.setup { random = words i };
        lower = sealed_same gs fs s.lower (sealed_padded fs n) (datagrams_padded fs n) (cids_padded fs n) i;
      }

  -- a close behind an ACK changes nothing more of what waits
  close_behind : (s : View t) (id : SpaceId) (kept : List ℕ) (acks : List FrameValue) → state_move (Take id acks) s ≡ state_move (Take id (acks ++ closing_frame id kept s.life ∷ [])) s
  unfolding state_move numbers_move keys_move life_move paths_move timers_move waiting_move setup_move lower_move waiting_without without_all sealed_steps sealed_datagrams sealed_cids
  close_behind s id kept acks =
      let w : SpaceWaiting = space_of s.waiting.spaces id in
      let all : List FrameValue = acks ++ closing_frame id kept s.life ∷ [] in
      let steps : sealed_steps all ≡ sealed_steps acks =
      sealed_append acks (closing_frame id kept s.life ∷ []) ∙ ap (λ (xs : List Step). sealed_steps acks ++ (xs ++ [])) (sealed_closing id kept (is_closed s.life.state) s.life.close)
      ∙ append-nil (sealed_steps acks) in
      let datagrams : sealed_datagrams all ≡ sealed_datagrams acks =
      datagrams_append acks (closing_frame id kept s.life ∷ []) ∙ ap (λ (xs : List posts.Step). sealed_datagrams acks ++ (xs ++ [])) (datagrams_closing id kept (is_closed s.life.state) s.life.close)
      ∙ append-nil (sealed_datagrams acks) in
      let cids : sealed_cids all ≡ sealed_cids acks =
      cids_append acks (closing_frame id kept s.life ∷ []) ∙ ap (λ (xs : List ids.Step). sealed_cids acks ++ (xs ++ [])) (cids_closing id kept (is_closed s.life.state) s.life.close)
      ∙ append-nil (sealed_cids acks) in
      let told : List posts.Step → Life = λ xs. more_heard (told_by_all xs s.lower.datagrams) s.life in
      let none : tokens_of (closing_frame id kept s.life ∷ []) ≡ [] = ap (λ (xs : List (List ℕ)). xs ++ []) (tokens_closing id kept (is_closed s.life.state) s.life.close) in
      let words : behind_tokens acks s.setup.random ≡ behind_tokens all s.setup.random =
      sym (behind_append acks (closing_frame id kept s.life ∷ []) s.setup.random ∙ undrawn (closing_frame id kept s.life ∷ []) (behind_tokens acks s.setup.random) none) in
      let rest : without_all w acks ≡ without_all w all =
      sym (without_all_append w acks (closing_frame id kept s.life ∷ []) ∙ close_stays (without_all w acks) id kept (is_closed s.life.state) s.life.close) in
      λ i. record s {
        waiting = record s.waiting { spaces = with_space s.waiting.spaces id (rest i) };
        life = told (sym datagrams i);
        setup = record s.setup { random = words i };
        lower = sealed_same acks all s.lower (sym steps) (sym datagrams) (sym cids) i;
      }

  -- where the ACK was taken, the close behind it was taken too
  pub close_taken : (s mid : View t) (id : SpaceId) (kept : List ℕ) (acks fs : List FrameValue) → mid ≡ state_move (Take id acks) s → fs ≡ acks ++ closing_frame id kept s.life ∷ [] → mid ≡ state_move (Take id fs) s
  close_taken s mid id kept acks fs is_mid is_fs = is_mid ∙ close_behind s id kept acks ∙ ap (λ (x : List FrameValue). state_move (Take id x) s) (sym is_fs)

  -- the ACK and the close, with the reason that fits behind the ACK
  pub closes_so : (time : ℕ) (s : View t) (id : SpaceId) (room : ℕ) (kept : List ℕ) (acks fs : List FrameValue) →
      AckPart time (space_of s.waiting.spaces id) (room - 25) acks (may_acknowledge (space_of s.waiting.spaces id).acks) → IsKeptReason (room - length (frames_spelling acks)) kept s.life.close →
      fs ≡ acks ++ closing_frame id kept s.life ∷ [] → Closes time s id room fs
  closes_so time s id room kept acks fs part reason is = Closes.closing acks part kept reason is

  -- are the frames that this end takes, where a close is owed
  pub takes_close : (maker : TokenMaker t) (closing first : Bool) (time : ℕ) (s : View t) (id : SpaceId) (form : Form) (room : ℕ) (fs : List FrameValue) → closing ≡ true → id ≡ number_space form → Closes time s id room fs →
      TakenNow maker closing first time s (number_space form) room fs
  takes_close maker closing first time s id form room fs owed is closes = subst (λ (x : SpaceId). TakenNow maker closing first time s x room fs) is (TakenNow.a_close owed closes)

  -- and else it takes frames that wait
  pub takes_waiting : (maker : TokenMaker t) (closing first : Bool) (time : ℕ) (s : View t) (id : SpaceId) (form : Form) (room : ℕ) (fs : List FrameValue) → closing ≡ false → id ≡ number_space form →
      TakenPart time s.waiting.bundled (is_space id «Data») (space_of s.waiting.spaces id) room fs → AllMay (sealed_steps fs) s.lower.streams → AllOldest fs s.lower.datagrams →
      AllNext fs s.lower.ids → AllIssued (made_by maker s.issuer) (socket_ip s.paths.current.remote) fs (space_of s.waiting.spaces id) s.setup.random → (holds_owed s id fs ≡ true) ⊎ ((first ≡ true) × OwesAckAlone s id) → TakenNow maker closing first time s (number_space form) room fs
  takes_waiting maker closing first time s id form room fs free is part may oldest next issued some =
      subst (λ (x : SpaceId). TakenNow maker closing first time s x room fs) is (TakenNow.what_waits free part may oldest next issued some)

  -- among them is something that is owed, or an ACK is all that is
  pub some_owed : (s : View t) (id : SpaceId) (fs : List FrameValue) (owes first alone makes : Bool) → owes ≡ is_ack_owed (space_of s.waiting.spaces id).acks →
      alone ≡ (not (wants_sending s id || datagram_waits id s) && is_ack_owed (space_of s.waiting.spaces id).acks) → makes ≡ ((list_any elicits fs || (owes && list_any is_ack fs)) || (first && alone)) → makes ≡ true →
      (holds_owed s id fs ≡ true) ⊎ ((first ≡ true) × OwesAckAlone s id)
  unfolding holds_owed
  some_owed s id fs owes first alone makes is_owes is_alone is_makes holds = by_held (list_any elicits fs || (owes && list_any is_ack fs)) refl (sym is_makes ∙ holds)
    where
      alone_by : (x y : Bool) → (wants_sending s id || datagram_waits id s) ≡ x → is_ack_owed (space_of s.waiting.spaces id).acks ≡ y → (not x && y) ≡ true → OwesAckAlone s id
      alone_by true y e f h = cc
      alone_by false true e f h = record { owed = f; alone = e }
      alone_by false false e f h = cc

      by_alone : (x : Bool) → first ≡ x → (x && alone) ≡ true → (holds_owed s id fs ≡ true) ⊎ ((first ≡ true) × OwesAckAlone s id)
      by_alone true e h = inr (e, alone_by (wants_sending s id || datagram_waits id s) (is_ack_owed (space_of s.waiting.spaces id).acks) refl refl (sym is_alone ∙ h))
      by_alone false e h = cc

      by_held : (x : Bool) → (list_any elicits fs || (owes && list_any is_ack fs)) ≡ x → (x || (first && alone)) ≡ true → (holds_owed s id fs ≡ true) ⊎ ((first ≡ true) × OwesAckAlone s id)
      by_held true e h = inl (ap (λ (y : Bool). list_any elicits fs || (y && list_any is_ack fs)) (sym is_owes) ∙ e)
      by_held false e h = by_alone first refl h

  -- taking frames leaves whether a packet with these counts as in flight
  flown_taken : (s mid : View t) (id : SpaceId) (fs : List FrameValue) → mid ≡ state_move (Take id fs) s → is_flown mid fs ≡ is_flown s fs
  unfolding is_flown state_move waiting_move waiting_without
  flown_taken s mid id fs is = ap (λ (x : View t). is_flown x fs) is

  -- a packet of this form is sealed, where its frames are taken first
  pub sealed_now : (m : Meaning t) (time : ℕ) (form : Form) (ds : List Did) (e mid : View t) (b f : At t) (gs : List FrameValue) → mid ≡ state_move (Take (number_space form) gs) e →
      b ≡ move_to (Seal time form (next_number e.numbers (number_space form)) (packet_size e form gs) gs) (at mid ds) → f ≡ flown_after m time (packet_size e form gs) (is_flown mid gs) b → f ≡ sealed_in m time form gs (at e ds)
  unfolding sealed_in move_to deeds_move
  sealed_now m time form ds e mid b f gs same is_b is_f =
      is_f ∙ ap (λ (x : Bool). flown_after m time (packet_size e form gs) x b) (flown_taken e mid (number_space form) gs same)
      ∙ ap (λ (x : At t). flown_after m time (packet_size e form gs) (is_flown e gs) x)
      (is_b ∙ ap (λ (x : View t). move_to (Seal time form (next_number e.numbers (number_space form)) (packet_size e form gs) gs) (at x ds)) same)

  -- taking frames leaves the header of the next packet
  header_kept : (s : View t) (form : Form) (fs : List FrameValue) → header_in (state_move (Take (number_space form) fs) s) form ≡ header_in s form
  unfolding state_move numbers_move keys_move paths_move setup_move spin_now
  header_kept s form.Initial fs = refl
  header_kept s form.Handshake fs = refl
  header_kept s form.Early fs = refl
  header_kept s form.OneRtt fs = refl

  pub header_taken : (s mid : View t) (form : Form) (fs : List FrameValue) → mid ≡ state_move (Take (number_space form) fs) s → header_in mid form ≡ header_in s form
  header_taken s mid form fs is = ap (λ (x : View t). header_in x form) is ∙ header_kept s form fs

  -- nor does it change what a packet with given frames is
  pub size_kept : (s : View t) (form : Form) (fs gs : List FrameValue) → packet_size (state_move (Take (number_space form) fs) s) form gs ≡ packet_size s form gs
  unfolding packet_size
  size_kept s form fs gs = ap (λ (x : Header). length (header_spelling x 0) + length (frames_spelling gs) + 16) (header_kept s form fs)

  pub padded_kept : (s : View t) (form : Form) (least : ℕ) (fs gs : List FrameValue) → padded_to (state_move (Take (number_space form) fs) s) form least gs ≡ padded_to s form least gs
  unfolding padded_to padding_to
  padded_kept s form least fs gs = ap (λ (x : Header). gs ++ replicate (padding_len x gs (padded_size x gs least)) Padding) (header_kept s form fs)

  pub padding_kept : (s : View t) (form : Form) (least : ℕ) (fs gs : List FrameValue) → padding_to (state_move (Take (number_space form) fs) s) form least gs ≡ padding_to s form least gs
  unfolding padding_to
  padding_kept s form least fs gs = ap (λ (x : Header). padding_len x gs (padded_size x gs least)) (header_kept s form fs)

  pub size_to_kept : (s : View t) (form : Form) (least : ℕ) (fs gs : List FrameValue) → size_to (state_move (Take (number_space form) fs) s) form least gs ≡ size_to s form least gs
  unfolding size_to
  size_to_kept s form least fs gs = ap (λ (x : Header). padded_size x gs least) (header_kept s form fs)

  pub room_kept : (left : ℕ) (s : View t) (form : Form) (fs : List FrameValue) → room_of left (state_move (Take (number_space form) fs) s) form ≡ room_of left s form
  unfolding room_of
  room_kept left s form fs = ap (λ (x : Header). left - 16 - length (header_spelling x 0)) (header_kept s form fs)

  pub fills_kept : (s : View t) (form : Form) (fs gs : List FrameValue) → fills_up (state_move (Take (number_space form) fs) s) form gs ≡ fills_up s form gs
  unfolding fills_up state_move setup_move
  fills_kept s form fs gs = refl

  pub bytes_kept : (m : Meaning t) (s : View t) (form : Form) (fs gs : List FrameValue) → packet_bytes m (state_move (Take (number_space form) fs) s) form gs ≡ packet_bytes m s form gs
  unfolding packet_bytes flips_now state_move keys_move setup_move numbers_move
  bytes_kept m s form fs gs = ap (λ (x : Header). sealed_with m (header_key s.keys form) (packet_key s.keys form) (takes_grease s.setup.peer && s.setup.drawn.flip) x (next_number s.numbers (number_space form)) (frames_spelling gs)) (header_kept s form fs)

  pub number_kept : (s : View t) (form : Form) (fs : List FrameValue) → (state_move (Take (number_space form) fs) s).numbers ≡ s.numbers
  unfolding state_move numbers_move
  number_kept s form fs = refl

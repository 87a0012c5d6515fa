-- How many bytes a packet has that is filled up with PADDING, and that it has no more PADDING than it may.
use Rattle.std.proofs.Common.{◌≡◌, ℕ, zero, suc, ◌+◌, ◌-◌, ◌≤◌, List, [], ◌∷◌, ◌++◌, length, replicate, refl, sym, ap, ◌∙◌, subst, Bool, true, false, ◌||◌, if◌then◌else◌, Option, Some, None, arith}
use Rattle.std.specs.Prelude.{max}
use Rattle.std.specs.List.{list_any}
use Rattle.std.proofs.lemmas.List.{length-replicate}
use Rattle.std.proofs.lemmas.List.Folds.{list_any-append}
use Rattle.qc_base.specs.declared.side.Side.{Side}
use Rattle.qc_base.specs.declared.side.Side.TheVariants.{Client, Server}
use Rattle.qc_base.specs.declared.side.SpaceId.{SpaceId}
use Rattle.qc_base.specs.declared.side.SpaceId.TheVariants.{Initial, Handshake, «Data»}
use Rattle.qc_frame.specs.Frame.{FrameValue}
use Rattle.qc_frame.specs.FrameSpelling.{elicits, frames_spelling}
use Rattle.qc_frame.specs.declared.frames.FrameOf.TheVariants.{Padding}
use Rattle.qc_frame.proofs.Padded.{zeros}
use Rattle.qc_header.specs.HeaderSpelling.{header_spelling}
use Rattle.qc_packet.specs.Building.{min_size_of}
use Rattle.qc_send.specs.Filling.{batch_planned, padded_to, padding_to, size_to}
use Rattle.qc_send.specs.Joining.{IsBegun, least_by}
use Rattle.qc_send.specs.Taking.{TakenNow}
use Rattle.qc_state.specs.declared.form.Form.{Form}
use Rattle.qc_state.specs.declared.life.Close.{Close}
use Rattle.qc_state.specs.declared.life.Close.TheVariants.{Connection, Application}
use Rattle.qc_state.specs.declared.transmit.Batch.{Batch}
use Rattle.qc_state.specs.declared.waiting.SpaceWaiting.{SpaceWaiting}
use Rattle.qc_state.specs.Acks.{AckPart, is_ack, may_acknowledge}
use Rattle.qc_state.specs.Allowed.{WaitAll, Waits}
use Rattle.qc_state.specs.Forms.{number_space}
use Rattle.qc_state.specs.Life.{is_closed}
use Rattle.qc_state.specs.Moves.{Take, state_move}
use Rattle.qc_state.specs.Numbers.{next_number}
use Rattle.qc_state.specs.Batches.{wanted_by, widens}
use Rattle.qc_state.specs.Sending.{Closes, IsPadded, application_close, close_frame, closing_frame, fills, fills_up, header_in, holds_owed, least_size, packet_size, padding_in, room_beside, room_of, told_close}
use Rattle.qc_state.specs.Spaces.{is_space, space_of}
use Rattle.qc_state.specs.Types.{TokenMaker, Types}
use Rattle.qc_state.specs.View.{View}
use Rattle.qc_send.proofs.Built.{dst_within}
use Rattle.qc_send.proofs.Fits.{room_holds}
use Rattle.qc_send.proofs.Sizes.{IsSpare, spare_is}
use Rattle.qc_send.proofs.Waits.{bytes_append, taken_wait}

-- ---- frames and PADDING

-- PADDING has a byte a frame
padding_bytes : (n : ℕ) → length (frames_spelling (replicate n Padding)) ≡ n
padding_bytes n = ap length (zeros n) ∙ length-replicate n 0

padding_append : (fs gs : List FrameValue) → padding_in (fs ++ gs) ≡ padding_in fs + padding_in gs
padding_append [] gs = omega arith
padding_append (Padding ∷ fs) gs = omega (arith, padding_append fs gs)
padding_append (f ∷ fs) gs = padding_append fs gs

padding_alone : (n : ℕ) → padding_in (replicate n Padding) ≡ n
padding_alone zero = refl
padding_alone (suc n) = omega (arith, padding_alone n)

-- and elicits nothing, nor is it an ACK
padding_silent : (n : ℕ) → list_any elicits (replicate n Padding) ≡ false
unfolding elicits
padding_silent zero = refl
padding_silent (suc n) = padding_silent n

padding_no_ack : (n : ℕ) → list_any is_ack (replicate n Padding) ≡ false
padding_no_ack zero = refl
padding_no_ack (suc n) = padding_no_ack n

or_false : (a : Bool) → (a || false) ≡ a
or_false true = refl
or_false false = refl

elicits_padded : (fs : List FrameValue) (n : ℕ) → list_any elicits (fs ++ replicate n Padding) ≡ list_any elicits fs
elicits_padded fs n = list_any-append elicits fs (replicate n Padding) ∙ ap (λ (b : Bool). list_any elicits fs || b) (padding_silent n) ∙ or_false (list_any elicits fs)

acks_padded : (fs : List FrameValue) (n : ℕ) → list_any is_ack (fs ++ replicate n Padding) ≡ list_any is_ack fs
acks_padded fs n = list_any-append is_ack fs (replicate n Padding) ∙ ap (λ (b : Bool). list_any is_ack fs || b) (padding_no_ack n) ∙ or_false (list_any is_ack fs)

-- ---- no PADDING is among the frames that are taken

ack_bare : (time room : ℕ) (w : SpaceWaiting) (fs : List FrameValue) (b : Bool) → AckPart time w room fs b → padding_in fs ≡ 0
ack_bare time room w fs true (AckPart.one ack says fits is) = ap padding_in is
ack_bare time room w fs true (AckPart.left_out ack says long is) = ap padding_in is
ack_bare time room w fs false (AckPart.none is) = ap padding_in is

application_bare : (id : SpaceId) (code : ℕ) (kept : List ℕ) → padding_in (application_close id code kept ∷ []) ≡ 0
application_bare Initial code kept = refl
application_bare Handshake code kept = refl
application_bare Data code kept = refl

closing_bare : (id : SpaceId) (kept : List ℕ) (b : Bool) (c : Option Close) → padding_in ((if b then told_close id kept c else close_frame 0x00 None) ∷ []) ≡ 0
closing_bare id kept true None = refl
closing_bare id kept true (Some (Connection c)) = refl
closing_bare id kept true (Some (Application c)) = application_bare id c.error_code kept
closing_bare id kept false c = refl

-- a client's Initial packet fills up its datagram, and a server's, and no other
pub fills_initial : (side : Side) (id : SpaceId) (eliciting : Bool) → fills side id eliciting ≡ true → is_space id Initial ≡ true
fills_initial Client Initial eliciting h = refl
fills_initial Client Handshake eliciting h = cc
fills_initial Client Data eliciting h = cc
fills_initial Server Initial eliciting h = refl
fills_initial Server Handshake eliciting h = cc
fills_initial Server Data eliciting h = cc

module _ {t : Types} where
  wait_bare : (maker : TokenMaker t) (time : ℕ) (s : View t) (id : SpaceId) (fs : List FrameValue) → WaitAll maker time s id fs → padding_in fs ≡ 0
  unfolding WaitAll Waits
  wait_bare maker time s id [] h = refl
  wait_bare maker time s id (Padding ∷ fs) h = absurd h.0
  wait_bare maker time s id (f ∷ fs) h = wait_bare maker time (state_move (Take id (f ∷ [])) s) id fs h.1

  close_bare : (time : ℕ) (s : View t) (id : SpaceId) (room : ℕ) (fs : List FrameValue) → Closes time s id room fs → padding_in fs ≡ 0
  close_bare time s id room fs (Closes.closing acks part kept reason is) =
      ap padding_in is ∙ padding_append acks (closing_frame id kept s.life ∷ [])
      ∙ omega (arith, ack_bare time (room - 25) (space_of s.waiting.spaces id) acks (may_acknowledge (space_of s.waiting.spaces id).acks) part, closing_bare id kept (is_closed s.life.state) s.life.close)

  pub taken_bare : (maker : TokenMaker t) (closing first : Bool) (time : ℕ) (s : View t) (id : SpaceId) (room : ℕ) (fs : List FrameValue) → TakenNow maker closing first time s id room fs → padding_in fs ≡ 0
  taken_bare maker closing first time s id room fs (TakenNow.a_close e closes) = close_bare time s id room fs closes
  taken_bare maker closing first time s id room fs (TakenNow.what_waits e taken may oldest next issued some) = wait_bare maker time s id fs (taken_wait maker time s id room fs taken may oldest next issued)

  -- ---- the packet's size

  -- so many bytes a packet has that is filled up
  pub padded_size_is : (s : View t) (form : Form) (least : ℕ) (fs : List FrameValue) → packet_size s form (padded_to s form least fs) ≡ size_to s form least fs
  unfolding packet_size padded_to padding_to size_to
  padded_size_is s form least fs =
      let n : ℕ = padding_to s form least fs in
      let whole : length (frames_spelling (fs ++ replicate n Padding)) ≡ length (frames_spelling fs) + n = bytes_append fs (replicate n Padding) ∙ ap (λ (x : ℕ). length (frames_spelling fs) + x) (padding_bytes n) in
      omega (arith, whole)

  -- and so many of them are PADDING
  pub padding_is : (s : View t) (form : Form) (least : ℕ) (fs : List FrameValue) → padding_to s form least fs ≡ size_to s form least fs - packet_size s form fs
  unfolding packet_size padding_to size_to
  padding_is s form least fs = omega arith

  -- without PADDING it has those beside its frames, and theirs
  pub plain_is : (left room : ℕ) (s : View t) (form : Form) (n : ℕ) (fs : List FrameValue) → room ≡ room_of left s form → 25 ≤ room → n ≡ left - room + length (frames_spelling fs) → n ≡ packet_size s form fs
  unfolding room_of packet_size
  plain_is left room s form n fs is wide sum = omega (arith, is, wide, sum)

  pub padding_in_is : (s : View t) (form : Form) (least : ℕ) (fs : List FrameValue) → padding_in fs ≡ 0 → padding_in (padded_to s form least fs) ≡ padding_to s form least fs
  unfolding padded_to
  padding_in_is s form least fs bare = padding_append fs (replicate (padding_to s form least fs) Padding) ∙ omega (arith, bare, padding_alone (padding_to s form least fs))

  -- so it leaves the room that is beside it
  pub beside_padded : (s : View t) (form : Form) (room least : ℕ) (fs : List FrameValue) → padding_in fs ≡ 0 → room_beside room (padded_to s form least fs) ≡ room - length (frames_spelling fs)
  unfolding padded_to
  beside_padded s form room least fs bare =
      let n : ℕ = padding_to s form least fs in
      let whole : length (frames_spelling (fs ++ replicate n Padding)) ≡ length (frames_spelling fs) + n = bytes_append fs (replicate n Padding) ∙ ap (λ (x : ℕ). length (frames_spelling fs) + x) (padding_bytes n) in
      let count : padding_in (fs ++ replicate n Padding) ≡ n = padding_append fs (replicate n Padding) ∙ omega (arith, bare, padding_alone n) in
      omega (arith, whole, count)

  -- nor does it change whether a frame elicits an acknowledgement
  pub elicits_kept : (s : View t) (form : Form) (least : ℕ) (fs : List FrameValue) → list_any elicits (padded_to s form least fs) ≡ list_any elicits fs
  unfolding padded_to
  elicits_kept s form least fs = elicits_padded fs (padding_to s form least fs)

  -- PADDING doesn't change whether a packet fills up its datagram, nor whether it holds something that is owed
  pub fills_padded : (s : View t) (form : Form) (least : ℕ) (fs : List FrameValue) → fills_up s form (padded_to s form least fs) ≡ fills_up s form fs
  unfolding fills_up padded_to
  fills_padded s form least fs = ap (λ (b : Bool). fills s.setup.fixed.side (number_space form) b) (elicits_padded fs (padding_to s form least fs))

  pub owed_padded : (s : View t) (form : Form) (least : ℕ) (id : SpaceId) (fs : List FrameValue) → holds_owed s id fs ≡ true → holds_owed s id (padded_to s form least fs) ≡ true
  unfolding holds_owed padded_to
  owed_padded s form least id fs h = cc (h, elicits_padded fs (padding_to s form least fs), acks_padded fs (padding_to s form least fs))

  pub fills_first : (s : View t) (form : Form) (fs : List FrameValue) → fills_up s form fs ≡ true → is_space (number_space form) Initial ≡ true
  unfolding fills_up
  fills_first s form fs h = fills_initial s.setup.fixed.side (number_space form) (list_any elicits fs) h

  -- what each packet has at least
  pub least_near : (s : View t) (form : Form) → least_size s form ≤ length (header_spelling (header_in s form) 0) + 22
  unfolding least_size min_size_of
  least_near s form = omega (arith, dst_within s form)

  pub size_enough : (s : View t) (form : Form) (least : ℕ) (fs : List FrameValue) → least_size s form ≤ size_to s form least fs
  unfolding least_size size_to
  size_enough s form least fs = omega arith

  pub size_parts : (s : View t) (form : Form) (least : ℕ) (fs : List FrameValue) → size_to s form least fs ≡ max (max (least_size s form) least) (packet_size s form fs)
  unfolding least_size size_to packet_size
  size_parts s form least fs = refl

  -- a packet has the PADDING that it is to have
  spares : (next : Option SpaceId) (b : Batch) (s : View t) (form : Form) (nearly : Bool) (least : ℕ) (fs : List FrameValue) → IsBegun b (number_space form) → 25 ≤ room_of (b.capacity - b.filled) s form →
      least ≡ least_by next (batch_planned s form nearly fs b) b.filled → IsSpare (wanted_by (b.wide || widens b form) (b.fills || fills_up s form fs) b) b.made b.filled b.segment (least_size s form) (size_to s form least fs) (padding_to s form least fs)
  unfolding batch_planned size_to least_size packet_size
  spares next b s form nearly least fs begun wide is =
      let head : ℕ = length (header_spelling (header_in s form) 0) in
      let frames : ℕ = length (frames_spelling fs) in
      spare_is next b (number_space form) form (next_number s.numbers (number_space form)) (fills_up s form fs) nearly (least_size s form) head frames (size_to s form least fs) (padding_to s form least fs)
      begun (fills_first s form fs) (least_near s form) (room_holds (b.capacity - b.filled) s form 0 wide (omega arith)).0
      (ap (λ (n : ℕ). max (max (least_size s form) n) (head + frames + 16)) is) (padding_is s form least fs)

  pub padded_is : (next : Option SpaceId) (b : Batch) (s : View t) (form : Form) (nearly : Bool) (least : ℕ) (fs : List FrameValue) → IsBegun b (number_space form) → 25 ≤ room_of (b.capacity - b.filled) s form → padding_in fs ≡ 0 →
      least ≡ least_by next (batch_planned s form nearly fs b) b.filled → IsPadded b s form (padded_to s form least fs)
  padded_is next b s form nearly least fs begun wide bare is =
      let gs : List FrameValue = padded_to s form least fs in
      let spare : IsSpare (wanted_by (b.wide || widens b form) (b.fills || fills_up s form fs) b) b.made b.filled b.segment (least_size s form) (size_to s form least fs) (padding_to s form least fs) = spares next b s form nearly least fs begun wide is in
      let filled : IsSpare (wanted_by (b.wide || widens b form) (b.fills || fills_up s form gs) b) b.made b.filled b.segment (least_size s form) (size_to s form least fs) (padding_to s form least fs) =
      subst (λ (x : Bool). IsSpare (wanted_by (b.wide || widens b form) (b.fills || x) b) b.made b.filled b.segment (least_size s form) (size_to s form least fs) (padding_to s form least fs)) (sym (fills_padded s form least fs)) spare in
      let sized : IsSpare (wanted_by (b.wide || widens b form) (b.fills || fills_up s form gs) b) b.made b.filled b.segment (least_size s form) (packet_size s form gs) (padding_to s form least fs) =
      subst (λ (n : ℕ). IsSpare (wanted_by (b.wide || widens b form) (b.fills || fills_up s form gs) b) b.made b.filled b.segment (least_size s form) n (padding_to s form least fs)) (sym (padded_size_is s form least fs)) filled in
      record {
        enough = subst (λ (n : ℕ). least_size s form ≤ n) (sym (padded_size_is s form least fs)) (size_enough s form least fs);
        spare = subst (λ (n : ℕ). IsSpare (wanted_by (b.wide || widens b form) (b.fills || fills_up s form gs) b) b.made b.filled b.segment (least_size s form) (packet_size s form gs) n) (sym (padding_in_is s form least fs bare)) sized;
      }

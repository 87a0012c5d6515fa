-- How many bytes a packet needs for itself, and what is known behind it, by the calls that plan it.
use Rattle.std.proofs.Common.{◌≡◌, ℕ, ◌+◌, ◌-◌, ◌≤◌, List, length, refl, sym, ap, ◌∙◌, subst, Bool, Option, arith}
use Rattle.std.specs.Prelude.{max}
use Rattle.qc_base.specs.declared.side.SpaceId.{SpaceId}
use Rattle.qc_base.specs.PacketNumber.{number_len, number_of}
use Rattle.qc_frame.specs.Frame.{FrameValue}
use Rattle.qc_frame.specs.FrameSpelling.{frames_spelling}
use Rattle.qc_packet.specs.Building.{dst_cid_of, min_size_of, pn_len}
use Rattle.qc_send.specs.Filling.{batch_planned, size_to}
use Rattle.qc_send.specs.Joining.{JoiningIs, least_by}
use Rattle.qc_state.specs.declared.form.Form.{Form}
use Rattle.qc_state.specs.declared.form.Form.TheVariants.{Initial, Handshake, Early, OneRtt}
use Rattle.qc_state.specs.declared.transmit.Batch.{Batch}
use Rattle.qc_state.specs.Forms.{number_space}
use Rattle.qc_state.specs.Numbers.{acked_number, next_number}
use Rattle.qc_state.specs.Batches.{batch_grown}
use Rattle.qc_state.specs.Sending.{fills_up, header_in, room_of}
use Rattle.qc_state.specs.Types.{Types}
use Rattle.qc_state.specs.View.{View}

-- how many bytes a packet is to have, by what is known behind it
pub planned_least : (c planned : Batch) (next : Option SpaceId) (before least : ℕ) → c ≡ planned → least ≡ least_by next c before → least ≡ least_by next planned before
planned_least c planned next before least is h = h ∙ ap (λ (x : Batch). least_by next x before) is

module _ {t : Types} where
  -- the number and the destination id of a packet's header
  number_is : (s : View t) (form : Form) → pn_len (header_in s form) ≡ number_len (number_of (next_number s.numbers (number_space form)) (acked_number s.numbers (number_space form)))
  number_is s Initial = refl
  number_is s Handshake = refl
  number_is s Early = refl
  number_is s OneRtt = refl

  dst_is : (s : View t) (form : Form) → dst_cid_of (header_in s form) ≡ s.paths.current.remote_cid
  dst_is s Initial = refl
  dst_is s Handshake = refl
  dst_is s Early = refl
  dst_is s OneRtt = refl

  -- what it needs for itself
  pub needed_is : (left room : ℕ) (s : View t) (form : Form) (fs : List FrameValue) (plain number sample most cid n : ℕ) → room ≡ room_of left s form → 25 ≤ room → plain ≡ left - room + length (frames_spelling fs) →
      number ≡ number_len (number_of (next_number s.numbers (number_space form)) (acked_number s.numbers (number_space form))) → number ≤ 4 → sample ≡ left - room + 4 - number → most ≡ max plain sample →
      cid ≡ length s.paths.current.remote_cid → n ≡ max most (cid + 6 + 16) → n ≡ size_to s form 0 fs
  unfolding room_of size_to min_size_of
  needed_is left room s form fs plain number sample most cid n is_room wide is_plain is_number few is_sample is_most is_cid is =
      let number_len_is : number ≡ pn_len (header_in s form) = is_number ∙ sym (number_is s form) in
      let dst_len : cid ≡ length (dst_cid_of (header_in s form)) = is_cid ∙ sym (ap (λ (x : List ℕ). length x) (dst_is s form)) in
      omega (arith, is_room, wide, is_plain, number_len_is, few, is_sample, dst_len, is_most, is)

  -- what is known behind it
  pub planned_is : (s : View t) (form : Form) (nearly fills : Bool) (fs : List FrameValue) (b c : Batch) (id : SpaceId) (number needed : ℕ) → needed ≡ size_to s form 0 fs → id ≡ number_space form → number ≡ next_number s.numbers id → fills ≡ fills_up s form fs →
      c ≡ batch_grown form number needed 0 fills nearly b → c ≡ batch_planned s form nearly fs b
  unfolding batch_planned
  planned_is s form nearly fills fs b c id number needed is_needed is_id is_number is_fills is =
      is ∙ ap (λ (n : ℕ). batch_grown form n needed 0 fills nearly b) (is_number ∙ ap (λ (x : SpaceId). next_number s.numbers x) is_id)
      ∙ ap (λ (n : ℕ). batch_grown form (next_number s.numbers (number_space form)) n 0 fills nearly b) is_needed
      ∙ ap (λ (x : Bool). batch_grown form (next_number s.numbers (number_space form)) (size_to s form 0 fs) 0 x nearly b) is_fills

  pub planned_next : (time : ℕ) (s : View t) (c planned : Batch) (next : Option SpaceId) → c ≡ planned → JoiningIs time s c next → JoiningIs time s planned next
  planned_next time s c planned next is h = subst (λ (x : Batch). JoiningIs time s x next) is h

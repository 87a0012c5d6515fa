-- How far a packet is filled up with PADDING, and what is known of its datagram behind it.
use Rattle.std.specs.Prelude.{ℕ, Bool, List, ◌++◌, replicate}
use Rattle.qc_frame.specs.Frame.{FrameValue}
use Rattle.qc_frame.specs.declared.frames.FrameOf.TheVariants.{Padding}
use Rattle.qc_packet.specs.Building.{padded_size}
use Rattle.qc_packet.specs.PacketSpelling.{padding_len}
use Rattle.qc_state.specs.declared.form.Form.{Form}
use Rattle.qc_state.specs.declared.transmit.Batch.{Batch}
use Rattle.qc_state.specs.Forms.{number_space}
use Rattle.qc_state.specs.Numbers.{next_number}
use Rattle.qc_state.specs.Batches.{batch_grown}
use Rattle.qc_state.specs.Sending.{fills_up, header_in}
use Rattle.qc_state.specs.Types.{Types}
use Rattle.qc_state.specs.View.{View}

module _ {t : Types} where
  -- how many bytes a packet of this form with these frames has that is filled up to so many at least, and as far as it needs for itself
  unfoldable pub size_to : View t → Form → (least : ℕ) → List FrameValue → ℕ
  size_to s form least fs = padded_size (header_in s form) fs least

  -- how many of them are PADDING
  unfoldable pub padding_to : View t → Form → (least : ℕ) → List FrameValue → ℕ
  padding_to s form least fs = padding_len (header_in s form) fs (padded_size (header_in s form) fs least)

  -- its frames with the PADDING behind them
  unfoldable pub padded_to : View t → Form → (least : ℕ) → List FrameValue → List FrameValue
  padded_to s form least fs = fs ++ replicate (padding_to s form least fs) Padding

  -- what is known of the datagrams behind such a packet that has as many bytes as it needs for itself, by the batch once it was begun
  unfoldable pub batch_planned : View t → Form → (nearly : Bool) → List FrameValue → Batch → Batch
  batch_planned s form nearly fs b = batch_grown form (next_number s.numbers (number_space form)) (size_to s form 0 fs) 0 (fills_up s form fs) nearly b

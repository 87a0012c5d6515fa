-- How a transmit goes on from what stands, and ends.
use Rattle.std.specs.Prelude.{◌≡◌, ℕ, Bool, true, false, List, length, Option, Some, None, if◌then◌else◌}
use Rattle.qc_send.specs.declared.sending.Dying.{Dying}
use Rattle.qc_send.specs.declared.sending.Next.{Next}
use Rattle.qc_send.specs.declared.sending.Next.TheVariants as next
use Rattle.qc_send.specs.declared.sending.Outcome.{Outcome}
use Rattle.qc_send.specs.declared.sending.Outcome.TheVariants as outcome
use Rattle.qc_state.specs.declared.deeds.Quiet.TheVariants.{Pacing}
use Rattle.qc_state.specs.declared.form.Form.{Form}
use Rattle.qc_state.specs.declared.transmit.Batch.{Batch}
use Rattle.qc_state.specs.declared.transmit.Transmit.{Transmit}
use Rattle.qc_state.specs.Sending.{Ending, Going, Held, MayAll, MayEnd, SendsAll, Sent, Went, bytes_out, ending_after, going_tried, held_after, packets_after, sent_out, sent_size, transmit_with}
use Rattle.qc_state.specs.Types.{Types, Meaning}
use Rattle.qc_state.specs.View.{At}

-- with packets a transmit ends so, where the pacer holds another datagram back, or doesn't
abbrev pub ending_of : (paced : Bool) → Ending
ending_of true = Held
ending_of false = Went

-- the form of the packet that was to begin as the connection ends, where it does
abbrev pub form_dying : Option Dying → Option Form
form_dying None = None
form_dying (Some dying) = Some dying.form

-- the same of what follows a packet
abbrev pub next_dying : Next → Option Form
next_dying (next.Joins id) = None
next_dying next.Full = None
next_dying (next.Dies dying) = Some dying.form

-- the close that ends the datagram behind this outcome, if one does
abbrev pub outcome_dying : Outcome → Option Form
outcome_dying (outcome.Begins id) = None
outcome_dying (outcome.Ends paced) = None
outcome_dying (outcome.Dies dying) = Some dying.form

module _ {t : Types} where
  -- the connection wants to be called when the datagram may go that the pacer holds back, where it does
  abbrev pub held_if : Meaning t → (time : ℕ) → Batch → (paced : Bool) → At t → At t
  held_if m time b paced a = if paced then held_after m time Pacing b a else a

  -- a point of a transmit, behind an update that was tried where the connection is about to end as a packet of this form was to begin
  abbrev pub tried_if : Meaning t → (dying : Option Form) → Going t → Going t
  tried_if m None g = g
  tried_if m (Some form) g = going_tried m form g

  -- from one point of a transmit to another packets were sealed, one behind the other, and then it is about to end so, or isn't
  pub record SendsUpTo (m : Meaning t) (time : ℕ) (dying : Option Form) (g h : Going t) : Type 0 where
    pub last : Going t
    pub sends : SendsAll m time g last
    pub leads : h ≡ tried_if m dying last

  -- from here on a transmit seals packets, and ends, with this left of the connection, this answer, and these bytes
  pub record EndsSo (m : Meaning t) (time : ℕ) (g : Going t) (b : At t) (sent : Option Transmit) (buffer : List ℕ) : Type 0 where
    pub packets : List Sent
    pub ending : Ending
    pub may : MayAll m time g packets
    pub ends : MayEnd m time ending (packets_after m time packets g).now.state (packets_after m time packets g).batch
    pub leads : b ≡ ending_after m time ending (packets_after m time packets g).batch (packets_after m time packets g).now
    pub answer : sent ≡ sent_out ending (transmit_with g.now.state (packets_after m time packets g).batch)
    pub bytes : buffer ≡ bytes_out m time ending (packets_after m time packets g).batch (packets_after m time packets g).now (packets_after m time packets g).out
    pub full : length buffer ≡ sent_size sent

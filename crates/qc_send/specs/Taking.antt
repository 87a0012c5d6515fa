-- Which frames this end takes for a packet, and in which order: the contract of a transmit has none of these words.
use Rattle.std.specs.Prelude.{◌≡◌, ℕ, ◌⊎◌, ◌||◌, Bool, true, false, List}
use Rattle.qc_base.specs.declared.side.SpaceId.{SpaceId}
use Rattle.qc_frame.specs.Frame.{FrameValue}
use Rattle.qc_base.specs.declared.side.SpaceId.TheVariants.{«Data»}
use Rattle.qc_state.specs.Acks.{is_ack_owed}
use Rattle.qc_state.specs.Datagrams.{AllOldest}
use Rattle.qc_state.specs.Ids.{AllNext}
use Rattle.qc_state.specs.Offers.{datagram_waits, wants_sending}
use Rattle.qc_state.specs.Sending.{Closes, holds_owed}
use Rattle.qc_state.specs.Spaces.{is_space, space_of}
use Rattle.qc_state.specs.StreamFrames.{sealed_steps}
use Rattle.qc_streams.specs.Steps.{AllMay}
use Rattle.qc_state.specs.Taking.{TakenPart}
use Rattle.qc_state.specs.Tokens.{AllIssued, made_by}
use Rattle.qc_state.specs.Types.{TokenMaker, Types}
use Rattle.std.specs.Net.Socket.{socket_ip}
use Rattle.qc_state.specs.View.{View}

module _ {t : Types} where
  -- an ACK is all that is owed in a space
  pub record OwesAckAlone (s : View t) (id : SpaceId) : Type 0 where
    pub owed : is_ack_owed (space_of s.waiting.spaces id).acks ≡ true
    pub alone : (wants_sending s id || datagram_waits id s) ≡ false

  -- the frames that this end takes at a time for a packet of this space with so much room: in a transmit that began with a close
  -- owed, the close alone, else frames that wait, those of the streams as steps that they may make, each DATAGRAM with the oldest datagram
  -- that was to be sent then, each frame about connection ids as the next one that waited then, and each NEW_TOKEN with a token that `maker`
  -- makes then; among them is something that the space owes, unless the packet is the first of its transmit, and an ACK is all that is owed
  pub data TakenNow (maker : TokenMaker t) (closing first : Bool) (time : ℕ) (s : View t) (id : SpaceId) (room : ℕ) (fs : List FrameValue) : Type 0 where
    a_close : closing ≡ true → Closes time s id room fs → TakenNow maker closing first time s id room fs
    what_waits : closing ≡ false → TakenPart time s.waiting.bundled (is_space id «Data») (space_of s.waiting.spaces id) room fs → AllMay (sealed_steps fs) s.lower.streams → AllOldest fs s.lower.datagrams →
        AllNext fs s.lower.ids → AllIssued (made_by maker s.issuer) (socket_ip s.paths.current.remote) fs (space_of s.waiting.spaces id) s.setup.random → (holds_owed s id fs ≡ true) ⊎ ((first ≡ true) × OwesAckAlone s id) → TakenNow maker closing first time s id room fs

-- Which frames may go: those that wait in a space, over all layers.
use Rattle.std.specs.Prelude.{◌≡◌, ℕ, ◌<◌, true, List, [], ◌∷◌, Some}
use Rattle.std.specs.Net.Socket.{socket_ip}
use Rattle.qc_base.specs.declared.side.SpaceId.{SpaceId}
use Rattle.qc_base.specs.declared.side.SpaceId.TheVariants.{«Data»}
use Rattle.qc_cids.specs.Cids.{next_retired, next_told}
use Rattle.qc_frame.specs.Frame.{FrameValue}
use Rattle.qc_frame.specs.FrameFits.{Fits}
use Rattle.qc_frame.specs.declared.frames.FrameOf.TheVariants as frames
use Rattle.qc_datagrams.specs.Queue.{first}
use Rattle.qc_state.specs.Acks.{SaysAck, is_ack_given}
use Rattle.qc_state.specs.Moves.{Take, state_move}
use Rattle.qc_state.specs.Spaces.{space_of}
use Rattle.qc_state.specs.StreamFrames.{part_of}
use Rattle.qc_streams.specs.Steps.{IsOffered, IsOwed}
use Rattle.qc_streams.specs.declared.control.Control.TheVariants as control
use Rattle.qc_state.specs.Tokens.{IsTokenOf, made_by}
use Rattle.qc_state.specs.Types.{TokenMaker, Types}
use Rattle.qc_state.specs.View.{View}
use Rattle.qc_state.specs.Waiting.{StartsWith}

module _ {t : Types} where
  -- a frame waits in a space at a time: the HANDSHAKE_DONE or the PING that was asked for, an ACK that may be given, or the first CRYPTO
  -- bytes; in 1-RTT packets also bytes of a stream that the streams offer, a frame without bytes that they owe, the oldest datagram that is
  -- to be sent, as far as their numbers have room in their fields, the id of this end with the lowest number that was given and not told,
  -- the lowest number of the peer's ids that is to be retired, and a token for the path's address, made with the words that are drawn next. A frame
  -- of another kind doesn't, until a layer offers it.
  unfoldable pub Waits : TokenMaker t → (time : ℕ) → View t → SpaceId → FrameValue → Type 0
  Waits maker time s id frames.HandshakeDone = (space_of s.waiting.spaces id).done ≡ true
  Waits maker time s id frames.Ping = (space_of s.waiting.spaces id).ping ≡ true
  Waits maker time s id (frames.Ack ack) = (is_ack_given time s.waiting.bundled (space_of s.waiting.spaces id).acks ≡ true) × SaysAck time (space_of s.waiting.spaces id) ack
  Waits maker time s id (frames.Crypto offset body) = StartsWith (space_of s.waiting.spaces id).crypto offset body
  Waits maker time s id frames.Padding = ⊥
  Waits maker time s id (frames.ResetStream stream code size) = (id ≡ «Data») × IsOwed (control.Reset stream code size) s.lower.streams × Fits (frames.ResetStream stream code size)
  Waits maker time s id (frames.StopSending stream code) = (id ≡ «Data») × IsOwed (control.Stop stream code) s.lower.streams × Fits (frames.StopSending stream code)
  Waits maker time s id (frames.NewToken token) =
      (id ≡ «Data») × (0 < (space_of s.waiting.spaces id).tokens) × IsTokenOf (made_by maker s.issuer) (socket_ip s.paths.current.remote) s.setup.random token × Fits (frames.NewToken token)
  Waits maker time s id (frames.Stream stream offset fin body) =
      (id ≡ «Data») × IsOffered (part_of stream offset fin body) s.lower.streams × Fits (frames.Stream stream offset fin body)
  Waits maker time s id (frames.MaxData limit) = (id ≡ «Data») × IsOwed (control.MaxData limit) s.lower.streams × Fits (frames.MaxData limit)
  Waits maker time s id (frames.MaxStreamData stream limit) = (id ≡ «Data») × IsOwed (control.MaxStreamData stream limit) s.lower.streams × Fits (frames.MaxStreamData stream limit)
  Waits maker time s id (frames.MaxStreams dir limit) = (id ≡ «Data») × IsOwed (control.MaxStreams dir limit) s.lower.streams × Fits (frames.MaxStreams dir limit)
  Waits maker time s id (frames.DataBlocked limit) = ⊥
  Waits maker time s id (frames.StreamDataBlocked stream limit) = ⊥
  Waits maker time s id (frames.StreamsBlocked dir limit) = ⊥
  Waits maker time s id (frames.NewConnectionId new) = (id ≡ «Data») × (next_told s.lower.ids ≡ Some new) × Fits (frames.NewConnectionId new)
  Waits maker time s id (frames.RetireConnectionId sequence) = (id ≡ «Data») × (next_retired s.lower.ids ≡ Some sequence)
  Waits maker time s id (frames.PathChallenge bits) = ⊥
  Waits maker time s id (frames.PathResponse bits) = ⊥
  Waits maker time s id (frames.ConnectionClose code type reason) = ⊥
  Waits maker time s id (frames.ApplicationClose code reason) = ⊥
  Waits maker time s id (frames.Datagram body) = (id ≡ «Data») × (first s.lower.datagrams.outgoing ≡ body ∷ []) × Fits (frames.Datagram body)

  -- each frame waits as its turn comes: those before it were taken, and wait no longer
  unfoldable pub WaitAll : TokenMaker t → (time : ℕ) → View t → SpaceId → List FrameValue → Type 0
  WaitAll maker time s id [] = Unit {0}
  WaitAll maker time s id (f ∷ fs) = Waits maker time s id f × WaitAll maker time (state_move (Take id (f ∷ [])) s) id fs

-- The frames that wait to be sealed in the waiting group itself, and what becomes of them. Of each kind of frame a table says what it
-- makes here: a frame that a layer below offers makes nothing.
use Rattle.std.specs.Prelude.{◌≡◌, ℕ, ◌+◌, ◌-◌, ◌<◌, ◌≤◌, ◌^◌, nat_lt, Bool, true, false, ◌||◌, ◌&&◌, not, ◌==◌, if◌then◌else◌, List, [], ◌∷◌, ◌++◌, length, drop, Option, None, Some, option_map, unwrap_or}
use Rattle.std.specs.List.{list_any}
use Rattle.qc_base.specs.declared.ecn.EcnCodepoint.{EcnCodepoint}
use Rattle.qc_base.specs.declared.side.SpaceId.{SpaceId}
use Rattle.qc_base.specs.declared.side.SpaceId.TheVariants.{Initial, «Data»}
use Rattle.qc_frame.specs.Frame.{FrameValue}
use Rattle.qc_frame.specs.declared.frames.EcnCounts.{EcnCounts}
use Rattle.qc_frame.specs.declared.frames.FrameOf.TheVariants as frames
use Rattle.qc_base.specs.Time.{plus}
use Rattle.qc_flight.specs.Packets.{Entry}
use Rattle.qc_path.specs.Acks.{acks_confirmed, acks_received, marks_expired, sets_delay}
use Rattle.qc_path.specs.Arrived.{Window}
use Rattle.qc_path.specs.declared.pending_acks.Arrival.{Arrival}
use Rattle.qc_recovery.specs.declared.calls.Fired.{Fired}
use Rattle.qc_recovery.specs.declared.calls.Fired.TheVariants as fired
use Rattle.qc_send_stream.specs.Buffer.{Buffer, bytes_written, discarded, from_lost, has_bytes, range_lost, range_sealed, row, waiting}
use Rattle.qc_space.specs.Spaces.{marked}
use Rattle.qc_state.specs.declared.spaces.Spaces.{Spaces}
use Rattle.qc_state.specs.declared.waiting.Waiting.{Waiting}
use Rattle.qc_state.specs.declared.waiting.SpaceWaiting.{SpaceWaiting}
use Rattle.qc_state.specs.Acks.{ack_sent, is_ack}
use Rattle.qc_state.specs.Spaces.{is_space, space_of, with_space}

-- bytes of the space's CRYPTO stream wait: lost ones or fresh ones
abbrev pub crypto_waits : SpaceWaiting → Bool
crypto_waits w = has_bytes (waiting w.crypto)

-- a frame waits here that elicits an acknowledgement, NEW_TOKENs aside
abbrev pub wants_here : SpaceWaiting → Bool
wants_here w = w.done || w.ping || crypto_waits w

-- a PING waits from now on
unfoldable pub ping_asked : Waiting → SpaceId → Waiting
ping_asked v id = record v { spaces = with_space v.spaces id (record (space_of v.spaces id) { ping = true }) }

-- a HANDSHAKE_DONE waits from now on; it is a frame of 1-RTT packets (RFC 9000, section 19.20)
unfoldable pub done_asked : Waiting → Waiting
done_asked v = record v { spaces = with_space v.spaces «Data» (record (space_of v.spaces «Data») { done = true }) }

-- so many NEW_TOKENs wait from now on in place of those that wait, where a number is given; they are frames of 1-RTT packets (RFC 9000, section
-- 19.7)
abbrev pub tokens_asked : Option ℕ → Waiting → Waiting
tokens_asked count v = record v { spaces = with_space v.spaces «Data» (record (space_of v.spaces «Data») { tokens = unwrap_or count (space_of v.spaces «Data»).tokens }) }

-- a frame of a packet that is lost waits again, where it waits here: a HANDSHAKE_DONE, the bytes of a CRYPTO frame, and a NEW_TOKEN, which is
-- another token then
abbrev pub again : SpaceWaiting → FrameValue → SpaceWaiting
again w frames.HandshakeDone = record w { done = true }
again w (frames.Crypto offset body) = record w { crypto = range_lost offset (offset + length body) w.crypto }
again w frames.Padding = w
again w frames.Ping = w
again w (frames.Ack ack) = w
again w (frames.ResetStream id code size) = w
again w (frames.StopSending id code) = w
again w (frames.NewToken token) = record w { tokens = plus w.tokens 1 }
again w (frames.Stream id offset fin body) = w
again w (frames.MaxData limit) = w
again w (frames.MaxStreamData id limit) = w
again w (frames.MaxStreams dir limit) = w
again w (frames.DataBlocked limit) = w
again w (frames.StreamDataBlocked id limit) = w
again w (frames.StreamsBlocked dir limit) = w
again w (frames.NewConnectionId cid) = w
again w (frames.RetireConnectionId sequence) = w
again w (frames.PathChallenge bits) = w
again w (frames.PathResponse bits) = w
again w (frames.ConnectionClose code type reason) = w
again w (frames.ApplicationClose code reason) = w
again w (frames.Datagram body) = w

-- so these frames do
abbrev pub all_again : SpaceWaiting → List FrameValue → SpaceWaiting
all_again w [] = w
all_again w (f ∷ fs) = all_again (again w f) fs

-- packets were lost: their frames wait again
abbrev pub lost_in : SpaceWaiting → List Entry → SpaceWaiting
lost_in w [] = w
lost_in w (e ∷ es) = lost_in (all_again w e.1.frames) es

-- a frame was acknowledged: the numbers of an ACK needn't be acknowledged again (RFC 9000, section 13.2.4); the others leave nothing
-- more to do here
abbrev pub confirmed : SpaceWaiting → FrameValue → SpaceWaiting
confirmed w (frames.Ack ack) = record w { acks = acks_confirmed ack.largest w.acks }
confirmed w frames.Padding = w
confirmed w frames.Ping = w
confirmed w (frames.ResetStream id code size) = w
confirmed w (frames.StopSending id code) = w
confirmed w (frames.Crypto offset body) = w
confirmed w (frames.NewToken token) = w
confirmed w (frames.Stream id offset fin body) = w
confirmed w (frames.MaxData limit) = w
confirmed w (frames.MaxStreamData id limit) = w
confirmed w (frames.MaxStreams dir limit) = w
confirmed w (frames.DataBlocked limit) = w
confirmed w (frames.StreamDataBlocked id limit) = w
confirmed w (frames.StreamsBlocked dir limit) = w
confirmed w (frames.NewConnectionId cid) = w
confirmed w (frames.RetireConnectionId sequence) = w
confirmed w (frames.PathChallenge bits) = w
confirmed w (frames.PathResponse bits) = w
confirmed w (frames.ConnectionClose code type reason) = w
confirmed w (frames.ApplicationClose code reason) = w
confirmed w frames.HandshakeDone = w
confirmed w (frames.Datagram body) = w

-- an acknowledged packet's frames are confirmed, one after the other
abbrev pub all_confirmed : SpaceWaiting → List FrameValue → SpaceWaiting
all_confirmed w [] = w
all_confirmed w (f ∷ fs) = all_confirmed (confirmed w f) fs

-- packets were acknowledged with their frames
abbrev pub acked_in : SpaceWaiting → List Entry → SpaceWaiting
acked_in w [] = w
acked_in w (e ∷ es) = acked_in (all_confirmed w e.1.frames) es

-- packets of the space were lost
unfoldable pub packets_lost : Waiting → SpaceId → (lost : List Entry) → Waiting
packets_lost v id lost = record v { spaces = with_space v.spaces id (lost_in (space_of v.spaces id) lost) }

-- packets of the space were acknowledged
unfoldable pub packets_acked : Waiting → SpaceId → (acked : List Entry) → Waiting
packets_acked v id acked = record v { spaces = with_space v.spaces id (acked_in (space_of v.spaces id) acked) }

-- probes are due in the space (RFC 9002, section 6.2.4)
unfoldable pub probes_added : Waiting → SpaceId → (count : ℕ) → Waiting
probes_added v id count = record v { spaces = with_space v.spaces id (record (space_of v.spaces id) { probes = plus (space_of v.spaces id).probes count }) }

-- the loss timer fired
abbrev pub fired_in : Waiting → Fired → Waiting
fired_in v (fired.Lost id lost) = packets_lost v id lost
fired_in v (fired.Probe id count) = probes_added v id count
fired_in v fired.Nothing = v

-- a probe that is due in the space is spent
unfoldable pub probe_spent : Waiting → SpaceId → Waiting
probe_spent v id = record v { spaces = with_space v.spaces id (record (space_of v.spaces id) { probes = (space_of v.spaces id).probes - 1 }) }

-- these frames of a packet wait again in its space
unfoldable pub frames_again : Waiting → SpaceId → List FrameValue → Waiting
frames_again v id fs = record v { spaces = with_space v.spaces id (all_again (space_of v.spaces id) fs) }

-- the counts of marks of a space begin with the first mark that comes on the connection: before it there are none
abbrev pub counts_begun : Option EcnCodepoint → Option EcnCounts → Option EcnCounts
counts_begun None counts = counts
counts_begun (Some mark) None = Some (record { ect0 = 0; ect1 = 0; ce = 0 })
counts_begun (Some mark) (Some counts) = Some counts

-- so they do in every space
abbrev pub marks_begun : Option EcnCodepoint → Spaces SpaceWaiting → Spaces SpaceWaiting
marks_begun mark v = record {
  initial = record v.initial { marks = counts_begun mark v.initial.marks };
  handshake = record v.handshake { marks = counts_begun mark v.handshake.marks };
  application = record v.application { marks = counts_begun mark v.application.marks };
}

-- a packet with this mark was accepted in a space with these counts
abbrev pub mark_counted : Option EcnCodepoint → Option EcnCounts → Option EcnCounts
mark_counted mark counts = option_map (λ c. marked c mark) (counts_begun mark counts)

-- a packet came in the space and was accepted, which `seen` has already; its mark of ECN is counted (RFC 9000, section 13.4.1)
unfoldable pub came_in : (in_data : Bool) → Window → Arrival → Option EcnCodepoint → SpaceWaiting → SpaceWaiting
came_in in_data seen arrival mark w = record w { acks = acks_received in_data seen arrival w.acks; marks = mark_counted mark w.marks }

-- such a packet's ACK is held back from now on, and wasn't before: a 1-RTT packet that elicits an ACK and leaves none owed (RFC
-- 9000, section 13.2.1)
unfoldable pub holds_back : Waiting → SpaceId → Window → Arrival → Bool
holds_back v id seen arrival = sets_delay (is_space id «Data») seen arrival (space_of v.spaces id).acks.marks

-- such a packet came: its mark counts in its own space, and with the first one the ACKs of every space have counts from then on;
-- where its ACK is held back, an ACK may be bundled with other frames at once
unfoldable pub packet_came : Waiting → SpaceId → Window → Arrival → Option EcnCodepoint → Waiting
packet_came v id seen arrival mark = record v {
  spaces = marks_begun mark (with_space v.spaces id (came_in (is_space id «Data») seen arrival mark (space_of v.spaces id)));
  bundled = if holds_back v id seen arrival then Some arrival.at else v.bundled;
}

-- the ACK that was held back is owed at last, where there is something to acknowledge
abbrev pub released : SpaceWaiting → SpaceWaiting
released w = record w { acks = record w.acks { marks = marks_expired (length w.acks.ranges == 0) w.acks.marks } }

-- so it is in the space of 1-RTT packets
unfoldable pub ack_released : Waiting → Waiting
ack_released v = record v { spaces = with_space v.spaces «Data» (released (space_of v.spaces «Data»)) }

-- a packet with these frames was sealed: with an ACK among them, another one may be bundled with other frames from `next` on
unfoldable pub bundle_next : Waiting → List FrameValue → (next : ℕ) → Waiting
bundle_next v fs next = if list_any is_ack fs then record v { bundled = Some next } else v

-- a close is owed from now on (RFC 9000, section 10.2)
unfoldable pub close_begun : Waiting → Waiting
close_begun v = record v { close_owed = true }

-- a packet was sealed; in the last of the spaces it ends the owing of a close
unfoldable pub packet_told : Waiting → (last : Bool) → Waiting
packet_told v last = record v { close_owed = v.close_owed && not last }

-- the session wrote bytes for a CRYPTO stream, where it has room for them: it ends at 2^62, and a session writes fewer bytes
unfoldable pub crypto_more : Buffer → List ℕ → Buffer
crypto_more b bytes = if nat_lt (b.written + length bytes) (2 ^ 62) then bytes_written bytes b else b

-- the session wrote bytes for the space's CRYPTO stream
unfoldable pub crypto_written : Waiting → SpaceId → List ℕ → Waiting
crypto_written v id bytes = record v { spaces = with_space v.spaces id (record (space_of v.spaces id) { crypto = crypto_more (space_of v.spaces id).crypto bytes }) }

-- nothing waits in a space whose keys were dropped
unfoldable pub nothing_left : SpaceWaiting → SpaceWaiting
nothing_left w = record w { done = false; ping = false; crypto = discarded w.crypto; tokens = 0; probes = 0 }

-- the keys of the space were dropped
unfoldable pub space_left : Waiting → SpaceId → Waiting
space_left v id = record v { spaces = with_space v.spaces id (nothing_left (space_of v.spaces id)) }

-- all CRYPTO bytes of the space wait again from the first one on, each once, and nothing else does that elicits an acknowledgement
unfoldable pub bytes_again : SpaceWaiting → SpaceWaiting
bytes_again w = record w { ping = false; crypto = range_lost 0 w.crypto.sent w.crypto; probes = 0 }

-- a client's hello waits again in the Initial space, which begins anew (RFC 9000, section 17.2.5.2)
unfoldable pub hello_again : Waiting → Waiting
hello_again v = record v { spaces = with_space v.spaces Initial (bytes_again (space_of v.spaces Initial)) }

-- a frame that is sealed waits no longer, where it waited here
unfoldable pub without : SpaceWaiting → FrameValue → SpaceWaiting
without w frames.HandshakeDone = record w { done = false }
without w frames.Ping = record w { ping = false }
without w (frames.Ack ack) = record w { acks = ack_sent w.acks }
without w (frames.Crypto offset body) = record w { crypto = range_sealed offset (offset + length body) w.crypto }
without w frames.Padding = w
without w (frames.ResetStream id code size) = w
without w (frames.StopSending id code) = w
without w (frames.NewToken token) = record w { tokens = w.tokens - 1 }
without w (frames.Stream id offset fin body) = w
without w (frames.MaxData limit) = w
without w (frames.MaxStreamData id limit) = w
without w (frames.MaxStreams dir limit) = w
without w (frames.DataBlocked limit) = w
without w (frames.StreamDataBlocked id limit) = w
without w (frames.StreamsBlocked dir limit) = w
without w (frames.NewConnectionId cid) = w
without w (frames.RetireConnectionId sequence) = w
without w (frames.PathChallenge bits) = w
without w (frames.PathResponse bits) = w
without w (frames.ConnectionClose code type reason) = w
without w (frames.ApplicationClose code reason) = w
without w (frames.Datagram body) = w

-- the bytes of a CRYPTO frame are those that wait first: lost ones before fresh ones, the lowest of them first, and at least one
pub record StartsWith (b : Buffer) (offset : ℕ) (body : List ℕ) : Type 0 where
  pub some : 0 < length body
  pub first : waiting b ≡ row (has_bytes (from_lost b.kept)) offset body ++ drop (length body) (waiting b)
  pub within : offset + length body ≤ b.written

-- what waits once these frames are sealed
unfoldable pub without_all : SpaceWaiting → List FrameValue → SpaceWaiting
without_all w [] = w
without_all w (f ∷ fs) = without_all (without w f) fs

-- these frames were sealed in the space
unfoldable pub waiting_without : Waiting → SpaceId → List FrameValue → Waiting
waiting_without v id fs = record v { spaces = with_space v.spaces id (without_all (space_of v.spaces id) fs) }

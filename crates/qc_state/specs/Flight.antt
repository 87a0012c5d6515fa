-- Packets in flight (RFC 9002, section 2): what is kept of a packet that was sealed.
use Rattle.std.specs.Prelude.{ℕ, Bool, true, false, ◌||◌, List, [], ◌∷◌, ◌++◌, length, None}
use Rattle.std.specs.List.{list_any}
use Rattle.qc_base.specs.Time.{plus}
use Rattle.qc_flight.specs.declared.sent.SentPacket.{SentPacket}
use Rattle.qc_flight.specs.declared.stream_frames.StreamMeta.{StreamMeta}
use Rattle.qc_frame.specs.Frame.{FrameValue, AckValue}
use Rattle.qc_frame.specs.FrameSpelling.{elicits}
use Rattle.qc_frame.specs.declared.frames.FrameOf.TheVariants as frames

-- of an ACK its greatest number alone is kept
abbrev pub greatest_alone : AckValue → AckValue
greatest_alone ack = record { largest = ack.largest; delay = 0; additional = []; ecn = None }

-- whether a frame that is kept whole holds numbers and an id alone: it is one of streams without bytes, or about connection ids
abbrev pub has_numbers_alone : FrameValue → Bool
has_numbers_alone (frames.ResetStream id code size) = true
has_numbers_alone (frames.StopSending id code) = true
has_numbers_alone (frames.MaxData limit) = true
has_numbers_alone (frames.MaxStreamData id limit) = true
has_numbers_alone (frames.MaxStreams dir limit) = true
has_numbers_alone (frames.NewConnectionId new) = true
has_numbers_alone (frames.RetireConnectionId sequence) = true
has_numbers_alone _ = false

-- Each CRYPTO byte that was written waits, is in flight, or was acknowledged (RFC 9000, section 13.3). What is kept of a frame while its packet is in
-- flight: frames that are sent again where it is lost, but for STREAM, and which numbers an ACK acknowledged; of a NEW_TOKEN that it was one, since
-- another token is made then
abbrev pub kept_of : FrameValue → List FrameValue
kept_of frames.HandshakeDone = frames.HandshakeDone ∷ []
kept_of (frames.Crypto offset body) = frames.Crypto offset body ∷ []
kept_of (frames.Ack ack) = frames.Ack (greatest_alone ack) ∷ []
kept_of frames.Padding = []
kept_of frames.Ping = []
kept_of (frames.ResetStream id code size) = frames.ResetStream id code size ∷ []
kept_of (frames.StopSending id code) = frames.StopSending id code ∷ []
kept_of (frames.NewToken token) = frames.NewToken [] ∷ []
kept_of (frames.Stream id offset fin body) = []
kept_of (frames.MaxData limit) = frames.MaxData limit ∷ []
kept_of (frames.MaxStreamData id limit) = frames.MaxStreamData id limit ∷ []
kept_of (frames.MaxStreams dir limit) = frames.MaxStreams dir limit ∷ []
kept_of (frames.DataBlocked limit) = []
kept_of (frames.StreamDataBlocked id limit) = []
kept_of (frames.StreamsBlocked dir limit) = []
kept_of (frames.NewConnectionId cid) = frames.NewConnectionId cid ∷ []
kept_of (frames.RetireConnectionId sequence) = frames.RetireConnectionId sequence ∷ []
kept_of (frames.PathChallenge bits) = []
kept_of (frames.PathResponse bits) = []
kept_of (frames.ConnectionClose code type reason) = []
kept_of (frames.ApplicationClose code reason) = []
kept_of (frames.Datagram body) = []

-- what is kept of frames
abbrev pub kept_frames : List FrameValue → List FrameValue
kept_frames [] = []
kept_frames (f ∷ fs) = kept_of f ++ kept_frames fs

-- of a STREAM frame only which bytes of the stream it holds is kept, and whether the end is with them
abbrev pub meta_of : FrameValue → List StreamMeta
meta_of (frames.Stream id offset fin body) = record { id = id; start = offset; end = plus offset (length body); fin = fin } ∷ []
meta_of _ = []

-- so of the STREAM frames among frames
abbrev pub metas_of : List FrameValue → List StreamMeta
metas_of [] = []
metas_of (f ∷ fs) = meta_of f ++ metas_of fs

-- whether a frame is PADDING
abbrev pub is_padding : FrameValue → Bool
is_padding frames.Padding = true
is_padding _ = false

-- a packet with these frames counts as in flight: one elicits an acknowledgement, or is PADDING
unfoldable pub counts_in_flight : List FrameValue → Bool
counts_in_flight fs = list_any elicits fs || list_any is_padding fs

-- what is kept of a packet of this size with these frames, which was sealed at this time
unfoldable pub flown_packet : (time size : ℕ) → List FrameValue → SentPacket
flown_packet time size fs = record {
  at = time;
  size = size;
  counted = counts_in_flight fs;
  ack_eliciting = list_any elicits fs;
  frames = kept_frames fs;
  stream_frames = metas_of fs;
  new_token = None;
}

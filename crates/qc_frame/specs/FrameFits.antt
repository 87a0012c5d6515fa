-- Frames whose spelling is read back
use Rattle.std.specs.Prelude.{◌≡◌, ℕ, ◌+◌, ◌-◌, ◌<◌, ◌≤◌, ◌^◌, List, [], ◌∷◌, length, Option, None, Some}
use Rattle.std.specs.List.{flat_map}
use Rattle.qc_base.specs.Varint.{IsNumber, varint}
use Rattle.qc_frame.specs.Frame.{FrameValue, TypedValue}
use Rattle.qc_frame.specs.FrameSpelling.{frame_type, last_type, numbers_of}
use Rattle.qc_frame.specs.declared.frames.EcnCounts.{EcnCounts}
use Rattle.qc_frame.specs.declared.frames.FrameOf.TheVariants as frames

-- each of them is a number that a variable-length integer has room for
abbrev pub AllNumbers : List ℕ → Type 0
AllNumbers [] = Unit {0}
AllNumbers (n ∷ ns) = IsNumber n × AllNumbers ns

-- a gap and a length each, with no range below 0 (RFC 9000, section 19.3.1)
abbrev pub MoreRangesFit : ℕ → List ℕ → Type 0
MoreRangesFit smallest [] = Unit {0}
MoreRangesFit smallest (gap ∷ []) = ⊥
MoreRangesFit smallest (gap ∷ len ∷ others) = (gap + 2 ≤ smallest) × (len ≤ smallest - (gap + 2)) × MoreRangesFit (smallest - (gap + 2) - len) others

-- the first range's length, and then the others below it
abbrev pub RangesFit : ℕ → List ℕ → Type 0
RangesFit largest [] = ⊥
RangesFit largest (first ∷ others) = (first ≤ largest) × MoreRangesFit (largest - first) others

-- each count has room in its field
abbrev pub CountsFit : Option EcnCounts → Type 0
CountsFit None = Unit {0}
CountsFit (Some counts) = IsNumber counts.ect0 × IsNumber counts.ect1 × IsNumber counts.ce

-- a frame type, where there is one, isn't 0, which stands for none
abbrev pub TypeFits : Option ℕ → Type 0
TypeFits None = Unit {0}
TypeFits (Some ty) = (0 < ty) × IsNumber ty

-- each number has room in its field
unfoldable pub Fits : FrameValue → Type 0
Fits frames.Padding = Unit {0}
Fits frames.Ping = Unit {0}
Fits (frames.Ack ack) = IsNumber ack.largest × IsNumber ack.delay × RangesFit ack.largest (numbers_of ack.additional) × CountsFit ack.ecn
Fits (frames.ResetStream id code size) = IsNumber id × IsNumber code × IsNumber size
Fits (frames.StopSending id code) = IsNumber id × IsNumber code
Fits (frames.Crypto offset body) = IsNumber offset × IsNumber (length body)
Fits (frames.NewToken token) = IsNumber (length token)
Fits (frames.Stream id offset fin body) = IsNumber id × IsNumber offset × IsNumber (length body)
Fits (frames.MaxData limit) = IsNumber limit
Fits (frames.MaxStreamData id offset) = IsNumber id × IsNumber offset
Fits (frames.MaxStreams dir count) = IsNumber count
Fits (frames.DataBlocked offset) = IsNumber offset
Fits (frames.StreamDataBlocked id offset) = IsNumber id × IsNumber offset
Fits (frames.StreamsBlocked dir limit) = IsNumber limit
Fits (frames.NewConnectionId new) = IsNumber new.sequence × (new.retire_prior_to ≤ new.sequence) × (0 < length new.id) × (length new.id ≤ 20) × (length new.reset_token ≡ 16)
Fits (frames.RetireConnectionId sequence) = IsNumber sequence
Fits (frames.PathChallenge word) = word < 2 ^ 64
Fits (frames.PathResponse word) = word < 2 ^ 64
Fits (frames.ConnectionClose code ty reason) = IsNumber code × TypeFits ty × IsNumber (length reason)
Fits (frames.ApplicationClose code reason) = IsNumber code × IsNumber (length reason)
Fits frames.HandshakeDone = Unit {0}
Fits (frames.Datagram body) = IsNumber (length body)

-- the same frame, the numbers of an ACK's ranges in their shortest form
abbrev pub shortest : FrameValue → FrameValue
shortest (frames.Ack ack) = frames.Ack (record { largest = ack.largest; delay = ack.delay; additional = flat_map varint (numbers_of ack.additional); ecn = ack.ecn })
shortest f = f

-- what is read where a frame was written: its type, and the frame
abbrev pub as_written : FrameValue → TypedValue
as_written f = record { ty = frame_type f; frame = shortest f }

-- the same where it was written as the last frame of a packet
abbrev pub last_as_written : FrameValue → TypedValue
last_as_written f = record { ty = last_type f; frame = shortest f }

-- the same for each of them
abbrev pub AllFit : List FrameValue → Type 0
AllFit [] = Unit {0}
AllFit (f ∷ fs) = Fits f × AllFit fs

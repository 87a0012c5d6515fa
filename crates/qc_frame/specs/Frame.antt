-- A frame as a value (RFC 9000, section 19): each byte string is the list of its bytes
use Rattle.std.specs.Prelude.{ℕ, List}
use Rattle.std.specs.Borrow.{Bor}
use Rattle.qc_frame.specs.declared.frames.AckOf.{AckOf}
use Rattle.qc_frame.specs.declared.frames.FrameOf.{FrameOf}
use Rattle.qc_frame.specs.declared.frames.TypedOf.{TypedOf}
use Rattle.qc_frame.specs.declared.frames.FrameOf.TheVariants as frames

-- a frame whose byte strings are lists
abbrev pub FrameValue : Type 0
FrameValue = FrameOf (List ℕ)

-- an ACK whose ranges are spelled by a list of bytes
abbrev pub AckValue : Type 0
AckValue = AckOf (List ℕ)

-- a frame and the type that it came with
abbrev pub TypedValue : Type 0
TypedValue = TypedOf (List ℕ)

-- the same ACK, each of its byte strings changed by f
abbrev pub ack_map : {A B : Type 0} → (A → B) → AckOf A → AckOf B
ack_map f a = record { largest = a.largest; delay = a.delay; additional = f a.additional; ecn = a.ecn }

-- the same frame, each of its byte strings changed by f
abbrev pub frame_map : {A B : Type 0} → (A → B) → FrameOf A → FrameOf B
frame_map f frames.Padding = frames.Padding
frame_map f frames.Ping = frames.Ping
frame_map f (frames.Ack a) = frames.Ack (ack_map f a)
frame_map f (frames.ResetStream i e n) = frames.ResetStream i e n
frame_map f (frames.StopSending i e) = frames.StopSending i e
frame_map f (frames.Crypto o b) = frames.Crypto o (f b)
frame_map f (frames.NewToken b) = frames.NewToken (f b)
frame_map f (frames.Stream i o fin b) = frames.Stream i o fin (f b)
frame_map f (frames.MaxData n) = frames.MaxData n
frame_map f (frames.MaxStreamData i n) = frames.MaxStreamData i n
frame_map f (frames.MaxStreams d n) = frames.MaxStreams d n
frame_map f (frames.DataBlocked n) = frames.DataBlocked n
frame_map f (frames.StreamDataBlocked i n) = frames.StreamDataBlocked i n
frame_map f (frames.StreamsBlocked d n) = frames.StreamsBlocked d n
frame_map f (frames.NewConnectionId c) = frames.NewConnectionId c
frame_map f (frames.RetireConnectionId n) = frames.RetireConnectionId n
frame_map f (frames.PathChallenge w) = frames.PathChallenge w
frame_map f (frames.PathResponse w) = frames.PathResponse w
frame_map f (frames.ConnectionClose e t b) = frames.ConnectionClose e t (f b)
frame_map f (frames.ApplicationClose e b) = frames.ApplicationClose e (f b)
frame_map f frames.HandshakeDone = frames.HandshakeDone
frame_map f (frames.Datagram b) = frames.Datagram (f b)

-- the value of a frame that borrows its byte strings
abbrev pub borrowed : FrameOf (Bor (List ℕ)) → FrameValue
borrowed = frame_map (λ b. b.now)

-- the value of a frame that has byte strings of its own
abbrev pub owned : FrameOf (List ℕ) → FrameValue
owned = frame_map (λ b. b)

-- the value of a frame that was read, and its type
abbrev pub typed : TypedOf (Bor (List ℕ)) → TypedValue
typed t = record { ty = t.ty; frame = borrowed t.frame }

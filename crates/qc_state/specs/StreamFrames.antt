-- The frames of streams in packets that this end seals: which of the streams' own steps they are as they are sealed, as their packet is
-- acknowledged, and as it is lost (RFC 9000, sections 2.2, 3.1 and 13.3). Of a STREAM frame no bytes are kept in flight, only which they are.
use Rattle.std.specs.Prelude.{ℕ, Bool, List, [], ◌∷◌, ◌++◌, map, Option, None, Some}
use Rattle.qc_base.specs.declared.side.SpaceId.{SpaceId}
use Rattle.qc_base.specs.declared.side.SpaceId.TheVariants.{«Data»}
use Rattle.qc_flight.specs.Packets.{Entry}
use Rattle.qc_flight.specs.declared.sent.SentPacket.{SentPacket}
use Rattle.qc_flight.specs.declared.stream_frames.StreamMeta.{StreamMeta}
use Rattle.qc_frame.specs.Frame.{FrameValue}
use Rattle.qc_frame.specs.declared.frames.FrameOf.TheVariants as frames
use Rattle.qc_recovery.specs.declared.calls.Fired.{Fired}
use Rattle.qc_recovery.specs.declared.calls.Fired.TheVariants as fired
use Rattle.qc_streams.specs.declared.control.Control.{Control}
use Rattle.qc_streams.specs.declared.control.Control.TheVariants as control
use Rattle.qc_streams.specs.declared.parts.StreamPart.{StreamPart}
use Rattle.qc_streams.specs.Waits.{Step, MarksFiled, ControlSealed, ControlLost, ControlAcked, PartSealed, BytesLost, BytesAcked}

-- ---- which frames are theirs

-- a frame of the streams without bytes, if it is one
abbrev pub control_of : FrameValue → Option Control
control_of (frames.ResetStream id code size) = Some (control.Reset id code size)
control_of (frames.StopSending id code) = Some (control.Stop id code)
control_of (frames.MaxData limit) = Some (control.MaxData limit)
control_of (frames.MaxStreamData id limit) = Some (control.MaxStreamData id limit)
control_of (frames.MaxStreams dir limit) = Some (control.MaxStreams dir limit)
control_of _ = None

-- the part of a stream that a STREAM frame holds
abbrev pub part_of : (id offset : ℕ) → (fin : Bool) → (body : List ℕ) → StreamPart
part_of id offset fin body = record { id = id; part = record { offset = offset; bytes = body; last = fin } }

-- of a frame without bytes that is theirs a step, of any other none
abbrev pub control_step : (Control → Step) → Option Control → List Step
control_step x None = []
control_step x (Some c) = x c ∷ []

-- ---- sealed

-- the step of the streams with which a frame is sealed, where it is theirs
abbrev pub sealed_step : FrameValue → List Step
sealed_step (frames.Stream id offset fin body) = PartSealed (part_of id offset fin body) ∷ []
sealed_step f = control_step ControlSealed (control_of f)

-- those of all frames of a packet, in their order
unfoldable pub sealed_steps : List FrameValue → List Step
sealed_steps [] = []
sealed_steps (f ∷ fs) = sealed_step f ++ sealed_steps fs

-- as a packet of the space of 1-RTT packets is begun, the streams that may owe something are looked at
abbrev pub filed_steps : SpaceId → List Step
filed_steps «Data» = MarksFiled ∷ []
filed_steps _ = []

-- ---- acknowledged

-- a STREAM frame is acknowledged
abbrev pub meta_acked : StreamMeta → Step
meta_acked meta = BytesAcked meta.id meta.start meta.end meta.fin

-- frames without bytes are acknowledged
abbrev pub controls_acked : List FrameValue → List Step
controls_acked [] = []
controls_acked (f ∷ fs) = control_step ControlAcked (control_of f) ++ controls_acked fs

-- a packet is acknowledged, with its frames in their order
abbrev pub packet_acked : SentPacket → List Step
packet_acked packet = controls_acked packet.frames ++ map meta_acked packet.stream_frames

-- the steps of packets that are acknowledged, one after the other
unfoldable pub acked_steps : List Entry → List Step
acked_steps [] = []
acked_steps (e ∷ es) = packet_acked e.1 ++ acked_steps es

-- ---- lost

-- a STREAM frame is lost
abbrev pub meta_lost : StreamMeta → Step
meta_lost meta = BytesLost meta.id meta.start meta.end meta.fin

-- frames without bytes are lost
abbrev pub controls_lost : List FrameValue → List Step
controls_lost [] = []
controls_lost (f ∷ fs) = control_step ControlLost (control_of f) ++ controls_lost fs

-- a packet is lost, with its frames in their order
unfoldable pub packet_lost : SentPacket → List Step
packet_lost packet = controls_lost packet.frames ++ map meta_lost packet.stream_frames

-- What lost packets held of streams goes again, as far as it isn't acknowledged (RFC 9000, section 13.3): the steps of packets that are
-- lost, one after the other
unfoldable pub lost_steps : List Entry → List Step
lost_steps [] = []
lost_steps (e ∷ es) = packet_lost e.1 ++ lost_steps es

-- what the loss timer does as it fires
abbrev pub fired_steps : Fired → List Step
fired_steps (fired.Lost id lost) = lost_steps lost
fired_steps (fired.Probe id count) = []
fired_steps fired.Nothing = []

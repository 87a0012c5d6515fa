-- What a layer was given: bytes, or a frame.
use Rattle.std.specs.Prelude.{ℕ, List}
use Rattle.qc_frame.specs.Frame.{owned}
use Rattle.qc_frame.specs.FrameSpelling.{spelling}
use Rattle.qc_state.specs.declared.given.Part.{Part}
use Rattle.qc_state.specs.declared.given.Part.TheVariants.{Bytes, Frame}

-- its bytes: the bytes themselves, or the spelling of the frame
abbrev pub written : Part → List ℕ
written (Bytes bytes) = bytes.items
written (Frame frame) = spelling (owned frame)

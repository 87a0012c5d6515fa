-- The STREAM frames of a packet, as they are held.
use Rattle.std.specs.Prelude.{List, [], ◌∷◌, Option, None, Some}
use Rattle.qc_flight.specs.declared.stream_frames.StreamMeta.{StreamMeta}

-- one that is alone, or several
abbrev pub frames_held : Option StreamMeta → (several : List StreamMeta) → List StreamMeta
frames_held None several = several
frames_held (Some one) several = one ∷ []

-- Payloads of frames whose spelling is read back.
use Rattle.std.specs.Prelude.{◌≡◌, ℕ, ◌+◌, List, [], ◌∷◌, ◌++◌, length, Ok, Err}
use Rattle.qc_frame.specs.Frame.{FrameValue}
use Rattle.qc_frame.specs.FrameFits.{Fits, AllFit}
use Rattle.qc_frame.specs.FrameSpelling.{spelling, frames_spelling}
use Rattle.qc_frame.specs.Payload.{Item}

-- the bytes gained the spelling of one frame whose numbers have room in their fields
pub record GainsFrame (old new : List ℕ) : Type 0 where
  pub frame : FrameValue
  pub fits : Fits frame
  pub appended : new ≡ old ++ spelling frame

-- the bytes are the spelling of so many frames
pub record SpellsFrames (count : ℕ) (bytes : List ℕ) : Type 0 where
  pub frames : List FrameValue
  pub number : length frames ≡ count
  pub fit : AllFit frames
  pub spelled : bytes ≡ frames_spelling frames

-- how many of the items of a payload are frames
abbrev pub frames_among : List Item → ℕ
frames_among [] = 0
frames_among (Ok frame ∷ items) = 1 + frames_among items
frames_among (Err fault ∷ items) = frames_among items

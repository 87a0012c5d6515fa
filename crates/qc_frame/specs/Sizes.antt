-- How long frames are
use Rattle.std.specs.Prelude.{◌≡◌, ℕ, ◌<◌, ◌≤◌, List, [], length, take}
use Rattle.qc_frame.specs.Frame.{FrameValue}
use Rattle.qc_frame.specs.FrameSpelling.{spelling}

-- what is kept of the reason is its longest front with which the frame that closes the connection has at most `room` bytes;
-- nothing is kept where not even the frame without a reason has
pub record IsLongestReason (close : List ℕ → FrameValue) (reason : List ℕ) (room : ℕ) (kept : List ℕ) : Type 0 where
  pub front : kept ≡ take (length kept) reason
  pub fits : length (spelling (close [])) ≤ room → length (spelling (close kept)) ≤ room
  pub nothing : room < length (spelling (close [])) → kept ≡ []
  pub longest : (n : ℕ) → n ≤ length reason → length (spelling (close (take n reason))) ≤ room → n ≤ length kept

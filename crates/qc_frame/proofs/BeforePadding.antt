-- PADDING at the end changes nothing of what a packet asks for.
use Rattle.std.proofs.Common.{◌≡◌, ℕ, zero, suc, List, [], ◌∷◌, ◌++◌, replicate, ◌||◌, refl, ap}
use Rattle.std.specs.List.{list_any}
use Rattle.qc_frame.specs.Frame.{FrameValue}
use Rattle.qc_frame.specs.FrameSpelling.{elicits}
use Rattle.qc_frame.specs.declared.frames.FrameOf.TheVariants.{Padding}

pub none_in_padding : (n : ℕ) → list_any elicits (replicate n Padding) ≡ list_any elicits []
unfolding elicits
none_in_padding zero = refl
none_in_padding (suc n) = none_in_padding n

pub any_before_padding : (fs : List FrameValue) (n : ℕ) → list_any elicits (fs ++ replicate n Padding) ≡ list_any elicits fs
any_before_padding [] n = none_in_padding n
any_before_padding (f ∷ fs) n = ap (λ b. elicits f || b) (any_before_padding fs n)

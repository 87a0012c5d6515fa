-- Values in the range of their types.
use Rattle.std.proofs.Common.{◌≡◌, ℕ, zero, suc, true, List, ◌++◌, map, replicate, arith}
use Rattle.std.specs.List.{All}
use Rattle.std.proofs.lemmas.Bool.{false≢true}
use Rattle.std.proofs.lemmas.List.Elements.{All-append, All-map, All-replicate}
use Rattle.qc_base.specs.Grammar.{IsBytes}
use Rattle.qc_base.specs.Varint.{varint}
use Rattle.qc_frame.specs.Frame.{FrameValue, owned}
use Rattle.qc_frame.specs.FrameSpelling.{spelling}
use Rattle.qc_frame.specs.declared.frames.FrameOf.TheVariants as frames
use Rattle.qc_text.specs.TraceText.{is_padding}
use Rattle.qc_text.proofs.TextLemmas.{FrameOwned}

one_byte : IsBytes (spelling frames.Padding)
unfolding spelling varint
one_byte zero = omega arith
one_byte (suc i) = omega arith

pub padding_in_range : (f : FrameValue) → is_padding f ≡ true → IsBytes (spelling f)
padding_in_range frames.Padding h = one_byte
padding_in_range _ h = absurd (false≢true h)

abbrev pub IsOwnedInRange : FrameOwned → Type 0
IsOwnedInRange frame = IsBytes (spelling (owned frame))

-- frames, and so many PADDING frames behind them
pub padded_in_range : (fs : List FrameOwned) (n : ℕ) → All IsOwnedInRange fs → All (λ f. IsBytes (spelling f)) (map owned fs ++ replicate n frames.Padding)
padded_in_range fs n h =
    All-append (λ (f : FrameValue). IsBytes (spelling f)) (map owned fs) (replicate n frames.Padding)
    (All-map (λ (f : FrameValue). IsBytes (spelling f)) owned fs h) (All-replicate (λ (f : FrameValue). IsBytes (spelling f)) n frames.Padding one_byte)

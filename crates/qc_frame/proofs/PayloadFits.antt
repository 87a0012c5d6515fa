-- The frames of a payload have room in their fields
use Rattle.std.proofs.Common.{ℕ, List, [], length, IfOk, Result, Ok, Err, arith}
use Rattle.std.specs.List.{All}
use Rattle.std.proofs.lemmas.List.Elements.{All-nil, All-cons}
use Rattle.qc_base.specs.Reading.{Gives}
use Rattle.qc_base.specs.Grammar.{IsBytes}
use Rattle.qc_base.specs.Varint.{IsNumber}
use Rattle.qc_frame.specs.Frame.{TypedValue}
use Rattle.qc_frame.specs.FrameFits.{Fits}
use Rattle.qc_frame.specs.FrameGrammar.{FrameAt, Payload}
use Rattle.qc_frame.specs.FrameGrammar as grammar
use Rattle.qc_frame.specs.Payload.{Item, items_of}
use Rattle.qc_frame.specs.FrameReading.{frame_at}
use Rattle.qc_frame.specs.declared.fault.InvalidFrame.{InvalidFrame}
use Rattle.qc_frame.proofs.FrontFrame.{frame_again, frame_shorter, frame_takes}
use Rattle.qc_frame.proofs.Payloads.{items_meet}
use Rattle.qc_frame.proofs.ReadFits.{read_fits}

abbrev ItemFits : Item → Type 0
ItemFits item = IfOk item (λ read. Fits read.frame)

payload_fits : (items : List Item) (a : List ℕ) → IsNumber (length a) → Payload items a → All ItemFits items
payload_fits _ _ size grammar.no_more = All-nil ItemFits
payload_fits _ _ size (grammar.frame_and f a z others front behind) =
    let less = frame_shorter a f z (frame_again a f z front) in
    All-cons ItemFits (Ok f) others (read_fits f a z size front) (payload_fits others z (omega (arith, less)) behind)
payload_fits _ _ size (grammar.fault invalid a some none) = All-cons ItemFits (Err invalid) [] tt (All-nil ItemFits)

pub items_fit : (a : List ℕ) → IsBytes a → IsNumber (length a) → All (λ item. IfOk item (λ read. Fits read.frame)) (items_of a)
items_fit a h size = payload_fits (items_of a) a size (items_meet a h)

pub gives_fits : {A : Type 0} (view : A → TypedValue × List ℕ) (r : Result A InvalidFrame) (a : List ℕ) → IsBytes a → IsNumber (length a) → Gives view r (frame_at a)
    → IfOk r (λ x. Fits (view x).0.frame)
gives_fits view (Ok x) a h size g = read_fits (view x).0 a (view x).1 size (frame_takes a (view x).0 (view x).1 h g)
gives_fits view (Err invalid) a h size g = tt

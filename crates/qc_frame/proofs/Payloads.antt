-- The items of a payload are what the grammar says
use Rattle.std.proofs.Common.{◌≡◌, ℕ, zero, suc, ◌<◌, ◌≤◌, List, [], ◌∷◌, length, map, Option, None, Some, Result, Ok, Err, refl, sym, ap, ◌∙◌, arith}
use Rattle.std.specs.Result.{result_ok}
use Rattle.qc_base.specs.Grammar.{IsBytes}
use Rattle.qc_base.proofs.Exact.{ends_bytes}
use Rattle.qc_frame.specs.Frame.{TypedValue}
use Rattle.qc_frame.specs.FrameReading.{frame_at}
use Rattle.qc_frame.specs.FrameGrammar.{Payload, NoFrameAt}
use Rattle.qc_frame.specs.FrameGrammar as grammar
use Rattle.qc_frame.specs.Payload.{Item, item_and, items_within, items_of}
use Rattle.qc_frame.specs.declared.fault.InvalidFrame.{InvalidFrame}
use Rattle.qc_frame.proofs.FrontFrame.{frame_again, frame_takes, frame_none, frame_shorter, frame_ends}
use Rattle.qc_frame.proofs.Items.{items_none, items_frame, items_fault}

item_meets : (a : List ℕ) (others : List ℕ → List Item) (v : Result (TypedValue × List ℕ) InvalidFrame) → IsBytes a → 0 < length a → frame_at a ≡ v
    → ((f : TypedValue) (z : List ℕ) → frame_at a ≡ Ok (f, z) → Payload (others z) z) → Payload (item_and v others) a
item_meets a others (Ok x) h some is rest = grammar.frame_and x.0 a x.1 (others x.1) (frame_takes a x.0 x.1 h is) (rest x.0 x.1 is)
item_meets a others (Err invalid) h some is rest = grammar.fault invalid a some (frame_none a invalid h is)

within_meets : (most : ℕ) (a : List ℕ) → IsBytes a → length a ≤ most → Payload (items_within most a) a
within_meets zero [] h fits = grammar.no_more
within_meets zero (b ∷ a) h fits = absurd (omega arith)
within_meets (suc most) [] h fits = grammar.no_more
within_meets (suc most) (b ∷ a) h fits =
    item_meets (b ∷ a) (items_within most) (frame_at (b ∷ a)) h (omega arith) refl
    (λ f z e. let less = frame_shorter (b ∷ a) f z e in within_meets most z (ends_bytes (b ∷ a) z (frame_ends (b ∷ a) f z e) h) (omega (arith, less)))

pub items_meet : (a : List ℕ) → IsBytes a → Payload (items_of a) a
unfolding items_of
items_meet a h = within_meets (length a) a h (omega arith)

-- ---- the grammar allows no other frames

only_fault : (a : List ℕ) (v : Result (TypedValue × List ℕ) InvalidFrame) (ty : Option ℕ) → frame_at a ≡ v → IsBytes a → 0 < length a → NoFrameAt a ty
    → None ∷ [] ≡ map result_ok (items_of a)
only_fault a (Ok x) ty is h some none = absurd (none.none x.0 x.1 (frame_takes a x.0 x.1 h is))
only_fault a (Err invalid) ty is h some none = ap (λ (items : List Item). map result_ok items) (sym (items_fault a invalid some is))

pub items_only : (items : List Item) (a : List ℕ) → IsBytes a → Payload items a → map result_ok items ≡ map result_ok (items_of a)
items_only _ _ h grammar.no_more = ap (λ (items : List Item). map result_ok items) (sym (items_none [] refl))
items_only _ _ h (grammar.frame_and f a z others front behind) =
    let is = frame_again a f z front in
    let less = frame_shorter a f z is in
    ap (λ (fs : List (Option TypedValue)). Some f ∷ fs) (items_only others z (ends_bytes a z (frame_ends a f z is) h) behind)
    ∙ ap (λ (items : List Item). map result_ok items) (sym (items_frame a f z (omega arith) is))
items_only _ _ h (grammar.fault invalid a some none) = only_fault a (frame_at a) invalid.ty refl h some none

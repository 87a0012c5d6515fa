-- Payloads (RFC 9000, section 12.4): frames, one after the other, to the end or the first bytes that are no frame
use Rattle.std.specs.Prelude.{ℕ, zero, suc, List, [], ◌∷◌, ◌++◌, length, map, Option, None, Some, Result, Ok, Err}
use Rattle.std.specs.Borrow.{Bor}
use Rattle.qc_frame.specs.Frame.{FrameValue, TypedValue, typed}
use Rattle.qc_frame.specs.FrameReading.{frame_at}
use Rattle.qc_frame.specs.declared.fault.InvalidFrame.{InvalidFrame}
use Rattle.qc_frame.specs.declared.frames.FrameOf.TheVariants.{Padding}
use Rattle.qc_frame.specs.declared.frames.TypedOf.{TypedOf}

-- a frame and its type, or the fault that ends the payload
abbrev pub Item : Type 0
Item = Result TypedValue InvalidFrame

-- a PADDING frame whose type is spelled by one byte, which is 0
abbrev pub padding_item : Item
padding_item = Ok (record { ty = 0x00; frame = Padding })

-- an item, and behind a frame what `others` makes of the bytes that are left
abbrev pub item_and : Result (TypedValue × List ℕ) InvalidFrame → (List ℕ → List Item) → List Item
item_and (Ok frame) others = Ok frame.0 ∷ others frame.1
item_and (Err fault) others = Err fault ∷ []

-- the first items, at most so many
abbrev pub items_within : ℕ → List ℕ → List Item
items_within zero bytes = []
items_within (suc most) [] = []
items_within (suc most) (b ∷ bytes) = item_and (frame_at (b ∷ bytes)) (items_within most)

-- the items of a payload, which has no more of them than bytes
unfoldable pub items_of : List ℕ → List Item
items_of bytes = items_within (length bytes) bytes

-- an item that a function returned
abbrev pub item_view : Result (TypedOf (Bor (List ℕ))) InvalidFrame → Item
item_view (Ok read) = Ok (typed read)
item_view (Err fault) = Err fault

-- an item, without the type that its frame came with
abbrev pub untyped : Item → Result FrameValue InvalidFrame
untyped (Ok read) = Ok read.frame
untyped (Err fault) = Err fault

-- frames, and the fault behind them, if there is one
abbrev pub with_fault : List FrameValue → Option InvalidFrame → List (Result FrameValue InvalidFrame)
with_fault frames None = map Ok frames
with_fault frames (Some fault) = map Ok frames ++ Err fault ∷ []

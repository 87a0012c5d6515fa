-- How many bytes the frames that are taken have, and the packet with them.
use Rattle.std.proofs.Common.{◌≡◌, ℕ, ◌+◌, ◌-◌, ◌≤◌, List, [], ◌∷◌, length, length-append, ap, ◌∙◌, Bool, true, false, if◌then◌else◌, Option, Some, None, arith}
use Rattle.std.specs.Prelude.{unwrap_or}
use Rattle.qc_base.specs.declared.side.SpaceId.{SpaceId}
use Rattle.qc_base.specs.declared.side.SpaceId.TheVariants.{Initial, Handshake, «Data»}
use Rattle.qc_frame.specs.Frame.{FrameValue}
use Rattle.qc_frame.specs.FrameSpelling.{spelling, frames_spelling}
use Rattle.qc_frame.specs.declared.frames.FrameOf.TheVariants.{Padding}
use Rattle.qc_frame.specs.declared.frames.FrameOf.TheVariants as frames
use Rattle.qc_frame.specs.Sizes.{IsLongestReason}
use Rattle.qc_frame.proofs.Lengths.{varint_size_max, length_type, length-connection_close, length-application_close}
use Rattle.qc_state.specs.declared.form.Form.{Form}
use Rattle.qc_state.specs.Acks.{may_acknowledge}
use Rattle.qc_state.specs.Life.{is_closed}
use Rattle.qc_state.specs.declared.life.Close.{Close}
use Rattle.qc_state.specs.declared.life.Close.TheVariants.{Connection, Application}
use Rattle.qc_header.specs.HeaderSpelling.{header_spelling}
use Rattle.qc_state.specs.Sending.{close_frame, told_code, told_type, told_application_code, application_close, told_close, closing_frame, IsKeptReason, Closes, header_in, room_of}
use Rattle.qc_state.specs.Spaces.{is_space, space_of}
use Rattle.qc_state.specs.Types.{TokenMaker, Types}
use Rattle.qc_state.specs.View.{View}
use Rattle.qc_send.proofs.Waits.{taken_fits, ack_fits, bytes_append}
use Rattle.qc_send.specs.Taking.{TakenNow}

-- a close without a reason is short
close_short : (code : ℕ) (type : Option ℕ) → length (frames_spelling (close_frame code type ∷ [])) ≤ 18
close_short code type = omega (arith, length-append (spelling (close_frame code type)) [], length-connection_close code type [], varint_size_max code, varint_size_max (unwrap_or type 0), length_type 0 (omega arith))

-- the application's close fits with the reason that is kept
application_fits : (code room : ℕ) (reason kept : List ℕ) → IsLongestReason (frames.ApplicationClose code) reason room kept → 25 ≤ room → length (frames_spelling (frames.ApplicationClose code kept ∷ [])) ≤ room
application_fits code room reason kept longest r =
    let alone : length (spelling (frames.ApplicationClose code [])) ≤ room = omega (arith, length-application_close code [], varint_size_max code, length_type 0 (omega arith)) in
    omega (arith, length-append (spelling (frames.ApplicationClose code kept)) [], longest.fits alone)

-- and in each space
application_fits_in : (id : SpaceId) (code room : ℕ) (reason kept : List ℕ) → IsLongestReason (frames.ApplicationClose (told_application_code code)) reason room kept → 25 ≤ room → length (frames_spelling (application_close id code kept ∷ [])) ≤ room
application_fits_in Initial code room reason kept longest r = omega (arith, close_short 0x0c None)
application_fits_in Handshake code room reason kept longest r = omega (arith, close_short 0x0c None)
application_fits_in Data code room reason kept longest r = application_fits (told_application_code code) room reason kept longest r

-- so does the one that is sent
closing_fits : (id : SpaceId) (room : ℕ) (kept : List ℕ) (b : Bool) (c : Option Close) → IsKeptReason room kept c → 25 ≤ room → length (frames_spelling ((if b then told_close id kept c else close_frame 0x00 None) ∷ [])) ≤ room
closing_fits id room kept true None reason r = omega (arith, close_short 0x00 None)
closing_fits id room kept true (Some (Connection c)) reason r = omega (arith, close_short (told_code c.error_code) (told_type c.frame_type))
closing_fits id room kept true (Some (Application c)) reason r = application_fits_in id c.error_code room c.reason kept reason r
closing_fits id room kept false c reason r = omega (arith, close_short 0x00 None)

-- an ACK and the close fit into the room
close_fits : {t : Types} (time : ℕ) (s : View t) (space : SpaceId) (room : ℕ) (fs : List FrameValue) → Closes time s space room fs → 25 ≤ room → length (frames_spelling fs) ≤ room
close_fits time s space room fs (Closes.closing acks part kept reason is) wide =
    let acks_short : length (frames_spelling acks) ≤ room - 25 = ack_fits time (room - 25) (space_of s.waiting.spaces space) acks (may_acknowledge (space_of s.waiting.spaces space).acks) part in
    let whole : length (frames_spelling fs) ≡ length (frames_spelling acks) + length (frames_spelling (closing_frame space kept s.life ∷ [])) =
    ap (λ (x : List FrameValue). length (frames_spelling x)) is ∙ bytes_append acks (closing_frame space kept s.life ∷ []) in
    let close : length (frames_spelling (closing_frame space kept s.life ∷ [])) ≤ room - length (frames_spelling acks) =
    closing_fits space (room - length (frames_spelling acks)) kept (is_closed s.life.state) s.life.close reason (omega (arith, acks_short, wide)) in
    omega (arith, acks_short, whole, close, wide)

-- the frames that are taken fit into the room
pub now_fits : {t : Types} {maker : TokenMaker t} (closing first : Bool) (time : ℕ) (s : View t) (id : SpaceId) (room : ℕ) (fs : List FrameValue) → TakenNow maker closing first time s id room fs → 25 ≤ room → length (frames_spelling fs) ≤ room
now_fits closing first time s id room fs (TakenNow.a_close e closes) wide = close_fits time s id room fs closes wide
now_fits closing first time s id room fs (TakenNow.what_waits e taken may oldest next issued some) wide =
    taken_fits time s.waiting.bundled (is_space id «Data») (space_of s.waiting.spaces id) room fs taken (omega arith)

-- and behind the header
pub room_holds : {t : Types} (left : ℕ) (s : View t) (form : Form) (bytes : ℕ) → 25 ≤ room_of left s form → bytes ≤ room_of left s form →
    (length (header_spelling (header_in s form) 0) + 41 ≤ left) × (length (header_spelling (header_in s form) 0) + bytes + 16 ≤ left)
unfolding room_of
room_holds left s form bytes wide fits = (omega (arith, wide), omega (arith, wide, fits))

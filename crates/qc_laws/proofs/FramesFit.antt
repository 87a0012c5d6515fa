-- The frames of a packet that is sealed fit their fields, where each CRYPTO stream is no longer than an offset tells.
use Rattle.std.proofs.Common.{◌≡◌, ℕ, ◌+◌, ◌-◌, ◌<◌, ◌≤◌, ◌^◌, Bool, true, false, List, [], ◌∷◌, ◌++◌, length, replicate, zero, suc, refl, ap, sym, ◌∙◌, subst, length-append, arith, if◌then◌else◌, ◌||◌, ◌==◌, nat_lt, nat_le, Option, Some, None}
use Rattle.std.proofs.lemmas.Bool.Decides.{nat_tests}
use Rattle.qc_base.specs.declared.side.SpaceId.{SpaceId}
use Rattle.qc_base.specs.declared.side.SpaceId.TheVariants.{Initial, Handshake, «Data»}
use Rattle.qc_frame.specs.Frame.{FrameValue}
use Rattle.qc_frame.specs.FrameFits.{AllFit, Fits, TypeFits}
use Rattle.qc_frame.specs.FrameSpelling.{frames_spelling, spelling}
use Rattle.qc_frame.specs.Sizes.{IsLongestReason}
use Rattle.qc_frame.specs.declared.frames.FrameOf.TheVariants as frames
use Rattle.qc_state.specs.declared.life.Close.{Close}
use Rattle.qc_state.specs.declared.life.Close.TheVariants.{Connection, Application}
use Rattle.qc_state.specs.declared.form.Form.{Form}
use Rattle.qc_state.specs.declared.waiting.SpaceWaiting.{SpaceWaiting}
use Rattle.qc_state.specs.Acks.{AckPart}
use Rattle.qc_state.specs.Allowed.{WaitAll, Waits}
use Rattle.qc_state.specs.Forms.{number_space}
use Rattle.qc_state.specs.Life.{is_closed}
use Rattle.qc_state.specs.Moves.{Take, state_move}
use Rattle.qc_state.specs.Sending.{Carries, Closes, IsKeptReason, application_close, close_frame, closing_frame, told_application_code, told_close, told_code, told_type}
use Rattle.qc_state.specs.Spaces.{space_of}
use Rattle.qc_state.specs.Types.{TokenMaker, Types}
use Rattle.qc_state.specs.View.{View}
use Rattle.qc_state.specs.Waiting.{without_all}
use Rattle.qc_state.proofs.IdsTaken.{retired_fits}
use Rattle.qc_state.proofs.Probed.{taken_space}
use Rattle.qc_laws.proofs.CryptoBuffers.{all_stays}

-- ---- lists of frames

fit_both : (fs gs : List FrameValue) → AllFit fs → AllFit gs → AllFit (fs ++ gs)
fit_both [] gs h k = k
fit_both (f ∷ fs) gs h k = (h.0, fit_both fs gs h.1 k)

padding_fits : (n : ℕ) → AllFit (replicate n frames.Padding)
unfolding Fits
padding_fits zero = tt
padding_fits (suc n) = (tt, padding_fits n)

-- PADDING behind frames leaves that they fit
padded_fit : (n : ℕ) (fs gs : List FrameValue) → fs ≡ gs ++ replicate n frames.Padding → AllFit gs → AllFit fs
padded_fit n fs gs is h = subst (λ (xs : List FrameValue). AllFit xs) (sym is) (fit_both gs (replicate n frames.Padding) h (padding_fits n))

-- ---- the close

code_small : (code : ℕ) → told_code code < 2 ^ 62
code_small code = by_test (nat_lt code (2 ^ 62)) refl
  where
    by_test : (b : Bool) → nat_lt code (2 ^ 62) ≡ b → (if b then code else 0x01) < 2 ^ 62
    by_test true e = grind (arith, nat_tests)
    by_test false e = omega arith

application_code_small : (code : ℕ) → told_application_code code < 2 ^ 62
application_code_small code = by_test (nat_lt code (2 ^ 62)) refl
  where
    by_test : (b : Bool) → nat_lt code (2 ^ 62) ≡ b → (if b then code else 0) < 2 ^ 62
    by_test true e = grind (arith, nat_tests)
    by_test false e = omega arith

type_fits : (type : Option ℕ) → TypeFits (told_type type)
type_fits None = tt
type_fits (Some type) = by_tests (type == 0) (nat_le (2 ^ 62) type) refl refl
  where
    by_tests : (a b : Bool) → (type == 0) ≡ a → nat_le (2 ^ 62) type ≡ b → TypeFits (if a || b then None else Some type)
    by_tests true b e f = tt
    by_tests false true e f = tt
    by_tests false false e f = (grind (arith, nat_tests), grind (arith, nat_tests))

-- a reason has no more bytes than its frame
reason_within : (code : ℕ) (kept : List ℕ) → length kept ≤ length (spelling (frames.ApplicationClose code kept))
unfolding spelling
reason_within code kept = simp length-append (omega arith)

kept_small : (code room : ℕ) (reason kept : List ℕ) → room < 2 ^ 62 → IsLongestReason (frames.ApplicationClose code) reason room kept → length kept < 2 ^ 62
kept_small code room reason kept small is = by_room (nat_le (length (spelling (frames.ApplicationClose code []))) room) refl
  where
    by_room : (b : Bool) → nat_le (length (spelling (frames.ApplicationClose code []))) room ≡ b → length kept < 2 ^ 62
    by_room true e =
        let fits : length (spelling (frames.ApplicationClose code [])) ≤ room = grind (arith, nat_tests) in
        omega (arith, small, reason_within code kept, is.fits fits)
    by_room false e =
        let none : kept ≡ [] = is.nothing (grind (arith, nat_tests)) in
        omega (arith, ap length none)

close_fits : (code : ℕ) (type : Option ℕ) → Fits (close_frame (told_code code) (told_type type))
unfolding Fits
close_fits code type = (code_small code, type_fits type, omega arith)

application_fits : (id : SpaceId) (code : ℕ) (kept : List ℕ) → length kept < 2 ^ 62 → Fits (application_close id code kept)
unfolding Fits
application_fits Initial code kept small = (omega arith, tt, omega arith)
application_fits Handshake code kept small = (omega arith, tt, omega arith)
application_fits Data code kept small = (application_code_small code, small)

told_fits : (id : SpaceId) (kept : List ℕ) (room : ℕ) (close : Option Close) → room < 2 ^ 62 → IsKeptReason room kept close → Fits (told_close id kept close)
unfolding Fits
told_fits id kept room None small is = (omega arith, tt, omega arith)
told_fits id kept room (Some (Connection c)) small is = close_fits c.error_code c.frame_type
told_fits id kept room (Some (Application c)) small is = application_fits id c.error_code kept (kept_small (told_application_code c.error_code) room c.reason kept small is)

closing_fits : (id : SpaceId) (kept : List ℕ) (room : ℕ) (b : Bool) (close : Option Close) → room < 2 ^ 62 → IsKeptReason room kept close → Fits (if b then told_close id kept close else close_frame 0x00 None)
unfolding Fits
closing_fits id kept room true close small is = told_fits id kept room close small is
closing_fits id kept room false close small is = (omega arith, tt, omega arith)

ack_fits : (time : ℕ) (w : SpaceWaiting) (room : ℕ) (fs : List FrameValue) (due : Bool) → AckPart time w room fs due → AllFit fs
ack_fits time w room fs true (AckPart.one ack says few is) = subst (λ (xs : List FrameValue). AllFit xs) (sym is) (says.fits, tt)
ack_fits time w room fs true (AckPart.left_out ack says long is) = subst (λ (xs : List FrameValue). AllFit xs) (sym is) tt
ack_fits time w room fs false (AckPart.none is) = subst (λ (xs : List FrameValue). AllFit xs) (sym is) tt

-- CRYPTO bytes that wait lie within their stream
crypto_fits : (written offset len : ℕ) → written < 2 ^ 62 → 0 < len → offset + len ≤ written → (offset < 2 ^ 62) × (len < 2 ^ 62)
crypto_fits written offset len small some within = (omega arith, omega arith)

module _ {t : Types} where
  -- ---- frames that wait

  abbrev HasRoom : View t → SpaceId → Type 0
  HasRoom s id = (space_of s.waiting.spaces id).crypto.written < 2 ^ 62

  -- a frame that is taken leaves the stream as long
  taken_room : (s : View t) (id : SpaceId) (f : FrameValue) → HasRoom s id → HasRoom (state_move (Take id (f ∷ [])) s) id
  unfolding without_all
  taken_room s id f small =
      subst (λ (n : ℕ). n < 2 ^ 62) (sym (ap (λ (w : SpaceWaiting). w.crypto.written) (taken_space id f s) ∙ (all_stays (space_of s.waiting.spaces id) (f ∷ [])).written)) small

  -- ---- a packet that holds a close

  closes_fit : (time : ℕ) (s : View t) (id : SpaceId) (room : ℕ) (fs : List FrameValue) → room < 2 ^ 62 → Closes time s id room fs → AllFit fs
  closes_fit time s id room fs small (Closes.closing acks part kept reason is) =
      subst (λ (xs : List FrameValue). AllFit xs) (sym is)
      (fit_both acks (closing_frame id kept s.life ∷ []) (ack_fits time (space_of s.waiting.spaces id) _ acks _ part)
      (closing_fits id kept (room - length (frames_spelling acks)) (is_closed s.life.state) s.life.close (omega (arith, small)) reason, tt))

module _ {t : Types} (maker : TokenMaker t) where
  waits_fits : (time : ℕ) (s : View t) (id : SpaceId) (f : FrameValue) → HasRoom s id → Waits maker time s id f → Fits f
  unfolding Waits Fits
  waits_fits time s id frames.HandshakeDone small w = tt
  waits_fits time s id frames.Ping small w = tt
  waits_fits time s id (frames.Ack ack) small w = w.1.fits
  waits_fits time s id (frames.Crypto offset body) small w = crypto_fits (space_of s.waiting.spaces id).crypto.written offset (length body) small w.some w.within
  waits_fits time s id frames.Padding small w = tt
  waits_fits time s id (frames.ResetStream stream code size) small w = w.2
  waits_fits time s id (frames.StopSending stream code) small w = w.2
  waits_fits time s id (frames.NewToken token) small w = w.3
  waits_fits time s id (frames.Stream stream offset fin body) small w = w.2
  waits_fits time s id (frames.MaxData limit) small w = w.2
  waits_fits time s id (frames.MaxStreamData stream limit) small w = w.2
  waits_fits time s id (frames.MaxStreams dir limit) small w = w.2
  waits_fits time s id (frames.DataBlocked limit) small w = absurd w
  waits_fits time s id (frames.StreamDataBlocked stream limit) small w = absurd w
  waits_fits time s id (frames.StreamsBlocked dir limit) small w = absurd w
  waits_fits time s id (frames.NewConnectionId new) small w = w.2
  waits_fits time s id (frames.RetireConnectionId sequence) small w = retired_fits s.lower.ids sequence w.1
  waits_fits time s id (frames.PathChallenge bits) small w = absurd w
  waits_fits time s id (frames.PathResponse bits) small w = absurd w
  waits_fits time s id (frames.ConnectionClose code type reason) small w = absurd w
  waits_fits time s id (frames.ApplicationClose code reason) small w = absurd w
  waits_fits time s id (frames.Datagram body) small w = w.2

  wait_fit : (time : ℕ) (s : View t) (id : SpaceId) (fs : List FrameValue) → HasRoom s id → WaitAll maker time s id fs → AllFit fs
  unfolding WaitAll
  wait_fit time s id [] small w = tt
  wait_fit time s id (f ∷ fs) small w = (waits_fits time s id f small w.0, wait_fit time (state_move (Take id (f ∷ [])) s) id fs (taken_room s id f small) w.1)

  -- whatever a packet carries
  pub carried_fit : (closing : Bool) (time : ℕ) (s : View t) (form : Form) (room : ℕ) (fs : List FrameValue) → room < 2 ^ 62 → (space_of s.waiting.spaces (number_space form)).crypto.written < 2 ^ 62 →
      Carries maker closing time s form room fs → AllFit fs
  carried_fit closing time s form room fs small long (Carries.a_close owed gs n closes is) = padded_fit n fs gs is (closes_fit time s (number_space form) room gs small closes)
  carried_fit closing time s form room fs small long (Carries.what_waits free gs n wait is) = padded_fit n fs gs is (wait_fit time s (number_space form) gs long wait)

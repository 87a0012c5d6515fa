-- Over a run what is fixed of a connection stays, and no CRYPTO stream grows longer than an offset tells.
use Rattle.std.proofs.Common.{◌≡◌, ℕ, ◌+◌, ◌-◌, ◌<◌, ◌^◌, Bool, true, false, List, [], ◌∷◌, length, nat_lt, if◌then◌else◌, refl, ap, sym, ◌∙◌, subst, arith}
use Rattle.std.proofs.lemmas.Bool.Decides.{nat_tests}
use Rattle.std.specs.List.{list_any}
use Rattle.qc_base.specs.Time.{plus}
use Rattle.qc_base.specs.declared.side.SpaceId.{SpaceId}
use Rattle.qc_base.specs.declared.side.SpaceId.TheVariants.{Initial, Handshake, «Data»}
use Rattle.qc_flight.specs.Packets.{Entry}
use Rattle.qc_frame.specs.Frame.{FrameValue}
use Rattle.qc_path.specs.Arrived.{arrived}
use Rattle.rand_core.specs.Stream.{Stream}
use Rattle.qc_recovery.specs.declared.calls.Fired.{Fired}
use Rattle.qc_recovery.specs.declared.calls.Fired.TheVariants as fired
use Rattle.qc_send_stream.specs.Buffer.{Buffer, bytes_written, discarded, range_lost}
use Rattle.qc_state.specs.declared.form.Form.{Form}
use Rattle.qc_state.specs.declared.input.Input.{Input}
use Rattle.qc_state.specs.declared.setup.Setup.{Setup}
use Rattle.qc_state.specs.declared.spaces.Spaces.{Spaces}
use Rattle.qc_state.specs.declared.trace.Step.{Step}
use Rattle.qc_state.specs.declared.waiting.SpaceWaiting.{SpaceWaiting}
use Rattle.qc_state.specs.declared.waiting.Waiting.{Waiting}
use Rattle.qc_state.specs.Acks.{is_ack}
use Rattle.qc_state.specs.Forms.{number_space}
use Rattle.qc_state.specs.Moves.{Accept, Ack, Ask, Begin, Clock, Confirm, Expect, Fire, Forget, Learn, MayMove, Move, Release, Seal, Skip, Take, Write, arrival_of, move_to, setup_move, state_move, waiting_move, Renew}
use Rattle.qc_state.specs.Numbers as numbers
use Rattle.qc_state.specs.Numbers.{next_number}
use Rattle.qc_state.specs.Offers.{packet_begun}
use Rattle.qc_state.specs.Run.{IsStep, Run, began, called, reported, step_after, time_of}
use Rattle.qc_state.specs.Sending.{packet_size}
use Rattle.qc_state.specs.Setup.{packet_drawn, parameters_known, token_expected, word_drawn, retry_taken}
use Rattle.qc_state.specs.Spaces.{is_space, space_of, with_space}
use Rattle.qc_state.specs.Tokens.{asked_tokens}
use Rattle.qc_state.specs.Types.{Types, Meaning}
use Rattle.qc_state.specs.View.{View, At}
use Rattle.qc_state.specs.Waiting.{ack_released, acked_in, all_again, bundle_next, came_in, close_begun, crypto_more, crypto_written, done_asked, fired_in, frames_again, lost_in, marks_begun, nothing_left, packet_came, packet_told, packets_acked, packets_lost, ping_asked, probe_spent, probes_added, released, space_left, tokens_asked, waiting_without, without_all, bytes_again, hello_again}
use Rattle.qc_state.proofs.Probed.{begun_holds}
use Rattle.qc_state.proofs.Transmitted.{IsSealable}
use Rattle.qc_laws.specs.SealLaws.{KeepsFields}
use Rattle.qc_laws.proofs.CryptoBuffers.{all_again_more, all_stays, lost_in_more}
use Rattle.qc_laws.proofs.CryptoPlaces.{acked_crypto, bundled_spaces, came_crypto}
use Rattle.qc_laws.proofs.KnownMoves.{IsKnownMove, known_input}
use Rattle.qc_laws.proofs.TokensAsked.{asked_crypto}

-- ---- CRYPTO streams in their places

abbrev IsShort : SpaceWaiting → Type 0
IsShort w = w.crypto.written < 2 ^ 62

-- they stay so where the one that is put in its place does
put_short : (id space : SpaceId) (v : Spaces SpaceWaiting) (w : SpaceWaiting) → (IsShort (space_of v space) → IsShort w) → IsShort (space_of v id) → IsShort (space_of (with_space v space w) id)
put_short Initial Initial v w change h = change h
put_short Initial Handshake v w change h = h
put_short Initial Data v w change h = h
put_short Handshake Initial v w change h = h
put_short Handshake Handshake v w change h = change h
put_short Handshake Data v w change h = h
put_short Data Initial v w change h = h
put_short Data Handshake v w change h = h
put_short Data Data v w change h = change h

as_long : (v w : SpaceWaiting) → w.crypto.written ≡ v.crypto.written → IsShort v → IsShort w
as_long v w is h = subst (λ (n : ℕ). n < 2 ^ 62) (sym is) h

more_short : (w : SpaceWaiting) (bytes : List ℕ) → IsShort w → IsShort (record w { crypto = crypto_more w.crypto bytes })
unfolding crypto_more bytes_written
more_short w bytes h = by_room (nat_lt (w.crypto.written + length bytes) (2 ^ 62)) refl
  where
    by_room : (b : Bool) → nat_lt (w.crypto.written + length bytes) (2 ^ 62) ≡ b → (if b then bytes_written bytes w.crypto else w.crypto).written < 2 ^ 62
    by_room true e = grind (arith, nat_tests)
    by_room false e = h

fired_short : (v : Waiting) (f : Fired) (id : SpaceId) → IsShort (space_of v.spaces id) → IsShort (space_of (fired_in v f).spaces id)
unfolding packets_lost probes_added
fired_short v (fired.Lost space lost) id h = put_short id space v.spaces (lost_in (space_of v.spaces space) lost) (as_long (space_of v.spaces space) (lost_in (space_of v.spaces space) lost) (lost_in_more (space_of v.spaces space) lost).written) h
fired_short v (fired.Probe space count) id h = put_short id space v.spaces (record (space_of v.spaces space) { probes = plus (space_of v.spaces space).probes count }) (λ x. x) h
fired_short v fired.Nothing id h = h

settled_short : (v : Waiting) (space : SpaceId) (acked lost : List Entry) (id : SpaceId) → IsShort (space_of v.spaces id) → IsShort (space_of (packets_lost (packets_acked v space acked) space lost).spaces id)
unfolding packets_lost packets_acked
settled_short v space acked lost id h =
    let first : SpaceWaiting = acked_in (space_of v.spaces space) acked in
    let u : Spaces SpaceWaiting = with_space v.spaces space first in
    put_short id space u (lost_in (space_of u space) lost) (as_long (space_of u space) (lost_in (space_of u space) lost) (lost_in_more (space_of u space) lost).written)
    (put_short id space v.spaces first (as_long (space_of v.spaces space) first (ap (λ (b : Buffer). b.written) (acked_crypto (space_of v.spaces space) acked))) h)

sealed_short : (v : Waiting) (space : SpaceId) (fs : List FrameValue) (last : Bool) (next : ℕ) (id : SpaceId) → IsShort (space_of v.spaces id) → IsShort (space_of (bundle_next (packet_told (waiting_without v space fs) last) fs next).spaces id)
unfolding bundle_next packet_told waiting_without
sealed_short v space fs last next id h =
    subst (λ (w : Spaces SpaceWaiting). IsShort (space_of w id)) (sym (bundled_spaces _ next (list_any is_ack fs)))
    (put_short id space v.spaces (without_all (space_of v.spaces space) fs) (as_long (space_of v.spaces space) (without_all (space_of v.spaces space) fs) (all_stays (space_of v.spaces space) fs).written) h)

module _ {t : Types} where
  begun_short : (space : SpaceId) (opens : Bool) (s : View t) (id : SpaceId) → IsShort (space_of s.waiting.spaces id) → IsShort (space_of (packet_begun space opens s).waiting.spaces id)
  unfolding probe_spent frames_again ping_asked
  begun_short space opens s id h =
      begun_holds (λ (v : Waiting). IsShort (space_of v.spaces id))
      (λ w other k. put_short id other w.spaces (record (space_of w.spaces other) { probes = (space_of w.spaces other).probes - 1 }) (λ x. x) k)
      (λ w other fs k. put_short id other w.spaces (all_again (space_of w.spaces other) fs) (as_long (space_of w.spaces other) (all_again (space_of w.spaces other) fs) (all_again_more (space_of w.spaces other) fs).written) k)
      (λ w other k. put_short id other w.spaces (record (space_of w.spaces other) { ping = true }) (λ x. x) k)
      space opens s h

  -- ---- moves

  pub move_fixed : (x : Move t) (s : View t) → (setup_move x s).fixed ≡ s.setup.fixed
  unfolding setup_move token_expected parameters_known word_drawn packet_drawn retry_taken
  move_fixed (Expect token) s = refl
  move_fixed (Learn parameters) s = refl
  move_fixed Skip s = refl
  move_fixed (Seal time form n size fs) s = refl
  move_fixed _ s = refl

  move_short : (m : Meaning t) (x : Move t) (s : View t) (id : SpaceId) → IsKnownMove m x s → IsShort (space_of s.waiting.spaces id) → IsShort (space_of (waiting_move x s).spaces id)
  unfolding waiting_move ping_asked packet_came came_in done_asked ack_released close_begun space_left nothing_left discarded crypto_written hello_again bytes_again range_lost
  move_short m (Clock time) s id k h = absurd k
  move_short m (Take space fs) s id k h = absurd k
  move_short m (Seal time form n size fs) s id k h = absurd k
  move_short m (Ask space) s id k h = put_short id space s.waiting.spaces (record (space_of s.waiting.spaces space) { ping = true }) (λ x. x) h
  move_short m (Begin space opens) s id k h = begun_short space opens s id h
  move_short m (Forget space) s id k h = put_short id space s.waiting.spaces (nothing_left (space_of s.waiting.spaces space)) (λ x. x) h
  move_short m (Renew time cid token keys) s id k h = put_short id Initial s.waiting.spaces (bytes_again (space_of s.waiting.spaces Initial)) (λ x. x) h
  move_short m (Accept time space n e g v) s id k h =
      let w : SpaceWaiting = came_in (is_space space «Data») (arrived n (numbers.came_in s.numbers space)) (arrival_of time n e g) g.mark (space_of s.waiting.spaces space) in
      let came : Waiting = packet_came s.waiting space (arrived n (numbers.came_in s.numbers space)) (arrival_of time n e g) g.mark in
      as_long (space_of came.spaces id) (space_of (tokens_asked (asked_tokens space v s.issuer) came).spaces id) (ap (λ (b : Buffer). b.written) (asked_crypto id (asked_tokens space v s.issuer) came))
      (as_long (space_of (with_space s.waiting.spaces space w) id) (space_of (marks_begun g.mark (with_space s.waiting.spaces space w)) id) (ap (λ (b : Buffer). b.written) (came_crypto g.mark (with_space s.waiting.spaces space w) id)) (put_short id space s.waiting.spaces w (λ x. x) h))
  move_short m (Write bytes keys session) s id k h =
      put_short id s.keys.highest s.waiting.spaces (record (space_of s.waiting.spaces s.keys.highest) { crypto = crypto_more (space_of s.waiting.spaces s.keys.highest).crypto bytes }) (more_short (space_of s.waiting.spaces s.keys.highest) bytes) h
  move_short m Confirm s id k h = put_short id «Data» s.waiting.spaces (record (space_of s.waiting.spaces «Data») { done = true }) (λ x. x) h
  move_short m (Ack space n after) s id k h = settled_short s.waiting space after.acked after.lost id h
  move_short m (Fire after) s id k h = fired_short s.waiting after.fired id h
  move_short m Release s id k h = put_short id «Data» s.waiting.spaces (released (space_of s.waiting.spaces «Data»)) (λ x. x) h
  move_short m _ s id k h = h

  -- ---- runs

  abbrev FieldsOver : At t → At t → Type 0
  FieldsOver a b = KeepsFields a.state b.state

  fields_here : (s : View t) → KeepsFields s s
  fields_here s = record { fixed = refl; crypto = λ id h. h }

  fields_next : (u v w : View t) → KeepsFields u v → KeepsFields v w → KeepsFields u w
  fields_next u v w g h = record { fixed = h.fixed ∙ g.fixed; crypto = λ id k. h.crypto id (g.crypto id k) }

  known_fields : (m : Meaning t) (x : Move t) (a : At t) → IsKnownMove m x a.state → MayMove x a.state → FieldsOver a (move_to x a)
  unfolding move_to state_move
  known_fields m x a known may = record { fixed = move_fixed x a.state; crypto = λ id h. move_short m x a.state id known h }

  sealed_fields : (time : ℕ) (form : Form) (fs : List FrameValue) (a : At t) → IsSealable time a.state form fs →
      FieldsOver a (move_to (Seal time form (next_number a.state.numbers (number_space form)) (packet_size a.state form fs) fs) (move_to (Take (number_space form) fs) a))
  unfolding move_to state_move setup_move waiting_move packet_drawn
  sealed_fields time form fs a may = record { fixed = refl; crypto = λ id h. sealed_short a.state.waiting (number_space form) fs _ _ id h }

  step_fields : (m : Meaning t) (k : ℕ) (s : View t) (i : Input) (x : Step) (s' : View t) → IsStep m k s i x s' → KeepsFields s s'
  unfolding called began step_after reported state_move setup_move waiting_move
  step_fields m k s i x s' h =
      let b : At t = called m s i h.choice in
      let over : KeepsFields (began s (time_of i)).state b.state =
      known_input m FieldsOver (λ a. fields_here a.state) (λ a c d g k. fields_next a.state c.state d.state g k) (λ y a known may. known_fields m y a known may) sealed_fields i h.choice (began s (time_of i)) h.allowed in
      record {
        fixed = ap (λ (v : Setup Stream). v.fixed) h.setup ∙ over.fixed;
        crypto = λ id k. subst (λ (v : Waiting). IsShort (space_of v.spaces id)) (sym h.waiting) (over.crypto id k);
      }

  pub run_fields : (m : Meaning t) (k : ℕ) (s : View t) (is : List Input) (xs : List Step) (s' : View t) → Run m k s is xs s' → KeepsFields s s'
  unfolding Run
  run_fields m k s [] [] s' r = subst (λ (v : View t). KeepsFields s v) (sym r) (fields_here s)
  run_fields m k s (i ∷ is) (x ∷ xs) s' r = fields_next s r.0 s' (step_fields m k s i x r.0 r.1) (run_fields m (k + 1) r.0 is xs s' r.2)
  run_fields m k s [] (x ∷ xs) s' r = absurd r
  run_fields m k s (i ∷ is) [] s' r = absurd r

-- What a CRYPTO frame makes of a connection, and what the session answers.
use Rattle.std.proofs.Common.{◌≡◌, ℕ, ◌≤◌, List, [], ◌∷◌, ap, sym, ◌∙◌, subst, Bool, true, false, Option, Some, None, Result, Ok, Err, arith}
use Rattle.std.proofs.lemmas.Bool.Decides.{nat_tests}
use Rattle.std.specs.Prelude.{nat_lt, if◌then◌else◌, IfOk}
use Rattle.std.specs.declared.alloc.AllocError.{AllocError}
use Rattle.qc_assembler.specs.Assembly.{inserted, part_count}
use Rattle.qc_base.specs.declared.side.SpaceId.{SpaceId}
use Rattle.qc_base.specs.declared.transport_error.TransportError.{TransportError}
use Rattle.qc_admit.specs.Behind.{left_by}
use Rattle.qc_admit.specs.Reading.{HasRead}
use Rattle.qc_admit.specs.declared.behind.Behind.{Behind}
use Rattle.qc_state.specs.declared.coming.Coming.{Coming}
use Rattle.qc_state.specs.declared.deeds.Did.{Did}
use Rattle.qc_state.specs.Lower.{ready_bytes, stream_of}
use Rattle.qc_state.specs.Moves.{Come, Ready, move_to, state_move, deeds_move}
use Rattle.qc_state.specs.Receiving.{Goes, answered_after, bytes_given, crypto_stop, ended_by, kept_after}
use Rattle.qc_state.specs.Receiving as receiving
use Rattle.qc_state.specs.Stopping.{internal_error_at}
use Rattle.qc_state.specs.Types.{Types, Meaning}
use Rattle.qc_state.specs.View.{View, At, at}

module _ {t : Types} where
  -- what a frame leaves, by one spelling or another of it
  pub leaves_by : (r : Result Behind AllocError) (b : At t) (x y : receiving.Behind t) → x ≡ y → IfOk r (λ behind. left_by behind b ≡ x) → IfOk r (λ behind. left_by behind b ≡ y)
  leaves_by (Ok behind) b x y same h = h ∙ same
  leaves_by (Err e) b x y same h = tt

  -- the handshake's data became ready
  pub ready_goes : (coming : Coming) (answer : Result Bool TransportError) (ready : Bool) (s s' : View t) (ds : List Did) → answer ≡ Ok ready → ready ≡ true → s' ≡ state_move Ready s → Goes (at s' ds) ≡ answered_after coming answer (at s ds)
  unfolding move_to deeds_move
  ready_goes coming answer ready s s' ds is e moved =
      ap (λ (v : View t). Goes (at v ds)) moved ∙ ap (λ (r : Result Bool TransportError). answered_after coming r (at s ds)) (sym (is ∙ ap (λ (x : Bool). Ok x) e))

module _ {t : Types} (m : Meaning t) (coming : Coming) (id : SpaceId) where
  -- the session answered these bytes
  given_some : (bytes : List ℕ) (answer : Result Bool TransportError) (a b : At t) → HasRead m id bytes (Some answer) a b → answered_after coming answer b ≡ bytes_given m coming id bytes a
  given_some [] answer a b h = absurd (omega (arith, h.0))
  given_some (y ∷ bytes) answer a b h =
      ap (λ (r : Result Bool TransportError). answered_after coming r b) h.1.0 ∙ ap (λ (x : At t). answered_after coming (m.reads a.state.lower.session (y ∷ bytes)) x) h.1.1

  -- the session answered bytes that it was given
  pub given_by : (bytes : List ℕ) (told : Option (Result Bool TransportError)) (answer : Result Bool TransportError) (a b : At t) → told ≡ Some answer → HasRead m id bytes told a b →
      answered_after coming answer b ≡ bytes_given m coming id bytes a
  given_by bytes told answer a b e h = given_some bytes answer a b (subst (λ (o : Option (Result Bool TransportError)). HasRead m id bytes o a b) e h)

  -- bytes of a frame that stops nothing were kept
  pub kept_by : (offset : ℕ) (body bytes : List ℕ) (s s' : View t) (ds : List Did) → bytes ≡ body →
      crypto_stop s id offset body ≡ (if nat_lt 1024 (part_count (inserted offset body (stream_of s.lower id)).came) then Some (internal_error_at None) else None) →
      part_count (inserted offset bytes (stream_of s.lower id)).came ≤ 1024 → s' ≡ state_move (Come id offset bytes) s →
      bytes_given m coming id (ready_bytes (stream_of s'.lower id)) (at s' ds) ≡ ended_by coming.time (crypto_stop s id offset body) (kept_after m coming id offset body) (at s ds)
  unfolding move_to deeds_move kept_after
  kept_by offset body bytes s s' ds same kept few moved =
      let parts : ℕ = part_count (inserted offset body (stream_of s.lower id)).came in
      let within : parts ≤ 1024 = subst (λ (x : List ℕ). part_count (inserted offset x (stream_of s.lower id)).came ≤ 1024) same few in
      let low : nat_lt 1024 parts ≡ false = grind (arith, nat_tests) in
      let none : crypto_stop s id offset body ≡ None = kept ∙ ap (λ (x : Bool). if x then Some (internal_error_at None) else None) low in
      ap (λ (x : View t). bytes_given m coming id (ready_bytes (stream_of x.lower id)) (at x ds)) (moved ∙ ap (λ (x : List ℕ). state_move (Come id offset x) s) same)
      ∙ ap (λ (x : Option TransportError). ended_by coming.time x (kept_after m coming id offset body) (at s ds)) (sym none)

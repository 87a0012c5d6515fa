-- The error with which a CRYPTO frame stops its packet.
use Rattle.std.proofs.Common.{◌≡◌, ℕ, ◌+◌, ◌-◌, ◌^◌, List, length, refl, ap, sym, ◌∙◌, Bool, true, false, Option, Some, None}
use Rattle.std.specs.Prelude.{◌&&◌, ◌||◌, nat_lt, nat_le, if◌then◌else◌}
use Rattle.rand_core.specs.Stream.{Stream}
use Rattle.qc_assembler.specs.Assembly.{inserted, part_count}
use Rattle.qc_base.specs.declared.side.SpaceId.{SpaceId}
use Rattle.qc_base.specs.declared.transport_error.TransportError.{TransportError}
use Rattle.qc_state.specs.Lower.{stream_of}
use Rattle.qc_state.specs.Receiving.{crypto_stop, expected_space, is_below}
use Rattle.qc_state.specs.Setup.{ideal_setup}
use Rattle.qc_state.specs.Stopping.{internal_error_at}
use Rattle.qc_state.specs.Types.{Types}
use Rattle.qc_state.specs.View.{Held, ideal}

-- an error is its code and its frame
pub error_is : (e : TransportError) (code : ℕ) (frame : Option ℕ) → e.code ≡ code → e.frame ≡ frame → e ≡ record { code = code; frame = frame }
error_is e code frame c f = λ i. record { code = c i; frame = f i }

module _ {t : Types} {R : Type 0} (stream : R → Stream) (v : Held t R) (id : SpaceId) (offset : ℕ) (body : List ℕ) where
  -- new bytes of a space that is over
  pub late_stops : (late : Bool) (e : TransportError) → late ≡ (nat_lt (stream_of v.lower id).read (offset + length body) && is_below id (expected_space (ideal stream v))) → late ≡ true →
      e.code ≡ 10 → e.frame ≡ None → crypto_stop (ideal stream v) id offset body ≡ Some e
  unfolding crypto_stop
  late_stops late e is h code frame =
      let first : (nat_lt (stream_of v.lower id).read (offset + length body) && is_below id (expected_space (ideal stream v))) ≡ true = sym is ∙ h in
      rw first (ap Some (sym (error_is e 10 None code frame)))

  -- bytes too far ahead
  pub ahead_stops : (late ahead : Bool) (e : TransportError) → late ≡ (nat_lt (stream_of v.lower id).read (offset + length body) && is_below id (expected_space (ideal stream v))) → late ≡ false →
      ahead ≡ (nat_le (2 ^ 62) (offset + length body) || nat_lt v.setup.fixed.crypto_buffer_size ((offset + length body) - (stream_of v.lower id).read)) → ahead ≡ true →
      e.code ≡ 13 → e.frame ≡ None → crypto_stop (ideal stream v) id offset body ≡ Some e
  unfolding crypto_stop ideal_setup
  ahead_stops late ahead e is h is_ahead far code frame =
      let first : (nat_lt (stream_of v.lower id).read (offset + length body) && is_below id (expected_space (ideal stream v))) ≡ false = sym is ∙ h in
      let second : (nat_le (2 ^ 62) (offset + length body) || nat_lt v.setup.fixed.crypto_buffer_size ((offset + length body) - (stream_of v.lower id).read)) ≡ true = sym is_ahead ∙ far in
      rw (first, second) (ap Some (sym (error_is e 13 None code frame)))

  -- bytes that are neither
  pub neither_stops : (late ahead : Bool) → late ≡ (nat_lt (stream_of v.lower id).read (offset + length body) && is_below id (expected_space (ideal stream v))) → late ≡ false →
      ahead ≡ (nat_le (2 ^ 62) (offset + length body) || nat_lt v.setup.fixed.crypto_buffer_size ((offset + length body) - (stream_of v.lower id).read)) → ahead ≡ false →
      crypto_stop (ideal stream v) id offset body ≡ (if nat_lt 1024 (part_count (inserted offset body (stream_of v.lower id)).came) then Some (internal_error_at None) else None)
  unfolding crypto_stop ideal_setup
  neither_stops late ahead is h is_ahead near =
      let first : (nat_lt (stream_of v.lower id).read (offset + length body) && is_below id (expected_space (ideal stream v))) ≡ false = sym is ∙ h in
      let second : (nat_le (2 ^ 62) (offset + length body) || nat_lt v.setup.fixed.crypto_buffer_size ((offset + length body) - (stream_of v.lower id).read)) ≡ false = sym is_ahead ∙ near in
      rw (first, second) refl

-- A 1-RTT packet was opened by these keys of the ring: what its step leaves of the connection.
use Rattle.std.proofs.Common.{◌≡◌, ℕ, ap, ◌∙◌, if◌then◌else◌, Option}
use Rattle.rand_core.specs.Stream.{Stream}
use Rattle.qc_base.specs.declared.side.SpaceId.TheVariants.{«Data»}
use Rattle.qc_rings.specs.declared.which.Which.{Which}
use Rattle.qc_state.specs.declared.keys.Fresh.{Fresh}
use Rattle.qc_state.specs.declared.keys.KeyGroup.{KeyGroup}
use Rattle.qc_state.specs.Keys.{key_opened, ring_of, sets_floor}
use Rattle.qc_state.specs.Moves.{Unseal, state_move, numbers_move, keys_move, life_move, paths_move, timers_move, waiting_move, setup_move, lower_move}
use Rattle.qc_state.specs.Recovering.{around_of, is_validated_by_peer, probe_timeout_now}
use Rattle.qc_state.specs.Setup.{ideal_setup}
use Rattle.qc_state.specs.Timers.{timers_keeping}
use Rattle.qc_state.specs.Types.{Types, Meaning}
use Rattle.qc_state.specs.Updating.{fresh_by, session_by}
use Rattle.qc_state.specs.View.{Held, ideal}

module _ {t : Types} {R : Type 0} (m : Meaning t) (stream : R → Stream) where
  -- the session was asked, the timer of old keys set where a floor was, and the ring rose or noted the number
  pub unsealed_parts : (v asked kept w : Held t R) (time number : ℕ) (which : Which) (fresh : Option (Fresh t.P)) (keys : KeyGroup t.H t.P) → fresh ≡ fresh_by m which (ideal stream v) →
      asked ≡ record v { lower = record v.lower { session = session_by m which v.lower.session } } →
      kept ≡ record asked { timers = if sets_floor which fresh (ring_of asked.keys) then timers_keeping asked.timers (probe_timeout_now (ideal stream asked) «Data») time else asked.timers } → w ≡ kept → keys ≡ key_opened w.keys which number fresh →
      ideal stream (record w { keys = keys }) ≡ state_move (Unseal time number which (fresh_by m which (ideal stream v)) (session_by m which v.lower.session)) (ideal stream v)
  unfolding state_move numbers_move keys_move life_move paths_move timers_move waiting_move setup_move lower_move probe_timeout_now around_of is_validated_by_peer ideal_setup
  unsealed_parts v asked kept w time number which fresh keys is_fresh is_asked is_kept same is_keys =
      ap (λ (k : KeyGroup t.H t.P). ideal stream (record w { keys = k })) is_keys
      ∙ ap (λ (x : Held t R). ideal stream (record x { keys = key_opened x.keys which number fresh })) (same ∙ is_kept)
      ∙ ap
      (λ (x : Held t R). ideal stream
      (record x {
        keys = key_opened x.keys which number fresh;
        timers = if sets_floor which fresh (ring_of x.keys) then timers_keeping x.timers (probe_timeout_now (ideal stream x) «Data») time else x.timers;
      }))
      is_asked
      ∙ ap (λ (f : Option (Fresh t.P)). state_move (Unseal time number which f (session_by m which v.lower.session)) (ideal stream v)) is_fresh

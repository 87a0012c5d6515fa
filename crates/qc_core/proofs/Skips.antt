-- A number is skipped.
use Rattle.std.proofs.Common.{◌≡◌, sym, ◌∙◌, subst, Bool, true}
use Rattle.rand_core.specs.Stream.{Stream}
use Rattle.qc_base.specs.declared.side.SpaceId.{SpaceId}
use Rattle.qc_base.specs.declared.side.SpaceId.TheVariants.{Initial, Handshake, «Data»}
use Rattle.qc_state.specs.Draws.{behind, word}
use Rattle.qc_state.specs.Moves.{Skip, state_move, numbers_move, keys_move, life_move, paths_move, timers_move, waiting_move, setup_move, lower_move}
use Rattle.qc_state.specs.Numbers.{is_skipped, number_skipped}
use Rattle.qc_state.specs.Setup.{ideal_setup, word_drawn}
use Rattle.qc_state.specs.Types.{Types}
use Rattle.qc_state.specs.View.{Held, View, ideal}
use Rattle.qc_state.specs.declared.numbers.Numbers.{Numbers}

-- it is one of 1-RTT packets
skips_in : (v : Numbers) (id : SpaceId) → is_skipped v id ≡ true → is_skipped v Data ≡ true
unfolding is_skipped
skips_in v Initial h = cc
skips_in v Handshake h = cc
skips_in v Data h = h

pub skips_data : (v w : Numbers) (id : SpaceId) (b : Bool) → w ≡ v → b ≡ is_skipped w id → b ≡ true → is_skipped v Data ≡ true
skips_data v w id b same is holds = subst (λ (x : Numbers). is_skipped x Data ≡ true) same (skips_in w id (sym is ∙ holds))

module _ {t : Types} {R : Type 0} (stream : R → Stream) where
  -- the next number is skipped, and the word drawn
  pub skipped_by : (v w : Held t R) (numbers : Numbers) (random : R) → w ≡ v → numbers ≡ number_skipped w.numbers (word (stream w.setup.random)) → stream random ≡ behind (stream w.setup.random) →
      ideal stream (record w { numbers = numbers; setup = record w.setup { random = random } }) ≡ state_move Skip (ideal stream v)
  unfolding state_move numbers_move keys_move life_move paths_move timers_move waiting_move setup_move lower_move ideal_setup word_drawn
  skipped_by v w numbers random same is_numbers is_random =
      subst (λ (x : Held t R). ideal stream (record w { numbers = numbers; setup = record w.setup { random = random } }) ≡ state_move Skip (ideal stream x)) same
      (λ i. record {
        numbers = is_numbers i;
        keys = w.keys;
        life = w.life;
        paths = w.paths;
        timers = w.timers;
        waiting = w.waiting;
        setup = record (ideal_setup stream w.setup) { random = is_random i };
        lower = w.lower;
        issuer = w.issuer;
      })

-- A PING that is taken by itself waits no longer, and is no step of a layer below.
use Rattle.std.proofs.Common.{◌≡◌, [], ◌∷◌, subst, false}
use Rattle.rand_core.specs.Stream.{Stream}
use Rattle.qc_base.specs.declared.side.SpaceId.TheVariants.{«Data»}
use Rattle.qc_cids.specs.Steps as ids
use Rattle.qc_datagrams.specs.Steps as posts
use Rattle.qc_frame.specs.declared.frames.FrameOf.TheVariants.{Ping}
use Rattle.qc_state.specs.Datagrams.{sealed_datagrams, told_by_all}
use Rattle.qc_state.specs.Ids.{sealed_cids}
use Rattle.qc_state.specs.Lower.{datagrams_stepped, frames_sealed, ids_stepped, streams_stepped}
use Rattle.qc_state.specs.Moves.{Take, state_move, numbers_move, keys_move, life_move, paths_move, timers_move, waiting_move, setup_move, lower_move}
use Rattle.qc_state.specs.Setup.{ideal_setup}
use Rattle.qc_state.specs.StreamFrames.{sealed_steps}
use Rattle.qc_state.specs.Tokens.{behind_tokens}
use Rattle.qc_state.specs.Types.{Types}
use Rattle.qc_state.specs.View.{Held, ideal}
use Rattle.qc_state.specs.Waiting.{waiting_without, without, without_all}
use Rattle.qc_state.proofs.RoomTold.{same_heard}
use Rattle.qc_state.specs.declared.waiting.Waiting.{Waiting}
use Rattle.qc_streams.specs.Waits.{after}

abbrev pub unpinged : Waiting → Waiting
unpinged w = record w { spaces = record w.spaces { application = record w.spaces.application { ping = false } } }

module _ {t : Types} {R : Type 0} (stream : R → Stream) where
  pub ping_taken : (v w : Held t R) → w ≡ v → ideal stream (record w { waiting = unpinged w.waiting }) ≡ state_move (Take «Data» (Ping ∷ [])) (ideal stream v)
  unfolding state_move numbers_move keys_move life_move paths_move timers_move waiting_move setup_move lower_move frames_sealed streams_stepped datagrams_stepped ids_stepped after posts.after ids.after waiting_without without_all without sealed_steps sealed_datagrams sealed_cids told_by_all behind_tokens ideal_setup
  ping_taken v w same =
      subst (λ (y : Held t R). ideal stream (record w { waiting = unpinged w.waiting }) ≡ state_move (Take «Data» (Ping ∷ [])) (ideal stream y)) same
      (λ i. record {
        numbers = w.numbers;
        keys = w.keys;
        life = same_heard w.life i;
        paths = w.paths;
        timers = w.timers;
        waiting = unpinged w.waiting;
        setup = ideal_setup stream w.setup;
        lower = w.lower;
        issuer = w.issuer;
      })

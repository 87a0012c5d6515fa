-- An ACK that is taken by itself is no step of the streams, nor of the datagrams, nor of the connection ids.
use Rattle.std.proofs.Common.{◌≡◌, ℕ, List, [], ap, sym, ◌∙◌, subst, Bool, Result, Ok, Err}
use Rattle.std.specs.Prelude.{IfOk}
use Rattle.std.specs.declared.alloc.AllocError.{AllocError}
use Rattle.rand_core.specs.Stream.{Stream}
use Rattle.qc_base.specs.declared.side.SpaceId.{SpaceId}
use Rattle.qc_frame.specs.Frame.{FrameValue}
use Rattle.qc_state.specs.declared.lower.Lower.{Lower}
use Rattle.qc_state.specs.declared.waiting.Waiting.{Waiting}
use Rattle.qc_state.specs.Acks.{AckPart}
use Rattle.qc_cids.specs.Steps as ids
use Rattle.qc_datagrams.specs.Steps as posts
use Rattle.qc_state.specs.Datagrams.{sealed_datagrams, told_by_all}
use Rattle.qc_state.specs.Ids.{sealed_cids}
use Rattle.qc_state.specs.Life.{more_heard}
use Rattle.qc_state.specs.Lower.{datagrams_stepped, frames_sealed, ids_stepped, streams_stepped}
use Rattle.qc_state.specs.Moves.{Take, state_move, numbers_move, keys_move, life_move, paths_move, timers_move, waiting_move, setup_move, lower_move}
use Rattle.qc_state.specs.Setup.{ideal_setup}
use Rattle.qc_state.specs.Spaces.{space_of}
use Rattle.qc_state.specs.StreamFrames.{sealed_steps}
use Rattle.qc_state.specs.Tokens.{behind_tokens}
use Rattle.qc_state.specs.Types.{Types}
use Rattle.qc_state.specs.View.{Held, ideal}
use Rattle.qc_state.specs.Waiting.{waiting_without}
use Rattle.qc_state.proofs.DatagramSteps.{datagrams_ack}
use Rattle.qc_state.proofs.IdSteps.{cids_ack}
use Rattle.qc_state.proofs.Issued.{undrawn, tokens_ack}
use Rattle.qc_state.proofs.RoomTold.{untold}
use Rattle.qc_state.proofs.SealedSteps.{sealed_ack}
use Rattle.qc_streams.specs.Waits.{Step, after}

-- no step leaves what is below
unstepped : {S : Type 0} (xs : List Step) (ys : List posts.Step) (zs : List ids.Step) (l : Lower S) → xs ≡ [] → ys ≡ [] → zs ≡ [] → l ≡ ids_stepped zs (datagrams_stepped ys (streams_stepped xs l))
unfolding streams_stepped datagrams_stepped ids_stepped after posts.after ids.after
unstepped xs ys zs l none no_posts no_ids =
    ap (λ (us : List Step). record l { streams = after us l.streams }) (sym none)
    ∙ ap (λ (us : List posts.Step). record l { streams = after xs l.streams; datagrams = posts.after us l.datagrams }) (sym no_posts)
    ∙ ap (λ (us : List ids.Step). record l { streams = after xs l.streams; datagrams = posts.after ys l.datagrams; ids = ids.after us l.ids }) (sym no_ids)

module _ {t : Types} {R : Type 0} (stream : R → Stream) where
  pub ack_taken : (r : Result (List FrameValue) AllocError) (v w : Held t R) (time room : ℕ) (id : SpaceId) (b : Bool) (waiting : Waiting) → w ≡ v →
      IfOk r (λ fs. AckPart time (space_of w.waiting.spaces id) room fs b) → IfOk r (λ fs. waiting ≡ waiting_without w.waiting id fs) →
      IfOk r (λ fs. ideal stream (record w { waiting = waiting }) ≡ state_move (Take id fs) (ideal stream v))
  unfolding state_move numbers_move keys_move life_move paths_move timers_move waiting_move setup_move lower_move frames_sealed ideal_setup
  ack_taken (Ok fs) v w time room id b waiting same part is =
      let none : sealed_datagrams fs ≡ [] = datagrams_ack time room (space_of w.waiting.spaces id) fs b part in
      let told : w.life ≡ more_heard (told_by_all (sealed_datagrams fs) w.lower.datagrams) w.life = untold fs w.lower.datagrams w.life none in
      let below =
      unstepped (sealed_steps fs) (sealed_datagrams fs) (sealed_cids fs) w.lower (sealed_ack time room (space_of w.waiting.spaces id) fs b part)
      none (cids_ack time room (space_of w.waiting.spaces id) fs b part) in
      let drawn : stream w.setup.random ≡ behind_tokens fs (stream w.setup.random) =
      sym (undrawn fs (stream w.setup.random) (tokens_ack time room (space_of w.waiting.spaces id) fs b part)) in
      subst (λ (y : Held t R). ideal stream (record w { waiting = waiting }) ≡ state_move (Take id fs) (ideal stream y)) same
      (λ i. record {
        numbers = w.numbers;
        keys = w.keys;
        life = told i;
        paths = w.paths;
        timers = w.timers;
        waiting = is i;
        setup = record (ideal_setup stream w.setup) { random = drawn i };
        lower = below i;
        issuer = w.issuer;
      })
  ack_taken (Err e) v w time room id b waiting same part is = tt

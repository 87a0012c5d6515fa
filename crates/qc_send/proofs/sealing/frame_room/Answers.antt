use Rattle.std.proofs.Common.{ap, ◌∙◌, ◌-◌, ℕ}
use Rattle.qc_state.specs.Setup.{ideal_setup}
use Rattle.qc_state.specs.View.{ideal}
use Rattle.qc_send.proofs.Headers.{room_is}
use Rattle.qc_send.proofs.sealing.frame_room.Goals as goal

-- what the header without a token leaves, less the token
pub returns-clause-value : goal.returns-clause-value
unfolding ideal_setup
returns-clause-value g c =
    room_is c.args.left (ideal g.U.Random.Rng.stream c.args.core.now) c.args.form c.as_slice.result.now c.bare_len-bare.result c.saturating_sub-room.result c.token_bytes.result c.saturating_sub.result
    c.bare_len-bare.ensures.value (c.saturating_sub-room.ensures ∙ ap (λ (n : ℕ). n - c.bare_len-bare.result) c.saturating_sub-rest.ensures) (c.as_slice.ensures ∙ ap (λ v. v.setup.initial_token) c.core.view_is) c.token_bytes.ensures c.saturating_sub.ensures

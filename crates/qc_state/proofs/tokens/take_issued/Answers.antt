use Rattle.std.proofs.Common.{refl, arith}
use Rattle.qc_state.proofs.TokensTaken.{takes_no_token, token_taken}
use Rattle.qc_state.proofs.tokens.take_issued.Goals as goal

pub loop-left-init : goal.loop-left-init
loop-left-init g c = takes_no_token _ c.args.ip c.args.room c.args.space.now (g.R.Rng.stream c.args.random.now) c.args.frames.now

-- one frame more was taken
pub loop-left-preserved : goal.loop-left-preserved
loop-left-preserved g c =
    token_taken _ c.args.ip c.args.room c.loop-left.left _ c.args.space.now c.loop-left.space _ (g.R.Rng.stream c.args.random.now) (g.R.Rng.stream c.loop-left.random) _ c.args.frames.now c.loop-left.frames c.push.new.self c.in_ok-token.token _
    c.loop-left.invariant (omega arith) c.in_ok-token.ensures.token c.in_ok-token.ensures.size c.in_ok-token.ensures.drawn refl refl c.in_ok-push.ensures.ok (omega (arith, c.token_len-size.ensures.value)) c.loop-left-test.true

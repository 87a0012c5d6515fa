use Rattle.std.proofs.Common.{ap, sym, ◌∙◌}
use Rattle.qc_state.specs.Offers.{offers_in}
use Rattle.qc_state.specs.Setup.{ideal_setup}
use Rattle.qc_state.specs.Tokens.{token_with}
use Rattle.qc_state.specs.View.{ideal}
use Rattle.qc_send.proofs.Takes.{takes_close, takes_waiting}
use Rattle.qc_send.proofs.taking.take.Goals as goal

-- the close, or what waits
pub returns-then-closing-clause-frames : goal.returns-then-closing-clause-frames
returns-then-closing-clause-frames g c =
    takes_close (token_with g.U.TokenKey.Aead.AeadKey.sealed g.U.TokenKey.HandshakeTokenKey.derived g.U.Time.TimeSource.time_of) c.args.closing c.args.first c.args.now (ideal g.U.Random.Rng.stream c.args.core.now) _ c.args.form c.args.room c.in_ok-frames.frames c.if-closing.true c.space-space.ensures c.in_ok-frames.ensures.frames

pub returns-clause-frames : goal.returns-clause-frames
unfolding ideal_setup
returns-clause-frames g c =
    takes_waiting (token_with g.U.TokenKey.Aead.AeadKey.sealed g.U.TokenKey.HandshakeTokenKey.derived g.U.Time.TimeSource.time_of) c.args.closing c.args.first c.args.now (ideal g.U.Random.Rng.stream c.args.core.now) _ c.args.form c.args.room c.in_ok-taken.taken c.if-closing.false c.space-space.ensures c.in_ok-taken.ensures.part
    c.in_ok-taken.ensures.may c.in_ok-taken.ensures.oldest c.in_ok-taken.ensures.next c.in_ok-taken.ensures.issued c.in_ok-taken.ensures.some

-- a close is none of these
pub returns-then-closing-clause-full : goal.returns-then-closing-clause-full
returns-then-closing-clause-full g c = λ free enough. absurd (cc (c.if-closing.true, free))

pub returns-then-closing-clause-probes : goal.returns-then-closing-clause-probes
returns-then-closing-clause-probes g c = λ free due. absurd (cc (c.if-closing.true, free))

-- what waits is full
pub returns-clause-full : goal.returns-clause-full
returns-clause-full g c = λ free enough. ap (λ id. offers_in (ideal g.U.Random.Rng.stream c.take_waiting.new.core) id) (sym c.space-space.ensures) ∙ c.in_ok-taken.ensures.full enough

-- and answers a probe
pub returns-clause-probes : goal.returns-clause-probes
returns-clause-probes g c = λ free due. c.in_ok-taken.ensures.probes due

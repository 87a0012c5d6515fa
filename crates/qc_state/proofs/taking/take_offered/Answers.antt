use Rattle.qc_state.proofs.OffersTaken.{offers_all, offers_full, offers_nothing}
use Rattle.qc_state.proofs.taking.take_offered.Goals as goal

-- in another space nothing is taken
pub returns-then-not-in_data-clause-takes : goal.returns-then-not-in_data-clause-takes
returns-then-not-in_data-clause-takes g c =
    offers_nothing _ c.args.ip c.args.in_data c.args.room c.args.space.now (g.R.Rng.stream c.args.random.now) c.args.lower.now c.args.frames.now

-- the layers below, one behind the other
pub returns-clause-takes : goal.returns-clause-takes
returns-clause-takes g c =
    offers_all _ c.args.ip c.args.in_data c.args.room c.in_ok-more.more c.in_ok-rest.rest c.in_ok-least.least c.in_ok-left.left c.args.space.now c.take_tokens.new.space
    (g.R.Rng.stream c.args.random.now) (g.R.Rng.stream c.take_tokens.new.random) c.args.lower.now c.take_controls.new.streams c.take_parts.new.streams c.take_ids.new.ids c.take_datagrams.new.datagrams
    c.args.frames.now c.take_controls.new.frames c.take_ids.new.frames c.take_datagrams.new.frames c.take_tokens.new.frames c.take_parts.new.frames c.take_parts.result c.if-not-in_data.false
    c.in_ok-more.ensures.takes c.in_ok-rest.ensures.takes c.in_ok-least.ensures c.in_ok-left.ensures.takes c.take_parts.ensures.takes

-- nothing is left in any of them that has room
pub returns-clause-full : goal.returns-clause-full
returns-clause-full g c =
    offers_full _ c.args.ip c.args.in_data c.in_ok-more.more c.in_ok-rest.rest c.in_ok-least.least c.in_ok-left.left c.take_controls.new.streams c.take_parts.new.streams c.take_ids.new.ids _
    c.take_datagrams.new.datagrams _ c.take_tokens.new.space _ (g.R.Rng.stream c.take_tokens.new.random) _ c.take_controls.new.frames c.take_ids.new.frames c.take_datagrams.new.frames c.take_tokens.new.frames
    c.take_parts.new.frames c.take_parts.result c.in_ok-more.ensures.full c.in_ok-rest.ensures.takes c.in_ok-rest.ensures.full c.in_ok-least.ensures c.in_ok-left.ensures.takes c.in_ok-left.ensures.full
    c.take_parts.ensures.takes c.take_parts.ensures.full c.take_parts.ensures.rest

use Rattle.std.proofs.Common.{sym, ◌∙◌}
use Rattle.qc_state.specs.View.{held}
use Rattle.qc_send.proofs.Probings.{probe_dies, probe_ends, probe_may, quiet_ends}
use Rattle.qc_send.proofs.sending.seal_none.Goals as goal

-- no probe is due
pub returns-in-None : goal.returns-in-None
returns-in-None g c =
    quiet_ends _ c.args.now (held g.U.Random.Rng.stream c.args.core.now c.args.did.now) (held g.U.Random.Rng.stream c.hold.new.core c.args.did.now) _ c.args.batch.now c.args.quiet c.probe_size.result _ c.requires.none c.requires.cause
    c.probe_size.ensures c.in-None.is c.hold.ensures c.in_ok-do_say-in-None.ensures c.requires.empty

-- it can't begin, and the connection ends
pub returns-in-Some-kill : goal.returns-in-Some-kill
returns-in-Some-kill g c =
    probe_dies _ c.args.now c.in-Some.size (held g.U.Random.Rng.stream c.args.core.now c.args.did.now) (held g.U.Random.Rng.stream c.try_update.new.self c.args.did.now) _ c.args.batch.now c.args.quiet c.in-Some-kill.why c.kill.result _ _ _ c.try_update.ensures
    (probe_may _ c.args.now c.in-Some.size (held g.U.Random.Rng.stream c.args.core.now c.args.did.now) (held g.U.Random.Rng.stream c.try_update.new.self c.args.did.now) c.args.batch.now c.args.quiet c.probe_size.result c.try_update.ensures c.requires.none c.requires.cause c.probe_size.ensures c.in-Some.is)
    c.kill.ensures c.in-Some-kill.is c.in_ok-sent-in-Some-kill.ensures.leads c.in_ok-sent-in-Some-kill.ensures.none c.in_ok-sent-in-Some-kill.ensures.empty

-- it can
pub seal_probe-requires-clause-may : goal.seal_probe-requires-clause-may
seal_probe-requires-clause-may g c =
    probe_may _ c.args.now c.in-Some.size (held g.U.Random.Rng.stream c.args.core.now c.args.did.now) (held g.U.Random.Rng.stream c.try_update.new.self c.args.did.now) c.args.batch.now c.args.quiet c.probe_size.result c.try_update.ensures c.requires.none c.requires.cause c.probe_size.ensures c.in-Some.is

pub seal_probe-requires-clause-fresh : goal.seal_probe-requires-clause-fresh
seal_probe-requires-clause-fresh g c = sym c.kill.ensures ∙ c.in-None-kill.is

pub returns : goal.returns
returns g c =
    probe_ends _ c.args.now c.in-Some.size (held g.U.Random.Rng.stream c.args.core.now c.args.did.now) (held g.U.Random.Rng.stream c.try_update.new.self c.args.did.now) _ c.args.batch.now c.args.quiet c.kill.result c.in_ok-sent.sent _ _ c.try_update.ensures
    (probe_may _ c.args.now c.in-Some.size (held g.U.Random.Rng.stream c.args.core.now c.args.did.now) (held g.U.Random.Rng.stream c.try_update.new.self c.args.did.now) c.args.batch.now c.args.quiet c.probe_size.result c.try_update.ensures c.requires.none c.requires.cause c.probe_size.ensures c.in-Some.is)
    c.kill.ensures c.in-None-kill.is c.in_ok-sent.ensures.leads c.in_ok-sent.ensures.sent c.in_ok-sent.ensures.bytes c.in_ok-sent.ensures.size

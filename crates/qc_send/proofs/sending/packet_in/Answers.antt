use Rattle.std.proofs.Common.{◌∙◌}
use Rattle.qc_state.specs.View.{held, ideal}
use Rattle.qc_state.proofs.TriedTurns.{form_kept}
use Rattle.qc_send.proofs.Choosing.{begins_form, dies_in, roomy_form, take_tried}
use Rattle.qc_send.proofs.Loops.{next_falls, next_follows, next_made}
use Rattle.qc_send.proofs.Sends.{sends_tried, up_dies, up_follows}
use Rattle.qc_send.proofs.sending.packet_in.Goals as goal

-- the packet can't begin
pub returns-in-Some-clause-sends : goal.returns-in-Some-clause-sends
returns-in-Some-clause-sends g c = up_dies _ _ _ _ _ _ _ c.try_update.ensures

pub returns-in-Some-clause-next : goal.returns-in-Some-clause-next
returns-in-Some-clause-next g c =
    dies_in _ c.args.now (ideal g.U.Random.Rng.stream c.try_update.new.self) c.args.batch.now c.args.space c.form_in-form.result c.args.opens c.kill.result c.in-Some.why
    (take_tried _ c.args.now c.args.batch.now c.form_in-form.result (held g.U.Random.Rng.stream c.args.core.now c.args.did.now) (held g.U.Random.Rng.stream c.try_update.new.self c.args.did.now) c.args.space c.args.opens c.try_update.ensures c.requires.takes) (c.form_in-form.ensures ∙ form_kept c.args.core.now.keys c.try_update.new.self.keys c.args.space) c.kill.ensures c.in-Some.is

-- it can
pub seal_packet-requires-clause-begins : goal.seal_packet-requires-clause-begins
seal_packet-requires-clause-begins g c =
    begins_form _ c.args.now (ideal g.U.Random.Rng.stream c.try_update.new.self) c.args.batch.now c.args.space c.form_in-form.result c.args.opens c.kill.result
    (take_tried _ c.args.now c.args.batch.now c.form_in-form.result (held g.U.Random.Rng.stream c.args.core.now c.args.did.now) (held g.U.Random.Rng.stream c.try_update.new.self c.args.did.now) c.args.space c.args.opens c.try_update.ensures c.requires.takes) (c.form_in-form.ensures ∙ form_kept c.args.core.now.keys c.try_update.new.self.keys c.args.space) c.kill.ensures c.in-None.is

pub seal_packet-requires-clause-roomy : goal.seal_packet-requires-clause-roomy
seal_packet-requires-clause-roomy g c = roomy_form _ c.args.now (ideal g.U.Random.Rng.stream c.args.core.now) c.args.batch.now c.args.space c.form_in-form.result c.args.opens c.requires.takes c.form_in-form.ensures

pub returns-clause-sends : goal.returns-clause-sends
returns-clause-sends g c = up_follows _ _ c.in_ok-next.next _ _ _ c.follows.ensures (sends_tried _ _ _ _ _ _ _ _ c.try_update.ensures c.in_ok-next.ensures.sends)

pub returns-clause-next : goal.returns-clause-next
returns-clause-next g c = next_follows _ _ _ _ c.in_ok-next.next _ c.follows.ensures c.in_ok-next.ensures.next

pub returns-clause-falls : goal.returns-clause-falls
returns-clause-falls g c = next_falls (ideal g.U.Random.Rng.stream c.args.core.now) c.args.space c.form_in-form.result c.in_ok-next.next _ c.form_in-form.ensures c.follows.ensures c.in_ok-next.ensures.falls

pub returns-clause-made : goal.returns-clause-made
returns-clause-made g c = next_made c.in_ok-next.next _ _ _ c.follows.ensures c.in_ok-next.ensures.made

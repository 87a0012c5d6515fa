use Rattle.qc_state.specs.View.{ideal}
use Rattle.qc_send.proofs.Takes.{probe_answered, some_owed}
use Rattle.qc_send.proofs.taking.take_waiting.Goals as goal

-- something is among them that is owed, or an ACK is all that is
pub returns-clause-some : goal.returns-clause-some
returns-clause-some g c =
    some_owed (ideal g.U.Random.Rng.stream c.args.core.now) c.args.space c.in_ok-frames.frames _ c.args.first _ _ c.owes_ack-owes.ensures c.owes_ack_alone-alone.ensures c.makes_packet-makes.ensures c.if-not-makes.false

-- and where a probe was due, one that elicits an acknowledgement
pub returns-clause-probes : goal.returns-clause-probes
returns-clause-probes g c = probe_answered c.args.probes _ _ c.answers_probe-answers.result c.answers_probe-answers.ensures c.if-not-answers.false

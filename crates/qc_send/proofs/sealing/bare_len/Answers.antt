use Rattle.std.proofs.Common.{refl}
use Rattle.qc_state.specs.View.{ideal}
use Rattle.qc_send.proofs.Headers.{short_bare}
use Rattle.qc_send.proofs.sealing.bare_len.Goals as goal

-- that of a 1-RTT packet isn't written for it
pub returns-in-OneRtt-clause-value : goal.returns-in-OneRtt-clause-value
returns-in-OneRtt-clause-value g c =
    short_bare (ideal g.U.Random.Rng.stream c.args.core.now) c.args.form c.cid_len.result c.number_len.result _ c.in-OneRtt.is c.cid_len.ensures.value c.number_len.ensures.value refl

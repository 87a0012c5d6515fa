use Rattle.qc_state.specs.View.{ideal}
use Rattle.qc_send.proofs.Headers.{written_bare, written_most}
use Rattle.qc_send.proofs.sealing.written_len.Goals as goal

-- that of the header, whatever its Length field says
pub returns-clause-value : goal.returns-clause-value
returns-clause-value g c =
    written_bare (ideal g.U.Random.Rng.stream c.args.core.now) c.args.form c.header_with.result c.new.result c.encoded_len.result c.new.ensures c.header_with.ensures (c.encoded_len.ensures.len 0)

pub returns-clause-most : goal.returns-clause-most
returns-clause-most g c =
    written_most (ideal g.U.Random.Rng.stream c.args.core.now) c.args.form c.header_with.result c.new.result c.encoded_len.result c.new.ensures c.header_with.ensures c.encoded_len.ensures.most

use Rattle.std.proofs.Common.{sym, ◌∙◌}
use Rattle.qc_state.proofs.DatagramsTaken.{drawn_fits, one_drawn}
use Rattle.qc_state.proofs.datagrams.draw_datagram.Goals as goal

-- where it fits, there is one
pub returns-clause-none : goal.returns-clause-none
returns-clause-none c = one_drawn _ c.args.room c.args.datagrams.now.outgoing c.seal.result (sym c.first_fits.ensures ∙ c.if-not-first_fits.false) c.seal.ensures.given

pub returns-clause-fits : goal.returns-clause-fits
returns-clause-fits c = drawn_fits c.args.room c.args.datagrams.now.outgoing c.seal.result (sym c.first_fits.ensures ∙ c.if-not-first_fits.false) c.seal.ensures.given

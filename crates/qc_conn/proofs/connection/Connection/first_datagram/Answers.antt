use Rattle.std.proofs.Common.{ap, sym, ◌∙◌}
use Rattle.std.specs.Prelude.{max}
use Rattle.qc_laws.proofs.Clocks.{datagram_clock}
use Rattle.qc_conn.proofs.Marks.{datagram_mark}
use Rattle.qc_conn.proofs.connection.Connection.first_datagram.Goals as goal

-- the greatest time
pub returns-in-Ok-clause-clock : goal.returns-in-Ok-clause-clock
returns-in-Ok-clause-clock g c = datagram_clock _ (record { time = c.args.now; remote = c.args.remote; mark = c.args.ecn }) _ _ _ c.in-Ok.ensures.leads ∙ ap (λ v. max v.core.timers.greatest c.args.now) c.self.view_is

-- the mark
pub returns-in-Ok-clause-alive : goal.returns-in-Ok-clause-alive
returns-in-Ok-clause-alive g c = datagram_mark _ (record { time = c.args.now; remote = c.args.remote; mark = c.args.ecn }) _ _ _ c.in-Ok.ensures.leads ∙ ap (λ v. v.failed) c.self.view_is ∙ sym c.if-is_failed.ensures

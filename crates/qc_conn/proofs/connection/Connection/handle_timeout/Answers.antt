use Rattle.std.proofs.Common.{ap, sym, ◌∙◌}
use Rattle.std.specs.Prelude.{max}
use Rattle.qc_laws.proofs.Clocks.{timeout_clock}
use Rattle.qc_conn.proofs.Marks.{timeout_mark}
use Rattle.qc_conn.proofs.connection.Connection.handle_timeout.Goals as goal

-- the greatest time
pub returns-in-Ok-clause-clock : goal.returns-in-Ok-clause-clock
returns-in-Ok-clause-clock g c = timeout_clock _ c.args.now _ _ c.in-Ok.ensures.leads ∙ ap (λ v. max v.core.timers.greatest c.args.now) c.self.view_is

-- the mark
pub returns-in-Ok-clause-alive : goal.returns-in-Ok-clause-alive
returns-in-Ok-clause-alive g c = timeout_mark _ c.args.now _ _ c.in-Ok.ensures.leads ∙ ap (λ v. v.failed) c.self.view_is ∙ sym c.if-is_failed.ensures

use Rattle.std.proofs.Common.{ap, ◌∙◌}
use Rattle.std.specs.Prelude.{max}
use Rattle.qc_state.specs.Run.{began, close_after}
use Rattle.qc_state.specs.View.{ideal}
use Rattle.qc_conn.proofs.Clocks.{close_leads, closed_clock}
use Rattle.qc_conn.proofs.Marks.{close_mark}
use Rattle.qc_conn.proofs.connection.Connection.close.Goals as goal

-- the time is told, and then it closes
pub returns-clause-leads : goal.returns-clause-leads
returns-clause-leads g c =
    close_leads _ _ _ c.args.now c.args.error_code c.args.reason c.clock.ensures c.close-raised.ensures.leads
    ∙ ap (λ v. (close_after c.args.now c.args.error_code c.args.reason (began (ideal g.U.Random.Rng.stream v.core) c.args.now)).state) c.self.view_is

-- the greatest time
pub returns-clause-clock : goal.returns-clause-clock
returns-clause-clock g c = closed_clock _ _ _ c.args.now c.args.error_code c.args.reason c.clock.ensures c.close-raised.ensures.leads ∙ ap (λ v. max v.core.timers.greatest c.args.now) c.self.view_is

-- the mark
pub returns-clause-mark : goal.returns-clause-mark
returns-clause-mark g c =
    close_mark c.args.now c.args.error_code c.args.reason _ _ (close_leads _ _ _ c.args.now c.args.error_code c.args.reason c.clock.ensures c.close-raised.ensures.leads)
    ∙ ap (λ v. v.failed) c.self.view_is

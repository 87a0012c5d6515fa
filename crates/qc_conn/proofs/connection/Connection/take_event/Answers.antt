use Rattle.std.proofs.Common.{ap, ◌∙◌, sym, subst}
use Rattle.std.specs.Prelude.{max}
use Rattle.qc_receive.specs.Events.{GivesRight, time_of_event}
use Rattle.qc_conn.proofs.Clocks.{handed_clock}
use Rattle.qc_conn.proofs.Marks.{handed_mark}
use Rattle.qc_conn.proofs.connection.Connection.take_event.Goals as goal

-- the greatest time
pub returns-in-Ok-clause-clock : goal.returns-in-Ok-clause-clock
returns-in-Ok-clause-clock g c =
    let given : GivesRight c.args.event c.self.inside.core.lower.ids = subst (λ v. GivesRight c.args.event v.core.lower.ids) (sym c.self.view_is) c.requires.given in
    handed_clock _ c.args.event _ _ given (ap (λ a. a.state) c.in-Ok.ensures) ∙ ap (λ v. max v.core.timers.greatest (time_of_event c.args.event)) c.self.view_is

-- the mark
pub returns-in-Ok-clause-alive : goal.returns-in-Ok-clause-alive
returns-in-Ok-clause-alive g c =
    let given : GivesRight c.args.event c.self.inside.core.lower.ids = subst (λ v. GivesRight c.args.event v.core.lower.ids) (sym c.self.view_is) c.requires.given in
    handed_mark _ c.args.event _ _ given (ap (λ a. a.state) c.in-Ok.ensures) ∙ ap (λ v. v.failed) c.self.view_is ∙ sym c.if-is_failed.ensures

use Rattle.std.proofs.Common.{ap, ◌∙◌}
use Rattle.qc_conn.proofs.Marks.{polled_endpoint_mark}
use Rattle.qc_conn.proofs.connection.Connection.poll_endpoint_events.Goals as goal

-- the mark
pub returns-clause-mark : goal.returns-clause-mark
returns-clause-mark g c = polled_endpoint_mark _ _ c.poll_endpoint_events.ensures.leads ∙ ap (λ v. v.failed) c.self.view_is

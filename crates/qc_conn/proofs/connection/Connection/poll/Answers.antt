use Rattle.std.proofs.Common.{ap, ◌∙◌}
use Rattle.qc_conn.proofs.Marks.{polled_mark}
use Rattle.qc_conn.proofs.connection.Connection.poll.Goals as goal

-- the mark
pub returns-clause-mark : goal.returns-clause-mark
returns-clause-mark g c = polled_mark _ _ c.poll.ensures.leads ∙ ap (λ v. v.failed) c.self.view_is

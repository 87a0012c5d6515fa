use Rattle.std.proofs.Common.{ap, ◌∙◌}
use Rattle.qc_conn.proofs.Marks.{asked_mark}
use Rattle.qc_conn.proofs.connection.Connection.ping.Goals as goal

-- the mark
pub returns-clause-mark : goal.returns-clause-mark
returns-clause-mark g c = asked_mark _ _ _ c.ping.ensures ∙ ap (λ v. v.failed) c.self.view_is

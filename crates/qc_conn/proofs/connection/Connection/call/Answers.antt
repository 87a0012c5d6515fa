use Rattle.std.proofs.Common.{ap, sym, ◌∙◌}
use Rattle.qc_conn.proofs.Marks.{input_mark}
use Rattle.qc_conn.proofs.connection.Connection.call.Goals as goal

-- the mark
pub returns-in-Ok-clause-alive : goal.returns-in-Ok-clause-alive
returns-in-Ok-clause-alive g c = input_mark _ _ _ _ _ _ c.in-Ok.ensures ∙ ap (λ v. v.failed) c.self.view_is ∙ sym c.if-is_failed.ensures

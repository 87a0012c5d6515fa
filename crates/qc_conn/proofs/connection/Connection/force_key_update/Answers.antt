use Rattle.std.proofs.Common.{[], ap, sym, ◌∙◌}
use Rattle.qc_state.specs.View.{ideal}
use Rattle.qc_conn.proofs.ForcedUpdates.{rises_from, updated_from}
use Rattle.qc_conn.proofs.Marks.{updated_mark}
use Rattle.qc_conn.proofs.connection.Connection.force_key_update.Goals as goal

-- what is left
pub returns-clause-leads : goal.returns-clause-leads
returns-clause-leads g c = updated_from _ _ _ _ (ap (λ a. a.state) (c.update.ensures.leads [])) (ap (λ v. ideal g.U.Random.Rng.stream v.core) c.self.view_is)

-- the mark
pub returns-clause-mark : goal.returns-clause-mark
returns-clause-mark g c = updated_mark _ _ _ (ap (λ a. a.state) (c.update.ensures.leads [])) ∙ ap (λ v. v.failed) c.self.view_is

-- the epoch
pub returns-clause-rises : goal.returns-clause-rises
returns-clause-rises g c = λ is some.
    rises_from _ _ _ _ (ap (λ a. a.state) (c.update.ensures.leads [])) (ap (λ v. ideal g.U.Random.Rng.stream v.core) c.self.view_is) (sym c.update.ensures.may ∙ is) some

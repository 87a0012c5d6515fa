use Rattle.std.proofs.Common.{ap, ◌∙◌}
use Rattle.qc_state.specs.Verdicts.{lists_version}
use Rattle.qc_receive.proofs.Mismatches.{lacks_of}
use Rattle.qc_receive.proofs.unnumbered.lacks_version.Goals as goal

-- the version that this end speaks is the view's
pub returns-then-is_unanswered : goal.returns-then-is_unanswered
returns-then-is_unanswered g c = lacks_of _ _ _ _ _ c.is_unanswered.ensures c.if-is_unanswered.true (c.lists_version.ensures ∙ ap (λ v. lists_version v.setup.fixed.version c.args.payload.now) c.core.view_is)

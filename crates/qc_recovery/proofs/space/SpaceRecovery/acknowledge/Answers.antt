use Rattle.qc_recovery.proofs.space.SpaceRecovery.acknowledge.Goals as goal

pub returns-clause-fewer : goal.returns-clause-fewer
returns-clause-fewer c = λ limit. rw c.raise.ensures.flight (c.acknowledge-acked.ensures.fewer limit)

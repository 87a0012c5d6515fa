use Rattle.std.proofs.Common.{refl}
use Rattle.qc_path.proofs.Arrivals.{none_came}
use Rattle.qc_path.proofs.dedup.Dedup.new.Goals as goal

pub returns-clause-none : goal.returns-clause-none
returns-clause-none c = none_came _ c.first_slots.ensures.size refl c.first_slots.ensures.none

use Rattle.qc_laws.proofs.OnlyOnce.{none_twice, none_before}
use Rattle.qc_laws.proofs.laws.numbers_count_once.Goals as goal

pub returns-clause-once : goal.returns-clause-once
returns-clause-once c = λ came ns w r h. none_twice came ns w r h

pub returns-clause-before : goal.returns-clause-before
returns-clause-before c = λ came ns w r h m among. none_before came ns w r h m among

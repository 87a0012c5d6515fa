use Rattle.std.proofs.Common.{rules}
use Rattle.qc_toy.specs.CipherLaws.{xored_twice}
use Rattle.qc_toy.proofs.cipher.open_in_place.Goals as goal

pub returns-clause-unchanged : goal.returns-clause-unchanged
returns-clause-unchanged c = λ _. rw (c.xor_with-2.ensures, c.xor_with.ensures, xored_twice) (search rules)

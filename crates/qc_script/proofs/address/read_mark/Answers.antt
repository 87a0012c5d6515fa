use Rattle.std.proofs.Common.{◌∙◌, ap, length}
use Rattle.qc_script.proofs.FieldLemmas.{ecn_is_digit}
use Rattle.qc_script.proofs.address.read_mark.Goals as goal

pub returns-else-field-eq1 : goal.returns-else-field-eq1
returns-else-field-eq1 c mark e = c.if-field-eq1.false (ap length (e ∙ ecn_is_digit mark))

use Rattle.std.proofs.Common.{◌≤◌, ◌^◌, arith}
use Rattle.std.proofs.lemmas.Bool.Decides.{nat_tests}
use Rattle.qc_script.proofs.FieldLemmas.{code_too_great}
use Rattle.qc_script.proofs.fields.read_code.Goals as goal

pub returns-in-Err : goal.returns-in-Err
returns-in-Err c = let great : 2 ^ 62 ≤ c.in_ok-code.code = grind (arith, nat_tests) in code_too_great c.args.digits.now c.in_ok-code.code c.in_ok-code.ensures (omega arith) great

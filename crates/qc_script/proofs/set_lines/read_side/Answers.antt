use Rattle.qc_script.specs.Script.{side_line}
use Rattle.qc_base.specs.declared.side.Side.{Side}
use Rattle.qc_base.specs.declared.side.Side.TheVariants.{Client, Server}
use Rattle.std.proofs.Common.{List, ℕ, ◌≢◌, ◌++◌}
use Rattle.qc_script.proofs.set_lines.read_side.Goals as goal

pub returns-in-Some : goal.returns-in-Some
unfolding side_line
returns-in-Some c = c.in-Some.ensures

pub returns-in-Some-after_word : goal.returns-in-Some-after_word
unfolding side_line
returns-in-Some-after_word c = c.in-Some-after_word.ensures

pub returns-in-None : goal.returns-in-None
unfolding side_line
returns-in-None c = none
  where
    none : (side : Side) (rest : List ℕ) → c.args.text.now ≢ side_line side ++ rest
    none Client rest = c.in_default.ensures rest
    none Server rest = c.in-None.ensures rest

-- The text of the steps before an input that was refused, and of the refusal.
use Rattle.std.specs.Prelude.{ℕ, List, [], ◌++◌, codes, decimal}
use Rattle.qc_conn.specs.declared.driving.BadWhy.{BadWhy}
use Rattle.qc_conn.specs.declared.driving.BadWhy.TheVariants.{ZeroDatagrams, Direction, NotAsked, Sequence, IdLength}
use Rattle.qc_conn.specs.declared.driving.DriveKind.{DriveKind}
use Rattle.qc_conn.specs.declared.driving.DriveKind.TheVariants as drive
use Rattle.qc_state.specs.declared.trace.Step.{Step}
use Rattle.qc_text.specs.TraceText.{steps_text}

-- what is wrong with a call: a transmit may send no datagram, the direction of the stream with an id doesn't allow it, more ids are given than
-- were asked for, or one has another number or length than it is to have
unfoldable pub why_text : BadWhy → List ℕ
why_text ZeroDatagrams = codes "zero datagrams"
why_text (Direction id) = codes "direction " ++ decimal id
why_text (NotAsked asked given) = codes "not asked " ++ decimal asked ++ codes " " ++ decimal given
why_text (Sequence wanted given) = codes "sequence " ++ decimal wanted ++ codes " " ++ decimal given
why_text (IdLength wanted given) = codes "id length " ++ decimal wanted ++ codes " " ++ decimal given

-- the line that names the input that was refused, and why; no line where an error names none
unfoldable pub refusal_line : DriveKind → List ℕ
refusal_line drive.OutOfMemory = []
refusal_line (drive.TimeBack at given greatest) = codes "input " ++ decimal at ++ codes " time back " ++ decimal given ++ codes " " ++ decimal greatest ++ codes "\n"
refusal_line (drive.BadCall at why) = codes "input " ++ decimal at ++ codes " bad call " ++ why_text why ++ codes "\n"
refusal_line drive.Failed = []

-- the text of the steps before an input that was refused, and of the refusal
unfoldable pub refused_text : List Step → DriveKind → List ℕ
refused_text steps kind = steps_text steps ++ refusal_line kind

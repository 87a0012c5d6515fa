-- How a run ends: its status, what it read and what it wrote.
use Rattle.std.specs.Prelude.{◌≡◌, ℕ, ◌<◌, ◌≤◌, List, [], ◌∷◌, ◌++◌, length, map, Option, String, codes, decimal}
use Rattle.std.specs.Global.{Global}
use Rattle.std.specs.String.{string_bytes}
use Rattle.qc_run.specs.Outside.{Appends, Gives, IsAtEnd}
use Rattle.qc_script.specs.Script.{lines_of, IsScript, IsFirstBad}
use Rattle.qc_run.specs.declared.run.Status.{Status}
use Rattle.qc_run.specs.declared.run.Status.TheVariants.{BadScript, NoMemory}
use Rattle.qc_state.specs.declared.input.Input.{Input}
use Rattle.qc_script.specs.declared.settings.Settings.{Settings}
use Rattle.qc_script.specs.declared.script.ScriptError.{ScriptError}
use Rattle.qc_script.specs.declared.script.ScriptError.TheVariants.{BadLine, OutOfMemory}

-- the words are the one word `run`
abbrev pub AsksRun : List (String Global) → Type 0
AsksRun words = map string_bytes words ≡ codes "run" ∷ []

-- what is written where the words after the program's name are none that it knows
abbrev pub usage_line : List ℕ
usage_line = codes "usage: qconn run | qconn gen N\n"

-- what is written where bytes are no script: the first bad line, or 0 where there are too many bytes
abbrev pub script_line : ℕ → List ℕ
script_line k = codes "script line " ++ (decimal k ++ codes "\n")

-- the bytes are no script: there are too many of them, or line k is the first bad one
pub data IsBad (bytes : List ℕ) : ℕ → Type 0 where
  too_long : 67108864 < length bytes → IsBad bytes 0
  bad_line : (k : ℕ) → length bytes ≤ 67108864 → IsFirstBad (lines_of bytes) k → IsBad bytes k

-- the status and the last line where bytes aren't read as a script
abbrev pub status_of : ScriptError → Status
status_of (BadLine k) = BadScript
status_of OutOfMemory = NoMemory

-- what is written for the error: which line is bad, or that memory ran out
abbrev pub line_of : ScriptError → List ℕ
line_of (BadLine k) = script_line k
line_of OutOfMemory = codes "no memory\n"

-- the bytes are one script, and a text that is one of a run of its inputs was written
pub record Performed (IsRun : Settings → List Input → List ℕ → Type 0) (bytes : List ℕ) (held held' : Option (List ℕ)) : Type 0 where
  pub settings : Settings
  pub inputs : List Input
  pub text : List ℕ
  pub script : IsScript (lines_of bytes) settings inputs
  pub run : IsRun settings inputs text
  pub written : Appends held held' text

-- the bytes are no script, and the line that says so was written
pub record NamedBad (bytes : List ℕ) (held held' : Option (List ℕ)) : Type 0 where
  pub line : ℕ
  pub bad : IsBad bytes line
  pub written : Appends held held' (script_line line)

-- the source was read to its end, what it gave is one script, and the text of a run of its inputs was written
pub record Finished (IsRun : Settings → List Input → List ℕ → Type 0) (left left' held held' : Option (List ℕ)) : Type 0 where
  pub bytes : List ℕ
  pub read : Gives left left' bytes
  pub whole : IsAtEnd left'
  pub performed : Performed IsRun bytes held held'

-- what the source gave is no script, and the line that says so was written; a source that has more bytes than a script
-- may have was read one byte beyond that
pub record NoScript (left left' held held' : Option (List ℕ)) : Type 0 where
  pub bytes : List ℕ
  pub read : Gives left left' bytes
  pub whole : length bytes ≤ 67108864 → IsAtEnd left'
  pub named : NamedBad bytes held held'

-- The parts of how a run ends, put together.
use Rattle.std.proofs.Common.{◌≡◌, ℕ, ◌<◌, ◌≤◌, List, [], ◌∷◌, length, get_or, Option, sym, ap, arith}
use Rattle.std.specs.Prelude.{String}
use Rattle.std.specs.Global.{Global}
use Rattle.qc_run.specs.Ending.{too_long, bad_line, Performed, NamedBad, script_line, status_of, line_of}
use Rattle.qc_run.specs.Outside.{Appends}
use Rattle.qc_script.specs.Script.{lines_of, IsScript, IsRefusal}
use Rattle.qc_run.specs.declared.run.Status.TheVariants.{BadScript}
use Rattle.qc_state.specs.declared.input.Input.{Input}
use Rattle.qc_script.specs.declared.settings.Settings.{Settings}
use Rattle.qc_script.specs.declared.script.ScriptError.{ScriptError}
use Rattle.qc_script.specs.declared.script.ScriptError.TheVariants.{BadLine, OutOfMemory}

pub named_long : (bytes : List ℕ) (held held' : Option (List ℕ)) → 67108864 < length bytes → Appends held held' (script_line 0) → NamedBad bytes held held'
named_long bytes held held' long h = record { line = 0; bad = too_long long; written = h }

pub named_refused : (bytes : List ℕ) (why : ScriptError) (held held' : Option (List ℕ)) → length bytes ≤ 67108864 → IsRefusal (lines_of bytes) why → status_of why ≡ BadScript → Appends held held' (line_of why) → NamedBad bytes held held'
named_refused bytes (BadLine k) held held' inside bad status h = record { line = k; bad = bad_line k inside bad; written = h }
named_refused bytes OutOfMemory held held' inside bad status h = absurd (cc)

pub performed : (IsRun : Settings → List Input → List ℕ → Type 0) (bytes : List ℕ) (settings : Settings) (inputs : List Input) (text : List ℕ) (held held' : Option (List ℕ)) → IsScript (lines_of bytes) settings inputs → IsRun settings inputs text → Appends held held' text → Performed IsRun bytes held held'
performed IsRun bytes settings inputs text held held' script run h = record { settings = settings; inputs = inputs; text = text; script = script; run = run; written = h }

pub one_word : (words : List (String Global)) (word : String Global) → 1 ≤ length words → length words < 2 → word ≡ get_or words 0 word → words ≡ word ∷ []
one_word [] word some few is = absurd (omega arith)
one_word (w ∷ []) word some few is = ap (λ (x : String Global). x ∷ []) (sym is)
one_word (w ∷ v ∷ words) word some few is = absurd (omega arith)

-- Where the random words of a script's connection come from.
use Rattle.std.specs.Prelude.{Option, None, Some}
use Rattle.rand_core.specs.Stream.{Stream}
use Rattle.rand_core.specs.Steps.{stream_of, steps_u32}
use Rattle.rand_chacha.specs.ChaCha.{ChaCha, next_word, of_seed}
use Rattle.qc_toy.specs.Zeros.{zero_stream}
use Rattle.qc_script.specs.declared.settings.RandomWords.{RandomWords}
use Rattle.qc_script.specs.declared.settings.RandomWords.TheVariants.{Zeros, Seed}
use Rattle.qc_run.specs.declared.random.ScriptRandom.{ScriptRandom}
use Rattle.qc_run.specs.declared.random.ScriptRandom.TheVariants as source

-- what ChaCha20, of ten double rounds, gives from now on (RFC 8439, section 2.3)
abbrev pub chacha20_stream : ChaCha → Stream
chacha20_stream g = stream_of (steps_u32 (next_word 10)) g

-- what a source gives from now on
abbrev pub words_of : ScriptRandom → Stream
words_of (source.Zeros zeros) = zero_stream
words_of (source.ChaCha20 g) = chacha20_stream g

-- what the source gives that a line names, from its start on: zeros where there is no line
abbrev pub words_named : Option RandomWords → Stream
words_named None = zero_stream
words_named (Some Zeros) = zero_stream
words_named (Some (Seed seed)) = chacha20_stream (of_seed seed)

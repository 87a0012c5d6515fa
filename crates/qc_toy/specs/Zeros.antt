-- A random source that gives zeros alone.
use Rattle.std.specs.Prelude.{replicate}
use Rattle.rand_core.specs.Stream.{Stream}

-- every word drawn is 0 and every byte filled in is 0, whatever was drawn before
abbrev pub zero_stream : Stream
zero_stream = record { u32_after = λ _. 0; u64_after = λ _. 0; bytes_after = λ _ n. replicate n 0 }

-- What a client's session knows as it starts.
use Rattle.std.specs.Prelude.{Option, None, Some, Result, Ok, Err}

-- The peer's parameters are there.
abbrev pub GivesParameters : {P E : Type 0} → Result (Option P) E → Type 0
GivesParameters (Ok (Some parameters)) = Unit {0}
GivesParameters (Ok None) = ⊥
GivesParameters (Err error) = ⊥

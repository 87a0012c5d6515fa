-- What is answered of a server's first packet that its endpoint opened.
use Rattle.std.specs.Prelude.{Option, Some, None, Result, Ok, Err}
use Rattle.qc_conn.specs.declared.connection.FirstError.{FirstError}
use Rattle.qc_conn.specs.declared.connection.FirstError.TheVariants.{Lost, Fault}
use Rattle.qc_state.specs.declared.life.ConnectionError.{ConnectionError}

module _ {T : Type 0} where
  -- the packet did what it does: the call wasn't given up
  abbrev pub OnDone : Result T FirstError → Type 0 → Type 0
  OnDone (Ok x) P = P
  OnDone (Err (Lost why)) P = P
  OnDone (Err (Fault fault)) P = Unit {0}

  -- the reason for the end that is answered, where one is
  abbrev pub lost_of : Result T FirstError → Option ConnectionError
  lost_of (Ok x) = None
  lost_of (Err (Lost why)) = Some why
  lost_of (Err (Fault fault)) = None

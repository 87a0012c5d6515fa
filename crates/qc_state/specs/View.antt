-- The view of a connection: nine groups of plain data.
use Rattle.std.specs.Prelude.{List, Option}
use Rattle.rand_core.specs.Stream.{Stream}
use Rattle.qc_state.specs.declared.numbers.Numbers.{Numbers}
use Rattle.qc_state.specs.declared.keys.KeyGroup.{KeyGroup}
use Rattle.qc_state.specs.declared.life.Life.{Life}
use Rattle.qc_state.specs.declared.paths.Paths.{Paths}
use Rattle.qc_state.specs.declared.timers.Timers.{Timers}
use Rattle.qc_state.specs.declared.waiting.Waiting.{Waiting}
use Rattle.qc_state.specs.declared.setup.Setup.{Setup}
use Rattle.qc_state.specs.declared.lower.Lower.{Lower}
use Rattle.qc_state.specs.declared.tokens.Issuer.{Issuer}
use Rattle.qc_state.specs.declared.deeds.Did.{Did}
use Rattle.qc_state.specs.Types.{Types}
use Rattle.qc_state.specs.Setup.{ideal_setup}

-- the state, with the source of random words as it is
pub record Held (t : Types) (R : Type 0) : Type 0 where
  pub numbers : Numbers
  pub keys : KeyGroup t.H t.P
  pub life : Life
  pub paths : Paths t.C
  pub timers : Timers
  pub waiting : Waiting
  pub setup : Setup R
  pub lower : Lower t.S
  pub issuer : Option (Issuer t.K t.T)

-- the view: the source of random words is known by its stream alone
abbrev pub View : Types → Type 0
View t = Held t Stream

-- a view, and the deeds so far
pub record At (t : Types) : Type 0 where
  pub state : View t
  pub did : List Did

module _ {t : Types} where
  abbrev pub at : View t → List Did → At t
  at v ds = record { state = v; did = ds }

module _ {t : Types} {R : Type 0} where
  abbrev pub ideal : (R → Stream) → Held t R → View t
  ideal stream v = record {
    numbers = v.numbers;
    keys = v.keys;
    life = v.life;
    paths = v.paths;
    timers = v.timers;
    waiting = v.waiting;
    setup = ideal_setup stream v.setup;
    lower = v.lower;
    issuer = v.issuer;
  }

  abbrev pub held : (R → Stream) → Held t R → List Did → At t
  held stream v ds = record { state = ideal stream v; did = ds }

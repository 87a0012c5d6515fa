-- What a server's settings say to a client's token
use Rattle.std.specs.Prelude.{ℕ, Result}
use Rattle.qc_token.specs.declared.token_log.TokenReuseError.{TokenReuseError}
use Rattle.qc_config.specs.ServerValues.{ServerValues}
use Rattle.qc_config.specs.Incoming.{Taker}

module _ {C K T L : Type 0} where
  -- what a server knows when a token comes: `time` is what its clock shows, and `takes` what its log says
  abbrev pub taker_of : (T → ℕ) → (L → ℕ → ℕ → ℕ → Result (Unit {0}) TokenReuseError) → ServerValues C K T L → Taker
  taker_of time takes s = record {
    now = time s.time_source;
    retry_lifetime = s.retry_token_lifetime;
    lifetime = s.validation_token.lifetime;
    takes = takes s.validation_token.log;
  }

  -- the settings afterwards: of all, the log alone may change
  abbrev pub with_log : L → ServerValues C K T L → ServerValues C K T L
  with_log log s = record s { validation_token = record s.validation_token { log = log } }

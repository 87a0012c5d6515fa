-- What the calls of the application's view of datagrams do to a connection, and why one isn't sent (RFC 9221).
use Rattle.std.specs.Prelude.{ℕ, Bool, true, false, List, [], ◌∷◌, Option, None, Some}
use Rattle.qc_conn.specs.declared.datagrams.SendDatagramError.{SendDatagramError}
use Rattle.qc_conn.specs.declared.datagrams.SendDatagramError.TheVariants as error
use Rattle.qc_datagrams.specs.declared.datagrams.Datagrams.{Datagrams}
use Rattle.qc_datagrams.specs.declared.datagrams.SendRefusal.{SendRefusal}
use Rattle.qc_datagrams.specs.declared.datagrams.SendRefusal.TheVariants as refusal
use Rattle.qc_datagrams.specs.Steps.{Sent, Taken}
use Rattle.qc_state.specs.Lower.{datagrams_stepped}
use Rattle.qc_state.specs.Types.{Types}
use Rattle.qc_state.specs.View.{Held}
use Rattle.qc_streams.specs.Streams.{failed}

-- why a datagram is refused, as the application is told; one that may be sent later is given back
abbrev pub refused_as : SendRefusal → List ℕ → SendDatagramError
refused_as refusal.Disabled body = error.Disabled
refused_as refusal.UnsupportedByPeer body = error.UnsupportedByPeer
refused_as refusal.TooLarge body = error.TooLarge
refused_as refusal.Blocked body = error.Blocked body

-- why one isn't sent, the first that holds: the connection had failed, it is refused, or memory ran out
abbrev pub send_error : (failed : Bool) → Option SendRefusal → List ℕ → SendDatagramError
send_error true refused body = error.Failed
send_error false (Some why) body = refused_as why body
send_error false None body = error.OutOfMemory

module _ {t : Types} {R : Type 0} where
  -- the same but for the datagrams
  abbrev pub with_datagrams : Held t R → Datagrams → Held t R
  with_datagrams c d = record c { lower = record c.lower { datagrams = d } }

  -- the application sends a datagram, refused or not, which may have so many bytes, where the peer takes any: nothing but the datagrams changes
  abbrev pub posted : (most : Option ℕ) → (drops : Bool) → List ℕ → Held t R → Held t R
  posted most drops body c = record c { lower = datagrams_stepped (Sent most drops body ∷ []) c.lower }

  -- it takes the oldest that came, where there is one
  abbrev pub taken_one : Held t R → Held t R
  taken_one c = record c { lower = datagrams_stepped (Taken ∷ []) c.lower }

  -- memory ran out: the connection has failed
  abbrev pub marked : Held t R → Held t R
  marked c = record c { lower = record c.lower { streams = failed c.lower.streams } }

  -- what a datagram that isn't sent leaves: that one was blocked is noted, and that the connection has failed
  abbrev pub unsent : SendDatagramError → (most : Option ℕ) → (drops : Bool) → List ℕ → Held t R → Held t R
  unsent error.Failed most drops body c = c
  unsent error.OutOfMemory most drops body c = marked c
  unsent error.UnsupportedByPeer most drops body c = c
  unsent error.Disabled most drops body c = c
  unsent error.TooLarge most drops body c = c
  unsent (error.Blocked back) most drops body c = posted most drops body c

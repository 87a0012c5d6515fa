-- Why this end ends a connection with KEY_UPDATE_ERROR (RFC 9001, sections 6.2, 6.4 and 6.7): a packet that came shows an update which its sender wasn't
-- allowed to make, or the session refuses with that code what the peer's handshake says. No other packet, timer or transmit has this end close with it.
-- And behind which packets an open connection ends at once.
use Rattle.std.specs.Prelude.{◌≡◌, ℕ, ◌+◌, ◌≤◌, ◌<◌, List, [], ◌∷◌, ◌++◌, Option, None, Some, IfSome, Err}
use Rattle.qc_base.specs.declared.side.SpaceId.{SpaceId}
use Rattle.qc_base.specs.declared.transport_error.TransportError.{TransportError}
use Rattle.qc_state.specs.declared.deeds.Did.{Did}
use Rattle.qc_state.specs.declared.deeds.Did.TheVariants as did
use Rattle.qc_state.specs.declared.deeds.Layer.TheVariants as layer
use Rattle.qc_state.specs.declared.deeds.Verdict.{Verdict}
use Rattle.qc_state.specs.declared.deeds.Verdict.TheVariants as verdict
use Rattle.qc_state.specs.declared.input.Input.{Input}
use Rattle.qc_base.specs.Time.{plus}
use Rattle.qc_state.specs.declared.life.ConnectionError.{ConnectionError}
use Rattle.qc_state.specs.declared.life.ConnectionError.TheVariants as lost
use Rattle.qc_state.specs.declared.life.State.TheVariants.{Drained}
use Rattle.qc_state.specs.Keys.{integrity_limit_of}
use Rattle.qc_state.specs.declared.trace.Step.{Step}
use Rattle.qc_state.specs.Run.{IsStep}
use Rattle.qc_state.specs.Types.{Types, Meaning}
use Rattle.qc_state.specs.View.{View, At}

-- KEY_UPDATE_ERROR (RFC 9000, section 20.1)
abbrev pub KEY_UPDATE_ERROR : ℕ
KEY_UPDATE_ERROR = 0x0e

-- a call with which a session goes on: it reads these bytes, writes, or gives the 1-RTT keys of the next epoch
pub data SessionCall : Type 0 where
  Reads : (bytes : List ℕ) → SessionCall
  Writes : SessionCall
  GivesNext : SessionCall

module _ {t : Types} where
  -- what calls leave of a session, one after the other
  abbrev pub session_after : Meaning t → List SessionCall → t.S → t.S
  session_after m [] session = session
  session_after m (Reads bytes ∷ calls) session = session_after m calls (m.after_read session bytes)
  session_after m (Writes ∷ calls) session = session_after m calls (m.after_write session)
  session_after m (GivesNext ∷ calls) session = session_after m calls (m.after_next session)

  -- calls lead from one session to another
  abbrev pub IsLed : Meaning t → (from session : t.S) → Type 0
  IsLed m from session = (calls : List SessionCall) × (session ≡ session_after m calls from)

  -- Why this end gives an error of its own as the reason for the end, where these deeds stand before it, and a step began with this session. It closed
  -- right behind a packet that shows an update which its sender wasn't allowed to make; or right behind bytes that the session was given, and that it
  -- refuses with this error; or the session refuses the peer's parameters with it.
  pub data IsCaused (m : Meaning t) (from : t.S) (before : List Did) (error : TransportError) : Type 0 where
    BadUpdate : (earlier : List Did) → (space : Option SpaceId) → (number : ℕ) → before ≡ earlier ++ did.Piece space (Some number) verdict.BadUpdate ∷ did.Rose 2 ∷ [] →
        IsCaused m from before error
    RefusedBytes : (earlier : List Did) → (session : t.S) → (bytes : List ℕ) → IsLed m from session → m.reads session bytes ≡ Err error →
        before ≡ earlier ++ did.Gave layer.Session bytes ∷ did.Rose 2 ∷ [] → IsCaused m from before error
    RefusedParameters : (session : t.S) → IsLed m from session → m.parameters session ≡ Err error → IsCaused m from before error

  -- So it is with each reason among a step's deeds that is an error of this end's with KEY_UPDATE_ERROR's code.
  abbrev pub CausesUpdateErrors : Meaning t → (from : t.S) → List Did → Type 0
  CausesUpdateErrors m from ds =
      (before behind : List Did) (error : TransportError) → ds ≡ before ++ did.Lost (lost.TransportError error) ∷ behind → error.code ≡ KEY_UPDATE_ERROR → IsCaused m from before error

  -- and with each step of a run, from the session with which it began
  unfoldable pub EachCauses : Meaning t → ℕ → View t → List Input → List Step → View t → Type 0
  EachCauses m k s (i ∷ is) (x ∷ xs) s' = (mid : View t) × IsStep m k s i x mid × CausesUpdateErrors m s.lower.session x.did × EachCauses m (k + 1) mid is xs s'
  EachCauses m k s is xs s' = Unit {0}

-- ---- and where it has to

-- To what life an open connection rises behind a packet with this verdict. It is closed where the packet shows a fault of its sender's: reserved bits that
-- aren't 0 (RFC 9000, sections 17.2 and 17.3.1), or an update that it wasn't allowed to make (RFC 9001, sections 6.2 and 6.4). And it drains behind a
-- list of versions without this end's (RFC 9000, section 6.2).
abbrev pub rises_behind : Verdict → Option ℕ
rises_behind verdict.BadBits = Some 2
rises_behind verdict.BadUpdate = Some 2
rises_behind verdict.Versions = Some 3
rises_behind _ = None

-- the rank of the life behind these deeds, from the one before them
abbrev pub rank_behind : (rank : ℕ) → List Did → ℕ
rank_behind rank [] = rank
rank_behind rank (did.Rose life ∷ ds) = rank_behind life ds
rank_behind rank (_ ∷ ds) = rank_behind rank ds

-- the first of these deeds is that the life rose to this rank
abbrev pub RisesFirst : (rank : ℕ) → List Did → Type 0
RisesFirst rank (did.Rose life ∷ ds) = life ≡ rank
RisesFirst rank _ = ⊥

-- an open connection does so right behind each such packet, before anything else is done
abbrev pub EndsBehind : (rank : ℕ) → List Did → Type 0
EndsBehind rank [] = Unit {0}
EndsBehind rank (did.Piece space number v ∷ ds) = (rank < 2 → IfSome (rises_behind v) (λ life. RisesFirst life ds)) × EndsBehind rank ds
EndsBehind rank (did.Rose life ∷ ds) = EndsBehind life ds
EndsBehind rank (_ ∷ ds) = EndsBehind rank ds

-- ---- packets that don't open

-- the deed by which a reason is given, where none was before
abbrev pub reason_deeds : Option ConnectionError → ConnectionError → List Did
reason_deeds None why = did.Lost why ∷ []
reason_deeds (Some earlier) why = []

module _ {t : Types} where
  -- A packet of a form with this space, which its key didn't open, counts, and is told of. Where more packets didn't open than the key that seals in the
  -- highest space lets pass, the connection ends at once, with AEAD_LIMIT_REACHED as the reason, if none was given before; and elsewhere it goes on
  -- (RFC 9001, section 6.6).
  pub record Fails (space : SpaceId) (a b : At t) : Type 0 where
    pub counted : b.state.keys.failures ≡ plus a.state.keys.failures 1
    pub ends : (limit : ℕ) → integrity_limit_of a.state.keys a.state.keys.highest ≡ Some limit → limit < b.state.keys.failures → (b.state.life.state ≡ Drained)
        × (b.did ≡ a.did ++ did.Piece (Some space) None verdict.Failure ∷ did.Rose 4 ∷ reason_deeds a.state.life.reason (lost.TransportError (record { code = 0x0f; frame = None })))
    pub goes_on : (limit : ℕ) → integrity_limit_of a.state.keys a.state.keys.highest ≡ Some limit → b.state.keys.failures ≤ limit → (b.state.life ≡ a.state.life) × (b.did ≡ a.did ++ did.Piece (Some space) None verdict.Failure ∷ [])

-- What holds of a toy session over any calls.
use Rattle.std.specs.Prelude.{◌≡◌, ℕ, false, List, [], ◌∷◌, map, None}
use Rattle.qc_toy.specs.declared.session.ToySession.{ToySession}
use Rattle.qc_toy.specs.Handshake.{session_after_next, session_after_read, session_after_write, session_handshaking, steps_left}
use Rattle.qc_toy.specs.Messages.{Message, kind_byte, messages, peer_messages, refusal}

-- the calls that change a session: it reads bytes of the peer, writes what is due, and gives the next 1-RTT keys
pub data SessionCall : Type 0 where
  Read : List ℕ → SessionCall
  Write : SessionCall
  NextKeys : SessionCall

-- what a call leaves
unfoldable pub session_after : SessionCall → ToySession → ToySession
session_after (Read bytes) s = session_after_read s bytes
session_after Write s = session_after_write s
session_after NextKeys s = session_after_next s

-- what a list of calls leaves
abbrev pub session_run : List SessionCall → ToySession → ToySession
session_run [] s = s
session_run (call ∷ calls) s = session_run calls (session_after call s)

-- The whole messages that a session has heard are its peer's, in their order and of their form: of bytes with another one nothing is kept,
-- since that aborts the handshake (RFC 8446, section 4)
unfoldable pub HearsInOrder : ToySession → Type 0
HearsInOrder s = refusal (peer_messages s.side) (messages 3 s.heard) ≡ None

-- both ends of a handshake: this end has made all its steps, the last of which writes its last message, and has heard all messages of its
-- peer, in their order
pub record HasBothEnds (s : ToySession) : Type 0 where
  pub written : steps_left s ≡ 0
  pub heard : map (λ (m : Message). m.kind) (messages 2 s.heard) ≡ map kind_byte (peer_messages s.side)

-- A handshake is complete only once a session has sent its own last message and has heard its peer's (RFC 9001, section 4.1.1)
unfoldable pub CompletesBehindBoth : ToySession → Type 0
CompletesBehindBoth s = session_handshaking s ≡ false → HasBothEnds s

-- What happens to the datagrams of a connection, as steps (RFC 9221)
use Rattle.std.specs.Prelude.{ℕ, Bool, if◌then◌else◌, List, [], ◌∷◌, Option, None, Some}
use Rattle.qc_datagrams.specs.declared.datagrams.Datagrams.{Datagrams}
use Rattle.qc_datagrams.specs.declared.datagrams.SendRefusal.{SendRefusal}
use Rattle.qc_datagrams.specs.Datagrams.{frame_taken, is_refused, longer_dropped, room_told, send_queued, send_refusal, send_refused}
use Rattle.qc_datagrams.specs.Queue.{rest}

-- what happens to them
pub data Step : Type 0 where
  -- a DATAGRAM frame comes, refused or not
  Came : List ℕ → Step
  -- the application takes the oldest that came
  Taken : Step
  -- the application sends one, refused or not. It may have so many bytes, where the peer takes datagrams; where there is no room for it, the
  -- oldest are dropped, if that is allowed
  Sent : Option ℕ → (drops : Bool) → List ℕ → Step
  -- the oldest that is to be sent is sealed; that one was refused before because of a full buffer is remembered no longer
  Sealed : Step
  -- the path takes smaller datagrams than before: those that are to be sent and have more than so many bytes are dropped
  Shrunk : (most : ℕ) → Step

-- one is queued to be sent, unless it is refused
abbrev pub sent_unless : Option SendRefusal → List ℕ → Datagrams → Datagrams
sent_unless None d s = send_queued d s
sent_unless (Some refusal) d s = send_refused refusal s

-- what a step leaves
unfoldable pub after_step : Step → Datagrams → Datagrams
after_step (Came d) s = if is_refused d s then s else frame_taken d s
after_step Taken s = record s { incoming = rest s.incoming }
after_step (Sent most drops d) s = sent_unless (send_refusal most drops d s) d s
after_step Sealed s = room_told (record s { outgoing = rest s.outgoing })
after_step (Shrunk most) s = longer_dropped most s

-- what steps leave, one after the other
unfoldable pub after : List Step → Datagrams → Datagrams
after [] s = s
after (x ∷ xs) s = after xs (after_step x s)

-- What a session's refusal says.
use Rattle.std.specs.Prelude.{◌≡◌, ℕ, ◌<◌, ◌^◌, Bool, Result, Err, Option, Some, None}
use Rattle.qc_base.specs.declared.transport_error.TransportError.{TransportError}
use Rattle.qc_crypto.specs.declared.errors.SessionError.{SessionError}
use Rattle.qc_crypto.specs.declared.errors.SessionError.TheVariants.{Transport, OutOfMemory}

-- The error that a call answers is the one that the session's meaning gives, or want of memory.
abbrev pub AnswersError : Result Bool TransportError → SessionError → Type 0
AnswersError answer (Transport error) = answer ≡ Err error
AnswersError answer OutOfMemory = Unit {0}

-- What a refused reading leaves: the session after the bytes that it refuses, and for want of memory
-- the session before.
abbrev pub LeavesAfter : {S : Type 0} → (after before now : S) → SessionError → Type 0
LeavesAfter after before now (Transport error) = now ≡ after
LeavesAfter after before now OutOfMemory = now ≡ before

-- A frame type, where one is named, is above 0, and fits a variable-length integer.
abbrev pub IsFrameType : Option ℕ → Type 0
IsFrameType None = Unit {0}
IsFrameType (Some frame) = (0 < frame) × (frame < 2 ^ 62)

-- An error that a CONNECTION_CLOSE frame can carry (RFC 9000, section 19.19).
pub record IsSendable (error : TransportError) : Type 0 where
  pub code : error.code < 2 ^ 62
  pub frame : IsFrameType error.frame

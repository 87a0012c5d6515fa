-- The messages of the toy's handshake: a type byte, two bytes of length, and a body.
use Rattle.std.specs.Prelude.{ℕ, zero, suc, ◌+◌, ◌*◌, ◌==◌, if◌then◌else◌, Bool, false, List, [], ◌∷◌, ◌++◌, length, take, drop, nat_lt, Option, Some, None}
use Rattle.std.specs.Int.{w16, to_be_bytes}
use Rattle.qc_base.specs.declared.side.Side.{Side}
use Rattle.qc_base.specs.declared.side.Side.TheVariants.{Client, Server}
use Rattle.qc_toy.specs.declared.messages.Kind.{Kind}
use Rattle.qc_toy.specs.declared.messages.Kind.TheVariants.{Hello, Reply, ServerEnd, ClientEnd}

-- the first byte of a message, which tells its type
abbrev pub kind_byte : Kind → ℕ
kind_byte Hello = 1
kind_byte Reply = 2
kind_byte ServerEnd = 3
kind_byte ClientEnd = 4

-- A message of a body that two bytes of length can count.
abbrev pub framed : Kind → List ℕ → List ℕ
framed kind body = kind_byte kind ∷ to_be_bytes w16 (length body) ++ body

-- A message as it is written, its body cut where two bytes of length can't count it.
unfoldable pub message : Kind → List ℕ → List ℕ
message kind body = framed kind (take 65535 body)

-- The same of a body in two parts that fits.
abbrev pub message_by_parts : Kind → (first rest : List ℕ) → List ℕ
message_by_parts kind first rest = kind_byte kind ∷ to_be_bytes w16 (length first + length rest) ++ first ++ rest

-- a message cut off the front of some bytes: its type byte, its body, and the bytes that follow it
pub record Message : Type 0 where
  pub kind : ℕ
  pub body : List ℕ
  pub rest : List ℕ

-- a message with n bytes of body, or none where the bytes behind the length are fewer
abbrev pub message_by_length : (kind : ℕ) → ℕ → List ℕ → Option Message
message_by_length kind n bytes =
    if nat_lt (length bytes) n then None else Some (record { kind = kind; body = take n bytes; rest = drop n bytes })

-- The first message of some bytes, once it is whole, and what follows it.
unfoldable pub first_message : List ℕ → Option Message
first_message [] = None
first_message (kind ∷ []) = None
first_message (kind ∷ high ∷ []) = None
first_message (kind ∷ high ∷ low ∷ bytes) = message_by_length kind (high * 256 + low) bytes

-- A body that begins with an early byte, 0 or 1.
abbrev pub begins_early : List ℕ → Bool
begins_early [] = false
begins_early (b ∷ parameters) = nat_lt b 2

-- A body that is one byte 0.
abbrev pub is_one_zero : List ℕ → Bool
is_one_zero [] = false
is_one_zero (b ∷ []) = b == 0
is_one_zero (b ∷ c ∷ rest) = false

-- The form of each body. A hello and a server's end hold an early byte and transport parameters.
unfoldable pub has_form : Kind → List ℕ → Bool
has_form Hello body = begins_early body
has_form Reply body = is_one_zero body
has_form ServerEnd body = begins_early body
has_form ClientEnd body = length body == 0

-- What an end reads of its peer, in order.
abbrev pub peer_messages : Side → List Kind
peer_messages Client = Reply ∷ ServerEnd ∷ []
peer_messages Server = Hello ∷ ClientEnd ∷ []

-- The TLS alerts of a message out of turn and of one of wrong form (RFC 8446, section 6.2).
abbrev pub unexpected_message : ℕ
unexpected_message = 0x0a

-- the alert of a message that comes in turn but has a body of wrong form
abbrev pub decode_error : ℕ
decode_error = 0x32

-- a message, if it is there, and what `next` cuts off the bytes that follow it
abbrev pub message_then : (List ℕ → List Message) → Option Message → List Message
message_then next None = []
message_then next (Some m) = m ∷ next m.rest

-- At most n messages cut off the front of some bytes, each once it is whole.
unfoldable pub messages : ℕ → List ℕ → List Message
messages zero bytes = []
messages (suc n) bytes = message_then (λ rest. messages n rest) (first_message bytes)

-- The alert with which whole messages are refused that are to be of these kinds, in order, if they are:
-- one has another type than the next, a body of wrong form, or is one too many.
abbrev pub refusal : List Kind → List Message → Option ℕ
refusal kinds [] = None
refusal [] (m ∷ rest) = Some unexpected_message
refusal (kind ∷ kinds) (m ∷ rest) =
    if m.kind == kind_byte kind then (if has_form kind m.body then refusal kinds rest else Some decode_error)
    else Some unexpected_message

-- The bodies of the first and the second message, once they are whole.
abbrev pub body_of : Option Message → Option (List ℕ)
body_of None = None
body_of (Some m) = Some m.body

-- the body of the message that follows a first one, where both are whole
abbrev pub second_of : Option Message → Option (List ℕ)
second_of None = None
second_of (Some m) = body_of (first_message m.rest)

-- the body of the first message that some bytes hold, if they hold the whole of it
abbrev pub first_body : List ℕ → Option (List ℕ)
first_body bytes = body_of (first_message bytes)

-- the body of the second message that some bytes hold, if they hold the whole of it
abbrev pub second_body : List ℕ → Option (List ℕ)
second_body bytes = second_of (first_message bytes)

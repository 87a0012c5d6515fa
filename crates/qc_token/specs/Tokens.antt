-- Tokens as they go over the wire: the sealed plain bytes, and the nonce behind them
use Rattle.std.specs.Prelude.{◌≡◌, ℕ, ◌-◌, ◌<◌, ◌^◌, List, [], ◌++◌, length, take, drop, Option, Some, None, nat_lt, if◌then◌else◌}
use Rattle.std.specs.Option.{option_map, option_and_then}
use Rattle.qc_token.specs.declared.token.Token.{Token}
use Rattle.qc_token.specs.declared.token.TokenPayload.{TokenPayload}
use Rattle.qc_token.specs.Nonce.{nonce_bytes, nonce_of}
use Rattle.qc_token.specs.TokenGrammar.{IsPayloadText}
use Rattle.qc_token.specs.TokenReading.{payload_of}
use Rattle.qc_token.specs.TokenSpelling.{payload_bytes}

module _ {A : Type 0} (sealed : A → List ℕ → List ℕ → List ℕ) (derived : List ℕ → A) where
  -- plain bytes, sealed under the key of a nonce, with the nonce behind them
  unfoldable pub sealed_token : List ℕ → ℕ → List ℕ
  sealed_token plain nonce = sealed (derived (nonce_bytes nonce)) [] plain ++ nonce_bytes nonce

  -- the bytes that a token is written as
  unfoldable pub token_bytes : Token → List ℕ
  token_bytes t = sealed_token (payload_bytes t.payload) t.nonce

  -- these bytes are that token: sealed plain bytes that say it, and its nonce
  unfoldable pub IsTokenText : Token → List ℕ → Type 0
  IsTokenText t raw = (plain : List ℕ) × IsPayloadText t.payload plain × (t.nonce < 2 ^ 128) × (raw ≡ sealed_token plain t.nonce)

module _ {A : Type 0} (opened : A → List ℕ → List ℕ → Option (List ℕ)) (derived : List ℕ → A) where
  -- the token that these bytes are, if they are one
  unfoldable pub decoded : List ℕ → Option Token
  decoded raw =
      if nat_lt (length raw) 16 then None
      else option_map (λ payload. record { payload = payload; nonce = nonce_of (drop (length raw - 16) raw) })
      (option_and_then payload_of (opened (derived (drop (length raw - 16) raw)) [] (take (length raw - 16) raw)))

-- these bytes are plain bytes that say this, sealed
unfoldable pub IsSealedText : (List ℕ → List ℕ) → List ℕ → TokenPayload → Type 0
IsSealedText sealing body p = (plain : List ℕ) × IsPayloadText p plain × (body ≡ sealing plain)

-- where these bytes are something sealed, that was found
unfoldable pub IsOnlySealed : (List ℕ → List ℕ) → List ℕ → Option TokenPayload → Type 0
IsOnlySealed sealing body found = (p : TokenPayload) → IsSealedText sealing body p → found ≡ Some p

-- where these bytes are a token, that was found: none was found exactly where they are none
unfoldable pub IsOnlyToken : {A : Type 0} → (A → List ℕ → List ℕ → List ℕ) → (List ℕ → A) → List ℕ → Option Token → Type 0
IsOnlyToken sealed derived raw found = (t : Token) → IsTokenText sealed derived t raw → found ≡ Some t

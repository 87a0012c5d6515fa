-- The tokens that a server sends its client in NEW_TOKEN frames, for its later connections (RFC 9000, section 8.1.3): what makes them, when how
-- many wait, and that each frame holds one that is made as it is taken.
use Rattle.std.specs.Prelude.{◌≡◌, ℕ, ◌<◌, Bool, true, false, List, [], ◌∷◌, Option, None, Some}
use Rattle.std.specs.declared.net.ip_addr.IpAddr.{IpAddr}
use Rattle.rand_core.specs.Stream.{Stream}
use Rattle.qc_base.specs.declared.side.SpaceId.{SpaceId}
use Rattle.qc_base.specs.declared.side.SpaceId.TheVariants.{Handshake}
use Rattle.qc_frame.specs.Frame.{FrameValue}
use Rattle.qc_frame.specs.declared.frames.FrameOf.TheVariants as frames
use Rattle.qc_state.specs.declared.deeds.Verdict.{Verdict}
use Rattle.qc_state.specs.declared.deeds.Verdict.TheVariants as verdict
use Rattle.qc_state.specs.declared.tokens.Issuer.{Issuer}
use Rattle.qc_state.specs.declared.waiting.SpaceWaiting.{SpaceWaiting}
use Rattle.qc_state.specs.Draws.{behind_nonce, nonce}
use Rattle.qc_state.specs.Waiting.{without}
use Rattle.qc_token.specs.Tokens.{token_bytes}
use Rattle.qc_token.specs.declared.token.TokenPayload.TheVariants.{Validation}

-- the token that a master key makes at a time for an IP address, with a nonce: it says the address and the time, and is sealed under the key that
-- is made of the nonce, which stands behind it
abbrev pub token_with : {A K T : Type 0} → (sealed : A → List ℕ → List ℕ → List ℕ) → (derived : K → List ℕ → A) → (time_of : T → ℕ) → K → T → IpAddr → (nonce : ℕ) → List ℕ
token_with sealed derived time_of key time ip n = token_bytes sealed (derived key) (record { payload = Validation ip (time_of time); nonce = n })

-- the tokens that are made for addresses with nonces, by what a key makes at a time
abbrev pub made_by : {K T : Type 0} → (K → T → IpAddr → ℕ → List ℕ) → Option (Issuer K T) → Option (IpAddr → ℕ → List ℕ)
made_by token None = None
made_by token (Some i) = Some (token i.key i.time)

-- so many tokens wait anew in place of those that wait, where that is to be: a server's do as it accepts a Handshake packet, which shows
-- that the client gets what is sent to its address
abbrev pub asked_tokens : {K T : Type 0} → SpaceId → Verdict → Option (Issuer K T) → Option ℕ
asked_tokens Handshake verdict.Admitted (Some i) = Some i.sent
asked_tokens _ _ _ = None

-- how many wait of a server that was just made: some where the client's address is validated already
abbrev pub first_tokens : {K T : Type 0} → (validated : Bool) → Issuer K T → ℕ
first_tokens true i = i.sent
first_tokens false i = 0

-- a token for this address, made with the next nonce of the random words, where tokens are made: a client makes none
abbrev pub IsTokenOf : Option (IpAddr → ℕ → List ℕ) → IpAddr → Stream → (token : List ℕ) → Type 0
IsTokenOf None ip words token = ⊥
IsTokenOf (Some made) ip words token = token ≡ made ip (nonce words)

-- a frame that is a NEW_TOKEN holds such a token, and one waited
abbrev pub IsIssued : Option (IpAddr → ℕ → List ℕ) → IpAddr → FrameValue → (waiting : ℕ) → Stream → Type 0
IsIssued issuer ip (frames.NewToken token) waiting words = (0 < waiting) × IsTokenOf issuer ip words token
IsIssued issuer ip _ waiting words = Unit {0}

-- the words behind a frame that is taken: those behind the nonce, where it is a NEW_TOKEN
abbrev pub behind_frame : FrameValue → Stream → Stream
behind_frame (frames.NewToken token) words = behind_nonce words
behind_frame _ words = words

-- those behind all frames of a packet
unfoldable pub behind_tokens : List FrameValue → Stream → Stream
behind_tokens [] words = words
behind_tokens (f ∷ fs) words = behind_tokens fs (behind_frame f words)

-- each NEW_TOKEN among frames that are taken in a space is issued as its turn comes
unfoldable pub AllIssued : Option (IpAddr → ℕ → List ℕ) → IpAddr → List FrameValue → SpaceWaiting → Stream → Type 0
AllIssued issuer ip [] w words = Unit {0}
AllIssued issuer ip (f ∷ fs) w words = IsIssued issuer ip f w.tokens words × AllIssued issuer ip fs (without w f) (behind_frame f words)

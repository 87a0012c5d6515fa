-- What becomes of a packet that opened (RFC 9000, sections 7.2, 10.2 and 12.3), and of one without a number (sections 6.2 and 17.2.5): one row a
-- verdict, and the first row that holds decides.
use Rattle.std.specs.Prelude.{ℕ, ◌+◌, ◌-◌, ◌==◌, ◌&&◌, ◌||◌, not, nat_eq, nat_lt, Bool, false, if◌then◌else◌, List, [], ◌∷◌, length, take, drop, Option, Some}
use Rattle.std.specs.Cmp.Lexicographic.{pointwise}
use Rattle.std.specs.Int.{from_be_bytes, w32}
use Rattle.qc_header.specs.declared.protected.ProtectedHeader.{ProtectedHeader}
use Rattle.qc_header.specs.declared.protected.ProtectedHeader.TheVariants.{Retry, VersionNegotiate}
use Rattle.qc_header.specs.Piece.{Piece}
use Rattle.qc_base.specs.declared.side.SpaceId.{SpaceId}
use Rattle.qc_base.specs.declared.side.SpaceId.TheVariants as space
use Rattle.qc_state.specs.Paths.{is_other_source}
use Rattle.qc_state.specs.Spaces.{is_space}
use Rattle.qc_state.specs.declared.deeds.Verdict.{Verdict}
use Rattle.qc_state.specs.declared.deeds.Verdict.TheVariants.{Ignored, Seen, ReadForClose, NumberOnly, AckOnly, Admitted, RetryTaken, Versions}
use Rattle.qc_state.specs.Life.{is_handshake, is_closed}
use Rattle.qc_state.specs.Moves.{is_unanswered}
use Rattle.qc_state.specs.Numbers.{is_new_in}
use Rattle.qc_state.specs.Types.{Types, Meaning}
use Rattle.qc_state.specs.View.{View}

-- the first verdict whose test holds
abbrev pub first_row : List (Bool × Verdict) → Verdict → Verdict
first_row [] other = other
first_row (row ∷ rows) other = if row.0 then row.1 else first_row rows other

-- an Initial packet with another token than the one that is expected, if one is
abbrev pub is_other_token : SpaceId → Option (List ℕ) → List ℕ → Bool
is_other_token space.Initial (Some expected) token = not (pointwise nat_eq token expected)
is_other_token _ _ token = false

-- where the ids of a Retry or a Version Negotiation packet end: behind its first byte, its version of four bytes, and the ids, each behind a byte
-- with its length (RFC 9000, sections 17.2.1 and 17.2.5)
abbrev pub ids_end : (dst_cid src_cid : List ℕ) → ℕ
ids_end dst_cid src_cid = 7 + length dst_cid + length src_cid

-- the token of a Retry with this payload: what stands before its last 16 bytes, which are the integrity tag
abbrev pub retry_token : (payload : List ℕ) → List ℕ
retry_token payload = take (length payload - 16) payload

-- a version stands among those of this payload, of which each has four bytes, the highest first; a cut one at its end is none
abbrev pub lists_version : (version : ℕ) → (payload : List ℕ) → Bool
lists_version version (a ∷ b ∷ c ∷ d ∷ more) = (from_be_bytes w32 (a ∷ b ∷ c ∷ d ∷ []) == version) || lists_version version more
lists_version version _ = false

module _ {t : Types} where
  -- A Retry with this source id, of which these bytes are the header up to the token, and these the token and the tag, is taken by a client that wasn't
  -- answered: it has a token, its tag fits the destination id of the client's first packets, and its source id isn't that one (RFC 9000, sections
  -- 17.2.5.1 and 17.2.5.2; RFC 9001, section 5.8).
  unfoldable pub takes_retry : Meaning t → View t → (src_cid header payload : List ℕ) → Bool
  takes_retry m s src_cid header payload =
      is_unanswered s && (nat_lt 16 (length payload) && (m.fits_retry s.lower.session s.setup.fixed.first_cid header payload && not (pointwise nat_eq src_cid s.setup.fixed.first_cid)))

  -- A Version Negotiation packet ends the connection of a client that wasn't answered where this end's version isn't among those that it lists (RFC
  -- 9000, section 6.2).
  unfoldable pub lacks_version : View t → (payload : List ℕ) → Bool
  lacks_version s payload = is_unanswered s && not (lists_version s.setup.fixed.version payload)

  -- the row of a packet without a number, if it has one: a Retry, or a Version Negotiation packet
  abbrev pub unnumbered_rows : Meaning t → View t → ProtectedHeader → (bytes : List ℕ) → List (Bool × Verdict)
  unnumbered_rows m s (Retry dst_cid src_cid version) bytes = (takes_retry m s src_cid (take (ids_end dst_cid src_cid) bytes) (drop (ids_end dst_cid src_cid) bytes), RetryTaken) ∷ []
  unnumbered_rows m s (VersionNegotiate random src_cid dst_cid) bytes = (lacks_version s (drop (ids_end dst_cid src_cid) bytes), Versions) ∷ []
  unnumbered_rows m s _ bytes = []

  -- the verdict on a packet without a number: each that doesn't count is ignored
  unfoldable pub unnumbered_verdict : Meaning t → View t → Piece → Verdict
  unnumbered_verdict m s p = first_row (unnumbered_rows m s p.header p.bytes) Ignored

  -- The rows for a packet of this space with this source id, token and number that opened and whose reserved bits are 0. Those
  -- before stand in the opening: Ignored without a key or a sample, Failure where its key doesn't open it, BadBits, and BadUpdate where it
  -- shows an update that its sender wasn't allowed to make (RFC 9001, sections 6.2 and 6.4). Not
  -- there so far, with the place where it will stand: Reset, a stateless reset, behind Ignored (RFC 9000, section 10.3).
  abbrev pub rows : View t → SpaceId → (source token : List ℕ) → ℕ → List (Bool × Verdict)
  rows s id source token number =
      (not (is_new_in s.numbers id number), Seen)
      ∷ (is_closed s.life.state, ReadForClose)
      ∷ (is_handshake s.life.state && (is_space id space.Data || is_other_token id s.setup.token token), NumberOnly)
      ∷ (is_handshake s.life.state && is_other_source s.paths.peer_cid source, AckOnly)
      ∷ []

  -- What becomes of a packet is the first row of the verdicts that holds (RFC 9000, sections 5.2 and 12.2). The verdict on the packet
  unfoldable pub verdict_of : View t → SpaceId → (source token : List ℕ) → ℕ → Verdict
  verdict_of s id source token number = first_row (rows s id source token number) Admitted

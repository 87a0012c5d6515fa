-- Laws over whole runs, said of Retry and Version Negotiation packets (RFC 9000, sections 6.2 and 17.2.5), in words of the trace.
use Rattle.std.specs.Prelude.{◌≡◌, ◌≢◌, ℕ, ◌<◌, Bool, true, false, ◌||◌, not, List, [], ◌∷◌, length, take, drop, Option, None, Some}
use Rattle.std.specs.List.{list_any}
use Rattle.qc_base.specs.declared.side.Side.{Side}
use Rattle.qc_header.specs.Piece.{Piece}
use Rattle.qc_header.specs.declared.protected.ProtectedHeader.TheVariants as protected
use Rattle.qc_state.specs.declared.deeds.Did.{Did}
use Rattle.qc_state.specs.declared.deeds.Did.TheVariants as did
use Rattle.qc_state.specs.declared.deeds.Verdict.{Verdict}
use Rattle.qc_state.specs.declared.deeds.Verdict.TheVariants as verdict
use Rattle.qc_state.specs.declared.input.Input.{Input}
use Rattle.qc_state.specs.declared.keys.SpaceKeys.{SpaceKeys}
use Rattle.qc_state.specs.declared.life.ConnectionError.TheVariants.{VersionMismatch}
use Rattle.qc_state.specs.declared.trace.Step.{Step}
use Rattle.qc_state.specs.Moves.{accepts, is_unanswered}
use Rattle.qc_state.specs.Paths.{chosen_or}
use Rattle.qc_state.specs.Types.{Types, Meaning}
use Rattle.qc_state.specs.Verdicts.{ids_end, lists_version, retry_token}
use Rattle.qc_state.specs.View.{View}
use Rattle.qc_laws.specs.MirrorLaws.{ComesWith}

-- ---- at most one Retry is taken, and neither a Retry nor a list of versions counts once a packet was accepted

-- a packet with this verdict is a Retry that was taken
abbrev pub is_taken : Verdict → Bool
is_taken verdict.RetryTaken = true
is_taken _ = false

-- a packet with this verdict lists versions without this end's
abbrev pub is_versions : Verdict → Bool
is_versions verdict.Versions = true
is_versions _ = false

-- a deed that tells of a Retry which was taken
abbrev pub tells_retry : Did → Bool
tells_retry (did.Piece space number v) = is_taken v
tells_retry _ = false

-- a deed that tells of a list of versions without this end's
abbrev pub tells_versions : Did → Bool
tells_versions (did.Piece space number v) = is_versions v
tells_versions _ = false

-- a deed that tells of such a Retry, or of a packet which was accepted
abbrev pub is_answer : Did → Bool
is_answer (did.Piece space number v) = is_taken v || accepts v
is_answer _ = false

-- the server has answered behind these deeds, if it had before or does with one of them
abbrev pub has_answered : Bool → List Did → Bool
has_answered answered [] = answered
has_answered answered (d ∷ ds) = has_answered (answered || is_answer d) ds

-- each Retry that is taken, and each list of versions that counts, comes before any answer
abbrev pub RetriesFirst : Bool → List Did → Type 0
RetriesFirst answered [] = Unit {0}
RetriesFirst answered (d ∷ ds) = ((tells_retry d || tells_versions d) ≡ true → answered ≡ false) × RetriesFirst (answered || is_answer d) ds

module _ {t : Types} where
  -- From one view to another, between which these deeds were done: a Retry is taken only by a client that wasn't answered, and behind it, or behind
  -- a packet that was accepted, the client is answered. So at most one is taken, and none once a packet was accepted (RFC 9000, section 17.2.5.2).
  -- Nor does a list of versions count once either was (RFC 9000, section 6.2).
  pub record TakesOneRetry (ds : List Did) (s s' : View t) : Type 0 where
    pub first : RetriesFirst (not (is_unanswered s)) ds
    pub answered : has_answered (not (is_unanswered s)) ds ≡ true → is_unanswered s' ≡ false

-- ---- the Initial and the Handshake keys

module _ {t : Types} where
  -- they have the limits of the key that seals (RFC 9001, section 6.6)
  pub record HaveLimits (m : Meaning t) (k : SpaceKeys t.H t.P) : Type 0 where
    pub seals : k.confidentiality_limit ≡ m.seal_limit k.keys.packet.local
    pub failures : k.integrity_limit ≡ m.failure_limit k.keys.packet.local

  -- these keys, if there are any, are those that a session gives of an id for an end of this side (RFC 9001, section 5.2)
  abbrev pub AreKeysOf : Meaning t → (cid : List ℕ) → Side → Option (SpaceKeys t.H t.P) → Type 0
  AreKeysOf m cid side None = Unit {0}
  AreKeysOf m cid side (Some k) = (session : t.S) × (k.keys ≡ m.initial session cid side) × HaveLimits m k

  -- these keys, if there are any, are those that a session gave as it wrote
  abbrev pub AreWritten : Meaning t → Option (SpaceKeys t.H t.P) → Type 0
  AreWritten m None = Unit {0}
  AreWritten m (Some k) = (session : t.S) × (m.write_keys session ≡ Some k.keys) × HaveLimits m k

  -- the keys of the Initial space are those of the destination id of the client's first packets, or of the source id of the Retry that was taken; those of
  -- the Handshake space a session gave as it wrote
  pub record HasSpaceKeys (m : Meaning t) (s : View t) : Type 0 where
    pub keys : AreKeysOf m (chosen_or s.setup.fixed.first_cid s.setup.retry_cid) s.setup.fixed.side s.keys.initial
    pub handshake : AreWritten m s.keys.handshake

-- ---- why a connection ends at a list of versions

-- the reason VersionMismatch is given behind such a packet, before the next one is told of; `now` says whether the packet before these deeds was one
abbrev pub MismatchesBehind : (now : Bool) → List Did → Type 0
MismatchesBehind now [] = Unit {0}
MismatchesBehind now (did.Piece space number v ∷ ds) = MismatchesBehind (is_versions v) ds
MismatchesBehind now (did.Lost why ∷ ds) = (why ≡ VersionMismatch → now ≡ true) × MismatchesBehind now ds
MismatchesBehind now (_ ∷ ds) = MismatchesBehind now ds

-- so in each step
abbrev pub EachMismatch : List Step → Type 0
EachMismatch [] = Unit {0}
EachMismatch (x ∷ xs) = MismatchesBehind false x.did × EachMismatch xs

-- ---- where they come from

module _ {t : Types} where
  -- This packet is a Retry with this source id and this token that a client may take: its last 16 bytes are the tag, which fits the destination id of the
  -- client's first packets, the token stands before them and has a byte at least, and the source id is another one (RFC 9000, sections 17.2.5.1
  -- and 17.2.5.2; RFC 9001, section 5.8).
  pub record IsRetry (m : Meaning t) (first_cid : List ℕ) (p : Piece) (cid token : List ℕ) : Type 0 where
    pub dst_cid : List ℕ
    pub version : ℕ
    pub form : p.header ≡ protected.Retry dst_cid cid version
    pub session : t.S
    pub fits : m.fits_retry session first_cid (take (ids_end dst_cid cid) p.bytes) (drop (ids_end dst_cid cid) p.bytes) ≡ true
    pub longer : 16 < length (drop (ids_end dst_cid cid) p.bytes)
    pub other : cid ≢ first_cid
    pub given : token ≡ retry_token (drop (ids_end dst_cid cid) p.bytes)

-- this packet is a Version Negotiation packet whose list lacks this version (RFC 9000, section 17.2.1)
pub record ListsOthers (version : ℕ) (p : Piece) : Type 0 where
  pub random : ℕ
  pub src_cid : List ℕ
  pub dst_cid : List ℕ
  pub form : p.header ≡ protected.VersionNegotiate random src_cid dst_cid
  pub lacks : lists_version version (drop (ids_end dst_cid src_cid) p.bytes) ≡ false

module _ {t : Types} where
  -- From one view to another, between which these inputs came and these deeds were done: where a Retry was taken, one that came with them left its source
  -- id and its token, which all Initial packets carry from then on; where none was, both stay. And a list of versions counts only where one came
  -- with them that lacks this end's.
  pub record AreOfInputs (m : Meaning t) (is : List Input) (ds : List Did) (s s' : View t) : Type 0 where
    pub stay : list_any tells_retry ds ≡ false → (s'.setup.retry_cid ≡ s.setup.retry_cid) × (s'.setup.initial_token ≡ s.setup.initial_token)
    pub taken : list_any tells_retry ds ≡ true → (p : Piece) × (cid token : List ℕ) × ComesWith s is p × IsRetry m s.setup.fixed.first_cid p cid token
        × (s'.setup.retry_cid ≡ Some cid) × (s'.setup.initial_token ≡ token)
    pub listed : list_any tells_versions ds ≡ true → (p : Piece) × ComesWith s is p × ListsOthers s.setup.fixed.version p

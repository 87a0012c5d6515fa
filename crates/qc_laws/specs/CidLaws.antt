-- Laws over whole runs, said of which connection ids are used, told and retired (RFC 9000, sections 5.1, 19.15 and 19.16), in words of the
-- trace.
use Rattle.std.specs.Prelude.{◌≡◌, ℕ, ◌<◌, ◌≤◌, true, List, [], ◌∷◌, ◌++◌, length, Option, None, Some, Contains}
use Rattle.qc_base.specs.declared.ids.IssuedCid.{IssuedCid}
use Rattle.qc_base.specs.declared.side.SpaceId.{SpaceId}
use Rattle.qc_cids.specs.Cids.{first_ids}
use Rattle.qc_frame.specs.Frame.{FrameValue}
use Rattle.qc_frame.specs.FrameSpelling.{spelling}
use Rattle.qc_frame.specs.declared.frames.FrameOf.TheVariants as frames
use Rattle.qc_frame.specs.declared.frames.NewConnectionId.{NewConnectionId}
use Rattle.qc_ids.specs.LocalCids.{LocalCids}
use Rattle.qc_params.specs.declared.params.PreferredAddress.{PreferredAddress}
use Rattle.qc_params.specs.declared.params.TransportParameters.{TransportParameters}
use Rattle.qc_recovery.specs.Steps as recovery
use Rattle.qc_state.specs.declared.deeds.Did.{Did}
use Rattle.qc_state.specs.declared.input.Input.{Input}
use Rattle.qc_state.specs.declared.input.Input.TheVariants.{Identifiers}
use Rattle.qc_state.specs.declared.trace.Step.{Step as TraceStep}
use Rattle.qc_state.specs.Ids.{told_cid}
use Rattle.qc_state.specs.Life.{is_open}
use Rattle.qc_state.specs.Paths.{chosen_or}
use Rattle.qc_state.specs.Types.{Types}
use Rattle.qc_state.specs.View.{View}
use Rattle.qc_laws.specs.IdLaws.{given_to_ids}
use Rattle.qc_laws.specs.StreamsLaws.{frames_sealed, with_steps}

-- ---- the ids of the peer's

-- An id of the peer's with its number, where packets first carried the id `first`, the peer chose this one, or none, its parameters are these, or
-- none, and these frames were given to the ids (RFC 9000, section 5.1.1): 0 is that of the id which the peer chose, with its first packet or with a
-- Retry, and of `first` until it did (sections 7.2 and 17.2.5.1); 1 that of an address which its parameters prefer (section 9.6); and any other came with its id in a NEW_CONNECTION_ID
-- (section 19.15).
pub data IsPeers (first : List ℕ) (chosen : Option (List ℕ)) (parameters : Option TransportParameters) (given : List (List ℕ)) (sequence : ℕ) (id : List ℕ) : Type 0 where
  Chosen : sequence ≡ 0 → id ≡ chosen_or first chosen → IsPeers first chosen parameters given sequence id
  Preferred : (known : TransportParameters) (address : PreferredAddress) → parameters ≡ Some known → known.preferred_address ≡ Some address → sequence ≡ 1 → id ≡ address.id → IsPeers first chosen parameters given sequence id
  Given : (new : NewConnectionId) → Contains given (spelling (frames.NewConnectionId new)) → sequence ≡ new.sequence → id ≡ new.id → IsPeers first chosen parameters given sequence id

-- the first of two ids that there is
abbrev pub first_of : Option (List ℕ) → Option (List ℕ) → Option (List ℕ)
first_of None other = other
first_of (Some cid) other = Some cid

-- a frame retires ids with numbers below this one at most; one that says more than that of its own id breaks a rule (RFC 9000, section 19.15)
abbrev pub RetiresBelow : (sequence : ℕ) → FrameValue → Type 0
RetiresBelow n (frames.NewConnectionId new) = new.retire_prior_to ≤ new.sequence → new.retire_prior_to ≤ n
RetiresBelow n _ = Unit {0}

-- so do all frames that were given to the ids, as they are spelled
abbrev pub AllRetireBelow : (sequence : ℕ) → List (List ℕ) → Type 0
AllRetireBelow n [] = Unit {0}
AllRetireBelow n (body ∷ more) = ((frame : FrameValue) × (body ≡ spelling frame) × RetiresBelow n frame) × AllRetireBelow n more

-- a RETIRE_CONNECTION_ID names a number below this one
abbrev pub NamesBelow : (sequence : ℕ) → FrameValue → Type 0
NamesBelow n (frames.RetireConnectionId k) = k < n
NamesBelow n _ = Unit {0}

-- so does each among frames
abbrev pub AllNameBelow : (sequence : ℕ) → List FrameValue → Type 0
AllNameBelow n [] = Unit {0}
AllNameBelow n (f ∷ fs) = NamesBelow n f × AllNameBelow n fs

module _ {t : Types} where
  -- the id that the peer chose, with its first packet or with a Retry, if it did
  abbrev pub chosen_in : View t → Option (List ℕ)
  chosen_in s = first_of s.paths.peer_cid s.setup.retry_cid

  -- From one view to another, between which these deeds were done: packets to the peer carry an id of its with this number. While the
  -- connection is open, no NEW_CONNECTION_ID that was given to the ids has retired it (RFC 9000, section 5.1.2). And each RETIRE_CONNECTION_ID
  -- in a packet that was sealed names a number below it: one that this end has moved on from, and never that of the id in use (section 19.16).
  pub record UsesPeers (ds : List Did) (s s' : View t) : Type 0 where
    pub number : ℕ
    pub used : IsPeers s.paths.current.remote_cid (chosen_in s') s'.setup.peer (given_to_ids ds) number s'.paths.current.remote_cid
    pub kept : is_open s'.life.state ≡ true → AllRetireBelow number (given_to_ids ds)
    pub retired : AllNameBelow number (frames_sealed ds)

  -- The ids are those of a connection that was just made: of the peer's the one that packets carry is known, which the peer chose, if it did,
  -- and not its parameters, and no Retry was taken; this end's are as long as its first one; it has no keys but Initial ones, and no packet is in flight.
  pub record HasNewIds (s : View t) : Type 0 where
    pub local : LocalCids
    pub ids : s.lower.ids ≡ first_ids s.paths.current.remote_cid local
    pub size : local.cid_len ≡ length s.setup.fixed.local_cid
    pub chosen : (cid : List ℕ) → s.paths.peer_cid ≡ Some cid → cid ≡ s.paths.current.remote_cid
    pub parameters : s.setup.peer ≡ None
    pub retry : s.setup.retry_cid ≡ None
    pub handshake : s.keys.handshake ≡ None
    pub one_rtt : s.keys.«data» ≡ None
    pub flight : (id : SpaceId) → (recovery.space_of id s.lower.recovery).flight ≡ []

-- ---- the ids of this end

-- the ids that an input gives
abbrev pub issued_by : Input → List IssuedCid
issued_by (Identifiers time ids) = ids
issued_by _ = []

-- those that inputs give
abbrev pub issued_in : List (Input × TraceStep) → List IssuedCid
issued_in [] = []
issued_in (call ∷ calls) = issued_by call.0 ++ issued_in calls

-- a NEW_CONNECTION_ID tells one of these ids, with its number and its token (RFC 9000, section 19.15)
abbrev pub IsIssued : List IssuedCid → FrameValue → Type 0
IsIssued ids (frames.NewConnectionId new) = Contains ids (told_cid new)
IsIssued ids _ = Unit {0}

-- so does each among frames
abbrev pub AreIssued : List IssuedCid → List FrameValue → Type 0
AreIssued ids [] = Unit {0}
AreIssued ids (f ∷ fs) = IsIssued ids f × AreIssued ids fs

-- so does each that an input seals, of the ids that inputs gave up to it
abbrev pub EachIssued : (before : List (Input × TraceStep)) → List (Input × TraceStep) → Type 0
EachIssued before [] = Unit {0}
EachIssued before (call ∷ calls) = AreIssued (issued_in (before ++ call ∷ [])) (frames_sealed call.1.did) × EachIssued (before ++ call ∷ []) calls

-- What is told was given: each NEW_CONNECTION_ID in a packet that is sealed tells an id that an input gave before, with its number and its
-- token
unfoldable pub TellsIssued : List Input → List TraceStep → Type 0
TellsIssued is xs = EachIssued [] (with_steps is xs)

-- each of these ids has so many bytes
abbrev pub HaveLength : (size : ℕ) → List IssuedCid → Type 0
HaveLength size [] = Unit {0}
HaveLength size (c ∷ cs) = (length c.id ≡ size) × HaveLength size cs

module _ {t : Types} where
  -- From one view to another this end has the same first id, and each id that an input gave is as long as that one, by whose length the headers of
  -- 1-RTT packets are cut, which don't tell it (RFC 9000, sections 5.1 and 17.3.1).
  pub record KeepsLength (is : List Input) (xs : List TraceStep) (s s' : View t) : Type 0 where
    pub given : HaveLength (length s.setup.fixed.local_cid) (issued_in (with_steps is xs))
    pub first : s'.setup.fixed.local_cid ≡ s.setup.fixed.local_cid

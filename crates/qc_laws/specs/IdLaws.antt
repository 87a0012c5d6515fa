-- Laws over whole runs, said of the connection ids of both ends (RFC 9000, section 5.1), in words of the trace.
use Rattle.std.specs.Prelude.{◌≡◌, ℕ, ◌<◌, Bool, true, false, List, [], ◌∷◌, filter, length, Some}
use Rattle.qc_cids.specs.Steps.{Step, Given, NewCame, RetireCame, RetireSealed, TellSealed, after}
use Rattle.qc_frame.specs.Frame.{FrameValue}
use Rattle.qc_frame.specs.FrameSpelling.{spelling}
use Rattle.qc_frame.specs.declared.frames.FrameOf.TheVariants as frames
use Rattle.qc_ids.specs.CidQueue.{active_of}
use Rattle.qc_state.specs.declared.deeds.Did.{Did}
use Rattle.qc_state.specs.declared.deeds.Did.TheVariants as did
use Rattle.qc_state.specs.declared.deeds.Layer.TheVariants as layer
use Rattle.qc_state.specs.declared.input.Input.{Input}
use Rattle.qc_state.specs.declared.input.Input.TheVariants.{Identifiers}
use Rattle.qc_state.specs.declared.trace.Step.{Step as TraceStep}
use Rattle.qc_state.specs.Headline.{deeds_of}
use Rattle.qc_state.specs.Ids.{sealed_cids}
use Rattle.qc_state.specs.Types.{Types}
use Rattle.qc_state.specs.View.{View}
use Rattle.qc_laws.specs.StreamsLaws.{frames_sealed}

-- ---- the id that packets to the peer carry

module _ {t : Types} where
  -- packets to the peer carry the id of its that is in use, and there is one
  pub record CarriesUsed (s : View t) : Type 0 where
    pub some : 0 < length s.lower.ids.remote
    pub used : s.paths.current.remote_cid ≡ active_of s.lower.ids.remote

  -- From one view to another: the id that the peer chose stays, once it is known; and packets carry the id in use, where they did so before.
  pub record IdsHold (s s' : View t) : Type 0 where
    pub chosen : (cid : List ℕ) → s.paths.peer_cid ≡ Some cid → s'.paths.peer_cid ≡ Some cid
    pub carried : CarriesUsed s → CarriesUsed s'

-- ---- the fold of their steps

-- whether a step is one that a frame makes
abbrev pub is_came : Step → Bool
is_came (NewCame new) = true
is_came (RetireCame limit sequence) = true
is_came _ = false

-- whether it is that ids are given
abbrev pub is_given : Step → Bool
is_given (Given ids time) = true
is_given _ = false

-- whether it is that a frame is sealed
abbrev pub is_sealed : Step → Bool
is_sealed (TellSealed sequence) = true
is_sealed (RetireSealed sequence) = true
is_sealed _ = false

-- what deeds give to the ids, in order
abbrev pub given_to_ids : List Did → List (List ℕ)
given_to_ids [] = []
given_to_ids (did.Gave layer.Ids body ∷ ds) = body ∷ given_to_ids ds
given_to_ids (_ ∷ ds) = given_to_ids ds

-- a frame that comes is this step of theirs; so many of this end's ids may be active then
abbrev pub IsCame : FrameValue → Step → Type 0
IsCame (frames.NewConnectionId new) x = x ≡ NewCame new
IsCame (frames.RetireConnectionId sequence) x = (limit : ℕ) × (x ≡ RetireCame limit sequence)
IsCame _ x = ⊥

-- what is given to the ids are frames as they are spelled, and these steps are what they are
abbrev pub AreCame : List (List ℕ) → List Step → Type 0
AreCame [] xs = xs ≡ []
AreCame (body ∷ more) xs = (frame : FrameValue) × (x : Step) × (rest : List Step) × (body ≡ spelling frame) × IsCame frame x × (xs ≡ x ∷ rest) × AreCame more rest

-- the steps that inputs are which give ids
abbrev pub given_by : List Input → List Step
given_by [] = []
given_by (Identifiers time ids ∷ is) = Given ids time ∷ given_by is
given_by (_ ∷ is) = given_by is

module _ {t : Types} where
  -- From one view to another, over inputs whose trace is this, the ids made these steps, and are what they leave. Those of frames that come
  -- are the ones of the frames that the deeds gave to the ids, refused or not; those with which ids are given are the inputs'; and those with
  -- which frames are sealed are the ones of the packets that the deeds seal: each in order, none left out, and none made up. So whatever holds
  -- over any steps of the ids holds over these.
  pub record FoldsIds (is : List Input) (xs : List TraceStep) (s s' : View t) : Type 0 where
    pub steps : List Step
    pub leads : s'.lower.ids ≡ after steps s.lower.ids
    pub came : AreCame (given_to_ids (deeds_of xs)) (filter is_came steps)
    pub given : filter is_given steps ≡ given_by is
    pub sealed : filter is_sealed steps ≡ sealed_cids (frames_sealed (deeds_of xs))

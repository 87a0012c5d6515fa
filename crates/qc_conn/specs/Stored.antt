-- What the store of tokens is given (RFC 9000, section 8.1.3).
use Rattle.std.specs.Prelude.{◌≡◌, ◌≢◌, ℕ, List, [], ◌∷◌, ◌++◌, Result, Ok, Err}
use Rattle.std.specs.List.{flat_map}
use Rattle.qc_conn.specs.declared.driving.DriveKind.{DriveKind}
use Rattle.qc_conn.specs.declared.driving.DriveKind.TheVariants.{OutOfMemory}
use Rattle.qc_frame.specs.Frame.{FrameValue, TypedValue}
use Rattle.qc_frame.specs.FrameReading.{frame_at}
use Rattle.qc_frame.specs.declared.fault.InvalidFrame.{InvalidFrame}
use Rattle.qc_frame.specs.declared.frames.FrameOf.TheVariants as frames
use Rattle.qc_state.specs.declared.deeds.Did.{Did}
use Rattle.qc_state.specs.declared.deeds.Did.TheVariants.{Gave}
use Rattle.qc_state.specs.declared.deeds.Layer.{Layer}
use Rattle.qc_state.specs.declared.deeds.Layer.TheVariants as layer
use Rattle.qc_state.specs.declared.trace.Step.{Step}
use Rattle.qc_state.specs.Headline.{deeds_of}

-- the token of a NEW_TOKEN (RFC 9000, section 19.7); no other frame has one
abbrev pub token_of : FrameValue → List (List ℕ)
token_of (frames.NewToken token) = token ∷ []
token_of _ = []

-- that of the frame in front of bytes
abbrev pub token_read : Result (TypedValue × List ℕ) InvalidFrame → List (List ℕ)
token_read (Ok read) = token_of read.0.frame
token_read (Err fault) = []

-- the tokens of a frame that was given to a layer, as it is spelled: the store's
abbrev pub tokens_of : Layer → List ℕ → List (List ℕ)
tokens_of layer.Streams body = []
tokens_of layer.Recovery body = []
tokens_of layer.Session body = []
tokens_of layer.Ids body = []
tokens_of layer.Life body = []
tokens_of layer.Store body = token_read (frame_at body)

-- those of a deed
abbrev pub tokens_told : Did → List (List ℕ)
tokens_told (Gave layer body) = tokens_of layer body
tokens_told _ = []

-- the tokens that the store was given, one after another
abbrev pub tokens_in : List Did → List (List ℕ)
tokens_in ds = flat_map tokens_told ds

module _ {G : Type 0} where
  -- a store that was given these tokens of a server, one after another
  abbrev pub stored : (G → List ℕ → List ℕ → G) → (name : List ℕ) → List (List ℕ) → G → G
  stored inserted name [] store = store
  stored inserted name (token ∷ tokens) store = stored inserted name tokens (inserted store name token)

  -- the store has the tokens of one step more
  pub record StoresStep (inserted : G → List ℕ → List ℕ → G) (name : List ℕ) (trace trace' : List Step) (store store' : G) : Type 0 where
    pub step : Step
    pub next : trace' ≡ trace ++ step ∷ []
    pub is : store' ≡ stored inserted name (tokens_in step.did) store

  -- some tokens more
  pub record StoresMore (inserted : G → List ℕ → List ℕ → G) (name : List ℕ) (store store' : G) : Type 0 where
    pub tokens : List (List ℕ)
    pub is : store' ≡ stored inserted name tokens store

  -- The store has the tokens of these steps, and where the input behind them met want of memory maybe some of its tokens; no more where it was
  -- refused
  pub record StoresPart (inserted : G → List ℕ → List ℕ → G) (name : List ℕ) (kind : DriveKind) (trace : List Step) (store store' : G) : Type 0 where
    pub tokens : List (List ℕ)
    pub none : kind ≢ OutOfMemory → tokens ≡ []
    pub is : store' ≡ stored inserted name (tokens_in (deeds_of trace) ++ tokens) store

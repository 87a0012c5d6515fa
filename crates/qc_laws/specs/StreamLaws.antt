-- Laws over whole runs, said of the CRYPTO bytes that the session is given (RFC 9000, section 19.6).
use Rattle.std.specs.Prelude.{◌≡◌, ℕ, Bool, false, if◌then◌else◌, List, [], ◌∷◌, ◌++◌, Option, None, Some}
use Rattle.qc_assembler.specs.Assembly.{nothing, run}
use Rattle.qc_assembler.specs.Reads.{AreReads, after, all_came, all_read}
use Rattle.qc_assembler.specs.Reads as reads
use Rattle.qc_base.specs.declared.side.SpaceId.{SpaceId}
use Rattle.qc_state.specs.declared.deeds.Did.{Did}
use Rattle.qc_state.specs.declared.deeds.Did.TheVariants as did
use Rattle.qc_state.specs.declared.deeds.Layer.TheVariants as layer
use Rattle.qc_state.specs.Lower.{stream_of}
use Rattle.qc_state.specs.Spaces.{is_space}
use Rattle.qc_state.specs.Types.{Types}
use Rattle.qc_state.specs.View.{View}

-- a packet that came is one of this space
abbrev pub is_of : SpaceId → Option SpaceId → Bool
is_of id None = false
is_of id (Some space) = is_space id space

-- the bytes that deeds give to the session of a space's CRYPTO stream, in order: those that are given behind a packet of the space that
-- came, and before the next one; `now` says whether the packet before these deeds was one
abbrev pub session_bytes : SpaceId → (now : Bool) → List Did → List ℕ
session_bytes id now [] = []
session_bytes id now (did.Piece space number verdict ∷ ds) = session_bytes id (is_of id space) ds
session_bytes id now (did.Gave layer.Session body ∷ ds) = (if now then body else []) ++ session_bytes id now ds
session_bytes id now (_ ∷ ds) = session_bytes id now ds

module _ {t : Types} where
  -- From one view to another, between which these deeds were done, bytes of the space's CRYPTO stream came, and reads in order gave bytes
  -- to the session. What the space keeps of the stream is what these steps leave, each read gives bytes that came and wait from the next
  -- offset on, and what the reads gave, one behind the other, is what the deeds give to the session. So over a run from a new connection
  -- the session was given the front of what came, from offset 0 on, each byte once.
  pub record GivesStream (id : SpaceId) (ds : List Did) (s s' : View t) : Type 0 where
    pub steps : List reads.Step
    pub are_reads : AreReads steps (stream_of s.lower id)
    pub leads : stream_of s'.lower id ≡ after steps (stream_of s.lower id)
    pub given : session_bytes id false ds ≡ all_read steps
    pub front : stream_of s.lower id ≡ nothing → all_came steps [] ≡ run 0 (session_bytes id false ds) ++ (stream_of s'.lower id).came

  -- nothing came of any CRYPTO stream, as in a new connection
  abbrev pub IsUnread : View t → Type 0
  IsUnread s = (id : SpaceId) → stream_of s.lower id ≡ nothing

-- Laws over whole runs, said of marks of ECN (RFC 9000, sections 13.4 and 19.3.2).
use Rattle.std.specs.Prelude.{◌≡◌, ℕ, ◌+◌, ◌-◌, ◌^◌, min, Bool, true, false, if◌then◌else◌, List, [], ◌∷◌, Option, None, Some}
use Rattle.qc_base.specs.declared.ecn.EcnCodepoint.{EcnCodepoint}
use Rattle.qc_base.specs.declared.ecn.EcnCodepoint.TheVariants.{Ect0, Ect1, Ce}
use Rattle.qc_base.specs.declared.side.SpaceId.{SpaceId}
use Rattle.qc_frame.specs.Frame.{FrameValue}
use Rattle.qc_frame.specs.declared.frames.EcnCounts.{EcnCounts}
use Rattle.qc_frame.specs.declared.frames.FrameOf.TheVariants as frames
use Rattle.qc_state.specs.declared.deeds.Did.{Did}
use Rattle.qc_state.specs.declared.deeds.Did.TheVariants.{Piece, Sealed}
use Rattle.qc_state.specs.declared.deeds.Verdict.{Verdict}
use Rattle.qc_state.specs.declared.input.Input.{Input}
use Rattle.qc_state.specs.declared.input.Input.TheVariants.{Datagram}
use Rattle.qc_state.specs.declared.trace.Step.{Step}
use Rattle.qc_state.specs.Moves.{accepts}
use Rattle.qc_state.specs.Spaces.{is_space, space_of}
use Rattle.qc_state.specs.Types.{Types}
use Rattle.qc_state.specs.View.{View}

-- the mark that the datagram of an input carried, if it is one that brings a datagram
abbrev pub carried_mark : Input → Option EcnCodepoint
carried_mark (Datagram time remote ecn bytes) = ecn
carried_mark _ = None

-- what is known of marks in a space: whether any packet of the connection was accepted with one, and how many packets of the space
-- were accepted with each
pub record Tally : Type 0 where
  pub came : Bool
  pub ect0 : ℕ
  pub ect1 : ℕ
  pub ce : ℕ

-- no mark came
abbrev pub nothing_tallied : Tally
nothing_tallied = record { came = false; ect0 = 0; ect1 = 0; ce = 0 }

-- a mark came on the connection
abbrev pub tally_came : Tally → Tally
tally_came t = record t { came = true }

-- a packet of the space was accepted with this mark
abbrev pub tally_one : EcnCodepoint → Tally → Tally
tally_one Ect0 t = record t { came = true; ect0 = t.ect0 + 1 }
tally_one Ect1 t = record t { came = true; ect1 = t.ect1 + 1 }
tally_one Ce t = record t { came = true; ce = t.ce + 1 }

-- a packet was accepted, in the space or in another one, of a datagram that carried this mark
abbrev pub tally_accepted : (here : Bool) → (mark : Option EcnCodepoint) → Tally → Tally
tally_accepted here None t = t
tally_accepted true (Some mark) t = tally_one mark t
tally_accepted false (Some mark) t = tally_came t

-- a packet of a space has this verdict
abbrev pub tally_judged : SpaceId → (mark : Option EcnCodepoint) → (space : Option SpaceId) → Verdict → Tally → Tally
tally_judged id mark None verdict t = t
tally_judged id mark (Some space) verdict t = if accepts verdict then tally_accepted (is_space id space) mark t else t

-- what is known behind a deed of an input whose datagram carried this mark
abbrev pub tally_behind : SpaceId → (mark : Option EcnCodepoint) → Tally → Did → Tally
tally_behind id mark t (Piece space number verdict) = tally_judged id mark space verdict t
tally_behind id mark t _ = t

-- behind all of its deeds
abbrev pub tally_since : SpaceId → (mark : Option EcnCodepoint) → Tally → List Did → Tally
tally_since id mark t [] = t
tally_since id mark t (d ∷ ds) = tally_since id mark (tally_behind id mark t d) ds

-- the counts that an ACK has: none before a mark came on the connection, and then how many packets of its space came with each, or the
-- greatest number that the field has room for
abbrev pub tally_told : Tally → Option EcnCounts
tally_told t = if t.came then Some (record { ect0 = min t.ect0 (2 ^ 62 - 1); ect1 = min t.ect1 (2 ^ 62 - 1); ce = min t.ce (2 ^ 62 - 1) }) else None

-- each ACK among the frames has these counts
abbrev pub AcksTell : Option EcnCounts → List FrameValue → Type 0
AcksTell counts [] = Unit {0}
AcksTell counts (frames.Ack ack ∷ fs) = (ack.ecn ≡ counts) × AcksTell counts fs
AcksTell counts (_ ∷ fs) = AcksTell counts fs

-- so has each ACK of a packet that is sealed in the space
abbrev pub SealsTold : SpaceId → Option EcnCounts → Did → Type 0
SealsTold id counts (Sealed space number epoch early fs) = is_space id space ≡ true → AcksTell counts fs
SealsTold id counts _ = Unit {0}

-- each ACK that is sealed in the space has the counts that are known as its turn comes
abbrev pub DeedsTell : SpaceId → (mark : Option EcnCodepoint) → Tally → List Did → Type 0
DeedsTell id mark t [] = Unit {0}
DeedsTell id mark t (d ∷ ds) = SealsTold id (tally_told t) d × DeedsTell id mark (tally_behind id mark t d) ds

-- so it is over steps, each with its input
abbrev pub StepsTell : SpaceId → Tally → List Input → List Step → Type 0
StepsTell id t (i ∷ is) (x ∷ xs) = DeedsTell id (carried_mark i) t x.did × StepsTell id (tally_since id (carried_mark i) t x.did) is xs
StepsTell id t _ _ = Unit {0}

-- what a space has counted already
abbrev pub tally_of : Option EcnCounts → Tally
tally_of None = nothing_tallied
tally_of (Some c) = record { came = true; ect0 = c.ect0; ect1 = c.ect1; ce = c.ce }

module _ {t : Types} where
  -- in each space, each ACK that is sealed has counts exactly where a packet of the connection was accepted before whose datagram
  -- carried a mark; they say how many packets of the space were accepted with each mark, those included that were counted at the
  -- start
  unfoldable pub EachTold : View t → List Input → List Step → Type 0
  EachTold s is xs = (id : SpaceId) → StepsTell id (tally_of (space_of s.waiting.spaces id).marks) is xs

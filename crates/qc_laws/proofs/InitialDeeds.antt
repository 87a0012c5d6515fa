-- Deeds by which an end leaves the Initial space, and what they say of it; and spaces in their order.
use Rattle.std.proofs.Common.{◌≡◌, ◌⊎◌, inl, inr, ℕ, ◌+◌, ◌≤◌, List, [], ◌∷◌, ◌++◌, refl, sym, ◌∙◌, Bool, true, false, Option, Some, None, if◌then◌else◌, arith}
use Rattle.std.specs.Prelude.{◌||◌, not}
use Rattle.qc_base.specs.declared.side.Side.{Side}
use Rattle.qc_base.specs.declared.side.Side.TheVariants.{Client, Server}
use Rattle.qc_base.specs.declared.side.SpaceId.{SpaceId}
use Rattle.qc_base.specs.declared.side.SpaceId.TheVariants.{Initial, Handshake, «Data»}
use Rattle.qc_frame.specs.Frame.{FrameValue}
use Rattle.qc_state.specs.declared.deeds.Did.{Did}
use Rattle.qc_state.specs.declared.deeds.Did.TheVariants as did
use Rattle.qc_state.specs.declared.deeds.Verdict.{Verdict}
use Rattle.qc_state.specs.declared.deeds.Verdict.TheVariants as verdict
use Rattle.qc_state.specs.declared.life.State.{State}
use Rattle.qc_state.specs.declared.life.State.TheVariants as state
use Rattle.qc_state.specs.declared.transmit.Batch.{Batch}
use Rattle.qc_state.specs.Headline.{IsRight, Kernel, Tells, kernel_after}
use Rattle.qc_state.specs.Life.{is_drained, rank_of}
use Rattle.qc_state.specs.Moves.{IsTold, accepts, enters}
use Rattle.qc_state.specs.Batches.{batch_opened, is_in_order}
use Rattle.qc_state.specs.Spaces.{is_space}
use Rattle.qc_laws.specs.InitialLaws.{NoneInitial, has_left, leaves_with, seals_initial}

-- ---- tests

pub or_first : (a b : Bool) → a ≡ true → (a || b) ≡ true
or_first true b h = refl
or_first false b h = cc

pub or_second : (a b : Bool) → b ≡ true → (a || b) ≡ true
or_second true b h = refl
or_second false b h = h

-- ---- deeds

-- deeds that seal no Initial packet; with each of them by which an end of some side leaves the space, this holds, and the side is a
-- server
abbrev pub SilentBut : Type 0 → List Did → Type 0
SilentBut P [] = Unit {0}
SilentBut P (d ∷ ds) = (seals_initial d ≡ false) × ((side : Side) → leaves_with side d ≡ true → P × (side ≡ Server)) × SilentBut P ds

pub silent_append : (P : Type 0) (ds es : List Did) → SilentBut P ds → SilentBut P es → SilentBut P (ds ++ es)
silent_append P [] es a b = b
silent_append P (d ∷ ds) es a b = (a.0, a.1, silent_append P ds es a.2 b)

pub none_append : (side : Side) (left : Bool) (ds es : List Did) → NoneInitial side left ds → NoneInitial side (has_left side left ds) es → NoneInitial side left (ds ++ es)
none_append side left [] es a b = b
none_append side left (d ∷ ds) es a b = (a.0, none_append side (left || leaves_with side d) ds es a.1 b)

pub left_append : (side : Side) (left : Bool) (ds es : List Did) → has_left side left (ds ++ es) ≡ has_left side (has_left side left ds) es
left_append side left [] es = refl
left_append side left (d ∷ ds) es = left_append side (left || leaves_with side d) ds es

pub silent_none : (P : Type 0) (side : Side) (left : Bool) (ds : List Did) → SilentBut P ds → NoneInitial side left ds
silent_none P side left [] h = tt
silent_none P side left (d ∷ ds) h = (λ seals. let quiet : seals_initial d ≡ false = h.0 in cc, silent_none P side (left || leaves_with side d) ds h.2)

-- where an end has left behind such deeds, it had before, or this holds
pub silent_left : (P : Type 0) (Q : Type 0) (side : Side) (left : Bool) (ds : List Did) → SilentBut P ds → (left ≡ true → Q) → (P → side ≡ Server → Q) → has_left side left ds ≡ true → Q
silent_left P Q side left [] h was does e = was e
silent_left P Q side left (d ∷ ds) h was does e = silent_left P Q side (left || leaves_with side d) ds h.2 (by_tests left (leaves_with side d) refl) does e
  where
    by_tests : (l w : Bool) → leaves_with side d ≡ w → (left || leaves_with side d) ≡ true → Q
    by_tests l true is either = let both = h.1 side is in does both.0 both.1
    by_tests l false is either = was (sym (or_none left (leaves_with side d) is) ∙ either)
      where
        or_none : (a b : Bool) → b ≡ false → (a || b) ≡ a
        or_none true b k = refl
        or_none false b k = k

pub rose_quiet : (P : Type 0) (rank : ℕ) (side : Side) → leaves_with side (did.Rose rank) ≡ true → P × (side ≡ Server)
rose_quiet P rank Client h = cc
rose_quiet P rank Server h = cc

pub lost_quiet : (P : Type 0) (side : Side) (d : Did) → leaves_with side d ≡ false → leaves_with side d ≡ true → P × (side ≡ Server)
lost_quiet P side d none h = absurd cc

pub reason_silent : (side : Side) (d : Did) → (leaves_with Client d ≡ false) → (leaves_with Server d ≡ false) → leaves_with side d ≡ false
reason_silent Client d a b = a
reason_silent Server d a b = b

-- a deed with which no end leaves
pub one_silent : (P : Type 0) (d : Did) → seals_initial d ≡ false → leaves_with Client d ≡ false → leaves_with Server d ≡ false → SilentBut P (d ∷ [])
one_silent P d seals a b = (seals, λ side h. lost_quiet P side d (reason_silent side d a b) h, tt)

-- one that tells of a packet which isn't accepted
pub piece_quiet : (space : Option SpaceId) (n : Option ℕ) (v : Verdict) → accepts v ≡ false → leaves_with Server (did.Piece space n v) ≡ false
piece_quiet None n v h = refl
piece_quiet (Some Initial) n v h = refl
piece_quiet (Some Handshake) n v h = h
piece_quiet (Some Data) n v h = refl

pub piece_silent : (P : Type 0) (space : Option SpaceId) (n : Option ℕ) (v : Verdict) → accepts v ≡ false → SilentBut P (did.Piece space n v ∷ [])
piece_silent P space n v h = one_silent P (did.Piece space n v) refl refl (piece_quiet space n v h)

-- one that tells of a packet which is accepted
pub accepted_quiet : (P : Type 0) (id : SpaceId) (n : Option ℕ) (v : Verdict) → (id ≡ Handshake → P) → (side : Side) → leaves_with side (did.Piece (Some id) n v) ≡ true → P × (side ≡ Server)
accepted_quiet P Initial n v is Client h = cc
accepted_quiet P Initial n v is Server h = cc
accepted_quiet P Handshake n v is Client h = cc
accepted_quiet P Handshake n v is Server h = (is refl, refl)
accepted_quiet P Data n v is Client h = cc
accepted_quiet P Data n v is Server h = cc

pub enters_accepts : (v : Verdict) → enters v ≡ false → accepts v ≡ false
enters_accepts verdict.Ignored h = refl
enters_accepts verdict.Failure h = refl
enters_accepts verdict.BadBits h = refl
enters_accepts verdict.BadUpdate h = refl
enters_accepts verdict.RetryTaken h = refl
enters_accepts verdict.Versions h = refl
enters_accepts verdict.Seen h = refl
enters_accepts verdict.ReadForClose h = refl
enters_accepts verdict.NumberOnly h = refl
enters_accepts verdict.AckOnly h = cc
enters_accepts verdict.Admitted h = cc

pub told_silent : (P : Type 0) (d : Did) → IsTold d → SilentBut P (d ∷ [])
told_silent P (did.Piece space number v) h = piece_silent P space number v (enters_accepts v h)
told_silent P (did.Gave layer body) h = one_silent P (did.Gave layer body) refl refl refl
told_silent P _ h = absurd h

-- ---- packets that are sealed

-- what a packet makes of the batch
pub opened_shook : (b : Batch) (opens probes : Bool) → (batch_opened opens probes b).shook ≡ b.shook
unfolding batch_opened
opened_shook b true probes = refl
opened_shook b false probes = refl

-- a space behind which a Handshake packet stood, or in which one does, isn't the Initial space
pub late_space : (last : Option SpaceId) (x : SpaceId) → is_in_order last Initial ≡ false → is_in_order last x ≡ true → is_in_order (Some x) Initial ≡ false
late_space None x h order = cc
late_space (Some Initial) x h order = cc
late_space (Some Handshake) Initial h order = cc
late_space (Some Handshake) Handshake h order = refl
late_space (Some Handshake) Data h order = refl
late_space (Some «Data») Initial h order = cc
late_space (Some «Data») Handshake h order = refl
late_space (Some «Data») Data h order = refl

pub shaking_late : (x : SpaceId) → is_space x Handshake ≡ true → is_in_order (Some x) Initial ≡ false
shaking_late Initial h = cc
shaking_late Handshake h = refl
shaking_late Data h = cc

pub sealed_shakes : (side : Side) (id : SpaceId) (n epoch : ℕ) (early : Bool) (fs : List FrameValue) → leaves_with side (did.Sealed id n epoch early fs) ≡ true → (side ≡ Client) × (id ≡ Handshake)
sealed_shakes Client Initial n epoch early fs h = cc
sealed_shakes Client Handshake n epoch early fs h = (refl, refl)
sealed_shakes Client Data n epoch early fs h = cc
sealed_shakes Server Initial n epoch early fs h = cc
sealed_shakes Server Handshake n epoch early fs h = cc
sealed_shakes Server Data n epoch early fs h = cc

pub sealed_initial : (id : SpaceId) (n epoch : ℕ) (early : Bool) (fs : List FrameValue) → seals_initial (did.Sealed id n epoch early fs) ≡ true → id ≡ Initial
sealed_initial Initial n epoch early fs h = refl
sealed_initial Handshake n epoch early fs h = cc
sealed_initial Data n epoch early fs h = cc

pub either : (left shakes : Bool) (Q : Type 0) → (left ≡ true → Q) → (shakes ≡ true → Q) → (left || shakes) ≡ true → Q
either true shakes Q was does e = was refl
either false shakes Q was does e = does e

pub not_left : (left : Bool) → (left ≡ true → ⊥) → left ≡ false
not_left true h = absurd (h refl)
not_left false h = refl

pub left_by_test : (keys ended : Bool) → (not keys || ended) ≡ true → (keys ≡ false) ⊎ (ended ≡ true)
left_by_test false ended h = inl refl
left_by_test true true h = inr refl
left_by_test true false h = cc

pub test_of_left : (keys ended : Bool) → (keys ≡ false) ⊎ (ended ≡ true) → (not keys || ended) ≡ true
test_of_left false ended h = refl
test_of_left true true h = refl
test_of_left true false (inl h) = cc
test_of_left true false (inr h) = cc

-- ---- the end

pub drained_high : (s : State) → is_drained s ≡ true → 4 ≤ rank_of s
drained_high state.Handshake h = cc
drained_high state.Established h = cc
drained_high state.Closed h = cc
drained_high state.Draining h = cc
drained_high state.Drained h = omega arith

pub high_drained : (s : State) → 4 ≤ rank_of s → is_drained s ≡ true
high_drained state.Handshake h = absurd (omega (arith, h))
high_drained state.Established h = absurd (omega (arith, h))
high_drained state.Closed h = absurd (omega (arith, h))
high_drained state.Draining h = absurd (omega (arith, h))
high_drained state.Drained h = refl

-- deeds that come where they may leave a life no lower
pub sealed_rank : (k : Kernel) (next : ℕ) (b : Bool) → k.rank ≤ (if b then record k { next = next } else k).rank
sealed_rank k next true = omega arith
sealed_rank k next false = omega arith

pub right_rank : (id : SpaceId) (k : Kernel) (d : Did) → IsRight id k d → k.rank ≤ (kernel_after id k d).rank
right_rank id k (did.Sealed space number epoch early fs) h = sealed_rank k (number + 1) (is_space id space)
right_rank id k (did.Piece space number v) h = omega arith
right_rank id k (did.Gave to body) h = omega arith
right_rank id k (did.Rose life) h = omega (arith, h)
right_rank id k (did.Lost why) h = omega arith
right_rank id k (did.Quiet why) h = omega arith

pub tells_rank : (id : SpaceId) (k k' : Kernel) (ds : List Did) → Tells id k ds k' → k.rank ≤ k'.rank
unfolding Tells
tells_rank id k k' [] h = let same : k'.rank ≡ k.rank = h.rank in omega (arith, same)
tells_rank id k k' (d ∷ ds) h =
    let first : k.rank ≤ (kernel_after id k d).rank = right_rank id k d h.0 in
    let rest : (kernel_after id k d).rank ≤ k'.rank = tells_rank id (kernel_after id k d) k' ds h.1 in
    omega (arith, first, rest)

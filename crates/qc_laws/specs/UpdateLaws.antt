-- Laws over whole runs, said of the 1-RTT keys and their updates (RFC 9001, section 6): the keys are the fold of their own steps, and epochs never
-- fall.
use Rattle.std.specs.Prelude.{◌≡◌, ◌⊎◌, ℕ, ◌+◌, ◌≤◌, ◌<◌, min, nat_eq, ◌&&◌, Bool, true, false, List, [], ◌∷◌, ◌++◌, Option, Some, None, IsSome, option_map, option_to_list, if◌then◌else◌}
use Rattle.qc_base.specs.declared.side.SpaceId.{SpaceId}
use Rattle.qc_base.specs.declared.side.SpaceId.TheVariants.{«Data»}
use Rattle.qc_frame.specs.Frame.{AckValue}
use Rattle.qc_frame.specs.FrameSpelling.{spelling}
use Rattle.qc_frame.specs.declared.frames.FrameOf.TheVariants as frames
use Rattle.qc_rings.specs.Ring.{first_ring}
use Rattle.qc_rings.specs.declared.which.Which.{Which}
use Rattle.qc_rings.specs.declared.which.Which.TheVariants.{Next}
use Rattle.qc_state.specs.declared.deeds.Did.{Did}
use Rattle.qc_state.specs.declared.deeds.Did.TheVariants as did
use Rattle.qc_state.specs.declared.deeds.Layer.TheVariants as layer
use Rattle.qc_state.specs.declared.deeds.Verdict.{Verdict}
use Rattle.qc_state.specs.declared.deeds.Verdict.TheVariants as verdict
use Rattle.qc_state.specs.declared.keys.Fresh.{Fresh}
use Rattle.qc_state.specs.declared.keys.OneRttKeys.{OneRttKeys}
use Rattle.qc_state.specs.declared.trace.Step.{Step}
use Rattle.qc_state.specs.Headline.{deeds_of}
use Rattle.qc_state.specs.Keys.{epoch_with, reaches_limit, ring_acked, ring_discarded, ring_may_update, ring_opened, ring_updated, ring_usage, ring_used}
use Rattle.qc_state.specs.Types.{Types}
use Rattle.qc_state.specs.View.{View}
use Rattle.qc_laws.specs.StreamLaws.{is_of}

-- ---- their steps

-- a step of the 1-RTT keys: they are given; a packet of this number was sealed under them; one was opened, by these of them; packets up to this
-- number were acknowledged; this end updated them; those of the epoch before were kept for long enough
pub data KeyStep (H P : Type 0) : Type 0 where
  Given : (keys : OneRttKeys H P) → KeyStep H P
  Sealed : (number : ℕ) → KeyStep H P
  Opened : (number : ℕ) → (which : Which) → (fresh : Option (Fresh P)) → KeyStep H P
  Acknowledged : (largest : ℕ) → KeyStep H P
  Updated : (fresh : Option (Fresh P)) → KeyStep H P
  Discarded : KeyStep H P

-- how many of these packets, each with its number and epoch, were sealed in this epoch
abbrev pub sealed_in : (epoch : ℕ) → List (ℕ × ℕ) → ℕ
sealed_in epoch [] = 0
sealed_in epoch (p ∷ ps) = (if nat_eq p.1 epoch then 1 else 0) + sealed_in epoch ps

-- none of them was sealed in a later one
abbrev pub NoneLater : (epoch : ℕ) → List (ℕ × ℕ) → Type 0
NoneLater epoch [] = Unit {0}
NoneLater epoch (p ∷ ps) = (p.1 ≤ epoch) × NoneLater epoch ps

module _ {H P : Type 0} where
  -- what a step leaves: each is one call of the ring, with its number
  abbrev pub key_step : KeyStep H P → Option (OneRttKeys H P) → Option (OneRttKeys H P)
  key_step (Given keys) k = Some keys
  key_step (Sealed n) k = ring_used n k
  key_step (Opened n which fresh) k = ring_opened which n fresh k
  key_step (Acknowledged n) k = ring_acked n k
  key_step (Updated fresh) k = ring_updated fresh k
  key_step Discarded k = ring_discarded k

  -- what steps leave, one after the other
  abbrev pub key_steps : List (KeyStep H P) → Option (OneRttKeys H P) → Option (OneRttKeys H P)
  key_steps [] k = k
  key_steps (x ∷ xs) k = key_steps xs (key_step x k)

  -- whether the last update of the peer's isn't answered yet by a packet that this end sealed
  abbrev pub waits_for_answer : Option (OneRttKeys H P) → Bool
  waits_for_answer None = false
  waits_for_answer (Some k) = k.ring.ring.unanswered

  -- Where a step may be made. Keys are given where there are none, in their first epoch, and have sealed nothing. A packet is sealed only under a
  -- key, which may seal one more (RFC 9001, section 6.6). An update of the peer's is followed only where the one before was answered (section 6.2).
  -- This end updates them only where no keys of the epoch before are kept, and a packet of this epoch was acknowledged (sections 6.1 and 6.5).
  abbrev pub MayStep : KeyStep H P → Option (OneRttKeys H P) → Type 0
  MayStep (Given keys) k = (k ≡ None) × (keys.ring.ring ≡ first_ring) × (keys.ring.count ≡ 0)
  MayStep (Sealed n) k = IsSome k × (reaches_limit 0 (option_map ring_usage k) ≡ false)
  MayStep (Opened n which fresh) k = which ≡ Next → waits_for_answer k ≡ false
  MayStep (Updated fresh) k = ring_may_update k ≡ true
  MayStep _ k = Unit {0}

  -- each as its turn comes
  abbrev pub AllMay : List (KeyStep H P) → Option (OneRttKeys H P) → Type 0
  AllMay [] k = Unit {0}
  AllMay (x ∷ xs) k = MayStep x k × AllMay xs (key_step x k)

  -- the numbers of packets that steps seal, with the epoch of their key
  abbrev pub sealed_by : List (KeyStep H P) → Option (OneRttKeys H P) → List (ℕ × ℕ)
  sealed_by [] k = []
  sealed_by (Sealed n ∷ xs) k = (n, epoch_with k) ∷ sealed_by xs (key_step (Sealed n) k)
  sealed_by (x ∷ xs) k = sealed_by xs (key_step x k)

  -- Keys count the packets that are sealed under them: where these were all so far, as many as were sealed in their epoch, as far as 64 bits hold the
  -- count; and none was sealed in a later one. Where there are no keys, none was.
  abbrev pub AreCounted : (sealed : List (ℕ × ℕ)) → Option (OneRttKeys H P) → Type 0
  AreCounted sealed None = sealed ≡ []
  AreCounted sealed (Some k) = (k.ring.count ≡ min (sealed_in k.ring.ring.epoch sealed) 18446744073709551615) × NoneLater k.ring.ring.epoch sealed

  -- behind these packets, fewer were sealed in the epoch of these keys than its key may seal, whose limit has 64 bits
  abbrev pub MaySealMore : (sealed : List (ℕ × ℕ)) → Option (OneRttKeys H P) → Type 0
  MaySealMore sealed None = ⊥
  MaySealMore sealed (Some k) = k.confidentiality_limit ≤ 18446744073709551615 → sealed_in k.ring.ring.epoch sealed < k.confidentiality_limit

  -- each step that seals a packet comes where that is so, behind the packets before it
  abbrev pub EachMaySeal : (sealed : List (ℕ × ℕ)) → List (KeyStep H P) → Option (OneRttKeys H P) → Type 0
  EachMaySeal sealed [] k = Unit {0}
  EachMaySeal sealed (Sealed n ∷ xs) k = MaySealMore sealed k × EachMaySeal (sealed ++ (n, epoch_with k) ∷ []) xs (key_step (Sealed n) k)
  EachMaySeal sealed (x ∷ xs) k = EachMaySeal sealed xs (key_step x k)

  -- the numbers of packets that steps open
  abbrev pub opened_by : List (KeyStep H P) → List ℕ
  opened_by [] = []
  opened_by (Opened n which fresh ∷ xs) = n ∷ opened_by xs
  opened_by (_ ∷ xs) = opened_by xs

  -- the greatest numbers of the ACKs of which steps take word
  abbrev pub acked_by : List (KeyStep H P) → List ℕ
  acked_by [] = []
  acked_by (Acknowledged n ∷ xs) = n ∷ acked_by xs
  acked_by (_ ∷ xs) = acked_by xs

-- ---- in words of the trace

-- whether a packet with this verdict was opened, and its reserved bits and the update that it shows, if it does, are as they may be
abbrev pub is_unsealed : Verdict → Bool
is_unsealed verdict.Ignored = false
is_unsealed verdict.Failure = false
is_unsealed verdict.BadBits = false
is_unsealed verdict.BadUpdate = false
is_unsealed verdict.RetryTaken = false
is_unsealed verdict.Versions = false
is_unsealed verdict.Seen = true
is_unsealed verdict.ReadForClose = true
is_unsealed verdict.NumberOnly = true
is_unsealed verdict.AckOnly = true
is_unsealed verdict.Admitted = true

-- the numbers of the 1-RTT packets that deeds tell as opened so, in order
abbrev pub unsealed_number : Option SpaceId → Option ℕ → Verdict → List ℕ
unsealed_number space number v = if is_unsealed v && is_of «Data» space then option_to_list number else []

-- the same numbers over a list of deeds
abbrev pub unsealed_in : List Did → List ℕ
unsealed_in [] = []
unsealed_in (did.Piece space number v ∷ ds) = unsealed_number space number v ++ unsealed_in ds
unsealed_in (_ ∷ ds) = unsealed_in ds

-- the 1-RTT packets that deeds seal, each with its number and epoch, in order
abbrev pub sealed_here : SpaceId → (number epoch : ℕ) → (early : Bool) → List (ℕ × ℕ)
sealed_here «Data» number epoch false = (number, epoch) ∷ []
sealed_here _ number epoch early = []

-- the same packets over a list of deeds
abbrev pub sealed_under : List Did → List (ℕ × ℕ)
sealed_under [] = []
sealed_under (did.Sealed space number epoch early fs ∷ ds) = sealed_here space number epoch early ++ sealed_under ds
sealed_under (_ ∷ ds) = sealed_under ds

-- what deeds give to loss recovery of 1-RTT packets, in order: what is given behind such a packet that came, and before the next one; `now` says whether
-- the packet before these deeds was one
abbrev pub acks_told : (now : Bool) → List Did → List (List ℕ)
acks_told now [] = []
acks_told now (did.Piece space number v ∷ ds) = acks_told (is_of «Data» space) ds
acks_told now (did.Gave layer.Recovery body ∷ ds) = (if now then body ∷ [] else []) ++ acks_told now ds
acks_told now (_ ∷ ds) = acks_told now ds

-- these bytes are an ACK's with this greatest number
pub record IsAckOf (largest : ℕ) (body : List ℕ) : Type 0 where
  pub ack : AckValue
  pub spelled : body ≡ spelling (frames.Ack ack)
  pub greatest : largest ≡ ack.largest

-- each of these numbers is the greatest of the ACK in its place
abbrev pub AreAcksOf : List ℕ → List (List ℕ) → Type 0
AreAcksOf [] [] = Unit {0}
AreAcksOf (n ∷ ns) (body ∷ bodies) = IsAckOf n body × AreAcksOf ns bodies
AreAcksOf _ _ = ⊥

-- no epoch among these packets lies below one before it, or below `from`, and none above `upto`
abbrev pub EpochsRise : (from upto : ℕ) → List (ℕ × ℕ) → Type 0
EpochsRise from upto [] = from ≤ upto
EpochsRise from upto (p ∷ ps) = (from ≤ p.1) × EpochsRise p.1 upto ps

module _ {t : Types} where
  -- From one view to another, over steps whose trace is this, the 1-RTT keys made these steps, each of which may be made, and are what they leave.
  -- Those of sealed packets are the ones of the 1-RTT packets that the deeds seal, with their numbers, under the keys of the epochs that are told;
  -- those of opened ones are the ones of the 1-RTT packets that the deeds tell as opened; and acknowledgements are those of the ACKs of 1-RTT
  -- packets that loss recovery was given, with their greatest numbers: each in order, none left out, and none made up. So whatever holds over any
  -- calls of a ring holds over these. And each packet is sealed while fewer were sealed in its epoch than its key may seal, those before these steps
  -- among them (RFC 9001, section 6.6); it is said of epochs that 64 bits hold.
  pub record FoldsKeys (xs : List Step) (s s' : View t) : Type 0 where
    pub steps : List (KeyStep t.H t.P)
    pub may : AllMay steps s.keys.«data»
    pub leads : s'.keys.«data» ≡ key_steps steps s.keys.«data»
    pub sealed : sealed_by steps s.keys.«data» ≡ sealed_under (deeds_of xs)
    pub opened : opened_by steps ≡ unsealed_in (deeds_of xs)
    pub acked : AreAcksOf (acked_by steps) (acks_told false (deeds_of xs))
    pub counted : (before : List (ℕ × ℕ)) → AreCounted before s.keys.«data» → epoch_with s.keys.«data» ≤ 18446744073709551615 → epoch_with s'.keys.«data» < 18446744073709551615 →
        EachMaySeal before steps s.keys.«data» × AreCounted (before ++ sealed_under (deeds_of xs)) s'.keys.«data»

  -- 1-RTT keys are there only where their space is the highest one
  abbrev pub AreLast : View t → Type 0
  AreLast s = (s.keys.highest ≡ «Data») ⊎ (s.keys.«data» ≡ None)

  -- From one view to another the epoch of the 1-RTT keys never falls, and 1-RTT packets are sealed under keys of epochs that never fall between
  -- the two, where the epoch has the range of its type; which it keeps.
  pub record KeepsEpochs (xs : List Step) (s s' : View t) : Type 0 where
    pub ranged : epoch_with s.keys.«data» ≤ 18446744073709551615 → epoch_with s'.keys.«data» ≤ 18446744073709551615
    pub rise : epoch_with s.keys.«data» ≤ 18446744073709551615 →
        EpochsRise (epoch_with s.keys.«data») (epoch_with s'.keys.«data») (sealed_under (deeds_of xs))

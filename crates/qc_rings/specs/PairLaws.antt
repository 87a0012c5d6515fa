-- What is proved of two ends that are in step, whatever happens to them.
use Rattle.std.specs.Prelude.{◌≡◌, ℕ, ◌+◌, ◌<◌, ◌≤◌, ◌^◌, true, false, List, Some, None, slice_get}
use Rattle.qc_rings.specs.declared.which.Which.{Which}
use Rattle.qc_rings.specs.declared.which.Which.TheVariants.{Next}
use Rattle.qc_rings.specs.Keyed.{Keyed, key_of, key_of_epoch}
use Rattle.qc_rings.specs.TwoRings.{Packet, End, bound, first_end, end_seals, end_updated, end_discarded, end_given, end_noted, end_acked, end_risen, end_heard, is_of_epoch, which_of, opens, IsGoodUpdate}
use Rattle.qc_rings.specs.InStep.{AreInStep, Counts, start}

-- two ends that begin are in step
abbrev pub FirstInStep : Type 0
FirstInStep = AreInStep first_end first_end

-- being in step has no order
abbrev pub InStepTurned : Type 0
InStepTurned = (a b : End) → AreInStep a b → AreInStep b a

-- They stay so when an end seals a packet with any number from its next one on, which carries any numbers
-- that don't pass the greatest that it opened.
abbrev pub SealKeepsStep : Type 0
SealKeepsStep =
    (a b : End) (number : ℕ) (carried : List ℕ) → a.next ≤ number → bound carried ≤ bound a.opened → AreInStep a b
    → AreInStep (end_seals a number carried) b

-- They stay so when an end updates its keys, where it may.
abbrev pub UpdateKeepsStep : Type 0
UpdateKeepsStep = (a b : End) → a.ring.epoch + 1 < 2 ^ 64 → AreInStep a b → AreInStep (end_updated a) b

-- They stay so when a packet that the other end ever sealed reaches an end.
abbrev pub DeliverKeepsStep : Type 0
DeliverKeepsStep =
    (a b : End) (index : ℕ) → a.ring.epoch + 1 < 2 ^ 64 → AreInStep a b → AreInStep (end_given a (slice_get b.sent index)) b

-- They stay so when an end drops previous keys, where they have a floor.
abbrev pub DiscardKeepsStep : Type 0
DiscardKeepsStep = (a b : End) → AreInStep a b → AreInStep (end_discarded a) b

-- Their epochs differ by at most one.
abbrev pub StepIsNear : Type 0
StepIsNear = (a b : End) → AreInStep a b → a.ring.epoch ≤ b.ring.epoch + 1

-- Where the next keys open a packet, the update is one that the peer was allowed to make.
abbrev pub StepUpdatesWell : Type 0
StepUpdatesWell =
    (a b : End) (index : ℕ) (p : Packet) → slice_get b.sent index ≡ Some p → which_of a p ≡ Next → opens a p ≡ true
    → AreInStep a b → IsGoodUpdate a p

-- A packet of its sealer's current epoch is opened.
abbrev pub StepOpensCurrent : Type 0
StepOpensCurrent =
    (a b : End) (index : ℕ) (p : Packet) → slice_get b.sent index ≡ Some p → p.epoch ≡ b.ring.epoch → AreInStep a b → opens a p ≡ true

-- A packet that isn't opened is of an epoch before its sealer's.
abbrev pub StepFailsOld : Type 0
StepFailsOld =
    (a b : End) (index : ℕ) (p : Packet) → slice_get b.sent index ≡ Some p → opens a p ≡ false → AreInStep a b → p.epoch < b.ring.epoch

-- They stay so when an end opens a packet that the other end ever sealed, by keys of the packet's epoch, whichever keys it names.
abbrev pub OpenKeepsStep : Type 0
OpenKeepsStep =
    (a b : End) (which : Which) (index : ℕ) (p : Packet) → a.ring.epoch + 1 < 2 ^ 64 → slice_get b.sent index ≡ Some p
    → is_of_epoch a.ring which p.epoch ≡ true → AreInStep a b → AreInStep (end_noted a which p.number) b

-- They stay so when a number is acknowledged that lies below the bound of what some packet of the other end's carries.
abbrev pub AckKeepsStep : Type 0
AckKeepsStep =
    (a b : End) (index : ℕ) (p : Packet) (number : ℕ) → slice_get b.sent index ≡ Some p → number < bound p.carried → AreInStep a b
    → AreInStep (end_acked a number) b

-- They stay so when an end that sealed nothing in its epoch passes over numbers.
abbrev pub RiseKeepsStep : Type 0
RiseKeepsStep = (a b : End) (number : ℕ) → a.next ≤ number → a.ring.first ≡ None → AreInStep a b → AreInStep (end_risen a number) b

-- They stay so when an end opens a packet, by keys of no epoch, whose number is from before the other end's epoch.
abbrev pub HearKeepsStep : Type 0
HearKeepsStep = (a b : End) (number : ℕ) → number < start b → AreInStep a b → AreInStep (end_heard a number) b

-- An end that begins counts so that its epochs are no greater than its numbers, and goes on to with each move of its own.
abbrev pub FirstCounts : Type 0
FirstCounts = Counts first_end

-- ... as it seals a packet.
abbrev pub SealKeepsCounts : Type 0
SealKeepsCounts = (e : End) (number : ℕ) (carried : List ℕ) → e.next ≤ number → Counts e → Counts (end_seals e number carried)

-- ... as it updates its keys.
abbrev pub UpdateKeepsCounts : Type 0
UpdateKeepsCounts = (e : End) → e.ring.epoch + 1 < 2 ^ 64 → Counts e → Counts (end_updated e)

-- ... as it opens a packet that the other end ever sealed.
abbrev pub OpenKeepsCounts : Type 0
OpenKeepsCounts =
    (a b : End) (which : Which) (index : ℕ) (p : Packet) → a.ring.epoch + 1 < 2 ^ 64 → slice_get b.sent index ≡ Some p
    → is_of_epoch a.ring which p.epoch ≡ true → AreInStep a b → Counts a → Counts (end_noted a which p.number)

-- ... as a number is acknowledged that lies below the bound of what some packet of the other end carries.
abbrev pub AckKeepsCounts : Type 0
AckKeepsCounts =
    (a b : End) (index : ℕ) (p : Packet) (number : ℕ) → slice_get b.sent index ≡ Some p → number < bound p.carried → AreInStep a b
    → Counts a → Counts (end_acked a number)

-- ... as it gives up its previous keys.
abbrev pub DiscardKeepsCounts : Type 0
DiscardKeepsCounts = (e : End) → Counts e → Counts (end_discarded e)

-- ... as it passes over numbers before it sealed anything in its epoch.
abbrev pub RiseKeepsCounts : Type 0
RiseKeepsCounts = (e : End) (number : ℕ) → e.next ≤ number → e.ring.first ≡ None → Counts e → Counts (end_risen e number)

-- ... as it opens a packet by keys of no epoch.
abbrev pub HearKeepsCounts : Type 0
HearKeepsCounts = (e : End) (number : ℕ) → Counts e → Counts (end_heard e number)

-- A packet of its sealer's current epoch has a number that is no less than the epoch: one that begins an update, above 0.
abbrev pub NumbersReachEpochs : Type 0
NumbersReachEpochs = (a b : End) (index : ℕ) (p : Packet) → slice_get a.sent index ≡ Some p → p.epoch ≡ a.ring.epoch → AreInStep a b → Counts a → p.epoch ≤ p.number

-- The keys that are called current, previous or next are those of their epochs.
abbrev pub NamedIsOfEpoch : (P : Type 0) → Type 0
NamedIsOfEpoch P = (k : Keyed P) (which : Which) (epoch : ℕ) → is_of_epoch k.ring which epoch ≡ true → key_of k which ≡ key_of_epoch k epoch

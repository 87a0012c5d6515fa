-- Laws over whole runs, said of the deeds of a trace.
use Rattle.std.specs.Prelude.{◌≡◌, ℕ, ◌+◌, ◌<◌, ◌≤◌, ◌⊎◌, Bool, true, false, ◌&&◌, IfSome, if◌then◌else◌, List, [], ◌∷◌, ◌++◌, length, Option, Some, None, option_to_list}
use Rattle.std.specs.List.{All}
use Rattle.qc_base.specs.RangeSet.{Member}
use Rattle.qc_base.specs.declared.side.SpaceId.{SpaceId}
use Rattle.qc_frame.specs.AckRanges.{Acknowledges}
use Rattle.qc_frame.specs.Frame.{FrameValue}
use Rattle.qc_frame.specs.declared.frames.FrameOf.TheVariants as frames
use Rattle.qc_state.specs.declared.deeds.Did.{Did}
use Rattle.qc_state.specs.declared.deeds.Did.TheVariants.{Piece, Gave, Sealed, Rose, Lost, Quiet}
use Rattle.qc_state.specs.declared.input.Input.{Input}
use Rattle.qc_state.specs.declared.input.Input.TheVariants as input
use Rattle.qc_state.specs.declared.life.ConnectionError.{ConnectionError}
use Rattle.qc_state.specs.declared.life.Life.{Life}
use Rattle.qc_state.specs.declared.numbers.Numbers.{Numbers}
use Rattle.qc_state.specs.declared.trace.Step.{Step}
use Rattle.qc_state.specs.declared.waiting.Waiting.{Waiting}
use Rattle.qc_state.specs.Life.{rank_of}
use Rattle.qc_path.specs.Arrived.{Window, is_among, is_new, arrived}
use Rattle.qc_state.specs.declared.deeds.Verdict.{Verdict}
use Rattle.qc_state.specs.declared.deeds.Verdict.TheVariants as verdict
use Rattle.qc_state.specs.Moves.{ClosesOnly, accepts, enters}
use Rattle.qc_state.specs.Numbers.{next_number, came_in}
use Rattle.qc_state.specs.Paths.{is_blocked}
use Rattle.qc_state.specs.Run.{reported}
use Rattle.qc_state.specs.Spaces.{is_space, space_of}
use Rattle.qc_state.specs.Types.{Types}
use Rattle.qc_state.specs.View.{View}

-- all deeds of a trace, in order
abbrev pub deeds_of : List Step → List Did
deeds_of [] = []
deeds_of (x ∷ xs) = x.did ++ deeds_of xs

-- the numbers that were sealed in a space, in order
abbrev pub sealed_in : SpaceId → List Did → List ℕ
sealed_in id [] = []
sealed_in id (Sealed space number epoch early frames ∷ ds) = if is_space id space then number ∷ sealed_in id ds else sealed_in id ds
sealed_in id (Piece space number verdict ∷ ds) = sealed_in id ds
sealed_in id (Gave layer body ∷ ds) = sealed_in id ds
sealed_in id (Rose life ∷ ds) = sealed_in id ds
sealed_in id (Lost why ∷ ds) = sealed_in id ds
sealed_in id (Quiet why ∷ ds) = sealed_in id ds

-- the reasons that were given, in order
abbrev pub reasons_in : List Did → List ConnectionError
reasons_in [] = []
reasons_in (Sealed space number epoch early frames ∷ ds) = reasons_in ds
reasons_in (Piece space number verdict ∷ ds) = reasons_in ds
reasons_in (Gave layer body ∷ ds) = reasons_in ds
reasons_in (Rose life ∷ ds) = reasons_in ds
reasons_in (Lost why ∷ ds) = why ∷ reasons_in ds
reasons_in (Quiet why ∷ ds) = reasons_in ds

-- the ranks that the life rose to, in order
abbrev pub lives_in : List Did → List ℕ
lives_in [] = []
lives_in (Sealed space number epoch early frames ∷ ds) = lives_in ds
lives_in (Piece space number verdict ∷ ds) = lives_in ds
lives_in (Gave layer body ∷ ds) = lives_in ds
lives_in (Rose life ∷ ds) = life ∷ lives_in ds
lives_in (Lost why ∷ ds) = lives_in ds
lives_in (Quiet why ∷ ds) = lives_in ds

-- the number of a packet that counts as come in a space from then on, where a deed tells of one
abbrev pub entered_number : SpaceId → Option SpaceId → Option ℕ → Verdict → Option ℕ
entered_number id None number verdict = None
entered_number id (Some space) None verdict = None
entered_number id (Some space) (Some number) verdict = if is_space id space && enters verdict then Some number else None

-- the numbers that came in a space and counted, in order: those of packets that were admitted, of those that were only
-- acknowledged, and of those that were only read for a close
abbrev pub entered_in : SpaceId → List Did → List ℕ
entered_in id [] = []
entered_in id (Piece space number verdict ∷ ds) = option_to_list (entered_number id space number verdict) ++ entered_in id ds
entered_in id (Sealed space number epoch early frames ∷ ds) = entered_in id ds
entered_in id (Gave layer body ∷ ds) = entered_in id ds
entered_in id (Rose life ∷ ds) = entered_in id ds
entered_in id (Lost why ∷ ds) = entered_in id ds
entered_in id (Quiet why ∷ ds) = entered_in id ds

-- each number is new as its turn comes
abbrev pub EachNew : Window → List ℕ → Type 0
EachNew w [] = Unit {0}
EachNew w (n ∷ ns) = (is_new w n ≡ true) × EachNew (arrived n w) ns

-- no number stands in the list twice
abbrev pub NoneTwice : List ℕ → Type 0
NoneTwice [] = Unit {0}
NoneTwice (n ∷ ns) = (is_among ns n ≡ false) × NoneTwice ns

-- from this rank of the life on, each packet that is sealed once the life has risen to Closed holds a close
abbrev pub CloseFrom : ℕ → List Did → Type 0
CloseFrom rank [] = Unit {0}
CloseFrom rank (Sealed space number epoch early frames ∷ ds) = ClosesOnly rank frames × CloseFrom rank ds
CloseFrom rank (Piece space number verdict ∷ ds) = CloseFrom rank ds
CloseFrom rank (Gave layer body ∷ ds) = CloseFrom rank ds
CloseFrom rank (Rose life ∷ ds) = CloseFrom life ds
CloseFrom rank (Lost why ∷ ds) = CloseFrom rank ds
CloseFrom rank (Quiet why ∷ ds) = CloseFrom rank ds

-- the number of a packet that is to be acknowledged from then on, where a deed tells of one
abbrev pub accepted_number : SpaceId → Option SpaceId → Option ℕ → Verdict → Option ℕ
accepted_number id None number verdict = None
accepted_number id (Some space) None verdict = None
accepted_number id (Some space) (Some number) verdict = if is_space id space && accepts verdict then Some number else None

-- the numbers that are known behind a deed: that of a packet which was accepted, and those that were known before
abbrev pub KnownBehind : SpaceId → (ℕ → Type 0) → Did → ℕ → Type 0
KnownBehind id Known (Piece space number verdict) n = (accepted_number id space number verdict ≡ Some n) ⊎ Known n
KnownBehind id Known _ n = Known n

-- each ACK among the frames acknowledges known numbers only
abbrev pub AcksOnly : (ℕ → Type 0) → List FrameValue → Type 0
AcksOnly Known [] = Unit {0}
AcksOnly Known (frames.Ack ack ∷ fs) = ((n : ℕ) → Acknowledges ack n → Known n) × AcksOnly Known fs
AcksOnly Known (_ ∷ fs) = AcksOnly Known fs

-- a packet that is sealed in the space acknowledges known numbers only
abbrev pub SealsKnown : SpaceId → (ℕ → Type 0) → Did → Type 0
SealsKnown id Known (Sealed space number epoch early fs) = is_space id space ≡ true → AcksOnly Known fs
SealsKnown id Known _ = Unit {0}

-- each packet that is sealed in a space acknowledges known numbers only; the number of each packet that was accepted there is
-- known from then on
abbrev pub AcksKnown : SpaceId → (ℕ → Type 0) → List Did → Type 0
AcksKnown id Known [] = Unit {0}
AcksKnown id Known (d ∷ ds) = SealsKnown id Known d × AcksKnown id (KnownBehind id Known d) ds

-- the numbers of the packets that were accepted in a space, in order
abbrev pub accepted_in : SpaceId → List Did → List ℕ
accepted_in id [] = []
accepted_in id (Piece space number verdict ∷ ds) = option_to_list (accepted_number id space number verdict) ++ accepted_in id ds
accepted_in id (_ ∷ ds) = accepted_in id ds

-- the number is kept to be acknowledged in the space
abbrev pub IsKept : SpaceId → Waiting → ℕ → Type 0
IsKept id v n = Member n (space_of v.spaces id).acks.ranges

-- numbers rise strictly, from a least one on
abbrev pub RisesFrom : ℕ → List ℕ → Type 0
RisesFrom least [] = Unit {0}
RisesFrom least (n ∷ ns) = (least ≤ n) × RisesFrom (n + 1) ns

-- what the laws speak of: a space's next number, what came in it, the reason, and the rank of the life
pub record Kernel : Type 0 where
  pub next : ℕ
  pub came : Window
  pub reason : Option ConnectionError
  pub rank : ℕ

-- the kernel of a view's numbers and life
abbrev pub kernel_of : SpaceId → Numbers → Life → Kernel
kernel_of id numbers life = record { next = next_number numbers id; came = came_in numbers id; reason = life.reason; rank = rank_of life.state }

-- what came, with one more where there is one
abbrev pub came_with : Option ℕ → Window → Window
came_with None w = w
came_with (Some n) w = arrived n w

-- what a deed makes of it
abbrev pub kernel_after : SpaceId → Kernel → Did → Kernel
kernel_after id k (Sealed space number epoch early frames) = if is_space id space then record k { next = number + 1 } else k
kernel_after id k (Piece space number verdict) = record k { came = came_with (entered_number id space number verdict) k.came }
kernel_after id k (Gave layer body) = k
kernel_after id k (Rose life) = record k { rank = life }
kernel_after id k (Lost why) = record k { reason = Some why }
kernel_after id k (Quiet why) = k

-- where a deed may come: a packet whose number isn't below the space's next one, and which holds a close from the rise to Closed on; a
-- number that came and is new; a rise of the life that rises; a reason after none
abbrev pub IsRight : SpaceId → Kernel → Did → Type 0
IsRight id k (Sealed space number epoch early frames) = (is_space id space ≡ true → k.next ≤ number) × ClosesOnly k.rank frames
IsRight id k (Piece space number verdict) = IfSome (entered_number id space number verdict) (λ n. is_new k.came n ≡ true)
IsRight id k (Gave layer body) = Unit {0}
IsRight id k (Rose life) = k.rank < life
IsRight id k (Lost why) = k.reason ≡ None
IsRight id k (Quiet why) = Unit {0}

-- from one kernel to another, between which numbers may have been skipped
pub record IsBehind (k k' : Kernel) : Type 0 where
  pub next : k.next ≤ k'.next
  pub came : k'.came ≡ k.came
  pub reason : k'.reason ≡ k.reason
  pub rank : k'.rank ≡ k.rank

-- deeds that come where they may, from one kernel to another; before each of them, and behind the last one, numbers may have been
-- skipped
unfoldable pub Tells : SpaceId → Kernel → List Did → Kernel → Type 0
Tells id k [] k' = IsBehind k k'
Tells id k (d ∷ ds) k' = IsRight id k d × Tells id (kernel_after id k d) ds k'

-- Packets that open nothing change only counts (RFC 9001, section 9.5). A deed that tells of a packet which was ignored, or which its key didn't open
abbrev pub is_harmless : Did → Bool
is_harmless (Piece space number verdict.Ignored) = true
is_harmless (Piece space number verdict.Failure) = true
is_harmless _ = false

-- an input that brings a datagram
abbrev pub is_datagram : Input → Bool
is_datagram (input.Datagram time remote ecn bytes) = true
is_datagram _ = false

module _ {t : Types} where
  -- in each space, no packet number is used twice: the sealed numbers rise strictly from the space's next number on
  unfoldable pub EachRises : View t → List Step → Type 0
  EachRises s xs = (id : SpaceId) → RisesFrom (next_number s.numbers id) (sealed_in id (deeds_of xs))

  -- in each space, no packet number that came counts twice, as far as they are remembered
  unfoldable pub EachAdmitted : View t → List Step → Type 0
  EachAdmitted s xs = (id : SpaceId) → EachNew (came_in s.numbers id) (entered_in id (deeds_of xs))

  -- in each space, each number that a sealed ACK acknowledges is that of a packet which was accepted before, or was kept to be
  -- acknowledged at the start
  unfoldable pub EachAcksKnown : View t → List Step → Type 0
  EachAcksKnown s xs = (id : SpaceId) → AcksKnown id (IsKept id s.waiting) (deeds_of xs)

  -- the life never falls, and no rank is risen to twice
  unfoldable pub LifeRises : View t → List Step → Type 0
  LifeRises s xs = RisesFrom (rank_of s.life.state + 1) (lives_in (deeds_of xs))

  -- once this end or its peer has closed, each packet that is sealed holds a close
  unfoldable pub OnlyCloses : View t → List Step → Type 0
  OnlyCloses s xs = CloseFrom (rank_of s.life.state) (deeds_of xs)

  -- at most one reason for the end is ever given
  unfoldable pub LosesOnce : View t → List Step → Type 0
  LosesOnce s xs = length (option_to_list s.life.reason) + length (reasons_in (deeds_of xs)) ≤ 1

  -- From one view to another only counts changed: that of the packets which didn't open, that of the bytes which came, and the
  -- greatest time; and the loss timer, where no datagram could be begun before. What waited to be reported may have been reported.
  -- Where the count of bytes has the range of its type, it keeps it, and doesn't fall.
  pub record OnlyCounts (s s' : View t) : Type 0 where
    pub numbers : s'.numbers ≡ s.numbers
    pub keys : s'.keys ≡ record s.keys { failures = s'.keys.failures }
    pub life : (reported s').life ≡ (reported s).life
    pub paths : s'.paths ≡ record s.paths { current = record s.paths.current { received = s'.paths.current.received } }
    pub ranged : s.paths.current.received ≤ 18446744073709551615 → s'.paths.current.received ≤ 18446744073709551615
    pub more : s.paths.current.received ≤ 18446744073709551615 → s.paths.current.received ≤ s'.paths.current.received
    pub timers : s'.timers ≡ record s.timers { greatest = s'.timers.greatest; loss_detection = s'.timers.loss_detection }
    pub still : s.paths.current.received ≤ 18446744073709551615 → is_blocked s.paths ≡ false → s'.timers.loss_detection ≡ s.timers.loss_detection
    pub waiting : s'.waiting ≡ s.waiting
    pub setup : s'.setup ≡ s.setup
    pub lower : (reported s').lower ≡ (reported s).lower
    pub issuer : s'.issuer ≡ s.issuer

  -- datagrams none of whose packets opened change only counts
  unfoldable pub Harmless : View t → List Input → List Step → View t → Type 0
  Harmless s is xs s' = All (λ i. is_datagram i ≡ true) is → All (λ d. is_harmless d ≡ true) (deeds_of xs) → OnlyCounts s s'

-- A run as steps of the 1-RTT keys, with what a trace doesn't tell: which payloads were opened, under which numbers. It is what two connections ask of
-- each one (RFC 9001, section 6): whatever ledger shows a connection at the start, there is one that shows it at the end, and steps lead from the
-- one to the other.
use Rattle.std.specs.Prelude.{◌≡◌, ◌⊎◌, ℕ, ◌+◌, ◌≤◌, ◌<◌, Bool, true, false, List, [], ◌∷◌, ◌++◌, max, Option, Some, None, option_map, if◌then◌else◌, Ok, Err, IsSome}
use Rattle.qc_crypto.specs.declared.keys.KeyPair.{KeyPair}
use Rattle.qc_crypto.specs.declared.keys.Keys.{Keys}
use Rattle.qc_base.specs.declared.side.SpaceId.TheVariants.{«Data»}
use Rattle.qc_base.specs.declared.side.SpaceId.{SpaceId}
use Rattle.qc_frame.specs.Frame.{AckValue, FrameValue}
use Rattle.qc_frame.specs.FrameSpelling.{spelling}
use Rattle.qc_frame.specs.Payload.{Item, items_of}
use Rattle.qc_frame.specs.declared.frames.FrameOf.TheVariants as frames
use Rattle.qc_header.specs.HeaderGrammar.{DatagramItem}
use Rattle.qc_header.specs.Piece.{Piece}
use Rattle.qc_rings.specs.declared.which.Which.{Which}
use Rattle.qc_rings.specs.declared.which.Which.TheVariants.{Current, Next, Previous}
use Rattle.qc_state.specs.declared.deeds.Did.{Did}
use Rattle.qc_state.specs.declared.deeds.Did.TheVariants as did
use Rattle.qc_state.specs.declared.deeds.Layer.{Layer}
use Rattle.qc_state.specs.declared.deeds.Layer.TheVariants as layer
use Rattle.qc_state.specs.declared.input.Input.{Input}
use Rattle.qc_state.specs.declared.input.Input.TheVariants as input
use Rattle.qc_state.specs.declared.keys.Fresh.{Fresh}
use Rattle.qc_state.specs.declared.keys.OneRttKeys.{OneRttKeys}
use Rattle.qc_state.specs.declared.opening.Opening.TheVariants.{Opened}
use Rattle.qc_state.specs.declared.trace.Step.{Step}
use Rattle.qc_state.specs.Headline.{deeds_of, AcksOnly, IsKept}
use Rattle.qc_state.specs.Keys.{epoch_with, fresh_for, ring_acked, ring_discarded, ring_may_update, ring_opened, ring_updated, ring_used, new_ring}
use Rattle.qc_state.specs.Numbers.{next_number, received_number}
use Rattle.qc_state.specs.Opening.{opened_in}
use Rattle.qc_state.specs.Receiving.{cut_of}
use Rattle.qc_state.specs.Types.{Types, Meaning}
use Rattle.qc_state.specs.Updating.{session_by}
use Rattle.qc_state.specs.View.{View}
use Rattle.qc_laws.specs.StreamLaws.{is_of}
use Rattle.qc_laws.specs.UpdateLaws.{waits_for_answer}

-- a 1-RTT packet that was sealed, as it is told: its number, the epoch of its key, and its frames
pub record SealedTold : Type 0 where
  pub number : ℕ
  pub epoch : ℕ
  pub frames : List FrameValue

-- something that a layer was given
pub record GivenTold : Type 0 where
  pub layer : Layer
  pub body : List ℕ

-- those that deeds tell, in order
abbrev pub told_here : SpaceId → (number epoch : ℕ) → (early : Bool) → List FrameValue → List SealedTold
told_here «Data» number epoch false frames = (record { number = number; epoch = epoch; frames = frames }) ∷ []
told_here _ number epoch early frames = []

-- the 1-RTT packets that a list of deeds seals, in order
abbrev pub sealed_told : List Did → List SealedTold
sealed_told [] = []
sealed_told (did.Sealed space number epoch early frames ∷ ds) = told_here space number epoch early frames ++ sealed_told ds
sealed_told (_ ∷ ds) = sealed_told ds

-- something that a layer was given counts here, where the packet before it was a 1-RTT one; bytes that the session is given are no frames
abbrev pub given_here : (now : Bool) → Layer → (body : List ℕ) → List GivenTold
given_here now layer.Session body = []
given_here now to body = if now then (record { layer = to; body = body }) ∷ [] else []

-- of what the layers were given that of frames in 1-RTT packets, in order; `now` says whether the packet before these deeds was one
abbrev pub given_told : (now : Bool) → List Did → List GivenTold
given_told now [] = []
given_told now (did.Piece space number v ∷ ds) = given_told (is_of «Data» space) ds
given_told now (did.Gave to body ∷ ds) = given_here now to body ++ given_told now ds
given_told now (_ ∷ ds) = given_told now ds

-- one more than the greatest of these numbers; 0 where there is none
abbrev pub bound : List ℕ → ℕ
bound [] = 0
bound (n ∷ ns) = max (n + 1) (bound ns)

-- these bytes are among those
abbrev pub IsIn : List ℕ → List (List ℕ) → Type 0
IsIn bytes [] = ⊥
IsIn bytes (other ∷ others) = (other ≡ bytes) ⊎ IsIn bytes others

-- a frame stands in a payload
abbrev pub StandsAmong : FrameValue → List Item → Type 0
StandsAmong f [] = ⊥
StandsAmong f (Ok read ∷ items) = (read.frame ≡ f) ⊎ StandsAmong f items
StandsAmong f (Err fault ∷ items) = StandsAmong f items

-- a frame stands in the payload of a packet
abbrev pub StandsIn : FrameValue → (payload : List ℕ) → Type 0
StandsIn f payload = StandsAmong f (items_of payload)

-- a piece of a datagram
abbrev pub IsAmongPieces : Piece → List DatagramItem → Type 0
IsAmongPieces p [] = ⊥
IsAmongPieces p (Ok q ∷ items) = (q ≡ p) ⊎ IsAmongPieces p items
IsAmongPieces p (Err fault ∷ items) = ⊥

-- What is kept of a connection: of its view the session, the 1-RTT keys, the next number and the greatest accepted one of the Data space; and of its
-- past the 1-RTT packets that were sealed, the numbers and payloads of those that were opened, and what the layers were given.
pub record Ledger (t : Types) : Type 0 where
  pub session : t.S
  pub keys : Option (OneRttKeys t.H t.P)
  pub next : ℕ
  pub rx : ℕ
  pub sent : List SealedTold
  pub opened : List ℕ
  pub read : List (List ℕ)
  pub given : List GivenTold

-- a step: the session makes a call; the 1-RTT keys are given; numbers are passed over; a packet is sealed; this end updates its keys; a packet that
-- came is opened by these keys, with this number and payload; a number that was opened counts for the greatest accepted one; up to this number packets
-- are acknowledged by a packet with this payload; a layer is given a frame of this payload; or the keys of the epoch before were kept for long enough
pub data LedgerStep (t : Types) : Type 0 where
  Calls : (session : t.S) → LedgerStep t
  Takes : (keys : OneRttKeys t.H t.P) → (session : t.S) → LedgerStep t
  Passes : (next : ℕ) → LedgerStep t
  Seals : (number : ℕ) → (frames : List FrameValue) → LedgerStep t
  Updates : (fresh : Option (Fresh t.P)) → (session : t.S) → LedgerStep t
  Opens : (piece : Piece) → (number : ℕ) → (payload : List ℕ) → (which : Which) → (fresh : Option (Fresh t.P)) → (session : t.S) → LedgerStep t
  Accepts : (number : ℕ) → LedgerStep t
  Acknowledges : (payload : List ℕ) → (largest : ℕ) → LedgerStep t
  Gives : (payload : List ℕ) → (layer : Layer) → (body : List ℕ) → LedgerStep t
  Discards : LedgerStep t

module _ {t : Types} where
  -- what it leaves: of the ring each is a call of its own
  abbrev pub ledger_after : LedgerStep t → Ledger t → Ledger t
  ledger_after (Calls session) e = record e { session = session }
  ledger_after (Takes keys session) e = record e { keys = Some keys; session = session }
  ledger_after (Passes next) e = record e { next = next }
  ledger_after (Seals number fs) e = record e {
    keys = ring_used number e.keys;
    next = number + 1;
    sent = e.sent ++ (record { number = number; epoch = epoch_with e.keys; frames = fs }) ∷ [];
  }
  ledger_after (Updates fresh session) e = record e { keys = ring_updated fresh e.keys; session = session }
  ledger_after (Opens piece number payload which fresh session) e = record e {
    keys = ring_opened which number fresh e.keys;
    session = session;
    opened = e.opened ++ number ∷ [];
    read = e.read ++ payload ∷ [];
  }
  ledger_after (Accepts number) e = record e { rx = max e.rx number }
  ledger_after (Acknowledges payload largest) e = record e { keys = ring_acked largest e.keys }
  ledger_after (Gives payload layer body) e = record e { given = e.given ++ (record { layer = layer; body = body }) ∷ [] }
  ledger_after Discards e = record e { keys = ring_discarded e.keys }

  abbrev pub ledgers_after : List (LedgerStep t) → Ledger t → Ledger t
  ledgers_after [] e = e
  ledgers_after (x ∷ xs) e = ledgers_after xs (ledger_after x e)

  -- A piece opened by these of a ledger's keys, with this number and payload.
  abbrev pub OpensPiece : Meaning t → Ledger t → Piece → (number : ℕ) → (payload : List ℕ) → Which → Type 0
  OpensPiece m e p number payload which =
      (source token : List ℕ) × (spin : Bool)
      × (opened_in m.mask m.opening (option_map (λ (k : OneRttKeys t.H t.P). k.header.remote) e.keys) None (option_map (λ (k : OneRttKeys t.H t.P). k.ring) e.keys) e.rx p ≡ Opened source token spin (Some which) number payload)

  -- what a ring that these keys have takes with it as these of them open a packet: of a new epoch what the session gives then
  abbrev pub fresh_of : Meaning t → Which → Option (OneRttKeys t.H t.P) → t.S → Option (Fresh t.P)
  fresh_of m Next keys session = fresh_for m.seal_limit m.failure_limit keys (m.next_keys session)
  fresh_of m Current keys session = None
  fresh_of m Previous keys session = None

  -- the keys that the session gives with a write, and those of the next epoch that it gives behind it
  pub record AreGiven (m : Meaning t) (keys : OneRttKeys t.H t.P) (session later : t.S) : Type 0 where
    pub first : Keys t.H t.P
    pub next : KeyPair t.P
    pub written : m.write_keys session ≡ Some first
    pub behind : m.next_keys (m.after_write session) ≡ Some next
    pub made : keys ≡ new_ring m.seal_limit m.failure_limit first next
    pub after : later ≡ m.after_next (m.after_write session)

  -- Where a step may be made, where these pieces come. Keys are taken where there are none. A packet is sealed where there are keys, has a number not
  -- below the next one, and acknowledges no number above all that were opened. An update is one that was allowed, and one of the peer's is followed
  -- where the one before was answered, by a packet with a number above all that were accepted (RFC 9001, sections 6.2 and 6.4). What a ring takes
  -- with it into a new epoch is what the session gives then. A number that is accepted was opened; and whatever is acknowledged, or given, stands
  -- in a payload that was.
  abbrev pub MayLedger : Meaning t → (Comes : Piece → Type 0) → LedgerStep t → Ledger t → Type 0
  MayLedger m Comes (Calls session) e =
      ((bytes : List ℕ) × (session ≡ m.after_read e.session bytes))
      ⊎ ((session ≡ m.after_write e.session) ⊎ ((session ≡ m.after_next (m.after_write e.session)) × (m.next_keys (m.after_write e.session) ≡ None)))
  MayLedger m Comes (Takes keys session) e = (e.keys ≡ None) × AreGiven m keys e.session session
  MayLedger m Comes (Passes next) e = e.next ≤ next
  MayLedger m Comes (Seals number fs) e = (e.next ≤ number) × IsSome e.keys × AcksOnly (λ n. n < bound e.opened) fs
  MayLedger m Comes (Updates fresh session) e = (ring_may_update e.keys ≡ true) × (fresh ≡ fresh_for m.seal_limit m.failure_limit e.keys (m.next_keys e.session)) × (session ≡ m.after_next e.session)
  MayLedger m Comes (Opens piece number payload which fresh session) e =
      Comes piece × OpensPiece m e piece number payload which × (fresh ≡ fresh_of m which e.keys e.session) × (session ≡ session_by m which e.session)
      × (which ≡ Next → waits_for_answer e.keys ≡ false) × (which ≡ Next → e.rx < number)
  MayLedger m Comes (Accepts number) e = number < bound e.opened
  MayLedger m Comes (Acknowledges payload largest) e = IsIn payload e.read × ((ack : AckValue) × StandsIn (frames.Ack ack) payload × (largest ≡ ack.largest))
  MayLedger m Comes (Gives payload layer body) e = IsIn payload e.read × ((f : FrameValue) × StandsIn f payload × (body ≡ spelling f))
  MayLedger m Comes Discards e = Unit {0}

  abbrev pub AllMayLedger : Meaning t → (Comes : Piece → Type 0) → List (LedgerStep t) → Ledger t → Type 0
  AllMayLedger m Comes [] e = Unit {0}
  AllMayLedger m Comes (x ∷ xs) e = MayLedger m Comes x e × AllMayLedger m Comes xs (ledger_after x e)

  -- a ledger shows a view
  pub record Mirrors (s : View t) (e : Ledger t) : Type 0 where
    pub session : e.session ≡ s.lower.session
    pub keys : e.keys ≡ s.keys.«data»
    pub next : e.next ≤ next_number s.numbers «Data»
    pub rx : e.rx ≡ received_number s.numbers «Data»
    pub kept : (n : ℕ) → IsKept «Data» s.waiting n → n < bound e.opened

  -- a piece comes with one of these inputs, as this connection cuts datagrams
  abbrev pub ComesWith : View t → List Input → Piece → Type 0
  ComesWith s [] p = ⊥
  ComesWith s (input.Datagram time remote ecn bytes ∷ is) p = IsAmongPieces p (cut_of s bytes) ⊎ ComesWith s is p
  ComesWith s (_ ∷ is) p = ComesWith s is p

  -- from one ledger to another by such steps
  pub record Goes (m : Meaning t) (Comes : Piece → Type 0) (e e' : Ledger t) : Type 0 where
    pub steps : List (LedgerStep t)
    pub may : AllMayLedger m Comes steps e
    pub leads : e' ≡ ledgers_after steps e

  -- what a run leaves of a ledger that shows its beginning: one that shows its end, to which such steps lead, each opened piece being one of the
  -- inputs'; what was sealed and given since is what the deeds tell
  pub record Shown (m : Meaning t) (is : List Input) (xs : List Step) (s s' : View t) (e : Ledger t) : Type 0 where
    pub end : Ledger t
    pub goes : Goes m (ComesWith s is) e end
    pub mirrors : Mirrors s' end
    pub sent : end.sent ≡ e.sent ++ sealed_told (deeds_of xs)
    pub given : end.given ≡ e.given ++ given_told false (deeds_of xs)

  abbrev pub RunMirrors : Meaning t → (is : List Input) → (xs : List Step) → (s s' : View t) → Type 0
  RunMirrors m is xs s s' = (e : Ledger t) → Mirrors s e → Shown m is xs s s' e

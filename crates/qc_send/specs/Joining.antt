-- What follows a packet, and how this end finds it: these are this crate's own words, and the contract of a transmit has none of them.
use Rattle.std.specs.Prelude.{◌≡◌, ℕ, ◌+◌, ◌-◌, ◌<◌, ◌≤◌, ◌⊎◌, Bool, true, false, ◌||◌, ◌&&◌, ◌==◌, not, nat_lt, nat_le, if◌then◌else◌, Option, Some, None}
use Rattle.qc_base.specs.declared.side.SpaceId.{SpaceId}
use Rattle.qc_base.specs.declared.side.SpaceId.TheVariants.{Initial, Handshake, «Data»}
use Rattle.qc_send.specs.declared.joining.Further.{Further}
use Rattle.qc_send.specs.declared.joining.Further.TheVariants as further
use Rattle.qc_send.specs.declared.sending.Dying.{Dying}
use Rattle.qc_send.specs.declared.sending.Next.{Next}
use Rattle.qc_send.specs.declared.sending.Next.TheVariants as next
use Rattle.qc_send.specs.declared.sending.Outcome.{Outcome}
use Rattle.qc_send.specs.declared.sending.Outcome.TheVariants as outcome
use Rattle.qc_state.specs.declared.deeds.Quiet.{Quiet}
use Rattle.qc_state.specs.declared.deeds.Quiet.TheVariants.{Congestion, Pacing}
use Rattle.qc_state.specs.declared.transmit.Batch.{Batch}
use Rattle.qc_state.specs.declared.transmit.TheConstants.{JOINING_SIZE}
use Rattle.qc_state.specs.Acks.{IsLongAck, IsShortAck, is_ack_owed}
use Rattle.qc_state.specs.Keys.{form_in}
use Rattle.qc_state.specs.Life.{is_drained, is_open}
use Rattle.qc_state.specs.Offers.{datagram_fits, wants_sending}
use Rattle.qc_state.specs.Batches.{IsBehind, is_done, is_in_order, is_whole, next_segment, takes_another, wanted_size}
use Rattle.qc_state.specs.Sending.{Dies, HasTurn, IsEnded, IsHeld, MayStand, begun_view, is_used_up, owes_in, room_of}
use Rattle.qc_state.specs.Spaces.{is_space, space_of}
use Rattle.qc_state.specs.Types.{Types, Meaning}
use Rattle.qc_state.specs.View.{View}

-- ---- the way through the spaces

-- whether a packet of this space may join a datagram behind the last one: its space is a later one
abbrev pub is_later : (last : Option SpaceId) → SpaceId → Bool
is_later None id = false
is_later (Some Initial) Initial = false
is_later (Some Initial) Handshake = true
is_later (Some Initial) Data = true
is_later (Some Handshake) Initial = false
is_later (Some Handshake) Handshake = false
is_later (Some Handshake) Data = true
is_later (Some «Data») id = false

-- how many packets a datagram may hold from one of this space on
abbrev pub packets_from : SpaceId → ℕ
packets_from Initial = 3
packets_from Handshake = 2
packets_from Data = 1

-- how many bytes of PADDING the packets have that stand before one of this space in a datagram which it joins: each has 6 at most
abbrev pub padding_before : SpaceId → ℕ
padding_before Initial = 0
padding_before Handshake = 6
padding_before Data = 12

-- the space that comes next, if one does, is a later one
abbrev pub IsBelow : SpaceId → (next : Option SpaceId) → Type 0
IsBelow id None = Unit {0}
IsBelow id (Some other) = packets_from other < packets_from id

-- so is the space of a packet that joins; nothing is asked where none does
abbrev pub FallsTo : SpaceId → Next → Type 0
FallsTo id (next.Joins other) = packets_from other < packets_from id
FallsTo id next.Full = Unit {0}
FallsTo id (next.Dies dying) = Unit {0}

-- ---- sizes

-- the sizes of a transmit's datagrams: none has more bytes than the first one may have, and one that is to be filled up can be
pub record IsSized (b : Batch) : Type 0 where
  pub within : b.capacity ≤ b.segment
  pub small : b.segment ≤ 16383
  pub least : 1200 ≤ b.least
  pub fits : b.filled ≤ b.capacity
  pub large : b.fills ≡ true → b.least ≤ b.capacity
  pub most : b.most ≤ 18446744073709551615

-- what follows a packet that was sealed
abbrev pub follows : (next : Option SpaceId) → Next
follows None = next.Full
follows (Some id) = next.Joins id

-- what follows a datagram that was sealed
abbrev pub outcome_of : Further → Outcome
outcome_of (further.Begins id) = outcome.Begins id
outcome_of further.Paced = outcome.Ends true
outcome_of further.Ends = outcome.Ends false
outcome_of further.Passes = outcome.Ends false

-- how many bytes there are for a packet that begins a datagram, or joins the open one; where a probe is due, a datagram may have fewer
abbrev pub left_for : Batch → (opens : Bool) → ℕ
left_for b true = next_segment b
left_for b false = b.capacity - b.filled

-- there is room for a packet of this space that begins a datagram, or joins one: an Initial packet begins one that it can fill up
pub record IsRoomy (b : Batch) (id : SpaceId) (opens : Bool) : Type 0 where
  pub sized : IsSized b
  pub left : JOINING_SIZE ≤ left_for b opens
  pub large : is_space id Initial ≡ true → (opens ≡ true) × (b.least ≤ next_segment b)
  pub bare : opens ≡ false → b.padding ≤ padding_before id

-- so there is once it is begun
pub record IsBegun (b : Batch) (id : SpaceId) : Type 0 where
  pub sized : IsSized b
  pub some : 0 < b.made
  pub left : JOINING_SIZE ≤ b.capacity - b.filled
  pub large : is_space id Initial ≡ true → b.least ≤ b.capacity - b.filled
  pub bare : b.padding ≤ padding_before id

-- so many datagrams were begun with a packet that begins one, or joins one
abbrev pub made_with : (opens : Bool) → (made : ℕ) → ℕ
made_with true made = made + 1
made_with false made = made

-- so it is behind it, unless the connection ends: so many were begun then
abbrev pub MadeIs : (made after : ℕ) → Next → Type 0
MadeIs made after (next.Joins id) = after ≡ made
MadeIs made after next.Full = after ≡ made
MadeIs made after (next.Dies dying) = Unit {0}

-- where another datagram begins, fewer may follow than before
abbrev pub LeavesFewer : (before after : Batch) → Outcome → Type 0
LeavesFewer b c (outcome.Begins id) = c.most - c.made < b.most - b.made
LeavesFewer b c (outcome.Ends paced) = Unit {0}
LeavesFewer b c (outcome.Dies dying) = Unit {0}

-- a packet may join behind the last one: no key is to seal the close as its next packet, and the open datagram takes another one
abbrev pub joins_more : Batch → Bool
joins_more b = not b.worn && takes_another b

-- another datagram may stand behind the open one: no key is to seal the close as its next packet, there may be one more, the last one has the
-- size of the first, and one of that size has room for a packet
abbrev pub goes_on : Batch → Bool
goes_on b = (not b.worn && nat_lt b.made b.most) && (is_whole b && nat_le JOINING_SIZE (next_segment b))

-- another datagram has too few bytes for a packet of this space: an Initial packet may have to fill it
abbrev pub is_small : Batch → SpaceId → Bool
is_small b id = is_space id Initial && nat_lt (next_segment b) b.least

-- what a datagram that a packet of the space would begin comes to, by the limits: the window lets the next spaces have a try
abbrev pub further_by : SpaceId → (limit : Option Quiet) → Further
further_by id None = further.Begins id
further_by id (Some Congestion) = further.Passes
further_by id (Some Pacing) = further.Paced
further_by id (Some quiet) = further.Ends

-- another space may have something
abbrev pub passes : Further → Bool
passes (further.Begins id) = false
passes further.Paced = false
passes further.Ends = false
passes further.Passes = true

-- a later datagram gets the size of those before it, for which at most 16 bytes lack
abbrev pub evens_out : Batch → Bool
evens_out b = nat_lt 1 b.made && (nat_le (b.segment - b.filled) 16 && nat_le b.segment b.capacity)

-- how many bytes a packet is to have at least that is the last one of its datagram: so many that this is filled up, where it is to be, or gets the
-- size of those before it. `b` is the batch behind the packet that has as many bytes as it needs for itself, and `before` how many bytes the
-- datagram has before it.
abbrev pub least_last : Batch → (before : ℕ) → ℕ
least_last b before = if nat_lt 0 (wanted_size b) then wanted_size b - before else if evens_out b then b.segment - before else 0

-- and how many any packet is to have: one that another one joins, none
abbrev pub least_by : (next : Option SpaceId) → Batch → (before : ℕ) → ℕ
least_by (Some id) b before = 0
least_by None b before = least_last b before

module _ {t : Types} where
  -- ---- what a packet finds

  -- what a space owes has no room in a packet of so many bytes: it is an ACK, or a datagram of the application
  pub record LacksIn (time left : ℕ) (s : View t) (id : SpaceId) : Type 0 where
    pub wants : wants_sending s id ≡ false
    pub probes : (space_of s.waiting.spaces id).probes ≡ 0
    pub ack : is_ack_owed (space_of s.waiting.spaces id).acks ≡ true → IsLongAck time (space_of s.waiting.spaces id) (room_of left (begun_view s id false) (form_in s.keys id))
    pub datagram : datagram_fits id (room_of left (begun_view s id false) (form_in s.keys id)) s ≡ false

  -- a packet of a space has something of what it owes in so many bytes: it closes; something waits that has room wherever a packet joins, or its
  -- number can't be spelled, so that the connection ends as it is to begin; or a datagram of the application has room, or the ACK that is owed
  pub data HasIn (closing : Bool) (time left : ℕ) (s : View t) (id : SpaceId) : Type 0 where
    closes : closing ≡ true → HasIn closing time left s id
    waits : (wants_sending s id || (not ((space_of s.waiting.spaces id).probes == 0) || is_used_up s id)) ≡ true → HasIn closing time left s id
    datagram : datagram_fits id (room_of left (begun_view s id false) (form_in s.keys id)) s ≡ true → HasIn closing time left s id
    ack : is_ack_owed (space_of s.waiting.spaces id).acks ≡ true → IsShortAck time (space_of s.waiting.spaces id) (room_of left (begun_view s id false) (form_in s.keys id)) → HasIn closing time left s id

  -- why no packet of a space joins the open datagram: the space is no later one, or owes nothing, or nothing that has room
  abbrev pub StaysOut : (time : ℕ) → View t → Batch → SpaceId → Type 0
  StaysOut time s b id = is_later b.space id ≡ true → (owes_in b s id ≡ false) ⊎ LacksIn time (b.capacity - b.filled) s id

  -- a packet of a space joins, since that is a later one, and owes something that has room; or it doesn't
  abbrev pub JoinsIs : (time : ℕ) → View t → Batch → SpaceId → (joins : Bool) → Type 0
  JoinsIs time s b id true = (is_later b.space id ≡ true) × (owes_in b s id ≡ true) × HasIn b.closing time (b.capacity - b.filled) s id
  JoinsIs time s b id false = StaysOut time s b id

  -- which packet joins; or why none does
  abbrev pub JoiningIs : (time : ℕ) → View t → Batch → (next : Option SpaceId) → Type 0
  JoiningIs time s b (Some id) = (joins_more b ≡ true) × (is_later b.space id ≡ true) × (owes_in b s id ≡ true) × HasIn b.closing time (b.capacity - b.filled) s id
  JoiningIs time s b None = (joins_more b ≡ false) ⊎ ((id : SpaceId) → StaysOut time s b id)

  -- the space owes something, and its packet may begin a datagram behind the last packet
  abbrev pub begins_behind : View t → Batch → SpaceId → Bool
  begins_behind s b id = is_in_order b.space id && ((is_done b || is_space id Initial) && owes_in b s id)

  -- ---- what may follow

  -- a packet of this space may be the next one, which begins a datagram, or joins one: it is its turn, and there is a place for it, and room
  pub record MayTake (m : Meaning t) (time : ℕ) (s : View t) (b : Batch) (id : SpaceId) (opens : Bool) : Type 0 where
    pub turn : HasTurn m s b id
    pub place : MayStand m time s b id opens
    pub behind : IsBehind b opens
    pub roomy : IsRoomy b id opens

  -- no packet joins the open datagram any more: a transmit may end behind it, and so far goes on
  pub record IsFull (time : ℕ) (s : View t) (b : Batch) : Type 0 where
    pub ended : IsEnded time s b
    pub alive : is_drained s.life.state ≡ false
    pub unclosed : b.closing ≡ false → is_open s.life.state ≡ true
    pub sized : IsSized b

  -- behind a packet another one joins its datagram, of this space; or none does
  abbrev pub FollowIs : Meaning t → (time : ℕ) → View t → Batch → (next : Option SpaceId) → Type 0
  FollowIs m time s b (Some id) = MayTake m time s b id false
  FollowIs m time s b None = IsFull time s b

  -- so it is, or the connection ends, since a packet was to begin that can't
  abbrev pub NextIs : Meaning t → (time : ℕ) → View t → Batch → Next → Type 0
  NextIs m time s b (next.Joins id) = MayTake m time s b id false
  NextIs m time s b next.Full = IsFull time s b
  NextIs m time s b (next.Dies dying) = Dies m time s b dying.form dying.why

  -- a datagram was sealed, or the connection ends
  abbrev pub FilledIs : Meaning t → (time : ℕ) → View t → Batch → Option Dying → Type 0
  FilledIs m time s b None = IsFull time s b
  FilledIs m time s b (Some dying) = Dies m time s b dying.form dying.why

  -- what follows a datagram that no packet joins any more: a further one begins for what has room in it
  abbrev pub FurtherIs : Meaning t → (time : ℕ) → View t → Batch → Further → Type 0
  FurtherIs m time s b (further.Begins id) = MayTake m time s b id true × HasIn b.closing time (next_segment b) s id
  FurtherIs m time s b further.Paced = IsHeld m time s b
  FurtherIs m time s b further.Ends = Unit {0}
  FurtherIs m time s b further.Passes = Unit {0}

  -- the pacer holds another datagram back, where it is said to
  abbrev pub HeldIf : Meaning t → (time : ℕ) → View t → Batch → (paced : Bool) → Type 0
  HeldIf m time s b true = IsHeld m time s b
  HeldIf m time s b false = Unit {0}

  -- what follows a datagram: another one, or the end of the transmit, or that of the connection
  abbrev pub OutcomeIs : Meaning t → (time : ℕ) → View t → Batch → Outcome → Type 0
  OutcomeIs m time s b (outcome.Begins id) = MayTake m time s b id true
  OutcomeIs m time s b (outcome.Ends paced) = IsFull time s b × HeldIf m time s b paced
  OutcomeIs m time s b (outcome.Dies dying) = Dies m time s b dying.form dying.why

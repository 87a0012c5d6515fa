-- The sizes of a transmit's datagrams: how they begin, and what a packet makes of them.
use Rattle.std.proofs.Common.{◌≡◌, ℕ, ◌+◌, ◌-◌, ◌<◌, ◌≤◌, ◌==◌, refl, ap, ◌∙◌, Bool, true, false, ◌||◌, ◌&&◌, not, if◌then◌else◌, Option, Some, None, nat_le, nat_lt, ◌⊎◌, inl, inr, arith}
use Rattle.std.specs.Prelude.{min, max}
use Rattle.std.proofs.lemmas.Bool.Decides.{nat_tests}
use Rattle.qc_base.specs.declared.side.SpaceId.{SpaceId}
use Rattle.qc_base.specs.declared.side.SpaceId.TheVariants.{Initial, Handshake, «Data»}
use Rattle.qc_base.specs.Time.{plus}
use Rattle.qc_send.specs.Joining.{IsBegun, IsRoomy, IsSized, evens_out, is_later, joins_more, least_by, made_with, packets_from, padding_before}
use Rattle.qc_state.specs.declared.form.Form.{Form}
use Rattle.qc_state.specs.declared.transmit.Batch.{Batch}
use Rattle.qc_state.specs.declared.transmit.TheConstants.{JOINING_SIZE}
use Rattle.qc_state.specs.Forms.{is_one_rtt}
use Rattle.qc_state.specs.Batches.{batch_begun, batch_grown, batch_opened, is_closed_up, is_done, is_in_order, is_last_in, next_segment, takes_another, wanted_by, wanted_size, widens}
use Rattle.qc_state.specs.Spaces.{is_space}

-- ---- tests

-- of two tests that hold each does
pub both_left : (a b : Bool) → (a && b) ≡ true → a ≡ true
both_left true b h = refl
both_left false b h = cc

pub both_right : (a b : Bool) → (a && b) ≡ true → b ≡ true
both_right true b h = h
both_right false b h = cc

-- of two that don't, where the first does, the second doesn't
other_fails : (a b : Bool) → (a && b) ≡ false → a ≡ true → b ≡ false
other_fails true b h e = h
other_fails false b h e = cc

-- of two of which none holds neither does
pub none_left : (a b : Bool) → (a || b) ≡ false → a ≡ false
none_left true b h = cc
none_left false b h = refl

pub none_right : (a b : Bool) → (a || b) ≡ false → b ≡ false
none_right true b h = cc
none_right false b h = h

-- ---- a transmit begins

pub begun_sized : (closing pads : Bool) (most segment least : ℕ) → segment ≤ 16383 → 1200 ≤ least → most ≤ 18446744073709551615 → IsSized (batch_begun closing pads most segment least)
begun_sized closing pads most segment least small enough few = record { within = omega arith; small = small; least = enough; fits = omega arith; large = λ e. absurd (cc e); most = few }

-- ---- a packet is begun

-- the next datagram has no more bytes than others
next_by : (one : Bool) (filled segment : ℕ) → filled ≤ 16383 → segment ≤ 16383 → (if one then filled else segment) ≤ 16383
next_by true filled segment f s = f
next_by false filled segment f s = s

next_small : (b : Batch) → IsSized b → next_segment b ≤ 16383
next_small b sized = next_by (b.made == 1) b.filled b.segment (omega (arith, sized.fits, sized.within, sized.small)) sized.small

-- there is room once it is begun, as there was before
opened_room : (b : Batch) (id : SpaceId) (probes : Bool) → IsRoomy b id true → IsBegun (batch_opened true probes b) id
unfolding batch_opened
opened_room b id probes roomy = by_size probes (next_segment b) (next_small b roomy.sized) roomy.left (λ e. (roomy.large e).1)
  where
    by_size : (probes : Bool) (n : ℕ) → n ≤ 16383 → JOINING_SIZE ≤ n → (is_space id Initial ≡ true → b.least ≤ n) →
        IsBegun (record b { made = plus b.made 1; segment = n; capacity = if probes then min b.least n else n; filled = 0; padding = 0; short = false; fills = false; wide = false }) id
    by_size true n small wide large = record {
      sized = record { within = omega arith; small = small; least = roomy.sized.least; fits = omega arith; large = λ e. absurd (cc e); most = roomy.sized.most };
      some = omega arith;
      left = omega (arith, wide, roomy.sized.least);
      large = λ e. omega (arith, large e);
      bare = omega arith;
    }
    by_size false n small wide large = record {
      sized = record { within = omega arith; small = small; least = roomy.sized.least; fits = omega arith; large = λ e. absurd (cc e); most = roomy.sized.most };
      some = omega arith;
      left = omega (arith, wide, roomy.sized.least);
      large = λ e. omega (arith, large e);
      bare = omega arith;
    }

joined_room : (b : Batch) (id : SpaceId) (probes : Bool) → IsRoomy b id false → 0 < b.made → IsBegun (batch_opened false probes b) id
unfolding batch_opened
joined_room b id probes roomy some = record { sized = roomy.sized; some = some; left = roomy.left; large = λ e. absurd (cc ((roomy.large e).0)); bare = roomy.bare refl }

pub begun_room : (b : Batch) (id : SpaceId) (opens probes : Bool) → IsRoomy b id opens → (opens ≡ false → 0 < b.made) → IsBegun (batch_opened opens probes b) id
begun_room b id true probes roomy some = opened_room b id probes roomy
begun_room b id false probes roomy some = joined_room b id probes roomy (some refl)

-- so many datagrams were begun then
pub begun_made : (b : Batch) (opens probes : Bool) → b.most ≤ 18446744073709551615 → (opens ≡ true → b.made < b.most) → (batch_opened opens probes b).made ≡ made_with opens b.made
unfolding batch_opened
begun_made b true probes most few = omega (arith, most, few refl)
begun_made b false probes most few = refl

-- ---- how many bytes a packet is to have

-- what a test of numbers says
pub le_holds : (m n : ℕ) → nat_le m n ≡ true → m ≤ n
le_holds m n h = grind (arith, nat_tests)

le_fails : (m n : ℕ) → nat_le m n ≡ false → n < m
le_fails m n h = grind (arith, nat_tests)

pub lt_holds : (m n : ℕ) → nat_lt m n ≡ true → m < n
lt_holds m n h = grind (arith, nat_tests)

pub lt_fails : (m n : ℕ) → nat_lt m n ≡ false → n ≤ m
lt_fails m n h = grind (arith, nat_tests)

lt_true : (m n : ℕ) → m < n → nat_lt m n ≡ true
lt_true m n h = grind (arith, nat_tests)

le_true : (m n : ℕ) → m ≤ n → nat_le m n ≡ true
le_true m n h = grind (arith, nat_tests)

-- a datagram that is to be filled up has the bytes for it
either_large : (b : Batch) (id : SpaceId) (f : Bool) → IsBegun b id → (f ≡ true → is_space id Initial ≡ true) → (b.fills || f) ≡ true → b.least ≤ b.capacity
either_large b id f begun first h = by_fills b.fills refl h
  where
    by_fills : (x : Bool) → b.fills ≡ x → (x || f) ≡ true → b.least ≤ b.capacity
    by_fills true e h = begun.sized.large e
    by_fills false e h = omega (arith, begun.large (first h))

-- so has one that is to have the size of the others
wanted_fits : (wide fills : Bool) (b : Batch) → (fills ≡ true → b.least ≤ b.capacity) → wanted_by wide fills b ≤ b.capacity
wanted_fits wide fills b large = by_test (wide && nat_le b.segment b.capacity) fills refl large
  where
    by_test : (x f : Bool) → (wide && nat_le b.segment b.capacity) ≡ x → (f ≡ true → b.least ≤ b.capacity) → (if x then b.segment else if f then b.least else 0) ≤ b.capacity
    by_test true f e large = le_holds b.segment b.capacity (both_right wide _ e)
    by_test false true e large = large refl
    by_test false false e large = omega arith

-- there is room for so many bytes as the packet is to have
least_tests : (wants evens : Bool) (wanted before capacity segment : ℕ) → wanted ≤ capacity → (evens ≡ true → segment ≤ capacity) →
    (if wants then wanted - before else if evens then segment - before else 0) ≤ capacity - before
least_tests true evens wanted before capacity segment large even = omega (arith, large)
least_tests false true wanted before capacity segment large even = omega (arith, even refl)
least_tests false false wanted before capacity segment large even = omega arith

evens_fit : (b : Batch) → evens_out b ≡ true → b.segment ≤ b.capacity
evens_fit b h = le_holds b.segment b.capacity (both_right (nat_le (b.segment - b.filled) 16) _ (both_right (nat_lt 1 b.made) _ h))

evens_near : (b : Batch) → evens_out b ≡ true → b.segment - b.filled ≤ 16
evens_near b h = le_holds (b.segment - b.filled) 16 (both_left _ (nat_le b.segment b.capacity) (both_right (nat_lt 1 b.made) _ h))

evens_later : (b : Batch) → evens_out b ≡ true → 1 < b.made
evens_later b h = lt_holds 1 b.made (both_left (nat_lt 1 b.made) _ h)

pub least_fits : (next : Option SpaceId) (b : Batch) (id : SpaceId) (form : Form) (number n : ℕ) (f nearly : Bool) → IsBegun b id → (f ≡ true → is_space id Initial ≡ true) →
    least_by next (batch_grown form number n 0 f nearly b) b.filled ≤ b.capacity - b.filled
unfolding batch_grown
least_fits (Some other) b id form number n f nearly begun first = omega arith
least_fits None b id form number n f nearly begun first =
    let c : Batch = batch_grown form number n 0 f nearly b in
    least_tests (nat_lt 0 (wanted_size c)) (evens_out c) (wanted_size c) b.filled b.capacity b.segment (wanted_fits (b.wide || widens b form) (b.fills || f) b (either_large b id f begun first)) (evens_fit c)

-- what PADDING a packet of so many bytes has, in numbers
abbrev pub IsSpare : (wanted made before segment least size padding : ℕ) → Type 0
IsSpare wanted made before segment least size padding =
    (padding ≡ 0) ⊎ ((size ≡ least) ⊎ ((before + size ≡ wanted) ⊎ ((1 < made) × (padding ≤ 16) × (before + size ≡ segment))))

-- what it needs for itself
spare_own : (wanted made before segment least plain size padding : ℕ) → size ≡ max (max least 0) plain → padding ≡ size - plain → IsSpare wanted made before segment least size padding
spare_own wanted made before segment least plain size padding is pads = by_test (nat_le least plain) refl
  where
    by_test : (b : Bool) → nat_le least plain ≡ b → IsSpare wanted made before segment least size padding
    by_test true e = inl (omega (arith, is, pads, le_holds least plain e))
    by_test false e = inr (inl (omega (arith, is, le_fails least plain e)))

-- what fills up its datagram
spare_filled : (wanted made before segment least plain size padding : ℕ) → size ≡ max (max least (wanted - before)) plain → padding ≡ size - plain → IsSpare wanted made before segment least size padding
spare_filled wanted made before segment least plain size padding is pads = by_test (nat_le (wanted - before) (max least plain)) refl
  where
    by_test : (b : Bool) → nat_le (wanted - before) (max least plain) ≡ b → IsSpare wanted made before segment least size padding
    by_test true e = spare_own wanted made before segment least plain size padding (omega (arith, is, le_holds (wanted - before) (max least plain) e)) pads
    by_test false e = inr (inr (inl (omega (arith, is, le_fails (wanted - before) (max least plain) e))))

-- what gives it the size of those before it: a packet that needs PADDING for itself leaves more than 16 bytes behind it
spare_even : (wanted made before capacity segment least head frames size padding : ℕ) → 1 < made → capacity ≤ segment → segment ≤ 16383 → least ≤ head + 22 → head + 41 ≤ capacity - before →
    segment - plus before (max (max least 0) (head + frames + 16)) ≤ 16 → size ≡ max (max least (segment - before)) (head + frames + 16) → padding ≡ size - (head + frames + 16) →
    IsSpare wanted made before segment least size padding
spare_even wanted made before capacity segment least head frames size padding later within small few wide near is pads = by_test (nat_le (segment - before) (max least (head + frames + 16))) refl
  where
    by_test : (b : Bool) → nat_le (segment - before) (max least (head + frames + 16)) ≡ b → IsSpare wanted made before segment least size padding
    by_test true e = spare_own wanted made before segment least (head + frames + 16) size padding (omega (arith, is, le_holds (segment - before) (max least (head + frames + 16)) e)) pads
    by_test false e =
        let over : max least (head + frames + 16) < segment - before = le_fails (segment - before) (max least (head + frames + 16)) e in
        inr (inr (inr (later, omega (arith, within, small, few, wide, near, is, pads, over), omega (arith, is, over, within, wide))))

pub spare_is : (next : Option SpaceId) (b : Batch) (id : SpaceId) (form : Form) (number : ℕ) (f nearly : Bool) (least head frames size padding : ℕ) → IsBegun b id → (f ≡ true → is_space id Initial ≡ true) →
    least ≤ head + 22 → head + 41 ≤ b.capacity - b.filled →
    size ≡ max (max least (least_by next (batch_grown form number (max (max least 0) (head + frames + 16)) 0 f nearly b) b.filled)) (head + frames + 16) → padding ≡ size - (head + frames + 16) →
    IsSpare (wanted_by (b.wide || widens b form) (b.fills || f) b) b.made b.filled b.segment least size padding
unfolding batch_grown
spare_is (Some other) b id form number f nearly least head frames size padding begun first few wide is pads = spare_own (wanted_by (b.wide || widens b form) (b.fills || f) b) b.made b.filled b.segment least (head + frames + 16) size padding is pads
spare_is None b id form number f nearly least head frames size padding begun first few wide is pads = by_tests (nat_lt 0 wanted) (evens_out c) refl is
  where
    wanted : ℕ
    wanted = wanted_by (b.wide || widens b form) (b.fills || f) b

    c : Batch
    c = batch_grown form number (max (max least 0) (head + frames + 16)) 0 f nearly b

    by_tests : (x y : Bool) → evens_out c ≡ y → size ≡ max (max least (if x then wanted - b.filled else if y then b.segment - b.filled else 0)) (head + frames + 16) →
        IsSpare wanted b.made b.filled b.segment least size padding
    by_tests true y g is = spare_filled wanted b.made b.filled b.segment least (head + frames + 16) size padding is pads
    by_tests false true g is = spare_even wanted b.made b.filled b.capacity b.segment least head frames size padding (evens_later c g) begun.sized.within begun.sized.small few wide (evens_near c g) is pads
    by_tests false false g is = spare_own wanted b.made b.filled b.segment least (head + frames + 16) size padding is pads

-- the packet has room
pub size_fits : (b : Batch) (id : SpaceId) (least asked plain size : ℕ) → IsBegun b id → size ≡ max (max least asked) plain → least ≤ b.capacity - b.filled → asked ≤ b.capacity - b.filled → plain ≤ b.capacity - b.filled →
    b.filled + size ≤ b.capacity
size_fits b id least asked plain size begun is l a p = omega (arith, begun.left, is, l, a, p)

-- ---- what is known behind it

-- a packet takes no more than there is, and its datagram can be filled up still, where it is to be
pub grown_sized : (b : Batch) (id : SpaceId) (form : Form) (number size padding : ℕ) (f nearly : Bool) → IsBegun b id → (f ≡ true → is_space id Initial ≡ true) → b.filled + size ≤ b.capacity →
    IsSized (batch_grown form number size padding f nearly b)
unfolding batch_grown
grown_sized b id form number size padding f nearly begun first fits = record {
  within = begun.sized.within;
  small = begun.sized.small;
  least = begun.sized.least;
  fits = omega (arith, fits);
  large = either_large b id f begun first;
  most = begun.sized.most;
}

-- a datagram that no packet joins is filled up, where it is to be
pub grown_closed : (b : Batch) (id : SpaceId) (form : Form) (number n size padding least plain : ℕ) (f nearly : Bool) → IsBegun b id → b.filled + size ≤ b.capacity →
    size ≡ max (max least (least_by None (batch_grown form number n 0 f nearly b) b.filled)) plain → is_closed_up (batch_grown form number size padding f nearly b) ≡ true
unfolding batch_grown is_closed_up
grown_closed b id form number n size padding least plain f nearly begun fits is = by_wants (nat_lt 0 wanted) refl is
  where
    wanted : ℕ
    wanted = wanted_by (b.wide || widens b form) (b.fills || f) b

    by_wants : (x : Bool) → nat_lt 0 wanted ≡ x → size ≡ max (max least (if x then wanted - b.filled else if evens_out (batch_grown form number n 0 f nearly b) then b.segment - b.filled else 0)) plain →
        nat_le wanted (plus b.filled size) ≡ true
    by_wants true e is = le_true wanted (plus b.filled size) (omega (arith, is, fits, begun.sized.within, begun.sized.small))
    by_wants false e is = le_true wanted (plus b.filled size) (omega (arith, lt_fails 0 wanted e))

-- where another packet joins, there is as much left as was thought
pub joins_still : (b : Batch) (form : Form) (number n size padding : ℕ) (f g nearly : Bool) → size ≡ n → joins_more (batch_grown form number n 0 f nearly b) ≡ true →
    (nearly ≡ false) × (takes_another (batch_grown form number size padding g nearly b) ≡ true)
unfolding batch_grown
joins_still b form number n size padding f g true is h = cc
joins_still b form number n size padding f g false is h = (refl, ap (λ (x : ℕ). nat_lt 0 b.made && (not (b.short || is_one_rtt form) && nat_le 103 (b.capacity - plus b.filled x))) is ∙ h)

-- what is left of the open datagram is no less
pub left_less : (b : Batch) (form : Form) (number n size padding : ℕ) (f g nearly : Bool) → n ≤ size →
    (batch_grown form number size padding g nearly b).capacity - (batch_grown form number size padding g nearly b).filled
    ≤ (batch_grown form number n 0 f nearly b).capacity - (batch_grown form number n 0 f nearly b).filled
unfolding batch_grown
left_less b form number n size padding f g nearly more = omega (arith, more)

-- PADDING of packets stays within bounds, so that where none joins for want of room, none need join
pub none_joins : (b : Batch) (id : SpaceId) (form : Form) (number n size padding plain : ℕ) (f g nearly : Bool) → IsBegun b id → b.filled + size ≤ b.capacity → plain ≤ n → n ≤ plain + 6 → n ≤ size → padding ≡ size - plain → 16 ≤ plain →
    joins_more (batch_grown form number n 0 f nearly b) ≡ false → nearly ≡ false → is_done (batch_grown form number size padding g nearly b) ≡ false → ⊥
unfolding batch_grown
none_joins b id form number n size padding plain f g true begun fits few near more pads wide h spare done = cc
none_joins b id form number n size padding plain f g false begun fits few near more pads wide h spare done =
    let made : nat_lt 0 b.made ≡ true = lt_true 0 b.made begun.some in
    let open_end : (b.short || is_one_rtt form) ≡ false = none_left (b.short || is_one_rtt form) _ (none_right (b.made == 0) _ done) in
    let much : 128 ≤ b.capacity - (plus b.filled size - plus b.padding padding) =
    lt_fails (b.capacity - (plus b.filled size - plus b.padding padding)) 128 (none_right (b.short || is_one_rtt form) _ (none_right (b.made == 0) _ done)) in
    let little : b.capacity - plus b.filled n < 103 =
    le_fails 103 (b.capacity - plus b.filled n) (other_fails (not (b.short || is_one_rtt form)) _ (other_fails (nat_lt 0 b.made) _ h made) (ap not open_end)) in
    omega (arith, much, little, fits, few, near, more, pads, wide, begun.bare, padding_most id, begun.sized.within, begun.sized.small)
  where
    padding_most : (id : SpaceId) → padding_before id ≤ 12
    padding_most Initial = omega arith
    padding_most Handshake = omega arith
    padding_most Data = omega arith

-- ---- spaces

-- a later space is no Initial one, and has more PADDING before it
pub later_other : (last : Option SpaceId) (id : SpaceId) → is_later last id ≡ true → is_space id Initial ≡ false
later_other last Initial h = by_last last h
  where
    by_last : (last : Option SpaceId) → is_later last Initial ≡ true → is_space Initial Initial ≡ false
    by_last None h = cc
    by_last (Some Initial) h = cc
    by_last (Some Handshake) h = cc
    by_last (Some Data) h = cc
later_other last Handshake h = refl
later_other last Data h = refl

pub later_padding : (last id : SpaceId) → is_later (Some last) id ≡ true → padding_before last + 6 ≤ padding_before id
later_padding Initial Initial h = cc
later_padding Initial Handshake h = omega arith
later_padding Initial Data h = omega arith
later_padding Handshake Initial h = cc
later_padding Handshake Handshake h = cc
later_padding Handshake Data h = omega arith
later_padding Data id h = cc

pub later_below : (last id : SpaceId) → is_later (Some last) id ≡ true → packets_from id < packets_from last
later_below Initial Initial h = cc
later_below Initial Handshake h = omega arith
later_below Initial Data h = omega arith
later_below Handshake Initial h = cc
later_below Handshake Handshake h = cc
later_below Handshake Data h = omega arith
later_below Data id h = cc

-- it stands behind the last one, and isn't that one
pub later_order : (last id : SpaceId) → is_later (Some last) id ≡ true → is_in_order (Some last) id ≡ true
later_order Initial Initial h = refl
later_order Initial Handshake h = refl
later_order Initial Data h = refl
later_order Handshake Initial h = cc
later_order Handshake Handshake h = refl
later_order Handshake Data h = refl
later_order Data id h = cc

pub later_apart : (last id : SpaceId) → is_later (Some last) id ≡ true → is_space last id ≡ false
later_apart Initial Initial h = cc
later_apart Initial Handshake h = refl
later_apart Initial Data h = refl
later_apart Handshake Initial h = cc
later_apart Handshake Handshake h = cc
later_apart Handshake Data h = refl
later_apart Data id h = cc

-- and each that does is a later one
pub order_later : (last id : SpaceId) → is_in_order (Some last) id ≡ true → is_last_in (Some last) id ≡ false → is_later (Some last) id ≡ true
order_later Initial Initial h k = cc
order_later Initial Handshake h k = refl
order_later Initial Data h k = refl
order_later Handshake Initial h k = cc
order_later Handshake Handshake h k = cc
order_later Handshake Data h k = refl
order_later Data Initial h k = cc
order_later Data Handshake h k = cc
order_later Data Data h k = cc

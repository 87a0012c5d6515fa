-- The ACK of a space, from what the calls that make it say.
use Rattle.std.proofs.Common.{◌≡◌, ℕ, ◌-◌, ◌/◌, ◌<◌, ◌^◌, nat_lt, List, [], length, reverse, refl, ap, sym, ◌∙◌, subst, Bool, true, false, ◌==◌, ◌&&◌, ◌||◌, not, slice_index_or, Option, Some, None, arith}
use Rattle.std.specs.Prelude.{IfNone, IfSome}
use Rattle.qc_frame.specs.declared.frames.AckOf.{AckOf}
use Rattle.std.proofs.lemmas.Bool.Decides.{nat_tests}
use Rattle.std.specs.List.{flat_map}
use Rattle.qc_base.specs.RangeSet.{Normal}
use Rattle.qc_base.specs.Varint.{varint}
use Rattle.qc_base.specs.declared.range_set.NumberRange.{NumberRange}
use Rattle.qc_frame.specs.AckRanges.{ArePackets, ranges_of}
use Rattle.qc_frame.specs.Frame.{AckValue, FrameValue, ack_map}
use Rattle.qc_frame.specs.FrameFits.{CountsFit, Fits}
use Rattle.qc_frame.specs.FrameSpelling.{numbers_of}
use Rattle.qc_frame.specs.declared.frames.EcnCounts.{EcnCounts}
use Rattle.qc_frame.specs.declared.frames.FrameOf.TheVariants as frames
use Rattle.qc_frame.proofs.RangesUp.{packets_there}
use Rattle.qc_path.specs.Acks.{PendingValues, ack_delay, gives_ack, has_come_by, is_clear, joins_ack, owes_ack}
use Rattle.qc_state.specs.Acks.{AckPart, SaysAck, greatest_number, is_ack_first, is_ack_given, is_ack_last, is_ack_owed, may_acknowledge, told_counts}
use Rattle.qc_state.specs.declared.waiting.SpaceWaiting.{SpaceWaiting}

-- ranges whose last number is one of a packet are ranges of packet numbers
pub packets_by : (ranges given : List NumberRange) → given ≡ ranges → Normal given → (length given == 0) ≡ false → (slice_index_or given (length given - 1) (record { first = 0; last = 0 })).last < 4611686018427387904 → ArePackets ranges
packets_by ranges given same normal some small = subst ArePackets same (packets_there given (length given - 1) normal (grind (arith, nat_tests)) refl small)

-- a delay in units of 8 microseconds has room in its field
pub small_delay : (delay time came : ℕ) → time < 18446744073709551616 → delay ≡ (time - came) / 1000 / 8 → delay < 4611686018427387904
small_delay delay time came in_range is_delay = omega (arith, is_delay)

-- the counts of marks have room in their fields as an ACK tells them
pub told_fit : (counts : Option EcnCounts) → CountsFit (told_counts counts)
told_fit None = tt
told_fit (Some c) = (omega arith, omega arith, omega arith)

-- what the maker of an ACK says is what an ACK of these numbers at this time says
pub says : (time delay : ℕ) (w : SpaceWaiting) (ack : AckValue) → ranges_of ack ≡ reverse w.acks.ranges → delay ≡ ack_delay time w.acks.marks → ack.delay ≡ delay → ack.ecn ≡ told_counts w.marks → Fits (frames.Ack ack) → ack.additional ≡ flat_map varint (numbers_of ack.additional) → SaysAck time w ack
says time delay w ack ranges is_delay kept ecn fits shortest = record { ranges = ranges; delay = kept ∙ is_delay; ecn = ecn; fits = fits; shortest = shortest }

-- an ACK of a space is one of each space with the same numbers and counts
pub says_same : (time : ℕ) (w v : SpaceWaiting) (ack : AckValue) → w.acks ≡ v.acks → w.marks ≡ v.marks → SaysAck time w ack → SaysAck time v ack
says_same time w v ack acks marks says =
    record {
      ranges = says.ranges ∙ ap (λ (p : PendingValues). reverse p.ranges) acks;
      delay = says.delay ∙ ap (λ (p : PendingValues). ack_delay time p.marks) acks;
      ecn = says.ecn ∙ ap told_counts marks;
      fits = says.fits;
      shortest = says.shortest;
    }

-- and so it is with the list of it alone
pub part_same : (time room : ℕ) (w v : SpaceWaiting) (fs : List FrameValue) (b : Bool) → w.acks ≡ v.acks → w.marks ≡ v.marks → AckPart time w room fs b → AckPart time v room fs b
part_same time room w v fs true acks marks (AckPart.one ack says fits is) = AckPart.one ack (says_same time w v ack acks marks says) fits is
part_same time room w v fs true acks marks (AckPart.left_out ack says long is) = AckPart.left_out ack (says_same time w v ack acks marks says) long is
part_same time room w v fs false acks marks (AckPart.none is) = AckPart.none is

-- where none is due, none is in the list
pub none_due : (time room : ℕ) (w : SpaceWaiting) (fs : List FrameValue) (b : Bool) → b ≡ false → AckPart time w room fs b → fs ≡ []
none_due time room w fs true e part = cc
none_due time room w fs false e (AckPart.none is) = is

-- an ACK that is owed or joins is one that is given where none may be bundled
first_by : (o j c s : Bool) → ((o || j || (not c && false)) && s) ≡ ((o || j) && s)
first_by true j c s = refl
first_by false true c s = refl
first_by false false true s = refl
first_by false false false s = refl

pub first_given : (time : ℕ) (p : PendingValues) (given may : Bool) → given ≡ gives_ack time None p → may ≡ may_acknowledge p → (given && may) ≡ is_ack_first p
unfolding gives_ack is_ack_first
first_given time p given may is_given is_may = ap (λ (b : Bool). b && may) is_given ∙ ap (λ (b : Bool). gives_ack time None p && b) is_may ∙ first_by (owes_ack p) (joins_ack p) (is_clear p) (may_acknowledge p)

-- one that is bundled is given, and wouldn't be if none might be bundled
last_by : (o j c k s : Bool) → (not (o || j || (not c && false)) && ((o || j || (not c && k)) && (not c && s))) ≡ (not (o || j) && (k && (not c && s)))
last_by true j c k s = refl
last_by false true c k s = refl
last_by false false true true s = refl
last_by false false true false s = refl
last_by false false false true s = refl
last_by false false false false s = refl

pub last_given : (time : ℕ) (bundled : Option ℕ) (p : PendingValues) (first given may : Bool) → first ≡ gives_ack time None p → given ≡ gives_ack time bundled p → may ≡ may_acknowledge p →
    (not first && (given && may)) ≡ is_ack_last time bundled p
unfolding gives_ack is_ack_last may_acknowledge
last_given time bundled p first given may is_first is_given is_may =
    ap (λ (b : Bool). not b && (given && may)) is_first ∙ ap (λ (b : Bool). not (gives_ack time None p) && (b && may)) is_given
    ∙ ap (λ (b : Bool). not (gives_ack time None p) && (gives_ack time bundled p && b)) is_may ∙ last_by (owes_ack p) (joins_ack p) (is_clear p) (has_come_by bundled time) (nat_lt (greatest_number p.ranges) (2 ^ 62))

-- an ACK that is owed stands in front
owed_first_by : (o j s : Bool) → ((o || j) && s) ≡ false → (o && s) ≡ false
owed_first_by true j s h = h
owed_first_by false j s h = refl

pub owed_first : (p : PendingValues) → is_ack_first p ≡ false → is_ack_owed p ≡ false
unfolding is_ack_first is_ack_owed
owed_first p h = owed_first_by (owes_ack p) (joins_ack p) (may_acknowledge p) h

-- one in front may be given at each time
first_gives_by : (o j x s : Bool) → ((o || j) && s) ≡ true → ((o || j || x) && s) ≡ true
first_gives_by true j x s h = h
first_gives_by false true x s h = h
first_gives_by false false x s h = cc

pub first_gives : (time : ℕ) (bundled : Option ℕ) (p : PendingValues) → is_ack_first p ≡ true → is_ack_given time bundled p ≡ true
unfolding is_ack_first is_ack_given gives_ack
first_gives time bundled p h = first_gives_by (owes_ack p) (joins_ack p) (not (is_clear p) && has_come_by bundled time) (may_acknowledge p) h

-- so may one behind other frames
last_gives_by : (o j c k s : Bool) → (not (o || j) && (k && (not c && s))) ≡ true → ((o || j || (not c && k)) && (not c && s)) ≡ true
last_gives_by true j c k s h = cc
last_gives_by false true c k s h = cc
last_gives_by false false true true s h = cc
last_gives_by false false true false s h = cc
last_gives_by false false false true s h = h
last_gives_by false false false false s h = cc

pub last_gives : (time : ℕ) (bundled : Option ℕ) (p : PendingValues) → is_ack_last time bundled p ≡ true → is_ack_given time bundled p ≡ true
unfolding is_ack_last is_ack_given gives_ack may_acknowledge
last_gives time bundled p h = last_gives_by (owes_ack p) (joins_ack p) (is_clear p) (has_come_by bundled time) (nat_lt (greatest_number p.ranges) (2 ^ 62)) h

-- where one stands behind other frames, none stands in front
not_both_by : (o s x : Bool) → (not o && x) ≡ true → (o && s) ≡ false
not_both_by true s x h = cc
not_both_by false s x h = refl

pub not_both : (time : ℕ) (bundled : Option ℕ) (p : PendingValues) → is_ack_last time bundled p ≡ true → is_ack_first p ≡ false
unfolding is_ack_first is_ack_last
not_both time bundled p h = not_both_by (owes_ack p || joins_ack p) (may_acknowledge p) (has_come_by bundled time && may_acknowledge p) h

-- an ACK is made where the numbers are those of packets
pub made : {A : Type 0} (x : Option A) (ranges given : List NumberRange) → given ≡ ranges → ArePackets ranges → IfNone x (ArePackets given → ⊥) → x ≡ None → ⊥
made None ranges given same packets none is = none (subst ArePackets (sym same) packets)
made (Some a) ranges given same packets none is = cc

some_is : {A : Type 0} (a b : A) → Some a ≡ Some b → a ≡ b
some_is a b e = cc

-- the same, of the answer of the call that makes it
pub says_some : (time delay : ℕ) (w : SpaceWaiting) (given : List NumberRange) (counts : Option EcnCounts) (x : Option (AckOf (List ℕ))) (ack : AckOf (List ℕ)) → x ≡ Some ack → given ≡ w.acks.ranges →
    counts ≡ told_counts w.marks → time < 18446744073709551616 → delay ≡ ack_delay time w.acks.marks →
    IfSome x (λ a. ranges_of (ack_map (λ b. b) a) ≡ reverse given) → IfSome x (λ a. (a.delay ≡ delay) × (a.ecn ≡ counts)) →
    (delay < 2 ^ 62 → CountsFit counts → IfSome x (λ a. Fits (frames.Ack (ack_map (λ b. b) a)))) → IfSome x (λ a. a.additional ≡ flat_map varint (numbers_of a.additional)) →
    SaysAck time w (ack_map (λ b. b) ack)
unfolding ack_delay
says_some time delay w given counts None ack is same is_counts in_range is_delay ranges others fits shortest = cc
says_some time delay w given counts (Some a) ack is same is_counts in_range is_delay ranges others fits shortest =
    subst (λ (x : AckOf (List ℕ)). SaysAck time w (ack_map (λ b. b) x)) (some_is a ack is)
    (says time delay w (ack_map (λ b. b) a) (ranges ∙ ap reverse same) is_delay others.0 (others.1 ∙ is_counts)
    (fits (small_delay delay time w.acks.marks.came_at in_range is_delay) (subst CountsFit (sym is_counts) (told_fit w.marks))) shortest)

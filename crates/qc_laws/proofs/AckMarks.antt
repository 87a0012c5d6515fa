-- What each move leaves of the 1-RTT packets that are to be acknowledged, and of the timer of an ACK that is held back.
use Rattle.std.proofs.Common.{◌≡◌, ℕ, ◌<◌, ◌≤◌, ◌⊎◌, inl, inr, List, [], ◌∷◌, ◌++◌, refl, ap, sym, ◌∙◌, subst, Bool, true, false, Option, Some, None, if◌then◌else◌, arith}
use Rattle.std.specs.Prelude.{◌-◌, ◌&&◌, ◌||◌, not, nat_le, nat_lt}
use Rattle.std.proofs.lemmas.Bool.Decides.{nat_tests}
use Rattle.std.specs.List.{list_any}
use Rattle.std.proofs.lemmas.List.Folds.{list_any-append}
use Rattle.qc_base.specs.Time.{plus}
use Rattle.qc_base.specs.declared.ecn.EcnCodepoint.{EcnCodepoint}
use Rattle.qc_base.specs.declared.side.SpaceId.{SpaceId}
use Rattle.qc_base.specs.declared.side.SpaceId.TheVariants.{Initial, Handshake, «Data»}
use Rattle.qc_flight.specs.Packets.{Entry}
use Rattle.qc_frame.specs.Frame.{FrameValue}
use Rattle.qc_frame.specs.declared.frames.FrameOf.TheVariants as frames
use Rattle.qc_path.specs.Acks.{AckMarks, acks_confirmed, counted_in, greatest_noted, makes_owed, marks_received, marks_sent, owed_with, sets_delay}
use Rattle.qc_path.specs.Arrived.{Window, exceeds}
use Rattle.qc_path.specs.declared.pending_acks.Arrival.{Arrival}
use Rattle.qc_recovery.specs.declared.calls.Fired.{Fired}
use Rattle.qc_recovery.specs.declared.calls.Fired.TheVariants as fired
use Rattle.qc_state.specs.declared.spaces.Spaces.{Spaces}
use Rattle.qc_state.specs.declared.waiting.SpaceWaiting.{SpaceWaiting}
use Rattle.qc_state.specs.declared.waiting.Waiting.{Waiting}
use Rattle.qc_state.specs.declared.deeds.Did.{Did}
use Rattle.qc_state.specs.declared.timers.Timers.{Timers}
use Rattle.qc_laws.specs.AckLaws.{seals_ack}
use Rattle.qc_state.specs.Acks.{is_ack}
use Rattle.qc_state.specs.Timers.{ack_delay_most, has_come, timers_acking, timers_holding, timers_sealed}
use Rattle.qc_laws.proofs.CryptoPlaces.{bundled_spaces}
use Rattle.qc_state.specs.Spaces.{is_space, space_of, with_space}
use Rattle.qc_state.specs.Moves.{Accept, Ack, Ask, Begin, Confirm, Fire, Forget, Move, Owe, Release, Seal, Shut, Take, Write, waiting_move, Renew}
use Rattle.qc_state.specs.Offers.{packet_begun}
use Rattle.qc_state.specs.Types.{Types}
use Rattle.qc_state.specs.View.{View}
use Rattle.qc_state.specs.Waiting.{acked_in, again, all_again, all_confirmed, bundle_next, close_begun, confirmed, crypto_more, crypto_written, done_asked, fired_in, frames_again, lost_in, marks_begun, nothing_left, packet_told, packets_acked, packets_lost, ping_asked, probe_spent, probes_added, space_left, waiting_without, without, without_all, hello_again, bytes_again}
use Rattle.qc_state.proofs.Probed.{begun_holds}

pub or_false : (b : Bool) → (b || false) ≡ b
or_false true = refl
or_false false = refl

-- the marks of the packets of Data that came
abbrev pub data_marks : Spaces SpaceWaiting → AckMarks
data_marks v = (space_of v «Data»).acks.marks

-- where a space keeps its marks, Data does
pub put_marks : (space : SpaceId) (v : Spaces SpaceWaiting) (w : SpaceWaiting) → w.acks.marks ≡ (space_of v space).acks.marks → data_marks (with_space v space w) ≡ data_marks v
put_marks Initial v w h = refl
put_marks Handshake v w h = refl
put_marks Data v w h = h

-- ---- what is acknowledged, and lost

again_acks : (w : SpaceWaiting) (f : FrameValue) → (again w f).acks ≡ w.acks
again_acks w frames.HandshakeDone = refl
again_acks w (frames.Crypto offset body) = refl
again_acks w _ = refl

pub all_again_acks : (w : SpaceWaiting) (fs : List FrameValue) → (all_again w fs).acks ≡ w.acks
all_again_acks w [] = refl
all_again_acks w (f ∷ fs) = all_again_acks (again w f) fs ∙ again_acks w f

lost_acks : (w : SpaceWaiting) (es : List Entry) → (lost_in w es).acks ≡ w.acks
lost_acks w [] = refl
lost_acks w (e ∷ es) = lost_acks (all_again w e.1.frames) es ∙ all_again_acks w e.1.frames

confirmed_marks : (w : SpaceWaiting) (f : FrameValue) → (confirmed w f).acks.marks ≡ w.acks.marks
unfolding acks_confirmed
confirmed_marks w (frames.Ack ack) = refl
confirmed_marks w _ = refl

all_confirmed_marks : (w : SpaceWaiting) (fs : List FrameValue) → (all_confirmed w fs).acks.marks ≡ w.acks.marks
all_confirmed_marks w [] = refl
all_confirmed_marks w (f ∷ fs) = all_confirmed_marks (confirmed w f) fs ∙ confirmed_marks w f

acked_marks : (w : SpaceWaiting) (es : List Entry) → (acked_in w es).acks.marks ≡ w.acks.marks
acked_marks w [] = refl
acked_marks w (e ∷ es) = acked_marks (all_confirmed w e.1.frames) es ∙ all_confirmed_marks w e.1.frames

pub lost_marks : (v : Waiting) (id : SpaceId) (lost : List Entry) → data_marks (packets_lost v id lost).spaces ≡ data_marks v.spaces
unfolding packets_lost
lost_marks v id lost = put_marks id v.spaces (lost_in (space_of v.spaces id) lost) (ap (λ p. p.marks) (lost_acks (space_of v.spaces id) lost))

pub settled_marks : (v : Waiting) (id : SpaceId) (acked lost : List Entry) → data_marks (packets_lost (packets_acked v id acked) id lost).spaces ≡ data_marks v.spaces
unfolding packets_acked
settled_marks v id acked lost = lost_marks (packets_acked v id acked) id lost ∙ put_marks id v.spaces (acked_in (space_of v.spaces id) acked) (acked_marks (space_of v.spaces id) acked)

pub fired_marks : (v : Waiting) (f : Fired) → data_marks (fired_in v f).spaces ≡ data_marks v.spaces
unfolding probes_added
fired_marks v (fired.Lost id lost) = lost_marks v id lost
fired_marks v (fired.Probe id count) = put_marks id v.spaces (record (space_of v.spaces id) { probes = plus (space_of v.spaces id).probes count }) refl
fired_marks v fired.Nothing = refl

-- ---- frames that are sealed

-- an ACK among them is sent; else the marks stay
pub record IsTaken (acks : Bool) (m m' : AckMarks) : Type 0 where
  pub same : acks ≡ false → m' ≡ m
  pub sent : acks ≡ true → (m'.eliciting ≡ 0) × (m'.delay_set ≡ false)

without_marks : (w : SpaceWaiting) (f : FrameValue) → IsTaken (is_ack f) w.acks.marks (without w f).acks.marks
unfolding without marks_sent
without_marks w (frames.Ack ack) = record { same = λ e. absurd cc; sent = λ e. (refl, refl) }
without_marks w frames.HandshakeDone = record { same = λ e. refl; sent = λ e. absurd cc }
without_marks w frames.Ping = record { same = λ e. refl; sent = λ e. absurd cc }
without_marks w (frames.Crypto offset body) = record { same = λ e. refl; sent = λ e. absurd cc }
without_marks w _ = record { same = λ e. refl; sent = λ e. absurd cc }

taken_next : (a b : Bool) (m n k : AckMarks) → IsTaken a m n → IsTaken b n k → IsTaken (a || b) m k
taken_next a true m n k g h = record { same = λ e. absurd (or_none a e); sent = λ e. h.sent refl }
  where
    or_none : (c : Bool) → (c || true) ≡ false → ⊥
    or_none true e = cc
    or_none false e = cc
taken_next true false m n k g h = record { same = λ e. absurd cc; sent = λ e. subst (λ (x : AckMarks). (x.eliciting ≡ 0) × (x.delay_set ≡ false)) (sym (h.same refl)) (g.sent refl) }
taken_next false false m n k g h = record { same = λ e. h.same refl ∙ g.same refl; sent = λ e. absurd cc }

pub all_taken : (w : SpaceWaiting) (fs : List FrameValue) → IsTaken (list_any is_ack fs) w.acks.marks (without_all w fs).acks.marks
unfolding without_all
all_taken w [] = record { same = λ e. refl; sent = λ e. absurd cc }
all_taken w (f ∷ fs) = taken_next (is_ack f) (list_any is_ack fs) w.acks.marks (without w f).acks.marks _ (without_marks w f) (all_taken (without w f) fs)

-- ---- a packet that came

pub came_marks : (mark : Option EcnCodepoint) (v : Spaces SpaceWaiting) → data_marks (marks_begun mark v) ≡ data_marks v
came_marks mark v = refl

-- one that elicits nothing leaves how many came that do
noted_same : (b : Bool) (m : AckMarks) (n : Option ℕ) (at : ℕ) → (if b then record m { greatest = n; came_at = at } else m).eliciting ≡ m.eliciting
noted_same true m n at = refl
noted_same false m n at = refl

counted_same : (p : Arrival) (m : AckMarks) → p.ack_eliciting ≡ false → (counted_in p (greatest_noted p m)).eliciting ≡ m.eliciting
unfolding counted_in greatest_noted
counted_same p m is = by_kind p.ack_eliciting _ _ is ∙ noted_same _ m _ _
  where
    by_kind : (e : Bool) (x y : AckMarks) → e ≡ false → (if e then x else y).eliciting ≡ y.eliciting
    by_kind true x y no_one = cc
    by_kind false x y no_one = refl

-- where it elicits, an ACK is owed or held back from then on
or_keep : (o d x y : Bool) → (o || d) ≡ true → ((o || x) || (d || y)) ≡ true
or_keep true d x y h = refl
or_keep false true true y h = refl
or_keep false true false y h = refl
or_keep false false x y h = cc

all_three : (e o d : Bool) → e ≡ true → (o || (d || (((true && e) && not o) && not d))) ≡ true
all_three true true d is = refl
all_three true false true is = refl
all_three true false false is = refl
all_three false o d is = cc

-- an ACK is asked for from then on where it was before, or the packet elicits one
one_more : (n : ℕ) → nat_lt 0 (plus n 1) ≡ true
one_more n = let some : 0 < plus n 1 = omega arith in grind (arith, nat_tests)

pub or_true : (b : Bool) → (b || true) ≡ true
or_true true = refl
or_true false = refl

pub received_count : (seen : Window) (p : Arrival) (m : AckMarks) → nat_lt 0 (marks_received true seen p m).eliciting ≡ (nat_lt 0 m.eliciting || p.ack_eliciting)
unfolding marks_received counted_in greatest_noted
received_count seen p m = by_kind p.ack_eliciting (greatest_noted p m) _ (noted_same (exceeds m.greatest p.number) m (Some p.number) p.at)
  where
    by_kind : (e : Bool) (k : AckMarks) (g : Option ℕ) → k.eliciting ≡ m.eliciting →
        nat_lt 0 (if e then record k { eliciting = plus k.eliciting 1; greatest_eliciting = g } else record k { silent = plus k.silent 1 }).eliciting ≡ (nat_lt 0 m.eliciting || e)
    by_kind true k g same = one_more k.eliciting ∙ sym (or_true (nat_lt 0 m.eliciting))
    by_kind false k g same = ap (λ (n : ℕ). nat_lt 0 n) same ∙ sym (or_false (nat_lt 0 m.eliciting))

-- an ACK that was owed is owed
pub received_owed : (in_data : Bool) (seen : Window) (p : Arrival) (m : AckMarks) → m.owed ≡ true → (marks_received in_data seen p m).owed ≡ true
unfolding marks_received owed_with
received_owed in_data seen p m is = ap (λ (b : Bool). b || makes_owed in_data seen p m) is

pub received_asked : (seen : Window) (p : Arrival) (m : AckMarks) → (0 < m.eliciting → (m.owed || m.delay_set) ≡ true) → 0 < (marks_received true seen p m).eliciting → ((marks_received true seen p m).owed || (marks_received true seen p m).delay_set) ≡ true
unfolding marks_received sets_delay owed_with
received_asked seen p m h some = by_kind p.ack_eliciting refl
  where
    by_kind : (e : Bool) → p.ack_eliciting ≡ e → ((m.owed || makes_owed true seen p m) || (m.delay_set || (((true && p.ack_eliciting) && not (m.owed || makes_owed true seen p m)) && not m.delay_set))) ≡ true
    by_kind true is = all_three p.ack_eliciting (m.owed || makes_owed true seen p m) m.delay_set is
    by_kind false is = or_keep m.owed m.delay_set (makes_owed true seen p m) _ (h (subst (λ (n : ℕ). 0 < n) (counted_same p m is) some))

-- an ACK is held back from then on, or it was before, or it isn't
pub received_delay : (seen : Window) (p : Arrival) (m : AckMarks) → (marks_received true seen p m).delay_set ≡ (m.delay_set || sets_delay true seen p m)
unfolding marks_received
received_delay seen p m = refl

pub held_before : (in_data : Bool) (seen : Window) (p : Arrival) (m : AckMarks) → m.delay_set ≡ true → sets_delay in_data seen p m ≡ false
unfolding sets_delay
held_before in_data seen p m is = last_false ((in_data && p.ack_eliciting) && not (owed_with in_data seen p m)) m.delay_set is
  where
    last_false : (a d : Bool) → d ≡ true → (a && not d) ≡ false
    last_false true true e = refl
    last_false false true e = refl
    last_false a false e = cc

pub held_elsewhere : (seen : Window) (p : Arrival) (m : AckMarks) → sets_delay false seen p m ≡ false
unfolding sets_delay
held_elsewhere seen p m = refl

-- ---- deeds, and the timer

pub later : (xs ys : List Did) → list_any seals_ack ys ≡ true → list_any seals_ack (xs ++ ys) ≡ true
later xs ys e = list_any-append seals_ack xs ys ∙ second (list_any seals_ack xs) (list_any seals_ack ys) e
  where
    second : (x y : Bool) → y ≡ true → (x || y) ≡ true
    second true y h = refl
    second false y h = h

pub before : (xs ys : List Did) → list_any seals_ack xs ≡ true → list_any seals_ack (xs ++ ys) ≡ true
before xs ys e = list_any-append seals_ack xs ys ∙ first (list_any seals_ack xs) (list_any seals_ack ys) e
  where
    first : (x y : Bool) → x ≡ true → (x || y) ≡ true
    first true y h = refl
    first false y h = cc

pub holding_timer : (v : Timers) (b : Bool) (time : ℕ) → (timers_holding v b time).max_ack_delay ≡ (if b then Some (plus time ack_delay_most) else v.max_ack_delay)
unfolding timers_holding
holding_timer v true time = refl
holding_timer v false time = refl

pub elsewhere_timer : (v : Timers) (seen : Window) (p : Arrival) (m : AckMarks) (time : ℕ) → (timers_holding v (sets_delay false seen p m) time).max_ack_delay ≡ v.max_ack_delay
unfolding timers_holding sets_delay
elsewhere_timer v seen p m time = refl

pub acking_timer : (v : Timers) (limit : Option ℕ) (probe time : ℕ) (b acks : Bool) → (timers_acking (if b then timers_sealed v limit probe time else v) acks).max_ack_delay ≡ (if acks then None else v.max_ack_delay)
unfolding timers_acking timers_sealed
acking_timer v limit probe time true true = refl
acking_timer v limit probe time true false = refl
acking_timer v limit probe time false true = refl
acking_timer v limit probe time false false = refl

pub taken_marks : (id : SpaceId) (v : Spaces SpaceWaiting) (fs : List FrameValue) → (IsTaken (list_any is_ack fs) (data_marks v) (data_marks (with_space v id (without_all (space_of v id) fs)))) ⊎ (data_marks (with_space v id (without_all (space_of v id) fs)) ≡ data_marks v)
taken_marks Initial v fs = inr refl
taken_marks Handshake v fs = inr refl
taken_marks Data v fs = inl (all_taken v.application fs)

-- only an ACK of 1-RTT packets is sent of them
taken_exact : (id : SpaceId) (v : Spaces SpaceWaiting) (fs : List FrameValue) → IsTaken (is_space id «Data» && list_any is_ack fs) (data_marks v) (data_marks (with_space v id (without_all (space_of v id) fs)))
taken_exact Initial v fs = record { same = λ e. refl; sent = λ e. absurd cc }
taken_exact Handshake v fs = record { same = λ e. refl; sent = λ e. absurd cc }
taken_exact Data v fs = all_taken v.application fs

pub sealed_exact : (id : SpaceId) (v : Waiting) (fs : List FrameValue) (last : Bool) (next : ℕ) →
    IsTaken (is_space id «Data» && list_any is_ack fs) (data_marks v.spaces) (data_marks (bundle_next (packet_told (waiting_without v id fs) last) fs next).spaces)
unfolding bundle_next packet_told waiting_without
sealed_exact id v fs last next = subst (λ (m : AckMarks). IsTaken (is_space id «Data» && list_any is_ack fs) (data_marks v.spaces) m)
    (sym (ap (λ (x : Spaces SpaceWaiting). data_marks x) (bundled_spaces _ next (list_any is_ack fs)))) (taken_exact id v.spaces fs)

pub sealed_marks : (id : SpaceId) (v : Waiting) (fs : List FrameValue) (last : Bool) (next : ℕ) → let w : Waiting = bundle_next (packet_told (waiting_without v id fs) last) fs next in
    (IsTaken (list_any is_ack fs) (data_marks v.spaces) (data_marks w.spaces)) ⊎ (data_marks w.spaces ≡ data_marks v.spaces)
unfolding bundle_next packet_told waiting_without
sealed_marks id v fs last next = subst (λ (m : AckMarks). (IsTaken (list_any is_ack fs) (data_marks v.spaces) m) ⊎ (m ≡ data_marks v.spaces))
    (sym (ap (λ (x : Spaces SpaceWaiting). data_marks x) (bundled_spaces _ next (list_any is_ack fs)))) (taken_marks id v.spaces fs)

-- a timer that has come was set for no later time
pub came_by : (at now : ℕ) (d : Option ℕ) → d ≡ Some at → has_come d now ≡ true → at ≤ now
came_by at now d is h = let come : nat_le at now ≡ true = ap (λ (x : Option ℕ). has_come x now) (sym is) ∙ h in grind (arith, nat_tests)

-- ---- moves

module _ {t : Types} where
  begun_marks : (space : SpaceId) (opens : Bool) (s : View t) → data_marks (packet_begun space opens s).waiting.spaces ≡ data_marks s.waiting.spaces
  unfolding probe_spent frames_again ping_asked
  begun_marks space opens s =
      begun_holds (λ (v : Waiting). data_marks v.spaces ≡ data_marks s.waiting.spaces)
      (λ w other h. put_marks other w.spaces (record (space_of w.spaces other) { probes = (space_of w.spaces other).probes - 1 }) refl ∙ h)
      (λ w other fs h. put_marks other w.spaces (all_again (space_of w.spaces other) fs) (ap (λ p. p.marks) (all_again_acks (space_of w.spaces other) fs)) ∙ h)
      (λ w other h. put_marks other w.spaces (record (space_of w.spaces other) { ping = true }) refl ∙ h)
      space opens s refl

  -- the moves that leave the marks: no packet is taken, sealed or accepted, and no ACK that was held back is owed
  abbrev pub KeepsMarks : Move t → Type 0
  KeepsMarks (Take id fs) = ⊥
  KeepsMarks (Seal time form n size fs) = ⊥
  KeepsMarks (Accept time id n e g v) = ⊥
  KeepsMarks Release = ⊥
  KeepsMarks _ = Unit {0}

  pub kept_marks : (x : Move t) (s : View t) → KeepsMarks x → data_marks (waiting_move x s).spaces ≡ data_marks s.waiting.spaces
  unfolding waiting_move ping_asked space_left nothing_left crypto_written done_asked close_begun hello_again bytes_again
  kept_marks (Take id fs) s k = absurd k
  kept_marks (Seal time form n size fs) s k = absurd k
  kept_marks (Accept time id n e g v) s k = absurd k
  kept_marks Release s k = absurd k
  kept_marks (Ask space) s k = put_marks space s.waiting.spaces (record (space_of s.waiting.spaces space) { ping = true }) refl
  kept_marks (Forget space) s k = put_marks space s.waiting.spaces (nothing_left (space_of s.waiting.spaces space)) refl
  kept_marks (Renew time cid token keys) s k = put_marks Initial s.waiting.spaces (bytes_again (space_of s.waiting.spaces Initial)) refl
  kept_marks (Ack space n after) s k = settled_marks s.waiting space after.acked after.lost
  kept_marks (Fire after) s k = fired_marks s.waiting after.fired
  kept_marks (Begin space opens) s k = begun_marks space opens s
  kept_marks (Write bytes keys session) s k = put_marks s.keys.highest s.waiting.spaces (record (space_of s.waiting.spaces s.keys.highest) { crypto = crypto_more (space_of s.waiting.spaces s.keys.highest).crypto bytes }) refl
  kept_marks Confirm s k = put_marks «Data» s.waiting.spaces (record (space_of s.waiting.spaces «Data») { done = true }) refl
  kept_marks Owe s k = refl
  kept_marks (Shut time close) s k = refl
  kept_marks _ s k = refl

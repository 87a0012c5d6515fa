-- The deeds of moves come where they may, and what follows from that.
use Rattle.std.proofs.Common.{◌≡◌, ℕ, ◌+◌, ◌<◌, ◌≤◌, List, [], ◌∷◌, ◌++◌, length, refl, ap, sym, ◌∙◌, subst, Bool, true, false, Option, Some, None, if◌then◌else◌, append_assoc, append-nil, arith}
use Rattle.std.specs.Prelude.{option_to_list, is_none, ◌&&◌, IfSome}
use Rattle.std.specs.List.{list_any}
use Rattle.std.specs.declared.net.SocketAddr.{SocketAddr}
use Rattle.qc_base.specs.declared.side.SpaceId.{SpaceId}
use Rattle.qc_base.specs.declared.side.SpaceId.TheVariants.{Initial, Handshake, «Data»}
use Rattle.qc_frame.specs.Frame.{FrameValue}
use Rattle.qc_state.specs.declared.deeds.Did.{Did}
use Rattle.qc_state.specs.declared.deeds.Did.TheVariants as did
use Rattle.qc_state.specs.declared.deeds.Layer.TheVariants as layer
use Rattle.qc_state.specs.declared.life.ConnectionError.{ConnectionError}
use Rattle.qc_state.specs.declared.life.State.{State}
use Rattle.qc_state.specs.declared.life.State.TheVariants as state
use Rattle.qc_path.specs.Arrived.{Window, is_new, arrived}
use Rattle.qc_state.specs.declared.deeds.Verdict.{Verdict}
use Rattle.qc_cids.specs.Cids.{asks_one, next_token, token_by}
use Rattle.qc_cids.specs.Steps as ids
use Rattle.qc_ids.specs.Expiries.{oldest_time}
use Rattle.qc_ids.specs.LocalCids.{may_retire}
use Rattle.qc_state.specs.Ids.{active_limit}
use Rattle.qc_state.specs.Keys.{epoch_in, ring_of, sets_floor}
use Rattle.qc_state.specs.Forms.{is_early, number_space}
use Rattle.qc_state.specs.Headline.{sealed_in, reasons_in, lives_in, entered_number, entered_in, EachNew, came_with, CloseFrom, RisesFrom, Kernel, kernel_of, kernel_after, IsBehind, IsRight, Tells}
use Rattle.qc_state.specs.Life.{rank_of, is_open, is_closed, is_drained, reason_given, life_raised, life_closed, life_drained, life_established, data_ready, token_learned, token_told, identifiers_wanted, retirement_told, ready_reported, connected_reported, datagram_heard, heard_reported, all_heard_reported, lost_reported, notice_reported, notices_reported, drained_reported}
use Rattle.qc_state.specs.Moves.{Probe, Move, ClosesOnly, Clock, Ask, Take, Seal, Forget, Enter, Expect, Fail, Accept, Fix, Hear, Ack, Fire, Arm, Pace, Release, Begin, Skip, Come, Read, Write, Ready, Token, Learn, Want, Confirm, Establish, Tell, Hand, Insert, Switch, Retire, Issue, Outlive, Call, Post, PeerClosesToo, PeerCloses, Owe, IsTold, enters, Shut, Raise, Give, Say, ReportReady, ReportConnected, ReportHeard, ReportAllHeard, ReportStream, ReportStreams, ReportLost, ReportNotice, ReportNotices, ReportDrained, state_move, move_to, deeds_move, MayMove, told, arrival_of, numbers_move, life_move, timers_move, Spend, Hold, Finish, Unseal, Discard, Update, Renew}
use Rattle.qc_state.specs.Numbers.{next_number, came_in, is_new_in, number_used, number_skipped, used_in, number_entered, number_accepted, number_acked, space_renewed}
use Rattle.qc_state.specs.Numbers as numbers
use Rattle.qc_state.specs.Recovering.{probe_timeout_now}
use Rattle.qc_state.specs.Setup.{idle_limit_now}
use Rattle.qc_state.specs.Spaces.{is_space, space_of, with_space}
use Rattle.qc_state.specs.declared.numbers.SpaceNumbers.{SpaceNumbers}
use Rattle.qc_state.specs.Timers.{timers_sealed, timers_acking, timers_accepted, timers_holding, timers_paced, timers_held, timers_released, timers_armed, timers_issued, timers_outlived, timers_stopped, timers_closing, timers_keeping, timers_discarded}
use Rattle.qc_state.specs.Waiting.{holds_back}
use Rattle.qc_state.specs.Acks.{is_ack}
use Rattle.qc_state.specs.Draws.{word}
use Rattle.qc_state.specs.declared.timers.Timers.{Timers}
use Rattle.qc_frame.specs.FrameSpelling.{elicits, spelling}
use Rattle.qc_state.specs.Datagrams.{tells_datagram}
use Rattle.qc_state.specs.Streams.{is_given_to_streams}
use Rattle.qc_state.specs.Types.{Types}
use Rattle.qc_state.specs.View.{View, At}
use Rattle.qc_state.proofs.KeySteps.{keeping_same}

-- deeds told one after another are appended
pub told_appends : (ds es : List Did) → told ds es ≡ ds ++ es
told_appends ds [] = sym (append-nil ds)
told_appends ds (e ∷ es) = told_appends (ds ++ e ∷ []) es ∙ append_assoc ds (e ∷ []) es

-- where nothing came, nothing changed
pub behind_here : (k : Kernel) → IsBehind k k
behind_here k = record { next = omega arith; came = refl; reason = refl; rank = refl }

behind_next : (k mid k' : Kernel) → IsBehind k mid → IsBehind mid k' → IsBehind k k'
behind_next k mid k' a b = record { next = omega (arith, a.next, b.next); came = b.came ∙ a.came; reason = b.reason ∙ a.reason; rank = b.rank ∙ a.rank }

-- what may come once numbers were skipped may come before
right_before : (id : SpaceId) (k mid : Kernel) (d : Did) → IsBehind k mid → IsRight id mid d → IsRight id k d
right_before id k mid (did.Sealed space n epoch early fs) a h = (λ same. let least : mid.next ≤ n = h.0 same in omega (arith, a.next, least), subst (λ (r : ℕ). ClosesOnly r fs) a.rank h.1)
right_before id k mid (did.Piece space number v) a h = subst (λ (w : Window). IfSome (entered_number id space number v) (λ n. is_new w n ≡ true)) a.came h
right_before id k mid (did.Gave layer body) a h = tt
right_before id k mid (did.Rose life) a h = subst (λ (r : ℕ). r < life) a.rank h
right_before id k mid (did.Lost why) a h = sym a.reason ∙ h
right_before id k mid (did.Quiet why) a h = tt

-- and leaves the same kernel, but for numbers that were skipped
sealed_behind : (k mid : Kernel) (n : ℕ) (b : Bool) → IsBehind k mid → IsBehind (if b then record k { next = n + 1 } else k) (if b then record mid { next = n + 1 } else mid)
sealed_behind k mid n true a = record { next = omega arith; came = a.came; reason = a.reason; rank = a.rank }
sealed_behind k mid n false a = a

after_behind : (id : SpaceId) (k mid : Kernel) (d : Did) → IsBehind k mid → IsBehind (kernel_after id k d) (kernel_after id mid d)
after_behind id k mid (did.Sealed space n epoch early fs) a = sealed_behind k mid n (is_space id space) a
after_behind id k mid (did.Piece space number v) a = record { next = a.next; came = ap (came_with (entered_number id space number v)) a.came; reason = a.reason; rank = a.rank }
after_behind id k mid (did.Gave layer body) a = a
after_behind id k mid (did.Rose life) a = record { next = a.next; came = a.came; reason = a.reason; rank = refl }
after_behind id k mid (did.Lost why) a = record { next = a.next; came = a.came; reason = refl; rank = a.rank }
after_behind id k mid (did.Quiet why) a = a

tells_before : (id : SpaceId) (k mid k' : Kernel) (ds : List Did) → IsBehind k mid → Tells id mid ds k' → Tells id k ds k'
unfolding Tells
tells_before id k mid k' [] a h = behind_next k mid k' a h
tells_before id k mid k' (d ∷ ds) a h = (right_before id k mid d a h.0, tells_before id (kernel_after id k d) (kernel_after id mid d) k' ds (after_behind id k mid d a) h.1)

pub tells_append : (id : SpaceId) (k mid k' : Kernel) (ds es : List Did) → Tells id k ds mid → Tells id mid es k' → Tells id k (ds ++ es) k'
unfolding Tells
tells_append id k mid k' [] es a b = tells_before id k mid k' es a b
tells_append id k mid k' (d ∷ ds) es a b = (a.0, tells_append id (kernel_after id k d) mid k' ds es a.1 b)

-- the laws, of deeds that come where they may
sealed_rises : (k : Kernel) (n : ℕ) (ns : List ℕ) (b : Bool) → (b ≡ true → k.next ≤ n) → RisesFrom (if b then record k { next = n + 1 } else k).next ns → RisesFrom k.next (if b then n ∷ ns else ns)
sealed_rises k n ns true h r = (h refl, r)
sealed_rises k n ns false h r = r

pub rises : (id : SpaceId) (k k' : Kernel) (ds : List Did) → Tells id k ds k' → RisesFrom k.next (sealed_in id ds)
unfolding Tells
rises id k k' [] h = tt
rises id k k' (did.Sealed space n epoch early fs ∷ ds) h = sealed_rises k n (sealed_in id ds) (is_space id space) h.0.0 (rises id (kernel_after id k (did.Sealed space n epoch early fs)) k' ds h.1)
rises id k k' (did.Piece space number v ∷ ds) h = rises id (kernel_after id k (did.Piece space number v)) k' ds h.1
rises id k k' (did.Gave layer body ∷ ds) h = rises id k k' ds h.1
rises id k k' (did.Rose life ∷ ds) h = rises id (kernel_after id k (did.Rose life)) k' ds h.1
rises id k k' (did.Lost why ∷ ds) h = rises id (kernel_after id k (did.Lost why)) k' ds h.1
rises id k k' (did.Quiet why ∷ ds) h = rises id (kernel_after id k (did.Quiet why)) k' ds h.1

pub one_at_most : (o : Option ConnectionError) → length (option_to_list o) + 0 ≤ 1
one_at_most None = omega arith
one_at_most (Some why) = omega arith

sealed_reason : (k : Kernel) (n : ℕ) (b : Bool) → (if b then record k { next = n + 1 } else k).reason ≡ k.reason
sealed_reason k n true = refl
sealed_reason k n false = refl

lost_first : (o : Option ConnectionError) (why : ConnectionError) (rest : List ConnectionError) → o ≡ None → length (option_to_list (Some why)) + length rest ≤ 1 → length (option_to_list o) + length (why ∷ rest) ≤ 1
lost_first None why rest h r = omega arith
lost_first (Some other) why rest h r = cc

pub reasons : (id : SpaceId) (k k' : Kernel) (ds : List Did) → Tells id k ds k' → length (option_to_list k.reason) + length (reasons_in ds) ≤ 1
unfolding Tells
reasons id k k' [] h = one_at_most k.reason
reasons id k k' (did.Sealed space n epoch early fs ∷ ds) h =
    subst (λ (o : Option ConnectionError). length (option_to_list o) + length (reasons_in ds) ≤ 1) (sealed_reason k n (is_space id space)) (reasons id (kernel_after id k (did.Sealed space n epoch early fs)) k' ds h.1)
reasons id k k' (did.Piece space number v ∷ ds) h = reasons id (kernel_after id k (did.Piece space number v)) k' ds h.1
reasons id k k' (did.Gave layer body ∷ ds) h = reasons id k k' ds h.1
reasons id k k' (did.Rose life ∷ ds) h = reasons id (kernel_after id k (did.Rose life)) k' ds h.1
reasons id k k' (did.Lost why ∷ ds) h = lost_first k.reason why (reasons_in ds) h.0 (reasons id (kernel_after id k (did.Lost why)) k' ds h.1)
reasons id k k' (did.Quiet why ∷ ds) h = reasons id (kernel_after id k (did.Quiet why)) k' ds h.1

sealed_rank : (k : Kernel) (n : ℕ) (b : Bool) → (if b then record k { next = n + 1 } else k).rank ≡ k.rank
sealed_rank k n true = refl
sealed_rank k n false = refl

pub lives : (id : SpaceId) (k k' : Kernel) (ds : List Did) → Tells id k ds k' → RisesFrom (k.rank + 1) (lives_in ds)
unfolding Tells
lives id k k' [] h = tt
lives id k k' (did.Sealed space n epoch early fs ∷ ds) h =
    subst (λ (r : ℕ). RisesFrom (r + 1) (lives_in ds)) (sealed_rank k n (is_space id space)) (lives id (kernel_after id k (did.Sealed space n epoch early fs)) k' ds h.1)
lives id k k' (did.Piece space number v ∷ ds) h = lives id (kernel_after id k (did.Piece space number v)) k' ds h.1
lives id k k' (did.Gave layer body ∷ ds) h = lives id k k' ds h.1
lives id k k' (did.Rose life ∷ ds) h = let up : k.rank < life = h.0 in (omega arith, lives id (kernel_after id k (did.Rose life)) k' ds h.1)
lives id k k' (did.Lost why ∷ ds) h = lives id (kernel_after id k (did.Lost why)) k' ds h.1
lives id k k' (did.Quiet why ∷ ds) h = lives id (kernel_after id k (did.Quiet why)) k' ds h.1

pub closes : (id : SpaceId) (k k' : Kernel) (ds : List Did) → Tells id k ds k' → CloseFrom k.rank ds
unfolding Tells
closes id k k' [] h = tt
closes id k k' (did.Sealed space n epoch early fs ∷ ds) h =
    (h.0.1, subst (λ (r : ℕ). CloseFrom r ds) (sealed_rank k n (is_space id space)) (closes id (kernel_after id k (did.Sealed space n epoch early fs)) k' ds h.1))
closes id k k' (did.Piece space number v ∷ ds) h = closes id (kernel_after id k (did.Piece space number v)) k' ds h.1
closes id k k' (did.Gave layer body ∷ ds) h = closes id k k' ds h.1
closes id k k' (did.Rose life ∷ ds) h = closes id (kernel_after id k (did.Rose life)) k' ds h.1
closes id k k' (did.Lost why ∷ ds) h = closes id (kernel_after id k (did.Lost why)) k' ds h.1
closes id k k' (did.Quiet why ∷ ds) h = closes id (kernel_after id k (did.Quiet why)) k' ds h.1

sealed_came : (k : Kernel) (n : ℕ) (b : Bool) → (if b then record k { next = n + 1 } else k).came ≡ k.came
sealed_came k n true = refl
sealed_came k n false = refl

one_new : (o : Option ℕ) (w : Window) (ns : List ℕ) → IfSome o (λ n. is_new w n ≡ true) → EachNew (came_with o w) ns → EachNew w (option_to_list o ++ ns)
one_new None w ns h r = r
one_new (Some n) w ns h r = (h, r)

pub admits : (id : SpaceId) (k k' : Kernel) (ds : List Did) → Tells id k ds k' → EachNew k.came (entered_in id ds)
unfolding Tells
admits id k k' [] h = tt
admits id k k' (did.Sealed space n epoch early fs ∷ ds) h =
    subst (λ (w : Window). EachNew w (entered_in id ds)) (sealed_came k n (is_space id space)) (admits id (kernel_after id k (did.Sealed space n epoch early fs)) k' ds h.1)
admits id k k' (did.Piece space number v ∷ ds) h =
    one_new (entered_number id space number v) k.came (entered_in id ds) h.0 (admits id (kernel_after id k (did.Piece space number v)) k' ds h.1)
admits id k k' (did.Gave layer body ∷ ds) h = admits id k k' ds h.1
admits id k k' (did.Rose life ∷ ds) h = admits id (kernel_after id k (did.Rose life)) k' ds h.1
admits id k k' (did.Lost why ∷ ds) h = admits id (kernel_after id k (did.Lost why)) k' ds h.1
admits id k k' (did.Quiet why ∷ ds) h = admits id (kernel_after id k (did.Quiet why)) k' ds h.1

pub is_none_none : (o : Option ConnectionError) → is_none o ≡ true → o ≡ None
is_none_none None h = refl
is_none_none (Some why) h = cc

pub low_rank : (s : State) → is_drained s ≡ false → rank_of s < 4
low_rank state.Handshake h = omega arith
low_rank state.Established h = omega arith
low_rank state.Closed h = omega arith
low_rank state.Draining h = omega arith
low_rank state.Drained h = cc

pub closed_rank : (s : State) → is_closed s ≡ true → rank_of s < 3
closed_rank state.Handshake h = cc
closed_rank state.Established h = cc
closed_rank state.Closed h = omega arith
closed_rank state.Draining h = cc
closed_rank state.Drained h = cc

pub open_rank : (s : State) → is_open s ≡ true → rank_of s < 2
open_rank state.Handshake h = omega arith
open_rank state.Established h = omega arith
open_rank state.Closed h = cc
open_rank state.Draining h = cc
open_rank state.Drained h = cc

no_number_by : (b : Bool) (n : ℕ) (c : Bool) → c ≡ false → (if b && c then Some n else None) ≡ None
no_number_by true n true e = cc
no_number_by true n false e = refl
no_number_by false n c e = refl

-- a deed that tells of a packet whose number doesn't count enters none
no_number : (id : SpaceId) (space : Option SpaceId) (number : Option ℕ) (v : Verdict) → enters v ≡ false → entered_number id space number v ≡ None
no_number id None number v e = refl
no_number id (Some space) None v e = refl
no_number id (Some space) (Some n) v e = no_number_by (is_space id space) n (enters v) e

-- ids that are given leave the clock
issued_clock : (v : Timers) (oldest : Option ℕ) (time : ℕ) (drained : Bool) → (if drained then v else timers_issued v oldest time).greatest ≡ v.greatest
unfolding timers_issued
issued_clock v oldest time true = refl
issued_clock v oldest time false = refl

sealed_clock : (timers : Timers) (limit : Option ℕ) (probe time : ℕ) (b : Bool) → (if b then timers_sealed timers limit probe time else timers).greatest ≡ timers.greatest
unfolding timers_sealed
sealed_clock timers limit probe time true = refl
sealed_clock timers limit probe time false = refl

acking_clock : (timers : Timers) (b : Bool) → (timers_acking timers b).greatest ≡ timers.greatest
unfolding timers_acking
acking_clock timers true = refl
acking_clock timers false = refl

holding_clock : (timers : Timers) (b : Bool) (time : ℕ) → (timers_holding timers b time).greatest ≡ timers.greatest
unfolding timers_holding
holding_clock timers true time = refl
holding_clock timers false time = refl

-- a number that is the next one is not below it
at_least : (n next : ℕ) → n ≡ next → next ≤ n
at_least n next e = omega (arith, e)

module _ {t : Types} where
  abbrev pub kernel : SpaceId → View t → Kernel
  kernel id s = kernel_of id s.numbers s.life

  -- a move's deeds come where they may, where the move may be made
  seal_tells : (id space : SpaceId) (s : View t) (n : ℕ) (epoch : ℕ) (early : Bool) (fs : List FrameValue) → n ≡ next_number s.numbers space → ClosesOnly (rank_of s.life.state) fs →
      Tells id (kernel id s) (did.Sealed space n epoch early fs ∷ []) (kernel_of id (number_used s.numbers space n) s.life)
  unfolding Tells next_number came_in number_used used_in
  seal_tells Initial Initial s n epoch early fs h c = ((λ _. at_least n s.numbers.spaces.initial.next h, c), behind_here _)
  seal_tells Initial Handshake s n epoch early fs h c = ((λ e. cc, c), behind_here _)
  seal_tells Initial Data s n epoch early fs h c = ((λ e. cc, c), behind_here _)
  seal_tells Handshake Initial s n epoch early fs h c = ((λ e. cc, c), behind_here _)
  seal_tells Handshake Handshake s n epoch early fs h c = ((λ _. at_least n s.numbers.spaces.handshake.next h, c), behind_here _)
  seal_tells Handshake Data s n epoch early fs h c = ((λ e. cc, c), behind_here _)
  seal_tells Data Initial s n epoch early fs h c = ((λ e. cc, c), behind_here _)
  seal_tells Data Handshake s n epoch early fs h c = ((λ e. cc, c), behind_here _)
  seal_tells Data Data s n epoch early fs h c = ((λ _. at_least n s.numbers.spaces.application.next h, c), behind_here _)

  -- what keeps a space's next number, and what came in each space, keeps the kernel
  next_same : (id space : SpaceId) (s : View t) (f : SpaceNumbers → SpaceNumbers) →
      (f (space_of s.numbers.spaces space)).next ≡ (space_of s.numbers.spaces space).next → (f (space_of s.numbers.spaces space)).came ≡ (space_of s.numbers.spaces space).came →
      IsBehind (kernel id s) (kernel_of id (record s.numbers { spaces = with_space s.numbers.spaces space (f (space_of s.numbers.spaces space)) }) s.life)
  unfolding next_number came_in
  next_same Initial Initial s f h c = record { next = at_least _ _ h; came = c; reason = refl; rank = refl }
  next_same Initial Handshake s f h c = behind_here _
  next_same Initial Data s f h c = behind_here _
  next_same Handshake Initial s f h c = behind_here _
  next_same Handshake Handshake s f h c = record { next = at_least _ _ h; came = c; reason = refl; rank = refl }
  next_same Handshake Data s f h c = behind_here _
  next_same Data Initial s f h c = behind_here _
  next_same Data Handshake s f h c = behind_here _
  next_same Data Data s f h c = record { next = at_least _ _ h; came = c; reason = refl; rank = refl }

  -- where a number is skipped, the next one of its space is greater
  skip_tells : (id : SpaceId) (s : View t) (word : ℕ) → IsBehind (kernel id s) (kernel_of id (number_skipped s.numbers word) s.life)
  unfolding next_number came_in number_skipped used_in
  skip_tells Initial s word = behind_here _
  skip_tells Handshake s word = behind_here _
  skip_tells Data s word = record { next = omega arith; came = refl; reason = refl; rank = refl }

  -- a new number came in a space and counts there
  enter_tells : (id space : SpaceId) (s : View t) (n : ℕ) (v : Verdict) (f : SpaceNumbers → SpaceNumbers) (opened : Bool) → is_new_in s.numbers space n ≡ true → enters v ≡ true →
      ((w : SpaceNumbers) → (f w).next ≡ w.next) → ((w : SpaceNumbers) → (f w).came ≡ arrived n w.came) →
      Tells id (kernel id s) (did.Piece (Some space) (Some n) v ∷ []) (kernel_of id (record s.numbers { spaces = with_space s.numbers.spaces space (f (space_of s.numbers.spaces space)); opened = opened }) s.life)
  unfolding Tells next_number came_in is_new_in
  enter_tells Initial Initial s n v f opened new e h c = (rw e new, rw e (record { next = at_least _ _ (h s.numbers.spaces.initial); came = c s.numbers.spaces.initial; reason = refl; rank = refl }))
  enter_tells Initial Handshake s n v f opened new e h c = (tt, behind_here _)
  enter_tells Initial Data s n v f opened new e h c = (tt, behind_here _)
  enter_tells Handshake Initial s n v f opened new e h c = (tt, behind_here _)
  enter_tells Handshake Handshake s n v f opened new e h c = (rw e new, rw e (record { next = at_least _ _ (h s.numbers.spaces.handshake); came = c s.numbers.spaces.handshake; reason = refl; rank = refl }))
  enter_tells Handshake Data s n v f opened new e h c = (tt, behind_here _)
  enter_tells Data Initial s n v f opened new e h c = (tt, behind_here _)
  enter_tells Data Handshake s n v f opened new e h c = (tt, behind_here _)
  enter_tells Data Data s n v f opened new e h c = (rw e new, rw e (record { next = at_least _ _ (h s.numbers.spaces.application); came = c s.numbers.spaces.application; reason = refl; rank = refl }))

  told_tells : (id : SpaceId) (d : Did) (s : View t) → IsTold d → Tells id (kernel id s) (d ∷ []) (kernel id s)
  unfolding Tells
  told_tells id (did.Piece space number v) s h = let none : entered_number id space number v ≡ None = no_number id space number v h in (rw none tt, rw none (behind_here _))
  told_tells id (did.Gave layer body) s h = (tt, behind_here _)
  told_tells id _ s h = absurd h

  -- a frame that the streams are handed is told of, or isn't
  handed_tells : (id : SpaceId) (f : FrameValue) (given heard : Bool) (s : View t) → Tells id (kernel id s) (if given then did.Gave layer.Streams (spelling f) ∷ [] else []) (kernel_of id s.numbers (datagram_heard heard s.life))
  unfolding Tells datagram_heard
  handed_tells id f true true s = (tt, behind_here _)
  handed_tells id f true false s = (tt, behind_here _)
  handed_tells id f false true s = behind_here _
  handed_tells id f false false s = behind_here _

  -- a token that came with an id of the peer, or none, leaves the state and the reason
  token_tells : (id : SpaceId) (remote : SocketAddr) (token : Option (List ℕ)) (s : View t) → IsBehind (kernel id s) (kernel_of id s.numbers (token_told s.life remote token))
  unfolding token_learned
  token_tells id remote None s = behind_here _
  token_tells id remote (Some token) s = behind_here _

  -- so does an id that the peer retired
  retired_tells : (id : SpaceId) (time n : ℕ) (allowed more : Bool) (s : View t) → IsBehind (kernel id s) (kernel_of id s.numbers (if allowed then retirement_told s.life time n more else s.life))
  unfolding retirement_told
  retired_tells id time n true more s = behind_here _
  retired_tells id time n false more s = behind_here _

  give_tells : (id : SpaceId) (s : View t) (why : ConnectionError) → s.life.reason ≡ None → Tells id (kernel id s) (did.Lost why ∷ []) (kernel_of id s.numbers (reason_given s.life why))
  unfolding Tells reason_given
  give_tells id s why h = (h, rw h (behind_here _))

  pub move_tells : (id : SpaceId) (x : Move t) (s : View t) → MayMove x s → Tells id (kernel id s) (deeds_move x s) (kernel id (state_move x s))
  unfolding Tells MayMove deeds_move state_move numbers_move life_move life_raised life_closed life_drained lost_reported heard_reported all_heard_reported notice_reported notices_reported drained_reported life_established data_ready token_learned identifiers_wanted ready_reported connected_reported number_entered number_accepted number_acked space_renewed numbers.entered_in numbers.accepted_in numbers.acked_in
  move_tells id (Clock time) s h = absurd h
  move_tells id (Ask space) s h = behind_here _
  move_tells id (Take space fs) s h = behind_here _
  move_tells id (Forget space) s h = behind_here _
  move_tells id (Enter space n v) s h = enter_tells id space s n v (λ w. numbers.entered_in n w) s.numbers.opened h.0 h.1 (λ w. refl) (λ w. refl)
  move_tells id (Expect token) s h = behind_here _
  move_tells id Fail s h = behind_here _
  move_tells id (Renew time cid token keys) s h = (tt, next_same id Initial s (λ w. record w { began = time }) refl refl)
  move_tells id (Unseal time n which fresh session) s h = behind_here _
  move_tells id (Accept time space n e g v) s h = enter_tells id space s n v (λ w. numbers.accepted_in n w) true h.0 h.1 (λ w. refl) (λ w. refl)
  move_tells id (Fix cid) s h = behind_here _
  move_tells id (Hear bytes) s h = behind_here _
  move_tells id (Ack space n r) s h = next_same id space s (λ w. numbers.acked_in n w) refl refl
  move_tells id (Fire r) s h = behind_here _
  move_tells id (Arm at) s h = behind_here _
  move_tells id (Update fresh session) s h = behind_here _
  move_tells id Discard s h = behind_here _
  move_tells id Pace s h = behind_here _
  move_tells id Release s h = behind_here _
  move_tells id (Begin space opens) s h = behind_here _
  move_tells id Skip s h = skip_tells id s (word s.setup.random)
  move_tells id (Come space offset bytes) s h = behind_here _
  move_tells id (Read space count session) s h = behind_here _
  move_tells id (Write bytes keys session) s h = behind_here _
  move_tells id Ready s h = behind_here _
  move_tells id (Token token) s h = behind_here _
  move_tells id (Learn parameters) s h = behind_here _
  move_tells id (Want time count) s h = behind_here _
  move_tells id Confirm s h = behind_here _
  move_tells id Establish s h = (h, behind_here _)
  move_tells id (Tell d) s h = told_tells id d s h
  move_tells id (Hand f) s h = handed_tells id f (is_given_to_streams f) (tells_datagram f s.lower.datagrams) s
  move_tells id (Insert new) s h = (tt, token_tells id s.paths.current.remote (token_by new s.lower.ids.remote) s)
  move_tells id Switch s h = token_tells id s.paths.current.remote (next_token s.lower.ids.remote) s
  move_tells id (Retire time n) s h = (tt, retired_tells id time n (may_retire n s.lower.ids.local) (asks_one (active_limit s.setup.peer) n s.lower.ids) s)
  move_tells id (Issue time given) s h = behind_here _
  move_tells id Outlive s h = behind_here _
  move_tells id (Call x) s h = behind_here _
  move_tells id (Post x) s h = behind_here _
  move_tells id ReportHeard s h = behind_here _
  move_tells id ReportAllHeard s h = behind_here _
  move_tells id PeerClosesToo s h = (closed_rank s.life.state h, behind_here _)
  move_tells id (PeerCloses time) s h = (h, behind_here _)
  move_tells id Owe s h = behind_here _
  move_tells id (Seal time form n size fs) s h = seal_tells id (number_space form) s n (epoch_in s.keys form) (is_early form) fs h.0 h.1
  move_tells id (Shut time close) s h = (h, behind_here _)
  move_tells id (Raise to) s h = (h, behind_here _)
  move_tells id (Give why) s h = give_tells id s why h
  move_tells id (Spend tokens) s h = behind_here _
  move_tells id (Hold until) s h = behind_here _
  move_tells id (Finish bytes control) s h = behind_here _
  move_tells id (Probe time n bytes q) s h = behind_here _
  move_tells id (Say q) s h = (tt, behind_here _)
  move_tells id ReportReady s h = behind_here _
  move_tells id ReportConnected s h = behind_here _
  move_tells id ReportStream s h = behind_here _
  move_tells id ReportStreams s h = behind_here _
  move_tells id ReportLost s h = behind_here _
  move_tells id ReportNotice s h = behind_here _
  move_tells id ReportNotices s h = behind_here _
  move_tells id ReportDrained s h = behind_here _

  -- no move but the first of a call sets the clock
  pub clock_kept : (x : Move t) (s : View t) → MayMove x s → (state_move x s).timers.greatest ≡ s.timers.greatest
  unfolding MayMove state_move timers_move timers_keeping timers_discarded timers_accepted timers_armed timers_stopped timers_closing timers_paced timers_held timers_released timers_outlived
  clock_kept (Clock time) s h = absurd h
  clock_kept (Ask space) s h = refl
  clock_kept (Take space fs) s h = refl
  clock_kept (Forget space) s h = refl
  clock_kept (Enter space n v) s h = refl
  clock_kept (Expect token) s h = refl
  clock_kept Fail s h = refl
  clock_kept (Renew time cid token keys) s h = refl
  clock_kept (Unseal time n which fresh session) s h = keeping_same (λ (v : Timers). v.greatest) (sets_floor which fresh (ring_of s.keys)) s.timers (probe_timeout_now s «Data») time (λ v probe at. refl)
  clock_kept (Accept time space n e g v) s h =
      holding_clock (timers_accepted s.timers (idle_limit_now s.setup) (probe_timeout_now s space) time) (holds_back s.waiting space (arrived n (came_in s.numbers space)) (arrival_of time n e g)) time
  clock_kept (Fix cid) s h = refl
  clock_kept (Hear bytes) s h = refl
  clock_kept (Ack space n r) s h = refl
  clock_kept (Fire r) s h = refl
  clock_kept (Arm at) s h = refl
  clock_kept (Update fresh session) s h = refl
  clock_kept Discard s h = refl
  clock_kept Pace s h = refl
  clock_kept Release s h = refl
  clock_kept (Begin space opens) s h = refl
  clock_kept Skip s h = refl
  clock_kept (Come space offset bytes) s h = refl
  clock_kept (Read space count session) s h = refl
  clock_kept (Write bytes keys session) s h = refl
  clock_kept Ready s h = refl
  clock_kept (Token token) s h = refl
  clock_kept (Learn parameters) s h = refl
  clock_kept (Want time count) s h = refl
  clock_kept Confirm s h = refl
  clock_kept Establish s h = refl
  clock_kept (Tell d) s h = refl
  clock_kept (Hand f) s h = refl
  clock_kept (Insert new) s h = refl
  clock_kept Switch s h = refl
  clock_kept (Retire time n) s h = refl
  clock_kept (Issue time given) s h = issued_clock s.timers (oldest_time (ids.after_step (ids.Given given time) s.lower.ids).local.expiries) time (is_drained s.life.state)
  clock_kept Outlive s h = refl
  clock_kept (Call x) s h = refl
  clock_kept (Post x) s h = refl
  clock_kept ReportHeard s h = refl
  clock_kept ReportAllHeard s h = refl
  clock_kept PeerClosesToo s h = refl
  clock_kept (PeerCloses time) s h = refl
  clock_kept Owe s h = refl
  clock_kept (Seal time form n size fs) s h =
      let b : Bool = list_any elicits fs in
      let sealed : Timers = if b then timers_sealed s.timers (idle_limit_now s.setup) (probe_timeout_now s (number_space form)) time else s.timers in
      acking_clock sealed (list_any is_ack fs) ∙ sealed_clock s.timers (idle_limit_now s.setup) (probe_timeout_now s (number_space form)) time b
  clock_kept (Shut time close) s h = refl
  clock_kept (Raise to) s h = refl
  clock_kept (Give why) s h = refl
  clock_kept (Spend tokens) s h = refl
  clock_kept (Hold until) s h = refl
  clock_kept (Finish bytes control) s h = refl
  clock_kept (Probe time n bytes q) s h = refl
  clock_kept (Say q) s h = refl
  clock_kept ReportReady s h = refl
  clock_kept ReportConnected s h = refl
  clock_kept ReportStream s h = refl
  clock_kept ReportStreams s h = refl
  clock_kept ReportLost s h = refl
  clock_kept ReportNotice s h = refl
  clock_kept ReportNotices s h = refl
  clock_kept ReportDrained s h = refl

  -- from one moment to another, the deeds between come where they may
  pub record Told (id : SpaceId) (a b : At t) : Type 0 where
    pub since : List Did
    pub appended : b.did ≡ a.did ++ since
    pub clock : b.state.timers.greatest ≡ a.state.timers.greatest
    pub tells : Tells id (kernel id a.state) since (kernel id b.state)

  pub told_here : (id : SpaceId) (a : At t) → Told id a a
  unfolding Tells
  told_here id a = record { since = []; appended = sym (append-nil a.did); clock = refl; tells = behind_here (kernel id a.state) }

  pub told_next : (id : SpaceId) (a b c : At t) → Told id a b → Told id b c → Told id a c
  told_next id a b c g h = record {
    since = g.since ++ h.since;
    clock = h.clock ∙ g.clock;
    appended = h.appended ∙ ap (λ (x : List Did). x ++ h.since) g.appended ∙ append_assoc a.did g.since h.since;
    tells = tells_append id (kernel id a.state) (kernel id b.state) (kernel id c.state) g.since h.since g.tells h.tells;
  }

  pub told_move : (id : SpaceId) (x : Move t) (a : At t) → MayMove x a.state → Told id a (move_to x a)
  unfolding move_to
  told_move id x a h = record { since = deeds_move x a.state; appended = told_appends a.did (deeds_move x a.state); clock = clock_kept x a.state h; tells = move_tells id x a.state h }

-- The numbers that are kept to be acknowledged, and the ACKs that are made of them.
use Rattle.std.proofs.Common.{◌≡◌, ℕ, zero, suc, ◌+◌, ◌-◌, ◌≤◌, ◌⊎◌, inl, inr, List, [], ◌∷◌, ◌++◌, length, replicate, drop, refl, ap, sym, ◌∙◌, subst, Bool, true, false, Option, Some, None, if◌then◌else◌, nat_lt, nat_le, ◌==◌, arith}
use Rattle.std.proofs.lemmas.Bool.Decides.{nat_tests}
use Rattle.qc_base.specs.RangeSet.{Member}
use Rattle.qc_base.specs.declared.range_set.NumberRange.{NumberRange}
use Rattle.qc_base.specs.declared.side.SpaceId.{SpaceId}
use Rattle.qc_base.specs.declared.side.SpaceId.TheVariants.{Initial, Handshake, «Data»}
use Rattle.qc_frame.specs.Frame.{FrameValue, AckValue}
use Rattle.qc_frame.specs.AckRanges.{Acknowledges}
use Rattle.qc_frame.specs.declared.frames.FrameOf.TheVariants as frames
use Rattle.qc_frame.proofs.RangesUp.{reverse_member}
use Rattle.qc_flight.specs.Packets.{Entry}
use Rattle.qc_path.specs.AckRanges.{from_number, raised_to, with_number}
use Rattle.qc_path.specs.Acks.{PendingValues, acks_confirmed, acks_received}
use Rattle.qc_base.specs.Time.{plus}
use Rattle.qc_path.specs.Arrived.{Window}
use Rattle.qc_path.specs.declared.pending_acks.Arrival.{Arrival}
use Rattle.qc_state.specs.declared.form.Form.{Form}
use Rattle.qc_state.specs.Forms.{number_space}
use Rattle.qc_state.specs.Acks.{AckPart, SaysAck}
use Rattle.qc_state.specs.declared.deeds.Did.{Did}
use Rattle.qc_state.specs.declared.deeds.Did.TheVariants as did
use Rattle.qc_state.specs.declared.life.Close.{Close}
use Rattle.qc_state.specs.declared.life.Close.TheVariants.{Connection, Application}
use Rattle.qc_state.specs.declared.waiting.SpaceWaiting.{SpaceWaiting}
use Rattle.qc_state.specs.Headline.{KnownBehind, AcksOnly, SealsKnown, AcksKnown, IsKept}
use Rattle.qc_state.specs.Life.{is_closed}
use Rattle.qc_state.specs.Sending.{Carries, Closes, application_close, close_frame, closing_frame, told_close}
use Rattle.qc_state.specs.Spaces.{space_of}
use Rattle.qc_state.specs.Types.{TokenMaker, Types}
use Rattle.qc_state.specs.View.{View}
use Rattle.qc_state.specs.Waiting.{without, without_all, again, all_again, lost_in, confirmed, all_confirmed, acked_in}
use Rattle.qc_state.specs.Allowed.{Waits, WaitAll}
use Rattle.qc_state.specs.Moves.{Take, state_move}
use Rattle.qc_state.proofs.Probed.{taken_space}

-- ---- one number more among those to acknowledge

-- what is in the rest of a list of ranges is in the list
dropped : (count k : ℕ) (rs : List NumberRange) → Member k (drop count rs) → Member k rs
dropped zero k rs m = m
dropped (suc count) k [] m = m
dropped (suc count) k (r ∷ rs) m = inr (dropped count k rs m)

-- a range that is raised by a number has that number and those of before
raised_has : (n k : ℕ) (r : NumberRange) (rs : List NumberRange) → n ≡ r.last + 1 → Member k (raised_to n r rs) → (n ≡ k) ⊎ Member k (r ∷ rs)
raised_has n k r rs at m = raised_by rs m
  where
    by_place : (qs : List NumberRange) (low : r.first ≤ k) (high : k ≤ n) (b : Bool) → nat_le k r.last ≡ b → (n ≡ k) ⊎ Member k (r ∷ qs)
    by_place qs low high true t = inr (inl (low, grind (arith, nat_tests)))
    by_place qs low high false t = inl (grind (arith, nat_tests))

    joined_by : (q : NumberRange) (qs : List NumberRange) → q.first ≡ n + 1 → r.first ≤ k → k ≤ q.last → (b : Bool) → nat_le k n ≡ b → (n ≡ k) ⊎ Member k (r ∷ q ∷ qs)
    joined_by q qs next low high true t = by_place (q ∷ qs) low (grind (arith, nat_tests)) (nat_le k r.last) refl
    joined_by q qs next low high false t = inr (inr (inl (grind (arith, nat_tests), high)))

    next_by : (q : NumberRange) (qs : List NumberRange) (b : Bool) → (q.first == n + 1) ≡ b →
        Member k (if b then record { first = r.first; last = q.last } ∷ qs else record { first = r.first; last = n } ∷ q ∷ qs) → (n ≡ k) ⊎ Member k (r ∷ q ∷ qs)
    next_by q qs true t (inl here) = joined_by q qs (grind (arith, nat_tests)) here.0 here.1 (nat_le k n) refl
    next_by q qs true t (inr there) = inr (inr (inr there))
    next_by q qs false t (inl here) = by_place (q ∷ qs) here.0 here.1 (nat_le k r.last) refl
    next_by q qs false t (inr there) = inr (inr there)

    raised_by : (qs : List NumberRange) → Member k (raised_to n r qs) → (n ≡ k) ⊎ Member k (r ∷ qs)
    raised_by [] (inl here) = by_place [] here.0 here.1 (nat_le k r.last) refl
    raised_by [] (inr there) = absurd there
    raised_by (q ∷ qs) m = next_by q qs (q.first == n + 1) refl m

-- ranges with one number more have that number and those of before
with_has : (n k : ℕ) (rs : List NumberRange) → Member k (with_number n rs) → (n ≡ k) ⊎ Member k rs
with_has n k [] (inl here) = let low = here.0 in let high = here.1 in inl (omega arith)
with_has n k [] (inr there) = absurd there
with_has n k (r ∷ rs) m = by_order (with_has n k rs) (nat_lt (r.last + 1) n) (n == r.last + 1) (nat_le r.first n) (n + 1 == r.first) refl refl refl refl m
  where
    behind : (n ≡ k) ⊎ Member k rs → (n ≡ k) ⊎ Member k (r ∷ rs)
    behind (inl is) = inl is
    behind (inr there) = inr (inr there)

    lowered : n + 1 ≡ r.first → n ≤ k → k ≤ r.last → (b : Bool) → nat_le k n ≡ b → (n ≡ k) ⊎ Member k (r ∷ rs)
    lowered next low high true t = inl (grind (arith, nat_tests))
    lowered next low high false t = inr (inl (grind (arith, nat_tests), high))

    by_order : (Member k (with_number n rs) → (n ≡ k) ⊎ Member k rs) → (a b c d : Bool) → nat_lt (r.last + 1) n ≡ a → (n == r.last + 1) ≡ b → nat_le r.first n ≡ c → (n + 1 == r.first) ≡ d →
        Member k (if a then r ∷ with_number n rs else if b then raised_to n r rs else if c then r ∷ rs else if d then record { first = n; last = r.last } ∷ rs else record { first = n; last = n } ∷ r ∷ rs) →
        (n ≡ k) ⊎ Member k (r ∷ rs)
    by_order rest true b c d p q s t (inl here) = inr (inl here)
    by_order rest true b c d p q s t (inr there) = behind (rest there)
    by_order rest false true c d p q s t m = raised_has n k r rs (grind (arith, nat_tests)) m
    by_order rest false false true d p q s t m = inr m
    by_order rest false false false true p q s t (inl here) = lowered (grind (arith, nat_tests)) here.0 here.1 (nat_le k n) refl
    by_order rest false false false true p q s t (inr there) = inr (inr there)
    by_order rest false false false false p q s t (inl here) = let low = here.0 in let high = here.1 in inl (omega arith)
    by_order rest false false false false p q s t (inr there) = inr there

-- a number that is kept once a packet came is that of the packet, or was kept before
pub received_has : (in_data : Bool) (seen : Window) (p : Arrival) (v : PendingValues) (k : ℕ) → Member k (acks_received in_data seen p v).ranges → (p.number ≡ k) ⊎ Member k v.ranges
unfolding acks_received
received_has in_data seen p v k m = with_has p.number k v.ranges (dropped (length (with_number p.number v.ranges) - 64) k (with_number p.number v.ranges) m)

-- ---- fewer numbers to acknowledge

-- the numbers from one on were kept before
from_had : (n k : ℕ) (rs : List NumberRange) → Member k (from_number n rs) → Member k rs
from_had n k [] m = m
from_had n k (r ∷ rs) m = by_place (from_had n k rs) (nat_lt r.last n) (nat_lt r.first n) refl m
  where
    by_place : (Member k (from_number n rs) → Member k rs) → (a b : Bool) → nat_lt r.first n ≡ b → Member k (if a then from_number n rs else if b then record { first = n; last = r.last } ∷ rs else r ∷ rs) → Member k (r ∷ rs)
    by_place rest true b q m = inr (rest m)
    by_place rest false true q (inl here) = let low = here.0 in inl (grind (arith, nat_tests), here.1)
    by_place rest false true q (inr there) = inr there
    by_place rest false false q m = m

-- what is kept once an acknowledgement of this end's was acknowledged was kept before
confirmed_had : (k : ℕ) (w : SpaceWaiting) (f : FrameValue) → Member k (confirmed w f).acks.ranges → Member k w.acks.ranges
unfolding acks_confirmed
confirmed_had k w (frames.Ack ack) m = from_had (plus ack.largest 1) k w.acks.ranges m
confirmed_had k w _ m = m

all_confirmed_had : (k : ℕ) (w : SpaceWaiting) (fs : List FrameValue) → Member k (all_confirmed w fs).acks.ranges → Member k w.acks.ranges
all_confirmed_had k w [] m = m
all_confirmed_had k w (f ∷ fs) m = confirmed_had k w f (all_confirmed_had k (confirmed w f) fs m)

-- so it is with packets
pub acked_had : (k : ℕ) (w : SpaceWaiting) (es : List Entry) → Member k (acked_in w es).acks.ranges → Member k w.acks.ranges
acked_had k w [] m = m
acked_had k w (e ∷ es) m = all_confirmed_had k w e.1.frames (acked_had k (all_confirmed w e.1.frames) es m)

-- frames that wait again leave the numbers to acknowledge
again_keeps : (w : SpaceWaiting) (f : FrameValue) → (again w f).acks ≡ w.acks
again_keeps w frames.HandshakeDone = refl
again_keeps w (frames.Crypto offset body) = refl
again_keeps w _ = refl

pub all_again_keeps : (w : SpaceWaiting) (fs : List FrameValue) → (all_again w fs).acks ≡ w.acks
all_again_keeps w [] = refl
all_again_keeps w (f ∷ fs) = all_again_keeps (again w f) fs ∙ again_keeps w f

-- so do lost packets
pub lost_keeps : (w : SpaceWaiting) (es : List Entry) → (lost_in w es).acks ≡ w.acks
lost_keeps w [] = refl
lost_keeps w (e ∷ es) = lost_keeps (all_again w e.1.frames) es ∙ all_again_keeps w e.1.frames

-- ---- what is known behind deeds

-- the numbers that are known behind deeds
abbrev pub KnownSince : SpaceId → (ℕ → Type 0) → List Did → ℕ → Type 0
KnownSince id Known [] n = Known n
KnownSince id Known (d ∷ ds) n = KnownSince id (KnownBehind id Known d) ds n

-- where more is known, more is known behind a deed
behind_more : (id : SpaceId) (K L : ℕ → Type 0) → ((n : ℕ) → K n → L n) → (d : Did) (n : ℕ) → KnownBehind id K d n → KnownBehind id L d n
behind_more id K L more (did.Piece space number v) n (inl is) = inl is
behind_more id K L more (did.Piece space number v) n (inr known) = inr (more n known)
behind_more id K L more (did.Gave layer body) n known = more n known
behind_more id K L more (did.Sealed space number epoch early fs) n known = more n known
behind_more id K L more (did.Rose life) n known = more n known
behind_more id K L more (did.Lost why) n known = more n known
behind_more id K L more (did.Quiet why) n known = more n known

-- where more is known, an ACK that acknowledges known numbers does so still
pub only_more : (K L : ℕ → Type 0) → ((n : ℕ) → K n → L n) → (fs : List FrameValue) → AcksOnly K fs → AcksOnly L fs
only_more K L more [] h = tt
only_more K L more (frames.Ack ack ∷ fs) h = ((λ n m. more n (h.0 n m)), only_more K L more fs h.1)
only_more K L more (_ ∷ fs) h = only_more K L more fs h

-- and so does a packet that is sealed
seals_more : (id : SpaceId) (K L : ℕ → Type 0) → ((n : ℕ) → K n → L n) → (d : Did) → SealsKnown id K d → SealsKnown id L d
seals_more id K L more (did.Piece space number v) h = tt
seals_more id K L more (did.Gave layer body) h = tt
seals_more id K L more (did.Sealed space number epoch early fs) h = λ same. only_more K L more fs (h same)
seals_more id K L more (did.Rose life) h = tt
seals_more id K L more (did.Lost why) h = tt
seals_more id K L more (did.Quiet why) h = tt

-- and so do the packets of all deeds
pub known_more : (id : SpaceId) (K L : ℕ → Type 0) → ((n : ℕ) → K n → L n) → (ds : List Did) → AcksKnown id K ds → AcksKnown id L ds
known_more id K L more [] h = tt
known_more id K L more (d ∷ ds) h = (seals_more id K L more d h.0, known_more id (KnownBehind id K d) (KnownBehind id L d) (behind_more id K L more d) ds h.1)

-- where more is known, more is known behind deeds
pub since_more : (id : SpaceId) (K L : ℕ → Type 0) → ((n : ℕ) → K n → L n) → (ds : List Did) (n : ℕ) → KnownSince id K ds n → KnownSince id L ds n
since_more id K L more [] n known = more n known
since_more id K L more (d ∷ ds) n known = since_more id (KnownBehind id K d) (KnownBehind id L d) (behind_more id K L more d) ds n known

-- the packets of deeds that come one after the other acknowledge known numbers only
pub known_append : (id : SpaceId) (K : ℕ → Type 0) (ds es : List Did) → AcksKnown id K ds → AcksKnown id (KnownSince id K ds) es → AcksKnown id K (ds ++ es)
known_append id K [] es a b = b
known_append id K (d ∷ ds) es a b = (a.0, known_append id (KnownBehind id K d) ds es a.1 b)

-- what is known behind both is known behind them together
pub since_append : (id : SpaceId) (K : ℕ → Type 0) (ds es : List Did) (n : ℕ) → KnownSince id (KnownSince id K ds) es n → KnownSince id K (ds ++ es) n
since_append id K [] es n known = known
since_append id K (d ∷ ds) es n known = since_append id (KnownBehind id K d) ds es n known

-- ---- the frames of a packet

-- frames before others acknowledge known numbers only, where both do
only_append : (K : ℕ → Type 0) (fs gs : List FrameValue) → AcksOnly K fs → AcksOnly K gs → AcksOnly K (fs ++ gs)
only_append K [] gs a b = b
only_append K (frames.Ack ack ∷ fs) gs a b = (a.0, only_append K fs gs a.1 b)
only_append K (_ ∷ fs) gs a b = only_append K fs gs a b

-- PADDING acknowledges nothing
padding_only : (K : ℕ → Type 0) (n : ℕ) → AcksOnly K (replicate n frames.Padding)
padding_only K zero = tt
padding_only K (suc n) = padding_only K n

-- and neither does a close
application_only : (K : ℕ → Type 0) (id : SpaceId) (code : ℕ) (kept : List ℕ) → AcksOnly K (application_close id code kept ∷ [])
application_only K Initial code kept = tt
application_only K Handshake code kept = tt
application_only K Data code kept = tt

close_only : (K : ℕ → Type 0) (b : Bool) (id : SpaceId) (kept : List ℕ) (c : Option Close) → AcksOnly K ((if b then told_close id kept c else close_frame 0x00 None) ∷ [])
close_only K true id kept None = tt
close_only K true id kept (Some (Connection c)) = tt
close_only K true id kept (Some (Application c)) = application_only K id c.error_code kept
close_only K false id kept c = tt

-- the ACK of a space acknowledges what is kept there
says_known : (time : ℕ) (w : SpaceWaiting) (ack : AckValue) → SaysAck time w ack → (n : ℕ) → Acknowledges ack n → Member n w.acks.ranges
says_known time w ack says n m = reverse_member n w.acks.ranges (subst (Member n) says.ranges m)

-- where there is none, nothing is acknowledged
part_known : (time : ℕ) (w : SpaceWaiting) (room : ℕ) (acks : List FrameValue) (b : Bool) → AckPart time w room acks b → AcksOnly (λ n. Member n w.acks.ranges) acks
part_known time w room acks true (AckPart.one ack says fits is) = subst (AcksOnly (λ n. Member n w.acks.ranges)) (sym is) (says_known time w ack says, tt)
part_known time w room acks true (AckPart.left_out ack says long is) = subst (AcksOnly (λ n. Member n w.acks.ranges)) (sym is) tt
part_known time w room acks false (AckPart.none is) = subst (AcksOnly (λ n. Member n w.acks.ranges)) (sym is) tt

-- frames that are sealed leave the numbers to acknowledge
without_keeps : (w : SpaceWaiting) (f : FrameValue) → (without w f).acks.ranges ≡ w.acks.ranges
unfolding without
without_keeps w frames.Ping = refl
without_keeps w (frames.Ack ack) = refl
without_keeps w (frames.Crypto offset body) = refl
without_keeps w _ = refl

-- all of them do
pub without_all_keeps : (w : SpaceWaiting) (fs : List FrameValue) → (without_all w fs).acks.ranges ≡ w.acks.ranges
unfolding without_all
without_all_keeps w [] = refl
without_all_keeps w (f ∷ fs) = without_all_keeps (without w f) fs ∙ without_keeps w f

-- frames with PADDING behind them acknowledge no more
padded_known : (K : ℕ → Type 0) (n : ℕ) (fs gs : List FrameValue) → fs ≡ gs ++ replicate n frames.Padding → AcksOnly K gs → AcksOnly K fs
padded_known K n fs gs is known = subst (AcksOnly K) (sym is) (only_append K gs (replicate n frames.Padding) known (padding_only K n))

module _ {t : Types} where
  -- an ACK and a close behind it acknowledge what is kept in their space
  closes_known : (time : ℕ) (s : View t) (id : SpaceId) (room : ℕ) (gs : List FrameValue) → Closes time s id room gs → AcksOnly (IsKept id s.waiting) gs
  closes_known time s id room gs (Closes.closing acks part kept fits is) =
      let w : SpaceWaiting = space_of s.waiting.spaces id in
      let K : ℕ → Type 0 = λ k. Member k w.acks.ranges in
      subst (AcksOnly K) (sym is) (only_append K acks (closing_frame id kept s.life ∷ []) (part_known time w _ acks _ part) (close_only K (is_closed s.life.state) id kept s.life.close))

module _ {t : Types} (maker : TokenMaker t) where
  -- a frame that waits in a space acknowledges what is kept there
  first_known : (time : ℕ) (s : View t) (id : SpaceId) (f : FrameValue) (fs : List FrameValue) → Waits maker time s id f → AcksOnly (IsKept id s.waiting) fs → AcksOnly (IsKept id s.waiting) (f ∷ fs)
  unfolding Waits
  first_known time s id (frames.Ack ack) fs wait behind = (says_known time (space_of s.waiting.spaces id) ack wait.1, behind)
  first_known time s id _ fs wait behind = behind

  -- so do the frames that wait
  wait_known : (time : ℕ) (s : View t) (id : SpaceId) (fs : List FrameValue) → WaitAll maker time s id fs → AcksOnly (IsKept id s.waiting) fs
  unfolding WaitAll
  wait_known time s id [] h = tt
  wait_known time s id (f ∷ fs) h =
      let v : View t = state_move (Take id (f ∷ [])) s in
      let same : (space_of v.waiting.spaces id).acks.ranges ≡ (space_of s.waiting.spaces id).acks.ranges =
      ap (λ (w : SpaceWaiting). w.acks.ranges) (taken_space id f s) ∙ without_keeps (space_of s.waiting.spaces id) f in
      first_known time s id f fs h.0 (only_more (IsKept id v.waiting) (IsKept id s.waiting) (λ n. subst (Member n) same) fs (wait_known time v id fs h.1))

  -- what a packet carries acknowledges what is kept in its space
  pub carries_known : (closing : Bool) (time : ℕ) (s : View t) (form : Form) (room : ℕ) (fs : List FrameValue) → Carries maker closing time s form room fs → AcksOnly (IsKept (number_space form) s.waiting) fs
  carries_known closing time s form room fs (Carries.a_close owed gs n closes is) =
      padded_known (IsKept (number_space form) s.waiting) n fs gs is (closes_known time s (number_space form) room gs closes)
  carries_known closing time s form room fs (Carries.what_waits free gs n wait is) =
      padded_known (IsKept (number_space form) s.waiting) n fs gs is (wait_known time s (number_space form) gs wait)

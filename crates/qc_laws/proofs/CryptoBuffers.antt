-- The bytes of a CRYPTO stream as they are written, sealed and lost: which of them are kept, and which wait.
use Rattle.std.proofs.Common.{◌≡◌, ℕ, suc, ◌+◌, ◌<◌, ◌≤◌, List, [], ◌∷◌, ◌++◌, length, refl, ap, sym, ◌∙◌, subst, Bool, true, false, if◌then◌else◌, nat_lt, nat_le, ◌==◌, arith}
use Rattle.std.specs.Prelude.{◌&&◌, ◌||◌, min, max}
use Rattle.std.specs.List.{list_any}
use Rattle.std.proofs.lemmas.Bool.Decides.{nat_tests}
use Rattle.std.proofs.lemmas.List.Folds.{list_any-append}
use Rattle.qc_flight.specs.Packets.{Entry}
use Rattle.qc_frame.specs.Frame.{FrameValue}
use Rattle.qc_frame.specs.declared.frames.FrameOf.TheVariants as frames
use Rattle.qc_send_stream.specs.Buffer.{Buffer, Kept, bytes_written, lies_in, marked, range_lost, range_sealed, row, sent_with}
use Rattle.qc_state.specs.declared.waiting.SpaceWaiting.{SpaceWaiting}
use Rattle.qc_laws.specs.CryptoLaws.{BytesHold, carries, is_awaited, is_carried, is_kept, is_lost}
use Rattle.qc_state.specs.Flight.{kept_frames, kept_of}
use Rattle.qc_state.specs.Waiting.{again, all_again, crypto_more, lost_in, without, without_all}

-- ---- tests

pub or_left : (a b : Bool) → a ≡ true → (a || b) ≡ true
or_left true b h = refl
or_left false b h = cc

pub or_right : (a b : Bool) → b ≡ true → (a || b) ≡ true
or_right true b h = refl
or_right false b h = h

pub or_either : (a b c : Bool) → (a ≡ true → c ≡ true) → (b ≡ true → c ≡ true) → (a || b) ≡ true → c ≡ true
or_either true b c f g h = f refl
or_either false b c f g h = g h

pub or_more : (a b c d : Bool) → (a ≡ true → c ≡ true) → (b ≡ true → d ≡ true) → (a || b) ≡ true → (c || d) ≡ true
or_more a b c d f g h = or_either a b (c || d) (λ x. or_left c d (f x)) (λ y. or_right c d (g y)) h

both : (a b : Bool) → a ≡ true → b ≡ true → (a && b) ≡ true
both true true h k = refl
both true false h k = cc
both false b h k = cc

-- ---- bytes that are kept

module _ (o : ℕ) where
  -- marks leave where a byte stands
  mark_place : (lost : Bool) (k : Kept) (b : Bool) → ((if b then record k { lost = lost } else k).offset == o) ≡ (k.offset == o)
  mark_place lost k true = refl
  mark_place lost k false = refl

  pub marked_kept : (lost : Bool) (start end : ℕ) (ks : List Kept) → is_kept o (marked lost start end ks) ≡ is_kept o ks
  unfolding marked
  marked_kept lost start end [] = refl
  marked_kept lost start end (k ∷ ks) = λ i. mark_place lost k (lies_in start end k) i || marked_kept lost start end ks i

  -- bytes that are marked as lost: those of before, and those of the range
  lost_head : (k : Kept) (b : Bool) → ((k.offset == o) && k.lost) ≡ true → let j : Kept = if b then record k { lost = true } else k in ((j.offset == o) && j.lost) ≡ true
  lost_head k true h = both (k.offset == o) true (and_first (k.offset == o) k.lost h) refl
    where
      and_first : (a b : Bool) → (a && b) ≡ true → a ≡ true
      and_first true b h = refl
      and_first false b h = cc
  lost_head k false h = h

  lost_more : (start end : ℕ) (ks : List Kept) → is_lost o ks ≡ true → is_lost o (marked true start end ks) ≡ true
  unfolding marked
  lost_more start end [] h = h
  lost_more start end (k ∷ ks) h = or_more ((k.offset == o) && k.lost) (is_lost o ks) _ _ (lost_head k (lies_in start end k)) (lost_more start end ks) h

  range_head : (k : Kept) (b : Bool) → (k.offset == o) ≡ true → b ≡ true → let j : Kept = if b then record k { lost = true } else k in ((j.offset == o) && j.lost) ≡ true
  range_head k true h is = both (k.offset == o) true h refl
  range_head k false h is = cc

  lies_here : (start end : ℕ) (k : Kept) → (k.offset == o) ≡ true → start ≤ o → o < end → lies_in start end k ≡ true
  unfolding lies_in
  lies_here start end k h low high = both (nat_le start k.offset) (nat_lt k.offset end) (grind (arith, nat_tests)) (grind (arith, nat_tests))

  pub lost_there : (start end : ℕ) (ks : List Kept) → start ≤ o → o < end → is_kept o ks ≡ true → is_lost o (marked true start end ks) ≡ true
  unfolding marked
  lost_there start end [] low high h = h
  lost_there start end (k ∷ ks) low high h = or_more (k.offset == o) (is_kept o ks) _ _ (λ e. range_head k (lies_in start end k) e (lies_here start end k e low high)) (lost_there start end ks low high) h

  -- bytes outside of a range that is sealed stay as they were
  outside_head : (k : Kept) (b : Bool) → ((k.offset == o) && k.lost) ≡ true → b ≡ false → let j : Kept = if b then record k { lost = false } else k in ((j.offset == o) && j.lost) ≡ true
  outside_head k true h is = cc
  outside_head k false h is = h

  place_of : (k : Kept) → ((k.offset == o) && k.lost) ≡ true → (k.offset == o) ≡ true
  place_of k h = first_of (k.offset == o) k.lost h
    where
      first_of : (a b : Bool) → (a && b) ≡ true → a ≡ true
      first_of true b h = refl
      first_of false b h = cc

  pub lies_not : (start end : ℕ) (k : Kept) → (k.offset == o) ≡ true → (nat_le start o && nat_lt o end) ≡ false → lies_in start end k ≡ false
  unfolding lies_in
  lies_not start end k h out = let same : k.offset ≡ o = grind (arith, nat_tests) in subst (λ (n : ℕ). (nat_le start n && nat_lt n end) ≡ false) (sym same) out

  lost_outside : (start end : ℕ) (ks : List Kept) → (nat_le start o && nat_lt o end) ≡ false → is_lost o ks ≡ true → is_lost o (marked false start end ks) ≡ true
  unfolding marked
  lost_outside start end [] out h = h
  lost_outside start end (k ∷ ks) out h =
      or_more ((k.offset == o) && k.lost) (is_lost o ks) _ _ (λ e. outside_head k (lies_in start end k) e (lies_not start end k (place_of k e) out)) (lost_outside start end ks out) h

  -- bytes in a row
  pub row_has : (start : ℕ) (bs : List ℕ) → start ≤ o → o < start + length bs → is_kept o (row false start bs) ≡ true
  unfolding row
  row_has start [] low high = absurd (omega (arith, low, high))
  row_has start (b ∷ bs) low high = row_by (start == o) refl (λ later. row_has (suc start) bs later (omega (arith, high)))
    where
      row_by : (c : Bool) → (start == o) ≡ c → (suc start ≤ o → is_kept o (row false (suc start) bs) ≡ true) → ((start == o) || is_kept o (row false (suc start) bs)) ≡ true
      row_by true is rest = or_left (start == o) _ is
      row_by false is rest = or_right (start == o) _ (rest (grind (arith, nat_tests)))

-- ---- streams

-- from one stream to another nothing was written nor sealed, and whatever waited waits still
pub record More (b c : Buffer) : Type 0 where
  pub written : c.written ≡ b.written
  pub sent : c.sent ≡ b.sent
  pub kept : (o : ℕ) → is_kept o b.kept ≡ true → is_kept o c.kept ≡ true
  pub lost : (o : ℕ) → is_lost o b.kept ≡ true → is_lost o c.kept ≡ true

pub more_here : (b : Buffer) → More b b
more_here b = record { written = refl; sent = refl; kept = λ o h. h; lost = λ o h. h }

pub more_same : (b c : Buffer) → c ≡ b → More b c
more_same b c is = subst (λ (x : Buffer). More b x) (sym is) (more_here b)

pub more_next : (a b c : Buffer) → More a b → More b c → More a c
more_next a b c g h = record { written = h.written ∙ g.written; sent = h.sent ∙ g.sent; kept = λ o x. h.kept o (g.kept o x); lost = λ o x. h.lost o (g.lost o x) }

-- what waited waits
pub more_awaited : (b c : Buffer) → More b c → (o : ℕ) → is_awaited o b ≡ true → is_awaited o c ≡ true
more_awaited b c h o = or_more (nat_le b.sent o) (is_lost o b.kept) (nat_le c.sent o) (is_lost o c.kept) (λ e. ap (λ (n : ℕ). nat_le n o) h.sent ∙ e) (h.lost o)

pub lost_grows : (start end : ℕ) (b : Buffer) → More b (range_lost start end b)
unfolding range_lost
lost_grows start end b = record { written = refl; sent = refl; kept = λ o h. marked_kept o true start (min end b.sent) b.kept ∙ h; lost = λ o h. lost_more o start (min end b.sent) b.kept h }

-- ---- frames that wait again

again_more : (w : SpaceWaiting) (f : FrameValue) → More w.crypto (again w f).crypto
again_more w frames.HandshakeDone = more_here w.crypto
again_more w (frames.Crypto offset body) = lost_grows offset (offset + length body) w.crypto
again_more w _ = more_here w.crypto

pub all_again_more : (w : SpaceWaiting) (fs : List FrameValue) → More w.crypto (all_again w fs).crypto
all_again_more w [] = more_here w.crypto
all_again_more w (f ∷ fs) = more_next w.crypto (again w f).crypto _ (again_more w f) (all_again_more (again w f) fs)

pub lost_in_more : (w : SpaceWaiting) (es : List Entry) → More w.crypto (lost_in w es).crypto
lost_in_more w [] = more_here w.crypto
lost_in_more w (e ∷ es) = more_next w.crypto (all_again w e.1.frames).crypto _ (all_again_more w e.1.frames) (lost_in_more (all_again w e.1.frames) es)

-- a byte that a lost frame had waits
again_awaited : (o : ℕ) (w : SpaceWaiting) (f : FrameValue) → is_kept o w.crypto.kept ≡ true → carries o f ≡ true → is_awaited o (again w f).crypto ≡ true
unfolding range_lost
again_awaited o w (frames.Crypto offset body) kept h = by_place (nat_le w.crypto.sent o) refl
  where
    b : Buffer
    b = w.crypto

    by_place : (c : Bool) → nat_le w.crypto.sent o ≡ c → (nat_le w.crypto.sent o || is_lost o (marked true offset (min (offset + length body) w.crypto.sent) w.crypto.kept)) ≡ true
    by_place true is = or_left (nat_le w.crypto.sent o) _ is
    by_place false is = or_right (nat_le w.crypto.sent o) _ (lost_there o offset (min (offset + length body) w.crypto.sent) w.crypto.kept (grind (arith, nat_tests)) (grind (arith, nat_tests)) kept)
again_awaited o w _ kept h = cc

pub all_again_awaited : (o : ℕ) (w : SpaceWaiting) (fs : List FrameValue) → is_kept o w.crypto.kept ≡ true → list_any (carries o) fs ≡ true → is_awaited o (all_again w fs).crypto ≡ true
all_again_awaited o w [] kept h = cc
all_again_awaited o w (f ∷ fs) kept h =
    or_either (carries o f) (list_any (carries o) fs) _
    (λ e. more_awaited (again w f).crypto _ (all_again_more (again w f) fs) o (again_awaited o w f kept e))
    (λ e. all_again_awaited o (again w f) fs ((again_more w f).kept o kept) e) h

pub lost_in_awaited : (o : ℕ) (w : SpaceWaiting) (es : List Entry) → is_kept o w.crypto.kept ≡ true → is_carried o es ≡ true → is_awaited o (lost_in w es).crypto ≡ true
lost_in_awaited o w [] kept h = cc
lost_in_awaited o w (e ∷ es) kept h =
    or_either (list_any (carries o) e.1.frames) (is_carried o es) _
    (λ x. more_awaited (all_again w e.1.frames).crypto _ (lost_in_more (all_again w e.1.frames) es) o (all_again_awaited o w e.1.frames kept x))
    (λ x. lost_in_awaited o (all_again w e.1.frames) es ((all_again_more w e.1.frames).kept o kept) x) h

-- where all that was sealed is lost, each byte that is kept waits
pub all_lost_awaited : (o : ℕ) (b : Buffer) → is_kept o b.kept ≡ true → is_awaited o (range_lost 0 b.sent b) ≡ true
unfolding range_lost
all_lost_awaited o b kept = by_place (nat_le b.sent o) refl
  where
    by_place : (c : Bool) → nat_le b.sent o ≡ c → (nat_le b.sent o || is_lost o (marked true 0 (min b.sent b.sent) b.kept)) ≡ true
    by_place true is = or_left (nat_le b.sent o) _ is
    by_place false is = or_right (nat_le b.sent o) _ (lost_there o 0 (min b.sent b.sent) b.kept (omega arith) (grind (arith, nat_tests)) kept)

-- ---- frames that are sealed

pub sent_grown : (start end : ℕ) (b : Buffer) → b.sent ≤ b.written → sent_with start end b.sent b.written ≤ b.written
unfolding sent_with
sent_grown start end b h = by_start (nat_le start b.sent)
  where
    by_start : (c : Bool) → (if c then max b.sent (min end b.written) else b.sent) ≤ b.written
    by_start true = omega (arith, h)
    by_start false = h

-- a byte that waited waits, or lies in the range that was sealed
pub sealed_awaited : (o start end : ℕ) (b : Buffer) → is_awaited o b ≡ true → (is_awaited o (range_sealed start end b) || (nat_le start o && nat_lt o end)) ≡ true
unfolding range_sealed sent_with
sealed_awaited o start end b h = by_place (nat_le start o && nat_lt o end) refl
  where
    fresh_by : (c : Bool) → nat_le start b.sent ≡ c → (nat_le start o && nat_lt o end) ≡ false → nat_le b.sent o ≡ true → nat_le (if c then max b.sent (min end b.written) else b.sent) o ≡ true
    fresh_by true is out fresh = grind (arith, nat_tests)
    fresh_by false is out fresh = fresh

    by_place : (c : Bool) → (nat_le start o && nat_lt o end) ≡ c →
        ((nat_le (if nat_le start b.sent then max b.sent (min end b.written) else b.sent) o || is_lost o (marked false start end b.kept)) || (nat_le start o && nat_lt o end)) ≡ true
    by_place true is = or_right _ (nat_le start o && nat_lt o end) is
    by_place false is = or_left _ (nat_le start o && nat_lt o end)
        (or_more (nat_le b.sent o) (is_lost o b.kept) _ _ (fresh_by (nat_le start b.sent) refl is) (lost_outside o start end b.kept is) h)

-- what is kept of sealed frames has their bytes
kept_has : (o : ℕ) (f : FrameValue) → carries o f ≡ true → list_any (carries o) (kept_of f) ≡ true
kept_has o frames.HandshakeDone h = cc
kept_has o (frames.Crypto offset body) h = or_left _ false h
kept_has o (frames.Ack ack) h = cc
kept_has o _ h = cc

pub all_kept_has : (o : ℕ) (fs : List FrameValue) → list_any (carries o) fs ≡ true → list_any (carries o) (kept_frames fs) ≡ true
all_kept_has o [] h = h
all_kept_has o (f ∷ fs) h = list_any-append (carries o) (kept_of f) (kept_frames fs) ∙ or_more (carries o f) (list_any (carries o) fs) _ _ (kept_has o f) (all_kept_has o fs) h

without_awaited : (o : ℕ) (w : SpaceWaiting) (f : FrameValue) → is_awaited o w.crypto ≡ true → (is_awaited o (without w f).crypto || carries o f) ≡ true
unfolding without
without_awaited o w frames.HandshakeDone h = or_left _ false h
without_awaited o w frames.Ping h = or_left _ false h
without_awaited o w (frames.Ack ack) h = or_left _ false h
without_awaited o w (frames.Crypto offset body) h = sealed_awaited o offset (offset + length body) w.crypto h
without_awaited o w _ h = or_left _ false h

-- what stays of a stream whose frames are sealed
pub record Stays (b c : Buffer) : Type 0 where
  pub written : c.written ≡ b.written
  pub sent : b.sent ≤ b.written → c.sent ≤ c.written
  pub kept : (o : ℕ) → is_kept o c.kept ≡ is_kept o b.kept

stays_here : (b : Buffer) → Stays b b
stays_here b = record { written = refl; sent = λ h. h; kept = λ o. refl }

stays_next : (a b c : Buffer) → Stays a b → Stays b c → Stays a c
stays_next a b c g h = record { written = h.written ∙ g.written; sent = λ x. h.sent (g.sent x); kept = λ o. h.kept o ∙ g.kept o }

sealed_stays : (start end : ℕ) (b : Buffer) → Stays b (range_sealed start end b)
unfolding range_sealed
sealed_stays start end b = record { written = refl; sent = sent_grown start end b; kept = λ o. marked_kept o false start end b.kept }

without_stays : (w : SpaceWaiting) (f : FrameValue) → Stays w.crypto (without w f).crypto
unfolding without
without_stays w frames.HandshakeDone = stays_here w.crypto
without_stays w frames.Ping = stays_here w.crypto
without_stays w (frames.Ack ack) = stays_here w.crypto
without_stays w (frames.Crypto offset body) = sealed_stays offset (offset + length body) w.crypto
without_stays w _ = stays_here w.crypto

pub all_stays : (w : SpaceWaiting) (fs : List FrameValue) → Stays w.crypto (without_all w fs).crypto
unfolding without_all
all_stays w [] = stays_here w.crypto
all_stays w (f ∷ fs) = stays_next w.crypto (without w f).crypto _ (without_stays w f) (all_stays (without w f) fs)

pub all_awaited : (o : ℕ) (w : SpaceWaiting) (fs : List FrameValue) → is_awaited o w.crypto ≡ true → (is_awaited o (without_all w fs).crypto || list_any (carries o) fs) ≡ true
unfolding without_all
all_awaited o w [] h = or_left _ false h
all_awaited o w (f ∷ fs) h =
    or_either (is_awaited o (without w f).crypto) (carries o f) _
    (λ e. or_either _ (list_any (carries o) fs) _ (λ x. or_left _ _ x) (λ x. or_right _ _ (or_right (carries o f) _ x)) (all_awaited o (without w f) fs e))
    (λ e. or_right _ _ (or_left (carries o f) _ e)) (without_awaited o w f h)

-- ---- bytes that are written

pub written_holds : (b : Buffer) (bs : List ℕ) (acked flight : List Entry) → b.sent ≤ b.written → BytesHold acked b flight → BytesHold acked (bytes_written bs b) flight
unfolding bytes_written
written_holds b bs acked flight sent h = record {
  kept = λ o less. list_any-append (λ k. k.offset == o) b.kept (row false b.written bs) ∙ kept_by o less (nat_lt o b.written) refl;
  bytes = λ o less. bytes_by o less (nat_lt o b.written) refl;
}
  where
    kept_by : (o : ℕ) → o < b.written + length bs → (c : Bool) → nat_lt o b.written ≡ c → (is_kept o b.kept || is_kept o (row false b.written bs)) ≡ true
    kept_by o less true is = or_left _ _ (h.kept o (grind (arith, nat_tests)))
    kept_by o less false is = or_right (is_kept o b.kept) _ (row_has o b.written bs (grind (arith, nat_tests)) less)

    lost_by : (o : ℕ) → is_lost o b.kept ≡ true → is_lost o (b.kept ++ row false b.written bs) ≡ true
    lost_by o e = list_any-append (λ k. (k.offset == o) && k.lost) b.kept (row false b.written bs) ∙ or_left _ _ e

    bytes_by : (o : ℕ) → o < b.written + length bs → (c : Bool) → nat_lt o b.written ≡ c →
        ((nat_le b.sent o || is_lost o (b.kept ++ row false b.written bs)) || (is_carried o flight || is_carried o acked)) ≡ true
    bytes_by o less true is =
        or_more (nat_le b.sent o || is_lost o b.kept) (is_carried o flight || is_carried o acked) _ _ (or_more (nat_le b.sent o) (is_lost o b.kept) _ _ (λ e. e) (lost_by o)) (λ e. e) (h.bytes o (grind (arith, nat_tests)))
    bytes_by o less false is =
        let fresh : nat_le b.sent o ≡ true = grind (arith, nat_tests) in
        or_left (nat_le b.sent o || is_lost o (b.kept ++ row false b.written bs)) _ (or_left (nat_le b.sent o) _ fresh)

more_by : (b : Buffer) (bs : List ℕ) (acked flight : List Entry) (c : Bool) → b.sent ≤ b.written → BytesHold acked b flight → BytesHold acked (if c then bytes_written bs b else b) flight
more_by b bs acked flight true sent h = written_holds b bs acked flight sent h
more_by b bs acked flight false sent h = h

pub crypto_more_holds : (b : Buffer) (bs : List ℕ) (acked flight : List Entry) → b.sent ≤ b.written → BytesHold acked b flight → BytesHold acked (crypto_more b bs) flight
unfolding crypto_more
crypto_more_holds b bs acked flight sent h = more_by b bs acked flight _ sent h

more_sent : (b : Buffer) (bs : List ℕ) (c : Bool) → b.sent ≤ b.written → (if c then bytes_written bs b else b).sent ≤ (if c then bytes_written bs b else b).written
unfolding bytes_written
more_sent b bs true h = omega (arith, h)
more_sent b bs false h = h

pub crypto_more_sent : (b : Buffer) (bs : List ℕ) → b.sent ≤ b.written → (crypto_more b bs).sent ≤ (crypto_more b bs).written
unfolding crypto_more
crypto_more_sent b bs h = more_sent b bs _ h

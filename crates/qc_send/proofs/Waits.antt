-- The frames that this end takes wait, there is one where one waits, and they fit.
use Rattle.std.proofs.Common.{◌≡◌, ℕ, zero, suc, ◌+◌, ◌-◌, ◌≤◌, List, [], ◌∷◌, ◌++◌, length, replicate, refl, ap, sym, ◌∙◌, subst, Bool, true, false, ◌||◌, ◌⊎◌, if◌then◌else◌, Option, arith, length-append, append_assoc, append-nil, inl, inr, ◌&&◌}
use Rattle.std.proofs.lemmas.Grind.{flat_map-append}
use Rattle.qc_frame.specs.Frame.{FrameValue}
use Rattle.qc_frame.specs.FrameFits.{Fits}
use Rattle.qc_frame.specs.FrameSpelling.{elicits, spelling, frames_spelling}
use Rattle.qc_frame.specs.declared.frames.FrameOf.TheVariants.{Padding, HandshakeDone, Ping, Ack, Crypto, Stream, ResetStream, StopSending, MaxData, MaxStreamData, MaxStreams, Datagram, NewConnectionId, RetireConnectionId, NewToken}
use Rattle.qc_state.specs.Acks.{AckPart, IsLongAck, SaysAck, is_ack, is_ack_first, is_ack_given, is_ack_last, is_ack_owed}
use Rattle.qc_state.specs.Offers.{wants_sending}
use Rattle.qc_state.specs.Sending.{LacksAckRoom, holds_owed}
use Rattle.std.specs.List.{list_any}
use Rattle.qc_state.specs.declared.waiting.SpaceWaiting.{SpaceWaiting}
use Rattle.qc_state.proofs.AckLemmas.{first_gives, last_gives, owed_first, part_same, says_same}
use Rattle.qc_cids.specs.Steps as ids
use Rattle.qc_cids.specs.declared.connection_ids.ConnectionIds.{ConnectionIds}
use Rattle.qc_datagrams.specs.Steps as posts
use Rattle.qc_datagrams.specs.declared.datagrams.Datagrams.{Datagrams}
use Rattle.rand_core.specs.Stream.{Stream as Words}
use Rattle.qc_state.proofs.DatagramSteps.{taken_datagrams}
use Rattle.qc_state.proofs.IdSteps.{taken_cids}
use Rattle.qc_state.proofs.OffersTaken.{frames_sealed_append}
use Rattle.qc_state.proofs.RoomTold.{same_heard, told_twice}
use Rattle.qc_state.proofs.Issued.{behind_append, undrawn}
use Rattle.qc_state.proofs.Taken.{Beside, front_cids, front_datagrams, front_steps, front_tokens, last_counts, last_same, offered_leaves, own_issued, own_next, own_oldest, part_steps, marks_size}
use Rattle.qc_state.specs.Tokens.{AllIssued, IsIssued, behind_frame, behind_tokens, made_by}
use Rattle.std.specs.Net.Socket.{socket_ip}
use Rattle.qc_state.specs.Allowed.{Waits, WaitAll}
use Rattle.qc_state.specs.Datagrams.{AllOldest, IsOldest, sealed_datagrams, told_by_all}
use Rattle.qc_state.specs.Ids.{AllNext, IsNext, sealed_cids}
use Rattle.qc_state.specs.Lower.{datagrams_stepped, frames_sealed, ids_stepped, streams_stepped}
use Rattle.qc_state.specs.Moves.{Take, state_move, numbers_move, keys_move, life_move, paths_move, timers_move, waiting_move, setup_move, lower_move}
use Rattle.qc_state.specs.Spaces.{is_space, space_of, with_space}
use Rattle.qc_state.specs.StreamFrames.{sealed_step, sealed_steps}
use Rattle.qc_state.specs.Taking.{AreOffered, marks_part, done_part, ping_part, is_offered_frame, CryptoPart, TakenPart}
use Rattle.qc_state.specs.Types.{TokenMaker, Types}
use Rattle.qc_state.specs.View.{View}
use Rattle.qc_state.specs.Waiting.{StartsWith, without, without_all, crypto_waits, waiting_without, wants_here}
use Rattle.qc_state.specs.declared.life.Life.{Life}
use Rattle.qc_send.specs.Taking.{OwesAckAlone}
use Rattle.qc_streams.specs.Steps.{AllMay, IsSealedSo}
use Rattle.qc_streams.specs.Waits.{Step, after}
use Rattle.qc_streams.specs.declared.state.StreamsState.{StreamsState}
use Rattle.qc_state.proofs.Probed.{taken_space}
use Rattle.qc_base.specs.declared.side.SpaceId.{SpaceId}
use Rattle.qc_base.specs.declared.side.SpaceId.TheVariants.{Initial, Handshake, «Data»}

-- what waits once joined lists are sealed
pub without_all_append : (w : SpaceWaiting) (fs gs : List FrameValue) → without_all w (fs ++ gs) ≡ without_all (without_all w fs) gs
unfolding without_all
without_all_append w [] gs = refl
without_all_append w (f ∷ fs) gs = without_all_append (without w f) fs gs

-- a frame waits in the waiting group itself at a time
unfoldable Here : (time : ℕ) → (bundled : Option ℕ) → SpaceWaiting → FrameValue → Type 0
Here time bundled w HandshakeDone = w.done ≡ true
Here time bundled w Ping = w.ping ≡ true
Here time bundled w (Ack ack) = (is_ack_given time bundled w.acks ≡ true) × SaysAck time w ack
Here time bundled w (Crypto offset body) = StartsWith w.crypto offset body
Here time bundled w _ = ⊥

-- so do frames, each as its turn comes
unfoldable HereAll : (time : ℕ) → (bundled : Option ℕ) → SpaceWaiting → List FrameValue → Type 0
HereAll time bundled w [] = Unit {0}
HereAll time bundled w (f ∷ fs) = Here time bundled w f × HereAll time bundled (without w f) fs

-- joined lists wait, where the second one waits behind the first
wait_all_append : (time : ℕ) (bundled : Option ℕ) (w : SpaceWaiting) (fs gs : List FrameValue) → HereAll time bundled w fs → HereAll time bundled (without_all w fs) gs → HereAll time bundled w (fs ++ gs)
unfolding HereAll without_all
wait_all_append time bundled w [] gs a b = b
wait_all_append time bundled w (f ∷ fs) gs a b = (a.0, wait_all_append time bundled (without w f) fs gs a.1 b)

-- PADDING changes nothing of what waits
pub padding_stays : (w : SpaceWaiting) (n : ℕ) → without_all w (replicate n Padding) ≡ w
unfolding without_all without
padding_stays w zero = refl
padding_stays w (suc n) = padding_stays w n

-- PADDING behind frames changes nothing of what waits
pub without_padded : (w : SpaceWaiting) (fs : List FrameValue) (n : ℕ) → without_all w (fs ++ replicate n Padding) ≡ without_all w fs
without_padded w fs n = without_all_append w fs (replicate n Padding) ∙ padding_stays (without_all w fs) n

-- the CRYPTO frames that this end takes wait, each behind the one before
crypto_wait : (time : ℕ) (bundled : Option ℕ) (w : SpaceWaiting) (room : ℕ) (fs : List FrameValue) → CryptoPart w room fs → HereAll time bundled w fs
unfolding HereAll Here CryptoPart
crypto_wait time bundled w room [] h = tt
crypto_wait time bundled w room (Crypto offset body ∷ fs) h = (h.0, crypto_wait time bundled (without w (Crypto offset body)) _ fs h.2)
crypto_wait time bundled w room (_ ∷ fs) h = absurd h

-- the ACK waits where it is due and may be given
ack_waits : (time room : ℕ) (bundled : Option ℕ) (w : SpaceWaiting) (acks : List FrameValue) (b : Bool) → AckPart time w room acks b → (b ≡ true → is_ack_given time bundled w.acks ≡ true) → HereAll time bundled w acks
unfolding HereAll Here
ack_waits time room bundled w acks true (AckPart.one ack says fits is) h = subst (λ (x : List FrameValue). HereAll time bundled w x) (sym is) ((h refl, says), tt)
ack_waits time room bundled w acks true (AckPart.left_out ack says long is) h = subst (λ (x : List FrameValue). HereAll time bundled w x) (sym is) tt
ack_waits time room bundled w acks false (AckPart.none is) h = subst (λ (x : List FrameValue). HereAll time bundled w x) (sym is) tt

-- the one behind the other frames waits there
last_waits : (time room rest left : ℕ) (bundled : Option ℕ) (b : Bool) (w v : SpaceWaiting) (acks crypto last : List FrameValue) → w.acks ≡ v.acks → w.marks ≡ v.marks → AckPart time w room acks (is_ack_first w.acks) →
    CryptoPart (without_all v acks) rest crypto → is_ack_last time bundled w.acks ≡ b → AckPart time w left last b → HereAll time bundled (without_all (without_all v acks) crypto) last
unfolding HereAll
last_waits time room rest left bundled true w v acks crypto last same counts part bytes e bundle =
    let u : SpaceWaiting = without_all (without_all v acks) crypto in
    let before : u.acks ≡ w.acks = last_same time room rest bundled w v acks crypto same part bytes e in
    ack_waits time left bundled u last true (part_same time left w u last true (sym before) (sym (last_counts time room rest w v acks crypto (is_ack_first w.acks) counts part bytes)) bundle)
    (λ _. ap (is_ack_given time bundled) before ∙ last_gives time bundled w.acks e)
last_waits time room rest left bundled false w v acks crypto last same counts part bytes e (AckPart.none is) = subst (λ (x : List FrameValue). HereAll time bundled (without_all (without_all v acks) crypto) x) (sym is) tt

-- so it does in each space with the same numbers and counts
acks_beside : (time room : ℕ) (bundled : Option ℕ) (x w v : SpaceWaiting) (acks : List FrameValue) (b : Bool) → AckPart time x room acks b → w.acks ≡ v.acks → w.marks ≡ v.marks → HereAll time bundled w acks →
    HereAll time bundled v acks
unfolding HereAll Here
acks_beside time room bundled x w v acks true (AckPart.one ack says fits is) same marks h =
    let one = subst (λ (fs : List FrameValue). HereAll time bundled w fs) is h in
    subst (λ (fs : List FrameValue). HereAll time bundled v fs) (sym is) ((ap (is_ack_given time bundled) (sym same) ∙ one.0.0, says_same time w v ack same marks one.0.1), tt)
acks_beside time room bundled x w v acks true (AckPart.left_out ack says long is) same marks h = subst (λ (fs : List FrameValue). HereAll time bundled v fs) (sym is) tt
acks_beside time room bundled x w v acks false (AckPart.none is) same marks h = subst (λ (fs : List FrameValue). HereAll time bundled v fs) (sym is) tt

-- the HANDSHAKE_DONE and the PING, each where it waits
abbrev marks_of : (done ping : Bool) → List FrameValue
marks_of done ping = (if done then HandshakeDone ∷ [] else []) ++ (if ping then Ping ∷ [] else [])

-- the HANDSHAKE_DONE and the PING wait where they were asked for, and the others behind them
front_waits : (time room rest left : ℕ) (bundled : Option ℕ) (w : SpaceWaiting) (acks crypto last : List FrameValue) (a b : Bool) → w.done ≡ a → w.ping ≡ b → AckPart time w room acks (is_ack_first w.acks) →
    CryptoPart (without_all w (marks_of a b ++ acks)) rest crypto → AckPart time w left last (is_ack_last time bundled w.acks) →
    HereAll time bundled w (marks_of a b ++ (acks ++ crypto)) × HereAll time bundled (without_all w (marks_of a b ++ (acks ++ crypto))) last
unfolding HereAll Here without without_all
front_waits time room rest left bundled w acks crypto last a b g h part bytes bundle = by_marks a b g h bytes
  where
    behind : (v : SpaceWaiting) → w.acks ≡ v.acks → w.marks ≡ v.marks → CryptoPart (without_all v acks) rest crypto → HereAll time bundled v (acks ++ crypto) × HereAll time bundled (without_all v (acks ++ crypto)) last
    behind v same marks bytes = (
      wait_all_append time bundled v acks crypto
          (ack_waits time room bundled v acks (is_ack_first w.acks) (part_same time room w v acks (is_ack_first w.acks) same marks part) (λ e. ap (is_ack_given time bundled) (sym same) ∙ first_gives time bundled w.acks e))
          (crypto_wait time bundled (without_all v acks) rest crypto bytes),
      subst (λ (x : SpaceWaiting). HereAll time bundled x last) (sym (without_all_append v acks crypto))
          (last_waits time room rest left bundled (is_ack_last time bundled w.acks) w v acks crypto last same marks part bytes refl bundle),
    )

    by_marks : (a b : Bool) → w.done ≡ a → w.ping ≡ b → CryptoPart (without_all w (marks_of a b ++ acks)) rest crypto →
        HereAll time bundled w (marks_of a b ++ (acks ++ crypto)) × HereAll time bundled (without_all w (marks_of a b ++ (acks ++ crypto))) last
    by_marks true true g h bytes = let rest = behind (record w { done = false; ping = false }) refl refl bytes in ((g, (h, rest.0)), rest.1)
    by_marks true false g h bytes = let rest = behind (record w { done = false }) refl refl bytes in ((g, rest.0), rest.1)
    by_marks false true g h bytes = let rest = behind (record w { ping = false }) refl refl bytes in ((h, rest.0), rest.1)
    by_marks false false g h bytes = behind w refl refl bytes

-- the frames in front of those that the layers below offer
abbrev front_of : SpaceWaiting → (acks crypto : List FrameValue) → List FrameValue
front_of w acks crypto = marks_part w ++ (acks ++ crypto)

-- the frames that this end takes of the waiting group wait: those in front of the frames that the layers below offer, and the ACK behind them
taken_waits : (time : ℕ) (bundled : Option ℕ) (in_data : Bool) (w : SpaceWaiting) (room : ℕ) (fs : List FrameValue) → (taken : TakenPart time bundled in_data w room fs) →
    HereAll time bundled w (front_of w taken.acks taken.crypto) × HereAll time bundled (without_all w (front_of w taken.acks taken.crypto)) taken.last
unfolding marks_part done_part ping_part
taken_waits time bundled in_data w room fs taken =
    front_waits time taken.most (room - length (marks_part w) - length (frames_spelling taken.acks)) taken.left bundled w
    taken.acks taken.crypto taken.last w.done w.ping refl refl taken.ack taken.part taken.bundle

-- without a mark none is taken
no_marks : (done ping crypto : Bool) → (done || ping || crypto) ≡ false → marks_of done ping ≡ []
no_marks true ping crypto h = cc
no_marks false true crypto h = cc
no_marks false false crypto h = refl

marks_none : (w : SpaceWaiting) → wants_here w ≡ false → marks_part w ≡ []
unfolding marks_part done_part ping_part
marks_none w h = no_marks w.done w.ping (crypto_waits w) h

-- where an ACK is owed and nothing waits here that elicits one, it is taken, or has no room
owed_or_long : (time : ℕ) (bundled : Option ℕ) (in_data : Bool) (w : SpaceWaiting) (room : ℕ) (fs : List FrameValue) → TakenPart time bundled in_data w room fs → wants_here w ≡ false → is_ack_owed w.acks ≡ true →
    (list_any is_ack fs ≡ true) ⊎ IsLongAck time w room
owed_or_long time bundled in_data w room fs taken none owed = by_ack (is_ack_first w.acks) refl taken.ack
  where
    by_ack : (b : Bool) → is_ack_first w.acks ≡ b → AckPart time w taken.most taken.acks b → (list_any is_ack fs ≡ true) ⊎ IsLongAck time w room
    by_ack true e (AckPart.one ack says fits is) =
        inl (ap (list_any is_ack) (taken.all ∙ ap (λ (xs : List FrameValue). xs ++ (taken.acks ++ (taken.crypto ++ (taken.own ++ taken.last)))) (marks_none w none)
        ∙ ap (λ (xs : List FrameValue). xs ++ (taken.crypto ++ (taken.own ++ taken.last))) is))
    by_ack true e (AckPart.left_out ack says long is) = inr (record { ack = ack; says = says; long = omega (arith, long, taken.owed owed, ap length (marks_none w none)) })
    by_ack false e (AckPart.none is) = absurd (cc (owed, owed_first w.acks e))

-- the ACK, where there is one, has no more bytes than there is room for
pub ack_fits : (time room : ℕ) (w : SpaceWaiting) (acks : List FrameValue) (b : Bool) → AckPart time w room acks b → length (frames_spelling acks) ≤ room
ack_fits time room w acks true (AckPart.one ack says fits is) = subst (λ (x : List FrameValue). length (frames_spelling x) ≤ room) (sym is) fits
ack_fits time room w acks true (AckPart.left_out ack says long is) = subst (λ (x : List FrameValue). length (frames_spelling x) ≤ room) (sym is) (omega arith)
ack_fits time room w acks false (AckPart.none is) = subst (λ (x : List FrameValue). length (frames_spelling x) ≤ room) (sym is) (omega arith)

-- the bytes of joined frames are those of both
pub bytes_append : (fs gs : List FrameValue) → length (frames_spelling (fs ++ gs)) ≡ length (frames_spelling fs) + length (frames_spelling gs)
bytes_append fs gs = ap length (flat_map-append spelling fs gs) ∙ length-append (frames_spelling fs) (frames_spelling gs)

-- the CRYPTO frames fit into the room
crypto_fits : (w : SpaceWaiting) (room : ℕ) (fs : List FrameValue) → CryptoPart w room fs → length (frames_spelling fs) ≤ room
unfolding CryptoPart
crypto_fits w room [] h = omega arith
crypto_fits w room (Crypto offset body ∷ fs) h =
    let f : FrameValue = Crypto offset body in
    let rest : length (frames_spelling fs) ≤ room - length (spelling f) = crypto_fits (without w f) _ fs h.2 in
    let whole : length (frames_spelling (f ∷ fs)) ≡ length (spelling f) + length (frames_spelling fs) = length-append (spelling f) (frames_spelling fs) in
    let fits : length (spelling f) ≤ room = h.1 in
    omega (arith, rest, whole, fits)
crypto_fits w room (_ ∷ fs) h = absurd h

marks_few_by : (a b : Bool) → length (marks_of a b) ≤ 2
marks_few_by true true = omega arith
marks_few_by true false = omega arith
marks_few_by false true = omega arith
marks_few_by false false = omega arith

marks_few : (w : SpaceWaiting) → length (marks_part w) ≤ 2
unfolding marks_part done_part ping_part
marks_few w = marks_few_by w.done w.ping

-- the frames that this end takes fit into the room
pub taken_fits : (time : ℕ) (bundled : Option ℕ) (in_data : Bool) (w : SpaceWaiting) (room : ℕ) (fs : List FrameValue) → TakenPart time bundled in_data w room fs → 2 ≤ room → length (frames_spelling fs) ≤ room
taken_fits time bundled in_data w room fs taken r =
    let behind : ℕ = room - length (marks_part w) - length (frames_spelling taken.acks) in
    let same : length (frames_spelling fs) ≡ length (frames_spelling (marks_part w ++ (taken.acks ++ (taken.crypto ++ (taken.own ++ taken.last))))) = ap (λ (x : List FrameValue). length (frames_spelling x)) taken.all in
    omega (
      arith,
      same,
      bytes_append (marks_part w) (taken.acks ++ (taken.crypto ++ (taken.own ++ taken.last))),
      bytes_append taken.acks (taken.crypto ++ (taken.own ++ taken.last)),
      bytes_append taken.crypto (taken.own ++ taken.last),
      bytes_append taken.own taken.last,
      taken.fits,
      marks_size w,
      marks_few w,
      taken.few,
      ack_fits time taken.most w taken.acks (is_ack_first w.acks) taken.ack,
      crypto_fits (without_all w (marks_part w ++ taken.acks)) behind taken.crypto taken.part,
      ack_fits time taken.left w taken.last (is_ack_last time bundled w.acks) taken.bundle,
    )

-- a space that is that of 1-RTT packets
is_data : (id : SpaceId) → is_space id «Data» ≡ true → id ≡ «Data»
is_data Initial h = cc
is_data Handshake h = cc
is_data Data h = refl

module _ {t : Types} where
  bundled_stays : (id : SpaceId) (f : FrameValue) (s : View t) → (state_move (Take id (f ∷ [])) s).waiting.bundled ≡ s.waiting.bundled
  unfolding state_move waiting_move waiting_without
  bundled_stays id f s = refl

  -- ---- joined lists

  taken_twice_waiting : (id : SpaceId) (fs gs : List FrameValue) (s : View t) → waiting_without (waiting_without s.waiting id fs) id gs ≡ waiting_without s.waiting id (fs ++ gs)
  unfolding waiting_without
  taken_twice_waiting Initial fs gs s = ap (λ (w : SpaceWaiting). record s.waiting { spaces = with_space s.waiting.spaces Initial w }) (sym (without_all_append s.waiting.spaces.initial fs gs))
  taken_twice_waiting Handshake fs gs s = ap (λ (w : SpaceWaiting). record s.waiting { spaces = with_space s.waiting.spaces Handshake w }) (sym (without_all_append s.waiting.spaces.handshake fs gs))
  taken_twice_waiting Data fs gs s = ap (λ (w : SpaceWaiting). record s.waiting { spaces = with_space s.waiting.spaces «Data» w }) (sym (without_all_append s.waiting.spaces.application fs gs))

  -- what lists leave that are taken one behind the other
  taken_twice : (id : SpaceId) (fs gs : List FrameValue) (s : View t) → state_move (Take id gs) (state_move (Take id fs) s) ≡ state_move (Take id (fs ++ gs)) s
  unfolding state_move numbers_move keys_move life_move paths_move timers_move waiting_move setup_move lower_move frames_sealed streams_stepped datagrams_stepped ids_stepped
  taken_twice id fs gs s =
      λ i. record s {
        waiting = taken_twice_waiting id fs gs s i;
        life = told_twice fs gs s.lower.datagrams s.life i;
        setup = record s.setup { random = sym (behind_append fs gs s.setup.random) i };
        lower = sym (frames_sealed_append fs gs s.lower) i;
      }

  nothing_taken : (id : SpaceId) (s : View t) → state_move (Take id []) s ≡ s
  unfolding state_move numbers_move keys_move life_move paths_move timers_move waiting_move setup_move lower_move frames_sealed streams_stepped datagrams_stepped ids_stepped waiting_without without_all behind_tokens sealed_steps sealed_datagrams sealed_cids after posts.after ids.after told_by_all
  nothing_taken Initial s = ap (λ (v : Life). record s { life = v }) (sym (same_heard s.life))
  nothing_taken Handshake s = ap (λ (v : Life). record s { life = v }) (sym (same_heard s.life))
  nothing_taken Data s = ap (λ (v : Life). record s { life = v }) (sym (same_heard s.life))

  -- what one leaves of the streams
  one_taken : (id : SpaceId) (f : FrameValue) (s : View t) → (state_move (Take id (f ∷ [])) s).lower.streams ≡ after (sealed_step f) s.lower.streams
  unfolding state_move lower_move frames_sealed streams_stepped datagrams_stepped ids_stepped sealed_steps
  one_taken id f s = ap (λ (xs : List Step). after xs s.lower.streams) (append-nil (sealed_step f))

  -- ---- frames in front of those that the layers below offer

  -- they are no steps of the streams, nor of the datagrams, nor of the connection ids
  front_streams : (time : ℕ) (bundled : Option ℕ) (in_data : Bool) (w : SpaceWaiting) (id : SpaceId) (room : ℕ) (fs : List FrameValue) (s : View t) → (taken : TakenPart time bundled in_data w room fs) →
      (state_move (Take id (front_of w taken.acks taken.crypto)) s).lower.streams ≡ s.lower.streams
  unfolding state_move lower_move frames_sealed streams_stepped datagrams_stepped ids_stepped after
  front_streams time bundled in_data w id room fs s taken = ap (λ (xs : List Step). after xs s.lower.streams) (front_steps time bundled in_data w room fs taken)

  front_posts : (time : ℕ) (bundled : Option ℕ) (in_data : Bool) (w : SpaceWaiting) (id : SpaceId) (room : ℕ) (fs : List FrameValue) (s : View t) → (taken : TakenPart time bundled in_data w room fs) →
      (state_move (Take id (front_of w taken.acks taken.crypto)) s).lower.datagrams ≡ s.lower.datagrams
  unfolding state_move lower_move frames_sealed streams_stepped datagrams_stepped ids_stepped posts.after
  front_posts time bundled in_data w id room fs s taken = ap (λ (xs : List posts.Step). posts.after xs s.lower.datagrams) (front_datagrams time bundled in_data w room fs taken)

  front_ids : (time : ℕ) (bundled : Option ℕ) (in_data : Bool) (w : SpaceWaiting) (id : SpaceId) (room : ℕ) (fs : List FrameValue) (s : View t) → (taken : TakenPart time bundled in_data w room fs) →
      (state_move (Take id (front_of w taken.acks taken.crypto)) s).lower.ids ≡ s.lower.ids
  unfolding state_move lower_move frames_sealed streams_stepped datagrams_stepped ids_stepped ids.after
  front_ids time bundled in_data w id room fs s taken = ap (λ (xs : List ids.Step). ids.after xs s.lower.ids) (front_cids time bundled in_data w room fs taken)

  -- what waits of a space behind frames
  space_behind : (id : SpaceId) (fs : List FrameValue) (s : View t) → space_of (state_move (Take id fs) s).waiting.spaces id ≡ without_all (space_of s.waiting.spaces id) fs
  unfolding state_move waiting_move waiting_without
  space_behind Initial fs s = refl
  space_behind Handshake fs s = refl
  space_behind Data fs s = refl

  bundled_all : (id : SpaceId) (fs : List FrameValue) (s : View t) → (state_move (Take id fs) s).waiting.bundled ≡ s.waiting.bundled
  unfolding state_move waiting_move waiting_without
  bundled_all id fs s = refl

-- ---- where this makes the tokens

module _ {t : Types} (maker : TokenMaker t) where
  -- a frame that waits in the waiting group waits
  here_waits : (time : ℕ) (s : View t) (id : SpaceId) (f : FrameValue) → Here time s.waiting.bundled (space_of s.waiting.spaces id) f → Waits maker time s id f
  unfolding Here Waits
  here_waits time s id HandshakeDone h = h
  here_waits time s id Ping h = h
  here_waits time s id (Ack ack) h = h
  here_waits time s id (Crypto offset body) h = h
  here_waits time s id _ h = absurd h

  here_all : (time : ℕ) (s : View t) (id : SpaceId) (fs : List FrameValue) → HereAll time s.waiting.bundled (space_of s.waiting.spaces id) fs → WaitAll maker time s id fs
  unfolding HereAll WaitAll
  here_all time s id [] h = tt
  here_all time s id (f ∷ fs) h =
      let v : View t = state_move (Take id (f ∷ [])) s in (
        here_waits time s id f h.0,
        here_all time v id fs
            (subst (λ (w : SpaceWaiting). HereAll time v.waiting.bundled w fs) (sym (taken_space id f s))
            (subst (λ (b : Option ℕ). HereAll time b (without (space_of s.waiting.spaces id) f) fs) (sym (bundled_stays id f s)) h.1)),
      )

  -- joined lists wait, where the second one waits behind the first
  wait_append : (time : ℕ) (s : View t) (id : SpaceId) (fs gs : List FrameValue) → WaitAll maker time s id fs → WaitAll maker time (state_move (Take id fs) s) id gs → WaitAll maker time s id (fs ++ gs)
  unfolding WaitAll
  wait_append time s id [] gs a b = subst (λ (v : View t). WaitAll maker time v id gs) (nothing_taken id s) b
  wait_append time s id (f ∷ fs) gs a b =
      let v : View t = state_move (Take id (f ∷ [])) s in
      (a.0, wait_append time v id fs gs a.1 (subst (λ (x : View t). WaitAll maker time x id gs) (sym (taken_twice id (f ∷ []) fs s)) b))

  -- one of them waits, where the step of the streams that it is may be made, or it is a DATAGRAM with the oldest datagram, the next one
  -- about connection ids, or a NEW_TOKEN with a token that is made then
  own_waits : (time : ℕ) (s : View t) (id : SpaceId) (f : FrameValue) (xs : List Step) → is_space id «Data» ≡ true → is_offered_frame f ≡ true → Fits f → AllMay (sealed_step f ++ xs) s.lower.streams →
      IsOldest f s.lower.datagrams → IsNext f s.lower.ids → IsIssued (made_by maker s.issuer) (socket_ip s.paths.current.remote) f (space_of s.waiting.spaces id).tokens s.setup.random →
      Waits maker time s id f × AllMay xs (after (sealed_step f) s.lower.streams)
  unfolding Waits AllMay IsSealedSo after
  own_waits time s id (Stream stream offset fin body) xs is own fits may oldest next issued = ((is_data id is, may.0.sealed, fits), may.1)
  own_waits time s id (ResetStream stream code size) xs is own fits may oldest next issued = ((is_data id is, may.0.sealed, fits), may.1)
  own_waits time s id (StopSending stream code) xs is own fits may oldest next issued = ((is_data id is, may.0.sealed, fits), may.1)
  own_waits time s id (MaxData limit) xs is own fits may oldest next issued = ((is_data id is, may.0.sealed, fits), may.1)
  own_waits time s id (MaxStreamData stream limit) xs is own fits may oldest next issued = ((is_data id is, may.0.sealed, fits), may.1)
  own_waits time s id (MaxStreams dir limit) xs is own fits may oldest next issued = ((is_data id is, may.0.sealed, fits), may.1)
  own_waits time s id (Datagram body) xs is own fits may oldest next issued = ((is_data id is, oldest, fits), may)
  own_waits time s id (NewToken token) xs is own fits may oldest next issued = ((is_data id is, issued.0, issued.1, fits), may)
  own_waits time s id (NewConnectionId new) xs is own fits may oldest next issued = ((is_data id is, next, fits), may)
  own_waits time s id (RetireConnectionId sequence) xs is own fits may oldest next issued = ((is_data id is, next), may)
  own_waits time s id _ xs is own fits may oldest next issued = cc

  -- what a frame that is taken leaves of what tokens are made with
  issued_still : (id : SpaceId) (f : FrameValue) (fs : List FrameValue) (s : View t) → AllIssued (made_by maker s.issuer) (socket_ip s.paths.current.remote) fs (without (space_of s.waiting.spaces id) f) (behind_frame f s.setup.random) →
      AllIssued (made_by maker (state_move (Take id (f ∷ [])) s).issuer) (socket_ip (state_move (Take id (f ∷ [])) s).paths.current.remote) fs (space_of (state_move (Take id (f ∷ [])) s).waiting.spaces id)
      (state_move (Take id (f ∷ [])) s).setup.random
  unfolding state_move paths_move setup_move behind_tokens
  issued_still id f fs s h = subst (λ (w : SpaceWaiting). AllIssued (made_by maker s.issuer) (socket_ip s.paths.current.remote) fs w (behind_frame f s.setup.random)) (sym (taken_space id f s)) h

  own_wait : (time : ℕ) (s : View t) (id : SpaceId) (fs : List FrameValue) → AreOffered (is_space id «Data») fs → AllMay (sealed_steps fs) s.lower.streams → AllOldest fs s.lower.datagrams →
      AllNext fs s.lower.ids → AllIssued (made_by maker s.issuer) (socket_ip s.paths.current.remote) fs (space_of s.waiting.spaces id) s.setup.random → WaitAll maker time s id fs
  unfolding WaitAll sealed_steps AllOldest AllNext AllIssued
  own_wait time s id [] are may oldest next issued = tt
  own_wait time s id (f ∷ fs) are may oldest next issued =
      let first : Waits maker time s id f × AllMay (sealed_steps fs) (after (sealed_step f) s.lower.streams) = own_waits time s id f (sealed_steps fs) are.0 are.1 are.2 may oldest.0 next.0 issued.0 in (
        first.0,
        own_wait time (state_move (Take id (f ∷ [])) s) id fs are.3 (subst (λ (x : StreamsState). AllMay (sealed_steps fs) x) (sym (one_taken id f s)) first.1)
            (subst (λ (x : Datagrams). AllOldest fs x) (sym (taken_datagrams id f s)) oldest.1)
            (subst (λ (x : ConnectionIds). AllNext fs x) (sym (taken_cids id f s)) next.1)
            (issued_still id f fs s issued.1),
      )

  -- behind those in front of the frames that the layers below offer, tokens are made as they are before
  front_issued : (time : ℕ) (bundled : Option ℕ) (in_data : Bool) (id : SpaceId) (room : ℕ) (fs : List FrameValue) (s : View t) → (taken : TakenPart time bundled in_data (space_of s.waiting.spaces id) room fs) →
      AllIssued (made_by maker s.issuer) (socket_ip s.paths.current.remote) fs (space_of s.waiting.spaces id) s.setup.random →
      let v : View t = state_move (Take id (front_of (space_of s.waiting.spaces id) taken.acks taken.crypto)) s in
      AllIssued (made_by maker v.issuer) (socket_ip v.paths.current.remote) taken.own (space_of v.waiting.spaces id) v.setup.random
  unfolding state_move paths_move setup_move
  front_issued time bundled in_data id room fs s taken h =
      let w : SpaceWaiting = space_of s.waiting.spaces id in
      let front : List FrameValue = front_of w taken.acks taken.crypto in
      let own : AllIssued (made_by maker s.issuer) (socket_ip s.paths.current.remote) taken.own (without_all w front) s.setup.random =
      own_issued (made_by maker s.issuer) (socket_ip s.paths.current.remote) s.setup.random time bundled in_data w room fs taken h in
      subst (λ (x : SpaceWaiting). AllIssued (made_by maker s.issuer) (socket_ip s.paths.current.remote) taken.own x (behind_tokens front s.setup.random)) (sym (space_behind id front s))
      (subst (λ (r : Words). AllIssued (made_by maker s.issuer) (socket_ip s.paths.current.remote) taken.own (without_all w front) r)
      (sym (undrawn front s.setup.random (front_tokens time bundled in_data w room fs taken))) own)

  -- the frames that this end takes in a space wait there
  pub taken_wait : (time : ℕ) (s : View t) (id : SpaceId) (room : ℕ) (fs : List FrameValue) → TakenPart time s.waiting.bundled (is_space id «Data») (space_of s.waiting.spaces id) room fs →
      AllMay (sealed_steps fs) s.lower.streams → AllOldest fs s.lower.datagrams → AllNext fs s.lower.ids →
      AllIssued (made_by maker s.issuer) (socket_ip s.paths.current.remote) fs (space_of s.waiting.spaces id) s.setup.random → WaitAll maker time s id fs
  taken_wait time s id room fs taken may oldest next issued =
      let w : SpaceWaiting = space_of s.waiting.spaces id in
      let front : List FrameValue = front_of w taken.acks taken.crypto in
      let here = taken_waits time s.waiting.bundled (is_space id «Data») w room fs taken in
      let v : View t = state_move (Take id front) s in
      let u : View t = state_move (Take id (front ++ taken.own)) s in
      let own_may : AllMay (sealed_steps taken.own) v.lower.streams =
      subst (λ (x : StreamsState). AllMay (sealed_steps taken.own) x) (sym (front_streams time s.waiting.bundled (is_space id «Data») w id room fs s taken))
      (subst (λ (xs : List Step). AllMay xs s.lower.streams) (part_steps time s.waiting.bundled (is_space id «Data») w room fs taken) may) in
      let turns : AllOldest taken.own v.lower.datagrams =
      subst (λ (x : Datagrams). AllOldest taken.own x) (sym (front_posts time s.waiting.bundled (is_space id «Data») w id room fs s taken))
      (own_oldest time s.waiting.bundled (is_space id «Data») w room fs s.lower.datagrams taken oldest) in
      let nexts : AllNext taken.own v.lower.ids =
      subst (λ (x : ConnectionIds). AllNext taken.own x) (sym (front_ids time s.waiting.bundled (is_space id «Data») w id room fs s taken))
      (own_next time s.waiting.bundled (is_space id «Data») w room fs s.lower.ids taken next) in
      let made : AllIssued (made_by maker v.issuer) (socket_ip v.paths.current.remote) taken.own (space_of v.waiting.spaces id) v.setup.random =
      front_issued time s.waiting.bundled (is_space id «Data») id room fs s taken issued in
      let own_all : WaitAll maker time s id (front ++ taken.own) = wait_append time s id front taken.own (here_all time s id front here.0) (own_wait time v id taken.own taken.offered own_may turns nexts made) in
      let leaves : Beside (without_all w front) (without_all (without_all w front) taken.own) = offered_leaves (is_space id «Data») (without_all w front) taken.own taken.offered in
      let behind : HereAll time s.waiting.bundled (without_all (without_all w front) taken.own) taken.last =
      acks_beside time taken.left s.waiting.bundled w (without_all w front) (without_all (without_all w front) taken.own) taken.last (is_ack_last time s.waiting.bundled w.acks) taken.bundle
      (sym leaves.acks) (sym leaves.marks) here.1 in
      let last : HereAll time u.waiting.bundled (space_of u.waiting.spaces id) taken.last =
      subst (λ (b : Option ℕ). HereAll time b (space_of u.waiting.spaces id) taken.last) (sym (bundled_all id (front ++ taken.own) s))
      (subst (λ (x : SpaceWaiting). HereAll time s.waiting.bundled x taken.last) (sym (space_behind id (front ++ taken.own) s ∙ without_all_append w front taken.own)) behind) in
      subst (λ (x : List FrameValue). WaitAll maker time s id x) (sym (taken.all ∙ simp append_assoc))
      (wait_append time s id (front ++ taken.own) taken.last own_all (here_all time u id taken.last last))

module _ {t : Types} where
  -- among the frames that this end takes is something that is owed; or an ACK alone is owed, which has no room
  pub taken_owed : (first : Bool) (time : ℕ) (s : View t) (id : SpaceId) (room : ℕ) (fs : List FrameValue) → TakenPart time s.waiting.bundled (is_space id «Data») (space_of s.waiting.spaces id) room fs →
      (holds_owed s id fs ≡ true) ⊎ ((first ≡ true) × OwesAckAlone s id) → (holds_owed s id fs ≡ true) ⊎ ((first ≡ true) × LacksAckRoom time s id room)
  unfolding holds_owed wants_sending
  taken_owed first time s id room fs taken (inl some) = inl some
  taken_owed first time s id room fs taken (inr alone) = by_part (owed_or_long time s.waiting.bundled (is_space id «Data») (space_of s.waiting.spaces id) room fs taken (none_here _ _ _ alone.1.alone) alone.1.owed)
    where
      none_here : (a b c : Bool) → ((a || b) || c) ≡ false → a ≡ false
      none_here true b c h = cc
      none_here false b c h = refl

      both_some : (a b c : Bool) → b ≡ true → c ≡ true → (a || (b && c)) ≡ true
      both_some true b c e f = refl
      both_some false true c e f = f
      both_some false false c e f = cc

      by_part : (list_any is_ack fs ≡ true) ⊎ IsLongAck time (space_of s.waiting.spaces id) room → (holds_owed s id fs ≡ true) ⊎ ((first ≡ true) × LacksAckRoom time s id room)
      by_part (inl held) = inl (both_some (list_any elicits fs) (is_ack_owed (space_of s.waiting.spaces id).acks) (list_any is_ack fs) alone.1.owed held)
      by_part (inr long) = inr (alone.0, record { owed = alone.1.owed; alone = alone.1.alone; long = long })

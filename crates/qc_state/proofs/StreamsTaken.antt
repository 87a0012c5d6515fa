-- The frames of streams that this end takes: each is one of their steps that may be, and they fit into the room.
use Rattle.std.proofs.Common.{◌≡◌, ℕ, ◌+◌, ◌-◌, ◌%◌, ◌<◌, ◌≤◌, List, [], ◌∷◌, ◌++◌, length, refl, ap, sym, ◌∙◌, subst, Bool, true, false, nat_le, nat_lt, ◌&&◌, ◌||◌, not, ◌==◌, if◌then◌else◌, Option, None, Some, arith, length-append}
use Rattle.std.specs.Option.{option_map, is_some}
use Rattle.std.proofs.lemmas.Bool.{false≢true}
use Rattle.std.proofs.lemmas.Bool.Decides.{nat_tests}
use Rattle.std.proofs.lemmas.Grind.{flat_map-append}
use Rattle.std.proofs.lemmas.List.{append_assoc, append-nil}
use Rattle.qc_base.specs.Varint.{varint, spelled, limit, one, two, four, eight}
use Rattle.qc_base.specs.declared.side.Dir.TheVariants.{Bi, Uni}
use Rattle.qc_frame.specs.Frame.{FrameValue}
use Rattle.qc_frame.specs.FrameFits.{Fits}
use Rattle.qc_frame.specs.FrameSpelling.{frames_spelling, has_offset, offset_spelling, spelling, stream_type}
use Rattle.qc_frame.specs.declared.frames.FrameOf.TheVariants as frames
use Rattle.qc_send_stream.specs.Buffer.{has_bytes, part_bytes, waiting}
use Rattle.qc_send_stream.specs.Sending.{IsOffer, end_waits, has_more, part_of as part_with}
use Rattle.qc_send_stream.specs.declared.send.Part.{Part}
use Rattle.qc_send_stream.specs.declared.send.SendPart.{SendPart}
use Rattle.qc_state.specs.Offers.{turn_waits}
use Rattle.qc_state.specs.StreamFrames.{control_of, sealed_step, sealed_steps}
use Rattle.qc_state.specs.Taking.{AreOfStreams, TakesStreams, is_streams_frame}
use Rattle.qc_streams.proofs.StepsLaw.{after_append, drawn_offers, may_append, next_owes}
use Rattle.qc_streams.specs.Carried.{IsAnswered}
use Rattle.qc_streams.specs.Control.{control_len, control_sealed, credit_of, data_with, gone_stop, if_fits, next_control, of_first, or_else, reset_of, stop_of, streams_with}
use Rattle.qc_streams.specs.Pending.{bytes_wait}
use Rattle.qc_streams.specs.Queues.{dues_at, dues_of, owes_data}
use Rattle.qc_streams.specs.Owed.{max_data_owed, max_streams_owed}
use Rattle.qc_streams.specs.Records.{record_of}
use Rattle.qc_streams.specs.Steps.{AllMay, IsOffered, IsOwed, IsSealedSo, MayStep}
use Rattle.qc_streams.specs.StreamBytes.{IsDrawn, IsOfferAt, IsOfferOf, IsTurn, part_on, sealed_part}
use Rattle.qc_streams.specs.Waits.{ControlSealed, IsPossible, PartSealed, Step, after, after_step}
use Rattle.qc_streams.specs.Within.{IsTaken}
use Rattle.qc_streams.specs.declared.control.Control.{Control}
use Rattle.qc_streams.specs.declared.control.Control.TheVariants as control
use Rattle.qc_streams.specs.declared.parts.StreamPart.{StreamPart}
use Rattle.qc_streams.specs.declared.state.StreamsState.{StreamsState}
use Rattle.qc_streams.specs.declared.stream.Stream.{Stream}
use Rattle.qc_turns.specs.Ids.{first_id}
use Rattle.qc_turns.specs.Ready.{next_turn}
use Rattle.qc_state.proofs.SealedSteps.{sealed_append}

-- ---- frames, one behind the other

-- joined frames are of streams where both are
pub are_append : (in_data : Bool) (fs gs : List FrameValue) → AreOfStreams in_data fs → AreOfStreams in_data gs → AreOfStreams in_data (fs ++ gs)
are_append in_data [] gs are behind = behind
are_append in_data (f ∷ fs) gs are behind = (are.0, are.1, are.2, are_append in_data fs gs are.3 behind)

-- the bytes of joined frames are those of both
pub spelled_append : (fs gs : List FrameValue) → length (frames_spelling (fs ++ gs)) ≡ length (frames_spelling fs) + length (frames_spelling gs)
spelled_append fs gs = ap length (flat_map-append spelling fs gs) ∙ length-append (frames_spelling fs) (frames_spelling gs)

-- nothing is taken
pub takes_nothing : (in_data : Bool) (room : ℕ) (s : StreamsState) (fs : List FrameValue) → TakesStreams in_data room s s fs fs room
unfolding sealed_steps after AllMay
takes_nothing in_data room s fs = record { own = []; are = tt; may = tt; leads = refl; list = sym (append-nil fs); fits = omega arith }

-- frames are taken, and more behind them
pub takes_both : (in_data : Bool) (room left left' : ℕ) (s s1 s2 : StreamsState) (fs gs hs : List FrameValue) → TakesStreams in_data room s s1 fs gs left → TakesStreams in_data left s1 s2 gs hs left' → TakesStreams in_data room s s2 fs hs left'
takes_both in_data room left left' s s1 s2 fs gs hs first behind =
    let steps : sealed_steps (first.own ++ behind.own) ≡ sealed_steps first.own ++ sealed_steps behind.own = sealed_append first.own behind.own in
    let may : AllMay (sealed_steps behind.own) (after (sealed_steps first.own) s) = subst (λ (x : StreamsState). AllMay (sealed_steps behind.own) x) first.leads behind.may in
    record {
      own = first.own ++ behind.own;
      are = are_append in_data first.own behind.own first.are behind.are;
      may = subst (λ (xs : List Step). AllMay xs s) (sym steps) (may_append (sealed_steps first.own) (sealed_steps behind.own) s first.may may);
      leads = behind.leads ∙ ap (λ (x : StreamsState). after (sealed_steps behind.own) x) first.leads ∙ sym (ap (λ (xs : List Step). after xs s) steps ∙ after_append (sealed_steps first.own) (sealed_steps behind.own) s);
      list = behind.list ∙ ap (λ (x : List FrameValue). x ++ behind.own) first.list ∙ append_assoc fs first.own behind.own;
      fits = omega (arith, spelled_append first.own behind.own, first.fits, behind.fits);
    }

-- a frame is taken
takes_step : (room left : ℕ) (s s' : StreamsState) (fs gs : List FrameValue) (f : FrameValue) (x : Step) → is_streams_frame f ≡ true → Fits f → sealed_step f ≡ x ∷ [] → MayStep x s → s' ≡ after_step x s → gs ≡ fs ++ f ∷ [] →
    length (spelling f) + left ≡ room → TakesStreams true room s s' fs gs left
unfolding sealed_steps after AllMay
takes_step room left s s' fs gs f x is numbers step may leads list fits =
    let steps : sealed_steps (f ∷ []) ≡ x ∷ [] = append-nil (sealed_step f) ∙ step in
    record {
      own = f ∷ [];
      are = (refl, is, numbers, tt);
      may = subst (λ (xs : List Step). AllMay xs s) (sym steps) (may, tt);
      leads = leads ∙ sym (ap (λ (xs : List Step). after xs s) steps);
      list = list;
      fits = subst (λ (n : ℕ). n + left ≡ room) (sym (ap length (append-nil (spelling f)))) fits;
    }

-- ---- frames without bytes of a stream

-- a frame, if there is one, has no more bytes than there is room for
abbrev Fit : ℕ → Option Control → Type 0
Fit room o = (c : Control) → o ≡ Some c → control_len c ≤ room

cond_fits : (b : Bool) (room : ℕ) (x : Control) → nat_le (control_len x) room ≡ b → Fit room (if b then Some x else None)
cond_fits true room x test c is =
    let same : x ≡ c = cc in
    subst (λ (c : Control). control_len c ≤ room) same (grind (arith, nat_tests))
cond_fits false room x test c is = absurd (cc)

one_fits : (room : ℕ) (o : Option Control) → Fit room (if_fits room o)
one_fits room None c is = absurd (cc)
one_fits room (Some x) c is = cond_fits (nat_le (control_len x) room) room x refl c is

or_fits : (room : ℕ) (a b : Option Control) → Fit room a → Fit room b → Fit room (or_else a b)
or_fits room (Some x) b first second c is = first c is
or_fits room None b first second c is = second c is

-- the frame that is sent next fits
pub next_fits : (room : ℕ) (s : StreamsState) (c : Control) → next_control room s ≡ Some c → control_len c ≤ room
unfolding next_control
next_fits room s =
    or_fits room _ _ (one_fits room (of_first reset_of (first_id s.waiting.resets) s))
    (or_fits room _ _ (one_fits room (of_first stop_of (first_id s.waiting.stops) s))
    (or_fits room _ _ (one_fits room (gone_stop s))
    (or_fits room _ _ (one_fits room (data_with (max_data_owed s)))
    (or_fits room _ _ (one_fits room (of_first credit_of (first_id s.waiting.credits) s))
    (or_fits room _ _ (one_fits room (streams_with Bi (max_streams_owed Bi s)))
    (one_fits room (streams_with Uni (max_streams_owed Uni s))))))))

-- a frame has a byte at least
pub control_some : (c : Control) → 0 < control_len c
control_some (control.Reset id code size) = omega arith
control_some (control.Stop id code) = omega arith
control_some (control.MaxData limit) = omega arith
control_some (control.MaxStreamData id limit) = omega arith
control_some (control.MaxStreams dir limit) = omega arith

-- the type of such a frame has one byte
reset_type : length (varint 0x04) ≡ 1
unfolding varint
reset_type = refl

stop_type : length (varint 0x05) ≡ 1
unfolding varint
stop_type = refl

data_type : length (varint 0x10) ≡ 1
unfolding varint
data_type = refl

stream_data_type : length (varint 0x11) ≡ 1
unfolding varint
stream_data_type = refl

bi_type : length (varint 0x12) ≡ 1
unfolding varint
bi_type = refl

uni_type : length (varint 0x13) ≡ 1
unfolding varint
uni_type = refl

-- such a frame is one of the streams, is sealed by one step, and has as many bytes as they say
record IsControl (f : FrameValue) (c : Control) : Type 0 where
  is : is_streams_frame f ≡ true
  step : sealed_step f ≡ ControlSealed c ∷ []
  size : length (spelling f) ≡ control_len c

by_kind : (f : FrameValue) (c c' : Control) → c' ≡ c → is_streams_frame f ≡ true → sealed_step f ≡ ControlSealed c' ∷ [] → length (spelling f) ≡ control_len c' → IsControl f c
by_kind f c c' same is step size =
    record { is = is; step = step ∙ ap (λ (x : Control). ControlSealed x ∷ []) same; size = size ∙ ap control_len same }

is_control : (f : FrameValue) (c : Control) → control_of f ≡ Some c → IsControl f c
unfolding spelling
is_control (frames.ResetStream id code size) c h =
    by_kind (frames.ResetStream id code size) c (control.Reset id code size) (cc) refl refl
    (simp (length-append, reset_type) (omega arith))
is_control (frames.StopSending id code) c h =
    by_kind (frames.StopSending id code) c (control.Stop id code) (cc) refl refl (simp (length-append, stop_type) (omega arith))
is_control (frames.MaxData limit) c h = by_kind (frames.MaxData limit) c (control.MaxData limit) (cc) refl refl (simp (length-append, data_type) (omega arith))
is_control (frames.MaxStreamData id limit) c h =
    by_kind (frames.MaxStreamData id limit) c (control.MaxStreamData id limit) (cc) refl refl (simp (length-append, stream_data_type) (omega arith))
is_control (frames.MaxStreams Bi limit) c h = by_kind (frames.MaxStreams Bi limit) c (control.MaxStreams Bi limit) (cc) refl refl (simp (length-append, bi_type) (omega arith))
is_control (frames.MaxStreams Uni limit) c h =
    by_kind (frames.MaxStreams Uni limit) c (control.MaxStreams Uni limit) (cc) refl refl (simp (length-append, uni_type) (omega arith))
is_control _ c h = absurd (cc)

-- what is owed may be sealed
control_may : (c : Control) (s : StreamsState) → IsOwed c s → MayStep (ControlSealed c) s
unfolding IsPossible IsTaken IsAnswered IsSealedSo
control_may c s owed = record { possible = tt; taken = tt; answered = tt; sealed = owed }

-- one frame more is taken
pub control_taken : (room left : ℕ) (s s1 s2 : StreamsState) (fs gs hs : List FrameValue) (f : FrameValue) (c : Control) → TakesStreams true room s s1 fs gs left → next_control left s1 ≡ Some c → s2 ≡ control_sealed c s1 →
    control_of f ≡ Some c → Fits f → hs ≡ gs ++ f ∷ [] → TakesStreams true room s s2 fs hs (left - control_len c)
unfolding after_step
control_taken room left s s1 s2 fs gs hs f c before next leads frame numbers list =
    let known : IsControl f c = is_control f c frame in
    let fits : control_len c ≤ left = next_fits left s1 c next in
    takes_both true room left (left - control_len c) s s1 s2 fs gs hs before
    (takes_step left (left - control_len c) s1 s2 gs hs f (ControlSealed c) known.is numbers known.step (control_may c s1 (next_owes left s1 c next)) leads list (omega (arith, known.size, fits)))

-- ---- bytes of a stream

-- a field of a frame has at most 8 bytes
short_by : (a b c : Bool) (x y z u : List ℕ) → length x ≤ 8 → length y ≤ 8 → length z ≤ 8 → length u ≤ 8 → length (if a then x else if b then y else if c then z else u) ≤ 8
short_by true b c x y z u h i j k = h
short_by false true c x y z u h i j k = i
short_by false false true x y z u h i j k = j
short_by false false false x y z u h i j k = k

varint_short : (n : ℕ) → length (varint n) ≤ 8
unfolding varint
varint_short n = short_by _ _ _ (spelled one n) (spelled two n) (spelled four n) (spelled eight (n % limit eight)) (omega arith) (omega arith) (omega arith) (omega arith)

-- a length up to 16383 has at most two
two_by : (a b : Bool) (x y z : List ℕ) → b ≡ true → length x ≤ 2 → length y ≤ 2 → length (if a then x else if b then y else z) ≤ 2
two_by true b x y z test h i = h
two_by false true x y z test h i = i
two_by false false x y z test h i = absurd (cc)

length_short : (n : ℕ) → n ≤ 16383 → length (varint n) ≤ 2
unfolding varint
length_short n few =
    two_by (nat_lt n 64) (nat_lt n 16384) (spelled one n) (spelled two n) (if nat_lt n 1073741824 then spelled four n else spelled eight (n % limit eight)) (grind (arith, nat_tests)) (omega arith) (omega arith)

-- an offset has at most 8
offset_by : (b : Bool) (x : List ℕ) → length x ≤ 8 → length (if b then [] else x) ≤ 8
offset_by true x h = omega arith
offset_by false x h = h

offset_short : (offset : ℕ) → length (offset_spelling offset) ≤ 8
offset_short offset = offset_by _ (varint offset) (varint_short offset)

-- the type has one
type_by : (has fin : Bool) → length (varint (stream_type has true fin)) ≡ 1
unfolding varint
type_by true true = refl
type_by true false = refl
type_by false true = refl
type_by false false = refl

-- the head of a STREAM frame has at most 19
pub stream_short : (id offset : ℕ) (fin : Bool) (body : List ℕ) → length body ≤ 16383 → length (spelling (frames.Stream id offset fin body)) ≤ 19 + length body
unfolding spelling
stream_short id offset fin body few =
    simp (length-append, type_by (has_offset offset) fin)
    (omega (arith, varint_short id, offset_short offset, length_short (length body) few))

-- a part that may be given has no more bytes than there is room for
abbrev Within : ℕ → Option Part → Type 0
Within most o = (part : Part) → o ≡ Some part → length part.bytes ≤ most

some_bytes : (x part : Part) → Some x ≡ Some part → length part.bytes ≡ length x.bytes
some_bytes x part is = let same : x ≡ part = cc in ap (λ (y : Part). length y.bytes) (sym same)

end_within : (b : Bool) (most written : ℕ) → Within most (if b then Some (record { offset = written; bytes = []; last = true }) else None)
end_within true most written part is =
    let same : length part.bytes ≡ 0 = some_bytes (record { offset = written; bytes = []; last = true }) part is in
    omega arith
end_within false most written part is = absurd (cc)

bytes_within : (most : ℕ) (bytes : Option (ℕ × List ℕ)) (p : SendPart) → length (part_bytes bytes) ≤ most → Within most (part_with bytes p)
unfolding part_bytes
bytes_within most (Some b) p few part is =
    let fits : length b.1 ≤ most = few in
    let same : length part.bytes ≡ length b.1 = some_bytes (record { offset = b.0; bytes = b.1; last = is_some p.end && (b.0 + length b.1 == p.buffer.written) }) part is in
    omega arith
bytes_within most None p few part is = end_within _ most p.buffer.written part is

offer_by : (b : Bool) (most : ℕ) (o : Option Part) → Within most o → Within most (if b then None else o)
offer_by true most o within part is = absurd (cc)
offer_by false most o within part is = within part is

offer_within : (most : ℕ) (p : SendPart) (o : Option Part) → IsOffer most p o → Within most o
unfolding IsOffer
offer_within most p o offer part is =
    offer_by (is_some p.reset) most (part_with offer.0 p) (bytes_within most offer.0 p offer.1.within) part (sym offer.2 ∙ is)

sending_within : (most : ℕ) (sending : Option SendPart) (o : Option Part) → IsOfferOf most sending o → Within most o
unfolding IsOfferOf
sending_within most None o offer part is = absurd (cc)
sending_within most (Some p) o offer part is = offer_within most p o offer part is

record_within : (most : ℕ) (st : Option Stream) (o : Option Part) → IsOfferAt most st o → Within most o
unfolding IsOfferAt
record_within most None o offer part is = absurd (cc)
record_within most (Some st) o offer part is = sending_within most st.sending o offer part is

turn_within : (most : ℕ) (turn : Option ℕ) (s : StreamsState) (d : StreamPart) → IsTurn most turn s (Some d) → length d.part.bytes ≤ most
unfolding IsTurn
turn_within most None s d drawn = absurd (cc)
turn_within most (Some id) s d drawn = by drawn.0 drawn.1 drawn.2
  where
    by : (o : Option Part) → IsOfferAt most (record_of id s.records) o → Some d ≡ option_map (part_on id) o → length d.part.bytes ≤ most
    by None offers is = absurd (cc)
    by (Some part) offers is =
        let same : part_on id part ≡ d = let back : d ≡ part_on id part = cc in sym back in
        subst (λ (d : StreamPart). length d.part.bytes ≤ most) same (record_within most (record_of id s.records) (Some part) offers part refl)

room_within : (b : Bool) (room : ℕ) (turn : Option ℕ) (s : StreamsState) (d : StreamPart) → nat_lt 19 room ≡ b → IsTurn (room - 19) (if b then turn else None) s (Some d) → 19 + length d.part.bytes ≤ room
unfolding IsTurn
room_within true room turn s d test drawn =
    let large : 19 < room = grind (arith, nat_tests) in
    omega (arith, large, turn_within (room - 19) turn s d drawn)
room_within false room turn s d test drawn = absurd (cc)

-- a part that is drawn, and the head of its frame, have no more bytes than there is room for
pub drawn_within : (room : ℕ) (s : StreamsState) (d : StreamPart) → IsDrawn room s (Some d) → 19 + length d.part.bytes ≤ room
unfolding IsDrawn
drawn_within room s d drawn = room_within (nat_lt 19 room) room _ s d refl drawn

-- what is offered may be sealed
part_may : (d : StreamPart) (s : StreamsState) → IsOffered d s → MayStep (PartSealed d) s
unfolding IsPossible IsTaken IsAnswered IsSealedSo
part_may d s offered = record { possible = tt; taken = tt; answered = tt; sealed = offered }

-- how many bytes a STREAM frame has
pub part_size : (id offset : ℕ) (fin : Bool) (body : List ℕ) → length (spelling (frames.Stream id offset fin body)) ≡ 1 + length (varint id) + length (offset_spelling offset) + length (varint (length body)) + length body
unfolding spelling
part_size id offset fin body = simp (length-append, type_by (has_offset offset) fin) (omega arith)

-- the STREAM frame with a part
abbrev pub frame_with : StreamPart → FrameValue
frame_with d = frames.Stream d.id d.part.offset d.part.last d.part.bytes

-- one STREAM frame more is taken
pub part_taken : (room left within size : ℕ) (s s1 s2 : StreamsState) (fs gs hs : List FrameValue) (f : FrameValue) (d : StreamPart) → TakesStreams true room s s1 fs gs left → within ≤ left → within ≤ 16383 → IsDrawn within s1 (Some d) →
    s2 ≡ sealed_part d s1 → f ≡ frame_with d → Fits f → hs ≡ gs ++ f ∷ [] → size ≡ length (spelling (frame_with d)) → TakesStreams true room s s2 fs hs (left - size)
unfolding after_step
part_taken room left within size s s1 s2 fs gs hs f d before less few drawn leads frame numbers list is_size =
    let g : FrameValue = frame_with d in
    let fits : 19 + length d.part.bytes ≤ within = drawn_within within s1 d drawn in
    let short : length (spelling g) ≤ 19 + length d.part.bytes = stream_short d.id d.part.offset d.part.last d.part.bytes (omega arith) in
    takes_both true room left (left - size) s s1 s2 fs gs hs before
    (takes_step left (left - size) s1 s2 gs hs g (PartSealed d) refl (subst Fits frame numbers) refl (part_may d s1 (drawn_offers within s1 d drawn)) leads (list ∙ ap (λ (x : FrameValue). gs ++ x ∷ []) frame) (omega (arith, is_size, short, fits, less)))

-- ---- nothing is left

-- where bytes of a sending side wait, or its end, a part is offered
second : (a b : Bool) → false ≡ a → (a || b) ≡ true → b ≡ true
second true b never is = absurd (false≢true never)
second false b never is = is

alone : (b : Bool) (x : Part) → b ≡ true → ◌≡◌ {A = Option Part} None (if b then Some x else None) → ⊥
alone true x is none = cc
alone false x is none = false≢true is

none_offered : (most : ℕ) (p : SendPart) → IsOffer most p None → has_more p ≡ true → ⊥
unfolding has_more IsOffer
none_offered most p offer more = by (is_some p.reset) offer.0 more offer.1.given offer.2
  where
    by : (reset : Bool) (bytes : Option (ℕ × List ℕ)) → (not reset && (has_bytes (waiting p.buffer) || end_waits p.end)) ≡ true → is_some bytes ≡ has_bytes (waiting p.buffer) →
        ◌≡◌ {A = Option Part} None (if reset then None else part_with bytes p) → ⊥
    by true bytes more given is = false≢true more
    by false (Some x) more given is = cc
    by false None more given is = alone (end_waits p.end) (record { offset = p.buffer.written; bytes = []; last = true }) (second (has_bytes (waiting p.buffer)) (end_waits p.end) given more) is

-- so where none is, nothing of it waits
offer_none : (most : ℕ) (o : Option Stream) (b : Bool) → (dues_at o).bytes ≡ b → IsOfferAt most o None → b ≡ false
unfolding IsOfferAt IsOfferOf dues_of
offer_none most o false is offer = refl
offer_none most None true is offer = absurd (false≢true is)
offer_none most (Some st) true is offer = absurd (by st.sending is offer)
  where
    by : (p : Option SendPart) → owes_data p ≡ true → IsOfferOf most p None → ⊥
    by None is offer = false≢true is
    by (Some p) is offer = none_offered most p offer is

turn_none : (most : ℕ) (turn : Option ℕ) (s : StreamsState) → IsTurn most turn s None → turn_waits turn s ≡ false
unfolding IsTurn
turn_none most None s drawn = refl
turn_none most (Some id) s drawn = by drawn.0 drawn.1 drawn.2
  where
    by : (o : Option Part) → IsOfferAt most (record_of id s.records) o → None ≡ option_map (part_on id) o → bytes_wait s id ≡ false
    by None offers is = offer_none most (record_of id s.records) (bytes_wait s id) refl offers
    by (Some part) offers is = cc

room_none : (b : Bool) (room : ℕ) (turn : Option ℕ) (s : StreamsState) → nat_lt 19 room ≡ b → IsTurn (room - 19) (if b then turn else None) s None → 19 < room → turn_waits turn s ≡ false
room_none true room turn s test drawn large = turn_none (room - 19) turn s drawn
room_none false room turn s test drawn large = absurd (grind (arith, nat_tests))

-- where no part is drawn though there is room, none waits of the stream whose turn it is
pub drawn_none : (room : ℕ) (s : StreamsState) → IsDrawn room s None → 19 < room → turn_waits (next_turn s.waiting.ready) s ≡ false
unfolding IsDrawn
drawn_none room s drawn large = room_none (nat_lt 19 room) room (next_turn s.waiting.ready) s refl drawn large

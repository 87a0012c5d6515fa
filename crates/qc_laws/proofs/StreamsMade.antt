-- Steps of the streams one behind the other, of which those of a kind are what some things make; and which steps frames and calls make.
use Rattle.std.proofs.Common.{◌≡◌, ℕ, zero, suc, ◌<◌, ◌^◌, List, [], ◌∷◌, ◌++◌, refl, ap, sym, ◌∙◌, subst, Bool, true, false, Option, Some, None, if◌then◌else◌, append_assoc, append-nil, arith}
use Rattle.std.proofs.lemmas.Bool.Decides.{nat_tests}
use Rattle.std.proofs.lemmas.List.Elements.{filter-append}
use Rattle.std.proofs.lemmas.List.Folds.{list_any-append}
use Rattle.std.specs.Prelude.{◌||◌, not, nat_le, nat_lt, length, filter, Result}
use Rattle.std.specs.List.{list_all, list_any}
use Rattle.qc_base.specs.declared.side.SpaceId.{SpaceId}
use Rattle.qc_frame.specs.Frame.{FrameValue}
use Rattle.qc_frame.specs.FrameSpelling.{spelling}
use Rattle.qc_frame.specs.declared.frames.FrameOf.TheVariants as frames
use Rattle.qc_streams.specs.declared.fault.Refusal.{Refusal}
use Rattle.qc_streams.specs.declared.state.PeerLimits.{PeerLimits}
use Rattle.qc_streams.specs.declared.state.StreamsState.{StreamsState}
use Rattle.qc_streams.specs.Carried.{IsAnswered}
use Rattle.qc_streams.specs.Steps.{AllMay, Handed, IsSealedSo, NamesStream, came, refusal_of, steps_of, unless_refused}
use Rattle.qc_streams.specs.Steps as handed
use Rattle.qc_streams.specs.Waits.{Step, Closed, ControlSealed, IsPossible, LimitCame, LimitsKnown, PartSealed, Polled, ResetCame, StopCame, StreamCame, StreamLimitCame, StreamsLimitCame, after, after_step}
use Rattle.qc_streams.specs.Within.{IsTaken}
use Rattle.qc_streams.proofs.StepsLaw.{after_append, handed_may, may_append}
use Rattle.qc_state.specs.declared.deeds.Did.{Did}
use Rattle.qc_state.specs.declared.deeds.Did.TheVariants as did
use Rattle.qc_state.specs.declared.deeds.Layer.TheVariants as layer
use Rattle.qc_state.specs.Moves.{is_call, told_to_streams, IsTold}
use Rattle.qc_state.specs.StreamFrames.{sealed_steps}
use Rattle.qc_state.specs.Streams.{asked_for, is_given_to_streams, steps_of_frame, steps_of_handed, call_answer, calls_of, events_of}
use Rattle.qc_laws.specs.StreamsLaws.{AreMade, MakesFrame, NoneOf, frames_sealed, given_to_streams, is_came, MakesCall, MakesClose, MakesEvent, is_asked, is_closing, is_other, is_sealed, is_settled, is_streams_call}
use Rattle.qc_laws.proofs.KnownMoves.{IsElsewhere}
use Rattle.qc_laws.proofs.StreamCalls.{AreCalls, handed_told}
use Rattle.qc_recv.specs.declared.recv.Chunk.{Chunk}
use Rattle.qc_streams.specs.declared.fault.ReadFault.{ReadFault}
use Rattle.qc_streams.specs.declared.events.StreamEvent.{StreamEvent}
use Rattle.qc_streams.specs.Owed.{next_event, polled}
use Rattle.qc_state.specs.declared.input.Input.{Input}
use Rattle.qc_state.specs.declared.trace.Step.{Step as TraceStep}
use Rattle.qc_state.specs.Headline.{lives_in}
use Rattle.qc_laws.proofs.HarmlessTests.{both, first_holds, second_holds}
use Rattle.qc_laws.proofs.StreamsSealed.{all_sealed, frames_append, none_sealed, sealed_all, sealed_apart, settled_apart, settled_may, settled_unsealed}
use Rattle.qc_state.proofs.SealedSteps.{sealed_append}
use Rattle.qc_state.proofs.StreamEvents.{next_first, next_none}

-- ---- steps one behind the other

none_or : (a b : Bool) → a ≡ false → b ≡ false → (a || b) ≡ false
none_or true b h k = cc
none_or false b h k = k

pub none_append : (kind : Step → Bool) (xs ys : List Step) → NoneOf kind xs → NoneOf kind ys → NoneOf kind (xs ++ ys)
none_append kind xs ys h k = list_any-append kind xs ys ∙ none_or (list_any kind xs) (list_any kind ys) h k

module _ {A : Type 0} (kind : Step → Bool) (Makes : A → List Step → StreamsState → Type 0) where
  -- steps of other kinds come before
  made_behind : (more : List A) (xs ys : List Step) (s : StreamsState) → NoneOf kind xs → AreMade kind Makes more ys (after xs s) → AreMade kind Makes more (xs ++ ys) s
  made_behind [] xs ys s none h = none_append kind xs ys none h
  made_behind (x ∷ more) xs ys s none h =
      let front : List Step = h.0 in
      let same : after (xs ++ front) s ≡ after front (after xs s) = after_append xs front s in (
        xs ++ front,
        h.1,
        h.2,
        ap (λ (zs : List Step). xs ++ zs) h.3 ∙ sym (append_assoc xs front (h.1 ++ h.2)),
        none_append kind xs front none h.4,
        subst (λ (z : StreamsState). Makes x h.1 z) (sym same) h.5,
        subst (λ (z : StreamsState). AreMade kind Makes more h.2 (after h.1 z)) (sym same) h.6,
      )

  pub made_append : (these those : List A) (xs ys : List Step) (s : StreamsState) → AreMade kind Makes these xs s → AreMade kind Makes those ys (after xs s) → AreMade kind Makes (these ++ those) (xs ++ ys) s
  made_append [] those xs ys s a b = made_behind those xs ys s a b
  made_append (x ∷ these) those xs ys s a b =
      let front : List Step = a.0 in
      let made : List Step = a.1 in
      let rest : List Step = a.2 in
      let same : after xs s ≡ after rest (after made (after front s)) = ap (λ (zs : List Step). after zs s) a.3 ∙ after_append front (made ++ rest) s ∙ after_append made rest (after front s) in (
        front,
        made,
        rest ++ ys,
        ap (λ (zs : List Step). zs ++ ys) a.3 ∙ append_assoc front (made ++ rest) ys ∙ ap (λ (zs : List Step). front ++ zs) (append_assoc made rest ys),
        a.4,
        a.5,
        made_append these those rest ys (after made (after front s)) a.6 (subst (λ (z : StreamsState). AreMade kind Makes those ys z) same b),
      )

pub given_append : (ds es : List Did) → given_to_streams (ds ++ es) ≡ given_to_streams ds ++ given_to_streams es
given_append [] es = refl
given_append (did.Gave layer.Streams body ∷ ds) es = ap (λ (bodies : List (List ℕ)). body ∷ bodies) (given_append ds es)
given_append (did.Gave layer.Session body ∷ ds) es = given_append ds es
given_append (did.Gave layer.Recovery body ∷ ds) es = given_append ds es
given_append (did.Gave layer.Life body ∷ ds) es = given_append ds es
given_append (did.Gave layer.Store body ∷ ds) es = given_append ds es
given_append (did.Gave layer.Ids body ∷ ds) es = given_append ds es
given_append (did.Piece space number v ∷ ds) es = given_append ds es
given_append (did.Sealed space n epoch early fs ∷ ds) es = given_append ds es
given_append (did.Rose life ∷ ds) es = given_append ds es
given_append (did.Lost why ∷ ds) es = given_append ds es
given_append (did.Quiet why ∷ ds) es = given_append ds es

pub lives_append : (ds es : List Did) → lives_in (ds ++ es) ≡ lives_in ds ++ lives_in es
lives_append [] es = refl
lives_append (did.Sealed space n epoch early fs ∷ ds) es = lives_append ds es
lives_append (did.Piece space number v ∷ ds) es = lives_append ds es
lives_append (did.Gave to body ∷ ds) es = lives_append ds es
lives_append (did.Rose life ∷ ds) es = ap (λ (ranks : List ℕ). life ∷ ranks) (lives_append ds es)
lives_append (did.Lost why ∷ ds) es = lives_append ds es
lives_append (did.Quiet why ∷ ds) es = lives_append ds es

-- ---- frames

named : (id : ℕ) → nat_lt id (2 ^ 62) ≡ true → id < 2 ^ 62
named id is = grind (arith, nat_tests)

-- the steps of a frame about a stream may be, where there can be one with its id, and else it makes none
named_may : (id : ℕ) (f : Handed) (s : StreamsState) (b : Bool) → nat_lt id (2 ^ 62) ≡ b → (id < 2 ^ 62 → NamesStream f) → AllMay (steps_of_handed (if b then Some f else None) s) s
unfolding AllMay
named_may id f s true is names = handed_may f s (names (named id is))
named_may id f s false is names = tt

frame_may : (frame : FrameValue) (s : StreamsState) → AllMay (steps_of_frame frame s) s
unfolding steps_of_frame AllMay NamesStream
frame_may (frames.ResetStream id code size) s = named_may id (handed.ResetStream id code size) s (nat_lt id (2 ^ 62)) refl (λ h. h)
frame_may (frames.StopSending id code) s = named_may id (handed.StopSending id code) s (nat_lt id (2 ^ 62)) refl (λ h. h)
frame_may (frames.Stream id offset fin body) s = named_may id (handed.Stream id offset body fin) s (nat_lt id (2 ^ 62)) refl (λ h. h)
frame_may (frames.MaxData limit) s = handed_may (handed.MaxData limit) s tt
frame_may (frames.MaxStreamData id limit) s = named_may id (handed.MaxStreamData id limit) s (nat_lt id (2 ^ 62)) refl (λ h. h)
frame_may (frames.MaxStreams dir count) s = handed_may (handed.MaxStreams dir count) s tt
frame_may (frames.StreamDataBlocked id limit) s = named_may id (handed.StreamDataBlocked id) s (nat_lt id (2 ^ 62)) refl (λ h. tt)
frame_may (frames.StreamsBlocked dir limit) s = handed_may (handed.StreamsBlocked limit) s tt
frame_may _ s = tt

-- a frame that is told of makes the steps that stand beside its gift
given_made : (frame : FrameValue) (s : StreamsState) → is_given_to_streams frame ≡ true → AreMade is_came MakesFrame (spelling frame ∷ []) (steps_of_frame frame s) s
unfolding after
given_made frame s given = ([], steps_of_frame frame s, [], sym (append-nil (steps_of_frame frame s)), refl, record { frame = frame; given = given; spelled = refl; makes = refl }, refl)

-- one that only says where the peer was blocked makes none
none_blocked : (o : Option Refusal) → NoneOf is_came (unless_refused o [])
none_blocked None = refl
none_blocked (Some r) = refl

blocked_none : (id : ℕ) (s : StreamsState) (b : Bool) → NoneOf is_came (steps_of_handed (if b then Some (handed.StreamDataBlocked id) else None) s)
unfolding steps_of came
blocked_none id s true = none_blocked (refusal_of (handed.StreamDataBlocked id) s)
blocked_none id s false = refl

frame_makes : (frame : FrameValue) (s : StreamsState) → AreMade is_came MakesFrame (given_to_streams (told_to_streams frame)) (steps_of_frame frame s) s
unfolding steps_of_frame steps_of came
frame_makes (frames.ResetStream id code size) s = given_made (frames.ResetStream id code size) s refl
frame_makes (frames.StopSending id code) s = given_made (frames.StopSending id code) s refl
frame_makes (frames.Stream id offset fin body) s = given_made (frames.Stream id offset fin body) s refl
frame_makes (frames.MaxData limit) s = given_made (frames.MaxData limit) s refl
frame_makes (frames.MaxStreamData id limit) s = given_made (frames.MaxStreamData id limit) s refl
frame_makes (frames.MaxStreams dir count) s = given_made (frames.MaxStreams dir count) s refl
frame_makes (frames.Datagram body) s = given_made (frames.Datagram body) s refl
frame_makes (frames.StreamDataBlocked id limit) s = blocked_none id s (nat_lt id (2 ^ 62))
frame_makes (frames.StreamsBlocked dir limit) s = none_blocked (refusal_of (handed.StreamsBlocked limit) s)
frame_makes _ s = refl

-- all of them are such
came_all : (f : Handed) → list_all is_came (came f) ≡ true
unfolding came
came_all (handed.Stream id offset body last) = refl
came_all (handed.ResetStream id code size) = refl
came_all (handed.StopSending id code) = refl
came_all (handed.MaxStreamData id limit) = refl
came_all (handed.MaxStreams dir n) = refl
came_all (handed.MaxData limit) = refl
came_all (handed.StreamDataBlocked id) = refl
came_all (handed.StreamsBlocked n) = refl

unless_all : (o : Option Refusal) (xs : List Step) → list_all is_came xs ≡ true → list_all is_came (unless_refused o xs) ≡ true
unless_all None xs h = h
unless_all (Some r) xs h = refl

handed_all : (o : Option Handed) (s : StreamsState) → list_all is_came (steps_of_handed o s) ≡ true
unfolding steps_of
handed_all None s = refl
handed_all (Some f) s = unless_all (refusal_of f s) (came f) (came_all f)

pub frame_all : (frame : FrameValue) (s : StreamsState) → list_all is_came (steps_of_frame frame s) ≡ true
unfolding steps_of_frame
frame_all frame s = handed_all _ s

-- ---- a step is of one kind

none_by : (kind other : Step → Bool) → ((x : Step) → other x ≡ true → kind x ≡ false) → (xs : List Step) → list_all other xs ≡ true → NoneOf kind xs
none_by kind other apart [] h = refl
none_by kind other apart (x ∷ xs) h =
    none_or (kind x) (list_any kind xs) (apart x (first_holds (other x) (list_all other xs) h)) (none_by kind other apart xs (second_holds (other x) (list_all other xs) h))

came_uncalled : (x : Step) → is_came x ≡ true → is_call x ≡ false
came_uncalled (StreamCame id offset body last) h = refl
came_uncalled (ResetCame id code size) h = refl
came_uncalled (StopCame id code) h = refl
came_uncalled (StreamLimitCame id limit) h = refl
came_uncalled (StreamsLimitCame dir count) h = refl
came_uncalled (LimitCame limit) h = refl
came_uncalled _ h = cc

came_open : (x : Step) → is_came x ≡ true → is_closing x ≡ false
came_open Closed h = cc
came_open _ h = refl

came_unasked : (x : Step) → is_came x ≡ true → is_asked x ≡ false
came_unasked Polled h = cc
came_unasked _ h = refl

first_known : (a b : Bool) → a ≡ true → not (a || b) ≡ false
first_known true b h = refl
first_known false b h = cc

came_unsealed : (x : Step) → is_came x ≡ true → is_sealed x ≡ false
came_unsealed (ControlSealed c) h = cc
came_unsealed (PartSealed d) h = cc
came_unsealed _ h = refl

came_known : (x : Step) → is_came x ≡ true → is_other x ≡ false
came_known x h = first_known (is_came x) _ h

call_uncame : (x : Step) → is_call x ≡ true → is_came x ≡ false
call_uncame (StreamCame id offset body last) h = cc
call_uncame (ResetCame id code size) h = cc
call_uncame (StopCame id code) h = cc
call_uncame (StreamLimitCame id limit) h = cc
call_uncame (StreamsLimitCame dir count) h = cc
call_uncame (LimitCame limit) h = cc
call_uncame _ h = refl

call_open : (x : Step) → is_call x ≡ true → is_closing x ≡ false
call_open Closed h = cc
call_open _ h = refl

call_unasked : (x : Step) → is_call x ≡ true → is_asked x ≡ false
call_unasked Polled h = cc
call_unasked _ h = refl

call_unsealed : (x : Step) → is_call x ≡ true → is_sealed x ≡ false
call_unsealed (ControlSealed c) h = cc
call_unsealed (PartSealed d) h = cc
call_unsealed _ h = refl

second_known : (a b c : Bool) → b ≡ true → not (a || (b || c)) ≡ false
second_known true b c h = refl
second_known false true c h = refl
second_known false false c h = cc

call_known : (x : Step) → is_call x ≡ true → is_other x ≡ false
call_known x h = second_known (is_came x) (is_call x) _ h

pub calls_all : (xs : List Step) (s : StreamsState) → AreCalls xs s → list_all is_call xs ≡ true
calls_all [] s h = refl
calls_all (x ∷ xs) s h = both (is_call x) (list_all is_call xs) h.0.0 (calls_all xs (after_step x s) h.1)

calls_may : (xs : List Step) (s : StreamsState) → AreCalls xs s → AllMay xs s
unfolding AllMay
calls_may [] s h = tt
calls_may (x ∷ xs) s h = (h.0.1, calls_may xs (after_step x s) h.1)

asked_uncame : (n : ℕ) → NoneOf is_came (asked_for n)
asked_uncame zero = refl
asked_uncame (suc n) = asked_uncame n

asked_uncalled : (n : ℕ) → NoneOf is_call (asked_for n)
asked_uncalled zero = refl
asked_uncalled (suc n) = asked_uncalled n

asked_open : (n : ℕ) → NoneOf is_closing (asked_for n)
asked_open zero = refl
asked_open (suc n) = asked_open n

asked_unsealed : (n : ℕ) → NoneOf is_sealed (asked_for n)
asked_unsealed zero = refl
asked_unsealed (suc n) = asked_unsealed n

asked_known : (n : ℕ) → NoneOf is_other (asked_for n)
asked_known zero = refl
asked_known (suc n) = asked_known n

asked_may : (n : ℕ) (s : StreamsState) → AllMay (asked_for n) s
unfolding AllMay IsPossible IsTaken IsAnswered IsSealedSo
asked_may zero s = tt
asked_may (suc n) s = (record { possible = tt; taken = tt; answered = tt; sealed = tt }, asked_may n (after_step Polled s))

-- asked as often as events wait, they tell these
asked_tells : (n : ℕ) (s : StreamsState) (o : Option StreamEvent) → next_event s ≡ o → length (events_of s) ≡ n → AreMade is_asked MakesEvent (events_of s) (asked_for n) s
unfolding after after_step
asked_tells zero s None is count = subst (λ (es : List StreamEvent). AreMade is_asked MakesEvent es [] s) (sym (next_none s is)) refl
asked_tells zero s (Some e) is count =
    let more : length (events_of s) ≡ suc (length (events_of (polled s))) = ap (λ (es : List StreamEvent). length es) (next_first s e is) in
    absurd (omega (arith, count, more))
asked_tells (suc n) s None is count =
    let none : length (events_of s) ≡ 0 = ap (λ (es : List StreamEvent). length es) (next_none s is) in
    absurd (omega (arith, count, none))
asked_tells (suc n) s (Some e) is count =
    let more : length (events_of s) ≡ suc (length (events_of (polled s))) = ap (λ (es : List StreamEvent). length es) (next_first s e is) in
    subst (λ (es : List StreamEvent). AreMade is_asked MakesEvent es (Polled ∷ asked_for n) s) (sym (next_first s e is))
    ([], Polled ∷ [], asked_for n, refl, refl, (refl, is), asked_tells n (polled s) (next_event (polled s)) refl (omega (arith, count, more)))

-- ---- what all of them are

-- these steps may be made, and are those of what deeds give to the streams and seal, of the ranks to which they say that the life rose, of
-- calls, and of events that were told
pub record Are (xs : List Step) (ds : List Did) (calls : List (Input × TraceStep)) (told : List StreamEvent) (s : StreamsState) : Type 0 where
  pub may : AllMay xs s
  pub handed : AreMade is_came MakesFrame (given_to_streams ds) xs s
  pub called : AreMade is_call MakesCall calls xs s
  pub closed : AreMade is_closing MakesClose (lives_in ds) xs s
  pub asked : AreMade is_asked MakesEvent told xs s
  pub sealed : filter is_sealed xs ≡ sealed_steps (frames_sealed ds)
  pub only : NoneOf is_other xs

pub are_append : (xs ys : List Step) (ds es : List Did) (calls others : List (Input × TraceStep)) (told later : List StreamEvent) (s : StreamsState) →
    Are xs ds calls told s → Are ys es others later (after xs s) → Are (xs ++ ys) (ds ++ es) (calls ++ others) (told ++ later) s
are_append xs ys ds es calls others told later s a b = record {
  may = may_append xs ys s a.may b.may;
  handed = subst (λ (bodies : List (List ℕ)). AreMade is_came MakesFrame bodies (xs ++ ys) s) (sym (given_append ds es)) (made_append is_came MakesFrame (given_to_streams ds) (given_to_streams es) xs ys s a.handed b.handed);
  called = made_append is_call MakesCall calls others xs ys s a.called b.called;
  closed = subst (λ (ranks : List ℕ). AreMade is_closing MakesClose ranks (xs ++ ys) s) (sym (lives_append ds es)) (made_append is_closing MakesClose (lives_in ds) (lives_in es) xs ys s a.closed b.closed);
  asked = made_append is_asked MakesEvent told later xs ys s a.asked b.asked;
  sealed = filter-append is_sealed xs ys ∙ ap (λ (l : List Step). l ++ filter is_sealed ys) a.sealed ∙ ap (λ (l : List Step). sealed_steps (frames_sealed ds) ++ l) b.sealed
      ∙ sym (sealed_append (frames_sealed ds) (frames_sealed es)) ∙ ap sealed_steps (sym (frames_append ds es));
  only = none_append is_other xs ys a.only b.only;
}

-- no steps, with deeds that have nothing to do with the streams
pub apart_are : (ds : List Did) (s : StreamsState) → given_to_streams ds ≡ [] → lives_in ds ≡ [] → frames_sealed ds ≡ [] → Are [] ds [] [] s
unfolding AllMay sealed_steps
apart_are ds s ungiven unrisen unsealed = record {
  may = tt;
  handed = subst (λ (bodies : List (List ℕ)). AreMade is_came MakesFrame bodies [] s) (sym ungiven) refl;
  called = refl;
  closed = subst (λ (ranks : List ℕ). AreMade is_closing MakesClose ranks [] s) (sym unrisen) refl;
  asked = refl;
  sealed = ap sealed_steps (sym unsealed);
  only = refl;
}

pub none_are : (s : StreamsState) → Are [] [] [] [] s
none_are s = apart_are [] s refl refl refl

-- those of a frame that came
pub frame_are : (frame : FrameValue) (s : StreamsState) → Are (steps_of_frame frame s) (told_to_streams frame) [] [] s
unfolding sealed_steps
frame_are frame s =
    let xs : List Step = steps_of_frame frame s in
    let all : list_all is_came xs ≡ true = frame_all frame s in
    let open_still : NoneOf is_closing xs = none_by is_closing is_came came_open xs all in
    let none : filter is_sealed xs ≡ [] = none_sealed xs (none_by is_sealed is_came came_unsealed xs all) in
    record {
      may = frame_may frame s;
      handed = frame_makes frame s;
      called = none_by is_call is_came came_uncalled xs all;
      closed = handed_told (λ ds. AreMade is_closing MakesClose (lives_in ds) xs s) frame open_still (λ body. open_still);
      asked = none_by is_asked is_came came_unasked xs all;
      sealed = handed_told (λ ds. filter is_sealed xs ≡ sealed_steps (frames_sealed ds)) frame none (λ body. none);
      only = none_by is_other is_came came_known xs all;
    }

-- what is told by itself is no gift to the streams, nor a rise of the life, nor that a packet was sealed
pub told_are : (d : Did) (s : StreamsState) → IsTold d → IsElsewhere d → Are [] (d ∷ []) [] [] s
told_are (did.Piece space number v) s h k = apart_are (did.Piece space number v ∷ []) s refl refl refl
told_are (did.Gave layer.Session body) s h k = apart_are (did.Gave layer.Session body ∷ []) s refl refl refl
told_are (did.Gave layer.Recovery body) s h k = apart_are (did.Gave layer.Recovery body ∷ []) s refl refl refl
told_are (did.Gave layer.Life body) s h k = apart_are (did.Gave layer.Life body ∷ []) s refl refl refl
told_are (did.Gave layer.Store body) s h k = apart_are (did.Gave layer.Store body ∷ []) s refl refl refl
told_are (did.Gave layer.Ids body) s h k = apart_are (did.Gave layer.Ids body ∷ []) s refl refl refl
told_are (did.Gave layer.Streams body) s h k = absurd k
told_are _ s h k = absurd h

-- the peer's limits are known
pub limits_are : (p : PeerLimits) (s : StreamsState) → Are (LimitsKnown p ∷ []) [] [] [] s
unfolding AllMay IsPossible IsTaken IsAnswered IsSealedSo sealed_steps
limits_are p s = record { may = (record { possible = tt; taken = tt; answered = tt; sealed = tt }, tt); handed = refl; called = refl; closed = refl; asked = refl; sealed = refl; only = refl }

-- the life rises to Closed or further, or to Established
pub close_are : (rank : ℕ) (s : StreamsState) → nat_le 2 rank ≡ true → Are (Closed ∷ []) (did.Rose rank ∷ []) [] [] s
unfolding AllMay IsPossible IsTaken IsAnswered IsSealedSo sealed_steps
close_are rank s high = record {
  may = (record { possible = tt; taken = tt; answered = tt; sealed = tt }, tt);
  handed = refl;
  called = refl;
  closed = ([], Closed ∷ [], [], refl, refl, sym (ap (λ (b : Bool). if b then Closed ∷ [] else []) high), refl);
  asked = refl;
  sealed = refl;
  only = refl;
}

pub low_are : (s : StreamsState) → Are [] (did.Rose 1 ∷ []) [] [] s
unfolding AllMay sealed_steps
low_are s = record { may = tt; handed = refl; called = refl; closed = ([], [], [], refl, refl, refl, refl); asked = refl; sealed = refl; only = refl }

-- they are asked for all events that wait
pub asked_are : (s : StreamsState) → Are (asked_for (length (events_of s))) [] [] (events_of s) s
unfolding sealed_steps
asked_are s =
    let n : ℕ = length (events_of s) in
    record {
      may = asked_may n s;
      handed = asked_uncame n;
      called = asked_uncalled n;
      closed = asked_open n;
      asked = asked_tells n s (next_event s) refl refl;
      sealed = none_sealed (asked_for n) (asked_unsealed n);
      only = asked_known n;
    }

-- those with which frames of a packet are sealed
pub sealed_are : (space : SpaceId) (number epoch : ℕ) (early : Bool) (fs : List FrameValue) (s : StreamsState) → AllMay (sealed_steps fs) s → Are (sealed_steps fs) (did.Sealed space number epoch early fs ∷ []) [] [] s
sealed_are space number epoch early fs s may =
    let xs : List Step = sealed_steps fs in
    let all : list_all is_sealed xs ≡ true = sealed_all fs in
    record {
      may = may;
      handed = none_by is_came is_sealed (λ x h. (sealed_apart x h).came) xs all;
      called = none_by is_call is_sealed (λ x h. (sealed_apart x h).call) xs all;
      closed = none_by is_closing is_sealed (λ x h. (sealed_apart x h).closing) xs all;
      asked = none_by is_asked is_sealed (λ x h. (sealed_apart x h).asked) xs all;
      sealed = all_sealed xs all ∙ ap sealed_steps (sym (append-nil fs));
      only = none_by is_other is_sealed (λ x h. (sealed_apart x h).other) xs all;
    }

-- those with which frames are acknowledged and lost, and the streams looked at
pub settled_are : (xs : List Step) (s : StreamsState) → list_all is_settled xs ≡ true → Are xs [] [] [] s
unfolding sealed_steps
settled_are xs s all = record {
  may = settled_may xs s all;
  handed = none_by is_came is_settled (λ x h. (settled_apart x h).came) xs all;
  called = none_by is_call is_settled (λ x h. (settled_apart x h).call) xs all;
  closed = none_by is_closing is_settled (λ x h. (settled_apart x h).closing) xs all;
  asked = none_by is_asked is_settled (λ x h. (settled_apart x h).asked) xs all;
  sealed = none_sealed xs (none_by is_sealed is_settled settled_unsealed xs all);
  only = none_by is_other is_settled (λ x h. (settled_apart x h).other) xs all;
}

-- those of an input that is a call of the streams
pub calls_are : (i : Input) (x : TraceStep) (read : Result (Option Chunk) ReadFault) (s : StreamsState) → AreCalls (calls_of i read s) s → x.answer ≡ call_answer i read s → Are (calls_of i read s) [] ((i, x) ∷ []) [] s
unfolding after sealed_steps
calls_are i x read s are answers =
    let xs : List Step = calls_of i read s in
    let all : list_all is_call xs ≡ true = calls_all xs s are in
    record {
      may = calls_may xs s are;
      handed = none_by is_came is_call call_uncame xs all;
      called = ([], xs, [], sym (append-nil xs), refl, record { read = read; makes = refl; answers = λ e. answers }, refl);
      closed = none_by is_closing is_call call_open xs all;
      asked = none_by is_asked is_call call_unasked xs all;
      sealed = none_sealed xs (none_by is_sealed is_call call_unsealed xs all);
      only = none_by is_other is_call call_known xs all;
    }

-- and of one that is none
pub other_are : (i : Input) (x : TraceStep) (read : Result (Option Chunk) ReadFault) (xs : List Step) (ds : List Did) (s : StreamsState) →
    is_streams_call i ≡ false → [] ≡ calls_of i read (after xs s) → Are xs ds [] [] s → Are xs ds ((i, x) ∷ []) [] s
other_are i x read xs ds s none makes a = record {
  may = a.may;
  handed = a.handed;
  called = (xs, [], [], sym (append-nil xs), a.called, record { read = read; makes = makes; answers = λ e. cc }, refl);
  closed = a.closed;
  asked = a.asked;
  sealed = a.sealed;
  only = a.only;
}

-- Where the size of a stream is known that wasn't reset, a frame told its end.
use Rattle.std.proofs.Common.{◌≡◌, ◌⊎◌, inl, inr, ℕ, ◌+◌, ◌^◌, List, [], ◌∷◌, ◌++◌, length, refl, ap, sym, ◌∙◌, subst, Bool, true, false, cond, Option, Some, None, if◌then◌else◌, arith}
use Rattle.std.proofs.lemmas.Bool.Decides.{nat_tests}
use Rattle.std.proofs.lemmas.List.Folds.{list_any-append}
use Rattle.std.specs.Prelude.{◌==◌, ◌&&◌, ◌||◌, nat_lt, is_some, Result, Ok, Err}
use Rattle.std.specs.List.{list_any}
use Rattle.qc_base.specs.declared.varint.VarInt.{VarInt}
use Rattle.qc_frame.specs.Frame.{FrameValue}
use Rattle.qc_frame.specs.FrameSpelling.{spelling}
use Rattle.qc_frame.specs.declared.frames.FrameOf.TheVariants as frames
use Rattle.qc_recv.specs.declared.recv.Chunk.{Chunk}
use Rattle.qc_recv.specs.declared.recv.Recv.{Recv}
use Rattle.qc_recv.specs.Owed.{credit_lost, credit_sealed, stop_lost, stop_sealed}
use Rattle.qc_recv.specs.Receiving.{bytes_taken, chunk_given, end_taken, end_told, given, is_ended, keeps, new_receiving, opened, reset_asked, reset_taken, stop_asked, stream_taken}
use Rattle.qc_streams.specs.declared.control.Control.{Control}
use Rattle.qc_streams.specs.declared.control.Control.TheVariants as control
use Rattle.qc_streams.specs.declared.fault.ReadFault.{ReadFault}
use Rattle.qc_streams.specs.declared.fault.ReadFault.TheVariants as fault
use Rattle.qc_streams.specs.declared.fault.Refusal.{Refusal}
use Rattle.qc_streams.specs.declared.state.StreamsState.{StreamsState}
use Rattle.qc_streams.specs.declared.stream.Stream.{Stream as StreamRecord}
use Rattle.qc_streams.specs.Calls.{after_read, receiving_at, receiving_of}
use Rattle.qc_streams.specs.Steps.{AllMay, Handed, came, refusal_of, steps_of, unless_refused}
use Rattle.qc_streams.specs.Steps as handed
use Rattle.qc_streams.specs.Waits.{Step, Began, ControlLost, ControlSealed, Read, ResetAsked, ResetCame, Stopped, StreamCame, after, after_step}
use Rattle.qc_streams.proofs.CarriedRead.{mapped, own_side, peer_side, some_not_none}
use Rattle.qc_streams.proofs.StepAt.{ComesFrom, Gone, OwnOpened, PeerOpened, SteppedAt, Stood, There, came_to}
use Rattle.qc_streams.proofs.SteppedLaw.{steps}
use Rattle.qc_streams.proofs.WaitLaw.{step_ok}
use Rattle.qc_streams.proofs.WaitSteps.{Holds}
use Rattle.qc_state.specs.Streams.{is_given_to_streams, steps_of_frame, steps_of_handed}
use Rattle.qc_laws.specs.ReadLaws.{IsEnd, TellsEnd}
use Rattle.qc_laws.specs.StreamsLaws.{AreMade, MakesFrame, NoneOf, is_came}

-- whether a step tells that the stream with an id has so many bytes
abbrev pub tells_end : (id size : ℕ) → Step → Bool
tells_end id size (StreamCame j o bs last) = (j == id) && (last && (o + length bs == size))
tells_end id size _ = false

-- ---- a receiving side

-- where it knows its size and wasn't reset, this holds of the size
abbrev Sized : (ℕ → Type 0) → Recv → Type 0
Sized P r = r.reset ≡ None → (n : ℕ) → r.size ≡ Some n → P n

sized_if : (P : ℕ → Type 0) (b : Bool) (q r : Recv) → (b ≡ true → Sized P q) → Sized P r → Sized P (cond b q r)
sized_if P true q r changed h = changed refl
sized_if P false q r changed h = h

-- a side with the same size and reset
sized_same : (P : ℕ → Type 0) (q r : Recv) → q.reset ≡ r.reset → q.size ≡ r.size → Sized P r → Sized P q
sized_same P q r reset size h = λ none n is. h (sym reset ∙ none) n (sym size ∙ is)

read_sized : (P : ℕ → Type 0) (in_order : Bool) (result : Result (Option Chunk) ReadFault) (r : Recv) → Sized P r → Sized P (after_read in_order result r)
unfolding chunk_given given end_told opened
read_sized P in_order (Ok (Some c)) r h = h
read_sized P in_order (Ok None) r h = h
read_sized P in_order (Err (fault.Reset code)) r h = h
read_sized P in_order (Err fault.Blocked) r h = h
read_sized P in_order (Err fault.OutOfMemory) r h = h
read_sized P in_order (Err fault.ClosedStream) r h = h
read_sized P in_order (Err fault.IllegalOrderedRead) r h = h

bytes_reset : (b : Bool) (q r : Recv) → q.reset ≡ r.reset → (if b then q else r).reset ≡ r.reset
bytes_reset true q r is = is
bytes_reset false q r is = refl

bytes_size : (b : Bool) (q r : Recv) → q.size ≡ r.size → (if b then q else r).size ≡ r.size
bytes_size true q r is = is
bytes_size false q r is = refl

-- a frame with bytes is taken, which may tell the end
ended_sized : (P Q : ℕ → Type 0) (end : ℕ) (last : Bool) (reset size : Option ℕ) → ((n : ℕ) → P n → Q n) → (last ≡ true → Q end) → (n : ℕ) → (size ≡ Some n → P n) → (if last then Some end else size) ≡ Some n → Q n
ended_sized P Q end true reset size weaker told n h is = subst Q (same_some end n is) (told refl)
  where
    same_some : (a b : ℕ) → Some a ≡ Some b → a ≡ b
    same_some a b e = cc
ended_sized P Q end false reset size weaker told n h is = weaker n (h is)

stream_sized : (P Q : ℕ → Type 0) (b c : Bool) (o : ℕ) (bs : List ℕ) (last : Bool) (r : Recv) → ((n : ℕ) → P n → Q n) → (last ≡ true → Q (o + length bs)) → Sized P r →
    Sized Q (if b then r else end_taken (o + length bs) last (bytes_taken o bs r))
unfolding end_taken bytes_taken
stream_sized P Q true c o bs last r weaker told h = λ none n is. weaker n (h none n is)
stream_sized P Q false c o bs last r weaker told h = λ none n is.
    let same : (if keeps r then _ else r).reset ≡ r.reset = bytes_reset (keeps r) _ r refl in
    ended_sized P Q (o + length bs) last None _ weaker told n (λ e. h (sym same ∙ none) n (sym (bytes_size (keeps r) _ r refl) ∙ e)) is

reset_sized : (P : ℕ → Type 0) (b : Bool) (code : VarInt) (size : ℕ) (r q : Recv) → q.reset ≡ Some code → Sized P r → Sized P (if b then r else end_taken size true q)
unfolding end_taken
reset_sized P true code size r q is h = h
reset_sized P false code size r q is h = λ none n e. absurd (let both : Some code ≡ None = sym is ∙ none in cc)

control_sized : (P : ℕ → Type 0) (id : ℕ) (c : Control) (r : Recv) → Sized P r → Sized P (came_to id (ControlSealed c) r)
unfolding came_to stop_sealed credit_sealed
control_sized P id (control.Reset j code size) r h = h
control_sized P id (control.Stop j code) r h = sized_if P (j == id) _ r (λ e. h) h
control_sized P id (control.MaxData limit) r h = h
control_sized P id (control.MaxStreamData j limit) r h = sized_if P (j == id) _ r (λ e. h) h
control_sized P id (control.MaxStreams dir limit) r h = h

lost_sized : (P : ℕ → Type 0) (id : ℕ) (c : Control) (r : Recv) → Sized P r → Sized P (came_to id (ControlLost c) r)
unfolding came_to stop_lost credit_lost
lost_sized P id (control.Reset j code size) r h = h
lost_sized P id (control.Stop j code) r h = sized_if P (j == id) _ r (λ e. h) h
lost_sized P id (control.MaxData limit) r h = h
lost_sized P id (control.MaxStreamData j limit) r h = sized_if P (j == id) _ r (λ e. h) h
lost_sized P id (control.MaxStreams dir limit) r h = h

weaken : (P Q : ℕ → Type 0) (r : Recv) → ((n : ℕ) → P n → Q n) → Sized P r → Sized Q r
weaken P Q r weaker h = λ none n is. weaker n (h none n is)

three : (a b c : Bool) → a ≡ true → b ≡ true → c ≡ true → (a && (b && c)) ≡ true
three true true true p q r = refl
three true true false p q r = cc
three true false c p q r = cc
three false b c p q r = cc

same_self : (n : ℕ) → (n == n) ≡ true
same_self n = grind (arith, nat_tests)

-- each step: where it tells an end, that holds too
step_sized : (P Q : ℕ → Type 0) (id : ℕ) (x : Step) (r : Recv) → ((n : ℕ) → P n → Q n) → ((n : ℕ) → tells_end id n x ≡ true → Q n) → Sized P r → Sized Q (came_to id x r)
unfolding came_to stream_taken reset_taken stop_asked reset_asked end_told opened
step_sized P Q id (Began in_order j) r weaker told h = sized_if Q (j == id) _ r (λ e. weaken P Q r weaker h) (weaken P Q r weaker h)
step_sized P Q id (Read in_order result j) r weaker told h = sized_if Q (j == id) _ r (λ e. read_sized Q in_order result r (weaken P Q r weaker h)) (weaken P Q r weaker h)
step_sized P Q id (Stopped code j) r weaker told h = sized_if Q (j == id) _ r (λ e. weaken P Q r weaker h) (weaken P Q r weaker h)
step_sized P Q id (ResetAsked j) r weaker told h =
    sized_if Q (j == id) _ r (λ e. sized_if Q (is_some r.reset) _ r (λ f. weaken P Q r weaker h) (weaken P Q r weaker h)) (weaken P Q r weaker h)
step_sized P Q id (StreamCame j o bs last) r weaker told h =
    sized_if Q (j == id) _ r
    (λ e. stream_sized P Q (is_ended r || is_some r.reset) true o bs last r weaker (λ l. told (o + length bs) (three (j == id) last (o + length bs == o + length bs) e l (same_self (o + length bs)))) h) (weaken P Q r weaker h)
step_sized P Q id (ResetCame j code size) r weaker told h = sized_if Q (j == id) _ r (λ e. reset_sized Q (is_ended r || is_some r.reset) code size r _ refl (weaken P Q r weaker h)) (weaken P Q r weaker h)
step_sized P Q id (ControlSealed c) r weaker told h = control_sized Q id c r (weaken P Q r weaker h)
step_sized P Q id (ControlLost c) r weaker told h = lost_sized Q id c r (weaken P Q r weaker h)
step_sized P Q id _ r weaker told h = weaken P Q r weaker h

-- ---- a stream

abbrev pub KnowsEnd : (ℕ → Type 0) → ℕ → StreamsState → Type 0
KnowsEnd P id s = (r : Recv) → receiving_at id s ≡ Some r → Sized P r

new_sized : (P : ℕ → Type 0) (window : ℕ) (r : Recv) → r ≡ new_receiving window → Sized P r
unfolding new_receiving
new_sized P window r is = subst (λ (q : Recv). Sized P q) (sym is) (λ none n e. absurd cc)

from_sized : (P : ℕ → Type 0) (id : ℕ) (s : StreamsState) (st : StreamRecord) (r : Recv) → KnowsEnd P id s → ComesFrom id s st → st.receiving ≡ Some r → Sized P r
unfolding receiving_at
from_sized P id s st r h (Stood is) side = h r (ap (λ (o : Option StreamRecord). receiving_of o) is ∙ side)
from_sized P id s st r h (OwnOpened dir is before) side = new_sized P s.stream_window r (own_side dir s r (ap (λ (x : StreamRecord). x.receiving) (sym is) ∙ side))
from_sized P id s st r h (PeerOpened dir is before) side = new_sized P s.stream_window r (peer_side dir s r (ap (λ (x : StreamRecord). x.receiving) (sym is) ∙ side))

stepped_knows : (P Q : ℕ → Type 0) (id : ℕ) (x : Step) (s : StreamsState) → ((n : ℕ) → P n → Q n) → ((n : ℕ) → tells_end id n x ≡ true → Q n) → KnowsEnd P id s → SteppedAt id x s → KnowsEnd Q id (after_step x s)
unfolding receiving_at
stepped_knows P Q id x s weaker told h (Gone gone why) = λ q is. absurd (some_not_none (receiving_at id (after_step x s)) q (ap (λ (o : Option StreamRecord). receiving_of o) gone) is)
stepped_knows P Q id x s weaker told h (There st after_it from stepped there) = λ q is.
    let found = mapped (came_to id x) st.receiving q (sym stepped.receiving ∙ sym (ap (λ (o : Option StreamRecord). receiving_of o) there) ∙ is) in
    subst (λ (r : Recv). Sized Q r) found.2 (step_sized P Q id x found.0 weaker told (from_sized P id s st found.0 h from found.1))

-- behind steps
abbrev Told : (ℕ → Type 0) → (id : ℕ) → List Step → ℕ → Type 0
Told P id xs n = P n ⊎ (list_any (tells_end id n) xs ≡ true)

or_left : (a b : Bool) → a ≡ true → (a || b) ≡ true
or_left true b h = refl
or_left false b h = cc

or_right : (a b : Bool) → b ≡ true → (a || b) ≡ true
or_right true b h = refl
or_right false b h = h

more_told : (P : ℕ → Type 0) (id : ℕ) (x : Step) (xs : List Step) (n : ℕ) → Told (λ k. P k ⊎ (tells_end id k x ≡ true)) id xs n → Told P id (x ∷ xs) n
more_told P id x xs n (inl (inl p)) = inl p
more_told P id x xs n (inl (inr e)) = inr (or_left (tells_end id n x) (list_any (tells_end id n) xs) e)
more_told P id x xs n (inr e) = inr (or_right (tells_end id n x) (list_any (tells_end id n) xs) e)

steps_know : (P : ℕ → Type 0) (id : ℕ) (xs : List Step) (s : StreamsState) → AllMay xs s → Holds s → KnowsEnd P id s → KnowsEnd (Told P id xs) id (after xs s)
unfolding AllMay after
steps_know P id [] s may sound h = λ r is. weaken P (Told P id []) r (λ n p. inl p) (h r is)
steps_know P id (x ∷ xs) s may sound h = λ r is.
    let Q : ℕ → Type 0 = λ n. P n ⊎ (tells_end id n x ≡ true) in
    let once : KnowsEnd Q id (after_step x s) = stepped_knows P Q id x s (λ n p. inl p) (λ n e. inr e) h (steps id x s may.0.possible sound) in
    weaken (Told Q id xs) (Told P id (x ∷ xs)) r (more_told P id x xs) (steps_know Q id xs (after_step x s) may.1 (step_ok x s may.0.possible sound) once r is)

-- where nothing was opened, a size that is known behind steps was told by one of them
pub size_told : (id n : ℕ) (xs : List Step) (s : StreamsState) (r : Recv) → AllMay xs s → Holds s → receiving_at id s ≡ None → receiving_at id (after xs s) ≡ Some r → r.reset ≡ None → r.size ≡ Some n → list_any (tells_end id n) xs ≡ true
size_told id n xs s r may sound none is unreset size = by (steps_know (λ k. ⊥) id xs s may sound (λ q e. absurd (some_not_none (receiving_at id s) q none e)) r is unreset n size)
  where
    by : ⊥ ⊎ (list_any (tells_end id n) xs ≡ true) → list_any (tells_end id n) xs ≡ true
    by (inl f) = absurd f
    by (inr e) = e

-- ---- frames

or_either : (a b : Bool) → (a || b) ≡ true → (a ≡ true) ⊎ (b ≡ true)
or_either true b h = inl refl
or_either false b h = inr h

untold : (id n : ℕ) (x : Step) → is_came x ≡ false → tells_end id n x ≡ false
untold id n (StreamCame j o bs last) h = cc
untold id n _ h = refl

or_first : (a b : Bool) → (a || b) ≡ false → a ≡ false
or_first true b h = cc
or_first false b h = refl

or_rest : (a b : Bool) → (a || b) ≡ false → b ≡ false
or_rest true b h = cc
or_rest false b h = h

all_untold : (id n : ℕ) (xs : List Step) → NoneOf is_came xs → list_any (tells_end id n) xs ≡ true → ⊥
all_untold id n [] h e = cc
all_untold id n (x ∷ xs) h e = by (λ later. all_untold id n xs (or_rest (is_came x) (list_any is_came xs) h) later) (or_either (tells_end id n x) (list_any (tells_end id n) xs) e)
  where
    by : (list_any (tells_end id n) xs ≡ true → ⊥) → (tells_end id n x ≡ true) ⊎ (list_any (tells_end id n) xs ≡ true) → ⊥
    by rest (inl now) = let none : tells_end id n x ≡ false = untold id n x (or_first (is_came x) (list_any is_came xs) h) in cc
    by rest (inr later) = rest later

-- the end that a STREAM frame tells
end_parts : (id n j o : ℕ) (bs : List ℕ) (last : Bool) → (((j == id) && (last && (o + length bs == n))) || false) ≡ true → IsEnd id n (spelling (frames.Stream j o last bs))
end_parts id n j o bs true h =
    let same : j ≡ id = grind (arith, nat_tests) in
    let size : o + length bs ≡ n = grind (arith, nat_tests) in
    record { offset = o; bytes = bs; spelled = ap (λ (k : ℕ). spelling (frames.Stream k o true bs)) same; ends = size }
end_parts id n j o bs false h = absurd (never (j == id) h)
  where
    never : (b : Bool) → ((b && false) || false) ≡ true → ⊥
    never true e = cc
    never false e = cc

-- what a frame makes tells its end
abbrev Ends : ℕ → ℕ → FrameValue → List Step → Type 0
Ends id n frame xs = list_any (tells_end id n) xs ≡ true → IsEnd id n (spelling frame)

stopped_ends : (id n : ℕ) (o : Option Refusal) (xs : List Step) (frame : FrameValue) → Ends id n frame xs → Ends id n frame (unless_refused o xs)
stopped_ends id n None xs frame h = h
stopped_ends id n (Some r) xs frame h = λ e. absurd cc

named_ends : (id n : ℕ) (f : Handed) (s : StreamsState) (b : Bool) (frame : FrameValue) → Ends id n frame (came f) → Ends id n frame (steps_of_handed (if b then Some f else None) s)
unfolding steps_of
named_ends id n f s true frame h = stopped_ends id n (refusal_of f s) (came f) frame h
named_ends id n f s false frame h = λ e. absurd cc

frame_ends : (id n : ℕ) (frame : FrameValue) (s : StreamsState) → is_given_to_streams frame ≡ true → Ends id n frame (steps_of_frame frame s)
unfolding steps_of_frame steps_of came
frame_ends id n (frames.ResetStream j code size) s given = named_ends id n (handed.ResetStream j code size) s (nat_lt j (2 ^ 62)) (frames.ResetStream j code size) (λ e. absurd cc)
frame_ends id n (frames.StopSending j code) s given = named_ends id n (handed.StopSending j code) s (nat_lt j (2 ^ 62)) (frames.StopSending j code) (λ e. absurd cc)
frame_ends id n (frames.Stream j offset fin body) s given =
    named_ends id n (handed.Stream j offset body fin) s (nat_lt j (2 ^ 62)) (frames.Stream j offset fin body) (λ e. end_parts id n j offset body fin e)
frame_ends id n (frames.MaxData limit) s given = stopped_ends id n (refusal_of (handed.MaxData limit) s) (came (handed.MaxData limit)) (frames.MaxData limit) (λ e. absurd cc)
frame_ends id n (frames.MaxStreamData j limit) s given = named_ends id n (handed.MaxStreamData j limit) s (nat_lt j (2 ^ 62)) (frames.MaxStreamData j limit) (λ e. absurd cc)
frame_ends id n (frames.MaxStreams dir count) s given = stopped_ends id n (refusal_of (handed.MaxStreams dir count) s) (came (handed.MaxStreams dir count)) (frames.MaxStreams dir count) (λ e. absurd cc)
frame_ends id n (frames.Datagram body) s given = λ e. absurd cc
frame_ends id n _ s given = absurd cc

-- so an end that a step tells was told by what was given
pub end_given : (id n : ℕ) (bodies : List (List ℕ)) (xs : List Step) (s : StreamsState) → AreMade is_came MakesFrame bodies xs s → list_any (tells_end id n) xs ≡ true → TellsEnd id n bodies
end_given id n [] xs s h e = all_untold id n xs h e
end_given id n (body ∷ bodies) xs s h e =
    let front : List Step = h.0 in
    let made : List Step = h.1 in
    let rest : List Step = h.2 in
    let whole : (list_any (tells_end id n) front || (list_any (tells_end id n) made || list_any (tells_end id n) rest)) ≡ true =
    ap (λ (b : Bool). list_any (tells_end id n) front || b) (sym (list_any-append (tells_end id n) made rest)) ∙ sym (list_any-append (tells_end id n) front (made ++ rest)) ∙ ap (λ (zs : List Step). list_any (tells_end id n) zs) (sym h.3) ∙ e in
    by (λ later. end_given id n bodies rest (after made (after front s)) h.6 later) (or_either (list_any (tells_end id n) front) (list_any (tells_end id n) made || list_any (tells_end id n) rest) whole)
  where
    now : MakesFrame body h.1 (after h.0 s) → list_any (tells_end id n) h.1 ≡ true → IsEnd id n body
    now does told =
        subst (λ (b : List ℕ). IsEnd id n b) (sym does.spelled) (frame_ends id n does.frame (after h.0 s) does.given (ap (λ (zs : List Step). list_any (tells_end id n) zs) (sym does.makes) ∙ told))

    behind : (list_any (tells_end id n) h.2 ≡ true → TellsEnd id n bodies) → (list_any (tells_end id n) h.1 ≡ true) ⊎ (list_any (tells_end id n) h.2 ≡ true) → TellsEnd id n (body ∷ bodies)
    behind others (inl here) = inl (now h.5 here)
    behind others (inr later) = inr (others later)

    by : (list_any (tells_end id n) h.2 ≡ true → TellsEnd id n bodies) → (list_any (tells_end id n) h.0 ≡ true) ⊎ ((list_any (tells_end id n) h.1 || list_any (tells_end id n) h.2) ≡ true) → TellsEnd id n (body ∷ bodies)
    by others (inl before) = absurd (all_untold id n h.0 h.4 before)
    by others (inr either) = behind others (or_either (list_any (tells_end id n) h.1) (list_any (tells_end id n) h.2) either)

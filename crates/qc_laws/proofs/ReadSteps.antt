-- What steps of the streams read, what came with them, and which ends they told, in words of what made them.
use Rattle.std.proofs.Common.{◌≡◌, ◌⊎◌, inl, inr, ℕ, ◌^◌, List, [], ◌∷◌, ◌++◌, refl, ap, sym, ◌∙◌, subst, Bool, true, false, Option, Some, None, if◌then◌else◌, append_assoc, append-nil}
use Rattle.std.proofs.lemmas.List.Folds.{list_all-append, list_any-append}
use Rattle.std.specs.Prelude.{◌==◌, ◌||◌, not, nat_lt, Result, Ok, Err}
use Rattle.std.specs.List.{list_all, list_any}
use Rattle.qc_frame.specs.Frame.{FrameValue}
use Rattle.qc_frame.specs.declared.frames.FrameOf.TheVariants as frames
use Rattle.qc_recv.specs.declared.recv.Chunk.{Chunk}
use Rattle.qc_send_stream.specs.declared.fault.WriteError.{WriteError}
use Rattle.qc_streams.specs.declared.fault.ReadFault.{ReadFault}
use Rattle.qc_streams.specs.declared.fault.ReadFault.TheVariants as fault
use Rattle.qc_streams.specs.declared.fault.Refusal.{Refusal}
use Rattle.qc_streams.specs.declared.state.StreamsState.{StreamsState}
use Rattle.qc_streams.specs.Calls.{write_refusal}
use Rattle.qc_streams.specs.Carried.{came_on, keeps_order, read_on, with_came, with_read}
use Rattle.qc_streams.specs.Steps.{Handed, came, refusal_of, steps_of, unless_refused}
use Rattle.qc_streams.specs.Steps as handed
use Rattle.qc_streams.specs.Waits.{Step, Began, EarlyRefused, Read, StreamCame, after}
use Rattle.qc_state.specs.declared.input.Input.{Input}
use Rattle.qc_state.specs.declared.input.Input.TheVariants as input
use Rattle.qc_state.specs.declared.trace.Answer.{Answer}
use Rattle.qc_state.specs.declared.trace.Step.{Step as TraceStep}
use Rattle.qc_state.specs.Moves.{is_call}
use Rattle.qc_state.specs.Streams.{call_answer, calls_of, is_given_to_streams, read_answer, steps_of_frame, steps_of_handed, unless, write_steps}
use Rattle.qc_laws.specs.ReadLaws.{AreTaken, came_in, came_with, read_by, read_in}
use Rattle.qc_laws.specs.StreamsLaws.{AreMade, MakesCall, MakesFrame, NoneOf, is_came, is_other, is_streams_call}
use Rattle.qc_laws.proofs.HarmlessTests.{both}

-- ---- tests

pub or_first : (a b : Bool) → (a || b) ≡ false → a ≡ false
or_first true b h = cc
or_first false b h = refl

pub or_rest : (a b : Bool) → (a || b) ≡ false → b ≡ false
or_rest true b h = cc
or_rest false b h = h

none_front : (kind : Step → Bool) (xs ys : List Step) → NoneOf kind (xs ++ ys) → NoneOf kind xs
none_front kind xs ys h = or_first (list_any kind xs) (list_any kind ys) (sym (list_any-append kind xs ys) ∙ h)

pub none_back : (kind : Step → Bool) (xs ys : List Step) → NoneOf kind (xs ++ ys) → NoneOf kind ys
none_back kind xs ys h = or_rest (list_any kind xs) (list_any kind ys) (sym (list_any-append kind xs ys) ∙ h)

-- the three parts of steps
pub record Parts (kind : Step → Bool) (front made rest : List Step) : Type 0 where
  pub first : NoneOf kind front
  pub middle : NoneOf kind made
  pub last : NoneOf kind rest

pub parts : (kind : Step → Bool) (steps front made rest : List Step) → steps ≡ front ++ (made ++ rest) → NoneOf kind steps → Parts kind front made rest
parts kind steps front made rest is h =
    let all : NoneOf kind (front ++ (made ++ rest)) = subst (λ (xs : List Step). NoneOf kind xs) is h in
    let behind : NoneOf kind (made ++ rest) = none_back kind front (made ++ rest) all in
    record { first = none_front kind front (made ++ rest) all; middle = none_front kind made rest behind; last = none_back kind made rest behind }

-- ---- what is read

read_append : (id : ℕ) (xs ys : List Step) (bs : List ℕ) → read_on id (xs ++ ys) bs ≡ read_on id ys (read_on id xs bs)
unfolding read_on
read_append id [] ys bs = refl
read_append id (x ∷ xs) ys bs = read_append id xs ys (with_read id x bs)

unread : (id : ℕ) (x : Step) (bs : List ℕ) → is_call x ≡ false → is_other x ≡ false → with_read id x bs ≡ bs
unfolding with_read
unread id (Read ordered result j) bs h k = cc
unread id EarlyRefused bs h k = cc
unread id _ bs h k = refl

all_unread : (id : ℕ) (xs : List Step) (bs : List ℕ) → NoneOf is_call xs → NoneOf is_other xs → read_on id xs bs ≡ bs
unfolding read_on
all_unread id [] bs h k = refl
all_unread id (x ∷ xs) bs h k =
    all_unread id xs (with_read id x bs) (or_rest (is_call x) (list_any is_call xs) h) (or_rest (is_other x) (list_any is_other xs) k)
    ∙ unread id x bs (or_first (is_call x) (list_any is_call xs) h) (or_first (is_other x) (list_any is_other xs) k)

-- an input reads what its answer gives
unless_reads : (id : ℕ) (b : Bool) (x : Step) (bs : List ℕ) → with_read id x bs ≡ bs → read_on id (unless b x) bs ≡ bs ++ []
unfolding read_on
unless_reads id true x bs h = sym (append-nil bs)
unless_reads id false x bs h = h ∙ sym (append-nil bs)

write_reads : (id : ℕ) (o : Option WriteError) (j n : ℕ) (body bs : List ℕ) → read_on id (write_steps o j n body) bs ≡ bs ++ []
unfolding read_on with_read
write_reads id None j n body bs = sym (append-nil bs)
write_reads id (Some e) j n body bs = sym (append-nil bs)

chunk_reads : (b : Bool) (bytes bs : List ℕ) → (if b then bs ++ bytes else bs) ≡ bs ++ (if b then bytes else [])
chunk_reads true bytes bs = refl
chunk_reads false bytes bs = sym (append-nil bs)

read_reads : (id j time max : ℕ) (read : Result (Option Chunk) ReadFault) (bs : List ℕ) → with_read id (Read true read j) bs ≡ bs ++ read_by id (input.Read time j max) (read_answer read)
unfolding with_read
read_reads id j time max (Ok (Some c)) bs = chunk_reads (j == id) c.bytes bs
read_reads id j time max (Ok None) bs = sym (append-nil bs)
read_reads id j time max (Err fault.ClosedStream) bs = sym (append-nil bs)
read_reads id j time max (Err fault.IllegalOrderedRead) bs = sym (append-nil bs)
read_reads id j time max (Err (fault.Reset code)) bs = sym (append-nil bs)
read_reads id j time max (Err fault.Blocked) bs = sym (append-nil bs)
read_reads id j time max (Err fault.OutOfMemory) bs = sym (append-nil bs)

input_reads : (id : ℕ) (i : Input) (a : Answer) (read : Result (Option Chunk) ReadFault) (s : StreamsState) (bs : List ℕ) → (is_streams_call i ≡ true → a ≡ call_answer i read s) →
    read_on id (calls_of i read s) bs ≡ bs ++ read_by id i a
unfolding read_on with_read
input_reads id (input.Open time dir) a read s bs h = unless_reads id _ _ bs refl
input_reads id (input.Accept time dir) a read s bs h = unless_reads id _ _ bs refl
input_reads id (input.Write time j body) a read s bs h = write_reads id (write_refusal j s) j _ body bs
input_reads id (input.Finish time j) a read s bs h = unless_reads id _ _ bs refl
input_reads id (input.ResetSend time j code) a read s bs h = unless_reads id _ _ bs refl
input_reads id (input.StopRecv time j code) a read s bs h = unless_reads id _ _ bs refl
input_reads id (input.Read time j max) a read s bs h = read_reads id j time max read bs ∙ ap (λ (x : Answer). bs ++ read_by id (input.Read time j max) x) (sym (h refl))
input_reads id _ a read s bs h = sym (append-nil bs)

-- so do all calls
pub calls_read : (id : ℕ) (calls : List (Input × TraceStep)) (steps : List Step) (s : StreamsState) (bs : List ℕ) → AreMade is_call MakesCall calls steps s → NoneOf is_other steps →
    read_on id steps bs ≡ bs ++ read_in id calls
calls_read id [] steps s bs h only = all_unread id steps bs h only ∙ sym (append-nil bs)
calls_read id (call ∷ calls) steps s bs h only =
    let front : List Step = h.0 in
    let made : List Step = h.1 in
    let rest : List Step = h.2 in
    let known : Parts is_other front made rest = parts is_other steps front made rest h.3 only in
    let does : MakesCall call made (after front s) = h.5 in
    let now : List ℕ = read_by id call.0 call.1.answer in
    ap (λ (xs : List Step). read_on id xs bs) h.3 ∙ read_append id front (made ++ rest) bs ∙ ap (λ (l : List ℕ). read_on id (made ++ rest) l) (all_unread id front bs h.4 known.first) ∙ read_append id made rest bs
    ∙ ap (λ (l : List ℕ). read_on id rest l) (ap (λ (xs : List Step). read_on id xs bs) does.makes ∙ input_reads id call.0 call.1.answer does.read (after front s) bs does.answers)
    ∙ calls_read id calls rest (after made (after front s)) (bs ++ now) h.6 known.last ∙ append_assoc bs now (read_in id calls)

-- ---- in order alone

not_or : (b : Bool) → (not b || true) ≡ true
not_or true = refl
not_or false = refl

ordered : (id : ℕ) (x : Step) → is_call x ≡ false → keeps_order id x ≡ true
unfolding keeps_order
ordered id (Began in_order j) h = cc
ordered id (Read in_order result j) h = cc
ordered id _ h = refl

all_ordered : (id : ℕ) (xs : List Step) → NoneOf is_call xs → list_all (λ x. keeps_order id x) xs ≡ true
all_ordered id [] h = refl
all_ordered id (x ∷ xs) h =
    both (keeps_order id x) (list_all (λ y. keeps_order id y) xs) (ordered id x (or_first (is_call x) (list_any is_call xs) h)) (all_ordered id xs (or_rest (is_call x) (list_any is_call xs) h))

unless_ordered : (id : ℕ) (b : Bool) (x : Step) → keeps_order id x ≡ true → list_all (λ y. keeps_order id y) (unless b x) ≡ true
unless_ordered id true x h = refl
unless_ordered id false x h = both (keeps_order id x) true h refl

write_ordered : (id : ℕ) (o : Option WriteError) (j n : ℕ) (body : List ℕ) → list_all (λ y. keeps_order id y) (write_steps o j n body) ≡ true
unfolding keeps_order
write_ordered id None j n body = refl
write_ordered id (Some e) j n body = refl

input_ordered : (id : ℕ) (i : Input) (read : Result (Option Chunk) ReadFault) (s : StreamsState) → list_all (λ y. keeps_order id y) (calls_of i read s) ≡ true
unfolding keeps_order
input_ordered id (input.Open time dir) read s = unless_ordered id _ _ refl
input_ordered id (input.Accept time dir) read s = unless_ordered id _ _ refl
input_ordered id (input.Write time j body) read s = write_ordered id (write_refusal j s) j _ body
input_ordered id (input.Finish time j) read s = unless_ordered id _ _ refl
input_ordered id (input.ResetSend time j code) read s = unless_ordered id _ _ refl
input_ordered id (input.StopRecv time j code) read s = unless_ordered id _ _ refl
input_ordered id (input.Read time j max) read s = both (not (j == id) || true) true (not_or (j == id)) refl
input_ordered id _ read s = refl

joined : (id : ℕ) (xs ys : List Step) → list_all (λ x. keeps_order id x) xs ≡ true → list_all (λ x. keeps_order id x) ys ≡ true → list_all (λ x. keeps_order id x) (xs ++ ys) ≡ true
joined id xs ys h k = list_all-append (λ x. keeps_order id x) xs ys ∙ both (list_all (λ x. keeps_order id x) xs) (list_all (λ x. keeps_order id x) ys) h k

pub calls_ordered : (id : ℕ) (calls : List (Input × TraceStep)) (steps : List Step) (s : StreamsState) → AreMade is_call MakesCall calls steps s → list_all (λ x. keeps_order id x) steps ≡ true
calls_ordered id [] steps s h = all_ordered id steps h
calls_ordered id (call ∷ calls) steps s h =
    let front : List Step = h.0 in
    let made : List Step = h.1 in
    let rest : List Step = h.2 in
    let does : MakesCall call made (after front s) = h.5 in
    let now : list_all (λ x. keeps_order id x) made ≡ true = ap (λ (xs : List Step). list_all (λ x. keeps_order id x) xs) does.makes ∙ input_ordered id call.0 does.read (after front s) in
    ap (λ (xs : List Step). list_all (λ x. keeps_order id x) xs) h.3
    ∙ joined id front (made ++ rest) (all_ordered id front h.4) (joined id made rest now (calls_ordered id calls rest (after made (after front s)) h.6))

-- ---- what came

came_append : (id : ℕ) (xs ys : List Step) (c : List (ℕ × ℕ)) → came_on id (xs ++ ys) c ≡ came_on id ys (came_on id xs c)
unfolding came_on
came_append id [] ys c = refl
came_append id (x ∷ xs) ys c = came_append id xs ys (with_came id x c)

uncame : (id : ℕ) (x : Step) (c : List (ℕ × ℕ)) → is_came x ≡ false → is_other x ≡ false → with_came id x c ≡ c
unfolding with_came
uncame id (StreamCame j o bs last) c h k = cc
uncame id EarlyRefused c h k = cc
uncame id _ c h k = refl

all_uncame : (id : ℕ) (xs : List Step) (c : List (ℕ × ℕ)) → NoneOf is_came xs → NoneOf is_other xs → came_on id xs c ≡ c
unfolding came_on
all_uncame id [] c h k = refl
all_uncame id (x ∷ xs) c h k =
    all_uncame id xs (with_came id x c) (or_rest (is_came x) (list_any is_came xs) h) (or_rest (is_other x) (list_any is_other xs) k)
    ∙ uncame id x c (or_first (is_came x) (list_any is_came xs) h) (or_first (is_other x) (list_any is_other xs) k)

-- a frame makes no step, where it is refused, or its bytes came
abbrev Comes : FrameValue → List Step → Type 0
Comes frame xs = (xs ≡ []) ⊎ ((id : ℕ) (c : List (ℕ × ℕ)) → came_on id xs c ≡ came_with id frame c)

stopped_comes : (o : Option Refusal) (xs : List Step) (frame : FrameValue) → ((id : ℕ) (c : List (ℕ × ℕ)) → came_on id xs c ≡ came_with id frame c) → Comes frame (unless_refused o xs)
stopped_comes None xs frame h = inr h
stopped_comes (Some r) xs frame h = inl refl

named_comes : (f : Handed) (s : StreamsState) (b : Bool) (frame : FrameValue) → ((id : ℕ) (c : List (ℕ × ℕ)) → came_on id (came f) c ≡ came_with id frame c) → Comes frame (steps_of_handed (if b then Some f else None) s)
unfolding steps_of
named_comes f s true frame h = stopped_comes (refusal_of f s) (came f) frame h
named_comes f s false frame h = inl refl

frame_comes : (frame : FrameValue) (s : StreamsState) → is_given_to_streams frame ≡ true → Comes frame (steps_of_frame frame s)
unfolding steps_of_frame steps_of came came_on with_came
frame_comes (frames.ResetStream id code size) s given = named_comes (handed.ResetStream id code size) s (nat_lt id (2 ^ 62)) (frames.ResetStream id code size) (λ j c. refl)
frame_comes (frames.StopSending id code) s given = named_comes (handed.StopSending id code) s (nat_lt id (2 ^ 62)) (frames.StopSending id code) (λ j c. refl)
frame_comes (frames.Stream id offset fin body) s given = named_comes (handed.Stream id offset body fin) s (nat_lt id (2 ^ 62)) (frames.Stream id offset fin body) (λ j c. refl)
frame_comes (frames.MaxData limit) s given = stopped_comes (refusal_of (handed.MaxData limit) s) (came (handed.MaxData limit)) (frames.MaxData limit) (λ j c. refl)
frame_comes (frames.MaxStreamData id limit) s given = named_comes (handed.MaxStreamData id limit) s (nat_lt id (2 ^ 62)) (frames.MaxStreamData id limit) (λ j c. refl)
frame_comes (frames.MaxStreams dir count) s given = stopped_comes (refusal_of (handed.MaxStreams dir count) s) (came (handed.MaxStreams dir count)) (frames.MaxStreams dir count) (λ j c. refl)
frame_comes (frames.Datagram body) s given = inl refl
frame_comes _ s given = cc

-- the frames that were taken, and what came with them
pub record TakenOf (bodies : List (List ℕ)) (steps : List Step) : Type 0 where
  pub taken : List FrameValue
  pub are : AreTaken bodies taken
  pub came : (id : ℕ) (c : List (ℕ × ℕ)) → came_on id steps c ≡ came_in id taken c

taken_by : (body : List ℕ) (bodies : List (List ℕ)) (steps made rest : List Step) (s : StreamsState) (does : MakesFrame body made s) → TakenOf bodies rest →
    ((id : ℕ) (c : List (ℕ × ℕ)) → came_on id steps c ≡ came_on id rest (came_on id made c)) → Comes does.frame (steps_of_frame does.frame s) → TakenOf (body ∷ bodies) steps
unfolding came_on
taken_by body bodies steps made rest s does more before (inl none) = record {
  taken = more.taken;
  are = inr more.are;
  came = λ id c. before id c ∙ ap (λ (l : List (ℕ × ℕ)). came_on id rest l) (ap (λ (xs : List Step). came_on id xs c) (does.makes ∙ none)) ∙ more.came id c;
}
taken_by body bodies steps made rest s does more before (inr comes) = record {
  taken = does.frame ∷ more.taken;
  are = inl (does.frame, more.taken, refl, does.spelled, more.are);
  came = λ id c. before id c ∙ ap (λ (l : List (ℕ × ℕ)). came_on id rest l) (ap (λ (xs : List Step). came_on id xs c) does.makes ∙ comes id c) ∙ more.came id (came_with id does.frame c);
}

pub taken_of : (bodies : List (List ℕ)) (steps : List Step) (s : StreamsState) → AreMade is_came MakesFrame bodies steps s → NoneOf is_other steps → TakenOf bodies steps
taken_of [] steps s h only = record { taken = []; are = refl; came = λ id c. all_uncame id steps c h only }
taken_of (body ∷ bodies) steps s h only =
    let front : List Step = h.0 in
    let made : List Step = h.1 in
    let rest : List Step = h.2 in
    let known : Parts is_other front made rest = parts is_other steps front made rest h.3 only in
    let does : MakesFrame body made (after front s) = h.5 in
    taken_by body bodies steps made rest (after front s) does (taken_of bodies rest (after made (after front s)) h.6 known.last)
    (λ id c. ap (λ (xs : List Step). came_on id xs c) h.3 ∙ came_append id front (made ++ rest) c ∙ ap (λ (l : List (ℕ × ℕ)). came_on id (made ++ rest) l) (all_uncame id front c h.4 known.first) ∙ came_append id made rest c)
    (frame_comes does.frame (after front s) does.given)

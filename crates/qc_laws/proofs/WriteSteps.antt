-- What steps of the streams write, and which streams they finish, in words of what made them.
use Rattle.std.proofs.Common.{◌≡◌, ℕ, List, [], ◌∷◌, ◌++◌, refl, ap, sym, ◌∙◌, Bool, true, false, Option, Some, None, if◌then◌else◌, append_assoc, append-nil, take}
use Rattle.std.proofs.lemmas.List.Folds.{list_any-append}
use Rattle.std.specs.Prelude.{◌==◌, ◌||◌, is_some, Result}
use Rattle.std.specs.List.{list_any}
use Rattle.qc_recv.specs.declared.recv.Chunk.{Chunk}
use Rattle.qc_send_stream.specs.declared.fault.FinishError.{FinishError}
use Rattle.qc_send_stream.specs.declared.fault.WriteError.{WriteError}
use Rattle.qc_send_stream.specs.declared.fault.WriteError.TheVariants as write
use Rattle.qc_streams.specs.declared.fault.ReadFault.{ReadFault}
use Rattle.qc_streams.specs.declared.state.StreamsState.{StreamsState}
use Rattle.qc_streams.specs.Calls.{finish_refusal, known_at, write_refusal}
use Rattle.qc_streams.specs.Carried.{with_written, written_on}
use Rattle.qc_streams.specs.Waits.{Step, EarlyRefused, Finished, Wrote, after}
use Rattle.qc_state.specs.declared.input.Input.{Input}
use Rattle.qc_state.specs.declared.input.Input.TheVariants as input
use Rattle.qc_state.specs.declared.trace.Answer.{Answer}
use Rattle.qc_state.specs.declared.trace.Step.{Step as TraceStep}
use Rattle.qc_state.specs.Moves.{is_call}
use Rattle.qc_state.specs.Streams.{call_answer, calls_of, count_written, finish_answer, unless, write_answer, write_steps}
use Rattle.qc_laws.specs.StreamsLaws.{AreMade, MakesCall, NoneOf, is_other, is_streams_call}
use Rattle.qc_laws.specs.WriteLaws.{finished_in, finishes_by, written_by, written_in}
use Rattle.qc_laws.proofs.CryptoBuffers.{or_either, or_left, or_right}
use Rattle.qc_laws.proofs.ReadSteps.{Parts, or_first, or_rest, parts}
use Rattle.qc_laws.proofs.WriteEnds.{finishes}

-- ---- what is written

pub written_append : (id : ℕ) (xs ys : List Step) (bs : List ℕ) → written_on id (xs ++ ys) bs ≡ written_on id ys (written_on id xs bs)
unfolding written_on
written_append id [] ys bs = refl
written_append id (x ∷ xs) ys bs = written_append id xs ys (with_written id x bs)

unwritten : (id : ℕ) (x : Step) (bs : List ℕ) → is_call x ≡ false → is_other x ≡ false → with_written id x bs ≡ bs
unfolding with_written
unwritten id (Wrote j n chunk) bs h k = cc
unwritten id EarlyRefused bs h k = cc
unwritten id _ bs h k = refl

all_unwritten : (id : ℕ) (xs : List Step) (bs : List ℕ) → NoneOf is_call xs → NoneOf is_other xs → written_on id xs bs ≡ bs
unfolding written_on
all_unwritten id [] bs h k = refl
all_unwritten id (x ∷ xs) bs h k =
    all_unwritten id xs (with_written id x bs) (or_rest (is_call x) (list_any is_call xs) h) (or_rest (is_other x) (list_any is_other xs) k)
    ∙ unwritten id x bs (or_first (is_call x) (list_any is_call xs) h) (or_first (is_other x) (list_any is_other xs) k)

pub one_unwritten : (id : ℕ) (x : Step) (bs : List ℕ) → is_call x ≡ false → is_other x ≡ false → written_on id (x ∷ []) bs ≡ bs
unfolding written_on
one_unwritten id x bs h k = unwritten id x bs h k

-- an input writes what its answer says
unless_writes : (id : ℕ) (b : Bool) (x : Step) (bs : List ℕ) → with_written id x bs ≡ bs → written_on id (unless b x) bs ≡ bs ++ []
unfolding written_on
unless_writes id true x bs h = sym (append-nil bs)
unless_writes id false x bs h = h ∙ sym (append-nil bs)

chunk_writes : (b : Bool) (bytes bs : List ℕ) → (if b then bs ++ bytes else bs) ≡ bs ++ (if b then bytes else [])
chunk_writes true bytes bs = refl
chunk_writes false bytes bs = sym (append-nil bs)

write_writes : (id : ℕ) (o : Option WriteError) (time j n : ℕ) (body bs : List ℕ) → written_on id (write_steps o j n body) bs ≡ bs ++ written_by id (input.Write time j body) (write_answer o n)
unfolding written_on with_written
write_writes id None time j n body bs = chunk_writes (j == id) (take n body) bs
write_writes id (Some write.Blocked) time j n body bs = sym (append-nil bs)
write_writes id (Some write.ClosedStream) time j n body bs = sym (append-nil bs)
write_writes id (Some (write.Stopped code)) time j n body bs = sym (append-nil bs)
write_writes id (Some write.OutOfMemory) time j n body bs = sym (append-nil bs)

input_writes : (id : ℕ) (i : Input) (a : Answer) (read : Result (Option Chunk) ReadFault) (s : StreamsState) (bs : List ℕ) → (is_streams_call i ≡ true → a ≡ call_answer i read s) →
    written_on id (calls_of i read s) bs ≡ bs ++ written_by id i a
unfolding written_on with_written
input_writes id (input.Open time dir) a read s bs h = unless_writes id _ _ bs refl
input_writes id (input.Accept time dir) a read s bs h = unless_writes id _ _ bs refl
input_writes id (input.Write time j body) a read s bs h =
    write_writes id (write_refusal j s) time j (count_written j body s) body bs ∙ ap (λ (x : Answer). bs ++ written_by id (input.Write time j body) x) (sym (h refl))
input_writes id (input.Finish time j) a read s bs h = unless_writes id _ _ bs refl
input_writes id (input.ResetSend time j code) a read s bs h = unless_writes id _ _ bs refl
input_writes id (input.StopRecv time j code) a read s bs h = unless_writes id _ _ bs refl
input_writes id _ a read s bs h = sym (append-nil bs)

-- so do all calls
pub calls_write : (id : ℕ) (calls : List (Input × TraceStep)) (steps : List Step) (s : StreamsState) (bs : List ℕ) → AreMade is_call MakesCall calls steps s → NoneOf is_other steps →
    written_on id steps bs ≡ bs ++ written_in id calls
calls_write id [] steps s bs h only = all_unwritten id steps bs h only ∙ sym (append-nil bs)
calls_write id (call ∷ calls) steps s bs h only =
    let front : List Step = h.0 in
    let made : List Step = h.1 in
    let rest : List Step = h.2 in
    let known : Parts is_other front made rest = parts is_other steps front made rest h.3 only in
    let does : MakesCall call made (after front s) = h.5 in
    let now : List ℕ = written_by id call.0 call.1.answer in
    ap (λ (xs : List Step). written_on id xs bs) h.3 ∙ written_append id front (made ++ rest) bs ∙ ap (λ (l : List ℕ). written_on id (made ++ rest) l) (all_unwritten id front bs h.4 known.first) ∙ written_append id made rest bs
    ∙ ap (λ (l : List ℕ). written_on id rest l) (ap (λ (xs : List Step). written_on id xs bs) does.makes ∙ input_writes id call.0 call.1.answer does.read (after front s) bs does.answers)
    ∙ calls_write id calls rest (after made (after front s)) (bs ++ now) h.6 known.last ∙ append_assoc bs now (written_in id calls)

-- ---- which streams are finished

or_none : (b : Bool) → (b || false) ≡ true → b ≡ true
or_none true h = refl
or_none false h = cc

unfinished : (id : ℕ) (x : Step) → is_call x ≡ false → finishes id x ≡ false
unfinished id (Finished j) h = cc
unfinished id _ h = refl

all_unfinished : (id : ℕ) (xs : List Step) → NoneOf is_call xs → list_any (finishes id) xs ≡ false
all_unfinished id [] h = refl
all_unfinished id (x ∷ xs) h =
    ap (λ (b : Bool). b || list_any (finishes id) xs) (unfinished id x (or_first (is_call x) (list_any is_call xs) h)) ∙ all_unfinished id xs (or_rest (is_call x) (list_any is_call xs) h)

-- an input finishes a stream only where its answer says so
unless_finishes : (id : ℕ) (b : Bool) (x : Step) → finishes id x ≡ false → list_any (finishes id) (unless b x) ≡ true → ⊥
unless_finishes id true x none e = cc
unless_finishes id false x none e = let now : finishes id x ≡ true = or_none (finishes id x) e in cc

write_finishes : (id : ℕ) (o : Option WriteError) (j n : ℕ) (body : List ℕ) → list_any (finishes id) (write_steps o j n body) ≡ true → ⊥
write_finishes id None j n body e = cc
write_finishes id (Some why) j n body e = cc

finish_finishes : (id : ℕ) (o : Option FinishError) (time j : ℕ) → list_any (finishes id) (unless (is_some o) (Finished j)) ≡ true → finishes_by id (input.Finish time j) (finish_answer o) ≡ true
finish_finishes id None time j e = or_none (j == id) e
finish_finishes id (Some why) time j e = cc

input_finishes : (id : ℕ) (i : Input) (a : Answer) (read : Result (Option Chunk) ReadFault) (s : StreamsState) → (is_streams_call i ≡ true → a ≡ call_answer i read s) →
    list_any (finishes id) (calls_of i read s) ≡ true → finishes_by id i a ≡ true
input_finishes id (input.Open time dir) a read s h e = absurd (unless_finishes id _ _ refl e)
input_finishes id (input.Accept time dir) a read s h e = absurd (unless_finishes id _ _ refl e)
input_finishes id (input.Write time j body) a read s h e = absurd (write_finishes id (write_refusal j s) j (count_written j body s) body e)
input_finishes id (input.Finish time j) a read s h e =
    ap (λ (x : Answer). finishes_by id (input.Finish time j) x) (h refl) ∙ finish_finishes id (finish_refusal (known_at j s)) time j e
input_finishes id (input.ResetSend time j code) a read s h e = absurd (unless_finishes id _ _ refl e)
input_finishes id (input.StopRecv time j code) a read s h e = absurd (unless_finishes id _ _ refl e)
input_finishes id _ a read s h e = cc

-- where steps finish a stream, one of the calls did
pub calls_finish : (id : ℕ) (calls : List (Input × TraceStep)) (steps : List Step) (s : StreamsState) → AreMade is_call MakesCall calls steps s → list_any (finishes id) steps ≡ true → finished_in id calls ≡ true
calls_finish id [] steps s h e = let none : list_any (finishes id) steps ≡ false = all_unfinished id steps h in cc
calls_finish id (call ∷ calls) steps s h e =
    let front : List Step = h.0 in
    let made : List Step = h.1 in
    let rest : List Step = h.2 in
    let does : MakesCall call made (after front s) = h.5 in
    let here : Bool = finishes_by id call.0 call.1.answer in
    let parted : list_any (finishes id) steps ≡ (list_any (finishes id) front || (list_any (finishes id) made || list_any (finishes id) rest)) =
    ap (λ (xs : List Step). list_any (finishes id) xs) h.3 ∙ list_any-append (finishes id) front (made ++ rest) ∙ ap (λ (b : Bool). list_any (finishes id) front || b) (list_any-append (finishes id) made rest) in
    let behind : (list_any (finishes id) made || list_any (finishes id) rest) ≡ true =
    ap (λ (b : Bool). b || (list_any (finishes id) made || list_any (finishes id) rest)) (sym (all_unfinished id front h.4)) ∙ sym parted ∙ e in
    or_either (list_any (finishes id) made) (list_any (finishes id) rest) (here || finished_in id calls)
    (λ now. or_left here (finished_in id calls) (input_finishes id call.0 call.1.answer does.read (after front s) does.answers (ap (λ (xs : List Step). list_any (finishes id) xs) (sym does.makes) ∙ now)))
    (λ later. or_right here (finished_in id calls) (calls_finish id calls rest (after made (after front s)) h.6 later)) behind

-- a step that is no call, behind steps, finishes nothing
pub finished_before : (id : ℕ) (xs : List Step) (x : Step) → is_call x ≡ false → list_any (finishes id) (xs ++ x ∷ []) ≡ true → list_any (finishes id) xs ≡ true
finished_before id xs x uncalled e =
    or_none (list_any (finishes id) xs) (ap (λ (b : Bool). list_any (finishes id) xs || (b || false)) (sym (unfinished id x uncalled)) ∙ sym (list_any-append (finishes id) xs (x ∷ [])) ∙ e)

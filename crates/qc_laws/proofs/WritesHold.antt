-- Over a run from new streams on, what is sealed of a stream was written on it, and its end only where it was finished.
use Rattle.std.proofs.Common.{◌≡◌, ◌⊎◌, inl, inr, ℕ, ◌+◌, List, [], ◌∷◌, ◌++◌, length, take, drop, refl, sym, ◌∙◌, subst, Bool, true, false, Option, Some, None}
use Rattle.std.specs.Prelude.{filter}
use Rattle.std.specs.List.{list_any}
use Rattle.qc_base.specs.declared.side.Side.{Side}
use Rattle.qc_frame.specs.Frame.{FrameValue}
use Rattle.qc_frame.specs.declared.frames.FrameOf.TheVariants as frames
use Rattle.qc_recovery.specs.TransportValues.{TransportValues}
use Rattle.qc_streams.specs.Carried as carried
use Rattle.qc_streams.specs.Carried.{SendsWhatWasWritten, written_on}
use Rattle.qc_streams.specs.Steps.{AllMay, IsOffered, IsSealedSo, MayStep}
use Rattle.qc_streams.specs.Streams.{new_streams}
use Rattle.qc_streams.specs.Waits.{Step, ControlSealed, PartSealed, after, after_step}
use Rattle.qc_streams.specs.declared.control.Control.{Control}
use Rattle.qc_streams.specs.declared.parts.StreamPart.{StreamPart}
use Rattle.qc_streams.specs.declared.state.StreamsState.{StreamsState}
use Rattle.qc_streams.proofs.CarriedLaw.{sends_what_was_written}
use Rattle.qc_streams.proofs.StepsLaw.{after_append, may_append, may_possible, may_taken}
use Rattle.qc_state.specs.declared.deeds.Did.{Did}
use Rattle.qc_state.specs.declared.input.Input.{Input}
use Rattle.qc_state.specs.declared.input.Input.TheVariants as input
use Rattle.qc_state.specs.declared.trace.Step.{Step as TraceStep}
use Rattle.qc_state.specs.First.{first_streams}
use Rattle.qc_state.specs.Moves.{is_call}
use Rattle.qc_state.specs.Run.{IsStep, Run, began, called, input_after, time_of}
use Rattle.qc_state.specs.Sending.{Choice}
use Rattle.qc_state.specs.StreamFrames.{control_of, control_step, sealed_steps}
use Rattle.qc_state.specs.Streams.{calls_of}
use Rattle.qc_state.specs.Types.{Types, Meaning}
use Rattle.qc_state.specs.View.{View, At}
use Rattle.qc_laws.specs.ReadLaws.{HasNewStreams}
use Rattle.qc_laws.specs.StreamsLaws.{AreMade, MakesCall, NoneOf, frames_sealed, is_other, is_sealed, is_streams_call, with_steps}
use Rattle.qc_laws.specs.WriteLaws.{AreWritten, EachWritten, IsWritten, SealsWritten, finished_in, written_in}
use Rattle.qc_laws.proofs.ReadSteps.{or_first, or_rest}
use Rattle.qc_laws.proofs.ReadsHold.{Reached, new_sound, reached_here, reached_next, step_reached}
use Rattle.qc_laws.proofs.StreamsFold.{called_did, none_called, step_over}
use Rattle.qc_laws.proofs.StreamsMade.{none_append}
use Rattle.qc_laws.proofs.WriteEnds.{EndsAt, end_offered, finishes, steps_end}
use Rattle.qc_laws.proofs.WriteSteps.{calls_finish, calls_write, finished_before, one_unwritten, written_append}

-- ---- parts among steps

-- this holds of each part of a stream that steps seal
abbrev PartsHold : (StreamPart → Type 0) → List Step → Type 0
PartsHold P [] = Unit {0}
PartsHold P (PartSealed d ∷ xs) = P d × PartsHold P xs
PartsHold P (_ ∷ xs) = PartsHold P xs

-- so it does of the steps alone with which something is sealed
parts_filtered : (P : StreamPart → Type 0) (xs : List Step) → PartsHold P xs → PartsHold P (filter is_sealed xs)
parts_filtered P [] h = tt
parts_filtered P (PartSealed d ∷ xs) h = (h.0, parts_filtered P xs h.1)
parts_filtered P (_ ∷ xs) h = parts_filtered P xs h

control_skips : (P : StreamPart → Type 0) (o : Option Control) (ys : List Step) → PartsHold P (control_step ControlSealed o ++ ys) → PartsHold P ys
control_skips P None ys h = h
control_skips P (Some c) ys h = h

-- a part has what was written
abbrev PartWritten : List (Input × TraceStep) → StreamPart → Type 0
PartWritten before d = IsWritten d.id d.part.offset d.part.last d.part.bytes before

-- so have the STREAM frames which these steps seal
frames_written : (before : List (Input × TraceStep)) (fs : List FrameValue) → PartsHold (PartWritten before) (sealed_steps fs) → AreWritten fs before
unfolding sealed_steps
frames_written before [] h = tt
frames_written before (frames.Stream id offset fin body ∷ fs) h = (h.0, frames_written before fs h.1)
frames_written before (f ∷ fs) h = frames_written before fs (control_skips (PartWritten before) (control_of f) (sealed_steps fs) h)

-- ---- steps that are no calls, behind those of calls

module _ (side : Side) (transport : TransportValues) (before : List (Input × TraceStep)) where
  abbrev New : StreamsState
  New = first_streams side transport

  -- from new streams on these steps wrote and finished what the calls did
  record Sofar (ys : List Step) : Type 0 where
    pub may : AllMay ys New
    pub written : (id : ℕ) → written_on id ys [] ≡ written_in id before
    pub finished : (id : ℕ) → list_any (finishes id) ys ≡ true → finished_in id before ≡ true

  sofar_next : (ys : List Step) (x : Step) → Sofar ys → MayStep x (after ys New) → is_call x ≡ false → is_other x ≡ false → Sofar (ys ++ x ∷ [])
  unfolding AllMay
  sofar_next ys x so may uncalled known = record {
    may = may_append ys (x ∷ []) New so.may (may, tt);
    written = λ id. written_append id ys (x ∷ []) [] ∙ one_unwritten id x (written_on id ys []) uncalled known ∙ so.written id;
    finished = λ id e. so.finished id (finished_before id ys x uncalled e);
  }

  no_streams : (id : ℕ) → EndsAt ⊥ id New
  unfolding new_streams
  no_streams id = tt

  part_written : (ys : List Step) (d : StreamPart) → Sofar ys → MayStep (PartSealed d) (after ys New) → PartWritten before d
  unfolding IsSealedSo SendsWhatWasWritten
  part_written ys d so may =
      let offered : IsOffered d (after ys New) = may.sealed in
      let holds : carried.HoldsWritten (written_on d.id ys []) d.part =
      sends_what_was_written side _ _ _ _ _ _ ys (may_possible ys New so.may) (may_taken ys New so.may) d.id offered.most d.part offered.offers in
      record {
        bytes = subst (λ (w : List ℕ). d.part.bytes ≡ take (length d.part.bytes) (drop d.part.offset w)) (so.written d.id) holds.bytes;
        finished = λ last. so.finished d.id (told (end_offered _ d.id (after ys New) offered.most d.part (steps_end ⊥ d.id ys New so.may (new_sound side transport) (no_streams d.id)) offered.offers last));
        end = λ last. subst (λ (w : List ℕ). d.part.offset + length d.part.bytes ≡ length w) (so.written d.id) (holds.end last);
      }
    where
      told : ⊥ ⊎ (list_any (finishes d.id) ys ≡ true) → list_any (finishes d.id) ys ≡ true
      told (inl f) = absurd f
      told (inr e) = e

  one_more : (ys : List Step) (x : Step) (xs : List Step) → AllMay xs (after_step x (after ys New)) → AllMay xs (after (ys ++ x ∷ []) New)
  unfolding after
  one_more ys x xs may = subst (λ (s : StreamsState). AllMay xs s) (sym (after_append ys (x ∷ []) New)) may

  steps_hold : (ys xs : List Step) → Sofar ys → AllMay xs (after ys New) → NoneOf is_call xs → NoneOf is_other xs → PartsHold (PartWritten before) xs
  unfolding AllMay
  steps_hold ys [] so may uncalled known = tt
  steps_hold ys (PartSealed d ∷ xs) so may uncalled known =
      (part_written ys d so may.0, steps_hold (ys ++ PartSealed d ∷ []) xs (sofar_next ys (PartSealed d) so may.0 refl refl) (one_more ys (PartSealed d) xs may.1) uncalled known)
  steps_hold ys (x ∷ xs) so may uncalled known =
      steps_hold (ys ++ x ∷ []) xs (sofar_next ys x so may.0 (or_first (is_call x) (list_any is_call xs) uncalled) (or_first (is_other x) (list_any is_other xs) known)) (one_more ys x xs may.1)
      (or_rest (is_call x) (list_any is_call xs) uncalled) (or_rest (is_other x) (list_any is_other xs) known)

  -- so it is behind what calls reached
  reached_sofar : (s : StreamsState) (r : Reached before New s) → Sofar r.steps
  reached_sofar s r = record {
    may = r.may;
    written = λ id. calls_write id before r.steps New [] r.called r.only;
    finished = λ id e. calls_finish id before r.steps New r.called e;
  }

  behind_written : (s : StreamsState) (r : Reached before New s) (xs : List Step) (fs : List FrameValue) → AllMay xs s → NoneOf is_call xs → NoneOf is_other xs → filter is_sealed xs ≡ sealed_steps fs → AreWritten fs before
  behind_written s r xs fs may uncalled known sealed =
      frames_written before fs (subst (λ (zs : List Step). PartsHold (PartWritten before) zs) sealed
      (parts_filtered (PartWritten before) xs (steps_hold r.steps xs (reached_sofar s r) (subst (λ (x : StreamsState). AllMay xs x) r.leads may) uncalled known)))

-- ---- inputs

-- the steps of an input that is no call of the streams hold no call
none_made : (call : Input × TraceStep) (steps : List Step) (s : StreamsState) → is_streams_call call.0 ≡ false → AreMade is_call MakesCall (call ∷ []) steps s → NoneOf is_call steps
none_made call steps s none h =
    let does : MakesCall call h.1 (after h.0 s) = h.5 in
    let unmade : NoneOf is_call h.1 = subst (λ (xs : List Step). NoneOf is_call xs) (none_called call.0 does.read (after h.0 s) none ∙ sym does.makes) refl in
    subst (λ (xs : List Step). NoneOf is_call xs) (sym h.3) (none_append is_call h.0 (h.1 ++ h.2) h.4 (none_append is_call h.1 h.2 unmade h.6))

module _ {t : Types} where
  -- one that is a call has no deeds
  called_deeds : (m : Meaning t) (i : Input) (choice : Choice) (a : At t) → is_streams_call i ≡ true → (input_after m i choice a).did ≡ a.did
  unfolding input_after
  called_deeds m (input.Datagram time remote ecn bytes) choice a h = cc
  called_deeds m (input.Timeout time) choice a h = cc
  called_deeds m (input.Transmit time max) choice a h = cc
  called_deeds m (input.Close time code reason) choice a h = cc
  called_deeds m (input.Ping time) choice a h = cc
  called_deeds m (input.Update time) choice a h = cc
  called_deeds m (input.SendDatagram time body) choice a h = cc
  called_deeds m (input.RecvDatagram time) choice a h = cc
  called_deeds m (input.Identifiers time given) choice a h = cc
  called_deeds m i choice a h = called_did (calls_of i choice.read a.state.lower.streams) a

module _ (side : Side) (transport : TransportValues) {t : Types} (m : Meaning t) where
  step_written : (k : ℕ) (before : List (Input × TraceStep)) (s : View t) (i : Input) (x : TraceStep) (s' : View t) → Reached before (first_streams side transport) s.lower.streams → IsStep m k s i x s' → AreWritten (frames_sealed x.did) before
  unfolding called began
  step_written k before s i x s' r h = by (is_streams_call i) refl
    where
      by : (b : Bool) → is_streams_call i ≡ b → AreWritten (frames_sealed x.did) before
      by true is = subst (λ (ds : List Did). AreWritten (frames_sealed ds) before) (sym (h.deeds ∙ called_deeds m i h.choice (began s (time_of i)) is)) tt
      by false is =
          let o = step_over m k s i x s' h in
          behind_written side transport before s.lower.streams r o.steps (frames_sealed x.did) o.are.may (none_made (i, x) o.steps s.lower.streams is o.are.called) o.are.only o.are.sealed

  writes_from : (k : ℕ) (before : List (Input × TraceStep)) (s : View t) (is : List Input) (xs : List TraceStep) (s' : View t) → Reached before (first_streams side transport) s.lower.streams → Run m k s is xs s' →
      EachWritten before (with_steps is xs)
  unfolding Run
  writes_from k before s [] [] s' r goes = tt
  writes_from k before s (i ∷ is) (x ∷ xs) s' r goes =
      let mid : View t = goes.0 in
      let more : Reached (before ++ (i, x) ∷ []) (first_streams side transport) mid.lower.streams =
      reached_next before ((i, x) ∷ []) (first_streams side transport) s.lower.streams mid.lower.streams r (step_reached m k s i x mid goes.1) in
      (step_written k before s i x mid r goes.1, writes_from (k + 1) (before ++ (i, x) ∷ []) mid is xs s' more goes.2)
  writes_from k before s [] (x ∷ xs) s' r goes = absurd goes
  writes_from k before s (i ∷ is) [] s' r goes = absurd goes

module _ {t : Types} where
  pub run_writes : (m : Meaning t) (k : ℕ) (s : View t) (is : List Input) (xs : List TraceStep) (s' : View t) → Run m k s is xs s' → HasNewStreams s → SealsWritten is xs
  unfolding SealsWritten
  run_writes m k s is xs s' r new = writes_from new.0 new.1 m k [] s is xs s' (reached_here (first_streams new.0 new.1) s.lower.streams new.2) r

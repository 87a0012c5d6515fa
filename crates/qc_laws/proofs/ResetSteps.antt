-- Which streams steps of the streams reset, in words of what made them.
use Rattle.std.proofs.Common.{◌≡◌, ◌∙◌, ℕ, List, [], ◌∷◌, ◌++◌, refl, ap, sym, Bool, true, false, Option, Some, None, cond}
use Rattle.std.proofs.lemmas.Bool.{false≢true}
use Rattle.std.specs.Prelude.{◌==◌, ◌||◌, Result}
use Rattle.std.specs.List.{list_any}
use Rattle.qc_base.specs.declared.varint.VarInt.{VarInt}
use Rattle.qc_recv.specs.declared.recv.Chunk.{Chunk}
use Rattle.qc_send_stream.specs.declared.fault.WriteError.{WriteError}
use Rattle.qc_streams.specs.declared.fault.ReadFault.{ReadFault}
use Rattle.qc_streams.specs.declared.state.StreamsState.{StreamsState}
use Rattle.qc_streams.specs.Calls.{bars_reset, known_at, write_refusal}
use Rattle.qc_streams.specs.Waits.{Step, WasReset, after}
use Rattle.qc_state.specs.declared.input.Input.{Input}
use Rattle.qc_state.specs.declared.input.Input.TheVariants as input
use Rattle.qc_state.specs.declared.trace.Answer.{Answer}
use Rattle.qc_state.specs.declared.trace.Step.{Step as TraceStep}
use Rattle.qc_state.specs.Moves.{is_call}
use Rattle.qc_state.specs.Streams.{call_answer, calls_of, closed_answer, count_written, unless, write_steps}
use Rattle.qc_laws.specs.BytesLaws.{reset_in, resets_by}
use Rattle.qc_laws.specs.StreamsLaws.{AreMade, MakesCall, NoneOf, is_streams_call}
use Rattle.qc_laws.proofs.BytePlaces.{reset_by}
use Rattle.qc_laws.proofs.CryptoBuffers.{or_either, or_left, or_right}
use Rattle.qc_laws.proofs.ReadSteps.{or_first, or_rest}
use Rattle.qc_laws.proofs.StreamStands.{reset_on}

module _ (id : ℕ) where
  reset_append : (xs ys : List Step) (b : Bool) → reset_on id (xs ++ ys) b ≡ reset_on id ys (reset_on id xs b)
  reset_append [] ys b = refl
  reset_append (x ∷ xs) ys b = reset_append xs ys (reset_by id x b)

  uncalled : (x : Step) (b : Bool) → is_call x ≡ false → reset_by id x b ≡ b
  uncalled (WasReset code j) b h = absurd (false≢true (sym h))
  uncalled _ b h = refl

  all_uncalled : (xs : List Step) (b : Bool) → NoneOf is_call xs → reset_on id xs b ≡ b
  all_uncalled [] b h = refl
  all_uncalled (x ∷ xs) b h =
      all_uncalled xs (reset_by id x b) (or_rest (is_call x) (list_any is_call xs) h) ∙ uncalled x b (or_first (is_call x) (list_any is_call xs) h)

  -- an input resets a stream only where its answer says so
  unless_resets : (c : Bool) (x : Step) (b : Bool) → ((d : Bool) → reset_by id x d ≡ d) → reset_on id (unless c x) b ≡ b
  unless_resets true x b same = refl
  unless_resets false x b same = same b

  write_resets : (o : Option WriteError) (j n : ℕ) (body : List ℕ) (b : Bool) → reset_on id (write_steps o j n body) b ≡ b
  write_resets None j n body b = refl
  write_resets (Some why) j n body b = refl

  reset_resets : (bars : Bool) (time j : ℕ) (code : VarInt) (b : Bool) → reset_on id (unless bars (WasReset code j)) b ≡ true → (b || resets_by id (input.ResetSend time j code) (closed_answer bars)) ≡ true
  reset_resets true time j code b h = or_left b _ h
  reset_resets false time j code b h = by (j == id) h
    where
      by : (c : Bool) → cond c true b ≡ true → (b || c) ≡ true
      by true e = or_right b true refl
      by false e = or_left b false e

  input_resets : (i : Input) (a : Answer) (read : Result (Option Chunk) ReadFault) (s : StreamsState) (b : Bool) → (is_streams_call i ≡ true → a ≡ call_answer i read s) →
      reset_on id (calls_of i read s) b ≡ true → (b || resets_by id i a) ≡ true
  input_resets (input.Open time dir) a read s b h e = or_left b _ (sym (unless_resets _ _ b (λ d. refl)) ∙ e)
  input_resets (input.Accept time dir) a read s b h e = or_left b _ (sym (unless_resets _ _ b (λ d. refl)) ∙ e)
  input_resets (input.Write time j body) a read s b h e = or_left b _ (sym (write_resets (write_refusal j s) j (count_written j body s) body b) ∙ e)
  input_resets (input.Finish time j) a read s b h e = or_left b _ (sym (unless_resets _ _ b (λ d. refl)) ∙ e)
  input_resets (input.ResetSend time j code) a read s b h e =
      ap (λ (x : Answer). b || resets_by id (input.ResetSend time j code) x) (h refl) ∙ reset_resets (bars_reset (known_at j s)) time j code b e
  input_resets (input.StopRecv time j code) a read s b h e = or_left b _ (sym (unless_resets _ _ b (λ d. refl)) ∙ e)
  input_resets _ a read s b h e = or_left b _ e

  -- where steps reset a stream, one of the calls did
  pub calls_reset : (calls : List (Input × TraceStep)) (steps : List Step) (s : StreamsState) (b : Bool) → AreMade is_call MakesCall calls steps s → reset_on id steps b ≡ true → (b || reset_in id calls) ≡ true
  calls_reset [] steps s b h e = or_left b false (sym (all_uncalled steps b h) ∙ e)
  calls_reset (call ∷ calls) steps s b h e =
      let front : List Step = h.0 in
      let made : List Step = h.1 in
      let rest : List Step = h.2 in
      let does : MakesCall call made (after front s) = h.5 in
      let here : Bool = resets_by id call.0 call.1.answer in
      let parted : reset_on id steps b ≡ reset_on id rest (reset_on id made b) =
      ap (λ (xs : List Step). reset_on id xs b) h.3 ∙ reset_append front (made ++ rest) b ∙ ap (λ (c : Bool). reset_on id (made ++ rest) c) (all_uncalled front b h.4) ∙ reset_append made rest b in
      or_either (reset_on id made b) (reset_in id calls) (b || (here || reset_in id calls))
      (λ now. or_either b here (b || (here || reset_in id calls)) (λ x. or_left b _ x) (λ x. or_right b _ (or_left here _ x))
      (input_resets call.0 call.1.answer does.read (after front s) b does.answers (ap (λ (xs : List Step). reset_on id xs b) (sym does.makes) ∙ now)))
      (λ later. or_right b _ (or_right here _ later))
      (calls_reset calls rest (after made (after front s)) (reset_on id made b) h.6 (sym parted ∙ e))

-- What is sent on a stream are the bytes that were written on it, whatever happens
use Rattle.std.proofs.Common.{◌≡◌, ◌∙◌, ℕ, ◌+◌, ◌==◌, ◌≤◌, Bool, true, false, cond, List, [], ◌∷◌, ◌++◌, ◌&&◌, length, take, Option, None, Some, is_some, ap, sym, subst, arith, refl}
use Rattle.std.specs.Option.{option_map, unwrap_or}
use Rattle.std.proofs.lemmas.Bool.{false≢true}
use Rattle.std.proofs.lemmas.List.{append-nil}
use Rattle.qc_base.specs.declared.side.Dir.{Dir}
use Rattle.qc_base.specs.declared.side.Dir.TheVariants.{Bi, Uni}
use Rattle.qc_base.specs.declared.side.Side.{Side}
use Rattle.qc_send_stream.specs.Buffer.{Buffer, IsNext, part_bytes, part_offset}
use Rattle.qc_send_stream.specs.declared.send.Part.{Part}
use Rattle.qc_send_stream.specs.declared.send.SendPart.{SendPart}
use Rattle.qc_send_stream.specs.Sending.{IsOffer, end_waits, finished, is_done, new_sending, part_acked, part_lost, part_of, part_sealed, part_written, reset_acked, reset_lost, reset_sealed, was_reset}
use Rattle.qc_send_stream.specs.Written.{Wrote as BufferWrote, Sealed, Acked, Lost, Discarded, after_step as buffer_step, wrote as bytes_of}
use Rattle.qc_streams.specs.declared.control.Control.{Control}
use Rattle.qc_streams.specs.declared.control.Control.TheVariants.{Reset, Stop, MaxData, MaxStreamData, MaxStreams}
use Rattle.qc_streams.specs.declared.state.StreamsState.{StreamsState}
use Rattle.qc_streams.specs.declared.stream.Stream.{Stream}
use Rattle.qc_streams.specs.Calls.{count_taken, if_known, known, known_at, known_of, send_room}
use Rattle.qc_streams.specs.Carried.{HoldsWritten, SendsWhatWasWritten, keeps_streams, with_written, written_on}
use Rattle.qc_streams.specs.Credit.{budget}
use Rattle.qc_streams.specs.Early.{early_refused}
use Rattle.qc_streams.specs.StreamBytes.{IsOfferAt, IsOfferOf, part_end}
use Rattle.qc_streams.specs.Records.{record_of}
use Rattle.qc_streams.specs.Stream.{fresh_stream}
use Rattle.qc_streams.specs.Streams.{fresh_own, fresh_peer, new_streams}
use Rattle.qc_streams.specs.Waits.{ArePossible, IsPossible, Step, EarlyRefused, Wrote, Finished, WasReset, ControlSealed, ControlLost, ControlAcked, PartSealed, BytesLost, BytesAcked, after, after_step}
use Rattle.qc_streams.specs.Within.{AreTaken, IsTaken}
use Rattle.qc_streams.proofs.CarriedBuffer.{Traced, traced_count, traced_next, traced_nothing, traced_step, traced_still}
use Rattle.qc_streams.proofs.StepAt.{AlikeIf, ComesFrom, IsStepped, StaysOpened, SteppedAt, Steps, Gone, There, Stood, OwnOpened, PeerOpened, control_sent, if_same, sent_to}
use Rattle.qc_streams.proofs.WaitLaw.{nothing as at_first, step_ok}
use Rattle.qc_streams.proofs.WaitSteps.{Holds, was_opened}
use Rattle.qc_streams.proofs.Waits.{unopened}
use Rattle.qc_streams.proofs.Keyed.{same_id}

-- ---- a step, and the bytes that it writes

-- a step writes nothing on a stream
abbrev pub WritesNone : ℕ → Step → Type 0
WritesNone id (Wrote j n chunk) = (j == id) ≡ true → n ≡ 0
WritesNone id x = Unit {0}

none_taken : (n wanted most : ℕ) (o : Option SendPart) → o ≡ None → n ≤ count_taken wanted most o → n ≡ 0
none_taken n wanted most None none fits = omega (arith, fits)
none_taken n wanted most (Some p) none fits = absurd (cc)

-- so it does where the application doesn't know the stream
pub unknown_none : (id : ℕ) (x : Step) (s : StreamsState) → known_at id s ≡ None → IsTaken x s → WritesNone id x
unfolding IsTaken
unknown_none id (Wrote j n chunk) s unknown taken = λ same.
    none_taken n (length chunk) (budget (send_room s) s.outgoing) (known_at j s) (ap (λ (i : ℕ). known_at i s) (same_id j id same) ∙ unknown) taken
unknown_none id x s unknown taken = tt

pub take_none : (n : ℕ) (chunk : List ℕ) → n ≡ 0 → take n chunk ≡ []
take_none n chunk none = ap (λ (i : ℕ). take i chunk) none

-- where nothing was written before, nothing was after it
written_none : (id : ℕ) (x : Step) (written : List ℕ) → WritesNone id x → written ≡ [] → with_written id x written ≡ []
unfolding with_written
written_none id (Wrote j n chunk) written none empty = by (j == id) refl
  where
    by : (b : Bool) → (j == id) ≡ b → cond b (written ++ take n chunk) written ≡ []
    by true same = ap (λ (l : List ℕ). l ++ take n chunk) empty ∙ take_none n chunk (none same)
    by false other = empty
written_none id EarlyRefused written none empty = refl
written_none id x written none empty = empty

-- ---- what a step leaves of a sending side

traced_same : (id j : ℕ) (f : SendPart → SendPart) (written : List ℕ) (p : SendPart) → Traced written (f p).buffer → Traced written p.buffer
    → Traced written (if_same id j f p).buffer
traced_same id j f written p then t = by (j == id)
  where
    by : (b : Bool) → Traced written (cond b (f p) p).buffer
    by true = then
    by false = t

traced_known : (f : SendPart → SendPart) (written : List ℕ) (p : SendPart) → Traced written (f p).buffer → Traced written p.buffer
    → Traced written (if_known f p).buffer
traced_known f written p then t = by (is_done p)
  where
    by : (b : Bool) → Traced written (cond b p (f p)).buffer
    by true = t
    by false = then

traced_control : (id : ℕ) (c : Control) (f : SendPart → SendPart) (written : List ℕ) (p : SendPart) → Traced written (f p).buffer → Traced written p.buffer
    → Traced written (control_sent id c f p).buffer
traced_control id (Reset j code size) f written p then t = traced_same id j f written p then t
traced_control id (Stop j code) f written p then t = t
traced_control id (MaxData limit) f written p then t = t
traced_control id (MaxStreamData j limit) f written p then t = t
traced_control id (MaxStreams dir limit) f written p then t = t

traced_wrote : (id j n : ℕ) (chunk written : List ℕ) (p : SendPart) → (is_done p ≡ true → (j == id) ≡ true → n ≡ 0) → Traced written p.buffer
    → Traced (cond (j == id) (written ++ take n chunk) written) (if_same id j (if_known (part_written (take n chunk))) p).buffer
unfolding part_written buffer_step bytes_of
traced_wrote id j n chunk written p spares t = by (j == id) (is_done p) refl refl
  where
    by : (b d : Bool) → (j == id) ≡ b → is_done p ≡ d
        → Traced (cond b (written ++ take n chunk) written) (cond b (cond d p (part_written (take n chunk) p)) p).buffer
    by true true same done =
        subst (λ (l : List ℕ). Traced l p.buffer) (sym (ap (λ (l : List ℕ). written ++ l) (take_none n chunk (spares done same)) ∙ append-nil written)) t
    by true false same known = traced_step (BufferWrote (take n chunk)) written p.buffer t
    by false d other is = t

pub traced_sent : (id : ℕ) (x : Step) (written : List ℕ) (p : SendPart) → keeps_streams x ≡ true → (is_done p ≡ true → WritesNone id x) → Traced written p.buffer
    → Traced (with_written id x written) (sent_to id x p).buffer
unfolding keeps_streams with_written sent_to finished was_reset reset_sealed reset_lost reset_acked part_sealed part_lost part_acked buffer_step bytes_of
traced_sent id (Wrote j n chunk) written p keeps spares t = traced_wrote id j n chunk written p spares t
traced_sent id EarlyRefused written p keeps spares t = absurd (false≢true keeps)
traced_sent id (Finished j) written p keeps spares t = traced_same id j (if_known finished) written p (traced_known finished written p t t) t
traced_sent id (WasReset code j) written p keeps spares t =
    traced_same id j (if_known (was_reset code)) written p (traced_known (was_reset code) written p (traced_still Discarded written p.buffer refl t) t) t
traced_sent id (ControlSealed c) written p keeps spares t = traced_control id c reset_sealed written p t t
traced_sent id (ControlLost c) written p keeps spares t = traced_control id c reset_lost written p t t
traced_sent id (ControlAcked c) written p keeps spares t = traced_control id c reset_acked written p t t
traced_sent id (PartSealed d) written p keeps spares t =
    traced_same id d.id (part_sealed d.part.offset (part_end d.part) d.part.last) written p
    (traced_still (Sealed d.part.offset (part_end d.part)) written p.buffer refl t) t
traced_sent id (BytesLost j start stop last) written p keeps spares t =
    traced_same id j (part_lost start stop last) written p (traced_still (Lost start stop) written p.buffer refl t) t
traced_sent id (BytesAcked j start stop last) written p keeps spares t =
    traced_same id j (part_acked start stop last) written p (traced_still (Acked start stop) written p.buffer refl t) t
traced_sent id x written p keeps spares t = t

-- the same, where there is a sending side
abbrev pub TracedIf : List ℕ → Option SendPart → Type 0
TracedIf written None = Unit {0}
TracedIf written (Some p) = Traced written p.buffer

traced_side : (id : ℕ) (x : Step) (written : List ℕ) (o next : Option SendPart) → AlikeIf (option_map (sent_to id x) o) next → keeps_streams x ≡ true
    → ((p : SendPart) → o ≡ Some p → is_done p ≡ true → WritesNone id x) → TracedIf written o → TracedIf (with_written id x written) next
traced_side id x written None None alike keeps spares t = tt
traced_side id x written None (Some q) alike keeps spares t = absurd alike
traced_side id x written (Some p) None alike keeps spares t = absurd alike
traced_side id x written (Some p) (Some q) alike keeps spares t =
    subst (λ (b : Buffer). Traced (with_written id x written) b) (sym alike.buffer) (traced_sent id x written p keeps (spares p refl) t)

-- ---- what a step leaves of a stream

-- what holds of the bytes that were written on a stream, by whether it was opened: its buffer came from them, and there are none where it
-- wasn't opened
abbrev pub Carries : Bool → List ℕ → Option Stream → Type 0
Carries opened written None = opened ≡ false → written ≡ []
Carries opened written (Some st) = TracedIf written st.sending

-- the same of the stream with an id
abbrev pub CarriesAt : ℕ → List ℕ → StreamsState → Type 0
CarriesAt id written s = Carries (was_opened s.side s.own s.peer id) written (record_of id s.records)

own_traced : (dir : Dir) (s : StreamsState) → TracedIf [] (fresh_own dir s).sending
unfolding fresh_stream new_sending
own_traced Bi s = traced_nothing
own_traced Uni s = traced_nothing

peer_traced : (dir : Dir) (s : StreamsState) → TracedIf [] (fresh_peer dir s).sending
unfolding fresh_stream new_sending
peer_traced Bi s = traced_nothing
peer_traced Uni s = tt

pub done_unknown : (id : ℕ) (s : StreamsState) (st : Stream) (p : SendPart) → record_of id s.records ≡ Some st → st.sending ≡ Some p → is_done p ≡ true
    → known_at id s ≡ None
unfolding known_at
done_unknown id s st p is sends done =
    ap (λ (o : Option Stream). known_of o) is ∙ ap (λ (o : Option SendPart). known o) sends ∙ ap (λ (b : Bool). cond b None (Some p)) done

pub absent : (id : ℕ) (s : StreamsState) → Holds s → was_opened s.side s.own s.peer id ≡ false → record_of id s.records ≡ None
absent id s holds new = unopened (was_opened s.side s.own s.peer) id s.records s.blocked holds new

-- nothing was written, nor is by the step, where the stream wasn't opened
pub new_empty : (id : ℕ) (written : List ℕ) (s : StreamsState) → Holds s → was_opened s.side s.own s.peer id ≡ false → CarriesAt id written s → written ≡ []
new_empty id written s holds new h =
    subst (λ (o : Option Stream). Carries (was_opened s.side s.own s.peer id) written o) (absent id s holds new) h new

pub new_none : (id : ℕ) (x : Step) (s : StreamsState) → Holds s → was_opened s.side s.own s.peer id ≡ false → IsTaken x s → WritesNone id x
unfolding known_at
new_none id x s holds new taken = unknown_none id x s (ap (λ (o : Option Stream). known_of o) (absent id s holds new)) taken

fresh_carries : (id : ℕ) (x : Step) (written : List ℕ) (s : StreamsState) (st next : Stream) → TracedIf [] st.sending → was_opened s.side s.own s.peer id ≡ false
    → IsStepped id x st next → keeps_streams x ≡ true → Holds s → IsTaken x s → CarriesAt id written s → TracedIf (with_written id x written) next.sending
fresh_carries id x written s st next fresh new stepped keeps holds taken h =
    traced_side id x written st.sending next.sending stepped.sending keeps (λ p is done. new_none id x s holds new taken)
    (subst (λ (l : List ℕ). TracedIf l st.sending) (sym (new_empty id written s holds new h)) fresh)

there_carries : (id : ℕ) (x : Step) (written : List ℕ) (s : StreamsState) (st next : Stream) → ComesFrom id s st → IsStepped id x st next
    → keeps_streams x ≡ true → Holds s → IsTaken x s → CarriesAt id written s → TracedIf (with_written id x written) next.sending
there_carries id x written s st next (Stood is) stepped keeps holds taken h =
    traced_side id x written st.sending next.sending stepped.sending keeps
    (λ p sends done. unknown_none id x s (done_unknown id s st p is sends done) taken)
    (subst (λ (o : Option Stream). Carries (was_opened s.side s.own s.peer id) written o) is h)
there_carries id x written s st next (OwnOpened dir is new) stepped keeps holds taken h =
    fresh_carries id x written s st next (subst (λ (z : Stream). TracedIf [] z.sending) (sym is) (own_traced dir s)) new stepped keeps holds taken h
there_carries id x written s st next (PeerOpened dir is new) stepped keeps holds taken h =
    fresh_carries id x written s st next (subst (λ (z : Stream). TracedIf [] z.sending) (sym is) (peer_traced dir s)) new stepped keeps holds taken h

-- ---- what may be sent

ending : (a : ℕ) (b : Bool) (n m : ℕ) → m ≡ a → (b && (n == m)) ≡ true → n ≡ a
ending a true n m same is = same_id n m is ∙ same
ending a false n m same is = absurd (false≢true is)

some_part : (part other : Part) → Some part ≡ Some other → other ≡ part
some_part part other is = sym (ap (λ (o : Option Part). unwrap_or o part) is)

part_holds : (written : List ℕ) (p : SendPart) (most : ℕ) (bytes : Option (ℕ × List ℕ)) (part : Part) → IsNext most p.buffer bytes → Some part ≡ part_of bytes p
    → Traced written p.buffer → HoldsWritten written part
unfolding part_bytes part_offset
part_holds written p most None part next is t = by (end_waits p.end) is
  where
    by : (b : Bool) → Some part ≡ cond b (Some (record { offset = p.buffer.written; bytes = []; last = true })) None → HoldsWritten written part
    by true is = subst (λ (z : Part). HoldsWritten written z) (some_part part _ is) (record {
      bytes = refl;
      end = λ last. omega (arith, traced_count written p.buffer t);
    })
    by false is = absurd (cc)
part_holds written p most (Some q) part next is t = subst (λ (z : Part). HoldsWritten written z) (some_part part _ is) (record {
  bytes = traced_next written p.buffer most (Some q) next t;
  end = λ last. ending (length written) (is_some p.end) (q.0 + length q.1) p.buffer.written (traced_count written p.buffer t) last;
})

side_holds : (written : List ℕ) (o : Option SendPart) (most : ℕ) (part : Part) → IsOfferOf most o (Some part) → TracedIf written o → HoldsWritten written part
unfolding IsOfferOf IsOffer
side_holds written None most part offer t = absurd (cc)
side_holds written (Some p) most part offer t = by (is_some p.reset) offer.2
  where
    by : (b : Bool) → Some part ≡ cond b None (part_of offer.0 p) → HoldsWritten written part
    by true is = absurd (cc)
    by false is = part_holds written p most offer.0 part offer.1 is t

stream_holds : (opened : Bool) (written : List ℕ) (o : Option Stream) (most : ℕ) (part : Part) → IsOfferAt most o (Some part) → Carries opened written o
    → HoldsWritten written part
unfolding IsOfferAt
stream_holds opened written None most part offer h = absurd (cc)
stream_holds opened written (Some st) most part offer h = side_holds written st.sending most part offer h

-- ---- each step, and all of them

module _ (steps : Steps) (stays : StaysOpened) where
  -- a stream that isn't there after a step
  gone_carries : (id : ℕ) (x : Step) (written : List ℕ) (s : StreamsState) → IsPossible x → keeps_streams x ≡ true → Holds s → IsTaken x s
      → CarriesAt id written s → was_opened (after_step x s).side (after_step x s).own (after_step x s).peer id ≡ false → with_written id x written ≡ []
  gone_carries id x written s can keeps holds taken h gone = by (was_opened s.side s.own s.peer id) refl
    where
      by : (b : Bool) → was_opened s.side s.own s.peer id ≡ b → with_written id x written ≡ []
      by true old = absurd (false≢true (sym gone ∙ stays id x s can keeps old))
      by false new = written_none id x written (new_none id x s holds new taken) (new_empty id written s holds new h)

  -- a step by which early data isn't refused
  kept_carries : (id : ℕ) (x : Step) (written : List ℕ) (s : StreamsState) → IsPossible x → keeps_streams x ≡ true → Holds s → IsTaken x s
      → CarriesAt id written s → CarriesAt id (with_written id x written) (after_step x s)
  kept_carries id x written s can keeps holds taken h = by (steps id x s can holds)
    where
      by : SteppedAt id x s → CarriesAt id (with_written id x written) (after_step x s)
      by (Gone none why) =
          subst (λ (o : Option Stream). Carries (was_opened (after_step x s).side (after_step x s).own (after_step x s).peer id) (with_written id x written) o)
          (sym none) (gone_carries id x written s can keeps holds taken h)
      by (There st next from stepped is) =
          subst (λ (o : Option Stream). Carries (was_opened (after_step x s).side (after_step x s).own (after_step x s).peer id) (with_written id x written) o)
          (sym is) (there_carries id x written s st next from stepped keeps holds taken h)

  -- early data is refused
  refused_carries : (id : ℕ) (written : List ℕ) (s : StreamsState) → CarriesAt id (with_written id EarlyRefused written) (after_step EarlyRefused s)
  unfolding with_written after_step early_refused
  refused_carries id written s = λ new. refl

  pub step_carries : (id : ℕ) (x : Step) (written : List ℕ) (s : StreamsState) → IsPossible x → Holds s → IsTaken x s → CarriesAt id written s
      → CarriesAt id (with_written id x written) (after_step x s)
  unfolding keeps_streams
  step_carries id EarlyRefused written s can holds taken h = refused_carries id written s
  step_carries id x written s can holds taken h = kept_carries id x written s can refl holds taken h

  after_carries : (id : ℕ) (xs : List Step) (written : List ℕ) (s : StreamsState) → ArePossible xs → AreTaken xs s → Holds s → CarriesAt id written s
      → CarriesAt id (written_on id xs written) (after xs s)
  unfolding ArePossible AreTaken written_on after
  after_carries id [] written s can taken holds h = h
  after_carries id (x ∷ xs) written s can taken holds h =
      after_carries id xs (with_written id x written) (after_step x s) can.1 taken.1 (step_ok x s can.0 holds)
      (step_carries id x written s can.0 holds taken.0 h)

  -- whatever happened, each part that a stream may give next holds the bytes that were written there
  pub sends_written : (side : Side) (uni bi window stream_window send_window : ℕ) (fair : Bool) (xs : List Step)
      → SendsWhatWasWritten (new_streams side uni bi window stream_window send_window fair) xs
  unfolding SendsWhatWasWritten new_streams
  sends_written side uni bi window stream_window send_window fair xs can taken id most part offer =
      let s : StreamsState = new_streams side uni bi window stream_window send_window fair in
      stream_holds (was_opened (after xs s).side (after xs s).own (after xs s).peer id) (written_on id xs [])
      (record_of id (after xs s).records) most part offer (after_carries id xs [] s can taken (at_first _) (λ new. refl))

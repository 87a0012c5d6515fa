-- What counts as received is the sum of the greatest ends that came, whatever happens
use Rattle.std.proofs.Common.{◌≡◌, ◌∙◌, ℕ, ◌+◌, ◌-◌, ◌^◌, ◌<◌, ◌==◌, Bool, true, false, cond, not, max, List, [], ◌∷◌, length, Option, None, Some, is_some, ap, sym, subst, arith, refl}
use Rattle.std.specs.Option.{option_map}
use Rattle.std.proofs.lemmas.Bool.{eq-eqb, false≢true}
use Rattle.qc_base.specs.declared.side.Dir.{Dir}
use Rattle.qc_base.specs.declared.side.Dir.TheVariants.{Bi, Uni}
use Rattle.qc_base.specs.declared.side.Side.{Side}
use Rattle.qc_recv.specs.declared.fault.Refusal.{Refusal as SideRefusal}
use Rattle.qc_recv.specs.declared.recv.Recv.{Recv}
use Rattle.qc_recv.specs.Receiving.{is_ended, reset_asked, reset_refusal, reset_taken, stop_asked, stream_refusal, stream_taken}
use Rattle.qc_streams.specs.declared.state.StreamsState.{StreamsState}
use Rattle.qc_streams.specs.declared.stream.Stream.{Stream}
use Rattle.qc_streams.specs.Calls.{after_read, gives, reading_begun, resets, sends, wrote}
use Rattle.qc_streams.specs.Carried.{keeps_streams}
use Rattle.qc_streams.specs.Counts.{saturated}
use Rattle.qc_streams.specs.Credit.{new_incoming, room, tallied, window_set, with_totals, with_window}
use Rattle.qc_streams.specs.Early.{credit_anew, early_refused}
use Rattle.qc_streams.specs.Events.{first_dropped}
use Rattle.qc_streams.specs.Frames.{comes, limit_came, receive_refusal, reset_came, stop_came, stream_came, stream_limit_came, streams_limit_came}
use Rattle.qc_streams.specs.Owed.{polled, told_opened}
use Rattle.qc_streams.specs.StreamBytes.{bytes_acked, bytes_gone, bytes_lost, bytes_taken}
use Rattle.qc_streams.specs.Records.{changed, record_of}
use Rattle.qc_streams.specs.Settings.{max_concurrent_set, priority_set, receive_window_set, send_window_set}
use Rattle.qc_streams.specs.Stream.{fresh_stream, limit_taken, refusal_at, side_refusal, stop_taken, totals_at, totals_if, totals_of, with_receiving, with_sending}
use Rattle.qc_streams.specs.Streams.{accepted_one, counted, dir_of, fresh_own, fresh_peer, is_peer_unopened, limits_set, met, new_streams, opened_own, opened_with, target, told_if}
use Rattle.qc_streams.specs.Tied.{CountsWhatCame, all_ends, end_on, end_raised, ends_came, may_come, may_come_on, with_end}
use Rattle.qc_streams.specs.Queues.{queued, touched}
use Rattle.qc_streams.specs.Waits.{ArePossible, IsPossible, Step, LimitsKnown, EarlyRefused, Closed, Failed, Opened, Accepted, Wrote, Refused, Finished, WasReset, Began, Read, Stopped, ResetAsked, PrioritySet, SendWindowSet, ReceiveWindowSet, ConcurrentSet, Polled, StreamCame, ResetCame, StopCame, StreamLimitCame, StreamsLimitCame, LimitCame, MarksFiled, ControlSealed, ControlLost, ControlAcked, PartSealed, BytesLost, BytesAcked, after, after_step}
use Rattle.qc_streams.specs.Within.{AreTaken, IsTaken}
use Rattle.qc_streams.specs.Writable.{awaits, passed, watched}
use Rattle.qc_streams.proofs.Beside.{acked_beside, all_filed_beside, lost_beside, met_beside, part_beside, refused_beside, sealed_beside, settled_beside, told_telling}
use Rattle.qc_streams.proofs.CameSide.{IsOther, SideLine, asked_greatest, came_keeps, fresh_line, kept_line, raised_here, raised_other, raised_sum, read_greatest, reset_line, reset_still, stop_greatest, stream_line, stream_still}
use Rattle.qc_streams.proofs.CarriedWritten.{absent}
use Rattle.qc_streams.proofs.StaysOpened.{opened_then, settled_more, stays_opened}
use Rattle.qc_streams.proofs.StaysOpened as stays
use Rattle.qc_streams.proofs.StepAt.{ComesFrom, SteppedAt, Gone, There, Stood, OwnOpened, PeerOpened, came_to}
use Rattle.qc_streams.proofs.SteppedAt.{Later, Left, Kept, settled_follows}
use Rattle.qc_streams.proofs.SteppedLaw.{steps}
use Rattle.qc_streams.proofs.SteppedOpened.{met_order, was_not_opened}
use Rattle.qc_streams.proofs.WaitLaw.{nothing as at_first, step_ok}
use Rattle.qc_streams.proofs.WaitOpened.{met_ok}
use Rattle.qc_streams.proofs.WaitSteps.{Holds, was_opened}
use Rattle.qc_streams.proofs.Waits.{here}
use Rattle.qc_streams.proofs.WithinSteps.{fresh_none, not_refused, opened_here}
use Rattle.qc_streams.proofs.Keyed.{same_id}

-- ---- the line of a stream

-- what holds of a stream's receiving side and of the greatest end that counts for it
abbrev SideIf : ℕ → Option Recv → Type 0
SideIf n None = Unit {0}
SideIf n (Some r) = SideLine n r

-- the same of a stream, by whether it was opened; none came where it wasn't
abbrev LineIf : Bool → ℕ → Option Stream → Type 0
LineIf opened n None = opened ≡ false → n ≡ 0
LineIf opened n (Some st) = SideIf n st.receiving

abbrev LineAt : ℕ → List (ℕ × ℕ) → StreamsState → Type 0
LineAt id ends s = LineIf (was_opened s.side s.own s.peer id) (end_on id ends) (record_of id s.records)

new_line : (id : ℕ) (ends : List (ℕ × ℕ)) (s : StreamsState) → Holds s → was_opened s.side s.own s.peer id ≡ false → LineAt id ends s → end_on id ends ≡ 0
new_line id ends s holds new h =
    subst (λ (o : Option Stream). LineIf (was_opened s.side s.own s.peer id) (end_on id ends) o) (absent id s holds new) h new

own_line : (dir : Dir) (s : StreamsState) → SideIf 0 (fresh_own dir s).receiving
unfolding fresh_stream
own_line Bi s = fresh_line s.stream_window
own_line Uni s = tt

peer_line : (dir : Dir) (s : StreamsState) → SideIf 0 (fresh_peer dir s).receiving
unfolding fresh_stream
peer_line Bi s = fresh_line s.stream_window
peer_line Uni s = fresh_line s.stream_window

-- ---- a step that is no frame with an end on it

side_keeps : (id : ℕ) (x : Step) (n : ℕ) (o : Option Recv) → IsOther id x → SideIf n o → SideIf n (option_map (came_to id x) o)
side_keeps id x n None other h = tt
side_keeps id x n (Some r) other h = kept_line n r (came_to id x r) (came_keeps id x r other) h

same_end : (id : ℕ) (x : Step) (s : StreamsState) (ends : List (ℕ × ℕ)) → keeps_streams x ≡ true → IsOther id x → end_on id (with_end x s ends) ≡ end_on id ends
unfolding keeps_streams with_end
same_end id (StreamCame j o bs last) s ends keeps other = by (may_come_on (target j s))
  where
    by : (b : Bool) → end_on id (cond b (end_raised j (o + length bs) ends) ends) ≡ end_on id ends
    by true = raised_other id j (o + length bs) ends other
    by false = refl
same_end id (ResetCame j code size) s ends keeps other = by (may_come_on (target j s))
  where
    by : (b : Bool) → end_on id (cond b (end_raised j size ends) ends) ≡ end_on id ends
    by true = raised_other id j size ends other
    by false = refl
same_end id EarlyRefused s ends keeps other = absurd (false≢true keeps)
same_end id x s ends keeps other = refl

come_line : (id : ℕ) (ends : List (ℕ × ℕ)) (s : StreamsState) (st : Stream) → Holds s → ComesFrom id s st → LineAt id ends s → SideIf (end_on id ends) st.receiving
come_line id ends s st holds (Stood is) h = subst (λ (o : Option Stream). LineIf (was_opened s.side s.own s.peer id) (end_on id ends) o) is h
come_line id ends s st holds (OwnOpened dir is new) h =
    subst (λ (n : ℕ). SideIf n st.receiving) (sym (new_line id ends s holds new h)) (subst (λ (z : Stream). SideIf 0 z.receiving) (sym is) (own_line dir s))
come_line id ends s st holds (PeerOpened dir is new) h =
    subst (λ (n : ℕ). SideIf n st.receiving) (sym (new_line id ends s holds new h)) (subst (λ (z : Stream). SideIf 0 z.receiving) (sym is) (peer_line dir s))

other_line : (id : ℕ) (x : Step) (ends : List (ℕ × ℕ)) (s : StreamsState) → IsPossible x → keeps_streams x ≡ true → IsOther id x → Holds s → LineAt id ends s
    → LineAt id (with_end x s ends) (after_step x s)
other_line id x ends s can keeps other holds h =
    subst (λ (n : ℕ). LineIf (was_opened (after_step x s).side (after_step x s).own (after_step x s).peer id) n (record_of id (after_step x s).records))
    (sym (same_end id x s ends keeps other)) (by (steps id x s can holds))
  where
    gone : (b : Bool) → was_opened s.side s.own s.peer id ≡ b → was_opened (after_step x s).side (after_step x s).own (after_step x s).peer id ≡ false → end_on id ends ≡ 0
    gone true old new = absurd (false≢true (sym new ∙ stays_opened id x s can keeps old))
    gone false old new = new_line id ends s holds old h

    by : SteppedAt id x s
        → LineIf (was_opened (after_step x s).side (after_step x s).own (after_step x s).peer id) (end_on id ends) (record_of id (after_step x s).records)
    by (Gone none why) =
        subst (λ (o : Option Stream). LineIf (was_opened (after_step x s).side (after_step x s).own (after_step x s).peer id) (end_on id ends) o) (sym none)
        (gone (was_opened s.side s.own s.peer id) refl)
    by (There st next from stepped is) =
        subst (λ (o : Option Stream). LineIf (was_opened (after_step x s).side (after_step x s).own (after_step x s).peer id) (end_on id ends) o) (sym is)
        (subst (λ (o : Option Recv). SideIf (end_on id ends) o) (sym stepped.receiving)
        (side_keeps id x (end_on id ends) st.receiving other (come_line id ends s st holds from h)))

-- what is made of a stream then leaves its line
later_line : (n : ℕ) (opened : Bool) (o p : Option Stream) → Later o p → LineIf true n o → (opened ≡ false → n ≡ 0) → LineIf opened n p
later_line n opened o p (Left none sent) line new = subst (λ (q : Option Stream). LineIf opened n q) (sym none) new
later_line n opened o p (Kept st now from to receiving sending) line new =
    subst (λ (q : Option Stream). LineIf opened n q) (sym to)
    (subst (λ (r : Option Recv). SideIf n r) (sym receiving) (subst (λ (q : Option Stream). LineIf true n q) from line))

no_end : (id : ℕ) → end_on id [] ≡ 0
unfolding end_on
no_end id = refl

received_alike : (g : Recv → Recv) (st : Stream) → awaits (with_receiving g st).sending ≡ awaits st.sending
unfolding with_receiving
received_alike g st = refl

-- ---- a frame with an end on it

-- the line of the stream that a frame meets
target_line : (id : ℕ) (ends : List (ℕ × ℕ)) (s : StreamsState) → Holds s → LineAt id ends s → LineIf true (end_on id ends) (target id s)
unfolding target
target_line id ends s holds h = by (is_peer_unopened id s) refl
  where
    past : (n : ℕ) (opened : Bool) (o : Option Stream) → LineIf opened n o → LineIf true n o
    past n opened None line = λ is. absurd (false≢true (sym is))
    past n opened (Some st) line = line

    by : (b : Bool) → is_peer_unopened id s ≡ b → LineIf true (end_on id ends) (cond b (Some (fresh_peer (dir_of id) s)) (record_of id s.records))
    by true new =
        subst (λ (n : ℕ). SideIf n (fresh_peer (dir_of id) s).receiving) (sym (new_line id ends s holds (was_not_opened id s new) h)) (peer_line (dir_of id) s)
    by false old = past (end_on id ends) (was_opened s.side s.own s.peer id) (record_of id s.records) h

module _ (id end : ℕ) (g : Recv → Recv) (f : Recv → Option SideRefusal)
    (opens : (n : ℕ) (r : Recv) → is_ended r ≡ false → f r ≡ None → SideLine n r → SideLine (max n end) (g r))
    (rests : (r : Recv) → is_ended r ≡ true → g r ≡ r) where
  -- the end that counts then
  abbrev ends_then : StreamsState → List (ℕ × ℕ) → List (ℕ × ℕ)
  ends_then s ends = cond (may_come_on (target id s)) (end_raised id end ends) ends

  side_then : (ends : List (ℕ × ℕ)) (o : Option Recv) → side_refusal f o ≡ None → SideIf (end_on id ends) o
      → SideIf (end_on id (cond (may_come o) (end_raised id end ends) ends)) (option_map g o)
  side_then ends None none h = tt
  side_then ends (Some r) none h = by (is_ended r) refl
    where
      by : (b : Bool) → is_ended r ≡ b → SideLine (end_on id (cond (not b) (end_raised id end ends) ends)) (g r)
      by true is = subst (λ (q : Recv). SideLine (end_on id ends) q) (sym (rests r is)) h
      by false is = subst (λ (n : ℕ). SideLine n (g r)) (sym (raised_here id end ends (eq-eqb id id refl))) (opens (end_on id ends) r is none h)

  -- the line of the stream, once a frame changed it
  met_line : (ends : List (ℕ × ℕ)) (o : Option Stream) → refusal_at f o ≡ None → LineIf true (end_on id ends) o
      → LineIf true (end_on id (cond (may_come_on o) (end_raised id end ends) ends)) (option_map (with_receiving g) o)
  unfolding with_receiving
  met_line ends None none h = λ is. absurd (false≢true (sym is))
  met_line ends (Some st) none h = side_then ends st.receiving none h

  met_target : (s : StreamsState) → record_of id (met (with_receiving g) id s).records ≡ option_map (with_receiving g) (target id s)
  unfolding met target
  met_target s = by (is_peer_unopened id s)
    where
      by : (b : Bool)
          → record_of id (cond b (opened_with id (with_receiving g (fresh_peer (dir_of id) s)) s) (record s { records = changed (with_receiving g) id s.records })).records
          ≡ option_map (with_receiving g) (cond b (Some (fresh_peer (dir_of id) s)) (record_of id s.records))
      by true = opened_here id (with_receiving g (fresh_peer (dir_of id) s)) s
      by false = here (with_receiving g) id s.records

  -- the sum grows by what is new
  side_grows : (ends : List (ℕ × ℕ)) (o : Option Recv) → side_refusal f o ≡ None → SideIf (end_on id ends) o
      → all_ends (cond (may_come o) (end_raised id end ends) ends) ≡ all_ends ends + ((totals_of (option_map g o)).received - (totals_of o).received)
  side_grows ends None none h = omega arith
  side_grows ends (Some r) none h = by (is_ended r) refl
    where
      by : (b : Bool) → is_ended r ≡ b → all_ends (cond (not b) (end_raised id end ends) ends) ≡ all_ends ends + ((g r).greatest - r.greatest)
      by true is = let same : (g r).greatest ≡ r.greatest = ap (λ (q : Recv). q.greatest) (rests r is) in omega (arith, same)
      by false is =
          let now : max (end_on id ends) end ≡ (g r).greatest = (opens (end_on id ends) r is none h).line in
          let before : end_on id ends ≡ r.greatest = h.line in
          let sum : all_ends (end_raised id end ends) + end_on id ends ≡ all_ends ends + max (end_on id ends) end = raised_sum id end ends in
          omega (arith, now, before, sum)

  met_grows : (ends : List (ℕ × ℕ)) (o : Option Stream) → refusal_at f o ≡ None → LineIf true (end_on id ends) o
      → all_ends (cond (may_come_on o) (end_raised id end ends) ends) ≡ all_ends ends + ((totals_if (option_map (with_receiving g) o)).received - (totals_if o).received)
  unfolding with_receiving
  met_grows ends None none h = omega arith
  met_grows ends (Some st) none h = side_grows ends st.receiving none h

  -- what the stream counted before
  counted_before : (s : StreamsState) → Holds s → (totals_at id s.records).received ≡ (totals_if (target id s)).received
  unfolding totals_at target
  counted_before s holds = by (is_peer_unopened id s) refl
    where
      fresh : (dir : Dir) → 0 ≡ (totals_if (Some (fresh_peer dir s))).received
      fresh dir = sym (fresh_none dir s)

      by : (b : Bool) → is_peer_unopened id s ≡ b
          → (totals_if (record_of id s.records)).received ≡ (totals_if (cond b (Some (fresh_peer (dir_of id) s)) (record_of id s.records))).received
      by true new = ap (λ (o : Option Stream). (totals_if o).received) (absent id s holds (was_not_opened id s new)) ∙ fresh (dir_of id)
      by false old = refl

  -- what counts as received
  comes_received : (ends : List (ℕ × ℕ)) (s : StreamsState) → Holds s → receive_refusal f id s ≡ None → LineAt id ends s → s.incoming.received ≡ saturated (all_ends ends)
      → (comes g id s).incoming.received ≡ saturated (all_ends (ends_then s ends))
  unfolding comes counted tallied with_totals totals_at saturated
  comes_received ends s holds none h sum =
      let before : (totals_if (record_of id s.records)).received ≡ (totals_if (target id s)).received = counted_before s holds in
      let now : (totals_if (record_of id (met (with_receiving g) id s).records)).received ≡ (totals_if (option_map (with_receiving g) (target id s))).received =
      ap (λ (o : Option Stream). (totals_if o).received) (met_target s) in
      let grows = met_grows ends (target id s) (not_refused f id s none) (target_line id ends s holds h) in
      let same : (met (with_receiving g) id s).incoming.received ≡ s.incoming.received = (met_beside (with_receiving g) id s).received in
      (settled_beside id _).received ∙ omega (arith, before, now, grows, same, sum)

  -- the peer's stream that the frame names was opened then
  met_opened : (s : StreamsState) → id < 2 ^ 62 → Holds s → is_peer_unopened id s ≡ true
      → was_opened (met (with_receiving g) id s).side (met (with_receiving g) id s).own (met (with_receiving g) id s).peer id ≡ true
  unfolding target
  met_opened s fits holds new =
      by (was_opened (met (with_receiving g) id s).side (met (with_receiving g) id s).own (met (with_receiving g) id s).peer id) refl
    where
      there : record_of id (met (with_receiving g) id s).records ≡ Some (with_receiving g (fresh_peer (dir_of id) s))
      there =
          met_target s
          ∙ ap (λ (b : Bool). option_map (with_receiving g) (cond b (Some (fresh_peer (dir_of id) s)) (record_of id s.records))) new

      by : (b : Bool) → was_opened (met (with_receiving g) id s).side (met (with_receiving g) id s).own (met (with_receiving g) id s).peer id ≡ b → b ≡ true
      by true is = refl
      by false is =
          absurd (false≢true (ap (λ (o : Option Stream). is_some o)
          (sym (absent id (met (with_receiving g) id s) (met_ok (with_receiving g) (received_alike g) id s fits holds) is) ∙ there)))

  comes_opened : (s : StreamsState) → id < 2 ^ 62 → Holds s → is_peer_unopened id s ≡ true
      → was_opened (comes g id s).side (comes g id s).own (comes g id s).peer id ≡ true
  unfolding comes counted
  comes_opened s fits holds new =
      opened_then id (met (with_receiving g) id s) (comes g id s)
      (stays.then (met (with_receiving g) id s) _ (comes g id s) (stays.same (met (with_receiving g) id s) _ refl refl refl) (settled_more id _))
      (met_opened s fits holds new)

  -- no end counts where it wasn't opened
  new_then : (ends : List (ℕ × ℕ)) (s : StreamsState) → id < 2 ^ 62 → Holds s → LineAt id ends s
      → was_opened (comes g id s).side (comes g id s).own (comes g id s).peer id ≡ false → end_on id (ends_then s ends) ≡ 0
  unfolding target
  new_then ends s fits holds h gone = by (was_opened s.side s.own s.peer id) (is_peer_unopened id s) refl refl
    where
      by : (b c : Bool) → was_opened s.side s.own s.peer id ≡ b → is_peer_unopened id s ≡ c
          → end_on id (cond (may_come_on (cond c (Some (fresh_peer (dir_of id) s)) (record_of id s.records))) (end_raised id end ends) ends) ≡ 0
      by true c old is = absurd (false≢true (sym gone ∙ opened_then id s (comes g id s) (stays.comes_more g id s fits) old))
      by false true new is = absurd (false≢true (sym gone ∙ comes_opened s fits holds is))
      by false false new is =
          ap (λ (o : Option Stream). end_on id (cond (may_come_on o) (end_raised id end ends) ends)) (absent id s holds new) ∙ new_line id ends s holds new h

  -- the line of the stream then
  comes_line : (ends : List (ℕ × ℕ)) (s : StreamsState) → id < 2 ^ 62 → Holds s → receive_refusal f id s ≡ None → LineAt id ends s
      → LineAt id (ends_then s ends) (comes g id s)
  unfolding comes counted
  comes_line ends s fits holds none h =
      later_line (end_on id (ends_then s ends)) _ (record_of id (met (with_receiving g) id s).records) _
      ((settled_follows id (counted (totals_at id s.records) id (met (with_receiving g) id s))).later (met_order (with_receiving g) id s holds.order) id)
      (subst (λ (o : Option Stream). LineIf true (end_on id (ends_then s ends)) o) (sym (met_target s))
      (met_line ends (target id s) (not_refused f id s none) (target_line id ends s holds h)))
      (new_then ends s fits holds h)

-- ---- each step

side_same : (g : Recv → Recv) → ((r : Recv) → (g r).greatest ≡ r.greatest) → (o : Option Recv) → (totals_of (option_map g o)).received ≡ (totals_of o).received
side_same g same None = refl
side_same g same (Some r) = same r

stream_same : (g : Recv → Recv) → ((r : Recv) → (g r).greatest ≡ r.greatest) → (o : Option Stream)
    → (totals_if (option_map (with_receiving g) o)).received ≡ (totals_if o).received
unfolding with_receiving
stream_same g same None = refl
stream_same g same (Some st) = side_same g same st.receiving

-- the application reads or stops a stream: nothing comes with it
gives_received : (g : Recv → Recv) → ((r : Recv) → (g r).greatest ≡ r.greatest) → (id : ℕ) (s : StreamsState) (n : ℕ) → s.incoming.received ≡ saturated n
    → (gives g id s).incoming.received ≡ saturated n
unfolding gives counted tallied with_totals totals_at saturated
gives_received g same id s n sum =
    let now : (totals_if (record_of id (changed (with_receiving g) id s.records))).received ≡ (totals_if (record_of id s.records)).received =
    ap (λ (o : Option Stream). (totals_if o).received) (here (with_receiving g) id s.records) ∙ stream_same g same (record_of id s.records) in
    (settled_beside id _).received ∙ omega (arith, now, sum)

polled_received : (s : StreamsState) → (polled s).incoming.received ≡ s.incoming.received
unfolding polled told_opened
polled_received s = by s.peer.bi.tells s.peer.uni.tells
  where
    by : (b c : Bool) → (cond b (told_opened Bi s) (cond c (told_opened Uni s) (record s { events = first_dropped s.events }))).incoming.received ≡ s.incoming.received
    by true c = refl
    by false true = refl
    by false false = refl

-- a step that brings no end
abbrev IsNoEnd : Step → Type 0
IsNoEnd (StreamCame id o bs last) = ⊥
IsNoEnd (ResetCame id code size) = ⊥
IsNoEnd EarlyRefused = ⊥
IsNoEnd x = Unit {0}

rests_received : (x : Step) (s : StreamsState) (n : ℕ) → IsNoEnd x → s.incoming.received ≡ saturated n → (after_step x s).incoming.received ≡ saturated n
unfolding after_step limits_set opened_own accepted_one wrote resets sends queued passed touched reading_begun priority_set send_window_set receive_window_set window_set with_window max_concurrent_set stop_came stream_limit_came watched streams_limit_came limit_came bytes_lost bytes_acked bytes_gone bytes_taken told_if
rests_received (StreamCame id o bs last) s n none sum = absurd none
rests_received (ResetCame id code size) s n none sum = absurd none
rests_received EarlyRefused s n none sum = absurd none
rests_received (LimitsKnown p) s n none sum = (told_telling None _).received ∙ sum
rests_received Closed s n none sum = sum
rests_received Failed s n none sum = sum
rests_received (Opened dir) s n none sum = sum
rests_received (Accepted dir) s n none sum = sum
rests_received (Wrote id k chunk) s n none sum = sum
rests_received (Refused e id) s n none sum = (refused_beside e id s).received ∙ sum
rests_received (Finished id) s n none sum = sum
rests_received (WasReset code id) s n none sum = (told_telling None _).received ∙ sum
rests_received (Began ordered id) s n none sum = sum
rests_received (Read ordered result id) s n none sum = gives_received (after_read ordered result) (read_greatest ordered result) id s n sum
rests_received (Stopped code id) s n none sum = gives_received (stop_asked code) (stop_greatest code) id s n sum
rests_received (ResetAsked id) s n none sum = gives_received reset_asked asked_greatest id s n sum
rests_received (PrioritySet priority id) s n none sum = sum
rests_received (SendWindowSet k) s n none sum = (told_telling None _).received ∙ sum
rests_received (ReceiveWindowSet k) s n none sum = sum
rests_received (ConcurrentSet dir k) s n none sum = sum
rests_received Polled s n none sum = polled_received s ∙ sum
rests_received (StopCame id code) s n none sum = (met_beside (with_sending (stop_taken code)) id s).received ∙ sum
rests_received (StreamLimitCame id limit) s n none sum = (told_telling None _).received ∙ (met_beside (with_sending (limit_taken limit)) id s).received ∙ sum
rests_received (StreamsLimitCame dir k) s n none sum = sum
rests_received (LimitCame k) s n none sum = (told_telling None _).received ∙ sum
rests_received MarksFiled s n none sum = (all_filed_beside s.waiting.marks.ids s).received ∙ sum
rests_received (ControlSealed c) s n none sum = (sealed_beside c s).received ∙ sum
rests_received (ControlLost c) s n none sum = (lost_beside c s).received ∙ sum
rests_received (ControlAcked c) s n none sum = (acked_beside c s).received ∙ sum
rests_received (PartSealed d) s n none sum = (part_beside d s).received ∙ sum
rests_received (BytesLost id start stop last) s n none sum = sum
rests_received (BytesAcked id start stop last) s n none sum =
    (told_telling None _).received ∙ (told_telling (Some id) (bytes_gone id start stop last s)).received ∙ (settled_beside id _).received ∙ sum

-- ---- whatever happens

record Counts (ends : List (ℕ × ℕ)) (s : StreamsState) : Type 0 where
  lines : (id : ℕ) → LineAt id ends s
  sum : s.incoming.received ≡ saturated (all_ends ends)

module _ (j end : ℕ) (g : Recv → Recv) (f : Recv → Option SideRefusal) (x : Step) (ends : List (ℕ × ℕ)) (s : StreamsState) (can : IsPossible x) (holds : Holds s)
    (h : Counts ends s) where
  came_lines : ((id : ℕ) → (j == id) ≡ false → LineAt id (with_end x s ends) (after_step x s)) → LineAt j (with_end x s ends) (after_step x s)
      → (id : ℕ) → LineAt id (with_end x s ends) (after_step x s)
  came_lines others this id = by (j == id) refl
    where
      by : (b : Bool) → (j == id) ≡ b → LineAt id (with_end x s ends) (after_step x s)
      by true is = subst (λ (i : ℕ). LineAt i (with_end x s ends) (after_step x s)) (same_id j id is) this
      by false is = others id is

step_counts : (x : Step) (ends : List (ℕ × ℕ)) (s : StreamsState) → IsPossible x → Holds s → IsTaken x s → Counts ends s → Counts (with_end x s ends) (after_step x s)
unfolding IsPossible IsTaken keeps_streams with_end after_step stream_came reset_came told_if early_refused credit_anew all_ends saturated
step_counts (StreamCame j o bs last) ends s can holds taken h = record {
  lines = came_lines j (o + length bs) (stream_taken o bs last) (stream_refusal o bs last (room s.incoming)) (StreamCame j o bs last) ends s can holds h
      (λ id is. other_line id (StreamCame j o bs last) ends s can refl is holds (h.lines id))
      (comes_line j (o + length bs) (stream_taken o bs last) (stream_refusal o bs last (room s.incoming))
      (λ n r going none line. stream_line n o bs last (room s.incoming) r going none line) (stream_still o bs last) ends s can holds taken (h.lines j));
  sum = comes_received j (o + length bs) (stream_taken o bs last) (stream_refusal o bs last (room s.incoming))
      (λ n r going none line. stream_line n o bs last (room s.incoming) r going none line) (stream_still o bs last) ends s holds taken (h.lines j) h.sum;
}
step_counts (ResetCame j code size) ends s can holds taken h = record {
  lines = came_lines j size (reset_taken code size) (reset_refusal size (room s.incoming)) (ResetCame j code size) ends s can holds h
      (λ id is. other_line id (ResetCame j code size) ends s can refl is holds (h.lines id))
      (comes_line j size (reset_taken code size) (reset_refusal size (room s.incoming))
      (λ n r going none line. reset_line n code size (room s.incoming) r going none line) (reset_still code size) ends s can holds taken (h.lines j));
  sum = comes_received j size (reset_taken code size) (reset_refusal size (room s.incoming))
      (λ n r going none line. reset_line n code size (room s.incoming) r going none line) (reset_still code size) ends s holds taken (h.lines j) h.sum;
}
step_counts EarlyRefused ends s can holds taken h = record { lines = λ id new. no_end id; sum = omega arith }
step_counts x ends s can holds taken h = record {
  lines = λ id. other_line id x ends s can refl tt holds (h.lines id);
  sum = rests_received x s (all_ends ends) tt h.sum;
}

after_counts : (xs : List Step) (ends : List (ℕ × ℕ)) (s : StreamsState) → ArePossible xs → AreTaken xs s → Holds s → Counts ends s
    → Counts (ends_came xs s ends) (after xs s)
unfolding ArePossible AreTaken ends_came after
after_counts [] ends s can taken holds h = h
after_counts (x ∷ xs) ends s can taken holds h =
    after_counts xs (with_end x s ends) (after_step x s) can.1 taken.1 (step_ok x s can.0 holds) (step_counts x ends s can.0 holds taken.0 h)

first_counts : (side : Side) (uni bi window stream_window send_window : ℕ) (fair : Bool) → Counts [] (new_streams side uni bi window stream_window send_window fair)
unfolding new_streams new_incoming all_ends saturated
first_counts side uni bi window stream_window send_window fair = record { lines = λ id new. no_end id; sum = omega arith }

first_holds : (side : Side) (uni bi window stream_window send_window : ℕ) (fair : Bool) → Holds (new_streams side uni bi window stream_window send_window fair)
unfolding new_streams
first_holds side uni bi window stream_window send_window fair = at_first _

-- whatever happened, what counts as received is the sum of the greatest ends that came
pub counts_what_came : (side : Side) (uni bi window stream_window send_window : ℕ) (fair : Bool) (xs : List Step)
    → CountsWhatCame (new_streams side uni bi window stream_window send_window fair) xs
unfolding CountsWhatCame
counts_what_came side uni bi window stream_window send_window fair xs can taken =
    (after_counts xs [] (new_streams side uni bi window stream_window send_window fair) can taken (first_holds side uni bi window stream_window send_window fair)
    (first_counts side uni bi window stream_window send_window fair)).sum

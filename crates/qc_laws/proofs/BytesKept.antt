-- Over a run from new streams on, each byte that was written on a stream that wasn't reset waits, is in flight or was acknowledged, while the
-- connection is open.
use Rattle.std.proofs.Common.{◌≡◌, ◌∙◌, ◌⊎◌, inl, inr, ℕ, ◌<◌, Bool, true, false, List, [], ◌∷◌, ◌++◌, length, ap, sym, subst, refl, if◌then◌else◌}
use Rattle.std.specs.Prelude.{◌||◌, IsPermutation}
use Rattle.std.specs.List.{list_any}
use Rattle.std.proofs.lemmas.Bool.{false≢true}
use Rattle.std.proofs.lemmas.List.Sorted.{list_any-IsPermutation}
use Rattle.qc_base.specs.declared.side.SpaceId.{SpaceId}
use Rattle.qc_base.specs.declared.side.SpaceId.TheVariants.{Initial, Handshake, «Data»}
use Rattle.qc_flight.specs.Packets.{Entry}
use Rattle.qc_flight.specs.declared.sent.SentPacket.{SentPacket}
use Rattle.qc_frame.specs.Frame.{AckValue, FrameValue}
use Rattle.qc_recovery.specs.Calls.{dropped_after}
use Rattle.qc_recovery.specs.Steps.{After, FiredAfter, space_dropped}
use Rattle.qc_recovery.specs.Steps as recovery
use Rattle.qc_recovery.specs.declared.calls.Fired.{Fired}
use Rattle.qc_recovery.specs.declared.calls.Fired.TheVariants as fired
use Rattle.qc_recovery.specs.declared.recovery.Recovery.{Recovery}
use Rattle.qc_recovery.proofs.RunsSettle.{put_flight}
use Rattle.qc_streams.specs.Carried.{written_on}
use Rattle.qc_streams.specs.Finishing.{acked_on}
use Rattle.qc_streams.specs.Steps.{AllMay}
use Rattle.qc_streams.specs.Waits.{Step, PartSealed, ControlSealed, after}
use Rattle.qc_streams.specs.declared.state.StreamsState.{StreamsState}
use Rattle.qc_streams.proofs.StepsLaw.{may_possible, may_taken}
use Rattle.qc_state.specs.declared.form.Form.{Form}
use Rattle.qc_state.specs.declared.input.Input.{Input}
use Rattle.qc_state.specs.declared.lower.Lower.{Lower}
use Rattle.qc_state.specs.declared.trace.Step.{Step as TraceStep}
use Rattle.qc_state.specs.First.{first_streams}
use Rattle.qc_state.specs.Flight.{flown_packet, metas_of}
use Rattle.qc_state.specs.Forms.{number_space}
use Rattle.qc_state.specs.Headline.{deeds_of}
use Rattle.qc_state.specs.Life.{is_open}
use Rattle.qc_state.specs.Lower.{datagrams_stepped, flight_dropped, frames_sealed, ids_stepped, packet_flown, packets_settled, session_wrote, streams_stepped, timer_fired}
use Rattle.qc_state.specs.Moves.{Ack, Begin, Call, Clock, Fire, Forget, Hand, MayMove, Move, ReportAllHeard, ReportConnected, ReportDrained, ReportHeard, ReportLost, ReportNotice, ReportNotices, ReportReady, ReportStream, ReportStreams, Seal, Take, Write, life_move, lower_move, state_move, waiting_move, Renew}
use Rattle.qc_state.specs.Numbers.{next_number}
use Rattle.qc_state.specs.Offers.{begun_steps}
use Rattle.qc_state.specs.Recovering.{fired_by, settled_by}
use Rattle.qc_state.specs.Run.{Run}
use Rattle.qc_state.specs.Sending.{packet_size}
use Rattle.qc_state.specs.Spaces.{is_space}
use Rattle.qc_state.specs.StreamFrames.{acked_steps, fired_steps, lost_steps, sealed_steps}
use Rattle.qc_state.specs.Streams.{steps_of_frame}
use Rattle.qc_state.specs.Types.{Types, Meaning}
use Rattle.qc_state.specs.View.{View}
use Rattle.qc_state.specs.Waiting.{waiting_without}
use Rattle.qc_state.proofs.OpenPackets.{IsUnacked}
use Rattle.qc_state.proofs.Probed.{begun_streams}
use Rattle.qc_state.proofs.Transmitted.{IsSealable}
use Rattle.qc_laws.specs.AckedLaws.{all_acked}
use Rattle.qc_laws.specs.BytesLaws.{KeepsWritten, byte_waits, has_byte, is_held, reset_in}
use Rattle.qc_laws.specs.EndLaws.{Ends}
use Rattle.qc_laws.specs.EventLaws as events
use Rattle.qc_laws.specs.ReadLaws.{HasNewStreams}
use Rattle.qc_laws.specs.RecoveryLaws.{Kept, RecoveryStep, Sent, Settled, kept, steps_of}
use Rattle.qc_laws.specs.StreamsLaws.{is_came, is_sealed, is_settled, streams_steps, streams_told, with_steps}
use Rattle.qc_laws.specs.WriteLaws.{written_in}
use Rattle.qc_laws.proofs.CryptoBuffers.{or_either, or_left, or_more, or_right}
use Rattle.qc_laws.proofs.CryptoKept.{move_open, still_lower, unowed_by}
use Rattle.qc_laws.proofs.CryptoPlaces.{FiresIn, ack_flight, ack_other, apart_lower, fired_flight, flown_lower, rank_other, same_or}
use Rattle.qc_laws.proofs.FlownSteps.{acked_filtered, acked_held, all_flown_less, all_flown_more, flown_append, held_append, lost_flown, quiet_flown, sealed_flown}
use Rattle.qc_laws.proofs.FramesAcked.{AreQuiet, Holds, Over, acks_by, all_acked_append, run_over}
use Rattle.qc_laws.proofs.KnownMoves.{IsFiredBy, IsKnownMove, IsUncalled}
use Rattle.qc_laws.proofs.ReadsHold.{all_stay, new_sound}
use Rattle.qc_laws.proofs.ResetSteps.{calls_reset}
use Rattle.qc_laws.proofs.SpacesApart.{AreOwn, carried_own}
use Rattle.qc_laws.proofs.StreamStands.{Stands, byte_found, flown_on, new_stands, reset_on, stands_more, steps_stand}
use Rattle.qc_laws.proofs.StreamsMade.{frame_all}
use Rattle.qc_laws.proofs.StreamsSealed.{acked_all, begun_all, fired_all, settled_unsealed}
use Rattle.qc_laws.proofs.WriteSteps.{calls_write}
use Rattle.qc_state.specs.declared.keys.SpaceKeys.{SpaceKeys}

-- ---- spaces

apart_back : (x : SpaceId) → is_space x «Data» ≡ false → is_space «Data» x ≡ false
apart_back Initial h = refl
apart_back Handshake h = refl
apart_back Data h = h

apart_there : (x : SpaceId) → is_space «Data» x ≡ false → is_space x «Data» ≡ false
apart_there Initial h = refl
apart_there Handshake h = refl
apart_there Data h = h

only_first : (a b : Bool) → b ≡ false → (a || b) ≡ true → a ≡ true
only_first true b none h = refl
only_first false b none h = absurd (false≢true (sym none ∙ h))

only_second : (a b : Bool) → a ≡ false → (a || b) ≡ true → b ≡ true
only_second true b none h = absurd (false≢true (sym none))
only_second false b none h = h

came_unsealed : (x : Step) → is_came x ≡ true → is_sealed x ≡ false
came_unsealed (PartSealed d) h = absurd (false≢true h)
came_unsealed (ControlSealed c) h = absurd (false≢true h)
came_unsealed _ h = refl

module _ (id o : ℕ) where
  -- ---- one after the other

  then_held : {C : Type 0} (ys zs : List Step) (xs ws : List (RecoveryStep C)) (before here behind : Bool) →
      (flown_on id o ys before ≡ true → (here || is_held id o (all_acked xs)) ≡ true) → (flown_on id o zs here ≡ true → (behind || is_held id o (all_acked ws)) ≡ true) →
      flown_on id o (ys ++ zs) before ≡ true → (behind || is_held id o (all_acked (xs ++ ws))) ≡ true
  then_held ys zs xs ws before here behind first next h =
      ap (λ (es : List Entry). behind || is_held id o es) (all_acked_append xs ws) ∙ ap (λ (b : Bool). behind || b) (held_append id o (all_acked xs) (all_acked ws)) ∙ by (is_held id o (all_acked xs)) refl
    where
      by : (b : Bool) → is_held id o (all_acked xs) ≡ b → (behind || (is_held id o (all_acked xs) || is_held id o (all_acked ws))) ≡ true
      by true is = or_right behind _ (or_left (is_held id o (all_acked xs)) _ is)
      by false is =
          let flown : flown_on id o zs here ≡ true =
          all_flown_more id o zs (flown_on id o ys before) here (λ e. only_first here (is_held id o (all_acked xs)) is (first e)) (sym (flown_append id o ys zs before) ∙ h) in
          or_more behind (is_held id o (all_acked ws)) behind (is_held id o (all_acked xs) || is_held id o (all_acked ws)) (λ e. e) (or_right (is_held id o (all_acked xs)) _) (next flown)

  -- ---- what is acknowledged and lost

  -- a packet in flight with the byte is lost, or stays
  lost_held : (flight lost flight' : List Entry) → IsPermutation flight (lost ++ flight') → flown_on id o (lost_steps lost) (is_held id o flight) ≡ true → is_held id o flight' ≡ true
  lost_held flight lost flight' once h =
      let both = lost_flown id o lost (is_held id o flight) h in
      only_second (is_held id o lost) (is_held id o flight') both.1
      (sym (held_append id o lost flight') ∙ sym (list_any-IsPermutation (λ e. list_any (has_byte id o) e.1.stream_frames) flight (lost ++ flight') once) ∙ both.0)

  fired_held : (f : Fired) (r r' : Recovery) → FiresIn «Data» r r' f → flown_on id o (fired_steps f) (is_held id o (recovery.space_of «Data» r).flight) ≡ true → is_held id o (recovery.space_of «Data» r').flight ≡ true
  fired_held (fired.Lost space lost) r r' fires h = by (same_or «Data» space)
    where
      by : («Data» ≡ space) ⊎ (is_space «Data» space ≡ false) → is_held id o (recovery.space_of «Data» r').flight ≡ true
      by (inl is) = lost_held (recovery.space_of «Data» r).flight lost (recovery.space_of «Data» r').flight (fires.0 is) h
      by (inr other) = ap (λ (es : List Entry). is_held id o es) (fires.1 other) ∙ (lost_flown id o lost (is_held id o (recovery.space_of «Data» r).flight) h).0
  fired_held (fired.Probe space count) r r' same h = ap (λ (es : List Entry). is_held id o es) same ∙ h
  fired_held fired.Nothing r r' same h = ap (λ (es : List Entry). is_held id o es) same ∙ h

  -- or it is acknowledged
  settled_held : (flight acked lost flight' : List Entry) → IsPermutation flight (acked ++ (lost ++ flight')) ⊎ (flight' ≡ flight) → flown_on id o (acked_steps acked ++ lost_steps lost) (is_held id o flight) ≡ true →
      (is_held id o flight' || is_held id o (acked ++ [])) ≡ true
  settled_held flight acked lost flight' left h = by left
    where
      was : (is_held id o flight ≡ true) × (is_held id o lost ≡ false)
      was =
          let both = lost_flown id o lost (flown_on id o (acked_steps acked) (is_held id o flight)) (sym (flown_append id o (acked_steps acked) (lost_steps lost) (is_held id o flight)) ∙ h) in
          (all_flown_less id o is_settled settled_unsealed (acked_steps acked) (is_held id o flight) (acked_all acked) both.0, both.1)

      by : IsPermutation flight (acked ++ (lost ++ flight')) ⊎ (flight' ≡ flight) → (is_held id o flight' || is_held id o (acked ++ [])) ≡ true
      by (inl once) =
          or_either (is_held id o acked) (is_held id o (lost ++ flight')) _
          (λ e. or_right (is_held id o flight') _ (held_append id o acked [] ∙ or_left (is_held id o acked) false e))
          (λ e. or_left (is_held id o flight') _ (only_second (is_held id o lost) (is_held id o flight') was.1 (sym (held_append id o lost flight') ∙ e)))
          (sym (held_append id o acked (lost ++ flight')) ∙ sym (list_any-IsPermutation (λ e. list_any (has_byte id o) e.1.stream_frames) flight (acked ++ (lost ++ flight')) once) ∙ was.0)
      by (inr same) = or_left (is_held id o flight') _ (ap (λ (es : List Entry). is_held id o es) same ∙ was.0)

  -- ---- a packet that is sealed

  flown_held : (flight : List Entry) (n : ℕ) (packet : SentPacket) (fs : List FrameValue) → packet.stream_frames ≡ metas_of fs → flown_on id o (sealed_steps fs) (is_held id o flight) ≡ true → is_held id o (flight ++ (n, packet) ∷ []) ≡ true
  flown_held flight n packet fs is h =
      held_append id o flight ((n, packet) ∷ [])
      ∙ or_more (is_held id o flight) (list_any (has_byte id o) (metas_of fs)) (is_held id o flight) (list_any (has_byte id o) packet.stream_frames || false) (λ e. e)
      (λ e. or_left (list_any (has_byte id o) packet.stream_frames) false (ap (list_any (has_byte id o)) is ∙ e)) (sealed_flown id o fs (is_held id o flight) h)

-- ---- from one view to another

module _ {t : Types} where
  abbrev flight_of : View t → List Entry
  flight_of s = (recovery.space_of «Data» s.lower.recovery).flight

  -- While the connection is open, a byte that these steps of the streams leave in flight is in flight, or these steps of recovery acknowledge
  -- a packet with it.
  abbrev Flies : List Step → List (RecoveryStep t.C) → View t → View t → Type 0
  Flies ys xs s s' = is_open s'.life.state ≡ true →
      (is_open s.life.state ≡ true) × ((id o : ℕ) → flown_on id o ys (is_held id o (flight_of s)) ≡ true → (is_held id o (flight_of s') || is_held id o (all_acked xs)) ≡ true)

  quiet_flies : (ys : List Step) (s s' : View t) → AreQuiet ys → kept s' ≡ kept s → is_open s'.life.state ≡ is_open s.life.state → Flies ys [] s s'
  quiet_flies ys s s' quiet same stays = λ opened. (
    sym stays ∙ opened,
    λ id o h. or_left _ _ (ap (λ (k : Kept t.C). is_held id o (recovery.space_of «Data» k.recovery).flight) same ∙ quiet_flown id o ys (is_held id o (flight_of s)) quiet h),
  )

  next_flies : (ys zs : List Step) (xs ws : List (RecoveryStep t.C)) (u v w : View t) → Flies ys xs u v → Flies zs ws v w → Flies (ys ++ zs) (xs ++ ws) u w
  next_flies ys zs xs ws u v w g h = λ opened.
      let later = h opened in
      let sooner = g later.0 in
      (sooner.0, λ id o flown. then_held id o ys zs xs ws (is_held id o (flight_of u)) (is_held id o (flight_of v)) (is_held id o (flight_of w)) (sooner.1 id o) (later.1 id o) flown)

  -- ---- moves

  move_flown : (m : Meaning t) (id o : ℕ) (x : Move t) (s : View t) (b : Bool) → IsKnownMove m x s → IsUncalled x → IsUnacked x → flown_on id o (streams_steps x s) b ≡ true → b ≡ true
  unfolding streams_steps
  move_flown m id o (Take space fs) s b k c u h = absurd k
  move_flown m id o (Begin space opens) s b k c u h = all_flown_less id o is_settled settled_unsealed (begun_steps space opens s) b (begun_all space opens s) h
  move_flown m id o (Ack space n r) s b k c u h = absurd u
  move_flown m id o (Fire r) s b k c u h = all_flown_less id o is_settled settled_unsealed (fired_steps r.fired) b (fired_all r.fired) h
  move_flown m id o (Hand frame) s b k c u h = all_flown_less id o is_came came_unsealed (steps_of_frame frame s.lower.streams) b (frame_all frame s.lower.streams) h
  move_flown m id o (Call x) s b k c u h = absurd c
  move_flown m id o ReportStream s b k c u h = absurd k
  move_flown m id o ReportStreams s b k c u h = absurd k
  move_flown m id o x s b k c u h = h

  -- keys of packets other than 1-RTT packets are dropped
  forget_flies : (space : SpaceId) (s : View t) → is_space space «Data» ≡ false → Flies [] [] s (state_move (Forget space) s)
  unfolding state_move lower_move life_move flight_dropped dropped_after
  forget_flies space s known = λ opened. (
    opened,
    λ id o h. or_left _ _ (ap (λ (es : List Entry). is_held id o es)
        (put_flight «Data» space (space_dropped (recovery.space_of space s.lower.recovery)) s.lower.recovery
        ∙ ap (λ (b : Bool). if b then (space_dropped (recovery.space_of space s.lower.recovery)).flight else flight_of s) (rank_other «Data» space (apart_back space known))) ∙ h),
  )

  -- the Initial space begins anew
  renew_flies : (time : ℕ) (cid token : List ℕ) (keys : SpaceKeys t.H t.P) (s : View t) → Flies [] [] s (state_move (Renew time cid token keys) s)
  unfolding state_move lower_move life_move flight_dropped dropped_after ids_stepped
  renew_flies time cid token keys s = λ opened. (opened, λ id o h. or_left _ _ h)

  -- the loss timer fires
  fire_flies : (m : Meaning t) (r : FiredAfter t.C) (s : View t) → IsFiredBy m r s → Flies (fired_steps r.fired) [] s (state_move (Fire r) s)
  unfolding state_move lower_move life_move timer_fired streams_stepped datagrams_stepped ids_stepped fired_by
  fire_flies m r s fires = λ opened. (
    opened,
    λ id o h. or_left _ _ (fired_held id o r.fired s.lower.recovery r.recovery
        (subst (λ (a : FiredAfter t.C). FiresIn «Data» s.lower.recovery a.recovery a.fired) (sym fires.is) (fired_flight m.control «Data» _ _ s.lower.recovery s.paths.current.kept)) h),
  )

  -- what is acknowledged is told of recovery's steps by that alone, so it may be any
  other_flies : (ys : List Step) (xs : List (RecoveryStep t.C)) (s s' : View t) → Flies ys [] s s' → Flies ys xs s s'
  other_flies ys xs s s' h = λ opened.
      let both = h opened in
      (both.0, λ id o flown. or_more (is_held id o (flight_of s')) false (is_held id o (flight_of s')) (is_held id o (all_acked xs)) (λ e. e) (λ e. absurd (false≢true e)) (both.1 id o flown))

  move_flies : (m : Meaning t) (x : Move t) (s : View t) → IsKnownMove m x s → IsUncalled x → IsUnacked x → MayMove x s → Flies (streams_steps x s) (steps_of x s) s (state_move x s)
  unfolding streams_steps state_move lower_move streams_stepped ids_stepped session_wrote
  move_flies m x s k c u may = other_flies (streams_steps x s) (steps_of x s) s (state_move x s) (by x k c u may)
    where
      still : (x : Move t) → IsKnownMove m x s → IsUncalled x → IsUnacked x → MayMove x s → (lower_move x s).recovery ≡ s.lower.recovery → Flies (streams_steps x s) [] s (state_move x s)
      still x k c u may same = λ opened. (
        move_open m x s k may opened,
        λ id o h. or_left _ _ (ap (λ (r : Recovery). is_held id o (recovery.space_of «Data» r).flight) same ∙ move_flown m id o x s (is_held id o (flight_of s)) k c u h),
      )

      by : (x : Move t) → IsKnownMove m x s → IsUncalled x → IsUnacked x → MayMove x s → Flies (streams_steps x s) [] s (state_move x s)
      by (Clock time) k c u may = absurd k
      by (Take space fs) k c u may = absurd k
      by (Seal time form n size fs) k c u may = absurd k
      by (Forget space) k c u may = forget_flies space s k
      by (Renew time cid token keys) k c u may = renew_flies time cid token keys s
      by (Ack space n r) k c u may = absurd u
      by (Fire r) k c u may = fire_flies m r s k
      by (Begin space opens) k c u may = still (Begin space opens) k c u may (ap (λ (l : Lower t.S). l.recovery) (begun_streams space opens s))
      by (Write bytes keys session) k c u may = still (Write bytes keys session) k c u may refl
      by ReportReady k c u may = absurd k
      by ReportConnected k c u may = absurd k
      by ReportHeard k c u may = absurd k
      by ReportAllHeard k c u may = absurd k
      by ReportStream k c u may = absurd k
      by ReportStreams k c u may = absurd k
      by ReportLost k c u may = absurd k
      by ReportNotice k c u may = absurd k
      by ReportNotices k c u may = absurd k
      by ReportDrained k c u may = absurd k
      by x k c u may = still x k c u may (still_lower x s tt)

  -- an ACK
  ack_flies : (m : Meaning t) (time : ℕ) (space : SpaceId) (ack : AckValue) (s : View t) →
      let left : After t.C = settled_by m time space ack s in Flies (acked_steps left.acked ++ lost_steps left.lost) (Settled space ack left ∷ []) s (state_move (Ack space ack.largest left) s)
  unfolding state_move lower_move life_move packets_settled streams_stepped datagrams_stepped ids_stepped settled_by recovery.ack_after
  ack_flies m time space ack s = λ opened. (
    opened,
    let left : After t.C = settled_by m time space ack s in
        λ id o h. settled_held id o (flight_of s) left.acked left.lost (recovery.space_of «Data» left.recovery).flight (by (same_or «Data» space)) h,
  )
    where
      by : («Data» ≡ space) ⊎ (is_space «Data» space ≡ false) →
          let left : After t.C = settled_by m time space ack s in IsPermutation (flight_of s) (left.acked ++ (left.lost ++ (recovery.space_of «Data» left.recovery).flight)) ⊎ ((recovery.space_of «Data» left.recovery).flight ≡ flight_of s)
      by (inl is) = inl (subst (λ (x : SpaceId). IsPermutation (recovery.space_of x s.lower.recovery).flight ((settled_by m time space ack s).acked ++ ((settled_by m time space ack s).lost ++ (recovery.space_of x (settled_by m time space ack s).recovery).flight))) (sym is)
          (ack_flight m.control _ space _ _ _ _ _ s.lower.recovery s.paths.current.kept))
      by (inr other) = inr (ack_other m.control _ «Data» space _ _ _ _ _ s.lower.recovery s.paths.current.kept other)

  -- a packet is taken and sealed
  seal_flies : (time : ℕ) (form : Form) (fs : List FrameValue) (s : View t) → IsSealable time s form fs → Ends s →
      let n : ℕ = next_number s.numbers (number_space form) in
      let size : ℕ = packet_size s form fs in
      Flies (sealed_steps fs) (if s.waiting.close_owed then [] else Sent (number_space form) n (flown_packet time size fs) ∷ []) s (state_move (Seal time form n size fs) (state_move (Take (number_space form) fs) s))
  unfolding state_move waiting_move lower_move life_move waiting_without frames_sealed ids_stepped streams_stepped datagrams_stepped flown_packet
  seal_flies time form fs s may ends = λ opened. (opened, λ id o h. or_left _ _ (by id o (same_or «Data» (number_space form)) (unowed_by (is_open s.life.state) s.waiting.close_owed ends.owed opened) h))
    where
      by : (id o : ℕ) → («Data» ≡ number_space form) ⊎ (is_space «Data» (number_space form) ≡ false) → s.waiting.close_owed ≡ false → flown_on id o (sealed_steps fs) (is_held id o (flight_of s)) ≡ true →
          let n : ℕ = next_number s.numbers (number_space form) in
          let packet : SentPacket = flown_packet time (packet_size s form fs) fs in
          let taken : Lower t.S = frames_sealed fs s.lower in
          is_held id o (recovery.space_of «Data» (if s.waiting.close_owed then taken else packet_flown taken (number_space form) n packet).recovery).flight ≡ true
      by id o (inl is) unowed h =
          let n : ℕ = next_number s.numbers (number_space form) in
          let packet : SentPacket = flown_packet time (packet_size s form fs) fs in
          let taken : Lower t.S = frames_sealed fs s.lower in
          ap (λ (es : List Entry). is_held id o es) (flown_lower s.waiting.close_owed taken (number_space form) n packet «Data» unowed is) ∙ flown_held id o (flight_of s) n packet fs refl h
      by id o (inr other) unowed h =
          let n : ℕ = next_number s.numbers (number_space form) in
          let packet : SentPacket = flown_packet time (packet_size s form fs) fs in
          let taken : Lower t.S = frames_sealed fs s.lower in
          let own : AreOwn fs = carried_own may.token may.closing time s form may.room fs may.carries (apart_there (number_space form) other) in
          ap (λ (es : List Entry). is_held id o es) (apart_lower s.waiting.close_owed taken (number_space form) n packet «Data» other) ∙ ap (λ (xs : List Step). flown_on id o xs (is_held id o (flight_of s))) (sym own.streams) ∙ h

  flies_hold : (m : Meaning t) → Holds Flies m
  flies_hold m = record { quiet = quiet_flies; next = next_flies; move = λ x s known plain unacked may. move_flies m x s known plain unacked may; ack = ack_flies m; seal = seal_flies }

  -- ---- runs

  -- each byte is somewhere, behind steps from new streams on
  module _ (m : Meaning t) (is : List Input) (xs : List TraceStep) (s s' : View t) (o : Over Flies m (deeds_of xs) (with_steps is xs) (streams_told (events.events_of xs)) s s') (new : HasNewStreams s) where
    abbrev New : StreamsState
    New = first_streams new.0 new.1

    abbrev flown : (id i : ℕ) → Bool
    flown id i = is_held id i (flight_of s)

    stand : (id : ℕ) → Stands id (written_on id o.steps []) (reset_on id o.steps false) (λ i. acked_on id i o.steps false) (λ i. flown_on id i o.steps (flown id i)) (after o.steps New)
    stand id =
        let may : AllMay o.steps New = subst (λ (x : StreamsState). AllMay o.steps x) new.2 o.are.may in
        steps_stand id o.steps [] false (λ i. false) (flown id) New (may_possible o.steps New may) (may_taken o.steps New may) (all_stay o.steps o.are.only) (new_sound new.0 new.1) (new_stands id (λ i. false) (flown id) new.0 new.1)

    acks_held : (id i : ℕ) → acked_on id i o.steps false ≡ true → is_held id i (all_acked o.covers.steps) ≡ true
    acks_held id i h =
        acked_held id i (all_acked o.covers.steps) false (ap (λ (zs : List Step). acked_on id i zs false) (sym o.acked) ∙ sym (acked_filtered id i o.steps false (all_stay o.steps o.are.only)) ∙ h)

    unreset : (id : ℕ) → reset_in id (with_steps is xs) ≡ false → reset_on id o.steps false ≡ false
    unreset id none = by (reset_on id o.steps false) refl
      where
        by : (b : Bool) → reset_on id o.steps false ≡ b → b ≡ false
        by true e = sym (calls_reset id (with_steps is xs) o.steps s.lower.streams false o.are.called e) ∙ none
        by false e = refl

    found : is_open s'.life.state ≡ true → (id i : ℕ) → i < length (written_in id (with_steps is xs)) → reset_in id (with_steps is xs) ≡ false →
        (byte_waits id i s'.lower.streams || (is_held id i (flight_of s') || is_held id i (all_acked o.covers.steps))) ≡ true
    found opened id i less none =
        let same : s'.lower.streams ≡ after o.steps New = o.leads ∙ ap (λ (x : StreamsState). after o.steps x) new.2 in
        let written : written_on id o.steps [] ≡ written_in id (with_steps is xs) = calls_write id (with_steps is xs) o.steps s.lower.streams [] o.are.called o.are.only in
        ap (λ (x : StreamsState). byte_waits id i x || (is_held id i (flight_of s') || is_held id i (all_acked o.covers.steps))) same
        ∙ byte_found id (written_on id o.steps []) (reset_on id o.steps false) (λ k. is_held id k (all_acked o.covers.steps)) (λ k. is_held id k (flight_of s')) (after o.steps New)
        (stands_more id (written_on id o.steps []) (reset_on id o.steps false) (λ k. acked_on id k o.steps false) (λ k. flown_on id k o.steps (flown id k)) (λ k. is_held id k (all_acked o.covers.steps)) (λ k. is_held id k (flight_of s')) (after o.steps New)
        (acks_held id) ((o.more opened).1 id) (stand id))
        (unreset id none) i (subst (λ (bs : List ℕ). i < length bs) (sym written) less)

  pub run_keeps_written : (m : Meaning t) (k : ℕ) (s : View t) (is : List Input) (xs : List TraceStep) (s' : View t) → Run m k s is xs s' → Ends s → HasNewStreams s → KeepsWritten m is xs s s'
  run_keeps_written m k s is xs s' r ends new =
      let o : Over Flies m (deeds_of xs) (with_steps is xs) (streams_told (events.events_of xs)) s s' = run_over m Flies (flies_hold m) k s is xs s' r ends in
      record { acks = acks_by m Flies (flies_hold m) s is xs s' o; bytes = found m is xs s s' o new }

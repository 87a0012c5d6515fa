-- A statement of all streams and of what waits of them that the kinds of steps keep, every step keeps
use Rattle.std.proofs.Common.{◌≡◌, ◌∙◌, ℕ, zero, suc, ◌+◌, ◌-◌, ◌/◌, ◌≤◌, ◌==◌, Bool, true, false, cond, not, ◌||◌, List, [], ◌∷◌, Option, None, Some, is_some, ap, sym, subst, take, drop, arith, refl}
use Rattle.std.specs.BTreeMap.{is_at}
use Rattle.std.specs.Map.{set_value}
use Rattle.std.specs.Option.{unwrap_or}
use Rattle.std.specs.Ordering.{nat_cmp}
use Rattle.qc_base.specs.declared.side.Dir.{Dir}
use Rattle.qc_base.specs.declared.side.Dir.TheVariants.{Bi, Uni}
use Rattle.qc_base.specs.declared.side.Side.{Side}
use Rattle.qc_base.specs.declared.varint.VarInt.{VarInt}
use Rattle.qc_base.specs.StreamId.{stream_id}
use Rattle.qc_recv.specs.declared.recv.Recv.{Recv}
use Rattle.qc_recv.specs.Owed.{credit_lost as side_credit_lost, credit_sealed as side_credit_sealed, stop_lost, stop_sealed}
use Rattle.qc_recv.specs.Receiving.{opened, reset_asked, reset_taken, stop_asked, stream_taken}
use Rattle.qc_send_stream.specs.declared.fault.WriteError.{WriteError}
use Rattle.qc_send_stream.specs.declared.fault.WriteError.TheVariants.{Blocked, ClosedStream, Stopped as WriteStopped, OutOfMemory}
use Rattle.qc_send_stream.specs.declared.send.SendPart.{SendPart}
use Rattle.qc_send_stream.specs.Sending.{finished, part_acked, part_lost, part_sealed, part_written, reset_acked, reset_lost, reset_sealed, unblocked, was_blocked, was_reset}
use Rattle.qc_streams.specs.declared.control.Control.{Control}
use Rattle.qc_streams.specs.declared.counts.ByDir.{ByDir}
use Rattle.qc_streams.specs.declared.counts.PeerStreams.{PeerStreams}
use Rattle.qc_streams.specs.declared.control.Control.TheVariants.{Reset, Stop, MaxData, MaxStreamData, MaxStreams}
use Rattle.qc_streams.specs.declared.parts.StreamPart.{StreamPart}
use Rattle.qc_streams.specs.declared.state.StreamsState.{StreamsState}
use Rattle.qc_streams.specs.declared.stream.Stream.{Stream}
use Rattle.qc_streams.specs.declared.waiting.Waiting.{Waiting}
use Rattle.qc_streams.specs.Blocked.{BlockedIds, is_below}
use Rattle.qc_streams.specs.Calls.{after_read, gives, if_known, reading_begun, resets, sends, write_refused, wrote}
use Rattle.qc_streams.specs.Control.{control_acked, control_lost, control_sealed, stop_again}
use Rattle.qc_streams.specs.Counts.{by_dir, dir_put, place_freed}
use Rattle.qc_streams.specs.Credit.{outgoing_written}
use Rattle.qc_streams.specs.Early.{early_refused}
use Rattle.qc_streams.specs.Events.{first_dropped}
use Rattle.qc_streams.specs.Frames.{comes, limit_came, reset_came, stop_came, stream_came, stream_limit_came, streams_limit_came}
use Rattle.qc_streams.specs.Lending.{AllRecords}
use Rattle.qc_streams.specs.Owed.{max_data_lost, max_data_sealed, max_streams_lost, max_streams_sealed, polled, told_opened}
use Rattle.qc_streams.specs.StreamBytes.{bytes_acked, bytes_gone, bytes_lost, bytes_taken, part_end, sealed_part}
use Rattle.qc_streams.specs.Records.{changed, on_some, record_of}
use Rattle.qc_streams.specs.Sends.{was_taken}
use Rattle.qc_streams.specs.Settings.{max_concurrent_set, priority_set, receive_window_set, send_window_set, with_priority}
use Rattle.qc_streams.specs.Stops.{with_stop, without_stop}
use Rattle.qc_streams.specs.Stream.{has_ended, is_freed, limit_taken, stop_taken, totals_at, with_freed, with_receiving, with_sending}
use Rattle.qc_streams.specs.Streams.{accepted_one, counted, dir_of, fresh_own, fresh_peer, is_own, is_peer_unopened, left_over, limits_set, lingering, lower_opened, lower_unopened, made, met, new_streams, next_accepted, next_own, opened_own, opened_with, released, settled, stops_later, told_if}
use Rattle.qc_streams.specs.Queues.{all_filed, filed, places_made, touched}
use Rattle.qc_streams.specs.Waits.{ArePossible, Step, LimitsKnown, EarlyRefused, Closed, Failed, Opened, Accepted, Wrote, Refused, Finished, WasReset, Began, Read, Stopped, ResetAsked, PrioritySet, SendWindowSet, ReceiveWindowSet, ConcurrentSet, Polled, StreamCame, ResetCame, StopCame, StreamLimitCame, StreamsLimitCame, LimitCame, MarksFiled, ControlSealed, ControlLost, ControlAcked, PartSealed, BytesLost, BytesAcked, after, after_step}
use Rattle.qc_streams.specs.Writable.{all_told, credit_at, has_room, held_up, needs_place_at, passed, place_reserved, told_first, watched, writables_told}
use Rattle.qc_streams.proofs.Keeps.{Fresh, Keeps, On, Owes, Stays, changed_in}
use Rattle.qc_streams.proofs.KeepSides.{Unowing, blocked_owes, came_fresh, credit_sealed_owes, limit_owes, opened_owes, own_fresh, owes_fresh, part_sealed_owes, peer_fresh, priority_owes, receiving_stays, reset_sealed_owes, reset_unowing, sending_stays, stop_owes, stop_sealed_owes, stream_unowing, taken_owes, unblocked_owes}
use Rattle.qc_streams.proofs.MarksOff.{filed_ids}
use Rattle.qc_streams.proofs.Sequels.{changed_twice}
use Rattle.qc_streams.proofs.WaitIds.{nth, nth_apart, nth_self}
use Rattle.qc_streams.proofs.WaitLaw.{nothing as at_first, step_ok}
use Rattle.qc_streams.proofs.WaitOpened.{and-then, made_absent, not-less, not-own, own-count, past, peer-count, reaches}
use Rattle.qc_streams.proofs.WaitSteps.{Holds, was_opened}
use Rattle.qc_streams.proofs.Waits.{unopened}

-- ---- no change

same_value : (b : Bool) (e : ℕ × Stream) (es rest : AllRecords) (st : Stream) (o : Option Stream) → cond b (Some e.1) o ≡ Some st
    → (o ≡ Some st → rest ≡ es) → cond b ((e.0, st) ∷ es) (e ∷ rest) ≡ e ∷ es
same_value true e es rest st o is then = ap (λ (x : Stream). (e.0, x) ∷ es) (sym (ap (λ (x : Option Stream). unwrap_or x e.1) is))
same_value false e es rest st o is then = ap (λ (l : AllRecords). e ∷ l) (then is)

found_set : (id : ℕ) (es : AllRecords) (st : Stream) → record_of id es ≡ Some st → set_value (is_at (nat_cmp id)) es st ≡ es
found_set id [] st is = refl
found_set id (e ∷ es) st is =
    same_value (is_at (nat_cmp id) e.0) e es (set_value (is_at (nat_cmp id)) es st) st (record_of id es) is (λ there. found_set id es st there)

same_some : (id : ℕ) (all : AllRecords) (o : Option Stream) → record_of id all ≡ o → on_some (λ st. st) id o all ≡ all
same_some id all None is = refl
same_some id all (Some st) is = found_set id all st is

changed_same : (id : ℕ) (all : AllRecords) → changed (λ st. st) id all ≡ all
changed_same id all = same_some id all (record_of id all) refl

stays_same : Stays (λ st. st)
stays_same = record { mark = λ st. refl; turn = λ st. refl; due = λ st. refl }

freed_stays : (f : Stream → Stream) → Stays f → Stays (λ st. with_freed (f st))
unfolding with_freed
freed_stays f stays = record { mark = stays.mark; turn = stays.turn; due = stays.due }

module _ {P : AllRecords → Waiting → Type 0} (k : Keeps P) where
  -- ---- a stream has changed, and it is looked at whether it has ended

  lingering_changed : (f : Stream → Stream) → Stays f → (id : ℕ) (s : StreamsState) → On P s → On P (lingering id (changed_in f id s))
  unfolding lingering
  lingering_changed f stays id s h =
      let peer : ByDir PeerStreams =
      cond (is_own s.side id || is_freed (record_of id (changed f id s.records))) s.peer (dir_put (dir_of id) (place_freed (by_dir (dir_of id) s.peer)) s.peer) in
      subst (λ (all : AllRecords). On P (touched id (record s { records = all; peer = peer }))) (sym (changed_twice f with_freed id s.records))
      (k.looked (λ st. with_freed (f st)) (freed_stays f stays) id (record s { peer = peer }) h)

  settled_changed : (f : Stream → Stream) → Stays f → (id : ℕ) (s : StreamsState) → On P s → On P (settled id (changed_in f id s))
  unfolding settled
  settled_changed f stays id s h = by (has_ended (record_of id (changed_in f id s).records)) (stops_later (record_of id (changed_in f id s).records))
    where
      by : (b c : Bool) → On P (cond b (cond c (lingering id (changed_in f id s)) (released id (changed_in f id s))) (touched id (changed_in f id s)))
      by true true = lingering_changed f stays id s h
      by true false = k.gone f stays id s h
      by false c = k.looked f stays id s h

  gone_same : (id : ℕ) (s : StreamsState) → On P s → On P (released id s)
  gone_same id s h =
      subst (λ (all : AllRecords). On P (released id (record s { records = all }))) (changed_same id s.records) (k.gone (λ st. st) stays_same id s h)

  left_over_keeps : (id : ℕ) (s : StreamsState) → On P s → On P (left_over id s)
  unfolding left_over
  left_over_keeps id s h = by (has_ended (record_of id s.records))
    where
      by : (b : Bool) → On P (cond b (released id s) s)
      by true = gone_same id s h
      by false = h

  settled_same : (id : ℕ) (s : StreamsState) → On P s → On P (settled id s)
  settled_same id s h =
      subst (λ (all : AllRecords). On P (settled id (record s { records = all }))) (changed_same id s.records)
      (settled_changed (λ st. st) stays_same id s h)

  -- ---- streams are opened

  made_keeps : (id from n : ℕ) (st : Stream) → Fresh st → (all : AllRecords) (w : Waiting) → ((i : ℕ) → record_of (nth id (from + i)) all ≡ None) → P all w
      → P (made id from n st all) (places_made n w)
  unfolding made places_made
  made_keeps id from zero st fresh all w none h = h
  made_keeps id from (suc n) st fresh all w none h =
      k.comes (nth id (from + n)) st fresh (made id from n st all) (places_made n w)
      (made_absent id from n st all (nth id (from + n)) (none n) (λ i less. nth_apart id (from + i) (from + n) (omega (arith, less))))
      (made_keeps id from n st fresh all w none h)

  opened_own_keeps : (dir : Dir) (s : StreamsState) → Holds s → On P s → On P (opened_own dir s)
  unfolding opened_own next_own
  opened_own_keeps dir s holds h =
      let n : ℕ = (by_dir dir s.own).opened in
      k.comes (stream_id s.side dir n) (fresh_own dir s) (own_fresh dir s) s.records s.waiting
      (unopened (was_opened s.side s.own s.peer) (stream_id s.side dir n) s.records s.blocked holds (own-count s.side dir s.own s.peer n ∙ not-less n)) h

  opened_with_keeps : (id : ℕ) (st : Stream) (s : StreamsState) → is_peer_unopened id s ≡ true → Fresh st → Holds s → On P s → On P (opened_with id st s)
  unfolding opened_with lower_opened lower_unopened is_peer_unopened
  opened_with_keeps id st s new fresh holds h =
      let index : ℕ = id / 4 in
      let from : ℕ = (by_dir (dir_of id) s.peer).opened in
      let other : is_own s.side id ≡ false = not-own (is_own s.side id) _ new in
      let below : (by_dir (dir_of id) s.peer).opened ≤ id / 4 =
      reaches (by_dir (dir_of id) s.peer).opened (id / 4) (and-then (not (is_own s.side id)) _ new) in
      let op : ℕ → Bool = was_opened s.side s.own s.peer in
      let unknown : was_opened s.side s.own s.peer id ≡ false =
      ap (λ (j : ℕ). was_opened s.side s.own s.peer j) (sym (nth_self id)) ∙ peer-count s.side s.own s.peer id (id / 4) other
      ∙ past (id / 4) (by_dir (dir_of id) s.peer).opened below in
      k.comes id st fresh (made id from (index - from) (fresh_peer (dir_of id) s) s.records) (places_made (index - from) s.waiting)
      (made_absent id from (index - from) (fresh_peer (dir_of id) s) s.records id (unopened op id s.records s.blocked holds unknown)
      (λ i less. ap (λ (j : ℕ). nth id (from + i) == j) (sym (nth_self id)) ∙ nth_apart id (from + i) (id / 4) (omega (arith, less))))
      (made_keeps id from (index - from) (fresh_peer (dir_of id) s) (peer_fresh (dir_of id) s) s.records s.waiting
      (λ i. unopened op (nth id (from + i)) s.records s.blocked holds (peer-count s.side s.own s.peer id (from + i) other ∙ past (from + i) from (omega arith)))
      h)

  -- ---- frames that come

  met_keeps : (f : Stream → Stream) → Owes (λ d. d) f → (id : ℕ) (s : StreamsState) → Holds s → On P s → On P (met f id s)
  unfolding met
  met_keeps f owes id s holds h = by (is_peer_unopened id s) refl
    where
      by : (b : Bool) → is_peer_unopened id s ≡ b → On P (cond b (opened_with id (f (fresh_peer (dir_of id) s)) s) (record s { records = changed f id s.records }))
      by true is = opened_with_keeps id (f (fresh_peer (dir_of id) s)) s is (owes_fresh f (fresh_peer (dir_of id) s) owes (peer_fresh (dir_of id) s)) holds h
      by false is = k.quiet f owes id s.records s.waiting h

  comes_keeps : (g : Recv → Recv) → Unowing g → (id : ℕ) (s : StreamsState) → Holds s → On P s → On P (comes g id s)
  unfolding comes met counted
  comes_keeps g unowing id s holds h = by (is_peer_unopened id s) refl
    where
      by : (b : Bool) → is_peer_unopened id s ≡ b
          → On P (settled id (counted (totals_at id s.records) id (cond b (opened_with id (with_receiving g (fresh_peer (dir_of id) s)) s)
          (record s { records = changed (with_receiving g) id s.records }))))
      by true is =
          settled_same id (counted (totals_at id s.records) id (opened_with id (with_receiving g (fresh_peer (dir_of id) s)) s))
          (opened_with_keeps id (with_receiving g (fresh_peer (dir_of id) s)) s is (came_fresh g unowing (dir_of id) s) holds h)
      by false is =
          settled_changed (with_receiving g) (receiving_stays g) id
          (record (counted (totals_at id s.records) id (record s { records = changed (with_receiving g) id s.records })) { records = s.records }) h

  limit_keeps : (id limit : ℕ) (s : StreamsState) → Holds s → On P s → On P (watched id (met (with_sending (limit_taken limit)) id s))
  unfolding watched
  limit_keeps id limit s holds h = met_keeps (with_sending (limit_taken limit)) (limit_owes limit) id s holds h

  -- ---- the application's calls

  sends_keeps : (g : SendPart → SendPart) → (id : ℕ) (s : StreamsState) → On P s → On P (sends g id s)
  unfolding sends passed
  sends_keeps g id s h =
      k.queued (with_sending (if_known g)) (sending_stays (if_known g)) id
      (record (passed id (record s { records = changed (with_sending (if_known g)) id s.records })) { records = s.records }) h

  wrote_keeps : (id n : ℕ) (chunk : List ℕ) (s : StreamsState) → On P s → On P (wrote id n chunk s)
  unfolding wrote passed
  wrote_keeps id n chunk s h =
      k.queued (with_sending (if_known (part_written (take n chunk)))) (sending_stays (if_known (part_written (take n chunk)))) id
      (record (passed id (record s {
        records = changed (with_sending (if_known (part_written (take n chunk)))) id s.records;
        outgoing = outgoing_written n s.outgoing;
      })) { records = s.records }) h

  refused_keeps : (e : WriteError) (id : ℕ) (s : StreamsState) → On P s → On P (write_refused e id s)
  unfolding write_refused held_up
  refused_keeps Blocked id s h = by s.closed
    where
      by : (b : Bool)
          → On P (cond b s (place_reserved (needs_place_at (record_of id s.records)) (held_up (credit_at (record_of id s.records)) id (record s { records = changed (with_sending (if_known was_blocked)) id s.records }))))
      by true = h
      by false = k.quiet (with_sending (if_known was_blocked)) blocked_owes id s.records s.waiting h
  refused_keeps ClosedStream id s h = h
  refused_keeps (WriteStopped code) id s h = h
  refused_keeps OutOfMemory id s h = h

  gives_keeps : (g : Recv → Recv) (id : ℕ) (s : StreamsState) → On P s → On P (gives g id s)
  unfolding gives counted
  gives_keeps g id s h =
      settled_changed (with_receiving g) (receiving_stays g) id
      (record (counted (totals_at id s.records) id (record s { records = changed (with_receiving g) id s.records })) { records = s.records }) h

  all_told_keeps : (below : Option ℕ) (ids : BlockedIds) (s : StreamsState) → On P s → On P (all_told below ids s)
  unfolding all_told
  all_told_keeps below [] s h = h
  all_told_keeps below (x ∷ xs) s h =
      by (is_below below x.1) (all_told_keeps below xs (told_first x xs s) (k.quiet (with_sending unblocked) unblocked_owes x.0 s.records s.waiting h))
    where
      by : (b : Bool) → On P (all_told below xs (told_first x xs s)) → On P (cond b (all_told below xs (told_first x xs s)) s)
      by true then = then
      by false then = h

  told_keeps : (below : Option ℕ) (s : StreamsState) → On P s → On P (writables_told below s)
  unfolding writables_told
  told_keeps below s h = by (has_room s)
    where
      by : (b : Bool) → On P (cond b (all_told below s.blocked s) s)
      by true = all_told_keeps below s.blocked s h
      by false = h

  polled_keeps : (s : StreamsState) → On P s → On P (polled s)
  unfolding polled told_opened
  polled_keeps s h = by s.peer.bi.tells s.peer.uni.tells
    where
      by : (b c : Bool) → On P (cond b (told_opened Bi s) (cond c (told_opened Uni s) (record s { events = first_dropped s.events })))
      by true c = h
      by false true = h
      by false false = h

  -- ---- what is sent, and what becomes of it

  filed_keeps : (ids : List ℕ) (s : StreamsState) → s.waiting.marks.ids ≡ ids → On P s → On P (all_filed ids s)
  unfolding all_filed
  filed_keeps [] s are h = h
  filed_keeps (id ∷ ids) s are h =
      filed_keeps ids (filed id s) (filed_ids id s ∙ ap (λ (l : List ℕ). drop 1 l) are) (k.filed id ids s are h)

  sealed_keeps : (c : Control) (s : StreamsState) → On P s → On P (control_sealed c s)
  unfolding control_sealed max_data_sealed max_streams_sealed
  sealed_keeps (Reset id code size) s h = k.reset (with_sending reset_sealed) reset_sealed_owes id s.records s.waiting h
  sealed_keeps (Stop id code) s h =
      left_over_keeps id _
      (k.gone_stops (without_stop id s.waiting.gone_stops) _ _ (k.stop (with_receiving stop_sealed) stop_sealed_owes id s.records s.waiting h))
  sealed_keeps (MaxData limit) s h = h
  sealed_keeps (MaxStreamData id limit) s h = k.credit (with_receiving side_credit_sealed) credit_sealed_owes id s.records s.waiting h
  sealed_keeps (MaxStreams dir limit) s h = h

  again_keeps : (id : ℕ) (code : VarInt) (s : StreamsState) → On P s → On P (stop_again id code s)
  unfolding stop_again
  again_keeps id code s h = by (is_some (record_of id s.records))
    where
      by : (b : Bool) → On P (cond b (touched id (record s { records = changed (with_receiving stop_lost) id s.records }))
          (record s { waiting = record s.waiting { gone_stops = with_stop id code s.waiting.gone_stops } }))
      by true = k.looked (with_receiving stop_lost) (receiving_stays stop_lost) id s h
      by false = k.gone_stops (with_stop id code s.waiting.gone_stops) s.records s.waiting h

  lost_keeps : (c : Control) (s : StreamsState) → On P s → On P (control_lost c s)
  unfolding control_lost max_data_lost max_streams_lost
  lost_keeps (Reset id code size) s h = k.looked (with_sending reset_lost) (sending_stays reset_lost) id s h
  lost_keeps (Stop id code) s h = again_keeps id code s h
  lost_keeps (MaxData limit) s h = h
  lost_keeps (MaxStreamData id limit) s h = k.looked (with_receiving side_credit_lost) (receiving_stays side_credit_lost) id s h
  lost_keeps (MaxStreams dir limit) s h = h

  acked_keeps : (c : Control) (s : StreamsState) → On P s → On P (control_acked c s)
  unfolding control_acked
  acked_keeps (Reset id code size) s h = settled_changed (with_sending reset_acked) (sending_stays reset_acked) id s h
  acked_keeps (Stop id code) s h = h
  acked_keeps (MaxData limit) s h = h
  acked_keeps (MaxStreamData id limit) s h = h
  acked_keeps (MaxStreams dir limit) s h = h

  part_keeps : (d : StreamPart) (s : StreamsState) → On P s → On P (sealed_part d s)
  unfolding sealed_part
  part_keeps d s h =
      k.part (with_sending (part_sealed d.part.offset (part_end d.part) d.part.last)) (part_sealed_owes d.part.offset (part_end d.part) d.part.last) d.id s h

  -- ---- each step, and all of them

  step_keeps : (x : Step) (s : StreamsState) → Holds s → On P s → On P (after_step x s)
  unfolding after_step reading_begun limits_set resets early_refused send_window_set receive_window_set max_concurrent_set accepted_one priority_set stream_came reset_came stop_came stream_limit_came streams_limit_came limit_came bytes_lost bytes_acked bytes_gone bytes_taken told_if
  step_keeps (LimitsKnown p) s holds h = told_keeps None _ h
  step_keeps EarlyRefused s holds h = k.nothing
  step_keeps Closed s holds h = h
  step_keeps Failed s holds h = h
  step_keeps (Opened dir) s holds h = opened_own_keeps dir s holds h
  step_keeps (Accepted dir) s holds h = k.quiet was_taken taken_owes (next_accepted dir s) s.records s.waiting h
  step_keeps (Wrote id n chunk) s holds h = wrote_keeps id n chunk s h
  step_keeps (Refused e id) s holds h = refused_keeps e id s h
  step_keeps (Finished id) s holds h = sends_keeps finished id s h
  step_keeps (WasReset code id) s holds h = told_keeps None _ (sends_keeps (was_reset code) id s h)
  step_keeps (Began ordered id) s holds h = k.quiet (with_receiving (opened ordered)) (opened_owes ordered) id s.records s.waiting h
  step_keeps (Read ordered result id) s holds h = gives_keeps (after_read ordered result) id s h
  step_keeps (Stopped code id) s holds h = gives_keeps (stop_asked code) id s h
  step_keeps (ResetAsked id) s holds h = gives_keeps reset_asked id s h
  step_keeps (PrioritySet priority id) s holds h = k.quiet (with_priority priority) (priority_owes priority) id s.records s.waiting h
  step_keeps (SendWindowSet n) s holds h = told_keeps None _ h
  step_keeps (ReceiveWindowSet n) s holds h = h
  step_keeps (ConcurrentSet dir n) s holds h = h
  step_keeps Polled s holds h = polled_keeps s h
  step_keeps (StreamCame id o bs last) s holds h = comes_keeps (stream_taken o bs last) (stream_unowing o bs last) id s holds h
  step_keeps (ResetCame id code size) s holds h = comes_keeps (reset_taken code size) (reset_unowing code size) id s holds h
  step_keeps (StopCame id code) s holds h = met_keeps (with_sending (stop_taken code)) (stop_owes code) id s holds h
  step_keeps (StreamLimitCame id limit) s holds h = told_keeps None _ (limit_keeps id limit s holds h)
  step_keeps (StreamsLimitCame dir n) s holds h = h
  step_keeps (LimitCame n) s holds h = told_keeps None _ h
  step_keeps MarksFiled s holds h = filed_keeps s.waiting.marks.ids s refl h
  step_keeps (ControlSealed c) s holds h = sealed_keeps c s h
  step_keeps (ControlLost c) s holds h = lost_keeps c s h
  step_keeps (ControlAcked c) s holds h = acked_keeps c s h
  step_keeps (PartSealed d) s holds h = part_keeps d s h
  step_keeps (BytesLost id start stop last) s holds h = k.queued (with_sending (part_lost start stop last)) (sending_stays (part_lost start stop last)) id s h
  step_keeps (BytesAcked id start stop last) s holds h =
      told_keeps None _
      (told_keeps (Some id) (bytes_gone id start stop last s)
      (settled_changed (with_sending (part_acked start stop last)) (sending_stays (part_acked start stop last)) id s h))

  after_keeps : (xs : List Step) (s : StreamsState) → ArePossible xs → Holds s → On P s → On P (after xs s)
  unfolding after ArePossible
  after_keeps [] s can holds h = h
  after_keeps (x ∷ xs) s can holds h = after_keeps xs (after_step x s) can.1 (step_ok x s can.0 holds) (step_keeps x s holds h)

  -- from a state without streams on
  pub always : (side : Side) (uni bi window stream_window send_window : ℕ) (fair : Bool) (xs : List Step) → ArePossible xs
      → On P (after xs (new_streams side uni bi window stream_window send_window fair))
  unfolding new_streams
  always side uni bi window stream_window send_window fair xs can =
      after_keeps xs (new_streams side uni bi window stream_window send_window fair) can (at_first _) k.nothing

  -- and once the marks are taken off
  pub always_filed : (side : Side) (uni bi window stream_window send_window : ℕ) (fair : Bool) (xs : List Step) → ArePossible xs
      → On P (after_step MarksFiled (after xs (new_streams side uni bi window stream_window send_window fair)))
  unfolding after_step
  always_filed side uni bi window stream_window send_window fair xs can =
      let s : StreamsState = after xs (new_streams side uni bi window stream_window send_window fair) in
      filed_keeps s.waiting.marks.ids s refl (always side uni bi window stream_window send_window fair xs can)

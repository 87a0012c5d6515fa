-- Over a run the bytes in flight keep within the congestion window.
use Rattle.std.proofs.Common.{◌≡◌, ◌⊎◌, inl, inr, ℕ, ◌+◌, ◌-◌, ◌<◌, ◌≤◌, List, [], ◌∷◌, ◌++◌, refl, ap, sym, ◌∙◌, subst, Bool, true, false, Option, Some, None, if◌then◌else◌, append_assoc, arith}
use Rattle.std.specs.Prelude.{IsPermutation, cond, is_none, is_some, nat_le, not, ◌==◌, ◌||◌, ◌&&◌}
use Rattle.std.specs.List.{list_any}
use Rattle.std.proofs.lemmas.Bool.Decides.{nat_tests}
use Rattle.std.proofs.lemmas.List.Folds.{list_any-append}
use Rattle.std.proofs.lemmas.List.Sums.{sum_by-append, sum_by_push}
use Rattle.std.proofs.lemmas.List.Sorted.{sum_by-IsPermutation}
use Rattle.qc_base.specs.Time.{plus}
use Rattle.qc_base.specs.declared.range_set.NumberRange.{NumberRange}
use Rattle.qc_base.specs.declared.side.SpaceId.{SpaceId}
use Rattle.qc_base.specs.declared.side.SpaceId.TheVariants.{Initial, Handshake, «Data»}
use Rattle.qc_flight.specs.Packets.{Entry, bytes_of, counted_bytes}
use Rattle.qc_flight.specs.declared.sent.SentPacket.{SentPacket}
use Rattle.qc_frame.specs.Frame.{FrameValue}
use Rattle.qc_path.specs.Mtu.{Mtu, is_probe, probe_sent}
use Rattle.qc_path.specs.declared.controller.Controller.{Ghosts as Control}
use Rattle.qc_recovery.specs.Calls.{dropped_after}
use Rattle.qc_recovery.specs.Steps.{After, FiredAfter, ack_after, all_bytes, sent_after, space_dropped, space_sent, timeout_after}
use Rattle.qc_recovery.specs.Steps as recovery
use Rattle.qc_recovery.specs.declared.calls.AckValues.{AckValues}
use Rattle.qc_recovery.specs.declared.calls.Around.{Around}
use Rattle.qc_recovery.specs.declared.calls.Fired.{Fired}
use Rattle.qc_recovery.specs.declared.calls.Fired.TheVariants as fired
use Rattle.qc_recovery.specs.declared.path.PathData.{PathData}
use Rattle.qc_recovery.specs.declared.recovery.Recovery.{Recovery}
use Rattle.qc_state.specs.declared.deeds.Did.{Did}
use Rattle.qc_state.specs.declared.deeds.Did.TheVariants as did
use Rattle.qc_state.specs.declared.deeds.Quiet.{Quiet}
use Rattle.qc_state.specs.declared.deeds.Quiet.TheVariants.{Amplification}
use Rattle.qc_state.specs.declared.form.Form.{Form}
use Rattle.qc_state.specs.declared.form.Form.TheVariants as form
use Rattle.qc_state.specs.declared.coming.Coming.{Coming}
use Rattle.qc_state.specs.declared.input.Input.{Input}
use Rattle.qc_state.specs.declared.input.Input.TheVariants as input
use Rattle.qc_state.specs.declared.life.Close.{Close}
use Rattle.qc_state.specs.declared.life.ConnectionError.{ConnectionError}
use Rattle.qc_state.specs.declared.lower.Lower.{Lower}
use Rattle.qc_state.specs.declared.paths.Path.{Path}
use Rattle.qc_state.specs.declared.paths.Paths.{Paths}
use Rattle.qc_state.specs.declared.trace.Step.{Step}
use Rattle.qc_state.specs.declared.transmit.Batch.{Batch}
use Rattle.qc_state.specs.Flight.{flown_packet}
use Rattle.qc_state.specs.Forms.{is_early, number_space}
use Rattle.qc_state.specs.Keys.{epoch_in, has_keys}
use Rattle.qc_state.specs.Life.{is_open}
use Rattle.qc_state.specs.Lower.{bytes_came, datagrams_stepped, event_told, events_told, flight_dropped, frame_handed, frames_sealed, ids_stepped, limits_learned, packet_flown, packets_settled, session_read, session_wrote, streams_closed, streams_stepped, timer_fired}
use Rattle.qc_state.specs.Moves.{Ack, Arm, Ask, Begin, Call, Fire, Forget, Issue, Move, Post, Probe, Seal, Shut, Skip, Spend, Take, armed_with, Give, deeds_move, lower_move, move_to, numbers_move, paths_move, state_move, waiting_move, Update, Renew}
use Rattle.qc_state.specs.Numbers.{next_number}
use Rattle.qc_state.specs.Offers.{datagram_waits, short_room, waits_in, wants_sending}
use Rattle.qc_state.specs.Paths.{is_blocked_behind, path_kept}
use Rattle.qc_state.specs.Receiving.{datagram_after}
use Rattle.qc_state.specs.Recovering.{fired_by, settled_by}
use Rattle.qc_state.specs.Run.{IsAllowed, IsStep, Run, began, called, close_after, datagram_limit, input_after, reported, step_after, time_of}
use Rattle.qc_state.specs.Batches.{batch_grown, batch_opened, is_in_order, is_last_in, next_segment, takes_another}
use Rattle.qc_state.specs.Sending.{Choice, Died, Ending, Going, Held, Hushed, MayAll, MayEnd, MayFollow, MayOpen, MayProbe, MayStand, MayTransmit, Probed, Sent, Went, begun_after, begun_batch, ending_after, flown_after, going_from, gone_after, held_in, is_congested, is_eager, is_flown, is_key_nearly_used_up, limit_in, owes_in, packet_after, packet_size, packets_after, paced_until, probe_begun_after, probe_frames, probe_sealed, probed_after, sealed_in, spared_after, spent_after, transmit_after, wants_in, going_tried, going}
use Rattle.qc_state.specs.Spaces.{is_space, space_of}
use Rattle.qc_state.specs.Stopping.{given_after, stopped_after}
use Rattle.qc_state.specs.Timeouts as timeouts
use Rattle.qc_state.specs.Types.{Types, Meaning}
use Rattle.qc_state.specs.View.{View, At}
use Rattle.qc_state.specs.Updating.{fresh_now, tried_after}
use Rattle.qc_state.proofs.Updates.{holds_updated}
use Rattle.qc_laws.specs.WindowLaws.{EachKeepsWindow, KeepsWindow, in_flight, is_exempt, seals_probe, window_of}
use Rattle.qc_state.proofs.Batches.{joins_some, opened_most}
use Rattle.qc_state.proofs.Begun.{begun_same, holds_begun}
use Rattle.qc_state.proofs.Expired.{IsExpiry, holds_expired}
use Rattle.qc_state.proofs.OpenPackets.{holds_packet}
use Rattle.qc_state.proofs.PacketMoves.{IsInPacket, OpenPacket}
use Rattle.qc_state.proofs.Probed.{begun_streams}
use Rattle.qc_state.proofs.Quieted.{probed_current}
use Rattle.qc_state.proofs.Probing.{due_searched, probe_paths}
use Rattle.qc_state.proofs.ReceivedMoves.{IsOutside}
use Rattle.qc_state.proofs.Telling.{told_appends}
use Rattle.qc_state.proofs.Transmitted.{IsPacketMove, IsSending, IsUnprobed, holds_ending, holds_packets, holds_spared, holds_unprobed, holds_packet as holds_sealing, beginning_packet}
use Rattle.qc_laws.proofs.CryptoPlaces.{FiresIn, ack_flight, ack_other, fired_flight, same_or}
use Rattle.qc_laws.proofs.InitialLeft.{flown_deeds, packet_deeds, sealed_deed, sealed_deeds}
use Rattle.qc_laws.proofs.KnownMoves.{IsFiredBy, IsSettledBy, packet_known}
use Rattle.qc_laws.proofs.Receives.{datagram_holds}
use Rattle.qc_laws.proofs.SpacesApart.{further, packet_probes, packet_wants}
use Rattle.qc_laws.proofs.StreamCalls.{called_input}
use Rattle.qc_datagrams.specs.Steps as datagrams
use Rattle.qc_state.proofs.Tried.{holds_tried, tried_same}
use Rattle.qc_state.specs.declared.keys.Fresh.{Fresh}

-- ---- sums

at_most : (n : ℕ) → n ≤ n
at_most n = omega arith

counted_small : (b : Bool) (size most : ℕ) → size ≤ most → cond b size 0 ≤ most
counted_small true size most h = h
counted_small false size most h = omega arith

-- one packet more adds no more than its size
sent_bytes : (id : SpaceId) (n most : ℕ) (packet : SentPacket) (r : Recovery) → packet.size ≤ most → all_bytes (sent_after id n packet r) ≤ plus (all_bytes r) most
unfolding all_bytes sent_after space_sent bytes_of
sent_bytes Initial n most packet r small = omega (arith, sum_by_push counted_bytes r.initial.flight (n, packet), counted_small packet.counted packet.size most small)
sent_bytes Handshake n most packet r small = omega (arith, sum_by_push counted_bytes r.handshake.flight (n, packet), counted_small packet.counted packet.size most small)
sent_bytes Data n most packet r small = omega (arith, sum_by_push counted_bytes r.application.flight (n, packet), counted_small packet.counted packet.size most small)

-- and none adds nothing
no_fewer : (most : ℕ) (r : Recovery) → all_bytes r ≤ plus (all_bytes r) most
unfolding all_bytes
no_fewer most r = omega arith

-- a space that is dropped leaves no more
dropped_bytes : (id : SpaceId) (r : Recovery) → all_bytes (dropped_after id r) ≤ all_bytes r
unfolding all_bytes dropped_after space_dropped bytes_of
dropped_bytes Initial r = omega arith
dropped_bytes Handshake r = omega arith
dropped_bytes Data r = omega arith

-- what is left of packets has no more bytes
left_bytes : (before gone left : List Entry) → IsPermutation before (gone ++ left) → bytes_of left ≤ bytes_of before
unfolding bytes_of
left_bytes before gone left is = omega (arith, sum_by-IsPermutation counted_bytes before (gone ++ left) is, sum_by-append counted_bytes gone left)

spaces_bytes : (r r' : Recovery) → ((id : SpaceId) → bytes_of (recovery.space_of id r').flight ≤ bytes_of (recovery.space_of id r).flight) → all_bytes r' ≤ all_bytes r
unfolding all_bytes
spaces_bytes r r' less = omega (arith, less Initial, less Handshake, less «Data»)

module _ {C : Type 0} where
  -- so of what an ACK and the loss timer leave
  settled_bytes : (m : Control C) (now : ℕ) (space : SpaceId) (next began : ℕ) (ack : AckValues) (ranges : List NumberRange) (around : Around) (r : Recovery) (p : PathData C) →
      all_bytes (ack_after m now space next began ack ranges around r p).recovery ≤ all_bytes r
  settled_bytes m now space next began ack ranges around r p = spaces_bytes r _ (λ id. settled_by_space id (same_or id space))
    where
      settled_by_space : (id : SpaceId) → (id ≡ space) ⊎ (is_space id space ≡ false) → bytes_of (recovery.space_of id (ack_after m now space next began ack ranges around r p).recovery).flight ≤ bytes_of (recovery.space_of id r).flight
      settled_by_space id (inl is) =
          let after : After C = ack_after m now id next began ack ranges around r p in
          let left : List Entry = (recovery.space_of id after.recovery).flight in
          subst (λ (x : SpaceId). bytes_of (recovery.space_of id (ack_after m now x next began ack ranges around r p).recovery).flight ≤ bytes_of (recovery.space_of id r).flight) is
          (left_bytes (recovery.space_of id r).flight (after.acked ++ after.lost) left
          (subst (λ (es : List Entry). IsPermutation (recovery.space_of id r).flight es) (sym (append_assoc after.acked after.lost left)) (ack_flight m now id next began ack ranges around r p)))
      settled_by_space id (inr other) =
          subst (λ (es : List Entry). bytes_of es ≤ bytes_of (recovery.space_of id r).flight) (sym (ack_other m now id space next began ack ranges around r p other)) (at_most _)

  fired_bytes : (m : Control C) (now : ℕ) (around : Around) (r : Recovery) (p : PathData C) → all_bytes (timeout_after m now around r p).recovery ≤ all_bytes r
  fired_bytes m now around r p =
      let after : FiredAfter C = timeout_after m now around r p in
      spaces_bytes r after.recovery (λ id. fired_by_space id after.recovery after.fired (fired_flight m id now around r p))
    where
      same_space : (id : SpaceId) (r' : Recovery) → (recovery.space_of id r').flight ≡ (recovery.space_of id r).flight → bytes_of (recovery.space_of id r').flight ≤ bytes_of (recovery.space_of id r).flight
      same_space id r' same = subst (λ (es : List Entry). bytes_of es ≤ bytes_of (recovery.space_of id r).flight) (sym same) (at_most _)

      lost_space : (id space : SpaceId) (lost : List Entry) (r' : Recovery) → (id ≡ space) ⊎ (is_space id space ≡ false) → FiresIn id r r' (fired.Lost space lost) → bytes_of (recovery.space_of id r').flight ≤ bytes_of (recovery.space_of id r).flight
      lost_space id space lost r' (inl is) fires = left_bytes (recovery.space_of id r).flight lost (recovery.space_of id r').flight (fires.0 is)
      lost_space id space lost r' (inr other) fires = same_space id r' (fires.1 other)

      fired_by_space : (id : SpaceId) (r' : Recovery) (f : Fired) → FiresIn id r r' f → bytes_of (recovery.space_of id r').flight ≤ bytes_of (recovery.space_of id r).flight
      fired_by_space id r' (fired.Lost space lost) fires = lost_space id space lost r' (same_or id space) fires
      fired_by_space id r' (fired.Probe space count) fires = same_space id r' fires
      fired_by_space id r' fired.Nothing fires = same_space id r' fires

-- a limit that doesn't stand
unheld : (blocked eager congested paced : Bool) → eager ≡ true → (if blocked then Some Amplification else held_in eager congested paced) ≡ None → congested ≡ false
unheld true eager congested paced e h = cc
unheld false true true paced e h = cc
unheld false true false paced e h = refl
unheld false false congested paced e h = cc

below : (window bytes : ℕ) → nat_le window bytes ≡ false → bytes < window
below window bytes h = grind (arith, nat_tests)

-- a datagram is begun that stays within the window, whatever it holds
opens_under : (window flight next capacity filled : ℕ) → capacity ≤ next → plus flight next < window → plus flight (capacity - filled) < window
opens_under window flight next capacity filled few under = omega (arith, few, under)

-- a packet is sealed into what was left
grows_under : (window flight size filled capacity behind : ℕ) → capacity ≤ 65527 → filled + size ≤ capacity → behind ≤ plus flight size → plus flight (capacity - filled) < window → plus behind (capacity - plus filled size) < window
grows_under window flight size filled capacity behind few fits grown under = omega (arith, few, fits, grown, under)

ends_under : (window flight last left : ℕ) → last ≤ flight → flight ≤ 18446744073709551615 → plus flight left < window → last < window
ends_under window flight last left fewer few under = omega (arith, fewer, few, under)

flight_held : (r : Recovery) → all_bytes r ≤ 18446744073709551615
unfolding all_bytes
flight_held r = omega arith

-- a space is eager where frames wait and no probe is due; one that owes something behind a packet of its own has frames that wait
eager_by : (wants none : Bool) → wants ≡ true → none ≡ true → (wants && none) ≡ true
eager_by true true w n = refl
eager_by true false w n = cc
eager_by false none w n = cc

unwanted : (wants none : Bool) → wants ≡ false → (wants && none) ≡ false
unwanted true none w = cc
unwanted false none w = refl

probed : (wants none : Bool) → none ≡ false → (wants && none) ≡ false
probed true true n = cc
probed true false n = refl
probed false none n = refl

owing_wants : (keys closing last wants waits : Bool) → last ≡ true → (keys && (if closing then not last else if last then wants else waits)) ≡ true → wants ≡ true
owing_wants keys closing false wants waits l h = cc
owing_wants false closing true wants waits l h = cc
owing_wants true true true wants waits l h = cc
owing_wants true false true wants waits l h = h

any_left : (a b : Bool) → a ≡ true → (a || b) ≡ true
any_left true b h = refl
any_left false b h = cc

any_right : (a b : Bool) → b ≡ true → (a || b) ≡ true
any_right true b h = refl
any_right false b h = h

-- with what is left in the open datagram the bytes in flight stay within the window
abbrev IsUnder : (window flight : ℕ) → Batch → Type 0
IsUnder window flight b = plus flight (b.capacity - b.filled) < window

module _ {S : Type 0} where
  -- a packet is in flight from then on, or isn't
  owed_bytes : (owed : Bool) (l : Lower S) (id : SpaceId) (n most : ℕ) (packet : SentPacket) → packet.size ≤ most → all_bytes (if owed then l else packet_flown l id n packet).recovery ≤ plus (all_bytes l.recovery) most
  unfolding packet_flown
  owed_bytes true l id n most packet small = no_fewer most l.recovery
  owed_bytes false l id n most packet small = sent_bytes id n most packet l.recovery small

any_between : (f : Did → Bool) (ds : List Did) (d : Did) (es : List Did) → f d ≡ true → list_any f ((ds ++ d ∷ []) ++ es) ≡ true
any_between f ds d es h =
    list_any-append f (ds ++ d ∷ []) es ∙ any_left (list_any f (ds ++ d ∷ [])) (list_any f es) (list_any-append f ds (d ∷ []) ∙ any_right (list_any f ds) (list_any f (d ∷ [])) (rw h refl))

module _ {t : Types} where
  -- ---- what a transmit does to what is in flight

  -- no more bytes are in flight
  abbrev Fewer : At t → At t → Type 0
  Fewer a b = in_flight b.state ≤ in_flight a.state

  same_fewer : (a b : At t) → b.state.lower.recovery ≡ a.state.lower.recovery → Fewer a b
  same_fewer a b same = subst (λ (r : Recovery). all_bytes r ≤ in_flight a.state) (sym same) (at_most (in_flight a.state))

  fewer_here : (a : At t) → Fewer a a
  fewer_here a = at_most _

  fewer_next : (a b c : At t) → Fewer a b → Fewer b c → Fewer a c
  fewer_next a b c g h = omega (arith, g, h)

  -- the moves that put none in flight, and of which it is known what recovery makes of them
  abbrev IsSettling : Meaning t → Move t → View t → Type 0
  IsSettling m (Seal time form n size fs) s = ⊥
  IsSettling m (Ack id n after) s = IsSettledBy m id after s
  IsSettling m (Fire after) s = IsFiredBy m after s
  IsSettling m _ s = Unit {0}

  move_fewer : (m : Meaning t) (x : Move t) (a : At t) → IsSettling m x a.state → Fewer a (move_to x a)
  unfolding move_to state_move lower_move bytes_came session_read session_wrote limits_learned frame_handed flight_dropped packets_settled timer_fired streams_closed streams_stepped datagrams_stepped ids_stepped event_told events_told frames_sealed settled_by fired_by
  move_fewer m (Seal time form n size fs) a k = absurd k
  move_fewer m (Begin id opens) a k = same_fewer a (move_to (Begin id opens) a) (ap (λ (l : Lower t.S). l.recovery) (begun_streams id opens a.state))
  move_fewer m (Forget id) a k = dropped_bytes id a.state.lower.recovery
  move_fewer m (Renew time cid token keys) a k = dropped_bytes Initial a.state.lower.recovery
  move_fewer m (Ack id n after) a k =
      subst (λ (r : After t.C). all_bytes r.recovery ≤ in_flight a.state) (sym k.is) (settled_bytes m.control _ id _ _ _ _ _ a.state.lower.recovery a.state.paths.current.kept)
  move_fewer m (Fire after) a k = subst (λ (r : FiredAfter t.C). all_bytes r.recovery ≤ in_flight a.state) (sym k.is) (fired_bytes m.control _ _ a.state.lower.recovery a.state.paths.current.kept)
  move_fewer m _ a k = at_most _

  sending_settling : (m : Meaning t) (x : Move t) (s : View t) → IsSending x → IsSettling m x s
  sending_settling m (Seal time form n size fs) s r = absurd r
  sending_settling m (Ack id n after) s r = absurd r
  sending_settling m (Fire after) s r = absurd r
  sending_settling m _ s r = tt

  outside_settling : (m : Meaning t) (time : ℕ) (x : Move t) (s : View t) → IsOutside time x s → IsSettling m x s
  outside_settling m at_time (Seal time form n size fs) s r = absurd r
  outside_settling m at_time (Ack id n after) s r = absurd r
  outside_settling m at_time (Fire after) s r = absurd r
  outside_settling m at_time _ s r = tt

  packet_settling : (m : Meaning t) (o : OpenPacket) (x : Move t) (s : View t) → IsInPacket m o x s → IsSettling m x s
  packet_settling m o (Seal time form n size fs) s r = absurd r
  packet_settling m o (Ack id n after) s r = packet_known m o (Ack id n after) s r
  packet_settling m o (Fire after) s r = absurd r
  packet_settling m o _ s r = tt

  expiry_settling : (m : Meaning t) (x : Move t) (s : View t) → IsExpiry x → IsSettling m x s
  expiry_settling m (Seal time form n size fs) s r = absurd r
  expiry_settling m (Ack id n after) s r = absurd r
  expiry_settling m (Fire after) s r = absurd r
  expiry_settling m _ s r = tt

  ending_fewer : (m : Meaning t) (time : ℕ) (e : Ending) (b : Batch) (a : At t) → IsUnprobed e → MayEnd m time e a.state b → Fewer a (ending_after m time e b a)
  ending_fewer m time e b a plain may = holds_unprobed Fewer fewer_here fewer_next (λ x r c h. move_fewer m x c (sending_settling m x c.state r)) m time e b a plain may

  -- the packets of recovery, as a packet is begun, taken and sealed
  begun_recovery : (id : SpaceId) (opens : Bool) (a : At t) → (begun_after id opens a).state.lower.recovery ≡ a.state.lower.recovery
  unfolding move_to state_move lower_move ids_stepped streams_stepped
  begun_recovery id opens a =
      holds_begun (λ (b c : At t). c.state.lower.recovery ≡ b.state.lower.recovery) (λ b. refl) (λ b c d g h. h ∙ g) id opens a
      (λ b. ap (λ (l : Lower t.S). l.recovery) (begun_streams id opens b.state)) (λ b may. refl)

  flown_recovery : (m : Meaning t) (time size : ℕ) (a : At t) (b : Bool) → (flown_after m time size b a).state.lower.recovery ≡ a.state.lower.recovery
  unfolding armed_with spent_after move_to state_move lower_move
  flown_recovery m time size a true = refl
  flown_recovery m time size a false = refl

  sealed_bytes : (m : Meaning t) (time most : ℕ) (form : Form) (fs : List FrameValue) (a : At t) → packet_size a.state form fs ≤ most → in_flight (sealed_in m time form fs a).state ≤ plus (in_flight a.state) most
  unfolding sealed_in move_to state_move lower_move frames_sealed ids_stepped streams_stepped datagrams_stepped flown_packet
  sealed_bytes m time most form fs a small =
      let n : ℕ = next_number a.state.numbers (number_space form) in
      let size : ℕ = packet_size a.state form fs in
      let taken : At t = move_to (Take (number_space form) fs) a in
      let sealed : At t = move_to (Seal time form n size fs) taken in
      subst (λ (r : Recovery). all_bytes r ≤ plus (in_flight a.state) most) (sym (flown_recovery m time size sealed (is_flown a.state fs)))
      (owed_bytes taken.state.waiting.close_owed (frames_sealed fs a.state.lower) (number_space form) n most (flown_packet time size fs) small)

  -- ---- a transmit

  -- with a frame that is held back by the window the datagram stays within it
  free_uncongested : (m : Meaning t) (time : ℕ) (s : View t) (b : Batch) (id : SpaceId) → limit_in m time s b id ≡ None → is_eager s id ≡ true → plus (in_flight s) (next_segment b) < window_of m s
  unfolding limit_in is_congested
  free_uncongested m time s b id free eager =
      below (window_of m s) (plus (in_flight s) (next_segment b))
      (unheld (is_blocked_behind s.paths b.total) (is_eager s id) (is_congested m s (next_segment b)) (is_some (paced_until m time s (next_segment b))) eager free)

  -- packets leave the window
  abbrev SameWindow : At t → At t → Type 0
  SameWindow a b = b.state.paths.current.kept.congestion ≡ a.state.paths.current.kept.congestion

  window_move : (x : Move t) → IsPacketMove x → (a : At t) → SameWindow a (move_to x a)
  unfolding move_to state_move paths_move path_kept
  window_move (Begin id opens) r a = refl
  window_move Skip r a = refl
  window_move (Update fresh session) r a = refl
  window_move (Spend tokens) r a = refl
  window_move (Arm at) r a = refl
  window_move _ r a = absurd r

  window_seal : (time n size : ℕ) (form : Form) (fs : List FrameValue) (a : At t) → SameWindow a (move_to (Seal time form n size fs) (move_to (Take (number_space form) fs) a))
  unfolding move_to state_move paths_move
  window_seal time n size form fs a = refl

  window_packet : (m : Meaning t) (time : ℕ) (p : Sent) (g : Going t) → MayFollow m time g.now.state g.batch p → SameWindow g.now (packet_after m time p g).now
  window_packet m time p g may =
      holds_sealing SameWindow (λ a. refl) (λ a b c g h. h ∙ g) (λ x r a h. window_move x (beginning_packet x r) a) (λ time form fs a h. window_seal time _ _ form fs a) m time p g may

  -- a deed that was done stays done
  abbrev Does : (Did → Bool) → At t → At t → Type 0
  Does f a b = list_any f a.did ≡ true → list_any f b.did ≡ true

  does_move : (f : Did → Bool) (x : Move t) (a : At t) → Does f a (move_to x a)
  unfolding move_to
  does_move f x a h =
      let ds : List Did = deeds_move x a.state in
      ap (list_any f) (told_appends a.did ds) ∙ list_any-append f a.did ds ∙ any_left (list_any f a.did) (list_any f ds) h

  does_seal : (f : Did → Bool) (time n size : ℕ) (form : Form) (fs : List FrameValue) (a : At t) → Does f a (move_to (Seal time form n size fs) (move_to (Take (number_space form) fs) a))
  does_seal f time n size form fs a h =
      let b : At t = move_to (Take (number_space form) fs) a in
      does_move f (Seal time form n size fs) b (does_move f (Take (number_space form) fs) a h)

  does_packets : (f : Did → Bool) (m : Meaning t) (time : ℕ) (ps : List Sent) (g : Going t) → MayAll m time g ps → Does f g.now (packets_after m time ps g).now
  does_packets f m time ps g may =
      holds_packets (Does f) (λ a h. h) (λ a b c g h some. h (g some)) (λ x r a h. does_move f x a) (λ time form fs a h. does_seal f time _ _ form fs a) m time ps g may

  does_ending : (f : Did → Bool) (m : Meaning t) (time : ℕ) (e : Ending) (b : Batch) (a : At t) → MayEnd m time e a.state b → Does f a (ending_after m time e b a)
  does_ending f m time e b a may = holds_ending (Does f) (λ a h. h) (λ a b c g h some. h (g some)) (λ x r a h. does_move f x a) (λ at_time fs a h. does_seal f at_time _ _ form.OneRtt fs a) m time e b a may

  -- where the space of a packet wasn't eager as the transmit began, its deed is one of those that the window mustn't hold back
  exempt_first : (s : View t) (d : Did) (ds : List Did) → is_exempt s d ≡ true → list_any (is_exempt s) (d ∷ ds) ≡ true
  exempt_first s d ds h = rw h refl

  packet_exempt : (m : Meaning t) (time : ℕ) (p : Sent) (s : View t) (g : Going t) → is_eager s (number_space p.form) ≡ false → list_any (is_exempt s) (packet_after m time p g).now.did ≡ true
  packet_exempt m time p s g uneager =
      let sealed : Did = sealed_deed p (begun_after (number_space p.form) p.opens g.now) in
      ap (list_any (is_exempt s)) (packet_deeds m time p g) ∙ list_any-append (is_exempt s) g.now.did (sealed ∷ [])
      ∙ any_right (list_any (is_exempt s) g.now.did) (list_any (is_exempt s) (sealed ∷ [])) (exempt_first s sealed [] (ap not uneager))

  -- so it is once a datagram was begun
  abbrev AreUnder : Meaning t → At t → Going t → Type 0
  AreUnder m a g = ((g.batch.made ≡ 0) × (in_flight g.now.state ≤ in_flight a.state)) ⊎ IsUnder (window_of m a.state) (in_flight g.now.state) g.batch

  -- what is known of a transmit whose packets so far all were of spaces in which no probe was due: the window, and the probes that are due,
  -- are as at its beginning, and so is what waits in the spaces behind that of the last one
  record Stays (m : Meaning t) (a : At t) (g : Going t) : Type 0 where
    pub window : window_of m g.now.state ≡ window_of m a.state
    pub probes : (id : SpaceId) → (space_of g.now.state.waiting.spaces id).probes ≡ (space_of a.state.waiting.spaces id).probes
    pub behind : (id : SpaceId) → is_in_order g.batch.space id ≡ true → is_last_in g.batch.space id ≡ false → wants_in g.now.state id ≡ wants_in a.state id
    pub under : AreUnder m a g

  -- that is known, or a packet was sealed that the window mustn't hold back
  abbrev Keeps : Meaning t → At t → Going t → Type 0
  Keeps m a g = (list_any (is_exempt a.state) g.now.did ≡ true) ⊎ Stays m a g

  stays_begun : (m : Meaning t) (asked : ℕ) (a : At t) → Stays m a (going_from asked a)
  stays_begun m asked a = record { window = refl; probes = λ id. refl; behind = λ id order other. refl; under = inl (refl, at_most (in_flight a.state)) }

  -- a packet is begun: in a datagram of which the window was asked, or in one that is open
  opened_under : (m : Meaning t) (time window : ℕ) (s : View t) (b : Batch) (id : SpaceId) (probes : Bool) → window_of m s ≡ window → MayOpen m time s b id → is_eager s id ≡ true → IsUnder window (in_flight s) (batch_opened true probes b)
  opened_under m time window s b id probes same may eager =
      let opened : Batch = batch_opened true probes b in
      subst (λ (n : ℕ). IsUnder n (in_flight s) opened) same
      (opens_under (window_of m s) (in_flight s) (next_segment b) opened.capacity opened.filled (opened_most b probes) (free_uncongested m time s b id may.free eager))

  joined_under : (m : Meaning t) (a : At t) (g : Going t) → takes_another g.batch ≡ true → AreUnder m a g → IsUnder (window_of m a.state) (in_flight g.now.state) g.batch
  joined_under m a g joins (inl none) = let some : 0 < g.batch.made = joins_some g.batch joins in let made : g.batch.made ≡ 0 = none.0 in absurd (omega (arith, some, made))
  joined_under m a g joins (inr under) = under

  begun_under : (m : Meaning t) (time : ℕ) (a : At t) (g : Going t) (id : SpaceId) (opens probes : Bool) → window_of m g.now.state ≡ window_of m a.state → MayStand m time g.now.state g.batch id opens →
      (opens ≡ true → is_eager g.now.state id ≡ true) → AreUnder m a g → IsUnder (window_of m a.state) (in_flight g.now.state) (batch_opened opens probes g.batch)
  unfolding batch_opened
  begun_under m time a g id true probes same may eager under = opened_under m time (window_of m a.state) g.now.state g.batch id probes same may (eager refl)
  begun_under m time a g id false probes same may eager under = joined_under m a g may under

  -- and sealed
  packet_under : (m : Meaning t) (time : ℕ) (p : Sent) (a : At t) (g : Going t) → MayFollow m time g.now.state g.batch p → window_of m g.now.state ≡ window_of m a.state →
      (p.opens ≡ true → is_eager g.now.state (number_space p.form) ≡ true) → AreUnder m a g → IsUnder (window_of m a.state) (in_flight (packet_after m time p g).now.state) (packet_after m time p g).batch
  unfolding packet_after begun_batch batch_grown
  packet_under m time p a g may same eager under =
      let id : SpaceId = number_space p.form in
      let b : At t = begun_after id p.opens g.now in
      let probes : Bool = not ((space_of g.now.state.waiting.spaces id).probes == 0) in
      let opened : Batch = batch_opened p.opens probes g.batch in
      let size : ℕ = packet_size b.state p.form p.frames in
      let fits : opened.filled + size ≤ opened.capacity = subst (λ (s : View t). opened.filled + packet_size s p.form p.frames ≤ opened.capacity) (sym (begun_same id p.opens g.now)) may.fits in
      let grown : in_flight (sealed_in m time p.form p.frames b).state ≤ plus (in_flight g.now.state) size =
      subst (λ (r : Recovery). in_flight (sealed_in m time p.form p.frames b).state ≤ plus (all_bytes r) size) (begun_recovery id p.opens g.now) (sealed_bytes m time size p.form p.frames b (at_most size)) in
      grows_under (window_of m a.state) (in_flight g.now.state) size opened.filled opened.capacity (in_flight (sealed_in m time p.form p.frames b).state) may.sized fits grown
      (begun_under m time a g id p.opens probes same may.begins.place eager under)

  packet_behind : (m : Meaning t) (time : ℕ) (p : Sent) (a : At t) (g : Going t) → MayFollow m time g.now.state g.batch p → ((space_of g.now.state.waiting.spaces (number_space p.form)).probes == 0) ≡ true → Stays m a g →
      (id : SpaceId) → is_in_order (packet_after m time p g).batch.space id ≡ true → is_last_in (packet_after m time p g).batch.space id ≡ false → wants_in (packet_after m time p g).now.state id ≡ wants_in a.state id
  unfolding packet_after batch_grown
  packet_behind m time p a g may none h id order other =
      let before = further g.batch.space (number_space p.form) id may.begins.turn.order order other in
      packet_wants m time p g may none id order other ∙ h.behind id before.0 before.1

  stays_packet : (m : Meaning t) (time : ℕ) (p : Sent) (a : At t) (g : Going t) → MayFollow m time g.now.state g.batch p → ((space_of g.now.state.waiting.spaces (number_space p.form)).probes == 0) ≡ true →
      (p.opens ≡ true → is_eager g.now.state (number_space p.form) ≡ true) → Stays m a g → Stays m a (packet_after m time p g)
  stays_packet m time p a g may none eager h = record {
    window = ap (λ (c : t.C). m.control.window_of c) (window_packet m time p g may) ∙ h.window;
    probes = λ id. packet_probes m time p g none id ∙ h.probes id;
    behind = packet_behind m time p a g may none h;
    under = inr (packet_under m time p a g may h.window eager h.under);
  }

  -- a packet that begins a datagram of a space that isn't eager, and in which no probe is due: nothing waited there at the beginning
  unasked : (m : Meaning t) (time : ℕ) (p : Sent) (a : At t) (g : Going t) → MayFollow m time g.now.state g.batch p → wants_in g.now.state (number_space p.form) ≡ false → Stays m a g → is_eager a.state (number_space p.form) ≡ false
  unfolding is_eager owes_in
  unasked m time p a g may unwants h = unasked_by (is_last_in g.batch.space id) refl
    where
      id : SpaceId
      id = number_space p.form

      unasked_by : (last : Bool) → is_last_in g.batch.space id ≡ last → (wants_in a.state id && ((space_of a.state.waiting.spaces id).probes == 0)) ≡ false
      unasked_by true is =
          let wants : wants_in g.now.state id ≡ true = owing_wants (has_keys g.now.state.keys id) g.batch.closing (is_last_in g.batch.space id) (wants_in g.now.state id) (waits_in g.now.state id) is may.begins.turn.owed in
          absurd cc
      unasked_by false is = unwanted (wants_in a.state id) ((space_of a.state.waiting.spaces id).probes == 0) (sym (h.behind id may.begins.turn.order is) ∙ unwants)

  keeps_packet : (m : Meaning t) (time : ℕ) (p : Sent) (a : At t) (g : Going t) → MayFollow m time g.now.state g.batch p → Stays m a g → Keeps m a (packet_after m time p g)
  unfolding is_eager
  keeps_packet m time p a g may h = by_probes ((space_of g.now.state.waiting.spaces id).probes == 0) refl
    where
      id : SpaceId
      id = number_space p.form

      by_wants : (wants : Bool) → wants_in g.now.state id ≡ wants → ((space_of g.now.state.waiting.spaces id).probes == 0) ≡ true → Keeps m a (packet_after m time p g)
      by_wants true wants none = inr (stays_packet m time p a g may none (λ o. eager_by (wants_in g.now.state id) ((space_of g.now.state.waiting.spaces id).probes == 0) wants none) h)
      by_wants false wants none = inl (packet_exempt m time p a.state g (unasked m time p a g may wants h))

      by_opens : (opens : Bool) → p.opens ≡ opens → ((space_of g.now.state.waiting.spaces id).probes == 0) ≡ true → Keeps m a (packet_after m time p g)
      by_opens true is none = by_wants (wants_in g.now.state id) refl none
      by_opens false is none = inr (stays_packet m time p a g may none (λ o. absurd cc) h)

      by_probes : (none : Bool) → ((space_of g.now.state.waiting.spaces id).probes == 0) ≡ none → Keeps m a (packet_after m time p g)
      by_probes true none = by_opens p.opens refl none
      by_probes false due =
          inl (packet_exempt m time p a.state g (probed (wants_in a.state id) ((space_of a.state.waiting.spaces id).probes == 0) (ap (λ (n : ℕ). n == 0) (sym (h.probes id)) ∙ due)))

  -- an update of the keys leaves what waits in a space
  wants_risen : (fresh : Option (Fresh t.P)) (session : t.S) (s : View t) (id : SpaceId) → wants_in (state_move (Update fresh session) s) id ≡ wants_in s id
  unfolding state_move numbers_move paths_move waiting_move lower_move wants_sending datagram_waits short_room
  wants_risen fresh session s Initial = refl
  wants_risen fresh session s Handshake = refl
  wants_risen fresh session s «Data» = refl

  -- an update that is tried for a packet leaves that
  stays_updated : (m : Meaning t) (fresh : Option (Fresh t.P)) (session : t.S) (a : At t) (g : Going t) → Stays m a g → Stays m a (going (move_to (Update fresh session) g.now) g.batch g.out)
  unfolding move_to state_move paths_move waiting_move lower_move
  stays_updated m fresh session a g h = record { window = h.window; probes = h.probes; behind = λ id order last. wants_risen fresh session g.now.state id ∙ h.behind id order last; under = h.under }

  stays_tried : (m : Meaning t) (f : Form) (a : At t) (g : Going t) → Stays m a g → Stays m a (going_tried m f g)
  stays_tried m f a g =
      holds_tried m (λ (b c : At t). Stays m a (going b g.batch g.out) → Stays m a (going c g.batch g.out)) (λ b h. h) (λ b may h. stays_updated m _ _ a (going b g.batch g.out) h) f g.now

  keeps_packets : (m : Meaning t) (time : ℕ) (ps : List Sent) (a : At t) (g : Going t) → MayAll m time g ps → Keeps m a g → Keeps m a (packets_after m time ps g)
  keeps_packets m time [] a g may h = h
  keeps_packets m time (p ∷ ps) a g may (inl some) = inl (does_packets (is_exempt a.state) m time (p ∷ ps) g may some)
  keeps_packets m time (p ∷ ps) a g may (inr h) =
      let f : Going t = going_tried m p.form g in
      keeps_packets m time ps a (packet_after m time p f) may.1 (keeps_packet m time p a f may.0 (stays_tried m p.form a g h))

  -- how it ends puts no more bytes in flight, but with a probe of the path's size
  unprobed_window : (m : Meaning t) (time : ℕ) (e : Ending) (a : At t) (g : Going t) → IsUnprobed e → Keeps m a g → MayEnd m time e g.now.state g.batch →
      KeepsWindow m (ending_after m time e g.batch g.now).did a.state (ending_after m time e g.batch g.now).state
  unfolding KeepsWindow
  unprobed_window m time e a g plain (inl some) ends = λ more. inr (inl (does_ending (is_exempt a.state) m time e g.batch g.now ends some))
  unprobed_window m time e a g plain (inr h) ends = λ more. window_by more h.under
    where
      end : At t
      end = ending_after m time e g.batch g.now

      window_by : in_flight a.state < in_flight end.state → AreUnder m a g → (in_flight end.state < window_of m a.state) ⊎ ((list_any (is_exempt a.state) end.did ≡ true) ⊎ (list_any (seals_probe end.state) end.did ≡ true))
      window_by more (inl none) =
          let few : in_flight g.now.state ≤ in_flight a.state = none.1 in
          let fewer : in_flight end.state ≤ in_flight g.now.state = ending_fewer m time e g.batch g.now plain ends in
          absurd (omega (arith, more, few, fewer))
      window_by more (inr under) =
          let fewer : in_flight end.state ≤ in_flight g.now.state = ending_fewer m time e g.batch g.now plain ends in
          let held : in_flight g.now.state ≤ 18446744073709551615 = flight_held g.now.state.lower.recovery in
          inl (ends_under (window_of m a.state) (in_flight g.now.state) (in_flight end.state) (g.batch.capacity - g.batch.filled) fewer held under)

  -- the search of the path's size as a probe is sealed
  abbrev SameSearch : At t → At t → Type 0
  SameSearch a b = b.state.paths.current.kept.mtud ≡ a.state.paths.current.kept.mtud

  search_flown : (m : Meaning t) (time size : ℕ) (a : At t) (b : Bool) → SameSearch a (flown_after m time size b a)
  unfolding armed_with spent_after move_to state_move paths_move path_kept
  search_flown m time size a true = refl
  search_flown m time size a false = refl

  search_sealed : (m : Meaning t) (time : ℕ) (form : Form) (fs : List FrameValue) (a : At t) → SameSearch a (sealed_in m time form fs a)
  unfolding sealed_in move_to state_move paths_move
  search_sealed m time form fs a = search_flown m time _ _ (is_flown a.state fs)

  -- the search waits for it from then on
  probe_searched : (m : Meaning t) (time size : ℕ) (quiet : Quiet) (a : At t) →
      (probe_sealed m time size quiet a).state.paths.current.kept.mtud ≡ probe_sent time (next_number a.state.numbers «Data») a.state.paths.current.kept.mtud
  unfolding probe_sealed move_to state_move paths_move
  probe_searched m time size quiet a =
      let n : ℕ = next_number a.state.numbers «Data» in
      let fs : List FrameValue = probe_frames a.state size in
      ap (λ (p : Path t.C). p.kept.mtud) (probed_current (sealed_in m time form.OneRtt fs a).state.paths time n size quiet) ∙ ap (λ (x : Mtu). probe_sent time n x) (search_sealed m time form.OneRtt fs a)

  given_searched : (why : ConnectionError) (b : At t) (x : Bool) → SameSearch b (if x then move_to (Give why) b else b)
  unfolding move_to state_move paths_move
  given_searched why b true = refl
  given_searched why b false = refl

  stopped_searched : (time : ℕ) (close : Close) (why : ConnectionError) (a : At t) (b : Bool) → SameSearch a (if b then given_after why (move_to (Shut time close) a) else a)
  unfolding given_after move_to state_move paths_move
  stopped_searched time close why a true = given_searched why (move_to (Shut time close) a) (is_none (move_to (Shut time close) a).state.life.reason)
  stopped_searched time close why a false = refl

  spared_searched : (time : ℕ) (nearly : Bool) (a : At t) → SameSearch a (spared_after time nearly a)
  unfolding spared_after stopped_after
  spared_searched time false a = refl
  spared_searched time true a = stopped_searched time _ _ a (is_open a.state.life.state)

  -- and its deed tells its number
  probe_deeds : (m : Meaning t) (time size : ℕ) (quiet : Quiet) (a : At t) → let n : ℕ = next_number a.state.numbers «Data» in
      (probe_sealed m time size quiet a).did ≡ (a.did ++ did.Sealed «Data» n (epoch_in a.state.keys form.OneRtt) (is_early form.OneRtt) (probe_frames a.state size) ∷ []) ++ deeds_move (Probe time n size quiet) (sealed_in m time form.OneRtt (probe_frames a.state size) a).state
  unfolding probe_sealed sealed_in move_to
  probe_deeds m time size quiet a =
      let n : ℕ = next_number a.state.numbers «Data» in
      let fs : List FrameValue = probe_frames a.state size in
      let b : At t = move_to (Seal time form.OneRtt n (packet_size a.state form.OneRtt fs) fs) (move_to (Take «Data» fs) a) in
      let c : At t = sealed_in m time form.OneRtt fs a in
      told_appends c.did (deeds_move (Probe time n size quiet) c.state)
      ∙ ap (λ (ds : List Did). ds ++ deeds_move (Probe time n size quiet) c.state) (flown_deeds m time (packet_size a.state form.OneRtt fs) b (is_flown a.state fs) ∙ sealed_deeds time form.OneRtt n (packet_size a.state form.OneRtt fs) fs a)

  -- so the deed is that of the probe which the search waits for
  probe_seals : (m : Meaning t) (time size : ℕ) (quiet : Quiet) (b : Batch) (a : At t) → MayProbe m time a.state b quiet size →
      list_any (seals_probe (probed_after m time size quiet b a).state) (probed_after m time size quiet b a).did ≡ true
  unfolding probed_after
  probe_seals m time size quiet b a may =
      let c : At t = probe_begun_after m time quiet b a in
      let n : ℕ = next_number c.state.numbers «Data» in
      let d : At t = probe_sealed m time size quiet c in
      let nearly : Bool = is_key_nearly_used_up c.state form.OneRtt in
      let end : At t = spared_after time nearly d in
      let searched : end.state.paths.current.kept.mtud ≡ probe_sent time n a.state.paths.current.kept.mtud =
      spared_searched time nearly d ∙ probe_searched m time size quiet c ∙ ap (λ (p : Paths t.C). probe_sent time n p.current.kept.mtud) (probe_paths m time quiet b a) in
      let is : is_probe n end.state.paths.current.kept.mtud ≡ true = ap (is_probe n) searched ∙ due_searched time size n a.state may.due in
      let seals : seals_probe end.state (did.Sealed «Data» n (epoch_in c.state.keys form.OneRtt) (is_early form.OneRtt) (probe_frames c.state size)) ≡ true = is in
      holds_spared (Does (seals_probe end.state)) (λ x h. h) (λ x y z g h some. h (g some)) (λ x r y h. does_move (seals_probe end.state) x y) time nearly d
      (ap (list_any (seals_probe end.state)) (probe_deeds m time size quiet c) ∙ any_between (seals_probe end.state) c.did _ _ seals)

  keeps_window : (m : Meaning t) (time : ℕ) (e : Ending) (a : At t) (g : Going t) → Keeps m a g → MayEnd m time e g.now.state g.batch → KeepsWindow m (ending_after m time e g.batch g.now).did a.state (ending_after m time e g.batch g.now).state
  unfolding KeepsWindow ending_after
  keeps_window m time (Probed quiet size) a g h ends =
      let c : At t = tried_after m form.OneRtt g.now in
      λ more. inr (inr (probe_seals m time size quiet g.batch c (subst (λ (s : View t). MayProbe m time s g.batch quiet size) (sym (tried_same m form.OneRtt g.now)) ends.0)))
  keeps_window m time Went a g h ends = unprobed_window m time Went a g tt h ends
  keeps_window m time Held a g h ends = unprobed_window m time Held a g tt h ends
  keeps_window m time (Hushed quiet) a g h ends = unprobed_window m time (Hushed quiet) a g tt h ends
  keeps_window m time (Died f why) a g h ends = unprobed_window m time (Died f why) a g tt h ends

  transmit_window : (m : Meaning t) (time asked : ℕ) (choice : Choice) (a : At t) → MayTransmit m time asked choice a → KeepsWindow m (transmit_after m time asked choice a).did a.state (transmit_after m time asked choice a).state
  unfolding MayTransmit transmit_after gone_after
  transmit_window m time asked choice a may =
      let g : Going t = packets_after m time choice.packets (going_from asked a) in
      keeps_window m time choice.ending a g (keeps_packets m time choice.packets a (going_from asked a) may.0 (inr (stays_begun m asked a))) may.1

  -- ---- other inputs

  datagram_fewer : (m : Meaning t) (coming : Coming) (bytes : List ℕ) (a : At t) → Fewer a (datagram_after m coming bytes a)
  datagram_fewer m coming bytes a =
      datagram_holds m coming (λ p. Unit {0}) Fewer fewer_here fewer_next (λ x b h may. move_fewer m x b (outside_settling m coming.time x b.state h))
      (λ p comes o b opened. holds_packet m o Fewer fewer_here fewer_next (λ x c h may. move_fewer m x c (packet_settling m o x c.state h)) b opened.lively) bytes a (λ p among. tt)

  timeout_fewer : (m : Meaning t) (time : ℕ) (a : At t) → Fewer a (timeouts.timeout_after m time a)
  timeout_fewer m time a =
      holds_expired m Fewer fewer_here fewer_next (λ at_time b. move_fewer m (Fire (fired_by m at_time b.state)) b (record { time = at_time; is = refl })) (λ x e b may. move_fewer m x b (expiry_settling m x b.state e)) time a

  closed_by : (m : Meaning t) (time : ℕ) (close : Close) (a : At t) (b : Bool) → Fewer a (if b then move_to (Shut time close) a else a)
  closed_by m time close a true = move_fewer m (Shut time close) a tt
  closed_by m time close a false = fewer_here a

  -- where no more are in flight
  fewer_window : (m : Meaning t) (a b : At t) → Fewer a b → KeepsWindow m b.did a.state b.state
  unfolding KeepsWindow
  fewer_window m a b fewer = λ more. absurd (omega (arith, more, fewer))

  input_window : (m : Meaning t) (i : Input) (choice : Choice) (a : At t) → IsAllowed m i choice a → KeepsWindow m (input_after m i choice a).did a.state (input_after m i choice a).state
  unfolding IsAllowed input_after close_after
  input_window m (input.Datagram time remote ecn bytes) choice a may = fewer_window m a _ (datagram_fewer m (record { time = time; remote = remote; mark = ecn }) bytes a)
  input_window m (input.Timeout time) choice a may = fewer_window m a _ (timeout_fewer m time a)
  input_window m (input.Transmit time max) choice a may = transmit_window m time max choice a may
  input_window m (input.Close time code reason) choice a may = fewer_window m a _ (closed_by m time _ a (is_open a.state.life.state))
  input_window m (input.Ping time) choice a may = fewer_window m a _ (move_fewer m (Ask a.state.keys.highest) a tt)
  input_window m (input.Update time) choice a may = fewer_window m a _ (holds_updated m Fewer fewer_here (λ b may_be. move_fewer m (Update (fresh_now m b.state) (m.after_next b.state.lower.session)) b tt) a)
  input_window m (input.SendDatagram time body) choice a may = fewer_window m a _ (move_fewer m (Post (datagrams.Sent (datagram_limit a.state) true body)) a tt)
  input_window m (input.RecvDatagram time) choice a may = fewer_window m a _ (move_fewer m (Post datagrams.Taken) a tt)
  input_window m (input.Identifiers time given) choice a may = fewer_window m a _ (move_fewer m (Issue time given) a tt)
  input_window m i choice a may = fewer_window m a _ (called_input Fewer fewer_here fewer_next (λ x b h. move_fewer m (Call x) b tt) i choice.read a may)

  -- ---- steps and runs

  -- the time that a call is told changes nothing of what waits
  began_eager : (s : View t) (time : ℕ) (id : SpaceId) → is_eager (began s time).state id ≡ is_eager s id
  unfolding began state_move numbers_move lower_move paths_move waiting_move is_eager wants_sending datagram_waits short_room
  began_eager s time Initial = refl
  began_eager s time Handshake = refl
  began_eager s time Data = refl

  began_one : (s : View t) (time : ℕ) (d : Did) → is_exempt (began s time).state d ≡ is_exempt s d
  began_one s time (did.Sealed id number epoch early fs) = ap not (began_eager s time id)
  began_one s time (did.Piece space number v) = refl
  began_one s time (did.Gave layer body) = refl
  began_one s time (did.Rose life) = refl
  began_one s time (did.Lost why) = refl
  began_one s time (did.Quiet why) = refl

  began_exempt : (s : View t) (time : ℕ) (ds : List Did) → list_any (is_exempt (began s time).state) ds ≡ list_any (is_exempt s) ds
  began_exempt s time [] = refl
  began_exempt s time (d ∷ ds) = λ i. began_one s time d i || began_exempt s time ds i

  -- whether a deed is that of a probe is told by the paths
  searched_one : (s s' : View t) (d : Did) → s.paths ≡ s'.paths → seals_probe s d ≡ seals_probe s' d
  searched_one s s' (did.Sealed Initial n epoch early fs) h = refl
  searched_one s s' (did.Sealed Handshake n epoch early fs) h = refl
  searched_one s s' (did.Sealed Data n epoch early fs) h = ap (λ (p : Paths t.C). is_probe n p.current.kept.mtud) h
  searched_one s s' (did.Piece space number v) h = refl
  searched_one s s' (did.Gave layer body) h = refl
  searched_one s s' (did.Rose life) h = refl
  searched_one s s' (did.Lost why) h = refl
  searched_one s s' (did.Quiet why) h = refl

  searched_same : (s s' : View t) (ds : List Did) → s.paths ≡ s'.paths → list_any (seals_probe s) ds ≡ list_any (seals_probe s') ds
  searched_same s s' [] h = refl
  searched_same s s' (d ∷ ds) h = λ i. searched_one s s' d h i || searched_same s s' ds h i

  told_window : (m : Meaning t) (s s' : View t) (ds : List Did) (b : At t) (f : Did → Bool) → in_flight s' ≡ in_flight b.state → ds ≡ b.did → s'.paths ≡ b.state.paths → list_any f b.did ≡ list_any (is_exempt s) b.did →
      (in_flight b.state < window_of m s) ⊎ ((list_any f b.did ≡ true) ⊎ (list_any (seals_probe b.state) b.did ≡ true)) → (in_flight s' < window_of m s) ⊎ ((list_any (is_exempt s) ds ≡ true) ⊎ (list_any (seals_probe s') ds ≡ true))
  told_window m s s' ds b f same deeds paths exempt (inl under) = inl (omega (arith, same, under))
  told_window m s s' ds b f same deeds paths exempt (inr (inl some)) = inr (inl (ap (list_any (is_exempt s)) deeds ∙ sym exempt ∙ some))
  told_window m s s' ds b f same deeds paths exempt (inr (inr seals)) = inr (inr (ap (list_any (seals_probe s')) deeds ∙ searched_same s' b.state b.did paths ∙ seals))

  step_window : (m : Meaning t) (k : ℕ) (s : View t) (i : Input) (x : Step) (s' : View t) → IsStep m k s i x s' → KeepsWindow m x.did s s'
  unfolding KeepsWindow called began step_after reported state_move lower_move paths_move events_told streams_stepped
  step_window m k s i x s' h = λ more.
      let a : At t = began s (time_of i) in
      let b : At t = input_after m i h.choice a in
      let same : in_flight s' ≡ in_flight b.state = ap (λ (l : Lower t.S). all_bytes l.recovery) h.lower in
      let behind = input_window m i h.choice a h.allowed (subst (λ (n : ℕ). in_flight s < n) same more) in
      told_window m s s' x.did b (is_exempt a.state) same h.deeds h.paths (began_exempt s (time_of i) b.did) behind

  pub run_window : (m : Meaning t) (k : ℕ) (s : View t) (is : List Input) (xs : List Step) (s' : View t) → Run m k s is xs s' → EachKeepsWindow m k s is xs s'
  unfolding Run EachKeepsWindow
  run_window m k s [] [] s' r = tt
  run_window m k s (i ∷ is) (x ∷ xs) s' r = (r.0, r.1, step_window m k s i x r.0 r.1, run_window m (k + 1) r.0 is xs s' r.2)
  run_window m k s [] (x ∷ xs) s' r = absurd r
  run_window m k s (i ∷ is) [] s' r = absurd r

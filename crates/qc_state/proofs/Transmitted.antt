-- What holds of each move of a transmit holds of the transmit, where of what the pacer spends and the controller is told is known what it
-- is; and each packet that it seals holds a close, once the connection has closed.
use Rattle.std.proofs.Common.{◌≡◌, ℕ, ◌+◌, ◌-◌, ◌*◌, ◌≤◌, List, [], ◌∷◌, ◌++◌, replicate, refl, ap, sym, ◌∙◌, subst, Bool, true, false, Option, Some, None, inl, inr, if◌then◌else◌, arith, ◌⊎◌}
use Rattle.std.specs.Prelude.{◌||◌, ◌&&◌, is_none, not, nat_le}
use Rattle.std.proofs.lemmas.Bool.Decides.{nat_tests}
use Rattle.std.specs.List.{list_any}
use Rattle.std.proofs.lemmas.List.Folds.{list_any-append}
use Rattle.qc_base.specs.declared.side.Side.TheVariants.{Client}
use Rattle.qc_base.specs.declared.side.SpaceId.{SpaceId}
use Rattle.qc_base.specs.declared.side.SpaceId.TheVariants.{Initial, Handshake, «Data»}
use Rattle.qc_frame.specs.Frame.{FrameValue}
use Rattle.qc_frame.specs.declared.frames.FrameOf.TheVariants.{Padding, Ping}
use Rattle.qc_state.specs.declared.form.Form.{Form}
use Rattle.qc_state.specs.declared.form.Form.TheVariants as form
use Rattle.qc_state.specs.declared.paths.Paths.{Paths}
use Rattle.qc_state.specs.Allowed.{WaitAll, Waits}
use Rattle.qc_state.specs.declared.deeds.Quiet.{Quiet}
use Rattle.qc_state.specs.declared.deeds.Quiet.TheVariants.{NothingOwed, Silent, Amplification, Congestion, Pacing, Killed}
use Rattle.qc_state.specs.declared.life.Close.{Close}
use Rattle.qc_state.specs.declared.life.Close.TheVariants.{Connection, Application}
use Rattle.qc_state.specs.declared.life.ConnectionError.{ConnectionError}
use Rattle.qc_state.specs.declared.life.ConnectionError.TheVariants as lost
use Rattle.qc_state.specs.declared.life.Life.{Life}
use Rattle.qc_state.specs.declared.life.State.TheVariants as state
use Rattle.qc_state.specs.declared.keys.KeyGroup.{KeyGroup}
use Rattle.qc_state.specs.Forms.{number_space}
use Rattle.qc_state.specs.Keys.{has_keys, has_keys_for, reaches_limit, usage_of}
use Rattle.qc_state.specs.Life.{rank_of, is_established, is_open, is_closed, is_drained}
use Rattle.qc_state.specs.Moves.{Update, Move, ClosesOnly, is_close, Arm, Begin, Forget, Give, Raise, Say, Seal, Shut, Skip, Take, MayMove, move_to, armed_with, Ask, Finish, Hold, Probe, Spend}
use Rattle.qc_state.specs.Numbers.{next_number}
use Rattle.qc_state.specs.Paths.{is_blocked, is_blocked_behind}
use Rattle.qc_state.specs.Recovering.{loss_time}
use Rattle.qc_state.specs.Batches.{next_segment}
use Rattle.qc_state.specs.Sending.{going_tried, internal_error, Carries, Choice, Closes, MayBegin, MayTransmit, application_close, begun_after, begun_view, close_frame, closing_frame, drops_initial, flown_after, initial_left, is_flown, is_key_used_up, is_used_up, is_token_too_long, kill_in, owes_in, packet_after, packet_size, sealed_in, spared_after, told_close, transmit_after, Sent, Ending, Went, Held, Hushed, Died, ending_after, packets_after, Going, going_from, MayFollow, MayAll, MayEnd, handshake_left, finished_after, gone_after, begun_batch, room_in, room_of, held_after, is_silent, limit_in, paced_until, quiet_by, quiet_of, spent_after, told_sent, Dies, DiesProbing, MayProbe, Probed, is_key_nearly_used_up, probe_begun_after, probe_frames, probe_sealed, probe_size, probed_after}
use Rattle.qc_state.specs.Stopping.{given_after, key_limit_error, killed_after, stopped_after, violation_at}
use Rattle.qc_state.specs.Types.{TokenMaker, Types, Meaning}
use Rattle.qc_state.specs.Updating.{tried_after, tried_view}
use Rattle.qc_state.specs.View.{View, At, at}
use Rattle.qc_state.proofs.DatagramSteps.{carried_oldest}
use Rattle.qc_state.proofs.IdSteps.{carried_next}
use Rattle.qc_state.proofs.SealedSteps.{carried_may}
use Rattle.qc_state.specs.Datagrams.{AllOldest}
use Rattle.qc_state.specs.Ids.{AllNext}
use Rattle.qc_state.specs.StreamFrames.{sealed_steps}
use Rattle.qc_streams.specs.Steps.{AllMay}
use Rattle.qc_state.proofs.Probing.{due_established, due_keyed, due_validated, established_alive, established_open, probe_keys, probe_life, probe_paths, probe_ping, sealed_validated}
use Rattle.qc_state.proofs.Begun.{begun_keys, begun_life, begun_same, holds_begun}
use Rattle.qc_state.proofs.Tried.{holds_tried, tried_same}
use Rattle.qc_state.proofs.Telling.{is_none_none, low_rank, open_rank}
use Rattle.qc_state.specs.declared.transmit.Batch.{Batch}

-- what this end sends as its close is a close
application_closes : (id : SpaceId) (code : ℕ) (kept : List ℕ) → is_close (application_close id code kept) ≡ true
application_closes Initial code kept = refl
application_closes Handshake code kept = refl
application_closes Data code kept = refl

closing_closes : (id : SpaceId) (kept : List ℕ) (b : Bool) (c : Option Close) → is_close (if b then told_close id kept c else close_frame 0x00 None) ≡ true
closing_closes id kept true None = refl
closing_closes id kept true (Some (Connection c)) = refl
closing_closes id kept true (Some (Application c)) = application_closes id c.error_code kept
closing_closes id kept false c = refl

any_first : (f : FrameValue) (fs : List FrameValue) → is_close f ≡ true → list_any is_close (f ∷ fs) ≡ true
any_first f fs e = rw e refl

-- of two tests that hold the first holds
first_of_both : (a b : Bool) → (a && b) ≡ true → a ≡ true
first_of_both true b h = refl
first_of_both false b h = cc

-- one test more changes nothing of one that holds
any_more : (a b : Bool) → b ≡ true → (a || b) ≡ true
any_more true b h = refl
any_more false b h = h

-- behind other frames too
any_behind : (fs gs : List FrameValue) → list_any is_close gs ≡ true → list_any is_close (fs ++ gs) ≡ true
any_behind [] gs h = h
any_behind (f ∷ fs) gs h = any_more (is_close f) _ (any_behind fs gs h)

-- the moves with which a packet is begun, behind an update that is tried for it, and counted in flight: those beside taking and sealing it
abbrev pub IsPacketMove : {t : Types} → Move t → Type 0
IsPacketMove (Update fresh session) = Unit {0}
IsPacketMove (Begin id opens) = Unit {0}
IsPacketMove Skip = Unit {0}
IsPacketMove (Spend tokens) = Unit {0}
IsPacketMove (Arm at) = Unit {0}
IsPacketMove _ = ⊥

-- the reasons for which a transmit ends a connection, or closes it: a key, or the packet numbers, are used up, or a token leaves no room
abbrev pub IsSendingReason : ConnectionError → Type 0
IsSendingReason why = (why ≡ lost.TransportError key_limit_error) ⊎ ((why ≡ internal_error) ⊎ (why ≡ lost.TransportError (violation_at None)))

-- the one for which a packet can't begin is among them
kill_reason : (worn used long : Bool) (why : ConnectionError) →
    (if worn then Some (lost.TransportError key_limit_error) else if used then Some internal_error else if long then Some (lost.TransportError (violation_at None)) else None) ≡ Some why → IsSendingReason why
kill_reason true used long why h = inl cc
kill_reason false true long why h = inr (inl cc)
kill_reason false false true why h = inr (inr cc)
kill_reason false false false why h = absurd cc

-- the moves that a transmit makes, beside those that take and seal
abbrev pub IsSending : {t : Types} → Move t → Type 0
IsSending (Ask id) = Unit {0}
IsSending (Forget id) = id ≡ Initial
IsSending (Shut time close) = Unit {0}
IsSending (Raise to) = to ≡ state.Drained
IsSending (Give why) = IsSendingReason why
IsSending (Hold until) = Unit {0}
IsSending (Finish bytes control) = Unit {0}
IsSending (Probe time n bytes q) = Unit {0}
IsSending (Say q) = Unit {0}
IsSending x = IsPacketMove x

-- those of a packet among them
of_packet : {t : Types} (x : Move t) → IsPacketMove x → IsSending x
of_packet (Ask id) h = absurd h
of_packet (Forget id) h = absurd h
of_packet (Shut time close) h = absurd h
of_packet (Raise to) h = absurd h
of_packet (Give why) h = absurd h
of_packet (Hold until) h = absurd h
of_packet (Finish bytes control) h = absurd h
of_packet (Probe time n bytes q) h = absurd h
of_packet (Say q) h = absurd h
of_packet _ h = h

-- those beside an update, the one by which the pacer spends, and the one by which the controller is told
abbrev pub IsUntold : {t : Types} → Move t → Type 0
IsUntold (Update fresh session) = ⊥
IsUntold (Spend tokens) = ⊥
IsUntold (Finish bytes control) = ⊥
IsUntold x = IsSending x

pub untold_sending : {t : Types} (x : Move t) → IsUntold x → IsSending x
untold_sending (Update fresh session) h = absurd h
untold_sending (Spend tokens) h = absurd h
untold_sending (Finish bytes control) h = absurd h
untold_sending _ h = h

-- those with which one packet is begun, and counted in flight: without an update
abbrev pub IsBeginning : {t : Types} → Move t → Type 0
IsBeginning (Update fresh session) = ⊥
IsBeginning x = IsPacketMove x

pub beginning_packet : {t : Types} (x : Move t) → IsBeginning x → IsPacketMove x
beginning_packet (Update fresh session) h = absurd h
beginning_packet _ h = h

-- those among them beside the one by which the pacer spends
abbrev pub IsUnspent : {t : Types} → Move t → Type 0
IsUnspent (Spend tokens) = ⊥
IsUnspent x = IsBeginning x

unspent_beginning : {t : Types} (x : Move t) → IsUnspent x → IsBeginning x
unspent_beginning (Spend tokens) h = absurd h
unspent_beginning _ h = h

unspent_untold : {t : Types} (x : Move t) → IsUnspent x → IsUntold x
unspent_untold (Update fresh session) h = absurd h
unspent_untold (Spend tokens) h = absurd h
unspent_untold (Finish bytes control) h = absurd h
unspent_untold x h = of_packet x (beginning_packet x h)

-- a datagram that the pacer holds back isn't held back by the end
not_silent : (silent owes blocked : Bool) (held : Option Quiet) → quiet_by silent owes blocked held ≡ Some Pacing → silent ≡ false
not_silent true owes blocked held h = cc
not_silent false owes blocked held h = refl

first_of_neither : (a b : Bool) → (a || b) ≡ false → a ≡ false
first_of_neither true b h = cc
first_of_neither false b h = refl

-- where no limit stands, none of the three does
none_stands : (key number room : Bool) (x y z : ConnectionError) → (if key then Some x else (if number then Some y else (if room then Some z else None))) ≡ None → (key ≡ false) × (number ≡ false) × (room ≡ false)
none_stands true number room x y z h = cc
none_stands false true room x y z h = cc
none_stands false false true x y z h = cc
none_stands false false false x y z h = (refl, refl, refl)

-- PADDING behind a close leaves it there
padded_closes : (n : ℕ) (fs gs : List FrameValue) → fs ≡ gs ++ replicate n Padding → list_any is_close gs ≡ true → list_any is_close fs ≡ true
padded_closes n fs gs is holds =
    ap (list_any is_close) is ∙ list_any-append is_close gs (replicate n Padding) ∙ ap (λ (b : Bool). b || list_any is_close (replicate n Padding)) holds

-- with fewer bytes the path is no sooner blocked
fewer_block : (validated : Bool) (most bytes sent : ℕ) → (not validated && nat_le most (bytes + sent)) ≡ false → (not validated && nat_le most sent) ≡ false
fewer_block true most bytes sent h = refl
fewer_block false most bytes sent h = grind (arith, nat_tests)

module _ {t : Types} where
  -- where a packet may begin, its key may seal one more, its number can be spelled, and its token isn't too long
  pub unlimited : (b : Batch) (s : View t) (form : Form) → kill_in b s form ≡ None → (is_key_used_up s form ≡ false) × (is_used_up s (number_space form) ≡ false) × (is_token_too_long b s form ≡ false)
  unfolding kill_in
  unlimited b s form h = none_stands _ _ _ _ _ _ h

  -- a datagram that nothing holds back is begun on a path that isn't blocked, with the datagrams before it too
  pub free_behind : (m : Meaning t) (time : ℕ) (s : View t) (b : Batch) (id : SpaceId) → limit_in m time s b id ≡ None → is_blocked_behind s.paths b.total ≡ false
  unfolding limit_in
  free_behind m time s b id h = free_by (is_blocked_behind s.paths b.total) _ refl h
    where
      free_by : (blocked : Bool) (held : Option Quiet) → is_blocked_behind s.paths b.total ≡ blocked → (if blocked then Some Amplification else held) ≡ None → is_blocked_behind s.paths b.total ≡ false
      free_by true held e h = cc
      free_by false held e h = e

  pub free_unblocked : (m : Meaning t) (time : ℕ) (s : View t) (b : Batch) (id : SpaceId) → limit_in m time s b id ≡ None → is_blocked s.paths ≡ false
  unfolding is_blocked is_blocked_behind
  free_unblocked m time s b id h = fewer_block s.paths.current.validated (3 * s.paths.current.received) b.total s.paths.current.sent (free_behind m time s b id h)

  -- what is known of a packet with these frames as it is sealed, once it was begun
  pub record IsSealable (time : ℕ) (s : View t) (form : Form) (fs : List FrameValue) : Type 0 where
    pub token : TokenMaker t
    pub closing : Bool
    pub room : ℕ
    pub small : room ≤ 65527
    pub carries : Carries token closing time s form room fs
    pub takes : AllMay (sealed_steps fs) s.lower.streams
    pub oldest : AllOldest fs s.lower.datagrams
    pub next : AllNext fs s.lower.ids
    pub closes : ClosesOnly (rank_of s.life.state) fs
    pub fresh : reaches_limit 0 (usage_of s.keys form) ≡ false
    pub alive : is_drained s.life.state ≡ false
    pub keyed : has_keys_for s.keys form ≡ true

  -- an ACK and a close hold a close
  closes_close : (time : ℕ) (s : View t) (id : SpaceId) (room : ℕ) (gs : List FrameValue) → Closes time s id room gs → list_any is_close gs ≡ true
  closes_close time s id room gs (Closes.closing acks part kept reason is) =
      ap (list_any is_close) is ∙ any_behind acks (closing_frame id kept s.life ∷ []) (any_first (closing_frame id kept s.life) [] (closing_closes id kept (is_closed s.life.state) s.life.close))

  -- a packet that may follow holds a close, once the connection has closed
  closes_only : (m : Meaning t) (time : ℕ) (s : View t) (b : Batch) (p : Sent) → MayFollow m time s b p → ClosesOnly (rank_of s.life.state) p.frames
  closes_only m time s b p may = carried_closes may.carries
    where
      carried_closes : Carries m.token b.closing time (begun_view s (number_space p.form) p.opens) p.form (room_in (begun_batch s (number_space p.form) p.opens b) (begun_view s (number_space p.form) p.opens) p.form) p.frames → ClosesOnly (rank_of s.life.state) p.frames
      carried_closes (Carries.a_close owed gs n holds is) = λ r. padded_closes n p.frames gs is (closes_close time (begun_view s (number_space p.form) p.opens) (number_space p.form) _ gs holds)
      carried_closes (Carries.what_waits free gs n wait is) = λ r. absurd (omega (arith, r, open_rank s.life.state (may.begins.turn.unclosed free)))

  -- a packet has no more room than its datagram has bytes
  room_small : (b : Batch) (s : View t) (form : Form) → b.capacity ≤ 65527 → room_in b s form ≤ 65527
  unfolding room_in room_of
  room_small b s form h = omega (arith, h)

  -- a space that owes something has keys
  pub owing_keyed : (b : Batch) (s : View t) (id : SpaceId) → owes_in b s id ≡ true → has_keys s.keys id ≡ true
  unfolding owes_in
  owing_keyed b s id h = first_of_both (has_keys s.keys id) _ h

  -- so there are keys for a packet that may be begun
  pub begins_keyed : (m : Meaning t) (time : ℕ) (s : View t) (b : Batch) (form : Form) (opens : Bool) → MayBegin m time s b form opens → has_keys_for s.keys form ≡ true
  unfolding has_keys
  begins_keyed m time s b form opens may = subst (λ (f : Form). has_keys_for s.keys f ≡ true) (sym may.now) (owing_keyed b s (number_space form) may.turn.owed)

  -- what is known of a packet that may follow, once it was begun
  sealable : (m : Meaning t) (time : ℕ) (p : Sent) (a : At t) (b : Batch) → MayFollow m time a.state b p → IsSealable time (begun_after (number_space p.form) p.opens a).state p.form p.frames
  unfolding is_key_used_up
  sealable m time p a b may =
      let room : ℕ = room_in (begun_batch a.state (number_space p.form) p.opens b) (begun_view a.state (number_space p.form) p.opens) p.form in
      let carries : Carries m.token b.closing time (begun_after (number_space p.form) p.opens a).state p.form room p.frames =
      subst (λ (s : View t). Carries m.token b.closing time s p.form room p.frames) (sym (begun_same (number_space p.form) p.opens a)) may.carries in
      record {
        token = m.token;
        closing = b.closing;
        room = room;
        small = room_small (begun_batch a.state (number_space p.form) p.opens b) (begun_view a.state (number_space p.form) p.opens) p.form may.sized;
        carries = carries;
        takes = carried_may m.token b.closing time (begun_after (number_space p.form) p.opens a).state p.form _ p.frames carries;
        oldest = carried_oldest m.token b.closing time (begun_after (number_space p.form) p.opens a).state p.form _ p.frames carries;
        next = carried_next m.token b.closing time (begun_after (number_space p.form) p.opens a).state p.form _ p.frames carries;
        closes = subst (λ (l : Life). ClosesOnly (rank_of l.state) p.frames) (sym (begun_life (number_space p.form) p.opens a)) (closes_only m time a.state b p may);
        fresh = subst (λ (k : KeyGroup t.H t.P). reaches_limit 0 (usage_of k p.form) ≡ false) (sym (begun_keys (number_space p.form) p.opens a)) (unlimited b a.state p.form may.begins.fresh).0;
        alive = subst (λ (l : Life). is_drained l.state ≡ false) (sym (begun_life (number_space p.form) p.opens a)) may.begins.turn.alive;
        keyed = subst (λ (k : KeyGroup t.H t.P). has_keys_for k p.form ≡ true) (sym (begun_keys (number_space p.form) p.opens a)) (begins_keyed m time a.state b p.form p.opens may.begins);
      }

-- what holds of no move, of two moves one after the other, of each move with which a packet is begun, where it may be made, and of what the
-- pacer spends, holds of what follows a packet that was sealed
module _ {t : Types} (m : Meaning t) (R : At t → At t → Type 0) (here : (a : At t) → R a a) (next : (a b c : At t) → R a b → R b c → R a c)
    (move : (x : Move t) → IsUnspent x → (a : At t) → MayMove x a.state → R a (move_to x a))
    (spend : (time size : ℕ) (a : At t) → R a (spent_after m time size a)) where
  -- the pacer spends, and the loss timer is set anew behind a packet in flight
  flown : (time size : ℕ) (counts : Bool) (a : At t) → R a (flown_after m time size counts a)
  unfolding armed_with MayMove
  flown time size true a =
      let b : At t = spent_after m time size a in
      next a b _ (spend time size a) (move (Arm (loss_time b.state false time)) tt b (record { blocked = false; time = time; set = refl }))
  flown time size false a = here a

-- and where it holds of the two moves with which a packet is taken and sealed, it holds of the packets of a transmit
module _ {t : Types} (m : Meaning t) (R : At t → At t → Type 0) (here : (a : At t) → R a a) (next : (a b c : At t) → R a b → R b c → R a c)
    (move : (x : Move t) → IsUnspent x → (a : At t) → MayMove x a.state → R a (move_to x a))
    (spend : (time size : ℕ) (a : At t) → R a (spent_after m time size a))
    (seal : (time : ℕ) (form : Form) (fs : List FrameValue) (a : At t) → IsSealable time a.state form fs → R a (move_to (Seal time form (next_number a.state.numbers (number_space form)) (packet_size a.state form fs) fs) (move_to (Take (number_space form) fs) a))) where
  -- a packet is taken and sealed
  sealed : (time : ℕ) (form : Form) (fs : List FrameValue) (a : At t) → IsSealable time a.state form fs → R a (sealed_in m time form fs a)
  unfolding sealed_in
  sealed time form fs a may =
      let b : At t = move_to (Seal time form (next_number a.state.numbers (number_space form)) (packet_size a.state form fs) fs) (move_to (Take (number_space form) fs) a) in
      next a b _ (seal time form fs a may) (flown m R here next move spend time (packet_size a.state form fs) (is_flown a.state fs) b)

  pub packet_told : (time : ℕ) (p : Sent) (g : Going t) → MayFollow m time g.now.state g.batch p → R g.now (packet_after m time p g).now
  unfolding packet_after MayMove
  packet_told time p g may =
      let b : At t = begun_after (number_space p.form) p.opens g.now in
      next g.now b _ (holds_begun R here next (number_space p.form) p.opens g.now (λ x. move (Begin (number_space p.form) p.opens) tt x tt) (λ x skips. move Skip tt x skips))
      (sealed time p.form p.frames b (sealable m time p g.now g.batch may))

  -- and each behind an update that is tried for it
  pub packets_told : ((f : Form) (a : At t) → R a (tried_after m f a)) → (time : ℕ) (ps : List Sent) (g : Going t) → MayAll m time g ps → R g.now (packets_after m time ps g).now
  packets_told tried time [] g may = here g.now
  packets_told tried time (p ∷ ps) g may =
      let f : Going t = going_tried m p.form g in
      let h : Going t = packet_after m time p f in
      next g.now f.now _ (tried p.form g.now) (next f.now h.now _ (packet_told time p f may.0) (packets_told tried time ps h may.1))

-- so it does where it holds of each spending, whatever is left
module _ {t : Types} (R : At t → At t → Type 0) (here : (a : At t) → R a a) (next : (a b c : At t) → R a b → R b c → R a c)
    (move : (x : Move t) → IsPacketMove x → (a : At t) → MayMove x a.state → R a (move_to x a))
    (seal : (time : ℕ) (form : Form) (fs : List FrameValue) (a : At t) → IsSealable time a.state form fs → R a (move_to (Seal time form (next_number a.state.numbers (number_space form)) (packet_size a.state form fs) fs) (move_to (Take (number_space form) fs) a))) where
  pub holds_packets : (m : Meaning t) (time : ℕ) (ps : List Sent) (g : Going t) → MayAll m time g ps → R g.now (packets_after m time ps g).now
  unfolding spent_after MayMove
  holds_packets m time ps g may =
      packets_told m R here next (λ x p a h. move x (beginning_packet x (unspent_beginning x p)) a h) (λ at size a. move (Spend _) tt a tt) seal
      (λ f a. holds_tried m R here (λ b h. move (Update _ _) tt b h) f a) time ps g may

-- and, where nothing need hold of an update, of one packet
module _ {t : Types} (R : At t → At t → Type 0) (here : (a : At t) → R a a) (next : (a b c : At t) → R a b → R b c → R a c)
    (move : (x : Move t) → IsBeginning x → (a : At t) → MayMove x a.state → R a (move_to x a))
    (seal : (time : ℕ) (form : Form) (fs : List FrameValue) (a : At t) → IsSealable time a.state form fs → R a (move_to (Seal time form (next_number a.state.numbers (number_space form)) (packet_size a.state form fs) fs) (move_to (Take (number_space form) fs) a))) where
  pub holds_packet : (m : Meaning t) (time : ℕ) (p : Sent) (g : Going t) → MayFollow m time g.now.state g.batch p → R g.now (packet_after m time p g).now
  unfolding spent_after MayMove
  holds_packet m time p g may = packet_told m R here next (λ x p a h. move x (unspent_beginning x p) a h) (λ at size a. move (Spend _) tt a tt) seal time p g may

-- what holds of no move, of two moves one after the other, and of each other move that a transmit makes, where it may be made, holds of an
-- end and of what spares a key
module _ {t : Types} (R : At t → At t → Type 0) (here : (a : At t) → R a a) (next : (a b c : At t) → R a b → R b c → R a c)
    (move : (x : Move t) → IsUntold x → (a : At t) → MayMove x a.state → R a (move_to x a)) where
  given_by : (why : ConnectionError) (a : At t) (b : Bool) → IsSendingReason why → is_none a.state.life.reason ≡ b → R a (if b then move_to (Give why) a else a)
  unfolding MayMove
  given_by why a true known h = move (Give why) known a (is_none_none a.state.life.reason h)
  given_by why a false known h = here a

  -- the Initial space is left, or not
  left_by : (time : ℕ) (a : At t) (b : Bool) → R a (if b then armed_with false time (move_to (Forget Initial) a) else a)
  unfolding armed_with MayMove
  left_by time a true = let b : At t = move_to (Forget Initial) a in next a b _ (move (Forget Initial) refl a tt) (move (Arm (loss_time b.state false time)) tt b (record { blocked = false; time = time; set = refl }))
  left_by time a false = here a

  left : (time : ℕ) (shook : Bool) (a : At t) → R a (handshake_left time shook a)
  unfolding initial_left
  left time true a = left_by time a (drops_initial Client a.state Handshake)
  left time false a = here a

  -- this end closes behind a packet, or not
  stopped_by : (time : ℕ) (close : Close) (why : ConnectionError) (a : At t) (b : Bool) → IsSendingReason why → is_open a.state.life.state ≡ b → R a (if b then given_after why (move_to (Shut time close) a) else a)
  unfolding given_after MayMove
  stopped_by time close why a true known h =
      let b : At t = move_to (Shut time close) a in
      next a b _ (move (Shut time close) tt a (open_rank a.state.life.state h)) (given_by why b _ known refl)
  stopped_by time close why a false known h = here a

  pub holds_spared : (time : ℕ) (nearly : Bool) (a : At t) → R a (spared_after time nearly a)
  unfolding spared_after stopped_after
  holds_spared time true a = stopped_by time _ (lost.TransportError key_limit_error) a _ (inl refl) refl
  holds_spared time false a = here a

  -- the connection ends
  killed : (why : ConnectionError) (a : At t) → IsSendingReason why → is_drained a.state.life.state ≡ false → R a (killed_after why a)
  unfolding killed_after given_after MayMove
  killed why a known h = next a (move_to (Raise state.Drained) a) _ (move (Raise state.Drained) refl a (low_rank a.state.life.state h)) (given_by why (move_to (Raise state.Drained) a) _ known refl)

  -- the pacer holds a datagram back
  held_by_pacer : (m : Meaning t) (time : ℕ) (b : Batch) (a : At t) → is_drained a.state.life.state ≡ false → R a (held_after m time Pacing b a)
  unfolding held_after MayMove
  held_by_pacer m time b a alive = move (Hold (paced_until m time a.state (next_segment b))) tt a alive

  -- the pacer holds a datagram back, or doesn't
  held : (m : Meaning t) (time : ℕ) (quiet : Quiet) (b : Batch) (a : At t) → quiet_of m time a.state b ≡ Some quiet → R a (held_after m time quiet b a)
  unfolding held_after quiet_of is_silent MayMove
  held m time Pacing b a h =
      held_by_pacer m time b a (first_of_neither (is_drained a.state.life.state) _ (not_silent (is_silent a.state) _ _ _ h))
  held m time NothingOwed b a h = here a
  held m time Silent b a h = here a
  held m time Amplification b a h = here a
  held m time Congestion b a h = here a
  held m time Killed b a h = here a

-- a probe of the path's size is one that may be sealed
module _ {t : Types} where
  probe_open : (m : Meaning t) (time size : ℕ) (quiet : Quiet) (b : Batch) (a : At t) → probe_size time a.state ≡ Some size → is_established (probe_begun_after m time quiet b a).state.life.state ≡ true
  probe_open m time size quiet b a due = ap (λ (l : Life). is_established l.state) (probe_life m time quiet b a) ∙ due_established time size a.state due

  pub probe_sealable : (m : Meaning t) (time size : ℕ) (quiet : Quiet) (b : Batch) (a : At t) → probe_size time a.state ≡ Some size → kill_in b a.state form.OneRtt ≡ None →
      IsSealable time (probe_begun_after m time quiet b a).state form.OneRtt (probe_frames (probe_begun_after m time quiet b a).state size)
  unfolding probe_frames WaitAll Waits is_key_used_up
  probe_sealable m time size quiet b a due kill =
      let c : At t = probe_begun_after m time quiet b a in
      let n : ℕ = size - packet_size c.state form.OneRtt (Ping ∷ []) in
      let carries : Carries m.token false time c.state form.OneRtt 0 (Ping ∷ replicate n Padding) = Carries.what_waits refl (Ping ∷ []) n (probe_ping m time quiet b a, tt) refl in
      record {
        token = m.token;
        closing = false;
        room = 0;
        small = omega arith;
        carries = carries;
        takes = carried_may m.token false time c.state form.OneRtt 0 (Ping ∷ replicate n Padding) carries;
        oldest = carried_oldest m.token false time c.state form.OneRtt 0 (Ping ∷ replicate n Padding) carries;
        next = carried_next m.token false time c.state form.OneRtt 0 (Ping ∷ replicate n Padding) carries;
        closes = λ r. absurd (omega (arith, r, open_rank c.state.life.state (established_open c.state.life.state (probe_open m time size quiet b a due))));
        fresh = subst (λ (k : KeyGroup t.H t.P). reaches_limit 0 (usage_of k form.OneRtt) ≡ false) (sym (probe_keys m time quiet b a)) (unlimited b a.state form.OneRtt kill).0;
        alive = established_alive c.state.life.state (probe_open m time size quiet b a due);
        keyed = ap (λ (k : KeyGroup t.H t.P). has_keys_for k form.OneRtt) (probe_keys m time quiet b a) ∙ due_keyed time size a.state due;
      }

  probe_alive : (m : Meaning t) (time : ℕ) (b : Batch) (a : At t) (quiet : Quiet) (size : ℕ) → MayProbe m time a.state b quiet size → is_drained a.state.life.state ≡ false
  probe_alive m time b a quiet size may = established_alive a.state.life.state (due_established time size a.state may.due)

  -- where a packet was to begin that can't, the connection hasn't ended yet
  dies_by : (m : Meaning t) (time : ℕ) (f : Form) (why : ConnectionError) (b : Batch) (a : At t) → Dies m time a.state b f why ⊎ DiesProbing m time a.state b f why → is_drained a.state.life.state ≡ false
  dies_by m time f why b a (inl dies) = dies.turn.alive
  dies_by m time f why b a (inr dies) = probe_alive m time b a dies.quiet dies.size dies.may

  -- and it ends for one of the reasons for which a transmit does
  dies_for : (m : Meaning t) (time : ℕ) (f : Form) (why : ConnectionError) (b : Batch) (s : View t) → Dies m time s b f why ⊎ DiesProbing m time s b f why → IsSendingReason why
  unfolding kill_in
  dies_for m time f why b s (inl dies) = kill_reason (is_key_used_up s f) (is_used_up s (number_space f)) (is_token_too_long b s f) why dies.kill
  dies_for m time f why b s (inr dies) = kill_reason (is_key_used_up s f) (is_used_up s (number_space f)) (is_token_too_long b s f) why dies.kill

  dies_alive : (m : Meaning t) (time : ℕ) (f : Form) (why : ConnectionError) (b : Batch) (a : At t) → MayEnd m time (Died f why) a.state b → is_drained (tried_after m f a).state.life.state ≡ false
  dies_alive m time f why b a may =
      dies_by m time f why b (tried_after m f a) (subst (λ (s : View t). Dies m time s b f why ⊎ DiesProbing m time s b f why) (sym (tried_same m f a)) may)

-- what holds of each move, of what the pacer spends, and of the two moves with which its packet is taken and sealed, holds of a probe of the path's
-- size
module _ {t : Types} (m : Meaning t) (R : At t → At t → Type 0) (here : (a : At t) → R a a) (next : (a b c : At t) → R a b → R b c → R a c)
    (move : (x : Move t) → IsUntold x → (a : At t) → MayMove x a.state → R a (move_to x a))
    (spend : (time size : ℕ) (a : At t) → R a (spent_after m time size a))
    (seal : (time : ℕ) (fs : List FrameValue) (a : At t) → IsSealable time a.state form.OneRtt fs → R a (move_to (Seal time form.OneRtt (next_number a.state.numbers «Data») (packet_size a.state form.OneRtt fs) fs) (move_to (Take «Data» fs) a))) where
  probe_taken : (time : ℕ) (fs : List FrameValue) (a : At t) → IsSealable time a.state form.OneRtt fs → R a (sealed_in m time form.OneRtt fs a)
  unfolding sealed_in
  probe_taken time fs a may =
      let b : At t = move_to (Seal time form.OneRtt (next_number a.state.numbers «Data») (packet_size a.state form.OneRtt fs) fs) (move_to (Take «Data» fs) a) in
      next a b _ (seal time fs a may) (flown m R here next (λ x p y h. move x (unspent_untold x p) y h) spend time (packet_size a.state form.OneRtt fs) (is_flown a.state fs) b)

  begun_probe : (time : ℕ) (quiet : Quiet) (b : Batch) (a : At t) → quiet_of m time a.state b ≡ Some quiet → R a (probe_begun_after m time quiet b a)
  unfolding probe_begun_after MayMove
  begun_probe time quiet b a cause =
      let c : At t = held_after m time quiet b a in
      let d : At t = move_to (Ask «Data») c in
      next a c _ (held R here next move m time quiet b a cause)
      (next c d _ (move (Ask «Data») tt c tt) (holds_begun R here next «Data» false d (λ x. move (Begin «Data» false) tt x tt) (λ x skips. move Skip tt x skips)))

  pub probe_told : (time size : ℕ) (quiet : Quiet) (b : Batch) (a : At t) → MayProbe m time a.state b quiet size → kill_in b a.state form.OneRtt ≡ None → R a (probed_after m time size quiet b a)
  unfolding probed_after probe_sealed MayMove
  probe_told time size quiet b a may kill =
      let c : At t = probe_begun_after m time quiet b a in
      let fs : List FrameValue = probe_frames c.state size in
      let d : At t = sealed_in m time form.OneRtt fs c in
      let e : At t = move_to (Probe time (next_number c.state.numbers «Data») size quiet) d in
      let validated : d.state.paths.current.validated ≡ true =
      sealed_validated m time form.OneRtt fs c ∙ ap (λ (p : Paths t.C). p.current.validated) (probe_paths m time quiet b a) ∙ due_validated time size a.state may.due in
      next a c _ (begun_probe time quiet b a may.cause)
      (next c d _ (probe_taken time fs c (probe_sealable m time size quiet b a may.due kill))
      (next d e _ (move (Probe time (next_number c.state.numbers «Data») size quiet) tt d validated) (holds_spared R here next move time (is_key_nearly_used_up c.state form.OneRtt) e)))

-- an ending without such a probe
abbrev pub IsUnprobed : Ending → Type 0
IsUnprobed (Probed quiet size) = ⊥
IsUnprobed e = Unit {0}

-- and where it holds of what the controller is told, of how a transmit ends, but with a probe
module _ {t : Types} (m : Meaning t) (R : At t → At t → Type 0) (here : (a : At t) → R a a) (next : (a b c : At t) → R a b → R b c → R a c)
    (move : (x : Move t) → IsUntold x → (a : At t) → MayMove x a.state → R a (move_to x a))
    (tried : (f : Form) (a : At t) → R a (tried_after m f a))
    (tell : (time : ℕ) (b : Batch) (a : At t) → R a (told_sent m time b a)) where
  pub unprobed_told : (time : ℕ) (e : Ending) (b : Batch) (a : At t) → IsUnprobed e → MayEnd m time e a.state b → R a (ending_after m time e b a)
  unfolding ending_after finished_after MayMove
  unprobed_told time Went b a plain may =
      let c : At t = handshake_left time b.shook a in
      let d : At t = spared_after time b.worn c in
      next a c _ (left R here next move time b.shook a) (next c d _ (holds_spared R here next move time b.worn c) (tell time b d))
  unprobed_told time Held b a plain may =
      let e : At t = held_after m time Pacing b a in
      let c : At t = handshake_left time b.shook e in
      let d : At t = spared_after time b.worn c in
      next a e _ (held_by_pacer R here next move m time b a may.1.turn.alive) (next e c _ (left R here next move time b.shook e) (next c d _ (holds_spared R here next move time b.worn c) (tell time b d)))
  unprobed_told time (Hushed quiet) b a plain may =
      let c : At t = held_after m time quiet b a in
      next a c _ (held R here next move m time quiet b a may.1) (move (Say quiet) tt c tt)
  unprobed_told time (Probed quiet size) b a plain may = absurd plain
  unprobed_told time (Died f why) b a plain may =
      let d : At t = tried_after m f a in
      let c : At t = killed_after why d in
      next a d _ (tried f a)
      (next d c _ (killed R here next move why d (dies_for m time f why b (tried_view m a.state f) may) (dies_alive m time f why b a may)) (move (Say Killed) tt c tt))

-- and with one
module _ {t : Types} (m : Meaning t) (R : At t → At t → Type 0) (here : (a : At t) → R a a) (next : (a b c : At t) → R a b → R b c → R a c)
    (move : (x : Move t) → IsUntold x → (a : At t) → MayMove x a.state → R a (move_to x a))
    (tried : (f : Form) (a : At t) → R a (tried_after m f a))
    (spend : (time size : ℕ) (a : At t) → R a (spent_after m time size a))
    (tell : (time : ℕ) (b : Batch) (a : At t) → R a (told_sent m time b a))
    (seal : (time : ℕ) (fs : List FrameValue) (a : At t) → IsSealable time a.state form.OneRtt fs → R a (move_to (Seal time form.OneRtt (next_number a.state.numbers «Data») (packet_size a.state form.OneRtt fs) fs) (move_to (Take «Data» fs) a))) where
  pub ending_told : (time : ℕ) (e : Ending) (b : Batch) (a : At t) → MayEnd m time e a.state b → R a (ending_after m time e b a)
  unfolding ending_after
  ending_told time (Probed quiet size) b a may =
      let c : At t = tried_after m form.OneRtt a in
      next a c _ (tried form.OneRtt a)
      (probe_told m R here next move spend seal time size quiet b c (subst (λ (s : View t). MayProbe m time s b quiet size) (sym (tried_same m form.OneRtt a)) may.0)
      (subst (λ (s : View t). kill_in b s form.OneRtt ≡ None) (sym (tried_same m form.OneRtt a)) may.1))
  ending_told time Went b a may = unprobed_told m R here next move tried tell time Went b a tt may
  ending_told time Held b a may = unprobed_told m R here next move tried tell time Held b a tt may
  ending_told time (Hushed quiet) b a may = unprobed_told m R here next move tried tell time (Hushed quiet) b a tt may
  ending_told time (Died f why) b a may = unprobed_told m R here next move tried tell time (Died f why) b a tt may

module _ {t : Types} (R : At t → At t → Type 0) (here : (a : At t) → R a a) (next : (a b c : At t) → R a b → R b c → R a c)
    (move : (x : Move t) → IsSending x → (a : At t) → MayMove x a.state → R a (move_to x a)) where
  pub holds_unprobed : (m : Meaning t) (time : ℕ) (e : Ending) (b : Batch) (a : At t) → IsUnprobed e → MayEnd m time e a.state b → R a (ending_after m time e b a)
  unfolding told_sent MayMove
  holds_unprobed m time e b a plain may = unprobed_told m R here next (λ x s c h. move x (untold_sending x s) c h) (λ f c. holds_tried m R here (λ x h. move (Update _ _) tt x h) f c) (λ at batch c. move (Finish batch.total _) tt c tt) time e b a plain may

module _ {t : Types} (R : At t → At t → Type 0) (here : (a : At t) → R a a) (next : (a b c : At t) → R a b → R b c → R a c)
    (move : (x : Move t) → IsSending x → (a : At t) → MayMove x a.state → R a (move_to x a))
    (seal : (time : ℕ) (fs : List FrameValue) (a : At t) → IsSealable time a.state form.OneRtt fs → R a (move_to (Seal time form.OneRtt (next_number a.state.numbers «Data») (packet_size a.state form.OneRtt fs) fs) (move_to (Take «Data» fs) a))) where
  pub holds_ending : (m : Meaning t) (time : ℕ) (e : Ending) (b : Batch) (a : At t) → MayEnd m time e a.state b → R a (ending_after m time e b a)
  unfolding told_sent spent_after MayMove
  holds_ending m time e b a may =
      ending_told m R here next (λ x s c h. move x (untold_sending x s) c h) (λ f c. holds_tried m R here (λ x h. move (Update _ _) tt x h) f c) (λ at size c. move (Spend _) tt c tt) (λ at batch c. move (Finish batch.total _) tt c tt) seal time e b a may

-- and of a transmit
module _ {t : Types} (m : Meaning t) (R : At t → At t → Type 0) (here : (a : At t) → R a a) (next : (a b c : At t) → R a b → R b c → R a c)
    (move : (x : Move t) → IsUntold x → (a : At t) → MayMove x a.state → R a (move_to x a))
    (tried : (f : Form) (a : At t) → R a (tried_after m f a))
    (spend : (time size : ℕ) (a : At t) → R a (spent_after m time size a))
    (tell : (time : ℕ) (b : Batch) (a : At t) → R a (told_sent m time b a))
    (seal : (time : ℕ) (form : Form) (fs : List FrameValue) (a : At t) → IsSealable time a.state form fs → R a (move_to (Seal time form (next_number a.state.numbers (number_space form)) (packet_size a.state form fs) fs) (move_to (Take (number_space form) fs) a))) where
  pub transmit_told : (time asked : ℕ) (choice : Choice) (a : At t) → MayTransmit m time asked choice a → R a (transmit_after m time asked choice a)
  unfolding MayTransmit transmit_after gone_after
  transmit_told time asked choice a may =
      let g : Going t = packets_after m time choice.packets (going_from asked a) in
      next a g.now _ (packets_told m R here next (λ x p b h. move x (unspent_untold x p) b h) spend seal tried time choice.packets (going_from asked a) may.0) (ending_told m R here next move tried spend tell (λ at fs b h. seal at form.OneRtt fs b h) time choice.ending g.batch g.now may.1)

module _ {t : Types} (R : At t → At t → Type 0) (here : (a : At t) → R a a) (next : (a b c : At t) → R a b → R b c → R a c)
    (move : (x : Move t) → IsSending x → (a : At t) → MayMove x a.state → R a (move_to x a))
    (seal : (time : ℕ) (form : Form) (fs : List FrameValue) (a : At t) → IsSealable time a.state form fs → R a (move_to (Seal time form (next_number a.state.numbers (number_space form)) (packet_size a.state form fs) fs) (move_to (Take (number_space form) fs) a))) where
  pub holds_transmit : (m : Meaning t) (time asked : ℕ) (choice : Choice) (a : At t) → MayTransmit m time asked choice a → R a (transmit_after m time asked choice a)
  unfolding spent_after told_sent MayMove
  holds_transmit m time asked choice a may =
      transmit_told m R here next (λ x s b h. move x (untold_sending x s) b h) (λ f b. holds_tried m R here (λ c h. move (Update _ _) tt c h) f b) (λ at size b. move (Spend _) tt b tt) (λ at batch b. move (Finish batch.total _) tt b tt) seal time asked choice a may

-- What a change of a stream leaves of what it owes, of its mark and of its turn
use Rattle.std.proofs.Common.{◌≡◌, ◌∙◌, ℕ, Bool, true, false, cond, not, ◌&&◌, ◌||◌, List, Option, None, Some, is_some, ap, refl}
use Rattle.std.specs.Prelude.{ℤ}
use Rattle.std.specs.Option.{option_map}
use Rattle.qc_base.specs.declared.side.Dir.{Dir}
use Rattle.qc_base.specs.declared.side.Dir.TheVariants.{Bi, Uni}
use Rattle.qc_base.specs.declared.varint.VarInt.{VarInt}
use Rattle.qc_recv.specs.declared.recv.Recv.{Recv}
use Rattle.qc_recv.specs.Owed.{credit_sealed, stop_sealed}
use Rattle.qc_recv.specs.Receiving.{bytes_taken, end_taken, is_ended, keeps, new_receiving, opened, reset_taken, stream_taken}
use Rattle.qc_send_stream.specs.Buffer.{from_lost, from_offset, has_bytes, nothing, waiting}
use Rattle.qc_send_stream.specs.declared.send.Reset.{Reset}
use Rattle.qc_send_stream.specs.declared.send.SendPart.{SendPart}
use Rattle.qc_send_stream.specs.declared.send.Standing.{Standing}
use Rattle.qc_send_stream.specs.declared.send.Standing.TheVariants.{Waiting, InFlight, Acknowledged}
use Rattle.qc_send_stream.specs.Sending.{end_waits, has_more, is_done, limit_raised, new_sending, owed_reset, part_sealed, reset_owed, reset_sealed, reset_with, sealed_standing, unblocked, was_blocked, was_stopped}
use Rattle.qc_streams.specs.declared.state.StreamsState.{StreamsState}
use Rattle.qc_streams.specs.declared.stream.Stream.{Stream}
use Rattle.qc_streams.specs.declared.waiting.Dues.{Dues}
use Rattle.qc_streams.specs.Calls.{if_known}
use Rattle.qc_streams.specs.Sends.{was_taken}
use Rattle.qc_streams.specs.Settings.{with_priority}
use Rattle.qc_streams.specs.Stream.{fresh_stream, limit_taken, stop_taken, with_receiving, with_sending}
use Rattle.qc_streams.specs.Streams.{fresh_own, fresh_peer}
use Rattle.qc_streams.specs.Queues.{dues_of, owes_credit, owes_data, owes_reset, owes_stop}
use Rattle.qc_streams.proofs.Keeps.{Fresh, Owes, OwesBytes, Stays, no_credit, no_reset, no_stop}

-- ---- a side changes

pub receiving_stays : (g : Recv → Recv) → Stays (with_receiving g)
unfolding with_receiving
receiving_stays g = record { mark = λ st. refl; turn = λ st. refl; due = λ st. refl }

pub sending_stays : (g : SendPart → SendPart) → Stays (with_sending g)
unfolding with_sending
sending_stays g = record { mark = λ st. refl; turn = λ st. refl; due = λ st. refl }

-- what is owed, of what each side owes
abbrev dues : (reset stop credit bytes : Bool) → Dues
dues reset stop credit bytes = record { reset = reset; stop = stop; credit = credit; bytes = bytes }

same_dues : (a b c d a' b' c' d' : Bool) → a ≡ a' → b ≡ b' → c ≡ c' → d ≡ d' → dues a b c d ≡ dues a' b' c' d'
same_dues a b c d a' b' c' d' p q r s = λ i. dues (p i) (q i) (r i) (s i)

stop_of : (g : Recv → Recv) (o : Option Recv) → ((r : Recv) → (g r).stop_waits ≡ r.stop_waits) → owes_stop (option_map g o) ≡ owes_stop o
stop_of g None same = refl
stop_of g (Some r) same = same r

credit_of : (g : Recv → Recv) (o : Option Recv) → ((r : Recv) → (g r).credit_waits ≡ r.credit_waits) → owes_credit (option_map g o) ≡ owes_credit o
credit_of g None same = refl
credit_of g (Some r) same = same r

pub receiving_owes : (g : Recv → Recv) → ((r : Recv) → (g r).stop_waits ≡ r.stop_waits) → ((r : Recv) → (g r).credit_waits ≡ r.credit_waits)
    → Owes (λ d. d) (with_receiving g)
unfolding with_receiving dues_of
receiving_owes g stop credit = record {
  stays = receiving_stays g;
  dues = λ st. same_dues _ _ _ _ _ _ _ _ refl (stop_of g st.receiving stop) (credit_of g st.receiving credit) refl;
}

reset_of : (g : SendPart → SendPart) (o : Option SendPart) → ((p : SendPart) → is_some (reset_owed (g p)) ≡ is_some (reset_owed p))
    → owes_reset (option_map g o) ≡ owes_reset o
reset_of g None same = refl
reset_of g (Some p) same = same p

data_of : (g : SendPart → SendPart) (o : Option SendPart) → ((p : SendPart) → has_more (g p) ≡ has_more p) → owes_data (option_map g o) ≡ owes_data o
data_of g None same = refl
data_of g (Some p) same = same p

pub sending_owes : (g : SendPart → SendPart) → ((p : SendPart) → is_some (reset_owed (g p)) ≡ is_some (reset_owed p)) → ((p : SendPart) → has_more (g p) ≡ has_more p)
    → Owes (λ d. d) (with_sending g)
unfolding with_sending dues_of
sending_owes g reset more = record {
  stays = sending_stays g;
  dues = λ st. same_dues _ _ _ _ _ _ _ _ (reset_of g st.sending reset) refl refl (data_of g st.sending more);
}

-- ---- those that owe what they owed

pub opened_owes : (ordered : Bool) → Owes (λ d. d) (with_receiving (opened ordered))
unfolding opened
opened_owes ordered = receiving_owes (opened ordered) (λ r. refl) (λ r. refl)

pub taken_owes : Owes (λ d. d) was_taken
unfolding was_taken dues_of
taken_owes = record { stays = record { mark = λ st. refl; turn = λ st. refl; due = λ st. refl }; dues = λ st. refl }

pub priority_owes : (priority : ℤ) → Owes (λ d. d) (with_priority priority)
unfolding with_priority dues_of
priority_owes priority = record { stays = record { mark = λ st. refl; turn = λ st. refl; due = λ st. refl }; dues = λ st. refl }

pub unblocked_owes : Owes (λ d. d) (with_sending unblocked)
unfolding unblocked reset_owed has_more
unblocked_owes = sending_owes unblocked (λ p. refl) (λ p. refl)

cond_reset : (g : SendPart → SendPart) → ((p : SendPart) → is_some (reset_owed (g p)) ≡ is_some (reset_owed p)) → (b : Bool) (p : SendPart)
    → is_some (reset_owed (cond b p (g p))) ≡ is_some (reset_owed p)
cond_reset g same true p = refl
cond_reset g same false p = same p

cond_more : (g : SendPart → SendPart) → ((p : SendPart) → has_more (g p) ≡ has_more p) → (b : Bool) (p : SendPart) → has_more (cond b p (g p)) ≡ has_more p
cond_more g same true p = refl
cond_more g same false p = same p

blocked_reset : (p : SendPart) → is_some (reset_owed (was_blocked p)) ≡ is_some (reset_owed p)
unfolding was_blocked reset_owed
blocked_reset p = refl

blocked_more : (p : SendPart) → has_more (was_blocked p) ≡ has_more p
unfolding was_blocked has_more
blocked_more p = refl

pub blocked_owes : Owes (λ d. d) (with_sending (if_known was_blocked))
blocked_owes =
    sending_owes (if_known was_blocked) (λ p. cond_reset was_blocked blocked_reset (is_done p) p) (λ p. cond_more was_blocked blocked_more (is_done p) p)

stopped_reset : (code : VarInt) (p : SendPart) → is_some (reset_owed (was_stopped code p)) ≡ is_some (reset_owed p)
unfolding was_stopped reset_owed
stopped_reset code p = refl

stopped_more : (code : VarInt) (p : SendPart) → has_more (was_stopped code p) ≡ has_more p
unfolding was_stopped has_more
stopped_more code p = refl

pub stop_owes : (code : VarInt) → Owes (λ d. d) (with_sending (stop_taken code))
unfolding stop_taken
stop_owes code =
    sending_owes (stop_taken code) (λ p. cond_reset (was_stopped code) (stopped_reset code) (is_done p) p)
    (λ p. cond_more (was_stopped code) (stopped_more code) (is_done p) p)

raised_reset : (limit : ℕ) (p : SendPart) → is_some (reset_owed (limit_raised limit p)) ≡ is_some (reset_owed p)
unfolding limit_raised reset_owed
raised_reset limit p = refl

raised_more : (limit : ℕ) (p : SendPart) → has_more (limit_raised limit p) ≡ has_more p
unfolding limit_raised has_more
raised_more limit p = refl

pub limit_owes : (limit : ℕ) → Owes (λ d. d) (with_sending (limit_taken limit))
unfolding limit_taken
limit_owes limit =
    sending_owes (limit_taken limit) (λ p. cond_reset (limit_raised limit) (raised_reset limit) (is_done p) p)
    (λ p. cond_more (limit_raised limit) (raised_more limit) (is_done p) p)

-- ---- those of which a frame is sealed

no_stop_of : (o : Option Recv) → owes_stop (option_map stop_sealed o) ≡ false
unfolding stop_sealed
no_stop_of None = refl
no_stop_of (Some r) = refl

stop_credit : (r : Recv) → (stop_sealed r).credit_waits ≡ r.credit_waits
unfolding stop_sealed
stop_credit r = refl

pub stop_sealed_owes : Owes no_stop (with_receiving stop_sealed)
unfolding with_receiving dues_of
stop_sealed_owes = record {
  stays = receiving_stays stop_sealed;
  dues = λ st. same_dues _ _ _ _ _ _ _ _ refl (no_stop_of st.receiving) (credit_of stop_sealed st.receiving stop_credit) refl;
}

no_credit_of : (o : Option Recv) → owes_credit (option_map credit_sealed o) ≡ false
unfolding credit_sealed
no_credit_of None = refl
no_credit_of (Some r) = refl

credit_stop : (r : Recv) → (credit_sealed r).stop_waits ≡ r.stop_waits
unfolding credit_sealed
credit_stop r = refl

pub credit_sealed_owes : Owes no_credit (with_receiving credit_sealed)
unfolding with_receiving dues_of
credit_sealed_owes = record {
  stays = receiving_stays credit_sealed;
  dues = λ st. same_dues _ _ _ _ _ _ _ _ refl (stop_of credit_sealed st.receiving credit_stop) (no_credit_of st.receiving) refl;
}

sealed_standing_no : (r : Reset) (x : Standing) (size : ℕ) → is_some (owed_reset (Some (record r { standing = sealed_standing x })) size) ≡ false
sealed_standing_no r Waiting size = refl
sealed_standing_no r InFlight size = refl
sealed_standing_no r Acknowledged size = refl

sealed_none : (r : Option Reset) (size : ℕ) → is_some (owed_reset (reset_with sealed_standing r) size) ≡ false
sealed_none None size = refl
sealed_none (Some r) size = sealed_standing_no r r.standing size

no_reset_of : (o : Option SendPart) → owes_reset (option_map reset_sealed o) ≡ false
unfolding reset_sealed reset_owed
no_reset_of None = refl
no_reset_of (Some p) = sealed_none p.reset p.buffer.written

still_reset : (r : Option Reset) → is_some (reset_with sealed_standing r) ≡ is_some r
still_reset None = refl
still_reset (Some r) = refl

reset_more : (p : SendPart) → has_more (reset_sealed p) ≡ has_more p
unfolding reset_sealed has_more
reset_more p = ap (λ (b : Bool). not b && (has_bytes (waiting p.buffer) || end_waits p.end)) (still_reset p.reset)

pub reset_sealed_owes : Owes no_reset (with_sending reset_sealed)
unfolding with_sending dues_of
reset_sealed_owes = record {
  stays = sending_stays reset_sealed;
  dues = λ st. same_dues _ _ _ _ _ _ _ _ (no_reset_of st.sending) refl refl (data_of reset_sealed st.sending reset_more);
}

any_size : (r : Option Reset) (m n : ℕ) → is_some (owed_reset r m) ≡ is_some (owed_reset r n)
any_size None m n = refl
any_size (Some r) m n = by r.standing
  where
    by : (x : Standing) → is_some (owed_reset (Some (record r { standing = x })) m) ≡ is_some (owed_reset (Some (record r { standing = x })) n)
    by Waiting = refl
    by InFlight = refl
    by Acknowledged = refl

part_reset : (start stop : ℕ) (last : Bool) (p : SendPart) → is_some (reset_owed (part_sealed start stop last p)) ≡ is_some (reset_owed p)
unfolding part_sealed reset_owed
part_reset start stop last p = any_size p.reset _ p.buffer.written

pub part_sealed_owes : (start stop : ℕ) (last : Bool) → OwesBytes (with_sending (part_sealed start stop last))
unfolding with_sending dues_of
part_sealed_owes start stop last = record {
  stays = sending_stays (part_sealed start stop last);
  reset = λ st. reset_of (part_sealed start stop last) st.sending (part_reset start stop last);
  stop = λ st. refl;
  credit = λ st. refl;
}

-- ---- fresh streams

nothing_sent : (limit : ℕ) → owes_reset (Some (new_sending limit)) ≡ false
unfolding new_sending reset_owed
nothing_sent limit = refl

nothing_more : (limit : ℕ) → owes_data (Some (new_sending limit)) ≡ false
unfolding new_sending has_more nothing waiting from_lost from_offset has_bytes
nothing_more limit = refl

pub own_fresh : (dir : Dir) (s : StreamsState) → Fresh (fresh_own dir s)
unfolding fresh_stream dues_of new_receiving
own_fresh Bi s = record {
  mark = refl;
  turn = refl;
  due = refl;
  dues = same_dues _ _ _ _ _ _ _ _ (nothing_sent s.limits.own_bidi_data) refl refl (nothing_more s.limits.own_bidi_data);
}
own_fresh Uni s = record {
  mark = refl;
  turn = refl;
  due = refl;
  dues = same_dues _ _ _ _ _ _ _ _ (nothing_sent s.limits.own_uni_data) refl refl (nothing_more s.limits.own_uni_data);
}

pub peer_fresh : (dir : Dir) (s : StreamsState) → Fresh (fresh_peer dir s)
unfolding fresh_stream dues_of new_receiving
peer_fresh Bi s = record {
  mark = refl;
  turn = refl;
  due = refl;
  dues = same_dues _ _ _ _ _ _ _ _ (nothing_sent s.limits.peer_bidi_data) refl refl (nothing_more s.limits.peer_bidi_data);
}
peer_fresh Uni s = record { mark = refl; turn = refl; due = refl; dues = refl }

-- one that owes as before is fresh still
pub owes_fresh : (f : Stream → Stream) (st : Stream) → Owes (λ d. d) f → Fresh st → Fresh (f st)
owes_fresh f st o h = record { mark = o.stays.mark st ∙ h.mark; turn = o.stays.turn st ∙ h.turn; due = o.stays.due st ∙ h.due; dues = o.dues st ∙ h.dues }

-- a change of a receiving side on which nothing came leaves nothing to be sent
pub record Unowing (g : Recv → Recv) : Type 0 where
  pub stop : (window : ℕ) → (g (new_receiving window)).stop_waits ≡ false
  pub credit : (window : ℕ) → (g (new_receiving window)).credit_waits ≡ false

pub came_fresh : (g : Recv → Recv) → Unowing g → (dir : Dir) (s : StreamsState) → Fresh (with_receiving g (fresh_peer dir s))
unfolding with_receiving fresh_stream dues_of
came_fresh g u Bi s = record {
  mark = refl;
  turn = refl;
  due = refl;
  dues = same_dues _ _ _ _ _ _ _ _ (nothing_sent s.limits.peer_bidi_data) (u.stop s.stream_window) (u.credit s.stream_window) (nothing_more s.limits.peer_bidi_data);
}
came_fresh g u Uni s = record { mark = refl; turn = refl; due = refl; dues = same_dues _ _ _ _ _ _ _ _ refl (u.stop s.stream_window) (u.credit s.stream_window) refl }

taken_stop : (o window : ℕ) (bs : List ℕ) (last : Bool) → (stream_taken o bs last (new_receiving window)).stop_waits ≡ false
unfolding stream_taken end_taken bytes_taken is_ended keeps new_receiving
taken_stop o window bs last = refl

taken_credit : (o window : ℕ) (bs : List ℕ) (last : Bool) → (stream_taken o bs last (new_receiving window)).credit_waits ≡ false
unfolding stream_taken end_taken bytes_taken is_ended keeps new_receiving
taken_credit o window bs true = refl
taken_credit o window bs false = refl

pub stream_unowing : (o : ℕ) (bs : List ℕ) (last : Bool) → Unowing (stream_taken o bs last)
stream_unowing o bs last = record { stop = λ window. taken_stop o window bs last; credit = λ window. taken_credit o window bs last }

ended_stop : (code : VarInt) (size window : ℕ) → (reset_taken code size (new_receiving window)).stop_waits ≡ false
unfolding reset_taken end_taken is_ended new_receiving
ended_stop code size window = refl

ended_credit : (code : VarInt) (size window : ℕ) → (reset_taken code size (new_receiving window)).credit_waits ≡ false
unfolding reset_taken end_taken is_ended new_receiving
ended_credit code size window = refl

pub reset_unowing : (code : VarInt) (size : ℕ) → Unowing (reset_taken code size)
reset_unowing code size = record { stop = λ window. ended_stop code size window; credit = λ window. ended_credit code size window }

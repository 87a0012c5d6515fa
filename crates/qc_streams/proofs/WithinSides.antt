-- What was written and what came on one stream stays within its credit
use Rattle.std.proofs.Common.{◌≡◌, ℕ, ◌^◌, ◌<◌, Bool, true, false, cond, [], ◌∷◌, length, Option, None, Some, is_some, Result, Ok, Err, subst, arith, refl}
use Rattle.std.specs.BTreeMap.{insert_entry, is_at}
use Rattle.std.specs.Map.{remove_entry, set_value}
use Rattle.std.specs.Option.{option_map}
use Rattle.std.specs.Ordering.{match_ordering, nat_cmp}
use Rattle.std.specs.declared.cmp.Ordering.{Ordering}
use Rattle.std.specs.declared.cmp.Ordering.TheVariants.{Less, Equal, Greater}
use Rattle.qc_base.specs.declared.side.Dir.{Dir}
use Rattle.qc_base.specs.declared.side.Dir.TheVariants.{Bi, Uni}
use Rattle.qc_base.specs.declared.varint.VarInt.{VarInt}
use Rattle.qc_recv.specs.declared.recv.Chunk.{Chunk}
use Rattle.qc_recv.specs.declared.recv.Recv.{Recv}
use Rattle.qc_recv.specs.Owed.{credit_lost, credit_sealed, credit_value, stop_lost, stop_sealed}
use Rattle.qc_recv.specs.Receiving.{chunk_given, counted, credit, end_told, given, new_receiving, opened, reset_asked, stop_asked}
use Rattle.qc_send_stream.specs.declared.send.SendPart.{SendPart}
use Rattle.qc_send_stream.specs.Sending.{finished, is_done, limit_raised, new_sending, part_acked, part_lost, part_sealed, reset_acked, reset_lost, reset_sealed, unblocked, was_blocked, was_reset, was_stopped}
use Rattle.qc_send_stream.specs.Buffer.{discarded, nothing, range_acked, range_lost, range_sealed}
use Rattle.qc_streams.specs.declared.fault.ReadFault.{ReadFault}
use Rattle.qc_streams.specs.declared.fault.ReadFault.TheVariants.{ClosedStream, IllegalOrderedRead, Reset, Blocked, OutOfMemory}
use Rattle.qc_streams.specs.declared.state.StreamsState.{StreamsState}
use Rattle.qc_streams.specs.declared.stream.Stream.{Stream}
use Rattle.qc_streams.specs.Calls.{after_read, if_known}
use Rattle.qc_streams.specs.Lending.{AllRecords}
use Rattle.qc_streams.specs.Records.{changed, on_some, record_of, with_new, without}
use Rattle.qc_streams.specs.Stream.{fresh_stream, limit_taken, stop_taken, with_receiving, with_sending}
use Rattle.qc_streams.specs.Streams.{fresh_own, fresh_peer}
use Rattle.qc_streams.specs.Within.{IsWithin, SendsWithin, TakesWithin}

-- a stream within its credit
abbrev pub Good : Stream → Type 0
Good st = IsWithin (Some st)

-- all of them
abbrev pub AllGood : AllRecords → Type 0
AllGood [] = Unit {0}
AllGood (e ∷ es) = Good e.1 × AllGood es

-- ---- streams in their map

good_step : (b : Bool) (e : ℕ × Stream) (st : Stream) (o : Option Stream) → Good e.1 → (o ≡ Some st → Good st) → cond b (Some e.1) o ≡ Some st → Good st
good_step true e st o g then is = subst (λ (x : Option Stream). IsWithin x) is g
good_step false e st o g then is = then is

pub good_found : (id : ℕ) (all : AllRecords) (st : Stream) → record_of id all ≡ Some st → AllGood all → Good st
good_found id [] st is g = absurd (cc)
good_found id (e ∷ es) st is g = good_step (is_at (nat_cmp id) e.0) e st (record_of id es) g.0 (λ there. good_found id es st there g.1) is

pub good_at : (id : ℕ) (all : AllRecords) → AllGood all → IsWithin (record_of id all)
good_at id all g = by (record_of id all) refl
  where
    by : (o : Option Stream) → record_of id all ≡ o → IsWithin o
    by None is = tt
    by (Some st) is = good_found id all st is g

good_set : (id : ℕ) (all : AllRecords) (st : Stream) → Good st → AllGood all → AllGood (set_value (is_at (nat_cmp id)) all st)
good_set id [] st new g = tt
good_set id (e ∷ es) st new g = by (is_at (nat_cmp id) e.0) (good_set id es st new g.1)
  where
    by : (b : Bool) → AllGood (set_value (is_at (nat_cmp id)) es st) → AllGood (cond b ((e.0, st) ∷ es) (e ∷ set_value (is_at (nat_cmp id)) es st))
    by true rest = (new, g.1)
    by false rest = (g.0, rest)

good_some : (f : Stream → Stream) (id : ℕ) (all : AllRecords) (o : Option Stream) → ((st : Stream) → o ≡ Some st → Good (f st)) → AllGood all
    → AllGood (on_some f id o all)
good_some f id all None keeps g = g
good_some f id all (Some st) keeps g = good_set id all (f st) (keeps st refl) g

-- the one that is found changes
pub good_changed_at : (f : Stream → Stream) (id : ℕ) (all : AllRecords) → ((st : Stream) → record_of id all ≡ Some st → Good st → Good (f st)) → AllGood all
    → AllGood (changed f id all)
good_changed_at f id all keeps g = good_some f id all (record_of id all) (λ st is. keeps st is (good_found id all st is g)) g

pub good_changed : (f : Stream → Stream) → ((st : Stream) → Good st → Good (f st)) → (id : ℕ) (all : AllRecords) → AllGood all → AllGood (changed f id all)
good_changed f keeps id all g = good_changed_at f id all (λ st is. keeps st) g

pub good_new : (id : ℕ) (st : Stream) (all : AllRecords) → Good st → AllGood all → AllGood (with_new id st all)
good_new id st [] new g = (new, tt)
good_new id st (e ∷ es) new g = by (nat_cmp id e.0) (good_new id st es new g.1)
  where
    by : (r : Ordering) → AllGood (insert_entry nat_cmp es id st) → AllGood (match_ordering r ((id, st) ∷ e ∷ es) ((e.0, st) ∷ es) (e ∷ insert_entry nat_cmp es id st))
    by Less rest = (new, (g.0, g.1))
    by Equal rest = (new, g.1)
    by Greater rest = (g.0, rest)

pub good_gone : (id : ℕ) (all : AllRecords) → AllGood all → AllGood (without id all)
good_gone id [] g = tt
good_gone id (e ∷ es) g = by (is_at (nat_cmp id) e.0) (good_gone id es g.1)
  where
    by : (b : Bool) → AllGood (remove_entry (is_at (nat_cmp id)) es) → AllGood (cond b es (e ∷ remove_entry (is_at (nat_cmp id)) es))
    by true rest = g.1
    by false rest = (g.0, rest)

-- ---- a side changes

takes_with : (g : Recv → Recv) → ((r : Recv) → TakesWithin (Some r) → TakesWithin (Some (g r))) → (o : Option Recv) → TakesWithin o → TakesWithin (option_map g o)
takes_with g keeps None h = h
takes_with g keeps (Some r) h = keeps r h

pub receiving_good : (g : Recv → Recv) → ((r : Recv) → TakesWithin (Some r) → TakesWithin (Some (g r))) → (st : Stream) → Good st → Good (with_receiving g st)
unfolding with_receiving
receiving_good g keeps st h = (h.0, takes_with g keeps st.receiving h.1)

sends_with : (g : SendPart → SendPart) → ((p : SendPart) → SendsWithin (Some p) → SendsWithin (Some (g p))) → (o : Option SendPart) → SendsWithin o
    → SendsWithin (option_map g o)
sends_with g keeps None h = h
sends_with g keeps (Some p) h = keeps p h

pub sending_good : (g : SendPart → SendPart) → ((p : SendPart) → SendsWithin (Some p) → SendsWithin (Some (g p))) → (st : Stream) → Good st → Good (with_sending g st)
unfolding with_sending
sending_good g keeps st h = (sends_with g keeps st.sending h.0, h.1)

unless_done : (g : SendPart → SendPart) → ((p : SendPart) → SendsWithin (Some p) → SendsWithin (Some (g p))) → (b : Bool) (p : SendPart) → SendsWithin (Some p)
    → SendsWithin (Some (cond b p (g p)))
unless_done g keeps true p h = h
unless_done g keeps false p h = keeps p h

-- ---- sending sides

pub finished_good : (p : SendPart) → SendsWithin (Some p) → SendsWithin (Some (finished p))
unfolding finished
finished_good p h = h

pub reset_good : (code : VarInt) (p : SendPart) → SendsWithin (Some p) → SendsWithin (Some (was_reset code p))
unfolding was_reset discarded
reset_good code p h = h

pub blocked_good : (p : SendPart) → SendsWithin (Some p) → SendsWithin (Some (was_blocked p))
unfolding was_blocked
blocked_good p h = h

pub unblocked_good : (p : SendPart) → SendsWithin (Some p) → SendsWithin (Some (unblocked p))
unfolding unblocked
unblocked_good p h = h

pub known_good : (g : SendPart → SendPart) → ((p : SendPart) → SendsWithin (Some p) → SendsWithin (Some (g p))) → (p : SendPart) → SendsWithin (Some p)
    → SendsWithin (Some (if_known g p))
known_good g keeps p h = unless_done g keeps (is_done p) p h

stopped_good : (code : VarInt) (p : SendPart) → SendsWithin (Some p) → SendsWithin (Some (was_stopped code p))
unfolding was_stopped
stopped_good code p h = h

pub stop_good : (code : VarInt) (p : SendPart) → SendsWithin (Some p) → SendsWithin (Some (stop_taken code p))
unfolding stop_taken
stop_good code p h = unless_done (was_stopped code) (stopped_good code) (is_done p) p h

raised_good : (limit : ℕ) (p : SendPart) → SendsWithin (Some p) → SendsWithin (Some (limit_raised limit p))
unfolding limit_raised
raised_good limit p h = omega (arith, h)

pub limit_good : (limit : ℕ) (p : SendPart) → SendsWithin (Some p) → SendsWithin (Some (limit_taken limit p))
unfolding limit_taken
limit_good limit p h = unless_done (limit_raised limit) (raised_good limit) (is_done p) p h

pub part_sealed_good : (start stop : ℕ) (last : Bool) (p : SendPart) → SendsWithin (Some p) → SendsWithin (Some (part_sealed start stop last p))
unfolding part_sealed range_sealed
part_sealed_good start stop last p h = h

pub part_acked_good : (start stop : ℕ) (last : Bool) (p : SendPart) → SendsWithin (Some p) → SendsWithin (Some (part_acked start stop last p))
unfolding part_acked range_acked
part_acked_good start stop last p h = h

pub part_lost_good : (start stop : ℕ) (last : Bool) (p : SendPart) → SendsWithin (Some p) → SendsWithin (Some (part_lost start stop last p))
unfolding part_lost range_lost
part_lost_good start stop last p h = h

pub reset_sealed_good : (p : SendPart) → SendsWithin (Some p) → SendsWithin (Some (reset_sealed p))
unfolding reset_sealed
reset_sealed_good p h = h

pub reset_acked_good : (p : SendPart) → SendsWithin (Some p) → SendsWithin (Some (reset_acked p))
unfolding reset_acked
reset_acked_good p h = h

pub reset_lost_good : (p : SendPart) → SendsWithin (Some p) → SendsWithin (Some (reset_lost p))
unfolding reset_lost
reset_lost_good p h = h

-- ---- receiving sides

pub opened_good : (ordered : Bool) (r : Recv) → TakesWithin (Some r) → TakesWithin (Some (opened ordered r))
unfolding opened credit
opened_good ordered r h = h

pub stop_asked_good : (code : VarInt) (r : Recv) → TakesWithin (Some r) → TakesWithin (Some (stop_asked code r))
unfolding stop_asked credit
stop_asked_good code r h = h

pub told_good : (r : Recv) → TakesWithin (Some r) → TakesWithin (Some (end_told r))
unfolding end_told credit
told_good r h = h

told_if_good : (b : Bool) (r : Recv) → TakesWithin (Some r) → TakesWithin (Some (cond b (end_told r) r))
told_if_good true r h = told_good r h
told_if_good false r h = h

pub reset_asked_good : (r : Recv) → TakesWithin (Some r) → TakesWithin (Some (reset_asked r))
unfolding reset_asked
reset_asked_good r h = told_if_good (is_some r.reset) r h

pub given_good : (o n : ℕ) (r : Recv) → TakesWithin (Some r) → TakesWithin (Some (chunk_given o n r))
unfolding chunk_given given credit counted
given_good o n r h = (omega (arith, h.0), omega (arith, h.1))

pub read_good : (ordered : Bool) (result : Result (Option Chunk) ReadFault) (r : Recv) → TakesWithin (Some r) → TakesWithin (Some (after_read ordered result r))
read_good ordered (Ok (Some c)) r h = given_good c.offset (length c.bytes) (opened ordered r) (opened_good ordered r h)
read_good ordered (Ok None) r h = told_good (opened ordered r) (opened_good ordered r h)
read_good ordered (Err (Reset code)) r h = told_good (opened ordered r) (opened_good ordered r h)
read_good ordered (Err Blocked) r h = opened_good ordered r h
read_good ordered (Err OutOfMemory) r h = opened_good ordered r h
read_good ordered (Err ClosedStream) r h = h
read_good ordered (Err IllegalOrderedRead) r h = h

pub stop_sealed_good : (r : Recv) → TakesWithin (Some r) → TakesWithin (Some (stop_sealed r))
unfolding stop_sealed credit
stop_sealed_good r h = h

pub stop_lost_good : (r : Recv) → TakesWithin (Some r) → TakesWithin (Some (stop_lost r))
unfolding stop_lost credit
stop_lost_good r h = h

pub credit_sealed_good : (r : Recv) → TakesWithin (Some r) → TakesWithin (Some (credit_sealed r))
unfolding credit_sealed credit_value credit counted
credit_sealed_good r h = (h.0, omega (arith, h.0))

pub credit_lost_good : (r : Recv) → TakesWithin (Some r) → TakesWithin (Some (credit_lost r))
unfolding credit_lost credit
credit_lost_good r h = h

-- ---- fresh streams

fresh_takes : (window : ℕ) → window < 2 ^ 64 → TakesWithin (Some (new_receiving window))
unfolding new_receiving credit counted
fresh_takes window fits = (omega arith, omega (arith, fits))

fresh_sends : (limit : ℕ) → SendsWithin (Some (new_sending limit))
unfolding new_sending nothing
fresh_sends limit = omega arith

pub own_good : (dir : Dir) (s : StreamsState) → s.stream_window < 2 ^ 64 → Good (fresh_own dir s)
unfolding fresh_stream
own_good Bi s fits = (fresh_sends s.limits.own_bidi_data, fresh_takes s.stream_window fits)
own_good Uni s fits = (fresh_sends s.limits.own_uni_data, tt)

pub peer_good : (dir : Dir) (s : StreamsState) → s.stream_window < 2 ^ 64 → Good (fresh_peer dir s)
unfolding fresh_stream
peer_good Bi s fits = (fresh_sends s.limits.peer_bidi_data, fresh_takes s.stream_window fits)
peer_good Uni s fits = (tt, fresh_takes s.stream_window fits)

-- What the calls of the state answer and leave, the application's views answer and leave
use Rattle.std.proofs.Common.{◌≡◌, ◌∙◌, ℕ, ◌<◌, ◌≤◌, Bool, true, false, cond, not, ◌&&◌, ◌||◌, List, length, Option, None, Some, is_some, Result, Ok, Err, ap, arith, refl, sym}
use Rattle.std.specs.Prelude.{take}
use Rattle.std.specs.Option.{option_map}
use Rattle.std.proofs.lemmas.List.{length-take, take_all}
use Rattle.qc_recv.specs.declared.fault.ReadableError.{ReadableError}
use Rattle.qc_recv.specs.declared.recv.Chunk.{Chunk}
use Rattle.qc_recv.specs.declared.recv.Recv.{Recv}
use Rattle.qc_recv.specs.declared.fault.ReadableError.TheVariants.{ClosedStream as SideShut, IllegalOrderedRead as SideUnordered}
use Rattle.qc_recv.specs.Receiving.{chunk_given, given as given_side, is_closed, is_ended, opened, read_refusal}
use Rattle.qc_send_stream.specs.declared.send.SendPart.{SendPart}
use Rattle.qc_send_stream.specs.Sending.{part_written, takes}
use Rattle.qc_send_stream.specs.declared.fault.WriteError.{WriteError as SideWrite}
use Rattle.qc_send_stream.specs.declared.fault.WriteError.TheVariants.{Blocked as SideBlocked, ClosedStream as SideClosed, Stopped as SideStopped, OutOfMemory as SideMemory}
use Rattle.qc_streams.specs.declared.fault.ReadError.{ReadError}
use Rattle.qc_streams.specs.declared.fault.ReadError.TheVariants.{Reset, Blocked, OutOfMemory, Failed as HasFailed}
use Rattle.qc_streams.specs.declared.fault.ReadFault.{ReadFault}
use Rattle.qc_streams.specs.declared.fault.ReadFault.TheVariants.{ClosedStream as FaultClosed, IllegalOrderedRead as FaultUnordered, Reset as FaultReset, Blocked as FaultBlocked, OutOfMemory as FaultMemory}
use Rattle.qc_streams.specs.declared.fault.WriteError.{WriteError}
use Rattle.qc_streams.specs.declared.fault.WriteError.TheVariants.{Failed}
use Rattle.qc_streams.specs.declared.recv_stream.Told.TheVariants.{Nothing}
use Rattle.qc_streams.specs.declared.state.StreamsState.{StreamsState}
use Rattle.qc_streams.specs.declared.stream.Stream.{Stream}
use Rattle.qc_streams.specs.Calls.{IsRead, IsReadOf, IsRefused, after_read, begin_refusal, gives, count_taken, if_known, known_at, needs_memory, reading_begun, receiving_at, receiving_of, send_room, write_fault, write_refusal, write_refused, wrote}
use Rattle.qc_streams.specs.Chunks.{Chunks, IsUnwritten}
use Rattle.qc_streams.specs.Credit.{budget, outgoing_written}
use Rattle.qc_streams.specs.Records.{changed, record_of}
use Rattle.qc_streams.specs.Stream.{has_ended, is_over, receiving_over, sending_over, with_receiving, with_sending}
use Rattle.qc_streams.specs.Streams.{counted, failed, lingering, released, settled, stops_later}
use Rattle.qc_streams.specs.Queues.{queued, touched, with_mark}
use Rattle.qc_streams.specs.Writable.{passed}
use Rattle.qc_streams.proofs.Waits.{here}
use Rattle.qc_streams.specs.Views.{IsBarred, IsGiven, IsUntaken, fault_marked, is_lost, is_shut, may_want, read_error, read_on, side_marked, told_after, unrefused, unwritten, write_bar, write_error}

-- ---- writes

wants_so : (r : Option SideWrite) → needs_memory r ≡ true → may_want (option_map write_error r) ≡ true
wants_so None is = refl
wants_so (Some SideBlocked) is = refl
wants_so (Some SideClosed) is = is
wants_so (Some (SideStopped code)) is = is
wants_so (Some SideMemory) is = is

barred : (e : SideWrite) (r : Option SideWrite) → IsRefused e r → IsBarred (write_error e) (option_map write_error r)
unfolding IsRefused IsBarred
barred SideBlocked r is = ap (λ (x : Option SideWrite). option_map write_error x) is
barred SideClosed r is = ap (λ (x : Option SideWrite). option_map write_error x) is
barred (SideStopped code) r is = ap (λ (x : Option SideWrite). option_map write_error x) is
barred SideMemory r is = wants_so r is

pub bar_is : (id : ℕ) (s : StreamsState) → s.failed ≡ false → write_bar id s ≡ option_map write_error (write_refusal id s)
unfolding write_bar
bar_is id s alive = ap (λ (b : Bool). cond b (Some Failed) (option_map write_error (write_refusal id s))) alive

pub barred_so : (e : SideWrite) (x : WriteError) (id : ℕ) (s : StreamsState) → s.failed ≡ false → x ≡ write_error e → IsRefused e (write_refusal id s)
    → IsBarred x (write_bar id s)
barred_so e x id s alive is refused = rw is (rw (bar_is id s alive) (barred e (write_refusal id s) refused))

pub fits_so : (id : ℕ) (s : StreamsState) → s.failed ≡ false → write_refusal id s ≡ None → write_bar id s ≡ None
fits_so id s alive is = bar_is id s alive ∙ ap (λ (x : Option SideWrite). option_map write_error x) is

pub failed_bar : (id : ℕ) (s : StreamsState) → s.failed ≡ true → IsBarred Failed (write_bar id s)
unfolding write_bar IsBarred
failed_bar id s is = ap (λ (b : Bool). cond b (Some Failed) (option_map write_error (write_refusal id s))) is

unwritten_is : (e : SideWrite) (id : ℕ) (s : StreamsState) → side_marked e (write_refused e id s) ≡ unwritten (write_error e) id s
unfolding unwritten write_refused
unwritten_is SideBlocked id s = refl
unwritten_is SideClosed id s = refl
unwritten_is (SideStopped code) id s = refl
unwritten_is SideMemory id s = refl

pub unwritten_so : (e : SideWrite) (x : WriteError) (id : ℕ) (s s' s'' : StreamsState) → x ≡ write_error e → s' ≡ write_refused e id s → s'' ≡ side_marked e s'
    → s'' ≡ unwritten x id s
unwritten_so e x id s s' s'' is left marked = rw is (marked ∙ ap (λ (t : StreamsState). side_marked e t) left ∙ unwritten_is e id s)

untaken : (e : SideWrite) (before after : Chunks) (id : ℕ) (s s' : StreamsState) → IsUnwritten e before after id s s'
    → IsUntaken (write_error e) before after id s (side_marked e s')
unfolding IsUnwritten IsUntaken unwritten write_refused
untaken SideBlocked before after id s s' is = is
untaken SideClosed before after id s s' is = is
untaken (SideStopped code) before after id s s' is = is
untaken SideMemory before after id s s' is = refl

pub untaken_so : (e : SideWrite) (x : WriteError) (before after : Chunks) (id : ℕ) (s s' s'' : StreamsState) → x ≡ write_error e
    → IsUnwritten e before after id s s' → s'' ≡ side_marked e s' → IsUntaken x before after id s s''
untaken_so e x before after id s s' s'' is left marked = rw is (rw marked (untaken e before after id s s' left))

pub failed_so : (id : ℕ) (s s' : StreamsState) → s' ≡ s → s' ≡ unwritten Failed id s
unfolding unwritten
failed_so id s s' is = is

pub failed_untaken : (before after : Chunks) (id : ℕ) (s s' : StreamsState) → after ≡ before → s' ≡ s → IsUntaken Failed before after id s s'
unfolding IsUntaken
failed_untaken before after id s s' kept is = (kept, is)

-- ---- a copy of the front that a write takes

open_so : (closed : Bool) (r : Option SideWrite) → cond closed (Some SideBlocked) r ≡ None → closed ≡ false
open_so true r is = absurd (cc)
open_so false r is = refl

at-part : (wanted most n count : ℕ) (p : SendPart) → count ≡ takes wanted most p → n ≡ takes count most p → (n ≡ takes wanted most p) × (n ≡ count)
unfolding takes
at-part wanted most n count p is takes = (omega (arith, is, takes), omega (arith, is, takes))

at-known : (wanted most n count : ℕ) (p : Option SendPart) → write_fault most p ≡ None → count ≡ unrefused wanted most p → n ≡ count_taken count most p
    → (n ≡ count_taken wanted most p) × (n ≡ count)
at-known wanted most n count None fits is taken = absurd (cc)
at-known wanted most n count (Some p) fits is taken =
    at-part wanted most n count p (is ∙ ap (λ (o : Option SideWrite). cond (is_some o) 0 (takes wanted most p)) fits) taken

both : (id wanted n count : ℕ) (s : StreamsState) → write_refusal id s ≡ None
    → count ≡ cond s.closed 0 (unrefused wanted (budget (send_room s) s.outgoing) (known_at id s)) → n ≡ count_taken count (budget (send_room s) s.outgoing) (known_at id s)
    → (n ≡ count_taken wanted (budget (send_room s) s.outgoing) (known_at id s)) × (n ≡ count)
unfolding write_refusal
both id wanted n count s fits is taken =
    at-known wanted (budget (send_room s) s.outgoing) n count (known_at id s)
    (sym (ap (λ (b : Bool). cond b (Some SideBlocked) (write_fault (budget (send_room s) s.outgoing) (known_at id s))) (open_so s.closed _ fits)) ∙ fits)
    (is ∙ ap (λ (b : Bool). cond b 0 (unrefused wanted (budget (send_room s) s.outgoing) (known_at id s))) (open_so s.closed _ fits)) taken

front_length : (count : ℕ) (chunk body : List ℕ) → chunk ≡ take count body → count ≤ length body → length chunk ≡ count
front_length count chunk body front within = omega (arith, ap (λ (l : List ℕ). length l) front, length-take count body, within)

-- as many bytes of a front as it has are that front
front_take : (n count : ℕ) (chunk body : List ℕ) → chunk ≡ take count body → n ≡ count → take n chunk ≡ take n body
front_take n count chunk body front is =
    ap (λ (l : List ℕ). take n l) (front ∙ ap (λ (k : ℕ). take k body) (sym is)) ∙ take_all n (take n body) (omega (arith, length-take n body))

pub copy_count : (id wanted n count : ℕ) (s : StreamsState) (chunk body : List ℕ) → chunk ≡ take count body → count ≤ length body → wanted ≡ length body
    → write_refusal id s ≡ None → count ≡ cond s.closed 0 (unrefused wanted (budget (send_room s) s.outgoing) (known_at id s))
    → n ≡ count_taken (length chunk) (budget (send_room s) s.outgoing) (known_at id s)
    → n ≡ count_taken (length body) (budget (send_room s) s.outgoing) (known_at id s)
copy_count id wanted n count s chunk body front within all fits is taken =
    (both id wanted n count s fits is (taken ∙ ap (λ (k : ℕ). count_taken k (budget (send_room s) s.outgoing) (known_at id s)) (front_length count chunk body front within))).0
    ∙ ap (λ (k : ℕ). count_taken k (budget (send_room s) s.outgoing) (known_at id s)) all

pub copy_wrote : (id wanted n count : ℕ) (s s' : StreamsState) (chunk body : List ℕ) → chunk ≡ take count body → count ≤ length body
    → write_refusal id s ≡ None → count ≡ cond s.closed 0 (unrefused wanted (budget (send_room s) s.outgoing) (known_at id s))
    → n ≡ count_taken (length chunk) (budget (send_room s) s.outgoing) (known_at id s) → s' ≡ wrote id n chunk s → s' ≡ wrote id n body s
unfolding wrote
copy_wrote id wanted n count s s' chunk body front within fits is taken to =
    to ∙ ap (λ (l : List ℕ). touched id (queued id (passed id (let t : StreamsState = record s {
      records = changed (with_sending (if_known (part_written l))) id s.records;
      outgoing = outgoing_written n s.outgoing;
    } in t)))) (front_take n count chunk body front
    (both id wanted n count s fits is (taken ∙ ap (λ (k : ℕ). count_taken k (budget (send_room s) s.outgoing) (known_at id s)) (front_length count chunk body front within))).1)

wants_known : (wanted most count : ℕ) (p : Option SendPart) → count ≡ unrefused wanted most p → 0 < count → needs_memory (write_fault most p) ≡ true
wants_known wanted most count p is some = by (write_fault most p) is
  where
    by : (r : Option SideWrite) → count ≡ cond (is_some r) 0 (count_taken wanted most p) → needs_memory r ≡ true
    by None to = refl
    by (Some e) to = absurd (omega (arith, to, some))

wants_open : (closed : Bool) (k count : ℕ) (r : Option SideWrite) → count ≡ cond closed 0 k → 0 < count → (count ≡ k → needs_memory r ≡ true)
    → needs_memory (cond closed (Some SideBlocked) r) ≡ true
wants_open true k count r is some then = refl
wants_open false k count r is some then = then is

-- where bytes are copied, a write isn't refused
pub copy_wants : (id wanted count : ℕ) (s : StreamsState) → count ≡ cond s.closed 0 (unrefused wanted (budget (send_room s) s.outgoing) (known_at id s)) → 0 < count
    → IsRefused SideMemory (write_refusal id s)
unfolding write_refusal IsRefused
copy_wants id wanted count s is some =
    wants_open s.closed _ count (write_fault (budget (send_room s) s.outgoing) (known_at id s)) is some
    (λ same. wants_known wanted (budget (send_room s) s.outgoing) count (known_at id s) same some)

-- ---- reads

-- a side that can be read isn't closed to it
not_closed : (most : ℕ) (ordered : Bool) (o : Option Recv) → is_shut ordered o ≡ false → IsReadOf most ordered o (Err FaultClosed) → IsReadOf most ordered o (Err FaultBlocked)
unfolding IsReadOf IsRead
not_closed most ordered None can is = absurd (cc)
not_closed most ordered (Some r) can is = absurd (cc)

not_unordered : (most : ℕ) (ordered : Bool) (o : Option Recv) → is_shut ordered o ≡ false → IsReadOf most ordered o (Err FaultUnordered)
    → IsReadOf most ordered o (Err FaultBlocked)
unfolding IsReadOf IsRead
not_unordered most ordered None can is = absurd (cc)
not_unordered most ordered (Some r) can is = absurd (cc)

given : (fault : ReadFault) (most : ℕ) (ordered : Bool) (o : Option Recv) → is_shut ordered o ≡ false → IsReadOf most ordered o (Err fault)
    → IsGiven most ordered o (Err (read_error fault))
unfolding IsGiven
given (FaultReset code) most ordered o can is = is
given FaultMemory most ordered o can is = tt
given FaultBlocked most ordered o can is = is
given FaultClosed most ordered o can is = not_closed most ordered o can is
given FaultUnordered most ordered o can is = not_unordered most ordered o can is

pub refused_so : (fault : ReadFault) (x : ReadError) (most : ℕ) (ordered : Bool) (o : Option Recv) → x ≡ read_error fault → is_shut ordered o ≡ false
    → IsReadOf most ordered o (Err fault) → IsGiven most ordered o (Err x)
refused_so fault x most ordered o is can answer = rw is (given fault most ordered o can answer)

closed_no : (most : ℕ) (ordered : Bool) (o : Option Recv) → is_shut ordered o ≡ false → IsReadOf most ordered o (Err FaultClosed) → (let no : Bool = false in no) ≡ true
unfolding IsReadOf IsRead
closed_no most ordered None can is = absurd (cc)
closed_no most ordered (Some r) can is = absurd (cc)

unordered_no : (most : ℕ) (ordered : Bool) (o : Option Recv) → is_shut ordered o ≡ false → IsReadOf most ordered o (Err FaultUnordered)
    → (let no : Bool = false in no) ≡ true
unfolding IsReadOf IsRead
unordered_no most ordered None can is = absurd (cc)
unordered_no most ordered (Some r) can is = absurd (cc)

left_is : (fault : ReadFault) (most : ℕ) (ordered : Bool) (id : ℕ) (s : StreamsState) → is_shut ordered (receiving_at id s) ≡ false
    → IsReadOf most ordered (receiving_at id s) (Err fault)
    → fault_marked fault (gives (after_read ordered (Err fault)) id s) ≡ read_on ordered (Err (read_error fault)) id s
unfolding read_on
left_is (FaultReset code) most ordered id s can is = refl
left_is FaultMemory most ordered id s can is = refl
left_is FaultBlocked most ordered id s can is = refl
left_is FaultClosed most ordered id s can is = absurd (cc (closed_no most ordered (receiving_at id s) can is))
left_is FaultUnordered most ordered id s can is = absurd (cc (unordered_no most ordered (receiving_at id s) can is))

pub left_so : (fault : ReadFault) (x : ReadError) (most : ℕ) (ordered : Bool) (id : ℕ) (s s' s'' : StreamsState) → x ≡ read_error fault
    → is_shut ordered (receiving_at id s) ≡ false → IsReadOf most ordered (receiving_at id s) (Err fault) → s' ≡ gives (after_read ordered (Err fault)) id s
    → s'' ≡ fault_marked fault s' → s'' ≡ read_on ordered (Err x) id s
left_so fault x most ordered id s s' s'' is can answer left marked =
    rw is (marked ∙ ap (λ (t : StreamsState). fault_marked fault t) left ∙ left_is fault most ordered id s can answer)

pub left_given : (chunk : Option Chunk) (ordered : Bool) (id : ℕ) (s s' : StreamsState) → s' ≡ gives (after_read ordered (Ok chunk)) id s
    → s' ≡ read_on ordered (Ok chunk) id s
unfolding read_on
left_given chunk ordered id s s' is = is

pub given_so : (chunk : Option Chunk) (most : ℕ) (ordered : Bool) (o : Option Recv) → IsReadOf most ordered o (Ok chunk) → IsGiven most ordered o (Ok chunk)
unfolding IsGiven
given_so chunk most ordered o is = is

-- ---- a side that is read on can be read again

receiving_map : (f : Recv → Recv) (o : Option Stream) → receiving_of (option_map (with_receiving f) o) ≡ option_map f (receiving_of o)
unfolding with_receiving
receiving_map f None = refl
receiving_map f (Some st) = refl

marked_map : (o : Option Stream) → receiving_of (option_map (with_mark true) o) ≡ receiving_of o
unfolding with_mark
marked_map None = refl
marked_map (Some st) = refl

touched_at : (id : ℕ) (t : StreamsState) → receiving_at id (touched id t) ≡ receiving_at id t
unfolding touched receiving_at
touched_at id t = ap (λ (o : Option Stream). receiving_of o) (here (with_mark true) id t.records) ∙ marked_map (record_of id t.records)

ended_at : (o : Option Stream) → receiving_over (receiving_of o) ≡ false → has_ended o ≡ false
unfolding is_over
ended_at None is = refl
ended_at (Some st) is = ap (λ (b : Bool). b && sending_over st.sending) is

over_at : (id : ℕ) (t : StreamsState) → receiving_over (receiving_at id t) ≡ false → receiving_over (receiving_of (record_of id t.records)) ≡ false
unfolding receiving_at
over_at id t is = is

settled_at : (id : ℕ) (t : StreamsState) → receiving_over (receiving_at id t) ≡ false → receiving_at id (settled id t) ≡ receiving_at id t
unfolding settled
settled_at id t is =
    ap (λ (b : Bool). receiving_at id (cond b (cond (stops_later (record_of id t.records)) (lingering id t) (released id t)) (touched id t))) (ended_at (record_of id t.records) (over_at id t is)) ∙ touched_at id t

at_is : (f : Recv → Recv) (id : ℕ) (s : StreamsState)
    → receiving_at id (let t : StreamsState = record s { records = changed (with_receiving f) id s.records } in t) ≡ option_map f (receiving_at id s)
unfolding receiving_at
at_is f id s = ap (λ (o : Option Stream). receiving_of o) (here (with_receiving f) id s.records) ∙ receiving_map f (record_of id s.records)

gives_at : (f : Recv → Recv) (id : ℕ) (s : StreamsState) → receiving_over (option_map f (receiving_at id s)) ≡ false
    → receiving_at id (gives f id s) ≡ option_map f (receiving_at id s)
unfolding gives counted receiving_at
gives_at f id s is = settled_at id _ (ap (λ (o : Option Recv). receiving_over o) (at_is f id s) ∙ is) ∙ at_is f id s

by-sides : (ordered unordered told stopped : Bool) → cond (told || stopped) (Some SideShut) (cond (ordered && unordered) (Some SideUnordered) None) ≡ None
    → cond (told || stopped) (Some SideShut) (cond (ordered && (unordered || not ordered)) (Some SideUnordered) None) ≡ None
by-sides ordered unordered true stopped is = is
by-sides ordered unordered false true is = is
by-sides true true false false is = is
by-sides true false false false is = refl
by-sides false true false false is = refl
by-sides false false false false is = refl

by-ends : (ordered unordered told stopped sized : Bool) → cond (told || stopped) (Some SideShut) (cond (ordered && unordered) (Some SideUnordered) None) ≡ None
    → (told || (stopped && sized)) ≡ false
by-ends ordered unordered true stopped sized is = absurd (cc)
by-ends ordered unordered false true sized is = absurd (cc)
by-ends ordered unordered false false sized is = refl

opened_again : (ordered : Bool) (r : Recv) → read_refusal ordered r ≡ None → read_refusal ordered (opened ordered r) ≡ None
unfolding read_refusal is_closed opened
opened_again ordered r is = by-sides ordered r.unordered r.told (is_some r.stopped) is

given_again : (ordered : Bool) (o n : ℕ) (r : Recv) → read_refusal ordered r ≡ None → read_refusal ordered (chunk_given o n (opened ordered r)) ≡ None
unfolding read_refusal is_closed chunk_given given_side opened
given_again ordered o n r is = by-sides ordered r.unordered r.told (is_some r.stopped) is

opened_on : (ordered : Bool) (r : Recv) → read_refusal ordered r ≡ None → is_ended (opened ordered r) ≡ false
unfolding read_refusal is_closed is_ended opened
opened_on ordered r is = by-ends ordered r.unordered r.told (is_some r.stopped) (is_some r.size) is

given_on : (ordered : Bool) (o n : ℕ) (r : Recv) → read_refusal ordered r ≡ None → is_ended (chunk_given o n (opened ordered r)) ≡ false
unfolding read_refusal is_closed is_ended chunk_given given_side opened
given_on ordered o n r is = by-ends ordered r.unordered r.told (is_some r.stopped) (is_some r.size) is

none_so : (o : Option ReadableError) → is_some o ≡ false → o ≡ None
none_so None is = refl
none_so (Some e) is = absurd (cc)

-- a change after which a side can be read, and hasn't ended
again : (f : Recv → Recv) (ordered : Bool) (id : ℕ) (s : StreamsState) → ((r : Recv) → read_refusal ordered r ≡ None → read_refusal ordered (f r) ≡ None)
    → ((r : Recv) → read_refusal ordered r ≡ None → is_ended (f r) ≡ false) → is_shut ordered (receiving_at id s) ≡ false
    → is_shut ordered (receiving_at id (gives f id s)) ≡ false
again f ordered id s can on is =
    ap (λ (o : Option Recv). is_shut ordered o) (gives_at f id s (over (receiving_at id s) is)) ∙ shut (receiving_at id s) is
  where
    over : (o : Option Recv) → is_shut ordered o ≡ false → receiving_over (option_map f o) ≡ false
    over None is = absurd (cc)
    over (Some r) is = on r (none_so (read_refusal ordered r) is)

    shut : (o : Option Recv) → is_shut ordered o ≡ false → is_shut ordered (option_map f o) ≡ false
    shut None is = absurd (cc)
    shut (Some r) is = ap (λ (x : Option ReadableError). is_some x) (can r (none_so (read_refusal ordered r) is))

failed_at : (ordered : Bool) (id : ℕ) (s : StreamsState) → is_shut ordered (receiving_at id s) ≡ false → is_shut ordered (receiving_at id (failed s)) ≡ false
unfolding receiving_at
failed_at ordered id s is = is

on_again : (result : Result (Option Chunk) ReadError) (most : ℕ) (ordered : Bool) (id : ℕ) (s : StreamsState) → is_shut ordered (receiving_at id s) ≡ false
    → IsGiven most ordered (receiving_at id s) result → is_lost (told_after result Nothing) ordered (receiving_at id (read_on ordered result id s)) ≡ false
unfolding read_on IsGiven
on_again (Ok None) most ordered id s can is = refl
on_again (Ok (Some c)) most ordered id s can is =
    again (after_read ordered (Ok (Some c))) ordered id s (given_again ordered c.offset (length c.bytes)) (given_on ordered c.offset (length c.bytes)) can
on_again (Err (Reset code)) most ordered id s can is = refl
on_again (Err Blocked) most ordered id s can is = again (opened ordered) ordered id s (opened_again ordered) (opened_on ordered) can
on_again (Err OutOfMemory) most ordered id s can is = failed_at ordered id (gives (opened ordered) id s) (again (opened ordered) ordered id s (opened_again ordered) (opened_on ordered) can)
on_again (Err HasFailed) most ordered id s can is = absurd (cc)

pub next_again : (result : Result (Option Chunk) ReadError) (most : ℕ) (ordered : Bool) (id : ℕ) (s s' : StreamsState) → is_shut ordered (receiving_at id s) ≡ false
    → IsGiven most ordered (receiving_at id s) result → s' ≡ read_on ordered result id s → is_lost (told_after result Nothing) ordered (receiving_at id s') ≡ false
next_again result most ordered id s s' can answer is = rw is (on_again result most ordered id s can answer)

-- once reading has begun, a side can be read
begun : (o : Option Recv) (ordered : Bool) → begin_refusal ordered o ≡ None → is_shut ordered (option_map (opened ordered) o) ≡ false
begun None ordered is = absurd (cc)
begun (Some r) ordered is = ap (λ (x : Option ReadableError). is_some x) (opened_again ordered r is)

pub begun_so : (ordered : Bool) (id : ℕ) (s s' : StreamsState) → begin_refusal ordered (receiving_at id s) ≡ None → s' ≡ reading_begun ordered id s
    → is_shut ordered (receiving_at id s') ≡ false
unfolding reading_begun
begun_so ordered id s s' fits is =
    rw is (ap (λ (o : Option Recv). is_shut ordered o) (at_is (opened ordered) id s) ∙ begun (receiving_at id s) ordered fits)

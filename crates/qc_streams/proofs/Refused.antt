-- What a write that is refused leaves
use Rattle.std.proofs.Common.{◌≡◌, ◌∙◌, ℕ, ◌<◌, Bool, true, false, cond, not, ◌&&◌, ◌||◌, ◌==◌, nat_le, Option, None, Some, is_some, Result, Ok, Err, ap, sym, arith, refl}
use Rattle.std.specs.Prelude.{OnOk}
use Rattle.std.specs.Option.{option_map}
use Rattle.qc_base.specs.declared.varint.VarInt.{VarInt}
use Rattle.qc_send_stream.specs.declared.send.SendPart.{SendPart}
use Rattle.qc_send_stream.specs.declared.fault.WriteError.{WriteError}
use Rattle.qc_send_stream.specs.declared.fault.WriteError.TheVariants.{Blocked, ClosedStream, Stopped, OutOfMemory}
use Rattle.qc_send_stream.specs.Sending.{IsWriteRefusal, after_refusal, is_closed, is_done, stop_refusal, write_refusal as part_write_refusal}
use Rattle.qc_streams.specs.declared.state.StreamsState.{StreamsState}
use Rattle.qc_streams.specs.declared.stream.Stream.{Stream}
use Rattle.qc_streams.specs.Blocked.{BlockedIds, lacking, without_blocked}
use Rattle.qc_streams.specs.Calls.{IsRefused, if_known, known, known_of, needs_memory, write_fault, write_refused}
use Rattle.qc_streams.specs.Lending.{AllRecords}
use Rattle.qc_streams.specs.Records.{changed, on_some, record_of}
use Rattle.qc_streams.specs.Settings.{is_unknown}
use Rattle.qc_streams.specs.Stream.{with_sending}
use Rattle.qc_streams.specs.Events.{EventQueue, put_by_if}
use Rattle.qc_streams.specs.Writable.{blocks_anew, credit_at, credit_of, has_credit, held_up, needs_place, needs_place_at, place_after, place_reserved}
use Rattle.std.proofs.lemmas.Bool.Decides.{nat_tests}
use Rattle.qc_streams.proofs.Back.{record_back}

-- a change that changes no sending side
if-back : (f : SendPart → SendPart) → ((p : SendPart) → f p ≡ p) → (d : Bool) (p : SendPart) → cond d p (f p) ≡ p
if-back f same true p = refl
if-back f same false p = same p

option-back : (f : SendPart → SendPart) → ((p : SendPart) → f p ≡ p) → (o : Option SendPart) → option_map (if_known f) o ≡ o
option-back f same None = refl
option-back f same (Some p) = ap (λ (x : SendPart). Some x) (if-back f same (is_done p) p)

stream-back : (f : SendPart → SendPart) → ((p : SendPart) → f p ≡ p) → (st : Stream) → with_sending (if_known f) st ≡ st
unfolding with_sending
stream-back f same st = ap (λ (o : Option SendPart). (let x : Stream = record st { sending = o } in x)) (option-back f same st.sending)

some-back : (f : SendPart → SendPart) → ((p : SendPart) → f p ≡ p) → (id : ℕ) (all : AllRecords) (found : Option Stream)
    → record_of id all ≡ found → on_some (with_sending (if_known f)) id found all ≡ all
some-back f same id all None is = refl
some-back f same id all (Some st) is = record_back id all st (with_sending (if_known f) st) is (stream-back f same st)

changed-back : (f : SendPart → SendPart) → ((p : SendPart) → f p ≡ p) → (id : ℕ) (all : AllRecords) → changed (with_sending (if_known f)) id all ≡ all
changed-back f same id all = some-back f same id all (record_of id all) refl

closed_back : (id : ℕ) (all all' : AllRecords) → all' ≡ changed (with_sending (if_known (after_refusal ClosedStream))) id all → all' ≡ all
closed_back id all all' is = is ∙ changed-back (after_refusal ClosedStream) (λ p. refl) id all

stopped_back : (code : VarInt) (id : ℕ) (all all' : AllRecords) → all' ≡ changed (with_sending (if_known (after_refusal (Stopped code)))) id all → all' ≡ all
stopped_back code id all all' is = is ∙ changed-back (after_refusal (Stopped code)) (λ p. refl) id all

memory_back : (id : ℕ) (all all' : AllRecords) → all' ≡ changed (with_sending (if_known (after_refusal OutOfMemory))) id all → all' ≡ all
memory_back id all all' is = is ∙ changed-back (after_refusal OutOfMemory) (λ p. refl) id all

-- a write that is blocked though there is budget finds no credit of its stream
by-stop : (stopped : Option VarInt) (none : Bool) → stop_refusal stopped none ≡ Some Blocked → not none ≡ false
by-stop (Some code) none is = absurd (cc)
by-stop None true is = refl
by-stop None false is = absurd (cc)

by-closed : (closed : Bool) (stopped : Option VarInt) (none : Bool) → cond closed (Some ClosedStream) (stop_refusal stopped none) ≡ Some Blocked
    → not (closed || none) ≡ false
by-closed true stopped none is = refl
by-closed false stopped none is = by-stop stopped none is

by-budget : (none : Bool) (closed : Bool) (stopped : Option VarInt) (used : Bool) → none ≡ false
    → cond none (Some Blocked) (cond closed (Some ClosedStream) (stop_refusal stopped used)) ≡ Some Blocked → not (closed || used) ≡ false
by-budget true closed stopped used left is = absurd (cc)
by-budget false closed stopped used left is = by-closed closed stopped used is

not-none : (most : ℕ) → 0 < most → (most == 0) ≡ false
not-none most some = grind (arith, nat_tests)

side-lacks : (most : ℕ) (d : Bool) (p : SendPart) → write_fault most (cond d None (Some p)) ≡ Some Blocked → 0 < most → has_credit p ≡ false
unfolding part_write_refusal has_credit
side-lacks most true p is some = absurd (cc)
side-lacks most false p is some =
    by-budget (most == 0) (is_closed p) p.stopped (nat_le p.limit p.buffer.written) (not-none most some) is

part-lacks : (most : ℕ) (o : Option SendPart) → write_fault most (known o) ≡ Some Blocked → 0 < most → credit_of o ≡ false
part-lacks most None is some = refl
part-lacks most (Some p) is some = side-lacks most (is_done p) p is some

no_credit : (most : ℕ) (found : Option Stream) → write_fault most (known_of found) ≡ Some Blocked → 0 < most → credit_at found ≡ false
no_credit most None is some = refl
no_credit most (Some st) is some = part-lacks most st.sending is some

-- ---- the place for the event that a stream can be written on again

-- why a write is refused, by what a side is
abbrev refusal_by : Bool → Bool → Option VarInt → Bool → Option WriteError
refusal_by none closed stopped used = cond none (Some Blocked) (cond closed (Some ClosedStream) (stop_refusal stopped used))

abbrev anew_by : Bool → Bool → Option VarInt → Bool → Bool
anew_by blocked closed stopped used = not blocked && (not closed && (not (is_some stopped) && used))

anew-refused : (none blocked closed : Bool) (stopped : Option VarInt) (used : Bool) → none ≡ false → anew_by blocked closed stopped used ≡ true
    → refusal_by none closed stopped used ≡ Some Blocked
anew-refused true blocked closed stopped used left is = absurd (cc)
anew-refused false true closed stopped used left is = absurd (cc)
anew-refused false false true stopped used left is = absurd (cc)
anew-refused false false false (Some code) used left is = absurd (cc)
anew-refused false false false None true left is = refl
anew-refused false false false None false left is = absurd (cc)

anew-needs : (none blocked closed : Bool) (stopped : Option VarInt) (used : Bool) → none ≡ false → refusal_by none closed stopped used ≡ Some Blocked
    → anew_by blocked closed stopped used ≡ not (blocked || closed)
anew-needs true blocked closed stopped used left is = absurd (cc)
anew-needs false blocked true stopped used left is = absurd (cc)
anew-needs false blocked false (Some code) used left is = absurd (cc)
anew-needs false true false None used left is = refl
anew-needs false false false None true left is = refl
anew-needs false false false None false left is = absurd (cc)

anew_blocks : (most : ℕ) (p : SendPart) → 0 < most → blocks_anew p ≡ true → part_write_refusal most p ≡ Some Blocked
unfolding part_write_refusal blocks_anew
anew_blocks most p some is =
    anew-refused (most == 0) p.blocked (is_closed p) p.stopped (nat_le p.limit p.buffer.written) (not-none most some) is

anew_needs : (most : ℕ) (p : SendPart) → 0 < most → part_write_refusal most p ≡ Some Blocked → blocks_anew p ≡ needs_place (Some p)
unfolding part_write_refusal blocks_anew
anew_needs most p some is =
    anew-needs (most == 0) p.blocked (is_closed p) p.stopped (nat_le p.limit p.buffer.written) (not-none most some) is

pub wants_memory : (most : ℕ) (p : SendPart) → 0 < most → blocks_anew p ≡ true → needs_memory (part_write_refusal most p) ≡ true
wants_memory most p some is = ap (λ (r : Option WriteError). needs_memory r) (anew_blocks most p some is)

pub lacks_so : (most : ℕ) (p : SendPart) → 0 < most → blocks_anew p ≡ true → IsRefused OutOfMemory (part_write_refusal most p)
unfolding IsRefused
lacks_so most p some is = wants_memory most p some is

-- a side that isn't blocked by a write puts no place by
other_refusal : (most : ℕ) (p : SendPart) (q q' : EventQueue) (r : Option WriteError) → 0 < most → q' ≡ put_by_if (blocks_anew p) q
    → part_write_refusal most p ≡ r → (r ≡ Some Blocked → ⊥) → q' ≡ q
other_refusal most p q q' r some to is apart = by (blocks_anew p) refl
  where
    by : (b : Bool) → blocks_anew p ≡ b → q' ≡ q
    by true anew = absurd (apart (sym is ∙ anew_blocks most p some anew))
    by false anew = to ∙ ap (λ (b : Bool). put_by_if b q) anew

pub placed_so : (e : WriteError) (most : ℕ) (p : SendPart) (q q' : EventQueue) → 0 < most → q' ≡ put_by_if (blocks_anew p) q
    → IsWriteRefusal e (part_write_refusal most p) → q' ≡ place_after e (needs_place (Some p)) q
unfolding IsWriteRefusal
placed_so Blocked most p q q' some to is = to ∙ ap (λ (b : Bool). put_by_if b q) (anew_needs most p some is)
placed_so ClosedStream most p q q' some to is = other_refusal most p q q' (Some ClosedStream) some to is (λ no. absurd (cc))
placed_so (Stopped code) most p q q' some to is = other_refusal most p q q' (Some (Stopped code)) some to is (λ no. absurd (cc))
placed_so OutOfMemory most p q q' some to is = other_refusal most p q q' None some to is (λ no. absurd (cc))

pub unplaced_so : (most : ℕ) (p : SendPart) (q q' : EventQueue) → 0 < most → q' ≡ put_by_if (blocks_anew p) q → part_write_refusal most p ≡ None → q' ≡ q
unplaced_so most p q q' some to is = other_refusal most p q q' None some to is (λ no. absurd (cc))

pub unplaced_ok : (r : Result ℕ WriteError) (most : ℕ) (p : SendPart) (q q' : EventQueue) → 0 < most → q' ≡ put_by_if (blocks_anew p) q
    → OnOk r (part_write_refusal most p ≡ None) → OnOk r (q' ≡ q)
unplaced_ok (Ok n) most p q q' some to is = unplaced_so most p q q' some to is
unplaced_ok (Err e) most p q q' some to is = tt

-- ---- so a write that is refused leaves what it is to leave

same-state : (s : StreamsState) (all' : AllRecords) (ids : BlockedIds) (q : EventQueue) → all' ≡ s.records → ids ≡ s.blocked → q ≡ s.events
    → (let t : StreamsState = record s { records = all'; blocked = ids; events = q } in t) ≡ s
same-state s all' ids q r b e =
    ap (λ (x : AllRecords). (let t : StreamsState = record s { records = x; blocked = ids; events = q } in t)) r
    ∙ ap (λ (x : BlockedIds). (let t : StreamsState = record s { blocked = x; events = q } in t)) b
    ∙ ap (λ (x : EventQueue). (let t : StreamsState = record s { events = x } in t)) e

blocked-so : (credit closed needs : Bool) (id : ℕ) (s : StreamsState) (all' all'' : AllRecords) (ids : BlockedIds) (q : EventQueue) → closed ≡ false → credit ≡ false
    → all' ≡ all'' → ids ≡ without_blocked id s.blocked → q ≡ put_by_if needs s.events
    → (let t : StreamsState = record s { records = all'; blocked = ids; events = q } in t)
    ≡ cond closed s (place_reserved needs (held_up credit id (record s { records = all'' })))
unfolding held_up
blocked-so true closed needs id s all' all'' ids q stands lacks to gone placed = absurd (cc)
blocked-so false true needs id s all' all'' ids q stands lacks to gone placed = absurd (cc)
blocked-so false false needs id s all' all'' ids q stands lacks to gone placed =
    ap (λ (x : AllRecords). (let t : StreamsState = record s { records = x; blocked = ids; events = q } in t)) to
    ∙ ap (λ (x : BlockedIds). (let t : StreamsState = record s { records = all''; blocked = x; events = q } in t)) gone
    ∙ ap (λ (x : EventQueue). (let t : StreamsState = record s { records = all''; blocked = without_blocked id s.blocked; events = x } in t)) placed

pub refused_so : (e : WriteError) (most id : ℕ) (s : StreamsState) (all' : AllRecords) (ids : BlockedIds) (q : EventQueue) → s.closed ≡ false → 0 < most
    → IsRefused e (write_fault most (known_of (record_of id s.records)))
    → all' ≡ changed (with_sending (if_known (after_refusal e))) id s.records → ids ≡ lacking e id s.blocked
    → q ≡ place_after e (needs_place_at (record_of id s.records)) s.events
    → (let t : StreamsState = record s { records = all'; blocked = ids; events = q } in t) ≡ write_refused e id s
unfolding IsRefused write_refused
refused_so Blocked most id s all' ids q stands some is to gone placed =
    blocked-so (credit_at (record_of id s.records)) s.closed (needs_place_at (record_of id s.records)) id s all' _ ids q stands
    (no_credit most (record_of id s.records) is some) to gone placed
refused_so ClosedStream most id s all' ids q stands some is to gone placed = same-state s all' ids q (closed_back id s.records all' to) gone placed
refused_so (Stopped code) most id s all' ids q stands some is to gone placed = same-state s all' ids q (stopped_back code id s.records all' to) gone placed
refused_so OutOfMemory most id s all' ids q stands some is to gone placed = same-state s all' ids q (memory_back id s.records all' to) gone placed

pub refusal_so : (e : WriteError) (r : Option WriteError) → IsWriteRefusal e r → IsRefused e r
unfolding IsWriteRefusal IsRefused
refusal_so Blocked r is = is
refusal_so ClosedStream r is = is
refusal_so (Stopped code) r is = is
refusal_so OutOfMemory r is = ap (λ (x : Option WriteError). needs_memory x) is

-- where there is no budget, a write is refused because the stream is unknown, or is blocked
pub unknown_fault : (o : Option SendPart) → is_unknown o ≡ true → write_fault 0 o ≡ Some ClosedStream
unknown_fault None is = refl
unknown_fault (Some p) is = absurd (cc)

pub held_fault : (o : Option SendPart) → is_unknown o ≡ false → write_fault 0 o ≡ Some Blocked
unfolding part_write_refusal
held_fault None is = absurd (cc)
held_fault (Some p) is = refl

pub held_needs : (o : Option SendPart) → is_unknown o ≡ false → needs_memory (write_fault 0 o) ≡ true
held_needs o is = ap (λ (r : Option WriteError). needs_memory r) (held_fault o is)

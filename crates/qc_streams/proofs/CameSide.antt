-- What counts as received is the sum of the greatest ends that came: what frames and calls make of a receiving side, and of that sum
use Rattle.std.proofs.Common.{◌≡◌, ◌∙◌, ℕ, ◌+◌, ◌==◌, ◌≤◌, Bool, true, false, cond, ◌&&◌, ◌||◌, nat_lt, max, List, [], ◌∷◌, length, Option, None, Some, is_some, Result, Ok, Err, ap, sym, arith, refl}
use Rattle.std.proofs.lemmas.Bool.{false≢true, or_parts}
use Rattle.std.proofs.lemmas.Bool.Decides.{nat_tests}
use Rattle.qc_base.specs.declared.varint.VarInt.{VarInt}
use Rattle.qc_recv.specs.declared.fault.Refusal.{Refusal}
use Rattle.qc_recv.specs.declared.fault.Refusal.TheVariants.{FinalSize, FlowControl, TooManyParts}
use Rattle.qc_assembler.specs.Assembly.{discarded, inserted}
use Rattle.qc_recv.specs.declared.recv.Chunk.{Chunk}
use Rattle.qc_recv.specs.declared.recv.Recv.{Recv}
use Rattle.qc_recv.specs.Owed.{credit_lost, credit_sealed, stop_lost, stop_sealed}
use Rattle.qc_recv.specs.Receiving.{above_credit, breaks_size, bytes_taken, chunk_given, end_refusal, end_taken, end_told, first_row, given, has_many_parts, is_ended, is_other, is_past, keeps, new_receiving, opened, reset_asked, reset_refusal, reset_taken, stop_asked, stream_refusal, stream_taken}
use Rattle.qc_streams.specs.declared.control.Control.{Control}
use Rattle.qc_streams.specs.declared.control.Control.TheVariants.{Reset, Stop, MaxData, MaxStreamData, MaxStreams}
use Rattle.qc_streams.specs.declared.fault.ReadFault.{ReadFault}
use Rattle.qc_streams.specs.declared.fault.ReadFault.TheVariants.{ClosedStream, IllegalOrderedRead, Reset as WasResetTo, Blocked, OutOfMemory}
use Rattle.qc_streams.specs.Calls.{after_read}
use Rattle.qc_streams.specs.Tied.{all_ends, end_on, end_raised}
use Rattle.qc_streams.specs.Waits.{Step, Began, Read, Stopped, ResetAsked, StreamCame, ResetCame, ControlSealed, ControlLost}
use Rattle.qc_streams.proofs.StepAt.{came_to, control_came}

-- ---- the ends of all streams

pub raised_here : (id end : ℕ) (ends : List (ℕ × ℕ)) → (id == id) ≡ true → end_on id (end_raised id end ends) ≡ max (end_on id ends) end
unfolding end_on end_raised
raised_here id end [] same = rw same (omega arith)
raised_here id end (e ∷ ends) same = by (e.0 == id) refl (raised_here id end ends same)
  where
    by : (b : Bool) → (e.0 == id) ≡ b → end_on id (end_raised id end ends) ≡ max (end_on id ends) end
        → end_on id (cond b ((e.0, max e.1 end) ∷ ends) (e ∷ end_raised id end ends)) ≡ max (cond b e.1 (end_on id ends)) end
    by true is rest = rw is refl
    by false is rest = rw is rest

pub raised_other : (id j end : ℕ) (ends : List (ℕ × ℕ)) → (j == id) ≡ false → end_on id (end_raised j end ends) ≡ end_on id ends
unfolding end_on end_raised
raised_other id j end [] apart = rw apart refl
raised_other id j end (e ∷ ends) apart = by (e.0 == j) refl (raised_other id j end ends apart)
  where
    not_same : (a : ℕ) → (a == j) ≡ true → (a == id) ≡ false
    not_same a is = grind (arith, nat_tests)

    by : (b : Bool) → (e.0 == j) ≡ b → end_on id (end_raised j end ends) ≡ end_on id ends
        → end_on id (cond b ((e.0, max e.1 end) ∷ ends) (e ∷ end_raised j end ends)) ≡ cond (e.0 == id) e.1 (end_on id ends)
    by true is rest = rw (not_same e.0 is) refl
    by false is rest = ap (λ (n : ℕ). cond (e.0 == id) e.1 n) rest

-- the sum grows by what is new
pub raised_sum : (id end : ℕ) (ends : List (ℕ × ℕ)) → all_ends (end_raised id end ends) + end_on id ends ≡ all_ends ends + max (end_on id ends) end
unfolding all_ends end_on end_raised
raised_sum id end [] = omega arith
raised_sum id end (e ∷ ends) = by (e.0 == id) (raised_sum id end ends)
  where
    by : (b : Bool) → all_ends (end_raised id end ends) + end_on id ends ≡ all_ends ends + max (end_on id ends) end
        → all_ends (cond b ((e.0, max e.1 end) ∷ ends) (e ∷ end_raised id end ends)) + cond b e.1 (end_on id ends) ≡ e.1 + all_ends ends + max (cond b e.1 (end_on id ends)) end
    by true rest = omega arith
    by false rest = omega (arith, rest)

-- ---- a receiving side

-- The greatest end that counts for a side is its own; a size that is known is that end, and is known once a reset came
pub record SideLine (n : ℕ) (r : Recv) : Type 0 where
  pub line : n ≡ r.greatest
  pub sized : (m : ℕ) → r.size ≡ Some m → m ≡ r.greatest
  pub reset : is_some r.reset ≡ true → is_some r.size ≡ true

pub fresh_line : (window : ℕ) → SideLine 0 (new_receiving window)
unfolding new_receiving
fresh_line window = record { line = refl; sized = λ m is. absurd (none_some m None refl is); reset = λ is. absurd (false≢true is) }
  where
    none_some : (m : ℕ) (o : Option ℕ) → o ≡ None → o ≡ Some m → ⊥
    none_some m o none some = false≢true (ap (λ (x : Option ℕ). is_some x) (sym none ∙ some))

-- how an end that isn't refused lies
record Lies (end : ℕ) (last : Bool) (r : Recv) : Type 0 where
  size : (m : ℕ) → r.size ≡ Some m → end ≤ m
  above : last ≡ true → r.greatest ≤ end

second : (a b c : Bool) (x y z : Refusal) → cond a (Some x) (cond b (Some y) (cond c (Some z) None)) ≡ None → b ≡ false
second true b c x y z is = absurd (cc)
second false true c x y z is = absurd (cc)
second false false c x y z is = refl

above_known : (b c d : Bool) → (b && (c || d)) ≡ false → b ≡ true → d ≡ false
above_known true c d is so = (or_parts c d is).1
above_known false c d is so = absurd (false≢true so)

lies : (end : ℕ) (last : Bool) (room : ℕ) (r : Recv) → end_refusal end last room r ≡ None → Lies end last r
unfolding end_refusal first_row breaks_size
lies end last room r none =
    let parts = or_parts (is_past end r.size) (last && (is_other end r.size || nat_lt end r.greatest)) (second _ _ (above_credit end room r) FlowControl FinalSize FlowControl none) in
    record {
      size = λ m is. not_past m (ap (λ (o : Option ℕ). is_past end o) (sym is) ∙ parts.0);
      above = λ so. not_below (above_known last (is_other end r.size) (nat_lt end r.greatest) parts.1 so);
    }
  where
    not_past : (m : ℕ) → nat_lt m end ≡ false → end ≤ m
    not_past m is = grind (arith, nat_tests)

    not_below : nat_lt end r.greatest ≡ false → r.greatest ≤ end
    not_below is = grind (arith, nat_tests)

size_known : (n : ℕ) (o : Option ℕ) → is_some o ≡ true → (m : ℕ) × (o ≡ Some m)
size_known n None is = absurd (false≢true is)
size_known n (Some m) is = (m, refl)

-- after a reset an end lies within what counts
past_reset : (n end : ℕ) (last : Bool) (r : Recv) → is_some r.reset ≡ true → Lies end last r → SideLine n r → SideLine (max n end) r
past_reset n end last r reset l h =
    let known = size_known n r.size (h.reset reset) in
    let within : end ≤ known.0 = l.size known.0 known.1 in
    let same : known.0 ≡ r.greatest = h.sized known.0 known.1 in
    record { line = omega (arith, within, same, h.line); sized = h.sized; reset = h.reset }

same_some : (m n : ℕ) → (let o : Option ℕ = Some m in o) ≡ Some n → m ≡ n
same_some m n is = cc

-- the end of a frame is taken
end_line : (n end : ℕ) (last : Bool) (r : Recv) → (last ≡ false → is_some r.reset ≡ true → is_some r.size ≡ true) → Lies end last r
    → n ≡ r.greatest → ((m : ℕ) → r.size ≡ Some m → m ≡ r.greatest) → SideLine (max n end) (end_taken end last r)
unfolding end_taken
end_line n end last r reset l line sized = record {
  line = ap (λ (i : ℕ). max i end) line;
  sized = by last refl;
  reset = again last reset;
}
  where
    by : (b : Bool) → last ≡ b → (m : ℕ) → cond b (Some end) r.size ≡ Some m → m ≡ max r.greatest end
    by true is m some = let same : end ≡ m = same_some end m some in omega (arith, same, l.above is)
    by false is m some = omega (arith, sized m some, l.size m some)

    again : (b : Bool) → (b ≡ false → is_some r.reset ≡ true → is_some r.size ≡ true) → is_some r.reset ≡ true → is_some (cond b (Some end) r.size) ≡ true
    again true known is = refl
    again false known is = known refl is

-- a STREAM frame comes
not_ended : (o : ℕ) (bs : List ℕ) (last : Bool) (room : ℕ) (r : Recv) → is_ended r ≡ false → stream_refusal o bs last room r ≡ None
    → end_refusal (o + length bs) last room r ≡ None
unfolding stream_refusal
not_ended o bs last room r going none = by (is_ended r) (end_refusal (o + length bs) last room r) going none
  where
    by : (b : Bool) (e : Option Refusal) → b ≡ false → cond b None (cond (is_some e) e (cond (has_many_parts o bs r) (Some TooManyParts) None)) ≡ None → e ≡ None
    by true e is none = absurd (false≢true (sym is))
    by false None is none = refl
    by false (Some x) is none = none

-- two sides with the same end, size and reset
pub record KeepsSide (r q : Recv) : Type 0 where
  pub greatest : q.greatest ≡ r.greatest
  pub size : q.size ≡ r.size
  pub reset : q.reset ≡ r.reset

kept_here : (r : Recv) → KeepsSide r r
kept_here r = record { greatest = refl; size = refl; reset = refl }

pub kept_line : (n : ℕ) (r q : Recv) → KeepsSide r q → SideLine n r → SideLine n q
kept_line n r q k h = record {
  line = h.line ∙ sym k.greatest;
  sized = λ m is. h.sized m (sym k.size ∙ is) ∙ sym k.greatest;
  reset = λ is. ap (λ (o : Option ℕ). is_some o) k.size ∙ h.reset (ap (λ (o : Option VarInt). is_some o) (sym k.reset) ∙ is);
}

kept_lies : (end : ℕ) (last : Bool) (r q : Recv) → KeepsSide r q → Lies end last r → Lies end last q
kept_lies end last r q k l = record {
  size = λ m is. l.size m (sym k.size ∙ is);
  above = λ is. omega (arith, l.above is, k.greatest);
}

bytes_kept : (o : ℕ) (bs : List ℕ) (r : Recv) → KeepsSide r (bytes_taken o bs r)
unfolding bytes_taken
bytes_kept o bs r = by (keeps r)
  where
    by : (b : Bool) → KeepsSide r (cond b (record r { assembler = inserted o bs r.assembler }) r)
    by true = record { greatest = refl; size = refl; reset = refl }
    by false = kept_here r

pub stream_line : (n o : ℕ) (bs : List ℕ) (last : Bool) (room : ℕ) (r : Recv) → is_ended r ≡ false → stream_refusal o bs last room r ≡ None → SideLine n r
    → SideLine (max n (o + length bs)) (stream_taken o bs last r)
unfolding stream_taken
stream_line n o bs last room r going none h =
    by (is_ended r) (is_some r.reset) going refl (lies (o + length bs) last room r (not_ended o bs last room r going none))
  where
    by : (b c : Bool) → b ≡ false → is_some r.reset ≡ c → Lies (o + length bs) last r
        → SideLine (max n (o + length bs)) (cond (b || c) r (end_taken (o + length bs) last (bytes_taken o bs r)))
    by true c is reset l = absurd (false≢true (sym is))
    by false true is reset l = past_reset n (o + length bs) last r reset l h
    by false false is reset l =
        let q : SideLine n (bytes_taken o bs r) = kept_line n r (bytes_taken o bs r) (bytes_kept o bs r) h in
        end_line n (o + length bs) last (bytes_taken o bs r) (λ more. q.reset) (kept_lies (o + length bs) last r (bytes_taken o bs r) (bytes_kept o bs r) l) q.line q.sized

pub stream_still : (o : ℕ) (bs : List ℕ) (last : Bool) (r : Recv) → is_ended r ≡ true → stream_taken o bs last r ≡ r
unfolding stream_taken
stream_still o bs last r is = rw is refl

-- a RESET_STREAM frame comes
reset_open : (size room : ℕ) (r : Recv) → is_ended r ≡ false → reset_refusal size room r ≡ None → end_refusal size true room r ≡ None
unfolding reset_refusal
reset_open size room r going none = by (is_ended r) going none
  where
    by : (b : Bool) → b ≡ false → cond b None (end_refusal size true room r) ≡ None → end_refusal size true room r ≡ None
    by true is none = absurd (false≢true (sym is))
    by false is none = none

pub reset_line : (n : ℕ) (code : VarInt) (size room : ℕ) (r : Recv) → is_ended r ≡ false → reset_refusal size room r ≡ None → SideLine n r
    → SideLine (max n size) (reset_taken code size r)
unfolding reset_taken
reset_line n code size room r going none h = by (is_ended r) (is_some r.reset) going refl (lies size true room r (reset_open size room r going none))
  where
    by : (b c : Bool) → b ≡ false → is_some r.reset ≡ c → Lies size true r
        → SideLine (max n size) (cond (b || c) r (end_taken size true (record r { assembler = discarded r.assembler; reset = Some code })))
    by true c is reset l = absurd (false≢true (sym is))
    by false true is reset l = past_reset n size true r reset l h
    by false false is reset l =
        end_line n size true (record r { assembler = discarded r.assembler; reset = Some code }) (λ more. absurd (false≢true (sym more)))
        (record { size = l.size; above = l.above }) h.line h.sized

pub reset_still : (code : VarInt) (size : ℕ) (r : Recv) → is_ended r ≡ true → reset_taken code size r ≡ r
unfolding reset_taken
reset_still code size r is = rw is refl

-- ---- what else becomes of it

-- a step that isn't a frame with an end on that stream
abbrev pub IsOther : ℕ → Step → Type 0
IsOther id (StreamCame j o bs last) = (j == id) ≡ false
IsOther id (ResetCame j code size) = (j == id) ≡ false
IsOther id x = Unit {0}

if_keeps : (b : Bool) (r q : Recv) → KeepsSide r q → KeepsSide r (cond b q r)
if_keeps true r q k = k
if_keeps false r q k = kept_here r

asked_keeps : (r : Recv) → KeepsSide r (reset_asked r)
unfolding reset_asked end_told
asked_keeps r = if_keeps (is_some r.reset) r (record r { told = true }) (record { greatest = refl; size = refl; reset = refl })

read_keeps : (ordered : Bool) (result : Result (Option Chunk) ReadFault) (r : Recv) → KeepsSide r (after_read ordered result r)
unfolding chunk_given given end_told opened
read_keeps ordered (Ok (Some c)) r = record { greatest = refl; size = refl; reset = refl }
read_keeps ordered (Ok None) r = record { greatest = refl; size = refl; reset = refl }
read_keeps ordered (Err (WasResetTo code)) r = record { greatest = refl; size = refl; reset = refl }
read_keeps ordered (Err Blocked) r = record { greatest = refl; size = refl; reset = refl }
read_keeps ordered (Err OutOfMemory) r = record { greatest = refl; size = refl; reset = refl }
read_keeps ordered (Err ClosedStream) r = kept_here r
read_keeps ordered (Err IllegalOrderedRead) r = kept_here r

control_keeps : (id : ℕ) (c : Control) (stop credit : Recv → Recv) (r : Recv) → KeepsSide r (stop r) → KeepsSide r (credit r)
    → KeepsSide r (control_came id c stop credit r)
control_keeps id (Reset j code size) stop credit r s c = kept_here r
control_keeps id (Stop j code) stop credit r s c = if_keeps (j == id) r (stop r) s
control_keeps id (MaxData limit) stop credit r s c = kept_here r
control_keeps id (MaxStreamData j limit) stop credit r s c = if_keeps (j == id) r (credit r) c
control_keeps id (MaxStreams dir limit) stop credit r s c = kept_here r

other_if : (b : Bool) (r q : Recv) → b ≡ false → KeepsSide r (cond b q r)
other_if true r q is = absurd (false≢true (sym is))
other_if false r q is = kept_here r

pub came_keeps : (id : ℕ) (x : Step) (r : Recv) → IsOther id x → KeepsSide r (came_to id x r)
unfolding came_to opened stop_asked stop_sealed credit_sealed stop_lost credit_lost
came_keeps id (StreamCame j o bs last) r other = other_if (j == id) r _ other
came_keeps id (ResetCame j code size) r other = other_if (j == id) r _ other
came_keeps id (Began ordered j) r other = if_keeps (j == id) r _ (record { greatest = refl; size = refl; reset = refl })
came_keeps id (Read ordered result j) r other = if_keeps (j == id) r _ (read_keeps ordered result r)
came_keeps id (Stopped code j) r other = if_keeps (j == id) r _ (record { greatest = refl; size = refl; reset = refl })
came_keeps id (ResetAsked j) r other = if_keeps (j == id) r _ (asked_keeps r)
came_keeps id (ControlSealed c) r other =
    control_keeps id c stop_sealed credit_sealed r (record { greatest = refl; size = refl; reset = refl }) (record { greatest = refl; size = refl; reset = refl })
came_keeps id (ControlLost c) r other =
    control_keeps id c stop_lost credit_lost r (record { greatest = refl; size = refl; reset = refl }) (record { greatest = refl; size = refl; reset = refl })
came_keeps id x r other = kept_here r

-- reading and stopping bring no end
pub read_greatest : (ordered : Bool) (result : Result (Option Chunk) ReadFault) (r : Recv) → (after_read ordered result r).greatest ≡ r.greatest
read_greatest ordered result r = (read_keeps ordered result r).greatest

pub stop_greatest : (code : VarInt) (r : Recv) → (stop_asked code r).greatest ≡ r.greatest
unfolding stop_asked
stop_greatest code r = refl

pub asked_greatest : (r : Recv) → (reset_asked r).greatest ≡ r.greatest
asked_greatest r = (asked_keeps r).greatest

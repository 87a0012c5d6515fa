-- No byte of a stream is given twice: what each step leaves of that on a receiving side
use Rattle.std.proofs.Common.{◌≡◌, ◌∙◌, ℕ, suc, ◌+◌, ◌==◌, Bool, true, false, cond, not, ◌||◌, nat_lt, List, [], ◌∷◌, ◌++◌, length, Option, None, Some, is_some, Ok, Err, inl, inr, ap, sym, subst, refl, arith}
use Rattle.std.specs.Option.{unwrap_or}
use Rattle.std.proofs.lemmas.Bool.{and_parts, cases_eq, le-ltb}
use Rattle.std.proofs.lemmas.List.Sums.{sum_by-append}
use Rattle.qc_assembler.specs.Assembly.{Assembly, add, advanced, among, byte_came, inserted, nothing, put, run, taken, was_read}
use Rattle.qc_base.specs.declared.varint.VarInt.{VarInt}
use Rattle.qc_recv.specs.declared.recv.Chunk.{Chunk}
use Rattle.qc_recv.specs.declared.recv.Recv.{Recv}
use Rattle.qc_recv.specs.Owed.{credit_lost, credit_sealed, stop_lost, stop_sealed}
use Rattle.qc_recv.specs.Receiving.{bytes_taken, chunk_given, end_taken, end_told, given, is_ended, keeps, new_receiving, opened, reset_asked, reset_taken, stop_asked, stream_taken, GivesChunk}
use Rattle.qc_streams.specs.declared.control.Control.TheVariants.{Stop, MaxStreamData}
use Rattle.qc_streams.specs.declared.fault.ReadFault.TheVariants.{ClosedStream, IllegalOrderedRead, Reset, Blocked, OutOfMemory}
use Rattle.qc_streams.specs.Calls.{IsRead}
use Rattle.qc_streams.specs.Carried.{keeps_streams, times, with_came, with_given}
use Rattle.qc_streams.specs.Waits.{Step, EarlyRefused, Began, Read, Stopped, ResetAsked, StreamCame, ResetCame, ControlSealed, ControlLost}
use Rattle.qc_streams.proofs.CarriedCame.{is_live, live_same, live_taken, not_reset, not_stopped, not_told, open_live}
use Rattle.qc_streams.proofs.CarriedOffsets.{AreFound, Ascends, ascends_none, ascends_put, ascends_rest, found_run, read_advanced, read_taken, times_run, value_at, value_other, value_put, value_rest, value_within, within}
use Rattle.qc_streams.proofs.CarriedSide.{IsFine}
use Rattle.qc_streams.proofs.StepAt.{came_to}

-- What waits in an assembly are the bytes that came and weren't read, and those that were read were given once each
pub record Keeping (all bytes : List (ℕ × ℕ)) (a : Assembly) : Type 0 where
  pub ascends : Ascends 0 a.came
  pub waits : (i : ℕ) → value_at i a.came ≡ cond (was_read i a) None (value_at i all)
  pub count : (i : ℕ) → times i bytes ≡ cond (was_read i a) 1 0

-- ---- bytes come

-- one that was read is passed over
keep_read : (o b : ℕ) (all bytes : List (ℕ × ℕ)) (a : Assembly) → was_read o a ≡ true → Keeping all bytes a → Keeping (put o b all) bytes a
keep_read o b all bytes a is h = record {
  ascends = h.ascends;
  waits = λ i. h.waits i ∙ at i;
  count = h.count;
}
  where
    past : (t : Bool) (p q : Option ℕ) → t ≡ true → cond t None p ≡ cond t None q
    past true p q e = refl
    past false p q e = absurd (cc)

    at : (i : ℕ) → cond (was_read i a) None (value_at i all) ≡ cond (was_read i a) None (value_at i (put o b all))
    at i = elim (cases_eq o i) [
      | inl e ↦ past (was_read i a) (value_at i all) (value_at i (put o b all)) (ap (λ (j : ℕ). was_read j a) (sym e) ∙ is)
      | inr other ↦ ap (λ (p : Option ℕ). cond (was_read i a) None p) (sym (value_other o b i all other))
    ]

-- another waits, unless one came there before
keep_put : (o b : ℕ) (all bytes : List (ℕ × ℕ)) (a : Assembly) → was_read o a ≡ false → Ascends 0 all → Keeping all bytes a
    → Keeping (put o b all) bytes (record a { came = put o b a.came })
unfolding was_read
keep_put o b all bytes a is up h = record {
  ascends = ascends_put 0 o b a.came (omega arith) h.ascends;
  waits = at;
  count = h.count;
}
  where
    open_at : (t : Bool) (p : Option ℕ) → t ≡ false → cond t None p ≡ p
    open_at true p e = absurd (cc)
    open_at false p e = refl

    here : value_at o (put o b a.came) ≡ cond (was_read o a) None (value_at o (put o b all))
    here =
        value_put 0 o b a.came h.ascends
        ∙ ap (λ (q : Option ℕ). let p : Option ℕ = Some (unwrap_or q b) in p) (h.waits o ∙ open_at (was_read o a) (value_at o all) is)
        ∙ sym (value_put 0 o b all up) ∙ sym (open_at (was_read o a) (value_at o (put o b all)) is)

    at : (i : ℕ) → value_at i (put o b a.came) ≡ cond (was_read i a) None (value_at i (put o b all))
    at i = elim (cases_eq o i) [
      | inl e ↦ subst (λ (j : ℕ). value_at j (put o b a.came) ≡ cond (was_read j a) None (value_at j (put o b all))) e here
      | inr other ↦ value_other o b i a.came other ∙ h.waits i ∙ ap (λ (p : Option ℕ). cond (was_read i a) None p) (sym (value_other o b i all other))
    ]

keep_byte : (o b : ℕ) (all bytes : List (ℕ × ℕ)) (a : Assembly) → Ascends 0 all → Keeping all bytes a → Keeping (put o b all) bytes (byte_came o b a)
unfolding byte_came
keep_byte o b all bytes a up h = by (was_read o a) refl
  where
    by : (t : Bool) → was_read o a ≡ t → Keeping (put o b all) bytes (cond t a (record a { came = put o b a.came }))
    by true is = keep_read o b all bytes a is h
    by false is = keep_put o b all bytes a is up h

keep_bytes : (o : ℕ) (bs : List ℕ) (all bytes : List (ℕ × ℕ)) (a : Assembly) → Ascends 0 all → Keeping all bytes a
    → Keeping (add o bs all) bytes (inserted o bs a)
unfolding add inserted
keep_bytes o [] all bytes a up h = h
keep_bytes o (b ∷ bs) all bytes a up h =
    keep_bytes (suc o) bs (put o b all) bytes (byte_came o b a) (ascends_put 0 o b all (omega arith) up) (keep_byte o b all bytes a up h)

-- ---- a read gives bytes

-- none of them was read before
fresh_within : (o i : ℕ) (bs : List ℕ) (w all bytes : List (ℕ × ℕ)) (a : Assembly) → a.came ≡ run o bs ++ w → Keeping all bytes a
    → within o (length bs) i ≡ true → was_read i a ≡ false
fresh_within o i bs w all bytes a first h is = by (was_read i a) (ap (λ (v : List (ℕ × ℕ)). value_at i v) (sym first) ∙ h.waits i)
  where
    by : (t : Bool) → value_at i (run o bs ++ w) ≡ cond t None (value_at i all) → t ≡ false
    by true none = absurd (value_within o i bs w is none)
    by false waits = refl

-- they are among those that came
pub chunk_found : (o : ℕ) (bs : List ℕ) (w all bytes : List (ℕ × ℕ)) (a : Assembly) → a.came ≡ run o bs ++ w → Keeping all bytes a → AreFound all (run o bs)
chunk_found o bs w all bytes a first h =
    found_run o bs w all (λ i c low is.
    by i c (was_read i a) (sym (h.waits i) ∙ ap (λ (v : List (ℕ × ℕ)). value_at i v) first ∙ is))
  where
    by : (i c : ℕ) (t : Bool) → cond t None (value_at i all) ≡ Some c → value_at i all ≡ Some c
    by i c true is = absurd (cc)
    by i c false is = is

-- what it leaves
chunk_keeps : (o : ℕ) (bs : List ℕ) (all bytes : List (ℕ × ℕ)) (a then : Assembly) → a.came ≡ run o bs ++ then.came
    → ((i : ℕ) → was_read i then ≡ (was_read i a || within o (length bs) i)) → Keeping all bytes a → Keeping all (bytes ++ run o bs) then
chunk_keeps o bs all bytes a then first reads h = record {
  ascends = ascends_rest 0 o bs then.came row;
  waits = λ i.
      value_rest 0 o i bs then.came row
      ∙ ap (λ (v : List (ℕ × ℕ)). cond (within o (length bs) i) None (value_at i v)) (sym first)
      ∙ ap (λ (p : Option ℕ). cond (within o (length bs) i) None p) (h.waits i)
      ∙ either (was_read i a) (within o (length bs) i) (value_at i all)
      ∙ ap (λ (t : Bool). cond t None (value_at i all)) (sym (reads i));
  count = λ i.
      sum_by-append (λ (e : ℕ × ℕ). cond (e.0 == i) 1 0) bytes (run o bs)
      ∙ sums (was_read i a) (within o (length bs) i) (times i bytes) (times i (run o bs)) (h.count i) (times_run o i bs)
      (fresh_within o i bs then.came all bytes a first h)
      ∙ ap (λ (t : Bool). cond t 1 0) (sym (reads i));
}
  where
    row : Ascends 0 (run o bs ++ then.came)
    row = subst (λ (v : List (ℕ × ℕ)). Ascends 0 v) first h.ascends

    either : (t u : Bool) (p : Option ℕ) → cond u None (cond t None p) ≡ cond (t || u) None p
    either true true p = refl
    either true false p = refl
    either false true p = refl
    either false false p = refl

    sums : (t u : Bool) (m n : ℕ) → m ≡ cond t 1 0 → n ≡ cond u 1 0 → (u ≡ true → t ≡ false) → m + n ≡ cond (t || u) 1 0
    sums true true m n x y apart = let never = apart refl in absurd (cc)
    sums true false m n x y apart = omega (arith, x, y)
    sums false true m n x y apart = omega (arith, x, y)
    sums false false m n x y apart = omega (arith, x, y)

-- ---- a receiving side

-- it holds of a side while that may give more
abbrev pub WhileLive : List (ℕ × ℕ) → List (ℕ × ℕ) → Recv → Type 0
WhileLive all bytes r = is_live r ≡ true → Keeping all bytes r.assembler

-- nothing came on a fresh side
pub fresh_keeps : (window : ℕ) → Keeping [] [] (new_receiving window).assembler
unfolding new_receiving nothing was_read among
fresh_keeps window = record {
  ascends = ascends_none 0;
  waits = λ i. none (nat_lt i 0 || false) None refl;
  count = λ i. ap (λ (t : Bool). cond (t || false) 1 0) (sym (le-ltb i 0 (omega arith)));
}
  where
    none : (t : Bool) (p : Option ℕ) → p ≡ None → p ≡ cond t None p
    none true p is = is
    none false p is = refl

-- a frame comes
taken_keeps : (o : ℕ) (bs : List ℕ) (last : Bool) (all bytes : List (ℕ × ℕ)) (r : Recv) → is_live r ≡ true → Ascends 0 all
    → Keeping all bytes r.assembler → Keeping (add o bs all) bytes (stream_taken o bs last r).assembler
unfolding stream_taken bytes_taken end_taken
taken_keeps o bs last all bytes r live up h =
    by (is_ended r || is_some r.reset) (keeps r) (live_taken r live).1 (and_parts (keeps r) (not r.told) live).0
  where
    by : (b c : Bool) → b ≡ false → c ≡ true
        → Keeping (add o bs all) bytes (cond b r (end_taken (o + length bs) last (cond c (record r { assembler = inserted o bs r.assembler }) r))).assembler
    by true c x y = absurd (cc)
    by false false x y = absurd (cc)
    by false true x y = keep_bytes o bs all bytes r.assembler up h

-- a read gives a chunk
pub given_keeps : (most : ℕ) (ordered : Bool) (c : Chunk) (all bytes : List (ℕ × ℕ)) (r : Recv) → GivesChunk most (opened ordered r) c
    → Keeping all bytes r.assembler → Keeping all (bytes ++ run c.offset c.bytes) (chunk_given c.offset (length c.bytes) (opened ordered r)).assembler
unfolding chunk_given given opened taken advanced
given_keeps most ordered c all bytes r gives h = by (r.unordered || not ordered) gives.place
  where
    by : (b : Bool) → (b ≡ false → c.offset ≡ r.assembler.read)
        → Keeping all (bytes ++ run c.offset c.bytes) (cond b (taken c.offset (length c.bytes) r.assembler) (advanced (length c.bytes) r.assembler))
    by true place =
        chunk_keeps c.offset c.bytes all bytes r.assembler (taken c.offset (length c.bytes) r.assembler) gives.first
        (λ i. read_taken i c.offset (length c.bytes) r.assembler) h
    by false place =
        chunk_keeps c.offset c.bytes all bytes r.assembler (advanced (length c.bytes) r.assembler) gives.first
        (λ i. read_advanced i (length c.bytes) r.assembler
        ∙ ap (λ (o : ℕ). was_read i r.assembler || within o (length c.bytes) i) (sym (place refl)))
        h

-- ---- each step

if_side : (b : Bool) (all bytes : List (ℕ × ℕ)) (q r : Recv) → WhileLive all bytes q → WhileLive all bytes r → WhileLive all bytes (cond b q r)
if_side true all bytes q r then before = then
if_side false all bytes q r then before = before

told_side : (all bytes : List (ℕ × ℕ)) (r : Recv) → r.told ≡ true → WhileLive all bytes r
told_side all bytes r told is = absurd (not_told r told is)

reset_side : (all bytes : List (ℕ × ℕ)) (r : Recv) → is_some r.reset ≡ true → WhileLive all bytes r
reset_side all bytes r reset is = absurd (not_reset r reset is)

stopped_side : (all bytes : List (ℕ × ℕ)) (r : Recv) → is_some r.stopped ≡ true → WhileLive all bytes r
stopped_side all bytes r stopped is = absurd (not_stopped r stopped is)

began_side : (ordered : Bool) (all bytes : List (ℕ × ℕ)) (r : Recv) → WhileLive all bytes r → WhileLive all bytes (opened ordered r)
unfolding opened keeps
began_side ordered all bytes r before = before

asked_side : (all bytes : List (ℕ × ℕ)) (r : Recv) → WhileLive all bytes r → WhileLive all bytes (reset_asked r)
unfolding reset_asked end_told
asked_side all bytes r before = if_side (is_some r.reset) all bytes (end_told r) r (told_side all bytes (end_told r) refl) before

reset_came_side : (code : VarInt) (size : ℕ) (all bytes : List (ℕ × ℕ)) (r : Recv) → WhileLive all bytes r → WhileLive all bytes (reset_taken code size r)
unfolding reset_taken end_taken
reset_came_side code size all bytes r before = if_side (is_ended r || is_some r.reset) all bytes r _ before (reset_side all bytes _ refl)

stream_side : (b : Bool) (o : ℕ) (bs : List ℕ) (last : Bool) (all bytes : List (ℕ × ℕ)) (r : Recv) → Ascends 0 all → WhileLive all bytes r
    → WhileLive (cond b (add o bs all) all) bytes (cond b (stream_taken o bs last r) r)
stream_side true o bs last all bytes r up before is =
    let live : is_live r ≡ true = sym (live_same o bs last r) ∙ is in
    taken_keeps o bs last all bytes r live up (before live)
stream_side false o bs last all bytes r up before is = before is

chunk_side : (b ordered : Bool) (c : Chunk) (all bytes : List (ℕ × ℕ)) (r : Recv) → (b ≡ true → (most : ℕ) × IsRead most ordered r (Ok (Some c)))
    → WhileLive all bytes r
    → WhileLive all (cond b (bytes ++ run c.offset c.bytes) bytes) (cond b (chunk_given c.offset (length c.bytes) (opened ordered r)) r)
unfolding IsRead
chunk_side true ordered c all bytes r fine before is =
    let answer = fine refl in
    given_keeps answer.0 ordered c all bytes r answer.1.2 (before (open_live ordered r answer.1.0 answer.1.1))
chunk_side false ordered c all bytes r fine before is = before is

-- what a step leaves of a side
pub side_once : (id : ℕ) (x : Step) (all bytes : List (ℕ × ℕ)) (r : Recv) → IsFine id x r → keeps_streams x ≡ true → Ascends 0 all → WhileLive all bytes r
    → WhileLive (with_came id x all) (with_given id x bytes) (came_to id x r)
unfolding came_to with_came with_given keeps_streams end_told stop_asked credit_lost credit_sealed stop_lost stop_sealed keeps
side_once id EarlyRefused all bytes r fine keeps up before = absurd (cc)
side_once id (StreamCame j o bs last) all bytes r fine keeps up before = stream_side (j == id) o bs last all bytes r up before
side_once id (Began ordered j) all bytes r fine keeps up before =
    if_side (j == id) all bytes (opened ordered r) r (began_side ordered all bytes r before) before
side_once id (Read ordered (Ok (Some c)) j) all bytes r fine keeps up before = chunk_side (j == id) ordered c all bytes r fine before
side_once id (Read ordered (Ok None) j) all bytes r fine keeps up before =
    if_side (j == id) all bytes (end_told (opened ordered r)) r (told_side all bytes (end_told (opened ordered r)) refl) before
side_once id (Read ordered (Err (Reset code)) j) all bytes r fine keeps up before =
    if_side (j == id) all bytes (end_told (opened ordered r)) r (told_side all bytes (end_told (opened ordered r)) refl) before
side_once id (Read ordered (Err Blocked) j) all bytes r fine keeps up before =
    if_side (j == id) all bytes (opened ordered r) r (began_side ordered all bytes r before) before
side_once id (Read ordered (Err OutOfMemory) j) all bytes r fine keeps up before =
    if_side (j == id) all bytes (opened ordered r) r (began_side ordered all bytes r before) before
side_once id (Read ordered (Err ClosedStream) j) all bytes r fine keeps up before = if_side (j == id) all bytes r r before before
side_once id (Read ordered (Err IllegalOrderedRead) j) all bytes r fine keeps up before = if_side (j == id) all bytes r r before before
side_once id (Stopped code j) all bytes r fine keeps up before =
    if_side (j == id) all bytes (stop_asked code r) r (stopped_side all bytes (stop_asked code r) refl) before
side_once id (ResetAsked j) all bytes r fine keeps up before = if_side (j == id) all bytes (reset_asked r) r (asked_side all bytes r before) before
side_once id (ResetCame j code size) all bytes r fine keeps up before =
    if_side (j == id) all bytes (reset_taken code size r) r (reset_came_side code size all bytes r before) before
side_once id (ControlSealed (Stop j code)) all bytes r fine keeps up before = if_side (j == id) all bytes (stop_sealed r) r before before
side_once id (ControlSealed (MaxStreamData j limit)) all bytes r fine keeps up before = if_side (j == id) all bytes (credit_sealed r) r before before
side_once id (ControlLost (Stop j code)) all bytes r fine keeps up before = if_side (j == id) all bytes (stop_lost r) r before before
side_once id (ControlLost (MaxStreamData j limit)) all bytes r fine keeps up before = if_side (j == id) all bytes (credit_lost r) r before before
side_once id x all bytes r fine keeps up before = before

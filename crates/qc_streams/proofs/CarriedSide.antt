-- What was read of a stream in order are the first of the bytes that came on it: what each step leaves of that on a receiving side
use Rattle.std.proofs.Common.{◌≡◌, ◌∙◌, ℕ, ◌+◌, ◌^◌, ◌<◌, ◌==◌, Bool, true, false, cond, not, ◌||◌, List, ◌++◌, length, None, Some, is_some, Ok, Err, ap, sym, refl}
use Rattle.std.proofs.lemmas.Bool.{or_from}
use Rattle.qc_assembler.specs.Assembly.{add}
use Rattle.qc_base.specs.declared.varint.VarInt.{VarInt}
use Rattle.qc_recv.specs.declared.recv.Chunk.{Chunk}
use Rattle.qc_recv.specs.declared.recv.Recv.{Recv}
use Rattle.qc_recv.specs.Owed.{credit_lost, credit_sealed, stop_lost, stop_sealed}
use Rattle.qc_recv.specs.Receiving.{chunk_given, end_taken, end_told, is_ended, keeps, opened, reset_asked, reset_taken, stop_asked, stream_taken}
use Rattle.qc_streams.specs.declared.control.Control.TheVariants.{Stop, MaxStreamData}
use Rattle.qc_streams.specs.declared.fault.ReadFault.TheVariants.{ClosedStream, IllegalOrderedRead, Reset, Blocked, OutOfMemory}
use Rattle.qc_streams.specs.Calls.{IsRead}
use Rattle.qc_streams.specs.Carried.{keeps_order, keeps_streams, with_came, with_read}
use Rattle.qc_streams.specs.Waits.{Step, EarlyRefused, Began, Read, Stopped, ResetAsked, StreamCame, ResetCame, ControlSealed, ControlLost}
use Rattle.qc_streams.proofs.CarriedCame.{SideHolds, chunk_holds, is_live, live_same, live_taken, not_reset, not_stopped, not_told, open_live, taken_holds}
use Rattle.qc_streams.proofs.StepAt.{came_to}

-- where a step changes a side, it must be one that can be taken there
abbrev pub IsFine : ℕ → Step → Recv → Type 0
IsFine id (StreamCame j o bs last) r = (j == id) ≡ true → is_ended r ≡ false → o + length bs < 2 ^ 62
IsFine id (Read ordered (Ok (Some c)) j) r = (j == id) ≡ true → (most : ℕ) × IsRead most ordered r (Ok (Some c))
IsFine id x r = Unit {0}

-- it holds of a side while that is live
abbrev pub WhileLive : List (ℕ × ℕ) → List ℕ → Recv → Type 0
WhileLive all read r = is_live r ≡ true → SideHolds all read r

if_side : (b : Bool) (all : List (ℕ × ℕ)) (read : List ℕ) (q r : Recv) → (b ≡ true → WhileLive all read q) → WhileLive all read r
    → WhileLive all read (cond b q r)
if_side true all read q r then before is = then refl is
if_side false all read q r then before is = before is

began_side : (ordered : Bool) (all : List (ℕ × ℕ)) (read : List ℕ) (r : Recv) → ordered ≡ true → WhileLive all read r → WhileLive all read (opened ordered r)
unfolding opened keeps
began_side ordered all read r so before is =
    let h = before is in record {
      rest = h.rest;
      all = h.all;
      kept = h.kept;
      count = h.count;
      order = or_from r.unordered (not ordered) h.order (ap not so);
      below = h.below;
      few = h.few;
    }

told_side : (all : List (ℕ × ℕ)) (read : List ℕ) (r : Recv) → r.told ≡ true → WhileLive all read r
told_side all read r told is = absurd (not_told r told is)

reset_side : (all : List (ℕ × ℕ)) (read : List ℕ) (r : Recv) → is_some r.reset ≡ true → WhileLive all read r
reset_side all read r reset is = absurd (not_reset r reset is)

stopped_side : (all : List (ℕ × ℕ)) (read : List ℕ) (r : Recv) → is_some r.stopped ≡ true → WhileLive all read r
stopped_side all read r stopped is = absurd (not_stopped r stopped is)

asked_side : (all : List (ℕ × ℕ)) (read : List ℕ) (r : Recv) → WhileLive all read r → WhileLive all read (reset_asked r)
unfolding reset_asked end_told
asked_side all read r before = if_side (is_some r.reset) all read (end_told r) r (λ b. told_side all read (end_told r) refl) before

reset_came_side : (code : VarInt) (size : ℕ) (all : List (ℕ × ℕ)) (read : List ℕ) (r : Recv) → WhileLive all read r
    → WhileLive all read (reset_taken code size r)
unfolding reset_taken end_taken
reset_came_side code size all read r before =
    if_side (is_ended r || is_some r.reset) all read r _ (λ b. before) (reset_side all read _ refl)

stream_side : (b : Bool) (o : ℕ) (bs : List ℕ) (last : Bool) (all : List (ℕ × ℕ)) (read : List ℕ) (r : Recv)
    → (b ≡ true → is_ended r ≡ false → o + length bs < 2 ^ 62) → WhileLive all read r
    → WhileLive (cond b (add o bs all) all) read (cond b (stream_taken o bs last r) r)
stream_side true o bs last all read r fine before is =
    let live : is_live r ≡ true = sym (live_same o bs last r) ∙ is in
    taken_holds o bs last all read r live (fine refl (live_taken r live).0) (before live)
stream_side false o bs last all read r fine before is = before is

chunk_side : (b ordered : Bool) (c : Chunk) (all : List (ℕ × ℕ)) (read : List ℕ) (r : Recv) → (b ≡ true → (most : ℕ) × IsRead most ordered r (Ok (Some c)))
    → (not b || ordered) ≡ true → WhileLive all read r
    → WhileLive all (cond b (read ++ c.bytes) read) (cond b (chunk_given c.offset (length c.bytes) (opened ordered r)) r)
unfolding IsRead
chunk_side true true c all read r fine order before is =
    let answer = fine refl in
    chunk_holds answer.0 c all read r (before (open_live true r answer.1.0 answer.1.1)) answer.1.2
chunk_side true false c all read r fine order before is = absurd (cc)
chunk_side false ordered c all read r fine order before is = before is

in_order_where : (b ordered : Bool) → (not b || ordered) ≡ true → b ≡ true → ordered ≡ true
in_order_where true ordered order is = order
in_order_where false ordered order is = absurd (cc)

-- what a step leaves of a side
pub side_ok : (id : ℕ) (x : Step) (all : List (ℕ × ℕ)) (read : List ℕ) (r : Recv) → IsFine id x r → keeps_order id x ≡ true → keeps_streams x ≡ true
    → WhileLive all read r → WhileLive (with_came id x all) (with_read id x read) (came_to id x r)
unfolding came_to with_came with_read keeps_order keeps_streams end_told stop_asked credit_lost credit_sealed stop_lost stop_sealed keeps
side_ok id EarlyRefused all read r fine order keeps before = absurd (cc)
side_ok id (StreamCame j o bs last) all read r fine order keeps before = stream_side (j == id) o bs last all read r fine before
side_ok id (Began ordered j) all read r fine order keeps before =
    if_side (j == id) all read (opened ordered r) r (λ b. began_side ordered all read r (in_order_where (j == id) ordered order b) before) before
side_ok id (Read ordered (Ok (Some c)) j) all read r fine order keeps before = chunk_side (j == id) ordered c all read r fine order before
side_ok id (Read ordered (Ok None) j) all read r fine order keeps before =
    if_side (j == id) all read (end_told (opened ordered r)) r (λ b. told_side all read (end_told (opened ordered r)) refl) before
side_ok id (Read ordered (Err (Reset code)) j) all read r fine order keeps before =
    if_side (j == id) all read (end_told (opened ordered r)) r (λ b. told_side all read (end_told (opened ordered r)) refl) before
side_ok id (Read ordered (Err Blocked) j) all read r fine order keeps before =
    if_side (j == id) all read (opened ordered r) r (λ b. began_side ordered all read r (in_order_where (j == id) ordered order b) before) before
side_ok id (Read ordered (Err OutOfMemory) j) all read r fine order keeps before =
    if_side (j == id) all read (opened ordered r) r (λ b. began_side ordered all read r (in_order_where (j == id) ordered order b) before) before
side_ok id (Read ordered (Err ClosedStream) j) all read r fine order keeps before = if_side (j == id) all read r r (λ b. before) before
side_ok id (Read ordered (Err IllegalOrderedRead) j) all read r fine order keeps before = if_side (j == id) all read r r (λ b. before) before
side_ok id (Stopped code j) all read r fine order keeps before =
    if_side (j == id) all read (stop_asked code r) r (λ b. stopped_side all read (stop_asked code r) refl) before
side_ok id (ResetAsked j) all read r fine order keeps before = if_side (j == id) all read (reset_asked r) r (λ b. asked_side all read r before) before
side_ok id (ResetCame j code size) all read r fine order keeps before =
    if_side (j == id) all read (reset_taken code size r) r (λ b. reset_came_side code size all read r before) before
side_ok id (ControlSealed (Stop j code)) all read r fine order keeps before = if_side (j == id) all read (stop_sealed r) r (λ b. before) before
side_ok id (ControlSealed (MaxStreamData j limit)) all read r fine order keeps before = if_side (j == id) all read (credit_sealed r) r (λ b. before) before
side_ok id (ControlLost (Stop j code)) all read r fine order keeps before = if_side (j == id) all read (stop_lost r) r (λ b. before) before
side_ok id (ControlLost (MaxStreamData j limit)) all read r fine order keeps before = if_side (j == id) all read (credit_lost r) r (λ b. before) before
side_ok id x all read r fine order keeps before = before

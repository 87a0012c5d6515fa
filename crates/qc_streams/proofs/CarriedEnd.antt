-- Whatever happens, once the end of a stream was told, nothing more is told of it
use Rattle.std.proofs.Common.{◌≡◌, ◌∙◌, ℕ, ◌==◌, Bool, true, false, cond, ◌&&◌, ◌||◌, List, [], ◌∷◌, Option, None, Some, is_some, Result, Ok, Err, ap, sym, subst, arith, refl}
use Rattle.std.specs.List.{list_all}
use Rattle.std.specs.Option.{option_map}
use Rattle.std.proofs.lemmas.Bool.{and_parts, false≢true}
use Rattle.std.proofs.lemmas.Bool.Decides.{nat_tests}
use Rattle.qc_base.specs.declared.side.Side.{Side}
use Rattle.qc_base.specs.declared.varint.VarInt.{VarInt}
use Rattle.qc_recv.specs.declared.fault.ReadableError.TheVariants.{ClosedStream as SideClosed, IllegalOrderedRead as SideUnordered}
use Rattle.qc_recv.specs.declared.recv.Chunk.{Chunk}
use Rattle.qc_recv.specs.declared.recv.Recv.{Recv}
use Rattle.qc_recv.specs.Owed.{credit_lost, credit_sealed, stop_lost, stop_sealed}
use Rattle.qc_recv.specs.Receiving.{bytes_taken, chunk_given, end_taken, end_told, given, is_closed, is_ended, keeps, opened, read_refusal, reset_asked, reset_taken, stop_asked, stream_taken}
use Rattle.qc_streams.specs.declared.control.Control.TheVariants.{Stop, MaxStreamData}
use Rattle.qc_streams.specs.declared.fault.ReadFault.{ReadFault}
use Rattle.qc_streams.specs.declared.fault.ReadFault.TheVariants.{ClosedStream, IllegalOrderedRead, Reset, Blocked, OutOfMemory}
use Rattle.qc_streams.specs.declared.state.StreamsState.{StreamsState}
use Rattle.qc_streams.specs.declared.stream.Stream.{Stream}
use Rattle.qc_streams.specs.Calls.{after_read, IsRead, IsReadOf, receiving_at, receiving_of}
use Rattle.qc_streams.specs.Carried.{EndIsToldOnce, TellsNothing, keeps_streams}
use Rattle.qc_streams.specs.Records.{record_of}
use Rattle.qc_streams.specs.Streams.{new_streams}
use Rattle.qc_streams.specs.Waits.{ArePossible, IsPossible, Step, Began, Read, Stopped, ResetAsked, StreamCame, ResetCame, ControlSealed, ControlLost, after, after_step}
use Rattle.qc_streams.proofs.CarriedTaken.{HasOpened}
use Rattle.qc_streams.proofs.StepAt.{ComesFrom, Stood, OwnOpened, PeerOpened, SteppedAt, Gone, There, Steps, StaysOpened, came_to}
use Rattle.qc_streams.proofs.WaitLaw.{after_ok, nothing, step_ok}
use Rattle.qc_streams.proofs.WaitSteps.{Holds}

-- ---- a side that was told its end stays so

if_told : (b : Bool) (q r : Recv) → q.told ≡ true → r.told ≡ true → (cond b q r).told ≡ true
if_told true q r then is = then
if_told false q r then is = is

stream_told : (o : ℕ) (bs : List ℕ) (last : Bool) (r : Recv) → r.told ≡ true → (stream_taken o bs last r).told ≡ true
unfolding stream_taken end_taken bytes_taken
stream_told o bs last r is = if_told (is_ended r || is_some r.reset) r _ is (if_told (keeps r) _ r is is)

reset_told : (code : VarInt) (size : ℕ) (r : Recv) → r.told ≡ true → (reset_taken code size r).told ≡ true
unfolding reset_taken end_taken
reset_told code size r is = if_told (is_ended r || is_some r.reset) r _ is is

asked_told : (r : Recv) → r.told ≡ true → (reset_asked r).told ≡ true
unfolding reset_asked end_told
asked_told r is = if_told (is_some r.reset) (end_told r) r refl is

read_told : (ordered : Bool) (result : Result (Option Chunk) ReadFault) (r : Recv) → r.told ≡ true → (after_read ordered result r).told ≡ true
unfolding chunk_given given opened end_told
read_told ordered (Ok (Some c)) r is = is
read_told ordered (Ok None) r is = refl
read_told ordered (Err (Reset code)) r is = refl
read_told ordered (Err Blocked) r is = is
read_told ordered (Err OutOfMemory) r is = is
read_told ordered (Err ClosedStream) r is = is
read_told ordered (Err IllegalOrderedRead) r is = is

told_to : (id : ℕ) (x : Step) (r : Recv) → r.told ≡ true → (came_to id x r).told ≡ true
unfolding came_to opened stop_asked credit_lost credit_sealed stop_lost stop_sealed
told_to id (Began ordered j) r is = if_told (j == id) (opened ordered r) r is is
told_to id (Read ordered result j) r is = if_told (j == id) (after_read ordered result r) r (read_told ordered result r is) is
told_to id (Stopped code j) r is = if_told (j == id) (stop_asked code r) r is is
told_to id (ResetAsked j) r is = if_told (j == id) (reset_asked r) r (asked_told r is) is
told_to id (StreamCame j o bs last) r is = if_told (j == id) (stream_taken o bs last r) r (stream_told o bs last r is) is
told_to id (ResetCame j code size) r is = if_told (j == id) (reset_taken code size r) r (reset_told code size r is) is
told_to id (ControlSealed (Stop j code)) r is = if_told (j == id) (stop_sealed r) r is is
told_to id (ControlSealed (MaxStreamData j limit)) r is = if_told (j == id) (credit_sealed r) r is is
told_to id (ControlLost (Stop j code)) r is = if_told (j == id) (stop_lost r) r is is
told_to id (ControlLost (MaxStreamData j limit)) r is = if_told (j == id) (credit_lost r) r is is
told_to id x r is = is

-- ---- and so does a stream

-- its end was told, where it has a receiving side
abbrev IsTold : Option Recv → Type 0
IsTold None = Unit {0}
IsTold (Some r) = r.told ≡ true

-- the stream with an id was opened, and its end was told or it is gone
record Told (id : ℕ) (s : StreamsState) : Type 0 where
  opened : HasOpened id s
  told : IsTold (receiving_at id s)

side_told : (id : ℕ) (x : Step) (p : Option Recv) → IsTold p → IsTold (option_map (came_to id x) p)
side_told id x None is = tt
side_told id x (Some r) is = told_to id x r is

told_then : (id : ℕ) (x : Step) (s : StreamsState) → HasOpened id s → SteppedAt id x s
    → ((st : Stream) → record_of id s.records ≡ Some st → IsTold (option_map (came_to id x) st.receiving)) → IsTold (receiving_at id (after_step x s))
unfolding receiving_at
told_then id x s opened (Gone gone why) tells = subst (λ (o : Option Stream). IsTold (receiving_of o)) (sym gone) tt
told_then id x s opened (There st then from stepped there) tells =
    subst (λ (o : Option Stream). IsTold (receiving_of o)) (sym there) (subst (λ (p : Option Recv). IsTold p) (sym stepped.receiving) (by from))
  where
    by : ComesFrom id s st → IsTold (option_map (came_to id x) st.receiving)
    by (Stood is) = tells st is
    by (OwnOpened dir is before) = absurd (false≢true (sym before ∙ opened))
    by (PeerOpened dir is before) = absurd (false≢true (sym before ∙ opened))

-- a stream whose end is told was opened
read_opened : (id most : ℕ) (ordered : Bool) (s : StreamsState) → Holds s → IsReadOf most ordered (receiving_at id s) (Ok None) → HasOpened id s
unfolding receiving_at IsReadOf
read_opened id most ordered s h answer = by (record_of id s.records) refl answer
  where
    by : (o : Option Stream) → record_of id s.records ≡ o → IsReadOf most ordered (receiving_of o) (Ok None) → HasOpened id s
    by None is answer = absurd (cc)
    by (Some st) is answer = h.known id (ap (λ (o : Option Stream). is_some o) is)

same_self : (id : ℕ) → (id == id) ≡ true
same_self id = grind (arith, nat_tests)

-- its end is told then
told_there : (id : ℕ) (ordered : Bool) (p : Option Recv) → IsTold (option_map (came_to id (Read ordered (Ok None) id)) p)
unfolding came_to end_told
told_there id ordered None = tt
told_there id ordered (Some r) = ap (λ (b : Bool). (cond b (end_told (opened ordered r)) r).told) (same_self id)

-- ---- nothing more is told

told_refusal : (later : Bool) (r : Recv) → r.told ≡ true → read_refusal later r ≡ Some SideClosed
unfolding read_refusal is_closed
told_refusal later r is = by r.told is
  where
    by : (b : Bool) → b ≡ true → cond (b || is_some r.stopped) (Some SideClosed) (cond (later && r.unordered) (Some SideUnordered) None) ≡ Some SideClosed
    by true is = refl
    by false is = absurd (cc)

tells_nothing : (again : ℕ) (later : Bool) (r : Recv) (result : Result (Option Chunk) ReadFault) → read_refusal later r ≡ Some SideClosed
    → IsRead again later r result → TellsNothing result
unfolding IsRead TellsNothing
tells_nothing again later r (Ok (Some c)) is answer = let refusal = answer.0 in cc
tells_nothing again later r (Ok None) is answer = let refusal = answer.0 in cc
tells_nothing again later r (Err (Reset code)) is answer = let refusal = answer.0 in cc
tells_nothing again later r (Err Blocked) is answer = let refusal = answer.0 in cc
tells_nothing again later r (Err ClosedStream) is answer = tt
tells_nothing again later r (Err IllegalOrderedRead) is answer = cc
tells_nothing again later r (Err OutOfMemory) is answer = tt

nothing_told : (again : ℕ) (later : Bool) (p : Option Recv) (result : Result (Option Chunk) ReadFault) → IsTold p → IsReadOf again later p result
    → TellsNothing result
unfolding IsReadOf TellsNothing
nothing_told again later None result is answer = subst (λ (t : Result (Option Chunk) ReadFault). TellsNothing t) (sym answer) tt
nothing_told again later (Some r) result is answer = tells_nothing again later r result (told_refusal later r is) answer

-- ---- all steps

module _ (steps : Steps) (stays : StaysOpened) where
  told_step : (id : ℕ) (x : Step) (s : StreamsState) → IsPossible x → keeps_streams x ≡ true → Holds s → Told id s → Told id (after_step x s)
  unfolding receiving_at
  told_step id x s can keeps h t = record {
    opened = stays id x s can keeps t.opened;
    told = told_then id x s t.opened (steps id x s can h)
        (λ st is. side_told id x st.receiving (subst (λ (o : Option Stream). IsTold (receiving_of o)) is t.told));
  }

  told_steps : (id : ℕ) (ys : List Step) (s : StreamsState) → ArePossible ys → list_all keeps_streams ys ≡ true → Holds s → Told id s → Told id (after ys s)
  unfolding ArePossible after
  told_steps id [] s can keeps h t = t
  told_steps id (y ∷ ys) s can keeps h t =
      let both = and_parts (keeps_streams y) (list_all keeps_streams ys) keeps in
      told_steps id ys (after_step y s) can.1 both.1 (step_ok y s can.0 h) (told_step id y s can.0 both.0 h t)

  told_first : (id most : ℕ) (ordered : Bool) (s : StreamsState) → Holds s → IsReadOf most ordered (receiving_at id s) (Ok None)
      → Told id (after_step (Read ordered (Ok None) id) s)
  unfolding IsPossible keeps_streams
  told_first id most ordered s h answer =
      let opened = read_opened id most ordered s h answer in record {
        opened = stays id (Read ordered (Ok None) id) s tt refl opened;
        told = told_then id (Read ordered (Ok None) id) s opened (steps id (Read ordered (Ok None) id) s tt h) (λ st is. told_there id ordered st.receiving);
      }

  -- Once the end of a stream was told, nothing more is told of it
  pub end_is_told_once : (side : Side) (uni bi window stream_window send_window : ℕ) (fair : Bool) (xs : List Step)
      → EndIsToldOnce (new_streams side uni bi window stream_window send_window fair) xs
  unfolding EndIsToldOnce new_streams IsPossible
  end_is_told_once side uni bi window stream_window send_window fair xs =
      λ can id most again ordered later ys first can_then keeps result answer.
      let s = after xs (new_streams side uni bi window stream_window send_window fair) in
      let h = after_ok xs (new_streams side uni bi window stream_window send_window fair) can (nothing _) in
      let t = told_steps id ys (after_step (Read ordered (Ok None) id) s) can_then keeps (step_ok (Read ordered (Ok None) id) s tt h)
      (told_first id most ordered s h first) in
      nothing_told again later _ result t.told answer

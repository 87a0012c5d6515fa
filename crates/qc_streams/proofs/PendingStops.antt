-- A STOP_SENDING waits only of a side that the application stopped, whatever happens
use Rattle.std.proofs.Common.{◌≡◌, ◌∙◌, ℕ, ◌+◌, ◌==◌, Bool, true, false, cond, ◌||◌, List, [], ◌∷◌, length, Option, None, Some, is_some, Ok, Err, sym, subst, refl}
use Rattle.std.specs.Option.{option_map}
use Rattle.std.proofs.lemmas.Bool.{false≢true}
use Rattle.qc_base.specs.declared.side.Dir.{Dir}
use Rattle.qc_base.specs.declared.side.Dir.TheVariants.{Bi, Uni}
use Rattle.qc_base.specs.declared.side.Side.{Side}
use Rattle.qc_base.specs.declared.varint.VarInt.{VarInt}
use Rattle.qc_recv.specs.declared.recv.Recv.{Recv}
use Rattle.qc_recv.specs.Owed.{credit_lost, credit_sealed, stop_lost, stop_sealed}
use Rattle.qc_recv.specs.Receiving.{bytes_taken, chunk_given, end_taken, end_told, given, is_ended, keeps, new_receiving, opened, reset_asked, reset_taken, stop_asked, stream_taken}
use Rattle.qc_streams.specs.declared.control.Control.TheVariants.{Stop, MaxStreamData}
use Rattle.qc_streams.specs.declared.fault.ReadFault.TheVariants.{ClosedStream, IllegalOrderedRead, Reset, Blocked, OutOfMemory}
use Rattle.qc_streams.specs.declared.state.StreamsState.{StreamsState}
use Rattle.qc_streams.specs.declared.stream.Stream.{Stream}
use Rattle.qc_streams.specs.Records.{record_of}
use Rattle.qc_streams.specs.Stream.{fresh_stream}
use Rattle.qc_streams.specs.Streams.{fresh_own, fresh_peer, new_streams}
use Rattle.qc_streams.specs.Waits.{ArePossible, Step, Began, Read, Stopped, ResetAsked, StreamCame, ResetCame, ControlSealed, ControlLost, MarksFiled, IsPossible, after, after_step}
use Rattle.qc_streams.proofs.StepAt.{ComesFrom, Stood, OwnOpened, PeerOpened, SteppedAt, Gone, There, came_to}
use Rattle.qc_streams.proofs.SteppedLaw.{steps}
use Rattle.qc_streams.proofs.WaitLaw.{after_ok, nothing, step_ok}
use Rattle.qc_streams.proofs.WaitSteps.{Holds}

-- a STOP_SENDING waits only of a side that was stopped
abbrev pub StopKnown : Recv → Type 0
StopKnown r = r.stop_waits ≡ true → is_some r.stopped ≡ true

-- the same, where there is such a side
abbrev pub KnownIf : Option Recv → Type 0
KnownIf None = Unit {0}
KnownIf (Some r) = StopKnown r

-- ---- what a step leaves of a side

known-if : (b : Bool) (q r : Recv) → StopKnown q → StopKnown r → StopKnown (cond b q r)
known-if true q r new old = new
known-if false q r new old = old

given_known : (n : ℕ) (r : Recv) → StopKnown r → StopKnown (given n r)
unfolding given
given_known n r h = h

read_known : (o n : ℕ) (r : Recv) → StopKnown r → StopKnown (chunk_given o n r)
unfolding chunk_given
read_known o n r h = given_known n _ h

bytes_known : (o : ℕ) (bs : List ℕ) (r : Recv) → StopKnown r → StopKnown (bytes_taken o bs r)
unfolding bytes_taken
bytes_known o bs r h = known-if (keeps r) _ r h h

end_known : (end : ℕ) (last : Bool) (r : Recv) → StopKnown r → StopKnown (end_taken end last r)
unfolding end_taken
end_known end last r h = h

stream_known : (o : ℕ) (bs : List ℕ) (last : Bool) (r : Recv) → StopKnown r → StopKnown (stream_taken o bs last r)
unfolding stream_taken
stream_known o bs last r h =
    known-if (is_ended r || is_some r.reset) r _ h (end_known (o + length bs) last (bytes_taken o bs r) (bytes_known o bs r h))

reset_known : (code : VarInt) (size : ℕ) (r : Recv) → StopKnown r → StopKnown (reset_taken code size r)
unfolding reset_taken
reset_known code size r h = known-if (is_ended r || is_some r.reset) r _ h (end_known size true _ h)

asked_known : (r : Recv) → StopKnown r → StopKnown (reset_asked r)
unfolding reset_asked end_told
asked_known r h = known-if (is_some r.reset) _ r h h

side_known : (id : ℕ) (x : Step) (r : Recv) → StopKnown r → StopKnown (came_to id x r)
unfolding came_to opened end_told stop_asked credit_lost credit_sealed stop_lost stop_sealed
side_known id (Began ordered j) r h = known-if (j == id) _ r h h
side_known id (Read ordered (Ok (Some c)) j) r h = known-if (j == id) _ r (read_known c.offset (length c.bytes) (opened ordered r) h) h
side_known id (Read ordered (Ok None) j) r h = known-if (j == id) _ r h h
side_known id (Read ordered (Err (Reset code)) j) r h = known-if (j == id) _ r h h
side_known id (Read ordered (Err Blocked) j) r h = known-if (j == id) _ r h h
side_known id (Read ordered (Err OutOfMemory) j) r h = known-if (j == id) _ r h h
side_known id (Read ordered (Err ClosedStream) j) r h = known-if (j == id) r r h h
side_known id (Read ordered (Err IllegalOrderedRead) j) r h = known-if (j == id) r r h h
side_known id (Stopped code j) r h = known-if (j == id) _ r (λ waits. refl) h
side_known id (ResetAsked j) r h = known-if (j == id) _ r (asked_known r h) h
side_known id (StreamCame j o bs last) r h = known-if (j == id) _ r (stream_known o bs last r h) h
side_known id (ResetCame j code size) r h = known-if (j == id) _ r (reset_known code size r h) h
side_known id (ControlSealed (Stop j code)) r h = known-if (j == id) _ r (λ waits. absurd (false≢true waits)) h
side_known id (ControlSealed (MaxStreamData j limit)) r h = known-if (j == id) _ r h h
side_known id (ControlLost (Stop j code)) r h = known-if (j == id) _ r (λ waits. waits) h
side_known id (ControlLost (MaxStreamData j limit)) r h = known-if (j == id) _ r h h
side_known id x r h = h

-- ---- and of all streams

-- that holds of each stream
abbrev pub StopsKnown : StreamsState → Type 0
StopsKnown s = (id : ℕ) (st : Stream) → record_of id s.records ≡ Some st → KnownIf st.receiving

side_then : (id : ℕ) (x : Step) (p : Option Recv) → KnownIf p → KnownIf (option_map (came_to id x) p)
side_then id x None h = tt
side_then id x (Some r) h = side_known id x r h

fresh_known : (window : ℕ) → StopKnown (new_receiving window)
unfolding new_receiving
fresh_known window waits = absurd (false≢true waits)

own_known : (dir : Dir) (s : StreamsState) → KnownIf (fresh_own dir s).receiving
unfolding fresh_stream
own_known Bi s = fresh_known s.stream_window
own_known Uni s = tt

peer_known : (dir : Dir) (s : StreamsState) → KnownIf (fresh_peer dir s).receiving
unfolding fresh_stream
peer_known Bi s = fresh_known s.stream_window
peer_known Uni s = fresh_known s.stream_window

from_known : (id : ℕ) (s : StreamsState) (st : Stream) → StopsKnown s → ComesFrom id s st → KnownIf st.receiving
from_known id s st h (Stood is) = h id st is
from_known id s st h (OwnOpened dir is before) = subst (λ (x : Stream). KnownIf x.receiving) (sym is) (own_known dir s)
from_known id s st h (PeerOpened dir is before) = subst (λ (x : Stream). KnownIf x.receiving) (sym is) (peer_known dir s)

same-stream : (a b : Stream) → Some a ≡ Some b → a ≡ b
same-stream a b is = cc

stepped_known : (id : ℕ) (x : Step) (s : StreamsState) → StopsKnown s → SteppedAt id x s → (st : Stream) → record_of id (after_step x s).records ≡ Some st → KnownIf st.receiving
stepped_known id x s h (Gone gone why) st is = let no : None ≡ Some st = sym gone ∙ is in absurd (cc)
stepped_known id x s h (There st then from stepped there) later is =
    subst (λ (y : Stream). KnownIf y.receiving) (same-stream then later (sym there ∙ is))
    (subst (λ (p : Option Recv). KnownIf p) (sym stepped.receiving) (side_then id x st.receiving (from_known id s st h from)))

pub step_known : (x : Step) (s : StreamsState) → IsPossible x → Holds s → StopsKnown s → StopsKnown (after_step x s)
step_known x s can holds h id st is = stepped_known id x s h (steps id x s can holds) st is

steps_known : (xs : List Step) (s : StreamsState) → ArePossible xs → Holds s → StopsKnown s → StopsKnown (after xs s)
unfolding ArePossible after
steps_known [] s can holds h = h
steps_known (x ∷ xs) s can holds h = steps_known xs (after_step x s) can.1 (step_ok x s can.0 holds) (step_known x s can.0 holds h)

none_known : (id : ℕ) (st : Stream) → None ≡ Some st → KnownIf st.receiving
none_known id st is = absurd (cc)

-- so it is from a state without streams on
pub stops_known : (side : Side) (uni bi window stream_window send_window : ℕ) (fair : Bool) (xs : List Step) → ArePossible xs
    → StopsKnown (after xs (new_streams side uni bi window stream_window send_window fair))
unfolding new_streams
stops_known side uni bi window stream_window send_window fair xs can =
    steps_known xs (new_streams side uni bi window stream_window send_window fair) can (nothing _) (λ id st is. none_known id st is)

-- and once the marks are taken off
pub stops_known_filed : (side : Side) (uni bi window stream_window send_window : ℕ) (fair : Bool) (xs : List Step) → ArePossible xs
    → StopsKnown (after_step MarksFiled (after xs (new_streams side uni bi window stream_window send_window fair)))
unfolding new_streams IsPossible
stops_known_filed side uni bi window stream_window send_window fair xs can =
    let first = new_streams side uni bi window stream_window send_window fair in
    step_known MarksFiled (after xs first) tt (after_ok xs first can (nothing _)) (stops_known side uni bi window stream_window send_window fair xs can)

-- Over steps of the streams, each byte that was written on one waits, is in flight or was acknowledged.
use Rattle.std.proofs.Common.{◌≡◌, ◌∙◌, ℕ, ◌<◌, ◌==◌, Bool, true, false, cond, List, [], ◌∷◌, length, Option, None, Some, ap, sym, subst, refl, arith}
use Rattle.std.specs.Prelude.{not, ◌&&◌, ◌||◌}
use Rattle.std.specs.List.{list_all}
use Rattle.std.specs.Option.{option_map}
use Rattle.std.proofs.lemmas.Bool.{and_parts, false≢true}
use Rattle.qc_base.specs.declared.side.Dir.{Dir}
use Rattle.qc_base.specs.declared.side.Dir.TheVariants.{Bi, Uni}
use Rattle.qc_recovery.specs.TransportValues.{TransportValues}
use Rattle.qc_base.specs.declared.side.Side.{Side}
use Rattle.qc_send_stream.specs.Buffer.{Kept, has_bytes}
use Rattle.qc_send_stream.specs.declared.send.Reset.{Reset}
use Rattle.qc_send_stream.specs.declared.send.SendPart.{SendPart}
use Rattle.qc_send_stream.specs.Sending.{done_with, end_acked, is_done, new_sending}
use Rattle.qc_streams.specs.Calls.{known, known_at, known_of}
use Rattle.qc_streams.specs.Carried.{keeps_streams, with_written, written_on}
use Rattle.qc_streams.specs.Finishing.{acked_on, with_acked}
use Rattle.qc_streams.specs.Records.{record_of}
use Rattle.qc_streams.specs.Stream.{fresh_stream}
use Rattle.qc_streams.specs.Streams.{fresh_own, fresh_peer, new_streams}
use Rattle.qc_streams.specs.Waits.{ArePossible, IsPossible, Step, WasReset, after, after_step}
use Rattle.qc_streams.specs.Within.{AreTaken, IsTaken}
use Rattle.qc_streams.specs.declared.state.StreamsState.{StreamsState}
use Rattle.qc_streams.specs.declared.stream.Stream.{Stream}
use Rattle.qc_streams.proofs.CarriedBuffer.{traced_count}
use Rattle.qc_streams.proofs.CarriedWritten.{Carries, CarriesAt, TracedIf, WritesNone, done_unknown, new_empty, new_none, step_carries, traced_sent, unknown_none}
use Rattle.qc_streams.proofs.FinishingLaw.{acked_more, written_same}
use Rattle.qc_streams.proofs.StaysOpened.{stays_opened}
use Rattle.qc_streams.proofs.StepAt.{AlikeIf, Anew, ComesFrom, Done, Gone, IsDoneBehind, Never, OwnOpened, PeerOpened, SteppedAt, Stood, There, WhyGone, sent_to}
use Rattle.qc_streams.proofs.SteppedLaw.{steps as stepped}
use Rattle.qc_streams.proofs.WaitLaw.{step_ok}
use Rattle.qc_streams.proofs.WaitSteps.{Holds, was_opened}
use Rattle.qc_state.specs.First.{first_streams}
use Rattle.qc_laws.specs.BytesLaws.{byte_waits, waits_in, waits_on}
use Rattle.qc_laws.specs.CryptoLaws.{is_awaited, is_kept}
use Rattle.qc_laws.proofs.BytePlaces.{SidePlaced, alike_placed, flown_by, fresh_placed, placed_more, reset_by, side_placed, side_unreset}
use Rattle.qc_laws.proofs.CryptoBuffers.{or_either, or_left, or_right}
use Rattle.qc_laws.proofs.HarmlessTests.{first_holds, second_holds}

-- ---- what holds of a stream, on which these bytes were written

abbrev SideStands : (written : List ℕ) → (reset : Bool) → (acked flown : ℕ → Bool) → Option SendPart → Type 0
SideStands written reset acked flown None = written ≡ []
SideStands written reset acked flown (Some p) = SidePlaced acked flown p × (reset ≡ false → p.reset ≡ None)

-- of one that isn't there any more all were acknowledged, unless it was reset
abbrev StreamStands : (written : List ℕ) → (reset : Bool) → (acked flown : ℕ → Bool) → Option Stream → Type 0
StreamStands written reset acked flown None = reset ≡ false → (o : ℕ) → o < length written → acked o ≡ true
StreamStands written reset acked flown (Some st) = SideStands written reset acked flown st.sending

pub record Stands (id : ℕ) (written : List ℕ) (reset : Bool) (acked flown : ℕ → Bool) (s : StreamsState) : Type 0 where
  pub carries : CarriesAt id written s
  pub stands : StreamStands written reset acked flown (record_of id s.records)

-- ---- a step

-- a stream that no step reset wasn't before the last
reset_before : (id : ℕ) (x : Step) (reset : Bool) → reset_by id x reset ≡ false → reset ≡ false
reset_before id (WasReset code j) reset is = by (j == id) is
  where
    by : (b : Bool) → cond b true reset ≡ false → reset ≡ false
    by true is = absurd (false≢true (sym is))
    by false is = is
reset_before id x reset is = is

side_then : (id : ℕ) (x : Step) (written : List ℕ) (reset : Bool) (acked flown : ℕ → Bool) (o next : Option SendPart) → keeps_streams x ≡ true → AlikeIf (option_map (sent_to id x) o) next → (o ≡ None → WritesNone id x) →
    SideStands written reset acked flown o → SideStands (with_written id x written) (reset_by id x reset) (λ i. with_acked id i x (acked i)) (λ i. flown_by id i x (flown i)) next
side_then id x written reset acked flown None None keeps alike unwritten h = written_same id x written keeps (unwritten refl) ∙ h
side_then id x written reset acked flown None (Some q) keeps alike unwritten h = absurd alike
side_then id x written reset acked flown (Some p) None keeps alike unwritten h = absurd alike
side_then id x written reset acked flown (Some p) (Some q) keeps alike unwritten h =
    (alike_placed _ _ (sent_to id x p) q alike (side_placed id x acked flown p keeps h.0), λ none. alike.reset ∙ side_unreset id x reset p h.1 none)

own_side : (written : List ℕ) (reset : Bool) (acked flown : ℕ → Bool) (dir : Dir) (s : StreamsState) → SideStands written reset acked flown (fresh_own dir s).sending
unfolding fresh_stream new_sending
own_side written reset acked flown Bi s = (fresh_placed acked flown s.limits.own_bidi_data, λ none. refl)
own_side written reset acked flown Uni s = (fresh_placed acked flown s.limits.own_uni_data, λ none. refl)

peer_side : (written : List ℕ) (reset : Bool) (acked flown : ℕ → Bool) (dir : Dir) (s : StreamsState) → written ≡ [] → SideStands written reset acked flown (fresh_peer dir s).sending
unfolding fresh_stream new_sending
peer_side written reset acked flown Bi s none = (fresh_placed acked flown s.limits.peer_bidi_data, λ none. refl)
peer_side written reset acked flown Uni s none = none

from_side : (id : ℕ) (written : List ℕ) (reset : Bool) (acked flown : ℕ → Bool) (s : StreamsState) (st : Stream) → Holds s → Stands id written reset acked flown s → ComesFrom id s st → SideStands written reset acked flown st.sending
from_side id written reset acked flown s st holds h (Stood is) = subst (λ (o : Option Stream). StreamStands written reset acked flown o) is h.stands
from_side id written reset acked flown s st holds h (OwnOpened dir is new) = subst (λ (z : Stream). SideStands written reset acked flown z.sending) (sym is) (own_side written reset acked flown dir s)
from_side id written reset acked flown s st holds h (PeerOpened dir is new) =
    subst (λ (z : Stream). SideStands written reset acked flown z.sending) (sym is) (peer_side written reset acked flown dir s (new_empty id written s holds new h.carries))

-- nothing is written on one that has no such side
from_unwritten : (id : ℕ) (x : Step) (s : StreamsState) (st : Stream) → Holds s → IsTaken x s → ComesFrom id s st → st.sending ≡ None → WritesNone id x
unfolding known_at
from_unwritten id x s st holds taken (Stood is) none = unknown_none id x s (ap (λ (o : Option Stream). known_of o) is ∙ ap (λ (o : Option SendPart). known o) none) taken
from_unwritten id x s st holds taken (OwnOpened dir is new) none = new_none id x s holds new taken
from_unwritten id x s st holds taken (PeerOpened dir is new) none = new_none id x s holds new taken

none_less : (written : List ℕ) (o : ℕ) {X : Type 0} → written ≡ [] → o < length written → X
none_less written o empty less = let bound : o < 0 = subst (λ (l : List ℕ). o < length l) empty less in absurd (omega (arith, bound))

-- one that is done, and wasn't reset, keeps no byte
not_true : (b : Bool) → not b ≡ true → b ≡ false
not_true true is = absurd (false≢true is)
not_true false is = refl

none_kept : (ks : List Kept) → has_bytes ks ≡ false → ks ≡ []
unfolding has_bytes
none_kept [] is = refl
none_kept (k ∷ ks) is = absurd (false≢true (sym is))

done_kept : (p : SendPart) → is_done p ≡ true → p.reset ≡ None → p.buffer.kept ≡ []
unfolding is_done
done_kept p done none =
    none_kept p.buffer.kept (not_true (has_bytes p.buffer.kept)
    (and_parts (end_acked p.end) (not (has_bytes p.buffer.kept)) (ap (λ (r : Option Reset). done_with r (end_acked p.end && not (has_bytes p.buffer.kept))) (sym none) ∙ done)).1)

second_of : (a b : Bool) → a ≡ false → (a || b) ≡ true → b ≡ true
second_of true b none h = absurd (false≢true (sym none))
second_of false b none h = h

-- a stream that leaves
left_stands : (id : ℕ) (x : Step) (written : List ℕ) (reset : Bool) (acked flown : ℕ → Bool) (s : StreamsState) (st : Stream) (side : Option SendPart) → keeps_streams x ≡ true → IsTaken x s → record_of id s.records ≡ Some st → st.sending ≡ side →
    IsDoneBehind id x st → TracedIf written side → SideStands written reset acked flown side → (WritesNone id x → with_written id x written ≡ written) → (side ≡ None → WritesNone id x) →
    reset_by id x reset ≡ false → (o : ℕ) → o < length (with_written id x written) → with_acked id o x (acked o) ≡ true
left_stands id x written reset acked flown s st None keeps taken is sends done traced h same unwritten none o less = none_less (with_written id x written) o (same (unwritten refl) ∙ h) less
left_stands id x written reset acked flown s st (Some p) keeps taken is sends done traced h same unwritten none o less =
    let q : SendPart = sent_to id x p in
    let placed : SidePlaced (λ i. with_acked id i x (acked i)) (λ i. flown_by id i x (flown i)) q = side_placed id x acked flown p keeps h.0 in
    let unreset : q.reset ≡ None = side_unreset id x reset p h.1 none in
    let count : q.buffer.written ≡ length (with_written id x written) =
    traced_count (with_written id x written) q.buffer (traced_sent id x written p keeps (λ over. unknown_none id x s (done_unknown id s st p is sends over) taken) traced) in
    second_of (is_kept o q.buffer.kept) (with_acked id o x (acked o)) (ap (λ (ks : List Kept). is_kept o ks) (done_kept q (done p sends) unreset)) (placed.kept unreset o (subst (λ (n : ℕ). o < n) (sym count) less))

gone_stands : (id : ℕ) (x : Step) (written : List ℕ) (reset : Bool) (acked flown : ℕ → Bool) (s : StreamsState) → keeps_streams x ≡ true → Holds s → IsTaken x s → Stands id written reset acked flown s → WhyGone id x s →
    reset_by id x reset ≡ false → (o : ℕ) → o < length (with_written id x written) → with_acked id o x (acked o) ≡ true
unfolding known_at
gone_stands id x written reset acked flown s keeps holds taken h (Never none) unreset o less =
    acked_more id o x (acked o) keeps
    (subst (λ (y : Option Stream). StreamStands written reset acked flown y) none h.stands (reset_before id x reset unreset) o
    (subst (λ (l : List ℕ). o < length l) (written_same id x written keeps (unknown_none id x s (ap (λ (y : Option Stream). known_of y) none) taken)) less))
gone_stands id x written reset acked flown s keeps holds taken h (Done st (Stood is) done) unreset o less =
    left_stands id x written reset acked flown s st st.sending keeps taken is refl done (subst (λ (y : Option Stream). Carries (was_opened s.side s.own s.peer id) written y) is h.carries)
    (subst (λ (y : Option Stream). StreamStands written reset acked flown y) is h.stands) (written_same id x written keeps) (from_unwritten id x s st holds taken (Stood is)) unreset o less
gone_stands id x written reset acked flown s keeps holds taken h (Done st (OwnOpened dir is new) done) unreset o less =
    none_less (with_written id x written) o (written_same id x written keeps (new_none id x s holds new taken) ∙ new_empty id written s holds new h.carries) less
gone_stands id x written reset acked flown s keeps holds taken h (Done st (PeerOpened dir is new) done) unreset o less =
    none_less (with_written id x written) o (written_same id x written keeps (new_none id x s holds new taken) ∙ new_empty id written s holds new h.carries) less
gone_stands id x written reset acked flown s keeps holds taken h (Anew refused) unreset o less = absurd (false≢true (sym refused ∙ keeps))

step_stands : (id : ℕ) (x : Step) (written : List ℕ) (reset : Bool) (acked flown : ℕ → Bool) (s : StreamsState) → IsPossible x → keeps_streams x ≡ true → Holds s → IsTaken x s → Stands id written reset acked flown s →
    Stands id (with_written id x written) (reset_by id x reset) (λ o. with_acked id o x (acked o)) (λ o. flown_by id o x (flown o)) (after_step x s)
step_stands id x written reset acked flown s can keeps holds taken h = record { carries = step_carries stepped stays_opened id x written s can holds taken h.carries; stands = by (stepped id x s can holds) }
  where
    by : SteppedAt id x s → StreamStands (with_written id x written) (reset_by id x reset) (λ i. with_acked id i x (acked i)) (λ i. flown_by id i x (flown i)) (record_of id (after_step x s).records)
    by (Gone none why) =
        subst (λ (o : Option Stream). StreamStands (with_written id x written) (reset_by id x reset) (λ i. with_acked id i x (acked i)) (λ i. flown_by id i x (flown i)) o) (sym none)
        (gone_stands id x written reset acked flown s keeps holds taken h why)
    by (There st next from made is) =
        subst (λ (o : Option Stream). StreamStands (with_written id x written) (reset_by id x reset) (λ i. with_acked id i x (acked i)) (λ i. flown_by id i x (flown i)) o) (sym is)
        (side_then id x written reset acked flown st.sending next.sending keeps made.sending (from_unwritten id x s st holds taken from) (from_side id written reset acked flown s st holds h from))

-- ---- steps, one after the other

abbrev pub flown_on : (id o : ℕ) → List Step → Bool → Bool
flown_on id o [] flown = flown
flown_on id o (x ∷ xs) flown = flown_on id o xs (flown_by id o x flown)

abbrev pub reset_on : ℕ → List Step → Bool → Bool
reset_on id [] reset = reset
reset_on id (x ∷ xs) reset = reset_on id xs (reset_by id x reset)

pub steps_stand : (id : ℕ) (xs : List Step) (written : List ℕ) (reset : Bool) (acked flown : ℕ → Bool) (s : StreamsState) → ArePossible xs → AreTaken xs s → list_all keeps_streams xs ≡ true → Holds s → Stands id written reset acked flown s →
    Stands id (written_on id xs written) (reset_on id xs reset) (λ o. acked_on id o xs (acked o)) (λ o. flown_on id o xs (flown o)) (after xs s)
unfolding ArePossible AreTaken written_on acked_on after
steps_stand id [] written reset acked flown s can taken keep holds h = h
steps_stand id (x ∷ xs) written reset acked flown s can taken keep holds h =
    let keeps : keeps_streams x ≡ true = first_holds (keeps_streams x) (list_all keeps_streams xs) keep in
    steps_stand id xs (with_written id x written) (reset_by id x reset) (λ o. with_acked id o x (acked o)) (λ o. flown_by id o x (flown o)) (after_step x s) can.1 taken.1
    (second_holds (keeps_streams x) (list_all keeps_streams xs) keep) (step_ok x s can.0 holds) (step_stands id x written reset acked flown s can.0 keeps holds taken.0 h)

pub steps_hold : (xs : List Step) (s : StreamsState) → ArePossible xs → Holds s → Holds (after xs s)
unfolding ArePossible after
steps_hold [] s can holds = holds
steps_hold (x ∷ xs) s can holds = steps_hold xs (after_step x s) can.1 (step_ok x s can.0 holds)

-- ---- what follows

-- where more was acknowledged, and less is in flight that wasn't
side_more : (written : List ℕ) (reset : Bool) (acked flown acked' flown' : ℕ → Bool) (o : Option SendPart) → ((i : ℕ) → acked i ≡ true → acked' i ≡ true) → ((i : ℕ) → flown i ≡ true → (flown' i || acked' i) ≡ true) →
    SideStands written reset acked flown o → SideStands written reset acked' flown' o
side_more written reset acked flown acked' flown' None more stays h = h
side_more written reset acked flown acked' flown' (Some p) more stays h = (placed_more acked flown acked' flown' p more stays h.0, h.1)

stream_more : (written : List ℕ) (reset : Bool) (acked flown acked' flown' : ℕ → Bool) (o : Option Stream) → ((i : ℕ) → acked i ≡ true → acked' i ≡ true) → ((i : ℕ) → flown i ≡ true → (flown' i || acked' i) ≡ true) →
    StreamStands written reset acked flown o → StreamStands written reset acked' flown' o
stream_more written reset acked flown acked' flown' None more stays h = λ none i less. more i (h none i less)
stream_more written reset acked flown acked' flown' (Some st) more stays h = side_more written reset acked flown acked' flown' st.sending more stays h

pub stands_more : (id : ℕ) (written : List ℕ) (reset : Bool) (acked flown acked' flown' : ℕ → Bool) (s : StreamsState) → ((i : ℕ) → acked i ≡ true → acked' i ≡ true) → ((i : ℕ) → flown i ≡ true → (flown' i || acked' i) ≡ true) →
    Stands id written reset acked flown s → Stands id written reset acked' flown' s
stands_more id written reset acked flown acked' flown' s more stays h = record { carries = h.carries; stands = stream_more written reset acked flown acked' flown' (record_of id s.records) more stays h.stands }

-- new streams
pub new_stands : (id : ℕ) (acked flown : ℕ → Bool) (side : Side) (transport : TransportValues) → Stands id [] false acked flown (first_streams side transport)
unfolding new_streams
new_stands id acked flown side transport = record { carries = λ new. refl; stands = λ none o less. none_less [] o refl less }

-- so each byte is somewhere
side_found : (written : List ℕ) (acked flown : ℕ → Bool) (side : Option SendPart) (o : ℕ) → TracedIf written side → SideStands written false acked flown side → o < length written → (waits_in o side || (flown o || acked o)) ≡ true
side_found written acked flown None o traced h less = none_less written o h less
side_found written acked flown (Some p) o traced h less =
    let within : o < p.buffer.written = subst (λ (n : ℕ). o < n) (sym (traced_count written p.buffer traced)) less in
    or_either (is_kept o p.buffer.kept) (acked o) _
    (λ kept. or_either (is_awaited o p.buffer) (flown o || acked o) _ (λ awaits. or_left (is_kept o p.buffer.kept && is_awaited o p.buffer) _ (both (is_kept o p.buffer.kept) (is_awaited o p.buffer) kept awaits)) (λ e. or_right _ _ e) (h.0.placed (h.1 refl) o within))
    (λ e. or_right (is_kept o p.buffer.kept && is_awaited o p.buffer) _ (or_right (flown o) (acked o) e)) (h.0.kept (h.1 refl) o within)
  where
    both : (a b : Bool) → a ≡ true → b ≡ true → (a && b) ≡ true
    both true true e f = refl
    both true false e f = absurd (false≢true f)
    both false b e f = absurd (false≢true e)

stream_found : (opened : Bool) (written : List ℕ) (acked flown : ℕ → Bool) (stream : Option Stream) (o : ℕ) → Carries opened written stream → StreamStands written false acked flown stream → o < length written → (waits_on o stream || (flown o || acked o)) ≡ true
stream_found opened written acked flown None o carries h less = or_right (flown o) (acked o) (h refl o less)
stream_found opened written acked flown (Some st) o carries h less = side_found written acked flown st.sending o carries h less

pub byte_found : (id : ℕ) (written : List ℕ) (reset : Bool) (acked flown : ℕ → Bool) (s : StreamsState) → Stands id written reset acked flown s → reset ≡ false → (o : ℕ) → o < length written → (byte_waits id o s || (flown o || acked o)) ≡ true
byte_found id written reset acked flown s h none o less =
    stream_found (was_opened s.side s.own s.peer id) written acked flown (record_of id s.records) o h.carries (subst (λ (b : Bool). StreamStands written b acked flown (record_of id s.records)) none h.stands) less

-- That a stream is finished is told once, and only where all of it was acknowledged, whatever happens
use Rattle.std.proofs.Common.{◌≡◌, ◌∙◌, ℕ, ◌+◌, ◌==◌, ◌<◌, ◌≤◌, Bool, true, false, cond, not, ◌&&◌, nat_le, nat_lt, List, [], ◌∷◌, ◌++◌, length, take, Option, None, Some, is_some, inl, inr, ap, sym, subst, arith, refl}
use Rattle.std.specs.Option.{option_map}
use Rattle.std.specs.Prelude.{◌⊎◌}
use Rattle.std.proofs.lemmas.Bool.{and_parts, cases_lt, eq-eqb, false≢true}
use Rattle.std.proofs.lemmas.List.{append-nil}
use Rattle.qc_base.specs.declared.side.Side.{Side}
use Rattle.qc_send_stream.specs.declared.send.SendPart.{SendPart}
use Rattle.qc_send_stream.specs.Sending.{new_sending, part_acked}
use Rattle.qc_send_stream.specs.Buffer.{nothing}
use Rattle.qc_streams.specs.declared.state.StreamsState.{StreamsState}
use Rattle.qc_streams.specs.declared.stream.Stream.{Stream}
use Rattle.qc_streams.specs.Calls.{known_at, known_of}
use Rattle.qc_streams.specs.Carried.{keeps_streams, with_written, written_on}
use Rattle.qc_streams.specs.Early.{early_refused}
use Rattle.qc_streams.specs.Events.{no_events}
use Rattle.qc_streams.specs.Finishing.{FinishedIsToldOnce, acked_on, ended_on, times_finished, times_told, with_acked, with_ended, with_told}
use Rattle.qc_streams.specs.StreamBytes.{bytes_taken, finished_at, finishes, is_finished}
use Rattle.qc_streams.specs.Records.{record_of}
use Rattle.qc_streams.specs.Stream.{fresh_stream, with_sending}
use Rattle.qc_streams.specs.Streams.{fresh_own, fresh_peer, new_streams}
use Rattle.qc_streams.specs.Waits.{ArePossible, IsPossible, Step, BytesAcked, EarlyRefused, Wrote, after, after_step}
use Rattle.qc_streams.specs.Within.{AreTaken, IsTaken}
use Rattle.qc_base.specs.declared.side.Dir.{Dir}
use Rattle.qc_base.specs.declared.side.Dir.TheVariants.{Bi, Uni}
use Rattle.qc_streams.proofs.CarriedBuffer.{Traced, traced_count}
use Rattle.qc_streams.proofs.CarriedWritten.{Carries, CarriesAt, TracedIf, WritesNone, absent, done_unknown, step_carries, take_none, traced_sent, unknown_none}
use Rattle.qc_streams.proofs.FinishingEvents.{after_times, tells}
use Rattle.qc_streams.proofs.FinishingSide.{AllAcked, SideOk, alike_all, alike_ok, all_done, all_finished, all_stays, finished_all, finished_bytes, finished_end, side_ok}
use Rattle.qc_streams.proofs.StaysOpened.{stays_opened}
use Rattle.qc_streams.proofs.StepAt.{AlikeIf, ComesFrom, SteppedAt, Gone, There, Stood, OwnOpened, PeerOpened, sent_to}
use Rattle.qc_streams.proofs.SteppedLaw.{steps}
use Rattle.qc_streams.proofs.WaitLaw.{nothing as at_first, step_ok}
use Rattle.qc_streams.proofs.WaitSteps.{Holds, was_opened}
use Rattle.qc_streams.proofs.Waits.{here}
use Rattle.qc_streams.proofs.Keyed.{same_id}

-- ---- what was written and acknowledged

-- nothing is written where the application doesn't know the stream
pub written_same : (id : ℕ) (x : Step) (written : List ℕ) → keeps_streams x ≡ true → WritesNone id x → with_written id x written ≡ written
unfolding keeps_streams with_written
written_same id (Wrote j n chunk) written keeps none = by (j == id) refl
  where
    by : (b : Bool) → (j == id) ≡ b → cond b (written ++ take n chunk) written ≡ written
    by true same = ap (λ (l : List ℕ). written ++ l) (take_none n chunk (none same)) ∙ append-nil written
    by false other = refl
written_same id EarlyRefused written keeps none = absurd (false≢true keeps)
written_same id x written keeps none = refl

if_true : (b c : Bool) → c ≡ true → cond b true c ≡ true
if_true true c is = refl
if_true false c is = is

pub acked_more : (id o : ℕ) (x : Step) (acked : Bool) → keeps_streams x ≡ true → acked ≡ true → with_acked id o x acked ≡ true
unfolding keeps_streams with_acked
acked_more id o (BytesAcked j start stop last) acked keeps is = if_true (j == id && (nat_le start o && nat_lt o stop)) acked is
acked_more id o EarlyRefused acked keeps is = absurd (false≢true keeps)
acked_more id o x acked keeps is = is

ended_more : (id : ℕ) (x : Step) (ended : Bool) → keeps_streams x ≡ true → ended ≡ true → with_ended id x ended ≡ true
unfolding keeps_streams with_ended
ended_more id (BytesAcked j start stop last) ended keeps is = if_true (j == id && last) ended is
ended_more id EarlyRefused ended keeps is = absurd (false≢true keeps)
ended_more id x ended keeps is = is

-- ---- the sending side of a stream

-- what holds of it, where there is one
abbrev SideIf : (ℕ → Bool) → Bool → Option SendPart → Type 0
SideIf acked ended None = Unit {0}
SideIf acked ended (Some p) = SideOk acked ended p

abbrev SideAt : (ℕ → Bool) → Bool → Option Stream → Type 0
SideAt acked ended None = Unit {0}
SideAt acked ended (Some st) = SideIf acked ended st.sending

-- all of it was acknowledged
abbrev AllIf : Option SendPart → Type 0
AllIf None = ⊥
AllIf (Some p) = AllAcked p

-- the same of a stream that there is
abbrev AllAt : Option Stream → Type 0
AllAt None = Unit {0}
AllAt (Some st) = AllIf st.sending

side_alike : (id : ℕ) (x : Step) (acked : ℕ → Bool) (ended : Bool) (o next : Option SendPart) → keeps_streams x ≡ true → AlikeIf (option_map (sent_to id x) o) next
    → SideIf acked ended o → SideIf (λ i. with_acked id i x (acked i)) (with_ended id x ended) next
side_alike id x acked ended None None keeps alike h = tt
side_alike id x acked ended None (Some q) keeps alike h = absurd alike
side_alike id x acked ended (Some p) None keeps alike h = absurd alike
side_alike id x acked ended (Some p) (Some q) keeps alike h = alike_ok _ _ (sent_to id x p) q alike (side_ok id x acked ended p keeps h)

fresh_side : (acked : ℕ → Bool) (ended : Bool) (limit : ℕ) → SideOk acked ended (new_sending limit)
unfolding new_sending nothing
fresh_side acked ended limit = record { bytes = λ none o less. absurd (omega (arith, less)); end = λ is. absurd (false≢true is) }

own_side : (acked : ℕ → Bool) (ended : Bool) (dir : Dir) (s : StreamsState) → SideIf acked ended (fresh_own dir s).sending
unfolding fresh_stream
own_side acked ended Bi s = fresh_side acked ended s.limits.own_bidi_data
own_side acked ended Uni s = fresh_side acked ended s.limits.own_uni_data

peer_side : (acked : ℕ → Bool) (ended : Bool) (dir : Dir) (s : StreamsState) → SideIf acked ended (fresh_peer dir s).sending
unfolding fresh_stream
peer_side acked ended Bi s = fresh_side acked ended s.limits.peer_bidi_data
peer_side acked ended Uni s = tt

come_side : (id : ℕ) (acked : ℕ → Bool) (ended : Bool) (s : StreamsState) (st : Stream) → ComesFrom id s st → SideAt acked ended (record_of id s.records)
    → SideIf acked ended st.sending
come_side id acked ended s st (Stood is) h = subst (λ (o : Option Stream). SideAt acked ended o) is h
come_side id acked ended s st (OwnOpened dir is new) h = subst (λ (z : Stream). SideIf acked ended z.sending) (sym is) (own_side acked ended dir s)
come_side id acked ended s st (PeerOpened dir is new) h = subst (λ (z : Stream). SideIf acked ended z.sending) (sym is) (peer_side acked ended dir s)

side_after : (id : ℕ) (x : Step) (acked : ℕ → Bool) (ended : Bool) (s : StreamsState) → keeps_streams x ≡ true → SteppedAt id x s
    → SideAt acked ended (record_of id s.records) → SideAt (λ i. with_acked id i x (acked i)) (with_ended id x ended) (record_of id (after_step x s).records)
side_after id x acked ended s keeps (Gone none why) h =
    subst (λ (o : Option Stream). SideAt (λ i. with_acked id i x (acked i)) (with_ended id x ended) o) (sym none) tt
side_after id x acked ended s keeps (There st next from stepped is) h =
    subst (λ (o : Option Stream). SideAt (λ i. with_acked id i x (acked i)) (with_ended id x ended) o) (sym is)
    (side_alike id x acked ended st.sending next.sending keeps stepped.sending (come_side id acked ended s st from h))

-- ---- once all of it was acknowledged

-- all of a stream that was opened was acknowledged: that it is finished can be told
record IsOver (id : ℕ) (written : List ℕ) (acked : ℕ → Bool) (ended : Bool) (s : StreamsState) : Type 0 where
  opened : was_opened s.side s.own s.peer id ≡ true
  all : AllAt (record_of id s.records)
  bytes : (o : ℕ) → o < length written → acked o ≡ true
  end : ended ≡ true

-- the same behind a step
abbrev OverAfter : ℕ → Step → List ℕ → (ℕ → Bool) → Bool → StreamsState → Type 0
OverAfter id x written acked ended s = IsOver id (with_written id x written) (λ i. with_acked id i x (acked i)) (with_ended id x ended) (after_step x s)

all_alike : (o next : Option SendPart) → AlikeIf o next → AllIf o → AllIf next
all_alike None next alike all = absurd all
all_alike (Some p) None alike all = absurd alike
all_alike (Some p) (Some q) alike all = alike_all p q alike all

all_mapped : (id : ℕ) (x : Step) (o : Option SendPart) → keeps_streams x ≡ true → AllIf o → AllIf (option_map (sent_to id x) o)
all_mapped id x None keeps all = absurd all
all_mapped id x (Some p) keeps all = all_stays id x p keeps all

all_after : (id : ℕ) (x : Step) (s : StreamsState) → keeps_streams x ≡ true → was_opened s.side s.own s.peer id ≡ true → SteppedAt id x s
    → ((st : Stream) → record_of id s.records ≡ Some st → AllIf (option_map (sent_to id x) st.sending)) → AllAt (record_of id (after_step x s).records)
all_after id x s keeps opened (Gone none why) all = subst (λ (o : Option Stream). AllAt o) (sym none) tt
all_after id x s keeps opened (There st next (Stood is) stepped to) all =
    subst (λ (o : Option Stream). AllAt o) (sym to) (all_alike (option_map (sent_to id x) st.sending) next.sending stepped.sending (all st is))
all_after id x s keeps opened (There st next (OwnOpened dir is new) stepped to) all = absurd (false≢true (sym new ∙ opened))
all_after id x s keeps opened (There st next (PeerOpened dir is new) stepped to) all = absurd (false≢true (sym new ∙ opened))

unknown_if : (id : ℕ) (s : StreamsState) (st : Stream) (o : Option SendPart) → record_of id s.records ≡ Some st → st.sending ≡ o → AllIf o → known_at id s ≡ None
unknown_if id s st None is sends all = absurd all
unknown_if id s st (Some p) is sends all = done_unknown id s st p is sends (all_done p all)

-- the application doesn't know it any more
unknown_over : (id : ℕ) (s : StreamsState) (o : Option Stream) → record_of id s.records ≡ o → AllAt o → known_at id s ≡ None
unfolding known_at
unknown_over id s None is all = ap (λ (o : Option Stream). known_of o) is
unknown_over id s (Some st) is all = unknown_if id s st st.sending is refl all

over_stays : (id : ℕ) (x : Step) (written : List ℕ) (acked : ℕ → Bool) (ended : Bool) (s : StreamsState) → IsPossible x → keeps_streams x ≡ true → Holds s
    → IsTaken x s → IsOver id written acked ended s → OverAfter id x written acked ended s
over_stays id x written acked ended s can keeps holds taken over = record {
  opened = stays_opened id x s can keeps over.opened;
  all = all_after id x s keeps over.opened (steps id x s can holds)
      (λ st is. all_mapped id x st.sending keeps (subst (λ (o : Option Stream). AllAt o) is over.all));
  bytes = λ o less. acked_more id o x (acked o) keeps (over.bytes o
      (subst (λ (l : List ℕ). o < length l)
      (written_same id x written keeps (unknown_none id x s (unknown_over id s (record_of id s.records) refl over.all) taken)) less));
  end = ended_more id x ended keeps over.end;
}

-- ---- an acknowledgement with which all of it is

record Finishing (id start stop : ℕ) (last : Bool) (s : StreamsState) : Type 0 where
  st : Stream
  part : SendPart
  is : record_of id s.records ≡ Some st
  sends : st.sending ≡ Some part
  fresh : is_finished (Some part) ≡ false
  all : AllAcked (part_acked start stop last part)

unless_false : (b : Bool) → not b ≡ true → b ≡ false
unless_false true is = absurd (false≢true is)
unless_false false is = refl

finishing_side : (id start stop : ℕ) (last : Bool) (s : StreamsState) (st : Stream) (o : Option SendPart) → record_of id s.records ≡ Some st → st.sending ≡ o
    → not (is_finished o) ≡ true → is_finished (option_map (part_acked start stop last) o) ≡ true → Finishing id start stop last s
finishing_side id start stop last s st None is sends fresh all = absurd (false≢true all)
finishing_side id start stop last s st (Some p) is sends fresh all = record {
  st = st;
  part = p;
  is = is;
  sends = sends;
  fresh = unless_false (is_finished (Some p)) fresh;
  all = finished_all (part_acked start stop last p) all;
}

finishing_at : (id start stop : ℕ) (last : Bool) (s : StreamsState) (o : Option Stream) → record_of id s.records ≡ o → not (finished_at o) ≡ true
    → finished_at (option_map (with_sending (part_acked start stop last)) o) ≡ true → Finishing id start stop last s
unfolding with_sending
finishing_at id start stop last s None is fresh all = absurd (false≢true all)
finishing_at id start stop last s (Some st) is fresh all = finishing_side id start stop last s st st.sending is refl fresh all

finishing : (id start stop : ℕ) (last : Bool) (s : StreamsState) → finishes id start stop last s ≡ true → Finishing id start stop last s
unfolding finishes bytes_taken
finishing id start stop last s is =
    let both = and_parts (not (finished_at (record_of id s.records))) (finished_at (record_of id (bytes_taken id start stop last s).records)) is in
    finishing_at id start stop last s (record_of id s.records) refl both.0
    (ap (λ (o : Option Stream). finished_at o) (sym (here (with_sending (part_acked start stop last)) id s.records)) ∙ both.1)

opened_there : (id : ℕ) (s : StreamsState) (st : Stream) → Holds s → record_of id s.records ≡ Some st → was_opened s.side s.own s.peer id ≡ true
opened_there id s st holds is = by (was_opened s.side s.own s.peer id) refl
  where
    by : (b : Bool) → was_opened s.side s.own s.peer id ≡ b → b ≡ true
    by true new = refl
    by false new = absurd (false≢true (ap (λ (o : Option Stream). is_some o) (sym (absent id s holds new) ∙ is)))

-- all was acknowledged then
over_begins : (id start stop : ℕ) (last : Bool) (written : List ℕ) (acked : ℕ → Bool) (ended : Bool) (s : StreamsState) → Holds s → CarriesAt id written s
    → SideAt acked ended (record_of id s.records) → Finishing id start stop last s → OverAfter id (BytesAcked id start stop last) written acked ended s
unfolding sent_to keeps_streams IsPossible
over_begins id start stop last written acked ended s holds carries side f = record {
  opened = stays_opened id x s tt refl opened;
  all = all_after id x s refl opened (steps id x s tt holds)
      (λ st is. subst (λ (o : Option SendPart). AllIf (option_map (sent_to id x) o)) (sym f.sends ∙ ap (λ (z : Stream). z.sending) (same f.st st (sym f.is ∙ is))) all);
  bytes = λ o less.
      finished_bytes _ _ (sent_to id x f.part) all ok o
      (subst (λ (n : ℕ). o < n) (sym (traced_count (with_written id x written) (sent_to id x f.part).buffer traced)) less);
  end = finished_end _ _ (sent_to id x f.part) all ok;
}
  where
    x : Step
    x = BytesAcked id start stop last

    opened : was_opened s.side s.own s.peer id ≡ true
    opened = opened_there id s f.st holds f.is

    same : (st next : Stream) → Some st ≡ Some next → st ≡ next
    same st next is = cc

    all : AllAcked (sent_to id x f.part)
    all = rw (eq-eqb id id refl) f.all

    ok : SideOk (λ i. with_acked id i x (acked i)) (with_ended id x ended) (sent_to id x f.part)
    ok =
        side_ok id x acked ended f.part refl
        (subst (λ (o : Option SendPart). SideIf acked ended o) f.sends (subst (λ (o : Option Stream). SideAt acked ended o) f.is side))

    traced : Traced (with_written id x written) (sent_to id x f.part).buffer
    traced =
        traced_sent id x written f.part refl (λ done. tt)
        (subst (λ (o : Option SendPart). TracedIf written o) f.sends
        (subst (λ (o : Option Stream). Carries (was_opened s.side s.own s.peer id) written o) f.is carries))

-- ---- whatever happens

-- how often it was told that a stream is finished, and what that says
record Stand (id : ℕ) (written : List ℕ) (acked : ℕ → Bool) (ended : Bool) (n : ℕ) (s : StreamsState) : Type 0 where
  carries : CarriesAt id written s
  side : SideAt acked ended (record_of id s.records)
  once : n + times_finished id s.events.items ≤ 1
  over : 0 < n + times_finished id s.events.items → IsOver id written acked ended s

tells_few : (id : ℕ) (x : Step) (s : StreamsState) → tells id x s ≤ 1
unfolding tells
tells_few id (BytesAcked j start stop last) s = by (finishes j start stop last s) (j == id)
  where
    by : (b c : Bool) → cond b (cond c 1 0) 0 ≤ 1
    by true true = omega arith
    by true false = omega arith
    by false c = omega arith
tells_few id x s = omega arith

-- a step that tells it is such an acknowledgement
tells_at : (id : ℕ) (x : Step) (s : StreamsState) (X : Type 0) → 0 < tells id x s
    → ((start stop : ℕ) (last : Bool) → x ≡ BytesAcked id start stop last → Finishing id start stop last s → X) → X
unfolding tells
tells_at id (BytesAcked j start stop last) s X some then = by (finishes j start stop last s) (j == id) refl refl some
  where
    by : (b c : Bool) → finishes j start stop last s ≡ b → (j == id) ≡ c → 0 < cond b (cond c 1 0) 0 → X
    by true true is same some =
        then start stop last (ap (λ (i : ℕ). BytesAcked i start stop last) (same_id j id same))
        (subst (λ (i : ℕ). Finishing i start stop last s) (same_id j id same) (finishing j start stop last s is))
    by true false is same some = absurd (omega (arith, some))
    by false c is same some = absurd (omega (arith, some))
tells_at id x s X some then = absurd (omega (arith, some))

-- it isn't told again
over_once : (id start stop : ℕ) (last : Bool) (s : StreamsState) → AllAt (record_of id s.records) → Finishing id start stop last s → ⊥
over_once id start stop last s all f =
    false≢true (sym f.fresh ∙ all_finished f.part
    (subst (λ (o : Option SendPart). AllIf o) f.sends (subst (λ (o : Option Stream). AllAt o) f.is all)))

kept_stands : (id : ℕ) (x : Step) (written : List ℕ) (acked : ℕ → Bool) (ended : Bool) (n : ℕ) (s : StreamsState) → IsPossible x → keeps_streams x ≡ true → Holds s
    → IsTaken x s → Stand id written acked ended n s
    → Stand id (with_written id x written) (λ i. with_acked id i x (acked i)) (with_ended id x ended) (with_told id x s n) (after_step x s)
kept_stands id x written acked ended n s can keeps holds taken h = record {
  carries = step_carries steps stays_opened id x written s can holds taken h.carries;
  side = side_after id x acked ended s keeps (steps id x s can holds) h.side;
  once = few (cases_lt 0 (n + times_finished id s.events.items));
  over = λ some. by some (cases_lt 0 (n + times_finished id s.events.items));
}
  where
    count : with_told id x s n + times_finished id (after_step x s).events.items ≡ n + times_finished id s.events.items + tells id x s
    count = after_times id x s n keeps

    none : 0 < n + times_finished id s.events.items → 0 < tells id x s → ⊥
    none more some = tells_at id x s ⊥ some (λ start stop last is f. over_once id start stop last s (h.over more).all f)

    few : (0 < n + times_finished id s.events.items) ⊎ (n + times_finished id s.events.items ≤ 0) → with_told id x s n + times_finished id (after_step x s).events.items ≤ 1
    few (inl more) = elim (cases_lt 0 (tells id x s)) [
      | inl some ↦ absurd (none more some)
      | inr zero ↦ omega (arith, count, zero, h.once)
    ]
    few (inr less) = omega (arith, count, less, tells_few id x s)

    by : 0 < with_told id x s n + times_finished id (after_step x s).events.items
        → (0 < n + times_finished id s.events.items) ⊎ (n + times_finished id s.events.items ≤ 0) → OverAfter id x written acked ended s
    by some (inl more) = over_stays id x written acked ended s can keeps holds taken (h.over more)
    by some (inr less) =
        tells_at id x s (OverAfter id x written acked ended s) (omega (arith, count, less, some)) (λ start stop last is f.
        subst (λ (y : Step). OverAfter id y written acked ended s) (sym is) (over_begins id start stop last written acked ended s holds h.carries h.side f))

refused_stands : (id : ℕ) (written : List ℕ) (acked : ℕ → Bool) (ended : Bool) (n : ℕ) (s : StreamsState) → CarriesAt id (with_written id EarlyRefused written) (after_step EarlyRefused s)
    → Stand id (with_written id EarlyRefused written) (λ i. with_acked id i EarlyRefused (acked i)) (with_ended id EarlyRefused ended) (with_told id EarlyRefused s n)
    (after_step EarlyRefused s)
unfolding with_told after_step early_refused no_events times_finished
refused_stands id written acked ended n s carries = record {
  carries = carries;
  side = tt;
  once = omega arith;
  over = λ some. absurd (omega (arith, some));
}

step_stands : (id : ℕ) (x : Step) (written : List ℕ) (acked : ℕ → Bool) (ended : Bool) (n : ℕ) (s : StreamsState) → IsPossible x → Holds s → IsTaken x s
    → Stand id written acked ended n s
    → Stand id (with_written id x written) (λ i. with_acked id i x (acked i)) (with_ended id x ended) (with_told id x s n) (after_step x s)
unfolding keeps_streams
step_stands id EarlyRefused written acked ended n s can holds taken h =
    refused_stands id written acked ended n s (step_carries steps stays_opened id EarlyRefused written s can holds taken h.carries)
step_stands id x written acked ended n s can holds taken h = kept_stands id x written acked ended n s can refl holds taken h

after_stands : (id : ℕ) (xs : List Step) (written : List ℕ) (acked : ℕ → Bool) (ended : Bool) (n : ℕ) (s : StreamsState) → ArePossible xs → AreTaken xs s
    → Holds s → Stand id written acked ended n s
    → Stand id (written_on id xs written) (λ i. acked_on id i xs (acked i)) (ended_on id xs ended) (times_told id xs s n) (after xs s)
unfolding ArePossible AreTaken written_on acked_on ended_on times_told after
after_stands id [] written acked ended n s can taken holds h = h
after_stands id (x ∷ xs) written acked ended n s can taken holds h =
    after_stands id xs (with_written id x written) (λ i. with_acked id i x (acked i)) (with_ended id x ended) (with_told id x s n) (after_step x s) can.1 taken.1
    (step_ok x s can.0 holds) (step_stands id x written acked ended n s can.0 holds taken.0 h)

first_stands : (id : ℕ) (side : Side) (uni bi window stream_window send_window : ℕ) (fair : Bool)
    → Stand id [] (λ i. false) false 0 (new_streams side uni bi window stream_window send_window fair)
unfolding new_streams no_events times_finished
first_stands id side uni bi window stream_window send_window fair = record {
  carries = λ new. refl;
  side = tt;
  once = omega arith;
  over = λ some. absurd (omega (arith, some));
}

first_holds : (side : Side) (uni bi window stream_window send_window : ℕ) (fair : Bool) → Holds (new_streams side uni bi window stream_window send_window fair)
unfolding new_streams
first_holds side uni bi window stream_window send_window fair = at_first _

-- whatever happened, that a stream is finished is told once, and only where all of it was acknowledged
pub finished_is_told_once : (side : Side) (uni bi window stream_window send_window : ℕ) (fair : Bool) (xs : List Step)
    → FinishedIsToldOnce (new_streams side uni bi window stream_window send_window fair) xs
unfolding FinishedIsToldOnce
finished_is_told_once side uni bi window stream_window send_window fair xs can taken id =
    let s : StreamsState = new_streams side uni bi window stream_window send_window fair in
    let h = after_stands id xs [] (λ i. false) false 0 s can taken (first_holds side uni bi window stream_window send_window fair)
    (first_stands id side uni bi window stream_window send_window fair) in
    record {
      once = h.once;
      bytes = λ o some. (h.over some).bytes o;
      end = λ some. (h.over some).end;
    }

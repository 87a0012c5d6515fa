-- What a change of one stream, and what follows on it, makes of the stream with an id
use Rattle.std.proofs.Common.{◌≡◌, ◌∙◌, ℕ, ◌==◌, Bool, true, false, cond, not, ◌&&◌, List, [], ◌∷◌, Option, None, Some, is_some, ap, sym, subst, refl}
use Rattle.std.proofs.lemmas.Bool.{and_parts, false≢true}
use Rattle.std.specs.Prelude.{ℤ}
use Rattle.std.specs.Option.{option_map}
use Rattle.qc_recv.specs.declared.recv.Recv.{Recv}
use Rattle.qc_send_stream.specs.Buffer.{Buffer, has_bytes}
use Rattle.qc_send_stream.specs.declared.send.Reset.{Reset}
use Rattle.qc_send_stream.specs.declared.send.SendPart.{SendPart}
use Rattle.qc_send_stream.specs.declared.send.Standing.{Standing}
use Rattle.qc_send_stream.specs.Sending.{done_with, end_acked, is_done, unblocked}
use Rattle.qc_streams.specs.declared.state.StreamsState.{StreamsState}
use Rattle.qc_streams.specs.Blocked.{BlockedIds, is_below}
use Rattle.qc_streams.specs.Writable.{all_told, has_room, told_first, writables_told}
use Rattle.qc_streams.specs.declared.stream.Stream.{Stream}
use Rattle.qc_streams.specs.Lending.{AllRecords}
use Rattle.qc_streams.specs.StreamBytes.{place_again, turned}
use Rattle.qc_streams.specs.Records.{changed, on_some, record_of, without}
use Rattle.qc_streams.specs.Stream.{has_ended, is_over, receiving_over, sending_over, with_freed, with_receiving, with_sending}
use Rattle.qc_streams.specs.Streams.{forgotten, left_over, lingering, released, removed, settled, stops_later}
use Rattle.qc_streams.specs.Queues.{all_filed, dues_at, entered, filed, left, left_from, mark_off, placed, queue_one, queued, sets_filed, touched, turn_at, turn_filed, with_mark, with_turn}
use Rattle.qc_streams.specs.Waits.{Step, after_step}
use Rattle.qc_streams.proofs.Keyed.{Ascends, ascends_gone, ascends_set, gone_here, gone_other, same_id, set_other}
use Rattle.qc_streams.proofs.StepAt.{AlikeIf, ComesFrom, Done, Gone, IsStepped, Never, SendsAlike, SteppedAt, Stood, There, came_to, sent_to}
use Rattle.qc_streams.proofs.Waits.{here}

-- ---- a stream of which the sides stay, or that goes

-- the same bytes, end and reset are those of a third side too
same_alike : (o p : Option SendPart) → p ≡ o → AlikeIf o p
same_alike o p is = subst (λ (x : Option SendPart). AlikeIf o x) (sym is) (self o)
  where
    self : (o : Option SendPart) → AlikeIf o o
    self None = tt
    self (Some p) = record { buffer = refl; end = refl; reset = refl }

alike_then : (o p q : Option SendPart) → AlikeIf o p → AlikeIf p q → AlikeIf o q
alike_then None None None m n = tt
alike_then None None (Some c) m n = n
alike_then None (Some b) q m n = absurd m
alike_then (Some a) None q m n = absurd m
alike_then (Some a) (Some b) None m n = n
alike_then (Some a) (Some b) (Some c) m n = record { buffer = n.buffer ∙ m.buffer; end = n.end ∙ m.end; reset = n.reset ∙ m.reset }

-- nothing is left to be sent or acknowledged of a stream, where there is one
abbrev SentAll : Option Stream → Type 0
SentAll o = (st : Stream) (p : SendPart) → o ≡ Some st → st.sending ≡ Some p → is_done p ≡ true

pub data Later (o p : Option Stream) : Type 0 where
  Left : p ≡ None → SentAll o → Later o p
  Kept : (st now : Stream) → o ≡ Some st → p ≡ Some now → now.receiving ≡ st.receiving → AlikeIf st.sending now.sending → Later o p

some_is : (st now : Stream) → (let o : Option Stream = Some st in o) ≡ Some now → st ≡ now
some_is st now is = cc

none_some : {X : Type 0} (st : Stream) (o : Option Stream) → o ≡ None → o ≡ Some st → X
none_some st o none some = absurd (false≢true (ap (λ (x : Option Stream). is_some x) (sym none ∙ some)))

none_sent : (o : Option Stream) → o ≡ None → SentAll o
none_sent o none = λ st p is sends. none_some st o none is

-- a side with the same bytes, end and reset is done where the other is
done_alike : (p q : SendPart) → SendsAlike p q → is_done q ≡ is_done p
unfolding is_done
done_alike p q alike =
    ap (λ (r : Option Reset). done_with r (end_acked q.end && not (has_bytes q.buffer.kept))) alike.reset
    ∙ ap (λ (e : Option Standing). done_with p.reset (end_acked e && not (has_bytes q.buffer.kept))) alike.end
    ∙ ap (λ (b : Buffer). done_with p.reset (end_acked p.end && not (has_bytes b.kept))) alike.buffer

some_part : (a p : SendPart) → (let o : Option SendPart = Some a in o) ≡ Some p → a ≡ p
some_part a p is = cc

done_before : (o next : Option SendPart) → AlikeIf o next → (p : SendPart) → o ≡ Some p → ((q : SendPart) → next ≡ Some q → is_done q ≡ true) → is_done p ≡ true
done_before None next alike p is done = absurd (false≢true (ap (λ (x : Option SendPart). is_some x) is))
done_before (Some a) None alike p is done = absurd alike
done_before (Some a) (Some b) alike p is done = subst (λ (x : SendPart). is_done x ≡ true) (some_part a p is) (sym (done_alike a b alike) ∙ done b refl)

done_behind : (o next : Option SendPart) → AlikeIf o next → (q : SendPart) → next ≡ Some q → ((p : SendPart) → o ≡ Some p → is_done p ≡ true) → is_done q ≡ true
done_behind o None alike q is done = absurd (false≢true (ap (λ (x : Option SendPart). is_some x) is))
done_behind None (Some b) alike q is done = absurd alike
done_behind (Some a) (Some b) alike q is done = subst (λ (x : SendPart). is_done x ≡ true) (some_part b q is) (done_alike a b alike ∙ done a refl)

pub later_at : (o : Option Stream) → Later o o
later_at None = Left refl (none_sent None refl)
later_at (Some st) = Kept st st refl refl refl (same_alike st.sending st.sending refl)

pub later_same : (o p : Option Stream) → p ≡ o → Later o p
later_same o p is = subst (λ (x : Option Stream). Later o x) (sym is) (later_at o)

pub later_then : (o p q : Option Stream) → Later o p → Later p q → Later o q
later_then o p q (Left is sent) (Left none more) = Left none sent
later_then o p q (Left is sent) (Kept st now from to receiving sending) = none_some st p is from
later_then o p q (Kept st now from to receiving sending) (Left none sent) = Left none (λ other part is sends.
    done_before st.sending now.sending sending part (ap (λ (y : Stream). y.sending) (some_is st other (sym from ∙ is)) ∙ sends) (λ part_now then. sent now part_now to then))
later_then o p q (Kept st now from to receiving sending) (Kept st' now' from' to' receiving' sending') =
    let same : now ≡ st' = some_is now st' (sym to ∙ from') in
    Kept st now' from to' (receiving' ∙ ap (λ (x : Stream). x.receiving) (sym same) ∙ receiving)
    (alike_then st.sending now.sending now'.sending sending (subst (λ (x : Stream). AlikeIf x.sending now'.sending) (sym same) sending'))

-- where nothing was left of a stream, nothing is of what it comes to be
later_sent : (o p : Option Stream) → Later o p → SentAll o → SentAll p
later_sent o p (Left none all) sent = none_sent p none
later_sent o p (Kept st now from to receiving sending) sent = λ other part is sends.
    done_behind st.sending now.sending sending part (ap (λ (y : Stream). y.sending) (some_is now other (sym to ∙ is)) ∙ sends) (λ part_then then. sent st part_then from then)

-- ---- the map of streams

other-in : (f : Stream → Stream) (id j : ℕ) (all : AllRecords) (o : Option Stream) → (j == id) ≡ false → record_of id (on_some f j o all) ≡ record_of id all
other-in f id j all None apart = refl
other-in f id j all (Some st) apart = set_other j id all (f st) apart

pub changed_other : (f : Stream → Stream) (id j : ℕ) (all : AllRecords) → (j == id) ≡ false → record_of id (changed f j all) ≡ record_of id all
changed_other f id j all apart = other-in f id j all (record_of j all) apart

pub changed_here : (f : Stream → Stream) (id j : ℕ) (all : AllRecords) → (j == id) ≡ true → record_of id (changed f j all) ≡ option_map f (record_of id all)
changed_here f id j all is =
    subst (λ (k : ℕ). record_of id (changed f k all) ≡ option_map f (record_of id all)) (sym (same_id j id is)) (here f id all)

ascends-in : (f : Stream → Stream) (j : ℕ) (all : AllRecords) (o : Option Stream) → Ascends all → Ascends (on_some f j o all)
ascends-in f j all None order = order
ascends-in f j all (Some st) order = ascends_set j all (f st) order

pub ascends_changed : (f : Stream → Stream) (j : ℕ) (all : AllRecords) → Ascends all → Ascends (changed f j all)
ascends_changed f j all order = ascends-in f j all (record_of j all) order

mapped : (f : Stream → Stream) → ((st : Stream) → (f st).receiving ≡ st.receiving) → ((st : Stream) → AlikeIf st.sending (f st).sending) → (o : Option Stream)
    → Later o (option_map f o)
mapped f receiving sending None = Left refl (none_sent None refl)
mapped f receiving sending (Some st) = Kept st (f st) refl refl (receiving st) (sending st)

-- a stream changes, but for its sides: of the sending one its bytes, end and reset stay
later_alike : (f : Stream → Stream) → ((st : Stream) → (f st).receiving ≡ st.receiving) → ((st : Stream) → AlikeIf st.sending (f st).sending) → (id j : ℕ)
    (all : AllRecords) → Later (record_of id all) (record_of id (changed f j all))
later_alike f receiving sending id j all = by (j == id) refl
  where
    by : (b : Bool) → (j == id) ≡ b → Later (record_of id all) (record_of id (changed f j all))
    by true is = subst (λ (o : Option Stream). Later (record_of id all) o) (sym (changed_here f id j all is)) (mapped f receiving sending (record_of id all))
    by false is = later_same (record_of id all) (record_of id (changed f j all)) (changed_other f id j all is)

-- the same, where both sides stay
pub later_changed : (f : Stream → Stream) → ((st : Stream) → (f st).receiving ≡ st.receiving) → ((st : Stream) → (f st).sending ≡ st.sending) → (id j : ℕ)
    (all : AllRecords) → Later (record_of id all) (record_of id (changed f j all))
later_changed f receiving sending id j all = later_alike f receiving (λ st. same_alike st.sending (f st).sending (sending st)) id j all

-- a stream leaves of which nothing is left to be sent
later_gone : (id j : ℕ) (all : AllRecords) → Ascends all → SentAll (record_of j all) → Later (record_of id all) (record_of id (without j all))
later_gone id j all order sent = by (j == id) refl
  where
    by : (b : Bool) → (j == id) ≡ b → Later (record_of id all) (record_of id (without j all))
    by true is =
        Left (subst (λ (k : ℕ). record_of id (without k all) ≡ None) (sym (same_id j id is)) (gone_here id all order))
        (subst (λ (k : ℕ). SentAll (record_of k all)) (same_id j id is) sent)
    by false is = later_same (record_of id all) (record_of id (without j all)) (gone_other j id all is)

-- ---- marks, turns, and streams that leave

-- the streams of a state, and of another that comes from it by such changes
pub record Follows (s t : StreamsState) : Type 0 where
  pub order : Ascends s.records → Ascends t.records
  pub later : Ascends s.records → (id : ℕ) → Later (record_of id s.records) (record_of id t.records)

pub follows_same : (s t : StreamsState) → t.records ≡ s.records → Follows s t
follows_same s t is = record {
  order = λ o. subst (λ (all : AllRecords). Ascends all) (sym is) o;
  later = λ o id. later_same (record_of id s.records) (record_of id t.records) (ap (λ (all : AllRecords). record_of id all) is);
}

pub follows_then : (s t u : StreamsState) → Follows s t → Follows t u → Follows s u
follows_then s t u f g = record {
  order = λ o. g.order (f.order o);
  later = λ o id. later_then (record_of id s.records) (record_of id t.records) (record_of id u.records) (f.later o id) (g.later (f.order o) id);
}

marks-receiving : (b : Bool) (st : Stream) → (with_mark b st).receiving ≡ st.receiving
unfolding with_mark
marks-receiving b st = refl

marks-sending : (b : Bool) (st : Stream) → (with_mark b st).sending ≡ st.sending
unfolding with_mark
marks-sending b st = refl

turn-receiving : (turn : Option (ℤ × ℕ)) (st : Stream) → (with_turn turn st).receiving ≡ st.receiving
unfolding with_turn
turn-receiving turn st = refl

turn-sending : (turn : Option (ℤ × ℕ)) (st : Stream) → (with_turn turn st).sending ≡ st.sending
unfolding with_turn
turn-sending turn st = refl

mark_follows : (b : Bool) (id : ℕ) (s : StreamsState) → Follows s (record s { records = changed (with_mark b) id s.records })
mark_follows b id s = record {
  order = λ o. ascends_changed (with_mark b) id s.records o;
  later = λ o j. later_changed (with_mark b) (marks-receiving b) (marks-sending b) j id s.records;
}

turn_follows : (turn : Option (ℤ × ℕ)) (id : ℕ) (s : StreamsState) → Follows s (record s { records = changed (with_turn turn) id s.records })
turn_follows turn id s = record {
  order = λ o. ascends_changed (with_turn turn) id s.records o;
  later = λ o j. later_changed (with_turn turn) (turn-receiving turn) (turn-sending turn) j id s.records;
}

-- what follows on the same streams follows on any state with them
of_records : (s t u : StreamsState) → u.records ≡ t.records → Follows s t → Follows s u
of_records s t u is f = follows_then s t u f (follows_same t u is)

pub touched_follows : (id : ℕ) (s : StreamsState) → Follows s (touched id s)
unfolding touched
touched_follows id s = of_records s (record s { records = changed (with_mark true) id s.records }) _ refl (mark_follows true id s)

queue-receiving : (n : ℕ) (st : Stream) → (queue_one n st).receiving ≡ st.receiving
unfolding queue_one
queue-receiving n st = refl

queue-sending : (n : ℕ) (st : Stream) → (queue_one n st).sending ≡ st.sending
unfolding queue_one
queue-sending n st = refl

queue_follows : (n id : ℕ) (s : StreamsState) → Follows s (record s { records = changed (queue_one n) id s.records })
queue_follows n id s = record {
  order = λ o. ascends_changed (queue_one n) id s.records o;
  later = λ o j. later_changed (queue_one n) (queue-receiving n) (queue-sending n) j id s.records;
}

queued_follows : (id : ℕ) (s : StreamsState) → Follows s (queued id s)
unfolding queued
queued_follows id s = of_records s (record s { records = changed (queue_one s.waiting.turns) id s.records }) _ refl (queue_follows s.waiting.turns id s)

-- a stream began to wait, and is marked
pub noted_follows : (id : ℕ) (s : StreamsState) → Follows s (touched id (queued id s))
noted_follows id s = follows_then s (queued id s) (touched id (queued id s)) (queued_follows id s) (touched_follows id (queued id s))

left_from_follows : (turn : Option (ℤ × ℕ)) (id : ℕ) (s : StreamsState) → Follows s (left_from turn id s)
left_from_follows None id s = follows_same s s refl
left_from_follows (Some place) id s = of_records s (record s { records = changed (with_turn None) id s.records }) _ refl (turn_follows None id s)

left_sent : (id : ℕ) (s : StreamsState) → SentAll (record_of id s.records) → SentAll (record_of id (left id s).records)
unfolding left
left_sent id s sent = by (turn_at (record_of id s.records))
  where
    by : (turn : Option (ℤ × ℕ)) → SentAll (record_of id (left_from turn id s).records)
    by None = sent
    by (Some place) =
        later_sent (record_of id s.records) (record_of id (changed (with_turn None) id s.records))
        (later_changed (with_turn None) (turn-receiving None) (turn-sending None) id id s.records) sent

left_follows : (id : ℕ) (s : StreamsState) → Follows s (left id s)
unfolding left
left_follows id s = left_from_follows (turn_at (record_of id s.records)) id s

entered_follows : (place : ℤ × ℕ) (id : ℕ) (s : StreamsState) → Follows s (entered place id s)
unfolding entered
entered_follows place id s = of_records s (record s { records = changed (with_turn (Some place)) id s.records }) _ refl (turn_follows (Some place) id s)

removed_follows : (id : ℕ) (s : StreamsState) → SentAll (record_of id s.records) → Follows s (removed id s)
unfolding removed
removed_follows id s sent = record { order = λ o. ascends_gone id s.records o; later = λ o j. later_gone j id s.records o sent }

released_follows : (id : ℕ) (s : StreamsState) → SentAll (record_of id s.records) → Follows s (released id s)
unfolding released forgotten
released_follows id s sent =
    follows_then s (left id (forgotten id s)) (removed id (left id (forgotten id s)))
    (follows_then s (forgotten id s) (left id (forgotten id s)) (follows_same s (forgotten id s) refl) (left_follows id (forgotten id s)))
    (removed_follows id (left id (forgotten id s)) (left_sent id (forgotten id s) sent))

freed-receiving : (st : Stream) → (with_freed st).receiving ≡ st.receiving
unfolding with_freed
freed-receiving st = refl

freed-sending : (st : Stream) → (with_freed st).sending ≡ st.sending
unfolding with_freed
freed-sending st = refl

freed_follows : (id : ℕ) (s : StreamsState) → Follows s (record s { records = changed with_freed id s.records })
freed_follows id s = record {
  order = λ o. ascends_changed with_freed id s.records o;
  later = λ o j. later_changed with_freed freed-receiving freed-sending j id s.records;
}

lingering_follows : (id : ℕ) (s : StreamsState) → Follows s (lingering id s)
unfolding lingering
lingering_follows id s = follows_then s _ (lingering id s) (of_records s (record s { records = changed with_freed id s.records }) _ refl (freed_follows id s)) (touched_follows id _)

-- of one that has ended nothing is left
ended_sent : (o : Option Stream) → has_ended o ≡ true → SentAll o
unfolding is_over
ended_sent None is = none_sent None refl
ended_sent (Some st) is = λ other part same sends.
    ap (λ (p : Option SendPart). sending_over p) (sym (ap (λ (y : Stream). y.sending) (some_is st other same) ∙ sends)) ∙ (and_parts (receiving_over st.receiving) (sending_over st.sending) is).1

pub settled_follows : (id : ℕ) (s : StreamsState) → Follows s (settled id s)
unfolding settled
settled_follows id s = by (has_ended (record_of id s.records)) (stops_later (record_of id s.records)) refl
  where
    by : (b c : Bool) → has_ended (record_of id s.records) ≡ b → Follows s (cond b (cond c (lingering id s) (released id s)) (touched id s))
    by true true is = lingering_follows id s
    by true false is = released_follows id s (ended_sent (record_of id s.records) is)
    by false c is = touched_follows id s

pub left_over_follows : (id : ℕ) (s : StreamsState) → Follows s (left_over id s)
unfolding left_over
left_over_follows id s = by (has_ended (record_of id s.records)) refl
  where
    by : (b : Bool) → has_ended (record_of id s.records) ≡ b → Follows s (cond b (released id s) s)
    by true is = released_follows id s (ended_sent (record_of id s.records) is)
    by false is = follows_same s s refl

turn_filed_follows : (owes : Bool) (turn : Option (ℤ × ℕ)) (id : ℕ) (s : StreamsState) → Follows s (turn_filed owes turn id s)
turn_filed_follows true None id s = entered_follows _ id s
turn_filed_follows true (Some place) id s = follows_same s s refl
turn_filed_follows false turn id s = left_follows id s

placed_follows : (id : ℕ) (s : StreamsState) → Follows s (placed id s)
unfolding placed
placed_follows id s =
    let t : StreamsState = record s { waiting = sets_filed (dues_at (record_of id s.records)) id s.waiting } in
    follows_then s t (placed id s) (follows_same s t refl)
    (turn_filed_follows (dues_at (record_of id s.records)).bytes (turn_at (record_of id s.records)) id t)

mark_off_follows : (id : ℕ) (s : StreamsState) → Follows s (mark_off id s)
unfolding mark_off
mark_off_follows id s = of_records s (record s { records = changed (with_mark false) id s.records }) _ refl (mark_follows false id s)

filed_follows : (id : ℕ) (s : StreamsState) → Follows s (filed id s)
unfolding filed
filed_follows id s = follows_then s (mark_off id s) (placed id (mark_off id s)) (mark_off_follows id s) (placed_follows id (mark_off id s))

pub all_filed_follows : (ids : List ℕ) (s : StreamsState) → Follows s (all_filed ids s)
unfolding all_filed
all_filed_follows [] s = follows_same s s refl
all_filed_follows (id ∷ ids) s = follows_then s (filed id s) (all_filed ids (filed id s)) (filed_follows id s) (all_filed_follows ids (filed id s))

-- that streams can be written on again is told

unblocked_sending : (st : Stream) → AlikeIf st.sending (with_sending unblocked st).sending
unfolding with_sending unblocked
unblocked_sending st = by st.sending
  where
    by : (o : Option SendPart) → AlikeIf o (option_map unblocked o)
    by None = tt
    by (Some p) = record { buffer = refl; end = refl; reset = refl }

unblocked_receiving : (st : Stream) → (with_sending unblocked st).receiving ≡ st.receiving
unfolding with_sending
unblocked_receiving st = refl

told_first_follows : (x : ℕ × ℕ) (xs : BlockedIds) (s : StreamsState) → Follows s (told_first x xs s)
told_first_follows x xs s = record {
  order = λ o. ascends_changed (with_sending unblocked) x.0 s.records o;
  later = λ o j. later_alike (with_sending unblocked) unblocked_receiving unblocked_sending j x.0 s.records;
}

all_told_follows : (below : Option ℕ) (ids : BlockedIds) (s : StreamsState) → Follows s (all_told below ids s)
unfolding all_told
all_told_follows below [] s = follows_same s s refl
all_told_follows below (x ∷ xs) s = by (is_below below x.1) (all_told_follows below xs (told_first x xs s))
  where
    by : (b : Bool) → Follows (told_first x xs s) (all_told below xs (told_first x xs s)) → Follows s (cond b (all_told below xs (told_first x xs s)) s)
    by true rest = follows_then s (told_first x xs s) (all_told below xs (told_first x xs s)) (told_first_follows x xs s) rest
    by false rest = follows_same s s refl

pub told_follows : (below : Option ℕ) (s : StreamsState) → Follows s (writables_told below s)
unfolding writables_told
told_follows below s = by (has_room s)
  where
    by : (b : Bool) → Follows s (cond b (all_told below s.blocked s) s)
    by true = all_told_follows below s.blocked s
    by false = follows_same s s refl

pub turned_follows : (id : ℕ) (s : StreamsState) → Follows s (turned id s)
unfolding turned
turned_follows id s = by (dues_at (record_of id s.records)).bytes
  where
    by : (b : Bool) → Follows s (cond b (entered (place_again id (left id s)) id (left id s)) (left id s))
    by true = follows_then s (left id s) _ (left_follows id s) (entered_follows _ id (left id s))
    by false = left_follows id s

-- ---- a step that changes a stream

pointwise : {X : Type 0} (g h : X → X) → ((x : X) → h x ≡ g x) → (o : Option X) → option_map g o ≡ option_map h o
pointwise g h same None = refl
pointwise g h same (Some x) = ap (λ (y : _). Some y) (sym (same x))

alike_of : (f g : SendPart → SendPart) → ((p : SendPart) → SendsAlike (f p) (g p)) → (o : Option SendPart) → AlikeIf (option_map f o) (option_map g o)
alike_of f g alike None = tt
alike_of f g alike (Some p) = alike p

alike_still : (f : SendPart → SendPart) → ((p : SendPart) → SendsAlike (f p) p) → (o : Option SendPart) → AlikeIf (option_map f o) o
alike_still f alike None = tt
alike_still f alike (Some p) = alike p

still_option : {X : Type 0} (h : X → X) → ((x : X) → h x ≡ x) → (o : Option X) → o ≡ option_map h o
still_option h same None = refl
still_option h same (Some x) = ap (λ (y : _). Some y) (sym (same x))

-- a receiving side changes
pub recv_step : (id : ℕ) (x : Step) (g : Recv → Recv) → ((r : Recv) → came_to id x r ≡ g r) → ((p : SendPart) → SendsAlike (sent_to id x p) p) → (st : Stream)
    → IsStepped id x st (with_receiving g st)
unfolding with_receiving
recv_step id x g came sent st = record { receiving = pointwise g (came_to id x) came st.receiving; sending = alike_still (sent_to id x) sent st.sending }

-- a sending side does
pub send_step : (id : ℕ) (x : Step) (g : SendPart → SendPart) → ((r : Recv) → came_to id x r ≡ r) → ((p : SendPart) → SendsAlike (sent_to id x p) (g p))
    → (st : Stream) → IsStepped id x st (with_sending g st)
unfolding with_sending
send_step id x g came sent st = record { receiving = still_option (came_to id x) came st.receiving; sending = alike_of (sent_to id x) g sent st.sending }

-- neither does
pub rest_step : (id : ℕ) (x : Step) → ((r : Recv) → came_to id x r ≡ r) → ((p : SendPart) → SendsAlike (sent_to id x p) p) → (st : Stream) → IsStepped id x st st
rest_step id x came sent st = record { receiving = still_option (came_to id x) came st.receiving; sending = alike_still (sent_to id x) sent st.sending }

-- what follows leaves the sides
stepped_then : (id : ℕ) (x : Step) (st mid now : Stream) → now.receiving ≡ mid.receiving → AlikeIf mid.sending now.sending → IsStepped id x st mid
    → IsStepped id x st now
stepped_then id x st mid now receiving sending h = record {
  receiving = receiving ∙ h.receiving;
  sending = alike_then (option_map (sent_to id x) st.sending) mid.sending now.sending h.sending sending;
}

-- a stream of which it is known where it comes from, and what the step made of it
pub stepped_from : (id : ℕ) (x : Step) (s : StreamsState) (st mid : Stream) (o : Option Stream) → ComesFrom id s st → IsStepped id x st mid → o ≡ Some mid
    → Later o (record_of id (after_step x s).records) → SteppedAt id x s
stepped_from id x s st mid o from made is (Left none sent) =
    Gone none (Done st from (λ p sends. done_before (option_map (sent_to id x) st.sending) mid.sending made.sending (sent_to id x p) (ap (λ (y : Option SendPart). option_map (sent_to id x) y) sends) (λ q then. sent mid q is then)))
stepped_from id x s st mid o from made is (Kept old now was be receiving sending) =
    let same : mid ≡ old = some_is mid old (sym is ∙ was) in
    There st now from
    (stepped_then id x st mid now (receiving ∙ ap (λ (y : Stream). y.receiving) (sym same))
    (subst (λ (y : Stream). AlikeIf y.sending now.sending) (sym same) sending) made) be

-- where there was none there is none
pub stepped_none : (id : ℕ) (x : Step) (s : StreamsState) (o : Option Stream) → record_of id s.records ≡ None → o ≡ None → Later o (record_of id (after_step x s).records) → SteppedAt id x s
stepped_none id x s o never is (Left none sent) = Gone none (Never never)
stepped_none id x s o never is (Kept old now was be receiving sending) = none_some old o is was

-- the stream with an id changes, and more follows
pub stepped_changed : (id j : ℕ) (x : Step) (s : StreamsState) (f : Stream → Stream) → ((j == id) ≡ true → (st : Stream) → IsStepped id x st (f st))
    → ((j == id) ≡ false → (st : Stream) → IsStepped id x st st) → Later (record_of id (changed f j s.records)) (record_of id (after_step x s).records)
    → SteppedAt id x s
stepped_changed id j x s f makes rests later = by (j == id) refl (record_of id s.records) refl
  where
    by : (b : Bool) → (j == id) ≡ b → (o : Option Stream) → record_of id s.records ≡ o → SteppedAt id x s
    by true is None none = stepped_none id x s _ none (changed_here f id j s.records is ∙ ap (λ (o : Option Stream). option_map f o) none) later
    by true is (Some st) some =
        stepped_from id x s st (f st) _ (Stood some) (makes is st) (changed_here f id j s.records is ∙ ap (λ (o : Option Stream). option_map f o) some) later
    by false is None none = stepped_none id x s _ none (changed_other f id j s.records is ∙ none) later
    by false is (Some st) some = stepped_from id x s st st _ (Stood some) (rests is st) (changed_other f id j s.records is ∙ some) later

-- no stream changes
pub stepped_still : (id : ℕ) (x : Step) (s : StreamsState) → ((st : Stream) → IsStepped id x st st)
    → Later (record_of id s.records) (record_of id (after_step x s).records) → SteppedAt id x s
stepped_still id x s rests later = by (record_of id s.records) refl
  where
    by : (o : Option Stream) → record_of id s.records ≡ o → SteppedAt id x s
    by None none = stepped_none id x s _ none none later
    by (Some st) some = stepped_from id x s st st _ (Stood some) (rests st) some later

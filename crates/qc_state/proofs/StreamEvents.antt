-- The events of the streams: the first that waits, and those behind it.
use Rattle.std.proofs.Common.{◌≡◌, suc, Bool, true, false, List, [], ◌∷◌, ◌++◌, ◌<◌, length, refl, ap, sym, ◌∙◌, None, Some, append_assoc, append-nil, arith}
use Rattle.std.specs.Prelude.{map, drop, if◌then◌else◌}
use Rattle.qc_base.specs.declared.side.Dir.TheVariants.{Bi, Uni}
use Rattle.qc_streams.specs.Counts.{opening_told}
use Rattle.qc_streams.specs.Events.{first_event, first_dropped}
use Rattle.qc_streams.specs.Owed.{next_event, polled, told_opened}
use Rattle.qc_streams.specs.Waits as streams
use Rattle.qc_streams.specs.declared.events.StreamEvent.{StreamEvent}
use Rattle.qc_streams.specs.declared.events.StreamEvent.TheVariants.{Opened}
use Rattle.qc_streams.specs.declared.state.StreamsState.{StreamsState}
use Rattle.qc_state.specs.Streams.{asked_for, events_of, opened_if}
use Rattle.qc_state.specs.declared.events.Event.{Event}
use Rattle.qc_state.specs.declared.events.Event.TheVariants.{Stream}

-- the first of those that wait, where there is one
items_first : (es : List StreamEvent) (e : StreamEvent) → first_event es ≡ Some e → es ≡ e ∷ drop 1 es
items_first [] e h = cc
items_first (x ∷ es) e h = cc

items_none : (es : List StreamEvent) → first_event es ≡ None → es ≡ []
items_none [] h = refl
items_none (x ∷ es) h = cc

-- they are asked for one, where the peer opened streams of these kinds or not
first_by : (s : StreamsState) (bi uni : Bool) (e : StreamEvent) → s.peer.bi.tells ≡ bi → s.peer.uni.tells ≡ uni →
    (if bi then Some (Opened Bi) else if uni then Some (Opened Uni) else first_event s.events.items) ≡ Some e →
    opened_if bi (Opened Bi) ++ (opened_if uni (Opened Uni) ++ s.events.items) ≡ e ∷ events_of (if bi then told_opened Bi s else if uni then told_opened Uni s else record s { events = first_dropped s.events })
unfolding told_opened events_of opening_told first_dropped
first_by s true uni e b u h = rw u (cc h)
first_by s false true e b u h = rw b (cc h)
first_by s false false e b u h = rw b (rw u (items_first s.events.items e h))

-- the first that waits, and those that wait behind it
pub next_first : (s : StreamsState) (e : StreamEvent) → next_event s ≡ Some e → events_of s ≡ e ∷ events_of (polled s)
unfolding next_event polled events_of
next_first s e h = first_by s s.peer.bi.tells s.peer.uni.tells e refl refl h

-- none waits
none_by : (s : StreamsState) (bi uni : Bool) → (if bi then Some (Opened Bi) else if uni then Some (Opened Uni) else first_event s.events.items) ≡ None →
    (opened_if bi (Opened Bi) ++ (opened_if uni (Opened Uni) ++ s.events.items) ≡ []) × ((if bi then told_opened Bi s else if uni then told_opened Uni s else record s { events = first_dropped s.events }) ≡ s)
unfolding first_dropped
none_by s true uni h = cc h
none_by s false true h = cc h
none_by s false false h =
    let none : s.events.items ≡ [] = items_none s.events.items h in
    (none, ap (λ (es : List StreamEvent). record s { events = record s.events { items = drop 1 es } }) none ∙ sym (ap (λ (es : List StreamEvent). record s { events = record s.events { items = es } }) none))

pub next_none : (s : StreamsState) → next_event s ≡ None → events_of s ≡ []
unfolding next_event events_of
next_none s h = (none_by s s.peer.bi.tells s.peer.uni.tells h).0

-- then asking changes nothing
pub polled_none : (s : StreamsState) → next_event s ≡ None → polled s ≡ s
unfolding next_event polled
polled_none s h = (none_by s s.peer.bi.tells s.peer.uni.tells h).1

-- ---- they are asked until none waits

-- one that was told stands behind the others
pub told_more : (s t u : StreamsState) (e : StreamEvent) (before events more : List Event) → next_event s ≡ Some e → t ≡ polled s → more ≡ events ++ Stream e ∷ [] →
    events ++ map Stream (events_of s) ≡ before ++ map Stream (events_of u) → more ++ map Stream (events_of t) ≡ before ++ map Stream (events_of u)
told_more s t u e before events more first is is_more h =
    ap (λ (es : List Event). es ++ map Stream (events_of t)) is_more ∙ append_assoc events (Stream e ∷ []) (map Stream (events_of t))
    ∙ ap (λ (x : StreamsState). events ++ Stream e ∷ map Stream (events_of x)) is ∙ sym (ap (λ (es : List StreamEvent). events ++ map Stream es) (next_first s e first)) ∙ h

-- what is left to be told
pub left_same : (s t u : StreamsState) (e : StreamEvent) → next_event s ≡ Some e → t ≡ polled s → streams.after (asked_for (length (events_of s))) s ≡ u → streams.after (asked_for (length (events_of t))) t ≡ u
unfolding streams.after streams.after_step
left_same s t u e first is h =
    ap (λ (x : StreamsState). streams.after (asked_for (length (events_of x))) x) is ∙ sym (ap (λ (es : List StreamEvent). streams.after (asked_for (length es)) s) (next_first s e first)) ∙ h

-- fewer are
pub fewer_left : (s t : StreamsState) (e : StreamEvent) → next_event s ≡ Some e → t ≡ polled s → length (events_of t) < length (events_of s)
fewer_left s t e first is =
    let same : length (events_of s) ≡ suc (length (events_of t)) = ap (λ (es : List StreamEvent). length es) (next_first s e first) ∙ sym (ap (λ (x : StreamsState). suc (length (events_of x))) is) in
    omega (arith, same)

-- where none waits all are told
pub all_told : (s u : StreamsState) (before events : List Event) → next_event s ≡ None → events ++ map Stream (events_of s) ≡ before ++ map Stream (events_of u) → events ≡ before ++ map Stream (events_of u)
all_told s u before events none h = sym (append-nil events) ∙ sym (ap (λ (es : List StreamEvent). events ++ map Stream es) (next_none s none)) ∙ h

pub none_left : (s t u : StreamsState) → next_event s ≡ None → t ≡ polled s → streams.after (asked_for (length (events_of s))) s ≡ u → t ≡ u
unfolding streams.after
none_left s t u none is h = is ∙ polled_none s none ∙ sym (ap (λ (es : List StreamEvent). streams.after (asked_for (length es)) s) (next_none s none)) ∙ h

-- Where the streams were asked for events until none waits, asking them again changes nothing.
use Rattle.std.proofs.Common.{◌≡◌, ℕ, zero, suc, List, length, refl, ap, Option, Some, None, arith}
use Rattle.qc_streams.specs.declared.events.StreamEvent.{StreamEvent}
use Rattle.qc_streams.specs.declared.state.StreamsState.{StreamsState}
use Rattle.qc_streams.specs.Owed.{next_event, polled}
use Rattle.qc_streams.specs.Waits.{after, after_step}
use Rattle.qc_state.specs.declared.lower.Lower.{Lower}
use Rattle.qc_state.specs.Lower.{events_told, streams_stepped}
use Rattle.qc_state.specs.Streams.{asked_for, events_of}
use Rattle.qc_state.proofs.StreamEvents.{next_first, next_none}

-- asked as often as events wait, they have none left
asked_out : (n : ℕ) (s : StreamsState) (o : Option StreamEvent) → next_event s ≡ o → length (events_of s) ≡ n → next_event (after (asked_for n) s) ≡ None
unfolding after after_step
asked_out zero s None is count = is
asked_out zero s (Some e) is count =
    let more : length (events_of s) ≡ suc (length (events_of (polled s))) = ap (λ (es : List StreamEvent). length es) (next_first s e is) in
    absurd (omega (arith, count, more))
asked_out (suc n) s None is count =
    let none : length (events_of s) ≡ 0 = ap (λ (es : List StreamEvent). length es) (next_none s is) in
    absurd (omega (arith, count, none))
asked_out (suc n) s (Some e) is count =
    let more : length (events_of s) ≡ suc (length (events_of (polled s))) = ap (λ (es : List StreamEvent). length es) (next_first s e is) in
    asked_out n (polled s) (next_event (polled s)) refl (omega (arith, count, more))

-- they were asked until none waits
abbrev asked_all : StreamsState → StreamsState
asked_all s = after (asked_for (length (events_of s))) s

asked_again : (s : StreamsState) → asked_all (asked_all s) ≡ asked_all s
unfolding after
asked_again s = ap (λ (es : List StreamEvent). after (asked_for (length es)) (asked_all s)) (next_none (asked_all s) (asked_out (length (events_of s)) s (next_event s) refl refl))

pub told_again : {S : Type 0} → (l : Lower S) → events_told (events_told l) ≡ events_told l
unfolding events_told streams_stepped
told_again l = ap (λ (s : StreamsState). record l { streams = s }) (asked_again l.streams)

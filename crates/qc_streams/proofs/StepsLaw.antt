-- Steps one behind the other, frames that come as steps, and that what is drawn waited
use Rattle.std.proofs.Common.{◌≡◌, ℕ, ◌-◌, ◌<◌, Bool, true, false, cond, nat_le, nat_lt, List, [], ◌∷◌, ◌++◌, Option, None, Some, ap, sym, subst, arith, refl}
use Rattle.std.specs.Option.{option_map}
use Rattle.std.proofs.lemmas.Bool.Decides.{nat_tests}
use Rattle.qc_base.specs.declared.side.Dir.TheVariants.{Bi, Uni}
use Rattle.qc_send_stream.specs.declared.send.Part.{Part}
use Rattle.qc_turns.specs.Ids.{first_id}
use Rattle.qc_streams.specs.declared.control.Control.{Control}
use Rattle.qc_streams.specs.declared.fault.Refusal.{Refusal}
use Rattle.qc_streams.specs.declared.parts.StreamPart.{StreamPart}
use Rattle.qc_streams.specs.declared.state.StreamsState.{StreamsState}
use Rattle.qc_streams.specs.declared.stream.Stream.{Stream as StreamRecord}
use Rattle.qc_streams.specs.Carried.{AreAnswered, IsAnswered}
use Rattle.qc_streams.specs.Control.{control_len, credit_of, data_with, gone_stop, if_fits, next_control, of_first, or_else, reset_of, stop_of, streams_with}
use Rattle.qc_streams.specs.Owed.{max_data_owed, max_streams_owed}
use Rattle.qc_streams.specs.StreamBytes.{IsDrawn, IsOfferAt, IsTurn, part_on}
use Rattle.qc_streams.specs.Records.{record_of}
use Rattle.qc_streams.specs.Steps.{AllMay, Handed, IsOffered, IsOwed, IsSealedSo, MaxData, MaxStreamData, MaxStreams, NamesStream, OwesData, OwesGoneStop, OwesReset, OwesStop, OwesStreamData, OwesStreams, ResetStream, StopSending, Stream, StreamDataBlocked, StreamsBlocked, came, handed, refusal_of, steps_of, unless_refused}
use Rattle.qc_streams.specs.Waits.{ArePossible, IsPossible, Step, after, after_step}
use Rattle.qc_streams.specs.Within.{AreTaken, IsTaken}

-- ---- steps one behind the other

-- what they leave
pub after_append : (xs ys : List Step) (s : StreamsState) → after (xs ++ ys) s ≡ after ys (after xs s)
unfolding after
after_append [] ys s = refl
after_append (x ∷ xs) ys s = after_append xs ys (after_step x s)

-- they may be
pub may_append : (xs ys : List Step) (s : StreamsState) → AllMay xs s → AllMay ys (after xs s) → AllMay (xs ++ ys) s
unfolding after AllMay
may_append [] ys s may then = then
may_append (x ∷ xs) ys s may then = (may.0, may_append xs ys (after_step x s) may.1 then)

-- so each law holds of steps that may be
pub may_possible : (xs : List Step) (s : StreamsState) → AllMay xs s → ArePossible xs
unfolding AllMay ArePossible
may_possible [] s may = tt
may_possible (x ∷ xs) s may = (may.0.possible, may_possible xs (after_step x s) may.1)

pub may_taken : (xs : List Step) (s : StreamsState) → AllMay xs s → AreTaken xs s
unfolding AllMay AreTaken
may_taken [] s may = tt
may_taken (x ∷ xs) s may = (may.0.taken, may_taken xs (after_step x s) may.1)

pub may_answered : (xs : List Step) (s : StreamsState) → AllMay xs s → AreAnswered xs s
unfolding AllMay AreAnswered
may_answered [] s may = tt
may_answered (x ∷ xs) s may = (may.0.answered, may_answered xs (after_step x s) may.1)

-- ---- frames that come

-- a refused one changes nothing
pub handed_refused : (f : Handed) (s : StreamsState) (e : Refusal) → refusal_of f s ≡ Some e → handed f s ≡ s
unfolding handed steps_of after
handed_refused f s e is = ap (λ (o : Option Refusal). after (unless_refused o (came f)) s) is

-- any other makes its step
pub handed_taken : (f : Handed) (s : StreamsState) → refusal_of f s ≡ None → handed f s ≡ after (came f) s
unfolding handed steps_of
handed_taken f s is = ap (λ (o : Option Refusal). after (unless_refused o (came f)) s) is

came_may : (f : Handed) (s : StreamsState) → NamesStream f → refusal_of f s ≡ None → AllMay (came f) s
unfolding came refusal_of NamesStream AllMay IsPossible IsTaken IsAnswered IsSealedSo
came_may (Stream id o bs last) s names is = (record { possible = names; taken = is; answered = tt; sealed = tt }, tt)
came_may (ResetStream id code size) s names is = (record { possible = names; taken = is; answered = tt; sealed = tt }, tt)
came_may (StopSending id code) s names is = (record { possible = names; taken = is; answered = tt; sealed = tt }, tt)
came_may (MaxStreamData id limit) s names is = (record { possible = names; taken = is; answered = tt; sealed = tt }, tt)
came_may (MaxStreams dir n) s names is = (record { possible = tt; taken = tt; answered = tt; sealed = tt }, tt)
came_may (MaxData limit) s names is = (record { possible = tt; taken = tt; answered = tt; sealed = tt }, tt)
came_may (StreamDataBlocked id) s names is = tt
came_may (StreamsBlocked n) s names is = tt

-- the steps of a frame may be, refused or not
pub handed_may : (f : Handed) (s : StreamsState) → NamesStream f → AllMay (steps_of f s) s
unfolding steps_of AllMay
handed_may f s names = by (refusal_of f s) refl
  where
    by : (o : Option Refusal) → refusal_of f s ≡ o → AllMay (unless_refused o (came f)) s
    by None is = came_may f s names is
    by (Some e) is = tt

-- ---- what is drawn waited

turn-offers : (most : ℕ) (o : Option ℕ) (s : StreamsState) (d : StreamPart) → 0 < most → IsTurn most o s (Some d) → IsOffered d s
unfolding IsTurn
turn-offers most None s d some drawn = absurd (cc)
turn-offers most (Some id) s d some drawn = by drawn.0 drawn.1 drawn.2
  where
    by : (part : Option Part) → IsOfferAt most (record_of id s.records) part → Some d ≡ option_map (part_on id) part → IsOffered d s
    by None offers is = absurd (cc)
    by (Some part) offers is =
        let same : part_on id part ≡ d = let back : d ≡ part_on id part = cc in sym back in
        subst (λ (d : StreamPart). IsOffered d s) same (record { most = most; some = some; offers = offers })

no-turn : (most : ℕ) (s : StreamsState) (d : StreamPart) → IsTurn most None s (Some d) → IsOffered d s
unfolding IsTurn
no-turn most s d drawn = absurd (cc)

drawn-room : (b : Bool) (room : ℕ) (o : Option ℕ) (s : StreamsState) (d : StreamPart) → nat_lt 19 room ≡ b → IsTurn (room - 19) (cond b o None) s (Some d)
    → IsOffered d s
drawn-room true room o s d is drawn = turn-offers (room - 19) o s d (grind (arith, nat_tests)) drawn
drawn-room false room o s d is drawn = no-turn (room - 19) s d drawn

-- what is drawn of a stream was offered
pub drawn_offers : (room : ℕ) (s : StreamsState) (d : StreamPart) → IsDrawn room s (Some d) → IsOffered d s
unfolding IsDrawn
drawn_offers room s d drawn = drawn-room (nat_lt 19 room) room _ s d refl drawn

from-or : (a b : Option Control) (c : Control) (P : Type 0) → or_else a b ≡ Some c → (a ≡ Some c → P) → (b ≡ Some c → P) → P
from-or None b c P is first second = second is
from-or (Some x) b c P is first second = first is

from-cond : (b : Bool) (x c : Control) → cond b (Some x) None ≡ Some c → Some x ≡ Some c
from-cond true x c is = is
from-cond false x c is = absurd (cc)

from-fits : (room : ℕ) (o : Option Control) (c : Control) → if_fits room o ≡ Some c → o ≡ Some c
from-fits room None c is = is
from-fits room (Some x) c is = from-cond (nat_le (control_len x) room) x c is

from-first : (f : ℕ → Option StreamRecord → Option Control) (o : Option ℕ) (s : StreamsState) (c : Control) → of_first f o s ≡ Some c
    → (id : ℕ) × (f id (record_of id s.records) ≡ Some c)
from-first f None s c is = absurd (cc)
from-first f (Some id) s c is = (id, is)

-- what each row of the order is
of-reset : (room : ℕ) (s : StreamsState) (c : Control) → if_fits room (of_first reset_of (first_id s.waiting.resets) s) ≡ Some c → IsOwed c s
of-reset room s c is =
    let found : (id : ℕ) × (reset_of id (record_of id s.records) ≡ Some c) =
    from-first reset_of (first_id s.waiting.resets) s c (from-fits room (of_first reset_of (first_id s.waiting.resets) s) c is) in
    OwesReset found.0 found.1

of-stop : (room : ℕ) (s : StreamsState) (c : Control) → if_fits room (of_first stop_of (first_id s.waiting.stops) s) ≡ Some c → IsOwed c s
of-stop room s c is =
    let found : (id : ℕ) × (stop_of id (record_of id s.records) ≡ Some c) =
    from-first stop_of (first_id s.waiting.stops) s c (from-fits room (of_first stop_of (first_id s.waiting.stops) s) c is) in
    OwesStop found.0 found.1

of-credit : (room : ℕ) (s : StreamsState) (c : Control) → if_fits room (of_first credit_of (first_id s.waiting.credits) s) ≡ Some c → IsOwed c s
of-credit room s c is =
    let found : (id : ℕ) × (credit_of id (record_of id s.records) ≡ Some c) =
    from-first credit_of (first_id s.waiting.credits) s c (from-fits room (of_first credit_of (first_id s.waiting.credits) s) c is) in
    OwesStreamData found.0 found.1

-- a frame without bytes that is drawn was owed
pub next_owes : (room : ℕ) (s : StreamsState) (c : Control) → next_control room s ≡ Some c → IsOwed c s
unfolding next_control
next_owes room s c is =
    from-or (if_fits room (of_first reset_of (first_id s.waiting.resets) s)) after-resets c (IsOwed c s) is (of-reset room s c)
    (λ is. from-or (if_fits room (of_first stop_of (first_id s.waiting.stops) s)) after-stops c (IsOwed c s) is (of-stop room s c)
    (λ is. from-or (if_fits room (gone_stop s)) after-gone c (IsOwed c s) is (λ is. OwesGoneStop (from-fits room (gone_stop s) c is))
    (λ is. from-or (if_fits room (data_with (max_data_owed s))) after-data c (IsOwed c s) is
    (λ is. OwesData (from-fits room (data_with (max_data_owed s)) c is))
    (λ is. from-or (if_fits room (of_first credit_of (first_id s.waiting.credits) s)) after-credits c (IsOwed c s) is (of-credit room s c)
    (λ is. from-or (if_fits room (streams_with Bi (max_streams_owed Bi s))) (if_fits room (streams_with Uni (max_streams_owed Uni s))) c (IsOwed c s) is
    (λ is. OwesStreams Bi (from-fits room (streams_with Bi (max_streams_owed Bi s)) c is))
    (λ is. OwesStreams Uni (from-fits room (streams_with Uni (max_streams_owed Uni s)) c is)))))))
  where
    after-credits : Option Control
    after-credits = or_else (if_fits room (streams_with Bi (max_streams_owed Bi s))) (if_fits room (streams_with Uni (max_streams_owed Uni s)))

    after-data : Option Control
    after-data = or_else (if_fits room (of_first credit_of (first_id s.waiting.credits) s)) after-credits

    after-gone : Option Control
    after-gone = or_else (if_fits room (data_with (max_data_owed s))) after-data

    after-stops : Option Control
    after-stops = or_else (if_fits room (gone_stop s)) after-gone

    after-resets : Option Control
    after-resets = or_else (if_fits room (of_first stop_of (first_id s.waiting.stops) s)) after-stops

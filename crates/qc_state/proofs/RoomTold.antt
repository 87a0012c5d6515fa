-- What is told of DATAGRAM frames that are sealed: that there is room again, where one had been refused before.
use Rattle.std.proofs.Common.{◌≡◌, List, [], ◌∷◌, ◌++◌, refl, ap, sym, ◌∙◌, Bool, true, false, if◌then◌else◌, append_assoc, append-nil}
use Rattle.std.specs.Prelude.{◌&&◌, not}
use Rattle.qc_datagrams.specs.Datagrams.{room_told}
use Rattle.qc_datagrams.specs.Steps.{Step, Sealed, after, after_step}
use Rattle.qc_datagrams.specs.declared.datagrams.Datagrams.{Datagrams}
use Rattle.qc_frame.specs.Frame.{FrameValue}
use Rattle.qc_frame.specs.declared.frames.FrameOf.TheVariants as frames
use Rattle.qc_state.specs.declared.events.Event.{Event}
use Rattle.qc_state.specs.declared.events.Event.TheVariants.{DatagramsUnblocked}
use Rattle.qc_state.specs.declared.life.Life.{Life}
use Rattle.qc_state.specs.declared.lower.Lower.{Lower}
use Rattle.qc_state.specs.Datagrams.{sealed_datagrams, told_by, told_by_all}
use Rattle.qc_state.specs.Life.{more_heard}
use Rattle.qc_state.specs.Lower.{datagrams_stepped, frames_sealed, ids_stepped, streams_stepped}
use Rattle.qc_state.specs.Taking.{room_events}
use Rattle.qc_state.proofs.DatagramSteps.{datagrams_append}

-- ---- lists

-- what joined steps tell
pub told_append : (xs ys : List Step) (d : Datagrams) → told_by_all (xs ++ ys) d ≡ told_by_all xs d ++ told_by_all ys (after xs d)
unfolding told_by_all after
told_append [] ys d = refl
told_append (x ∷ xs) ys d =
    ap (λ (es : List Event). told_by x d ++ es) (told_append xs ys (after_step x d)) ∙ sym (append_assoc (told_by x d) (told_by_all xs (after_step x d)) (told_by_all ys (after xs (after_step x d))))

-- nothing more is heard
pub same_heard : (v : Life) → v ≡ more_heard [] v
same_heard v = ap (λ (es : List Event). record v { heard = es }) (sym (append-nil v.heard))

-- frames without a DATAGRAM tell nothing
pub untold : (fs : List FrameValue) (d : Datagrams) (v : Life) → sealed_datagrams fs ≡ [] → v ≡ more_heard (told_by_all (sealed_datagrams fs) d) v
unfolding told_by_all
untold fs d v none = same_heard v ∙ ap (λ (xs : List Step). more_heard (told_by_all xs d) v) (sym none)

-- what frames tell that are sealed one behind the other, joined lists tell
pub told_twice : (fs gs : List FrameValue) (d : Datagrams) (v : Life) →
    more_heard (told_by_all (sealed_datagrams gs) (after (sealed_datagrams fs) d)) (more_heard (told_by_all (sealed_datagrams fs) d) v) ≡ more_heard (told_by_all (sealed_datagrams (fs ++ gs)) d) v
told_twice fs gs d v =
    let first : List Event = told_by_all (sealed_datagrams fs) d in
    let second : List Event = told_by_all (sealed_datagrams gs) (after (sealed_datagrams fs) d) in
    ap (λ (es : List Event). record v { heard = es }) (append_assoc v.heard first second)
    ∙ ap (λ (es : List Event). more_heard es v) (sym (told_append (sealed_datagrams fs) (sealed_datagrams gs) d))
    ∙ ap (λ (xs : List Step). more_heard (told_by_all xs d) v) (sym (datagrams_append fs gs))

-- ---- what was refused before

-- where none is remembered as refused, nothing is told, and none is remembered behind
unblocked_tells : (fs : List FrameValue) (d : Datagrams) → d.blocked ≡ false → told_by_all (sealed_datagrams fs) d ≡ []
unfolding told_by_all sealed_datagrams after_step room_told
unblocked_tells [] d none = refl
unblocked_tells (frames.Datagram body ∷ fs) d none = rw none (unblocked_tells fs (after_step Sealed d) refl)
unblocked_tells (_ ∷ fs) d none = unblocked_tells fs d none

still_unblocked : (fs : List FrameValue) (d : Datagrams) → d.blocked ≡ false → (after (sealed_datagrams fs) d).blocked ≡ false
unfolding sealed_datagrams after after_step room_told
still_unblocked [] d none = none
still_unblocked (frames.Datagram body ∷ fs) d none = still_unblocked fs (after_step Sealed d) refl
still_unblocked (_ ∷ fs) d none = still_unblocked fs d none

-- what frames tell is by what is remembered before and behind
sealed_tells : (fs : List FrameValue) (d : Datagrams) → room_events d.blocked (after (sealed_datagrams fs) d).blocked ≡ told_by_all (sealed_datagrams fs) d
unfolding told_by_all sealed_datagrams after after_step room_told
sealed_tells [] d = by d.blocked
  where
    by : (b : Bool) → room_events b b ≡ []
    by true = refl
    by false = refl
sealed_tells (frames.Datagram body ∷ fs) d =
    let next : Datagrams = after_step Sealed d in
    by d.blocked (after (sealed_datagrams fs) next).blocked (told_by_all (sealed_datagrams fs) next) (still_unblocked fs next refl) (unblocked_tells fs next refl)
  where
    by : (before behind : Bool) (es : List Event) → behind ≡ false → es ≡ [] → room_events before behind ≡ (if before then DatagramsUnblocked ∷ [] else []) ++ es
    by true behind es still none = ap (λ (b : Bool). room_events true b) still ∙ ap (λ (xs : List Event). DatagramsUnblocked ∷ xs) (sym none)
    by false behind es still none = sym none
sealed_tells (_ ∷ fs) d = sealed_tells fs d

pub nothing_more : (before behind : Bool) (v : Life) → (before && not behind) ≡ false → v ≡ more_heard (room_events before behind) v
nothing_more before behind v none = same_heard v ∙ ap (λ (b : Bool). more_heard (if b then DatagramsUnblocked ∷ [] else []) v) (sym none)

pub room_is_told : {S : Type 0} (fs : List FrameValue) (l l' : Lower S) (v v' : Life) → l' ≡ frames_sealed fs l → v' ≡ more_heard (room_events l.datagrams.blocked l'.datagrams.blocked) v →
    v' ≡ more_heard (told_by_all (sealed_datagrams fs) l.datagrams) v
unfolding frames_sealed ids_stepped datagrams_stepped streams_stepped
room_is_told {S = S} fs l l' v v' leads told =
    told ∙ ap (λ (k : Lower S). more_heard (room_events l.datagrams.blocked k.datagrams.blocked) v) leads ∙ ap (λ (es : List Event). more_heard es v) (sealed_tells fs l.datagrams)

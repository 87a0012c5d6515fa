-- What is answered where a datagram is taken, and the events of datagrams that are asked for one by one.
use Rattle.std.proofs.Common.{◌≡◌, ℕ, List, [], ◌∷◌, length, refl, ap, sym, ◌∙◌, Bool, true, false, Option, arith}
use Rattle.std.specs.Prelude.{◌==◌, slice_get}
use Rattle.qc_datagrams.specs.Queue.{first}
use Rattle.qc_state.specs.Datagrams.{taken_answer}
use Rattle.qc_state.specs.declared.events.Event.{Event}
use Rattle.qc_state.specs.declared.trace.Answer.{Answer}
use Rattle.qc_state.specs.Moves.{ReportHeard, state_move}
use Rattle.qc_state.specs.Polls.{heard_first, heard_polled, stream_polled}
use Rattle.qc_state.specs.Types.{Types}
use Rattle.qc_state.specs.View.{View}
use Rattle.qc_state.proofs.FirstTaken.{empty_of}
use Rattle.qc_streams.specs.Owed.{next_event}

-- the oldest alone is answered
first_answers : (ds : List (List ℕ)) → taken_answer (first ds) ≡ taken_answer ds
unfolding first
first_answers [] = refl
first_answers (d ∷ ds) = refl

pub taken_so : (ds taken : List (List ℕ)) (answer : Answer) → taken ≡ first ds → answer ≡ taken_answer taken → answer ≡ taken_answer ds
taken_so ds taken answer is e = e ∙ ap (λ (xs : List (List ℕ)). taken_answer xs) is ∙ first_answers ds

-- where nothing waits of datagrams, what waits behind is first
behind_first : (es : List Event) (next : Option Event) → (length es == 0) ≡ true → next ≡ heard_first es next
behind_first [] next none = refl
behind_first (e ∷ es) next none = absurd (omega (arith, empty_of (length (e ∷ es)) none))

pub streams_are_first : (es : List Event) (none : Bool) (o next : Option Event) → none ≡ (length es == 0) → none ≡ true → o ≡ next → o ≡ heard_first es next
streams_are_first es none o next is empty e = e ∙ behind_first es next (sym is ∙ empty)

-- else the first of them is
front_first : (es : List Event) (next : Option Event) → (length es == 0) ≡ false → slice_get es 0 ≡ heard_first es next
front_first [] next some = cc
front_first (e ∷ es) next some = refl

pub heard_is_first : (es : List Event) (none : Bool) (o next : Option Event) → none ≡ (length es == 0) → none ≡ false → o ≡ slice_get es 0 → o ≡ heard_first es next
heard_is_first es none o next is some e = e ∙ front_first es next (sym is ∙ some)

module _ {t : Types} where
  behind_by : (es : List Event) (s : View t) → (length es == 0) ≡ true → stream_polled (next_event s.lower.streams) s ≡ heard_polled es s
  behind_by [] s none = refl
  behind_by (e ∷ es) s none = absurd (omega (arith, empty_of (length (e ∷ es)) none))

  pub streams_are_polled : (es : List Event) (s s' : View t) (none : Bool) → none ≡ (length es == 0) → none ≡ true → s' ≡ stream_polled (next_event s.lower.streams) s → s' ≡ heard_polled es s
  streams_are_polled es s s' none is empty leads = leads ∙ behind_by es s (sym is ∙ empty)

  front_by : (es : List Event) (s : View t) → (length es == 0) ≡ false → state_move ReportHeard s ≡ heard_polled es s
  front_by [] s some = cc
  front_by (e ∷ es) s some = refl

  pub heard_is_polled : (es : List Event) (s s' : View t) (none : Bool) → none ≡ (length es == 0) → none ≡ false → s' ≡ state_move ReportHeard s → s' ≡ heard_polled es s
  heard_is_polled es s s' none is some leads = leads ∙ front_by es s (sym is ∙ some)

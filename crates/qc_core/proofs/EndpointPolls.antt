-- The events that the endpoint asks for one by one.
use Rattle.std.proofs.Common.{◌≡◌, List, [], ◌∷◌, ◌++◌, length, refl, sym, ◌∙◌, Bool, true, false, Option, Some, None, if◌then◌else◌, arith}
use Rattle.std.specs.Prelude.{◌==◌, is_some, option_to_list, slice_get}
use Rattle.qc_state.specs.declared.events.EndpointEvent.{EndpointEvent}
use Rattle.qc_state.specs.declared.events.EndpointEvent.TheVariants as endpoint
use Rattle.qc_state.specs.Life.{drained_event, first_notice}
use Rattle.qc_state.specs.Moves.{ReportDrained, ReportNotice, state_move}
use Rattle.qc_state.specs.Polls.{endpoint_events, first_endpoint_event, polled_endpoint, reported_of}
use Rattle.qc_state.specs.Types.{Types}
use Rattle.qc_state.specs.View.{View}
use Rattle.qc_state.proofs.FirstTaken.{empty_of}

-- where something waits before the end, it is first
front : (es fs : List EndpointEvent) → (length es == 0) ≡ false → slice_get es 0 ≡ slice_get (es ++ fs) 0
front [] fs some = cc
front (e ∷ es) fs some = refl

-- where nothing does, the end is, if it waits
behind_none : (es : List EndpointEvent) (o : Option EndpointEvent) → (length es == 0) ≡ true → o ≡ slice_get (es ++ option_to_list o) 0
behind_none [] None none = refl
behind_none [] (Some e) none = refl
behind_none (e ∷ es) o none = absurd (omega (arith, empty_of (length (e ∷ es)) none))

is_there : (es fs : List EndpointEvent) → (length es == 0) ≡ false → true ≡ is_some (slice_get (es ++ fs) 0)
is_there [] fs some = cc
is_there (e ∷ es) fs some = refl

waits_last : (es : List EndpointEvent) (b : Bool) → (length es == 0) ≡ true → b ≡ is_some (slice_get (es ++ option_to_list (if b then Some endpoint.Drained else None)) 0)
waits_last [] true none = refl
waits_last [] false none = refl
waits_last (e ∷ es) b none = absurd (omega (arith, empty_of (length (e ∷ es)) none))

module _ {t : Types} where
  pub some_wait : (s : View t) (none : Bool) → none ≡ (length s.life.notices == 0) → none ≡ false → true ≡ is_some (first_endpoint_event s)
  unfolding first_endpoint_event endpoint_events
  some_wait s none is some = is_there s.life.notices (option_to_list (drained_event s.life)) (sym is ∙ some)

  pub end_waits : (s : View t) (none : Bool) → none ≡ (length s.life.notices == 0) → none ≡ true → s.life.drained ≡ is_some (first_endpoint_event s)
  unfolding first_endpoint_event endpoint_events drained_event
  end_waits s none is empty = waits_last s.life.notices s.life.drained (sym is ∙ empty)

  pub end_is_first : (s : View t) (none : Bool) (o : Option EndpointEvent) → none ≡ (length s.life.notices == 0) → none ≡ true → o ≡ drained_event s.life → o ≡ first_endpoint_event s
  unfolding first_endpoint_event endpoint_events
  end_is_first s none o is empty event = event ∙ behind_none s.life.notices (drained_event s.life) (sym is ∙ empty)

  pub notice_is_first : (s : View t) (none : Bool) (o : Option EndpointEvent) → none ≡ (length s.life.notices == 0) → none ≡ false → o ≡ first_notice s.life → o ≡ first_endpoint_event s
  unfolding first_endpoint_event endpoint_events
  notice_is_first s none o is some event = event ∙ front s.life.notices (option_to_list (drained_event s.life)) (sym is ∙ some)

  end_by : (es : List EndpointEvent) (s : View t) → (length es == 0) ≡ true → state_move ReportDrained s ≡ reported_of es s
  end_by [] s none = refl
  end_by (e ∷ es) s none = absurd (omega (arith, empty_of (length (e ∷ es)) none))

  notice_by : (es : List EndpointEvent) (s : View t) → (length es == 0) ≡ false → state_move ReportNotice s ≡ reported_of es s
  notice_by [] s some = cc
  notice_by (e ∷ es) s some = refl

  pub end_polled : (s s' : View t) (none : Bool) → none ≡ (length s.life.notices == 0) → none ≡ true → s' ≡ state_move ReportDrained s → s' ≡ polled_endpoint s
  unfolding polled_endpoint
  end_polled s s' none is empty leads = leads ∙ end_by s.life.notices s (sym is ∙ empty)

  pub notice_polled : (s s' : View t) (none : Bool) → none ≡ (length s.life.notices == 0) → none ≡ false → s' ≡ state_move ReportNotice s → s' ≡ polled_endpoint s
  unfolding polled_endpoint
  notice_polled s s' none is some leads = leads ∙ notice_by s.life.notices s (sym is ∙ some)

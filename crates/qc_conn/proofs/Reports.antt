-- The events that are reported behind a call, one after the other.
use Rattle.std.proofs.Common.{◌≡◌, List, [], ◌∷◌, ◌++◌, refl, ap, sym, ◌∙◌, Bool, true, false, Option, Some, None, if◌then◌else◌}
use Rattle.std.proofs.lemmas.List.{append_assoc}
use Rattle.std.specs.Prelude.{is_some, map, option_to_list, slice_get}
use Rattle.qc_state.specs.declared.events.Event.{Event}
use Rattle.qc_state.specs.declared.events.Event.TheVariants.{Stream}
use Rattle.qc_state.specs.declared.events.EndpointEvent.{EndpointEvent}
use Rattle.qc_state.specs.declared.events.EndpointEvent.TheVariants as endpoint
use Rattle.qc_state.specs.declared.life.Life.{Life}
use Rattle.qc_state.specs.Life.{connected_event, drained_event, drained_reported, lost_event, notices_reported, ready_event}
use Rattle.qc_state.specs.Moves.{ReportReady, ReportConnected, ReportAllHeard, ReportStreams, ReportLost, ReportNotices, ReportDrained, keys_move, life_move, lower_move, numbers_move, paths_move, setup_move, state_move, timers_move, waiting_move}
use Rattle.qc_state.specs.Polls.{endpoint_events, first_endpoint_event, waiting_events}
use Rattle.qc_state.specs.Streams.{events_of}
use Rattle.qc_state.specs.Types.{Types}
use Rattle.qc_state.specs.View.{View}
use Rattle.qc_laws.proofs.Steps.{endpoint_wait, events_wait}

-- five lists behind one another
joined : {A : Type 0} (e0 e1 e2 e3 e4 e5 : List A) (x y w u z : List A) → e0 ≡ [] → e1 ≡ e0 ++ x → e2 ≡ e1 ++ y → e3 ≡ e2 ++ w → e4 ≡ e3 ++ u → e5 ≡ e4 ++ z → e5 ≡ x ++ (y ++ (w ++ (u ++ z)))
joined {A} e0 e1 e2 e3 e4 e5 x y w u z h0 h1 h2 h3 h4 h5 =
    h5 ∙ ap (λ (l : List A). l ++ z) (h4 ∙ ap (λ (l : List A). l ++ u) (h3 ∙ ap (λ (l : List A). l ++ w) (h2 ∙ ap (λ (l : List A). l ++ y) (h1 ∙ ap (λ (l : List A). l ++ x) h0))))
    ∙ append_assoc ((x ++ y) ++ w) u z ∙ append_assoc (x ++ y) w (u ++ z) ∙ append_assoc x y (w ++ (u ++ z))

module _ {t : Types} where
  -- the events that waited, each behind the report of the one before
  pub events_told : (s2 s3 s4 s5 s6 : View t) (e0 e1 e2 e3 e4 e5 : List Event) (x y z : Option Event) → e0 ≡ [] → x ≡ ready_event s2.life → s3 ≡ state_move ReportReady s2 → e1 ≡ e0 ++ option_to_list x →
      y ≡ connected_event s3.life → s4 ≡ state_move ReportConnected s3 → e2 ≡ e1 ++ option_to_list y → e3 ≡ e2 ++ s4.life.heard → s5 ≡ state_move ReportAllHeard s4 →
      e4 ≡ e3 ++ map Stream (events_of s5.lower.streams) → s6 ≡ state_move ReportStreams s5 → z ≡ lost_event s6.life → e5 ≡ e4 ++ option_to_list z → e5 ≡ waiting_events s2
  events_told s2 s3 s4 s5 s6 e0 e1 e2 e3 e4 e5 x y z h0 is_x is_s3 h1 is_y is_s4 h2 h3 is_s5 h4 is_s6 is_z h5 =
      let heard : List Event = s4.life.heard in
      let streams : List Event = map Stream (events_of s5.lower.streams) in
      joined e0 e1 e2 e3 e4 e5 (option_to_list x) (option_to_list y) heard streams (option_to_list z) h0 h1 h2 h3 h4 h5
      ∙ ap (λ (o : Option Event). option_to_list o ++ (option_to_list y ++ (heard ++ (streams ++ option_to_list z)))) is_x
      ∙ ap (λ (o : Option Event). option_to_list (ready_event s2.life) ++ (option_to_list o ++ (heard ++ (streams ++ option_to_list z)))) is_y
      ∙ ap (λ (o : Option Event). option_to_list (ready_event s2.life) ++ (option_to_list (connected_event s3.life) ++ (heard ++ (streams ++ option_to_list o)))) is_z
      ∙ events_wait s2 s3 s4 s5 s6 is_s3 is_s4 is_s5 is_s6

  -- the five reports, one after the other
  pub reports_lead : (s2 s3 s4 s5 s6 s7 : View t) → s3 ≡ state_move ReportReady s2 → s4 ≡ state_move ReportConnected s3 → s5 ≡ state_move ReportAllHeard s4 → s6 ≡ state_move ReportStreams s5 → s7 ≡ state_move ReportLost s6 →
      s7 ≡ state_move ReportLost (state_move ReportStreams (state_move ReportAllHeard (state_move ReportConnected (state_move ReportReady s2))))
  reports_lead s2 s3 s4 s5 s6 s7 is_s3 is_s4 is_s5 is_s6 is_s7 =
      is_s7
      ∙ ap (λ (v : View t). state_move ReportLost v)
      (is_s6 ∙ ap (λ (v : View t). state_move ReportStreams v) (is_s5 ∙ ap (λ (v : View t). state_move ReportAllHeard v) (is_s4 ∙ ap (λ (v : View t). state_move ReportConnected v) is_s3)))

  -- the same of what the endpoint is told
  pub endpoint_told : (s5 s6 : View t) (e0 e1 : List EndpointEvent) (z : Option EndpointEvent) → e0 ≡ s5.life.notices → s6 ≡ state_move ReportNotices s5 →
      z ≡ drained_event s6.life → e1 ≡ e0 ++ option_to_list z → e1 ≡ endpoint_events s5
  endpoint_told s5 s6 e0 e1 z h0 is_s6 is_z h1 =
      h1 ∙ ap (λ (l : List EndpointEvent). l ++ option_to_list z) h0 ∙ ap (λ (o : Option EndpointEvent). s5.life.notices ++ option_to_list o) is_z ∙ endpoint_wait s5 s6 is_s6

  pub endpoint_leads : (s5 s6 s7 : View t) → s6 ≡ state_move ReportNotices s5 → s7 ≡ state_move ReportDrained s6 → s7 ≡ state_move ReportDrained (state_move ReportNotices s5)
  endpoint_leads s5 s6 s7 is_s6 is_s7 = is_s7 ∙ ap (λ (v : View t). state_move ReportDrained v) is_s6

-- where no event waits first for the endpoint, none does
none_told_first : (es : List EndpointEvent) (d : Bool) → is_some (slice_get (es ++ option_to_list (if d then Some endpoint.Drained else None)) 0) ≡ false → (es ≡ []) × (d ≡ false)
none_told_first (e ∷ es) d h = cc
none_told_first [] true h = cc
none_told_first [] false h = (refl, refl)

module _ {t : Types} where
  no_endpoint_events : (s : View t) → is_some (first_endpoint_event s) ≡ false → (s.life.notices ≡ []) × (s.life.drained ≡ false)
  unfolding first_endpoint_event endpoint_events drained_event
  no_endpoint_events s h = none_told_first s.life.notices s.life.drained h

  pub none_waits_endpoint : (s : View t) (has : Bool) (es : List EndpointEvent) → has ≡ is_some (first_endpoint_event s) → has ≡ false → es ≡ [] → es ≡ endpoint_events s
  unfolding endpoint_events drained_event
  none_waits_endpoint s has es is none empty = let none = no_endpoint_events s (sym is ∙ none) in rw (none.0, none.1) empty

-- what was reported of a life for which nothing waits is that life
life_kept_endpoint : (v : Life) → (v.notices ≡ []) × (v.drained ≡ false) → v ≡ drained_reported (notices_reported v)
unfolding drained_reported notices_reported
life_kept_endpoint v none = ap (λ (es : List EndpointEvent). record v { notices = es }) none.0 ∙ ap (λ (b : Bool). record v { notices = []; drained = b }) none.1

module _ {t : Types} where
  -- where no event waits, the reports change nothing
  pub none_leads_endpoint : (s : View t) (has : Bool) → has ≡ is_some (first_endpoint_event s) → has ≡ false → s ≡ state_move ReportDrained (state_move ReportNotices s)
  unfolding state_move numbers_move keys_move life_move paths_move timers_move waiting_move setup_move lower_move
  none_leads_endpoint s has is none = ap (λ (v : Life). record s { life = v }) (life_kept_endpoint s.life (no_endpoint_events s (sym is ∙ none)))

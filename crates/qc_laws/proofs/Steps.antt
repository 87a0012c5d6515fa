-- From a call and the reports after it to a step.
use Rattle.std.proofs.Common.{◌≡◌, ℕ, ◌+◌, ◌≤◌, List, [], ◌∷◌, ◌++◌, length, take, get_or, ◌<◌, refl, ap, sym, ◌∙◌, subst, Bool, true, Option, None, Result, Err, if◌then◌else◌, arith, length-append}
use Rattle.std.proofs.lemmas.List.{take_more}
use Rattle.std.specs.Prelude.{map, option_to_list}
use Rattle.qc_base.specs.declared.ids.IssuedCid.{IssuedCid}
use Rattle.qc_cids.specs.Cids.{give_refusal}
use Rattle.qc_datagrams.specs.Datagrams.{send_refusal}
use Rattle.qc_datagrams.specs.Steps as datagrams
use Rattle.qc_recv.specs.declared.recv.Chunk.{Chunk}
use Rattle.qc_state.specs.declared.coming.Coming.{Coming}
use Rattle.qc_state.specs.declared.deeds.Did.{Did}
use Rattle.qc_state.specs.declared.events.EndpointEvent.{EndpointEvent}
use Rattle.qc_state.specs.declared.events.Event.{Event}
use Rattle.qc_state.specs.declared.events.Event.TheVariants.{Stream}
use Rattle.qc_state.specs.declared.input.Input.{Input}
use Rattle.qc_state.specs.declared.input.Input.TheVariants as input
use Rattle.qc_state.specs.declared.trace.Answer.{Answer}
use Rattle.qc_state.specs.declared.trace.Answer.TheVariants.{Done, Dropped, Flag}
use Rattle.qc_state.specs.declared.trace.Step.{Step}
use Rattle.qc_state.specs.declared.transmit.Transmit.{Transmit}
use Rattle.qc_state.specs.Datagrams.{sent_answer, taken_answer}
use Rattle.qc_state.specs.Life.{all_heard_reported, ready_event, connected_event, lost_event, ready_reported, connected_reported, lost_reported, drained_event, notices_reported}
use Rattle.qc_state.specs.Moves.{Ask, Call, Clock, Post, ReportReady, ReportConnected, ReportAllHeard, ReportStreams, ReportLost, ReportNotices, ReportDrained, state_move, move_to, deeds_move, life_move, lower_move, Issue}
use Rattle.qc_state.specs.Polls.{waiting_events, endpoint_events}
use Rattle.qc_state.specs.Run.{time_of, word_of, began, close_after, called_all, datagram_limit, input_after, called, reported, step_after, IsAllowed, out_of, answer_of, IsStep, Run, Calls, Ran, Adds}
use Rattle.qc_state.specs.Receiving.{is_taken, datagram_after}
use Rattle.qc_state.specs.Sending.{transmit_of, Transmits, Choice, Went}
use Rattle.qc_state.specs.Streams.{MayRead, call_answer, calls_of, events_of}
use Rattle.qc_state.specs.Timeouts.{timeout_after}
use Rattle.qc_state.specs.Timers.{next_timeout}
use Rattle.qc_state.specs.Types.{Types, Meaning}
use Rattle.qc_state.specs.View.{View, At, at}
use Rattle.qc_state.specs.Updating.{may_update_now, updated_after}
use Rattle.qc_streams.specs.declared.events.StreamEvent.{StreamEvent}
use Rattle.qc_streams.specs.declared.fault.ReadFault.{ReadFault}
use Rattle.qc_streams.specs.declared.fault.ReadFault.TheVariants.{Blocked}
use Rattle.qc_streams.specs.Waits as streams

-- the choice of an input of which only what a read answers is free
abbrev choice_of : Result (Option Chunk) ReadFault → Choice
choice_of read = record { packets = []; ending = Went; read = read }

-- the choice of an input that reads none
abbrev unread : Choice
unread = choice_of (Err Blocked)

module _ {t : Types} where
  pub calls_transmit : (m : Meaning t) (s : View t) (time max : ℕ) (b : At t) (sent : Option Transmit) (buffer : List ℕ) (answer : Answer) →
      Transmits m time max (began s time) b sent buffer → answer ≡ out_of sent buffer → Calls m s (input.Transmit time max) b answer
  unfolding began input_after called IsAllowed answer_of
  calls_transmit m s time max b sent buffer answer h e = record {
    choice = h.choice;
    leads = h.leads;
    allowed = h.may;
    answers = e ∙ ap (λ (x : Option Transmit). out_of x buffer) h.answer ∙ ap (λ (x : List ℕ). out_of (transmit_of m time max h.choice (began s time)) x) h.bytes;
  }

  pub calls_timeout : (m : Meaning t) (s mid : View t) (time : ℕ) (ds : List Did) (b : At t) (answer : Answer) →
      mid ≡ state_move (Clock time) s → ds ≡ [] → b ≡ timeout_after m time (at mid ds) → answer ≡ Done → Calls m s (input.Timeout time) b answer
  unfolding began input_after called IsAllowed answer_of
  calls_timeout m s mid time ds b answer is_mid is_ds is_b e = record {
    choice = unread;
    leads = is_b ∙ ap (λ (x : List Did). timeout_after m time (at mid x)) is_ds ∙ ap (λ (x : View t). timeout_after m time (at x [])) is_mid;
    allowed = tt;
    answers = e;
  }

  pub calls_ping : (m : Meaning t) (s mid : View t) (time : ℕ) (b : View t) (ds : List Did) (answer : Answer) →
      mid ≡ state_move (Clock time) s → b ≡ state_move (Ask mid.keys.highest) mid → ds ≡ [] → answer ≡ Done → Calls m s (input.Ping time) (at b ds) answer
  unfolding began input_after called IsAllowed answer_of move_to deeds_move
  calls_ping m s mid time b ds answer is_mid is_b is_ds e = record {
    choice = unread;
    leads = ap (λ (x : List Did). at b x) is_ds ∙ ap (λ (x : View t). at x []) (is_b ∙ ap (λ (x : View t). state_move (Ask x.keys.highest) x) is_mid);
    allowed = tt;
    answers = e;
  }

  -- the keys are updated, where they may be
  pub calls_update : (m : Meaning t) (s mid : View t) (time : ℕ) (b : At t) (ds : List Did) (may : Bool) (answer : Answer) →
      mid ≡ state_move (Clock time) s → ds ≡ [] → b ≡ updated_after m (at mid ds) → may ≡ may_update_now mid → answer ≡ Flag may → Calls m s (input.Update time) b answer
  unfolding began input_after called IsAllowed answer_of
  calls_update m s mid time b ds may answer is_mid is_ds is_b is_may e = record {
    choice = unread;
    leads = is_b ∙ ap (λ (x : List Did). updated_after m (at mid x)) is_ds ∙ ap (λ (x : View t). updated_after m (at x [])) is_mid;
    allowed = tt;
    answers = e ∙ ap Flag (is_may ∙ ap may_update_now is_mid);
  }

  -- a datagram of the application is sent, and one is taken
  pub calls_send : (m : Meaning t) (s mid : View t) (time : ℕ) (body : List ℕ) (b : View t) (ds : List Did) (answer : Answer) → mid ≡ state_move (Clock time) s → b ≡ state_move (Post (datagrams.Sent (datagram_limit mid) true body)) mid → ds ≡ [] →
      answer ≡ sent_answer (send_refusal (datagram_limit mid) true body mid.lower.datagrams) → Calls m s (input.SendDatagram time body) (at b ds) answer
  unfolding began input_after called IsAllowed answer_of move_to deeds_move
  calls_send m s mid time body b ds answer is_mid is_b is_ds e = record {
    choice = unread;
    leads = ap (λ (x : List Did). at b x) is_ds ∙ ap (λ (x : View t). at x []) (is_b ∙ ap (λ (x : View t). state_move (Post (datagrams.Sent (datagram_limit x) true body)) x) is_mid);
    allowed = tt;
    answers = e ∙ ap (λ (x : View t). sent_answer (send_refusal (datagram_limit x) true body x.lower.datagrams)) is_mid;
  }

  pub calls_recv : (m : Meaning t) (s mid : View t) (time : ℕ) (b : View t) (ds : List Did) (answer : Answer) → mid ≡ state_move (Clock time) s → b ≡ state_move (Post datagrams.Taken) mid → ds ≡ [] →
      answer ≡ taken_answer mid.lower.datagrams.incoming → Calls m s (input.RecvDatagram time) (at b ds) answer
  unfolding began input_after called IsAllowed answer_of move_to deeds_move
  calls_recv m s mid time b ds answer is_mid is_b is_ds e = record {
    choice = unread;
    leads = ap (λ (x : List Did). at b x) is_ds ∙ ap (λ (x : View t). at x []) (is_b ∙ ap (λ (x : View t). state_move (Post datagrams.Taken) x) is_mid);
    allowed = tt;
    answers = e ∙ ap (λ (x : View t). taken_answer x.lower.datagrams.incoming) is_mid;
  }

  -- ids of this end are given
  pub calls_issue : (m : Meaning t) (s mid : View t) (time : ℕ) (given : List IssuedCid) (b : View t) (ds : List Did) (answer : Answer) → mid ≡ state_move (Clock time) s → give_refusal given mid.lower.ids ≡ None →
      b ≡ state_move (Issue time given) mid → ds ≡ [] → answer ≡ Done → Calls m s (input.Identifiers time given) (at b ds) answer
  unfolding began input_after called IsAllowed answer_of move_to deeds_move
  calls_issue m s mid time given b ds answer is_mid none is_b is_ds e = record {
    choice = unread;
    leads = ap (λ (x : List Did). at b x) is_ds ∙ ap (λ (x : View t). at x []) (is_b ∙ ap (λ (x : View t). state_move (Issue time given) x) is_mid);
    allowed = ap (λ (x : View t). give_refusal given x.lower.ids) (sym is_mid) ∙ none;
    answers = e;
  }

  pub calls_close : (m : Meaning t) (s mid : View t) (time code : ℕ) (reason copy : List ℕ) (ds : List Did) (b : At t) (answer : Answer) →
      mid ≡ state_move (Clock time) s → ds ≡ [] → copy ≡ reason → b ≡ close_after time code copy (at mid ds) → answer ≡ Done → Calls m s (input.Close time code reason) b answer
  unfolding began input_after called IsAllowed answer_of
  calls_close m s mid time code reason copy ds b answer is_mid is_ds is_copy is_b e = record {
    choice = unread;
    leads = is_b ∙ ap (λ (x : List ℕ). close_after time code x (at mid ds)) is_copy ∙ ap (λ (x : List Did). close_after time code reason (at mid x)) is_ds ∙ ap (λ (x : View t). close_after time code reason (at x [])) is_mid;
    allowed = tt;
    answers = e;
  }

  pub calls_datagram : (m : Meaning t) (s mid : View t) (coming : Coming) (bytes copy : List ℕ) (ds : List Did) (b : At t) (begins : Bool) (answer : Answer) →
      mid ≡ state_move (Clock coming.time) s → ds ≡ [] → copy ≡ bytes → b ≡ datagram_after m coming copy (at mid ds) → begins ≡ is_taken m mid coming.remote copy → answer ≡ (if begins then Done else Dropped) →
      Calls m s (input.Datagram coming.time coming.remote coming.mark bytes) b answer
  unfolding began input_after called IsAllowed answer_of
  calls_datagram m s mid coming bytes copy ds b begins answer is_mid is_ds is_copy is_b is_begins e = record {
    choice = unread;
    leads = is_b ∙ ap (λ (x : List ℕ). datagram_after m coming x (at mid ds)) is_copy ∙ ap (λ (x : List Did). datagram_after m coming bytes (at mid x)) is_ds ∙ ap (λ (x : View t). datagram_after m coming bytes (at x [])) is_mid;
    allowed = tt;
    answers = e ∙ ap (λ (x : Bool). if x then Done else Dropped) (is_begins ∙ ap (is_taken m mid coming.remote) is_copy ∙ ap (λ (x : View t). is_taken m x coming.remote bytes) is_mid);
  }

  -- calls of the streams tell no deeds
  called_untold : (xs : List streams.Step) (a : At t) → called_all xs a ≡ at (called_all xs a).state a.did
  unfolding move_to deeds_move
  called_untold [] a = refl
  called_untold (x ∷ xs) a = called_untold xs (move_to (Call x) a)

  -- an input that is a call on the streams and nothing else
  pub record IsForStreams (m : Meaning t) (i : Input) : Type 0 where
    pub leads : (choice : Choice) (a : At t) → input_after m i choice a ≡ called_all (calls_of i choice.read a.state.lower.streams) a
    pub allowed : (choice : Choice) (a : At t) → MayRead i choice.read a.state.lower.streams → IsAllowed m i choice a
    pub answers : (choice : Choice) (a : At t) → answer_of m i choice a ≡ call_answer i choice.read a.state.lower.streams

  -- a call on the streams
  pub calls_streams : (m : Meaning t) (s mid : View t) (i : Input) (read : Result (Option Chunk) ReadFault) (b : View t) (ds : List Did) (answer : Answer) → IsForStreams m i →
      mid ≡ state_move (Clock (time_of i)) s → ds ≡ [] → MayRead i read mid.lower.streams → b ≡ (called_all (calls_of i read mid.lower.streams) (at mid [])).state → answer ≡ call_answer i read mid.lower.streams →
      Calls m s i (at b ds) answer
  unfolding began called
  calls_streams m s mid i read b ds answer h is_mid is_ds may is_b e =
      let now : at mid [] ≡ began s (time_of i) = ap (λ (x : View t). at x []) is_mid in
      record {
        choice = choice_of read;
        leads = ap (λ (x : List Did). at b x) is_ds ∙ ap (λ (x : View t). at x []) is_b ∙ sym (called_untold (calls_of i read mid.lower.streams) (at mid []))
            ∙ sym (h.leads (choice_of read) (at mid [])) ∙ ap (λ (x : At t). input_after m i (choice_of read) x) now;
        allowed = subst (λ (x : At t). IsAllowed m i (choice_of read) x) now (h.allowed (choice_of read) (at mid []) may);
        answers = e ∙ sym (h.answers (choice_of read) (at mid [])) ∙ ap (λ (x : At t). answer_of m i (choice_of read) x) now;
      }

  -- reporting one thing leaves the reports of the others as they were
  same_connected : (s : View t) → connected_event (state_move ReportReady s).life ≡ connected_event s.life
  unfolding connected_event state_move life_move ready_reported
  same_connected s = refl

  -- so it is with the events of datagrams
  same_heard : (s : View t) → (state_move ReportConnected (state_move ReportReady s)).life.heard ≡ s.life.heard
  unfolding state_move life_move ready_reported connected_reported
  same_heard s = refl

  -- with those of the streams
  same_streams : (s : View t) → events_of (state_move ReportAllHeard (state_move ReportConnected (state_move ReportReady s))).lower.streams ≡ events_of s.lower.streams
  unfolding state_move lower_move
  same_streams s = refl

  -- with the reason of the end
  same_lost : (s : View t) → lost_event (state_move ReportStreams (state_move ReportAllHeard (state_move ReportConnected (state_move ReportReady s)))).life ≡ lost_event s.life
  unfolding lost_event state_move life_move ready_reported connected_reported all_heard_reported
  same_lost s = refl

  -- and with all that waits for the endpoint
  same_end : (s : View t) → endpoint_events (state_move ReportLost (state_move ReportStreams (state_move ReportAllHeard (state_move ReportConnected (state_move ReportReady s))))) ≡ endpoint_events s
  unfolding endpoint_events drained_event state_move life_move ready_reported connected_reported all_heard_reported lost_reported
  same_end s = refl

  -- reporting what waits before the end leaves the end
  same_drained : (s : View t) → drained_event (state_move ReportNotices s).life ≡ drained_event s.life
  unfolding drained_event state_move life_move notices_reported
  same_drained s = refl

  -- a step of a call, whose answer and reports stand in it
  pub is_step : (m : Meaning t) (k : ℕ) (s : View t) (i : Input) (x : Step) (b : At t) (s' : View t) →
      s.timers.greatest ≤ time_of i → Calls m s i b x.answer → x.did ≡ b.did →
      s' ≡ reported b.state →
      x.events ≡ waiting_events b.state → x.endpoint ≡ endpoint_events b.state →
      x.timeout ≡ next_timeout s'.timers → x.at ≡ k → x.word ≡ word_of i → x.now ≡ time_of i → IsStep m k s i x s'
  unfolding step_after
  is_step m k s i x b s' forward h is_did is_s' is_events is_endpoint is_timeout is_at is_word is_now =
      let same : b ≡ called m s i h.choice = h.leads in
      let state : s' ≡ step_after m s i h.choice = is_s' ∙ ap (λ (y : At t). reported y.state) same in
      record {
        choice = h.choice;
        numbers = ap (λ (v : View t). v.numbers) state;
        keys = ap (λ (v : View t). v.keys) state;
        life = ap (λ (v : View t). v.life) state;
        paths = ap (λ (v : View t). v.paths) state;
        timers = ap (λ (v : View t). v.timers) state;
        waiting = ap (λ (v : View t). v.waiting) state;
        setup = ap (λ (v : View t). v.setup) state;
        lower = ap (λ (v : View t). v.lower) state;
        issuer = ap (λ (v : View t). v.issuer) state;
        forward = forward;
        deeds = is_did ∙ ap (λ (y : At t). y.did) same;
        allowed = h.allowed;
        answer = h.answers;
        events = is_events ∙ ap (λ (y : At t). waiting_events y.state) same;
        endpoint = is_endpoint ∙ ap (λ (y : At t). endpoint_events y.state) same;
        timeout = is_timeout;
        place = is_at;
        word = is_word;
        time = is_now;
      }

  -- runs
  pub run_none : (m : Meaning t) (k : ℕ) (s : View t) → Run m k s [] [] s
  unfolding Run
  run_none m k s = refl

  pub run_more : (m : Meaning t) (k : ℕ) (s : View t) (is : List Input) (xs : List Step) (mid s' : View t) (i : Input) (x : Step) →
      Run m k s is xs mid → IsStep m (k + length xs) mid i x s' → Run m k s (is ++ i ∷ []) (xs ++ x ∷ []) s'
  unfolding Run
  run_more m k s [] [] mid s' i x r h =
      (s', subst (λ (n : ℕ). IsStep m n s i x s') (omega arith) (subst (λ (v : View t). IsStep m (k + 0) v i x s') r h), refl)
  run_more m k s (j ∷ is) (y ∷ ys) mid s' i x r h =
      let place : k + length (y ∷ ys) ≡ k + 1 + length ys = omega arith in
      (r.0, r.1, run_more m (k + 1) r.0 is ys mid s' i x r.2 (subst (λ (n : ℕ). IsStep m n mid i x s') place h))
  run_more m k s [] (y ∷ ys) mid s' i x r h = absurd r
  run_more m k s (j ∷ is) [] mid s' i x r h = absurd r

  pub ran : (m : Meaning t) (k : ℕ) (s : View t) (is : List Input) (xs : List Step) (last : View t) (n : ℕ) → length xs ≡ n → Run m k s (take n is) xs last → Ran m k s is xs
  ran m k s is xs last n e r = record { last = last; run = subst (λ (l : ℕ). Run m k s (take l is) xs last) (sym e) r }

  -- a transmit once the connection was told the time
  pub transmits_began : (m : Meaning t) (s mid : View t) (time asked : ℕ) (ds : List Did) (b : At t) (sent : Option Transmit) (buffer : List ℕ) →
      mid ≡ state_move (Clock time) s → ds ≡ [] → Transmits m time asked (at mid ds) b sent buffer → Transmits m time asked (began s time) b sent buffer
  unfolding began
  transmits_began m s mid time asked ds b sent buffer is_mid is_ds h =
      subst (λ (a : At t). Transmits m time asked a b sent buffer) (ap (λ (x : List Did). at mid x) is_ds ∙ ap (λ (x : View t). at x []) is_mid) h

  -- what is reported, one after the other, is all that waited
  pub events_wait : (s2 s3 s4 s5 s6 : View t) → s3 ≡ state_move ReportReady s2 → s4 ≡ state_move ReportConnected s3 → s5 ≡ state_move ReportAllHeard s4 → s6 ≡ state_move ReportStreams s5 →
      option_to_list (ready_event s2.life) ++ (option_to_list (connected_event s3.life) ++ (s4.life.heard ++ (map Stream (events_of s5.lower.streams) ++ option_to_list (lost_event s6.life)))) ≡ waiting_events s2
  unfolding waiting_events
  events_wait s2 s3 s4 s5 s6 is_s3 is_s4 is_s5 is_s6 =
      let e4 : s4 ≡ state_move ReportConnected (state_move ReportReady s2) = is_s4 ∙ ap (λ (v : View t). state_move ReportConnected v) is_s3 in
      let e5 : s5 ≡ state_move ReportAllHeard (state_move ReportConnected (state_move ReportReady s2)) = is_s5 ∙ ap (λ (v : View t). state_move ReportAllHeard v) e4 in
      let e6 : s6 ≡ state_move ReportStreams (state_move ReportAllHeard (state_move ReportConnected (state_move ReportReady s2))) = is_s6 ∙ ap (λ (v : View t). state_move ReportStreams v) e5 in
      let connected : connected_event s3.life ≡ connected_event s2.life = ap (λ (v : View t). connected_event v.life) is_s3 ∙ same_connected s2 in
      let heard : s4.life.heard ≡ s2.life.heard = ap (λ (v : View t). v.life.heard) e4 ∙ same_heard s2 in
      let streams : events_of s5.lower.streams ≡ events_of s2.lower.streams = ap (λ (v : View t). events_of v.lower.streams) e5 ∙ same_streams s2 in
      let lost : lost_event s6.life ≡ lost_event s2.life = ap (λ (v : View t). lost_event v.life) e6 ∙ same_lost s2 in
      let first : List Event = option_to_list (ready_event s2.life) in
      ap (λ (o : Option Event). first ++ (option_to_list o ++ (s4.life.heard ++ (map Stream (events_of s5.lower.streams) ++ option_to_list (lost_event s6.life))))) connected
      ∙ ap (λ (es : List Event). first ++ (option_to_list (connected_event s2.life) ++ (es ++ (map Stream (events_of s5.lower.streams) ++ option_to_list (lost_event s6.life))))) heard
      ∙ ap (λ (es : List StreamEvent). first ++ (option_to_list (connected_event s2.life) ++ (s2.life.heard ++ (map Stream es ++ option_to_list (lost_event s6.life))))) streams
      ∙ ap (λ (o : Option Event). first ++ (option_to_list (connected_event s2.life) ++ (s2.life.heard ++ (map Stream (events_of s2.lower.streams) ++ option_to_list o)))) lost

  -- so it is with what is reported to the endpoint
  pub endpoint_wait : (s5 s6 : View t) → s6 ≡ state_move ReportNotices s5 → s5.life.notices ++ option_to_list (drained_event s6.life) ≡ endpoint_events s5
  unfolding endpoint_events
  endpoint_wait s5 s6 is_s6 = ap (λ (o : Option EndpointEvent). s5.life.notices ++ option_to_list o) (ap (λ (v : View t). drained_event v.life) is_s6 ∙ same_drained s5)

  -- a step of a call, of all reports to the application, and of those to the endpoint
  pub is_step_reported : (m : Meaning t) (k : ℕ) (s : View t) (i : Input) (x : Step) (ds : List Did) (s2 s5 s6 : View t) →
      s.timers.greatest ≤ time_of i → Calls m s i (at s2 ds) x.answer → x.did ≡ ds →
      s5 ≡ state_move ReportLost (state_move ReportStreams (state_move ReportAllHeard (state_move ReportConnected (state_move ReportReady s2)))) → s6 ≡ state_move ReportDrained (state_move ReportNotices s5) →
      x.events ≡ waiting_events s2 → x.endpoint ≡ endpoint_events s5 →
      x.timeout ≡ next_timeout s6.timers → x.at ≡ k → x.word ≡ word_of i → x.now ≡ time_of i → IsStep m k s i x s6
  unfolding reported
  is_step_reported m k s i x ds s2 s5 s6 forward h is_did is_s5 is_s6 is_events is_endpoint is_timeout is_at is_word is_now =
      is_step m k s i x (at s2 ds) s6 forward h is_did (is_s6 ∙ ap (λ (v : View t). state_move ReportDrained (state_move ReportNotices v)) is_s5) is_events
      (is_endpoint ∙ ap (λ (v : View t). endpoint_events v) is_s5 ∙ same_end s2) is_timeout is_at is_word is_now

  -- the empty trace
  pub ran_none : (m : Meaning t) (k : ℕ) (s : View t) (is : List Input) (xs : List Step) → xs ≡ [] → Ran m k s is xs
  ran_none m k s is xs e = ran m k s is xs s 0 (ap length e) (subst (λ (ys : List Step). Run m k s [] ys s) (sym e) (run_none m k s))

  -- a run, and one step more
  pub run_added : (m : Meaning t) (s : View t) (is : List Input) (xs ys : List Step) (mid s' : View t) (i : Input) (k : ℕ) →
      k ≡ length xs → Run m 0 s is xs mid → Adds m k mid i s' xs ys → Run m 0 s (is ++ i ∷ []) ys s'
  run_added m s is xs ys mid s' i k e r h =
      let place : k ≡ 0 + length xs = omega arith in
      subst (λ (zs : List Step). Run m 0 s (is ++ i ∷ []) zs s') (sym h.added) (run_more m 0 s is xs mid s' i h.step r (subst (λ (n : ℕ). IsStep m n mid i h.step s') place h.is_step))

  -- a trace with one step more is one longer
  pub added_length : (m : Meaning t) (k : ℕ) (s : View t) (i : Input) (s' : View t) (xs ys : List Step) → Adds m k s i s' xs ys → length ys ≡ length xs + 1
  added_length m k s i s' xs ys h = ap length h.added ∙ length-append xs (h.step ∷ [])

  pub run_empty : (m : Meaning t) (k : ℕ) (s : View t) (xs : List Step) → xs ≡ [] → Run m k s [] xs s
  run_empty m k s xs e = subst (λ (ys : List Step). Run m k s [] ys s) (sym e) (run_none m k s)

  pub ran_kept : (m : Meaning t) (k : ℕ) (s : View t) (is : List Input) (xs ys : List Step) (last : View t) (n : ℕ) → ys ≡ xs → length xs ≡ n → Run m k s (take n is) xs last → Ran m k s is ys
  ran_kept m k s is xs ys last n e l r = subst (λ (zs : List Step). Ran m k s is zs) (sym e) (ran m k s is xs last n l r)

  -- the run over one input more
  pub run_next : (m : Meaning t) (s : View t) (is : List Input) (xs ys : List Step) (mid s' : View t) (x : Input) (i k : ℕ) → i < length is → x ≡ get_or is i x → length xs ≡ i → k ≡ i →
      Run m 0 s (take i is) xs mid → Adds m k mid x s' xs ys → Run m 0 s (take (i + 1) is) ys s'
  run_next m s is xs ys mid s' x i k h e count place r adds =
      let more : take (i + 1) is ≡ take i is ++ x ∷ [] = take_more is i x h ∙ ap (λ (y : Input). take i is ++ y ∷ []) (sym e) in
      subst (λ (js : List Input). Run m 0 s js ys s') (sym more) (run_added m s (take i is) xs ys mid s' x k (omega arith) r adds)

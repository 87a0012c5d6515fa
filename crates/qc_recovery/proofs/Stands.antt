-- The loss timer stands where something waits
use Rattle.std.proofs.Common.{◌≡◌, ℕ, ◌+◌, Bool, true, false, not, ◌&&◌, ◌||◌, List, [], ◌∷◌, Option, None, Some, filter, sum_by, refl, sym, ◌∙◌, ap, arith}
use Rattle.std.specs.Prelude.{◌==◌, if◌then◌else◌, cond, min, is_some, nat_lt, unwrap_or, length}
use Rattle.std.specs.List.{list_any}
use Rattle.std.proofs.lemmas.Bool.Decides.{nat_tests}
use Rattle.std.proofs.lemmas.List.Sums.{sum_by-cons}
use Rattle.qc_base.specs.declared.range_set.NumberRange.{NumberRange}
use Rattle.qc_base.specs.declared.side.SpaceId.{SpaceId}
use Rattle.qc_base.specs.declared.side.SpaceId.TheVariants.{Initial, Handshake, Data}
use Rattle.qc_flight.specs.Packets.{Entry, counted_of, counted_one, earliest_from, earliest_of, eliciting_of, eliciting_one, is_below, those}
use Rattle.qc_path.specs.RoundTrips.{Rtt}
use Rattle.qc_path.specs.declared.controller.Controller.{Ghosts as Control}
use Rattle.qc_recovery.specs.Acking.{acked_of, limit_with, raised, space_acked, space_less, time_of_loss}
use Rattle.qc_recovery.specs.Calls.{begun_recovery, dropped_after}
use Rattle.qc_recovery.specs.Losses.{rank}
use Rattle.qc_recovery.specs.Runs.{Acknowledge, Call, Discard, Fire, Send, call_after, calls_after}
use Rattle.qc_recovery.specs.Stands.{all_asked, asked_after, awaits, can_probe, elicits_any, may_be_lost, stands}
use Rattle.qc_recovery.specs.Steps.{SpaceAfter, ack_after, armed_at, first_that_holds, has_eliciting, is_handshake, is_quiet, later_by, loss_first, losses_found, marks_read, no_space, occasion, probe_fired, probe_first, probe_in, probe_line, probe_of_nothing, sent_after, sooner, space_after, space_dropped, space_of, space_sent, space_timed, time_of, timed, timeout_after, timeout_by, with_space}
use Rattle.qc_recovery.specs.TransportValues.{TransportValues}
use Rattle.qc_recovery.specs.declared.calls.AckValues.{AckValues}
use Rattle.qc_recovery.specs.declared.calls.Around.{Around}
use Rattle.qc_recovery.specs.declared.calls.Occasion.{Occasion}
use Rattle.qc_recovery.specs.declared.limits.Limits.{Limits}
use Rattle.qc_recovery.specs.declared.path.PathData.{PathData}
use Rattle.qc_recovery.specs.declared.recovery.Recovery.{Recovery}
use Rattle.qc_recovery.specs.declared.space.SpaceRecovery.{SpaceRecovery}
use Rattle.qc_recovery.proofs.Bursts.{filter_leaves, filter_takes}

abbrev Due : Type 0
Due = Option (ℕ × SpaceId)

-- ---- a state

some_time : (a : Due) → is_some (time_of a) ≡ is_some a
some_time None = refl
some_time (Some a) = refl

some_first : (a b : Due) → is_some (first_that_holds a b) ≡ (is_some a || is_some b)
some_first None b = refl
some_first (Some a) b = refl

some_either : (t : Bool) (a b : ℕ × SpaceId) → is_some (if t then Some a else Some b) ≡ true
some_either true a b = refl
some_either false a b = refl

some_sooner : (a b : Due) → is_some (sooner a b) ≡ (is_some a || is_some b)
some_sooner None b = refl
some_sooner (Some a) None = refl
some_sooner (Some a) (Some b) = some_either (nat_lt b.0 a.0) b a

some_timed : (id : SpaceId) (t : Option ℕ) → is_some (timed id t) ≡ is_some t
some_timed id None = refl
some_timed id (Some t) = refl

some_later : (duration : ℕ) (t : Option ℕ) → is_some (later_by duration t) ≡ is_some t
some_later duration None = refl
some_later duration (Some t) = refl

some_if : (t : Bool) (a : Due) → is_some (if t then None else a) ≡ (not t && is_some a)
some_if true a = refl
some_if false a = refl

some_where : (t : Bool) (a : Due) → is_some (if t then a else None) ≡ (t && is_some a)
some_where true a = refl
some_where false a = refl

or_assoc : (a b c : Bool) → ((a || b) || c) ≡ (a || (b || c))
or_assoc true b c = refl
or_assoc false b c = refl

more_than_none : (b : Bool) (n : ℕ) → (cond b 1 0 + n == 0) ≡ (not b && (n == 0))
more_than_none true n = grind (arith, nat_tests)
more_than_none false n = grind (arith, nat_tests)

not_or : (a b : Bool) → (not a && not b) ≡ not (a || b)
not_or true b = refl
not_or false b = refl

none_counted : (es : List Entry) → (counted_of es == 0) ≡ not (list_any (λ (e : Entry). e.1.counted) es)
unfolding counted_of
none_counted [] = refl
none_counted (e ∷ es) =
    ap (λ (n : ℕ). n == 0) (sum_by-cons counted_one e es)
    ∙ more_than_none e.1.counted (sum_by counted_one es)
    ∙ ap (λ (b : Bool). not e.1.counted && b) (none_counted es)
    ∙ not_or e.1.counted (list_any (λ (e : Entry). e.1.counted) es)

none_elicits : (es : List Entry) → (eliciting_of es == 0) ≡ not (has_eliciting es)
unfolding eliciting_of
none_elicits [] = refl
none_elicits (e ∷ es) =
    ap (λ (n : ℕ). n == 0) (sum_by-cons eliciting_one e es)
    ∙ more_than_none e.1.ack_eliciting (sum_by eliciting_one es)
    ∙ ap (λ (b : Bool). not e.1.ack_eliciting && b) (none_elicits es)
    ∙ not_or e.1.ack_eliciting (has_eliciting es)

not_not : (b : Bool) → not (not b) ≡ b
not_not true = refl
not_not false = refl

quiet_is : (r : Recovery) → is_quiet r ≡ not (elicits_any r)
unfolding is_quiet
quiet_is r = rw (none_elicits r.initial.flight, none_elicits r.handshake.flight, none_elicits r.application.flight) (all_not (has_eliciting r.initial.flight) (has_eliciting r.handshake.flight) (has_eliciting r.application.flight))
  where
    all_not : (a b c : Bool) → ((not a && not b) && not c) ≡ not (a || (b || c))
    all_not true b c = refl
    all_not false true c = refl
    all_not false false c = refl

some_probe : (id : SpaceId) (around : Around) (rtt : Rtt) (count : ℕ) (s : SpaceRecovery) → is_some (probe_in id around rtt count s) ≡ awaits (is_some s.eliciting_at) s
unfolding probe_in
some_probe id around rtt count s =
    some_if (counted_of s.flight == 0) _
    ∙ ap (λ (b : Bool). not (counted_of s.flight == 0) && b) (some_timed id _ ∙ some_later _ s.eliciting_at)
    ∙ ap (λ (b : Bool). b && is_some s.eliciting_at) (ap not (none_counted s.flight) ∙ not_not (list_any (λ (e : Entry). e.1.counted) s.flight))

some_loss : (r : Recovery) → is_some (loss_first r) ≡ may_be_lost r
unfolding loss_first
some_loss r =
    some_sooner _ (timed Data r.application.loss_time)
    ∙ rw (some_sooner (timed Initial r.initial.loss_time) (timed Handshake r.handshake.loss_time), some_timed Initial r.initial.loss_time, some_timed Handshake r.handshake.loss_time, some_timed Data r.application.loss_time)
    (or_assoc (is_some r.initial.loss_time) (is_some r.handshake.loss_time) (is_some r.application.loss_time))

some_probes : (around : Around) (rtt : Rtt) (r : Recovery) → is_some (probe_first around rtt r)
    ≡ (awaits (is_some r.initial.eliciting_at) r.initial || (awaits (is_some r.handshake.eliciting_at) r.handshake || (around.handshake_over && awaits (is_some r.application.eliciting_at) r.application)))
unfolding probe_first
some_probes around rtt r =
    let initial : Due = probe_in Initial around rtt r.count r.initial in
    let handshake : Due = probe_in Handshake around rtt r.count r.handshake in
    let application : Due = probe_in Data around rtt r.count r.application in
    let both : is_some (sooner initial handshake) ≡ (awaits (is_some r.initial.eliciting_at) r.initial || awaits (is_some r.handshake.eliciting_at) r.handshake) =
    some_sooner initial handshake
    ∙ ap (λ (b : Bool). b || is_some handshake) (some_probe Initial around rtt r.count r.initial)
    ∙ ap (λ (b : Bool). awaits (is_some r.initial.eliciting_at) r.initial || b) (some_probe Handshake around rtt r.count r.handshake) in
    let last : is_some (if around.handshake_over then application else None) ≡ (around.handshake_over && awaits (is_some r.application.eliciting_at) r.application) =
    some_where around.handshake_over application
    ∙ ap (λ (b : Bool). around.handshake_over && b) (some_probe Data around rtt r.count r.application) in
    some_sooner (sooner initial handshake) (if around.handshake_over then application else None)
    ∙ ap (λ (b : Bool). b || is_some (if around.handshake_over then application else None)) both
    ∙ ap (λ (b : Bool). (awaits (is_some r.initial.eliciting_at) r.initial || awaits (is_some r.handshake.eliciting_at) r.handshake) || b) last
    ∙ or_assoc (awaits (is_some r.initial.eliciting_at) r.initial) (awaits (is_some r.handshake.eliciting_at) r.handshake) (around.handshake_over && awaits (is_some r.application.eliciting_at) r.application)

some_of_nothing : (now : ℕ) (around : Around) (rtt : Rtt) (r : Recovery) → is_some (probe_of_nothing now around rtt r) ≡ can_probe around
unfolding probe_of_nothing
some_of_nothing now around rtt r = by (is_handshake around.highest) _ _
  where
    by_keys : (keys : Bool) (a : ℕ × SpaceId) → is_some (if keys then Some a else None) ≡ keys
    by_keys true a = refl
    by_keys false a = refl

    by : (b : Bool) (a c : ℕ × SpaceId) → is_some (if b then (if around.handshake_keys then Some a else None) else (if around.initial_keys then Some c else None)) ≡ (if b then around.handshake_keys else around.initial_keys)
    by true a c = by_keys around.handshake_keys a
    by false a c = by_keys around.initial_keys c

line_by : (blocked quiet validated : Bool) (nothing first : Due) → is_some (if blocked then None else if quiet && validated then None else if quiet then nothing else first)
    ≡ (not blocked && (if not quiet then is_some first else not validated && is_some nothing))
line_by true quiet validated nothing first = refl
line_by false true true nothing first = refl
line_by false true false nothing first = refl
line_by false false validated nothing first = refl

state_stands : (now : ℕ) (around : Around) (rtt : Rtt) (r : Recovery) → is_some (armed_at now around rtt r) ≡ stands around (λ id. is_some (space_of id r).eliciting_at) r
unfolding armed_at probe_line stands
state_stands now around rtt r =
    some_time _
    ∙ some_first (loss_first r) _
    ∙ rw (some_loss r, line_by around.blocked (is_quiet r) around.peer_validated (probe_of_nothing now around rtt r) (probe_first around rtt r), some_of_nothing now around rtt r, some_probes around rtt r, quiet_is r, not_not (elicits_any r)) refl

-- ---- what was sent

put_asked : (id space : SpaceId) (s : SpaceRecovery) (r : Recovery) → is_some (space_of id (with_space space s r)).eliciting_at ≡ (if rank space == rank id then is_some s.eliciting_at else is_some (space_of id r).eliciting_at)
put_asked Initial Initial s r = refl
put_asked Initial Handshake s r = refl
put_asked Initial Data s r = refl
put_asked Handshake Initial s r = refl
put_asked Handshake Handshake s r = refl
put_asked Handshake Data s r = refl
put_asked Data Initial s r = refl
put_asked Data Handshake s r = refl
put_asked Data Data s r = refl

same_asked : (id space : SpaceId) (r : Recovery) → (if rank space == rank id then is_some (space_of space r).eliciting_at else is_some (space_of id r).eliciting_at) ≡ is_some (space_of id r).eliciting_at
same_asked Initial Initial r = refl
same_asked Initial Handshake r = refl
same_asked Initial Data r = refl
same_asked Handshake Initial r = refl
same_asked Handshake Handshake r = refl
same_asked Handshake Data r = refl
same_asked Data Initial r = refl
same_asked Data Handshake r = refl
same_asked Data Data r = refl

count_asked : (id : SpaceId) (n : ℕ) (r : Recovery) → (space_of id (record r { count = n })).eliciting_at ≡ (space_of id r).eliciting_at
count_asked Initial n r = refl
count_asked Handshake n r = refl
count_asked Data n r = refl

-- a space that is put back with the time of its last packet that elicits an ACK
kept_asked : (id space : SpaceId) (s : SpaceRecovery) (r : Recovery) → s.eliciting_at ≡ (space_of space r).eliciting_at → is_some (space_of id (with_space space s r)).eliciting_at ≡ is_some (space_of id r).eliciting_at
kept_asked id space s r same = put_asked id space s r ∙ ap (λ (t : Option ℕ). if rank space == rank id then is_some t else is_some (space_of id r).eliciting_at) same ∙ same_asked id space r

sent_by : (same eliciting old : Bool) (at : ℕ) (mine theirs : Option ℕ) → is_some mine ≡ old → (same ≡ true → is_some theirs ≡ is_some mine) → (if same then is_some (if eliciting then Some at else theirs) else is_some mine) ≡ ((same && eliciting) || old)
sent_by true true old at mine theirs is alike = refl
sent_by true false old at mine theirs is alike = alike refl ∙ is
sent_by false eliciting old at mine theirs is alike = is

alike : (id space : SpaceId) (r : Recovery) → (rank space == rank id) ≡ true → is_some (space_of space r).eliciting_at ≡ is_some (space_of id r).eliciting_at
alike id space r h = ap (λ (b : Bool). if b then is_some (space_of space r).eliciting_at else is_some (space_of id r).eliciting_at) (sym h) ∙ same_asked id space r

dropped_by : (same old : Bool) (mine : Option ℕ) → is_some mine ≡ old → (if same then false else is_some mine) ≡ (not same && old)
dropped_by true old mine is = refl
dropped_by false old mine is = is

either_asked : (b : Bool) (x y : SpaceRecovery) (t : Option ℕ) → x.eliciting_at ≡ t → y.eliciting_at ≡ t → (if b then x else y).eliciting_at ≡ t
either_asked true x y t h k = h
either_asked false x y t h k = k

raised_asked : (largest : ℕ) (acked : List Entry) (s : SpaceRecovery) → (raised largest acked s).eliciting_at ≡ s.eliciting_at
unfolding raised
raised_asked largest acked s = either_asked _ _ s s.eliciting_at refl refl

acked_asked : (largest : ℕ) (ranges : List NumberRange) (s : SpaceRecovery) → (space_acked largest ranges s).eliciting_at ≡ s.eliciting_at
unfolding space_acked
acked_asked largest ranges s = raised_asked largest _ _

module _ {C : Type 0} where
  either_space : (b : Bool) (x y : SpaceAfter C) (t : Option ℕ) → x.space.eliciting_at ≡ t → y.space.eliciting_at ≡ t → (if b then x else y).space.eliciting_at ≡ t
  either_space true x y t h k = h
  either_space false x y t h k = k

  ack_asked : (m : Control C) (l : Limits) (o : Occasion) (a : AckValues) (ranges : List NumberRange) (around : Around) (s : SpaceRecovery) (p : PathData C) → (space_after m l o a ranges around s p).space.eliciting_at ≡ s.eliciting_at
  unfolding space_after losses_found marks_read space_less
  ack_asked m l o a ranges around s p = either_space _ _ _ s.eliciting_at (acked_asked a.largest ranges s) (acked_asked a.largest ranges s)

  fired_asked : (m : Control C) (id : SpaceId) (now : ℕ) (around : Around) (path : PathData C) (first : Due) (r : Recovery) → is_some (space_of id (timeout_by m now around first r path).recovery).eliciting_at ≡ is_some (space_of id r).eliciting_at
  unfolding space_timed space_less
  fired_asked m id now around path None r = probed (probe_line now around path.rtt r)
    where
      probed : (due : Due) → is_some (space_of id (probe_fired due r path).recovery).eliciting_at ≡ is_some (space_of id r).eliciting_at
      probed None = refl
      probed (Some due) = ap is_some (count_asked id _ r)
  fired_asked m id now around path (Some loss) r = kept_asked id loss.1 _ r refl

  call_asked : (m : Control C) (id : SpaceId) (c : Call C) (r : Recovery) (asked : Bool) → is_some (space_of id r).eliciting_at ≡ asked → is_some (space_of id (call_after m c r)).eliciting_at ≡ asked_after id c asked
  unfolding call_after asked_after sent_after space_sent ack_after timeout_after dropped_after space_dropped
  call_asked m id (Send space number packet) r asked is =
      put_asked id space (space_sent number packet (space_of space r)) r
      ∙ sent_by (rank space == rank id) packet.ack_eliciting asked packet.at (space_of id r).eliciting_at (space_of space r).eliciting_at is (alike id space r)
  call_asked m id (Acknowledge now space next began ack ranges around path) r asked is =
      let q : SpaceAfter C = space_after m r.limits (occasion now space next began r) ack ranges around (space_of space r) path in
      ap is_some (count_asked id _ (with_space space q.space r))
      ∙ kept_asked id space q.space r (ack_asked m r.limits (occasion now space next began r) ack ranges around (space_of space r) path)
      ∙ is
  call_asked m id (Fire now around path) r asked is = fired_asked m id now around path _ r ∙ is
  call_asked m id (Discard space) r asked is = put_asked id space (space_dropped (space_of space r)) r ∙ dropped_by (rank space == rank id) asked (space_of id r).eliciting_at is

  calls_asked : (m : Control C) (id : SpaceId) (cs : List (Call C)) (r : Recovery) (asked : Bool) → is_some (space_of id r).eliciting_at ≡ asked → is_some (space_of id (calls_after m cs r)).eliciting_at ≡ all_asked id cs asked
  calls_asked m id [] r asked is = is
  calls_asked m id (c ∷ cs) r asked is = calls_asked m id cs (call_after m c r) (asked_after id c asked) (call_asked m id c r asked is)

begun_asked : (id : SpaceId) (config : TransportValues) → is_some (space_of id (begun_recovery config)).eliciting_at ≡ false
unfolding begun_recovery no_space
begun_asked Initial config = refl
begun_asked Handshake config = refl
begun_asked Data config = refl

stands_alike : (around : Around) (a b : SpaceId → Bool) (r : Recovery) → a Initial ≡ b Initial → a Handshake ≡ b Handshake → a Data ≡ b Data → stands around a r ≡ stands around b r
unfolding stands
stands_alike around a b r i h d = rw (i, h, d) refl

pub runs_stand : {C : Type 0} → (m : Control C) (config : TransportValues) (cs : List (Call C)) (now : ℕ) (around : Around) (rtt : Rtt) → is_some (armed_at now around rtt (calls_after m cs (begun_recovery config))) ≡ stands around (λ id. all_asked id cs false) (calls_after m cs (begun_recovery config))
runs_stand m config cs now around rtt =
    state_stands now around rtt (calls_after m cs (begun_recovery config))
    ∙ stands_alike around (λ id. is_some (space_of id (calls_after m cs (begun_recovery config))).eliciting_at) (λ id. all_asked id cs false) (calls_after m cs (begun_recovery config))
    (calls_asked m Initial cs (begun_recovery config) false (begun_asked Initial config))
    (calls_asked m Handshake cs (begun_recovery config) false (begun_asked Handshake config))
    (calls_asked m Data cs (begun_recovery config) false (begun_asked Data config))

-- ---- the time of the next loss

some_earliest : (at : ℕ) (es : List Entry) → is_some (earliest_from (Some at) es) ≡ true
some_earliest at [] = refl
some_earliest at (e ∷ es) = some_earliest (min at e.1.at) es

some_lost : (delay : ℕ) (t : Option ℕ) → is_some (time_of_loss delay t) ≡ is_some t
some_lost delay None = refl
some_lost delay (Some t) = refl

first_by : (p : Entry → Bool) (e : Entry) (es : List Entry) (b : Bool) → p e ≡ b → is_some (earliest_of (filter p es)) ≡ list_any p es → is_some (earliest_of (filter p (e ∷ es))) ≡ (b || list_any p es)
first_by p e es true is more = rw (filter_takes p e es is) (some_earliest e.1.at (filter p es))
first_by p e es false is more = rw (filter_leaves p e es is) more

earliest_any : (p : Entry → Bool) (es : List Entry) → is_some (earliest_of (filter p es)) ≡ list_any p es
earliest_any p [] = refl
earliest_any p (e ∷ es) = first_by p e es (p e) refl (earliest_any p es)

less_stands : (l : Limits) (now delay largest : ℕ) (s : SpaceRecovery) → is_some (space_less l now delay largest s).loss_time ≡ list_any (is_below largest) (space_less l now delay largest s).flight
unfolding space_less those
less_stands l now delay largest s = some_lost delay _ ∙ earliest_any (is_below largest) _

module _ {C : Type 0} where
  ack_if : (b : Bool) (x y : SpaceAfter C) → b ≡ false → (if b then x else y) ≡ y
  ack_if b x y is = rw is refl

  pub ack_stands : (m : Control C) (l : Limits) (o : Occasion) (a : AckValues) (ranges : List NumberRange) (around : Around) (s : SpaceRecovery) (p : PathData C) → (length (acked_of ranges s) == 0) ≡ false → is_some (space_after m l o a ranges around s p).space.loss_time ≡ list_any (is_below (limit_with s.greatest a.largest)) (space_after m l o a ranges around s p).space.flight
  unfolding space_after losses_found marks_read
  ack_stands m l o a ranges around s p some = rw (ack_if (length (acked_of ranges s) == 0) _ _ some) (less_stands l o.time _ (limit_with s.greatest a.largest) (space_acked a.largest ranges s))

  pub timer_stands : (m : Control C) (l : Limits) (now : ℕ) (id : SpaceId) (s : SpaceRecovery) (p : PathData C) → is_some (space_timed m l now id s p).space.loss_time ≡ list_any (is_below (unwrap_or s.greatest 0)) (space_timed m l now id s p).space.flight
  unfolding space_timed
  timer_stands m l now id s p = less_stands l now _ (unwrap_or s.greatest 0) s

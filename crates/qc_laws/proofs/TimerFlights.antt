-- Where a packet in flight elicits an acknowledgement, the loss timer that is set stands; and what acknowledgements, losses and sealed
-- packets leave of what is in flight.
use Rattle.std.proofs.Common.{◌≡◌, ℕ, ◌+◌, ◌⊎◌, inl, inr, Bool, true, false, List, [], ◌∷◌, ◌++◌, append_assoc, Option, None, Some, refl, sym, ◌∙◌, ap, subst, if◌then◌else◌, sum_by, arith}
use Rattle.std.specs.Prelude.{◌==◌, ◌&&◌, ◌||◌, not, cond, is_some, nat_lt, IsPermutation}
use Rattle.std.specs.List.{list_any}
use Rattle.std.proofs.lemmas.Bool.Decides.{nat_tests}
use Rattle.std.proofs.lemmas.List.Folds.{list_any-append}
use Rattle.std.proofs.lemmas.List.Sorted.{list_any-IsPermutation}
use Rattle.std.proofs.lemmas.List.Sums.{sum_by-cons}
use Rattle.qc_base.specs.declared.range_set.NumberRange.{NumberRange}
use Rattle.qc_base.specs.declared.side.SpaceId.{SpaceId}
use Rattle.qc_base.specs.declared.side.SpaceId.TheVariants.{Initial, Handshake, «Data»}
use Rattle.qc_flight.specs.Packets.{Entry, counted_of, counted_one, eliciting_of, eliciting_one}
use Rattle.qc_flight.specs.declared.sent.SentPacket.{SentPacket}
use Rattle.qc_path.specs.Arrived.{exceeds}
use Rattle.qc_path.specs.RoundTrips.{Rtt}
use Rattle.qc_path.specs.declared.controller.Controller.{Ghosts as Control}
use Rattle.qc_recovery.specs.Acking.{raised, space_acked, space_less}
use Rattle.qc_recovery.specs.Calls.{dropped_after}
use Rattle.qc_recovery.specs.Steps.{After, SpaceAfter, ack_after, armed_at, first_that_holds, has_eliciting, is_handshake, is_quiet, later_by, loss_first, losses_found, marks_read, occasion, probe_fired, probe_first, probe_in, probe_line, probe_of_nothing, sent_after, sooner, space_after, space_dropped, space_of, space_sent, space_timed, time_of, timed, timeout_after, timeout_by, with_space}
use Rattle.qc_recovery.specs.declared.calls.AckValues.{AckValues}
use Rattle.qc_recovery.specs.declared.calls.Around.{Around}
use Rattle.qc_recovery.specs.declared.calls.Fired.{Fired}
use Rattle.qc_recovery.specs.declared.calls.Fired.TheVariants as fired
use Rattle.qc_recovery.specs.declared.path.PathData.{PathData}
use Rattle.qc_recovery.specs.declared.recovery.Recovery.{Recovery}
use Rattle.qc_recovery.specs.declared.space.SpaceRecovery.{SpaceRecovery}
use Rattle.qc_state.specs.Spaces.{is_space}
use Rattle.qc_laws.specs.TimerLaws.{FlightHolds, is_uncounted}
use Rattle.qc_laws.proofs.CryptoBuffers.{or_right}
use Rattle.qc_laws.proofs.CryptoPlaces.{FiresIn, ack_flight, ack_other, fired_flight, same_or}

abbrev Due : Type 0
Due = Option (ℕ × SpaceId)

-- ---- the timer that is set

first_some : (a b : Due) → is_some b ≡ true → is_some (time_of (first_that_holds a b)) ≡ true
first_some None None h = cc
first_some None (Some b) h = refl
first_some (Some a) b h = refl

either_some : (t : Bool) (a b : ℕ × SpaceId) → is_some (if t then Some a else Some b) ≡ true
either_some true a b = refl
either_some false a b = refl

sooner_left : (a b : Due) → is_some a ≡ true → is_some (sooner a b) ≡ true
sooner_left None b h = cc
sooner_left (Some a) None h = refl
sooner_left (Some a) (Some b) h = either_some (nat_lt b.0 a.0) b a

sooner_right : (a b : Due) → is_some b ≡ true → is_some (sooner a b) ≡ true
sooner_right None b h = h
sooner_right (Some a) None h = cc
sooner_right (Some a) (Some b) h = either_some (nat_lt b.0 a.0) b a

more_than_none : (b : Bool) (n : ℕ) → (cond b 1 0 + n == 0) ≡ (not b && (n == 0))
more_than_none true n = grind (arith, nat_tests)
more_than_none false n = grind (arith, nat_tests)

not_or : (a b : Bool) → (not a && not b) ≡ not (a || b)
not_or true b = refl
not_or false b = refl

none_counted : (es : List Entry) → (counted_of es == 0) ≡ not (list_any (λ (e : Entry). e.1.counted) es)
unfolding counted_of
none_counted [] = refl
none_counted (e ∷ es) =
    ap (λ (n : ℕ). n == 0) (sum_by-cons counted_one e es)
    ∙ more_than_none e.1.counted (sum_by counted_one es)
    ∙ ap (λ (b : Bool). not e.1.counted && b) (none_counted es)
    ∙ not_or e.1.counted (list_any (λ (e : Entry). e.1.counted) es)

none_elicits : (es : List Entry) → (eliciting_of es == 0) ≡ not (has_eliciting es)
unfolding eliciting_of
none_elicits [] = refl
none_elicits (e ∷ es) =
    ap (λ (n : ℕ). n == 0) (sum_by-cons eliciting_one e es)
    ∙ more_than_none e.1.ack_eliciting (sum_by eliciting_one es)
    ∙ ap (λ (b : Bool). not e.1.ack_eliciting && b) (none_elicits es)
    ∙ not_or e.1.ack_eliciting (has_eliciting es)

-- where a packet elicits, one counts
counts_by : (a b x y z : Bool) → ((a && not b) || x) ≡ false → (a || y) ≡ true → (x ≡ false → y ≡ true → z ≡ true) → (b || z) ≡ true
counts_by true true x y z p q rest = refl
counts_by true false x y z p q rest = cc
counts_by false true x y z p q rest = refl
counts_by false false x y z p q rest = rest p q

counts_any : (es : List Entry) → list_any is_uncounted es ≡ false → has_eliciting es ≡ true → list_any (λ (e : Entry). e.1.counted) es ≡ true
counts_any [] never h = h
counts_any (e ∷ es) never h = counts_by e.1.ack_eliciting e.1.counted (list_any is_uncounted es) (has_eliciting es) _ never h (counts_any es)

-- a space in which one elicits is probed
probed_by : (b : Bool) (id : SpaceId) (duration : ℕ) (at : Option ℕ) → b ≡ false → is_some at ≡ true → is_some (if b then None else timed id (later_by duration at)) ≡ true
probed_by true id duration at h k = cc
probed_by false id duration None h k = cc
probed_by false id duration (Some x) h k = refl

probe_some : (id : SpaceId) (around : Around) (rtt : Rtt) (count : ℕ) (s : SpaceRecovery) → FlightHolds s → has_eliciting s.flight ≡ true → is_some (probe_in id around rtt count s) ≡ true
unfolding probe_in
probe_some id around rtt count s h e = probed_by (counted_of s.flight == 0) id _ s.eliciting_at (none_counted s.flight ∙ ap not (counts_any s.flight h.counts e)) (h.asked e)

quiet_by : (id : SpaceId) (a b c : Bool) → (id ≡ Initial → a ≡ false) → (id ≡ Handshake → b ≡ false) → (id ≡ «Data» → c ≡ false) → ((a && b) && c) ≡ false
quiet_by Initial true b c f g h = let wrong : true ≡ false = f refl in cc
quiet_by Initial false b c f g h = refl
quiet_by Handshake true true c f g h = let wrong : true ≡ false = g refl in cc
quiet_by Handshake true false c f g h = refl
quiet_by Handshake false b c f g h = refl
quiet_by Data true true true f g h = let wrong : true ≡ false = h refl in cc
quiet_by Data true true false f g h = refl
quiet_by Data true false c f g h = refl
quiet_by Data false b c f g h = refl

-- where a packet of some space elicits, something is waited for
not_quiet : (id : SpaceId) (r : Recovery) → has_eliciting (space_of id r).flight ≡ true → is_quiet r ≡ false
unfolding is_quiet
not_quiet id r h =
    quiet_by id _ _ _
    (λ is. none_elicits r.initial.flight ∙ ap not (subst (λ (x : SpaceId). has_eliciting (space_of x r).flight ≡ true) is h))
    (λ is. none_elicits r.handshake.flight ∙ ap not (subst (λ (x : SpaceId). has_eliciting (space_of x r).flight ≡ true) is h))
    (λ is. none_elicits r.application.flight ∙ ap not (subst (λ (x : SpaceId). has_eliciting (space_of x r).flight ≡ true) is h))

where_some : (b : Bool) (p : Due) → b ≡ true → is_some p ≡ true → is_some (if b then p else None) ≡ true
where_some true p h k = k
where_some false p h k = cc

-- of the probe timeouts of the spaces there is one
first_probe : (id : SpaceId) (around : Around) (rtt : Rtt) (r : Recovery) → FlightHolds (space_of id r) → has_eliciting (space_of id r).flight ≡ true → (id ≡ «Data» → around.handshake_over ≡ true) → is_some (probe_first around rtt r) ≡ true
unfolding probe_first
first_probe Initial around rtt r h e over = sooner_left (sooner (probe_in Initial around rtt r.count r.initial) (probe_in Handshake around rtt r.count r.handshake)) _
    (sooner_left (probe_in Initial around rtt r.count r.initial) (probe_in Handshake around rtt r.count r.handshake) (probe_some Initial around rtt r.count r.initial h e))
first_probe Handshake around rtt r h e over = sooner_left (sooner (probe_in Initial around rtt r.count r.initial) (probe_in Handshake around rtt r.count r.handshake)) _
    (sooner_right (probe_in Initial around rtt r.count r.initial) (probe_in Handshake around rtt r.count r.handshake) (probe_some Handshake around rtt r.count r.handshake h e))
first_probe Data around rtt r h e over = sooner_right (sooner (probe_in Initial around rtt r.count r.initial) (probe_in Handshake around rtt r.count r.handshake)) _
    (where_some around.handshake_over (probe_in «Data» around rtt r.count r.application) (over refl) (probe_some «Data» around rtt r.count r.application h e))

line_some : (blocked quiet validated : Bool) (nothing first : Due) → blocked ≡ false → quiet ≡ false → is_some first ≡ true → is_some (if blocked then None else if quiet && validated then None else if quiet then nothing else first) ≡ true
line_some true quiet validated nothing first h k e = cc
line_some false true validated nothing first h k e = cc
line_some false false validated nothing first h k e = e

-- a timer that is set while no packet is held back stands where one in flight elicits
pub armed_some : (id : SpaceId) (now : ℕ) (around : Around) (rtt : Rtt) (r : Recovery) → around.blocked ≡ false → FlightHolds (space_of id r) → has_eliciting (space_of id r).flight ≡ true → (id ≡ «Data» → around.handshake_over ≡ true) →
    is_some (armed_at now around rtt r) ≡ true
unfolding armed_at probe_line
armed_some id now around rtt r free h e over =
    first_some (loss_first r) _ (line_some around.blocked (is_quiet r) around.peer_validated (probe_of_nothing now around rtt r) (probe_first around rtt r) free (not_quiet id r e) (first_probe id around rtt r h e over))

-- and it stands where none in flight elicits, for an end that may not be validated and has keys to probe with
all_quiet : (r : Recovery) → has_eliciting r.initial.flight ≡ false → has_eliciting r.handshake.flight ≡ false → has_eliciting r.application.flight ≡ false → is_quiet r ≡ true
unfolding is_quiet
all_quiet r a b c = three _ _ _ (none_elicits r.initial.flight ∙ ap not a) (none_elicits r.handshake.flight ∙ ap not b) (none_elicits r.application.flight ∙ ap not c)
  where
    three : (x y z : Bool) → x ≡ true → y ≡ true → z ≡ true → ((x && y) && z) ≡ true
    three true true z h k e = e
    three true false z h k e = cc
    three false y z h k e = cc

nothing_some : (now : ℕ) (around : Around) (rtt : Rtt) (r : Recovery) → (if is_handshake around.highest then around.handshake_keys else around.initial_keys) ≡ true → is_some (probe_of_nothing now around rtt r) ≡ true
unfolding probe_of_nothing
nothing_some now around rtt r h = by (is_handshake around.highest) around.handshake_keys around.initial_keys _ _ h
  where
    by : (b h i : Bool) (x y : ℕ × SpaceId) → (if b then h else i) ≡ true → is_some (if b then (if h then Some x else None) else (if i then Some y else None)) ≡ true
    by true true i x y e = refl
    by true false i x y e = cc
    by false h true x y e = refl
    by false h false x y e = cc

lonely_some : (blocked quiet validated : Bool) (nothing first : Due) → blocked ≡ false → quiet ≡ true → validated ≡ false → is_some nothing ≡ true → is_some (if blocked then None else if quiet && validated then None else if quiet then nothing else first) ≡ true
lonely_some true quiet validated nothing first h k e s = cc
lonely_some false false validated nothing first h k e s = cc
lonely_some false true true nothing first h k e s = cc
lonely_some false true false nothing first h k e s = s

pub armed_alone : (now : ℕ) (around : Around) (rtt : Rtt) (r : Recovery) → around.blocked ≡ false → around.peer_validated ≡ false → (if is_handshake around.highest then around.handshake_keys else around.initial_keys) ≡ true →
    has_eliciting r.initial.flight ≡ false → has_eliciting r.handshake.flight ≡ false → has_eliciting r.application.flight ≡ false → is_some (armed_at now around rtt r) ≡ true
unfolding armed_at probe_line
armed_alone now around rtt r free unknown keys a b c =
    first_some (loss_first r) _ (lonely_some around.blocked (is_quiet r) around.peer_validated (probe_of_nothing now around rtt r) (probe_first around rtt r) free (all_quiet r a b c) unknown (nothing_some now around rtt r keys))

-- ---- what is in flight

-- packets left the space
pub record Less (s s' : SpaceRecovery) : Type 0 where
  pub any : (p : Entry → Bool) → list_any p s'.flight ≡ true → list_any p s.flight ≡ true
  pub asked : s'.eliciting_at ≡ s.eliciting_at
  pub greatest : is_some s.greatest ≡ true → is_some s'.greatest ≡ true

pub less_here : (s : SpaceRecovery) → Less s s
less_here s = record { any = λ p h. h; asked = refl; greatest = λ h. h }

no_more : (a b : Bool) → (a ≡ true → b ≡ true) → b ≡ false → a ≡ false
no_more true b f h = let yes : b ≡ true = f refl in cc
no_more false b f h = refl

pub less_holds : (s s' : SpaceRecovery) → Less s s' → FlightHolds s → FlightHolds s'
less_holds s s' less h = record {
  counts = no_more (list_any is_uncounted s'.flight) (list_any is_uncounted s.flight) (less.any is_uncounted) h.counts;
  asked = λ e. ap (λ (x : Option ℕ). is_some x) less.asked ∙ h.asked (less.any (λ (x : Entry). x.1.ack_eliciting) e);
}

-- those that are left passed the test before
behind_any : (p : Entry → Bool) (flight front flight' : List Entry) → IsPermutation flight (front ++ flight') → list_any p flight' ≡ true → list_any p flight ≡ true
behind_any p flight front flight' once e =
    list_any-IsPermutation p flight (front ++ flight') once ∙ list_any-append p front flight' ∙ or_right (list_any p front) (list_any p flight') e

same_any : (p : Entry → Bool) (flight flight' : List Entry) → flight' ≡ flight → list_any p flight' ≡ true → list_any p flight ≡ true
same_any p flight flight' is e = ap (λ (es : List Entry). list_any p es) (sym is) ∙ e

-- a space that is put back with the time of its last packet that elicits
pub kept_asked : (id space : SpaceId) (s : SpaceRecovery) (r : Recovery) → s.eliciting_at ≡ (space_of space r).eliciting_at → (space_of id (with_space space s r)).eliciting_at ≡ (space_of id r).eliciting_at
kept_asked Initial Initial s r h = h
kept_asked Initial Handshake s r h = refl
kept_asked Initial Data s r h = refl
kept_asked Handshake Initial s r h = refl
kept_asked Handshake Handshake s r h = h
kept_asked Handshake Data s r h = refl
kept_asked Data Initial s r h = refl
kept_asked Data Handshake s r h = refl
kept_asked Data Data s r h = h

count_asked : (id : SpaceId) (n : ℕ) (r : Recovery) → (space_of id (record r { count = n })).eliciting_at ≡ (space_of id r).eliciting_at
count_asked Initial n r = refl
count_asked Handshake n r = refl
count_asked Data n r = refl

either_asked : (b : Bool) (x y : SpaceRecovery) (at : Option ℕ) → x.eliciting_at ≡ at → y.eliciting_at ≡ at → (if b then x else y).eliciting_at ≡ at
either_asked true x y at h k = h
either_asked false x y at h k = k

raised_asked : (largest : ℕ) (acked : List Entry) (s : SpaceRecovery) → (raised largest acked s).eliciting_at ≡ s.eliciting_at
unfolding raised
raised_asked largest acked s = either_asked _ _ s s.eliciting_at refl refl

-- the greatest number acknowledged stays known
pub kept_greatest : (id space : SpaceId) (s : SpaceRecovery) (r : Recovery) → (is_some (space_of space r).greatest ≡ true → is_some s.greatest ≡ true) → is_some (space_of id r).greatest ≡ true → is_some (space_of id (with_space space s r)).greatest ≡ true
kept_greatest Initial Initial s r f h = f h
kept_greatest Initial Handshake s r f h = h
kept_greatest Initial Data s r f h = h
kept_greatest Handshake Initial s r f h = h
kept_greatest Handshake Handshake s r f h = f h
kept_greatest Handshake Data s r f h = h
kept_greatest Data Initial s r f h = h
kept_greatest Data Handshake s r f h = h
kept_greatest Data Data s r f h = f h

count_greatest : (id : SpaceId) (n : ℕ) (r : Recovery) → is_some (space_of id r).greatest ≡ true → is_some (space_of id (record r { count = n })).greatest ≡ true
count_greatest Initial n r h = h
count_greatest Handshake n r h = h
count_greatest Data n r h = h

raised_greatest : (largest : ℕ) (acked : List Entry) (s : SpaceRecovery) → is_some s.greatest ≡ true → is_some (raised largest acked s).greatest ≡ true
unfolding raised
raised_greatest largest acked s h = by_test (exceeds s.greatest largest) _
  where
    by_test : (b : Bool) (kept : Option ℕ) → is_some (if b then record s { greatest = Some largest; kept_at = kept } else s).greatest ≡ true
    by_test true kept = refl
    by_test false kept = h

acked_greatest : (largest : ℕ) (ranges : List NumberRange) (s : SpaceRecovery) → is_some s.greatest ≡ true → is_some (space_acked largest ranges s).greatest ≡ true
unfolding space_acked
acked_greatest largest ranges s h = raised_greatest largest _ _ h

acked_asked : (largest : ℕ) (ranges : List NumberRange) (s : SpaceRecovery) → (space_acked largest ranges s).eliciting_at ≡ s.eliciting_at
unfolding space_acked
acked_asked largest ranges s = raised_asked largest _ _

fired_any : (q : Entry → Bool) (id : SpaceId) (r r' : Recovery) (f : Fired) → FiresIn id r r' f → list_any q (space_of id r').flight ≡ true → list_any q (space_of id r).flight ≡ true
fired_any q id r r' (fired.Lost space lost) h e = lost_by (same_or id space)
  where
    lost_by : (id ≡ space) ⊎ (is_space id space ≡ false) → list_any q (space_of id r).flight ≡ true
    lost_by (inl is) = behind_any q (space_of id r).flight lost (space_of id r').flight (h.0 is) e
    lost_by (inr other) = same_any q (space_of id r).flight (space_of id r').flight (h.1 other) e
fired_any q id r r' (fired.Probe space count) h e = same_any q (space_of id r).flight (space_of id r').flight h e
fired_any q id r r' fired.Nothing h e = same_any q (space_of id r).flight (space_of id r').flight h e

module _ {C : Type 0} where
  either_space : (b : Bool) (x y : SpaceAfter C) (at : Option ℕ) → x.space.eliciting_at ≡ at → y.space.eliciting_at ≡ at → (if b then x else y).space.eliciting_at ≡ at
  either_space true x y at h k = h
  either_space false x y at h k = k

  ack_asked : (m : Control C) (now : ℕ) (id : SpaceId) (next began : ℕ) (r : Recovery) (a : AckValues) (ranges : List NumberRange) (around : Around) (s : SpaceRecovery) (p : PathData C) →
      (space_after m r.limits (occasion now id next began r) a ranges around s p).space.eliciting_at ≡ s.eliciting_at
  unfolding space_after losses_found marks_read space_less
  ack_asked m now id next began r a ranges around s p = either_space _ _ _ s.eliciting_at (acked_asked a.largest ranges s) (acked_asked a.largest ranges s)

  more_space : (b : Bool) (x y : SpaceAfter C) → is_some x.space.greatest ≡ true → is_some y.space.greatest ≡ true → is_some (if b then x else y).space.greatest ≡ true
  more_space true x y h k = h
  more_space false x y h k = k

  ack_greatest : (m : Control C) (now : ℕ) (id : SpaceId) (next began : ℕ) (r : Recovery) (a : AckValues) (ranges : List NumberRange) (around : Around) (s : SpaceRecovery) (p : PathData C) →
      is_some s.greatest ≡ true → is_some (space_after m r.limits (occasion now id next began r) a ranges around s p).space.greatest ≡ true
  unfolding space_after losses_found marks_read space_less
  ack_greatest m now id next began r a ranges around s p h = more_space _ _ _ (acked_greatest a.largest ranges s h) (acked_greatest a.largest ranges s h)

  settled_greatest : (m : Control C) (now : ℕ) (id space : SpaceId) (next began : ℕ) (ack : AckValues) (ranges : List NumberRange) (around : Around) (r : Recovery) (p : PathData C) →
      is_some (space_of id r).greatest ≡ true → is_some (space_of id (ack_after m now space next began ack ranges around r p).recovery).greatest ≡ true
  unfolding ack_after
  settled_greatest m now id space next began ack ranges around r p h =
      let q : SpaceAfter C = space_after m r.limits (occasion now space next began r) ack ranges around (space_of space r) p in
      count_greatest id _ (with_space space q.space r) (kept_greatest id space q.space r (ack_greatest m now space next began r ack ranges around (space_of space r) p) h)

  settled_asked : (m : Control C) (now : ℕ) (id space : SpaceId) (next began : ℕ) (ack : AckValues) (ranges : List NumberRange) (around : Around) (r : Recovery) (p : PathData C) →
      (space_of id (ack_after m now space next began ack ranges around r p).recovery).eliciting_at ≡ (space_of id r).eliciting_at
  unfolding ack_after
  settled_asked m now id space next began ack ranges around r p =
      let q : SpaceAfter C = space_after m r.limits (occasion now space next began r) ack ranges around (space_of space r) p in
      count_asked id _ (with_space space q.space r) ∙ kept_asked id space q.space r (ack_asked m now space next began r ack ranges around (space_of space r) p)

  -- an acknowledgement
  pub ack_less : (m : Control C) (now : ℕ) (id space : SpaceId) (next began : ℕ) (ack : AckValues) (ranges : List NumberRange) (around : Around) (r : Recovery) (p : PathData C) →
      Less (space_of id r) (space_of id (ack_after m now space next began ack ranges around r p).recovery)
  ack_less m now id space next began ack ranges around r p = record { any = λ q e. any_by q (same_or id space) e; asked = settled_asked m now id space next began ack ranges around r p; greatest = settled_greatest m now id space next began ack ranges around r p }
    where
      any_by : (q : Entry → Bool) → (id ≡ space) ⊎ (is_space id space ≡ false) → list_any q (space_of id (ack_after m now space next began ack ranges around r p).recovery).flight ≡ true → list_any q (space_of id r).flight ≡ true
      any_by q (inl is) e =
          let left : After C = ack_after m now id next began ack ranges around r p in
          behind_any q (space_of id r).flight (left.acked ++ left.lost) (space_of id left.recovery).flight
          (subst (λ (es : List Entry). IsPermutation (space_of id r).flight es) (sym (append_assoc left.acked left.lost (space_of id left.recovery).flight)) (ack_flight m now id next began ack ranges around r p))
          (subst (λ (x : SpaceId). list_any q (space_of id (ack_after m now x next began ack ranges around r p).recovery).flight ≡ true) (sym is) e)
      any_by q (inr other) e = same_any q (space_of id r).flight _ (ack_other m now id space next began ack ranges around r p other) e

  fired_asked : (m : Control C) (id : SpaceId) (now : ℕ) (around : Around) (path : PathData C) (first : Due) (r : Recovery) → (space_of id (timeout_by m now around first r path).recovery).eliciting_at ≡ (space_of id r).eliciting_at
  unfolding space_timed space_less
  fired_asked m id now around path None r = probed (probe_line now around path.rtt r)
    where
      probed : (due : Due) → (space_of id (probe_fired due r path).recovery).eliciting_at ≡ (space_of id r).eliciting_at
      probed None = refl
      probed (Some due) = count_asked id _ r
  fired_asked m id now around path (Some loss) r = kept_asked id loss.1 _ r refl

  fired_greatest : (m : Control C) (id : SpaceId) (now : ℕ) (around : Around) (path : PathData C) (first : Due) (r : Recovery) → is_some (space_of id r).greatest ≡ true → is_some (space_of id (timeout_by m now around first r path).recovery).greatest ≡ true
  unfolding space_timed space_less
  fired_greatest m id now around path None r h = probed (probe_line now around path.rtt r)
    where
      probed : (due : Due) → is_some (space_of id (probe_fired due r path).recovery).greatest ≡ true
      probed None = h
      probed (Some due) = count_greatest id _ r h
  fired_greatest m id now around path (Some loss) r h = kept_greatest id loss.1 _ r (λ e. e) h

  timed_greatest : (m : Control C) (now : ℕ) (id : SpaceId) (around : Around) (r : Recovery) (p : PathData C) → is_some (space_of id r).greatest ≡ true → is_some (space_of id (timeout_after m now around r p).recovery).greatest ≡ true
  unfolding timeout_after
  timed_greatest m now id around r p h = fired_greatest m id now around p (loss_first r) r h

  timed_asked : (m : Control C) (now : ℕ) (id : SpaceId) (around : Around) (r : Recovery) (p : PathData C) → (space_of id (timeout_after m now around r p).recovery).eliciting_at ≡ (space_of id r).eliciting_at
  unfolding timeout_after
  timed_asked m now id around r p = fired_asked m id now around p (loss_first r) r

  -- the timer
  pub fire_less : (m : Control C) (now : ℕ) (id : SpaceId) (around : Around) (r : Recovery) (p : PathData C) → Less (space_of id r) (space_of id (timeout_after m now around r p).recovery)
  fire_less m now id around r p =
      record { any = λ q e. fired_any q id r (timeout_after m now around r p).recovery (timeout_after m now around r p).fired (fired_flight m id now around r p) e; asked = timed_asked m now id around r p; greatest = timed_greatest m now id around r p }

-- ---- each space

-- a space that is put in its place
put_holds : (id space : SpaceId) (s : SpaceRecovery) (r : Recovery) → FlightHolds s → FlightHolds (space_of id r) → FlightHolds (space_of id (with_space space s r))
put_holds Initial Initial s r h k = h
put_holds Initial Handshake s r h k = k
put_holds Initial Data s r h k = k
put_holds Handshake Initial s r h k = k
put_holds Handshake Handshake s r h k = h
put_holds Handshake Data s r h k = k
put_holds Data Initial s r h k = k
put_holds Data Handshake s r h k = k
put_holds Data Data s r h k = h

-- a packet is in flight
sent_holds : (n : ℕ) (packet : SentPacket) (s : SpaceRecovery) → (packet.ack_eliciting && not packet.counted) ≡ false → FlightHolds s → FlightHolds (space_sent n packet s)
unfolding space_sent
sent_holds n packet s counts h = record {
  counts = list_any-append is_uncounted s.flight ((n, packet) ∷ []) ∙ neither (list_any is_uncounted s.flight) (packet.ack_eliciting && not packet.counted) h.counts counts;
  asked = λ e. asked_by packet.ack_eliciting (sym (list_any-append (λ (x : Entry). x.1.ack_eliciting) s.flight ((n, packet) ∷ [])) ∙ e);
}
  where
    neither : (a b : Bool) → a ≡ false → b ≡ false → (a || (b || false)) ≡ false
    neither true b h k = cc
    neither false true h k = cc
    neither false false h k = refl

    without_last : (a : Bool) → (a || (false || false)) ≡ true → a ≡ true
    without_last true h = refl
    without_last false h = h

    asked_by : (b : Bool) → (has_eliciting s.flight || (b || false)) ≡ true → is_some (if b then Some packet.at else s.eliciting_at) ≡ true
    asked_by true e = refl
    asked_by false e = h.asked (without_last (has_eliciting s.flight) e)

pub sent_each : (id space : SpaceId) (n : ℕ) (packet : SentPacket) (r : Recovery) → (packet.ack_eliciting && not packet.counted) ≡ false → ((x : SpaceId) → FlightHolds (space_of x r)) → FlightHolds (space_of id (sent_after space n packet r))
unfolding sent_after
sent_each id space n packet r counts h = put_holds id space (space_sent n packet (space_of space r)) r (sent_holds n packet (space_of space r) counts (h space)) (h id)

-- the keys of a space are dropped
pub dropped_each : (id space : SpaceId) (r : Recovery) → ((x : SpaceId) → FlightHolds (space_of x r)) → FlightHolds (space_of id (dropped_after space r))
unfolding dropped_after space_dropped
dropped_each id space r h = put_holds id space (space_dropped (space_of space r)) r (record { counts = refl; asked = λ e. absurd cc }) (h id)

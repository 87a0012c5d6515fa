-- What waits is drawn once the marks are taken off, and nothing else, whatever happened
use Rattle.std.proofs.Common.{◌≡◌, ◌∙◌, ℕ, ℤ, ◌-◌, ◌^◌, ◌<◌, ◌≤◌, Bool, true, false, cond, not, ◌&&◌, ◌||◌, nat_le, nat_lt, List, [], ◌∷◌, Option, None, Some, is_eq, is_some, ap, sym, subst, arith, refl}
use Rattle.std.specs.BTreeMap.{is_at}
use Rattle.std.specs.List.{list_any}
use Rattle.std.specs.Option.{option_map}
use Rattle.std.specs.Ordering.{nat_cmp}
use Rattle.std.proofs.lemmas.Bool.{false≢true, or_left, or_right}
use Rattle.std.proofs.lemmas.Bool.Decides.{nat_tests}
use Rattle.std.proofs.lemmas.Map.Entries.{lookup_head}
use Rattle.qc_base.specs.declared.side.Dir.TheVariants.{Bi, Uni}
use Rattle.qc_base.specs.declared.side.Side.{Side}
use Rattle.qc_base.specs.declared.varint.VarInt.{VarInt}
use Rattle.qc_recv.specs.declared.recv.Recv.{Recv}
use Rattle.qc_recv.specs.Owed.{credit_value}
use Rattle.qc_send_stream.specs.declared.send.Part.{Part}
use Rattle.qc_send_stream.specs.declared.send.SendPart.{SendPart}
use Rattle.qc_send_stream.specs.Buffer.{has_bytes, waiting}
use Rattle.qc_send_stream.specs.Sending.{IsOffer, end_waits, has_more, part_of, reset_owed}
use Rattle.qc_turns.specs.Ids.{first_id}
use Rattle.qc_turns.specs.Ready.{next_turn, place_cmp}
use Rattle.qc_streams.specs.declared.control.Control.{Control}
use Rattle.qc_streams.specs.declared.control.Control.TheVariants.{Reset, Stop, MaxData, MaxStreamData, MaxStreams}
use Rattle.qc_streams.specs.declared.counts.ByDir.{ByDir}
use Rattle.qc_streams.specs.declared.counts.PeerStreams.{PeerStreams}
use Rattle.qc_streams.specs.declared.credit.Incoming.{Incoming}
use Rattle.qc_streams.specs.declared.parts.StreamPart.{StreamPart}
use Rattle.qc_streams.specs.declared.state.StreamsState.{StreamsState}
use Rattle.qc_streams.specs.declared.stream.Stream.{Stream}
use Rattle.qc_streams.specs.declared.waiting.Dues.{Dues}
use Rattle.qc_streams.specs.Control.{control_len, credit_due, credit_of, data_with, gone_stop, if_fits, next_control, of_first, or_else, reset_due, reset_of, stop_due, stop_of, streams_with}
use Rattle.qc_streams.specs.Filed.{FiledIsExact, IsExact, OwedIsFiled, is_among, is_marked, turn_of}
use Rattle.qc_streams.specs.Owed.{max_data_owed, max_streams_owed}
use Rattle.qc_streams.specs.Pending.{ControlIsDrawn, DrawsControl, DrawsWaiting, WaitingIsDrawn, bytes_wait, credit_waits, frames_wait, has_control, has_waiting, limits_wait, looked_at, reset_waits, stop_waits}
use Rattle.qc_streams.specs.Queues.{dues_at, dues_of, owes_credit, owes_data, owes_frames, owes_reset, owes_stop, turn_at}
use Rattle.qc_streams.specs.Records.{record_of}
use Rattle.qc_streams.specs.Steps.{IsOwed, OwesData, OwesGoneStop, OwesReset, OwesStop, OwesStreamData, OwesStreams}
use Rattle.qc_streams.specs.Stops.{StopCodes, first_stop}
use Rattle.qc_streams.specs.StreamBytes.{IsDrawn, IsOfferAt, IsOfferOf, IsTurn, part_on}
use Rattle.qc_streams.specs.Streams.{new_streams}
use Rattle.qc_streams.specs.Waits.{ArePossible, Step, after, after_step}
use Rattle.qc_streams.proofs.FiledLaw.{filed_is_exact, owed_is_filed}
use Rattle.qc_streams.proofs.FiledPlaces.{place_tied}
use Rattle.qc_streams.proofs.FiledTurns.{InTurn, filed_turns}
use Rattle.qc_streams.proofs.KeepLaw.{always, always_filed}
use Rattle.qc_streams.proofs.Keyed.{at_is, own_key}
use Rattle.qc_streams.proofs.PendingFiled.{OwesAlike, all_filed_alike}
use Rattle.qc_streams.proofs.PendingStops.{KnownIf, StopsKnown, stops_known, stops_known_filed}
use Rattle.qc_streams.proofs.StepsLaw.{next_owes}

-- ---- lists

any_among : (p : ℕ → Bool) (id : ℕ) (ids : List ℕ) → is_among id ids ≡ true → p id ≡ true → list_any p ids ≡ true
any_among p id [] among is = absurd (false≢true among)
any_among p id (x ∷ xs) among is = by (is_at (nat_cmp id) x) refl (λ there. any_among p id xs there is) among
  where
    by : (b : Bool) → is_at (nat_cmp id) x ≡ b → (is_among id xs ≡ true → list_any p xs ≡ true) → (b || is_among id xs) ≡ true
        → (p x || list_any p xs) ≡ true
    by true at rest among = or_left (p x) (list_any p xs) (subst (λ (k : ℕ). p k ≡ true) (at_is id x at) is)
    by false at rest among = or_right (p x) (list_any p xs) (rest among)

some_any : {X : Type 0} (p : X → Bool) (xs : List X) → list_any p xs ≡ true → (x : X) × (p x ≡ true)
some_any {X = X} p [] is = absurd (false≢true is)
some_any {X = X} p (x ∷ xs) is = by (p x) refl (λ there. some_any p xs there) is
  where
    by : (b : Bool) → p x ≡ b → (list_any p xs ≡ true → (y : X) × (p y ≡ true)) → (b || list_any p xs) ≡ true → (y : X) × (p y ≡ true)
    by true at rest is = (x, at)
    by false at rest is = rest is

first_among : (id : ℕ) (ids : List ℕ) → is_among id ids ≡ true → (j : ℕ) × (first_id ids ≡ Some j) × (is_among j ids ≡ true)
first_among id [] among = absurd (false≢true among)
first_among id (x ∷ xs) among = (x, refl, or_left (is_at (nat_cmp x) x) (is_among x xs) (own_key x))

any_turn : (p : ℕ → Bool) (place : ℤ × ℕ) (id : ℕ) (ready : List ((ℤ × ℕ) × ℕ)) → turn_of place ready ≡ Some id → p id ≡ true
    → list_any (λ e. p e.1) ready ≡ true
any_turn p place id [] is holds = absurd (cc)
any_turn p place id (e ∷ es) is holds = by (is_at (place_cmp place) e.0) is (λ there. any_turn p place id es there holds)
  where
    by : (b : Bool) → cond b (Some e.1) (turn_of place es) ≡ Some id → (turn_of place es ≡ Some id → list_any (λ e. p e.1) es ≡ true)
        → (p e.1 || list_any (λ e. p e.1) es) ≡ true
    by true is rest = let same : id ≡ e.1 = cc in or_left (p e.1) (list_any (λ e. p e.1) es) (subst (λ (k : ℕ). p k ≡ true) same holds)
    by false is rest = or_right (p e.1) (list_any (λ e. p e.1) es) (rest is)

first_turn : (id : ℕ) (ready : List ((ℤ × ℕ) × ℕ)) → next_turn ready ≡ Some id → (place : ℤ × ℕ) × (turn_of place ready ≡ Some id)
first_turn id [] is = absurd (cc)
first_turn id (e ∷ es) is = (e.0, lookup_head (is_at (place_cmp e.0)) e es (ap is_eq (place_tied e.0)) ∙ is)

has_turn : (place : ℤ × ℕ) (id : ℕ) (ready : List ((ℤ × ℕ) × ℕ)) → turn_of place ready ≡ Some id → (j : ℕ) × (next_turn ready ≡ Some j)
has_turn place id [] is = absurd (cc)
has_turn place id (e ∷ es) is = (e.1, refl)

the_turn : (o : Option (ℤ × ℕ)) → is_some o ≡ true → (place : ℤ × ℕ) × (o ≡ Some place)
the_turn None is = absurd (false≢true is)
the_turn (Some place) is = (place, refl)

the_frame : (o : Option Control) → is_some o ≡ true → (c : Control) × (o ≡ Some c)
the_frame None is = absurd (false≢true is)
the_frame (Some c) is = (c, refl)

three : (a b c : Bool) (P : Type 0) → (a || (b || c)) ≡ true → (a ≡ true → P) → (b ≡ true → P) → (c ≡ true → P) → P
three true b c P is x y z = x refl
three false true c P is x y z = y refl
three false false c P is x y z = z is

-- ---- what is known of a state that was reached, and of the same once the marks are taken off

record Reached (s t : StreamsState) : Type 0 where
  marks : (j : ℕ) → is_marked (record_of j s.records) ≡ true → is_among j s.waiting.marks.ids ≡ true
  sets : (j : ℕ) → is_marked (record_of j s.records) ≡ false → IsExact j (record_of j s.records) s.waiting
  exact : (j : ℕ) → IsExact j (record_of j t.records) t.waiting
  alike : OwesAlike s t
  known : StopsKnown s
  stops : StopsKnown t

-- ---- frames without bytes

-- what is owed, in one of three ways
data Owes (s : StreamsState) : Type 0 where
  ByFrame : (id : ℕ) → frames_wait s id ≡ true → Owes s
  ByGone : is_some (first_stop s.waiting.gone_stops) ≡ true → Owes s
  ByLimit : limits_wait s ≡ true → Owes s

before : (s t : StreamsState) → OwesAlike s t → Owes t → Owes s
before s t a (ByFrame id is) = ByFrame id (ap (λ (d : Dues). owes_frames d) (sym (a.dues id)) ∙ is)
before s t a (ByGone is) = ByGone (ap (λ (codes : StopCodes). is_some (first_stop codes)) (sym a.gone) ∙ is)
before s t a (ByLimit is) = ByLimit (ap (λ (i : Incoming). i.waits || (s.peer.bi.waits || s.peer.uni.waits)) (sym a.incoming)
    ∙ ap (λ (p : ByDir PeerStreams). t.incoming.waits || (p.bi.waits || p.uni.waits)) (sym a.peer) ∙ is)

later : (s t : StreamsState) → OwesAlike s t → Owes s → Owes t
later s t a (ByFrame id is) = ByFrame id (ap (λ (d : Dues). owes_frames d) (a.dues id) ∙ is)
later s t a (ByGone is) = ByGone (ap (λ (codes : StopCodes). is_some (first_stop codes)) a.gone ∙ is)
later s t a (ByLimit is) = ByLimit (ap (λ (i : Incoming). i.waits || (t.peer.bi.waits || t.peer.uni.waits)) a.incoming
    ∙ ap (λ (p : ByDir PeerStreams). s.incoming.waits || (p.bi.waits || p.uni.waits)) a.peer ∙ is)

frame_control : (s t : StreamsState) → Reached s t → (id : ℕ) → frames_wait s id ≡ true → has_control s ≡ true
unfolding has_control
frame_control s t r id is = or_right l _ (or_right g _ (by (is_marked (record_of id s.records)) refl))
  where
    l : Bool
    l = limits_wait s

    g : Bool
    g = is_some (first_stop s.waiting.gone_stops)

    a : Bool
    a = list_any (reset_waits s) s.waiting.resets

    b : Bool
    b = list_any (stop_waits s) s.waiting.stops

    c : Bool
    c = list_any (credit_waits s) s.waiting.credits

    m : Bool
    m = list_any (frames_wait s) s.waiting.marks.ids

    by : (x : Bool) → is_marked (record_of id s.records) ≡ x → (a || (b || (c || m))) ≡ true
    by true marked = or_right a _ (or_right b _ (or_right c m (any_among (frames_wait s) id s.waiting.marks.ids (r.marks id marked) is)))
    by false idle =
        let e : IsExact id (record_of id s.records) s.waiting = r.sets id idle in
        three (reset_waits s id) (stop_waits s id) (credit_waits s id) ((a || (b || (c || m))) ≡ true) is
        (λ has. or_left a _ (any_among (reset_waits s) id s.waiting.resets (e.resets ∙ has) has))
        (λ has. or_right a _ (or_left b _ (any_among (stop_waits s) id s.waiting.stops (e.stops ∙ has) has)))
        (λ has. or_right a _ (or_right b _ (or_left c m (any_among (credit_waits s) id s.waiting.credits (e.credits ∙ has) has))))

owes_control : (s t : StreamsState) → Reached s t → Owes s → has_control s ≡ true
unfolding has_control
owes_control s t r (ByFrame id is) = frame_control s t r id is
owes_control s t r (ByGone is) = or_right (limits_wait s) _ (or_left (is_some (first_stop s.waiting.gone_stops)) _ is)
owes_control s t r (ByLimit is) = or_left (limits_wait s) _ is

reset_frames : (s : StreamsState) (id : ℕ) → reset_waits s id ≡ true → frames_wait s id ≡ true
reset_frames s id is = or_left (reset_waits s id) (stop_waits s id || credit_waits s id) is

stop_frames : (s : StreamsState) (id : ℕ) → stop_waits s id ≡ true → frames_wait s id ≡ true
stop_frames s id is = or_right (reset_waits s id) (stop_waits s id || credit_waits s id) (or_left (stop_waits s id) (credit_waits s id) is)

credit_frames : (s : StreamsState) (id : ℕ) → credit_waits s id ≡ true → frames_wait s id ≡ true
credit_frames s id is = or_right (reset_waits s id) (stop_waits s id || credit_waits s id) (or_right (stop_waits s id) (credit_waits s id) is)

control_owes : (s : StreamsState) → has_control s ≡ true → Owes s
unfolding has_control
control_owes s is =
    three (limits_wait s) (is_some (first_stop s.waiting.gone_stops)) _ (Owes s) is (λ l. ByLimit l) (λ g. ByGone g)
    (λ is. three (list_any (reset_waits s) s.waiting.resets) (list_any (stop_waits s) s.waiting.stops) _ (Owes s) is
    (λ has. let x : (id : ℕ) × (reset_waits s id ≡ true) = some_any (reset_waits s) s.waiting.resets has in ByFrame x.0 (reset_frames s x.0 x.1))
    (λ has. let x : (id : ℕ) × (stop_waits s id ≡ true) = some_any (stop_waits s) s.waiting.stops has in ByFrame x.0 (stop_frames s x.0 x.1))
    (λ is. three (list_any (credit_waits s) s.waiting.credits) (list_any (frames_wait s) s.waiting.marks.ids) false (Owes s) (last _ _ is)
    (λ has. let x : (id : ℕ) × (credit_waits s id ≡ true) = some_any (credit_waits s) s.waiting.credits has in ByFrame x.0 (credit_frames s x.0 x.1))
    (λ has. let x : (id : ℕ) × (frames_wait s id ≡ true) = some_any (frames_wait s) s.waiting.marks.ids has in ByFrame x.0 x.1)
    (λ never. absurd (false≢true never))))
  where
    last : (b c : Bool) → (b || c) ≡ true → (b || (c || false)) ≡ true
    last true c is = refl
    last false true is = refl
    last false false is = is

-- the frame of each kind is there exactly where it is owed

reset_some : (id : ℕ) (o : Option Stream) → (dues_at o).reset ≡ true → is_some (reset_of id o) ≡ true
unfolding dues_of
reset_some id None is = absurd (false≢true is)
reset_some id (Some st) is = by st.sending is
  where
    there : (due : Option (VarInt × ℕ)) → is_some due ≡ true → is_some (option_map (λ due. Reset id due.0 due.1) due) ≡ true
    there None is = is
    there (Some due) is = refl

    by : (p : Option SendPart) → owes_reset p ≡ true → is_some (option_map (λ due. Reset id due.0 due.1) (reset_due p)) ≡ true
    by None is = is
    by (Some p) is = there (reset_owed p) is

some_reset : (id : ℕ) (o : Option Stream) (c : Control) → reset_of id o ≡ Some c → (dues_at o).reset ≡ true
unfolding dues_of
some_reset id None c is = absurd (cc)
some_reset id (Some st) c is = by st.sending is
  where
    there : (due : Option (VarInt × ℕ)) → option_map (λ due. Reset id due.0 due.1) due ≡ Some c → is_some due ≡ true
    there None is = absurd (cc)
    there (Some due) is = refl

    by : (p : Option SendPart) → option_map (λ due. Reset id due.0 due.1) (reset_due p) ≡ Some c → owes_reset p ≡ true
    by None is = absurd (cc)
    by (Some p) is = there (reset_owed p) is

stop_some : (id : ℕ) (o : Option Stream) → ((st : Stream) → o ≡ Some st → KnownIf st.receiving) → (dues_at o).stop ≡ true → is_some (stop_of id o) ≡ true
unfolding dues_of
stop_some id None known is = absurd (false≢true is)
stop_some id (Some st) known is = by st.receiving (known st refl) is
  where
    there : (code : Option VarInt) → is_some code ≡ true → is_some (option_map (Stop id) code) ≡ true
    there None is = is
    there (Some code) is = refl

    owed : (b : Bool) (code : Option VarInt) → b ≡ true → is_some code ≡ true → is_some (option_map (Stop id) (cond b code None)) ≡ true
    owed true code is has = there code has
    owed false code is has = absurd (false≢true is)

    by : (p : Option Recv) → KnownIf p → owes_stop p ≡ true → is_some (option_map (Stop id) (stop_due p)) ≡ true
    by None known is = is
    by (Some r) known is = owed r.stop_waits r.stopped is (known is)

some_stop : (id : ℕ) (o : Option Stream) (c : Control) → stop_of id o ≡ Some c → (dues_at o).stop ≡ true
unfolding dues_of
some_stop id None c is = absurd (cc)
some_stop id (Some st) c is = by st.receiving is
  where
    owed : (b : Bool) (code : Option VarInt) → option_map (Stop id) (cond b code None) ≡ Some c → b ≡ true
    owed true code is = refl
    owed false code is = absurd (cc)

    by : (p : Option Recv) → option_map (Stop id) (stop_due p) ≡ Some c → owes_stop p ≡ true
    by None is = absurd (cc)
    by (Some r) is = owed r.stop_waits r.stopped is

credit_some : (id : ℕ) (o : Option Stream) → (dues_at o).credit ≡ true → is_some (credit_of id o) ≡ true
unfolding dues_of
credit_some id None is = absurd (false≢true is)
credit_some id (Some st) is = by st.receiving is
  where
    owed : (b : Bool) (limit : ℕ) → b ≡ true → is_some (option_map (MaxStreamData id) (cond b (Some limit) None)) ≡ true
    owed true limit is = refl
    owed false limit is = absurd (false≢true is)

    by : (p : Option Recv) → owes_credit p ≡ true → is_some (option_map (MaxStreamData id) (credit_due p)) ≡ true
    by None is = is
    by (Some r) is = owed r.credit_waits (credit_value r) is

some_credit : (id : ℕ) (o : Option Stream) (c : Control) → credit_of id o ≡ Some c → (dues_at o).credit ≡ true
unfolding dues_of
some_credit id None c is = absurd (cc)
some_credit id (Some st) c is = by st.receiving is
  where
    owed : (b : Bool) (limit : ℕ) → option_map (MaxStreamData id) (cond b (Some limit) None) ≡ Some c → b ≡ true
    owed true limit is = refl
    owed false limit is = absurd (cc)

    by : (p : Option Recv) → option_map (MaxStreamData id) (credit_due p) ≡ Some c → owes_credit p ≡ true
    by None is = absurd (cc)
    by (Some r) is = owed r.credit_waits (credit_value r) is

limit_some : (b : Bool) (n : ℕ) (f : ℕ → Control) → b ≡ true → is_some (option_map f (cond b (Some n) None)) ≡ true
limit_some true n f is = refl
limit_some false n f is = absurd (false≢true is)

some_limit : (b : Bool) (n : ℕ) (f : ℕ → Control) (c : Control) → option_map f (cond b (Some n) None) ≡ Some c → b ≡ true
some_limit true n f c is = refl
some_limit false n f c is = absurd (cc)

gone_some : (o : Option (ℕ × VarInt)) → is_some o ≡ true → is_some (option_map (λ stop. Stop stop.0 stop.1) o) ≡ true
gone_some None is = is
gone_some (Some stop) is = refl

some_gone : (o : Option (ℕ × VarInt)) (c : Control) → option_map (λ stop. Stop stop.0 stop.1) o ≡ Some c → is_some o ≡ true
some_gone None c is = absurd (cc)
some_gone (Some stop) c is = refl

owed_owes : (c : Control) (s : StreamsState) → IsOwed c s → Owes s
unfolding max_data_owed max_streams_owed
owed_owes c s (OwesReset id is) = ByFrame id (reset_frames s id (some_reset id (record_of id s.records) c is))
owed_owes c s (OwesStop id is) = ByFrame id (stop_frames s id (some_stop id (record_of id s.records) c is))
owed_owes c s (OwesGoneStop is) = ByGone (some_gone (first_stop s.waiting.gone_stops) c is)
owed_owes c s (OwesStreamData id is) = ByFrame id (credit_frames s id (some_credit id (record_of id s.records) c is))
owed_owes c s (OwesData is) = ByLimit (or_left s.incoming.waits _ (some_limit s.incoming.waits _ MaxData c is))
owed_owes c s (OwesStreams Bi is) = ByLimit (or_right s.incoming.waits _ (or_left s.peer.bi.waits s.peer.uni.waits (some_limit s.peer.bi.waits _ (MaxStreams Bi) c is)))
owed_owes c s (OwesStreams Uni is) = ByLimit (or_right s.incoming.waits _ (or_right s.peer.bi.waits s.peer.uni.waits (some_limit s.peer.uni.waits _ (MaxStreams Uni) c is)))

owes_owed : (s : StreamsState) → StopsKnown s → Owes s → (c : Control) × IsOwed c s
unfolding max_data_owed max_streams_owed
owes_owed s known (ByFrame id is) =
    three (reset_waits s id) (stop_waits s id) (credit_waits s id) ((c : Control) × IsOwed c s) is
    (λ has. let x = the_frame (reset_of id (record_of id s.records)) (reset_some id (record_of id s.records) has) in (x.0, OwesReset id x.1))
    (λ has. let x = the_frame (stop_of id (record_of id s.records)) (stop_some id (record_of id s.records) (known id) has) in (x.0, OwesStop id x.1))
    (λ has. let x = the_frame (credit_of id (record_of id s.records)) (credit_some id (record_of id s.records) has) in (x.0, OwesStreamData id x.1))
owes_owed s known (ByGone is) = let x = the_frame (gone_stop s) (gone_some (first_stop s.waiting.gone_stops) is) in (x.0, OwesGoneStop x.1)
owes_owed s known (ByLimit is) =
    three s.incoming.waits s.peer.bi.waits s.peer.uni.waits ((c : Control) × IsOwed c s) is
    (λ has. let x = the_frame (data_with (max_data_owed s)) (limit_some s.incoming.waits _ MaxData has) in (x.0, OwesData x.1))
    (λ has. let x = the_frame (streams_with Bi (max_streams_owed Bi s)) (limit_some s.peer.bi.waits _ (MaxStreams Bi) has) in (x.0, OwesStreams Bi x.1))
    (λ has. let x = the_frame (streams_with Uni (max_streams_owed Uni s)) (limit_some s.peer.uni.waits _ (MaxStreams Uni) has) in (x.0, OwesStreams Uni x.1))

-- ---- the first of them is drawn wherever it fits

-- there is a frame that is drawn wherever it fits
abbrev Fits : (ℕ → Option Control) → Type 0
Fits f = (c : Control) × ((room : ℕ) → control_len c ≤ room → f room ≡ Some c)

le_so : (n m : ℕ) → n ≤ m → nat_le n m ≡ true
le_so n m less = grind (arith, nat_tests)

lt_so : (room : ℕ) → 20 ≤ room → nat_lt 19 room ≡ true
lt_so room enough = grind (arith, nat_tests)

fits_so : (c : Control) (room : ℕ) → control_len c ≤ room → if_fits room (Some c) ≡ Some c
fits_so c room fits = ap (λ (b : Bool). cond b (Some c) None) (le_so (control_len c) room fits)

last_fits : (a : Option Control) → is_some a ≡ true → Fits (λ room. if_fits room a)
last_fits None is = absurd (false≢true is)
last_fits (Some c) is = (c, λ room fits. fits_so c room fits)

here_fits : (a : Option Control) (g : ℕ → Option Control) → is_some a ≡ true → Fits (λ room. or_else (if_fits room a) (g room))
here_fits None g is = absurd (false≢true is)
here_fits (Some c) g is = (c, λ room fits. ap (λ (o : Option Control). or_else o (g room)) (fits_so c room fits))

then_fits : (a : Option Control) (g : ℕ → Option Control) → Fits g → Fits (λ room. or_else (if_fits room a) (g room))
then_fits None g f = (f.0, λ room fits. f.1 room fits)
then_fits (Some c) g f = here_fits (Some c) g refl

first_some : (f : ℕ → Option Stream → Option Control) (o : Option ℕ) (j : ℕ) (s : StreamsState) → o ≡ Some j → is_some (f j (record_of j s.records)) ≡ true
    → is_some (of_first f o s) ≡ true
first_some f o j s is has = ap (λ (x : Option ℕ). is_some (of_first f x s)) is ∙ has

frame_first : (s t : StreamsState) → Reached s t → Owes t → Fits (λ room. next_control room t)
unfolding next_control max_data_owed max_streams_owed
frame_first s t r owes = by owes
  where
    a1 : Option Control
    a1 = of_first reset_of (first_id t.waiting.resets) t

    a2 : Option Control
    a2 = of_first stop_of (first_id t.waiting.stops) t

    a3 : Option Control
    a3 = gone_stop t

    a4 : Option Control
    a4 = data_with (max_data_owed t)

    a5 : Option Control
    a5 = of_first credit_of (first_id t.waiting.credits) t

    a6 : Option Control
    a6 = streams_with Bi (max_streams_owed Bi t)

    a7 : Option Control
    a7 = streams_with Uni (max_streams_owed Uni t)

    g7 : ℕ → Option Control
    g7 room = if_fits room a7

    g6 : ℕ → Option Control
    g6 room = or_else (if_fits room a6) (g7 room)

    g5 : ℕ → Option Control
    g5 room = or_else (if_fits room a5) (g6 room)

    g4 : ℕ → Option Control
    g4 room = or_else (if_fits room a4) (g5 room)

    g3 : ℕ → Option Control
    g3 room = or_else (if_fits room a3) (g4 room)

    g2 : ℕ → Option Control
    g2 room = or_else (if_fits room a2) (g3 room)

    g1 : ℕ → Option Control
    g1 room = or_else (if_fits room a1) (g2 room)

    from2 : Fits g2 → Fits g1
    from2 f = then_fits a1 g2 f

    from3 : Fits g3 → Fits g1
    from3 f = from2 (then_fits a2 g3 f)

    from4 : Fits g4 → Fits g1
    from4 f = from3 (then_fits a3 g4 f)

    from5 : Fits g5 → Fits g1
    from5 f = from4 (then_fits a4 g5 f)

    from6 : Fits g6 → Fits g1
    from6 f = from5 (then_fits a5 g6 f)

    by : Owes t → Fits g1
    by (ByFrame id is) =
        three (reset_waits t id) (stop_waits t id) (credit_waits t id) (Fits g1) is
        (λ has. let j = first_among id t.waiting.resets ((r.exact id).resets ∙ has) in
        here_fits a1 g2 (first_some reset_of (first_id t.waiting.resets) j.0 t j.1 (reset_some j.0 (record_of j.0 t.records) (sym ((r.exact j.0).resets) ∙ j.2))))
        (λ has. let j = first_among id t.waiting.stops ((r.exact id).stops ∙ has) in
        from2 (here_fits a2 g3 (first_some stop_of (first_id t.waiting.stops) j.0 t j.1 (stop_some j.0 (record_of j.0 t.records) (r.stops j.0) (sym ((r.exact j.0).stops) ∙ j.2)))))
        (λ has. let j = first_among id t.waiting.credits ((r.exact id).credits ∙ has) in
        from5 (here_fits a5 g6 (first_some credit_of (first_id t.waiting.credits) j.0 t j.1 (credit_some j.0 (record_of j.0 t.records) (sym ((r.exact j.0).credits) ∙ j.2)))))
    by (ByGone is) = from3 (here_fits a3 g4 (gone_some (first_stop t.waiting.gone_stops) is))
    by (ByLimit is) =
        three t.incoming.waits t.peer.bi.waits t.peer.uni.waits (Fits g1) is
        (λ has. from4 (here_fits a4 g5 (limit_some t.incoming.waits _ MaxData has)))
        (λ has. from6 (here_fits a6 g7 (limit_some t.peer.bi.waits _ (MaxStreams Bi) has)))
        (λ has. from6 (then_fits a6 g7 (last_fits a7 (limit_some t.peer.uni.waits _ (MaxStreams Uni) has))))

none_next : (s t : StreamsState) → Reached s t → has_control s ≡ false → (room : ℕ) → next_control room t ≡ None
none_next s t r none room = by (next_control room t) refl
  where
    by : (o : Option Control) → next_control room t ≡ o → o ≡ None
    by None is = refl
    by (Some c) is = absurd (false≢true (sym none ∙ owes_control s t r (before s t r.alike (owed_owes c t (next_owes room t c is)))))

draws_control : (s : StreamsState) → Reached s (looked_at s) → DrawsControl s
draws_control s r = record {
  none = λ none room. none_next s (looked_at s) r none room;
  some = λ is. frame_first s (looked_at s) r (later s (looked_at s) r.alike (control_owes s is));
  owes = λ c owed. owes_control s (looked_at s) r (owed_owes c s owed);
  owed = λ is. owes_owed s r.known (control_owes s is);
}

-- ---- bytes

waits_then : (s t : StreamsState) → Reached s t → InTurn s.records s.waiting → (id : ℕ) → bytes_wait s id ≡ true → has_waiting s ≡ true
unfolding has_waiting
waits_then s t r i id is = by (is_marked (record_of id s.records)) refl
  where
    a : Bool
    a = list_any (λ e. bytes_wait s e.1) s.waiting.ready

    b : Bool
    b = list_any (bytes_wait s) s.waiting.marks.ids

    by : (x : Bool) → is_marked (record_of id s.records) ≡ x → (a || b) ≡ true
    by true marked = or_right a b (any_among (bytes_wait s) id s.waiting.marks.ids (r.marks id marked) is)
    by false idle =
        let e : IsExact id (record_of id s.records) s.waiting = r.sets id idle in
        let place = the_turn (turn_at (record_of id s.records)) (e.turn ∙ is) in
        or_left a b (any_turn (bytes_wait s) place.0 id s.waiting.ready (i.takes id place.0 place.1) is)

waits_of : (s : StreamsState) → has_waiting s ≡ true → (id : ℕ) × (bytes_wait s id ≡ true)
unfolding has_waiting
waits_of s is =
    three (list_any (λ e. bytes_wait s e.1) s.waiting.ready) (list_any (bytes_wait s) s.waiting.marks.ids) false ((id : ℕ) × (bytes_wait s id ≡ true)) (last _ _ is)
    (λ has. let x : (e : (ℤ × ℕ) × ℕ) × (bytes_wait s e.1 ≡ true) = some_any (λ e. bytes_wait s e.1) s.waiting.ready has in (x.0.1, x.1))
    (λ has. some_any (bytes_wait s) s.waiting.marks.ids has)
    (λ never. absurd (false≢true never))
  where
    last : (b c : Bool) → (b || c) ≡ true → (b || (c || false)) ≡ true
    last true c is = refl
    last false true is = refl
    last false false is = is

-- whose turn it is has bytes that wait, or its end
turn_waits : (t : StreamsState) → ((j : ℕ) → IsExact j (record_of j t.records) t.waiting) → InTurn t.records t.waiting → (id : ℕ)
    → next_turn t.waiting.ready ≡ Some id → bytes_wait t id ≡ true
turn_waits t exact i id is =
    let place = first_turn id t.waiting.ready is in
    sym ((exact id).turn) ∙ ap (λ (o : Option (ℤ × ℕ)). is_some o) (i.stands id place.0 place.1)

second : (a b : Bool) → false ≡ a → (a || b) ≡ true → b ≡ true
second true b never is = absurd (false≢true never)
second false b never is = is

alone : (b : Bool) (x : Part) → b ≡ true → is_some (cond b (Some x) None) ≡ true
alone true x is = refl
alone false x is = absurd (false≢true is)

part_some : (most : ℕ) (p : SendPart) (part : Option Part) → has_more p ≡ true → IsOffer most p part → is_some part ≡ true
unfolding has_more IsOffer
part_some most p part more offer = by (is_some p.reset) offer.0 more offer.1.given offer.2
  where
    by : (reset : Bool) (bytes : Option (ℕ × List ℕ)) → (not reset && (has_bytes (waiting p.buffer) || end_waits p.end)) ≡ true
        → is_some bytes ≡ has_bytes (waiting p.buffer) → part ≡ cond reset None (part_of bytes p) → is_some part ≡ true
    by true bytes more given is = absurd (false≢true more)
    by false (Some x) more given is = ap (λ (o : Option Part). is_some o) is
    by false None more given is =
        ap (λ (o : Option Part). is_some o) is ∙ alone (end_waits p.end) _ (second (has_bytes (waiting p.buffer)) (end_waits p.end) given more)

offer_some : (most : ℕ) (o : Option Stream) (part : Option Part) → (dues_at o).bytes ≡ true → IsOfferAt most o part → is_some part ≡ true
unfolding IsOfferAt IsOfferOf dues_of
offer_some most None part is offer = absurd (false≢true is)
offer_some most (Some st) part is offer = by st.sending is offer
  where
    by : (p : Option SendPart) → owes_data p ≡ true → IsOfferOf most p part → is_some part ≡ true
    by None is offer = absurd (false≢true is)
    by (Some p) is offer = part_some most p part is offer

draws_none : (s t : StreamsState) → Reached s t → InTurn s.records s.waiting → InTurn t.records t.waiting → has_waiting s ≡ false
    → (room : ℕ) (d : Option StreamPart) → IsDrawn room t d → d ≡ None
unfolding IsDrawn IsTurn
draws_none s t r i j none room d drawn = by (nat_lt 19 room) (next_turn t.waiting.ready) refl drawn
  where
    by : (b : Bool) (o : Option ℕ) → next_turn t.waiting.ready ≡ o → IsTurn (room - 19) (cond b o None) t d → d ≡ None
    by false o is drawn = drawn
    by true None is drawn = drawn
    by true (Some id) is drawn =
        let waits : bytes_wait t id ≡ true = turn_waits t r.exact j id is in
        absurd (false≢true (sym none ∙ waits_then s t r i id (ap (λ (x : Dues). x.bytes) (sym (r.alike.dues id)) ∙ waits)))

draws_some : (s t : StreamsState) → Reached s t → InTurn t.records t.waiting → has_waiting s ≡ true → (room : ℕ) (d : Option StreamPart) → 20 ≤ room
    → IsDrawn room t d → is_some d ≡ true
unfolding IsDrawn IsTurn
draws_some s t r j is room d enough drawn =
    let there = waits_of s is in
    let waits : bytes_wait t there.0 ≡ true = ap (λ (x : Dues). x.bytes) (r.alike.dues there.0) ∙ there.1 in
    let place = the_turn (turn_at (record_of there.0 t.records)) ((r.exact there.0).turn ∙ waits) in
    let first = has_turn place.0 there.0 t.waiting.ready (j.takes there.0 place.0 place.1) in
    by (nat_lt 19 room) (next_turn t.waiting.ready) first.0 (lt_so room enough) refl first.1 drawn
  where
    some_of : (id : ℕ) (part : Option Part) → is_some part ≡ true → d ≡ option_map (part_on id) part → is_some d ≡ true
    some_of id None has is = absurd (false≢true has)
    some_of id (Some part) has is = ap (λ (x : Option StreamPart). is_some x) is

    by : (b : Bool) (o : Option ℕ) (id : ℕ) → b ≡ true → next_turn t.waiting.ready ≡ o → o ≡ Some id → IsTurn (room - 19) (cond b o None) t d → is_some d ≡ true
    by false o id holds is first drawn = absurd (false≢true holds)
    by true None id holds is first drawn = absurd (cc)
    by true (Some k) id holds is first drawn =
        some_of k drawn.0 (offer_some (room - 19) (record_of k t.records) drawn.0 (turn_waits t r.exact j k is) drawn.1) drawn.2

draws_waiting : (s : StreamsState) → Reached s (looked_at s) → InTurn s.records s.waiting → InTurn (looked_at s).records (looked_at s).waiting → DrawsWaiting s
draws_waiting s r i j = record {
  none = λ none room d drawn. draws_none s (looked_at s) r i j none room d drawn;
  some = λ is room d enough drawn. draws_some s (looked_at s) r j is room d enough drawn;
  owes = λ id is. waits_then s (looked_at s) r i id is;
  owed = λ is. waits_of s is;
}

-- ---- whatever happened

alike_after : (s : StreamsState) → OwesAlike s (looked_at s)
unfolding after_step
alike_after s = all_filed_alike s.waiting.marks.ids s

reached : (side : Side) (uni bi window stream_window send_window : ℕ) (fair : Bool) (xs : List Step) → ArePossible xs
    → Reached (after xs (new_streams side uni bi window stream_window send_window fair)) (looked_at (after xs (new_streams side uni bi window stream_window send_window fair)))
unfolding OwedIsFiled FiledIsExact
reached side uni bi window stream_window send_window fair xs can =
    let filed = owed_is_filed side uni bi window stream_window send_window fair xs can in record {
      marks = λ j. (filed j).marks;
      sets = λ j idle. record {
        resets = (filed j).resets idle;
        stops = (filed j).stops idle;
        credits = (filed j).credits idle;
        turn = (filed j).turn idle;
      };
      exact = λ j. filed_is_exact side uni bi window stream_window send_window fair xs can j;
      alike = alike_after (after xs (new_streams side uni bi window stream_window send_window fair));
      known = stops_known side uni bi window stream_window send_window fair xs can;
      stops = stops_known_filed side uni bi window stream_window send_window fair xs can;
    }

pub control_is_drawn : (side : Side) (uni bi window stream_window send_window : ℕ) (fair : Bool) (xs : List Step) → ArePossible xs
    → ControlIsDrawn (new_streams side uni bi window stream_window send_window fair) xs
unfolding ControlIsDrawn
control_is_drawn side uni bi window stream_window send_window fair xs can =
    draws_control (after xs (new_streams side uni bi window stream_window send_window fair)) (reached side uni bi window stream_window send_window fair xs can)

pub waiting_is_drawn : (side : Side) (uni bi window stream_window send_window : ℕ) (fair : Bool) (xs : List Step) → ArePossible xs
    → WaitingIsDrawn (new_streams side uni bi window stream_window send_window fair) xs
unfolding WaitingIsDrawn
waiting_is_drawn side uni bi window stream_window send_window fair xs can = λ fewer.
    let r = reached side uni bi window stream_window send_window fair xs can in
    draws_waiting (after xs (new_streams side uni bi window stream_window send_window fair)) r
    (always filed_turns side uni bi window stream_window send_window fair xs can (r.alike.turns fewer))
    (always_filed filed_turns side uni bi window stream_window send_window fair xs can fewer)

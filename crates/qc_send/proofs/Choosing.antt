-- What a transmit begins with has its turn, or it seals nothing for its cause.
use Rattle.std.proofs.Common.{◌≡◌, ap, sym, ◌∙◌, refl, subst, Bool, true, false, ◌||◌, ◌&&◌, if◌then◌else◌, Option, Some, None, is_some, not, ℕ, ◌<◌, ◌≤◌, arith}
use Rattle.std.specs.Prelude.{min}
use Rattle.qc_base.specs.declared.side.SpaceId.{SpaceId}
use Rattle.qc_base.specs.declared.side.SpaceId.TheVariants.{Initial, Handshake, «Data»}
use Rattle.qc_send.specs.declared.owing.Turn.{Turn}
use Rattle.qc_send.specs.declared.owing.Turn.TheVariants.{Begins, Holds}
use Rattle.qc_send.specs.Choosing.{turn_by, turn_in, turn_of}
use Rattle.qc_state.specs.declared.deeds.Quiet.{Quiet}
use Rattle.qc_state.specs.declared.deeds.Quiet.TheVariants.{Silent, NothingOwed, Amplification}
use Rattle.qc_state.specs.declared.form.Form.{Form}
use Rattle.qc_state.specs.declared.keys.KeyGroup.{KeyGroup}
use Rattle.qc_state.specs.declared.transmit.Batch.{Batch}
use Rattle.qc_state.specs.Forms.{number_space}
use Rattle.qc_state.specs.Keys.{form_in}
use Rattle.qc_state.specs.Offers.{path_size}
use Rattle.qc_state.specs.declared.paths.Path.{Path}
use Rattle.qc_state.specs.Paths.{held_size, is_blocked_behind, least_on, most_on}
use Rattle.qc_state.specs.Batches.{is_closed_up, is_in_order, is_whole, batch_begun, next_segment}
use Rattle.qc_state.specs.Sending.{Dies, HasTurn, MayBegin, MayStand, most_of, all_eager, batch_from, first_eager, held_by, held_in, is_congested, is_eager, is_first_in_turn, is_passed, is_silent, kill_in, limit_in, owes, owes_in, paced_until, quiet_by, quiet_of}
use Rattle.qc_state.specs.Types.{Types, Meaning}
use Rattle.qc_state.specs.View.{View, At}
use Rattle.qc_state.specs.declared.life.State.{State}
use Rattle.qc_state.specs.declared.life.State.TheVariants as state
use Rattle.qc_state.specs.Life.{is_drained, is_open}
use Rattle.qc_state.specs.declared.life.ConnectionError.{ConnectionError}
use Rattle.qc_send.specs.Joining.{IsRoomy, MayTake}
use Rattle.qc_send.proofs.Sizes.{begun_sized}
use Rattle.qc_state.specs.Updating.{tried_after}
use Rattle.qc_state.proofs.TriedTurns.{stand_tried, turn_tried}

-- a connection that isn't silent has not ended, and is open where it owes no close
goes_on : (s : State) (owed : Bool) → (is_drained s || (not (is_open s) && not owed)) ≡ false → (is_drained s ≡ false) × (owed ≡ false → is_open s ≡ true)
goes_on state.Handshake o h = (refl, λ e. refl)
goes_on state.Established o h = (refl, λ e. refl)
goes_on state.Closed true h = (refl, λ e. cc e)
goes_on state.Closed false h = cc
goes_on state.Draining true h = (refl, λ e. cc e)
goes_on state.Draining false h = cc
goes_on state.Drained o h = cc

-- the form in which a space seals counts its numbers there
pub form_back : {H P : Type 0} (v : KeyGroup H P) (id : SpaceId) → number_space (form_in v id) ≡ id
unfolding form_in
form_back v Initial = refl
form_back v Handshake = refl
form_back v Data = refl

-- what is known of each space: whether it owes something, and whether what goes there is held back
abbrev of_spaces : (initial handshake application : Bool) → SpaceId → Bool
of_spaces initial handshake application Initial = initial
of_spaces initial handshake application Handshake = handshake
of_spaces initial handshake application Data = application

-- what holds back a datagram, by what is known of the path and of the space
abbrev limit_by : (blocked congested paced eager : Bool) → Option Quiet
limit_by blocked congested paced eager = if blocked then Some Amplification else held_in eager congested paced

-- the spaces before this one are passed over
abbrev passed_before : (first second : Bool) → SpaceId → Bool
passed_before first second Initial = true
passed_before first second Handshake = first
passed_before first second Data = first && second

-- what it means to begin so, by what is known of the path and of the three spaces
abbrev IsTurnBy : (a b c : Bool) → (blocked congested paced : Bool) → (d e f : Bool) → Turn → Type 0
IsTurnBy a b c blocked congested paced d e f (Begins id) =
    (of_spaces a b c id ≡ true)
    × (passed_before (not a || (d && congested)) (not b || (e && congested)) id ≡ true)
    × (limit_by blocked congested paced (of_spaces d e f id) ≡ None)
IsTurnBy a b c blocked congested paced d e f (Holds quiet) =
    quiet_by false (a || b || c) blocked (held_by congested ((not a || d) && ((not b || e) && (not c || f))) paced (if a then d else if b then e else f)) ≡ Some quiet

-- what a transmit begins with
abbrev turn_from : (a b c : Bool) → (blocked congested paced : Bool) → (d e f : Bool) → Turn
turn_from a b c blocked congested paced d e f =
    if a then turn_by Initial (limit_by blocked congested paced d)
    (if b then turn_by Handshake (limit_by blocked congested paced e) (if c then turn_by Data (limit_by blocked congested paced f) (Holds NothingOwed) else Holds NothingOwed)
    else (if c then turn_by Data (limit_by blocked congested paced f) (Holds NothingOwed) else Holds NothingOwed))
    else (if b then turn_by Handshake (limit_by blocked congested paced e) (if c then turn_by Data (limit_by blocked congested paced f) (Holds NothingOwed) else Holds NothingOwed)
    else (if c then turn_by Data (limit_by blocked congested paced f) (Holds NothingOwed) else Holds NothingOwed))

-- it has its turn, or there is this cause: on a path that is blocked; where the window has no room; where the pacer holds back; and where nothing does
turn_blocked : (a b c congested paced d e f : Bool) → IsTurnBy a b c true congested paced d e f (turn_from a b c true congested paced d e f)
turn_blocked true b c congested paced d e f = refl
turn_blocked false true c congested paced d e f = refl
turn_blocked false false true congested paced d e f = refl
turn_blocked false false false congested paced d e f = refl

turn_congested : (a b c paced d e f : Bool) → IsTurnBy a b c false true paced d e f (turn_from a b c false true paced d e f)
turn_congested true b c paced false e f = (refl, refl, refl)
turn_congested true true c paced true false f = (refl, refl, refl)
turn_congested true true true paced true true false = (refl, refl, refl)
turn_congested true true true paced true true true = refl
turn_congested true true false paced true true f = refl
turn_congested true false true paced true e false = (refl, refl, refl)
turn_congested true false true paced true e true = refl
turn_congested true false false paced true e f = refl
turn_congested false true c paced d false f = (refl, refl, refl)
turn_congested false true true paced d true false = (refl, refl, refl)
turn_congested false true true paced d true true = refl
turn_congested false true false paced d true f = refl
turn_congested false false true paced d e false = (refl, refl, refl)
turn_congested false false true paced d e true = refl
turn_congested false false false paced d e f = refl

turn_paced : (a b c d e f : Bool) → IsTurnBy a b c false false true d e f (turn_from a b c false false true d e f)
turn_paced true b c false e f = (refl, refl, refl)
turn_paced true b c true e f = refl
turn_paced false true c d false f = (refl, refl, refl)
turn_paced false true c d true f = refl
turn_paced false false true d e false = (refl, refl, refl)
turn_paced false false true d e true = refl
turn_paced false false false d e f = refl

turn_free : (a b c d e f : Bool) → IsTurnBy a b c false false false d e f (turn_from a b c false false false d e f)
turn_free true b c false e f = (refl, refl, refl)
turn_free true b c true e f = (refl, refl, refl)
turn_free false true c d false f = (refl, refl, refl)
turn_free false true c d true f = (refl, refl, refl)
turn_free false false true d e false = (refl, refl, refl)
turn_free false false true d e true = (refl, refl, refl)
turn_free false false false d e f = refl

turn_is_by : (a b c blocked congested paced d e f : Bool) → IsTurnBy a b c blocked congested paced d e f (turn_from a b c blocked congested paced d e f)
turn_is_by a b c true congested paced d e f = turn_blocked a b c congested paced d e f
turn_is_by a b c false true paced d e f = turn_congested a b c paced d e f
turn_is_by a b c false false true d e f = turn_paced a b c d e f
turn_is_by a b c false false false d e f = turn_free a b c d e f

-- how many datagrams a transmit may have
most_some : (b : Bool) (asked : ℕ) → 1 ≤ asked → 0 < (if b then asked else 1)
most_some true asked h = omega arith
most_some false asked h = omega arith

most_few : (b : Bool) (asked : ℕ) → asked ≤ 18446744073709551615 → (if b then asked else 1) ≤ 18446744073709551615
most_few true asked h = h
most_few false asked h = omega arith

-- how many bytes a datagram to a path may have, and up to how many one is filled up
held_between : (n : ℕ) → (1200 ≤ held_size n) × (held_size n ≤ 16383)
held_between n = (omega arith, omega arith)

most_enough : {C : Type 0} → (p : Path C) → 1200 ≤ most_on p
unfolding most_on
most_enough p = (held_between (if p.validated then p.kept.mtud.current else min p.first_mtu p.kept.mtud.current)).0

most_small : {C : Type 0} → (p : Path C) → most_on p ≤ 16383
unfolding most_on
most_small p = (held_between (if p.validated then p.kept.mtud.current else min p.first_mtu p.kept.mtud.current)).1

least_enough : {C : Type 0} → (p : Path C) → 1200 ≤ least_on p
unfolding least_on
least_enough p = omega (arith, (held_between p.kept.mtud.least).0, most_enough p)

least_within : {C : Type 0} → (p : Path C) → least_on p ≤ most_on p
unfolding least_on
least_within p = omega arith

-- a transmit that begins has no datagram that has to be filled up
begun_closed : (closing pads : Bool) (most segment least : ℕ) → (is_whole (batch_begun closing pads most segment least) && is_closed_up (batch_begun closing pads most segment least)) ≡ true
unfolding is_closed_up
begun_closed closing pads most segment least = refl

module _ {t : Types} where
  -- what it means to begin so
  abbrev pub IsTurn : Meaning t → (time : ℕ) → View t → Batch → Turn → Type 0
  IsTurn m time s b (Begins id) = HasTurn m s b id × (limit_in m time s b id ≡ None)
  IsTurn m time s b (Holds quiet) = quiet_of m time s b ≡ Some quiet

  -- what is known of a view
  owed_in : (s : View t) (b : Batch) (id : SpaceId) → of_spaces (owes_in b s Initial) (owes_in b s Handshake) (owes_in b s Data) id ≡ true → owes_in b s id ≡ true
  owed_in s b Initial h = h
  owed_in s b Handshake h = h
  owed_in s b Data h = h

  first_in : (m : Meaning t) (s : View t) (b : Batch) (id : SpaceId) → passed_before (is_passed m s b Initial) (is_passed m s b Handshake) id ≡ true → is_first_in_turn m s b id ≡ true
  unfolding is_first_in_turn
  first_in m s b Initial h = h
  first_in m s b Handshake h = h
  first_in m s b Data h = h

  passed_in : (m : Meaning t) (s : View t) (b : Batch) (id : SpaceId) → passed_before (not (owes_in b s Initial) || (is_eager s Initial && is_congested m s (next_segment b))) (not (owes_in b s Handshake) || (is_eager s Handshake && is_congested m s (next_segment b))) id ≡ true →
      passed_before (is_passed m s b Initial) (is_passed m s b Handshake) id ≡ true
  unfolding is_passed
  passed_in m s b id h = h

  limited_in : (m : Meaning t) (time : ℕ) (s : View t) (b : Batch) (id : SpaceId) →
      limit_by (is_blocked_behind s.paths b.total) (is_congested m s (next_segment b)) (is_some (paced_until m time s (next_segment b))) (of_spaces (is_eager s Initial) (is_eager s Handshake) (is_eager s Data) id) ≡ None → limit_in m time s b id ≡ None
  unfolding limit_in
  limited_in m time s b Initial h = h
  limited_in m time s b Handshake h = h
  limited_in m time s b Data h = h

  is_silent_not : (s : View t) → is_silent s ≡ false → (is_drained s.life.state || (not (is_open s.life.state) && not s.waiting.close_owed)) ≡ false
  unfolding is_silent
  is_silent_not s h = h

  -- so much is known of a turn
  abbrev KnownTurn : Meaning t → (time : ℕ) → View t → Batch → Turn → Type 0
  KnownTurn m time s b =
      IsTurnBy (owes_in b s Initial) (owes_in b s Handshake) (owes_in b s Data)
      (is_blocked_behind s.paths b.total) (is_congested m s (next_segment b)) (is_some (paced_until m time s (next_segment b)))
      (is_eager s Initial) (is_eager s Handshake) (is_eager s Data)

  -- what a transmit begins with that has sealed nothing
  record IsFresh (s : View t) (b : Batch) : Type 0 where
    closing : b.closing ≡ s.waiting.close_owed
    spare : b.worn ≡ false
    none : b.space ≡ None

  loud_turn : (m : Meaning t) (time : ℕ) (s : View t) (b : Batch) (turn : Turn) → IsFresh s b → is_silent s ≡ false → KnownTurn m time s b turn → IsTurn m time s b turn
  unfolding quiet_of owes all_eager first_eager
  loud_turn m time s b (Begins id) fresh loud h =
      let alive = goes_on s.life.state s.waiting.close_owed (is_silent_not s loud) in (
        record {
          alive = alive.0;
          unclosed = λ e. alive.1 (sym fresh.closing ∙ e);
          spare = fresh.spare;
          owed = owed_in s b id h.0;
          order = ap (λ (x : Option SpaceId). is_in_order x id) fresh.none;
          first = λ e. first_in m s b id (passed_in m s b id h.1);
        },
        limited_in m time s b id h.2,
      )
  loud_turn m time s b (Holds quiet) fresh loud h =
      ap (λ (x : Bool). quiet_by x (owes b s) (is_blocked_behind s.paths b.total)
      (held_by (is_congested m s (next_segment b)) (all_eager b s) (is_some (paced_until m time s (next_segment b))) (first_eager b s))) loud ∙ h

  silent_turn : (m : Meaning t) (time : ℕ) (s : View t) (b : Batch) → is_silent s ≡ true → quiet_of m time s b ≡ Some Silent
  unfolding quiet_of
  silent_turn m time s b e =
      ap (λ (x : Bool). quiet_by x (owes b s) (is_blocked_behind s.paths b.total)
      (held_by (is_congested m s (next_segment b)) (all_eager b s) (is_some (paced_until m time s (next_segment b))) (first_eager b s))) e

  turn_by_silence : (m : Meaning t) (time : ℕ) (s : View t) (b : Batch) (silent : Bool) → IsFresh s b → is_silent s ≡ silent →
      IsTurn m time s b (if silent then Holds Silent else turn_in m time s b Initial (turn_in m time s b Handshake (turn_in m time s b Data (Holds NothingOwed))))
  unfolding turn_in limit_in
  turn_by_silence m time s b true fresh silent = silent_turn m time s b silent
  turn_by_silence m time s b false fresh silent =
      loud_turn m time s b _ fresh silent
      (turn_is_by (owes_in b s Initial) (owes_in b s Handshake) (owes_in b s Data)
      (is_blocked_behind s.paths b.total) (is_congested m s (next_segment b)) (is_some (paced_until m time s (next_segment b)))
      (is_eager s Initial) (is_eager s Handshake) (is_eager s Data))

  turn_is : (m : Meaning t) (time : ℕ) (s : View t) (b : Batch) → IsFresh s b → IsTurn m time s b (turn_of m time s b)
  unfolding turn_of
  turn_is m time s b fresh = turn_by_silence m time s b (is_silent s) fresh refl

  begun_fresh : (s : View t) (b : Batch) (asked : ℕ) → b ≡ batch_from asked s → IsFresh s b
  begun_fresh s b asked is = record { closing = ap (λ (x : Batch). x.closing) is; spare = ap (λ (x : Batch). x.worn) is; none = ap (λ (x : Batch). x.space) is }

  turn_so : (m : Meaning t) (time asked : ℕ) (s : View t) (b : Batch) (turn found : Turn) → b ≡ batch_from asked s → turn ≡ turn_of m time s b → turn ≡ found → IsTurn m time s b found
  turn_so m time asked s b turn found begun is holds = subst (IsTurn m time s b) (sym is ∙ holds) (turn_is m time s b (begun_fresh s b asked begun))

  -- where it begins with a packet, that one may be taken
  take_by : (m : Meaning t) (time asked : ℕ) (s : View t) (id : SpaceId) → 1 ≤ asked → asked ≤ 18446744073709551615 →
      HasTurn m s (batch_from asked s) id × (limit_in m time s (batch_from asked s) id ≡ None) → MayTake m time s (batch_from asked s) id true
  take_by m time asked s id some few h = record {
    turn = h.0;
    place = record { few = most_some s.setup.fixed.segmentation asked some; free = h.1; further = refl };
    behind = begun_closed s.waiting.close_owed s.setup.fixed.pads (most_of s asked) (path_size s) (least_on s.paths.current);
    roomy = record {
      sized = begun_sized s.waiting.close_owed s.setup.fixed.pads (most_of s asked) (path_size s) (least_on s.paths.current) (most_small s.paths.current) (least_enough s.paths.current) (most_few s.setup.fixed.segmentation asked few);
      left = omega (arith, most_enough s.paths.current);
      large = λ e. (refl, least_within s.paths.current);
      bare = λ e. absurd (cc e);
    };
  }

  pub begins_take : (m : Meaning t) (time asked : ℕ) (s : View t) (b : Batch) (turn : Turn) (id : SpaceId) → b ≡ batch_from asked s → turn ≡ turn_of m time s b → turn ≡ Begins id → 1 ≤ asked → asked ≤ 18446744073709551615 →
      MayTake m time s b id true
  begins_take m time asked s b turn id begun is begins some few =
      let here : IsTurn m time s (batch_from asked s) (Begins id) = subst (λ (x : Batch). IsTurn m time s x (Begins id)) begun (turn_so m time asked s b turn (Begins id) begun is begins) in
      subst (λ (x : Batch). MayTake m time s x id true) (sym begun) (take_by m time asked s id some few here)

  -- one that seals nothing of what waits has a cause for it
  pub quiet_cause : (m : Meaning t) (time asked : ℕ) (s : View t) (batch : Batch) (turn : Turn) (quiet : Quiet) → batch ≡ batch_from asked s → turn ≡ turn_of m time s batch → turn ≡ Holds quiet → quiet_of m time s batch ≡ Some quiet
  quiet_cause m time asked s batch turn quiet begun is holds = turn_so m time asked s batch turn (Holds quiet) begun is holds

  pub begun_none : (asked : ℕ) (s : View t) (batch : Batch) → batch ≡ batch_from asked s → batch.made ≡ 0
  begun_none asked s batch is = ap (λ (x : Batch). x.made) is

  -- ---- a packet of a space

  -- the form in which a space seals counts its numbers there
  -- a packet that may be taken may be behind an update that is tried for it
  pub take_tried : (m : Meaning t) (time : ℕ) (b : Batch) (f : Form) (a c : At t) (id : SpaceId) (opens : Bool) → c ≡ tried_after m f a → MayTake m time a.state b id opens → MayTake m time c.state b id opens
  take_tried m time b f a c id opens is may =
      subst (λ (x : At t). MayTake m time x.state b id opens) (sym is)
      (record { turn = turn_tried m time b f a id may.turn; place = stand_tried m time b f a id opens may.place; behind = may.behind; roomy = may.roomy })

  pub begins_form : (m : Meaning t) (time : ℕ) (s : View t) (b : Batch) (id : SpaceId) (form : Form) (opens : Bool) (found : Option ConnectionError) → MayTake m time s b id opens → form ≡ form_in s.keys id → found ≡ kill_in b s form → found ≡ None →
      MayBegin m time s b form opens
  begins_form m time s b id form opens found may is_form is_found none =
      let back : id ≡ number_space form = sym (ap number_space is_form ∙ form_back s.keys id) in
      record {
        turn = subst (HasTurn m s b) back may.turn;
        now = is_form ∙ ap (form_in s.keys) back;
        place = subst (λ (x : SpaceId). MayStand m time s b x opens) back may.place;
        behind = may.behind;
        fresh = sym is_found ∙ none;
      }

  pub roomy_form : (m : Meaning t) (time : ℕ) (s : View t) (b : Batch) (id : SpaceId) (form : Form) (opens : Bool) → MayTake m time s b id opens → form ≡ form_in s.keys id → IsRoomy b (number_space form) opens
  roomy_form m time s b id form opens may is = subst (λ (x : SpaceId). IsRoomy b x opens) (sym (ap number_space is ∙ form_back s.keys id)) may.roomy

  -- where it can't begin, the connection ends
  pub dies_in : (m : Meaning t) (time : ℕ) (s : View t) (b : Batch) (id : SpaceId) (form : Form) (opens : Bool) (found : Option ConnectionError) (why : ConnectionError) → MayTake m time s b id opens → form ≡ form_in s.keys id → found ≡ kill_in b s form → found ≡ Some why →
      Dies m time s b form why
  dies_in m time s b id form opens found why may is_form is_found kills = record {
    space = id;
    opens = opens;
    turn = may.turn;
    place = may.place;
    now = is_form;
    kill = sym is_found ∙ kills;
  }

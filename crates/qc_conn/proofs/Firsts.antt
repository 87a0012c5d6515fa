-- The first datagram of a server, by a call of its own.
use Rattle.std.proofs.Common.{◌≡◌, ◌≤◌, ℕ, List, [], length, refl, ap, sym, ◌∙◌, Bool, true, false, if◌then◌else◌, nat_lt, Option, None, Some, arith}
use Rattle.std.proofs.lemmas.Bool.Decides.{nat_tests}
use Rattle.std.specs.Global.{Global}
use Rattle.std.specs.declared.net.SocketAddr.{SocketAddr}
use Rattle.bytes.specs.declared.unique.BytesMut.{BytesMut}
use Rattle.rand_core.specs.Stream.{Stream}
use Rattle.qc_base.specs.declared.ecn.EcnCodepoint.{EcnCodepoint}
use Rattle.qc_base.specs.declared.ids.IssuedCid.{IssuedCid}
use Rattle.qc_cids.specs.Cids.{bad_cid, give_refusal, may_give}
use Rattle.qc_cids.specs.declared.connection_ids.ConnectionIds.{ConnectionIds}
use Rattle.qc_cids.specs.declared.giving.GiveRefusal.TheVariants.{NotAsked}
use Rattle.qc_receive.specs.Cutting.{rest_of}
use Rattle.qc_receive.specs.Events.{handed_after, time_of_event}
use Rattle.qc_receive.specs.declared.events.ConnectionEvent.{ConnectionEvent}
use Rattle.qc_receive.specs.declared.events.ConnectionEvent.TheVariants.{Datagram, NewIdentifiers}
use Rattle.qc_header.specs.Piece.{Piece}
use Rattle.qc_state.specs.declared.coming.Coming.{Coming}
use Rattle.qc_state.specs.declared.deeds.Did.{Did}
use Rattle.qc_state.specs.Life.{is_drained}
use Rattle.qc_state.specs.Moves.{Clock, Issue, state_move, move_to, deeds_move, life_move, lower_move, setup_move}
use Rattle.qc_state.specs.Receiving.{datagram_after, event_after, is_taken}
use Rattle.qc_state.specs.Run.{began}
use Rattle.qc_state.specs.Setup.{is_first_awaited, ideal_setup}
use Rattle.qc_state.specs.Types.{Types, Meaning}
use Rattle.qc_state.specs.View.{View, Held, At, at, ideal}

-- telling the time leaves the waiting for a first packet
pub still_awaited : {t : Types} {R : Type 0} (stream : R → Stream) (c c' : Held t R) (now : ℕ) → ideal stream c' ≡ state_move (Clock now) (ideal stream c) → is_first_awaited c.setup ≡ true → is_first_awaited c'.setup ≡ true
unfolding is_first_awaited ideal_setup state_move setup_move
still_awaited {t} stream c c' now told h = ap (λ (v : View t). is_first_awaited v.setup) told ∙ h

-- and the ids of both ends, so that those may be given that might before
pub still_given : {t : Types} {R : Type 0} (stream : R → Stream) (c c' : Held t R) (now : ℕ) (given : List IssuedCid) → ideal stream c' ≡ state_move (Clock now) (ideal stream c) → give_refusal given c.lower.ids ≡ None → give_refusal given c'.lower.ids ≡ None
unfolding state_move lower_move
still_given {t} stream c c' now given told h = ap (λ (v : View t). give_refusal given v.lower.ids) told ∙ h

-- ids that may be given are no more than are asked for, and each has the next number and is as long as this end's
pub few_right : (given : List IssuedCid) (s : ConnectionIds) → give_refusal given s ≡ None → (length given ≤ may_give s) × (bad_cid s.local.cid_len s.local.issued given ≡ None)
unfolding give_refusal
few_right given s h = by_test (nat_lt (may_give s) (length given)) refl h
  where
    by_test : (b : Bool) → nat_lt (may_give s) (length given) ≡ b → (if b then Some (NotAsked (may_give s) (length given)) else bad_cid s.local.cid_len s.local.issued given) ≡ None → (length given ≤ may_give s) × (bad_cid s.local.cid_len s.local.issued given ≡ None)
    by_test true e none = absurd cc
    by_test false e none = (grind (arith, nat_tests, e), none)

-- and such ids may be given
right_given : (given : List IssuedCid) (s : ConnectionIds) → length given ≤ may_give s → bad_cid s.local.cid_len s.local.issued given ≡ None → give_refusal given s ≡ None
unfolding give_refusal
right_given given s few right =
    let small : nat_lt (may_give s) (length given) ≡ false = grind (arith, nat_tests, few) in
    ap (λ (b : Bool). if b then Some (NotAsked (may_give s) (length given)) else bad_cid s.local.cid_len s.local.issued given) small ∙ right

-- once the connection was told a time too
pub right_still : {t : Types} {R : Type 0} (stream : R → Stream) (c c' : Held t R) (now : ℕ) (given : List IssuedCid) → ideal stream c' ≡ state_move (Clock now) (ideal stream c) → length given ≤ may_give c.lower.ids → bad_cid c.lower.ids.local.cid_len c.lower.ids.local.issued given ≡ None →
    give_refusal given c'.lower.ids ≡ None
right_still stream c c' now given told few right = still_given stream c c' now given told (right_given given c.lower.ids few right)

-- and whether the connection has ended
pub still_alive : {t : Types} {R : Type 0} (stream : R → Stream) (c c' : Held t R) (now : ℕ) → ideal stream c' ≡ state_move (Clock now) (ideal stream c) → is_drained c.life.state ≡ false → is_drained c'.life.state ≡ false
unfolding state_move life_move
still_alive {t} stream c c' now told h = ap (λ (v : View t). is_drained v.life.state) told ∙ h

module _ {t : Types} (m : Meaning t) where
  -- whether it is taken
  pub first_answer : (s mid : View t) (now : ℕ) (remote : SocketAddr) (bytes : List ℕ) (taken : Bool) → mid ≡ state_move (Clock now) s → taken ≡ is_taken m mid remote bytes → taken ≡ is_taken m (began s now).state remote bytes
  unfolding began
  first_answer s mid now remote bytes taken told is = is ∙ ap (λ (v : View t). is_taken m v remote bytes) told

  -- what it leads to
  pub first_leads : (s mid last : View t) (coming : Coming) (bytes : List ℕ) (ds es : List Did) → mid ≡ state_move (Clock coming.time) s → ds ≡ [] → at last es ≡ datagram_after m coming bytes (at mid ds) → last ≡ (datagram_after m coming bytes (began s coming.time)).state
  unfolding began
  first_leads s mid last coming bytes ds es told none is =
      ap (λ (a : At t). a.state) is ∙ ap (λ (x : List Did). (datagram_after m coming bytes (at mid x)).state) none ∙ ap (λ (v : View t). (datagram_after m coming bytes (at v [])).state) told

-- what a call leads to that is told the time first, and whose deeds no one keeps
pub told_leads : {t : Types} (f : At t → At t) (s mid last : View t) (now : ℕ) (ds es : List Did) → mid ≡ state_move (Clock now) s → ds ≡ [] → at last es ≡ f (at mid ds) → last ≡ (f (began s now)).state
unfolding began
told_leads {t} f s mid last now ds es told none is =
    ap (λ (a : At t). a.state) is ∙ ap (λ (x : List Did). (f (at mid x)).state) none ∙ ap (λ (v : View t). (f (at v [])).state) told

-- what such a call answers
pub told_answer : {t : Types} {A : Type 0} (f : At t → A) (s mid : View t) (now : ℕ) (ds : List Did) (answer : A) → mid ≡ state_move (Clock now) s → ds ≡ [] → answer ≡ f (at mid ds) → answer ≡ f (began s now)
unfolding began
told_answer {t} f s mid now ds answer told none is = is ∙ ap (λ (x : List Did). f (at mid x)) none ∙ ap (λ (v : View t). f (at v [])) told

-- what an endpoint hands over
pub event_leads : {t : Types} (m : Meaning t) (event : ConnectionEvent) (now : ℕ) (remote : SocketAddr) (mark : Option EcnCodepoint) (first : Piece) (behind : Option (BytesMut Global)) (s mid last : View t) (ds es : List Did) → event ≡ Datagram now remote mark first behind → mid ≡ state_move (Clock now) s → ds ≡ [] →
    at last es ≡ event_after m (record { time = now; remote = remote; mark = mark }) first (rest_of behind) (at mid ds) → at last es ≡ handed_after m event (began s (time_of_event event))
event_leads {t} m event now remote mark first behind s mid last ds es case told none is =
    told_answer (event_after m (record { time = now; remote = remote; mark = mark }) first (rest_of behind)) s mid now ds (at last es) told none is
    ∙ sym (ap (λ (e : ConnectionEvent). handed_after m e (began s (time_of_event e))) case)

-- so ids that it gives
pub given_leads : {t : Types} (m : Meaning t) (event : ConnectionEvent) (given read : List IssuedCid) (now : ℕ) (s mid last : View t) (ds : List Did) → event ≡ NewIdentifiers given now → read ≡ given → mid ≡ state_move (Clock now) s → ds ≡ [] → last ≡ state_move (Issue now read) mid →
    at last ds ≡ handed_after m event (began s (time_of_event event))
unfolding began move_to deeds_move
given_leads {t} m event given read now s mid last ds case same told none is =
    let leads : last ≡ state_move (Issue now given) (state_move (Clock now) s) =
    is ∙ ap (λ (x : List IssuedCid). state_move (Issue now x) mid) same ∙ ap (λ (v : View t). state_move (Issue now given) v) told in
    ap (λ (v : View t). at v ds) leads ∙ ap (λ (x : List Did). at (state_move (Issue now given) (state_move (Clock now) s)) x) none
    ∙ sym (ap (λ (e : ConnectionEvent). handed_after m e (began s (time_of_event e))) case)

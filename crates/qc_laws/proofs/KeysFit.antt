-- The 1-RTT keys stay the session's, each of its epoch, over the steps of a ledger and over a run.
use Rattle.std.proofs.Common.{◌≡◌, ℕ, ◌+◌, ◌≤◌, ◌<◌, ◌^◌, inl, inr, List, [], ◌∷◌, refl, ap, sym, ◌∙◌, subst, Bool, true, false, Option, Some, None, if◌then◌else◌, arith}
use Rattle.std.proofs.lemmas.Bool.Decides.{nat_tests}
use Rattle.std.specs.Prelude.{◌&&◌, ◌==◌, is_some, option_map}
use Rattle.qc_base.specs.Time.{plus}
use Rattle.qc_base.specs.declared.side.SpaceId.TheVariants.{«Data»}
use Rattle.qc_crypto.specs.GivenKeys.{keys_given, space_of_change}
use Rattle.qc_crypto.specs.declared.keys.KeyPair.{KeyPair}
use Rattle.qc_crypto.specs.declared.keys.Keys.{Keys}
use Rattle.qc_crypto.specs.declared.session.Session.{Ghosts as SessionGhosts}
use Rattle.qc_header.specs.Piece.{Piece}
use Rattle.qc_rings.specs.Keyed.{keyed_acked, keyed_discarded, keyed_in, keyed_opened, keyed_sealed, keyed_updated}
use Rattle.qc_rings.specs.Ring.{Below, Dropped, Kept, Open, Ring, after_acked, after_discard, after_opened, after_sealed, after_update, first_with, has_floor, is_dropped, is_from, may_update, with_floor}
use Rattle.qc_rings.specs.declared.which.Which.{Which}
use Rattle.qc_rings.specs.declared.which.Which.TheVariants.{Current, Next, Previous}
use Rattle.qc_state.specs.declared.keys.Fresh.{Fresh}
use Rattle.qc_state.specs.declared.keys.OneRttKeys.{OneRttKeys}
use Rattle.qc_state.specs.declared.opening.Opening.TheVariants.{Opened, Unreadable}
use Rattle.qc_state.specs.Keys.{fresh_for, fresh_with, new_ring, ring_acked, ring_discarded, ring_may_update, ring_opened, ring_updated, ring_used, with_ring}
use Rattle.qc_state.specs.Opening.{opened_in}
use Rattle.qc_state.specs.Types.{Types, Meaning}
use Rattle.qc_laws.specs.FitLaws.{AreSessions, FitKeys, IsBefore, IsEpochLow, one_if}
use Rattle.qc_laws.specs.MirrorLaws.{Accepts, Acknowledges, AllMayLedger, AreGiven, Calls, Discards, Gives, Ledger, LedgerStep, MayLedger, Opens, OpensPiece, Passes, Seals, Takes, Updates, ledger_after, ledgers_after}
use Rattle.qc_laws.specs.UpdateLaws.{waits_for_answer}

-- ---- epochs and numbers

one_most : (b : Bool) → one_if b ≤ 1
one_most true = omega arith
one_most false = omega arith

more_low : (next more : ℕ) (r : Ring) → next ≤ more → IsEpochLow next r → IsEpochLow more r
more_low next more r above h = record { low = omega (arith, above, h.low); answered = h.answered; sealed = h.sealed }

first_some : (first : Option ℕ) (n : ℕ) → is_some (first_with first n) ≡ true
first_some None n = refl
first_some (Some first) n = refl

sealed_low : (next n : ℕ) (r : Ring) → next ≤ n → IsEpochLow next r → IsEpochLow (n + 1) (after_sealed r n)
unfolding after_sealed
sealed_low next n r above h =
    let some : is_some (first_with r.first n) ≡ true = first_some r.first n in
    record {
      low = omega (arith, above, h.low, one_most (is_some (first_with r.first n)), one_most r.unanswered);
      answered = λ e. refl;
      sealed = λ e. some;
    }

from_some : (first : Option ℕ) (n : ℕ) → is_from first n ≡ true → is_some first ≡ true
from_some None n h = cc
from_some (Some first) n h = refl

acked_low : (next n : ℕ) (r : Ring) → IsEpochLow next r → IsEpochLow next (after_acked r n)
unfolding after_acked
acked_low next n r h = by_test (is_from r.first n) refl
  where
    by_test : (b : Bool) → is_from r.first n ≡ b → IsEpochLow next (if b then record r { acked = true } else r)
    by_test true e = record { low = h.low; answered = h.answered; sealed = λ acked. from_some r.first n e }
    by_test false e = h

discarded_low : (next : ℕ) (r : Ring) → IsEpochLow next r → IsEpochLow next (after_discard r)
unfolding after_discard
discarded_low next r h = by_test (has_floor r.kept)
  where
    by_test : (b : Bool) → IsEpochLow next (if b then record r { kept = Dropped } else r)
    by_test true = record { low = h.low; answered = h.answered; sealed = h.sealed }
    by_test false = h

-- an update of the peer's, where the one before was answered
followed_low : (next n : ℕ) (r : Ring) → r.unanswered ≡ false → IsEpochLow next r → IsEpochLow next (after_opened r Next n)
unfolding after_opened
followed_low next n r waits h =
    let none : one_if r.unanswered ≡ 0 = ap (λ (b : Bool). one_if b) waits in
    let rise : plus r.epoch 1 ≤ r.epoch + 1 = grind arith in
    record { low = omega (arith, h.low, none, rise); answered = λ e. cc e; sealed = λ e. cc e }

-- one of this end's own, where it may make one
both_are : (a b : Bool) → (a && b) ≡ true → b ≡ true
both_are true b h = h
both_are false b h = cc

updated_low : (next : ℕ) (r : Ring) → may_update r ≡ true → IsEpochLow next r → IsEpochLow next (after_update r)
unfolding may_update after_update
updated_low next r may h =
    let first : is_some r.first ≡ true = h.sealed (both_are (is_dropped r.kept) r.acked may) in
    let one : one_if (is_some r.first) ≡ 1 = ap (λ (b : Bool). one_if b) first in
    let none : one_if r.unanswered ≡ 0 = ap (λ (b : Bool). one_if b) (h.answered first) in
    let rise : plus r.epoch 1 ≤ r.epoch + 1 = grind arith in
    record { low = omega (arith, h.low, one, none, rise); answered = λ e. cc e; sealed = λ e. cc e }

-- so epochs have their range, while numbers do
low_epoch : (next : ℕ) (r : Ring) → next ≤ 4611686018427387904 → IsEpochLow next r → r.epoch + 2 < 18446744073709551616
low_epoch next r small h = omega (arith, small, h.low, one_most r.unanswered)

rises : (e : ℕ) → e + 2 < 18446744073709551616 → plus e 1 ≡ e + 1
rises e h = grind (arith, h)

some_same : {A : Type 0} (x y : A) → Some x ≡ Some y → x ≡ y
some_same x y h = cc

module _ {t : Types} (m : Meaning t) (calls : SessionGhosts t.S t.H t.P t.D t.I) where
  -- what is asked of the session: laws of its own
  pub record IsLawful : Type 0 where
    pub sound_read : (s : t.S) (bytes : List ℕ) → calls.is_sound s → calls.is_sound (m.after_read s bytes)
    pub sound_write : (s : t.S) → calls.is_sound s → calls.is_sound (m.after_write s)
    pub sound_next : (s : t.S) → calls.is_sound s → calls.is_sound (m.after_next s)
    pub changes_most : (s : t.S) → calls.is_sound s → calls.changes s ≤ 2
    pub changes_write : (s : t.S) → calls.is_sound s → calls.changes (m.after_write s) ≡ calls.changes s + keys_given (m.write_keys s)
    pub changes_read : (s : t.S) (bytes : List ℕ) → calls.is_sound s → calls.changes (m.after_read s bytes) ≡ calls.changes s
    pub changes_next : (s : t.S) → calls.is_sound s → calls.changes (m.after_next s) ≡ calls.changes s
    pub given_keys : (s : t.S) (keys : Keys t.H t.P) → calls.is_sound s → m.write_keys s ≡ Some keys → keys ≡ calls.space_keys (m.after_write s) (space_of_change (calls.changes s))
    pub data_read : (s : t.S) (bytes : List ℕ) → calls.is_sound s → calls.changes s ≡ 2 → calls.space_keys (m.after_read s bytes) «Data» ≡ calls.space_keys s «Data»
    pub data_write : (s : t.S) → calls.is_sound s → calls.changes s ≡ 2 → calls.space_keys (m.after_write s) «Data» ≡ calls.space_keys s «Data»
    pub data_next : (s : t.S) → calls.is_sound s → calls.changes s ≡ 2 → calls.space_keys (m.after_next s) «Data» ≡ calls.space_keys s «Data»
    pub epochs_read : (s : t.S) (bytes : List ℕ) (n : ℕ) → calls.is_sound s → calls.changes s ≡ 2 → calls.epoch_keys (m.after_read s bytes) n ≡ calls.epoch_keys s n
    pub epochs_write : (s : t.S) (n : ℕ) → calls.is_sound s → calls.changes s ≡ 2 → calls.epoch_keys (m.after_write s) n ≡ calls.epoch_keys s n
    pub epochs_next : (s : t.S) (n : ℕ) → calls.is_sound s → calls.changes s ≡ 2 → calls.epoch_keys (m.after_next s) n ≡ calls.epoch_keys s n
    pub first_epoch : (s : t.S) → calls.is_sound s → calls.changes s ≡ 2 → (calls.space_keys s «Data»).packet ≡ calls.epoch_keys s 0
    pub given_next : (s : t.S) → calls.is_sound s → m.next_keys s ≡ (if calls.changes s == 2 then Some (calls.epoch_keys s (calls.epoch s + 1)) else None)
    pub next_epoch : (s : t.S) → calls.is_sound s → calls.epoch s + 1 < 2 ^ 64 → calls.epoch (m.after_next s) ≡ (if calls.changes s == 2 then calls.epoch s + 1 else calls.epoch s)
    pub epoch_read : (s : t.S) (bytes : List ℕ) → calls.is_sound s → calls.epoch (m.after_read s bytes) ≡ calls.epoch s
    pub epoch_write : (s : t.S) → calls.is_sound s → calls.epoch (m.after_write s) ≡ calls.epoch s

module _ {t : Types} (m : Meaning t) (calls : SessionGhosts t.S t.H t.P t.D t.I) (laws : IsLawful m calls) where
  -- ---- the session's calls

  -- the next keys, once the 1-RTT keys were given
  next_given : (s : t.S) → calls.is_sound s → calls.changes s ≡ 2 → m.next_keys s ≡ Some (calls.epoch_keys s (calls.epoch s + 1))
  next_given s sound changed = laws.given_next s sound ∙ ap (λ (n : ℕ). if n == 2 then Some (calls.epoch_keys s (calls.epoch s + 1)) else None) changed

  next_rises : (s : t.S) → calls.is_sound s → calls.changes s ≡ 2 → calls.epoch s + 1 < 18446744073709551616 → calls.epoch (m.after_next s) ≡ calls.epoch s + 1
  next_rises s sound changed small = laws.next_epoch s sound small ∙ ap (λ (n : ℕ). if n == 2 then calls.epoch s + 1 else calls.epoch s) changed

  not_risen : (b : Bool) (keys : KeyPair t.P) (e : ℕ) → (if b then Some keys else None) ≡ None → (if b then e + 1 else e) ≡ e
  not_risen true keys e h = cc
  not_risen false keys e h = refl

  write_two : (s : t.S) → calls.is_sound s → calls.changes s ≡ 2 → calls.changes (m.after_write s) ≡ 2
  write_two s sound changed = omega (arith, laws.changes_write s sound, laws.changes_most (m.after_write s) (laws.sound_write s sound), changed)

  -- what is kept of the epoch before, by sessions with the same keys
  before_moved : (s s' : t.S) (epoch : ℕ) (kept : Kept) (keys : Option (KeyPair t.P)) → ((n : ℕ) → calls.epoch_keys s' n ≡ calls.epoch_keys s n) → IsBefore m calls s epoch kept keys → IsBefore m calls s' epoch kept keys
  before_moved s s' epoch Dropped keys same h = h
  before_moved s s' epoch Open keys same h = (h.0, h.1, h.2 ∙ ap (λ (k : KeyPair t.P). Some k) (sym (same h.0)))
  before_moved s s' epoch (Below floor) keys same h = (h.0, h.1, h.2 ∙ ap (λ (k : KeyPair t.P). Some k) (sym (same h.0)))

  -- a call by which the keys stay
  moved : (s s' : t.S) (k : OneRttKeys t.H t.P) → calls.changes s' ≡ 2 → calls.epoch s' ≡ calls.epoch s → calls.space_keys s' «Data» ≡ calls.space_keys s «Data» → ((n : ℕ) → calls.epoch_keys s' n ≡ calls.epoch_keys s n) →
      AreSessions m calls s k → AreSessions m calls s' k
  moved s s' k changed epoch space same h = record {
    changed = changed;
    epoch = epoch ∙ h.epoch;
    header = h.header ∙ ap (λ (keys : Keys t.H t.P). keys.header) (sym space);
    current = h.current ∙ sym (same k.ring.ring.epoch);
    next = h.next ∙ sym (same (k.ring.ring.epoch + 1));
    previous = before_moved s s' k.ring.ring.epoch k.ring.ring.kept k.ring.previous same h.previous;
    seals = h.seals;
    failures = h.failures;
  }

  read_fits : (s : t.S) (bytes : List ℕ) (next : ℕ) (k : Option (OneRttKeys t.H t.P)) → calls.is_sound s → FitKeys m calls s next k → FitKeys m calls (m.after_read s bytes) next k
  read_fits s bytes next None sound h = laws.epoch_read s bytes sound ∙ h
  read_fits s bytes next (Some k) sound h =
      let two : calls.changes s ≡ 2 = h.0.changed in
      (moved s (m.after_read s bytes) k (laws.changes_read s bytes sound ∙ two) (laws.epoch_read s bytes sound) (laws.data_read s bytes sound two) (λ n. laws.epochs_read s bytes n sound two) h.0, h.1)

  write_fits : (s : t.S) (next : ℕ) (k : Option (OneRttKeys t.H t.P)) → calls.is_sound s → FitKeys m calls s next k → FitKeys m calls (m.after_write s) next k
  write_fits s next None sound h = laws.epoch_write s sound ∙ h
  write_fits s next (Some k) sound h =
      let two : calls.changes s ≡ 2 = h.0.changed in
      (moved s (m.after_write s) k (write_two s sound two) (laws.epoch_write s sound) (laws.data_write s sound two) (λ n. laws.epochs_write s n sound two) h.0, h.1)

  -- one behind which the session is asked for keys of a further epoch, and gives none
  bare_fits : (s : t.S) (next : ℕ) (k : Option (OneRttKeys t.H t.P)) → calls.is_sound s → m.next_keys (m.after_write s) ≡ None → FitKeys m calls s next k → FitKeys m calls (m.after_next (m.after_write s)) next k
  bare_fits s next None sound none h =
      let w : t.S = m.after_write s in
      let sound_w : calls.is_sound w = laws.sound_write s sound in
      let zero_w : calls.epoch w ≡ 0 = laws.epoch_write s sound ∙ h in
      laws.next_epoch w sound_w (omega (arith, zero_w)) ∙ not_risen (calls.changes w == 2) (calls.epoch_keys w (calls.epoch w + 1)) (calls.epoch w) (sym (laws.given_next w sound_w) ∙ none) ∙ zero_w
  bare_fits s next (Some k) sound none h =
      let w : t.S = m.after_write s in
      let some : m.next_keys w ≡ Some (calls.epoch_keys w (calls.epoch w + 1)) = next_given w (laws.sound_write s sound) (write_two s sound h.0.changed) in
      absurd (let clash : Some (calls.epoch_keys w (calls.epoch w + 1)) ≡ None = sym some ∙ none in cc)

  -- ---- keys that are given

  was_two : (s : t.S) (next : KeyPair t.P) → calls.is_sound s → m.next_keys s ≡ Some next → calls.changes s ≡ 2
  was_two s next sound given = by_test (calls.changes s == 2) refl
    where
      by_test : (b : Bool) → (calls.changes s == 2) ≡ b → calls.changes s ≡ 2
      by_test true e = grind (arith, nat_tests, e)
      by_test false e =
          absurd (let clash : Some next ≡ None = sym given ∙ laws.given_next s sound ∙ ap (λ (b : Bool). if b then Some (calls.epoch_keys s (calls.epoch s + 1)) else None) e in cc)

  taken_fits : (s s' : t.S) (next : ℕ) (keys : OneRttKeys t.H t.P) → calls.is_sound s → calls.epoch s ≡ 0 → AreGiven m keys s s' → FitKeys m calls s' next (Some keys)
  taken_fits s s' next keys sound start given =
      let w : t.S = m.after_write s in
      let sound_w : calls.is_sound w = laws.sound_write s sound in
      let two : calls.changes w ≡ 2 = was_two w given.next sound_w given.behind in
      let counted : keys_given (m.write_keys s) ≡ 1 = ap (λ (o : Option (Keys t.H t.P)). keys_given o) given.written in
      let one : calls.changes s ≡ 1 = omega (arith, laws.changes_write s sound, two, counted) in
      let first : given.first ≡ calls.space_keys w «Data» = laws.given_keys s given.first sound given.written ∙ ap (λ (n : ℕ). calls.space_keys w (space_of_change n)) one in
      let zero_w : calls.epoch w ≡ 0 = laws.epoch_write s sound ∙ start in
      let behind : given.next ≡ calls.epoch_keys w (calls.epoch w + 1) = some_same given.next (calls.epoch_keys w (calls.epoch w + 1)) (sym given.behind ∙ next_given w sound_w two) in
      subst (λ (k : OneRttKeys t.H t.P). FitKeys m calls s' next (Some k)) (sym given.made)
      (subst (λ (c : t.S). FitKeys m calls c next (Some (new_ring m.seal_limit m.failure_limit given.first given.next))) (sym given.after) (
        record {
          changed = laws.changes_next w sound_w ∙ two;
          epoch = omega (arith, next_rises w sound_w two (omega (arith, zero_w)), zero_w);
          header = ap (λ (k : Keys t.H t.P). k.header) (first ∙ sym (laws.data_next w sound_w two));
          current = ap (λ (k : Keys t.H t.P). k.packet) first ∙ laws.first_epoch w sound_w two ∙ sym (laws.epochs_next w 0 sound_w two);
          next = behind ∙ ap (λ (n : ℕ). calls.epoch_keys w (n + 1)) zero_w ∙ sym (laws.epochs_next w 1 sound_w two);
          previous = refl;
          seals = refl;
          failures = refl;
        },
        record { low = omega arith; answered = λ e. cc e; sealed = λ e. cc e },
      ))

  -- ---- a new epoch

  risen : (s : t.S) (k : OneRttKeys t.H t.P) (ring : Ring) → calls.is_sound s → AreSessions m calls s k → k.ring.ring.epoch + 2 < 18446744073709551616 → ring.epoch ≡ plus k.ring.ring.epoch 1 →
      IsBefore m calls (m.after_next s) ring.epoch ring.kept (Some k.ring.current) →
      let fresh : Fresh t.P = fresh_with m.seal_limit m.failure_limit k.ring (calls.epoch_keys s (calls.epoch s + 1)) in AreSessions m calls (m.after_next s) (with_ring k (Some fresh) (keyed_in ring k.ring fresh.keys))
  risen s k ring sound h small is before =
      let up : ring.epoch ≡ k.ring.ring.epoch + 1 = is ∙ rises k.ring.ring.epoch small in
      let more : calls.epoch (m.after_next s) ≡ calls.epoch s + 1 = next_rises s sound h.changed (omega (arith, h.epoch, small)) in
      let further : calls.epoch s + 1 ≡ ring.epoch + 1 = omega (arith, up, h.epoch) in
      record {
        changed = laws.changes_next s sound ∙ h.changed;
        epoch = omega (arith, more, further);
        header = h.header ∙ ap (λ (keys : Keys t.H t.P). keys.header) (sym (laws.data_next s sound h.changed));
        current = h.next ∙ sym (laws.epochs_next s (k.ring.ring.epoch + 1) sound h.changed) ∙ ap (λ (n : ℕ). calls.epoch_keys (m.after_next s) n) (sym up);
        next = sym (laws.epochs_next s (calls.epoch s + 1) sound h.changed) ∙ ap (λ (n : ℕ). calls.epoch_keys (m.after_next s) n) further;
        previous = before;
        seals = refl;
        failures = refl;
      }

  old_kept : (s : t.S) (k : OneRttKeys t.H t.P) → calls.is_sound s → AreSessions m calls s k → k.ring.ring.epoch + 2 < 18446744073709551616 →
      (e : ℕ) × (e + 1 ≡ plus k.ring.ring.epoch 1) × (Some k.ring.current ≡ Some (calls.epoch_keys (m.after_next s) e))
  old_kept s k sound h small =
      (k.ring.ring.epoch, sym (rises k.ring.ring.epoch small), ap (λ (x : KeyPair t.P). Some x) (h.current ∙ sym (laws.epochs_next s k.ring.ring.epoch sound h.changed)))

  updated_fits : (s : t.S) (next : ℕ) (k : Option (OneRttKeys t.H t.P)) → calls.is_sound s → next ≤ 4611686018427387904 → ring_may_update k ≡ true → FitKeys m calls s next k →
      FitKeys m calls (m.after_next s) next (ring_updated (fresh_for m.seal_limit m.failure_limit k (m.next_keys s)) k)
  unfolding ring_updated keyed_updated after_update
  updated_fits s next None sound small may h = absurd cc
  updated_fits s next (Some k) sound small may h =
      let epoch : k.ring.ring.epoch + 2 < 18446744073709551616 = low_epoch next k.ring.ring small h.1 in
      let fresh : Fresh t.P = fresh_with m.seal_limit m.failure_limit k.ring (calls.epoch_keys s (calls.epoch s + 1)) in
      let ring : Ring = after_update k.ring.ring in
      let low : IsEpochLow next ring = updated_low next k.ring.ring may h.1 in
      subst (λ (o : Option (KeyPair t.P)). FitKeys m calls (m.after_next s) next (ring_updated (fresh_for m.seal_limit m.failure_limit (Some k) o) (Some k))) (sym (next_given s sound h.0.changed))
      (subst (λ (b : Bool). FitKeys m calls (m.after_next s) next (Some (with_ring k (Some fresh) (if b then keyed_in ring k.ring fresh.keys else k.ring)))) (sym may)
      (risen s k ring sound h.0 epoch refl (old_kept s k sound h.0 epoch), low))

  followed_fits : (s : t.S) (next n : ℕ) (k : Option (OneRttKeys t.H t.P)) → calls.is_sound s → next ≤ 4611686018427387904 → waits_for_answer k ≡ false → (k ≡ None → ⊥) → FitKeys m calls s next k →
      FitKeys m calls (m.after_next s) next (ring_opened Next n (fresh_for m.seal_limit m.failure_limit k (m.next_keys s)) k)
  unfolding ring_opened keyed_opened after_opened
  followed_fits s next n None sound small waits some h = absurd (some refl)
  followed_fits s next n (Some k) sound small waits some h =
      let epoch : k.ring.ring.epoch + 2 < 18446744073709551616 = low_epoch next k.ring.ring small h.1 in
      let ring : Ring = after_opened k.ring.ring Next n in
      let low : IsEpochLow next ring = followed_low next n k.ring.ring waits h.1 in
      subst (λ (o : Option (KeyPair t.P)). FitKeys m calls (m.after_next s) next (ring_opened Next n (fresh_for m.seal_limit m.failure_limit (Some k) o) (Some k))) (sym (next_given s sound h.0.changed))
      (risen s k ring sound h.0 epoch refl (old_kept s k sound h.0 epoch), low)

  -- ---- within an epoch

  floored : (s : t.S) (epoch n : ℕ) (kept : Kept) (keys : Option (KeyPair t.P)) → IsBefore m calls s epoch kept keys → IsBefore m calls s epoch (with_floor kept n) keys
  floored s epoch n Dropped keys h = h
  floored s epoch n Open keys h = h
  floored s epoch n (Below floor) keys h = h

  opened_fits : (s : t.S) (next n : ℕ) (k : Option (OneRttKeys t.H t.P)) → FitKeys m calls s next k → FitKeys m calls s next (ring_opened Current n None k) × FitKeys m calls s next (ring_opened Previous n None k)
  unfolding ring_opened keyed_opened after_opened
  opened_fits s next n None h = (h, h)
  opened_fits s next n (Some k) h =
      let low : IsEpochLow next (record k.ring.ring { kept = with_floor k.ring.ring.kept n }) = record { low = h.1.low; answered = h.1.answered; sealed = h.1.sealed } in (
        (
          record {
            changed = h.0.changed;
            epoch = h.0.epoch;
            header = h.0.header;
            current = h.0.current;
            next = h.0.next;
            previous = floored s k.ring.ring.epoch n k.ring.ring.kept k.ring.previous h.0.previous;
            seals = h.0.seals;
            failures = h.0.failures;
          },
          low,
        ),
        (record { changed = h.0.changed; epoch = h.0.epoch; header = h.0.header; current = h.0.current; next = h.0.next; previous = h.0.previous; seals = h.0.seals; failures = h.0.failures }, h.1),
      )

  sealed_fits : (s : t.S) (next n : ℕ) (k : Option (OneRttKeys t.H t.P)) → next ≤ n → FitKeys m calls s next k → FitKeys m calls s (n + 1) (ring_used n k)
  unfolding ring_used keyed_sealed after_sealed
  sealed_fits s next n None above h = h
  sealed_fits s next n (Some k) above h =
      (record { changed = h.0.changed; epoch = h.0.epoch; header = h.0.header; current = h.0.current; next = h.0.next; previous = h.0.previous; seals = h.0.seals; failures = h.0.failures }, sealed_low next n k.ring.ring above h.1)

  acked_fits : (s : t.S) (next n : ℕ) (k : Option (OneRttKeys t.H t.P)) → FitKeys m calls s next k → FitKeys m calls s next (ring_acked n k)
  unfolding ring_acked keyed_acked after_acked
  acked_fits s next n None h = h
  acked_fits s next n (Some k) h = (by_test (is_from k.ring.ring.first n), acked_low next n k.ring.ring h.1)
    where
      by_test : (b : Bool) → AreSessions m calls s (record k { ring = record k.ring { ring = if b then record k.ring.ring { acked = true } else k.ring.ring } })
      by_test true = record { changed = h.0.changed; epoch = h.0.epoch; header = h.0.header; current = h.0.current; next = h.0.next; previous = h.0.previous; seals = h.0.seals; failures = h.0.failures }
      by_test false = record { changed = h.0.changed; epoch = h.0.epoch; header = h.0.header; current = h.0.current; next = h.0.next; previous = h.0.previous; seals = h.0.seals; failures = h.0.failures }

  discarded_fits : (s : t.S) (next : ℕ) (k : Option (OneRttKeys t.H t.P)) → FitKeys m calls s next k → FitKeys m calls s next (ring_discarded k)
  unfolding ring_discarded keyed_discarded after_discard
  discarded_fits s next None h = h
  discarded_fits s next (Some k) h = by_test (has_floor k.ring.ring.kept)
    where
      by_test : (b : Bool) → FitKeys m calls s next (Some (record k { ring = if b then record k.ring { ring = if b then record k.ring.ring { kept = Dropped } else k.ring.ring; previous = None } else k.ring }))
      by_test true = (
        record { changed = h.0.changed; epoch = h.0.epoch; header = h.0.header; current = h.0.current; next = h.0.next; previous = refl; seals = h.0.seals; failures = h.0.failures },
        record { low = h.1.low; answered = h.1.answered; sealed = h.1.sealed },
      )
      by_test false =
          (record { changed = h.0.changed; epoch = h.0.epoch; header = h.0.header; current = h.0.current; next = h.0.next; previous = h.0.previous; seals = h.0.seals; failures = h.0.failures }, h.1)

  pub passed_fits : (s : t.S) (next more : ℕ) (k : Option (OneRttKeys t.H t.P)) → next ≤ more → FitKeys m calls s next k → FitKeys m calls s more k
  passed_fits s next more None above h = h
  passed_fits s next more (Some k) above h = (h.0, more_low next more k.ring.ring above h.1)

module _ {t : Types} (m : Meaning t) (calls : SessionGhosts t.S t.H t.P t.D t.I) (laws : IsLawful m calls) (Comes : Piece → Type 0) where
  -- ---- the steps of a ledger

  pub record Fits (e : Ledger t) : Type 0 where
    pub sound : calls.is_sound e.session
    pub keys : FitKeys m calls e.session e.next e.keys

  -- nothing is opened without keys
  opens_some : (e : Ledger t) (p : Piece) (n : ℕ) (payload : List ℕ) (which : Which) → OpensPiece m e p n payload which → e.keys ≡ None → ⊥
  opens_some e p n payload which o none =
      let clash : Unreadable ≡ Opened o.0 o.1 o.2 (Some which) n payload =
      sym (ap (λ (keys : Option (OneRttKeys t.H t.P)). opened_in m.mask m.opening (option_map (λ (k : OneRttKeys t.H t.P). k.header.remote) keys) None (option_map (λ (k : OneRttKeys t.H t.P). k.ring) keys) e.rx p) none) ∙ o.3 in
      cc

  opens_fits : (which : Which) (e : Ledger t) (p : Piece) (n : ℕ) (payload : List ℕ) (fresh : Option (Fresh t.P)) (session : t.S) → e.next ≤ 4611686018427387904 → MayLedger m Comes (Opens p n payload which fresh session) e → Fits e →
      Fits (ledger_after (Opens p n payload which fresh session) e)
  opens_fits Current e p n payload fresh session small may h = record {
    sound = subst (λ (c : t.S). calls.is_sound c) (sym may.3) h.sound;
    keys = subst (λ (c : t.S). FitKeys m calls c e.next (ring_opened Current n fresh e.keys)) (sym may.3)
        (subst (λ (f : Option (Fresh t.P)). FitKeys m calls e.session e.next (ring_opened Current n f e.keys)) (sym may.2) (opened_fits m calls laws e.session e.next n e.keys h.keys).0);
  }
  opens_fits Previous e p n payload fresh session small may h = record {
    sound = subst (λ (c : t.S). calls.is_sound c) (sym may.3) h.sound;
    keys = subst (λ (c : t.S). FitKeys m calls c e.next (ring_opened Previous n fresh e.keys)) (sym may.3)
        (subst (λ (f : Option (Fresh t.P)). FitKeys m calls e.session e.next (ring_opened Previous n f e.keys)) (sym may.2) (opened_fits m calls laws e.session e.next n e.keys h.keys).1);
  }
  opens_fits Next e p n payload fresh session small may h = record {
    sound = subst (λ (c : t.S). calls.is_sound c) (sym may.3) (laws.sound_next e.session h.sound);
    keys = subst (λ (c : t.S). FitKeys m calls c e.next (ring_opened Next n fresh e.keys)) (sym may.3)
        (subst (λ (f : Option (Fresh t.P)). FitKeys m calls (m.after_next e.session) e.next (ring_opened Next n f e.keys)) (sym may.2)
        (followed_fits m calls laws e.session e.next n e.keys h.sound small (may.4 refl) (opens_some e p n payload Next may.1) h.keys));
  }

  none_fits : (s : t.S) (next : ℕ) (k : Option (OneRttKeys t.H t.P)) → k ≡ None → FitKeys m calls s next k → calls.epoch s ≡ 0
  none_fits s next None is h = h
  none_fits s next (Some k) is h = absurd cc

  step_fits : (x : LedgerStep t) (e : Ledger t) → MayLedger m Comes x e → e.next ≤ 4611686018427387904 → Fits e → Fits (ledger_after x e)
  step_fits (Calls session) e (inl reads) small h = record {
    sound = subst (λ (c : t.S). calls.is_sound c) (sym reads.1) (laws.sound_read e.session reads.0 h.sound);
    keys = subst (λ (c : t.S). FitKeys m calls c e.next e.keys) (sym reads.1) (read_fits m calls laws e.session reads.0 e.next e.keys h.sound h.keys);
  }
  step_fits (Calls session) e (inr (inl writes)) small h = record {
    sound = subst (λ (c : t.S). calls.is_sound c) (sym writes) (laws.sound_write e.session h.sound);
    keys = subst (λ (c : t.S). FitKeys m calls c e.next e.keys) (sym writes) (write_fits m calls laws e.session e.next e.keys h.sound h.keys);
  }
  step_fits (Calls session) e (inr (inr bare)) small h = record {
    sound = subst (λ (c : t.S). calls.is_sound c) (sym bare.0) (laws.sound_next (m.after_write e.session) (laws.sound_write e.session h.sound));
    keys = subst (λ (c : t.S). FitKeys m calls c e.next e.keys) (sym bare.0) (bare_fits m calls laws e.session e.next e.keys h.sound bare.1 h.keys);
  }
  step_fits (Takes keys session) e may small h = record {
    sound = subst (λ (c : t.S). calls.is_sound c) (sym may.1.after) (laws.sound_next (m.after_write e.session) (laws.sound_write e.session h.sound));
    keys = taken_fits m calls laws e.session session e.next keys h.sound (none_fits e.session e.next e.keys may.0 h.keys) may.1;
  }
  step_fits (Passes next) e may small h = record { sound = h.sound; keys = passed_fits m calls laws e.session e.next next e.keys may h.keys }
  step_fits (Seals number fs) e may small h = record { sound = h.sound; keys = sealed_fits m calls laws e.session e.next number e.keys may.0 h.keys }
  step_fits (Updates fresh session) e may small h = record {
    sound = subst (λ (c : t.S). calls.is_sound c) (sym may.2) (laws.sound_next e.session h.sound);
    keys = subst (λ (c : t.S). FitKeys m calls c e.next (ring_updated fresh e.keys)) (sym may.2)
        (subst (λ (f : Option (Fresh t.P)). FitKeys m calls (m.after_next e.session) e.next (ring_updated f e.keys)) (sym may.1) (updated_fits m calls laws e.session e.next e.keys h.sound small may.0 h.keys));
  }
  step_fits (Opens p n payload which fresh session) e may small h = opens_fits which e p n payload fresh session small may h
  step_fits (Accepts number) e may small h = record { sound = h.sound; keys = h.keys }
  step_fits (Acknowledges payload largest) e may small h = record { sound = h.sound; keys = acked_fits m calls laws e.session e.next largest e.keys h.keys }
  step_fits (Gives payload to body) e may small h = record { sound = h.sound; keys = h.keys }
  step_fits Discards e may small h = record { sound = h.sound; keys = discarded_fits m calls laws e.session e.next e.keys h.keys }

  -- the next number never falls
  step_grows : (x : LedgerStep t) (e : Ledger t) → MayLedger m Comes x e → e.next ≤ (ledger_after x e).next
  step_grows (Passes next) e may = may
  step_grows (Seals number fs) e may = omega (arith, may.0)
  step_grows (Calls session) e may = omega arith
  step_grows (Takes keys session) e may = omega arith
  step_grows (Updates fresh session) e may = omega arith
  step_grows (Opens p n payload which fresh session) e may = omega arith
  step_grows (Accepts number) e may = omega arith
  step_grows (Acknowledges payload largest) e may = omega arith
  step_grows (Gives payload to body) e may = omega arith
  step_grows Discards e may = omega arith

  steps_grow : (xs : List (LedgerStep t)) (e : Ledger t) → AllMayLedger m Comes xs e → e.next ≤ (ledgers_after xs e).next
  steps_grow [] e may = omega arith
  steps_grow (x ∷ xs) e may = omega (arith, step_grows x e may.0, steps_grow xs (ledger_after x e) may.1)

  pub steps_fit : (xs : List (LedgerStep t)) (e : Ledger t) → AllMayLedger m Comes xs e → (ledgers_after xs e).next ≤ 4611686018427387904 → Fits e → Fits (ledgers_after xs e)
  steps_fit [] e may small h = h
  steps_fit (x ∷ xs) e may small h =
      steps_fit xs (ledger_after x e) may.1 small (step_fits x e may.0 (omega (arith, small, step_grows x e may.0, steps_grow xs (ledger_after x e) may.1)) h)

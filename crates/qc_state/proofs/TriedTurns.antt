-- An update that is tried for a packet leaves whose turn it is, what holds a datagram back, and whether a probe of the path's size is due.
use Rattle.std.proofs.Common.{◌≡◌, ℕ, refl, ap, ◌∙◌, Bool, true, false, Option, None, is_some, if◌then◌else◌}
use Rattle.std.specs.Option.{option_map}
use Rattle.std.specs.Prelude.{◌&&◌, ◌||◌, not}
use Rattle.qc_base.specs.declared.side.SpaceId.{SpaceId}
use Rattle.qc_base.specs.declared.side.SpaceId.TheVariants.{Initial, Handshake, «Data»}
use Rattle.qc_path.specs.Mtu.{probe_due}
use Rattle.qc_state.specs.declared.form.Form.{Form}
use Rattle.qc_state.specs.declared.form.Form.TheVariants as form
use Rattle.qc_state.specs.declared.keys.Fresh.{Fresh}
use Rattle.qc_state.specs.declared.keys.KeyGroup.{KeyGroup}
use Rattle.qc_state.specs.declared.transmit.Batch.{Batch}
use Rattle.qc_state.specs.Keys.{form_in, has_keys, key_updated}
use Rattle.qc_state.specs.Life.{is_established}
use Rattle.qc_state.specs.Moves.{Update, keys_move, life_move, lower_move, move_to, numbers_move, paths_move, state_move, waiting_move}
use Rattle.qc_state.specs.Offers.{datagram_waits, short_room, waits_in, wants_sending}
use Rattle.qc_state.specs.Paths.{held_size, is_blocked_behind}
use Rattle.qc_state.specs.Batches.{is_last_in, next_segment}
use Rattle.qc_state.specs.Sending.{HasTurn, MayStand, all_eager, first_eager, held_by, is_congested, is_eager, is_first_in_turn, is_passed, is_silent, limit_in, owes, owes_in, paced_until, probe_size, quiet_by, quiet_of, rate_of, wants_in}
use Rattle.qc_state.specs.Types.{Types, Meaning}
use Rattle.qc_state.specs.Updating.{tried_after}
use Rattle.qc_state.specs.View.{View, At}
use Rattle.qc_state.proofs.KeySteps.{same_keys, same_keys_for, updated_moves}
use Rattle.qc_state.proofs.Tried.{holds_tried}

-- the form of a space is that of its space alone
pub form_kept : {H P : Type 0} (v w : KeyGroup H P) (id : SpaceId) → form_in v id ≡ form_in w id
unfolding form_in
form_kept v w Initial = refl
form_kept v w Handshake = refl
form_kept v w «Data» = refl

module _ {t : Types} (m : Meaning t) (time : ℕ) (b : Batch) (fresh : Option (Fresh t.P)) (session : t.S) (s : View t) where
  -- the view behind an update
  abbrev risen : View t
  risen = state_move (Update fresh session) s

  keyed_same : (id : SpaceId) → has_keys risen.keys id ≡ has_keys s.keys id
  unfolding state_move keys_move
  keyed_same id = same_keys s.keys (key_updated s.keys fresh) (updated_moves s.keys fresh) id

  owes_same : (id : SpaceId) → owes_in b risen id ≡ owes_in b s id
  unfolding owes_in waits_in wants_sending datagram_waits short_room state_move numbers_move keys_move paths_move waiting_move lower_move
  owes_same Initial = ap (λ (x : Bool). x && (if b.closing then not (is_last_in b.space Initial) else if is_last_in b.space Initial then wants_in s Initial else waits_in s Initial)) (keyed_same Initial)
  owes_same Handshake = ap (λ (x : Bool). x && (if b.closing then not (is_last_in b.space Handshake) else if is_last_in b.space Handshake then wants_in s Handshake else waits_in s Handshake)) (keyed_same Handshake)
  owes_same «Data» = ap (λ (x : Bool). x && (if b.closing then not (is_last_in b.space «Data») else if is_last_in b.space «Data» then wants_in s «Data» else waits_in s «Data»)) (keyed_same «Data»)

  passed_same : (id : SpaceId) → is_passed m risen b id ≡ is_passed m s b id
  unfolding is_passed is_eager is_congested wants_sending datagram_waits short_room state_move numbers_move paths_move waiting_move lower_move
  passed_same Initial = ap (λ (x : Bool). not x || (is_eager s Initial && is_congested m s (next_segment b))) (owes_same Initial)
  passed_same Handshake = ap (λ (x : Bool). not x || (is_eager s Handshake && is_congested m s (next_segment b))) (owes_same Handshake)
  passed_same «Data» = ap (λ (x : Bool). not x || (is_eager s «Data» && is_congested m s (next_segment b))) (owes_same «Data»)

  first_same : (id : SpaceId) → is_first_in_turn m risen b id ≡ is_first_in_turn m s b id
  unfolding is_first_in_turn
  first_same Initial = refl
  first_same Handshake = passed_same Initial
  first_same «Data» = λ i. passed_same Initial i && passed_same Handshake i

  turn_risen : (id : SpaceId) → HasTurn m s b id → HasTurn m risen b id
  unfolding state_move life_move
  turn_risen id h = record { alive = h.alive; unclosed = h.unclosed; spare = h.spare; owed = owes_same id ∙ h.owed; order = h.order; first = λ none. first_same id ∙ h.first none }

  limit_same : (id : SpaceId) → limit_in m time risen b id ≡ limit_in m time s b id
  unfolding limit_in is_eager is_congested rate_of paced_until wants_sending datagram_waits short_room state_move numbers_move paths_move waiting_move lower_move
  limit_same Initial = refl
  limit_same Handshake = refl
  limit_same «Data» = refl

  stand_risen : (id : SpaceId) (opens : Bool) → MayStand m time s b id opens → MayStand m time risen b id opens
  stand_risen id true h = record { few = h.few; free = limit_same id ∙ h.free; further = h.further }
  stand_risen id false h = h

  all_same : all_eager b risen ≡ all_eager b s
  unfolding all_eager is_eager wants_sending datagram_waits short_room state_move numbers_move paths_move waiting_move lower_move
  all_same =
      λ i. (not (owes_same Initial i) || is_eager s Initial) && ((not (owes_same Handshake i) || is_eager s Handshake) && (not (owes_same «Data» i) || is_eager s «Data»))

  eager_same : first_eager b risen ≡ first_eager b s
  unfolding first_eager is_eager wants_sending datagram_waits short_room state_move numbers_move paths_move waiting_move lower_move
  eager_same =
      λ i. if owes_same Initial i then is_eager s Initial
      else if owes_same Handshake i then is_eager s Handshake
      else is_eager s «Data»

  owed_same : owes b risen ≡ owes b s
  unfolding owes
  owed_same = λ i. owes_same Initial i || owes_same Handshake i || owes_same «Data» i

  quiet_same : quiet_of m time risen b ≡ quiet_of m time s b
  unfolding quiet_of is_silent is_congested rate_of paced_until state_move life_move paths_move waiting_move lower_move
  quiet_same =
      λ i. quiet_by (is_silent s) (owed_same i) (is_blocked_behind s.paths b.total)
      (held_by (is_congested m s (next_segment b)) (all_same i) (is_some (paced_until m time s (next_segment b))) (eager_same i))

  probe_same : probe_size time risen ≡ probe_size time s
  unfolding probe_size state_move keys_move life_move paths_move
  probe_same =
      ap (λ (x : Bool). if is_established s.life.state && (s.paths.current.validated && x) then option_map held_size (probe_due time s.paths.current.kept.mtud) else None)
      (same_keys_for s.keys (key_updated s.keys fresh) (updated_moves s.keys fresh) form.OneRtt)

-- so it is behind one that was tried
module _ {t : Types} (m : Meaning t) (time : ℕ) (b : Batch) (f : Form) (a : At t) where
  pub turn_tried : (id : SpaceId) → HasTurn m a.state b id → HasTurn m (tried_after m f a).state b id
  unfolding move_to
  turn_tried id = holds_tried m (λ (x y : At t). HasTurn m x.state b id → HasTurn m y.state b id) (λ x h. h) (λ x may h. turn_risen m time b _ _ x.state id h) f a

  pub stand_tried : (id : SpaceId) (opens : Bool) → MayStand m time a.state b id opens → MayStand m time (tried_after m f a).state b id opens
  unfolding move_to
  stand_tried id opens = holds_tried m (λ (x y : At t). MayStand m time x.state b id opens → MayStand m time y.state b id opens) (λ x h. h) (λ x may h. stand_risen m time b _ _ x.state id opens h) f a

  pub quiet_tried : quiet_of m time (tried_after m f a).state b ≡ quiet_of m time a.state b
  unfolding move_to
  quiet_tried = holds_tried m (λ (x y : At t). quiet_of m time y.state b ≡ quiet_of m time x.state b) (λ x. refl) (λ x may. quiet_same m time b _ _ x.state) f a

  pub probe_tried : probe_size time (tried_after m f a).state ≡ probe_size time a.state
  unfolding move_to
  probe_tried = holds_tried m (λ (x y : At t). probe_size time y.state ≡ probe_size time x.state) (λ x. refl) (λ x may. probe_same m time b _ _ x.state) f a

-- Key updates: what a 1-RTT packet that opened makes of the ring, and how this end updates its keys by itself (RFC 9001, section 6).
use Rattle.std.specs.Prelude.{ℕ, ◌&&◌, Bool, if◌then◌else◌, Option, None, Some, []}
use Rattle.qc_rings.specs.declared.which.Which.{Which}
use Rattle.qc_rings.specs.declared.which.Which.TheVariants.{Current, Next, Previous}
use Rattle.qc_state.specs.declared.form.Form.{Form}
use Rattle.qc_state.specs.declared.keys.Fresh.{Fresh}
use Rattle.qc_state.specs.Forms.{is_one_rtt}
use Rattle.qc_state.specs.Keys.{fresh_for, is_phase_full, ring_may_update}
use Rattle.qc_state.specs.Life.{is_established}
use Rattle.qc_state.specs.Moves.{Unseal, Update, move_to}
use Rattle.qc_state.specs.Types.{Types, Meaning}
use Rattle.qc_state.specs.View.{View, At, at}

module _ {t : Types} where
  -- what the ring takes with it into a new epoch: the session is asked for the keys of the epoch behind it (RFC 9001, section 6.1)
  unfoldable pub fresh_now : Meaning t → View t → Option (Fresh t.P)
  fresh_now m s = fresh_for m.seal_limit m.failure_limit s.keys.«data» (m.next_keys s.lower.session)

  -- the same as a packet was opened by these keys: the session is asked as the ring rises, and never before
  abbrev pub fresh_by : Meaning t → Which → View t → Option (Fresh t.P)
  fresh_by m Next s = fresh_now m s
  fresh_by m Current s = None
  fresh_by m Previous s = None

  -- the session behind that
  abbrev pub session_by : Meaning t → Which → t.S → t.S
  session_by m Next session = m.after_next session
  session_by m Current session = session
  session_by m Previous session = session

  -- A packet with this number opened, by these keys of the ring if it is a 1-RTT one: before anything else is made of it, the ring rises with
  -- the next keys, and the current ones set the floor of previous ones that have none (RFC 9001, sections 6.2, 6.3 and 6.5).
  abbrev pub unsealed_after : Meaning t → (time : ℕ) → Option Which → (number : ℕ) → At t → At t
  unsealed_after m time None n a = a
  unsealed_after m time (Some which) n a = move_to (Unseal time n which (fresh_by m which a.state) (session_by m which a.state.lower.session)) a

  -- This end may update its keys: the handshake is over, it keeps no keys of the epoch before, and a packet of this epoch was acknowledged (RFC
  -- 9001, sections 6.1 and 6.5).
  unfoldable pub may_update_now : View t → Bool
  may_update_now s = is_established s.life.state && ring_may_update s.keys.«data»

  -- it does so where it may
  unfoldable pub updated_after : Meaning t → At t → At t
  updated_after m a = if may_update_now a.state then move_to (Update (fresh_now m a.state) (m.after_next a.state.lower.session)) a else a

  -- the keys that seal packets of this form have sealed as many as they are to seal: 1-RTT keys, of which the first seal as many as were drawn
  -- for them (RFC 9001, section 6.6)
  unfoldable pub is_worn_in : View t → Form → Bool
  is_worn_in s form = is_one_rtt form && is_phase_full s.setup.fixed.key_phase_size s.keys.«data»

  -- a packet of this form is about to begin: where its keys have sealed as many as they are to seal, this end tries to update them, and where it
  -- may not, it tries again with the next packet
  unfoldable pub tried_after : Meaning t → Form → At t → At t
  tried_after m form a = if is_worn_in a.state form then updated_after m a else a

  -- the view once that was tried
  unfoldable pub tried_view : Meaning t → View t → Form → View t
  tried_view m s form = (tried_after m form (at s [])).state

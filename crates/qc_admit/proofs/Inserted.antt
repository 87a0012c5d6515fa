-- A NEW_CONNECTION_ID that is kept: a server that still sends to the id of its client's first packets takes the new one into use.
use Rattle.std.proofs.Common.{◌≡◌, ℕ, refl, ap, sym, ◌∙◌, Bool, ◌&&◌, Option, Some, None}
use Rattle.std.specs.Prelude.{is_none}
use Rattle.qc_base.specs.declared.side.Side.{Side}
use Rattle.qc_base.specs.declared.transport_error.TransportError.{TransportError}
use Rattle.qc_cids.specs.Cids.{new_refusal, uses_first}
use Rattle.qc_cids.specs.Steps.{NewCame, after, after_step}
use Rattle.qc_cids.specs.declared.connection_ids.ConnectionIds.{ConnectionIds}
use Rattle.qc_frame.specs.declared.frames.NewConnectionId.{NewConnectionId}
use Rattle.qc_state.specs.Ids.{first_error, insert_stop, is_server, owes_too_many, switches_for}
use Rattle.qc_state.specs.Lower.{ids_stepped}
use Rattle.qc_state.specs.Moves.{Insert, lower_move, move_to, setup_move, state_move}
use Rattle.qc_state.specs.Receiving.{Behind, Goes, ended_by, inserted_after, switched_after}
use Rattle.qc_state.specs.Types.{Types}
use Rattle.qc_state.specs.View.{At}

-- where neither stops the packet, the first doesn't
first_by : (refusal other : Option TransportError) (b : Bool) → first_error refusal other ≡ None → b ≡ (is_none refusal && b)
first_by None other b none = refl
first_by (Some error) other b none = cc

-- a frame that stops nothing is kept
switches_is : (side : Side) (new : NewConnectionId) (s : ConnectionIds) → insert_stop new s ≡ None → (is_server side && uses_first (after_step (NewCame new) s)) ≡ switches_for side new s
unfolding insert_stop switches_for
switches_is side new s none = first_by (new_refusal new s.remote) (owes_too_many (after_step (NewCame new) s)) (is_server side && uses_first (after_step (NewCame new) s)) none

module _ {t : Types} where
  goes_by : (time : ℕ) (stop : Option TransportError) (does : At t → Behind t) (a : At t) → stop ≡ None → does a ≡ ended_by time stop does a
  goes_by time None does a none = refl
  goes_by time (Some error) does a none = cc

  -- as the connection stands once the frame came
  switched_is : (new : NewConnectionId) (a : At t) → insert_stop new a.state.lower.ids ≡ None →
      (is_server (move_to (Insert new) a).state.setup.fixed.side && uses_first (move_to (Insert new) a).state.lower.ids) ≡ switches_for a.state.setup.fixed.side new a.state.lower.ids
  unfolding move_to state_move setup_move lower_move ids_stepped after
  switched_is new a none = switches_is a.state.setup.fixed.side new a.state.lower.ids none

  -- what the frame leaves then
  pub new_goes : (time : ℕ) (new : NewConnectionId) (stop : Option TransportError) (a b c : At t) → stop ≡ insert_stop new a.state.lower.ids → stop ≡ None → b ≡ move_to (Insert new) a →
      c ≡ switched_after (is_server b.state.setup.fixed.side && uses_first b.state.lower.ids) b → Goes c ≡ inserted_after time new a
  unfolding inserted_after
  new_goes time new stop a b c is_stop none is_b is_c =
      let stays : insert_stop new a.state.lower.ids ≡ None = sym is_stop ∙ none in
      ap (λ (x : At t). Goes x) (is_c ∙ ap (λ (x : At t). switched_after (is_server x.state.setup.fixed.side && uses_first x.state.lower.ids) x) is_b)
      ∙ ap (λ (x : Bool). Goes (switched_after x (move_to (Insert new) a))) (switched_is new a stays)
      ∙ goes_by time (insert_stop new a.state.lower.ids) (λ (x : At t). Goes (switched_after (switches_for a.state.setup.fixed.side new a.state.lower.ids) x)) (move_to (Insert new) a) stays

-- A packet is begun: what waits, and then what is drawn for it.
use Rattle.std.proofs.Common.{◌≡◌, ap, ◌∙◌, Bool}
use Rattle.qc_base.specs.declared.side.SpaceId.{SpaceId}
use Rattle.qc_state.specs.Keys.{form_in}
use Rattle.qc_state.specs.Moves.{Begin, state_move}
use Rattle.qc_state.specs.Offers.{packet_begun}
use Rattle.qc_state.specs.Setup.{packet_drawn}
use Rattle.qc_state.specs.Types.{Types}
use Rattle.qc_state.specs.View.{View}
use Rattle.qc_state.proofs.Probed.{begun_is}

module _ {t : Types} where
  pub begun_drawn : (id : SpaceId) (opens : Bool) (s a b : View t) → a ≡ packet_begun id opens s → b ≡ record a { setup = packet_drawn a.setup (form_in a.keys id) } → b ≡ state_move (Begin id opens) s
  begun_drawn id opens s a b begun drawn = drawn ∙ ap (λ (x : View t). record x { setup = packet_drawn x.setup (form_in x.keys id) }) begun ∙ begun_is id opens s

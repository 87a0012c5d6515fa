-- What came in a space once a packet was accepted there.
use Rattle.std.proofs.Common.{◌≡◌, ℕ, refl, ap, ◌∙◌}
use Rattle.qc_base.specs.declared.side.SpaceId.{SpaceId}
use Rattle.qc_base.specs.declared.side.SpaceId.TheVariants.{Initial, Handshake, «Data»}
use Rattle.qc_path.specs.Arrived.{Window, arrived}
use Rattle.qc_state.specs.Numbers.{accepted_in, came_in, number_accepted}
use Rattle.qc_state.specs.declared.numbers.Numbers.{Numbers}

came_by : (v : Numbers) (id : SpaceId) (n : ℕ) → came_in (number_accepted v id n) id ≡ arrived n (came_in v id)
unfolding came_in number_accepted accepted_in
came_by v Initial n = refl
came_by v Handshake n = refl
came_by v Data n = refl

-- its number has arrived
pub came_accepted : (v w : Numbers) (id : SpaceId) (n : ℕ) (seen : Window) → w ≡ number_accepted v id n → seen ≡ came_in w id → seen ≡ arrived n (came_in v id)
came_accepted v w id n seen is_w is_seen = is_seen ∙ ap (λ (x : Numbers). came_in x id) is_w ∙ came_by v id n

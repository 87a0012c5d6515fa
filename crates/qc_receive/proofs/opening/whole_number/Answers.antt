use Rattle.std.proofs.Common.{ℕ, Option, ap, sym, subst, ◌∙◌}
use Rattle.qc_base.specs.PacketNumber.{number_window, number_low, IsNearest}
use Rattle.qc_base.specs.declared.packet_number.PacketNumber.{PacketNumber}
use Rattle.qc_packet.specs.OpenedPacket.{IsNumberOf}
use Rattle.qc_state.specs.Opening.{whole_number}
use Rattle.qc_state.proofs.Expansions.{expanded_is}
use Rattle.qc_receive.proofs.opening.whole_number.Goals as goal

-- the number that was expanded is the nearest one
pub returns-in-Some-clause-value : goal.returns-in-Some-clause-value
returns-in-Some-clause-value c =
    expanded_is c.in-Some.number _ c.expand.result (subst (λ (e : ℕ). IsNearest (number_window c.in-Some.number) (number_low c.in-Some.number) e c.expand.result) c.saturating_add.ensures c.expand.ensures.nearest)
    ∙ ap (λ (x : Option PacketNumber). whole_number x c.args.rx) (sym c.in-Some.is ∙ c.number.ensures)

pub returns-in-Some-clause-nearest : goal.returns-in-Some-clause-nearest
returns-in-Some-clause-nearest c some =
    subst (λ (x : Option PacketNumber). IsNumberOf x c.args.rx c.expand.result) (sym c.in-Some.is ∙ c.number.ensures)
    (subst (λ (e : ℕ). IsNearest (number_window c.in-Some.number) (number_low c.in-Some.number) e c.expand.result) c.saturating_add.ensures c.expand.ensures.nearest)

use Rattle.std.proofs.Common.{ℕ, ap, subst}
use Rattle.std.specs.Option.{option_copied}
use Rattle.qc_base.specs.PacketNumber.{number_window, number_low, IsNearest}
use Rattle.qc_state.proofs.Expansions.{expanded_is}
use Rattle.qc_receive.proofs.Shorts.{no_ring, in_ring}
use Rattle.qc_receive.proofs.short.open_behind.Goals as goal

-- there are no keys
pub returns-in-None : goal.returns-in-None
returns-in-None g c dst =
    let h = c.args.header.now in
    no_ring g.P.PacketKey.opening c.args.rx _ h.spin h.key_phase dst h.number c.args.head.now c.args.payload.now.items (ap option_copied c.in-None.is)

-- there are, and the number is the nearest one
pub returns-in-Some : goal.returns-in-Some
returns-in-Some g c dst =
    let h = c.args.header.now in
    in_ring g.P.PacketKey.opening c.args.rx c.expand-number.result (option_copied c.args.ring) c.in-Some.ring.now h.spin h.key_phase dst h.number c.args.head.now c.args.payload.now.items _ (ap option_copied c.in-Some.is)
    (expanded_is h.number _ c.expand-number.result (subst (λ (e : ℕ). IsNearest (number_window h.number) (number_low h.number) e c.expand-number.result) c.saturating_add.ensures c.expand-number.ensures.nearest))
    (c.open_in_ring.ensures dst)

use Rattle.std.proofs.Common.{◌≡◌, IfOk, subst}
use Rattle.qc_state.specs.declared.opening.Opening.{Opening}
use Rattle.qc_receive.proofs.Opens.{opened_is}
use Rattle.qc_receive.proofs.opening.open_packet.Goals as goal

-- what opening told, with the keys that the packet names
pub returns : goal.returns
returns g c =
    subst (λ (x : Opening). IfOk c.judged.result (λ o. o ≡ x))
    (opened_is g.P.PacketKey.opening _ _ c.args.rx c.args.packet _ c.whole_number-number.result c.which_in-which.result c.decrypt_packet_body-told.result c.whole_number-number.ensures.value c.whole_number-number.ensures.nearest c.which_in-which.ensures
    c.decrypt_packet_body-told.ensures.unprotected c.decrypt_packet_body-told.ensures.answer c.decrypt_packet_body-told.ensures.payload c.decrypt_packet_body-told.ensures.header)
    c.judged.ensures

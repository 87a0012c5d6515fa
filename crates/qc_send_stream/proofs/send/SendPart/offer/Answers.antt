use Rattle.std.proofs.Common.{◌∙◌, sym, refl}
use Rattle.qc_send_stream.specs.Sending.{IsOffer}
use Rattle.qc_send_stream.proofs.send.SendPart.offer.Goals as goal

pub returns-then-is_some-clause-next : goal.returns-then-is_some-clause-next
unfolding IsOffer
returns-then-is_some-clause-next c = (c.in_ok-bytes.bytes, c.in_ok-bytes.ensures.next, rw (sym c.is_some.ensures ∙ c.if-is_some.true) refl)

pub returns-clause-next : goal.returns-clause-next
unfolding IsOffer
returns-clause-next c =
    (c.in_ok-bytes.bytes, c.in_ok-bytes.ensures.next, rw (sym c.is_some.ensures ∙ c.if-is_some.false, c.part_of.ensures, c.offer.ensures.same) refl)

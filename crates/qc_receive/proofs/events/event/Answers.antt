use Rattle.std.proofs.Common.{sym, ◌∙◌, arith}
use Rattle.qc_receive.proofs.Handed.{event_is}
use Rattle.qc_receive.proofs.events.event.Goals as goal

-- a datagram that counts
pub returns-in_ok-pieces : goal.returns-in_ok-pieces
returns-in_ok-pieces g c =
    event_is _ c.args.coming.now c.cutting_of-cutting.result c.args.first c.args.behind _ _ _ _ _ c.cutting_of-cutting.ensures.cuts (sym c.if-lets_in.true ∙ c.lets_in.ensures)
    (omega (arith, c.len.ensures, c.len_behind.ensures)) c.is_blocked-blocked.ensures c.in_ok-pieces.ensures c.counted.ensures

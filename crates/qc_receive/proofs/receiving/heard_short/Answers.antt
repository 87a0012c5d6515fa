use Rattle.std.proofs.Common.{sym, ◌∙◌}
use Rattle.qc_receive.specs.Short.{short_in}
use Rattle.qc_receive.proofs.Behind.{unheard_is}
use Rattle.qc_receive.proofs.Shorts.{heard_alone}
use Rattle.qc_receive.proofs.receiving.heard_short.Goals as goal

-- a datagram that counts
pub returns-in_ok-short_piece : goal.returns-in_ok-short_piece
returns-in_ok-short_piece g c =
    heard_alone _ c.args.coming.now c.args.cutting c.args.bytes.items (short_in c.args.cutting.local_cid_len c.args.bytes.items) c.len-len.result c.is_blocked-blocked.result _ _ _ c.requires.cuts c.requires.front (sym c.if-lets_in.true ∙ c.lets_in.ensures)
    c.len-len.ensures.value c.is_blocked-blocked.ensures c.in_ok-short_piece.ensures c.counted.ensures

-- one that doesn't
pub returns-else-lets_in : goal.returns-else-lets_in
returns-else-lets_in g c = unheard_is _ c.args.coming.now c.args.bytes.items _ (sym c.if-lets_in.false ∙ c.lets_in.ensures)

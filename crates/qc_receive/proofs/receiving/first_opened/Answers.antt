use Rattle.std.proofs.Common.{◌≡◌, true}
use Rattle.qc_state.specs.Receiving.{has_first_ids}
use Rattle.qc_state.specs.View.{ideal}
use Rattle.qc_receive.proofs.FirstDatagrams.{first_names_none}
use Rattle.qc_receive.proofs.receiving.first_opened.Goals as goal

-- a packet with a first one's ids is an Initial packet, which names no keys of the ring
pub returns-in-Opened-clause-some : goal.returns-in-Opened-clause-some
returns-in-Opened-clause-some g c =
    let ids : has_first_ids (ideal g.U.Random.Rng.stream c.args.core.now) c.args.first.header ≡ true = cc (c.has_first_ids.ensures, c.if-not-has_first_ids.false, c.header.ensures, c.first.view_is) in
    (ids, first_names_none _ _ _ _ _ _ _ _ _ _ ids c.in_ok-source.ensures c.in-Opened.is)

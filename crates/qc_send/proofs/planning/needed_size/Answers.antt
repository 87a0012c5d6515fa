use Rattle.std.proofs.Common.{refl}
use Rattle.qc_state.specs.View.{ideal}
use Rattle.qc_send.proofs.Planned.{needed_is}
use Rattle.qc_send.proofs.planning.needed_size.Goals as goal

-- what the frames have, or the sample, or what hides a reset
pub returns : goal.returns
returns g c =
    needed_is c.args.left c.args.room (ideal g.U.Random.Rng.stream c.args.core.now) c.args.form c.args.frames.now c.plain_size-plain.result c.number_len-number.result _ c.max-most.result c.cid_len-cid.result _
    c.requires.room c.requires.wide c.plain_size-plain.ensures c.number_len-number.ensures.value c.number_len-number.ensures.most refl c.max-most.ensures c.cid_len-cid.ensures.value c.max.ensures

use Rattle.std.proofs.Common.{sym, ◌∙◌}
use Rattle.qc_frame.proofs.PaddingRun.{padding_run, zeros_run, run_ends}
use Rattle.qc_frame.proofs.iter.split_padding.Goals as goal

pub returns-clause-skipped : goal.returns-clause-skipped
returns-clause-skipped c =
    rw c.split_at.ensures.back (padding_run c.zeros_at_front-count.result c.args.bytes.now c.zeros_at_front-count.ensures.within c.zeros_at_front-count.ensures.zeros)

pub returns-clause-bytes : goal.returns-clause-bytes
returns-clause-bytes c =
    rw c.split_at.ensures.back (zeros_run c.zeros_at_front-count.result c.args.bytes.now c.zeros_at_front-count.ensures.within c.zeros_at_front-count.ensures.zeros)

pub returns-clause-all : goal.returns-clause-all
returns-clause-all c rest is =
    run_ends c.zeros_at_front-count.result c.args.bytes.now rest c.zeros_at_front-count.ensures.stops (sym c.split_at.ensures.back ∙ is)

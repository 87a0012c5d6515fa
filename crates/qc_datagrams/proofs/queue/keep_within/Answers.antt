use Rattle.std.proofs.Common.{rules}
use Rattle.std.proofs.lemmas.Fn.{filter_same}
use Rattle.qc_datagrams.specs.Queue.{no_longer_than}
use Rattle.qc_datagrams.proofs.queue.keep_within.Goals as goal

pub returns : goal.returns
unfolding no_longer_than
returns c = filter_same _ _ _ (λ x b f' k. search rules) _ _ c.retain.ensures.filtered

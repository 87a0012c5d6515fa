use Rattle.std.proofs.Common.{arith}
use Rattle.qc_bench_run.proofs.AskingLemmas.{three_texts_ask, two_texts_ask}
use Rattle.qc_bench_run.proofs.job.job_of.Goals as goal

pub returns-in-len2 : goal.returns-in-len2
returns-in-len2 c = two_texts_ask c.args.words.now _ _ _ _ _ (omega arith) c.word-item.is c.count-item.is c.as_str.ensures.value c.as_str-in-len2.ensures.value c.keys_job.ensures

pub returns-in-len3 : goal.returns-in-len3
returns-in-len3 c =
    three_texts_ask c.args.words.now _ _ _ _ _ _ _ (omega arith) c.word-item-then-words-lt4.is c.first-item.is c.second-item.is
    c.as_str-in-len3.ensures.value c.as_str-in-len3-2.ensures.value c.as_str-in-len3-3.ensures.value c.long_job.ensures

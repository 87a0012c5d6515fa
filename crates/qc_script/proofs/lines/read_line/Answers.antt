use Rattle.qc_script.proofs.LineLemmas.{call_read}
use Rattle.qc_script.proofs.lines.read_line.Goals as goal

pub returns : goal.returns
returns c = call_read c.args.text.now c.in_default.ensures c.in_default-after_word.ensures c.in_default-after_word-2.ensures c.in_default-after_word-3.ensures c.in_default-after_word-4.ensures c.in_default-after_word-5.ensures c.in_default-after_word-6.ensures c.in_default-after_word-7.ensures c.in_default-after_word-8.ensures c.stream_line.result c.stream_line.ensures

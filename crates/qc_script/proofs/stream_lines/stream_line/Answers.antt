use Rattle.std.proofs.Common.{◌++◌, codes}
use Rattle.qc_script.proofs.LineLemmas.{no_call, read_call, read_call_if}
use Rattle.qc_script.proofs.stream_lines.stream_line.Goals as goal

pub returns-in-Some : goal.returns-in-Some
returns-in-Some c = rw c.in-Some.ensures (read_call (codes "open " ++ c.in-Some.fields.now) c.open_line.result c.open_line.ensures)

pub returns-in-Some-after_word : goal.returns-in-Some-after_word
returns-in-Some-after_word c = rw c.in-Some-after_word.ensures (read_call (codes "accept " ++ c.in-Some-after_word.fields.now) c.accept_line.result c.accept_line.ensures)

pub returns-in-Some-after_word-2 : goal.returns-in-Some-after_word-2
returns-in-Some-after_word-2 c = rw c.in-Some-after_word-2.ensures (read_call_if (codes "write " ++ c.in-Some-after_word-2.fields.now) c.write_line.result c.write_line.ensures)

pub returns-in-Some-after_word-3 : goal.returns-in-Some-after_word-3
returns-in-Some-after_word-3 c = rw c.in-Some-after_word-3.ensures (read_call (codes "finish " ++ c.in-Some-after_word-3.fields.now) c.finish_line.result c.finish_line.ensures)

pub returns-in-Some-after_word-4 : goal.returns-in-Some-after_word-4
returns-in-Some-after_word-4 c = rw c.in-Some-after_word-4.ensures (read_call (codes "reset " ++ c.in-Some-after_word-4.fields.now) c.reset_line.result c.reset_line.ensures)

pub returns-in-Some-after_word-5 : goal.returns-in-Some-after_word-5
returns-in-Some-after_word-5 c = rw c.in-Some-after_word-5.ensures (read_call (codes "stop " ++ c.in-Some-after_word-5.fields.now) c.stop_line.result c.stop_line.ensures)

pub returns-in-Some-after_word-6 : goal.returns-in-Some-after_word-6
returns-in-Some-after_word-6 c = rw c.in-Some-after_word-6.ensures (read_call (codes "read " ++ c.in-Some-after_word-6.fields.now) c.read_line.result c.read_line.ensures)

pub returns-in-Some-after_word-7 : goal.returns-in-Some-after_word-7
returns-in-Some-after_word-7 c = rw c.in-Some-after_word-7.ensures (read_call (codes "streams " ++ c.in-Some-after_word-7.fields.now) c.streams_line.result c.streams_line.ensures)

pub returns-in-Some-after_word-8 : goal.returns-in-Some-after_word-8
returns-in-Some-after_word-8 c = rw c.in-Some-after_word-8.ensures (read_call (codes "sendwindow " ++ c.in-Some-after_word-8.fields.now) c.sendwindow_line.result c.sendwindow_line.ensures)

pub returns-in-Some-after_word-9 : goal.returns-in-Some-after_word-9
returns-in-Some-after_word-9 c = rw c.in-Some-after_word-9.ensures (read_call (codes "recvwindow " ++ c.in-Some-after_word-9.fields.now) c.recvwindow_line.result c.recvwindow_line.ensures)

pub returns-in-None : goal.returns-in-None
returns-in-None c = no_call c.args.text.now c.in_default.ensures c.in_default-after_word.ensures c.in_default-after_word-2.ensures c.in_default-after_word-3.ensures c.in_default-after_word-4.ensures c.in_default-after_word-5.ensures c.in_default-after_word-6.ensures c.in_default-after_word-7.ensures c.in_default-after_word-8.ensures c.in-None.ensures

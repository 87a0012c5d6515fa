use Rattle.std.proofs.Common.{◌++◌, codes}
use Rattle.qc_script.specs.Items.{IsOfKeys}
use Rattle.qc_script.proofs.SettingLemmas.{no_keys, read_of}
use Rattle.qc_script.proofs.set_lines.keys_line.Goals as goal

pub returns-in-Some : goal.returns-in-Some
returns-in-Some c side = rw c.in-Some.ensures (read_of IsOfKeys side (codes "set limit_initial " ++ c.in-Some.digits.now) c.limit_initial_line.result (c.limit_initial_line.ensures side))

pub returns-in-Some-after_word : goal.returns-in-Some-after_word
returns-in-Some-after_word c side = rw c.in-Some-after_word.ensures (read_of IsOfKeys side (codes "set limit_handshake " ++ c.in-Some-after_word.digits.now) c.limit_handshake_line.result (c.limit_handshake_line.ensures side))

pub returns-in-Some-after_word-2 : goal.returns-in-Some-after_word-2
returns-in-Some-after_word-2 c side = rw c.in-Some-after_word-2.ensures (read_of IsOfKeys side (codes "set limit_data " ++ c.in-Some-after_word-2.digits.now) c.limit_data_line.result (c.limit_data_line.ensures side))

pub returns-in-Some-after_word-3 : goal.returns-in-Some-after_word-3
returns-in-Some-after_word-3 c side = rw c.in-Some-after_word-3.ensures (read_of IsOfKeys side (codes "set limit_failures " ++ c.in-Some-after_word-3.digits.now) c.limit_failures_line.result (c.limit_failures_line.ensures side))

pub returns-in-None : goal.returns-in-None
returns-in-None c = no_keys c.args.text.now c.in_default.ensures c.in_default-after_word.ensures c.in_default-after_word-2.ensures c.in-None.ensures

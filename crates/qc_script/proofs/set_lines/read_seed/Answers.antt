use Rattle.std.proofs.Common.{◌∙◌, ap, length}
use Rattle.qc_script.proofs.SettingLemmas.{hex_length}
use Rattle.qc_script.proofs.set_lines.read_seed.Goals as goal

pub returns-then-bytes-ne32 : goal.returns-then-bytes-ne32
returns-then-bytes-ne32 c bytes h e =
    let hex = rw c.in-Some.is at c.in_ok-bytes.ensures in
    c.if-bytes-ne32.true (ap length c.as_slice-bytes.ensures ∙ hex_length c.args.field.now c.in-Some.bytes bytes hex.0 hex.1 h.0 e ∙ h.1)

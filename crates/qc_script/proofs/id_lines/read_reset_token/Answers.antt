use Rattle.std.proofs.Common.{◌∙◌, ap, length}
use Rattle.qc_script.proofs.SettingLemmas.{hex_length}
use Rattle.qc_script.proofs.id_lines.read_reset_token.Goals as goal

pub returns : goal.returns
returns c token h e =
    let hex = rw c.in-Some.is at c.in_ok-bytes.ensures in
    c.if-bytes-eq16.false (ap length c.as_slice-bytes.ensures ∙ hex_length c.args.field.now c.in-Some.bytes token hex.0 hex.1 h.0 e ∙ h.1)

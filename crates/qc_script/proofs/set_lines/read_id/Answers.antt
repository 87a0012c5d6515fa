use Rattle.std.proofs.Common.{◌≡◌, arith, ap, length}
use Rattle.qc_script.proofs.SettingLemmas.{hex_length}
use Rattle.qc_script.proofs.set_lines.read_id.Goals as goal

pub returns : goal.returns
returns c id h e =
    let hex = rw c.in-Some.is at c.in_ok-bytes.ensures in
    let same : length c.in-Some.bytes ≡ length id = hex_length c.args.field.now c.in-Some.bytes id hex.0 hex.1 h.0 e in
    omega (arith, h.1, same, ap length c.as_slice-bytes.ensures, c.if-bytes-le20.false)

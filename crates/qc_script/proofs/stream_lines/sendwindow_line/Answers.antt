use Rattle.std.proofs.Common.{◌^◌, ◌∙◌, arith}
use Rattle.std.specs.Fmt.{decimal}
use Rattle.qc_state.specs.declared.input.Input.TheVariants.{SendWindow}
use Rattle.qc_script.proofs.FieldLemmas.{begins_same}
use Rattle.qc_script.proofs.LineLemmas.{is_next, no_sendwindow, two_read}
use Rattle.qc_script.proofs.stream_lines.sendwindow_line.Goals as goal

pub returns-in_err-now : goal.returns-in_err-now
returns-in_err-now c = rw c.from_residual.ensures (no_sendwindow c.args.fields.now (λ now rest b x within e. c.in_err-now.ensures now rest b))

pub returns-in_err-size : goal.returns-in_err-size
returns-in_err-size c = rw c.from_residual-in_err-size.ensures (no_sendwindow c.args.fields.now (λ now rest b x within e.
    let same = begins_same (2 ^ 64) c.args.fields.now c.in_ok-now.now c.in_ok-now.digits.now now rest (omega arith) c.in_ok-now.ensures b in
    c.in_err-size.ensures x within (same.1 ∙ e)))

pub returns : goal.returns
returns c =
    let fields = two_read c.args.fields.now c.in_ok-now.digits.now (decimal c.in_ok-size.size) c.in_ok-now.now c.in_ok-now.ensures c.in_ok-size.ensures in
    rw c.from_nanos.ensures (is_next c.args.fields.now (SendWindow c.in_ok-now.now c.in_ok-size.size) fields (omega arith, omega arith))

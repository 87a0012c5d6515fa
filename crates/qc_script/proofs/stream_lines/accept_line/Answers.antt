use Rattle.std.proofs.Common.{◌^◌, ◌∙◌, arith}
use Rattle.qc_script.specs.Fields.{dir_text}
use Rattle.qc_state.specs.declared.input.Input.TheVariants.{Accept}
use Rattle.qc_script.proofs.FieldLemmas.{begins_same}
use Rattle.qc_script.proofs.LineLemmas.{is_next, no_accept, two_read}
use Rattle.qc_script.proofs.stream_lines.accept_line.Goals as goal

pub returns-in_err-now : goal.returns-in_err-now
returns-in_err-now c = rw c.from_residual.ensures (no_accept c.args.fields.now (λ now rest b x e. c.in_err-now.ensures now rest b))

pub returns-in_err-dir : goal.returns-in_err-dir
returns-in_err-dir c = rw c.from_residual-in_err-dir.ensures (no_accept c.args.fields.now (λ now rest b x e.
    let same = begins_same (2 ^ 64) c.args.fields.now c.in_ok-now.now c.in_ok-now.field.now now rest (omega arith) c.in_ok-now.ensures b in
    c.in_err-dir.ensures x (same.1 ∙ e)))

pub returns : goal.returns
returns c =
    let fields = two_read c.args.fields.now c.in_ok-now.field.now (dir_text c.in_ok-dir.dir) c.in_ok-now.now c.in_ok-now.ensures c.in_ok-dir.ensures in
    rw c.from_nanos.ensures (is_next c.args.fields.now (Accept c.in_ok-now.now c.in_ok-dir.dir) fields (omega arith))

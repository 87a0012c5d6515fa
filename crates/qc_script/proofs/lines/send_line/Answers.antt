use Rattle.std.proofs.Common.{◌^◌, ◌∙◌, arith}
use Rattle.qc_state.specs.declared.input.Input.TheVariants.{SendDatagram}
use Rattle.qc_script.specs.Fields.{hex_field}
use Rattle.qc_script.proofs.FieldLemmas.{begins_same}
use Rattle.qc_script.proofs.LineLemmas.{is_next, no_send, two_read}
use Rattle.qc_script.proofs.lines.send_line.Goals as goal

pub returns-in_default : goal.returns-in_default
returns-in_default c = no_send c.args.fields.now (λ now rest b body within e. c.in_default.ensures now rest b)

pub returns-in_default-2 : goal.returns-in_default-2
returns-in_default-2 c = no_send c.args.fields.now (λ now rest b body within e.
    let same = begins_same (2 ^ 64) c.args.fields.now c.in-Some.now c.in-Some.body.now now rest (omega arith) c.in-Some.ensures b in
    (rw c.in_default-2.is at c.in_ok-body.ensures) body within (same.1 ∙ e))

pub returns : goal.returns
returns c =
    let hex = rw c.in-Some-2.is at c.in_ok-body.ensures in
    let fields = two_read c.args.fields.now c.in-Some.body.now (hex_field c.in-Some-2.body) c.in-Some.now c.in-Some.ensures hex.0 in
    rw c.from_nanos.ensures (is_next c.args.fields.now (SendDatagram c.in-Some.now c.in-Some-2.body) fields (omega arith, hex.1))

use Rattle.std.proofs.Common.{◌^◌, ◌∙◌, arith}
use Rattle.std.specs.Fmt.{decimal}
use Rattle.qc_state.specs.declared.input.Input.TheVariants.{StopRecv}
use Rattle.qc_script.proofs.FieldLemmas.{begins_at, begins_no_number, begins_no_split, begins_read, begins_same}
use Rattle.qc_script.proofs.LineLemmas.{is_next, no_stop, three_read}
use Rattle.qc_script.proofs.stream_lines.stop_line.Goals as goal

pub returns-in_err-now : goal.returns-in_err-now
returns-in_err-now c = rw c.from_residual.ensures (no_stop c.args.fields.now (λ now rest b id more f x within e. c.in_err-now.ensures now rest b))

pub returns-in_err-digits : goal.returns-in_err-digits
returns-in_err-digits c = rw c.from_residual-in_err-digits.ensures (no_stop c.args.fields.now (λ now rest b id more f x within e.
    let same = begins_same (2 ^ 64) c.args.fields.now c.in_ok-now.now c.in_ok-now.rest.now now rest (omega arith) c.in_ok-now.ensures b in
    begins_no_split (2 ^ 62) c.in_ok-now.rest.now c.in_err-digits.ensures id more (begins_at same.1 f)))

pub returns-in_err-id : goal.returns-in_err-id
returns-in_err-id c = rw c.from_residual-in_err-id.ensures (no_stop c.args.fields.now (λ now rest b id more f x within e.
    let same = begins_same (2 ^ 64) c.args.fields.now c.in_ok-now.now c.in_ok-now.rest.now now rest (omega arith) c.in_ok-now.ensures b in
    begins_no_number (2 ^ 62) c.in_ok-now.rest.now c.in_ok-digits.digits.now c.in_ok-digits.code.now (omega arith) c.in_ok-digits.ensures.0 c.in_ok-digits.ensures.1 c.in_err-id.ensures id more (begins_at same.1 f)))

pub returns-in_err-code : goal.returns-in_err-code
returns-in_err-code c = rw c.from_residual-in_err-code.ensures (no_stop c.args.fields.now (λ now rest b id more f x within e.
    let same = begins_same (2 ^ 64) c.args.fields.now c.in_ok-now.now c.in_ok-now.rest.now now rest (omega arith) c.in_ok-now.ensures b in
    let first = begins_read (2 ^ 62) c.in_ok-now.rest.now c.in_ok-digits.digits.now c.in_ok-digits.code.now c.in_ok-id.id c.in_ok-digits.ensures.0 c.in_ok-id.ensures (omega arith) in
    let second = begins_same (2 ^ 62) c.in_ok-now.rest.now c.in_ok-id.id c.in_ok-digits.code.now id more (omega arith) first (begins_at same.1 f) in
    c.in_err-code.ensures x within (second.1 ∙ e)))

pub returns : goal.returns
returns c =
    let first = begins_read (2 ^ 62) c.in_ok-now.rest.now c.in_ok-digits.digits.now c.in_ok-digits.code.now c.in_ok-id.id c.in_ok-digits.ensures.0 c.in_ok-id.ensures (omega arith) in
    let fields = three_read c.args.fields.now c.in_ok-now.rest.now (decimal c.in_ok-id.id) c.in_ok-digits.code.now (decimal c.in_ok-code.code) c.in_ok-now.now c.in_ok-now.ensures first.spelled c.in_ok-code.ensures in
    rw (c.from_nanos.ensures, c.from.ensures) (is_next c.args.fields.now (StopRecv c.in_ok-now.now c.in_ok-id.id c.in_ok-code.code) fields (omega arith, omega arith, omega arith))

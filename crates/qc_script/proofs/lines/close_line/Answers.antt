use Rattle.std.proofs.Common.{◌^◌, ◌∙◌, arith}
use Rattle.std.specs.Fmt.{decimal}
use Rattle.qc_state.specs.declared.input.Input.TheVariants.{Close}
use Rattle.qc_script.specs.Fields.{hex_field}
use Rattle.qc_script.proofs.FieldLemmas.{begins_at, begins_no_number, begins_no_split, begins_read, begins_same}
use Rattle.qc_script.proofs.LineLemmas.{is_next, no_close, three_read}
use Rattle.qc_script.proofs.lines.close_line.Goals as goal

pub returns-in_default : goal.returns-in_default
returns-in_default c = no_close c.args.fields.now (λ now rest b code more f reason within e. c.in_default.ensures now rest b)

pub returns-in_default-split_at_byte : goal.returns-in_default-split_at_byte
returns-in_default-split_at_byte c = no_close c.args.fields.now (λ now rest b code more f reason within e.
    let same = begins_same (2 ^ 64) c.args.fields.now c.in-Some.now c.in-Some.rest.now now rest (omega arith) c.in-Some.ensures b in
    begins_no_split (2 ^ 62) c.in-Some.rest.now c.in_default-split_at_byte.ensures code more (begins_at same.1 f))

pub returns-in_default-read_code : goal.returns-in_default-read_code
returns-in_default-read_code c = no_close c.args.fields.now (λ now rest b code more f reason within e.
    let same = begins_same (2 ^ 64) c.args.fields.now c.in-Some.now c.in-Some.rest.now now rest (omega arith) c.in-Some.ensures b in
    begins_no_number (2 ^ 62) c.in-Some.rest.now c.in-Some-split_at_byte.digits.now c.in-Some-split_at_byte.reason.now (omega arith) c.in-Some-split_at_byte.ensures.0 c.in-Some-split_at_byte.ensures.1 c.in_default-read_code.ensures code more (begins_at same.1 f))

pub returns-in_default-2 : goal.returns-in_default-2
returns-in_default-2 c = no_close c.args.fields.now (λ now rest b code more f reason within e.
    let same = begins_same (2 ^ 64) c.args.fields.now c.in-Some.now c.in-Some.rest.now now rest (omega arith) c.in-Some.ensures b in
    let first = begins_read (2 ^ 62) c.in-Some.rest.now c.in-Some-split_at_byte.digits.now c.in-Some-split_at_byte.reason.now c.in-Some-read_code.code c.in-Some-split_at_byte.ensures.0 c.in-Some-read_code.ensures (omega arith) in
    let second = begins_same (2 ^ 62) c.in-Some.rest.now c.in-Some-read_code.code c.in-Some-split_at_byte.reason.now code more (omega arith) first (begins_at same.1 f) in
    (rw c.in_default-2.is at c.in_ok-reason.ensures) reason within (second.1 ∙ e))

pub returns : goal.returns
returns c =
    let hex = rw c.in-Some-2.is at c.in_ok-reason.ensures in
    let first = begins_read (2 ^ 62) c.in-Some.rest.now c.in-Some-split_at_byte.digits.now c.in-Some-split_at_byte.reason.now c.in-Some-read_code.code c.in-Some-split_at_byte.ensures.0 c.in-Some-read_code.ensures (omega arith) in
    let fields = three_read c.args.fields.now c.in-Some.rest.now (decimal c.in-Some-read_code.code) c.in-Some-split_at_byte.reason.now (hex_field c.in-Some-2.reason) c.in-Some.now c.in-Some.ensures first.spelled hex.0 in
    rw c.from_nanos.ensures (is_next c.args.fields.now (Close c.in-Some.now c.in-Some-read_code.code c.in-Some-2.reason) fields (omega arith, omega arith, hex.1))

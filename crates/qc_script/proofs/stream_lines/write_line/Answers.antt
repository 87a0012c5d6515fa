use Rattle.std.proofs.Common.{◌^◌, ◌∙◌, arith}
use Rattle.std.specs.Fmt.{decimal}
use Rattle.qc_state.specs.declared.input.Input.TheVariants.{Write}
use Rattle.qc_script.specs.Fields.{hex_field}
use Rattle.qc_script.proofs.FieldLemmas.{begins_at, begins_no_number, begins_no_split, begins_read, begins_same}
use Rattle.qc_script.proofs.LineLemmas.{is_next, no_write, three_read}
use Rattle.qc_script.proofs.stream_lines.write_line.Goals as goal

pub returns-in_default : goal.returns-in_default
returns-in_default c = no_write c.args.fields.now (λ now rest b id more f body within e. c.in_default.ensures now rest b)

pub returns-in_default-split_at_byte : goal.returns-in_default-split_at_byte
returns-in_default-split_at_byte c = no_write c.args.fields.now (λ now rest b id more f body within e.
    let same = begins_same (2 ^ 64) c.args.fields.now c.in-Some.now c.in-Some.rest.now now rest (omega arith) c.in-Some.ensures b in
    begins_no_split (2 ^ 62) c.in-Some.rest.now c.in_default-split_at_byte.ensures id more (begins_at same.1 f))

pub returns-in_default-read_code : goal.returns-in_default-read_code
returns-in_default-read_code c = no_write c.args.fields.now (λ now rest b id more f body within e.
    let same = begins_same (2 ^ 64) c.args.fields.now c.in-Some.now c.in-Some.rest.now now rest (omega arith) c.in-Some.ensures b in
    begins_no_number (2 ^ 62) c.in-Some.rest.now c.in-Some-split_at_byte.digits.now c.in-Some-split_at_byte.body.now (omega arith) c.in-Some-split_at_byte.ensures.0 c.in-Some-split_at_byte.ensures.1 c.in_default-read_code.ensures id more (begins_at same.1 f))

pub returns-in_default-2 : goal.returns-in_default-2
returns-in_default-2 c = no_write c.args.fields.now (λ now rest b id more f body within e.
    let same = begins_same (2 ^ 64) c.args.fields.now c.in-Some.now c.in-Some.rest.now now rest (omega arith) c.in-Some.ensures b in
    let first = begins_read (2 ^ 62) c.in-Some.rest.now c.in-Some-split_at_byte.digits.now c.in-Some-split_at_byte.body.now c.in-Some-read_code.id c.in-Some-split_at_byte.ensures.0 c.in-Some-read_code.ensures (omega arith) in
    let second = begins_same (2 ^ 62) c.in-Some.rest.now c.in-Some-read_code.id c.in-Some-split_at_byte.body.now id more (omega arith) first (begins_at same.1 f) in
    (rw c.in_default-2.is at c.in_ok-body.ensures) body within (second.1 ∙ e))

pub returns : goal.returns
returns c =
    let hex = rw c.in-Some-2.is at c.in_ok-body.ensures in
    let first = begins_read (2 ^ 62) c.in-Some.rest.now c.in-Some-split_at_byte.digits.now c.in-Some-split_at_byte.body.now c.in-Some-read_code.id c.in-Some-split_at_byte.ensures.0 c.in-Some-read_code.ensures (omega arith) in
    let fields = three_read c.args.fields.now c.in-Some.rest.now (decimal c.in-Some-read_code.id) c.in-Some-split_at_byte.body.now (hex_field c.in-Some-2.body) c.in-Some.now c.in-Some.ensures first.spelled hex.0 in
    rw (c.from_nanos.ensures, c.from.ensures) (is_next c.args.fields.now (Write c.in-Some.now c.in-Some-read_code.id c.in-Some-2.body) fields (omega arith, omega arith, hex.1))

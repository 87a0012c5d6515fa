use Rattle.std.proofs.Common.{◌^◌, arith}
use Rattle.qc_script.proofs.FieldLemmas.{begins_no_split, begins_no_number, begins_read}
use Rattle.qc_script.proofs.fields.first_number.Goals as goal

pub returns-in_err-digits : goal.returns-in_err-digits
returns-in_err-digits c = rw c.from_residual.ensures (begins_no_split (2 ^ 64) c.args.text.now c.in_err-digits.ensures)

pub returns-in_err-number : goal.returns-in_err-number
returns-in_err-number c = rw c.from_residual-in_err-number.ensures
    (begins_no_number (2 ^ 64) c.args.text.now c.in_ok-digits.digits.now c.in_ok-digits.rest.now (omega arith) c.in_ok-digits.ensures.0 c.in_ok-digits.ensures.1 c.in_err-number.ensures)

pub returns : goal.returns
returns c = begins_read (2 ^ 64) c.args.text.now c.in_ok-digits.digits.now c.in_ok-digits.rest.now c.in_ok-number.number c.in_ok-digits.ensures.0 c.in_ok-number.ensures (omega arith)

use Rattle.std.proofs.Common.{arith}
use Rattle.qc_script.proofs.IdLemmas.{issued_all, issued_no_colon, issued_one_colon, issued_read, issued_split}
use Rattle.qc_script.proofs.id_lines.read_issued.Goals as goal

pub returns-in_default : goal.returns-in_default
returns-in_default c = issued_no_colon c.args.field.now c.in_default.ensures

pub returns-in_default-read_number : goal.returns-in_default-read_number
returns-in_default-read_number c = λ i h e.
    let parts = issued_split c.args.field.now c.in-Some.digits.now c.in-Some.rest.now i c.in-Some.ensures.0 c.in-Some.ensures.1 h e in
    c.in_default-read_number.ensures _ h.sequence parts.0

pub returns-in_default-split_at_byte : goal.returns-in_default-split_at_byte
returns-in_default-split_at_byte c = issued_one_colon c.args.field.now c.in-Some.digits.now c.in-Some.rest.now c.in-Some.ensures.0 c.in-Some.ensures.1 c.in_default-split_at_byte.ensures

pub returns-in_default-2 : goal.returns-in_default-2
returns-in_default-2 c = λ i h e.
    let parts = issued_all c.args.field.now c.in-Some.digits.now c.in-Some.rest.now c.in-Some-split_at_byte.id.now c.in-Some-split_at_byte.token.now i c.in-Some.ensures.0 c.in-Some.ensures.1 c.in-Some-split_at_byte.ensures.0 c.in-Some-split_at_byte.ensures.1 h e in
    (rw c.in_default-2.is at c.in_ok-id.ensures) _ h.id parts.1

pub returns-in_default-3 : goal.returns-in_default-3
returns-in_default-3 c = λ i h e.
    let parts = issued_all c.args.field.now c.in-Some.digits.now c.in-Some.rest.now c.in-Some-split_at_byte.id.now c.in-Some-split_at_byte.token.now i c.in-Some.ensures.0 c.in-Some.ensures.1 c.in-Some-split_at_byte.ensures.0 c.in-Some-split_at_byte.ensures.1 h e in
    (rw c.in_default-3.is at c.in_ok-reset_token.ensures) _ h.reset_token parts.2

pub returns : goal.returns
returns c =
    let id = rw c.in-Some-2.is at c.in_ok-id.ensures in
    let token = rw c.in-Some-3.is at c.in_ok-reset_token.ensures in (
      issued_read c.args.field.now c.in-Some.digits.now c.in-Some.rest.now c.in-Some-split_at_byte.id.now c.in-Some-split_at_byte.token.now _ c.in-Some.ensures.0 c.in-Some-split_at_byte.ensures.0 c.in-Some-read_number.ensures id.0 token.0,
      record { sequence = omega arith; id = id.1; reset_token = token.1 },
    )

use Rattle.qc_script.proofs.FieldLemmas.{fields_read, no_first, no_second, no_third}
use Rattle.qc_script.proofs.fields.four_fields.Goals as goal

pub returns-in_err-first : goal.returns-in_err-first
returns-in_err-first c = rw c.from_residual.ensures (no_first c.args.text.now c.in_err-first.ensures)

pub returns-in_err-second : goal.returns-in_err-second
returns-in_err-second c = rw c.from_residual-in_err-second.ensures (no_second c.args.text.now c.in_ok-first.first.now c.in_ok-first.rest.now c.in_ok-first.ensures.0 c.in_ok-first.ensures.1 c.in_err-second.ensures)

pub returns-in_err-third : goal.returns-in_err-third
returns-in_err-third c = rw c.from_residual-in_err-third.ensures (no_third c.args.text.now c.in_ok-first.first.now c.in_ok-second.second.now c.in_ok-first.rest.now c.in_ok-second.rest.now
    c.in_ok-first.ensures.0 c.in_ok-first.ensures.1 c.in_ok-second.ensures.0 c.in_ok-second.ensures.1 c.in_err-third.ensures)

pub returns : goal.returns
returns c = fields_read c.args.text.now c.in_ok-first.first.now c.in_ok-second.second.now c.in_ok-third.third.now c.in_ok-third.last.now c.in_ok-first.rest.now c.in_ok-second.rest.now
    c.in_ok-first.ensures.0 c.in_ok-first.ensures.1 c.in_ok-second.ensures.0 c.in_ok-second.ensures.1 c.in_ok-third.ensures.0 c.in_ok-third.ensures.1

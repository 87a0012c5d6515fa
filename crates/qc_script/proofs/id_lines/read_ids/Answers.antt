use Rattle.std.proofs.Common.{◌∙◌}
use Rattle.qc_script.proofs.IdLemmas.{all_read, bad_field, bad_last, more_read, none_read}
use Rattle.qc_script.proofs.id_lines.read_ids.Goals as goal

pub loop-field-init : goal.loop-field-init
loop-field-init c = none_read c.args.fields.now c.new-ids.result.items c.new-ids.ensures.items

pub returns-in_default-2 : goal.returns-in_default-2
returns-in_default-2 c = bad_field c.args.fields.now c.loop-field.ids.items c.loop-field.rest.now c.in-Some.field.now c.in-Some.others.now c.loop-field.invariant c.in-Some.ensures.0 c.in-Some.ensures.1 (rw c.in_default-2.is at c.in_ok-issued.ensures)

pub loop-field-preserved : goal.loop-field-preserved
loop-field-preserved c =
    let read = rw c.in-Some-2.is at c.in_ok-issued.ensures in
    rw c.in_ok-push.ensures.items (more_read c.args.fields.now c.loop-field.ids.items c.loop-field.rest.now c.in-Some.field.now c.in-Some.others.now c.in-Some-2.issued c.loop-field.invariant c.in-Some.ensures.0 c.in-Some.ensures.1 read.0 read.1)

pub returns-in_default-3 : goal.returns-in_default-3
returns-in_default-3 c = bad_last c.args.fields.now c.loop-field.ids.items c.loop-field.rest.now c.loop-field.invariant c.in_default.ensures (rw c.in_default-3.is at c.in_ok-last.ensures)

pub returns : goal.returns
returns c =
    let read = rw c.in-Some-3.is at c.in_ok-last.ensures in
    all_read c.args.fields.now c.loop-field.ids.items c.loop-field.rest.now c.in-Some-3.last c.in_ok-ids.ids c.loop-field.invariant read.0 read.1 (c.in_ok-ids.ensures ∙ c.as_slice.ensures.value ∙ c.in_ok-push-2.ensures.items)

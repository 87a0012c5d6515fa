use Rattle.std.proofs.Common.{◌≡◌, ◌<◌, [], length, arith}
use Rattle.std.proofs.lemmas.Bool.Decides.{nat_tests}
use Rattle.std.proofs.lemmas.Grind.{common_steps}
use Rattle.qc_script.specs.Script.{lines_of}
use Rattle.qc_script.proofs.ScriptLemmas.{read_start, read_more, read_whole, bad_text, bad_end, read_no_start, script_same, script_or_bad}
use Rattle.qc_script.proofs.script.read_script.Goals as goal

-- the first line names no side
pub returns-in_default-clause-refusal : goal.returns-in_default-clause-refusal
returns-in_default-clause-refusal c = read_no_start c.args.bytes.now c.in_default.ensures

pub returns-in_default-clause-only : goal.returns-in_default-clause-only
returns-in_default-clause-only c = script_or_bad (lines_of c.args.bytes.now) 1 (read_no_start c.args.bytes.now c.in_default.ensures)

pub loop-rest-init : goal.loop-rest-init
loop-rest-init c = read_start c.args.bytes.now c.in-Some.side c.in-Some.rest.now c.new.result c.new-2.result.items c.in-Some.ensures c.new.ensures c.new-2.ensures.items

-- the last line has no end
pub returns-in_default-split_at_byte-clause-refusal : goal.returns-in_default-split_at_byte-clause-refusal
returns-in_default-split_at_byte-clause-refusal c =
    let some : 0 < length c.loop-rest.rest.now = grind (arith, nat_tests) in
    bad_end c.args.bytes.now c.in-Some.side c.loop-rest.script.settings c.loop-rest.script.inputs.items c.loop-rest.place c.loop-rest.count c.loop-rest.rest.now c.loop-rest.invariant some c.in_default-split_at_byte.ensures

pub returns-in_default-split_at_byte-clause-only : goal.returns-in_default-split_at_byte-clause-only
returns-in_default-split_at_byte-clause-only c =
    let some : 0 < length c.loop-rest.rest.now = grind (arith, nat_tests) in
    script_or_bad (lines_of c.args.bytes.now) _
    (bad_end c.args.bytes.now c.in-Some.side c.loop-rest.script.settings c.loop-rest.script.inputs.items c.loop-rest.place c.loop-rest.count c.loop-rest.rest.now c.loop-rest.invariant some c.in_default-split_at_byte.ensures)

-- a line may not stand there
pub returns-in_default-2-clause-refusal : goal.returns-in_default-2-clause-refusal
returns-in_default-2-clause-refusal c =
    bad_text c.args.bytes.now c.in-Some.side c.loop-rest.script.settings c.loop-rest.script.inputs.items c.loop-rest.place c.loop-rest.count c.loop-rest.rest.now c.in-Some-split_at_byte.text.now c.in-Some-split_at_byte.others.now c.loop-rest.invariant
    c.in-Some-split_at_byte.ensures.0 c.in-Some-split_at_byte.ensures.1 (rw c.in_default-2.is at c.in_ok-item.ensures)

pub returns-in_default-2-clause-only : goal.returns-in_default-2-clause-only
returns-in_default-2-clause-only c =
    script_or_bad (lines_of c.args.bytes.now) _
    (bad_text c.args.bytes.now c.in-Some.side c.loop-rest.script.settings c.loop-rest.script.inputs.items c.loop-rest.place c.loop-rest.count c.loop-rest.rest.now c.in-Some-split_at_byte.text.now c.in-Some-split_at_byte.others.now c.loop-rest.invariant
    c.in-Some-split_at_byte.ensures.0 c.in-Some-split_at_byte.ensures.1 (rw c.in_default-2.is at c.in_ok-item.ensures))

pub loop-rest-preserved : goal.loop-rest-preserved
loop-rest-preserved c =
    rw (c.in_ok-take.ensures.settings, c.in_ok-take.ensures.inputs, c.place-place.ensures)
    (read_more c.args.bytes.now c.in-Some.side c.loop-rest.script.settings c.loop-rest.script.inputs.items c.loop-rest.place c.loop-rest.count c.loop-rest.rest.now c.in-Some-split_at_byte.text.now c.in-Some-split_at_byte.others.now c.in-Some-2.item
    c.loop-rest.invariant c.in-Some-split_at_byte.ensures.0 c.in-Some-split_at_byte.ensures.1 (rw c.in-Some-2.is at c.in_ok-item.ensures))

pub returns-clause-script : goal.returns-clause-script
returns-clause-script c =
    let none : c.loop-rest.rest.now ≡ [] = grind (arith, nat_tests, common_steps) in
    read_whole c.args.bytes.now c.in-Some.side c.loop-rest.script.settings c.loop-rest.script.inputs.items c.loop-rest.place c.loop-rest.count c.loop-rest.rest.now c.loop-rest.invariant none

pub returns-clause-only : goal.returns-clause-only
returns-clause-only c settings inputs script =
    let none : c.loop-rest.rest.now ≡ [] = grind (arith, nat_tests, common_steps) in
    script_same (lines_of c.args.bytes.now) c.loop-rest.script.settings settings c.loop-rest.script.inputs.items inputs
    (read_whole c.args.bytes.now c.in-Some.side c.loop-rest.script.settings c.loop-rest.script.inputs.items c.loop-rest.place c.loop-rest.count c.loop-rest.rest.now c.loop-rest.invariant none) script

use Rattle.std.proofs.Common.{◌≡◌, ◌*◌, take}
use Rattle.qc_script.specs.Fields.{Lacks}
use Rattle.qc_script.proofs.fields.count_before.Given as goal

abbrev pub invariant-loop-chunk : goal.invariant-loop-chunk
invariant-loop-chunk l = record {
  counted : l.count ≡ 16 * l.chunk-index;
  lacks : Lacks l.byte (take l.count l.text);
}

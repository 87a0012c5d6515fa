use Rattle.std.proofs.Common.{◌≡◌, ◌++◌, drop}
use Rattle.std.specs.List.{concat}
use Rattle.qc_assembler.proofs.chain.put_all.Given as goal

-- what was put, and the bytes of the parts that are left, are the bytes of all
abbrev pub invariant-loop-part : goal.invariant-loop-part
invariant-loop-part l = l.out.items ++ concat (drop l.part-index l.parts) ≡ l.fn.out.items ++ concat l.parts

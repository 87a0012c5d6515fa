use Rattle.std.proofs.Common.{◌≡◌, ◌++◌}
use Rattle.std.specs.Slice.Iter.{chunks_rest, chunks_size}
use Rattle.hex.specs.Hex.{encode_lower}
use Rattle.qc_text.proofs.digits.put_hex.Given as goal

-- what was written, and the text of the bytes that are left, are the text of all
abbrev pub invariant-parts : goal.invariant-parts
invariant-parts l =
    goal.iterator-parts.can_next l.part-iterator
    × goal.iterator-parts.is_finite l.part-iterator
    × (chunks_size l.part-iterator ≡ 512)
    × (l.out.items ++ encode_lower (chunks_rest l.part-iterator) ≡ l.initial.out.items ++ encode_lower l.fn.bytes)

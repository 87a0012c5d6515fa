use Rattle.std.proofs.Common.{◌<◌, ◌/◌, arith, length, List, ℕ, [], get_or, subst}
use Rattle.qc_script.specs.Fields.{Lacks}
use Rattle.qc_script.proofs.NumberLemmas.{lacks_chunk}
use Rattle.qc_script.proofs.fields.count_before.Goals as goal

pub loop-chunk-preserved : goal.loop-chunk-preserved
loop-chunk-preserved c =
    let inside : c.loop-chunk.chunk-index < length c.args.text.now / 16 = omega (arith, c.as_chunks.ensures.front_len) in
    let chunk = subst (λ (chunks : List (List ℕ)). Lacks c.args.byte (get_or chunks c.loop-chunk.chunk-index [])) c.as_chunks.ensures.front c.if-has_byte.ensures in record {
      counted = omega arith;
      lacks = lacks_chunk c.args.byte c.loop-chunk.chunk-index c.loop-chunk.count (length c.args.text.now / 16) c.args.text.now inside c.loop-chunk.invariant.counted c.loop-chunk.invariant.lacks chunk;
    }

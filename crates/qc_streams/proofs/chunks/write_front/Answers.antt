use Rattle.std.proofs.Common.{◌∙◌, ◌≡◌, ◌-◌, ◌<◌, length, ap, sym, arith, refl}
use Rattle.qc_streams.specs.Chunks.{cut_front, whole_in}
use Rattle.qc_streams.proofs.Fronts.{all_taken, before_all, before_end, chunks_next, count_next, cut_at, fits_next, part_next, rest_in, rest_same, same_length, there_in, whole_all, whole_at, written_count, written_in, written_next, written_same, wrote_none}
use Rattle.qc_streams.proofs.chunks.write_front.Goals as goal

pub loop-at-init : goal.loop-at-init
loop-at-init c = record { within = omega arith; count = refl; spared = omega arith; chunks = refl; written = wrote_none c.args.buffer.now }

pub write_front-requires-clause-fits : goal.write_front-requires-clause-fits
write_front-requires-clause-fits c =
    omega (
      arith,
      c.requires,
      c.min-count.ensures,
      c.loop-at.invariant.spared,
      c.loop-at.invariant.count,
      written_count _
          c.loop-at.buffer c.args.buffer.now c.loop-at.invariant.written,
    )

pub returns-in-Err-clause-written : goal.returns-in-Err-clause-written
returns-in-Err-clause-written c =
    written_same c.args.chunks.now c.loop-at.at c.loop-at.bytes c.loop-at.buffer c.write_front.new.self c.args.buffer.now
    c.loop-at.invariant.count
    c.loop-at.invariant.written c.in-Err.ensures.err

pub returns-in-Err-clause-rest : goal.returns-in-Err-clause-rest
returns-in-Err-clause-rest c =
    rest_same c.args.chunks.now c.loop-at.chunks c.loop-at.at c.loop-at.bytes c.write_front.new.chunk
    c.index-chunks-at-in-loop-at.result (omega (
      arith,
      c.loop-at-test.true,
      same_length c.args.chunks.now c.loop-at.chunks
          c.loop-at.at c.loop-at.invariant.within c.loop-at.invariant.chunks,
    ))
    c.loop-at.invariant.chunks c.loop-at.invariant.count c.in-Err.ensures.kept

pub returns-in-Err-clause-there : goal.returns-in-Err-clause-there
returns-in-Err-clause-there c = omega (arith, c.loop-at.invariant.count, before_all c.args.chunks.now c.loop-at.at)

pub loop-at-preserved : goal.loop-at-preserved
loop-at-preserved c =
    let more : c.loop-at.at < length c.args.chunks.now =
    omega (
      arith,
      c.loop-at-test.true,
      same_length c.args.chunks.now c.loop-at.chunks c.loop-at.at c.loop-at.invariant.within
          c.loop-at.invariant.chunks,
    ) in
    let all = (all_taken c.loop-at.chunks c.loop-at.at c.len-len.result c.min-count.result (c.args.most - c.loop-at.bytes)
    c.index-chunks-at.result c.index-chunks-at-in-loop-at.result c.loop-at-test.true c.len-len.ensures.value c.min-count.ensures
    (omega (arith, c.if-count-len.false))) in
    record {
      within = omega (arith, more);
      count = count_next c.args.chunks.now c.loop-at.chunks c.loop-at.at c.loop-at.bytes c.min-count.result
          c.index-chunks-at-in-loop-at.result more c.loop-at.invariant.chunks c.loop-at.invariant.count all;
      spared = omega (arith, c.min-count.ensures, c.loop-at.invariant.spared);
      chunks = chunks_next c.args.chunks.now c.loop-at.chunks c.loop-at.at c.min-count.result c.write_front.new.chunk
          c.index-chunks-at-in-loop-at.result more c.loop-at.invariant.chunks all c.in-Ok.ensures.rest;
      written = written_next c.args.chunks.now c.loop-at.chunks c.loop-at.at c.min-count.result c.index-chunks-at-in-loop-at.result
          c.loop-at.buffer c.write_front.new.self c.args.buffer.now more c.loop-at.invariant.chunks all c.loop-at.invariant.written
          c.in-Ok.ensures.written;
    }

pub returns-after-loop-at-clause-rest : goal.returns-after-loop-at-clause-rest
returns-after-loop-at-clause-rest c =
    c.loop-at.invariant.chunks ∙ sym (cut_at c.args.chunks.now c.loop-at.at) ∙ ap (λ n. cut_front n c.args.chunks.now) (sym
    c.loop-at.invariant.count)

pub returns-after-loop-at-clause-whole : goal.returns-after-loop-at-clause-whole
returns-after-loop-at-clause-whole c lacked =
    let same = same_length c.args.chunks.now c.loop-at.chunks c.loop-at.at c.loop-at.invariant.within c.loop-at.invariant.chunks in
    let end : c.loop-at.at ≡ length c.args.chunks.now = omega (arith, c.loop-at-test.false, same, c.loop-at.invariant.within) in
    end ∙ sym (whole_all c.args.chunks.now)
    ∙ ap (λ n. whole_in n c.args.chunks.now) (sym (c.loop-at.invariant.count ∙ before_end c.args.chunks.now c.loop-at.at (omega (
      arith,
      end,
    ))))

pub returns-then-count-len-clause-written : goal.returns-then-count-len-clause-written
returns-then-count-len-clause-written c =
    written_in c.args.chunks.now c.loop-at.chunks c.loop-at.at c.loop-at.bytes c.min-count.result c.index-chunks-at-in-loop-at.result
    c.loop-at.buffer c.write_front.new.self c.args.buffer.now (omega (
      arith,
      c.loop-at-test.true,
      same_length c.args.chunks.now
          c.loop-at.chunks c.loop-at.at c.loop-at.invariant.within c.loop-at.invariant.chunks,
    )) c.loop-at.invariant.chunks
    c.loop-at.invariant.count (fits_next c.loop-at.chunks c.loop-at.at c.len-len.result c.min-count.result (c.args.most -
    c.loop-at.bytes) c.index-chunks-at.result c.index-chunks-at-in-loop-at.result c.loop-at-test.true c.len-len.ensures.value
    c.min-count.ensures)
    c.loop-at.invariant.written c.in-Ok.ensures.written

pub returns-then-count-len-clause-rest : goal.returns-then-count-len-clause-rest
returns-then-count-len-clause-rest c =
    rest_in c.args.chunks.now c.loop-at.chunks c.loop-at.at c.loop-at.bytes c.min-count.result c.write_front.new.chunk
    c.index-chunks-at-in-loop-at.result (omega (
      arith,
      c.loop-at-test.true,
      same_length c.args.chunks.now c.loop-at.chunks
          c.loop-at.at c.loop-at.invariant.within c.loop-at.invariant.chunks,
    )) c.loop-at.invariant.chunks c.loop-at.invariant.count
    (fits_next c.loop-at.chunks c.loop-at.at c.len-len.result c.min-count.result (c.args.most - c.loop-at.bytes)
    c.index-chunks-at.result c.index-chunks-at-in-loop-at.result c.loop-at-test.true c.len-len.ensures.value c.min-count.ensures)
    c.in-Ok.ensures.rest

pub returns-then-count-len-clause-there : goal.returns-then-count-len-clause-there
returns-then-count-len-clause-there c = there_in c.args.chunks.now c.loop-at.chunks c.loop-at.at c.loop-at.bytes c.min-count.result
    c.index-chunks-at-in-loop-at.result (omega (
      arith,
      c.loop-at-test.true,
      same_length c.args.chunks.now c.loop-at.chunks c.loop-at.at
          c.loop-at.invariant.within c.loop-at.invariant.chunks,
    )) c.loop-at.invariant.chunks c.loop-at.invariant.count (fits_next
    c.loop-at.chunks c.loop-at.at c.len-len.result c.min-count.result (c.args.most - c.loop-at.bytes) c.index-chunks-at.result
    c.index-chunks-at-in-loop-at.result c.loop-at-test.true c.len-len.ensures.value c.min-count.ensures)

pub returns-then-count-len-clause-count : goal.returns-then-count-len-clause-count
returns-then-count-len-clause-count c lacked =
    omega (
      arith,
      c.min-count.ensures,
      c.if-count-len.true,
      c.loop-at.invariant.spared,
      there_in c.args.chunks.now c.loop-at.chunks c.loop-at.at c.loop-at.bytes c.min-count.result c.index-chunks-at-in-loop-at.result
          (omega (
            arith,
            c.loop-at-test.true,
            same_length c.args.chunks.now c.loop-at.chunks c.loop-at.at c.loop-at.invariant.within
                c.loop-at.invariant.chunks,
          )) c.loop-at.invariant.chunks c.loop-at.invariant.count (fits_next c.loop-at.chunks c.loop-at.at
          c.len-len.result c.min-count.result (c.args.most - c.loop-at.bytes) c.index-chunks-at.result
          c.index-chunks-at-in-loop-at.result c.loop-at-test.true c.len-len.ensures.value c.min-count.ensures),
    )

pub returns-then-count-len-clause-whole : goal.returns-then-count-len-clause-whole
returns-then-count-len-clause-whole c lacked =
    whole_at c.args.chunks.now c.loop-at.chunks c.loop-at.at c.loop-at.bytes c.min-count.result c.index-chunks-at-in-loop-at.result
    (omega (
      arith,
      c.loop-at-test.true,
      same_length c.args.chunks.now c.loop-at.chunks c.loop-at.at c.loop-at.invariant.within
          c.loop-at.invariant.chunks,
    )) c.loop-at.invariant.chunks c.loop-at.invariant.count (part_next c.loop-at.chunks c.loop-at.at
    c.len-len.result c.min-count.result c.index-chunks-at.result c.index-chunks-at-in-loop-at.result c.loop-at-test.true
    c.len-len.ensures.value c.if-count-len.true)

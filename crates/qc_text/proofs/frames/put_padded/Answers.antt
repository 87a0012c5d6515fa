use Rattle.std.proofs.Common.{ℕ, sym, ◌∙◌, ap, ◌++◌, arith, subst}
use Rattle.std.specs.List.{All}
use Rattle.std.proofs.lemmas.Grind.{common_steps}
use Rattle.std.proofs.lemmas.List.{take_all}
use Rattle.std.proofs.lemmas.List.Elements.{All-more}
use Rattle.qc_text.specs.TraceText.{padding_text}
use Rattle.qc_text.proofs.InRange.{IsOwnedInRange, padded_in_range}
use Rattle.qc_text.proofs.TextLemmas.{padded_left}
use Rattle.qc_text.proofs.frames.put_padded.Goals as goal

pub loop-frame-preserved : goal.loop-frame-preserved
loop-frame-preserved c = record {
  written = grind (arith, common_steps);
  short = grind (arith, common_steps);
  in_range = All-more IsOwnedInRange c.args.frames.now c.loop-frame.frame-index c.frame-item.result c.loop-frame-test.true c.loop-frame.invariant.in_range
      (subst IsOwnedInRange c.frame-item.is c.in_ok-run.ensures.in_range);
}

pub returns-clause-text : goal.returns-clause-text
returns-clause-text c =
    let left = padded_left c.loop-frame.out.items c.loop-frame.run c.loop-frame.frame-index c.args.padding c.args.frames.now (omega arith) in
    c.in_ok-put_padding.ensures ∙ ap (λ (n : ℕ). c.loop-frame.out.items ++ padding_text n) (omega arith) ∙ sym left ∙ c.loop-frame.invariant.written

pub returns-clause-in_range : goal.returns-clause-in_range
returns-clause-in_range c = padded_in_range c.args.frames.now c.args.padding (subst (All IsOwnedInRange) (take_all c.loop-frame.frame-index c.args.frames.now c.loop-frame-test.false) c.loop-frame.invariant.in_range)

use Rattle.std.proofs.Common.{◌∙◌, refl, sym, arith}
use Rattle.qc_flight.proofs.Sifting.{sifts_start, sifts_taken, sifts_left, sifts_end, sifts_kept}
use Rattle.qc_flight.proofs.sift.sift.Goals as goal

pub loop-left-init : goal.loop-left-init
loop-left-init g c =
    (sifts_start _ _ _ _ c.requires.order c.requires.empty, refl, refl, omega arith, c.requires.room, omega arith)

pub loop-left-preserved-then-test : goal.loop-left-preserved-then-test
loop-left-preserved-then-test g c =
    let less = c.in-Some.ensures.cases in
    let s = c.loop-left.invariant in (
      sifts_taken _ _ _ _ _ c.in-Some.entry _ _ _ _ _ _ s.0 c.in-Some.ensures.items c.loop-left-test.true (sym c.test.ensures.answer ∙ c.if-test.true) c.test.ensures.later c.push_back_reserved.ensures.items,
      omega arith,
      c.in-Some.ensures.capacity ∙ s.2,
      omega arith,
      omega arith,
      omega arith,
    )

pub loop-left-preserved : goal.loop-left-preserved
loop-left-preserved g c =
    let less = c.in-Some.ensures.cases in
    let s = c.loop-left.invariant in (
      sifts_left _ _ _ _ _ c.in-Some.entry _ _ _ _ _ _ s.0 c.in-Some.ensures.items c.loop-left-test.true (sym c.test.ensures.answer ∙ c.if-test.false) c.test.ensures.later c.push_front_reserved.ensures.items,
      omega arith,
      c.in-Some.ensures.capacity ∙ s.2,
      omega arith,
      omega arith,
      omega arith,
    )

pub returns-clause-sifted : goal.returns-clause-sifted
returns-clause-sifted g c = sifts_end _ _ _ _ _ _ _ _ c.loop-left.invariant.0 (omega arith)

pub returns-clause-kept : goal.returns-clause-kept
returns-clause-kept g c = sifts_kept _ _ _ _ _ _ _ _ c.loop-left.invariant.0 (omega arith)
